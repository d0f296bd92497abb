use Rattle.std.proofs.Common.{◌≡◌, drop}
use Rattle.std.specs.Prelude.{◌&&◌}
use Rattle.std.specs.List.{list_all}
use Rattle.lpc_model.specs.Grammar.{is_printable}
use Rattle.lpc_script.proofs.read.is_printable_run.Given as goal

-- what was found so far, and what is left
abbrev pub invariant-loop-byte : goal.invariant-loop-byte
invariant-loop-byte l = (l.printable && list_all is_printable (drop l.byte-index l.text)) ≡ list_all is_printable l.text
