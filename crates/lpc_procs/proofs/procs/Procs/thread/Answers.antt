use Rattle.std.proofs.Common.{sym, ap, ◌∙◌, is_some, true≢false}
use Rattle.lpc_procs.proofs.procs.Procs.thread.Goals as goal

pub unreachable-requires : goal.unreachable-requires
unreachable-requires c = true≢false (sym c.requires ∙ ap is_some (sym c.in-None.ensures))

pub returns : goal.returns
returns c = sym c.in-Some.ensures
