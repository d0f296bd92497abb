-- The law on two scripts, in inputs and items that show lines as they are said.
use Rattle.std.proofs.Common.{[], None, map, ap, sym, ◌∙◌}
use Rattle.lpc_model.specs.Script.{script_lines}
use Rattle.lpc_model.specs.Run.{first_state, said_from}
use Rattle.lpc_model.specs.Circle.{Isolation, as_said, members}
use Rattle.lpc_isolation.proofs.Gone.Restored.{agrees_none, restore, restores}
use Rattle.lpc_isolation.proofs.Gone.Swept.{full_law}

pub isolation_law : Isolation
isolation_law group c one two circle_one circle_two same =
    let m = members group in
    let first = restores m c first_state [] (said_from 1 (script_lines one)) (agrees_none m) in
    let second = restores m c first_state [] (said_from 1 (script_lines two)) (agrees_none m) in
    ap (map as_said) (full_law group c one two circle_one circle_two (sym first ∙ ap (restore [] None) same ∙ second))
