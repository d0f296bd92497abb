use Rattle.std.proofs.Common.{◌≡◌, ◌∙◌, Some, length, ap, arith, sym}
use Rattle.std.specs.List.{slice_get}
use Rattle.lpc_rows.specs.Shown.{all_pass, birth_of, object_stands, shown_wait, wait_refs}
use Rattle.lpc_slots.specs.Table.{listed}
use Rattle.lpc_waits.specs.Lent.{waiting_of}
use Rattle.lpc_snapshot.proofs.Places.{every_at, held_at, long_held, long_shown, shown_at}
use Rattle.lpc_snapshot.proofs.waits.wait_at.Goals as goal

pub row-requires : goal.row-requires
row-requires c =
    let rows = c.waits.result.now.rows in
    let shown = ap length c.waits.ensures.waits ∙ long_shown (shown_wait (birth_of c.args.world.now.births)) rows in
    let held = long_held waiting_of (listed c.rows.result.now) ∙ ap length c.rows.ensures in
    omega (arith, shown, held, c.requires)

pub returns-clause-row : goal.returns-clause-row
returns-clause-row c =
    let here : slice_get c.waits.result.now.rows c.args.place ≡ Some (waiting_of c.row.result.1.now) = ap (λ rows. slice_get rows c.args.place) (sym c.rows.ensures) ∙ held_at waiting_of (listed c.rows.result.now) c.args.place _ _ c.row.ensures in
    rw c.waits.ensures.waits (shown_at (shown_wait (birth_of c.args.world.now.births)) c.waits.result.now.rows c.args.place _ here)

pub returns-clause-refs : goal.returns-clause-refs
returns-clause-refs c =
    let here : slice_get c.waits.result.now.rows c.args.place ≡ Some (waiting_of c.row.result.1.now) = ap (λ rows. slice_get rows c.args.place) (sym c.rows.ensures) ∙ held_at waiting_of (listed c.rows.result.now) c.args.place _ _ c.row.ensures in
    every_at (all_pass wait_refs (object_stands c.args.world.now.births)) c.waits.result.now.rows c.args.place _ c.waits.ensures.stand here
