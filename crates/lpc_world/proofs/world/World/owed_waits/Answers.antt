use Rattle.std.proofs.Common.{refl, sym, ◌∙◌, arith}
use Rattle.lpc_rows.specs.Kept.{is_alive}
use Rattle.std.proofs.lemmas.List.{length-map}
use Rattle.lpc_rows.specs.Shown.{birth_of, births_of, shown_thread, shown_wait, tables_of}
use Rattle.lpc_rows.proofs.Readings as readings
use Rattle.lpc_world.proofs.world.World.owed_waits.Goals as goal

pub returns-clause-owed : goal.returns-clause-owed
returns-clause-owed c =
    let alive = c.alive.ensures.count ∙ sym (readings.count-shown shown_thread (λ t. t.live) is_alive (λ t. refl) c.self.inside.procs.threads) in
    let other = length-map c.self.inside.waits.rows (shown_wait (birth_of (births_of (tables_of c.self.inside.procs c.self.inside.parts.items c.self.inside.ports c.self.inside.waits c.self.inside.names c.self.inside.sections c.self.inside.tokens c.self.inside.token_names c.self.inside.marks)))) in
    rw (← c.self.view_is) (omega (arith, alive, other, c.count.ensures, c.saturating_sub.ensures))

pub returns-clause-few : goal.returns-clause-few
returns-clause-few c =
    let threads = length-map c.self.inside.procs.threads shown_thread in
    rw (← c.self.view_is) (omega (arith, threads, c.alive.ensures.bound, c.self.invariant.kept.lawful.rows, c.saturating_sub.ensures))
