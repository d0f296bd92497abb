use Rattle.std.proofs.Common.{◌≡◌, true, false, ap, sym, ◌∙◌}
use Rattle.std.specs.Prelude.{is_some, option_copied}
use Rattle.lpc_base.proofs.RowMaps.{some-map}
use Rattle.lpc_waits.specs.Table.{WaitingThread, row_of}
use Rattle.lpc_rows.specs.Shown.{tables_of}
use Rattle.lpc_rows.proofs.Readings as readings
use Rattle.lpc_world.proofs.world.World.waiting.Goals as goal

pub unreachable-requires : goal.unreachable-requires
unreachable-requires c =
    let there = rw (← c.self.view_is) at c.requires in
    let none : is_some (row_of c.self.inside.waits c.args.tid) ≡ false = sym (some-map (λ (r : WaitingThread). r.wait) (row_of c.self.inside.waits c.args.tid)) ∙ sym (ap is_some c.of.ensures.value) ∙ ap (λ o. is_some (option_copied o)) c.in-None.is in
    let some : is_some (row_of c.self.inside.waits c.args.tid) ≡ true = sym (readings.waits_are (tables_of c.self.inside.procs c.self.inside.parts.items c.self.inside.ports c.self.inside.waits c.self.inside.names c.self.inside.sections c.self.inside.tokens c.self.inside.token_names c.self.inside.marks) c.self.invariant.kept.named c.args.tid) ∙ there in
    absurd (cc)

pub returns-clause-wait : goal.returns-clause-wait
returns-clause-wait c =
    rw (← c.self.view_is) (readings.is_wait (tables_of c.self.inside.procs c.self.inside.parts.items c.self.inside.ports c.self.inside.waits c.self.inside.names c.self.inside.sections c.self.inside.tokens c.self.inside.token_names c.self.inside.marks) c.self.invariant.kept.named c.self.inside.parts.room c.self.inside.calls c.self.inside.made c.self.inside.loose c.args.tid c.in-Some.wait.now (sym c.of.ensures.value ∙ ap (λ o. option_copied o) c.in-Some.is))

pub returns-clause-apart : goal.returns-clause-apart
returns-clause-apart c = rw (← c.self.view_is) c.self.invariant.kept.named.ports_apart
