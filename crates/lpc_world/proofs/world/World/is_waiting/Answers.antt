use Rattle.std.proofs.Common.{ap, sym, ◌∙◌}
use Rattle.std.specs.Prelude.{is_some, option_copied}
use Rattle.lpc_base.proofs.RowMaps.{some-map}
use Rattle.lpc_waits.specs.Table.{WaitingThread, row_of}
use Rattle.lpc_rows.specs.Kept.{rows_by}
use Rattle.lpc_rows.specs.Shown.{tables_of}
use Rattle.lpc_rows.proofs.OwnMessages.{none-queued}
use Rattle.lpc_rows.proofs.Readings as readings
use Rattle.lpc_world.proofs.world.World.is_waiting.Goals as goal

pub returns-in-Some-clause-waits : goal.returns-in-Some-clause-waits
returns-in-Some-clause-waits c =
    rw (← c.self.view_is) (sym (readings.waits_are (tables_of c.self.inside.procs c.self.inside.parts.items c.self.inside.ports c.self.inside.waits c.self.inside.names c.self.inside.sections c.self.inside.tokens c.self.inside.token_names c.self.inside.marks) c.self.invariant.kept.named c.args.tid ∙ sym (some-map (λ (r : WaitingThread). r.wait) (row_of c.self.inside.waits c.args.tid)) ∙ sym (ap is_some c.of.ensures.value) ∙ ap (λ o. is_some (option_copied o)) c.in-Some.is))

pub returns-in-Some-clause-single : goal.returns-in-Some-clause-single
returns-in-Some-clause-single c =
    rw (← c.self.view_is) c.self.invariant.kept.lawful.single

pub returns-in-None-clause-waits : goal.returns-in-None-clause-waits
returns-in-None-clause-waits c =
    rw (← c.self.view_is) (sym (readings.waits_are (tables_of c.self.inside.procs c.self.inside.parts.items c.self.inside.ports c.self.inside.waits c.self.inside.names c.self.inside.sections c.self.inside.tokens c.self.inside.token_names c.self.inside.marks) c.self.invariant.kept.named c.args.tid ∙ sym (some-map (λ (r : WaitingThread). r.wait) (row_of c.self.inside.waits c.args.tid)) ∙ sym (ap is_some c.of.ensures.value) ∙ ap (λ o. is_some (option_copied o)) c.in-None.is))

pub returns-in-None-clause-single : goal.returns-in-None-clause-single
returns-in-None-clause-single c =
    rw (← c.self.view_is) c.self.invariant.kept.lawful.single

pub returns-in-Some-clause-own : goal.returns-in-Some-clause-own
returns-in-Some-clause-own c = rw (← c.self.view_is) (record { left = λ who idle. none-queued (rows_by (tables_of c.self.inside.procs c.self.inside.parts.items c.self.inside.ports c.self.inside.waits c.self.inside.names c.self.inside.sections c.self.inside.tokens c.self.inside.token_names c.self.inside.marks)) who c.self.invariant.kept.lawful.own idle })

pub returns-in-None-clause-own : goal.returns-in-None-clause-own
returns-in-None-clause-own c = rw (← c.self.view_is) (record { left = λ who idle. none-queued (rows_by (tables_of c.self.inside.procs c.self.inside.parts.items c.self.inside.ports c.self.inside.waits c.self.inside.names c.self.inside.sections c.self.inside.tokens c.self.inside.token_names c.self.inside.marks)) who c.self.invariant.kept.lawful.own idle })
