use Rattle.std.proofs.Common.{sym, ap, ◌∙◌}
use Rattle.lpc_base.specs.declared.status.TheConstants.{INVALID_CID}
use Rattle.lpc_model.specs.declared.entry.Entry.TheVariants.{Busy, Directive}
use Rattle.lpc_model.specs.declared.entry.Word.TheVariants as word
use Rattle.std.specs.Prelude.{true, false}
use Rattle.lpc_rows.specs.Kept.{Kept}
use Rattle.lpc_replay.proofs.Serving.{absent_turn, alone_turn, busy_turn, idle_told}
use Rattle.lpc_replay.proofs.step.turn.Goals as goal

pub returns-then-not-has-clause-rows : goal.returns-then-not-has-clause-rows
returns-then-not-has-clause-rows c = sym (alone_turn c.world.result.now.rows c.args.machine.now.rows c.args.residents.now c.args.tid (ap (λ (k : Kept). k.rows) c.world.ensures.world) (c.world.ensures.settled, c.world.ensures.held) (sym c.has.ensures ∙ c.if-not-has.true)).0.world

pub returns-then-not-has-clause-residents : goal.returns-then-not-has-clause-residents
returns-then-not-has-clause-residents c = sym (alone_turn c.world.result.now.rows c.args.machine.now.rows c.args.residents.now c.args.tid (ap (λ (k : Kept). k.rows) c.world.ensures.world) (c.world.ensures.settled, c.world.ensures.held) (sym c.has.ensures ∙ c.if-not-has.true)).0.residents

pub returns-then-not-has-clause-told : goal.returns-then-not-has-clause-told
returns-then-not-has-clause-told c =
    let t = alone_turn c.world.result.now.rows c.args.machine.now.rows c.args.residents.now c.args.tid (ap (λ (k : Kept). k.rows) c.world.ensures.world) (c.world.ensures.settled, c.world.ensures.held) (sym c.has.ensures ∙ c.if-not-has.true) in
    idle_told c.args.machine.now.rows c.args.residents.now c.args.tid false c.push.new.self.list c.args.out.now.list (Directive word.Turn INVALID_CID) t.0 t.1 c.requires.empty c.push.ensures.list

pub returns-in-Absent-clause-rows : goal.returns-in-Absent-clause-rows
returns-in-Absent-clause-rows c = sym (absent_turn c.world.result.now.rows c.args.machine.now.rows c.args.residents.now c.args.tid (ap (λ (k : Kept). k.rows) c.world.ensures.world) (c.world.ensures.settled, c.world.ensures.held) (sym c.has.ensures ∙ c.if-not-has.false) (sym c.condition_of-condition.ensures ∙ c.in-Absent.is)).0.world

pub returns-in-Absent-clause-residents : goal.returns-in-Absent-clause-residents
returns-in-Absent-clause-residents c = sym (absent_turn c.world.result.now.rows c.args.machine.now.rows c.args.residents.now c.args.tid (ap (λ (k : Kept). k.rows) c.world.ensures.world) (c.world.ensures.settled, c.world.ensures.held) (sym c.has.ensures ∙ c.if-not-has.false) (sym c.condition_of-condition.ensures ∙ c.in-Absent.is)).0.residents

pub returns-in-Absent-clause-told : goal.returns-in-Absent-clause-told
returns-in-Absent-clause-told c =
    let t = absent_turn c.world.result.now.rows c.args.machine.now.rows c.args.residents.now c.args.tid (ap (λ (k : Kept). k.rows) c.world.ensures.world) (c.world.ensures.settled, c.world.ensures.held) (sym c.has.ensures ∙ c.if-not-has.false) (sym c.condition_of-condition.ensures ∙ c.in-Absent.is) in
    idle_told c.args.machine.now.rows c.args.residents.now c.args.tid true c.push-in-Absent.new.self.list c.args.out.now.list (Directive word.Turn INVALID_CID) t.0 t.1 c.requires.empty c.push-in-Absent.ensures.list

pub returns-in-Waits-clause-rows : goal.returns-in-Waits-clause-rows
returns-in-Waits-clause-rows c = sym (busy_turn c.world.result.now.rows c.args.machine.now.rows c.args.residents.now c.args.tid (ap (λ (k : Kept). k.rows) c.world.ensures.world) (c.world.ensures.settled, c.world.ensures.held) (sym c.has.ensures ∙ c.if-not-has.false) (sym c.condition_of-condition.ensures ∙ c.in-Waits.is)).0.world

pub returns-in-Waits-clause-residents : goal.returns-in-Waits-clause-residents
returns-in-Waits-clause-residents c = sym (busy_turn c.world.result.now.rows c.args.machine.now.rows c.args.residents.now c.args.tid (ap (λ (k : Kept). k.rows) c.world.ensures.world) (c.world.ensures.settled, c.world.ensures.held) (sym c.has.ensures ∙ c.if-not-has.false) (sym c.condition_of-condition.ensures ∙ c.in-Waits.is)).0.residents

pub returns-in-Waits-clause-told : goal.returns-in-Waits-clause-told
returns-in-Waits-clause-told c =
    let t = busy_turn c.world.result.now.rows c.args.machine.now.rows c.args.residents.now c.args.tid (ap (λ (k : Kept). k.rows) c.world.ensures.world) (c.world.ensures.settled, c.world.ensures.held) (sym c.has.ensures ∙ c.if-not-has.false) (sym c.condition_of-condition.ensures ∙ c.in-Waits.is) in
    idle_told c.args.machine.now.rows c.args.residents.now c.args.tid true c.push-in-Waits.new.self.list c.args.out.now.list (Busy c.args.tid) t.0 t.1 c.requires.empty c.push-in-Waits.ensures.list
