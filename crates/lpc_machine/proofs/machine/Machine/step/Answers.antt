use Rattle.lpc_model.specs.Lines.{line_of}
use Rattle.lpc_model.proofs.Sound.Lines.{sound_waits}
use Rattle.lpc_model.proofs.Settling.Deaths.{deaths_told}
use Rattle.lpc_model.proofs.Closings.ToldLines.{closings_told}
use Rattle.std.proofs.Common.{ap, length, ◌∙◌}
use Rattle.lpc_model.specs.World.{World}
use Rattle.lpc_rows.specs.Capacity.{Capacity}
use Rattle.lpc_machine.proofs.Asked.{swept_within}
use Rattle.lpc_machine.proofs.Refused.{refused_stays}
use Rattle.lpc_model.proofs.Runs.{lawful-once, lawful-readied}
use Rattle.lpc_machine.proofs.Settles.{may-settle, settle-begins}
use Rattle.lpc_machine.proofs.Sound as sound
use Rattle.lpc_machine.proofs.Turns.{took-bare}
use Rattle.lpc_machine.proofs.machine.Machine.step.Goals as goal

pub settle-requires-clause-turning : goal.settle-requires-clause-turning
settle-requires-clause-turning c = settle-begins c.self.inside.world c.take.new.world (line_of c.args.line.now) c.args.out.now c.take.new.out c.self.invariant c.in_ok-take.ensures.takes

pub settle-requires-clause-settles : goal.settle-requires-clause-settles
settle-requires-clause-settles c = may-settle c.self.inside.world c.take.new.world (line_of c.args.line.now) c.args.out.now c.take.new.out c.self.invariant c.in_ok-take.ensures.takes c.in_ok-take.ensures.settles

pub sweep-requires-clause-can : goal.sweep-requires-clause-can
sweep-requires-clause-can c = sound.can_sweep c.self.inside.world c.settle.new.world c.args.out.now.list c.settle.new.out.list (line_of c.args.line.now) c.self.invariant c.requires.empty (took-bare (line_of c.args.line.now) c.self.inside.world c.take.new.world c.settle.new.world c.args.out.now c.take.new.out c.settle.new.out c.in_ok-take.ensures.takes c.settle.ensures.took)

pub sweep-requires-clause-still : goal.sweep-requires-clause-still
sweep-requires-clause-still c = sound.is_still c.self.inside.world c.settle.new.world c.args.out.now.list c.settle.new.out.list (line_of c.args.line.now) c.self.invariant c.requires.empty (took-bare (line_of c.args.line.now) c.self.inside.world c.take.new.world c.settle.new.world c.args.out.now c.take.new.out c.settle.new.out c.in_ok-take.ensures.takes c.settle.ensures.took)

pub invariant_of-self-2 : goal.invariant_of-self-2
invariant_of-self-2 c = sound.stays_settled c.self.inside.world c.settle.new.world c.args.out.now.list c.settle.new.out.list (line_of c.args.line.now) c.self.invariant c.requires.empty (took-bare (line_of c.args.line.now) c.self.inside.world c.take.new.world c.settle.new.world c.args.out.now c.take.new.out c.settle.new.out c.in_ok-take.ensures.takes c.settle.ensures.took) c.sweep.new.world c.sweep.ensures.rows c.sweep.ensures.loose

pub returns-clause-rows : goal.returns-clause-rows
returns-clause-rows c = rw (← c.self.view_is) (sound.swept_is c.self.inside.world c.settle.new.world c.args.out.now.list c.settle.new.out.list (line_of c.args.line.now) c.self.invariant c.requires.empty (took-bare (line_of c.args.line.now) c.self.inside.world c.take.new.world c.settle.new.world c.args.out.now c.take.new.out c.settle.new.out c.in_ok-take.ensures.takes c.settle.ensures.took) c.sweep.new.world.rows c.sweep.ensures.rows)

pub returns-clause-told : goal.returns-clause-told
returns-clause-told c = rw (← c.self.view_is) (sound.told_is c.self.inside.world c.settle.new.world c.args.out.now.list c.settle.new.out.list (line_of c.args.line.now) c.self.invariant c.requires.empty (took-bare (line_of c.args.line.now) c.self.inside.world c.take.new.world c.settle.new.world c.args.out.now c.take.new.out c.settle.new.out c.in_ok-take.ensures.takes c.settle.ensures.took))

pub returns-clause-sound : goal.returns-clause-sound
returns-clause-sound c = sound_waits c.sweep.new.world.rows (sound.stays_settled c.self.inside.world c.settle.new.world c.args.out.now.list c.settle.new.out.list (line_of c.args.line.now) c.self.invariant c.requires.empty (took-bare (line_of c.args.line.now) c.self.inside.world c.take.new.world c.settle.new.world c.args.out.now c.take.new.out c.settle.new.out c.in_ok-take.ensures.takes c.settle.ensures.took) c.sweep.new.world c.sweep.ensures.rows c.sweep.ensures.loose).lawful.sound

pub returns-clause-held : goal.returns-clause-held
returns-clause-held c = (sound.stays_settled c.self.inside.world c.settle.new.world c.args.out.now.list c.settle.new.out.list (line_of c.args.line.now) c.self.invariant c.requires.empty (took-bare (line_of c.args.line.now) c.self.inside.world c.take.new.world c.settle.new.world c.args.out.now c.take.new.out c.settle.new.out c.in_ok-take.ensures.takes c.settle.ensures.took) c.sweep.new.world c.sweep.ensures.rows c.sweep.ensures.loose).lawful.held

pub returns-clause-named : goal.returns-clause-named
returns-clause-named c = (sound.stays_settled c.self.inside.world c.settle.new.world c.args.out.now.list c.settle.new.out.list (line_of c.args.line.now) c.self.invariant c.requires.empty (took-bare (line_of c.args.line.now) c.self.inside.world c.take.new.world c.settle.new.world c.args.out.now c.take.new.out c.settle.new.out c.in_ok-take.ensures.takes c.settle.ensures.took) c.sweep.new.world c.sweep.ensures.rows c.sweep.ensures.loose).lawful.names

pub returns-clause-single_closings : goal.returns-clause-single_closings
returns-clause-single_closings c = (sound.stays_settled c.self.inside.world c.settle.new.world c.args.out.now.list c.settle.new.out.list (line_of c.args.line.now) c.self.invariant c.requires.empty (took-bare (line_of c.args.line.now) c.self.inside.world c.take.new.world c.settle.new.world c.args.out.now c.take.new.out c.settle.new.out c.in_ok-take.ensures.takes c.settle.ensures.took) c.sweep.new.world c.sweep.ensures.rows c.sweep.ensures.loose).lawful.single_closings

pub returns-clause-creators : goal.returns-clause-creators
returns-clause-creators c = (sound.stays_settled c.self.inside.world c.settle.new.world c.args.out.now.list c.settle.new.out.list (line_of c.args.line.now) c.self.invariant c.requires.empty (took-bare (line_of c.args.line.now) c.self.inside.world c.take.new.world c.settle.new.world c.args.out.now c.take.new.out c.settle.new.out c.in_ok-take.ensures.takes c.settle.ensures.took) c.sweep.new.world c.sweep.ensures.rows c.sweep.ensures.loose).lawful.creators

pub returns-clause-closings : goal.returns-clause-closings
returns-clause-closings c = rw (← c.self.view_is) (let t = c.self.invariant.lawful in let shut = t.single_closings in closings_told c.self.inside.world.rows (line_of c.args.line.now) t.sound shut.connects (lawful-readied c.self.inside.world.rows (line_of c.args.line.now) t))

pub returns-clause-deaths : goal.returns-clause-deaths
returns-clause-deaths c = rw (← c.self.view_is) (let t = c.self.invariant.lawful in deaths_told c.self.inside.world.rows (line_of c.args.line.now) t.sound t.threads (lawful-once c.self.inside.world.rows (line_of c.args.line.now) t) (lawful-readied c.self.inside.world.rows (line_of c.args.line.now) t))

pub returns-clause-registered : goal.returns-clause-registered
returns-clause-registered c = (sound.stays_settled c.self.inside.world c.settle.new.world c.args.out.now.list c.settle.new.out.list (line_of c.args.line.now) c.self.invariant c.requires.empty (took-bare (line_of c.args.line.now) c.self.inside.world c.take.new.world c.settle.new.world c.args.out.now c.take.new.out c.settle.new.out c.in_ok-take.ensures.takes c.settle.ensures.took) c.sweep.new.world c.sweep.ensures.rows c.sweep.ensures.loose).lawful.registrations

pub returns-clause-once : goal.returns-clause-once
returns-clause-once c = (sound.stays_settled c.self.inside.world c.settle.new.world c.args.out.now.list c.settle.new.out.list (line_of c.args.line.now) c.self.invariant c.requires.empty (took-bare (line_of c.args.line.now) c.self.inside.world c.take.new.world c.settle.new.world c.args.out.now c.take.new.out c.settle.new.out c.in_ok-take.ensures.takes c.settle.ensures.took) c.sweep.new.world c.sweep.ensures.rows c.sweep.ensures.loose).lawful.single

pub returns-clause-settled : goal.returns-clause-settled
returns-clause-settled c = (sound.stays_settled c.self.inside.world c.settle.new.world c.args.out.now.list c.settle.new.out.list (line_of c.args.line.now) c.self.invariant c.requires.empty (took-bare (line_of c.args.line.now) c.self.inside.world c.take.new.world c.settle.new.world c.args.out.now c.take.new.out c.settle.new.out c.in_ok-take.ensures.takes c.settle.ensures.took) c.sweep.new.world c.sweep.ensures.rows c.sweep.ensures.loose).lawful.settled

pub returns-clause-left : goal.returns-clause-left
returns-clause-left c = sound.leaves_nothing c.sweep.new.world (sound.stays_settled c.self.inside.world c.settle.new.world c.args.out.now.list c.settle.new.out.list (line_of c.args.line.now) c.self.invariant c.requires.empty (took-bare (line_of c.args.line.now) c.self.inside.world c.take.new.world c.settle.new.world c.args.out.now c.take.new.out c.settle.new.out c.in_ok-take.ensures.takes c.settle.ensures.took) c.sweep.new.world c.sweep.ensures.rows c.sweep.ensures.loose)

pub returns-clause-refused : goal.returns-clause-refused
returns-clause-refused c = rw (← c.self.view_is) (λ halts. sound.swept_is c.self.inside.world c.settle.new.world c.args.out.now.list c.settle.new.out.list (line_of c.args.line.now) c.self.invariant c.requires.empty (took-bare (line_of c.args.line.now) c.self.inside.world c.take.new.world c.settle.new.world c.args.out.now c.take.new.out c.settle.new.out c.in_ok-take.ensures.takes c.settle.ensures.took) c.sweep.new.world.rows c.sweep.ensures.rows ∙ refused_stays c.self.inside.world.rows (line_of c.args.line.now) c.self.invariant.lawful.settled c.self.invariant.lawful.held halts)

pub returns-in_err-take-clause-left : goal.returns-in_err-take-clause-left
returns-in_err-take-clause-left c = sound.leaves_nothing c.take.new.world (sound.stays_same c.self.inside.world c.take.new.world c.in_err-take.ensures.err c.self.invariant)

pub returns-clause-asked_processes : goal.returns-clause-asked_processes
returns-clause-asked_processes c = rw (← c.self.view_is) (swept_within _ _ _ _ _ _ _ c.take.ensures.asked_processes (ap (λ (m : Capacity). m.processes) c.settle.ensures.capacity) c.sweep.ensures.lives.for_processes (ap (λ (w : World). length w.processes) (sound.rows_are c.self.inside.world c.settle.new.world c.args.out.now.list c.settle.new.out.list (line_of c.args.line.now) c.self.invariant c.requires.empty (took-bare (line_of c.args.line.now) c.self.inside.world c.take.new.world c.settle.new.world c.args.out.now c.take.new.out c.settle.new.out c.in_ok-take.ensures.takes c.settle.ensures.took))))

pub returns-clause-asked_threads : goal.returns-clause-asked_threads
returns-clause-asked_threads c = rw (← c.self.view_is) (swept_within _ _ _ _ _ _ _ c.take.ensures.asked_threads (ap (λ (m : Capacity). m.threads) c.settle.ensures.capacity) c.sweep.ensures.lives.for_threads (ap (λ (w : World). length w.threads) (sound.rows_are c.self.inside.world c.settle.new.world c.args.out.now.list c.settle.new.out.list (line_of c.args.line.now) c.self.invariant c.requires.empty (took-bare (line_of c.args.line.now) c.self.inside.world c.take.new.world c.settle.new.world c.args.out.now c.take.new.out c.settle.new.out c.in_ok-take.ensures.takes c.settle.ensures.took))))
