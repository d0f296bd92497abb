use Rattle.std.proofs.Common.{ap, sym, ◌∙◌, List}
use Rattle.lpc_model.specs.Basics.{Basic}
use Rattle.lpc_model.specs.Lines.{ScriptCall, call_of}
use Rattle.lpc_model.specs.World.{World}
use Rattle.lpc_rows.specs.Does.{left_by}
use Rattle.lpc_machine.proofs.Called.{busy, called}
use Rattle.lpc_machine.proofs.machine.run.Goals as goal

pub serve-requires-clause-can : goal.serve-requires-clause-can
serve-requires-clause-can c = let t = c.requires.settled.lawful in record { pairs = t.linked.pairs; single_closings = t.single_closings }

pub serve-requires-clause-ends : goal.serve-requires-clause-ends
serve-requires-clause-ends c = let t = c.requires.settled.lawful in record {
  close = record { sound = t.sound; linked = t.linked; single_closings = t.single_closings };
  threads = t.threads;
  registrations = t.registrations;
  single = t.single;
}

pub serve-requires-clause-views : goal.serve-requires-clause-views
serve-requires-clause-views c = c.requires.settled.lawful.sound_views

pub serve-requires-clause-offers : goal.serve-requires-clause-offers
serve-requires-clause-offers c = c.requires.settled.lawful.sound_offers

pub returns-in-Waits-clause-takes : goal.returns-in-Waits-clause-takes
returns-in-Waits-clause-takes c =
    let w : World = c.args.world.now.rows in
    let call : ScriptCall = call_of c.args.call.now in
    rw (c.push-in-Waits.ensures.list) (ap (λ (bs : List Basic). left_by w c.args.out.now.list c.args.world.now.loose bs) (sym (busy w c.args.tid call (sym c.condition_of.ensures ∙ c.in-Waits.is))))

pub returns-in_ok-serve-in-Ready-clause-takes : goal.returns-in_ok-serve-in-Ready-clause-takes
returns-in_ok-serve-in-Ready-clause-takes c =
    let w : World = c.args.world.now.rows in
    let call : ScriptCall = call_of c.args.call.now in
    c.in_ok-serve-in-Ready.ensures.serves.takes ∙ ap (λ (bs : List Basic). left_by w c.args.out.now.list c.args.world.now.loose bs) (sym (called w c.args.tid call (sym c.condition_of.ensures ∙ c.in-Ready.is)))

pub serve-requires-clause-unmarked : goal.serve-requires-clause-unmarked
serve-requires-clause-unmarked c = c.requires.settled.lawful.settled.marks
