use Rattle.std.proofs.Common.{ap, ◌∙◌, [], List}
use Rattle.lpc_base.specs.Rows.{change}
use Rattle.lpc_model.specs.Found.{waits_as}
use Rattle.lpc_model.specs.Message.{message_of}
use Rattle.lpc_model.specs.World.{World, WaitRow}
use Rattle.lpc_rows.specs.Shown.{waiting_row, with_message}
use Rattle.lpc_rows.specs.Kept.{is_unsent}
use Rattle.lpc_steps.proofs.Delivered.{begun-change, begun-waits, unsent-message}
use Rattle.lpc_rows.proofs.Rooms.{roomy_then}
use Rattle.lpc_steps.proofs.waiting.wait_with_bytes.Goals as goal

pub waits_set_message-requires-clause-waits : goal.waits_set_message-requires-clause-waits
waits_set_message-requires-clause-waits c = rw c.waits_add.ensures.step.rows (begun-waits (waiting_row c.args.world.now.births c.args.tid c.args.wait []) c.args.world.now.rows.waits)

pub returns-clause-step : goal.returns-clause-step
returns-clause-step c =
    let old : World = c.args.world.now.rows in
    let x : WaitRow = waiting_row c.args.world.now.births c.args.tid c.args.wait [] in
    record {
      rows = c.waits_set_message.ensures.step.rows
          ∙ ap (λ (v : World). record v { waits = change (waits_as c.args.tid) (with_message (message_of c.args.bytes.now)) v.waits }) c.waits_add.ensures.step.rows
          ∙ ap (λ (xs : List WaitRow). record old { waits = xs }) (begun-change (with_message (message_of c.args.bytes.now)) x old.waits c.requires.ready);
      births = c.waits_set_message.ensures.step.births ∙ c.waits_add.ensures.step.births;
      calls = c.waits_set_message.ensures.step.calls ∙ c.waits_add.ensures.step.calls;
      made = c.waits_set_message.ensures.step.made ∙ c.waits_add.ensures.step.made;
      room = roomy_then _ _ _ c.waits_add.ensures.step.room c.waits_set_message.ensures.step.room;
    }

pub returns-clause-unsent : goal.returns-clause-unsent
returns-clause-unsent c = λ pends.
    ap (λ (v : World). is_unsent v c.args.tid) c.waits_set_message.ensures.step.rows
    ∙ unsent-message c.waits_add.new.self.rows c.args.tid (message_of c.args.bytes.now) ∙ c.waits_add.ensures.unsent pends
