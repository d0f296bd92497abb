use Rattle.std.proofs.Common.{◌≡◌, ◌∙◌, ap, subst, true, Some, slice_get}
use Rattle.lpc_ports.specs.Table.{QueuedMessage}
use Rattle.lpc_rows.specs.Names.{stands}
use Rattle.lpc_rows.specs.Shown.{all_pass, birth_of, message_refs, object_stands, shown_message}
use Rattle.lpc_slots.specs.declared.Key.{Key}
use Rattle.lpc_snapshot.proofs.Places.{every_at, kept_at, message_stands, shown_at}
use Rattle.lpc_snapshot.proofs.messages.message_at.Goals as goal

pub returns-clause-row : goal.returns-clause-row
returns-clause-row c =
    let k = kept_at (λ (row : Key × QueuedMessage). row.1) (slice_get c.ports.result.now.messages c.args.place) _ c.message_at.ensures in
    let show = shown_message (birth_of c.args.world.now.births) in
    rw c.ports.ensures.messages (shown_at show c.ports.result.now.messages c.args.place k.0 k.1 ∙ ap (λ (q : QueuedMessage). Some (show (k.0.0, q))) k.2)

pub returns-clause-queue : goal.returns-clause-queue
returns-clause-queue c =
    let k = kept_at (λ (row : Key × QueuedMessage). row.1) (slice_get c.ports.result.now.messages c.args.place) _ c.message_at.ensures in
    let passes = every_at (all_pass message_refs (object_stands c.args.world.now.births)) c.ports.result.now.messages c.args.place k.0 c.ports.ensures.messages_stand k.1 in
    subst (λ (q : QueuedMessage). stands c.args.world.now.births.ports q.queue ≡ true) k.2 (message_stands c.args.world.now.births k.0 passes).0

pub returns-clause-sender : goal.returns-clause-sender
returns-clause-sender c =
    let k = kept_at (λ (row : Key × QueuedMessage). row.1) (slice_get c.ports.result.now.messages c.args.place) _ c.message_at.ensures in
    let passes = every_at (all_pass message_refs (object_stands c.args.world.now.births)) c.ports.result.now.messages c.args.place k.0 c.ports.ensures.messages_stand k.1 in
    subst (λ (q : QueuedMessage). stands c.args.world.now.births.ports q.message.sender ≡ true) k.2 (message_stands c.args.world.now.births k.0 passes).1
