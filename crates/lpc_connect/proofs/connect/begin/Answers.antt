use Rattle.std.proofs.Common.{◌≡◌, ◌∙◌, false, None, Option, ap, refl}
use Rattle.lpc_base.specs.Rows.{change, has}
use Rattle.lpc_base.specs.declared.birth.Birth.{Birth}
use Rattle.lpc_model.specs.Basics.{Awaits, Makes, basic}
use Rattle.lpc_model.specs.Connect.{client_port}
use Rattle.lpc_model.specs.Found.{waits_as}
use Rattle.lpc_model.specs.Tests.{own_wait}
use Rattle.lpc_model.specs.World.{Connect, Offer, ThreadRow, WaitRow, World}
use Rattle.lpc_model.specs.declared.entry.CallName.TheVariants.{NtConnectPort}
use Rattle.lpc_connect.proofs.Begun.{begun, begun-offer, offered-alike, unsent-offer}
use Rattle.lpc_rows.specs.Callers.{shown_caller}
use Rattle.lpc_rows.specs.Clauses.{birth_at}
use Rattle.lpc_rows.specs.Kept.{Kept, is_unsent}
use Rattle.lpc_rows.specs.Names.{name_of}
use Rattle.lpc_rows.specs.Shown.{with_offer}
use Rattle.lpc_steps.proofs.Delivered.{begun-waits}
use Rattle.lpc_steps.specs.Offers.{offer_shown}
use Rattle.lpc_connect.proofs.connect.begin.Goals as goal

pub waits_set_offer-requires-clause-waits : goal.waits_set_offer-requires-clause-waits
waits_set_offer-requires-clause-waits c =
    let made : Kept = c.make_client-port.new.world in
    let by : ThreadRow = shown_caller c.args.by.now in
    let row : WaitRow = own_wait by NtConnectPort (Connect c.args.message.now None) (name_of made.births.ports c.make_client-port.result) (birth_at made c.args.connect.connection) by.next_identifier in
    rw c.wait_with.ensures.step.rows (begun-waits row made.rows.waits)

pub waits_set_offer-requires-clause-first : goal.waits_set_offer-requires-clause-first
waits_set_offer-requires-clause-first c =
    let made : Kept = c.make_client-port.new.world in
    let by : ThreadRow = shown_caller c.args.by.now in
    let row : WaitRow = own_wait by NtConnectPort (Connect c.args.message.now None) (name_of made.births.ports c.make_client-port.result) (birth_at made c.args.connect.connection) by.next_identifier in
    let none : has (waits_as by.number) made.rows.waits ≡ false =
    ap (λ (v : World). has (waits_as by.number) v.waits) c.make_client-port.ensures.rows
    ∙ ap (λ (v : World). has (waits_as by.number) v.waits) c.draw-birth.ensures.rows
    ∙ c.requires.ready in
    begun-offer c.wait_with.new.world.rows made.rows.waits row (ap (λ (v : World). v.waits) c.wait_with.ensures.step.rows) none

pub returns-clause-rows : goal.returns-clause-rows
returns-clause-rows c =
    let old : Kept = c.args.world.now in
    let drew : Kept = c.draw-birth.new.world in
    let made : Kept = c.make_client-port.new.world in
    let waiting : Kept = c.wait_with.new.world in
    let by : ThreadRow = shown_caller c.args.by.now in
    let port : Birth = name_of made.births.ports c.make_client-port.result in
    let queue : Birth = birth_at old c.args.connect.connection in
    let at : birth_at drew c.args.connect.connection ≡ queue = ap (λ n. name_of n.ports c.args.connect.connection) c.draw-birth.ensures.births in
    let shown : offer_shown waiting c.args.connect.offer ≡ offer_shown old c.args.connect.offer =
    offered-alike waiting.births old.births c.args.connect.offer
    (ap (λ n. n.sections) c.wait_with.ensures.step.births ∙ c.make_client-port.ensures.sections ∙ ap (λ n. n.sections) c.draw-birth.ensures.births) in
    begun old.rows drew.rows made.rows waiting.rows c.waits_set_offer.new.self.rows by c.args.message.now port queue (offer_shown old c.args.connect.offer)
    c.draw-birth.ensures.rows
    (c.make_client-port.ensures.rows ∙ ap (λ (b : Birth). basic drew.rows (Makes (client_port by b))) at)
    (c.wait_with.ensures.step.rows ∙ ap (λ (b : Birth). basic made.rows (Awaits (own_wait by NtConnectPort (Connect c.args.message.now None) port b by.next_identifier))) (c.make_client-port.ensures.connection ∙ at))
    (c.waits_set_offer.ensures.step.rows ∙ ap (λ (o : Option Offer). record waiting.rows { waits = change (waits_as by.number) (with_offer o) waiting.rows.waits }) shown)
    c.requires.ready
    (c.make_client-port.ensures.name ∙ c.draw-birth.ensures.birth)

pub returns-clause-unsent : goal.returns-clause-unsent
returns-clause-unsent c =
    ap (λ (v : World). is_unsent v c.args.by.now.number) c.waits_set_offer.ensures.step.rows
    ∙ unsent-offer c.wait_with.new.world.rows c.args.by.now.number (offer_shown c.wait_with.new.world c.args.connect.offer)
    ∙ c.wait_with.ensures.unsent refl
