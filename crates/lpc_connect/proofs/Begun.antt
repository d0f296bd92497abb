-- A connect that begins: its wait is made first, and offers something then.
use Rattle.std.proofs.Common.{◌≡◌, ℕ, List, [], ◌∷◌, ◌++◌, true, false, Option, Some, None, option_map, refl, ap, ◌∙◌, arith}
use Rattle.std.specs.Prelude.{not, ◌&&◌, ◌==◌}
use Rattle.std.proofs.lemmas.Bool.Decides.{nat_tests}
use Rattle.lpc_base.specs.Rows.{change, first, has}
use Rattle.lpc_base.specs.declared.birth.Birth.{Birth}
use Rattle.lpc_base.proofs.RowWords.{first-push, has-change}
use Rattle.lpc_model.specs.Basics.{Awaits, Basic, DrawsIdentifier, DrawsOrdinal, Makes, basic, world_after}
use Rattle.lpc_model.specs.Connect.{client_port, connect_wait}
use Rattle.lpc_model.specs.Found.{is_mark, offer_of, waits_as}
use Rattle.lpc_model.specs.Tests.{next_birth, own_wait}
use Rattle.lpc_model.specs.World.{Accepted, Connect, Event, Listen, Offer, PortRow, Receive, Request, ThreadRow, WaitKind, WaitRow, World}
use Rattle.lpc_model.specs.declared.entry.CallName.TheVariants.{NtConnectPort}
use Rattle.lpc_model.specs.declared.message.Message.{Message}
use Rattle.lpc_rows.specs.Kept.{has_queued, is_pending, is_unsent, pends_as}
use Rattle.lpc_rows.specs.Ready.{wait_in, waiter}
use Rattle.lpc_rows.specs.Names.{Names, name_of}
use Rattle.lpc_rows.specs.Shown.{Births, birth_of, shown_offer, with_offer}
use Rattle.lpc_steps.proofs.Delivered.{begun-change}
use Rattle.lpc_waits.specs.declared.Offer as waits

-- the wait that has just begun is the one that is found
pub begun-offer : (w : World) (xs : List WaitRow) (x : WaitRow) → w.waits ≡ xs ++ x ∷ [] → has (waits_as x.thread) xs ≡ false → offer_of (waiter w x.thread) ≡ offer_of x
unfolding waiter
begun-offer w xs x begun none =
    let own : (x.thread == x.thread) ≡ true = grind (arith, nat_tests) in
    ap (λ (ys : List WaitRow). offer_of (wait_in (first (waits_as x.thread) ys))) begun
    ∙ ap (λ (o : Option WaitRow). offer_of (wait_in o)) (first-push (waits_as x.thread) xs x none own)

-- a wait for an answer stays one where its connect offers something
pending-offer : (o : Option Offer) (x : WaitRow) → is_pending (with_offer o x) ≡ is_pending x
pending-offer o x = by x.kind
  where
    by : (kind : WaitKind) → let old : WaitRow = record x { kind = kind } in is_pending (with_offer o old) ≡ is_pending old
    by (Request m) = refl
    by Receive = refl
    by Listen = refl
    by (Connect m old) = refl
    by (Accepted m a) = refl
    by (Event r) = refl

-- and its message is in no queue, as before
pub unsent-offer : (w : World) (who : ℕ) (o : Option Offer) → is_unsent (record w { waits = change (waits_as who) (with_offer o) w.waits }) who ≡ is_unsent w who
unsent-offer w who o =
    ap (λ b. b && not (has_queued w who) && not (has (is_mark who) w.marks)) (has-change (pends_as who) (waits_as who) (with_offer o) (λ x. ap (λ b. waits_as who x && b) (pending-offer o x)) w.waits)

-- a section has the same name wherever sections have the same births
pub offered-alike : (n k : Births) (offer : Option waits.Offer) → n.sections ≡ k.sections → option_map (shown_offer (birth_of n)) offer ≡ option_map (shown_offer (birth_of k)) offer
offered-alike n k None same = refl
offered-alike n k (Some o) same = ap (λ (names : Names). Some (record { section = name_of names o.section; offset = o.offset; size = o.size })) same

-- the thread drew, made its client port, began to wait there, and offered something then
pub begun : (w drew made waiting offering : World) (by : ThreadRow) (m : Message) (port queue : Birth) (o : Option Offer)
    → drew ≡ world_after w (DrawsIdentifier by.number ∷ DrawsOrdinal by.number ∷ [])
    → made ≡ basic drew (Makes (client_port by queue))
    → waiting ≡ basic made (Awaits (own_wait by NtConnectPort (Connect m None) port queue by.next_identifier))
    → offering ≡ record waiting { waits = change (waits_as by.number) (with_offer o) waiting.waits }
    → has (waits_as by.number) w.waits ≡ false → port ≡ next_birth by
    → offering ≡ world_after w (DrawsIdentifier by.number ∷ DrawsOrdinal by.number ∷ Makes (client_port by queue) ∷ Awaits (connect_wait by queue o m) ∷ [])
begun w drew made waiting offering by m port queue o draw make wait offer none own =
    let draws : List Basic = DrawsIdentifier by.number ∷ DrawsOrdinal by.number ∷ [] in
    let port_row : PortRow = client_port by queue in
    let left : World = basic (world_after w draws) (Makes port_row) in
    let row : WaitRow = own_wait by NtConnectPort (Connect m None) port queue by.next_identifier in
    let before : made ≡ left = make ∙ ap (λ (v : World). basic v (Makes port_row)) draw in
    let waits_is : waiting ≡ basic left (Awaits row) = wait ∙ ap (λ (v : World). basic v (Awaits row)) before in
    offer
    ∙ ap (λ (v : World). record v { waits = change (waits_as by.number) (with_offer o) v.waits }) waits_is
    ∙ ap (λ (xs : List WaitRow). record left { waits = xs }) (begun-change (with_offer o) row w.waits none)
    ∙ ap (λ (b : Birth). basic left (Awaits (own_wait by NtConnectPort (Connect m o) b queue by.next_identifier))) own
