-- A message that enters a queue and is taken at once, and a wait that begins with a message.
use Rattle.std.proofs.Common.{◌≡◌, ℕ, ◌+◌, List, [], ◌∷◌, ◌++◌, Bool, true, false, length, Option, Some, refl, ap, sym, subst, ◌∙◌, arith}
use Rattle.std.specs.Prelude.{not, ◌==◌, ◌&&◌, ◌||◌}
use Rattle.std.proofs.lemmas.Bool.Decides.{nat_tests}
use Rattle.std.proofs.lemmas.Bool.{and_parts}
use Rattle.lpc_base.specs.declared.birth.Birth.{Birth}
use Rattle.lpc_base.specs.declared.status.TheConstants.{SUCCESS}
use Rattle.lpc_base.specs.Rows.{change, first, given, has, when, without, without_first}
use Rattle.lpc_base.proofs.Differ.{differ-change}
use Rattle.lpc_base.proofs.RowWords.{has-change, has-push, length-change}
use Rattle.lpc_base.proofs.Births.{birth-same, birth-self}
use Rattle.lpc_model.specs.declared.entry.CallName.{CallName}
use Rattle.lpc_model.specs.declared.entry.Entry.{Entry}
use Rattle.lpc_model.specs.declared.entry.Field.{Field}
use Rattle.lpc_model.specs.declared.message.Message.{Message}
use Rattle.lpc_model.specs.World.{World, Accepted, Connect, Event, Listen, MessageRow, Receive, Request, WaitKind, WaitRow}
use Rattle.lpc_model.specs.Message.{asks, is_connection_request}
use Rattle.lpc_model.specs.Found.{is_listen, is_mark, is_queued, is_queued_connect, is_receive, same_birth, waits_as, waits_at}
use Rattle.lpc_model.specs.Basics.{Basic, Enters, Receives, Wakes, basic, entries_of, received, told, world_after}
use Rattle.lpc_model.specs.Fields.{msg, receipt}
use Rattle.lpc_model.specs.Entering.{enter, given_steps, received_steps, shown, take_connect_steps, take_steps, takes, woken}
use Rattle.lpc_model.specs.Sweep.{loosened, loosens}
use Rattle.lpc_model.proofs.Steps.InTurn.{after-append}
use Rattle.lpc_rows.specs.Does.{Left, left_by}
use Rattle.lpc_rows.specs.Kept.{has_queued, is_unsent, pends_as}
use Rattle.lpc_rows.specs.Lawful.{are_single, is_quiet}
use Rattle.lpc_rows.specs.Shown.{with_message}
use Rattle.lpc_steps.proofs.Endings.{length-rest}
use Rattle.lpc_rows.proofs.Changes.{pending_kept}

-- a message that enters a queue where none like it stands is the one that is taken
taken-at-once : (p : MessageRow → Bool) (m : MessageRow) (ms : List MessageRow) → p m ≡ true → has p ms ≡ false → without_first p (ms ++ m ∷ []) ≡ ms
taken-at-once p m [] own none = grind (arith, own)
taken-at-once p m (x ∷ ms) own none = grind (arith, taken-at-once p m ms)

taken-by : (w : World) (m : MessageRow) (p : MessageRow → Bool) → p m ≡ true → has p w.messages ≡ false → record w { messages = without_first p (w.messages ++ m ∷ []) } ≡ w
taken-by w m p own none = ap (λ (ms : List MessageRow). record w { messages = ms }) (taken-at-once p m w.messages own none)

-- the queue of a waiter that takes the message is the message's
pub taker-queue : (m : MessageRow) (x : WaitRow) → takes m x ≡ true → x.queue ≡ m.queue
taker-queue m x h = birth-same x.queue m.queue (and_parts (is_receive x || (is_listen x && is_connection_request m.message)) (same_birth x.queue m.queue) h).1

-- what the waiter takes, the message has entered for
passed-as : (w : World) (m : MessageRow) (k : WaitKind) (q : Birth) → q ≡ m.queue
    → ((elim k [ Receive ↦ true | _ ↦ false ]) || ((elim k [ Listen ↦ true | _ ↦ false ]) && is_connection_request m.message)) && same_birth q m.queue ≡ true
    → not ((elim k [ Receive ↦ true | _ ↦ false ]) && has (is_queued q) w.messages) && not ((elim k [ Listen ↦ true | _ ↦ false ]) && has (is_queued_connect q) w.messages) ≡ true
    → world_after (basic w (Enters m)) (elim k [ Listen ↦ take_connect_steps m | _ ↦ take_steps m ]) ≡ world_after w (received_steps m)
passed-as w m (Request n) q own takes quiet = absurd (cc)
passed-as w m Receive q own takes quiet =
    let none : has (is_queued m.queue) w.messages ≡ false = subst (λ (b : Birth). has (is_queued b) w.messages ≡ false) own (off (has (is_queued q) w.messages) quiet) in
    ap (λ (v : World). world_after v (received_steps m)) (taken-by w m (is_queued m.queue) (birth-self m.queue) none)
  where
    off : (b : Bool) → not b && true ≡ true → b ≡ false
    off true h = absurd (cc)
    off false h = refl
passed-as w m Listen q own takes quiet =
    let none : has (is_queued_connect m.queue) w.messages ≡ false = subst (λ (b : Birth). has (is_queued_connect b) w.messages ≡ false) own (off (has (is_queued_connect q) w.messages) quiet) in
    let asks : is_connection_request m.message ≡ true = (and_parts (is_connection_request m.message) (same_birth q m.queue) takes).0 in
    ap (λ (v : World). world_after v (received_steps m)) (taken-by w m (is_queued_connect m.queue) (rw (birth-self m.queue, asks) refl) none)
  where
    off : (b : Bool) → not b ≡ true → b ≡ false
    off true h = absurd (cc)
    off false h = refl
passed-as w m (Connect n offer) q own takes quiet = absurd (cc)
passed-as w m (Accepted n reply) q own takes quiet = absurd (cc)
passed-as w m (Event r) q own takes quiet = absurd (cc)

pub passed : (w : World) (m : MessageRow) (x : WaitRow) → takes m x ≡ true → is_quiet w.messages x ≡ true → world_after w (Enters m ∷ given_steps x m) ≡ world_after w (received_steps m)
passed w m x takes quiet = passed-as w m x.kind x.queue (taker-queue m x takes) takes quiet

pub passed-asking : (w : World) (m : MessageRow) (x : WaitRow) → takes m x ≡ true → is_quiet w.messages x ≡ true → asks m.message ≡ true → world_after w (Enters m ∷ given_steps x m) ≡ basic w (Receives m.message.header.client.thread m.queue)
passed-asking w m x takes quiet asked = passed w m x takes quiet ∙ ap (λ a. world_after w (when a (Receives m.message.header.client.thread m.queue ∷ []))) asked

pub passed-other : (w : World) (m : MessageRow) (x : WaitRow) → takes m x ≡ true → is_quiet w.messages x ≡ true → asks m.message ≡ false → world_after w (Enters m ∷ given_steps x m) ≡ w
passed-other w m x takes quiet other = passed w m x takes quiet ∙ ap (λ a. world_after w (when a (Receives m.message.header.client.thread m.queue ∷ []))) other

-- when the wait of the thread that takes it has ended, there is a wait less
pub one-fewer : (w : World) (m : MessageRow) (x : WaitRow) (tid : ℕ) → takes m x ≡ true → is_quiet w.messages x ≡ true → are_single w.waits ≡ true → has (waits_as tid) w.waits ≡ true
    → (let v = world_after w (Enters m ∷ given_steps x m) in length (without (waits_as tid) v.waits) + 1 ≡ length w.waits)
one-fewer w m x tid takes quiet single there = ap (λ (v : World). length (without (waits_as tid) v.waits) + 1) (passed w m x takes quiet) ∙ by_asking (asks m.message)
  where
    by_asking : (a : Bool) → (let v = world_after w (when a (Receives m.message.header.client.thread m.queue ∷ [])) in length (without (waits_as tid) v.waits) + 1 ≡ length w.waits)
    by_asking false = length-rest w.waits tid single there
    by_asking true =
        let at = waits_at m.message.header.client.thread m.queue in
        length-rest (change at received w.waits) tid (differ-change (λ (y : WaitRow). y.thread) at received (λ y. refl) w.waits single) (has-change (waits_as tid) at received (λ y. refl) w.waits ∙ there)
        ∙ length-change at received w.waits

-- the steps of a message that a waiting thread takes
silent-receipt : (who : ℕ) (q : Birth) (a : Bool) (bs : List Basic) → entries_of (when a (Receives who q ∷ []) ++ bs) ≡ entries_of bs
silent-receipt who q true bs = refl
silent-receipt who q false bs = refl

-- and what loosens: the message that was taken may have named its sender
loose-receipt : (who : ℕ) (q : Birth) (l a : Bool) (bs : List Basic) → loosened l (when a (Receives who q ∷ []) ++ bs) ≡ loosened l bs
loose-receipt who q l true bs = refl
loose-receipt who q l false bs = refl

silent-given : (x : WaitRow) (m : MessageRow) (bs : List Basic) → entries_of (given_steps x m ++ bs) ≡ entries_of bs
silent-given x m bs = by_kind x.kind
  where
    by_kind : (k : WaitKind) → entries_of ((elim k [ Listen ↦ take_connect_steps m | _ ↦ take_steps m ]) ++ bs) ≡ entries_of bs
    by_kind (Request n) = silent-receipt m.message.header.client.thread m.queue (asks m.message) bs
    by_kind Receive = silent-receipt m.message.header.client.thread m.queue (asks m.message) bs
    by_kind Listen = silent-receipt m.message.header.client.thread m.queue (asks m.message) bs
    by_kind (Connect n offer) = silent-receipt m.message.header.client.thread m.queue (asks m.message) bs
    by_kind (Accepted n reply) = silent-receipt m.message.header.client.thread m.queue (asks m.message) bs
    by_kind (Event r) = silent-receipt m.message.header.client.thread m.queue (asks m.message) bs

loose-given : (x : WaitRow) (m : MessageRow) (l : Bool) (wake : Basic) → loosens wake ≡ true → loosened l (given_steps x m ++ wake ∷ []) ≡ true
loose-given x m l wake is = by_kind x.kind
  where
    last : (l : Bool) → (loosens wake || l) ≡ true
    last l = rw is refl

    by_kind : (k : WaitKind) → loosened l ((elim k [ Listen ↦ take_connect_steps m | _ ↦ take_steps m ]) ++ wake ∷ []) ≡ true
    by_kind (Request n) = loose-receipt m.message.header.client.thread m.queue true (asks m.message) (wake ∷ []) ∙ last true
    by_kind Receive = loose-receipt m.message.header.client.thread m.queue true (asks m.message) (wake ∷ []) ∙ last true
    by_kind Listen = loose-receipt m.message.header.client.thread m.queue true (asks m.message) (wake ∷ []) ∙ last true
    by_kind (Connect n offer) = loose-receipt m.message.header.client.thread m.queue true (asks m.message) (wake ∷ []) ∙ last true
    by_kind (Accepted n reply) = loose-receipt m.message.header.client.thread m.queue true (asks m.message) (wake ∷ []) ∙ last true
    by_kind (Event r) = loose-receipt m.message.header.client.thread m.queue true (asks m.message) (wake ∷ []) ∙ last true

pub entered : (w : World) (es : List Entry) (loose : Bool) (m : MessageRow) (x : WaitRow) → first (takes m) w.waits ≡ Some x
    → left_by w es loose (enter m w)
    ≡ record { world = basic (world_after w (Enters m ∷ given_steps x m)) (Wakes x.thread x.call SUCCESS (shown x m)); entries = es ++ told (Wakes x.thread x.call SUCCESS (shown x m)); loose = true }
entered w es loose m x found =
    let wake : Basic = Wakes x.thread x.call SUCCESS (shown x m) in
    ap (λ (o : Option WaitRow). left_by w es loose (Enters m ∷ given o (λ y. given_steps y m ++ woken SUCCESS (shown y m) y ∷ []))) found
    ∙ (λ i. record { world = after-append (basic w (Enters m)) (given_steps x m) (wake ∷ []) i; entries = es ++ silent-given x m (wake ∷ []) i; loose = loose-given x m loose wake refl i })

-- what a waiter is shown, by its kind
pub shown-listen : (x : WaitRow) (m : MessageRow) → is_listen x ≡ true → shown x m ≡ msg m.message ∷ []
shown-listen x m is = by_kind x.kind is
  where
    by_kind : (k : WaitKind) → (elim k [ Listen ↦ true | _ ↦ false ]) ≡ true → (elim k [ Listen ↦ msg m.message ∷ [] | _ ↦ receipt m ]) ≡ msg m.message ∷ []
    by_kind Listen h = refl
    by_kind b h = absurd (cc)

pub shown-other : (x : WaitRow) (m : MessageRow) → is_listen x ≡ false → shown x m ≡ receipt m
shown-other x m is = by_kind x.kind is
  where
    by_kind : (k : WaitKind) → (elim k [ Listen ↦ true | _ ↦ false ]) ≡ false → (elim k [ Listen ↦ msg m.message ∷ [] | _ ↦ receipt m ]) ≡ receipt m
    by_kind Listen h = absurd (cc)
    by_kind b h = refl

-- a wait that begins, and is changed at once
pub begun-waits : (x : WaitRow) (xs : List WaitRow) → has (waits_as x.thread) (xs ++ x ∷ []) ≡ true
begun-waits x xs = has-push (waits_as x.thread) xs x (grind (arith, nat_tests))

pub begun-change : (f : WaitRow → WaitRow) (x : WaitRow) (xs : List WaitRow) → has (waits_as x.thread) xs ≡ false → change (waits_as x.thread) f (xs ++ x ∷ []) ≡ xs ++ f x ∷ []
begun-change f x [] none = let own : (x.thread == x.thread) ≡ true = grind (arith, nat_tests) in grind (arith, own)
begun-change f x (y ∷ xs) none = grind (arith, begun-change f x xs)

-- and its thread is as it was where it waits for a message that is to be sent
pub unsent-message : (w : World) (who : ℕ) (m : Message) → is_unsent (record w { waits = change (waits_as who) (with_message m) w.waits }) who ≡ is_unsent w who
unsent-message w who m =
    ap (λ b. b && not (has_queued w who) && not (has (is_mark who) w.marks)) (has-change (pends_as who) (waits_as who) (with_message m) (λ x. ap (λ b. waits_as who x && b) (pending_kept m x)) w.waits)

-- the message has entered, and its taker was told
pub delivered : (w passed after : World) (es list : List Entry) (before loose : Bool) (m : MessageRow) (x : WaitRow) (tid : ℕ) (call : CallName) (fields : List Field)
    → first (takes m) w.waits ≡ Some x → x.thread ≡ tid → call ≡ x.call → fields ≡ shown x m
    → passed ≡ world_after w (Enters m ∷ given_steps x m) → after ≡ basic passed (Wakes tid call SUCCESS fields) → list ≡ es ++ told (Wakes tid call SUCCESS fields) → loose ≡ true
    → let end : Left = record { world = after; entries = list; loose = loose } in end ≡ left_by w es before (enter m w)
delivered w passed after es list before loose m x tid call fields found own name shows pass wake told_is went =
    let wakes : Wakes tid call SUCCESS fields ≡ Wakes x.thread x.call SUCCESS (shown x m) = λ i. Wakes (sym own i) (name i) SUCCESS (shows i) in
    let world_is : after ≡ basic (world_after w (Enters m ∷ given_steps x m)) (Wakes x.thread x.call SUCCESS (shown x m)) = wake ∙ (λ i. basic (pass i) (wakes i)) in
    let list_is : list ≡ es ++ told (Wakes x.thread x.call SUCCESS (shown x m)) = told_is ∙ ap (λ (b : Basic). es ++ told b) wakes in
    (λ i. record { world = world_is i; entries = list_is i; loose = went i }) ∙ sym (entered w es before m x found)
