-- A message that is taken, in a view.
use Rattle.std.proofs.Common.{◌≡◌, ℕ, List, [], ◌∷◌, Bool, true, false, Some, refl, ap, ◌∙◌, arith}
use Rattle.std.specs.Prelude.{◌&&◌, ◌==◌}
use Rattle.std.proofs.lemmas.Bool.{eqb-true}
use Rattle.lpc_base.specs.Rows.{first, when}
use Rattle.lpc_base.proofs.Bools.{first-true}
use Rattle.lpc_base.proofs.Births.{birth-same}
use Rattle.lpc_message.specs.Layout.{header_of}
use Rattle.lpc_model.specs.declared.entry.Field.{Field}
use Rattle.lpc_model.specs.declared.entry.Value.{Value}
use Rattle.lpc_model.specs.declared.entry.Value.TheVariants.{Bytes, Hex, Kind, Number, Read, Sids, TokenGroups}
use Rattle.lpc_model.specs.Fields.{msg, receipt}
use Rattle.lpc_model.specs.Message.{asks, bytes_of}
use Rattle.lpc_model.specs.World.{Birth, MessageRow, World}
use Rattle.lpc_model.specs.Found.{is_queued, is_queued_connect}
use Rattle.lpc_model.specs.Basics.{Receives, Takes, TakesConnect, basic, entries_of, world_after}
use Rattle.lpc_model.specs.Entering.{take_connect_steps, take_steps}
use Rattle.lpc_model.specs.Circle.{Group, Whose}
use Rattle.lpc_isolation.proofs.Views.Filters.{first-where}
use Rattle.lpc_isolation.proofs.Views.View.{our_message, view}
use Rattle.lpc_isolation.proofs.Views.Basics.{are_ours, basic-unseen, sees_at}
use Rattle.lpc_isolation.proofs.Rows.Fair.{Fair, are_fair, is_fair_message, is_sent, sent-owner, together}
use Rattle.lpc_isolation.proofs.Views.Apart.{Owned, are_apart, unseen-at, unseen-queue, unseen-wait}

-- the message is what is taken of a queue: the first that passes a test
abbrev pub IsFirst : World → (MessageRow → Bool) → MessageRow → Type 0
IsFirst w test x = first test w.messages ≡ Some x

-- a member's to a member, an outsider's from its own queue
when-ours : (m : Group) (w : World) (asked : Bool) (who : ℕ) (q : Birth) → are_ours m w (when asked (Receives who q ∷ [])) ≡ true
when-ours m w true who q = refl
when-ours m w false who q = refl

pub take-ours : (m : Group) (w : World) (x : MessageRow) → IsFirst w (is_queued x.queue) x → our_message m x ≡ true → are_ours m w (take_steps x) ≡ true
take-ours m w x at ours = rw (at, ours) (when-ours m (basic w (Takes x.queue)) (asks x.message) x.message.header.client.thread x.queue)

pub take_connect-ours : (m : Group) (w : World) (x : MessageRow) → IsFirst w (is_queued_connect x.queue) x → our_message m x ≡ true → are_ours m w (take_connect_steps x) ≡ true
take_connect-ours m w x at ours = rw (at, ours) (when-ours m (basic w (TakesConnect x.queue)) (asks x.message) x.message.header.client.thread x.queue)

when-fair : (m : Group) (c : ℕ) (w : World) (asked : Bool) (who : ℕ) (q : Birth) → are_fair m c w (when asked (Receives who q ∷ [])) ≡ true
when-fair m c w true who q = refl
when-fair m c w false who q = refl

pub take-fair : (m : Group) (c : ℕ) (w : World) (x : MessageRow) → are_fair m c w (take_steps x) ≡ true
take-fair m c w x = when-fair m c (basic w (Takes x.queue)) (asks x.message) x.message.header.client.thread x.queue

pub take_connect-fair : (m : Group) (c : ℕ) (w : World) (x : MessageRow) → are_fair m c w (take_connect_steps x) ≡ true
take_connect-fair m c w x = when-fair m c (basic w (TakesConnect x.queue)) (asks x.message) x.message.header.client.thread x.queue

when-apart : (m : Group) (c : ℕ) (u : World) (d : Whose) (w : World) (asked : Bool) (who : ℕ) (q : Birth) → sees_at m w who q ≡ false → are_apart m c u d w (when asked (Receives who q ∷ [])) ≡ true
when-apart m c u d w true who q out = rw out refl
when-apart m c u d w false who q out = refl

queue-out : (m : Group) (x : MessageRow) → m x.queue.process ≡ false → our_message m x ≡ false
queue-out m x out = at (m x.sender.process)
  where
    at : (b : Bool) → (b && m x.queue.process) ≡ false
    at true = out
    at false = refl

pub take-apart : (m : Group) (c : ℕ) (u : World) (d : Whose) (w : World) (x : MessageRow) → IsFirst w (is_queued x.queue) x → m x.queue.process ≡ false → are_apart m c u d w (take_steps x) ≡ true
take-apart m c u d w x at out = rw (at, queue-out m x out) (when-apart m c u d (basic w (Takes x.queue)) (asks x.message) x.message.header.client.thread x.queue (unseen-queue m (basic w (Takes x.queue)) x.message.header.client.thread x.queue out))

pub take_connect-apart : (m : Group) (c : ℕ) (u : World) (d : Whose) (w : World) (x : MessageRow) → IsFirst w (is_queued_connect x.queue) x → m x.queue.process ≡ false → are_apart m c u d w (take_connect_steps x) ≡ true
take_connect-apart m c u d w x at out = rw (at, queue-out m x out) (when-apart m c u d (basic w (TakesConnect x.queue)) (asks x.message) x.message.header.client.thread x.queue (unseen-queue m (basic w (TakesConnect x.queue)) x.message.header.client.thread x.queue out))

-- an outsider's message, which a member takes
sender-out : (m : Group) (x : MessageRow) → m x.sender.process ≡ false → our_message m x ≡ false
sender-out m x out = rw out refl

unseen-sender : (m : Group) (c : ℕ) (u w : World) (x : MessageRow) → Owned u w → is_sent u.used_threads x ≡ true → is_fair_message m c x ≡ true → m x.sender.process ≡ false → sees_at m w x.message.header.client.thread x.queue ≡ false
unseen-sender m c u w x owned sent fair out =
    let process : m x.message.header.client.process ≡ m x.sender.process = together m _ _ (first-true _ _ fair) in
    unseen-at m w x.message.header.client.thread x.queue (unseen-wait m u w x.message.header.client.thread x.message.header.client.process owned (sent-owner u x sent) (process ∙ out))

when-gone : (m : Group) (w : World) (asked : Bool) (who : ℕ) (q : Birth) → sees_at m w who q ≡ false → view m (world_after w (when asked (Receives who q ∷ []))) ≡ view m w
when-gone m w true who q out = basic-unseen m w (Receives who q) out refl
when-gone m w false who q out = refl

pub take-gone : (m : Group) (c : ℕ) (u w : World) (x : MessageRow) → Owned u w → is_sent u.used_threads x ≡ true → is_fair_message m c x ≡ true → IsFirst w (is_queued x.queue) x → m x.sender.process ≡ false → view m (world_after w (take_steps x)) ≡ view m w
take-gone m c u w x owned sent fair at out =
    when-gone m (basic w (Takes x.queue)) (asks x.message) x.message.header.client.thread x.queue (unseen-sender m c u (basic w (Takes x.queue)) x owned sent fair out)
    ∙ basic-unseen m w (Takes x.queue) (rw (at, sender-out m x out) refl) refl

pub take_connect-gone : (m : Group) (c : ℕ) (u w : World) (x : MessageRow) → Owned u w → is_sent u.used_threads x ≡ true → is_fair_message m c x ≡ true → IsFirst w (is_queued_connect x.queue) x → m x.sender.process ≡ false → view m (world_after w (take_connect_steps x)) ≡ view m w
take_connect-gone m c u w x owned sent fair at out =
    when-gone m (basic w (TakesConnect x.queue)) (asks x.message) x.message.header.client.thread x.queue (unseen-sender m c u (basic w (TakesConnect x.queue)) x owned sent fair out)
    ∙ basic-unseen m w (TakesConnect x.queue) (rw (at, sender-out m x out) refl) refl

-- nobody is told of a taking
when-silent : (asked : Bool) (who : ℕ) (q : Birth) → entries_of (when asked (Receives who q ∷ [])) ≡ []
when-silent true who q = refl
when-silent false who q = refl

pub take-silent : (x : MessageRow) → entries_of (take_steps x) ≡ []
take-silent x = when-silent (asks x.message) x.message.header.client.thread x.queue

pub take_connect-silent : (x : MessageRow) → entries_of (take_connect_steps x) ≡ []
take_connect-silent x = when-silent (asks x.message) x.message.header.client.thread x.queue

-- whose message an entry shows
abbrev pub bytes_in : Value → List ℕ
bytes_in (Bytes b) = b.items
bytes_in (Number n) = []
bytes_in (Hex n) = []
bytes_in (Kind kind) = []
bytes_in Read = []
bytes_in (Sids s) = []
bytes_in TokenGroups = []

abbrev pub shown_bytes : List Field → List ℕ
shown_bytes [] = []
shown_bytes (f ∷ []) = bytes_in f.value
shown_bytes (f ∷ g ∷ fs) = shown_bytes (g ∷ fs)

abbrev pub shown_process : List Field → ℕ
shown_process fields = (header_of (shown_bytes fields)).client.process

-- a message that can be read back
abbrev pub is_readable : MessageRow → Bool
is_readable x = (header_of (bytes_of x.message)).client.process == x.message.header.client.process

pub shows-receipt : (x : MessageRow) → is_readable x ≡ true → shown_process (receipt x) ≡ x.message.header.client.process
shows-receipt x is = eqb-true _ _ is

pub shows-message : (x : MessageRow) → is_readable x ≡ true → shown_process (msg x.message ∷ []) ≡ x.message.header.client.process
shows-message x is = eqb-true _ _ is

-- what c's queue holds is in the view
pub c-first : (m : Group) (c : ℕ) (w : World) (q : Birth) (test : MessageRow → Bool) → m c ≡ true → Fair m c w → (q.process == c) ≡ true → ((x : MessageRow) → test x ≡ true → is_queued q x ≡ true) → first test (view m w).messages ≡ first test w.messages
c-first m c w q test c_in f mine queued = first-where (is_fair_message m c) (our_message m) test (λ x fair is.
    let same : x.queue ≡ q = birth-same x.queue q (queued x is) in
    let own : (x.queue.process == c) ≡ true = ap (λ (b : Birth). b.process == c) same ∙ mine in
    let own_in : m x.queue.process ≡ true = ap m (eqb-true _ _ own) ∙ c_in in
    grind arith) w.messages f.messages
