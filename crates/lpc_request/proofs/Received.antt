-- A reply that is made, and then the oldest message taken or a wait begun: the steps in the order of the definition,
-- and what they leave in the order in which they are taken.
use Rattle.std.proofs.Common.{◌≡◌, ℕ, List, [], ◌∷◌, ◌++◌, Bool, true, false, Option, Some, None, refl, ap, sym, ◌∙◌, append_assoc}
use Rattle.lpc_base.specs.Rows.{when}
use Rattle.lpc_base.specs.declared.birth.Birth.{Birth}
use Rattle.lpc_model.specs.declared.entry.Entry.{Entry}
use Rattle.lpc_model.specs.World.{World, MessageRow}
use Rattle.lpc_model.specs.Message.{asks, message_of}
use Rattle.lpc_model.specs.Basics.{Basic, Marks, Receives, Takes, Tells, Wakes, basic, entries_of, world_after}
use Rattle.lpc_model.specs.Sweep.{loosened}
use Rattle.lpc_model.specs.declared.entry.CallName.{CallName}
use Rattle.lpc_model.specs.declared.entry.Field.{Field}
use Rattle.lpc_base.specs.declared.status.Status.{Status}
use Rattle.lpc_model.proofs.Sound.Reply.{reply-holds}
use Rattle.lpc_model.specs.Entering.{take_steps}
use Rattle.lpc_request.specs.Replied.{replied_steps}
use Rattle.lpc_request.specs.declared.receive.Replied.{Replied}
use Rattle.lpc_rows.specs.Does.{Left, left_by}
use Rattle.lpc_rows.specs.Ready.{waiter}

-- a message less changes no wait
replied-same : (w : World) (q : Birth) (replied : Option Replied) → replied_steps (basic w (Takes q)) replied ≡ replied_steps w replied
unfolding waiter
replied-same w q None = refl
replied-same w q (Some r) = refl

append-one : (es : List Entry) (own : Entry) (others : List Entry) → es ++ own ∷ others ≡ (es ++ own ∷ []) ++ others
append-one es own others = sym (append_assoc es (own ∷ []) others)

-- the receipt of a message, whose sender waits for an answer or doesn't
abbrev received-if : MessageRow → Bool → List Basic
received-if m a = when a (Receives m.message.header.client.thread m.queue ∷ [])

-- a message is taken behind a step, or that step is taken behind it
abbrev TakesBehind : World → List Entry → Bool → Entry → MessageRow → Bool → Basic → Type 0
TakesBehind w es loose own m a b =
    left_by w es loose (Tells own ∷ b ∷ Takes m.queue ∷ received-if m a)
    ≡ record { world = world_after (world_after (basic w (Takes m.queue)) (b ∷ [])) (received-if m a); entries = (es ++ own ∷ []) ++ entries_of (b ∷ []); loose = true }

behind-wake : (w : World) (es : List Entry) (loose : Bool) (own : Entry) (m : MessageRow) (a : Bool) (who : ℕ) (call : CallName) (s : Status) (fields : List Field) → TakesBehind w es loose own m a (Wakes who call s fields)
behind-wake w es loose own m true who call s fields = λ i. record { world = world_after (world_after (basic w (Takes m.queue)) (Wakes who call s fields ∷ [])) (received-if m true); entries = append-one es own (entries_of (Wakes who call s fields ∷ [])) i; loose = true }
behind-wake w es loose own m false who call s fields = λ i. record { world = world_after (basic w (Takes m.queue)) (Wakes who call s fields ∷ []); entries = append-one es own (entries_of (Wakes who call s fields ∷ [])) i; loose = true }

behind-mark : (w : World) (es : List Entry) (loose : Bool) (own : Entry) (m : MessageRow) (a : Bool) (who : ℕ) → TakesBehind w es loose own m a (Marks who)
behind-mark w es loose own m true who = λ i. record { world = world_after (world_after (basic w (Takes m.queue)) (Marks who ∷ [])) (received-if m true); entries = append-one es own [] i; loose = true }
behind-mark w es loose own m false who = λ i. record { world = world_after (basic w (Takes m.queue)) (Marks who ∷ []); entries = append-one es own [] i; loose = true }

taken-by : (w : World) (es : List Entry) (loose : Bool) (own : Entry) (replied : Option Replied) (m : MessageRow) (a : Bool)
    → left_by w es loose (Tells own ∷ replied_steps w replied ++ Takes m.queue ∷ received-if m a)
    ≡ record { world = world_after (world_after (basic w (Takes m.queue)) (replied_steps w replied)) (received-if m a); entries = (es ++ own ∷ []) ++ entries_of (replied_steps w replied); loose = true }
taken-by w es loose own None m true = λ i. record { world = world_after (basic w (Takes m.queue)) (received-if m true); entries = append-one es own [] i; loose = true }
taken-by w es loose own None m false = λ i. record { world = basic w (Takes m.queue); entries = append-one es own [] i; loose = true }
taken-by w es loose own (Some r) m a = reply-holds (TakesBehind w es loose own m a) (waiter w r.thread) (message_of r.message.now) (λ s fields. behind-wake w es loose own m a _ _ s fields) (behind-mark w es loose own m a _)

-- behind a message that was taken, a reply leaves the mark that a row went
still-loose : (w : World) (es : List Entry) (replied : Option Replied) → (left_by w es true (replied_steps w replied)).loose ≡ true
still-loose w es None = refl
still-loose w es (Some r) = reply-holds (λ b. loosened true (b ∷ []) ≡ true) (waiter w r.thread) (message_of r.message.now) (λ s fields. refl) refl

-- what a taken message leaves, behind a reply
pub taken : (w : World) (es : List Entry) (loose : Bool) (own : Entry) (replied : Option Replied) (m : MessageRow) (a : Bool) (pulled answered after : World) (list : List Entry) (mark last_mark : Bool)
    → asks m.message ≡ a → pulled ≡ basic w (Takes m.queue) → let mid : Left = record { world = answered; entries = list; loose = mark } in mid ≡ left_by pulled (es ++ own ∷ []) true (replied_steps pulled replied)
    → after ≡ world_after answered (received-if m a) → last_mark ≡ mark
    → let end : Left = record { world = after; entries = list; loose = last_mark } in end ≡ left_by w es loose (Tells own ∷ replied_steps w replied ++ take_steps m)
taken w es loose own replied m a pulled answered after list mark last_mark asked pull made last marked =
    let steps : replied_steps pulled replied ≡ replied_steps w replied = ap (λ (v : World). replied_steps v replied) pull ∙ replied-same w m.queue replied in
    let world_is : answered ≡ world_after (basic w (Takes m.queue)) (replied_steps w replied) = ap (λ (s : Left). s.world) made ∙ ap (λ (v : World). world_after v (replied_steps pulled replied)) pull ∙ ap (λ bs. world_after (basic w (Takes m.queue)) bs) steps in
    let list_is : list ≡ (es ++ own ∷ []) ++ entries_of (replied_steps w replied) = ap (λ (s : Left). s.entries) made ∙ ap (λ bs. (es ++ own ∷ []) ++ entries_of bs) steps in
    let mark_is : last_mark ≡ true = marked ∙ ap (λ (s : Left). s.loose) made ∙ still-loose pulled (es ++ own ∷ []) replied in
    let end_is : after ≡ world_after (world_after (basic w (Takes m.queue)) (replied_steps w replied)) (received-if m a) = last ∙ ap (λ (v : World). world_after v (received-if m a)) world_is in
    (λ i. record { world = end_is i; entries = list_is i; loose = mark_is i })
    ∙ sym (taken-by w es loose own replied m a)
    ∙ ap (λ b. left_by w es loose (Tells own ∷ replied_steps w replied ++ Takes m.queue ∷ received-if m b)) (sym asked)
