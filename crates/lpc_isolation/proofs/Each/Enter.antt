-- A message that enters a queue, in a view.
use Rattle.std.proofs.Common.{◌≡◌, ℕ, List, [], ◌∷◌, ◌++◌, Bool, true, false, not, Option, Some, None, refl, ap, sym, ◌∙◌, arith}
use Rattle.std.specs.Prelude.{◌&&◌, ◌||◌, ◌==◌}
use Rattle.std.proofs.lemmas.Bool.{and_from, eqb-true}
use Rattle.lpc_base.specs.Rows.{every, first, given, has, when}
use Rattle.lpc_base.specs.declared.status.TheConstants.{SUCCESS}
use Rattle.lpc_base.proofs.RowWords.{every-more, first-passes, first-push, has_none-more}
use Rattle.lpc_base.proofs.RowMaps.{every-first}
use Rattle.lpc_base.proofs.Bools.{second-true}
use Rattle.lpc_base.proofs.Births.{birth-same, birth-self, birth-turned}
use Rattle.lpc_model.specs.declared.entry.CallName.{CallName}
use Rattle.lpc_model.specs.declared.entry.Field.{Field}
use Rattle.lpc_model.specs.Message.{asks, is_connection_request}
use Rattle.lpc_model.specs.World.{Accepted, Birth, Connect, Listen, MessageRow, Receive, Request, WaitKind, WaitRow, World, Event}
use Rattle.lpc_model.specs.Found.{is_listen, is_queued, is_queued_connect, is_receive, same_birth}
use Rattle.lpc_model.specs.Basics.{Enters, Receives, Wakes, basic}
use Rattle.lpc_model.specs.Entering.{enter, given_steps, shown, takes, woken}
use Rattle.lpc_model.specs.SoundWaits.{HasSoundWaits, has_come, is_sound_as, is_sound_wait}
use Rattle.lpc_model.specs.Circle.{Group}
use Rattle.lpc_isolation.proofs.Views.Filters.{first-where}
use Rattle.lpc_isolation.proofs.Views.View.{of_birth, our_message, our_wait, view}
use Rattle.lpc_isolation.proofs.Views.Basics.{are_ours}
use Rattle.lpc_isolation.proofs.Rows.Fair.{Fair, are_fair, implies, is_fair_message, is_fair_wait, is_sent}

-- a receive or listen whose queue holds nothing that it would take
abbrev pub is_patient : World → WaitRow → Bool
is_patient w x = implies (is_receive x || is_listen x) (not (has_come w x))

abbrev pub Patient : World → Type 0
Patient w = every (is_patient w) w.waits ≡ true

patient-as : (w : World) (x : WaitRow) (k : WaitKind) → x.kind ≡ k → is_sound_as w x k ≡ true → is_patient w x ≡ true
patient-as w x Receive k is = rw k (grind arith)
patient-as w x Listen k is = rw k (grind arith)
patient-as w x b k is = rw k refl

pub sound-patient : (w : World) → HasSoundWaits w → Patient w
sound-patient w s = every-more (is_sound_wait w) (is_patient w) (λ x is. patient-as w x x.kind refl (second-true _ _ is)) w.waits s

-- who takes what enters a member's queue
taker-ours : (m : Group) (c : ℕ) (x : MessageRow) (y : WaitRow) → m x.queue.process ≡ true → is_fair_wait m c y ≡ true → takes x y ≡ true → our_wait m y ≡ true
taker-ours m c x y q_in fair is =
    let here : same_birth y.queue x.queue ≡ true = second-true _ _ is in
    let queue : m y.queue.process ≡ true = of_birth m y.queue x.queue here ∙ q_in in
    let process : (y.queue.process == y.process) ≡ true = grind arith in
    and_from _ _ (sym (ap m (eqb-true _ _ process)) ∙ queue) queue

pub taker-process : (m : Group) (c : ℕ) (x : MessageRow) (y : WaitRow) → is_fair_wait m c y ≡ true → takes x y ≡ true → y.process ≡ x.queue.process
taker-process m c x y fair is =
    let process : (y.queue.process == y.process) ≡ true = grind arith in
    let queue : (y.queue.process == x.queue.process) ≡ true = grind arith in
    sym (eqb-true _ _ process) ∙ eqb-true _ _ queue

pub taker-view : (m : Group) (c : ℕ) (w : World) (x : MessageRow) → Fair m c w → m x.queue.process ≡ true → first (takes x) (view m w).waits ≡ first (takes x) w.waits
taker-view m c w x f q_in = first-where (is_fair_wait m c) (our_wait m) (takes x) (λ y fair is. taker-ours m c x y q_in fair is) w.waits f.waits

pub enter-view : (m : Group) (c : ℕ) (w : World) (x : MessageRow) → Fair m c w → m x.queue.process ≡ true → enter x (view m w) ≡ enter x w
enter-view m c w x f q_in = ap (λ o. Enters x ∷ given o (λ y. given_steps y x ++ woken SUCCESS (shown y x) y ∷ [])) (taker-view m c w x f q_in)

-- what is taken is what entered
queued-off : (x z : MessageRow) (y : WaitRow) → same_birth y.queue x.queue ≡ true → is_receive y ≡ true → takes z y ≡ false → is_queued x.queue z ≡ false
queued-off x z y here kind off = rw (birth-turned z.queue x.queue, sym (birth-same y.queue x.queue here)) (grind arith)

pub receive-first : (w : World) (x : MessageRow) (y : WaitRow) → takes x y ≡ true → is_receive y ≡ true → is_patient w y ≡ true → first (is_queued x.queue) (w.messages ++ x ∷ []) ≡ Some x
receive-first w x y is kind patient =
    let none : has (λ z. takes z y) w.messages ≡ false = grind arith in
    first-push (is_queued x.queue) w.messages x (has_none-more (λ z. takes z y) (is_queued x.queue) (λ z off. queued-off x z y (second-true _ _ is) kind off) w.messages none) (birth-self x.queue)

connect-off : (x z : MessageRow) (y : WaitRow) → same_birth y.queue x.queue ≡ true → is_listen y ≡ true → takes z y ≡ false → is_queued_connect x.queue z ≡ false
connect-off x z y here kind off =
    let turned : same_birth z.queue x.queue ≡ same_birth y.queue z.queue = rw (birth-turned z.queue x.queue, sym (birth-same y.queue x.queue here)) refl in
    rw turned (grind arith)

pub listen-first : (w : World) (x : MessageRow) (y : WaitRow) → takes x y ≡ true → is_receive y ≡ false → is_listen y ≡ true → is_patient w y ≡ true → first (is_queued_connect x.queue) (w.messages ++ x ∷ []) ≡ Some x
listen-first w x y is not_receive kind patient =
    let none : has (λ z. takes z y) w.messages ≡ false = grind arith in
    let asked : is_connection_request x.message ≡ true = grind arith in
    first-push (is_queued_connect x.queue) w.messages x (has_none-more (λ z. takes z y) (is_queued_connect x.queue) (λ z off. connect-off x z y (second-true _ _ is) kind off) w.messages none) (and_from _ _ (birth-self x.queue) asked)

-- a member's message to a member
when-ours : (m : Group) (w : World) (asked : Bool) (who : ℕ) (q : Birth) (who' : ℕ) (call : CallName) (fields : List Field) → are_ours m w (when asked (Receives who q ∷ []) ++ Wakes who' call SUCCESS fields ∷ []) ≡ true
when-ours m w true who q who' call fields = refl
when-ours m w false who q who' call fields = refl

given-ours : (m : Group) (w : World) (x : MessageRow) (y : WaitRow) (k : WaitKind) → y.kind ≡ k → our_message m x ≡ true → takes x y ≡ true → is_patient w y ≡ true → are_ours m (basic w (Enters x)) (given_steps y x ++ woken SUCCESS (shown y x) y ∷ []) ≡ true
given-ours m w x y (Request a) k ours is patient = let off : (false && same_birth y.queue x.queue) ≡ true = rw k at is in absurd (cc)
given-ours m w x y (Event e) k ours is patient = let off : (false && same_birth y.queue x.queue) ≡ true = rw k at is in absurd (cc)
given-ours m w x y Receive k ours is patient = rw (k, receive-first w x y is (rw k refl) patient, ours) (when-ours m _ (asks x.message) _ _ _ _ _)
given-ours m w x y Listen k ours is patient = rw (k, listen-first w x y is (rw k refl) (rw k refl) patient, ours) (when-ours m _ (asks x.message) _ _ _ _ _)
given-ours m w x y (Connect a offer) k ours is patient = let off : (false && same_birth y.queue x.queue) ≡ true = rw k at is in absurd (cc)
given-ours m w x y (Accepted a b) k ours is patient = let off : (false && same_birth y.queue x.queue) ≡ true = rw k at is in absurd (cc)

entered-ours : (m : Group) (w : World) (x : MessageRow) (o : Option WaitRow) → first (takes x) w.waits ≡ o → our_message m x ≡ true → Patient w → are_ours m w (Enters x ∷ given o (λ y. given_steps y x ++ woken SUCCESS (shown y x) y ∷ [])) ≡ true
entered-ours m w x None at ours patient = rw ours refl
entered-ours m w x (Some y) at ours patient =
    rw ours (given-ours m w x y y.kind refl ours (first-passes (takes x) w.waits y at) (every-first (is_patient w) (takes x) w.waits y patient at))

pub enter-ours : (m : Group) (w : World) (x : MessageRow) → our_message m x ≡ true → Patient w → are_ours m w (enter x w) ≡ true
enter-ours m w x ours patient = entered-ours m w x (first (takes x) w.waits) refl ours patient

-- fair steps
given-fair : (m : Group) (c : ℕ) (w : World) (x : MessageRow) (y : WaitRow) (k : WaitKind) (asked : Bool) → y.kind ≡ k → asks x.message ≡ asked → are_fair m c w (given_steps y x ++ woken SUCCESS (shown y x) y ∷ []) ≡ true
given-fair m c w x y (Request a) true k asked = rw (k, asked) refl
given-fair m c w x y (Request a) false k asked = rw (k, asked) refl
given-fair m c w x y (Event e) true k asked = rw (k, asked) refl
given-fair m c w x y (Event e) false k asked = rw (k, asked) refl
given-fair m c w x y Receive true k asked = rw (k, asked) refl
given-fair m c w x y Receive false k asked = rw (k, asked) refl
given-fair m c w x y Listen true k asked = rw (k, asked) refl
given-fair m c w x y Listen false k asked = rw (k, asked) refl
given-fair m c w x y (Connect a offer) true k asked = rw (k, asked) refl
given-fair m c w x y (Connect a offer) false k asked = rw (k, asked) refl
given-fair m c w x y (Accepted a b) true k asked = rw (k, asked) refl
given-fair m c w x y (Accepted a b) false k asked = rw (k, asked) refl

entered-fair : (m : Group) (c : ℕ) (w : World) (x : MessageRow) (o : Option WaitRow) → (is_fair_message m c x && is_sent w.used_threads x) ≡ true → are_fair m c w (Enters x ∷ given o (λ y. given_steps y x ++ woken SUCCESS (shown y x) y ∷ [])) ≡ true
entered-fair m c w x None fair = and_from _ _ fair refl
entered-fair m c w x (Some y) fair = and_from _ _ fair (given-fair m c (basic w (Enters x)) x y y.kind (asks x.message) refl refl)

pub enter-fair : (m : Group) (c : ℕ) (w : World) (x : MessageRow) → (is_fair_message m c x && is_sent w.used_threads x) ≡ true → are_fair m c w (enter x w) ≡ true
enter-fair m c w x fair = entered-fair m c w x (first (takes x) w.waits) fair
