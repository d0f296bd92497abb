-- What is remembered fits each message that is taken.
use Rattle.std.proofs.Common.{◌≡◌, ◌≤◌, ℕ, List, [], ◌∷◌, ◌++◌, Bool, true, false, not, Option, Some, None, refl, ap, sym, subst, ◌∙◌, arith}
use Rattle.std.specs.Prelude.{◌||◌, ◌==◌}
use Rattle.std.proofs.lemmas.Bool.{and_from, eqb-true}
use Rattle.std.proofs.lemmas.Bool.Decides.{nat_tests}
use Rattle.lpc_base.specs.Rows.{count, every, first, given, when}
use Rattle.lpc_base.proofs.RowWords.{every-more, first-passes}
use Rattle.lpc_base.proofs.RowMaps.{every-both, every-first}
use Rattle.lpc_base.proofs.Bools.{first-true, number-turned, second-true}
use Rattle.lpc_base.specs.declared.status.TheConstants.{SUCCESS}
use Rattle.lpc_model.specs.Message.{asks}
use Rattle.lpc_model.specs.World.{Birth, Listen, MessageRow, WaitKind, WaitRow, World}
use Rattle.lpc_model.specs.Found.{same_birth, waits_as}
use Rattle.lpc_model.specs.Basics.{Basic, Enters, Receives, Takes, TakesConnect, basic, world_after}
use Rattle.lpc_model.specs.Entering.{enter, given_steps, shown, take_connect_steps, take_steps, takes, woken}
use Rattle.lpc_model.proofs.Steps.Rows.{lone}
use Rattle.lpc_model.specs.Circle.{Group, owner}
use Rattle.lpc_isolation.proofs.Views.View.{of_birth}
use Rattle.lpc_isolation.proofs.Rows.Fair.{is_sent, sent-owner}
use Rattle.lpc_isolation.proofs.Views.Apart.{Owned, is_owned, owned-by}
use Rattle.lpc_isolation.proofs.Rows.Asked.{Asked, has_own, is_own, sender_of}
use Rattle.lpc_isolation.proofs.Memory.Heard.{Heard, recall}
use Rattle.lpc_isolation.proofs.Memory.Knows.{AllKnown, are_known, is_known, is_told}

-- the waits of a thread are on a queue; they are of a process
abbrev pub is_on : ℕ → Birth → WaitRow → Bool
is_on who q x = not (waits_as who x) || same_birth x.queue q

abbrev pub is_by : ℕ → ℕ → WaitRow → Bool
is_by who pid x = not (waits_as who x) || (x.process == pid)

-- the sender of a queued message that asks waits on its queue, and is of the process that the message names
pub asker-on : (w : World) (test : MessageRow → Bool) (y : MessageRow) → Asked w → ((tid : ℕ) → count (waits_as tid) w.waits ≤ 1) → first test w.messages ≡ Some y → asks y.message ≡ true → every (is_on (sender_of y) y.queue) w.waits ≡ true
asker-on w test y a once at asked = own (first (is_own y) w.waits) refl (every-first (has_own w.waits) test w.messages y a.own at)
  where
    own : (o : Option WaitRow) → first (is_own y) w.waits ≡ o → has_own w.waits y ≡ true → every (is_on (sender_of y) y.queue) w.waits ≡ true
    own None none is = let off : (not (asks y.message) || false) ≡ true = rw none at is in absurd (grind arith)
    own (Some z) some is =
        let passed = first-passes (is_own y) w.waits z some in
        lone (waits_as (sender_of y)) (λ x. same_birth x.queue y.queue) (is_own y) w.waits z (once (sender_of y)) some (first-true _ _ passed) (first-true _ _ (second-true _ _ passed))

pub asker-by : (w : World) (y : MessageRow) → Owned w w → is_sent w.used_threads y ≡ true → every (is_by (sender_of y) y.message.header.client.process) w.waits ≡ true
asker-by w y owned sent = every-more (is_owned w) (is_by (sender_of y) y.message.header.client.process) (λ x own. at x (waits_as (sender_of y) x) refl own) w.waits owned
  where
    own-process : (x : WaitRow) → x.thread ≡ sender_of y → is_owned w x ≡ true → (x.process == y.message.header.client.process) ≡ true
    own-process x same own =
        let here : owner w x.thread ≡ Some y.message.header.client.process = ap (owner w) same ∙ sent-owner w y sent in
        let process : y.message.header.client.process ≡ x.process = owned-by w x y.message.header.client.process here own in
        rw process (grind (arith, nat_tests))

    at : (x : WaitRow) (b : Bool) → waits_as (sender_of y) x ≡ b → is_owned w x ≡ true → is_by (sender_of y) y.message.header.client.process x ≡ true
    at x true its own = rw its (own-process x (eqb-true _ _ its) own)
    at x false off own = rw off refl

-- what is remembered of a thread is right where it waits on an outsider's queue, where it is a member's, and where it was
-- remembered
pub told-outside : (m : Group) (memo : List Heard) (who : ℕ) (q : Birth) (xs : List WaitRow) → m q.process ≡ false → every (is_on who q) xs ≡ true → every (is_told m memo who) xs ≡ true
told-outside m memo who q xs out all = every-more (is_on who q) (is_told m memo who) (λ x on. at x (waits_as who x) refl on) xs all
  where
    at : (x : WaitRow) (b : Bool) → waits_as who x ≡ b → is_on who q x ≡ true → is_told m memo who x ≡ true
    at x true its on = let x_out : m x.queue.process ≡ false = of_birth m x.queue q (grind arith) ∙ out in grind arith
    at x false off on = rw off refl

pub told-inside : (m : Group) (memo : List Heard) (who pid : ℕ) (xs : List WaitRow) → m pid ≡ true → every (is_by who pid) xs ≡ true → every (is_told m memo who) xs ≡ true
told-inside m memo who pid xs inside all = every-more (is_by who pid) (is_told m memo who) (λ x own. at x (waits_as who x) refl own) xs all
  where
    at : (x : WaitRow) (b : Bool) → waits_as who x ≡ b → is_by who pid x ≡ true → is_told m memo who x ≡ true
    at x true its own = let x_in : m x.process ≡ true = ap m (eqb-true x.process pid (grind arith)) ∙ inside in grind arith
    at x false off own = rw off refl

recall-newest : (memo : List Heard) (who : ℕ) (q : Birth) → recall (record { thread = who; queue = q } ∷ memo) who ≡ Some q
recall-newest memo who q = let self : (who == who) ≡ true = grind (arith, nat_tests) in rw self refl

pub told-noted : (m : Group) (memo : List Heard) (who : ℕ) (q : Birth) (xs : List WaitRow) → every (is_on who q) xs ≡ true → every (is_told m (record { thread = who; queue = q } ∷ memo) who) xs ≡ true
told-noted m memo who q xs all = every-more (is_on who q) (is_told m (record { thread = who; queue = q } ∷ memo) who) (λ x on. at x (waits_as who x) refl on) xs all
  where
    at : (x : WaitRow) (b : Bool) → waits_as who x ≡ b → is_on who q x ≡ true → is_told m (record { thread = who; queue = q } ∷ memo) who x ≡ true
    at x true its on =
        let here : same_birth x.queue q ≡ true = grind arith in
        let same : recall (record { thread = who; queue = q } ∷ memo) x.thread ≡ Some q = subst (λ n. recall (record { thread = who; queue = q } ∷ memo) n ≡ Some q) (sym (eqb-true x.thread who its)) (recall-newest memo who q) in
        rw (same, here) (grind arith)
    at x false off on = rw off refl

pub note-known : (m : Group) (memo : List Heard) (who : ℕ) (q : Birth) (w : World) → every (is_on who q) w.waits ≡ true → AllKnown m memo w → AllKnown m (record { thread = who; queue = q } ∷ memo) w
note-known m memo who q w on all = every-both (is_known m memo) (is_on who q) (is_known m (record { thread = who; queue = q } ∷ memo)) (λ x known here. at x (who == x.thread) refl known here) w.waits all on
  where
    at : (x : WaitRow) (b : Bool) → (who == x.thread) ≡ b → is_known m memo x ≡ true → is_on who q x ≡ true → is_known m (record { thread = who; queue = q } ∷ memo) x ≡ true
    at x true its known here =
        let back : waits_as who x ≡ true = sym (number-turned who x.thread) ∙ its in
        let queue : same_birth x.queue q ≡ true = grind arith in
        rw (its, queue) (grind arith)
    at x false off known here = rw off known

-- Lists of steps
pub known-append : (m : Group) (memo : List Heard) (w : World) (bs cs : List Basic) → are_known m memo w bs ≡ true → are_known m memo (world_after w bs) cs ≡ true → are_known m memo w (bs ++ cs) ≡ true
known-append m memo w [] cs one two = two
known-append m memo w (b ∷ bs) cs one two = and_from _ _ (first-true _ _ one) (known-append m memo (basic w b) bs cs (second-true _ _ one) two)

-- what is remembered is right for a message
abbrev pub Fits : Group → List Heard → World → MessageRow → Type 0
Fits m memo v y = asks y.message ≡ true → every (is_told m memo (sender_of y)) v.waits ≡ true

when-known : (m : Group) (memo : List Heard) (v : World) (y : MessageRow) (asked : Bool) (rest : List Basic) → asks y.message ≡ asked → Fits m memo v y → ((u : World) → are_known m memo u rest ≡ true) → are_known m memo v (when asked (Receives (sender_of y) y.queue ∷ []) ++ rest) ≡ true
when-known m memo v y true rest is fits later = and_from _ _ (fits is) (later (basic v (Receives (sender_of y) y.queue)))
when-known m memo v y false rest is fits later = later v

when-alone : (m : Group) (memo : List Heard) (v : World) (y : MessageRow) (asked : Bool) → asks y.message ≡ asked → Fits m memo v y → are_known m memo v (when asked (Receives (sender_of y) y.queue ∷ [])) ≡ true
when-alone m memo v y true is fits = and_from _ _ (fits is) refl
when-alone m memo v y false is fits = refl

pub take-known : (m : Group) (memo : List Heard) (v : World) (y : MessageRow) → Fits m memo v y → are_known m memo v (take_steps y) ≡ true
take-known m memo v y fits = when-alone m memo (basic v (Takes y.queue)) y (asks y.message) refl fits

pub take_connect-known : (m : Group) (memo : List Heard) (v : World) (y : MessageRow) → Fits m memo v y → are_known m memo v (take_connect_steps y) ≡ true
take_connect-known m memo v y fits = when-alone m memo (basic v (TakesConnect y.queue)) y (asks y.message) refl fits

given-known : (m : Group) (memo : List Heard) (v : World) (y : MessageRow) (z : WaitRow) (b : Basic) (sort : WaitKind) → z.kind ≡ sort → Fits m memo v y → ((u : World) → are_known m memo u (b ∷ []) ≡ true) → are_known m memo v (given_steps z y ++ b ∷ []) ≡ true
given-known m memo v y z b Listen is fits later = rw is (when-known m memo (basic v (TakesConnect y.queue)) y (asks y.message) (b ∷ []) refl fits later)
given-known m memo v y z b e is fits later = rw is (when-known m memo (basic v (Takes y.queue)) y (asks y.message) (b ∷ []) refl fits later)

entered-known : (m : Group) (memo : List Heard) (v : World) (y : MessageRow) (o : Option WaitRow) → ((z : WaitRow) → o ≡ Some z → Fits m memo v y) → are_known m memo v (Enters y ∷ given o (λ z. given_steps z y ++ woken SUCCESS (shown z y) z ∷ [])) ≡ true
entered-known m memo v y None fits = refl
entered-known m memo v y (Some z) fits = given-known m memo (basic v (Enters y)) y z (woken SUCCESS (shown z y) z) z.kind refl (fits z refl) (λ u. refl)

-- a message that enters a queue needs it only where someone takes it there
pub enter-known : (m : Group) (memo : List Heard) (v : World) (y : MessageRow) → ((z : WaitRow) → first (takes y) v.waits ≡ Some z → Fits m memo v y) → are_known m memo v (enter y v) ≡ true
enter-known m memo v y fits = entered-known m memo v y (first (takes y) v.waits) fits
