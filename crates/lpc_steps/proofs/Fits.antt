-- The wait of a thread that a message fits, and the one that passes a test which no other thread's waits pass.
use Rattle.std.proofs.Common.{◌≡◌, ℕ, List, [], ◌∷◌, Bool, true, false, cond, not, ◌&&◌, ◌||◌, ◌==◌, Option, Some, None, option_map, refl, ap, sym, subst, ◌∙◌, arith}
use Rattle.std.specs.Prelude.{is_some}
use Rattle.std.proofs.lemmas.Bool.{and_left, eqb-true}
use Rattle.lpc_base.specs.declared.birth.Birth.{Birth}
use Rattle.lpc_base.specs.Rows.{first, has}
use Rattle.lpc_base.proofs.RowWords.{first-passes}
use Rattle.lpc_message.specs.declared.message.ClientId.{ClientId}
use Rattle.lpc_model.specs.World.{Accepted, Connect, Event, Request, WaitKind, WaitRow, World}
use Rattle.lpc_model.specs.Found.{fits_as, wait_of, waits_as}
use Rattle.lpc_rows.specs.Kept.{is_pending}
use Rattle.lpc_rows.specs.Lawful.{are_single}
use Rattle.lpc_rows.specs.Ready.{wait_in, waiter}

-- a wait that a message fits isn't pending
fit_idle : (k : WaitKind) (a b c e f : Bool) → (a && (b && (c && (((elim k [ Request m ↦ true | _ ↦ false ]) || (elim k [ Event r ↦ true | _ ↦ false ])) && (e && f))))) ≡ true
    → ((elim k [ Request m ↦ true | _ ↦ false ]) || ((elim k [ Event r ↦ true | _ ↦ false ]) || ((elim k [ Connect m offer ↦ true | _ ↦ false ]) || (elim k [ Accepted m reply ↦ true | _ ↦ false ])))) && not e ≡ false
fit_idle k a b c true f h = no (elim k [ Request m ↦ true | _ ↦ false ]) ((elim k [ Event r ↦ true | _ ↦ false ]) || ((elim k [ Connect m offer ↦ true | _ ↦ false ]) || (elim k [ Accepted m reply ↦ true | _ ↦ false ])))
  where
    no : (p q : Bool) → (p || q) && false ≡ false
    no true q = refl
    no false true = refl
    no false false = refl
fit_idle k true true true false f h = absurd (off ((elim k [ Request m ↦ true | _ ↦ false ]) || (elim k [ Event r ↦ true | _ ↦ false ])) f h)
  where
    off : (p f : Bool) → p && (false && f) ≡ true → ⊥
    off true f h = absurd (cc)
    off false f h = absurd (cc)
fit_idle k true true false false f h = absurd (cc)
fit_idle k true false c false f h = absurd (cc)
fit_idle k false b c false f h = absurd (cc)

pub fit_off : (w : World) (port : Birth) (client : ClientId) (identifier : ℕ) (x : WaitRow) → fits_as w port client identifier x ≡ true → is_pending x ≡ false
fit_off w port client identifier x h = fit_idle x.kind (x.thread == client.thread) (x.process == client.process) (x.identifier == identifier) x.received _ h

-- What fits is a wait of the thread
fit_thread : (w : World) (port : Birth) (client : ClientId) (identifier : ℕ) (x : WaitRow) → waits_as client.thread x ≡ false → fits_as w port client identifier x ≡ false
fit_thread w port client identifier x off = and_left _ _ off

pub none_fits : (p : WaitRow → Bool) (tid : ℕ) → ((x : WaitRow) → waits_as tid x ≡ false → p x ≡ false) → (xs : List WaitRow) → has (waits_as tid) xs ≡ false → first p xs ≡ None
none_fits p tid off [] none = refl
none_fits p tid off (x ∷ xs) none = grind (arith, off x, none_fits p tid off xs)

-- where only a thread's waits pass, its wait is found where it passes
pub first_own : (p : WaitRow → Bool) (tid : ℕ) → ((x : WaitRow) → waits_as tid x ≡ false → p x ≡ false) → (xs : List WaitRow) (x : WaitRow) → are_single xs ≡ true → first (waits_as tid) xs ≡ Some x → first p xs ≡ cond (p x) (Some x) None
first_own p tid off [] y one is = absurd (cc)
first_own p tid off (x ∷ xs) y one is = elim (waits_as tid x) as (λ b. waits_as tid x ≡ b → first p (x ∷ xs) ≡ cond (p y) (Some y) None) [
  | true ↦ λ here.
      let same : x ≡ y = grind arith in
      let none : has (waits_as tid) xs ≡ false = subst (λ q. has (waits_as q) xs ≡ false) (eqb-true x.thread tid here) (grind arith) in
      subst (λ (z : WaitRow). first p (x ∷ xs) ≡ cond (p z) (Some z) None) same (grind (arith, none_fits p tid off xs none))
  | false ↦ λ there. grind (arith, off x, first_own p tid off xs y)
] refl

-- the thread of the wait that fits, where it waits
pub fitting : (w : World) (port : Birth) (client : ClientId) (identifier : ℕ) → are_single w.waits ≡ true → has (waits_as client.thread) w.waits ≡ true
    → cond (fits_as w port client identifier (waiter w client.thread)) (Some client.thread) None ≡ option_map (λ x. x.thread) (first (fits_as w port client identifier) w.waits)
unfolding waiter
fitting w port client identifier one there = of_row (wait_of w client.thread) refl there
  where
    p : WaitRow → Bool
    p = fits_as w port client identifier

    by_test : (x : WaitRow) (b : Bool) → x.thread ≡ client.thread → cond b (Some client.thread) None ≡ option_map (λ (x : WaitRow). x.thread) (cond b (Some x) None)
    by_test x true own = ap Some (sym own)
    by_test x false own = refl

    of_row : (o : Option WaitRow) → wait_of w client.thread ≡ o → is_some o ≡ true
        → cond (fits_as w port client identifier (wait_in (wait_of w client.thread))) (Some client.thread) None ≡ option_map (λ x. x.thread) (first (fits_as w port client identifier) w.waits)
    of_row None found there = absurd (cc)
    of_row (Some x) found there =
        let own : x.thread ≡ client.thread = eqb-true x.thread client.thread (first-passes (waits_as client.thread) w.waits x found) in
        ap (λ o. cond (fits_as w port client identifier (wait_in o)) (Some client.thread) None) found
        ∙ by_test x (fits_as w port client identifier x) own
        ∙ sym (ap (λ o. option_map (λ x. x.thread) o) (first_own (fits_as w port client identifier) client.thread (fit_thread w port client identifier) w.waits x one found))

pub fits_none : (w : World) (port : Birth) (client : ClientId) (identifier : ℕ) → has (waits_as client.thread) w.waits ≡ false → None ≡ option_map (λ (x : WaitRow). x.thread) (first (fits_as w port client identifier) w.waits)
fits_none w port client identifier none = sym (ap (λ o. option_map (λ x. x.thread) o) (none_fits (fits_as w port client identifier) client.thread (fit_thread w port client identifier) w.waits none))

-- a test that one thread's waits alone pass finds the wait of that thread, where it waits and passes
pub own_test : (w : World) (p : WaitRow → Bool) (tid : ℕ) → ((x : WaitRow) → waits_as tid x ≡ false → p x ≡ false) → are_single w.waits ≡ true → has (waits_as tid) w.waits ≡ true
    → cond (p (waiter w tid)) (Some tid) None ≡ option_map (λ x. x.thread) (first p w.waits)
unfolding waiter
own_test w p tid only one there = of_row (wait_of w tid) refl there
  where
    by_test : (x : WaitRow) (b : Bool) → x.thread ≡ tid → cond b (Some tid) None ≡ option_map (λ (x : WaitRow). x.thread) (cond b (Some x) None)
    by_test x true own = ap Some (sym own)
    by_test x false own = refl

    of_row : (o : Option WaitRow) → wait_of w tid ≡ o → is_some o ≡ true → cond (p (wait_in (wait_of w tid))) (Some tid) None ≡ option_map (λ x. x.thread) (first p w.waits)
    of_row None found there = absurd (cc)
    of_row (Some x) found there =
        let own : x.thread ≡ tid = eqb-true x.thread tid (first-passes (waits_as tid) w.waits x found) in
        ap (λ o. cond (p (wait_in o)) (Some tid) None) found
        ∙ by_test x (p x) own
        ∙ sym (ap (λ o. option_map (λ x. x.thread) o) (first_own p tid only w.waits x one found))
