-- What settles behind a member's line, in a play: members' turns are taken in the view, without the waits that outsiders'
-- turns end; and what those tell ends the waits then.
use Rattle.std.proofs.Common.{◌≡◌, ℕ, List, [], ◌∷◌, ◌++◌, Bool, true, false, cond, not, Option, Some, None, refl, ap, sym, subst, ◌∙◌, arith}
use Rattle.std.specs.Prelude.{◌&&◌, ◌==◌, nat_lt}
use Rattle.std.proofs.lemmas.Bool.{and_from, eqb-true, not-true}
use Rattle.std.proofs.lemmas.Bool.Decides.{nat_tests}
use Rattle.lpc_base.specs.Rows.{every, has, which}
use Rattle.lpc_base.proofs.Bools.{first-true, number-turned, second-true, same-number}
use Rattle.lpc_base.proofs.RowWords.{every-more, every-which, has-off}
use Rattle.lpc_model.specs.declared.entry.Entry.{Entry}
use Rattle.lpc_model.specs.declared.entry.Entry.TheVariants as entry
use Rattle.lpc_model.specs.World.{ProcessRow, WaitRow, World}
use Rattle.lpc_model.specs.Found.{waits_as}
use Rattle.lpc_model.specs.Basics.{Awaits, Basic, Dies, Cuts, DropsHandle, DropsOwned, DropsViewsOf, Empties, Enters, LetsGo, Marks, Takes, TakesConnect, Unbinds, Unregisters, Withdraws, Tells, Wakes, basic, entries_of, world_after}
use Rattle.lpc_model.specs.Settle.{least, lesser}
use Rattle.lpc_model.specs.Circle.{Group}
use Rattle.lpc_isolation.proofs.Memory.Heard.{takes_any}
use Rattle.lpc_isolation.proofs.Closings.Mild.{AreMild, is_mild}
use Rattle.lpc_isolation.proofs.Closings.Shown.{are_shown, is_shown, may_show}
use Rattle.lpc_isolation.proofs.Endings.Settled.{least-holds}
use Rattle.lpc_isolation.proofs.Endings.Spared.{event-off, less, spares}
use Rattle.lpc_isolation.proofs.Endings.Lasting.{begins_of, is_over}
use Rattle.lpc_isolation.proofs.Endings.Guessed.{begins_events, is_end_of, is_out, of_takers}

-- Lists
pub joined : {A : Type 0} (xs ys zs : List A) → (xs ++ ys) ++ zs ≡ xs ++ (ys ++ zs)
joined [] ys zs = refl
joined (x ∷ xs) ys zs = ap (λ is. x ∷ is) (joined xs ys zs)

-- each wait is its thread's
pub self-waits : (ws : List WaitRow) → every (λ x. has (waits_as x.thread) ws) ws ≡ true
self-waits [] = refl
self-waits (x ∷ xs) = and_from _ _ (rw (same-number x.thread) refl) (every-more (λ y. has (waits_as y.thread) xs) (λ y. has (waits_as y.thread) (x ∷ xs)) (λ y is. more (waits_as y.thread) x xs is) xs (self-waits xs))
  where
    more : (p : WaitRow → Bool) (x : WaitRow) (xs : List WaitRow) → has p xs ≡ true → has p (x ∷ xs) ≡ true
    more p x xs is = grind arith

abbrev pub takers : ℕ → WaitRow → Bool
takers n x = waits_as n x && takes_any x

pub self-takers : (ws : List WaitRow) → every (of_takers (λ n. has (takers n) ws)) ws ≡ true
self-takers [] = refl
self-takers (x ∷ xs) = and_from _ _ (head (takes_any x) refl) (every-more (of_takers (λ n. has (takers n) xs)) (of_takers (λ n. has (takers n) (x ∷ xs))) (λ y is. more y is) xs (self-takers xs))
  where
    head : (b : Bool) → takes_any x ≡ b → of_takers (λ n. has (takers n) (x ∷ xs)) x ≡ true
    head false is = rw is refl
    head true is = rw (same-number x.thread, is) refl

    more : (y : WaitRow) → of_takers (λ n. has (takers n) xs) y ≡ true → of_takers (λ n. has (takers n) (x ∷ xs)) y ≡ true
    more y is = grind arith

-- Steps that end a thread's wait
abbrev pub ends_wait : ℕ → Basic → Bool
ends_wait n (Wakes who call status fields) = who == n
ends_wait n (Dies who status) = who == n
ends_wait n b = false

pub untold-ends : (n : ℕ) (bs : List Basic) → every (λ e. not (is_end_of n e)) (entries_of bs) ≡ true → every (λ b. not (ends_wait n b)) bs ≡ true
untold-ends n [] none = refl
untold-ends n (Wakes who call status fields ∷ bs) none = and_from _ _ (first-true _ _ none) (untold-ends n bs (second-true (not (who == n)) _ none))
untold-ends n (Dies who status ∷ bs) none = and_from _ _ (first-true _ _ none) (untold-ends n bs (second-true (not (who == n)) _ none))
untold-ends n (Tells e ∷ bs) none = untold-ends n bs (second-true (not (is_end_of n e)) _ none)
untold-ends n (b ∷ bs) none = untold-ends n bs none

-- whom a list tells of waits no more behind it
pub over-ends : (n : ℕ) (v : World) (bs : List Basic) → has (waits_as n) v.waits ≡ true → every (is_over v) (entries_of bs) ≡ true → every (λ b. not (ends_wait n b)) bs ≡ true
over-ends n v [] there over = refl
over-ends n v (Wakes who call status fields ∷ bs) there over = and_from _ _ (other (who == n) refl) (over-ends n v bs there (second-true (not (has (waits_as who) v.waits)) _ over))
  where
    other : (b : Bool) → (who == n) ≡ b → not (who == n) ≡ true
    other false is = rw is refl
    other true is =
        let gone : not (has (waits_as n) v.waits) ≡ true = subst (λ k. not (has (waits_as k) v.waits) ≡ true) (eqb-true who n is) (first-true _ _ over) in
        absurd (grind arith)
over-ends n v (Dies who status ∷ bs) there over = and_from _ _ (other (who == n) refl) (over-ends n v bs there (second-true (not (has (waits_as who) v.waits)) _ over))
  where
    other : (b : Bool) → (who == n) ≡ b → not (who == n) ≡ true
    other false is = rw is refl
    other true is =
        let gone : not (has (waits_as n) v.waits) ≡ true = subst (λ k. not (has (waits_as k) v.waits) ≡ true) (eqb-true who n is) (first-true _ _ over) in
        absurd (grind arith)
over-ends n v (Tells e ∷ bs) there over = over-ends n v bs there (second-true (is_over v e) _ over)
over-ends n v (b ∷ bs) there over = over-ends n v bs there over

pub over-told : (n : ℕ) (v : World) (es : List Entry) → has (waits_as n) v.waits ≡ true → every (is_over v) es ≡ true → every (λ e. not (is_end_of n e)) es ≡ true
over-told n v es there over = every-more (is_over v) (λ e. not (is_end_of n e)) other es over
  where
    at : (who : ℕ) (b : Bool) → (who == n) ≡ b → not (has (waits_as who) v.waits) ≡ true → not (who == n) ≡ true
    at who false is gone = rw is refl
    at who true is gone =
        let never : not (has (waits_as n) v.waits) ≡ true = subst (λ k. not (has (waits_as k) v.waits) ≡ true) (eqb-true who n is) gone in
        absurd (grind arith)

    other : (e : Entry) → is_over v e ≡ true → not (is_end_of n e) ≡ true
    other (entry.Wakes who call status fields) is = at who (who == n) refl is
    other (entry.Died who status) is = at who (who == n) refl is
    other (entry.Answer who call status fields) is = refl
    other (entry.Waits who call fields) is = refl
    other (entry.Busy who) is = refl
    other (entry.NoThread who) is = refl
    other (entry.Directive name status) is = refl

-- a wait that no step ends stays
keeps-step : (q : WaitRow → Bool) (n : ℕ) → ((x : WaitRow) → q x ≡ true → x.thread ≡ n) → (w : World) (b : Basic) → is_mild b ≡ true → not (ends_wait n b) ≡ true → has q w.waits ≡ true → has q (basic w b).waits ≡ true
keeps-step q n own w (Wakes who call status fields) mild none is = has-off q (waits_as who) (λ x on. let thread : x.thread ≡ n = own x on in rw thread (number-turned n who ∙ not-true (who == n) none)) w.waits is
keeps-step q n own w (Dies who status) mild none is = has-off q (waits_as who) (λ x on. let thread : x.thread ≡ n = own x on in rw thread (number-turned n who ∙ not-true (who == n) none)) w.waits is
keeps-step q n own w (Withdraws who) mild none is = is
keeps-step q n own w (Marks who) mild none is = is
keeps-step q n own w (LetsGo pid) mild none is = is
keeps-step q n own w (Empties b) mild none is = is
keeps-step q n own w (Unbinds b) mild none is = is
keeps-step q n own w (Cuts b) mild none is = is
keeps-step q n own w (DropsHandle pid value) mild none is = is
keeps-step q n own w (Enters x) mild none is = is
keeps-step q n own w (Takes b) mild none is = is
keeps-step q n own w (TakesConnect b) mild none is = is
keeps-step q n own w (Unregisters who b) mild none is = is
keeps-step q n own w (DropsViewsOf pid) mild none is = is
keeps-step q n own w (DropsOwned b) mild none is = is
keeps-step q n own w b mild none is = absurd (cc)

pub keeps-run : (q : WaitRow → Bool) (n : ℕ) → ((x : WaitRow) → q x ≡ true → x.thread ≡ n) → (w : World) (bs : List Basic) → AreMild bs → every (λ b. not (ends_wait n b)) bs ≡ true → has q w.waits ≡ true → has q (world_after w bs).waits ≡ true
keeps-run q n own w [] mild none is = is
keeps-run q n own w (b ∷ bs) mild none is = keeps-run q n own (basic w b) bs (second-true (is_mild b) _ mild) (second-true (not (ends_wait n b)) _ none) (keeps-step q n own w b (first-true _ _ mild) (first-true _ _ none) is)

-- a list that ends none of some threads' waits spares them
pub spares-from : (o : ℕ → Bool) (bs : List Basic) → ((n : ℕ) → o n ≡ true → every (λ b. not (ends_wait n b)) bs ≡ true) → every begins_events bs ≡ true → every (spares o) bs ≡ true
spares-from o [] none begins = refl
spares-from o (b ∷ bs) none begins = and_from _ _ (at b (λ n is. first-true _ _ (none n is)) (first-true _ _ begins)) (spares-from o bs (λ n is. second-true (not (ends_wait n b)) _ (none n is)) (second-true (begins_events b) _ begins))
  where
    spared : (who : ℕ) (a : Bool) → o who ≡ a → (o who ≡ true → not (who == who) ≡ true) → not (o who) ≡ true
    spared who false is never = rw is refl
    spared who true is never = let off : not (who == who) ≡ true = never is in let on : (who == who) ≡ true = same-number who in absurd (grind arith)

    at : (b : Basic) → ((n : ℕ) → o n ≡ true → not (ends_wait n b) ≡ true) → begins_events b ≡ true → spares o b ≡ true
    at (Wakes who call status fields) never ok = spared who (o who) refl (never who)
    at (Dies who status) never ok = spared who (o who) refl (never who)
    at (Awaits x) never ok = rw (event-off x ok) refl
    at b never ok = refl

pub events-begin : (v : World) (b : Basic) → begins_of v b ≡ true → begins_events b ≡ true
events-begin v (Awaits x) is = first-true _ _ is
events-begin v b is = refl

-- what a member is shown is no outsider's
pub shown-none : (a : Bool) (m : Group) (w : World) (bs : List Basic) → are_shown a m true w bs ≡ true → every (λ e. not (is_out m e)) (entries_of bs) ≡ true
shown-none a m w [] shown = refl
shown-none a m w (Wakes who call status fields ∷ bs) shown = and_from _ _ (second-true (may_show a fields) _ (first-true _ _ shown)) (shown-none a m (basic w (Wakes who call status fields)) bs (second-true (is_shown a m true w (Wakes who call status fields)) _ shown))
shown-none a m w (Dies who status ∷ bs) shown = shown-none a m (basic w (Dies who status)) bs shown
shown-none a m w (Tells e ∷ bs) shown = absurd (cc)
shown-none a m w (b ∷ bs) shown = shown-none a m (basic w b) bs shown

-- The least of some processes that one of them is of
least-bound : (ps : List ProcessRow) (r : ProcessRow) → least ps ≡ Some r → every (λ z. not (nat_lt z.number r.number)) ps ≡ true
least-bound [] r is = absurd (cc)
least-bound (p ∷ ps) r is = at (least ps) refl (λ s some. least-bound ps s some) (some-same (lesser p (least ps)) r is)
  where
    some-same : (a b : ProcessRow) → (let o : Option ProcessRow = Some a in o ≡ Some b) → a ≡ b
    some-same a b one = cc

    none-least : (ps : List ProcessRow) → least ps ≡ None → ps ≡ []
    none-least [] is = refl
    none-least (q ∷ qs) is = absurd (cc)

    choose : (s : ProcessRow) (e : Bool) → nat_lt s.number p.number ≡ e → every (λ z. not (nat_lt z.number s.number)) ps ≡ true → cond e s p ≡ r → every (λ z. not (nat_lt z.number r.number)) (p ∷ ps) ≡ true
    choose s true less all same = subst (λ t. every (λ z. not (nat_lt z.number t.number)) (p ∷ ps) ≡ true) same (and_from (not (nat_lt p.number s.number)) (every (λ z. not (nat_lt z.number s.number)) ps) (grind (arith, nat_tests)) all)
    choose s false less all same = subst (λ t. every (λ z. not (nat_lt z.number t.number)) (p ∷ ps) ≡ true) same (and_from (not (nat_lt p.number p.number)) (every (λ z. not (nat_lt z.number p.number)) ps) (grind (arith, nat_tests)) (every-more (λ z. not (nat_lt z.number s.number)) (λ z. not (nat_lt z.number p.number)) (λ z one. grind (arith, nat_tests)) ps all))

    at : (o : Option ProcessRow) → least ps ≡ o → ((s : ProcessRow) → least ps ≡ Some s → every (λ z. not (nat_lt z.number s.number)) ps ≡ true) → lesser p o ≡ r → every (λ z. not (nat_lt z.number r.number)) (p ∷ ps) ≡ true
    at None none later same = subst (λ t. every (λ z. not (nat_lt z.number t.number)) (p ∷ ps) ≡ true) same (and_from (not (nat_lt p.number p.number)) (every (λ z. not (nat_lt z.number p.number)) ps) (grind (arith, nat_tests)) (rw (none-least ps none) refl))
    at (Some s) some later same = choose s (nat_lt s.number p.number) refl (later s some) same

pub least-kept : (k : ProcessRow → Bool) (ps : List ProcessRow) (r : ProcessRow) → least ps ≡ Some r → k r ≡ true → least (which k ps) ≡ Some r
least-kept k [] r is ours = absurd (cc)
least-kept k (p ∷ ps) r is ours = at (least ps) refl (λ s some mine. least-kept k ps s some mine) (some-same (lesser p (least ps)) r is)
  where
    some-same : (a b : ProcessRow) → (let o : Option ProcessRow = Some a in o ≡ Some b) → a ≡ b
    some-same a b one = cc

    none-least : (ps : List ProcessRow) → least ps ≡ None → ps ≡ []
    none-least [] is = refl
    none-least (q ∷ qs) is = absurd (cc)

    -- p itself is the least
    own : (s : ProcessRow) → least ps ≡ Some s → nat_lt s.number p.number ≡ false → k p ≡ true → least (which k (p ∷ ps)) ≡ Some p
    own s some more mine = rw mine (other (least (which k ps)) refl)
      where
        other : (o : Option ProcessRow) → least (which k ps) ≡ o → Some (lesser p o) ≡ Some p
        other None none = refl
        other (Some z) found =
            let far : not (nat_lt z.number s.number) ≡ true = least-holds (λ z. not (nat_lt z.number s.number)) (which k ps) z (every-which (λ z. not (nat_lt z.number s.number)) k ps (least-bound ps s some)) found in
            let off : nat_lt z.number p.number ≡ false = grind (arith, nat_tests) in
            rw off refl

    choose : (s : ProcessRow) → least ps ≡ Some s → (e : Bool) → nat_lt s.number p.number ≡ e → (k s ≡ true → least (which k ps) ≡ Some s) → cond e s p ≡ r → least (which k (p ∷ ps)) ≡ Some r
    choose s some true less later same =
        let mine : k s ≡ true = subst (λ t. k t ≡ true) (sym same) ours in
        subst (λ t. least (which k (p ∷ ps)) ≡ Some t) same (tail (k p) refl (later mine))
      where
        tail : (b : Bool) → k p ≡ b → least (which k ps) ≡ Some s → least (which k (p ∷ ps)) ≡ Some s
        tail true on found = rw on (rw (found, less) refl)
        tail false off found = rw off found
    choose s some false more later same = subst (λ t. least (which k (p ∷ ps)) ≡ Some t) same (own s some more (subst (λ t. k t ≡ true) (sym same) ours))

    at : (o : Option ProcessRow) → least ps ≡ o → ((s : ProcessRow) → least ps ≡ Some s → k s ≡ true → least (which k ps) ≡ Some s) → lesser p o ≡ r → least (which k (p ∷ ps)) ≡ Some r
    at None none later same = let mine : k p ≡ true = subst (λ t. k t ≡ true) (sym same) ours in rw mine (rw (none-least ps none) (ap (λ (t : ProcessRow). Some t) same))
    at (Some s) some later same = choose s some (nat_lt s.number p.number) refl (later s some) same
