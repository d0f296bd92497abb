-- A wait that ends with its event: what it owed is free, and there is a wait less.
use Rattle.std.proofs.Common.{◌≡◌, ◌∙◌, ℕ, ◌+◌, ◌*◌, ◌≤◌, List, [], ◌∷◌, Bool, true, false, cond, length, Option, Some, None, option_and_then, refl, ap, sym, subst, arith}
use Rattle.std.specs.Prelude.{not}
use Rattle.lpc_base.specs.Rows.{count, first, has, without}
use Rattle.lpc_base.proofs.RowWords.{count-has, none-counted, without-none}
use Rattle.lpc_except.specs.Chances.{later_rows}
use Rattle.lpc_model.specs.Basics.{left_by}
use Rattle.lpc_model.specs.Found.{wait_of, waits_as}
use Rattle.lpc_model.specs.Raise.{raised_in}
use Rattle.lpc_model.specs.World.{WaitKind, WaitRow, World}
use Rattle.lpc_model.specs.World as model
use Rattle.lpc_rows.specs.Kept.{Kept, goes_once, goes_twice, owed_by, owed_for, owed_rows}
use Rattle.lpc_rows.specs.Ready.{waiter}
use Rattle.lpc_rows.specs.Shown.{shown_raised}
use Rattle.lpc_rows.proofs.Finished.{found-waiter}
use Rattle.lpc_waits.specs.declared.Chance.{Chance}
use Rattle.lpc_waits.specs.declared.Chance.TheVariants as chance
use Rattle.lpc_waits.specs.declared.Raised.{Raised}

-- without the one row that passes
none-with : {X : Type 0} (p : X → Bool) (xs : List X) → count p xs ≤ 0 → without p xs ≡ xs
none-with p xs none = without-none p xs (none-counted p xs none)

pub length-one : {X : Type 0} (p : X → Bool) (xs : List X) → has p xs ≡ true → count p xs ≤ 1 → length (without p xs) + 1 ≡ length xs
length-one p [] there one = absurd (cc)
length-one p (x ∷ xs) there one = elim (p x) as (λ b. p x ≡ b → length (without p (x ∷ xs)) + 1 ≡ length (x ∷ xs)) [
  | true ↦ λ here. let rest : without p xs ≡ xs = none-with p xs (grind (arith, here)) in grind (arith, here, rest)
  | false ↦ λ off. grind (arith, off, length-one p xs)
] refl

pub none-left : {X : Type 0} (p : X → Bool) (xs : List X) → has p (without p xs) ≡ false
none-left p [] = refl
none-left p (x ∷ xs) = grind (arith, none-left p xs)

counted-one : {X : Type 0} (q p : X → Bool) (xs : List X) (x : X) → first p xs ≡ Some x → count p xs ≤ 1 → count q (without p xs) + cond (q x) 1 0 ≡ count q xs
counted-one q p [] x found one = absurd (cc)
counted-one q p (y ∷ ys) x found one = elim (p y) as (λ b. p y ≡ b → count q (without p (y ∷ ys)) + cond (q x) 1 0 ≡ count q (y ∷ ys)) [
  | true ↦ λ here.
      let rest : without p ys ≡ ys = none-with p ys (grind (arith, here)) in
      let same : y ≡ x = grind arith in
      let own : q y ≡ q x = ap q same in
      grind (arith, here, rest, own)
  | false ↦ λ off. grind (arith, off, counted-one q p ys x)
] refl

-- what the wait of an event owed
owed-one : (xs : List WaitRow) (p : WaitRow → Bool) (x : WaitRow) → first p xs ≡ Some x → count p xs ≤ 1
    → owed_for (without p xs) + (6 * cond (goes_twice x) 1 0 + 3 * cond (goes_once x) 1 0) ≡ owed_for xs
owed-one xs p x found one =
    let twice = counted-one goes_twice p xs x found one in
    let once = counted-one goes_once p xs x found one in
    omega (arith, twice, once)

-- by its chance
owed-chance : (x : WaitRow) (r : Raised) → raised_in x ≡ Some (shown_raised r) → 6 * cond (goes_twice x) 1 0 + 3 * cond (goes_once x) 1 0 ≡ later_rows r.chance
owed-chance x r is = by_kind x.kind refl is
  where
    by_chance : (c : Chance) → r.chance ≡ c → x.kind ≡ model.Event (shown_raised r) → 6 * cond (goes_twice x) 1 0 + 3 * cond (goes_once x) 1 0 ≡ later_rows r.chance
    by_chance chance.FirstDebug at kind = rw (kind, at) refl
    by_chance chance.LastDebug at kind = rw (kind, at) refl
    by_chance chance.LastException at kind = rw (kind, at) refl

    by_kind : (k : WaitKind) → x.kind ≡ k → (elim k [ model.Event e ↦ Some e | _ ↦ None ]) ≡ Some (shown_raised r) → 6 * cond (goes_twice x) 1 0 + 3 * cond (goes_once x) 1 0 ≡ later_rows r.chance
    by_kind (model.Event e) kind own = let same : e ≡ shown_raised r = cc in by_chance r.chance refl (kind ∙ ap (λ (e : model.Raised). model.Event e) same)
    by_kind k kind own = absurd (cc)

-- the rows that the world owes, where the thread waits once
pub owed-less : (w : World) (tid : ℕ) (r : Raised) → has (waits_as tid) w.waits ≡ true → count (waits_as tid) w.waits ≤ 1 → option_and_then raised_in (wait_of w tid) ≡ Some (shown_raised r)
    → owed_rows (left_by tid w) + later_rows r.chance ≡ owed_rows w
owed-less w tid r there one is =
    let x = waiter w tid in
    let found : first (waits_as tid) w.waits ≡ Some x = found-waiter w tid there in
    let raised : raised_in x ≡ Some (shown_raised r) = sym (ap (option_and_then raised_in) found) ∙ is in
    let less = owed-one w.waits (waits_as tid) x found one in
    let own = owed-chance x r raised in
    omega (arith, less, own)

-- and are free where the wait has ended
pub freed : (old new : Kept) (tid : ℕ) (r : Raised) → new.rows ≡ left_by tid old.rows → new.made + owed_rows old.rows ≡ old.made + owed_rows new.rows
    → has (waits_as tid) old.rows.waits ≡ true → count (waits_as tid) old.rows.waits ≤ 1 → option_and_then raised_in (wait_of old.rows tid) ≡ Some (shown_raised r)
    → new.made + later_rows r.chance ≡ old.made
freed old new tid r rows counted there one is =
    let owed : owed_rows new.rows + later_rows r.chance ≡ owed_rows old.rows = ap (λ (v : World). owed_rows v + later_rows r.chance) rows ∙ owed-less old.rows tid r there one is in
    omega (arith, counted, owed)
