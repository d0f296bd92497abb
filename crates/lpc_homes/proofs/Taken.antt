-- What the counts of views make of the views of a list, one after the other.
use Rattle.std.proofs.Common.{◌≡◌, ◌+◌, ◌<◌, ◌≤◌, ℕ, Bool, true, false, cond, length, drop, get_or, List, [], ◌∷◌, Option, None, Some, refl, sym, ap, ◌∙◌, arith}
use Rattle.std.specs.Option.{option_eq}
use Rattle.std.specs.Prelude.{IfSome, ◌==◌}
use Rattle.std.proofs.lemmas.Bool.{eqb-true}
use Rattle.std.proofs.lemmas.List.{at_drop_all, at_drop_more}
use Rattle.lpc_base.specs.Rows.{count, passes, which}
use Rattle.lpc_base.proofs.RowWords.{count-append}
use Rattle.lpc_slots.specs.Table.{is_key}
use Rattle.lpc_slots.specs.declared.Key.{Key}
use Rattle.lpc_homes.specs.Counts.{Counted, LosesViews, count_in, counts_for}
use Rattle.lpc_homes.specs.declared.object.Object.{Object}
use Rattle.lpc_views.specs.declared.view.View.{View}

-- One view
pub count-one : (p : View Key → Bool) (view : View Key) → count p (view ∷ []) ≡ cond (p view) 1 0
count-one p view = grind arith

-- The views of a list
-- those that pass among so many first ones are counted no more
pub record AreTaken (test : View Key → Bool) (views : List (View Key)) (i : ℕ) (old now : Counted) : Type 0 where
  pub whole : old.whole ≡ true
  pub counts : (o : Object) → count_in now.entries o + count (counts_for o) (which test views) ≡ count_in old.entries o + count (counts_for o) (which test (drop i views))

module _ (test : View Key → Bool) (views : List (View Key)) (i : ℕ) (old now : Counted) where
  module _ (other : View Key) (lt : i < length views) where
    abbrev view : View Key
    view = get_or views i other

    rest_is : (p : View Key → Bool) → count p (which test (drop i views)) ≡ count p (which test (view ∷ drop (i + 1) views))
    rest_is p = at_drop_more (λ (vs : List (View Key)). count p (which test vs)) views i other lt

    pub taken-next : (new : Counted) → test view ≡ true → (now.whole ≡ true → AreTaken test views i old now) → (new.whole ≡ true → LosesViews (view ∷ []) now new) → new.whole ≡ true → AreTaken test views (i + 1) old new
    taken-next new passes so_far loses whole =
        let b = loses whole in
        let a = so_far b.whole in
        record {
          whole = a.whole;
          counts = λ o.
              let p = counts_for o in
              let here : count p (which test (view ∷ drop (i + 1) views)) ≡ count p (view ∷ which test (drop (i + 1) views)) =
              ap (λ b. count p (cond b (view ∷ which test (drop (i + 1) views)) (which test (drop (i + 1) views)))) passes in
              omega (arith, a.counts o, b.counts o, rest_is p, here, count-append p (view ∷ []) (which test (drop (i + 1) views)));
        }

    pub passed-by : test view ≡ false → (now.whole ≡ true → AreTaken test views i old now) → now.whole ≡ true → AreTaken test views (i + 1) old now
    passed-by off so_far whole =
        let a = so_far whole in
        record {
          whole = a.whole;
          counts = λ o.
              let p = counts_for o in
              let here : count p (which test (view ∷ drop (i + 1) views)) ≡ count p (which test (drop (i + 1) views)) =
              ap (λ b. count p (cond b (view ∷ which test (drop (i + 1) views)) (which test (drop (i + 1) views)))) off in
              omega (arith, a.counts o, rest_is p, here);
        }

  pub taken-all : length views ≤ i → (now.whole ≡ true → AreTaken test views i old now) → now.whole ≡ true → LosesViews (which test views) old now
  taken-all le so_far whole =
      let a = so_far whole in
      record {
        whole = a.whole;
        counts = λ o.
            let none : count (counts_for o) (which test (drop i views)) ≡ 0 = at_drop_all (λ (vs : List (View Key)). count (counts_for o) (which test vs)) views i le in
            omega (arith, a.counts o, none);
      }

-- all pass
pub which-all : (views : List (View Key)) → which (λ view. true) views ≡ views
which-all [] = refl
which-all (x ∷ views) = ap (λ vs. x ∷ vs) (which-all views)

-- the port of a view is asked for
pub goes_eq : (owner : Key) (port : Option Key) → option_eq is_key port (Some owner) ≡ passes port (λ other. is_key other owner)
goes_eq owner None = refl
goes_eq owner (Some port) = refl

-- a count that is asked whether it is 0
pub none_counted : (r : Option ℕ) (n : ℕ) → option_eq (λ a b. a == b) r (Some 0) ≡ true → IfSome r (λ k. k ≡ n) → n ≡ 0
none_counted None n same is = absurd (cc)
none_counted (Some k) n same is = sym is ∙ eqb-true k 0 same
