-- The counts that are kept of views, after each change of the parts.
use Rattle.std.proofs.Common.{◌≡◌, ◌+◌, ◌*◌, ◌<◌, ◌≤◌, ◌&&◌, ℕ, zero, suc, Bool, true, false, cond, not, length, map, List, [], ◌∷◌, ◌++◌, set, slice_get, Option, None, Some, refl, sym, ap, ◌∙◌, arith}
use Rattle.std.specs.Prelude.{Err, IfSome, Ok, Result, nat_lt, option_map}
use Rattle.std.proofs.lemmas.Bool.Decides.{nat_tests}
use Rattle.lpc_base.specs.Rows.{change, count, every, first, has, which, without, without_first}
use Rattle.lpc_base.specs.declared.limits.TheConstants.{HANDLE_LIMIT, VIEW_LIMIT}
use Rattle.lpc_base.proofs.RowWords.{count-append, count-bound, count-none, every-push, none-counted, without-none}
use Rattle.lpc_homes.specs.Counts.{AreAllCounted, AreCounted, AreViewsCounted, Counted, GainsViews, LosesViews, count_in, counts_for, is_within, sees_within}
use Rattle.lpc_homes.specs.Parts.{all_rows, all_views, change_at, dropped, goes_with, is_part, names_it, new_part}
use Rattle.lpc_homes.specs.declared.object.Object.{Object}
use Rattle.lpc_homes.specs.declared.parts.Part.{Part}
use Rattle.lpc_homes.proofs.Counted.{has_counted, length-less, row-less}
use Rattle.lpc_homes.proofs.Places.{set_at, walked, walked-again}
use Rattle.lpc_homes.proofs.Taken.{count-one}
use Rattle.lpc_slots.specs.declared.Key.{Key}
use Rattle.lpc_sections.specs.Sections.{SectionRow}
use Rattle.lpc_views.specs.Mapping.{mapped, mapped_at, mapped_of, mapped_size, new_base}
use Rattle.lpc_views.specs.Views.{Views}
use Rattle.lpc_views.specs.declared.view.MapFault.{MapFault}
use Rattle.lpc_views.specs.declared.view.View.{View}

abbrev process : Part → ℕ
process part = part.process

-- The part at a place
-- the handles, where a part was changed that keeps its own
module _ (f : Part → Part) (number : (x : Part) → (f x).process ≡ x.process) (rows : (x : Part) → (f x).handles.rows ≡ x.handles.rows) where
  numbers_at : (parts : List Part) (i : ℕ) → map process (change_at i f parts) ≡ map process parts
  numbers_at [] zero = refl
  numbers_at [] (suc i) = refl
  numbers_at (x ∷ parts) zero = λ j. number x j ∷ map process parts
  numbers_at (x ∷ parts) (suc i) = λ j. process x ∷ numbers_at parts i j

  within_at : (parts : List Part) (i : ℕ) → every is_within (change_at i f parts) ≡ every is_within parts
  within_at [] zero = refl
  within_at [] (suc i) = refl
  within_at (x ∷ parts) zero = λ j. not (nat_lt HANDLE_LIMIT (length (rows x j))) && every is_within parts
  within_at (x ∷ parts) (suc i) = λ j. is_within x && within_at parts i j

  rows_at : (parts : List Part) (i : ℕ) → all_rows (change_at i f parts) ≡ all_rows parts
  rows_at [] zero = refl
  rows_at [] (suc i) = refl
  rows_at (x ∷ parts) zero = λ j. rows x j ++ all_rows parts
  rows_at (x ∷ parts) (suc i) = λ j. x.handles.rows ++ rows_at parts i j

  handles_at : (parts : List Part) (i : ℕ) (places : List ℕ) (counts : Counted) → AreCounted parts places counts → AreCounted (change_at i f parts) places counts
  handles_at parts i places counts h = record {
    placed = h.placed ∙ sym (numbers_at parts i);
    within = within_at parts i ∙ h.within;
    counted = λ whole o. h.counted whole o ∙ ap (count (names_it o)) (sym (rows_at parts i));
  }

-- the views of all processes, where a part was changed
count_at : (p : View Key → Bool) (f : Part → Part) (parts : List Part) (i : ℕ) (part : Part) → slice_get parts i ≡ Some part
    → count p (all_views (change_at i f parts)) + count p part.views.views ≡ count p (all_views parts) + count p (f part).views.views
count_at p f [] i part here = absurd (cc)
count_at p f (x ∷ parts) zero part here =
    let same : x ≡ part = cc in
    let after : count p (all_views (f x ∷ parts)) ≡ count p (all_views (f part ∷ parts)) = ap (λ q. count p (all_views (f q ∷ parts))) same in
    let before : count p (all_views (x ∷ parts)) ≡ count p (all_views (part ∷ parts)) = ap (λ q. count p (all_views (q ∷ parts))) same in
    omega (arith, after, before, count-append p (f part).views.views (all_views parts), count-append p part.views.views (all_views parts))
count_at p f (x ∷ parts) (suc i) part here =
    let rest = count_at p f parts i part here in
    omega (arith, rest, count-append p x.views.views (all_views (change_at i f parts)), count-append p x.views.views (all_views parts))

sees_at : (f : Part → Part) (parts : List Part) (i : ℕ) (part : Part) → slice_get parts i ≡ Some part → sees_within (f part) ≡ true → every sees_within parts ≡ true → every sees_within (change_at i f parts) ≡ true
sees_at f [] i part here few all = absurd (cc)
sees_at f (x ∷ parts) zero part here few all =
    let same : x ≡ part = cc in
    let own : sees_within (f x) ≡ true = ap (λ q. sees_within (f q)) same ∙ few in
    let rest : every sees_within parts ≡ true = grind arith in
    λ j. own j && rest j
sees_at f (x ∷ parts) (suc i) part here few all =
    let own : sees_within x ≡ true = grind arith in
    let rest : every sees_within parts ≡ true = grind arith in
    let later = sees_at f parts i part here few rest in
    λ j. own j && later j

pub few_at : (parts : List Part) (i : ℕ) (part : Part) → slice_get parts i ≡ Some part → every sees_within parts ≡ true → length part.views.views ≤ VIEW_LIMIT
few_at [] i part here all = absurd (cc)
few_at (x ∷ parts) zero part here all =
    let same : x ≡ part = cc in
    let head : sees_within x ≡ true = grind arith in
    let own : sees_within part ≡ true = ap sees_within (sym same) ∙ head in
    grind (arith, nat_tests)
few_at (x ∷ parts) (suc i) part here all =
    let rest : every sees_within parts ≡ true = grind arith in
    few_at parts i part here rest

-- some views of a part in place of others, as the counts have it
pub record Recounts (before after : List (View Key)) (old new : Counted) : Type 0 where
  pub whole : old.whole ≡ true
  pub counts : (o : Object) → count_in new.entries o + count (counts_for o) before ≡ count_in old.entries o + count (counts_for o) after

pub views_kept : (parts : List Part) (places : List ℕ) (handles old new : Counted) (i : ℕ) (part : Part) (views : Views Key) → slice_get parts i ≡ Some part → AreAllCounted parts places handles old
    → (length part.views.views ≤ VIEW_LIMIT → length views.views ≤ VIEW_LIMIT) → (new.whole ≡ true → Recounts part.views.views views.views old new)
    → AreAllCounted (set parts i (record part { views = views })) places handles new
views_kept parts places handles old new i part views here h few recounts =
    let own : length views.views ≤ VIEW_LIMIT = few (few_at parts i part here h.of_views.within) in
    let within : not (nat_lt VIEW_LIMIT (length views.views)) ≡ true = grind (arith, nat_tests) in
    rw (set_at (λ p. record p { views = views }) parts i part here) (record {
      of_handles = handles_at (λ p. record p { views = views }) (λ p. refl) (λ p. refl) parts i places handles h.of_handles;
      of_views = record {
        within = sees_at (λ p. record p { views = views }) parts i part here within h.of_views.within;
        counted = λ whole o.
            let r = recounts whole in
            omega (arith, r.counts o, h.of_views.counted r.whole o, count_at (counts_for o) (λ p. record p { views = views }) parts i part here);
      };
    })

-- The views of a part
length-push : (views : List (View Key)) (view : View Key) → length (views ++ view ∷ []) ≡ length views + 1
length-push [] view = refl
length-push (x ∷ views) view = grind (arith, length-push views view)

length-left : (test : View Key → Bool) (views : List (View Key)) → length (without test views) ≤ length views
length-left test [] = omega arith
length-left test (x ∷ views) = grind (arith, length-left test views)

-- those that pass and the others are all of them
count-split : (p test : View Key → Bool) (views : List (View Key)) → count p (which test views) + count p (without test views) ≡ count p views
count-split p test [] = refl
count-split p test (x ∷ views) = grind (arith, count-split p test views)

module _ (before after : Views Key) (old new : Counted) where
  -- the views stay
  pub same_views : after.views ≡ before.views → new ≡ old → new.whole ≡ true → Recounts before.views after.views old new
  same_views is still whole = record {
    whole = ap (λ (c : Counted). c.whole) (sym still) ∙ whole;
    counts = λ o.
        let same : count_in new.entries o ≡ count_in old.entries o = ap (λ (c : Counted). count_in c.entries o) still in
        let views : count (counts_for o) after.views ≡ count (counts_for o) before.views = ap (count (counts_for o)) is in
        omega (arith, same, views);
  }

  pub as_many : after.views ≡ before.views → length before.views ≤ VIEW_LIMIT → length after.views ≤ VIEW_LIMIT
  as_many is le = let same : length after.views ≡ length before.views = ap length is in omega (arith, le, same)

  -- one view more
  pub gained : (view : View Key) → after.views ≡ before.views ++ view ∷ [] → (new.whole ≡ true → GainsViews (view ∷ []) old new) → new.whole ≡ true → Recounts before.views after.views old new
  gained view is gains whole =
      let g = gains whole in
      record {
        whole = g.whole;
        counts = λ o.
            let more : count (counts_for o) after.views ≡ count (counts_for o) (before.views ++ view ∷ []) = ap (count (counts_for o)) is in
            omega (arith, g.counts o, more, count-append (counts_for o) before.views (view ∷ []));
      }

  pub one_more : (view : View Key) → after.views ≡ before.views ++ view ∷ [] → (length before.views ≤ VIEW_LIMIT → length before.views < VIEW_LIMIT) → length before.views ≤ VIEW_LIMIT → length after.views ≤ VIEW_LIMIT
  one_more view is few le =
      let lt = few le in
      let more : length after.views ≡ length (before.views ++ view ∷ []) = ap length is in
      omega (arith, lt, more, length-push before.views view)

  -- the first view that passes goes
  pub one_lost : (test : View Key → Bool) (view : View Key) → Some view ≡ first test before.views → after.views ≡ without_first test before.views → (new.whole ≡ true → LosesViews (view ∷ []) old new) → new.whole ≡ true → Recounts before.views after.views old new
  one_lost test view found is loses whole =
      let g = loses whole in
      record {
        whole = g.whole;
        counts = λ o.
            let less : count (counts_for o) after.views ≡ count (counts_for o) (without_first test before.views) = ap (count (counts_for o)) is in
            let one : count (counts_for o) (view ∷ []) ≡ cond (counts_for o view) 1 0 = count-one (counts_for o) view in
            omega (arith, g.counts o, less, one, row-less (counts_for o) test before.views view (sym found));
      }

  pub one_less : (test : View Key → Bool) → after.views ≡ without_first test before.views → length before.views ≤ VIEW_LIMIT → length after.views ≤ VIEW_LIMIT
  one_less test is le =
      let less : length after.views ≡ length (without_first test before.views) = ap length is in
      omega (arith, le, less, length-less test before.views)

  -- the views that pass go
  pub lost : (test : View Key → Bool) → after.views ≡ without test before.views → (new.whole ≡ true → LosesViews (which test before.views) old new) → new.whole ≡ true → Recounts before.views after.views old new
  lost test is loses whole =
      let g = loses whole in
      record {
        whole = g.whole;
        counts = λ o.
            let less : count (counts_for o) after.views ≡ count (counts_for o) (without test before.views) = ap (count (counts_for o)) is in
            omega (arith, g.counts o, less, count-split (counts_for o) test before.views);
      }

  pub some_less : (test : View Key → Bool) → after.views ≡ without test before.views → length before.views ≤ VIEW_LIMIT → length after.views ≤ VIEW_LIMIT
  some_less test is le =
      let less : length after.views ≡ length (without test before.views) = ap length is in
      omega (arith, le, less, length-left test before.views)

  -- all views go
  pub all_lost : after.views ≡ [] → (new.whole ≡ true → LosesViews before.views old new) → new.whole ≡ true → Recounts before.views after.views old new
  all_lost is loses whole =
      let g = loses whole in
      record {
        whole = g.whole;
        counts = λ o.
            let none : count (counts_for o) after.views ≡ 0 = ap (count (counts_for o)) is in
            omega (arith, g.counts o, none);
      }

  pub none_left : after.views ≡ [] → length before.views ≤ VIEW_LIMIT → length after.views ≤ VIEW_LIMIT
  none_left is le = let none : length after.views ≡ 0 = ap length is in omega (arith, none)

-- where a view finds a base there are fewer than there may be
pub few_based : (views : List (View Key)) (size base : ℕ) → new_base views size ≡ Some base → length views ≤ VIEW_LIMIT → length views < VIEW_LIMIT
few_based views size base is le = grind (arith, nat_tests)

pub few_mapped : (views : List (View Key)) (section : Key) (offset size : ℕ) (writable : Bool) (owner : Option Key) (row : Option SectionRow) (view : View Key)
    → option_map (λ s. mapped views section offset writable owner s size) row ≡ Some (Ok view) → length views ≤ VIEW_LIMIT → length views < VIEW_LIMIT
few_mapped views section offset size writable owner None view is le = absurd (cc)
few_mapped views section offset size writable owner (Some s) view is le =
    let same : mapped views section offset writable owner s size ≡ Ok view = cc in
    by_size (mapped_size s offset size writable) same
  where
    by_base : (bytes : ℕ) (base : Option ℕ) → new_base views bytes ≡ base → mapped_at views section offset writable owner bytes base ≡ Ok view → length views < VIEW_LIMIT
    by_base bytes None at e = absurd (cc)
    by_base bytes (Some base) at e = few_based views bytes base at le

    by_size : (r : Result ℕ MapFault) → mapped_of views section offset writable owner r ≡ Ok view → length views < VIEW_LIMIT
    by_size (Err fault) e = absurd (cc)
    by_size (Ok bytes) e = by_base bytes (new_base views bytes) refl e

-- Changes that leave the views
module _ (f : Part → Part) (views : (x : Part) → (f x).views.views ≡ x.views.views) where
  by_views : (x : Part) (b : Bool) → (cond b (f x) x).views.views ≡ x.views.views
  by_views x true = views x
  by_views x false = refl

  same_within : (pid : ℕ) (parts : List Part) → every sees_within (change (is_part pid) f parts) ≡ every sees_within parts
  same_within pid [] = refl
  same_within pid (x ∷ parts) = λ j. not (nat_lt VIEW_LIMIT (length (by_views x (is_part pid x) j))) && same_within pid parts j

  views_same : (pid : ℕ) (parts : List Part) → all_views (change (is_part pid) f parts) ≡ all_views parts
  views_same pid [] = refl
  views_same pid (x ∷ parts) = λ j. by_views x (is_part pid x) j ++ views_same pid parts j

  pub unseen_kept : (pid : ℕ) (parts : List Part) (counts : Counted) → AreViewsCounted parts counts → AreViewsCounted (change (is_part pid) f parts) counts
  unseen_kept pid parts counts h = record {
    within = same_within pid parts ∙ h.within;
    counted = λ whole o. h.counted whole o ∙ ap (count (counts_for o)) (sym (views_same pid parts));
  }

-- a part was added
pub pushed_unseen : (parts : List Part) (counts : Counted) (pid : ℕ) → AreViewsCounted parts counts → AreViewsCounted (parts ++ new_part pid ∷ []) counts
pushed_unseen parts counts pid h = record {
  within = every-push sees_within parts (new_part pid) h.within refl;
  counted = λ whole o. h.counted whole o ∙ ap (count (counts_for o)) (sym (same parts));
}
  where
    same : (ps : List Part) → all_views (ps ++ new_part pid ∷ []) ≡ all_views ps
    same [] = refl
    same (x ∷ ps) = ap (λ vs. x.views.views ++ vs) (same ps)

-- What is told
pub few_seen : (p : View Key → Bool) (parts : List Part) → every sees_within parts ≡ true → count p (all_views parts) ≤ VIEW_LIMIT * length parts
few_seen p [] all = omega arith
few_seen p (x ∷ parts) all =
    let own : length x.views.views ≤ VIEW_LIMIT = grind (arith, nat_tests) in
    let rest : every sees_within parts ≡ true = grind arith in
    omega (arith, own, count-bound p x.views.views, count-append p x.views.views (all_views parts), few_seen p parts rest)

pub seen_counted : (p : View Key → Bool) (parts : List Part) → nat_lt 0 (count p (all_views parts)) ≡ has (λ x. has p x.views.views) parts
seen_counted p [] = refl
seen_counted p (x ∷ parts) = grind (arith, nat_tests, count-append p x.views.views (all_views parts), has_counted p x.views.views, seen_counted p parts)

pub told : (r : Option ℕ) (parts : List Part) (counts : Counted) (o : Object) → AreViewsCounted parts counts → IfSome r (λ n. counts.whole ≡ true) → IfSome r (λ n. n ≡ count_in counts.entries o) → IfSome r (λ n. n ≡ count (counts_for o) (all_views parts))
told None parts counts o h whole is = tt
told (Some n) parts counts o h whole is = is ∙ h.counted whole o

pub told_few : (r : Option ℕ) (parts : List Part) (counts : Counted) (o : Object) → AreViewsCounted parts counts → IfSome r (λ n. counts.whole ≡ true) → IfSome r (λ n. n ≡ count_in counts.entries o) → IfSome r (λ n. n ≤ VIEW_LIMIT * length parts)
told_few None parts counts o h whole is = tt
told_few (Some n) parts counts o h whole is = let same = is ∙ h.counted whole o in omega (arith, same, few_seen (counts_for o) parts h.within)

-- Views of a port that are dropped
-- a part without such a view stays
undropped : (port : Key) (part : Part) → has (goes_with port) part.views.views ≡ false → dropped port part ≡ part
undropped port part none =
    let views = without-none (goes_with port) part.views.views none in
    let spare : part.views.spare + count (goes_with port) part.views.views ≡ part.views.spare = omega (arith, count-none (goes_with port) part.views.views none) in
    λ j. record part { views = record { views = views j; spare = spare j } }

all_undropped : (port : Key) (parts : List Part) → count (goes_with port) (all_views parts) ≡ 0 → map (dropped port) parts ≡ parts
all_undropped port [] none = refl
all_undropped port (x ∷ parts) none =
    let sum = count-append (goes_with port) x.views.views (all_views parts) in
    let own = none-counted (goes_with port) x.views.views (omega (arith, sum, none)) in
    let rest : count (goes_with port) (all_views parts) ≡ 0 = omega (arith, sum, none) in
    λ j. undropped port x own j ∷ all_undropped port parts rest j

-- nor has one that was dropped
none_goes : (test : View Key → Bool) (views : List (View Key)) → has test (without test views) ≡ false
none_goes test [] = refl
none_goes test (x ∷ views) = grind (arith, none_goes test views)

pub dropped_twice : (port : Key) (part : Part) → dropped port (dropped port part) ≡ dropped port part
dropped_twice port part = undropped port (dropped port part) (none_goes (goes_with port) part.views.views)

-- what is left of a walk is nothing once no such view is left
pub all_gone : (port : Key) (old start now : List Part) (i : ℕ) → now ≡ walked (dropped port) i start → map (dropped port) start ≡ map (dropped port) old → count (goes_with port) (all_views now) ≡ 0 → now ≡ map (dropped port) old
all_gone port old start now i so_far left none =
    sym (all_undropped port now none)
    ∙ ap (map (dropped port)) so_far
    ∙ walked-again (dropped port) (dropped_twice port) start i
    ∙ left

pub dropped_at : (parts : List Part) (i : ℕ) (port : Key) (part : Part) (new : Views Key) → slice_get parts i ≡ Some part
    → new.views ≡ without (goes_with port) part.views.views → new.spare ≡ part.views.spare + count (goes_with port) part.views.views
    → set parts i (record part { views = new }) ≡ change_at i (dropped port) parts
dropped_at parts i port part new here rows spare =
    let same : new ≡ (dropped port part).views = λ j. record { views = rows j; spare = spare j } in
    ap (λ (v : Views Key). set parts i (record part { views = v })) same ∙ set_at (dropped port) parts i part here
