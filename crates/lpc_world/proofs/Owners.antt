-- Views that go: the ports with which they went are suspected.
use Rattle.std.proofs.Common.{Bool, cond, List, [], ◌∷◌, ◌+◌, ◌≤◌, ap, arith, false, not, refl, true, ℕ, ◌≡◌, map, subst, sym, ◌∙◌, Option, Some, None}
use Rattle.std.specs.Prelude.{◌&&◌, ◌||◌, IfNone, IfSome, is_some, length, nat_le, option_and_then}
use Rattle.std.proofs.lemmas.Bool.Decides.{nat_tests}
use Rattle.lpc_base.specs.Rows.{change, count, each, every, first, has, without}
use Rattle.lpc_base.proofs.Bools.{first-true, second-true}
use Rattle.lpc_base.proofs.Differ.{own-rows}
use Rattle.lpc_base.proofs.RowMaps.{every-first, every-map, has-map}
use Rattle.lpc_base.proofs.RowWords.{count-append, count-without, every-more, every-true, every-unless}
use Rattle.lpc_homes.specs.Parts.{are_single_parts, is_part, unmapped, views_at, views_in}
use Rattle.lpc_homes.specs.declared.object.Object.{Object}
use Rattle.lpc_homes.specs.declared.parts.Part.{Part}
use Rattle.lpc_model.specs.World as model
use Rattle.lpc_model.specs.World.{Birth, World}
use Rattle.lpc_model.specs.Found as found_in
use Rattle.lpc_model.specs.Found.{is_owned_by, is_space}
use Rattle.lpc_model.specs.Basics.{DropsViewsOf, Unmaps, basic, without_view, without_views}
use Rattle.lpc_model.proofs.Steps.Rows.{lone}
use Rattle.lpc_slots.specs.declared.Key.{Key}
use Rattle.lpc_views.specs.Views.{holds, lies_at, view_of}
use Rattle.lpc_views.specs.declared.view.View.{View}
use Rattle.lpc_rows.specs.Kept.{rows_by}
use Rattle.lpc_rows.specs.Lawful.{AreLawful}
use Rattle.lpc_rows.specs.Names.{Names, some_stands}
use Rattle.lpc_rows.specs.Shown.{Births, Tables, all_pass, birth_of, births_of, object_stands, ports_in, shown_space, shown_view, space_refs, view_refs}
use Rattle.lpc_rows.specs.Suspects.{AreSuspected, SuspectTable, suspecting_some}
use Rattle.lpc_rows.proofs.Claims.{KeepsClaims, views-keep}
use Rattle.lpc_rows.proofs.ShownViews.{each_stands}
use Rattle.lpc_rows.proofs.Suspected as suspected
use Rattle.lpc_rows.proofs.Suspected.{AreBut, NoNewPort, adds-two, but-all, but-lost, but-some, covers, none-both}
use Rattle.lpc_rows.proofs.Views.{unmaps}
use Rattle.lpc_world.specs.Suspected.{suspecting_owners}
use Rattle.lpc_world.proofs.Hearers.{each-changed, the-covered}

-- Changes behind which these ports are suspected
but-owners : (v : World) (n : Names) (s : SuspectTable) (vs : List (View Key)) (x : Birth → Bool) → every (λ (view : View Key). some_stands n view.owner) vs ≡ true → AreBut v n s (λ b. has (λ (view : View Key). covers n view.owner b) vs || x b) → AreBut v n (suspecting_owners vs s) x
but-owners v n s [] x all old = old
but-owners v n s (view ∷ vs) x all old =
    but-owners v n (suspecting_some view.owner s) vs x (second-true _ _ all)
    (but-some v n s view.owner (λ b. has (λ (u : View Key). covers n u.owner b) vs || x b) (first-true _ _ all) (λ calm b there none off. old calm b there none (split (covers n view.owner b) (has (λ (u : View Key). covers n u.owner b) vs) b refl refl off)))
  where
    split : (c d : Bool) (b : Birth) → covers n view.owner b ≡ c → has (λ (u : View Key). covers n u.owner b) vs ≡ d → (c || (d || x b)) ≡ false → (has (λ (u : View Key). covers n u.owner b) (view ∷ vs) || x b) ≡ false
    split true d b own rest off = absurd (cc)
    split false true b own rest off = absurd (cc)
    split false false b own rest off = rw (own, rest) off

adds-owners : (w v : World) (n : Names) (s : SuspectTable) (vs : List (View Key)) → every (λ (view : View Key). some_stands n view.owner) vs ≡ true → NoNewPort w v
    → ((b : Birth) → has (λ (view : View Key). covers n view.owner b) vs ≡ false → KeepsClaims w v b) → AreSuspected w n s → AreSuspected v n (suspecting_owners vs s)
adds-owners w v n s vs all ports keeps old =
    but-all v n (suspecting_owners vs s)
    (but-owners v n s vs (λ b. false) all
    (but-lost w v n s (λ b. has (λ (view : View Key). covers n view.owner b) vs || false) ports (λ b off. keeps b (front _ off)) old))
  where
    front : (a : Bool) → (a || false) ≡ false → a ≡ false
    front true off = absurd (cc)
    front false off = refl

-- Rows that are changed, each of which gives as much as before of what passes
each-kept : {X Y : Type 0} (p : Y → Bool) (f : X → List Y) (test : X → Bool) (g : X → X) (xs : List X) → every (λ x. not (test x) || nat_le (count p (f x)) (count p (f (g x)))) xs ≡ true → count p (each f xs) ≤ count p (each f (change test g xs))
each-kept p f test g [] all = omega arith
each-kept p f test g (x ∷ xs) all = at (test x) refl (first-true _ _ all) (each-kept p f test g xs (second-true _ _ all))
  where
    sums : (a b c d k m : ℕ) → k ≡ a + b → m ≡ c + d → nat_le a c ≡ true → b ≤ d → k ≤ m
    sums a b c d k m one two front back = grind (arith, nat_tests, one, two, front, back)

    alike : (a b d k m : ℕ) → k ≡ a + b → m ≡ a + d → b ≤ d → k ≤ m
    alike a b d k m one two back = omega (arith, one, two, back)

    at : (c : Bool) → test x ≡ c → (not c || nat_le (count p (f x)) (count p (f (g x)))) ≡ true → count p (each f xs) ≤ count p (each f (change test g xs)) → count p (each f (x ∷ xs)) ≤ count p (each f (cond c (g x) x ∷ change test g xs))
    at true is more rest = sums _ _ _ _ _ _ (count-append p (f x) (each f xs)) (count-append p (f (g x)) (each f (change test g xs))) more rest
    at false is more rest = alike _ _ _ _ _ (count-append p (f x) (each f xs)) (count-append p (f x) (each f (change test g xs))) rest

-- what goes and what stays are all
length-parts : {X : Type 0} (test : X → Bool) (xs : List X) → length (without test xs) + count test xs ≡ length xs
length-parts test [] = refl
length-parts test (x ∷ xs) = grind (arith, length-parts test xs)

module _ (it : Tables) (calls made : ℕ) (is : AreLawful it calls made) (s : SuspectTable) (old : AreSuspected (rows_by it) (births_of it).ports s) where
  abbrev n : Births
  n = births_of it

  abbrev g : Object → Birth
  g = birth_of n

  abbrev ok : Object → Bool
  ok = object_stands n

  abbrev rows : World
  rows = rows_by it

  flip : (c : Bool) → c ≡ false → not c ≡ true
  flip true off = absurd (cc)
  flip false off = refl

  owner-stands : (o : Option Key) → every ok (ports_in o) ≡ true → some_stands n.ports o ≡ true
  owner-stands None all = refl
  owner-stands (Some key) all = first-true _ _ all

  stood : (vs : List (View Key)) → every (all_pass view_refs ok) vs ≡ true → every (λ (view : View Key). some_stands n.ports view.owner) vs ≡ true
  stood vs all = every-more (all_pass view_refs ok) (λ (view : View Key). some_stands n.ports view.owner) (λ view there. owner-stands view.owner (second-true _ _ there)) vs all

  -- no view goes with a port that isn't suspected
  unowned : (b : Birth) (vs : List (View Key)) → has (λ (view : View Key). covers n.ports view.owner b) vs ≡ false → has (is_owned_by b) (map (shown_view g) vs) ≡ false
  unowned b vs off = has-map (shown_view g) (λ _. true) (λ (view : View Key). covers n.ports view.owner b) (is_owned_by b) (λ view _. the-covered n.ports view.owner b) vs (every-true vs) ∙ off

  -- all views of a process go
  pub dropped-to : (v : World) (pid : ℕ) → are_single_parts it.parts ≡ true → v ≡ basic rows (DropsViewsOf pid) → AreSuspected v n.ports (suspecting_owners (views_at it.parts pid) s)
  dropped-to v pid single goes =
      subst (λ (u : World). AreSuspected u n.ports (suspecting_owners (views_at it.parts pid) s)) (sym goes)
      (adds-owners rows (basic rows (DropsViewsOf pid)) n.ports s (views_at it.parts pid) (stood (views_at it.parts pid) (stand (first (is_part pid) it.parts) refl)) (λ b there. there)
      (λ b off. views-keep rows b (change (is_space pid) without_views rows.views) (each-changed (is_owned_by b) (λ (t : model.ViewTable). t.rows) (is_space pid) without_views rows.views (none b off))) old)
    where
      stand : (o : Option Part) → first (is_part pid) it.parts ≡ o → every (all_pass view_refs ok) (views_in o) ≡ true
      stand None found = refl
      stand (Some part) found = each_stands ok part.views.views (every-first (all_pass space_refs ok) (is_part pid) it.parts part is.named.refs.in_views found)

      none : (b : Birth) → has (λ (view : View Key). covers n.ports view.owner b) (views_at it.parts pid) ≡ false → every (λ (t : model.ViewTable). not (is_space pid t) || not (has (is_owned_by b) t.rows)) rows.views ≡ true
      none b off = every-map (λ (t : model.ViewTable). not (is_space pid t) || not (has (is_owned_by b) t.rows)) (shown_space g) it.parts ∙ by (first (is_part pid) it.parts) refl off
        where
          by : (o : Option Part) → first (is_part pid) it.parts ≡ o → has (λ (view : View Key). covers n.ports view.owner b) (views_in o) ≡ false → every (λ (part : Part). not (is_part pid part) || not (has (is_owned_by b) (map (shown_view g) part.views.views))) it.parts ≡ true
          by None found off = every-unless (is_part pid) (λ (part : Part). not (has (is_owned_by b) (map (shown_view g) part.views.views))) it.parts (ap is_some found)
          by (Some part) found off = own-rows (λ (part : Part). part.process) (λ (part : Part). not (has (is_owned_by b) (map (shown_view g) part.views.views))) pid it.parts part single found (flip _ (unowned b part.views.views off))

  -- one view of a process goes, which alone begins where it does
  pub unmapped-to : (pid address : ℕ) (r : Option (View Key)) (new : List Part) → are_single_parts it.parts ≡ true → r ≡ view_of (views_at it.parts pid) address 1 → IfSome r (λ view. new ≡ change (is_part pid) (unmapped view.base) it.parts)
      → IfSome r (λ view. length (without (lies_at view.base) (views_at it.parts pid)) + 1 ≡ length (views_at it.parts pid)) → IfNone r (new ≡ it.parts) → AreSuspected (rows_by (record it { parts = new })) n.ports (suspecting_some (option_and_then (λ view. view.owner) r) s)
  unmapped-to pid address None new single found goes fewer stays = suspected.same-to rows n.ports s old _ (ap (λ (ps : List Part). rows_by (record it { parts = ps })) stays)
  unmapped-to pid address (Some view) new single found goes fewer stays =
      subst (λ (u : World). AreSuspected u n.ports (suspecting_some view.owner s)) (sym (ap (λ (ps : List Part). rows_by (record it { parts = ps })) goes ∙ unmaps it calls made is pid view.base))
      (adds-two rows (basic rows (Unmaps pid view.base)) n.ports s view.owner None (the-owner (first (is_part pid) it.parts) refl found) refl (λ b there. there)
      (λ b off away. views-keep rows b (change (is_space pid) (without_view view.base) rows.views) (each-kept (is_owned_by b) (λ (t : model.ViewTable). t.rows) (is_space pid) (without_view view.base) rows.views (as-many b off))) old)
    where
      the-owner : (o : Option Part) → first (is_part pid) it.parts ≡ o → Some view ≡ view_of (views_in o) address 1 → some_stands n.ports view.owner ≡ true
      the-owner None at found = absurd (cc)
      the-owner (Some part) at found =
          let all = each_stands ok part.views.views (every-first (all_pass space_refs ok) (is_part pid) it.parts part is.named.refs.in_views at) in
          owner-stands view.owner (second-true _ _ (every-first (all_pass view_refs ok) (holds address 1) part.views.views view all (sym found)))

      one : (vs : List (View Key)) → length (without (lies_at view.base) vs) + 1 ≡ length vs → count (lies_at view.base) vs ≤ 1
      one vs fewer = let parts = length-parts (lies_at view.base) vs in omega (arith, parts, fewer)

      apart : (b : Birth) (vs : List (View Key)) → covers n.ports view.owner b ≡ false → Some view ≡ view_of vs address 1 → length (without (lies_at view.base) vs) + 1 ≡ length vs → has (λ (u : View Key). lies_at view.base u && covers n.ports u.owner b) vs ≡ false
      apart b vs off found fewer =
          let own : lies_at view.base view ≡ true = grind (arith, nat_tests) in
          none-both (lies_at view.base) (λ (u : View Key). covers n.ports u.owner b) vs (lone (lies_at view.base) (λ (u : View Key). not (covers n.ports u.owner b)) (holds address 1) vs view (one vs fewer) (sym found) own (flip _ off))

      still : (b : Birth) (vs : List (View Key)) → covers n.ports view.owner b ≡ false → Some view ≡ view_of vs address 1 → length (without (lies_at view.base) vs) + 1 ≡ length vs
          → nat_le (count (is_owned_by b) (map (shown_view g) vs)) (count (is_owned_by b) (without (found_in.lies_at view.base) (map (shown_view g) vs))) ≡ true
      still b vs off found fewer =
          let both = has-map (shown_view g) (λ _. true) (λ (u : View Key). lies_at view.base u && covers n.ports u.owner b) (λ (u : model.ViewRow). found_in.lies_at view.base u && is_owned_by b u) (λ u _. ap (λ (c : Bool). lies_at view.base u && c) (the-covered n.ports u.owner b)) vs (every-true vs) ∙ apart b vs off found fewer in
          let same = count-without (is_owned_by b) (found_in.lies_at view.base) (λ (u : model.ViewRow). found_in.lies_at view.base u && is_owned_by b u) (λ u is off. second-off _ _ is off) (map (shown_view g) vs) both in
          rw (same) (self-le (count (is_owned_by b) (map (shown_view g) vs)))
        where
          second-off : (c d : Bool) → c ≡ true → (c && d) ≡ false → d ≡ false
          second-off true d is off = off
          second-off false d is off = absurd (cc)

          self-le : (k : ℕ) → nat_le k k ≡ true
          self-le k = grind (arith, nat_tests)

      as-many : (b : Birth) → covers n.ports view.owner b ≡ false → every (λ (t : model.ViewTable). not (is_space pid t) || nat_le (count (is_owned_by b) t.rows) (count (is_owned_by b) (without (found_in.lies_at view.base) t.rows))) rows.views ≡ true
      as-many b off =
          every-map (λ (t : model.ViewTable). not (is_space pid t) || nat_le (count (is_owned_by b) t.rows) (count (is_owned_by b) (without (found_in.lies_at view.base) t.rows))) (shown_space g) it.parts
          ∙ by (first (is_part pid) it.parts) refl found fewer
        where
          by : (o : Option Part) → first (is_part pid) it.parts ≡ o → Some view ≡ view_of (views_in o) address 1 → length (without (lies_at view.base) (views_in o)) + 1 ≡ length (views_in o)
              → every (λ (part : Part). not (is_part pid part) || nat_le (count (is_owned_by b) (map (shown_view g) part.views.views)) (count (is_owned_by b) (without (found_in.lies_at view.base) (map (shown_view g) part.views.views)))) it.parts ≡ true
          by None at found fewer = absurd (cc)
          by (Some part) at found fewer =
              own-rows (λ (part : Part). part.process) (λ (part : Part). nat_le (count (is_owned_by b) (map (shown_view g) part.views.views)) (count (is_owned_by b) (without (found_in.lies_at view.base) (map (shown_view g) part.views.views)))) pid it.parts part single at
              (still b part.views.views off found fewer)
