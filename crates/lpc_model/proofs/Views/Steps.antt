-- Steps keep views in their sections and apart from each other, where they map no view and make and free no section.
use Rattle.std.proofs.Common.{◌≡◌, ℕ, ◌≤◌, List, [], ◌∷◌, ◌++◌, Bool, true, false, cond, map, not, Some, refl, ap, sym, subst, ◌∙◌, arith, length}
use Rattle.std.specs.Prelude.{◌+◌, take, drop}
use Rattle.std.proofs.lemmas.Bool.{and_from, not-true}
use Rattle.std.proofs.lemmas.List.{length-append, length-drop, length-take}
use Rattle.lpc_base.specs.Rows.{change, count, every, first, passes, without}
use Rattle.lpc_base.proofs.RowWords.{every-more, every-without}
use Rattle.lpc_base.proofs.RowMaps.{every-both, push-map, unseen-change}
use Rattle.lpc_base.proofs.Births.{birth-same}
use Rattle.lpc_model.specs.World.{Birth, ContentRow, Contents, HandleTable, Known, ObjectKind, ObjectName, SectionRow, Unknown, ViewRow, ViewTable, World}
use Rattle.lpc_model.specs.declared.entry.ObjectKind.TheVariants as kind
use Rattle.lpc_model.specs.Found.{all_views, handle_count, is_content, is_owned_by, is_section, is_space, is_table, lies_at, pointer_count, same_birth, section_name, shows_section, views_of, offers_section}
use Rattle.lpc_model.specs.Basics.{AddsHandle, AddsProcess, AddsSection, Basic, DropsHandle, DropsOwned, DropsViewsOf, Frees, Maps, Unmaps, Writes, basic, freed, in_known, no_handles, no_views, overwritten, with_handle, without_handle, without_owned, world_after, written}
use Rattle.lpc_model.specs.Sweep.{free_unheld, is_unheld, sweep, unheld}
use Rattle.lpc_model.specs.SoundViews.{AreSoundViews, HasSoundViews, are_apart, is_inside, is_placed, is_sized, length_of, lengths_of, lies_apart, shows_part, size_of}
use Rattle.lpc_model.proofs.Sound.Frees.{is-zero, less-held, none-pass, sum-second, which-all, sum-first}
use Rattle.lpc_model.proofs.Steps.InTurn.{after-append, steps-keep}
use Rattle.lpc_model.proofs.Steps.Registrations.{every-each}
use Rattle.lpc_model.proofs.Views.Tables.{reworked, views-among, views-all_reworked, views-made, views-reworked}

-- Bytes
-- bytes that are written are as many as before
overwritten-length : (place : ℕ) (new old : List ℕ) → length (overwritten place new old) ≡ length old
overwritten-length place new old =
    let parts = take place old ++ (new ++ drop (place + length new) old) in
    let taken = length-take (length old) parts in
    let one = length-append (take place old) (new ++ drop (place + length new) old) in
    let two = length-append new (drop (place + length new) old) in
    let three = length-take place old in
    let four = length-drop (place + length new) old in
    omega (arith, taken, one, two, three, four)

change-lengths : (b : Birth) (place : ℕ) (new : List ℕ) (rows : List ContentRow) → map length_of (change (is_content b) (written place new) rows) ≡ map length_of rows
change-lengths b place new [] = refl
change-lengths b place new (c ∷ rows) = at (is_content b c) (change-lengths b place new rows)
  where
    at : (k : Bool) → map length_of (change (is_content b) (written place new) rows) ≡ map length_of rows → length_of (cond k (written place new c) c) ∷ map length_of (change (is_content b) (written place new) rows) ≡ length_of c ∷ map length_of rows
    at true later = rw (overwritten-length place new c.bytes, later) refl
    at false later = rw later refl

written-lengths : (b : Birth) (place : ℕ) (new : List ℕ) (k : Contents) → lengths_of (in_known (change (is_content b) (written place new)) k) ≡ lengths_of k
written-lengths b place new (Known rows) = ap Some (change-lengths b place new rows)
written-lengths b place new Unknown = refl

-- Views that go
apart-without : (gone : ViewRow → Bool) (vs : List ViewRow) → are_apart vs ≡ true → are_apart (without gone vs) ≡ true
apart-without gone [] apart = refl
apart-without gone (v ∷ vs) apart =
    let here : every (lies_apart v) vs ≡ true = grind arith in
    let later : are_apart vs ≡ true = grind arith in
    at (gone v) (every-without (lies_apart v) gone vs here) (apart-without gone vs later)
  where
    at : (g : Bool) → every (lies_apart v) (without gone vs) ≡ true → are_apart (without gone vs) ≡ true → are_apart (cond (not g) (v ∷ without gone vs) (without gone vs)) ≡ true
    at true one two = two
    at false one two = and_from _ _ one two

length-without : (gone : ViewRow → Bool) (vs : List ViewRow) → length (without gone vs) ≤ length vs
length-without gone [] = omega arith
length-without gone (v ∷ vs) = at (gone v) (length-without gone vs)
  where
    at : (g : Bool) → length (without gone vs) ≤ length vs → length (cond (not g) (v ∷ without gone vs) (without gone vs)) ≤ length (v ∷ vs)
    at true less = omega (arith, less)
    at false less = omega (arith, less)

-- the world matters for sections alone
pub moved : (w v : World) → w.sections ≡ v.sections → (vs : List ViewRow) → AreSoundViews w vs → AreSoundViews v vs
moved w v same vs s = record { inside = subst (λ ss. every (λ x. passes (first (is_section x.section) ss) (shows_part x)) vs ≡ true) same s.inside; placed = s.placed; apart = s.apart; few = s.few }

rows-without : (w : World) (gone : ViewRow → Bool) (vs : List ViewRow) → AreSoundViews w vs → AreSoundViews w (without gone vs)
rows-without w gone vs s = record {
  inside = every-without (is_inside w) gone vs s.inside;
  placed = every-without is_placed gone vs s.placed;
  apart = apart-without gone vs s.apart;
  few = let less = length-without gone vs in let most = s.few in omega (arith, less, most);
}

no-rows : (w : World) → AreSoundViews w []
no-rows w = record { inside = refl; placed = refl; apart = refl; few = omega arith }

-- The tables are those of the same processes
tables-reworked : (q : ℕ) (g : List ViewRow → List ViewRow) (ts : List ViewTable) → map (λ (t : ViewTable). t.process) (change (is_space q) (reworked g) ts) ≡ map (λ (t : ViewTable). t.process) ts
tables-reworked q g ts = unseen-change (λ (t : ViewTable). t.process) (is_space q) (reworked g) (λ t. refl) ts

-- the rows of a process change, and stay sound
pub views-changed : (w : World) (q : ℕ) (g : List ViewRow → List ViewRow) → (AreSoundViews w (views_of w q) → AreSoundViews w (g (views_of w q))) → HasSoundViews w → HasSoundViews (record w { views = change (is_space q) (reworked g) w.views })
views-changed w q g more s =
    let v : World = record w { views = change (is_space q) (reworked g) w.views } in
    record {
      contents = s.contents;
      sizes = s.sizes;
      tables = tables-reworked q g w.views ∙ s.tables;
      views = λ pid. views-reworked (AreSoundViews v) g q pid w.views (λ same is. subst (λ n. AreSoundViews v (g (views_of w n))) same (moved w v refl _ (more (s.views q)))) (moved w v refl _ (s.views pid));
    }

-- Steps
-- a step maps no view, and makes and frees no section
abbrev pub keeps_views : Basic → Bool
keeps_views (AddsSection s) = false
keeps_views (Maps pid v) = false
keeps_views (Frees o) = false
keeps_views b = true

views-step : (w : World) (b : Basic) → keeps_views b ≡ true → HasSoundViews w → HasSoundViews (basic w b)
views-step w (Writes b place new) is s = record { contents = written-lengths b place new w.contents ∙ s.contents; sizes = s.sizes; tables = s.tables; views = λ pid. moved w (basic w (Writes b place new)) refl _ (s.views pid) }
views-step w (Unmaps pid base) is s = views-changed w pid (without (lies_at base)) (rows-without w (lies_at base) (views_of w pid)) s
views-step w (DropsViewsOf pid) is s = views-changed w pid (λ vs. []) (λ _. no-rows w) s
views-step w (DropsOwned b) is s = let v = basic w (DropsOwned b) in record {
  contents = s.contents;
  sizes = s.sizes;
  tables = mapped-processes w.views ∙ s.tables;
  views = λ pid. views-all_reworked (AreSoundViews v) (without (is_owned_by b)) pid w.views (no-rows v) (rows-without v (is_owned_by b) (views_of w pid)) (moved w v refl _ (s.views pid));
}
  where
    mapped-processes : (ts : List ViewTable) → map (λ (t : ViewTable). t.process) (map (without_owned b) ts) ≡ map (λ (t : ViewTable). t.process) ts
    mapped-processes [] = refl
    mapped-processes (t ∷ ts) = ap (λ ns. t.process ∷ ns) (mapped-processes ts)
views-step w (AddsProcess p) is s = record {
  contents = s.contents;
  sizes = s.sizes;
  tables = push-map (λ (t : ViewTable). t.process) w.views (no_views p.number) ∙ (ap (λ ns. ns ++ p.number ∷ []) s.tables ∙ sym (push-map (λ (t : HandleTable). t.process) w.handles (no_handles p.number)));
  views = λ pid. subst (AreSoundViews (basic w (AddsProcess p))) (sym (views-made p.number pid w.views)) (moved w (basic w (AddsProcess p)) refl _ (s.views pid));
}
views-step w (AddsHandle pid h) is s = record { contents = s.contents; sizes = s.sizes; tables = s.tables ∙ sym (unseen-change (λ (t : HandleTable). t.process) (is_table pid) (with_handle h) (λ t. refl) w.handles); views = λ n. moved w (basic w (AddsHandle pid h)) refl _ (s.views n) }
views-step w (DropsHandle pid value) is s = record { contents = s.contents; sizes = s.sizes; tables = s.tables ∙ sym (unseen-change (λ (t : HandleTable). t.process) (is_table pid) (without_handle value) (λ t. refl) w.handles); views = λ n. moved w (basic w (DropsHandle pid value)) refl _ (s.views n) }
views-step w (AddsSection x) is s = absurd (cc)
views-step w (Maps pid v) is s = absurd (cc)
views-step w (Frees o) is s = absurd (cc)
views-step w b is s = record { contents = s.contents; sizes = s.sizes; tables = s.tables; views = λ pid. moved w (basic w b) refl _ (s.views pid) }

pub views-all : (w : World) (bs : List Basic) → every keeps_views bs ≡ true → HasSoundViews w → HasSoundViews (world_after w bs)
views-all = steps-keep keeps_views HasSoundViews views-step

-- Sections that go
-- a section that another's end leaves is found as before
pub first-left : {X : Type 0} (p gone : X → Bool) → ((x : X) → p x ≡ true → gone x ≡ false) → (xs : List X) → first p (without gone xs) ≡ first p xs
first-left p gone apart [] = refl
first-left p gone apart (x ∷ xs) = grind (arith, apart x, first-left p gone apart xs)

map-without : {X Y : Type 0} (f : X → Y) (q : Y → Bool) (xs : List X) → map f (without (λ x. q (f x)) xs) ≡ without q (map f xs)
map-without f q [] = refl
map-without f q (x ∷ xs) = grind (arith, map-without f q xs)

left-lengths : (b : Birth) (k : Contents) (ss : List SectionRow) → lengths_of k ≡ Some (map size_of ss) → lengths_of (in_known (without (is_content b)) k) ≡ Some (map size_of (without (is_section b) ss))
left-lengths b Unknown ss is = absurd (cc)
left-lengths b (Known rows) ss is =
    let q : Birth × ℕ → Bool = λ p. same_birth p.0 b in
    let same : map length_of rows ≡ map size_of ss = some-same _ _ is in
    ap Some (map-without length_of q rows ∙ (ap (without q) same ∙ sym (map-without size_of q ss)))
  where
    some-same : (xs ys : List (Birth × ℕ)) → Some xs ≡ Some ys → xs ≡ ys
    some-same xs ys e = cc

section-gone : (w : World) (b : Birth) → pointer_count w (section_name b) ≤ 0 → HasSoundViews w → HasSoundViews (basic w (Frees (section_name b)))
section-gone w b none s =
    let unshown = none-pass (shows_section b) (all_views w) (sum-first (count (shows_section b) (all_views w)) (count (offers_section b) w.waits) (sum-second (handle_count w (section_name b)) _ none)) in
    let others = sym (every-each (λ x. not (shows_section b x)) (λ (t : ViewTable). t.rows) w.views) ∙ unshown in
    record {
      contents = left-lengths b w.contents w.sections s.contents;
      sizes = every-without is_sized (is_section b) w.sections s.sizes;
      tables = s.tables;
      views = λ pid. let was = s.views pid in record {
        inside = every-both (is_inside w) (λ v. not (shows_section b v)) (is_inside (basic w (Frees (section_name b)))) (λ v is off. left v (not-true (shows_section b v) off) is) (views_of w pid) was.inside (views-among (λ x. not (shows_section b x)) pid w.views others);
        placed = was.placed;
        apart = was.apart;
        few = was.few;
      };
    }
  where
    left : (v : ViewRow) → same_birth v.section b ≡ false → is_inside w v ≡ true → is_inside (basic w (Frees (section_name b))) v ≡ true
    left v off is = rw (first-left (is_section v.section) (is_section b) (λ x own. subst (λ d. same_birth d b ≡ false) (sym (birth-same x.birth v.section own)) off) w.sections) is

gone-views : (w : World) (o : ObjectName) → is_unheld w o ≡ true → HasSoundViews w → HasSoundViews (basic w (Frees o))
gone-views w o none s = at o.kind o.birth (is-zero (pointer_count w o) none)
  where
    at : (k : ObjectKind) (b : Birth) → pointer_count w (record { kind = k; birth = b }) ≤ 0 → HasSoundViews (freed w k b)
    at kind.Port b few = record { contents = s.contents; sizes = s.sizes; tables = s.tables; views = λ pid. moved w (freed w kind.Port b) refl _ (s.views pid) }
    at kind.Section b few = section-gone w b few s
    at kind.Token b few = record { contents = s.contents; sizes = s.sizes; tables = s.tables; views = λ pid. moved w (freed w kind.Token b) refl _ (s.views pid) }
    at kind.Process b few = record { contents = s.contents; sizes = s.sizes; tables = s.tables; views = λ pid. moved w (freed w kind.Process b) refl _ (s.views pid) }
    at kind.Thread b few = record { contents = s.contents; sizes = s.sizes; tables = s.tables; views = λ pid. moved w (freed w kind.Thread b) refl _ (s.views pid) }

all-gone : (w : World) (os : List ObjectName) → every (is_unheld w) os ≡ true → HasSoundViews w → HasSoundViews (world_after w (map Frees os))
all-gone w [] all s = s
all-gone w (o ∷ os) all s =
    let here : is_unheld w o ≡ true = grind arith in
    let later : every (is_unheld w) os ≡ true = grind arith in
    all-gone (basic w (Frees o)) os (every-more (is_unheld w) (is_unheld (basic w (Frees o))) (less-held w o) os later) (gone-views w o here s)

pub swept-views : (w : World) → HasSoundViews w → HasSoundViews (world_after w (sweep w))
unfolding sweep
swept-views w s =
    let v = world_after w (free_unheld w) in
    rw (after-append w (free_unheld w) (free_unheld v)) (all-gone v (unheld v) (which-all (is_unheld v) _) (all-gone w (unheld w) (which-all (is_unheld w) _) s))
