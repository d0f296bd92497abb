-- What is found in a view of the views of a member, of its sections, and of the places of further views.
use Rattle.std.proofs.Common.{◌≡◌, ℕ, suc, List, [], ◌∷◌, Bool, true, false, cond, map, Option, Some, None, refl, ap, ◌∙◌}
use Rattle.std.specs.Prelude.{length, option_map}
use Rattle.std.proofs.lemmas.Bool.{eqb-true}
use Rattle.lpc_base.specs.Rows.{first}
use Rattle.lpc_base.specs.declared.status.TheConstants.{INVALID_HANDLE}
use Rattle.lpc_model.specs.declared.entry.ObjectKind.TheVariants as kind
use Rattle.lpc_model.specs.World.{Birth, ThreadRow, ViewRow, ViewTable, World}
use Rattle.lpc_model.specs.Found.{holds_range, is_section, is_space, section_row, view_holding, views_in, views_of}
use Rattle.lpc_model.specs.Refusal.{found_or}
use Rattle.lpc_model.specs.Then.{◌>>=◌}
use Rattle.lpc_model.specs.Tests.{object_test}
use Rattle.lpc_model.specs.Memory.{base_test, section_test}
use Rattle.lpc_model.specs.Circle.{Group}
use Rattle.lpc_model.proofs.Calls.Holding.{holds_ok}
use Rattle.lpc_isolation.proofs.Views.View.{hidden_section, of_birth, our_section, our_space, seen_space, seen_view, view}
use Rattle.lpc_isolation.proofs.Views.Filters.{first-inside, first-mapped, first-shown}
use Rattle.lpc_isolation.proofs.Rows.Fair.{Fair}
use Rattle.lpc_isolation.proofs.Views.Seen.{bind-same, object-own, object-view}

-- A member's views are found in a view, where they are
seen-rows : (m : Group) (o : Option ViewTable) → views_in (option_map (seen_space m) o) ≡ map (seen_view m) (views_in o)
seen-rows m None = refl
seen-rows m (Some t) = refl

views-view : (m : Group) (w : World) (pid : ℕ) → m pid ≡ true → views_of (view m w) pid ≡ map (seen_view m) (views_of w pid)
views-view m w pid inside = ap views_in (first-shown (our_space m) (is_space pid) (seen_space m) (λ t is. ap m (eqb-true t.process pid is) ∙ inside) (λ t. refl) w.views) ∙ seen-rows m (first (is_space pid) w.views)

held-same : (m : Group) (address n : ℕ) (v : ViewRow) → holds_range address n (seen_view m v) ≡ holds_range address n v
held-same m address n v = at (m v.section.process)
  where
    at : (e : Bool) → holds_range address n (cond e v (record v { section = hidden_section v.section; offset = 0 })) ≡ holds_range address n v
    at true = refl
    at false = refl

pub holding-view : (m : Group) (w : World) (pid address n : ℕ) → m pid ≡ true → view_holding (view m w) pid address n ≡ option_map (seen_view m) (view_holding w pid address n)
holding-view m w pid address n inside = ap (first (holds_range address n)) (views-view m w pid inside) ∙ first-mapped (holds_range address n) (seen_view m) (held-same m address n) (views_of w pid)

section-view : (m : Group) (w : World) (b : Birth) → m b.process ≡ true → section_row (view m w) b ≡ section_row w b
section-view m w b inside = first-inside (our_section m) (is_section b) (λ s is. of_birth m s.birth b is ∙ inside) w.sections

-- the addresses of a view
abbrev range_of : ViewRow → ℕ × ℕ
range_of v = (v.base, v.size)

range-same : (m : Group) (v : ViewRow) → range_of (seen_view m v) ≡ range_of v
range-same m v = at (m v.section.process)
  where
    at : (e : Bool) → range_of (cond e v (record v { section = hidden_section v.section; offset = 0 })) ≡ range_of v
    at true = refl
    at false = refl

ranges-same : (m : Group) (vs : List ViewRow) → map range_of (map (seen_view m) vs) ≡ map range_of vs
ranges-same m [] = refl
ranges-same m (v ∷ vs) = rw (range-same m v, ranges-same m vs) refl

length-same : (m : Group) (vs : List ViewRow) → length (map (seen_view m) vs) ≡ length vs
length-same m [] = refl
length-same m (v ∷ vs) = ap suc (length-same m vs)

-- so a further view finds its base alike
pub base-view : (m : Group) (w : World) (pid size : ℕ) → m pid ≡ true → base_test (view m w) pid size ≡ base_test w pid size
base-view m w pid size inside = rw (views-view m w pid inside, length-same m (views_of w pid), ranges-same m (views_of w pid)) refl

pub test-view : (m : Group) (c : ℕ) (w : World) (by : ThreadRow) (rights value : ℕ) → Fair m c w → m by.process ≡ true → section_test (view m w) by rights value ≡ section_test w by rights value
test-view m c w by rights value f inside =
    ap (λ r. r >>= (λ b. found_or (section_row (view m w) b) INVALID_HANDLE)) (object-view m w by kind.Section rights value inside)
    ∙ bind-same (object_test w by kind.Section rights value) _ _ (λ b at.
    let own : b.process ≡ by.process = holds_ok (λ b. b.process ≡ by.process) (object_test w by kind.Section rights value) b (object-own m c w by kind.Section rights value f) at in
    ap (λ o. found_or o INVALID_HANDLE) (section-view m w b (ap m own ∙ inside)))
