-- A view that is unmapped gives its place back.
use Rattle.std.proofs.Common.{◌≡◌, ℕ, ◌+◌, List, [], ◌∷◌, Bool, true, false, cond, length, map, Option, Some, None, refl, ap, ◌∙◌, arith}
use Rattle.std.specs.Prelude.{IfNone, IfSome}
use Rattle.std.proofs.lemmas.Bool.{eqb-true}
use Rattle.lpc_base.specs.Rows.{change, without}
use Rattle.lpc_base.proofs.Differ.{rest-differ, rest-none}
use Rattle.lpc_base.proofs.RowMaps.{unseen-change}
use Rattle.lpc_base.proofs.RowWords.{change-none}
use Rattle.lpc_homes.specs.Parts.{are_single_parts, is_part, unmapped, views_at}
use Rattle.lpc_homes.specs.declared.parts.Part.{Part}
use Rattle.lpc_slots.specs.declared.Key.{Key}
use Rattle.lpc_views.specs.Views.{lies_at}
use Rattle.lpc_views.specs.declared.view.View.{View}
use Rattle.lpc_rows.specs.Capacity.{places_of_part, view_places_of}

-- one view less than there were
abbrev pub IsLess : ℕ → List (View Key) → Type 0
IsLess base vs = length (without (lies_at base) vs) + 1 ≡ length vs

unmapped_part : (base : ℕ) (part : Part) → IsLess base part.views.views → view_places_of (unmapped base part) ≡ view_places_of part
unmapped_part base part less = ap (λ k. record { process = part.process; places = k }) (omega (arith, less))

unmapped_all : (pid base : ℕ) (parts : List Part) → are_single_parts parts ≡ true → IsLess base (views_at parts pid) → map view_places_of (change (is_part pid) (unmapped base) parts) ≡ map view_places_of parts
unmapped_all pid base [] one less = refl
unmapped_all pid base (part ∷ parts) one less = at (is_part pid part) refl (unmapped_all pid base parts (rest-differ (λ (p : Part). p.process) part parts one))
  where
    Goal : Bool → Type 0
    Goal c = map view_places_of (cond c (unmapped base part) part ∷ change (is_part pid) (unmapped base) parts) ≡ map view_places_of (part ∷ parts)

    at : (c : Bool) → is_part pid part ≡ c → (IsLess base (views_at parts pid) → map view_places_of (change (is_part pid) (unmapped base) parts) ≡ map view_places_of parts) → Goal (is_part pid part)
    at true here others =
        let own : views_at (part ∷ parts) pid ≡ part.views.views = rw here refl in
        let left = ap (λ (vs : List (View Key)). length (without (lies_at base) vs)) own in
        let all = ap (λ (vs : List (View Key)). length vs) own in
        let same = unmapped_part base part (omega (arith, less, left, all)) in
        let none = rest-none (λ (p : Part). p.process) part parts pid one (eqb-true part.process pid here) in
        let rest = change-none (is_part pid) (unmapped base) parts none in
        rw (here, rest, same) refl
    at false off others =
        let own : views_at (part ∷ parts) pid ≡ views_at parts pid = rw off refl in
        let left = ap (λ (vs : List (View Key)). length (without (lies_at base) vs)) own in
        let all = ap (λ (vs : List (View Key)). length vs) own in
        let rest = others (omega (arith, less, left, all)) in
        rw (off, rest) refl

module _ (pid : ℕ) (old new : List Part) where
  pub view_places : (r : Option (View Key)) → are_single_parts old ≡ true → IfSome r (λ v. new ≡ change (is_part pid) (unmapped v.base) old) → IfSome r (λ v. IsLess v.base (views_at old pid)) → IfNone r (new ≡ old) → map view_places_of new ≡ map view_places_of old
  view_places None one gone less same = ap (map view_places_of) same
  view_places (Some v) one gone less same = ap (map view_places_of) gone ∙ unmapped_all pid v.base old one less

  pub handle_places : (r : Option (View Key)) → IfSome r (λ v. new ≡ change (is_part pid) (unmapped v.base) old) → IfNone r (new ≡ old) → map places_of_part new ≡ map places_of_part old
  handle_places None gone same = ap (map places_of_part) same
  handle_places (Some v) gone same = ap (map places_of_part) gone ∙ unseen-change places_of_part (is_part pid) (unmapped v.base) (λ part. refl) old
