-- What contracts see of the views of one process.
use Rattle.std.specs.Prelude.{ℕ, ◌+◌, ◌-◌, ◌≡◌, ◌≤◌, ◌==◌, ◌&&◌, Bool, true, leb, nat_lt, List, [], ◌∷◌, length, map, Option, Some, None, if◌then◌else◌, refl}
use Rattle.std.specs.Coded.{Coded, code_by, coded×, coded_ℕ, coded_bool, coded_list, coded_option}
use Rattle.lpc_base.specs.Rows.{differ_by, every, first, passes, which}
use Rattle.lpc_base.specs.declared.limits.TheConstants.{SECTION_LIMIT, USER_ADDRESS_END, VIEW_LIMIT}
use Rattle.lpc_slots.specs.Table.{is_key, key_code}
use Rattle.lpc_slots.specs.declared.Key.{Key}
use Rattle.lpc_views.specs.declared.view.Place.{Place}
use Rattle.lpc_views.specs.declared.view.View.{View}

-- the views in the order of making; how many more go in without memory
pub record Views (P : Type 0) : Type 0 where
  pub views : List (View P)
  pub spare : ℕ

module _ {P : Type 0} where
  abbrev pub view_code : Coded P → Coded (View P)
  view_code code =
      code_by
      ((ℕ × ℕ) × ((Key × ℕ) × (Bool × Option P)))
      (coded× (coded× coded_ℕ coded_ℕ) (coded× (coded× key_code coded_ℕ) (coded× coded_bool (coded_option code))))
      (λ v. ((v.base, v.size), ((v.section, v.offset), (v.writable, v.owner))))
      (λ p. record { base = p.0.0; size = p.0.1; section = p.1.0.0; offset = p.1.0.1; writable = p.1.1.0; owner = p.1.1.1 })
      (λ _. refl)

  abbrev pub views_code : Coded P → Coded (Views P)
  views_code code = code_by (List (View P) × ℕ) (coded× (coded_list (view_code code)) coded_ℕ) (λ v. (v.views, v.spare)) (λ p. record { views = p.0; spare = p.1 }) (λ _. refl)

  -- the addresses of a view
  abbrev pub range_of : View P → ℕ × ℕ
  range_of view = (view.base, view.size)

  abbrev pub ranges : List (View P) → List (ℕ × ℕ)
  ranges views = map range_of views

  -- the view holds a whole range of addresses
  abbrev pub holds : ℕ → ℕ → View P → Bool
  holds address len view = leb view.base address && leb (address + len) (view.base + view.size)

  -- the view begins at the base
  abbrev pub lies_at : ℕ → View P → Bool
  lies_at base view = view.base == base

  -- the view shows the section
  abbrev pub shows : Key → View P → Bool
  shows section view = is_key view.section section

  -- the view goes with a port, as told by a test of two ports
  abbrev pub is_owned_by : (P → P → Bool) → P → View P → Bool
  is_owned_by same owner view = passes view.owner (λ other. same other owner)

  -- the view that holds a range; the view that holds an address
  abbrev pub view_of : List (View P) → ℕ → ℕ → Option (View P)
  view_of views address len = first (holds address len) views

  abbrev pub view_at : List (View P) → ℕ → Option (View P)
  view_at views address = view_of views address 1

  -- a view that may be written holds the range
  abbrev pub is_writable_at : List (View P) → ℕ → ℕ → Bool
  is_writable_at views address len = passes (view_of views address len) (λ view. view.writable)

  -- where an address of a view lies in its section
  abbrev pub offset_of : View P → ℕ → ℕ
  offset_of view address = view.offset + (address - view.base)

  abbrev pub place_of : ℕ → View P → Place
  place_of address view = record { section = view.section; at = offset_of view address; writable = view.writable }

  -- the view of lesser base
  abbrev pub lower_of : Option (View P) → Option (View P) → Option (View P)
  lower_of None other = other
  lower_of (Some view) None = Some view
  lower_of (Some view) (Some other) = if leb view.base other.base then Some view else Some other

  -- the view of least base
  abbrev pub lowest : List (View P) → Option (View P)
  lowest [] = None
  lowest (view ∷ views) = lower_of (Some view) (lowest views)

  abbrev pub lowest_owned : (P → P → Bool) → P → List (View P) → Option (View P)
  lowest_owned same owner views = lowest (which (is_owned_by same owner) views)

  -- the view shows some bytes, lies below the end of user addresses, and shows no more than a section can have
  abbrev pub is_placed : View P → Bool
  is_placed view = nat_lt 0 view.size && (leb (view.base + view.size) USER_ADDRESS_END && leb (view.offset + view.size) SECTION_LIMIT)

  -- no more views than the limit, each well placed, and no two at one base
  pub record IsSpace (views : List (View P)) : Type 0 where
    pub few : length views ≤ VIEW_LIMIT
    pub placed : every is_placed views ≡ true
    pub bases : differ_by (λ view. view.base) views ≡ true
