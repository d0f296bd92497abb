-- What view words want and offer, as the definitions have it.
use Rattle.std.specs.Prelude.{ℕ, ◌+◌, ◌&&◌, Bool, List, ◌≡◌, ◌<◌, IfSome, Option, None, Some, Result, Ok, false, true, nat_le, nat_lt, option_map}
use Rattle.lpc_base.specs.Rows.{passes}
use Rattle.lpc_base.specs.declared.status.Status.{Status}
use Rattle.lpc_base.specs.declared.status.TheConstants.{INVALID_VIEW_SIZE, QUOTA_EXCEEDED, SECTION_PROTECTION}
use Rattle.lpc_model.specs.Offers as model
use Rattle.lpc_model.specs.Refusal.{found_or}
use Rattle.lpc_model.specs.Then.{◌>>=◌}
use Rattle.lpc_model.specs.World as world
use Rattle.lpc_model.specs.World.{Birth, SectionRow, ViewRow}
use Rattle.lpc_rows.specs.Clauses.{base_beside, is_of_section, new_base, section_at, view_shown}
use Rattle.lpc_rows.specs.Kept.{Kept, view_room}
use Rattle.lpc_rows.specs.Names.{some_stands, stands}
use Rattle.lpc_rows.specs.Shown.{birth_of, shown_offer}
use Rattle.lpc_slots.specs.declared.Key.{Key}
use Rattle.lpc_steps.specs.declared.offers.Wanted.{Wanted}
use Rattle.lpc_views.specs.Views.{is_placed}
use Rattle.lpc_views.specs.declared.view.MapFault.{MapFault}
use Rattle.lpc_views.specs.declared.view.MapFault.TheVariants.{InvalidViewSize, Quota, SectionProtection}
use Rattle.lpc_views.specs.declared.view.View.{View}
use Rattle.lpc_waits.specs.declared.Offer.{Offer}

-- a section where there is one
abbrev pub no_section : SectionRow
no_section = record { birth = record { maker = 0; ordinal = 0; process = 0 }; size = 0; writable = false }

abbrev pub section_in : Option SectionRow → SectionRow
section_in None = no_section
section_in (Some s) = s

-- what a view word wants, with the section's row; its section stands, where there is one
abbrev pub wanted_shown : Kept → Wanted → model.Wanted
wanted_shown w v = record { section = section_in (section_at w v.section); offset = v.offset; size = v.size }

abbrev pub has_wanted : Kept → Option Wanted → Bool
has_wanted w wanted = some_stands w.births.sections (option_map (λ (v : Wanted). v.section) wanted)

-- some bytes are offered, no more than the section has
abbrev pub is_part : Kept → Offer → Bool
is_part w o = nat_lt 0 o.size && passes (section_at w o.section) (λ s. nat_le (o.offset + o.size) s.size)

-- why a view has no size, or no place, as a status
abbrev pub mapping_status : MapFault → Status
mapping_status SectionProtection = SECTION_PROTECTION
mapping_status InvalidViewSize = INVALID_VIEW_SIZE
mapping_status Quota = QUOTA_EXCEEDED

-- what is offered, as the definitions have it
abbrev pub offer_shown : Kept → Option Offer → Option world.Offer
offer_shown w offer = option_map (shown_offer (birth_of w.births)) offer

-- a view of it at a base, which goes with no port yet; the same view as it goes with a port
abbrev pub view_at : Offer → ℕ → View Key
view_at o base = record {
  base = base;
  size = o.size;
  section = o.section;
  offset = o.offset;
  writable = true;
  owner = None;
}

abbrev pub owned_view : Kept → Birth → View Key → ViewRow
owned_view w port view = record (view_shown w view) { owner = Some port }

-- that view of a process beside further ones, which aren't mapped: too many, or no place
abbrev pub place_beside : Kept → ℕ → List (View Key) → Offer → Result (View Key) Status
place_beside w pid others o = do
  base ← found_or (base_beside w pid others o.size) QUOTA_EXCEEDED
  Ok (view_at o base)

-- a view has its place in a process: its section stands and has what it shows, and its base is the one that it gets
pub record CanLie (w : Kept) (pid : ℕ) (view : View Key) : Type 0 where
  pub section : stands w.births.sections view.section ≡ true
  pub part : is_of_section w view ≡ true
  pub placed : is_placed view ≡ true
  pub base : new_base w.rows pid view.size ≡ Some view.base

-- so has each that there is
abbrev pub CanLieAs : Kept → ℕ → Option (View Key) → Type 0
CanLieAs w pid view = IfSome view (λ v. CanLie w pid v)

-- and there is room for it
abbrev pub HasViewRoom : Kept → ℕ → Option (View Key) → Type 0
HasViewRoom w pid view = IfSome view (λ v. 0 < view_room w.room pid)

-- a view goes with a port, where there is one
abbrev pub views_owned : Kept → Birth → Option (View Key) → Option ViewRow
views_owned w port view = option_map (owned_view w port) view
