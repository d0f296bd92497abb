-- Sound views: each shows a part of a section that stands, and lies apart from the others of its process.
use Rattle.std.specs.Prelude.{◌≡◌, ℕ, ◌≤◌, ◌+◌, ◌%◌, ◌==◌, ◌&&◌, ◌||◌, Bool, true, not, nat_le, nat_lt, List, [], ◌∷◌, length, map, Option, None, Some}
use Rattle.std.specs.List.{AllByRecursion}
use Rattle.lpc_base.specs.Rows.{every, passes}
use Rattle.lpc_base.specs.Views.{meets}
use Rattle.lpc_base.specs.declared.limits.TheConstants.{ALLOCATION_GRANULARITY, LOWEST_USER_ADDRESS, PAGE_SIZE, SECTION_LIMIT, USER_ADDRESS_END, VIEW_LIMIT}
use Rattle.lpc_model.specs.World.{Birth, ContentRow, Contents, Known, Offer, SectionRow, Unknown, ViewRow, WaitRow, World}
use Rattle.lpc_model.specs.Found.{offer_of, section_row, views_of}
use Rattle.lpc_model.specs.Linked.{passes_or_none}
use Rattle.lpc_model.specs.Run.{run_of}

-- Sections
-- a section has whole pages, one at least, and not too many
abbrev pub is_sized : SectionRow → Bool
is_sized s = (s.size % PAGE_SIZE == 0) && (nat_le PAGE_SIZE s.size && nat_le s.size SECTION_LIMIT)

-- a section by its size, and the bytes of one by how many they are
abbrev pub size_of : SectionRow → Birth × ℕ
size_of s = (s.birth, s.size)

abbrev pub length_of : ContentRow → Birth × ℕ
length_of c = (c.section, length c.bytes)

-- how many bytes stand for which sections, where they are known
abbrev pub lengths_of : Contents → Option (List (Birth × ℕ))
lengths_of Unknown = None
lengths_of (Known rows) = Some (map length_of rows)

-- Views
-- a view shows no more than the section has, and is written only where that may be
abbrev pub shows_part : ViewRow → SectionRow → Bool
shows_part v s = nat_le (v.offset + v.size) s.size && (not v.writable || s.writable)

abbrev pub is_inside : World → ViewRow → Bool
is_inside w v = passes (section_row w v.section) (shows_part v)

-- its base is a multiple of 65536 from 00010000, and it ends at or below 7FFF0000
abbrev pub is_placed : ViewRow → Bool
is_placed v =
    (v.base % ALLOCATION_GRANULARITY == 0)
    && (nat_le LOWEST_USER_ADDRESS v.base && nat_le (v.base + v.size) USER_ADDRESS_END)

-- two views have no address in common
abbrev pub lies_apart : ViewRow → ViewRow → Bool
lies_apart u v = not (meets u.base u.size (v.base, v.size))

abbrev pub are_apart : List ViewRow → Bool
are_apart [] = true
are_apart (v ∷ vs) = every (lies_apart v) vs && are_apart vs

-- The views of one process: each is as above, no two of them meet, and they are at most 128.
pub record AreSoundViews (w : World) (vs : List ViewRow) : Type 0 where
  pub inside : every (is_inside w) vs ≡ true
  pub placed : every is_placed vs ≡ true
  pub apart : are_apart vs ≡ true
  pub few : length vs ≤ VIEW_LIMIT

-- what a connect offers is some bytes, no more than a section has that stands, and may be written
abbrev pub offers_part : Offer → SectionRow → Bool
offers_part o s = nat_lt 0 o.size && (nat_le (o.offset + o.size) s.size && s.writable)

abbrev pub is_sound_offer : World → WaitRow → Bool
is_sound_offer w x = passes_or_none (offer_of x) (λ o. passes (section_row w o.section) (offers_part o))

abbrev pub HasSoundOffers : World → Type 0
HasSoundOffers w = every (is_sound_offer w) w.waits ≡ true

-- Of each section as many bytes stand as its size says. A process that has a table of handles has one of views, and its
-- views are sound.
pub record HasSoundViews (w : World) : Type 0 where
  pub contents : lengths_of w.contents ≡ Some (map size_of w.sections)
  pub sizes : every is_sized w.sections ≡ true
  pub tables : map (λ t. t.process) w.views ≡ map (λ t. t.process) w.handles
  pub views : (pid : ℕ) → AreSoundViews w (views_of w pid)

-- so behind each line of a script
abbrev pub RunKeepsViews : List ℕ → Type 0
RunKeepsViews bytes = AllByRecursion (λ s. HasSoundViews s.world) (run_of bytes)

abbrev pub RunKeepsOffers : List ℕ → Type 0
RunKeepsOffers bytes = AllByRecursion (λ s. HasSoundOffers s.world) (run_of bytes)
