-- What the tests of views find: the section's own row, a part of the section, and a place; and of what is given, which may be
-- none.
use Rattle.std.proofs.Common.{◌≡◌, ℕ, ◌≤◌, Bool, true, false, cond, not, Option, Some, None, refl, sym, subst, arith, ◌<◌}
use Rattle.std.specs.Prelude.{◌==◌, ◌+◌, ◌-◌, ◌*◌, ◌%◌, ◌/◌, nat_le, Result, Ok, nat_lt}
use Rattle.std.proofs.lemmas.Bool.{and_from, eqb-true, not-false}
use Rattle.std.proofs.lemmas.Bool.Decides.{nat_tests}
use Rattle.lpc_base.specs.Views.{passes_section, view_size, whole_pages}
use Rattle.lpc_base.specs.declared.status.Status.{Status}
use Rattle.lpc_base.specs.declared.status.TheConstants.{INVALID_HANDLE, INVALID_VIEW_SIZE, MAPPED_ALIGNMENT, SECTION_PROTECTION}
use Rattle.lpc_base.proofs.Births.{birth-same}
use Rattle.lpc_base.proofs.Bools.{first-true}
use Rattle.lpc_base.proofs.RowMaps.{every-first}
use Rattle.lpc_base.proofs.RowWords.{first-passes}
use Rattle.lpc_model.specs.declared.entry.ObjectKind.TheVariants as kind
use Rattle.lpc_model.specs.World.{Birth, Offer, SectionRow, ThreadRow, ViewRow, World}
use Rattle.lpc_model.specs.Found.{is_section, section_row}
use Rattle.lpc_model.specs.Lines.{ViewWord}
use Rattle.lpc_model.specs.Memory.{SECTION_MAP_WRITE, base_test, section_test, size_test}
use Rattle.lpc_model.specs.Offers.{Wanted, if_given, offer_test, offered_view, view_test, wanted_test}
use Rattle.lpc_model.specs.Refusal.{refuse_if}
use Rattle.lpc_model.specs.SoundViews.{HasSoundViews, is_sized, offers_part}
use Rattle.lpc_model.specs.Tests.{object_test}
use Rattle.lpc_model.proofs.Calls.Holding.{Holds, bind_holds, found_holds, holds_ok, not_refused}

-- What is given
-- what holds of what is given, if it is
abbrev pub Given : {A : Type 0} → (A → Type 0) → Option A → Type 0
Given P None = Unit {0}
Given P (Some x) = P x

pub given-more : {A : Type 0} (P Q : A → Type 0) → ((x : A) → P x → Q x) → (o : Option A) → Given P o → Given Q o
given-more P Q more None is = tt
given-more P Q more (Some x) is = more x is

-- what a test finds of what is given
pub given_holds : {A B : Type 0} (test : A → Result B Status) (P : A → Type 0) (Q : B → Type 0) → ((x : A) → P x → Holds Q (test x)) → (o : Option A) → Given P o → Holds (Given Q) (if_given test o)
given_holds test P Q does None is = tt
given_holds test P Q does (Some x) is = bind_holds (test x) _ (Given Q) (λ y at. holds_ok Q (test x) y (does x is) at)

pub given_any : {A B : Type 0} (test : A → Result B Status) (Q : B → Type 0) → ((x : A) → Holds Q (test x)) → (o : Option A) → Holds (Given Q) (if_given test o)
given_any test Q does None = tt
given_any test Q does (Some x) = bind_holds (test x) _ (Given Q) (λ y at. holds_ok Q (test x) y (does x) at)

-- Sections
-- the row that is found is the section's own
pub found-row : (w : World) (by : ThreadRow) (rights handle : ℕ) → Holds (λ (s : SectionRow). section_row w s.birth ≡ Some s) (section_test w by rights handle)
found-row w by rights handle =
    let P : SectionRow → Type 0 = λ s. section_row w s.birth ≡ Some s in
    bind_holds (object_test w by kind.Section rights handle) _ P (λ birth _.
    found_holds P (section_row w birth) INVALID_HANDLE (λ s row. subst (λ b. section_row w b ≡ Some s) (sym (birth-same s.birth birth (first-passes (is_section birth) w.sections s row))) row))

pub found-size : (s : SectionRow) (offset size : ℕ) → Holds (λ n. (passes_section s.size offset size ≡ false) × (n ≡ view_size s.size offset size)) (size_test s offset size)
found-size s offset size = bind_holds (refuse_if (passes_section s.size offset size) INVALID_VIEW_SIZE) _ (λ n. (passes_section s.size offset size ≡ false) × (n ≡ view_size s.size offset size)) (λ u off. (not_refused _ INVALID_VIEW_SIZE u off, refl))

-- a view of whole pages, from a whole page on, passes no section of whole pages
pub fits : (bytes offset size : ℕ) → bytes % 4096 ≡ 0 → offset % 4096 ≡ 0 → passes_section bytes offset size ≡ false → nat_le (offset + view_size bytes offset size) bytes ≡ true
fits bytes offset size whole from off = at (size == 0) refl
  where
    at : (z : Bool) → (size == 0) ≡ z → nat_le (offset + cond z (bytes - offset) (whole_pages size)) bytes ≡ true
    at true none =
        let inside : offset ≤ bytes = grind (arith, nat_tests) in
        let most : offset + (bytes - offset) ≤ bytes = omega (arith, inside) in grind (arith, nat_tests, most)
    at false some =
        let inside : offset + size ≤ bytes = grind (arith, nat_tests) in
        let most : offset + (size + 4095) / 4096 * 4096 ≤ bytes = omega (arith, inside, whole, from) in grind (arith, nat_tests, most)

-- and it shows some
shows-some : (bytes offset size : ℕ) → passes_section bytes offset size ≡ false → nat_lt 0 (view_size bytes offset size) ≡ true
shows-some bytes offset size passed = at (size == 0) refl
  where
    at : (z : Bool) → (size == 0) ≡ z → nat_lt 0 (cond z (bytes - offset) (whole_pages size)) ≡ true
    at true none =
        let inside : offset < bytes = grind (arith, nat_tests) in
        let more : 0 < bytes - offset = omega (arith, inside) in grind (arith, nat_tests, more)
    at false some =
        let one : 0 < size = grind (arith, nat_tests) in
        let more : 0 < (size + 4095) / 4096 * 4096 = omega (arith, one) in grind (arith, nat_tests, more)

-- Offers
-- what is offered is a part of a section that stands
pub record IsOffer (w : World) (o : Offer) : Type 0 where
  pub section : SectionRow
  pub row : section_row w o.section ≡ Some section
  pub part : HasSoundViews w → offers_part o section ≡ true

wanted-row : (w : World) (by : ThreadRow) (word : ViewWord) → Holds (λ (v : Wanted). section_row w v.section.birth ≡ Some v.section) (wanted_test w by word)
wanted-row w by word =
    let P : Wanted → Type 0 = λ v. section_row w v.section.birth ≡ Some v.section in
    bind_holds (section_test w by SECTION_MAP_WRITE word.handle) _ P (λ s at.
    holds_ok (λ (s : SectionRow). section_row w s.birth ≡ Some s) (section_test w by SECTION_MAP_WRITE word.handle) s (found-row w by SECTION_MAP_WRITE word.handle) at)

offered-part : (w : World) (v : Wanted) → section_row w v.section.birth ≡ Some v.section → Holds (IsOffer w) (offer_test v)
offered-part w v row =
    let s = v.section in
    bind_holds (refuse_if (not (v.offset % 4096 == 0)) MAPPED_ALIGNMENT) _ (IsOffer w) (λ a aligned.
    bind_holds (refuse_if (not s.writable) SECTION_PROTECTION) _ (IsOffer w) (λ p written.
    bind_holds (size_test s v.offset v.size) _ (IsOffer w) (λ rounded sized. record {
      section = s;
      row = row;
      part = λ t.
          let found = holds_ok (λ n. (passes_section s.size v.offset v.size ≡ false) × (n ≡ view_size s.size v.offset v.size)) (size_test s v.offset v.size) rounded (found-size s v.offset v.size) sized in
          let lawful : is_sized s ≡ true = every-first is_sized (is_section s.birth) w.sections s t.sizes row in
          let whole : s.size % 4096 ≡ 0 = eqb-true (s.size % 4096) 0 (first-true _ _ lawful) in
          let from : v.offset % 4096 ≡ 0 = eqb-true _ _ (not-false _ (not_refused _ MAPPED_ALIGNMENT a aligned)) in
          let inside : nat_le (v.offset + rounded) s.size ≡ true = subst (λ n. nat_le (v.offset + n) s.size ≡ true) (sym found.1) (fits s.size v.offset v.size whole from found.0) in
          let some : nat_lt 0 rounded ≡ true = subst (λ n. nat_lt 0 n ≡ true) (sym found.1) (shows-some s.size v.offset v.size found.0) in
          and_from _ _ some (and_from _ _ inside (not-false s.writable (not_refused (not s.writable) SECTION_PROTECTION p written)));
    })))

-- what is offered of what a word wants
pub offered : (w : World) (by : ThreadRow) (view : Option ViewWord) (wanted : Option Wanted) → if_given (wanted_test w by) view ≡ Ok wanted → Holds (Given (IsOffer w)) (if_given offer_test wanted)
offered w by view wanted at =
    let P : Wanted → Type 0 = λ v. section_row w v.section.birth ≡ Some v.section in
    given_holds offer_test P (IsOffer w) (offered-part w) wanted (holds_ok (Given P) (if_given (wanted_test w by) view) wanted (given_any (wanted_test w by) P (wanted-row w by) view) at)

-- Views
-- the view of an offer has a place in its process
pub record IsPlaced (w : World) (pid : ℕ) (port : Birth) (o : Offer) (v : ViewRow) : Type 0 where
  pub shows : v ≡ offered_view port o v.base
  pub place : base_test w pid o.size ≡ Ok v.base

pub placed : (w : World) (pid : ℕ) (port : Birth) (o : Offer) → Holds (IsPlaced w pid port o) (view_test w pid port o)
placed w pid port o = bind_holds (base_test w pid o.size) _ (IsPlaced w pid port o) (λ base at. record { shows = refl; place = at })

-- a view that is found is that of an offer
pub data IsViewOf (w : World) (pid : ℕ) (port : Birth) : Option Offer → Option ViewRow → Type 0 where
  none_offered : IsViewOf w pid port None None
  one_offered : (o : Offer) (base : ℕ) → base_test w pid o.size ≡ Ok base → IsViewOf w pid port (Some o) (Some (offered_view port o base))

pub viewed : (w : World) (pid : ℕ) (port : Birth) (offer : Option Offer) → Holds (IsViewOf w pid port offer) (if_given (view_test w pid port) offer)
viewed w pid port None = none_offered
viewed w pid port (Some o) =
    bind_holds (view_test w pid port o) _ (IsViewOf w pid port (Some o)) (λ v at.
    let p = holds_ok (IsPlaced w pid port o) (view_test w pid port o) v (placed w pid port o) at in
    subst (λ v. IsViewOf w pid port (Some o) (Some v)) (sym p.shows) (one_offered o v.base p.place))
