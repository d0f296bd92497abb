-- The row at a place: its key stands, and has the row's birth as name.
use Rattle.std.proofs.Common.{◌≡◌, ℕ, zero, suc, List, [], ◌∷◌, Bool, true, false, map, Option, Some, None, refl, ap, length, arith}
use Rattle.std.proofs.lemmas.Option.{same_Some}
use Rattle.std.specs.List.{slice_get}
use Rattle.std.specs.Option.{option_map}
use Rattle.lpc_base.specs.declared.birth.Birth.{Birth}
use Rattle.lpc_base.specs.Rows.{every, first}
use Rattle.lpc_base.proofs.Births.{birth-self}
use Rattle.lpc_model.specs.Found.{is_content, same_birth}
use Rattle.lpc_ports.specs.Table.{QueuedMessage}
use Rattle.lpc_sections.specs.Sections.{SectionRow}
use Rattle.lpc_slots.specs.declared.Key.{Key}
use Rattle.lpc_slots.specs.Table.{parts}
use Rattle.lpc_rows.specs.Names.{are_apart, differs, name_of, names_of, stands}
use Rattle.lpc_rows.specs.Shown.{Births, all_pass, message_refs, object_stands, shown_content}
use Rattle.lpc_rows.proofs.Follows.{is_own, own_birth, rows_own}

-- what passes for every row passes for the one at a place
pub every_at : {X : Type 0} (p : X → Bool) (xs : List X) (place : ℕ) (x : X) → every p xs ≡ true → slice_get xs place ≡ Some x → p x ≡ true
every_at p [] place x all here = absurd (cc)
every_at p (y ∷ ys) zero x all here = grind arith
every_at p (y ∷ ys) (suc place) x all here = grind (arith, every_at p ys place x)

-- a row at a place, as another has it
pub shown_at : {X Y : Type 0} (g : X → Y) (xs : List X) (place : ℕ) (x : X) → slice_get xs place ≡ Some x → slice_get (map g xs) place ≡ Some (g x)
shown_at g [] place x here = absurd (cc)
shown_at g (y ∷ ys) zero x here = grind arith
shown_at g (y ∷ ys) (suc place) x here = shown_at g ys place x here

-- as many rows as another has, and a row of slots at a place, without its key
pub long_shown : {X Y : Type 0} (g : X → Y) (xs : List X) → length (map g xs) ≡ length xs
long_shown g [] = refl
long_shown g (x ∷ xs) = ap suc (long_shown g xs)

pub long_held : {X Y : Type 0} (g : X → Y) (rows : List (Key × X)) → length rows ≡ length (map (λ row. row.1) (parts g rows))
long_held g [] = refl
long_held g (row ∷ rows) = ap suc (long_held g rows)

pub held_at : {X Y : Type 0} (g : X → Y) (rows : List (Key × X)) (place : ℕ) (key : Key) (x : X) → slice_get rows place ≡ Some (key, x) → slice_get (map (λ row. row.1) (parts g rows)) place ≡ Some (g x)
held_at g [] place key x here = absurd (cc)
held_at g (row ∷ rows) zero key x here = let same : row ≡ (key, x) = cc in ap (λ r. Some (g r.1)) same
held_at g (row ∷ rows) (suc place) key x here = held_at g rows place key x here

module _ {R : Type 0} (birth : R → Birth) (rows : List (Key × R)) (apart : are_apart (names_of birth rows) ≡ true) (place : ℕ) (row : Key × R) (here : slice_get rows place ≡ Some row) where
  own : is_own birth rows row ≡ true
  own = every_at (is_own birth rows) rows place row (rows_own birth rows apart) here

  pub its_key : stands (names_of birth rows) row.0 ≡ true
  its_key = let ok = own in grind (arith, ok)

  pub its_name : name_of (names_of birth rows) row.0 ≡ birth row.1
  its_name = own_birth birth rows row own

-- a row of which a part stands at a place
pub kept_at : {X Y : Type 0} (g : X → Y) (o : Option X) (y : Y) → option_map g o ≡ Some y → (x : X) × (o ≡ Some x) × (g x ≡ y)
kept_at g None y is = absurd (cc)
kept_at g (Some x) y is = (x, refl, same_Some (g x) y is)

-- the two ports that a message names stand
pub message_stands : (n : Births) (row : Key × QueuedMessage) → all_pass message_refs (object_stands n) row ≡ true → (stands n.ports row.1.queue ≡ true) × (stands n.ports row.1.message.sender ≡ true)
message_stands n row all = (grind (arith, all), grind (arith, all))

-- the first content with the birth of a section at a place is that of the section
pub content_at : (rows : List (Key × SectionRow)) (place : ℕ) (row : Key × SectionRow) → are_apart (names_of (λ (s : SectionRow). s.birth) rows) ≡ true → slice_get rows place ≡ Some row → first (is_content row.1.birth) (map shown_content rows) ≡ Some (shown_content row)
unfolding are_apart
content_at [] place row apart here = absurd (cc)
content_at (r ∷ rs) zero row apart here =
    let is : r ≡ row = cc in
    let own : same_birth row.1.birth row.1.birth ≡ true = birth-self row.1.birth in
    rw (is, own) refl
content_at (r ∷ rs) (suc place) row apart here =
    let later : are_apart (names_of (λ (s : SectionRow). s.birth) rs) ≡ true = grind (arith, apart) in
    let others : every (differs (r.0, r.1.birth)) (names_of (λ (s : SectionRow). s.birth) rs) ≡ true = grind (arith, apart) in
    let other = every_at (differs (r.0, r.1.birth)) (names_of (λ (s : SectionRow). s.birth) rs) place (row.0, row.1.birth) others (shown_at (λ (x : Key × SectionRow). (x.0, x.1.birth)) rs place row here) in
    let off : same_birth r.1.birth row.1.birth ≡ false = grind (arith, other) in
    rw off (content_at rs place row later here)
