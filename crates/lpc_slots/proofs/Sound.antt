-- How each change of the slots keeps the layout, and what it makes of the rows.
use Rattle.std.proofs.Common.{◌≡◌, ◌≢◌, ◌+◌, ◌<◌, ◌≤◌, ℕ, cond, refl, sym, ap, ◌∙◌, inl, inr, eq-eqb, ne_eqb, arith, List, set, get_or, length, Option, Some, None, is_some, IsSome, true≢false}
use Rattle.std.proofs.lemmas.Bool.{cases_eq, cases_lt}
use Rattle.std.proofs.lemmas.List.{get_or-set_same, get_or-set_other, get_or_past}
use Rattle.std.proofs.lemmas.List.Sums.{sum_by-set}
use Rattle.std.specs.FinMap as map
use Rattle.slab.specs.Slab.{HasRoomFor, Slab, Updates, get, slab_len, with_value as with_slot}
use Rattle.lpc_slots.specs.declared.Key.{Key}
use Rattle.lpc_slots.specs.declared.places.Place.{Place}
use Rattle.lpc_slots.specs.Table.{key_cmp}
use Rattle.lpc_slots.specs.Layout.{AreYoung, value_for, rows_of}
use Rattle.lpc_slots.proofs.Rows.{get-rows_of, rows-insert, rows-remove}

some_of : {A : Type 0} (o : Option A) → IsSome o → (value : A) × (o ≡ Some value)
some_of None some = absurd (true≢false (sym some))
some_of (Some value) some = (value, refl)

module _ {T : Type 0} where
  -- a place with the row of this generation
  abbrev pub place_of : ℕ → T → Place T
  place_of generation value = record { generation = generation; value = value }

  -- a slot that holds something stands in the list of slots
  slot_within : (slots : List (Option (Place T))) (index : ℕ) (place : Place T) → get_or slots index None ≡ Some place → index < length slots
  slot_within slots index place read =
      elim (cases_lt index (length slots)) [
        | inl below ↦ below
        | inr past ↦ absurd (let none = get_or_past slots index None past in cc)
      ]

  -- a place answers its generation alone
  other_generation : (slots : List (Option (Place T))) (index generation : ℕ) (value : T) → get_or slots index None ≡ Some (place_of generation value) → (g : ℕ) → g ≢ generation → value_for g (get_or slots index None) ≡ None
  other_generation slots index generation value read g differs =
      ap (value_for g) read ∙ ap (λ b. cond b (Some value) None) (ne_eqb _ _ differs)

  -- a key that is found names a place of its generation
  full_from : (place : Option (Place T)) (generation : ℕ) (value : T) → value_for generation place ≡ Some value → place ≡ Some (place_of generation value)
  full_from None generation value found = cc
  full_from (Some place) generation value found =
      elim (cases_eq generation place.generation) [
        | inl same ↦
            let shown : Some place.value ≡ Some value = sym (ap (λ b. cond b (Some place.value) None) (eq-eqb _ _ same)) ∙ found in
            let value_is : place.value ≡ value = cc in
            λ i. Some (place_of (sym same i) (value_is i))
        | inr differs ↦ absurd (let shown : None ≡ Some value = sym (ap (λ b. cond b (Some place.value) None) (ne_eqb _ _ differs)) ∙ found in cc)
      ]

  full_at : (slots : List (Option (Place T))) (key : Key) (value : T) → map.get (rows_of slots) key ≡ Some value → get_or slots key.index None ≡ Some (place_of key.generation value)
  full_at slots key value found = full_from (get_or slots key.index None) key.generation value (sym (get-rows_of slots key) ∙ found)

  pub found_at : (slots : List (Option (Place T))) (key : Key) (place : Option (Place T)) → place ≡ get_or slots key.index None → value_for key.generation place ≡ map.get (rows_of slots) key
  found_at slots key place read = ap (value_for key.generation) read ∙ sym (get-rows_of slots key)

  -- a key that has a value names a place
  pub full_of : (slots : List (Option (Place T))) (key : Key) → IsSome (map.get (rows_of slots) key) → (value : T) × (map.get (rows_of slots) key ≡ Some value) × (get_or slots key.index None ≡ Some (place_of key.generation value))
  full_of slots key some =
      let found = some_of (map.get (rows_of slots) key) some in
      (found.0, found.1, full_at slots key found.0 found.1)

  pub young_of : (places : Slab (Place T)) (made : ℕ) (key : Key) → AreYoung places made → IsSome (map.get (rows_of places.slots) key) → key.generation ≤ made
  young_of places made key young some =
      let full = full_of places.slots key some in
      young key.index (place_of key.generation full.0) full.2

  -- a map with an entry is not empty
  pub some_len : (m : map.FinMap key_cmp T) (key : Key) (value : T) → map.get m key ≡ Some value → 0 < map.len m
  some_len m key value found =
      elim (cases_lt 0 (map.len m)) [
        | inl above ↦ above
        | inr empty_map ↦
            let none : map.get m key ≡ None = ap (λ n. map.get n key) (map.empty_of_len m (omega arith)) ∙ map.get-empty key_cmp key in
            absurd (cc)
      ]

  -- a place is filled: its key was vacant, and is the row's then
  pub rows-fill : (old new : Slab (Place T)) (index generation : ℕ) (value : T) → get old index ≡ None → Updates old new index (Some (place_of generation value)) → (map.get (rows_of old.slots) (record { index = index; generation = generation }) ≡ None) × (rows_of new.slots ≡ map.insert (rows_of old.slots) (record { index = index; generation = generation }) value)
  rows-fill old new index generation value vacant updates =
      let key : Key = record { index = index; generation = generation } in (
        get-rows_of old.slots key ∙ ap (value_for generation) vacant,
        rows-insert old.slots new.slots key value updates.changed updates.others (λ g differs. ap (value_for g) vacant),
      )

  pub young-fill : (old new : Slab (Place T)) (index made : ℕ) (value : T) → Updates old new index (Some (place_of (made + 1) value)) → AreYoung old made → AreYoung new (made + 1)
  young-fill old new index made value updates young at place read =
      elim (cases_eq at index) [
        | inl here ↦
            let both : Some (place_of (made + 1) value) ≡ Some place = sym updates.changed ∙ sym (ap (get new) here) ∙ read in
            let same : place_of (made + 1) value ≡ place = cc in
            omega (arith, ap (λ (p : Place T). p.generation) same)
        | inr away ↦ omega (arith, young at place (sym (updates.others at away) ∙ read))
      ]

  -- the value under a key is replaced
  pub rows-write : (slots : List (Option (Place T))) (key : Key) (old new : T) → map.get (rows_of slots) key ≡ Some old → rows_of (set slots key.index (Some (place_of key.generation new))) ≡ map.insert (rows_of slots) key new
  rows-write slots key old new found =
      let was = full_at slots key old found in
      let within = slot_within slots key.index _ was in
      rows-insert slots _ key new (get_or-set_same slots key.index _ None within) (λ other differs. get_or-set_other slots key.index other _ None differs) (other_generation slots key.index key.generation old was)

  pub young-write : (places : Slab (Place T)) (made : ℕ) (key : Key) (old new : T) → map.get (rows_of places.slots) key ≡ Some old → AreYoung places made → AreYoung (with_slot places key.index (place_of key.generation new)) made
  young-write places made key old new found young at place read =
      let was = full_at places.slots key old found in
      let within = slot_within places.slots key.index _ was in
      let slot = Some (place_of key.generation new) in
      elim (cases_eq at key.index) [
        | inl here ↦
            let wrote = get_or-set_same places.slots key.index slot None within in
            let both : slot ≡ Some place = sym wrote ∙ sym (ap (λ i. get_or (set places.slots key.index slot) i None) here) ∙ read in
            let same : place_of key.generation new ≡ place = cc in
            omega (arith, ap (λ (p : Place T). p.generation) same, young key.index (place_of key.generation old) was)
        | inr away ↦ young at place (sym (get_or-set_other places.slots key.index at slot None away) ∙ read)
      ]

  -- a write to a slot that holds something keeps the room
  pub room-write : (places : Slab (Place T)) (index spare : ℕ) (old new : Place T) → get places index ≡ Some old → HasRoomFor places spare → HasRoomFor (with_slot places index new) spare
  room-write places index spare old new was room =
      let within = slot_within places.slots index old was in
      let counted : slab_len (with_slot places index new) + 1 ≡ slab_len places + 1 = rw was at (sum_by-set (λ o. cond (is_some o) 1 0) places.slots index (Some new) None within) in
      omega (arith, counted, room)

  -- the place under a key is emptied
  pub rows-vacate : (old new : Slab (Place T)) (key : Key) (value : T) → map.get (rows_of old.slots) key ≡ Some value → Updates old new key.index None → rows_of new.slots ≡ map.remove (rows_of old.slots) key
  rows-vacate old new key value found updates =
      rows-remove old.slots new.slots key updates.changed updates.others (other_generation old.slots key.index key.generation value (full_at old.slots key value found))

  pub young-vacate : (old new : Slab (Place T)) (index made : ℕ) → Updates old new index None → AreYoung old made → AreYoung new made
  young-vacate old new index made updates young at place read =
      elim (cases_eq at index) [
        | inl here ↦ absurd (let both : None ≡ Some place = sym updates.changed ∙ sym (ap (get new) here) ∙ read in cc)
        | inr away ↦ young at place (sym (updates.others at away) ∙ read)
      ]
