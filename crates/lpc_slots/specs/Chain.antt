-- Chains of rows: what a first and a last key stand for over a table.
use Rattle.std.specs.Prelude.{◌≡◌, ◌≢◌, ◌⊎◌, ◌++◌, ℕ, List, [], ◌∷◌, Option, Some, None, option_map}
use Rattle.std.specs.Option.{option_map_or, option_to_list}
use Rattle.lpc_slots.specs.declared.Key.{Key}
use Rattle.lpc_slots.specs.declared.chain.Links.{Links}
use Rattle.lpc_slots.specs.declared.chain.Chain.{Chain}
use Rattle.lpc_slots.specs.Table.{Table, at, with_value}

-- the first key, or what stands for it where there is none
abbrev pub first_or : Option Key → List Key → Option Key
first_or otherwise [] = otherwise
first_or otherwise (key ∷ keys) = Some key

-- the last key, or what stands for it where there is none
abbrev pub last_or : Option Key → List Key → Option Key
last_or otherwise [] = otherwise
last_or otherwise (key ∷ keys) = last_or (Some key) keys

-- the key, if there is one, is none of these
abbrev pub IsAway : Option Key → List Key → Type 0
IsAway key [] = Unit {0}
IsAway key (other ∷ keys) = (key ≢ Some other) × IsAway key keys

-- no two of the keys are one
abbrev pub IsDistinct : List Key → Type 0
IsDistinct [] = Unit {0}
IsDistinct (key ∷ keys) = IsAway (Some key) keys × IsDistinct keys

-- each key names the one before it and the one after it, from `before` to `after`
abbrev pub IsLinked : (Key → Option Links) → Option Key → List Key → Option Key → Type 0
IsLinked links before [] after = Unit {0}
IsLinked links before (key ∷ keys) after = (links key ≡ Some (record { before = before; after = first_or after keys })) × IsLinked links (Some key) keys after

module _ {T : Type 0} where
  -- the links at a key
  abbrev pub links_at : (T → Links) → Table T → Key → Option Links
  links_at links_of s key = option_map links_of (at s key)

  -- the row of a key is there, and names no other before it or behind it
  abbrev pub IsAlone : (T → Links) → Table T → Key → Type 0
  IsAlone links_of s key = links_at links_of s key ≡ Some (record { before = None; after = None })

  -- the value at a key is changed, if there is one
  abbrev pub changed : Table T → Option Key → (T → T) → Table T
  changed s None change = s
  changed s (Some key) change = option_map_or (λ value. with_value s key (change value)) (at s key) s

  -- the value, if there is one, is as it was but for its links
  abbrev pub IsRelinked : (T → Links → T) → Option T → Option T → Type 0
  IsRelinked with_links old new = (new ≡ old) ⊎ ((value : T) × (links : Links) × (old ≡ Some value) × (new ≡ Some (with_links value links)))

  -- no value changes but at these keys, and there only its links
  pub record Relinks (with_links : T → Links → T) (keys : List Key) (old new : Table T) : Type 0 where
    pub spare : new.spare ≡ old.spare
    pub made : new.made ≡ old.made
    pub others : (key : Key) → IsAway (Some key) keys → at new key ≡ at old key
    pub values : (key : Key) → IsRelinked with_links (at old key) (at new key)

  -- over this table the chain stands for these keys
  pub record StandsFor {LIST : ℕ} (links_of : T → Links) (s : Table T) (chain : Chain LIST) (keys : List Key) : Type 0 where
    pub linked : IsLinked (links_at links_of s) None keys None
    pub distinct : IsDistinct keys
    pub first : chain.first ≡ first_or None keys
    pub last : chain.last ≡ last_or None keys

-- what each call makes of a chain, told of each sequence that it may stand for
module _ {T : Type 0} {LIST : ℕ} where
  -- the chain stands for some keys
  abbrev pub IsStanding : (T → Links) → Table T → Chain LIST → Type 0
  IsStanding links_of s chain = (keys : List Key) × StandsFor links_of s chain keys

  -- the chain stands for some keys, and this is one of them
  abbrev pub HasIn : (T → Links) → Table T → Chain LIST → Key → Type 0
  HasIn links_of s chain key = (front : List Key) × (back : List Key) × StandsFor links_of s chain (front ++ key ∷ back)

  -- behind the keys for which the chain stood comes one that was none of them
  abbrev pub Appends : (T → Links) → Table T → Table T → Chain LIST → Chain LIST → Key → Type 0
  Appends links_of old new from to key =
      (keys : List Key) → StandsFor links_of old from keys → IsAway (Some key) keys → StandsFor links_of new to (keys ++ key ∷ [])

  -- the keys stay but this one
  abbrev pub TakesOut : (T → Links) → Table T → Table T → Chain LIST → Chain LIST → Key → Type 0
  TakesOut links_of old new from to key =
      (front back : List Key) → StandsFor links_of old from (front ++ key ∷ back) → StandsFor links_of new to (front ++ back)

  -- the keys stay but the first
  abbrev pub TakesFirst : (T → Links) → Table T → Table T → Chain LIST → Chain LIST → Type 0
  TakesFirst links_of old new from to =
      (key : Key) (keys : List Key) → StandsFor links_of old from (key ∷ keys) → StandsFor links_of new to keys

  -- no links change but those of the keys next to this one
  abbrev pub RelinksNext : (T → Links) → (T → Links → T) → Table T → Table T → Chain LIST → Key → Type 0
  RelinksNext links_of with_links old new chain key =
      (front back : List Key) → StandsFor links_of old chain (front ++ key ∷ back)
      → Relinks with_links (option_to_list (last_or None front) ++ option_to_list (first_or None back)) old new

  -- no links change but those of the key behind the first
  abbrev pub RelinksSecond : (T → Links) → (T → Links → T) → Table T → Table T → Chain LIST → Type 0
  RelinksSecond links_of with_links old new chain =
      (key : Key) (keys : List Key) → StandsFor links_of old chain (key ∷ keys)
      → Relinks with_links (option_to_list (first_or None keys)) old new
