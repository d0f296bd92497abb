-- What a name space is, and how it changes: one name comes, one name goes, or all names of an item go.
use Rattle.std.specs.Prelude.{◌≡◌, ℕ, Bool, true, false, if◌then◌else◌, List, [], ◌∷◌, ◌++◌, Result, Ok, Err, IfErr, IsOk, OnOk, slice_get}
use Rattle.std.specs.Option.{option_map_or}
use Rattle.lpc_base.specs.Rows.{without}
use Rattle.lpc_names.specs.declared.fault.NameFault.{NameFault}
use Rattle.lpc_names.specs.declared.fault.BindFault.{BindFault}
use Rattle.lpc_names.specs.declared.fault.BindFault.TheVariants.{Name, OutOfMemory}
use Rattle.lpc_names.specs.declared.names.Found.TheVariants.{Directory, Item}
use Rattle.lpc_names.specs.Path.{Path, spelled}
pub use Rattle.lpc_names.specs.Walk.{Bindings, Node, Stands, LinkTo, Found}
use Rattle.lpc_names.specs.Walk.{free_path}

-- the bindings, and how many more go in without memory
pub record NameSpace (T : Type 0) : Type 0 where
  pub bindings : Bindings T
  pub spare : ℕ

-- a call that binds is refused by the fault of the names alone, and runs out of memory only where there is none
abbrev pub Refuses : {X : Type 0} → BindFault → Result X NameFault → Type 0
Refuses (Name fault) answer = answer ≡ Err fault
Refuses OutOfMemory answer = IsOk answer

-- where such a call succeeds, these are the bindings that it leaves
abbrev pub IsBound : {T Y E : Type 0} → Result (Bindings T) NameFault → NameSpace T → Result Y E → Type 0
IsBound answer new result = OnOk result (answer ≡ Ok new.bindings)

-- where such a call fails, it is refused so
abbrev pub RefusedBy : {X Y : Type 0} → Result X NameFault → Result Y BindFault → Type 0
RefusedBy answer result = IfErr result (λ fault. Refuses fault answer)

module _ {T : Type 0} where
  -- the bindings with one more, at the free path where one was found
  abbrev pub with_node : Bindings T → Node T → Result Path NameFault → Result (Bindings T) NameFault
  with_node bindings node (Err fault) = Err fault
  with_node bindings node (Ok path) = Ok (bindings ++ (path, node) ∷ [])

  -- the bindings with one more, where the text leads
  abbrev pub bound : Bindings T → List ℕ → Node T → Result (Bindings T) NameFault
  bound bindings text node = with_node bindings node (free_path bindings text)

  -- the same with a link to the path that a text spells; a fault of the target comes before any of the text
  abbrev pub linked : Bindings T → List ℕ → Result Path NameFault → Result (Bindings T) NameFault
  linked bindings text (Err fault) = Err fault
  linked bindings text (Ok target) = bound bindings text (LinkTo target)

  -- the bindings with a link, from where a text leads to what another spells
  abbrev pub with_link : Bindings T → List ℕ → List ℕ → Result (Bindings T) NameFault
  with_link bindings text target = linked bindings text (spelled target)

  -- the bindings with an item, and with a directory, where the text leads
  abbrev pub with_item : Bindings T → List ℕ → T → Result (Bindings T) NameFault
  with_item bindings text item = bound bindings text (Stands (Item item))

  abbrev pub with_directory : Bindings T → List ℕ → Result (Bindings T) NameFault
  with_directory bindings text = bound bindings text (Stands Directory)

  -- after a refusal nothing is changed; want of memory may change the room
  abbrev pub Leaves : BindFault → NameSpace T → NameSpace T → Type 0
  Leaves (Name fault) old new = new ≡ old
  Leaves OutOfMemory old new = new.bindings ≡ old.bindings

  module _ (same : T → T → Bool) (item : T) where
    -- the item stands there itself
    abbrev pub is_item : Node T → Bool
    is_item node = elim node [
      | LinkTo target ↦ false
      | Stands found ↦ elim found [ Directory ↦ false | Item other ↦ same other item ]
    ]

    -- a name of the item
    abbrev pub is_name : Path × Node T → Bool
    is_name binding = is_item binding.1

    -- the binding at an index is a name of the item
    abbrev pub is_name_at : Bindings T → ℕ → Bool
    is_name_at bindings index = option_map_or is_name (slice_get bindings index) false

    -- the item has a name
    abbrev pub has_name : Bindings T → Bool
    has_name [] = false
    has_name (binding ∷ rest) = if is_name binding then true else has_name rest

    -- the bindings without the item's name, the first one that it was given
    abbrev pub without_name : Bindings T → Bindings T
    without_name [] = []
    without_name (binding ∷ rest) = if is_name binding then rest else binding ∷ without_name rest

    -- the bindings without any name of the item
    abbrev pub without_names : Bindings T → Bindings T
    without_names bindings = without is_name bindings
