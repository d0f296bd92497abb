-- How items are seen changes no way: a walk of bindings whose items are seen as something else ends at the same place.
use Rattle.std.proofs.Common.{◌≡◌, ◌∙◌, refl, ap, ℕ, zero, suc, Bool, true, false, List, [], ◌∷◌, ◌++◌, map, Option, None, Some, option_map, Result, Ok, Err, cond}
use Rattle.std.proofs.lemmas.Map.Made.{lookup-map_values}
use Rattle.lpc_names.specs.declared.fault.NameFault.{NameFault}
use Rattle.lpc_names.specs.declared.fault.NameFault.TheVariants.{NameInvalid}
use Rattle.lpc_names.specs.declared.names.Found.TheVariants.{Directory, Item}
use Rattle.lpc_names.specs.Path.{Path, is_too_long, same_path, spelled}
use Rattle.lpc_names.specs.Walk.{Bindings, Found, Node, Stands, LinkTo, Place, Way, Ends, Turns, node_at, at_end, turned, past, way, onwards, walk_by, walk_if, walk, lookup, found_at, free_at, there, unless_taken, free_path}
use Rattle.lpc_names.specs.Kept.{seen}
use Rattle.lpc_names.specs.Mapped.{binding_as, found_as, node_as}

module _ {T S : Type 0} (f : T → S) where
  abbrev all_as : Bindings T → Bindings S
  all_as = map (binding_as f)

  abbrev way_as : Way T → Way S
  way_as (Ends found) = Ends (option_map (found_as f) found)
  way_as (Turns path) = Turns path

  abbrev place_as : Place T → Place S
  place_as place = record { path = place.path; found = option_map (found_as f) place.found }

  node-as : (bs : Bindings T) (path : Path) → node_at (all_as bs) path ≡ option_map (node_as f) (node_at bs path)
  node-as bs path = lookup-map_values (node_as f) (same_path path) bs

  at_end-as : (found : Option (Found T)) (rest : Path) → at_end (option_map (found_as f) found) rest ≡ seen way_as (at_end found rest)
  at_end-as found [] = refl
  at_end-as found (name ∷ rest) = refl

  turned-as : (path : Path) → turned path ≡ seen way_as (turned path)
  turned-as path = by (is_too_long path)
    where
      by : (long : Bool) → cond long (Err NameInvalid) (Ok (Turns path)) ≡ seen way_as (cond long (Err NameInvalid) (Ok (Turns path)))
      by true = refl
      by false = refl

  past-as : (node : Option (Node T)) (further : Result (Way T) NameFault) (along : Result (Way S) NameFault) (rest : Path) → along ≡ seen way_as further → past (option_map (node_as f) node) along rest ≡ seen way_as (past node further rest)
  past-as None further along rest same = at_end-as None rest
  past-as (Some (LinkTo target)) further along rest same = turned-as (target ++ rest)
  past-as (Some (Stands Directory)) further along rest same = same
  past-as (Some (Stands (Item item))) further along rest same = at_end-as (Some (Item item)) rest

  way-as : (bs : Bindings T) (front path : Path) → way (all_as bs) front path ≡ seen way_as (way bs front path)
  way-as bs front [] = refl
  way-as bs front (name ∷ rest) =
      ap (λ node. past node (way (all_as bs) (front ++ name ∷ []) rest) rest) (node-as bs (front ++ name ∷ []))
      ∙ past-as (node_at bs (front ++ name ∷ [])) (way bs (front ++ name ∷ []) rest) (way (all_as bs) (front ++ name ∷ []) rest) rest (way-as bs (front ++ name ∷ []) rest)

  onwards-as : (path : Path) (further : Path → Result (Place T) NameFault) (onto : Path → Result (Place S) NameFault) → ((other : Path) → onto other ≡ seen place_as (further other))
      → (w : Result (Way T) NameFault) → onwards path onto (seen way_as w) ≡ seen place_as (onwards path further w)
  onwards-as path further onto same (Err fault) = refl
  onwards-as path further onto same (Ok (Ends found)) = refl
  onwards-as path further onto same (Ok (Turns other)) = same other

  walk_by-as : (left : ℕ) (bs : Bindings T) (path : Path) → walk_by left (all_as bs) path ≡ seen place_as (walk_by left bs path)
  unfolding walk_by
  walk_by-as zero bs path = ap (onwards path (λ other. Err NameInvalid)) (way-as bs [] path) ∙ onwards-as path (λ other. Err NameInvalid) (λ other. Err NameInvalid) (λ other. refl) (way bs [] path)
  walk_by-as (suc left) bs path = ap (onwards path (walk_by left (all_as bs))) (way-as bs [] path) ∙ onwards-as path (walk_by left bs) (walk_by left (all_as bs)) (walk_by-as left bs) (way bs [] path)

  walk-as : (bs : Bindings T) (text : List ℕ) → walk (all_as bs) text ≡ seen place_as (walk bs text)
  unfolding walk
  walk-as bs text = by (spelled text)
    where
      by : (path : Result Path NameFault) → walk_if (all_as bs) path ≡ seen place_as (walk_if bs path)
      by (Err fault) = refl
      by (Ok path) = walk_by-as 32 bs path

  -- a new name goes to the same path
  pub free_path-as : (bs : Bindings T) (text : List ℕ) → free_path (all_as bs) text ≡ free_path bs text
  free_path-as bs text = ap free_at (walk-as bs text) ∙ by (walk bs text)
    where
      taken : (path : Path) (found : Option (Found T)) → unless_taken path (option_map (found_as f) found) ≡ unless_taken path found
      taken path None = refl
      taken path (Some found) = refl

      by : (place : Result (Place T) NameFault) → free_at (seen place_as place) ≡ free_at place
      by (Err fault) = refl
      by (Ok place) = taken place.path place.found

  -- the same is found
  pub lookup-as : (bs : Bindings T) (text : List ℕ) → lookup (all_as bs) text ≡ seen (found_as f) (lookup bs text)
  lookup-as bs text = ap found_at (walk-as bs text) ∙ by (walk bs text)
    where
      found : (o : Option (Found T)) → there (option_map (found_as f) o) ≡ seen (found_as f) (there o)
      found None = refl
      found (Some x) = refl

      by : (place : Result (Place T) NameFault) → found_at (seen place_as place) ≡ seen (found_as f) (found_at place)
      by (Err fault) = refl
      by (Ok place) = found place.found
