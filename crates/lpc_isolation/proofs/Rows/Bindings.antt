-- A path that is free is bound to nothing.
use Rattle.std.proofs.Common.{◌≡◌, ℕ, List, Option, Some, None, refl, ap, subst, ◌∙◌}
use Rattle.std.specs.Prelude.{Result, Ok, Err}
use Rattle.lpc_model.specs.Named.{as_status, free_name}
use Rattle.lpc_model.specs.World.{Birth, Path, World}
use Rattle.lpc_names.specs.Walk.{Place, free_at, free_path, node_at, unless_taken, walk}
use Rattle.lpc_names.specs.declared.fault.NameFault.{NameFault}
use Rattle.lpc_names.specs.declared.names.Found.{Found}
use Rattle.lpc_names.proofs.Walks.{text-free}
use Rattle.lpc_isolation.proofs.Rows.Names.{Names}

-- a path that is free is bound to nothing
free-none : (bs : Names) (text : List ℕ) (path : Path) → free_path bs text ≡ Ok path → node_at bs path ≡ None
free-none bs text path is = at (walk bs text) refl is
  where
    at : (r : Result (Place Birth) NameFault) → walk bs text ≡ r → free_at r ≡ Ok path → node_at bs path ≡ None
    at (Err f) r is = absurd (cc)
    at (Ok place) r is = found place.found refl is
      where
        found : (o : Option (Found Birth)) → place.found ≡ o → unless_taken place.path o ≡ Ok path → node_at bs path ≡ None
        found None none is = let same : place.path ≡ path = cc in subst (λ p. node_at bs p ≡ None) same (text-free bs text place r none).0
        found (Some x) some is = absurd (cc)

pub free-unbound : (w : World) (text : List ℕ) (path : Path) → free_name w text ≡ Ok path → node_at w.bindings path ≡ None
free-unbound w text path is = at (free_path w.bindings text) refl is
  where
    at : (r : Result Path NameFault) → free_path w.bindings text ≡ r → as_status r ≡ Ok path → node_at w.bindings path ≡ None
    at (Err f) r is = absurd (cc)
    at (Ok p) r is = let same : p ≡ path = cc in free-none w.bindings text path (r ∙ ap (λ p. Ok p) same)
