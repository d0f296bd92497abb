-- Bindings beside the entries of the table that keeps them.
use Rattle.std.proofs.Common.{◌≡◌, ◌∙◌, refl, ap, ℕ, zero, suc, List, [], ◌∷◌, ◌++◌, cond, Bool, true, false, nat_eq, Option, Some, None, option_map, Result, Ok, Err, OnOk, is_err, remove, filter, not, arith}
use Rattle.std.specs.Map.{lookup}
use Rattle.std.specs.Cmp.Lexicographic.{pointwise}
use Rattle.arrayvec.specs.ArrayVec.{ArrayVec}
use Rattle.lpc_names.specs.declared.names.Node.{Node}
use Rattle.lpc_base.specs.Rows.{without}
use Rattle.lpc_names.specs.Path.{Path, parts_of}
use Rattle.lpc_names.specs.Walk as names
use Rattle.lpc_names.specs.Walk.{node_at}
use Rattle.lpc_names.specs.Kept.{shown, shown_all, shown_node}
use Rattle.lpc_names.proofs.Paths.{same-parts}

module _ {T : Type 0} where
  pub node-shown : (key : List ℕ) (es : List (ArrayVec ℕ × Node T)) → node_at (shown_all es) (parts_of key) ≡ option_map (shown_node {T = T}) (lookup (λ (k : ArrayVec ℕ). pointwise nat_eq key k.items) es)
  node-shown key [] = refl
  node-shown key (e ∷ es) = ap (λ t. cond t (Some (shown_node e.1)) (node_at (shown_all es) (parts_of key))) (same-parts key e.0.items) ∙ by (node-shown key es) (pointwise nat_eq key e.0.items)
    where
      by : node_at (shown_all es) (parts_of key) ≡ option_map (shown_node {T = T}) (lookup (λ (k : ArrayVec ℕ). pointwise nat_eq key k.items) es) → (t : Bool) → cond t (Some (shown_node e.1)) (node_at (shown_all es) (parts_of key)) ≡ option_map (shown_node {T = T}) (cond t (Some e.1) (lookup (λ (k : ArrayVec ℕ). pointwise nat_eq key k.items) es))
      by more true = refl
      by more false = more

  pub shown-push : (es : List (ArrayVec ℕ × Node T)) (key : ArrayVec ℕ) (node : Node T) → shown_all (es ++ (key, node) ∷ []) ≡ shown_all es ++ (parts_of key.items, shown_node node) ∷ []
  shown-push [] key node = refl
  shown-push (e ∷ es) key node = ap (λ rest. shown e ∷ rest) (shown-push es key node)

  pub shown-remove : (es : List (ArrayVec ℕ × Node T)) (i : ℕ) → shown_all (remove es i) ≡ remove (shown_all es) i
  shown-remove [] zero = refl
  shown-remove [] (suc i) = refl
  shown-remove (e ∷ es) zero = refl
  shown-remove (e ∷ es) (suc i) = ap (λ rest. shown e ∷ rest) (shown-remove es i)

  -- the entries whose bindings don't pass a test are the bindings that don't
  pub shown-without : (test : Path × names.Node T → Bool) (es : List (ArrayVec ℕ × Node T)) → shown_all (filter (λ e. not (test (shown e))) es) ≡ without test (shown_all es)
  shown-without test [] = refl
  shown-without test (e ∷ es) = grind (arith, shown-without test es)

  pub none-shown : (node : Option (Node T)) → option_map (shown_node {T = T}) node ≡ None → node ≡ None
  none-shown None h = refl
  none-shown (Some node) h = absurd (cc)

pub on_ok : {A E P : Type 0} (r : Result A E) → OnOk r P → is_err r ≡ false → P
on_ok (Ok a) h e = h
on_ok (Err x) h e = absurd (cc)
