-- A path is bound once, so a group's view of the names has at each path what it sees of what is bound there.
use Rattle.std.proofs.Common.{◌≡◌, ◌≤◌, ℕ, suc, List, [], ◌∷◌, ◌++◌, Bool, true, false, cond, Some, None, refl, nat_eq, subst, sym, arith}
use Rattle.std.specs.Cmp.Lexicographic.{pointwise}
use Rattle.lpc_base.specs.Rows.{count, which, without}
use Rattle.lpc_base.proofs.RowWords.{count-push}
use Rattle.lpc_base.proofs.Bools.{first-true, second-true}
use Rattle.lpc_names.specs.Binding.{is_name}
use Rattle.lpc_names.specs.Path.{Path, same_path}
use Rattle.lpc_names.specs.Walk.{Node, node_at}
use Rattle.lpc_model.specs.World.{Birth}
use Rattle.lpc_model.specs.Found.{same_birth}
use Rattle.lpc_model.proofs.Steps.Rows.{count-less}
use Rattle.lpc_model.specs.Circle.{Group}
use Rattle.lpc_isolation.proofs.Views.View.{our_binding, our_node}
use Rattle.lpc_isolation.proofs.Rows.Names.{Names, SeenNames, seen_node}

-- a binding is of the path
abbrev pub is_at : Path → Path × Node Birth → Bool
is_at path b = same_path path b.0

abbrev pub OnceBound : Names → Type 0
OnceBound bs = (path : Path) → count (is_at path) bs ≤ 1

nat-equal : (a b : ℕ) → nat_eq a b ≡ true → a ≡ b
nat-equal a b is = grind arith

name-equal : (a b : List ℕ) → pointwise nat_eq a b ≡ true → a ≡ b
name-equal [] [] is = refl
name-equal [] (y ∷ ys) is = absurd (cc)
name-equal (x ∷ xs) [] is = absurd (cc)
name-equal (x ∷ xs) (y ∷ ys) is = let one : x ≡ y = nat-equal x y (first-true _ _ is) in let more : xs ≡ ys = name-equal xs ys (second-true _ _ is) in rw (one, more) refl

path-equal : (a b : Path) → same_path a b ≡ true → a ≡ b
path-equal [] [] is = refl
path-equal [] (y ∷ ys) is = absurd (cc)
path-equal (x ∷ xs) [] is = absurd (cc)
path-equal (x ∷ xs) (y ∷ ys) is = let one : x ≡ y = name-equal x y (first-true _ _ is) in let more : xs ≡ ys = path-equal xs ys (second-true _ _ is) in rw (one, more) refl

-- what the view has
none-there : (m : Group) (path : Path) (bs : Names) → count (is_at path) bs ≤ 0 → node_at (which (our_binding m) bs) path ≡ None
none-there m path [] few = refl
none-there m path (b ∷ bs) few = grind (arith, none-there m path bs)

seen-at : (m : Group) (path : Path) (bs : Names) → count (is_at path) bs ≤ 1 → node_at (which (our_binding m) bs) path ≡ seen_node m (node_at bs path)
seen-at m path [] few = refl
seen-at m path (b ∷ bs) few = at (our_node m b.1) (is_at path b) refl refl few (seen-at m path bs)
  where
    at : (o t : Bool) → our_node m b.1 ≡ o → is_at path b ≡ t → count (is_at path) (b ∷ bs) ≤ 1 → (count (is_at path) bs ≤ 1 → node_at (which (our_binding m) bs) path ≡ seen_node m (node_at bs path)) → node_at (cond o (b ∷ which (our_binding m) bs) (which (our_binding m) bs)) path ≡ seen_node m (cond t (Some b.1) (node_at bs path))
    at true true ours is few rest = rw (is, ours) refl
    at true false ours is few rest = rw is (rest (rw is at few))
    at false true ours is few rest = rw ours (none-there m path bs (last (count (is_at path) bs) (rw is at few)))
      where
        last : (n : ℕ) → suc n ≤ 1 → n ≤ 0
        last n few = omega (arith, few)
    at false false ours is few rest = rest (rw is at few)

pub seen-names : (m : Group) (bs : Names) → OnceBound bs → SeenNames m bs
seen-names m bs once path = seen-at m path bs (once path)

-- one comes where nothing is bound, and the names of a port go
none-bound : (path : Path) (bs : Names) → node_at bs path ≡ None → count (is_at path) bs ≡ 0
none-bound path [] none = refl
none-bound path (b ∷ bs) none = grind (arith, none-bound path bs)

pub once-bound : (bs : Names) (place : Path) (n : Node Birth) → OnceBound bs → node_at bs place ≡ None → OnceBound (bs ++ (place, n) ∷ [])
once-bound bs place n once free path = at (same_path path place) refl
  where
    at : (t : Bool) → same_path path place ≡ t → count (is_at path) (bs ++ (place, n) ∷ []) ≤ 1
    at true is =
        let none : count (is_at path) bs ≡ 0 = none-bound path bs (subst (λ p. node_at bs p ≡ None) (sym (path-equal path place is)) free) in
        rw (count-push (is_at path) bs (place, n), none, is) (omega arith)
    at false off = rw (count-push (is_at path) bs (place, n), off) (let few = once path in omega (arith, few))

pub once-unbound : (bs : Names) (b : Birth) → OnceBound bs → OnceBound (without (is_name same_birth b) bs)
once-unbound bs b once path = count-less (is_at path) (is_name same_birth b) bs 1 (once path)
