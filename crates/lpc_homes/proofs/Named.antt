-- The handles that name an object: what the tables tell of their own handles, and what a walk over the parts finds.
use Rattle.std.proofs.Common.{rules, ◌≡◌, ◌+◌, ◌<◌, ℕ, get_or, drop, List, [], ◌∷◌, Bool, true, cond, length, Some, refl, ap, sym, ◌∙◌, arith}
use Rattle.std.specs.Prelude.{is_some}
use Rattle.std.proofs.lemmas.List.{at_drop_more}
use Rattle.lpc_base.specs.Rows.{count, first, has}
use Rattle.lpc_base.proofs.RowWords.{count-append}
use Rattle.lpc_handles.specs.Handles as handles
use Rattle.lpc_handles.specs.declared.table.Row.{Row}
use Rattle.lpc_homes.specs.Parts.{all_rows, all_views, has_name_of, is_object, names_it}
use Rattle.lpc_homes.specs.declared.object.Object.{Object}
use Rattle.lpc_homes.specs.declared.object.Object.TheVariants as kinds
use Rattle.lpc_homes.specs.declared.parts.Part.{Part}
use Rattle.lpc_slots.specs.declared.Key.{Key}
use Rattle.lpc_views.specs.declared.view.View.{View}
use Rattle.lpc_homes.specs.contracts.object.ObjectPartialEq.TheImpl as the_impl

-- an object is compared with another
pub is_same : (object other : Object) → the_impl.eq-value.it other object ≡ is_object object other
is_same (kinds.Port a) (kinds.Port b) = search rules
is_same (kinds.Port a) (kinds.Process b) = search rules
is_same (kinds.Port a) (kinds.Thread b) = search rules
is_same (kinds.Port a) (kinds.Section b) = search rules
is_same (kinds.Port a) (kinds.Token b) = search rules
is_same (kinds.Process a) (kinds.Port b) = search rules
is_same (kinds.Process a) (kinds.Process b) = search rules
is_same (kinds.Process a) (kinds.Thread b) = search rules
is_same (kinds.Process a) (kinds.Section b) = search rules
is_same (kinds.Process a) (kinds.Token b) = search rules
is_same (kinds.Thread a) (kinds.Port b) = search rules
is_same (kinds.Thread a) (kinds.Process b) = search rules
is_same (kinds.Thread a) (kinds.Thread b) = search rules
is_same (kinds.Thread a) (kinds.Section b) = search rules
is_same (kinds.Thread a) (kinds.Token b) = search rules
is_same (kinds.Section a) (kinds.Port b) = search rules
is_same (kinds.Section a) (kinds.Process b) = search rules
is_same (kinds.Section a) (kinds.Thread b) = search rules
is_same (kinds.Section a) (kinds.Section b) = search rules
is_same (kinds.Section a) (kinds.Token b) = search rules
is_same (kinds.Token a) (kinds.Port b) = search rules
is_same (kinds.Token a) (kinds.Process b) = search rules
is_same (kinds.Token a) (kinds.Thread b) = search rules
is_same (kinds.Token a) (kinds.Section b) = search rules
is_same (kinds.Token a) (kinds.Token b) = search rules

-- a table's handles that name the object
pub named_has : (object : Object) (rows : List (ℕ × Row Object)) → has (handles.is_named the_impl.eq-value.it object) rows ≡ has (names_it object) rows
named_has object [] = refl
named_has object (row ∷ rows) = grind (arith, is_same object row.1.object, named_has object rows)

pub named_count : (object : Object) (rows : List (ℕ × Row Object)) → count (handles.is_named the_impl.eq-value.it object) rows ≡ count (names_it object) rows
named_count object [] = refl
named_count object (row ∷ rows) = grind (arith, is_same object row.1.object, named_count object rows)

-- a part that passes, behind parts that don't
pub passing_at : (p : Part → Bool) (parts : List Part) (i : ℕ) (part : Part) → i < length parts → part ≡ get_or parts i part → has p (drop i parts) ≡ has p parts → p part ≡ true → true ≡ has p parts
passing_at p parts i part lt is so_far passes =
    let head : has p (part ∷ drop (i + 1) parts) ≡ true = ap (λ b. is_some (cond b (Some part) (first p (drop (i + 1) parts)))) passes in
    sym (sym so_far ∙ at_drop_more (λ (xs : List Part). has p xs) parts i part lt ∙ ap (λ q. has p (q ∷ drop (i + 1) parts)) (sym is) ∙ head)

pub named_at : (object : Object) (parts : List Part) (i : ℕ) (part : Part) → i < length parts → part ≡ get_or parts i part → has (has_name_of object) (drop i parts) ≡ has (has_name_of object) parts → has_name_of object part ≡ true → true ≡ has (has_name_of object) parts
named_at object parts i part lt is so_far passes = passing_at (has_name_of object) parts i part lt is so_far passes

-- the handles of a part that were counted, and those of the parts behind it
pub counted_part : (p : ℕ × Row Object → Bool) (parts : List Part) (i so_far : ℕ) (part : Part) → i < length parts → part ≡ get_or parts i part
    → so_far + count p (all_rows (drop i parts)) ≡ count p (all_rows parts) → (so_far + count p part.handles.rows) + count p (all_rows (drop (i + 1) parts)) ≡ count p (all_rows parts)
counted_part p parts i so_far part lt is sum =
    let here : count p (all_rows (drop i parts)) ≡ count p (all_rows (part ∷ drop (i + 1) parts)) =
    at_drop_more (λ (ps : List Part). count p (all_rows ps)) parts i part lt ∙ ap (λ q. count p (all_rows (q ∷ drop (i + 1) parts))) (sym is) in
    omega (arith, sum, here, count-append p part.handles.rows (all_rows (drop (i + 1) parts)))

-- and the views
pub seen_part : (p : View Key → Bool) (parts : List Part) (i so_far : ℕ) (part : Part) → i < length parts → part ≡ get_or parts i part
    → so_far + count p (all_views (drop i parts)) ≡ count p (all_views parts) → (so_far + count p part.views.views) + count p (all_views (drop (i + 1) parts)) ≡ count p (all_views parts)
seen_part p parts i so_far part lt is sum =
    let here : count p (all_views (drop i parts)) ≡ count p (all_views (part ∷ drop (i + 1) parts)) =
    at_drop_more (λ (ps : List Part). count p (all_views ps)) parts i part lt ∙ ap (λ q. count p (all_views (q ∷ drop (i + 1) parts))) (sym is) in
    omega (arith, sum, here, count-append p part.views.views (all_views (drop (i + 1) parts)))
