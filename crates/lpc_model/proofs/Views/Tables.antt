-- The views of a process, where tables of views change or are made.
use Rattle.std.proofs.Common.{◌≡◌, ℕ, List, [], ◌∷◌, ◌++◌, Bool, true, false, cond, map, None, Some, refl, sym, ◌∙◌}
use Rattle.std.specs.Prelude.{◌==◌}
use Rattle.std.proofs.lemmas.Bool.{eqb-true}
use Rattle.lpc_base.specs.Rows.{change, every, first}
use Rattle.lpc_base.proofs.Bools.{first-true, second-true}
use Rattle.lpc_model.specs.World.{ViewRow, ViewTable}
use Rattle.lpc_model.specs.Found.{is_space, views_in}
use Rattle.lpc_model.specs.Basics.{no_views}

-- a table with other rows
abbrev pub reworked : (List ViewRow → List ViewRow) → ViewTable → ViewTable
reworked g t = record t { rows = g t.rows }

-- what holds of the views of a process holds of them still where the rows of a table change, if it holds of those that are
-- its own then
pub views-reworked : (P : List ViewRow → Type 0) (g : List ViewRow → List ViewRow) (q pid : ℕ) (ts : List ViewTable) → (q ≡ pid → P (views_in (first (is_space pid) ts)) → P (g (views_in (first (is_space pid) ts))))
    → P (views_in (first (is_space pid) ts)) → P (views_in (first (is_space pid) (change (is_space q) (reworked g) ts)))
views-reworked P g q pid [] more is = is
views-reworked P g q pid (t ∷ ts) more is = at (is_space q t) (is_space pid t) refl refl more is (views-reworked P g q pid ts)
  where
    at : (a b : Bool) → is_space q t ≡ a → is_space pid t ≡ b → (q ≡ pid → P (views_in (cond b (Some t) (first (is_space pid) ts))) → P (g (views_in (cond b (Some t) (first (is_space pid) ts)))))
        → P (views_in (cond b (Some t) (first (is_space pid) ts)))
        → ((q ≡ pid → P (views_in (first (is_space pid) ts)) → P (g (views_in (first (is_space pid) ts)))) → P (views_in (first (is_space pid) ts)) → P (views_in (first (is_space pid) (change (is_space q) (reworked g) ts))))
        → P (views_in (first (is_space pid) (cond a (reworked g t) t ∷ change (is_space q) (reworked g) ts)))
    at true true its own more is later = rw own (more (sym (eqb-true t.process q its) ∙ eqb-true t.process pid own) is)
    at true false its own more is later = rw own (later more is)
    at false true its own more is later = rw own is
    at false false its own more is later = rw own (later more is)

-- and where the rows of all tables change
pub views-all_reworked : (P : List ViewRow → Type 0) (g : List ViewRow → List ViewRow) (pid : ℕ) (ts : List ViewTable) → P (views_in None) → (P (views_in (first (is_space pid) ts)) → P (g (views_in (first (is_space pid) ts)))) → P (views_in (first (is_space pid) ts)) → P (views_in (first (is_space pid) (map (reworked g) ts)))
views-all_reworked P g pid [] none more is = none
views-all_reworked P g pid (t ∷ ts) none more is = at (is_space pid t) refl more is (views-all_reworked P g pid ts none)
  where
    at : (b : Bool) → is_space pid t ≡ b → (P (views_in (cond b (Some t) (first (is_space pid) ts))) → P (g (views_in (cond b (Some t) (first (is_space pid) ts)))))
        → P (views_in (cond b (Some t) (first (is_space pid) ts)))
        → ((P (views_in (first (is_space pid) ts)) → P (g (views_in (first (is_space pid) ts)))) → P (views_in (first (is_space pid) ts)) → P (views_in (first (is_space pid) (map (reworked g) ts))))
        → P (views_in (first (is_space pid) (map (reworked g) (t ∷ ts))))
    at true own more is later = rw own (more is)
    at false own more is later = rw own (later more is)

-- a table that is made has no rows
pub views-made : (q pid : ℕ) (ts : List ViewTable) → views_in (first (is_space pid) (ts ++ no_views q ∷ [])) ≡ views_in (first (is_space pid) ts)
views-made q pid [] = at (q == pid)
  where
    at : (b : Bool) → views_in (cond b (Some (no_views q)) (first (is_space pid) [])) ≡ []
    at true = refl
    at false = refl
views-made q pid (t ∷ ts) = at (is_space pid t) refl (views-made q pid ts)
  where
    at : (b : Bool) → is_space pid t ≡ b → views_in (first (is_space pid) (ts ++ no_views q ∷ [])) ≡ views_in (first (is_space pid) ts) → views_in (first (is_space pid) (t ∷ (ts ++ no_views q ∷ []))) ≡ views_in (first (is_space pid) (t ∷ ts))
    at true own later = rw own refl
    at false own later = rw own later

-- what each view of all tables has, each view of a process has
pub views-among : (p : ViewRow → Bool) (pid : ℕ) (ts : List ViewTable) → every (λ (t : ViewTable). every p t.rows) ts ≡ true → every p (views_in (first (is_space pid) ts)) ≡ true
views-among p pid [] all = refl
views-among p pid (t ∷ ts) all = at (is_space pid t) (first-true (every p t.rows) _ all) (views-among p pid ts (second-true (every p t.rows) _ all))
  where
    at : (b : Bool) → every p t.rows ≡ true → every p (views_in (first (is_space pid) ts)) ≡ true → every p (views_in (cond b (Some t) (first (is_space pid) ts))) ≡ true
    at true here later = here
    at false here later = later
