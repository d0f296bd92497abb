-- One row more of a table is printed behind the others.
use Rattle.std.proofs.Common.{◌≡◌, sym, ap, ◌∙◌, ℕ, zero, suc, ◌+◌, ◌<◌, ◌≤◌, List, [], ◌∷◌, ◌++◌, length, length-append, take, Some, append_assoc, append-nil, add-one, arith}
use Rattle.std.specs.Prelude.{OnErr, Result}
use Rattle.std.specs.List.{flat_map, slice_get}
use Rattle.lpc_states.proofs.Puts.{where_err}

pub one_more : {R : Type 0} (show : R → List ℕ) (rows : List R) (place : ℕ) (row : R) → slice_get rows place ≡ Some row → flat_map show (take (suc place) rows) ≡ flat_map show (take place rows) ++ show row
one_more show [] place row is = absurd (cc)
one_more show (r ∷ rs) zero row is =
    let same : r ≡ row = cc in
    rw (sym same) (append-nil (show r))
one_more show (r ∷ rs) (suc place) row is =
    ap (λ text. show r ++ text) (one_more show rs place row is)
    ∙ sym (append_assoc (show r) (flat_map show (take place rs)) (show row))

-- the texts of the rows before one, and its own, are no longer than those of all
no_longer : {R : Type 0} (show : R → List ℕ) (rows : List R) (place : ℕ) (row : R) → slice_get rows place ≡ Some row → length (flat_map show (take place rows)) + length (show row) ≤ length (flat_map show rows)
no_longer show [] place row is = absurd (cc)
no_longer show (r ∷ rs) zero row is =
    let same : r ≡ row = cc in
    rw (sym same) (omega (arith, length-append (show r) (flat_map show rs)))
no_longer show (r ∷ rs) (suc place) row is =
    omega (arith, length-append (show r) (flat_map show rs), length-append (show r) (flat_map show (take place rs)), no_longer show rs place row is)

-- where there is no room for the text of one row, there was none for those of all
pub lacks_row : {T E R : Type 0} (show : R → List ℕ) (rows : List R) (place : ℕ) (row : R) (before between : List ℕ) (held has : ℕ) (result : Result T E) → slice_get rows place ≡ Some row → between ≡ before ++ flat_map show (take place rows) → held ≤ has → has < length between + length (show row) → OnErr result (held < length before + length (flat_map show rows))
lacks_row show rows place row before between held has result is text room lacks =
    let long = simp length-append at (ap length text) in
    where_err result (omega (arith, no_longer show rows place row is, long, room, lacks))

-- the text with one row more
pub more_text : {R : Type 0} (show : R → List ℕ) (rows : List R) (place : ℕ) (row : R) (begun before after : List ℕ) → slice_get rows place ≡ Some row → before ≡ begun ++ flat_map show (take place rows) → after ≡ before ++ show row → after ≡ begun ++ flat_map show (take (place + 1) rows)
more_text show rows place row begun before after is so_far more =
    rw (more, so_far, add-one, one_more show rows place row is) (append_assoc begun (flat_map show (take place rows)) (show row))
