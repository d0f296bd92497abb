-- The servers on threads: no thread has two.
use Rattle.std.proofs.Common.{◌≡◌, ℕ, Bool, true, false, cond, refl, sym, ap, ◌∙◌, is_some, List, [], ◌∷◌, ◌++◌, Some, None, get_or, set}
use Rattle.std.specs.Prelude.{OnErr, OnOk, Result, Ok, Err}
use Rattle.std.specs.List.{position}
use Rattle.lpc_base.specs.Rows.{change, differ_by, first, has}
use Rattle.lpc_base.proofs.Differ.{IsRowAt, differ-change, differ-push, row-at, set-change}
use Rattle.lpc_base.proofs.Positions.{none_first}
use Rattle.lpc_base.proofs.RowWords.{change-none}
use Rattle.lpc_model.specs.Residents.{Resident, is_on}
use Rattle.lpc_subsys.specs.Clients.{ClientRow}

abbrev pub Kept : Type 0
Kept = Resident (List ClientRow)

abbrev pub thread : Kept → ℕ
thread r = r.thread

abbrev pub IsAt : (rs : List Kept) (tid place : ℕ) (r : Kept) → Type 0
IsAt = IsRowAt thread

pub found-at : (rs shown : List Kept) (tid place : ℕ) (r : Kept) → shown ≡ rs → Some place ≡ position (is_on tid) shown → r ≡ get_or rs place r → IsAt rs tid place r
found-at rs shown tid place r same found read = row-at thread rs tid place r (ap (position (is_on tid)) (sym same) ∙ sym found) read

-- the one on a thread is changed
pub set-changed : (f : Kept → Kept) (rs : List Kept) (tid place : ℕ) (r : Kept) → differ_by thread rs ≡ true → IsAt rs tid place r → set rs place (f r) ≡ change (is_on tid) f rs
set-changed f rs tid place r single at = set-change thread f rs place tid r single at.here at.own

-- and stays on it
pub single-set : (rs : List Kept) (tid place : ℕ) (r other : Kept) → differ_by thread rs ≡ true → IsAt rs tid place r → other.thread ≡ r.thread → differ_by thread (set rs place other) ≡ true
single-set rs tid place r other single at same =
    ap (λ s. differ_by thread (set rs place s)) (ap (λ n. with_thread n) same)
    ∙ ap (differ_by thread) (set-changed (λ s. with_thread s.thread) rs tid place r single at)
    ∙ differ-change thread (is_on tid) (λ s. with_thread s.thread) (λ s. refl) rs single
  where
    with_thread : ℕ → Kept
    with_thread n = record { thread = n; handle = other.handle; deed = other.deed; awaits = other.awaits; connections = other.connections; clients = other.clients }

-- one more, which comes or doesn't
pub single-pushed : (comes : Bool) (rs : List Kept) (r : Kept) → differ_by thread rs ≡ true → has (is_on r.thread) rs ≡ false → differ_by thread (cond comes (rs ++ r ∷ []) rs) ≡ true
single-pushed true rs r single new = differ-push thread rs r single new
single-pushed false rs r single new = single

-- one changed where a call went well
pub changed-set : {A E : Type 0} (f : Kept → Kept) (result : Result A E) (rs : List Kept) (tid place : ℕ) (r new : Kept) → differ_by thread rs ≡ true → IsAt rs tid place r → OnOk result (new ≡ f r) → OnOk result (set rs place new ≡ change (is_on tid) f rs)
changed-set f (Ok a) rs tid place r new single at is = ap (set rs place) is ∙ set-changed f rs tid place r single at
changed-set f (Err e) rs tid place r new single at is = tt

-- what holds holds where a call failed
pub where-err : {A E P : Type 0} (result : Result A E) → P → OnErr result P
where-err (Ok a) holds = tt
where-err (Err e) holds = holds

-- none on a thread
pub first-none : (rs : List Kept) (tid : ℕ) → None ≡ position (is_on tid) rs → None ≡ first (is_on tid) rs
first-none rs tid none = sym (none_first (is_on tid) rs (sym none))

pub change-nobody : (f : Kept → Kept) (rs : List Kept) (tid : ℕ) → None ≡ position (is_on tid) rs → rs ≡ change (is_on tid) f rs
change-nobody f rs tid none = sym (change-none (is_on tid) f rs (ap is_some (sym (first-none rs tid none))))
