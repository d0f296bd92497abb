-- A new handle takes the place of none: what its process had stays.
use Rattle.std.proofs.Common.{◌≡◌, ℕ, ◌≤◌, List, [], ◌∷◌, Bool, true, false, cond, not, map, Some, refl, sym, ◌∙◌, arith}
use Rattle.std.specs.Prelude.{◌&&◌, ◌||◌, nat_lt}
use Rattle.lpc_base.specs.Places.{is_in}
use Rattle.lpc_base.specs.Rows.{count, each, every, first, has, which}
use Rattle.lpc_base.proofs.Least.{least-is-free}
use Rattle.lpc_base.proofs.RowWords.{count-has, every-more, none-counted}
use Rattle.lpc_base.proofs.Births.{birth-self}
use Rattle.lpc_base.proofs.Bools.{number-apart}
use Rattle.lpc_model.specs.World.{Birth, HandleRow, HandleTable, ObjectName, World}
use Rattle.lpc_model.specs.Found.{all_handles, free_handle, handle_count, handles_of, has_handle_to, has_value, is_open, is_table, names_port, port_name, rows_in, same_object}
use Rattle.lpc_model.specs.Basics.{AddsHandle, basic, put_handle, with_handle}
use Rattle.lpc_model.specs.Tests.{handle_row}
use Rattle.lpc_model.proofs.Steps.Rows.{has-append, has-change_to, has-changed}

-- The free value
-- no handle of the process has the value that is free in it
unvalued : (value : ℕ) (rows : List HandleRow) → is_in value (map (λ h. h.value) rows) ≡ has (has_value value) rows
unvalued value [] = refl
unvalued value (h ∷ hs) = grind (arith, unvalued value hs)

pub value-free : (w : World) (pid : ℕ) → has (has_value (free_handle w pid)) (handles_of w pid) ≡ false
value-free w pid = sym (unvalued (free_handle w pid) (handles_of w pid)) ∙ least-is-free (map (λ h. h.value) (handles_of w pid))

-- One more handle
-- a row that is above or below the new one stays
has-parts : {X : Type 0} (p s low high : X → Bool) → ((x : X) → s x ≡ false → (low x || high x) ≡ true) → (xs : List X) → has s xs ≡ false → has p xs ≡ true → (has p (which low xs) || has p (which high xs)) ≡ true
has-parts p s low high parts [] none is = absurd (cc)
has-parts p s low high parts (x ∷ xs) none is = grind (arith, parts x, has-parts p s low high parts xs)

pub has-put : (p : HandleRow → Bool) (h : HandleRow) (rows : List HandleRow) → has (has_value h.value) rows ≡ false → has p rows ≡ true → has p (put_handle h rows) ≡ true
has-put p h rows none is =
    let low : HandleRow → Bool = λ r. nat_lt r.value h.value in
    let high : HandleRow → Bool = λ r. nat_lt h.value r.value in
    let split = has-append p (which low rows) (h ∷ which high rows) in
    let parts = has-parts p (has_value h.value) low high (λ r off. number-apart r.value h.value off) rows none is in
    grind (arith, split, parts)

-- where a process has one table, what that table lacks each table of the process lacks
none-here : {X : Type 0} (p q : X → Bool) (xs : List X) → has p xs ≡ false → every (λ x. not (p x && q x)) xs ≡ true
none-here p q [] none = refl
none-here p q (x ∷ xs) none = grind (arith, none-here p q xs)

one-here : (pid : ℕ) (q : HandleRow → Bool) (t : HandleTable) (ts : List HandleTable) (b : Bool) → is_table pid t ≡ b → count (is_table pid) (t ∷ ts) ≤ 1 → has q (rows_in (cond b (Some t) (first (is_table pid) ts))) ≡ false
    → (count (is_table pid) ts ≤ 1 → has q (rows_in (first (is_table pid) ts)) ≡ false → every (λ t. not (is_table pid t && has q t.rows)) ts ≡ true) → every (λ t. not (is_table pid t && has q t.rows)) (t ∷ ts) ≡ true
one-here pid q t ts true is one none later =
    let rest = none-here (is_table pid) (λ t. has q t.rows) ts (none-counted (is_table pid) ts (grind arith)) in grind arith
one-here pid q t ts false off one none later = grind (arith, later)

pub alone : (pid : ℕ) (q : HandleRow → Bool) (ts : List HandleTable) → count (is_table pid) ts ≤ 1 → has q (rows_in (first (is_table pid) ts)) ≡ false → every (λ t. not (is_table pid t && has q t.rows)) ts ≡ true
alone pid q [] one none = refl
alone pid q (t ∷ ts) one none = one-here pid q t ts (is_table pid t) refl one none (alone pid q ts)

-- an object that a handle names is named in the process that gets the handle
put-new : (b : Birth) (value access : ℕ) (t : HandleTable) → has_handle_to b (with_handle (handle_row value (port_name b) access) t) ≡ true
put-new b value access t =
    let h = handle_row value (port_name b) access in
    let low = which (λ (r : HandleRow). nat_lt r.value h.value) t.rows in
    let high = which (λ (r : HandleRow). nat_lt h.value r.value) t.rows in
    let self = birth-self b in
    let split = has-append (λ (r : HandleRow). names_port b r.object) low (h ∷ high) in
    let here : names_port b (port_name b) ≡ true = self in
    grind (arith, split, here)

-- a port is open once a process has a handle to it
pub open-new : (w : World) (pid value access : ℕ) (b : Birth) → has (is_table pid) w.handles ≡ true → is_open (basic w (AddsHandle pid (handle_row value (port_name b) access))) b ≡ true
open-new w pid value access b home =
    has-changed (has_handle_to b) (is_table pid) (with_handle (handle_row value (port_name b) access)) (λ t. put-new b value access t) w.handles home

-- a port that was open is open when a process has one more handle
kept-open : (b : Birth) (pid : ℕ) (h : HandleRow) (t : HandleTable) → not (is_table pid t && has (has_value h.value) t.rows) ≡ true → (not (is_table pid t && has_handle_to b t) || has_handle_to b (with_handle h t)) ≡ true
kept-open b pid h t lacks = grind (arith, has-put (λ r. names_port b r.object) h t.rows)

pub open-add : (w : World) (pid : ℕ) (object : ObjectName) (access : ℕ) (b : Birth) → count (is_table pid) w.handles ≤ 1 → is_open w b ≡ true → is_open (basic w (AddsHandle pid (handle_row (free_handle w pid) object access))) b ≡ true
open-add w pid object access b one is =
    let h = handle_row (free_handle w pid) object access in
    let lacks = alone pid (has_value h.value) w.handles one (value-free w pid) in
    has-change_to (has_handle_to b) (is_table pid) (with_handle h) w.handles
    (every-more _ _ (kept-open b pid h) w.handles lacks) is

-- Counts of all handles
pub has-each : {X Y : Type 0} (p : Y → Bool) (f : X → List Y) (xs : List X) → has p (each f xs) ≡ has (λ x. has p (f x)) xs
has-each p f [] = refl
has-each p f (x ∷ xs) = grind (arith, has-append p (f x) (each f xs), has-each p f xs)

-- an open port has a handle that counts
pub open-count : (w : World) (b : Birth) → is_open w b ≡ true → 1 ≤ count (λ h. names_port b h.object) (all_handles w)
open-count w b is = count-has (λ h. names_port b h.object) (all_handles w) (rw (has-each (λ h. names_port b h.object) (λ t. t.rows) w.handles) is)

-- an object has a handle that counts once a process has one to it
put-named : (o : ObjectName) (value access : ℕ) → same_object o o ≡ true → (t : HandleTable) → has (λ h. same_object h.object o) (with_handle (handle_row value o access) t).rows ≡ true
put-named o value access self t =
    let h = handle_row value o access in
    let low = which (λ (r : HandleRow). nat_lt r.value h.value) t.rows in
    let high = which (λ (r : HandleRow). nat_lt h.value r.value) t.rows in
    let split = has-append (λ (r : HandleRow). same_object r.object o) low (h ∷ high) in
    grind (arith, split, self)

pub named-new : (w : World) (pid value access : ℕ) (o : ObjectName) → same_object o o ≡ true → has (is_table pid) w.handles ≡ true → 1 ≤ handle_count (basic w (AddsHandle pid (handle_row value o access))) o
named-new w pid value access o self home =
    let v = basic w (AddsHandle pid (handle_row value o access)) in
    let named = has-changed (λ (t : HandleTable). has (λ h. same_object h.object o) t.rows) (is_table pid) (with_handle (handle_row value o access)) (λ t. put-named o value access self t) w.handles home in
    count-has (λ h. same_object h.object o) (all_handles v) (rw (has-each (λ h. same_object h.object o) (λ t. t.rows) v.handles) named)
