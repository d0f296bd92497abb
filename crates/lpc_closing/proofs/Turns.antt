-- Handles of a process that are closed in turn: behind the first of them the others are left, and can be closed.
use Rattle.std.proofs.Common.{◌≡◌, ◌∙◌, ℕ, List, [], ◌∷◌, ◌++◌, Bool, true, false, Some, None, drop, map, refl, ap, sym, arith}
use Rattle.std.specs.Prelude.{slice_get}
use Rattle.std.proofs.lemmas.Bool.Decides.{nat_tests}
use Rattle.std.proofs.lemmas.List.{append-nil}
use Rattle.lpc_base.specs.Rows.{change, first, has, when}
use Rattle.lpc_base.proofs.RowWords.{has-change}
use Rattle.lpc_model.specs.declared.entry.Entry.{Entry}
use Rattle.lpc_handles.specs.Handles.{first_from}
use Rattle.lpc_handles.specs.declared.table.Row.{Row}
use Rattle.lpc_homes.specs.declared.object.Object.{Object}
use Rattle.lpc_model.specs.World.{Birth, HandleRow, World}
use Rattle.lpc_model.specs.Found.{handle_at, handles_of, has_value, is_table}
use Rattle.lpc_model.specs.Basics.{DropsHandle, DropsViewsOf, LetsGo, basic, doing, in_turn, without_handle, world_after, ◌▹◌}
use Rattle.lpc_model.specs.Close.{close_handle, close_port, is_last}
use Rattle.lpc_model.specs.SoundWaits.{IsSoundWorld}
use Rattle.lpc_model.proofs.Steps.Ending.{rows-left}
use Rattle.lpc_model.proofs.Linked.Close.{handle-plain}
use Rattle.lpc_model.proofs.Linked.Steps.{plain-all}
use Rattle.lpc_model.proofs.Sound.Close.{close_handle-sound}
use Rattle.lpc_model.proofs.Sound.Terminate.{lets-safe}
use Rattle.lpc_model.proofs.Closings.Single.{hushed-all}
use Rattle.lpc_model.proofs.Closings.SingleClose.{handle-untold}
use Rattle.lpc_model.proofs.Steps.InTurn.{after-append}
use Rattle.lpc_rows.specs.Does.{Left, left_by}
use Rattle.lpc_rows.specs.Shown.{shown_handle}
use Rattle.lpc_steps.proofs.Composed.{left-then, left_further}
use Rattle.lpc_closing.specs.Closing.{CanClose, CanCloseAll}
use Rattle.lpc_closing.specs.Process.{closing_all}
use Rattle.lpc_model.specs.Death.{end_process}
use Rattle.lpc_closing.proofs.HandlesKept.{handles-kept}

-- The handles that are left
-- the close of a handle takes it away, and changes no other
tables-left : (w : World) (pid : ℕ) (r : HandleRow) → (world_after w (close_handle pid r w)).handles ≡ change (is_table pid) (without_handle r.value) w.handles
tables-left w pid r = by_last (is_last r w)
  where
    by_last : (last : Bool) → (world_after w (when last (close_port r.object.birth w) ++ DropsHandle pid r.value ∷ [])).handles ≡ change (is_table pid) (without_handle r.value) w.handles
    by_last true =
        ap (λ (v : World). v.handles) (after-append w (close_port r.object.birth w) (DropsHandle pid r.value ∷ []))
        ∙ ap (change (is_table pid) (without_handle r.value)) (handles-kept w r.object.birth)
    by_last false = refl

pub table-left : (w : World) (pid : ℕ) (r : HandleRow) → has (is_table pid) w.handles ≡ true → has (is_table pid) (world_after w (close_handle pid r w)).handles ≡ true
table-left w pid r there = ap (has (is_table pid)) (tables-left w pid r) ∙ (has-change (is_table pid) (is_table pid) (without_handle r.value) (λ t. refl) w.handles ∙ there)

-- What is kept
pub can-close : (w : World) → CanCloseAll w → CanClose w
can-close w can = record { pairs = can.linked.pairs; single_closings = can.single_closings }

pub closed-can : (w : World) (pid : ℕ) (r : HandleRow) → handle_at w pid r.value ≡ Some r → CanCloseAll w → CanCloseAll (world_after w (close_handle pid r w))
closed-can w pid r at can = record {
  sound = close_handle-sound w pid r at can.sound;
  linked = plain-all w (close_handle pid r w) (handle-plain w pid r) can.linked;
  single_closings = handle-untold w pid r at can.sound can.single_closings;
}

pub let-can : (w : World) (pid : ℕ) → CanCloseAll w → CanCloseAll (basic w (LetsGo pid))
let-can w pid can =
    let untold = can.single_closings in
    let safe = lets-safe w pid (record { sound = can.sound; shut = untold.connects }) in
    record { sound = safe.sound; linked = plain-all w (LetsGo pid ∷ []) refl can.linked; single_closings = hushed-all w (LetsGo pid ∷ []) refl untold }

-- The process's ports are let go first
pub let-go : (w v : World) (pid : ℕ) (es : List Entry) (loose after : Bool) → v ≡ basic w (LetsGo pid) → after ≡ true
    → left_by v es after (closing_all pid v) ≡ left_by w es loose (end_process pid w)
let-go w v pid es loose after went still =
    let u = basic w (LetsGo pid) in
    let none = ap (λ ls. left_by u ls true (closing_all pid u)) (sym (append-nil es)) in
    ap (λ (x : World). left_by x es after (closing_all pid x)) went
    ∙ ap (λ l. left_by u es l (closing_all pid u)) still
    ∙ none
    ∙ left-then w es loose (doing (LetsGo pid ∷ [])) (closing_all pid)

-- All handles: behind the first of them, what is left to be done leaves what all of it leaves
pub one-closed : (w : World) (pid : ℕ) (r : HandleRow) (rows : List HandleRow) (es : List Entry) (loose : Bool) (l : Left) → handles_of w pid ≡ r ∷ rows → IsSoundWorld w → l ≡ left_by w es loose (close_handle pid r w)
    → left_further l (closing_all pid) ≡ left_by w es loose (closing_all pid w)
one-closed w pid r rows es loose l same sound took =
    let first = left_by w es loose (close_handle pid r w) in
    let others = in_turn (close_handle pid) rows in
    let views = doing (DropsViewsOf pid ∷ []) in
    let rest = ap (λ rs. left_further first (in_turn (close_handle pid) rs ▹ views)) (rows-left w pid r rows same sound) in
    let all = ap (λ rs. left_by w es loose ((in_turn (close_handle pid) rs ▹ views) w)) (sym same) in
    ap (λ (l : Left). left_further l (closing_all pid)) took
    ∙ rest
    ∙ sym (left-then first.world first.entries first.loose others views)
    ∙ ap (λ (l : Left). left_further l views) (left-then w es loose (close_handle pid r) others)
    ∙ left-then w es loose (close_handle pid r ▹ others) views
    ∙ all

-- where none is left, the views alone go
pub none-closed : (w v : World) (pid : ℕ) (es : List Entry) (loose after : Bool) → handles_of w pid ≡ [] → v ≡ basic w (DropsViewsOf pid) → after ≡ true
    → (let l : Left = record { world = v; entries = es; loose = after } in l ≡ left_by w es loose (closing_all pid w))
none-closed w v pid es loose after none went still = rw (none, went, still, append-nil es) refl

-- The handle that stands first, if one does
pub head-is : (rows : List HandleRow) (r : HandleRow) → slice_get rows 0 ≡ Some r → rows ≡ r ∷ drop 1 rows
head-is [] r is = absurd (cc)
head-is (x ∷ xs) r is = let same : x ≡ r = cc in ap (λ (h : HandleRow). h ∷ xs) same

pub head-none : (rows : List HandleRow) → slice_get rows 0 ≡ None → rows ≡ []
head-none [] none = refl
head-none (x ∷ xs) none = absurd (cc)

-- it is that of the least value
module _ (f : Object → Birth) where
  pub none-first : (rows : List (ℕ × Row Object)) (hs : List HandleRow) → hs ≡ map (shown_handle f) rows → None ≡ first_from rows 0 → slice_get hs 0 ≡ None
  none-first [] hs same none = rw same refl
  none-first (row ∷ rows) hs same none = absurd (grind (arith, nat_tests))

  pub some-first : (rows : List (ℕ × Row Object)) (hs : List HandleRow) (value : ℕ) → hs ≡ map (shown_handle f) rows → Some value ≡ first_from rows 0 → first (has_value value) hs ≡ slice_get hs 0
  some-first [] hs value same some = absurd (cc)
  some-first (row ∷ rows) hs value same some = rw same (grind (arith, nat_tests))
