-- What a closing makes and what it pays: the message of an open client port is owed, and no longer behind its last
-- handle.
use Rattle.std.proofs.Common.{◌≡◌, ◌∙◌, ℕ, ◌+◌, ◌≤◌, List, [], ◌∷◌, Bool, true, false, cond, Some, refl, ap, sym, subst, arith}
use Rattle.std.specs.Prelude.{◌==◌, ◌&&◌}
use Rattle.std.proofs.lemmas.Bool.{eqb-true, and_parts}
use Rattle.lpc_base.specs.Rows.{change, count, every, first, when, without_first}
use Rattle.lpc_base.proofs.Births.{birth-same, birth-self}
use Rattle.lpc_base.proofs.RowWords.{count-fewer, count-has}
use Rattle.lpc_model.specs.declared.entry.ObjectKind.{ObjectKind}
use Rattle.lpc_model.specs.declared.entry.ObjectKind.TheVariants as kind
use Rattle.lpc_model.specs.World.{Birth, HandleRow, HandleTable, MessageRow, ObjectName, PortRow, World}
use Rattle.lpc_model.specs.Found.{handle_at, handle_count, handles_in, has_value, is_client_port, is_open, is_port, is_table, names_port, port_name, port_row, rows_in, same_birth}
use Rattle.lpc_model.specs.Basics.{Basic, Completes, Cuts, DropsHandle, Frees, Joins, Makes, Secures, basic, completed, cut, is_end_of, secured, without_handle, world_after}
use Rattle.lpc_model.specs.Close.{close_port, closing_post}
use Rattle.lpc_model.specs.Tests.{handle_row}
use Rattle.lpc_model.proofs.Steps.Closing.{cut-is, fewer-uncut, stage_five, uncut}
use Rattle.lpc_model.proofs.Steps.Handles.{open-count}
use Rattle.lpc_model.proofs.Linked.Close.{port-steady}
use Rattle.lpc_model.proofs.Linked.Steps.{is_steady}
use Rattle.lpc_model.proofs.Steps.Rows.{count-change}
use Rattle.lpc_model.proofs.Closings.Single.{dropped-shut}
use Rattle.lpc_rows.specs.Kept.{is_open_client, open_clients, owed_rows}
use Rattle.lpc_rows.specs.OwedClosings.{is_client_of}
use Rattle.lpc_rows.proofs.OwnMessages.{count-taken_by}
use Rattle.lpc_rows.proofs.Owed.{owed-drop}
use Rattle.lpc_closing.specs.Closing.{closes_last, closing_rows, last_rows}
use Rattle.lpc_closing.proofs.HandlesKept.{handles-kept}
use Rattle.lpc_closing.proofs.FreshClosings.{client-row, count-both, counted-open, told-client}

-- A port stays of its kind while it is closed
clients-step : (w : World) (s : Basic) (b : Birth) → is_steady s ≡ true → closing_rows (basic w s) b ≡ closing_rows w b
clients-step w (Completes c) b is = count-change (is_client_of b) (is_port c) completed (λ p. refl) w.ports
clients-step w (Cuts c) b is = count-change (is_client_of b) (is_end_of c) cut (λ p. refl) w.ports
clients-step w (Secures c security) b is = count-change (is_client_of b) (is_port c) (secured security) (λ p. refl) w.ports
clients-step w (Makes p) b is = absurd (cc)
clients-step w (Joins client server context) b is = absurd (cc)
clients-step w (Frees o) b is = absurd (cc)
clients-step w s b is = refl

clients-all : (w : World) (bs : List Basic) (b : Birth) → every is_steady bs ≡ true → closing_rows (world_after w bs) b ≡ closing_rows w b
clients-all w [] b all = refl
clients-all w (s ∷ bs) b all =
    let here : is_steady s ≡ true = grind arith in
    let later : every is_steady bs ≡ true = grind arith in
    clients-all (basic w s) bs b later ∙ clients-step w s b here

clients-kept : (w : World) (b : Birth) → closing_rows (world_after w (close_port b w)) b ≡ closing_rows w b
clients-kept w b = clients-all w (close_port b w) b (port-steady b w)

pub five-clients : (w : World) (b : Birth) → closing_rows (stage_five w b) b ≡ closing_rows w b
five-clients w b =
    let less = fewer-uncut w b in
    ap (λ (v : World). closing_rows v b) (cut-is w b) ∙ (clients-step (uncut w b) (Cuts b) b refl ∙ ap (count (is_client_of b)) less.ports)

-- and is a client port where its closing is told of
pub told-rows : (w : World) (b : Birth) (p : PortRow) (m : MessageRow) → port_row w b ≡ Some p → closing_post w p ≡ Some m → 1 ≤ closing_rows w b
told-rows w b p m row told = count-has (is_client_of b) w.ports (client-row b w.ports p row (told-client w p m told))

-- Handles of an object: without the handle that goes there is one less
less-named : (p : HandleRow → Bool) (pid value : ℕ) (ts : List HandleTable) → count p (handles_in (change (is_table pid) (without_handle value) ts)) ≤ count p (handles_in ts)
less-named p pid value [] = omega arith
less-named p pid value (t ∷ ts) = at (is_table pid t) refl (less-named p pid value ts)
  where
    rest : List HandleRow
    rest = handles_in (change (is_table pid) (without_handle value) ts)

    at : (own : Bool) → is_table pid t ≡ own → count p rest ≤ count p (handles_in ts) → count p (handles_in (change (is_table pid) (without_handle value) (t ∷ ts))) ≤ count p (handles_in (t ∷ ts))
    at true is less = rw (is, count-both p (without_first (has_value value) t.rows) rest, count-both p t.rows (handles_in ts)) (let few = count-fewer p (has_value value) t.rows in omega (arith, less, few))
    at false off less = rw (off, count-both p t.rows rest, count-both p t.rows (handles_in ts)) (omega (arith, less))

one-named : (p : HandleRow → Bool) (pid value : ℕ) (ts : List HandleTable) (r : HandleRow) → first (has_value value) (rows_in (first (is_table pid) ts)) ≡ Some r → p r ≡ true
    → count p (handles_in (change (is_table pid) (without_handle value) ts)) + 1 ≤ count p (handles_in ts)
one-named p pid value [] r here its = absurd (cc)
one-named p pid value (t ∷ ts) r here its = at (is_table pid t) refl (one-named p pid value ts r)
  where
    rest : List HandleRow
    rest = handles_in (change (is_table pid) (without_handle value) ts)

    at : (own : Bool) → is_table pid t ≡ own → (first (has_value value) (rows_in (first (is_table pid) ts)) ≡ Some r → p r ≡ true → count p rest + 1 ≤ count p (handles_in ts))
        → count p (handles_in (change (is_table pid) (without_handle value) (t ∷ ts))) + 1 ≤ count p (handles_in (t ∷ ts))
    at true is later =
        let row : first (has_value value) t.rows ≡ Some r = rw is at here in
        let gone = rw its at (count-taken_by p (has_value value) t.rows r row) in
        rw (is, count-both p (without_first (has_value value) t.rows) rest, count-both p t.rows (handles_in ts)) (let less = less-named p pid value ts in omega (arith, gone, less))
    at false off later =
        let row : first (has_value value) (rows_in (first (is_table pid) ts)) ≡ Some r = rw off at here in
        rw (off, count-both p t.rows rest, count-both p t.rows (handles_in ts)) (let less = later row its in omega (arith, less))

-- so a port that one handle alone names isn't open behind it
last-shut : (w : World) (pid value access : ℕ) (b : Birth) → handle_at w pid value ≡ Some (handle_row value (port_name b) access) → handle_count w (port_name b) ≡ 1 → is_open (basic w (DropsHandle pid value)) b ≡ false
last-shut w pid value access b here one =
    let v = basic w (DropsHandle pid value) in
    let less = one-named (λ h. names_port b h.object) pid value w.handles (handle_row value (port_name b) access) here (birth-self b) in
    at v (is_open v b) refl less
  where
    at : (v : World) (o : Bool) → is_open v b ≡ o → handle_count v (port_name b) + 1 ≤ handle_count w (port_name b) → o ≡ false
    at v true is less = let some = open-count v b is in absurd (omega (arith, some, less, one))
    at v false is less = refl

-- What is owed
sums : {X : Type 0} (p q r : X → Bool) → ((x : X) → q x ≡ false → p x ≡ false) → ((x : X) → r x ≡ true → (q x ≡ true) × (p x ≡ false)) → (xs : List X) → count p xs + count r xs ≤ count q xs
sums p q r off own [] = omega arith
sums p q r off own (x ∷ xs) = grind (arith, off x, own x, sums p q r off own xs)

-- the closing of an open port is no longer owed where a handle went that closes it
drop-pays : (w : World) (pid value : ℕ) (b : Birth) → is_open w b ≡ true → is_open (basic w (DropsHandle pid value)) b ≡ false → owed_rows (basic w (DropsHandle pid value)) + closing_rows w b ≤ owed_rows w
drop-pays w pid value b opens shut =
    let v = basic w (DropsHandle pid value) in
    let clients : open_clients v + closing_rows w b ≤ open_clients w = sums (is_open_client v) (is_open_client w) (is_client_of b) (λ p off. still (is_client_port p) (is_open w p.birth) (is_open v p.birth) (dropped-shut w pid value p.birth) off) (λ p its. closed p (and_parts (same_birth p.birth b) (is_client_port p) its)) w.ports in
    omega (arith, clients)
  where
    still : (c o u : Bool) → (o ≡ false → u ≡ false) → (c && o) ≡ false → (c && u) ≡ false
    still c o u less off = grind (arith, less)

    closed : (p : PortRow) → (same_birth p.birth b ≡ true) × (is_client_port p ≡ true) → (is_open_client w p ≡ true) × (is_open_client (basic w (DropsHandle pid value)) p ≡ false)
    closed p its =
        let same = birth-same p.birth b its.0 in
        let was : is_open w p.birth ≡ true = subst (λ (c : Birth). is_open w c ≡ true) (sym same) opens in
        let is : is_open (basic w (DropsHandle pid value)) p.birth ≡ false = subst (λ (c : Birth). is_open (basic w (DropsHandle pid value)) c ≡ false) (sym same) shut in
        (rw (its.1, was) refl, rw (its.1, is) refl)

-- What the close of a handle makes it pays: behind the closing of its port, where it is the last one, so much less is
-- owed
pub close-pays : (w : World) (pid value access : ℕ) (k : ObjectKind) (b : Birth) → handle_at w pid value ≡ Some (handle_row value (record { kind = k; birth = b }) access)
    → (let o : ObjectName = record { kind = k; birth = b } in let v = world_after w (closes_last o w) in owed_rows (basic v (DropsHandle pid value)) + last_rows w o ≤ owed_rows v)
close-pays w pid value access kind.Port b here = by_count (handle_count w (port_name b) == 1) refl
  where
    by_count : (one : Bool) → (handle_count w (port_name b) == 1) ≡ one
        → (let v = world_after w (when one (close_port b w)) in owed_rows (basic v (DropsHandle pid value)) + cond one (closing_rows w b) 0 ≤ owed_rows v)
    by_count false more = let less = owed-drop w pid value in omega (arith, less)
    by_count true is =
        let v = world_after w (close_port b w) in
        let one = eqb-true (handle_count w (port_name b)) 1 is in
        let same = handles-kept w b in
        let opens : is_open v b ≡ true = rw same (counted-open w b one) in
        let shut : is_open (basic v (DropsHandle pid value)) b ≡ false = rw same (last-shut w pid value access b here one) in
        let pays = drop-pays v pid value b opens shut in
        let clients = clients-kept w b in
        omega (arith, pays, clients)
close-pays w pid value access k b here = let less = owed-drop w pid value in omega (arith, less)
