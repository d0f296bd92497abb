-- Of a port that is closed no message tells that yet, when it is posted.
use Rattle.std.proofs.Common.{◌≡◌, ◌∙◌, ◌+◌, List, [], ◌∷◌, ◌++◌, ◌&&◌, Bool, true, false, not, Some, refl, ap, sym, subst, arith}
use Rattle.std.proofs.lemmas.Bool.{true_from_ne_false}
use Rattle.lpc_base.specs.Rows.{count, each, every, first, has}
use Rattle.lpc_base.proofs.RowWords.{count-none}
use Rattle.lpc_model.specs.Close.{closing_post}
use Rattle.lpc_model.specs.Found.{handle_count, has_handle_to, is_client_port, is_open, is_port, names_port, port_name, port_row}
use Rattle.lpc_model.specs.SingleClosings.{HasSingleClosings, is_closing_of}
use Rattle.lpc_model.specs.World.{Birth, HandleRow, HandleTable, MessageRow, PortRow, World}
use Rattle.lpc_model.proofs.Steps.Closing.{cut-is, fewer-uncut, stage_five, uncut}
use Rattle.lpc_closing.specs.Closing.{is_told}
use Rattle.lpc_model.proofs.Closings.Single.{open-untold}

-- A port that handles name is open
abbrev names_it : Birth → HandleRow → Bool
names_it b h = names_port b h.object

pub count-both : (p : HandleRow → Bool) (xs ys : List HandleRow) → count p (xs ++ ys) ≡ count p xs + count p ys
count-both p [] ys = grind arith
count-both p (x ∷ xs) ys = grind (arith, count-both p xs ys)

unnamed : (b : Birth) (ts : List HandleTable) → has (has_handle_to b) ts ≡ false → count (names_it b) (each (λ t. t.rows) ts) ≡ 0
unnamed b [] shut = refl
unnamed b (t ∷ ts) shut =
    let here : has (names_it b) t.rows ≡ false = grind arith in
    let later : has (has_handle_to b) ts ≡ false = grind arith in
    let none = count-none (names_it b) t.rows here in
    let rest = unnamed b ts later in
    grind (arith, none, rest, count-both (names_it b) t.rows (each (λ t. t.rows) ts))

pub counted-open : (w : World) (b : Birth) → handle_count w (port_name b) ≡ 1 → is_open w b ≡ true
counted-open w b one = true_from_ne_false (is_open w b) (λ is. let none = unnamed b w.handles is in grind (arith, none, one))

-- The messages that tell that a port is closed
silent : (p : MessageRow → Bool) (ms : List MessageRow) → every (λ m. not (p m)) ms ≡ true → has p ms ≡ false
silent p [] none = refl
silent p (m ∷ ms) none = grind (arith, silent p ms)

each-silent : (p : MessageRow → Bool) (ms : List MessageRow) → has p ms ≡ false → every (λ m. not (p m)) ms ≡ true
each-silent p [] none = refl
each-silent p (m ∷ ms) none = grind (arith, each-silent p ms)

-- none tells it of the port of a last handle
pub last-untold : (w : World) (b : Birth) → HasSingleClosings w → handle_count w (port_name b) ≡ 1 → is_told w b ≡ false
last-untold w b u one = silent (is_closing_of b) w.messages (open-untold w b u (counted-open w b one))

-- the first five steps of the closing bring none
pub five-untold : (w : World) (b : Birth) → is_told w b ≡ false → is_told (stage_five w b) b ≡ false
five-untold w b none =
    let less = fewer-uncut w b in
    let left = less.messages (λ m. not (is_closing_of b m)) (each-silent (is_closing_of b) w.messages none) in
    subst (λ (v : World). is_told v b ≡ false) (sym (cut-is w b)) (silent (is_closing_of b) (uncut w b).messages left)

-- What is told of is a client port
pub told-client : (w : World) (p : PortRow) (m : MessageRow) → closing_post w p ≡ Some m → is_client_port p ≡ true
told-client w p m told = true_from_ne_false (is_client_port p) (λ is. grind (arith, is, told))

pub client-row : (b : Birth) (ps : List PortRow) (p : PortRow) → first (is_port b) ps ≡ Some p → is_client_port p ≡ true → has (λ p. is_port b p && is_client_port p) ps ≡ true
client-row b [] p row client = absurd (cc)
client-row b (q ∷ ps) p row client = elim (is_port b q) as (λ here. is_port b q ≡ here → has (λ p. is_port b p && is_client_port p) (q ∷ ps) ≡ true) [
  | true ↦ λ here. let same : q ≡ p = grind arith in let also : is_client_port q ≡ true = ap is_client_port same ∙ client in grind (arith, here, also)
  | false ↦ λ off. grind (arith, off, client-row b ps p)
] refl

-- so its place is kept for the message
pub place-kept : (w : World) (b : Birth) (p : PortRow) (m : MessageRow) → port_row w b ≡ Some p → closing_post w p ≡ Some m → is_told w b ≡ false
    → (has (λ p. is_port b p && is_client_port p) w.ports && not (is_told w b)) ≡ true
place-kept w b p m row told none = rw (client-row b w.ports p row (told-client w p m told), none) refl
