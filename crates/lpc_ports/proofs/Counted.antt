-- The stored number of the messages that were sent on a port.
use Rattle.std.proofs.Common.{◌≡◌, ◌≢◌, ◌+◌, ◌-◌, ℕ, Bool, cond, true, false, length, suc, refl, sym, ap, ◌∙◌, arith, inl, inr, List, [], ◌∷◌, ◌++◌, Some, None}
use Rattle.lpc_base.specs.Rows.{count, which, without}
use Rattle.lpc_base.proofs.RowWords.{count-push}
use Rattle.lpc_slots.specs.declared.Key.{Key}
use Rattle.lpc_slots.specs.Table.{Table, at, at_key, is_key, keys_of, with_value}
use Rattle.lpc_slots.proofs.Keys.{key_apart, key_itself}
use Rattle.lpc_ports.specs.declared.rows.PortRow.{PortRow}
use Rattle.lpc_ports.specs.Table.{QueuedMessage}
use Rattle.lpc_ports.specs.Layout.{IsPlaced, IsCounted}
use Rattle.lpc_ports.specs.Lent.{is_by, keys_by, sender_of}
use Rattle.lpc_ports.proofs.Lists.{gone_off, gone_on, split_by}
use Rattle.lpc_ports.proofs.Stand.{written}

length_keys : {X : Type 0} (rows : List (Key × X)) → length (keys_of rows) ≡ length rows
length_keys [] = refl
length_keys (row ∷ rows) = ap suc (length_keys rows)

-- a count is the number of keys
as_keys : (owner : QueuedMessage → Key) (port : Key) (messages : List (Key × QueuedMessage)) → count (is_by owner port) messages ≡ length (keys_by owner port messages)
as_keys owner port messages = sym (length_keys (which (is_by owner port) messages))

length_split : (front : List Key) (key : Key) (back : List Key) → length (front ++ key ∷ back) ≡ length (front ++ back) + 1
length_split [] key back = omega arith
length_split (k ∷ front) key back = let rest = length_split front key back in omega arith

-- a message that goes counts one less at its port, and none elsewhere
pub counts_on : (owner : QueuedMessage → Key) (key port : Key) (messages : List (Key × QueuedMessage)) → IsPlaced owner key port messages → count (is_by owner port) (without (at_key key) messages) + 1 ≡ count (is_by owner port) messages
counts_on owner key port messages placed =
    let split = split_by owner key port messages placed.stands in
    let left : count (is_by owner port) (without (at_key key) messages) ≡ length (split.0 ++ split.1) = as_keys owner port (without (at_key key) messages) ∙ ap length (gone_on owner key port messages split.0 split.1 placed.distinct split.2) in
    let all : count (is_by owner port) messages ≡ length (split.0 ++ key ∷ split.1) = as_keys owner port messages ∙ ap length split.2 in
    omega (arith, left, all, length_split split.0 key split.1)

pub counts_off : (owner : QueuedMessage → Key) (key port other : Key) (messages : List (Key × QueuedMessage)) → IsPlaced owner key port messages → port ≢ other → count (is_by owner other) (without (at_key key) messages) ≡ count (is_by owner other) messages
counts_off owner key port other messages placed differ =
    let split = split_by owner key port messages placed.stands in
    as_keys owner other (without (at_key key) messages) ∙ ap length (gone_off owner key port other messages split.0 split.1 placed.distinct split.2 differ) ∙ sym (as_keys owner other messages)

module _ (ports : Table PortRow) (port key : Key) (messages : List (Key × QueuedMessage)) (counted : IsCounted ports messages) where
  pub counted_same : (row fresh : PortRow) → at ports port ≡ Some row → fresh.sent_count ≡ row.sent_count → IsCounted (with_value ports port fresh) messages
  counted_same row fresh there same q other found =
      elim (written ports port q fresh other found) [
        | inl here ↦ ap (λ (r : PortRow). r.sent_count) here.1 ∙ same ∙ counted port row there ∙ ap (λ p. count (is_by sender_of p) messages) (sym here.0)
        | inr away ↦ counted q other away.1
      ]

  pushed : (q : Key) (value : QueuedMessage) (b : Bool) → is_key (sender_of value) q ≡ b → count (is_by sender_of q) (messages ++ (key, value) ∷ []) ≡ count (is_by sender_of q) messages + cond b 1 0
  pushed q value b is = count-push (is_by sender_of q) messages (key, value) ∙ ap (λ (b : Bool). count (is_by sender_of q) messages + cond b 1 0) is

  more : (n m k : ℕ) → n ≡ m + 1 → m ≡ k → n ≡ k + 1
  more n m k one two = omega arith

  none : (n m : ℕ) → n ≡ m → n ≡ m + 0
  none n m is = omega arith

  pub counted_push : (row fresh : PortRow) (value : QueuedMessage) → at ports port ≡ Some row → fresh.sent_count ≡ row.sent_count + 1 → sender_of value ≡ port → IsCounted (with_value ports port fresh) (messages ++ (key, value) ∷ [])
  counted_push row fresh value there one is q other found =
      elim (written ports port q fresh other found) [
        | inl here ↦
            ap (λ (r : PortRow). r.sent_count) here.1
            ∙ more _ _ _ one (counted port row there ∙ ap (λ p. count (is_by sender_of p) messages) (sym here.0))
            ∙ sym (pushed q value true (key_itself (sender_of value) q (is ∙ sym here.0)))
        | inr away ↦ none _ _ (counted q other away.1) ∙ sym (pushed q value false (key_apart (sender_of value) q (λ e. away.0 (sym e ∙ is))))
      ]

  pub counted_push_none : (value : QueuedMessage) → at ports port ≡ None → sender_of value ≡ port → IsCounted ports (messages ++ (key, value) ∷ [])
  counted_push_none value absent is q row found =
      let differs : port ≢ q = λ e. let clash : None ≡ Some row = sym absent ∙ ap (at ports) e ∙ found in cc in
      none _ _ (counted q row found) ∙ sym (pushed q value false (key_apart (sender_of value) q (λ e. differs (sym is ∙ e))))

  less : (n m k j : ℕ) → n ≡ m - 1 → m ≡ k → j + 1 ≡ k → n ≡ j
  less n m k j one two three = omega arith

  pub counted_unlink : (row fresh : PortRow) → at ports port ≡ Some row → fresh.sent_count ≡ row.sent_count - 1 → IsPlaced sender_of key port messages → IsCounted (with_value ports port fresh) (without (at_key key) messages)
  counted_unlink row fresh there one placed q other found =
      elim (written ports port q fresh other found) [
        | inl here ↦
            ap (λ (r : PortRow). r.sent_count) here.1
            ∙ less _ _ _ _ one (counted port row there) (counts_on sender_of key port messages placed)
            ∙ ap (λ p. count (is_by sender_of p) (without (at_key key) messages)) (sym here.0)
        | inr away ↦ counted q other away.1 ∙ sym (counts_off sender_of key port q messages placed (λ e. away.0 (sym e)))
      ]

  pub counted_unlink_none : at ports port ≡ None → IsPlaced sender_of key port messages → IsCounted ports (without (at_key key) messages)
  counted_unlink_none absent placed q row found =
      let differs : port ≢ q = λ e. let clash : None ≡ Some row = sym absent ∙ ap (at ports) e ∙ found in cc in
      counted q row found ∙ sym (counts_off sender_of key port q messages placed differs)
