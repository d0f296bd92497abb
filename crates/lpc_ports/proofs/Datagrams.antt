-- The stored number of the datagrams that were sent on a port.
use Rattle.std.proofs.Common.{◌≡◌, ◌≢◌, ◌+◌, ◌-◌, ◌≤◌, ◌&&◌, ℕ, Bool, false, cond, refl, sym, ap, ◌∙◌, subst, arith, inl, inr, List, [], ◌∷◌, ◌++◌, Some, None}
use Rattle.lpc_base.specs.Rows.{count, without}
use Rattle.lpc_base.proofs.RowWords.{count-push}
use Rattle.lpc_message.specs.declared.kind.TheConstants.{DATAGRAM}
use Rattle.lpc_slots.specs.declared.Key.{Key}
use Rattle.lpc_slots.specs.Table.{Table, at, at_key, with_value}
use Rattle.lpc_slots.proofs.Keys.{key_apart, key_itself}
use Rattle.lpc_ports.specs.declared.rows.PortRow.{PortRow}
use Rattle.lpc_ports.specs.Table.{QueuedMessage, is_datagram_of, is_of_type}
use Rattle.lpc_ports.specs.Layout.{AreDatagrams, IsDatagramPlaced, IsSentAs}
use Rattle.lpc_ports.specs.Lent.{sender_of}
use Rattle.lpc_ports.specs.Totals.{one_if}
use Rattle.lpc_ports.proofs.Stand.{written}
use Rattle.lpc_ports.proofs.Totalled.{count_gone}

-- whether a message counts at a port
counts_here : (key q sender : Key) (datagram : Bool) (value : QueuedMessage) → IsSentAs sender datagram value → q ≡ sender → is_datagram_of q (key, value) ≡ datagram
counts_here key q sender datagram value sent same =
    ap (λ b. b && is_of_type DATAGRAM value.message) (key_itself (sender_of value) q (sent.0 ∙ sym same)) ∙ sent.1

counts_not : (key q sender : Key) (datagram : Bool) (value : QueuedMessage) → IsSentAs sender datagram value → sender ≢ q → is_datagram_of q (key, value) ≡ false
counts_not key q sender datagram value sent differ =
    ap (λ b. b && is_of_type DATAGRAM value.message) (key_apart (sender_of value) q (λ e. differ (sym sent.0 ∙ e)))

as_one : (n m : ℕ) (b c : Bool) → b ≡ c → n ≡ m + cond b 1 0 → n ≡ m + one_if c
as_one n m b c same is = is ∙ ap (λ d. m + one_if d) same

none : (n m : ℕ) → n ≡ m + 0 → n ≡ m
none n m is = omega arith

less : (a b c : ℕ) → a + b ≡ c → c - b ≡ a
less a b c is = omega arith

below : (a b c : ℕ) → a + b ≡ c → b ≤ c
below a b c is = omega arith

module _ (ports : Table PortRow) (port key : Key) (messages : List (Key × QueuedMessage)) (counted : AreDatagrams ports messages) where
  -- how many there are once a message comes
  pushed : (q : Key) (value : QueuedMessage) (b : Bool) → is_datagram_of q (key, value) ≡ b → count (is_datagram_of q) (messages ++ (key, value) ∷ []) ≡ count (is_datagram_of q) messages + one_if b
  pushed q value b is = as_one _ _ _ b is (count-push (is_datagram_of q) messages (key, value))

  left : (q : Key) (b datagram : Bool) (placed : IsDatagramPlaced key port datagram messages) → is_datagram_of q (key, placed.value) ≡ b → count (is_datagram_of q) (without (at_key key) messages) + one_if b ≡ count (is_datagram_of q) messages
  left q b datagram placed is =
      ap (λ c. count (is_datagram_of q) (without (at_key key) messages) + one_if c) (sym is) ∙ count_gone (is_datagram_of q) key placed.value messages placed.distinct placed.there

  pub datagrams_same : (row fresh : PortRow) → at ports port ≡ Some row → fresh.datagrams ≡ row.datagrams → AreDatagrams (with_value ports port fresh) messages
  datagrams_same row fresh there same q other found =
      elim (written ports port q fresh other found) [
        | inl here ↦ ap (λ (r : PortRow). r.datagrams) here.1 ∙ same ∙ counted port row there ∙ ap (λ p. count (is_datagram_of p) messages) (sym here.0)
        | inr away ↦ counted q other away.1
      ]

  pub datagrams_push : (row fresh : PortRow) (value : QueuedMessage) (datagram : Bool) → at ports port ≡ Some row → fresh.datagrams ≡ row.datagrams + one_if datagram → IsSentAs port datagram value → AreDatagrams (with_value ports port fresh) (messages ++ (key, value) ∷ [])
  datagrams_push row fresh value datagram there one sent q other found =
      elim (written ports port q fresh other found) [
        | inl here ↦
            ap (λ (r : PortRow). r.datagrams) here.1 ∙ one ∙ ap (λ n. n + one_if datagram) (counted port row there ∙ ap (λ p. count (is_datagram_of p) messages) (sym here.0))
            ∙ sym (pushed q value datagram (counts_here key q port datagram value sent here.0))
        | inr away ↦
            counted q other away.1 ∙ sym (none _ _ (pushed q value false (counts_not key q port datagram value sent (λ e. away.0 (sym e)))))
      ]

  pub datagrams_push_none : (value : QueuedMessage) (datagram : Bool) → at ports port ≡ None → IsSentAs port datagram value → AreDatagrams ports (messages ++ (key, value) ∷ [])
  datagrams_push_none value datagram absent sent q row found =
      let differs : port ≢ q = λ e. let clash : None ≡ Some row = sym absent ∙ ap (at ports) e ∙ found in cc in
      counted q row found ∙ sym (none _ _ (pushed q value false (counts_not key q port datagram value sent differs)))

  -- what goes was counted
  pub datagram_counted : (row : PortRow) (datagram : Bool) → at ports port ≡ Some row → IsDatagramPlaced key port datagram messages → one_if datagram ≤ row.datagrams
  datagram_counted row datagram there placed =
      subst (λ (n : ℕ). one_if datagram ≤ n) (sym (counted port row there))
      (below _ _ _ (left port datagram datagram placed (counts_here key port port datagram placed.value placed.sent refl)))

  pub datagrams_unlink : (row fresh : PortRow) (datagram : Bool) → at ports port ≡ Some row → fresh.datagrams ≡ row.datagrams - one_if datagram → IsDatagramPlaced key port datagram messages → AreDatagrams (with_value ports port fresh) (without (at_key key) messages)
  datagrams_unlink row fresh datagram there one placed q other found =
      elim (written ports port q fresh other found) [
        | inl here ↦
            ap (λ (r : PortRow). r.datagrams) here.1 ∙ one ∙ ap (λ n. n - one_if datagram) (counted port row there ∙ ap (λ p. count (is_datagram_of p) messages) (sym here.0))
            ∙ less _ _ _ (left q datagram datagram placed (counts_here key q port datagram placed.value placed.sent here.0))
        | inr away ↦ counted q other away.1 ∙ none _ _ (sym (left q false datagram placed (counts_not key q port datagram placed.value placed.sent (λ e. away.0 (sym e)))))
      ]

  pub datagrams_unlink_none : (datagram : Bool) → at ports port ≡ None → IsDatagramPlaced key port datagram messages → AreDatagrams ports (without (at_key key) messages)
  datagrams_unlink_none datagram absent placed q row found =
      let differs : port ≢ q = λ e. let clash : None ≡ Some row = sym absent ∙ ap (at ports) e ∙ found in cc in
      counted q row found ∙ none _ _ (sym (left q false datagram placed (counts_not key q port datagram placed.value placed.sent differs)))
