-- How the numbers of messages and ports follow the rows.
use Rattle.std.proofs.Common.{◌≡◌, ◌+◌, ◌-◌, ◌≤◌, ℕ, Bool, true, false, cond, not, refl, sym, ap, ◌∙◌, subst, arith, List, [], ◌∷◌, ◌++◌, Option, Some, option_map, is_some, inl, inr}
use Rattle.std.proofs.lemmas.Bool.{cases_Bool}
use Rattle.lpc_base.specs.Rows.{count, first, has, without}
use Rattle.lpc_base.proofs.RowWords.{change-none, count-push}
use Rattle.lpc_slots.specs.declared.Key.{Key}
use Rattle.lpc_slots.specs.Table.{at_key, is_key, keys_of}
use Rattle.lpc_slots.specs.Chain.{IsAway, IsDistinct}
use Rattle.lpc_slots.proofs.Keys.{key_apart, key_is}
use Rattle.lpc_slots.proofs.Frames.{without_away}
use Rattle.lpc_ports.specs.declared.Port.{Port}
use Rattle.lpc_ports.specs.declared.totals.Totals.{Totals}
use Rattle.lpc_ports.specs.Table.{QueuedMessage, is_asking, is_client, is_client_kind, is_closing, row_at, with_row}
use Rattle.lpc_ports.specs.Totals.{AreTotals, gained, gained_port, lost, lost_port, one_if}

module _ {X : Type 0} (test : Key × X → Bool) where
  counted : (b : Bool) (row : Key × X) (rows : List (Key × X)) → test row ≡ b → count test (row ∷ rows) ≡ cond b 1 0 + count test rows
  counted true row rows is = rw is (omega arith)
  counted false row rows is = rw is (omega arith)

  -- a row counts where it passes
  count_row : (row : Key × X) (rows : List (Key × X)) → count test (row ∷ rows) ≡ one_if (test row) + count test rows
  count_row row rows = counted (test row) row rows refl

  both : (one rest left all : ℕ) (b : ℕ) → left + b ≡ rest → all ≡ one + rest → (one + left) + b ≡ all
  both one rest left all b is sum = omega arith

  turned : (a b c : ℕ) → c ≡ a + b → b + a ≡ c
  turned a b c is = omega arith

  -- a row that goes counts where it passes
  pub count_gone : (key : Key) (value : X) (rows : List (Key × X)) → IsDistinct (keys_of rows) → row_at rows key ≡ Some value → count test (without (at_key key) rows) + one_if (test (key, value)) ≡ count test rows
  count_gone key value [] distinct there = absurd (cc)
  count_gone key value (row ∷ rows) distinct there =
      elim (cases_Bool (is_key row.0 key)) [
        | inl on ↦
            let same : row.0 ≡ key = key_is row.0 key on in
            let is : Some row.1 ≡ Some value = sym (ap (λ b. found b row rows key) on) ∙ there in
            let value_is : row.1 ≡ value = cc in
            let shown : row ≡ (key, value) = λ i. (same i, value_is i) in
            let left : without (at_key key) (row ∷ rows) ≡ rows = ap (λ b. cond (not b) (row ∷ without (at_key key) rows) (without (at_key key) rows)) on ∙ without_away key rows (subst (λ (k : Key). IsAway (Some k) (keys_of rows)) same distinct.0) in
            ap (λ rs. count test rs + one_if (test (key, value))) left ∙ turned (one_if (test (key, value))) (count test rows) _ (count_row row rows ∙ ap (λ r. one_if (test r) + count test rows) shown)
        | inr off ↦
            let rest = count_gone key value rows distinct.1 (sym (ap (λ b. found b row rows key) off) ∙ there) in
            let left : without (at_key key) (row ∷ rows) ≡ row ∷ without (at_key key) rows = ap (λ b. cond (not b) (row ∷ without (at_key key) rows) (without (at_key key) rows)) off in
            ap (λ rs. count test rs + one_if (test (key, value))) left ∙ ap (λ n. n + one_if (test (key, value))) (count_row row (without (at_key key) rows)) ∙ both (one_if (test row)) (count test rows) _ _ _ rest (count_row row rows)
      ]
    where
      found : Bool → Key × X → List (Key × X) → Key → Option X
      found b row rows key = option_map (λ (row : Key × X). row.1) (cond b (Some row) (first (at_key key) rows))

  swapped : (a c o n r : ℕ) → a ≡ n + r → c ≡ o + r → a + o ≡ c + n
  swapped a c o n r is was = omega arith

  beside : (a b c d o n t : ℕ) → b + o ≡ d + n → a ≡ t + b → c ≡ t + d → a + o ≡ c + n
  beside a b c d o n t is one two = omega arith

  none_has : (key : Key) (rows : List (Key × X)) → IsAway (Some key) (keys_of rows) → has (at_key key) rows ≡ false
  none_has key [] away = refl
  none_has key (row ∷ rows) away =
      ap (λ b. is_some (cond b (Some row) (first (at_key key) rows))) (key_apart row.0 key (λ e. away.0 (ap Some (sym e)))) ∙ none_has key rows away.1

  -- a row that changes counts where it passes now, and not where it passed before
  pub count_with : (key : Key) (f : X → X) (value : X) (rows : List (Key × X)) → IsDistinct (keys_of rows) → row_at rows key ≡ Some value → count test (with_row rows key f) + one_if (test (key, value)) ≡ count test rows + one_if (test (key, f value))
  count_with key f value [] distinct there = absurd (cc)
  count_with key f value (row ∷ rows) distinct there =
      elim (cases_Bool (is_key row.0 key)) [
        | inl on ↦
            let same : row.0 ≡ key = key_is row.0 key on in
            let is : Some row.1 ≡ Some value = sym (ap (λ b. found b row rows key) on) ∙ there in
            let value_is : row.1 ≡ value = cc in
            let shown : row ≡ (key, value) = λ i. (same i, value_is i) in
            let away : IsAway (Some key) (keys_of rows) = subst (λ (k : Key). IsAway (Some k) (keys_of rows)) same distinct.0 in
            let kept : with_row rows key f ≡ rows = change-none (at_key key) (λ row. (row.0, f row.1)) rows (none_has key rows away) in
            let here : with_row (row ∷ rows) key f ≡ (key, f value) ∷ rows = ap (λ b. cond b (row.0, f row.1) row ∷ with_row rows key f) on ∙ (λ i. (same i, f (value_is i)) ∷ kept i) in
            swapped _ _ _ _ _ (ap (count test) here ∙ count_row (key, f value) rows) (count_row row rows ∙ ap (λ r. one_if (test r) + count test rows) shown)
        | inr off ↦
            let rest = count_with key f value rows distinct.1 (sym (ap (λ b. found b row rows key) off) ∙ there) in
            let here : with_row (row ∷ rows) key f ≡ row ∷ with_row rows key f = ap (λ b. cond b (row.0, f row.1) row ∷ with_row rows key f) off in
            beside _ _ _ _ _ _ _ rest (ap (count test) here ∙ count_row row (with_row rows key f)) (count_row row rows)
      ]
    where
      found : Bool → Key × X → List (Key × X) → Key → Option X
      found b row rows key = option_map (λ (row : Key × X). row.1) (cond b (Some row) (first (at_key key) rows))

  -- what a row counted is within the number
  pub count_had : (key : Key) (value : X) (rows : List (Key × X)) → IsDistinct (keys_of rows) → row_at rows key ≡ Some value → one_if (test (key, value)) ≤ count test rows
  count_had key value rows distinct there = had _ _ _ (count_gone key value rows distinct there)
    where
      had : (a b c : ℕ) → a + b ≡ c → b ≤ c
      had a b c is = omega arith

  -- a change that no row's passing rests on
  pub count_changed : (key : Key) (f : X → X) → ((k : Key) (value : X) → test (k, f value) ≡ test (k, value)) → (rows : List (Key × X)) → count test (with_row rows key f) ≡ count test rows
  count_changed key f same [] = refl
  count_changed key f same (row ∷ rows) = grind (arith, same row.0 row.1, count_changed key f same rows)

less : (a b c : ℕ) → a + b ≡ c → a ≡ c - b
less a b c is = omega arith

below : (a b c : ℕ) → a + b ≡ c → b ≤ c
below a b c is = omega arith

module _ (totals : Totals) (ports : List (Key × Port)) (messages : List (Key × QueuedMessage)) (are : AreTotals totals ports messages) where
  -- a message comes behind the others
  pub totals_push : (key : Key) (value : QueuedMessage) → AreTotals (gained totals value.message) ports (messages ++ (key, value) ∷ [])
  totals_push key value = record {
    asking = ap (λ n. n + one_if (is_asking (key, value))) are.asking ∙ sym (count-push is_asking messages (key, value));
    closings = ap (λ n. n + one_if (is_closing (key, value))) are.closings ∙ sym (count-push is_closing messages (key, value));
    clients = are.clients;
  }

  module _ (key : Key) (value : QueuedMessage) (distinct : IsDistinct (keys_of messages)) (there : row_at messages key ≡ Some value) where
    -- what goes was counted
    pub asking_counted : one_if (is_asking (key, value)) ≤ totals.asking
    asking_counted = subst (λ (n : ℕ). one_if (is_asking (key, value)) ≤ n) (sym are.asking) (below _ _ _ (count_gone is_asking key value messages distinct there))

    pub closings_counted : one_if (is_closing (key, value)) ≤ totals.closings
    closings_counted = subst (λ (n : ℕ). one_if (is_closing (key, value)) ≤ n) (sym are.closings) (below _ _ _ (count_gone is_closing key value messages distinct there))

    -- a message goes
    pub totals_without : AreTotals (lost totals value.message) ports (without (at_key key) messages)
    totals_without = record {
      asking = ap (λ n. n - one_if (is_asking (key, value))) are.asking ∙ sym (less _ _ _ (count_gone is_asking key value messages distinct there));
      closings = ap (λ n. n - one_if (is_closing (key, value))) are.closings ∙ sym (less _ _ _ (count_gone is_closing key value messages distinct there));
      clients = are.clients;
    }

  -- a port comes behind the others
  pub totals_port : (key : Key) (port : Port) → AreTotals (gained_port totals port.kind) (ports ++ (key, port) ∷ []) messages
  totals_port key port = record {
    asking = are.asking;
    closings = are.closings;
    clients = ap (λ n. n + one_if (is_client (key, port))) are.clients ∙ sym (count-push is_client ports (key, port));
  }

  module _ (key : Key) (port : Port) (distinct : IsDistinct (keys_of ports)) (there : row_at ports key ≡ Some port) where
    pub clients_counted : one_if (is_client (key, port)) ≤ totals.clients
    clients_counted = subst (λ (n : ℕ). one_if (is_client (key, port)) ≤ n) (sym are.clients) (below _ _ _ (count_gone is_client key port ports distinct there))

    -- a port goes
    pub totals_free : AreTotals (lost_port totals port.kind) (without (at_key key) ports) messages
    totals_free = record {
      asking = are.asking;
      closings = are.closings;
      clients = ap (λ n. n - one_if (is_client (key, port))) are.clients ∙ sym (less _ _ _ (count_gone is_client key port ports distinct there));
    }

  -- a port changes, but not its kind
  pub totals_changed : (key : Key) (f : Port → Port) → ((port : Port) → (f port).kind ≡ port.kind) → AreTotals totals (with_row ports key f) messages
  totals_changed key f same = record {
    asking = are.asking;
    closings = are.closings;
    clients = are.clients ∙ sym (count_changed is_client key f (λ k port. ap is_client_kind (same port)) ports);
  }
