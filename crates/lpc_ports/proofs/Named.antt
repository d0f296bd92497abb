-- How many ports name each port: what a change of a row makes of the stored numbers, and of the ports themselves.
use Rattle.std.proofs.Common.{◌≡◌, ◌≢◌, ◌+◌, ◌-◌, ◌≤◌, ◌||◌, ℕ, Bool, true, false, zero, suc, cond, nat_eq, not, refl, sym, ap, ◌∙◌, subst, arith, inl, inr, List, [], ◌∷◌, ◌++◌, Option, Some, None, option_map, is_some}
use Rattle.std.specs.Option.{option_map_or}
use Rattle.lpc_base.specs.Rows.{count, has, without}
use Rattle.lpc_base.proofs.RowWords.{count-push, every-more}
use Rattle.lpc_slots.specs.declared.Key.{Key}
use Rattle.lpc_slots.specs.declared.chain.Chain.{Chain}
use Rattle.lpc_slots.specs.Table.{Table, at, at_key, inserted, is_key, keys_of, removed, with_value}
use Rattle.lpc_slots.specs.Chain.{IsDistinct, StandsFor}
use Rattle.lpc_slots.proofs.Keys.{key_apart, key_cases, key_itself}
use Rattle.lpc_slots.proofs.Chains.{at_same, at_other}
use Rattle.lpc_slots.proofs.Frames.{at_inserted, inserted_beside, removed_beside, same_parts}
use Rattle.lpc_ports.specs.declared.Port.{Port}
use Rattle.lpc_ports.specs.declared.rows.PortRow.{PortRow}
use Rattle.lpc_ports.specs.declared.messages.Block.{Block}
use Rattle.lpc_ports.specs.Table.{is_connected_to, is_joined_to, is_paired_to, is_the, row_at, with_row}
use Rattle.lpc_ports.specs.Layout.{InOrder, IsSentBefore, connected_at, is_open, number_at, paired_at, port_of, ports_of, queued_chain, seen, sent_chain}
use Rattle.lpc_ports.specs.Lent.{in_queue_of, keys_by, messages_of, of_sender_of, queue_of, sender_of}
use Rattle.lpc_ports.specs.Names.{AreNames, GainsOne, KeepsNumber, KeepsRows, LosesOne, unnamed}
use Rattle.lpc_ports.specs.Totals.{one_if}
use Rattle.lpc_ports.proofs.Totalled.{count_changed, count_gone, count_had, count_with}

module _ (number : PortRow → ℕ) (ports : Table PortRow) (port : Key) where
  -- a row that is written has its own number, and each other one the number that it had
  put : (row fresh : PortRow) (n : ℕ) → at ports port ≡ Some row → number fresh ≡ n → (q : Key) → number_at number (with_value ports port fresh) q ≡ cond (is_key port q) n (number_at number ports q)
  put row fresh n there is q =
      elim (key_cases port q) [
        | inl same ↦
            ap (λ k. number_at number (with_value ports port fresh) k) (sym same) ∙ ap (λ o. option_map_or number o 0) (at_same ports port fresh) ∙ is
            ∙ sym (ap (λ b. cond b n (number_at number ports q)) (key_itself port q same))
        | inr differs ↦
            ap (λ o. option_map_or number o 0) (at_other ports port fresh q (λ e. differs (let k : port ≡ q = cc in k)))
            ∙ sym (ap (λ b. cond b n (number_at number ports q)) (key_apart port q differs))
      ]

  stored : (row : PortRow) → at ports port ≡ Some row → (q : Key) → is_key port q ≡ true → number row ≡ number_at number ports q
  stored row there q on =
      elim (key_cases port q) [
        | inl same ↦ sym (ap (λ o. option_map_or number o 0) there) ∙ ap (λ k. number_at number ports k) same
        | inr differs ↦ absurd (let clash : true ≡ false = sym on ∙ key_apart port q differs in cc)
      ]

  same_by : (b : Bool) (n m : ℕ) → (b ≡ true → n ≡ m) → cond b n m ≡ m
  same_by true n m is = is refl
  same_by false n m is = refl

  more_by : (b : Bool) (n m : ℕ) → (b ≡ true → n ≡ m) → cond b (n + 1) m ≡ m + one_if b
  more_by true n m is = ap (λ k. k + 1) (is refl)
  more_by false n m is = omega arith

  less_by : (b : Bool) (n m : ℕ) → (b ≡ true → n ≡ m) → cond b (n - 1) m ≡ m - one_if b
  less_by true n m is = ap (λ k. k - 1) (is refl)
  less_by false n m is = omega arith

  pub number_same : (row fresh : PortRow) → at ports port ≡ Some row → number fresh ≡ number row → (q : Key) → number_at number (with_value ports port fresh) q ≡ number_at number ports q
  number_same row fresh there is q = put row fresh (number row) there is q ∙ same_by (is_key port q) (number row) (number_at number ports q) (stored row there q)

  pub number_more : (row fresh : PortRow) → at ports port ≡ Some row → number fresh ≡ number row + 1 → (q : Key) → number_at number (with_value ports port fresh) q ≡ number_at number ports q + one_if (is_the q (Some port))
  number_more row fresh there is q = put row fresh (number row + 1) there is q ∙ more_by (is_key port q) (number row) (number_at number ports q) (stored row there q)

  pub number_less : (row fresh : PortRow) → at ports port ≡ Some row → number fresh ≡ number row - 1 → (q : Key) → number_at number (with_value ports port fresh) q ≡ number_at number ports q - one_if (is_the q (Some port))
  number_less row fresh there is q = put row fresh (number row - 1) there is q ∙ less_by (is_key port q) (number row) (number_at number ports q) (stored row there q)

  less_none : (b : Bool) (n : ℕ) → (b ≡ true → n ≡ 0) → n ≡ n - one_if b
  less_none true n is = rw (is refl) refl
  less_none false n is = omega arith

  -- a port that has no row
  pub number_none : at ports port ≡ None → (q : Key) → number_at number ports q ≡ number_at number ports q - one_if (is_the q (Some port))
  number_none none q = less_none (is_key port q) (number_at number ports q) (λ on.
      elim (key_cases port q) [
        | inl same ↦ ap (λ k. number_at number ports k) (sym same) ∙ ap (λ o. option_map_or number o 0) none
        | inr differs ↦ absurd (let clash : true ≡ false = sym on ∙ key_apart port q differs in cc)
      ])

  -- a row is made whose number is 0, and one goes whose number was 0
  pub number_made : (fresh : PortRow) → at ports port ≡ None → number fresh ≡ 0 → (q : Key) → number_at number (inserted ports port fresh) q ≡ number_at number ports q
  number_made fresh none is q =
      elim (key_cases q port) [
        | inl same ↦
            ap (λ k. number_at number (inserted ports port fresh) k) same ∙ ap (λ o. option_map_or number o 0) (at_inserted ports port fresh) ∙ is
            ∙ sym (ap (λ k. number_at number ports k) same ∙ ap (λ o. option_map_or number o 0) none)
        | inr differs ↦ ap (λ o. option_map_or number o 0) (inserted_beside ports port fresh q differs)
      ]

  pub number_gone : (row : PortRow) → at ports port ≡ Some row → number row ≡ 0 → at (removed ports port) port ≡ None → (q : Key) → number_at number (removed ports port) q ≡ number_at number ports q
  number_gone row there is none q =
      elim (key_cases q port) [
        | inl same ↦
            ap (λ k. number_at number (removed ports port) k) same ∙ ap (λ o. option_map_or number o 0) none
            ∙ sym (ap (λ k. number_at number ports k) same ∙ ap (λ o. option_map_or number o 0) there ∙ is)
        | inr differs ↦ ap (λ o. option_map_or number o 0) (removed_beside ports port q differs)
      ]

-- nothing but numbers
pub rows_then : (one two three : Table PortRow) → KeepsRows one two → KeepsRows two three → KeepsRows one three
rows_then one two three early late = record { rows = λ q. late.rows q ∙ early.rows q; spare = late.spare ∙ early.spare; made = late.made ∙ early.made }

pub rows_put : (ports : Table PortRow) (port : Key) (row fresh : PortRow) → at ports port ≡ Some row → unnamed fresh ≡ unnamed row → KeepsRows ports (with_value ports port fresh)
rows_put ports port row fresh there same = record {
  rows = λ q. elim (key_cases q port) [
    | inl here ↦
        ap (λ k. option_map unnamed (at (with_value ports port fresh) k)) here ∙ ap (option_map unnamed) (at_same ports port fresh)
        ∙ ap Some same ∙ sym (ap (option_map unnamed) there) ∙ sym (ap (λ k. option_map unnamed (at ports k)) here)
    | inr differs ↦ ap (option_map unnamed) (at_other ports port fresh q (λ e. differs (let k : port ≡ q = cc in sym k)))
  ];
  spare = refl;
  made = refl;
}

was_there : (old new : Option PortRow) → option_map unnamed new ≡ option_map unnamed old → (row : PortRow) → new ≡ Some row → (other : PortRow) × (old ≡ Some other) × (unnamed row ≡ unnamed other)
was_there None new same row is = absurd (let clash : Some (unnamed row) ≡ None = ap (option_map unnamed) (sym is) ∙ same in cc)
was_there (Some other) new same row is = (other, refl, (let both : Some (unnamed row) ≡ Some (unnamed other) = ap (option_map unnamed) (sym is) ∙ same in cc))

port_left : (o : Option PortRow) → option_map port_of (option_map unnamed o) ≡ option_map port_of o
port_left None = refl
port_left (Some row) = refl

some_left : (o : Option PortRow) → is_some (option_map unnamed o) ≡ is_some o
some_left None = refl
some_left (Some row) = refl

module _ (old new : Table PortRow) (keeps : KeepsRows old new) where
  pub rows_ports : ports_of new ≡ ports_of old
  rows_ports = same_parts port_of old.rows new.rows (λ q. sym (port_left (at new q)) ∙ ap (option_map port_of) (keeps.rows q) ∙ port_left (at old q))

  pub rows_seen : (blocks : Table Block) → seen new blocks ≡ seen old blocks
  rows_seen blocks i = record (seen old blocks) { ports = rows_ports i; port_room = keeps.spare i; ports_made = keeps.made i }

  pub rows_vacant : (q : Key) → at new q ≡ None → at old q ≡ None
  rows_vacant q none = no_row (at old q) (ap (option_map unnamed) (sym none) ∙ keeps.rows q)
    where
      no_row : (o : Option PortRow) → None ≡ option_map unnamed o → o ≡ None
      no_row None is = refl
      no_row (Some row) is = absurd (cc)

  still_open : (q : Key) → is_some (at old q) ≡ true → is_some (at new q) ≡ true
  still_open q is = sym (some_left (at new q)) ∙ ap is_some (keeps.rows q) ∙ some_left (at old q) ∙ is

  pub rows_order : (blocks : Table Block) → InOrder old blocks → InOrder new blocks
  rows_order blocks inside = record {
    queues = λ q row found.
        let was = was_there (at old q) (at new q) (keeps.rows q) row found in
        subst (λ (chain : Chain 0). StandsFor in_queue_of blocks chain (keys_by queue_of q (messages_of blocks))) (sym (ap queued_chain was.2)) (inside.queues q was.0 was.1);
    senders = λ q row found.
        let was = was_there (at old q) (at new q) (keeps.rows q) row found in
        subst (λ (chain : Chain 1). StandsFor of_sender_of blocks chain (keys_by sender_of q (messages_of blocks))) (sym (ap sent_chain was.2)) (inside.senders q was.0 was.1);
    stood_in = every-more (is_open old) (is_open new) (λ row. still_open (queue_of row.1)) (messages_of blocks) inside.stood_in;
    counts = λ q row found.
        let was = was_there (at old q) (at new q) (keeps.rows q) row found in
        ap (λ (r : PortRow). r.sent_count) was.2 ∙ inside.counts q was.0 was.1;
    datagrams = λ q row found.
        let was = was_there (at old q) (at new q) (keeps.rows q) row found in
        ap (λ (r : PortRow). r.datagrams) was.2 ∙ inside.datagrams q was.0 was.1;
    young = subst (λ (made : ℕ). IsSentBefore made (messages_of blocks)) (sym keeps.made) inside.young;
  }

-- the same as the ports that name each, once a port is made, changed or gone
pub and_none : (n : ℕ) → n ≡ n + 0
and_none n = omega arith

traded : (last mid old was now o n : ℕ) → last ≡ (mid - o) + n → mid ≡ old → old ≡ was → now + o ≡ was + n → o ≤ was → last ≡ now
traded last mid old was now o n is same counted sum has = omega arith

gone_one : (last mid old was now o : ℕ) → last ≡ mid - o → mid ≡ old → old ≡ was → now + o ≡ was → last ≡ now
gone_one last mid old was now o is same counted sum = omega arith

module _ (old mid : Table PortRow) (was whole : Bool) (names : AreNames old was) (holds : whole ≡ true → was ≡ true) where
  -- a port is made that is the other end of none
  pub added_names : (connection : Option Key) → KeepsRows old mid → KeepsNumber paired_at old mid → (whole ≡ true → GainsOne connected_at old mid connection) → (key : Key) (fresh : PortRow) (last : Table PortRow) → at mid key ≡ None → last ≡ inserted mid key fresh → ports_of last ≡ ports_of mid ++ (key, fresh.port) ∷ [] → fresh.paired ≡ 0 → fresh.connected ≡ 0 → fresh.port.pair ≡ None → fresh.port.connection ≡ connection → AreNames last whole
  added_names connection keeps paired connected key fresh last vacant table shown no_pairs none_connected unpaired connects = record {
    paired = λ yes q.
        ap (λ t. paired_at t q) table ∙ number_made (λ r. r.paired) mid key fresh vacant no_pairs q ∙ paired q ∙ names.paired (holds yes) q
        ∙ and_none (count (is_paired_to q) (ports_of old)) ∙ ap (λ p. count (is_paired_to q) (ports_of old) + one_if (is_the q p)) (sym unpaired)
        ∙ sym (count-push (is_paired_to q) (ports_of old) (key, fresh.port)) ∙ sym (ap (count (is_paired_to q)) listed);
    connected = λ yes q.
        ap (λ t. connected_at t q) table ∙ number_made (λ r. r.connected) mid key fresh vacant none_connected q ∙ connected yes q
        ∙ ap (λ n. n + one_if (is_the q connection)) (names.connected (holds yes) q) ∙ ap (λ p. count (is_connected_to q) (ports_of old) + one_if (is_the q p)) (sym connects)
        ∙ sym (count-push (is_connected_to q) (ports_of old) (key, fresh.port)) ∙ sym (ap (count (is_connected_to q)) listed);
  }
    where
      listed : ports_of last ≡ ports_of old ++ (key, fresh.port) ∷ []
      listed = shown ∙ ap (λ rows. rows ++ (key, fresh.port) ∷ []) (rows_ports old mid keeps)

  -- the port of a row has another end than before
  pub repaired_names : (key : Key) (f : Port → Port) (row fresh : PortRow) (last : Table PortRow) → at old key ≡ Some row → mid ≡ with_value old key fresh → fresh.paired ≡ row.paired → fresh.connected ≡ row.connected → ports_of mid ≡ with_row (ports_of old) key f → ((port : Port) → (f port).connection ≡ port.connection) → KeepsRows mid last → KeepsNumber connected_at mid last → (whole ≡ true → (q : Key) → paired_at last q ≡ (paired_at mid q - one_if (is_the q row.port.pair)) + one_if (is_the q (f row.port).pair)) → IsDistinct (keys_of (ports_of old)) → row_at (ports_of old) key ≡ Some row.port → AreNames last whole
  repaired_names key f row fresh last there table same_paired same_connected changed connects keeps connected paired distinct shown = record {
    paired = λ yes q.
        traded _ _ _ _ _ _ _ (paired yes q) (ap (λ t. paired_at t q) table ∙ number_same (λ r. r.paired) old key row fresh there same_paired q) (names.paired (holds yes) q)
        (count_with (is_paired_to q) key f row.port (ports_of old) distinct shown) (count_had (is_paired_to q) key row.port (ports_of old) distinct shown)
        ∙ sym (ap (count (is_paired_to q)) listed);
    connected = λ yes q.
        connected q ∙ ap (λ t. connected_at t q) table ∙ number_same (λ r. r.connected) old key row fresh there same_connected q ∙ names.connected (holds yes) q
        ∙ sym (count_changed (is_connected_to q) key f (λ k port. ap (is_the q) (connects port)) (ports_of old)) ∙ sym (ap (count (is_connected_to q)) listed);
  }
    where
      listed : ports_of last ≡ with_row (ports_of old) key f
      listed = rows_ports mid last keeps ∙ changed

  -- a port goes that none names
  pub freed_names : (key : Key) (row : PortRow) (two last : Table PortRow) → at old key ≡ Some row → at (removed old key) key ≡ None → mid ≡ removed old key → ports_of mid ≡ without (at_key key) (ports_of old) → (whole ≡ true → row.paired ≡ 0) → (whole ≡ true → row.connected ≡ 0) → KeepsRows mid two → LosesOne paired_at mid two row.port.pair → KeepsNumber connected_at mid two → KeepsRows two last → KeepsNumber paired_at two last → LosesOne connected_at two last row.port.connection → IsDistinct (keys_of (ports_of old)) → row_at (ports_of old) key ≡ Some row.port → AreNames last whole
  freed_names key row two last there gone table left no_pairs none_connected keeps paired same_connected keeps_too same_paired connected distinct shown = record {
    paired = λ yes q.
        gone_one _ _ _ _ _ _ (same_paired q ∙ paired q) (ap (λ t. paired_at t q) table ∙ number_gone (λ r. r.paired) old key row there (no_pairs yes) gone q) (names.paired (holds yes) q)
        (count_gone (is_paired_to q) key row.port (ports_of old) distinct shown)
        ∙ sym (ap (count (is_paired_to q)) listed);
    connected = λ yes q.
        gone_one _ _ _ _ _ _ (connected q ∙ ap (λ n. n - one_if (is_the q row.port.connection)) (same_connected q)) (ap (λ t. connected_at t q) table ∙ number_gone (λ r. r.connected) old key row there (none_connected yes) gone q) (names.connected (holds yes) q)
        (count_gone (is_connected_to q) key row.port (ports_of old) distinct shown)
        ∙ sym (ap (count (is_connected_to q)) listed);
  }
    where
      listed : ports_of last ≡ without (at_key key) (ports_of old)
      listed = rows_ports two last keeps_too ∙ rows_ports mid two keeps ∙ left

-- a port has another one as its end or as its connection port where the numbers are not both 0
pub joined_has : (port : Key) (rows : List (Key × Port)) → has (is_joined_to port) rows ≡ (has (is_paired_to port) rows || has (is_connected_to port) rows)
joined_has port [] = refl
joined_has port (row ∷ rows) = grind (arith, joined_has port rows)

counted_has : (test : Key × Port → Bool) (rows : List (Key × Port)) → not (nat_eq (count test rows) 0) ≡ has test rows
counted_has test [] = refl
counted_has test (row ∷ rows) = grind (arith, counted_has test rows)

some_counted : (n : ℕ) → n ≢ 0 → not (nat_eq n 0) ≡ true
some_counted zero differs = absurd (differs refl)
some_counted (suc n) differs = grind arith

module _ (port : Key) (rows : List (Key × Port)) (pairs : ℕ) (counted : pairs ≡ count (is_paired_to port) rows) where
  has_pairs : not (nat_eq pairs 0) ≡ has (is_paired_to port) rows
  has_pairs = ap (λ n. not (nat_eq n 0)) counted ∙ counted_has (is_paired_to port) rows

  pub joined_by_pair : pairs ≢ 0 → not (nat_eq pairs 0) ≡ has (is_joined_to port) rows
  joined_by_pair differs =
      let some = some_counted pairs differs in
      some ∙ sym (joined_has port rows ∙ ap (λ b. b || has (is_connected_to port) rows) (sym has_pairs ∙ some))

  pub joined_by_connection : (connects : ℕ) → connects ≡ count (is_connected_to port) rows → pairs ≡ 0 → not (nat_eq connects 0) ≡ has (is_joined_to port) rows
  joined_by_connection connects is no_pairs =
      ap (λ n. not (nat_eq n 0)) is ∙ counted_has (is_connected_to port) rows
      ∙ sym (joined_has port rows ∙ ap (λ b. b || has (is_connected_to port) rows) (sym has_pairs ∙ ap (λ n. not (nat_eq n 0)) no_pairs))
