-- A change of a port's own fields: how it shows, and that the chains stay.
use Rattle.std.proofs.Common.{◌≡◌, ◌+◌, ◌-◌, Bool, option_map, true, refl, sym, ap, ◌∙◌, is_some, List, [], ◌∷◌, Some, None, inl, inr}
use Rattle.std.proofs.lemmas.Bool.{cases_Bool}
use Rattle.lpc_base.specs.Rows.{change, count}
use Rattle.lpc_base.proofs.RowWords.{change-none, every-more}
use Rattle.lpc_slots.specs.declared.Key.{Key}
use Rattle.lpc_slots.specs.Table.{Table, at, at_key, is_key, listed, parts, with_value}
use Rattle.lpc_slots.proofs.Keys.{key_cases}
use Rattle.lpc_slots.proofs.Chains.{at_same, at_other}
use Rattle.lpc_slots.proofs.Same.{listed_put}
use Rattle.lpc_ports.specs.declared.Port.{Port}
use Rattle.lpc_ports.specs.declared.rows.PortRow.{PortRow}
use Rattle.lpc_ports.specs.declared.messages.Block.{Block}
use Rattle.lpc_ports.specs.Table.{PortTable, is_connected_to, is_paired_to, is_the, with_row}
use Rattle.lpc_ports.specs.Layout.{InOrder, connected_at, is_open, paired_at, port_of, ports_of, seen}
use Rattle.lpc_ports.specs.Lent.{messages_of, queue_of}
use Rattle.lpc_ports.proofs.Ordered.{ports_apart, shown_at, vacant_shown}
use Rattle.lpc_ports.specs.declared.totals.Totals.{Totals}
use Rattle.lpc_ports.specs.Totals.{one_if}
use Rattle.lpc_ports.specs.Names.{KeepsNumber, KeepsRows}
use Rattle.lpc_ports.specs.Kept.{IsKept}
use Rattle.lpc_ports.proofs.Stand.{written}
use Rattle.lpc_ports.proofs.Totalled.{count_changed, totals_changed}
use Rattle.lpc_ports.proofs.Named.{number_same, repaired_names, rows_order, rows_ports}

module _ (ports : Table PortRow) (blocks : Table Block) (key : Key) (f : Port → Port) where
  abbrev fresh : PortRow → PortRow
  fresh row = record row { port = f row.port }

  parts_changed : (rows : List (Key × PortRow)) → parts port_of (change (at_key key) (λ row. (row.0, fresh row.1)) rows) ≡ with_row (parts port_of rows) key f
  parts_changed [] = refl
  parts_changed (row ∷ rows) =
      elim (cases_Bool (is_key row.0 key)) [
        | inl on ↦ rw on (ap (λ rs. (row.0, f row.1.port) ∷ rs) (parts_changed rows))
        | inr off ↦ rw off (ap (λ rs. (row.0, row.1.port) ∷ rs) (parts_changed rows))
      ]

  abbrev changed : PortTable
  changed = record (seen ports blocks) { ports = with_row (ports_of ports) key f }

  pub seen_changed : (row : PortRow) → at ports key ≡ Some row → seen (with_value ports key (fresh row)) blocks ≡ changed
  seen_changed row some i = record (seen ports blocks) { ports = (ap (parts port_of) (listed_put key fresh ports row some) ∙ parts_changed (listed ports)) i }

  pub seen_kept : at ports key ≡ None → seen ports blocks ≡ changed
  seen_kept none i = record (seen ports blocks) { ports = sym (change-none (at_key key) (λ row. (row.0, f row.1)) (ports_of ports) (ap is_some (vacant_shown port_of ports key none))) i }

  pub changed_order : (row : PortRow) → at ports key ≡ Some row → InOrder ports blocks → InOrder (with_value ports key (fresh row)) blocks
  changed_order row there inside = record {
    queues = λ q other found. elim (written ports key q (fresh row) other found) [
      | inl here ↦ rw here.1 (inside.queues q row (ap (at ports) here.0 ∙ there))
      | inr away ↦ inside.queues q other away.1
    ];
    senders = λ q other found. elim (written ports key q (fresh row) other found) [
      | inl here ↦ rw here.1 (inside.senders q row (ap (at ports) here.0 ∙ there))
      | inr away ↦ inside.senders q other away.1
    ];
    stood_in = every-more (is_open ports) (is_open (with_value ports key (fresh row))) (λ r. still (queue_of r.1)) (messages_of blocks) inside.stood_in;
    counts = λ q other found. elim (written ports key q (fresh row) other found) [
      | inl here ↦ ap (λ (r : PortRow). r.sent_count) here.1 ∙ inside.counts q row (ap (at ports) here.0 ∙ there)
      | inr away ↦ inside.counts q other away.1
    ];
    datagrams = λ q other found. elim (written ports key q (fresh row) other found) [
      | inl here ↦ ap (λ (r : PortRow). r.datagrams) here.1 ∙ inside.datagrams q row (ap (at ports) here.0 ∙ there)
      | inr away ↦ inside.datagrams q other away.1
    ];
    young = inside.young;
  }
    where
      still : (q : Key) → is_some (at ports q) ≡ true → is_some (at (with_value ports key (fresh row)) q) ≡ true
      still q is =
          elim (key_cases q key) [
            | inl same ↦ ap (λ k. is_some (at (with_value ports key (fresh row)) k)) same ∙ ap is_some (at_same ports key (fresh row))
            | inr differs ↦ ap is_some (at_other ports key (fresh row) q (λ e. differs (let k : key ≡ q = cc in sym k))) ∙ is
          ]

  ports_changed : (row : PortRow) → at ports key ≡ Some row → ports_of (with_value ports key (fresh row)) ≡ with_row (ports_of ports) key f
  ports_changed row there = ap (parts port_of) (listed_put key fresh ports row there) ∙ parts_changed (listed ports)

  -- who names whom stays
  pub changed_kept : (totals : Totals) (whole : Bool) (row : PortRow) → at ports key ≡ Some row → ((port : Port) → (f port).kind ≡ port.kind) → ((port : Port) → (f port).pair ≡ port.pair) → ((port : Port) → (f port).connection ≡ port.connection) → IsKept ports blocks totals whole → IsKept (with_value ports key (fresh row)) blocks totals whole
  changed_kept totals whole row there same pairs connects kept = record {
    order = changed_order row there kept.order;
    totals = rw (ports_changed row there) (totals_changed totals (ports_of ports) (messages_of blocks) kept.totals key f same);
    names = record {
      paired = λ yes q.
          number_same (λ r. r.paired) ports key row (fresh row) there refl q ∙ kept.names.paired yes q
          ∙ sym (count_changed (is_paired_to q) key f (λ k port. ap (is_the q) (pairs port)) (ports_of ports)) ∙ sym (ap (count (is_paired_to q)) (ports_changed row there));
      connected = λ yes q.
          number_same (λ r. r.connected) ports key row (fresh row) there refl q ∙ kept.names.connected yes q
          ∙ sym (count_changed (is_connected_to q) key f (λ k port. ap (is_the q) (connects port)) (ports_of ports)) ∙ sym (ap (count (is_connected_to q)) (ports_changed row there));
    };
  }

  -- the port has another end than before, and the numbers follow
  pub repaired_kept : (totals : Totals) (was whole : Bool) (row : PortRow) (last : Table PortRow) → at ports key ≡ Some row → ((port : Port) → (f port).kind ≡ port.kind) → ((port : Port) → (f port).connection ≡ port.connection) → (whole ≡ true → was ≡ true) → KeepsRows (with_value ports key (fresh row)) last → KeepsNumber connected_at (with_value ports key (fresh row)) last → (whole ≡ true → (q : Key) → paired_at last q ≡ (paired_at (with_value ports key (fresh row)) q - one_if (is_the q row.port.pair)) + one_if (is_the q (f row.port).pair)) → IsKept ports blocks totals was → IsKept last blocks totals whole
  repaired_kept totals was whole row last there same connects holds keeps connected paired kept = record {
    order = rows_order (with_value ports key (fresh row)) last keeps blocks (changed_order row there kept.order);
    totals = rw (rows_ports (with_value ports key (fresh row)) last keeps, ports_changed row there) (totals_changed totals (ports_of ports) (messages_of blocks) kept.totals key f same);
    names = repaired_names ports (with_value ports key (fresh row)) was whole kept.names holds key f row (fresh row) last there refl refl refl (ports_changed row there) connects keeps connected paired (ports_apart ports) (shown_at port_of ports key ∙ ap (option_map port_of) there);
  }
