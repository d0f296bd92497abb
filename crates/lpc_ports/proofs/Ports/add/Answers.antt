use Rattle.std.proofs.Common.{◌≡◌, ◌+◌, ◌-◌, true, [], ◌∷◌, ◌++◌, ap, arith, refl, sym, subst, ◌∙◌, true≢false}
use Rattle.lpc_base.proofs.RowWords.{count-bound}
use Rattle.lpc_slots.specs.Table.{Table, listed, parts}
use Rattle.lpc_slots.proofs.Frames.{parts_push}
use Rattle.lpc_slots.specs.declared.Key.{Key}
use Rattle.lpc_ports.specs.declared.Port.{Port}
use Rattle.lpc_ports.specs.declared.rows.PortRow.{PortRow}
use Rattle.lpc_ports.specs.Layout.{InOrder, port_of, ports_of, seen}
use Rattle.lpc_ports.specs.Lent.{messages_of}
use Rattle.lpc_ports.specs.Table.{is_client, new_port}
use Rattle.lpc_ports.proofs.Ordered.{added_order, length_shown, vacant_shown}
use Rattle.lpc_ports.proofs.Totalled.{totals_port}
use Rattle.lpc_ports.proofs.Named.{added_names, rows_order, rows_ports, rows_vacant}
use Rattle.lpc_ports.proofs.Ports.add.Goals as goal
use Rattle.lpc_ports.proofs.Ports.add.Goals.{then-self, else-self}

pub add_port-requires : goal.add_port-requires
add_port-requires c =
    let is = c.self.invariant.totals.clients in
    let below = count-bound is_client (ports_of c.self.inside.ports) in
    omega (arith, is, below, length_shown port_of (listed c.self.inside.ports), c.count.ensures.number, c.count.ensures.most, (rw (← c.self.view_is) at c.requires.few))

pub invariant_of-self : goal.invariant_of-self
invariant_of-self c =
    let counted : c.if-self.self ≡ true → c.gain_connected-counted.result ≡ true = λ holds. elim c.if-self.branch [
      | then-self w ↦ sym w.self-is ∙ holds
      | else-self w ↦ absurd (true≢false (sym holds ∙ (w.self-is ∙ w.if-self.false)))
    ] in
    let was : c.if-self.self ≡ true → c.self.inside.whole ≡ true = λ holds. elim c.if-self.branch [
      | then-self w ↦ w.if-self.true
      | else-self w ↦ absurd (true≢false (sym holds ∙ (w.self-is ∙ w.if-self.false)))
    ] in
    let made = c.insert_reserved.ensures in
    let ports = c.self.inside.ports in
    let mid = c.gain_connected-counted.new.ports in
    let keeps = c.gain_connected-counted.ensures.rows in
    let shown = ap (parts port_of) made.listed ∙ parts_push port_of (listed mid) c.insert_reserved.result _ in
    let order = subst (λ (p : Table PortRow). InOrder p c.self.inside.blocks) (sym made.table)
    (added_order mid c.self.inside.blocks (rows_order ports mid keeps c.self.inside.blocks c.self.invariant.order) c.insert_reserved.result _ made.vacant made.generation c.empty.ensures.first c.empty.ensures.last c.empty-2.ensures.first c.empty-2.ensures.last refl refl) in
    let totals = totals_port c.self.inside.totals (ports_of ports) (messages_of c.self.inside.blocks) c.self.invariant.totals c.insert_reserved.result (new_port c.args.kind c.args.birth c.args.connection) in
    record {
      order = order;
      totals = rw (c.add_port.ensures, shown, rows_ports ports mid keeps) totals;
      names = added_names ports mid c.self.inside.whole c.if-self.self c.self.invariant.names was c.args.connection keeps c.gain_connected-counted.ensures.paired (λ holds. c.gain_connected-counted.ensures.connected (counted holds)) c.insert_reserved.result _ c.insert_reserved.new.self made.vacant made.table shown refl refl refl refl;
    }

pub returns-clause-vacant : goal.returns-clause-vacant
returns-clause-vacant c =
    rw (← c.self.view_is)
    (vacant_shown port_of c.self.inside.ports c.insert_reserved.result (rows_vacant c.self.inside.ports c.gain_connected-counted.new.ports c.gain_connected-counted.ensures.rows c.insert_reserved.result c.insert_reserved.ensures.vacant))

pub returns-clause-table : goal.returns-clause-table
returns-clause-table c =
    let made = c.insert_reserved.ensures in
    let ports = c.self.inside.ports in
    let mid = c.gain_connected-counted.new.ports in
    let keeps = c.gain_connected-counted.ensures.rows in
    let key = c.insert_reserved.result in
    let row : Key × Port = (key, new_port c.args.kind c.args.birth c.args.connection) in
    let shown : ports_of c.insert_reserved.new.self ≡ ports_of ports ++ row ∷ [] = ap (parts port_of) made.listed ∙ parts_push port_of (listed mid) key _ ∙ ap (λ rows. rows ++ row ∷ []) (rows_ports ports mid keeps) in
    rw (← c.self.view_is)
    (λ i. record (seen ports c.self.inside.blocks) {
      ports = shown i;
      port_room = (ap (λ (t : Table PortRow). t.spare) made.table ∙ ap (λ n. n - 1) keeps.spare) i;
      ports_made = (ap (λ (t : Table PortRow). t.made) made.table ∙ ap (λ n. n + 1) keeps.made) i;
    })
