use Rattle.std.proofs.Common.{◌≡◌, true, length, arith, ap, sym, subst, ◌∙◌, is_some, IsSome, Some, option_map, true≢false}
use Rattle.lpc_slots.specs.Table.{Table, at, listed, parts}
use Rattle.lpc_slots.proofs.Frames.{parts_without}
use Rattle.lpc_ports.specs.declared.rows.PortRow.{PortRow}
use Rattle.lpc_ports.specs.Layout.{InOrder, port_of, ports_of, seen}
use Rattle.lpc_ports.specs.Lent.{messages_of}
use Rattle.lpc_ports.proofs.Ordered.{first_mapped, freed_order, gone_here, gone_port, length_shown, mapped_some, ports_apart, shown_at}
use Rattle.lpc_ports.proofs.Totalled.{clients_counted, totals_free}
use Rattle.lpc_ports.proofs.Named.{freed_names, rows_order, rows_ports, rows_seen}
use Rattle.lpc_ports.proofs.Ports.free.Goals as goal
use Rattle.lpc_ports.proofs.Ports.free.Goals.{then-self, else-self}

pub unreachable-requires : goal.unreachable-requires
unreachable-requires c =
    let stands : IsSome (at c.self.inside.ports c.args.port) = sym (mapped_some port_of (at c.self.inside.ports c.args.port)) ∙ ap is_some (sym (shown_at port_of c.self.inside.ports c.args.port)) ∙ (rw (← c.self.view_is) at c.requires.open) in
    true≢false (sym stands ∙ ap is_some (sym c.in-None.ensures.value))

pub remove_port-requires : goal.remove_port-requires
remove_port-requires c =
    let ports = c.self.inside.ports in
    clients_counted c.self.inside.totals (ports_of ports) (messages_of c.self.inside.blocks) c.self.invariant.totals c.args.port c.in-Some.row.port (ports_apart ports) (shown_at port_of ports c.args.port ∙ ap (option_map port_of) (sym c.in-Some.ensures.value))

pub invariant_of-self : goal.invariant_of-self
invariant_of-self c =
    let ports = c.self.inside.ports in
    let there : Some c.in-Some.row ≡ at ports c.args.port = c.in-Some.ensures.value in
    let taken = gone_port ports c.remove.new.self c.args.port (Some c.in-Some.row) there (sym (ap is_some there)) c.in-Some.ensures.table c.in-Some.ensures.listed in
    let order = subst (λ (p : Table PortRow). InOrder p c.self.inside.blocks) (sym taken.0)
    (freed_order ports c.self.inside.blocks c.self.invariant.order c.args.port (first_mapped _ (rw (← c.self.view_is) at c.requires.empty))) in
    let totals = totals_free c.self.inside.totals (ports_of ports) (messages_of c.self.inside.blocks) c.self.invariant.totals c.args.port c.in-Some.row.port (ports_apart ports) (shown_at port_of ports c.args.port ∙ ap (option_map port_of) (sym there)) in
    let none : c.if-self.self ≡ true → c.is_unnamed-unnamed.result ≡ true = λ holds. elim c.if-self.branch [
      | then-self w ↦ sym w.self-is ∙ holds
      | else-self w ↦ absurd (true≢false (sym holds ∙ (w.self-is ∙ w.if-self.false)))
    ] in
    let was : c.if-self.self ≡ true → c.self.inside.whole ≡ true = λ holds. elim c.if-self.branch [
      | then-self w ↦ w.if-self.true
      | else-self w ↦ absurd (true≢false (sym holds ∙ (w.self-is ∙ w.if-self.false)))
    ] in
    let left = ap (parts port_of) taken.1 ∙ parts_without port_of c.args.port (listed ports) in
    let one = c.lose_paired.ensures in
    let two = c.lose_connected.ensures in
    record {
      order = rows_order _ _ two.rows c.self.inside.blocks (rows_order _ _ one.rows c.self.inside.blocks order);
      totals = rw (c.remove_port.ensures, rows_ports _ _ two.rows, rows_ports _ _ one.rows, left) totals;
      names = freed_names ports c.remove.new.self c.self.inside.whole c.if-self.self c.self.invariant.names was c.args.port c.in-Some.row c.lose_paired.new.ports c.lose_connected.new.ports (sym there) (gone_here ports c.self.inside.blocks c.self.invariant.order c.args.port (first_mapped _ (rw (← c.self.view_is) at c.requires.empty))) taken.0 left (λ holds. c.is_unnamed-unnamed.ensures.paired (none holds)) (λ holds. c.is_unnamed-unnamed.ensures.connected (none holds)) one.rows one.paired one.connected two.rows two.paired two.connected (ports_apart ports) (shown_at port_of ports c.args.port ∙ ap (option_map port_of) (sym there));
    }

pub returns-clause-table : goal.returns-clause-table
returns-clause-table c =
    let ports = c.self.inside.ports in
    let there : Some c.in-Some.row ≡ at ports c.args.port = c.in-Some.ensures.value in
    let taken = gone_port ports c.remove.new.self c.args.port (Some c.in-Some.row) there (sym (ap is_some there)) c.in-Some.ensures.table c.in-Some.ensures.listed in
    rw (← c.self.view_is)
    (rows_seen _ _ c.lose_connected.ensures.rows c.self.inside.blocks ∙ rows_seen _ _ c.lose_paired.ensures.rows c.self.inside.blocks
    ∙ λ i. record (seen ports c.self.inside.blocks) {
      ports = (ap (parts port_of) taken.1 ∙ parts_without port_of c.args.port (listed ports)) i;
      port_room = ap (λ (t : Table PortRow). t.spare) taken.0 i;
      ports_made = ap (λ (t : Table PortRow). t.made) taken.0 i;
    })

pub returns-clause-fewer : goal.returns-clause-fewer
returns-clause-fewer c =
    let old = length_shown port_of (listed c.self.inside.ports) in
    let new = length_shown port_of (listed c.remove.new.self) in
    let still = ap length (rows_ports _ _ c.lose_connected.ensures.rows ∙ rows_ports _ _ c.lose_paired.ensures.rows) in
    rw (← c.self.view_is) (omega (arith, still, new, old, c.in-Some.ensures.fewer))
