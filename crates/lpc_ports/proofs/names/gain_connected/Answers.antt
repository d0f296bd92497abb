use Rattle.std.proofs.Common.{◌+◌, refl, sym, ap, ◌∙◌}
use Rattle.lpc_ports.specs.declared.rows.PortRow.{PortRow}
use Rattle.lpc_ports.specs.Layout.{connected_at}
use Rattle.lpc_ports.specs.Table.{is_the}
use Rattle.lpc_ports.specs.Totals.{one_if}
use Rattle.lpc_ports.proofs.Named.{number_more, number_same, rows_put}
use Rattle.lpc_ports.proofs.names.gain_connected.Goals as goal

pub returns-in-Some-get_mut-clause-rows : goal.returns-in-Some-get_mut-clause-rows
returns-in-Some-get_mut-clause-rows c =
    let fresh : PortRow = record { port = c.in-Some-get_mut.row.now.port; queued = c.in-Some-get_mut.row.now.queued; sent = c.in-Some-get_mut.row.now.sent; sent_count = c.in-Some-get_mut.row.now.sent_count; datagrams = c.in-Some-get_mut.row.now.datagrams; paired = c.in-Some-get_mut.row.now.paired; connected = c.count_up.new.number } in
    rows_put c.args.ports.now c.in-Some.named c.in-Some-get_mut.row.now fresh (sym c.in-Some-get_mut.ensures.value) refl

pub returns-in-Some-get_mut-clause-connected : goal.returns-in-Some-get_mut-clause-connected
returns-in-Some-get_mut-clause-connected c holds q =
    let fresh : PortRow = record { port = c.in-Some-get_mut.row.now.port; queued = c.in-Some-get_mut.row.now.queued; sent = c.in-Some-get_mut.row.now.sent; sent_count = c.in-Some-get_mut.row.now.sent_count; datagrams = c.in-Some-get_mut.row.now.datagrams; paired = c.in-Some-get_mut.row.now.paired; connected = c.count_up.new.number } in
    number_more (λ r. r.connected) c.args.ports.now c.in-Some.named c.in-Some-get_mut.row.now fresh (sym c.in-Some-get_mut.ensures.value) (c.count_up.ensures holds) q
    ∙ ap (λ named. connected_at c.args.ports.now q + one_if (is_the q named)) (sym c.in-Some.is)

pub returns-in-Some-get_mut-clause-paired : goal.returns-in-Some-get_mut-clause-paired
returns-in-Some-get_mut-clause-paired c q =
    let fresh : PortRow = record { port = c.in-Some-get_mut.row.now.port; queued = c.in-Some-get_mut.row.now.queued; sent = c.in-Some-get_mut.row.now.sent; sent_count = c.in-Some-get_mut.row.now.sent_count; datagrams = c.in-Some-get_mut.row.now.datagrams; paired = c.in-Some-get_mut.row.now.paired; connected = c.count_up.new.number } in
    number_same (λ r. r.paired) c.args.ports.now c.in-Some.named c.in-Some-get_mut.row.now fresh (sym c.in-Some-get_mut.ensures.value) refl q
