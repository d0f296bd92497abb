use Rattle.std.proofs.Common.{◌-◌, refl, sym, ap, ◌∙◌}
use Rattle.lpc_ports.specs.declared.rows.PortRow.{PortRow}
use Rattle.lpc_ports.specs.Layout.{paired_at}
use Rattle.lpc_ports.specs.Table.{is_the}
use Rattle.lpc_ports.specs.Totals.{one_if}
use Rattle.lpc_ports.proofs.Named.{number_less, number_same, rows_put}
use Rattle.lpc_ports.proofs.names.lose_paired.Goals as goal

pub returns-in-Some-get_mut-clause-rows : goal.returns-in-Some-get_mut-clause-rows
returns-in-Some-get_mut-clause-rows c =
    let fresh : PortRow = record { port = c.in-Some-get_mut.row.now.port; queued = c.in-Some-get_mut.row.now.queued; sent = c.in-Some-get_mut.row.now.sent; sent_count = c.in-Some-get_mut.row.now.sent_count; datagrams = c.in-Some-get_mut.row.now.datagrams; paired = c.saturating_sub-row.result; connected = c.in-Some-get_mut.row.now.connected } in
    rows_put c.args.ports.now c.in-Some.named c.in-Some-get_mut.row.now fresh (sym c.in-Some-get_mut.ensures.value) refl

pub returns-in-Some-get_mut-clause-paired : goal.returns-in-Some-get_mut-clause-paired
returns-in-Some-get_mut-clause-paired c q =
    let fresh : PortRow = record { port = c.in-Some-get_mut.row.now.port; queued = c.in-Some-get_mut.row.now.queued; sent = c.in-Some-get_mut.row.now.sent; sent_count = c.in-Some-get_mut.row.now.sent_count; datagrams = c.in-Some-get_mut.row.now.datagrams; paired = c.saturating_sub-row.result; connected = c.in-Some-get_mut.row.now.connected } in
    number_less (λ r. r.paired) c.args.ports.now c.in-Some.named c.in-Some-get_mut.row.now fresh (sym c.in-Some-get_mut.ensures.value) c.saturating_sub-row.ensures q
    ∙ ap (λ named. paired_at c.args.ports.now q - one_if (is_the q named)) (sym c.in-Some.is)

pub returns-in-Some-get_mut-clause-connected : goal.returns-in-Some-get_mut-clause-connected
returns-in-Some-get_mut-clause-connected c q =
    let fresh : PortRow = record { port = c.in-Some-get_mut.row.now.port; queued = c.in-Some-get_mut.row.now.queued; sent = c.in-Some-get_mut.row.now.sent; sent_count = c.in-Some-get_mut.row.now.sent_count; datagrams = c.in-Some-get_mut.row.now.datagrams; paired = c.saturating_sub-row.result; connected = c.in-Some-get_mut.row.now.connected } in
    number_same (λ r. r.connected) c.args.ports.now c.in-Some.named c.in-Some-get_mut.row.now fresh (sym c.in-Some-get_mut.ensures.value) refl q
