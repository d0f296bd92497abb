use Rattle.std.proofs.Common.{◌≡◌, ◌∙◌, sym, true}
use Rattle.lpc_base.specs.Rows.{has}
use Rattle.lpc_model.specs.Residents.{is_with}
use Rattle.lpc_residents.proofs.Clients.{clients-joined, clients-known}
use Rattle.lpc_residents.proofs.resident.stand.Goals as goal
use Rattle.lpc_residents.proofs.resident.stand.Goals.{then-not-is_client+in_ok-join, else-not-is_client}

pub returns-clause-clients : goal.returns-clause-clients
returns-clause-clients c =
    rw (c.push_reserved.ensures.items, c.reserve.ensures.items)
    (elim c.if-not-is_client.branch [
      | then-not-is_client+in_ok-join w ↦ rw w.server-is (clients-joined _ _ _ _ c.requires.clients w.in_ok-join.ensures.joined)
      | else-not-is_client w ↦
          let known : has (is_with c.args.connection.connect.client.process) c.args.connections.now.items ≡ true = rw (← c.deref.ensures.value) (sym c.has_with-is_client.ensures ∙ w.if-not-is_client.false) in
          rw w.server-is (clients-known _ _ _ c.requires.clients known)
    ])
