use Rattle.std.proofs.Common.{sym}
use Rattle.std.specs.Option.{option_copied}
use Rattle.lpc_subsys.specs.Clients.{request_in}
use Rattle.lpc_subsys.proofs.Rows.{clients-set, follows-none, follows-set, found-at, refused-set, replies-none, replies-set, sound-set}
use Rattle.lpc_subsys.proofs.server.Server.turn.Goals as goal

pub invariant_of-self : goal.invariant_of-self
invariant_of-self c =
    let request = request_in c.args.m.now.now (option_copied c.args.view) in
    sound-set _ c.client_in-process.result _ _ request c.self.invariant.single (found-at _ _ _ _ _ c.deref.ensures.value c.in-Some.ensures c.index_mut.ensures.value)
    _ _ (rw c.body.ensures.data_bytes at c.answer.ensures.row) c.answer.ensures.same c.self.invariant.served

pub returns-in-Some-clause-reply : goal.returns-in-Some-clause-reply
returns-in-Some-clause-reply c =
    let request = request_in c.args.m.now.now (option_copied c.args.view) in
    rw (← c.self.view_is, ← c.client_in-process.ensures)
    (replies-set _ c.client_in-process.result _ _ request c.self.invariant.single (found-at _ _ _ _ _ c.deref.ensures.value c.in-Some.ensures c.index_mut.ensures.value)
    _ _ (rw c.body.ensures.data_bytes at c.answer.ensures.reply))

pub returns-in-Some-clause-answered : goal.returns-in-Some-clause-answered
returns-in-Some-clause-answered c =
    let request = request_in c.args.m.now.now (option_copied c.args.view) in
    rw (← c.self.view_is, ← c.client_in-process.ensures)
    (follows-set _ c.client_in-process.result _ _ request c.self.invariant.single (found-at _ _ _ _ _ c.deref.ensures.value c.in-Some.ensures c.index_mut.ensures.value)
    _ _ (rw c.body.ensures.data_bytes at c.answer.ensures.row))

pub returns-in-Some-clause-refused : goal.returns-in-Some-clause-refused
returns-in-Some-clause-refused c =
    let request = request_in c.args.m.now.now (option_copied c.args.view) in
    rw (← c.self.view_is)
    (refused-set _ c.client_in-process.result _ _ request c.self.invariant.single (found-at _ _ _ _ _ c.deref.ensures.value c.in-Some.ensures c.index_mut.ensures.value)
    _ _ _ (rw c.body.ensures.data_bytes at c.answer.ensures.row) (rw c.body.ensures.data_bytes at c.answer.ensures.reply))

pub returns-in-Some-clause-clients : goal.returns-in-Some-clause-clients
returns-in-Some-clause-clients c =
    let request = request_in c.args.m.now.now (option_copied c.args.view) in
    rw (← c.self.view_is)
    (clients-set _ c.client_in-process.result _ _ request c.self.invariant.single (found-at _ _ _ _ _ c.deref.ensures.value c.in-Some.ensures c.index_mut.ensures.value)
    _ _ (rw c.body.ensures.data_bytes at c.answer.ensures.row) c.answer.ensures.same)

pub returns-in-None-clause-reply : goal.returns-in-None-clause-reply
returns-in-None-clause-reply c =
    rw (← c.self.view_is, ← c.client_in-process.ensures, c.refuse.ensures)
    (replies-none c.self.inside.clients.items c.client_in-process.result (request_in c.args.m.now.now (option_copied c.args.view)) (sym (rw c.deref.ensures.value at c.in-None.ensures)))

pub returns-in-None-clause-answered : goal.returns-in-None-clause-answered
returns-in-None-clause-answered c =
    rw (← c.self.view_is, ← c.client_in-process.ensures)
    (follows-none c.self.inside.clients.items c.client_in-process.result (request_in c.args.m.now.now (option_copied c.args.view)) (sym (rw c.deref.ensures.value at c.in-None.ensures)))
