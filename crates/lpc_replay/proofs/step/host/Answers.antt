use Rattle.std.proofs.Common.{sym, ap, ◌∙◌}
use Rattle.lpc_replay.proofs.Serving.{host_comes, host_tells, host_world, hosted_when}
use Rattle.lpc_replay.proofs.step.host.Goals as goal

pub returns-in_err-host-clause-rows : goal.returns-in_err-host-clause-rows
returns-in_err-host-clause-rows c = host_world c.args.world.now.rows c.args.residents.now c.args.tid c.args.kind c.args.handle (c.requires.settled, c.requires.held)

pub returns-in_ok-host-clause-rows : goal.returns-in_ok-host-clause-rows
returns-in_ok-host-clause-rows c = host_world c.args.world.now.rows c.args.residents.now c.args.tid c.args.kind c.args.handle (c.requires.settled, c.requires.held)

pub returns-in_ok-host-clause-residents : goal.returns-in_ok-host-clause-residents
returns-in_ok-host-clause-residents c =
    c.in_ok-host.ensures.hosted ∙ (ap (λ b. hosted_when b c.args.tid c.args.handle c.args.residents.now) (sym c.if-eq.true)
    ∙ host_comes c.args.world.now.rows c.args.residents.now c.args.tid c.args.kind c.args.handle c.hosting-status.result c.has-had.result c.eq.result (c.requires.settled, c.requires.held) c.hosting-status.ensures c.has-had.ensures c.eq.ensures)

pub returns-in_ok-host-clause-told : goal.returns-in_ok-host-clause-told
returns-in_ok-host-clause-told c = host_tells c.args.world.now.rows c.args.residents.now c.args.tid c.args.kind c.args.handle c.push.new.self.list c.args.out.now.list c.hosting-status.result c.has-had.result (c.requires.settled, c.requires.held) c.requires.empty c.push.ensures.list c.hosting-status.ensures c.has-had.ensures

pub returns-else-eq-clause-rows : goal.returns-else-eq-clause-rows
returns-else-eq-clause-rows c = host_world c.args.world.now.rows c.args.residents.now c.args.tid c.args.kind c.args.handle (c.requires.settled, c.requires.held)

pub returns-else-eq-clause-residents : goal.returns-else-eq-clause-residents
returns-else-eq-clause-residents c =
    ap (λ b. hosted_when b c.args.tid c.args.handle c.args.residents.now) (sym c.if-eq.false)
    ∙ host_comes c.args.world.now.rows c.args.residents.now c.args.tid c.args.kind c.args.handle c.hosting-status.result c.has-had.result c.eq.result (c.requires.settled, c.requires.held) c.hosting-status.ensures c.has-had.ensures c.eq.ensures

pub returns-else-eq-clause-told : goal.returns-else-eq-clause-told
returns-else-eq-clause-told c = host_tells c.args.world.now.rows c.args.residents.now c.args.tid c.args.kind c.args.handle c.push.new.self.list c.args.out.now.list c.hosting-status.result c.has-had.result (c.requires.settled, c.requires.held) c.requires.empty c.push.ensures.list c.hosting-status.ensures c.has-had.ensures
