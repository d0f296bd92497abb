use Rattle.std.proofs.Common.{◌≡◌, None, rules}
use Rattle.lpc_procs.proofs.Children.{retold, retold-none}
use Rattle.lpc_procs.proofs.births.retell.Goals as goal

pub returns-in-Some : goal.returns-in-Some
returns-in-Some c = λ whole. retold c.args.p.now c.args.live c.in-Some.maker c.args.children.now c.move_child.new.children c.in-Some.is (rw (c.is_peopled.ensures) at c.move_child.ensures whole)

pub returns-in_default : goal.returns-in_default
returns-in_default c = λ whole.
    let none : c.args.p.now.row.maker ≡ None = search (rules, c.in_default) in
    retold-none c.args.p.now c.args.live c.args.children.now none whole
