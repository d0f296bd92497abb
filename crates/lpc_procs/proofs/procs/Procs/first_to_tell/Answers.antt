use Rattle.std.proofs.Common.{◌≡◌, rules, sym, ◌∙◌, length}
use Rattle.lpc_procs.specs.Kept.{rows_in}
use Rattle.lpc_procs.specs.Procs.{all_registrations}
use Rattle.lpc_procs.proofs.Stored.{none-untold}
use Rattle.lpc_procs.proofs.procs.Procs.first_to_tell.Goals as goal

pub returns-then-self-eq0 : goal.returns-then-self-eq0
returns-then-self-eq0 c =
    let zero_registered : c.self.inside.registered ≡ 0 = search (rules, c.if-self-eq0.true) in
    let none : length (all_registrations (rows_in c.self.inside.threads)) ≡ 0 = sym c.self.invariant.all.told ∙ zero_registered in
    record { registration = rw (← c.self.view_is) (sym (none-untold c.args.pid (rows_in c.self.inside.threads) none)) }
