use Rattle.std.proofs.Common.{ap, ◌∙◌}
use Rattle.lpc_base.specs.Rows.{first, which}
use Rattle.lpc_procs.specs.Kept.{rank_of, rows_in, rows_of}
use Rattle.lpc_procs.specs.Members.{is_of_rank}
use Rattle.lpc_procs.proofs.Led.{used-few}
use Rattle.lpc_procs.proofs.Owned.{first-among}
use Rattle.lpc_procs.proofs.procs.Procs.first_of.Goals as goal

pub process_rank-requires : goal.process_rank-requires
process_rank-requires g c = used-few c.self.inside.processes.made c.self.inside.used_processes.entries c.self.invariant.found.processes_made

pub returns-in-Some : goal.returns-in-Some
returns-in-Some g c =
    let test = g.Q.Test.test c.args.asked.now in
    let threads = rows_in c.self.inside.threads in
    let members = c.in-Some.ensures.members ∙ ap (λ n. which (is_of_rank n) c.self.inside.members.rows) c.process_rank.ensures in
    let found = rw (← c.self.view_is) at c.first_among.ensures in
    rw (← c.self.view_is)
    (found ∙ ap (λ members. first test (rows_of threads members)) members
    ∙ first-among (rank_of c.self.inside.used_processes.entries) c.args.pid test c.requires threads c.self.inside.members c.self.invariant.all.rows.single c.self.invariant.grouped c.in-Some.ensures.whole)
