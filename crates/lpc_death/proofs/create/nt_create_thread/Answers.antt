use Rattle.lpc_death.proofs.Makes.{begins}
use Rattle.lpc_death.proofs.create.nt_create_thread.Goals as goal

pub procs_add_thread-requires-clause-birth : goal.procs_add_thread-requires-clause-birth
procs_add_thread-requires-clause-birth c = begins c.procs_draw_birth-thread.new.self.rows.threads c.args.tid c.procs_draw_birth-thread.result c.procs_draw_birth-thread.ensures.maker c.procs_draw_birth-thread.ensures.drawn
