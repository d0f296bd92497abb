use Rattle.std.proofs.Common.{◌∙◌, ap, arith}
use Rattle.std.proofs.lemmas.Bool.Decides.{nat_tests}
use Rattle.lpc_base.proofs.RowWords.{has-push}
use Rattle.lpc_model.specs.Basics.{no_handles}
use Rattle.lpc_model.specs.Found.{is_process, is_table}
use Rattle.lpc_rows.proofs.Capacities.{none_pushed}
use Rattle.lpc_rows.specs.Capacity.{Capacity, handle_places, view_places}
use Rattle.lpc_directives.proofs.directives.boot.Goals as goal

pub procs_add_thread-requires-clause-process : goal.procs_add_thread-requires-clause-process
procs_add_thread-requires-clause-process c = rw (c.procs_add_process.ensures.rows) (has-push (is_process c.args.pid) c.begin_call-2.new.self.rows.processes _ (grind (arith, nat_tests)))

pub procs_add_thread-requires-clause-table : goal.procs_add_thread-requires-clause-table
procs_add_thread-requires-clause-table c = rw (c.procs_add_process.ensures.rows) (has-push (is_table c.args.pid) c.begin_call-2.new.self.rows.handles (no_handles c.args.pid) (grind (arith, nat_tests)))

-- the process that is made has no handle and no view yet
pub returns-clause-places : goal.returns-clause-places
returns-clause-places c = λ pid.
    let made = c.procs_add_thread.ensures.capacity ∙ c.procs_add_process.ensures.capacity in
    let left = ap (λ (m : Capacity). handle_places m pid) made ∙ none_pushed c.begin_call-2.new.self.capacity.handles c.args.pid pid in
    let had = ap (λ (m : Capacity). handle_places m pid) c.in_ok-procs_reserve.ensures.capacity ∙ ap (λ (m : Capacity). handle_places m pid) c.in_ok-thread_reserve.ensures.capacity in
    left ∙ (ap (λ (m : Capacity). handle_places m pid) c.begin_call-2.ensures.capacity ∙ had)

pub returns-clause-view_places : goal.returns-clause-view_places
returns-clause-view_places c = λ pid.
    let made = c.procs_add_thread.ensures.capacity ∙ c.procs_add_process.ensures.capacity in
    let left = ap (λ (m : Capacity). view_places m pid) made ∙ none_pushed c.begin_call-2.new.self.capacity.views c.args.pid pid in
    let had = ap (λ (m : Capacity). view_places m pid) c.in_ok-procs_reserve.ensures.capacity ∙ ap (λ (m : Capacity). view_places m pid) c.in_ok-thread_reserve.ensures.capacity in
    left ∙ (ap (λ (m : Capacity). view_places m pid) c.begin_call-2.ensures.capacity ∙ had)
