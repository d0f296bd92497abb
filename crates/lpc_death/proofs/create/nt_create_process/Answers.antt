use Rattle.std.proofs.Common.{◌≡◌, ◌∙◌, ◌+◌, ◌≤◌, [], ◌∷◌, ◌++◌, true, Some, refl, ap, subst, sym, arith}
use Rattle.std.proofs.lemmas.Bool.Decides.{nat_tests}
use Rattle.lpc_base.specs.Rows.{has}
use Rattle.lpc_base.proofs.RowWords.{has-change, has-kept, has-push}
use Rattle.lpc_base.proofs.Bools.{same-number}
use Rattle.lpc_model.specs.Basics.{AddsProcess, AddsThread, DrawsOrdinal, basic, no_handles}
use Rattle.lpc_model.specs.Creation.{new_process, new_thread, second_birth}
use Rattle.lpc_model.specs.Found.{free_handle, is_process, is_table, is_thread, process_name, thread_name, token_of}
use Rattle.lpc_model.specs.Tests.{handle_load, next_birth}
use Rattle.lpc_model.specs.World.{World}
use Rattle.lpc_rows.specs.Clauses.{thread_row, birth_next}
use Rattle.lpc_procs.specs.declared.rows.Caller.{Caller}
use Rattle.lpc_rows.specs.Ready.{caller}
use Rattle.lpc_base.specs.declared.status.TheConstants.{SUCCESS}
use Rattle.lpc_model.specs.declared.entry.CallName.TheVariants.{NtCreateProcess}
use Rattle.lpc_model.specs.declared.entry.Entry.TheVariants.{Answer}
use Rattle.lpc_model.specs.Fields.{first_thread, h}
use Rattle.lpc_model.specs.Creation.{gives_life}
use Rattle.lpc_death.proofs.Makes.{begins, drawn-later, drawn-stands, load-same, first-birth, load-more, next-birth, two-handles, booted_by, alike, given-alike, served-made}
use Rattle.lpc_rows.specs.Capacity.{Capacity, handle_places, view_places}
use Rattle.lpc_rows.proofs.Capacities.{none_pushed}
use Rattle.lpc_death.proofs.create.nt_create_process.Goals as goal

pub procs_draw_birth-thread-requires-clause-stands : goal.procs_draw_birth-thread-requires-clause-stands
procs_draw_birth-thread-requires-clause-stands c =
    let w = c.args.world.now.rows in
    let rows : c.begin_call-2.new.self.rows ≡ w = c.begin_call-2.ensures.rows ∙ (c.in_ok-handles_reserve.ensures.same.rows ∙ (c.in_ok-procs_reserve.ensures.same.rows ∙ c.in_ok-thread_reserve.ensures.same.rows)) in
    rw (c.procs_draw_birth-process.ensures.step.rows, rows) (drawn-stands w c.args.by c.caller-caller.ensures.stands)

pub procs_add_process-requires-clause-birth : goal.procs_add_process-requires-clause-birth
procs_add_process-requires-clause-birth c =
    let u = c.procs_draw_birth-process.new.self.rows in
    let b = c.procs_draw_birth-process.result in
    let drawn = drawn-later b (is_thread c.args.by) u.threads c.procs_draw_birth-process.ensures.drawn in
    rw (c.procs_draw_birth-thread.ensures.step.rows) (begins (basic u (DrawsOrdinal c.args.by)).threads c.args.pid b c.procs_draw_birth-process.ensures.maker drawn)

pub procs_add_thread-requires-clause-process : goal.procs_add_thread-requires-clause-process
procs_add_thread-requires-clause-process c =
    let u = c.procs_draw_birth-thread.new.self.rows in
    rw (c.procs_add_process.ensures.rows) (has-push (is_process c.args.pid) u.processes _ (grind (arith, nat_tests)))

pub procs_add_thread-requires-clause-table : goal.procs_add_thread-requires-clause-table
procs_add_thread-requires-clause-table c =
    let u = c.procs_draw_birth-thread.new.self.rows in
    rw (c.procs_add_process.ensures.rows) (has-push (is_table c.args.pid) u.handles (no_handles c.args.pid) (grind (arith, nat_tests)))

pub procs_add_thread-requires-clause-birth : goal.procs_add_thread-requires-clause-birth
procs_add_thread-requires-clause-birth c =
    let drawn = c.procs_draw_birth-thread.ensures.drawn in
    rw (c.procs_add_process.ensures.rows) (begins c.procs_draw_birth-thread.new.self.rows.threads c.args.tid c.procs_draw_birth-thread.result c.procs_draw_birth-thread.ensures.maker drawn)

pub give_handle-value-requires-clause-table : goal.give_handle-value-requires-clause-table
give_handle-value-requires-clause-table c =
    let w = c.args.world.now.rows in
    let rows : c.begin_call-2.new.self.rows ≡ w = c.begin_call-2.ensures.rows ∙ (c.in_ok-handles_reserve.ensures.same.rows ∙ (c.in_ok-procs_reserve.ensures.same.rows ∙ c.in_ok-thread_reserve.ensures.same.rows)) in
    rw (c.procs_add_thread.ensures.rows, c.procs_add_process.ensures.rows, c.procs_draw_birth-thread.ensures.step.rows, c.procs_draw_birth-process.ensures.step.rows, rows)
    (has-kept (is_table c.caller-caller.result.process) w.handles (no_handles c.args.pid) c.caller-caller.ensures.table)

pub give_handle-value-requires-clause-load : goal.give_handle-value-requires-clause-load
give_handle-value-requires-clause-load c =
    let w = c.args.world.now.rows in
    let rows : c.begin_call-2.new.self.rows ≡ w = c.begin_call-2.ensures.rows ∙ (c.in_ok-handles_reserve.ensures.same.rows ∙ (c.in_ok-procs_reserve.ensures.same.rows ∙ c.in_ok-thread_reserve.ensures.same.rows)) in
    let pid = c.caller-caller.result.process in
    let process = ap (λ (t : Caller). t.process) c.caller-caller.ensures.row in
    let few : handle_load w pid + 2 ≤ 256 = subst (λ p. handle_load w p + 2 ≤ 256) (sym process) c.in_default.ensures.few in
    let same = load-same w pid c.args.pid c.caller-caller.ensures.table in
    let load : handle_load c.procs_add_thread.new.self.rows pid ≡ handle_load w pid = rw (c.procs_add_thread.ensures.rows, c.procs_add_process.ensures.rows, c.procs_draw_birth-thread.ensures.step.rows, c.procs_draw_birth-process.ensures.step.rows, rows) same in
    omega (arith, few, load)

pub give_handle-second-requires-clause-table : goal.give_handle-second-requires-clause-table
give_handle-second-requires-clause-table c =
    let v = c.procs_add_thread.new.self.rows in
    let pid = c.caller-caller.result.process in
    let w = c.args.world.now.rows in
    let rows : c.begin_call-2.new.self.rows ≡ w = c.begin_call-2.ensures.rows ∙ (c.in_ok-handles_reserve.ensures.same.rows ∙ (c.in_ok-procs_reserve.ensures.same.rows ∙ c.in_ok-thread_reserve.ensures.same.rows)) in
    let home : has (is_table pid) v.handles ≡ true = rw (c.procs_add_thread.ensures.rows, c.procs_add_process.ensures.rows, c.procs_draw_birth-thread.ensures.step.rows, c.procs_draw_birth-process.ensures.step.rows, rows) (has-kept (is_table pid) w.handles (no_handles c.args.pid) c.caller-caller.ensures.table) in
    rw (c.give_handle-value.ensures.rows) (has-change (is_table pid) (is_table pid) _ (λ t. refl) v.handles ∙ home)

pub give_handle-second-requires-clause-load : goal.give_handle-second-requires-clause-load
give_handle-second-requires-clause-load c =
    let w = c.args.world.now.rows in
    let rows : c.begin_call-2.new.self.rows ≡ w = c.begin_call-2.ensures.rows ∙ (c.in_ok-handles_reserve.ensures.same.rows ∙ (c.in_ok-procs_reserve.ensures.same.rows ∙ c.in_ok-thread_reserve.ensures.same.rows)) in
    let pid = c.caller-caller.result.process in
    let process = ap (λ (t : Caller). t.process) c.caller-caller.ensures.row in
    let few : handle_load w pid + 2 ≤ 256 = subst (λ p. handle_load w p + 2 ≤ 256) (sym process) c.in_default.ensures.few in
    let same = load-same w pid c.args.pid c.caller-caller.ensures.table in
    let load : handle_load c.procs_add_thread.new.self.rows pid ≡ handle_load w pid = rw (c.procs_add_thread.ensures.rows, c.procs_add_process.ensures.rows, c.procs_draw_birth-thread.ensures.step.rows, c.procs_draw_birth-process.ensures.step.rows, rows) same in
    let more = load-more c.procs_add_thread.new.self.rows pid _ in
    let here : handle_load c.give_handle-value.new.world.rows pid ≤ handle_load c.procs_add_thread.new.self.rows pid + 1 = rw (c.give_handle-value.ensures.rows) more in
    omega (arith, few, load, here)

pub returns-clause-serves : goal.returns-clause-serves
returns-clause-serves c =
    let old = c.args.world.now in
    let w = c.args.world.now.rows in
    let rows : c.begin_call-2.new.self.rows ≡ w = c.begin_call-2.ensures.rows ∙ (c.in_ok-handles_reserve.ensures.same.rows ∙ (c.in_ok-procs_reserve.ensures.same.rows ∙ c.in_ok-thread_reserve.ensures.same.rows)) in
    let by = caller w c.args.by in
    let tid = c.args.by in
    let is = c.caller-caller.ensures.row in
    let number = c.caller-caller.ensures.number in
    let pid = c.caller-caller.result.process in
    let own : by.number ≡ tid = sym (ap (λ (t : Caller). t.number) is) ∙ number in
    let process : pid ≡ by.process = ap (λ (t : Caller). t.process) is in
    let row : thread_row w tid ≡ Some by = c.caller-caller.ensures.whole in
    let one = first-birth w tid by c.procs_draw_birth-process.result row (rw rows at c.procs_draw_birth-process.ensures.birth) in
    let two = next-birth w tid by c.procs_draw_birth-thread.result row (rw own (same-number tid)) (subst (λ v. birth_next v tid ≡ Some c.procs_draw_birth-thread.result) (c.procs_draw_birth-process.ensures.step.rows ∙ ap (λ v. basic v (DrawsOrdinal tid)) rows) c.procs_draw_birth-thread.ensures.birth) in
    let u1 = c.procs_draw_birth-process.ensures.step.rows ∙ ap (λ v. basic v (DrawsOrdinal tid)) rows in
    let u2 = c.procs_draw_birth-thread.ensures.step.rows ∙ ap (λ v. basic v (DrawsOrdinal tid)) u1 in
    let token = token_of w by.process in
    let copied = c.copy-token.result in
    let same : copied ≡ token = c.copy-token.ensures ∙ sym c.process_token.ensures ∙ ap (token_of w) process in
    let u3 = c.procs_add_process.ensures.rows ∙ ap (λ v. basic v (AddsProcess (new_process c.args.pid (Some pid) c.procs_draw_birth-process.result copied))) u2 in
    let u4 = c.procs_add_thread.ensures.rows ∙ ap (λ v. basic v (AddsThread (new_thread c.args.tid c.args.pid c.procs_draw_birth-thread.result))) u3 in
    let booted : c.procs_add_thread.new.self.rows ≡ booted_by w by token c.args.pid c.args.tid = u4 ∙ alike w by token copied tid pid c.args.pid c.args.tid c.procs_draw_birth-process.result c.procs_draw_birth-thread.result own process one two same in
    let value = c.give_handle-value.result in
    let second = c.give_handle-second.result in
    let b1 = c.procs_draw_birth-process.result in
    let b2 = c.procs_draw_birth-thread.result in
    let base : World = booted_by w by token c.args.pid c.args.tid in
    let first_is : value ≡ free_handle base by.process = subst (λ p. value ≡ free_handle base p) process (subst (λ v. value ≡ free_handle v pid) booted c.give_handle-value.ensures.value) in
    let g1 : c.give_handle-value.new.world.rows ≡ basic base (gives_life by value (process_name (next_birth by))) =
    c.give_handle-value.ensures.rows ∙ given-alike c.procs_add_thread.new.self.rows base by pid value process_name b1 (next_birth by) booted process one in
    let second_is : second ≡ free_handle (basic base (gives_life by value (process_name (next_birth by)))) by.process =
    subst (λ p. second ≡ free_handle (basic base (gives_life by value (process_name (next_birth by)))) p) process (subst (λ v. second ≡ free_handle v pid) g1 c.give_handle-second.ensures.value) in
    let g2 : c.give_handle-second.new.world.rows ≡ basic (basic base (gives_life by value (process_name (next_birth by)))) (gives_life by second (thread_name (second_birth by))) =
    c.give_handle-second.ensures.rows ∙ given-alike c.give_handle-value.new.world.rows (basic base (gives_life by value (process_name (next_birth by)))) by pid second thread_name b2 (second_birth by) g1 process two in
    let both = two-handles w by token c.args.pid c.args.tid value second (rw process at c.caller-caller.ensures.table) first_is second_is in
    let loose : c.give_handle-second.new.world.loose ≡ old.loose =
    c.give_handle-second.ensures.loose ∙ (c.give_handle-value.ensures.loose ∙ (c.procs_add_thread.ensures.loose ∙ (c.procs_add_process.ensures.loose ∙ (c.procs_draw_birth-thread.ensures.loose ∙ (c.procs_draw_birth-process.ensures.loose ∙ (c.begin_call-2.ensures.loose
    ∙ (c.in_ok-handles_reserve.ensures.same.loose ∙ (c.in_ok-procs_reserve.ensures.same.loose ∙ c.in_ok-thread_reserve.ensures.same.loose)))))))) in
    let calls : c.give_handle-second.new.world.calls ≡ old.calls + 1 =
    c.give_handle-second.ensures.calls ∙ (c.give_handle-value.ensures.calls ∙ (c.procs_add_thread.ensures.calls ∙ (c.procs_add_process.ensures.calls ∙ (c.procs_draw_birth-thread.ensures.step.calls ∙ (c.procs_draw_birth-process.ensures.step.calls ∙ (c.begin_call-2.ensures.calls
    ∙ ap (λ n. n + 1) (c.in_ok-handles_reserve.ensures.same.calls ∙ (c.in_ok-procs_reserve.ensures.same.calls ∙ c.in_ok-thread_reserve.ensures.same.calls)))))))) in
    let told : c.push.new.self.list ≡ c.args.out.now.list ++ Answer by.number NtCreateProcess SUCCESS (h value ∷ first_thread second ∷ []) ∷ [] =
    subst (λ n. c.push.new.self.list ≡ c.args.out.now.list ++ Answer n NtCreateProcess SUCCESS (h value ∷ first_thread second ∷ []) ∷ []) (ap (λ (t : Caller). t.number) is) (rw (c.process_fields.ensures) at c.push.ensures.list) in
    served-made tid c.args.pid c.args.tid value second by old c.give_handle-second.new.world c.args.out.now c.push.new.self refl c.in_default.ensures.found both.0 both.1 g2 told loose calls

-- what a process has memory for in the end it has once that is reserved: the process that is made has none yet
pub returns-clause-asked_handles : goal.returns-clause-asked_handles
returns-clause-asked_handles c =
    let pid = c.caller-caller.result.process in
    let mine : pid ≡ (caller c.args.world.now.rows c.args.by).process = ap (λ (t : Caller). t.process) c.caller-caller.ensures.row in
    let made = c.give_handle-second.ensures.capacity ∙ (c.give_handle-value.ensures.capacity ∙ (c.procs_add_thread.ensures.capacity ∙ c.procs_add_process.ensures.capacity)) in
    let begun = c.procs_draw_birth-thread.ensures.capacity ∙ (c.procs_draw_birth-process.ensures.capacity ∙ c.begin_call-2.ensures.capacity) in
    let left : handle_places c.give_handle-second.new.world.capacity pid ≡ handle_places c.handles_reserve.new.self.capacity pid =
    ap (λ (m : Capacity). handle_places m pid) made ∙ (none_pushed c.procs_draw_birth-thread.new.self.capacity.handles c.args.pid pid ∙ ap (λ (m : Capacity). handle_places m pid) begun) in
    let had = ap (λ (m : Capacity). handle_places m pid) c.in_ok-procs_reserve.ensures.capacity ∙ ap (λ (m : Capacity). handle_places m pid) c.in_ok-thread_reserve.ensures.capacity in
    let rows = c.in_ok-procs_reserve.ensures.same.rows ∙ c.in_ok-thread_reserve.ensures.same.rows in
    rw (← mine, left, ← had, ← rows) c.in_ok-handles_reserve.ensures.asked

pub returns-clause-other_places : goal.returns-clause-other_places
returns-clause-other_places c =
    let mine : c.caller-caller.result.process ≡ (caller c.args.world.now.rows c.args.by).process = ap (λ (t : Caller). t.process) c.caller-caller.ensures.row in
    rw (← mine) (λ other off.
    let made = c.give_handle-second.ensures.capacity ∙ (c.give_handle-value.ensures.capacity ∙ (c.procs_add_thread.ensures.capacity ∙ c.procs_add_process.ensures.capacity)) in
    let begun = c.procs_draw_birth-thread.ensures.capacity ∙ (c.procs_draw_birth-process.ensures.capacity ∙ c.begin_call-2.ensures.capacity) in
    let left : handle_places c.give_handle-second.new.world.capacity other ≡ handle_places c.handles_reserve.new.self.capacity other =
    ap (λ (m : Capacity). handle_places m other) made ∙ (none_pushed c.procs_draw_birth-thread.new.self.capacity.handles c.args.pid other ∙ ap (λ (m : Capacity). handle_places m other) begun) in
    let had = ap (λ (m : Capacity). handle_places m other) c.in_ok-procs_reserve.ensures.capacity ∙ ap (λ (m : Capacity). handle_places m other) c.in_ok-thread_reserve.ensures.capacity in
    left ∙ (c.in_ok-handles_reserve.ensures.other_places other off ∙ had))

pub returns-clause-view_places : goal.returns-clause-view_places
returns-clause-view_places c = λ pid.
    let made = c.give_handle-second.ensures.capacity ∙ (c.give_handle-value.ensures.capacity ∙ (c.procs_add_thread.ensures.capacity ∙ c.procs_add_process.ensures.capacity)) in
    let begun = c.procs_draw_birth-thread.ensures.capacity ∙ (c.procs_draw_birth-process.ensures.capacity ∙ c.begin_call-2.ensures.capacity) in
    let left : view_places c.give_handle-second.new.world.capacity pid ≡ view_places c.handles_reserve.new.self.capacity pid =
    ap (λ (m : Capacity). view_places m pid) made ∙ (none_pushed c.procs_draw_birth-thread.new.self.capacity.views c.args.pid pid ∙ ap (λ (m : Capacity). view_places m pid) begun) in
    let kept = ap (λ (m : Capacity). view_places m pid) c.in_ok-handles_reserve.ensures.capacity in
    let had = ap (λ (m : Capacity). view_places m pid) c.in_ok-procs_reserve.ensures.capacity ∙ ap (λ (m : Capacity). view_places m pid) c.in_ok-thread_reserve.ensures.capacity in
    left ∙ (kept ∙ had)
