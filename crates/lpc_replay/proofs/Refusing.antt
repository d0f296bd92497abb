-- Each reply that fits no wait is refused, and a refused reply changes nothing.
use Rattle.std.proofs.Common.{Bool, List, [], ap, false, length, refl, subst, true, ℕ, ◌++◌, ◌∙◌, ◌∷◌, ◌≡◌}
use Rattle.std.specs.Prelude.{Err, None, Ok, Option, Result, Some, ◌==◌}
use Rattle.lpc_base.proofs.RowWords.{first-passes}
use Rattle.lpc_base.proofs.Bools.{first-true, same-number}
use Rattle.lpc_base.specs.declared.status.Status.{Status}
use Rattle.lpc_model.specs.Basics.{Basic, Tells, entries_of, posts_of, world_after}
use Rattle.lpc_model.specs.Fields.{info}
use Rattle.lpc_model.specs.Found.{is_live_thread, live_thread, wait_of}
use Rattle.lpc_model.specs.Lines.{ScriptCall, ScriptLine, of_resident, accept_connect_port, boot, close, complete_connect_port, connect_port, create_port, create_process, create_thread, dir, duplicate_object, link, listen_port, query_object, register_thread_terminate_port, reply_port, reply_wait_receive_port, request_port, request_wait_reply_port, run, terminate_process, terminate_thread, thread, token, create_section, map_view_of_section, read_virtual_memory, unmap_view_of_section, write_virtual_memory, read_request_data, write_request_data, impersonate_client_of_port, open_process_token, open_thread_token, query_information_token, raise, set_information_process, set_information_thread}
use Rattle.lpc_model.specs.Linked.{HasHeldRows}
use Rattle.lpc_model.specs.Machine.{bare_steps, name_of_call, own_steps, ready_steps, service_of, settled, step, steps, thread_steps}
use Rattle.lpc_model.specs.Replies.{ChangesNothing, IsRefused, MisfitsAreRefused, RefusedRepliesChangeNothing, Reply, fitted_wait, reply_of}
use Rattle.lpc_model.specs.Settle.{IsSettled, settle}
use Rattle.lpc_model.specs.World.{ThreadRow, WaitRow, World}
use Rattle.lpc_model.specs.declared.entry.CallName.{CallName}
use Rattle.lpc_model.specs.declared.entry.Entry.TheVariants.{Answer, Busy, NoThread}
use Rattle.lpc_model.specs.declared.entry.Entry.{Entry}
use Rattle.lpc_model.proofs.Calls.Holding.{Holds, settled_holds}
use Rattle.lpc_replay.proofs.Failing.{Ends}
use Rattle.lpc_replay.proofs.HeldWorlds.{held_sweep, settled_none, step_tells}
use Rattle.lpc_replay.proofs.Misfits.{OneRefusal, StaysWhereRefused}
use Rattle.lpc_replay.proofs.RefusedReceive.{receive_misfits, receive_stays}
use Rattle.lpc_replay.proofs.RefusedReply.{reply_misfits, reply_stays}

-- the thread that is found has the number
live_number : (w : World) (tid : ℕ) (by : ThreadRow) → live_thread w tid ≡ Some by → (by.number == tid) ≡ true
live_number w tid by live = first-true _ _ (first-passes (is_live_thread tid) w.threads by live)

-- the two calls that are a reply call: one that receives then, and one that doesn't
abbrev pub replying : Bool → Reply → ScriptCall
replying true r = reply_wait_receive_port r.handle (Some r.bytes)
replying false r = reply_port r.handle r.bytes

misfit_ends : (w : World) (r : Reply) (receives : Bool) (by : ThreadRow) → live_thread w r.by ≡ Some by → fitted_wait w r ≡ None → Ends (OneRefusal r.by) (service_of w by (replying receives r))
misfit_ends w r true by live misfit = receive_misfits w r by live misfit
misfit_ends w r false by live misfit = reply_misfits w r by live misfit

settled_refusal : (tid : ℕ) (by : ThreadRow) (name : CallName) (r : Result (List Basic) Status) → (by.number == tid) ≡ true → Ends (OneRefusal tid) r → OneRefusal tid (settled by name r)
settled_refusal tid by name (Ok bs) own h = h
settled_refusal tid by name (Err s) own h = (Answer by.number name s [], rw (own, h) refl, refl)

misfit_ready : (w : World) (r : Reply) (receives : Bool) (by : ThreadRow) (o : Option WaitRow) → live_thread w r.by ≡ Some by → fitted_wait w r ≡ None → OneRefusal r.by (ready_steps by (replying receives r) o w)
misfit_ready w r receives by (Some x) live misfit = (Busy by.number, live_number w r.by by live, refl)
misfit_ready w r receives by None live misfit =
    let c = replying receives r in
    settled_refusal r.by by (name_of_call c) (service_of w by c) (live_number w r.by by live) (misfit_ends w r receives by live misfit)

misfit_thread : (w : World) (r : Reply) (receives : Bool) (o : Option ThreadRow) → live_thread w r.by ≡ o → fitted_wait w r ≡ None → OneRefusal r.by (thread_steps r.by (replying receives r) o w)
misfit_thread w r receives None live misfit = (NoThread r.by, same-number r.by, refl)
misfit_thread w r receives (Some by) live misfit = misfit_ready w r receives by (wait_of w r.by) live misfit

misfit_steps : (w : World) (r : Reply) (receives : Bool) → fitted_wait w r ≡ None → OneRefusal r.by (own_steps (run r.by (replying receives r)) w)
unfolding own_steps
misfit_steps w r receives misfit = misfit_thread w r receives (live_thread w r.by) refl misfit

-- what holds of each reply call holds of each line that is one
pub each_reply : (P : ScriptLine → Reply → Type 0) → ((r : Reply) (receives : Bool) → P (run r.by (replying receives r)) r) → (line : ScriptLine) (r : Reply) → reply_of line ≡ Some r → P line r
each_reply P h (run tid (reply_port handle bytes)) r is =
    let q : Reply = record { by = tid; handle = handle; bytes = bytes } in
    let same : q ≡ r = cc in
    subst (P (run tid (reply_port handle bytes))) same (h q false)
each_reply P h (run tid (reply_wait_receive_port handle (Some bytes))) r is =
    let q : Reply = record { by = tid; handle = handle; bytes = bytes } in
    let same : q ≡ r = cc in
    subst (P (run tid (reply_wait_receive_port handle (Some bytes)))) same (h q true)
each_reply P h (run tid (reply_wait_receive_port handle None)) r is = absurd (cc)
each_reply P h (run tid (create_port name dacl)) r is = absurd (cc)
each_reply P h (run tid (connect_port name quality view info)) r is = absurd (cc)
each_reply P h (run tid (listen_port handle)) r is = absurd (cc)
each_reply P h (run tid (accept_connect_port context bytes accept view)) r is = absurd (cc)
each_reply P h (run tid (complete_connect_port handle)) r is = absurd (cc)
each_reply P h (run tid (request_port handle bytes)) r is = absurd (cc)
each_reply P h (run tid (request_wait_reply_port handle bytes)) r is = absurd (cc)
each_reply P h (run tid (register_thread_terminate_port handle)) r is = absurd (cc)
each_reply P h (run tid (close handle)) r is = absurd (cc)
each_reply P h (run tid (duplicate_object handle access)) r is = absurd (cc)
each_reply P h (run tid (query_object handle)) r is = absurd (cc)
each_reply P h (run tid (create_process pid new)) r is = absurd (cc)
each_reply P h (run tid (create_thread target new)) r is = absurd (cc)
each_reply P h (run tid (terminate_thread target code)) r is = absurd (cc)
each_reply P h (run tid (terminate_process target code)) r is = absurd (cc)
each_reply P h (run tid (create_section size prot)) r is = absurd (cc)
each_reply P h (run tid (map_view_of_section handle offset size prot)) r is = absurd (cc)
each_reply P h (run tid (unmap_view_of_section address)) r is = absurd (cc)
each_reply P h (run tid (read_virtual_memory address n)) r is = absurd (cc)
each_reply P h (run tid (write_virtual_memory address new)) r is = absurd (cc)
each_reply P h (run tid (read_request_data handle bytes index n)) r is = absurd (cc)
each_reply P h (run tid (write_request_data handle bytes index new)) r is = absurd (cc)
each_reply P h (run tid (impersonate_client_of_port handle bytes)) r is = absurd (cc)
each_reply P h (run tid (set_information_thread class)) r is = absurd (cc)
each_reply P h (run tid open_thread_token) r is = absurd (cc)
each_reply P h (run tid open_process_token) r is = absurd (cc)
each_reply P h (run tid (query_information_token handle class)) r is = absurd (cc)
each_reply P h (run tid (set_information_process target class port)) r is = absurd (cc)
each_reply P h (run tid (raise code handled)) r is = absurd (cc)
each_reply P h (boot pid tid name) r is = absurd (cc)
each_reply P h (thread tid pid) r is = absurd (cc)
each_reply P h (token name content) r is = absurd (cc)
each_reply P h (of_resident tid what had) r is = absurd (cc)
each_reply P h (dir path) r is = absurd (cc)
each_reply P h (link path target) r is = absurd (cc)

-- a step tells what its line's own steps do, and what the world does behind them as it settles
abbrev behind_own : World → ScriptLine → List Basic
behind_own w line = settle (world_after w (own_steps line w))

own_tells : (w : World) (line : ScriptLine) → (step w line).entries ≡ entries_of (own_steps line w ++ behind_own w line)
unfolding bare_steps
own_tells w line = step_tells w line

one_refused : (w : World) (line : ScriptLine) (tid : ℕ) → OneRefusal tid (own_steps line w) → IsRefused tid (step w line).entries
one_refused w line tid one = record {
  own = one.0;
  others = entries_of (behind_own w line);
  refusal = one.1;
  told = own_tells w line ∙ ap (λ bs. entries_of (bs ++ behind_own w line)) one.2;
}

pub misfits_refused : (w : World) (line : ScriptLine) → MisfitsAreRefused w line
misfits_refused w line =
    each_reply (λ line r. fitted_wait w r ≡ None → IsRefused r.by (step w line).entries)
    (λ r receives misfit. one_refused w (run r.by (replying receives r)) r.by (misfit_steps w r receives misfit)) line

-- a refused reply
service_stays : (w : World) (r : Reply) (receives : Bool) (by : ThreadRow) → Holds (StaysWhereRefused r.by) (service_of w by (replying receives r))
service_stays w r true by = receive_stays w r.by by r.handle (Some r.bytes)
service_stays w r false by = reply_stays w r.by by r.handle r.bytes

ready_stays : (w : World) (r : Reply) (receives : Bool) (by : ThreadRow) (o : Option WaitRow) → StaysWhereRefused r.by (ready_steps by (replying receives r) o w)
ready_stays w r receives by (Some x) = λ later _. (Busy by.number, refl)
ready_stays w r receives by None =
    let c = replying receives r in
    settled_holds (StaysWhereRefused r.by) by (name_of_call c) (service_of w by c) (service_stays w r receives by) (λ s _ later _. (Answer by.number (name_of_call c) s [], refl))

thread_stays : (w : World) (r : Reply) (receives : Bool) (o : Option ThreadRow) → StaysWhereRefused r.by (thread_steps r.by (replying receives r) o w)
thread_stays w r receives None = λ later _. (NoThread r.by, refl)
thread_stays w r receives (Some by) = ready_stays w r receives by (wait_of w r.by)

steps_stay : (w : World) (r : Reply) (receives : Bool) → StaysWhereRefused r.by (own_steps (run r.by (replying receives r)) w)
unfolding own_steps
steps_stay w r receives = thread_stays w r receives (live_thread w r.by)

-- where nothing is done, nothing is left to settle and each row is held, no row goes
pub one_step : (w : World) (line : ScriptLine) (e : Entry) → IsSettled w → HasHeldRows w → own_steps line w ≡ Tells e ∷ [] → steps line w ≡ Tells e ∷ []
unfolding bare_steps
one_step w line e settles held is = rw (is, settled_none w settles, held_sweep w held) refl

one_changes_nothing : (w : World) (line : ScriptLine) → IsSettled w → HasHeldRows w → (e : Entry) × (own_steps line w ≡ Tells e ∷ []) → ChangesNothing w line
one_changes_nothing w line settles held one =
    let all = one_step w line one.0 settles held one.1 in
    record { stays = ap (world_after w) all; silent = ap posts_of all; alone = ap (λ bs. length (entries_of bs)) all }

refused_own : (w : World) (line : ScriptLine) (tid : ℕ) → IsRefused tid (step w line).entries → IsRefused tid (entries_of (own_steps line w ++ behind_own w line))
refused_own w line tid refused = subst (IsRefused tid) (own_tells w line) refused

pub refusals_stay : (w : World) (line : ScriptLine) → IsSettled w → HasHeldRows w → RefusedRepliesChangeNothing w line
refusals_stay w line settles held =
    each_reply (λ line r. IsRefused r.by (step w line).entries → ChangesNothing w line)
    (λ r receives refused.
    let line = run r.by (replying receives r) in
    one_changes_nothing w line settles held (steps_stay w r receives (behind_own w line) (refused_own w line r.by refused))) line
