-- What each line tells is right: a call has a line for its service, and one for its refusal.
use Rattle.std.proofs.Common.{Bool, [], refl, ℕ, ◌≡◌}
use Rattle.std.specs.Prelude.{Err, None, Option, Some}
use Rattle.lpc_base.specs.declared.status.Status.{Status}
use Rattle.lpc_model.specs.Basics.{Tells}
use Rattle.lpc_model.specs.Connect.{nt_connect_port}
use Rattle.lpc_model.specs.Found.{live_thread, wait_of}
use Rattle.lpc_model.specs.Lines.{of_resident, ScriptCall, ScriptLine, accept_connect_port, boot, close, complete_connect_port, connect_port, create_port, create_process, create_thread, dir, duplicate_object, link, listen_port, query_object, register_thread_terminate_port, reply_port, reply_wait_receive_port, request_port, request_wait_reply_port, run, terminate_process, terminate_thread, thread, token, create_section, map_view_of_section, read_virtual_memory, unmap_view_of_section, write_virtual_memory, read_request_data, write_request_data, impersonate_client_of_port, open_process_token, open_thread_token, query_information_token, raise, set_information_process, set_information_thread}
use Rattle.lpc_model.specs.Lawful.{IsLawfulWorld}
use Rattle.lpc_model.specs.Machine.{bare_steps, boot_line, dir_line, link_line, name_of_call, own_steps, ready_steps, service_of, steps, thread_line, thread_steps, token_line}
use Rattle.lpc_model.specs.Raise.{raise_exception}
use Rattle.lpc_model.specs.Request.{nt_request_wait_reply_port}
use Rattle.lpc_model.specs.Settle.{settle}
use Rattle.lpc_model.specs.World.{ThreadRow, WaitRow, World}
use Rattle.lpc_model.specs.declared.entry.Entry.TheVariants as entry
use Rattle.lpc_model.specs.declared.entry.Entry.TheVariants.{Answer}
use Rattle.lpc_model.specs.declared.entry.Word.TheVariants as word
use Rattle.lpc_model.proofs.GivenBytes.{GivesBytes, HasBytes}
use Rattle.lpc_model.proofs.Calls.Holding.{Holds, directed_holds, settled_holds}
use Rattle.lpc_model.proofs.Runs.{lawful-readied}
use Rattle.lpc_model.proofs.Sound.Terminate.{IsSafe}
use Rattle.lpc_replay.specs.Connects.{own_world}
use Rattle.lpc_replay.proofs.Failing.{fails_with}
use Rattle.lpc_replay.proofs.Fair.{AreFair, AreRight, HaveTheirCalls, IsFair, IsRightStep, are_right, fair_keep, swept_right}
use Rattle.lpc_replay.proofs.FairAccept.{accept_fair}
use Rattle.lpc_replay.proofs.FairClose.{close_fair}
use Rattle.lpc_replay.proofs.FairComplete.{complete_fair}
use Rattle.lpc_replay.proofs.FairConnect.{connect_fails, connect_fair}
use Rattle.lpc_replay.proofs.FairCounts.{create_process_fair, create_thread_fair, duplicate_fair, query_fair}
use Rattle.lpc_replay.proofs.FairCreate.{create_fair}
use Rattle.lpc_replay.proofs.FairDatagram.{datagram_fair}
use Rattle.lpc_replay.proofs.FairDirectives.{resident_fair, boot_fair, dir_fair, further_fair, link_fair, token_fair}
use Rattle.lpc_replay.proofs.FairListen.{listen_fair}
use Rattle.lpc_replay.proofs.FairMemories.{create_section_fair, map_fair, read_fair, unmap_fair, write_fair}
use Rattle.lpc_replay.proofs.FairRaise.{raise_fair, set_process_fair}
use Rattle.lpc_replay.proofs.FairRanges.{read_range_fair, write_range_fair}
use Rattle.lpc_replay.proofs.FairReceive.{receiving_fair}
use Rattle.lpc_replay.proofs.FairRegister.{register_fair}
use Rattle.lpc_replay.proofs.FairReply.{reply_fair}
use Rattle.lpc_replay.proofs.FairRequest.{request_fails, request_fair}
use Rattle.lpc_replay.proofs.FairSettling.{settle_right}
use Rattle.lpc_replay.proofs.FairTerminate.{terminate_process_fair, terminate_thread_fair}
use Rattle.lpc_replay.proofs.FairTokens.{impersonate_fair, open_process_token_fair, open_thread_token_fair, query_information_fair, set_information_fair}
use Rattle.lpc_replay.proofs.Holding.{all_append}

-- a call that is served
service_fair : (w : World) (tid : ℕ) (by : ThreadRow) (name : ScriptCall) → HasBytes name → live_thread w tid ≡ Some by → IsSafe w → HaveTheirCalls w → Holds (AreFair w (run tid name)) (service_of w by name)
service_fair w tid by (create_port text dacl) are live safe h = create_fair w _ by text dacl
service_fair w tid by (connect_port text quality view bytes) are live safe h = connect_fair w _ by text quality view bytes h
service_fair w tid by (listen_port handle) are live safe h = listen_fair w _ by handle
service_fair w tid by (accept_connect_port context bytes accept view) are live safe h = accept_fair w tid by context bytes accept view live h
service_fair w tid by (complete_connect_port handle) are live safe h = complete_fair w tid by handle live h
service_fair w tid by (request_port handle bytes) are live safe h = datagram_fair w _ by handle bytes h
service_fair w tid by (request_wait_reply_port handle bytes) are live safe h = request_fair w _ by handle bytes h
service_fair w tid by (reply_port handle bytes) are live safe h = reply_fair w tid by handle bytes are live h
service_fair w tid by (reply_wait_receive_port handle bytes) are live safe h = receiving_fair w tid by handle bytes are live h
service_fair w tid by (register_thread_terminate_port handle) are live safe h = register_fair w _ by handle
service_fair w tid by (close handle) are live safe h = close_fair w tid by handle (safe.sound.tables by.process) live h
service_fair w tid by (duplicate_object handle access) are live safe h = duplicate_fair w _ by handle access
service_fair w tid by (query_object handle) are live safe h = query_fair w _ by handle
service_fair w tid by (create_process pid new) are live safe h = create_process_fair w _ by pid new
service_fair w tid by (create_thread target new) are live safe h = create_thread_fair w _ by target new
service_fair w tid by (terminate_thread target code) are live safe h = terminate_thread_fair w tid by target code live safe h
service_fair w tid by (terminate_process target code) are live safe h = terminate_process_fair w tid by target code live safe h
service_fair w tid by (create_section size prot) are live safe h = create_section_fair w _ by size prot
service_fair w tid by (map_view_of_section handle offset size prot) are live safe h = map_fair w _ by handle offset size prot
service_fair w tid by (unmap_view_of_section address) are live safe h = unmap_fair w _ by address
service_fair w tid by (read_virtual_memory address n) are live safe h = read_fair w _ by address n
service_fair w tid by (write_virtual_memory address new) are live safe h = write_fair w _ by address new
service_fair w tid by (read_request_data handle bytes index n) are live safe h = read_range_fair w _ by handle bytes index n
service_fair w tid by (write_request_data handle bytes index new) are live safe h = write_range_fair w _ by handle bytes index new
service_fair w tid by (impersonate_client_of_port handle bytes) are live safe h = impersonate_fair w _ by handle bytes
service_fair w tid by (set_information_thread class) are live safe h = set_information_fair w _ by class
service_fair w tid by open_thread_token are live safe h = open_thread_token_fair w _ by
service_fair w tid by open_process_token are live safe h = open_process_token_fair w _ by
service_fair w tid by (query_information_token handle class) are live safe h = query_information_fair w _ by handle class
service_fair w tid by (set_information_process target class handle) are live safe h = set_process_fair w _ by target class handle
service_fair w tid by (raise code handled) are live safe h = raise_fair w tid by code handled live h

-- a call that is refused; an exception that is raised never is
unrefused : (w : World) (by : ThreadRow) (code : ℕ) (handled : Bool) (s : Status) → raise_exception w by code handled ≡ Err s → ⊥
unfolding raise_exception
unrefused w by code handled s is = absurd (cc)

refused_fair : (w : World) (line : ScriptLine) (by : ThreadRow) (name : ScriptCall) (s : Status) → service_of w by name ≡ Err s → IsFair w line (Tells (entry.Answer by.number (name_of_call name) s []))
refused_fair w line by (create_port text dacl) s is = (tt, tt)
refused_fair w line by (connect_port text quality view bytes) s is = (tt, fails_with (nt_connect_port w by text quality view bytes) s (connect_fails w by text quality view bytes) is)
refused_fair w line by (listen_port handle) s is = (tt, tt)
refused_fair w line by (accept_connect_port context bytes accept view) s is = (tt, tt)
refused_fair w line by (complete_connect_port handle) s is = (tt, tt)
refused_fair w line by (request_port handle bytes) s is = (tt, tt)
refused_fair w line by (request_wait_reply_port handle bytes) s is = (fails_with (nt_request_wait_reply_port w by handle bytes) s (request_fails w by handle bytes) is, tt)
refused_fair w line by (reply_port handle bytes) s is = (tt, tt)
refused_fair w line by (reply_wait_receive_port handle bytes) s is = (tt, tt)
refused_fair w line by (register_thread_terminate_port handle) s is = (tt, tt)
refused_fair w line by (close handle) s is = (tt, tt)
refused_fair w line by (duplicate_object handle access) s is = (tt, tt)
refused_fair w line by (query_object handle) s is = (tt, tt)
refused_fair w line by (create_process pid new) s is = (tt, tt)
refused_fair w line by (create_thread target new) s is = (tt, tt)
refused_fair w line by (terminate_thread target code) s is = (tt, tt)
refused_fair w line by (terminate_process target code) s is = (tt, tt)
refused_fair w line by (create_section size prot) s is = (tt, tt)
refused_fair w line by (map_view_of_section handle offset size prot) s is = (tt, tt)
refused_fair w line by (unmap_view_of_section address) s is = (tt, tt)
refused_fair w line by (read_virtual_memory address n) s is = (tt, tt)
refused_fair w line by (write_virtual_memory address new) s is = (tt, tt)
refused_fair w line by (read_request_data handle bytes index n) s is = (tt, tt)
refused_fair w line by (write_request_data handle bytes index new) s is = (tt, tt)
refused_fair w line by (impersonate_client_of_port handle bytes) s is = (tt, tt)
refused_fair w line by (set_information_thread class) s is = (tt, tt)
refused_fair w line by open_thread_token s is = (tt, tt)
refused_fair w line by open_process_token s is = (tt, tt)
refused_fair w line by (query_information_token handle class) s is = (tt, tt)
refused_fair w line by (set_information_process target class handle) s is = (tt, tt)
refused_fair w line by (raise code handled) s is = absurd (unrefused w by code handled s is)

-- the lines
ready_fair : (w : World) (tid : ℕ) (by : ThreadRow) (name : ScriptCall) (o : Option WaitRow) → HasBytes name → live_thread w tid ≡ Some by → IsSafe w → HaveTheirCalls w → AreFair w (run tid name) (ready_steps by name o w)
ready_fair w tid by name (Some x) are live safe h = ((tt, tt), tt)
ready_fair w tid by name None are live safe h =
    settled_holds (AreFair w (run tid name)) by (name_of_call name) (service_of w by name) (service_fair w tid by name are live safe h) (λ s is. (refused_fair w (run tid name) by name s is, tt))

thread_fair : (w : World) (tid : ℕ) (name : ScriptCall) (o : Option ThreadRow) → HasBytes name → live_thread w tid ≡ o → IsSafe w → HaveTheirCalls w → AreFair w (run tid name) (thread_steps tid name o w)
thread_fair w tid name None are live safe h = ((tt, tt), tt)
thread_fair w tid name (Some by) are live safe h = ready_fair w tid by name (wait_of w tid) are live safe h

pub own_fair : (w : World) (line : ScriptLine) → GivesBytes line → IsSafe w → HaveTheirCalls w → AreFair w line (own_steps line w)
unfolding own_steps
own_fair w (boot pid tid name) are safe h = directed_holds (AreFair w (boot pid tid name)) word.Boot (boot_line w pid tid name) (boot_fair w _ pid tid name) (λ s. ((tt, tt), tt))
own_fair w (thread tid pid) are safe h = directed_holds (AreFair w (thread tid pid)) word.Thread (thread_line w tid pid) (further_fair w _ tid pid) (λ s. ((tt, tt), tt))
own_fair w (token name content) are safe h = directed_holds (AreFair w (token name content)) word.Token (token_line w name content) (token_fair w _ name content) (λ s. ((tt, tt), tt))
own_fair w (of_resident tid what had) are safe h = resident_fair w (of_resident tid what had) tid what had
own_fair w (dir path) are safe h = directed_holds (AreFair w (dir path)) word.Dir (dir_line w path) (dir_fair w _ path) (λ s. ((tt, tt), tt))
own_fair w (link path target) are safe h = directed_holds (AreFair w (link path target)) word.Link (link_line w path target) (link_fair w _ path target) (λ s. ((tt, tt), tt))
own_fair w (run tid name) are safe h = thread_fair w tid name (live_thread w tid) are refl safe h

-- with the world's settling, and with the rows that go at the line's end
pub bare_right : (w : World) (line : ScriptLine) → GivesBytes line → IsLawfulWorld w → HaveTheirCalls w → AreRight w line (bare_steps line w)
unfolding bare_steps
bare_right w line are t h =
    let untold = t.single_closings in
    let fair = own_fair w line are (record { sound = t.sound; shut = untold.connects }) h in
    all_append (IsRightStep w line) (own_steps line w) (settle (own_world w line)) (are_right w line (own_steps line w) fair)
    (settle_right w line (record { ready = lawful-readied w line t; calls = fair_keep w line w (own_steps line w) fair h }))

pub steps_right : (w : World) (line : ScriptLine) → GivesBytes line → IsLawfulWorld w → HaveTheirCalls w → AreRight w line (steps line w)
steps_right w line are t h = swept_right w line (bare_steps line w) (bare_right w line are t h)
