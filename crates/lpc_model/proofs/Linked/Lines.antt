-- Each line keeps ports linked, and leaves no port row that no row names.
use Rattle.lpc_base.proofs.RowWords.{every-more}
use Rattle.lpc_model.specs.SoundWaits.{IsSoundWorld}
use Rattle.lpc_model.specs.Sweep.{free_unheld, sweep}
use Rattle.lpc_model.specs.Linked.{HasHeldRows, IsLinked, is_root_port}
use Rattle.lpc_model.proofs.Linked.Joins.{swept-linked}
use Rattle.lpc_model.proofs.Held.Ports.{two-passes}
use Rattle.lpc_model.proofs.Held.Lives.{processes-held, sections-held, threads-held, tokens-held}
use Rattle.lpc_model.proofs.Linked.Steps.{is_plain, plain-all}
use Rattle.lpc_model.proofs.Steps.InTurn.{after-append}
use Rattle.std.proofs.Common.{List, None, Some, [], arith, refl, true, ◌∷◌, ◌≡◌}
use Rattle.lpc_base.specs.Rows.{first, every}
use Rattle.lpc_base.specs.declared.status.TheConstants.{SUCCESS}
use Rattle.lpc_message.specs.declared.kind.TheConstants.{DATAGRAM, REQUEST}
use Rattle.lpc_names.specs.Walk.{LinkTo, Stands}
use Rattle.lpc_names.specs.declared.names.Found.TheVariants.{Directory}
use Rattle.lpc_model.specs.declared.entry.CallName.TheVariants.{NtRegisterThreadTerminatePort, NtOpenProcessToken, NtOpenThreadToken, NtReplyPort}
use Rattle.lpc_model.specs.declared.entry.Entry.TheVariants as entry
use Rattle.lpc_model.specs.declared.entry.Entry.TheVariants.{Answer}
use Rattle.lpc_model.specs.declared.entry.Word.TheVariants as word
use Rattle.lpc_model.specs.World.{ThreadRow, World, no_rows, ProcessRow}
use Rattle.lpc_model.specs.Basics.{AddsProcess, AddsThread, Awaits, Basic, Binds, Frees, Joins, Makes, Registers, Tells, world_after, Maps, NamesToken, Secures, Dooms, first_code}
use Rattle.lpc_model.specs.Close.{close_steps}
use Rattle.lpc_model.specs.Connect.{ConnectAnswer, answer_test, complete_steps, listen_steps, names_connect, refuse_steps, connection_request, connect_steps, create_steps, named_steps}
use Rattle.lpc_model.specs.Counts.{asked, duplicate_steps}
use Rattle.lpc_model.specs.Creation.{making_process, making_thread}
use Rattle.lpc_model.specs.Found.{free_handle, acting_token, live_threads}
use Rattle.lpc_model.specs.Lines.{ScriptLine}
use Rattle.lpc_model.specs.Memory.{map_steps, mapped_view, section_steps, unmap_steps, write_steps}
use Rattle.lpc_model.specs.Ranges.{write_range_steps}
use Rattle.lpc_model.specs.Machine.{bare_steps, directive_birth, new_process, new_thread, step, own_steps}
use Rattle.lpc_model.specs.Named.{named_port}
use Rattle.lpc_model.specs.Request.{datagram_steps, receive_steps, reply_steps, request_steps, sent_by}
use Rattle.lpc_model.proofs.Steps.Ending.{AreEnding, answered_end, is_ending, steps-end, end-ending}
use Rattle.lpc_model.proofs.Calls.Holding.{holds_ok}
use Rattle.lpc_model.proofs.Calls.Lines.{AnyWorld, IsCalled, Keep, LineLaw, line-does}
use Rattle.lpc_model.proofs.Linked.Calls.{accepted-linked, connected-linked, name-ends, named-linked, steady-all, unnamed-linked}
use Rattle.lpc_model.proofs.Linked.Close.{handle-plain}
use Rattle.lpc_model.proofs.Calls.Outcomes.{Outcomes}
use Rattle.lpc_model.proofs.Calls.Tested.{named-wait}
use Rattle.lpc_model.proofs.Steps.Steady.{steady-ask, steady-await, steady-receipt, steady-receive, steady-send, steady-hears}
use Rattle.lpc_model.proofs.Calls.Sharing.{connected-keeps, accepted-keeps, allowed-keeps, guarded-keeps}
use Rattle.lpc_model.specs.Impersonation.{held_content, impersonate_steps, process_content, revert_steps, token_steps}
use Rattle.lpc_model.specs.Tests.{next_birth}
use Rattle.lpc_model.proofs.Calls.Raising.{set-passes}
use Rattle.lpc_model.proofs.Sound.Reply.{reply-cases}
use Rattle.lpc_model.specs.Raise.{Heard, raise_steps, set_port_steps, go_on}
use Rattle.lpc_model.proofs.Calls.Acts.{keeps_on}
use Rattle.lpc_model.proofs.Settling.Keeps.{bare-does, bare-ready}
use Rattle.lpc_model.proofs.Settling.Loop.{settle-kept}
use Rattle.lpc_model.proofs.Settling.Settled.{IsReady}
use Rattle.lpc_model.proofs.Settling.Steady.{on-steady}
use Rattle.lpc_model.proofs.Steps.Closing.{behind}
use Rattle.lpc_model.specs.Death.{code_status, end_threads}
use Rattle.lpc_model.specs.Left.{HasLivingPorts}
use Rattle.lpc_model.specs.Settle.{end_doomed, settle}

-- what ends is plain
pub ending-plain : (b : Basic) → is_ending b ≡ true → is_plain b ≡ true
ending-plain (Awaits x) is = absurd (cc)
ending-plain (Binds path node) is = absurd (cc)
ending-plain (Makes p) is = absurd (cc)
ending-plain (Joins client server context) is = absurd (cc)
ending-plain (Frees o) is = absurd (cc)
ending-plain b is = refl

-- so it leaves ports linked
pub ended-linked : (w : World) (bs : List Basic) → AreEnding bs → IsLinked w → IsLinked (world_after w bs)
ended-linked w bs all l = plain-all w bs (every-more is_ending is_plain ending-plain bs all) l

-- Calls
linked-calls : (by : ThreadRow) (w : World) → IsCalled AnyWorld w by → Outcomes w by (λ _. Keep IsLinked w)
linked-calls by w is = record {
  creates = λ dacl. unnamed-linked w by is.can is.sound;
  founds = λ name dacl path free. guarded-keeps IsLinked (λ v b s. plain-all v (Secures b s ∷ []) refl) w (create_steps by (named_steps (next_birth by) path) (free_handle w by.process)) (next_birth by) dacl (named-linked w by path is.can is.sound);
  connects = λ name quality view bytes offer own connection c. allowed-keeps IsLinked (λ v b s. plain-all v (Secures b s ∷ []) refl) w (connect_steps by connection offer own (connection_request by offer bytes) w) (next_birth by) quality (acting_token w by) (λ l. connected-keeps IsLinked (λ v pid x. plain-all v (Maps pid x ∷ []) refl) w by connection offer own (connection_request by offer bytes)
      (connected-linked w by connection offer bytes is.can (holds_ok (λ port. is_root_port w port ≡ true) (named_port w name) connection (name-ends w name l) c.port_named) is.sound l));
  listens = λ handle port m found at. steady-all w (listen_steps by port.birth (Some m)) (steady-receipt m);
  awaits_connect = λ handle port found at. steady-all w (listen_steps by port.birth None) refl;
  refuses = λ context bytes view a at. plain-all w (refuse_steps by a) refl;
  accepts = λ context bytes view offer a views c l. accepted-keeps IsLinked (λ v pid x. plain-all v (Maps pid x ∷ []) refl) w by context (free_handle w by.process) a views
      (accepted-linked w by context (free_handle w by.process) views a.message a.wait (holds_ok (λ (a : ConnectAnswer). first (names_connect w by a.message) w.waits ≡ Some a.wait) (answer_test w by bytes) a (named-wait w by bytes) c.answered) is.can is.sound l);
  completes = λ handle c at. plain-all w (complete_steps by (free_handle w c.wait.process) c) refl;
  sends = λ handle bytes s at. steady-all w (datagram_steps by s.port s.queue (sent_by by DATAGRAM s.message) w) (steady-send w by s);
  asks = λ handle bytes s at. steady-all w (request_steps by s.port s.queue (sent_by by REQUEST s.message) w) (steady-ask w by s);
  replies = λ handle bytes port m x at read fits. plain-all w (reply_steps by x m) (reply-cases (λ b. every is_plain (Tells (entry.Answer by.number NtReplyPort SUCCESS []) ∷ b ∷ []) ≡ true) x m refl refl (λ _. refl));
  receives = λ handle bytes o port queue replied m r at. steady-all w (receive_steps by port queue replied (Some m)) (steady-receive w by handle bytes o port queue replied m r);
  awaits_message = λ handle bytes o port queue replied r at. steady-all w (receive_steps by port queue replied None) (steady-await w by handle bytes o port queue replied r);
  registers = λ handle port at new few. plain-all w (Tells (Answer by.number NtRegisterThreadTerminatePort SUCCESS []) ∷ Registers by.number port.birth ∷ []) refl;
  repeats = λ handle port at known l. l;
  closes = λ handle r at. plain-all w (close_steps by r w) (handle-plain w by.process r);
  duplicates = λ handle access r at. plain-all w (duplicate_steps by (free_handle w by.process) r (asked r access)) refl;
  queries = λ handle r at l. l;
  spawns = λ pid tid new unused. plain-all w (making_process w by pid tid) refl;
  starts = λ target tid pid _ live unused. plain-all w (making_thread w by tid pid) refl;
  makes_section = λ size prot asked. plain-all w (section_steps by size prot (free_handle w by.process)) refl;
  maps_view = λ handle offset size prot s rounded base m. plain-all w (map_steps by (mapped_view s offset rounded prot base)) refl;
  unmaps_view = λ address v at. plain-all w (unmap_steps by v) refl;
  reads_memory = λ address n v at l. l;
  writes_memory = λ address new v at may. plain-all w (write_steps by address new v) refl;
  reads_range = λ handle bytes index n d at l. l;
  writes_range = λ handle bytes index new d at may. plain-all w (write_range_steps by new d) refl;
  impersonates = λ handle bytes own allowed. plain-all w (impersonate_steps by own) refl;
  reverts = λ class. plain-all w (revert_steps by) refl;
  opens_own = λ own at. plain-all w (token_steps by NtOpenThreadToken (held_content own) (free_handle w by.process)) refl;
  opens_primary = plain-all w (token_steps by NtOpenProcessToken (process_content w by) (free_handle w by.process)) refl;
  asks_token = λ handle class t field at told l. l;
  sets = λ target class handle pid port at found live. plain-all w (set_port_steps by class pid port.birth) (set-passes (λ bs. every is_plain bs ≡ true) by class pid port.birth refl refl);
  handles = λ code handled l. l;
  hears = λ code handled h is. steady-all w (raise_steps by code handled (Heard h) w) (steady-hears w by code handled h);
  fails = λ code handled. plain-all w (Dooms by.process code ∷ []) refl;
  ends = λ call name own pid code ts doomed. ended-linked w (answered_end by name own pid code ts w) (steps-end w by name own pid code ts);
}

-- Lines
pub linked-lines : LineLaw AnyWorld (λ _. Keep IsLinked)
linked-lines = record {
  tells = λ line w e _ l. l;
  calls = linked-calls;
  names = λ w name content _. plain-all w (Tells (entry.Directive word.Token SUCCESS) ∷ NamesToken (record { name = name; token = content }) ∷ []) refl;
  boots = λ w pid tid name content _ _ s _. plain-all w (Tells (entry.Directive word.Boot SUCCESS) ∷ AddsProcess (new_process pid None (directive_birth pid pid) content) ∷ AddsThread (new_thread tid pid (directive_birth tid pid)) ∷ []) refl;
  threads = λ w tid pid _ _ s _. plain-all w (Tells (entry.Directive word.Thread SUCCESS) ∷ AddsThread (new_thread tid pid (directive_birth tid pid)) ∷ []) refl;
  dirs = λ w text path free _. plain-all w (Tells (entry.Directive word.Dir SUCCESS) ∷ Binds path (Stands Directory) ∷ []) refl;
  links = λ w text target path to free _. plain-all w (Tells (entry.Directive word.Link SUCCESS) ∷ Binds path (LinkTo to) ∷ []) refl;
}

-- before the world settles
pub line_linked : (w : World) (line : ScriptLine) → IsSoundWorld w → IsLinked w → IsLinked (world_after w (own_steps line w))
line_linked w line s l = line-does AnyWorld (λ _. Keep IsLinked) linked-lines w s tt line l

doomed-linked : (w : World) (p : ProcessRow) → IsLinked w → IsLinked (behind (end_doomed p) w)
unfolding end_doomed
doomed-linked w p l = ended-linked w (end_threads p.number (code_status (first_code 0 p.doom)) (live_threads w p.number) w) (end-ending p.number (code_status (first_code 0 p.doom)) (live_threads w p.number) w) l

pub linked-settles : (w : World) → IsLinked w → IsLinked (behind settle w)
linked-settles = settle-kept IsLinked (λ w tid later some l. steady-all w (go_on tid w) (on-steady w tid) l) (λ w p some l. doomed-linked w p l)

-- before rows go
pub bare_linked : (w : World) (line : ScriptLine) → IsSoundWorld w → IsLinked w → IsLinked (world_after w (bare_steps line w))
bare_linked w line s l = bare-does (Keep IsLinked) (λ w xs ys one two. keeps_on IsLinked w xs ys one two) w line (line_linked w line s) (linked-settles (world_after w (own_steps line w))) l

-- the step of a line keeps ports linked, and leaves no port row that no row names
pub linked_step : (w : World) (line : ScriptLine) → IsSoundWorld w → IsReady (world_after w (own_steps line w)) → IsLinked w → IsLinked (step w line).world
linked_step w line s ready l =
    let bs = bare_steps line w in
    let r = bare-ready w line ready in
    rw (after-append w bs (sweep (world_after w bs))) (swept-linked (world_after w bs) r.safe.sound (bare_linked w line s l))

swept-rows : (w : World) → IsLinked w → HasLivingPorts w → HasHeldRows (world_after w (sweep w))
unfolding sweep
swept-rows w l e =
    let v = world_after w (free_unheld w) in
    rw (after-append w (free_unheld w) (free_unheld v)) (record { ports = two-passes w l e; lives = record { threads = threads-held w; processes = processes-held w }; sections = sections-held w; tokens = tokens-held w })

pub held_step : (w : World) (line : ScriptLine) → IsSoundWorld w → HasLivingPorts (world_after w (bare_steps line w)) → IsLinked w → HasHeldRows (step w line).world
held_step w line s e l =
    let bs = bare_steps line w in
    rw (after-append w bs (sweep (world_after w bs))) (swept-rows (world_after w bs) (bare_linked w line s l) e)

pub linked_none : IsLinked no_rows
linked_none = record { births = λ b. grind arith; pairs = refl; rooted = refl; offers = refl; targets = refl }
