-- The step of each line leaves sound waits behind, and so does each line of a script.
use Rattle.lpc_base.proofs.RowMaps.{every-first}
use Rattle.lpc_base.proofs.RowWords.{first-passes, has-push}
use Rattle.lpc_base.specs.Rows.{first, has, change}
use Rattle.lpc_base.specs.declared.port_kind.PortKind.TheVariants.{Connection, Unnamed}
use Rattle.lpc_message.specs.declared.kind.TheConstants.{DATAGRAM}
use Rattle.lpc_model.proofs.Calls.Creating.{process-keeps, threaded}
use Rattle.lpc_model.proofs.Steps.Ending.{world-ends}
use Rattle.lpc_model.proofs.Steps.Handles.{open-new}
use Rattle.lpc_model.proofs.Calls.Holding.{holds_ok}
use Rattle.lpc_model.proofs.Calls.Lines.{IsCalled, Keep, LineLaw, line-does}
use Rattle.lpc_model.proofs.Calls.Outcomes.{Outcomes}
use Rattle.lpc_model.proofs.Sound.Worlds.{sound-memory, sound-tokens}
use Rattle.lpc_model.proofs.Sound.Basics.{sound-binds, sound-handle, sound-identifier, sound-ordinal, sound-process, sound-registers, sound-thread, sound-acts, sound-processes}
use Rattle.lpc_model.proofs.Sound.Calls.{LeaveSound, entered-sound, listened-sound, listening-sound, requested-sound}
use Rattle.lpc_model.proofs.Sound.Close.{close_handle-sound, found-value}
use Rattle.lpc_model.proofs.Sound.Connect.{accepted-sound, completed-sound, connected-sound, created-sound, refused-sound}
use Rattle.lpc_model.proofs.Sound.Raise.{sent-sound, set-sound}
use Rattle.lpc_model.proofs.Calls.Raising.{heard-routed}
use Rattle.lpc_model.proofs.Sound.Reply.{IsReplied, received-sound, receiving-sound, replied, replied-sound}
use Rattle.lpc_model.proofs.Sound.Terminate.{end-sound}
use Rattle.lpc_model.proofs.Calls.Tested.{CanComplete, CanWait, can-complete, can-wait, name-open, named-wait, send-routed}
use Rattle.lpc_model.proofs.Calls.Usable.{HasRoute, IsUsable, port-usable}
use Rattle.lpc_model.specs.Basics.{AddsProcess, AddsThread, DrawsIdentifier, DrawsOrdinal, basic, no_handles, AddsSection, AddsToken, world_after, doomed}
use Rattle.lpc_model.specs.Connect.{ConnectAnswer, answer_test, complete_test, names_connect, connection_request, connect_steps, create_steps, named_steps}
use Rattle.lpc_model.specs.Counts.{asked}
use Rattle.lpc_model.specs.Creation.{second_birth}
use Rattle.lpc_model.specs.Entering.{row_of}
use Rattle.lpc_model.specs.Found.{free_handle, is_live, is_open, is_table, lives_in, thread_name, was_process, was_thread, section_name, acting_token, token_name, token_of, is_process}
use Rattle.lpc_model.specs.Lines.{ScriptLine}
use Rattle.lpc_model.specs.Memory.{SECTION_ACCESS, new_section}
use Rattle.lpc_model.specs.Machine.{directive_birth, new_process, new_thread, own_steps}
use Rattle.lpc_model.specs.Named.{named_port}
use Rattle.lpc_model.specs.Request.{Sendable, given_reply, receive_test, send_test, sent_by}
use Rattle.lpc_model.specs.SoundWaits.{HasShutConnects, HasSoundWaits, IsSoundWorld, has_home}
use Rattle.lpc_model.specs.Targets.{LIFE_ACCESS}
use Rattle.lpc_model.specs.Tests.{PORT_ACCESS, next_birth, port_test}
use Rattle.lpc_model.specs.World.{Birth, ProcessRow, ThreadRow, World, no_rows, Effective, CallName}
use Rattle.lpc_names.specs.Walk.{LinkTo, Stands}
use Rattle.lpc_names.specs.declared.names.Found.TheVariants.{Directory, Item}
use Rattle.std.proofs.Common.{List, None, Option, Some, [], arith, false, refl, subst, true, ℕ, ◌++◌, ◌∷◌, ◌≡◌}
use Rattle.std.proofs.lemmas.Bool.{eqb-true}
use Rattle.std.proofs.lemmas.Bool.Decides.{nat_tests}
use Rattle.std.specs.Prelude.{None, Ok, Option, Some, is_some, ◌==◌}
use Rattle.lpc_model.proofs.Calls.Sharing.{connected-keeps, accepted-keeps, allowed-keeps, guarded-keeps}
use Rattle.lpc_model.specs.Offers.{acceptance}
use Rattle.lpc_model.specs.Impersonation.{TOKEN_ACCESS, held_content, new_token, process_content, token_steps}
use Rattle.lpc_model.specs.declared.entry.CallName.TheVariants.{NtOpenProcessToken, NtOpenThreadToken}
use Rattle.lpc_model.proofs.Sound.Ports.{sound-secures}

-- Processes and threads that are made
-- a process that lives has a table of handles
live-home : (w : World) (pid : ℕ) → IsSoundWorld w → is_live w pid ≡ true → has (is_table pid) w.handles ≡ true
live-home w pid s is = at (first (lives_in pid) w.threads) refl is
  where
    at : (o : Option ThreadRow) → first (lives_in pid) w.threads ≡ o → is_some o ≡ true → has (is_table pid) w.handles ≡ true
    at None here is = absurd (cc)
    at (Some t) here is =
        let lives = first-passes (lives_in pid) w.threads t here in
        let same : (t.process == pid) ≡ true = grind arith in
        subst (λ n. has (is_table n) w.handles ≡ true) (eqb-true t.process pid same) (every-first (has_home w) (lives_in pid) w.threads t s.homes here)

-- a process and its first thread
booted-sound : (w : World) (p : ProcessRow) (tid : ℕ) (birth : Birth) → was_process w p.number ≡ false → was_thread w tid ≡ false → IsSoundWorld w → IsSoundWorld (basic (basic w (AddsProcess p)) (AddsThread (new_thread tid p.number birth)))
booted-sound w p tid birth new unused s =
    let home : has (is_table p.number) (w.handles ++ no_handles p.number ∷ []) ≡ true = has-push (is_table p.number) w.handles (no_handles p.number) (grind (arith, nat_tests)) in
    sound-thread (basic w (AddsProcess p)) (new_thread tid p.number birth) home unused (sound-process w p new s)

-- Calls
sound-calls : (by : ThreadRow) (w : World) → IsCalled HasShutConnects w by → Outcomes w by (λ _. Keep IsSoundWorld w)
sound-calls by w is = record {
  creates = λ dacl. created-sound w by Unnamed is.can refl;
  founds = λ name dacl path free. guarded-keeps IsSoundWorld sound-secures w (create_steps by (named_steps (next_birth by) path) (free_handle w by.process)) (next_birth by) dacl (λ s. let c = is.can in sound-binds _ path (Stands (Item (next_birth by))) (open-new w by.process (free_handle w by.process) PORT_ACCESS (next_birth by) c.home) (created-sound w by Connection c refl s));
  connects = λ name quality view bytes offer own connection c. allowed-keeps IsSoundWorld sound-secures w (connect_steps by connection offer own (connection_request by offer bytes) w) (next_birth by) quality (acting_token w by) (λ s. connected-keeps IsSoundWorld (λ v pid x u. sound-memory v _ _ _ u) w by connection offer own (connection_request by offer bytes)
      (connected-sound w by connection offer bytes is.can (holds_ok (λ port. is_open w port ≡ true) (named_port w name) connection (name-open w name s) c.port_named) s));
  listens = λ handle port m found at. listened-sound w port.birth m at;
  awaits_connect = λ handle port found at. let u = holds_ok (IsUsable w) (port_test w by handle) port (port-usable w by handle) found.port_found in listening-sound w by port.birth at is.can u.opens;
  refuses = λ context bytes view a at. refused-sound w by a (answered bytes a at);
  accepts = λ context bytes view offer a views c s. accepted-keeps IsSoundWorld (λ v pid x u. sound-memory v _ _ _ u) w by context (free_handle w by.process) a views
      (accepted-sound w by context a.message a.wait (acceptance a.message.body views) (answered bytes a c.answered) is.can s);
  completes = λ handle c at s. completed-sound w by c (holds_ok (CanComplete w) (complete_test w by handle) c (can-complete w by handle s) at) s;
  sends = λ handle bytes s at sound. entered-sound (basic w (DrawsIdentifier by.number)) (row_of s.queue s.port (sent_by by DATAGRAM s.message)) (sound-identifier w by.number sound);
  asks = λ handle bytes s at sound. requested-sound w by s.port s.queue s.message sound is.can (holds_ok (λ (s : Sendable). HasRoute w s.port s.queue) (send_test w by handle bytes) s (send-routed w by handle bytes) at);
  replies = λ handle bytes port m x at read fits. replied-sound w port m x fits;
  receives = λ handle bytes o port queue bs m r at s. received-sound w by port queue bs m at (holds_ok (IsReplied w) (given_reply w port o) bs (replied w port o s) r.reply_made);
  awaits_message = λ handle bytes o port queue bs r at s.
      let u = holds_ok (IsUsable w) (port_test w by handle) port (port-usable w by handle) r.port_found in
      receiving-sound w by port queue bs at is.can (holds_ok (CanWait w port) (receive_test w port) queue (can-wait w port u) r.queue_found) (holds_ok (IsReplied w) (given_reply w port o) bs (replied w port o s) r.reply_made);
  registers = λ handle port at new few. sound-registers w by.number port.birth;
  repeats = λ handle port at known s. s;
  closes = λ handle r at. close_handle-sound w by.process r (found-value w by.process handle r at);
  duplicates = λ handle access r at. sound-handle w by.process r.object (asked r access);
  queries = λ handle r at s. s;
  spawns = λ pid tid new unused.
      let drawn = basic (basic w (DrawsOrdinal by.number)) (DrawsOrdinal by.number) in
      process-keeps IsSoundWorld w by is.can (λ v. sound-ordinal v by.number) (λ v o. sound-handle v by.process o LIFE_ACCESS) pid tid
      (booted-sound drawn (new_process pid (Some by.process) (next_birth by) (token_of w by.process)) tid (second_birth by) new unused);
  starts = λ target tid pid _ live unused s.
      let drawn = basic w (DrawsOrdinal by.number) in
      sound-handle (threaded drawn by tid pid) by.process (thread_name (next_birth by)) LIFE_ACCESS (sound-thread drawn (new_thread tid pid (next_birth by)) (live-home w pid s live) unused (sound-ordinal w by.number s));
  makes_section = λ size prot asked s. let drawn = basic w (DrawsOrdinal by.number) in sound-handle (basic drawn (AddsSection (new_section by size prot))) by.process (section_name (next_birth by)) SECTION_ACCESS (sound-memory drawn _ _ _ (sound-ordinal w by.number s));
  maps_view = λ handle offset size prot t rounded base m s. sound-memory w _ _ _ s;
  unmaps_view = λ address v at s. sound-memory w _ _ _ s;
  reads_memory = λ address n v at s. s;
  writes_memory = λ address new v at may s. sound-memory w _ _ _ s;
  reads_range = λ handle bytes index n d at s. s;
  writes_range = λ handle bytes index new d at may s. sound-memory w _ _ _ s;
  impersonates = λ handle bytes own allowed s. sound-acts w by.number (Some own) s;
  reverts = λ class s. sound-acts w by.number None s;
  opens_own = λ own at s. token-sound NtOpenThreadToken (held_content own) s;
  opens_primary = λ s. token-sound NtOpenProcessToken (process_content w by) s;
  asks_token = λ handle class t field at told s. s;
  sets = λ target class handle pid port at found live s. set-sound w class pid port.birth s;
  handles = λ code handled s. s;
  hears = λ code handled h at s. let c = is.can in sent-sound w by code handled h s c.client c.idle (let heard = heard-routed w by.process at.chance h at.found in heard.route);
  fails = λ code handled s. sound-processes w (change (is_process by.process) (doomed code) w.processes) s;
  ends = λ call name own pid code ts doomed s. world-ends IsSoundWorld w by name own pid code ts (end-sound pid code ts w s is.known);
}
  where
    token-sound : (name : CallName) (content : Effective) → IsSoundWorld w → IsSoundWorld (world_after w (token_steps by name content (free_handle w by.process)))
    token-sound name content s =
        let drawn = basic w (DrawsOrdinal by.number) in
        sound-handle (basic drawn (AddsToken (new_token by content))) by.process (token_name (next_birth by)) TOKEN_ACCESS (sound-tokens drawn _ _ (sound-ordinal w by.number s))

    answered : (bytes : List ℕ) (a : ConnectAnswer) → answer_test w by bytes ≡ Ok a → first (names_connect w by a.message) w.waits ≡ Some a.wait
    answered bytes a at = holds_ok (λ (a : ConnectAnswer). first (names_connect w by a.message) w.waits ≡ Some a.wait) (answer_test w by bytes) a (named-wait w by bytes) at

-- Lines
pub sound-lines : LineLaw HasShutConnects (λ _. Keep IsSoundWorld)
sound-lines = record {
  tells = λ line w e _ s. s;
  calls = sound-calls;
  names = λ w name content _ s. sound-tokens w _ _ s;
  boots = λ w pid tid name content new unused _ _. booted-sound w (new_process pid None (directive_birth pid pid) content) tid (directive_birth tid pid) new unused;
  threads = λ w tid pid live unused _ _ s. sound-thread w (new_thread tid pid (directive_birth tid pid)) (live-home w pid s live) unused s;
  dirs = λ w text path free _. sound-binds w path (Stands Directory) refl;
  links = λ w text target path to free _. sound-binds w path (LinkTo to) refl;
}

-- before the world settles
pub line-sound : (w : World) (line : ScriptLine) → IsSoundWorld w → HasShutConnects w → LeaveSound w (own_steps line w)
line-sound w line s shut = line-does HasShutConnects (λ _. Keep IsSoundWorld) sound-lines w s shut line s

-- the world before the first line is sound
pub sound_none : IsSoundWorld no_rows
sound_none = record {
  waits = refl;
  stay = refl;
  once = λ tid. grind arith;
  names = refl;
  homes = refl;
  tables = λ pid. grind arith;
  unused = λ pid new. refl;
  pairs = refl;
  servers = refl;
  ordinals = λ tid t here. refl;
  numbers = refl;
  makers = refl;
}

-- a sound world has sound waits
pub sound_waits : (w : World) → IsSoundWorld w → HasSoundWaits w
sound_waits w s = s.waits
