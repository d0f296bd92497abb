-- A line that lets no name go leaves no row of an object that no row names.
use Rattle.lpc_base.proofs.Births.{birth-self}
use Rattle.lpc_base.proofs.RowWords.{count-has, every-more, every-push, has-kept, has-push, every-append}
use Rattle.lpc_base.specs.Rows.{count, has, when, which, every}
use Rattle.lpc_base.specs.declared.port_kind.PortKind.{PortKind}
use Rattle.lpc_base.specs.declared.port_kind.PortKind.TheVariants.{Connection, Unnamed}
use Rattle.lpc_base.specs.declared.status.Status.{Status}
use Rattle.lpc_base.specs.declared.status.TheConstants.{SUCCESS}
use Rattle.lpc_model.specs.declared.entry.Word.TheVariants as word
use Rattle.lpc_message.specs.declared.kind.TheConstants.{DATAGRAM, REQUEST}
use Rattle.lpc_model.proofs.Steps.Closing.{behind}
use Rattle.lpc_model.proofs.Calls.Creating.{process-keeps, threaded}
use Rattle.lpc_model.proofs.Steps.Ending.{answered_end}
use Rattle.lpc_model.proofs.Steps.Handles.{named-new, open-count, open-new}
use Rattle.lpc_model.proofs.Held.Steps.{claims, claims-more, counts-more, handle-count, handle-sections, handles-push, held-some, holds-port, keeps_lives, lives-all, lives-handle, lives-more, loosened-on, not-less, ports-more, push-more, quiet-all, quiet-sections, sections-all, sections-more, steady-keeps, holds-section, more-handles, handle-tokens, holds-token, quiet-tokens, tokens-all, tokens-more}
use Rattle.lpc_model.proofs.Calls.Lines.{AnyWorld, IsCalled, LineLaw, line-does}
use Rattle.lpc_model.proofs.Linked.Steps.{is_steady}
use Rattle.lpc_model.proofs.Calls.Outcomes.{AreDoomed, Outcomes, all, one}
use Rattle.lpc_model.proofs.Steps.Registrations.{back-more, push-each, same-each}
use Rattle.lpc_model.proofs.Steps.Rows.{count-change}
use Rattle.lpc_model.proofs.Sound.Basics.{sound-ordinal, sound-process}
use Rattle.lpc_model.proofs.Sound.Frees.{fewer-pass}
use Rattle.lpc_model.proofs.Steps.Steady.{AreSteady, steady-ask, steady-await, steady-enter, steady-receipt, steady-receive, steady-send, steady-hears}
use Rattle.lpc_model.proofs.Held.FreedPort.{unheld_ports}
use Rattle.lpc_model.proofs.Calls.Usable.{CanCall}
use Rattle.lpc_model.specs.Basics.{AddsHandle, AddsProcess, AddsThread, Basic, Binds, Dies, DrawsIdentifier, DrawsOrdinal, DropsHandle, Makes, Registers, Tells, Withdraws, basic, in_turn, no_handles, no_views, past_identifier, past_ordinal, with_handle, world_after, AddsSection, AddsToken, NamesToken, Secures, Dooms, DropsViewsOf, LetsGo, first_code, left_by}
use Rattle.lpc_model.specs.Close.{close_port, close_steps, is_last, close_handle}
use Rattle.lpc_model.specs.Connect.{client_port, connect_wait, connection_request, create_steps, listen_steps, new_port, allow_steps, named_steps}
use Rattle.lpc_model.specs.Counts.{asked}
use Rattle.lpc_model.specs.Creation.{gives_life, making_process, making_thread, second_birth}
use Rattle.lpc_model.specs.Death.{end_client, die, end_threads, code_status, end_process}
use Rattle.lpc_model.specs.Entering.{enter, row_of}
use Rattle.lpc_model.specs.Found.{all_registrations, all_views, free_handle, handle_count, is_connected_to, is_life, is_made_on, is_owned_by, is_paired_to, is_sent_on, is_table, is_thread, live_threads, lives_by, lives_in, port_name, process_name, registered_by, same_birth, same_object, section_name, shows_section, thread_name, wait_of, was_process, offers_section, token_name, token_of, event_ports, event_ports_of, handles_of, is_live}
use Rattle.lpc_model.specs.Lines.{ScriptLine}
use Rattle.lpc_model.specs.Linked.{AreLivesHeld, HasHeldPorts, HasHeldRows, HasHeldSections, HasHeldTokens}
use Rattle.lpc_model.specs.Memory.{SECTION_ACCESS, map_steps, mapped_view, new_section, section_steps, write_steps}
use Rattle.lpc_model.specs.Ranges.{write_range_steps}
use Rattle.lpc_model.specs.Machine.{bare_steps, directive_birth, new_process, new_thread, own_steps}
use Rattle.lpc_model.specs.Request.{datagram_steps, receive_steps, request_steps, sent_by, reply_steps}
use Rattle.lpc_model.specs.SoundWaits.{IsSoundWorld}
use Rattle.lpc_model.specs.Sweep.{loosened, loosens, unheld}
use Rattle.lpc_model.specs.Targets.{LIFE_ACCESS}
use Rattle.lpc_model.specs.Tests.{PORT_ACCESS, handle_row, next_birth}
use Rattle.lpc_model.specs.World.{Birth, HandleRow, Message, Node, ObjectName, Path, ProcessRow, ThreadRow, ViewTable, World, Offer, CallName, Effective, Security, Token, Raised, WaitRow}
use Rattle.lpc_model.specs.declared.entry.CallName.{CallName}
use Rattle.lpc_model.specs.declared.entry.CallName.TheVariants.{NtRegisterThreadTerminatePort, NtOpenProcessToken, NtOpenThreadToken, NtReplyPort}
use Rattle.lpc_model.specs.declared.entry.Entry.TheVariants.{Answer, Directive}
use Rattle.lpc_names.specs.Walk.{LinkTo, Stands}
use Rattle.lpc_names.specs.declared.names.Found.TheVariants.{Directory, Item}
use Rattle.std.proofs.Common.{Bool, List, None, Option, Some, [], ap, arith, false, refl, true, ℕ, ◌++◌, ◌+◌, ◌∙◌, ◌∷◌, ◌≡◌, ◌≤◌, not, subst, sym}
use Rattle.std.proofs.lemmas.Bool.Decides.{nat_tests}
use Rattle.std.specs.Prelude.{◌&&◌, ◌==◌, ◌||◌}
use Rattle.lpc_model.proofs.Calls.Sharing.{connect_begun, mapped-pass, guarded-keeps}
use Rattle.lpc_model.specs.Offers.{mapped, shared_steps}
use Rattle.lpc_model.specs.Impersonation.{TOKEN_ACCESS, held_content, impersonate_steps, new_token, process_content, revert_steps, token_steps}
use Rattle.lpc_model.proofs.Calls.Raising.{set-passes, on-holds}
use Rattle.lpc_model.proofs.Sound.Reply.{reply-cases}
use Rattle.lpc_model.specs.Raise.{Heard, raise_steps, Handled, Next, Unhandled, behind_chance, go_on, goes_on, send_event}
use Rattle.lpc_model.proofs.Settling.Keeps.{bare-does}
use Rattle.lpc_model.proofs.Settling.Loop.{settle-holds}
use Rattle.lpc_model.proofs.Steps.InTurn.{after-append}
use Rattle.lpc_model.specs.Settle.{end_doomed, settle}

-- What lets a name go
-- the last step lets a handle go
loosened-last : (before : Bool) (bs : List Basic) (pid value : ℕ) → loosened before (bs ++ DropsHandle pid value ∷ []) ≡ true
loosened-last before [] pid value = refl
loosened-last before (b ∷ bs) pid value = loosened-last (loosens b || before) bs pid value

closed-loosens : (w : World) (by : ThreadRow) (r : HandleRow) → loosened false (close_steps by r w) ≡ true
closed-loosens w by r = loosened-last false (when (is_last r w) (close_port r.object.birth w)) by.process r.value

-- and so does the end of the first thread
loosened-front : (xs ys : List Basic) (before : Bool) → loosened before xs ≡ true → loosened before (xs ++ ys) ≡ true
loosened-front [] ys true is = loosened-on ys
loosened-front [] ys false is = absurd (cc)
loosened-front (x ∷ xs) ys before is = loosened-front xs ys (loosens x || before) is

loosened-parts : (xs ys : List Basic) (before : Bool) → loosened before (xs ++ ys) ≡ false → (loosened before xs ≡ false) × (loosened false ys ≡ false)
loosened-parts [] ys false off = (refl, off)
loosened-parts [] ys true off = let on = loosened-on ys in absurd (cc)
loosened-parts (x ∷ xs) ys before off = loosened-parts xs ys (loosens x || before) off

die-loosens : (code : Status) (t : ThreadRow) (w : World) → loosened false (die code t w) ≡ true
die-loosens code t w =
    let first = Dies t.number code ∷ Withdraws t.number ∷ [] in
    loosened-front first (end_client (wait_of w t.number) (world_after w first)) false refl

end-loosens : (pid : ℕ) (code : Status) (t : ThreadRow) (ts : List ThreadRow) (w : World) → loosened false (end_threads pid code (t ∷ ts) w) ≡ true
unfolding end_threads
end-loosens pid code t ts w = loosened-front (in_turn (die code) (t ∷ ts) w) _ false (loosened-front (die code t w) (in_turn (die code) ts (behind (die code t) w)) false (die-loosens code t w))

answered-loosens : (w : World) (by : ThreadRow) (call : CallName) (own : Bool) (pid : ℕ) (code : Status) (t : ThreadRow) (ts : List ThreadRow) → loosened false (answered_end by call own pid code (t ∷ ts) w) ≡ true
answered-loosens w by call true pid code t ts = end-loosens pid code t ts w
answered-loosens w by call false pid code t ts = end-loosens pid code t ts w

abbrev is_empty : List ThreadRow → Bool
is_empty [] = true
is_empty (t ∷ ts) = false

doomed-loosens : (w : World) (by : ThreadRow) (call : CallName) (own : Bool) (pid : ℕ) (code : Status) (ts : List ThreadRow) → AreDoomed w by own pid ts → loosened false (answered_end by call own pid code ts w) ≡ true
doomed-loosens w by call own pid code ts (one target t at live) = answered-loosens w by call (t.number == by.number) t.process code t []
doomed-loosens w by call own pid code ts (all target number found live) = at (live_threads w number) (some (lives_in number) w.threads live)
  where
    some : (p : ThreadRow → Bool) (ts : List ThreadRow) → has p ts ≡ true → is_empty (which p ts) ≡ false
    some p [] is = absurd (cc)
    some p (t ∷ ts) is = grind (arith, some p ts)

    at : (ts : List ThreadRow) → is_empty ts ≡ false → loosened false (answered_end by call (number == by.process) number code ts w) ≡ true
    at [] off = absurd (cc)
    at (t ∷ ts) off = answered-loosens w by call (number == by.process) number code t ts

-- Handles that are given
handle-quiet : (w : World) (pid : ℕ) (object : ObjectName) (access : ℕ) → count (is_table pid) w.handles ≤ 1 → HasHeldPorts w → HasHeldPorts (basic w (AddsHandle pid (handle_row (free_handle w pid) object access)))
handle-quiet w pid object access few held =
    ports-more w (basic w (AddsHandle pid (handle_row (free_handle w pid) object access)))
    (λ b. counts-more _ (count (is_paired_to b) w.ports) (count (is_connected_to b) w.ports) (count (is_sent_on b) w.messages) (count (is_made_on b) w.waits) (claims w b) _ _ _ _ _ _ (handle-count w pid object access (port_name b) few) (omega arith) (omega arith) (omega arith) (omega arith) (not-less _ _ refl)) held

-- Ports that are made
-- the new port has a handle
some-sum : (a b : ℕ) → 1 ≤ a → 1 ≤ a + b
some-sum a b some = omega (arith, some)

created-quiet : (w : World) (by : ThreadRow) (kind : PortKind) → CanCall w by → IsSoundWorld w → HasHeldPorts w → HasHeldPorts (world_after w (create_steps by (Makes (new_port (next_birth by) kind) ∷ []) (free_handle w by.process)))
created-quiet w by kind c s held =
    let own = next_birth by in
    let port = new_port own kind in
    let made = basic (basic w (DrawsOrdinal by.number)) (Makes port) in
    let v = basic made (AddsHandle by.process (handle_row (free_handle w by.process) (port_name own) PORT_ACCESS)) in
    let old = ports-more w v (λ b. counts-more _ _ _ (count (is_sent_on b) w.messages) (count (is_made_on b) w.waits) _ _ _ _ _ _ _ (handle-count w by.process (port_name own) PORT_ACCESS (port_name b) (s.tables by.process)) (push-more (is_paired_to b) w.ports port) (push-more (is_connected_to b) w.ports port) (omega arith) (omega arith) (claims-more w b _ _ (not-less _ _ (ap (count (same_birth b)) (same-each registered_by (is_thread by.number) past_ordinal (λ t. refl) w.threads))))) held in
    let some = open-count v own (open-new made by.process (free_handle w by.process) PORT_ACCESS own c.home) in
    every-push (holds-port v) w.ports port old (held-some _ (some-sum (handle_count v (port_name own)) _ some))

created-lives : (w : World) (by : ThreadRow) (kind : PortKind) → IsSoundWorld w → AreLivesHeld w → AreLivesHeld (world_after w (create_steps by (Makes (new_port (next_birth by) kind) ∷ []) (free_handle w by.process)))
created-lives w by kind s held =
    let made = basic (basic w (DrawsOrdinal by.number)) (Makes (new_port (next_birth by) kind)) in
    lives-handle made by.process (port_name (next_birth by)) PORT_ACCESS (s.tables by.process) (lives-all w (DrawsOrdinal by.number ∷ Makes (new_port (next_birth by) kind) ∷ []) refl held)

created-sections : (w : World) (by : ThreadRow) (kind : PortKind) → CanCall w by → IsSoundWorld w → HasHeldSections w → HasHeldSections (world_after w (create_steps by (Makes (new_port (next_birth by) kind) ∷ []) (free_handle w by.process)))
created-sections w by kind c s held =
    let made = basic (basic w (DrawsOrdinal by.number)) (Makes (new_port (next_birth by) kind)) in
    handle-sections made by.process (port_name (next_birth by)) PORT_ACCESS (s.tables by.process) (sections-all w (DrawsOrdinal by.number ∷ Makes (new_port (next_birth by) kind) ∷ []) refl held)

-- a section that is made has a handle
built-sections : (w : World) (by : ThreadRow) (size prot : ℕ) → CanCall w by → IsSoundWorld w → HasHeldSections w → HasHeldSections (world_after w (section_steps by size prot (free_handle w by.process)))
built-sections w by size prot c s held =
    let own = next_birth by in
    let made = basic (basic w (DrawsOrdinal by.number)) (AddsSection (new_section by size prot)) in
    let v = basic made (AddsHandle by.process (handle_row (free_handle w by.process) (section_name own) SECTION_ACCESS)) in
    let old = sections-more w v (λ b. more-handles (handle_count w (section_name b)) _ (count (shows_section b) (all_views w) + count (offers_section b) w.waits) (handle-count w by.process (section_name own) SECTION_ACCESS (section_name b) (s.tables by.process))) held in
    let some = named-new made by.process (free_handle w by.process) SECTION_ACCESS (section_name own) (birth-self own) c.home in
    every-push (holds-section v) w.sections (new_section by size prot) old (held-some _ (some-sum (handle_count v (section_name own)) _ some))

created-tokens : (w : World) (by : ThreadRow) (kind : PortKind) → CanCall w by → IsSoundWorld w → HasHeldTokens w → HasHeldTokens (world_after w (create_steps by (Makes (new_port (next_birth by) kind) ∷ []) (free_handle w by.process)))
created-tokens w by kind c s held =
    let made = basic (basic w (DrawsOrdinal by.number)) (Makes (new_port (next_birth by) kind)) in
    handle-tokens made by.process (port_name (next_birth by)) PORT_ACCESS (s.tables by.process) (tokens-all w (DrawsOrdinal by.number ∷ Makes (new_port (next_birth by) kind) ∷ []) refl held)

-- a token that is made has a handle
made-tokens : (w : World) (by : ThreadRow) (name : CallName) (content : Effective) → CanCall w by → IsSoundWorld w → HasHeldTokens w → HasHeldTokens (world_after w (token_steps by name content (free_handle w by.process)))
made-tokens w by name content c s held =
    let own = next_birth by in
    let made = basic (basic w (DrawsOrdinal by.number)) (AddsToken (new_token by content)) in
    let v = basic made (AddsHandle by.process (handle_row (free_handle w by.process) (token_name own) TOKEN_ACCESS)) in
    let old = tokens-more w v (λ b. more-handles (handle_count w (token_name b)) _ 0 (handle-count w by.process (token_name own) TOKEN_ACCESS (token_name b) (s.tables by.process))) held in
    let some = named-new made by.process (free_handle w by.process) TOKEN_ACCESS (token_name own) (birth-self own) c.home in
    every-push (holds-token v) w.tokens (new_token by content) old (held-some _ (some-sum (handle_count v (token_name own)) _ some))

-- the client port of a connect has a wait
last-some : (a b c d e f : ℕ) → 1 ≤ e → 1 ≤ a + (b + (c + (d + (e + f))))
last-some a b c d e f some = omega (arith, some)

-- its thread draws both numbers
drawn-twice : (w : World) (by : ThreadRow) → all_registrations (basic (basic w (DrawsIdentifier by.number)) (DrawsOrdinal by.number)) ≡ all_registrations w
drawn-twice w by =
    let v = basic w (DrawsIdentifier by.number) in
    same-each registered_by (is_thread by.number) past_ordinal (λ t. refl) v.threads ∙ same-each registered_by (is_thread by.number) past_identifier (λ t. refl) w.threads

started-quiet : (w : World) (by : ThreadRow) (connection : Birth) (offer : Option Offer) (m : Message) → HasHeldPorts w → HasHeldPorts (world_after w (connect_begun by connection offer m))
started-quiet w by connection offer m held =
    let own = next_birth by in
    let port = client_port by connection in
    let x = connect_wait by connection offer m in
    let v = world_after w (connect_begun by connection offer m) in
    let old = ports-more w v (λ b. counts-more (handle_count w (port_name b)) _ _ (count (is_sent_on b) w.messages) _ _ _ _ _ _ _ _ (omega arith) (push-more (is_paired_to b) w.ports port) (push-more (is_connected_to b) w.ports port) (omega arith) (push-more (is_made_on b) w.waits x) (claims-more w b _ _ (not-less _ _ (ap (count (same_birth b)) (drawn-twice w by))))) held in
    let some = count-has (is_made_on own) (world_after w (connect_begun by connection offer m)).waits (has-push (is_made_on own) w.waits x (birth-self own)) in
    every-push (holds-port v) w.ports port old (held-some _ (last-some (handle_count v (port_name own)) (count (is_paired_to own) v.ports) (count (is_connected_to own) v.ports) (count (is_sent_on own) v.messages) _ _ some))

-- a name that is bound holds no row
bound-lives : (w : World) (path : Path) (node : Node Birth) → AreLivesHeld w → AreLivesHeld (basic w (Binds path node))
bound-lives w path node held = record { threads = held.threads; processes = held.processes }

-- Threads that are made
back-some : (a b : ℕ) → 1 ≤ b → 1 ≤ a + b
back-some a b some = omega (arith, some)

-- a thread that is made holds itself
further-thread : (w : World) (tid pid : ℕ) (birth : Birth) → AreLivesHeld w → AreLivesHeld (basic w (AddsThread (new_thread tid pid birth)))
further-thread w tid pid birth held =
    let t = new_thread tid pid birth in
    let v = basic w (AddsThread t) in
    let more = lives-more w v (λ b. back-more (handle_count w (thread_name b)) _ _ (push-more (is_life b) w.threads t)) (λ b. back-more (handle_count w (process_name b)) _ _ (push-more (lives_by w b) w.threads t)) held in
    let some = count-has (is_life t.birth) v.threads (has-push (is_life t.birth) w.threads t (birth-self t.birth)) in
    record {
      threads = every-push _ w.threads t more.0 (held-some _ (back-some (handle_count v (thread_name t.birth)) _ some));
      processes = more.1;
    }

-- A process that is made with a thread
module _ (w : World) (pid tid : ℕ) (maker : Option ℕ) (birth next : Birth) (content : Token) where
  abbrev booted_process : ProcessRow
  booted_process = new_process pid maker birth content

  abbrev booted_thread : ThreadRow
  booted_thread = new_thread tid pid next

  abbrev booted : World
  booted = basic (basic w (AddsProcess booted_process)) (AddsThread booted_thread)

  booted-handles : (o : ObjectName) → handle_count w o ≤ handle_count booted o
  booted-handles o = handles-push (λ h. same_object h.object o) w.handles (no_handles pid)

  still-lives : (b : Birth) (t : ThreadRow) → lives_by w b t ≡ true → lives_by booted b t ≡ true
  still-lives b t is = at t.live _ _ (has-kept (λ (p : ProcessRow). same_birth p.birth b && (p.number == t.process)) w.processes booted_process) is
    where
      at : (l x y : Bool) → (x ≡ true → y ≡ true) → (l && x) ≡ true → (l && y) ≡ true
      at l x y more is = grind (arith, more)

  both-more : (a b c d : ℕ) → a ≤ b → c ≤ d → a + c ≤ b + d
  both-more a b c d front back = omega (arith, front, back)

  through : (a b c : ℕ) → a ≤ b → b ≤ c → a ≤ c
  through a b c low high = omega (arith, low, high)

  own-process : has (λ (p : ProcessRow). same_birth p.birth booted_process.birth && (p.number == pid)) (w.processes ++ booted_process ∷ []) ≡ true
  own-process = has-push (λ (p : ProcessRow). same_birth p.birth booted_process.birth && (p.number == pid)) w.processes booted_process (let self = birth-self booted_process.birth in grind (arith, nat_tests))

  boot-held : AreLivesHeld w → AreLivesHeld booted
  boot-held held =
      let more = lives-more w booted (λ b. both-more _ _ _ _ (booted-handles (thread_name b)) (push-more (is_life b) w.threads booted_thread))
      (λ b. both-more _ _ _ _ (booted-handles (process_name b)) (through _ _ _ (fewer-pass (lives_by w b) (lives_by booted b) (still-lives b) w.threads) (push-more (lives_by booted b) w.threads booted_thread))) held in
      let thread_some = count-has (is_life booted_thread.birth) booted.threads (has-push (is_life booted_thread.birth) w.threads booted_thread (birth-self booted_thread.birth)) in
      let process_some = count-has (lives_by booted booted_process.birth) booted.threads (has-push (lives_by booted booted_process.birth) w.threads booted_thread own-process) in
      record {
        threads = every-push _ w.threads booted_thread more.0 (held-some _ (back-some (handle_count booted (thread_name booted_thread.birth)) _ thread_some));
        processes = every-push _ w.processes booted_process more.1 (held-some _ (back-some (handle_count booted (process_name booted_process.birth)) _ process_some));
      }

  boot-ports : HasHeldPorts w → HasHeldPorts booted
  boot-ports held = ports-more w booted (λ b. counts-more _ (count (is_paired_to b) w.ports) (count (is_connected_to b) w.ports) (count (is_sent_on b) w.messages) (count (is_made_on b) w.waits) _ _ _ _ _ _ _ (booted-handles (port_name b)) (omega arith) (omega arith) (omega arith) (omega arith) (both-more _ _ (count (is_owned_by b) (all_views w) + count (same_birth b) (event_ports w)) _ (not-less _ _ (ap (count (same_birth b)) (push-each registered_by booted_thread refl w.threads))) (both-more _ _ (count (same_birth b) (event_ports w)) _ (not-less _ _ (ap (count (is_owned_by b)) (push-each (λ (t : ViewTable). t.rows) (no_views booted_process.number) refl w.views))) (not-less _ _ (ap (count (same_birth b)) (push-each event_ports_of booted_process refl w.processes)))))) held

  boot-sections : HasHeldSections w → HasHeldSections booted
  boot-sections held = sections-more w booted (λ b. both-more _ _ _ _ (booted-handles (section_name b)) (both-more _ _ (count (offers_section b) w.waits) _ (not-less _ _ (ap (count (shows_section b)) (push-each (λ (t : ViewTable). t.rows) (no_views booted_process.number) refl w.views))) (omega arith))) held

  boot-tokens : HasHeldTokens w → HasHeldTokens booted
  boot-tokens held = tokens-more w booted (λ b. both-more _ _ 0 0 (booted-handles (token_name b)) (omega arith)) held

-- a thread that is made has registered no port
further-ports : (w : World) (tid pid : ℕ) (birth : Birth) → HasHeldPorts w → HasHeldPorts (basic w (AddsThread (new_thread tid pid birth)))
further-ports w tid pid birth held =
    let t = new_thread tid pid birth in
    ports-more w (basic w (AddsThread t)) (λ b. counts-more (handle_count w (port_name b)) (count (is_paired_to b) w.ports) (count (is_connected_to b) w.ports) (count (is_sent_on b) w.messages) (count (is_made_on b) w.waits) _ _ _ _ _ _ _
    (omega arith) (omega arith) (omega arith) (omega arith) (omega arith) (claims-more w b _ _ (not-less _ _ (ap (count (same_birth b)) (push-each registered_by t refl w.threads))))) held

-- Calls
-- a thread that gets handles has one table of them
record IsTabledWorld (P : World → Type 0) (by : ThreadRow) (w : World) : Type 0 where
  tables : count (is_table by.process) w.handles ≤ 1
  held : P w

drawn-held : (P : World → Type 0) → ((w : World) (n : ℕ) → P w → P (basic w (DrawsOrdinal n))) → (by : ThreadRow) (w : World) → IsTabledWorld P by w → IsTabledWorld P by (basic w (DrawsOrdinal by.number))
drawn-held P draws by w is = record { tables = is.tables; held = draws w by.number is.held }

given-held : (P : World → Type 0) → ((w : World) (pid : ℕ) (o : ObjectName) → count (is_table pid) w.handles ≤ 1 → P w → P (basic w (AddsHandle pid (handle_row (free_handle w pid) o LIFE_ACCESS))))
    → (by : ThreadRow) (w : World) (o : ObjectName) → IsTabledWorld P by w → IsTabledWorld P by (basic w (gives_life by (free_handle w by.process) o))
given-held P gives by w o is = record {
  tables = rw (count-change (is_table by.process) (is_table by.process) (with_handle (handle_row (free_handle w by.process) o LIFE_ACCESS)) (λ t. refl) w.handles) is.tables;
  held = gives w by.process o is.tables is.held;
}

-- what steady steps keep that let no name go, and the steps that make rows
record KeepsRows (Q : World → Type 0) : Type 0 where
  steady : (w : World) (bs : List Basic) → AreSteady bs → loosened false bs ≡ false → Q w → Q (world_after w bs)
  gives : (w : World) (pid : ℕ) (o : ObjectName) (access : ℕ) → count (is_table pid) w.handles ≤ 1 → Q w → Q (basic w (AddsHandle pid (handle_row (free_handle w pid) o access)))
  binds : (w : World) (path : Path) (node : Node Birth) → Q w → Q (basic w (Binds path node))
  creates : (w : World) (by : ThreadRow) (kind : PortKind) → CanCall w by → IsSoundWorld w → Q w → Q (world_after w (create_steps by (Makes (new_port (next_birth by) kind) ∷ []) (free_handle w by.process)))
  connects : (w : World) (by : ThreadRow) (connection : Birth) (offer : Option Offer) (m : Message) → Q w → Q (world_after w (connect_begun by connection offer m))
  builds : (w : World) (by : ThreadRow) (size prot : ℕ) → CanCall w by → IsSoundWorld w → Q w → Q (world_after w (section_steps by size prot (free_handle w by.process)))
  holds : (w : World) (by : ThreadRow) (name : CallName) (content : Effective) → CanCall w by → IsSoundWorld w → Q w → Q (world_after w (token_steps by name content (free_handle w by.process)))
  boots : (w : World) (pid tid : ℕ) (maker : Option ℕ) (birth next : Birth) (content : Token) → Q w → Q (booted w pid tid maker birth next content)
  threads : (w : World) (tid pid : ℕ) (birth : Birth) → Q w → Q (basic w (AddsThread (new_thread tid pid birth)))

abbrev KeepQuiet : (World → Type 0) → World → List Basic → Type 0
KeepQuiet Q w bs = loosened false bs ≡ false → Q w → Q (world_after w bs)

module _ (Q : World → Type 0) (k : KeepsRows Q) where
  spawned : (w : World) (by : ThreadRow) (pid tid : ℕ) → was_process w pid ≡ false → CanCall w by → IsSoundWorld w → Q w → Q (world_after w (making_process w by pid tid))
  spawned w by pid tid new c s held =
      let v : World = basic (basic w (DrawsOrdinal by.number)) (DrawsOrdinal by.number) in
      let t = sound-process v (new_process pid (Some by.process) (next_birth by) (token_of w by.process)) new (sound-ordinal (basic w (DrawsOrdinal by.number)) by.number (sound-ordinal w by.number s)) in
      (process-keeps (IsTabledWorld Q by) w by c (drawn-held Q draws by) (given-held Q (λ w pid o. k.gives w pid o LIFE_ACCESS) by) pid tid
      (λ is. record { tables = t.tables by.process; held = k.boots v pid tid (Some by.process) (next_birth by) (second_birth by) (token_of w by.process) is.held })
      (record { tables = s.tables by.process; held = held })).held
    where
      draws : (w : World) (n : ℕ) → Q w → Q (basic w (DrawsOrdinal n))
      draws w n = k.steady w (DrawsOrdinal n ∷ []) refl refl

  started : (w : World) (by : ThreadRow) (tid pid : ℕ) → IsSoundWorld w → Q w → Q (world_after w (making_thread w by tid pid))
  started w by tid pid s held =
      let drawn = k.steady w (DrawsOrdinal by.number ∷ []) refl refl held in
      k.gives (threaded (basic w (DrawsOrdinal by.number)) by tid pid) by.process (thread_name (next_birth by)) LIFE_ACCESS (s.tables by.process) (k.threads (basic w (DrawsOrdinal by.number)) tid pid (next_birth by) drawn)

  quiet-calls : (by : ThreadRow) (w : World) → IsCalled AnyWorld w by → Outcomes w by (λ _. KeepQuiet Q w)
  quiet-calls by w is = record {
    creates = λ dacl quiet held. k.creates w by Unnamed is.can is.sound held;
    founds = λ name dacl path free quiet. guarded-keeps Q secures w (create_steps by (named_steps (next_birth by) path) (free_handle w by.process)) (next_birth by) dacl (λ held. k.binds _ path (Stands (Item (next_birth by))) (k.creates w by Connection is.can is.sound held));
    connects = λ name quality view bytes offer own connection c quiet held.
        let m = connection_request by offer bytes in
        let v = world_after w (connect_begun by connection offer m) in
        let row = row_of connection (client_port by connection) m in
        k.steady v ((enter row v ++ mapped by.process own) ++ allow_steps w by quality) (every-append is_steady (enter row v ++ mapped by.process own) (allow_steps w by quality) (every-append is_steady (enter row v) (mapped by.process own) (steady-enter row v) (mapped-pass is_steady by.process (λ _. refl) own)) refl) quiet (k.connects w by connection offer m held);
    listens = λ handle port m found at. k.steady w (listen_steps by port.birth (Some m)) (steady-receipt m);
    awaits_connect = λ handle port found at. k.steady w (listen_steps by port.birth None) refl;
    refuses = λ context bytes view a at quiet. absurd (cc);
    accepts = λ context bytes view offer a views c quiet. let loose = loosened-on (shared_steps by a.wait views) in absurd (cc);
    completes = λ handle c at quiet. absurd (cc);
    sends = λ handle bytes s at. k.steady w (datagram_steps by s.port s.queue (sent_by by DATAGRAM s.message) w) (steady-send w by s);
    asks = λ handle bytes s at. k.steady w (request_steps by s.port s.queue (sent_by by REQUEST s.message) w) (steady-ask w by s);
    replies = λ handle bytes port m x at read fits. k.steady w (reply_steps by x m) (reply-cases (λ b. every is_steady (Tells (Answer by.number NtReplyPort SUCCESS []) ∷ b ∷ []) ≡ true) x m refl refl (λ _. refl));
    receives = λ handle bytes o port queue replied m r at. k.steady w (receive_steps by port queue replied (Some m)) (steady-receive w by handle bytes o port queue replied m r);
    awaits_message = λ handle bytes o port queue replied r at. k.steady w (receive_steps by port queue replied None) (steady-await w by handle bytes o port queue replied r);
    registers = λ handle port at new few. k.steady w (Tells (Answer by.number NtRegisterThreadTerminatePort SUCCESS []) ∷ Registers by.number port.birth ∷ []) refl;
    repeats = λ handle port at known quiet held. held;
    closes = λ handle r at quiet. let loose = closed-loosens w by r in absurd (cc);
    duplicates = λ handle access r at quiet. k.gives w by.process r.object (asked r access) (let s = is.sound in s.tables by.process);
    queries = λ handle r at quiet held. held;
    spawns = λ pid tid new unused quiet. spawned w by pid tid new is.can is.sound;
    starts = λ target tid pid _ live unused quiet. started w by tid pid is.sound;
    makes_section = λ size prot asked quiet. k.builds w by size prot is.can is.sound;
    maps_view = λ handle offset size prot s rounded base m. k.steady w (map_steps by (mapped_view s offset rounded prot base)) refl;
    unmaps_view = λ address v at quiet. absurd (cc);
    reads_memory = λ address n v at quiet held. held;
    writes_memory = λ address new v at may. k.steady w (write_steps by address new v) refl;
    reads_range = λ handle bytes index n d at quiet held. held;
    writes_range = λ handle bytes index new d at may. k.steady w (write_range_steps by new d) refl;
    impersonates = λ handle bytes own allowed. k.steady w (impersonate_steps by own) refl;
    reverts = λ class. k.steady w (revert_steps by) refl;
    opens_own = λ own at quiet. k.holds w by NtOpenThreadToken (held_content own) is.can is.sound;
    opens_primary = λ quiet. k.holds w by NtOpenProcessToken (process_content w by) is.can is.sound;
    asks_token = λ handle class t field at told quiet held. held;
    sets = λ target class handle pid port at found live quiet. absurd (set-passes (λ bs. loosened false bs ≡ false → ⊥) by class pid port.birth (λ off. absurd (cc)) (λ off. absurd (cc)) quiet);
    handles = λ code handled quiet held. held;
    hears = λ code handled h is. k.steady w (raise_steps by code handled (Heard h) w) (steady-hears w by code handled h);
    fails = λ code handled. k.steady w (Dooms by.process code ∷ []) refl;
    ends = λ call name own pid code ts doomed quiet. let loose = doomed-loosens w by name own pid code ts doomed in absurd (cc);
  }
    where
      secures : (v : World) (b : Birth) (s : Security) → Q v → Q (basic v (Secures b s))
      secures v b s = k.steady v (Secures b s ∷ []) refl refl

  -- Lines
  quiet-lines : LineLaw AnyWorld (λ _. KeepQuiet Q)
  quiet-lines = record {
    tells = λ line w e _ quiet held. k.steady w (Tells e ∷ []) refl refl held;
    calls = quiet-calls;
    names = λ w name content _. k.steady w (Tells (Directive word.Token SUCCESS) ∷ NamesToken (record { name = name; token = content }) ∷ []) refl;
    boots = λ w pid tid name content _ _ s _ quiet. k.boots w pid tid None (directive_birth pid pid) (directive_birth tid pid) content;
    threads = λ w tid pid _ _ s _ quiet. k.threads w tid pid (directive_birth tid pid);
    dirs = λ w text path free _ quiet. k.binds w path (Stands Directory);
    links = λ w text target path to free _ quiet. k.binds w path (LinkTo to);
  }

  -- settling lets a name go, where it does anything
  ended-quiet : (pid : ℕ) (code : Status) (ts : List ThreadRow) (w : World) → KeepQuiet Q w (end_threads pid code ts w)
  unfolding end_threads
  ended-quiet pid code [] w quiet held = at (is_live w pid) quiet held
    where
      at : (live : Bool) → KeepQuiet Q w (when (not live) (end_process pid w))
      at true quiet held = held
      at false quiet held = let u = basic w (LetsGo pid) in let loose = loosened-on (in_turn (close_handle pid) (handles_of u pid) u ++ DropsViewsOf pid ∷ []) in absurd (cc)
  ended-quiet pid code (t ∷ ts) w quiet held = let loose = end-loosens pid code t ts w in absurd (cc)

  doomed-quiet : (w : World) (p : ProcessRow) → KeepQuiet Q w (end_doomed p w)
  unfolding end_doomed
  doomed-quiet w p = ended-quiet p.number (code_status (first_code 0 p.doom)) (live_threads w p.number) w

  on-quiet : (w : World) (tid : ℕ) → KeepQuiet Q w (go_on tid w)
  on-quiet w tid = on-holds (KeepQuiet Q w) w tid (λ quiet held. held) (λ t x r g. at t x r (behind_chance w x.process r.handled r.chance))
    where
      at : (t : ThreadRow) (x : WaitRow) (r : Raised) (n : Next) → KeepQuiet Q w (goes_on t x r n w)
      at t x r Handled quiet = absurd (cc)
      at t x r (Heard h) quiet = let loose = loosened-on (send_event t r.code r.handled h (left_by x.thread w)) in absurd (cc)
      at t x r Unhandled quiet = absurd (cc)

  quiet-both : (w : World) (xs ys : List Basic) → KeepQuiet Q w xs → KeepQuiet Q (world_after w xs) ys → KeepQuiet Q w (xs ++ ys)
  quiet-both w xs ys here there quiet held =
      let parts = loosened-parts xs ys false quiet in
      subst Q (sym (after-append w xs ys)) (there parts.1 (here parts.0 held))

  settle-quiet : (w : World) → KeepQuiet Q w (settle w)
  settle-quiet w = settle-holds AnyWorld (KeepQuiet Q) (λ u quiet held. held) quiet-both (λ u bs some is. tt) (λ u tid later some is. on-quiet u tid) (λ u p some is. doomed-quiet u p) w tt

  line-quiet : (w : World) (line : ScriptLine) → IsSoundWorld w → KeepQuiet Q w (bare_steps line w)
  line-quiet w line s = bare-does (KeepQuiet Q) quiet-both w line (line-does AnyWorld (λ _. KeepQuiet Q) quiet-lines w s tt line) (settle-quiet (world_after w (own_steps line w)))

-- before rows go, each process and thread row is named by a row, where the line lets no name go
pub lives_kept : (w : World) (line : ScriptLine) → IsSoundWorld w → AreLivesHeld w → loosened false (bare_steps line w) ≡ false → AreLivesHeld (world_after w (bare_steps line w))
lives_kept w line s held quiet = line-quiet AreLivesHeld (record {
  steady = λ w bs all _. lives-all w bs (every-more is_steady keeps_lives steady-keeps bs all);
  gives = lives-handle;
  binds = bound-lives;
  creates = λ w by kind _ s. created-lives w by kind s;
  connects = λ w by connection offer m. lives-all w (connect_begun by connection offer m) refl;
  builds = λ w by size prot _ s held. let bs = DrawsOrdinal by.number ∷ AddsSection (new_section by size prot) ∷ [] in lives-handle (world_after w bs) by.process (section_name (next_birth by)) SECTION_ACCESS (s.tables by.process) (lives-all w bs refl held);
  holds = λ w by name content _ s held. let bs = DrawsOrdinal by.number ∷ AddsToken (new_token by content) ∷ [] in lives-handle (world_after w bs) by.process (token_name (next_birth by)) TOKEN_ACCESS (s.tables by.process) (lives-all w bs refl held);
  boots = boot-held;
  threads = further-thread;
}) w line s quiet held

-- and each port row, where the line lets no name go
pub ports_kept : (w : World) (line : ScriptLine) → IsSoundWorld w → HasHeldPorts w → loosened false (bare_steps line w) ≡ false → HasHeldPorts (world_after w (bare_steps line w))
ports_kept w line s held quiet = line-quiet HasHeldPorts (record {
  steady = quiet-all;
  gives = handle-quiet;
  binds = λ w path node held. held;
  creates = created-quiet;
  connects = started-quiet;
  builds = λ w by size prot _ s held. let drawn = basic w (DrawsOrdinal by.number) in handle-quiet (basic drawn (AddsSection (new_section by size prot))) by.process (section_name (next_birth by)) SECTION_ACCESS (s.tables by.process) (quiet-all w (DrawsOrdinal by.number ∷ []) refl refl held);
  holds = λ w by name content _ s held. let drawn = basic w (DrawsOrdinal by.number) in handle-quiet (basic drawn (AddsToken (new_token by content))) by.process (token_name (next_birth by)) TOKEN_ACCESS (s.tables by.process) (quiet-all w (DrawsOrdinal by.number ∷ []) refl refl held);
  boots = boot-ports;
  threads = further-ports;
}) w line s quiet held

-- and each section row, where the line lets no name go
pub sections_kept : (w : World) (line : ScriptLine) → IsSoundWorld w → HasHeldSections w → loosened false (bare_steps line w) ≡ false → HasHeldSections (world_after w (bare_steps line w))
sections_kept w line s held quiet = line-quiet HasHeldSections (record {
  steady = quiet-sections;
  gives = handle-sections;
  binds = λ w path node held. held;
  creates = created-sections;
  connects = λ w by connection offer m. sections-all w (connect_begun by connection offer m) refl;
  builds = built-sections;
  holds = λ w by name content _ s held. let bs = DrawsOrdinal by.number ∷ AddsToken (new_token by content) ∷ [] in handle-sections (world_after w bs) by.process (token_name (next_birth by)) TOKEN_ACCESS (s.tables by.process) (sections-all w bs refl held);
  boots = boot-sections;
  threads = λ w tid pid birth. sections-all w (AddsThread (new_thread tid pid birth) ∷ []) refl;
}) w line s quiet held

-- and each token row, where the line lets no name go
pub tokens_kept : (w : World) (line : ScriptLine) → IsSoundWorld w → HasHeldTokens w → loosened false (bare_steps line w) ≡ false → HasHeldTokens (world_after w (bare_steps line w))
tokens_kept w line s held quiet = line-quiet HasHeldTokens (record {
  steady = quiet-tokens;
  gives = handle-tokens;
  binds = λ w path node held. held;
  creates = created-tokens;
  connects = λ w by connection offer m. tokens-all w (connect_begun by connection offer m) refl;
  builds = λ w by size prot _ s held. let bs = DrawsOrdinal by.number ∷ AddsSection (new_section by size prot) ∷ [] in handle-tokens (world_after w bs) by.process (section_name (next_birth by)) SECTION_ACCESS (s.tables by.process) (tokens-all w bs refl held);
  holds = made-tokens;
  boots = boot-tokens;
  threads = λ w tid pid birth. tokens-all w (AddsThread (new_thread tid pid birth) ∷ []) refl;
}) w line s quiet held

-- so such a line leaves no row that no row names
pub quiet_line : (w : World) (line : ScriptLine) → IsSoundWorld w → HasHeldRows w → loosened false (bare_steps line w) ≡ false → unheld (world_after w (bare_steps line w)) ≡ []
quiet_line w line s held quiet = unheld_ports (world_after w (bare_steps line w)) (lives_kept w line s held.lives quiet) (ports_kept w line s held.ports quiet) (sections_kept w line s held.sections quiet) (tokens_kept w line s held.tokens quiet)
