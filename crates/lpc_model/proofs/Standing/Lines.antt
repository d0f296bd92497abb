-- Each line keeps what rows name.
use Rattle.lpc_model.specs.Settle.{settle}
use Rattle.lpc_base.proofs.Births.{birth-same, birth-self}
use Rattle.lpc_base.proofs.RowMaps.{every-both, every-first, every-mapped}
use Rattle.lpc_base.proofs.RowWords.{every-append, every-more, every-without, first-passes, has-change}
use Rattle.lpc_base.specs.Rows.{change, every, first, given, has, passes, when, which, without}
use Rattle.lpc_base.specs.declared.port_kind.PortKind.TheVariants.{Connection, Unnamed}
use Rattle.lpc_base.specs.declared.status.Status.{Status}
use Rattle.lpc_base.specs.declared.status.TheConstants.{LPC_REPLY_LOST, PORT_DISCONNECTED, SUCCESS}
use Rattle.lpc_model.proofs.Calls.Acts.{Law, accept_act, complete_act, connect_act, create_act, keeps_on, row-stands, outcomes}
use Rattle.lpc_model.proofs.Calls.Lines.{AnyWorld, Shut, IsCalled, LineLaw, line-does, passing-lines}
use Rattle.lpc_model.proofs.Steps.Closing.{behind, closed-is, cut-is, ends-pass, fewer-accepted, stage_five, stage_six, takes_away, uncut, across_marked, emptied-is, queue_marked, stage_four, stage_marked, stage_one, stage_three, stage_two, unasked, unoffered, unreceived, unrequested}
use Rattle.lpc_model.proofs.Steps.Dying.{accepted_across, asked_across, cut-parts, gone, others_left, received_across, marked_across}
use Rattle.lpc_model.proofs.Steps.Sweep.{stepped}
use Rattle.lpc_model.proofs.Linked.Calls.{lone-parts, unmade}
use Rattle.lpc_model.proofs.Linked.Steps.{made-found, push-passes}
use Rattle.lpc_model.proofs.Sound.Connect.{names-offered}
use Rattle.lpc_model.proofs.Sound.Cuts.{disowned}
use Rattle.lpc_model.proofs.Sound.Closing.{is_cut_request, uncut-free, cut_hit, ended-clear, ended-ports, is_clear, uncut-clear}
use Rattle.lpc_model.proofs.Calls.Tested.{CanComplete}
use Rattle.lpc_model.proofs.Sound.Death.{asked-less, asked-none, die-holds, heard-less, is_off, parting, marked-less, heard-clear}
use Rattle.lpc_model.proofs.Sound.Pairs.{tied}
use Rattle.lpc_model.proofs.Sound.Ports.{joined-row}
use Rattle.lpc_model.proofs.Sound.Terminate.{IsSafe, shut-of, sound-of}
use Rattle.lpc_model.proofs.Sound.Ties.{joined-birth}
use Rattle.lpc_model.proofs.Sound.Worlds.{by_kind}
use Rattle.lpc_model.proofs.Standing.Steps.{AreNaming, cut-names, is_naming, kept, naming-all, shows-kept, swept-names, NamesInside, inside, unmarked-names}
use Rattle.lpc_model.proofs.Steps.InTurn.{after-append}
use Rattle.lpc_model.specs.Basics.{Accepts, AddsHandle, AddsProcess, AddsThread, Awaits, Basic, Binds, Completes, Dies, DrawsIdentifier, DrawsOrdinal, DropsHandle, DropsOwned, DropsViewsOf, Empties, Joins, Makes, Receives, Registers, Unbinds, Unregisters, Wakes, Withdraws, basic, completed, cut, end_each, is_end_of, joined, paired, without_owned, world_after, AddsSection, Maps, Unmaps, Writes, Secures, Acts, AddsToken, Dooms, Leaves, LetsGo, Marks, SetsDebug, SetsException}
use Rattle.lpc_model.specs.Close.{close_handle, close_port, closed_row, closing_post, cut_pair, end_accepted, end_request, is_accepted_across, is_across, is_last, is_receive_across, is_receiver, is_request_across, post_closed, server_of, wake, end_offered, is_event_across, is_event_on, is_offered_to, is_queued_event, is_queued_request, is_request_on, mark_event}
use Rattle.lpc_model.specs.Connect.{Completable, acceptance_of, client_port, connect_wait, connection_request, named_steps, names_connect, new_port, server_port, unnamed_steps}
use Rattle.lpc_model.specs.Creation.{new_process, new_thread, second_birth}
use Rattle.lpc_model.specs.Death.{die}
use Rattle.lpc_model.specs.Entering.{enter, given_steps, received_steps, row_of, shown, take_connect_steps, take_steps, takes, woken}
use Rattle.lpc_model.specs.Fields.{completion_fields}
use Rattle.lpc_model.specs.Found.{free_handle, is_connected_to, is_made_on, is_owned_by, is_paired_to, is_port, is_request, is_section, is_the, pair_of, port_name, port_row, same_birth, waits_as, section_row, is_asking, is_event, is_marked}
use Rattle.lpc_model.specs.Lines.{ScriptLine}
use Rattle.lpc_model.specs.Linked.{IsLinked, is_lone_offer, is_unjoined}
use Rattle.lpc_model.specs.Memory.{new_section}
use Rattle.lpc_model.specs.Machine.{bare_steps, own_steps, step}
use Rattle.lpc_model.specs.Message.{asks}
use Rattle.lpc_model.specs.SoundWaits.{HasShutConnects, IsSoundWorld}
use Rattle.lpc_model.specs.Standing.{NamesWhatStands, has_near_queue, is_near, section_stands, shows_standing, port_stands}
use Rattle.lpc_model.specs.Tests.{PORT_ACCESS, handle_row, is_client, next_birth}
use Rattle.lpc_model.specs.World.{Birth, Creator, HandleRow, Message, MessageRow, Path, PortRow, ThreadRow, ViewRow, ViewTable, WaitRow, World, no_rows, Offer, Acceptance, SectionRow}
use Rattle.lpc_names.specs.Walk.{Stands}
use Rattle.lpc_names.specs.declared.names.Found.TheVariants.{Item}
use Rattle.std.proofs.Common.{Bool, List, None, Option, Some, [], arith, cond, false, map, not, refl, subst, sym, true, ℕ, ◌++◌, ◌∙◌, ◌∷◌, ◌≡◌}
use Rattle.std.proofs.lemmas.Bool.{and_from, or_right}
use Rattle.std.specs.Prelude.{is_none, is_some, option_and_then, option_map, ◌&&◌, ◌||◌}
use Rattle.lpc_model.specs.SoundViews.{HasSoundOffers}
use Rattle.lpc_model.specs.Impersonation.{new_token}
use Rattle.lpc_model.proofs.Settling.Keeps.{bare-does, bare-unmarked, settling-does}
use Rattle.lpc_model.proofs.Settling.Settled.{IsReady}
use Rattle.lpc_model.proofs.Sound.Less.{keeps-same}

-- the steps leave a world in which what rows name stands
abbrev pub KeepNames : World → List Basic → Type 0
KeepNames w bs = NamesInside w → NamesInside (world_after w bs)

-- Messages that enter
naming-receipt : (w : World) (m : MessageRow) → AreNaming w (received_steps m)
naming-receipt w m = at (asks m.message)
  where
    at : (a : Bool) → AreNaming w (when a (Receives m.message.header.client.thread m.queue ∷ []))
    at true = refl
    at false = refl

naming-given : (w : World) (m : MessageRow) (x : WaitRow) → AreNaming w (given_steps x m ++ woken SUCCESS (shown x m) x ∷ [])
naming-given w m x =
    by_kind (λ x. AreNaming w (given_steps x m ++ woken SUCCESS (shown x m) x ∷ []))
    (λ x r. every-append (is_naming w) (received_steps m) _ (naming-receipt w m) refl)
    (λ x. every-append (is_naming w) (received_steps m) _ (naming-receipt w m) refl)
    (λ x. every-append (is_naming w) (received_steps m) _ (naming-receipt w m) refl)
    (λ x r offer. every-append (is_naming w) (received_steps m) _ (naming-receipt w m) refl)
    (λ x r reply. every-append (is_naming w) (received_steps m) _ (naming-receipt w m) refl)
    (λ x r. every-append (is_naming w) (received_steps m) _ (naming-receipt w m) refl) x

-- a message enters that was sent on a port that stands in one world, in a later one
naming-enter : (w : World) (m : MessageRow) (v : World) → has (is_port m.sender) w.ports ≡ true → AreNaming w (enter m v)
naming-enter w m v stands = and_from (has (is_port m.sender) w.ports) _ stands (at (first (takes m) v.waits))
  where
    at : (o : Option WaitRow) → AreNaming w (given o (λ x. given_steps x m ++ woken SUCCESS (shown x m) x ∷ []))
    at None = refl
    at (Some x) = naming-given w m x

-- Acts
handled : (w : World) (pid : ℕ) (value access : ℕ) (b : Birth) → has (is_port b) w.ports ≡ true → NamesInside w → NamesInside (basic w (AddsHandle pid (handle_row value (port_name b) access)))
handled w pid value access b stands n = naming-all w (AddsHandle pid (handle_row value (port_name b) access) ∷ []) (rw stands refl) n

made-stands : (w : World) (p : PortRow) → has (is_port p.birth) w.ports ≡ false → has (is_port p.birth) (basic w (Makes p)).ports ≡ true
made-stands w p new = row-stands (basic w (Makes p)) p.birth p (made-found w p new)

-- what is known besides: ports are linked, and what connects offer may be seen
pub record IsNaming (w : World) : Type 0 where
  pub linked : IsLinked w
  pub offers : HasSoundOffers w

created-names : (w : World) (by : ThreadRow) → IsCalled (Shut IsNaming) w by → KeepNames w (create_act w by (unnamed_steps (next_birth by)))
created-names w by is n =
    let port = new_port (next_birth by) Unnamed in
    let bs = DrawsOrdinal by.number ∷ Makes port ∷ [] in
    handled (world_after w bs) by.process (free_handle w by.process) PORT_ACCESS (next_birth by) (made-stands (basic w (DrawsOrdinal by.number)) port (unmade w by is.can is.sound)) (naming-all w bs refl n)

founded-names : (w : World) (by : ThreadRow) (path : Path) → IsCalled (Shut IsNaming) w by → KeepNames w (create_act w by (named_steps (next_birth by) path))
founded-names w by path is n =
    let port = new_port (next_birth by) Connection in
    let bs = DrawsOrdinal by.number ∷ Makes port ∷ Binds path (Stands (Item (next_birth by))) ∷ [] in
    handled (world_after w bs) by.process (free_handle w by.process) PORT_ACCESS (next_birth by) (made-stands (basic w (DrawsOrdinal by.number)) port (unmade w by is.can is.sound)) (naming-all w bs refl n)

connected-names : (w : World) (by : ThreadRow) (connection : Birth) (offer : Option Offer) (bytes : List ℕ) → IsCalled (Shut IsNaming) w by → KeepNames w (connect_act w by connection offer (connection_request by offer bytes))
connected-names w by connection offer bytes is n =
    let m = connection_request by offer bytes in
    let port = client_port by connection in
    let x = connect_wait by connection offer m in
    let drawn = basic (basic w (DrawsIdentifier by.number)) (DrawsOrdinal by.number) in
    let made = basic drawn (Makes port) in
    let new = unmade w by is.can is.sound in
    let near : has_near_queue made x ≡ true = rw (made-found drawn port new) (rw (birth-self connection) (or_right (same_birth (next_birth by) connection) true refl)) in
    naming-all made (Awaits x ∷ enter (row_of connection port m) (basic made (Awaits x))) (and_from (has_near_queue made x) _ near (naming-enter made (row_of connection port m) (basic made (Awaits x)) (made-stands drawn port new)))
    (naming-all w (DrawsIdentifier by.number ∷ DrawsOrdinal by.number ∷ Makes port ∷ []) refl n)

-- neither port had another end, so what is near a port stays near
joined-near : (w : World) (client server : Birth) (context : ℕ) → passes (port_row w client) is_unjoined ≡ true → passes (port_row w server) is_unjoined ≡ true → NamesInside w → NamesInside (basic w (Joins client server context))
joined-near w client server context one two n =
    let v = basic w (Joins client server context) in
    let k = kept w v (record {
      sections = λ d is. is;
      tokens = λ d is. is;
      ports = λ c is. rw (has-joined c) is;
      queues = near;
      processes = λ c is. is;
      threads = λ c is. is;
    }) (λ all. all) (λ all. all) (λ all. all) (λ all. all) (λ all. all) (λ all. all) (keeps-same w _) in
    k.names n
  where
    has-mapped : (c : Birth) (ps : List PortRow) → has (is_port c) (map (joined client server context) ps) ≡ has (is_port c) ps
    has-mapped c [] = refl
    has-mapped c (p ∷ ps) = let same = joined-birth client server context p in grind (arith, has-mapped c ps)

    has-joined : (c : Birth) → has (is_port c) (basic w (Joins client server context)).ports ≡ has (is_port c) w.ports
    has-joined c = has-mapped c w.ports

    lone : (x : WaitRow) (q : PortRow) (own connected asks paired : Bool) → (own || (connected || (asks && paired))) ≡ true → paired ≡ false → (own || (connected || asks && is_paired_to x.queue q)) ≡ true
    lone x q own connected asks paired near off = grind arith

    unpaired : (x : WaitRow) (p : PortRow) → is_unjoined p ≡ true → is_paired_to x.queue p ≡ false
    unpaired x p is = of p.pair is
      where
        of : (o : Option Birth) → (is_none o && is_some p.connection) ≡ true → is_the x.queue o ≡ false
        of None is = refl
        of (Some d) is = absurd (cc)

    -- the row of one of the two
    its-row : (x : WaitRow) (p : PortRow) (b : Birth) → port_row w x.port ≡ Some p → is_port b p ≡ true → passes (port_row w b) is_unjoined ≡ true → is_unjoined p ≡ true
    its-row x p b row is stands =
        let own = birth-same p.birth x.port (first-passes (is_port x.port) w.ports p row) in
        let its = birth-same p.birth b is in
        let found : port_row w b ≡ Some p = subst (λ c. port_row w c ≡ Some p) (sym own ∙ its) row in rw found at stands

    near : (x : WaitRow) → has_near_queue w x ≡ true → has_near_queue (basic w (Joins client server context)) x ≡ true
    near x is = at (port_row w x.port) refl
      where
        here : (p : PortRow) (c s : Bool) → is_port client p ≡ c → is_port server p ≡ s → port_row w x.port ≡ Some p → is_near x p ≡ true → let q : PortRow = cond c (paired server context p) (cond s (paired client context p) p) in is_near x q ≡ true
        here p true s is_client is_server row was = lone x (paired server context p) (is_port x.queue p) (is_connected_to x.queue p) (is_asking x) (is_paired_to x.queue p) was (unpaired x p (its-row x p client row is_client one))
        here p false true is_client is_server row was = lone x (paired client context p) (is_port x.queue p) (is_connected_to x.queue p) (is_asking x) (is_paired_to x.queue p) was (unpaired x p (its-row x p server row is_server two))
        here p false false is_client is_server row was = was

        at : (o : Option PortRow) → port_row w x.port ≡ o → has_near_queue (basic w (Joins client server context)) x ≡ true
        at None none = let never : false ≡ true = rw none at is in absurd (cc)
        at (Some p) row = let was : is_near x p ≡ true = rw row at is in rw (joined-row w client server context x.port p row) (here p (is_port client p) (is_port server p) refl refl row was)

accepted-names : (w : World) (by : ThreadRow) (context : ℕ) (m : Message) (x : WaitRow) (a : Acceptance) → first (names_connect w by m) w.waits ≡ Some x → IsCalled (Shut IsNaming) w by → KeepNames w (accept_act w by context x a)
accepted-names w by context m x a at is n =
    let of = names-offered w by m x (first-passes (names_connect w by m) w.waits x at) in
    let lone = lone-parts w x of (every-first (is_lone_offer w) (names_connect w by m) w.waits x (is.known.1).linked.offers at) in
    let server = next_birth by in
    let port = server_port server x.queue in
    let drawn = basic w (DrawsOrdinal by.number) in
    let new = unmade w by is.can is.sound in
    let made = basic drawn (Makes port) in
    let t = naming-all w (DrawsOrdinal by.number ∷ Makes port ∷ []) refl n in
    let held = basic made (AddsHandle by.process (handle_row (free_handle w by.process) (port_name server) PORT_ACCESS)) in
    let u = handled made by.process (free_handle w by.process) PORT_ACCESS server (made-stands drawn port new) t in
    let told = basic held (Accepts x.thread a) in
    let server_row : passes (port_row made server) is_unjoined ≡ true = rw (made-found drawn port new) refl in
    joined-near told x.port server context (push-passes drawn port x.port is_unjoined lone.1) server_row (naming-all held (Accepts x.thread a ∷ []) refl u)

paired-stands : (w : World) (b c : Birth) → is_the b (pair_of w c) ≡ true → has (is_port c) w.ports ≡ true
paired-stands w b c is = at (port_row w c) is
  where
    at : (o : Option PortRow) → is_the b (option_and_then (λ p. p.pair) o) ≡ true → is_some o ≡ true
    at None is = absurd (cc)
    at (Some p) is = refl

completed-names : (w : World) (c : Completable) → CanComplete w c → KeepNames w (complete_act w c)
completed-names w c can n =
    let pid = c.wait.process in
    let value = free_handle w pid in
    let bs = Completes c.server ∷ Completes c.client ∷ [] in
    let two = world_after w bs in
    let stands : has (is_port c.client) two.ports ≡ true = rw (has-change (is_port c.client) (is_port c.client) completed (λ p. refl) (change (is_port c.server) completed w.ports), has-change (is_port c.client) (is_port c.server) completed (λ p. refl) w.ports) (paired-stands w c.server c.client can.joined) in
    let held = basic two (AddsHandle pid (handle_row value (port_name c.client) PORT_ACCESS)) in
    naming-all held (woken SUCCESS (completion_fields value (acceptance_of c.wait)) c.wait ∷ []) refl (handled two pid value PORT_ACCESS c.client stands (naming-all w bs refl n))

posted-names : (b : Birth) (w : World) → AreNaming w (post_closed b w)
posted-names b w = at (port_row w b) refl
  where
    by_creator : (p : PortRow) (queue : Birth) (o : Option Creator) → has (is_port p.birth) w.ports ≡ true → AreNaming w (given (option_map (closed_row p queue) o) (λ m. enter m w))
    by_creator p queue None stands = refl
    by_creator p queue (Some by) stands = naming-enter w (closed_row p queue by) w stands

    queued : (p : PortRow) (o : Option Birth) → has (is_port p.birth) w.ports ≡ true → AreNaming w (given (option_and_then (λ queue. option_map (closed_row p queue) p.creator) o) (λ m. enter m w))
    queued p None stands = refl
    queued p (Some queue) stands = by_creator p queue p.creator stands

    at : (o : Option PortRow) → port_row w b ≡ o → AreNaming w (given o (λ p. given (closing_post w p) (λ m. enter m w)))
    at None row = refl
    at (Some p) row = queued p (server_of w p) (subst (λ c. has (is_port c) w.ports ≡ true) (sym (birth-same p.birth b (first-passes (is_port b) w.ports p row))) (row-stands w b p row))

away-naming : (w : World) (x : Basic) → takes_away x ≡ true → is_naming w x ≡ true
away-naming w (Wakes who call status fields) is = refl
away-naming w (Withdraws who) is = refl
away-naming w (Empties q) is = refl
away-naming w (Unbinds b) is = refl
away-naming w (DropsOwned b) is = refl
away-naming w (Marks who) is = refl
away-naming w x is = absurd (cc)

-- waits that end leave fewer rows
ends-names : (test : World → WaitRow → Bool) (ending : WaitRow → List Basic) → ((x : WaitRow) → every takes_away (ending x) ≡ true) → (w : World) → NamesInside w → NamesInside (behind (end_each test ending) w)
ends-names test ending all w n = naming-all w (end_each test ending w) (ends-pass (is_naming w) (away-naming w) test ending all w) n

-- before its pair is cut, only rows have gone
uncut-names : (w : World) (b : Birth) → NamesInside w → NamesInside (uncut w b)
uncut-names w b n =
    let one = ends-names (λ w. is_receiver b) (wake PORT_DISCONNECTED) (λ x. refl) (stage_one w b) (naming-all w (Unbinds b ∷ []) refl n) in
    let two = ends-names (λ w. is_request_on b) (end_request PORT_DISCONNECTED) (λ x. refl) (stage_two w b) one in
    let three = ends-names (is_event_on b) mark_event (λ x. refl) (stage_three w b) two in
    let four = ends-names (λ w. is_queued_request b) (end_request LPC_REPLY_LOST) (λ x. refl) (stage_marked w b) three in
    let five = ends-names (is_queued_event b) mark_event (λ x. refl) (unrequested w b) four in
    let six = ends-names (λ w. is_offered_to b) end_offered (λ x. refl) (queue_marked w b) five in
    let emptied : NamesInside (stage_four w b) = subst NamesInside (sym (emptied-is w b)) (naming-all (unoffered w b) (Empties b ∷ []) refl six) in
    let seven = ends-names (is_request_across b) (end_request LPC_REPLY_LOST) (λ x. refl) (stage_four w b) emptied in
    let eight = ends-names (is_event_across b) mark_event (λ x. refl) (unasked w b) seven in
    let nine = ends-names (is_receive_across b) (wake PORT_DISCONNECTED) (λ x. refl) (across_marked w b) eight in
    ends-names (is_accepted_across b) end_accepted (λ x. refl) (unreceived w b) nine

closed-names : (w : World) (b : Birth) → IsSoundWorld w → KeepNames w (close_port b w)
closed-names w b s n =
    let five = stage_five w b in
    let t : NamesInside five = subst NamesInside (sym (cut-is w b)) (cut-names (uncut w b) b (uncut-free w b s) (uncut-clear w b s) (uncut-names w b n)) in
    subst NamesInside (sym (closed-is w b)) (naming-all (stage_six w b) (DropsOwned b ∷ []) refl (naming-all five (post_closed b five) (posted-names b five) t))

handle-names : (w : World) (pid : ℕ) (r : HandleRow) → IsSoundWorld w → KeepNames w (close_handle pid r w)
handle-names w pid r s n = at (is_last r w)
  where
    at : (last : Bool) → NamesInside (world_after w (when last (close_port r.object.birth w) ++ DropsHandle pid r.value ∷ []))
    at true =
        let bs = close_port r.object.birth w in
        rw (after-append w bs (DropsHandle pid r.value ∷ [])) (naming-all (world_after w bs) (DropsHandle pid r.value ∷ []) refl (closed-names w r.object.birth s n))
    at false = naming-all w (DropsHandle pid r.value ∷ []) refl n

-- a port that isn't open is cut off: no request is left on it or across
cut-off-names : (w : World) (b : Birth) → every (is_off b) w.waits ≡ true → every (is_clear w (is_made_on b)) w.waits ≡ true → IsSoundWorld w → NamesInside w → NamesInside (behind (cut_pair b) w)
cut-off-names w b off clear s n =
    let v = accepted_across b w in
    let u = received_across b w in
    let one = asked-less w b off clear s in
    let two = marked-less w b off clear s in
    let three = heard-less w b off clear s in
    let names : NamesInside v = ends-names (is_accepted_across b) end_accepted (λ x. refl) u (ends-names (is_receive_across b) (wake PORT_DISCONNECTED) (λ x. refl) (marked_across b w) (ends-names (is_event_across b) mark_event (λ x. refl) (asked_across b w) (ends-names (is_request_across b) (end_request LPC_REPLY_LOST) (λ x. refl) w n))) in
    let less = fewer-accepted b u in
    let ports : v.ports ≡ w.ports = less.ports ∙ (three.ports ∙ (two.ports ∙ one.ports)) in
    let free = subst (λ ps. every (λ x. not (is_cut_request (tied ps []) b x)) v.waits ≡ true) (sym ports) (less.waits (λ x. not (is_cut_request w b x)) (three.waits (λ x. not (is_cut_request w b x)) (two.waits (λ x. not (is_cut_request w b x))
    (every-both (is_off b) (λ x. not (is_request_across b w x)) (λ x. not (is_cut_request w b x)) (λ x here across. parts (is_receiver b x) (is_request x) (is_made_on b x) (is_across w b x) here across) (asked_across b w).waits (one.waits (is_off b) off) (asked-none w b off clear s))))) in
    let both = every-more (λ z. is_clear u (is_made_on b) z && is_clear u (is_across u b) z) (is_clear u (cut_hit u b)) (λ z is. joint (is_event z) (is_made_on b z) (is_across u b z) (is_marked u z) is) u.waits (heard-clear w b off clear s) in
    let hit = subst (λ ps. every (is_clear v (cut_hit (tied ps []) b)) v.waits ≡ true) (sym (ended-ports u b)) (ended-clear u b (cut_hit u b) both) in
    subst NamesInside (sym (cut-parts b w)) (cut-names v b free hit names)
  where
    parts : (r q m a : Bool) → (not r && not (q && m)) ≡ true → not (q && a) ≡ true → not (q && (m || a)) ≡ true
    parts r q m a one two = grind arith

    joint : (e d x m : Bool) → ((not (e && d) || m) && (not (e && x) || m)) ≡ true → (not (e && (d || x)) || m) ≡ true
    joint e d x m is = grind arith

gone-names : (n : ℕ) (w : World) → NamesInside w → NamesInside (gone n w)
gone-names n w names = naming-all w (Dies n SUCCESS ∷ Withdraws n ∷ []) refl names

-- the views that are left when its connect is cut behind it show what stands
disowned-all : (f : ViewRow → Bool) (xs : List WaitRow) (ts : List ViewTable) → every (λ t. every f t.rows) ts ≡ true → every (λ t. every f t.rows) (disowned xs ts) ≡ true
disowned-all f [] ts all = all
disowned-all f (x ∷ xs) ts all = disowned-all f xs (map (without_owned x.port) ts) (every-mapped (λ t. every f t.rows) (without_owned x.port) (λ t is. every-without f (is_owned_by x.port) t.rows is) ts all)

others-stand : (n : ℕ) (b : Birth) (w : World) → NamesInside w → let g = gone n (behind (cut_pair b) w) in every (λ t. every (shows_standing g) t.rows) (others_left n b (received_across b w)) ≡ true
others-stand n b w names =
    let u = received_across b w in
    let g = gone n (behind (cut_pair b) w) in
    let heard : NamesInside u = ends-names (is_receive_across b) (wake PORT_DISCONNECTED) (λ x. refl) (marked_across b w) (ends-names (is_event_across b) mark_event (λ x. refl) (asked_across b w) (ends-names (is_request_across b) (end_request LPC_REPLY_LOST) (λ x. refl) w names)) in
    let v = accepted_across b w in
    let less = fewer-accepted b u in
    let sections = λ (c : Birth) (is : has (is_section c) u.sections ≡ true). subst (λ (z : World). has (is_section c) z.sections ≡ true) (sym (cut-parts b w)) (subst (λ ss. has (is_section c) ss ≡ true) (sym less.sections) is) in
    let ports = λ (c : Birth) (is : has (is_port c) u.ports ≡ true). subst (λ (z : World). has (is_port c) z.ports ≡ true) (sym (cut-parts b w)) (subst (λ h. h ≡ true) (sym (has-change (is_port c) (is_end_of b) cut (λ p. refl) v.ports)) (subst (λ ps. has (is_port c) ps ≡ true) (sym less.ports) is)) in
    let all = every-more (λ t. every (shows_standing u) t.rows) (λ t. every (shows_standing g) t.rows) (λ t is. every-more (shows_standing u) (shows_standing g) (shows-kept u g sections ports) t.rows is) u.views heard.views in
    disowned-all (shows_standing g) (which (is_accepted_across b u) (without (waits_as n) u.waits)) u.views all

die-names : (code : Status) (t : ThreadRow) (w : World) → IsSafe w → KeepNames w (die code t w)
die-names code t w is n =
    die-holds NamesInside code w t (gone-names t.number w n) (λ x found accepted.
    let p = parting w t.number x found accepted (shut-of w is) (sound-of w is) in
    let names = gone-names t.number (behind (cut_pair x.port) w) (cut-off-names w x.port p.off p.clear (sound-of w is) n) in
    let g = gone t.number (behind (cut_pair x.port) w) in
    subst NamesInside (sym p.same) (record { handles = names.handles; senders = names.senders; queues = names.queues; registrations = names.registrations; event_ports = names.event_ports; views = others-stand t.number x.port w n }))
    (λ v b names. naming-all v (DropsOwned b ∷ []) refl names)

-- the section of a row stands
has-row : (w : World) (b : Birth) (s : SectionRow) → section_row w b ≡ Some s → section_stands w b ≡ true
has-row w b s at = rw at refl

names-law : (by : ThreadRow) → Law by (Shut IsNaming) AnyWorld KeepNames
names-law by = record {
  keeps = λ w bs all _. tt;
  nothing = λ w n. n;
  follows = keeps_on NamesInside;
  says = λ w e n. n;
  numbers = λ w. naming-all w (DrawsIdentifier by.number ∷ []) refl;
  wakes = λ w status fields x. naming-all w (woken status fields x ∷ []) refl;
  marks = λ w who is. naming-all w (Marks who ∷ []) refl;
  abandons = λ w who. naming-all w (Leaves who ∷ []) refl;
  debugs = λ w pid b stands live. naming-all w (SetsDebug pid b ∷ []) (and_from (port_stands w b) true stands refl);
  excepts = λ w pid b stands live. naming-all w (SetsException pid b ∷ []) (and_from (port_stands w b) true stands refl);
  dooms = λ w pid code. naming-all w (Dooms pid code ∷ []) refl;
  takes = λ w m. naming-all w (take_steps m) (naming-receipt w m);
  listens = λ w m. naming-all w (take_connect_steps m) (naming-receipt w m);
  waits = λ w x off is. naming-all w (Awaits x ∷ []) (and_from (has_near_queue w x) true is.near refl);
  sends = λ w m is. naming-all w (enter m w) (naming-enter w m w is.stands);
  asks = λ w x m off wait post. naming-all w (Awaits x ∷ enter m (basic w (Awaits x))) (and_from (has_near_queue w x) _ wait.near (naming-enter w m (basic w (Awaits x)) post.stands));
  creates = λ w is. created-names w by is;
  founds = λ w name path free is. founded-names w by path is;
  connects = λ w connection offer bytes opens offers is. connected-names w by connection offer bytes is;
  gives = λ w pid o access is n. naming-all w (AddsHandle pid (handle_row (free_handle w pid) o access) ∷ []) (and_from _ true (is.stands n.handles) refl) n;
  accepts = λ w context m x a at is. accepted-names w by context m x a at is;
  completes = λ w c is. completed-names w c is.can;
  registers = λ w b stands. naming-all w (Registers by.number b ∷ []) (and_from _ true stands refl);
  spawns = λ w pid tid token new unused s. naming-all w (DrawsOrdinal by.number ∷ DrawsOrdinal by.number ∷ AddsProcess (new_process pid (Some by.process) (next_birth by) token) ∷ AddsThread (new_thread tid pid (second_birth by)) ∷ []) refl;
  starts = λ w tid pid live unused s. naming-all w (DrawsOrdinal by.number ∷ AddsThread (new_thread tid pid (next_birth by)) ∷ []) refl;
  closes = λ w pid r at s _. handle-names w pid r s;
  dies = λ w code t is. die-names code t w is;
  leaves = λ w n b. naming-all w (Unregisters n b ∷ []) refl;
  lets_go = λ w pid. naming-all w (LetsGo pid ∷ []) refl;
  vacates = λ w pid. naming-all w (DropsViewsOf pid ∷ []) refl;
  disowns = λ w b. naming-all w (DropsOwned b ∷ []) refl;
  secures = λ w b s. naming-all w (Secures b s ∷ []) refl;
  acts = λ w own. naming-all w (Acts by.number own ∷ []) refl;
  holds_token = λ w content. naming-all w (DrawsOrdinal by.number ∷ AddsToken (new_token by content) ∷ []) refl;
  builds = λ w size prot is. naming-all w (DrawsOrdinal by.number ∷ AddsSection (new_section by size prot) ∷ []) refl;
  maps = λ w pid v m. let shows = m.shows (m.known.1).offers in naming-all w (Maps pid v ∷ []) (and_from _ true (and_from (section_stands w v.section) _ (has-row w v.section shows.section shows.row) m.owner) refl);
  unmaps = λ w pid base. naming-all w (Unmaps pid base ∷ []) refl;
  writes = λ w b place new. naming-all w (Writes b place new ∷ []) refl;
}

-- Lines
pub names-lines : LineLaw (Shut IsNaming) (λ _. KeepNames)
names-lines = passing-lines (Shut IsNaming) KeepNames is_naming naming-all (λ w. record { tells = λ _. refl; processes = λ _ _ _. refl; threads = λ _ _ _. refl; binds = λ _ _. refl; names = λ _. refl }) (λ by. outcomes by (Shut IsNaming) AnyWorld KeepNames (names-law by) (λ w c. (c.0, tt)))

-- before the world settles
pub names_line : (w : World) (line : ScriptLine) → IsSoundWorld w → HasShutConnects w → IsLinked w → HasSoundOffers w → NamesInside w → NamesInside (world_after w (own_steps line w))
names_line w line s shut l offers n = line-does (Shut IsNaming) (λ _. KeepNames) names-lines w s (shut, record { linked = l; offers = offers }) line n

-- settling
pub names-settles : (v : World) → IsReady v → NamesInside v → NamesInside (behind settle v)
names-settles v ready = settling-does (Shut IsNaming) AnyWorld KeepNames names-law (λ w tid _ _. tt) v ready tt

-- the step of a line
pub names_step : (w : World) (line : ScriptLine) → IsSoundWorld w → HasShutConnects w → IsLinked w → HasSoundOffers w → IsReady (world_after w (own_steps line w)) → NamesWhatStands w → NamesWhatStands (step w line).world
names_step w line s shut l offers ready n =
    let v = world_after w (own_steps line w) in
    let names = bare-does KeepNames (λ w xs ys one two. keeps_on NamesInside w xs ys one two) w line (names_line w line s shut l offers) (names-settles v ready) (inside w n) in
    let bare = world_after w (bare_steps line w) in
    stepped NamesWhatStands w line swept-names (unmarked-names bare (bare-unmarked w line ready) names)

pub names_none : NamesWhatStands no_rows
names_none = record { handles = refl; senders = refl; queues = refl; registrations = refl; event_ports = refl; views = refl }
