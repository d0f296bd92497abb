-- What a call tells keeps it that what is remembered of outsiders' connects is right.
use Rattle.lpc_model.specs.Raise.{Heard as Sends}
use Rattle.lpc_model.proofs.Sound.Reply.{reply-cases}
use Rattle.lpc_model.specs.Raise.{Handled, Unhandled, event_begun, raise_steps, raise_told, set_port_steps, set_told}
use Rattle.lpc_model.proofs.Calls.Raising.{set-passes}
use Rattle.lpc_isolation.proofs.Each.Raises.{event_row, event-sort, raised}
use Rattle.lpc_tokens.specs.declared.security.Security.TheVariants.{Allows}
use Rattle.lpc_isolation.proofs.Gone.Fine.{unsecured}
use Rattle.lpc_model.specs.Impersonation.{impersonate_steps, token_steps, held_content, process_content}
use Rattle.lpc_model.specs.Memory.{section_steps}
use Rattle.lpc_model.specs.Death.{end_threads}
use Rattle.lpc_model.specs.Close.{close_handle, close_steps}
use Rattle.lpc_model.proofs.Calls.Outcomes.{EndCall, end_call, of_thread, of_process}
use Rattle.lpc_isolation.proofs.Each.Completes.{found-completion}
use Rattle.lpc_isolation.proofs.Each.Accepts.{found-answer}
use Rattle.lpc_isolation.proofs.Endings.Threads.{ends-mild}
use Rattle.lpc_isolation.proofs.Closings.Mild.{mild-known}
use Rattle.lpc_isolation.proofs.Each.Closes.{caller-sure, handle-good, handle-mild}
use Rattle.lpc_isolation.proofs.Calls.Doomed.{doomed-part, doomed-whose, ended, steady}
use Rattle.lpc_isolation.proofs.Calls.Deeds.{AreTame, Deeds, gives, more, none, numbers, registers, is_tame, any-tame, maps, unmaps, writes, acts, guarded}
use Rattle.lpc_isolation.proofs.Memory.Calls.{Hears, Still, still-hears, unnoted, wake-silent, answer-silent, sent-known, sent-hears, datagram-sent, request-sent, connect-sent, fits-outside, fits-c, noted, listened-known, listened-silent, received-known, received-silent, no-reply, one-reply, IsReply, event-sent}
use Rattle.std.proofs.Common.{◌≡◌, ℕ, List, [], ◌∷◌, Bool, true, false, cond, not, Option, Some, None, refl, ap, sym, subst, ◌∙◌, arith, ◌++◌, append-nil}
use Rattle.std.specs.Prelude.{◌||◌, ◌==◌, Ok}
use Rattle.std.proofs.lemmas.Bool.{eqb-true}
use Rattle.lpc_base.specs.Rows.{every, first, passes}
use Rattle.lpc_base.proofs.RowWords.{first-passes, every-append}
use Rattle.lpc_base.proofs.RowMaps.{every-first}
use Rattle.lpc_base.proofs.Bools.{first-true}
use Rattle.lpc_base.specs.declared.status.Status.{Status}
use Rattle.lpc_base.specs.declared.status.TheConstants.{SUCCESS}
use Rattle.lpc_message.specs.declared.kind.TheConstants.{DATAGRAM, REQUEST}
use Rattle.lpc_model.specs.declared.entry.CallName.{CallName}
use Rattle.lpc_model.specs.declared.entry.CallName.TheVariants.{NtConnectPort, NtListenPort, NtReplyWaitReceivePort, NtRequestPort, NtRequestWaitReplyPort, NtOpenThreadToken, NtOpenProcessToken, Raise}
use Rattle.lpc_model.specs.declared.entry.Entry.{Entry}
use Rattle.lpc_model.specs.declared.entry.Entry.TheVariants as entry
use Rattle.lpc_model.specs.declared.message.Message.{Message}
use Rattle.lpc_model.specs.declared.entry.Field.{Field}
use Rattle.lpc_model.specs.Fields.{id, msg, receipt, connect_fields}
use Rattle.lpc_model.specs.World.{Birth, MessageRow, PortRow, ThreadRow, World, ViewRow, Security, WaitRow}
use Rattle.lpc_model.specs.Found.{fits, is_accepted, is_offered, is_queued, is_queued_connect, queue_of, same_birth, wait_of, free_handle, acting_token, is_asking}
use Rattle.lpc_model.specs.Basics.{Basic, entries_of, world_after, Tells, basic, Maps, Secures, SetsDebug, SetsException}
use Rattle.lpc_model.specs.Entering.{enter, row_of}
use Rattle.lpc_model.specs.Connect.{is_accepted_on, listen_steps, names_connect, ConnectAnswer, answer_test, accept_steps, refuse_steps, complete_steps, create_steps, unnamed_steps, named_steps, accept_start, allow_steps}
use Rattle.lpc_model.specs.Request.{datagram_start, datagram_steps, receive_steps, reply, request_start, request_steps, sent_by, reply_steps}
use Rattle.lpc_model.specs.Tests.{port_test, next_birth}
use Rattle.lpc_model.specs.Lines.{ScriptCall, accept_connect_port, complete_connect_port, connect_port, create_port, listen_port, reply_port, reply_wait_receive_port, request_port, request_wait_reply_port, close, create_section, impersonate_client_of_port, open_thread_token, open_process_token, raise, set_information_process}
use Rattle.lpc_model.specs.Circle.{Group, Whose, owner}
use Rattle.lpc_isolation.proofs.Views.Alone.{HasFineRows}
use Rattle.lpc_isolation.proofs.Views.View.{seen_port, view}
use Rattle.lpc_isolation.proofs.Rows.Fair.{is_sent, owner-sent}
use Rattle.lpc_isolation.proofs.Views.Seen.{port_test-view, result_map, handle-own}
use Rattle.lpc_isolation.proofs.Views.Apart.{Owned}
use Rattle.lpc_isolation.proofs.Each.Routes.{routed-out}
use Rattle.lpc_isolation.proofs.Plays.Play.{told_inputs}
use Rattle.lpc_isolation.proofs.Each.Sends.{Caller, found-port, found-request, found-datagram}
use Rattle.lpc_isolation.proofs.Each.Listens.{listen-queue, own_entry}
use Rattle.lpc_isolation.proofs.Each.Receive.{Receivable, queue-own, queue-view, receive-queue, replied-as, receivable}
use Rattle.lpc_isolation.proofs.Each.Connects.{connect-fine, fine-other, row, starting, steps_of}
use Rattle.lpc_isolation.proofs.Rows.Ids.{Numbered, of_number}
use Rattle.lpc_isolation.proofs.Rows.Asked.{Asked, is_sort}
use Rattle.lpc_isolation.proofs.Memory.Heard.{Heard, Reads, call_memo, entries_memo, heard-message, heard-receipt, heard_in, is_silent_step, noted_of, of_port, of_queue, reads-of, silent-memo, takes_any}
use Rattle.lpc_isolation.proofs.Memory.Knows.{AllKnown, are_known, run-known}
use Rattle.lpc_isolation.proofs.Memory.Receptions.{Fits, take_connect-known, known-append}
use Rattle.lpc_model.specs.Offers.{SharedViews, mapped, shared_steps, server_views, base_of}
use Rattle.lpc_model.proofs.Calls.Sharing.{shared-pass}
use Rattle.lpc_model.proofs.Steps.InTurn.{entries-append, after-append}

-- Tame steps
knows : (m : Group) (memo : List Heard) (w : World) (by : ThreadRow) (v : World) (bs : List Basic) → AreTame w by bs → are_known m memo v bs ≡ true
knows m memo w by v [] none = refl
knows m memo w by v (b ∷ bs) (more (gives h r value at same) t) = knows m memo w by (basic v b) bs t
knows m memo w by v (b ∷ bs) (more (registers p value at) t) = knows m memo w by (basic v b) bs t
knows m memo w by v (b ∷ bs) (more numbers t) = knows m memo w by (basic v b) bs t
knows m memo w by v (b ∷ bs) (more (maps x s rights value at section owner) t) = knows m memo w by (basic v b) bs t
knows m memo w by v (b ∷ bs) (more (unmaps base) t) = knows m memo w by (basic v b) bs t
knows m memo w by v (b ∷ bs) (more (writes s place new) t) = knows m memo w by (basic v b) bs t
knows m memo w by v (b ∷ bs) (more (acts other) t) = knows m memo w by (basic v b) bs t

silent : (v w : World) (by : ThreadRow) (bs : List Basic) → AreTame w by bs → every (is_silent_step v) bs ≡ true
silent v w by [] none = refl
silent v w by (b ∷ bs) (more (gives h r value at same) t) = silent v w by bs t
silent v w by (b ∷ bs) (more (registers p value at) t) = silent v w by bs t
silent v w by (b ∷ bs) (more numbers t) = silent v w by bs t
silent v w by (b ∷ bs) (more (maps x s rights value at section owner) t) = silent v w by bs t
silent v w by (b ∷ bs) (more (unmaps base) t) = silent v w by bs t
silent v w by (b ∷ bs) (more (writes s place new) t) = silent v w by bs t
silent v w by (b ∷ bs) (more (acts other) t) = silent v w by bs t

tame-unnoted : (m : Group) (v : World) (by : ThreadRow) (call : ScriptCall) (e : Entry) (memo : List Heard) → is_tame call ≡ true → call_memo m v by call e memo ≡ memo
tame-unnoted m v by (listen_port handle) e memo tame = absurd (cc)
tame-unnoted m v by (reply_wait_receive_port handle bytes) e memo tame = absurd (cc)
tame-unnoted m v by call e memo tame = refl

ends-unnoted : (m : Group) (v : World) (by : ThreadRow) (call : EndCall) (e : Entry) (memo : List Heard) → call_memo m v by (end_call call) e memo ≡ memo
ends-unnoted m v by (of_thread target code) e memo = refl
ends-unnoted m v by (of_process target code) e memo = refl

-- Views that are mapped
mapped-known : (m : Group) (memo : List Heard) (w : World) (pid : ℕ) (o : Option ViewRow) → are_known m memo w (mapped pid o) ≡ true
mapped-known m memo w pid None = refl
mapped-known m memo w pid (Some v) = refl

accept-known : (m : Group) (memo : List Heard) (w : World) (by : ThreadRow) (context value : ℕ) (a : ConnectAnswer) (views : SharedViews) → are_known m memo w (accept_steps by context value a views) ≡ true
accept-known m memo w by context value a views =
    known-append m memo w (accept_start by context value a views) (shared_steps by a.wait views) refl
    (known-append m memo _ (server_views by views.own views.theirs) (mapped a.wait.process views.across)
    (known-append m memo _ (mapped by.process views.own) (mapped by.process views.theirs) (mapped-known m memo _ by.process views.own) (mapped-known m memo _ by.process views.theirs))
    (mapped-known m memo _ a.wait.process views.across))

accept-silent : (v : World) (by : ThreadRow) (context value : ℕ) (a : ConnectAnswer) (views : SharedViews) → every (is_silent_step v) (accept_steps by context value a views) ≡ true
accept-silent v by context value a views = every-append (is_silent_step v) (accept_start by context value a views) (shared_steps by a.wait views) refl (shared-pass (is_silent_step v) by a.wait (λ _. refl) (λ _. refl) views)

-- An outsider's call
silent-reply : (v : World) (x : WaitRow) (b : Message) → not (passes (wait_of v x.thread) takes_any) ≡ true → every (is_silent_step v) (reply x b ∷ []) ≡ true
silent-reply v x b silent = reply-cases (λ r. every (is_silent_step v) (r ∷ []) ≡ true) x b (rw silent refl) (rw silent refl) (λ _. refl)

module _ (m : Group) (c : ℕ) (u w : World) (by : ThreadRow) (d : Whose) (memo : List Heard) (k : Caller m c u w by) (owned : Owned w w) (n : Numbered w) (a : Asked w) (all : AllKnown m memo w) (out : m by.process ≡ false) where
  -- where no entry shows a message
  still : (bs : List Basic) → Still m memo w bs → Hears m c u d w memo bs
  still bs is = still-hears m c u d w memo bs all is

  reads : (y : MessageRow) → y.message.header.client ≡ record { process = by.process; thread = by.number } → is_sort y ≡ true → Reads y
  reads y sender sort = reads-of w.used_threads y n (owner-sent w y by.process (ap (λ c. owner w c.thread) sender ∙ k.own) (ap (λ c. c.process) sender)) sort

  -- what it is told itself isn't an input
  unheard-waits : (call : CallName) (fields : List Field) (es : List Entry) → told_inputs m c u d (entry.Waits by.number call fields ∷ es) ≡ told_inputs m c u d es
  unheard-waits call fields es = rw (k.here, out) refl

  unheard-answer : (call : CallName) (status : Status) (fields : List Field) (es : List Entry) → told_inputs m c u d (entry.Answer by.number call status fields ∷ es) ≡ told_inputs m c u d es
  unheard-answer call status fields es = rw (k.here, out) refl

  wakes : (bytes : List ℕ) (r : ConnectAnswer) → answer_test w by bytes ≡ Ok r → not (passes (wait_of (view m w) r.wait.thread) takes_any) ≡ true
  wakes bytes r at = let is = found-answer m c u w by bytes r k at in wake-silent m w (names_connect w by r.message) r.wait k.once is.found (rw is.offered (grind arith))

  -- a view that is mapped is told to nobody
  hears-mapped : (bs : List Basic) (pid : ℕ) (o : Option ViewRow) → Hears m c u d w memo bs → Hears m c u d w memo (bs ++ mapped pid o)
  hears-mapped bs pid None is = subst (Hears m c u d w memo) (sym (append-nil bs)) is
  hears-mapped bs pid (Some v) is =
      let es : entries_of (bs ++ Maps pid v ∷ []) ≡ entries_of bs = entries-append bs (Maps pid v ∷ []) ∙ append-nil (entries_of bs) in
      rw (es, after-append w bs (Maps pid v ∷ [])) is

  -- nor is what a port allows
  hears-secured : (bs : List Basic) (b : Birth) (s : Security) → Hears m c u d w memo bs → Hears m c u d w memo (bs ++ Secures b s ∷ [])
  hears-secured bs b s is =
      let es : entries_of (bs ++ Secures b s ∷ []) ≡ entries_of bs = entries-append bs (Secures b s ∷ []) ∙ append-nil (entries_of bs) in
      rw (es, after-append w bs (Secures b s ∷ [])) is

  pub hears-deeds : Deeds w by (λ _ bs. HasFineRows m c (world_after w bs) → Hears m c u d w memo bs)
  hears-deeds = record {
    creates = λ _ _. still (create_steps by (unnamed_steps (next_birth by)) (free_handle w by.process)) (refl, refl);
    founds = λ name dacl path free _. guarded (λ bs. Hears m c u d w memo (create_steps by (named_steps (next_birth by) path) (free_handle w by.process) ++ bs)) (next_birth by) name dacl (still (create_steps by (named_steps (next_birth by) path) (free_handle w by.process)) (refl, refl)) (λ s. still (create_steps by (named_steps (next_birth by) path) (free_handle w by.process) ++ Secures (next_birth by) s ∷ []) (refl, refl));
    connects = λ name quality word bytes offer own q is all_fine.
        let fine = unsecured m c w (steps_of w by q offer own bytes) (next_birth by) _ all_fine in
        let v : World = world_after w (starting by q offer own bytes) in
        let es = enter (row by q offer own bytes) v in
        hears-secured (steps_of w by q offer own bytes) (next_birth by) (Allows quality (acting_token w by)) (hears-mapped (starting by q offer own bytes ++ es) by.process own
        (subst (λ inputs. AllKnown m (entries_memo m (view m w) memo inputs) (world_after v es)) (sym (unheard-waits NtConnectPort (connect_fields by.next_identifier (base_of own)) (entries_of es)))
        (sent-hears m c u w by d memo (starting by q offer own bytes) (row by q offer own bytes) k all (connect-sent m c u w by q offer own bytes k) (reads (row by q offer own bytes) refl refl) out (fine-other m c by q (connect-fine m c w by q offer own bytes fine) out))));
    listens = λ handle p o at first _.
        let named = found-port m c u w by handle p k at in
        still (listen_steps by p.birth o) (
          listened-known m w by p.birth memo o (λ y there. fits-outside m memo w (is_queued_connect p.birth) y a k.once (first ∙ there) (ap (λ (b : Birth). m b.process) (listen-queue p.birth w y (first ∙ there)) ∙ ap m named.process ∙ out)),
          listened-silent (view m w) by p.birth o,
        );
    refuses = λ context bytes word r at _. still (refuse_steps by r) (refl, rw (wakes bytes r at) refl);
    accepts = λ context bytes word offer r views is _. still (accept_steps by context (free_handle w by.process) r views) (accept-known m memo w by context (free_handle w by.process) r views, accept-silent (view m w) by context (free_handle w by.process) r views);
    completes = λ handle r at _.
        let is = found-completion m c u w by handle r k at in
        let on : (is_accepted r.wait || (is_offered r.wait || is_asking r.wait)) ≡ true = rw (first-true (is_accepted r.wait) (same_birth r.wait.port r.client) (first-passes (is_accepted_on r.client) w.waits r.wait is.found)) refl in
        still (complete_steps by (free_handle w r.wait.process) r) (refl, rw (wake-silent m w (is_accepted_on r.client) r.wait k.once is.found on) refl);
    sends = λ handle bytes s at _.
        let is = found-datagram m c u w by handle bytes s k at in
        let y = row_of s.queue s.port (sent_by by DATAGRAM s.message) in
        subst (λ es. AllKnown m (entries_memo m (view m w) memo es) (world_after w (datagram_steps by s.port s.queue (sent_by by DATAGRAM s.message) w))) (sym (unheard-answer NtRequestPort SUCCESS (id by.next_identifier ∷ []) (entries_of (enter y (world_after w (datagram_start by))))))
        (sent-hears m c u w by d memo (datagram_start by) y k all (datagram-sent m c u w by s.port s.queue s.message k) (reads y refl refl) out (routed-out m c w s.port s.queue is.named.right k.c_in (ap m is.named.process ∙ out) is.to));
    asks = λ handle bytes s at _.
        let is = found-request m c u w by handle bytes s k at in
        let b : Message = sent_by by REQUEST s.message in
        let y = row_of s.queue s.port b in
        subst (λ es. AllKnown m (entries_memo m (view m w) memo es) (world_after w (request_steps by s.port s.queue b w))) (sym (unheard-waits NtRequestWaitReplyPort (id by.next_identifier ∷ []) (entries_of (enter y (world_after w (request_start by s.port.birth s.queue b))))))
        (sent-hears m c u w by d memo (request_start by s.port.birth s.queue b) y k all (request-sent m c u w by s.port s.queue s.message k) (reads y refl refl) out (routed-out m c w s.port s.queue is.named.right k.c_in (ap m is.named.process ∙ out) is.to));
    replies = λ handle bytes p b x at read fits _.
        let silent = answer-silent m c u w by p b x k fits in
        still (reply_steps by x b) (reply-cases (λ r. are_known m memo w (r ∷ []) ≡ true) x b refl refl (λ _. refl), reply-cases (λ r. every (is_silent_step (view m w)) (r ∷ []) ≡ true) x b (rw silent refl) (rw silent refl) (λ _. refl));
    receives = λ handle bytes b p q replied o is first _.
        let r = receivable m c u w by handle bytes b p q replied k is in
        let q_out : m q.process ≡ false = ap m (queue-own m c w p q r.named.right r.queue ∙ r.named.process) ∙ out in
        let fits : (y : MessageRow) → o ≡ Some y → Fits m memo w y = λ y there. fits-outside m memo w (is_queued q) y a k.once (first ∙ there) (ap (λ (b : Birth). m b.process) (receive-queue q w y (first ∙ there)) ∙ q_out) in
        replied-as (λ rs. Hears m c u d w memo (receive_steps by p q rs o)) w p b replied r.replies
        (λ none. still (receive_steps by p q [] o) (received-known m w by p q memo [] o no-reply fits, received-silent (view m w) by p q [] o refl))
        (λ e x some at. still (receive_steps by p q (reply x e ∷ []) o) (received-known m w by p q memo (reply x e ∷ []) o (one-reply x e) fits, received-silent (view m w) by p q (reply x e ∷ []) o (silent-reply (view m w) x e (answer-silent m c u w by p e x k at))));
    closes = λ handle r at _.
        let own : r.object.birth.process ≡ by.process = handle-own m c w by.process handle r k.fair at in
        let g = handle-good m c by.process r own in
        let mute : entries_memo m (view m w) memo (told_inputs m c u d (entries_of (close_handle by.process r w))) ≡ memo = g.mute u d w memo (caller-sure m c u w by k) numbers (ap m own ∙ out) in
        let behind : AllKnown m memo (world_after w (close_handle by.process r w)) = run-known m memo w (close_handle by.process r w) (mild-known m memo w (close_handle by.process r w) (handle-mild w by.process r)) all in
        rw (k.here, out) (subst (λ n. AllKnown m n (world_after w (close_handle by.process r w))) (sym mute) behind);
    makes_section = λ size prot _. still (section_steps by size prot (free_handle w by.process)) (refl, refl);
    impersonates = λ handle bytes own is _. still (impersonate_steps by own) (refl, refl);
    opens_own = λ own is _. still (token_steps by NtOpenThreadToken (held_content own) (free_handle w by.process)) (refl, refl);
    opens_primary = λ _. still (token_steps by NtOpenProcessToken (process_content w by) (free_handle w by.process)) (refl, refl);
    sets = λ target class handle pid port at found live _. set-passes (λ bs. Hears m c u d w memo bs) by class pid port.birth (still (set_told by ∷ SetsDebug pid port.birth ∷ []) (refl, refl)) (still (set_told by ∷ SetsException pid port.birth ∷ []) (refl, refl));
    handles = λ code handled _. still (raise_steps by code handled Handled w) (refl, refl);
    hears = λ code handled h is _.
        let told = raised m c u w by h k is in
        let y = event_row by code h in
        let start = raise_told by ∷ event_begun by code handled h in
        subst (λ es. AllKnown m (entries_memo m (view m w) memo es) (world_after w (raise_steps by code handled (Sends h) w))) (sym (unheard-waits Raise (id by.next_identifier ∷ []) (entries_of (enter y (world_after w start)))))
        (sent-hears m c u w by d memo start y k all (event-sent m c u w by code handled h k) (reads y refl (event-sort by code h)) out (routed-out m c w h.port h.queue told.right k.c_in (told.side ∙ out) told.to));
    fails = λ code handled _. still (raise_steps by code handled Unhandled w) (refl, refl);
    tames = any-tame (λ call name fields bs tame t _. still (Tells (entry.Answer by.number name SUCCESS fields) ∷ bs) (knows m memo w by w bs t, silent (view m w) w by bs t));
    ends = λ call name own pid code ts doomed _.
        let p = doomed-part m c u w by own pid code ts k doomed in
        let mute : entries_memo m (view m w) memo (told_inputs m c u d (entries_of (end_threads pid code ts w))) ≡ memo = p.mute d w memo (steady m c u w by k) numbers (doomed-whose m c w by own pid ts k.fair doomed ∙ out) in
        let behind : AllKnown m memo (world_after w (end_threads pid code ts w)) = run-known m memo w (end_threads pid code ts w) (mild-known m memo w (end_threads pid code ts w) (ends-mild pid code ts w)) all in
        let is : Hears m c u d w memo (end_threads pid code ts w) = subst (λ n. AllKnown m n (world_after w (end_threads pid code ts w))) (sym mute) behind in
        ended (Hears m c u d w memo) by name own pid code ts w (λ _. is) (λ _. rw (k.here, out) is);
  }
    where
      numbers : Numbered u
      numbers = subst (λ us. every of_number us ≡ true) (sym k.used) n

-- A member's call
module _ (m : Group) (c : ℕ) (u w : World) (by : ThreadRow) (memo : List Heard) (k : Caller m c u w by) (owned : Owned w w) (n : Numbered w) (a : Asked w) (all : AllKnown m memo w) (by_in : m by.process ≡ true) where
  -- what is remembered by its answer, and that it is right
  abbrev Notes : ScriptCall → List Basic → Type 0
  Notes call bs = AllKnown m (cond (by.process == c) memo (call_memo m (view m w) by call (own_entry bs) memo)) (world_after w bs)

  nothing : (v : World) → AllKnown m memo v → AllKnown m (cond (by.process == c) memo memo) v
  nothing v is = unnoted m memo v (by.process == c) is

  quiet : (call : ScriptCall) (bs : List Basic) → ((e : Entry) → call_memo m (view m w) by call e memo ≡ memo) → are_known m memo w bs ≡ true → Notes call bs
  quiet call bs off is = rw (off (own_entry bs)) (nothing (world_after w bs) (run-known m memo w bs is all))

  reads-queued : (test : MessageRow → Bool) (y : MessageRow) → first test w.messages ≡ Some y → Reads y
  reads-queued test y at = reads-of w.used_threads y n (every-first (is_sent w.used_threads) test w.messages y k.fair.senders at) (every-first is_sort test w.messages y a.sorts at)

  -- what is shown of the message that c or another member takes
  listens : (handle : ℕ) (p : PortRow) → port_test w by handle ≡ Ok p → p.birth.process ≡ by.process → (o : Option MessageRow) → first (is_queued_connect p.birth) w.messages ≡ o → Notes (listen_port handle) (listen_steps by p.birth o)
  listens handle p at own None empty = rw (silent-memo m (view m w) by (listen_port handle) (entry.Waits by.number NtListenPort []) memo (λ q. refl)) (nothing (world_after w (listen_steps by p.birth None)) (run-known m memo w (listen_steps by p.birth None) refl all))
  listens handle p at own (Some y) some = mine (by.process == c) refl
    where
      queue : y.queue ≡ p.birth
      queue = listen-queue p.birth w y some

      shows : call_memo m (view m w) by (listen_port handle) (entry.Answer by.number NtListenPort SUCCESS (msg y.message ∷ [])) memo ≡ noted_of m y y.queue memo
      shows = ap (λ r. of_port r (λ p. heard_in m (msg y.message ∷ []) p.birth memo) memo) (port_test-view m c w by handle k.fair by_in ∙ ap (result_map (seen_port m)) at)
          ∙ heard-message m y p.birth memo (reads-queued (is_queued_connect p.birth) y some) ∙ ap (λ q. noted_of m y q memo) (sym queue)

      mine : (b : Bool) → (by.process == c) ≡ b → AllKnown m (cond b memo (call_memo m (view m w) by (listen_port handle) (entry.Answer by.number NtListenPort SUCCESS (msg y.message ∷ [])) memo)) (world_after w (listen_steps by p.birth (Some y)))
      mine true is =
          let of_c : y.queue.process ≡ c = ap (λ (b : Birth). b.process) queue ∙ own ∙ eqb-true by.process c is in
          run-known m memo w (listen_steps by p.birth (Some y)) (take_connect-known m memo w y (fits-c m c u w by memo (is_queued_connect p.birth) y k owned some of_c)) all
      mine false other =
          let t = noted m c u w by memo (is_queued_connect p.birth) y k owned a all some in
          subst (λ memo. AllKnown m memo (world_after w (listen_steps by p.birth (Some y)))) (sym shows) (run-known m (noted_of m y y.queue memo) w (listen_steps by p.birth (Some y)) (take_connect-known m (noted_of m y y.queue memo) w y t.fits) t.all)

  receives : (handle : ℕ) (bytes : Option (List ℕ)) (b : Option Message) (p : PortRow) (q : Birth) (replied rs : List Basic) → Receivable m c w by handle b p q replied → IsReply rs → (o : Option MessageRow) → first (is_queued q) w.messages ≡ o → Notes (reply_wait_receive_port handle bytes) (receive_steps by p q rs o)
  receives handle bytes b p q replied rs r is None empty =
      rw (silent-memo m (view m w) by (reply_wait_receive_port handle bytes) (entry.Waits by.number NtReplyWaitReceivePort []) memo (λ q. refl))
      (nothing (world_after w (receive_steps by p q rs None)) (run-known m memo w (receive_steps by p q rs None) (received-known m w by p q memo rs None is (λ y at. absurd (off y at))) all))
    where
      off : (y : MessageRow) → None ≡ Some y → ⊥
      off y at = cc
  receives handle bytes b p q replied rs r is (Some y) some = mine (by.process == c) refl
    where
      queue : y.queue ≡ q
      queue = receive-queue q w y some

      own : q.process ≡ by.process
      own = queue-own m c w p q r.named.right r.queue ∙ r.named.process

      there : queue_of (view m w) (seen_port m p) ≡ Some q
      there = queue-view m c w p k.fair r.named.right (ap m r.named.process ∙ by_in) ∙ r.queue

      shows : call_memo m (view m w) by (reply_wait_receive_port handle bytes) (entry.Answer by.number NtReplyWaitReceivePort SUCCESS (receipt y)) memo ≡ noted_of m y y.queue memo
      shows = ap (λ r. of_port r (λ p. of_queue (queue_of (view m w) p) (λ q. heard_in m (receipt y) q memo) memo) memo) (port_test-view m c w by handle k.fair by_in ∙ ap (result_map (seen_port m)) r.from)
          ∙ ap (λ o. of_queue o (λ q. heard_in m (receipt y) q memo) memo) there
          ∙ heard-receipt m y q memo (reads-queued (is_queued q) y some) ∙ ap (λ q. noted_of m y q memo) (sym queue)

      same : (memo : List Heard) → Fits m memo w y → (z : MessageRow) → Some y ≡ Some z → Fits m memo w z
      same memo fits z it = let one : y ≡ z = cc in subst (Fits m memo w) one fits

      mine : (e : Bool) → (by.process == c) ≡ e → AllKnown m (cond e memo (call_memo m (view m w) by (reply_wait_receive_port handle bytes) (entry.Answer by.number NtReplyWaitReceivePort SUCCESS (receipt y)) memo)) (world_after w (receive_steps by p q rs (Some y)))
      mine true it =
          let of_c : y.queue.process ≡ c = ap (λ (b : Birth). b.process) queue ∙ own ∙ eqb-true by.process c it in
          run-known m memo w (receive_steps by p q rs (Some y)) (received-known m w by p q memo rs (Some y) is (same memo (fits-c m c u w by memo (is_queued q) y k owned some of_c))) all
      mine false other =
          let t = noted m c u w by memo (is_queued q) y k owned a all some in
          subst (λ memo. AllKnown m memo (world_after w (receive_steps by p q rs (Some y)))) (sym shows) (run-known m (noted_of m y y.queue memo) w (receive_steps by p q rs (Some y)) (received-known m w by p q (noted_of m y y.queue memo) rs (Some y) is (same (noted_of m y y.queue memo) t.fits)) t.all)

  pub notes-deeds : Deeds w by Notes
  notes-deeds = record {
    creates = λ dacl. quiet (create_port None dacl) (create_steps by (unnamed_steps (next_birth by)) (free_handle w by.process)) (λ e. refl) refl;
    founds = λ name dacl path free. guarded (λ bs. Notes (create_port (Some name) dacl) (create_steps by (named_steps (next_birth by) path) (free_handle w by.process) ++ bs)) (next_birth by) name dacl (quiet (create_port (Some name) dacl) (create_steps by (named_steps (next_birth by) path) (free_handle w by.process)) (λ e. refl) refl) (λ s. quiet (create_port (Some name) dacl) (create_steps by (named_steps (next_birth by) path) (free_handle w by.process) ++ Secures (next_birth by) s ∷ []) (λ e. refl) refl);
    connects = λ name quality word bytes offer own q is. quiet (connect_port name quality word bytes) (steps_of w by q offer own bytes ++ allow_steps w by quality) (λ e. refl)
        (known-append m memo w (steps_of w by q offer own bytes) (allow_steps w by quality) (known-append m memo w (starting by q offer own bytes ++ enter (row by q offer own bytes) (world_after w (starting by q offer own bytes))) (mapped by.process own) (sent-known m w by memo (starting by q offer own bytes) (row by q offer own bytes) (connect-sent m c u w by q offer own bytes k) by_in) (mapped-known m memo _ by.process own)) refl);
    listens = λ handle p o at first. let named = found-port m c u w by handle p k at in listens handle p at named.process o first;
    refuses = λ context bytes word r at. quiet (accept_connect_port context bytes false word) (refuse_steps by r) (λ e. refl) refl;
    accepts = λ context bytes word offer r views is. quiet (accept_connect_port context bytes true word) (accept_steps by context (free_handle w by.process) r views) (λ e. refl) (accept-known m memo w by context (free_handle w by.process) r views);
    completes = λ handle r at. quiet (complete_connect_port handle) (complete_steps by (free_handle w r.wait.process) r) (λ e. refl) refl;
    sends = λ handle bytes s at.
        quiet (request_port handle bytes) (datagram_steps by s.port s.queue (sent_by by DATAGRAM s.message) w) (λ e. refl)
        (sent-known m w by memo (datagram_start by) (row_of s.queue s.port (sent_by by DATAGRAM s.message)) (datagram-sent m c u w by s.port s.queue s.message k) by_in);
    asks = λ handle bytes s at.
        let b : Message = sent_by by REQUEST s.message in
        quiet (request_wait_reply_port handle bytes) (request_steps by s.port s.queue b w) (λ e. refl)
        (sent-known m w by memo (request_start by s.port.birth s.queue b) (row_of s.queue s.port b) (request-sent m c u w by s.port s.queue s.message k) by_in);
    replies = λ handle bytes p b x at read fits. quiet (reply_port handle bytes) (reply_steps by x b) (λ e. refl) (reply-cases (λ r. are_known m memo w (r ∷ []) ≡ true) x b refl refl (λ _. refl));
    receives = λ handle bytes b p q replied o is first.
        let r = receivable m c u w by handle bytes b p q replied k is in
        replied-as (λ rs. Notes (reply_wait_receive_port handle bytes) (receive_steps by p q rs o)) w p b replied r.replies
        (λ none. receives handle bytes b p q replied [] r no-reply o first)
        (λ e x some at. receives handle bytes b p q replied (reply x e ∷ []) r (one-reply x e) o first);
    closes = λ handle r at. quiet (close handle) (close_steps by r w) (λ e. refl) (mild-known m memo w (close_handle by.process r w) (handle-mild w by.process r));
    makes_section = λ size prot. quiet (create_section size prot) (section_steps by size prot (free_handle w by.process)) (λ e. refl) refl;
    impersonates = λ handle bytes own is. quiet (impersonate_client_of_port handle bytes) (impersonate_steps by own) (λ e. refl) refl;
    opens_own = λ own is. quiet open_thread_token (token_steps by NtOpenThreadToken (held_content own) (free_handle w by.process)) (λ e. refl) refl;
    opens_primary = quiet open_process_token (token_steps by NtOpenProcessToken (process_content w by) (free_handle w by.process)) (λ e. refl) refl;
    sets = λ target class handle pid port at found live. quiet (set_information_process target class handle) (set_port_steps by class pid port.birth) (λ e. refl) (set-passes (λ bs. are_known m memo w bs ≡ true) by class pid port.birth refl refl);
    handles = λ code handled. quiet (raise code handled) (raise_steps by code handled Handled w) (λ e. refl) refl;
    hears = λ code handled h is. quiet (raise code handled) (raise_steps by code handled (Sends h) w) (λ e. refl) (sent-known m w by memo (raise_told by ∷ event_begun by code handled h) (event_row by code h) (event-sent m c u w by code handled h k) by_in);
    fails = λ code handled. quiet (raise code handled) (raise_steps by code handled Unhandled w) (λ e. refl) refl;
    tames = any-tame (λ call name fields bs tame t. quiet call (Tells (entry.Answer by.number name SUCCESS fields) ∷ bs) (λ e. tame-unnoted m (view m w) by call e memo tame) (knows m memo w by w bs t));
    ends = λ call name own pid code ts doomed.
        let known : are_known m memo w (end_threads pid code ts w) ≡ true = mild-known m memo w (end_threads pid code ts w) (ends-mild pid code ts w) in
        let off : (e : Entry) → call_memo m (view m w) by (end_call call) e memo ≡ memo = λ e. ends-unnoted m (view m w) by call e memo in
        ended (Notes (end_call call)) by name own pid code ts w (λ _. quiet (end_call call) (end_threads pid code ts w) off known) (λ _. quiet (end_call call) (Tells (entry.Answer by.number name SUCCESS []) ∷ end_threads pid code ts w) off known);
  }
