-- Each call keeps it that a queued message that asks is its thread's own.
use Rattle.lpc_model.proofs.Sound.Reply.{reply-cases}
use Rattle.lpc_model.specs.Raise.{Handled, Heard, Unhandled, event_begun, event_wait, raise_steps, raise_told, set_port_steps}
use Rattle.lpc_model.proofs.Calls.Raising.{set-passes}
use Rattle.lpc_isolation.proofs.Each.Raises.{event_row, event-sort}
use Rattle.lpc_model.specs.declared.entry.CallName.TheVariants.{NtOpenThreadToken, NtOpenProcessToken}
use Rattle.lpc_model.specs.Impersonation.{impersonate_steps, token_steps, held_content, process_content}
use Rattle.lpc_model.specs.Memory.{section_steps}
use Rattle.lpc_isolation.proofs.Views.Seen.{handle-own}
use Rattle.lpc_isolation.proofs.Calls.Doomed.{doomed-part, ended, steady}
use Rattle.lpc_isolation.proofs.Calls.Deeds.{AreTame, Deeds, gives, more, none, numbers, registers, any-tame, maps, unmaps, writes, acts, guarded}
use Rattle.lpc_isolation.proofs.Each.Closes.{caller-sure, handle-good}
use Rattle.lpc_base.proofs.RowWords.{every-push}
use Rattle.lpc_base.proofs.RowWords.{first-passes}
use Rattle.lpc_base.specs.Rows.{every, first, has}
use Rattle.lpc_isolation.proofs.Each.Accepts.{found-answer}
use Rattle.lpc_isolation.proofs.Each.Connects.{row, starting, steps_of}
use Rattle.lpc_isolation.proofs.Each.Sends.{Caller}
use Rattle.lpc_model.specs.Circle.{Group}
use Rattle.lpc_message.specs.declared.kind.TheConstants.{DATAGRAM, REQUEST}
use Rattle.lpc_model.specs.Basics.{Awaits, Basic, world_after, basic, Secures}
use Rattle.lpc_model.specs.Connect.{listen_steps, answer_test, accept_steps, complete_steps, refuse_steps, connect_steps, create_steps, named_steps, unnamed_steps, accept_start, allow_steps}
use Rattle.lpc_model.specs.Connect.{names_connect}
use Rattle.lpc_model.specs.Entering.{enter, row_of, take_steps, takes}
use Rattle.lpc_model.specs.Found.{same_birth, free_handle, is_mark}
use Rattle.lpc_model.specs.Found.{is_queued, is_queued_connect, waits_as}
use Rattle.lpc_model.specs.Request.{reply_test, datagram_start, receive_steps, receive_wait, request_start, sent_by, reply_steps, datagram_steps, request_steps}
use Rattle.lpc_model.specs.Request.{request_wait}
use Rattle.lpc_model.specs.Tests.{next_birth}
use Rattle.lpc_model.specs.World.{Accepted, Birth, Connect, Listen, MessageRow, PortRow, Receive, Request, ThreadRow, WaitKind, WaitRow, World, ViewRow, Event}
use Rattle.lpc_model.specs.declared.message.Message.{Message}
use Rattle.std.proofs.Common.{◌≡◌, ◌≤◌, ℕ, List, [], ◌∷◌, ◌++◌, true, false, not, Option, Some, None, refl, sym, subst, arith, ◌∙◌}
use Rattle.std.proofs.lemmas.Bool.{and_from}
use Rattle.std.specs.Prelude.{◌&&◌, ◌||◌, Ok}
use Rattle.lpc_base.specs.Rows.{count}
use Rattle.lpc_model.specs.Request.{reply, request_start}
use Rattle.lpc_model.specs.Found.{fits, is_listen, is_receive}
use Rattle.lpc_model.specs.Connect.{is_accepted_on}
use Rattle.lpc_model.specs.Found.{wait_of}
use Rattle.lpc_base.proofs.RowWords.{has-push}
use Rattle.lpc_base.proofs.Bools.{first-true, same-number}
use Rattle.lpc_base.proofs.Births.{birth-same, birth-self}
use Rattle.lpc_model.specs.Connect.{ConnectAnswer, connect_wait, connection_request, listen_steps, names_connect}
use Rattle.lpc_model.proofs.Sound.Basics.{once-awaits}
use Rattle.lpc_isolation.proofs.Each.Enter.{is_patient}
use Rattle.lpc_isolation.proofs.Each.Completes.{found-completion}
use Rattle.lpc_isolation.proofs.Each.Receive.{replied-as}
use Rattle.lpc_isolation.proofs.Each.Reply.{answered-fit, reply-messages}
use Rattle.lpc_isolation.proofs.Rows.Asked.{Asked, is_sort, append-asked, are_asked, asks_of, enter-asked, idle-quiet, is_own, is_quiet, is_settled, run-asked, sender_of, settled-quiet, take-asked, take_connect-asked, basic-asked}
use Rattle.lpc_model.specs.Offers.{SharedViews, mapped, shared_steps, server_views}

abbrev AskedBy : World → List Basic → Type 0
AskedBy w bs = are_asked w bs ≡ true

-- what a call sends, and the wait that it begins
sends-asked : (m : Group) (c : ℕ) (w : World) (by : ThreadRow) (start : List Basic) (x : WaitRow) (y : MessageRow) → Asked w → Caller m c w w by → are_asked w start ≡ true → (world_after w start).messages ≡ w.messages → (world_after w start).waits ≡ w.waits ++ x ∷ [] → (world_after w start).marks ≡ w.marks → x.thread ≡ by.number → is_patient w x ≡ true → sender_of y ≡ by.number → is_own y x ≡ true → is_sort y ≡ true
    → are_asked w (start ++ enter y (world_after w start)) ≡ true
sends-asked m c w by start x y a k begins messages waits marks mine patient sender own sort =
    let v : World = world_after w start in
    let quiet : is_quiet v.messages (sender_of y) ≡ true = rw (messages, sender) (idle-quiet w by.number a k.idle) in
    let there : has (is_own y) v.waits ≡ true = rw waits (has-push (is_own y) w.waits x own) in
    let unmarked : has (is_mark (sender_of y)) v.marks ≡ false = subst (λ ms. has (is_mark (sender_of y)) ms ≡ false) (sym (marks ∙ k.unmarked)) refl in
    append-asked w start (enter y v) begins
    (enter-asked v y (run-asked w start begins a)
    (subst (λ ms. every (λ z. not (is_receive z || is_listen z) || not (has (λ t. takes t z) ms)) v.waits ≡ true) (sym messages) (subst (λ ws. every (is_patient w) ws ≡ true) (sym waits) (every-push (is_patient w) w.waits x k.patient patient)))
    (λ tid. subst (λ ws. count (waits_as tid) ws ≤ 1) (sym waits) (once-awaits w x (subst (λ n. wait_of w n ≡ None) (sym mine) k.idle) k.once tid))
    (and_from _ _ sort (rw (quiet, there, unmarked) (grind arith))))

listened-asked : (w : World) (by : ThreadRow) (port : Birth) (o : Option MessageRow) → first (is_queued_connect port) w.messages ≡ o → Asked w → are_asked w (listen_steps by port o) ≡ true
listened-asked w by port None at a = refl
listened-asked w by port (Some y) at a =
    let same : y.queue ≡ port = birth-same y.queue port (first-true _ _ (first-passes (is_queued_connect port) w.messages y at)) in
    take_connect-asked w y a.one (subst (λ q. first (is_queued_connect q) w.messages ≡ Some y) (sym same) at)

accepted-settled : (client : Birth) (x : WaitRow) (sort : WaitKind) → x.kind ≡ sort → is_accepted_on client x ≡ true → is_settled x ≡ true
accepted-settled client x (Request b) k is = let off : (false && same_birth x.port client) ≡ true = rw k at is in absurd (cc)
accepted-settled client x (Event e) k is = let off : (false && same_birth x.port client) ≡ true = rw k at is in absurd (cc)
accepted-settled client x (Connect b offer) k is = let off : (false && same_birth x.port client) ≡ true = rw k at is in absurd (cc)
accepted-settled client x (Accepted b r) k is = rw k (grind arith)
accepted-settled client x Receive k is = rw k (grind arith)
accepted-settled client x Listen k is = rw k (grind arith)

fit-quiet : (m : Group) (c : ℕ) (w : World) (by : ThreadRow) (p : PortRow) (b : Message) (x : WaitRow) → Asked w → Caller m c w w by → reply_test w p b ≡ Ok x → is_quiet w.messages x.thread ≡ true
fit-quiet m c w by p b x a k at =
    let found = answered-fit w p b x at in
    let fit = first-passes (fits w p.birth b) w.waits x found in
    settled-quiet w (fits w p.birth b) x a (k.once x.thread) found (grind arith)

abbrev received_rest : ThreadRow → PortRow → Birth → Option MessageRow → List Basic
received_rest by p q (Some y) = take_steps y
received_rest by p q None = Awaits (receive_wait by p.birth q) ∷ []

taken-asked : (w v : World) (by : ThreadRow) (p : PortRow) (q : Birth) (o : Option MessageRow) → first (is_queued q) w.messages ≡ o → v.messages ≡ w.messages → Asked w → are_asked v (received_rest by p q o) ≡ true
taken-asked w v by p q None at same a = refl
taken-asked w v by p q (Some y) at same a =
    let queue : y.queue ≡ q = birth-same y.queue q (first-passes (is_queued q) w.messages y at) in
    take-asked v y (λ who. subst (λ ms. count (asks_of who) ms ≤ 1) (sym same) (a.one who)) (subst (λ ms. first (is_queued y.queue) ms ≡ Some y) (sym same) (subst (λ q. first (is_queued q) w.messages ≡ Some y) (sym queue) at))

receive-parts : (w : World) (by : ThreadRow) (p : PortRow) (q : Birth) (rs : List Basic) (o : Option MessageRow) → are_asked w rs ≡ true → are_asked (world_after w rs) (received_rest by p q o) ≡ true → are_asked w (receive_steps by p q rs o) ≡ true
receive-parts w by p q rs None one two = append-asked w rs (Awaits (receive_wait by p.birth q) ∷ []) one two
receive-parts w by p q rs (Some y) one two = append-asked w rs (take_steps y) one two

-- of tame steps
keeps-asked : (w : World) (by : ThreadRow) (v : World) (bs : List Basic) → AreTame w by bs → Asked v → Asked (world_after v bs)
keeps-asked w by v [] none a = a
keeps-asked w by v (b ∷ bs) (more (gives h r value at same) t) a = keeps-asked w by (basic v b) bs t (basic-asked v b refl a)
keeps-asked w by v (b ∷ bs) (more (registers p value at) t) a = keeps-asked w by (basic v b) bs t (basic-asked v b refl a)
keeps-asked w by v (b ∷ bs) (more numbers t) a = keeps-asked w by (basic v b) bs t (basic-asked v b refl a)
keeps-asked w by v (b ∷ bs) (more (maps x s rights value at section owner) t) a = keeps-asked w by (basic v b) bs t (basic-asked v b refl a)
keeps-asked w by v (b ∷ bs) (more (unmaps base) t) a = keeps-asked w by (basic v b) bs t (basic-asked v b refl a)
keeps-asked w by v (b ∷ bs) (more (writes s place new) t) a = keeps-asked w by (basic v b) bs t (basic-asked v b refl a)
keeps-asked w by v (b ∷ bs) (more (acts other) t) a = keeps-asked w by (basic v b) bs t (basic-asked v b refl a)

mapped-asked : (w : World) (pid : ℕ) (o : Option ViewRow) → are_asked w (mapped pid o) ≡ true
mapped-asked w pid None = refl
mapped-asked w pid (Some v) = refl

shared-asked : (w : World) (by : ThreadRow) (x : WaitRow) (views : SharedViews) → are_asked w (shared_steps by x views) ≡ true
shared-asked w by x views =
    append-asked w (server_views by views.own views.theirs) (mapped x.process views.across)
    (append-asked w (mapped by.process views.own) (mapped by.process views.theirs) (mapped-asked w by.process views.own) (mapped-asked _ by.process views.theirs))
    (mapped-asked _ x.process views.across)

-- Each deed
pub asked-deeds : (m : Group) (c : ℕ) (w : World) (by : ThreadRow) → Asked w → Caller m c w w by → Deeds w by (λ _ bs. Asked (world_after w bs))
asked-deeds m c w by a k = record {
  creates = λ _. after (create_steps by (unnamed_steps (next_birth by)) (free_handle w by.process)) refl;
  founds = λ name dacl path free. guarded (λ bs. Asked (world_after w (create_steps by (named_steps (next_birth by) path) (free_handle w by.process) ++ bs))) (next_birth by) name dacl (after (create_steps by (named_steps (next_birth by) path) (free_handle w by.process)) refl) (λ s. after (create_steps by (named_steps (next_birth by) path) (free_handle w by.process) ++ Secures (next_birth by) s ∷ []) refl);
  connects = λ name quality word bytes offer own q is.
      after (connect_steps by q offer own (connection_request by offer bytes) w ++ allow_steps w by quality) (append-asked w (steps_of w by q offer own bytes) (allow_steps w by quality) (append-asked w (starting by q offer own bytes ++ enter (row by q offer own bytes) (world_after w (starting by q offer own bytes))) (mapped by.process own) (sends-asked m c w by (starting by q offer own bytes) (connect_wait by q offer (connection_request by offer bytes)) (row by q offer own bytes) a k refl refl refl refl refl refl refl
      (and_from _ _ (same-number by.number) (and_from _ _ (birth-self q) refl)) refl) (mapped-asked _ by.process own)) refl);
  listens = λ handle p o at first. after (listen_steps by p.birth o) (listened-asked w by p.birth o first a);
  refuses = λ context bytes word r at. after (refuse_steps by r) (rw (quiet bytes r at) refl);
  accepts = λ context bytes word offer r views is. after (accept_steps by context (free_handle w by.process) r views) (append-asked w (accept_start by context (free_handle w by.process) r views) (shared_steps by r.wait views) (rw (quiet bytes r is.answered) refl) (shared-asked _ by r.wait views));
  completes = λ handle r at.
      let is = found-completion m c w w by handle r k at in
      after (complete_steps by (free_handle w r.wait.process) r) (rw (settled-quiet w (is_accepted_on r.client) r.wait a (k.once r.wait.thread) is.found (accepted-settled r.client r.wait r.wait.kind refl (first-passes (is_accepted_on r.client) w.waits r.wait is.found))) refl);
  sends = λ handle bytes s at.
      let y = row_of s.queue s.port (sent_by by DATAGRAM s.message) in
      let v : World = world_after w (datagram_start by) in
      after (datagram_steps by s.port s.queue (sent_by by DATAGRAM s.message) w) (append-asked w (datagram_start by) (enter y v) refl (enter-asked v y (run-asked w (datagram_start by) refl a) k.patient k.once refl));
  asks = λ handle bytes s at.
      let b : Message = sent_by by REQUEST s.message in
      after (request_steps by s.port s.queue b w) (sends-asked m c w by (request_start by s.port.birth s.queue b) (request_wait by s.port.birth s.queue b) (row_of s.queue s.port b) a k refl refl refl refl refl refl refl
      (and_from _ _ (same-number by.number) (and_from _ _ (birth-self s.queue) refl)) refl);
  replies = λ handle bytes p b x at read fits. after (reply_steps by x b) (reply-cases (λ r. are_asked w (r ∷ []) ≡ true) x b (rw (fit-quiet m c w by p b x a k fits) refl) (rw (fit-quiet m c w by p b x a k fits) refl) (λ _. rw (fit-quiet m c w by p b x a k fits) refl));
  receives = λ handle bytes b p q replied o is first.
      replied-as (λ rs. Asked (world_after w (receive_steps by p q rs o))) w p b replied is.reply_made
      (λ none. after (receive_steps by p q [] o) (receive-parts w by p q [] o refl (taken-asked w w by p q o first refl a)))
      (λ d x some at. after (receive_steps by p q (reply x d ∷ []) o) (receive-parts w by p q (reply x d ∷ []) o (reply-cases (λ r. are_asked w (r ∷ []) ≡ true) x d (rw (fit-quiet m c w by p d x a k at) refl) (rw (fit-quiet m c w by p d x a k at) refl) (λ _. rw (fit-quiet m c w by p d x a k at) refl)) (taken-asked w (world_after w (reply x d ∷ [])) by p q o first (reply-messages w x d) a)));
  closes = λ handle r at. let g = handle-good m c by.process r (handle-own m c w by.process handle r k.fair at) in g.asked w w (caller-sure m c w w by k);
  makes_section = λ size prot. after (section_steps by size prot (free_handle w by.process)) refl;
  impersonates = λ handle bytes own is. after (impersonate_steps by own) refl;
  opens_own = λ own is. after (token_steps by NtOpenThreadToken (held_content own) (free_handle w by.process)) refl;
  opens_primary = after (token_steps by NtOpenProcessToken (process_content w by) (free_handle w by.process)) refl;
  sets = λ target class handle pid port at found live. after (set_port_steps by class pid port.birth) (set-passes (λ bs. are_asked w bs ≡ true) by class pid port.birth refl refl);
  handles = λ code handled. after (raise_steps by code handled Handled w) refl;
  hears = λ code handled h is.
      after (raise_steps by code handled (Heard h) w) (sends-asked m c w by (raise_told by ∷ event_begun by code handled h) (event_wait by code handled h) (event_row by code h) a k refl refl refl refl refl refl refl
      (and_from _ _ (same-number by.number) (and_from _ _ (birth-self h.queue) refl)) (event-sort by code h));
  fails = λ code handled. after (raise_steps by code handled Unhandled w) refl;
  tames = any-tame (λ call name fields bs tame t. keeps-asked w by w bs t a);
  ends = λ call name own pid code ts doomed.
      let p = doomed-part m c w w by own pid code ts k doomed in
      let is = p.asked w (steady m c w w by k) in ended (λ bs. Asked (world_after w bs)) by name own pid code ts w (λ _. is) (λ _. is);
}
  where
    after : (bs : List Basic) → AskedBy w bs → Asked (world_after w bs)
    after bs is = run-asked w bs is a

    quiet : (bytes : List ℕ) (r : ConnectAnswer) → answer_test w by bytes ≡ Ok r → is_quiet w.messages r.wait.thread ≡ true
    quiet bytes r at =
        let is = found-answer m c w w by bytes r k at in
        let named = first-passes (names_connect w by r.message) w.waits r.wait is.found in
        settled-quiet w (names_connect w by r.message) r.wait a (k.once r.wait.thread) is.found (grind arith)
