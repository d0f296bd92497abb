-- Each call tells its caller first, adds no thread, and begins no wait of a thread that it woke.
use Rattle.lpc_model.specs.Raise.{event_begun, raise_told}
use Rattle.lpc_model.proofs.Calls.Raising.{set-passes}
use Rattle.lpc_isolation.proofs.Each.Raises.{event_row}
use Rattle.lpc_model.proofs.Sound.Reply.{reply-cases}
use Rattle.lpc_tokens.specs.declared.security.Security.TheVariants.{Allows}
use Rattle.lpc_model.specs.Tests.{next_birth}
use Rattle.lpc_model.specs.declared.entry.Entry.TheVariants as entry
use Rattle.std.proofs.Common.{◌≡◌, ℕ, List, [], ◌∷◌, ◌++◌, Bool, true, false, Option, Some, None, refl, arith}
use Rattle.std.specs.Prelude.{◌==◌}
use Rattle.lpc_base.specs.Rows.{first, given}
use Rattle.lpc_base.specs.declared.status.TheConstants.{SUCCESS}
use Rattle.lpc_base.proofs.Bools.{number-turned, same-number, first-true}
use Rattle.lpc_message.specs.declared.kind.TheConstants.{DATAGRAM, REQUEST}
use Rattle.lpc_model.specs.declared.message.Message.{Message}
use Rattle.lpc_model.specs.Message.{asks}
use Rattle.lpc_model.specs.World.{Accepted, Birth, Connect, Listen, MessageRow, PortRow, Receive, Request, ThreadRow, WaitKind, WaitRow, World, ViewRow, Security, Event}
use Rattle.lpc_model.specs.Found.{fits, wait_of, waits_as, acting_token, free_handle}
use Rattle.lpc_model.specs.Basics.{Basic, world_after, Wakes, Tells, Secures}
use Rattle.lpc_model.specs.Entering.{enter, given_steps, row_of, shown, take_connect_steps, take_steps, takes, woken}
use Rattle.lpc_model.specs.Connect.{client_port, connect_start, connection_request, listen_steps, create_steps, named_steps}
use Rattle.lpc_model.specs.Request.{datagram_start, request_start, receive_steps, reply, sent_by}
use Rattle.lpc_model.specs.Circle.{Group}
use Rattle.lpc_isolation.proofs.Each.Reply.{answered-fit}
use Rattle.lpc_isolation.proofs.Each.Sends.{Caller}
use Rattle.lpc_isolation.proofs.Each.Receive.{replied-as}
use Rattle.lpc_isolation.proofs.Calls.Serves.{is_call_of, is_orderly, tells_own, is_calm, adds_none}
use Rattle.lpc_isolation.proofs.Calls.Deeds.{AreTame, Deeds, gives, more, none, numbers, registers, any-tame, maps, unmaps, writes, acts, guarded}
use Rattle.lpc_isolation.proofs.Calls.Doomed.{doomed-heads, ended, heads_own}
use Rattle.lpc_isolation.proofs.Closings.Mild.{AreMild, mild-orderly}
use Rattle.lpc_isolation.proofs.Each.Closes.{handle-mild}
use Rattle.lpc_isolation.proofs.Endings.Threads.{ends-mild}
use Rattle.lpc_model.specs.Close.{close_handle}
use Rattle.lpc_model.specs.Death.{end_threads}
use Rattle.lpc_base.specs.declared.status.Status.{Status}
use Rattle.lpc_base.proofs.Bools.{second-true}
use Rattle.std.proofs.lemmas.Bool.{and_from}
use Rattle.lpc_model.specs.Offers.{SharedViews, mapped, shared_steps, server_views}
use Rattle.lpc_base.proofs.RowWords.{every-append}
use Rattle.lpc_model.proofs.Calls.Sharing.{mapped-pass}

given-orderly : (x : MessageRow) (y : WaitRow) (k : WaitKind) (asked : Bool) → y.kind ≡ k → asks x.message ≡ asked → is_orderly (given_steps y x ++ woken SUCCESS (shown y x) y ∷ []) ≡ true
given-orderly x y (Request a) true k asked = rw (k, asked) refl
given-orderly x y (Request a) false k asked = rw (k, asked) refl
given-orderly x y (Event e) true k asked = rw (k, asked) refl
given-orderly x y (Event e) false k asked = rw (k, asked) refl
given-orderly x y Receive true k asked = rw (k, asked) refl
given-orderly x y Receive false k asked = rw (k, asked) refl
given-orderly x y Listen true k asked = rw (k, asked) refl
given-orderly x y Listen false k asked = rw (k, asked) refl
given-orderly x y (Connect a offer) true k asked = rw (k, asked) refl
given-orderly x y (Connect a offer) false k asked = rw (k, asked) refl
given-orderly x y (Accepted a r) true k asked = rw (k, asked) refl
given-orderly x y (Accepted a r) false k asked = rw (k, asked) refl

entered-orderly : (x : MessageRow) (o : Option WaitRow) → is_orderly (given o (λ y. given_steps y x ++ woken SUCCESS (shown y x) y ∷ [])) ≡ true
entered-orderly x None = refl
entered-orderly x (Some y) = given-orderly x y y.kind (asks x.message) refl refl

pub enter-orderly : (w : World) (x : MessageRow) → is_orderly (enter x w) ≡ true
enter-orderly w x = entered-orderly x (first (takes x) w.waits)

take-orderly : (x : MessageRow) (asked : Bool) → asks x.message ≡ asked → (is_orderly (take_steps x) ≡ true) × (is_orderly (take_connect_steps x) ≡ true)
take-orderly x true asked = (rw asked refl, rw asked refl)
take-orderly x false asked = (rw asked refl, rw asked refl)

listen-orderly : (w : World) (by : ThreadRow) (port : Birth) (o : Option MessageRow) → is_call_of w by.number (listen_steps by port o) ≡ true
listen-orderly w by port None = rw (same-number by.number) refl
listen-orderly w by port (Some x) = rw (same-number by.number) (take-orderly x (asks x.message) refl).1

-- no one who waits is the caller, who doesn't
pub other-thread : (w : World) (tid : ℕ) (p : WaitRow → Bool) (y : WaitRow) → wait_of w tid ≡ None → first p w.waits ≡ Some y → (tid == y.thread) ≡ false
other-thread w tid p y idle at = by-rows w.waits idle at
  where
    by-rows : (xs : List WaitRow) → first (waits_as tid) xs ≡ None → first p xs ≡ Some y → (tid == y.thread) ≡ false
    by-rows [] alone at = absurd (cc)
    by-rows (x ∷ xs) alone at = grind (arith, by-rows xs, number-turned x.thread tid)

received-orderly : (w : World) (by : ThreadRow) (p : PortRow) (q : Birth) (o : Option MessageRow) → is_call_of w by.number (receive_steps by p q [] o) ≡ true
received-orderly w by p q None = rw (same-number by.number) refl
received-orderly w by p q (Some x) = rw (same-number by.number) (take-orderly x (asks x.message) refl).0

replied-orderly : (w : World) (by : ThreadRow) (p : PortRow) (q : Birth) (y : WaitRow) (b : Message) (o : Option MessageRow) (asked : Bool) → (by.number == y.thread) ≡ false → ((x : MessageRow) → o ≡ Some x → asks x.message ≡ asked) → is_call_of w by.number (receive_steps by p q (reply y b ∷ []) o) ≡ true
replied-orderly w by p q y b None asked other some = reply-cases (λ r. is_call_of w by.number (receive_steps by p q (r ∷ []) None) ≡ true) y b (rw (same-number by.number, other) refl) (rw (same-number by.number, other) refl) (λ _. rw (same-number by.number) refl)
replied-orderly w by p q y b (Some x) true other some = reply-cases (λ r. is_call_of w by.number (receive_steps by p q (r ∷ []) (Some x)) ≡ true) y b (rw (same-number by.number, some x refl) refl) (rw (same-number by.number, some x refl) refl) (λ _. rw (same-number by.number, some x refl) refl)
replied-orderly w by p q y b (Some x) false other some = reply-cases (λ r. is_call_of w by.number (receive_steps by p q (r ∷ []) (Some x)) ≡ true) y b (rw (same-number by.number, some x refl) refl) (rw (same-number by.number, some x refl) refl) (λ _. rw (same-number by.number, some x refl) refl)

abbrev asked-by : Option MessageRow → Bool
asked-by None = false
asked-by (Some x) = asks x.message

asked-is : (o : Option MessageRow) (x : MessageRow) → o ≡ Some x → asks x.message ≡ asked-by o
asked-is o x is = rw is refl

-- tame steps
tame-orderly : (w : World) (by : ThreadRow) (bs : List Basic) → AreTame w by bs → is_orderly bs ≡ true
tame-orderly w by [] none = refl
tame-orderly w by (b ∷ bs) (more (gives h r value at same) t) = tame-orderly w by bs t
tame-orderly w by (b ∷ bs) (more (registers p value at) t) = tame-orderly w by bs t
tame-orderly w by (b ∷ bs) (more numbers t) = tame-orderly w by bs t
tame-orderly w by (b ∷ bs) (more (maps v s rights value at section owner) t) = tame-orderly w by bs t
tame-orderly w by (b ∷ bs) (more (unmaps base) t) = tame-orderly w by bs t
tame-orderly w by (b ∷ bs) (more (writes s place new) t) = tame-orderly w by bs t
tame-orderly w by (b ∷ bs) (more (acts other) t) = tame-orderly w by bs t

-- its first step ends a thread of the caller's process
abbrev starts : World → ℕ → List Basic → Bool
starts w tid [] = false
starts w tid (b ∷ bs) = tells_own w tid b

mild-call : (w : World) (tid : ℕ) (bs : List Basic) → AreMild bs → starts w tid bs ≡ true → is_call_of w tid bs ≡ true
mild-call w tid [] mild is = absurd (cc)
mild-call w tid (b ∷ bs) mild is = and_from _ _ is (mild-orderly bs (second-true _ _ mild))

ends-orderly : (w : World) (pid tid : ℕ) (code : Status) (ts : List ThreadRow) → heads_own w tid ts ≡ true → is_call_of w tid (end_threads pid code ts w) ≡ true
unfolding end_threads
ends-orderly w pid tid code [] own = absurd (cc)
ends-orderly w pid tid code (t ∷ ts) own = mild-call w tid (end_threads pid code (t ∷ ts) w) (ends-mild pid code (t ∷ ts) w) own

-- views that are mapped behind
orderly-mapped : (bs : List Basic) (pid : ℕ) (o : Option ViewRow) → is_orderly bs ≡ true → is_orderly (bs ++ mapped pid o) ≡ true
orderly-mapped [] pid None is = refl
orderly-mapped [] pid (Some v) is = refl
orderly-mapped (Wakes who call status fields ∷ bs) pid o is =
    and_from _ _ (every-append (is_calm who) bs (mapped pid o) (first-true _ _ is) (mapped-pass (is_calm who) pid (λ _. refl) o)) (orderly-mapped bs pid o (second-true _ _ is))
orderly-mapped (Tells (entry.Wakes who call status fields) ∷ bs) pid o is = absurd (cc)
orderly-mapped (b ∷ bs) pid o is =
    and_from (adds_none b) (is_orderly (bs ++ mapped pid o)) (first-true (adds_none b) (is_orderly bs) is) (orderly-mapped bs pid o (second-true (adds_none b) (is_orderly bs) is))

orderly-secured : (bs : List Basic) (b : Birth) (s : Security) → is_orderly bs ≡ true → is_orderly (bs ++ Secures b s ∷ []) ≡ true
orderly-secured [] b s is = refl
orderly-secured (Wakes who call status fields ∷ bs) b s is =
    and_from _ _ (every-append (is_calm who) bs (Secures b s ∷ []) (first-true _ _ is) refl) (orderly-secured bs b s (second-true _ _ is))
orderly-secured (Tells (entry.Wakes who call status fields) ∷ bs) b s is = absurd (cc)
orderly-secured (d ∷ bs) b s is =
    and_from (adds_none d) (is_orderly (bs ++ Secures b s ∷ [])) (first-true (adds_none d) (is_orderly bs) is) (orderly-secured bs b s (second-true (adds_none d) (is_orderly bs) is))

shared-orderly : (by : ThreadRow) (x : WaitRow) (views : SharedViews) → is_orderly (shared_steps by x views) ≡ true
shared-orderly by x views =
    orderly-mapped (server_views by views.own views.theirs) x.process views.across
    (orderly-mapped (mapped by.process views.own) by.process views.theirs (orderly-mapped [] by.process views.own refl))

-- Each deed
pub orderly-deeds : (m : Group) (c : ℕ) (u w : World) (by : ThreadRow) → Caller m c u w by → Deeds w by (λ _ bs. is_call_of w by.number bs ≡ true)
orderly-deeds m c u w by k = record {
  creates = λ _. rw (same-number by.number) refl;
  founds = λ name dacl path free. guarded (λ bs. is_call_of w by.number (create_steps by (named_steps (next_birth by) path) (free_handle w by.process) ++ bs) ≡ true) (next_birth by) name dacl (rw (same-number by.number) refl) (λ s. rw (same-number by.number) refl);
  connects = λ name quality word bytes offer own q is.
      let v : World = world_after w (connect_start by q offer own (connection_request by offer bytes)) in
      let row = row_of q (client_port by q) (connection_request by offer bytes) in
      rw (same-number by.number) (orderly-secured (enter row v ++ mapped by.process own) (next_birth by) (Allows quality (acting_token w by)) (orderly-mapped (enter row v) by.process own (enter-orderly v row)));
  listens = λ handle p o at first. listen-orderly w by p.birth o;
  refuses = λ context bytes word a at. rw (same-number by.number) refl;
  accepts = λ context bytes word offer a views is. rw (same-number by.number) (shared-orderly by a.wait views);
  completes = λ handle r at. rw (same-number by.number) refl;
  sends = λ handle bytes s at. rw (same-number by.number) (enter-orderly (world_after w (datagram_start by)) (row_of s.queue s.port (sent_by by DATAGRAM s.message)));
  asks = λ handle bytes s at. rw (same-number by.number) (enter-orderly (world_after w (request_start by s.port.birth s.queue (sent_by by REQUEST s.message))) (row_of s.queue s.port (sent_by by REQUEST s.message)));
  replies = λ handle bytes p b x at read fits. rw (same-number by.number) (reply-cases (λ r. is_orderly (r ∷ []) ≡ true) x b refl refl (λ _. refl));
  receives = λ handle bytes a p q replied o is first.
      replied-as (λ rs. is_call_of w by.number (receive_steps by p q rs o) ≡ true) w p a replied is.reply_made
      (λ none. received-orderly w by p q o)
      (λ b y some at. replied-orderly w by p q y b o (asked-by o) (other-thread w by.number (fits w p.birth b) y k.idle (answered-fit w p b y at)) (λ x there. asked-is o x there));
  closes = λ handle r at. and_from _ _ (and_from _ _ (same-number by.number) refl) (mild-orderly (close_handle by.process r w) (handle-mild w by.process r));
  makes_section = λ size prot. rw (same-number by.number) refl;
  impersonates = λ handle bytes own is. rw (same-number by.number) refl;
  opens_own = λ own is. rw (same-number by.number) refl;
  opens_primary = rw (same-number by.number) refl;
  sets = λ target class handle pid port at found live. set-passes (λ bs. is_call_of w by.number bs ≡ true) by class pid port.birth (rw (same-number by.number) refl) (rw (same-number by.number) refl);
  handles = λ code handled. rw (same-number by.number) refl;
  hears = λ code handled h is. rw (same-number by.number) (enter-orderly (world_after w (raise_told by ∷ event_begun by code handled h)) (event_row by code h));
  fails = λ code handled. rw (k.own, same-number by.process) refl;
  tames = any-tame (λ call name fields bs tame t. rw (same-number by.number) (tame-orderly w by bs t));
  ends = λ call name own pid code ts doomed. ended (λ bs. is_call_of w by.number bs ≡ true) by name own pid code ts w
      (λ mine. ends-orderly w pid by.number code ts (doomed-heads m c w by own pid ts k.fair k.live k.own doomed mine))
      (λ _. and_from _ _ (and_from _ _ (same-number by.number) refl) (mild-orderly (end_threads pid code ts w) (ends-mild pid code ts w)));
}
