-- The rows that a call adds are as fine as the circle's, though they go at the end of its line.
use Rattle.lpc_isolation.proofs.Gone.Restful.{is_restful, run-settled, then-restful}
use Rattle.lpc_model.specs.Raise.{raise_told, event_begun}
use Rattle.lpc_model.proofs.Calls.Raising.{set-passes}
use Rattle.lpc_isolation.proofs.Each.Raises.{event_row}
use Rattle.lpc_model.proofs.Sound.Reply.{reply-cases}
use Rattle.lpc_base.proofs.Births.{birth-same, birth-self}
use Rattle.lpc_base.proofs.Bools.{first-true, same-number, second-true}
use Rattle.lpc_base.proofs.RowWords.{every-append, every-more, has-change, has-off, has-push}
use Rattle.lpc_base.specs.Rows.{change, every, first, given, has, which, without}
use Rattle.lpc_base.specs.declared.status.TheConstants.{SUCCESS}
use Rattle.lpc_tokens.specs.declared.security.Security.TheVariants.{Allows}
use Rattle.lpc_isolation.proofs.Views.Alone.{HasFineRows}
use Rattle.lpc_isolation.proofs.Each.Closes.{handle-mild}
use Rattle.lpc_isolation.proofs.Each.Connects.{connect-ports, row, starting, steps_of}
use Rattle.lpc_isolation.proofs.Calls.Deeds.{AreTame, Deeds, gives, more, none, numbers, registers, any-tame, maps, unmaps, writes, acts, guarded}
use Rattle.lpc_isolation.proofs.Calls.Doomed.{ended}
use Rattle.lpc_isolation.proofs.Endings.Threads.{ends-mild}
use Rattle.lpc_isolation.proofs.Views.Filters.{first-push_off, kept-change}
use Rattle.lpc_isolation.proofs.Gone.Fine.{AreFine, FineAfter, kept-last, makes_fine, unchanged}
use Rattle.lpc_isolation.proofs.Closings.Mild.{AreMild, is_mild, mild-fine}
use Rattle.lpc_isolation.proofs.Owed.Orderly.{other-thread}
use Rattle.lpc_isolation.proofs.Gone.Thin.{Alive, Behind, port_alive, wait_closed}
use Rattle.lpc_message.specs.declared.kind.TheConstants.{DATAGRAM, REQUEST}
use Rattle.lpc_model.proofs.Calls.Holding.{Holds, bind_holds, holds_ok}
use Rattle.lpc_model.specs.Basics.{Awaits, Basic, Enters, basic, received, world_after, Secures, secured}
use Rattle.lpc_model.specs.Circle.{Group, is_fine_client, is_fine_port}
use Rattle.lpc_model.specs.Close.{close_handle}
use Rattle.lpc_model.specs.Connect.{client_port, connect_wait, connection_request, listen_steps, allow_steps, create_steps, named_steps}
use Rattle.lpc_model.specs.Death.{end_threads}
use Rattle.lpc_model.specs.Entering.{enter, given_steps, row_of, shown, take_connect_steps, take_steps, takes, woken}
use Rattle.lpc_model.specs.Found.{is_made_on, wait_of, waits_as, waits_at, acting_token, free_handle, is_port}
use Rattle.lpc_model.specs.Message.{asks}
use Rattle.lpc_model.specs.Request.{datagram_start, given_reply, receive_steps, receive_wait, reply_test, request_start, sent_by}
use Rattle.lpc_model.specs.Tests.{next_birth}
use Rattle.lpc_model.specs.World.{Accepted, Birth, Connect, Listen, MessageRow, PortRow, Receive, Request, ThreadRow, WaitKind, WaitRow, World, ViewRow, Offer, Security, Qos, Event}
use Rattle.lpc_model.specs.declared.message.Message.{Message}
use Rattle.std.proofs.Common.{Bool, List, None, Option, Some, [], ap, false, refl, subst, sym, true, ℕ, ◌++◌, ◌∙◌, ◌∷◌, ◌≡◌}
use Rattle.std.proofs.lemmas.Bool.{and_from, eqb-true}
use Rattle.std.specs.Prelude.{◌&&◌, ◌==◌}
use Rattle.lpc_model.specs.Offers.{mapped}
use Rattle.lpc_model.proofs.Steps.InTurn.{after-append}
use Rattle.lpc_model.proofs.Calls.Sharing.{mapped-pass, shared-pass}

-- The client port of a connect
-- it is held by its wait when the line ends
abbrev keeps_client : Birth → ℕ → WaitRow → Bool
keeps_client n tid x = is_made_on n x && (x.thread == tid)

ended-keeps : (n : Birth) (tid : ℕ) (z : WaitRow) → (tid == z.thread) ≡ false → (ws : List WaitRow) → has (keeps_client n tid) ws ≡ true → has (keeps_client n tid) (without (waits_as z.thread) ws) ≡ true
ended-keeps n tid z other ws is = has-off (keeps_client n tid) (waits_as z.thread) (λ x kept. let same : x.thread ≡ tid = eqb-true _ _ (second-true (is_made_on n x) (x.thread == tid) kept) in subst (λ t. (t == z.thread) ≡ false) (sym same) other) ws is

taken-keeps : (n : Birth) (tid : ℕ) (z : WaitRow) (who : ℕ) (q : Birth) → (tid == z.thread) ≡ false → (ws : List WaitRow) → has (keeps_client n tid) ws ≡ true → has (keeps_client n tid) (without (waits_as z.thread) (change (waits_at who q) received ws)) ≡ true
taken-keeps n tid z who q other ws is = ended-keeps n tid z other (change (waits_at who q) received ws) (has-change (keeps_client n tid) (waits_at who q) received (λ x. refl) ws ∙ is)

given-keeps : (n : Birth) (tid : ℕ) (v : World) (x : MessageRow) (z : WaitRow) (sort : WaitKind) (asked : Bool) → z.kind ≡ sort → asks x.message ≡ asked → (tid == z.thread) ≡ false → has (keeps_client n tid) v.waits ≡ true
    → has (keeps_client n tid) (world_after v (given_steps z x ++ woken SUCCESS (shown z x) z ∷ [])).waits ≡ true
given-keeps n tid v x z (Request a) true is asked other h = rw (is, asked) (taken-keeps n tid z x.message.header.client.thread x.queue other v.waits h)
given-keeps n tid v x z (Request a) false is asked other h = rw (is, asked) (ended-keeps n tid z other v.waits h)
given-keeps n tid v x z (Event e) true is asked other h = rw (is, asked) (taken-keeps n tid z x.message.header.client.thread x.queue other v.waits h)
given-keeps n tid v x z (Event e) false is asked other h = rw (is, asked) (ended-keeps n tid z other v.waits h)
given-keeps n tid v x z Receive true is asked other h = rw (is, asked) (taken-keeps n tid z x.message.header.client.thread x.queue other v.waits h)
given-keeps n tid v x z Receive false is asked other h = rw (is, asked) (ended-keeps n tid z other v.waits h)
given-keeps n tid v x z Listen true is asked other h = rw (is, asked) (taken-keeps n tid z x.message.header.client.thread x.queue other v.waits h)
given-keeps n tid v x z Listen false is asked other h = rw (is, asked) (ended-keeps n tid z other v.waits h)
given-keeps n tid v x z (Connect a offer) true is asked other h = rw (is, asked) (taken-keeps n tid z x.message.header.client.thread x.queue other v.waits h)
given-keeps n tid v x z (Connect a offer) false is asked other h = rw (is, asked) (ended-keeps n tid z other v.waits h)
given-keeps n tid v x z (Accepted a r) true is asked other h = rw (is, asked) (taken-keeps n tid z x.message.header.client.thread x.queue other v.waits h)
given-keeps n tid v x z (Accepted a r) false is asked other h = rw (is, asked) (ended-keeps n tid z other v.waits h)

entered-keeps : (n : Birth) (tid : ℕ) (v : World) (x : MessageRow) (o : Option WaitRow) → ((z : WaitRow) → o ≡ Some z → (tid == z.thread) ≡ false) → has (keeps_client n tid) v.waits ≡ true
    → has (keeps_client n tid) (world_after v (Enters x ∷ given o (λ z. given_steps z x ++ woken SUCCESS (shown z x) z ∷ []))).waits ≡ true
entered-keeps n tid v x None other h = h
entered-keeps n tid v x (Some z) other h = given-keeps n tid (basic v (Enters x)) x z z.kind (asks x.message) refl refl (other z refl) h

mapped-waits : (w : World) (pid : ℕ) (o : Option ViewRow) → (world_after w (mapped pid o)).waits ≡ w.waits
mapped-waits w pid None = refl
mapped-waits w pid (Some v) = refl

connect-keeps : (u : World) (by : ThreadRow) (q : Birth) (offer : Option Offer) (own : Option ViewRow) (bytes : List ℕ) → wait_of u by.number ≡ None → has (keeps_client (next_birth by) by.number) (world_after u (steps_of u by q offer own bytes)).waits ≡ true
connect-keeps u by q offer own bytes idle =
    let x : MessageRow = row by q offer own bytes in
    let y : WaitRow = connect_wait by q offer (connection_request by offer bytes) in
    let v : World = world_after u (starting by q offer own bytes) in
    let same = ap (λ (w : World). w.waits) (after-append v (enter x v) (mapped by.process own)) ∙ mapped-waits (world_after v (enter x v)) by.process own in
    subst (λ ws. has (keeps_client (next_birth by) by.number) ws ≡ true) (sym same)
    (entered-keeps (next_birth by) by.number v x (first (takes x) (u.waits ++ y ∷ []))
    (λ z at. other-thread u by.number (takes x) z idle (sym (first-push_off (takes x) u.waits y refl) ∙ at))
    (has-push (keeps_client (next_birth by) by.number) u.waits y (and_from _ _ (birth-self (next_birth by)) (same-number by.number))))

live-made : (k : Alive) (n : Birth) (tid : ℕ) (ws : List WaitRow) → every (wait_closed k) ws ≡ true → has (keeps_client n tid) ws ≡ true → k.ports n ≡ true
live-made k n tid [] all is = absurd (cc)
live-made k n tid (x ∷ xs) all is = at (keeps_client n tid x) refl is (live-made k n tid xs (second-true (wait_closed k x) _ all))
  where
    at : (b : Bool) → keeps_client n tid x ≡ b → has (keeps_client n tid) (x ∷ xs) ≡ true → (has (keeps_client n tid) xs ≡ true → k.ports n ≡ true) → k.ports n ≡ true
    at true here is rest = ap k.ports (sym (birth-same x.port n (first-true _ _ here))) ∙ first-true _ _ (first-true (wait_closed k x) _ all)
    at false off is rest = rest (rw off at is)

unsecured-alive : (m : Group) (c : ℕ) (k : Alive) (b : Birth) (s : Security) (ports : List PortRow) → every (is_fine_port m c) (which (port_alive k) (change (is_port b) (secured s) ports)) ≡ true → every (is_fine_port m c) (which (port_alive k) ports) ≡ true
unsecured-alive m c k b s ports all =
    unchanged (is_fine_port m c) (is_port b) (secured s) (λ p. refl) (which (port_alive k) ports)
    (subst (λ ps. every (is_fine_port m c) ps ≡ true) (kept-change (port_alive k) (is_port b) (secured s) (λ p. refl) ports) all)

connect-new : (m : Group) (c : ℕ) (after u : World) (by : ThreadRow) (q : Birth) (offer : Option Offer) (own : Option ViewRow) (bytes : List ℕ) (quality : Qos) → wait_of u by.number ≡ None → HasFineRows m c after → Behind after (world_after u (steps_of u by q offer own bytes ++ allow_steps u by quality)) → is_fine_client m c (next_birth by) q ≡ true
connect-new m c after u by q offer own bytes quality idle fine swept =
    let v : World = world_after u (steps_of u by q offer own bytes) in
    let s : Security = Allows quality (acting_token u by) in
    let r : Behind after (basic v (Secures (next_birth by) s)) = subst (λ v. Behind after v) (after-append u (steps_of u by q offer own bytes) (allow_steps u by quality)) swept in
    let live : r.alive.ports (next_birth by) ≡ true = live-made r.alive (next_birth by) by.number v.waits r.closed.waits (connect-keeps u by q offer own bytes idle) in
    let here : every (is_fine_port m c) (which (port_alive r.alive) v.ports) ≡ true = unsecured-alive m c r.alive (next_birth by) s v.ports (subst (λ (w : World). every (is_fine_port m c) w.ports ≡ true) r.same fine.1) in
    kept-last (is_fine_port m c) (port_alive r.alive) u.ports (client_port by q)
    (subst (λ (ports : List PortRow). every (is_fine_port m c) (which (port_alive r.alive) ports) ≡ true) (connect-ports u by q offer own bytes) here) live

-- Steps
given-fine : (m : Group) (c : ℕ) (x : MessageRow) (z : WaitRow) (sort : WaitKind) (asked : Bool) → z.kind ≡ sort → asks x.message ≡ asked → AreFine m c (given_steps z x ++ woken SUCCESS (shown z x) z ∷ [])
given-fine m c x z (Request a) true is asked = rw (is, asked) refl
given-fine m c x z (Request a) false is asked = rw (is, asked) refl
given-fine m c x z (Event e) true is asked = rw (is, asked) refl
given-fine m c x z (Event e) false is asked = rw (is, asked) refl
given-fine m c x z Receive true is asked = rw (is, asked) refl
given-fine m c x z Receive false is asked = rw (is, asked) refl
given-fine m c x z Listen true is asked = rw (is, asked) refl
given-fine m c x z Listen false is asked = rw (is, asked) refl
given-fine m c x z (Connect a offer) true is asked = rw (is, asked) refl
given-fine m c x z (Connect a offer) false is asked = rw (is, asked) refl
given-fine m c x z (Accepted a r) true is asked = rw (is, asked) refl
given-fine m c x z (Accepted a r) false is asked = rw (is, asked) refl

entered-fine : (m : Group) (c : ℕ) (x : MessageRow) (o : Option WaitRow) → AreFine m c (given o (λ z. given_steps z x ++ woken SUCCESS (shown z x) z ∷ []))
entered-fine m c x None = refl
entered-fine m c x (Some z) = given-fine m c x z z.kind (asks x.message) refl refl

pub then-fine : (m : Group) (c : ℕ) (u : World) (start : List Basic) (x : MessageRow) → AreFine m c start → AreFine m c (start ++ enter x (world_after u start))
then-fine m c u start x ok = every-append (makes_fine m c) start (enter x (world_after u start)) ok (entered-fine m c x (first (takes x) (world_after u start).waits))

taken-fine : (m : Group) (c : ℕ) (x : MessageRow) (asked : Bool) → asks x.message ≡ asked → AreFine m c (take_steps x) × AreFine m c (take_connect_steps x)
taken-fine m c x true asked = (rw asked refl, rw asked refl)
taken-fine m c x false asked = (rw asked refl, rw asked refl)

listened-fine : (m : Group) (c : ℕ) (by : ThreadRow) (port : Birth) (o : Option MessageRow) → AreFine m c (listen_steps by port o)
listened-fine m c by port None = refl
listened-fine m c by port (Some x) = (taken-fine m c x (asks x.message) refl).1

replied-fine : (m : Group) (c : ℕ) (u : World) (p : PortRow) (o : Option Message) → Holds (AreFine m c) (given_reply u p o)
replied-fine m c u p None = refl
replied-fine m c u p (Some b) = bind_holds (reply_test u p b) _ (AreFine m c) (λ x _. reply-cases (λ r. AreFine m c (r ∷ [])) x b refl refl (λ _. refl))

received-fine : (m : Group) (c : ℕ) (by : ThreadRow) (p : PortRow) (q : Birth) (rs : List Basic) (o : Option MessageRow) → AreFine m c rs → AreFine m c (receive_steps by p q rs o)
received-fine m c by p q rs None ok = every-append (makes_fine m c) rs (Awaits (receive_wait by p.birth q) ∷ []) ok refl
received-fine m c by p q rs (Some x) ok = every-append (makes_fine m c) rs (take_steps x) ok (taken-fine m c x (asks x.message) refl).0

keeps-fine : (m : Group) (c : ℕ) (w : World) (by : ThreadRow) (bs : List Basic) → AreTame w by bs → AreFine m c bs
keeps-fine m c w by [] none = refl
keeps-fine m c w by (b ∷ bs) (more (gives h r value at same) t) = keeps-fine m c w by bs t
keeps-fine m c w by (b ∷ bs) (more (registers p value at) t) = keeps-fine m c w by bs t
keeps-fine m c w by (b ∷ bs) (more numbers t) = keeps-fine m c w by bs t
keeps-fine m c w by (b ∷ bs) (more (maps x s rights value at section owner) t) = keeps-fine m c w by bs t
keeps-fine m c w by (b ∷ bs) (more (unmaps base) t) = keeps-fine m c w by bs t
keeps-fine m c w by (b ∷ bs) (more (writes s place new) t) = keeps-fine m c w by bs t
keeps-fine m c w by (b ∷ bs) (more (acts other) t) = keeps-fine m c w by bs t

pub connect-restful : (u : World) (by : ThreadRow) (q : Birth) (offer : Option Offer) (own : Option ViewRow) (bytes : List ℕ) (quality : Qos) → every is_restful (steps_of u by q offer own bytes ++ allow_steps u by quality) ≡ true
connect-restful u by q offer own bytes quality =
    every-append is_restful (steps_of u by q offer own bytes) (allow_steps u by quality)
    (every-append is_restful (starting by q offer own bytes ++ enter (row by q offer own bytes) (world_after u (starting by q offer own bytes))) (mapped by.process own)
    (then-restful u (starting by q offer own bytes) (row by q offer own bytes) refl) (mapped-pass is_restful by.process (λ _. refl) own)) refl

-- Each deed
pub are-fine : (m : Group) (c : ℕ) (bs : List Basic) → AreMild bs → AreFine m c bs
are-fine m c bs mild = every-more is_mild (makes_fine m c) (mild-fine m c) bs mild

pub fine-deeds : (m : Group) (c : ℕ) (after u : World) (by : ThreadRow) → wait_of u by.number ≡ None → HasFineRows m c after → Deeds u by (λ _. FineAfter m c after u)
fine-deeds m c after u by idle f = record {
  creates = λ _ _. refl;
  founds = λ name dacl path free _. guarded (λ bs. AreFine m c (create_steps by (named_steps (next_birth by) path) (free_handle u by.process) ++ bs)) (next_birth by) name dacl (refl) (λ s. refl);
  connects = λ name quality word bytes offer own q is r. let new = connect-new m c after u by q offer own bytes quality idle f (r (λ born rest. run-settled u (steps_of u by q offer own bytes ++ allow_steps u by quality) (connect-restful u by q offer own bytes quality) rest)) in
      every-append (makes_fine m c) (steps_of u by q offer own bytes) (allow_steps u by quality) (every-append (makes_fine m c) (starting by q offer own bytes ++ enter (row by q offer own bytes) (world_after u (starting by q offer own bytes))) (mapped by.process own) (then-fine m c u (starting by q offer own bytes) (row by q offer own bytes) (rw new refl)) (mapped-pass (makes_fine m c) by.process (λ _. refl) own)) refl;
  listens = λ handle p o at first _. listened-fine m c by p.birth o;
  refuses = λ context bytes word a at _. refl;
  accepts = λ context bytes word offer a views is _. shared-pass (makes_fine m c) by a.wait (λ _. refl) (λ _. refl) views;
  completes = λ handle r at _. refl;
  sends = λ handle bytes x at _. then-fine m c u (datagram_start by) (row_of x.queue x.port (sent_by by DATAGRAM x.message)) refl;
  asks = λ handle bytes x at _. then-fine m c u (request_start by x.port.birth x.queue (sent_by by REQUEST x.message)) (row_of x.queue x.port (sent_by by REQUEST x.message)) refl;
  replies = λ handle bytes p b x at read fits _. reply-cases (λ r. AreFine m c (r ∷ [])) x b refl refl (λ _. refl);
  receives = λ handle bytes a p q replied o is first _. received-fine m c by p q replied o (holds_ok (AreFine m c) (given_reply u p a) replied (replied-fine m c u p a) is.reply_made);
  closes = λ handle r at _. are-fine m c (close_handle by.process r u) (handle-mild u by.process r);
  makes_section = λ size prot _. refl;
  impersonates = λ handle bytes own is _. refl;
  opens_own = λ own is _. refl;
  opens_primary = λ _. refl;
  sets = λ target class handle pid port at found live _. set-passes (AreFine m c) by class pid port.birth refl refl;
  handles = λ code handled _. refl;
  hears = λ code handled h is _. then-fine m c u (raise_told by ∷ event_begun by code handled h) (event_row by code h) refl;
  fails = λ code handled _. refl;
  tames = any-tame (λ call name fields bs tame t _. keeps-fine m c u by bs t);
  ends = λ call name own pid code ts doomed _. let is = are-fine m c (end_threads pid code ts u) (ends-mild pid code ts u) in ended (AreFine m c) by name own pid code ts u (λ _. is) (λ _. is);
}
