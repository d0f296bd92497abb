-- A call sends messages from a port to the port's own way alone.
use Rattle.lpc_model.proofs.Sound.Reply.{reply-cases}
use Rattle.lpc_model.specs.Raise.{event_begun, raise_told}
use Rattle.lpc_model.proofs.Calls.Raising.{heard-routed, set-passes}
use Rattle.lpc_isolation.proofs.Each.Raises.{event_row, hearing-set}
use Rattle.std.proofs.Common.{◌≡◌, List, [], ◌∷◌, true, Some, refl, ℕ, Option, ◌++◌, None}
use Rattle.lpc_base.specs.Rows.{passes}
use Rattle.lpc_base.proofs.Births.{birth-self}
use Rattle.lpc_base.proofs.RowWords.{first-push}
use Rattle.lpc_message.specs.declared.kind.TheConstants.{DATAGRAM, REQUEST}
use Rattle.lpc_model.specs.Basics.{Basic, world_after}
use Rattle.lpc_model.specs.Connect.{client_port, listen_steps, accept_start, allow_steps, create_steps, named_steps}
use Rattle.lpc_model.specs.Entering.{row_of, enter}
use Rattle.lpc_model.specs.Found.{is_port, live_thread, port_row, free_handle}
use Rattle.lpc_model.specs.Request.{Sendable, datagram_send_test, datagram_start, given_reply, receive_steps, request_start, send_test, sent_by}
use Rattle.lpc_model.specs.SoundWaits.{IsSoundWorld}
use Rattle.lpc_model.specs.Tests.{next_birth}
use Rattle.lpc_model.specs.World.{ThreadRow, World, WaitRow, ViewRow}
use Rattle.lpc_model.proofs.Calls.Holding.{holds_ok}
use Rattle.lpc_model.proofs.Steps.Rows.{has-off}
use Rattle.lpc_isolation.proofs.Each.Closes.{handle-sent}
use Rattle.lpc_isolation.proofs.Each.Connects.{row, starting, steps_of}
use Rattle.lpc_isolation.proofs.Calls.Deeds.{AreTame, Deeds, gives, more, none, numbers, registers, any-tame, maps, unmaps, writes, acts, guarded}
use Rattle.lpc_isolation.proofs.Calls.Doomed.{ended}
use Rattle.lpc_isolation.proofs.Endings.Threads.{ends-sent}
use Rattle.lpc_isolation.proofs.Gone.Fresh.{next-new}
use Rattle.lpc_isolation.proofs.Rows.Sent.{are_sent, leads_home, append-sent}
use Rattle.lpc_isolation.proofs.Rows.Ways.{AreStill, datagram-home, listened-still, received-still, replied-still, sends-home, still-sent, then-sent, route-home}
use Rattle.lpc_model.specs.Basics.{basic}
use Rattle.lpc_model.specs.Offers.{SharedViews, shared_steps, mapped, server_views}

keeps-sent : (w : World) (by : ThreadRow) (v : World) (bs : List Basic) → AreTame w by bs → are_sent v bs ≡ true
keeps-sent w by v [] none = refl
keeps-sent w by v (b ∷ bs) (more (gives h r value at same) t) = keeps-sent w by (basic v b) bs t
keeps-sent w by v (b ∷ bs) (more (registers p value at) t) = keeps-sent w by (basic v b) bs t
keeps-sent w by v (b ∷ bs) (more numbers t) = keeps-sent w by (basic v b) bs t
keeps-sent w by v (b ∷ bs) (more (maps x s rights value at section owner) t) = keeps-sent w by (basic v b) bs t
keeps-sent w by v (b ∷ bs) (more (unmaps base) t) = keeps-sent w by (basic v b) bs t
keeps-sent w by v (b ∷ bs) (more (writes s place new) t) = keeps-sent w by (basic v b) bs t
keeps-sent w by v (b ∷ bs) (more (acts other) t) = keeps-sent w by (basic v b) bs t

mapped-sent : (w : World) (pid : ℕ) (o : Option ViewRow) → are_sent w (mapped pid o) ≡ true
mapped-sent w pid None = refl
mapped-sent w pid (Some v) = refl

shared-sent : (w : World) (by : ThreadRow) (x : WaitRow) (views : SharedViews) → are_sent w (shared_steps by x views) ≡ true
shared-sent w by x views =
    append-sent w (server_views by views.own views.theirs) (mapped x.process views.across)
    (append-sent w (mapped by.process views.own) (mapped by.process views.theirs) (mapped-sent w by.process views.own) (mapped-sent _ by.process views.theirs))
    (mapped-sent _ x.process views.across)

pub sent-deeds : (u : World) (by : ThreadRow) → IsSoundWorld u → live_thread u by.number ≡ Some by → Deeds u by (λ _ bs. are_sent u bs ≡ true)
sent-deeds u by s live = record {
  creates = λ _. refl;
  founds = λ name dacl path free. guarded (λ bs. are_sent u (create_steps by (named_steps (next_birth by) path) (free_handle u by.process) ++ bs) ≡ true) (next_birth by) name dacl (refl) (λ s. refl);
  connects = λ name quality word bytes offer own q is.
      let here : port_row (world_after u (starting by q offer own bytes)) (next_birth by) ≡ Some (client_port by q) = first-push (is_port (next_birth by)) u.ports (client_port by q) (has-off (is_port (next_birth by)) u.ports (next-new u by.number by s live)) (birth-self (next_birth by)) in
      append-sent u (steps_of u by q offer own bytes) (allow_steps u by quality) (append-sent u (starting by q offer own bytes ++ enter (row by q offer own bytes) (world_after u (starting by q offer own bytes))) (mapped by.process own)
      (then-sent u (starting by q offer own bytes) (row by q offer own bytes) refl (rw here (birth-self q))) (mapped-sent _ by.process own)) refl;
  listens = λ handle p o at first. still-sent u (listen_steps by p.birth o) (listened-still by p.birth o);
  refuses = λ context bytes word a at. refl;
  accepts = λ context bytes word offer a views is. append-sent u (accept_start by context (free_handle u by.process) a views) (shared_steps by a.wait views) refl (shared-sent _ by a.wait views);
  completes = λ handle r at. refl;
  sends = λ handle bytes x at. then-sent u (datagram_start by) (row_of x.queue x.port (sent_by by DATAGRAM x.message)) refl (holds_ok (λ (x : Sendable). passes (port_row u x.port.birth) (leads_home x.queue) ≡ true) (datagram_send_test u by handle bytes) x (datagram-home u by handle bytes) at);
  asks = λ handle bytes x at.
      then-sent u (request_start by x.port.birth x.queue (sent_by by REQUEST x.message)) (row_of x.queue x.port (sent_by by REQUEST x.message)) refl
      (holds_ok (λ (x : Sendable). passes (port_row u x.port.birth) (leads_home x.queue) ≡ true) (send_test u by handle bytes) x (sends-home u by handle bytes) at);
  replies = λ handle bytes p m x at read fits. reply-cases (λ r. are_sent u (r ∷ []) ≡ true) x m refl refl (λ _. refl);
  receives = λ handle bytes a p q replied o is first. still-sent u (receive_steps by p q replied o) (received-still by p q replied o (holds_ok AreStill (given_reply u p a) replied (replied-still u p a) is.reply_made));
  closes = λ handle r at. handle-sent u by.process r;
  makes_section = λ size prot. refl;
  impersonates = λ handle bytes own is. refl;
  opens_own = λ own is. refl;
  opens_primary = refl;
  sets = λ target class handle pid port at found live. set-passes (λ bs. are_sent u bs ≡ true) by class pid port.birth refl refl;
  handles = λ code handled. refl;
  hears = λ code handled h is.
      let heard = heard-routed u by.process is.chance h is.found in
      let s = hearing-set u by.process is.chance h is.found in
      then-sent u (raise_told by ∷ event_begun by code handled h) (event_row by code h) refl (rw heard.stands (route-home u h.port h.queue s.to));
  fails = λ code handled. refl;
  tames = any-tame (λ call name fields bs tame t. keeps-sent u by u bs t);
  ends = λ call name own pid code ts doomed. let is = ends-sent pid code ts u in ended (λ bs. are_sent u bs ≡ true) by name own pid code ts u (λ _. is) (λ _. is);
}
