-- A call keeps the ways of requests.
use Rattle.lpc_model.proofs.Sound.Reply.{reply-cases}
use Rattle.lpc_model.specs.Raise.{event_begun, event_wait, raise_told}
use Rattle.lpc_model.proofs.Calls.Raising.{heard-routed, set-passes}
use Rattle.lpc_isolation.proofs.Each.Raises.{event_row}
use Rattle.lpc_base.proofs.Births.{birth-same, birth-self}
use Rattle.lpc_base.proofs.RowMaps.{every-first}
use Rattle.lpc_base.proofs.RowWords.{every-change, every-more, first-kept}
use Rattle.lpc_base.specs.Rows.{change, every, first, has}
use Rattle.lpc_isolation.proofs.Each.Accepts.{found-answer}
use Rattle.lpc_isolation.proofs.Each.Closes.{handle-mild}
use Rattle.lpc_isolation.proofs.Each.Connects.{row, starting, steps_of}
use Rattle.lpc_isolation.proofs.Calls.Deeds.{AreTame, Deeds, gives, more, none, numbers, registers, any-tame, maps, unmaps, writes, acts, guarded}
use Rattle.lpc_isolation.proofs.Calls.Doomed.{ended}
use Rattle.lpc_isolation.proofs.Endings.Threads.{ends-mild}
use Rattle.lpc_isolation.proofs.Gone.Fresh.{is_new, next-new}
use Rattle.lpc_isolation.proofs.Closings.Mild.{mild-paths}
use Rattle.lpc_isolation.proofs.Rows.Paths.{Paths, append-paths, are_paths, is_off, is_off_row, is_path}
use Rattle.lpc_isolation.proofs.Views.Seen.{port-own}
use Rattle.lpc_isolation.proofs.Each.Sends.{Caller, found-request}
use Rattle.lpc_isolation.proofs.Rows.Ways.{AreStill, enter-paths, listened-still, received-still, replied-still, route-way, still-paths, then-paths, way-lead}
use Rattle.lpc_message.specs.declared.kind.TheConstants.{DATAGRAM, REQUEST}
use Rattle.lpc_model.proofs.Calls.Holding.{holds_ok}
use Rattle.lpc_model.specs.Basics.{Basic, Makes, accepted, basic, world_after}
use Rattle.lpc_model.specs.Circle.{Group}
use Rattle.lpc_model.specs.Close.{close_handle}
use Rattle.lpc_model.specs.Connect.{listen_steps, names_connect, server_port, accept_start, allow_steps, create_steps, named_steps}
use Rattle.lpc_model.specs.Death.{end_threads}
use Rattle.lpc_model.specs.Entering.{enter, row_of}
use Rattle.lpc_model.specs.Found.{is_port, is_asking, is_server_port, port_row, waits_as, free_handle}
use Rattle.lpc_model.specs.Request.{datagram_start, given_reply, receive_steps, request_start, request_wait, sent_by}
use Rattle.lpc_model.specs.SoundWaits.{IsSoundWorld, is_connect_on, lacks_connects}
use Rattle.lpc_model.specs.Tests.{next_birth, port_test}
use Rattle.lpc_model.specs.World.{Birth, Connect, PortRow, ThreadRow, WaitKind, WaitRow, World, Acceptance, ViewRow}
use Rattle.lpc_model.specs.declared.message.Message.{Message}
use Rattle.std.proofs.Common.{Bool, List, None, Option, Some, [], arith, false, not, refl, subst, sym, true, ℕ, ◌∷◌, ◌≡◌, ◌++◌}
use Rattle.std.proofs.lemmas.Bool.{and_from}
use Rattle.std.specs.Prelude.{◌&&◌, ◌||◌}
use Rattle.lpc_model.specs.Offers.{SharedViews, mapped, shared_steps, server_views, acceptance}

-- of tame steps
keeps-paths : (w : World) (by : ThreadRow) (v : World) (bs : List Basic) → AreTame w by bs → are_paths v bs ≡ true
keeps-paths w by v [] none = refl
keeps-paths w by v (b ∷ bs) (more (gives h r value at same) t) = keeps-paths w by (basic v b) bs t
keeps-paths w by v (b ∷ bs) (more (registers p value at) t) = keeps-paths w by (basic v b) bs t
keeps-paths w by v (b ∷ bs) (more numbers t) = keeps-paths w by (basic v b) bs t
keeps-paths w by v (b ∷ bs) (more (maps x s rights value at section owner) t) = keeps-paths w by (basic v b) bs t
keeps-paths w by v (b ∷ bs) (more (unmaps base) t) = keeps-paths w by (basic v b) bs t
keeps-paths w by v (b ∷ bs) (more (writes s place new) t) = keeps-paths w by (basic v b) bs t
keeps-paths w by v (b ∷ bs) (more (acts other) t) = keeps-paths w by (basic v b) bs t

-- an accept joins neither end of such a path
off-client : (w : World) (y : WaitRow) → IsSoundWorld w → has (is_connect_on y.port) w.waits ≡ true → (p : PortRow) (b : Birth) → port_row w b ≡ Some p → is_server_port p ≡ true → is_port y.port p ≡ false
off-client w y s there p b row server = at (is_port y.port p) refl
  where
    at : (e : Bool) → is_port y.port p ≡ e → e ≡ false
    at true is =
        let lacks : lacks_connects w p ≡ true = every-first (lacks_connects w) (is_port b) w.ports p s.servers row in
        let waits : has (is_connect_on p.birth) w.waits ≡ true = subst (λ b. has (is_connect_on b) w.waits ≡ true) (sym (birth-same p.birth y.port is)) there in
        let off : not (is_server_port p && true) ≡ true = subst (λ e. not (is_server_port p && e) ≡ true) waits lacks in
        absurd (grind arith)
    at false is = refl

off-row : (w : World) (y : WaitRow) (n : Birth) → IsSoundWorld w → has (is_connect_on y.port) w.waits ≡ true → every (is_new n) w.ports ≡ true → (p : PortRow) (b : Birth) → port_row w b ≡ Some p → is_off_row y.port n p ≡ true
off-row w y n s there new p b here = at (is_server_port p) refl
  where
    fresh : is_new n p ≡ true
    fresh = every-first (is_new n) (is_port b) w.ports p new here

    at : (e : Bool) → is_server_port p ≡ e → is_off_row y.port n p ≡ true
    at true server = rw (off-client w y s there p b here server, fresh) (grind arith)
    at false off = rw off refl

off-both : (w : World) (y : WaitRow) (n : Birth) → IsSoundWorld w → has (is_connect_on y.port) w.waits ≡ true → every (is_new n) w.ports ≡ true → (x : WaitRow) → is_path w x ≡ true → is_off w y.port n x ≡ true
off-both w y n s there new x is = at (is_asking x) refl (port_row w x.port) refl
  where
    at : (b : Bool) → is_asking x ≡ b → (o : Option PortRow) → port_row w x.port ≡ o → is_off w y.port n x ≡ true
    at false stay o row = rw stay refl
    at true go None row = let none : (not (is_asking x) || false) ≡ true = rw row at is in absurd (grind arith)
    at true go (Some p) row = let off = off-row w y n s there new p x.port row in rw (row, off) (grind arith)

accepted-off : (w : World) (client server : Birth) (reply : Acceptance) (x : WaitRow) (sort : WaitKind) → x.kind ≡ sort → is_off w client server x ≡ true → is_off w client server (accepted reply x) ≡ true
accepted-off w client server reply x (Connect a offer) is off = rw is refl
accepted-off w client server reply x b is off = rw is (rw is at off)

made-off : (w : World) (p : PortRow) (client server : Birth) (x : WaitRow) → is_off w client server x ≡ true → is_off (basic w (Makes p)) client server x ≡ true
made-off w p client server x is = at (port_row w x.port) refl
  where
    at : (o : Option PortRow) → port_row w x.port ≡ o → is_off (basic w (Makes p)) client server x ≡ true
    at None rowless = let off : (not (is_asking x) || false) ≡ true = rw rowless at is in grind arith
    at (Some r) some = let on : (not (is_asking x) || is_off_row client server r) ≡ true = rw some at is in rw (first-kept (is_port x.port) w.ports p r some) on

found-on : (ws : List WaitRow) (test : WaitRow → Bool) (y : WaitRow) → first test ws ≡ Some y → is_connect_on y.port y ≡ true → has (is_connect_on y.port) ws ≡ true
found-on [] test y at is = absurd (cc)
found-on (x ∷ xs) test y at is = grind (arith, found-on xs test y)

mapped-paths : (w : World) (pid : ℕ) (o : Option ViewRow) → are_paths w (mapped pid o) ≡ true
mapped-paths w pid None = refl
mapped-paths w pid (Some v) = refl

shared-paths : (w : World) (by : ThreadRow) (x : WaitRow) (views : SharedViews) → are_paths w (shared_steps by x views) ≡ true
shared-paths w by x views =
    append-paths w (server_views by views.own views.theirs) (mapped x.process views.across)
    (append-paths w (mapped by.process views.own) (mapped by.process views.theirs) (mapped-paths w by.process views.own) (mapped-paths _ by.process views.theirs))
    (mapped-paths _ x.process views.across)

-- Each deed
pub paths-deeds : (m : Group) (c : ℕ) (w : World) (by : ThreadRow) → Paths w → Caller m c w w by → Deeds w by (λ _ bs. are_paths w bs ≡ true)
paths-deeds m c w by all k = record {
  creates = λ _. refl;
  founds = λ name dacl path free. guarded (λ bs. are_paths w (create_steps by (named_steps (next_birth by) path) (free_handle w by.process) ++ bs) ≡ true) (next_birth by) name dacl (refl) (λ s. refl);
  connects = λ name quality word bytes offer own q is.
      append-paths w (steps_of w by q offer own bytes) (allow_steps w by quality) (append-paths w (starting by q offer own bytes ++ enter (row by q offer own bytes) (world_after w (starting by q offer own bytes))) (mapped by.process own)
      (then-paths w (starting by q offer own bytes) (row by q offer own bytes) refl) (mapped-paths _ by.process own)) refl;
  listens = λ handle p o at first. still-paths w (listen_steps by p.birth o) (listened-still by p.birth o);
  refuses = λ context bytes word a at. refl;
  accepts = λ context bytes word offer a views is.
      let it = found-answer m c w w by bytes a k is.answered in
      let on : has (is_connect_on a.wait.port) w.waits ≡ true = found-on w.waits (names_connect w by a.message) a.wait it.found (and_from _ _ (rw it.offered refl) (birth-self a.wait.port)) in
      let new = next-new w by.number by k.sound k.live in
      let v : World = basic w (Makes (server_port (next_birth by) a.wait.queue)) in
      let off : every (is_off w a.wait.port (next_birth by)) w.waits ≡ true = every-more (is_path w) (is_off w a.wait.port (next_birth by)) (off-both w a.wait (next_birth by) k.sound on new) w.waits all in
      let made : every (is_off v a.wait.port (next_birth by)) w.waits ≡ true = every-more (is_off w a.wait.port (next_birth by)) (is_off v a.wait.port (next_birth by)) (made-off w (server_port (next_birth by) a.wait.queue) a.wait.port (next_birth by)) w.waits off in
      let still : every (is_off v a.wait.port (next_birth by)) (change (waits_as a.wait.thread) (accepted (acceptance a.message.body views)) w.waits) ≡ true
      = every-change (is_off v a.wait.port (next_birth by)) (waits_as a.wait.thread) (accepted (acceptance a.message.body views)) (λ x off. accepted-off v a.wait.port (next_birth by) (acceptance a.message.body views) x x.kind refl off) w.waits made in
      append-paths w (accept_start by context (free_handle w by.process) a views) (shared_steps by a.wait views) (rw still refl) (shared-paths _ by a.wait views);
  completes = λ handle r at. refl;
  sends = λ handle bytes s at. then-paths w (datagram_start by) (row_of s.queue s.port (sent_by by DATAGRAM s.message)) refl;
  asks = λ handle bytes s at.
      let is = found-request m c w w by handle bytes s k at in
      let a : Message = sent_by by REQUEST s.message in
      let own = holds_ok (λ (p : PortRow). (p.birth.process ≡ by.process) × (port_row w p.birth ≡ Some p)) (port_test w by handle) s.port (port-own m c w by handle k.fair) is.from in
      let path : is_path w (request_wait by s.port.birth s.queue a) ≡ true = rw own.1 (way-lead w s.port s.queue s.port.kind refl (route-way w s.port s.queue is.to)) in
      append-paths w (request_start by s.port.birth s.queue a) (enter (row_of s.queue s.port a) (world_after w (request_start by s.port.birth s.queue a))) (and_from _ _ path refl)
      (enter-paths (world_after w (request_start by s.port.birth s.queue a)) (row_of s.queue s.port a));
  replies = λ handle bytes p b x at read fits. reply-cases (λ r. are_paths w (r ∷ []) ≡ true) x b refl refl (λ _. refl);
  receives = λ handle bytes a p q replied o is first. still-paths w (receive_steps by p q replied o) (received-still by p q replied o (holds_ok AreStill (given_reply w p a) replied (replied-still w p a) is.reply_made));
  closes = λ handle r at. mild-paths w (close_handle by.process r w) (handle-mild w by.process r);
  makes_section = λ size prot. refl;
  impersonates = λ handle bytes own is. refl;
  opens_own = λ own is. refl;
  opens_primary = refl;
  sets = λ target class handle pid port at found live. set-passes (λ bs. are_paths w bs ≡ true) by class pid port.birth refl refl;
  handles = λ code handled. refl;
  hears = λ code handled h is.
      let heard = heard-routed w by.process is.chance h is.found in
      let path : is_path w (event_wait by code handled h) ≡ true = rw heard.stands (way-lead w h.port h.queue h.port.kind refl heard.way) in
      let start = raise_told by ∷ event_begun by code handled h in
      append-paths w start (enter (event_row by code h) (world_after w start)) (and_from _ _ path refl) (enter-paths (world_after w start) (event_row by code h));
  fails = λ code handled. refl;
  tames = any-tame (λ call name fields bs tame t. keeps-paths w by w bs t);
  ends = λ call name own pid code ts doomed. let is = mild-paths w (end_threads pid code ts w) (ends-mild pid code ts w) in ended (λ bs. are_paths w bs ≡ true) by name own pid code ts w (λ _. is) (λ _. is);
}
