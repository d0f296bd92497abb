-- The stages of a port's closing: which waits end, and what goes.
use Rattle.lpc_isolation.proofs.Closings.Marks.{IsMark, is_seen_mark, mark-stage, mark-view}
use Rattle.std.proofs.Common.{◌≡◌, ℕ, [], ◌∷◌, ◌++◌, Bool, true, false, not, Option, Some, None, refl, ap, sym, subst, ◌∙◌, arith}
use Rattle.std.specs.Prelude.{◌&&◌, ◌||◌, ◌==◌, option_and_then, option_map}
use Rattle.std.proofs.lemmas.Bool.{and_from, and_left, eqb-true, false_from_ne_true, not-true, or_left}
use Rattle.std.proofs.Math.Bool.{and-false}
use Rattle.lpc_base.specs.Rows.{every, passes}
use Rattle.lpc_base.proofs.RowWords.{first-passes}
use Rattle.lpc_base.proofs.RowMaps.{every-first}
use Rattle.lpc_base.proofs.Bools.{first-true, or-second, same-number, second-true}
use Rattle.lpc_base.proofs.Births.{birth-same, birth-self}
use Rattle.lpc_base.specs.declared.port_kind.PortKind.TheVariants.{Server}
use Rattle.lpc_base.specs.declared.status.TheConstants.{LPC_REPLY_LOST, PORT_CONNECTION_REFUSED, PORT_DISCONNECTED}
use Rattle.lpc_model.specs.Fields.{info}
use Rattle.lpc_model.specs.World.{Accepted, Birth, Listen, PortKind, PortRow, Receive, WaitKind, WaitRow, World, Connect, Event}
use Rattle.lpc_model.specs.Found.{is_accepted, is_client_port, is_listen, is_made_on, is_port, is_receive, is_request, is_server_port, is_the, pair_of, port_row, same_birth, is_connect, is_offered, is_event, is_asking, is_marked}
use Rattle.lpc_model.specs.Basics.{Basic, Cuts, Empties, Unbinds, basic, doing, told, Tells, Wakes}
use Rattle.lpc_model.specs.Close.{close_port, cut_pair, drop_name, empty_queue, is_accepted_across, is_across, is_offered_to, is_queued_request, is_receive_across, is_receiver, is_request_across, is_request_on, post_closed, is_event_on, is_queued_event, is_event_across, is_unmarked_event}
use Rattle.lpc_model.specs.Circle.{Group, Whose}
use Rattle.lpc_isolation.proofs.Views.View.{of_birth, our_wait, seen_port, view, our_mark}
use Rattle.lpc_isolation.proofs.Views.Basics.{is_regular}
use Rattle.lpc_isolation.proofs.Rows.Fair.{is_fair_pair, is_fair_port, is_fair_wait, is_home, is_no_server_at, port-side, port-home, is_fair_raise}
use Rattle.lpc_isolation.proofs.Rows.Clients.{is_client_wait}
use Rattle.lpc_isolation.proofs.Views.Seen.{port-view}
use Rattle.lpc_isolation.proofs.Views.Apart.{is_apart, is_owned}
use Rattle.lpc_isolation.proofs.Views.Callers.{c-wait, led-same}
use Rattle.lpc_isolation.proofs.Views.Mine.{is_way, pair-view, the-seen}
use Rattle.lpc_isolation.proofs.Plays.Play.{told_inputs}
use Rattle.lpc_isolation.proofs.Rows.Paths.{is_path, leads, path-way}
use Rattle.lpc_isolation.proofs.Rows.Asked.{Asked, basic-asked, is_settled}
use Rattle.lpc_isolation.proofs.Memory.Heard.{entries_memo, takes_any}
use Rattle.lpc_isolation.proofs.Gone.Thin.{Alive, is_closed, thin, wait_closed}
use Rattle.lpc_isolation.proofs.Gone.ThinCalls.{row-thin}
use Rattle.lpc_isolation.proofs.Closings.Mild.{AreLosses, Sure, is_loss, losses-fair, losses-mild, losses-ours, losses-sent, no_mark}
use Rattle.lpc_isolation.proofs.Closings.Shown.{are_shown}
use Rattle.lpc_isolation.proofs.Closings.Stages.{Good, Stage, then-good, then-stage}
use Rattle.lpc_isolation.proofs.Closings.Posts.{post-good, disowns-good}
use Rattle.lpc_isolation.proofs.Closings.Ends.{IsEnd, end-stage, is_known_wait}
use Rattle.lpc_isolation.proofs.Each.Reply.{wait-not-c}

-- Sorts of waits
receiver-settled : (x : WaitRow) (k : WaitKind) → x.kind ≡ k → (is_receive x || is_listen x) ≡ true → is_settled x ≡ true
receiver-settled x Receive k is = rw k (grind arith)
receiver-settled x Listen k is = rw k (grind arith)
receiver-settled x b k is = let off : (false || false) ≡ true = rw k at is in absurd (cc)

accepted-settled : (x : WaitRow) (k : WaitKind) → x.kind ≡ k → is_accepted x ≡ true → is_settled x ≡ true
accepted-settled x (Accepted a r) k is = rw k (grind arith)
accepted-settled x b k is = let off : false ≡ true = rw k at is in absurd (cc)

accepted-takes : (x : WaitRow) (k : WaitKind) → x.kind ≡ k → is_accepted x ≡ true → takes_any x ≡ false
accepted-takes x Receive k is = let off : false ≡ true = rw k at is in absurd (cc)
accepted-takes x Listen k is = let off : false ≡ true = rw k at is in absurd (cc)
accepted-takes x b k is = rw k refl

offered-connect : (x : WaitRow) (k : WaitKind) → x.kind ≡ k → is_offered x ≡ true → is_connect x ≡ true
offered-connect x (Connect a offer) k is = rw k refl
offered-connect x b k is = let off : false ≡ true = rw k at is in absurd (cc)

accepted-connect : (x : WaitRow) (k : WaitKind) → x.kind ≡ k → is_accepted x ≡ true → is_connect x ≡ true
accepted-connect x (Accepted a r) k is = rw k refl
accepted-connect x b k is = let off : false ≡ true = rw k at is in absurd (cc)

outside : (m : Group) (c : ℕ) (x : WaitRow) → is_fair_wait m c x ≡ true → is_connect x ≡ true → our_wait m x ≡ false → m x.process ≡ false
outside m c x fair connect off = grind arith

-- Whose a wait is
queue-off : (m : Group) (x : WaitRow) (b : Birth) → m b.process ≡ false → same_birth x.queue b ≡ true → our_wait m x ≡ false
queue-off m x b out is = let q_out : m x.queue.process ≡ false = of_birth m x.queue b is ∙ out in grind arith

process-off : (m : Group) (x : WaitRow) → m x.process ≡ false → our_wait m x ≡ false
process-off m x out = rw out refl

mine-seen : (m : Group) (c : ℕ) (x : WaitRow) → m c ≡ true → is_fair_wait m c x ≡ true → x.process ≡ c → our_wait m x ≡ true
mine-seen m c x c_in fair is = c-wait m c x c_in fair (ap (λ p. p == c) is ∙ same-number c)

queue-seen : (m : Group) (c : ℕ) (x : WaitRow) (b : Birth) → m c ≡ true → is_fair_wait m c x ≡ true → b.process ≡ c → same_birth x.queue b ≡ true → our_wait m x ≡ true
queue-seen m c x b c_in fair mine is =
    let queue : x.queue.process ≡ c = ap (λ (b : Birth). b.process) (birth-same x.queue b is) ∙ mine in
    let q_c : (x.queue.process == c) ≡ true = ap (λ p. p == c) queue ∙ same-number c in
    let q_in : m x.queue.process ≡ true = ap m queue ∙ c_in in
    grind arith

made-own : (m : Group) (c : ℕ) (x : WaitRow) (b : Birth) → is_fair_wait m c x ≡ true → is_event x ≡ false → is_made_on b x ≡ true → x.process ≡ b.process
made-own m c x b fair off is = sym (port-home m x off (first-true _ _ fair)) ∙ ap (λ (b : Birth). b.process) (birth-same x.port b is)

made-side : (m : Group) (c : ℕ) (x : WaitRow) (b : Birth) → is_fair_wait m c x ≡ true → is_made_on b x ≡ true → m x.process ≡ m b.process
made-side m c x b fair is = sym (port-side m x (first-true _ _ fair)) ∙ of_birth m x.port b is

-- no events
receives-event : (x : WaitRow) (k : WaitKind) → x.kind ≡ k → (is_receive x || is_listen x) ≡ true → is_event x ≡ false
receives-event x (Event r) k is = let off : (false || false) ≡ true = rw k at is in absurd (cc)
receives-event x b k is = rw k refl

request-event : (x : WaitRow) (k : WaitKind) → x.kind ≡ k → is_request x ≡ true → is_event x ≡ false
request-event x (Event r) k is = let off : false ≡ true = rw k at is in absurd (cc)
request-event x b k is = rw k refl

no-event : (x : WaitRow) (k : WaitKind) → x.kind ≡ k → is_accepted x ≡ true → is_event x ≡ false
no-event x (Event r) k is = let off : false ≡ true = rw k at is in absurd (cc)
no-event x b k is = rw k refl

-- Receives and listens on the port or its queue
receiver-own : (m : Group) (c : ℕ) (x : WaitRow) (b : Birth) → is_fair_wait m c x ≡ true → is_receiver b x ≡ true → x.process ≡ b.process
receiver-own m c x b fair is = at (is_made_on b x) refl
  where
    at : (e : Bool) → is_made_on b x ≡ e → x.process ≡ b.process
    at true made = made-own m c x b fair (receives-event x x.kind refl (first-true _ _ is)) made
    at false off =
        let queue : same_birth x.queue b ≡ true = grind arith in
        let home : (x.queue.process == x.process) ≡ true = grind arith in
        sym (eqb-true _ _ home) ∙ ap (λ (b : Birth). b.process) (birth-same x.queue b queue)

receivers-end : (m : Group) (c : ℕ) (b : Birth) → IsEnd m c b false false (λ w. is_receiver b)
receivers-end m c b = record {
  settled = λ no_draw w x is. receiver-settled x x.kind refl (first-true _ _ is);
  other = λ out u w x s known is. wait-not-c m c x s.c_in (first-true _ _ known) (process-off m x (ap m (receiver-own m c x b (first-true _ _ known) is) ∙ out));
  unseen = λ out u w x s known is. and_left (our_wait m x) _ (process-off m x (ap m (receiver-own m c x b (first-true _ _ known) is) ∙ out));
  hidden = λ out u w x s known is. process-off m x (ap m (receiver-own m c x b (first-true _ _ known) is) ∙ out);
  connects = λ no w x is. absurd (cc);
  away = λ no out u w x s known is. absurd (cc);
  agree = λ inside u w x s known ours. refl;
  inside = λ mine u w x s known is. mine-seen m c x s.c_in (first-true _ _ known) (receiver-own m c x b (first-true _ _ known) is ∙ mine);
  thinly = λ k u x closed live. refl;
}

-- Requests that were sent on it
requests-end : (m : Group) (c : ℕ) (b : Birth) → IsEnd m c b true false (λ w. is_request_on b)
requests-end m c b = record {
  settled = λ no_draw w x is. absurd (cc);
  other = λ out u w x s known is. wait-not-c m c x s.c_in (first-true _ _ known) (process-off m x (made-side m c x b (first-true _ _ known) (second-true _ _ is) ∙ out));
  unseen = λ out u w x s known is. and_left (our_wait m x) _ (process-off m x (made-side m c x b (first-true _ _ known) (second-true _ _ is) ∙ out));
  hidden = λ out u w x s known is. process-off m x (made-side m c x b (first-true _ _ known) (second-true _ _ is) ∙ out);
  connects = λ no w x is. absurd (cc);
  away = λ no out u w x s known is. absurd (cc);
  agree = λ inside u w x s known ours. refl;
  inside = λ mine u w x s known is. mine-seen m c x s.c_in (first-true _ _ known) (made-own m c x b (first-true _ _ known) (request-event x x.kind refl (first-true _ _ is)) (second-true _ _ is) ∙ mine);
  thinly = λ k u x closed live. refl;
}

-- Requests and connects in its queue
queued-end : (m : Group) (c : ℕ) (b : Birth) → IsEnd m c b true false (λ w. is_queued_request b)
queued-end m c b = record {
  settled = λ no_draw w x is. absurd (cc);
  other = λ out u w x s known is. wait-not-c m c x s.c_in (first-true _ _ known) (queue-off m x b out (first-true _ _ (second-true _ _ is)));
  unseen = λ out u w x s known is. and_left (our_wait m x) _ (queue-off m x b out (first-true _ _ (second-true _ _ is)));
  hidden = λ out u w x s known is. queue-off m x b out (first-true _ _ (second-true _ _ is));
  connects = λ no w x is. absurd (cc);
  away = λ no out u w x s known is. absurd (cc);
  agree = λ inside u w x s known ours. refl;
  inside = λ mine u w x s known is. queue-seen m c x b s.c_in (first-true _ _ known) mine (first-true _ _ (second-true _ _ is));
  thinly = λ k u x closed live. refl;
}

offered-end : (m : Group) (c : ℕ) (b : Birth) → IsEnd m c b true true (λ w. is_offered_to b)
offered-end m c b = record {
  settled = λ no_draw w x is. absurd (cc);
  other = λ out u w x s known is. wait-not-c m c x s.c_in (first-true _ _ known) (queue-off m x b out (second-true _ _ is));
  unseen = λ out u w x s known is. and_left (our_wait m x) _ (queue-off m x b out (second-true _ _ is));
  hidden = λ out u w x s known is. queue-off m x b out (second-true _ _ is);
  connects = λ yes w x is. offered-connect x x.kind refl (first-true _ _ is);
  away = λ yes out u w x s known is.
      let fair : is_fair_wait m c x ≡ true = first-true _ _ known in
      port-side m x (first-true _ _ fair) ∙ outside m c x fair (offered-connect x x.kind refl (first-true _ _ is)) (queue-off m x b out (second-true _ _ is));
  agree = λ inside u w x s known ours. refl;
  inside = λ mine u w x s known is. queue-seen m c x b s.c_in (first-true _ _ known) mine (second-true _ _ is);
  thinly = λ k u x closed live. refl;
}

-- Across the pair
-- the port on which such a wait was made, and its pair
record Across (m : Group) (c : ℕ) (w : World) (b : Birth) (x : WaitRow) : Type 0 where
  port : PortRow
  row : port_row w x.port ≡ Some port
  pair : port.pair ≡ Some b
  side : m port.birth.process ≡ m x.process
  own : is_event x ≡ false → port.birth.process ≡ x.process
  fair : is_fair_pair m c port b ≡ true

across : (m : Group) (c : ℕ) (u w : World) (b : Birth) (x : WaitRow) → Sure m c u w → is_fair_wait m c x ≡ true → is_across w b x ≡ true → Across m c w b x
across m c u w b x s fair is = at (port_row w x.port) refl is
  where
    paired : (p : PortRow) → port_row w x.port ≡ Some p → (o : Option Birth) → p.pair ≡ o → is_the b o ≡ true → Across m c w b x
    paired p row None none is = absurd (cc)
    paired p row (Some q) some is =
        let same : b ≡ q = birth-same b q is in
        let pair : p.pair ≡ Some b = some ∙ ap (λ q. Some q) (sym same) in
        let birth : p.birth ≡ x.port = birth-same p.birth x.port (first-passes (is_port x.port) w.ports p row) in
        let ports : is_fair_port m c p ≡ true = every-first (is_fair_port m c) (is_port x.port) w.ports p s.fair.ports row in
        record {
          port = p;
          row = row;
          pair = pair;
          side = ap (λ (b : Birth). m b.process) birth ∙ port-side m x (first-true _ _ fair);
          own = λ off. ap (λ (b : Birth). b.process) birth ∙ port-home m x off (first-true _ _ fair);
          fair = pair-fair p pair ports;
        }
      where
        pair-fair : (p : PortRow) → p.pair ≡ Some b → is_fair_port m c p ≡ true → is_fair_pair m c p b ≡ true
        pair-fair p pair is = let it : (is_home p && is_fair_pair m c p b) ≡ true = rw pair at is in second-true (is_home p) (is_fair_pair m c p b) it

    at : (o : Option PortRow) → port_row w x.port ≡ o → is_the b (option_and_then (λ p. p.pair) o) ≡ true → Across m c w b x
    at None none is = absurd (cc)
    at (Some p) some is = paired p some p.pair refl is

-- of a client port, or any but a server port, the other end is a member's where it is, and it is where the other end is c's
client-out : (m : Group) (c : ℕ) (p : PortRow) (b : Birth) → is_fair_pair m c p b ≡ true → is_server_port p ≡ false → m b.process ≡ false → m p.birth.process ≡ false
client-out m c p b fair kind out = false_from_ne_true (m p.birth.process) (λ inside. let never : ((not true || false) && (not (b.process == c) || true)) ≡ true = rw (kind, inside, out) at fair in cc)

server-other : (m : Group) (c : ℕ) (p : PortRow) (b : Birth) → is_fair_pair m c p b ≡ true → is_server_port p ≡ true → m b.process ≡ false → (p.birth.process == c) ≡ false
server-other m c p b fair kind out = false_from_ne_true (p.birth.process == c) (λ mine. let never : ((not (m b.process) || m p.birth.process) && (not true || m b.process)) ≡ true = rw (kind, mine) at fair in grind arith)

pub member-in : (m : Group) (c : ℕ) (p : PortRow) (b : Birth) → is_fair_pair m c p b ≡ true → m c ≡ true → b.process ≡ c → m p.birth.process ≡ true
member-in m c p b fair c_in mine = at (is_server_port p) refl
  where
    b_in : m b.process ≡ true
    b_in = ap m mine ∙ c_in

    b_c : (b.process == c) ≡ true
    b_c = ap (λ p. p == c) mine ∙ same-number c

    at : (e : Bool) → is_server_port p ≡ e → m p.birth.process ≡ true
    at true kind = let it : ((not true || m p.birth.process) && (not (p.birth.process == c) || true)) ≡ true = rw (kind, b_in) at fair in first-true _ _ it
    at false kind = let it : ((not (m p.birth.process) || true) && (not true || m p.birth.process)) ≡ true = rw (kind, b_in, b_c) at fair in second-true _ _ it

-- the pair in a view, and where rows have gone
across-view : (m : Group) (c : ℕ) (w : World) (b : Birth) (x : WaitRow) → m b.process ≡ true → is_fair_wait m c x ≡ true → our_wait m x ≡ true → is_across (view m w) b x ≡ is_across w b x
across-view m c w b x inside fair ours =
    let own : m x.port.process ≡ true = port-side m x (first-true _ _ fair) ∙ first-true _ _ ours in
    ap (is_the b) (pair-view m w x.port own) ∙ the-seen m b (pair_of w x.port) inside

across-thin : (k : Alive) (u : World) (b : Birth) (x : WaitRow) → wait_closed k x ≡ true → is_across (thin k u) b x ≡ is_across u b x
across-thin k u b x live = rw (row-thin k u x.port (first-true _ _ live)) refl

-- a request across: on a server port its queue is the other end
server-kind : (p : PortRow) (k : PortKind) → p.kind ≡ k → is_server_port p ≡ true → (q b : Birth) → p.pair ≡ Some b → leads q p ≡ true → same_birth q b ≡ true
server-kind p Server k is q b pair on = rw (k, pair) at on
server-kind p e k is q b pair on = let off : false ≡ true = rw k at is in absurd (cc)

request-off : (m : Group) (c : ℕ) (u w : World) (b : Birth) (x : WaitRow) → m b.process ≡ false → Sure m c u w → is_known_wait m c u w x ≡ true → is_request_across b w x ≡ true → our_wait m x ≡ false
request-off m c u w b x out s known is = at (across m c u w b x s (first-true _ _ known) (second-true _ _ is))
  where
    at : Across m c w b x → our_wait m x ≡ false
    at a = by-kind (is_server_port a.port) refl
      where
        by-kind : (e : Bool) → is_server_port a.port ≡ e → our_wait m x ≡ false
        by-kind false kind = process-off m x (sym a.side ∙ client-out m c a.port b a.fair kind out)
        by-kind true kind =
            let path : is_path w x ≡ true = first-true _ _ (second-true (is_fair_wait m c x) _ known) in
            let request : is_request x ≡ true = first-true _ _ is in
            let on : (not true || leads x.queue a.port) ≡ true = rw (request, a.row) at path in
            queue-off m x b out (server-kind a.port a.port.kind refl kind x.queue b a.pair on)

request-in : (m : Group) (c : ℕ) (u w : World) (b : Birth) (x : WaitRow) → b.process ≡ c → Sure m c u w → is_known_wait m c u w x ≡ true → is_request_across b w x ≡ true → is_way m w x ≡ true → our_wait m x ≡ true
request-in m c u w b x mine s known is way = at (across m c u w b x s (first-true _ _ known) (second-true _ _ is))
  where
    at : Across m c w b x → our_wait m x ≡ true
    at a =
        let x_in : m x.process ≡ true = sym a.side ∙ member-in m c a.port b a.fair s.c_in mine in
        and_from _ _ x_in (queued (same_birth x.queue b) refl)
      where
        queued : (e : Bool) → same_birth x.queue b ≡ e → m x.queue.process ≡ true
        queued true it = of_birth m x.queue b it ∙ ap m mine ∙ s.c_in
        queued false off =
            let x_in : m x.process ≡ true = sym a.side ∙ member-in m c a.port b a.fair s.c_in mine in
            let request : is_request x ≡ true = first-true _ _ is in
            let it : (not (true && true) || (m x.queue.process || (false || false))) ≡ true = rw (request, x_in, a.row, a.pair, off) at way in
            last (m x.queue.process) it
          where
            last : (a : Bool) → (not (true && true) || (a || (false || false))) ≡ true → a ≡ true
            last true is = refl
            last false is = absurd (cc)

known-way : (m : Group) (c : ℕ) (u w : World) (x : WaitRow) → Sure m c u w → is_known_wait m c u w x ≡ true → is_way m w x ≡ true
known-way m c u w x s known =
    let fair : is_fair_wait m c x ≡ true = first-true _ _ known in
    let path : is_path w x ≡ true = first-true (is_path w x) _ (second-true (is_fair_wait m c x) _ known) in
    path-way m c w x s.fine (and_from _ _ fair path)

requests-across : (m : Group) (c : ℕ) (b : Birth) → IsEnd m c b true false (is_request_across b)
requests-across m c b = record {
  settled = λ no_draw w x is. absurd (cc);
  other = λ out u w x s known is. wait-not-c m c x s.c_in (first-true _ _ known) (request-off m c u w b x out s known is);
  unseen = λ out u w x s known is. and_left (our_wait m x) _ (request-off m c u w b x out s known is);
  hidden = λ out u w x s known is. request-off m c u w b x out s known is;
  connects = λ no w x is. absurd (cc);
  away = λ no out u w x s known is. absurd (cc);
  agree = λ inside u w x s known ours. ap (λ e. is_request x && e) (across-view m c w b x inside (first-true _ _ known) ours);
  inside = λ mine u w x s known is. request-in m c u w b x mine s known is (known-way m c u w x s known);
  thinly = λ k u x closed live. ap (λ e. is_request x && e) (across-thin k u b x live);
}

-- receives across, on client ports
row-client : (m : Group) (w : World) (b : Birth) → m b.process ≡ true → passes (port_row (view m w) b) is_client_port ≡ passes (port_row w b) is_client_port
row-client m w b is = ap (λ o. passes o is_client_port) (port-view m w b is) ∙ at (port_row w b)
  where
    at : (o : Option PortRow) → passes (option_map (seen_port m) o) is_client_port ≡ passes o is_client_port
    at None = refl
    at (Some p) = refl

client-kind : (p : PortRow) (k : PortKind) → p.kind ≡ k → is_client_port p ≡ true → is_server_port p ≡ false
client-kind p Server k is = let off : false ≡ true = rw k at is in absurd (cc)
client-kind p b k is = rw k refl

receive-off : (m : Group) (c : ℕ) (u w : World) (b : Birth) (x : WaitRow) → m b.process ≡ false → Sure m c u w → is_known_wait m c u w x ≡ true → is_receive_across b w x ≡ true → our_wait m x ≡ false
receive-off m c u w b x out s known is = at (across m c u w b x s (first-true _ _ known) (first-true _ _ (second-true _ _ is)))
  where
    at : Across m c w b x → our_wait m x ≡ false
    at a =
        let there : passes (port_row w x.port) is_client_port ≡ true = second-true (is_across w b x) _ (second-true (is_receive x) _ is) in
        let client : is_client_port a.port ≡ true = rw a.row at there in
        process-off m x (sym a.side ∙ client-out m c a.port b a.fair (client-kind a.port a.port.kind refl client) out)

receive-in : (m : Group) (c : ℕ) (u w : World) (b : Birth) (x : WaitRow) → b.process ≡ c → Sure m c u w → is_known_wait m c u w x ≡ true → is_receive_across b w x ≡ true → our_wait m x ≡ true
receive-in m c u w b x mine s known is = at (across m c u w b x s (first-true _ _ known) (first-true _ _ (second-true _ _ is)))
  where
    at : Across m c w b x → our_wait m x ≡ true
    at a =
        let x_in : m x.process ≡ true = sym a.side ∙ member-in m c a.port b a.fair s.c_in mine in
        let home : (x.queue.process == x.process) ≡ true = receives-home x (first-true _ _ known) (first-true _ _ is) in
        and_from _ _ x_in (ap m (eqb-true _ _ home) ∙ x_in)
      where
        receives-home : (x : WaitRow) → is_fair_wait m c x ≡ true → is_receive x ≡ true → (x.queue.process == x.process) ≡ true
        receives-home x fair is = grind arith

receives-across : (m : Group) (c : ℕ) (b : Birth) → IsEnd m c b false false (is_receive_across b)
receives-across m c b = record {
  settled = λ no_draw w x is. receiver-settled x x.kind refl (or_left (is_receive x) (is_listen x) (first-true _ _ is));
  other = λ out u w x s known is. wait-not-c m c x s.c_in (first-true _ _ known) (receive-off m c u w b x out s known is);
  unseen = λ out u w x s known is. and_left (our_wait m x) _ (receive-off m c u w b x out s known is);
  hidden = λ out u w x s known is. receive-off m c u w b x out s known is;
  connects = λ no w x is. absurd (cc);
  away = λ no out u w x s known is. absurd (cc);
  agree = λ inside u w x s known ours.
      let own : m x.port.process ≡ true = port-side m x (first-true _ _ (first-true _ _ known)) ∙ first-true _ _ ours in
      rw (row-client m w x.port own, across-view m c w b x inside (first-true _ _ known) ours) refl;
  inside = λ mine u w x s known is. receive-in m c u w b x mine s known is;
  thinly = λ k u x closed live. rw (row-thin k u x.port (first-true _ _ live)) refl;
}

-- accepted connects, on either end
accepted-other : (m : Group) (c : ℕ) (u w : World) (b : Birth) (x : WaitRow) → m b.process ≡ false → Sure m c u w → is_known_wait m c u w x ≡ true → is_accepted_across b w x ≡ true → (x.process == c) ≡ false
accepted-other m c u w b x out s known is = at (is_made_on b x) refl
  where
    over : Across m c w b x → (x.process == c) ≡ false
    over a = by-kind (is_server_port a.port) refl
      where
        by-kind : (e : Bool) → is_server_port a.port ≡ e → (x.process == c) ≡ false
        by-kind false kind = wait-not-c m c x s.c_in (first-true _ _ known) (process-off m x (sym a.side ∙ client-out m c a.port b a.fair kind out))
        by-kind true kind = sym (ap (λ p. p == c) (a.own (no-event x x.kind refl (first-true _ _ is)))) ∙ server-other m c a.port b a.fair kind out

    at : (e : Bool) → is_made_on b x ≡ e → (x.process == c) ≡ false
    at true made = wait-not-c m c x s.c_in (first-true _ _ known) (process-off m x (made-side m c x b (first-true _ _ known) made ∙ out))
    at false off = over (across m c u w b x s (first-true _ _ known) (or-second (is_made_on b x) (is_across w b x) off (second-true _ _ is)))

accepted-in : (m : Group) (c : ℕ) (u w : World) (b : Birth) (x : WaitRow) → b.process ≡ c → Sure m c u w → is_known_wait m c u w x ≡ true → is_accepted_across b w x ≡ true → our_wait m x ≡ true
accepted-in m c u w b x mine s known is = at (is_made_on b x) refl
  where
    connects : (x : WaitRow) → is_fair_wait m c x ≡ true → is_accepted x ≡ true → m x.process ≡ true → our_wait m x ≡ true
    connects x fair accepted inside = grind arith

    over : Across m c w b x → our_wait m x ≡ true
    over a = connects x (first-true _ _ known) (first-true _ _ is) (sym a.side ∙ member-in m c a.port b a.fair s.c_in mine)

    at : (e : Bool) → is_made_on b x ≡ e → our_wait m x ≡ true
    at true made = mine-seen m c x s.c_in (first-true _ _ known) (made-own m c x b (first-true _ _ known) (no-event x x.kind refl (first-true _ _ is)) made ∙ mine)
    at false off = over (across m c u w b x s (first-true _ _ known) (or-second (is_made_on b x) (is_across w b x) off (second-true _ _ is)))

-- a connect waits on a client port, whose other end is a member's where it is
no-server : (m : Group) (c : ℕ) (u w : World) (x : WaitRow) (p : PortRow) → is_known_wait m c u w x ≡ true → is_connect x ≡ true → port_row w x.port ≡ Some p → is_server_port p ≡ false
no-server m c u w x p known connect row =
    let client : is_client_wait w x ≡ true = second-true (is_owned u x) _ (second-true (is_path w x) _ (second-true (is_fair_wait m c x) _ known)) in
    let none : every (is_no_server_at x.port) w.ports ≡ true = rw connect at client in
    let here : is_port x.port p ≡ true = first-passes (is_port x.port) w.ports p row in
    let off : is_no_server_at x.port p ≡ true = every-first (is_no_server_at x.port) (is_port x.port) w.ports p none row in
    let it : not (true && is_server_port p) ≡ true = rw here at off in
    not-true (is_server_port p) it

accepted-away : (m : Group) (c : ℕ) (u w : World) (b : Birth) (x : WaitRow) → m b.process ≡ false → Sure m c u w → is_known_wait m c u w x ≡ true → is_accepted_across b w x ≡ true → m x.port.process ≡ false
accepted-away m c u w b x out s known is = port-side m x (first-true _ _ (first-true (is_fair_wait m c x) _ known)) ∙ at (is_made_on b x) refl
  where
    over : Across m c w b x → m x.process ≡ false
    over a = sym a.side ∙ client-out m c a.port b a.fair (no-server m c u w x a.port known (accepted-connect x x.kind refl (first-true _ _ is)) a.row) out

    at : (e : Bool) → is_made_on b x ≡ e → m x.process ≡ false
    at true made = made-side m c x b (first-true _ _ known) made ∙ out
    at false off = over (across m c u w b x s (first-true _ _ known) (or-second (is_made_on b x) (is_across w b x) off (second-true _ _ is)))

accepted-across : (m : Group) (c : ℕ) (b : Birth) → IsEnd m c b false true (is_accepted_across b)
accepted-across m c b = record {
  settled = λ no_draw w x is. accepted-settled x x.kind refl (first-true _ _ is);
  other = λ out u w x s known is. accepted-other m c u w b x out s known is;
  unseen = λ out u w x s known is. rw (accepted-takes x x.kind refl (first-true _ _ is)) (and-false (our_wait m x));
  hidden = λ out u w x s known is. process-off m x (sym (port-side m x (first-true _ _ (first-true _ _ known))) ∙ accepted-away m c u w b x out s known is);
  connects = λ yes w x is. accepted-connect x x.kind refl (first-true _ _ is);
  away = λ yes out u w x s known is. accepted-away m c u w b x out s known is;
  agree = λ inside u w x s known ours. ap (λ e. is_accepted x && (is_made_on b x || e)) (across-view m c w b x inside (first-true _ _ known) ours);
  inside = λ mine u w x s known is. accepted-in m c u w b x mine s known is;
  thinly = λ k u x closed live. ap (λ e. is_accepted x && (is_made_on b x || e)) (across-thin k u b x live);
}

-- Events
-- an event asks
event-asks : (x : WaitRow) → is_event x ≡ true → is_asking x ≡ true
event-asks x is = grind arith

implied : (a b : Bool) → a ≡ true → (not a || b) ≡ true → b ≡ true
implied a b one two = grind arith

-- one that isn't marked, in the view
unmarked-view : (m : Group) (w : World) (x : WaitRow) → our_wait m x ≡ true → is_seen_mark m w x ≡ true → is_unmarked_event (view m w) x ≡ is_unmarked_event w x
unmarked-view m w x ours seen = at (is_event x) refl
  where
    at : (e : Bool) → is_event x ≡ e → (is_event x && not (is_marked (view m w) x)) ≡ (is_event x && not (is_marked w x))
    at false off = rw off refl
    at true on =
        let mark : our_mark m w x.thread ≡ true = implied (our_wait m x && is_event x) (our_mark m w x.thread) (and_from _ _ ours on) seen in
        ap (λ e. is_event x && not e) (mark-view m w x.thread mark)

event-in : (m : Group) (x : WaitRow) → is_event x ≡ true → is_fair_raise m x ≡ true → m x.process ≡ true → our_wait m x ≡ true
event-in m x on fair inside = grind arith

-- those that were sent on the port, and those in its queue
events-marks : (m : Group) (c : ℕ) (b : Birth) → IsMark m c b (is_event_on b)
events-marks m c b = record {
  event = λ w x is. first-true _ _ (first-true _ _ is);
  unseen = λ out u w x s known is. process-off m x (made-side m c x b (first-true _ _ known) (second-true _ _ is) ∙ out);
  agree = λ inside u w x s known ours seen. ap (λ e. e && is_made_on b x) (unmarked-view m w x ours seen);
  inside = λ mine u w x s known fair is. event-in m x (first-true _ _ (first-true _ _ is)) fair (made-side m c x b (first-true _ _ known) (second-true _ _ is) ∙ ap m mine ∙ s.c_in);
  thinly = λ k u x closed live. refl;
}

queued-marks : (m : Group) (c : ℕ) (b : Birth) → IsMark m c b (is_queued_event b)
queued-marks m c b = record {
  event = λ w x is. first-true _ _ (first-true _ _ is);
  unseen = λ out u w x s known is. queue-off m x b out (first-true _ _ (second-true (is_unmarked_event w x) _ is));
  agree = λ inside u w x s known ours seen. ap (λ e. e && (same_birth x.queue b && not x.received)) (unmarked-view m w x ours seen);
  inside = λ mine u w x s known fair is. queue-seen m c x b s.c_in (first-true _ _ known) mine (first-true _ _ (second-true (is_unmarked_event w x) _ is));
  thinly = λ k u x closed live. refl;
}

-- and those across the pair
event-off : (m : Group) (c : ℕ) (u w : World) (b : Birth) (x : WaitRow) → m b.process ≡ false → Sure m c u w → is_known_wait m c u w x ≡ true → is_event x ≡ true → is_across w b x ≡ true → our_wait m x ≡ false
event-off m c u w b x out s known on is = at (across m c u w b x s (first-true _ _ known) is)
  where
    at : Across m c w b x → our_wait m x ≡ false
    at a = by-kind (is_server_port a.port) refl
      where
        by-kind : (e : Bool) → is_server_port a.port ≡ e → our_wait m x ≡ false
        by-kind false kind = process-off m x (sym a.side ∙ client-out m c a.port b a.fair kind out)
        by-kind true kind =
            let path : is_path w x ≡ true = first-true _ _ (second-true (is_fair_wait m c x) _ known) in
            let there : passes (port_row w x.port) (leads x.queue) ≡ true = implied (is_asking x) (passes (port_row w x.port) (leads x.queue)) (event-asks x on) path in
            let lead : leads x.queue a.port ≡ true = rw a.row at there in
            queue-off m x b out (server-kind a.port a.port.kind refl kind x.queue b a.pair lead)

marks-across : (m : Group) (c : ℕ) (b : Birth) → IsMark m c b (is_event_across b)
marks-across m c b = record {
  event = λ w x is. first-true _ _ (first-true _ _ is);
  unseen = λ out u w x s known is. event-off m c u w b x out s known (first-true _ _ (first-true _ _ is)) (second-true (is_unmarked_event w x) _ is);
  agree = λ inside u w x s known ours seen. ap (λ e. e && is_across (view m w) b x) (unmarked-view m w x ours seen) ∙ ap (λ e. is_unmarked_event w x && e) (across-view m c w b x inside (first-true _ _ known) ours);
  inside = λ mine u w x s known fair is.
      let a : Across m c w b x = across m c u w b x s (first-true _ _ known) (second-true (is_unmarked_event w x) _ is) in
      event-in m x (first-true _ _ (first-true _ _ is)) fair (sym a.side ∙ member-in m c a.port b a.fair s.c_in mine);
  thinly = λ k u x closed live. ap (λ e. is_unmarked_event u x && e) (across-thin k u b x live);
}

-- The stages
-- who isn't told, isn't shown anything
lone-shown : (m : Group) (side : Bool) (w : World) (x : Basic) → told x ≡ [] → are_shown false m side w (x ∷ []) ≡ true
lone-shown m side w (Wakes who call status fields) silent = absurd (cc)
lone-shown m side w (Tells e) silent = absurd (cc)
lone-shown m side w x silent = refl

-- one step by which rows go
lone-stage : (m : Group) (c : ℕ) (b : Birth) (x : Basic) → is_loss b x ≡ true → no_mark x ≡ true → told x ≡ [] → ((w : World) → Asked w → Asked (basic w x)) → ((u : World) (d : Whose) (w : World) → m b.process ≡ false → (is_apart m c u d w x && is_regular m w x) ≡ true) → ((k : Alive) → is_closed k x ≡ true) → Stage m c b (doing (x ∷ []))
lone-stage m c b x loss unmarked silent asked apart closed = record {
  losses = λ w. all;
  good = record {
    mild = λ w. losses-mild b (x ∷ []) all;
    sent = λ w. losses-sent b w (x ∷ []) all;
    fair = λ u w s. losses-fair m c b w (x ∷ []) all;
    asked = λ u w s. asked w s.asked;
    apart = λ u d w s out. and_from _ _ (apart u d w out) refl;
    mute = λ u d w memo s n out. subst (λ es. entries_memo m (view m w) memo (told_inputs m c u d (es ++ [])) ≡ memo) (sym silent) refl;
    shown = λ u w s n side is. lone-shown m side w x silent;
    ours = λ u w s mine. losses-ours m b w (x ∷ []) (ap m mine ∙ s.c_in) all (and_from _ _ unmarked refl);
    led = λ u d w s inside. led-same m c u d w (x ∷ []) (losses-ours m b w (x ∷ []) inside all (and_from _ _ unmarked refl));
    same = λ u w s mine. refl;
    alike = λ k u closed live. refl;
    stands = λ k u _ live. and_from _ _ (closed k) refl;
  };
}
  where
    all : AreLosses b (x ∷ [])
    all = and_from _ _ loss refl

unbinds-stage : (m : Group) (c : ℕ) (b : Birth) → Stage m c b (drop_name b)
unbinds-stage m c b = lone-stage m c b (Unbinds b) refl refl refl (λ w a. basic-asked w (Unbinds b) refl a) (λ u d w out. rw out refl) (λ k. refl)

empties-stage : (m : Group) (c : ℕ) (b : Birth) → Stage m c b (doing (Empties b ∷ []))
empties-stage m c b = lone-stage m c b (Empties b) refl refl refl (λ w a. basic-asked w (Empties b) refl a) (λ u d w out. rw out refl) (λ k. refl)

cuts-stage : (m : Group) (c : ℕ) (b : Birth) → Stage m c b (doing (Cuts b ∷ []))
cuts-stage m c b = lone-stage m c b (Cuts b) (birth-self b) refl refl (λ w a. basic-asked w (Cuts b) refl a) (λ u d w out. rw out refl) (λ k. refl)

emptied : (m : Group) (c : ℕ) (b : Birth) → Stage m c b (empty_queue b)
emptied m c b =
    then-stage m c b _ _ (end-stage m c b true false LPC_REPLY_LOST [] (λ w. is_queued_request b) (queued-end m c b) refl)
    (then-stage m c b _ _ (mark-stage m c b (is_queued_event b) (queued-marks m c b))
    (then-stage m c b _ _ (end-stage m c b true true PORT_CONNECTION_REFUSED (info [] ∷ []) (λ w. is_offered_to b) (offered-end m c b) refl) (empties-stage m c b)))

pub cut-off : (m : Group) (c : ℕ) (b : Birth) → Stage m c b (cut_pair b)
cut-off m c b =
    then-stage m c b _ _ (end-stage m c b true false LPC_REPLY_LOST [] (is_request_across b) (requests-across m c b) refl)
    (then-stage m c b _ _ (mark-stage m c b (is_event_across b) (marks-across m c b))
    (then-stage m c b _ _ (end-stage m c b false false PORT_DISCONNECTED [] (is_receive_across b) (receives-across m c b) refl)
    (then-stage m c b _ _ (end-stage m c b false true PORT_CONNECTION_REFUSED (info [] ∷ []) (is_accepted_across b) (accepted-across m c b) refl) (cuts-stage m c b))))

-- the closing of a port
pub close-good : (m : Group) (c : ℕ) (b : Birth) → Good m c b (close_port b)
unfolding close_port
close-good m c b =
    then-good m c b _ _ (unbinds-stage m c b)
    (then-good m c b _ _ (end-stage m c b false false PORT_DISCONNECTED [] (λ w. is_receiver b) (receivers-end m c b) refl)
    (then-good m c b _ _ (end-stage m c b true false PORT_DISCONNECTED [] (λ w. is_request_on b) (requests-end m c b) refl)
    (then-good m c b _ _ (mark-stage m c b (is_event_on b) (events-marks m c b))
    (then-good m c b _ _ (emptied m c b)
    (then-good m c b _ _ (cut-off m c b) (disowns-good m c b (post_closed b) (post-good m c b)))))))
