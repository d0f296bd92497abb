-- Closing a port leaves sound waits behind, and none that needs it open.
use Rattle.std.proofs.Common.{◌≡◌, ◌∙◌, ℕ, List, [], ◌∷◌, ◌++◌, Bool, true, false, cond, not, Option, Some, None, refl, sym, ap, subst, arith}
use Rattle.std.specs.Prelude.{◌&&◌, ◌||◌, option_and_then, option_map}
use Rattle.lpc_base.specs.Rows.{change, each, every, first, given, which, without}
use Rattle.lpc_base.specs.declared.status.TheConstants.{LPC_REPLY_LOST, PORT_CONNECTION_REFUSED, PORT_DISCONNECTED, SUCCESS}
use Rattle.lpc_base.proofs.RowWords.{every-any, every-more, every-without}
use Rattle.lpc_base.proofs.RowMaps.{every-both}
use Rattle.lpc_names.specs.Binding.{is_name}
use Rattle.lpc_model.specs.World.{Birth, Creator, PortRow, WaitRow, World, no_rows}
use Rattle.lpc_model.specs.Found.{is_accepted, is_made_on, is_offered, is_port, is_receive, is_request, is_the, pair_of, port_row, same_birth, waits_as, is_event, is_marked}
use Rattle.lpc_model.specs.Basics.{Basic, Cuts, DropsOwned, Empties, Enters, Steps, doing, basic, cut, end_each, is_end_of, world_after, ◌▹◌, left_by}
use Rattle.lpc_model.specs.Fields.{info}
use Rattle.lpc_model.specs.Entering.{enter, given_steps, shown, takes, woken}
use Rattle.lpc_model.specs.Close.{close_port, closed_row, cut_pair, drop_name, drop_owned, empty_queue, end_accepted, end_offered, end_receives, end_request, end_requests, is_accepted_across, is_across, is_offered_to, is_queued_request, is_receive_across, is_receiver, is_request_across, is_request_on, post_closed, server_of, closing_post, wake, is_event_across, is_queued_event, is_unmarked_event, mark_event, mark_events}
use Rattle.lpc_model.specs.SoundWaits.{IsSoundWorld}
use Rattle.lpc_model.proofs.Steps.Rows.{every-left}
use Rattle.lpc_model.proofs.Sound.Pairs.{tied}
use Rattle.lpc_model.proofs.Sound.Worlds.{by_kind, sound-memory}
use Rattle.lpc_model.proofs.Sound.Calls.{entered-sound}
use Rattle.lpc_model.proofs.Steps.Closing.{fewer-accepts, stage_five, stage_four, stage_one, stage_six, stage_three, stage_two, then-holds, unasked, uncut, unreceived, across_marked, stage_marked, behind}
use Rattle.lpc_model.proofs.Sound.Less.{IsLess, Turns, is_unqueued, ended-each, less-emptied, less-none, sound-unbinds, turns-disowned, turns-told, turns-withdrawn, keeps-same, keeps_mark, marked-each, or-then, shares}
use Rattle.lpc_model.proofs.Sound.Cuts.{cut-row, every-rest, is_free_of, no-row, parted, parted-world, sound-parted, rest, rest-ends, still-rest, ended-world}
use Rattle.lpc_model.proofs.Sound.Basics.{still-marked}

-- A port that is being closed
-- an event that needs what goes is marked
abbrev pub is_clear : World → (WaitRow → Bool) → WaitRow → Bool
is_clear v hit x = not (is_event x && hit x) || is_marked v x

pub clear-kept : (v u : World) (hit : WaitRow → Bool) → IsLess v u → every (is_clear v hit) v.waits ≡ true → every (is_clear u hit) u.waits ≡ true
clear-kept v u hit l all = every-both (is_clear v hit) (keeps_mark v u) (is_clear u hit) (λ x one two. parts (is_event x && hit x) (is_marked v x) (is_marked u x) one two) u.waits (l.waits (is_clear v hit) all) l.marks
  where
    parts : (e m k : Bool) → (not e || m) ≡ true → (not m || k) ≡ true → (not e || k) ≡ true
    parts e m k one two = grind arith

-- a sound world in which no name leads to the port, something is known of each wait, and ports and handles are as at first
record Stage (w v : World) (b : Birth) (known hit : WaitRow → Bool) : Type 0 where
  sound : IsSoundWorld v
  names : every (λ x. not (is_name same_birth b x)) v.bindings ≡ true
  all : every known v.waits ≡ true
  events : every (is_clear v hit) v.waits ≡ true
  ports : v.ports ≡ w.ports
  handles : v.handles ≡ w.handles

stage-less : (w v u : World) (b : Birth) (known hit : WaitRow → Bool) → IsLess v u → Stage w v b known hit → Stage w u b known hit
stage-less w v u b known hit l t = record {
  sound = l.sound;
  names = rw l.bindings t.names;
  all = l.waits known t.all;
  events = clear-kept v u hit l t.events;
  ports = l.ports ∙ t.ports;
  handles = l.handles ∙ t.handles;
}

both-parts : (a b : Bool) → a ≡ true → not b ≡ true → (a && not b) ≡ true
both-parts a b one two = grind arith

stage-each : (w v : World) (b : Birth) (known hit test : WaitRow → Bool) (ending : WaitRow → List Basic) → ((x : WaitRow) → test x ≡ true → is_accepted x ≡ false) → Turns ending → Stage w v b known hit
    → Stage w (world_after v (each ending (which test v.waits))) b (λ x. known x && not (test x)) hit
stage-each w v b known hit test ending off turns t =
    let u = world_after v (each ending (which test v.waits)) in
    let ended = ended-each v test ending off turns t.sound in
    let less = stage-less w v u b known hit ended.less t in
    record {
      sound = less.sound;
      names = less.names;
      all = every-both known (λ x. not (test x)) (λ x. known x && not (test x)) (λ x one two. both-parts (known x) (test x) one two) u.waits less.all ended.none;
      events = less.events;
      ports = less.ports;
      handles = less.handles;
    }

-- events that pass are marked
stage-marks : (w v : World) (b : Birth) (known hit test : WaitRow → Bool) → Stage w v b known hit → Stage w (world_after v (each mark_event (which (λ x. is_unmarked_event v x && test x) v.waits))) b known (λ x. hit x || test x)
stage-marks w v b known hit test t =
    let u = world_after v (each mark_event (which (λ x. is_unmarked_event v x && test x) v.waits)) in
    let marked = marked-each v test t.sound in
    let less = stage-less w v u b known hit marked.less t in
    record {
      sound = less.sound;
      names = less.names;
      all = less.all;
      events = every-both (is_clear u hit) (is_clear u test) (is_clear u (λ x. hit x || test x)) (λ x one two. parts (is_event x) (hit x) (test x) (is_marked u x) one two) u.waits less.events marked.all;
      ports = less.ports;
      handles = less.handles;
    }
  where
    parts : (e h t m : Bool) → (not (e && h) || m) ≡ true → (not (e && t) || m) ≡ true → (not (e && (h || t)) || m) ≡ true
    parts e h t m one two = grind arith

-- the tests pass no accepted connect
receiver-quiet : (b : Birth) (x : WaitRow) → is_receiver b x ≡ true → is_accepted x ≡ false
receiver-quiet b = by_kind (λ x. is_receiver b x ≡ true → is_accepted x ≡ false) (λ x m is. refl) (λ x is. refl) (λ x is. refl) (λ x m offer is. refl) (λ x m r is. absurd (cc)) (λ x m is. refl)

pub request-quiet : (x : WaitRow) (c : Bool) → (is_request x && c) ≡ true → is_accepted x ≡ false
request-quiet x c = by_kind (λ x. (is_request x && c) ≡ true → is_accepted x ≡ false) (λ x m is. refl) (λ x is. refl) (λ x is. refl) (λ x m offer is. refl) (λ x m r is. absurd (cc)) (λ x m is. refl) x

pub receive-quiet : (x : WaitRow) (c : Bool) → (is_receive x && c) ≡ true → is_accepted x ≡ false
receive-quiet x c = by_kind (λ x. (is_receive x && c) ≡ true → is_accepted x ≡ false) (λ x m is. refl) (λ x is. refl) (λ x is. refl) (λ x m offer is. refl) (λ x m r is. absurd (cc)) (λ x m is. refl) x

offered-quiet : (x : WaitRow) (c : Bool) → (is_offered x && c) ≡ true → is_accepted x ≡ false
offered-quiet x c = by_kind (λ x. (is_offered x && c) ≡ true → is_accepted x ≡ false) (λ x m is. refl) (λ x is. refl) (λ x is. refl) (λ x m offer is. refl) (λ x m r is. absurd (cc)) (λ x m is. refl) x

-- a wait that ends leaves the marks of the others
pub left-marks : (w : World) (who : ℕ) → every (keeps_mark w (left_by who w)) (without (waits_as who) w.waits) ≡ true
left-marks w who = every-more (λ y. not (waits_as who y)) (keeps_mark w (left_by who w)) (λ y off. or-then (is_marked w y) (is_marked (left_by who w) y) (still-marked who y w.marks off)) (without (waits_as who) w.waits) (every-left (waits_as who) w.waits)

-- 6: what is posted
abbrev behind_given : World → PortRow → Birth → Creator → Option WaitRow → World
behind_given w p queue by o =
    let m = closed_row p queue by in world_after (basic w (Enters m)) (given o (λ x. given_steps x m ++ woken SUCCESS (shown x m) x ∷ []))

given-less : (w : World) (p : PortRow) (queue : Birth) (by : Creator) (o : Option WaitRow) → IsSoundWorld (behind_given w p queue by o) → IsLess w (behind_given w p queue by o)
given-less w p queue by None t = record { sound = t; waits = λ f all. all; marks = keeps-same w w.waits; ports = refl; handles = refl; bindings = refl }
given-less w p queue by (Some x) t =
    by_kind (λ x. IsSoundWorld (behind_given w p queue by (Some x)) → IsLess w (behind_given w p queue by (Some x)))
    (λ x r t. record { sound = t; waits = λ f all. every-without f (waits_as x.thread) w.waits all; marks = left-marks w x.thread; ports = refl; handles = refl; bindings = refl })
    (λ x t. record { sound = t; waits = λ f all. every-without f (waits_as x.thread) w.waits all; marks = left-marks w x.thread; ports = refl; handles = refl; bindings = refl })
    (λ x t. record { sound = t; waits = λ f all. every-without f (waits_as x.thread) w.waits all; marks = left-marks w x.thread; ports = refl; handles = refl; bindings = refl })
    (λ x r offer t. record { sound = t; waits = λ f all. every-without f (waits_as x.thread) w.waits all; marks = left-marks w x.thread; ports = refl; handles = refl; bindings = refl })
    (λ x r reply t. record { sound = t; waits = λ f all. every-without f (waits_as x.thread) w.waits all; marks = left-marks w x.thread; ports = refl; handles = refl; bindings = refl })
    (λ x r t. record { sound = t; waits = λ f all. every-without f (waits_as x.thread) w.waits all; marks = left-marks w x.thread; ports = refl; handles = refl; bindings = refl }) x t

pub posted-less : (w : World) (b : Birth) → IsSoundWorld w → IsLess w (world_after w (post_closed b w))
posted-less w b s = at (port_row w b)
  where
    by_creator : (p : PortRow) (queue : Birth) (o : Option Creator) → IsLess w (world_after w (given (option_map (closed_row p queue) o) (λ m. enter m w)))
    by_creator p queue None = less-none w s
    by_creator p queue (Some by) = given-less w p queue by (first (takes (closed_row p queue by)) w.waits) (entered-sound w (closed_row p queue by) s)

    queued : (p : PortRow) (o : Option Birth) → IsLess w (world_after w (given (option_and_then (λ queue. option_map (closed_row p queue) p.creator) o) (λ m. enter m w)))
    queued p None = less-none w s
    queued p (Some queue) = by_creator p queue p.creator

    at : (o : Option PortRow) → IsLess w (world_after w (given o (λ p. given (closing_post w p) (λ m. enter m w))))
    at None = less-none w s
    at (Some p) = queued p (server_of w p)

-- All steps
-- what is known of each wait once the port is closed: it doesn't need the port open
abbrev pub is_apart_from : World → Birth → WaitRow → Bool
is_apart_from w b x =
    not (is_receiver b x) && (not (is_request_on b x) && (not (is_queued_request b x) && (not (is_offered_to b x) && not (is_accepted x && is_across w b x))))

-- an event needs a port on which it was sent, and one in whose queue it stands
abbrev pub needs_port : Birth → WaitRow → Bool
needs_port b x = is_made_on b x || (same_birth x.queue b && not x.received)

pub record IsShut (w v : World) (b : Birth) : Type 0 where
  pub sound : IsSoundWorld v
  pub waits : every (is_apart_from v b) v.waits ≡ true
  pub events : every (is_clear v (needs_port b)) v.waits ≡ true
  pub names : every (λ x. not (is_name same_birth b x)) v.bindings ≡ true
  pub handles : v.handles ≡ w.handles
  pub ports : v.ports ≡ change (is_end_of b) cut w.ports

-- no port is paired with one that is cut
no-pair : (w : World) (b c : Birth) → is_the b (pair_of (basic w (Cuts b)) c) ≡ false
no-pair w b c = at (port_row w c) refl
  where
    here : (p : PortRow) (own paired : Bool) → is_the b p.pair ≡ paired → let q : PortRow = cond (own || paired) (cut p) p in is_the b q.pair ≡ false
    here p true paired is = refl
    here p false true is = refl
    here p false false is = is

    at : (o : Option PortRow) → port_row w c ≡ o → is_the b (pair_of (basic w (Cuts b)) c) ≡ false
    at None none = rw (no-row w b c none) refl
    at (Some p) row = rw (cut-row w b c p row) (here p (is_port b p) (is_the b p.pair) refl)

-- what is known at each stage
abbrev known_queue : Birth → WaitRow → Bool
known_queue b x = (((true && not (is_receiver b x)) && not (is_request_on b x)) && not (is_queued_request b x)) && not (is_offered_to b x)

abbrev hit_one : Birth → WaitRow → Bool
hit_one b x = false || is_made_on b x

abbrev hit_queue : Birth → WaitRow → Bool
hit_queue b x = hit_one b x || (same_birth x.queue b && not x.received)

abbrev hit_pair : World → Birth → WaitRow → Bool
hit_pair w b x = hit_queue b x || is_across w b x

abbrev known_pair : World → Birth → WaitRow → Bool
known_pair w b x = (known_queue b x && not (is_request_across b w x)) && not (is_receive_across b w x)

unqueued : (r q u o e m d s : Bool) → ((((true && not r) && not q) && not u) && not o) ≡ true → (not (e && ((false || d) || s)) || m) ≡ true → ((not u && not o) && not ((e && not m) && s)) ≡ true
unqueued r q u o e m d s is clear = grind arith

free-parts : (r q u o a c e m d s x : Bool) → ((((((true && not r) && not q) && not u) && not o) && not a) && not c) ≡ true → (not (e && (((false || d) || s) || x)) || m) ≡ true → (not r && (not q && (not a && (not c && (not ((e && not m) && d) && not ((e && not m) && x)))))) ≡ true
free-parts r q u o a c e m d s x is clear = grind arith

shut-parts : (r q u o a c d e : Bool) → ((((((true && not r) && not q) && not u) && not o) && not a) && not c) ≡ true → e ≡ false → (not r && (not q && (not u && (not o && not (d && e))))) ≡ true
shut-parts r q u o a c d e is off = grind arith

-- step 4
abbrev known_one : Birth → WaitRow → Bool
known_one b x = (true && not (is_receiver b x)) && not (is_request_on b x)

unqueued-stage : (w v : World) (b : Birth) → Stage w v b (known_one b) (hit_one b) → Stage w (world_after v (empty_queue b v)) b (known_queue b) (hit_queue b)
unqueued-stage w v b t =
    let P : World → Type 0 = λ u. Stage w u b (known_queue b) (hit_queue b) in
    let requests : Steps = end_each (λ w. is_queued_request b) (end_request LPC_REPLY_LOST) in
    let events : Steps = end_each (is_queued_event b) mark_event in
    let offers : Steps = end_each (λ w. is_offered_to b) end_offered in
    let last : Steps = doing (Empties b ∷ []) in
    let v1 = world_after v (requests v) in
    let t1 = stage-each w v b (known_one b) (hit_one b) (is_queued_request b) (end_request LPC_REPLY_LOST) (λ x is. request-quiet x _ is) (turns-withdrawn LPC_REPLY_LOST []) t in
    let v2 = world_after v1 (events v1) in
    let t2 = stage-marks w v1 b _ (hit_one b) (λ x. same_birth x.queue b && not x.received) t1 in
    let v3 = world_after v2 (offers v2) in
    let t3 = stage-each w v2 b _ (hit_queue b) (is_offered_to b) end_offered (λ x is. offered-quiet x _ is) (turns-disowned PORT_CONNECTION_REFUSED (info [] ∷ [])) t2 in
    then-holds P requests (events ▹ (offers ▹ last)) v (then-holds P events (offers ▹ last) v1 (then-holds P offers last v2
    (stage-less w v3 (basic v3 (Empties b)) b (known_queue b) (hit_queue b) (less-emptied v3 b (every-both (known_queue b) (is_clear v3 (hit_queue b)) (is_unqueued v3 b) (λ x one two. unqueued (is_receiver b x) (is_request_on b x) (is_queued_request b x) (is_offered_to b x) (is_event x) (is_marked v3 x) (is_made_on b x) (same_birth x.queue b && not x.received) one two) v3.waits t3.all t3.events) t3.sound) t3)))

-- step 5
-- marks of waits that are left by accepted connects that end
pub parted-clear : (v : World) (b : Birth) (hit : WaitRow → Bool) → every (is_clear v hit) v.waits ≡ true → every (is_clear (parted v b) hit) (parted v b).waits ≡ true
parted-clear v b hit all =
    let xs = which (is_accepted_across b v) v.waits in
    every-both (is_clear v hit) (λ y. not (shares xs y)) (is_clear (parted v b) hit) (λ y one two. parts (is_event y && hit y) (is_marked v y) (is_marked (parted v b) y) one (still-rest y xs v.marks two)) (rest xs v.waits) (every-rest (is_clear v hit) xs v.waits all) (rest-ends xs v.waits)
  where
    parts : (e m k : Bool) → (not e || m) ≡ true → (m ≡ true → k ≡ true) → (not e || k) ≡ true
    parts e m k one two = grind (arith, two)

needs-hit : (v w : World) (b : Birth) (x : WaitRow) → is_clear v (hit_pair w b) x ≡ true → is_clear v (needs_port b) x ≡ true
needs-hit v w b x is = parts (is_event x) (is_made_on b x) (same_birth x.queue b && not x.received) (is_across w b x) (is_marked v x) is
  where
    parts : (e d s x m : Bool) → (not (e && (((false || d) || s) || x)) || m) ≡ true → (not (e && (d || s)) || m) ≡ true
    parts e d s x m is = grind arith

stage-cut : (w v : World) (b : Birth) → Stage w v b (known_pair v b) (hit_pair v b) → IsShut w (parted v b) b
stage-cut w v b t = record {
  sound = sound-parted v b (every-both (known_pair v b) (is_clear v (hit_pair v b)) (is_free_of v b) (λ x one two. free-parts (is_receiver b x) (is_request_on b x) (is_queued_request b x) (is_offered_to b x) (is_request_across b v x) (is_receive_across b v x) (is_event x) (is_marked v x) (is_made_on b x) (same_birth x.queue b && not x.received) (is_across v b x) one two) v.waits t.all t.events) t.sound;
  waits = every-more (known_pair v b) (is_apart_from (parted v b) b) (λ x is. shut-parts _ _ _ _ _ _ (is_accepted x) _ is (no-pair v b x.port)) (parted v b).waits (every-rest (known_pair v b) (which (is_accepted_across b v) v.waits) v.waits t.all);
  events = parted-clear v b (needs_port b) (every-more (is_clear v (hit_pair v b)) (is_clear v (needs_port b)) (needs-hit v v b) v.waits t.events);
  names = t.names;
  handles = t.handles;
  ports = ap (change (is_end_of b) cut) t.ports;
}

-- the tests read ports that stay
across-known : (b : Birth) (ws : List WaitRow) (ps qs rs : List PortRow) → ps ≡ rs → qs ≡ rs → every (λ x. (known_queue b x && not (is_request_across b (tied ps []) x)) && not (is_receive_across b (tied qs []) x)) ws ≡ true → every (known_pair (tied rs []) b) ws ≡ true
across-known b ws ps qs rs one two all =
    subst (λ ps. every (λ x. (known_queue b x && not (is_request_across b (tied ps []) x)) && not (is_receive_across b (tied rs []) x)) ws ≡ true) one
    (subst (λ qs. every (λ x. (known_queue b x && not (is_request_across b (tied ps []) x)) && not (is_receive_across b (tied qs []) x)) ws ≡ true) two all)

abbrev pub marks_alone : List ℕ → World
marks_alone marks = record no_rows { marks = marks }

across-clear : (b : Birth) (ws : List WaitRow) (ms : List ℕ) (ps rs : List PortRow) → ps ≡ rs → every (is_clear (marks_alone ms) (hit_pair (tied ps []) b)) ws ≡ true → every (is_clear (marks_alone ms) (hit_pair (tied rs []) b)) ws ≡ true
across-clear b ws ms ps rs one all = subst (λ ps. every (is_clear (marks_alone ms) (hit_pair (tied ps []) b)) ws ≡ true) one all

-- what needs the pair is gone before accepted connects end
pair-stage : (w : World) (b : Birth) → Stage w (stage_four w b) b (known_queue b) (hit_queue b) → Stage w (unreceived w b) b (known_pair (unreceived w b) b) (hit_pair (unreceived w b) b)
pair-stage w b t =
    let v = stage_four w b in
    let v1 = unasked w b in
    let t1 = stage-each w v b (known_queue b) (hit_queue b) (is_request_across b v) (end_request LPC_REPLY_LOST) (λ x is. request-quiet x _ is) (turns-withdrawn LPC_REPLY_LOST []) t in
    let v2 = across_marked w b in
    let t2 = stage-marks w v1 b _ (hit_queue b) (is_across v1 b) t1 in
    let v3 = unreceived w b in
    let t3 = stage-each w v2 b _ _ (is_receive_across b v2) (wake PORT_DISCONNECTED) (λ x is. receive-quiet x _ is) (turns-told PORT_DISCONNECTED []) t2 in
    record {
      sound = t3.sound;
      names = t3.names;
      all = across-known b v3.waits v.ports v2.ports v3.ports (t.ports ∙ sym t3.ports) (t2.ports ∙ sym t3.ports) t3.all;
      events = across-clear b v3.waits v3.marks v1.ports v3.ports (t1.ports ∙ sym t3.ports) t3.events;
      ports = t3.ports;
      handles = t3.handles;
    }

cut-shut : (w : World) (b : Birth) → Stage w (stage_four w b) b (known_queue b) (hit_queue b) → IsShut w (stage_five w b) b
cut-shut w b t =
    let P : World → Type 0 = λ u. IsShut w u b in
    let requests : Steps = end_each (is_request_across b) (end_request LPC_REPLY_LOST) in
    let events : Steps = end_each (is_event_across b) mark_event in
    let receives : Steps = end_each (is_receive_across b) (wake PORT_DISCONNECTED) in
    let accepts : Steps = end_each (is_accepted_across b) end_accepted in
    let last : Steps = doing (Cuts b ∷ []) in
    then-holds P requests (events ▹ (receives ▹ (accepts ▹ last))) (stage_four w b) (then-holds P events (receives ▹ (accepts ▹ last)) (unasked w b) (then-holds P receives (accepts ▹ last) (across_marked w b)
    (rw (parted-world (unreceived w b) b) (stage-cut w (unreceived w b) b (pair-stage w b t)))))

-- step 6
shut-posted : (w v : World) (b : Birth) → IsShut w v b → IsShut w (world_after v (post_closed b v)) b
shut-posted w v b t =
    let u = world_after v (post_closed b v) in
    let less = posted-less v b t.sound in
    record {
      sound = less.sound;
      waits = subst (λ ps. every (is_apart_from (tied ps []) b) u.waits ≡ true) (sym less.ports) (less.waits (is_apart_from v b) t.waits);
      events = clear-kept v u (needs_port b) less t.events;
      names = rw less.bindings t.names;
      handles = less.handles ∙ t.handles;
      ports = less.ports ∙ t.ports;
    }

four-stage : (w : World) (b : Birth) → IsSoundWorld w → Stage w (stage_four w b) b (known_queue b) (hit_queue b)
four-stage w b s =
    let t1 : Stage w (stage_one w b) b (λ x. true) (λ x. false) = record {
      sound = sound-unbinds w b s;
      names = every-left (is_name same_birth b) w.bindings;
      all = every-any (λ x. true) (λ x. refl) w.waits;
      events = every-any _ (λ x. never (is_event x) (is_marked w x)) w.waits;
      ports = refl;
      handles = refl;
    } in
    let t2 = stage-each w (stage_one w b) b (λ x. true) (λ x. false) (is_receiver b) (wake PORT_DISCONNECTED) (receiver-quiet b) (turns-told PORT_DISCONNECTED []) t1 in
    let t3 = stage-each w (stage_two w b) b (λ x. true && not (is_receiver b x)) (λ x. false) (is_request_on b) (end_request PORT_DISCONNECTED) (λ x is. request-quiet x _ is) (turns-withdrawn PORT_DISCONNECTED []) t2 in
    unqueued-stage w (stage_marked w b) b (stage-marks w (stage_three w b) b (known_one b) (λ x. false) (is_made_on b) t3)
  where
    never : (e m : Bool) → (not (e && false) || m) ≡ true
    never e m = grind arith

-- behind the cut
pub five-shut : (w : World) (b : Birth) → IsSoundWorld w → IsShut w (stage_five w b) b
five-shut w b s = cut-shut w b (four-stage w b s)

-- before it no request is left on the port or across
abbrev pub is_cut_request : World → Birth → WaitRow → Bool
is_cut_request w b x = is_request x && (is_made_on b x || is_across w b x)

pub uncut-free : (w : World) (b : Birth) → IsSoundWorld w → every (λ x. not (is_cut_request (uncut w b) b x)) (uncut w b).waits ≡ true
uncut-free w b s =
    let t = pair-stage w b (four-stage w b s) in
    let v = unreceived w b in
    let less = fewer-accepts w b in
    subst (λ ps. every (λ x. not (is_cut_request (tied ps []) b x)) (uncut w b).waits ≡ true) (sym (less.ports ∙ t.ports)) (less.waits (λ x. not (is_cut_request w b x)) (subst (λ ps. every (λ x. not (is_cut_request (tied ps []) b x)) v.waits ≡ true) t.ports
    (every-more (known_pair v b) (λ x. not (is_cut_request v b x)) (λ x is. parts (is_receiver b x) (is_request x) (is_made_on b x) (is_queued_request b x) (is_offered_to b x) (is_across v b x) (is_receive_across b v x) is) v.waits t.all)))
  where
    parts : (r q m u o a c : Bool) → ((((((true && not r) && not (q && m)) && not u) && not o) && not (q && a)) && not c) ≡ true → not (q && (m || a)) ≡ true
    parts r q m u o a c is = grind arith

-- and each event on the port or across is marked
abbrev pub cut_hit : World → Birth → WaitRow → Bool
cut_hit w b x = is_made_on b x || is_across w b x

pub ended-clear : (v : World) (b : Birth) (hit : WaitRow → Bool) → every (is_clear v hit) v.waits ≡ true → let u = behind (end_each (is_accepted_across b) end_accepted) v in every (is_clear u hit) u.waits ≡ true
ended-clear v b hit all =
    let xs = which (is_accepted_across b v) v.waits in
    subst (λ (u : World). every (is_clear u hit) u.waits ≡ true) (sym (ended-world xs v)) (parted-clear v b hit all)

pub ended-ports : (v : World) (b : Birth) → (behind (end_each (is_accepted_across b) end_accepted) v).ports ≡ v.ports
ended-ports v b = ap (λ (u : World). u.ports) (ended-world (which (is_accepted_across b v) v.waits) v)

pub uncut-clear : (w : World) (b : Birth) → IsSoundWorld w → every (is_clear (uncut w b) (cut_hit (uncut w b) b)) (uncut w b).waits ≡ true
uncut-clear w b s =
    let t = pair-stage w b (four-stage w b s) in
    let v = unreceived w b in
    let all = every-more (is_clear v (hit_pair v b)) (is_clear v (cut_hit v b)) (λ x is. parts (is_event x) (is_made_on b x) (same_birth x.queue b && not x.received) (is_across v b x) (is_marked v x) is) v.waits t.events in
    subst (λ ps. every (is_clear (uncut w b) (cut_hit (tied ps []) b)) (uncut w b).waits ≡ true) (sym (ended-ports v b)) (ended-clear v b (cut_hit v b) all)
  where
    parts : (e d s x m : Bool) → (not (e && (((false || d) || s) || x)) || m) ≡ true → (not (e && (d || x)) || m) ≡ true
    parts e d s x m is = grind arith

-- step 7
shut-disowned : (w v : World) (b : Birth) → IsShut w v b → IsShut w (basic v (DropsOwned b)) b
shut-disowned w v b t = record { sound = sound-memory v _ _ _ t.sound; waits = t.waits; names = t.names; events = t.events; handles = t.handles; ports = t.ports }

-- the seven steps
pub close-shut : (w : World) (b : Birth) → IsSoundWorld w → IsShut w (world_after w (close_port b w)) b
unfolding close_port
close-shut w b s =
    let P : World → Type 0 = λ u. IsShut w u b in
    then-holds P (drop_name b) (end_receives b ▹ (end_requests b ▹ (mark_events b ▹ (empty_queue b ▹ (cut_pair b ▹ (post_closed b ▹ drop_owned b)))))) w
    (then-holds P (end_receives b) (end_requests b ▹ (mark_events b ▹ (empty_queue b ▹ (cut_pair b ▹ (post_closed b ▹ drop_owned b))))) (stage_one w b)
    (then-holds P (end_requests b) (mark_events b ▹ (empty_queue b ▹ (cut_pair b ▹ (post_closed b ▹ drop_owned b)))) (stage_two w b)
    (then-holds P (mark_events b) (empty_queue b ▹ (cut_pair b ▹ (post_closed b ▹ drop_owned b))) (stage_three w b)
    (then-holds P (empty_queue b) (cut_pair b ▹ (post_closed b ▹ drop_owned b)) (stage_marked w b)
    (then-holds P (cut_pair b) (post_closed b ▹ drop_owned b) (stage_four w b)
    (then-holds P (post_closed b) (drop_owned b) (stage_five w b) (shut-disowned w (stage_six w b) b (shut-posted w (stage_five w b) b (five-shut w b s)))))))))
