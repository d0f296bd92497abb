-- Each line leaves server ports whose other ends are client ports.
use Rattle.std.proofs.Common.{◌≡◌, ◌≤◌, ℕ, List, [], ◌∷◌, ◌++◌, Bool, true, false, not, Option, Some, None, cond, map, refl, subst, arith}
use Rattle.std.specs.Prelude.{◌&&◌, ◌||◌, is_none, is_some}
use Rattle.std.proofs.Math.Bool.{or-true}
use Rattle.lpc_base.specs.Rows.{change, count, every, first, has, passes, without}
use Rattle.lpc_base.proofs.Births.{birth-same, birth-self}
use Rattle.lpc_base.proofs.Bools.{second-true}
use Rattle.lpc_base.proofs.RowMaps.{every-both, every-first, every-map}
use Rattle.lpc_base.proofs.RowWords.{every-change, every-more, every-push, every-without, first-passes}
use Rattle.lpc_model.specs.declared.entry.ObjectKind.TheVariants as kind
use Rattle.lpc_model.specs.World.{Birth, Message, MessageRow, ObjectKind, PortRow, ThreadRow, WaitRow, World}
use Rattle.lpc_model.specs.Found.{is_client_port, is_offered, is_port, is_server_port, is_the, pair_of, port_row, same_birth}
use Rattle.lpc_model.specs.Basics.{Awaits, Basic, Completes, Cuts, Frees, Joins, Makes, Secures, basic, completed, cut, freed, is_end_of, joined, paired, secured, world_after}
use Rattle.lpc_model.specs.Clients.{HasAllowingClients, HasClientEnds, are_clients, has_client_end, is_allowing, is_client_under}
use Rattle.lpc_model.specs.Close.{close_handle}
use Rattle.lpc_model.specs.Connect.{client_port, connection_request, names_connect, server_port}
use Rattle.lpc_model.specs.Death.{die}
use Rattle.lpc_model.specs.Entering.{enter, received_steps, row_of, take_connect_steps, take_steps}
use Rattle.lpc_model.specs.Lines.{ScriptLine}
use Rattle.lpc_model.specs.Linked.{IsLinked, is_lone_offer, is_mutual, is_unjoined, passes_or_none}
use Rattle.lpc_model.specs.Machine.{step, own_steps}
use Rattle.lpc_model.specs.SoundWaits.{IsSoundWorld, is_connect_on, lacks_connects}
use Rattle.lpc_model.specs.Sweep.{sweep}
use Rattle.lpc_model.specs.Tests.{next_birth}
use Rattle.lpc_model.proofs.Calls.Acts.{Law, complete_act, keeps_on, outcomes}
use Rattle.lpc_model.proofs.Calls.Lines.{AnyWorld, IsCalled, Keep, LineLaw, Shut, passing-lines}
use Rattle.lpc_model.proofs.Settling.Keeps.{step-keeps, settling-does}
use Rattle.lpc_model.proofs.Settling.Settled.{IsReady}
use Rattle.lpc_model.proofs.Calls.Sharing.{connect_begun}
use Rattle.lpc_model.proofs.Calls.Usable.{by_port_kind}
use Rattle.lpc_model.proofs.Linked.Calls.{lone-parts, unmade}
use Rattle.lpc_model.proofs.Linked.Steps.{option-kept}
use Rattle.lpc_model.proofs.Sound.Connect.{names-offered}
use Rattle.lpc_model.proofs.Sound.Terminate.{IsSafe}
use Rattle.lpc_model.proofs.Steps.Ending.{AreEnding, die-ending, ending-enter, ending-receipt, handle-ending, is_ending}
use Rattle.lpc_model.proofs.Steps.InTurn.{steps-keep}
use Rattle.lpc_model.proofs.Steps.Rows.{has-found}
use Rattle.lpc_model.proofs.Steps.Sweep.{sweep_every}

-- Ports among others
end-parts : (s a b : Bool) → (a ≡ true → b ≡ true) → (not s || a) ≡ true → (not s || b) ≡ true
end-parts s a b more is = grind (arith, more)

ends-more : (ps qs : List PortRow) → ((b : Birth) → are_clients ps b ≡ true → are_clients qs b ≡ true) → (p : PortRow) → has_client_end ps p ≡ true → has_client_end qs p ≡ true
ends-more ps qs more p is = end-parts (is_server_port p) _ _ (option-kept p.pair (are_clients ps) (are_clients qs) more) is

-- changes by which a port keeps its birth, its kind, and its other end if it keeps one
changed-ends : (ps : List PortRow) (t : PortRow → Bool) (f : PortRow → PortRow) → ((b : Birth) (p : PortRow) → is_client_under b p ≡ true → is_client_under b (f p) ≡ true)
    → ((qs : List PortRow) (p : PortRow) → has_client_end qs p ≡ true → has_client_end qs (f p) ≡ true) → every (has_client_end ps) ps ≡ true → every (has_client_end (change t f ps)) (change t f ps) ≡ true
changed-ends ps t f under end all =
    let qs = change t f ps in
    every-change (has_client_end qs) t f (end qs) ps (every-more (has_client_end ps) (has_client_end qs) (ends-more ps qs (λ b. every-change (is_client_under b) t f (under b) ps)) ps all)

-- rows that go
left-ends : (ps : List PortRow) (t : PortRow → Bool) → every (has_client_end ps) ps ≡ true → every (has_client_end (without t ps)) (without t ps) ≡ true
left-ends ps t all =
    let qs = without t ps in
    every-without (has_client_end qs) t ps (every-more (has_client_end ps) (has_client_end qs) (ends-more ps qs (λ b. every-without (is_client_under b) t ps)) ps all)

freed-ends : (w : World) (k : ObjectKind) (b : Birth) → HasClientEnds w → HasClientEnds (freed w k b)
freed-ends w kind.Port b all = left-ends w.ports (is_port b) all
freed-ends w e b all = all

-- Basic steps that make and join no port
abbrev is_tame : Basic → Bool
is_tame (Makes p) = false
is_tame (Joins client server context) = false
is_tame b = true

tame-step : (w : World) (b : Basic) → is_tame b ≡ true → HasClientEnds w → HasClientEnds (basic w b)
tame-step w (Makes p) is all = absurd (cc)
tame-step w (Joins client server context) is all = absurd (cc)
tame-step w (Completes b) is all = changed-ends w.ports (is_port b) completed (λ c p is. is) (λ qs p is. is) all
tame-step w (Cuts b) is all = changed-ends w.ports (is_end_of b) cut (λ c p is. is) (λ qs p is. or-true (not (is_server_port p))) all
tame-step w (Secures b s) is all = changed-ends w.ports (is_port b) (secured s) (λ c p is. is) (λ qs p is. is) all
tame-step w (Frees o) is all = freed-ends w o.kind o.birth all
tame-step w b is all = all

tame-all : (w : World) (bs : List Basic) → every is_tame bs ≡ true → HasClientEnds w → HasClientEnds (world_after w bs)
tame-all = steps-keep is_tame HasClientEnds tame-step

ending-tame : (b : Basic) → is_ending b ≡ true → is_tame b ≡ true
ending-tame (Makes p) is = absurd (cc)
ending-tame (Joins client server context) is = absurd (cc)
ending-tame b is = refl

ended-tame : (w : World) (bs : List Basic) → AreEnding bs → HasClientEnds w → HasClientEnds (world_after w bs)
ended-tame w bs all = tame-all w bs (every-more is_ending is_tame ending-tame bs all)

-- A port that is made: no port has it as its other end
new-parts : (s a b m : Bool) → (m ≡ true → a ≡ true → b ≡ true) → m ≡ true → (not s || a) ≡ true → (not s || b) ≡ true
new-parts s a b m more one is = grind (arith, more)

new-under : (b : Birth) (p : PortRow) → is_port b p ≡ false → is_client_under b p ≡ true
new-under b p off = rw off refl

pub made-ends : (w : World) (p : PortRow) → has (is_port p.birth) w.ports ≡ false → p.pair ≡ None → every (is_mutual w) w.ports ≡ true → HasClientEnds w → HasClientEnds (basic w (Makes p))
made-ends w p new cut backs all =
    every-push (has_client_end (w.ports ++ p ∷ [])) w.ports p (every-both (is_mutual w) (has_client_end w.ports) (has_client_end (w.ports ++ p ∷ [])) others w.ports backs all) (rw cut (or-true (not (is_server_port p))))
  where
    apart : (r : PortRow) (b : Birth) → is_the r.birth (pair_of w b) ≡ true → is_port b p ≡ false
    apart r b back = at (is_port b p) refl
      where
        stands : (o : Option PortRow) → first (is_port b) w.ports ≡ o → is_the r.birth (pair_of w b) ≡ true → has (is_port b) w.ports ≡ true
        stands None none is = let never : false ≡ true = rw none at is in absurd (cc)
        stands (Some q) here is = rw here refl

        at : (c : Bool) → is_port b p ≡ c → c ≡ false
        at true same =
            let off : has (is_port b) w.ports ≡ false = subst (λ d. has (is_port d) w.ports ≡ false) (birth-same p.birth b same) new in
            let on = stands (first (is_port b) w.ports) refl back in cc
        at false same = refl

    others : (r : PortRow) → is_mutual w r ≡ true → has_client_end w.ports r ≡ true → has_client_end (w.ports ++ p ∷ []) r ≡ true
    others r back is = at r.pair back is
      where
        at : (o : Option Birth) → passes_or_none o (λ q. is_the r.birth (pair_of w q)) ≡ true → (not (is_server_port r) || passes_or_none o (are_clients w.ports)) ≡ true → (not (is_server_port r) || passes_or_none o (are_clients (w.ports ++ p ∷ []))) ≡ true
        at None back is = or-true (not (is_server_port r))
        at (Some b) back is = end-parts (is_server_port r) _ _ (λ all. every-push (is_client_under b) w.ports p all (new-under b p (apart r b back))) is

-- Ports that are joined
joined-under : (client server : Birth) (context : ℕ) (b : Birth) (p : PortRow) → is_client_under b (joined client server context p) ≡ is_client_under b p
joined-under client server context b p = at (is_port client p) (is_port server p)
  where
    at : (c s : Bool) → is_client_under b (cond c (paired server context p) (cond s (paired client context p) p)) ≡ is_client_under b p
    at true s = refl
    at false true = refl
    at false false = refl

client-serves-not : (p : PortRow) → is_client_port p ≡ true → (a : Bool) → (not (is_server_port p) || a) ≡ true
client-serves-not = by_port_kind (λ p. is_client_port p ≡ true → (a : Bool) → (not (is_server_port p) || a) ≡ true) (λ p is a. refl) (λ p is a. refl) (λ p is a. refl) (λ p is a. absurd (cc))

joined-ends : (w : World) (client server : Birth) (context : ℕ) → are_clients w.ports client ≡ true → HasClientEnds w → HasClientEnds (basic w (Joins client server context))
joined-ends w client server context under all =
    let ps = w.ports in
    let f = joined client server context in
    let qs = map f ps in
    rw (every-map (has_client_end qs) f ps)
    (every-both (has_client_end ps) (is_client_under client) (λ p. has_client_end qs (f p)) one ps all under)
  where
    kept : (b : Birth) → are_clients w.ports b ≡ true → are_clients (map (joined client server context) w.ports) b ≡ true
    kept b is = rw (every-map (is_client_under b) (joined client server context) w.ports) (every-more (is_client_under b) (λ p. is_client_under b (joined client server context p)) (λ p is. rw (joined-under client server context b p) is) w.ports is)

    one : (p : PortRow) → has_client_end w.ports p ≡ true → is_client_under client p ≡ true → has_client_end (map (joined client server context) w.ports) (joined client server context p) ≡ true
    one p is its = at (is_port client p) (is_port server p) its
      where
        at : (c s : Bool) → (not c || is_client_port p) ≡ true → has_client_end (map (joined client server context) w.ports) (cond c (paired server context p) (cond s (paired client context p) p)) ≡ true
        at true s its = client-serves-not p its _
        at false true its = rw (kept client under) (or-true (not (is_server_port p)))
        at false false its = ends-more w.ports (map (joined client server context) w.ports) kept p is

-- The client port of a connect
none-counted : {X : Type 0} (t r : X → Bool) (xs : List X) → count t xs ≤ 0 → every (λ x. not (t x) || r x) xs ≡ true
none-counted t r [] few = refl
none-counted t r (x ∷ xs) few = grind (arith, none-counted t r xs)

-- of one row at most what holds of the first holds of each
one-row : {X : Type 0} (t r : X → Bool) (xs : List X) (q : X) → count t xs ≤ 1 → first t xs ≡ Some q → r q ≡ true → every (λ x. not (t x) || r x) xs ≡ true
one-row t r [] q few here is = refl
one-row t r (x ∷ xs) q few here is = grind (arith, one-row t r xs q, none-counted t r xs)

connected-kind : (p : PortRow) → is_allowing p ≡ true → is_some p.connection ≡ true → is_server_port p ≡ false → is_client_port p ≡ true
connected-kind = by_port_kind (λ p. is_allowing p ≡ true → is_some p.connection ≡ true → is_server_port p ≡ false → is_client_port p ≡ true)
    (λ p none some off. both p.connection none some) (λ p none some off. both p.connection none some) (λ p is some off. refl) (λ p is some off. absurd (cc))
  where
    both : (o : Option Birth) → is_none o ≡ true → is_some o ≡ true → false ≡ true
    both None none some = absurd (cc)
    both (Some b) none some = absurd (cc)

pub offered-stands : (w : World) (by : ThreadRow) (m : Message) (x : WaitRow) → first (names_connect w by m) w.waits ≡ Some x → IsLinked w → has (is_port x.port) w.ports ≡ true
offered-stands w by m x at l =
    let of = names-offered w by m x (first-passes (names_connect w by m) w.waits x at) in
    let lone = lone-parts w x of (every-first (is_lone_offer w) (names_connect w by m) w.waits x l.offers at) in
    stands (port_row w x.port) lone.1
  where
    stands : (o : Option PortRow) → passes o is_unjoined ≡ true → is_some o ≡ true
    stands None is = absurd (cc)
    stands (Some p) is = refl

-- the ports are as allowing and linked as lines keep them
pub record IsSettled (w : World) : Type 0 where
  pub linked : IsLinked w
  pub clients : HasAllowingClients w

pub offered-clients : (w : World) (by : ThreadRow) (m : Message) (x : WaitRow) → first (names_connect w by m) w.waits ≡ Some x → IsSoundWorld w → IsSettled w → are_clients w.ports x.port ≡ true
offered-clients w by m x at s t =
    let l = t.linked in
    let of = names-offered w by m x (first-passes (names_connect w by m) w.waits x at) in
    let lone = lone-parts w x of (every-first (is_lone_offer w) (names_connect w by m) w.waits x l.offers at) in
    here of (port_row w x.port) refl lone.1
  where
    connect-here : is_offered x ≡ true → (q : PortRow) → is_port x.port q ≡ true → is_connect_on q.birth x ≡ true
    connect-here of q same = let one = birth-same q.birth x.port same in rw (of, one) (birth-self x.port)

    off-server : (q : PortRow) → lacks_connects w q ≡ true → has (is_connect_on q.birth) w.waits ≡ true → is_server_port q ≡ false
    off-server q is on = parts (is_server_port q) _ is on
      where
        parts : (a b : Bool) → not (a && b) ≡ true → b ≡ true → a ≡ false
        parts a b is on = grind arith

    here : is_offered x ≡ true → (o : Option PortRow) → port_row w x.port ≡ o → passes o is_unjoined ≡ true → are_clients w.ports x.port ≡ true
    here of None none is = absurd (cc)
    here of (Some q) row is =
        let l = t.linked in
        let on = has-found (is_connect_on q.birth) (names_connect w by m) w.waits x at (connect-here of q (first-passes (is_port x.port) w.ports q row)) in
        let kind = connected-kind q (every-first is_allowing (is_port x.port) w.ports q t.clients row) (second-true (is_none q.pair) (is_some q.connection) is) (off-server q (every-first (lacks_connects w) (is_port x.port) w.ports q s.servers row) on) in
        one-row (is_port x.port) is_client_port w.ports q (l.births x.port) row kind

-- what stands has another birth than what doesn't
standing-apart : (ps : List PortRow) (b c : Birth) → has (is_port b) ps ≡ true → has (is_port c) ps ≡ false → same_birth c b ≡ false
standing-apart ps b c here none = at (same_birth c b) refl
  where
    at : (k : Bool) → same_birth c b ≡ k → k ≡ false
    at true same = let off : has (is_port b) ps ≡ false = subst (λ d. has (is_port d) ps ≡ false) (birth-same c b same) none in cc
    at false same = refl

-- Acts
receipt-tame : (m : MessageRow) → every is_tame (received_steps m) ≡ true
receipt-tame m = every-more is_ending is_tame ending-tame (received_steps m) (ending-receipt m)

linked-of : (w : World) (by : ThreadRow) → IsCalled (Shut IsSettled) w by → IsLinked w
linked-of w by is = let known = is.known in let t = known.1 in t.linked

ends-law : (by : ThreadRow) → Law by (Shut IsSettled) AnyWorld (Keep HasClientEnds)
ends-law by = record {
  keeps = λ w bs all _. tt;
  nothing = λ w is. is;
  follows = λ w xs ys one two. keeps_on HasClientEnds w xs ys one two;
  says = λ w e is. is;
  numbers = λ w is. is;
  wakes = λ w status fields x is. is;
  marks = λ w who is all. all;
  abandons = λ w who all. all;
  debugs = λ w pid b stands live all. all;
  excepts = λ w pid b stands live all. all;
  dooms = λ w pid code all. all;
  lets_go = λ w pid all. all;
  takes = λ w m. tame-all w (take_steps m) (receipt-tame m);
  listens = λ w m. tame-all w (take_connect_steps m) (receipt-tame m);
  waits = λ w x off is all. all;
  sends = λ w m is. ended-tame w (enter m w) (ending-enter m w);
  asks = λ w x m off wait post. let v = basic w (Awaits x) in ended-tame v (enter m v) (ending-enter m v);
  creates = λ w is all. let l = linked-of w by is in made-ends w _ (unmade w by is.can is.sound) refl l.pairs all;
  founds = λ w name path free is all. let l = linked-of w by is in made-ends w _ (unmade w by is.can is.sound) refl l.pairs all;
  connects = λ w connection offer bytes opens offers is all.
      let l = linked-of w by is in
      let m = connection_request by offer bytes in
      let row = row_of connection (client_port by connection) m in
      let v = world_after w (connect_begun by connection offer m) in
      ended-tame v (enter row v) (ending-enter row v) (made-ends w (client_port by connection) (unmade w by is.can is.sound) refl l.pairs all);
  gives = λ w pid o access is all. all;
  accepts = λ w context m x a at is all.
      let l = linked-of w by is in
      let known = is.known in
      let port = server_port (next_birth by) x.queue in
      let new = unmade w by is.can is.sound in
      let other = new-under x.port port (standing-apart w.ports x.port (next_birth by) (offered-stands w by m x at l) new) in
      joined-ends (basic w (Makes port)) x.port (next_birth by) context (every-push (is_client_under x.port) w.ports port (offered-clients w by m x at is.sound known.1) other)
      (made-ends w port new refl l.pairs all);
  completes = λ w c is. tame-all w (complete_act w c) refl;
  registers = λ w b stands all. all;
  spawns = λ w pid tid token new unused s all. all;
  starts = λ w tid pid live unused s all. all;
  closes = λ w pid r at s _. ended-tame w (close_handle pid r w) (handle-ending pid r w);
  dies = λ w code t is. ended-tame w (die code t w) (die-ending code t w);
  leaves = λ w n b all. all;
  vacates = λ w pid all. all;
  disowns = λ w b all. all;
  secures = λ w b s. tame-all w (Secures b s ∷ []) refl;
  acts = λ w own all. all;
  holds_token = λ w content all. all;
  builds = λ w size prot is all. all;
  maps = λ w pid v m all. all;
  unmaps = λ w pid base all. all;
  writes = λ w b place new all. all;
}

-- Lines
ends-lines : LineLaw (Shut IsSettled) (λ _. Keep HasClientEnds)
ends-lines = passing-lines (Shut IsSettled) (Keep HasClientEnds) (λ _. is_tame) tame-all (λ w. record { tells = λ _. refl; processes = λ _ _ _. refl; threads = λ _ _ _. refl; binds = λ _ _. refl; names = λ _. refl }) (λ by. outcomes by (Shut IsSettled) AnyWorld (Keep HasClientEnds) (ends-law by) (λ w c. (c.0, tt)))

pub ends_step : (w : World) (line : ScriptLine) → IsSafe w → IsReady (world_after w (own_steps line w)) → IsSettled w → HasClientEnds w → HasClientEnds (step w line).world
ends_step w line is ready t = step-keeps (Shut IsSettled) HasClientEnds ends-lines (λ v r. settling-does (Shut IsSettled) AnyWorld (Keep HasClientEnds) ends-law (λ w tid _ _. tt) v r tt) (λ v. tame-all v (sweep v) (sweep_every is_tame (λ _. refl) v)) w line is.sound (is.shut, t) ready
