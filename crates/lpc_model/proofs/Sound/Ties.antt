-- What completing, joining, accepting and freeing do to connections that aren't completed.
use Rattle.std.proofs.Common.{◌≡◌, ◌∙◌, ℕ, List, Bool, true, false, cond, map, not, Option, Some, None, refl, sym, subst, arith}
use Rattle.std.proofs.lemmas.Bool.{false_from_ne_true}
use Rattle.std.specs.Prelude.{◌&&◌, ◌||◌, is_none, is_some}
use Rattle.lpc_base.specs.Rows.{change, every, first, has, passes, without}
use Rattle.lpc_base.proofs.RowWords.{every-any, every-change, every-more, every-without, first-passes, has-change}
use Rattle.lpc_base.proofs.RowMaps.{every-both, every-change_to, every-map}
use Rattle.lpc_base.proofs.Births.{birth-same, births-apart}
use Rattle.lpc_base.proofs.Bools.{first-true}
use Rattle.lpc_model.specs.World.{Acceptance, Birth, PortRow, WaitRow, World, Security}
use Rattle.lpc_model.specs.Found.{is_accepted, is_offered, is_port, is_server_port, is_the, pair_of, port_row, same_birth, waits_as}
use Rattle.lpc_model.specs.Basics.{accepted, completed, joined, paired, secured}
use Rattle.lpc_model.specs.Connect.{is_accepted_on}
use Rattle.lpc_model.specs.SoundWaits.{is_awaited, is_awaited_on, is_connect_on, is_uncompleted, lacks_connects}
use Rattle.lpc_model.proofs.Steps.Rows.{first-map, first-without, has-change_to, has-more, has-turned}
use Rattle.lpc_model.proofs.Sound.Pairs.{IsTied, awaited-kept, is_elsewhere, on-kept, pair-kept, tied}
use Rattle.lpc_model.proofs.Sound.Worlds.{by_kind}

-- A connection that is completed
pub same-port : (b : Birth) (p q : PortRow) → q.birth ≡ p.birth → is_port b q ≡ is_port b p
same-port b p q same = rw same refl

pub completed-birth : (c : Bool) (p : PortRow) → let q : PortRow = cond c (completed p) p in q.birth ≡ p.birth
completed-birth true p = refl
completed-birth false p = refl

pub completed-pair : (c : Bool) (p : PortRow) → let q : PortRow = cond c (completed p) p in q.pair ≡ p.pair
completed-pair true p = refl
completed-pair false p = refl

completed-row : (ports : List PortRow) (c b : Birth) (q : PortRow) → first (is_port b) ports ≡ Some q → first (is_port b) (change (is_port c) completed ports) ≡ Some (cond (is_port c q) (completed q) q)
completed-row ports c b q here =
    first-map (is_port b) (λ p. cond (is_port c p) (completed p) p) (λ p. same-port b p (cond (is_port c p) (completed p) p) (completed-birth (is_port c p) p)) ports q here

done-parts : (s o : Bool) → (not (s && not true) || o) ≡ true
done-parts s o = grind arith

pub tied-completed : (ports : List PortRow) (waits : List WaitRow) (c : Birth) → IsTied ports waits → IsTied (change (is_port c) completed ports) waits
tied-completed ports waits c t =
    let w = tied ports waits in
    let v = tied (change (is_port c) completed ports) waits in
    let paired = λ (b d : Birth). pair-kept w v b d (λ q here. rw (completed-row ports c d q here) (completed-pair (is_port c q) q)) in
    let still = every-more (is_awaited w) (is_awaited v) (λ q. awaited-kept w v q (λ d _ _. on-kept w v q.birth d (λ is. is) (paired q.birth d))) ports t.pairs in
    record {
      pairs = every-change (is_awaited v) (is_port c) completed (λ p is. done-parts (is_server_port p) _) ports still;
      servers = every-change (lacks_connects w) (is_port c) completed (λ p is. is) ports t.servers;
    }

-- a port gets its access list, or what it allows
pub secured-birth : (s : Security) (c : Bool) (p : PortRow) → let q : PortRow = cond c (secured s p) p in q.birth ≡ p.birth
secured-birth s true p = refl
secured-birth s false p = refl

pub secured-pair : (s : Security) (c : Bool) (p : PortRow) → let q : PortRow = cond c (secured s p) p in q.pair ≡ p.pair
secured-pair s true p = refl
secured-pair s false p = refl

secured-row : (s : Security) (ports : List PortRow) (c b : Birth) (q : PortRow) → first (is_port b) ports ≡ Some q → first (is_port b) (change (is_port c) (secured s) ports) ≡ Some (cond (is_port c q) (secured s q) q)
secured-row s ports c b q here =
    first-map (is_port b) (λ p. cond (is_port c p) (secured s p) p) (λ p. same-port b p (cond (is_port c p) (secured s p) p) (secured-birth s (is_port c p) p)) ports q here

pub tied-secured : (s : Security) (ports : List PortRow) (waits : List WaitRow) (c : Birth) → IsTied ports waits → IsTied (change (is_port c) (secured s) ports) waits
tied-secured s ports waits c t =
    let w = tied ports waits in
    let v = tied (change (is_port c) (secured s) ports) waits in
    let paired = λ (b d : Birth). pair-kept w v b d (λ q here. rw (secured-row s ports c d q here) (secured-pair s (is_port c q) q)) in
    let still = every-more (is_awaited w) (is_awaited v) (λ q. awaited-kept w v q (λ d _ _. on-kept w v q.birth d (λ is. is) (paired q.birth d))) ports t.pairs in
    record {
      pairs = every-change (is_awaited v) (is_port c) (secured s) (λ p is. is) ports still;
      servers = every-change (lacks_connects w) (is_port c) (secured s) (λ p is. is) ports t.servers;
    }

-- the client port of a connection that is completed is the pair of no other one that isn't
the-same : (a b : Birth) (o : Option Birth) → is_the a o ≡ true → is_the b o ≡ true → same_birth b a ≡ true
the-same a b None one two = absurd (cc)
the-same a b (Some c) one two =
    let same : a ≡ c = birth-same a c one in subst (λ d. same_birth b d ≡ true) (sym same) two

done-elsewhere : (s o : Bool) → not ((s && not true) && o) ≡ true
done-elsewhere s o = grind arith

elsewhere-parts : (u k h m : Bool) → (k ≡ true → m ≡ true → false ≡ true) → (not u || (false || (h && m))) ≡ true → not (u && k) ≡ true
elsewhere-parts u k h m apart is = grind (arith, apart)

other-elsewhere : (ports : List PortRow) (waits : List WaitRow) (server client : Birth) → is_the server (pair_of (tied ports waits) client) ≡ true → (p : PortRow) → is_awaited (tied ports waits) p ≡ true → is_port server p ≡ false → is_elsewhere client p ≡ true
other-elsewhere ports waits server client paired_back p was other = at p.pair was
  where
    w : World
    w = tied ports waits

    never : (c : Birth) → same_birth client c ≡ true → is_the p.birth (pair_of w c) ≡ true → false ≡ true
    never c same its =
        let its_own = subst (λ d. is_the p.birth (pair_of w d) ≡ true) (sym (birth-same client c same)) its in
        sym other ∙ the-same server p.birth (pair_of w client) paired_back its_own

    none-parts : (u : Bool) → not (u && false) ≡ true
    none-parts u = grind arith

    at : (o : Option Birth) → (not (is_uncompleted p) || (is_none o || passes o (is_awaited_on w p.birth))) ≡ true → not (is_uncompleted p && is_the client o) ≡ true
    at None was = none-parts (is_uncompleted p)
    at (Some c) was = elsewhere-parts (is_uncompleted p) (same_birth client c) (has (is_accepted_on c) waits) (is_the p.birth (pair_of w c)) (never c) was

pub elsewhere-completed : (ports : List PortRow) (waits : List WaitRow) (server client : Birth) → is_the server (pair_of (tied ports waits) client) ≡ true → IsTied ports waits → every (is_elsewhere client) (change (is_port server) completed ports) ≡ true
elsewhere-completed ports waits server client paired_back t =
    every-change_to (is_awaited (tied ports waits)) (is_elsewhere client) (is_port server) completed (λ p was here. done-elsewhere (is_server_port p) (is_the client p.pair)) (other-elsewhere ports waits server client paired_back) ports t.pairs

pub still-elsewhere : (ports : List PortRow) (client c : Birth) → every (is_elsewhere client) ports ≡ true → every (is_elsewhere client) (change (is_port c) completed ports) ≡ true
still-elsewhere ports client c all = every-change (is_elsewhere client) (is_port c) completed (λ p is. done-elsewhere (is_server_port p) (is_the client p.pair)) ports all

-- A connection that is joined and accepted
pub joined-birth : (client server : Birth) (context : ℕ) (p : PortRow) → (joined client server context p).birth ≡ p.birth
joined-birth client server context p = at (is_port client p) (is_port server p)
  where
    at : (c s : Bool) → let q : PortRow = cond c (paired server context p) (cond s (paired client context p) p) in q.birth ≡ p.birth
    at true s = refl
    at false true = refl
    at false false = refl

joined-row : (ports : List PortRow) (client server : Birth) (context : ℕ) (b : Birth) (q : PortRow) → first (is_port b) ports ≡ Some q → first (is_port b) (map (joined client server context) ports) ≡ Some (joined client server context q)
joined-row ports client server context b q here =
    first-map (is_port b) (joined client server context) (λ p. same-port b p (joined client server context p) (joined-birth client server context p)) ports q here

-- an accepted connect is a connect on the same port
connect-same : (reply : Acceptance) (b : Birth) (y : WaitRow) → is_connect_on b (accepted reply y) ≡ is_connect_on b y
connect-same reply b = by_kind (λ y. is_connect_on b (accepted reply y) ≡ is_connect_on b y) (λ y m. refl) (λ y. refl) (λ y. refl) (λ y m offer. refl) (λ y m r. refl) (λ y m. refl)

kept-parts : (s a : Bool) → (not (s && a) || a) ≡ true
kept-parts s a = grind arith

still-accepted : (reply : Acceptance) (who : ℕ) (c : Birth) (y : WaitRow) → (not (waits_as who y && is_accepted_on c y) || is_accepted_on c (accepted reply y)) ≡ true
still-accepted reply who c =
    by_kind (λ y. (not (waits_as who y && is_accepted_on c y) || is_accepted_on c (accepted reply y)) ≡ true)
    (λ y m. kept-parts (waits_as who y) false)
    (λ y. kept-parts (waits_as who y) false)
    (λ y. kept-parts (waits_as who y) false)
    (λ y m offer. off-parts (waits_as who y) (same_birth y.port c))
    (λ y m r. kept-parts (waits_as who y) (same_birth y.port c))
    (λ y m. kept-parts (waits_as who y) false)
  where
    off-parts : (s b : Bool) → (not (s && false) || b) ≡ true
    off-parts s b = grind arith

-- a connect of the thread, which isn't accepted yet, waits on the client port
abbrev pub is_offered_on : ℕ → Birth → WaitRow → Bool
is_offered_on who client y = waits_as who y && (is_offered y && same_birth y.port client)

now-accepted : (reply : Acceptance) (who : ℕ) (client : Birth) (y : WaitRow) → is_offered_on who client y ≡ true → is_accepted_on client (accepted reply y) ≡ true
now-accepted reply who client =
    by_kind (λ y. is_offered_on who client y ≡ true → is_accepted_on client (accepted reply y) ≡ true)
    (λ y m is. grind arith)
    (λ y is. grind arith)
    (λ y is. grind arith)
    (λ y m offer is. grind arith)
    (λ y m r is. grind arith)
    (λ y m is. grind arith)

is-connect : (who : ℕ) (client : Birth) (y : WaitRow) → is_offered_on who client y ≡ true → is_connect_on client y ≡ true
is-connect who client y is = at (waits_as who y) (is_offered y) (is_accepted y) (same_birth y.port client) is
  where
    at : (s o a b : Bool) → (s && (o && b)) ≡ true → ((o || a) && b) ≡ true
    at s o a b all = grind arith

-- what is known where a connect is accepted: the client port stands, the connect waits on it, and no accepted one does on
-- either port
pub record IsFree (ports : List PortRow) (waits : List WaitRow) (client server : Birth) (who : ℕ) : Type 0 where
  pub stands : has (is_port client) ports ≡ true
  pub offered : has (is_offered_on who client) waits ≡ true
  pub on_client : has (is_accepted_on client) waits ≡ false
  pub on_server : has (is_accepted_on server) waits ≡ false

module _ (ports : List PortRow) (waits : List WaitRow) (client server : Birth) (context who : ℕ) (reply : Acceptance) (free : IsFree ports waits client server who) (t : IsTied ports waits) where
  abbrev before : World
  before = tied ports waits

  abbrev after : World
  after = tied (map (joined client server context) ports) (change (waits_as who) (accepted reply) waits)

  -- accepted connects stay, and there is one more
  stays : (c : Birth) → has (is_accepted_on c) waits ≡ true → has (is_accepted_on c) after.waits ≡ true
  stays c is = has-change_to (is_accepted_on c) (waits_as who) (accepted reply) waits (every-any _ (still-accepted reply who c) waits) is

  accepts : has (is_accepted_on client) after.waits ≡ true
  accepts = has-turned (is_offered_on who client) (is_accepted_on client) (waits_as who) (accepted reply) (λ y is. offered-thread y is) (λ y is. now-accepted reply who client y is) waits free.offered
    where
      offered-thread : (y : WaitRow) → is_offered_on who client y ≡ true → waits_as who y ≡ true
      offered-thread y is = grind arith

  -- an accepted connect waits on neither of the two ports before
  apart : (b c : Birth) → has (is_accepted_on b) waits ≡ false → has (is_accepted_on c) waits ≡ true → same_birth c b ≡ false
  apart b c none is = false_from_ne_true (same_birth c b) (λ same. let one = subst (λ d. has (is_accepted_on d) waits ≡ true) (birth-same c b same) is in cc)

  -- the pair of another port is the same
  other-pair : (b c : Birth) → has (is_accepted_on c) waits ≡ true → is_the b (pair_of before c) ≡ true → is_the b (pair_of after c) ≡ true
  other-pair b c waited = pair-kept before after b c (λ q here. rw (joined-row ports client server context c q here) (same q here))
    where
      off : (q : PortRow) → first (is_port c) ports ≡ Some q → (d : Birth) → has (is_accepted_on d) waits ≡ false → is_port d q ≡ false
      off q here d none = subst (λ e. same_birth e d ≡ false) (sym (birth-same q.birth c (first-passes (is_port c) ports q here))) (apart d c none waited)

      same : (q : PortRow) → first (is_port c) ports ≡ Some q → (joined client server context q).pair ≡ q.pair
      same q here = rw (off q here client free.on_client, off q here server free.on_server) refl

  -- the client port's pair is the server port
  client-pair : (b : Birth) → same_birth b server ≡ true → is_the b (pair_of after client) ≡ true
  client-pair b is = at (first (is_port client) ports) refl free.stands
    where
      at : (o : Option PortRow) → first (is_port client) ports ≡ o → is_some o ≡ true → is_the b (pair_of after client) ≡ true
      at None here some = absurd (cc)
      at (Some q) here some =
          let own = first-passes (is_port client) ports q here in
          let row : port_row after client ≡ Some (paired server context q) = rw own at (joined-row ports client server context client q here) in
          rw row is

  joined-awaited : (p : PortRow) → is_awaited before p ≡ true → lacks_connects before p ≡ true → is_awaited after (joined client server context p) ≡ true
  joined-awaited p was lacks = at (is_port client p) (is_port server p) refl refl
    where
      no-server : (s h : Bool) (d o : Bool) → h ≡ true → not (s && h) ≡ true → (not (s && not d) || o) ≡ true
      no-server s h d o one off = grind arith

      both-parts : (u a b : Bool) → a ≡ true → b ≡ true → (not u || (false || (a && b))) ≡ true
      both-parts u a b one two = grind arith

      waited : is_port client p ≡ true → has (is_connect_on p.birth) waits ≡ true
      waited here =
          subst (λ b. has (is_connect_on b) waits ≡ true) (sym (birth-same p.birth client here)) (has-more (is_offered_on who client) (is_connect_on client) (is-connect who client) waits free.offered)

      at : (c s : Bool) → is_port client p ≡ c → is_port server p ≡ s → let q : PortRow = cond c (paired server context p) (cond s (paired client context p) p) in is_awaited after q ≡ true
      at true s one two = no-server (is_server_port p) (has (is_connect_on p.birth) waits) p.completed _ (waited one) lacks
      at false true one two = both-parts (is_uncompleted p) (has (is_accepted_on client) after.waits) (is_the p.birth (pair_of after client)) accepts (client-pair p.birth two)
      at false false one two = awaited-kept before after p (λ c _ _ is. on-waited c is) was
        where
          on-waited : (c : Birth) → is_awaited_on before p.birth c ≡ true → is_awaited_on after p.birth c ≡ true
          on-waited c is = on-kept before after p.birth c (stays c) (other-pair p.birth c (first-true (has (is_accepted_on c) waits) (is_the p.birth (pair_of before c)) is)) is

  joined-lacks : (p : PortRow) → lacks_connects before p ≡ true → lacks_connects after (joined client server context p) ≡ true
  joined-lacks p lacks = at (is_port client p) (is_port server p)
    where
      still : lacks_connects after p ≡ true
      still = rw (has-change (is_connect_on p.birth) (waits_as who) (accepted reply) (connect-same reply p.birth) waits) lacks

      at : (c s : Bool) → let q : PortRow = cond c (paired server context p) (cond s (paired client context p) p) in lacks_connects after q ≡ true
      at true s = still
      at false true = still
      at false false = still

  pub tied-accepted : IsTied (map (joined client server context) ports) (change (waits_as who) (accepted reply) waits)
  tied-accepted = record {
    pairs = rw (every-map (is_awaited after) (joined client server context) ports) (every-both (is_awaited before) (lacks_connects before) (λ p. is_awaited after (joined client server context p)) joined-awaited ports t.pairs t.servers);
    servers = rw (every-map (lacks_connects after) (joined client server context) ports) (every-more (lacks_connects before) (λ p. lacks_connects after (joined client server context p)) joined-lacks ports t.servers);
  }

-- A port that goes
-- a port has this one as its other end or as its connection port
abbrev pub is_joined_to : Birth → PortRow → Bool
is_joined_to b p = is_the b p.pair || is_the b p.connection

-- another port stands as it was
pub other-port : (b c : Birth) (p : PortRow) → same_birth c b ≡ false → is_port c p ≡ true → is_port b p ≡ false
other-port b c p apart here = subst (λ d. same_birth d b ≡ false) (sym (birth-same p.birth c here)) apart

-- a port that is joined to another one than that which goes
unjoined : (b c : Birth) (o p : Option Birth) → o ≡ Some c → not (is_the b o || is_the b p) ≡ true → same_birth b c ≡ false
unjoined b c o p some off = let off' : not (same_birth b c || is_the b p) ≡ true = rw some at off in at (same_birth b c) (is_the b p) off'
  where
    at : (s t : Bool) → not (s || t) ≡ true → s ≡ false
    at s t is = grind arith

freed-awaited : (ports : List PortRow) (waits : List WaitRow) (b : Birth) (p : PortRow) → is_awaited (tied ports waits) p ≡ true → not (is_joined_to b p) ≡ true → is_awaited (tied (without (is_port b) ports) waits) p ≡ true
freed-awaited ports waits b p was off =
    let w = tied ports waits in
    let v = tied (without (is_port b) ports) waits in
    awaited-kept w v p (λ c some _. on-kept w v p.birth c (λ is. is) (pair-kept w v p.birth c (λ q here.
    rw (first-without (is_port c) (is_port b) (λ r own. other-port b c r (births-apart b c (unjoined b c p.pair p.connection some off)) own) ports q here) refl))) was

pub tied-freed : (ports : List PortRow) (waits : List WaitRow) (b : Birth) → every (λ p. not (is_joined_to b p)) ports ≡ true → IsTied ports waits → IsTied (without (is_port b) ports) waits
tied-freed ports waits b off t =
    let w = tied ports waits in
    let v = tied (without (is_port b) ports) waits in
    record {
      pairs = every-without (is_awaited v) (is_port b) ports (every-both (is_awaited w) (λ p. not (is_joined_to b p)) (is_awaited v) (freed-awaited ports waits b) ports t.pairs off);
      servers = every-without (lacks_connects w) (is_port b) ports t.servers;
    }
