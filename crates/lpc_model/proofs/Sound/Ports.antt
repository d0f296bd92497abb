-- Basic steps on connections keep a world's waits sound.
use Rattle.std.proofs.Common.{◌≡◌, ℕ, Bool, true, false, cond, map, not, Option, Some, None, refl, sym, subst, arith}
use Rattle.std.specs.Prelude.{◌&&◌, ◌||◌, ◌==◌, is_some}
use Rattle.std.proofs.lemmas.Bool.Decides.{nat_tests}
use Rattle.lpc_base.specs.Rows.{every, has, passes}
use Rattle.lpc_base.proofs.RowWords.{every-more, every-without, first-passes}
use Rattle.lpc_base.proofs.RowMaps.{every-both, every-change_to, every-map}
use Rattle.lpc_base.proofs.Births.{birth-same}
use Rattle.lpc_model.specs.World.{Acceptance, Accepted, Birth, Listen, PortRow, Receive, Request, WaitRow, World, Security, Event}
use Rattle.lpc_model.specs.Found.{is_made_on, is_open, is_port, port_name, pair_of, port_row, same_birth, waits_as, was_thread}
use Rattle.lpc_model.specs.Basics.{Accepts, Completes, Frees, Joins, accepted, basic, completed, joined, paired, Secures, secured}
use Rattle.lpc_model.specs.Tests.{is_client}
use Rattle.lpc_model.specs.SoundWaits.{IsSoundWorld, has_client_port, is_joined, is_past, waiter_of}
use Rattle.lpc_model.proofs.Steps.Rows.{count-change, first-map, first-without}
use Rattle.lpc_model.proofs.Calls.Usable.{by_port_kind}
use Rattle.lpc_model.proofs.Sound.Pairs.{tied-of}
use Rattle.lpc_model.proofs.Sound.Ties.{IsFree, is_joined_to, completed-birth, completed-pair, joined-birth, other-port, same-port, tied-accepted, tied-completed, tied-freed, secured-birth, secured-pair, tied-secured}
use Rattle.lpc_model.proofs.Sound.Worlds.{InOrder, KeepsPort, StandsAs, by_kind, is_sure, kept-sure, port-kept, sound-from, sound-kept, stands-same, sure-waits}

-- ports whose rows change, but not their births
pub order-mapped : (w : World) (f : PortRow → PortRow) → ((p : PortRow) → (f p).birth ≡ p.birth) → IsSoundWorld w → InOrder (record w { ports = map f w.ports })
order-mapped w f same s = record {
  tables = s.tables;
  unused = s.unused;
  homes = s.homes;
  names = s.names;
  ordinals = λ tid t here. rw (every-map (λ p. is_past p t) f w.ports) (every-more (λ p. is_past p t) (λ p. is_past (f p) t) (λ p is. rw (same p) is) w.ports (s.ordinals tid t here));
  numbers = s.numbers;
  makers = rw (every-map (λ p. was_thread w p.birth.maker) f w.ports) (every-more (λ p. was_thread w p.birth.maker) (λ p. was_thread w (f p).birth.maker) (λ p is. rw (same p) is) w.ports s.makers);
}

-- A connection that is completed
completed-joined : (c : Bool) (p : PortRow) → let q : PortRow = cond c (completed p) p in is_joined q ≡ is_joined p
completed-joined true p = refl
completed-joined false p = refl

pub sound-completes : (w : World) (c : Birth) → IsSoundWorld w → IsSoundWorld (basic w (Completes c))
sound-completes w c s =
    let v = basic w (Completes c) in
    sound-kept w v (record {
      clients = λ c is. is;
      opens = λ b is. is;
      messages = refl;
      marks = refl;
    }) (λ b own. port-kept w v b own (λ b is. is) (λ p at. record {
      row = cond (is_port c p) (completed p) p;
      at = first-map (is_port b) (λ p. cond (is_port c p) (completed p) p) (λ p. same-port b p (cond (is_port c p) (completed p) p) (completed-birth (is_port c p) p)) w.ports p at;
      paired = λ is. rw (completed-pair (is_port c p) p) is;
      joined = λ is. rw (completed-joined (is_port c p) p) is;
      served = λ _ is. rw (completed-pair (is_port c p) p) is;
    })) refl (order-mapped w (λ p. cond (is_port c p) (completed p) p) (λ p. completed-birth (is_port c p) p) s) (tied-completed w.ports w.waits c (tied-of w s)) s

-- a port gets its access list, or what it allows
secured-joined : (y : Security) (c : Bool) (p : PortRow) → let q : PortRow = cond c (secured y p) p in is_joined q ≡ is_joined p
secured-joined y true p = refl
secured-joined y false p = refl

pub sound-secures : (w : World) (c : Birth) (y : Security) → IsSoundWorld w → IsSoundWorld (basic w (Secures c y))
sound-secures w c y s =
    let v = basic w (Secures c y) in
    sound-kept w v (record {
      clients = λ c is. is;
      opens = λ b is. is;
      messages = refl;
      marks = refl;
    }) (λ b own. port-kept w v b own (λ b is. is) (λ p at. record {
      row = cond (is_port c p) (secured y p) p;
      at = first-map (is_port b) (λ p. cond (is_port c p) (secured y p) p) (λ p. same-port b p (cond (is_port c p) (secured y p) p) (secured-birth y (is_port c p) p)) w.ports p at;
      paired = λ is. rw (secured-pair y (is_port c p) p) is;
      joined = λ is. rw (secured-joined y (is_port c p) p) is;
      served = λ _ is. rw (secured-pair y (is_port c p) p) is;
    })) refl (order-mapped w (λ p. cond (is_port c p) (secured y p) p) (λ p. secured-birth y (is_port c p) p) s) (tied-secured y w.ports w.waits c (tied-of w s)) s

-- A connection that is joined
pub joined-row : (w : World) (client server : Birth) (context : ℕ) (b : Birth) (p : PortRow) → port_row w b ≡ Some p → port_row (basic w (Joins client server context)) b ≡ Some (joined client server context p)
joined-row w client server context b p at =
    first-map (is_port b) (joined client server context) (λ p. same-port b p (joined client server context p) (joined-birth client server context p)) w.ports p at

-- a port with another end is joined, whatever its kind
pair-joins : (other : Birth) (context : ℕ) (p : PortRow) → is_joined (paired other context p) ≡ true
pair-joins other context = by_port_kind (λ p. is_joined (paired other context p) ≡ true) (λ p. refl) (λ p. refl) (λ p. refl) (λ p. refl)

-- a port that is found under two births has both
both-births : (w : World) (b server : Birth) (p : PortRow) → port_row w b ≡ Some p → is_port server p ≡ true → same_birth b server ≡ true
both-births w b server p here is = subst (λ c. same_birth c server ≡ true) (birth-same p.birth b (first-passes (is_port b) w.ports p here)) is

joined-stands : (w : World) (client server : Birth) (context : ℕ) (b : Birth) (own : Bool) → is_open w server ≡ true → (own ≡ true → same_birth b server ≡ false) → (p : PortRow) → port_row w b ≡ Some p
    → StandsAs (basic w (Joins client server context)) b own p
joined-stands w client server context b own opens other p here = at (is_port client p) (is_port server p) refl refl
  where
    at : (c s : Bool) → is_port client p ≡ c → is_port server p ≡ s → StandsAs (basic w (Joins client server context)) b own p
    at true s one two = record {
      row = paired server context p;
      at = rw one at (joined-row w client server context b p here);
      paired = λ is. refl;
      joined = λ is. pair-joins server context p;
      served = λ mine is. opens;
    }
    at false true one two = record {
      row = paired client context p;
      at = rw (one, two) at (joined-row w client server context b p here);
      paired = λ is. refl;
      joined = λ is. pair-joins client context p;
      served = λ mine is. let one = both-births w b server p here two in let off = other mine in absurd (cc);
    }
    at false false one two = stands-same (basic w (Joins client server context)) b own p (rw (one, two) at (joined-row w client server context b p here))

-- a client port that stands is served once it is joined
joined-serves : (w : World) (client server : Birth) (context : ℕ) → is_open w server ≡ true → (o : Option PortRow) → port_row w client ≡ o → is_some o ≡ true → passes (pair_of (basic w (Joins client server context)) client) (is_open w) ≡ true
joined-serves w client server context opens None at is = absurd (cc)
joined-serves w client server context opens (Some p) at is =
    let here = first-passes (is_port client) w.ports p at in
    let row : port_row (basic w (Joins client server context)) client ≡ Some (paired server context p) = rw here at (joined-row w client server context client p at) in
    rw row opens

-- A connect that is accepted
-- what is known of each wait where a connect is accepted: it is sound, it isn't the accepting thread's, and if it is the
-- accepted thread's, it is made on the client port
abbrev pub is_known : World → ℕ → ℕ → Birth → WaitRow → Bool
is_known w by who client x = is_sure w x && (not (waits_as by x) && (not (waits_as who x) || same_birth x.port client))

-- a port of its own isn't made by another thread
own-apart : (x : WaitRow) (server : Birth) → (x.thread == server.maker) ≡ false → (x.port.maker == x.thread) ≡ true → same_birth x.port server ≡ false
own-apart x server off own = grind (arith, nat_tests)

-- the ports of the waits are kept
joined-keeps : (w : World) (client server : Birth) (context : ℕ) → is_open w server ≡ true → (x : WaitRow) → (x.thread == server.maker) ≡ false → KeepsPort w (basic w (Joins client server context)) x.port (x.port.maker == x.thread)
joined-keeps w client server context opens x off =
    port-kept w (basic w (Joins client server context)) x.port (x.port.maker == x.thread) (λ b is. is) (joined-stands w client server context x.port (x.port.maker == x.thread) opens (own-apart x server off))

kept-joined : (w : World) (client server : Birth) (context : ℕ) → is_open w server ≡ true → (x : WaitRow) → (x.thread == server.maker) ≡ false → is_sure w x ≡ true → is_sure (basic w (Joins client server context)) x ≡ true
kept-joined w client server context opens x off is =
    kept-sure w (basic w (Joins client server context)) (record {
      clients = λ c is. is;
      opens = λ b is. is;
      messages = refl;
      marks = refl;
    }) x (joined-keeps w client server context opens x off) is

accepted-parts : (c q s t u : Bool) → ((c && q) && s) ≡ true → u ≡ true → (s ≡ true → t ≡ true) → ((c && u) && t) ≡ true
accepted-parts c q s t u is one two = grind arith

client-stands : (w : World) (x : WaitRow) → has_client_port w x ≡ true → has (is_port x.port) w.ports ≡ true
client-stands w x is = grind arith

now-accepted : (w : World) (client server : Birth) (context : ℕ) (reply : Acceptance) → is_open w server ≡ true → (x : WaitRow) → same_birth x.port client ≡ true → (x.thread == server.maker) ≡ false → is_sure w x ≡ true → is_sure (basic w (Joins client server context)) (accepted reply x) ≡ true
now-accepted w client server context reply opens =
    let v = basic w (Joins client server context) in
    by_kind (λ x. same_birth x.port client ≡ true → (x.thread == server.maker) ≡ false → is_sure w x ≡ true → is_sure v (accepted reply x) ≡ true)
    (λ x m here off is. kept-joined w client server context opens (record x { kind = Request m }) off is)
    (λ x here off is. kept-joined w client server context opens (record x { kind = Receive }) off is)
    (λ x here off is. kept-joined w client server context opens (record x { kind = Listen }) off is)
    (λ x m offer here off is.
    let same = birth-same x.port client here in
    let own : has_client_port w x ≡ true = grind arith in
    let stands = subst (λ b. has (is_port b) w.ports ≡ true) same (client-stands w x own) in
    let served = subst (λ b. passes (pair_of v b) (is_open w) ≡ true) (sym same) (joined-serves w client server context opens (port_row w client) refl stands) in
    accepted-parts (is_client w (waiter_of x)) _ (has_client_port w x) (has_client_port v x) (passes (pair_of v x.port) (is_open w)) is served (λ own.
    let keeps = joined-keeps w client server context opens x off in
    let still = keeps.stands (client-stands w x own) in grind arith))
    (λ x m reply here off is. kept-joined w client server context opens (record x { kind = Accepted m reply }) off is)
    (λ x m here off is. kept-joined w client server context opens (record x { kind = Event m }) off is)

known-parts : (s a b p : Bool) → (s && (not a && (not b || p))) ≡ true → (s ≡ true) × (a ≡ false) × (b ≡ true → p ≡ true)
known-parts true false b p is = (refl, refl, λ one. grind arith)
known-parts true true b p is = absurd (cc)
known-parts false a b p is = absurd (cc)

pub sound-accepts : (w : World) (client server : Birth) (context who : ℕ) (reply : Acceptance) → is_open w server ≡ true → every (is_known w server.maker who client) w.waits ≡ true → IsFree w.ports w.waits client server who → IsSoundWorld w → IsSoundWorld (basic (basic w (Joins client server context)) (Accepts who reply))
sound-accepts w client server context who reply opens all free s =
    let v = basic w (Joins client server context) in
    let by = server.maker in
    let parts = λ (x : WaitRow) (is : is_known w by who client x ≡ true). known-parts (is_sure w x) (waits_as by x) (waits_as who x) (same_birth x.port client) is in
    sound-from (basic v (Accepts who reply))
    (every-change_to (is_known w by who client) (is_sure v) (waits_as who) (accepted reply)
    (λ x is one. let k = parts x is in now-accepted w client server context reply opens x (k.2 one) k.1 k.0)
    (λ x is other. let k = parts x is in kept-joined w client server context opens x k.1 k.0) w.waits all)
    (λ tid. rw (count-change (waits_as tid) (waits_as who) (accepted reply) (λ x. refl) w.waits) (s.once tid))
    (order-mapped w (joined client server context) (joined-birth client server context) s) (tied-accepted w.ports w.waits client server context who reply free (tied-of w s))

-- A port that goes
freed-keeps : (w : World) (b : Birth) (x : WaitRow) → same_birth x.port b ≡ false → KeepsPort w (basic w (Frees (port_name b))) x.port (x.port.maker == x.thread)
freed-keeps w b x apart =
    let own = x.port.maker == x.thread in
    port-kept w (basic w (Frees (port_name b))) x.port own (λ b is. is) (λ p at.
    stands-same (basic w (Frees (port_name b))) x.port own p (first-without (is_port x.port) (is_port b) (λ p here. other-port b x.port p apart here) w.ports p at))

kept-freed : (w : World) (b : Birth) (x : WaitRow) → is_sure w x ≡ true → not (is_made_on b x) ≡ true → is_sure (basic w (Frees (port_name b))) x ≡ true
kept-freed w b x is off =
    kept-sure w (basic w (Frees (port_name b))) (record {
      clients = λ c is. is;
      opens = λ b is. is;
      messages = refl;
      marks = refl;
    }) x (freed-keeps w b x (grind arith)) is

pub sound-frees : (w : World) (b : Birth) → every (λ x. not (is_made_on b x)) w.waits ≡ true → every (λ p. not (is_joined_to b p)) w.ports ≡ true → IsSoundWorld w → IsSoundWorld (basic w (Frees (port_name b)))
sound-frees w b none apart s =
    let v = basic w (Frees (port_name b)) in
    sound-from v (every-both (is_sure w) (λ x. not (is_made_on b x)) (is_sure v) (kept-freed w b) w.waits (sure-waits w s) none) s.once (record {
      tables = s.tables;
      unused = s.unused;
      homes = s.homes;
      names = s.names;
      ordinals = λ tid t here. every-without (λ p. is_past p t) (is_port b) w.ports (s.ordinals tid t here);
      numbers = s.numbers;
      makers = every-without (λ p. was_thread w p.birth.maker) (is_port b) w.ports s.makers;
    }) (tied-freed w.ports w.waits b apart (tied-of w s))
