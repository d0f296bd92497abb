-- Rows that nothing names go, and waits stay sound.
use Rattle.std.proofs.Common.{◌≡◌, ◌∙◌, ℕ, ◌+◌, ◌≤◌, List, [], ◌∷◌, Bool, true, false, map, not, refl, arith}
use Rattle.std.specs.Prelude.{◌&&◌, ◌==◌}
use Rattle.std.proofs.lemmas.Bool.Decides.{nat_tests}
use Rattle.lpc_base.specs.Rows.{count, every, first, has, which, without}
use Rattle.lpc_base.proofs.RowWords.{count-left, every-more, every-without}
use Rattle.lpc_base.proofs.RowMaps.{every-both}
use Rattle.lpc_base.proofs.Bools.{apart-second}
use Rattle.lpc_model.specs.declared.entry.ObjectKind.TheVariants as kind
use Rattle.lpc_model.specs.World.{Birth, ObjectKind, ObjectName, PortRow, ThreadRow, World}
use Rattle.lpc_model.specs.Found.{all_registrations, all_views, handle_count, holders, is_connected_to, is_owned_by, is_port, lives_by, is_life, is_live_thread, is_made_on, is_paired_to, live_thread, pointer_count, registered_by, same_birth, was_thread, event_ports, event_ports_of}
use Rattle.lpc_model.specs.Basics.{Frees, basic, freed, world_after}
use Rattle.lpc_model.specs.Sweep.{free_unheld, is_unheld, sweep, unheld}
use Rattle.lpc_model.specs.SoundWaits.{IsSoundWorld, has_home}
use Rattle.lpc_model.proofs.Steps.Rows.{has-less}
use Rattle.lpc_model.proofs.Steps.Registrations.{dead-each, fewer-each}
use Rattle.lpc_model.proofs.Sound.Pairs.{tied-of}
use Rattle.lpc_model.proofs.Sound.Ties.{is_joined_to}
use Rattle.lpc_model.proofs.Sound.Worlds.{port-kept, sound-kept, sound-memory, sound-tokens, stands-same}
use Rattle.lpc_model.proofs.Sound.Ports.{sound-frees}
use Rattle.lpc_model.proofs.Steps.InTurn.{after-append}

-- What no row names
pub none-pass : {X : Type 0} (p : X → Bool) (xs : List X) → count p xs ≤ 0 → every (λ x. not (p x)) xs ≡ true
none-pass p [] few = refl
none-pass p (x ∷ xs) few = grind (arith, none-pass p xs)

pub is-zero : (n : ℕ) → (n == 0) ≡ true → n ≤ 0
is-zero n is = grind (arith, nat_tests)

pub sum-first : (a b : ℕ) → a + b ≤ 0 → a ≤ 0
sum-first a b few = omega arith

pub sum-second : (a b : ℕ) → a + b ≤ 0 → b ≤ 0
sum-second a b few = omega arith

unjoined : (b : Birth) (p : PortRow) → not (is_paired_to b p) ≡ true → not (is_connected_to b p) ≡ true → not (is_joined_to b p) ≡ true
unjoined b p one two = grind arith

-- A process and a thread that go
process-freed : (w : World) (b : Birth) → IsSoundWorld w → IsSoundWorld (basic w (Frees (record { kind = kind.Process; birth = b })))
process-freed w b s = record {
  waits = s.waits;
  stay = s.stay;
  once = s.once;
  names = s.names;
  tables = s.tables;
  unused = s.unused;
  homes = s.homes;
  pairs = s.pairs;
  servers = s.servers;
  ordinals = s.ordinals;
  numbers = s.numbers;
  makers = s.makers;
}

-- a live thread isn't the one that goes
live-apart : (tid : ℕ) (b : Birth) (t : ThreadRow) → is_live_thread tid t ≡ true → not (is_life b t) ≡ true → same_birth t.birth b ≡ false
live-apart tid b t lives off = apart-second t.live (same_birth t.birth b) (grind arith) off

first-apart : (tid : ℕ) (b : Birth) (ts : List ThreadRow) → every (λ t. not (is_life b t)) ts ≡ true → first (is_live_thread tid) (without (λ t. same_birth t.birth b) ts) ≡ first (is_live_thread tid) ts
first-apart tid b [] off = refl
first-apart tid b (t ∷ ts) off = grind (arith, live-apart tid b t, first-apart tid b ts)

thread-freed : (w : World) (b : Birth) → every (λ t. not (is_life b t)) w.threads ≡ true → IsSoundWorld w → IsSoundWorld (basic w (Frees (record { kind = kind.Thread; birth = b })))
thread-freed w b off s =
    let v = basic w (Frees (record { kind = kind.Thread; birth = b })) in
    let goes = λ (t : ThreadRow). same_birth t.birth b in
    let same : (tid : ℕ) → live_thread v tid ≡ live_thread w tid = λ tid. first-apart tid b w.threads off in
    sound-kept w v (record {
      clients = λ c is. rw (same c.thread) is;
      opens = λ b is. is;
      messages = refl;
      marks = refl;
    }) (λ b own. port-kept w v b own (λ b is. is) (λ p at. stands-same v b own p at)) refl (record {
      tables = s.tables;
      unused = s.unused;
      names = s.names;
      homes = every-without (has_home w) goes w.threads s.homes;
      ordinals = λ tid t here. s.ordinals tid t (rw (same tid) at here);
      numbers = every-without (λ t. was_thread w t.number) goes w.threads s.numbers;
      makers = s.makers;
    }) (tied-of w s) s

-- An object that goes
pub freed-sound : (w : World) (o : ObjectName) → is_unheld w o ≡ true → IsSoundWorld w → IsSoundWorld (basic w (Frees o))
freed-sound w o none s = at o.kind (is-zero (pointer_count w o) none)
  where
    b : Birth
    b = o.birth

    at : (k : ObjectKind) → pointer_count w (record { kind = k; birth = b }) ≤ 0 → IsSoundWorld (basic w (Frees (record { kind = k; birth = b })))
    at kind.Port few =
        let paired = count (is_paired_to b) w.ports in
        let connected = count (is_connected_to b) w.ports in
        let held : paired + (connected + (count (λ m. same_birth m.sender b) w.messages + (count (is_made_on b) w.waits + (count (same_birth b) (all_registrations w) + (count (is_owned_by b) (all_views w) + count (same_birth b) (event_ports w)))))) ≤ 0 = sum-second _ _ few in
        let waits = none-pass (is_made_on b) w.waits (omega (arith, held)) in
        let one = none-pass (is_paired_to b) w.ports (omega (arith, held)) in
        let two = none-pass (is_connected_to b) w.ports (omega (arith, held)) in
        sound-frees w b waits (every-both (λ p. not (is_paired_to b p)) (λ p. not (is_connected_to b p)) (λ p. not (is_joined_to b p)) (unjoined b) w.ports one two) s
    at kind.Section few = sound-memory w _ _ _ s
    at kind.Token few = sound-tokens w _ _ s
    at kind.Process few = process-freed w b s
    at kind.Thread few = thread-freed w b (none-pass (is_life b) w.threads (sum-second _ _ few)) s

-- what no row names, none names once another object has gone
pub fewer-pass : {X : Type 0} (p q : X → Bool) → ((x : X) → p x ≡ true → q x ≡ true) → (xs : List X) → count p xs ≤ count q xs
fewer-pass p q more [] = omega arith
fewer-pass p q more (x ∷ xs) = grind (arith, more x, fewer-pass p q more xs)

still-lives : (w : World) (b c : Birth) (t : ThreadRow) → lives_by (freed w kind.Process c) b t ≡ true → lives_by w b t ≡ true
still-lives w b c t is = at t.live is
  where
    there : has (λ p. same_birth p.birth b && (p.number == t.process)) (without (λ p. same_birth p.birth c) w.processes) ≡ true → has (λ p. same_birth p.birth b && (p.number == t.process)) w.processes ≡ true
    there one = has-less (λ p. same_birth p.birth b && (p.number == t.process)) (λ p. same_birth p.birth c) w.processes one

    at : (l : Bool) → (l && has (λ p. same_birth p.birth b && (p.number == t.process)) (without (λ p. same_birth p.birth c) w.processes)) ≡ true → (l && has (λ p. same_birth p.birth b && (p.number == t.process)) w.processes) ≡ true
    at true one = there one
    at false one = absurd (cc)

less : (a b c d e f : ℕ) → a ≤ d → b ≤ e → a + (b + (c + f)) ≤ d + (e + (c + f))
less a b c d e f one two = omega (arith, one, two)

last-less : (a b c d e f g h : ℕ) → f ≤ e → a + (b + (c + (d + (f + (g + h))))) ≤ a + (b + (c + (d + (e + (g + h)))))
last-less a b c d e f g h is = omega (arith, is)

ports-less : (a b c d g h e f : ℕ) → f ≤ e → a + (b + (c + (d + (g + (h + f))))) ≤ a + (b + (c + (d + (g + (h + e)))))
ports-less a b c d g h e f is = omega (arith, is)

fewer-holders : (w : World) (g k : ObjectKind) (c b : Birth) → holders (freed w g c) k b ≤ holders w k b
fewer-holders w kind.Port k c b = at k
  where
    at : (k : ObjectKind) → holders (freed w kind.Port c) k b ≤ holders w k b
    at kind.Port = less _ _ _ _ _ _ (count-left (is_paired_to b) (is_port c) w.ports) (count-left (is_connected_to b) (is_port c) w.ports)
    at b = omega arith
fewer-holders w kind.Section k c b = omega arith
fewer-holders w kind.Token k c b = omega arith
fewer-holders w kind.Process k c b = at k
  where
    at : (k : ObjectKind) → holders (freed w kind.Process c) k b ≤ holders w k b
    at kind.Port = ports-less _ _ _ _ _ _ _ _ (fewer-each (same_birth b) event_ports_of (λ p. same_birth p.birth c) w.processes)
    at kind.Process = fewer-pass (lives_by (freed w kind.Process c) b) (lives_by w b) (still-lives w b c) w.threads
    at kind.Section = omega arith
    at kind.Token = omega arith
    at kind.Thread = omega arith
fewer-holders w kind.Thread k c b = at k
  where
    at : (k : ObjectKind) → holders (freed w kind.Thread c) k b ≤ holders w k b
    at kind.Port = last-less _ _ _ _ _ _ (count (is_owned_by b) (all_views w)) _ (fewer-each (same_birth b) registered_by (λ t. same_birth t.birth c) w.threads)
    at kind.Section = omega arith
    at kind.Token = omega arith
    at kind.Process = count-left (lives_by w b) (λ t. same_birth t.birth c) w.threads
    at kind.Thread = count-left (is_life b) (λ t. same_birth t.birth c) w.threads

same-handles : (w : World) (g : ObjectKind) (c : Birth) (o : ObjectName) → handle_count (freed w g c) o ≡ handle_count w o
same-handles w kind.Port c o = refl
same-handles w kind.Section c o = refl
same-handles w kind.Token c o = refl
same-handles w kind.Process c o = refl
same-handles w kind.Thread c o = refl

still-zero : (a b c d : ℕ) → c ≡ a → d ≤ b → ((a + b) == 0) ≡ true → ((c + d) == 0) ≡ true
still-zero a b c d one two is = grind (arith, nat_tests)

pub less-held : (w : World) (gone o : ObjectName) → is_unheld w o ≡ true → is_unheld (basic w (Frees gone)) o ≡ true
less-held w gone o none =
    still-zero (handle_count w o) (holders w o.kind o.birth) _ _ (same-handles w gone.kind gone.birth o) (fewer-holders w gone.kind o.kind gone.birth o.birth) none

-- and the registrations of live threads stay
pub freed-registrations : (w : World) (o : ObjectName) → is_unheld w o ≡ true → all_registrations (basic w (Frees o)) ≡ all_registrations w
freed-registrations w o none = at o.kind o.birth (is-zero (pointer_count w o) none)
  where
    at : (k : ObjectKind) (b : Birth) → pointer_count w (record { kind = k; birth = b }) ≤ 0 → all_registrations (freed w k b) ≡ all_registrations w
    at kind.Thread b few = dead-each b w.threads (none-pass (is_life b) w.threads (sum-second _ _ few))
    at e b few = refl

pub frees-registrations : (w : World) (os : List ObjectName) → every (is_unheld w) os ≡ true → all_registrations (world_after w (map Frees os)) ≡ all_registrations w
frees-registrations w [] all = refl
frees-registrations w (o ∷ os) all =
    let here : is_unheld w o ≡ true = grind arith in
    let later : every (is_unheld w) os ≡ true = grind arith in
    frees-registrations (basic w (Frees o)) os (every-more (is_unheld w) (is_unheld (basic w (Frees o))) (less-held w o) os later) ∙ freed-registrations w o here

freed-all : (w : World) (os : List ObjectName) → every (is_unheld w) os ≡ true → IsSoundWorld w → IsSoundWorld (world_after w (map Frees os))
freed-all w [] all s = s
freed-all w (o ∷ os) all s =
    let here : is_unheld w o ≡ true = grind arith in
    let later : every (is_unheld w) os ≡ true = grind arith in
    freed-all (basic w (Frees o)) os (every-more (is_unheld w) (is_unheld (basic w (Frees o))) (less-held w o) os later) (freed-sound w o here s)

pub which-all : {X : Type 0} (p : X → Bool) (xs : List X) → every p (which p xs) ≡ true
which-all p [] = refl
which-all p (x ∷ xs) = grind (arith, which-all p xs)

-- all that no row names, and then what only those named
unheld-sound : (w : World) → IsSoundWorld w → IsSoundWorld (world_after w (free_unheld w))
unheld-sound w s = freed-all w (unheld w) (which-all (is_unheld w) _) s

pub swept-sound : (w : World) → IsSoundWorld w → IsSoundWorld (world_after w (sweep w))
unfolding sweep
swept-sound w s =
    let v = world_after w (free_unheld w) in
    rw (after-append w (free_unheld w) (free_unheld v)) (unheld-sound v (unheld-sound w s))
