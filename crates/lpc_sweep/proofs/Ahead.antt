-- Rows go ahead of the sweep, one after the other, and the sweep still leaves the same.
use Rattle.std.proofs.Common.{◌≡◌, ◌≤◌, ◌∷◌, ◌++◌, [], Bool, List, cond, map, not, refl, ap, sym, subst, ◌∙◌, true, false, arith}
use Rattle.std.specs.Prelude.{◌==◌}
use Rattle.lpc_base.specs.declared.birth.Birth.{Birth}
use Rattle.lpc_base.specs.Rows.{every, has, which}
use Rattle.lpc_base.proofs.RowWords.{every-back, every-front, every-more, every-without}
use Rattle.lpc_base.proofs.RowMaps.{every-map}
use Rattle.lpc_model.specs.World.{ObjectName, PortRow, ProcessRow, SectionRow, ThreadRow, TokenRow, World}
use Rattle.lpc_model.specs.Basics.{Frees, basic, freed, world_after}
use Rattle.lpc_model.specs.Found.{is_section, is_token, object_names, port_name, process_name, section_name, thread_name, token_name}
use Rattle.lpc_model.specs.Linked.{AreLivesHeld, HasHeldPorts, HasHeldSections, HasHeldTokens}
use Rattle.lpc_model.specs.Sweep.{is_unheld, sweep, unheld}
use Rattle.lpc_model.proofs.Held.FreedLife.{process_first, section_first, thread_first, token_first}
use Rattle.lpc_model.proofs.Held.Lives.{same-section, same-thread, same-token}
use Rattle.lpc_model.specs.declared.entry.ObjectKind.{ObjectKind}
use Rattle.lpc_model.specs.declared.entry.ObjectKind.TheVariants as kind
use Rattle.lpc_rows.specs.Capacity.{but_lives}
use Rattle.lpc_rows.specs.Kept.{GainsNoLives, Kept, Roomy}
use Rattle.lpc_rows.proofs.Rooms.{roomy_same, roomy_then}
use Rattle.lpc_sweep.specs.Sweeping.{CanSweep, HasHeldThreads, SweepsAhead}
use Rattle.lpc_sweep.proofs.HeldPorts.{can_freed}

pub ahead_same : (w : Kept) → CanSweep w.rows → SweepsAhead w w
ahead_same w can = record { can = can; leaves = refl; sections = λ held. held; tokens = λ held. held; calls = refl; made = omega arith; room = roomy_same w.room; capacity = refl; lives = record { for_processes = omega arith; for_threads = omega arith } }

pub lives_then : (u v w : Kept) → GainsNoLives u v → GainsNoLives v w → GainsNoLives u w
lives_then u v w one two = record { for_processes = omega (arith, one.for_processes, two.for_processes); for_threads = omega (arith, one.for_threads, two.for_threads) }

pub ahead_then : (u v w : Kept) → SweepsAhead u v → SweepsAhead v w → SweepsAhead u w
ahead_then u v w one two = record {
  can = two.can;
  leaves = two.leaves ∙ one.leaves;
  sections = λ held. two.sections (one.sections held);
  tokens = λ held. two.tokens (one.tokens held);
  calls = two.calls ∙ one.calls;
  made = omega (arith, one.made, two.made);
  room = roomy_then _ _ _ one.room two.room;
  capacity = two.capacity ∙ one.capacity;
  lives = lives_then u v w one.lives two.lives;
}

-- sections that are held stay so whatever goes
pub sections-held : (w : World) (o : ObjectName) → HasHeldSections w → HasHeldSections (basic w (Frees o))
sections-held w o held = left o.kind o.birth (every-more (λ s. not (is_unheld w (section_name s.birth))) still (λ s is. ap (λ n. not (n == 0)) (same-section w o s.birth) ∙ is) w.sections held)
  where
    still : SectionRow → Bool
    still s = not (is_unheld (basic w (Frees o)) (section_name s.birth))

    left : (k : ObjectKind) (b : Birth) → every still w.sections ≡ true → every still (freed w k b).sections ≡ true
    left kind.Section b all = every-without still (is_section b) w.sections all
    left k b all = all

-- so do tokens
pub tokens-held : (w : World) (o : ObjectName) → HasHeldTokens w → HasHeldTokens (basic w (Frees o))
tokens-held w o held = left o.kind o.birth (every-more (λ t. not (is_unheld w (token_name t.birth))) still (λ t is. ap (λ n. not (n == 0)) (same-token w o t.birth) ∙ is) w.tokens held)
  where
    still : TokenRow → Bool
    still t = not (is_unheld (basic w (Frees o)) (token_name t.birth))

    left : (k : ObjectKind) (b : Birth) → every still w.tokens ≡ true → every still (freed w k b).tokens ≡ true
    left kind.Token b all = every-without still (is_token b) w.tokens all
    left k b all = all

-- what no row counts for goes
module _ (u v : Kept) (b : Birth) (calls : v.calls ≡ u.calls) (made : v.made ≤ u.made) (room : Roomy u.room v.room) (capacity : but_lives v.capacity ≡ but_lives u.capacity) (lives : GainsNoLives u v) (can : CanSweep u.rows) where
  ahead-by : (o : ObjectName) → v.rows ≡ basic u.rows (Frees o) → is_unheld u.rows o ≡ true → world_after (basic u.rows (Frees o)) (sweep (basic u.rows (Frees o))) ≡ world_after u.rows (sweep u.rows) → SweepsAhead u v
  ahead-by o went none same = record {
    can = subst CanSweep (sym went) (can_freed u.rows o can none);
    leaves = ap (λ (w : World). world_after w (sweep w)) went ∙ same;
    sections = λ held. subst HasHeldSections (sym went) (sections-held u.rows o held);
    tokens = λ held. subst HasHeldTokens (sym went) (tokens-held u.rows o held);
    calls = calls;
    made = made;
    room = room;
    capacity = capacity;
    lives = lives;
  }

  pub thread-ahead : v.rows ≡ basic u.rows (Frees (thread_name b)) → is_unheld u.rows (thread_name b) ≡ true → SweepsAhead u v
  thread-ahead went none = ahead-by (thread_name b) went none (thread_first u.rows b none)

  pub process-ahead : v.rows ≡ basic u.rows (Frees (process_name b)) → is_unheld u.rows (process_name b) ≡ true → SweepsAhead u v
  process-ahead went none = ahead-by (process_name b) went none (process_first u.rows b can.ports none)

  pub section-ahead : v.rows ≡ basic u.rows (Frees (section_name b)) → has (is_section b) u.rows.sections ≡ true → is_unheld u.rows (section_name b) ≡ true → SweepsAhead u v
  section-ahead went there none = ahead-by (section_name b) went none (section_first u.rows b there none)

  pub token-ahead : v.rows ≡ basic u.rows (Frees (token_name b)) → is_unheld u.rows (token_name b) ≡ true → SweepsAhead u v
  token-ahead went none = ahead-by (token_name b) went none (token_first u.rows b none)

-- threads that are held stay so where a process goes
pub threads-held : (w : World) (b : Birth) → is_unheld w (process_name b) ≡ true → HasHeldThreads w → HasHeldThreads (basic w (Frees (process_name b)))
threads-held w b none held =
    let v = basic w (Frees (process_name b)) in
    every-more (λ t. not (is_unheld w (thread_name t.birth))) (λ t. not (is_unheld v (thread_name t.birth))) (λ t is. ap (λ n. not (n == 0)) (same-thread w (process_name b) t.birth none) ∙ is) w.threads held

-- where no row is to go, some row counts for each port
which-none : {X : Type 0} (p : X → Bool) (xs : List X) → which p xs ≡ [] → every (λ x. not (p x)) xs ≡ true
which-none p [] none = refl
which-none p (x ∷ xs) none = by (p x) refl none (λ (rest : which p xs ≡ []). which-none p xs rest)
  where
    by : (c : Bool) → p x ≡ c → cond c (x ∷ which p xs) (which p xs) ≡ [] → (which p xs ≡ [] → every (λ y. not (p y)) xs ≡ true) → every (λ y. not (p y)) (x ∷ xs) ≡ true
    by true is none rest = absurd (cc)
    by false is none rest = let all = rest none in rw (is, all) refl

pub none-unheld : (w : World) → unheld w ≡ [] → HasHeldPorts w
none-unheld w none =
    let held : ObjectName → Bool = λ o. not (is_unheld w o) in
    let tokens = map (λ (t : TokenRow). token_name t.birth) w.tokens in
    let sections = map (λ (s : SectionRow). section_name s.birth) w.sections in
    let processes = map (λ (p : ProcessRow). process_name p.birth) w.processes in
    let threads = map (λ (t : ThreadRow). thread_name t.birth) w.threads in
    let ports = map (λ (p : PortRow). port_name p.birth) w.ports in
    let all = which-none (is_unheld w) (object_names w) none in
    let last = every-back held threads ports (every-back held processes (threads ++ ports) (every-back held sections (processes ++ (threads ++ ports)) (every-back held tokens (sections ++ (processes ++ (threads ++ ports))) all))) in
    sym (every-map held (λ (p : PortRow). port_name p.birth) w.ports) ∙ last

-- and for each thread and each process
pub none-unheld_lives : (w : World) → unheld w ≡ [] → AreLivesHeld w
none-unheld_lives w none =
    let held : ObjectName → Bool = λ o. not (is_unheld w o) in
    let tokens = map (λ (t : TokenRow). token_name t.birth) w.tokens in
    let sections = map (λ (s : SectionRow). section_name s.birth) w.sections in
    let processes = map (λ (p : ProcessRow). process_name p.birth) w.processes in
    let threads = map (λ (t : ThreadRow). thread_name t.birth) w.threads in
    let ports = map (λ (p : PortRow). port_name p.birth) w.ports in
    let all = which-none (is_unheld w) (object_names w) none in
    let rest = every-back held sections (processes ++ (threads ++ ports)) (every-back held tokens (sections ++ (processes ++ (threads ++ ports))) all) in
    let last = every-back held processes (threads ++ ports) rest in
    record {
      threads = sym (every-map held (λ (t : ThreadRow). thread_name t.birth) w.threads) ∙ every-front held threads ports last;
      processes = sym (every-map held (λ (p : ProcessRow). process_name p.birth) w.processes) ∙ every-front held processes (threads ++ ports) rest;
    }
