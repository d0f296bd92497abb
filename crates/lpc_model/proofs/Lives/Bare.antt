-- Where no process lives, handles and views are of living processes alone and pairs are kept, nothing is left.
use Rattle.std.proofs.Common.{◌≡◌, ℕ, List, [], ◌∷◌, ◌++◌, Bool, true, false, not, Option, Some, None, refl, arith}
use Rattle.std.specs.Prelude.{◌&&◌, ◌||◌, is_none, is_some}
use Rattle.std.proofs.lemmas.Bool.Decides.{nat_tests}
use Rattle.std.proofs.lemmas.Bool.{false_from_ne_true}
use Rattle.lpc_base.specs.Rows.{count, each, every, first, has, passes}
use Rattle.lpc_base.proofs.RowWords.{every-more, first-passes}
use Rattle.lpc_base.proofs.RowMaps.{every-both}
use Rattle.lpc_base.proofs.Bools.{first-true, or-second, second-true}
use Rattle.lpc_model.specs.World.{Birth, HandleRow, HandleTable, PortRow, ThreadRow, ViewRow, ViewTable, WaitRow, World, ProcessRow}
use Rattle.lpc_model.specs.Found.{all_handles, all_views, is_connected_to, is_life, is_live, is_live_thread, is_open, is_paired_to, is_port, is_the, lives_by, lives_in, live_thread, names_port, port_name, process_name, registered_by, section_name, thread_name, token_name, event_ports, event_ports_of}
use Rattle.lpc_model.specs.Sweep.{is_unheld}
use Rattle.lpc_model.specs.Linked.{HasHeldRows, IsLinked, names_nothing}
use Rattle.lpc_model.specs.OpenQueues.{HasOpenQueues}
use Rattle.lpc_model.specs.SoundWaits.{IsSoundWorld, is_sound_as, is_sound_wait, waiter_of}
use Rattle.lpc_model.specs.Tests.{is_client}
use Rattle.lpc_model.specs.Left.{HasKeptPairs, HasLivingHandles, HasLivingViews, IsBare, is_kept_pair, is_living_space, is_living_table, lacks_handles, lacks_views, HasLivingPorts, is_living_process}
use Rattle.lpc_model.proofs.Steps.Rows.{has-found, has-off}
use Rattle.lpc_model.proofs.Steps.Handles.{open-count}
use Rattle.lpc_model.proofs.Held.Ports.{connected-end, found-self, is_held_aside, unheld-parts}
use Rattle.lpc_model.proofs.Held.Events.{told-nothing}

-- rows of which each passes and none does
none-left : {X : Type 0} (p : X → Bool) (xs : List X) → every p xs ≡ true → ((x : X) → p x ≡ false) → xs ≡ []
none-left p [] all none = refl
none-left p (x ∷ xs) all none = let off = none x in absurd (grind arith)

-- No thread lives
dead-all : (w : World) → ((pid : ℕ) → is_live w pid ≡ false) → every (λ t. not t.live) w.threads ≡ true
dead-all w dead = at (has (λ t. t.live) w.threads) refl
  where
    off-all : (ts : List ThreadRow) → has (λ t. t.live) ts ≡ false → every (λ t. not t.live) ts ≡ true
    off-all [] none = refl
    off-all (t ∷ ts) none = grind (arith, off-all ts)

    own : (t : ThreadRow) → t.live ≡ true → lives_in t.process t ≡ true
    own t is = grind (arith, nat_tests)

    found : (o : Option ThreadRow) → first (λ t. t.live) w.threads ≡ o → is_some o ≡ true → false ≡ true
    found None none is = is
    found (Some t) here is =
        let lives = has-found (lives_in t.process) (λ t. t.live) w.threads t here (own t (first-passes (λ t. t.live) w.threads t here)) in
        let off = dead t.process in absurd (cc)

    at : (c : Bool) → has (λ t. t.live) w.threads ≡ c → every (λ t. not t.live) w.threads ≡ true
    at true is = let never = found (first (λ t. t.live) w.threads) refl is in absurd (cc)
    at false off = off-all w.threads off

none-live : (n : ℕ) (ts : List ThreadRow) → every (λ t. not t.live) ts ≡ true → first (is_live_thread n) ts ≡ None
none-live n [] dead = refl
none-live n (t ∷ ts) dead = grind (arith, none-live n ts)

none-count : (p : ThreadRow → Bool) → ((t : ThreadRow) → t.live ≡ false → p t ≡ false) → (ts : List ThreadRow) → every (λ t. not t.live) ts ≡ true → count p ts ≡ 0
none-count p off [] dead = refl
none-count p off (t ∷ ts) dead = grind (arith, off t, none-count p off ts)

none-registered : (ts : List ThreadRow) → every (λ t. not t.live) ts ≡ true → each registered_by ts ≡ []
none-registered [] dead = refl
none-registered (t ∷ ts) dead = at t.live refl (none-registered ts (second-true _ _ dead)) (first-true _ _ dead)
  where
    at : (l : Bool) → t.live ≡ l → each registered_by ts ≡ [] → not t.live ≡ true → registered_by t ++ each registered_by ts ≡ []
    at true is later off = absurd (cc)
    at false is later off = rw (is, later) refl

-- No handle is left
none-handles : (w : World) → ((pid : ℕ) → is_live w pid ≡ false) → HasLivingHandles w → all_handles w ≡ []
none-handles w dead living = of w.handles (every-more (is_living_table w) lacks_handles (λ t is. or-second (is_live w t.process) _ (dead t.process) is) w.handles living)
  where
    empty : (t : HandleTable) → lacks_handles t ≡ true → t.rows ≡ []
    empty t is = at t.rows is
      where
        at : (rs : List HandleRow) → (elim rs [ [] ↦ true | r ∷ rest ↦ false ]) ≡ true → rs ≡ []
        at [] is = refl
        at (r ∷ rs) is = absurd (cc)

    of : (ts : List HandleTable) → every lacks_handles ts ≡ true → each (λ (t : HandleTable). t.rows) ts ≡ []
    of [] all = refl
    of (t ∷ ts) all = rw (empty t (first-true (lacks_handles t) (every lacks_handles ts) all), of ts (second-true (lacks_handles t) (every lacks_handles ts) all)) refl

-- and no view
none-told : (w : World) → ((pid : ℕ) → is_live w pid ≡ false) → HasLivingPorts w → event_ports w ≡ []
none-told w dead living = of w.processes living
  where
    of : (ps : List ProcessRow) → every (is_living_process w) ps ≡ true → each event_ports_of ps ≡ []
    of [] all = refl
    of (p ∷ ps) all = rw (told-nothing w p (first-true (is_living_process w p) _ all) (dead p.number)) (of ps (second-true (is_living_process w p) _ all))

none-views : (w : World) → ((pid : ℕ) → is_live w pid ≡ false) → HasLivingViews w → all_views w ≡ []
none-views w dead living = of w.views (every-more (is_living_space w) lacks_views (λ t is. or-second (is_live w t.process) _ (dead t.process) is) w.views living)
  where
    empty : (t : ViewTable) → lacks_views t ≡ true → t.rows ≡ []
    empty t is = at t.rows is
      where
        at : (rs : List ViewRow) → (elim rs [ [] ↦ true | r ∷ rest ↦ false ]) ≡ true → rs ≡ []
        at [] is = refl
        at (r ∷ rs) is = absurd (cc)

    of : (ts : List ViewTable) → every lacks_views ts ≡ true → each (λ (t : ViewTable). t.rows) ts ≡ []
    of [] all = refl
    of (t ∷ ts) all = rw (empty t (first-true (lacks_views t) (every lacks_views ts) all), of ts (second-true (lacks_views t) (every lacks_views ts) all)) refl

module _ (w : World) (s : IsSoundWorld w) (l : IsLinked w) (held : HasHeldRows w) (queues : HasOpenQueues w) (living : HasLivingHandles w) (viewing : HasLivingViews w) (told_ports : HasLivingPorts w) (pairs : HasKeptPairs w) (dead : (pid : ℕ) → is_live w pid ≡ false) where
  none : all_handles w ≡ []
  none = none-handles w dead living

  lifeless : every (λ t. not t.live) w.threads ≡ true
  lifeless = dead-all w dead

  shut : (b : Birth) → is_open w b ≡ false
  shut b = false_from_ne_true (is_open w b) (λ is. let some = open-count w b is in omega (arith, some, counted))
    where
      counted : count (λ h. names_port b h.object) (all_handles w) ≡ 0
      counted = rw none refl

  no-messages : w.messages ≡ []
  no-messages = none-left (λ m. is_open w m.queue) w.messages queues.messages (λ m. shut m.queue)

  no-waits : w.waits ≡ []
  no-waits = none-left (is_sound_wait w) w.waits s.waits (λ x. off x (is_sound_as w x x.kind))
    where
      off : (x : WaitRow) (c : Bool) → (is_client w (waiter_of x) && c) ≡ false
      off x c = let gone : live_thread w x.thread ≡ None = none-live x.thread w.threads lifeless in rw gone refl

  no-threads : w.threads ≡ []
  no-threads = none-left (λ t. not (is_unheld w (thread_name t.birth))) w.threads held.lives.threads (λ t. off t.birth)
    where
      off : (b : Birth) → not (is_unheld w (thread_name b)) ≡ false
      off b = let zero : count (is_life b) w.threads ≡ 0 = none-count (is_life b) (λ t is. apart t is) w.threads lifeless in rw (none, zero) refl
        where
          apart : (t : ThreadRow) → t.live ≡ false → is_life b t ≡ false
          apart t is = rw is refl

  no-processes : w.processes ≡ []
  no-processes = none-left (λ p. not (is_unheld w (process_name p.birth))) w.processes held.lives.processes (λ p. off p.birth)
    where
      off : (b : Birth) → not (is_unheld w (process_name b)) ≡ false
      off b = let zero : count (lives_by w b) w.threads ≡ 0 = none-count (lives_by w b) (λ t is. apart t is) w.threads lifeless in rw (none, zero) refl
        where
          apart : (t : ThreadRow) → t.live ≡ false → lives_by w b t ≡ false
          apart t is = rw is refl

  -- no port has another end, so ports are held as connection ports alone
  no-pairs : (b : Birth) → has (is_paired_to b) w.ports ≡ false
  no-pairs b = has-off (is_paired_to b) w.ports (every-more (is_kept_pair w) (λ p. not (is_paired_to b p)) (λ p is. cut p is) w.ports pairs)
    where
      parts : (c o h : Bool) → o ≡ false → h ≡ false → (c || (o || h)) ≡ true → c ≡ true
      parts c o h one two is = grind arith

      unpaired : (o : Option Birth) → is_none o ≡ true → not (is_the b o) ≡ true
      unpaired None is = refl
      unpaired (Some c) is = absurd (cc)

      none-open : (o : Option Birth) → passes o (is_open w) ≡ false
      none-open None = refl
      none-open (Some c) = shut c

      cut : (p : PortRow) → is_kept_pair w p ≡ true → not (is_paired_to b p) ≡ true
      cut p is = unpaired p.pair (parts (is_none p.pair) (is_open w p.birth) (passes p.pair (is_open w)) (shut p.birth) (none-open p.pair) is)

  no-views : all_views w ≡ []
  no-views = none-views w dead viewing

  no-events : event_ports w ≡ []
  no-events = none-told w dead told_ports

  aside : (b : Birth) → is_held_aside w b ≡ false
  aside b = rw (none, no-messages, no-waits, none-registered w.threads lifeless, no-views, no-events) refl

  connected : every (λ p. has (is_connected_to p.birth) w.ports) w.ports ≡ true
  connected = every-more (λ p. not (is_unheld w (port_name p.birth))) (λ p. has (is_connected_to p.birth) w.ports) (λ p is. by (is_unheld w (port_name p.birth)) (is_held_aside w p.birth) (has (is_paired_to p.birth) w.ports) (has (is_connected_to p.birth) w.ports) (unheld-parts w p.birth) (aside p.birth) (no-pairs p.birth) is) w.ports held.ports
    where
      by : (u a p c : Bool) → u ≡ not (a || (p || c)) → a ≡ false → p ≡ false → not u ≡ true → c ≡ true
      by u a p c one two three is = grind arith

  naming-nothing : every names_nothing w.ports ≡ true
  naming-nothing = every-both (λ p. not (has (is_connected_to p.birth) w.ports) || names_nothing p) (λ p. has (is_connected_to p.birth) w.ports) names_nothing (λ p one two. by _ _ one two) w.ports
      (found-self w.ports l.births (λ p. not (has (is_connected_to p.birth) w.ports) || names_nothing p) (λ p here. either _ _ (λ is. ended p here is))) connected
    where
      by : (h n : Bool) → (not h || n) ≡ true → h ≡ true → n ≡ true
      by h n one two = grind arith

      either : (h n : Bool) → (h ≡ true → n ≡ true) → (not h || n) ≡ true
      either h n more = grind (arith, more)

      ended : (p : PortRow) → first (is_port p.birth) w.ports ≡ Some p → has (is_connected_to p.birth) w.ports ≡ true → names_nothing p ≡ true
      ended p here is = let found = connected-end w l p.birth is in rw here at found

  no-ports : w.ports ≡ []
  no-ports = none-left (λ p. has (is_connected_to p.birth) w.ports) w.ports connected (λ p. off p.birth)
    where
      unconnected : (b : Birth) (o q : Option Birth) → (is_none o && is_none q) ≡ true → not (is_the b q) ≡ true
      unconnected b o None is = refl
      unconnected b None (Some c) is = absurd (cc)
      unconnected b (Some d) (Some c) is = absurd (cc)

      off : (b : Birth) → has (is_connected_to b) w.ports ≡ false
      off b = has-off (is_connected_to b) w.ports (every-more names_nothing (λ p. not (is_connected_to b p)) (λ p is. unconnected b p.pair p.connection is) w.ports naming-nothing)

  no-sections : w.sections ≡ []
  no-sections = none-left (λ s. not (is_unheld w (section_name s.birth))) w.sections held.sections (λ s. off s.birth)
    where
      off : (b : Birth) → not (is_unheld w (section_name b)) ≡ false
      off b = rw (none, no-views, no-waits) refl

  no-tokens : w.tokens ≡ []
  no-tokens = none-left (λ t. not (is_unheld w (token_name t.birth))) w.tokens held.tokens (λ t. off t.birth)
    where
      off : (b : Birth) → not (is_unheld w (token_name b)) ≡ false
      off b = rw none refl

  pub bare : IsBare w
  bare = record { processes = no-processes; threads = no-threads; ports = no-ports; sections = no-sections; tokens = no-tokens; messages = no-messages; waits = no-waits; views = no-views }
