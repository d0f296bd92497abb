-- Basic steps that touch no message and no pair keep a world's waits sound.
use Rattle.std.proofs.Common.{◌≡◌, ◌∙◌, ℕ, ◌+◌, ◌≤◌, List, [], ◌∷◌, ◌++◌, Bool, true, false, cond, not, Option, Some, None, refl, sym, subst, arith}
use Rattle.std.specs.Prelude.{◌&&◌, ◌||◌, ◌==◌, nat_lt}
use Rattle.std.proofs.lemmas.Bool.{eqb-true}
use Rattle.std.proofs.lemmas.Bool.Decides.{nat_tests}
use Rattle.lpc_base.specs.Rows.{change, count, every, first, has, without}
use Rattle.lpc_base.specs.declared.status.Status.{Status}
use Rattle.lpc_base.proofs.RowWords.{count-none, count-push, every-change, every-more, every-push, every-without, first-kept, first-passes, has-change, has-kept, has-push, has_none-push, has-off}
use Rattle.lpc_base.proofs.RowMaps.{every-first, every-both}
use Rattle.lpc_base.proofs.Bools.{same-number}
use Rattle.lpc_model.specs.declared.entry.CallName.{CallName}
use Rattle.lpc_model.specs.declared.entry.Field.{Field}
use Rattle.lpc_model.specs.World.{HandleTable, ObjectName, PortRow, ProcessRow, ThreadRow, UsedThread, WaitRow, World, Birth, Node, Path, Impersonation}
use Rattle.lpc_model.specs.Found.{free_handle, has_handle_to, is_connect, is_live_thread, is_open, is_port, is_server_port, is_table, is_thread, live_thread, wait_of, waits_as, was_process, was_thread, is_mark}
use Rattle.lpc_model.specs.Basics.{AddsHandle, AddsProcess, AddsThread, Awaits, Binds, DrawsIdentifier, DrawsOrdinal, Makes, Registers, Unregisters, Wakes, basic, no_handles, past_identifier, past_ordinal, registering, unregistering, used, with_handle, Acts, acting, left_by}
use Rattle.lpc_model.specs.Tests.{handle_row, next_birth}
use Rattle.lpc_model.specs.SoundWaits.{IsSoundWorld, has_home, is_awaited, is_connect_on, is_past, lacks_connects, leads_open}
use Rattle.lpc_model.proofs.Steps.Rows.{count-change, count-less, first-change, first-pushed, has-append, has-none, passes-change, passes-push, every-left}
use Rattle.lpc_model.proofs.Steps.Handles.{open-add}
use Rattle.lpc_model.proofs.Calls.Usable.{CanCall}
use Rattle.lpc_model.proofs.Sound.Pairs.{apart-other, awaited-quiet, is_quiet, tied-awaits, tied-ended, tied-made, tied-of}
use Rattle.lpc_model.proofs.Sound.Worlds.{WaitOnce, is_sure, leads-kept, order-of, port-kept, sound-from, sound-kept, stands-same, sure-waits, by_kind, exempt}

-- Threads
-- a thread whose next ordinal is past that of each port that it made; what is changed of it leaves it so
past-changed : (f : ThreadRow → ThreadRow) (ports : List PortRow) → ((p : PortRow) (t : ThreadRow) → is_past p t ≡ true → is_past p (f t) ≡ true) → (t : ThreadRow) (b : Bool) → every (λ p. is_past p t) ports ≡ true → every (λ p. is_past p (cond b (f t) t)) ports ≡ true
past-changed f ports more t true all = every-more (λ p. is_past p t) (λ p. is_past p (f t)) (λ p. more p t) ports all
past-changed f ports more t false all = all

-- each thread that is found, so
abbrev PastPorts : List ThreadRow → List PortRow → Type 0
PastPorts threads ports = (tid : ℕ) (t : ThreadRow) → first (is_live_thread tid) threads ≡ Some t → every (λ p. is_past p t) ports ≡ true

drawn-past : (threads : List ThreadRow) (ports : List PortRow) (who : ℕ) (f : ThreadRow → ThreadRow) → ((tid : ℕ) (t : ThreadRow) → is_live_thread tid (f t) ≡ is_live_thread tid t) → ((p : PortRow) (t : ThreadRow) → is_past p t ≡ true → is_past p (f t) ≡ true) → PastPorts threads ports → PastPorts (change (is_thread who) f threads) ports
drawn-past threads ports who f same more past tid t here = at (first (is_live_thread tid) threads) refl
  where
    at : (o : Option ThreadRow) → first (is_live_thread tid) threads ≡ o → every (λ p. is_past p t) ports ≡ true
    at None none =
        let nothing : None ≡ Some t = rw (first-change (is_live_thread tid) (is_thread who) f (same tid) threads, none) at here in absurd (cc)
    at (Some u) found =
        let its : Some (cond (is_thread who u) (f u) u) ≡ Some t = rw (first-change (is_live_thread tid) (is_thread who) f (same tid) threads, found) at here in
        let one : cond (is_thread who u) (f u) u ≡ t = cc in
        subst (λ (t : ThreadRow). every (λ p. is_past p t) ports ≡ true) one (past-changed f ports more u (is_thread who u) (past tid u found))

-- a thread draws: numbers, processes and lives stay
pub sound-identifier : (w : World) (who : ℕ) → IsSoundWorld w → IsSoundWorld (basic w (DrawsIdentifier who))
sound-identifier w who s =
    let v = basic w (DrawsIdentifier who) in
    sound-kept w v (record {
      clients = λ c is. rw (passes-change (is_live_thread c.thread) (λ t. t.process == c.process) (is_thread who) past_identifier (λ t. refl) (λ t. refl) w.threads) is;
      opens = λ b is. is;
      messages = refl;
      marks = refl;
    }) (λ b own. port-kept w v b own (λ b is. is) (λ p at. stands-same v b own p at)) refl (record {
      tables = s.tables;
      unused = s.unused;
      names = s.names;
      homes = every-change (has_home w) (is_thread who) past_identifier (λ t is. is) w.threads s.homes;
      ordinals = drawn-past w.threads w.ports who past_identifier (λ tid t. refl) (λ p t is. is) s.ordinals;
      numbers = every-change (λ t. was_thread w t.number) (is_thread who) past_identifier (λ t is. is) w.threads s.numbers;
      makers = s.makers;
    }) (tied-of w s) s

-- a thread acts as its client, or as itself
pub sound-acts : (w : World) (who : ℕ) (own : Option Impersonation) → IsSoundWorld w → IsSoundWorld (basic w (Acts who own))
sound-acts w who own s =
    let v = basic w (Acts who own) in
    sound-kept w v (record {
      clients = λ c is. rw (passes-change (is_live_thread c.thread) (λ t. t.process == c.process) (is_thread who) (acting own) (λ t. refl) (λ t. refl) w.threads) is;
      opens = λ b is. is;
      messages = refl;
      marks = refl;
    }) (λ b own. port-kept w v b own (λ b is. is) (λ p at. stands-same v b own p at)) refl (record {
      tables = s.tables;
      unused = s.unused;
      names = s.names;
      homes = every-change (has_home w) (is_thread who) (acting own) (λ t is. is) w.threads s.homes;
      ordinals = drawn-past w.threads w.ports who (acting own) (λ tid t. refl) (λ p t is. is) s.ordinals;
      numbers = every-change (λ t. was_thread w t.number) (is_thread who) (acting own) (λ t is. is) w.threads s.numbers;
      makers = s.makers;
    }) (tied-of w s) s

-- a thread registers a port, and a registration goes
pub sound-registers : (w : World) (who : ℕ) (b : Birth) → IsSoundWorld w → IsSoundWorld (basic w (Registers who b))
sound-registers w who b s =
    let v = basic w (Registers who b) in
    sound-kept w v (record {
      clients = λ c is. rw (passes-change (is_live_thread c.thread) (λ t. t.process == c.process) (is_thread who) (registering b) (λ t. refl) (λ t. refl) w.threads) is;
      opens = λ b is. is;
      messages = refl;
      marks = refl;
    }) (λ b own. port-kept w v b own (λ b is. is) (λ p at. stands-same v b own p at)) refl (record {
      tables = s.tables;
      unused = s.unused;
      names = s.names;
      homes = every-change (has_home w) (is_thread who) (registering b) (λ t is. is) w.threads s.homes;
      ordinals = drawn-past w.threads w.ports who (registering b) (λ tid t. refl) (λ p t is. is) s.ordinals;
      numbers = every-change (λ t. was_thread w t.number) (is_thread who) (registering b) (λ t is. is) w.threads s.numbers;
      makers = s.makers;
    }) (tied-of w s) s

pub sound-unregisters : (w : World) (who : ℕ) (b : Birth) → IsSoundWorld w → IsSoundWorld (basic w (Unregisters who b))
sound-unregisters w who b s =
    let v = basic w (Unregisters who b) in
    sound-kept w v (record {
      clients = λ c is. rw (passes-change (is_live_thread c.thread) (λ t. t.process == c.process) (is_thread who) (unregistering b) (λ t. refl) (λ t. refl) w.threads) is;
      opens = λ b is. is;
      messages = refl;
      marks = refl;
    }) (λ b own. port-kept w v b own (λ b is. is) (λ p at. stands-same v b own p at)) refl (record {
      tables = s.tables;
      unused = s.unused;
      names = s.names;
      homes = every-change (has_home w) (is_thread who) (unregistering b) (λ t is. is) w.threads s.homes;
      ordinals = drawn-past w.threads w.ports who (unregistering b) (λ tid t. refl) (λ p t is. is) s.ordinals;
      numbers = every-change (λ t. was_thread w t.number) (is_thread who) (unregistering b) (λ t is. is) w.threads s.numbers;
      makers = s.makers;
    }) (tied-of w s) s

later : (n m : ℕ) (own : Bool) → (not own || nat_lt n m) ≡ true → (not own || nat_lt n (m + 1)) ≡ true
later n m own is = grind (arith, nat_tests)

pub sound-ordinal : (w : World) (who : ℕ) → IsSoundWorld w → IsSoundWorld (basic w (DrawsOrdinal who))
sound-ordinal w who s =
    let v = basic w (DrawsOrdinal who) in
    sound-kept w v (record {
      clients = λ c is. rw (passes-change (is_live_thread c.thread) (λ t. t.process == c.process) (is_thread who) past_ordinal (λ t. refl) (λ t. refl) w.threads) is;
      opens = λ b is. is;
      messages = refl;
      marks = refl;
    }) (λ b own. port-kept w v b own (λ b is. is) (λ p at. stands-same v b own p at)) refl (record {
      tables = s.tables;
      unused = s.unused;
      names = s.names;
      homes = every-change (has_home w) (is_thread who) past_ordinal (λ t is. is) w.threads s.homes;
      ordinals = drawn-past w.threads w.ports who past_ordinal (λ tid t. refl) (λ p t is. later p.birth.ordinal t.next_ordinal (p.birth.maker == t.number) is) s.ordinals;
      numbers = every-change (λ t. was_thread w t.number) (is_thread who) past_ordinal (λ t is. is) w.threads s.numbers;
      makers = s.makers;
    }) (tied-of w s) s

-- no port was made by a thread whose number is new
new-past : (used : List UsedThread) (t : ThreadRow) → has (λ u. u.number == t.number) used ≡ false → (p : PortRow) → has (λ u. u.number == p.birth.maker) used ≡ true → is_past p t ≡ true
new-past used t new p was = at (p.birth.maker == t.number) refl
  where
    at : (same : Bool) → (p.birth.maker == t.number) ≡ same → (not same || nat_lt p.birth.ordinal t.next_ordinal) ≡ true
    at true same = let own = subst (λ n. has (λ u. u.number == n) used ≡ true) (eqb-true p.birth.maker t.number same) was in absurd (cc)
    at false other = refl

added-past : (threads : List ThreadRow) (ports : List PortRow) (x : ThreadRow) → every (λ p. is_past p x) ports ≡ true → PastPorts threads ports → PastPorts (threads ++ x ∷ []) ports
added-past threads ports x own past tid t here =
    first-pushed (λ (t : ThreadRow). every (λ p. is_past p t) ports ≡ true) (is_live_thread tid) threads x t (past tid) own here

pub sound-thread : (w : World) (t : ThreadRow) → has_home w t ≡ true → was_thread w t.number ≡ false → IsSoundWorld w → IsSoundWorld (basic w (AddsThread t))
sound-thread w t home new s =
    let v = basic w (AddsThread t) in
    let known = λ (n : ℕ). has-kept (λ (u : UsedThread). u.number == n) w.used_threads (used t) in
    sound-kept w v (record {
      clients = λ c is. passes-push (is_live_thread c.thread) (λ t. t.process == c.process) w.threads t is;
      opens = λ b is. is;
      messages = refl;
      marks = refl;
    }) (λ b own. port-kept w v b own (λ b is. is) (λ p at. stands-same v b own p at)) refl (record {
      tables = s.tables;
      unused = s.unused;
      names = s.names;
      homes = every-push (has_home w) w.threads t s.homes home;
      ordinals = added-past w.threads w.ports t (every-more (λ p. was_thread w p.birth.maker) (λ p. is_past p t) (new-past w.used_threads t new) w.ports s.makers) s.ordinals;
      numbers = every-push (λ u. was_thread v u.number) w.threads t (every-more (λ u. was_thread w u.number) (λ u. was_thread v u.number) (λ u. known u.number) w.threads s.numbers) (has-push (λ (u : UsedThread). u.number == t.number) w.used_threads (used t) (same-number t.number));
      makers = every-more (λ p. was_thread w p.birth.maker) (λ p. was_thread v p.birth.maker) (λ p. known p.birth.maker) w.ports s.makers;
    }) (tied-of w s) s

-- Processes
at-most-one : (n m : ℕ) (b : Bool) → n ≤ 1 → (b ≡ true → n ≡ 0) → m ≡ n + cond b 1 0 → m ≤ 1
at-most-one n m true few none grown = omega (arith, none refl)
at-most-one n m false few none grown = omega arith

-- a process whose number was never used begins with a table of its own
one-more : (number pid : ℕ) (handles : List HandleTable) → count (is_table pid) handles ≤ 1 → has (is_table number) handles ≡ false → count (is_table pid) (handles ++ no_handles number ∷ []) ≤ 1
one-more number pid handles few none =
    at-most-one (count (is_table pid) handles) (count (is_table pid) (handles ++ no_handles number ∷ [])) (number == pid) few
    (λ is. subst (λ n. count (is_table n) handles ≡ 0) (eqb-true number pid is) (count-none (is_table number) handles none))
    (count-push (is_table pid) handles (no_handles number))

none-before : (number pid : ℕ) (used : List ℕ) (handles : List HandleTable) → (has (λ n. n == pid) used ≡ false → has (is_table pid) handles ≡ false) → has (λ n. n == pid) (used ++ number ∷ []) ≡ false → has (is_table pid) (handles ++ no_handles number ∷ []) ≡ false
none-before number pid used handles unused new =
    let parts = has-append (λ n. n == pid) used (number ∷ []) in
    let before : has (λ n. n == pid) used ≡ false = grind arith in
    let other : (number == pid) ≡ false = grind arith in
    has_none-push (is_table pid) handles (no_handles number) (unused before) other

pub sound-process : (w : World) (p : ProcessRow) → was_process w p.number ≡ false → IsSoundWorld w → IsSoundWorld (basic w (AddsProcess p))
sound-process w p new s =
    let v = basic w (AddsProcess p) in
    let opens : (b : Birth) → is_open w b ≡ true → is_open v b ≡ true = λ b is. has-kept (has_handle_to b) w.handles (no_handles p.number) is in
    sound-kept w v (record {
      clients = λ c is. is;
      opens = opens;
      messages = refl;
      marks = refl;
    }) (λ b own. port-kept w v b own opens (λ p at. stands-same v b own p at)) refl (record {
      tables = λ pid. one-more p.number pid w.handles (s.tables pid) (s.unused p.number new);
      unused = λ pid. none-before p.number pid w.used_processes w.handles (s.unused pid);
      names = every-more (λ b. leads_open w b.1) (λ b. leads_open v b.1) (λ b. leads-kept w v opens b.1) w.bindings s.names;
      homes = every-more (has_home w) (has_home v) (λ t is. has-kept (is_table t.process) w.handles (no_handles p.number) is) w.threads s.homes;
      ordinals = s.ordinals;
      numbers = s.numbers;
      makers = s.makers;
    }) (tied-of w s) s

-- Names
-- a name is bound to nothing but an open port, to a directory, or as a link
pub sound-binds : (w : World) (path : Path) (node : Node Birth) → leads_open w node ≡ true → IsSoundWorld w → IsSoundWorld (basic w (Binds path node))
sound-binds w path node opens s = record {
  waits = s.waits;
  stay = s.stay;
  once = s.once;
  names = every-push (λ b. leads_open w b.1) w.bindings (path, node) s.names opens;
  tables = s.tables;
  unused = s.unused;
  homes = s.homes;
  pairs = s.pairs;
  servers = s.servers;
  ordinals = s.ordinals;
  numbers = s.numbers;
  makers = s.makers;
}

-- Ports and handles
-- what a port needs to be made: it is joined to nothing, no connect waits on it where it is a server port, and the thread
-- that made it has a used number, and draws a later ordinal next
pub record CanMake (w : World) (p : PortRow) : Type 0 where
  pub cut : p.pair ≡ None
  pub lacks : lacks_connects w p ≡ true
  pub past : (tid : ℕ) (t : ThreadRow) → live_thread w tid ≡ Some t → is_past p t ≡ true
  pub maker : was_thread w p.birth.maker ≡ true

pub sound-makes : (w : World) (p : PortRow) → CanMake w p → IsSoundWorld w → IsSoundWorld (basic w (Makes p))
sound-makes w p c s =
    let v = basic w (Makes p) in
    sound-kept w v (record {
      clients = λ c is. is;
      opens = λ b is. is;
      messages = refl;
      marks = refl;
    }) (λ b own. port-kept w v b own (λ b is. is) (λ q at. stands-same v b own q (first-kept (is_port b) w.ports p q at))) refl (record {
      tables = s.tables;
      unused = s.unused;
      names = s.names;
      homes = s.homes;
      ordinals = λ tid t here. every-push (λ p. is_past p t) w.ports p (s.ordinals tid t here) (c.past tid t here);
      numbers = s.numbers;
      makers = every-push (λ p. was_thread w p.birth.maker) w.ports p s.makers c.maker;
    }) (tied-made w.ports w.waits p c.cut c.lacks (tied-of w s)) s

-- the caller can make a port by its next birth, once it has drawn the ordinal
drawn-own : (by u : ThreadRow) → u ≡ by → (not (by.number == u.number) || nat_lt by.next_ordinal (u.next_ordinal + 1)) ≡ true
drawn-own by u same = rw same (grind (arith, nat_tests))

drawn-other : (by u : ThreadRow) → (u.number == by.number) ≡ false → (not (by.number == u.number) || nat_lt by.next_ordinal u.next_ordinal) ≡ true
drawn-other by u off = grind (arith, nat_tests)

-- a live thread with the caller's number is the caller
live-caller : (w : World) (by u : ThreadRow) (tid : ℕ) → live_thread w by.number ≡ Some by → live_thread w tid ≡ Some u → (u.number == by.number) ≡ true → u ≡ by
live-caller w by u tid lives here same =
    let passed = first-passes (is_live_thread tid) w.threads u here in
    let number : (u.number == tid) ≡ true = grind arith in
    let one : u.number ≡ tid = eqb-true _ _ number in
    let two : u.number ≡ by.number = eqb-true _ _ same in
    let found : live_thread w tid ≡ Some by = subst (λ n. live_thread w n ≡ Some by) (sym two ∙ one) lives in
    cc

next-past : (w : World) (by : ThreadRow) → live_thread w by.number ≡ Some by → (p : PortRow) → p.birth ≡ next_birth by → (tid : ℕ) (t : ThreadRow) → live_thread (basic w (DrawsOrdinal by.number)) tid ≡ Some t → is_past p t ≡ true
next-past w by lives p own tid t here = rw own (at (live_thread w tid) refl)
  where
    one : (u : ThreadRow) (same : Bool) → live_thread w tid ≡ Some u → is_thread by.number u ≡ same → (not (by.number == (cond same (past_ordinal u) u).number) || nat_lt by.next_ordinal (cond same (past_ordinal u) u).next_ordinal) ≡ true
    one u true found is = drawn-own by u (live-caller w by u tid lives found is)
    one u false found is = drawn-other by u is

    at : (o : Option ThreadRow) → live_thread w tid ≡ o → (not (by.number == t.number) || nat_lt by.next_ordinal t.next_ordinal) ≡ true
    at None none =
        let nothing : None ≡ Some t = rw (first-change (is_live_thread tid) (is_thread by.number) past_ordinal (λ t. refl) w.threads, none) at here in absurd (cc)
    at (Some u) found =
        let its : Some (cond (is_thread by.number u) (past_ordinal u) u) ≡ Some t = rw (first-change (is_live_thread tid) (is_thread by.number) past_ordinal (λ t. refl) w.threads, found) at here in
        let same : cond (is_thread by.number u) (past_ordinal u) u ≡ t = cc in
        subst (λ (t : ThreadRow). (not (by.number == t.number) || nat_lt by.next_ordinal t.next_ordinal) ≡ true) same (one u (is_thread by.number u) found refl)

pub can-make : (w : World) (by : ThreadRow) (p : PortRow) → CanCall w by → IsSoundWorld w → p.birth ≡ next_birth by → p.pair ≡ None → lacks_connects w p ≡ true → CanMake (basic w (DrawsOrdinal by.number)) p
can-make w by p c s own cut lacks = record {
  cut = cut;
  lacks = lacks;
  past = next-past w by c.lives p own;
  maker = rw own (every-first (λ t. was_thread w t.number) (is_live_thread by.number) w.threads by s.numbers c.lives);
}

-- a port that is made by the caller's next birth
pub sound-made : (w : World) (by : ThreadRow) (p : PortRow) → CanCall w by → IsSoundWorld w → p.birth ≡ next_birth by → p.pair ≡ None → lacks_connects w p ≡ true → IsSoundWorld (basic (basic w (DrawsOrdinal by.number)) (Makes p))
sound-made w by p c s own cut lacks = sound-makes (basic w (DrawsOrdinal by.number)) p (can-make w by p c s own cut lacks) (sound-ordinal w by.number s)

-- no connect waits on a port that is no server port
pub no-server : (w : World) (p : PortRow) → is_server_port p ≡ false → lacks_connects w p ≡ true
no-server w p off = at (is_server_port p) (has (is_connect_on p.birth) w.waits) off
  where
    at : (s h : Bool) → s ≡ false → not (s && h) ≡ true
    at s h off = grind arith

-- the new handle of a process has a free value
pub sound-handle : (w : World) (pid : ℕ) (object : ObjectName) (access : ℕ) → IsSoundWorld w → IsSoundWorld (basic w (AddsHandle pid (handle_row (free_handle w pid) object access)))
sound-handle w pid object access s =
    let h = handle_row (free_handle w pid) object access in
    let v = basic w (AddsHandle pid h) in
    let opens : (b : Birth) → is_open w b ≡ true → is_open v b ≡ true = λ b is. open-add w pid object access b (s.tables pid) is in
    let same : (other : ℕ) → has (is_table other) v.handles ≡ has (is_table other) w.handles = λ other. has-change (is_table other) (is_table pid) (with_handle h) (λ t. refl) w.handles in
    sound-kept w v (record {
      clients = λ c is. is;
      opens = opens;
      messages = refl;
      marks = refl;
    }) (λ b own. port-kept w v b own opens (λ p at. stands-same v b own p at)) refl (record {
      tables = λ other. rw (count-change (is_table other) (is_table pid) (with_handle h) (λ t. refl) w.handles) (s.tables other);
      unused = λ other new. rw (same other) (s.unused other new);
      names = every-more (λ b. leads_open w b.1) (λ b. leads_open v b.1) (λ b. leads-kept w v opens b.1) w.bindings s.names;
      homes = every-more (has_home w) (has_home v) (λ t is. rw (same t.process) is) w.threads s.homes;
      ordinals = s.ordinals;
      numbers = s.numbers;
      makers = s.makers;
    }) (tied-of w s) s

-- Processes
-- nothing is read of the processes that stand
pub sound-processes : (w : World) (ps : List ProcessRow) → IsSoundWorld w → IsSoundWorld (record w { processes = ps })
sound-processes w ps s = record {
  waits = s.waits;
  stay = s.stay;
  once = s.once;
  names = s.names;
  tables = s.tables;
  unused = s.unused;
  homes = s.homes;
  pairs = s.pairs;
  servers = s.servers;
  ordinals = s.ordinals;
  numbers = s.numbers;
  makers = s.makers;
}

-- Waits
-- the marks of other threads stay, and so do their waits
pub still-marked : (who : ℕ) (x : WaitRow) (ns : List ℕ) → not (waits_as who x) ≡ true → has (is_mark x.thread) ns ≡ true → has (is_mark x.thread) (without (is_mark who) ns) ≡ true
still-marked who x ns off is = has-off (is_mark x.thread) (is_mark who) (λ n one. grind (arith, nat_tests)) ns is

pub left-sure : (w : World) (who : ℕ) (x : WaitRow) → is_sure w x ≡ true → not (waits_as who x) ≡ true → is_sure (left_by who w) x ≡ true
left-sure w who =
    let v = left_by who w in
    by_kind (λ x. is_sure w x ≡ true → not (waits_as who x) ≡ true → is_sure v x ≡ true) (λ x m is off. is) (λ x is off. is) (λ x is off. is) (λ x m offer is off. is) (λ x m reply is off. is)
    (λ x r is off. exempt w v x x (λ is. is) (still-marked who x w.marks off) (λ is. is) is)

-- a wait that ends, and a wait that begins soundly, of a thread that doesn't wait
pub sound-wakes : (w : World) (who : ℕ) (call : CallName) (status : Status) (fields : List Field) → every (is_awaited (basic w (Wakes who call status fields))) w.ports ≡ true → IsSoundWorld w → IsSoundWorld (basic w (Wakes who call status fields))
sound-wakes w who call status fields pairs s =
    let v = left_by who w in
    sound-from v (every-both (is_sure w) (λ x. not (waits_as who x)) (is_sure v) (left-sure w who) v.waits (every-without (is_sure w) (waits_as who) w.waits (sure-waits w s)) (every-left (waits_as who) w.waits)) (λ tid. count-less (waits_as tid) (waits_as who) w.waits 1 (s.once tid)) (order-of w s) (tied-ended w.ports w.waits who pairs (tied-of w s))

-- a wait that ends, of a thread whose connect, if it waits for one, isn't accepted
pub sound-wakes-quiet : (w : World) (who : ℕ) (call : CallName) (status : Status) (fields : List Field) → every (is_quiet who) w.waits ≡ true → IsSoundWorld w → IsSoundWorld (basic w (Wakes who call status fields))
sound-wakes-quiet w who call status fields quiet s = sound-wakes w who call status fields (awaited-quiet w.ports w.waits who quiet (tied-of w s)) s

pub once-awaits : (w : World) (x : WaitRow) → wait_of w x.thread ≡ None → WaitOnce w.waits → WaitOnce (w.waits ++ x ∷ [])
once-awaits w x idle once tid =
    at-most-one (count (waits_as tid) w.waits) (count (waits_as tid) (w.waits ++ x ∷ [])) (x.thread == tid) (once tid)
    (λ is. subst (λ n. count (waits_as n) w.waits ≡ 0) (eqb-true x.thread tid is) (count-none (waits_as x.thread) w.waits (has-none (waits_as x.thread) w.waits idle)))
    (count-push (waits_as tid) w.waits x)

pub sound-awaits : (w : World) (x : WaitRow) → is_sure w x ≡ true → wait_of w x.thread ≡ None → is_connect x ≡ false → IsSoundWorld w → IsSoundWorld (basic w (Awaits x))
sound-awaits w x is idle other s =
    sound-from (basic w (Awaits x)) (every-push (is_sure w) w.waits x (sure-waits w s) is) (once-awaits w x idle s.once) (order-of w s) (tied-awaits w.ports w.waits x (apart-other x other w.ports) (tied-of w s))
