-- NtClose leaves sound waits behind.
use Rattle.std.proofs.Common.{◌≡◌, ℕ, ◌+◌, ◌≤◌, List, [], ◌∷◌, ◌++◌, Bool, true, false, cond, not, Option, Some, None, refl, sym, ap, subst, arith}
use Rattle.std.specs.Prelude.{◌&&◌, ◌||◌, ◌==◌}
use Rattle.lpc_base.specs.Rows.{count, every, first, has, passes, when}
use Rattle.lpc_base.proofs.RowWords.{every-more, first-passes, has-change}
use Rattle.std.proofs.lemmas.Bool.{and_from, and_right, eqb-true, false_from_ne_true}
use Rattle.lpc_base.proofs.RowMaps.{every-both}
use Rattle.lpc_base.proofs.Bools.{first-true, second-true}
use Rattle.lpc_base.proofs.Births.{birth-same, birth-self, births-apart}
use Rattle.lpc_names.specs.Binding.{is_name}
use Rattle.lpc_names.specs.Walk.{LinkTo, Stands}
use Rattle.lpc_names.specs.declared.names.Found.TheVariants.{Directory, Item}
use Rattle.lpc_model.specs.declared.entry.ObjectKind.TheVariants as kind
use Rattle.lpc_model.specs.World.{Birth, ObjectKind, ObjectName, HandleRow, HandleTable, Listen, Node, Path, Receive, WaitRow, World, Event}
use Rattle.lpc_model.specs.Found.{all_handles, handle_at, handle_count, handles_of, has_value, port_name, rows_in, is_open, is_table, is_the, names_port, pair_of, port_row, same_birth, same_kind, same_object, is_marked}
use Rattle.lpc_model.specs.Basics.{DropsHandle, basic, world_after, without_handle}
use Rattle.lpc_model.specs.Tests.{is_client}
use Rattle.lpc_model.specs.Closings.{shuts}
use Rattle.lpc_model.specs.Close.{close_handle, close_port, is_last}
use Rattle.lpc_model.specs.SoundWaits.{IsSoundWorld, has_client_port, has_come, has_home, is_answerable, is_joined, is_message_of, leads_open, waiter_of, is_sound_request}
use Rattle.lpc_model.proofs.Steps.Rows.{count-change}
use Rattle.lpc_model.proofs.Sound.Pairs.{tied-of}
use Rattle.lpc_model.proofs.Sound.Worlds.{InOrder, by_kind, is_sure, leads-kept, port-kept, sound-from, sound-kept, stands-same, sure-waits, is_sure_event}
use Rattle.lpc_model.proofs.Sound.Calls.{LeaveSound}
use Rattle.lpc_model.proofs.Sound.Drops.{count-open, drop-count, open-dropped, open-kept}
use Rattle.lpc_model.proofs.Steps.Handles.{open-count}
use Rattle.lpc_model.proofs.Sound.Closing.{IsShut, close-shut, is_apart_from, is_clear, needs_port}
use Rattle.lpc_model.proofs.Steps.InTurn.{after-append}

-- A handle that goes
order-dropped : (w : World) (pid value : ℕ) → every (λ x. leads_open (basic w (DropsHandle pid value)) x.1) w.bindings ≡ true → IsSoundWorld w → InOrder (basic w (DropsHandle pid value))
order-dropped w pid value names s =
    let v = basic w (DropsHandle pid value) in
    let same : (other : ℕ) → has (is_table other) v.handles ≡ has (is_table other) w.handles = λ other. has-change (is_table other) (is_table pid) (without_handle value) (λ t. refl) w.handles in
    record {
      tables = λ other. rw (count-change (is_table other) (is_table pid) (without_handle value) (λ t. refl) w.handles) (s.tables other);
      unused = λ other new. rw (same other) (s.unused other new);
      names = names;
      homes = every-more (has_home w) (has_home v) (λ t is. rw (same t.process) is) w.threads s.homes;
      ordinals = s.ordinals;
      numbers = s.numbers;
      makers = s.makers;
    }

-- one that isn't the last handle of a port: what was open stays open
names-its : (c : Birth) (o : ObjectName) → names_port c o ≡ true → o ≡ port_name c
names-its c o is = at o.kind (same_birth o.birth c) refl is
  where
    at : (k : ObjectKind) (own : Bool) → same_birth o.birth c ≡ own → (same_kind k kind.Port && own) ≡ true → let q : ObjectName = record { kind = k; birth = o.birth } in q ≡ port_name c
    at kind.Port true same one = ap port_name (birth-same o.birth c same)
    at kind.Port false same one = absurd (cc)
    at kind.Section own same one = absurd (cc)
    at kind.Token own same one = absurd (cc)
    at kind.Process own same one = absurd (cc)
    at kind.Thread own same one = absurd (cc)

not-one : (k c : Bool) → k ≡ true → (k && c) ≡ false → c ≡ false
not-one k c one two = grind arith

pub still-open : (w : World) (pid : ℕ) (r : HandleRow) → count (is_table pid) w.handles ≤ 1 → handle_at w pid r.value ≡ Some r → is_last r w ≡ false → (c : Birth) → is_open w c ≡ true → is_open (basic w (DropsHandle pid r.value)) c ≡ true
still-open w pid r one at more c is = by_name (names_port c r.object) refl
  where
    others : r.object ≡ port_name c → (handle_count w (port_name c) == 1) ≡ false
    others same = not-one true _ refl (subst (λ (o : ObjectName). (same_kind o.kind kind.Port && (handle_count w o == 1)) ≡ false) same more)

    by_name : (own : Bool) → names_port c r.object ≡ own → is_open (basic w (DropsHandle pid r.value)) c ≡ true
    by_name true own = open-kept w pid r.value r c one at (others (names-its c r.object own)) is
    by_name false off = open-dropped w pid r.value r c one at off is

dropped-sound : (w : World) (pid : ℕ) (r : HandleRow) → handle_at w pid r.value ≡ Some r → is_last r w ≡ false → IsSoundWorld w → IsSoundWorld (basic w (DropsHandle pid r.value))
dropped-sound w pid r at more s =
    let v = basic w (DropsHandle pid r.value) in
    let opens = still-open w pid r (s.tables pid) at more in
    sound-kept w v (record {
      clients = λ c is. is;
      opens = opens;
      messages = refl;
      marks = refl;
    }) (λ b own. port-kept w v b own opens (λ p at. stands-same v b own p at)) refl
    (order-dropped w pid r.value (every-more (λ x. leads_open w x.1) (λ x. leads_open v x.1) (λ x. leads-kept w v opens x.1) w.bindings s.names) s) (tied-of w s) s

-- the last handle of a port that is closed
request-parts : (c o u r a h q p z : Bool) → (o ≡ true → u ≡ true) → (r ≡ false → q ≡ true → p ≡ true) → ((c && (o && cond r a (h && q))) && z) ≡ true → ((c && (u && cond r a (h && p))) && z) ≡ true
request-parts c o u r a h q p z one two is = grind (arith, one, two)

receive-parts : (c o u q p h z : Bool) → (o ≡ true → u ≡ true) → (q ≡ true → p ≡ true) → ((c && (o && (q && h))) && z) ≡ true → ((c && (u && (p && h))) && z) ≡ true
receive-parts c o u q p h z one two is = grind (arith, one, two)

connect-parts : (c q p h z : Bool) → (q ≡ true → p ≡ true) → ((c && (q && h)) && z) ≡ true → ((c && (p && h)) && z) ≡ true
connect-parts c q p h z one is = grind (arith, one)

accepted-parts : (c s t z : Bool) → (s ≡ true → t ≡ true) → ((c && s) && z) ≡ true → ((c && t) && z) ≡ true
accepted-parts c s t z one is = grind (arith, one)

pair-open : (w v : World) (b : Birth) → ((c : Birth) → same_birth c b ≡ false → is_open w c ≡ true → is_open v c ≡ true) → (o : Option Birth) → is_the b o ≡ false → passes o (is_open w) ≡ true → passes o (is_open v) ≡ true
pair-open w v b opens None off is = absurd (cc)
pair-open w v b opens (Some c) off is = opens c (births-apart b c off) is

abbrev pub OpensBut : World → World → Birth → Type 0
OpensBut w v b = (c : Birth) → same_birth c b ≡ false → is_open w c ≡ true → is_open v c ≡ true

clear-of : (a c : Bool) → (a && c) ≡ true → c ≡ true
clear-of a c is = grind arith

marked-sure : (c m s a t d : Bool) → m ≡ true → ((c && (m || s)) && (m || a)) ≡ true → ((c && (m || t)) && (m || d)) ≡ true
marked-sure c m s a t d one is = grind arith

event-sure : (w : World) (b : Birth) (pid value : ℕ) (x : WaitRow) → OpensBut w (basic w (DropsHandle pid value)) b → (m : Bool) → is_marked w x ≡ m → (not (needs_port b x) || m) ≡ true → is_sure_event w x ≡ true → is_sure_event (basic w (DropsHandle pid value)) x ≡ true
event-sure w b pid value x opens true marked clear is = marked-sure (is_client w (waiter_of x)) (is_marked w x) (is_sound_request w x) (is_answerable w x) (is_sound_request (basic w (DropsHandle pid value)) x) (is_answerable w x) marked is
event-sure w b pid value x opens false marked clear is =
    let v = basic w (DropsHandle pid value) in
    let made : same_birth x.port b ≡ false = grind arith in
    rw marked (request-parts (is_client w (waiter_of x)) (is_open w x.port) (is_open v x.port) x.received (is_answerable w x) (has (is_message_of x) w.messages) (is_open w x.queue) (is_open v x.queue) (is_answerable w x) (opens x.port made) (λ not_yet. let apart : same_birth x.queue b ≡ false = grind arith in opens x.queue apart) (rw marked at is))

last-sure : (w : World) (b : Birth) (pid value : ℕ) → OpensBut w (basic w (DropsHandle pid value)) b → (x : WaitRow) → is_sure w x ≡ true → (is_apart_from w b x && is_clear w (needs_port b) x) ≡ true → is_sure (basic w (DropsHandle pid value)) x ≡ true
last-sure w b pid value opens =
    let v = basic w (DropsHandle pid value) in
    by_kind (λ x. is_sure w x ≡ true → (is_apart_from w b x && is_clear w (needs_port b) x) ≡ true → is_sure v x ≡ true)
    (λ x m is off.
    let made : same_birth x.port b ≡ false = grind arith in
    request-parts (is_client w (waiter_of x)) (is_open w x.port) (is_open v x.port) x.received (is_answerable w x) (has (is_message_of x) w.messages) (is_open w x.queue) (is_open v x.queue) (is_answerable w x) (opens x.port made) (λ not_yet. let apart : same_birth x.queue b ≡ false = grind arith in opens x.queue apart) is)
    (λ x is off.
    let made : same_birth x.port b ≡ false = grind arith in
    let apart : same_birth x.queue b ≡ false = grind arith in
    receive-parts (is_client w (waiter_of x)) (is_open w x.port) (is_open v x.port) (is_open w x.queue) (is_open v x.queue) (not (has_come w (record x { kind = Receive })) && passes (port_row w x.port) is_joined) true (opens x.port made) (opens x.queue apart) is)
    (λ x is off.
    let made : same_birth x.port b ≡ false = grind arith in
    let apart : same_birth x.queue b ≡ false = grind arith in
    receive-parts (is_client w (waiter_of x)) (is_open w x.port) (is_open v x.port) (is_open w x.queue) (is_open v x.queue) (not (has_come w (record x { kind = Listen }))) true (opens x.port made) (opens x.queue apart) is)
    (λ x m offer is off.
    let apart : same_birth x.queue b ≡ false = grind arith in
    connect-parts (is_client w (waiter_of x)) (is_open w x.queue) (is_open v x.queue) (x.received || has (is_message_of x) w.messages) (has_client_port w x) (opens x.queue apart) is)
    (λ x m reply is off.
    let across : is_the b (pair_of w x.port) ≡ false = grind arith in
    accepted-parts (is_client w (waiter_of x)) (passes (pair_of w x.port) (is_open w)) (passes (pair_of w x.port) (is_open v)) (has_client_port w x) (pair-open w v b opens (pair_of w x.port) across) is)
    (λ x r is off. event-sure w b pid value x opens (is_marked w x) refl (clear-of (is_apart_from w b (record x { kind = Event r })) (not (needs_port b x) || is_marked w x) off) is)

last-leads : (w v : World) (b : Birth) → OpensBut w v b → (x : Path × Node Birth) → leads_open w x.1 ≡ true → not (is_name same_birth b x) ≡ true → leads_open v x.1 ≡ true
last-leads w v b opens (path, LinkTo target) is off = refl
last-leads w v b opens (path, Stands Directory) is off = refl
last-leads w v b opens (path, Stands (Item c)) is off = let apart : same_birth c b ≡ false = grind arith in opens c apart is

-- behind the handle each other port is as open as before
pub but-opens : (w : World) (pid : ℕ) (r : HandleRow) → count (is_table pid) w.handles ≤ 1 → handle_at w pid r.value ≡ Some r → OpensBut w (basic w (DropsHandle pid r.value)) r.object.birth
but-opens w pid r one at c apart is = open-dropped w pid r.value r c one at (and_right (same_kind r.object.kind kind.Port) (same_birth r.object.birth c) (births-apart c r.object.birth apart)) is

-- the handle is found behind the seven steps
pub shut-found : (w v : World) (pid : ℕ) (r : HandleRow) → v.handles ≡ w.handles → handle_at w pid r.value ≡ Some r → handle_at v pid r.value ≡ Some r
shut-found w v pid r same at = subst (λ (hs : List HandleTable). first (has_value r.value) (rows_in (first (is_table pid) hs)) ≡ Some r) (sym same) at

shut-dropped : (w v : World) (pid : ℕ) (r : HandleRow) → handle_at w pid r.value ≡ Some r → IsShut w v r.object.birth → IsSoundWorld (basic v (DropsHandle pid r.value))
shut-dropped w v pid r at t =
    let b = r.object.birth in
    let u = basic v (DropsHandle pid r.value) in
    let opens = but-opens v pid r (t.sound.tables pid) (shut-found w v pid r t.handles at) in
    sound-from u (every-both (is_sure v) (λ x. is_apart_from v b x && is_clear v (needs_port b) x) (is_sure u) (last-sure v b pid r.value opens) v.waits (sure-waits v t.sound) (every-both (is_apart_from v b) (is_clear v (needs_port b)) _ (λ x one two. and_from _ _ one two) v.waits t.waits t.events)) t.sound.once
    (order-dropped v pid r.value (every-both (λ x. leads_open v x.1) (λ x. not (is_name same_birth b x)) (λ x. leads_open u x.1) (last-leads v u b opens) v.bindings t.sound.names t.names) t.sound) (tied-of v t.sound)

-- NtClose
pub close_handle-sound : (w : World) (pid : ℕ) (r : HandleRow) → handle_at w pid r.value ≡ Some r → IsSoundWorld w → LeaveSound w (close_handle pid r w)
close_handle-sound w pid r at s = by_last (is_last r w) refl
  where
    by_last : (last : Bool) → is_last r w ≡ last → IsSoundWorld (world_after w (when last (close_port r.object.birth w) ++ DropsHandle pid r.value ∷ []))
    by_last true is =
        let v = world_after w (close_port r.object.birth w) in
        rw (after-append w (close_port r.object.birth w) (DropsHandle pid r.value ∷ [])) (shut-dropped w v pid r at (close-shut w r.object.birth s))
    by_last false more = dropped-sound w pid r at more s

pub found-value : (w : World) (pid value : ℕ) (r : HandleRow) → handle_at w pid value ≡ Some r → handle_at w pid r.value ≡ Some r
found-value w pid value r at =
    let same : (r.value == value) ≡ true = first-passes (has_value value) (handles_of w pid) r at in
    subst (λ n. handle_at w pid n ≡ Some r) (sym (eqb-true r.value value same)) at

-- A handle that goes as the last one closes its port.
last-own : (w : World) (r : HandleRow) → is_last r w ≡ true → names_port r.object.birth r.object ≡ true
last-own w r is = and_from (same_kind r.object.kind kind.Port) (same_birth r.object.birth r.object.birth) (first-true (same_kind r.object.kind kind.Port) (handle_count w r.object == 1) is) (birth-self r.object.birth)

last-count : (w : World) (r : HandleRow) → is_last r w ≡ true → count (λ h. names_port r.object.birth h.object) (all_handles w) ≡ 1
last-count w r is =
    let own = names-its r.object.birth r.object (last-own w r is) in
    eqb-true (count (λ h. names_port r.object.birth h.object) (all_handles w)) 1 (subst (λ (o : ObjectName). (count (λ h. same_object h.object o) (all_handles w) == 1) ≡ true) own (second-true (same_kind r.object.kind kind.Port) (handle_count w r.object == 1) is))

none-open : (v : World) (b : Birth) → count (λ h. names_port b h.object) (all_handles v) ≤ 0 → is_open v b ≡ false
none-open v b few = false_from_ne_true (is_open v b) (λ is. let more = open-count v b is in omega (arith, more, few))

pub last-closes : (w : World) (pid : ℕ) (r : HandleRow) → count (is_table pid) w.handles ≤ 1 → handle_at w pid r.value ≡ Some r → is_last r w ≡ true → (is_open w r.object.birth ≡ true) × (is_open (basic w (DropsHandle pid r.value)) r.object.birth ≡ false)
last-closes w pid r one at is =
    let b = r.object.birth in
    let v = basic w (DropsHandle pid r.value) in
    let counted = last-count w r is in
    let sum = drop-count (λ h. names_port b h.object) pid r.value w.handles r one at in (
      count-open w b (some (count (λ h. names_port b h.object) (all_handles w)) counted),
      none-open v b (zero (count (λ h. names_port b h.object) (all_handles v)) (count (λ h. names_port b h.object) (all_handles w)) (names_port b r.object) (last-own w r is) sum counted),
    )
  where
    some : (n : ℕ) → n ≡ 1 → 1 ≤ n
    some n is = omega (arith, is)

    zero : (n m : ℕ) (c : Bool) → c ≡ true → n + cond c 1 0 ≡ m → m ≡ 1 → n ≤ 0
    zero n m true is sum one = omega (arith, sum, one)
    zero n m false is sum one = absurd (cc)

-- a handle is the last one exactly where its port is open before it goes, and isn't behind that
pub last-shuts : (w : World) (pid : ℕ) (r : HandleRow) → count (is_table pid) w.handles ≤ 1 → handle_at w pid r.value ≡ Some r → shuts w (basic w (DropsHandle pid r.value)) r ≡ is_last r w
last-shuts w pid r one at = by_last (is_last r w) refl
  where
    shut : (k o c : Bool) → k ≡ true → o ≡ true → c ≡ false → (k && (o && not c)) ≡ true
    shut k o c is opened closed = grind (arith, is, opened, closed)

    kept : (k o c : Bool) → (o ≡ true → c ≡ true) → (k && (o && not c)) ≡ false
    kept k true c more = let is = more refl in grind (arith, is)
    kept k false c more = grind arith

    by_last : (last : Bool) → is_last r w ≡ last → shuts w (basic w (DropsHandle pid r.value)) r ≡ last
    by_last true is =
        let both = last-closes w pid r one at is in
        shut (same_kind r.object.kind kind.Port) (is_open w r.object.birth) (is_open (basic w (DropsHandle pid r.value)) r.object.birth) (first-true (same_kind r.object.kind kind.Port) (handle_count w r.object == 1) is) both.0 both.1
    by_last false off =
        kept (same_kind r.object.kind kind.Port) (is_open w r.object.birth) (is_open (basic w (DropsHandle pid r.value)) r.object.birth) (still-open w pid r one at off r.object.birth)
