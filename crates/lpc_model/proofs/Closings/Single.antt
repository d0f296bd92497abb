-- Basic steps keep what stands in queues of closings.
use Rattle.std.proofs.Common.{◌≡◌, ℕ, ◌+◌, ◌≤◌, List, [], ◌∷◌, ◌++◌, Bool, true, false, cond, not, Option, Some, None, refl, sym, subst, arith}
use Rattle.std.proofs.lemmas.Bool.{and_right, or_left}
use Rattle.std.specs.Prelude.{◌&&◌, ◌||◌, nat_lt}
use Rattle.lpc_base.specs.Rows.{count, every, first, has, which, without_first}
use Rattle.lpc_base.proofs.RowWords.{count-fewer, count-push, every-change, every-more, every-not, every-push, every-without, first-passes, has-change, has_none-change, has_none-push, has_none-without, has_none-without_first}
use Rattle.lpc_base.proofs.RowMaps.{every-both, every-first, every-without_first}
use Rattle.lpc_base.proofs.Births.{birth-same, births-apart}
use Rattle.lpc_base.proofs.Bools.{apart-second}
use Rattle.lpc_model.specs.declared.entry.ObjectKind.TheVariants as kind
use Rattle.lpc_model.specs.World.{Acceptance, Birth, HandleRow, HandleTable, MessageRow, ObjectKind, WaitRow, World}
use Rattle.lpc_model.specs.Found.{has_handle_to, has_value, is_connect, is_open, is_own_of, is_port, is_queued, is_queued_connect, is_sent_on, is_table, names_port, port_name, same_birth, same_kind, waits_as, waits_at}
use Rattle.lpc_model.specs.Basics.{Accepts, AddsHandle, AddsProcess, Awaits, Basic, Dies, DropsHandle, Empties, Enters, Frees, Receives, Takes, TakesConnect, Tells, Wakes, Withdraws, accepted, basic, freed, no_handles, put_handle, received, with_handle, without_handle, world_after, Leaves, left_by}
use Rattle.lpc_model.specs.Tests.{handle_row}
use Rattle.lpc_model.specs.Sweep.{sweep}
use Rattle.lpc_model.specs.Closings.{is_closed_post}
use Rattle.lpc_model.specs.SoundWaits.{is_connect_on}
use Rattle.lpc_model.specs.Standing.{NamesWhatStands, names_object, stands_as}
use Rattle.lpc_model.specs.SingleClosings.{HasSingleClosings, is_closing_of, is_shut}
use Rattle.lpc_model.proofs.Steps.Rows.{count-less, has-append, has-off}
use Rattle.lpc_model.proofs.Sound.Worlds.{by_kind}
use Rattle.lpc_model.proofs.Steps.Closing.{IsFewer}
use Rattle.lpc_model.proofs.Closings.Told.{AreHushed, is_hushed}
use Rattle.lpc_model.proofs.Steps.Sweep.{sweep_every}
use Rattle.lpc_model.proofs.Sound.Pairs.{lacks-parts}
use Rattle.lpc_model.proofs.Steps.InTurn.{steps-keep}

-- What is kept
-- a message tells of no port that isn't shut; a connect waits on a port that isn't open
abbrev pub tells_shut : World → MessageRow → Bool
tells_shut w m = not (is_closed_post m) || is_shut w m.sender

abbrev pub waits_shut : World → WaitRow → Bool
waits_shut w x = not (is_connect x && is_open w x.port)

tells-parts : (c o u h g : Bool) → (o ≡ false → u ≡ false) → (h ≡ false → g ≡ false) → (not c || (not o && not h)) ≡ true → (not c || (not u && not g)) ≡ true
tells-parts c o u h g one two is = grind (arith, one, two)

pub tells-more : (w v : World) (m : MessageRow) → (is_open w m.sender ≡ false → is_open v m.sender ≡ false) → (has (is_connect_on m.sender) w.waits ≡ false → has (is_connect_on m.sender) v.waits ≡ false) → tells_shut w m ≡ true → tells_shut v m ≡ true
tells-more w v m one two is = tells-parts (is_closed_post m) (is_open w m.sender) (is_open v m.sender) (has (is_connect_on m.sender) w.waits) (has (is_connect_on m.sender) v.waits) one two is

pub waits-more : (w v : World) (x : WaitRow) → (is_open w x.port ≡ false → is_open v x.port ≡ false) → waits_shut w x ≡ true → waits_shut v x ≡ true
waits-more w v x one is = lacks-parts (is_connect x) (is_open w x.port) (is_open v x.port) one is

-- a world in which no further port is open, on no further port a connect waits, and no message more tells of a closing
untold-from : (w v : World) → ((b : Birth) → is_open w b ≡ false → is_open v b ≡ false) → ((b : Birth) → has (is_connect_on b) w.waits ≡ false → has (is_connect_on b) v.waits ≡ false)
    → (every (tells_shut w) w.messages ≡ true → every (tells_shut w) v.messages ≡ true) → ((b : Birth) → count (is_closing_of b) v.messages ≤ 1) → (every (waits_shut w) w.waits ≡ true → every (waits_shut w) v.waits ≡ true) → HasSingleClosings w → HasSingleClosings v
untold-from w v shut connects messages once waits u = record {
  closed = every-more (tells_shut w) (tells_shut v) (λ m. tells-more w v m (shut m.sender) (connects m.sender)) v.messages (messages u.closed);
  once = once;
  connects = every-more (waits_shut w) (waits_shut v) (λ x. waits-more w v x (shut x.port)) v.waits (waits u.connects);
}

-- the messages alone, and the waits alone
messages-untold : (w : World) (ms : List MessageRow) → (every (tells_shut w) w.messages ≡ true → every (tells_shut w) ms ≡ true) → ((b : Birth) → count (is_closing_of b) ms ≤ 1) → HasSingleClosings w → HasSingleClosings (record w { messages = ms })
messages-untold w ms all once u = record { closed = all u.closed; once = once; connects = u.connects }

waits-untold : (w : World) (xs : List WaitRow) → ((b : Birth) → has (is_connect_on b) w.waits ≡ false → has (is_connect_on b) xs ≡ false) → (every (waits_shut w) w.waits ≡ true → every (waits_shut w) xs ≡ true) → HasSingleClosings w → HasSingleClosings (record w { waits = xs })
waits-untold w xs none all u = untold-from w (record w { waits = xs }) (λ b off. off) none (λ all. all) u.once all u

-- fewer rows
at-most : (k n : ℕ) → k ≤ n → n ≤ 1 → k ≤ 1
at-most k n one two = omega (arith, one, two)

pub fewer-untold : (w v : World) → IsFewer w v → HasSingleClosings w → HasSingleClosings v
fewer-untold w v l u =
    untold-from w v (λ b off. subst (λ hs. is_open (record w { handles = hs }) b ≡ false) (sym l.handles) off) (λ b off. has-off (is_connect_on b) v.waits (l.waits (λ x. not (is_connect_on b x)) (every-not (is_connect_on b) w.waits off)))
    (l.messages (tells_shut w)) (λ b. at-most _ _ (l.counts (is_closing_of b)) (u.once b)) (l.waits (waits_shut w)) u

-- Hushed steps
pub first-once : (p test : MessageRow → Bool) (ms : List MessageRow) → count p ms ≤ 1 → count p (without_first test ms) ≤ 1
first-once p test ms few = at-most _ _ (count-fewer p test ms) few

-- a message that tells of no closing counts for none
mute-once : (b : Birth) (ms : List MessageRow) (m : MessageRow) → not (is_closed_post m) ≡ true → count (is_closing_of b) ms ≤ 1 → count (is_closing_of b) (ms ++ m ∷ []) ≤ 1
mute-once b ms m off few = sum (count (is_closing_of b) ms) _ (is_sent_on b m) (is_closed_post m) (count-push (is_closing_of b) ms m) off few
  where
    sum : (n k : ℕ) (s c : Bool) → k ≡ n + cond (s && c) 1 0 → not c ≡ true → n ≤ 1 → k ≤ 1
    sum n k true true is off few = absurd (cc)
    sum n k true false is off few = omega (arith, is, few)
    sum n k false c is off few = omega (arith, is, few)

other-connect : (b : Birth) (x : WaitRow) → not (is_connect x) ≡ true → is_connect_on b x ≡ false
other-connect b x off = grind arith

accepted-connect : (b : Birth) (reply : Acceptance) (x : WaitRow) → is_connect_on b (accepted reply x) ≡ is_connect_on b x
accepted-connect b reply = by_kind (λ x. is_connect_on b (accepted reply x) ≡ is_connect_on b x) (λ x m. refl) (λ x. refl) (λ x. refl) (λ x m offer. refl) (λ x m r. refl) (λ x m. refl)

accepted-shut : (w : World) (reply : Acceptance) (x : WaitRow) → waits_shut w x ≡ true → waits_shut w (accepted reply x) ≡ true
accepted-shut w reply = by_kind (λ x. waits_shut w x ≡ true → waits_shut w (accepted reply x) ≡ true) (λ x m is. is) (λ x is. is) (λ x is. is) (λ x m offer is. is) (λ x m r is. is) (λ x m is. is)

not-both : (a b : Bool) → not a ≡ true → not (a && b) ≡ true
not-both a b is = grind arith

freed-untold : (w : World) (k : ObjectKind) (b : Birth) → HasSingleClosings w → HasSingleClosings (freed w k b)
freed-untold w kind.Token b u = record { closed = u.closed; once = u.once; connects = u.connects }
freed-untold w e b u = record { closed = u.closed; once = u.once; connects = u.connects }

hushed-step : (w : World) (b : Basic) → is_hushed b ≡ true → HasSingleClosings w → HasSingleClosings (basic w b)
hushed-step w (Tells e) is u = u
hushed-step w (Wakes who call status fields) is u = untold-from w (left_by who w) (λ b off. off) (λ b. has_none-without (is_connect_on b) (waits_as who) w.waits) (λ all. all) u.once (every-without (waits_shut w) (waits_as who) w.waits) u
hushed-step w (Leaves who) is u = untold-from w (left_by who w) (λ b off. off) (λ b. has_none-without (is_connect_on b) (waits_as who) w.waits) (λ all. all) u.once (every-without (waits_shut w) (waits_as who) w.waits) u
hushed-step w (Dies who status) is u = untold-from w (basic w (Dies who status)) (λ b off. off) (λ b. has_none-without (is_connect_on b) (waits_as who) w.waits) (λ all. all) u.once (every-without (waits_shut w) (waits_as who) w.waits) u
hushed-step w (Awaits x) is u = waits-untold w _ (λ b off. has_none-push (is_connect_on b) w.waits x off (other-connect b x is)) (λ all. every-push (waits_shut w) w.waits x all (not-both (is_connect x) (is_open w x.port) is)) u
hushed-step w (Receives who queue) is u = waits-untold w _ (λ b off. rw (has-change (is_connect_on b) (waits_at who queue) received (λ x. refl) w.waits) off) (every-change (waits_shut w) (waits_at who queue) received (λ x is. is) w.waits) u
hushed-step w (Accepts who reply) is u = waits-untold w _ (λ b off. rw (has-change (is_connect_on b) (waits_as who) (accepted reply) (accepted-connect b reply) w.waits) off) (every-change (waits_shut w) (waits_as who) (accepted reply) (accepted-shut w reply) w.waits) u
hushed-step w (Enters m) is u = messages-untold w _ (λ all. every-push (tells_shut w) w.messages m all (or_left (not (is_closed_post m)) _ is)) (λ b. mute-once b w.messages m is (u.once b)) u
hushed-step w (Takes q) is u = messages-untold w _ (every-without_first (tells_shut w) (is_queued q) w.messages) (λ b. first-once (is_closing_of b) (is_queued q) w.messages (u.once b)) u
hushed-step w (TakesConnect q) is u = messages-untold w _ (every-without_first (tells_shut w) (is_queued_connect q) w.messages) (λ b. first-once (is_closing_of b) (is_queued_connect q) w.messages (u.once b)) u
hushed-step w (Withdraws who) is u = messages-untold w _ (every-without (tells_shut w) (is_own_of who) w.messages) (λ b. count-less (is_closing_of b) (is_own_of who) w.messages 1 (u.once b)) u
hushed-step w (Empties q) is u = messages-untold w _ (every-without (tells_shut w) (is_queued q) w.messages) (λ b. count-less (is_closing_of b) (is_queued q) w.messages 1 (u.once b)) u
hushed-step w (AddsProcess p) is u = untold-from w (basic w (AddsProcess p)) (λ b off. has_none-push (has_handle_to b) w.handles (no_handles p.number) off refl) (λ b off. off) (λ all. all) u.once (λ all. all) u
hushed-step w (AddsHandle pid h) is u = absurd (cc)
hushed-step w (DropsHandle pid value) is u = absurd (cc)
hushed-step w (Frees o) is u = freed-untold w o.kind o.birth u
hushed-step w b is u = record { closed = u.closed; once = u.once; connects = u.connects }

pub hushed-all : (w : World) (bs : List Basic) → AreHushed bs → HasSingleClosings w → HasSingleClosings (world_after w bs)
hushed-all = steps-keep is_hushed HasSingleClosings hushed-step

pub swept-untold : (w : World) → HasSingleClosings w → HasSingleClosings (world_after w (sweep w))
swept-untold w = hushed-all w (sweep w) (sweep_every is_hushed (λ _. refl) w)

-- Open ports
-- of an open port no message tells that it is closed, and no connect waits on it
pub open-untold : (w : World) (b : Birth) → HasSingleClosings w → is_open w b ≡ true → every (λ m. not (is_closing_of b m)) w.messages ≡ true
open-untold w b u opens = every-more (tells_shut w) (λ m. not (is_closing_of b m)) at w.messages u.closed
  where
    parts : (s c o h : Bool) → (s ≡ true → o ≡ true) → (not c || (not o && not h)) ≡ true → not (s && c) ≡ true
    parts s c o h more is = grind (arith, more)

    at : (m : MessageRow) → tells_shut w m ≡ true → not (is_closing_of b m) ≡ true
    at m is = parts (same_birth m.sender b) (is_closed_post m) (is_open w m.sender) (has (is_connect_on m.sender) w.waits) (λ same. subst (λ c. is_open w c ≡ true) (sym (birth-same m.sender b same)) opens) is

pub open-unconnected : (w : World) (b : Birth) → HasSingleClosings w → is_open w b ≡ true → every (λ x. not (is_connect_on b x)) w.waits ≡ true
open-unconnected w b u opens = every-more (waits_shut w) (λ x. not (is_connect_on b x)) at w.waits u.connects
  where
    parts : (c s o : Bool) → (s ≡ true → o ≡ true) → not (c && o) ≡ true → not (c && s) ≡ true
    parts c s o more is = grind (arith, more)

    at : (x : WaitRow) → waits_shut w x ≡ true → not (is_connect_on b x) ≡ true
    at x is = parts (is_connect x) (same_birth x.port b) (is_open w x.port) (λ same. subst (λ c. is_open w c ≡ true) (sym (birth-same x.port b same)) opens) is

-- an open port stands
port-of : (w : World) (b : Birth) (k : ObjectKind) (c : Birth) → stands_as w k c ≡ true → (same_kind k kind.Port && same_birth c b) ≡ true → has (is_port b) w.ports ≡ true
port-of w b kind.Port c stands is = subst (λ d. has (is_port d) w.ports ≡ true) (birth-same c b is) stands
port-of w b e c stands is = absurd (cc)

pub open-stands : (w : World) (b : Birth) → NamesWhatStands w → is_open w b ≡ true → has (is_port b) w.ports ≡ true
open-stands w b n is = at (first (has_handle_to b) w.handles) refl
  where
    named : (t : HandleTable) → every (names_object w) t.rows ≡ true → (o : Option HandleRow) → first (λ h. names_port b h.object) t.rows ≡ o → has_handle_to b t ≡ true → has (is_port b) w.ports ≡ true
    named t all None none has_it = let never : false ≡ true = rw none at has_it in absurd (cc)
    named t all (Some h) found has_it =
        port-of w b h.object.kind h.object.birth (every-first (names_object w) (λ h. names_port b h.object) t.rows h all found) (first-passes (λ h. names_port b h.object) t.rows h found)

    at : (o : Option HandleTable) → first (has_handle_to b) w.handles ≡ o → has (is_port b) w.ports ≡ true
    at None none = let never : false ≡ true = rw none at is in absurd (cc)
    at (Some t) found = named t (every-first (λ t. every (names_object w) t.rows) (has_handle_to b) w.handles t n.handles found) (first (λ h. names_port b h.object) t.rows) refl (first-passes (has_handle_to b) w.handles t found)

-- Handles
pub put-none : (p : HandleRow → Bool) (h : HandleRow) (rows : List HandleRow) → p h ≡ false → has p rows ≡ false → has p (put_handle h rows) ≡ false
put-none p h rows own none =
    let low = which (λ (r : HandleRow). nat_lt r.value h.value) rows in
    let high = which (λ (r : HandleRow). nat_lt h.value r.value) rows in
    let split = has-append p low (h ∷ high) in
    let one = which-off (λ (r : HandleRow). nat_lt r.value h.value) rows none in
    let two = which-off (λ (r : HandleRow). nat_lt h.value r.value) rows none in
    grind arith
  where
    which-off : (t : HandleRow → Bool) (rs : List HandleRow) → has p rs ≡ false → has p (which t rs) ≡ false
    which-off t [] none = refl
    which-off t (r ∷ rs) none = grind (arith, which-off t rs)

-- a handle that is added opens no port but its own; one that goes opens none
pub added-shut : (w : World) (pid : ℕ) (h : HandleRow) (b : Birth) → names_port b h.object ≡ false → is_open w b ≡ false → is_open (basic w (AddsHandle pid h)) b ≡ false
added-shut w pid h b other off = has_none-change (has_handle_to b) (is_table pid) (with_handle h) (λ t none. put-none (λ h. names_port b h.object) h t.rows other none) w.handles off

pub dropped-shut : (w : World) (pid value : ℕ) (b : Birth) → is_open w b ≡ false → is_open (basic w (DropsHandle pid value)) b ≡ false
dropped-shut w pid value b off = has_none-change (has_handle_to b) (is_table pid) (without_handle value) (λ t none. has_none-without_first (λ h. names_port b h.object) (has_value value) t.rows none) w.handles off

pub dropped-untold : (w : World) (pid value : ℕ) → HasSingleClosings w → HasSingleClosings (basic w (DropsHandle pid value))
dropped-untold w pid value u = untold-from w (basic w (DropsHandle pid value)) (dropped-shut w pid value) (λ b off. off) (λ all. all) u.once (λ all. all) u

-- a handle to a port of which no message tells, and on which no connect waits
apart-sender : (s c : Bool) → c ≡ true → not (s && c) ≡ true → s ≡ false
apart-sender s c one two = grind arith

pub added-untold : (w : World) (pid value access : ℕ) (b : Birth) → every (λ m. not (is_closing_of b m)) w.messages ≡ true → every (λ x. not (is_connect_on b x)) w.waits ≡ true → HasSingleClosings w → HasSingleClosings (basic w (AddsHandle pid (handle_row value (port_name b) access)))
added-untold w pid value access b untold alone u =
    let h = handle_row value (port_name b) access in
    let v = basic w (AddsHandle pid h) in
    record {
      closed = every-both (tells_shut w) (λ m. not (is_closing_of b m)) (tells_shut v) (λ m is off. telling m (is_closed_post m) refl is off) w.messages u.closed untold;
      once = u.once;
      connects = every-both (waits_shut w) (λ x. not (is_connect_on b x)) (waits_shut v) (λ x is off. waiting x (is_connect x) refl is off) w.waits u.connects alone;
    }
  where
    telling : (m : MessageRow) (c : Bool) → is_closed_post m ≡ c → tells_shut w m ≡ true → not (is_closing_of b m) ≡ true → tells_shut (basic w (AddsHandle pid (handle_row value (port_name b) access))) m ≡ true
    telling m false mute is off = rw mute refl
    telling m true tells is off =
        let apart = apart-sender (same_birth m.sender b) (is_closed_post m) tells off in
        tells-more w (basic w (AddsHandle pid (handle_row value (port_name b) access))) m (added-shut w pid (handle_row value (port_name b) access) m.sender (births-apart m.sender b apart)) (λ none. none) is

    waiting : (x : WaitRow) (c : Bool) → is_connect x ≡ c → waits_shut w x ≡ true → not (is_connect_on b x) ≡ true → waits_shut (basic w (AddsHandle pid (handle_row value (port_name b) access))) x ≡ true
    waiting x false other is off = rw other refl
    waiting x true its is off =
        let apart = apart-second (is_connect x) (same_birth x.port b) its off in
        waits-more w (basic w (AddsHandle pid (handle_row value (port_name b) access))) x (added-shut w pid (handle_row value (port_name b) access) x.port (births-apart x.port b apart)) is

-- a further handle to an open port
pub further-untold : (w : World) (pid : ℕ) (h : HandleRow) → (same_kind h.object.kind kind.Port ≡ true → is_open w h.object.birth ≡ true) → HasSingleClosings w → HasSingleClosings (basic w (AddsHandle pid h))
further-untold w pid h opens u = untold-from w (basic w (AddsHandle pid h)) (λ b off. added-shut w pid h b (other b off) off) (λ b off. off) (λ all. all) u.once (λ all. all) u
  where
    apart : (b : Birth) → is_open w b ≡ false → (k s : Bool) → same_kind h.object.kind kind.Port ≡ k → same_birth h.object.birth b ≡ s → (k && s) ≡ false
    apart b off false s kinds same = refl
    apart b off true false kinds same = refl
    apart b off true true kinds same = let is = subst (λ c. is_open w c ≡ true) (birth-same h.object.birth b same) (opens kinds) in absurd (cc)

    other : (b : Birth) → is_open w b ≡ false → names_port b h.object ≡ false
    other b off = apart b off (same_kind h.object.kind kind.Port) (same_birth h.object.birth b) refl refl

-- A connect that begins to wait
pub offered-untold : (w : World) (x : WaitRow) → is_open w x.port ≡ false → every (λ m. not (is_closing_of x.port m)) w.messages ≡ true → HasSingleClosings w → HasSingleClosings (basic w (Awaits x))
offered-untold w x shut untold u =
    let v = basic w (Awaits x) in
    record {
      closed = every-both (tells_shut w) (λ m. not (is_closing_of x.port m)) (tells_shut v) (λ m is off. telling m (is_closed_post m) refl is off) w.messages u.closed untold;
      once = u.once;
      connects = every-push (waits_shut w) w.waits x u.connects (off-second (is_connect x) (is_open w x.port) shut);
    }
  where
    off-second : (a b : Bool) → b ≡ false → not (a && b) ≡ true
    off-second a b off = grind arith

    telling : (m : MessageRow) (c : Bool) → is_closed_post m ≡ c → tells_shut w m ≡ true → not (is_closing_of x.port m) ≡ true → tells_shut (basic w (Awaits x)) m ≡ true
    telling m false mute is off = rw mute refl
    telling m true tells is off =
        let apart = apart-sender (same_birth m.sender x.port) (is_closed_post m) tells off in
        tells-more w (basic w (Awaits x)) m (λ off. off) (λ none. has_none-push (is_connect_on m.sender) w.waits x none (and_right (is_connect x) (same_birth x.port m.sender) (births-apart m.sender x.port apart))) is
