-- What is told of threads that have ended, registration by registration: behind the first of them the others are left.
use Rattle.std.proofs.Common.{◌≡◌, ◌∙◌, ℕ, List, [], ◌∷◌, ◌++◌, Bool, true, false, Option, Some, None, drop, map, refl, ap, sym, subst, arith}
use Rattle.std.specs.Prelude.{◌==◌, not, option_map}
use Rattle.std.proofs.lemmas.Bool.{eqb-true, false_from_ne_true}
use Rattle.std.proofs.lemmas.List.{append-nil}
use Rattle.lpc_base.specs.Rows.{change, each, every, first, given, has, when, which, without}
use Rattle.lpc_base.proofs.RowWords.{change-none, every-change}
use Rattle.lpc_base.proofs.Births.{birth-same, birth-self}
use Rattle.lpc_base.proofs.Bools.{same-number}
use Rattle.lpc_model.specs.declared.entry.Entry.{Entry}
use Rattle.lpc_model.specs.Basics.{Enters, Receives, Takes, TakesConnect, Unregisters, basic, doing, in_turn, unregistering, world_after}
use Rattle.lpc_model.specs.Deaths.{HasSingleRegistrations, are_different, registers_once}
use Rattle.lpc_model.specs.Entering.{enter, given_steps, row_of, shown, takes, woken}
use Rattle.lpc_model.specs.Found.{context_of, is_thread, port_row, route, same_birth}
use Rattle.lpc_model.specs.Listed.{Listed}
use Rattle.lpc_model.specs.Message.{asks}
use Rattle.lpc_model.specs.declared.message.Message.{Message}
use Rattle.lpc_slots.specs.declared.Key.{Key}
use Rattle.lpc_model.specs.World.{Accepted, Birth, Connect, Event, Listen, MessageRow, PortRow, Receive, Request, ThreadRow, WaitRow, World}
use Rattle.lpc_model.proofs.Lives.SingleRegistrations.{different-less}
use Rattle.lpc_model.proofs.Sound.Worlds.{by_kind}
use Rattle.lpc_model.proofs.Calls.Usable.{port-birth}
use Rattle.lpc_rows.specs.Clauses.{birth_at, port_at, row_at}
use Rattle.lpc_steps.specs.Clauses.{route_at}
use Rattle.lpc_rows.specs.Does.{Left, Took, left_by}
use Rattle.lpc_rows.specs.Kept.{Kept}
use Rattle.lpc_rows.specs.Lawful.{are_single_threads}
use Rattle.lpc_rows.specs.Registered.{Death, death_by, has_ended_in, has_registered, untold_of}
use Rattle.lpc_rows.specs.Shown.{row_with}
use Rattle.lpc_steps.proofs.Composed.{left-then, left_further, took-one, took-then}
use Rattle.lpc_base.specs.declared.status.TheConstants.{SUCCESS}
use Rattle.lpc_death.specs.Dying.{told_row, telling_all, telling_one, untold_message}

-- What is told of a registration
-- the port of a registration, with its route, says what is told
pub told-is : (w : World) (u : Death) (p : PortRow) (q : Option Birth) → port_row w u.port ≡ Some p → route w p ≡ q → told_row w u ≡ option_map (λ queue. row_of queue p (untold_message u)) q
told-is w u p q row way = rw (row, way) refl

-- its registration went, and then the message entered
pub post-took : (w mid end : Kept) (out last : Listed) (u : Death) (queue port : Key) (context : ℕ) (m : Message) → mid.rows ≡ basic w.rows (Unregisters u.client.thread u.port) → mid.loose ≡ true → birth_at mid port ≡ u.port
    → row_at mid port ≡ Some (port_at mid port) → Some (birth_at mid queue) ≡ route_at mid port → context ≡ context_of (port_at mid port) → m ≡ untold_message u
    → Took (enter (row_with mid.births queue port context m) mid.rows) mid end out last → Took (telling_one u w.rows) w end out last
post-took w mid end out last u queue port context m gone loose name found way at is took =
    let p = port_at mid port in
    let q = birth_at mid queue in
    let gives = Unregisters u.client.thread u.port in
    let row : port_row mid.rows u.port ≡ Some p = ap (port_row mid.rows) (sym name) ∙ found in
    let told = told-is mid.rows u p (Some q) row (sym way) in
    let sender : birth_at mid port ≡ p.birth = sym (port-birth mid.rows (birth_at mid port) p found) in
    let same : row_with mid.births queue port context m ≡ row_of q p (untold_message u) = λ i. record { queue = q; sender = sender i; context = at i; message = is i } in
    let enters : Took (given (told_row mid.rows u) (λ m. enter m mid.rows)) mid end out last =
    took ∙ ap (λ (m : MessageRow). left_by mid.rows out.list mid.loose (enter m mid.rows)) same
    ∙ ap (λ (o : Option MessageRow). left_by mid.rows out.list mid.loose (given o (λ m. enter m mid.rows))) (sym told) in
    took-then (doing (gives ∷ [])) (λ v. given (told_row v u) (λ m. enter m v)) w mid end out out last (took-one gives w mid out refl gone loose) enters

-- Threads that are left
-- a message that enters a queue touches no thread
entered-threads : (m : MessageRow) (w : World) → (world_after w (enter m w)).threads ≡ w.threads
entered-threads m w = at (first (takes m) w.waits)
  where
    received : (a : Bool) (v : World) (x : WaitRow) → v.threads ≡ w.threads
        → (world_after v (when a (Receives m.message.header.client.thread m.queue ∷ []) ++ woken SUCCESS (shown x m) x ∷ [])).threads ≡ w.threads
    received true v x same = same
    received false v x same = same

    took : World
    took = basic (basic w (Enters m)) (Takes m.queue)

    taken : (x : WaitRow) → (world_after (basic w (Enters m)) (given_steps x m ++ woken SUCCESS (shown x m) x ∷ [])).threads ≡ w.threads
    taken x =
        by_kind (λ x. (world_after (basic w (Enters m)) (given_steps x m ++ woken SUCCESS (shown x m) x ∷ [])).threads ≡ w.threads)
        (λ x r. received (asks m.message) took (record x { kind = Request r }) refl) (λ x. received (asks m.message) took (record x { kind = Receive }) refl)
        (λ x. received (asks m.message) (basic (basic w (Enters m)) (TakesConnect m.queue)) (record x { kind = Listen }) refl)
        (λ x r offer. received (asks m.message) took (record x { kind = Connect r offer }) refl) (λ x r reply. received (asks m.message) took (record x { kind = Accepted r reply }) refl)
        (λ x r. received (asks m.message) took (record x { kind = Event r }) refl) x

    at : (o : Option WaitRow) → (world_after w (Enters m ∷ given o (λ x. given_steps x m ++ woken SUCCESS (shown x m) x ∷ []))).threads ≡ w.threads
    at None = refl
    at (Some x) = taken x

-- so what is told of a registration takes that registration alone
pub told-threads : (w : World) (u : Death) → (world_after w (telling_one u w)).threads ≡ change (is_thread u.client.thread) (unregistering u.port) w.threads
told-threads w u = at (told_row (basic w (Unregisters u.client.thread u.port)) u)
  where
    at : (o : Option MessageRow) → (world_after w (Unregisters u.client.thread u.port ∷ given o (λ m. enter m (basic w (Unregisters u.client.thread u.port))))).threads ≡ change (is_thread u.client.thread) (unregistering u.port) w.threads
    at None = refl
    at (Some m) = entered-threads m (basic w (Unregisters u.client.thread u.port))

-- Registrations that are left
-- of ports that are different the first one goes alone
others-left : (b : Birth) (bs : List Birth) → every (λ c. not (same_birth c b)) bs ≡ true → without (same_birth b) bs ≡ bs
others-left b [] all = refl
others-left b (c ∷ bs) all = grind (arith, turned b c, others-left b bs)
  where
    turned : (b c : Birth) → same_birth c b ≡ false → same_birth b c ≡ false
    turned b c off = false_from_ne_true (same_birth b c) (λ is. let same = birth-same b c is in cc (off, subst (λ (d : Birth). same_birth c d ≡ true) (sym same) (birth-self c)))

abbrev deaths_in : ℕ → List ThreadRow → List Death
deaths_in pid ts = each (λ t. map (death_by t) t.registrations) (which (has_ended_in pid) ts)

abbrev told_in : Death → List ThreadRow → List ThreadRow
told_in u ts = change (is_thread u.client.thread) (unregistering u.port) ts

-- What is told first: its thread is found by its number, and registered the port
pub record IsNext (ts : List ThreadRow) (u : Death) : Type 0 where
  pub there : has (is_thread u.client.thread) ts ≡ true
  pub registered : has (same_birth u.port) (given (first (is_thread u.client.thread) ts) (λ t. t.registrations)) ≡ true

next-pair : (v u : Death) (vs us : List Death) → let x : List Death = v ∷ vs in let y : List Death = u ∷ us in x ≡ y → (v ≡ u) × (vs ≡ us)
next-pair v u vs us same = (cc, cc)

next-here : (t : ThreadRow) (ts : List ThreadRow) (b : Birth) (bs : List Birth) → t.registrations ≡ b ∷ bs → IsNext (t ∷ ts) (death_by t b)
next-here t ts b bs is =
    let own = same-number t.number in
    record { there = rw own refl; registered = rw (own, is) (rw (birth-self b) refl) }

next-later : (t : ThreadRow) (ts : List ThreadRow) (u : Death) → has (λ r. r.number == t.number) ts ≡ false → IsNext ts u → IsNext (t ∷ ts) u
next-later t ts u apart is = at (is_thread u.client.thread t) refl
  where
    at : (c : Bool) → is_thread u.client.thread t ≡ c → IsNext (t ∷ ts) u
    at false off = record { there = rw off is.there; registered = rw off is.registered }
    at true it =
        let twice : has (λ r. r.number == t.number) ts ≡ true = subst (λ n. has (is_thread n) ts ≡ true) (sym (eqb-true t.number u.client.thread it)) is.there in
        absurd (cc (twice, apart))

apart-first : (t : ThreadRow) (ts : List ThreadRow) → are_single_threads (t ∷ ts) ≡ true → has (λ r. r.number == t.number) ts ≡ false
apart-first t ts one = grind arith

apart-rest : (t : ThreadRow) (ts : List ThreadRow) → are_single_threads (t ∷ ts) ≡ true → are_single_threads ts ≡ true
apart-rest t ts one = grind arith

pub next-found : (pid : ℕ) (ts : List ThreadRow) (u : Death) (us : List Death) → are_single_threads ts ≡ true → deaths_in pid ts ≡ u ∷ us → IsNext ts u
next-found pid [] u us one next = absurd (cc)
next-found pid (t ∷ ts) u us one next = at (λ rest. next-found pid ts u us (apart-rest t ts one) rest) (has_ended_in pid t) refl t.registrations refl
  where
    later : IsNext ts u → IsNext (t ∷ ts) u
    later is = next-later t ts u (apart-first t ts one) is

    at : (deaths_in pid ts ≡ u ∷ us → IsNext ts u) → (c : Bool) → has_ended_in pid t ≡ c → (bs : List Birth) → t.registrations ≡ bs → IsNext (t ∷ ts) u
    at rest false off bs is = later (rest (rw off at next))
    at rest true here [] is = later (rest (rw (here, is) at next))
    at rest true here (b ∷ bs) is = subst (IsNext (t ∷ ts)) (next-pair (death_by t b) u (map (death_by t) bs ++ deaths_in pid ts) us (rw (here, is) at next)).0 (next-here t ts b bs is)

-- and behind it the others are left
left-here : (pid : ℕ) (t : ThreadRow) (ts : List ThreadRow) (b : Birth) (bs : List Birth) → has (λ r. r.number == t.number) ts ≡ false → registers_once t ≡ true → has_ended_in pid t ≡ true → t.registrations ≡ b ∷ bs
    → deaths_in pid (told_in (death_by t b) (t ∷ ts)) ≡ map (death_by t) bs ++ deaths_in pid ts
left-here pid t ts b bs apart single here is =
    let own = same-number t.number in
    let different : are_different (b ∷ bs) ≡ true = subst (λ rs. are_different rs ≡ true) is single in
    let others : every (λ c. not (same_birth c b)) bs ≡ true = grind arith in
    let left : without (same_birth b) t.registrations ≡ bs = ap (without (same_birth b)) is ∙ gone b bs others in
    let same : change (is_thread t.number) (unregistering b) ts ≡ ts = change-none (is_thread t.number) (unregistering b) ts apart in
    rw (own, here, left, same) refl
  where
    gone : (b : Birth) (bs : List Birth) → every (λ c. not (same_birth c b)) bs ≡ true → without (same_birth b) (b ∷ bs) ≡ bs
    gone b bs all = rw (birth-self b) (others-left b bs all)

-- what is told of later is left as it is told of without a thread that has nothing to be told
left-later : (pid : ℕ) (t : ThreadRow) (ts : List ThreadRow) (u : Death) → (c : Bool) → has_ended_in pid t ≡ c → (c ≡ true → t.registrations ≡ []) → deaths_in pid (told_in u (t ∷ ts)) ≡ deaths_in pid (told_in u ts)
left-later pid t ts u false off none = by (is_thread u.client.thread t) refl
  where
    by : (o : Bool) → is_thread u.client.thread t ≡ o → deaths_in pid (told_in u (t ∷ ts)) ≡ deaths_in pid (told_in u ts)
    by true own = rw (own, off) refl
    by false other = rw (other, off) refl
left-later pid t ts u true here none = by (is_thread u.client.thread t) refl
  where
    by : (o : Bool) → is_thread u.client.thread t ≡ o → deaths_in pid (told_in u (t ∷ ts)) ≡ deaths_in pid (told_in u ts)
    by true own = rw (own, here, none refl) refl
    by false other = rw (other, here, none refl) refl

pub others-told : (pid : ℕ) (ts : List ThreadRow) (u : Death) (us : List Death) → are_single_threads ts ≡ true → every registers_once ts ≡ true → deaths_in pid ts ≡ u ∷ us → deaths_in pid (told_in u ts) ≡ us
others-told pid [] u us one single next = absurd (cc)
others-told pid (t ∷ ts) u us one single next = at (λ rest. others-told pid ts u us (apart-rest t ts one) rest_single rest) (has_ended_in pid t) refl t.registrations refl
  where
    first_single : registers_once t ≡ true
    first_single = grind arith

    rest_single : every registers_once ts ≡ true
    rest_single = grind arith

    at : (deaths_in pid ts ≡ u ∷ us → deaths_in pid (told_in u ts) ≡ us) → (c : Bool) → has_ended_in pid t ≡ c → (bs : List Birth) → t.registrations ≡ bs → deaths_in pid (told_in u (t ∷ ts)) ≡ us
    at rest false off bs is = left-later pid t ts u false off (λ on. absurd (cc)) ∙ rest (rw off at next)
    at rest true here [] is = left-later pid t ts u true here (λ on. is) ∙ rest (rw (here, is) at next)
    at rest true here (b ∷ bs) is =
        let same = next-pair (death_by t b) u (map (death_by t) bs ++ deaths_in pid ts) us (rw (here, is) at next) in
        subst (λ v. deaths_in pid (told_in v (t ∷ ts)) ≡ us) same.0 (left-here pid t ts b bs (apart-first t ts one) first_single here is ∙ same.1)

-- Of a world
pub left-untold : (w : World) (pid : ℕ) (u : Death) (us : List Death) → are_single_threads w.threads ≡ true → HasSingleRegistrations w → untold_of w pid ≡ u ∷ us → untold_of (world_after w (telling_one u w)) pid ≡ us
left-untold w pid u us one single next = ap (deaths_in pid) (told-threads w u) ∙ others-told pid w.threads u us one single next

pub next-registered : (w : World) (pid : ℕ) (u : Death) (us : List Death) → are_single_threads w.threads ≡ true → untold_of w pid ≡ u ∷ us → has_registered w u.client.thread u.port ≡ true
next-registered w pid u us one next = let is = next-found pid w.threads u us one next in is.registered

-- each port stays registered once with a thread
pub single-left : (w : World) (u : Death) → HasSingleRegistrations w → HasSingleRegistrations (world_after w (telling_one u w))
single-left w u single =
    subst (λ ts. every registers_once ts ≡ true) (sym (told-threads w u))
    (every-change registers_once (is_thread u.client.thread) (unregistering u.port) (λ t was. different-less u.port t.registrations was) w.threads single)

-- All: behind the first of them, what is left to be told leaves what all of it leaves
pub one-told : (w : World) (pid : ℕ) (u : Death) (us : List Death) (es : List Entry) (loose : Bool) (l : Left) → untold_of w pid ≡ u ∷ us → untold_of (world_after w (telling_one u w)) pid ≡ us
    → l ≡ left_by w es loose (telling_one u w) → left_further l (telling_all pid) ≡ left_by w es loose (telling_all pid w)
one-told w pid u us es loose l same others took =
    let rest = ap (λ xs. left_further (left_by w es loose (telling_one u w)) (in_turn telling_one xs)) others in
    let all = ap (λ xs. left_by w es loose (in_turn telling_one xs w)) (sym same) in
    ap (λ (l : Left). left_further l (telling_all pid)) took
    ∙ rest
    ∙ left-then w es loose (telling_one u) (in_turn telling_one us)
    ∙ all

-- where none is left, nothing
pub none-told : (w : World) (pid : ℕ) (es : List Entry) (loose : Bool) → untold_of w pid ≡ []
    → (let l : Left = record { world = w; entries = es; loose = loose } in l ≡ left_by w es loose (telling_all pid w))
none-told w pid es loose none = rw (none, append-nil es) refl

-- what stands first, if something does
pub first-is : (us : List Death) (u : Death) → first (λ _. true) us ≡ Some u → us ≡ u ∷ drop 1 us
first-is [] u is = absurd (cc)
first-is (v ∷ us) u is = let same : v ≡ u = cc in ap (λ (x : Death). x ∷ us) same

pub first-none : (us : List Death) → first (λ _. true) us ≡ None → us ≡ []
first-none [] none = refl
first-none (u ∷ us) none = absurd (cc)
