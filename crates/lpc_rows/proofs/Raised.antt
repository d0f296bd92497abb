-- What is found of events, of their marks, of the ports that are told of exceptions, and of processes that are to end: the
-- tables find what the definitions find.
use Rattle.std.proofs.Common.{◌≡◌, ◌∙◌, ℕ, List, [], ◌∷◌, ◌++◌, Bool, true, false, cond, map, Option, Some, None, option_map, option_to_list, IfNone, IfSome, refl, ap, sym, subst, arith}
use Rattle.std.specs.Prelude.{◌==◌, ◌&&◌, drop, nat_lt, not, is_some, option_and_then, slice_get}
use Rattle.std.proofs.lemmas.Bool.{and_parts, eqb-true}
use Rattle.std.proofs.lemmas.Bool.Decides.{nat_tests}
use Rattle.lpc_base.specs.declared.birth.Birth.{Birth}
use Rattle.lpc_base.specs.Rows.{every, first, has, which}
use Rattle.lpc_base.proofs.Births.{birth-same}
use Rattle.lpc_base.proofs.RowMaps.{every-first, first-map, mapped-twice, which-map}
use Rattle.lpc_base.proofs.RowWords.{count-has, count-none, every-true, has_none-more}
use Rattle.lpc_model.specs.Close.{is_event_on, is_queued_event}
use Rattle.lpc_model.specs.Found as found
use Rattle.lpc_model.specs.Found.{is_event, is_live_thread, is_mark, is_process, is_table, wait_of, waits_as}
use Rattle.lpc_model.specs.Raise.{event_port, event_port_of, raised_in}
use Rattle.lpc_model.specs.Settle as settle
use Rattle.lpc_model.specs.Settle.{doomed_processes, has_event, is_event_of}
use Rattle.lpc_model.specs.World as model
use Rattle.lpc_model.specs.World.{World}
use Rattle.lpc_ports.specs.Table as ports
use Rattle.lpc_procs.specs.Procs as procs
use Rattle.lpc_procs.specs.Procs.{event_ports_of}
use Rattle.lpc_procs.specs.declared.rows.Doomed.{Doomed}
use Rattle.lpc_procs.specs.declared.rows.ProcessRow.{ProcessRow}
use Rattle.lpc_procs.specs.declared.rows.Registration.{Registration}
use Rattle.lpc_slots.specs.Table.{is_key}
use Rattle.lpc_slots.specs.declared.Key.{Key}
use Rattle.lpc_waits.specs.Table as waits
use Rattle.lpc_waits.specs.Table.{WaitingThread, row_of}
use Rattle.lpc_waits.specs.declared.Accepted.{Accepted}
use Rattle.lpc_waits.specs.declared.WaitKind.{WaitKind}
use Rattle.lpc_waits.specs.declared.WaitKind.TheVariants as wait
use Rattle.lpc_rows.specs.Kept.{has_queued, rows_by}
use Rattle.lpc_rows.specs.Lawful as lawful
use Rattle.lpc_rows.specs.Lawful.{AreLawful, has_named_hearers, is_of, is_under_name}
use Rattle.lpc_rows.specs.Names.{name_of, stands}
use Rattle.lpc_rows.specs.Raised.{doomed_as}
use Rattle.lpc_rows.specs.Ready.{waiter}
use Rattle.lpc_rows.specs.Shown.{Births, Tables, all_pass, birth_of, births_of, object_stands, shown_kind, shown_offer, shown_process, shown_raised, shown_thread, shown_wait, wait_refs}
use Rattle.lpc_homes.specs.declared.object.Object.{Object}
use Rattle.lpc_rows.proofs.Connecting.{IsMet, met}
use Rattle.lpc_rows.proofs.Finds.{live_process}
use Rattle.lpc_rows.proofs.Follows as follows
use Rattle.lpc_rows.proofs.Raising as raising
use Rattle.lpc_rows.proofs.Readings as readings
use Rattle.lpc_rows.proofs.Readings.{event_is}

-- what passes is there
pub has-found : {X : Type 0} (p q : X → Bool) (xs : List X) (x : X) → first p xs ≡ Some x → q x ≡ true → has q xs ≡ true
has-found p q [] x at is = absurd (cc)
has-found p q (y ∷ ys) x at is = elim (p y) as (λ b. p y ≡ b → has q (y ∷ ys) ≡ true) [
  | true ↦ λ here. let same : y ≡ x = grind arith in grind (arith, (let P : _ → Type 0 = λ z. q z ≡ true in subst P (sym same) is))
  | false ↦ λ off. let rest = has-found p q ys x (grind arith) is in grind (arith, rest)
] refl

-- A wait that is found for an event that isn't marked
pub met-event : (w : World) (p : model.WaitRow → Bool) (r : Option ℕ) → ((x : model.WaitRow) → p x ≡ true → is_event x ≡ true) → IsMet w p r → IfSome r (λ tid. has_event w tid ≡ true)
met-event w p None events is = tt
met-event w p (Some tid) events is =
    let own : waits_as tid (waiter w tid) ≡ true = rw is.thread (grind (arith, nat_tests)) in
    has-found p (is_event_of tid) w.waits (waiter w tid) is.found (rw (own, events (waiter w tid) is.passes) refl)

pub met-unmarked : (w : World) (p : model.WaitRow → Bool) (r : Option ℕ) → ((x : model.WaitRow) → p x ≡ true → has (is_mark x.thread) w.marks ≡ false) → IsMet w p r → IfSome r (λ tid. has (is_mark tid) w.marks ≡ false)
met-unmarked w p None off is = tt
met-unmarked w p (Some tid) off is = subst (λ n. has (is_mark n) w.marks ≡ false) is.thread (off (waiter w tid) is.passes)

pub event-there : (w : World) (p : model.WaitRow → Bool) → ((x : model.WaitRow) → p x ≡ true → (is_event x && not (has (is_mark x.thread) w.marks)) ≡ true) → (r : Option ℕ) → IsMet w p r → IfSome r (λ tid. has_event w tid ≡ true)
event-there w p tests r is = met-event w p r (λ x h. (and_parts (is_event x) (not (has (is_mark x.thread) w.marks)) (tests x h)).0) is

pub unmarked-there : (w : World) (p : model.WaitRow → Bool) → ((x : model.WaitRow) → p x ≡ true → (is_event x && not (has (is_mark x.thread) w.marks)) ≡ true) → (r : Option ℕ) → IsMet w p r → IfSome r (λ tid. has (is_mark tid) w.marks ≡ false)
unmarked-there w p tests r is = met-unmarked w p r (λ x h. off _ ((and_parts (is_event x) (not (has (is_mark x.thread) w.marks)) (tests x h)).1)) is
  where
    off : (b : Bool) → not b ≡ true → b ≡ false
    off true h = absurd (cc)
    off false h = refl

raised-kind : (kind : WaitKind) (bytes : List ℕ) (offer : Option model.Offer) (accepted : Option Accepted) → (elim (shown_kind kind bytes offer accepted) [ model.Event r ↦ Some r | _ ↦ None ]) ≡ option_map shown_raised (waits.raised_in kind)
raised-kind wait.Request bytes offer accepted = refl
raised-kind wait.Receive bytes offer accepted = refl
raised-kind wait.Listen bytes offer accepted = refl
raised-kind wait.Connect bytes offer None = refl
raised-kind wait.Connect bytes offer (Some accepted) = refl
raised-kind (wait.Event r) bytes offer accepted = refl

-- the least of some processes
least-all : (test : model.ProcessRow → Bool) (ps : List model.ProcessRow) → every test ps ≡ true → (o : Option model.ProcessRow) → settle.least ps ≡ o → IfSome o (λ p. test p ≡ true)
least-all test [] all None at = tt
least-all test [] all (Some p) at = absurd (cc)
least-all test (p ∷ ps) all o at =
    let here : test p ≡ true = grind arith in
    let rest = least-all test ps (grind arith) (settle.least ps) refl in
    subst (λ x. IfSome x (λ q. test q ≡ true)) at (lesser-passes here (settle.least ps) rest)
  where
    lesser-passes : test p ≡ true → (later : Option model.ProcessRow) → IfSome later (λ q. test q ≡ true) → test (settle.lesser p later) ≡ true
    lesser-passes here None rest = here
    lesser-passes here (Some q) rest = elim (nat_lt q.number p.number) as (λ b. test (cond b q p) ≡ true) [ true ↦ rest | false ↦ here ]

lesser-shown : (p : ProcessRow) (o : Option ProcessRow) → settle.lesser (shown_process p) (option_map shown_process o) ≡ shown_process (procs.lesser p o)
lesser-shown p None = refl
lesser-shown p (Some q) = elim (nat_lt q.number p.number) as (λ b. cond b (shown_process q) (shown_process p) ≡ shown_process (cond b q p)) [ true ↦ refl | false ↦ refl ]

least-shown : (ps : List ProcessRow) → settle.least (map shown_process ps) ≡ option_map shown_process (procs.least ps)
least-shown [] = refl
least-shown (p ∷ ps) = ap (λ o. Some (settle.lesser (shown_process p) o)) (least-shown ps) ∙ ap Some (lesser-shown p (procs.least ps))

doom-shown : (o : Option ProcessRow) → option_map doomed_as (option_map shown_process o) ≡ option_map procs.doomed_as o
doom-shown None = refl
doom-shown (Some p) = by p.doom
  where
    by : (code : Option ℕ) → Some (doomed_as (shown_process (record p { doom = code }))) ≡ Some (procs.doomed_as (record p { doom = code }))
    by None = refl
    by (Some c) = refl

every-chosen : {X : Type 0} (p : X → Bool) (xs : List X) → every p (which p xs) ≡ true
every-chosen p [] = refl
every-chosen p (x ∷ xs) = grind (arith, every-chosen p xs)

module _ (it : Tables) (calls made : ℕ) (is : AreLawful it calls made) where
  abbrev n : Births
  n = births_of it

  abbrev f : Object → Birth
  f = birth_of n

  abbrev rows : World
  rows = rows_by it

  -- Events on a port, and in a queue
  unmarked-same : (row : WaitingThread) → (is_event (shown_wait f row) && not (has (is_mark row.thread) it.marks.rows)) ≡ waits.is_unmarked_event it.marks.rows row
  unmarked-same row = ap (λ b. b && not (has (is_mark row.thread) it.marks.rows)) (event_is row.wait.kind row.message.items (option_map (shown_offer f) row.offer) row.accepted)

  on-same : (key : Key) → stands n.ports key ≡ true → (row : WaitingThread) → all_pass wait_refs (object_stands n) row ≡ true → is_event_on (name_of n.ports key) rows (shown_wait f row) ≡ waits.is_event_on it.marks.rows key row
  on-same key there row ok = rw (follows.agree it is.named row.wait.port key (grind arith) there) (ap (λ b. b && is_key row.wait.port key) (unmarked-same row))

  in-same : (key : Key) → stands n.ports key ≡ true → (row : WaitingThread) → all_pass wait_refs (object_stands n) row ≡ true → is_queued_event (name_of n.ports key) rows (shown_wait f row) ≡ waits.is_unreceived_event_in it.marks.rows key row
  in-same key there row ok = rw (follows.agree it is.named row.wait.queue key (grind arith) there) (ap (λ b. b && (is_key row.wait.queue key && not row.wait.received)) (unmarked-same row))

  found-by : (p : model.WaitRow → Bool) (q : WaitingThread → Bool) → ((row : WaitingThread) → all_pass wait_refs (object_stands n) row ≡ true → p (shown_wait f row) ≡ q row) → (r : Option ℕ) → r ≡ waits.first_thread q it.waits → IsMet rows p r
  found-by p q same r at =
      met rows p r is.lawful.single (at ∙ sym (ap (λ o. option_map (λ (x : model.WaitRow). x.thread) o) (first-map (shown_wait f) (all_pass wait_refs (object_stands n)) q p same it.waits.rows is.named.refs.in_waits)
      ∙ mapped-twice (shown_wait f) (λ (x : model.WaitRow). x.thread) (first q it.waits.rows)))

  pub event-on : (key : Key) → stands n.ports key ≡ true → (r : Option ℕ) → r ≡ waits.first_thread (waits.is_event_on it.marks.rows key) it.waits → IsMet rows (is_event_on (name_of n.ports key) rows) r
  event-on key there r at = found-by (is_event_on (name_of n.ports key) rows) (waits.is_event_on it.marks.rows key) (on-same key there) r at

  pub event-in : (key : Key) → stands n.ports key ≡ true → (r : Option ℕ) → r ≡ waits.first_thread (waits.is_unreceived_event_in it.marks.rows key) it.waits → IsMet rows (is_queued_event (name_of n.ports key) rows) r
  event-in key there r at = found-by (is_queued_event (name_of n.ports key) rows) (waits.is_unreceived_event_in it.marks.rows key) (in-same key there) r at

  pub on-event : (b : Birth) (x : model.WaitRow) → is_event_on b rows x ≡ true → (is_event x && not (has (is_mark x.thread) rows.marks)) ≡ true
  on-event b x h = (and_parts (is_event x && not (has (is_mark x.thread) rows.marks)) _ h).0

  pub in-event : (b : Birth) (x : model.WaitRow) → is_queued_event b rows x ≡ true → (is_event x && not (has (is_mark x.thread) rows.marks)) ≡ true
  in-event b x h = (and_parts (is_event x && not (has (is_mark x.thread) rows.marks)) _ h).0

  -- the exception of a thread's event
  raised-of : (o : Option WaitingThread) → option_and_then raised_in (option_map (shown_wait f) o) ≡ option_map shown_raised (option_and_then (λ row. waits.raised_in row.wait.kind) o)
  raised-of None = refl
  raised-of (Some row) = raised-kind row.wait.kind row.message.items (option_map (shown_offer f) row.offer) row.accepted

  pub raised-is : (tid : ℕ) → option_and_then raised_in (wait_of rows tid) ≡ option_map shown_raised (waits.raised_by it.waits tid)
  raised-is tid = ap (option_and_then raised_in) (readings.first-shown (shown_wait f) (waits.is_of tid) (waits_as tid) (λ r. refl) it.waits.rows) ∙ raised-of (row_of it.waits tid)

  -- Marks: what is marked waits for what is made of an event, and lives
  marked-event : (tid : ℕ) → has (is_mark tid) it.marks.rows ≡ true → has_event rows tid ≡ true
  marked-event tid there = raising.events-same it calls made is tid ∙ some (has (lawful.is_event_of tid) it.waits.rows) refl
    where
      some : (b : Bool) → has (lawful.is_event_of tid) it.waits.rows ≡ b → has (lawful.is_event_of tid) it.waits.rows ≡ true
      some true at = at
      some false at =
          let none = count-none (lawful.is_event_of tid) it.waits.rows at in
          let marked = is.marked.marked tid in
          let one = count-has (is_mark tid) it.marks.rows there in
          absurd (omega (arith, none, marked, one))

  event-waits : (tid : ℕ) → has_event rows tid ≡ true → has (waits_as tid) rows.waits ≡ true
  event-waits tid there = some (has (waits_as tid) rows.waits) refl
    where
      some : (b : Bool) → has (waits_as tid) rows.waits ≡ b → has (waits_as tid) rows.waits ≡ true
      some true at = at
      some false at = let none = has_none-more (waits_as tid) (is_event_of tid) (λ y off. grind arith) rows.waits at in absurd (cc)

  wait-lives : (tid : ℕ) (xs : List model.WaitRow) → every (is_of rows.threads) xs ≡ true → has (waits_as tid) xs ≡ true → has (is_live_thread tid) rows.threads ≡ true
  wait-lives tid [] all there = absurd (cc)
  wait-lives tid (x ∷ xs) all there = elim (x.thread == tid) as (λ b. (x.thread == tid) ≡ b → has (is_live_thread tid) rows.threads ≡ true) [
    | true ↦ λ here. subst (λ k. has (is_live_thread k) rows.threads ≡ true) (eqb-true x.thread tid here) (grind arith)
    | false ↦ λ off. wait-lives tid xs (grind arith) (grind arith)
  ] refl

  -- and has no message of its own in a queue
  has-passes : (p : ℕ → Bool) (tid : ℕ) (ms : List ℕ) → every p ms ≡ true → has (is_mark tid) ms ≡ true → p tid ≡ true
  has-passes p tid [] all there = absurd (cc)
  has-passes p tid (m ∷ ms) all there = elim (m == tid) as (λ b. (m == tid) ≡ b → p tid ≡ true) [
    | true ↦ λ here. subst (λ k. p k ≡ true) (eqb-true m tid here) (grind arith)
    | false ↦ λ off. has-passes p tid ms (grind arith) (grind arith)
  ] refl

  marked-left : (tid : ℕ) → has (is_mark tid) it.marks.rows ≡ true → has_queued rows tid ≡ false
  marked-left tid there = raising.queued-same it calls made is tid ∙ off (has (ports.is_own_of tid) it.ports.messages) (has-passes (λ k. not (has (ports.is_own_of k) it.ports.messages)) tid it.marks.rows is.marked.left there)
    where
      off : (b : Bool) → not b ≡ true → b ≡ false
      off true h = absurd (cc)
      off false h = refl

  pub record IsMarkedFirst (r : Option ℕ) : Type 0 where
    pub none : IfNone r (rows.marks ≡ [])
    pub first : IfSome r (λ tid. rows.marks ≡ tid ∷ drop 1 rows.marks)
    pub event : IfSome r (λ tid. has_event rows tid ≡ true)
    pub waits : IfSome r (λ tid. has (waits_as tid) rows.waits ≡ true)
    pub live : IfSome r (λ tid. has (is_live_thread tid) rows.threads ≡ true)
    pub left : IfSome r (λ tid. has_queued rows tid ≡ false)

  pub first-marked : (r : Option ℕ) → r ≡ slice_get it.marks.rows 0 → IsMarkedFirst r
  first-marked r at = subst IsMarkedFirst (sym at) (by it.marks.rows refl)
    where
      by : (ms : List ℕ) → it.marks.rows ≡ ms → IsMarkedFirst (slice_get it.marks.rows 0)
      by [] same = subst IsMarkedFirst (sym (ap (λ (xs : List ℕ). slice_get xs 0) same)) (record { none = same; first = tt; event = tt; waits = tt; live = tt; left = tt })
      by (tid ∷ later) same =
          let own : has (is_mark tid) (tid ∷ later) ≡ true = grind (arith, nat_tests) in
          let there : has (is_mark tid) it.marks.rows ≡ true = ap (has (is_mark tid)) same ∙ own in
          let event = marked-event tid there in
          let waits = event-waits tid event in
          let live = wait-lives tid rows.waits is.lawful.threads waits in
          let left = marked-left tid there in
          let head : slice_get it.marks.rows 0 ≡ Some tid = ap (λ (xs : List ℕ). slice_get xs 0) same in
          subst IsMarkedFirst (sym head) (record { none = tt; first = same ∙ ap (λ (xs : List ℕ). tid ∷ drop 1 xs) (sym same); event = event; waits = waits; live = live; left = left })

  -- The ports that are told of a process's exceptions
  hearer-of : (g : ProcessRow → Option Registration) (e : model.ProcessRow → Option Birth) → ((p : ProcessRow) → e (shown_process p) ≡ option_map (λ (r : Registration). r.birth) (g p)) → (o : Option ProcessRow) (r : Option Registration) → option_map g o ≡ Some r
      → option_and_then e (option_map shown_process o) ≡ option_map (λ (r : Registration). r.birth) r
  hearer-of g e same None r at = absurd (cc)
  hearer-of g e same (Some p) r at = let own : g p ≡ r = grind arith in same p ∙ ap (option_map (λ (x : Registration). x.birth)) own

  under-of : (g : ProcessRow → Option Registration) → ((p : ProcessRow) (r : Registration) → g p ≡ Some r → has_named_hearers n p ≡ true → is_under_name n r ≡ true) → (pid : ℕ) (o : Option ProcessRow) → procs.process_at it.procs pid ≡ o → (r : Registration) → option_map g o ≡ Some (Some r) → is_under_name n r ≡ true
  under-of g own pid None found r at = absurd (cc)
  under-of g own pid (Some p) found r at = own p r (grind arith) (every-first (has_named_hearers n) (procs.is_process pid) it.procs.processes p is.heard found)

  -- what is found of them: the port under its name, and it stands
  pub record IsHearer (pid : ℕ) (k : model.Chance) (r : Option Registration) : Type 0 where
    pub port : option_map (name_of n.ports) (option_map (λ (x : Registration). x.port) r) ≡ event_port_of rows pid k
    pub there : IfSome (option_map (λ (x : Registration). x.port) r) (λ key. stands n.ports key ≡ true)

  hearer : (g : ProcessRow → Option Registration) (k : model.Chance) → ((p : ProcessRow) → event_port k (shown_process p) ≡ option_map (λ (r : Registration). r.birth) (g p)) → ((p : ProcessRow) (r : Registration) → g p ≡ Some r → has_named_hearers n p ≡ true → is_under_name n r ≡ true)
      → (pid : ℕ) (r : Option Registration) → option_map g (procs.process_at it.procs pid) ≡ Some r → IsHearer pid k r
  hearer g k same own pid r at =
      let here = ap (option_and_then (event_port k)) (readings.first-shown shown_process (procs.is_process pid) (is_process pid) (λ p. refl) it.procs.processes) ∙ hearer-of g (event_port k) same (procs.process_at it.procs pid) r at in
      by r at here
    where
      by : (r : Option Registration) → option_map g (procs.process_at it.procs pid) ≡ Some r → event_port_of rows pid k ≡ option_map (λ (x : Registration). x.birth) r → IsHearer pid k r
      by None at here = record { port = sym here; there = tt }
      by (Some x) at here =
          let under = and_parts (stands n.ports x.port) _ (under-of g own pid (procs.process_at it.procs pid) refl x at) in
          record { port = ap Some (birth-same (name_of n.ports x.port) x.birth under.1) ∙ sym here; there = under.0 }

  debug-own : (p : ProcessRow) (r : Registration) → p.debug_port ≡ Some r → has_named_hearers n p ≡ true → is_under_name n r ≡ true
  debug-own p r at all = by p.debug_port at all
    where
      by : (d : Option Registration) → d ≡ Some r → every (is_under_name n) (option_to_list d ++ option_to_list p.exception_port) ≡ true → is_under_name n r ≡ true
      by None at all = absurd (cc)
      by (Some a) at all = let same : a ≡ r = grind arith in subst (λ (x : Registration). is_under_name n x ≡ true) same (grind arith)

  exception-own : (p : ProcessRow) (r : Registration) → p.exception_port ≡ Some r → has_named_hearers n p ≡ true → is_under_name n r ≡ true
  exception-own p r at all = by p.debug_port p.exception_port at all
    where
      by : (d e : Option Registration) → e ≡ Some r → every (is_under_name n) (option_to_list d ++ option_to_list e) ≡ true → is_under_name n r ≡ true
      by d None at all = absurd (cc)
      by None (Some a) at all = let same : a ≡ r = grind arith in subst (λ (x : Registration). is_under_name n x ≡ true) same (grind arith)
      by (Some b) (Some a) at all = let same : a ≡ r = grind arith in subst (λ (x : Registration). is_under_name n x ≡ true) same (grind arith)

  pub first-hearer : (pid : ℕ) (r : Option Registration) → option_map (λ (p : ProcessRow). p.debug_port) (procs.process_at it.procs pid) ≡ Some r → IsHearer pid model.FirstDebug r
  first-hearer pid r at = hearer (λ p. p.debug_port) model.FirstDebug (λ p. refl) debug-own pid r at

  pub later-hearer : (pid : ℕ) (r : Option Registration) → option_map (λ (p : ProcessRow). p.debug_port) (procs.process_at it.procs pid) ≡ Some r → IsHearer pid model.LastDebug r
  later-hearer pid r at = hearer (λ p. p.debug_port) model.LastDebug (λ p. refl) debug-own pid r at

  pub last-hearer : (pid : ℕ) (r : Option Registration) → option_map (λ (p : ProcessRow). p.exception_port) (procs.process_at it.procs pid) ≡ Some r → IsHearer pid model.LastException r
  last-hearer pid r at = hearer (λ p. p.exception_port) model.LastException (λ p. refl) exception-own pid r at

  -- Processes that are to end
  doomed-same : (p : ProcessRow) → settle.is_doomed rows (shown_process p) ≡ procs.is_doomed it.procs.threads p
  doomed-same p = ap (λ b. is_some p.doom && b) (readings.has-shown shown_thread (procs.lives_in p.number) (found.lives_in p.number) (λ t. refl) it.procs.threads)

  doomed-shown : doomed_processes rows ≡ map shown_process (which (procs.is_doomed it.procs.threads) it.procs.processes)
  doomed-shown = sym (which-map shown_process (λ _. true) (procs.is_doomed it.procs.threads) (settle.is_doomed rows) (λ p _. doomed-same p) it.procs.processes (every-true it.procs.processes))

  pub least-is : procs.least_doomed it.procs ≡ option_map doomed_as (settle.least (doomed_processes rows))
  least-is = sym (ap (λ ps. option_map doomed_as (settle.least ps)) doomed-shown
      ∙ ap (option_map doomed_as) (least-shown (which (procs.is_doomed it.procs.threads) it.procs.processes))
      ∙ doom-shown (procs.least (which (procs.is_doomed it.procs.threads) it.procs.processes)))

  pub least-stands : (r : Option Doomed) → r ≡ procs.least_doomed it.procs → IfSome r (λ p. has (is_process p.number) rows.processes ≡ true)
  least-stands r at =
      subst (λ (x : Option Doomed). IfSome x (λ p. has (is_process p.number) rows.processes ≡ true)) (sym (at ∙ least-is))
      (by (settle.least (doomed_processes rows)) (least-all (settle.is_doomed rows) (doomed_processes rows) (every-chosen (settle.is_doomed rows) rows.processes) (settle.least (doomed_processes rows)) refl))
    where
      by : (o : Option model.ProcessRow) → IfSome o (λ p. settle.is_doomed rows p ≡ true) → IfSome (option_map doomed_as o) (λ p. has (is_process p.number) rows.processes ≡ true)
      by None all = tt
      by (Some p) all = (live_process rows p.number is.lawful.housed (and_parts (is_some p.doom) (found.is_live rows p.number) all).1).0

  pub least-housed : (r : Option Doomed) → r ≡ procs.least_doomed it.procs → IfSome r (λ p. has (is_table p.number) rows.handles ≡ true)
  least-housed r at =
      subst (λ (x : Option Doomed). IfSome x (λ p. has (is_table p.number) rows.handles ≡ true)) (sym (at ∙ least-is))
      (by (settle.least (doomed_processes rows)) (least-all (settle.is_doomed rows) (doomed_processes rows) (every-chosen (settle.is_doomed rows) rows.processes) (settle.least (doomed_processes rows)) refl))
    where
      by : (o : Option model.ProcessRow) → IfSome o (λ p. settle.is_doomed rows p ≡ true) → IfSome (option_map doomed_as o) (λ p. has (is_table p.number) rows.handles ≡ true)
      by None all = tt
      by (Some p) all = (live_process rows p.number is.lawful.housed (and_parts (is_some p.doom) (found.is_live rows p.number) all).1).1
