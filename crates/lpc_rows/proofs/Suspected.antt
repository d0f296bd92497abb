-- The ports that no row counts for are suspected, behind each change as before it.
use Rattle.std.proofs.Common.{Bool, List, [], ap, arith, cond, false, not, refl, true, ℕ, ◌++◌, ◌∷◌, ◌≡◌, ◌≤◌, subst, sym, ◌∙◌, Option, Some, None}
use Rattle.std.specs.Prelude.{◌&&◌, ◌||◌, nat_lt, length, map, option_map, unwrap_or}
use Rattle.std.proofs.lemmas.Bool.{eqb-true}
use Rattle.lpc_base.specs.Rows.{change, count, differ_by, every, first, has, passes, without, without_first}
use Rattle.lpc_base.proofs.Births.{birth-same, birth-turned, births-apart}
use Rattle.lpc_base.proofs.Bools.{first-true, second-true}
use Rattle.lpc_base.proofs.Differ.{own-rows, rest-differ, rest-none}
use Rattle.lpc_base.proofs.RowWords.{every-more, first-passes, has-change, has-push, has-kept, without-none}
use Rattle.lpc_model.specs.World.{Birth, HandleRow, HandleTable, MessageRow, ObjectName, PortRow, ProcessRow, ThreadRow, WaitRow, World}
use Rattle.lpc_model.specs.Found.{free_handle, handle_at, has_value, is_connected_to, is_life, is_made_on, is_mark, is_paired_to, is_port, is_table, is_the, port_name, section_name, token_name, registered_by, rows_in, same_birth, same_object, waits_as}
use Rattle.lpc_model.specs.Basics.{AddsHandle, AddsProcess, AddsThread, Basic, Cuts, DropsHandle, DropsOwned, Frees, Joins, Makes, basic, cut, is_end_of, joined, left_by}
use Rattle.lpc_model.specs.Sweep.{is_unheld}
use Rattle.lpc_model.specs.Tests.{handle_row}
use Rattle.lpc_model.proofs.Steps.Registrations.{dead-each}
use Rattle.lpc_model.proofs.Steps.Rows.{count-change, has-less, has-more, lone}
use Rattle.lpc_slots.specs.declared.Key.{Key}
use Rattle.lpc_slots.specs.Table.{is_key}
use Rattle.lpc_slots.proofs.Keys.{key_is}
use Rattle.lpc_rows.specs.Names.{KeepsNames, KeepsOthers, Names, name_of, some_stands, stands}
use Rattle.lpc_rows.specs.Suspects.{AreSuspected, NamesPort, SUSPECT_LIMIT, SuspectTable, is_at, suspecting, suspecting_some}
use Rattle.lpc_rows.proofs.Claims.{KeepsClaims, alike, changed-keeps, closed-keeps, freed-keeps, handle-keeps, joined-keeps, owned-keeps, keeps_claims, left-keeps, made-keeps, plain, ports-keep, process-keeps, step-keeps, step-ports, still-unheld, taken-keeps, thread-keeps, threads-keep, waits-keep}

-- no port is made
abbrev pub NoNewPort : World → World → Type 0
NoNewPort w v = (b : Birth) → has (is_port b) v.ports ≡ true → has (is_port b) w.ports ≡ true

-- any port is suspected
pub any : (w : World) (n : Names) (s : SuspectTable) → s.any ≡ true → AreSuspected w n s
any w n s is = λ calm. absurd (grind arith)

-- nothing goes that counts for a port
pub stays : (w v : World) (n : Names) (s : SuspectTable) → NoNewPort w v → ((b : Birth) → KeepsClaims w v b) → AreSuspected w n s → AreSuspected v n s
stays w v n s ports keeps old = λ calm b there none. old calm b (ports b there) (still-unheld w v b (keeps b) none)

pub step-stays : (w : World) (b : Basic) (n : Names) (s : SuspectTable) → keeps_claims b ≡ true → AreSuspected w n s → AreSuspected (basic w b) n s
step-stays w b n s is old = stays w (basic w b) n s (step-ports w b is) (step-keeps w b is) old

-- what goes counted for a port that is suspected from then on
pub adds : (w v : World) (n : Names) (s : SuspectTable) (key : Key) → stands n key ≡ true → NoNewPort w v → ((b : Birth) → same_birth (name_of n key) b ≡ false → KeepsClaims w v b) → AreSuspected w n s → AreSuspected v n (suspecting key s)
adds w v n s key stood ports keeps old = at (nat_lt (length s.keys) SUSPECT_LIMIT) refl
  where
    at : (c : Bool) → nat_lt (length s.keys) SUSPECT_LIMIT ≡ c → AreSuspected v n (cond c (record s { keys = s.keys ++ key ∷ [] }) (record s { any = true }))
    at true room = λ calm b there none. own b there none calm (same_birth (name_of n key) b) refl
      where
        own : (b : Birth) → has (is_port b) v.ports ≡ true → is_unheld v (port_name b) ≡ true → s.any ≡ false → (c : Bool) → same_birth (name_of n key) b ≡ c → has (is_at n b) (s.keys ++ key ∷ []) ≡ true
        own b there none calm true is = has-push (is_at n b) s.keys key (rw (stood, is) refl)
        own b there none calm false off = has-kept (is_at n b) s.keys key (old calm b (ports b there) (still-unheld w v b (keeps b off) none))
    at false full = λ calm. absurd (grind arith)

-- where the keys of ports change, but what stood stands
pub renamed : (w : World) (n m : Names) (s : SuspectTable) → KeepsNames n m → AreSuspected w n s → AreSuspected w m s
renamed w n m s kept old = λ calm b there none. still b s.keys (old calm b there none)
  where
    one : (b : Birth) (k : Key) → is_at n b k ≡ true → is_at m b k ≡ true
    one b k is = at (stands n k) refl is
      where
        at : (c : Bool) → stands n k ≡ c → (c && same_birth (name_of n k) b) ≡ true → is_at m b k ≡ true
        at true stood same = let name = kept.name k stood in let there = kept.there k stood in rw (there, name) same
        at false off same = absurd (grind arith)

    still : (b : Birth) (keys : List Key) → has (is_at n b) keys ≡ true → has (is_at m b) keys ≡ true
    still b keys is = has-more (is_at n b) (is_at m b) (one b) keys is

-- where a port goes, and the others that stood stand
pub without_one : (w : World) (n m : Names) (s : SuspectTable) (gone : Key) → KeepsOthers gone n m → has (is_port (name_of n gone)) w.ports ≡ false → AreSuspected w n s → AreSuspected w m s
without_one w n m s gone kept left old = λ calm b there none. has-more (is_at n b) (is_at m b) (one b there) s.keys (old calm b there none)
  where
    other : (b : Birth) → has (is_port b) w.ports ≡ true → (k : Key) → is_key k gone ≡ true → same_birth (name_of n k) b ≡ true → ⊥
    other b there k is name =
        let keys : k ≡ gone = key_is k gone is in
        let births : name_of n gone ≡ b = ap (name_of n) (sym keys) ∙ birth-same _ _ name in
        absurd (grind (arith, births, left, there))

    one : (b : Birth) → has (is_port b) w.ports ≡ true → (k : Key) → is_at n b k ≡ true → is_at m b k ≡ true
    one b there k is = at (stands n k) (is_key k gone) refl refl is
      where
        at : (c d : Bool) → stands n k ≡ c → is_key k gone ≡ d → (c && same_birth (name_of n k) b) ≡ true → is_at m b k ≡ true
        at true false stood away same = let name = kept.name k away stood in let there = kept.there k away stood in rw (there, name) same
        at true true stood gone same = absurd (other b there k gone same)
        at false d off away same = absurd (grind arith)

-- Changes that take nothing away which counts for a port
module _ (w : World) (n : Names) (s : SuspectTable) (old : AreSuspected w n s) where
  pub same-to : (v : World) → v ≡ w → AreSuspected v n s
  same-to v is = subst (λ (u : World). AreSuspected u n s) (sym is) old

  pub step-to : (v : World) (b : Basic) → v ≡ basic w b → keeps_claims b ≡ true → AreSuspected v n s
  step-to v b is keeps = subst (λ (u : World). AreSuspected u n s) (sym is) (step-stays w b n s keeps old)

  pub process-to : (v : World) (p : ProcessRow) → v ≡ basic w (AddsProcess p) → AreSuspected v n s
  process-to v p is = subst (λ (u : World). AreSuspected u n s) (sym is) (stays w (basic w (AddsProcess p)) n s (λ b there. there) (process-keeps w p) old)

  pub thread-to : (v : World) (t : ThreadRow) → v ≡ basic w (AddsThread t) → registered_by t ≡ [] → AreSuspected v n s
  thread-to v t is none = subst (λ (u : World). AreSuspected u n s) (sym is) (stays w (basic w (AddsThread t)) n s (λ b there. there) (thread-keeps w t none) old)

  pub handle-to : (v : World) (pid : ℕ) (object : ObjectName) (access : ℕ) → count (is_table pid) w.handles ≤ 1 → v ≡ basic w (AddsHandle pid (handle_row (free_handle w pid) object access)) → AreSuspected v n s
  handle-to v pid object access one is = subst (λ (u : World). AreSuspected u n s) (sym is) (stays w (basic w (AddsHandle pid (handle_row (free_handle w pid) object access))) n s (λ b there. there) (handle-keeps w pid object access one) old)

  -- waits that change, but not the ports on which they were made
  pub waits-to : (v : World) (test : WaitRow → Bool) (f : WaitRow → WaitRow) → ((x : WaitRow) → (f x).port ≡ x.port) → v ≡ record w { waits = change test f w.waits } → AreSuspected v n s
  waits-to v test f ports is =
      subst (λ (u : World). AreSuspected u n s) (sym is)
      (stays w (record w { waits = change test f w.waits }) n s (λ b there. there) (λ b. waits-keep w b (change test f w.waits) w.marks (alike _ _ (count-change (is_made_on b) test f (λ x. ap (λ c. same_birth c b) (ports x)) w.waits))) old)

  -- ports that change, but not their births, their other ends and their connection ports
  pub ports-to : (v : World) (test : PortRow → Bool) (f : PortRow → PortRow) → ((p : PortRow) → (f p).birth ≡ p.birth) → ((p : PortRow) → (f p).pair ≡ p.pair) → ((p : PortRow) → (f p).connection ≡ p.connection) → v ≡ record w { ports = change test f w.ports } → AreSuspected v n s
  ports-to v test f births pairs connections is =
      subst (λ (u : World). AreSuspected u n s) (sym is)
      (stays w (record w { ports = change test f w.ports }) n s (λ b there. sym (has-change (is_port b) test f (λ p. ap (λ c. same_birth c b) (births p)) w.ports) ∙ there)
      (λ b. ports-keep w b (change test f w.ports) (alike _ _ (count-change (is_paired_to b) test f (λ p. ap (is_the b) (pairs p)) w.ports)) (alike _ _ (count-change (is_connected_to b) test f (λ p. ap (is_the b) (connections p)) w.ports))) old)

  -- a thread that has ended counts for no port
  pub thread-gone-to : (v : World) (b : Birth) → v ≡ record w { threads = without (λ (t : ThreadRow). same_birth t.birth b) w.threads } → every (λ (t : ThreadRow). not (is_life b t)) w.threads ≡ true → AreSuspected v n s
  thread-gone-to v b is dead =
      subst (λ (u : World). AreSuspected u n s) (sym is)
      (stays w (record w { threads = without (λ (t : ThreadRow). same_birth t.birth b) w.threads }) n s (λ c there. there) (λ c. threads-keep w c (without (λ (t : ThreadRow). same_birth t.birth b) w.threads) (alike _ _ (ap (count (same_birth c)) (dead-each b w.threads dead)))) old)

  -- the oldest message of some is taken, and the port on which it was sent is suspected
  pub taken-to : (v : World) (test : MessageRow → Bool) (m : MessageRow) (key : Key) → first test w.messages ≡ Some m → m.sender ≡ name_of n key → stands n key ≡ true → v ≡ record w { messages = without_first test w.messages } → AreSuspected v n (suspecting key s)
  taken-to v test m key found sender stood is =
      subst (λ (u : World). AreSuspected u n (suspecting key s)) (sym is)
      (adds w (record w { messages = without_first test w.messages }) n s key stood (λ b there. there)
      (λ b off. taken-keeps w test b (λ x at. let same : m ≡ x = ap (λ (o : Option MessageRow). unwrap_or o m) (sym found ∙ at) in ap (λ (y : MessageRow). same_birth y.sender b) (sym same) ∙ (ap (λ c. same_birth c b) sender ∙ off))) old)

  -- the wait of a thread ends, and the port on which it was made is suspected
  pub left-to : (v : World) (who : ℕ) (x : WaitRow) (key : Key) → differ_by (λ (y : WaitRow). y.thread) w.waits ≡ true → first (waits_as who) w.waits ≡ Some x → x.port ≡ name_of n key → stands n key ≡ true → v ≡ left_by who w → AreSuspected v n (suspecting key s)
  left-to v who x key single found port stood is =
      subst (λ (u : World). AreSuspected u n (suspecting key s)) (sym is)
      (adds w (left_by who w) n s key stood (λ b there. there)
      (λ b off. left-keeps w who (without (is_mark who) w.marks) b (apart b off)) old)
    where
      away : (b : Birth) → (c d : Bool) → (not c || not d) ≡ true → (c && d) ≡ false
      away b true d is = grind arith
      away b false d is = refl

      none : (b : Birth) (xs : List WaitRow) → every (λ (y : WaitRow). not (waits_as who y) || not (is_made_on b y)) xs ≡ true → has (λ (y : WaitRow). waits_as who y && is_made_on b y) xs ≡ false
      none b [] all = refl
      none b (y ∷ ys) all = let rest = none b ys (second-true _ _ all) in let here = away b (waits_as who y) (is_made_on b y) (first-true _ _ all) in rw (here, rest) refl

      apart : (b : Birth) → same_birth (name_of n key) b ≡ false → has (λ (y : WaitRow). waits_as who y && is_made_on b y) w.waits ≡ false
      apart b off = none b w.waits (own-rows (λ (y : WaitRow). y.thread) (λ (y : WaitRow). not (is_made_on b y)) who w.waits x single found (rw (port, off) refl))

  pub left-none-to : (v : World) (who : ℕ) → has (waits_as who) w.waits ≡ false → v ≡ left_by who w → AreSuspected v n s
  left-none-to v who none is =
      subst (λ (u : World). AreSuspected u n s) (sym is)
      (stays w (left_by who w) n s (λ b there. there) (λ b. waits-keep w b (without (waits_as who) w.waits) (without (is_mark who) w.marks) (alike _ _ (ap (count (is_made_on b)) (without-none (waits_as who) w.waits none)))) old)

-- Changes behind which one port more is suspected, or two
-- the port at an optional key has the birth
abbrev pub covers : Names → Option Key → Birth → Bool
covers n None b = false
covers n (Some key) b = same_birth (name_of n key) b

-- as far as a port isn't one of some
abbrev pub AreBut : World → Names → SuspectTable → (Birth → Bool) → Type 0
AreBut v n s x = s.any ≡ false → (b : Birth) → has (is_port b) v.ports ≡ true → is_unheld v (port_name b) ≡ true → x b ≡ false → has (is_at n b) s.keys ≡ true

pub but-all : (v : World) (n : Names) (s : SuspectTable) → AreBut v n s (λ b. false) → AreSuspected v n s
but-all v n s old = λ calm b there none. old calm b there none refl

pub but-lost : (w v : World) (n : Names) (s : SuspectTable) (x : Birth → Bool) → NoNewPort w v → ((b : Birth) → x b ≡ false → KeepsClaims w v b) → AreSuspected w n s → AreBut v n s x
but-lost w v n s x ports keeps old = λ calm b there none off. old calm b (ports b there) (still-unheld w v b (keeps b off) none)

pub but-adds : (v : World) (n : Names) (s : SuspectTable) (key : Key) (x : Birth → Bool) → stands n key ≡ true → AreBut v n s (λ b. same_birth (name_of n key) b || x b) → AreBut v n (suspecting key s) x
but-adds v n s key x stood old = at (nat_lt (length s.keys) SUSPECT_LIMIT) refl
  where
    at : (c : Bool) → nat_lt (length s.keys) SUSPECT_LIMIT ≡ c → AreBut v n (cond c (record s { keys = s.keys ++ key ∷ [] }) (record s { any = true })) x
    at true room = λ calm b there none off. own b there none calm off (same_birth (name_of n key) b) refl
      where
        own : (b : Birth) → has (is_port b) v.ports ≡ true → is_unheld v (port_name b) ≡ true → s.any ≡ false → x b ≡ false → (c : Bool) → same_birth (name_of n key) b ≡ c → has (is_at n b) (s.keys ++ key ∷ []) ≡ true
        own b there none calm off true is = has-push (is_at n b) s.keys key (rw (stood, is) refl)
        own b there none calm off false away = has-kept (is_at n b) s.keys key (old calm b there none (rw (away, off) refl))
    at false full = λ calm. absurd (grind arith)

pub but-some : (v : World) (n : Names) (s : SuspectTable) (o : Option Key) (x : Birth → Bool) → some_stands n o ≡ true → AreBut v n s (λ b. covers n o b || x b) → AreBut v n (suspecting_some o s) x
but-some v n s None x stood old = old
but-some v n s (Some key) x stood old = but-adds v n s key x stood old

pub adds-two : (w v : World) (n : Names) (s : SuspectTable) (one two : Option Key) → some_stands n one ≡ true → some_stands n two ≡ true → NoNewPort w v
    → ((b : Birth) → covers n one b ≡ false → covers n two b ≡ false → KeepsClaims w v b) → AreSuspected w n s → AreSuspected v n (suspecting_some two (suspecting_some one s))
adds-two w v n s one two first second ports keeps old =
    but-all v n (suspecting_some two (suspecting_some one s))
    (but-some v n (suspecting_some one s) two (λ b. false) second
    (but-some v n s one (λ b. covers n two b || false) first
    (but-lost w v n s (λ b. covers n one b || (covers n two b || false)) ports (λ b off. keeps b (front _ _ off) (back _ _ off)) old)))
  where
    front : (a c : Bool) → (a || (c || false)) ≡ false → a ≡ false
    front a c off = grind arith

    back : (a c : Bool) → (a || (c || false)) ≡ false → c ≡ false
    back a c off = grind arith

-- a row that passes and isn't the last
has-before : {X : Type 0} (p : X → Bool) (xs : List X) (y : X) → has p (xs ++ y ∷ []) ≡ true → p y ≡ false → has p xs ≡ true
has-before p [] y there off = absurd (grind (arith, there, off))
has-before p (x ∷ xs) y there off = grind (arith, has-before p xs y)

-- no row passes two tests, where each that passes one fails the other
pub none-both : {X : Type 0} (p q : X → Bool) (xs : List X) → every (λ x. not (p x) || not (q x)) xs ≡ true → has (λ x. p x && q x) xs ≡ false
none-both p q [] all = refl
none-both p q (x ∷ xs) all = let rest = none-both p q xs (second-true _ _ all) in let here = away (p x) (q x) (first-true _ _ all) in rw (here, rest) refl
  where
    away : (c d : Bool) → (not c || not d) ≡ true → (c && d) ≡ false
    away true d is = grind arith
    away false d is = refl

the-covered : (n : Names) (o : Option Key) (b : Birth) → is_the b (option_map (name_of n) o) ≡ covers n o b
the-covered n None b = refl
the-covered n (Some key) b = birth-turned b (name_of n key)

-- the handle of a value in the one table of a process doesn't pass
none-table : (pid value : ℕ) (p : HandleRow → Bool) (ts : List HandleTable) → has (is_table pid) ts ≡ false → every (λ (t : HandleTable). not (is_table pid t && passes (first (has_value value) t.rows) p)) ts ≡ true
none-table pid value p [] off = refl
none-table pid value p (t ∷ ts) off = let rest = none-table pid value p ts (grind (arith, off)) in let here : is_table pid t ≡ false = grind (arith, off) in rw (here, rest) refl

pub off-table : (pid value : ℕ) (p : HandleRow → Bool) (ts : List HandleTable) → differ_by (λ (t : HandleTable). t.process) ts ≡ true → passes (first (has_value value) (rows_in (first (is_table pid) ts))) p ≡ false → every (λ (t : HandleTable). not (is_table pid t && passes (first (has_value value) t.rows) p)) ts ≡ true
off-table pid value p [] single off = refl
off-table pid value p (t ∷ ts) single off = by (is_table pid t) refl off (λ (away : passes (first (has_value value) (rows_in (first (is_table pid) ts))) p ≡ false). off-table pid value p ts (rest-differ (λ (t : HandleTable). t.process) t ts single) away)
  where
    by : (c : Bool) → is_table pid t ≡ c → passes (first (has_value value) (rows_in (cond c (Some t) (first (is_table pid) ts)))) p ≡ false
        → (passes (first (has_value value) (rows_in (first (is_table pid) ts))) p ≡ false → every (λ (u : HandleTable). not (is_table pid u && passes (first (has_value value) u.rows) p)) ts ≡ true)
        → every (λ (u : HandleTable). not (is_table pid u && passes (first (has_value value) u.rows) p)) (t ∷ ts) ≡ true
    by true is off rest = let none = none-table pid value p ts (rest-none (λ (t : HandleTable). t.process) t ts pid single (eqb-true _ _ is)) in rw (is, off, none) refl
    by false is off rest = let all = rest off in rw (is, all) refl

module _ (w : World) (n : Names) (s : SuspectTable) (old : AreSuspected w n s) where
  -- the row of a port goes, and its other end and its connection port are suspected
  pub freed-to : (v : World) (m : Names) (gone : Key) (p : PortRow) (pair connection : Option Key) → ((b : Birth) → count (is_port b) w.ports ≤ 1) → first (is_port (name_of n gone)) w.ports ≡ Some p
      → p.pair ≡ option_map (name_of n) pair → p.connection ≡ option_map (name_of n) connection → some_stands n pair ≡ true → some_stands n connection ≡ true
      → KeepsOthers gone n m → v ≡ record w { ports = without (is_port (name_of n gone)) w.ports } → AreSuspected v m (suspecting_some connection (suspecting_some pair s))
  freed-to v m gone p pair connection single found pairs connections one two kept is =
      subst (λ (u : World). AreSuspected u m (suspecting_some connection (suspecting_some pair s))) (sym is)
      (without_one left n m (suspecting_some connection (suspecting_some pair s)) gone kept (none-left w.ports)
      (adds-two w left n s pair connection one two (λ b there. has-less (is_port b) (is_port c) w.ports there) (λ b off away. freed-keeps w c b (apart b off away)) old))
    where
      c : Birth
      c = name_of n gone

      left : World
      left = record w { ports = without (is_port c) w.ports }

      none-left : (ps : List PortRow) → has (is_port c) (without (is_port c) ps) ≡ false
      none-left [] = refl
      none-left (q ∷ qs) = grind (arith, none-left qs)

      neither : (b : Birth) → covers n pair b ≡ false → covers n connection b ≡ false → not (is_paired_to b p || is_connected_to b p) ≡ true
      neither b off away = rw (pairs, connections, the-covered n pair b, off, the-covered n connection b, away) refl

      apart : (b : Birth) → covers n pair b ≡ false → covers n connection b ≡ false → has (λ (q : PortRow). is_port c q && (is_paired_to b q || is_connected_to b q)) w.ports ≡ false
      apart b off away = none-both (is_port c) (λ (q : PortRow). is_paired_to b q || is_connected_to b q) w.ports (lone (is_port c) (λ (q : PortRow). not (is_paired_to b q || is_connected_to b q)) (is_port c) w.ports p (single c) found (first-passes (is_port c) w.ports p found) (neither b off away))

  -- a port is cut from its other end, and both are suspected
  pub cut-to : (v : World) (key : Key) (p : PortRow) (pair : Option Key) → ((b : Birth) → count (is_port b) w.ports ≤ 1) → first (is_port (name_of n key)) w.ports ≡ Some p → p.pair ≡ option_map (name_of n) pair
      → stands n key ≡ true → some_stands n pair ≡ true → v ≡ basic w (Cuts (name_of n key)) → AreSuspected v n (suspecting_some pair (suspecting key s))
  cut-to v key p pair single found pairs stood one is =
      subst (λ (u : World). AreSuspected u n (suspecting_some pair (suspecting key s))) (sym is)
      (adds-two w (basic w (Cuts c)) n s (Some key) pair stood one (λ b there. sym (has-change (is_port b) (is_end_of c) cut (λ q. refl) w.ports) ∙ there)
      (λ b off away. changed-keeps w (is_end_of c) cut b (λ q. refl) (none-both (is_end_of c) (is_paired_to b) w.ports (ends b off away w.ports (lone (is_port c) (λ (q : PortRow). not (is_paired_to b q)) (is_port c) w.ports p (single c) found (first-passes (is_port c) w.ports p found) (own b away))))) old)
    where
      c : Birth
      c = name_of n key

      own : (b : Birth) → covers n pair b ≡ false → not (is_paired_to b p) ≡ true
      own b away = rw (pairs, the-covered n pair b, away) refl

      across : (b : Birth) → same_birth c b ≡ false → (o : Option Birth) → is_the c o ≡ true → is_the b o ≡ false
      across b off None is = refl
      across b off (Some d) is = subst (λ x. same_birth b x ≡ false) (birth-same c d is) (births-apart c b off)

      one-end : (b : Birth) → same_birth c b ≡ false → (q : PortRow) (x y : Bool) → is_port c q ≡ x → is_paired_to c q ≡ y → (not x || not (is_paired_to b q)) ≡ true → (not (x || y) || not (is_paired_to b q)) ≡ true
      one-end b off q true y is is' all = all
      one-end b off q false true is is' all = rw (across b off q.pair is') refl
      one-end b off q false false is is' all = refl

      ends : (b : Birth) → same_birth c b ≡ false → covers n pair b ≡ false → (ps : List PortRow) → every (λ (q : PortRow). not (is_port c q) || not (is_paired_to b q)) ps ≡ true → every (λ (q : PortRow). not (is_end_of c q) || not (is_paired_to b q)) ps ≡ true
      ends b off away ps all = every-more (λ (q : PortRow). not (is_port c q) || not (is_paired_to b q)) (λ (q : PortRow). not (is_end_of c q) || not (is_paired_to b q)) (λ q one. one-end b off q (is_port c q) (is_paired_to c q) refl refl one) ps all

  -- two ports are joined, and the other ends that they had are suspected
  pub joined-to : (v : World) (client server : Key) (context : ℕ) (p q : PortRow) (one two : Option Key) → ((b : Birth) → count (is_port b) w.ports ≤ 1)
      → first (is_port (name_of n client)) w.ports ≡ Some p → first (is_port (name_of n server)) w.ports ≡ Some q → p.pair ≡ option_map (name_of n) one → q.pair ≡ option_map (name_of n) two
      → some_stands n one ≡ true → some_stands n two ≡ true → v ≡ basic w (Joins (name_of n client) (name_of n server) context) → AreSuspected v n (suspecting_some two (suspecting_some one s))
  joined-to v client server context p q one two single found there pairs pairs' stood stood' is =
      subst (λ (u : World). AreSuspected u n (suspecting_some two (suspecting_some one s))) (sym is)
      (adds-two w (basic w (Joins c d context)) n s one two stood stood' (λ b there. sym (has-joined b w.ports) ∙ there) (λ b off away. joined-keeps w c d context b (apart b off away)) old)
    where
      c : Birth
      c = name_of n client

      d : Birth
      d = name_of n server

      birth : (b : Birth) (r : PortRow) (x y : Bool) → is_port c r ≡ x → is_port d r ≡ y → is_port b (joined c d context r) ≡ is_port b r
      birth b r true y is is' = rw (is) refl
      birth b r false true is is' = rw (is, is') refl
      birth b r false false is is' = rw (is, is') refl

      has-joined : (b : Birth) (ps : List PortRow) → has (is_port b) (map (joined c d context) ps) ≡ has (is_port b) ps
      has-joined b [] = refl
      has-joined b (r ∷ rs) = let here = birth b r (is_port c r) (is_port d r) refl refl in let rest = has-joined b rs in grind (arith, here, rest)

      lone-off : (x : Birth) (r : PortRow) (o : Option Key) (b : Birth) → first (is_port x) w.ports ≡ Some r → r.pair ≡ option_map (name_of n) o → covers n o b ≡ false → every (λ (r : PortRow). not (is_port x r) || not (is_paired_to b r)) w.ports ≡ true
      lone-off x r o b found pairs off = lone (is_port x) (λ (r : PortRow). not (is_paired_to b r)) (is_port x) w.ports r (single x) found (first-passes (is_port x) w.ports r found) (rw (pairs, the-covered n o b, off) refl)

      either : (b : Birth) (ps : List PortRow) → every (λ (r : PortRow). not (is_port c r) || not (is_paired_to b r)) ps ≡ true → every (λ (r : PortRow). not (is_port d r) || not (is_paired_to b r)) ps ≡ true → every (λ (r : PortRow). not (is_port c r || is_port d r) || not (is_paired_to b r)) ps ≡ true
      either b [] one two = refl
      either b (r ∷ rs) one two = let rest = either b rs (second-true _ _ one) (second-true _ _ two) in let here = both (is_port c r) (is_port d r) (is_paired_to b r) (first-true _ _ one) (first-true _ _ two) in rw (here, rest) refl
        where
          both : (x y z : Bool) → (not x || not z) ≡ true → (not y || not z) ≡ true → (not (x || y) || not z) ≡ true
          both x y z one two = grind arith

      apart : (b : Birth) → covers n one b ≡ false → covers n two b ≡ false → has (λ (r : PortRow). (is_port c r || is_port d r) && is_paired_to b r) w.ports ≡ false
      apart b off away = none-both (λ (r : PortRow). is_port c r || is_port d r) (is_paired_to b) w.ports (either b w.ports (lone-off c p one b found pairs off) (lone-off d q two b there pairs' away))

  -- the views that go with a port go, and it is suspected
  pub owned-to : (v : World) (key : Key) → stands n key ≡ true → v ≡ basic w (DropsOwned (name_of n key)) → AreSuspected v n (suspecting key s)
  owned-to v key stood is =
      subst (λ (u : World). AreSuspected u n (suspecting key s)) (sym is)
      (adds w (basic w (DropsOwned (name_of n key))) n s key stood (λ b there. there) (λ b off. owned-keeps w (name_of n key) b off) old)

  -- a handle goes, and the port that it names, if it names one, is suspected
  pub closed-to : (v : World) (pid value : ℕ) (h : Option HandleRow) (o : Option Key) → differ_by (λ (t : HandleTable). t.process) w.handles ≡ true → handle_at w pid value ≡ h
      → NamesPort n h o → some_stands n o ≡ true → v ≡ basic w (DropsHandle pid value) → AreSuspected v n (suspecting_some o s)
  closed-to v pid value h o single at names stood is =
      subst (λ (u : World). AreSuspected u n (suspecting_some o s)) (sym is)
      (adds-two w (basic w (DropsHandle pid value)) n s o None stood refl (λ b there. there) (λ b off away. closed-keeps w pid value b (off-table pid value (λ (r : HandleRow). same_object r.object (port_name b)) w.handles single (rw (at) (names b (uncovered o b off))))) old)
    where
      uncovered : (o : Option Key) (b : Birth) → covers n o b ≡ false → passes o (λ key. same_birth (name_of n key) b) ≡ false
      uncovered None b off = refl
      uncovered (Some key) b off = off

  -- a section goes, and a token
  pub unshown-to : (v : World) (b : Birth) → v ≡ basic w (Frees (section_name b)) → AreSuspected v n s
  unshown-to v b is = subst (λ (u : World). AreSuspected u n s) (sym is) (stays w (basic w (Frees (section_name b))) n s (λ c there. there) (λ c. plain w c (basic w (Frees (section_name b))) refl refl refl refl refl refl refl) old)

  pub untokened-to : (v : World) (b : Birth) → v ≡ basic w (Frees (token_name b)) → AreSuspected v n s
  untokened-to v b is = subst (λ (u : World). AreSuspected u n s) (sym is) (stays w (basic w (Frees (token_name b))) n s (λ c there. there) (λ c. plain w c (basic w (Frees (token_name b))) refl refl refl refl refl refl refl) old)

  -- a port is made, and suspected
  pub made-to : (v : World) (m : Names) (key : Key) (p : PortRow) → KeepsNames n m → stands m key ≡ true → name_of m key ≡ p.birth → v ≡ basic w (Makes p) → AreSuspected v m (suspecting key s)
  made-to v m key p kept stood name is =
      subst (λ (u : World). AreSuspected u m (suspecting key s)) (sym is)
      (but-all (basic w (Makes p)) m (suspecting key s) (but-adds (basic w (Makes p)) m s key (λ b. false) stood (λ calm b there none off. renamed-at b (old calm b (before b there (or-off _ off)) (still-unheld w (basic w (Makes p)) b (made-keeps w p b) none)))))
    where
      or-off : (c : Bool) → (c || false) ≡ false → c ≡ false
      or-off true is = absurd (cc)
      or-off false is = refl

      before : (b : Birth) → has (is_port b) (w.ports ++ p ∷ []) ≡ true → same_birth (name_of m key) b ≡ false → has (is_port b) w.ports ≡ true
      before b there off = has-before (is_port b) w.ports p there (ap (λ c. same_birth c b) (sym name) ∙ off)

      renamed-at : (b : Birth) → has (is_at n b) s.keys ≡ true → has (is_at m b) s.keys ≡ true
      renamed-at b is = has-more (is_at n b) (is_at m b) (one b) s.keys is
        where
          one : (b : Birth) (k : Key) → is_at n b k ≡ true → is_at m b k ≡ true
          one b k is = at (stands n k) refl is
            where
              at : (c : Bool) → stands n k ≡ c → (c && same_birth (name_of n k) b) ≡ true → is_at m b k ≡ true
              at true stood same = let name = kept.name k stood in let there = kept.there k stood in rw (there, name) same
              at false off same = absurd (grind arith)
