-- For changing calls on tables: the ports that no row counts for stay suspected.
use Rattle.std.proofs.Common.{Bool, List, [], ap, arith, false, not, refl, true, ℕ, ◌+◌, ◌∷◌, ◌≡◌, ◌≤◌, subst, sym, ◌∙◌, Option, Some, None}
use Rattle.std.specs.Prelude.{◌&&◌, ◌||◌, IfOk, IfNone, IfSome, OnErr, Result, Ok, Err, is_some, option_map, unwrap_or}
use Rattle.lpc_base.specs.Rows.{change, count, differ_by, every, first, has, without}
use Rattle.lpc_base.specs.Places.{least_handle}
use Rattle.lpc_base.proofs.Births.{birth-same, birth-self}
use Rattle.lpc_base.proofs.Bools.{first-true, second-true}
use Rattle.lpc_base.proofs.Differ.{one-row}
use Rattle.lpc_base.proofs.RowMaps.{every-first, first-map}
use Rattle.lpc_base.proofs.RowWords.{every-any, every-not, without-none}
use Rattle.lpc_handles.specs.Handles.{values}
use Rattle.lpc_handles.specs.declared.table.Row.{Row}
use Rattle.lpc_handles.specs.declared.table.TableFault.{TableFault}
use Rattle.lpc_homes.specs.Parts.{handed, is_part, rows_at}
use Rattle.lpc_homes.specs.declared.object.Object.{Object}
use Rattle.lpc_homes.specs.declared.parts.Part.{Part}
use Rattle.lpc_model.specs.World as model
use Rattle.lpc_model.specs.World.{Birth, World}
use Rattle.lpc_model.specs.Found.{is_life, is_port, port_name, same_birth, thread_name, waits_as}
use Rattle.lpc_model.specs.Basics.{Accepts, AddsHandle, Maps, Writes, basic, left_by}
use Rattle.lpc_model.specs.Memory.{place_in}
use Rattle.lpc_model.specs.Tests.{handle_row}
use Rattle.lpc_model.specs.Linked.{HasHeldPorts}
use Rattle.lpc_model.specs.Sweep.{is_unheld}
use Rattle.lpc_model.proofs.Steps.Rows.{has-none, has-without}
use Rattle.lpc_ports.specs.Table.{QueuedMessage, without_messages}
use Rattle.lpc_ports.specs.declared.messages.Message.{Message}
use Rattle.lpc_slots.specs.Table.{at_key, is_key}
use Rattle.lpc_slots.specs.declared.Key.{Key}
use Rattle.lpc_slots.proofs.Keys.{key_is}
use Rattle.lpc_waits.specs.Table as waits
use Rattle.lpc_waits.specs.declared.Wait.{Wait}
use Rattle.lpc_waits.specs.Table.{WaitingThread}
use Rattle.lpc_rows.specs.Clauses.{written_through}
use Rattle.lpc_rows.specs.Held.{has_holders}
use Rattle.lpc_rows.specs.Kept.{rows_by}
use Rattle.lpc_rows.specs.Lawful.{AreLawful}
use Rattle.lpc_rows.specs.Names.{Names, name_of, names_of, stands}
use Rattle.lpc_rows.specs.Shown.{AreNamed, Tables, all_pass, birth_of, births_of, message_refs, name_by, object_stands, shown_handle, shown_wait, wait_refs}
use Rattle.lpc_rows.specs.Suspects.{AreSuspected, SuspectTable, is_at, suspecting_if, suspecting_some}
use Rattle.lpc_rows.proofs.Changes as changes
use Rattle.lpc_rows.proofs.Counted.{zero_has}
use Rattle.lpc_rows.proofs.Owed.{single-port}
use Rattle.lpc_rows.proofs.Suspected as suspected
use Rattle.lpc_rows.proofs.Tables as tables

-- Where a call may change nothing
module _ (w : World) (n : Names) (s : SuspectTable) (old : AreSuspected w n s) where
  -- any port is suspected where something went
  pub if-to : (v : World) (so : Bool) → (so ≡ false → AreSuspected v n s) → AreSuspected v n (suspecting_if so s)
  if-to v true kept = λ calm. absurd (no s.any calm)
    where
      no : (c : Bool) → (c || true) ≡ false → ⊥
      no true is = absurd (cc)
      no false is = absurd (cc)
  if-to v false kept = λ calm. kept refl (yes s.any calm)
    where
      yes : (c : Bool) → (c || false) ≡ false → c ≡ false
      yes true is = absurd (cc)
      yes false is = refl

  pub accepted-to : {A : Type 0} (v : World) (who : ℕ) (shown : A → model.Acceptance) (a : Option A) → IfSome a (λ a. v ≡ basic w (Accepts who (shown a))) → IfNone a (v ≡ w) → AreSuspected v n s
  accepted-to v who shown None some none = suspected.same-to w n s old v none
  accepted-to v who shown (Some a) some none = suspected.step-to w n s old v (Accepts who (shown a)) some refl

  pub written-to : (v : World) (address : ℕ) (bytes : List ℕ) (o : Option model.ViewRow) → v ≡ written_through w address bytes o → AreSuspected v n s
  written-to v address bytes None is = suspected.same-to w n s old v is
  written-to v address bytes (Some r) is = suspected.step-to w n s old v (Writes r.section (place_in r address) bytes) is refl

-- the sender of a message that is found
pub sender-stands : (it : Tables) → AreNamed (births_of it) it → (test : Key × QueuedMessage → Bool) (m : Message) → option_map (λ (row : Key × QueuedMessage). row.1.message) (first test it.ports.messages) ≡ Some m → stands (births_of it).ports m.sender ≡ true
sender-stands it is test m at = by (first test it.ports.messages) refl at
  where
    by : (o : Option (Key × QueuedMessage)) → first test it.ports.messages ≡ o → option_map (λ (row : Key × QueuedMessage). row.1.message) o ≡ Some m → stands (births_of it).ports m.sender ≡ true
    by None found at = absurd (cc)
    by (Some row) found at =
        let all = every-first (all_pass message_refs (object_stands (births_of it))) test it.ports.messages row is.refs.in_messages found in
        let own : row.1.message ≡ m = ap (λ (o : Option Message). unwrap_or o m) at in
        subst (λ (x : Message). stands (births_of it).ports x.sender ≡ true) own (first-true _ _ (second-true _ _ all))

-- the wait of a thread ends, or it has none
module _ (it : Tables) (is : AreNamed (births_of it) it) (single : differ_by (λ (x : model.WaitRow). x.thread) (rows_by it).waits ≡ true) (w : World) (same : w.waits ≡ (rows_by it).waits) (s : SuspectTable) (old : AreSuspected w (births_of it).ports s) where
  shown : WaitingThread → model.WaitRow
  shown = shown_wait (birth_of (births_of it))

  found-shown : (who : ℕ) → first (waits_as who) w.waits ≡ option_map (shown_wait (birth_of (births_of it))) (first (waits.is_of who) it.waits.rows)
  found-shown who = ap (first (waits_as who)) same ∙ first-map (shown_wait (birth_of (births_of it))) (λ _. true) (waits.is_of who) (waits_as who) (λ row _. refl) it.waits.rows (changes.all_true it is it.waits.rows)

  pub ended-to : (who : ℕ) (v : World) (r : Option Wait) → r ≡ option_map (λ (row : WaitingThread). row.wait) (first (waits.is_of who) it.waits.rows) → v ≡ left_by who w → AreSuspected v (births_of it).ports (suspecting_some (option_map (λ (x : Wait). x.port) r) s)
  ended-to who v r value left = by (first (waits.is_of who) it.waits.rows) refl value
    where
      by : (o : Option WaitingThread) → first (waits.is_of who) it.waits.rows ≡ o → r ≡ option_map (λ (row : WaitingThread). row.wait) o → AreSuspected v (births_of it).ports (suspecting_some (option_map (λ (x : Wait). x.port) r) s)
      by None none value = rw (value) (suspected.left-none-to w (births_of it).ports s old v who (has-none (waits_as who) w.waits (found-shown who ∙ ap (option_map (shown_wait (birth_of (births_of it)))) none)) left)
      by (Some row) there value =
          let all = every-first (all_pass wait_refs (object_stands (births_of it))) (waits.is_of who) it.waits.rows row is.refs.in_waits there in
          rw (value) (suspected.left-to w (births_of it).ports s old v who (shown_wait (birth_of (births_of it)) row) row.wait.port (subst (λ xs. differ_by (λ (x : model.WaitRow). x.thread) xs ≡ true) (sym same) single) (found-shown who ∙ ap (option_map (shown_wait (birth_of (births_of it)))) there) refl (first-true _ _ all) left)

-- a process gets a handle, where it has a place for it
module _ (it : Tables) (calls made : ℕ) (is : AreLawful it calls made) (s : SuspectTable) (old : AreSuspected (rows_by it) (births_of it).ports s) where
  pub given-to : (pid value : ℕ) (row : Row Object) (v : World) → value ≡ least_handle (values (rows_at it.parts pid)) → v ≡ basic (rows_by it) (AddsHandle pid (shown_handle (birth_of (births_of it)) (value, row))) → AreSuspected v (births_of it).ports s
  given-to pid value row v least gives =
      suspected.handle-to (rows_by it) (births_of it).ports s old v pid (name_by (birth_of (births_of it)) row.object) row.access (one-row (λ (t : model.HandleTable). t.process) pid (rows_by it).handles is.lawful.tables_single)
      (gives ∙ ap (λ (k : ℕ). basic (rows_by it) (AddsHandle pid (handle_row k (name_by (birth_of (births_of it)) row.object) row.access))) (least ∙ sym (tables.free_value it calls made is pid)))

  pub handed-to : (pid : ℕ) (row : Row Object) (r : Result ℕ TableFault) (new : List Part) → IfOk r (λ v. v ≡ least_handle (values (rows_at it.parts pid))) → IfOk r (λ v. new ≡ change (is_part pid) (handed v row) it.parts) → OnErr r (new ≡ it.parts) → AreSuspected (rows_by (record it { parts = new })) (births_of it).ports s
  handed-to pid row (Ok value) new least parts none = given-to pid value row _ least (tables.hands_or_not it calls made is pid row (Ok value) new parts)
  handed-to pid row (Err e) new least parts none = suspected.same-to (rows_by it) (births_of it).ports s old _ (ap (λ ps. rows_by (record it { parts = ps })) none)

-- no thread of the name lives
pub dead : (w : World) (b : Birth) → has_holders w (thread_name b) ≡ false → every (λ (t : model.ThreadRow). not (is_life b t)) w.threads ≡ true
dead w b none = every-not (is_life b) w.threads (sym (zero_has (is_life b) w.threads) ∙ none)

-- a process gets a view, or none
module _ (w : World) (n : Names) (s : SuspectTable) (old : AreSuspected w n s) where
  pub mapped-to : {A B : Type 0} (v : World) (pid : ℕ) (shown : A → model.ViewRow) (r : Result A B) → IfOk r (λ view. v ≡ basic w (Maps pid (shown view))) → OnErr r (v ≡ w) → AreSuspected v n s
  mapped-to v pid shown (Ok view) some none = suspected.step-to w n s old v (Maps pid (shown view)) some refl
  mapped-to v pid shown (Err e) some none = suspected.same-to w n s old v none

-- the births of keys are as they were
pub names-to : (v : World) (n m : Names) (s : SuspectTable) → m ≡ n → AreSuspected v n s → AreSuspected v m s
names-to v n m s is old = subst (λ (k : Names). AreSuspected v k s) (sym is) old

-- no two ports have one birth
pub single-ports : (it : Tables) → AreNamed (births_of it) it → (b : Birth) → count (is_port b) (rows_by it).ports ≤ 1
single-ports it is b = single-port (birth_of (births_of it)) it.ports.ports b is.ports_apart

-- where no port is suspected, some row counts for each
module _ (w : World) (n : Names) (s : SuspectTable) (old : AreSuspected w n s) where
  held-row : (ps : List model.PortRow) → ((b : Birth) → has (is_port b) ps ≡ true → is_unheld w (port_name b) ≡ false) → every (λ (p : model.PortRow). not (is_unheld w (port_name p.birth))) ps ≡ true
  held-row [] held = refl
  held-row (p ∷ ps) held =
      let self = birth-self p.birth in
      let here : is_unheld w (port_name p.birth) ≡ false = held p.birth (grind (arith, self)) in
      let rest = held-row ps (λ b there. held b (grind (arith, there))) in
      rw (here, rest) refl

  pub all-held : s.any ≡ false → s.keys ≡ [] → HasHeldPorts w
  all-held calm none = held-row w.ports (λ b there. by (is_unheld w (port_name b)) b refl there)
    where
      nobody : (ks : List Key) (b : Birth) → ks ≡ [] → has (is_at n b) ks ≡ true → ⊥
      nobody [] b is has = absurd (cc)
      nobody (k ∷ ks) b is has = absurd (cc)

      by : (c : Bool) → (b : Birth) → is_unheld w (port_name b) ≡ c → has (is_port b) w.ports ≡ true → c ≡ false
      by true b is there = absurd (nobody s.keys b none (old calm b there is))
      by false b is there = refl

  -- a key that stands for no port that no row counts for is suspected no longer
  pub cleared : (key : Key) → (stands n key ≡ true → is_unheld w (port_name (name_of n key)) ≡ false) → AreSuspected w n (record s { keys = without (is_key key) s.keys })
  cleared key held = λ calm b there none. left b none s.keys (old calm b there none)
    where
      other : (b : Birth) → is_unheld w (port_name b) ≡ true → (k : Key) (x y z : Bool) → is_key key k ≡ x → stands n k ≡ y → same_birth (name_of n k) b ≡ z → (y && z) ≡ true → x ≡ true → ⊥
      other b none k x true true key-is stood name both is =
          let same : key ≡ k = key_is key k (key-is ∙ is) in
          let births : name_of n key ≡ b = ap (name_of n) same ∙ birth-same _ _ name in
          let off : is_unheld w (port_name (name_of n key)) ≡ false = held (ap (stands n) same ∙ stood) in
          absurd (clash (ap (λ (c : Birth). is_unheld w (port_name c)) births) off none)
        where
          clash : {c d : Bool} → c ≡ d → c ≡ false → d ≡ true → ⊥
          clash same off is = absurd (cc)
      other b none k x true false key-is stood name both is = absurd (cc)
      other b none k x false z key-is stood name both is = absurd (cc)

      left : (b : Birth) → is_unheld w (port_name b) ≡ true → (ks : List Key) → has (is_at n b) ks ≡ true → has (is_at n b) (without (is_key key) ks) ≡ true
      left b none ks has = has-without (is_at n b) (is_key key) ks (apart ks) has
        where
          apart : (ks : List Key) → every (λ k. not (is_key key k) || not (is_at n b k)) ks ≡ true
          apart ks = every-any (λ k. not (is_key key k) || not (is_at n b k)) (λ k. one k (is_key key k) (is_at n b k) refl refl) ks
            where
              one : (k : Key) (x y : Bool) → is_key key k ≡ x → is_at n b k ≡ y → (not x || not y) ≡ true
              one k true true is at = absurd (other b none k true (stands n k) (same_birth (name_of n k) b) is refl refl at refl)
              one k true false is at = refl
              one k false y is at = refl

-- where some row counts for each port, none has to be suspected
pub still : (w : World) (n : Names) → HasHeldPorts w → AreSuspected w n (record { keys = []; any = false })
still w n held = λ calm b there none. absurd (clash (found b w.ports there held) none)
  where
    clash : {c : Bool} → c ≡ false → c ≡ true → ⊥
    clash off is = absurd (cc)

    found : (b : Birth) (ps : List model.PortRow) → has (is_port b) ps ≡ true → every (λ (p : model.PortRow). not (is_unheld w (port_name p.birth))) ps ≡ true → is_unheld w (port_name b) ≡ false
    found b [] there held = absurd (cc)
    found b (p ∷ ps) there held = at (is_port b p) refl there (λ (rest : has (is_port b) ps ≡ true). found b ps rest (second-true _ _ held))
      where
        flip : (c : Bool) → not c ≡ true → c ≡ false
        flip true is = absurd (cc)
        flip false is = refl

        at : (c : Bool) → is_port b p ≡ c → has (is_port b) (p ∷ ps) ≡ true → (has (is_port b) ps ≡ true → is_unheld w (port_name b) ≡ false) → is_unheld w (port_name b) ≡ false
        at true is there rest = subst (λ (c : Birth). is_unheld w (port_name c) ≡ false) (birth-same p.birth b is) (flip _ (first-true _ _ held))
        at false is there rest = rest (grind (arith, is, there))

-- all messages that pass leave their queues
pub emptied-to : (it : Tables) (s : SuspectTable) → AreSuspected (rows_by it) (births_of it).ports s → (test : Key × QueuedMessage → Bool)
    → AreSuspected (rows_by (record it { ports = without_messages test it.ports })) (births_of it).ports (suspecting_if (has test it.ports.messages) s)
emptied-to it s old test =
    if-to (rows_by it) (births_of it).ports s old (rows_by (record it { ports = without_messages test it.ports })) (has test it.ports.messages)
    (λ none. subst (λ ms. AreSuspected (rows_by (record it { ports = record it.ports { messages = ms; message_room = it.ports.message_room + count test it.ports.messages } })) (births_of it).ports s) (sym (without-none test it.ports.messages none)) old)

-- the parts are as they were, where a view wasn't mapped
pub same-parts : {A B : Type 0} (it : Tables) (r : Result A B) (new : List Part) → OnErr r (new ≡ it.parts) → OnErr r (rows_by (record it { parts = new }) ≡ rows_by it)
same-parts it (Ok x) new is = tt
same-parts it (Err e) new is = ap (λ ps. rows_by (record it { parts = ps })) is

-- an object stands at a key where it has a row there
pub stands-is : {R : Type 0} (birth : R → Birth) (rows : List (Key × R)) (key : Key) → stands (names_of birth rows) key ≡ is_some (first (at_key key) rows)
unfolding stands
stands-is birth [] key = refl
stands-is birth (row ∷ rows) key = grind (arith, stands-is birth rows key)

-- a world without ports has none
pub no-port : (b : Birth) → has (is_port b) [] ≡ true → ⊥
no-port b there = absurd (cc)
