-- What the tests of calls find in a view.
use Rattle.lpc_model.specs.Memory.{section_test}
use Rattle.std.proofs.Common.{◌≡◌, ℕ, List, [], ◌∷◌, true, not, Option, Some, None, refl, ap, sym, subst, ◌∙◌, arith}
use Rattle.std.specs.Prelude.{◌&&◌, ◌==◌, option_map, Result, Ok, Err, option_and_then}
use Rattle.std.proofs.lemmas.Bool.{eqb-true}
use Rattle.lpc_base.specs.Rows.{every, first, has, passes}
use Rattle.lpc_base.proofs.RowWords.{first-passes}
use Rattle.lpc_base.proofs.RowMaps.{every-first}
use Rattle.lpc_base.proofs.Bools.{first-true, same-number}
use Rattle.lpc_base.proofs.Births.{birth-same}
use Rattle.lpc_base.specs.declared.status.Status.{Status}
use Rattle.lpc_model.specs.declared.entry.ObjectKind.{ObjectKind}
use Rattle.lpc_model.specs.declared.entry.ObjectKind.TheVariants as kind
use Rattle.lpc_model.specs.Refusal.{found_or, refuse_if}
use Rattle.lpc_model.specs.Then.{◌>>=◌}
use Rattle.lpc_model.specs.World.{Birth, HandleRow, HandleTable, PortRow, ThreadRow, UsedThread, World, SectionRow, ViewRow}
use Rattle.lpc_model.specs.Found.{free_handle, handle_at, handles_of, has_handle_to, has_value, is_live_thread, is_open, is_port, is_table, is_used_thread, live_thread, names_port, port_row, rows_in, same_kind, is_section, section_row, token_of, token_in, is_process, access_list, list_in}
use Rattle.lpc_base.specs.declared.status.TheConstants.{ACCESS_DENIED, INVALID_HANDLE, OBJECT_TYPE_MISMATCH}
use Rattle.lpc_model.specs.Tests.{PORT_RIGHT, includes, object_test, own_handle, port_test}
use Rattle.lpc_model.proofs.Calls.Holding.{Holds, bind_holds, found_holds, found_ok, holds_ok}
use Rattle.lpc_model.specs.Circle.{Group, owner}
use Rattle.lpc_isolation.proofs.Views.Filters.{first-inside, first-shown, first-where, has-inside}
use Rattle.lpc_isolation.proofs.Views.View.{of_birth, our_port, our_table, our_thread, seen_port, view, our_process}
use Rattle.lpc_isolation.proofs.Rows.Fair.{Fair, is_fair_pair, is_fair_port, is_fair_table, is_home, is_homed, is_own}

-- Handles
pub handles-view : (m : Group) (w : World) (pid : ℕ) → m pid ≡ true → handles_of (view m w) pid ≡ handles_of w pid
handles-view m w pid is = ap rows_in (first-inside (our_table m) (is_table pid) (λ t its. ap m (eqb-true _ _ its) ∙ is) w.handles)

pub handle-view : (m : Group) (w : World) (pid value : ℕ) → m pid ≡ true → handle_at (view m w) pid value ≡ handle_at w pid value
handle-view m w pid value is = ap (first (has_value value)) (handles-view m w pid is)

pub free-view : (m : Group) (w : World) (pid : ℕ) → m pid ≡ true → free_handle (view m w) pid ≡ free_handle w pid
free-view m w pid is = rw (handles-view m w pid is) refl

-- the handles to a port are those of its process
named-one : (pid : ℕ) (b : Birth) (h : HandleRow) → is_own pid h ≡ true → names_port b h.object ≡ true → (pid == b.process) ≡ true
named-one pid b h own named =
    let two : (h.object.birth.process == b.process) ≡ true = grind arith in
    let same : pid ≡ b.process = sym (eqb-true _ _ own) ∙ eqb-true _ _ two in
    rw same (same-number b.process)

pub named-own : (pid : ℕ) (b : Birth) (rows : List HandleRow) → every (is_own pid) rows ≡ true → has (λ h. names_port b h.object) rows ≡ true → (pid == b.process) ≡ true
named-own pid b [] own is = absurd (cc)
named-own pid b (h ∷ rows) own is = grind (arith, named-one pid b h, named-own pid b rows)

-- a member's port is open in the view where it is open
pub open-view : (m : Group) (c : ℕ) (w : World) (b : Birth) → Fair m c w → m b.process ≡ true → is_open (view m w) b ≡ is_open w b
open-view m c w b f is =
    has-inside is_fair_table (our_table m) (has_handle_to b) (λ t own to. ap m (eqb-true _ _ (named-own t.process b t.rows own to)) ∙ is) w.handles f.tables

-- the port that a handle names is its process's
found-own : (m : Group) (c : ℕ) (w : World) (pid value : ℕ) (h : HandleRow) (o : Option HandleTable) → Fair m c w → first (is_table pid) w.handles ≡ o → first (has_value value) (rows_in o) ≡ Some h → h.object.birth.process ≡ pid
found-own m c w pid value h None f at is = absurd (cc)
found-own m c w pid value h (Some t) f at is =
    let fair : is_fair_table t ≡ true = every-first is_fair_table (is_table pid) w.handles t f.tables at in
    let its : t.process ≡ pid = eqb-true _ _ (first-passes (is_table pid) w.handles t at) in
    eqb-true _ _ (every-first (is_own t.process) (has_value value) t.rows h fair is) ∙ its

pub handle-own : (m : Group) (c : ℕ) (w : World) (pid value : ℕ) (h : HandleRow) → Fair m c w → handle_at w pid value ≡ Some h → h.object.birth.process ≡ pid
handle-own m c w pid value h f is = found-own m c w pid value h (first (is_table pid) w.handles) f refl is

-- Ports
pub port-view : (m : Group) (w : World) (b : Birth) → m b.process ≡ true → port_row (view m w) b ≡ option_map (seen_port m) (port_row w b)
port-view m w b is = first-shown (our_port m) (is_port b) (seen_port m) (λ p its. of_birth m p.birth b its ∙ is) (λ p. refl) w.ports

abbrev pub result_map : {A B : Type 0} → (A → B) → Result A Status → Result B Status
result_map f (Ok x) = Ok (f x)
result_map f (Err s) = Err s

mapped-found : {A B : Type 0} (f : A → B) (o : Option A) (s : Status) → found_or (option_map f o) s ≡ result_map f (found_or o s)
mapped-found f None s = refl
mapped-found f (Some x) s = refl

-- binds that agree on what is found
pub bind-same : {A B : Type 0} (r : Result A Status) (f g : A → Result B Status) → ((x : A) → r ≡ Ok x → f x ≡ g x) → (r >>= f) ≡ (r >>= g)
bind-same (Ok x) f g same = same x refl
bind-same (Err s) f g same = refl

pub bind-map : {A B C : Type 0} (r : Result A Status) (f : A → Result B Status) (k : B → C) → (r >>= (λ x. result_map k (f x))) ≡ result_map k (r >>= f)
bind-map (Ok x) f k = refl
bind-map (Err s) f k = refl

pub object-view : (m : Group) (w : World) (by : ThreadRow) (kind : ObjectKind) (rights value : ℕ) → m by.process ≡ true → object_test (view m w) by kind rights value ≡ object_test w by kind rights value
object-view m w by kind rights value is = rw (handle-view m w by.process value is) refl

-- what a test gives
pub object-own : (m : Group) (c : ℕ) (w : World) (by : ThreadRow) (kind : ObjectKind) (rights value : ℕ) → Fair m c w → Holds (λ b. b.process ≡ by.process) (object_test w by kind rights value)
object-own m c w by kind rights value f =
    let P : Birth → Type 0 = λ b. b.process ≡ by.process in
    bind_holds (own_handle w by value) _ P (λ h at.
    bind_holds (refuse_if (not (same_kind h.object.kind kind)) OBJECT_TYPE_MISMATCH) _ P (λ _ _.
    bind_holds (refuse_if (not (includes h.access rights)) ACCESS_DENIED) _ P (λ _ _.
    handle-own m c w by.process value h f (found_ok (handle_at w by.process value) INVALID_HANDLE h at))))

pub port-own : (m : Group) (c : ℕ) (w : World) (by : ThreadRow) (value : ℕ) → Fair m c w → Holds (λ p. (p.birth.process ≡ by.process) × (port_row w p.birth ≡ Some p)) (port_test w by value)
port-own m c w by value f =
    let P : PortRow → Type 0 = λ p. (p.birth.process ≡ by.process) × (port_row w p.birth ≡ Some p) in
    bind_holds (object_test w by kind.Port PORT_RIGHT value) _ P (λ b at.
    found_holds P (port_row w b) INVALID_HANDLE (λ p row.
    let same : p.birth ≡ b = birth-same p.birth b (first-passes (is_port b) w.ports p row) in (
      ap (λ (b : Birth). b.process) same ∙ holds_ok (λ b. b.process ≡ by.process) (object_test w by kind.Port PORT_RIGHT value) b (object-own m c w by kind.Port PORT_RIGHT value f) at,
      subst (λ b. port_row w b ≡ Some p) (sym same) row,
    )))

pub section-own : (m : Group) (c : ℕ) (w : World) (by : ThreadRow) (rights value : ℕ) → Fair m c w → Holds (λ s. s.birth.process ≡ by.process) (section_test w by rights value)
section-own m c w by rights value f =
    let P : SectionRow → Type 0 = λ s. s.birth.process ≡ by.process in
    bind_holds (object_test w by kind.Section rights value) _ P (λ b at.
    found_holds P (section_row w b) INVALID_HANDLE (λ s row.
    ap (λ (b : Birth). b.process) (birth-same s.birth b (first-passes (is_section b) w.sections s row))
    ∙ holds_ok (λ b. b.process ≡ by.process) (object_test w by kind.Section rights value) b (object-own m c w by kind.Section rights value f) at))

-- the section of a view that a map makes is of the caller's process
pub mapped-own : (m : Group) (c : ℕ) (w : World) (by : ThreadRow) (v : ViewRow) (s : SectionRow) (rights value : ℕ) → Fair m c w → section_test w by rights value ≡ Ok s → v.section ≡ s.birth → v.section.process ≡ by.process
mapped-own m c w by v s rights value f at same = ap (λ (b : Birth). b.process) same ∙ holds_ok (λ (s : SectionRow). s.birth.process ≡ by.process) (section_test w by rights value) s (section-own m c w by rights value f) at

pub port_test-view : (m : Group) (c : ℕ) (w : World) (by : ThreadRow) (value : ℕ) → Fair m c w → m by.process ≡ true → port_test (view m w) by value ≡ result_map (seen_port m) (port_test w by value)
port_test-view m c w by value f is =
    ap (λ r. r >>= (λ b. found_or (port_row (view m w) b) INVALID_HANDLE)) (object-view m w by kind.Port PORT_RIGHT value is)
    ∙ bind-same (object_test w by kind.Port PORT_RIGHT value) (λ b. found_or (port_row (view m w) b) INVALID_HANDLE) (λ b. result_map (seen_port m) (found_or (port_row w b) INVALID_HANDLE))
    (λ b at. ap (λ o. found_or o INVALID_HANDLE) (port-view m w b (ap m (holds_ok (λ b. b.process ≡ by.process) (object_test w by kind.Port PORT_RIGHT value) b (object-own m c w by kind.Port PORT_RIGHT value f) at) ∙ is))
    ∙ mapped-found (seen_port m) (port_row w b) INVALID_HANDLE)
    ∙ bind-map (object_test w by kind.Port PORT_RIGHT value) (λ b. found_or (port_row w b) INVALID_HANDLE) (seen_port m)

-- c's ports are seen as they are
fair-pair : (m : Group) (c : ℕ) (p : PortRow) (b : Birth) → (is_home p && is_fair_pair m c p b) ≡ true → m p.birth.process ≡ true → (p.birth.process == c) ≡ true → m b.process ≡ true
fair-pair m c p b is own mine = grind arith

pub c-port : (m : Group) (c : ℕ) (p : PortRow) → m c ≡ true → p.birth.process ≡ c → is_fair_port m c p ≡ true → seen_port m p ≡ p
c-port m c p c_in own fair = at p.pair refl
  where
    at : (o : Option Birth) → p.pair ≡ o → seen_port m p ≡ p
    at None none = rw none refl
    at (Some b) some =
        let b_in : m b.process ≡ true = fair-pair m c p b (rw some at fair) (ap m own ∙ c_in) (ap (λ n. n == c) own ∙ same-number c) in
        rw (some, b_in) refl

-- Threads
-- a thread's process is the owner of its number
pub homed-number : (w : World) (tid : ℕ) (t : ThreadRow) → is_homed w.used_threads t ≡ true → t.number ≡ tid → owner w tid ≡ Some t.process
homed-number w tid t homed number = at (first (is_used_thread t.number) w.used_threads) refl number homed
  where
    at : (o : Option UsedThread) → first (is_used_thread t.number) w.used_threads ≡ o → t.number ≡ tid → passes o (λ u. u.process == t.process) ≡ true → owner w tid ≡ Some t.process
    at None none number is = absurd (cc)
    at (Some u) some number is =
        let here : first (is_used_thread tid) w.used_threads ≡ Some u = ap (λ n. first (is_used_thread n) w.used_threads) (sym number) ∙ some in
        rw here (ap (λ n. Some n) (eqb-true _ _ is))

homed-owner : (m : Group) (c : ℕ) (w : World) (tid : ℕ) (t : ThreadRow) → is_homed w.used_threads t ≡ true → is_live_thread tid t ≡ true → owner w tid ≡ Some t.process
homed-owner m c w tid t homed live = homed-number w tid t homed (eqb-true _ _ (first-true _ _ live))

-- a live thread is in the view where the owner of its number is a member
pub live-view : (m : Group) (c : ℕ) (w : World) (tid pid : ℕ) → Fair m c w → owner w tid ≡ Some pid → m pid ≡ true → live_thread (view m w) tid ≡ live_thread w tid
live-view m c w tid pid f own is =
    first-where (is_homed w.used_threads) (our_thread m) (is_live_thread tid) (λ t homed live.
    let same : Some t.process ≡ Some pid = sym (homed-owner m c w tid t homed live) ∙ own in
    let it : t.process ≡ pid = cc in ap m it ∙ is) w.threads f.threads

pub live-owner : (m : Group) (c : ℕ) (w : World) (tid : ℕ) (t : ThreadRow) → Fair m c w → live_thread w tid ≡ Some t → owner w tid ≡ Some t.process
live-owner m c w tid t f live =
    homed-owner m c w tid t (every-first (is_homed w.used_threads) (is_live_thread tid) w.threads t f.threads live) (first-passes (is_live_thread tid) w.threads t live)

-- the token of a member's process, and whom a member's port may be opened by
pub token-view : (m : Group) (w : World) (pid : ℕ) → m pid ≡ true → token_of (view m w) pid ≡ token_of w pid
token-view m w pid inside = ap token_in (first-inside (our_process m) (is_process pid) (λ p is. ap m (eqb-true p.number pid is) ∙ inside) w.processes)

pub access-view : (m : Group) (w : World) (b : Birth) → m b.process ≡ true → access_list (view m w) b ≡ access_list w b
access-view m w b inside = ap (option_and_then (λ (p : PortRow). list_in p.security)) (port-view m w b inside) ∙ at (port_row w b)
  where
    at : (o : Option PortRow) → option_and_then (λ (p : PortRow). list_in p.security) (option_map (seen_port m) o) ≡ option_and_then (λ (p : PortRow). list_in p.security) o
    at None = refl
    at (Some p) = refl
