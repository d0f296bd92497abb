-- Behind the own steps of a line that marks no event, dooms no process and makes none live that is to end, nothing is due.
use Rattle.std.proofs.Common.{◌≡◌, ℕ, List, [], ◌∷◌, ◌++◌, Bool, true, false, not, Option, Some, None, is_some, refl, subst, sym, arith}
use Rattle.std.specs.Prelude.{◌&&◌, ◌||◌, ◌==◌}
use Rattle.std.proofs.lemmas.Bool.{eqb-true}
use Rattle.lpc_base.specs.Rows.{change, every, first, given, has, when}
use Rattle.lpc_base.proofs.RowMaps.{every-both}
use Rattle.lpc_base.proofs.RowWords.{every-append, every-change, every-more, every-push, every-without, has-change, has-kept}
use Rattle.lpc_base.specs.declared.status.TheConstants.{SUCCESS}
use Rattle.lpc_model.specs.declared.entry.CallName.TheVariants.{NtOpenProcessToken, NtOpenThreadToken}
use Rattle.lpc_model.specs.declared.entry.ObjectKind.{ObjectKind}
use Rattle.lpc_model.specs.declared.entry.ObjectKind.TheVariants as kind
use Rattle.lpc_model.specs.World.{Birth, MessageRow, ProcessRow, ThreadRow, Token, WaitRow, World}
use Rattle.lpc_model.specs.Basics.{Acts, AddsHandle, AddsProcess, AddsThread, Awaits, Basic, Dies, Dooms, DrawsIdentifier, DrawsOrdinal, Frees, Leaves, LetsGo, Marks, Receives, Registers, SetsDebug, SetsException, Tells, Unregisters, Wakes, acting, basic, debugged, ended, excepted, past_identifier, past_ordinal, portless, registering, unregistering, world_after}
use Rattle.lpc_model.specs.Connect.{allow_steps, client_port, connect_start, connection_request, connect_steps, complete_steps, create_steps, guard_steps, listen_steps, named_steps, refuse_steps, unnamed_steps, accept_steps}
use Rattle.lpc_model.specs.Counts.{asked, duplicate_steps}
use Rattle.lpc_model.specs.Creation.{making_process, making_thread, new_process, new_thread, second_birth}
use Rattle.lpc_model.specs.Entering.{enter, given_steps, received_steps, row_of, shown, takes, woken}
use Rattle.lpc_model.specs.Found.{free_handle, is_live, is_process, is_thread, live_thread, lives_in, same_birth, wait_of, was_process}
use Rattle.lpc_model.specs.Impersonation.{held_content, impersonate_steps, process_content, revert_steps, token_steps}
use Rattle.lpc_model.specs.Lines.{ScriptCall, ScriptLine, run, set_information_process}
use Rattle.lpc_model.specs.Machine.{directive_birth, own_steps}
use Rattle.lpc_model.specs.Memory.{map_steps, mapped_view, section_steps, unmap_steps, write_steps}
use Rattle.lpc_model.specs.Message.{asks}
use Rattle.lpc_model.specs.Offers.{mapped}
use Rattle.lpc_model.specs.Raise.{set_port_steps}
use Rattle.lpc_model.specs.Ranges.{write_range_steps}
use Rattle.lpc_model.specs.Request.{sent_by}
use Rattle.lpc_model.specs.Settle.{IsSettled, is_doomed}
use Rattle.lpc_model.specs.SoundWaits.{IsSoundWorld}
use Rattle.lpc_model.specs.Tests.{next_birth}
use Rattle.lpc_model.proofs.Calls.Lines.{AnyWorld, IsCalled, LineLaw, line-does}
use Rattle.lpc_model.proofs.Calls.Outcomes.{EndCall, Outcomes, end_call, of_process, of_thread}
use Rattle.lpc_model.proofs.Calls.Raising.{set-passes}
use Rattle.lpc_model.proofs.Calls.Sharing.{guard-pass, mapped-pass, shared-pass}
use Rattle.lpc_model.proofs.Calls.Usable.{CanCall}
use Rattle.lpc_model.proofs.Sound.Worlds.{by_kind}
use Rattle.lpc_model.proofs.Steps.InTurn.{steps-keep}
use Rattle.lpc_rows.specs.Ready.{is_ready}
use Rattle.lpc_machine.specs.Unsettling.{HasUsedProcesses, unsettles}

-- The numbers of processes
used-step : (w : World) (b : Basic) → true ≡ true → HasUsedProcesses w → HasUsedProcesses (basic w b)
used-step w (AddsProcess p) _ u =
    let v = basic w (AddsProcess p) in
    let more = every-more (λ q. was_process w q.number) (λ q. was_process v q.number) (λ q one. has-kept (λ n. n == q.number) w.used_processes p.number one) w.processes u in
    every-push (λ q. was_process v q.number) w.processes p more (own p.number w.used_processes)
  where
    own : (n : ℕ) (ns : List ℕ) → has (λ m. m == n) (ns ++ n ∷ []) ≡ true
    own n [] = grind arith
    own n (m ∷ ns) = grind (arith, own n ns)
used-step w (SetsDebug pid b) _ u = every-change (λ p. was_process w p.number) (is_process pid) (debugged b) (λ p one. one) w.processes u
used-step w (SetsException pid b) _ u = every-change (λ p. was_process w p.number) (is_process pid) (excepted b) (λ p one. one) w.processes u
used-step w (LetsGo pid) _ u = every-change (λ p. was_process w p.number) (is_process pid) portless (λ p one. one) w.processes u
used-step w (Dooms pid code) _ u = every-change (λ p. was_process w p.number) (is_process pid) (Rattle.lpc_model.specs.Basics.doomed code) (λ p one. one) w.processes u
used-step w (Frees o) _ u = at o.kind
  where
    at : (k : ObjectKind) → HasUsedProcesses (basic w (Frees (record { kind = k; birth = o.birth })))
    at kind.Port = u
    at kind.Section = u
    at kind.Token = u
    at kind.Process = every-without (λ p. was_process w p.number) (λ p. same_birth p.birth o.birth) w.processes u
    at kind.Thread = u
used-step w b _ u = u

all-pass : (bs : List Basic) → every (λ _. true) bs ≡ true
all-pass [] = refl
all-pass (b ∷ bs) = all-pass bs

pub used-all : (w : World) (bs : List Basic) → HasUsedProcesses w → HasUsedProcesses (world_after w bs)
used-all w bs u = steps-keep (λ _. true) HasUsedProcesses used-step w bs (all-pass bs) u

-- Steps behind which nothing more is due
abbrev is_calm : Basic → Bool
is_calm (Marks who) = false
is_calm (Dooms pid code) = false
is_calm (AddsProcess p) = false
is_calm (AddsThread t) = false
is_calm (Frees o) = false
is_calm b = true

abbrev AreCalm : List Basic → Type 0
AreCalm bs = every is_calm bs ≡ true

-- no process that is to end lives where those that live lived
fewer-doomed : (d l m : Bool) → (m ≡ true → l ≡ true) → not (d && l) ≡ true → not (d && m) ≡ true
fewer-doomed d l m more is = grind (arith, more)

fewer-live : (w v : World) → v.processes ≡ w.processes → ((n : ℕ) → is_live v n ≡ true → is_live w n ≡ true) → every (λ p. not (is_doomed w p)) w.processes ≡ true → every (λ p. not (is_doomed v p)) v.processes ≡ true
fewer-live w v same more s = rw same (every-more (λ p. not (is_doomed w p)) (λ p. not (is_doomed v p)) (λ p one. fewer-doomed (is_some p.doom) (is_live w p.number) (is_live v p.number) (more p.number) one) w.processes s)

dead-fewer : (who n : ℕ) (ts : List ThreadRow) → has (lives_in n) (change (is_thread who) ended ts) ≡ true → has (lives_in n) ts ≡ true
dead-fewer who n [] is = is
dead-fewer who n (t ∷ ts) is = grind (arith, dead-fewer who n ts)

calm-step : (w : World) (b : Basic) → is_calm b ≡ true → IsSettled w → IsSettled (basic w b)
calm-step w (Marks who) is s = absurd (cc)
calm-step w (Dooms pid code) is s = absurd (cc)
calm-step w (AddsProcess p) is s = absurd (cc)
calm-step w (AddsThread t) is s = absurd (cc)
calm-step w (Frees o) is s = absurd (cc)
calm-step w (Wakes who call status fields) is s = record { marks = rw s.marks refl; doomed = s.doomed }
calm-step w (Leaves who) is s = record { marks = rw s.marks refl; doomed = s.doomed }
calm-step w (Dies who status) is s = record { marks = rw s.marks refl; doomed = fewer-live w (basic w (Dies who status)) refl (λ n one. dead-fewer who n w.threads one) s.doomed }
calm-step w (DrawsIdentifier who) is s = record { marks = s.marks; doomed = fewer-live w (basic w (DrawsIdentifier who)) refl (λ n one. subst (λ c. c ≡ true) (has-change (lives_in n) (is_thread who) past_identifier (λ t. refl) w.threads) one) s.doomed }
calm-step w (DrawsOrdinal who) is s = record { marks = s.marks; doomed = fewer-live w (basic w (DrawsOrdinal who)) refl (λ n one. subst (λ c. c ≡ true) (has-change (lives_in n) (is_thread who) past_ordinal (λ t. refl) w.threads) one) s.doomed }
calm-step w (Registers who b) is s = record { marks = s.marks; doomed = fewer-live w (basic w (Registers who b)) refl (λ n one. subst (λ c. c ≡ true) (has-change (lives_in n) (is_thread who) (registering b) (λ t. refl) w.threads) one) s.doomed }
calm-step w (Unregisters who b) is s = record { marks = s.marks; doomed = fewer-live w (basic w (Unregisters who b)) refl (λ n one. subst (λ c. c ≡ true) (has-change (lives_in n) (is_thread who) (unregistering b) (λ t. refl) w.threads) one) s.doomed }
calm-step w (Acts who own) is s = record { marks = s.marks; doomed = fewer-live w (basic w (Acts who own)) refl (λ n one. subst (λ c. c ≡ true) (has-change (lives_in n) (is_thread who) (acting own) (λ t. refl) w.threads) one) s.doomed }
calm-step w (SetsDebug pid b) is s = record { marks = s.marks; doomed = every-change (λ p. not (is_doomed w p)) (is_process pid) (debugged b) (λ p one. one) w.processes s.doomed }
calm-step w (SetsException pid b) is s = record { marks = s.marks; doomed = every-change (λ p. not (is_doomed w p)) (is_process pid) (excepted b) (λ p one. one) w.processes s.doomed }
calm-step w (LetsGo pid) is s = record { marks = s.marks; doomed = every-change (λ p. not (is_doomed w p)) (is_process pid) portless (λ p one. one) w.processes s.doomed }
calm-step w b is s = record { marks = s.marks; doomed = s.doomed }

calm-all : (w : World) (bs : List Basic) → AreCalm bs → IsSettled w → IsSettled (world_after w bs)
calm-all = steps-keep is_calm IsSettled calm-step

-- A thread that is made, of a process that isn't to end
live-behind : (n : ℕ) (t : ThreadRow) (ts : List ThreadRow) → has (lives_in n) (ts ++ t ∷ []) ≡ true → (has (lives_in n) ts || (t.process == n)) ≡ true
live-behind n t [] is = grind arith
live-behind n t (u ∷ ts) is = grind (arith, live-behind n t ts)

neither : (d l same m : Bool) → (m ≡ true → (l || same) ≡ true) → not (d && l) ≡ true → not (d && same) ≡ true → not (d && m) ≡ true
neither d l same m more one two = grind (arith, more)

threaded : (w : World) (t : ThreadRow) → IsSettled w → every (λ p. not (is_some p.doom && (t.process == p.number))) w.processes ≡ true → IsSettled (basic w (AddsThread t))
threaded w t s own = record {
  marks = s.marks;
  doomed =
      let v = basic w (AddsThread t) in
      every-both (λ p. not (is_doomed w p)) (λ p. not (is_some p.doom && (t.process == p.number))) (λ p. not (is_doomed v p))
      (λ p one two. neither (is_some p.doom) (is_live w p.number) (t.process == p.number) (is_live v p.number) (live-behind p.number t w.threads) one two)
      w.processes s.doomed own;
}

-- of a live one
live-undoomed : (w : World) (pid : ℕ) → is_live w pid ≡ true → IsSettled w → every (λ p. not (is_some p.doom && (pid == p.number))) w.processes ≡ true
live-undoomed w pid lives s = every-more (λ p. not (is_doomed w p)) (λ p. not (is_some p.doom && (pid == p.number))) (λ p one. at p (pid == p.number) refl one) w.processes s.doomed
  where
    right : (d l : Bool) → l ≡ true → not (d && l) ≡ true → not (d && true) ≡ true
    right d l is one = grind arith

    off : (d : Bool) → not (d && false) ≡ true
    off d = grind arith

    at : (p : ProcessRow) (c : Bool) → (pid == p.number) ≡ c → not (is_some p.doom && is_live w p.number) ≡ true → not (is_some p.doom && c) ≡ true
    at p true same one = right (is_some p.doom) (is_live w p.number) (subst (λ n. is_live w n ≡ true) (eqb-true pid p.number same) lives) one
    at p false other one = off (is_some p.doom)

-- of a new one
made-undoomed : (w : World) (pid : ℕ) → was_process w pid ≡ false → HasUsedProcesses w → every (λ p. not (is_some p.doom && (pid == p.number))) w.processes ≡ true
made-undoomed w pid new u = every-more (λ p. was_process w p.number) (λ p. not (is_some p.doom && (pid == p.number))) (λ p one. at p (pid == p.number) refl one) w.processes u
  where
    off : (d : Bool) → not (d && false) ≡ true
    off d = grind arith

    never : (a : Bool) → a ≡ true → a ≡ false → ⊥
    never a one two = absurd (cc)

    at : (p : ProcessRow) (c : Bool) → (pid == p.number) ≡ c → was_process w p.number ≡ true → not (is_some p.doom && c) ≡ true
    at p true same one = absurd (never (was_process w pid) (subst (λ n. was_process w n ≡ true) (sym (eqb-true pid p.number same)) one) new)
    at p false other one = off (is_some p.doom)

booted : (w : World) (pid tid : ℕ) (maker : Option ℕ) (birth next : Birth) (token : Token) → was_process w pid ≡ false → HasUsedProcesses w → IsSettled w → IsSettled (basic (basic w (AddsProcess (new_process pid maker birth token))) (AddsThread (new_thread tid pid next)))
booted w pid tid maker birth next token new u s =
    let p = new_process pid maker birth token in
    let v = basic w (AddsProcess p) in
    threaded v (new_thread tid pid next)
    (record { marks = s.marks; doomed = every-push (λ q. not (is_doomed w q)) w.processes p s.doomed refl })
    (every-push (λ q. not (is_some q.doom && (pid == q.number))) w.processes p (made-undoomed w pid new u) refl)

spawned : (w : World) (by : ThreadRow) (pid tid : ℕ) → was_process w pid ≡ false → HasUsedProcesses w → IsSettled w → IsSettled (world_after w (making_process w by pid tid))
spawned w by pid tid new u s =
    let one = calm-step w (DrawsOrdinal by.number) refl s in
    let two = calm-step (basic w (DrawsOrdinal by.number)) (DrawsOrdinal by.number) refl one in
    let v = basic (basic w (DrawsOrdinal by.number)) (DrawsOrdinal by.number) in
    let three = booted v pid tid (Some by.process) (next_birth by) (second_birth by) (Rattle.lpc_model.specs.Found.token_of w by.process) new u two in
    record { marks = three.marks; doomed = three.doomed }

started : (w : World) (by : ThreadRow) (tid pid : ℕ) → is_live w pid ≡ true → IsSettled w → IsSettled (world_after w (making_thread w by tid pid))
started w by tid pid lives s =
    let one = calm-step w (DrawsOrdinal by.number) refl s in
    let v = basic w (DrawsOrdinal by.number) in
    let live : is_live v pid ≡ true = subst (λ c. c ≡ true) (sym (has-change (lives_in pid) (is_thread by.number) past_ordinal (λ t. refl) w.threads)) lives in
    let two = threaded v (new_thread tid pid (next_birth by)) one (live-undoomed v pid live one) in
    record { marks = two.marks; doomed = two.doomed }

-- What enters a queue
receipt-calm : (m : MessageRow) → AreCalm (received_steps m)
receipt-calm m = at (asks m.message)
  where
    at : (a : Bool) → every is_calm (when a (Receives m.message.header.client.thread m.queue ∷ [])) ≡ true
    at true = refl
    at false = refl

given-calm : (m : MessageRow) (x : WaitRow) → AreCalm (given_steps x m ++ woken SUCCESS (shown x m) x ∷ [])
given-calm m =
    by_kind (λ x. every is_calm (given_steps x m ++ woken SUCCESS (shown x m) x ∷ []) ≡ true)
    (λ x r. every-append is_calm (received_steps m) _ (receipt-calm m) refl) (λ x. every-append is_calm (received_steps m) _ (receipt-calm m) refl) (λ x. every-append is_calm (received_steps m) _ (receipt-calm m) refl)
    (λ x r offer. every-append is_calm (received_steps m) _ (receipt-calm m) refl) (λ x r reply. every-append is_calm (received_steps m) _ (receipt-calm m) refl) (λ x r. every-append is_calm (received_steps m) _ (receipt-calm m) refl)

enter-calm : (m : MessageRow) (w : World) → AreCalm (enter m w)
enter-calm m w = at (first (takes m) w.waits)
  where
    at : (o : Option WaitRow) → every is_calm (given o (λ x. given_steps x m ++ woken SUCCESS (shown x m) x ∷ [])) ≡ true
    at None = refl
    at (Some x) = given-calm m x

-- Lines
abbrev IsCalm : ScriptLine → World → List Basic → Type 0
IsCalm line w bs = unsettles w line ≡ false → HasUsedProcesses w → IsSettled w → IsSettled (world_after w bs)

module _ (by : ThreadRow) (w : World) (is : CanCall w by) where
  ready : is_ready w by.number ≡ true
  ready = rw (is.lives, is.idle) refl

  -- such a call isn't meant
  meant : (is_ready w by.number && true) ≡ false → ⊥
  meant off = never (is_ready w by.number) ready off
    where
      never : (a : Bool) → a ≡ true → (a && true) ≡ false → ⊥
      never a one two = absurd (grind arith)

  ends_meant : (call : EndCall) → unsettles w (run by.number (end_call call)) ≡ false → ⊥
  ends_meant (of_thread target code) off = meant off
  ends_meant (of_process target code) off = meant off

  set-calm : (call : ScriptCall) (class pid : ℕ) (b : Birth) → IsCalm (run by.number call) w (set_port_steps by class pid b)
  set-calm call class pid b off u s = set-passes (λ bs. IsSettled (world_after w bs)) by class pid b (calm-step w (SetsDebug pid b) refl s) (calm-step w (SetsException pid b) refl s)

entered : (v : World) (row : MessageRow) → IsSettled v → IsSettled (world_after v (enter row v))
entered v row s = calm-all v (enter row v) (enter-calm row v) s

calm-calls : (by : ThreadRow) (w : World) → IsCalled AnyWorld w by → Outcomes w by (λ call. IsCalm (run by.number call) w)
calm-calls by w is = record {
  creates = λ dacl off u s. calm-all w (create_steps by (unnamed_steps (next_birth by)) (free_handle w by.process)) refl s;
  founds = λ name dacl path free off u s. calm-all w (create_steps by (named_steps (next_birth by) path) (free_handle w by.process) ++ guard_steps (next_birth by) (Some name) dacl) (guard-pass is_calm (λ _ _. refl) (next_birth by) dacl) s;
  connects = λ name quality view bytes offer own connection c off u s.
      let m = connection_request by offer bytes in
      let v = world_after w (connect_start by connection offer own m) in
      let row = row_of connection (client_port by connection) m in
      calm-all w (connect_steps by connection offer own m w ++ allow_steps w by quality)
      (every-append is_calm (enter row v ++ mapped by.process own) (allow_steps w by quality) (every-append is_calm (enter row v) (mapped by.process own) (enter-calm row v) (mapped-pass is_calm by.process (λ _. refl) own)) refl) s;
  listens = λ handle port m l at off u s. calm-all w (listen_steps by port.birth (Some m)) (receipt-calm m) s;
  awaits_connect = λ handle port l at off u s. calm-all w (listen_steps by port.birth None) refl s;
  refuses = λ context bytes view a at off u s. calm-all w (refuse_steps by a) refl s;
  accepts = λ context bytes view offer a views c off u s. calm-all w (accept_steps by context (free_handle w by.process) a views) (shared-pass is_calm by a.wait (λ _. refl) (λ _. refl) views) s;
  completes = λ handle c at off u s. calm-all w (complete_steps by (free_handle w c.wait.process) c) refl s;
  sends = λ handle bytes x at off u s. entered (basic w (DrawsIdentifier by.number)) (row_of x.queue x.port (sent_by by 3 x.message)) (calm-step w (DrawsIdentifier by.number) refl s);
  asks = λ handle bytes x at off u s. entered (basic (basic w (DrawsIdentifier by.number)) (Awaits _)) (row_of x.queue x.port (sent_by by 1 x.message)) (calm-step (basic w (DrawsIdentifier by.number)) (Awaits _) refl (calm-step w (DrawsIdentifier by.number) refl s));
  replies = λ handle bytes port m x at read fits off u s. absurd (meant by w is.can off);
  receives = λ handle bytes o port queue replied m r at off u s. absurd (meant by w is.can off);
  awaits_message = λ handle bytes o port queue replied r at off u s. absurd (meant by w is.can off);
  registers = λ handle port at new few off u s. calm-step w (Registers by.number port.birth) refl s;
  repeats = λ handle port at known off u s. s;
  closes = λ handle r at off u s. absurd (meant by w is.can off);
  duplicates = λ handle access r at off u s. calm-all w (duplicate_steps by (free_handle w by.process) r (asked r access)) refl s;
  queries = λ handle r at off u s. s;
  spawns = λ pid tid new unused off u s. spawned w by pid tid new u s;
  starts = λ target tid pid at lives unused off u s. started w by tid pid lives s;
  makes_section = λ size prot asked off u s. calm-all w (section_steps by size prot (free_handle w by.process)) refl s;
  maps_view = λ handle offset size prot x rounded base m off u s. calm-all w (map_steps by (mapped_view x offset rounded prot base)) refl s;
  unmaps_view = λ address v at off u s. calm-all w (unmap_steps by v) refl s;
  reads_memory = λ address n v at off u s. s;
  writes_memory = λ address new v at writes off u s. calm-all w (write_steps by address new v) refl s;
  reads_range = λ handle bytes index n d at off u s. s;
  writes_range = λ handle bytes index new d at writes off u s. calm-all w (write_range_steps by new d) refl s;
  impersonates = λ handle bytes own allowed off u s. calm-all w (impersonate_steps by own) refl s;
  reverts = λ class off u s. calm-all w (revert_steps by) refl s;
  opens_own = λ own at off u s. calm-all w (token_steps by NtOpenThreadToken (held_content own) (free_handle w by.process)) refl s;
  opens_primary = λ off u s. calm-all w (token_steps by NtOpenProcessToken (process_content w by) (free_handle w by.process)) refl s;
  asks_token = λ handle class t field at told off u s. s;
  sets = λ target class handle pid port at found live. set-calm by w is.can (set_information_process target class handle) class pid port.birth;
  handles = λ code handled off u s. absurd (meant by w is.can off);
  hears = λ code handled h found off u s. absurd (meant by w is.can off);
  fails = λ code handled off u s. absurd (meant by w is.can off);
  ends = λ call name own pid code ts doomed off u s. absurd (ends_meant by w is.can call off);
}

calm-lines : LineLaw AnyWorld IsCalm
calm-lines = record {
  tells = λ line w e _ off u s. s;
  calls = calm-calls;
  boots = λ w pid tid name content new unused _ _ off u s. booted w pid tid None (directive_birth pid pid) (directive_birth tid pid) content new u s;
  threads = λ w tid pid lives unused _ _ off u s. threaded w (new_thread tid pid (directive_birth tid pid)) s (live-undoomed w pid lives s);
  names = λ w name content _ off u s. record { marks = s.marks; doomed = s.doomed };
  dirs = λ w text path free _ off u s. record { marks = s.marks; doomed = s.doomed };
  links = λ w text target path to free _ off u s. record { marks = s.marks; doomed = s.doomed };
}

-- behind the own steps of such a line nothing is due
pub settled-behind : (w : World) (line : ScriptLine) → IsSoundWorld w → unsettles w line ≡ false → HasUsedProcesses w → IsSettled w → IsSettled (world_after w (own_steps line w))
settled-behind w line sound off u s = line-does AnyWorld IsCalm calm-lines w sound tt line off u s
