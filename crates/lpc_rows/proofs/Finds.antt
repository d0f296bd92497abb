-- What is found in the rows: a caller and its process, and the wait of a thread.
use Rattle.std.proofs.Common.{◌≡◌, ℕ, List, [], ◌∷◌, Bool, true, false, not, ◌&&◌, ◌||◌, ◌==◌, Option, Some, None, MatchOption, IfSome, option_map, refl, ap, sym, subst, ◌∙◌, arith}
use Rattle.std.specs.Prelude.{◌<◌, is_none, is_some, length}
use Rattle.std.proofs.lemmas.Bool.{and_parts, eqb-true}
use Rattle.std.proofs.lemmas.Bool.Decides.{nat_tests}
use Rattle.lpc_base.specs.declared.birth.Birth.{Birth}
use Rattle.lpc_base.specs.Rows.{count, every, first, has}
use Rattle.lpc_base.proofs.RowMaps.{every-first}
use Rattle.lpc_base.proofs.RowWords.{first-passes, has-first, has_none-more}
use Rattle.lpc_base.proofs.Bools.{number-turned}
use Rattle.lpc_model.specs.World.{Accepted, Connect, Event, Listen, Receive, Request, ThreadRow, WaitKind, WaitRow, World}
use Rattle.lpc_model.specs.Found.{is_live_thread, is_process, is_table, is_thread, lives_in, live_thread, same_birth, wait_of, waits_as}
use Rattle.lpc_model.specs.Entering.{takes_from}
use Rattle.lpc_rows.specs.Kept.{is_alive, is_pending, is_pending_in, pends_as}
use Rattle.lpc_rows.specs.Lawful.{are_single, is_housed, is_of, is_quiet}
use Rattle.lpc_rows.specs.Ready.{caller, is_ready, thread_in, wait_in, waiter}
use Rattle.lpc_rows.proofs.Lawful.{place-left}

-- Callers
-- a live thread that passes is in a process that stands and has a table of handles
pub housed_first : (w : World) (p : ThreadRow → Bool) (t : ThreadRow) → t.live ≡ true → every (is_housed w) w.threads ≡ true → first p w.threads ≡ Some t → (has (is_process t.process) w.processes ≡ true) × (has (is_table t.process) w.handles ≡ true)
housed_first w p t live all found =
    let one : is_housed w t ≡ true = every-first (is_housed w) p w.threads t all found in
    both t.live (has (is_process t.process) w.processes) (has (is_table t.process) w.handles) live one
  where
    both : (l a b : Bool) → l ≡ true → ((not l || a) && b) ≡ true → (a ≡ true) × (b ≡ true)
    both true true b live e = (refl, e)
    both true false b live e = absurd (cc)
    both false a b live e = absurd (cc)

-- a live thread that is found has the number, stands, and is the caller
pub record IsCaller (w : World) (tid : ℕ) (t : ThreadRow) : Type 0 where
  pub caller_is : t ≡ caller w tid
  pub number : t.number ≡ tid
  pub there : has (is_thread tid) w.threads ≡ true
  pub process : has (is_process t.process) w.processes ≡ true
  pub table : has (is_table t.process) w.handles ≡ true

pub is_caller : (w : World) (tid : ℕ) (t : ThreadRow) → every (is_housed w) w.threads ≡ true → live_thread w tid ≡ Some t → IsCaller w tid t
unfolding caller
is_caller w tid t all found = record {
  caller_is = sym (ap thread_in found);
  number = eqb-true t.number tid (and_parts (t.number == tid) t.live (first-passes (is_live_thread tid) w.threads t found)).0;
  there = has-first (is_live_thread tid) (is_thread tid) (λ x h. (and_parts (x.number == tid) x.live h).0) w.threads t found;
  process = (housed_first w (is_live_thread tid) t (and_parts (t.number == tid) t.live (first-passes (is_live_thread tid) w.threads t found)).1 all found).0;
  table = (housed_first w (is_live_thread tid) t (and_parts (t.number == tid) t.live (first-passes (is_live_thread tid) w.threads t found)).1 all found).1;
}

-- a thread that can make a call is found
pub not_ready : (w : World) (tid : ℕ) → is_ready w tid ≡ true → live_thread w tid ≡ None → ⊥
not_ready w tid ready none =
    let some : is_some (live_thread w tid) ≡ true = (and_parts _ _ ready).0 in
    absurd (cc)

-- and lives
pub lives_ready : (w : World) (tid : ℕ) → is_ready w tid ≡ true → has (is_live_thread tid) w.threads ≡ true
lives_ready w tid ready = (and_parts _ _ ready).0

-- and more threads live than wait
pub few_wait : (w : World) (tid : ℕ) → are_single w.waits ≡ true → every (is_of w.threads) w.waits ≡ true → is_ready w tid ≡ true → length w.waits < count is_alive w.threads
few_wait w tid single all ready =
    let idle : is_none (wait_of w tid) ≡ true = (and_parts (is_some (live_thread w tid)) (is_none (wait_of w tid)) ready).1 in
    place-left w.threads w.waits tid single all (lives_ready w tid ready) (grind (arith, idle))

-- the process of a live thread stands, and has a table of handles
pub live_process : (w : World) (pid : ℕ) → every (is_housed w) w.threads ≡ true → has (lives_in pid) w.threads ≡ true → (has (is_process pid) w.processes ≡ true) × (has (is_table pid) w.handles ≡ true)
live_process w pid all live = of_first (first (lives_in pid) w.threads) refl live
  where
    of_first : (o : Option ThreadRow) → first (lives_in pid) w.threads ≡ o → is_some o ≡ true → (has (is_process pid) w.processes ≡ true) × (has (is_table pid) w.handles ≡ true)
    of_first None found there = absurd (cc)
    of_first (Some t) found there =
        let is = and_parts (t.process == pid) t.live (first-passes (lives_in pid) w.threads t found) in
        let own : t.process ≡ pid = eqb-true t.process pid is.0 in
        subst (λ q. (has (is_process q) w.processes ≡ true) × (has (is_table q) w.handles ≡ true)) own (housed_first w (lives_in pid) t is.1 all found)

-- Waits
elsewhere : (p : WaitRow → Bool) (x : WaitRow) (xs : List WaitRow) (y : WaitRow) → has (waits_as x.thread) xs ≡ false → first p xs ≡ Some y → (x.thread == y.thread) ≡ false
elsewhere p x [] y none is = absurd (cc)
elsewhere p x (z ∷ zs) y none is = grind (arith, elsewhere p x zs y, number-turned z.thread x.thread, number-turned y.thread x.thread)

-- the first that passes is its thread's wait
pub own_wait : (p : WaitRow → Bool) (xs : List WaitRow) (x : WaitRow) → are_single xs ≡ true → first p xs ≡ Some x → first (waits_as x.thread) xs ≡ Some x
own_wait p [] y one is = absurd (cc)
own_wait p (x ∷ xs) y one is = elim (p x) as (λ b. p x ≡ b → first (waits_as y.thread) (x ∷ xs) ≡ Some y) [
  | true ↦ λ here. let same : x ≡ y = grind arith in grind (arith, same, nat_tests, ap (λ (z : WaitRow). z.thread) same)
  | false ↦ λ off. let found : first p xs ≡ Some y = grind arith in
      grind (arith, own_wait p xs y, elsewhere p x xs y (grind arith) found)
] refl

-- and where it isn't pending, its thread waits for no reply to a request that isn't received
pub idle_first : (p : WaitRow → Bool) (xs : List WaitRow) (x : WaitRow) → are_single xs ≡ true → first p xs ≡ Some x → is_pending x ≡ false → has (pends_as x.thread) xs ≡ false
idle_first p [] y one is off = refl
idle_first p (x ∷ xs) y one is off = elim (p x) as (λ b. p x ≡ b → has (pends_as y.thread) (x ∷ xs) ≡ false) [
  | true ↦ λ here. let same : x ≡ y = grind arith in
      subst (λ (z : WaitRow). has (pends_as z.thread) (x ∷ xs) ≡ false) same
      (grind (arith, has_none-more (waits_as x.thread) (pends_as x.thread) (λ z none. grind arith) xs, (let P : WaitRow → Type 0 = λ z. is_pending z ≡ false in subst P (sym same) off)))
  | false ↦ λ there. let found : first p xs ≡ Some y = grind arith in
      let none : has (pends_as y.thread) xs ≡ false = idle_first p xs y (grind arith) found off in
      grind (arith, none, elsewhere p x xs y (grind arith) found)
] refl

-- a wait that is found by its test, which no pending wait passes
pub record IsFound (w : World) (p : WaitRow → Bool) (r : Option ℕ) : Type 0 where
  pub found : MatchOption r (first p w.waits ≡ None) (λ tid. first p w.waits ≡ Some (waiter w tid))
  pub waits : IfSome r (λ tid. has (waits_as tid) w.waits ≡ true)
  pub thread : IfSome r (λ tid. let x = waiter w tid in x.thread ≡ tid)
  pub idle : IfSome r (λ tid. is_pending_in w tid ≡ false)
  pub passes : IfSome r (λ tid. p (waiter w tid) ≡ true)

found_row : (w : World) (p : WaitRow → Bool) → are_single w.waits ≡ true → ((x : WaitRow) → p x ≡ true → is_pending x ≡ false) → (o : Option WaitRow) → first p w.waits ≡ o → IsFound w p (option_map (λ x. x.thread) o)
unfolding waiter
found_row w p one off None is = record { found = is; waits = tt; thread = tt; idle = tt; passes = tt }
found_row w p one off (Some x) is =
    let own : first (waits_as x.thread) w.waits ≡ Some x = own_wait p w.waits x one is in
    record {
      found = is ∙ ap Some (sym (ap wait_in own));
      waits = ap is_some own;
      thread = ap (λ o. (wait_in o).thread) own;
      idle = idle_first p w.waits x one is (off x (first-passes p w.waits x is));
      passes = ap (λ o. p (wait_in o)) own ∙ first-passes p w.waits x is;
    }

pub found_wait : (w : World) (p : WaitRow → Bool) (r : Option ℕ) → are_single w.waits ≡ true → ((x : WaitRow) → p x ≡ true → is_pending x ≡ false) → r ≡ option_map (λ x. x.thread) (first p w.waits) → IsFound w p r
found_wait w p r one off is = subst (λ (o : Option ℕ). IsFound w p o) (sym is) (found_row w p one off (first p w.waits) refl)

-- what a wait of a queue is for doesn't stand there
pub still_found : (w : World) (p : WaitRow → Bool) (r : Option ℕ) → are_single w.waits ≡ true → every (is_quiet w.messages) w.waits ≡ true → r ≡ option_map (λ x. x.thread) (first p w.waits) → IfSome r (λ tid. is_quiet w.messages (waiter w tid) ≡ true)
unfolding waiter
still_found w p r one quiet is = subst (λ (o : Option ℕ). IfSome o (λ tid. is_quiet w.messages (waiter w tid) ≡ true)) (sym is) (by_wait (first p w.waits) refl)
  where
    by_wait : (o : Option WaitRow) → first p w.waits ≡ o → IfSome (option_map (λ (x : WaitRow). x.thread) o) (λ tid. is_quiet w.messages (waiter w tid) ≡ true)
    by_wait None at = tt
    by_wait (Some x) at = ap (λ o. is_quiet w.messages (wait_in o)) (own_wait p w.waits x one at) ∙ every-first (is_quiet w.messages) p w.waits x quiet at

-- a receive or listen isn't pending
taker_idle : (k : WaitKind) (b c d : Bool) → ((elim k [ Receive ↦ true | _ ↦ false ]) || ((elim k [ Listen ↦ true | _ ↦ false ]) && c)) && d ≡ true
    → ((elim k [ Request m ↦ true | _ ↦ false ]) || ((elim k [ Event r ↦ true | _ ↦ false ]) || ((elim k [ Connect m offer ↦ true | _ ↦ false ]) || (elim k [ Accepted m reply ↦ true | _ ↦ false ])))) && not b ≡ false
taker_idle Receive b c d h = refl
taker_idle Listen b c d h = refl
taker_idle e b c d h = absurd (cc)

pub taker_off : (q : Birth) (connects : Bool) (x : WaitRow) → takes_from q connects x ≡ true → is_pending x ≡ false
taker_off q connects x h = taker_idle x.kind x.received connects (same_birth x.queue q) h
