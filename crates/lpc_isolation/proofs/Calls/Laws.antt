-- What each call owes the law.
use Rattle.lpc_model.specs.Left.{HasLivingPorts}
use Rattle.std.proofs.Common.{◌≡◌, ℕ, ◌+◌, ◌≤◌, List, [], ◌∷◌, ◌++◌, Bool, true, false, cond, not, None, Some, refl, subst, arith}
use Rattle.std.specs.Prelude.{◌==◌, ◌&&◌}
use Rattle.std.proofs.lemmas.Bool.{eqb-true}
use Rattle.lpc_base.specs.Rows.{count, has}
use Rattle.lpc_base.proofs.RowWords.{count-none, count-push}
use Rattle.lpc_model.specs.World.{Birth, Contents, ThreadRow, UsedThread, World}
use Rattle.lpc_model.specs.Found.{is_live, is_used_thread, live_thread, wait_of, was_process}
use Rattle.lpc_model.specs.Basics.{world_after}
use Rattle.lpc_model.specs.Grammar.{has_call_ids}
use Rattle.lpc_model.specs.Tests.{next_birth}
use Rattle.lpc_model.specs.Creation.{second_birth}
use Rattle.lpc_model.specs.Lines.{ScriptCall, create_process}
use Rattle.lpc_model.specs.SoundWaits.{IsSoundWorld}
use Rattle.lpc_model.specs.Circle.{Group, Whose, is_fine_call}
use Rattle.lpc_model.proofs.Calls.Holding.{Holds}
use Rattle.lpc_isolation.proofs.Gone.Served.{served}
use Rattle.lpc_isolation.proofs.Views.Alone.{HasFineRows}
use Rattle.lpc_isolation.proofs.Views.View.{view}
use Rattle.lpc_isolation.proofs.Views.Reads.{Reads}
use Rattle.lpc_isolation.proofs.Rows.Fair.{are_fair}
use Rattle.lpc_isolation.proofs.Views.Apart.{Owned, are_apart}
use Rattle.lpc_isolation.proofs.Views.Callers.{Answered, Led}
use Rattle.lpc_isolation.proofs.Calls.Lines.{Begins}
use Rattle.lpc_isolation.proofs.Plays.Lines.{OnceUsed, seeing}
use Rattle.lpc_isolation.proofs.Each.Listens.{own_entry}
use Rattle.lpc_isolation.proofs.Rows.Ids.{Numbered}
use Rattle.lpc_isolation.proofs.Rows.Asked.{Asked}
use Rattle.lpc_isolation.proofs.Gone.Thin.{Alive, Closed, thin, live-home}
use Rattle.lpc_isolation.proofs.Gone.ThinCalls.{AreClosed}
use Rattle.lpc_isolation.proofs.Memory.Heard.{Heard, call_memo}
use Rattle.lpc_isolation.proofs.Memory.Knows.{AllKnown}
use Rattle.lpc_isolation.proofs.Memory.Calls.{Hears}
use Rattle.lpc_isolation.proofs.Gone.Fine.{FineAfter}
use Rattle.lpc_isolation.proofs.Rows.Paths.{Paths, are_paths}
use Rattle.lpc_isolation.proofs.Rows.Sent.{are_sent}
use Rattle.lpc_isolation.proofs.Each.Refuses.{Refuses}
use Rattle.lpc_isolation.proofs.Each.Instances.{At, Leading}

pub same-used : (w v : World) → v.used_threads ≡ w.used_threads → OnceUsed w → OnceUsed v
same-used w v same once tid = rw same (once tid)

pub at-most : (tid : ℕ) (us : List UsedThread) (u : UsedThread) → has (is_used_thread u.number) us ≡ false → count (is_used_thread tid) us ≤ 1 → count (is_used_thread tid) (us ++ u ∷ []) ≤ 1
at-most tid us u new once = at (u.number == tid) refl
  where
    at : (b : Bool) → (u.number == tid) ≡ b → count (is_used_thread tid) (us ++ u ∷ []) ≤ 1
    at true is =
        let same : u.number ≡ tid = eqb-true _ _ is in
        let none : count (is_used_thread tid) us ≡ 0 = count-none (is_used_thread tid) us (subst (λ n. has (is_used_thread n) us ≡ false) same new) in
        rw (count-push (is_used_thread tid) us u, none, is) (omega arith)
    at false other = rw (count-push (is_used_thread tid) us u, other) (few (count (is_used_thread tid) us) once)
      where
        few : (n : ℕ) → n ≤ 1 → n + 0 ≤ 1
        few n is = omega (arith, is)

-- a process that lives stands
pub home-live : (k : Alive) (u : World) (n : ℕ) → Closed k u → is_live u n ≡ true → k.homes n ≡ true
home-live = live-home

-- a number that a call may make a process of
abbrev pub is_home : World → ScriptCall → ℕ → Bool
is_home u (create_process pid tid) n = (n == pid) && not (was_process u pid)
is_home u call n = false

-- what a call may make is alive
pub record Room (k : Alive) (u : World) (by : ThreadRow) (call : ScriptCall) : Type 0 where
  pub port : k.ports (next_birth by) ≡ true
  pub section : k.sections (next_birth by) ≡ true
  pub token : k.tokens (next_birth by) ≡ true
  pub process : k.processes (next_birth by) ≡ true
  pub thread : k.threads (next_birth by) ≡ true
  pub second : k.threads (second_birth by) ≡ true
  pub home : (n : ℕ) → is_home u call n ≡ true → k.homes n ≡ true

pub record Lawful (call : ScriptCall) : Type 0 where
  -- the call tells its caller first, and at its end no thread waits that it woke; numbers are used once; no refusal is a success
  pub begins : (m : Group) (c : ℕ) (w : World) (by : ThreadRow) (known : List ℕ → Birth) → At m c w by known → Holds (Begins w by.number) (served w by call)
  pub once : (m : Group) (c : ℕ) (w : World) (by : ThreadRow) (known : List ℕ → Birth) → At m c w by known → OnceUsed w → Holds (λ bs. OnceUsed (world_after w bs)) (served w by call)
  pub numbered : (m : Group) (c : ℕ) (w : World) (by : ThreadRow) (known : List ℕ → Birth) → At m c w by known → has_call_ids call ≡ true → Numbered w → Holds (λ bs. Numbered (world_after w bs)) (served w by call)
  pub refuses : (w : World) (by : ThreadRow) → Refuses (served w by call)
  -- what it keeps: rows that are fair, names, the ways of requests, the waits of those who asked
  pub fair : (m : Group) (c : ℕ) (w : World) (by : ThreadRow) (known : List ℕ → Birth) → At m c w by known → Holds (λ bs. HasFineRows m c (world_after w bs) → are_fair m c w bs ≡ true) (served w by call)
  pub paths : (m : Group) (c : ℕ) (w : World) (by : ThreadRow) (known : List ℕ → Birth) → At m c w by known → Paths w → Holds (λ bs. are_paths w bs ≡ true) (served w by call)
  pub asked : (m : Group) (c : ℕ) (w : World) (by : ThreadRow) (known : List ℕ → Birth) → At m c w by known → Asked w → Holds (λ bs. Asked (world_after w bs)) (served w by call)
  pub sent : (u : World) (by : ThreadRow) → IsSoundWorld u → live_thread u by.number ≡ Some by → Holds (λ bs. are_sent u bs ≡ true) (served u by call)
  -- of an outsider: the view loses only waits whose wakes are told
  pub apart : (m : Group) (c : ℕ) (d : Whose) (w : World) (by : ThreadRow) (known : List ℕ → Birth) → At m c w by known → m by.process ≡ false → Holds (λ bs. HasFineRows m c (world_after w bs) → are_apart m c (world_after w bs) d w bs ≡ true) (served w by call)
  -- of c: the view answers as the world does, and changes as it does
  pub own : (m : Group) (c : ℕ) (d : Whose) (w : World) (by : ThreadRow) (known : List ℕ → Birth) (k : Contents) → At m c w by known → by.process ≡ c → is_fine_call m w call ≡ true → Reads m c k w by call → Answered (λ bs led. HasFineRows m c (world_after w bs) → Led m c (world_after w bs) d w bs led) (served w by call) (served (seeing k (view m w) call) by call)
  -- of another member: the view and what c is told follow from the view and the member's own answer
  pub leads : (m : Group) (c : ℕ) (d : Whose) (w : World) (by : ThreadRow) (known : List ℕ → Birth) → At m c w by known → m by.process ≡ true → (by.process == c) ≡ false → Holds (λ bs. HasFineRows m c (world_after w bs) → Leading m c (world_after w bs) d w by known call bs) (served w by call)
  -- what is remembered of outsiders' connects stays right, by the wakes of an outsider's call and by a member's answer
  pub hears : (m : Group) (c : ℕ) (d : Whose) (w : World) (by : ThreadRow) (known : List ℕ → Birth) (memo : List Heard) → At m c w by known → Owned w w → Numbered w → Asked w → AllKnown m memo w → m by.process ≡ false → Holds (λ bs. HasFineRows m c (world_after w bs) → Hears m c (world_after w bs) d w memo bs) (served w by call)
  pub notes : (m : Group) (c : ℕ) (w : World) (by : ThreadRow) (known : List ℕ → Birth) (memo : List Heard) → At m c w by known → Owned w w → Numbered w → Asked w → AllKnown m memo w → m by.process ≡ true → Holds (λ bs. AllKnown m (cond (by.process == c) memo (call_memo m (view m w) by call (own_entry bs) memo)) (world_after w bs)) (served w by call)
  -- it answers alike where rows that nothing names have gone, names what stands alone, and makes processes and ports as the circle has them
  pub alike : (k : Alive) (u : World) (by : ThreadRow) → live_thread u by.number ≡ Some by → IsSoundWorld u → HasLivingPorts u → Closed k u → served (thin k u) by call ≡ served u by call
  pub stands : (k : Alive) (u : World) (by : ThreadRow) → live_thread u by.number ≡ Some by → IsSoundWorld u → Closed k u → Room k u by call → Holds (AreClosed k) (served u by call)
  pub fine : (m : Group) (c : ℕ) (after u : World) (by : ThreadRow) → wait_of u by.number ≡ None → HasFineRows m c after → Holds (FineAfter m c after u) (served u by call)
