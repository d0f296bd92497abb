-- Each line keeps it that members' views, and what connects offer, are of members' sections or of outer ones. So what c reads
-- through a described range is known.
use Rattle.lpc_base.specs.declared.status.TheConstants.{OBJECT_NAME_COLLISION}
use Rattle.lpc_model.specs.Refusal.{refuse_if}
use Rattle.std.proofs.lemmas.Bool.{eqb-true}
use Rattle.std.proofs.Common.{◌≡◌, ℕ, List, Bool, true, false, Option, Some, None, refl, ap, sym, subst, ◌∙◌, arith}
use Rattle.std.specs.Prelude.{◌||◌, is_some}
use Rattle.lpc_base.specs.Rows.{every, first, has}
use Rattle.lpc_base.proofs.RowMaps.{every-first}
use Rattle.lpc_base.proofs.RowWords.{first-passes}
use Rattle.lpc_model.specs.declared.entry.Word.TheVariants as word
use Rattle.lpc_model.specs.World.{Birth, Contents, ThreadRow, ViewRow, ViewTable, WaitRow, World}
use Rattle.lpc_model.specs.Found.{holds_range, is_live_thread, is_space, live_thread, views_in, views_of, wait_of, named_token}
use Rattle.lpc_model.specs.Basics.{Basic, world_after}
use Rattle.lpc_model.specs.Lines.{ScriptCall, ScriptLine, boot, dir, link, read_request_data, run, thread, token, of_resident}
use Rattle.lpc_model.specs.Machine.{own_steps, boot_line, dir_line, link_line, thread_line, thread_test, unused_test, name_of_call, boot_token, token_line}
use Rattle.lpc_model.specs.Named.{free_name, spelled_name}
use Rattle.lpc_model.specs.Ranges.{asked_test, described_test}
use Rattle.lpc_model.proofs.Calls.Holding.{bind_holds, directed_holds, holds_ok, settled_holds}
use Rattle.lpc_model.specs.Circle.{Group, ReadsInner, is_fine_line, names_no_outsider}
use Rattle.lpc_isolation.proofs.Calls.Lines.{busy, called, nobody}
use Rattle.lpc_isolation.proofs.Each.Instances.{caller}
use Rattle.lpc_isolation.proofs.Each.Described.{IsDescribed, c-client_in, described-is}
use Rattle.lpc_isolation.proofs.Gone.Served.{served, own_served_step, own_served}
use Rattle.lpc_isolation.proofs.Owed.Mapped.{ShowsKnown, has-space, is_known_space, is_known_view, calls-known, is_known_step, run-known}
use Rattle.lpc_isolation.proofs.Plays.Stands.{State, Stood, line-call, ready-at}
use Rattle.lpc_isolation.proofs.Rows.Fair.{Fair, implies}
use Rattle.lpc_isolation.proofs.Memory.Knows.{known_queue}
use Rattle.lpc_model.specs.SoundWaits.{has_home}
use Rattle.lpc_isolation.proofs.Views.Alone.{HasFineRows, ShowsOuter}
use Rattle.lpc_isolation.proofs.Views.Bytes.{Agree}
use Rattle.lpc_isolation.proofs.Views.Reads.{LineRight, RangeRight}
use Rattle.lpc_isolation.proofs.Views.Seen.{live-owner}

-- The steps of a line
abbrev AreKnown : Group → (Birth → Bool) → List Basic → Type 0
AreKnown m outer bs = every (is_known_step m outer) bs ≡ true

module _ (m : Group) (c : ℕ) (outer : Birth → Bool) (w : World) (s : State) (c_in : m c ≡ true) (st : Stood m c w s) (fine : HasFineRows m c w) (shown : ShowsKnown m outer w) where
  -- a process that calls has a table of views
  home-of : (tid : ℕ) (by : ThreadRow) → live_thread w tid ≡ Some by → has (is_space by.process) w.views ≡ true
  home-of tid by live = has-space by.process w.views w.handles st.firm.views.tables (every-first (has_home w) (is_live_thread tid) w.threads by st.firm.sound.homes live)

  -- what such steps are, where the world behind them shows what is outer
  abbrev Maps : List Basic → Type 0
  Maps bs = ShowsOuter m outer (world_after w bs) → AreKnown m outer bs

  run_steps-known : (tid : ℕ) (call : ScriptCall) → ShowsOuter m outer (own_served_step w (run tid call)).world → AreKnown m outer (own_served (run tid call) w)
  run_steps-known tid call = at (live_thread w tid) refl
    where
      ready : (by : ThreadRow) → live_thread w tid ≡ Some by → (o : Option WaitRow) → wait_of w tid ≡ o → Maps (own_served (run tid call) w)
      ready by live (Some x) waits = subst Maps (sym (busy w tid call by x live waits)) (λ _. refl)
      ready by live None idle =
          let k = caller m c w by (known_queue s.memo) w (ready-at m c w s tid by c_in st fine live idle) refl in
          subst Maps (sym (called w tid call by live idle)) (settled_holds Maps by (name_of_call call) (served w by call) (calls-known m c outer w by k shown (home-of tid by live) call) (λ _ _ _. refl))

      at : (o : Option ThreadRow) → live_thread w tid ≡ o → Maps (own_served (run tid call) w)
      at None none = subst Maps (sym (nobody w tid call none)) (λ _. refl)
      at (Some by) live = ready by live (wait_of w tid) refl

  line_steps-known : (line : ScriptLine) → ShowsOuter m outer (own_served_step w line).world → AreKnown m outer (own_served line w)
  unfolding own_steps boot_line token_line thread_line dir_line link_line
  line_steps-known (of_resident tid what had) next = refl
  line_steps-known (run tid call) next = run_steps-known tid call next
  line_steps-known (boot pid tid name) next = directed_holds (AreKnown m outer) word.Boot (boot_line w pid tid name) (bind_holds (boot_token w name) _ (AreKnown m outer) (λ _ _. bind_holds (unused_test w pid tid) _ (AreKnown m outer) (λ _ _. refl))) (λ _. refl)
  line_steps-known (token name content) next = directed_holds (AreKnown m outer) word.Token (token_line w name content) (bind_holds (refuse_if (is_some (named_token w name)) OBJECT_NAME_COLLISION) _ (AreKnown m outer) (λ _ _. refl)) (λ _. refl)
  line_steps-known (thread tid pid) next = directed_holds (AreKnown m outer) word.Thread (thread_line w tid pid) (bind_holds (thread_test w tid pid) _ (AreKnown m outer) (λ _ _. refl)) (λ _. refl)
  line_steps-known (dir path) next = directed_holds (AreKnown m outer) word.Dir (dir_line w path) (bind_holds (free_name w path) _ (AreKnown m outer) (λ _ _. refl)) (λ _. refl)
  line_steps-known (link path target) next = directed_holds (AreKnown m outer) word.Link (link_line w path target) (bind_holds (spelled_name target) _ (AreKnown m outer) (λ _ _. bind_holds (free_name w path) _ (AreKnown m outer) (λ _ _. refl))) (λ _. refl)

  pub line-shown : (line : ScriptLine) → ShowsOuter m outer (own_served_step w line).world → ShowsKnown m outer (own_served_step w line).world
  line-shown line next = run-known m outer w (own_served line w) (line_steps-known line next) shown

-- What c reads
-- a member's view
last : (a b : Bool) → a ≡ true → implies a b ≡ true → b ≡ true
last a b is it = grind arith

members-view : (m : Group) (outer : Birth → Bool) (w : World) (pid : ℕ) (test : ViewRow → Bool) (v : ViewRow) → ShowsKnown m outer w → m pid ≡ true → first test (views_of w pid) ≡ Some v → is_known_view m outer v ≡ true
members-view m outer w pid test v h inside is = at (first (is_space pid) w.views) refl is
  where
    at : (o : Option ViewTable) → first (is_space pid) w.views ≡ o → first test (views_in o) ≡ Some v → is_known_view m outer v ≡ true
    at None none is = absurd (cc)
    at (Some t) some is =
        let here : m t.process ≡ true = ap m (eqb-true t.process pid (first-passes (is_space pid) w.views t some)) ∙ inside in
        let all : every (is_known_view m outer) t.rows ≡ true = last (m t.process) (every (is_known_view m outer) t.rows) here (every-first (is_known_space m outer) (is_space pid) w.views t h.views some) in
        every-first (is_known_view m outer) test t.rows v all is

either : (a b : Bool) → b ≡ false → (a || b) ≡ true → a ≡ true
either a b off is = grind arith

call-right : (m : Group) (c : ℕ) (outer : Birth → Bool) (w : World) (k : Contents) (tid : ℕ) (by : ThreadRow) (call : ScriptCall) → Fair m c w → is_fine_line m c w (run tid call) ≡ true → ReadsInner c outer w (run tid call) → ShowsKnown m outer w → Agree m outer k w.contents
    → live_thread w tid ≡ Some by → wait_of w tid ≡ None → by.process ≡ c → RangeRight m k w by call
call-right m c outer w k tid by (read_request_data handle bytes index n) f fine reads h a live idle mine = λ d at.
    let inside : names_no_outsider m w bytes ≡ true = line-call m c w tid (read_request_data handle bytes index n) fine by (live-owner m c w tid by f live) mine in
    let is : IsDescribed w by handle bytes index n d = holds_ok (IsDescribed w by handle bytes index n) (described_test w by handle bytes index n) d (described-is w by handle bytes index n) at in
    let client : m is.wait.process ≡ true = holds_ok (λ (x : WaitRow). m x.process ≡ true) (asked_test w by handle bytes) is.wait (c-client_in m c w by handle bytes f inside) is.asked in
    let known : is_known_view m outer d.view ≡ true = members-view m outer w is.wait.process (holds_range is.range.base n) d.view h client is.held in
    let off : outer d.view.section ≡ false = reads by d live idle mine at in
    let section : m d.view.section.process ≡ true = either (m d.view.section.process) (outer d.view.section) off known in
    (section, a.2 d.view.section section off)
call-right m c outer w k tid by call f fine reads h a live idle mine = tt

pub line-right : (m : Group) (c : ℕ) (outer : Birth → Bool) (w : World) (k : Contents) (line : ScriptLine) → Fair m c w → is_fine_line m c w line ≡ true → ReadsInner c outer w line → ShowsKnown m outer w → Agree m outer k w.contents → LineRight m c k w line
line-right m c outer w k (run tid call) f fine reads h a = λ by live idle mine. call-right m c outer w k tid by call f fine reads h a live idle mine
line-right m c outer w k line f fine reads h a = tt
