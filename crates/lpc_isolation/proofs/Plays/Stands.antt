-- A state that is played from the inputs, and what it stands for: what c sees of each line.
use Rattle.lpc_isolation.proofs.Views.Reads.{FineLine}
use Rattle.lpc_isolation.proofs.Calls.Services.{serves}
use Rattle.std.proofs.Common.{◌≡◌, ℕ, List, [], ◌∷◌, ◌++◌, Bool, true, false, cond, Option, Some, None, refl, ap, sym, subst, arith}
use Rattle.std.specs.Prelude.{◌==◌, Ok}
use Rattle.lpc_base.specs.Rows.{every, given, passes}
use Rattle.lpc_base.proofs.Bools.{same-number}
use Rattle.lpc_model.specs.declared.entry.Entry.{Entry}
use Rattle.lpc_model.specs.World.{Birth, Contents, Impersonation, ThreadRow, WaitRow, World}
use Rattle.lpc_model.specs.Found.{live_thread, wait_of}
use Rattle.lpc_model.specs.Basics.{world_after}
use Rattle.lpc_model.specs.Connect.{ConnectAnswer, answer_test}
use Rattle.lpc_model.specs.Lines.{of_resident, ScriptCall, ScriptLine, boot, dir, link, raise, run, thread, token}
use Rattle.lpc_model.specs.Machine.{boot_line, dir_line, link_line, thread_line, token_line}
use Rattle.lpc_isolation.proofs.Gone.Served.{own_served_step, own_served}
use Rattle.lpc_model.proofs.Calls.Holding.{holds_ok}
use Rattle.lpc_model.proofs.Calls.Usable.{live-number}
use Rattle.lpc_model.specs.Circle.{Everyone, Group, Item, Of, is_fine_call, is_fine_line, is_seen, line_whose, owner, full_items, thread_whose}
use Rattle.lpc_isolation.proofs.Views.Alone.{HasFineRows, alone, HasFineRaisers}
use Rattle.lpc_isolation.proofs.Gone.Bare.{own_line_events}
use Rattle.lpc_isolation.proofs.Views.View.{view}
use Rattle.lpc_isolation.proofs.Views.Bytes.{Right, contents_after}
use Rattle.lpc_isolation.proofs.Rows.Fair.{Fair}
use Rattle.lpc_isolation.proofs.Views.Seen.{live-owner}
use Rattle.lpc_isolation.proofs.Views.Apart.{Owned, absorb, absorb_all}
use Rattle.lpc_isolation.proofs.Rows.Bound.{OnceBound, seen-names}
use Rattle.lpc_isolation.proofs.Rows.Asked.{Asked}
use Rattle.lpc_isolation.proofs.Rows.Ids.{Numbered, all-readable}
use Rattle.lpc_isolation.proofs.Rows.Paths.{Paths, paths-ways}
use Rattle.lpc_isolation.proofs.Plays.Play.{Player, absorbed, own_told_at, told_items, gave_items, own_given_at}
use Rattle.lpc_isolation.proofs.Plays.Lines.{Follows, IsLed, LedBy, OnceUsed, Owes, accepts, follows, is_done, led_line, next_entry, next_given, raises, run-hidden, run-visible, shown_run, turn}
use Rattle.lpc_isolation.proofs.Calls.Lines.{owes-busy, owes-call, owes-none}
use Rattle.lpc_isolation.proofs.Each.Instances.{At, leading, leads_by}
use Rattle.lpc_isolation.proofs.Each.Listens.{own_entry}
use Rattle.lpc_isolation.proofs.Rows.Kept.{owned-sound}
use Rattle.lpc_isolation.proofs.Plays.Residents.{resident-done, resident-hidden, resident-visible, resident_shown}
use Rattle.lpc_isolation.proofs.Plays.Directives.{boot-directs, dir-directs, directive-done, directive-hidden, directive-visible, directive_shown, directive_turn, link-directs, thread-directs, token-directs}
use Rattle.lpc_model.specs.Connect.{reaches}
use Rattle.lpc_model.specs.Found.{is_offered, names_wait}
use Rattle.lpc_isolation.proofs.Each.Accepts.{reached-of, reached-own}
use Rattle.lpc_isolation.proofs.Memory.Heard.{Heard, entries_memo, entry_memo, line_memo}
use Rattle.lpc_isolation.proofs.Memory.Bytes.{written_turn}
use Rattle.lpc_isolation.proofs.Memory.Knows.{AllKnown, known_queue, knows-queue}
use Rattle.lpc_isolation.proofs.Rows.Firm.{Firm, firm-shut}

-- a state: the view, what is remembered of outsiders that asked, and the bytes that are known
pub record State : Type 0 where
  pub seen : World
  pub memo : List Heard
  pub bytes : Contents

abbrev pub played_view : Group → ℕ → State → ScriptLine → List Item → World
played_view m c s (run tid call) is = world_after s.seen (turn (leading m (known_queue s.memo) s.bytes) c s.seen tid call is)
played_view m c s (boot pid tid name) is = world_after s.seen (directive_turn s.seen (boot pid tid name) is)
played_view m c s (token name content) is = world_after s.seen (directive_turn s.seen (token name content) is)
played_view m c s (thread tid pid) is = world_after s.seen (directive_turn s.seen (thread tid pid) is)
played_view m c s (dir path) is = world_after s.seen (directive_turn s.seen (dir path) is)
played_view m c s (link path target) is = world_after s.seen (directive_turn s.seen (link path target) is)
played_view m c s (of_resident tid what had) is = s.seen

abbrev pub played_items : Group → ℕ → State → ScriptLine → List Item → List Item
played_items m c s (run tid call) is = shown_run (leading m (known_queue s.memo) s.bytes) c s.seen tid call is
played_items m c s (boot pid tid name) is = directive_shown c s.seen (boot pid tid name) is
played_items m c s (token name content) is = directive_shown c s.seen (token name content) is
played_items m c s (thread tid pid) is = directive_shown c s.seen (thread tid pid) is
played_items m c s (dir path) is = directive_shown c s.seen (dir path) is
played_items m c s (link path target) is = directive_shown c s.seen (link path target) is
played_items m c s (of_resident tid what had) is = resident_shown c s.seen tid what had

abbrev pub played_bytes : Group → ℕ → State → ScriptLine → List Item → Contents
played_bytes m c s (run tid call) is = contents_after s.bytes (written_turn (leading m (known_queue s.memo) s.bytes) c s.seen tid call is)
played_bytes m c s (boot pid tid name) is = s.bytes
played_bytes m c s (token name content) is = s.bytes
played_bytes m c s (thread tid pid) is = s.bytes
played_bytes m c s (dir path) is = s.bytes
played_bytes m c s (link path target) is = s.bytes
played_bytes m c s (of_resident tid what had) is = s.bytes

abbrev pub player : Group → ℕ → Player (State)
player m c = record {
  absorb_at = λ s e. record { seen = absorb s.seen e; memo = entry_memo m s.seen s.memo e; bytes = s.bytes };
  after = λ s line is. record { seen = played_view m c s line is; memo = line_memo m c s.seen s.memo line is; bytes = played_bytes m c s line is };
  shown_at = λ s line is. played_items m c s line is;
}

pub absorbed-view : (m : Group) (c : ℕ) (s : State) (es : List Entry) → (absorbed (player m c) s es).seen ≡ absorb_all s.seen es
absorbed-view m c s [] = refl
absorbed-view m c s (e ∷ es) = absorbed-view m c (record { seen = absorb s.seen e; memo = entry_memo m s.seen s.memo e; bytes = s.bytes }) es

pub absorbed-bytes : (m : Group) (c : ℕ) (s : State) (es : List Entry) → (absorbed (player m c) s es).bytes ≡ s.bytes
absorbed-bytes m c s [] = refl
absorbed-bytes m c s (e ∷ es) = absorbed-bytes m c (record { seen = absorb s.seen e; memo = entry_memo m s.seen s.memo e; bytes = s.bytes }) es

pub absorbed-memo : (m : Group) (c : ℕ) (s : State) (es : List Entry) → (absorbed (player m c) s es).memo ≡ entries_memo m s.seen s.memo es
absorbed-memo m c s [] = refl
absorbed-memo m c s (e ∷ es) = absorbed-memo m c (record { seen = absorb s.seen e; memo = entry_memo m s.seen s.memo e; bytes = s.bytes }) es

-- what a line keeps by itself
pub record Kept (m : Group) (c : ℕ) (w : World) : Type 0 where
  pub fair : Fair m c w
  pub once : OnceUsed w
  pub names : OnceBound w.bindings
  pub paths : Paths w
  pub numbered : Numbered w
  pub asked : Asked w

-- what a state stands for: a world of a run in which the group is a circle of c
pub record Stood (m : Group) (c : ℕ) (w : World) (s : State) : Type 0 where
  pub seen : s.seen ≡ view m w
  pub firm : Firm w
  pub kept : Kept m c w
  pub known : AllKnown m s.memo w
  pub right : Right c s.bytes w
  pub raisers : HasFineRaisers m w

-- where a thread that waits for nothing calls
knows-at : (m : Group) (c : ℕ) (w : World) (by : ThreadRow) (memo : List Heard) → Fair m c w → AllKnown m memo w → (bytes : List ℕ) (a : ConnectAnswer) → m by.process ≡ true → answer_test w by bytes ≡ Ok a → m a.wait.process ≡ false → known_queue memo bytes ≡ a.wait.queue
knows-at m c w by memo f all bytes a by_in is =
    holds_ok (λ (a : ConnectAnswer). m a.wait.process ≡ false → known_queue memo bytes ≡ a.wait.queue) (answer_test w by bytes) a
    (knows-queue m memo w by bytes all by_in (λ b x named. reached-own m c w by.process x.queue f (reached-of (names_wait x b) (is_offered x) x.received (reaches w by.process x.queue) named))) is

pub ready-at : (m : Group) (c : ℕ) (w : World) (s : State) (tid : ℕ) (by : ThreadRow) → m c ≡ true → Stood m c w s → HasFineRows m c w → live_thread w tid ≡ Some by → wait_of w tid ≡ None → At m c w by (known_queue s.memo)
ready-at m c w s tid by c_in st fine live idle =
    let number : by.number ≡ tid = live-number w tid by live in
    record {
      c_in = c_in;
      fair = st.kept.fair;
      fine = fine;
      sound = st.firm.sound;
      linked = st.firm.linked;
      shut = firm-shut w st.firm;
      owned = owned-sound m c w st.kept.fair st.firm.sound.waits;
      names = seen-names m w.bindings st.kept.names;
      bound = st.kept.names;
      paths = st.kept.paths;
      asked = st.kept.asked;
      unmarked = st.firm.settled.marks;
      raisers = st.raisers;
      ways = paths-ways m c w st.kept.fair fine st.kept.paths;
      readable = all-readable w st.kept.numbered st.kept.fair.senders;
      live = subst (λ n. live_thread w n ≡ Some by) (sym number) live;
      own = subst (λ n. owner w n ≡ Some by.process) (sym number) (live-owner m c w tid by st.kept.fair live);
      idle = subst (λ n. wait_of w n ≡ None) (sym number) idle;
      knows = knows-at m c w by s.memo st.kept.fair st.known;
    }

-- The lines of calls
pub line-call : (m : Group) (c : ℕ) (w : World) (tid : ℕ) (call : ScriptCall) → is_fine_line m c w (run tid call) ≡ true → (by : ThreadRow) → owner w tid ≡ Some by.process → by.process ≡ c → is_fine_call m w call ≡ true
line-call m c w tid call fine by own mine =
    let it : passes (owner w tid) (λ p. p == c) ≡ true = rw own (rw mine (same-number c)) in grind arith

pub owes-line : (m : Group) (c : ℕ) (w : World) (s : State) (tid : ℕ) (call : ScriptCall) → m c ≡ true → Stood m c w s → HasFineRows m c w → HasFineRows m c (own_served_step w (run tid call)).world → FineLine m c s.bytes w (run tid call) → Owes (leading m (known_queue s.memo) s.bytes) m c w tid call
owes-line m c w s tid call c_in st fine next line = at (live_thread w tid) refl
  where
    owned : Owned w w
    owned = owned-sound m c w st.kept.fair st.firm.sound.waits

    ready : (by : ThreadRow) → live_thread w tid ≡ Some by → (o : Option WaitRow) → wait_of w tid ≡ o → Owes (leading m (known_queue s.memo) s.bytes) m c w tid call
    ready by live (Some x) waits = owes-busy (leading m (known_queue s.memo) s.bytes) m c w tid call by x c_in st.kept.fair owned live waits
    ready by live None idle =
        let number : by.number ≡ tid = live-number w tid by live in
        let own : owner w tid ≡ Some by.process = live-owner m c w tid by st.kept.fair live in
        owes-call (leading m (known_queue s.memo) s.bytes) m c w tid call by (record { c_in = c_in; fair = st.kept.fair; owned = owned; live = live; idle = idle })
        (serves m c w by (known_queue s.memo) call s.bytes (ready-at m c w s tid by c_in st fine live idle) (λ mine. line-call m c w tid call line.fine by own mine) (λ mine. record { views = st.right; range = line.right by live idle mine })) next

    at : (o : Option ThreadRow) → live_thread w tid ≡ o → Owes (leading m (known_queue s.memo) s.bytes) m c w tid call
    at None none = owes-none (leading m (known_queue s.memo) s.bytes) m c w tid call c_in st.kept.fair none
    at (Some by) live = ready by live (wait_of w tid) refl

-- A member is led by the entry that comes next
follows-line : (m : Group) (known : List ℕ → Birth) (k : Contents) (v : World) (tid : ℕ) (call : ScriptCall) (e f : Entry) (o : Option Impersonation) → Follows call e f → led_line (leading m known k) v tid call e o ≡ led_line (leading m known k) v tid call f o
follows-line m known k v tid call e f o (follows same) = ap (λ e. led_line (leading m known k) v tid call e o) same
follows-line m known k v tid call e f o (raises code handled is same) = subst (λ call. led_line (leading m known k) v tid call e o ≡ led_line (leading m known k) v tid call f o) (sym is) (alike (accepts e) (accepts f) same)
  where
    alike : (a b : Bool) → a ≡ b → cond a (given (live_thread v tid) (λ by. leads_by m known v by (raise code handled) e o)) [] ≡ cond b (given (live_thread v tid) (λ by. leads_by m known v by (raise code handled) e o)) []
    alike a b same = ap (λ b. cond b (given (live_thread v tid) (λ by. leads_by m known v by (raise code handled) e o)) []) same

pub led-by : (m : Group) (c : ℕ) (w : World) (known : List ℕ → Birth) (k : Contents) (tid : ℕ) (call : ScriptCall) (said : List Item) → IsLed m c w (run tid call) said → is_seen m (thread_whose w tid) ≡ true → LedBy (leading m known k) m c w tid call said
led-by m c w known k tid call said led seen other = follows-line m known k (view m w) tid call (next_entry said) (own_entry (own_served (run tid call) w)) (next_given said) (led seen other)

-- What each line leaves of a view, and what c sees of it
pub record Line (m : Group) (c : ℕ) (w : World) (s : State) (line : ScriptLine) : Type 0 where
  pub hides : is_seen m (line_whose w line) ≡ false → (view m (own_served_step w line).world ≡ absorb_all s.seen (own_told_at m c w line)) × (full_items (alone c) (own_line_events w line) ≡ [])
  pub done : every (is_done (own_served_step w line).world) (own_served_step w line).entries ≡ true
  pub shows : (is : List Item) → IsLed m c w line (told_items (own_told_at m c w line) ++ (gave_items (own_given_at m c w line) ++ is)) → is_seen m (line_whose w line) ≡ true → (view m (own_served_step w line).world ≡ played_view m c s line (told_items (own_told_at m c w line) ++ (gave_items (own_given_at m c w line) ++ is)))
      × (full_items (alone c) (own_line_events w line) ≡ played_items m c s line (told_items (own_told_at m c w line) ++ (gave_items (own_given_at m c w line) ++ is)))

pub of-line : (m : Group) (c : ℕ) (w : World) (t : List Heard) (k : Contents) (line : ScriptLine) → m c ≡ true → Stood m c w (record { seen = view m w; memo = t; bytes = k }) → HasFineRows m c w → HasFineRows m c (own_served_step w line).world → OnceUsed (own_served_step w line).world → FineLine m c k w line → Line m c w (record { seen = view m w; memo = t; bytes = k }) line
of-line m c w t k (run tid call) c_in st fine next once line =
    let o = owes-line m c w (record { seen = view m w; memo = t; bytes = k }) tid call c_in st fine next line in
    record { hides = λ out. run-hidden (leading m (known_queue t) k) m c w tid call c_in o out; done = o.done; shows = λ is led seen. run-visible (leading m (known_queue t) k) m c w tid call is c_in o (led-by m c w (known_queue t) k tid call (told_items (own_told_at m c w (run tid call)) ++ (gave_items (own_given_at m c w (run tid call)) ++ is)) led seen) st.kept.once once seen }
of-line m c w t k (boot pid tid name) c_in st fine next once line =
    let o = boot-directs m w pid tid name in
    record { hides = λ out. directive-hidden m c w (boot pid tid name) _ (Of pid) (boot_line w pid tid name) c_in o out; done = directive-done m w (boot pid tid name) _ (Of pid) (boot_line w pid tid name) o (own_served_step w (boot pid tid name)).world; shows = λ is led seen. directive-visible m c w (boot pid tid name) _ (Of pid) (boot_line w pid tid name) (gave_items (own_given_at m c w (boot pid tid name)) ++ is) o seen }
of-line m c w t k (token name content) c_in st fine next once line =
    let o = token-directs m w name content in
    record { hides = λ out. directive-hidden m c w (token name content) _ Everyone (token_line w name content) c_in o out; done = directive-done m w (token name content) _ Everyone (token_line w name content) o (own_served_step w (token name content)).world; shows = λ is led seen. directive-visible m c w (token name content) _ Everyone (token_line w name content) (gave_items (own_given_at m c w (token name content)) ++ is) o seen }
of-line m c w t k (thread tid pid) c_in st fine next once line =
    let o = thread-directs m w tid pid in
    record { hides = λ out. directive-hidden m c w (thread tid pid) _ (Of pid) (thread_line w tid pid) c_in o out; done = directive-done m w (thread tid pid) _ (Of pid) (thread_line w tid pid) o (own_served_step w (thread tid pid)).world; shows = λ is led seen. directive-visible m c w (thread tid pid) _ (Of pid) (thread_line w tid pid) (gave_items (own_given_at m c w (thread tid pid)) ++ is) o seen }
of-line m c w t k (of_resident tid what had) c_in st fine next once line = record {
  hides = λ out. resident-hidden m c w tid what had c_in out;
  done = resident-done (own_served_step w (of_resident tid what had)).world w tid what had;
  shows = λ is led seen. resident-visible m c w tid what had st.kept.fair st.kept.once seen;
}
of-line m c w t k (dir path) c_in st fine next once line =
    let o = dir-directs m w path (seen-names m w.bindings st.kept.names) in
    record { hides = λ out. directive-hidden m c w (dir path) _ Everyone (dir_line w path) c_in o out; done = directive-done m w (dir path) _ Everyone (dir_line w path) o (own_served_step w (dir path)).world; shows = λ is led seen. directive-visible m c w (dir path) _ Everyone (dir_line w path) (gave_items (own_given_at m c w (dir path)) ++ is) o seen }
of-line m c w t k (link path target) c_in st fine next once line =
    let o = link-directs m w path target (seen-names m w.bindings st.kept.names) in
    record { hides = λ out. directive-hidden m c w (link path target) _ Everyone (link_line w path target) c_in o out; done = directive-done m w (link path target) _ Everyone (link_line w path target) o (own_served_step w (link path target)).world; shows = λ is led seen. directive-visible m c w (link path target) _ Everyone (link_line w path target) (gave_items (own_given_at m c w (link path target)) ++ is) o seen }
