-- Each line keeps it that the bytes that are known are right.
use Rattle.lpc_base.specs.declared.status.TheConstants.{OBJECT_NAME_COLLISION}
use Rattle.lpc_model.specs.Refusal.{refuse_if}
use Rattle.lpc_isolation.proofs.Rows.Paths.{paths-ways}
use Rattle.lpc_isolation.proofs.Views.Mine.{Ways}
use Rattle.lpc_isolation.proofs.Views.Reads.{FineLine}
use Rattle.std.proofs.Common.{◌≡◌, ℕ, List, [], ◌++◌, Bool, true, false, cond, Option, Some, None, refl, ap, sym, subst, ◌∙◌, arith, ◌∷◌}
use Rattle.std.specs.Prelude.{Result, Ok, Err, is_none, is_some}
use Rattle.lpc_base.specs.Rows.{given, which, has}
use Rattle.lpc_base.specs.declared.status.Status.{Status}
use Rattle.lpc_model.specs.declared.entry.Entry.{Entry}
use Rattle.lpc_model.specs.declared.entry.Word.TheVariants as word
use Rattle.lpc_model.specs.World.{Birth, Contents, ThreadRow, WaitRow, World, Token}
use Rattle.lpc_model.specs.Found.{live_thread, wait_of, named_token}
use Rattle.lpc_model.specs.Basics.{Basic, world_after}
use Rattle.lpc_model.specs.Lines.{ScriptCall, ScriptLine, boot, dir, link, run, thread, token, of_resident, ResidentLine}
use Rattle.lpc_model.specs.Machine.{own_steps, boot_line, dir_line, link_line, name_of_call, settled, thread_line, thread_test, unused_test, boot_token, token_line}
use Rattle.lpc_model.specs.Named.{free_name, spelled_name}
use Rattle.lpc_model.proofs.Calls.Holding.{Holds, bind_holds, directed_holds, holds_ok}
use Rattle.lpc_model.specs.Circle.{Group, Item, Whose, is_seen, line_whose, owner, thread_whose, is_write_of}
use Rattle.lpc_isolation.proofs.Views.Alone.{HasFineRows, alone, ShowsOuter}
use Rattle.lpc_isolation.proofs.Gone.Bare.{IsApartAt}
use Rattle.lpc_isolation.proofs.Gone.Served.{served, own_served_step, own_served}
use Rattle.lpc_isolation.proofs.Views.View.{view}
use Rattle.lpc_isolation.proofs.Views.Seen.{live-owner, live-view}
use Rattle.lpc_isolation.proofs.Views.Apart.{Owned}
use Rattle.lpc_isolation.proofs.Views.Bytes.{Agree, agree-outside, contents_after, is_byte_step, steps-bytes}
use Rattle.lpc_isolation.proofs.Views.Callers.{Answered, Led, on_ok}
use Rattle.lpc_isolation.proofs.Each.Listens.{own_entry}
use Rattle.lpc_isolation.proofs.Plays.Lines.{IsLed, accepts, follows-accepts, next_entry, seeing, thread-same}
use Rattle.lpc_isolation.proofs.Plays.Play.{own_told_at, told_items}
use Rattle.lpc_isolation.proofs.Calls.Lines.{Begins, busy, c-idle, called, nobody, own-is, owner-c, owner-in}
use Rattle.lpc_isolation.proofs.Calls.Services.{lawful}
use Rattle.lpc_isolation.proofs.Owed.Written.{writes, written_by}
use Rattle.lpc_isolation.proofs.Plays.Stands.{State, Stood, line-call, owes-line, played_bytes, ready-at}
use Rattle.lpc_isolation.proofs.Memory.Heard.{Heard}
use Rattle.lpc_isolation.proofs.Memory.Bytes.{written-inside}
use Rattle.lpc_isolation.proofs.Memory.Knows.{known_queue}
use Rattle.lpc_isolation.proofs.Rows.Kept.{owned-sound}
use Rattle.lpc_isolation.proofs.Each.Refuses.{Refuses}

abbrev is_good : Result (List Basic) Status → Bool
is_good (Ok bs) = true
is_good (Err s) = false

-- What a call's line does to bytes: what the call writes, where it is served
abbrev done_by : World → ThreadRow → ScriptCall → Result (List Basic) Status → List Basic
done_by w by call (Ok bs) = written_by w by call
done_by w by call (Err s) = []

settled-bytes : (w : World) (by : ThreadRow) (call : ScriptCall) (r : Result (List Basic) Status) → served w by call ≡ r → (world_after w (settled by (name_of_call call) r)).contents ≡ contents_after w.contents (done_by w by call r)
settled-bytes w by call (Ok bs) is = steps-bytes w bs (written_by w by call) (holds_ok (λ bs. which is_byte_step bs ≡ written_by w by call) (served w by call) bs (writes w by call) is)
settled-bytes w by call (Err s) is = refl

line-bytes : (w : World) (tid : ℕ) (call : ScriptCall) (by : ThreadRow) → live_thread w tid ≡ Some by → wait_of w tid ≡ None → (own_served_step w (run tid call)).world.contents ≡ contents_after w.contents (done_by w by call (served w by call))
line-bytes w tid call by live idle = ap (λ bs. (world_after w bs).contents) (called w tid call by live idle) ∙ settled-bytes w by call (served w by call) refl

none-bytes : (w : World) (tid : ℕ) (call : ScriptCall) → live_thread w tid ≡ None → (own_served_step w (run tid call)).world.contents ≡ w.contents
none-bytes w tid call none = ap (λ bs. (world_after w bs).contents) (nobody w tid call none)

busy-bytes : (w : World) (tid : ℕ) (call : ScriptCall) (by : ThreadRow) (x : WaitRow) → live_thread w tid ≡ Some by → wait_of w tid ≡ Some x → (own_served_step w (run tid call)).world.contents ≡ w.contents
busy-bytes w tid call by x live waits = ap (λ bs. (world_after w bs).contents) (busy w tid call by x live waits)

to-world : (m : Group) (outer : Birth → Bool) (k w v : Contents) → v ≡ w → Agree m outer k w → Agree m outer k v
to-world m outer k w v same a = subst (Agree m outer k) (sym same) a

-- whether a member's call is served, its entry tells
accepted-good : (w : World) (by : ThreadRow) (call : ScriptCall) → Holds (Begins w by.number) (served w by call) → (r : Result (List Basic) Status) → served w by call ≡ r → accepts (own_entry (settled by (name_of_call call) r)) ≡ is_good r
accepted-good w by call begins (Ok bs) is = let head : Begins w by.number bs = holds_ok (Begins w by.number) (served w by call) bs begins is in ap accepts (own-is w by.number bs head) ∙ head.accepted
accepted-good w by call begins (Err s) is = subst Refuses is ((lawful call).refuses w by)

answered-unit : (P : List Basic → List Basic → Type 0) (r s : Result (List Basic) Status) → Answered P r s → Answered (λ _ _. Unit {0}) r s
answered-unit P (Ok x) (Ok y) is = tt
answered-unit P (Ok x) (Err t) is = is
answered-unit P (Err s) (Ok y) is = is
answered-unit P (Err s) (Err t) is = is

-- A member's call
module _ (m : Group) (c : ℕ) (outer : Birth → Bool) (w : World) (t : List Heard) (k : Contents) (tid : ℕ) (call : ScriptCall) (c_in : m c ≡ true) (st : Stood m c w (record { seen = view m w; memo = t; bytes = k })) (fine : HasFineRows m c w) (next : HasFineRows m c (own_served_step w (run tid call)).world) (ok : FineLine m c k w (run tid call)) (shows : ShowsOuter m outer w) (a : Agree m outer k w.contents) (is : List Item) (led : IsLed m c w (run tid call) (told_items (own_told_at m c w (run tid call)) ++ is)) (seen : is_seen m (thread_whose w tid) ≡ true) where
  abbrev s : State
  s = record { seen = view m w; memo = t; bytes = k }

  abbrev entries : List Item
  entries = told_items (own_told_at m c w (run tid call)) ++ is

  owned : Owned w w
  owned = owned-sound m c w st.kept.fair st.firm.sound.waits

  ways : Ways m w
  ways = paths-ways m c w st.kept.fair fine st.kept.paths

  -- the bytes that are known behind the line, where these steps are taken for it
  abbrev Good : List Basic → Type 0
  Good bs = Agree m outer (contents_after k bs) (own_served_step w (run tid call)).world.contents

  -- c's own, where it is served in the view as in the world
  own-good : (by : ThreadRow) → live_thread w tid ≡ Some by → m by.process ≡ true → (r : Result (List Basic) Status) → Answered (λ _ _. Unit {0}) (served w by call) r → wait_of w tid ≡ None → Good (on_ok r (λ _. written_by (view m w) by call))
  own-good by live inside r answered idle = to-world m outer _ _ _ (line-bytes w tid call by live idle) (at (served w by call) r refl answered)
    where
      at : (q r : Result (List Basic) Status) → served w by call ≡ q → Answered (λ _ _. Unit {0}) q r → Agree m outer (contents_after k (on_ok r (λ _. written_by (view m w) by call))) (contents_after w.contents (done_by w by call q))
      at (Ok bs) (Ok led) ok is = written-inside m c outer w by k call bs inside st.kept.fair ways shows ok a
      at (Ok bs) (Err e) ok is = absurd is
      at (Err e) (Ok led) ok is = absurd is
      at (Err e) (Err f) ok is = a

  mine : (by : ThreadRow) → live_thread w tid ≡ Some by → m by.process ≡ true → is_seen (alone c) (thread_whose w tid) ≡ true → (x : Option WaitRow) → wait_of w tid ≡ x → Good (cond (is_none (wait_of (view m w) tid)) (on_ok (served (seeing k (view m w) call) by call) (λ _. written_by (view m w) by call)) [])
  mine by live inside is_c (Some x) waits = rw (c-idle m c w tid c_in st.kept.fair owned (owner-c c w tid is_c), waits) (to-world m outer k w.contents _ (busy-bytes w tid call by x live waits) a)
  mine by live inside is_c None idle =
      let own : owner w tid ≡ Some by.process = live-owner m c w tid by st.kept.fair live in
      let both : Some by.process ≡ Some c = sym own ∙ owner-c c w tid is_c in
      let process : by.process ≡ c = cc in
      let at = ready-at m c w s tid by c_in st fine live idle in
      rw (c-idle m c w tid c_in st.kept.fair owned (owner-c c w tid is_c), idle)
      (own-good by live inside (served (seeing k (view m w) call) by call)
      (answered-unit (λ bs led. HasFineRows m c (world_after w bs) → Led m c (world_after w bs) (thread_whose w tid) w bs led) (served w by call) (served (seeing k (view m w) call) by call)
      ((lawful call).own m c (thread_whose w tid) w by (known_queue t) k at process (line-call m c w tid call ok.fine by own process) (record { views = st.right; range = ok.right by live idle process }))) idle)

  -- another's, where its entry accepts it
  next-accepts : is_seen (alone c) (thread_whose w tid) ≡ false → accepts (next_entry entries) ≡ accepts (own_entry (own_served (run tid call) w))
  next-accepts off = follows-accepts call (next_entry entries) (own_entry (own_served (run tid call) w)) (led seen off)

  other-good : (by : ThreadRow) → live_thread w tid ≡ Some by → m by.process ≡ true → wait_of w tid ≡ None → (e : Entry) → accepts e ≡ is_good (served w by call) → Good (cond (accepts e) (written_by (view m w) by call) [])
  other-good by live inside idle e good = to-world m outer _ _ _ (line-bytes w tid call by live idle) (rw good (at (served w by call) refl))
    where
      at : (r : Result (List Basic) Status) → served w by call ≡ r → Agree m outer (contents_after k (cond (is_good r) (written_by (view m w) by call) [])) (contents_after w.contents (done_by w by call r))
      at (Ok bs) ok = written-inside m c outer w by k call bs inside st.kept.fair ways shows ok a
      at (Err e) ok = a

  other : (by : ThreadRow) → live_thread w tid ≡ Some by → m by.process ≡ true → is_seen (alone c) (thread_whose w tid) ≡ false → (x : Option WaitRow) → wait_of w tid ≡ x → Good (cond (accepts (next_entry entries)) (written_by (view m w) by call) [])
  other by live inside off (Some x) waits =
      let quiet : accepts (next_entry entries) ≡ false = next-accepts off ∙ ap (λ bs. accepts (own_entry bs)) (busy w tid call by x live waits) in
      rw quiet (to-world m outer k w.contents _ (busy-bytes w tid call by x live waits) a)
  other by live inside off None idle =
      let at = ready-at m c w s tid by c_in st fine live idle in
      other-good by live inside idle (next_entry entries)
      (next-accepts off ∙ ap (λ bs. accepts (own_entry bs)) (called w tid call by live idle) ∙ accepted-good w by call ((lawful call).begins m c w by (known_queue t) at) (served w by call) refl)

  abbrev turned : Option ThreadRow → Whose → List Basic
  turned l d = given l (λ by. cond (is_seen (alone c) d) (cond (is_none (wait_of (view m w) tid)) (on_ok (served (seeing k (view m w) call) by call) (λ _. written_by (view m w) by call)) []) (cond (accepts (next_entry entries)) (written_by (view m w) by call) []))

  by_thread : (l : Option ThreadRow) → live_thread w tid ≡ l → Good (turned l (thread_whose w tid))
  by_thread None none = to-world m outer k w.contents _ (none-bytes w tid call none) a
  by_thread (Some by) live = at (is_seen (alone c) (thread_whose w tid)) refl
    where
      inside : m by.process ≡ true
      inside = sym (owner-in m w tid by (live-owner m c w tid by st.kept.fair live)) ∙ seen

      at : (e : Bool) → is_seen (alone c) (thread_whose w tid) ≡ e → Good (turned (Some by) (thread_whose w tid))
      at true is_c = rw is_c (mine by live inside is_c (wait_of w tid) refl)
      at false off = rw off (other by live inside off (wait_of w tid) refl)

  run-visible : Agree m outer (played_bytes m c s (run tid call) entries) (own_served_step w (run tid call)).world.contents
  run-visible = by_owner (owner w tid) refl
    where
      by_owner : (p : Option ℕ) → owner w tid ≡ p → Good (turned (live_thread (view m w) tid) (thread_whose (view m w) tid))
      by_owner None none = let off : false ≡ true = rw none at seen in absurd (cc)
      by_owner (Some pid) own =
          let inside : m pid ≡ true = rw own at seen in
          subst (λ l. Good (turned l (thread_whose (view m w) tid))) (sym (live-view m c w tid pid st.kept.fair own inside))
          (subst (λ d. Good (turned (live_thread w tid) d)) (sym (thread-same m w tid st.kept.once seen)) (by_thread (live_thread w tid) refl))

-- Directives write nothing
abbrev Still : World → List Basic → Type 0
Still w bs = (world_after w bs).contents ≡ w.contents

boot-still : (w : World) (pid tid : ℕ) (name : Option (List ℕ)) → Still w (own_served (boot pid tid name) w)
unfolding own_steps boot_line
boot-still w pid tid name = directed_holds (Still w) word.Boot (boot_line w pid tid name) (bind_holds (boot_token w name) _ (Still w) (λ _ _. bind_holds (unused_test w pid tid) _ (Still w) (λ _ _. refl))) (λ _. refl)

token-still : (w : World) (name : List ℕ) (content : Token) → Still w (own_served (token name content) w)
unfolding own_steps token_line
token-still w name content = directed_holds (Still w) word.Token (token_line w name content) (bind_holds (refuse_if (is_some (named_token w name)) OBJECT_NAME_COLLISION) _ (Still w) (λ _ _. refl)) (λ _. refl)

thread-still : (w : World) (tid pid : ℕ) → Still w (own_served (thread tid pid) w)
unfolding own_steps thread_line
thread-still w tid pid = directed_holds (Still w) word.Thread (thread_line w tid pid) (bind_holds (thread_test w tid pid) _ (Still w) (λ _ _. refl)) (λ _. refl)

dir-still : (w : World) (path : List ℕ) → Still w (own_served (dir path) w)
unfolding own_steps dir_line
dir-still w path = directed_holds (Still w) word.Dir (dir_line w path) (bind_holds (free_name w path) _ (Still w) (λ _ _. refl)) (λ _. refl)

link-still : (w : World) (path target : List ℕ) → Still w (own_served (link path target) w)
unfolding own_steps link_line
link-still w path target = directed_holds (Still w) word.Link (link_line w path target) (bind_holds (spelled_name target) _ (Still w) (λ _ _. bind_holds (free_name w path) _ (Still w) (λ _ _. refl))) (λ _. refl)

resident-still : (w : World) (tid : ℕ) (what : ResidentLine) (had : Bool) → Still w (own_served (of_resident tid what had) w)
unfolding own_steps
resident-still w tid what had = refl

-- Lines
-- what its own steps write, the line writes
writes-own : (b : Birth) (xs ys : List Basic) → has (is_write_of b) xs ≡ true → has (is_write_of b) (xs ++ ys) ≡ true
writes-own b [] ys is = absurd (cc)
writes-own b (x ∷ xs) ys is = grind (arith, writes-own b xs ys)

-- behind a line, whether the group sees it or not
pub record BytesKnown (m : Group) (c : ℕ) (outer : Birth → Bool) (w : World) (t : List Heard) (k : Contents) (line : ScriptLine) : Type 0 where
  pub hides : is_seen m (line_whose w line) ≡ false → Agree m outer k (own_served_step w line).world.contents
  pub shows : (is : List Item) → IsLed m c w line (told_items (own_told_at m c w line) ++ is) → is_seen m (line_whose w line) ≡ true → Agree m outer (played_bytes m c (record { seen = view m w; memo = t; bytes = k }) line (told_items (own_told_at m c w line) ++ is)) (own_served_step w line).world.contents

pub line-bytes_known : (m : Group) (c : ℕ) (outer : Birth → Bool) (w : World) (t : List Heard) (k : Contents) (line : ScriptLine) → m c ≡ true → Stood m c w (record { seen = view m w; memo = t; bytes = k }) → HasFineRows m c w → HasFineRows m c (own_served_step w line).world → FineLine m c k w line → ShowsOuter m outer w → IsApartAt m c outer w line → Agree m outer k w.contents → BytesKnown m c outer w t k line
line-bytes_known m c outer w t k (run tid call) c_in st fine next ok shows apart a = record {
  hides = λ out. agree-outside m c (own_served_step w (run tid call)).world (thread_whose w tid) outer k w (own_served (run tid call) w) ((owes-line m c w (record { seen = view m w; memo = t; bytes = k }) tid call c_in st fine next ok).apart out) (λ b is. apart.writes out b (writes-own b (own_served (run tid call) w) _ is)) a;
  shows = λ is led seen. run-visible m c outer w t k tid call c_in st fine next ok shows a is led seen;
}
line-bytes_known m c outer w t k (boot pid tid name) c_in st fine next ok shows apart a = let same = to-world m outer k w.contents _ (boot-still w pid tid name) a in record { hides = λ _. same; shows = λ _ _ _. same }
line-bytes_known m c outer w t k (token name content) c_in st fine next ok shows apart a = let same = to-world m outer k w.contents _ (token-still w name content) a in record { hides = λ _. same; shows = λ _ _ _. same }
line-bytes_known m c outer w t k (thread tid pid) c_in st fine next ok shows apart a = let same = to-world m outer k w.contents _ (thread-still w tid pid) a in record { hides = λ _. same; shows = λ _ _ _. same }
line-bytes_known m c outer w t k (dir path) c_in st fine next ok shows apart a = let same = to-world m outer k w.contents _ (dir-still w path) a in record { hides = λ _. same; shows = λ _ _ _. same }
line-bytes_known m c outer w t k (link path target) c_in st fine next ok shows apart a = let same = to-world m outer k w.contents _ (link-still w path target) a in record { hides = λ _. same; shows = λ _ _ _. same }
line-bytes_known m c outer w t k (of_resident tid what had) c_in st fine next ok shows apart a = let same = to-world m outer k w.contents _ (resident-still w tid what had) a in record { hides = λ _. same; shows = λ _ _ _. same }
