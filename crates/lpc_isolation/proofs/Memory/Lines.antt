-- Each line keeps it that what is remembered of outsiders' connects is right.
use Rattle.lpc_model.proofs.Calls.Lines.{resident-shows, shows_status}
use Rattle.lpc_base.specs.declared.status.TheConstants.{OBJECT_NAME_COLLISION}
use Rattle.lpc_model.specs.Refusal.{refuse_if}
use Rattle.lpc_isolation.proofs.Views.Reads.{FineLine}
use Rattle.lpc_isolation.proofs.Calls.Services.{lawful}
use Rattle.std.proofs.Common.{◌≡◌, ℕ, List, [], ◌∷◌, ◌++◌, Bool, true, false, cond, Option, Some, None, refl, ap, sym, subst, ◌∙◌}
use Rattle.std.specs.Prelude.{◌==◌, Result, Ok, Err, is_some}
use Rattle.lpc_base.specs.Rows.{every}
use Rattle.lpc_base.specs.declared.status.Status.{Status}
use Rattle.lpc_base.proofs.RowWords.{every-which}
use Rattle.lpc_model.specs.declared.entry.Entry.{Entry}
use Rattle.lpc_model.specs.declared.entry.Entry.TheVariants as entry
use Rattle.lpc_model.specs.declared.entry.Word.TheVariants as word
use Rattle.lpc_model.specs.World.{Contents, ThreadRow, WaitRow, World, Token}
use Rattle.lpc_model.specs.Found.{live_thread, wait_of, named_token}
use Rattle.lpc_model.specs.Basics.{Basic, Tells, world_after}
use Rattle.lpc_model.specs.Named.{free_name, spelled_name}
use Rattle.lpc_model.specs.Lines.{ScriptCall, ScriptLine, boot, dir, link, run, thread, token, of_resident, ResidentLine}
use Rattle.lpc_model.specs.Machine.{own_steps, boot_line, dir_line, link_line, name_of_call, settled, thread_line, thread_test, unused_test, boot_token, token_line, resident_entry}
use Rattle.lpc_isolation.proofs.Gone.Served.{served, own_served_step, own_served}
use Rattle.lpc_model.proofs.Calls.Holding.{bind_holds, directed_holds, holds_ok}
use Rattle.lpc_model.specs.Circle.{Group, Item, Whose, is_seen, line_whose, owner, thread_whose}
use Rattle.lpc_isolation.proofs.Views.Alone.{HasFineRows, alone}
use Rattle.lpc_isolation.proofs.Views.View.{view}
use Rattle.lpc_isolation.proofs.Views.Seen.{live-owner, live-view}
use Rattle.lpc_isolation.proofs.Views.Apart.{Owned}
use Rattle.lpc_isolation.proofs.Plays.Play.{absorbed, is_told_input, own_told_at, told_items, gave_items, own_given_at}
use Rattle.lpc_isolation.proofs.Plays.Lines.{Follows, IsLed, OnceUsed, follows, next_entry, raises}
use Rattle.lpc_isolation.proofs.Calls.Lines.{busy, called, nobody, owner-in}
use Rattle.lpc_isolation.proofs.Each.Listens.{own_entry}
use Rattle.lpc_isolation.proofs.Each.Instances.{At}
use Rattle.lpc_isolation.proofs.Rows.Kept.{owned-sound}
use Rattle.lpc_isolation.proofs.Memory.Heard.{Heard, call_memo, caller_memo, entries-silent, is_silent, is_silent_step, line_memo, silent-memo, steps-silent}
use Rattle.lpc_isolation.proofs.Memory.Knows.{AllKnown, are_known, known_queue, run-known}
use Rattle.lpc_isolation.proofs.Memory.Calls.{Hears, still-hears}
use Rattle.lpc_isolation.proofs.Plays.Stands.{State, Stood, absorbed-memo, player, ready-at}

-- what a line that the group doesn't see leaves remembered, and one that it sees, is right
pub record Known (m : Group) (c : ℕ) (w : World) (t : List Heard) (k : Contents) (line : ScriptLine) : Type 0 where
  pub hides : is_seen m (line_whose w line) ≡ false → AllKnown m (absorbed (player m c) (record { seen = view m w; memo = t; bytes = k }) (own_told_at m c w line)).memo (own_served_step w line).world
  pub shows : (is : List Item) → IsLed m c w line (told_items (own_told_at m c w line) ++ (gave_items (own_given_at m c w line) ++ is)) → is_seen m (line_whose w line) ≡ true → AllKnown m (line_memo m c (view m w) t line (told_items (own_told_at m c w line) ++ (gave_items (own_given_at m c w line) ++ is))) (own_served_step w line).world

-- A call
module _ (m : Group) (c : ℕ) (w : World) (t : List Heard) (k : Contents) (tid : ℕ) (call : ScriptCall) (c_in : m c ≡ true) (st : Stood m c w (record { seen = view m w; memo = t; bytes = k })) (fine : HasFineRows m c w) (next : HasFineRows m c (own_served_step w (run tid call)).world) where
  abbrev s : State
  s = record { seen = view m w; memo = t; bytes = k }

  own : Owned w w
  own = owned-sound m c w st.kept.fair st.firm.sound.waits

  -- of an outsider
  hears-settled : (by : ThreadRow) (d : Whose) (r : Result (List Basic) Status) → At m c w by (known_queue t) → m by.process ≡ false → served w by call ≡ r → HasFineRows m c (world_after w (settled by (name_of_call call) r)) → Hears m c (world_after w (settled by (name_of_call call) r)) d w t (settled by (name_of_call call) r)
  hears-settled by d (Ok bs) a out is fine' =
      holds_ok (λ bs. HasFineRows m c (world_after w bs) → Hears m c (world_after w bs) d w t bs) (served w by call) bs
      ((lawful call).hears m c d w by (known_queue t) t a own st.kept.numbered st.kept.asked st.known out) is fine'
  hears-settled by d (Err e) a out is fine' = still-hears m c w d w t (Tells (entry.Answer by.number (name_of_call call) e []) ∷ []) st.known (refl, refl)

  hears-run : is_seen m (thread_whose w tid) ≡ false → Hears m c (own_served_step w (run tid call)).world (thread_whose w tid) w t (own_served (run tid call) w)
  hears-run out = at (live_thread w tid) refl
    where
      ready : (by : ThreadRow) → live_thread w tid ≡ Some by → (o : Option WaitRow) → wait_of w tid ≡ o → Hears m c (world_after w (own_served (run tid call) w)) (thread_whose w tid) w t (own_served (run tid call) w)
      ready by live (Some x) waits = subst (λ bs. Hears m c (world_after w bs) (thread_whose w tid) w t bs) (sym (busy w tid call by x live waits)) (still-hears m c w (thread_whose w tid) w t (Tells (entry.Busy by.number) ∷ []) st.known (refl, refl))
      ready by live None idle =
          let is = called w tid call by live idle in
          let by_out : m by.process ≡ false = sym (owner-in m w tid by (live-owner m c w tid by st.kept.fair live)) ∙ out in
          subst (λ bs. Hears m c (world_after w bs) (thread_whose w tid) w t bs) (sym is)
          (hears-settled by (thread_whose w tid) (served w by call) (ready-at m c w s tid by c_in st fine live idle) by_out refl (subst (λ bs. HasFineRows m c (world_after w bs)) is next))

      at : (o : Option ThreadRow) → live_thread w tid ≡ o → Hears m c (world_after w (own_served (run tid call) w)) (thread_whose w tid) w t (own_served (run tid call) w)
      at None none = subst (λ bs. Hears m c (world_after w bs) (thread_whose w tid) w t bs) (sym (nobody w tid call none)) (still-hears m c w (thread_whose w tid) w t (Tells (entry.NoThread tid) ∷ []) st.known (refl, refl))
      at (Some by) live = ready by live (wait_of w tid) refl

  -- of a member
  abbrev Notes : Option ThreadRow → List Basic → Type 0
  Notes o bs = AllKnown m (caller_memo m c (view m w) call (own_entry bs) t o) (world_after w bs)

  -- an entry that shows no message
  notes-lone : (by : ThreadRow) (e : Entry) → call_memo m (view m w) by call e t ≡ t → Notes (Some by) (Tells e ∷ [])
  notes-lone by e none = at (by.process == c)
    where
      at : (b : Bool) → AllKnown m (cond b t (call_memo m (view m w) by call e t)) w
      at true = st.known
      at false = rw none st.known

  notes-settled : (by : ThreadRow) (r : Result (List Basic) Status) → At m c w by (known_queue t) → m by.process ≡ true → served w by call ≡ r → Notes (Some by) (settled by (name_of_call call) r)
  notes-settled by (Ok bs) a by_in is =
      holds_ok (λ bs. AllKnown m (cond (by.process == c) t (call_memo m (view m w) by call (own_entry bs) t)) (world_after w bs)) (served w by call) bs
      ((lawful call).notes m c w by (known_queue t) t a own st.kept.numbered st.kept.asked st.known by_in) is
  notes-settled by (Err e) a by_in is = notes-lone by (entry.Answer by.number (name_of_call call) e []) (silent-memo m (view m w) by call (entry.Answer by.number (name_of_call call) e []) t (λ q. refl))

  notes-run : is_seen m (thread_whose w tid) ≡ true → Notes (live_thread w tid) (own_served (run tid call) w)
  notes-run seen = at (live_thread w tid) refl
    where
      ready : (by : ThreadRow) → live_thread w tid ≡ Some by → (o : Option WaitRow) → wait_of w tid ≡ o → Notes (Some by) (own_served (run tid call) w)
      ready by live (Some x) waits = subst (λ bs. Notes (Some by) bs) (sym (busy w tid call by x live waits)) (notes-lone by (entry.Busy by.number) (silent-memo m (view m w) by call (entry.Busy by.number) t (λ q. refl)))
      ready by live None idle =
          let by_in : m by.process ≡ true = sym (owner-in m w tid by (live-owner m c w tid by st.kept.fair live)) ∙ seen in
          subst (λ bs. Notes (Some by) bs) (sym (called w tid call by live idle)) (notes-settled by (served w by call) (ready-at m c w s tid by c_in st fine live idle) by_in refl)

      at : (o : Option ThreadRow) → live_thread w tid ≡ o → Notes o (own_served (run tid call) w)
      at None none = subst (λ bs. Notes None bs) (sym (nobody w tid call none)) st.known
      at (Some by) live = ready by live (wait_of w tid) refl

  -- the answer is the next of the inputs
  follows-memo : (v : World) (by : ThreadRow) (call : ScriptCall) (e f : Entry) → Follows call e f → call_memo m v by call e t ≡ call_memo m v by call f t
  follows-memo v by call e f (follows same) = ap (λ e. call_memo m v by call e t) same
  follows-memo v by call e f (raises code handled is same) = subst (λ call. call_memo m v by call e t ≡ call_memo m v by call f t) (sym is) refl

  noted-next : (is : List Item) → IsLed m c w (run tid call) (told_items (own_told_at m c w (run tid call)) ++ is) → is_seen m (thread_whose w tid) ≡ true
      → line_memo m c (view m w) t (run tid call) (told_items (own_told_at m c w (run tid call)) ++ is) ≡ caller_memo m c (view m w) call (own_entry (own_served (run tid call) w)) t (live_thread w tid)
  noted-next is led seen = by_owner (owner w tid) refl
    where
      items : List Item
      items = told_items (own_told_at m c w (run tid call)) ++ is

      by_live : (l : Option ThreadRow) → live_thread w tid ≡ l → caller_memo m c (view m w) call (next_entry items) t l ≡ caller_memo m c (view m w) call (own_entry (own_served (run tid call) w)) t l
      by_live None none = refl
      by_live (Some by) live = mine (by.process == c) refl
        where
          mine : (b : Bool) → (by.process == c) ≡ b → cond b t (call_memo m (view m w) by call (next_entry items) t) ≡ cond b t (call_memo m (view m w) by call (own_entry (own_served (run tid call) w)) t)
          mine true is_c = refl
          mine false other = follows-memo (view m w) by call (next_entry items) (own_entry (own_served (run tid call) w)) (led seen (owner-in (alone c) w tid by (live-owner m c w tid by st.kept.fair live) ∙ other))

      by_owner : (p : Option ℕ) → owner w tid ≡ p → caller_memo m c (view m w) call (next_entry items) t (live_thread (view m w) tid) ≡ caller_memo m c (view m w) call (own_entry (own_served (run tid call) w)) t (live_thread w tid)
      by_owner None none = let off : false ≡ true = rw none at seen in absurd (cc)
      by_owner (Some pid) here =
          let inside : m pid ≡ true = rw here at seen in
          ap (caller_memo m c (view m w) call (next_entry items) t) (live-view m c w tid pid st.kept.fair here inside) ∙ by_live (live_thread w tid) refl

  run-line_known : Known m c w t k (run tid call)
  run-line_known = record {
    hides = λ out. subst (λ memo. AllKnown m memo (own_served_step w (run tid call)).world) (sym (absorbed-memo m c s (own_told_at m c w (run tid call)))) (hears-run out);
    shows = λ is led seen. subst (λ memo. AllKnown m memo (own_served_step w (run tid call)).world) (sym (noted-next (gave_items (own_given_at m c w (run tid call)) ++ is) led seen)) (notes-run seen);
  }

-- A directive
-- it takes no message, and tells of none
abbrev Plain : Group → List Heard → World → List Basic → Type 0
Plain m t w bs = (are_known m t w bs ≡ true) × ((v : World) → every (is_silent_step v) bs ≡ true)

directive-known : (m : Group) (c : ℕ) (w : World) (t : List Heard) (k : Contents) (line : ScriptLine) → ((is : List Item) → line_memo m c (view m w) t line is ≡ t) → AllKnown m t w → Plain m t w (own_served line w) → Known m c w t k line
directive-known m c w t k line none all plain =
    let u : World = (own_served_step w line).world in
    let behind : AllKnown m t u = run-known m t w (own_served line w) plain.0 all in
    let told : List Entry = own_told_at m c w line in
    let silent : (v : World) → every (is_silent v) told ≡ true = λ v. every-which (is_silent v) (is_told_input m c u (line_whose w line)) (own_served_step w line).entries (steps-silent v (own_served line w) (plain.1 v)) in
    record {
      hides = λ out. subst (λ memo. AllKnown m memo u) (sym (absorbed-memo m c (record { seen = view m w; memo = t; bytes = k }) told ∙ entries-silent m (view m w) t told (silent (view m w)))) behind;
      shows = λ is led seen. subst (λ memo. AllKnown m memo u) (sym (none (told_items told ++ (gave_items (own_given_at m c w line) ++ is)))) behind;
    }

boot-plain : (m : Group) (t : List Heard) (w : World) (pid tid : ℕ) (name : Option (List ℕ)) → Plain m t w (own_served (boot pid tid name) w)
unfolding own_steps boot_line
boot-plain m t w pid tid name = directed_holds (Plain m t w) word.Boot (boot_line w pid tid name) (bind_holds (boot_token w name) _ (Plain m t w) (λ _ _. bind_holds (unused_test w pid tid) _ (Plain m t w) (λ _ _. (refl, λ v. refl)))) (λ _. (refl, λ v. refl))

token-plain : (m : Group) (t : List Heard) (w : World) (name : List ℕ) (content : Token) → Plain m t w (own_served (token name content) w)
unfolding own_steps token_line
token-plain m t w name content = directed_holds (Plain m t w) word.Token (token_line w name content) (bind_holds (refuse_if (is_some (named_token w name)) OBJECT_NAME_COLLISION) _ (Plain m t w) (λ _ _. (refl, λ v. refl))) (λ _. (refl, λ v. refl))

thread-plain : (m : Group) (t : List Heard) (w : World) (tid pid : ℕ) → Plain m t w (own_served (thread tid pid) w)
unfolding own_steps thread_line
thread-plain m t w tid pid = directed_holds (Plain m t w) word.Thread (thread_line w tid pid) (bind_holds (thread_test w tid pid) _ (Plain m t w) (λ _ _. (refl, λ v. refl))) (λ _. (refl, λ v. refl))

dir-plain : (m : Group) (t : List Heard) (w : World) (path : List ℕ) → Plain m t w (own_served (dir path) w)
unfolding own_steps dir_line
dir-plain m t w path = directed_holds (Plain m t w) word.Dir (dir_line w path) (bind_holds (free_name w path) _ (Plain m t w) (λ _ _. (refl, λ v. refl))) (λ _. (refl, λ v. refl))

link-plain : (m : Group) (t : List Heard) (w : World) (path target : List ℕ) → Plain m t w (own_served (link path target) w)
unfolding own_steps link_line
link-plain m t w path target = directed_holds (Plain m t w) word.Link (link_line w path target) (bind_holds (spelled_name target) _ (Plain m t w) (λ _ _. bind_holds (free_name w path) _ (Plain m t w) (λ _ _. (refl, λ v. refl)))) (λ _. (refl, λ v. refl))

resident-plain : (m : Group) (t : List Heard) (w : World) (tid : ℕ) (what : ResidentLine) (had : Bool) → Plain m t w (own_served (of_resident tid what had) w)
unfolding own_steps
resident-plain m t w tid what had = (refl, λ v. silent-entry v (resident_entry w tid what had) (resident-shows w tid what had))
  where
    silent-entry : (v : World) (e : Entry) → shows_status e ≡ true → every (is_silent_step v) (Tells e ∷ []) ≡ true
    silent-entry v (entry.Answer who call status []) is = refl
    silent-entry v (entry.Answer who call status (f ∷ fs)) is = absurd (cc)
    silent-entry v (entry.Waits who call fields) is = absurd (cc)
    silent-entry v (entry.Wakes who call status fields) is = absurd (cc)
    silent-entry v (entry.Busy who) is = refl
    silent-entry v (entry.NoThread who) is = refl
    silent-entry v (entry.Died who status) is = absurd (cc)
    silent-entry v (entry.Directive named status) is = refl

pub line-known : (m : Group) (c : ℕ) (w : World) (t : List Heard) (k : Contents) (line : ScriptLine) → m c ≡ true → Stood m c w (record { seen = view m w; memo = t; bytes = k }) → HasFineRows m c w → HasFineRows m c (own_served_step w line).world → OnceUsed (own_served_step w line).world → FineLine m c k w line → Known m c w t k line
line-known m c w t k (run tid call) c_in st fine next once ok = run-line_known m c w t k tid call c_in st fine next
line-known m c w t k (boot pid tid name) c_in st fine next once ok = directive-known m c w t k (boot pid tid name) (λ is. refl) st.known (boot-plain m t w pid tid name)
line-known m c w t k (token name content) c_in st fine next once ok = directive-known m c w t k (token name content) (λ is. refl) st.known (token-plain m t w name content)
line-known m c w t k (thread tid pid) c_in st fine next once ok = directive-known m c w t k (thread tid pid) (λ is. refl) st.known (thread-plain m t w tid pid)
line-known m c w t k (dir path) c_in st fine next once ok = directive-known m c w t k (dir path) (λ is. refl) st.known (dir-plain m t w path)
line-known m c w t k (link path target) c_in st fine next once ok = directive-known m c w t k (link path target) (λ is. refl) st.known (link-plain m t w path target)
line-known m c w t k (of_resident tid what had) c_in st fine next once ok = directive-known m c w t k (of_resident tid what had) (λ is. refl) st.known (resident-plain m t w tid what had)
