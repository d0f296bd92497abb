-- The step of each line leaves handles and views to living processes alone.
use Rattle.lpc_model.proofs.Settling.Keeps.{bare-does}
use Rattle.lpc_model.proofs.Settling.Settled.{IsReady}
use Rattle.std.proofs.Common.{◌≡◌, ℕ, ◌≤◌, List, [], ◌∷◌, Bool, true, false, not, refl, sym, subst, arith}
use Rattle.std.specs.Prelude.{◌&&◌, ◌||◌, ◌==◌}
use Rattle.std.proofs.lemmas.Bool.{eqb-true, or_left, or_right}
use Rattle.std.proofs.lemmas.Bool.Decides.{nat_tests}
use Rattle.lpc_base.specs.Rows.{count, every, first, has, when, change}
use Rattle.lpc_base.specs.declared.status.Status.{Status}
use Rattle.lpc_base.specs.declared.status.TheConstants.{SUCCESS}
use Rattle.lpc_base.proofs.RowWords.{every-change, every-more, has-change, none-counted, every-any}
use Rattle.lpc_base.proofs.RowMaps.{every-both, every-change_to, every-mapped}
use Rattle.lpc_base.proofs.Bools.{first-true, second-true}
use Rattle.lpc_model.specs.declared.entry.CallName.TheVariants.{NtRegisterThreadTerminatePort}
use Rattle.lpc_model.specs.declared.entry.Entry.TheVariants.{Answer}
use Rattle.lpc_model.specs.World.{HandleRow, HandleTable, ThreadRow, ViewTable, World, ProcessRow}
use Rattle.lpc_model.specs.Found.{handles_of, is_live, is_table, is_thread, is_space, lives_in, rows_in, wait_of, is_process, live_threads}
use Rattle.lpc_model.specs.Basics.{Accepts, AddsHandle, AddsProcess, AddsThread, Awaits, Basic, Dies, DrawsIdentifier, DrawsOrdinal, DropsHandle, DropsOwned, DropsViewsOf, Frees, Maps, Registers, Tells, Unmaps, Unregisters, Withdraws, basic, doing, ended, in_turn, provided, unregistering, without_handle, without_owned, without_views, world_after, ◌▹◌, Acts, Dooms, LetsGo, SetsDebug, SetsException, portless}
use Rattle.lpc_model.specs.Close.{close_handle}
use Rattle.lpc_model.specs.Death.{end_client, die, end_process, end_threads, post_death, post_deaths}
use Rattle.lpc_model.specs.Lawful.{HasThreadsOnce}
use Rattle.lpc_model.specs.Left.{is_living_space, is_living_table, lacks_handles, lacks_views, is_living_process, is_portless}
use Rattle.lpc_model.specs.Lines.{ScriptLine}
use Rattle.lpc_model.specs.Machine.{step, bare_steps, own_steps}
use Rattle.lpc_model.specs.SoundWaits.{IsSoundWorld}
use Rattle.lpc_model.proofs.Steps.Closing.{behind, then-holds}
use Rattle.lpc_model.proofs.Deaths.Deathless.{LifeLaw, handle-deathless, is_deathless, is_mild, life-outcomes}
use Rattle.lpc_model.proofs.Deaths.Lines.{away-still, death-still, deathless-still, die-threads, is_still}
use Rattle.lpc_model.proofs.Deaths.Doomed.{AreOf, IsOf, doomed-of, of-ended, live-of}
use Rattle.lpc_model.proofs.Steps.Ending.{AreEnding, accepted-pass, behind_dead, behind_told, die-ending, ending-death, first-at, handle-ending, is_ending, rows-left, turn-keeps, world-ends, turn-pass}
use Rattle.lpc_model.proofs.Calls.Lines.{Keep, LineLaw, Shut, passing-lines, line-does}
use Rattle.lpc_model.proofs.Lives.HandleSteps.{HasLivingRows, homely-all, is_homely, lacks-less, lacks-unowned, living-swept, mild-homely}
use Rattle.lpc_model.proofs.Steps.Rows.{has-change_to}
use Rattle.lpc_model.proofs.Sound.Close.{close_handle-sound}
use Rattle.lpc_model.proofs.Sound.Terminate.{IsSafe, sound-of, told-safe}
use Rattle.lpc_model.proofs.Calls.Acts.{keeps_on}
use Rattle.lpc_model.proofs.Sound.Basics.{sound-processes}
use Rattle.lpc_model.proofs.Steps.InTurn.{steps-keep}
use Rattle.lpc_model.proofs.Steps.Sweep.{stepped}
use Rattle.lpc_model.specs.Settle.{settle}
use Rattle.lpc_model.proofs.Settling.Life.{life-settles}

-- a handle that goes ends no thread
handle-still : (pid : ℕ) (r : HandleRow) (w : World) → every is_still (close_handle pid r w) ≡ true
handle-still pid r w = every-more is_deathless is_still deathless-still (close_handle pid r w) (handle-deathless pid r w)

-- All tables but those of one process
abbrev is_almost : ℕ → World → HandleTable → Bool
is_almost pid w t = (t.process == pid) || is_living_table w t

abbrev is_almost_space : ℕ → World → ViewTable → Bool
is_almost_space pid w t = (t.process == pid) || is_living_space w t

abbrev is_almost_process : ℕ → World → ProcessRow → Bool
is_almost_process pid w p = (p.number == pid) || is_living_process w p

record HasLivingBut (pid : ℕ) (w : World) : Type 0 where
  handles : every (is_almost pid w) w.handles ≡ true
  views : every (is_almost_space pid w) w.views ≡ true
  ports : every (is_almost_process pid w) w.processes ≡ true

but-all : (pid : ℕ) (w : World) → HasLivingRows w → HasLivingBut pid w
but-all pid w l = record {
  handles = every-more (is_living_table w) (is_almost pid w) (λ t is. or_right (t.process == pid) _ is) w.handles l.handles;
  views = every-more (is_living_space w) (is_almost_space pid w) (λ t is. or_right (t.process == pid) _ is) w.views l.views;
  ports = every-more (is_living_process w) (is_almost_process pid w) (λ p is. or_right (p.number == pid) _ is) w.processes l.ports;
}

almost-more : (e a b c : Bool) → (e ≡ false → a ≡ true → b ≡ true) → (e || (a || c)) ≡ true → (e || (b || c)) ≡ true
almost-more true a b c more is = refl
almost-more false a b c more is = grind (arith, more refl)

-- what lives stays so, but the process
but-live : (pid : ℕ) (w v : World) → ((q : ℕ) → (q == pid) ≡ false → is_live w q ≡ true → is_live v q ≡ true) → w.handles ≡ v.handles → w.views ≡ v.views → w.processes ≡ v.processes → HasLivingBut pid w → HasLivingBut pid v
but-live pid w v stay one two three l = record {
  handles = subst (λ ts. every (is_almost pid v) ts ≡ true) one (every-more (is_almost pid w) (is_almost pid v) (λ t. almost-more (t.process == pid) (is_live w t.process) (is_live v t.process) (lacks_handles t) (λ off. stay t.process off)) w.handles l.handles);
  views = subst (λ ts. every (is_almost_space pid v) ts ≡ true) two (every-more (is_almost_space pid w) (is_almost_space pid v) (λ t. almost-more (t.process == pid) (is_live w t.process) (is_live v t.process) (lacks_views t) (λ off. stay t.process off)) w.views l.views);
  ports = subst (λ ps. every (is_almost_process pid v) ps ≡ true) three (every-more (is_almost_process pid w) (is_almost_process pid v) (λ p. almost-more (p.number == pid) (is_live w p.number) (is_live v p.number) (is_portless p) (λ off. stay p.number off)) w.processes l.ports);
}

-- a thread of the process ends
dies-but : (pid n : ℕ) (code : Status) (w : World) → IsOf pid n w.threads → HasLivingBut pid w → HasLivingBut pid (basic w (Dies n code))
dies-but pid n code w of = but-live pid w (basic w (Dies n code)) still refl refl refl
  where
    parts : (q : ℕ) (u : ThreadRow) → (q == pid) ≡ false → (not (is_thread n u) || (u.process == pid)) ≡ true → (not (is_thread n u && lives_in q u) || lives_in q (ended u)) ≡ true
    parts q u off is = grind (arith, nat_tests)

    still : (q : ℕ) → (q == pid) ≡ false → is_live w q ≡ true → is_live (basic w (Dies n code)) q ≡ true
    still q off is = has-change_to (lives_in q) (is_thread n) ended w.threads (every-more _ _ (λ u one. parts q u off one) w.threads of) is

-- steps that end nothing of a thread
still-step : (pid : ℕ) (w : World) (b : Basic) → is_ending b ≡ true → is_still b ≡ true → HasLivingBut pid w → HasLivingBut pid (basic w b)
still-step pid w (DropsHandle p value) is still l = record {
  handles = every-change (is_almost pid w) (is_table p) (without_handle value) (λ t was. more (t.process == pid) (is_live w t.process) (lacks_handles t) (lacks_handles (without_handle value t)) (lacks-less value t) was) w.handles l.handles;
  views = l.views;
  ports = l.ports;
}
  where
    more : (e a c d : Bool) → (c ≡ true → d ≡ true) → (e || (a || c)) ≡ true → (e || (a || d)) ≡ true
    more e a c d less was = grind (arith, less)
still-step pid w (LetsGo p) is still l = record { handles = l.handles; views = l.views; ports = every-change (is_almost_process pid w) (is_process p) portless (λ p was. or_right (p.number == pid) _ (or_right (is_live w p.number) true refl)) w.processes l.ports }
still-step pid w (SetsDebug p b) is still l = absurd (cc)
still-step pid w (SetsException p b) is still l = absurd (cc)
still-step pid w (Dooms p code) is still l = absurd (cc)
still-step pid w (Unregisters who b) is still l = but-live pid w (basic w (Unregisters who b)) (λ q off one. rw (has-change (lives_in q) (is_thread who) (unregistering b) (λ u. refl) w.threads) one) refl refl refl l
still-step pid w (DropsViewsOf p) is still l = record { handles = l.handles; views = every-change (is_almost_space pid w) (is_space p) without_views (λ t was. or_right (t.process == pid) _ (or_right (is_live w t.process) true refl)) w.views l.views; ports = l.ports }
still-step pid w (DropsOwned b) is still l = record {
  handles = l.handles;
  views = every-mapped (is_almost_space pid w) (without_owned b) (λ t was. more (t.process == pid) (is_live w t.process) (lacks_views t) (lacks_views (without_owned b t)) (lacks-unowned b t) was) w.views l.views;
  ports = l.ports;
}
  where
    more : (e a c d : Bool) → (c ≡ true → d ≡ true) → (e || (a || c)) ≡ true → (e || (a || d)) ≡ true
    more e a c d less was = grind (arith, less)
still-step pid w (Maps p x) is still l = absurd (cc)
still-step pid w (Unmaps p base) is still l = absurd (cc)
still-step pid w (Dies who status) is still l = absurd (cc)
still-step pid w (Awaits x) is still l = absurd (cc)
still-step pid w (Accepts who reply) is still l = absurd (cc)
still-step pid w (DrawsIdentifier who) is still l = absurd (cc)
still-step pid w (DrawsOrdinal who) is still l = absurd (cc)
still-step pid w (Registers who b) is still l = absurd (cc)
still-step pid w (Acts who own) is still l = absurd (cc)
still-step pid w (AddsProcess p) is still l = absurd (cc)
still-step pid w (AddsThread t) is still l = absurd (cc)
still-step pid w (Frees o) is still l = absurd (cc)
still-step pid w (AddsHandle p h) is still l = absurd (cc)
still-step pid w b is still l = record { handles = l.handles; views = l.views; ports = l.ports }

still-all : (pid : ℕ) (w : World) (bs : List Basic) → AreEnding bs → every is_still bs ≡ true → HasLivingBut pid w → HasLivingBut pid (world_after w bs)
still-all pid w [] all still l = l
still-all pid w (b ∷ bs) all still l =
    still-all pid (basic w b) bs (second-true (is_ending b) _ all) (second-true (is_still b) _ still) (still-step pid w b (first-true (is_ending b) _ all) (first-true (is_still b) _ still) l)

-- The threads of the process end
die-but : (pid : ℕ) (code : Status) (t : ThreadRow) (w : World) → IsOf pid t.number w.threads → HasLivingBut pid w → HasLivingBut pid (behind (die code t) w)
die-but pid code t w of l =
    let dead = basic w (Dies t.number code) in
    let gone = basic dead (Withdraws t.number) in
    let later = end_client (wait_of w t.number) gone in
    let all = die-ending code t w in
    still-all pid gone later all (accepted-pass is_still away-still (λ b. refl) (wait_of w t.number) gone) (still-all pid dead (Withdraws t.number ∷ []) refl refl (dies-but pid t.number code w of l))

dead-but : (pid : ℕ) (code : Status) (ts : List ThreadRow) (w : World) → AreOf pid w.threads ts → HasLivingBut pid w → HasLivingBut pid (behind_dead code ts w)
dead-but pid code [] w of l = l
dead-but pid code (t ∷ ts) w of l =
    let v = behind (die code t) w in
    then-holds (HasLivingBut pid) (die code t) (in_turn (die code) ts) w
    (dead-but pid code ts v (subst (λ all. AreOf pid all ts) (sym (die-threads code t w)) (of-ended pid t.number w.threads ts of.1)) (die-but pid code t w of.0 l))

told-but : (pid : ℕ) (code : Status) (ts : List ThreadRow) (w : World) → AreOf pid w.threads ts → HasLivingBut pid w → HasLivingBut pid (behind_told code ts w)
told-but pid code ts w of l =
    turn-keeps (HasLivingBut pid) post_deaths (λ t v. turn-keeps (HasLivingBut pid) (post_death t) (λ b u k. still-all pid u (post_death t b u) (ending-death t b u) (death-still t b u) k) t.registrations v) ts (behind_dead code ts w) (dead-but pid code ts w of l)

-- The handles of the process go
handles-but : (pid : ℕ) (rows : List HandleRow) (w : World) → handles_of w pid ≡ rows → IsSoundWorld w → HasLivingBut pid w → HasLivingBut pid (behind (in_turn (close_handle pid) rows) w) × (handles_of (behind (in_turn (close_handle pid) rows) w) pid ≡ []) × IsSoundWorld (behind (in_turn (close_handle pid) rows) w)
handles-but pid [] w same s l = (l, same, s)
handles-but pid (r ∷ rows) w same s l =
    let v = behind (close_handle pid r) w in
    then-holds (λ u. HasLivingBut pid u × (handles_of u pid ≡ []) × IsSoundWorld u) (close_handle pid r) (in_turn (close_handle pid) rows) w
    (handles-but pid rows v (rows-left w pid r rows same s) (close_handle-sound w pid r (first-at w pid r rows same) s) (still-all pid w (close_handle pid r w) (handle-ending pid r w) (handle-still pid r w) l))

-- its table is empty then
table-lacks : (pid : ℕ) (ts : List HandleTable) → count (is_table pid) ts ≤ 1 → rows_in (first (is_table pid) ts) ≡ [] → every (λ t. not (is_table pid t) || lacks_handles t) ts ≡ true
table-lacks pid [] one none = refl
table-lacks pid (t ∷ ts) one none = at (is_table pid t) refl (table-lacks pid ts)
  where
    off : (ts : List HandleTable) → has (is_table pid) ts ≡ false → every (λ t. not (is_table pid t) || lacks_handles t) ts ≡ true
    off [] none = refl
    off (t ∷ ts) none = grind (arith, off ts)

    lacks : (rs : List HandleRow) → rs ≡ [] → (elim rs [ [] ↦ true | r ∷ rest ↦ false ]) ≡ true
    lacks [] is = refl
    lacks (r ∷ rs) is = absurd (cc)

    at : (c : Bool) → is_table pid t ≡ c → (count (is_table pid) ts ≤ 1 → rows_in (first (is_table pid) ts) ≡ [] → every (λ t. not (is_table pid t) || lacks_handles t) ts ≡ true) → every (λ t. not (is_table pid t) || lacks_handles t) (t ∷ ts) ≡ true
    at true is later =
        let row : t.rows ≡ [] = rw is at none in
        let own : lacks_handles t ≡ true = lacks t.rows row in
        let rest = off ts (none-counted (is_table pid) ts (grind arith)) in grind arith
    at false is later =
        let row : rows_in (first (is_table pid) ts) ≡ [] = rw is at none in
        let few : count (is_table pid) ts ≤ 1 = grind arith in
        let rest = later few row in grind arith

-- a process that let its ports go
abbrev has_let_go : ℕ → ProcessRow → Bool
has_let_go pid p = not (p.number == pid) || is_portless p

abbrev HasLetGo : ℕ → World → Type 0
HasLetGo pid w = every (has_let_go pid) w.processes ≡ true

gone-step : (pid : ℕ) (w : World) (b : Basic) → is_ending b ≡ true → HasLetGo pid w → HasLetGo pid (basic w b)
gone-step pid w (LetsGo p) is l = every-change (has_let_go pid) (is_process p) portless (λ q was. or_right (not (q.number == pid)) true refl) w.processes l
gone-step pid w (SetsDebug p b) is l = absurd (cc)
gone-step pid w (SetsException p b) is l = absurd (cc)
gone-step pid w (Dooms p code) is l = absurd (cc)
gone-step pid w (AddsProcess p) is l = absurd (cc)
gone-step pid w (Frees o) is l = absurd (cc)
gone-step pid w b is l = l

lets-go : (pid : ℕ) (w : World) → HasLetGo pid (basic w (LetsGo pid))
lets-go pid w = every-change_to (λ q. true) (has_let_go pid) (is_process pid) portless (λ q was same. or_right (not (q.number == pid)) true refl) (λ q was off. rw off refl) w.processes (every-any (λ q. true) (λ q. refl) w.processes)

-- and then its views go
living-empty : (pid : ℕ) (w : World) → HasLivingBut pid w → HasLetGo pid w → handles_of w pid ≡ [] → IsSoundWorld w → HasLivingRows (basic w (DropsViewsOf pid))
living-empty pid w l gone none s = record {
  handles = every-both (is_almost pid w) (λ t. not (is_table pid t) || lacks_handles t) (is_living_table w) (λ t one two. parts (t.process == pid) (is_live w t.process) (lacks_handles t) one two) w.handles l.handles (table-lacks pid w.handles (s.tables pid) none);
  views = every-change_to (is_almost_space pid w) (is_living_space w) (is_space pid) without_views (λ t was here. or_right (is_live w t.process) true refl) (λ t was off. others (t.process == pid) _ was off) w.views l.views;
  ports = every-both (is_almost_process pid w) (has_let_go pid) (is_living_process w) (λ p one two. parts (p.number == pid) (is_live w p.number) (is_portless p) one two) w.processes l.ports gone;
}
  where
    parts : (e a c : Bool) → (e || (a || c)) ≡ true → (not e || c) ≡ true → (a || c) ≡ true
    parts e a c one two = grind arith

    others : (e a : Bool) → (e || a) ≡ true → e ≡ false → a ≡ true
    others e a one two = grind arith

living-live : (pid : ℕ) (w : World) → HasLivingBut pid w → is_live w pid ≡ true → HasLivingRows w
living-live pid w l live = record {
  handles = every-more (is_almost pid w) (is_living_table w) (λ t is. at t (t.process == pid) refl is) w.handles l.handles;
  views = every-more (is_almost_space pid w) (is_living_space w) (λ t is. its-views t (t.process == pid) refl is) w.views l.views;
  ports = every-more (is_almost_process pid w) (is_living_process w) (λ p is. its-ports p (p.number == pid) refl is) w.processes l.ports;
}
  where
    at : (t : HandleTable) (e : Bool) → (t.process == pid) ≡ e → (e || is_living_table w t) ≡ true → is_living_table w t ≡ true
    at t true same is = let own = subst (λ n. is_live w n ≡ true) (sym (eqb-true t.process pid same)) live in or_left (is_live w t.process) (lacks_handles t) own
    at t false off is = is

    its-views : (t : ViewTable) (e : Bool) → (t.process == pid) ≡ e → (e || is_living_space w t) ≡ true → is_living_space w t ≡ true
    its-views t true same is = let own = subst (λ n. is_live w n ≡ true) (sym (eqb-true t.process pid same)) live in or_left (is_live w t.process) (lacks_views t) own
    its-views t false off is = is

    its-ports : (p : ProcessRow) (e : Bool) → (p.number == pid) ≡ e → (e || is_living_process w p) ≡ true → is_living_process w p ≡ true
    its-ports p true same is = let own = subst (λ n. is_live w n ≡ true) (sym (eqb-true p.number pid same)) live in or_left (is_live w p.number) (is_portless p) own
    its-ports p false off is = is

end-living : (pid : ℕ) (code : Status) (ts : List ThreadRow) (w : World) → IsSafe w → AreOf pid w.threads ts → HasLivingRows w → HasLivingRows (behind (end_threads pid code ts) w)
unfolding end_threads
end-living pid code ts w is of l =
    let two = behind_told code ts w in
    then-holds HasLivingRows (in_turn (die code) ts) (in_turn post_deaths ts ▹ provided (λ w. not (is_live w pid)) (end_process pid)) w
    (then-holds HasLivingRows (in_turn post_deaths ts) (provided (λ w. not (is_live w pid)) (end_process pid)) (behind_dead code ts w)
    (at (is_live two pid) refl (told-but pid code ts w of (but-all pid w l)) (sound-of two (told-safe code ts w is))))
  where
    at : (live : Bool) → is_live (behind_told code ts w) pid ≡ live → HasLivingBut pid (behind_told code ts w) → IsSoundWorld (behind_told code ts w) → HasLivingRows (world_after (behind_told code ts w) (when (not live) (end_process pid (behind_told code ts w))))
    at true live l s = living-live pid (behind_told code ts w) l live
    at false off l s =
        let v = behind_told code ts w in
        let u = basic v (LetsGo pid) in
        let rows = handles_of u pid in
        let t = handles-but pid rows u refl (sound-processes v (change (is_process pid) portless v.processes) s) (still-step pid v (LetsGo pid) refl refl l) in
        let gone = steps-keep is_ending (HasLetGo pid) (gone-step pid) u (in_turn (close_handle pid) rows u) (turn-pass is_ending (close_handle pid) (λ r z. handle-ending pid r z) rows u) (lets-go pid v) in
        then-holds HasLivingRows (in_turn (close_handle pid) rows) (doing (DropsViewsOf pid ∷ [])) u (living-empty pid (behind (in_turn (close_handle pid) rows) u) t.0 gone t.1 t.2)

-- The calls
living-law : (by : ThreadRow) → LifeLaw by (Shut HasThreadsOnce) (Keep HasLivingRows)
living-law by = record {
  mild = λ w bs all. homely-all w bs (every-more (is_mild w) (is_homely w) (mild-homely w) bs all);
  registers = λ w b new is. homely-all w (Tells (Answer by.number NtRegisterThreadTerminatePort SUCCESS []) ∷ Registers by.number b ∷ []) refl;
  ends = λ w name own pid code ts doomed is l. world-ends HasLivingRows w by name own pid code ts (end-living pid code ts w (record { sound = is.sound; shut = is.known.0 }) (doomed-of w by own pid ts doomed is.known.1 is.can) l);
}

-- Lines
pub living-lines : LineLaw (Shut HasThreadsOnce) (λ _. Keep HasLivingRows)
living-lines = passing-lines (Shut HasThreadsOnce) (Keep HasLivingRows) is_homely homely-all (λ w. record { tells = λ _. refl; processes = λ _ _ _. refl; threads = λ _ _ _. refl; binds = λ _ _. refl; names = λ _. refl }) (λ by. life-outcomes by (Shut HasThreadsOnce) (Keep HasLivingRows) (living-law by))

-- the step of a line leaves handles, views and ports that are told of exceptions to living processes alone
pub living-settles : (v : World) → IsReady v → HasThreadsOnce v → HasLivingRows v → HasLivingRows (behind settle v)
living-settles = life-settles HasLivingRows (λ u bs all. homely-all u bs (every-more (is_mild u) (is_homely u) (mild-homely u) bs all)) (λ pid code u is once l. end-living pid code (live_threads u pid) u is (live-of u pid once) l)

pub living_step : (w : World) (line : ScriptLine) → IsSafe w → HasThreadsOnce w → HasThreadsOnce (world_after w (own_steps line w)) → IsReady (world_after w (own_steps line w)) → HasLivingRows w → HasLivingRows (world_after w (bare_steps line w)) × HasLivingRows (step w line).world
living_step w line is once after ready l =
    let v = world_after w (own_steps line w) in
    let bare = bare-does (Keep HasLivingRows) (λ w xs ys one two. keeps_on HasLivingRows w xs ys one two) w line (line-does (Shut HasThreadsOnce) (λ _. Keep HasLivingRows) living-lines w is.sound (is.shut, once) line) (living-settles v ready after) l in
    (bare, stepped HasLivingRows w line living-swept bare)
