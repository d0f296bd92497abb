-- Threads of a process end in a view, and the process with its last one.
use Rattle.std.proofs.Common.{◌≡◌, ℕ, List, [], ◌∷◌, Bool, true, false, not, Option, Some, None, refl, ap, sym, subst, ◌∙◌}
use Rattle.std.specs.Prelude.{◌&&◌, ◌==◌, is_some}
use Rattle.std.proofs.lemmas.Bool.{eqb-true}
use Rattle.lpc_base.specs.Rows.{every, first, passes, when}
use Rattle.lpc_base.proofs.RowWords.{every-append, first-passes}
use Rattle.lpc_base.proofs.RowMaps.{every-first}
use Rattle.lpc_base.proofs.Bools.{first-true, second-true}
use Rattle.lpc_base.specs.declared.status.Status.{Status}
use Rattle.lpc_model.specs.World.{Birth, HandleRow, ThreadRow, World, HandleTable}
use Rattle.lpc_model.specs.Found.{handles_of, is_live, is_table, live_threads, lives_in, rows_in}
use Rattle.lpc_model.specs.Basics.{DropsViewsOf, Steps, doing, in_turn, provided, world_after, ◌▹◌, LetsGo, basic}
use Rattle.lpc_model.specs.Close.{close_handle}
use Rattle.lpc_model.specs.Death.{die, end_process, end_threads, post_death, post_deaths, close_handles}
use Rattle.lpc_model.specs.Circle.{Group, owner}
use Rattle.lpc_model.proofs.Steps.Closing.{then-holds}
use Rattle.lpc_model.proofs.Steps.Ending.{first-at, rows-left, turn-pass}
use Rattle.lpc_model.proofs.Sound.Terminate.{handle-safe, lets-safe}
use Rattle.lpc_isolation.proofs.Views.View.{our_thread, view}
use Rattle.lpc_isolation.proofs.Rows.Fair.{is_fair_table, is_fair_thread, is_own}
use Rattle.lpc_isolation.proofs.Views.Filters.{count-inside, first-inside}
use Rattle.lpc_isolation.proofs.Views.Seen.{handles-view}
use Rattle.lpc_isolation.proofs.Gone.Thin.{Alive, Closed, handle_closed, is_live-thin}
use Rattle.lpc_isolation.proofs.Gone.ThinCalls.{rows-closed}
use Rattle.lpc_isolation.proofs.Closings.Mild.{AreMild, Sure, is_mild}
use Rattle.lpc_isolation.proofs.Each.Closes.{handle-good, handle-mild, handle-sent, handle-stands, thin-handle}
use Rattle.lpc_isolation.proofs.Rows.Sent.{append-sent, are_sent}
use Rattle.lpc_isolation.proofs.Endings.Parts.{turn-steady, Part, Remains, Steady, good-part, known-part, none-part, provided-part, provided-remains, steady-after, steady-sure, then-part, then-remains, turn-part, turn-remains}
use Rattle.lpc_isolation.proofs.Endings.Deaths.{die-mild, die-part, die-sent, post-mild, post-sent, die-remains, die-steady, post-part, post-remains, post-steady}
use Rattle.lpc_isolation.proofs.Views.Callers.{Led, led-same}

-- The threads that end
-- a thread of the process, which registered ports of its own
abbrev pub is_ending_of : World → ℕ → ThreadRow → Bool
is_ending_of u pid t = passes (owner u t.number) (λ p. p == pid) && ((t.process == pid) && is_fair_thread t)

abbrev is_of : ℕ → Birth → Bool
is_of pid b = b.process == pid

owner-of : (u : World) (pid : ℕ) (t : ThreadRow) → is_ending_of u pid t ≡ true → owner u t.number ≡ Some pid
owner-of u pid t is = at (owner u t.number) (first-true _ _ is)
  where
    at : (o : Option ℕ) → passes o (λ p. p == pid) ≡ true → o ≡ Some pid
    at None is = absurd (cc)
    at (Some p) is = ap (λ p. Some p) (eqb-true p pid is)

process-of : (u : World) (pid : ℕ) (t : ThreadRow) → is_ending_of u pid t ≡ true → t.process ≡ pid
process-of u pid t is = eqb-true t.process pid (first-true _ _ (second-true (passes (owner u t.number) (λ p. p == pid)) _ is))

ports-of : (u : World) (pid : ℕ) (t : ThreadRow) → is_ending_of u pid t ≡ true → every (is_of pid) t.registrations ≡ true
ports-of u pid t is = subst (λ n. every (is_of n) t.registrations ≡ true) (process-of u pid t is) (second-true (t.process == pid) _ (second-true (passes (owner u t.number) (λ p. p == pid)) _ is))

-- what all of it is, whosever the threads are
turn-sent : {A : Type 0} (f : A → Steps) → ((x : A) (w : World) → are_sent w (f x w) ≡ true) → (xs : List A) (w : World) → are_sent w (in_turn f xs w) ≡ true
turn-sent f sent [] w = refl
turn-sent f sent (x ∷ xs) w = let v : World = world_after w (f x w) in append-sent w (f x w) (in_turn f xs v) (sent x w) (turn-sent f sent xs v)

process-mild : (pid : ℕ) (w : World) → AreMild (end_process pid w)
process-mild pid w = let v : World = basic w (LetsGo pid) in every-append is_mild (in_turn (close_handle pid) (handles_of v pid) v) (DropsViewsOf pid ∷ []) (turn-pass is_mild (close_handle pid) (λ r v. handle-mild v pid r) (handles_of v pid) v) refl

process-sent : (pid : ℕ) (w : World) → are_sent w (end_process pid w) ≡ true
process-sent pid w = let v : World = basic w (LetsGo pid) in append-sent v (in_turn (close_handle pid) (handles_of v pid) v) (DropsViewsOf pid ∷ []) (turn-sent (close_handle pid) (λ r v. handle-sent v pid r) (handles_of v pid) v) refl

pub ends-mild : (pid : ℕ) (code : Status) (ts : List ThreadRow) (w : World) → AreMild (end_threads pid code ts w)
unfolding end_threads
ends-mild pid code ts w =
    let dead : World = world_after w (in_turn (die code) ts w) in
    let told : World = world_after dead (in_turn post_deaths ts dead) in
    every-append is_mild (in_turn (die code) ts w) _ (turn-pass is_mild (die code) (die-mild code) ts w)
    (every-append is_mild (in_turn post_deaths ts dead) _ (turn-pass is_mild post_deaths (λ t v. turn-pass is_mild (post_death t) (post-mild t) t.registrations v) ts dead) (at told (not (is_live told pid))))
  where
    at : (v : World) (e : Bool) → AreMild (when e (end_process pid v))
    at v true = process-mild pid v
    at v false = refl

pub ends-sent : (pid : ℕ) (code : Status) (ts : List ThreadRow) (w : World) → are_sent w (end_threads pid code ts w) ≡ true
unfolding end_threads
ends-sent pid code ts w =
    let dead : World = world_after w (in_turn (die code) ts w) in
    let told : World = world_after dead (in_turn post_deaths ts dead) in
    append-sent w (in_turn (die code) ts w) _ (turn-sent (die code) (die-sent code) ts w)
    (append-sent dead (in_turn post_deaths ts dead) _ (turn-sent post_deaths (λ t v. turn-sent (post_death t) (post-sent t) t.registrations v) ts dead) (at told (not (is_live told pid))))
  where
    at : (v : World) (e : Bool) → are_sent v (when e (end_process pid v)) ≡ true
    at v true = process-sent pid v
    at v false = refl

-- a process lives in the view as in the world, by the same threads
pub lives-view : (m : Group) (w : World) (pid : ℕ) → m pid ≡ true → is_live (view m w) pid ≡ is_live w pid
lives-view m w pid inside = ap is_some (first-inside (our_thread m) (lives_in pid) (λ t is. ap m (eqb-true t.process pid (first-true _ _ is)) ∙ inside) w.threads)

pub threads-view : (m : Group) (w : World) (pid : ℕ) → m pid ≡ true → live_threads (view m w) pid ≡ live_threads w pid
threads-view m w pid inside = count-inside (our_thread m) (lives_in pid) (λ t is. ap m (eqb-true t.process pid (first-true _ _ is)) ∙ inside) w.threads

-- they end, and what they registered is told
module _ (m : Group) (c : ℕ) (u : World) (pid : ℕ) (c_in : m c ≡ true) where
  abbrev known : World → Type 0
  known = Steady m c u

  dead-part : (code : Status) (ts : List ThreadRow) → every (is_ending_of u pid) ts ≡ true → Part m c u pid known (in_turn (die code) ts)
  dead-part code ts all = turn-part m c u pid c_in known (is_ending_of u pid) (die code) (steady-sure m c u) (λ t is. die-part m c u pid c_in code t (owner-of u pid t is)) (λ t is w k. die-steady m c u pid c_in code t (owner-of u pid t is) w k) ts all

  posts-part : (t : ThreadRow) → is_ending_of u pid t ≡ true → Part m c u pid known (post_deaths t)
  posts-part t is = turn-part m c u pid c_in known (is_of pid) (post_death t) (steady-sure m c u)
      (λ b home. post-part m c u pid c_in t (owner-of u pid t is) (process-of u pid t is) b (eqb-true b.process pid home))
      (λ b home w k. post-steady m c u pid c_in t (owner-of u pid t is) (process-of u pid t is) b (eqb-true b.process pid home) w k) t.registrations (ports-of u pid t is)

  told-part : (ts : List ThreadRow) → every (is_ending_of u pid) ts ≡ true → Part m c u pid known (in_turn post_deaths ts)
  told-part ts all = turn-part m c u pid c_in known (is_ending_of u pid) post_deaths (steady-sure m c u) posts-part
      (λ t is w k. turn-steady known (is_of pid) (post_death t) (λ b home v k. post-steady m c u pid c_in t (owner-of u pid t is) (process-of u pid t is) b (eqb-true b.process pid home) v k) t.registrations (ports-of u pid t is) w k) ts all

  dead-steady : (code : Status) (ts : List ThreadRow) → every (is_ending_of u pid) ts ≡ true → (w : World) → known w → known (world_after w (in_turn (die code) ts w))
  dead-steady code ts all w k = turn-steady known (is_ending_of u pid) (die code) (λ t is v k. die-steady m c u pid c_in code t (owner-of u pid t is) v k) ts all w k

  told-steady : (ts : List ThreadRow) → every (is_ending_of u pid) ts ≡ true → (w : World) → known w → known (world_after w (in_turn post_deaths ts w))
  told-steady ts all w k = turn-steady known (is_ending_of u pid) post_deaths (λ t is v k. turn-steady known (is_of pid) (post_death t) (λ b home x k. post-steady m c u pid c_in t (owner-of u pid t is) (process-of u pid t is) b (eqb-true b.process pid home) x k) t.registrations (ports-of u pid t is) v k) ts all w k

  -- the handles of the process go in turn
  abbrev has_rows : List HandleRow → World → Type 0
  has_rows rows w = known w × (handles_of w pid ≡ rows)

  rows-known : (rows : List HandleRow) (w : World) → has_rows rows w → Sure m c u w
  rows-known rows w k = steady-sure m c u w k.0

  row-part : (rows : List HandleRow) (r : HandleRow) → is_own pid r ≡ true → Part m c u pid (has_rows rows) (close_handle pid r)
  row-part rows r own =
      let home : r.object.birth.process ≡ pid = eqb-true r.object.birth.process pid own in
      known-part m c u pid c_in (Sure m c u) (has_rows rows) (close_handle pid r) (rows-known rows) (good-part m c u pid c_in r.object.birth (close_handle pid r) home (handle-good m c pid r home))

  row-left : (r : HandleRow) (rows : List HandleRow) → is_own pid r ≡ true → (w : World) → has_rows (r ∷ rows) w → has_rows rows (world_after w (close_handle pid r w))
  row-left r rows own w k =
      let s = k.0 in
      let safe = s.safe in (
        steady-after m c u pid (has_rows (r ∷ rows)) (close_handle pid r) (row-part (r ∷ rows) r own) w k s.sure (handle-safe w pid r (first-at w pid r rows k.1) s.safe),
        rows-left w pid r rows k.1 safe.sound,
      )

  rows-part : (rows : List HandleRow) → every (is_own pid) rows ≡ true → Part m c u pid (has_rows rows) (in_turn (close_handle pid) rows)
  rows-part [] own = none-part m c u pid c_in (has_rows []) (rows-known [])
  rows-part (r ∷ rows) own = then-part m c u pid c_in (has_rows (r ∷ rows)) (has_rows rows) (close_handle pid r) (in_turn (close_handle pid) rows) (row-part (r ∷ rows) r (first-true _ _ own)) (row-left r rows (first-true _ _ own)) (rows-part rows (second-true _ _ own))

  rows-own : (w : World) → known w → every (is_own pid) (handles_of w pid) ≡ true
  rows-own w k = let s = k.sure in let f = s.fair in at (first (is_table pid) w.handles) refl f.tables
    where
      at : (o : Option HandleTable) → first (is_table pid) w.handles ≡ o → every is_fair_table w.handles ≡ true → every (is_own pid) (rows_in o) ≡ true
      at None none all = refl
      at (Some t) some all = subst (λ n. every (is_own n) t.rows ≡ true) (eqb-true t.process pid (first-passes (is_table pid) w.handles t some)) (every-first is_fair_table (is_table pid) w.handles t all some)

  rows-steady : (rows : List HandleRow) → every (is_own pid) rows ≡ true → (w : World) → has_rows rows w → known (world_after w (in_turn (close_handle pid) rows w))
  rows-steady [] own w k = k.0
  rows-steady (r ∷ rows) own w k = then-holds known (close_handle pid r) (in_turn (close_handle pid) rows) w (rows-steady rows (second-true _ _ own) (world_after w (close_handle pid r w)) (row-left r rows (first-true _ _ own) w k))

  -- and then its views
  views-part : Part m c u pid known (doing (DropsViewsOf pid ∷ []))
  views-part = record {
    mild = λ w. refl;
    sent = λ w. refl;
    fair = λ w k. refl;
    asked = λ w k. let s = k.sure in let a = s.asked in record { sorts = a.sorts; own = a.own; one = a.one; marked = a.marked };
    apart = λ d w k out. rw out refl;
    mute = λ d w memo k n out. refl;
    shown = λ w k n e is. refl;
    led = λ d w k inside. led-same m c u d w (DropsViewsOf pid ∷ []) refl;
  }

  process-at : (w : World) → known w → Part m c u pid (has_rows (handles_of w pid)) (in_turn (close_handle pid) (handles_of w pid) ▹ doing (DropsViewsOf pid ∷ []))
  process-at w k =
      let rows = handles_of w pid in
      then-part m c u pid c_in (has_rows rows) known (in_turn (close_handle pid) rows) (doing (DropsViewsOf pid ∷ [])) (rows-part rows (rows-own w k)) (rows-steady rows (rows-own w k)) views-part

  -- behind the ports that are let go
  abbrev rest : Steps
  rest = close_handles pid ▹ doing (DropsViewsOf pid ∷ [])

  process-view : (w : World) → m pid ≡ true → rest (view m w) ≡ (in_turn (close_handle pid) (handles_of w pid) ▹ doing (DropsViewsOf pid ∷ [])) (view m w)
  process-view w inside = ap (λ rows. (in_turn (close_handle pid) rows ▹ doing (DropsViewsOf pid ∷ [])) (view m w)) (handles-view m w pid inside)

  rest-part : Part m c u pid known rest
  rest-part = record {
    mild = λ w. every-append is_mild (in_turn (close_handle pid) (handles_of w pid) w) (DropsViewsOf pid ∷ []) (turn-pass is_mild (close_handle pid) (λ r v. handle-mild v pid r) (handles_of w pid) w) refl;
    sent = λ w. append-sent w (in_turn (close_handle pid) (handles_of w pid) w) (DropsViewsOf pid ∷ []) (turn-sent (close_handle pid) (λ r v. handle-sent v pid r) (handles_of w pid) w) refl;
    fair = λ w k. let p = process-at w k in p.fair w (k, refl);
    asked = λ w k. let p = process-at w k in p.asked w (k, refl);
    apart = λ d w k out. let p = process-at w k in p.apart d w (k, refl) out;
    mute = λ d w memo k n out. let p = process-at w k in p.mute d w memo (k, refl) n out;
    shown = λ w k n e is. let p = process-at w k in p.shown w (k, refl) n e is;
    led = λ d w k inside. let p = process-at w k in subst (Led m c u d w (rest w)) (sym (process-view w inside)) (p.led d w (k, refl) inside);
  }

  lets-part : Part m c u pid known (doing (LetsGo pid ∷ []))
  lets-part = record {
    mild = λ w. refl;
    sent = λ w. refl;
    fair = λ w k. refl;
    asked = λ w k. let s = k.sure in let a = s.asked in record { sorts = a.sorts; own = a.own; one = a.one; marked = a.marked };
    apart = λ d w k out. rw out refl;
    mute = λ d w memo k n out. refl;
    shown = λ w k n e is. refl;
    led = λ d w k inside. led-same m c u d w (LetsGo pid ∷ []) refl;
  }

  process-part : Part m c u pid known (end_process pid)
  process-part = then-part m c u pid c_in known known (doing (LetsGo pid ∷ [])) rest lets-part (λ w k. steady-after m c u pid known (doing (LetsGo pid ∷ [])) lets-part w k k.sure (lets-safe w pid k.safe)) rest-part

  -- all of it
  pub ends-part : (code : Status) (ts : List ThreadRow) → every (is_ending_of u pid) ts ≡ true → Part m c u pid known (end_threads pid code ts)
  unfolding end_threads
  ends-part code ts all =
      then-part m c u pid c_in known known (in_turn (die code) ts) (in_turn post_deaths ts ▹ provided (λ w. not (is_live w pid)) (end_process pid)) (dead-part code ts all) (dead-steady code ts all)
      (then-part m c u pid c_in known known (in_turn post_deaths ts) (provided (λ w. not (is_live w pid)) (end_process pid)) (told-part ts all) (told-steady ts all)
      (provided-part m c u pid c_in known (λ w. not (is_live w pid)) (end_process pid) (steady-sure m c u) (λ w k inside. ap (λ e. not e) (lives-view m w pid inside)) process-part))

-- Where rows have gone
process-remains : (k : Alive) (pid : ℕ) → Remains k (end_process pid)
process-remains k pid = then-remains k (doing (LetsGo pid ∷ [])) (close_handles pid ▹ doing (DropsViewsOf pid ∷ [])) lets (record {
  alike = λ u closed. (at u closed).alike u closed;
  stands = λ u closed. (at u closed).stands u closed;
})
  where
    lets : Remains k (doing (LetsGo pid ∷ []))
    lets = record { alike = λ u closed. refl; stands = λ u closed. refl }

    row : (r : HandleRow) → handle_closed k r ≡ true → Remains k (close_handle pid r)
    row r live = record { alike = λ u closed. thin-handle k u pid r closed live; stands = λ u closed. handle-stands k u pid r closed live }

    views : Remains k (doing (DropsViewsOf pid ∷ []))
    views = record { alike = λ u closed. refl; stands = λ u closed. refl }

    at : (u : World) → Closed k u → Remains k (in_turn (close_handle pid) (handles_of u pid) ▹ doing (DropsViewsOf pid ∷ []))
    at u closed = then-remains k (in_turn (close_handle pid) (handles_of u pid)) (doing (DropsViewsOf pid ∷ [])) (turn-remains k (handle_closed k) (close_handle pid) row (handles_of u pid) (rows-closed k pid u.handles (first (is_table pid) u.handles) refl closed.tables)) views

-- ports that stand
abbrev pub are_standing : Alive → ThreadRow → Bool
are_standing k t = every k.ports t.registrations

pub ends-remains : (k : Alive) (pid : ℕ) (code : Status) (ts : List ThreadRow) → every (are_standing k) ts ≡ true → Remains k (end_threads pid code ts)
unfolding end_threads
ends-remains k pid code ts all =
    then-remains k (in_turn (die code) ts) (in_turn post_deaths ts ▹ provided (λ w. not (is_live w pid)) (end_process pid)) (turn-remains k (are_standing k) (die code) (λ t is. die-remains k code t) ts all)
    (then-remains k (in_turn post_deaths ts) (provided (λ w. not (is_live w pid)) (end_process pid)) (turn-remains k (are_standing k) post_deaths (λ t is. turn-remains k k.ports (post_death t) (λ b live. post-remains k t b live) t.registrations is) ts all)
    (provided-remains k (λ w. not (is_live w pid)) (end_process pid) (λ u closed. ap (λ e. not e) (is_live-thin k u pid closed)) (process-remains k pid)))
