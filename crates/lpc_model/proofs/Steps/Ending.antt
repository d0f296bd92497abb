-- The steps by which threads end, and a process with its last one: what each of them keeps, all of them do.
use Rattle.std.proofs.Common.{Bool, List, None, Option, Some, [], ap, arith, cond, false, not, refl, subst, sym, true, ℕ, ◌++◌, ◌∙◌, ◌∷◌, ◌≡◌}
use Rattle.std.specs.Prelude.{Ok, option_and_then, option_map, ◌&&◌, ◌==◌}
use Rattle.std.proofs.lemmas.Bool.Decides.{nat_tests}
use Rattle.std.proofs.lemmas.Bool.{and_from, not-false}
use Rattle.lpc_base.specs.Rows.{change, every, first, given, has, when, without_first}
use Rattle.lpc_base.specs.declared.status.Status.{Status}
use Rattle.lpc_base.specs.declared.status.TheConstants.{INVALID_CID}
use Rattle.lpc_base.proofs.RowWords.{every-append, every-more, first-passes}
use Rattle.lpc_base.proofs.Births.{birth-same}
use Rattle.lpc_model.specs.declared.entry.CallName.{CallName}
use Rattle.lpc_model.specs.declared.entry.CallName.TheVariants.{NtTerminateThread}
use Rattle.lpc_model.specs.World.{Birth, Creator, HandleRow, HandleTable, MessageRow, PortRow, ThreadRow, WaitRow, World}
use Rattle.lpc_model.specs.Found.{handle_at, handles_of, has_value, is_accepted, is_connect, is_live, is_open, is_port, is_table, port_row, route, rows_in, wait_of, way}
use Rattle.lpc_model.specs.Basics.{Accepts, AddsHandle, AddsProcess, AddsSection, AddsThread, Awaits, Basic, Binds, Completes, Cuts, Dies, DrawsIdentifier, DrawsOrdinal, DropsHandle, DropsOwned, DropsViewsOf, Empties, Frees, Joins, Makes, Maps, Receives, Registers, Steps, Takes, TakesConnect, Unbinds, Unmaps, Unregisters, Wakes, Withdraws, Writes, basic, doing, in_turn, provided, without_handle, world_after, ◌▹◌, Acts, AddsToken, NamesToken, Secures, Dooms, LetsGo, Marks, SetsDebug, SetsException}
use Rattle.lpc_model.specs.Entering.{enter, received_steps, row_of}
use Rattle.lpc_model.specs.Refusal.{refuse_if}
use Rattle.lpc_model.specs.Lines.{ProcArg}
use Rattle.lpc_model.specs.Close.{close_handle, close_port, closed_row, cut_pair, is_last, post_closed, server_of, closing_post}
use Rattle.lpc_model.specs.Targets.{thread_target}
use Rattle.lpc_model.specs.Death.{answer_unless, code_status, end_client, die, died_message, end_process, end_threads, nt_terminate_thread, post_death, post_deaths, death_post}
use Rattle.lpc_model.specs.PlainConnects.{is_plain_connect}
use Rattle.lpc_model.specs.SoundWaits.{IsSoundWorld}
use Rattle.lpc_model.proofs.Calls.Holding.{Holds, bind_holds, not_refused}
use Rattle.lpc_model.proofs.Steps.Closing.{behind, close-pass, pair-pass, stage_five, takes_away, then-holds}
use Rattle.lpc_model.proofs.Sound.Closing.{close-shut}
use Rattle.lpc_model.specs.Closings.{is_closed_post}
use Rattle.lpc_model.proofs.Calls.Usable.{way-open}
use Rattle.lpc_model.proofs.Steps.InTurn.{after-append}
use Rattle.lpc_model.proofs.Calls.Taking.{is_taking, taken_at_once, taking-entered, taking-receipt}
use Rattle.lpc_model.specs.Deaths.{is_died_post}

-- Steps in turn
pub turn-keeps : {A : Type 0} (P : World → Type 0) (f : A → Steps) → ((x : A) (w : World) → P w → P (behind (f x) w)) → (xs : List A) (w : World) → P w → P (behind (in_turn f xs) w)
turn-keeps P f step [] w is = is
turn-keeps P f step (x ∷ xs) w is = then-holds P (f x) (in_turn f xs) w (turn-keeps P f step xs (behind (f x) w) (step x w is))

pub turn-pass : {A : Type 0} (p : Basic → Bool) (f : A → Steps) → ((x : A) (w : World) → every p (f x w) ≡ true) → (xs : List A) (w : World) → every p (in_turn f xs w) ≡ true
turn-pass p f all [] w = refl
turn-pass p f all (x ∷ xs) w = every-append p (f x w) (in_turn f xs (behind (f x) w)) (all x w) (turn-pass p f all xs (behind (f x) w))

-- What the steps are
-- the steps by which something ends, or is told of it
abbrev pub is_ending : Basic → Bool
is_ending (Awaits x) = false
is_ending (Accepts who reply) = false
is_ending (DrawsIdentifier who) = false
is_ending (DrawsOrdinal who) = false
is_ending (Registers who b) = false
is_ending (AddsProcess p) = false
is_ending (AddsThread t) = false
is_ending (Makes p) = false
is_ending (Joins client server context) = false
is_ending (Completes b) = false
is_ending (Frees o) = false
is_ending (Binds path node) = false
is_ending (AddsHandle pid h) = false
is_ending (AddsSection s) = false
is_ending (Writes b place new) = false
is_ending (Maps pid v) = false
is_ending (Unmaps pid base) = false
is_ending (Secures b s) = false
is_ending (Acts who own) = false
is_ending (AddsToken t) = false
is_ending (NamesToken n) = false
is_ending (SetsDebug pid b) = false
is_ending (SetsException pid b) = false
is_ending (Dooms pid code) = false
is_ending b = true

abbrev pub AreEnding : List Basic → Type 0
AreEnding bs = every is_ending bs ≡ true

away-ending : (x : Basic) → takes_away x ≡ true → is_ending x ≡ true
away-ending (Wakes who call status fields) is = refl
away-ending (Withdraws who) is = refl
away-ending (Empties q) is = refl
away-ending (Unbinds b) is = refl
away-ending (DropsOwned b) is = refl
away-ending (Marks who) is = refl
away-ending x is = absurd (cc)

taking-ending : (b : Basic) → is_taking b ≡ true → is_ending b ≡ true
taking-ending (Takes queue) is = refl
taking-ending (TakesConnect queue) is = refl
taking-ending (Receives who queue) is = refl
taking-ending (Wakes who call status fields) is = refl
taking-ending b is = absurd (cc)

pub ending-receipt : (m : MessageRow) → AreEnding (received_steps m)
ending-receipt m = every-more is_taking is_ending taking-ending (received_steps m) (taking-receipt m)

pub ending-enter : (m : MessageRow) (w : World) → AreEnding (enter m w)
ending-enter m w = every-more is_taking is_ending taking-ending (taken_at_once m w) (taking-entered m w)

ending-accepted : (o : Option WaitRow) (w : World) → AreEnding (end_client o w)
ending-accepted None w = refl
ending-accepted (Some x) w = every-append is_ending (when (is_accepted x) (cut_pair x.port w)) _ (at (is_accepted x)) (own (is_connect x))
  where
    at : (a : Bool) → AreEnding (when a (cut_pair x.port w))
    at true = pair-pass is_ending away-ending x.port w refl
    at false = refl

    own : (c : Bool) → AreEnding (when c (DropsOwned x.port ∷ []))
    own true = refl
    own false = refl

pub die-ending : (code : Status) (t : ThreadRow) (w : World) → AreEnding (die code t w)
die-ending code t w =
    let first = Dies t.number code ∷ Withdraws t.number ∷ [] in
    every-append is_ending first (end_client (wait_of w t.number) (world_after w first)) refl (ending-accepted (wait_of w t.number) (world_after w first))

ending-told : (o : Option MessageRow) (w : World) → AreEnding (given o (λ m. enter m w))
ending-told None w = refl
ending-told (Some m) w = ending-enter m w

pub ending-death : (t : ThreadRow) (b : Birth) (w : World) → AreEnding (post_death t b w)
ending-death t b w = ending-told (death_post (basic w (Unregisters t.number b)) t b) (basic w (Unregisters t.number b))

closed-ending : (b : Birth) (w : World) → AreEnding (post_closed b w)
closed-ending b w = at (port_row w b)
  where
    by_creator : (p : PortRow) (queue : Birth) (o : Option Creator) → AreEnding (given (option_map (closed_row p queue) o) (λ m. enter m w))
    by_creator p queue None = refl
    by_creator p queue (Some by) = ending-enter (closed_row p queue by) w

    queued : (p : PortRow) (o : Option Birth) → AreEnding (given (option_and_then (λ queue. option_map (closed_row p queue) p.creator) o) (λ m. enter m w))
    queued p None = refl
    queued p (Some queue) = by_creator p queue p.creator

    at : (o : Option PortRow) → AreEnding (given o (λ p. given (closing_post w p) (λ m. enter m w)))
    at None = refl
    at (Some p) = queued p (server_of w p)

pub handle-ending : (pid : ℕ) (r : HandleRow) (w : World) → AreEnding (close_handle pid r w)
handle-ending pid r w = at (is_last r w)
  where
    at : (last : Bool) → AreEnding (when last (close_port r.object.birth w) ++ DropsHandle pid r.value ∷ [])
    at true = every-append is_ending (close_port r.object.birth w) (DropsHandle pid r.value ∷ []) (close-pass is_ending away-ending r.object.birth w refl (closed-ending r.object.birth (stage_five w r.object.birth))) refl
    at false = refl

pub end-ending : (pid : ℕ) (code : Status) (ts : List ThreadRow) (w : World) → AreEnding (end_threads pid code ts w)
unfolding end_threads
end-ending pid code ts w =
    let one = behind (in_turn (die code) ts) w in
    let two = behind (in_turn post_deaths ts) one in
    every-append is_ending (in_turn (die code) ts w) _ (turn-pass is_ending (die code) (λ t v. die-ending code t v) ts w)
    (every-append is_ending (in_turn post_deaths ts one) _ (turn-pass is_ending post_deaths (λ t v. turn-pass is_ending (post_death t) (λ b u. ending-death t b u) t.registrations v) ts one)
    (at (not (is_live two pid)) two))
  where
    at : (last : Bool) (v : World) → AreEnding (when last (end_process pid v))
    at true v =
        let u = basic v (LetsGo pid) in
        every-append is_ending (in_turn (close_handle pid) (handles_of u pid) u) _ (turn-pass is_ending (close_handle pid) (λ r u. handle-ending pid r u) (handles_of u pid) u) refl
    at false v = refl

-- so of another test
pub accepted-pass : (p : Basic → Bool) → ((x : Basic) → takes_away x ≡ true → p x ≡ true) → ((b : Birth) → p (Cuts b) ≡ true) → (o : Option WaitRow) (w : World) → every p (end_client o w) ≡ true
accepted-pass p away cuts None w = refl
accepted-pass p away cuts (Some x) w = every-append p (when (is_accepted x) (cut_pair x.port w)) _ (at (is_accepted x)) (own (is_connect x))
  where
    at : (a : Bool) → every p (when a (cut_pair x.port w)) ≡ true
    at true = pair-pass p away x.port w (cuts x.port)
    at false = refl

    own : (c : Bool) → every p (when c (DropsOwned x.port ∷ [])) ≡ true
    own true = and_from _ _ (away (DropsOwned x.port) refl) refl
    own false = refl

pub die-pass : (p : Basic → Bool) → ((x : Basic) → takes_away x ≡ true → p x ≡ true) → ((n : ℕ) (code : Status) → p (Dies n code) ≡ true) → ((b : Birth) → p (Cuts b) ≡ true) → (code : Status) (t : ThreadRow) (w : World) → every p (die code t w) ≡ true
die-pass p away dies cuts code t w =
    let first = Dies t.number code ∷ Withdraws t.number ∷ [] in
    every-append p first (end_client (wait_of w t.number) (world_after w first)) (both (p (Dies t.number code)) (p (Withdraws t.number)) (dies t.number code) (away (Withdraws t.number) refl)) (accepted-pass p away cuts (wait_of w t.number) (world_after w first))
  where
    both : (a b : Bool) → a ≡ true → b ≡ true → (a && (b && true)) ≡ true
    both a b one two = grind arith

-- What is told of a thread that ended
pub record IsToldDeath (w : World) (m : MessageRow) : Type 0 where
  pub other : not (is_closed_post m) ≡ true
  pub plain : is_plain_connect m ≡ true
  pub died : is_died_post m ≡ true
  pub stands : has (is_port m.sender) w.ports ≡ true
  pub opens : is_open w m.queue ≡ true

route-open : (w : World) (p : PortRow) (q : Birth) → route w p ≡ Some q → is_open w q ≡ true
route-open w p q = at (is_open w p.birth) refl
  where
    at : (c : Bool) → is_open w p.birth ≡ c → cond c (way w p) None ≡ Some q → is_open w q ≡ true
    at true opens is = way-open w q p opens is
    at false off is = absurd (cc)

pub told-facts : (t : ThreadRow) (b : Birth) (m : MessageRow) (w : World) → death_post w t b ≡ Some m → IsToldDeath w m
told-facts t b m w = at (port_row w b) refl
  where
    routed : (p : PortRow) → port_row w b ≡ Some p → (o : Option Birth) → route w p ≡ o → option_map (λ q. row_of q p (died_message t)) o ≡ Some m → IsToldDeath w m
    routed p row None none is = absurd (cc)
    routed p row (Some q) some is =
        let same : row_of q p (died_message t) ≡ m = cc in
        subst (IsToldDeath w) same (record {
          other = refl;
          plain = refl;
          died = refl;
          stands = subst (λ c. has (is_port c) w.ports ≡ true) (sym (birth-same p.birth b (first-passes (is_port b) w.ports p row))) (rw row refl);
          opens = route-open w p q some;
        })

    at : (o : Option PortRow) → port_row w b ≡ o → option_and_then (λ p. option_map (λ q. row_of q p (died_message t)) (route w p)) o ≡ Some m → IsToldDeath w m
    at None none is = absurd (cc)
    at (Some p) row is = routed p row (route w p) refl is

-- Handles that go in turn
dropped-rows : (pid value : ℕ) (ts : List HandleTable) → rows_in (first (is_table pid) (change (is_table pid) (without_handle value) ts)) ≡ without_first (has_value value) (rows_in (first (is_table pid) ts))
dropped-rows pid value [] = refl
dropped-rows pid value (t ∷ ts) = at (is_table pid t) refl (dropped-rows pid value ts)
  where
    at : (c : Bool) → is_table pid t ≡ c → rows_in (first (is_table pid) (change (is_table pid) (without_handle value) ts)) ≡ without_first (has_value value) (rows_in (first (is_table pid) ts))
        → rows_in (first (is_table pid) (change (is_table pid) (without_handle value) (t ∷ ts))) ≡ without_first (has_value value) (rows_in (first (is_table pid) (t ∷ ts)))
    at true is later = grind arith
    at false is later = grind (arith, later)

first-own : (r : HandleRow) (rows : List HandleRow) → first (has_value r.value) (r ∷ rows) ≡ Some r
first-own r rows = grind (arith, nat_tests)

first-gone : (r : HandleRow) (rows : List HandleRow) → without_first (has_value r.value) (r ∷ rows) ≡ rows
first-gone r rows = grind (arith, nat_tests)

pub first-at : (w : World) (pid : ℕ) (r : HandleRow) (rows : List HandleRow) → handles_of w pid ≡ r ∷ rows → handle_at w pid r.value ≡ Some r
first-at w pid r rows same = subst (λ rs. first (has_value r.value) rs ≡ Some r) (sym same) (first-own r rows)

-- the others are left
pub rows-left : (w : World) (pid : ℕ) (r : HandleRow) (rows : List HandleRow) → handles_of w pid ≡ r ∷ rows → IsSoundWorld w → handles_of (behind (close_handle pid r) w) pid ≡ rows
rows-left w pid r rows same s = by_last (is_last r w)
  where
    left : (v : World) → v.handles ≡ w.handles → handles_of (basic v (DropsHandle pid r.value)) pid ≡ rows
    left v handles =
        dropped-rows pid r.value v.handles ∙ (ap (λ hs. without_first (has_value r.value) (rows_in (first (is_table pid) hs))) handles ∙ (ap (without_first (has_value r.value)) same ∙ first-gone r rows))

    by_last : (last : Bool) → handles_of (world_after w (when last (close_port r.object.birth w) ++ DropsHandle pid r.value ∷ [])) pid ≡ rows
    by_last true =
        let shut = close-shut w r.object.birth s in
        ap (λ v. handles_of v pid) (after-append w (close_port r.object.birth w) (DropsHandle pid r.value ∷ [])) ∙ left (world_after w (close_port r.object.birth w)) shut.handles
    by_last false = left w refl

-- What all of them keep
-- the worlds behind the first two parts
abbrev pub behind_dead : Status → List ThreadRow → World → World
behind_dead code ts w = behind (in_turn (die code) ts) w

abbrev pub behind_told : Status → List ThreadRow → World → World
behind_told code ts w = behind (in_turn post_deaths ts) (behind_dead code ts w)

module _ (P : World → Type 0) (dies : (code : Status) (t : ThreadRow) (w : World) → P w → P (behind (die code t) w)) (leaves : (n : ℕ) (b : Birth) (w : World) → P w → P (basic w (Unregisters n b)))
    (posts : (t : ThreadRow) (b : Birth) (m : MessageRow) (w : World) → death_post w t b ≡ Some m → P w → P (behind (enter m) w)) where
  post-keeps : (t : ThreadRow) (b : Birth) (w : World) → P w → P (behind (post_death t b) w)
  post-keeps t b w is = at (death_post (basic w (Unregisters t.number b)) t b) refl (leaves t.number b w is)
    where
      at : (o : Option MessageRow) → death_post (basic w (Unregisters t.number b)) t b ≡ o → P (basic w (Unregisters t.number b)) → P (world_after (basic w (Unregisters t.number b)) (given o (λ m. enter m (basic w (Unregisters t.number b)))))
      at None none is = is
      at (Some m) some is = posts t b m (basic w (Unregisters t.number b)) some is

  pub told-keeps : (code : Status) (ts : List ThreadRow) (w : World) → P w → P (behind_told code ts w)
  told-keeps code ts w is =
      turn-keeps P post_deaths (λ t v. turn-keeps P (post_death t) (λ b u. post-keeps t b u) t.registrations v) ts (behind_dead code ts w) (turn-keeps P (die code) (λ t v. dies code t v) ts w is)

  module _ (sound : (w : World) → P w → IsSoundWorld w) (lets : (w : World) (pid : ℕ) → P w → P (basic w (LetsGo pid))) (closes : (w : World) (pid : ℕ) (r : HandleRow) → handle_at w pid r.value ≡ Some r → P w → P (behind (close_handle pid r) w))
      (unmaps : (w : World) (pid : ℕ) → P w → P (basic w (DropsViewsOf pid))) where
    pub handles-keep : (pid : ℕ) (rows : List HandleRow) (w : World) → handles_of w pid ≡ rows → P w → P (behind (in_turn (close_handle pid) rows) w)
    handles-keep pid [] w same is = is
    handles-keep pid (r ∷ rows) w same is =
        then-holds P (close_handle pid r) (in_turn (close_handle pid) rows) w (handles-keep pid rows (behind (close_handle pid r) w) (rows-left w pid r rows same (sound w is)) (closes w pid r (first-at w pid r rows same) is))

    pub end-keeps : (pid : ℕ) (code : Status) (ts : List ThreadRow) (w : World) → P w → P (behind (end_threads pid code ts) w)
    unfolding end_threads
    end-keeps pid code ts w is =
        then-holds P (in_turn (die code) ts) (in_turn post_deaths ts ▹ provided (λ w. not (is_live w pid)) (end_process pid)) w
        (then-holds P (in_turn post_deaths ts) (provided (λ w. not (is_live w pid)) (end_process pid)) (behind_dead code ts w) (at (not (is_live (behind_told code ts w) pid)) (told-keeps code ts w is)))
      where
        at : (last : Bool) → P (behind_told code ts w) → P (world_after (behind_told code ts w) (when last (end_process pid (behind_told code ts w))))
        at true is =
            let v = behind_told code ts w in
            let u = basic v (LetsGo pid) in
            then-holds P (in_turn (close_handle pid) (handles_of u pid)) (doing (DropsViewsOf pid ∷ [])) u (unmaps (behind (in_turn (close_handle pid) (handles_of u pid)) u) pid (handles-keep pid (handles_of u pid) u refl (lets v pid is)))
        at false is = is

-- The calls
-- what holds of the steps, whether the call has an answer or not
abbrev pub answered_end : ThreadRow → CallName → Bool → ℕ → Status → List ThreadRow → Steps
answered_end by call own pid code ts = doing (answer_unless own by call) ▹ end_threads pid code ts

pub thread-ends : (P : List Basic → Type 0) (w : World) (by : ThreadRow) (target : ProcArg) (code : ℕ) → ((t : ThreadRow) (own : Bool) → thread_target w by target ≡ Ok t → t.live ≡ true → P (answered_end by NtTerminateThread own t.process (code_status code) (t ∷ []) w)) → Holds P (nt_terminate_thread w by target code)
unfolding nt_terminate_thread
thread-ends P w by target code all =
    bind_holds (thread_target w by target) _ P (λ t at.
    bind_holds (refuse_if (not t.live) INVALID_CID) _ P (λ u is. all t (t.number == by.number) at (not-false _ (not_refused (not t.live) INVALID_CID u is))))

-- what is kept of worlds, and what is so of each step
pub world-ends : (P : World → Type 0) (w : World) (by : ThreadRow) (call : CallName) (own : Bool) (pid : ℕ) (code : Status) (ts : List ThreadRow) → P (behind (end_threads pid code ts) w) → P (behind (answered_end by call own pid code ts) w)
world-ends P w by call true pid code ts is = then-holds P (doing (answer_unless true by call)) (end_threads pid code ts) w is
world-ends P w by call false pid code ts is = then-holds P (doing (answer_unless false by call)) (end_threads pid code ts) w is

pub steps-end : (w : World) (by : ThreadRow) (call : CallName) (own : Bool) (pid : ℕ) (code : Status) (ts : List ThreadRow) → AreEnding (answered_end by call own pid code ts w)
steps-end w by call true pid code ts = end-ending pid code ts w
steps-end w by call false pid code ts = end-ending pid code ts w
