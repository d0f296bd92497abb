-- Threads that end: what each leaves, and what is left of the live ones.
use Rattle.std.proofs.Common.{◌≡◌, ◌∙◌, ℕ, ◌+◌, ◌≤◌, List, [], ◌∷◌, ◌++◌, Bool, true, false, cond, drop, length, Option, Some, None, option_and_then, option_map, not, refl, ap, sym, arith}
use Rattle.std.specs.Prelude.{◌==◌, is_some}
use Rattle.std.proofs.lemmas.Bool.Decides.{nat_tests}
use Rattle.std.proofs.lemmas.List.{append-nil}
use Rattle.std.proofs.Math.Bool.{and-false, or-true}
use Rattle.lpc_base.specs.declared.status.Status.{Status}
use Rattle.lpc_base.specs.Rows.{change, count, every, first, has, which, without}
use Rattle.lpc_base.proofs.RowMaps.{every-change_to}
use Rattle.lpc_base.proofs.RowWords.{change-none, count-bound, first-passes, none-counted}
use Rattle.lpc_model.specs.declared.entry.Entry.{Entry}
use Rattle.lpc_model.specs.declared.entry.Entry.TheVariants.{Died}
use Rattle.lpc_model.specs.Basics.{Basic, Cuts, Dies, DropsOwned, Empties, Marks, Steps, Unbinds, Wakes, Withdraws, basic, cut, doing, ended, in_turn, is_end_of, world_after, ◌▹◌}
use Rattle.lpc_model.specs.Close.{cut_pair, drop_owned}
use Rattle.lpc_model.specs.Death.{die, dying, end_client}
use Rattle.lpc_model.specs.Found.{is_accepted, is_connect, is_live_thread, is_offered, wait_of, is_thread, lives_in, live_threads, waits_as}
use Rattle.lpc_model.specs.Linked.{is_mutual}
use Rattle.lpc_model.specs.Listed.{Listed}
use Rattle.lpc_model.specs.World.{Birth, ThreadRow, WaitRow, World}
use Rattle.lpc_model.proofs.Steps.Closing.{behind, takes_away}
use Rattle.lpc_model.proofs.Deaths.Lines.{die-threads}
use Rattle.lpc_model.proofs.Steps.Ending.{die-pass}
use Rattle.lpc_model.proofs.Linked.Steps.{cut-mutual}
use Rattle.lpc_model.proofs.Steps.Rows.{count-change, every-left, has-found, has-off}
use Rattle.lpc_model.proofs.Steps.InTurn.{steps-keep}
use Rattle.lpc_rows.specs.Closing.{HasMutualPairs}
use Rattle.lpc_rows.specs.Does.{Left, Took, left_by}
use Rattle.lpc_rows.specs.Kept.{Kept, is_alive}
use Rattle.lpc_rows.specs.Registered.{accepted_port_in}
use Rattle.lpc_steps.proofs.Composed.{left-then, left_further}
use Rattle.lpc_rows.proofs.Dying.{fewer-alive}
use Rattle.lpc_steps.proofs.Endings.{pairs-kept, which-none}
use Rattle.lpc_rows.specs.Ready.{waiter}
use Rattle.lpc_rows.proofs.Finished.{found-waiter}
use Rattle.lpc_death.specs.Dying.{dying_all, ending_entries, offered_port, offered_port_in}
use Rattle.lpc_model.specs.Lawful.{HasThreadsOnce}

-- A thread that ends
pub none-waits : (tid : ℕ) (xs : List WaitRow) → has (waits_as tid) (without (waits_as tid) xs) ≡ false
none-waits tid xs = has-off (waits_as tid) (without (waits_as tid) xs) (every-left (waits_as tid) xs)

pub took-end : (tid : ℕ) (code : Status) (old new : Kept) (before after : Listed) → new.rows ≡ basic (basic old.rows (Dies tid code)) (Withdraws tid) → new.loose ≡ true
    → after.list ≡ before.list ++ Died tid code ∷ [] → Took (Dies tid code ∷ Withdraws tid ∷ []) old new before after
took-end tid code old new before after rows loose list = rw (rows, loose, list) refl

-- the client port of its accepted connect is cut off, and the views that it owns go
accepted-ends : (o : Option WaitRow) (b : Birth) (v : World) → option_and_then accepted_port_in o ≡ Some b → end_client o v ≡ (cut_pair b ▹ drop_owned b) v
accepted-ends None b v some = absurd (cc)
accepted-ends (Some x) b v some = at (is_accepted x) refl
  where
    at : (c : Bool) → is_accepted x ≡ c → end_client (Some x) v ≡ (cut_pair b ▹ drop_owned b) v
    at true is =
        let same : x.port ≡ b = let one : Some x.port ≡ Some b = rw is at some in cc in
        let connect : is_connect x ≡ true = rw (is, or-true (is_offered x)) refl in
        rw (is, or-true (is_offered x), same) refl
    at false off = let never : None ≡ Some b = rw off at some in absurd (cc)

-- those of another connect go alone
offered-ends : (o : Option WaitRow) (b : Birth) (v : World) → option_and_then accepted_port_in o ≡ None → option_and_then offered_port_in o ≡ Some b → end_client o v ≡ drop_owned b v
offered-ends None b v none some = absurd (cc)
offered-ends (Some x) b v none some = at (is_accepted x) (is_offered x) refl refl
  where
    at : (c d : Bool) → is_accepted x ≡ c → is_offered x ≡ d → end_client (Some x) v ≡ drop_owned b v
    at true d is offered = let never : Some x.port ≡ None = rw is at none in absurd (cc)
    at false true off is = let same : x.port ≡ b = let one : Some x.port ≡ Some b = rw is at some in cc in rw (off, is, same) refl
    at false false off other = let never : None ≡ Some b = rw other at some in absurd (cc)

nothing-ends : (o : Option WaitRow) (v : World) → option_and_then accepted_port_in o ≡ None → option_and_then offered_port_in o ≡ None → end_client o v ≡ []
nothing-ends None v none other = refl
nothing-ends (Some x) v none other = at (is_accepted x) (is_offered x) refl refl
  where
    at : (c d : Bool) → is_accepted x ≡ c → is_offered x ≡ d → end_client (Some x) v ≡ []
    at true d is offered = let never : Some x.port ≡ None = rw is at none in absurd (cc)
    at false true off is = let never : Some x.port ≡ None = rw is at other in absurd (cc)
    at false false off is = rw (off, is) refl

-- what follows its end, where that is what ends with its client port
pub took-rest : (o : Option WaitRow) (rest : Steps) (mid new : Kept) (between after : Listed) → end_client o mid.rows ≡ rest mid.rows → Took (rest mid.rows) mid new between after → Took (end_client o mid.rows) mid new between after
took-rest o rest mid new between after same took = took ∙ ap (λ (bs : List Basic). left_by mid.rows between.list mid.loose bs) (sym same)

pub took-accepted : (o : Option WaitRow) (b : Birth) (mid new : Kept) (between after : Listed) → option_and_then accepted_port_in o ≡ Some b → Took ((cut_pair b ▹ drop_owned b) mid.rows) mid new between after → Took (end_client o mid.rows) mid new between after
took-accepted o b mid new between after some took = took-rest o (cut_pair b ▹ drop_owned b) mid new between after (accepted-ends o b mid.rows some) took

pub took-offered : (o : Option WaitRow) (b : Birth) (mid new : Kept) (between after : Listed) → option_and_then accepted_port_in o ≡ None → option_and_then offered_port_in o ≡ Some b → Took (drop_owned b mid.rows) mid new between after
    → Took (end_client o mid.rows) mid new between after
took-offered o b mid new between after none some took = took-rest o (drop_owned b) mid new between after (offered-ends o b mid.rows none some) took

pub took-alone : (o : Option WaitRow) (tid : ℕ) (code : Status) (old new : Kept) (before after : Listed) → option_and_then accepted_port_in o ≡ None → option_and_then offered_port_in o ≡ None → Took (Dies tid code ∷ Withdraws tid ∷ []) old new before after
    → Took ((doing (Dies tid code ∷ Withdraws tid ∷ []) ▹ end_client o) old.rows) old new before after
took-alone o tid code old new before after none other took =
    let first = Dies tid code ∷ Withdraws tid ∷ [] in
    took ∙ ap (λ (bs : List Basic). left_by old.rows before.list old.loose (first ++ bs)) (sym (nothing-ends o (world_after old.rows first) none other))

-- the client port of a connect that isn't accepted is that of the thread's wait
pub none-offered : (w : World) (tid : ℕ) → has (waits_as tid) w.waits ≡ false → offered_port w tid ≡ None
none-offered w tid none = ap (option_and_then offered_port_in) (nothing (wait_of w tid) none)
  where
    nothing : (o : Option WaitRow) → is_some o ≡ false → o ≡ None
    nothing None none = refl
    nothing (Some x) none = absurd (cc)

pub not-offered : (w : World) (tid : ℕ) → has (waits_as tid) w.waits ≡ true → is_offered (waiter w tid) ≡ false → offered_port w tid ≡ None
not-offered w tid there off = ap (option_and_then offered_port_in) (found-waiter w tid there) ∙ ap (λ c. cond c (Some (let x = waiter w tid in x.port)) None) off

pub its-offered : (w : World) (tid : ℕ) → has (waits_as tid) w.waits ≡ true → is_offered (waiter w tid) ≡ true → offered_port w tid ≡ Some (let x = waiter w tid in x.port)
its-offered w tid there is = ap (option_and_then offered_port_in) (found-waiter w tid there) ∙ ap (λ c. cond c (Some (let x = waiter w tid in x.port)) None) is

-- Threads behind it
-- whatever else stands in the row of the number
numbered : ℕ → ThreadRow
numbered tid = record { number = tid; process = 0; birth = record { maker = 0; ordinal = 0; process = 0 }; live = true; next_identifier = 0; next_ordinal = 0; registrations = []; own = None }

pub dead-threads : (code : Status) (tid : ℕ) (w : World) → (behind (dying code tid) w).threads ≡ change (is_thread tid) ended w.threads
unfolding numbered
dead-threads code tid w = die-threads code (numbered tid) w

pub dead-once : (code : Status) (tid : ℕ) (w : World) → HasThreadsOnce w → HasThreadsOnce (behind (dying code tid) w)
dead-once code tid w once n =
    let same = count-change (is_thread n) (is_thread tid) ended (λ t. refl) w.threads in
    rw (dead-threads code tid w, same) (once n)

less-alive : (who : ℕ) (ts : List ThreadRow) → has (is_live_thread who) ts ≡ true → count is_alive (change (is_thread who) ended ts) + 1 ≤ count is_alive ts
less-alive who [] there = absurd (cc)
less-alive who (t ∷ ts) there = grind (arith, fewer-alive who ts, less-alive who ts)

-- there is a live thread less, and no wait more
less-left : (code : Status) (tid : ℕ) (w : World) → has (is_live_thread tid) w.threads ≡ true → count is_alive (behind (dying code tid) w).threads + 1 ≤ count is_alive w.threads
less-left code tid w live = rw (dead-threads code tid w) (less-alive tid w.threads live)

fewer-waits : (tid : ℕ) (xs : List WaitRow) → length (without (waits_as tid) xs) ≤ length xs
fewer-waits tid xs = count-bound (λ x. not (waits_as tid x)) xs

-- Other ends behind it
cut-pairs : (w : World) (b : Birth) → HasMutualPairs w → HasMutualPairs (basic w (Cuts b))
cut-pairs w b all =
    every-change_to (is_mutual w) (is_mutual (basic w (Cuts b))) (is_end_of b) cut (λ p was is. refl) (λ p was off. cut-mutual w b p was off) w.ports all

-- steps that keep other ends mutual
abbrev keeps_pairs : Basic → Bool
keeps_pairs (Wakes who call status fields) = true
keeps_pairs (Dies who status) = true
keeps_pairs (Withdraws who) = true
keeps_pairs (Empties q) = true
keeps_pairs (Unbinds b) = true
keeps_pairs (Cuts b) = true
keeps_pairs (DropsOwned b) = true
keeps_pairs (Marks who) = true
keeps_pairs b = false

away-pairs : (x : Basic) → takes_away x ≡ true → keeps_pairs x ≡ true
away-pairs (Wakes who call status fields) is = refl
away-pairs (Withdraws who) is = refl
away-pairs (Empties q) is = refl
away-pairs (Unbinds b) is = refl
away-pairs (DropsOwned b) is = refl
away-pairs (Marks who) is = refl
away-pairs x is = absurd (cc)

pairs-step : (w : World) (x : Basic) → keeps_pairs x ≡ true → HasMutualPairs w → HasMutualPairs (basic w x)
pairs-step w (Wakes who call status fields) is all = pairs-kept w (basic w (Wakes who call status fields)) refl all
pairs-step w (Dies who status) is all = pairs-kept w (basic w (Dies who status)) refl all
pairs-step w (Withdraws who) is all = pairs-kept w (basic w (Withdraws who)) refl all
pairs-step w (Empties q) is all = pairs-kept w (basic w (Empties q)) refl all
pairs-step w (Unbinds b) is all = pairs-kept w (basic w (Unbinds b)) refl all
pairs-step w (Cuts b) is all = cut-pairs w b all
pairs-step w (DropsOwned b) is all = pairs-kept w (basic w (DropsOwned b)) refl all
pairs-step w (Marks who) is all = pairs-kept w (basic w (Marks who)) refl all
pairs-step w x is all = absurd (cc)

pairs-all : (w : World) (bs : List Basic) → every keeps_pairs bs ≡ true → HasMutualPairs w → HasMutualPairs (world_after w bs)
pairs-all = steps-keep keeps_pairs HasMutualPairs pairs-step

pub dead-pairs : (code : Status) (tid : ℕ) (w : World) → HasMutualPairs w → HasMutualPairs (behind (dying code tid) w)
unfolding numbered
dead-pairs code tid w pairs = pairs-all w (dying code tid w) (die-pass keeps_pairs away-pairs (λ n c. refl) (λ b. refl) code (numbered tid) w) pairs

-- The live threads that are left
living-left : (pid : ℕ) (ts rest : List ThreadRow) (t : ThreadRow) → count (is_thread t.number) ts ≤ 1 → which (lives_in pid) ts ≡ t ∷ rest → which (lives_in pid) (change (is_thread t.number) ended ts) ≡ rest
living-left pid [] rest t once same = absurd (cc)
living-left pid (u ∷ us) rest t once same = at (lives_in pid u) refl (living-left pid us rest t)
  where
    still-off : (c : Bool) → lives_in pid u ≡ false → lives_in pid (cond c (ended u) u) ≡ false
    still-off true off = and-false (u.process == pid)
    still-off false off = off

    at : (c : Bool) → lives_in pid u ≡ c → (count (is_thread t.number) us ≤ 1 → which (lives_in pid) us ≡ t ∷ rest → which (lives_in pid) (change (is_thread t.number) ended us) ≡ rest)
        → which (lives_in pid) (change (is_thread t.number) ended (u ∷ us)) ≡ rest
    at true is later =
        let whole : u ∷ which (lives_in pid) us ≡ t ∷ rest = rw is at same in
        let one : u ≡ t = cc in
        let tail : which (lives_in pid) us ≡ rest = cc in
        let number : u.number ≡ t.number = ap (λ (v : ThreadRow). v.number) one in
        let own : is_thread t.number u ≡ true = grind (arith, nat_tests) in
        let none : count (is_thread t.number) us ≤ 0 = grind (arith, own) in
        rw (own, and-false (u.process == pid), change-none (is_thread t.number) ended us (none-counted (is_thread t.number) us none)) tail
    at false off later =
        let rows : which (lives_in pid) us ≡ t ∷ rest = rw off at same in
        let few : count (is_thread t.number) us ≤ 1 = grind arith in
        rw (still-off (is_thread t.number u) off) (later few rows)

rows-dead : (code : Status) (pid : ℕ) (w : World) (t : ThreadRow) (rest : List ThreadRow) → HasThreadsOnce w → live_threads w pid ≡ t ∷ rest → live_threads (behind (die code t) w) pid ≡ rest
rows-dead code pid w t rest once same = rw (die-threads code t w) (living-left pid w.threads rest t (once t.number) same)

-- the first of them
pub record IsFirstLive (w : World) (pid tid : ℕ) : Type 0 where
  pub row : ThreadRow
  pub rest : List ThreadRow
  pub number : row.number ≡ tid
  pub rows : live_threads w pid ≡ row ∷ rest
  pub live : has (is_live_thread tid) w.threads ≡ true

pub first-live : (w : World) (pid tid : ℕ) → option_map (λ (t : ThreadRow). t.number) (first (lives_in pid) w.threads) ≡ Some tid → IsFirstLive w pid tid
first-live w pid tid found = at (first (lives_in pid) w.threads) refl found
  where
    lives : (t : ThreadRow) → t.number ≡ tid → lives_in pid t ≡ true → is_live_thread tid t ≡ true
    lives t number is = grind (arith, nat_tests)

    tail : (ts : List ThreadRow) (t : ThreadRow) → first (lives_in pid) ts ≡ Some t → which (lives_in pid) ts ≡ t ∷ drop 1 (which (lives_in pid) ts)
    tail [] t here = absurd (cc)
    tail (u ∷ us) t here = by_test (lives_in pid u) refl (tail us t)
      where
        by_test : (c : Bool) → lives_in pid u ≡ c → (first (lives_in pid) us ≡ Some t → which (lives_in pid) us ≡ t ∷ drop 1 (which (lives_in pid) us)) → which (lives_in pid) (u ∷ us) ≡ t ∷ drop 1 (which (lives_in pid) (u ∷ us))
        by_test true is later = let one : Some u ≡ Some t = rw is at here in let same : u ≡ t = cc in rw is (ap (λ v. v ∷ which (lives_in pid) us) same)
        by_test false off later = let row : first (lives_in pid) us ≡ Some t = rw off at here in rw off (later row)

    at : (o : Option ThreadRow) → first (lives_in pid) w.threads ≡ o → option_map (λ (t : ThreadRow). t.number) o ≡ Some tid → IsFirstLive w pid tid
    at None none some = absurd (cc)
    at (Some t) here some =
        let number : t.number ≡ tid = cc in
        record {
          row = t;
          rest = drop 1 (live_threads w pid);
          number = number;
          rows = tail w.threads t here;
          live = has-found (is_live_thread tid) (lives_in pid) w.threads t here (lives t number (first-passes (lives_in pid) w.threads t here));
        }

pub dead-left : (code : Status) (pid tid : ℕ) (w : World) → HasThreadsOnce w → (f : IsFirstLive w pid tid) → live_threads (behind (dying code tid) w) pid ≡ f.rest
dead-left code pid tid w once f = ap (λ n. live_threads (behind (dying code n) w) pid) (sym f.number) ∙ rows-dead code pid w f.row f.rest once f.rows

-- where there is none, nothing is left to be done
pub none-dead : (code : Status) (pid : ℕ) (w : World) (es : List Entry) (loose : Bool) → option_map (λ (t : ThreadRow). t.number) (first (lives_in pid) w.threads) ≡ None
    → (let l : Left = record { world = w; entries = es; loose = loose } in l ≡ left_by w es loose (dying_all code pid w))
none-dead code pid w es loose found = at (first (lives_in pid) w.threads) refl found
  where
    at : (o : Option ThreadRow) → first (lives_in pid) w.threads ≡ o → option_map (λ (t : ThreadRow). t.number) o ≡ None → (let l : Left = record { world = w; entries = es; loose = loose } in l ≡ left_by w es loose (dying_all code pid w))
    at (Some t) here none = absurd (cc)
    at None here none = let rows : live_threads w pid ≡ [] = which-none (lives_in pid) w.threads here in rw (rows, append-nil es) refl

-- behind the first of them, what is left to be done leaves what all of it leaves
pub one-dead : (code : Status) (pid tid : ℕ) (w : World) (es : List Entry) (loose : Bool) (l : Left) → HasThreadsOnce w → IsFirstLive w pid tid → l ≡ left_by w es loose (dying code tid w)
    → left_further l (dying_all code pid) ≡ left_by w es loose (dying_all code pid w)
one-dead code pid tid w es loose l once f took =
    let t = f.row in
    let taken : l ≡ left_by w es loose (die code t w) = took ∙ ap (λ n. left_by w es loose (dying code n w)) (sym f.number) in
    ap (λ (l : Left). left_further l (dying_all code pid)) taken
    ∙ (ap (λ ts. left_further (left_by w es loose (die code t w)) (in_turn (die code) ts)) (rows-dead code pid w t f.rest once f.rows)
    ∙ (left-then w es loose (die code t) (in_turn (die code) f.rest)
    ∙ ap (λ ts. left_by w es loose (in_turn (die code) ts w)) (sym f.rows)))

-- There is an entry for each live thread and each wait
pub one-spare : (tid : ℕ) (w : World) → has (is_live_thread tid) w.threads ≡ true → 1 ≤ ending_entries w
one-spare tid w live = let less = less-alive tid w.threads live in omega (arith, less)

pub ended-spare : (code : Status) (tid spare before : ℕ) (w v : World) → has (is_live_thread tid) w.threads ≡ true → v ≡ world_after w (Dies tid code ∷ Withdraws tid ∷ []) → spare + 1 ≡ before
    → before + ending_entries v ≤ spare + ending_entries w
ended-spare code tid spare before w v live same one =
    let less = less-alive tid w.threads live in
    let few = fewer-waits tid w.waits in
    rw same (omega (arith, less, few, one))

pub cut-spare : (code : Status) (tid spare before mid : ℕ) (w v u : World) → has (is_live_thread tid) w.threads ≡ true → v ≡ world_after w (Dies tid code ∷ Withdraws tid ∷ []) → mid + 1 ≡ before
    → u ≡ behind (dying code tid) w → spare + length v.waits ≡ mid + length u.waits → before + ending_entries u ≤ spare + ending_entries w
cut-spare code tid spare before mid w v u live same one dead left =
    let less : count is_alive u.threads + 1 ≤ count is_alive w.threads = rw dead (less-left code tid w live) in
    let few : length v.waits ≤ length w.waits = rw same (fewer-waits tid w.waits) in
    omega (arith, less, few, one, left)
