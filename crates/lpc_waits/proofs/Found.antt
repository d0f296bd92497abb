-- What is found among the rows with their keys, in the words of the rows that contracts see.
use Rattle.std.proofs.Common.{◌≡◌, ◌&&◌, ◌||◌, arith, ℕ, zero, suc, Bool, true, false, not, length, refl, sym, ap, ◌∙◌, List, [], ◌∷◌, Option, Some, None, IsSome, is_some, option_map, slice_get}
use Rattle.lpc_base.specs.Rows.{count, every, first, has}
use Rattle.lpc_slots.specs.declared.Key.{Key}
use Rattle.lpc_slots.specs.Table.{Table, at, at_key, is_key, keys_of}
use Rattle.lpc_slots.specs.Chain.{IsAway, IsDistinct, first_or}
use Rattle.lpc_slots.proofs.Keys.{key_apart}
use Rattle.lpc_slots.proofs.Same.{are_apart, first_own}
use Rattle.lpc_waits.specs.Table.{WaitingThread, is_event, is_marked, is_of, is_offered, is_offering, is_request, is_unreceived_event_in, is_unreceived_request_in, is_wait_at, takes}
use Rattle.lpc_waits.specs.declared.sought.Sought.{Sought}
use Rattle.lpc_waits.specs.declared.sought.Sought.TheVariants as sought
use Rattle.lpc_waits.specs.declared.WaitRow.{WaitRow}
use Rattle.lpc_waits.specs.declared.Offer.{Offer}
use Rattle.lpc_waits.specs.declared.chains.Chains.{Chains}
use Rattle.lpc_waits.specs.Kept.{AreKept, has_offer}
use Rattle.lpc_waits.specs.Lent.{keyed, shown, waiting_of}
use Rattle.lpc_waits.specs.Layout.{Stand}
use Rattle.lpc_waits.specs.Sought.{found, is_by, is_found_at, is_found_in, is_found_on, is_sought, is_unmarked_in, is_unmarked_on, key_of_first}
use Rattle.lpc_waits.proofs.Chained.{keyed_distinct, mapped_some}
use Rattle.lpc_waits.proofs.Walked.{keyed_at}

abbrev Row : Type 0
Row = Key × WaitingThread

-- rows without their keys
pub first_shown : (test : Row → Bool) (t : WaitingThread → Bool) → ((row : Row) → test row ≡ t row.1) → (all : List Row) → first t (shown all) ≡ option_map (λ row. row.1) (first test all)
first_shown test t same [] = refl
first_shown test t same (row ∷ all) = grind (arith, same row, first_shown test t same all)

pub count_shown : (test : Row → Bool) (t : WaitingThread → Bool) → ((row : Row) → test row ≡ t row.1) → (all : List Row) → count test all ≡ count t (shown all)
count_shown test t same [] = refl
count_shown test t same (row ∷ all) = grind (arith, same row, count_shown test t same all)

pub length_shown : (all : List Row) → length (shown all) ≡ length all
length_shown [] = refl
length_shown (row ∷ all) = ap suc (length_shown all)

pub place_shown : (all : List Row) (place : ℕ) (key : Key) (row : WaitingThread) → slice_get all place ≡ Some (key, row) → slice_get (shown all) place ≡ Some row
place_shown [] place key row is = absurd (cc)
place_shown (other ∷ all) zero key row is = let same : other ≡ (key, row) = cc in ap (λ (r : Row). Some r.1) same
place_shown (other ∷ all) (suc place) key row is = place_shown all place key row is

-- the thread of what is found
threads : (o : Option Row) → option_map (λ (row : Key × ℕ). row.1) (option_map (λ (row : Row). (row.0, row.1.thread)) o) ≡ option_map (λ (row : WaitingThread). row.thread) (option_map (λ (row : Row). row.1) o)
threads None = refl
threads (Some row) = refl

pub thread_found : (test : Row → Bool) (t : WaitingThread → Bool) → ((row : Row) → test row ≡ t row.1) → (all : List Row) → option_map (λ (row : Key × ℕ). row.1) (found test all) ≡ option_map (λ (row : WaitingThread). row.thread) (first t (shown all))
thread_found test t same all = threads (first test all) ∙ ap (option_map (λ (row : WaitingThread). row.thread)) (sym (first_shown test t same all))

-- ---- the tests, without marks
plain : (is key : Bool) → ((is && not false) && key) ≡ (is && key)
plain true key = refl
plain false key = refl

turned : (is free key : Bool) → (((is && free) && not false) && key) ≡ (is && (key && free))
turned is free key = grind arith

turned_marked : (is free marked key : Bool) → (((is && free) && not marked) && key) ≡ ((is && not marked) && (key && free))
turned_marked is free marked key = grind arith

pub plain_on : (port : Key) (what : Sought) (row : WaitingThread) → is_unmarked_on port what [] row ≡ (is_sought what row && is_key row.wait.port port)
plain_on port what row = plain (is_sought what row) (is_key row.wait.port port)

pub plain_in : (queue : Key) (what : Sought) (row : WaitingThread) → is_unmarked_in queue what [] row ≡ (is_sought what row && is_key row.wait.queue queue)
plain_in queue what row = plain (is_sought what row) (is_key row.wait.queue queue)

pub unreceived_request : (queue : Key) (row : WaitingThread) → is_unmarked_in queue sought.UnreceivedRequest [] row ≡ is_unreceived_request_in queue row
unreceived_request queue row = turned (is_request row.wait.kind) (not row.wait.received) (is_key row.wait.queue queue)

pub unreceived_event : (queue : Key) (marks : List ℕ) (row : WaitingThread) → is_unmarked_in queue sought.UnreceivedEvent marks row ≡ is_unreceived_event_in marks queue row
unreceived_event queue marks row = turned_marked (is_event row.wait.kind) (not row.wait.received) (is_marked marks row) (is_key row.wait.queue queue)

-- ---- whether there is one
some_mapped : {A B : Type 0} (f : A → B) (o : Option A) → is_some (option_map f o) ≡ is_some o
some_mapped f None = refl
some_mapped f (Some x) = refl

has_shown : (test : Row → Bool) (t : WaitingThread → Bool) → ((row : Row) → test row ≡ t row.1) → (all : List Row) → is_some (found test all) ≡ has t (shown all)
has_shown test t same all = some_mapped (λ (row : Row). (row.0, row.1.thread)) (first test all) ∙ sym (some_mapped (λ (row : Row). row.1) (first test all)) ∙ ap is_some (sym (first_shown test t same all))

has_either : (p q r : WaitingThread → Bool) → ((row : WaitingThread) → r row ≡ (p row || q row)) → (rows : List WaitingThread) → has r rows ≡ (has p rows || has q rows)
has_either p q r same [] = refl
has_either p q r same (row ∷ rows) = grind (arith, same row, has_either p q r same rows)

spread : (a b c : Bool) → (a && (b || c)) ≡ ((a && b) || (a && c))
spread a b c = grind arith

pub at_either : (port : Key) (what : Sought) (all : List Row) → (is_some (found (is_found_on port what []) all) || is_some (found (is_found_in port what []) all)) ≡ has (is_found_at port what) (shown all)
at_either port what all =
    (λ i. has_shown (is_found_on port what []) (λ row. is_sought what row && is_key row.wait.port port) (λ row. plain_on port what row.1) all i || has_shown (is_found_in port what []) (λ row. is_sought what row && is_key row.wait.queue port) (λ row. plain_in port what row.1) all i)
    ∙ sym (has_either (λ row. is_sought what row && is_key row.wait.port port) (λ row. is_sought what row && is_key row.wait.queue port) (is_found_at port what) (λ row. spread (is_sought what row) (is_key row.wait.port port) (is_key row.wait.queue port)) (shown all))

any : (a b : Bool) → b ≡ ((a && b) || (not a && b))
any true true = refl
any true false = refl
any false true = refl
any false false = refl

pub named_either : (port : Key) (rows : List WaitingThread) → (has (is_found_at port (sought.Taker true)) rows || has (is_found_at port sought.Sent) rows) ≡ has (is_wait_at port) rows
named_either port rows = sym (has_either (is_found_at port (sought.Taker true)) (is_found_at port sought.Sent) (is_wait_at port) (λ row. any (takes true row.wait.kind) (is_wait_at port row)) rows)

-- ---- the row of a key

others_apart : (k : Key) (rows : List Row) → IsAway (Some k) (keys_of rows) → every (λ other. not (at_key k other)) rows ≡ true
others_apart k [] away = refl
others_apart k (row ∷ rows) away =
    ap (λ b. not b && every (λ other. not (at_key k other)) rows) (key_apart row.0 k (λ e. away.0 (ap Some (sym e))))
    ∙ others_apart k rows away.1

pub all_apart : (rows : List Row) → IsDistinct (keys_of rows) → are_apart rows ≡ true
all_apart [] distinct = refl
all_apart (row ∷ rows) distinct = λ i. others_apart row.0 rows distinct.0 i && all_apart rows distinct.1 i

module _ (rows : Table WaitRow) (test : Row → Bool) (key : Key) (is : key_of_first test (keyed rows) ≡ Some key) where
  stands : option_map (λ (row : Row). row.1) (first test (keyed rows)) ≡ option_map waiting_of (at rows key)
  stands = ap (option_map (λ (row : Row). row.1)) (sym (first_own test (keyed rows) key (all_apart (keyed rows) (keyed_distinct rows)) is)) ∙ keyed_at rows key

  -- it is there
  pub found_there : IsSome (at rows key)
  found_there = sym (mapped_some waiting_of (at rows key)) ∙ ap is_some (sym stands) ∙ same (first test (keyed rows)) ∙ ap is_some is
    where
      same : (o : Option Row) → is_some (option_map (λ (row : Row). row.1) o) ≡ is_some (option_map (λ (row : Row). row.0) o)
      same None = refl
      same (Some row) = refl

  -- it is the first that passes
  pub found_is : (standing : WaitRow) → at rows key ≡ Some standing → first test (keyed rows) ≡ Some (key, (waiting_of standing))
  found_is standing there = by (first test (keyed rows)) is (stands ∙ ap (option_map waiting_of) there)
    where
      by : (o : Option Row) → option_map (λ (row : Row). row.0) o ≡ Some key → option_map (λ (row : Row). row.1) o ≡ Some (waiting_of standing) → o ≡ Some (key, (waiting_of standing))
      by None one two = absurd (let clash : None ≡ Some key = one in cc)
      by (Some row) one two =
          let k : row.0 ≡ key = cc in
          let v : row.1 ≡ (waiting_of standing) = cc in
          λ i. Some (k i, v i)

-- the row of a thread
pub row_at : (rows : Table WaitRow) (tid : ℕ) (key : Key) → key_of_first (is_by tid) (keyed rows) ≡ Some key → first (is_of tid) (shown (keyed rows)) ≡ option_map waiting_of (at rows key)
row_at rows tid key is = first_shown (is_by tid) (is_of tid) (λ row. refl) (keyed rows) ∙ stands rows (is_by tid) key is

pub row_found : (rows : Table WaitRow) (tid : ℕ) (key : Key) (standing : WaitRow) → key_of_first (is_by tid) (keyed rows) ≡ Some key → at rows key ≡ Some standing → first (is_of tid) (shown (keyed rows)) ≡ Some (waiting_of standing)
row_found rows tid key standing is there = first_shown (is_by tid) (is_of tid) (λ row. refl) (keyed rows) ∙ ap (option_map (λ (row : Row). row.1)) (found_is rows (is_by tid) key is standing there)

pub row_missed : (rows : Table WaitRow) (tid : ℕ) → key_of_first (is_by tid) (keyed rows) ≡ None → first (is_of tid) (shown (keyed rows)) ≡ None
row_missed rows tid is = first_shown (is_by tid) (is_of tid) (λ row. refl) (keyed rows) ∙ by (first (is_by tid) (keyed rows)) is
  where
    by : (o : Option Row) → option_map (λ (row : Row). row.0) o ≡ None → option_map (λ (row : Row). row.1) o ≡ None
    by None none = refl
    by (Some row) none = absurd (let clash : Some row.0 ≡ None = none in cc)

-- what is kept is what the chains stand for
pub kept_stand : (rows : Table WaitRow) (chains : Chains) (events offers : ℕ) → AreKept rows chains events offers → Stand rows chains
kept_stand rows chains events offers kept = record {
  on = kept.on;
  wide = λ some. kept.wide (omega (arith, some));
}

-- where none is counted, none passes that would be
pub none-counted : (p q : WaitingThread → Bool) → ((row : WaitingThread) → p row ≡ false → q row ≡ false) → (rows : List WaitingThread) → count p rows ≡ 0 → first q rows ≡ None
none-counted p q off [] none = refl
none-counted p q off (row ∷ rows) none = grind (arith, off row, none-counted p q off rows)

pub count-nothing : (p q : WaitingThread → Bool) → ((row : WaitingThread) → p row ≡ false → q row ≡ false) → (rows : List WaitingThread) → count p rows ≡ 0 → count q rows ≡ 0
count-nothing p q off [] none = refl
count-nothing p q off (row ∷ rows) none = grind (arith, off row, count-nothing p q off rows)

and-off : (b : Bool) → (b && false) ≡ false
and-off true = refl
and-off false = refl

pub no-offer : (section : Key) (row : WaitingThread) → has_offer row ≡ false → is_offering section row ≡ false
no-offer section row off = at row.offer refl
  where
    at : (o : Option Offer) → row.offer ≡ o → is_offering section row ≡ false
    at None is = rw is (and-off (is_offered row))
    at (Some offer) is = absurd (let no : true ≡ false = sym (ap is_some is) ∙ off in cc)

-- a test at one of two ports
pub either_key : (is one two : Bool) → (((is && not false) && one) || ((is && not false) && two)) ≡ (is && (one || two))
either_key true one two = refl
either_key false one two = refl

pub one_key : (is one : Bool) → ((is && not false) && one) ≡ (is && (one || false))
one_key true true = refl
one_key true false = refl
one_key false one = refl

-- one of two answers
pub either_first : (a p q all : Bool) → a ≡ p → a ≡ true → (p || q) ≡ all → a ≡ all
either_first a p q all same is both = is ∙ sym (ap (λ b. b || q) (sym same ∙ is)) ∙ both

pub either_second : (a b p q all : Bool) → a ≡ p → a ≡ false → b ≡ q → (p || q) ≡ all → b ≡ all
either_second a b p q all same off other both = other ∙ sym (ap (λ x. x || q) (sym same ∙ off)) ∙ both
