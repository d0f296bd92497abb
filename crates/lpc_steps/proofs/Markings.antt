-- Events that are marked one after the other: behind the first of those that are marked, the rest of them are left to be
-- marked.
use Rattle.std.proofs.Common.{◌≡◌, ◌∙◌, ℕ, ◌+◌, List, [], ◌∷◌, ◌++◌, Bool, true, false, length, Option, Some, None, MatchOption, refl, ap, sym, subst, arith}
use Rattle.std.specs.Prelude.{not, ◌&&◌, ◌||◌, ◌==◌}
use Rattle.std.proofs.lemmas.Bool.Decides.{nat_tests}
use Rattle.std.proofs.lemmas.List.{append-nil}
use Rattle.lpc_base.specs.declared.birth.Birth.{Birth}
use Rattle.lpc_base.specs.Rows.{each, first, has, which, without}
use Rattle.lpc_model.specs.declared.entry.Entry.{Entry}
use Rattle.lpc_model.specs.Basics.{Basic, Marks, Withdraws, basic, world_after}
use Rattle.lpc_model.specs.Close.{is_event_on, is_unmarked_event, mark_event}
use Rattle.lpc_model.specs.Found.{is_mark, is_the, pair_of, waits_as}
use Rattle.lpc_model.specs.World.{WaitRow, World}
use Rattle.lpc_rows.specs.Closing.{HasMutualPairs}
use Rattle.lpc_rows.specs.Does.{Left, left_by}
use Rattle.lpc_rows.specs.Lawful.{are_single}
use Rattle.lpc_rows.specs.Ready.{waiter}
use Rattle.lpc_steps.specs.Marking.{mark_all, marks}
use Rattle.lpc_steps.specs.declared.marking.Marking.{Marking}
use Rattle.lpc_steps.specs.declared.marking.Marking.TheVariants.{Queued, Sent, SentAcross}
use Rattle.lpc_steps.proofs.Composed.{left-append, left_further}
use Rattle.lpc_steps.proofs.Endings.{which-none, which-rest}
use Rattle.lpc_steps.proofs.NextEnding.{turned}

-- a mark more
marked-more : (n tid : ℕ) (marks : List ℕ) → has (is_mark n) (marks ++ tid ∷ []) ≡ has (is_mark n) marks || (n == tid)
marked-more n tid [] = grind (arith, nat_tests)
marked-more n tid (x ∷ xs) = grind (arith, marked-more n tid xs)

unmarked-more : (e m t z : Bool) → (e && not (m || t)) && z ≡ ((e && not m) && z) && not t
unmarked-more true true t true = refl
unmarked-more true true t false = refl
unmarked-more true false true true = refl
unmarked-more true false true false = refl
unmarked-more true false false true = refl
unmarked-more true false false false = refl
unmarked-more false m t z = refl

-- behind one mark those are left to be marked that aren't of its thread
less-one : (m : Marking) (b : Birth) (w : World) (tid : ℕ) (y : WaitRow) → marks m b (basic (basic w (Marks tid)) (Withdraws tid)) y ≡ marks m b w y && not (waits_as tid y)
less-one Sent b w tid y = rw (marked-more y.thread tid w.marks) (unmarked-more _ (has (is_mark y.thread) w.marks) (y.thread == tid) _)
less-one Queued b w tid y = rw (marked-more y.thread tid w.marks) (unmarked-more _ (has (is_mark y.thread) w.marks) (y.thread == tid) _)
less-one SentAcross b w tid y = rw (marked-more y.thread tid w.marks) (unmarked-more _ (has (is_mark y.thread) w.marks) (y.thread == tid) _)

which-less : (p : WaitRow → Bool) (tid : ℕ) (xs : List WaitRow) → which (λ y. p y && not (waits_as tid y)) xs ≡ which p (without (waits_as tid) xs)
which-less p tid [] = refl
which-less p tid (x ∷ xs) = grind (arith, which-less p tid xs)

rest-after : (m : Marking) (b : Birth) (w : World) (x : WaitRow)
    → mark_all m b (world_after w (mark_event x)) ≡ each mark_event (which (marks m b w) (without (waits_as x.thread) w.waits))
rest-after m b w x =
    ap (λ (p : WaitRow → Bool). each mark_event (which p w.waits)) (λ i y. less-one m b w x.thread y i)
    ∙ ap (each mark_event) (which-less (marks m b w) x.thread w.waits)

-- All steps
none-marked : (m : Marking) (b : Birth) (w : World) → first (marks m b w) w.waits ≡ None → mark_all m b w ≡ []
none-marked m b w none = ap (λ xs. each mark_event xs) (which-none (marks m b w) w.waits none)

all-then : (m : Marking) (b : Birth) (w : World) (x : WaitRow) → are_single w.waits ≡ true → first (marks m b w) w.waits ≡ Some x
    → mark_all m b w ≡ mark_event x ++ mark_all m b (world_after w (mark_event x))
all-then m b w x one is =
    ap (λ xs. each mark_event xs) (which-rest (marks m b w) w.waits x one is) ∙ ap (λ bs. mark_event x ++ bs) (sym (rest-after m b w x))

-- where none is marked, all steps leave what was there
pub marked-by-none : (m : Marking) (b : Birth) (w : World) (es : List Entry) (loose : Bool) → first (marks m b w) w.waits ≡ None
    → (let l : Left = record { world = w; entries = es; loose = loose } in l ≡ left_by w es loose (mark_all m b w))
marked-by-none m b w es loose none = rw (none-marked m b w none, append-nil es) refl

-- where the first event was marked, the steps that are left leave what all steps leave; ports, handles and waits stay, and
-- there is an event less to be marked
pub record IsMarkedOn (m : Marking) (b : Birth) (w v : World) (before loose : Bool) : Type 0 where
  pub leaves : (es : List Entry) → left_by v es loose (mark_all m b v) ≡ left_by w es before (mark_all m b w)
  pub ports : v.ports ≡ w.ports
  pub handles : v.handles ≡ w.handles
  pub waits : v.waits ≡ w.waits
  pub fewer : length (mark_all m b v) + 2 ≡ length (mark_all m b w)

pub marked-on : (m : Marking) (b : Birth) (w v : World) (tid : ℕ) (before loose : Bool)
    → ((es : List Entry) → let l : Left = record { world = v; entries = es; loose = loose } in l ≡ left_by w es before (mark_event (waiter w tid)))
    → are_single w.waits ≡ true → has (waits_as tid) w.waits ≡ true → first (marks m b w) w.waits ≡ Some (waiter w tid) → IsMarkedOn m b w v before loose
marked-on m b w v tid before loose took one there is =
    let x = waiter w tid in
    let after : v ≡ world_after w (mark_event x) = ap (λ (l : Left). l.world) (took []) in
    record {
      leaves = λ es.
          ap (λ (l : Left). left_further l (mark_all m b)) (took es)
          ∙ left-append w es before (mark_event x) (mark_all m b (world_after w (mark_event x)))
          ∙ ap (λ bs. left_by w es before bs) (sym (all-then m b w x one is));
      ports = ap (λ (v : World). v.ports) after;
      handles = ap (λ (v : World). v.handles) after;
      waits = ap (λ (v : World). v.waits) after;
      fewer =
          ap (λ (v : World). length (mark_all m b v) + 2) after
          ∙ counted (mark_all m b (world_after w (mark_event x)))
          ∙ ap (λ bs. length bs) (sym (all-then m b w x one is));
    }
  where
    counted : (bs : List Basic) → length bs + 2 ≡ length (mark_event (waiter w tid) ++ bs)
    counted bs = grind arith

-- one event was marked, and its message left its queue
pub marked-left : (w : World) (tid : ℕ) (es : List Entry) (before loose : Bool) → (let x = waiter w tid in x.thread ≡ tid) → loose ≡ true
    → (let l : Left = record { world = basic (basic w (Marks tid)) (Withdraws tid); entries = es; loose = loose } in l ≡ left_by w es before (mark_event (waiter w tid)))
marked-left w tid es before loose own went =
    subst (λ n. (let l : Left = record { world = basic (basic w (Marks tid)) (Withdraws tid); entries = es; loose = loose } in l ≡ left_by w es before (Marks n ∷ Withdraws n ∷ []))) (sym own)
    (rw (went, append-nil es) refl)

-- Across a pair
-- what was sent on a port's other end
across-some : (w : World) → HasMutualPairs w → (b q : Birth) → Some q ≡ pair_of w b → (y : WaitRow) → marks SentAcross b w y ≡ is_event_on q w y
across-some w pairs b q pair y = ap (λ t. is_unmarked_event w y && t) (turned w pairs b y ∙ ap (is_the y.port) (sym pair))

across-none : (w : World) → HasMutualPairs w → (b : Birth) → None ≡ pair_of w b → (y : WaitRow) → marks SentAcross b w y ≡ is_unmarked_event w y && false
across-none w pairs b pair y = ap (λ t. is_unmarked_event w y && t) (turned w pairs b y ∙ ap (is_the y.port) (sym pair))

first-none : (p : WaitRow → Bool) (xs : List WaitRow) → first (λ y. p y && false) xs ≡ None
first-none p [] = refl
first-none p (x ∷ xs) = grind (arith, first-none p xs)

-- the event that is found
abbrev pub IsToMark : World → Marking → Birth → Option ℕ → Type 0
IsToMark w m b r = MatchOption r (first (marks m b w) w.waits ≡ None) (λ tid. first (marks m b w) w.waits ≡ Some (waiter w tid))

pub next-across : (w : World) → HasMutualPairs w → (b q : Birth) → Some q ≡ pair_of w b → (r : Option ℕ)
    → MatchOption r (first (is_event_on q w) w.waits ≡ None) (λ tid. first (is_event_on q w) w.waits ≡ Some (waiter w tid)) → IsToMark w SentAcross b r
next-across w pairs b q pair r found =
    subst (λ (p : WaitRow → Bool). MatchOption r (first p w.waits ≡ None) (λ tid. first p w.waits ≡ Some (waiter w tid))) (sym (λ i y. across-some w pairs b q pair y i)) found

pub none-across : (w : World) → HasMutualPairs w → (b : Birth) → None ≡ pair_of w b → IsToMark w SentAcross b None
none-across w pairs b pair =
    ap (λ (p : WaitRow → Bool). first p w.waits) (λ i y. across-none w pairs b pair y i) ∙ first-none (is_unmarked_event w) w.waits
