-- Waits that end one after the other: behind the first of those that end, the rest of them are left to end.
use Rattle.std.proofs.Common.{◌≡◌, ◌∙◌, ℕ, ◌+◌, List, [], ◌∷◌, ◌++◌, Bool, true, false, length, Some, None, option_and_then, refl, ap, sym, subst, arith}
use Rattle.std.proofs.lemmas.List.{append-nil}
use Rattle.std.proofs.lemmas.Bool.Decides.{nat_tests}
use Rattle.lpc_base.specs.declared.birth.Birth.{Birth}
use Rattle.lpc_base.specs.Rows.{each, every, first, has, which, without}
use Rattle.lpc_base.proofs.Differ.{length-ended}
use Rattle.lpc_base.proofs.RowWords.{without-none}
use Rattle.lpc_model.specs.declared.entry.Entry.{Entry}
use Rattle.lpc_base.specs.declared.status.Status.{Status}
use Rattle.lpc_model.specs.declared.entry.Field.{Field}
use Rattle.lpc_model.specs.Basics.{DropsOwned, Withdraws, basic, told, world_after}
use Rattle.lpc_model.specs.Entering.{end_connect, woken}
use Rattle.lpc_model.specs.Found.{is_port, is_the, waits_as}
use Rattle.lpc_model.specs.Linked.{passes_or_none}
use Rattle.lpc_model.specs.World.{PortRow, WaitRow, World}
use Rattle.lpc_rows.specs.Closing.{HasMutualPairs}
use Rattle.lpc_steps.specs.Closing.{end_all, ending, ends}
use Rattle.lpc_rows.specs.Does.{Left, left_by}
use Rattle.lpc_rows.specs.Lawful.{are_single}
use Rattle.lpc_rows.specs.Ready.{waiter}
use Rattle.lpc_steps.specs.declared.ending.Ending.{Ending}
use Rattle.lpc_steps.specs.declared.ending.Ending.TheVariants.{AcceptedAcross, Offers, QueuedRequests, Receives, ReceivesAcross, Requests, RequestsAcross}
use Rattle.lpc_steps.proofs.Composed.{left-append, left_further}
use Rattle.lpc_rows.proofs.Finished.{own-waiter}

-- The first of the waits that pass
-- none passes
pub which-none : {X : Type 0} (p : X → Bool) (xs : List X) → first p xs ≡ None → which p xs ≡ []
which-none p [] none = refl
which-none p (x ∷ xs) none = grind (arith, which-none p xs)

-- where a thread waits once, the others that pass are those among the waits without its own
pub which-rest : (p : WaitRow → Bool) (xs : List WaitRow) (x : WaitRow) → are_single xs ≡ true → first p xs ≡ Some x → which p xs ≡ x ∷ which p (without (waits_as x.thread) xs)
which-rest p [] x one is = absurd (cc)
which-rest p (y ∷ ys) x one is = elim (p y) as (λ b. p y ≡ b → which p (y ∷ ys) ≡ x ∷ which p (without (waits_as x.thread) (y ∷ ys))) [
  | true ↦ λ here. let same : y ≡ x = grind arith in
      subst (λ (z : WaitRow). which p (y ∷ ys) ≡ z ∷ which p (without (waits_as z.thread) (y ∷ ys))) same (grind (arith, nat_tests, without-none (waits_as y.thread) ys))
  | false ↦ λ off. grind (arith, off, which-rest p ys x)
] refl

-- and there is one less
pub length-rest : (xs : List WaitRow) (tid : ℕ) → are_single xs ≡ true → has (waits_as tid) xs ≡ true → length (without (waits_as tid) xs) + 1 ≡ length xs
length-rest xs tid one there = rw there at (length-ended (λ (x : WaitRow). x.thread) tid xs one)

-- What the end of one wait leaves
record IsOneLess (w v : World) (x : WaitRow) : Type 0 where
  ports : v.ports ≡ w.ports
  handles : v.handles ≡ w.handles
  waits : v.waits ≡ without (waits_as x.thread) w.waits

one-less : (e : Ending) (w : World) (x : WaitRow) → IsOneLess w (world_after w (ending e x)) x
one-less Receives w x = record { ports = refl; handles = refl; waits = refl }
one-less Requests w x = record { ports = refl; handles = refl; waits = refl }
one-less QueuedRequests w x = record { ports = refl; handles = refl; waits = refl }
one-less Offers w x = record { ports = refl; handles = refl; waits = refl }
one-less RequestsAcross w x = record { ports = refl; handles = refl; waits = refl }
one-less ReceivesAcross w x = record { ports = refl; handles = refl; waits = refl }
one-less AcceptedAcross w x = record { ports = refl; handles = refl; waits = refl }

-- the tests of waits see the ports alone, which stay as they are
rest-after : (e : Ending) (b : Birth) (w : World) (x : WaitRow) → end_all e b (world_after w (ending e x)) ≡ each (ending e) (which (ends e b w) (without (waits_as x.thread) w.waits))
rest-after Receives b w x = refl
rest-after Requests b w x = refl
rest-after QueuedRequests b w x = refl
rest-after Offers b w x = refl
rest-after RequestsAcross b w x = refl
rest-after ReceivesAcross b w x = refl
rest-after AcceptedAcross b w x = refl

-- All steps
none-end : (e : Ending) (b : Birth) (w : World) → first (ends e b w) w.waits ≡ None → end_all e b w ≡ []
none-end e b w none = ap (λ xs. each (ending e) xs) (which-none (ends e b w) w.waits none)

all-then : (e : Ending) (b : Birth) (w : World) (x : WaitRow) → are_single w.waits ≡ true → first (ends e b w) w.waits ≡ Some x → end_all e b w ≡ ending e x ++ end_all e b (world_after w (ending e x))
all-then e b w x one is = ap (λ xs. each (ending e) xs) (which-rest (ends e b w) w.waits x one is) ∙ ap (λ bs. ending e x ++ bs) (sym (rest-after e b w x))

-- where none end, all steps leave what was there
pub left-by-none : (e : Ending) (b : Birth) (w : World) (es : List Entry) (loose : Bool) → first (ends e b w) w.waits ≡ None
    → (let l : Left = record { world = w; entries = es; loose = loose } in l ≡ left_by w es loose (end_all e b w))
left-by-none e b w es loose none = rw (none-end e b w none, append-nil es) refl

-- where the first wait ended, the steps that are left leave what all steps leave; ports and handles
-- stay, and there is a wait less
pub record IsWalked (e : Ending) (b : Birth) (w : World) (es : List Entry) (loose : Bool) (l : Left) : Type 0 where
  pub leaves : left_further l (end_all e b) ≡ left_by w es loose (end_all e b w)
  pub ports : l.world.ports ≡ w.ports
  pub handles : l.world.handles ≡ w.handles
  pub fewer : length l.world.waits + 1 ≡ length w.waits

pub walked : (e : Ending) (b : Birth) (w : World) (tid : ℕ) (es : List Entry) (loose : Bool) (l : Left)
    → l ≡ left_by w es loose (ending e (waiter w tid)) → are_single w.waits ≡ true → has (waits_as tid) w.waits ≡ true → first (ends e b w) w.waits ≡ Some (waiter w tid) → IsWalked e b w es loose l
walked e b w tid es loose l took one there is =
    let x = waiter w tid in
    let less = one-less e w x in
    let after : l.world ≡ world_after w (ending e x) = ap (λ (l : Left). l.world) took in
    record {
      leaves =
          ap (λ (l : Left). left_further l (end_all e b)) took
          ∙ left-append w es loose (ending e x) (end_all e b (world_after w (ending e x)))
          ∙ ap (λ bs. left_by w es loose bs) (sym (all-then e b w x one is));
      ports = ap (λ (v : World). v.ports) after ∙ less.ports;
      handles = ap (λ (v : World). v.handles) after ∙ less.handles;
      fewer =
          ap (λ (v : World). length v.waits + 1) after
          ∙ ap (λ xs. length xs + 1) less.waits
          ∙ ap (λ n. length (without (waits_as n) w.waits) + 1) (own-waiter w tid there)
          ∙ length-rest w.waits tid one there;
    }

-- pairs that are mutual stay so where the ports stay
pub pairs-kept : (w v : World) → v.ports ≡ w.ports → HasMutualPairs w → HasMutualPairs v
pairs-kept w v same pairs =
    subst (λ (ps : List PortRow). every (λ p. passes_or_none p.pair (λ q. is_the p.birth (option_and_then (λ (r : PortRow). r.pair) (first (is_port q) ps)))) ps ≡ true) (sym same) pairs

-- A message is withdrawn before its wait ends, or behind it
pub withdrawn-first : (w : World) (tid : ℕ) (status : Status) (fields : List Field) (es : List Entry) (before loose : Bool) → (let x = waiter w tid in x.thread ≡ tid)
    → left_by (basic w (Withdraws tid)) es before (woken status fields (waiter (basic w (Withdraws tid)) tid) ∷ [])
    ≡ left_by w es loose (let x = waiter w tid in woken status fields x ∷ Withdraws x.thread ∷ [])
unfolding waiter
withdrawn-first w tid status fields es before loose own =
    subst (λ n. left_by (basic w (Withdraws tid)) es before (woken status fields (waiter w tid) ∷ []) ≡ left_by w es loose (woken status fields (waiter w tid) ∷ Withdraws n ∷ [])) (sym own) refl

-- so with a connect, whose client port's views go too
pub withdrawn-connect : (w : World) (tid : ℕ) (bytes : List ℕ) (es : List Entry) (before loose : Bool) → (let x = waiter w tid in x.thread ≡ tid)
    → left_by (basic w (Withdraws tid)) es before (let x = waiter (basic w (Withdraws tid)) tid in end_connect bytes x ∷ DropsOwned x.port ∷ [])
    ≡ left_by w es loose (let x = waiter w tid in end_connect bytes x ∷ Withdraws x.thread ∷ DropsOwned x.port ∷ [])
unfolding waiter
withdrawn-connect w tid bytes es before loose own =
    subst (λ n. left_by (basic w (Withdraws tid)) es before (let x = waiter w tid in end_connect bytes x ∷ DropsOwned x.port ∷ []) ≡ left_by w es loose (let x = waiter w tid in end_connect bytes x ∷ Withdraws n ∷ DropsOwned x.port ∷ [])) (sym own) refl

-- what a wake leaves
pub woken-left : (w v : World) (es fs : List Entry) (before loose : Bool) (x : WaitRow) (status : Status) (fields : List Field)
    → v ≡ basic w (woken status fields x) → fs ≡ es ++ told (woken status fields x) → loose ≡ true
    → (let l : Left = record { world = v; entries = fs; loose = loose } in l ≡ left_by w es before (woken status fields x ∷ []))
woken-left w v es fs before loose x status fields rows list went = rw (rows, list, went) refl

-- a thread's wait is the same where its message is withdrawn
pub same-waiter : (w : World) (tid : ℕ) → waiter (basic w (Withdraws tid)) tid ≡ waiter w tid
unfolding waiter
same-waiter w tid = refl
