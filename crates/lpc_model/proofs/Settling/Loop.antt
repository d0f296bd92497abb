-- Settling comes to an end, and leaves no mark and no live process that is to end; what each turn keeps, it keeps.
use Rattle.std.proofs.Common.{◌≡◌, ℕ, ◌≤◌, zero, suc, List, [], ◌∷◌, ◌++◌, Bool, true, false, not, Option, Some, None, refl, subst, arith}
use Rattle.std.specs.Prelude.{◌<◌, option_map}
use Rattle.lpc_base.specs.Rows.{every, which}
use Rattle.lpc_model.specs.World.{ProcessRow, World}
use Rattle.lpc_model.specs.Basics.{Basic, doing, world_after}
use Rattle.lpc_model.specs.Raise.{go_on}
use Rattle.lpc_model.specs.Settle.{IsSettled, and_then_on, doomed_processes, end_doomed, is_doomed, least, most_turns, settle, turn, turn_by, turns}
use Rattle.lpc_model.proofs.Steps.Closing.{behind, then-holds}

-- What each turn keeps
-- a turn that is due is one of two
module _ (P : World → Type 0) (goes : (w : World) (tid : ℕ) (later : List ℕ) → w.marks ≡ tid ∷ later → P w → P (behind (go_on tid) w)) (ends : (w : World) (p : ProcessRow) → least (doomed_processes w) ≡ Some p → P w → P (behind (end_doomed p) w)) where
  pub turn-kept : (w : World) (bs : List Basic) → turn w ≡ Some bs → P w → P (world_after w bs)
  turn-kept w bs = at w.marks refl
    where
      by_process : (o : Option ProcessRow) → least (doomed_processes w) ≡ o → option_map (λ p. end_doomed p w) o ≡ Some bs → P w → P (world_after w bs)
      by_process None none is all = absurd (cc)
      by_process (Some p) some is all = let same : end_doomed p w ≡ bs = cc in subst (λ cs. P (world_after w cs)) same (ends w p some all)

      at : (ms : List ℕ) → w.marks ≡ ms → turn_by w ms ≡ Some bs → P w → P (world_after w bs)
      at [] none is all = by_process (least (doomed_processes w)) refl is all
      at (tid ∷ later) some is all = let same : go_on tid w ≡ bs = cc in subst (λ cs. P (world_after w cs)) same (goes w tid later some all)

  pub turns-kept : (n : ℕ) (w : World) → P w → P (behind (turns n) w)
  turns-kept zero w is = is
  turns-kept (suc n) w is = at (turn w) refl (λ v. turns-kept n v)
    where
      at : (o : Option (List Basic)) → turn w ≡ o → ((v : World) → P v → P (behind (turns n) v)) → P (world_after w (and_then_on w o (turns n)))
      at None none later = is
      at (Some bs) some later = then-holds P (doing bs) (turns n) w (later (world_after w bs) (turn-kept w bs some is))

  pub settle-kept : (w : World) → P w → P (behind settle w)
  unfolding settle
  settle-kept w is = turns-kept (most_turns w) w is

-- What holds of the steps of each turn holds of those of settling, where it holds of steps one after the other
module _ (P : World → Type 0) (Q : World → List Basic → Type 0) (none : (w : World) → Q w []) (both : (w : World) (bs cs : List Basic) → Q w bs → Q (world_after w bs) cs → Q w (bs ++ cs))
    (kept : (w : World) (bs : List Basic) → turn w ≡ Some bs → P w → P (world_after w bs)) (goes : (w : World) (tid : ℕ) (later : List ℕ) → w.marks ≡ tid ∷ later → P w → Q w (go_on tid w)) (ends : (w : World) (p : ProcessRow) → least (doomed_processes w) ≡ Some p → P w → Q w (end_doomed p w)) where
  pub turn-holds : (w : World) (bs : List Basic) → turn w ≡ Some bs → P w → Q w bs
  turn-holds w bs = at w.marks refl
    where
      by_process : (o : Option ProcessRow) → least (doomed_processes w) ≡ o → option_map (λ p. end_doomed p w) o ≡ Some bs → P w → Q w bs
      by_process None none is all = absurd (cc)
      by_process (Some p) some is all = let same : end_doomed p w ≡ bs = cc in subst (Q w) same (ends w p some all)

      at : (ms : List ℕ) → w.marks ≡ ms → turn_by w ms ≡ Some bs → P w → Q w bs
      at [] none is all = by_process (least (doomed_processes w)) refl is all
      at (tid ∷ later) some is all = let same : go_on tid w ≡ bs = cc in subst (Q w) same (goes w tid later some all)

  pub turns-hold : (n : ℕ) (w : World) → P w → Q w (turns n w)
  turns-hold zero w is = none w
  turns-hold (suc n) w is = at (turn w) refl (λ v. turns-hold n v)
    where
      at : (o : Option (List Basic)) → turn w ≡ o → ((v : World) → P v → Q v (turns n v)) → Q w (and_then_on w o (turns n))
      at None nothing later = none w
      at (Some bs) some later = both w bs (turns n (world_after w bs)) (turn-holds w bs some is) (later (world_after w bs) (kept w bs some is))

  pub settle-holds : (w : World) → P w → Q w (settle w)
  unfolding settle
  settle-holds w is = turns-hold (most_turns w) w is

-- Turns come to an end
-- a measure that each turn lowers
module _ (P : World → Type 0) (kept : (w : World) (bs : List Basic) → turn w ≡ Some bs → P w → P (world_after w bs)) (measure : World → ℕ) (lower : (w : World) (bs : List Basic) → turn w ≡ Some bs → P w → measure (world_after w bs) < measure w) where
  pub turns-end : (n : ℕ) (w : World) → measure w ≤ n → P w → turn (behind (turns n) w) ≡ None
  turns-end zero w few is = at (turn w) refl
    where
      at : (o : Option (List Basic)) → turn w ≡ o → turn w ≡ None
      at None none = none
      at (Some bs) some = let less = lower w bs some is in absurd (never (measure (world_after w bs)) (measure w) less few)
        where
          never : (m k : ℕ) → m < k → k ≤ zero → ⊥
          never m k one two = omega (arith, one, two)
  turns-end (suc n) w few is = at (turn w) refl (λ v. turns-end n v)
    where
      at : (o : Option (List Basic)) → turn w ≡ o → ((v : World) → measure v ≤ n → P v → turn (behind (turns n) v) ≡ None) → turn (world_after w (and_then_on w o (turns n))) ≡ None
      at None none later = none
      at (Some bs) some later =
          then-holds (λ v. turn v ≡ None) (doing bs) (turns n) w (later (world_after w bs) (fewer (measure (world_after w bs)) (measure w) n (lower w bs some is) few) (kept w bs some is))
        where
          fewer : (m k n : ℕ) → m < k → k ≤ suc n → m ≤ n
          fewer m k n one two = omega (arith, one, two)

-- where no turn is due, the world is settled
least-none : (ps : List ProcessRow) → least ps ≡ None → ps ≡ []
least-none [] none = refl
least-none (p ∷ ps) none = absurd (cc)

none-which : {A : Type 0} (test : A → Bool) (xs : List A) → which test xs ≡ [] → every (λ x. not (test x)) xs ≡ true
none-which test [] none = refl
none-which test (x ∷ xs) none = at (test x) refl (none-which test xs)
  where
    at : (c : Bool) → test x ≡ c → (which test xs ≡ [] → every (λ x. not (test x)) xs ≡ true) → every (λ x. not (test x)) (x ∷ xs) ≡ true
    at true is later = let more : x ∷ which test xs ≡ [] = rw is at none in absurd (cc)
    at false is later = let less : which test xs ≡ [] = rw is at none in rw is (later less)

pub settled-none : (w : World) → turn w ≡ None → IsSettled w
settled-none w none = at w.marks refl none
  where
    by_process : (o : Option ProcessRow) → least (doomed_processes w) ≡ o → option_map (λ p. end_doomed p w) o ≡ None → doomed_processes w ≡ []
    by_process None is none = least-none (doomed_processes w) is
    by_process (Some p) is none = absurd (cc)

    at : (ms : List ℕ) → w.marks ≡ ms → turn_by w ms ≡ None → IsSettled w
    at [] is none = record { marks = is; doomed = none-which (is_doomed w) w.processes (by_process (least (doomed_processes w)) refl none) }
    at (tid ∷ later) is none = absurd (cc)
