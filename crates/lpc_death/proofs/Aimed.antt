-- What a call on a thread is of: the caller itself, and what is found by a birth.
use Rattle.std.proofs.Common.{◌≡◌, ◌∙◌, ℕ, List, [], ◌∷◌, Bool, true, false, Option, Some, None, refl, ap, subst, sym, arith}
use Rattle.std.specs.Prelude.{Ok, ◌==◌, option_map}
use Rattle.lpc_base.specs.Rows.{first}
use Rattle.lpc_model.specs.Found.{is_live_thread, is_thread, live_thread}
use Rattle.lpc_model.specs.Targets.{thread_target}
use Rattle.lpc_model.specs.World.{ThreadRow, World}
use Rattle.lpc_model.specs.declared.line.ProcArg.{ProcArg}
use Rattle.lpc_procs.specs.declared.rows.BornThread.{BornThread}
use Rattle.lpc_rows.specs.Clauses.{born_thread, thread_row}
use Rattle.lpc_rows.specs.Ready.{caller, thread_in}
use Rattle.lpc_death.specs.Ends.{living_thread}

-- the row that is seen so
record IsSeen (o : Option ThreadRow) (t : BornThread) : Type 0 where
  found : o ≡ Some (thread_in o)
  live : let r = thread_in o in r.live ≡ t.live

seen : (o : Option ThreadRow) (t : BornThread) → option_map born_thread o ≡ Some t → IsSeen o t
seen None t is = absurd (cc)
seen (Some r) t is = let same : born_thread r ≡ t = cc in record {
  found = refl;
  live = ap (λ (x : BornThread). x.live) same;
}

-- a row that lives is the live thread of its number
live-first : (n : ℕ) (r : ThreadRow) (ts : List ThreadRow) → first (is_thread n) ts ≡ Some r → r.live ≡ true → first (is_live_thread n) ts ≡ Some r
live-first n r [] is live = absurd (cc)
live-first n r (t ∷ ts) is live = at (t.number == n) refl is (λ later. live-first n r ts later live)
  where
    at : (b : Bool) → (t.number == n) ≡ b → first (is_thread n) (t ∷ ts) ≡ Some r → (first (is_thread n) ts ≡ Some r → first (is_live_thread n) ts ≡ Some r) → first (is_live_thread n) (t ∷ ts) ≡ Some r
    at true here is rest =
        let same : Some t ≡ Some r = rw here at is in
        let its : t ≡ r = cc in
        let lives : t.live ≡ true = subst (λ x. (let y : ThreadRow = x in y.live ≡ true)) (sym its) live in
        let out : first (is_live_thread n) (t ∷ ts) ≡ Some t = grind (arith, here, lives) in out ∙ same
    at false off is rest = let later : first (is_thread n) ts ≡ Some r = rw off at is in rw off (rest later)

pub record IsAimed (w : World) (t : BornThread) : Type 0 where
  pub live : live_thread w t.number ≡ Some (caller w t.number)
  pub row : caller w t.number ≡ thread_in (thread_row w t.number)
  pub lives : let r = caller w t.number in r.live ≡ true

pub aimed : (w : World) (t : BornThread) → option_map born_thread (thread_row w t.number) ≡ Some t → t.live ≡ true → IsAimed w t
unfolding caller
aimed w t is live =
    let k = seen (thread_row w t.number) t is in
    let lives = k.live ∙ live in
    let there = live-first t.number (thread_in (thread_row w t.number)) w.threads k.found lives in
    let row : thread_in (live_thread w t.number) ≡ thread_in (thread_row w t.number) = ap thread_in there in
    record {
      live = there ∙ ap (λ r. Some r) (sym row);
      row = row;
      lives = ap (λ (r : ThreadRow). r.live) row ∙ lives;
    }

-- a target that lives is what is to end
pub target-lives : (w : World) (by t : ThreadRow) (target : ProcArg) → thread_target w by target ≡ Ok t → t.live ≡ true → living_thread w by target ≡ Ok t
target-lives w by t target is live = rw is (rw live refl)
