-- The live processes that each made, as they are counted beside the rows.
use Rattle.std.proofs.Common.{◌≡◌, ℕ, List, [], ◌∷◌, ◌++◌, Bool, true, false, cond, not, None, Some, refl, ap, ◌∙◌, arith}
use Rattle.std.specs.Prelude.{nat_lt, ◌==◌, ◌&&◌}
use Rattle.lpc_base.specs.Rows.{count, first, passes, without_first}
use Rattle.lpc_base.proofs.Bools.{number-turned}
use Rattle.lpc_base.proofs.RowWords.{count-push}
use Rattle.lpc_procs.proofs.Gone.{count-gone}
use Rattle.lpc_numbers.specs.Tally.{Tally, one_for}
use Rattle.lpc_procs.specs.declared.rows.Counted.{Counted}
use Rattle.lpc_procs.specs.declared.rows.ProcessRow.{ProcessRow}
use Rattle.lpc_procs.specs.Kept.{Moves, Retells, counting, is_peopled, is_peopled_child}
use Rattle.lpc_procs.specs.Procs.{is_made_by}

both-one : (b c : Bool) → cond {A = ℕ} (b && c) 1 0 ≡ cond c (cond b 1 0) 0
both-one true true = refl
both-one true false = refl
both-one false true = refl
both-one false false = refl

-- a process of a maker, in the counts of all makers
child-one : (maker pid : ℕ) (p : Counted) → p.row.maker ≡ Some maker → cond {A = ℕ} (is_peopled_child pid p) 1 0 ≡ cond (is_peopled p) (one_for pid maker) 0
child-one maker pid p is =
    ap {B = ℕ} (λ o. cond (passes o (λ m. m == pid) && is_peopled p) 1 0) is
    ∙ both-one (maker == pid) (is_peopled p)
    ∙ ap {B = ℕ} (λ b. cond (is_peopled p) (cond b 1 0) 0) (number-turned maker pid)

pub retold : (p : Counted) (live maker : ℕ) (old new : Tally) → p.row.maker ≡ Some maker → Moves maker (is_peopled p) (nat_lt 0 live) old new → Retells p live old new
retold p live maker old new is moves = record {
  whole = moves.whole;
  counts = λ pid. omega (arith, moves.counts pid, child-one maker pid p is, child-one maker pid (counting live p) is);
}

pub retold-none : (p : Counted) (live : ℕ) (tally : Tally) → p.row.maker ≡ None → tally.whole ≡ true → Retells p live tally tally
retold-none p live tally is whole = record { whole = whole; counts = λ pid. rw is refl }

-- a further process of which no thread lives yet
pub and-off : (b : Bool) → (b && false) ≡ false
and-off true = refl
and-off false = refl

pub children-push : (pid : ℕ) (row : ProcessRow) (ps : List Counted) → count (is_peopled_child pid) (ps ++ (record { row = row; live = 0 }) ∷ []) ≡ count (is_peopled_child pid) ps
children-push pid row ps =
    let p : Counted = record { row = row; live = 0 } in
    omega (arith, count-push (is_peopled_child pid) ps p, ap {B = ℕ} (λ b. cond b 1 0) (and-off (is_made_by pid row)))

-- a process went that was not live
pub kept-whole : (whole lost : Bool) → (whole && not lost) ≡ true → (whole ≡ true) × (lost ≡ false)
kept-whole true true is = absurd (cc)
kept-whole true false is = (refl, refl)
kept-whole false lost is = absurd (cc)

pub children-left : (pid : ℕ) (test : Counted → Bool) (ps : List Counted) (p : Counted) → first test ps ≡ Some p → is_peopled p ≡ false → count (is_peopled_child pid) (without_first test ps) ≡ count (is_peopled_child pid) ps
children-left pid test ps p found off =
    let none : is_peopled_child pid p ≡ false = grind (arith, off) in
    omega (arith, count-gone test (is_peopled_child pid) ps p found, ap {B = ℕ} (λ b. cond b 1 0) none)
