use Rattle.std.proofs.Common.{◌≡◌, ℕ, ◌<◌, List, length, get_or, arith, sym, eq-eqb, eqb-true}
use Rattle.memchr.specs.Find.{NoneBefore, Nowhere, Passes, is_byte}
use Rattle.lpc_words.proofs.Parts.{parts_here, parts_end, cut_here, cut_end}
use Rattle.lpc_words.proofs.words.split_far.Goals as goal

none_before : (by : ℕ) (text : List ℕ) (at : ℕ) → NoneBefore (Passes (is_byte by) text) 0 (length text) at → (k : ℕ) → k < at → get_or text k 0 ≡ by → ⊥
none_before by text at first k lt e = first.before k (omega arith) lt (eq-eqb _ _ e)

nowhere : (by : ℕ) (text : List ℕ) → Nowhere (Passes (is_byte by) text) 0 (length text) → (k : ℕ) → k < length text → get_or text k 0 ≡ by → ⊥
nowhere by text none k lt e = none k (omega arith) lt (eq-eqb _ _ e)

pub returns-in-Some-clause-parts : goal.returns-in-Some-clause-parts
returns-in-Some-clause-parts c = parts_here _ _ _ c.in-Some.ensures.0.high (eqb-true _ _ c.in-Some.ensures.1) (none_before _ _ _ c.in-Some.ensures.0)

pub returns-in-Some-clause-first : goal.returns-in-Some-clause-first
returns-in-Some-clause-first c = sym (cut_here _ _ _ c.in-Some.ensures.0.high (eqb-true _ _ c.in-Some.ensures.1) (none_before _ _ _ c.in-Some.ensures.0))

pub returns-in-None-clause-parts : goal.returns-in-None-clause-parts
returns-in-None-clause-parts c = parts_end _ _ (nowhere _ _ c.in-None.ensures)

pub returns-in-None-clause-first : goal.returns-in-None-clause-first
returns-in-None-clause-first c = sym (cut_end _ _ (nowhere _ _ c.in-None.ensures))
