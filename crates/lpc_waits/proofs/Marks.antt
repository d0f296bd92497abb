-- Threads among the marked ones.
use Rattle.std.proofs.Common.{◌≡◌, ◌+◌, ◌<◌, ℕ, zero, suc, Bool, true, List, [], ◌∷◌, Some, Option, None, get_or, length, is_some, refl, sym, ap, ◌∙◌, arith}
use Rattle.std.specs.Prelude.{IfSome, slice_get}
use Rattle.std.specs.List.{position, position_from}
use Rattle.std.proofs.lemmas.Bool.Decides.{nat_tests}
use Rattle.std.proofs.lemmas.Iterator.Adapters.{position_from-zero}
use Rattle.std.proofs.lemmas.List.Quantifiers.{position-Some}
use Rattle.std.proofs.lemmas.Option.{slice_get-get_or}
use Rattle.lpc_base.specs.Rows.{has}
use Rattle.lpc_waits.specs.Table.{is_mark}

-- one that stands at a place is among them
pub has-mark : (tid : ℕ) (marks : List ℕ) (i : ℕ) → i < length marks → get_or marks i 0 ≡ tid → has (is_mark tid) marks ≡ true
has-mark tid [] i lt is = absurd (omega arith)
has-mark tid (mark ∷ marks) zero lt is = grind (arith, nat_tests)
has-mark tid (mark ∷ marks) (suc i) lt is =
    let later = has-mark tid marks i (omega arith) is in
    grind (arith, later)

-- one has a place exactly where it is among them
some-from : (test : ℕ → Bool) (low : ℕ) (marks : List ℕ) → is_some (position_from test low marks) ≡ has test marks
some-from test low [] = refl
some-from test low (mark ∷ marks) = grind (arith, some-from test (low + 1) marks)

pub some-place : (test : ℕ → Bool) (marks : List ℕ) → is_some (position test marks) ≡ has test marks
some-place test marks = ap is_some (position_from-zero test marks) ∙ some-from test 0 marks

-- it stands at the place that it has
pub at-place : (tid : ℕ) (marks : List ℕ) (r : Option ℕ) → r ≡ position (is_mark tid) marks → IfSome r (λ place. slice_get marks place ≡ Some tid)
at-place tid marks None found = tt
at-place tid marks (Some i) found =
    let at = position-Some (is_mark tid) marks i 0 (sym found) in
    let same : get_or marks i 0 ≡ tid = grind (arith, nat_tests, at.1) in
    slice_get-get_or marks i 0 at.0 ∙ ap Some same
