use Rattle.std.proofs.Common.{sym, ◌∙◌, ◌≡◌, ℕ, ap, Bool, true, List, not, ◌<◌, ◌^◌, arith}
use Rattle.std.specs.Prelude.{Some, None, decimal}
use Rattle.std.specs.Str.{bytes_eq}
use Rattle.std.proofs.lemmas.Fmt.{parse-decimal}
use Rattle.std.proofs.lemmas.Slice.Eq.{bytes_eq-Decides}
use Rattle.lpc_sid.proofs.sid.number.Goals as goal
use Rattle.lpc_sid.proofs.sid.number.Goals.{then-number-limit-via-then-number-limit, then-number-limit-via-else-number-limit+then-ne}

none_some : (n : ℕ) → None ≡ Some n → ⊥
none_some n e = cc

some_some : (m n : ℕ) → Some m ≡ Some n → m ≡ n
some_some m n e = cc

not_apart : (a b : List ℕ) (r : Bool) → r ≡ not (bytes_eq a b) → r ≡ true → a ≡ b → ⊥
not_apart a b r is apart same = let one = (bytes_eq-Decides a b).1 same in cc

pub returns-in_err-number : goal.returns-in_err-number
returns-in_err-number c =
    rw c.from_residual.ensures (λ n below is.
    let small : n < 2 ^ 64 = omega arith in
    let read = parse-decimal 64 n c.args.text.now c.parse.result small small (sym is) c.parse.ensures.value.0 in
    none_some n (rw read at c.in_err-number.ensures.value))

pub returns-then-number-limit : goal.returns-then-number-limit
returns-then-number-limit c = λ n below is.
    let small : n < 2 ^ 64 = omega arith in
    let read = parse-decimal 64 n c.args.text.now c.parse.result small small (sym is) c.parse.ensures.value.0 in
    let number = some_some c.in_ok-number.number n (rw read at c.in_ok-number.ensures.value) in
    elim c.then-number-limit.branch [
      | then-number-limit-via-then-number-limit w ↦ omega arith
      | then-number-limit-via-else-number-limit+then-ne w ↦ not_apart _ _ _ w.ne.ensures w.if-ne.true (w.format.ensures.text ∙ ap decimal number ∙ is)
    ]
