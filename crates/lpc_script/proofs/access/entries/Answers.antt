use Rattle.std.proofs.Common.{◌≡◌, ◌∙◌, ap, sym, arith, length, true, false}
use Rattle.std.specs.Prelude.{Ok, nat_le}
use Rattle.std.proofs.lemmas.Bool.Decides.{nat_tests}
use Rattle.std.proofs.lemmas.Result.{err_from_is_err_and}
use Rattle.lpc_model.specs.Words.{is_empty, parts}
use Rattle.lpc_script.proofs.Each.{empty_is, entries_are, entries_none, listed}
use Rattle.lpc_script.proofs.access.entries.Goals as goal

pub returns-then-is_empty : goal.returns-then-is_empty
returns-then-is_empty c =
    let none : is_empty c.args.text.now ≡ true = empty_is c.args.text.now ∙ sym c.is_empty.ensures ∙ c.if-is_empty.true in
    entries_none c.args.text.now none ∙ ap (λ aces. Ok (record { list = record { items = aces } })) (sym c.new.ensures)

pub returns-in_err-list : goal.returns-in_err-list
returns-in_err-list c =
    let some : is_empty c.args.text.now ≡ false = empty_is c.args.text.now ∙ sym c.is_empty.ensures ∙ c.if-is_empty.false in
    let few : nat_le (length (parts 44 c.args.text.now)) 16 ≡ true = grind (arith, nat_tests) in
    let p = err_from_is_err_and c.from_residual-in_err-list.result c.from_residual-in_err-list.ensures.1 in
    rw (p.1, p.2) (entries_are c.args.text.now some few c.in_ok-are_entries.ensures ∙ ap listed c.in_err-list.ensures)

pub returns : goal.returns
returns c =
    let some : is_empty c.args.text.now ≡ false = empty_is c.args.text.now ∙ sym c.is_empty.ensures ∙ c.if-is_empty.false in
    let few : nat_le (length (parts 44 c.args.text.now)) 16 ≡ true = grind (arith, nat_tests) in
    entries_are c.args.text.now some few c.in_ok-are_entries.ensures ∙ ap listed c.in_ok-list.ensures
