use Rattle.std.proofs.Common.{ℕ, List, ap, sym, ◌∙◌, is_some, vec_capacity}
use Rattle.lpc_base.proofs.Differ.{differ-without, remove-without, row-at}
use Rattle.lpc_base.proofs.Positions.{none_first}
use Rattle.lpc_base.proofs.RowWords.{without-none}
use Rattle.lpc_waits.specs.Table.{is_mark}
use Rattle.lpc_world.proofs.marks.Marks.remove.Goals as goal

pub invariant_of-self : goal.invariant_of-self
invariant_of-self c =
    let found = row-at (λ (n : ℕ). n) c.self.inside.rows.items c.args.tid c.in-Some.index c.remove.result (sym (rw (← c.self.view_is) at c.position.ensures) ∙ c.in-Some.is) c.remove.ensures.value in
    let same = remove-without (λ (n : ℕ). n) c.self.inside.rows.items c.in-Some.index c.args.tid c.remove.result c.self.invariant found.here found.own in
    rw (c.remove.ensures.items, same) (differ-without (λ (n : ℕ). n) (is_mark c.args.tid) c.self.inside.rows.items c.self.invariant)

pub returns-in-Some : goal.returns-in-Some
returns-in-Some c =
    let found = row-at (λ (n : ℕ). n) c.self.inside.rows.items c.args.tid c.in-Some.index c.remove.result (sym (rw (← c.self.view_is) at c.position.ensures) ∙ c.in-Some.is) c.remove.ensures.value in
    let same = c.remove.ensures.items ∙ remove-without (λ (n : ℕ). n) c.self.inside.rows.items c.in-Some.index c.args.tid c.remove.result c.self.invariant found.here found.own in
    let room = c.remove.ensures.capacity in
    rw (← c.self.view_is) (λ i. record { rows = same i; places = room i })

pub returns-in-None : goal.returns-in-None
returns-in-None c =
    let none = none_first (is_mark c.args.tid) c.self.inside.rows.items (sym (rw (← c.self.view_is) at c.position.ensures) ∙ c.in-None.is) in
    rw (← c.self.view_is) (ap (λ (xs : List ℕ). record { rows = xs; places = vec_capacity c.self.inside.rows }) (sym (without-none (is_mark c.args.tid) c.self.inside.rows.items (ap is_some none))))
