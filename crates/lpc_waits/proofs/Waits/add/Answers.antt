use Rattle.std.proofs.Common.{◌≡◌, ◌∙◌, ◌+◌, ◌-◌, ◌++◌, ◌∷◌, [], None, ap, sym, arith}
use Rattle.lpc_base.specs.Rows.{first}
use Rattle.lpc_waits.specs.Table.{WaitingThread, is_of}
use Rattle.lpc_waits.specs.Kept.{has_offer, is_event_row}
use Rattle.lpc_waits.specs.Lent.{keyed, shown, waiting_of}
use Rattle.lpc_waits.specs.Layout.{row_numbers}
use Rattle.lpc_waits.proofs.Begun.{few_counted, kept_pushed, keyed_away, made_alone, on_made, seen_pushed}
use Rattle.lpc_waits.proofs.Chained.{keyed_distinct}
use Rattle.lpc_waits.proofs.Changed.{one-if}
use Rattle.lpc_waits.proofs.Waits.add.Goals as goal

pub overflow_add-self : goal.overflow_add-self
overflow_add-self c =
    let few = few_counted is_event_row c.self.inside.rows c.self.inside.events c.self.invariant.events_are in
    omega (arith, few, c.count.ensures.number, c.count.ensures.most, c.event_count.ensures.most, (rw (← c.self.view_is) at c.requires.few))

pub push_new-requires-clause-alone : goal.push_new-requires-clause-alone
push_new-requires-clause-alone c =
    let rows = c.self.inside.rows in
    let key = c.insert_reserved-key.result in
    let mid = c.insert_reserved-key.new.self in
    let made = c.insert_reserved-key.ensures in
    let standing = c.begun.result in
    made_alone rows key standing made.vacant mid made.table made.listed c.begun.ensures.alone

pub invariant_of-self : goal.invariant_of-self
invariant_of-self c =
    let rows = c.self.inside.rows in
    let key = c.insert_reserved-key.result in
    let mid = c.insert_reserved-key.new.self in
    let made = c.insert_reserved-key.ensures in
    let standing = c.begun.result in
    let none = rw (← c.self.view_is) at c.requires.alone in
    let is_none : first (is_of (waiting_of standing).thread) (shown (keyed rows)) ≡ None = ap (λ (row : WaitingThread). first (is_of row.thread) (shown (keyed rows))) c.begun.ensures.row ∙ none in
    let own = ap row_numbers c.begun.ensures.row ∙ sym c.numbers_of.ensures in
    let on = c.push_new.ensures.enters (keyed rows) (waiting_of standing) (on_made rows key standing made.vacant mid made.table made.listed c.self.inside.chains c.self.invariant.on) (keyed_distinct rows) (keyed_away rows key standing made.vacant) own in
    let one = c.event_count.ensures.count ∙ sym (ap (λ (row : WaitingThread). one-if (is_event_row row)) c.begun.ensures.row) in
    kept_pushed rows key standing made.vacant mid made.table made.listed c.push_new.new.rows c.push_new.ensures.rows c.self.inside.chains c.push_new.new.self c.self.inside.events c.self.inside.offering c.event_count.result c.self.invariant is_none on c.push_new.ensures.wide one (ap has_offer c.begun.ensures.row)

pub returns : goal.returns
returns c =
    let rows = c.self.inside.rows in
    let key = c.insert_reserved-key.result in
    let mid = c.insert_reserved-key.new.self in
    let made = c.insert_reserved-key.ensures in
    let standing = c.begun.result in
    record {
      table =
          rw (← c.self.view_is)
          (seen_pushed rows key standing made.vacant mid made.table made.listed c.push_new.new.rows c.push_new.ensures.rows
          ∙ (λ i. record { rows = shown (keyed rows) ++ c.begun.ensures.row i ∷ []; spare = rows.spare - 1; made = rows.made + 1 }));
    }
