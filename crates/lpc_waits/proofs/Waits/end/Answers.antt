use Rattle.std.proofs.Common.{◌∙◌, ap, sym, is_some, option_map, true≢false, arith}
use Rattle.lpc_base.proofs.RowWords.{without-none}
use Rattle.lpc_waits.specs.Table.{WaitingThread, is_of}
use Rattle.lpc_waits.specs.Kept.{has_offer, is_event_row}
use Rattle.lpc_waits.specs.Lent.{keyed, shown, waiting_of}
use Rattle.lpc_waits.specs.Sought.{is_by}
use Rattle.lpc_waits.proofs.Begun.{gone, is_of_key, kept_left, shown_left}
use Rattle.lpc_waits.proofs.Chained.{kept_some}
use Rattle.lpc_waits.proofs.Changed.{within-one}
use Rattle.lpc_waits.proofs.Found.{found_there, row_found, row_missed}
use Rattle.lpc_waits.proofs.Waits.end.Goals as goal

pub returns-in_err-key-clause-value : goal.returns-in_err-key-clause-value
returns-in_err-key-clause-value c =
    let none = row_missed c.self.inside.rows c.args.tid (sym c.in_err-key.ensures) in
    rw (← c.self.view_is) (c.from_residual.ensures ∙ sym (ap (option_map (λ (row : WaitingThread). row.wait)) none))

pub returns-in_err-key-clause-rows : goal.returns-in_err-key-clause-rows
returns-in_err-key-clause-rows c =
    let none = row_missed c.self.inside.rows c.args.tid (sym c.in_err-key.ensures) in
    rw (← c.self.view_is) (sym (without-none (is_of c.args.tid) (shown (keyed c.self.inside.rows)) (ap is_some none)))

pub returns-in_err-standing-clause-value : goal.returns-in_err-standing-clause-value
returns-in_err-standing-clause-value c =
    let there = found_there c.self.inside.rows (is_by c.args.tid) c.in_ok-key.key (sym c.in_ok-key.ensures) in
    absurd (true≢false (sym there ∙ ap is_some (sym c.in_err-standing.ensures.value)))

pub returns-in_err-standing-clause-rows : goal.returns-in_err-standing-clause-rows
returns-in_err-standing-clause-rows c =
    let there = found_there c.self.inside.rows (is_by c.args.tid) c.in_ok-key.key (sym c.in_ok-key.ensures) in
    absurd (true≢false (sym there ∙ ap is_some (sym c.in_err-standing.ensures.value)))

pub overflow_sub-self : goal.overflow_sub-self
overflow_sub-self c =
    let rows = c.self.inside.rows in
    let key = c.in_ok-key.key in
    let standing = c.in_ok-standing.standing.now in
    let is = sym c.in_ok-key.ensures in
    let found = sym c.in_ok-standing.ensures.value in
    let within = within-one is_event_row c.args.tid (waiting_of standing) (shown (keyed rows)) (row_found rows c.args.tid key standing is found) in
    omega (arith, within, c.event_count.ensures.count, c.self.invariant.events_are)

pub overflow_sub-self-2 : goal.overflow_sub-self-2
overflow_sub-self-2 c =
    let rows = c.self.inside.rows in
    let key = c.in_ok-key.key in
    let standing = c.in_ok-standing.standing.now in
    let is = sym c.in_ok-key.ensures in
    let found = sym c.in_ok-standing.ensures.value in
    let within = within-one has_offer c.args.tid (waiting_of standing) (shown (keyed rows)) (row_found rows c.args.tid key standing is found) in
    omega (arith, within, c.offer_count.ensures.count, c.self.invariant.offers_are)

pub unlink-requires-clause-stands : goal.unlink-requires-clause-stands
unlink-requires-clause-stands c =
    let rows = c.self.inside.rows in
    let key = c.in_ok-key.key in
    let standing = c.in_ok-standing.standing.now in
    let is = sym c.in_ok-key.ensures in
    let found = sym c.in_ok-standing.ensures.value in
    let of = is_of_key rows key c.args.tid c.self.inside.chains c.self.inside.events c.self.inside.offering c.self.invariant is standing found c.numbers_of.result c.numbers_of.ensures in
    (keyed rows, c.self.invariant.on, of)

pub invariant_of-self : goal.invariant_of-self
invariant_of-self c =
    let rows = c.self.inside.rows in
    let key = c.in_ok-key.key in
    let standing = c.in_ok-standing.standing.now in
    let is = sym c.in_ok-key.ensures in
    let found = sym c.in_ok-standing.ensures.value in
    let of = is_of_key rows key c.args.tid c.self.inside.chains c.self.inside.events c.self.inside.offering c.self.invariant is standing found c.numbers_of.result c.numbers_of.ensures in
    let mid = c.unlink.new.rows in
    let keeps = c.unlink.ensures.rows in
    let still = kept_some rows mid keeps key ∙ ap is_some found in
    let went = gone mid c.remove.new.self key c.remove.result c.remove.ensures.value still c.remove.ensures.table c.remove.ensures.listed in
    kept_left rows key c.args.tid c.self.inside.chains c.self.inside.events c.self.inside.offering c.self.invariant is standing found mid c.remove.new.self keeps went.0 went.1
    c.unlink.new.self c.event_count.result c.offer_count.result (c.unlink.ensures.leaves (keyed rows) c.self.invariant.on of) c.unlink.ensures.wide c.event_count.ensures.count c.offer_count.ensures.count

pub returns-clause-value : goal.returns-clause-value
returns-clause-value c =
    let rows = c.self.inside.rows in
    let key = c.in_ok-key.key in
    let standing = c.in_ok-standing.standing.now in
    let is = sym c.in_ok-key.ensures in
    let found = sym c.in_ok-standing.ensures.value in
    rw (← c.self.view_is) (sym (ap (option_map (λ (row : WaitingThread). row.wait)) (row_found rows c.args.tid key standing is found)))

pub returns-clause-rows : goal.returns-clause-rows
returns-clause-rows c =
    let rows = c.self.inside.rows in
    let key = c.in_ok-key.key in
    let standing = c.in_ok-standing.standing.now in
    let is = sym c.in_ok-key.ensures in
    let found = sym c.in_ok-standing.ensures.value in
    let mid = c.unlink.new.rows in
    let keeps = c.unlink.ensures.rows in
    let still = kept_some rows mid keeps key ∙ ap is_some found in
    let went = gone mid c.remove.new.self key c.remove.result c.remove.ensures.value still c.remove.ensures.table c.remove.ensures.listed in
    rw (← c.self.view_is) (shown_left rows key c.args.tid c.self.inside.chains c.self.inside.events c.self.inside.offering c.self.invariant is standing found mid c.remove.new.self keeps went.0 went.1)
