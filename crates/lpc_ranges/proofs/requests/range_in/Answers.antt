use Rattle.std.proofs.Common.{List, ℕ, ap, arith, subst, sym, ◌∙◌}
use Rattle.std.specs.Borrow.{Bor}
use Rattle.lpc_message.specs.Laws.{FitsWidths}
use Rattle.lpc_message.specs.Layout.{header_of, range_at}
use Rattle.lpc_ranges.proofs.KeptRanges.{faulty, lawful, too_few}
use Rattle.lpc_ranges.proofs.requests.range_in.Goals as goal

pub returns-then-bytes-lt-HEADER_SIZE : goal.returns-then-bytes-lt-HEADER_SIZE
returns-then-bytes-lt-HEADER_SIZE c = sym (too_few c.args.bytes.now c.args.index (omega (arith, c.if-bytes-lt-HEADER_SIZE.true)))

pub returns-in-Ok : goal.returns-in-Ok
returns-in-Ok c =
    let fits : FitsWidths (header_of c.args.bytes.now) = subst (λ h. FitsWidths h) c.read_header.ensures c.law_header_fits.ensures in
    c.range.ensures.found ∙ ap (λ (lent : Bor (List ℕ)). range_at lent.now c.args.index) c.in-Ok.ensures.lent ∙ lawful c.args.bytes.now c.args.index c.law_written_header_is_read_back.ensures fits (omega (arith, c.if-bytes-lt-HEADER_SIZE.false)) c.in-Ok.ensures.fault

pub returns-in-Err : goal.returns-in-Err
returns-in-Err c =
    let fits : FitsWidths (header_of c.args.bytes.now) = subst (λ h. FitsWidths h) c.read_header.ensures c.law_header_fits.ensures in
    faulty c.args.bytes.now c.args.index c.law_written_header_is_read_back.ensures fits (omega (arith, c.if-bytes-lt-HEADER_SIZE.false)) c.in-Err.field-0 c.in-Err.ensures.fault
