use Rattle.std.proofs.Common.{◌∙◌}
use Rattle.lpc_replay.proofs.Asking.{asked_then}
use Rattle.lpc_replay.proofs.Taking.{taken_line, taken_long, taken_more, taken_on}
use Rattle.lpc_replay.proofs.reading.Reader.next_line.Goals as goal

pub loop-self-preserved : goal.loop-self-preserved
loop-self-preserved g c =
    let left = g.S.Source.left in
    let asked = g.S.Source.asked in
    let l = c.loop-self in
    let v = l.invariant in
    let piece = c.args.self.now.piece in
    let filled = taken_more (left c.args.source.now) (left l.source) (left c.fill.new.source) piece l.self.line.line l.self.piece c.fill.new.self v.taken c.fill.ensures.read in
    let parted = rw (c.in-More.is, c.bytes.ensures.bytes) at c.feed-count.ensures.parts in
    record {
      taken = rw c.pass.ensures (taken_on (left c.args.source.now) (left c.fill.new.source) piece l.self.line.line c.fill.new.self c.feed-count.new.self.line c.feed-count.result.0 filled parted);
      still_open = rw c.in-More.is at c.feed-count.ensures.open;
      empty = λ full. let none = c.if-is_full.false in absurd (cc);
      lacks = c.feed-count.ensures.lacks;
      limit = c.feed-count.ensures.limit;
      faults = c.in-Ok-true.ensures.still ∙ v.faults;
      asked = asked_then (asked c.args.source.now) (asked l.source) (asked c.fill.new.source) v.runs v.asked c.fill.ensures.asked;
      runs = λ r. c.in-Ok-true.ensures.runs c.in-Ok-true.field-0-test (v.runs r);
    }

pub returns-in-Line-clause-read : goal.returns-in-Line-clause-read
returns-in-Line-clause-read g c =
    let left = g.S.Source.left in
    let l = c.loop-self in
    let piece = c.args.self.now.piece in
    let filled = taken_more (left c.args.source.now) (left l.source) (left c.fill.new.source) piece l.self.line.line l.self.piece c.fill.new.self l.invariant.taken c.fill.ensures.read in
    let parted = rw (c.in-Line.is, c.bytes.ensures.bytes) at c.feed-count.ensures.parts in
    rw c.pass.ensures (taken_line (left c.args.source.now) (left c.fill.new.source) piece l.self.line.line c.fill.new.self c.feed-count.new.self.line c.feed-count.result.0 filled parted)

pub returns-in-Long-clause-read : goal.returns-in-Long-clause-read
returns-in-Long-clause-read g c =
    let left = g.S.Source.left in
    let l = c.loop-self in
    let piece = c.args.self.now.piece in
    let filled = taken_more (left c.args.source.now) (left l.source) (left c.fill.new.source) piece l.self.line.line l.self.piece c.fill.new.self l.invariant.taken c.fill.ensures.read in
    let parted = rw (c.in-Long.is, c.bytes.ensures.bytes) at c.feed-count.ensures.parts in
    rw c.pass.ensures (taken_long (left c.args.source.now) (left c.fill.new.source) piece l.self.line.line c.fill.new.self c.feed-count.new.self.line c.feed-count.result.0 filled parted)
