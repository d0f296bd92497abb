use Rattle.std.proofs.Common.{◌≡◌, ◌-◌, ◌<◌, ◌≤◌, length, true, false, arith, refl, sym, ◌∙◌}
use Rattle.lpc_base.specs.declared.limits.TheConstants.{LINE_LIMIT}
use Rattle.lpc_script.specs.Feeding.{before_end, has_end}
use Rattle.lpc_script.proofs.Lines.{before_all, before_shorter, kept_lacks, kept_long, kept_short, kept_within, parted_line, parted_long, parted_more}
use Rattle.lpc_script.proofs.line_buffer.LineBuffer.feed.Goals as goal

pub invariant_of-self : goal.invariant_of-self
invariant_of-self c =
    let line = c.self.inside.line.items in
    let few = c.self.invariant.0 in
    let size : c.len-room.result ≡ length line = c.len-room.ensures ∙ c.self.inside.line.ok.0 in
    let text = c.up_to_end-is_ended.ensures.text in
    let items = rw c.unwrap.ensures at c.extend_from_slice.ensures.items in
    let same = kept_long line c.args.piece.now c.up_to_end-is_ended.result.0.now c.extend_from_slice.new.self.items c.len-room.result size text few items in
    let room = c.extend_from_slice.ensures.capacity in
    let held = c.self.invariant.1 in
    (kept_within line c.args.piece.now _ same, omega arith, kept_lacks line c.args.piece.now _ same c.self.invariant.2)

pub returns-then-text-room-clause-line : goal.returns-then-text-room-clause-line
returns-then-text-room-clause-line c =
    let line = c.self.inside.line.items in
    let few = c.self.invariant.0 in
    let size : c.len-room.result ≡ length line = c.len-room.ensures ∙ c.self.inside.line.ok.0 in
    let text = c.up_to_end-is_ended.ensures.text in
    let items = rw c.unwrap.ensures at c.extend_from_slice.ensures.items in
    let same = kept_long line c.args.piece.now c.up_to_end-is_ended.result.0.now c.extend_from_slice.new.self.items c.len-room.result size text few items in
    rw (← c.self.view_is) same

pub returns-then-text-room-clause-lacks : goal.returns-then-text-room-clause-lacks
returns-then-text-room-clause-lacks c =
    let line = c.self.inside.line.items in
    let few = c.self.invariant.0 in
    let size : c.len-room.result ≡ length line = c.len-room.ensures ∙ c.self.inside.line.ok.0 in
    let text = c.up_to_end-is_ended.ensures.text in
    let items = rw c.unwrap.ensures at c.extend_from_slice.ensures.items in
    let same = kept_long line c.args.piece.now c.up_to_end-is_ended.result.0.now c.extend_from_slice.new.self.items c.len-room.result size text few items in
    kept_lacks line c.args.piece.now _ same c.self.invariant.2

pub returns-then-text-room-clause-parts : goal.returns-then-text-room-clause-parts
returns-then-text-room-clause-parts c =
    let line = c.self.inside.line.items in
    let few = c.self.invariant.0 in
    let size : c.len-room.result ≡ length line = c.len-room.ensures ∙ c.self.inside.line.ok.0 in
    let text = c.up_to_end-is_ended.ensures.text in
    let items = rw c.unwrap.ensures at c.extend_from_slice.ensures.items in
    let same = kept_long line c.args.piece.now c.up_to_end-is_ended.result.0.now c.extend_from_slice.new.self.items c.len-room.result size text few items in
    let over : LINE_LIMIT - length line < length (before_end c.args.piece.now) = rw (size, text) at c.if-text-room.true in
    rw (← c.self.view_is, same, size) (parted_long line c.args.piece.now few over)

pub invariant_of-self-then-is_ended : goal.invariant_of-self-then-is_ended
invariant_of-self-then-is_ended c =
    let line = c.self.inside.line.items in
    let few = c.self.invariant.0 in
    let size : c.len-room.result ≡ length line = c.len-room.ensures ∙ c.self.inside.line.ok.0 in
    let text = c.up_to_end-is_ended.ensures.text in
    let items = rw c.unwrap-2.ensures at c.extend_from_slice-2.ensures.items in
    let same = kept_short line c.args.piece.now c.up_to_end-is_ended.result.0.now c.extend_from_slice-2.new.self.items c.len-room.result size text few c.if-text-room.false items in
    let room = c.extend_from_slice-2.ensures.capacity in
    let held = c.self.invariant.1 in
    (kept_within line c.args.piece.now _ same, omega arith, kept_lacks line c.args.piece.now _ same c.self.invariant.2)

pub returns-then-is_ended-clause-line : goal.returns-then-is_ended-clause-line
returns-then-is_ended-clause-line c =
    let line = c.self.inside.line.items in
    let few = c.self.invariant.0 in
    let size : c.len-room.result ≡ length line = c.len-room.ensures ∙ c.self.inside.line.ok.0 in
    let text = c.up_to_end-is_ended.ensures.text in
    let items = rw c.unwrap-2.ensures at c.extend_from_slice-2.ensures.items in
    let same = kept_short line c.args.piece.now c.up_to_end-is_ended.result.0.now c.extend_from_slice-2.new.self.items c.len-room.result size text few c.if-text-room.false items in
    rw (← c.self.view_is) same

pub returns-then-is_ended-clause-lacks : goal.returns-then-is_ended-clause-lacks
returns-then-is_ended-clause-lacks c =
    let line = c.self.inside.line.items in
    let few = c.self.invariant.0 in
    let size : c.len-room.result ≡ length line = c.len-room.ensures ∙ c.self.inside.line.ok.0 in
    let text = c.up_to_end-is_ended.ensures.text in
    let items = rw c.unwrap-2.ensures at c.extend_from_slice-2.ensures.items in
    let same = kept_short line c.args.piece.now c.up_to_end-is_ended.result.0.now c.extend_from_slice-2.new.self.items c.len-room.result size text few c.if-text-room.false items in
    kept_lacks line c.args.piece.now _ same c.self.invariant.2

pub returns-then-is_ended-clause-parts : goal.returns-then-is_ended-clause-parts
returns-then-is_ended-clause-parts c =
    let line = c.self.inside.line.items in
    let few = c.self.invariant.0 in
    let size : c.len-room.result ≡ length line = c.len-room.ensures ∙ c.self.inside.line.ok.0 in
    let text = c.up_to_end-is_ended.ensures.text in
    let items = rw c.unwrap-2.ensures at c.extend_from_slice-2.ensures.items in
    let same = kept_short line c.args.piece.now c.up_to_end-is_ended.result.0.now c.extend_from_slice-2.new.self.items c.len-room.result size text few c.if-text-room.false items in
    let fits : length (before_end c.args.piece.now) ≤ LINE_LIMIT - length line = rw (size, text) at c.if-text-room.false in
    let end : has_end c.args.piece.now ≡ true = sym c.up_to_end-is_ended.ensures.end ∙ c.if-is_ended.true in
    rw (← c.self.view_is, same, text) (parted_line line c.args.piece.now few fits end)

pub returns-then-is_ended-clause-bound : goal.returns-then-is_ended-clause-bound
returns-then-is_ended-clause-bound c =
    let line = c.self.inside.line.items in
    let few = c.self.invariant.0 in
    let size : c.len-room.result ≡ length line = c.len-room.ensures ∙ c.self.inside.line.ok.0 in
    let text = c.up_to_end-is_ended.ensures.text in
    let items = rw c.unwrap-2.ensures at c.extend_from_slice-2.ensures.items in
    let same = kept_short line c.args.piece.now c.up_to_end-is_ended.result.0.now c.extend_from_slice-2.new.self.items c.len-room.result size text few c.if-text-room.false items in
    let end : has_end c.args.piece.now ≡ true = sym c.up_to_end-is_ended.ensures.end ∙ c.if-is_ended.true in
    rw text (before_shorter c.args.piece.now end)

pub invariant_of-self-else-is_ended : goal.invariant_of-self-else-is_ended
invariant_of-self-else-is_ended c =
    let line = c.self.inside.line.items in
    let few = c.self.invariant.0 in
    let size : c.len-room.result ≡ length line = c.len-room.ensures ∙ c.self.inside.line.ok.0 in
    let text = c.up_to_end-is_ended.ensures.text in
    let items = rw c.unwrap-2.ensures at c.extend_from_slice-2.ensures.items in
    let same = kept_short line c.args.piece.now c.up_to_end-is_ended.result.0.now c.extend_from_slice-2.new.self.items c.len-room.result size text few c.if-text-room.false items in
    let room = c.extend_from_slice-2.ensures.capacity in
    let held = c.self.invariant.1 in
    (kept_within line c.args.piece.now _ same, omega arith, kept_lacks line c.args.piece.now _ same c.self.invariant.2)

pub returns-clause-taken : goal.returns-clause-taken
returns-clause-taken c =
    let line = c.self.inside.line.items in
    let few = c.self.invariant.0 in
    let size : c.len-room.result ≡ length line = c.len-room.ensures ∙ c.self.inside.line.ok.0 in
    let text = c.up_to_end-is_ended.ensures.text in
    let items = rw c.unwrap-2.ensures at c.extend_from_slice-2.ensures.items in
    let same = kept_short line c.args.piece.now c.up_to_end-is_ended.result.0.now c.extend_from_slice-2.new.self.items c.len-room.result size text few c.if-text-room.false items in
    let none : has_end c.args.piece.now ≡ false = sym c.up_to_end-is_ended.ensures.end ∙ c.if-is_ended.false in
    let all = text ∙ before_all c.args.piece.now none in
    rw all refl

pub returns-clause-line : goal.returns-clause-line
returns-clause-line c =
    let line = c.self.inside.line.items in
    let few = c.self.invariant.0 in
    let size : c.len-room.result ≡ length line = c.len-room.ensures ∙ c.self.inside.line.ok.0 in
    let text = c.up_to_end-is_ended.ensures.text in
    let items = rw c.unwrap-2.ensures at c.extend_from_slice-2.ensures.items in
    let same = kept_short line c.args.piece.now c.up_to_end-is_ended.result.0.now c.extend_from_slice-2.new.self.items c.len-room.result size text few c.if-text-room.false items in
    rw (← c.self.view_is) same

pub returns-clause-lacks : goal.returns-clause-lacks
returns-clause-lacks c =
    let line = c.self.inside.line.items in
    let few = c.self.invariant.0 in
    let size : c.len-room.result ≡ length line = c.len-room.ensures ∙ c.self.inside.line.ok.0 in
    let text = c.up_to_end-is_ended.ensures.text in
    let items = rw c.unwrap-2.ensures at c.extend_from_slice-2.ensures.items in
    let same = kept_short line c.args.piece.now c.up_to_end-is_ended.result.0.now c.extend_from_slice-2.new.self.items c.len-room.result size text few c.if-text-room.false items in
    kept_lacks line c.args.piece.now _ same c.self.invariant.2

pub returns-clause-parts : goal.returns-clause-parts
returns-clause-parts c =
    let line = c.self.inside.line.items in
    let few = c.self.invariant.0 in
    let size : c.len-room.result ≡ length line = c.len-room.ensures ∙ c.self.inside.line.ok.0 in
    let text = c.up_to_end-is_ended.ensures.text in
    let items = rw c.unwrap-2.ensures at c.extend_from_slice-2.ensures.items in
    let same = kept_short line c.args.piece.now c.up_to_end-is_ended.result.0.now c.extend_from_slice-2.new.self.items c.len-room.result size text few c.if-text-room.false items in
    let fits : length (before_end c.args.piece.now) ≤ LINE_LIMIT - length line = rw (size, text) at c.if-text-room.false in
    let none : has_end c.args.piece.now ≡ false = sym c.up_to_end-is_ended.ensures.end ∙ c.if-is_ended.false in
    let all = text ∙ before_all c.args.piece.now none in
    rw (← c.self.view_is, same, all) (parted_more line c.args.piece.now few fits none)

pub returns-clause-some : goal.returns-clause-some
returns-clause-some c =
    let line = c.self.inside.line.items in
    let few = c.self.invariant.0 in
    let size : c.len-room.result ≡ length line = c.len-room.ensures ∙ c.self.inside.line.ok.0 in
    let text = c.up_to_end-is_ended.ensures.text in
    let items = rw c.unwrap-2.ensures at c.extend_from_slice-2.ensures.items in
    let same = kept_short line c.args.piece.now c.up_to_end-is_ended.result.0.now c.extend_from_slice-2.new.self.items c.len-room.result size text few c.if-text-room.false items in
    let none : has_end c.args.piece.now ≡ false = sym c.up_to_end-is_ended.ensures.end ∙ c.if-is_ended.false in
    let all = text ∙ before_all c.args.piece.now none in
    let some = c.requires.piece in
    rw all some
