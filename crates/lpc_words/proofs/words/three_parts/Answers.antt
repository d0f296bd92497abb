use Rattle.std.proofs.Common.{sym}
use Rattle.lpc_words.proofs.Parts.{parts_many}
use Rattle.lpc_words.proofs.words.three_parts.Goals as goal

pub returns-in-Some : goal.returns-in-Some
returns-in-Some c =
    rw (c.in_ok-first.ensures.parts, c.in_ok-second.ensures.parts, c.in-Some.ensures.parts)
    (sym (parts_many c.args.by c.in_ok-first.first.now c.in_ok-second.second.now c.in-Some.field-0-0.now c.in-Some.field-0-1.now))
