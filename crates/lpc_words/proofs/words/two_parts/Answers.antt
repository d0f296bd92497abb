use Rattle.std.proofs.Common.{sym}
use Rattle.lpc_words.proofs.Parts.{parts_two_many}
use Rattle.lpc_words.proofs.words.two_parts.Goals as goal

pub returns-in-Some : goal.returns-in-Some
returns-in-Some c =
    rw (c.in_ok-first.ensures.parts, c.in-Some.ensures.parts)
    (sym (parts_two_many c.args.by c.in_ok-first.first.now c.in-Some.field-0-0.now c.in-Some.field-0-1.now))
