use Rattle.std.proofs.Common.{sym}
use Rattle.lpc_script.proofs.Lines.{before_all, cut_none, cut_some}
use Rattle.lpc_script.proofs.line_buffer.up_to_end.Goals as goal

pub returns-in-Some-clause-text : goal.returns-in-Some-clause-text
returns-in-Some-clause-text c = (cut_some c.args.piece.now _ (sym c.in-Some.ensures.first)).1

pub returns-in-Some-clause-end : goal.returns-in-Some-clause-end
returns-in-Some-clause-end c = sym (cut_some c.args.piece.now _ (sym c.in-Some.ensures.first)).0

pub returns-in-None-clause-text : goal.returns-in-None-clause-text
returns-in-None-clause-text c = sym (before_all c.args.piece.now (cut_none c.args.piece.now (sym c.in-None.ensures.first)))

pub returns-in-None-clause-end : goal.returns-in-None-clause-end
returns-in-None-clause-end c = sym (cut_none c.args.piece.now (sym c.in-None.ensures.first))
