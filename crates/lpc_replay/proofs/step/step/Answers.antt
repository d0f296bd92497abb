use Rattle.std.proofs.Common.{List, sym, ap, ◌∙◌}
use Rattle.std.specs.Prelude.{false}
use Rattle.lpc_model.specs.declared.entry.Entry.{Entry}
use Rattle.lpc_model.specs.Lines.{line_of}
use Rattle.lpc_residents.specs.Kept.{heard_in, kept}
use Rattle.lpc_replay.proofs.Serving.{is_plain, plain_heard, plain_told, plain_world}
use Rattle.lpc_replay.proofs.step.step.Goals as goal

pub returns-in_ok-hear-in_default-clause-rows : goal.returns-in_ok-hear-in_default-clause-rows
returns-in_ok-hear-in_default-clause-rows c = c.in_ok-step-in_default.ensures.rows ∙ plain_world c.args.machine.now.rows c.args.residents.now (line_of c.args.line.now) (is_plain c.args.line.now c.in_default.not-Resident c.in_default.not-Turn)

pub returns-in_ok-hear-in_default-clause-residents : goal.returns-in_ok-hear-in_default-clause-residents
returns-in_ok-hear-in_default-clause-residents c =
    c.in_ok-hear-in_default.ensures.heard ∙ (ap (λ (es : List Entry). heard_in kept false c.args.residents.now es) c.in_ok-step-in_default.ensures.told
    ∙ sym (plain_heard c.args.machine.now.rows c.args.residents.now (line_of c.args.line.now) (is_plain c.args.line.now c.in_default.not-Resident c.in_default.not-Turn)))

pub returns-in_ok-hear-in_default-clause-told : goal.returns-in_ok-hear-in_default-clause-told
returns-in_ok-hear-in_default-clause-told c = c.in_ok-step-in_default.ensures.told ∙ plain_told c.args.machine.now.rows c.args.residents.now (line_of c.args.line.now) (is_plain c.args.line.now c.in_default.not-Resident c.in_default.not-Turn)
