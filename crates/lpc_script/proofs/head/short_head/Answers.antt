use Rattle.lpc_script.proofs.Heads.{call_says, id_said}
use Rattle.lpc_script.proofs.head.short_head.Goals as goal

pub returns-clause-value : goal.returns-clause-value
returns-clause-value c =
    let id = id_said _ _ c.in_ok-tid.ensures.value c.in_ok-tid.ensures.id in
    rw (c.in_ok-tid.ensures.words, c.in_ok-name.ensures.words) (call_says _ _ _ _ _ c.in_ok-tid.ensures.digit id c.in_ok-name.ensures.named)
