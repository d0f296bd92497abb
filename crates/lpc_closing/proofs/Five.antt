-- The rows behind the first five steps of a closing.
use Rattle.std.proofs.Common.{◌≡◌, ◌∙◌, ap}
use Rattle.lpc_model.specs.Close.{cut_pair, empty_queue, end_receives, end_requests, mark_events}
use Rattle.lpc_model.specs.World.{Birth, World}
use Rattle.lpc_model.proofs.Steps.Closing.{behind, stage_five, stage_one}

pub five-is : (w one two three marked four five : World) (b : Birth) → one ≡ stage_one w b → two ≡ behind (end_receives b) one → three ≡ behind (end_requests b) two
    → marked ≡ behind (mark_events b) three → four ≡ behind (empty_queue b) marked → five ≡ behind (cut_pair b) four → five ≡ stage_five w b
five-is w one two three marked four five b unbound received requested noted emptied cut =
    let ended = requested ∙ ap (behind (end_requests b)) (received ∙ ap (behind (end_receives b)) unbound) in
    cut ∙ ap (behind (cut_pair b)) (emptied ∙ ap (behind (empty_queue b)) (noted ∙ ap (behind (mark_events b)) ended))
