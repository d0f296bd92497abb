use Rattle.lpc_transcript.proofs.Unique.{text_unique}
use Rattle.lpc_transcript.proofs.laws.law_text_is_unique.Goals as goal

pub returns : goal.returns
returns c = text_unique
