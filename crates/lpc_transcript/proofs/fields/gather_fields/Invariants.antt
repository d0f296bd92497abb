use Rattle.std.proofs.Common.{◌≡◌, ◌<◌, ◌≤◌, ◌++◌, map, take, vec_capacity}
use Rattle.lpc_model.specs.Listed.{shown_field}
use Rattle.lpc_transcript.specs.Printing.{BeginsWith, aside_of, gathered}
use Rattle.lpc_model.specs.Text.{fields_text}
use Rattle.lpc_transcript.specs.declared.spell.TheConstants.{ROOM}
use Rattle.lpc_transcript.proofs.fields.gather_fields.Given as goal

abbrev pub invariant-loop-index : goal.invariant-loop-index
invariant-loop-index l = record {
  text : gathered l.into l.buffer l.end ≡ gathered l.initial.into l.initial.buffer l.at ++ fields_text (map (shown_field (aside_of l.read l.groups)) (take l.index l.fields));
  within : l.end < ROOM;
  front : BeginsWith l.into.items l.initial.into.items;
  room : vec_capacity l.initial.into ≤ vec_capacity l.into;
}
