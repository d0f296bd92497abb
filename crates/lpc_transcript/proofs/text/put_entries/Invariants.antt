use Rattle.std.proofs.Common.{◌≡◌, ◌≤◌, ◌++◌, map, take, vec_capacity}
use Rattle.lpc_model.specs.Listed.{shown_entry}
use Rattle.lpc_transcript.specs.Printing.{BeginsWith, aside_of, gathered}
use Rattle.lpc_model.specs.Text.{entries_text}
use Rattle.lpc_transcript.specs.declared.spell.TheConstants.{ROOM}
use Rattle.lpc_transcript.proofs.text.put_entries.Given as goal

abbrev pub invariant-loop-entry : goal.invariant-loop-entry
invariant-loop-entry l = record {
  text : gathered l.into l.buffer l.end ≡ l.initial.into.items ++ entries_text l.line (map (shown_entry (aside_of l.read l.groups)) (take l.entry-index l.entries));
  within : l.end ≤ ROOM;
  front : BeginsWith l.into.items l.initial.into.items;
  room : vec_capacity l.initial.into ≤ vec_capacity l.into;
}
