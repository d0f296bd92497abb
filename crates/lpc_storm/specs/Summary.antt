-- What a storm comes to, in one line.
use Rattle.lpc_model.specs.World.{no_rows}
use Rattle.std.specs.Prelude.{ℕ, ◌%◌, ◌^◌, ◌==◌, ◌&&◌, Bool, true, false, List, ◌++◌, length, sum, count_by, codes, decimal}
use Rattle.lpc_base.specs.declared.status.Status.{Status}
use Rattle.lpc_base.specs.declared.status.TheConstants.{REPLY_MESSAGE_MISMATCH, SUCCESS}
use Rattle.lpc_model.specs.declared.entry.CallName.{CallName}
use Rattle.lpc_model.specs.declared.entry.CallName.TheVariants.{NtRequestWaitReplyPort}
use Rattle.lpc_model.specs.declared.entry.Entry.{Entry}
use Rattle.lpc_model.specs.declared.entry.Entry.TheVariants.{Answer, Wakes}
use Rattle.lpc_model.specs.Found.{objects}
use Rattle.lpc_model.specs.Run.{all_entries, run_of, said_in, world_behind}
use Rattle.lpc_model.specs.Text.{eight_digits}
use Rattle.lpc_model.specs.Transcript.{transcript}
use Rattle.lpc_storm.specs.declared.summary.Summary.{Summary}

-- the call of a request that waits for its reply
abbrev pub is_request : CallName → Bool
is_request NtRequestWaitReplyPort = true
is_request call = false

-- a request returns with its reply
unfoldable pub is_replied : Entry → Bool
is_replied (Wakes tid call status fields) = is_request call && status.0 == SUCCESS.0
is_replied entry = false

-- a reply fits no request
unfoldable pub is_mismatch : Entry → Bool
is_mismatch (Answer tid call status fields) = status.0 == REPLY_MESSAGE_MISMATCH.0
is_mismatch entry = false

-- What a script comes to: the lines that are run, the entries that they tell, the object rows that are left; among the
-- entries the requests that return with their reply and the replies that fit none; and the sum of all bytes sent for it.
abbrev pub summary_of : List ℕ → Summary
summary_of script = record {
  lines = length (run_of script);
  entries = length (all_entries (run_of script));
  objects = objects (world_behind no_rows (said_in script));
  replies = count_by is_replied (all_entries (run_of script));
  mismatches = count_by is_mismatch (all_entries (run_of script));
  sum = sum (transcript script) % 2 ^ 32;
}

-- the line, ended by byte 10
unfoldable pub summary_text : Summary → List ℕ
summary_text s =
    codes "storm lines=" ++ decimal s.lines ++ codes " entries=" ++ decimal s.entries ++ codes " objects=" ++ decimal s.objects
    ++ codes " replies=" ++ decimal s.replies ++ codes " mismatches=" ++ decimal s.mismatches
    ++ codes " sum=" ++ eight_digits s.sum ++ codes "\n"

-- the summary of a script
abbrev pub summary : List ℕ → List ℕ
summary script = summary_text (summary_of script)
