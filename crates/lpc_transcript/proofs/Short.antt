-- No name is long.
use Rattle.std.proofs.Common.{◌≤◌, length, lit≤}
use Rattle.lpc_model.specs.Text.{call_text, kind_text, word_text}
use Rattle.lpc_model.specs.declared.entry.CallName.{CallName}
use Rattle.lpc_model.specs.declared.entry.CallName.TheVariants.{NtCreatePort}
use Rattle.lpc_model.specs.declared.entry.FieldName.{FieldName}
use Rattle.lpc_model.specs.declared.entry.FieldName.TheVariants.{H}
use Rattle.lpc_model.specs.declared.entry.ObjectKind.{ObjectKind}
use Rattle.lpc_model.specs.declared.entry.ObjectKind.TheVariants.{Port}
use Rattle.lpc_model.specs.declared.entry.Word.{Word}
use Rattle.lpc_model.specs.declared.entry.Word.TheVariants.{Boot}
use Rattle.lpc_transcript.specs.Printing.{front_of}

pub call_short : (call : CallName) → length (call_text call) ≤ 29
call_short NtCreatePort = lit≤ tt
call_short call = lit≤ tt

pub word_short : (word : Word) → length (word_text word) ≤ 8
word_short Boot = lit≤ tt
word_short word = lit≤ tt

pub kind_short : (kind : ObjectKind) → length (kind_text kind) ≤ 7
kind_short Port = lit≤ tt
kind_short kind = lit≤ tt

pub front_short : (name : FieldName) → length (front_of name) ≤ 10
front_short H = lit≤ tt
front_short name = lit≤ tt
