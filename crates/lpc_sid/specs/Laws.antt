-- A SID has one spelling.
use Rattle.std.specs.Prelude.{◌≡◌, ℕ, true, List, Some}
use Rattle.lpc_sid.specs.Spelling.{is_well_formed, spelling, sid_of}
use Rattle.lpc_sid.specs.declared.sid.Sid.{Sid}

-- what is written of a well-formed SID is read back as that SID
abbrev pub WrittenIsReadBack : Type 0
WrittenIsReadBack = (sid : Sid) → is_well_formed sid ≡ true → sid_of (spelling sid) ≡ Some sid

-- what is read of a text is written back as that text
abbrev pub ReadIsWrittenBack : Type 0
ReadIsWrittenBack = (text : List ℕ) (sid : Sid) → sid_of text ≡ Some sid → spelling sid ≡ text
