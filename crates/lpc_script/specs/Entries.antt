-- The entries of an access list, each read whole, and a reading of which only the first fault counts.
use Rattle.std.specs.Prelude.{ℕ, Bool, List, Result, Ok, Err}
use Rattle.lpc_sid.specs.declared.access.Ace.{Ace}
use Rattle.lpc_model.specs.declared.fault.LineFault.{LineFault}
use Rattle.lpc_model.specs.Grammar.{entry_form, entry_of}
use Rattle.lpc_model.specs.Then.{◌>>=◌}
use Rattle.lpc_words.specs.Gives.{Word}

-- an entry, its form and then its numbers
abbrev pub entry_word : List ℕ → Result Ace LineFault
entry_word text = do
  form ← entry_form text
  entry_of form

-- that something can be read, or its first fault
abbrev pub is_read : {A : Type 0} → Result A LineFault → Result Unit LineFault
is_read (Ok x) = Ok tt
is_read (Err e) = Err e

-- an entry by its form, the texts as their bytes
abbrev pub seen_form : Bool × Word × Word → Bool × List ℕ × List ℕ
seen_form form = (form.0, form.1.now, form.2.now)
