-- What is read of a script without a faulty line, and laws of a script that is told.
use Rattle.std.proofs.Common.{◌≡◌, ℕ, true, false, List, ◌++◌, refl, sym, ◌∙◌}
use Rattle.std.specs.Prelude.{IfSome, None, Option, Some}
use Rattle.std.proofs.lemmas.List.{append_cancel_right}
use Rattle.lpc_base.specs.Streams.{Told}
use Rattle.lpc_model.specs.Run.{is_well_formed}
use Rattle.lpc_replay.specs.Reading.{ended_lines, has_fault, passes_limit}
use Rattle.lpc_replay.specs.TopCall.{StopsAtFault, StopsUnfailing}

-- what was read of a script, where no line of it is faulty that is ended, and it passes no limit
pub sound_read : (left left' : Option (List ℕ)) (script : List ℕ) (status : ℕ) → Told left left' (λ old new. old ≡ script ++ new) → is_well_formed (ended_lines script) ≡ true → passes_limit script ≡ false → StopsAtFault left left' status
sound_read None left' script status told sound within = tt
sound_read (Some old) None script status told sound within = tt
sound_read (Some old) (Some new) script status told sound within = λ read parts faulty.
    let same : script ≡ read = append_cancel_right script read new (sym told ∙ parts) in
    let none : has_fault script ≡ false = rw (within, sound) refl in
    let wrong : has_fault read ≡ false = rw same at none in
    absurd (cc)

-- a source that counted no failure stopped nothing
pub unfailed : (left left' : Option (List ℕ)) (before now : ℕ) → now ≡ before → StopsUnfailing left left' before now
unfailed None left' before now still = tt
unfailed (Some old) None before now still = tt
unfailed (Some old) (Some new) before now still = λ read parts sound. still

-- what holds of every script holds of the one that is told
pub of_told : (P : List ℕ → Type 0) → ((script : List ℕ) → P script) → (left : Option (List ℕ)) → IfSome left P
of_told P h None = tt
of_told P h (Some script) = h script
