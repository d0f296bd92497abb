-- What the next line that is read makes of a replay.
use Rattle.std.proofs.Common.{◌≡◌, ℕ, ◌<◌, ◌≤◌, true, false, List, [], ◌∷◌, ◌++◌, length, refl, arith}
use Rattle.std.specs.Prelude.{Option, None, Some, nat_le}
use Rattle.std.proofs.lemmas.Bool.Decides.{nat_tests}
use Rattle.lpc_base.specs.declared.limits.TheConstants.{LINE_LIMIT, LINES_LIMIT}
use Rattle.lpc_model.specs.declared.fault.LineFault.{LineFault}
use Rattle.lpc_model.specs.declared.fault.LineFault.TheVariants as fault
use Rattle.lpc_model.specs.Script.{script_lines}
use Rattle.lpc_script.specs.Feeding.{IsOverrun, has_end}
use Rattle.lpc_replay.specs.declared.form.Form.{Form}
use Rattle.lpc_replay.specs.Playing.{HasPlayed, IsFault, IsRest, Progress, RunsLine}
use Rattle.lpc_replay.specs.Reading.{Advances}
use Rattle.lpc_replay.specs.Sending.{AddsFront}
use Rattle.lpc_replay.specs.TopCall.{Begins}
use Rattle.lpc_replay.specs.declared.reading.NextLine.TheVariants as next
use Rattle.lpc_replay.proofs.Limits.{all_lack, ended_line}
use Rattle.lpc_replay.proofs.Played.{begins_more, read_on, soon_line, soon_rest, soon_unended}
use Rattle.lpc_replay.proofs.Stopping.{fault_ended, fault_long, fault_many, rest_within}
use Rattle.lpc_replay.proofs.Turns.{run_goes}

-- a line that is ended
pub come_whole : (form : Form) (left left1 left2 a b : Option (List ℕ)) (p : Progress) (piece line rest : List ℕ) → HasPlayed form left left1 a b p piece → Advances left1 left2 next.Whole piece line rest → has_end line ≡ false → length rest ≤ 4096 → HasPlayed form left left2 a b p (line ++ 10 ∷ rest)
come_whole form left left1 left2 a b p piece line rest h adv lacks short = read_on form left left1 left2 a b p piece adv.read (line ++ 10 ∷ rest) h adv.told adv.comes (soon_line line rest 10 lacks short)

-- a line that is too long
pub come_long : (form : Form) (left left1 left2 a b : Option (List ℕ)) (p : Progress) (piece line rest : List ℕ) → HasPlayed form left left1 a b p piece → Advances left1 left2 next.TooLong piece line rest → has_end line ≡ false → length rest ≤ 4096 → nat_le LINES_LIMIT p.lines ≡ false → IsFault form left left2 a b p fault.Long
come_long form left left1 left2 a b p piece line rest h adv lacks short room =
    let o = adv.comes in
    let few : p.lines < LINES_LIMIT = grind (arith, nat_tests) in
    let tail = line ++ o.byte ∷ rest in
    let over : IsOverrun tail line rest = record { byte = o.byte; other = o.other; parts = refl; full = o.full } in
    fault_long form left left2 a b p line rest tail (read_on form left left1 left2 a b p piece adv.read tail h adv.told o.parts (soon_line line rest o.byte lacks short)) lacks few over

-- a byte of a line too many
pub come_many : (form : Form) (left left1 left2 a b : Option (List ℕ)) (p : Progress) (piece line rest : List ℕ) → HasPlayed form left left1 a b p piece → Advances left1 left2 next.TooMany piece line rest → length rest ≤ 4096 → nat_le LINES_LIMIT p.lines ≡ true → IsFault form left left2 a b p fault.Lines
come_many form left left1 left2 a b p piece line rest h adv short full =
    let many : LINES_LIMIT ≤ p.lines = grind (arith, nat_tests) in
    fault_many form left left2 a b p rest (read_on form left left1 left2 a b p piece adv.read rest h adv.told adv.comes.1 (soon_rest rest short)) adv.comes.2 many

-- the source's end, or its failure
pub come_end : (form : Form) (left left1 left2 a b : Option (List ℕ)) (p : Progress) (piece line rest : List ℕ) → HasPlayed form left left1 a b p piece → Advances left1 left2 next.End piece line rest → has_end line ≡ false → (nat_le LINES_LIMIT p.lines ≡ true → line ≡ []) → length line ≤ LINE_LIMIT → IsRest form left left2 a b p line
come_end form left left1 left2 a b p piece line rest h adv lacks none limit =
    rest_within form left left2 a b p line (read_on form left left1 left2 a b p piece adv.read line h adv.told adv.comes.0 (soon_unended line lacks)) none lacks limit

pub come_failed : (form : Form) (left left1 left2 a b : Option (List ℕ)) (p : Progress) (piece line rest : List ℕ) → HasPlayed form left left1 a b p piece → Advances left1 left2 next.SourceFailed piece line rest → has_end line ≡ false → (nat_le LINES_LIMIT p.lines ≡ true → line ≡ []) → length line ≤ LINE_LIMIT → IsRest form left left2 a b p line
come_failed form left left1 left2 a b p piece line rest h adv lacks none limit =
    rest_within form left left2 a b p line (read_on form left left1 left2 a b p piece adv.read line h adv.told adv.comes.0 (soon_unended line lacks)) none lacks limit

-- a line that is ended is faulty
pub come_fault : (form : Form) (left left2 a b : Option (List ℕ)) (p q : Progress) (line rest text : List ℕ) (f : LineFault) → HasPlayed form left left2 a b p (line ++ 10 ∷ rest) → has_end line ≡ false → RunsLine form line (Some f) p q text → IsFault form left left2 a b q f
come_fault form left left2 a b p q line rest text f h lacks runs = rw runs.1 (fault_ended form left left2 a b p q line rest text f h lacks runs)

-- a front of what it tells was sent
pub come_begun : (form : Form) (left left2 a b c : Option (List ℕ)) (p q : Progress) (line rest text : List ℕ) → HasPlayed form left left2 a b p (line ++ 10 ∷ rest) → has_end line ≡ false → RunsLine form line None p q text → AddsFront b c text → Begins form left left2 a c
come_begun form left left2 a b c p q line rest text h lacks runs sent =
    let lines = ended_line line rest (all_lack line lacks) in
    begins_more form left left2 a b c p (line ++ 10 ∷ rest) text _ h sent (run_goes form p q (script_lines (line ++ 10 ∷ rest)) line (script_lines rest) text lines runs)

pub few_lines : (lines : ℕ) → nat_le LINES_LIMIT lines ≡ false → lines < LINES_LIMIT
few_lines lines room = grind (arith, nat_tests)
