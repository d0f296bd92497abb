-- A rest of a script that no byte 10 ends.
use Rattle.std.proofs.Common.{◌≡◌, ℕ, ◌<◌, false, List, [], ◌∷◌, ◌++◌, length, refl, sym, ap, ◌∙◌, arith}
use Rattle.std.specs.Prelude.{Option, Some, None, ◌==◌}
use Rattle.std.specs.List.{AllByRecursion}
use Rattle.std.proofs.lemmas.List.{append-nil}
use Rattle.lpc_base.specs.Streams.{Adds}
use Rattle.lpc_model.specs.declared.fault.LineFault.{LineFault}
use Rattle.lpc_model.specs.Script.{script_lines}
use Rattle.lpc_script.specs.Feeding.{has_end}
use Rattle.lpc_replay.specs.declared.form.Form.{Form}
use Rattle.lpc_replay.specs.Playing.{HasEnded, HasFaultyRest, Progress, RunsLine, behind_lines, body_text}
use Rattle.lpc_replay.specs.Sending.{AddsFront}
use Rattle.lpc_replay.proofs.Limits.{all_lack}
use Rattle.lpc_replay.proofs.Played.{runs_on}
use Rattle.lpc_replay.proofs.Tells.{told_same}
use Rattle.lpc_replay.proofs.Turns.{body_ends, body_goes}

-- it is one line
one_line : (bytes : List ℕ) → AllByRecursion (λ b. (b == 10) ≡ false) bytes → 0 < length bytes → script_lines bytes ≡ bytes ∷ []
unfolding script_lines
one_line [] all some = absurd (omega arith)
one_line (b ∷ []) all some = rw all.0 refl
one_line (b ∷ c ∷ bs) all some = rw (all.0, one_line (c ∷ bs) all.1 (omega arith)) refl

pub line_of : (rest : List ℕ) → has_end rest ≡ false → 0 < length rest → script_lines rest ≡ rest ∷ []
line_of rest lacks some = one_line rest (all_lack rest lacks) some

-- an empty one is none
pub rest_none : (form : Form) (p : Progress) (rest : List ℕ) (a : Option (List ℕ)) → length rest ≡ 0 → HasEnded form p p rest a a
unfolding behind_lines script_lines
rest_none form p [] a none = record {
  runs = refl;
  told = told_same a a (λ old new. new ≡ old ++ body_text form p (script_lines [])) (λ x. sym (ap (λ t. x ++ t) (body_ends form p [] refl) ∙ append-nil x)) refl;
}
rest_none form p (b ∷ bs) a none = absurd (omega arith)

-- it was run
rest_text : (form : Form) (p q : Progress) (rest text : List ℕ) → has_end rest ≡ false → 0 < length rest → RunsLine form rest None p q text → body_text form p (script_lines rest) ≡ text ++ body_text form q []
rest_text form p q rest text lacks some runs = ap (λ ls. body_text form p ls) (line_of rest lacks some) ∙ rw (runs.2, runs.3) (body_goes form p rest [] runs.0 runs.1)

no_lines : (form : Form) (q : Progress) → body_text form q [] ≡ []
unfolding script_lines
no_lines form q = body_ends form q [] refl

rest_is : (form : Form) (p q : Progress) (rest text : List ℕ) → has_end rest ≡ false → 0 < length rest → RunsLine form rest None p q text → text ≡ body_text form p (script_lines rest)
rest_is form p q rest text lacks some runs =
    sym (rest_text form p q rest text lacks some runs ∙ (ap (λ t. text ++ t) (no_lines form q) ∙ append-nil text))

pub rest_run : (form : Form) (p q : Progress) (rest text : List ℕ) (b c : Option (List ℕ)) → has_end rest ≡ false → 0 < length rest → RunsLine form rest None p q text → Adds b c text → HasEnded form p q rest b c
unfolding behind_lines
rest_run form p q rest text b c lacks some runs sent = record {
  runs = ap (λ ls. behind_lines p ls) (line_of rest lacks some) ∙ (runs_on p rest [] runs.0 runs.1 ∙ ap (λ (r : Progress). Some r) (sym runs.2));
  told = rw (rest_is form p q rest text lacks some runs) at sent;
}

pub rest_front : (form : Form) (p q : Progress) (rest text : List ℕ) (b c : Option (List ℕ)) → has_end rest ≡ false → 0 < length rest → RunsLine form rest None p q text → AddsFront b c text → AddsFront b c (body_text form p (script_lines rest))
rest_front form p q rest text b c lacks some runs sent = rw (rest_is form p q rest text lacks some runs) at sent

-- it is faulty
pub rest_faulty : (form : Form) (p q : Progress) (rest text : List ℕ) (f : LineFault) (b : Option (List ℕ)) → has_end rest ≡ false → 0 < length rest → RunsLine form rest (Some f) p q text → HasFaultyRest p q rest b b f
rest_faulty form p q rest text f b lacks some runs = record { at = runs.1; begins = (rest, [], line_of rest lacks some, runs.0); unsent = refl }
