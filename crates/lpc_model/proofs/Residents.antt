-- What lines come to once the residents make their calls: the numbers that they name stay, and the header of a message is bytes.
use Rattle.std.proofs.Common.{◌≡◌, Bool, true, false, List, [], ◌∷◌, ℕ, refl}
use Rattle.std.specs.Prelude.{Option, Some, None}
use Rattle.std.specs.List.{AllByRecursion}
use Rattle.lpc_base.specs.Rows.{first}
use Rattle.lpc_model.specs.World.{World}
use Rattle.lpc_model.specs.Lines.{ScriptLine, boot, dir, hosts, link, moves, of_resident, run, thread, token}
use Rattle.lpc_model.specs.Grammar.{has_call_ids, has_ids}
use Rattle.lpc_model.specs.Words.{is_id}
use Rattle.lpc_model.specs.Residents.{Core, Resident, State, call_for, can_call, is_on, line_done, turn_done}
use Rattle.lpc_model.specs.declared.resident.Deed.{Deed}
use Rattle.lpc_model.specs.declared.resident.Deed.TheVariants.{AnswersConnect, Closes, Completes, Receives, RepliesTo}
use Rattle.lpc_model.specs.Run.{done_from, state_behind}
use Rattle.std.proofs.lemmas.Bool.{and_from}
use Rattle.lpc_model.proofs.GivenBytes.{GivesBytes, HasBytes, SaidBytes, made_are, made_front}

deed-ids : {C : Type 0} (core : Core C) (w : World) (r : Resident C) (deed : Deed) → has_call_ids (call_for core w r deed) ≡ true
deed-ids core w r Receives = refl
deed-ids core w r (AnswersConnect by) = refl
deed-ids core w r (Completes k) = refl
deed-ids core w r (Closes k) = refl
deed-ids core w r (RepliesTo message) = refl

turn-ids : {C : Type 0} (core : Core C) (w : World) (tid : ℕ) (can : Bool) (o : Option (Resident C)) → is_id tid ≡ true → has_ids (turn_done core w tid can o) ≡ true
turn-ids core w tid can None is = is
turn-ids core w tid true (Some r) is = and_from _ _ is (deed-ids core w r r.deed)
turn-ids core w tid false (Some r) is = is

pub done-ids : {C : Type 0} (core : Core C) (s : State C) (line : ScriptLine) → has_ids line ≡ true → has_ids (line_done core s line) ≡ true
done-ids core s (boot pid tid name) is = is
done-ids core s (thread tid pid) is = is
done-ids core s (token name content) is = is
done-ids core s (dir path) is = is
done-ids core s (link path target) is = is
done-ids core s (of_resident tid (hosts kind handle) had) is = is
done-ids core s (of_resident tid moves had) is = turn-ids core s.world tid (can_call s.world tid) (first (is_on tid) s.residents) is
done-ids core s (run tid call) is = is

-- the messages of calls
deed-bytes : {C : Type 0} (core : Core C) (w : World) (r : Resident C) (deed : Deed) → HasBytes (call_for core w r deed)
deed-bytes core w r Receives = tt
deed-bytes core w r (AnswersConnect by) = made_are by.client by.identifier
deed-bytes core w r (Completes k) = tt
deed-bytes core w r (Closes k) = tt
deed-bytes core w r (RepliesTo message) = made_front _ _ _

turn-bytes : {C : Type 0} (core : Core C) (w : World) (tid : ℕ) (can : Bool) (o : Option (Resident C)) → GivesBytes (turn_done core w tid can o)
turn-bytes core w tid can None = tt
turn-bytes core w tid true (Some r) = deed-bytes core w r r.deed
turn-bytes core w tid false (Some r) = tt

done-gives : {C : Type 0} (core : Core C) (s : State C) (line : ScriptLine) → GivesBytes line → GivesBytes (line_done core s line)
done-gives core s (boot pid tid name) gives = tt
done-gives core s (thread tid pid) gives = tt
done-gives core s (token name content) gives = tt
done-gives core s (dir path) gives = tt
done-gives core s (link path target) gives = tt
done-gives core s (of_resident tid (hosts kind handle) had) gives = tt
done-gives core s (of_resident tid moves had) gives = turn-bytes core s.world tid (can_call s.world tid) (first (is_on tid) s.residents)
done-gives core s (run tid call) gives = gives

pub done_bytes : {C : Type 0} (core : Core C) (s : State C) (lines : List (Option ScriptLine)) → AllByRecursion SaidBytes lines → AllByRecursion SaidBytes (done_from core s lines)
done_bytes core s [] all = tt
done_bytes core s (None ∷ later) all = (tt, done_bytes core (state_behind core s None) later all.1)
done_bytes core s (Some line ∷ later) all = (done-gives core s line all.0, done_bytes core (state_behind core s (Some line)) later all.1)
