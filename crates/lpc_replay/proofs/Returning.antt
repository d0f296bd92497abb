-- Each request that returns with success is returned by a reply that fits it, and each connect that wakes by its
-- answer.
use Rattle.std.proofs.Common.{List, [], ◌∷◌}
use Rattle.std.specs.List.{AllByRecursion}
use Rattle.std.specs.Prelude.{None, Option, Some}
use Rattle.lpc_model.specs.Lines.{ScriptLine}
use Rattle.lpc_model.specs.declared.entry.CallName.TheVariants.{Raise}
use Rattle.lpc_model.specs.declared.entry.Entry.TheVariants.{Answer, Died, Wakes}
use Rattle.lpc_model.specs.declared.entry.Entry.{Entry}
use Rattle.lpc_model.specs.Machine.{step, steps}
use Rattle.lpc_model.specs.Replies.{HasReply, RequestsReturnByReply}
use Rattle.lpc_model.specs.Run.{Along}
use Rattle.lpc_model.specs.World.{World}
use Rattle.lpc_model.proofs.GivenBytes.{SaidBytes}
use Rattle.lpc_model.specs.Lawful.{IsLawfulWorld}
use Rattle.lpc_model.proofs.Runs.{lawful_step}
use Rattle.lpc_replay.specs.Connects.{ConnectsReturnByAnswer, HasAnswer}
use Rattle.lpc_replay.specs.Ends.{HasEnder, ThreadsEndAsNamed}
use Rattle.lpc_replay.specs.Raises.{HasHandler, RaisesReturnAsHandled}
use Rattle.lpc_replay.proofs.Fair.{HasCause, HaveTheirCalls, IsRight, entries_fair, steps_keep}
use Rattle.lpc_replay.proofs.FairLines.{steps_right}
use Rattle.lpc_replay.proofs.Holding.{all_more}

-- each entry of a run is right
right_along : (w : World) (lines : List (Option ScriptLine)) → AllByRecursion SaidBytes lines → HaveTheirCalls w → IsLawfulWorld w → Along (λ v line. AllByRecursion (IsRight v line) (step v line).entries) w lines
right_along w [] are h l = tt
right_along w (None ∷ later) are h l = right_along w later are.1 h l
right_along w (Some line ∷ later) are h l =
    let right = steps_right w line are.0 l h in
    (entries_fair w line (steps line w) right, right_along (step w line).world later are.1 (steps_keep w line w (steps line w) right h) (lawful_step w line l))

each_along : (P Q : World → ScriptLine → Type 0) → ((w : World) (line : ScriptLine) → P w line → Q w line) → (w : World) (lines : List (Option ScriptLine)) → Along P w lines → Along Q w lines
each_along P Q more w [] h = tt
each_along P Q more w (None ∷ later) h = each_along P Q more w later h
each_along P Q more w (Some line ∷ later) h = (more w line h.0, each_along P Q more (step w line).world later h.1)

-- what is told of a connect has its answer, what is told of an exception its handler, and a thread that ends its ender
cause_answer : (w : World) (line : ScriptLine) (e : Entry) → HasCause w line e → HasAnswer w line e
cause_answer w line (Wakes who Raise status fields) h = tt
cause_answer w line (Answer who Raise status fields) h = tt
cause_answer w line (Wakes who name status fields) h = h
cause_answer w line (Answer who name status fields) h = h
cause_answer w line (Died who status) h = tt
cause_answer w line e h = h

cause_handler : (w : World) (line : ScriptLine) (e : Entry) → HasCause w line e → HasHandler w line e
cause_handler w line (Wakes who Raise status fields) h = h
cause_handler w line (Answer who Raise status fields) h = h
cause_handler w line (Wakes who name status fields) h = tt
cause_handler w line (Answer who name status fields) h = tt
cause_handler w line e h = tt

cause_ender : (w : World) (line : ScriptLine) (e : Entry) → HasCause w line e → HasEnder w line e
cause_ender w line (Died who status) h = h
cause_ender w line e h = tt

pub returns_along : (w : World) (lines : List (Option ScriptLine)) → AllByRecursion SaidBytes lines → HaveTheirCalls w → IsLawfulWorld w → Along RequestsReturnByReply w lines
returns_along w lines are h l =
    each_along (λ v line. AllByRecursion (IsRight v line) (step v line).entries) RequestsReturnByReply (λ v line right.
    all_more (IsRight v line) (HasReply v line) (λ e r. r.0) (step v line).entries right) w lines (right_along w lines are h l)

pub answers_along : (w : World) (lines : List (Option ScriptLine)) → AllByRecursion SaidBytes lines → HaveTheirCalls w → IsLawfulWorld w → Along ConnectsReturnByAnswer w lines
answers_along w lines are h l =
    each_along (λ v line. AllByRecursion (IsRight v line) (step v line).entries) ConnectsReturnByAnswer (λ v line right.
    all_more (IsRight v line) (HasAnswer v line) (λ e r. cause_answer v line e r.1) (step v line).entries right) w lines (right_along w lines are h l)

pub raises_along : (w : World) (lines : List (Option ScriptLine)) → AllByRecursion SaidBytes lines → HaveTheirCalls w → IsLawfulWorld w → Along RaisesReturnAsHandled w lines
raises_along w lines are h l =
    each_along (λ v line. AllByRecursion (IsRight v line) (step v line).entries) RaisesReturnAsHandled (λ v line right.
    all_more (IsRight v line) (HasHandler v line) (λ e r. cause_handler v line e r.1) (step v line).entries right) w lines (right_along w lines are h l)

pub ends_along : (w : World) (lines : List (Option ScriptLine)) → AllByRecursion SaidBytes lines → HaveTheirCalls w → IsLawfulWorld w → Along ThreadsEndAsNamed w lines
ends_along w lines are h l =
    each_along (λ v line. AllByRecursion (IsRight v line) (step v line).entries) ThreadsEndAsNamed (λ v line right.
    all_more (IsRight v line) (HasEnder v line) (λ e r. cause_ender v line e r.1) (step v line).entries right) w lines (right_along w lines are h l)
