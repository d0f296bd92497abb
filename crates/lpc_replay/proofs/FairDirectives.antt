-- What a directive tells is right.
use Rattle.std.proofs.Common.{Bool, List, None, Some, [], false, true, ℕ, ◌∷◌}
use Rattle.std.specs.Prelude.{Option, is_some}
use Rattle.lpc_base.specs.declared.status.TheConstants.{OBJECT_NAME_COLLISION, SUCCESS}
use Rattle.lpc_model.specs.Basics.{Tells}
use Rattle.lpc_model.specs.Found.{live_thread, named_token}
use Rattle.lpc_model.specs.Lines.{ResidentLine, ScriptLine, hosts, moves}
use Rattle.lpc_model.specs.Machine.{boot_line, boot_token, dir_line, idle_entry, link_line, resident_entry, thread_line, thread_test, token_line, unused_test}
use Rattle.lpc_model.specs.Named.{free_name, spelled_name}
use Rattle.lpc_model.specs.Refusal.{refuse_if}
use Rattle.lpc_model.specs.World.{ThreadRow, Token, World}
use Rattle.lpc_model.specs.declared.entry.Entry.TheVariants as entry
use Rattle.lpc_model.specs.declared.entry.Word.TheVariants as word
use Rattle.lpc_model.proofs.Calls.Holding.{Holds, bind_holds}
use Rattle.lpc_replay.proofs.Fair.{AreFair}

pub boot_fair : (w : World) (line : ScriptLine) (pid tid : ℕ) (name : Option (List ℕ)) → Holds (λ bs. AreFair w line (Tells (entry.Directive word.Boot SUCCESS) ∷ bs)) (boot_line w pid tid name)
unfolding boot_line
boot_fair w line pid tid name =
    bind_holds (boot_token w name) _ (λ bs. AreFair w line (Tells (entry.Directive word.Boot SUCCESS) ∷ bs)) (λ _ _.
    bind_holds (unused_test w pid tid) _ (λ bs. AreFair w line (Tells (entry.Directive word.Boot SUCCESS) ∷ bs)) (λ _ _. ((tt, tt), (tt, (tt, tt)))))

pub token_fair : (w : World) (line : ScriptLine) (name : List ℕ) (content : Token) → Holds (λ bs. AreFair w line (Tells (entry.Directive word.Token SUCCESS) ∷ bs)) (token_line w name content)
unfolding token_line
token_fair w line name content =
    bind_holds (refuse_if (is_some (named_token w name)) OBJECT_NAME_COLLISION) _ (λ bs. AreFair w line (Tells (entry.Directive word.Token SUCCESS) ∷ bs)) (λ _ _. ((tt, tt), (tt, tt)))

pub further_fair : (w : World) (line : ScriptLine) (tid pid : ℕ) → Holds (λ bs. AreFair w line (Tells (entry.Directive word.Thread SUCCESS) ∷ bs)) (thread_line w tid pid)
unfolding thread_line
further_fair w line tid pid =
    bind_holds (thread_test w tid pid) _ (λ bs. AreFair w line (Tells (entry.Directive word.Thread SUCCESS) ∷ bs)) (λ _ _. ((tt, tt), (tt, tt)))

pub dir_fair : (w : World) (line : ScriptLine) (path : List ℕ) → Holds (λ bs. AreFair w line (Tells (entry.Directive word.Dir SUCCESS) ∷ bs)) (dir_line w path)
unfolding dir_line
dir_fair w line path =
    bind_holds (free_name w path) _ (λ bs. AreFair w line (Tells (entry.Directive word.Dir SUCCESS) ∷ bs)) (λ _ _. ((tt, tt), (tt, tt)))

pub link_fair : (w : World) (line : ScriptLine) (path target : List ℕ) → Holds (λ bs. AreFair w line (Tells (entry.Directive word.Link SUCCESS) ∷ bs)) (link_line w path target)
unfolding link_line
link_fair w line path target =
    bind_holds (spelled_name target) _ (λ bs. AreFair w line (Tells (entry.Directive word.Link SUCCESS) ∷ bs)) (λ _ _.
    bind_holds (free_name w path) _ (λ bs. AreFair w line (Tells (entry.Directive word.Link SUCCESS) ∷ bs)) (λ _ _. ((tt, tt), (tt, tt))))

pub resident_fair : (w : World) (line : ScriptLine) (tid : ℕ) (what : ResidentLine) (had : Bool) → AreFair w line (Tells (resident_entry w tid what had) ∷ [])
unfolding resident_entry
resident_fair w line tid (hosts kind handle) had = ((tt, tt), tt)
resident_fair w line tid moves had = idle (live_thread w tid) had
  where
    idle : (o : Option ThreadRow) (had : Bool) → AreFair w line (Tells (idle_entry tid o had) ∷ [])
    idle None had = ((tt, tt), tt)
    idle (Some t) false = ((tt, tt), tt)
    idle (Some t) true = ((tt, tt), tt)
