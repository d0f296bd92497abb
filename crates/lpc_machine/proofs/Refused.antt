-- A line that makes no call, or one that is refused, leaves the world as it was.
use Rattle.std.proofs.Common.{◌≡◌, ◌∙◌, zero, suc, List, [], ◌∷◌, Bool, true, not, refl, arith}
use Rattle.std.specs.Prelude.{ℕ, Option, Some, None, Result, Ok, Err, IsErr, ◌&&◌, ◌++◌, is_none, is_some}
use Rattle.lpc_base.specs.Rows.{every, which}
use Rattle.lpc_base.specs.declared.status.Status.{Status}
use Rattle.lpc_model.specs.Basics.{Basic, Tells, world_after}
use Rattle.lpc_model.specs.Found.{live_thread, wait_of}
use Rattle.lpc_model.specs.Lines.{of_resident, ScriptCall, ScriptLine, boot, dir, link, run, thread, token}
use Rattle.lpc_model.specs.Linked.{HasHeldRows}
use Rattle.lpc_model.specs.Machine.{resident_entry, bare_steps, own_steps, boot_line, dir_line, directed, link_line, name_of_call, ready_steps, service_of, settled, step, thread_line, thread_steps, token_line}
use Rattle.lpc_model.specs.Settle.{IsSettled, is_doomed, most_turns, settle, turn, turns}
use Rattle.lpc_model.specs.Sweep.{sweep}
use Rattle.lpc_model.specs.declared.entry.CallName.{CallName}
use Rattle.lpc_model.specs.World.{ThreadRow, WaitRow, World}
use Rattle.lpc_model.specs.declared.entry.Entry.TheVariants.{Answer, Busy, Directive, NoThread}
use Rattle.lpc_model.specs.declared.entry.Entry.{Entry}
use Rattle.lpc_model.specs.declared.entry.Word.TheVariants as word
use Rattle.lpc_model.specs.declared.entry.Word.{Word}
use Rattle.lpc_model.proofs.Held.FreedPort.{swept_none_world, unheld_none}
use Rattle.lpc_rows.specs.Ready.{caller, thread_in}
use Rattle.lpc_machine.specs.Memory.{Halts}

-- one entry is told, and nothing else is done
pub record TellsOne (bs : List Basic) : Type 0 where
  pub entry : Entry
  pub is : bs ≡ Tells entry ∷ []

directed_one : (name : Word) (r : Result (List Basic) Status) → IsErr r → TellsOne (directed name r)
directed_one name (Ok bs) is = absurd (cc)
directed_one name (Err s) is = record { entry = Directive name s; is = refl }

settled_one : (by : ThreadRow) (name : CallName) (r : Result (List Basic) Status) → IsErr r → TellsOne (settled by name r)
settled_one by name (Ok bs) is = absurd (cc)
settled_one by name (Err s) is = record { entry = Answer by.number name s []; is = refl }

ready_one : (w : World) (by : ThreadRow) (call : ScriptCall) (o : Option WaitRow) → (is_none o ≡ true → IsErr (service_of w by call)) → TellsOne (ready_steps by call o w)
ready_one w by call (Some x) halts = record { entry = Busy by.number; is = refl }
ready_one w by call None halts = settled_one by (name_of_call call) (service_of w by call) (halts refl)

thread_one : (w : World) (tid : ℕ) (call : ScriptCall) (o : Option ThreadRow) → ((is_some o && is_none (wait_of w tid)) ≡ true → IsErr (service_of w (thread_in o) call)) → TellsOne (thread_steps tid call o w)
thread_one w tid call None halts = record { entry = NoThread tid; is = refl }
thread_one w tid call (Some by) halts = ready_one w by call (wait_of w tid) halts

pub halts_one : (w : World) (line : ScriptLine) → Halts w line → TellsOne (own_steps line w)
unfolding own_steps caller
halts_one w (boot pid tid name) halts = directed_one word.Boot (boot_line w pid tid name) halts
halts_one w (thread tid pid) halts = directed_one word.Thread (thread_line w tid pid) halts
halts_one w (token name content) halts = directed_one word.Token (token_line w name content) halts
halts_one w (dir path) halts = directed_one word.Dir (dir_line w path) halts
halts_one w (link path target) halts = directed_one word.Link (link_line w path target) halts
halts_one w (of_resident tid what had) halts = record { entry = resident_entry w tid what had; is = refl }
halts_one w (run tid call) halts = thread_one w tid call (live_thread w tid) halts

-- and nothing settles, where no event is marked and no live process is to end
none_which : {A : Type 0} (p : A → Bool) (xs : List A) → every (λ x. not (p x)) xs ≡ true → which p xs ≡ []
none_which p [] none = refl
none_which p (x ∷ xs) none = grind (arith, none_which p xs)

pub no_turn : (w : World) → IsSettled w → turn w ≡ None
no_turn w is = rw (is.marks, none_which (is_doomed w) w.processes is.doomed) refl

no_turns : (n : ℕ) (w : World) → turn w ≡ None → turns n w ≡ []
no_turns zero w none = refl
no_turns (suc n) w none = rw none refl

settles_none : (w : World) → IsSettled w → settle w ≡ []
unfolding settle
settles_none w is = no_turns (most_turns w) w (no_turn w is)

told_behind : (w : World) (bs : List Basic) → TellsOne bs → IsSettled w → bs ++ settle (world_after w bs) ≡ bs
told_behind w bs t is = rw (t.is, settles_none w is) refl

pub bare_one : (w : World) (line : ScriptLine) → IsSettled w → Halts w line → TellsOne (bare_steps line w)
unfolding bare_steps
bare_one w line is halts =
    let one = halts_one w line halts in
    record { entry = one.entry; is = told_behind w (own_steps line w) one is ∙ one.is }

-- and no row goes, where some row counts for each object
told_stays : (w : World) (bs : List Basic) → TellsOne bs → HasHeldRows w → world_after w (bs ++ sweep (world_after w bs)) ≡ w
told_stays w bs t held = rw t.is (swept_none_world w (unheld_none w held))

pub refused_stays : (w : World) (line : ScriptLine) → IsSettled w → HasHeldRows w → Halts w line → (let e = step w line in e.world) ≡ w
refused_stays w line is held halts = told_stays w (bare_steps line w) (bare_one w line is halts) held
