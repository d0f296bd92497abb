-- Along each script the messages are accounted for.
use Rattle.std.proofs.Common.{◌≡◌, ℕ, ◌+◌, List, [], ◌∷◌, Option, Some, None, arith, refl}
use Rattle.lpc_base.specs.Rows.{count}
use Rattle.lpc_base.proofs.RowWords.{count-append}
use Rattle.lpc_model.specs.World.{World, no_rows}
use Rattle.lpc_model.specs.Basics.{posts_of}
use Rattle.lpc_model.specs.Lines.{ScriptLine}
use Rattle.lpc_model.specs.Machine.{step, steps}
use Rattle.lpc_model.specs.Run.{all_posts, trace, world_behind}
use Rattle.lpc_model.specs.Lawful.{IsLawfulWorld}
use Rattle.lpc_model.proofs.Runs.{lawful_none, lawful_step, lawful-readied}
use Rattle.lpc_model.specs.Accounts.{RunAccountsForDeaths, RunAccountsForMessages, Receipt, has_receipt, lost_in, received_in, standing}
use Rattle.lpc_model.specs.OwnCalls.{HasOwnCalls}
use Rattle.lpc_model.specs.PlainConnects.{HasPlainConnects}
use Rattle.lpc_model.proofs.Account.OwnCalls.{calls_step}
use Rattle.lpc_model.proofs.Account.PlainConnects.{plain_step}
use Rattle.lpc_model.proofs.Account.Lines.{line-balanced}

accounted-from : (s : Receipt) → (w : World) (lines : List (Option ScriptLine)) → IsLawfulWorld w → HasOwnCalls w → HasPlainConnects w
    → standing s w + count (has_receipt s) (all_posts (trace w lines)) ≡ standing s (world_behind w lines) + (received_in s w lines + lost_in s w lines)
unfolding trace world_behind received_in lost_in
accounted-from s w [] l calls connects = omega arith
accounted-from s w (None ∷ later) l calls connects = accounted-from s w later l calls connects
accounted-from s w (Some line ∷ later) l calls connects =
    let v = (step w line).world in
    let shut = l.single_closings in
    let ready = lawful-readied w line l in
    let plain = plain_step w line l.sound shut.connects ready connects in
    let here = line-balanced s w line l.sound shut.connects calls connects ready in
    let there = accounted-from s v later (lawful_step w line l) (calls_step w line l.sound shut.connects ready calls) plain.queued in
    let posts = count-append (has_receipt s) (posts_of (steps line w)) (all_posts (trace v later)) in
    omega (arith, here, there, posts)

pub messages-accounted : (script : List ℕ) → RunAccountsForMessages script
messages-accounted script s front back parts = let all = accounted-from s no_rows front lawful_none refl refl in omega (arith, all)

pub deaths-accounted : (script : List ℕ) → RunAccountsForDeaths script
deaths-accounted script = (
  λ s kind front back parts. messages-accounted script s front back parts,
  λ s kind front back parts. messages-accounted script s front back parts,
)
