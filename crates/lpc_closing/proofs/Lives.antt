-- The close of a handle makes no thread live, nor does any other step by which something ends.
use Rattle.std.proofs.Common.{◌≡◌, ◌≤◌, ℕ, List, [], ◌∷◌, true, refl, ap, subst, sym, arith}
use Rattle.lpc_base.specs.Rows.{count, every}
use Rattle.lpc_model.specs.Basics.{Accepts, Acts, AddsHandle, AddsProcess, AddsThread, Awaits, Basic, Binds, Completes, Dies, DrawsIdentifier, DrawsOrdinal, Frees, Joins, Makes, Registers, Unregisters, basic, unregistering, world_after}
use Rattle.lpc_model.specs.Close.{close_handle}
use Rattle.lpc_model.specs.Listed.{Listed}
use Rattle.lpc_model.specs.World.{HandleRow, World}
use Rattle.lpc_model.proofs.Steps.Ending.{AreEnding, handle-ending, is_ending}
use Rattle.lpc_rows.specs.Does.{Left, Took}
use Rattle.lpc_rows.specs.Kept.{Kept, is_alive}
use Rattle.lpc_rows.proofs.Dying.{fewer-alive}
use Rattle.lpc_rows.proofs.Lawful.{alive-change}

step-lives : (w : World) (b : Basic) → is_ending b ≡ true → count is_alive (basic w b).threads ≤ count is_alive w.threads
step-lives w (Dies who status) is = fewer-alive who w.threads
step-lives w (Unregisters who b) is = let same = alive-change (unregistering b) (λ t. refl) who w.threads in omega (arith, same)
step-lives w (Awaits x) is = absurd (cc)
step-lives w (Accepts who reply) is = absurd (cc)
step-lives w (DrawsIdentifier who) is = absurd (cc)
step-lives w (DrawsOrdinal who) is = absurd (cc)
step-lives w (Registers who b) is = absurd (cc)
step-lives w (AddsProcess p) is = absurd (cc)
step-lives w (AddsThread t) is = absurd (cc)
step-lives w (Makes p) is = absurd (cc)
step-lives w (Joins client server context) is = absurd (cc)
step-lives w (Completes b) is = absurd (cc)
step-lives w (Frees o) is = absurd (cc)
step-lives w (Binds path node) is = absurd (cc)
step-lives w (AddsHandle pid h) is = absurd (cc)
step-lives w (Acts who own) is = absurd (cc)
step-lives w b is = omega arith

steps-lives : (w : World) (bs : List Basic) → AreEnding bs → count is_alive (world_after w bs).threads ≤ count is_alive w.threads
steps-lives w [] all = omega arith
steps-lives w (b ∷ bs) all =
    let here : is_ending b ≡ true = grind arith in
    let later : every is_ending bs ≡ true = grind arith in
    omega (arith, step-lives w b here, steps-lives (basic w b) bs later)

pub took-lives : (bs : List Basic) (old new : Kept) (before after : Listed) → AreEnding bs → Took bs old new before after → count is_alive new.rows.threads ≤ count is_alive old.rows.threads
took-lives bs old new before after all took = subst (λ v. count is_alive v.threads ≤ count is_alive old.rows.threads) (sym (ap (λ (l : Left). l.world) took)) (steps-lives old.rows bs all)

pub handle-lives : (pid : ℕ) (r : HandleRow) (old new : Kept) (before after : Listed) → Took (close_handle pid r old.rows) old new before after → count is_alive new.rows.threads ≤ count is_alive old.rows.threads
handle-lives pid r old new before after took = took-lives (close_handle pid r old.rows) old new before after (handle-ending pid r old.rows) took
