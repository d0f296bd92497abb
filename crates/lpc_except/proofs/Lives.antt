-- An event that is sent makes no thread live, nor does an exception that goes on.
use Rattle.std.proofs.Common.{◌≡◌, ◌≤◌, ℕ, List, [], ◌∷◌, Bool, true, refl, ap, subst, sym, arith}
use Rattle.lpc_base.specs.Rows.{count, every}
use Rattle.lpc_model.specs.Basics.{Accepts, Acts, AddsHandle, AddsProcess, AddsThread, Awaits, Basic, Binds, Completes, Dies, DrawsIdentifier, DrawsOrdinal, Frees, Joins, Makes, Registers, Unregisters, basic, left_by, past_identifier, unregistering, world_after}
use Rattle.lpc_model.specs.Entering.{row_of}
use Rattle.lpc_model.specs.Raise.{Handled, Heard, Hearing, Next, Unhandled, event_message, event_wait, goes_on, raise_steps, send_event}
use Rattle.lpc_model.specs.Tests.{client_of}
use Rattle.lpc_model.specs.World.{Raised, ThreadRow, WaitRow, World}
use Rattle.lpc_model.proofs.Steps.Ending.{AreEnding, ending-enter, is_ending}
use Rattle.lpc_rows.specs.Kept.{is_alive}
use Rattle.lpc_rows.proofs.Dying.{fewer-alive}
use Rattle.lpc_rows.proofs.Lawful.{alive-change}

step-lives : (w : World) (b : Basic) → is_ending b ≡ true → count is_alive (basic w b).threads ≤ count is_alive w.threads
step-lives w (Dies who status) is = fewer-alive who w.threads
step-lives w (Unregisters who b) is = let same = alive-change (unregistering b) (λ t. refl) who w.threads in omega (arith, same)
step-lives w (Awaits x) is = absurd (cc)
step-lives w (Accepts who reply) is = absurd (cc)
step-lives w (DrawsIdentifier who) is = absurd (cc)
step-lives w (DrawsOrdinal who) is = absurd (cc)
step-lives w (Registers who b) is = absurd (cc)
step-lives w (AddsProcess p) is = absurd (cc)
step-lives w (AddsThread t) is = absurd (cc)
step-lives w (Makes p) is = absurd (cc)
step-lives w (Joins client server context) is = absurd (cc)
step-lives w (Completes b) is = absurd (cc)
step-lives w (Frees o) is = absurd (cc)
step-lives w (Binds path node) is = absurd (cc)
step-lives w (AddsHandle pid h) is = absurd (cc)
step-lives w (Acts who own) is = absurd (cc)
step-lives w b is = omega arith

steps-lives : (w : World) (bs : List Basic) → AreEnding bs → count is_alive (world_after w bs).threads ≤ count is_alive w.threads
steps-lives w [] all = omega arith
steps-lives w (b ∷ bs) all =
    let here : is_ending b ≡ true = grind arith in
    let later : every is_ending bs ≡ true = grind arith in
    omega (arith, step-lives w b here, steps-lives (basic w b) bs later)

pub sent-lives : (t : ThreadRow) (code : ℕ) (handled : Bool) (h : Hearing) (w : World) → count is_alive (world_after w (send_event t code handled h w)).threads ≤ count is_alive w.threads
sent-lives t code handled h w =
    let v : World = basic (basic w (DrawsIdentifier t.number)) (Awaits (event_wait t code handled h)) in
    let row = row_of h.queue h.port (event_message (client_of t) t.next_identifier code h.chance) in
    let drawn = alive-change past_identifier (λ s. refl) t.number w.threads in
    let entered = steps-lives v (Rattle.lpc_model.specs.Entering.enter row v) (ending-enter row v) in
    omega (arith, drawn, entered)

pub raised-lives : (t : ThreadRow) (code : ℕ) (handled : Bool) (h : Hearing) (w : World) → count is_alive (world_after w (raise_steps t code handled (Heard h) w)).threads ≤ count is_alive w.threads
raised-lives t code handled h w = sent-lives t code handled h w

pub goes-lives : (t : ThreadRow) (x : WaitRow) (r : Raised) (n : Next) (w : World) → count is_alive (world_after w (goes_on t x r n w)).threads ≤ count is_alive w.threads
goes-lives t x r Handled w = omega arith
goes-lives t x r (Heard h) w = sent-lives t r.code r.handled h (left_by x.thread w)
goes-lives t x r Unhandled w = omega arith
