-- A reply call that is refused: its one entry, and that it is all.
use Rattle.std.proofs.Common.{Bool, List, [], false, refl, true, ℕ, ◌++◌, ◌∷◌, ◌≡◌}
use Rattle.std.specs.Prelude.{None, Some, not, option_and_then, ◌&&◌}
use Rattle.lpc_base.specs.declared.birth.Birth.{Birth}
use Rattle.lpc_base.specs.declared.status.TheConstants.{INVALID_CID, REPLY_MESSAGE_MISMATCH}
use Rattle.lpc_model.specs.Basics.{Basic, Tells, entries_of}
use Rattle.lpc_model.specs.Found.{fitted, handle_at, live_thread}
use Rattle.lpc_model.specs.Replies.{IsRefused, Reply, fitted_wait, is_refusal, message_in, port_of}
use Rattle.lpc_model.specs.Request.{reply_test}
use Rattle.lpc_model.specs.Tests.{client_test, is_client}
use Rattle.lpc_model.specs.World.{PortRow, ThreadRow, WaitRow, World}
use Rattle.lpc_model.specs.declared.entry.Entry.{Entry}
use Rattle.lpc_model.specs.declared.message.Message.{Message}
use Rattle.lpc_replay.proofs.Failing.{Fails, bind_ends, found_fails, refuse_fails}

pub answered_fails : (w : World) (port : PortRow) (m : Message) → Fails (reply_test w port m)
answered_fails w port m =
    bind_ends (client_test w m.header.client) _ (λ (x : WaitRow). Unit {0}) (refuse_fails (not (is_client w m.header.client)) INVALID_CID refl) (λ _ _.
    found_fails (fitted w port.birth m) REPLY_MESSAGE_MISMATCH refl)

-- one entry, which refuses the thread's call
abbrev pub OneRefusal : ℕ → List Basic → Type 0
OneRefusal tid bs = (e : Entry) × (is_refusal tid e ≡ true) × (bs ≡ Tells e ∷ [])

-- a reply that isn't refused fits
pub no_fit : (w : World) (r : Reply) (by : ThreadRow) (port : Birth) (m : Message) (x : WaitRow) → live_thread w r.by ≡ Some by → option_and_then port_of (handle_at w by.process r.handle) ≡ Some port → message_in r ≡ Some m → fitted_wait w r ≡ None → fitted w port m ≡ Some x → ⊥
no_fit w r by port m x live at is misfit fit = let none : fitted w port m ≡ None = rw (live, at, is) at misfit in absurd (cc)

-- where the thread's own entry is a refusal, whatever comes behind the steps, it is all of them
abbrev pub StaysWhereRefused : ℕ → List Basic → Type 0
StaysWhereRefused tid bs =
    (later : List Basic) → IsRefused tid (entries_of (bs ++ later)) → (e : Entry) × (bs ≡ Tells e ∷ [])

pub no_success : (b : Bool) → (b && false) ≡ true → ⊥
no_success true h = absurd (cc)
no_success false h = absurd (cc)
