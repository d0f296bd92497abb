-- The steps by which a message is taken, by a call or by the thread that waits for it as it enters.
use Rattle.lpc_base.proofs.RowWords.{every-append}
use Rattle.lpc_base.specs.Rows.{every, first, given, when}
use Rattle.lpc_base.specs.declared.status.TheConstants.{SUCCESS}
use Rattle.lpc_model.proofs.Sound.Worlds.{by_kind}
use Rattle.lpc_model.specs.Basics.{Basic, Receives, Takes, TakesConnect, Wakes}
use Rattle.lpc_model.specs.Entering.{given_steps, received_steps, shown, takes, woken}
use Rattle.lpc_model.specs.Message.{asks}
use Rattle.lpc_model.specs.World.{MessageRow, WaitRow, World}
use Rattle.std.proofs.Common.{Bool, List, None, Option, Some, [], false, refl, true, ◌++◌, ◌∷◌, ◌≡◌}

abbrev pub is_taking : Basic → Bool
is_taking (Takes queue) = true
is_taking (TakesConnect queue) = true
is_taking (Receives who queue) = true
is_taking (Wakes who call status fields) = true
is_taking b = false

abbrev AreTaking : List Basic → Type 0
AreTaking bs = every is_taking bs ≡ true

pub taking-receipt : (m : MessageRow) → AreTaking (received_steps m)
taking-receipt m = at (asks m.message)
  where
    at : (a : Bool) → AreTaking (when a (Receives m.message.header.client.thread m.queue ∷ []))
    at true = refl
    at false = refl

waiter-takes : (m : MessageRow) (x : WaitRow) → AreTaking (given_steps x m ++ woken SUCCESS (shown x m) x ∷ [])
waiter-takes m x =
    by_kind (λ x. AreTaking (given_steps x m ++ woken SUCCESS (shown x m) x ∷ []))
    (λ x r. every-append is_taking (received_steps m) _ (taking-receipt m) refl)
    (λ x. every-append is_taking (received_steps m) _ (taking-receipt m) refl)
    (λ x. every-append is_taking (received_steps m) _ (taking-receipt m) refl)
    (λ x r offer. every-append is_taking (received_steps m) _ (taking-receipt m) refl)
    (λ x r reply. every-append is_taking (received_steps m) _ (taking-receipt m) refl)
    (λ x r. every-append is_taking (received_steps m) _ (taking-receipt m) refl) x

-- what a message that enters is taken by at once
abbrev pub taken_at_once : MessageRow → World → List Basic
taken_at_once m w = given (first (takes m) w.waits) (λ x. given_steps x m ++ woken SUCCESS (shown x m) x ∷ [])

pub taking-entered : (m : MessageRow) (w : World) → AreTaking (taken_at_once m w)
taking-entered m w = at (first (takes m) w.waits)
  where
    at : (o : Option WaitRow) → AreTaking (given o (λ x. given_steps x m ++ woken SUCCESS (shown x m) x ∷ []))
    at None = refl
    at (Some x) = waiter-takes m x
