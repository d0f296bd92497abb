-- A reply that is made: what it is by the kind of the wait, and what it leaves as it was.
use Rattle.std.proofs.Common.{◌≡◌, ◌≤◌, ℕ, [], ◌∷◌, true, false, Option, Some, None, refl, ap, arith}
use Rattle.std.specs.Prelude.{option_and_then}
use Rattle.std.proofs.lemmas.Bool.Decides.{nat_tests}
use Rattle.lpc_base.specs.Rows.{has}
use Rattle.lpc_base.specs.declared.status.TheConstants.{SUCCESS}
use Rattle.lpc_model.specs.Basics.{left_by}
use Rattle.lpc_model.specs.Entering.{woken}
use Rattle.lpc_model.specs.Fields.{msg}
use Rattle.lpc_model.specs.Found.{wait_of, waits_as}
use Rattle.lpc_model.specs.Message.{as_reply}
use Rattle.lpc_model.specs.Raise.{raised_in}
use Rattle.lpc_model.specs.Request.{reply, reply_to_event}
use Rattle.lpc_model.specs.Settle.{has_event, is_event_of}
use Rattle.lpc_model.specs.World.{Accepted, Connect, Event, Listen, Raised, Receive, Request, WaitKind, WaitRow, World}
use Rattle.lpc_model.specs.declared.message.Message.{Message}
use Rattle.lpc_procs.proofs.Stored.{without-fewer}
use Rattle.lpc_request.specs.Replied.{MakesWaits}
use Rattle.lpc_rows.specs.Kept.{Kept}
use Rattle.lpc_rows.specs.Ready.{waiter}
use Rattle.lpc_rows.proofs.Finished.{found-waiter, own-waiter}
use Rattle.lpc_rows.proofs.Raised.{has-found}

-- The exception of a thread that waits is that of its wait
pub raised-of : (w : World) (tid : ℕ) → has (waits_as tid) w.waits ≡ true → option_and_then raised_in (wait_of w tid) ≡ raised_in (waiter w tid)
raised-of w tid there = ap (option_and_then raised_in) (found-waiter w tid there)

-- and it waits for what is made of its event
pub event-there : (w : World) (tid : ℕ) (r : Raised) → has (waits_as tid) w.waits ≡ true → raised_in (waiter w tid) ≡ Some r → has_event w tid ≡ true
event-there w tid r there at =
    let x : WaitRow = waiter w tid in
    let own : waits_as tid x ≡ true = rw (own-waiter w tid there) (grind (arith, nat_tests)) in
    has-found (waits_as tid) (is_event_of tid) w.waits x (found-waiter w tid there) (rw (own) (of-kind x.kind at))
  where
    of-kind : (k : WaitKind) → (elim k [ Event e ↦ Some e | _ ↦ None ]) ≡ Some r → (elim k [ Event e ↦ true | _ ↦ false ]) ≡ true
    of-kind (Event e) at = refl
    of-kind (Request m) at = absurd (cc)
    of-kind Receive at = absurd (cc)
    of-kind Listen at = absurd (cc)
    of-kind (Connect m o) at = absurd (cc)
    of-kind (Accepted m a) at = absurd (cc)

-- A reply to an event, and to a request
abbrev raised-as : WaitKind → Option Raised
raised-as k = elim k [ Event e ↦ Some e | _ ↦ None ]

pub to-event : (x : WaitRow) (m : Message) (r : Raised) → raised_in x ≡ Some r → reply x m ≡ reply_to_event x m
to-event x m r at = of-kind x.kind at
  where
    of-kind : (k : WaitKind) → (elim k [ Event e ↦ Some e | _ ↦ None ]) ≡ Some r → (elim k [ Event e ↦ reply_to_event x m | _ ↦ woken SUCCESS (msg (as_reply m) ∷ []) x ]) ≡ reply_to_event x m
    of-kind (Event e) at = refl
    of-kind (Request q) at = absurd (cc)
    of-kind Receive at = absurd (cc)
    of-kind Listen at = absurd (cc)
    of-kind (Connect q o) at = absurd (cc)
    of-kind (Accepted q a) at = absurd (cc)

pub to-request : (x : WaitRow) (m : Message) → raised_in x ≡ None → reply x m ≡ woken SUCCESS (msg (as_reply m) ∷ []) x
to-request x m none = of-kind x.kind none
  where
    of-kind : (k : WaitKind) → raised-as k ≡ None → (elim k [ Event e ↦ reply_to_event x m | _ ↦ woken SUCCESS (msg (as_reply m) ∷ []) x ]) ≡ woken SUCCESS (msg (as_reply m) ∷ []) x
    of-kind (Event e) none = absurd (cc)
    of-kind (Request q) none = refl
    of-kind Receive none = refl
    of-kind Listen none = refl
    of-kind (Connect q o) none = refl
    of-kind (Accepted q a) none = refl

-- A wait that ends leaves the threads as they were, and makes no wait
pub waking-makes : (old new : Kept) (who : ℕ) → new.rows ≡ left_by who old.rows → new.made ≤ old.made → MakesWaits 0 old new
waking-makes old new who rows made = record {
  threads = ap (λ (w : World). w.threads) rows;
  waits = let fewer = without-fewer (waits_as who) old.rows.waits in rw rows (omega arith);
  made = omega arith;
}
