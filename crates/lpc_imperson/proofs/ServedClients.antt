-- The wait of a server port's client that a message names is found in the rows.
use Rattle.std.proofs.Common.{◌≡◌, Bool, true, false, cond, ◌&&◌, Some, None, option_map, refl, ap, sym, ◌∙◌, arith}
use Rattle.lpc_base.specs.Rows.{has}
use Rattle.lpc_model.specs.Found.{waits_as}
use Rattle.lpc_model.specs.Impersonation.{is_served_by}
use Rattle.lpc_model.specs.World.{PortRow, WaitRow, World}
use Rattle.lpc_model.specs.declared.message.Message.{Message}
use Rattle.lpc_rows.specs.Kept.{is_pending}
use Rattle.lpc_rows.specs.Lawful.{are_single}
use Rattle.lpc_rows.specs.Ready.{waiter}
use Rattle.lpc_rows.proofs.Connecting.{received_off}
use Rattle.lpc_rows.proofs.Finds as finds
use Rattle.lpc_steps.proofs.Fits.{none_fits, own_test}

module _ (w : World) (port : PortRow) (m : Message) where
  abbrev p : WaitRow → Bool
  p = is_served_by port m

  served_off : (x : WaitRow) → p x ≡ true → is_pending x ≡ false
  served_off x h = received_off x (third _ _ x.received _ h)
    where
      third : (a b d e : Bool) → a && (b && (d && e)) ≡ true → d ≡ true
      third true true d e h = grind arith
      third true false d e h = absurd (cc)
      third false b d e h = absurd (cc)

  served_thread : (x : WaitRow) → waits_as m.header.client.thread x ≡ false → p x ≡ false
  served_thread x off = short _ _ _ off
    where
      short : (a b d : Bool) → a ≡ false → (a && b) && d ≡ false
      short true b d e = absurd (cc)
      short false b d e = refl

  -- the wait of the client's thread, where the message names it
  pub served_as : are_single w.waits ≡ true → has (waits_as m.header.client.thread) w.waits ≡ true → (b : Bool) → b ≡ is_served_by port m (waiter w m.header.client.thread) → finds.IsFound w (is_served_by port m) (cond b (Some m.header.client.thread) None)
  served_as one there b is = finds.found_wait w p (cond b (Some m.header.client.thread) None) one served_off (ap (λ b. cond b (Some m.header.client.thread) None) is ∙ own_test w p m.header.client.thread served_thread one there)

  pub served_none : are_single w.waits ≡ true → has (waits_as m.header.client.thread) w.waits ≡ false → finds.IsFound w (is_served_by port m) None
  served_none one none = finds.found_wait w p None one served_off (sym (ap (λ o. option_map (λ x. x.thread) o) (none_fits p m.header.client.thread served_thread w.waits none)))
