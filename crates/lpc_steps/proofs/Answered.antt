-- The connect that an answer names is found in the rows.
use Rattle.std.proofs.Common.{◌≡◌, ℕ, Bool, true, false, cond, ◌&&◌, Option, Some, None, MatchOption, option_map, refl, ap, sym, subst, ◌∙◌, arith}
use Rattle.lpc_base.specs.Rows.{first, has}
use Rattle.lpc_message.specs.declared.message.ClientId.{ClientId}
use Rattle.lpc_model.specs.declared.message.Message.{Message}
use Rattle.lpc_model.specs.Connect.{names_connect}
use Rattle.lpc_model.specs.Found.{is_offered, waits_as}
use Rattle.lpc_model.specs.World.{ThreadRow, WaitRow, World}
use Rattle.lpc_steps.specs.Connecting.{is_answered}
use Rattle.lpc_rows.specs.Kept.{is_pending}
use Rattle.lpc_rows.specs.Lawful.{are_single}
use Rattle.lpc_rows.specs.Ready.{waiter}
use Rattle.lpc_rows.proofs.Finds as finds
use Rattle.lpc_steps.proofs.Fits.{none_fits, own_test}
use Rattle.lpc_rows.proofs.Connecting.{received_off}

module _ (w : World) (pid : ℕ) (client : ClientId) (identifier : ℕ) where
  abbrev p : WaitRow → Bool
  p = is_answered w pid client identifier

  answered_off : (x : WaitRow) → p x ≡ true → is_pending x ≡ false
  answered_off x h = received_off x (third _ (is_offered x) x.received _ h)
    where
      third : (a b d e : Bool) → a && (b && (d && e)) ≡ true → d ≡ true
      third true true d e h = grind arith
      third true false d e h = absurd (cc)
      third false b d e h = absurd (cc)

  pub answered_offered : (x : WaitRow) → p x ≡ true → is_offered x ≡ true
  answered_offered x h = second _ (is_offered x) _ h
    where
      second : (a b d : Bool) → a && (b && d) ≡ true → b ≡ true
      second true true d h = refl
      second true false d h = absurd (cc)
      second false b d h = absurd (cc)

  answered_thread : (x : WaitRow) → waits_as client.thread x ≡ false → p x ≡ false
  answered_thread x off = short _ _ _ off
    where
      short : (a b d : Bool) → a ≡ false → (a && b) && d ≡ false
      short true b d e = absurd (cc)
      short false b d e = refl

  -- the wait of the client's thread, where the answer names it
  pub answered_as : are_single w.waits ≡ true → has (waits_as client.thread) w.waits ≡ true → (b : Bool) → b ≡ is_answered w pid client identifier (waiter w client.thread) → finds.IsFound w (is_answered w pid client identifier) (cond b (Some client.thread) None)
  answered_as one there b is = finds.found_wait w p (cond b (Some client.thread) None) one answered_off (ap (λ b. cond b (Some client.thread) None) is ∙ own_test w p client.thread answered_thread one there)

  pub answered_none : are_single w.waits ≡ true → has (waits_as client.thread) w.waits ≡ false → finds.IsFound w (is_answered w pid client identifier) None
  answered_none one none = finds.found_wait w p None one answered_off (sym (ap (λ o. option_map (λ x. x.thread) o) (none_fits p client.thread answered_thread w.waits none)))

-- what is found for each message that names the client and the identifier
pub for_message : (w : World) (by : ThreadRow) (client : ClientId) (identifier : ℕ) (r : Option ℕ) → finds.IsFound w (is_answered w by.process client identifier) r
    → (m : Message) → m.header.client ≡ client → m.header.message_id ≡ identifier → MatchOption r (first (names_connect w by m) w.waits ≡ None) (λ tid. first (names_connect w by m) w.waits ≡ Some (waiter w tid))
for_message w by client identifier r is m one two =
    let Finds : ClientId → ℕ → Type 0 = λ c i. MatchOption r (first (is_answered w by.process c i) w.waits ≡ None) (λ tid. first (is_answered w by.process c i) w.waits ≡ Some (waiter w tid)) in
    subst (λ c. Finds c m.header.message_id) (sym one) (subst (λ i. Finds client i) (sym two) is.found)
