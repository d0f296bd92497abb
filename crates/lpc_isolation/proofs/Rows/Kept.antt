-- What a world of a run keeps.
use Rattle.std.proofs.Common.{◌≡◌, ℕ, true, Option, Some, None, refl}
use Rattle.std.specs.Prelude.{◌==◌}
use Rattle.lpc_base.specs.Rows.{passes}
use Rattle.lpc_base.proofs.RowWords.{every-more}
use Rattle.lpc_base.proofs.Bools.{first-true}
use Rattle.lpc_model.specs.World.{ThreadRow, WaitRow, World}
use Rattle.lpc_model.specs.Found.{live_thread}
use Rattle.lpc_model.specs.Tests.{is_client}
use Rattle.lpc_model.specs.SoundWaits.{HasSoundWaits, is_sound_wait, waiter_of}
use Rattle.lpc_model.specs.Circle.{Group}
use Rattle.lpc_isolation.proofs.Rows.Fair.{Fair}
use Rattle.lpc_isolation.proofs.Views.Seen.{live-owner}
use Rattle.lpc_isolation.proofs.Views.Apart.{Owned, is_owned}

-- Waits are of the owners of their threads
client-owner : (m : Group) (c : ℕ) (w : World) (x : WaitRow) → Fair m c w → is_client w (waiter_of x) ≡ true → is_owned w x ≡ true
client-owner m c w x f is = at (live_thread w x.thread) refl is
  where
    at : (o : Option ThreadRow) → live_thread w x.thread ≡ o → passes o (λ (t : ThreadRow). t.process == x.process) ≡ true → is_owned w x ≡ true
    at None none is = absurd (cc)
    at (Some t) some is = rw (live-owner m c w x.thread t f some) is

pub owned-sound : (m : Group) (c : ℕ) (w : World) → Fair m c w → HasSoundWaits w → Owned w w
owned-sound m c w f s = every-more (is_sound_wait w) (is_owned w) (λ x is. client-owner m c w x f (first-true _ _ is)) w.waits s
