-- What a thread makes next has a birth that no port has.
use Rattle.std.proofs.Common.{◌≡◌, ℕ, Bool, true, false, not, Some, refl, subst, arith}
use Rattle.std.specs.Prelude.{◌||◌, ◌==◌, nat_lt}
use Rattle.std.proofs.lemmas.Bool.Decides.{nat_tests}
use Rattle.lpc_base.specs.Rows.{every}
use Rattle.lpc_base.proofs.RowWords.{every-more}
use Rattle.lpc_base.proofs.Births.{birth-same}
use Rattle.lpc_model.specs.World.{Birth, PortRow, ThreadRow, World}
use Rattle.lpc_model.specs.Found.{is_port, live_thread}
use Rattle.lpc_model.specs.Tests.{next_birth}
use Rattle.lpc_model.specs.SoundWaits.{IsSoundWorld, is_past}

-- no port has the birth
abbrev pub is_new : Birth → PortRow → Bool
is_new n p = not (is_port n p)

-- what a thread makes next is new
past-new : (p : PortRow) (by : ThreadRow) → (not (p.birth.maker == by.number) || nat_lt p.birth.ordinal by.next_ordinal) ≡ true → is_new (next_birth by) p ≡ true
past-new p by past = at (is_port (next_birth by) p) refl
  where
    at : (e : Bool) → is_port (next_birth by) p ≡ e → not e ≡ true
    at true is =
        let same : p.birth ≡ next_birth by = birth-same p.birth (next_birth by) is in
        let bad : (not (by.number == by.number) || nat_lt by.next_ordinal by.next_ordinal) ≡ true = subst (λ (b : Birth). (not (b.maker == by.number) || nat_lt b.ordinal by.next_ordinal) ≡ true) same past in
        grind (arith, nat_tests)
    at false off = refl

pub next-new : (u : World) (tid : ℕ) (by : ThreadRow) → IsSoundWorld u → live_thread u tid ≡ Some by → every (is_new (next_birth by)) u.ports ≡ true
next-new u tid by s live = every-more (λ p. is_past p by) (is_new (next_birth by)) (λ p past. past-new p by past) u.ports (s.ordinals tid by live)
