-- How a source is asked, one read after the other.
use Rattle.std.proofs.Common.{◌≡◌, true, arith, refl, ◌∙◌}
use Rattle.lpc_base.specs.declared.streams.Asked.{Asked}
use Rattle.lpc_replay.specs.Reading.{IsAskedForPieces}

pub asked_nothing : (a : Asked) → IsAskedForPieces a a
asked_nothing a = record { late = λ _. refl; widest = omega arith }

-- a source is asked twice
pub asked_then : (a b c : Asked) → (a.running ≡ true → b.running ≡ true) → IsAskedForPieces a b → IsAskedForPieces b c → IsAskedForPieces a c
asked_then a b c runs one two =
    let before = one.widest in
    let now = two.widest in
    record { late = λ r. two.late (runs r) ∙ one.late r; widest = omega arith }
