-- What contracts see of the source.
use Rattle.std.specs.Prelude.{ℕ}

-- the reader that it stands over, and how many of its calls failed
pub record Counted (S : Type 0) : Type 0 where
  pub stream : S
  pub faults : ℕ
