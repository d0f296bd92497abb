-- Registrations by the tags of their ports' names, as they are counted. No public clause cites this module.
use Rattle.std.specs.Prelude.{ℕ, ◌≡◌, ◌+◌, ◌*◌, ◌%◌, ◌^◌, ◌==◌, Bool, true, List}
use Rattle.lpc_base.specs.Rows.{count}
use Rattle.lpc_base.specs.declared.birth.Birth.{Birth}
use Rattle.lpc_numbers.specs.Tally.{Tally, count_in}
use Rattle.lpc_procs.specs.declared.rows.Registration.{Registration}

-- a number of a name, which names of other makers may have too
abbrev pub tag_of : Birth → ℕ
tag_of b = ((b.maker * 65599) % 2 ^ 32 + b.ordinal) % 2 ^ 32

-- a registration is of a port whose name has the tag
abbrev pub is_tagged : ℕ → Registration → Bool
is_tagged n r = tag_of r.birth == n

-- under each tag stands how many registrations have it, where each was counted
abbrev pub AreTagged : List Registration → Tally → Type 0
AreTagged registrations tally = tally.whole ≡ true → (n : ℕ) → count_in tally.entries n ≡ count (is_tagged n) registrations

-- other registrations take the place of these
pub record Retags (were are : List Registration) (old new : Tally) : Type 0 where
  pub whole : old.whole ≡ true
  pub counts : (n : ℕ) → count_in new.entries n + count (is_tagged n) were ≡ count_in old.entries n + count (is_tagged n) are
