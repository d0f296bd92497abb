-- The threads of each process, as they are kept. No public clause cites this module.
use Rattle.std.specs.Prelude.{ℕ, ◌≡◌, ◌==◌, ◌&&◌, ◌++◌, ◌∷◌, [], Bool, true, List, if◌then◌else◌, nat_le, nat_lt}
use Rattle.lpc_base.specs.Rows.{every, which}
use Rattle.lpc_procs.specs.declared.members.Member.{Member}

-- the threads with their processes' ranks, and whether each was put among them
pub record Members : Type 0 where
  pub rows : List Member
  pub whole : Bool

-- a thread of the process of a rank; one of a process before it, and one of such a process or of this one
abbrev pub is_of_rank : ℕ → Member → Bool
is_of_rank rank m = m.rank == rank

abbrev pub comes_before : ℕ → Member → Bool
comes_before rank m = nat_lt m.rank rank

abbrev pub comes_within : ℕ → Member → Bool
comes_within rank m = nat_le m.rank rank

-- the thread of the number, and the same of the process of a rank
abbrev pub names_thread : ℕ → Member → Bool
names_thread tid m = m.thread == tid

abbrev pub is_member : ℕ → ℕ → Member → Bool
is_member rank tid m = is_of_rank rank m && names_thread tid m

-- no process comes behind one of a greater rank
abbrev pub rise : List Member → Bool
rise [] = true
rise (m ∷ ms) = every (λ other. nat_le m.rank other.rank) ms && rise ms

-- the thread comes behind those of its process, as long as each was put among them
pub record Enters (rank tid : ℕ) (old new : Members) : Type 0 where
  pub whole : old.whole ≡ true
  pub rows : (other : ℕ) → which (is_of_rank other) new.rows ≡ which (is_of_rank other) old.rows ++ (if other == rank then (record { rank = rank; thread = tid }) ∷ [] else [])
