-- A thread that drew stands still, and the birth of what it makes next is the same after it drew an identifier.
use Rattle.std.proofs.Common.{◌≡◌, ℕ, List, [], ◌∷◌, option_map, refl, arith}
use Rattle.lpc_base.specs.Rows.{change, first, has}
use Rattle.lpc_base.proofs.RowWords.{has-change}
use Rattle.lpc_model.specs.Basics.{past_identifier, past_ordinal}
use Rattle.lpc_model.specs.Found.{is_live_thread, is_thread}
use Rattle.lpc_model.specs.Tests.{next_birth}
use Rattle.lpc_model.specs.World.{ThreadRow}

pub stands_behind_identifier : (n : ℕ) (ts : List ThreadRow) → has (is_thread n) (change (is_thread n) past_identifier ts) ≡ has (is_thread n) ts
stands_behind_identifier n ts = has-change (is_thread n) (is_thread n) past_identifier (λ t. refl) ts

pub stands_behind_ordinal : (n : ℕ) (ts : List ThreadRow) → has (is_thread n) (change (is_thread n) past_ordinal ts) ≡ has (is_thread n) ts
stands_behind_ordinal n ts = has-change (is_thread n) (is_thread n) past_ordinal (λ t. refl) ts

pub lives_behind_identifier : (n : ℕ) (ts : List ThreadRow) → has (is_live_thread n) (change (is_thread n) past_identifier ts) ≡ has (is_live_thread n) ts
lives_behind_identifier n ts = has-change (is_live_thread n) (is_thread n) past_identifier (λ t. refl) ts

pub lives_behind_ordinal : (n : ℕ) (ts : List ThreadRow) → has (is_live_thread n) (change (is_thread n) past_ordinal ts) ≡ has (is_live_thread n) ts
lives_behind_ordinal n ts = has-change (is_live_thread n) (is_thread n) past_ordinal (λ t. refl) ts

pub birth_behind_identifier : (n : ℕ) (ts : List ThreadRow) → option_map next_birth (first (is_thread n) (change (is_thread n) past_identifier ts)) ≡ option_map next_birth (first (is_thread n) ts)
birth_behind_identifier n [] = refl
birth_behind_identifier n (t ∷ ts) = grind (arith, birth_behind_identifier n ts)
