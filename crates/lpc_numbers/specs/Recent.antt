-- What was changed last, by spots.
use Rattle.std.specs.Prelude.{ℕ, ◌≡◌, ◌==◌, ◌⊎◌, Bool, true, List, [], option_map, if◌then◌else◌, replicate, slice_get, IfSome}

-- the spots stay as they were; or there was none, and now the same answer stands at each
abbrev pub Opens : {E : Type 0} → E → List E → List E → Type 0
Opens blank old new = (new ≡ old) ⊎ ((old ≡ []) × ((n : ℕ) × (new ≡ replicate n blank)))

-- an answer stands at a spot, where there is such a spot, and the others stay as they were
abbrev pub Notes : {E : Type 0} → ℕ → E → List E → List E → Type 0
Notes spot answer old new = (i : ℕ) → slice_get new i ≡ (if i == spot then option_map (λ _. answer) (slice_get old i) else slice_get old i)

-- the answer that stands at a key's spot, where it is this key's, is the one that the key has
abbrev pub AreRight : {K V : Type 0} → (K → ℕ) → (K → K → Bool) → (K → V) → List (K × V) → Type 0
AreRight spot same answer recent = (k : _) → IfSome (slice_get recent (spot k)) (λ e. same e.0 k ≡ true → e.1 ≡ answer k)
