-- Answers that are kept by spots, as further ones come.
use Rattle.std.proofs.Common.{◌≡◌, ◌==◌, ℕ, List, Bool, true, false, Option, None, Some, option_map, replicate, slice_get, refl, sym, ap, subst, ◌∙◌, inl, inr, zero, suc, arith}
use Rattle.std.specs.Prelude.{IfSome, if◌then◌else◌}
use Rattle.std.proofs.lemmas.Bool.{cases_Bool}
use Rattle.std.proofs.lemmas.Bool.Decides.{nat_tests}
use Rattle.lpc_numbers.specs.Recent.{AreRight, Notes, Opens}

replicated : {E : Type 0} (e : E) (n i : ℕ) → IfSome (slice_get (replicate n e) i) (λ x. x ≡ e)
replicated e zero i = tt
replicated e (suc n) zero = refl
replicated e (suc n) (suc i) = replicated e n i

module _ {K V : Type 0} (spot : K → ℕ) (same : K → K → Bool) where
  abbrev IsRight : (K → V) → K → Option (K × V) → Type 0
  IsRight answer k o = IfSome o (λ e. same e.0 k ≡ true → e.1 ≡ answer k)

  -- the answer of one key stands at its spot, and no other has changed
  pub right-noted : ((a b : K) → same a b ≡ true → a ≡ b) → (answer answer' : K → V) (recent recent' : List (K × V)) (key : K) (v : V) → v ≡ answer' key
      → AreRight spot same answer recent → Notes (spot key) (key, v) recent recent' → ((k : K) → same key k ≡ false → answer' k ≡ answer k) → AreRight spot same answer' recent'
  right-noted law answer answer' recent recent' key v is right notes others k =
      subst (IsRight answer' k) (sym (notes (spot k))) (by (spot k == spot key) (slice_get recent (spot k)) apart (right k))
    where
      apart : (spot k == spot key) ≡ false → same key k ≡ false
      apart off = elim (cases_Bool (same key k)) [
        | inl on ↦ let e : spot key ≡ spot k = ap spot (law key k on) in absurd (grind (arith, nat_tests, off, e))
        | inr other ↦ other
      ]

      by : (c : Bool) (o : Option (K × V)) → (c ≡ false → same key k ≡ false) → IsRight answer k o → IsRight answer' k (if c then option_map (λ _. (key, v)) o else o)
      by true None off r = tt
      by true (Some e) off r = λ on. is ∙ ap answer' (law key k on)
      by false None off r = tt
      by false (Some e) off r = λ on. r on ∙ sym (others k (off refl))

  -- the spots are made while each key has the same answer
  pub right-opened : (answer : K → V) (recent recent' : List (K × V)) (key : K) (v : V) → ((k : K) → v ≡ answer k) → AreRight spot same answer recent → Opens (key, v) recent recent' → AreRight spot same answer recent'
  right-opened answer recent recent' key v all right (inl still) = subst (AreRight spot same answer) (sym still) right
  right-opened answer recent recent' key v all right (inr (none, (n, is))) =
      λ k. subst (λ r. IsRight answer k (slice_get r (spot k))) (sym is) (by k (slice_get (replicate n (key, v)) (spot k)) (replicated (key, v) n (spot k)))
    where
      by : (k : K) (o : Option (K × V)) → IfSome o (λ x. x ≡ (key, v)) → IsRight answer k o
      by k None r = tt
      by k (Some e) r = λ on. ap (λ x. x.1) r ∙ all k
