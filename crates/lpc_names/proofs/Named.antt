-- The name of an item, where it was found.
use Rattle.std.proofs.Common.{◌≡◌, sym, ap, ℕ, zero, suc, ◌<◌, Bool, true, false, cond, [], ◌∷◌, ◌++◌, length, take, drop, remove, slice_get, arith}
use Rattle.std.specs.Option.{option_map_or}
use Rattle.lpc_names.specs.Walk.{Bindings}
use Rattle.lpc_names.specs.Binding.{is_name, has_name, without_name}

module _ {T : Type 0} (same : T → T → Bool) (item : T) where
  pub record IsNameAt (bindings : Bindings T) (i : ℕ) : Type 0 where
    pub named : has_name same item (drop i bindings) ≡ true
    pub removed : take i bindings ++ without_name same item (drop i bindings) ≡ remove bindings i

  pub name-at : (bindings : Bindings T) (i : ℕ) → option_map_or (is_name same item) (slice_get bindings i) false ≡ true → IsNameAt bindings i
  name-at [] i h = absurd (cc)
  name-at (b ∷ bs) zero h = record {
    named = ap (λ t. cond t true (has_name same item bs)) h;
    removed = ap (λ t. cond t bs (b ∷ without_name same item bs)) h;
  }
  name-at (b ∷ bs) (suc i) h = let r = name-at bs i h in record { named = r.named; removed = ap (λ rest. b ∷ rest) r.removed }

  pub record IsOtherAt (bindings : Bindings T) (i : ℕ) : Type 0 where
    pub named : has_name same item (drop (suc i) bindings) ≡ has_name same item (drop i bindings)
    pub kept : take (suc i) bindings ++ without_name same item (drop (suc i) bindings) ≡ take i bindings ++ without_name same item (drop i bindings)

  pub other-at : (bindings : Bindings T) (i : ℕ) → i < length bindings → option_map_or (is_name same item) (slice_get bindings i) false ≡ false → IsOtherAt bindings i
  other-at [] i within h = absurd (omega arith)
  other-at (b ∷ bs) zero within h = record {
    named = ap (λ t. cond t true (has_name same item bs)) (sym h);
    kept = ap (λ t. cond t bs (b ∷ without_name same item bs)) (sym h);
  }
  other-at (b ∷ bs) (suc i) within h = let r = other-at bs i (omega arith) h in record { named = r.named; kept = ap (λ rest. b ∷ rest) r.kept }
