-- How many keys pass, as they come and go.
use Rattle.std.proofs.Common.{◌≡◌, ◌+◌, ◌-◌, ◌≤◌, ◌||◌, ◌&&◌, ℕ, Bool, true, false, cond, not, length, List, [], ◌∷◌, Some, refl, sym, ap, ◌∙◌, arith}
use Rattle.std.specs.Prelude.{if◌then◌else◌}
use Rattle.lpc_base.specs.Rows.{count, first, has, without_first}
use Rattle.lpc_base.proofs.RowWords.{count-has, length-without_first}
use Rattle.lpc_homes.specs.Held.{AreSoMany}
use Rattle.lpc_homes.proofs.Counted.{count-cons, row-less}
use Rattle.lpc_slots.specs.Table.{is_key}
use Rattle.lpc_slots.specs.declared.Key.{Key}
use Rattle.lpc_slots.proofs.Keys.{key_is}

-- a key that is counted is among the keys
found : (x : Key) (keys : List Key) → 1 ≤ count (is_key x) keys → first (is_key x) keys ≡ Some x
found x [] some = absurd (omega (arith, some))
found x (y ∷ keys) some = by (is_key x y) refl (found x keys)
  where
    by : (b : Bool) → is_key x y ≡ b → (1 ≤ count (is_key x) keys → first (is_key x) keys ≡ Some x) → first (is_key x) (y ∷ keys) ≡ Some x
    by true same later = ap (λ b. cond b (Some y) (first (is_key x) keys)) same ∙ ap Some (sym (key_is x y same))
    by false off later = ap (λ b. cond b (Some y) (first (is_key x) keys)) off ∙ later (omega (arith, some, count-cons (is_key x) y keys, ap {B = ℕ} (λ b. cond b 1 0) off))

module _ (P Q : Key → Bool) (n : ℕ) (many : AreSoMany P n) where
  -- the same keys pass
  pub as_many : ((k : Key) → Q k ≡ P k) → AreSoMany Q n
  as_many same = record {
    keys = many.keys;
    each_once = λ k. many.each_once k ∙ ap {B = ℕ} (λ b. if b then 1 else 0) (sym (same k));
    number = many.number;
  }

  -- one comes to them
  pub one_comes : (x : Key) → P x ≡ false → ((k : Key) → Q k ≡ (is_key k x || P k)) → AreSoMany Q (n + 1)
  one_comes x off new = record {
    keys = x ∷ many.keys;
    each_once = λ k. by k (is_key k x) refl;
    number = omega (arith, many.number);
  }
    where
      by : (k : Key) (b : Bool) → is_key k x ≡ b → count (is_key k) (x ∷ many.keys) ≡ (if Q k then 1 else 0)
      by k true here =
          let same : k ≡ x = key_is k x here in
          let none : (if P k then 1 else 0) ≡ 0 = ap {B = ℕ} (λ j. if P j then 1 else 0) same ∙ ap {B = ℕ} (λ b. if b then 1 else 0) off in
          let one : (if Q k then 1 else 0) ≡ 1 = ap {B = ℕ} (λ b. if b then 1 else 0) (new k ∙ ap (λ b. b || P k) here) in
          omega (arith, count-cons (is_key k) x many.keys, ap {B = ℕ} (λ b. cond b 1 0) here, many.each_once k, none, one)
      by k false apart =
          let same : (if Q k then 1 else 0) ≡ (if P k then 1 else 0) = ap {B = ℕ} (λ b. if b then 1 else 0) (new k ∙ ap (λ b. b || P k) apart) in
          omega (arith, count-cons (is_key k) x many.keys, ap {B = ℕ} (λ b. cond b 1 0) apart, many.each_once k, same)

  -- one of them goes
  pub one_goes : (x : Key) → P x ≡ true → ((k : Key) → Q k ≡ (not (is_key k x) && P k)) → AreSoMany Q (n - 1)
  one_goes x on new = left (found x many.keys (omega (arith, many.each_once x, ap {B = ℕ} (λ b. if b then 1 else 0) on)))
    where
      by : (k : Key) → first (is_key x) many.keys ≡ Some x → (b : Bool) → is_key k x ≡ b → count (is_key k) (without_first (is_key x) many.keys) ≡ (if Q k then 1 else 0)
      by k is true here =
          let same : k ≡ x = key_is k x here in
          let one : (if P k then 1 else 0) ≡ 1 = ap {B = ℕ} (λ j. if P j then 1 else 0) same ∙ ap {B = ℕ} (λ b. if b then 1 else 0) on in
          let none : (if Q k then 1 else 0) ≡ 0 = ap {B = ℕ} (λ b. if b then 1 else 0) (new k ∙ ap (λ b. not b && P k) here) in
          omega (arith, row-less (is_key k) (is_key x) many.keys x is, ap {B = ℕ} (λ b. cond b 1 0) here, many.each_once k, none, one)
      by k is false apart =
          let same : (if Q k then 1 else 0) ≡ (if P k then 1 else 0) = ap {B = ℕ} (λ b. if b then 1 else 0) (new k ∙ ap (λ b. not b && P k) apart) in
          omega (arith, row-less (is_key k) (is_key x) many.keys x is, ap {B = ℕ} (λ b. cond b 1 0) apart, many.each_once k, same)

      left : first (is_key x) many.keys ≡ Some x → AreSoMany Q (n - 1)
      left is = record {
        keys = without_first (is_key x) many.keys;
        each_once = λ k. by k is (is_key k x) refl;
        number = omega (arith, length-without_first (is_key x) many.keys x is, many.number);
      }

-- no key passes
pub none_pass : (P : Key → Bool) → ((k : Key) → P k ≡ false) → AreSoMany P 0
none_pass P off = record { keys = []; each_once = λ k. ap {B = ℕ} (λ b. if b then 1 else 0) (sym (off k)); number = refl }

-- where keys have room among no more others, they are the others
others_counted : (keys others : List Key) → ((k : Key) → count (is_key k) keys ≤ count (is_key k) others) → length others ≤ length keys → (k : Key) → count (is_key k) others ≤ count (is_key k) keys
others_counted [] [] le few k = omega arith
others_counted [] (y ∷ others) le few k = absurd (omega (arith, few))
others_counted (x ∷ keys) others le few k =
    let self : is_key x x ≡ true = own x in
    let is : first (is_key x) others ≡ Some x = found x others (omega (arith, le x, count-cons (is_key x) x keys, ap {B = ℕ} (λ b. cond b 1 0) self)) in
    let left = without_first (is_key x) others in
    let rest : (j : Key) → count (is_key j) keys ≤ count (is_key j) left = λ j. omega (arith, le j, count-cons (is_key j) x keys, row-less (is_key j) (is_key x) others x is) in
    let short : length left ≤ length keys = omega (arith, few, length-without_first (is_key x) others x is) in
    omega (arith, others_counted keys left rest short k, count-cons (is_key k) x keys, row-less (is_key k) (is_key x) others x is)
  where
    own : (x : Key) → is_key x x ≡ true
    own x = grind arith

-- where as many pass as there are keys, and no other key passes, each of them does
pub all_pass : (P : Key → Bool) (n : ℕ) (keys : List Key) → AreSoMany P n → n ≡ length keys → ((k : Key) → P k ≡ true → has (is_key k) keys ≡ true) → (k : Key) → has (is_key k) keys ≡ true → P k ≡ true
all_pass P n keys many same among k there = by (P k) refl
  where
    le : (j : Key) → (b : Bool) → P j ≡ b → count (is_key j) many.keys ≤ count (is_key j) keys
    le j true on = omega (arith, many.each_once j, ap {B = ℕ} (λ b. if b then 1 else 0) on, count-has (is_key j) keys (among j on))
    le j false off = omega (arith, many.each_once j, ap {B = ℕ} (λ b. if b then 1 else 0) off)

    by : (b : Bool) → P k ≡ b → P k ≡ true
    by true on = on
    by false off =
        let all = others_counted many.keys keys (λ j. le j (P j) refl) (omega (arith, same, many.number)) k in
        absurd (omega (arith, all, many.each_once k, ap {B = ℕ} (λ b. if b then 1 else 0) off, count-has (is_key k) keys there))
