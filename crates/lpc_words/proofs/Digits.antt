-- Digits that are read one after the other.
use Rattle.std.proofs.Common.{zero, suc, ◌-◌, ◌≡◌, ℕ, ◌+◌, ◌*◌, ◌<◌, ◌≤◌, true, false, List, length, [], ◌∷◌, eqb, take, get_or, refl, arith}
use Rattle.std.specs.Prelude.{nat_le, nat_lt, Some, Ok, Err}
use Rattle.std.specs.Option.{SomeIff}
use Rattle.std.specs.Char.{is_digit, digit_value}
use Rattle.std.specs.Int.{IsInRange}
use Rattle.std.specs.List.{list_all}
use Rattle.std.specs.Str.Parse.{digits_value}
use Rattle.std.proofs.lemmas.Bool.{ne_eqb}
use Rattle.std.proofs.lemmas.Bool.Decides.{nat_tests}
use Rattle.std.proofs.lemmas.Int.Digits.{digits_value_more}
use Rattle.std.proofs.lemmas.List.{get_or-take}
use Rattle.std.proofs.lemmas.List.Folds.{list_all_more}
use Rattle.std.proofs.lemmas.Str.{digit_value_digit}
use Rattle.std.proofs.lemmas.Str.Parse.{digits_value-take-le}
use Rattle.std.proofs.Math.Bool.{and-false}
use Rattle.lpc_model.specs.Words.{digits_word, decimal_word, is_empty, number_word}
use Rattle.lpc_model.specs.declared.fault.LineFault.TheVariants as fault

le_false : {m n : ℕ} → n < m → nat_le m n ≡ false
le_false {m} {n} h = grind (arith, nat_tests)

le_true : {m n : ℕ} → m < n → nat_lt m n ≡ true
le_true {m} {n} h = grind (arith, nat_tests)

-- the next digit of a text, as it is read
pub record NextDigit (base : ℕ) (text : List ℕ) (i digit : ℕ) : Type 0 where
  pub inside : i < length text
  pub is : digit ≡ digit_value (get_or text i 0)
  pub small : digit_value (get_or text i 0) < base

pub next_digit : (base : ℕ) (text : List ℕ) (i code digit : ℕ) → i < length text → code ≡ get_or text i 0 → SomeIff (Some digit) (digit_value code < base) (digit_value code) → NextDigit base text i digit
next_digit base text i code digit h is found = record {
  inside = h;
  is = rw is at found.1;
  small = rw is at found.0;
}

-- one more digit
pub digits_one_more : (base : ℕ) (text : List ℕ) (i digit value radix unit : ℕ) → NextDigit base text i digit → value ≡ digits_value base (take i text) → radix ≡ base → unit ≡ digit → value * radix + unit ≡ digits_value base (take (i + 1) text)
digits_one_more base text i digit value radix unit next so_far r u = let more = digits_value_more base text i next.inside in rw (r, u, so_far, next.is, more) refl

pub all_one_more : (base : ℕ) (text : List ℕ) (i digit : ℕ) → NextDigit base text i digit → list_all (λ d. is_digit d base) (take i text) ≡ true → list_all (λ d. is_digit d base) (take (i + 1) text) ≡ true
all_one_more base text i digit next all =
    let more = list_all_more (λ d. is_digit d base) text i 0 next.inside in
    let here : is_digit (get_or text i 0) base ≡ true = le_true next.small in
    rw (more, all, here) refl

-- a front that is too great makes the whole too great
pub digits_over : (base : ℕ) (text : List ℕ) (i value : ℕ) → 2 ≤ base → value ≡ digits_value base (take i text) → 4294967295 < value → digits_word base text ≡ Err fault.Number
unfolding digits_word
digits_over base text i value b is over =
    let whole = digits_value-take-le base text i (omega arith) in
    let great : nat_le (digits_value base text) 4294967295 ≡ false = le_false (omega arith) in
    rw (great, and-false) refl

-- at most nine decimal digits, of which the first is no zero, spell their number
pub number_spelled : (w : List ℕ) → 49 ≤ get_or w 0 0 → get_or w 0 0 ≤ 57 → list_all (λ d. is_digit d 10) w ≡ true → digits_value 10 w ≤ 999999999 → number_word w ≡ Ok (digits_value 10 w)
unfolding number_word decimal_word digits_word
number_spelled [] low high all small = absurd (omega arith)
number_spelled (b ∷ bs) low high all small =
    let other : eqb 48 b ≡ false = ne_eqb 48 b (λ e. omega arith) in
    let fits : nat_le (digits_value 10 (b ∷ bs)) 4294967295 ≡ true = grind (arith, nat_tests) in
    let some : is_empty (b ∷ bs) ≡ false = grind (arith, nat_tests) in
    rw (other, some, all, fits) refl

-- the next decimal digit of a text
pub next_decimal : (text : List ℕ) (i unit : ℕ) → i < length text → IsInRange 48 57 (get_or text i 0) → unit ≡ get_or text i 0 - 48 → NextDigit 10 text i unit
next_decimal text i unit inside range is =
    let value = digit_value_digit (get_or text i 0) range in
    record { inside = inside; is = omega arith; small = omega arith }

-- where the number of a front isn't zero, its first digit isn't
pub front_kept : (text : List ℕ) (i value unit : ℕ) → (i ≡ 0 → value ≡ 0) → (0 < i → 0 < value) → (0 < value → (49 ≤ get_or text 0 0) × (get_or text 0 0 ≤ 57)) → get_or text i 0 ≤ 57 → unit ≡ get_or text i 0 - 48 → 0 < value * 10 + unit → (49 ≤ get_or text 0 0) × (get_or text 0 0 ≤ 57)
front_kept text zero value unit none some front high is more =
    let no = none refl in
    (omega arith, high)
front_kept text (suc i) value unit none some front high is more = front (some (omega arith))

-- what has a number has a digit
pub some_digit : (i value : ℕ) → (i ≡ 0 → value ≡ 0) → 0 < value → 0 < i
some_digit zero value none some = let no = none refl in omega arith
some_digit (suc i) value none some = omega arith

-- a front of such digits spells what was read of it
pub front_spelled : (text : List ℕ) (i value : ℕ) → (i ≡ 0 → value ≡ 0) → 0 < value → (49 ≤ get_or text 0 0) × (get_or text 0 0 ≤ 57) → list_all (λ d. is_digit d 10) (take i text) ≡ true → value ≤ 999999999 → value ≡ digits_value 10 (take i text) → number_word (take i text) ≡ Ok value
front_spelled text i value none some front all small is =
    let first = get_or-take i text 0 0 (some_digit i value none some) in
    rw is (number_spelled (take i text) (rw first front.0) (rw first front.1) all (rw is at small))
