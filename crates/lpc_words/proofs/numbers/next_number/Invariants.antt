use Rattle.std.proofs.Common.{◌≡◌, ℕ, ◌<◌, ◌≤◌, get_or, take, true}
use Rattle.std.specs.Char.{is_digit}
use Rattle.std.specs.List.{list_all}
use Rattle.std.specs.Str.Parse.{digits_value}
use Rattle.lpc_words.proofs.numbers.next_number.Given as goal

abbrev pub invariant-loop-i : goal.invariant-loop-i
invariant-loop-i l = record {
  value : l.value ≡ digits_value 10 (take l.i l.text);
  digits : list_all (λ d. is_digit d 10) (take l.i l.text) ≡ true;
  spaceless : (k : ℕ) → k < l.i → get_or l.text k 0 ≡ 32 → ⊥;
  none : l.i ≡ 0 → l.value ≡ 0;
  front : 0 < l.value → (49 ≤ get_or l.text 0 0) × (get_or l.text 0 0 ≤ 57);
  some : 0 < l.i → 0 < l.value;
  small : l.value ≤ 999999999;
}
