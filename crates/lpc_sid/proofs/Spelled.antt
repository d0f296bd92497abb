-- What the spelling of a SID is made of, and which SID a text can spell.
use Rattle.std.proofs.Common.{◌≡◌, ℕ, ◌^◌, ◌<◌, ◌≤◌, ◌≢◌, true, false, ◌&&◌, List, [], ◌∷◌, ◌++◌, length, map, drop, get_or, refl, sym, ◌∙◌, ap, subst, inl, inr, arith, lit<, Bor}
use Rattle.std.specs.Prelude.{◌==◌, nat_lt, nat_le, codes, decimal, IsAscii, IsUtf8, Option, Some, None, MatchOption, Result, Ok, Err, MatchResult, option_and_then}
use Rattle.std.specs.Result.{result_ok}
use Rattle.std.specs.List.{flat_map, join_with_byte}
use Rattle.std.specs.Str.{bytes_eq}
use Rattle.std.specs.Str.Parse.{AllDigits, digits_value}
use Rattle.std.specs.Str.Pattern.{FindsTextPrefix}
use Rattle.std.proofs.lemmas.Bool.{cases_Bool}
use Rattle.std.proofs.lemmas.Bool.Decides.{nat_tests}
use Rattle.std.proofs.lemmas.Fmt.{IsAscii-decimal, decimal_is_IsNumeral}
use Rattle.std.proofs.lemmas.List.Splits.{join_with_byte-slice_split, length-slice_split}
use Rattle.std.proofs.lemmas.Slice.Eq.{bytes_eq-Decides}
use Rattle.std.proofs.lemmas.Str.{IsAscii-append, IsUtf8-from_ascii}
use Rattle.std.proofs.lemmas.Str.Ascii.{IsAscii-nil, IsAscii-push}
use Rattle.std.proofs.lemmas.Str.Parse.{numerals_by_value, tells_digits, not_in_digits}
use Rattle.std.proofs.lemmas.Str.Pattern.{IsSplitOnceResult, split_after, split_parts}
use Rattle.lpc_base.proofs.Bools.{first-true, second-true}
use Rattle.lpc_sid.specs.Spelling.{spelling, is_well_formed, are_words, dashed, parts, numbers_of, sid_from, if_spelled, sid_of}
use Rattle.lpc_sid.specs.declared.sid.Sid.{Sid}
use Rattle.lpc_sid.proofs.Numbers.{are_small, small_head, small_tail, parts_dashed, joined_dashed, values_back}

-- a text is the spelling of a SID
pub record Spelled (text : List ℕ) (sid : Sid) : Type 0 where
  pub form : is_well_formed sid ≡ true
  pub is : spelling sid ≡ text

-- ---- what a well-formed SID has
below_limit : (sid : Sid) → is_well_formed sid ≡ true → sid.authority < 2 ^ 48
below_limit sid form = grind (arith, nat_tests)

some_subs : (sid : Sid) → is_well_formed sid ≡ true → 1 ≤ length sid.subs.items
some_subs sid form = grind (arith, nat_tests)

pub sub_words : (sid : Sid) → is_well_formed sid ≡ true → are_words sid.subs.items ≡ true
sub_words sid form = grind (arith, nat_tests)

small_subs : (sid : Sid) → is_well_formed sid ≡ true → are_small sid.subs.items ≡ true
small_subs sid form = grind (arith, nat_tests)

-- ---- a spelling is text
ascii_dash : IsAscii (codes "-")
ascii_dash = IsAscii-push [] 45 IsAscii-nil (lit< tt)

ascii_front : IsAscii (codes "S-1-")
ascii_front = IsAscii-push (83 ∷ 45 ∷ 49 ∷ []) 45 (IsAscii-push (83 ∷ 45 ∷ []) 49 (IsAscii-push (83 ∷ []) 45 (IsAscii-push [] 83 IsAscii-nil (lit< tt)) (lit< tt)) (lit< tt)) (lit< tt)

ascii_dashed : (ns : List ℕ) → are_small ns ≡ true → IsAscii (flat_map dashed ns)
ascii_dashed [] all = IsAscii-nil
ascii_dashed (n ∷ ns) all =
    let small = small_head n ns all in
    IsAscii-append (dashed n) (flat_map dashed ns) (IsAscii-append (codes "-") (decimal n) ascii_dash (IsAscii-decimal n (omega arith))) (ascii_dashed ns (small_tail n ns all))

pub spelled_utf8 : (text : List ℕ) (sid : Sid) → Spelled text sid → IsUtf8 text
unfolding spelling
spelled_utf8 text sid spelled =
    let low = below_limit sid spelled.form in
    rw (← spelled.is) (IsUtf8-from_ascii (spelling sid) (IsAscii-append (codes "S-1-") (decimal sid.authority ++ flat_map dashed sid.subs.items) ascii_front (IsAscii-append (decimal sid.authority) (flat_map dashed sid.subs.items) (IsAscii-decimal sid.authority (omega arith)) (ascii_dashed sid.subs.items (small_subs sid spelled.form)))))

-- ---- behind `S-1-`
rest_is : (text rest : List ℕ) (sid : Sid) → Spelled text sid → text ≡ codes "S-1-" ++ rest → rest ≡ decimal sid.authority ++ flat_map dashed sid.subs.items
unfolding spelling
rest_is text rest sid spelled front = sym (ap (λ t. drop 4 t) (spelled.is ∙ front))

-- a spelling begins with `S-1-`
pub has_front : (text : List ℕ) (sid : Sid) → Spelled text sid → FindsTextPrefix (codes "S-1-") text None → ⊥
unfolding spelling
has_front text sid spelled none = none (decimal sid.authority ++ flat_map dashed sid.subs.items) (sym spelled.is)

-- what is left behind it
pub front_cut : (text rest : List ℕ) (n : ℕ) → FindsTextPrefix (codes "S-1-") text (Some n) → rest ≡ drop n text → text ≡ codes "S-1-" ++ rest
front_cut text rest n found is = found.1 ∙ ap (λ t. codes "S-1-" ++ t) (sym is)

no_dash_at : (n : ℕ) → n < 2 ^ 64 → (i : ℕ) → i < length (decimal n) → get_or (decimal n) i 0 ≢ 45
no_dash_at n h = not_in_digits (numerals_by_value (AllDigits 10) tells_digits) (decimal n) 45 (decimal_is_IsNumeral n h).0.1 (λ r. omega arith)

-- the authority and the numbers, cut at the dash between them
pub record Cut (front back : List ℕ) (sid : Sid) : Type 0 where
  pub authority : decimal sid.authority ≡ front
  pub subs : map decimal sid.subs.items ≡ parts back

-- what stands behind the authority's dash
record Behind (ns : List ℕ) : Type 0 where
  pub back : List ℕ
  pub text : flat_map dashed ns ≡ 45 ∷ back
  pub cut : map decimal ns ≡ parts back

behind : (ns : List ℕ) → 1 ≤ length ns → are_small ns ≡ true → Behind ns
behind [] some all = absurd (omega arith)
behind (n ∷ ns) some all =
    let small = small_head n ns all in
    record { back = decimal n ++ flat_map dashed ns; text = refl; cut = sym (parts_dashed n ns (omega arith) (small_tail n ns all)) }

cut_of : (sid : Sid) (back : List ℕ) (r : Option (Bor (List ℕ) × Bor (List ℕ))) → map decimal sid.subs.items ≡ parts back → MatchOption r ⊥ (λ x. (x.0.now ≡ decimal sid.authority) × (x.1.now ≡ back)) → MatchOption r ⊥ (λ x. Cut x.0.now x.1.now sid)
cut_of sid back None subs h = h
cut_of sid back (Some x) subs h = record { authority = sym h.0; subs = subs ∙ ap parts (sym h.1) }

pub cut_spelled : (text rest : List ℕ) (sid : Sid) (r : Option (Bor (List ℕ) × Bor (List ℕ))) → Spelled text sid → text ≡ codes "S-1-" ++ rest → IsSplitOnceResult 45 rest r → MatchOption r ⊥ (λ x. Cut x.0.now x.1.now sid)
cut_spelled text rest sid r spelled front cut =
    let low = below_limit sid spelled.form in
    let subs = behind sid.subs.items (some_subs sid spelled.form) (small_subs sid spelled.form) in
    let is : rest ≡ decimal sid.authority ++ (45 ∷ subs.back) = rest_is text rest sid spelled front ∙ ap (λ t. decimal sid.authority ++ t) subs.text in
    cut_of sid subs.back r subs.cut (split_after 45 rest (decimal sid.authority) subs.back r cut (lit< tt) is (no_dash_at sid.authority (omega arith)))

-- ---- from the parts to the spelling
joined : (ns text : List ℕ) → map decimal ns ≡ parts text → (1 ≤ length ns) × (flat_map dashed ns ≡ 45 ∷ text)
joined [] text is = let e = ap length is ∙ length-slice_split (λ b. b == 45) text in absurd (omega arith)
joined (n ∷ ns) text is = (omega arith, ap (λ t. 45 ∷ t) (sym (joined_dashed (decimal n) ns) ∙ ap (λ ps. join_with_byte 45 ps) is ∙ join_with_byte-slice_split 45 text))

pub spelled_cut : (text rest front back : List ℕ) (sid : Sid) → text ≡ codes "S-1-" ++ rest → rest ≡ front ++ (45 ∷ back) → Cut front back sid → sid.authority < 2 ^ 48 → are_words sid.subs.items ≡ true → Spelled text sid
unfolding spelling
spelled_cut text rest front back sid head split cut low words =
    let subs = joined sid.subs.items back cut.subs in
    let below : nat_lt sid.authority (2 ^ 48) ≡ true = grind (arith, nat_tests) in
    let some : nat_le 1 (length sid.subs.items) ≡ true = grind (arith, nat_tests) in
    record {
      form = rw (below, some, words) refl;
      is = ap (λ t. codes "S-1-" ++ t) (ap (λ a. a ++ flat_map dashed sid.subs.items) cut.authority ∙ ap (λ b. front ++ b) subs.1 ∙ sym split) ∙ sym head;
    }

-- ---- the SID that a text spells
numbers_spelled : (sid : Sid) → is_well_formed sid ≡ true → numbers_of (spelling sid) ≡ sid.authority ∷ sid.subs.items
unfolding spelling
numbers_spelled sid form =
    let low = below_limit sid form in
    let small : sid.authority < 2 ^ 64 = omega arith in
    ap (λ ps. map (digits_value 10) ps) (parts_dashed sid.authority sid.subs.items small (small_subs sid form))
    ∙ ap (λ n. n ∷ map (digits_value 10) (map decimal sid.subs.items)) (decimal_is_IsNumeral sid.authority small).1
    ∙ ap (λ ns. sid.authority ∷ ns) (values_back sid.subs.items (small_subs sid form))

-- the test of the definition
passes_test : (text : List ℕ) (sid : Sid) → Spelled text sid → (is_well_formed sid && bytes_eq (spelling sid) text) ≡ true
passes_test text sid spelled = let same = (bytes_eq-Decides (spelling sid) text).1 spelled.is in rw (spelled.form, same) refl

from_test : (text : List ℕ) (sid : Sid) → (is_well_formed sid && bytes_eq (spelling sid) text) ≡ true → Spelled text sid
from_test text sid test = record {
  form = first-true (is_well_formed sid) (bytes_eq (spelling sid) text) test;
  is = (bytes_eq-Decides (spelling sid) text).0 (second-true (is_well_formed sid) (bytes_eq (spelling sid) text) test);
}

if_is : (text : List ℕ) (sid : Sid) → (is_well_formed sid && bytes_eq (spelling sid) text) ≡ true → if_spelled text sid ≡ Some sid
if_is text sid test = rw test refl

if_not : (text : List ℕ) (sid : Sid) → (is_well_formed sid && bytes_eq (spelling sid) text) ≡ false → if_spelled text sid ≡ None
if_not text sid test = rw test refl

pub read_back : (text : List ℕ) (sid : Sid) → Spelled text sid → sid_of text ≡ Some sid
unfolding sid_of
read_back text sid spelled =
    ap (λ ns. option_and_then (if_spelled text) (sid_from ns)) (ap numbers_of (sym spelled.is) ∙ numbers_spelled sid spelled.form)
    ∙ if_is text sid (passes_test text sid spelled)

none_from : (text : List ℕ) (o : Option Sid) → ((sid : Sid) → Spelled text sid → ⊥) → option_and_then (if_spelled text) o ≡ None
none_from text None none = refl
none_from text (Some sid) none = elim (cases_Bool (is_well_formed sid && bytes_eq (spelling sid) text)) [
  | inl test ↦ absurd (none sid (from_test text sid test))
  | inr off ↦ if_not text sid off
]

pub none_read : (text : List ℕ) → ((sid : Sid) → Spelled text sid → ⊥) → sid_of text ≡ None
unfolding sid_of
none_read text none = none_from text (sid_from (numbers_of text)) none

spelled_from : (text : List ℕ) (o : Option Sid) (sid : Sid) → option_and_then (if_spelled text) o ≡ Some sid → Spelled text sid
spelled_from text None sid is = absurd cc
spelled_from text (Some other) sid is = elim (cases_Bool (is_well_formed other && bytes_eq (spelling other) text)) [
  | inl test ↦ (let same : other ≡ sid = some_same other sid (sym (if_is text other test) ∙ is) in subst (λ (s : Sid). Spelled text s) same (from_test text other test))
  | inr off ↦ absurd (none_some sid (sym (if_not text other off) ∙ is))
]
  where
    some_same : (a b : Sid) → Some a ≡ Some b → a ≡ b
    some_same a b e = cc

    none_some : (a : Sid) → None ≡ Some a → ⊥
    none_some a e = cc

pub spelled_read : (text : List ℕ) (sid : Sid) → sid_of text ≡ Some sid → Spelled text sid
unfolding sid_of
spelled_read text sid is = spelled_from text (sid_from (numbers_of text)) sid is

-- ---- what the calls of `read` say
pub not_utf8 : {T E : Type 0} (P : T → Type 0) (Q : Type 0) (R : E → Type 0) (r : Result T E) → None ≡ result_ok r → MatchResult r P (λ e. (Q → ⊥) × R e) → Q → ⊥
not_utf8 P Q R (Ok x) none cases is = ok_none x none
  where
    ok_none : {T : Type 0} (x : T) → None ≡ Some x → ⊥
    ok_none x e = cc
not_utf8 P Q R (Err e) none cases is = cases.0 is

pub same_text : {E : Type 0} (bytes : List ℕ) (Q : Type 0) (R : E → Type 0) (r : Result (Bor (List ℕ)) E) (text : Bor (List ℕ)) → Some text ≡ result_ok r → MatchResult r (λ s. (s.now ≡ bytes) × Q) R → bytes ≡ text.now
same_text bytes Q R (Ok x) text is cases = let same = some_same text x is in sym (ap (λ (t : Bor (List ℕ)). t.now) same ∙ cases.0)
  where
    some_same : (a b : Bor (List ℕ)) → Some a ≡ Some b → a ≡ b
    some_same a b e = cc
same_text bytes Q R (Err e) text is cases = absurd (some_none text is)
  where
    some_none : (a : Bor (List ℕ)) → Some a ≡ None → ⊥
    some_none a e = cc

-- ---- what no SID's spelling is
module _ (bytes text rest : List ℕ) (same : bytes ≡ text) where
  of_text : (sid : Sid) → Spelled bytes sid → Spelled text sid
  of_text sid spelled = record { form = spelled.form; is = spelled.is ∙ same }

  pub no_front : FindsTextPrefix (codes "S-1-") text None → (sid : Sid) → Spelled bytes sid → ⊥
  no_front none sid spelled = has_front text sid (of_text sid spelled) none

  pub no_cut : text ≡ codes "S-1-" ++ rest → IsSplitOnceResult 45 rest None → (sid : Sid) → Spelled bytes sid → ⊥
  no_cut front none sid spelled = cut_spelled text rest sid None (of_text sid spelled) front none

  pub cut_is : (a b : Bor (List ℕ)) → text ≡ codes "S-1-" ++ rest → IsSplitOnceResult 45 rest (Some (a, b)) → (sid : Sid) → Spelled bytes sid → Cut a.now b.now sid
  cut_is a b front cut sid spelled = cut_spelled text rest sid (Some (a, b)) (of_text sid spelled) front cut

  pub no_authority : (a b : Bor (List ℕ)) → text ≡ codes "S-1-" ++ rest → IsSplitOnceResult 45 rest (Some (a, b)) → ((n : ℕ) → n < 2 ^ 48 → decimal n ≡ a.now → ⊥) → (sid : Sid) → Spelled bytes sid → ⊥
  no_authority a b front cut none sid spelled = none sid.authority (below_limit sid spelled.form) (cut_is a b front cut sid spelled).authority

  pub no_numbers : (a b : Bor (List ℕ)) → text ≡ codes "S-1-" ++ rest → IsSplitOnceResult 45 rest (Some (a, b)) → ((ns : List ℕ) → are_words ns ≡ true → map decimal ns ≡ parts b.now → ⊥) → (sid : Sid) → Spelled bytes sid → ⊥
  no_numbers a b front cut none sid spelled = none sid.subs.items (sub_words sid spelled.form) (cut_is a b front cut sid spelled).subs

  pub all_parts : (a b : Bor (List ℕ)) → text ≡ codes "S-1-" ++ rest → IsSplitOnceResult 45 rest (Some (a, b)) → (sid : Sid) → Cut a.now b.now sid → sid.authority < 2 ^ 48 → are_words sid.subs.items ≡ true → Spelled bytes sid
  all_parts a b front cut sid is low words =
      let spelled = spelled_cut text rest a.now b.now sid front (split_parts 45 rest (Some (a, b)) cut (lit< tt)).0 is low words in
      record { form = spelled.form; is = spelled.is ∙ sym same }
