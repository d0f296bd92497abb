-- Births that are found: the numbers that are kept under them, and those of the entries.
use Rattle.std.proofs.Common.{rules, ◌≡◌, ◌&&◌, ◌≤◌, ℕ, List, [], ◌∷◌, ◌++◌, Bool, true, false, cond, Option, None, Some, is_some, not, option_map, subst, suc, ◌+◌, length, refl, sym, ap, ◌∙◌, arith}
use Rattle.std.specs.Prelude.{if◌then◌else◌}
use Rattle.std.specs.Map.{keys_of, lookup}
use Rattle.std.specs.List.{position_or_len}
use Rattle.indexmap.specs.IndexMap.{insert_entry, set_value_at}
use Rattle.std.proofs.lemmas.Bool.{and_parts}
use Rattle.std.proofs.lemmas.Option.{same_Some}
use Rattle.lpc_base.specs.Births.{same_birth}
use Rattle.lpc_base.specs.Rows.{count, first, has, without}
use Rattle.lpc_base.specs.declared.birth.Birth.{Birth}
use Rattle.lpc_base.proofs.Births.{birth-same, birth-self, births-apart}
use Rattle.lpc_base.proofs.RowMaps.{some-map}
use Rattle.lpc_base.proofs.RowWords.{count-left, count-none, count-push}
use Rattle.lpc_numbers.specs.Named.{AreNamed, Forgets, IsOnlyNamed, Named, Takes, is_named, number_in, number_named, or_else, with_number}
use Rattle.lpc_numbers.specs.declared.named.Name.{Name}
use Rattle.lpc_numbers.specs.contracts.named.NamePartialEq.TheImpl as the_impl

abbrev pub name_of : Birth → Name
name_of b = record { birth = b }

-- a birth is compared as the key of a map
name-same : (name : Name) (b : Birth) → the_impl.eq-value.it (name_of b) name ≡ same_birth name.birth b
name-same name b = search rules

pub lookup-same : (b : Birth) (names : List (Name × ℕ)) → lookup (the_impl.eq-value.it (name_of b)) names ≡ number_in names b
lookup-same b [] = refl
lookup-same b (e ∷ names) = grind (arith, name-same e.0 b, lookup-same b names)

or-none : (o : Option ℕ) → o ≡ or_else o None
or-none None = refl
or-none (Some n) = refl

-- The numbers that are kept, after a write and after a removal
module _ (birth : Birth) (old new : List (Name × ℕ)) where
  pub updated : (w : Option ℕ) → ((k : Name) → lookup (the_impl.eq-value.it k) new ≡ cond (the_impl.eq-value.it (name_of birth) k) w (lookup (the_impl.eq-value.it k) old))
      → (b : Birth) → number_in new b ≡ cond (same_birth b birth) w (number_in old b)
  updated w updates b =
      sym (lookup-same b new) ∙ updates (name_of b)
      ∙ (λ i. cond (name-same (name_of b) birth i) w (lookup-same b old i))

  pub put : (number : ℕ) → number_in old birth ≡ None → ((b : Birth) → number_in new b ≡ cond (same_birth b birth) (Some number) (number_in old b)) → Takes birth number old new
  put number none after b = after b ∙ by (same_birth b birth) refl
    where
      by : (c : Bool) → same_birth b birth ≡ c → cond c (Some number) (number_in old b) ≡ or_else (number_in old b) (with_number birth number b)
      by true is =
          let e : b ≡ birth = birth-same b birth is in
          let free : number_in old b ≡ None = ap (number_in old) e ∙ none in
          let own : same_birth birth b ≡ true = ap (same_birth birth) e ∙ birth-self birth in
          rw (free, own) refl
      by false off =
          let apart : same_birth birth b ≡ false = births-apart b birth off in
          or-none (number_in old b) ∙ ap (λ c. or_else (number_in old b) (cond c (Some number) None)) (sym apart)

  -- the number of a birth that had none, and those of the other births
  pub taken : (number : ℕ) → Takes birth number old new → (fresh : Bool) → fresh ≡ not (is_some (number_in old birth)) → fresh ≡ true → Some number ≡ number_in new birth
  taken number takes fresh is true-is = sym (takes birth ∙ by (number_in old birth) (sym is ∙ true-is))
    where
      by : (o : Option ℕ) → not (is_some o) ≡ true → or_else o (with_number birth number birth) ≡ Some number
      by None none = ap (λ c. cond c (Some number) None) (birth-self birth)
      by (Some n) none = absurd (cc)

  pub taken-others : (number : ℕ) → Takes birth number old new → (b : Birth) → same_birth birth b ≡ false → number_in new b ≡ number_in old b
  taken-others number takes b off = takes b ∙ ap (λ c. or_else (number_in old b) (cond c (Some number) None)) off ∙ sym (or-none (number_in old b))

  -- a birth that is gone has none, and the others have theirs
  pub gone : Forgets birth old new → None ≡ number_in new birth
  gone forgets = sym (forgets birth ∙ ap (λ c. cond c None (number_in old birth)) (birth-self birth))

  pub gone-others : Forgets birth old new → (b : Birth) → same_birth birth b ≡ false → number_in new b ≡ number_in old b
  gone-others forgets b off = forgets b ∙ ap (λ c. cond c None (number_in old b)) (births-apart birth b off)

  -- a birth that has a number keeps it
  pub keeps : (number was : ℕ) → number_in old birth ≡ Some was → new ≡ old → Takes birth number old new
  keeps number was known same b = ap (λ names. number_in names b) same ∙ by (same_birth birth b) refl
    where
      by : (c : Bool) → same_birth birth b ≡ c → number_in old b ≡ or_else (number_in old b) (cond c (Some number) None)
      by true is =
          let own : number_in old b ≡ Some was = ap (number_in old) (sym (birth-same birth b is)) ∙ known in
          rw (own) refl
      by false off = or-none (number_in old b)

-- What is put under a key that has a value, and its first value put back at its place, leaves all as it was.
pub restored : (eq : Name → Name → Bool) (k : Name) (es : List (Name × ℕ)) (number was : ℕ) → lookup (eq k) es ≡ Some was → set_value_at (insert_entry eq es k number) (position_or_len (eq k) (keys_of es)) was ≡ es
restored eq k [] number was known = absurd (cc)
restored eq k (e ∷ es) number was known = by (eq k e.0) known (restored eq k es number was)
  where
    by : (b : Bool) → cond b (Some e.1) (lookup (eq k) es) ≡ Some was → (lookup (eq k) es ≡ Some was → set_value_at (insert_entry eq es k number) (position_or_len (eq k) (keys_of es)) was ≡ es)
        → set_value_at (if b then (e.0, number) ∷ es else e ∷ insert_entry eq es k number) (cond (not b) (1 + position_or_len (eq k) (keys_of es)) 0) was ≡ e ∷ es
    by true known rest = ap (λ w. (e.0, w) ∷ es) (sym (same_Some e.1 was known))
    by false known rest =
        let next : suc (position_or_len (eq k) (keys_of es)) ≡ 1 + position_or_len (eq k) (keys_of es) = omega arith in
        subst (λ i. set_value_at (e ∷ insert_entry eq es k number) i was ≡ e ∷ es) next (ap (λ l. e ∷ l) (rest known))

-- no birth has a number where there is none
pub none-kept : (names : List (Name × ℕ)) → length names ≡ 0 → (b : Birth) → None ≡ number_in names b
none-kept [] none b = refl
none-kept (e ∷ names) none b = absurd (cc)

-- The entries, with one more and without those of a birth
number-push : (es : List (ℕ × Birth)) (n : ℕ) (birth b : Birth) → number_named (es ++ (n, birth) ∷ []) b ≡ or_else (number_named es b) (with_number birth n b)
number-push [] n birth b = by (same_birth birth b)
  where
    by : (c : Bool) → option_map (λ (e : ℕ × Birth). e.0) (cond c (Some (n, birth)) None) ≡ cond c (Some n) None
    by true = refl
    by false = refl
number-push (e ∷ es) n birth b = grind (arith, number-push es n birth b)

number-gone : (es : List (ℕ × Birth)) (birth : Birth) → number_named (without (is_named birth) es) birth ≡ None
number-gone [] birth = refl
number-gone (e ∷ es) birth = grind (arith, number-gone es birth)

number-left : (es : List (ℕ × Birth)) (birth b : Birth) → ((x : Birth) → same_birth x birth ≡ true → same_birth x b ≡ false) → number_named (without (is_named birth) es) b ≡ number_named es b
number-left [] birth b other = refl
number-left (e ∷ es) birth b other = grind (arith, other e.1, number-left es birth b other)

number-without : (es : List (ℕ × Birth)) (birth b : Birth) → cond (same_birth b birth) None (number_named es b) ≡ number_named (without (is_named birth) es) b
number-without es birth b = by (same_birth b birth) refl
  where
    by : (c : Bool) → same_birth b birth ≡ c → cond c None (number_named es b) ≡ number_named (without (is_named birth) es) b
    by true is = sym (ap (number_named (without (is_named birth) es)) (birth-same b birth is) ∙ number-gone es birth)
    by false off = sym (number-left es birth b (λ x same. ap (λ y. same_birth y b) (birth-same x birth same) ∙ births-apart b birth off))

-- no entry has a birth that has no number
none-named : (es : List (ℕ × Birth)) (b : Birth) → is_some (number_named es b) ≡ false → has (is_named b) es ≡ false
none-named es b none = sym (some-map (λ (e : ℕ × Birth). e.0) (first (is_named b) es)) ∙ none

-- What is kept
module _ (es : List (ℕ × Birth)) (names : Named) (named : AreNamed es names) where
  -- once a birth is put under a further number
  pub named-push : (birth : Birth) (n : ℕ) (names' : Named) → Takes birth n names.firsts names'.firsts → names'.single ≡ (names.single && not (is_some (number_in names.firsts birth))) → AreNamed (es ++ (n, birth) ∷ []) names'
  named-push birth n names' takes single whole b =
      let both = and_parts names.single (not (is_some (number_in names.firsts birth))) (sym single ∙ whole) in
      let was = named both.0 in
      record {
        kept = takes b ∙ ap (λ o. or_else o (with_number birth n b)) (was b).kept ∙ sym (number-push es n birth b);
        one = by (was b) (was birth) (not-true (is_some (number_in names.firsts birth)) both.1) (same_birth birth b) refl;
      }
    where
      not-true : (x : Bool) → not x ≡ true → x ≡ false
      not-true true is = absurd (cc)
      not-true false is = refl

      by : IsOnlyNamed es names b → IsOnlyNamed es names birth → is_some (number_in names.firsts birth) ≡ false → (c : Bool) → same_birth birth b ≡ c → count (is_named b) (es ++ (n, birth) ∷ []) ≤ 1
      by own was fresh true is =
          let same : birth ≡ b = birth-same birth b is in
          let none : is_some (number_named es b) ≡ false = ap is_some (sym own.kept) ∙ ap (λ x. is_some (number_in names.firsts x)) (sym same) ∙ fresh in
          omega (arith, count-push (is_named b) es (n, birth), ap {B = ℕ} (λ c. cond c 1 0) is, count-none (is_named b) es (none-named es b none))
      by own was fresh false off = omega (arith, count-push (is_named b) es (n, birth), ap {B = ℕ} (λ c. cond c 1 0) off, own.one)

  -- once the numbers of a birth are gone
  pub named-without : (birth : Birth) (names' : Named) → Forgets birth names.firsts names'.firsts → names'.single ≡ names.single → AreNamed (without (is_named birth) es) names'
  named-without birth names' forgets single whole b =
      let was = named (sym single ∙ whole) b in
      record {
        kept = forgets b ∙ ap (cond (same_birth b birth) None) was.kept ∙ number-without es birth b;
        one = omega (arith, was.one, count-left (is_named b) (is_named birth) es);
      }
