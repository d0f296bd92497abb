-- What numbers and names lead to, and what a further number leaves of that.
use Rattle.std.proofs.Common.{◌≡◌, ◌+◌, ◌≤◌, ℕ, Bool, true, false, cond, not, refl, sym, ap, subst, ◌∙◌, arith, List, [], ◌∷◌, ◌++◌, Option, Some, None, is_some, length, map, option_map}
use Rattle.std.specs.Prelude.{nat_lt, ◌<◌, ◌^◌, ◌==◌, ◌&&◌, unwrap_or}
use Rattle.std.specs.List.{position}
use Rattle.std.proofs.lemmas.Bool.Decides.{nat_tests}
use Rattle.std.proofs.lemmas.Bool.{lt-ltb}
use Rattle.std.proofs.lemmas.List.{length-append, length-map}
use Rattle.std.proofs.lemmas.List.Sums.{prefix_len-le-length}
use Rattle.lpc_base.specs.declared.birth.Birth.{Birth}
use Rattle.lpc_base.specs.Births.{same_birth}
use Rattle.lpc_base.specs.Rows.{count, first, has, without_first}
use Rattle.lpc_base.proofs.Bools.{number-turned}
use Rattle.lpc_base.proofs.Differ.{differ-push}
use Rattle.lpc_base.proofs.RowMaps.{count-map, push-map, without_first-map}
use Rattle.lpc_base.proofs.RowWords.{every-push, every-true}
use Rattle.lpc_numbers.specs.Named.{AreNamed, Forgets, Named, Takes, is_named, number_in, number_named}
use Rattle.lpc_numbers.specs.Numbered.{is_at, numbers, value_at}
use Rattle.lpc_numbers.proofs.Names.{named-push, named-without}
use Rattle.lpc_slots.specs.declared.Key.{Key}
use Rattle.lpc_slots.specs.Table.{Table, at}
use Rattle.lpc_procs.specs.declared.keys.Use.{Use}
use Rattle.lpc_procs.specs.Kept.{AreKeyed, AreUsed, key_or, process_key, rank_of, rows_in, thread_key}
use Rattle.lpc_procs.proofs.Few.{few_by}
use Rattle.lpc_procs.proofs.Gone.{without-one}
use Rattle.lpc_procs.proofs.Keyed.{stands-keyed}

pub unmapped : {X Y : Type 0} (f : X → Y) (o : Option X) → option_map f o ≡ None → o ≡ None
unmapped f None none = refl
unmapped f (Some x) none = absurd (cc)

-- a value under a further number
module _ {V : Type 0} (n : ℕ) (v : V) where
  pub value-push : (m : ℕ) (es : List (ℕ × V)) → has (is_at n) es ≡ false → value_at (es ++ (n, v) ∷ []) m ≡ cond (m == n) (Some v) (value_at es m)
  value-push m [] new = by (n == m) (m == n) (number-turned n m)
    where
      by : (b c : Bool) → b ≡ c → option_map (λ (e : ℕ × V). e.1) (cond b (Some (n, v)) None) ≡ cond c (Some v) None
      by true true same = refl
      by true false same = absurd (cc)
      by false true same = absurd (cc)
      by false false same = refl
  value-push m (e ∷ es) new = grind (arith, nat_tests, value-push m es)

pub process-key-push : (pid : ℕ) (k : Key) (up : List (ℕ × Key)) → has (is_at pid) up ≡ false → (m : ℕ) → process_key (up ++ (pid, k) ∷ []) m ≡ cond (m == pid) k (process_key up m)
process-key-push pid k up new m = ap key_or (value-push pid k m up new) ∙ by (m == pid)
  where
    by : (b : Bool) → key_or (cond b (Some k) (value_at up m)) ≡ cond b k (process_key up m)
    by true = refl
    by false = refl

pub thread-key-push : (tid : ℕ) (u : Use) (ut : List (ℕ × Use)) → has (is_at tid) ut ≡ false → (m : ℕ) → thread_key (ut ++ (tid, u) ∷ []) m ≡ cond (m == tid) u.key (thread_key ut m)
thread-key-push tid u ut new m = ap (λ o. key_or (option_map (λ (x : Use). x.key) o)) (value-push tid u m ut new) ∙ by (m == tid)
  where
    by : (b : Bool) → key_or (option_map (λ (x : Use). x.key) (cond b (Some u) (value_at ut m))) ≡ cond b u.key (thread_key ut m)
    by true = refl
    by false = refl

pub rank-low : (pid : ℕ) (up : List (ℕ × Key)) → rank_of up pid ≤ length up
rank-low pid up = prefix_len-le-length (λ e. not (is_at pid e)) up

-- the rank of a process: as it is looked up, and once a further number is used
pub rank-is : (pid : ℕ) (up : List (ℕ × Key)) → unwrap_or (position (is_at pid) up) (length up) ≡ rank_of up pid
rank-is pid up = at (nat_lt (rank_of up pid) (length up)) refl
  where
    at : (b : Bool) → nat_lt (rank_of up pid) (length up) ≡ b → unwrap_or (cond b (Some (rank_of up pid)) None) (length up) ≡ rank_of up pid
    at true within = refl
    at false out = grind (arith, nat_tests, rank-low pid up)

pub rank-push : (pid n : ℕ) (k : Key) (up : List (ℕ × Key)) → has (is_at pid) up ≡ true → rank_of (up ++ (n, k) ∷ []) pid ≡ rank_of up pid
rank-push pid n k [] used = absurd (cc)
rank-push pid n k (e ∷ up) used = grind (arith, rank-push pid n k up)

-- a further number
pub used-push : (made n : ℕ) (ns : List ℕ) → AreUsed made ns → has (λ m. m == n) ns ≡ false → n < 2147483648 → AreUsed (made + 1) (ns ++ n ∷ [])
used-push made n ns used new within = record {
  each = omega (arith, used.each, length-append ns (n ∷ []));
  differ = differ-push (λ m. m) ns n used.differ new;
  low = every-push (λ m. nat_lt m 2147483648) ns n used.low (lt-ltb n 2147483648 within);
}

pub made-few : (made : ℕ) (ns : List ℕ) → AreUsed made ns → made ≤ 2147483648
made-few made ns used = omega (arith, used.each, few_by (λ m. m) 2147483648 ns used.differ used.low)

pub used-few : {V : Type 0} (made : ℕ) (es : List (ℕ × V)) → AreUsed made (numbers es) → length es < 2 ^ 32
used-few {V} made es used = omega (arith, used.each, made-few made (numbers es) used, length-map es (λ (e : ℕ × V). e.0))

-- what a name leads to
module _ {T : Type 0} (number : T → ℕ) (birth : T → Birth) where
  abbrev named : T → ℕ × Birth
  named row = (number row, birth row)

  abbrev is_born : Birth → T → Bool
  is_born b row = same_birth (birth row) b

  number-first : (b : Birth) (xs : List T) → number_named (map named xs) b ≡ option_map number (first (is_born b) xs)
  number-first b [] = refl
  number-first b (x ∷ xs) = grind (arith, number-first b xs)

  -- a further row
  pub names-more : (xs : List T) (row : T) (names names' : Named) → AreNamed (map named xs) names → Takes (birth row) (number row) names.firsts names'.firsts → names'.single ≡ (names.single && not (is_some (number_in names.firsts (birth row)))) → AreNamed (map named (xs ++ row ∷ [])) names'
  names-more xs row names names' are takes single = rw (push-map named xs row) (named-push (map named xs) names are (birth row) (number row) names' takes single)

  -- the first of a name goes
  pub names-left : (b : Birth) (xs : List T) (names names' : Named) → AreNamed (map named xs) names → Forgets b names.firsts names'.firsts → names'.single ≡ names.single → AreNamed (map named (without_first (is_born b) xs)) names'
  names-left b xs names names' are forgets single whole c =
      let one = (are (sym single ∙ whole) b).one in
      rw (without_first-map named (λ x. true) (is_born b) (is_named b) (λ x _. refl) xs (every-true xs), without-one (is_named b) (map named xs) one)
      (named-without (map named xs) names are b names' forgets single whole c)

  module _ (s : Table T) (key : ℕ → Key) (keyed : AreKeyed number s key) (names : Named) (are : AreNamed (map named (rows_in s)) names) (whole : names.single ≡ true) (b : Birth) where
    its-number : number_in names.firsts b ≡ option_map number (first (is_born b) (rows_in s))
    its-number = (are whole b).kept ∙ number-first b (rows_in s)

    -- the first of the name stands under the key of the number that is kept
    pub row-named : (n : ℕ) → number_in names.firsts b ≡ Some n → at s (key n) ≡ first (is_born b) (rows_in s)
    row-named n is = by (first (is_born b) (rows_in s)) refl (sym its-number ∙ is)
      where
        by : (o : Option T) → first (is_born b) (rows_in s) ≡ o → option_map number o ≡ Some n → at s (key n) ≡ first (is_born b) (rows_in s)
        by None found some = absurd (cc)
        by (Some row) found some =
            let own : number row ≡ n = cc in
            ap (λ m. at s (key m)) (sym own) ∙ stands-keyed number s key keyed (is_born b) row found ∙ sym found

    pub none-named : number_in names.firsts b ≡ None → first (is_born b) (rows_in s) ≡ None
    none-named is = by (first (is_born b) (rows_in s)) refl (sym its-number ∙ is)
      where
        by : (o : Option T) → first (is_born b) (rows_in s) ≡ o → option_map number o ≡ None → first (is_born b) (rows_in s) ≡ None
        by None found none = found
        by (Some row) found none = absurd (cc)

    -- no other has the name
    pub one-named : count (is_born b) (rows_in s) ≤ 1
    one-named = subst (λ (n : ℕ). n ≤ 1) (count-map named (λ x. true) (is_born b) (is_named b) (λ x _. refl) (rows_in s) (every-true (rows_in s))) (are whole b).one
