-- Names of tokens beside the entries of the table that keeps them.
use Rattle.std.proofs.Common.{◌≡◌, ◌∙◌, refl, ap, sym, ℕ, ◌<◌, ◌≤◌, arith, List, [], ◌∷◌, ◌++◌, length, map, cond, Bool, true, false, nat_eq, Some, None, option_map}
use Rattle.std.specs.Map.{lookup}
use Rattle.std.specs.Cmp.Lexicographic.{pointwise}
use Rattle.std.specs.Str.{bytes_eq}
use Rattle.std.proofs.lemmas.Slice.Eq.{bytes_eq-Decides}
use Rattle.arrayvec.specs.ArrayVec.{ArrayVec}
use Rattle.std.proofs.lemmas.Bool.Decides.{nat_tests}
use Rattle.lpc_base.specs.Rows.{every, first}
use Rattle.lpc_base.proofs.RowMaps.{push-map}
use Rattle.lpc_base.proofs.RowWords.{every-push}
use Rattle.lpc_sid.specs.declared.token.Token.{Token}
use Rattle.lpc_tokens.specs.Names.{TokenName, is_named, is_short, named, shown_name}
use Rattle.lpc_tokens.specs.declared.names.TheConstants.{TOKEN_NAME_LIMIT}

-- it makes no difference which of two texts is compared with the other
same_texts : (a b : List ℕ) → bytes_eq a b ≡ bytes_eq b a
same_texts a b = by (bytes_eq a b) (bytes_eq b a) refl refl
  where
    by : (r s : Bool) → bytes_eq a b ≡ r → bytes_eq b a ≡ s → bytes_eq a b ≡ bytes_eq b a
    by true s p q = p ∙ sym ((bytes_eq-Decides b a).1 (sym ((bytes_eq-Decides a b).0 p)))
    by false true p q = (bytes_eq-Decides a b).1 (sym ((bytes_eq-Decides b a).0 q)) ∙ sym q
    by false false p q = p ∙ sym q

-- the token that has a name is the one that is found under its key
pub named-shown : (key : List ℕ) (es : List (ArrayVec ℕ × Token)) → named (map shown_name es) key ≡ lookup (λ (k : ArrayVec ℕ). pointwise nat_eq key k.items) es
named-shown key [] = refl
named-shown key (e ∷ es) =
    ap (λ t. option_map (λ (row : TokenName). row.token) (cond t (Some (shown_name e)) (first (is_named key) (map shown_name es)))) (same_texts e.0.items key)
    ∙ by (named-shown key es) (bytes_eq key e.0.items)
  where
    by : named (map shown_name es) key ≡ lookup (λ (k : ArrayVec ℕ). pointwise nat_eq key k.items) es → (t : Bool) → option_map (λ (row : TokenName). row.token) (cond t (Some (shown_name e)) (first (is_named key) (map shown_name es))) ≡ cond t (Some e.1) (lookup (λ (k : ArrayVec ℕ). pointwise nat_eq key k.items) es)
    by more true = refl
    by more false = more

-- no token has a name of more bytes than a name may have
other_name : (row : TokenName) (name : List ℕ) → is_short row ≡ true → TOKEN_NAME_LIMIT < length name → is_named name row ≡ false
other_name row name short long = by (is_named name row) refl
  where
    by : (r : Bool) → is_named name row ≡ r → is_named name row ≡ false
    by true p = let same = ap length ((bytes_eq-Decides row.name name).0 p) in absurd (grind (arith, nat_tests, same, short, long))
    by false p = p

pub none-long : (rows : List TokenName) (name : List ℕ) → every is_short rows ≡ true → TOKEN_NAME_LIMIT < length name → None ≡ named rows name
none-long [] name all long = refl
none-long (row ∷ rows) name all long = by (is_short row) refl (none-long rows name)
  where
    by : (t : Bool) → is_short row ≡ t → (every is_short rows ≡ true → TOKEN_NAME_LIMIT < length name → None ≡ named rows name) → None ≡ named (row ∷ rows) name
    by true short more = rw (other_name row name short long) (more (grind (arith, all, short)) long)
    by false short more = absurd (grind (arith, all, short))

-- a name more
pub named_more : (es : List (ArrayVec ℕ × Token)) (key : ArrayVec ℕ) (token : Token) → every is_short (map shown_name es) ≡ true → length key.items ≤ TOKEN_NAME_LIMIT → every is_short (map shown_name (es ++ (key, token) ∷ [])) ≡ true
named_more es key token all short = rw (push-map shown_name es (key, token)) (every-push is_short (map shown_name es) (shown_name (key, token)) all (grind (arith, nat_tests, short)))
