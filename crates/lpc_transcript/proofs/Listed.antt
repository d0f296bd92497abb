-- SIDs can be read back from their texts, and no byte of these ends a word.
use Rattle.std.proofs.Common.{◌≡◌, refl, sym, ap, ◌∙◌, ℕ, ◌^◌, ◌<◌, ◌==◌, Bool, true, false, not, ◌||◌, ◌-◌, ◌≤◌, List, [], ◌∷◌, ◌++◌, append_assoc, append-nil, drop, get_or, length, length-append, map, take, vec_capacity, arith}
use Rattle.std.specs.Prelude.{All, Err, Ok, OnErr, Result, Some, Vec, codes, decimal, vec_items}
use Rattle.std.specs.List.{flat_map, slice_split}
use Rattle.std.proofs.lemmas.Bool.{and_parts}
use Rattle.std.proofs.lemmas.Bool.Decides.{nat_tests}
use Rattle.std.proofs.lemmas.List.{take_all}
use Rattle.std.proofs.lemmas.List.Elements.{All-nil, All-cons}
use Rattle.std.proofs.lemmas.List.Splits.{slice_split_at, slice_split_none}
use Rattle.hex.specs.Hex.{is_hex_digit}
use Rattle.lpc_base.specs.Rows.{every}
use Rattle.lpc_base.proofs.RowWords.{every-append, every-more}
use Rattle.lpc_sid.specs.Spelling.{dashed, is_well_formed, sid_of, spelling}
use Rattle.lpc_sid.specs.declared.sid.Sid.{Sid}
use Rattle.lpc_sid.proofs.Numbers.{are_small, small_head, small_tail}
use Rattle.lpc_sid.proofs.Spelled.{read_back}
use Rattle.lpc_model.specs.Text.{sids_text}
use Rattle.lpc_transcript.specs.Printing.{LacksRoom, Puts, further_text}
use Rattle.lpc_transcript.proofs.Parts.{is_stop, is_plain}
use Rattle.lpc_transcript.proofs.Figures.{both_true, decimal_figures}

-- ---- the text of SIDs is that of the first, and behind it that of the others, each behind a comma

pub sids_joined : (sid : Sid) (sids : List Sid) → sids_text (sid ∷ sids) ≡ spelling sid ++ flat_map further_text sids
sids_joined sid [] = sym (append-nil (spelling sid))
sids_joined sid (next ∷ sids) =
    ap (λ text. (spelling sid ++ codes ",") ++ text) (sids_joined next sids)
    ∙ simp append_assoc

-- the same, where the first is split off
pub sids_split : (sids : List Sid) (first : Sid) → 1 ≤ length sids → first ≡ get_or sids 0 first → sids_text sids ≡ spelling first ++ flat_map further_text (take (length sids - 1) (drop 1 sids))
sids_split [] first some is = absurd (omega arith)
sids_split (sid ∷ sids) first some is =
    let count : length (sid ∷ sids) - 1 ≡ length sids = omega arith in
    let all : take (length (sid ∷ sids) - 1) (drop 1 (sid ∷ sids)) ≡ sids = rw count (take_all _ _ (omega arith)) in
    sids_joined sid sids
    ∙ ap (λ others. spelling sid ++ flat_map further_text others) (sym all)
    ∙ ap (λ one. spelling one ++ flat_map further_text (take (length (sid ∷ sids) - 1) (drop 1 (sid ∷ sids)))) (sym is)

-- ---- one text behind another

-- where both are put, their whole is
pub puts_both : {T E : Type 0} (before between now one other whole : List ℕ) (result : Result T E) → between ≡ before ++ one → whole ≡ one ++ other → Puts between now other result → Puts before now whole result
puts_both before between now one other whole (Ok x) first is second = rw (second, first, is) (append_assoc before one other)
puts_both before between now one other whole (Err e) first is second = tt

-- where there is no room for the other behind the one, there was none for the whole
pub lacks_both : {T E Z : Type 0} (before between : Vec ℕ Z) (one other whole : List ℕ) (result : Result T E) → vec_items between ≡ vec_items before ++ one → whole ≡ one ++ other → vec_capacity before ≤ vec_capacity between → OnErr result (LacksRoom between other) → OnErr result (LacksRoom before whole)
lacks_both before between one other whole (Ok x) first is grows second = tt
lacks_both before between one other whole (Err e) first is grows second =
    let held = ap length first in
    let both = ap length is in
    omega (arith, second, simp length-append at held, simp length-append at both)

-- ---- the bytes of a SID's text

-- a byte that may stand in it
abbrev pub is_sid_byte : ℕ → Bool
is_sid_byte c = is_hex_digit c || c == 45 || c == 83

figure_byte : (c : ℕ) → is_hex_digit c ≡ true → is_sid_byte c ≡ true
figure_byte c h = rw h refl

decimal_bytes : (n : ℕ) → n < 2 ^ 64 → every is_sid_byte (decimal n) ≡ true
decimal_bytes n h = every-more is_hex_digit is_sid_byte figure_byte (decimal n) (decimal_figures n h)

dashed_bytes : (ns : List ℕ) → are_small ns ≡ true → every is_sid_byte (flat_map dashed ns) ≡ true
dashed_bytes [] all = refl
dashed_bytes (n ∷ ns) all =
    let small = small_head n ns all in
    every-append is_sid_byte (dashed n) (flat_map dashed ns) (decimal_bytes n (omega arith)) (dashed_bytes ns (small_tail n ns all))

spelling_bytes : (sid : Sid) → is_well_formed sid ≡ true → every is_sid_byte (spelling sid) ≡ true
unfolding spelling
spelling_bytes sid form =
    let low : sid.authority < 2 ^ 48 = grind (arith, nat_tests) in
    let small : are_small sid.subs.items ≡ true = grind (arith, nat_tests) in
    let front = codes "S-1-" ++ decimal sid.authority in
    let begun : every is_sid_byte front ≡ true = decimal_bytes sid.authority (omega arith) in
    every-append is_sid_byte front (flat_map dashed sid.subs.items) begun (dashed_bytes sid.subs.items small)

byte_is_not : (c n : ℕ) → is_sid_byte c ≡ true → is_sid_byte n ≡ false → c ≡ n → ⊥
byte_is_not c n e other is = let both : true ≡ false = sym e ∙ ap is_sid_byte is ∙ other in cc

byte_stays : (c : ℕ) → is_sid_byte c ≡ true → not (is_stop c) ≡ true
byte_stays c e =
    let end = byte_is_not c 10 e refl in
    let space = byte_is_not c 32 e refl in
    let equals = byte_is_not c 61 e refl in
    grind (arith, nat_tests)

byte_no_comma : (c : ℕ) → is_sid_byte c ≡ true → (c == 44) ≡ false
byte_no_comma c e = let comma = byte_is_not c 44 e refl in grind (arith, nat_tests)

bytes_plain : (text : List ℕ) → every is_sid_byte text ≡ true → is_plain text ≡ true
bytes_plain [] h = refl
bytes_plain (c ∷ text) h =
    let parts = and_parts (is_sid_byte c) (every is_sid_byte text) h in
    both_true (byte_stays c parts.0) (bytes_plain text parts.1)

bytes_no_comma : (text : List ℕ) → every is_sid_byte text ≡ true → All (λ b. (b == 44) ≡ false) text
bytes_no_comma [] h = All-nil (λ b. (b == 44) ≡ false)
bytes_no_comma (c ∷ text) h =
    let parts = and_parts (is_sid_byte c) (every is_sid_byte text) h in
    All-cons (λ b. (b == 44) ≡ false) c text (byte_no_comma c parts.0) (bytes_no_comma text parts.1)

-- ---- the text of SIDs is plain

plain_both : (xs ys : List ℕ) → is_plain xs ≡ true → is_plain ys ≡ true → is_plain (xs ++ ys) ≡ true
plain_both [] ys p q = q
plain_both (x ∷ xs) ys p q =
    let parts = and_parts (not (is_stop x)) (is_plain xs) p in
    both_true parts.0 (plain_both xs ys parts.1 q)

further_plain : (sids : List Sid) → every is_well_formed sids ≡ true → is_plain (flat_map further_text sids) ≡ true
further_plain [] h = refl
further_plain (sid ∷ sids) h =
    let parts = and_parts (is_well_formed sid) (every is_well_formed sids) h in
    plain_both (further_text sid) (flat_map further_text sids) (bytes_plain (spelling sid) (spelling_bytes sid parts.0)) (further_plain sids parts.1)

pub sids_plain : (sids : List Sid) → every is_well_formed sids ≡ true → is_plain (sids_text sids) ≡ true
sids_plain [] h = refl
sids_plain (sid ∷ sids) h =
    let parts = and_parts (is_well_formed sid) (every is_well_formed sids) h in
    ap is_plain (sids_joined sid sids) ∙ plain_both (spelling sid) (flat_map further_text sids) (bytes_plain (spelling sid) (spelling_bytes sid parts.0)) (further_plain sids parts.1)

-- ---- the text of SIDs tells them

-- it is cut at the commas
sids_cut : (sid : Sid) (sids : List Sid) → every is_well_formed (sid ∷ sids) ≡ true → slice_split (λ b. b == 44) (spelling sid ++ flat_map further_text sids) ≡ map spelling (sid ∷ sids)
sids_cut sid [] h =
    let parts = and_parts (is_well_formed sid) true h in
    ap (λ text. slice_split (λ b. b == 44) text) (append-nil (spelling sid))
    ∙ slice_split_none (λ b. b == 44) (spelling sid) (bytes_no_comma (spelling sid) (spelling_bytes sid parts.0))
sids_cut sid (next ∷ sids) h =
    let parts = and_parts (is_well_formed sid) (every is_well_formed (next ∷ sids)) h in
    slice_split_at (λ b. b == 44) (spelling sid) 44 (spelling next ++ flat_map further_text sids) (bytes_no_comma (spelling sid) (spelling_bytes sid parts.0)) refl
    ∙ ap (λ texts. spelling sid ∷ texts) (sids_cut next sids parts.1)

spelling_unique : (a b : Sid) → is_well_formed a ≡ true → is_well_formed b ≡ true → spelling a ≡ spelling b → a ≡ b
spelling_unique a b p q e =
    let one = read_back (spelling a) a (record { form = p; is = refl }) in
    let other = read_back (spelling b) b (record { form = q; is = refl }) in
    let found : Some a ≡ Some b = sym one ∙ ap sid_of e ∙ other in
    cc

spellings_unique : (xs ys : List Sid) → every is_well_formed xs ≡ true → every is_well_formed ys ≡ true → map spelling xs ≡ map spelling ys → xs ≡ ys
spellings_unique [] [] p q e = refl
spellings_unique [] (y ∷ ys) p q e = absurd (cc)
spellings_unique (x ∷ xs) [] p q e = absurd (cc)
spellings_unique (x ∷ xs) (y ∷ ys) p q e =
    let px = and_parts (is_well_formed x) (every is_well_formed xs) p in
    let qy = and_parts (is_well_formed y) (every is_well_formed ys) q in
    let heads : spelling x ≡ spelling y = cc in
    let tails : map spelling xs ≡ map spelling ys = cc in
    let head = spelling_unique x y px.0 qy.0 heads in
    let tail = spellings_unique xs ys px.1 qy.1 tails in
    λ i. head i ∷ tail i

-- a SID has a text
spelling_some : (sid : Sid) (more : List ℕ) → [] ≡ spelling sid ++ more → ⊥
unfolding spelling
spelling_some sid more e = cc

pub sids_unique : (xs ys : List Sid) → every is_well_formed xs ≡ true → every is_well_formed ys ≡ true → sids_text xs ≡ sids_text ys → xs ≡ ys
sids_unique [] [] p q e = refl
sids_unique [] (y ∷ ys) p q e = absurd (spelling_some y (flat_map further_text ys) (e ∙ sids_joined y ys))
sids_unique (x ∷ xs) [] p q e = absurd (spelling_some x (flat_map further_text xs) (sym e ∙ sids_joined x xs))
sids_unique (x ∷ xs) (y ∷ ys) p q e =
    let whole = sym (sids_joined x xs) ∙ e ∙ sids_joined y ys in
    let cuts = sym (sids_cut x xs p) ∙ ap (λ text. slice_split (λ b. b == 44) text) whole ∙ sids_cut y ys q in
    spellings_unique (x ∷ xs) (y ∷ ys) p q cuts
