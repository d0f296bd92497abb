-- Entries of one line with the same text are the same.
use Rattle.std.proofs.Common.{◌≡◌, refl, sym, ap, ◌∙◌, ℕ, zero, suc, ◌==◌, ◌<◌, ◌^◌, Bool, true, false, cond, ◌&&◌, ◌||◌, List, [], ◌∷◌, ◌++◌, append_assoc, drop, arith}
use Rattle.std.specs.Prelude.{◌≢◌, codes, decimal}
use Rattle.std.proofs.lemmas.Bool.{and_parts, or_parts}
use Rattle.std.proofs.lemmas.Bool.Decides.{nat_tests}
use Rattle.std.proofs.lemmas.Fmt.{decimal_injective}
use Rattle.std.proofs.lemmas.List.{append_cancel_left}
use Rattle.lpc_base.specs.Rows.{every}
use Rattle.lpc_model.specs.Text.{eight_digits, call_text, name_text, value_text, rest_text, entry_text, entries_text}
use Rattle.lpc_model.specs.TextLaws.{sort_of, is_word, is_of_sort, is_sorted_field, is_regular, TextIsUnique}
use Rattle.lpc_base.specs.declared.status.Status.{Status}
use Rattle.lpc_model.specs.declared.entry.CallName.{CallName}
use Rattle.lpc_model.specs.declared.entry.CallName.TheVariants.{NtCreatePort, NtConnectPort, NtListenPort, NtAcceptConnectPort, NtCompleteConnectPort, NtRequestPort, NtRequestWaitReplyPort, NtReplyPort, NtReplyWaitReceivePort, NtRegisterThreadTerminatePort, NtClose, NtDuplicateObject, NtQueryObject, NtCreateProcess, NtCreateThread, NtTerminateProcess, NtTerminateThread, NtCreateSection, NtMapViewOfSection, NtUnmapViewOfSection, NtReadVirtualMemory, NtWriteVirtualMemory, NtReadRequestData, NtWriteRequestData, NtImpersonateClientOfPort, NtSetInformationThread, NtOpenThreadToken, NtOpenProcessToken, NtQueryInformationToken, NtSetInformationProcess, Raise}
use Rattle.lpc_model.specs.declared.entry.Entry.{Entry}
use Rattle.lpc_model.specs.declared.entry.Entry.TheVariants.{Answer, Waits, Wakes, Busy, NoThread, Died, Directive}
use Rattle.lpc_model.specs.declared.entry.Field.{Field}
use Rattle.lpc_transcript.proofs.Parts.{is_plain, Part, joined, are_plain, joined_unique}
use Rattle.lpc_transcript.proofs.Figures.{both_true, are_figures, figures_plain, figures_begin, first, decimal_figures, word_figures, word_unique}
use Rattle.lpc_transcript.proofs.Spelled.{field_parts, parts, chain, rest_joined, call_unique, call_plain, word_name_unique, word_plain, name_unique, name_plain, value_plain, value_unique}
use borrow.Author.Tests.{ltb-true}

fits : (n : ℕ) → is_word n ≡ true → n < 2 ^ 32
fits n h = ltb-true n (2 ^ 32) h

number_figures : (n : ℕ) → is_word n ≡ true → are_figures (decimal n) ≡ true
number_figures n h = let small = fits n h in decimal_figures n (omega arith)

number_plain : (n : ℕ) → is_word n ≡ true → is_plain (decimal n) ≡ true
number_plain n h = figures_plain (decimal n) (number_figures n h)

number_unique : (m n : ℕ) → is_word m ≡ true → is_word n ≡ true → decimal m ≡ decimal n → m ≡ n
number_unique m n p q e =
    let small = fits m p in
    let other = fits n q in
    decimal_injective m n (omega arith) (omega arith) e

status_plain : (status : Status) → is_plain (eight_digits status.0) ≡ true
status_plain status = figures_plain (eight_digits status.0) (word_figures status.0)

status_unique : (a b : Status) → is_word a.0 ≡ true → is_word b.0 ≡ true → eight_digits a.0 ≡ eight_digits b.0 → a ≡ b
status_unique a b p q e =
    let same = word_unique a.0 b.0 (fits a.0 p) (fits b.0 q) e in
    λ i. record { 0 = same i }

-- ---- the words have no byte that ends one

fields_plain : (fields : List Field) → every is_sorted_field fields ≡ true → are_plain (field_parts fields) ≡ true
fields_plain [] h = refl
fields_plain (field ∷ fields) h =
    let split = and_parts (is_sorted_field field) (every is_sorted_field fields) h in
    both_true (name_plain field.name) (both_true (value_plain (sort_of field.name) field.value split.0) (fields_plain fields split.1))

parts_plain : (entry : Entry) → is_regular entry ≡ true → are_plain (parts entry) ≡ true
parts_plain (Answer tid call status fields) h =
    let outer = and_parts (is_word tid && is_word status.0) (every is_sorted_field fields) h in
    let inner = and_parts (is_word tid) (is_word status.0) outer.0 in
    both_true (number_plain tid inner.0) (both_true (call_plain call) (both_true (status_plain status) (fields_plain fields outer.1)))
parts_plain (Waits tid call fields) h =
    let outer = and_parts (is_word tid) (every is_sorted_field fields) h in
    both_true (number_plain tid outer.0) (both_true (call_plain call) (fields_plain fields outer.1))
parts_plain (Wakes tid call status fields) h =
    let outer = and_parts (is_word tid && is_word status.0) (every is_sorted_field fields) h in
    let inner = and_parts (is_word tid) (is_word status.0) outer.0 in
    both_true (number_plain tid inner.0) (both_true (call_plain call) (both_true (status_plain status) (fields_plain fields outer.1)))
parts_plain (Busy tid) h = both_true (number_plain tid h) refl
parts_plain (NoThread tid) h = both_true (number_plain tid h) refl
parts_plain (Died tid status) h =
    let both = and_parts (is_word tid) (is_word status.0) h in
    both_true (number_plain tid both.0) (both_true (status_plain status) refl)
parts_plain (Directive word status) h = both_true (word_plain word) (both_true (status_plain status) refl)

-- ---- the words tell which kind of entry it is

-- the first byte of a word
abbrev first_at : ℕ → List Part → ℕ
first_at n [] = 0
first_at zero (part ∷ more) = first part.word
first_at (suc n) (part ∷ more) = first_at n more

-- the kind of entry by the first bytes of its words: `*`, `~` and `-`, then `b` and `n`, then `w`
abbrev told : ℕ → ℕ → ℕ → ℕ
told a b c = cond (a == 42) 2 (cond (a == 126) 5 (cond (a == 45) 6 (cond (b == 98) 3 (cond (b == 110) 4 (cond (c == 119) 1 0)))))

abbrev told_kind : List Part → ℕ
told_kind words = told (first_at 0 words) (first_at 1 words) (first_at 2 words)

abbrev kind_of : Entry → ℕ
kind_of (Answer tid call status fields) = 0
kind_of (Waits tid call fields) = 1
kind_of (Wakes tid call status fields) = 2
kind_of (Busy tid) = 3
kind_of (NoThread tid) = 4
kind_of (Died tid status) = 5
kind_of (Directive word status) = 6

-- as `busy` and `nothread` begin, and no name of a call
abbrev begins_state : ℕ → Bool
begins_state b = (b == 98) || (b == 110)

call_begins : (call : CallName) → begins_state (first (call_text call)) ≡ false
call_begins NtCreatePort = refl
call_begins NtConnectPort = refl
call_begins NtListenPort = refl
call_begins NtAcceptConnectPort = refl
call_begins NtCompleteConnectPort = refl
call_begins NtRequestPort = refl
call_begins NtRequestWaitReplyPort = refl
call_begins NtReplyPort = refl
call_begins NtReplyWaitReceivePort = refl
call_begins NtRegisterThreadTerminatePort = refl
call_begins NtClose = refl
call_begins NtDuplicateObject = refl
call_begins NtQueryObject = refl
call_begins NtCreateProcess = refl
call_begins NtCreateThread = refl
call_begins NtTerminateThread = refl
call_begins NtTerminateProcess = refl
call_begins NtCreateSection = refl
call_begins NtMapViewOfSection = refl
call_begins NtUnmapViewOfSection = refl
call_begins NtReadVirtualMemory = refl
call_begins NtWriteVirtualMemory = refl
call_begins NtReadRequestData = refl
call_begins NtWriteRequestData = refl
call_begins NtImpersonateClientOfPort = refl
call_begins NtSetInformationThread = refl
call_begins NtOpenThreadToken = refl
call_begins NtOpenProcessToken = refl
call_begins NtQueryInformationToken = refl
call_begins NtSetInformationProcess = refl
call_begins Raise = refl

-- a thread's number stands first
record IsNumbered (a : ℕ) : Type 0 where
  star : a ≢ 42
  tilde : a ≢ 126
  dash : a ≢ 45

numbered : (tid : ℕ) → is_word tid ≡ true → IsNumbered (first (decimal tid))
numbered tid h =
    let figures = number_figures tid h in
    record {
      star = figures_begin (decimal tid) 42 figures refl (λ e. omega arith);
      tilde = figures_begin (decimal tid) 126 figures refl (λ e. omega arith);
      dash = figures_begin (decimal tid) 45 figures refl (λ e. omega arith);
    }

told_answer : (a b c : ℕ) → IsNumbered a → begins_state b ≡ false → c ≢ 119 → told a b c ≡ 0
told_answer a b c h e w =
    let star = h.star in
    let tilde = h.tilde in
    let dash = h.dash in
    let neither = or_parts (b == 98) (b == 110) e in
    let busy = neither.0 in
    let no_thread = neither.1 in
    grind (arith, nat_tests)

told_waits : (a b : ℕ) → IsNumbered a → begins_state b ≡ false → told a b 119 ≡ 1
told_waits a b h e =
    let star = h.star in
    let tilde = h.tilde in
    let dash = h.dash in
    let neither = or_parts (b == 98) (b == 110) e in
    let busy = neither.0 in
    let no_thread = neither.1 in
    grind (arith, nat_tests)

told_busy : (a : ℕ) → IsNumbered a → told a 98 0 ≡ 3
told_busy a h =
    let star = h.star in let tilde = h.tilde in let dash = h.dash in grind (arith, nat_tests)

told_no_thread : (a : ℕ) → IsNumbered a → told a 110 0 ≡ 4
told_no_thread a h =
    let star = h.star in let tilde = h.tilde in let dash = h.dash in grind (arith, nat_tests)

told_kind_of : (entry : Entry) → is_regular entry ≡ true → told_kind (parts entry) ≡ kind_of entry
told_kind_of (Answer tid call status fields) h =
    let outer = and_parts (is_word tid && is_word status.0) (every is_sorted_field fields) h in
    let inner = and_parts (is_word tid) (is_word status.0) outer.0 in
    told_answer (first (decimal tid)) (first (call_text call)) (first (eight_digits status.0)) (numbered tid inner.0) (call_begins call)
    (figures_begin (eight_digits status.0) 119 (word_figures status.0) refl (λ e. omega arith))
told_kind_of (Waits tid call fields) h =
    told_waits (first (decimal tid)) (first (call_text call)) (numbered tid (and_parts (is_word tid) (every is_sorted_field fields) h).0) (call_begins call)
told_kind_of (Busy tid) h = told_busy (first (decimal tid)) (numbered tid h)
told_kind_of (NoThread tid) h = told_no_thread (first (decimal tid)) (numbered tid h)
told_kind_of b h = refl

-- ---- the words tell the entry

same_word : (a b : Part) → a ≡ b → a.word ≡ b.word
same_word a b e = ap (λ part. part.word) e

heads : (a b : Part) (more others : List Part) → a ∷ more ≡ b ∷ others → (a.word ≡ b.word) × (more ≡ others)
heads a b more others e = let part : a ≡ b = cc in (same_word a b part, cc)

field_unique : (a b : Field) → is_sorted_field a ≡ true → is_sorted_field b ≡ true → name_text a.name ≡ name_text b.name → value_text a.value ≡ value_text b.value → a ≡ b
field_unique a b p q n v =
    let name = name_unique a.name b.name n in
    let value = value_unique (sort_of a.name) a.value b.value p (ap (λ m. is_of_sort (sort_of m) b.value) name ∙ q) v in
    λ i. record { name = name i; value = value i }

fields_unique : (xs ys : List Field) → every is_sorted_field xs ≡ true → every is_sorted_field ys ≡ true → field_parts xs ≡ field_parts ys → xs ≡ ys
fields_unique [] [] p q e = refl
fields_unique [] (y ∷ ys) p q e = absurd (cc)
fields_unique (x ∷ xs) [] p q e = absurd (cc)
fields_unique (x ∷ xs) (y ∷ ys) p q e =
    let px = and_parts (is_sorted_field x) (every is_sorted_field xs) p in
    let qy = and_parts (is_sorted_field y) (every is_sorted_field ys) q in
    let names = heads _ _ _ _ e in
    let values = heads _ _ _ _ names.1 in
    let head = field_unique x y px.0 qy.0 names.0 values.0 in
    let tail = fields_unique xs ys px.1 qy.1 values.1 in
    λ i. head i ∷ tail i

same_kind_unique : (x y : Entry) → is_regular x ≡ true → is_regular y ≡ true → kind_of x ≡ kind_of y → parts x ≡ parts y → x ≡ y
same_kind_unique (Answer tid call status fields) (Answer tid' call' status' fields') p q k e =
    let px = and_parts (is_word tid && is_word status.0) (every is_sorted_field fields) p in
    let qy = and_parts (is_word tid' && is_word status'.0) (every is_sorted_field fields') q in
    let px' = and_parts (is_word tid) (is_word status.0) px.0 in
    let qy' = and_parts (is_word tid') (is_word status'.0) qy.0 in
    let one = heads _ _ _ _ e in
    let two = heads _ _ _ _ one.1 in
    let three = heads _ _ _ _ two.1 in
    let tids = number_unique tid tid' px'.0 qy'.0 one.0 in
    let calls = call_unique call call' two.0 in
    let statuses = status_unique status status' px'.1 qy'.1 three.0 in
    let all = fields_unique fields fields' px.1 qy.1 three.1 in
    λ i. Answer (tids i) (calls i) (statuses i) (all i)
same_kind_unique (Waits tid call fields) (Waits tid' call' fields') p q k e =
    let px = and_parts (is_word tid) (every is_sorted_field fields) p in
    let qy = and_parts (is_word tid') (every is_sorted_field fields') q in
    let one = heads _ _ _ _ e in
    let two = heads _ _ _ _ one.1 in
    let three = heads _ _ _ _ two.1 in
    let tids = number_unique tid tid' px.0 qy.0 one.0 in
    let calls = call_unique call call' two.0 in
    let all = fields_unique fields fields' px.1 qy.1 three.1 in
    λ i. Waits (tids i) (calls i) (all i)
same_kind_unique (Wakes tid call status fields) (Wakes tid' call' status' fields') p q k e =
    let px = and_parts (is_word tid && is_word status.0) (every is_sorted_field fields) p in
    let qy = and_parts (is_word tid' && is_word status'.0) (every is_sorted_field fields') q in
    let px' = and_parts (is_word tid) (is_word status.0) px.0 in
    let qy' = and_parts (is_word tid') (is_word status'.0) qy.0 in
    let one = heads _ _ _ _ e in
    let two = heads _ _ _ _ one.1 in
    let three = heads _ _ _ _ two.1 in
    let tids = number_unique tid tid' px'.0 qy'.0 (ap (drop 1) one.0) in
    let calls = call_unique call call' two.0 in
    let statuses = status_unique status status' px'.1 qy'.1 three.0 in
    let all = fields_unique fields fields' px.1 qy.1 three.1 in
    λ i. Wakes (tids i) (calls i) (statuses i) (all i)
same_kind_unique (Busy tid) (Busy tid') p q k e = ap Busy (number_unique tid tid' p q (heads _ _ _ _ e).0)
same_kind_unique (NoThread tid) (NoThread tid') p q k e = ap NoThread (number_unique tid tid' p q (heads _ _ _ _ e).0)
same_kind_unique (Died tid status) (Died tid' status') p q k e =
    let px = and_parts (is_word tid) (is_word status.0) p in
    let qy = and_parts (is_word tid') (is_word status'.0) q in
    let one = heads _ _ _ _ e in
    let two = heads _ _ _ _ one.1 in
    let three = heads _ _ _ _ two.1 in
    let tids = number_unique tid tid' px.0 qy.0 (ap (drop 1) one.0) in
    let statuses = status_unique status status' px.1 qy.1 three.0 in
    λ i. Died (tids i) (statuses i)
same_kind_unique (Directive word status) (Directive word' status') p q k e =
    let one = heads _ _ _ _ e in
    let two = heads _ _ _ _ one.1 in
    let three = heads _ _ _ _ two.1 in
    let words = word_name_unique word word' two.0 in
    let statuses = status_unique status status' p q three.0 in
    λ i. Directive (words i) (statuses i)
same_kind_unique x y p q k e = absurd (omega arith)

entry_unique : (x y : Entry) → is_regular x ≡ true → is_regular y ≡ true → parts x ≡ parts y → x ≡ y
entry_unique x y p q e = same_kind_unique x y p q (sym (told_kind_of x p) ∙ ap told_kind e ∙ told_kind_of y q) e

-- ---- the lines tell the entries

line_joined : (line : ℕ) (entry : Entry) (more : List ℕ) → entry_text line entry ++ more ≡ decimal line ++ (joined (parts entry) ++ 10 ∷ more)
unfolding entry_text
line_joined line entry more =
    chain (decimal line) (codes " ") (rest_text entry) (codes "\n") more
    ∙ ap (λ text. decimal line ++ text) (sym (append_assoc (codes " ") (rest_text entry) (10 ∷ more)) ∙ ap (λ text. text ++ 10 ∷ more) (rest_joined entry))

never_empty : (a b : List ℕ) (c : ℕ) (more : List ℕ) → [] ≡ a ++ (b ++ c ∷ more) → ⊥
never_empty [] [] c more e = cc
never_empty [] (x ∷ b) c more e = cc
never_empty (x ∷ a) b c more e = cc

pub text_unique : TextIsUnique
unfolding entries_text
text_unique line [] [] p q e = refl
text_unique line [] (y ∷ ys) p q e = absurd (never_empty (decimal line) (joined (parts y)) 10 (entries_text line ys) (e ∙ line_joined line y (entries_text line ys)))
text_unique line (x ∷ xs) [] p q e = absurd (never_empty (decimal line) (joined (parts x)) 10 (entries_text line xs) (sym e ∙ line_joined line x (entries_text line xs)))
text_unique line (x ∷ xs) (y ∷ ys) p q e =
    let px = and_parts (is_regular x) (every is_regular xs) p in
    let qy = and_parts (is_regular y) (every is_regular ys) q in
    let lines = append_cancel_left (decimal line) _ _ (sym (line_joined line x (entries_text line xs)) ∙ e ∙ line_joined line y (entries_text line ys)) in
    let words = joined_unique (parts x) (parts y) (entries_text line xs) (entries_text line ys) (parts_plain x px.0) (parts_plain y qy.0) lines in
    let head = entry_unique x y px.0 qy.0 words.0 in
    let tail = text_unique line xs ys px.1 qy.1 words.1 in
    λ i. head i ∷ tail i
