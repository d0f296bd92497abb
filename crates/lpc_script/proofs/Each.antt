-- Words and entries that are read one after the other.
use Rattle.std.proofs.Common.{◌≡◌, refl, ap, ℕ, Bool, true, false, List, [], ◌∷◌, ◌++◌, length, append_assoc, append-nil, arith}
use Rattle.std.specs.Prelude.{◌==◌, Result, Ok, Err, nat_le, nat_lt}
use Rattle.std.proofs.lemmas.Bool.Decides.{nat_tests}
use Rattle.lpc_sid.specs.declared.access.Ace.{Ace}
use Rattle.lpc_sid.specs.declared.access.Dacl.{Dacl}
use Rattle.lpc_model.specs.declared.fault.LineFault.{LineFault}
use Rattle.lpc_model.specs.Grammar.{each_word, entries_word, entry_form, entry_of}
use Rattle.lpc_model.specs.Then.{◌>>=◌}
use Rattle.lpc_model.specs.Words.{is_empty, parts}
use Rattle.lpc_script.specs.Entries.{entry_word, is_read}

-- what was read, and behind it what is read of the rest
abbrev pub onto : {B : Type 0} → List B → Result (List B) LineFault → Result (List B) LineFault
onto front (Ok rest) = Ok (front ++ rest)
onto front (Err e) = Err e

onto_more : {B : Type 0} (front : List B) (y : B) (read : Result (List B) LineFault) → onto front (read >>= (λ rest. Ok (y ∷ rest))) ≡ onto (front ++ y ∷ []) read
onto_more front y (Ok rest) = rw append_assoc refl
onto_more front y (Err e) = refl

-- one more word is read
pub each_more : {A B : Type 0} (read : A → Result B LineFault) (x : A) (xs : List A) (y : B) (front : List B) → read x ≡ Ok y → onto front (each_word read (x ∷ xs)) ≡ onto (front ++ y ∷ []) (each_word read xs)
unfolding each_word
each_more read x xs y front is = rw is (onto_more front y (each_word read xs))

-- the next word is faulty
pub each_fault : {A B : Type 0} (read : A → Result B LineFault) (x : A) (xs : List A) (e : LineFault) (front : List B) → read x ≡ Err e → onto front (each_word read (x ∷ xs)) ≡ Err e
unfolding each_word
each_fault read x xs e front is = rw is refl

-- no word is left
pub each_end : {A B : Type 0} (read : A → Result B LineFault) (front : List B) → onto front (each_word read []) ≡ Ok front
unfolding each_word
each_end read front = ap Ok (append-nil front)

-- ---- of the entries of a list the forms come first

is_read_more : {B : Type 0} (y : B) (read : Result (List B) LineFault) → is_read (read >>= (λ rest. Ok (y ∷ rest))) ≡ is_read read
is_read_more y (Ok rest) = refl
is_read_more y (Err e) = refl

-- one more has its form
pub form_more : {A B : Type 0} (read : A → Result B LineFault) (x : A) (xs : List A) (y : B) → read x ≡ Ok y → is_read (each_word read (x ∷ xs)) ≡ is_read (each_word read xs)
unfolding each_word
form_more read x xs y is = rw is (is_read_more y (each_word read xs))

-- the next has not
pub form_fault : {A B : Type 0} (read : A → Result B LineFault) (x : A) (xs : List A) (e : LineFault) → read x ≡ Err e → is_read (each_word read (x ∷ xs)) ≡ Err e
unfolding each_word
form_fault read x xs e is = rw is refl

pub form_end : {A B : Type 0} (read : A → Result B LineFault) → is_read (each_word read []) ≡ Ok tt
unfolding each_word
form_end read = refl

-- where all have their forms, the numbers of each are read behind its form as well as behind the forms of all
forms_step : (text : List ℕ) (texts : List (List ℕ)) (r : Result (Bool × List ℕ × List ℕ) LineFault) (s : Result (List (Bool × List ℕ × List ℕ)) LineFault) → entry_form text ≡ r → each_word entry_form texts ≡ s → ((forms : List (Bool × List ℕ × List ℕ)) → s ≡ Ok forms → each_word entry_of forms ≡ each_word entry_word texts) → (forms : List (Bool × List ℕ × List ℕ)) → (r >>= (λ one. s >>= (λ rest. Ok (one ∷ rest)))) ≡ Ok forms → each_word entry_of forms ≡ each_word entry_word (text ∷ texts)
unfolding each_word
forms_step text texts (Err e) s one rest same forms is = absurd (cc)
forms_step text texts (Ok form) (Err e) one rest same forms is = absurd (cc)
forms_step text texts (Ok form) (Ok others) one rest same forms is =
    let all : form ∷ others ≡ forms = cc in
    rw (← all, one, same others refl) refl

forms_then : (texts : List (List ℕ)) (forms : List (Bool × List ℕ × List ℕ)) → each_word entry_form texts ≡ Ok forms → each_word entry_of forms ≡ each_word entry_word texts
unfolding each_word
forms_then [] forms is = let none : [] ≡ forms = cc in rw (← none) refl
forms_then (text ∷ texts) forms is = forms_step text texts (entry_form text) (each_word entry_form texts) refl refl (forms_then texts) forms is

-- ---- the entries of an access list

abbrev pub listed : Result (List Ace) LineFault → Result Dacl LineFault
listed read = read >>= (λ aces. Ok (record { list = record { items = aces } }))

pub empty_is : (text : List ℕ) → is_empty text ≡ (length text == 0)
empty_is [] = refl
empty_is (b ∷ text) = refl

-- there is none
pub entries_none : (text : List ℕ) → is_empty text ≡ true → entries_word text ≡ Ok (record { list = record { items = [] } })
unfolding entries_word each_word
entries_none text none = rw none refl

few_entries : (text : List ℕ) → nat_le (length (parts 44 text)) 16 ≡ true → nat_lt 16 (length (parts 44 text)) ≡ false
few_entries text few = grind (arith, nat_tests)

-- each has its form
entries_from : (texts : List (List ℕ)) (r : Result (List (Bool × List ℕ × List ℕ)) LineFault) → each_word entry_form texts ≡ r → is_read r ≡ Ok tt → (r >>= (λ forms. listed (each_word entry_of forms))) ≡ listed (each_word entry_word texts)
entries_from texts (Err e) is ok = absurd (cc)
entries_from texts (Ok forms) is ok = ap listed (forms_then texts forms is)

pub entries_are : (text : List ℕ) → is_empty text ≡ false → nat_le (length (parts 44 text)) 16 ≡ true → is_read (each_word entry_form (parts 44 text)) ≡ Ok tt → entries_word text ≡ listed (each_word entry_word (parts 44 text))
unfolding entries_word
entries_are text some few ok =
    rw (some, few_entries text few) (entries_from (parts 44 text) (each_word entry_form (parts 44 text)) refl ok)
