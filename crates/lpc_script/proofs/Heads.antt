-- What a line says by what it begins with.
use Rattle.std.proofs.Common.{◌≡◌, ℕ, true, false, List, [], ◌∷◌, refl}
use Rattle.std.specs.Prelude.{None, Some, Result, Ok, Err}
use Rattle.lpc_model.specs.declared.entry.CallName.{CallName}
use Rattle.lpc_model.specs.declared.entry.Word.{Word}
use Rattle.lpc_model.specs.declared.fault.LineFault.{LineFault}
use Rattle.lpc_model.specs.declared.fault.LineFault.TheVariants as fault
use Rattle.lpc_model.specs.Grammar.{call_line, call_named, call_words, directive_line, directive_named, directive_words, no_words, one_or_two_words, one_word, starts_call, two_words, words_line}
use Rattle.lpc_model.specs.Lines.{ScriptCall, run}
use Rattle.lpc_model.specs.Then.{◌>>=◌}
use Rattle.lpc_model.specs.Words.{id_word, is_id, number_word}

-- a number in the range of ids is one
pub id_said : (word : List ℕ) (n : ℕ) → number_word word ≡ Ok n → is_id n ≡ true → id_word word ≡ Ok n
unfolding id_word
id_said word n number is = rw (number, is) refl

run_said : (tid : ℕ) (read : Result ScriptCall LineFault) → ((read >>= (λ call. Ok (run tid call))) >>= (λ line. Ok (Some line))) ≡ (read >>= (λ call. Ok (Some (run tid call))))
run_said tid (Ok call) = refl
run_said tid (Err e) = refl

-- a line that begins with a thread and a call's name
pub call_says : (front word : List ℕ) (others : List (List ℕ)) (tid : ℕ) (name : CallName) → starts_call front ≡ true → id_word front ≡ Ok tid → call_named word ≡ Some name → words_line (front ∷ word ∷ others) ≡ (call_words name others >>= (λ call. Ok (Some (run tid call))))
unfolding call_line
call_says front word others tid name starts id named = rw (starts, id, named) (run_said tid (call_words name others))

-- and its faults
pub call_no_thread : (front : List ℕ) (others : List (List ℕ)) (e : LineFault) → starts_call front ≡ true → id_word front ≡ Err e → words_line (front ∷ others) ≡ Err e
unfolding call_line
call_no_thread front others e starts id = rw (starts, id) refl

pub call_no_name : (front : List ℕ) (tid : ℕ) → starts_call front ≡ true → id_word front ≡ Ok tid → words_line (front ∷ []) ≡ Err fault.Count
unfolding call_line
call_no_name front tid starts id = rw (starts, id) refl

pub call_unknown : (front word : List ℕ) (others : List (List ℕ)) (tid : ℕ) → starts_call front ≡ true → id_word front ≡ Ok tid → call_named word ≡ None → words_line (front ∷ word ∷ others) ≡ Err fault.Call
unfolding call_line
call_unknown front word others tid starts id named = rw (starts, id, named) refl

-- a line that begins with a directive's word, and its fault
pub directive_says : (front : List ℕ) (others : List (List ℕ)) (word : Word) → starts_call front ≡ false → directive_named front ≡ Some word → words_line (front ∷ others) ≡ (directive_words word others >>= (λ line. Ok (Some line)))
unfolding directive_line
directive_says front others word starts named = rw (starts, named) refl

pub directive_unknown : (front : List ℕ) (others : List (List ℕ)) → starts_call front ≡ false → directive_named front ≡ None → words_line (front ∷ others) ≡ Err fault.Word
unfolding directive_line
directive_unknown front others starts named = rw (starts, named) refl

-- a count of words behind the first one
pub one_word_more : (word : List ℕ) (others : List (List ℕ)) → one_word (word ∷ others) ≡ (no_words others >>= (λ nothing. Ok word))
unfolding one_word no_words
one_word_more word [] = refl
one_word_more word (second ∷ others) = refl

pub two_words_more : (word : List ℕ) (others : List (List ℕ)) → two_words (word ∷ others) ≡ (one_word others >>= (λ second. Ok (word, second)))
unfolding two_words one_word
two_words_more word [] = refl
two_words_more word (second ∷ []) = refl
two_words_more word (second ∷ third ∷ others) = refl

pub one_of_two : (word : List ℕ) → one_or_two_words (word ∷ []) ≡ Ok (word, None)
unfolding one_or_two_words
one_of_two word = refl

pub two_of_two : (word second : List ℕ) (others : List (List ℕ)) → one_or_two_words (word ∷ second ∷ others) ≡ (no_words others >>= (λ nothing. Ok (word, Some second)))
unfolding one_or_two_words no_words
two_of_two word second [] = refl
two_of_two word second (third ∷ others) = refl
