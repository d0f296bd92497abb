-- A line that is read gives a token no name of more than 32 bytes.
use Rattle.std.proofs.Common.{◌≡◌, ℕ, Bool, true, false, cond, List, [], ◌∷◌, length, refl}
use Rattle.std.specs.Prelude.{IfSome, None, Option, option_map, Some, Result, Ok, Err, codes, nat_le, nat_lt, not, ◌&&◌}
use Rattle.std.specs.List.{list_all}
use Rattle.std.specs.Option.{ok_or}
use Rattle.lpc_base.specs.declared.limits.TheConstants.{LINE_LIMIT}
use Rattle.lpc_model.specs.Grammar.{three_words, kind_word, call_line, directive_line, directive_named, directive_words, each_word, is_name_byte, is_printable, one_word, process_and_token, read_line, sid_word, starts_call, thread_call, token_word, token_words, two_and_more_words, two_words, words_line}
use Rattle.lpc_model.specs.declared.line.Line.{Line}
use Rattle.lpc_model.specs.Lines.{ScriptLine, line_of}
use Rattle.lpc_model.specs.Then.{◌>>=◌}
use Rattle.lpc_model.specs.Words.{begins, fault_if, id_word, words, number_word}
use Rattle.lpc_model.specs.World.{Token}
use Rattle.lpc_model.specs.declared.entry.Word.TheVariants as word
use Rattle.lpc_model.specs.declared.entry.Word.{Word}
use Rattle.lpc_model.specs.declared.fault.LineFault.TheVariants as fault
use Rattle.lpc_model.proofs.GivenBytes.{Gives, gives_ok, then_gives}
use Rattle.lpc_machine.specs.Short.{has_short_name}

abbrev pub IsShort : List ℕ → Type 0
IsShort name = nat_le (length name) 32 ≡ true

abbrev pub HasShortName : ScriptLine → Type 0
HasShortName line = has_short_name line ≡ true

abbrev pub SaysShortName : Option ScriptLine → Type 0
SaysShortName None = Unit {0}
SaysShortName (Some line) = HasShortName line

tested : (a b c : Bool) (name : List ℕ) → nat_le (length name) 32 ≡ b → Gives IsShort (fault_if (not ((a && b) && c)) fault.Word >>= λ _. Ok name)
tested true true true name is = is
tested true true false name is = tt
tested true false c name is = tt
tested false b c name is = tt

short_word : (text : List ℕ) → Gives IsShort (token_word text)
unfolding token_word
short_word text = tested (nat_le 1 (length text)) (nat_le (length text) 32) (list_all is_name_byte text) text refl

short_token : (others : List (List ℕ)) → Gives (λ named. IsShort named.0) (token_words others)
short_token others =
    let P : List ℕ × Token → Type 0 = λ named. IsShort named.0 in
    then_gives (two_and_more_words others) _ P (λ all _.
    then_gives (token_word all.0) _ P (λ name is.
    then_gives (sid_word all.1) _ P (λ user _.
    then_gives (each_word sid_word all.2) _ P (λ groups _. gives_ok IsShort (token_word all.0) name (short_word all.0) is))))

short_directive : (name : Word) (others : List (List ℕ)) → Gives HasShortName (directive_words name others)
unfolding directive_words
short_directive word.Boot others = then_gives (process_and_token others) _ HasShortName (λ _ _. refl)
short_directive word.Thread others = then_gives (two_words others) _ HasShortName (λ two _. then_gives (id_word two.0) _ HasShortName (λ _ _. then_gives (id_word two.1) _ HasShortName (λ _ _. refl)))
short_directive word.Token others =
    then_gives (token_words others) _ HasShortName (λ named is. gives_ok (λ (named : List ℕ × Token). IsShort named.0) (token_words others) named (short_token others) is)
short_directive word.Dir others = then_gives (one_word others) _ HasShortName (λ _ _. refl)
short_directive word.Link others = then_gives (two_words others) _ HasShortName (λ two _. refl)
short_directive word.Resident others = then_gives (three_words others) _ HasShortName (λ three _. then_gives (id_word three.0) _ HasShortName (λ _ _. then_gives (kind_word three.1) _ HasShortName (λ _ _. then_gives (number_word three.2) _ HasShortName (λ _ _. refl))))
short_directive word.Turn others = then_gives (one_word others) _ HasShortName (λ front _. then_gives (id_word front) _ HasShortName (λ _ _. refl))

short_call : (front : List ℕ) (others : List (List ℕ)) → Gives HasShortName (call_line front others)
unfolding call_line
short_call front others =
    then_gives (id_word front) _ HasShortName (λ tid _. then_gives (thread_call others) _ HasShortName (λ call _. refl))

short_directive_line : (front : List ℕ) (others : List (List ℕ)) → Gives HasShortName (directive_line front others)
unfolding directive_line
short_directive_line front others =
    then_gives (ok_or (directive_named front) fault.Word) _ HasShortName (λ name _. short_directive name others)

either : {A E : Type 0} (P : A → Type 0) (b : Bool) (r s : Result A E) → Gives P r → Gives P s → Gives P (cond b r s)
either P true r s h k = h
either P false r s h k = k

short_words : (texts : List (List ℕ)) → Gives SaysShortName (words_line texts)
short_words [] = tt
short_words (front ∷ others) =
    let r = cond (starts_call front) (call_line front others) (directive_line front others) in
    then_gives r _ SaysShortName (λ line is. gives_ok HasShortName r line
    (either HasShortName (starts_call front) (call_line front others) (directive_line front others) (short_call front others) (short_directive_line front others)) is)

short_line : (line : List ℕ) → Gives SaysShortName (read_line line)
unfolding read_line
short_line line =
    either SaysShortName (nat_lt LINE_LIMIT (length line)) (Err fault.Long) _ tt
    (either SaysShortName (begins (codes "#") line) (Ok None) _ tt
    (either SaysShortName (not (list_all is_printable line)) (Err fault.Byte) (words_line (words line)) tt (short_words (words line))))

pub short_named : (bytes : List ℕ) (line : ScriptLine) → read_line bytes ≡ Ok (Some line) → has_short_name line ≡ true
short_named bytes line is = gives_ok SaysShortName (read_line bytes) (Some line) (short_line bytes) is

pub short_said : (bytes : List ℕ) (said : Option Line) → read_line bytes ≡ Ok (option_map line_of said) → IfSome said (λ line. has_short_name (line_of line) ≡ true)
short_said bytes None is = tt
short_said bytes (Some line) is = short_named bytes (line_of line) is
