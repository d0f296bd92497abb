-- What a reader of the code returned, beside what the grammar reads.
use Rattle.std.specs.Prelude.{◌≡◌, ℕ, List, Option, Result, Ok, Err}
use Rattle.std.specs.Borrow.{Bor}
use Rattle.std.specs.Option.{option_copied}
use Rattle.lpc_model.specs.Words.{words}

-- a result, seen by view, is what reading gives
abbrev pub Gives : {X Y E : Type 0} → (X → Y) → Result X E → Result Y E → Type 0
Gives view (Ok x) read = read ≡ Ok (view x)
Gives view (Err e) read = read ≡ Err e

-- a word that lies in the line, as its bytes
abbrev pub Word : Type 0
Word = Bor (List ℕ)

-- two words, three, four, and one with perhaps a second, as their bytes
abbrev pub seen_two : Word × Word → List ℕ × List ℕ
seen_two two = (two.0.now, two.1.now)

abbrev pub seen_three : Word × Word × Word → List ℕ × List ℕ × List ℕ
seen_three three = (three.0.now, three.1.now, three.2.now)

abbrev pub seen_four : Word × Word × Word × Word → List ℕ × List ℕ × List ℕ × List ℕ
seen_four four = (four.0.now, four.1.now, four.2.now, four.3.now)

abbrev pub seen_one_or_two : Word × Option Word → List ℕ × Option (List ℕ)
seen_one_or_two two = (two.0.now, option_copied two.1)

-- two words with perhaps a third, and two with the words of what stands behind them
abbrev pub seen_two_or_three : Word × Word × Option Word → List ℕ × List ℕ × Option (List ℕ)
seen_two_or_three three = (three.0.now, three.1.now, option_copied three.2)

abbrev pub seen_two_and_more : Word × Word × Word → List ℕ × List ℕ × List (List ℕ)
seen_two_and_more three = (three.0.now, three.1.now, words three.2.now)
