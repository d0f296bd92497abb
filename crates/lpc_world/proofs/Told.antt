-- What the counts of names become where names come and go.
use Rattle.std.proofs.Common.{◌≡◌, ◌+◌, ◌-◌, ◌≤◌, ℕ, Bool, true, false, cond, refl, ap, ◌∙◌, arith, [], ◌∷◌, length, eq-eqb}
use Rattle.std.specs.Prelude.{◌==◌, if◌then◌else◌}
use Rattle.lpc_base.specs.Rows.{count, has}
use Rattle.lpc_base.proofs.RowWords.{none-counted, without-none}
use Rattle.lpc_names.specs.declared.names.Found.TheVariants.{Directory, Item}
use Rattle.lpc_names.specs.Path.{Path}
use Rattle.lpc_names.specs.Walk.{Bindings, LinkTo, Node, Stands}
use Rattle.lpc_names.specs.Binding.{is_name, without_names}
use Rattle.lpc_slots.specs.declared.Key.{Key}
use Rattle.lpc_slots.specs.Table.{is_key}
use Rattle.lpc_slots.proofs.Keys.{key_is}
use Rattle.lpc_world.specs.PortNames.{is_numbered, number_of}

abbrev Row : Type 0
Row = Path × Node Key

-- ---- names go

-- a name of a port is one of its number
own : (port : Key) (row : Row) → is_name is_key port row ≡ true → is_numbered (number_of port) row ≡ true
own port (path, LinkTo target) is = absurd (cc)
own port (path, Stands Directory) is = absurd (cc)
own port (path, Stands (Item key)) is = eq-eqb (number_of key) (number_of port) (ap number_of (key_is key port is))

-- and of no other
other : (port : Key) (n : ℕ) (row : Row) → is_name is_key port row ≡ true → is_numbered n row ≡ (n == number_of port)
other port n (path, LinkTo target) is = absurd (cc)
other port n (path, Stands Directory) is = absurd (cc)
other port n (path, Stands (Item key)) is = let same = ap number_of (key_is key port is) in grind (arith, same)

-- where none leads to a port of the number, none goes
pub none_goes : (port : Key) (rows : Bindings Key) → count (is_numbered (number_of port)) rows ≡ 0 → without_names is_key port rows ≡ rows
none_goes port rows none = without-none (is_name is_key port) rows (nobody rows (none-counted (is_numbered (number_of port)) rows (omega (arith, none))))
  where
    nobody : (xs : Bindings Key) → has (is_numbered (number_of port)) xs ≡ false → has (is_name is_key port) xs ≡ false
    nobody [] off = refl
    nobody (row ∷ xs) off = grind (arith, own port row, nobody xs)

-- how many names of the port there are
gone : Key → Bindings Key → ℕ
gone port rows = count (is_name is_key port) rows

parts : (port : Key) (rows : Bindings Key) → length (without_names is_key port rows) + gone port rows ≡ length rows
unfolding gone
parts port [] = refl
parts port (row ∷ rows) = grind (arith, parts port rows)

sum : (port : Key) (n : ℕ) (b : Bool) → (n == number_of port) ≡ b → (rows : Bindings Key) → count (is_numbered n) (without_names is_key port rows) + cond b (gone port rows) 0 ≡ count (is_numbered n) rows
unfolding gone
sum port n true same [] = refl
sum port n false same [] = refl
sum port n true same (row ∷ rows) = grind (arith, same, other port n row, sum port n true same rows)
sum port n false same (row ∷ rows) = grind (arith, same, other port n row, sum port n false same rows)

-- the names of other numbers stay, and of its own so many less as go
pub left : (port : Key) (n : ℕ) (rows : Bindings Key) → count (is_numbered n) (without_names is_key port rows) + (if n == number_of port then length rows - length (without_names is_key port rows) else 0) ≡ count (is_numbered n) rows
left port n rows =
    let fewer : length rows - length (without_names is_key port rows) ≡ gone port rows = omega (arith, parts port rows) in
    ap (λ k. count (is_numbered n) (without_names is_key port rows) + cond (n == number_of port) k 0) fewer
    ∙ sum port n (n == number_of port) refl rows

pub fewer : (port : Key) (rows : Bindings Key) → length (without_names is_key port rows) ≤ length rows
fewer port rows = omega (arith, parts port rows)

pub cancel : (a b one two all : ℕ) → a + one ≡ all → b + two ≡ all → one ≡ two → a ≡ b
cancel a b one two all first second same = omega (arith, first, second, same)
