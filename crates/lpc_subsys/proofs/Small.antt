-- What is kept of a client is bounded.
use Rattle.std.proofs.Common.{◌≡◌, ◌≤◌, ◌+◌, ◌∷◌, ◌&&◌, Bool, List, None, Option, Some, [], arith, cond, false, fold, inl, inr, length, length-append, option_map, refl, take, true, zero, suc, ℕ}
use Rattle.std.specs.Prelude.{nat_le, nat_lt, ◌==◌}
use Rattle.std.specs.List.{cons_option}
use Rattle.std.specs.Option.{option_and_then}
use Rattle.std.specs.Str.{bytes_eq}
use Rattle.std.proofs.lemmas.Bool.{cases_Bool}
use Rattle.std.proofs.lemmas.Bool.Decides.{nat_tests}
use Rattle.std.proofs.lemmas.List.{length-take}
use Rattle.lpc_base.specs.Rows.{every}
use Rattle.lpc_base.proofs.RowWords.{every-without}
use Rattle.lpc_message.specs.Layout.{word_at}
use Rattle.lpc_subsys.specs.Laws.{KeptIsSmall}
use Rattle.lpc_subsys.specs.Replies.{different, named_in, named_text, with_bytes, written_in}
use Rattle.lpc_subsys.specs.Requests.{Asked, Request, asked, asked_atom, asked_by, asked_level, asked_read, asked_telling, asked_text, asked_view, asked_write, atom_of, part_of_view, reading, setting, telling, text_of, where_holds, writing}
use Rattle.lpc_subsys.specs.declared.profile.TheConstants.{ATOM_LIMIT, CONSOLE_LIMIT, TEXT_LIMIT}

-- a text isn't longer than one that has an atom
abbrev is_short : List ℕ → Bool
is_short text = nat_le (length text) TEXT_LIMIT

-- where the atom of a text is asked for, the text is short
abbrev names_short : Option Asked → Bool
names_short None = true
names_short (Some (atom_of text)) = is_short text
names_short (Some other) = true

either : (b : Bool) (x y : Option Asked) → names_short x ≡ true → names_short y ≡ true → names_short (cond b x y) ≡ true
either true x y one two = one
either false x y one two = two

atom-short : (arguments : List ℕ) → names_short (asked_atom arguments) ≡ true
unfolding asked_atom
atom-short arguments = by_tests (nat_le 1 (length arguments)) (is_short arguments) refl
  where
    by_tests : (some few : Bool) → is_short arguments ≡ few → names_short (where_holds (some && few) (atom_of arguments)) ≡ true
    by_tests false few is = refl
    by_tests true false is = refl
    by_tests true true is = is

text-short : (arguments : List ℕ) → names_short (asked_text arguments) ≡ true
unfolding asked_text
text-short arguments = either (length arguments == 4) (Some (text_of (word_at arguments 0))) None refl refl

write-short : (arguments : List ℕ) → names_short (asked_write arguments) ≡ true
unfolding asked_write
write-short arguments = either _ (Some (writing arguments)) None refl refl

view-short : (arguments : List ℕ) (view : Option (List ℕ)) → names_short (asked_view arguments view) ≡ true
unfolding asked_view
view-short arguments view = either (length arguments == 8) _ None (by_part (part_of_view view (word_at arguments 0) (word_at arguments 4))) refl
  where
    by_part : (part : Option (List ℕ)) → names_short (option_map writing part) ≡ true
    by_part None = refl
    by_part (Some bytes) = refl

read-short : (arguments : List ℕ) → names_short (asked_read arguments) ≡ true
unfolding asked_read
read-short arguments = either _ (Some (reading (word_at arguments 0) (word_at arguments 4))) None refl refl

level-short : (arguments : List ℕ) → names_short (asked_level arguments) ≡ true
unfolding asked_level
level-short arguments = either _ (Some (setting (word_at arguments 0))) None refl refl

telling-short : (arguments : List ℕ) → names_short (asked_telling arguments) ≡ true
unfolding asked_telling
telling-short arguments = either (length arguments == 0) (Some telling) None refl refl

by-short : (api : ℕ) (arguments : List ℕ) (view : Option (List ℕ)) → names_short (asked_by api arguments view) ≡ true
unfolding asked_by
by-short api arguments view =
    either (api == 1) (asked_atom arguments) _ (atom-short arguments)
    (either (api == 2) (asked_text arguments) _ (text-short arguments)
    (either (api == 3) (asked_write arguments) _ (write-short arguments)
    (either (api == 4) (asked_view arguments view) _ (view-short arguments view)
    (either (api == 5) (asked_read arguments) _ (read-short arguments)
    (either (api == 6) (asked_level arguments) _ (level-short arguments)
    (either (api == 7) (asked_telling arguments) None (telling-short arguments) refl))))))

asked-short : (request : Request) → names_short (asked request) ≡ true
unfolding asked
asked-short request = either (nat_lt (length request.data_bytes) 4) None _ refl (by-short _ _ _)

-- the texts whose atoms are asked for
one-more : (what : Option Asked) (texts : List (List ℕ)) → names_short what ≡ true → every is_short texts ≡ true → every is_short (cons_option (option_and_then named_text what) texts) ≡ true
one-more None texts short all = all
one-more (Some (atom_of text)) texts short all = grind arith
one-more (Some (text_of atom)) texts short all = all
one-more (Some (writing bytes)) texts short all = all
one-more (Some (reading from count)) texts short all = all
one-more (Some (setting level)) texts short all = all
one-more (Some telling) texts short all = all

named-short : (requests : List Request) → every is_short (named_in requests) ≡ true
named-short [] = refl
named-short (request ∷ requests) = one-more (asked request) (named_in requests) (asked-short request) (named-short requests)

different-short : (texts : List (List ℕ)) → every is_short texts ≡ true → every is_short (different texts) ≡ true
different-short [] all = refl
different-short (text ∷ texts) all =
    let rest = different-short texts (grind arith) in
    grind (arith, every-without is_short (bytes_eq text) (different texts) rest)

take-short : (n : ℕ) (texts : List (List ℕ)) → every is_short texts ≡ true → every is_short (take n texts) ≡ true
take-short zero texts all = refl
take-short (suc n) [] all = refl
take-short (suc n) (text ∷ texts) all = grind (arith, take-short n texts)

-- the console
bytes-few : (console bytes : List ℕ) → length console ≤ CONSOLE_LIMIT → length (with_bytes console bytes) ≤ CONSOLE_LIMIT
bytes-few console bytes few =
    elim (cases_Bool (nat_le (length console + length bytes) CONSOLE_LIMIT)) [
      | inl fits ↦
          let within : length console + length bytes ≤ CONSOLE_LIMIT = grind (arith, nat_tests) in
          rw fits (omega (arith, length-append console bytes))
      | inr full ↦ rw full few
    ]

console-few : (console : List ℕ) (all : List (List ℕ)) → length console ≤ CONSOLE_LIMIT → length (fold with_bytes console all) ≤ CONSOLE_LIMIT
console-few console [] few = few
console-few console (bytes ∷ all) few = console-few (with_bytes console bytes) all (bytes-few console bytes few)

pub kept-small : KeptIsSmall
kept-small history = record {
  texts = omega (arith, length-take ATOM_LIMIT (different (named_in history.requests)));
  each_text = take-short ATOM_LIMIT (different (named_in history.requests)) (different-short (named_in history.requests) (named-short history.requests));
  console = console-few [] (written_in history.requests) (omega arith);
}
