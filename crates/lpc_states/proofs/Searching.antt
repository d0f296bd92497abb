-- Rows are looked for and passed, one after the other.
use Rattle.std.proofs.Common.{◌≡◌, refl, sym, ap, ◌∙◌, ℕ, Bool, true, false, ◌||◌, List, [], ◌∷◌, ◌++◌, append_assoc, append-nil, codes, length, Option, Some, None, is_some}
use Rattle.std.specs.List.{flat_map}
use Rattle.lpc_base.specs.Rows.{has}
use Rattle.lpc_model.specs.Script.{script_lines}
use Rattle.lpc_model.proofs.Steps.Rows.{has-append}
use Rattle.lpc_states.specs.Changes.{came_or_changed, is_named, is_row, name_of, told_as, went}
use Rattle.lpc_states.specs.Searching.{IsBehind, is_sought}
use Rattle.lpc_states.specs.declared.changes.Sought.TheVariants as by

-- all rows stand behind none
pub behind_none : (rows : List ℕ) → IsBehind rows rows
behind_none rows = record { front = []; parts = refl }

-- what stands behind the first row of what stands behind others
pub behind_one_more : (rows ahead later row : List ℕ) → IsBehind rows ahead → script_lines ahead ≡ row ∷ script_lines later → IsBehind rows later
behind_one_more rows ahead later row b first = record {
  front = b.front ++ row ∷ [];
  parts = b.parts ∙ (ap (λ rest. b.front ++ rest) first ∙ sym (append_assoc b.front (row ∷ []) (script_lines later)));
}

any_true : (b : Bool) → b || true ≡ true
any_true true = refl
any_true false = refl

module _ {A : Type 0} where
  -- a row passes, and so one of the rows does
  pub has_first : (p : A → Bool) (x : A) (xs : List A) → p x ≡ true → has p (x ∷ xs) ≡ true
  has_first p x xs passes = rw passes refl

  pub has_behind : (p : A → Bool) (front : List A) (x : A) (xs : List A) → p x ≡ true → has p (front ++ x ∷ xs) ≡ true
  has_behind p front x xs passes = rw (has-append p front (x ∷ xs), has_first p x xs passes) (any_true (has p front))

  -- a row that doesn't pass counts for nothing
  pub has_later : (p : A → Bool) (x : A) (xs : List A) → p x ≡ false → has p (x ∷ xs) ≡ has p xs
  has_later p x xs fails = rw fails refl

  -- the text of a row and of the later ones
  pub text_later : (f : A → List ℕ) (x : A) (xs : List A) (text : List ℕ) → (text ++ f x) ++ flat_map f xs ≡ text ++ flat_map f (x ∷ xs)
  text_later f x xs text = append_assoc text (f x) (flat_map f xs)

-- what is looked for by name, and as a whole
pub by_name : (name : List ℕ) (rows : List (List ℕ)) → has (is_sought by.Name name) rows ≡ has (is_named name) rows
unfolding is_sought
by_name name rows = refl

pub by_row : (row : List ℕ) (rows : List (List ℕ)) → has (is_sought by.Row row) rows ≡ has (is_row row) rows
unfolding is_sought
by_row row rows = refl

-- nothing is told of a row that went, where one behind has its name; else its name is
pub went_there : (n : ℕ) (after : List (List ℕ)) (row : List ℕ) → has (is_named (name_of row)) after ≡ true → went n after row ≡ []
unfolding went
went_there n after row is = rw is refl

pub went_missing : (n : ℕ) (after : List (List ℕ)) (row : List ℕ) → has (is_named (name_of row)) after ≡ false → went n after row ≡ told_as n (codes "went") (name_of row)
unfolding went
went_missing n after row is = rw is refl

-- nothing is told of a row that stood before; else that it came, or changed where one before has its name
pub new_there : (n : ℕ) (before : List (List ℕ)) (row : List ℕ) → has (is_row row) before ≡ true → came_or_changed n before row ≡ []
unfolding came_or_changed
new_there n before row is = rw is refl

pub new_changed : (n : ℕ) (before : List (List ℕ)) (row : List ℕ) → has (is_row row) before ≡ false → has (is_named (name_of row)) before ≡ true → came_or_changed n before row ≡ told_as n (codes "changed") row
unfolding came_or_changed
new_changed n before row is named = rw (is, named) refl

pub new_came : (n : ℕ) (before : List (List ℕ)) (row : List ℕ) → has (is_row row) before ≡ false → has (is_named (name_of row)) before ≡ false → came_or_changed n before row ≡ told_as n (codes "came") row
unfolding came_or_changed
new_came n before row is named = rw (is, named) refl

-- no row is ahead any longer: none of all is one that is looked for, and the text so far is all of it
pub none_ahead : (p : List ℕ → Bool) (ahead rows : List ℕ) → length ahead ≡ 0 → has p (script_lines ahead) ≡ has p (script_lines rows) → false ≡ has p (script_lines rows)
unfolding script_lines
none_ahead p [] rows empty same = same
none_ahead p (b ∷ ahead) rows empty same = absurd (cc)

pub all_told : (f : List ℕ → List ℕ) (rest text whole : List ℕ) → length rest ≡ 0 → text ++ flat_map f (script_lines rest) ≡ whole → text ≡ whole
unfolding script_lines
all_told f [] text whole empty same = sym (append-nil text) ∙ same
all_told f (b ∷ rest) text whole empty same = absurd (cc)

-- where there is nothing, nothing was found
pub none_found : {A : Type 0} (result : Option A) → ((x : A) → result ≡ Some x → ⊥) → is_some result ≡ false
none_found None never = refl
none_found (Some x) never = absurd (never x refl)
