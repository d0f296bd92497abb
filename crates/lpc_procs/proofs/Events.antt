-- The ports that are told of exceptions, and the process that is to end next.
use Rattle.std.proofs.Common.{◌≡◌, ◌+◌, ◌≤◌, ℕ, zero, suc, List, [], ◌∷◌, Bool, true, false, cond, length, set, None, Option, Some, option_map, refl, ap, sym, ◌∙◌, arith}
use Rattle.std.specs.Prelude.{filter, is_some, nat_lt, slice_get, option_to_list, ◌&&◌, ◌++◌, ◌||◌}
use Rattle.std.proofs.lemmas.Bool.Decides.{nat_tests}
use Rattle.std.proofs.lemmas.List.{length-append}
use Rattle.lpc_base.specs.declared.birth.Birth.{Birth}
use Rattle.lpc_base.specs.Rows.{change, count, every, has, passes, which}
use Rattle.lpc_base.proofs.RowMaps.{which-map}
use Rattle.lpc_procs.specs.declared.rows.Counted.{Counted}
use Rattle.lpc_procs.specs.declared.rows.Doomed.{Doomed}
use Rattle.lpc_procs.specs.declared.rows.ProcessRow.{ProcessRow}
use Rattle.lpc_procs.specs.declared.rows.Registration.{Registration}
use Rattle.lpc_procs.specs.declared.rows.ThreadRow.{ThreadRow}
use Rattle.lpc_procs.specs.Kept.{doomed_in, is_counted, is_doomed_row, is_watched, lesser_doomed, process_rows, told_in}
use Rattle.lpc_procs.specs.Procs.{doomed_as, event_ports, event_ports_of, excepted, is_doomed, is_of_birth, least, lesser}
use Rattle.lpc_procs.proofs.Counts.{lives-counted}

-- two optional values as a list
module _ {X : Type 0} (test : X → Bool) where
  pub has_listed : (one other : Option X) → (passes one test || passes other test) ≡ has test (option_to_list one ++ option_to_list other)
  has_listed None None = refl
  has_listed None (Some y) = grind arith
  has_listed (Some x) None = grind arith
  has_listed (Some x) (Some y) = grind arith

  pub count_listed : (one other : Option X) → count test (option_to_list one ++ option_to_list other) ≡ cond (passes one test) 1 0 + cond (passes other test) 1 0
  count_listed None None = refl
  count_listed None (Some y) = grind arith
  count_listed (Some x) None = grind arith
  count_listed (Some x) (Some y) = grind arith

-- the next to end, of rows with their counts
abbrev pub next_doomed : List Counted → Option Doomed
next_doomed ps = option_map doomed_as (least (process_rows (which is_doomed_row ps)))

lesser-told : (p : ProcessRow) (o : Option ProcessRow) → lesser_doomed (Some (doomed_as p)) (option_map doomed_as o) ≡ Some (doomed_as (lesser p o))
lesser-told p None = refl
lesser-told p (Some q) = elim (nat_lt q.number p.number) as (λ b. cond b (Some (doomed_as q)) (Some (doomed_as p)) ≡ Some (doomed_as (cond b q p))) [ true ↦ refl | false ↦ refl ]

-- a row comes before others
pub doomed_first : (p : Counted) (ps : List Counted) → lesser_doomed (doomed_in p) (next_doomed ps) ≡ next_doomed (p ∷ ps)
doomed_first p ps = at (is_doomed_row p) refl
  where
    at : (b : Bool) → is_doomed_row p ≡ b → lesser_doomed (doomed_in p) (next_doomed ps) ≡ next_doomed (p ∷ ps)
    at true is = rw is (lesser-told p.row (least (process_rows (which is_doomed_row ps))))
    at false off = rw off refl

-- of three the one of the least number
pub doomed_last : (one other third : Option Doomed) → lesser_doomed (lesser_doomed one other) third ≡ lesser_doomed one (lesser_doomed other third)
doomed_last None other third = refl
doomed_last (Some d) None third = refl
doomed_last (Some d) (Some e) None = grind arith
doomed_last (Some d) (Some e) (Some f) = grind (arith, nat_tests)

-- which are to end and live, by the counts
pub doomed-counted : (ts : List ThreadRow) (ps : List Counted) → every (is_counted ts) ps ≡ true → which (is_doomed ts) (process_rows ps) ≡ process_rows (which is_doomed_row ps)
doomed-counted ts ps counts =
    sym (which-map (λ (p : Counted). p.row) (is_counted ts) is_doomed_row (is_doomed ts) (λ p counted. ap (λ b. is_some p.row.doom && b) (sym (lives-counted ts p counted))) ps counts)

-- a count where one row is written over
pub count-written : {X : Type 0} (p : X → Bool) (xs : List X) (i : ℕ) (x y : X) → slice_get xs i ≡ Some x → count p (set xs i y) + cond (p x) 1 0 ≡ count p xs + cond (p y) 1 0
count-written p [] i x y here = absurd (cc)
count-written p (z ∷ xs) zero x y here =
    let same : z ≡ x = cc in
    let is : p z ≡ p x = ap p same in
    grind (arith, is)
count-written p (z ∷ xs) (suc i) x y here = grind (arith, count-written p xs i x y here)

-- a row that passes is counted
pub one-counts : {X : Type 0} (p : X → Bool) (xs : List X) (i : ℕ) (x : X) → slice_get xs i ≡ Some x → cond (p x) 1 0 ≤ count p xs
one-counts p [] i x here = absurd (cc)
one-counts p (y ∷ xs) zero x here =
    let same : y ≡ x = cc in
    let is : p y ≡ p x = ap p same in
    grind (arith, is)
one-counts p (y ∷ xs) (suc i) x here = grind (arith, one-counts p xs i x here)

-- a count of rows that change, but not in what is counted
pub count-unseen : {X : Type 0} (p s : X → Bool) (f : X → X) → ((x : X) → p (f x) ≡ p x) → (xs : List X) → count p (change s f xs) ≡ count p xs
count-unseen p s f same [] = refl
count-unseen p s f same (x ∷ xs) = grind (arith, same x, count-unseen p s f same xs)

-- where none is to end, none is the next
pub none-doomed : (ps : List Counted) → count is_doomed_row ps ≡ 0 → next_doomed ps ≡ None
none-doomed [] none = refl
none-doomed (p ∷ ps) none = at (is_doomed_row p) refl (none-doomed ps)
  where
    at : (b : Bool) → is_doomed_row p ≡ b → (count is_doomed_row ps ≡ 0 → next_doomed ps ≡ None) → next_doomed (p ∷ ps) ≡ None
    at true is rest = absurd (grind (arith, is, none))
    at false off rest = rw off (rest (grind (arith, off, none)))

-- a process has an exception port once it was given one
pub excepted-watched : (p : Counted) (r : Registration) → is_watched (record p { row = excepted r p.row }) ≡ true
excepted-watched p r = by (is_some p.row.debug_port)
  where
    by : (b : Bool) → (b || true) ≡ true
    by true = refl
    by false = refl

-- where no port is told of exceptions, none of a birth is
pub unwatched : {X : Type 0} (one other : Option X) → (is_some one || is_some other) ≡ false → option_to_list one ++ option_to_list other ≡ []
unwatched None None off = refl
unwatched None (Some y) off = absurd (cc)
unwatched (Some x) other off = absurd (cc)

-- all that are told, by the rows with their counts
pub told-shown : (ps : List Counted) → told_in ps ≡ event_ports (process_rows ps)
told-shown [] = refl
told-shown (p ∷ ps) = ap (λ rs. event_ports_of p.row ++ rs) (told-shown ps)

-- each process of whose exceptions a port is told has such a port
pub watched-told : (ps : List Counted) → count is_watched ps ≤ length (told_in ps)
watched-told [] = omega arith
watched-told (p ∷ ps) =
    let own = listed p.row.debug_port p.row.exception_port in
    let all = length-append (event_ports_of p.row) (told_in ps) in
    by (is_watched p) own all (watched-told ps)
  where
    listed : {X : Type 0} (one other : Option X) → cond (is_some one || is_some other) 1 0 ≤ length (option_to_list one ++ option_to_list other)
    listed None None = omega arith
    listed None (Some y) = omega arith
    listed (Some x) other = grind arith

    by : (b : Bool) → cond b 1 0 ≤ length (event_ports_of p.row) → length (told_in (p ∷ ps)) ≡ length (event_ports_of p.row) + length (told_in ps) → count is_watched ps ≤ length (told_in ps) → length (cond b (p ∷ filter is_watched ps) (filter is_watched ps)) ≤ length (told_in (p ∷ ps))
    by true own all rest = omega (arith, own, all, rest)
    by false own all rest = omega (arith, own, all, rest)

pub none-told : (b : Birth) (ps : List Counted) → count is_watched ps ≡ 0 → count (is_of_birth b) (told_in ps) ≡ 0
none-told b [] none = refl
none-told b (p ∷ ps) none =
    let off : is_watched p ≡ false = grind arith in
    let own = unwatched p.row.debug_port p.row.exception_port off in
    let rest : count is_watched ps ≡ 0 = grind (arith, off) in
    ap (λ rs. count (is_of_birth b) (rs ++ told_in ps)) own ∙ none-told b ps rest
