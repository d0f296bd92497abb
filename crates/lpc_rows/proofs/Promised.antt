-- The handles that waiting connects are promised: what each change leaves of them.
use Rattle.std.proofs.Common.{◌≡◌, ℕ, ◌+◌, ◌<◌, ◌≤◌, List, [], ◌∷◌, ◌++◌, Bool, true, false, not, ◌||◌, ◌&&◌, ◌==◌, length, Option, Some, None, refl, ap, ◌∙◌, arith, length-append, subst}
use Rattle.std.specs.Prelude.{is_some, nat_le, nat_lt}
use Rattle.std.proofs.lemmas.Bool.Decides.{nat_tests}
use Rattle.std.proofs.lemmas.Bool.{and_parts, and_right, eqb-true, le-leb, leb-true, lt-ltb, ltb-true}
use Rattle.lpc_base.specs.Rows.{change, count, every, first, has, which, without}
use Rattle.lpc_base.proofs.Differ.{own-rows}
use Rattle.lpc_base.proofs.RowMaps.{every-both, every-change_to, every-first}
use Rattle.lpc_base.proofs.RowWords.{first-passes, count-push, every-change, every-more, every-push, every-unless, every-without, has-change, has-kept, without-none, every-changed}
use Rattle.lpc_base.proofs.Bools.{number-turned}
use Rattle.lpc_handles.specs.declared.table.Row.{Row}
use Rattle.lpc_model.specs.World.{HandleRow, HandleTable, WaitRow}
use Rattle.lpc_model.specs.Basics.{no_handles, put_handle, received, with_handle}
use Rattle.lpc_model.specs.Found.{is_accepted, is_connect, is_offered, is_table, is_taken, rows_in, waits_as}
use Rattle.lpc_model.specs.Tests.{is_connect_of}
use Rattle.lpc_homes.specs.Parts.{are_single_parts, handed, is_part, roomed, spare_at, spare_in}
use Rattle.lpc_rows.specs.Lawful.{IsPromised, are_single, are_single_tables, has_places, is_at_home, is_within}
use Rattle.lpc_homes.specs.declared.object.Object.{Object}
use Rattle.lpc_homes.specs.declared.parts.Part.{Part}

count-same : (pid : ℕ) (p q : ℕ) (xs : List WaitRow) → p ≡ q → count (is_connect_of p) xs ≡ count (is_connect_of q) xs
count-same pid p q xs same = ap (λ n. count (is_connect_of n) xs) same

-- A wait begins
-- a connect that begins finds the place of its handle
pub record IsWelcome (waits : List WaitRow) (handles : List HandleTable) (parts : List Part) (pid : ℕ) : Type 0 where
  pub place : count (is_connect_of pid) waits < spare_at parts pid
  pub load : length (rows_in (first (is_table pid) handles)) + count (is_connect_of pid) waits < 256
  pub table : has (is_table pid) handles ≡ true

other-wait : (pid : ℕ) (xs : List WaitRow) (x : WaitRow) → is_connect_of pid x ≡ false → count (is_connect_of pid) (xs ++ x ∷ []) ≡ count (is_connect_of pid) xs
other-wait pid xs x off = grind (arith, count-push (is_connect_of pid) xs x)

one-more : (pid : ℕ) (xs : List WaitRow) (x : WaitRow) → count (is_connect_of pid) (xs ++ x ∷ []) ≤ count (is_connect_of pid) xs + 1
one-more pid xs x = elim (is_connect_of pid x) as (λ b. is_connect_of pid x ≡ b → count (is_connect_of pid) (xs ++ x ∷ []) ≤ count (is_connect_of pid) xs + 1) [
  | true ↦ λ e. grind (arith, count-push (is_connect_of pid) xs x)
  | false ↦ λ e. grind (arith, count-push (is_connect_of pid) xs x)
] refl

not-connect : (pid : ℕ) (x : WaitRow) → is_connect x ≡ false → is_connect_of pid x ≡ false
not-connect pid x off = ap (λ b. b && (x.process == pid)) off

not-own : (pid : ℕ) (x : WaitRow) → (pid == x.process) ≡ false → is_connect_of pid x ≡ false
not-own pid x off = and_right (is_connect x) (x.process == pid) (number-turned x.process pid ∙ off)

second : (a b : Bool) → not a || b ≡ true → a ≡ true → b ≡ true
second true b h e = h
second false b h e = absurd (cc)

other-taken : (a b c : Bool) → a || b ≡ false → not b || c ≡ true
other-taken true b c off = absurd (cc)
other-taken false true c off = absurd (cc)
other-taken false false c off = refl

-- where a thread's wait was received, each of its waits was
own-received : (who : ℕ) (xs : List WaitRow) (x : WaitRow) → are_single xs ≡ true → first (waits_as who) xs ≡ Some x → x.received ≡ true → every (λ y. not (waits_as who y) || y.received) xs ≡ true
own-received = own-rows (λ (x : WaitRow). x.thread) (λ x. x.received)

-- what a change of a wait leaves of that
pub received-taken : (who : ℕ) (xs : List WaitRow) → every is_taken xs ≡ true → every is_taken (change (waits_as who) received xs) ≡ true
received-taken who xs all = every-change is_taken (waits_as who) received (λ x there. yes (is_accepted x)) xs all
  where
    yes : (a : Bool) → not a || true ≡ true
    yes true = refl
    yes false = refl

pub kept-taken : (who : ℕ) (g : WaitRow → WaitRow) → ((x : WaitRow) → is_accepted (g x) ≡ is_accepted x) → ((x : WaitRow) → (g x).received ≡ x.received) → (xs : List WaitRow) → every is_taken xs ≡ true → every is_taken (change (waits_as who) g xs) ≡ true
kept-taken who g kind took xs all = every-change is_taken (waits_as who) g (λ x there. (λ i. not (kind x i) || took x i) ∙ there) xs all

pub accepted-taken : (who : ℕ) (g : WaitRow → WaitRow) → ((x : WaitRow) → (g x).received ≡ x.received) → (xs : List WaitRow) (x : WaitRow) → are_single xs ≡ true → first (waits_as who) xs ≡ Some x → x.received ≡ true → every is_taken xs ≡ true → every is_taken (change (waits_as who) g xs) ≡ true
accepted-taken who g took xs x one at is all =
    every-changed is_taken (λ y. not (waits_as who y) || y.received) (waits_as who) g (λ y there own here. yes (is_accepted (g y)) (g y).received (took y ∙ second (waits_as who y) y.received own here)) xs all (own-received who xs x one at is)
  where
    yes : (a b : Bool) → b ≡ true → not a || b ≡ true
    yes true b h = h
    yes false b h = refl

module _ (waits : List WaitRow) (handles : List HandleTable) (parts : List Part) (is : IsPromised waits handles parts) where
  -- a wait that is no connect
  pub other-begins : (x : WaitRow) → is_connect x ≡ false → IsPromised (waits ++ x ∷ []) handles parts
  other-begins x off = record {
    places = every-more (has_places waits) (has_places (waits ++ x ∷ [])) (λ part there. ap (λ n. nat_le n part.handles.spare) (other-wait part.process waits x (not-connect part.process x off)) ∙ there) parts is.places;
    loads = every-more (is_within waits) (is_within (waits ++ x ∷ [])) (λ t there. ap (λ n. nat_le (length t.rows + n) 256) (other-wait t.process waits x (not-connect t.process x off)) ∙ there) handles is.loads;
    homes = every-push (is_at_home handles) waits x is.homes (ap (λ b. not b || has (is_table x.process) handles) off);
    taken = every-push is_taken waits x is.taken (other-taken (is_offered x) (is_accepted x) x.received off);
  }

  -- a connect
  abbrev has-spare : ℕ → Part → Bool
  has-spare pid part = nat_lt (count (is_connect_of pid) waits) part.handles.spare

  abbrev has-load : ℕ → HandleTable → Bool
  has-load pid t = nat_lt (length t.rows + count (is_connect_of pid) waits) 256

  spare-all : (pid : ℕ) → are_single_parts parts ≡ true → count (is_connect_of pid) waits < spare_at parts pid → every (λ p. not (is_part pid p) || has-spare pid p) parts ≡ true
  spare-all pid one place = by_first (first (is_part pid) parts) refl
    where
      by_first : (o : Option Part) → first (is_part pid) parts ≡ o → every (λ p. not (is_part pid p) || has-spare pid p) parts ≡ true
      by_first None at = let no : spare_at parts pid ≡ 0 = ap spare_in at in absurd (omega (arith, no, place))
      by_first (Some part) at = let some : spare_at parts pid ≡ part.handles.spare = ap spare_in at in own-rows (λ (p : Part). p.process) (has-spare pid) pid parts part one at (lt-ltb _ _ (omega (arith, some, place)))

  load-all : (pid : ℕ) → are_single_tables handles ≡ true → length (rows_in (first (is_table pid) handles)) + count (is_connect_of pid) waits < 256 → has (is_table pid) handles ≡ true → every (λ t. not (is_table pid t) || has-load pid t) handles ≡ true
  load-all pid one load there = by_first (first (is_table pid) handles) refl
    where
      by_first : (o : Option HandleTable) → first (is_table pid) handles ≡ o → every (λ t. not (is_table pid t) || has-load pid t) handles ≡ true
      by_first None at = let no : has (is_table pid) handles ≡ false = ap is_some at in absurd (cc)
      by_first (Some t) at = own-rows (λ (t : HandleTable). t.process) (has-load pid) pid handles t one at (lt-ltb _ _ (let some : length (rows_in (first (is_table pid) handles)) ≡ length t.rows = ap (λ o. length (rows_in o)) at in omega (arith, some, load)))

  pub connect-begins : (x : WaitRow) → are_single_parts parts ≡ true → are_single_tables handles ≡ true → is_taken x ≡ true → IsWelcome waits handles parts x.process → IsPromised (waits ++ x ∷ []) handles parts
  connect-begins x one single fresh h = record {
    places = every-both (has_places waits) (λ p. not (is_part x.process p) || has-spare x.process p) (has_places (waits ++ x ∷ [])) placed parts is.places (spare-all x.process one h.place);
    loads = every-both (is_within waits) (λ t. not (is_table x.process t) || has-load x.process t) (is_within (waits ++ x ∷ [])) loaded handles is.loads (load-all x.process single h.load h.table);
    homes = every-push (is_at_home handles) waits x is.homes (home (is_connect x) (has (is_table x.process) handles) h.table);
    taken = every-push is_taken waits x is.taken fresh;
  }
    where
      home : (a b : Bool) → b ≡ true → not a || b ≡ true
      home true b e = e
      home false b e = refl

      placed : (part : Part) → has_places waits part ≡ true → not (is_part x.process part) || has-spare x.process part ≡ true → has_places (waits ++ x ∷ []) part ≡ true
      placed part there more = elim (is_part x.process part) as (λ b. is_part x.process part ≡ b → has_places (waits ++ x ∷ []) part ≡ true) [
        | true ↦ λ own.
            let same : part.process ≡ x.process = eqb-true part.process x.process own in
            let lt : count (is_connect_of part.process) waits < part.handles.spare = rw same (ltb-true _ _ (second (is_part x.process part) (has-spare x.process part) more own)) in
            let le = one-more part.process waits x in
            le-leb _ _ (omega (arith, lt, le))
        | false ↦ λ off. ap (λ n. nat_le n part.handles.spare) (other-wait part.process waits x (not-own part.process x off)) ∙ there
      ] refl

      loaded : (t : HandleTable) → is_within waits t ≡ true → not (is_table x.process t) || has-load x.process t ≡ true → is_within (waits ++ x ∷ []) t ≡ true
      loaded t there more = elim (is_table x.process t) as (λ b. is_table x.process t ≡ b → is_within (waits ++ x ∷ []) t ≡ true) [
        | true ↦ λ own.
            let same : t.process ≡ x.process = eqb-true t.process x.process own in
            let lt : length t.rows + count (is_connect_of t.process) waits < 256 = rw same (ltb-true _ _ (second (is_table x.process t) (has-load x.process t) more own)) in
            let le = one-more t.process waits x in
            le-leb _ _ (omega (arith, lt, le))
        | false ↦ λ off. ap (λ n. nat_le (length t.rows + n) 256) (other-wait t.process waits x (not-own t.process x off)) ∙ there
      ] refl

  -- a wait of either sort
  pub begins : (x : WaitRow) → are_single_parts parts ≡ true → are_single_tables handles ≡ true → is_taken x ≡ true → (is_connect x ≡ true → IsWelcome waits handles parts x.process) → IsPromised (waits ++ x ∷ []) handles parts
  begins x one single fresh h = elim (is_connect x) as (λ b. is_connect x ≡ b → IsPromised (waits ++ x ∷ []) handles parts) [
    | true ↦ λ e. connect-begins x one single fresh (h e)
    | false ↦ λ e. other-begins x e
  ] refl

  -- a wait ends
  pub fewer : (pid : ℕ) (test : WaitRow → Bool) (xs : List WaitRow) → count (is_connect_of pid) (without test xs) ≤ count (is_connect_of pid) xs
  fewer pid test [] = omega arith
  fewer pid test (x ∷ xs) = grind (arith, fewer pid test xs)

  pub wait-ends : (test : WaitRow → Bool) → IsPromised (without test waits) handles parts
  wait-ends test = record {
    places = every-more (has_places waits) (has_places (without test waits)) (λ part there. le-leb _ _ (let le = leb-true _ _ there in let less = fewer part.process test waits in omega (arith, le, less))) parts is.places;
    loads = every-more (is_within waits) (is_within (without test waits)) (λ t there. le-leb _ _ (let le = leb-true _ _ there in let less = fewer t.process test waits in omega (arith, le, less))) handles is.loads;
    homes = every-without (is_at_home handles) test waits is.homes;
    taken = every-without is_taken test waits is.taken;
  }

  -- a wait is changed, and is a connect of its process where it was
  pub wait-stays : (test : WaitRow → Bool) (g : WaitRow → WaitRow) → ((x : WaitRow) → is_connect (g x) ≡ is_connect x) → ((x : WaitRow) → (g x).process ≡ x.process) → every is_taken (change test g waits) ≡ true → IsPromised (change test g waits) handles parts
  wait-stays test g kind own taken = record {
    places = every-more (has_places waits) (has_places (change test g waits)) (λ part there. ap (λ n. nat_le n part.handles.spare) (as-many part.process waits) ∙ there) parts is.places;
    loads = every-more (is_within waits) (is_within (change test g waits)) (λ t there. ap (λ n. nat_le (length t.rows + n) 256) (as-many t.process waits) ∙ there) handles is.loads;
    homes = every-change (is_at_home handles) test g (λ x there. ap (λ b. not b || has (is_table (g x).process) handles) (kind x) ∙ ap (λ n. not (is_connect x) || has (is_table n) handles) (own x) ∙ there) waits is.homes;
    taken = taken;
  }
    where
      as-many : (pid : ℕ) (xs : List WaitRow) → count (is_connect_of pid) (change test g xs) ≡ count (is_connect_of pid) xs
      as-many pid [] = refl
      as-many pid (x ∷ xs) = grind (arith, kind x, own x, as-many pid xs)

  -- a process without handles, which waits in no connect
  no-connect : (pid : ℕ) (xs : List WaitRow) → every (is_at_home handles) xs ≡ true → has (is_table pid) handles ≡ false → count (is_connect_of pid) xs ≡ 0
  no-connect pid [] all none = refl
  no-connect pid (x ∷ xs) all none = elim (is_connect_of pid x) as (λ b. is_connect_of pid x ≡ b → count (is_connect_of pid) (x ∷ xs) ≡ 0) [
    | true ↦ λ own.
        let both-own = and_parts (is_connect x) (x.process == pid) own in
        let same : x.process ≡ pid = eqb-true x.process pid both-own.1 in
        let yes : has (is_table x.process) handles ≡ true = second (is_connect x) (has (is_table x.process) handles) (grind arith) both-own.0 in
        absurd (grind (arith, ap (λ n. has (is_table n) handles) same))
    | false ↦ λ off. grind (arith, no-connect pid xs)
  ] refl

  pub process-comes : (pid : ℕ) (part : Part) → part.process ≡ pid → has (is_table pid) handles ≡ false → IsPromised waits (handles ++ no_handles pid ∷ []) (parts ++ part ∷ [])
  process-comes pid part own new =
      let none = no-connect pid waits is.homes new in
      record {
        places = every-push (has_places waits) parts part is.places (le-leb _ _ (let zero : count (is_connect_of part.process) waits ≡ 0 = rw own none in omega (arith, zero)));
        loads = every-push (is_within waits) handles (no_handles pid) is.loads (le-leb _ _ (omega (arith, none)));
        homes = every-more (is_at_home handles) (is_at_home (handles ++ no_handles pid ∷ [])) (λ x there. home x there) waits is.homes;
        taken = is.taken;
      }
    where
      home : (x : WaitRow) → is_at_home handles x ≡ true → is_at_home (handles ++ no_handles pid ∷ []) x ≡ true
      home x there = elim (is_connect x) as (λ b. is_connect x ≡ b → is_at_home (handles ++ no_handles pid ∷ []) x ≡ true) [
        | true ↦ λ e. let old : has (is_table x.process) handles ≡ true = second (is_connect x) (has (is_table x.process) handles) there e in
            ap (λ b. not (is_connect x) || b) (has-kept (is_table x.process) handles (no_handles pid) old) ∙ yes (is_connect x)
        | false ↦ λ e. ap (λ b. not b || has (is_table x.process) (handles ++ no_handles pid ∷ [])) e
      ] refl
        where
          yes : (a : Bool) → not a || true ≡ true
          yes true = refl
          yes false = refl

  -- more room for handles
  pub room-grows : (pid spare : ℕ) → spare_at parts pid ≤ spare → are_single_parts parts ≡ true → IsPromised waits handles (change (is_part pid) (roomed spare) parts)
  room-grows pid spare more one = record {
    places = every-changed (has_places waits) (λ p. not (is_part pid p) || nat_le p.handles.spare spare) (is_part pid) (roomed spare) (λ part there le own. le-leb _ _ (let a = leb-true _ _ there in let b = leb-true _ _ (second (is_part pid part) (nat_le part.handles.spare spare) le own) in omega (arith, a, b))) parts is.places (by_first (first (is_part pid) parts) refl);
    loads = is.loads;
    homes = is.homes;
    taken = is.taken;
  }
    where
      by_first : (o : Option Part) → first (is_part pid) parts ≡ o → every (λ p. not (is_part pid p) || nat_le p.handles.spare spare) parts ≡ true
      by_first None at = every-unless (is_part pid) (λ p. nat_le p.handles.spare spare) parts (ap is_some at)
      by_first (Some part) at = own-rows (λ (p : Part). p.process) (λ p. nat_le p.handles.spare spare) pid parts part one at (le-leb _ _ (let some : spare_at parts pid ≡ part.handles.spare = ap spare_in at in omega (arith, some, more)))

  -- a handle comes, beside those that are promised
  pub put-long : (h : HandleRow) (rows : List HandleRow) → length (put_handle h rows) ≤ length rows + 1
  put-long h rows =
      let a = which-shorter (λ r. nat_lt r.value h.value) (λ r. nat_lt h.value r.value) rows in
      grind (arith, a, length-append (which (λ r. nat_lt r.value h.value) rows) (h ∷ which (λ r. nat_lt h.value r.value) rows))
    where
      which-shorter : (p q : HandleRow → Bool) (rs : List HandleRow) → length (which (λ r. nat_lt r.value h.value) rs) + length (which (λ r. nat_lt h.value r.value) rs) ≤ length rs
      which-shorter p q [] = omega arith
      which-shorter p q (r ∷ rs) = grind (arith, nat_tests, which-shorter p q rs)

  pub has-table : (pid : ℕ) (row : HandleRow) (n : ℕ) → has (is_table n) (change (is_table pid) (with_handle row) handles) ≡ has (is_table n) handles
  has-table pid row n = has-change (is_table n) (is_table pid) (with_handle row) (λ t. refl) handles

  pub handle-comes : (pid value : ℕ) (shown : HandleRow) (row : Row Object) → are_single_parts parts ≡ true → are_single_tables handles ≡ true → IsWelcome waits handles parts pid → IsPromised waits (change (is_table pid) (with_handle shown) handles) (change (is_part pid) (handed value row) parts)
  handle-comes pid value shown row one single h = record {
    places = every-changed (has_places waits) (λ p. not (is_part pid p) || has-spare pid p) (is_part pid) (handed value row) placed parts is.places (spare-all pid one h.place);
    loads = every-changed (is_within waits) (λ t. not (is_table pid t) || has-load pid t) (is_table pid) (with_handle shown) loaded handles is.loads (load-all pid single h.load h.table);
    homes = every-more (is_at_home handles) (is_at_home (change (is_table pid) (with_handle shown) handles)) (λ x there. ap (λ b. not (is_connect x) || b) (has-table pid shown x.process) ∙ there) waits is.homes;
    taken = is.taken;
  }
    where
      placed : (part : Part) → has_places waits part ≡ true → not (is_part pid part) || has-spare pid part ≡ true → is_part pid part ≡ true → has_places waits (handed value row part) ≡ true
      placed part there more own =
          let same : part.process ≡ pid = eqb-true part.process pid own in
          let lt : count (is_connect_of part.process) waits < part.handles.spare = rw same (ltb-true _ _ (second (is_part pid part) (has-spare pid part) more own)) in
          le-leb _ _ (omega (arith, lt))

      loaded : (t : HandleTable) → is_within waits t ≡ true → not (is_table pid t) || has-load pid t ≡ true → is_table pid t ≡ true → is_within waits (with_handle shown t) ≡ true
      loaded t there more own =
          let same : t.process ≡ pid = eqb-true t.process pid own in
          let lt : length t.rows + count (is_connect_of t.process) waits < 256 = rw same (ltb-true _ _ (second (is_table pid t) (has-load pid t) more own)) in
          let le = put-long shown t.rows in
          le-leb _ _ (omega (arith, lt, le))

-- A connect gets the handle that it was promised, and ends
pub count-ended : (tid pid : ℕ) (xs : List WaitRow) (x : WaitRow) → are_single xs ≡ true → first (waits_as tid) xs ≡ Some x → is_connect_of pid x ≡ true → count (is_connect_of pid) (without (waits_as tid) xs) + 1 ≡ count (is_connect_of pid) xs
count-ended tid pid [] y one at own = absurd (cc)
count-ended tid pid (x ∷ xs) y one at own = elim (x.thread == tid) as (λ b. (x.thread == tid) ≡ b → count (is_connect_of pid) (without (waits_as tid) (x ∷ xs)) + 1 ≡ count (is_connect_of pid) (x ∷ xs)) [
  | true ↦ λ here.
      let same : x ≡ y = grind arith in
      let counts : is_connect_of pid x ≡ true = ap (is_connect_of pid) same ∙ own in
      let none : has (waits_as tid) xs ≡ false = rw (← eqb-true x.thread tid here) (grind arith) in
      grind (arith, counts, without-none (waits_as tid) xs none)
  | false ↦ λ off. grind (arith, count-ended tid pid xs y)
] refl

pub connect-finishes : (waits : List WaitRow) (handles : List HandleTable) (parts : List Part) (tid pid value : ℕ) (shown : HandleRow) (row : Row Object) (x : WaitRow) → IsPromised waits handles parts → are_single waits ≡ true → first (waits_as tid) waits ≡ Some x → is_connect_of pid x ≡ true
    → IsPromised (without (waits_as tid) waits) (change (is_table pid) (with_handle shown) handles) (change (is_part pid) (handed value row) parts)
connect-finishes waits handles parts tid pid value shown row x is one at own = record {
  places = every-change_to (has_places waits) (has_places (without (waits_as tid) waits)) (is_part pid) (handed value row) placed (λ part there off. le-leb _ _ (let le = leb-true _ _ there in let less = fewer waits handles parts is part.process (waits_as tid) waits in omega (arith, le, less))) parts is.places;
  loads = every-change_to (is_within waits) (is_within (without (waits_as tid) waits)) (is_table pid) (with_handle shown) loaded (λ t there off. le-leb _ _ (let le = leb-true _ _ there in let less = fewer waits handles parts is t.process (waits_as tid) waits in omega (arith, le, less))) handles is.loads;
  homes = every-without (is_at_home (change (is_table pid) (with_handle shown) handles)) (waits_as tid) waits (every-more (is_at_home handles) (is_at_home (change (is_table pid) (with_handle shown) handles)) (λ y there. ap (λ b. not (is_connect y) || b) (has-table waits handles parts is pid shown y.process) ∙ there) waits is.homes);
  taken = every-without is_taken (waits_as tid) waits is.taken;
}
  where
    placed : (part : Part) → has_places waits part ≡ true → is_part pid part ≡ true → has_places (without (waits_as tid) waits) (handed value row part) ≡ true
    placed part there mine =
        let same : part.process ≡ pid = eqb-true part.process pid mine in
        let less : count (is_connect_of part.process) (without (waits_as tid) waits) + 1 ≡ count (is_connect_of part.process) waits = rw same (count-ended tid pid waits x one at own) in
        let le = leb-true _ _ there in
        le-leb _ _ (omega (arith, less, le))

    loaded : (t : HandleTable) → is_within waits t ≡ true → is_table pid t ≡ true → is_within (without (waits_as tid) waits) (with_handle shown t) ≡ true
    loaded t there mine =
        let same : t.process ≡ pid = eqb-true t.process pid mine in
        let less : count (is_connect_of t.process) (without (waits_as tid) waits) + 1 ≡ count (is_connect_of t.process) waits = rw same (count-ended tid pid waits x one at own) in
        let le = leb-true _ _ there in
        let long = put-long waits handles parts is shown t.rows in
        le-leb _ _ (omega (arith, less, le, long))

-- what was promised is there
pub record IsKept (handles : List HandleTable) (parts : List Part) (pid : ℕ) : Type 0 where
  pub table : has (is_table pid) handles ≡ true
  pub few : length (rows_in (first (is_table pid) handles)) < 256
  pub place : has (is_part pid) parts ≡ true → 0 < spare_at parts pid

pub promise-kept : (waits : List WaitRow) (handles : List HandleTable) (parts : List Part) (tid pid : ℕ) (x : WaitRow) → IsPromised waits handles parts → are_single waits ≡ true → first (waits_as tid) waits ≡ Some x → is_connect_of pid x ≡ true → IsKept handles parts pid
promise-kept waits handles parts tid pid x is one at own =
    let some = count-ended tid pid waits x one at own in
    let mine = and_parts (is_connect x) (x.process == pid) own in
    let same : x.process ≡ pid = eqb-true x.process pid mine.1 in
    let there : has (is_table pid) handles ≡ true = subst (λ n. has (is_table n) handles ≡ true) same (second (is_connect x) (has (is_table x.process) handles) (every-first (is_at_home handles) (waits_as tid) waits x is.homes at) mine.0) in
    record { table = there; few = few_by some (first (is_table pid) handles) refl; place = λ here. place_by some here (first (is_part pid) parts) refl }
  where
    few_by : count (is_connect_of pid) (without (waits_as tid) waits) + 1 ≡ count (is_connect_of pid) waits → (o : Option HandleTable) → first (is_table pid) handles ≡ o → length (rows_in o) < 256
    few_by some None is' = omega arith
    few_by some (Some t) is' =
        let same : t.process ≡ pid = eqb-true t.process pid (first-passes (is_table pid) handles t is') in
        let le : length t.rows + count (is_connect_of pid) waits ≤ 256 = subst (λ n. length t.rows + count (is_connect_of n) waits ≤ 256) same (leb-true _ _ (every-first (is_within waits) (is_table pid) handles t is.loads is')) in
        omega (arith, some, le)

    place_by : count (is_connect_of pid) (without (waits_as tid) waits) + 1 ≡ count (is_connect_of pid) waits → has (is_part pid) parts ≡ true → (o : Option Part) → first (is_part pid) parts ≡ o → 0 < spare_in o
    place_by some here None is' = let no : has (is_part pid) parts ≡ false = ap is_some is' in absurd (cc)
    place_by some here (Some part) is' =
        let same : part.process ≡ pid = eqb-true part.process pid (first-passes (is_part pid) parts part is') in
        let le : count (is_connect_of pid) waits ≤ part.handles.spare = subst (λ n. count (is_connect_of n) waits ≤ part.handles.spare) same (leb-true _ _ (every-first (has_places waits) (is_part pid) parts part is.places is')) in
        omega (arith, some, le)

pub none-promised : IsPromised [] [] []
none-promised = record { places = refl; loads = refl; homes = refl; taken = refl }
