-- What the changes of rows keep.
use Rattle.std.proofs.Common.{◌≡◌, ℕ, List, [], ◌∷◌, ◌++◌, Bool, true, false, set, slice_get, ◌<◌, refl, ap, ◌∙◌, arith}
use Rattle.std.specs.Prelude.{Option, Some, None, is_some, IfSome, option_map, nat_lt, ◌==◌}
use Rattle.std.proofs.lemmas.Bool.Decides.{nat_tests}
use Rattle.std.proofs.lemmas.Bool.{eqb-true, lt-ltb}
use Rattle.lpc_base.specs.Rows.{change, every, first, has, without_first}
use Rattle.lpc_base.proofs.Differ.{differ-change, differ-push, set-change}
use Rattle.lpc_base.proofs.RowMaps.{every-without_first}
use Rattle.lpc_base.proofs.RowWords.{every-change, every-more, every-push, first-kept, first-push}
use Rattle.arrayvec.specs.ArrayVec.{ArrayVec}
use Rattle.lpc_procs.proofs.Gone.{differ-without_first}
use Rattle.lpc_procs.specs.declared.rows.Registration.{Registration}
use Rattle.lpc_procs.specs.declared.rows.ThreadRow.{ThreadRow}
use Rattle.lpc_procs.specs.declared.rows.UsedThread.{UsedThread}
use Rattle.lpc_procs.specs.Kept.{are_single, is_below, is_noted, is_of, IsKept}
use Rattle.lpc_procs.specs.Procs.{is_thread, is_used_thread}

noted-push : (used : List UsedThread) (u : UsedThread) (t : ThreadRow) (o : Option UsedThread) → first (is_used_thread t.number) used ≡ o → is_of t.process o ≡ true → is_noted (used ++ u ∷ []) t ≡ true
noted-push used u t None is of = cc
noted-push used u t (Some v) is of = rw (first-kept (is_used_thread t.number) used u v is) of

pub unused-absent : (tid : ℕ) (used : List UsedThread) (ts : List ThreadRow) → has (is_used_thread tid) used ≡ false → every (is_noted used) ts ≡ true → has (is_thread tid) ts ≡ false
unused-absent tid used [] new noted = refl
unused-absent tid used (t ∷ ts) new noted = step (t.number == tid) t refl (grind arith) (unused-absent tid used ts new (grind arith))
  where
    step : (b : Bool) (t : ThreadRow) → (t.number == tid) ≡ b → is_noted used t ≡ true → has (is_thread tid) ts ≡ false → has (is_thread tid) (t ∷ ts) ≡ false
    step false t off noted rest = rw off rest
    step true t is noted rest =
        let e : t.number ≡ tid = eqb-true t.number tid is in
        let noted' : is_of t.process (first (is_used_thread tid) used) ≡ true = rw (← e) noted in
        absurd (absent (first (is_used_thread tid) used) noted' new)
      where
        absent : (o : Option UsedThread) → is_of t.process o ≡ true → is_some o ≡ false → ⊥
        absent None a b = cc
        absent (Some u) a b = cc

pub kept-none : IsKept [] []
kept-none = record { noted = refl; single = refl; low = refl }

pub kept-push : (ts : List ThreadRow) (used : List UsedThread) (t : ThreadRow) → IsKept ts used → t.number < 2147483648 → has (is_used_thread t.number) used ≡ false → IsKept (ts ++ t ∷ []) (used ++ (record { number = t.number; process = t.process }) ∷ [])
kept-push ts used t kept within new =
    let u : UsedThread = record { number = t.number; process = t.process } in
    let here : is_noted (used ++ u ∷ []) t ≡ true = rw (first-push (is_used_thread t.number) used u new (grind (arith, nat_tests))) (grind (arith, nat_tests)) in
    record {
      noted = every-push (is_noted (used ++ u ∷ [])) ts t (every-more (is_noted used) (is_noted (used ++ u ∷ [])) (λ x h. noted-push used u x (first (is_used_thread x.number) used) refl h) ts kept.noted) here;
      single = differ-push (λ (x : ThreadRow). x.number) ts t kept.single (unused-absent t.number used ts new kept.noted);
      low = every-push (is_below 2147483648) ts t kept.low (lt-ltb t.number 2147483648 within);
    }

pub kept-without : (test : ThreadRow → Bool) (ts : List ThreadRow) (used : List UsedThread) → IsKept ts used → IsKept (without_first test ts) used
kept-without test ts used kept = record {
  noted = every-without_first (is_noted used) test ts kept.noted;
  single = differ-without_first test (λ (x : ThreadRow). x.number) ts kept.single;
  low = every-without_first (is_below 2147483648) test ts kept.low;
}

abbrev number : ThreadRow → ℕ
number t = t.number

-- a change that keeps numbers
pub record KeepsNumbers (f : ThreadRow → ThreadRow) : Type 0 where
  pub number : (t : ThreadRow) → (f t).number ≡ t.number
  pub process : (t : ThreadRow) → (f t).process ≡ t.process

noted-same : (used : List UsedThread) (f : ThreadRow → ThreadRow) → KeepsNumbers f → (t : ThreadRow) → is_noted used t ≡ true → is_noted used (f t) ≡ true
noted-same used f keeps t noted = rw (keeps.number t, keeps.process t) noted

pub kept-change : (test : ThreadRow → Bool) (f : ThreadRow → ThreadRow) (ts : List ThreadRow) (used : List UsedThread) → KeepsNumbers f → IsKept ts used → IsKept (change test f ts) used
kept-change test f ts used keeps kept = record {
  noted = every-change (is_noted used) test f (noted-same used f keeps) ts kept.noted;
  single = differ-change (λ (x : ThreadRow). x.number) test f keeps.number ts kept.single;
  low = every-change (is_below 2147483648) test f (λ t h. ap (λ n. nat_lt n 2147483648) (keeps.number t) ∙ h) ts kept.low;
}

-- the change of the row at its place
pub changed_at : (f : ThreadRow → ThreadRow) (ts : List ThreadRow) (i tid : ℕ) (row : ThreadRow) → are_single ts ≡ true → slice_get ts i ≡ Some row → row.number ≡ tid → set ts i (f row) ≡ change (is_thread tid) f ts
changed_at f ts i tid row single here own = set-change number f ts i tid row single here own

pub kept-at : (f : ThreadRow → ThreadRow) (ts : List ThreadRow) (used : List UsedThread) (i tid : ℕ) (row : ThreadRow) → KeepsNumbers f → IsKept ts used → slice_get ts i ≡ Some row → row.number ≡ tid → IsKept (set ts i (f row)) used
kept-at f ts used i tid row keeps kept here own = rw (changed_at f ts i tid row kept.single here own) (kept-change (is_thread tid) f ts used keeps kept)

-- the registrations of a row, changed
pub registered-as : (t : ThreadRow) (v : ArrayVec Registration) (rs : List Registration) → v.items ≡ rs → record t { registered = v } ≡ record t { registered = record { items = rs } }
registered-as t v rs are i = record t { registered = record { items = are i } }

-- the process of a thread is the one that is noted
pub process-noted : (tid : ℕ) (used : List UsedThread) (ts : List ThreadRow) (o : Option ThreadRow) → every (is_noted used) ts ≡ true → first (is_thread tid) ts ≡ o → IfSome o (λ t. option_map (λ u. u.process) (first (is_used_thread tid) used) ≡ Some t.process)
process-noted tid used ts None noted is = tt
process-noted tid used ts (Some t) noted is = one (first (is_used_thread tid) used) (found-noted ts noted is)
  where
    found-noted : (xs : List ThreadRow) → every (is_noted used) xs ≡ true → first (is_thread tid) xs ≡ Some t → is_of t.process (first (is_used_thread tid) used) ≡ true
    found-noted [] noted is = cc
    found-noted (x ∷ xs) noted is = grind (arith, nat_tests, found-noted xs)

    one : (o : Option UsedThread) → is_of t.process o ≡ true → option_map (λ u. u.process) o ≡ Some t.process
    one None of = cc
    one (Some u) of = ap Some (eqb-true u.process t.process of)
