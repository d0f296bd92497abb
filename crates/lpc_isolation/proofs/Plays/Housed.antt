-- Where rows never go, each thread's process has its row.
use Rattle.std.proofs.Common.{◌≡◌, ℕ, List, [], ◌∷◌, Bool, true, false, refl, subst, ◌∙◌}
use Rattle.std.specs.Prelude.{◌&&◌, ◌==◌}
use Rattle.std.proofs.lemmas.Bool.{and_from, eqb-true}
use Rattle.lpc_base.specs.Rows.{every, has}
use Rattle.lpc_base.proofs.Bools.{first-true, second-true}
use Rattle.lpc_base.proofs.RowWords.{every-change, every-more, every-push, has-change}
use Rattle.lpc_model.proofs.Steps.Rows.{has-append}
use Rattle.lpc_model.specs.World.{ThreadRow, World}
use Rattle.lpc_model.specs.Found.{is_live, is_process, is_thread, lives_in}
use Rattle.lpc_model.specs.Basics.{Acts, AddsProcess, AddsThread, Basic, Dies, Dooms, DrawsIdentifier, DrawsOrdinal, Frees, LetsGo, Registers, SetsDebug, SetsException, Unregisters, acting, basic, debugged, doomed, ended, excepted, past_identifier, past_ordinal, portless, registering, unregistering, world_after}

abbrev pub has_house : World → ℕ → Bool
has_house w pid = has (is_process pid) w.processes

abbrev pub IsHoused : World → Type 0
IsHoused w = every (λ t. has_house w t.process) w.threads ≡ true

-- so a process that lives has it
pub live-house : (w : World) (pid : ℕ) → IsHoused w → is_live w pid ≡ true → has_house w pid ≡ true
live-house w pid all live = at w.threads all live
  where
    at : (ts : List ThreadRow) → every (λ t. has_house w t.process) ts ≡ true → has (lives_in pid) ts ≡ true → has_house w pid ≡ true
    at [] all is = absurd (cc)
    at (t ∷ ts) all is = one (lives_in pid t) refl is (at ts)
      where
        one : (b : Bool) → lives_in pid t ≡ b → has (lives_in pid) (t ∷ ts) ≡ true → (every (λ t. has_house w t.process) ts ≡ true → has (lives_in pid) ts ≡ true → has_house w pid ≡ true) → has_house w pid ≡ true
        one true its is rest = subst (λ n. has_house w n ≡ true) (eqb-true t.process pid (first-true (t.process == pid) t.live its)) (first-true _ _ all)
        one false off is rest = rest (second-true (has_house w t.process) _ all) (let later : has (lives_in pid) ts ≡ true = rw off at is in later)

-- What keeps it so
abbrev is_housed_step : World → Basic → Bool
is_housed_step w (AddsThread t) = has_house w t.process
is_housed_step w (Frees o) = false
is_housed_step w b = true

abbrev pub are_housed : World → List Basic → Bool
are_housed w [] = true
are_housed w (b ∷ bs) = is_housed_step w b && are_housed (basic w b) bs

rehoused : (w v : World) → v.threads ≡ w.threads → ((n : ℕ) → has_house w n ≡ true → has_house v n ≡ true) → IsHoused w → IsHoused v
rehoused w v same more all = rw same (every-more (λ t. has_house w t.process) (λ t. has_house v t.process) (λ t is. more t.process is) w.threads all)

basic-housed : (w : World) (b : Basic) → is_housed_step w b ≡ true → IsHoused w → IsHoused (basic w b)
basic-housed w (AddsThread t) ok all = every-push (λ t. has_house w t.process) w.threads t all ok
basic-housed w (Frees o) ok all = absurd (cc)
basic-housed w (AddsProcess p) ok all = rehoused w (basic w (AddsProcess p)) refl (λ n is. has-append (is_process n) w.processes (p ∷ []) ∙ rw is refl) all
basic-housed w (Dooms pid code) ok all = rehoused w (basic w (Dooms pid code)) refl (λ n is. has-change (is_process n) (is_process pid) (doomed code) (λ p. refl) w.processes ∙ is) all
basic-housed w (SetsDebug pid b) ok all = rehoused w (basic w (SetsDebug pid b)) refl (λ n is. has-change (is_process n) (is_process pid) (debugged b) (λ p. refl) w.processes ∙ is) all
basic-housed w (SetsException pid b) ok all = rehoused w (basic w (SetsException pid b)) refl (λ n is. has-change (is_process n) (is_process pid) (excepted b) (λ p. refl) w.processes ∙ is) all
basic-housed w (LetsGo pid) ok all = rehoused w (basic w (LetsGo pid)) refl (λ n is. has-change (is_process n) (is_process pid) portless (λ p. refl) w.processes ∙ is) all
basic-housed w (Dies who status) ok all = every-change (λ t. has_house w t.process) (is_thread who) ended (λ t is. is) w.threads all
basic-housed w (DrawsIdentifier who) ok all = every-change (λ t. has_house w t.process) (is_thread who) past_identifier (λ t is. is) w.threads all
basic-housed w (DrawsOrdinal who) ok all = every-change (λ t. has_house w t.process) (is_thread who) past_ordinal (λ t is. is) w.threads all
basic-housed w (Registers who b) ok all = every-change (λ t. has_house w t.process) (is_thread who) (registering b) (λ t is. is) w.threads all
basic-housed w (Unregisters who b) ok all = every-change (λ t. has_house w t.process) (is_thread who) (unregistering b) (λ t is. is) w.threads all
basic-housed w (Acts who own) ok all = every-change (λ t. has_house w t.process) (is_thread who) (acting own) (λ t is. is) w.threads all
basic-housed w b ok all = all

pub run-housed : (w : World) (bs : List Basic) → are_housed w bs ≡ true → IsHoused w → IsHoused (world_after w bs)
run-housed w [] ok all = all
run-housed w (b ∷ bs) ok all = run-housed (basic w b) bs (second-true (is_housed_step w b) _ ok) (basic-housed w b (first-true _ _ ok) all)

-- steps by which no thread comes, and no row goes
abbrev pub houses_none : Basic → Bool
houses_none (AddsThread t) = false
houses_none (Frees o) = false
houses_none b = true

step-houses : (w : World) (b : Basic) → houses_none b ≡ true → is_housed_step w b ≡ true
step-houses w (AddsThread t) ok = absurd (cc)
step-houses w (Frees o) ok = absurd (cc)
step-houses w b ok = refl

none-houses : (w : World) (bs : List Basic) → every houses_none bs ≡ true → are_housed w bs ≡ true
none-houses w [] ok = refl
none-houses w (b ∷ bs) ok = and_from _ _ (step-houses w b (first-true _ _ ok)) (none-houses (basic w b) bs (second-true (houses_none b) _ ok))

pub nones-housed : (w : World) (bs : List Basic) → every houses_none bs ≡ true → IsHoused w → IsHoused (world_after w bs)
nones-housed w bs ok all = run-housed w bs (none-houses w bs ok) all
