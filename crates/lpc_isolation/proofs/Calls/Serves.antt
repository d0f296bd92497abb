-- What a service owes, so that the line of each call of it can be played.
use Rattle.std.proofs.Common.{◌≡◌, ℕ, List, [], ◌∷◌, ◌++◌, Bool, true, false, not, refl, arith}
use Rattle.std.proofs.lemmas.Bool.{and_from}
use Rattle.std.specs.Prelude.{◌&&◌, ◌==◌}
use Rattle.lpc_base.specs.Rows.{every, has, without, passes}
use Rattle.lpc_base.specs.declared.status.TheConstants.{SUCCESS}
use Rattle.lpc_model.specs.declared.entry.Entry.{Entry}
use Rattle.lpc_model.specs.declared.entry.Entry.TheVariants as entry
use Rattle.lpc_model.specs.World.{WaitRow, World}
use Rattle.lpc_model.specs.Found.{waits_as, waits_at}
use Rattle.lpc_base.proofs.RowWords.{has-change}
use Rattle.lpc_base.proofs.Bools.{first-true, second-true}
use Rattle.lpc_model.specs.Basics.{Accepts, AddsThread, Awaits, Basic, Frees, Receives, Tells, Wakes, accepted, received, basic, entries_of, world_after, Dies, Leaves, Dooms}
use Rattle.lpc_model.specs.Circle.{owner}
use Rattle.lpc_isolation.proofs.Plays.Lines.{is_done}

-- The list of a call that is accepted: it tells its caller first, or of the end of a thread of its process, adds no thread, and begins no
-- wait of a thread that it woke
abbrev pub tells_thread : ℕ → Entry → Bool
tells_thread tid (entry.Answer who call status fields) = (who == tid) && (status.0 == SUCCESS.0)
tells_thread tid (entry.Waits who call fields) = who == tid
tells_thread tid e = false

abbrev pub is_calm : ℕ → Basic → Bool
is_calm who (Awaits x) = not (x.thread == who)
is_calm who (Frees o) = false
is_calm who b = true

abbrev pub adds_none : Basic → Bool
adds_none (AddsThread t) = false
adds_none (Frees o) = false
adds_none b = true

abbrev pub is_orderly : List Basic → Bool
is_orderly [] = true
is_orderly (Wakes who call status fields ∷ bs) = every (is_calm who) bs && is_orderly bs
is_orderly (Tells (entry.Wakes who call status fields) ∷ bs) = false
is_orderly (b ∷ bs) = adds_none b && is_orderly bs

-- two numbers are of threads of one process
abbrev pub same_owner : World → ℕ → ℕ → Bool
same_owner w tid who = passes (owner w tid) (λ p. passes (owner w who) (λ q. q == p))

-- a step that tells the caller's process first: its call's answer, or that one of its threads ends
abbrev pub tells_own : World → ℕ → Basic → Bool
tells_own w tid (Tells e) = tells_thread tid e
tells_own w tid (Dies who status) = same_owner w tid who
tells_own w tid (Dooms pid code) = passes (owner w tid) (λ p. p == pid)
tells_own w tid b = false

abbrev pub is_call_of : World → ℕ → List Basic → Bool
is_call_of w tid [] = false
is_call_of w tid (b ∷ bs) = tells_own w tid b && is_orderly bs

-- whom it woke, waits no more
free-without : (who other : ℕ) (xs : List WaitRow) → has (waits_as who) xs ≡ false → has (waits_as who) (without (waits_as other) xs) ≡ false
free-without who other [] none = refl
free-without who other (x ∷ xs) none = grind (arith, free-without who other xs)

free-ended : (who : ℕ) (xs : List WaitRow) → has (waits_as who) (without (waits_as who) xs) ≡ false
free-ended who [] = refl
free-ended who (x ∷ xs) = grind (arith, free-ended who xs)

free-push : (who : ℕ) (xs : List WaitRow) (y : WaitRow) → not (y.thread == who) ≡ true → has (waits_as who) xs ≡ false → has (waits_as who) (xs ++ y ∷ []) ≡ false
free-push who [] y off none = grind arith
free-push who (x ∷ xs) y off none = grind (arith, free-push who xs y)

basic-free : (w : World) (b : Basic) (who : ℕ) → is_calm who b ≡ true → has (waits_as who) w.waits ≡ false → has (waits_as who) (basic w b).waits ≡ false
basic-free w (Awaits x) who calm none = free-push who w.waits x calm none
basic-free w (Wakes other call status fields) who calm none = free-without who other w.waits none
basic-free w (Receives other q) who calm none = rw (has-change (waits_as who) (waits_at other q) received (λ x. refl) w.waits) none
basic-free w (Accepts other reply) who calm none = rw (has-change (waits_as who) (waits_as other) (accepted reply) (λ x. refl) w.waits) none
basic-free w (Leaves other) who calm none = free-without who other w.waits none
basic-free w (Dies other status) who calm none = free-without who other w.waits none
basic-free w (Frees o) who calm none = absurd (cc)
basic-free w b who calm none = none

run-free : (w : World) (bs : List Basic) (who : ℕ) → every (is_calm who) bs ≡ true → has (waits_as who) w.waits ≡ false → has (waits_as who) (world_after w bs).waits ≡ false
run-free w [] who calm none = none
run-free w (b ∷ bs) who calm none = run-free (basic w b) bs who (second-true _ _ calm) (basic-free w b who (first-true _ _ calm) none)

-- one step of an orderly list
pub orderly-done : (w : World) (bs : List Basic) → is_orderly bs ≡ true → every (is_done (world_after w bs)) (entries_of bs) ≡ true
orderly-done w [] ok = refl
orderly-done w (Wakes who call status fields ∷ bs) ok =
    let ended : has (waits_as who) (world_after (basic w (Wakes who call status fields)) bs).waits ≡ false = run-free (basic w (Wakes who call status fields)) bs who (first-true _ _ ok) (free-ended who w.waits) in
    and_from _ _ (rw ended refl) (orderly-done (basic w (Wakes who call status fields)) bs (second-true _ _ ok))
orderly-done w (Tells (entry.Wakes who call status fields) ∷ bs) ok = absurd (cc)
orderly-done w (Tells (entry.Answer who call status fields) ∷ bs) ok = orderly-done w bs ok
orderly-done w (Tells (entry.Waits who call fields) ∷ bs) ok = orderly-done w bs ok
orderly-done w (Tells (entry.Busy who) ∷ bs) ok = orderly-done w bs ok
orderly-done w (Tells (entry.NoThread who) ∷ bs) ok = orderly-done w bs ok
orderly-done w (Tells (entry.Died who status) ∷ bs) ok = orderly-done w bs ok
orderly-done w (Tells (entry.Directive word status) ∷ bs) ok = orderly-done w bs ok
orderly-done w (AddsThread t ∷ bs) ok = absurd (cc)
orderly-done w (Frees o ∷ bs) ok = absurd (cc)
orderly-done w (b ∷ bs) ok = orderly-done (basic w b) bs ok

-- no number is used for a thread
pub orderly-used : (w : World) (bs : List Basic) → is_orderly bs ≡ true → (world_after w bs).used_threads ≡ w.used_threads
orderly-used w [] ok = refl
orderly-used w (Wakes who call status fields ∷ bs) ok = orderly-used (basic w (Wakes who call status fields)) bs (second-true _ _ ok)
orderly-used w (Tells (entry.Wakes who call status fields) ∷ bs) ok = absurd (cc)
orderly-used w (Tells (entry.Answer who call status fields) ∷ bs) ok = orderly-used w bs ok
orderly-used w (Tells (entry.Waits who call fields) ∷ bs) ok = orderly-used w bs ok
orderly-used w (Tells (entry.Busy who) ∷ bs) ok = orderly-used w bs ok
orderly-used w (Tells (entry.NoThread who) ∷ bs) ok = orderly-used w bs ok
orderly-used w (Tells (entry.Died who status) ∷ bs) ok = orderly-used w bs ok
orderly-used w (Tells (entry.Directive word status) ∷ bs) ok = orderly-used w bs ok
orderly-used w (AddsThread t ∷ bs) ok = absurd (cc)
orderly-used w (Frees o ∷ bs) ok = absurd (cc)
orderly-used w (b ∷ bs) ok = orderly-used (basic w b) bs ok
