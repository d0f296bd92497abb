-- Calls that leave a world settled, so that nothing comes behind their own steps.
use Rattle.std.proofs.Common.{◌≡◌, ℕ, zero, suc, List, [], ◌∷◌, ◌++◌, Bool, true, false, not, Option, Some, None, refl, ap, subst, ◌∙◌, arith}
use Rattle.std.specs.Prelude.{◌&&◌, ◌==◌, is_some}
use Rattle.std.proofs.lemmas.Bool.{and_from, eqb-true}
use Rattle.lpc_base.specs.Rows.{every, first, given, has, which, without}
use Rattle.lpc_base.specs.declared.status.TheConstants.{SUCCESS}
use Rattle.lpc_base.proofs.Bools.{first-true, second-true}
use Rattle.lpc_base.proofs.RowWords.{every-append, every-change, every-more, every-push, has-change}
use Rattle.lpc_base.proofs.RowMaps.{every-both}
use Rattle.lpc_model.specs.World.{Accepted, Connect, Event, Listen, MessageRow, ProcessRow, Receive, Request, ThreadRow, WaitKind, WaitRow, World}
use Rattle.lpc_model.specs.Found.{is_live, is_mark, is_process, is_thread, lives_in, token_of, was_process}
use Rattle.lpc_model.specs.Message.{asks}
use Rattle.lpc_model.specs.Basics.{AddsProcess, AddsThread, Acts, Basic, Dies, Dooms, DrawsIdentifier, DrawsOrdinal, Frees, Leaves, LetsGo, Marks, Registers, SetsDebug, SetsException, Unregisters, Wakes, acting, basic, debugged, excepted, past_identifier, past_ordinal, registering, world_after}
use Rattle.lpc_model.specs.Creation.{making_process}
use Rattle.lpc_model.specs.Entering.{enter, given_steps, shown, takes, woken}
use Rattle.lpc_model.specs.Machine.{new_process}
use Rattle.lpc_model.specs.Settle.{IsSettled, and_then_on, end_doomed, is_doomed, least, most_turns, settle, turn, turn_by, turns}
use Rattle.lpc_model.specs.Tests.{next_birth}
use Rattle.lpc_isolation.proofs.Gone.Born.{Born}

-- no turn is due in a settled world
none-doomed : {A : Type 0} (f : A → Bool) (xs : List A) → every (λ x. not (f x)) xs ≡ true → which f xs ≡ []
none-doomed f [] all = refl
none-doomed f (x ∷ xs) all = grind (arith, none-doomed f xs)

pub no-turn : (w : World) → IsSettled w → turn w ≡ None
no-turn w s =
    ap (turn_by w) s.marks
    ∙ ap (λ ps. Rattle.std.specs.Prelude.option_map (λ p. end_doomed p w) (least ps)) (none-doomed (is_doomed w) w.processes s.doomed)

pub no-turns : (n : ℕ) (w : World) → IsSettled w → turns n w ≡ []
no-turns zero w s = refl
no-turns (suc n) w s = ap (λ o. and_then_on w o (turns n)) (no-turn w s)

pub settled-rests : (w : World) → IsSettled w → settle w ≡ []
unfolding settle
settled-rests w s = no-turns (most_turns w) w s

-- A step that marks and dooms nothing, and makes no thread
abbrev pub is_restful : Basic → Bool
is_restful (Marks who) = false
is_restful (Dooms pid code) = false
is_restful (AddsProcess p) = false
is_restful (AddsThread t) = false
is_restful (Frees o) = false
is_restful (Dies who status) = false
is_restful (Registers who b) = true
is_restful (Unregisters who b) = false
is_restful (Acts who own) = true
is_restful (LetsGo pid) = false
is_restful (SetsDebug pid b) = true
is_restful (SetsException pid b) = true
is_restful b = true

drawn-settled : (w : World) (f : ThreadRow → ThreadRow) (who : ℕ) → ((n : ℕ) (t : ThreadRow) → lives_in n (f t) ≡ lives_in n t) → IsSettled w → every (λ p. not (is_some p.doom && has (lives_in p.number) (Rattle.lpc_base.specs.Rows.change (is_thread who) f w.threads))) w.processes ≡ true
drawn-settled w f who same s =
    every-more (λ p. not (is_doomed w p)) (λ p. not (is_some p.doom && has (lives_in p.number) (Rattle.lpc_base.specs.Rows.change (is_thread who) f w.threads)))
    (λ p is. ap (λ e. not (is_some p.doom && e)) (has-change (lives_in p.number) (is_thread who) f (same p.number) w.threads) ∙ is) w.processes s.doomed

basic-settled : (w : World) (b : Basic) → is_restful b ≡ true → IsSettled w → IsSettled (basic w b)
basic-settled w (Wakes who call status fields) ok s = record { marks = ap (without (is_mark who)) s.marks; doomed = s.doomed }
basic-settled w (Leaves who) ok s = record { marks = ap (without (is_mark who)) s.marks; doomed = s.doomed }
basic-settled w (DrawsIdentifier who) ok s = record { marks = s.marks; doomed = drawn-settled w past_identifier who (λ n t. refl) s }
basic-settled w (DrawsOrdinal who) ok s = record { marks = s.marks; doomed = drawn-settled w past_ordinal who (λ n t. refl) s }
basic-settled w (Marks who) ok s = absurd (cc)
basic-settled w (Dooms pid code) ok s = absurd (cc)
basic-settled w (AddsProcess p) ok s = absurd (cc)
basic-settled w (AddsThread t) ok s = absurd (cc)
basic-settled w (Frees o) ok s = absurd (cc)
basic-settled w (Dies who status) ok s = absurd (cc)
basic-settled w (Registers who b) ok s = record { marks = s.marks; doomed = drawn-settled w (registering b) who (λ n t. refl) s }
basic-settled w (Unregisters who b) ok s = absurd (cc)
basic-settled w (Acts who own) ok s = record { marks = s.marks; doomed = drawn-settled w (acting own) who (λ n t. refl) s }
basic-settled w (LetsGo pid) ok s = absurd (cc)
basic-settled w (SetsDebug pid b) ok s = record { marks = s.marks; doomed = every-change (λ p. not (is_doomed w p)) (is_process pid) (debugged b) (λ p is. is) w.processes s.doomed }
basic-settled w (SetsException pid b) ok s = record { marks = s.marks; doomed = every-change (λ p. not (is_doomed w p)) (is_process pid) (excepted b) (λ p is. is) w.processes s.doomed }
basic-settled w b ok s = record { marks = s.marks; doomed = s.doomed }

pub run-settled : (w : World) (bs : List Basic) → every is_restful bs ≡ true → IsSettled w → IsSettled (world_after w bs)
run-settled w [] ok s = s
run-settled w (b ∷ bs) ok s = run-settled (basic w b) bs (second-true _ _ ok) (basic-settled w b (first-true _ _ ok) s)

-- a message enters
given-restful : (x : MessageRow) (z : WaitRow) (sort : WaitKind) (asked : Bool) → z.kind ≡ sort → asks x.message ≡ asked → every is_restful (given_steps z x ++ woken SUCCESS (shown z x) z ∷ []) ≡ true
given-restful x z (Request a) true is asked = rw (is, asked) refl
given-restful x z (Request a) false is asked = rw (is, asked) refl
given-restful x z (Event e) true is asked = rw (is, asked) refl
given-restful x z (Event e) false is asked = rw (is, asked) refl
given-restful x z Receive true is asked = rw (is, asked) refl
given-restful x z Receive false is asked = rw (is, asked) refl
given-restful x z Listen true is asked = rw (is, asked) refl
given-restful x z Listen false is asked = rw (is, asked) refl
given-restful x z (Connect a offer) true is asked = rw (is, asked) refl
given-restful x z (Connect a offer) false is asked = rw (is, asked) refl
given-restful x z (Accepted a r) true is asked = rw (is, asked) refl
given-restful x z (Accepted a r) false is asked = rw (is, asked) refl

entered-restful : (x : MessageRow) (o : Option WaitRow) → every is_restful (given o (λ z. given_steps z x ++ woken SUCCESS (shown z x) z ∷ [])) ≡ true
entered-restful x None = refl
entered-restful x (Some z) = given-restful x z z.kind (asks x.message) refl refl

pub then-restful : (u : World) (start : List Basic) (x : MessageRow) → every is_restful start ≡ true → every is_restful (start ++ enter x (world_after u start)) ≡ true
then-restful u start x ok = every-append is_restful start (enter x (world_after u start)) ok (entered-restful x (first (takes x) (world_after u start).waits))

-- A process is made: its number is new, so no process that is to end has it
off-number : (u : World) (pid n : ℕ) → was_process u pid ≡ false → was_process u n ≡ true → (pid == n) ≡ false
off-number u pid n new used = Rattle.std.proofs.lemmas.Bool.false_from_ne_true (pid == n) (λ is. let same : was_process u pid ≡ was_process u n = ap (was_process u) (eqb-true pid n is) in cc)

pub has-less : {A : Type 0} (p : A → Bool) (xs : List A) (y : A) → p y ≡ false → has p (xs ++ y ∷ []) ≡ has p xs
has-less p [] y off = rw off refl
has-less p (x ∷ xs) y off = grind (arith, has-less p xs y off)

pub made-settled : (u : World) (by : ThreadRow) (pid tid : ℕ) → was_process u pid ≡ false → Born u → IsSettled u → IsSettled (world_after u (making_process u by pid tid))
made-settled u by pid tid new born s = record {
  marks = s.marks;
  doomed = every-push (λ p. not (is_doomed v p)) u.processes own (every-both (λ p. was_process u p.number) (λ p. not (is_doomed u p)) (λ p. not (is_doomed v p)) (λ p used is. old p used is) u.processes born.numbers s.doomed) refl;
}
  where
    v : World
    v = world_after u (making_process u by pid tid)

    own : ProcessRow
    own = new_process pid (Some by.process) (next_birth by) (token_of u by.process)

    live : (n : ℕ) → (pid == n) ≡ false → is_live v n ≡ is_live u n
    live n off =
        has-less (lives_in n) (basic (basic u (DrawsOrdinal by.number)) (DrawsOrdinal by.number)).threads _ (rw off refl)
        ∙ has-change (lives_in n) (is_thread by.number) past_ordinal (λ t. refl) (basic u (DrawsOrdinal by.number)).threads
        ∙ has-change (lives_in n) (is_thread by.number) past_ordinal (λ t. refl) u.threads

    old : (p : ProcessRow) → was_process u p.number ≡ true → not (is_doomed u p) ≡ true → not (is_doomed v p) ≡ true
    old p used is = ap (λ e. not (is_some p.doom && e)) (live p.number (off-number u pid p.number new used)) ∙ is

-- A process comes with a directive, and a thread of a process that lives
pub added-settled : (u v : World) (pid : ℕ) (p : ProcessRow) → p.doom ≡ None → v.marks ≡ u.marks → v.processes ≡ u.processes ++ p ∷ [] → ((n : ℕ) → (pid == n) ≡ false → is_live v n ≡ is_live u n) → was_process u pid ≡ false → Born u → IsSettled u → IsSettled v
added-settled u v pid p undoomed marks rows live new born s = record {
  marks = marks ∙ s.marks;
  doomed = rw rows (every-push (λ q. not (is_doomed v q)) u.processes p (every-both (λ q. was_process u q.number) (λ q. not (is_doomed u q)) (λ q. not (is_doomed v q)) old u.processes born.numbers s.doomed) (rw undoomed refl));
}
  where
    old : (q : ProcessRow) → was_process u q.number ≡ true → not (is_doomed u q) ≡ true → not (is_doomed v q) ≡ true
    old q used is = ap (λ e. not (is_some q.doom && e)) (live q.number (off-number u pid q.number new used)) ∙ is

pub started-settled : (u v : World) (pid : ℕ) → v.marks ≡ u.marks → v.processes ≡ u.processes → ((n : ℕ) → (pid == n) ≡ false → is_live v n ≡ is_live u n) → is_live u pid ≡ true → IsSettled u → IsSettled v
started-settled u v pid marks rows live lives s = record {
  marks = marks ∙ s.marks;
  doomed = rw rows (every-more (λ q. not (is_doomed u q)) (λ q. not (is_doomed v q)) old u.processes s.doomed);
}
  where
    none : (d e f : Bool) → e ≡ true → not (d && e) ≡ true → not (d && f) ≡ true
    none d e f is it = grind arith

    old : (q : ProcessRow) → not (is_doomed u q) ≡ true → not (is_doomed v q) ≡ true
    old q is = at (pid == q.number) refl
      where
        at : (b : Bool) → (pid == q.number) ≡ b → not (is_doomed v q) ≡ true
        at false off = ap (λ e. not (is_some q.doom && e)) (live q.number off) ∙ is
        at true same = none (is_some q.doom) (is_live u q.number) (is_live v q.number) (subst (λ n. is_live u n ≡ true) (eqb-true pid q.number same) lives) is
