-- What is kept while threads of a process end and are told of.
use Rattle.std.proofs.Common.{◌≡◌, ◌∙◌, ℕ, List, [], ◌∷◌, true, false, not, Option, Some, None, refl, ap, subst, sym}
use Rattle.std.proofs.lemmas.List.{append-nil}
use Rattle.lpc_base.specs.Rows.{every, given, has}
use Rattle.lpc_base.specs.declared.status.Status.{Status}
use Rattle.lpc_base.proofs.RowWords.{every-change, every-more}
use Rattle.lpc_model.specs.Basics.{Unregisters, basic, ended, in_turn, world_after}
use Rattle.lpc_model.specs.Closings.{is_closed_post}
use Rattle.lpc_model.specs.Death.{die, dying}
use Rattle.lpc_model.specs.Deaths.{HasSingleRegistrations, registers_once}
use Rattle.lpc_model.specs.Entering.{enter}
use Rattle.lpc_model.specs.Found.{is_table, is_thread}
use Rattle.lpc_model.specs.World.{Birth, MessageRow, ThreadRow, World}
use Rattle.lpc_model.proofs.Steps.Closing.{behind}
use Rattle.lpc_model.proofs.Deaths.Lines.{die-threads}
use Rattle.lpc_model.proofs.Steps.Ending.{behind_dead, die-ending, die-pass, ending-enter, is_ending, told-facts, turn-keeps, turn-pass}
use Rattle.lpc_model.proofs.Linked.Lines.{ending-plain}
use Rattle.lpc_model.proofs.Linked.Steps.{is_plain, plain-all}
use Rattle.lpc_model.proofs.Sound.Terminate.{die-safe, enter-safe, unregister-safe}
use Rattle.lpc_model.proofs.Closings.Told.{hushed-enter}
use Rattle.lpc_model.proofs.Closings.ToldLines.{die-hushed}
use Rattle.lpc_model.proofs.Closings.Single.{hushed-all}
use Rattle.lpc_rows.specs.Registered.{Death}
use Rattle.lpc_closing.specs.Closing.{CanCloseAll}
use Rattle.lpc_death.specs.Dying.{telling_one, told_row}
use Rattle.lpc_closing.proofs.HandlesKept.{KeepHandles, keeps_handles, kept-all, kept-away, kept-given}

-- Threads that end
dead-can : (code : Status) (t : ThreadRow) (w : World) → CanCloseAll w → CanCloseAll (behind (die code t) w)
dead-can code t w can =
    let untold = can.single_closings in
    let safe = die-safe code t w (record { sound = can.sound; shut = untold.connects }) in
    record {
      sound = safe.sound;
      linked = plain-all w (die code t w) (every-more is_ending is_plain ending-plain (die code t w) (die-ending code t w)) can.linked;
      single_closings = hushed-all w (die code t w) (die-hushed code t w) untold;
    }

pub died-can : (code : Status) (ts : List ThreadRow) (w : World) → CanCloseAll w → CanCloseAll (behind_dead code ts w)
died-can code ts w can = turn-keeps CanCloseAll (die code) (λ t v is. dead-can code t v is) ts w can

pub died-single : (code : Status) (ts : List ThreadRow) (w : World) → HasSingleRegistrations w → HasSingleRegistrations (behind_dead code ts w)
died-single code ts w single =
    turn-keeps HasSingleRegistrations (die code) (λ t v is. subst (λ rows. every registers_once rows ≡ true) (sym (die-threads code t v)) (every-change registers_once (is_thread t.number) ended (λ r was. was) v.threads is)) ts w single

-- What is told of them
-- a thread as far as a port is told of it
abbrev teller : Death → ThreadRow
teller u = record { number = u.client.thread; process = u.client.process; birth = u.birth; live = false; next_identifier = 0; next_ordinal = 0; registrations = []; own = None }

entered-can : (m : MessageRow) (w : World) → not (is_closed_post m) ≡ true → CanCloseAll w → CanCloseAll (behind (enter m) w)
entered-can m w other can =
    let untold = can.single_closings in
    let safe = enter-safe m w (record { sound = can.sound; shut = untold.connects }) in
    record {
      sound = safe.sound;
      linked = plain-all w (enter m w) (every-more is_ending is_plain ending-plain (enter m w) (ending-enter m w)) can.linked;
      single_closings = hushed-all w (enter m w) (hushed-enter m w other) untold;
    }

unregistered-can : (n : ℕ) (b : Birth) (w : World) → CanCloseAll w → CanCloseAll (basic w (Unregisters n b))
unregistered-can n b w can =
    let untold = can.single_closings in
    let safe = unregister-safe n b w (record { sound = can.sound; shut = untold.connects }) in
    record {
      sound = safe.sound;
      linked = plain-all w (Unregisters n b ∷ []) refl can.linked;
      single_closings = hushed-all w (Unregisters n b ∷ []) refl untold;
    }

told-can : (u : Death) (w : World) → CanCloseAll w → CanCloseAll (behind (telling_one u) w)
told-can u w can = at (told_row v u) refl (unregistered-can u.client.thread u.port w can)
  where
    v : World
    v = basic w (Unregisters u.client.thread u.port)

    at : (o : Option MessageRow) → told_row (basic w (Unregisters u.client.thread u.port)) u ≡ o → CanCloseAll (basic w (Unregisters u.client.thread u.port)) → CanCloseAll (world_after (basic w (Unregisters u.client.thread u.port)) (given o (λ m. enter m (basic w (Unregisters u.client.thread u.port)))))
    at None none can = can
    at (Some m) some can =
        let facts = told-facts (teller u) u.port m (basic w (Unregisters u.client.thread u.port)) some in
        entered-can m (basic w (Unregisters u.client.thread u.port)) facts.other can

pub untold-can : (us : List Death) (w : World) → CanCloseAll w → CanCloseAll (behind (in_turn telling_one us) w)
untold-can us w can = turn-keeps CanCloseAll telling_one (λ u v is. told-can u v is) us w can

-- Tables of handles stay
died-keep : (code : Status) (ts : List ThreadRow) (w : World) → KeepHandles (in_turn (die code) ts w)
died-keep code ts w = turn-pass keeps_handles (die code) (λ t v. die-pass keeps_handles kept-away (λ n c. refl) (λ b. refl) code t v) ts w

told-keep : (us : List Death) (w : World) → KeepHandles (in_turn telling_one us w)
told-keep us w = turn-pass keeps_handles telling_one (λ u v. kept-given (basic v (Unregisters u.client.thread u.port)) (told_row (basic v (Unregisters u.client.thread u.port)) u)) us w

pub died-table : (code : Status) (ts : List ThreadRow) (pid : ℕ) (w : World) → has (is_table pid) w.handles ≡ true → has (is_table pid) (behind_dead code ts w).handles ≡ true
died-table code ts pid w there = ap (has (is_table pid)) (kept-all w (in_turn (die code) ts w) (died-keep code ts w)) ∙ there

pub told-table : (us : List Death) (pid : ℕ) (w : World) → has (is_table pid) w.handles ≡ true → has (is_table pid) (behind (in_turn telling_one us) w).handles ≡ true
told-table us pid w there = ap (has (is_table pid)) (kept-all w (in_turn telling_one us w) (told-keep us w)) ∙ there

-- so of one thread as of all of a process
pub one-dead : (P : World → Type 0) (code : Status) (t : ThreadRow) (w : World) → P (behind_dead code (t ∷ []) w) → P (behind (dying code t.number) w)
one-dead P code t w is = subst (λ bs. P (world_after w bs)) (append-nil (die code t w)) is
