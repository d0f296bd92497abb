-- Whether a thread has a resident is told by the inputs before: so inputs that show lines as they are said are as good as those
-- that show that too.
use Rattle.std.proofs.Common.{◌≡◌, ℕ, Bool, true, false, arith, cond, not, List, [], ◌∷◌, ◌++◌, Option, Some, None, map, refl, ap, sym, subst, ◌∙◌, is_some}
use Rattle.std.specs.Prelude.{◌==◌, ◌&&◌, ◌||◌, fold}
use Rattle.std.specs.List.{list_any}
use Rattle.std.proofs.lemmas.List.{append-nil, map-append}
use Rattle.lpc_model.proofs.Held.FreedPort.{sweep-tells}
use Rattle.std.proofs.lemmas.List.Elements.{filter-append}
use Rattle.lpc_base.specs.Rows.{change, every, first, has, which}
use Rattle.lpc_base.specs.declared.status.Status.{Status}
use Rattle.lpc_base.specs.declared.status.TheConstants.{SUCCESS}
use Rattle.lpc_base.proofs.Bools.{first-true}
use Rattle.std.proofs.lemmas.Bool.{eqb-true}
use Rattle.lpc_base.proofs.RowWords.{has-change}
use Rattle.lpc_subsys.specs.Clients.{History}
use Rattle.lpc_model.specs.declared.entry.Entry.{Entry}
use Rattle.lpc_model.specs.declared.entry.Entry.TheVariants as entry
use Rattle.lpc_model.specs.declared.entry.Word.TheVariants as word
use Rattle.lpc_model.specs.World.{Impersonation, ThreadRow, World}
use Rattle.lpc_model.specs.Found.{live_thread}
use Rattle.lpc_model.specs.Basics.{Basic, Tells, entries_of, world_after}
use Rattle.lpc_model.specs.declared.line.Kind.{Kind}
use Rattle.lpc_model.specs.Lines.{ResidentLine, ScriptLine, boot, dir, hosts, link, moves, of_resident, run, thread, token}
use Rattle.lpc_model.specs.Machine.{bare_steps, hosting_status, own_steps, resident_entry, step, steps}
use Rattle.lpc_model.specs.Settle.{IsSettled}
use Rattle.lpc_model.specs.Sweep.{sweep}
use Rattle.lpc_model.proofs.Steps.InTurn.{entries-append}
use Rattle.lpc_model.specs.Residents.{Resident, State, begun, begun_by, can_call, connected, heard, heard_by, heard_in_turn, is_on, line_done, new_resident, next_call, residents_behind, resolved, turn_done, turning, win32}
use Rattle.lpc_model.specs.declared.entry.Field.{Field}
use Rattle.lpc_model.specs.declared.resident.ClientView.{ClientView}
use Rattle.lpc_model.specs.declared.resident.Connect.{Connect}
use Rattle.lpc_model.specs.declared.resident.Deed.{Deed}
use Rattle.lpc_model.specs.declared.resident.Deed.TheVariants.{AnswersConnect, Closes, Completes, Receives, RepliesTo}
use Rattle.lpc_model.specs.Run.{done_from, first_state, state_behind}
use Rattle.lpc_model.specs.Circle.{Event, Gave, Group, Item, Nobody, Of, Ran, Told, Whose, as_said, events, full_inputs, given_in, is_input, is_seen, is_told_to, item_of, line_events, line_whose, owned, owner, told_event, thread_whose, gave_event}
use Rattle.lpc_isolation.proofs.Endings.Settling.{given-append}
use Rattle.lpc_isolation.proofs.Gone.Swept.{sweep-gives}
use Rattle.lpc_isolation.proofs.Gone.Restful.{settled-rests}
use Rattle.lpc_isolation.proofs.Rows.Firm.{Firm, firm_none, firm-step}
use Rattle.lpc_isolation.proofs.Gone.Owned.{Numbers, live-has-owner, numbers-after, numbers_none, owner-after}

-- Restoring
-- the threads that have residents, by the inputs so far; the thread of a `resident` line, whose status is told next
abbrev pub hosts_behind : List ℕ → Option ℕ → Item → List ℕ
hosts_behind threads (Some tid) (Told (entry.Directive word.Resident status)) = cond (status.0 == SUCCESS.0) (tid ∷ threads) threads
hosts_behind threads last item = threads

abbrev pub last_behind : Item → Option ℕ
last_behind (Ran (of_resident tid (hosts kind handle) had)) = Some tid
last_behind item = None

abbrev pub is_in : ℕ → List ℕ → Bool
is_in tid threads = list_any (λ n. n == tid) threads

abbrev pub restored : List ℕ → Item → Item
restored threads (Ran (of_resident tid what had)) = Ran (of_resident tid what (is_in tid threads))
restored threads item = item

abbrev pub restore : List ℕ → Option ℕ → List Item → List Item
restore threads last [] = []
restore threads last (i ∷ is) = restored threads i ∷ restore (hosts_behind threads last i) (last_behind i) is

abbrev status_success : Status → Bool
status_success status = status.0 == SUCCESS.0

-- an item that tells nothing of residents
abbrev is_plain : Item → Bool
is_plain (Ran (of_resident tid what had)) = false
is_plain item = true

restore-plain : (threads : List ℕ) (xs ys : List Item) → every is_plain xs ≡ true → restore threads None (map as_said (xs ++ ys)) ≡ xs ++ restore threads None (map as_said ys)
restore-plain threads [] ys plain = refl
restore-plain threads (x ∷ xs) ys plain = at x plain (restore-plain threads xs ys)
  where
    at : (i : Item) → (is_plain i && every is_plain xs) ≡ true → (every is_plain xs ≡ true → restore threads None (map as_said (xs ++ ys)) ≡ xs ++ restore threads None (map as_said ys))
        → restore threads None (map as_said (i ∷ (xs ++ ys))) ≡ i ∷ (xs ++ restore threads None (map as_said ys))
    at (Told e) rest on = ap (λ is. Told e ∷ is) (on rest)
    at (Gave own) rest on = ap (λ is. Gave own ∷ is) (on rest)
    at (Ran (boot pid tid name)) rest on = ap (λ is. Ran (boot pid tid name) ∷ is) (on rest)
    at (Ran (thread tid pid)) rest on = ap (λ is. Ran (thread tid pid) ∷ is) (on rest)
    at (Ran (token name content)) rest on = ap (λ is. Ran (token name content) ∷ is) (on rest)
    at (Ran (dir path)) rest on = ap (λ is. Ran (dir path) ∷ is) (on rest)
    at (Ran (link path target)) rest on = ap (λ is. Ran (link path target) ∷ is) (on rest)
    at (Ran (run tid call)) rest on = ap (λ is. Ran (run tid call) ∷ is) (on rest)
    at (Ran (of_resident tid what had)) rest on = absurd (cc)

-- the items of events that tell nothing of residents tell nothing
plain-events : (m : Group) (c : ℕ) (es : List Event) → every (λ e. is_plain (item_of e)) es ≡ true → every is_plain (full_inputs m c es) ≡ true
plain-events m c [] plain = refl
plain-events m c (e ∷ es) plain = at (is_input m c e) (plain-events m c es (second (is_plain (item_of e)) (every (λ e. is_plain (item_of e)) es) plain))
  where
    second : (a b : Bool) → (a && b) ≡ true → b ≡ true
    second a b is = grind arith

    first-of : (a b : Bool) → (a && b) ≡ true → a ≡ true
    first-of a b is = grind arith

    at : (b : Bool) → every is_plain (full_inputs m c es) ≡ true → every is_plain (map item_of (cond b (e ∷ which (is_input m c) es) (which (is_input m c) es))) ≡ true
    at true rest = ap (λ b. b && every is_plain (full_inputs m c es)) (first-of (is_plain (item_of e)) (every (λ e. is_plain (item_of e)) es) plain) ∙ rest
    at false rest = rest

plain-told : (w : World) (d : Whose) (es : List Entry) (later : List Event) → every (λ e. is_plain (item_of e)) later ≡ true → every (λ e. is_plain (item_of e)) (map (told_event w d) es ++ later) ≡ true
plain-told w d [] later rest = rest
plain-told w d (e ∷ es) later rest = plain-told w d es later rest

plain-gave : (d : Whose) (gs : List Impersonation) → every (λ e. is_plain (item_of e)) (map (gave_event d) gs) ≡ true
plain-gave d [] = refl
plain-gave d (g ∷ gs) = plain-gave d gs

-- what happens behind a line itself
abbrev behind_events : World → ScriptLine → List Event
behind_events w line = map (told_event (step w line).world (line_whose w line)) (step w line).entries ++ map (gave_event (line_whose w line)) (given_in (steps line w))

plain-line : (w : World) (line : ScriptLine) → is_plain (Ran line) ≡ true → every (λ e. is_plain (item_of e)) (line_events w line) ≡ true
plain-line w line plain =
    ap (λ b. b && every (λ e. is_plain (item_of e)) (behind_events w line)) plain
    ∙ plain-told (step w line).world (line_whose w line) (step w line).entries (map (gave_event (line_whose w line)) (given_in (steps line w))) (plain-gave (line_whose w line) (given_in (steps line w)))

inputs-append : (m : Group) (c : ℕ) (xs ys : List Event) → full_inputs m c (xs ++ ys) ≡ full_inputs m c xs ++ full_inputs m c ys
inputs-append m c xs ys = ap (map item_of) (filter-append (is_input m c) xs ys) ∙ map-append item_of (which (is_input m c) xs) (which (is_input m c) ys)

-- A line about a resident
-- it tells one entry, and gives no token
alone-steps : (w : World) (tid : ℕ) (what : ResidentLine) (had : Bool) → IsSettled w → bare_steps (of_resident tid what had) w ≡ Tells (resident_entry w tid what had) ∷ []
unfolding bare_steps own_steps
alone-steps w tid what had rest = ap (λ bs. Tells (resident_entry w tid what had) ∷ bs) (settled-rests w rest)

one-entry : (w : World) (tid : ℕ) (what : ResidentLine) (had : Bool) → IsSettled w → (step w (of_resident tid what had)).entries ≡ resident_entry w tid what had ∷ []
one-entry w tid what had rest =
    let line = of_resident tid what had in
    entries-append (bare_steps line w) (sweep (world_after w (bare_steps line w)))
    ∙ ap (λ es. entries_of (bare_steps line w) ++ es) (sweep-tells (world_after w (bare_steps line w)))
    ∙ append-nil (entries_of (bare_steps line w))
    ∙ ap entries_of (alone-steps w tid what had rest)

no-gifts : (w : World) (tid : ℕ) (what : ResidentLine) (had : Bool) → IsSettled w → given_in (steps (of_resident tid what had) w) ≡ []
no-gifts w tid what had rest =
    let line = of_resident tid what had in
    given-append (bare_steps line w) (sweep (world_after w (bare_steps line w))) (sweep-gives (world_after w (bare_steps line w)))
    ∙ ap given_in (alone-steps w tid what had rest)

line-inputs : (m : Group) (c : ℕ) (w : World) (tid : ℕ) (what : ResidentLine) (had : Bool) → (let line = of_resident tid what had in
    full_inputs m c (line_events w line) ≡ cond (is_seen m (thread_whose w tid)) (Ran line ∷ full_inputs m c (behind_events w line)) (full_inputs m c (behind_events w line)))
line-inputs m c w tid what had = at (owner w tid)
  where
    line : ScriptLine
    line = of_resident tid what had

    later : List Event
    later = which (is_input m c) (behind_events w line)

    by_group : (b : Bool) → map item_of (cond (b && true) (record { whose = Nobody; item = Ran line } ∷ later) later) ≡ cond b (Ran line ∷ map item_of later) (map item_of later)
    by_group true = refl
    by_group false = refl

    at : (o : Option ℕ) → map item_of (cond (is_seen m (owned o) && not (is_told_to c (owned o) (Ran line))) (record { whose = owned o; item = Ran line } ∷ later) later) ≡ cond (is_seen m (owned o)) (Ran line ∷ map item_of later) (map item_of later)
    at None = refl
    at (Some pid) = at_group (m pid)
      where
        at_group : (b : Bool) → map item_of (cond (b && true) (record { whose = Of pid; item = Ran line } ∷ later) later) ≡ cond b (Ran line ∷ map item_of later) (map item_of later)
        at_group true = refl
        at_group false = refl

plain-behind : (m : Group) (c : ℕ) (w : World) (line : ScriptLine) → every is_plain (full_inputs m c (behind_events w line)) ≡ true
plain-behind m c w line = plain-events m c (behind_events w line) (plain-told (step w line).world (line_whose w line) (step w line).entries (map (gave_event (line_whose w line)) (given_in (steps line w))) (plain-gave (line_whose w line) (given_in (steps line w))))

-- a directive's status is an input where its line is
told-status : (m : Group) (c : ℕ) (w v : World) (o : Option ℕ) (status : Status)
    → full_inputs m c (told_event v (owned o) (entry.Directive word.Resident status) ∷ []) ≡ cond (is_seen m (owned o)) (Told (entry.Directive word.Resident status) ∷ []) []
told-status m c w v None status = refl
told-status m c w v (Some pid) status = at (m pid) (pid == c)
  where
    at : (a b : Bool) → map item_of (cond (a && not (b && false)) (told_event v (Of pid) (entry.Directive word.Resident status) ∷ []) []) ≡ cond a (Told (entry.Directive word.Resident status) ∷ []) []
    at true true = refl
    at true false = refl
    at false true = refl
    at false false = refl

hosts-behind-inputs : (m : Group) (c : ℕ) (w : World) (tid : ℕ) (kind : Kind) (handle : ℕ) (had : Bool) → IsSettled w
    → full_inputs m c (behind_events w (of_resident tid (hosts kind handle) had)) ≡ cond (is_seen m (thread_whose w tid)) (Told (entry.Directive word.Resident (hosting_status (live_thread w tid) had)) ∷ []) []
unfolding resident_entry
hosts-behind-inputs m c w tid kind handle had rest =
    let line = of_resident tid (hosts kind handle) had in
    ap (λ es. full_inputs m c (map (told_event (step w line).world (thread_whose w tid)) es ++ map (gave_event (thread_whose w tid)) (given_in (steps line w)))) (one-entry w tid (hosts kind handle) had rest)
    ∙ ap (λ gs. full_inputs m c (told_event (step w line).world (thread_whose w tid) (entry.Directive word.Resident (hosting_status (live_thread w tid) had)) ∷ map (gave_event (thread_whose w tid)) gs)) (no-gifts w tid (hosts kind handle) had rest)
    ∙ told-status m c w (step w line).world (owner w tid) (hosting_status (live_thread w tid) had)

-- Residents that come
-- the threads that have residents are those that the inputs tell, as far as the group sees them
pub record Agrees (m : Group) (s : State (List History)) (threads : List ℕ) : Type 0 where
  firm : Firm s.world
  numbers : Numbers s.world
  owned : (tid : ℕ) → has (is_on tid) s.residents ≡ true → is_some (owner s.world tid) ≡ true
  inside : (tid : ℕ) → is_in tid threads ≡ true → has (is_on tid) s.residents ≡ true
  same : (tid : ℕ) → is_seen m (thread_whose s.world tid) ≡ true → is_in tid threads ≡ has (is_on tid) s.residents

-- what residents hear, and their turns, leave them on their threads
connected-thread : (by : Connect) (o : Option ℕ) (view : Option ClientView) (r : Resident (List History)) → (connected win32 by o view r).thread ≡ r.thread
connected-thread by None view r = refl
connected-thread by (Some handle) view r = refl

resolved-thread : (deed : Deed) (status : Status) (fields : List Field) (r : Resident (List History)) → (resolved win32 deed status fields r).thread ≡ r.thread
resolved-thread Receives status fields r = refl
resolved-thread (AnswersConnect by) status fields r = connected-thread by _ _ r
resolved-thread (Completes k) status fields r = refl
resolved-thread (Closes k) status fields r = refl
resolved-thread (RepliesTo message) status fields r = refl

heard-thread : (status : Status) (fields : List Field) (r : Resident (List History)) → (heard_by win32 status fields r).thread ≡ r.thread
heard-thread status fields r = at r.awaits
  where
    at : (b : Bool) → (cond b (resolved win32 r.deed status fields r) r).thread ≡ r.thread
    at true = resolved-thread r.deed status fields r
    at false = refl

begun-thread : (w : World) (r : Resident (List History)) (deed : Deed) → (begun_by win32 w deed r).thread ≡ r.thread
begun-thread w r Receives = refl
begun-thread w r (AnswersConnect by) = refl
begun-thread w r (Completes k) = refl
begun-thread w r (Closes k) = refl
begun-thread w r (RepliesTo message) = refl

heard-has : (tid : ℕ) (rs : List (Resident (List History))) (e : Entry) → has (is_on tid) (heard win32 rs e) ≡ has (is_on tid) rs
heard-has tid rs (entry.Wakes who call status fields) = has-change (is_on tid) (is_on who) (heard_by win32 status fields) (λ r. ap (λ n. n == tid) (heard-thread status fields r)) rs
heard-has tid rs (entry.Answer who call status fields) = refl
heard-has tid rs (entry.Waits who call fields) = refl
heard-has tid rs (entry.Busy who) = refl
heard-has tid rs (entry.NoThread who) = refl
heard-has tid rs (entry.Died who status) = refl
heard-has tid rs (entry.Directive name status) = refl

turn-has : (tid : ℕ) (rs : List (Resident (List History))) (e : Entry) → has (is_on tid) (heard_in_turn win32 rs e) ≡ has (is_on tid) rs
turn-has tid rs (entry.Answer who call status fields) = has-change (is_on tid) (is_on who) (heard_by win32 status fields) (λ r. ap (λ n. n == tid) (heard-thread status fields r)) rs
turn-has tid rs (entry.Wakes who call status fields) = has-change (is_on tid) (is_on who) (heard_by win32 status fields) (λ r. ap (λ n. n == tid) (heard-thread status fields r)) rs
turn-has tid rs (entry.Waits who call fields) = refl
turn-has tid rs (entry.Busy who) = refl
turn-has tid rs (entry.NoThread who) = refl
turn-has tid rs (entry.Died who status) = refl
turn-has tid rs (entry.Directive name status) = refl

fold-has : (tid : ℕ) (f : List (Resident (List History)) → Entry → List (Resident (List History))) → ((rs : List (Resident (List History))) (e : Entry) → has (is_on tid) (f rs e) ≡ has (is_on tid) rs)
    → (rs : List (Resident (List History))) (es : List Entry) → has (is_on tid) (fold f rs es) ≡ has (is_on tid) rs
fold-has tid f keeps rs [] = refl
fold-has tid f keeps rs (e ∷ es) = fold-has tid f keeps (f rs e) es ∙ keeps rs e

turning-has : (tid who : ℕ) (s : State (List History)) (can : Bool) → has (is_on tid) (cond can (change (is_on who) (begun win32 s.world) s.residents) s.residents) ≡ has (is_on tid) s.residents
turning-has tid who s true = has-change (is_on tid) (is_on who) (begun win32 s.world) (λ r. ap (λ n. n == tid) (begun-thread s.world r r.deed)) s.residents
turning-has tid who s false = refl

-- a line by which no resident comes
off : (b : Bool) → (b ≡ true → ⊥) → b ≡ false
off true never = absurd (never refl)
off false never = refl

module _ (m : Group) (s : State (List History)) (threads : List ℕ) (bs : List Basic) (a : Agrees m s threads) (f : Firm (world_after s.world bs)) where
  stays-owned : (tid : ℕ) → is_some (owner s.world tid) ≡ true → is_some (owner (world_after s.world bs) tid) ≡ true
  stays-owned tid is = at (owner s.world tid) refl is
    where
      at : (o : Option ℕ) → owner s.world tid ≡ o → is_some o ≡ true → is_some (owner (world_after s.world bs) tid) ≡ true
      at None own some = absurd (cc)
      at (Some pid) own some = rw (owner-after s.world bs tid pid own) refl

  same-before : (tid : ℕ) → is_seen m (thread_whose (world_after s.world bs) tid) ≡ true → is_in tid threads ≡ has (is_on tid) s.residents
  same-before tid seen = at (owner s.world tid) refl
    where
      at : (o : Option ℕ) → owner s.world tid ≡ o → is_in tid threads ≡ has (is_on tid) s.residents
      at (Some pid) own =
          let later : owner (world_after s.world bs) tid ≡ owner s.world tid = owner-after s.world bs tid pid own ∙ sym own in
          a.same tid (subst (λ o. is_seen m (owned o) ≡ true) later seen)
      at None own =
          let unhosted : has (is_on tid) s.residents ≡ false = off (has (is_on tid) s.residents) (λ is. let some : is_some (owner s.world tid) ≡ true = a.owned tid is in let none : false ≡ true = rw own at some in absurd (cc)) in
          let untold : is_in tid threads ≡ false = off (is_in tid threads) (λ is. let hosted : has (is_on tid) s.residents ≡ true = a.inside tid is in absurd (cc)) in
          untold ∙ sym unhosted

  agrees-still : (rs : List (Resident (List History))) → ((tid : ℕ) → has (is_on tid) rs ≡ has (is_on tid) s.residents) → Agrees m (record { world = world_after s.world bs; residents = rs }) threads
  agrees-still rs same = record {
    firm = f;
    numbers = numbers-after s.world bs a.numbers;
    owned = λ tid is. stays-owned tid (a.owned tid (sym (same tid) ∙ is));
    inside = λ tid is. same tid ∙ a.inside tid is;
    same = λ tid seen. same-before tid seen ∙ sym (same tid);
  }

  -- and one by which one comes to a live thread
  agrees-hosted : (rs : List (Resident (List History))) (who : ℕ) → ((tid : ℕ) → has (is_on tid) rs ≡ (has (is_on tid) s.residents || (who == tid))) → is_some (live_thread s.world who) ≡ true
      → Agrees m (record { world = world_after s.world bs; residents = rs }) (cond (is_seen m (thread_whose s.world who)) (who ∷ threads) threads)
  agrees-hosted rs who more live = record {
    firm = f;
    numbers = numbers-after s.world bs a.numbers;
    owned = λ tid is. stays-owned tid (owned-one tid (who == tid) refl (sym (more tid) ∙ is));
    inside = λ tid is. more tid ∙ inside-one tid (is_seen m (thread_whose s.world who)) is;
    same = λ tid seen. same-one tid (who == tid) refl seen ∙ sym (more tid);
  }
    where
      known : is_some (owner s.world who) ≡ true
      known = live-has-owner s.world who a.numbers live

      seen-before : (tid : ℕ) → is_seen m (thread_whose (world_after s.world bs) tid) ≡ true → is_some (owner s.world tid) ≡ true → is_seen m (thread_whose s.world tid) ≡ true
      seen-before tid seen some = at (owner s.world tid) refl some
        where
          at : (o : Option ℕ) → owner s.world tid ≡ o → is_some o ≡ true → is_seen m (thread_whose s.world tid) ≡ true
          at None own is = absurd (cc)
          at (Some pid) own is = subst (λ o. is_seen m (owned o) ≡ true) (owner-after s.world bs tid pid own ∙ sym own) seen

      not-it : (tid : ℕ) (b : Bool) → (who == tid) ≡ false → is_in tid (cond b (who ∷ threads) threads) ≡ is_in tid threads
      not-it tid true is = rw is refl
      not-it tid false is = refl

      first-or : (x y : Bool) → y ≡ false → (x || y) ≡ true → x ≡ true
      first-or x y is one = grind arith

      or-none : (x : Bool) → (x || false) ≡ x
      or-none true = refl
      or-none false = refl

      owned-one : (tid : ℕ) (b : Bool) → (who == tid) ≡ b → (has (is_on tid) s.residents || (who == tid)) ≡ true → is_some (owner s.world tid) ≡ true
      owned-one tid true is one = subst (λ n. is_some (owner s.world n) ≡ true) (eqb-true who tid is) known
      owned-one tid false is one = a.owned tid (first-or _ _ is one)

      inside-one : (tid : ℕ) (b : Bool) → is_in tid (cond b (who ∷ threads) threads) ≡ true → (has (is_on tid) s.residents || (who == tid)) ≡ true
      inside-one tid true is = grind (arith, a.inside tid)
      inside-one tid false is = let inner : has (is_on tid) s.residents ≡ true = a.inside tid is in grind arith

      same-one : (tid : ℕ) (b : Bool) → (who == tid) ≡ b → is_seen m (thread_whose (world_after s.world bs) tid) ≡ true → is_in tid (cond (is_seen m (thread_whose s.world who)) (who ∷ threads) threads) ≡ (has (is_on tid) s.residents || (who == tid))
      same-one tid true is seen =
          let it : who ≡ tid = eqb-true who tid is in
          let later : is_seen m (thread_whose (world_after s.world bs) who) ≡ true = subst (λ n. is_seen m (thread_whose (world_after s.world bs) n) ≡ true) (sym it) seen in
          let before : is_seen m (thread_whose s.world who) ≡ true = seen-before who later known in
          rw (before, is) (grind arith)
      same-one tid false is seen =
          let old : is_in tid threads ≡ has (is_on tid) s.residents = same-before tid seen in
          not-it tid (is_seen m (thread_whose s.world who)) is ∙ old ∙ sym (rw is (or-none (has (is_on tid) s.residents)))

-- Lines
has-more : (tid : ℕ) (rs : List (Resident (List History))) (r : Resident (List History)) → has (is_on tid) (rs ++ r ∷ []) ≡ (has (is_on tid) rs || (r.thread == tid))
has-more tid [] r = at (r.thread == tid)
  where
    at : (b : Bool) → is_some (cond b (Some r) None) ≡ b
    at true = refl
    at false = refl
has-more tid (x ∷ rs) r = at (is_on tid x) (has-more tid rs r)
  where
    at : (b : Bool) → has (is_on tid) (rs ++ r ∷ []) ≡ (has (is_on tid) rs || (r.thread == tid)) → is_some (cond b (Some x) (first (is_on tid) (rs ++ r ∷ []))) ≡ (is_some (cond b (Some x) (first (is_on tid) rs)) || (r.thread == tid))
    at true rest = refl
    at false rest = rest

-- the inputs of a line that is no line about a resident, and those of later lines
abbrev pub Restores : Group → ℕ → List ℕ → World → List (Option ScriptLine) → Type 0
Restores m c threads w lines = restore threads None (map as_said (full_inputs m c (events w lines))) ≡ full_inputs m c (events w lines)

plain-restores : (m : Group) (c : ℕ) (threads : List ℕ) (w : World) (line : ScriptLine) (later : List (Option ScriptLine)) → is_plain (Ran line) ≡ true → Restores m c threads (step w line).world later → Restores m c threads w (Some line ∷ later)
plain-restores m c threads w line later plain rest =
    let f = full_inputs m c (line_events w line) in
    let r = full_inputs m c (events (step w line).world later) in
    let parts = inputs-append m c (line_events w line) (events (step w line).world later) in
    ap (λ is. restore threads None (map as_said is)) parts
    ∙ restore-plain threads f r (plain-events m c (line_events w line) (plain-line w line plain))
    ∙ ap (λ is. f ++ is) rest ∙ sym parts

-- of a turn that makes no call
turn-restores : (m : Group) (c : ℕ) (threads : List ℕ) (w : World) (tid : ℕ) (had : Bool) (later : List (Option ScriptLine)) → (is_seen m (thread_whose w tid) ≡ true → is_in tid threads ≡ had)
    → Restores m c threads (step w (of_resident tid moves had)).world later → Restores m c threads w (Some (of_resident tid moves had) ∷ later)
turn-restores m c threads w tid had later shown rest =
    ap (λ is. restore threads None (map as_said is)) parts
    ∙ at (is_seen m (thread_whose w tid)) refl
    ∙ sym parts
  where
    line : ScriptLine
    line = of_resident tid moves had

    g : List Item
    g = full_inputs m c (behind_events w line)

    r : List Item
    r = full_inputs m c (events (step w line).world later)

    parts : full_inputs m c (events w (Some line ∷ later)) ≡ cond (is_seen m (thread_whose w tid)) (Ran line ∷ g) g ++ r
    parts = inputs-append m c (line_events w line) (events (step w line).world later) ∙ ap (λ is. is ++ r) (line-inputs m c w tid moves had)

    behind : restore threads None (map as_said (g ++ r)) ≡ g ++ r
    behind = restore-plain threads g r (plain-behind m c w line) ∙ ap (λ is. g ++ is) rest

    at : (b : Bool) → is_seen m (thread_whose w tid) ≡ b → restore threads None (map as_said (cond b (Ran line ∷ g) g ++ r)) ≡ cond b (Ran line ∷ g) g ++ r
    at true seen = ap (λ b. Ran (of_resident tid moves b) ∷ restore threads None (map as_said (g ++ r))) (shown seen) ∙ ap (λ is. Ran line ∷ is) behind
    at false seen = behind

-- of a resident that comes, or is refused
succeeds_so : (live : Bool) (o : Option ThreadRow) (had : Bool) → is_some o ≡ live → (status_success (hosting_status o had)) ≡ (live && not had)
succeeds_so live None had is = rw (← is) refl
succeeds_so live (Some t) true is = rw (← is) refl
succeeds_so live (Some t) false is = rw (← is) refl

hosts-restores : (m : Group) (c : ℕ) (threads : List ℕ) (w : World) (tid : ℕ) (kind : Kind) (handle : ℕ) (had : Bool) (later : List (Option ScriptLine)) → IsSettled w → (is_seen m (thread_whose w tid) ≡ true → is_in tid threads ≡ had)
    → (let line = of_resident tid (hosts kind handle) had in
    let now = cond (is_seen m (thread_whose w tid) && status_success (hosting_status (live_thread w tid) had)) (tid ∷ threads) threads in
    Restores m c now (step w line).world later → Restores m c threads w (Some line ∷ later))
hosts-restores m c threads w tid kind handle had later settled shown rest =
    ap (λ is. restore threads None (map as_said is)) parts
    ∙ at (is_seen m (thread_whose w tid)) refl
    ∙ sym parts
  where
    line : ScriptLine
    line = of_resident tid (hosts kind handle) had

    status : Status
    status = hosting_status (live_thread w tid) had

    r : List Item
    r = full_inputs m c (events (step w line).world later)

    told : Bool → List Item
    told b = cond b (Told (entry.Directive word.Resident status) ∷ []) []

    parts : full_inputs m c (events w (Some line ∷ later)) ≡ cond (is_seen m (thread_whose w tid)) (Ran line ∷ told (is_seen m (thread_whose w tid))) (told (is_seen m (thread_whose w tid))) ++ r
    parts =
        inputs-append m c (line_events w line) (events (step w line).world later)
        ∙ ap (λ is. is ++ r) (line-inputs m c w tid (hosts kind handle) had ∙ ap (λ g. cond (is_seen m (thread_whose w tid)) (Ran line ∷ g) g) (hosts-behind-inputs m c w tid kind handle had settled))

    at : (b : Bool) → is_seen m (thread_whose w tid) ≡ b → restore threads None (map as_said (cond b (Ran line ∷ told b) (told b) ++ r)) ≡ cond b (Ran line ∷ told b) (told b) ++ r
    at true seen =
        ap (λ b. Ran (of_resident tid (hosts kind handle) b) ∷ Told (entry.Directive word.Resident status) ∷ restore (cond (status_success status) (tid ∷ threads) threads) None (map as_said r)) (shown seen)
        ∙ ap (λ is. Ran line ∷ Told (entry.Directive word.Resident status) ∷ is) (subst (λ b. restore (cond (b && status_success status) (tid ∷ threads) threads) None (map as_said r) ≡ r) seen rest)
    at false seen = subst (λ b. restore (cond (b && status_success status) (tid ∷ threads) threads) None (map as_said r) ≡ r) seen rest

-- the state goes on
line-agrees : (m : Group) (s : State (List History)) (threads : List ℕ) (line : ScriptLine) → Agrees m s threads → is_plain (Ran line) ≡ true → line_done win32 s line ≡ line → residents_behind win32 s line (step s.world line).entries ≡ fold (heard win32) s.residents (step s.world line).entries
    → Agrees m (state_behind win32 s (Some line)) threads
line-agrees m s threads line a plain same heard_is =
    agrees-still m s threads (steps (line_done win32 s line) s.world) a (firm-step s.world (line_done win32 s line) a.firm) _
    (λ tid. ap (λ l. has (is_on tid) (residents_behind win32 s line (step s.world l).entries)) same ∙ ap (has (is_on tid)) heard_is ∙ fold-has tid (heard win32) (heard-has tid) s.residents (step s.world line).entries)

turned-agrees : (m : Group) (s : State (List History)) (threads : List ℕ) (tid : ℕ) (had : Bool) → Agrees m s threads → Agrees m (state_behind win32 s (Some (of_resident tid moves had))) threads
turned-agrees m s threads who had a =
    let line = of_resident who moves had in
    let entries = (step s.world (line_done win32 s line)).entries in
    agrees-still m s threads (steps (line_done win32 s line) s.world) a (firm-step s.world (line_done win32 s line) a.firm) _
    (λ tid. fold-has tid (heard_in_turn win32) (turn-has tid) (turning win32 s line) entries ∙ turning-has tid who s (can_call s.world who))

and-none : (b : Bool) → (b && false) ≡ false
and-none true = refl
and-none false = refl

and-true : (b : Bool) → (b && true) ≡ b
and-true true = refl
and-true false = refl

hosted-agrees : (m : Group) (s : State (List History)) (threads : List ℕ) (who : ℕ) (kind : Kind) (handle : ℕ) (had : Bool) → Agrees m s threads
    → (let there = has (is_on who) s.residents in
    Agrees m (state_behind win32 s (Some (of_resident who (hosts kind handle) had))) (cond (is_seen m (thread_whose s.world who) && status_success (hosting_status (live_thread s.world who) there)) (who ∷ threads) threads))
hosted-agrees m s threads who kind handle had a = at (is_some (live_thread s.world who)) refl (has (is_on who) s.residents) refl
  where
    line : ScriptLine
    line = of_resident who (hosts kind handle) had

    entries : List Entry
    entries = (step s.world (line_done win32 s line)).entries

    rs : List (Resident (List History))
    rs = fold (heard win32) s.residents entries

    behind : World
    behind = world_after s.world (steps (line_done win32 s line) s.world)

    kept : (tid : ℕ) → has (is_on tid) rs ≡ has (is_on tid) s.residents
    kept tid = fold-has tid (heard win32) (heard-has tid) s.residents entries

    at : (live : Bool) → is_some (live_thread s.world who) ≡ live → (there : Bool) → has (is_on who) s.residents ≡ there
        → Agrees m (record { world = behind; residents = cond (live && not there) (rs ++ new_resident win32 who handle ∷ []) rs }) (cond (is_seen m (thread_whose s.world who) && status_success (hosting_status (live_thread s.world who) there)) (who ∷ threads) threads)
    at live is there its = goes (live && not there) refl
      where
        goes : (b : Bool) → (live && not there) ≡ b
            → Agrees m (record { world = behind; residents = cond b (rs ++ new_resident win32 who handle ∷ []) rs }) (cond (is_seen m (thread_whose s.world who) && status_success (hosting_status (live_thread s.world who) there)) (who ∷ threads) threads)
        goes true comes =
            let lives : live ≡ true = first-true live (not there) comes in
            subst (λ b. Agrees m (record { world = behind; residents = rs ++ new_resident win32 who handle ∷ [] }) (cond b (who ∷ threads) threads)) (sym (ap (λ b. is_seen m (thread_whose s.world who) && b) (succeeds_so live (live_thread s.world who) there is ∙ comes) ∙ and-true (is_seen m (thread_whose s.world who))))
            (agrees-hosted m s threads (steps (line_done win32 s line) s.world) a (firm-step s.world (line_done win32 s line) a.firm) (rs ++ new_resident win32 who handle ∷ []) who (λ tid. has-more tid rs (new_resident win32 who handle) ∙ ap (λ b. b || (who == tid)) (kept tid)) (is ∙ lives))
        goes false comes =
            subst (λ b. Agrees m (record { world = behind; residents = rs }) (cond b (who ∷ threads) threads)) (sym (ap (λ b. is_seen m (thread_whose s.world who) && b) (succeeds_so live (live_thread s.world who) there is ∙ comes) ∙ and-none (is_seen m (thread_whose s.world who))))
            (agrees-still m s threads (steps (line_done win32 s line) s.world) a (firm-step s.world (line_done win32 s line) a.firm) rs kept)

-- Runs
-- later lines restore whatever the state behind a line is
abbrev Onwards : Group → ℕ → List (Option ScriptLine) → Type 0
Onwards m c later = (t : State (List History)) (known : List ℕ) → Agrees m t known → Restores m c known t.world (done_from win32 t later)

plain-on : (m : Group) (c : ℕ) (s : State (List History)) (threads : List ℕ) (line : ScriptLine) (later : List (Option ScriptLine)) → Agrees m s threads → Onwards m c later
    → is_plain (Ran line) ≡ true → line_done win32 s line ≡ line → residents_behind win32 s line (step s.world line).entries ≡ fold (heard win32) s.residents (step s.world line).entries
    → Restores m c threads s.world (done_from win32 s (Some line ∷ later))
plain-on m c s threads line later a on is same heard_is =
    plain-restores m c threads s.world (line_done win32 s line) (done_from win32 (state_behind win32 s (Some line)) later) (ap (λ l. is_plain (Ran l)) same ∙ is)
    (on (state_behind win32 s (Some line)) threads (line-agrees m s threads line a is same heard_is))

turn-by : (m : Group) (c : ℕ) (s : State (List History)) (threads : List ℕ) (tid : ℕ) (to : ScriptLine) (all : List (Option ScriptLine)) → Agrees m s threads → Restores m c threads (step s.world to).world all
    → (o : Option (Resident (List History))) (can : Bool) → first (is_on tid) s.residents ≡ o → to ≡ turn_done win32 s.world tid can o → Restores m c threads s.world (Some to ∷ all)
turn-by m c s threads tid to all a rest None can none is =
    subst (λ l. Restores m c threads s.world (Some l ∷ all)) (sym is)
    (turn-restores m c threads s.world tid false all (λ seen. a.same tid seen ∙ ap is_some none) (subst (λ l. Restores m c threads (step s.world l).world all) is rest))
turn-by m c s threads tid to all a rest (Some r) true some is =
    subst (λ l. Restores m c threads s.world (Some l ∷ all)) (sym is)
    (plain-restores m c threads s.world (run tid (next_call win32 s.world r)) all refl (subst (λ l. Restores m c threads (step s.world l).world all) is rest))
turn-by m c s threads tid to all a rest (Some r) false some is =
    subst (λ l. Restores m c threads s.world (Some l ∷ all)) (sym is)
    (turn-restores m c threads s.world tid true all (λ seen. a.same tid seen ∙ ap is_some some) (subst (λ l. Restores m c threads (step s.world l).world all) is rest))

turns-on : (m : Group) (c : ℕ) (s : State (List History)) (threads : List ℕ) (tid : ℕ) (had : Bool) (later : List (Option ScriptLine)) → Agrees m s threads → Onwards m c later
    → Restores m c threads s.world (done_from win32 s (Some (of_resident tid moves had) ∷ later))
turns-on m c s threads tid had later a on =
    let line = of_resident tid moves had in
    turn-by m c s threads tid (line_done win32 s line) (done_from win32 (state_behind win32 s (Some line)) later) a
    (on (state_behind win32 s (Some line)) threads (turned-agrees m s threads tid had a))
    (first (is_on tid) s.residents) (can_call s.world tid) refl refl

hosts-on : (m : Group) (c : ℕ) (s : State (List History)) (threads : List ℕ) (tid : ℕ) (kind : Kind) (handle : ℕ) (had : Bool) (later : List (Option ScriptLine)) → Agrees m s threads → Onwards m c later
    → Restores m c threads s.world (done_from win32 s (Some (of_resident tid (hosts kind handle) had) ∷ later))
hosts-on m c s threads tid kind handle had later a on =
    let line = of_resident tid (hosts kind handle) had in
    let there = has (is_on tid) s.residents in
    hosts-restores m c threads s.world tid kind handle there (done_from win32 (state_behind win32 s (Some line)) later) a.firm.settled (λ seen. a.same tid seen)
    (on (state_behind win32 s (Some line)) (cond (is_seen m (thread_whose s.world tid) && status_success (hosting_status (live_thread s.world tid) there)) (tid ∷ threads) threads) (hosted-agrees m s threads tid kind handle had a))

line-on : (m : Group) (c : ℕ) (s : State (List History)) (threads : List ℕ) (line : ScriptLine) (later : List (Option ScriptLine)) → Agrees m s threads → Onwards m c later → Restores m c threads s.world (done_from win32 s (Some line ∷ later))
line-on m c s threads (boot pid tid name) later a on = plain-on m c s threads (boot pid tid name) later a on refl refl refl
line-on m c s threads (thread tid pid) later a on = plain-on m c s threads (thread tid pid) later a on refl refl refl
line-on m c s threads (token name content) later a on = plain-on m c s threads (token name content) later a on refl refl refl
line-on m c s threads (dir path) later a on = plain-on m c s threads (dir path) later a on refl refl refl
line-on m c s threads (link path target) later a on = plain-on m c s threads (link path target) later a on refl refl refl
line-on m c s threads (run tid call) later a on = plain-on m c s threads (run tid call) later a on refl refl refl
line-on m c s threads (of_resident tid moves had) later a on = turns-on m c s threads tid had later a on
line-on m c s threads (of_resident tid (hosts kind handle) had) later a on = hosts-on m c s threads tid kind handle had later a on

pub restores : (m : Group) (c : ℕ) (s : State (List History)) (threads : List ℕ) (lines : List (Option ScriptLine)) → Agrees m s threads → Restores m c threads s.world (done_from win32 s lines)
restores m c s threads [] a = refl
restores m c s threads (None ∷ later) a = restores m c (state_behind win32 s None) threads later (agrees-still m s threads [] a a.firm s.residents (λ tid. refl))
restores m c s threads (Some line ∷ later) a = line-on m c s threads line later a (λ t known agrees. restores m c t known later agrees)

pub agrees_none : (m : Group) → Agrees m first_state []
agrees_none m = record { firm = firm_none; numbers = numbers_none; owned = λ tid is. absurd (cc); inside = λ tid is. absurd (cc); same = λ tid seen. refl }
