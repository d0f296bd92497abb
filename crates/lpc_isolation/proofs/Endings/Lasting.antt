-- Turns of settling begin no waits but those of threads that waited, and whom a turn woke waits no more behind it.
use Rattle.std.proofs.Common.{◌≡◌, ℕ, List, [], ◌∷◌, ◌++◌, Bool, true, false, not, Option, Some, None, refl, sym, subst, ◌∙◌, arith}
use Rattle.std.specs.Prelude.{◌&&◌, ◌||◌, ◌==◌}
use Rattle.std.proofs.lemmas.Bool.{and_from, eqb-true, not-true}
use Rattle.lpc_base.specs.Rows.{every, first, given, has, without}
use Rattle.lpc_base.specs.declared.status.TheConstants.{SUCCESS}
use Rattle.lpc_base.proofs.Bools.{first-true, second-true}
use Rattle.lpc_base.proofs.RowWords.{every-append, every-more, has-change}
use Rattle.lpc_model.specs.Message.{asks}
use Rattle.lpc_model.specs.World.{Accepted, Connect, Event, Listen, MessageRow, ProcessRow, Raised, Receive, Request, ThreadRow, WaitKind, WaitRow, World}
use Rattle.lpc_model.specs.declared.entry.Entry.{Entry}
use Rattle.lpc_model.specs.declared.entry.Entry.TheVariants as entry
use Rattle.lpc_model.specs.Found.{is_event, live_threads, waits_as, waits_at}
use Rattle.lpc_model.specs.Basics.{Awaits, Basic, Cuts, Dies, Dooms, DropsHandle, DropsOwned, DropsViewsOf, Empties, Enters, Leaves, LetsGo, Marks, Receives, Takes, TakesConnect, Unbinds, Unregisters, Wakes, Withdraws, basic, entries_of, first_code, received, told, world_after}
use Rattle.lpc_model.specs.Death.{code_status}
use Rattle.lpc_model.specs.Entering.{enter, given_steps, shown, takes, woken}
use Rattle.lpc_model.specs.Raise.{Handled, Heard, Hearing, Next, Unhandled, behind_chance, event_begun, event_wait, go_on, goes_on}
use Rattle.lpc_model.specs.Settle.{end_doomed, settle, turns}
use Rattle.lpc_model.proofs.Calls.Raising.{GoesOn, on-holds}
use Rattle.lpc_model.proofs.Settling.Loop.{settle-holds, turns-hold}
use Rattle.lpc_model.proofs.Steps.InTurn.{after-append, entries-append}
use Rattle.lpc_model.proofs.Steps.Rows.{has-append}
use Rattle.lpc_isolation.proofs.Each.Raises.{event_row}
use Rattle.lpc_isolation.proofs.Plays.Lines.{is_done}
use Rattle.lpc_isolation.proofs.Closings.Mild.{is_mild}
use Rattle.lpc_isolation.proofs.Endings.Threads.{ends-mild}

-- Lists of waits
pub has-without : {X : Type 0} (p test : X → Bool) (xs : List X) → has p (without test xs) ≡ true → has p xs ≡ true
has-without p test [] is = absurd (cc)
has-without p test (x ∷ xs) is = grind (arith, has-without p test xs)

none-waits : (n : ℕ) (xs : List WaitRow) → has (waits_as n) (without (waits_as n) xs) ≡ false
none-waits n [] = refl
none-waits n (x ∷ xs) = grind (arith, none-waits n xs)

pub wait-found : (n : ℕ) (xs : List WaitRow) (x : WaitRow) → first (waits_as n) xs ≡ Some x → has (waits_as n) xs ≡ true
wait-found n xs x at = rw at refl

-- Steps by which no wait begins, and that tell of ends alone
abbrev pub is_lasting : Basic → Bool
is_lasting (Receives who queue) = true
is_lasting b = is_mild b

fewer-step : (n : ℕ) (w : World) (b : Basic) → is_lasting b ≡ true → has (waits_as n) (basic w b).waits ≡ true → has (waits_as n) w.waits ≡ true
fewer-step n w (Wakes who call status fields) ok is = has-without (waits_as n) (waits_as who) w.waits is
fewer-step n w (Dies who status) ok is = has-without (waits_as n) (waits_as who) w.waits is
fewer-step n w (Receives who queue) ok is = sym (has-change (waits_as n) (waits_at who queue) received (λ x. refl) w.waits) ∙ is
fewer-step n w (Withdraws who) ok is = is
fewer-step n w (Marks who) ok is = is
fewer-step n w (LetsGo pid) ok is = is
fewer-step n w (Empties q) ok is = is
fewer-step n w (Unbinds b) ok is = is
fewer-step n w (Cuts b) ok is = is
fewer-step n w (DropsHandle pid value) ok is = is
fewer-step n w (Enters x) ok is = is
fewer-step n w (Takes q) ok is = is
fewer-step n w (TakesConnect q) ok is = is
fewer-step n w (Unregisters who b) ok is = is
fewer-step n w (DropsViewsOf pid) ok is = is
fewer-step n w (DropsOwned b) ok is = is
fewer-step n w b ok is = absurd (cc)

pub fewer-run : (n : ℕ) (w : World) (bs : List Basic) → every is_lasting bs ≡ true → has (waits_as n) (world_after w bs).waits ≡ true → has (waits_as n) w.waits ≡ true
fewer-run n w [] ok is = is
fewer-run n w (b ∷ bs) ok is = fewer-step n w b (first-true _ _ ok) (fewer-run n (basic w b) bs (second-true (is_lasting b) _ ok) is)

-- an entry that tells of an end
abbrev pub is_end_entry : Entry → Bool
is_end_entry (entry.Wakes who call status fields) = true
is_end_entry (entry.Died who status) = true
is_end_entry (entry.Answer who call status fields) = false
is_end_entry (entry.Waits who call fields) = false
is_end_entry (entry.Busy who) = false
is_end_entry (entry.NoThread who) = false
is_end_entry (entry.Directive name status) = false

-- whom it tells of waits no more
abbrev pub is_over : World → Entry → Bool
is_over v (entry.Wakes who call status fields) = not (has (waits_as who) v.waits)
is_over v (entry.Died who status) = not (has (waits_as who) v.waits)
is_over v (entry.Answer who call status fields) = true
is_over v (entry.Waits who call fields) = true
is_over v (entry.Busy who) = true
is_over v (entry.NoThread who) = true
is_over v (entry.Directive name status) = true

over-done : (v : World) (e : Entry) → is_over v e ≡ true → is_done v e ≡ true
over-done v (entry.Wakes who call status fields) is = is
over-done v (entry.Died who status) is = refl
over-done v (entry.Answer who call status fields) is = refl
over-done v (entry.Waits who call fields) is = refl
over-done v (entry.Busy who) is = refl
over-done v (entry.NoThread who) is = refl
over-done v (entry.Directive name status) is = refl

off : (b : Bool) → (b ≡ true → ⊥) → b ≡ false
off true never = absurd (never refl)
off false never = refl

step-done : (w v : World) (b : Basic) → is_lasting b ≡ true → ((n : ℕ) → has (waits_as n) v.waits ≡ true → has (waits_as n) (basic w b).waits ≡ true) → (every (is_over v) (told b) ≡ true) × (every is_end_entry (told b) ≡ true)
step-done w v (Wakes who call status fields) ok fewer = let none : has (waits_as who) v.waits ≡ false = off (has (waits_as who) v.waits) (λ is. let never : false ≡ true = sym (none-waits who w.waits) ∙ fewer who is in cc) in (rw none refl, refl)
step-done w v (Dies who status) ok fewer = let none : has (waits_as who) v.waits ≡ false = off (has (waits_as who) v.waits) (λ is. let never : false ≡ true = sym (none-waits who w.waits) ∙ fewer who is in cc) in (rw none refl, refl)
step-done w v (Receives who queue) ok fewer = (refl, refl)
step-done w v (Withdraws who) ok fewer = (refl, refl)
step-done w v (Marks who) ok fewer = (refl, refl)
step-done w v (LetsGo pid) ok fewer = (refl, refl)
step-done w v (Empties q) ok fewer = (refl, refl)
step-done w v (Unbinds b) ok fewer = (refl, refl)
step-done w v (Cuts b) ok fewer = (refl, refl)
step-done w v (DropsHandle pid value) ok fewer = (refl, refl)
step-done w v (Enters x) ok fewer = (refl, refl)
step-done w v (Takes q) ok fewer = (refl, refl)
step-done w v (TakesConnect q) ok fewer = (refl, refl)
step-done w v (Unregisters who b) ok fewer = (refl, refl)
step-done w v (DropsViewsOf pid) ok fewer = (refl, refl)
step-done w v (DropsOwned b) ok fewer = (refl, refl)
step-done w v b ok fewer = absurd (cc)

run-done : (w : World) (bs : List Basic) → every is_lasting bs ≡ true → (every (is_over (world_after w bs)) (entries_of bs) ≡ true) × (every is_end_entry (entries_of bs) ≡ true)
run-done w [] ok = (refl, refl)
run-done w (b ∷ bs) ok =
    let rest = run-done (basic w b) bs (second-true (is_lasting b) _ ok) in
    let here = step-done w (world_after (basic w b) bs) b (first-true _ _ ok) (λ n is. fewer-run n (basic w b) bs (second-true (is_lasting b) _ ok) is) in (
      every-append (is_over (world_after (basic w b) bs)) (told b) (entries_of bs) here.0 rest.0,
      every-append is_end_entry (told b) (entries_of bs) here.1 rest.1,
    )

-- What turns leave of waits, and tell
abbrev pub begins_of : World → Basic → Bool
begins_of w (Awaits x) = is_event x && has (waits_as x.thread) w.waits
begins_of w b = true

pub record Lasts (w : World) (bs : List Basic) : Type 0 where
  pub begins : every (begins_of w) bs ≡ true
  pub fewer : (n : ℕ) → has (waits_as n) (world_after w bs).waits ≡ true → has (waits_as n) w.waits ≡ true
  pub over : every (is_over (world_after w bs)) (entries_of bs) ≡ true
  pub ends : every is_end_entry (entries_of bs) ≡ true

pub lasts-none : (w : World) → Lasts w []
lasts-none w = record { begins = refl; fewer = λ n is. is; over = refl; ends = refl }

pub begins-more : (w v : World) → ((n : ℕ) → has (waits_as n) v.waits ≡ true → has (waits_as n) w.waits ≡ true) → (b : Basic) → begins_of v b ≡ true → begins_of w b ≡ true
begins-more w v fewer (Awaits x) is = and_from _ _ (first-true _ _ is) (fewer x.thread (second-true (is_event x) _ is))
begins-more w v fewer b is = refl

pub over-more : (w v : World) → ((n : ℕ) → has (waits_as n) v.waits ≡ true → has (waits_as n) w.waits ≡ true) → (e : Entry) → is_over w e ≡ true → is_over v e ≡ true
over-more w v fewer (entry.Wakes who call status fields) is =
    let none : has (waits_as who) w.waits ≡ false = not-true _ is in
    let gone : has (waits_as who) v.waits ≡ false = off (has (waits_as who) v.waits) (λ there. let never : false ≡ true = sym none ∙ fewer who there in cc) in
    rw gone refl
over-more w v fewer (entry.Died who status) is =
    let none : has (waits_as who) w.waits ≡ false = not-true _ is in
    let gone : has (waits_as who) v.waits ≡ false = off (has (waits_as who) v.waits) (λ there. let never : false ≡ true = sym none ∙ fewer who there in cc) in
    rw gone refl
over-more w v fewer (entry.Answer who call status fields) is = refl
over-more w v fewer (entry.Waits who call fields) is = refl
over-more w v fewer (entry.Busy who) is = refl
over-more w v fewer (entry.NoThread who) is = refl
over-more w v fewer (entry.Directive name status) is = refl

-- so its entries are settled, behind later turns too
pub lasts-done : (w v : World) (bs : List Basic) → Lasts w bs → ((n : ℕ) → has (waits_as n) v.waits ≡ true → has (waits_as n) (world_after w bs).waits ≡ true) → every (is_done v) (entries_of bs) ≡ true
lasts-done w v bs l fewer = every-more (is_over (world_after w bs)) (is_done v) (λ e is. over-done v e (over-more (world_after w bs) v fewer e is)) (entries_of bs) l.over

pub lasts-append : (w : World) (bs cs : List Basic) → Lasts w bs → Lasts (world_after w bs) cs → Lasts w (bs ++ cs)
lasts-append w bs cs p q = record {
  begins = every-append (begins_of w) bs cs p.begins (every-more (begins_of (world_after w bs)) (begins_of w) (begins-more w (world_after w bs) p.fewer) cs q.begins);
  fewer = λ n is. p.fewer n (q.fewer n (subst (λ (v : World). has (waits_as n) v.waits ≡ true) (after-append w bs cs) is));
  over = subst (λ v. every (is_over v) (entries_of (bs ++ cs)) ≡ true) (sym (after-append w bs cs)) (subst (λ es. every (is_over (world_after (world_after w bs) cs)) es ≡ true) (sym (entries-append bs cs))
      (every-append (is_over (world_after (world_after w bs) cs)) (entries_of bs) (entries_of cs) (every-more (is_over (world_after w bs)) (is_over (world_after (world_after w bs) cs)) (over-more (world_after w bs) (world_after (world_after w bs) cs) q.fewer) (entries_of bs) p.over) q.over));
  ends = subst (λ es. every is_end_entry es ≡ true) (sym (entries-append bs cs)) (every-append is_end_entry (entries_of bs) (entries_of cs) p.ends q.ends);
}

lasting-begins : (w : World) (b : Basic) → is_lasting b ≡ true → begins_of w b ≡ true
lasting-begins w (Awaits x) ok = absurd (cc)
lasting-begins w b ok = refl

pub lasting-lasts : (w : World) (bs : List Basic) → every is_lasting bs ≡ true → Lasts w bs
lasting-lasts w bs ok = record {
  begins = every-more is_lasting (begins_of w) (lasting-begins w) bs ok;
  fewer = λ n is. fewer-run n w bs ok is;
  over = (run-done w bs ok).0;
  ends = (run-done w bs ok).1;
}

-- a process that ends
pub mild-lasting : (b : Basic) → is_mild b ≡ true → is_lasting b ≡ true
mild-lasting (Receives who queue) is = refl
mild-lasting b is = is

pub doomed-lasts : (w : World) (p : ProcessRow) → Lasts w (end_doomed p w)
unfolding end_doomed
doomed-lasts w p =
    let code = code_status (first_code 0 p.doom) in
    let ts : List ThreadRow = live_threads w p.number in
    lasting-lasts w (end_doomed p w) (every-more is_mild is_lasting mild-lasting (end_doomed p w) (ends-mild p.number code ts w))

-- a marked event that goes on
given-lasting : (x : MessageRow) (z : WaitRow) (sort : WaitKind) (asked : Bool) → z.kind ≡ sort → asks x.message ≡ asked → every is_lasting (given_steps z x ++ woken SUCCESS (shown z x) z ∷ []) ≡ true
given-lasting x z (Request a) true is asked = rw (is, asked) refl
given-lasting x z (Request a) false is asked = rw (is, asked) refl
given-lasting x z (Event e) true is asked = rw (is, asked) refl
given-lasting x z (Event e) false is asked = rw (is, asked) refl
given-lasting x z Receive true is asked = rw (is, asked) refl
given-lasting x z Receive false is asked = rw (is, asked) refl
given-lasting x z Listen true is asked = rw (is, asked) refl
given-lasting x z Listen false is asked = rw (is, asked) refl
given-lasting x z (Connect a offer) true is asked = rw (is, asked) refl
given-lasting x z (Connect a offer) false is asked = rw (is, asked) refl
given-lasting x z (Accepted a r) true is asked = rw (is, asked) refl
given-lasting x z (Accepted a r) false is asked = rw (is, asked) refl

entered-lasting : (x : MessageRow) (o : Option WaitRow) → every is_lasting (given o (λ z. given_steps z x ++ woken SUCCESS (shown z x) z ∷ [])) ≡ true
entered-lasting x None = refl
entered-lasting x (Some z) = given-lasting x z z.kind (asks x.message) refl refl

pub enter-lasting : (x : MessageRow) (w : World) → every is_lasting (enter x w) ≡ true
enter-lasting x w = entered-lasting x (first (takes x) w.waits)

left-lasts : (w : World) (n : ℕ) → Lasts w (Leaves n ∷ [])
left-lasts w n = record { begins = refl; fewer = λ k is. has-without (waits_as k) (waits_as n) w.waits is; over = refl; ends = refl }

or-either : (a b : Bool) → (a || b) ≡ true → (b ≡ true → a ≡ true) → a ≡ true
or-either true b is back = refl
or-either false true is back = back refl
or-either false false is back = absurd (cc)

begun-lasts : (w : World) (t : ThreadRow) (x : WaitRow) (code : ℕ) (handled : Bool) (h : Hearing) → has (waits_as t.number) w.waits ≡ true → Lasts w (Leaves x.thread ∷ event_begun t code handled h)
begun-lasts w t x code handled h there = record {
  begins = rw there refl;
  fewer = λ n is.
      let parts : (has (waits_as n) (without (waits_as x.thread) w.waits) || has (waits_as n) (event_wait t code handled h ∷ [])) ≡ true = sym (has-append (waits_as n) (without (waits_as x.thread) w.waits) (event_wait t code handled h ∷ [])) ∙ is in
      from n (has (waits_as n) (without (waits_as x.thread) w.waits)) refl parts;
  over = refl;
  ends = refl;
}
  where
    one : (n : ℕ) (b : Bool) → (t.number == n) ≡ b → has (waits_as n) (event_wait t code handled h ∷ []) ≡ true → (t.number == n) ≡ true
    one n true own is = own
    one n false own is = let never : false ≡ true = rw own at is in absurd (cc)

    from : (n : ℕ) (a : Bool) → has (waits_as n) (without (waits_as x.thread) w.waits) ≡ a → (has (waits_as n) (without (waits_as x.thread) w.waits) || has (waits_as n) (event_wait t code handled h ∷ [])) ≡ true → has (waits_as n) w.waits ≡ true
    from n true old is = has-without (waits_as n) (waits_as x.thread) w.waits old
    from n false none is =
        let last : has (waits_as n) (event_wait t code handled h ∷ []) ≡ true = rw none at is in
        subst (λ k. has (waits_as k) w.waits ≡ true) (eqb-true t.number n (one n (t.number == n) refl last)) there

pub goes-lasts : (w : World) (tid : ℕ) (t : ThreadRow) (x : WaitRow) (r : Raised) → GoesOn w tid t x r → Lasts w (goes_on t x r (behind_chance w x.process r.handled r.chance) w)
goes-lasts w tid t x r g = at (behind_chance w x.process r.handled r.chance)
  where
    waits : has (waits_as t.number) w.waits ≡ true
    waits = subst (λ n. has (waits_as n) w.waits ≡ true) (sym (Rattle.lpc_model.proofs.Calls.Usable.live-number w tid t g.lives)) (wait-found tid w.waits x g.waits)

    at : (n : Next) → Lasts w (goes_on t x r n w)
    at Handled = lasting-lasts w (woken SUCCESS [] x ∷ []) refl
    at Unhandled = left-dooms
      where
        left-dooms : Lasts w (Leaves x.thread ∷ Dooms x.process r.code ∷ [])
        left-dooms = let l : Lasts w (Leaves x.thread ∷ []) = left-lasts w x.thread in record { begins = refl; fewer = l.fewer; over = refl; ends = refl }
    at (Heard h) =
        let start : List Basic = Leaves x.thread ∷ event_begun t r.code r.handled h in
        let v : World = world_after w start in
        lasts-append w start (enter (event_row t r.code h) v) (begun-lasts w t x r.code r.handled h waits) (lasting-lasts v (enter (event_row t r.code h) v) (enter-lasting (event_row t r.code h) v))

pub on-lasts : (w : World) (tid : ℕ) → Lasts w (go_on tid w)
on-lasts w tid = on-holds (Lasts w) w tid (lasts-none w) (λ t x r g. goes-lasts w tid t x r g)

pub turns-last : (n : ℕ) (w : World) → Lasts w (turns n w)
turns-last n w = turns-hold (λ _. Unit {0}) Lasts lasts-none lasts-append (λ w bs is _. tt) (λ w tid later some _. on-lasts w tid) (λ w p some _. doomed-lasts w p) n w tt

pub settle-lasts : (w : World) → Lasts w (settle w)
settle-lasts w = settle-holds (λ _. Unit {0}) Lasts lasts-none lasts-append (λ w bs is _. tt) (λ w tid later some _. on-lasts w tid) (λ w p some _. doomed-lasts w p) w tt
