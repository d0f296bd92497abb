-- A line in a play, with what settles behind it.
use Rattle.std.proofs.Common.{◌≡◌, ℕ, List, [], ◌∷◌, ◌++◌, Bool, true, false, not, map, Some, None, refl, ap, sym, subst, ◌∙◌, arith}
use Rattle.std.specs.Prelude.{◌&&◌, ◌||◌, ◌==◌}
use Rattle.std.proofs.lemmas.Bool.{and_from}
use Rattle.std.proofs.lemmas.List.{map-append}
use Rattle.lpc_base.specs.Rows.{every, first, has, passes, which}
use Rattle.lpc_base.proofs.Bools.{first-true, same-number, second-true}
use Rattle.lpc_base.proofs.RowWords.{every-more, every-which, first-passes}
use Rattle.lpc_model.specs.declared.entry.Entry.{Entry}
use Rattle.lpc_model.specs.declared.entry.Entry.TheVariants as entry
use Rattle.lpc_model.specs.World.{Birth, Contents, Impersonation, ThreadRow, WaitRow, World}
use Rattle.lpc_model.specs.Found.{is_live, is_live_thread, lives_in, live_thread, waits_as}
use Rattle.lpc_model.specs.Basics.{Basic, Dooms, basic, entries_of, world_after}
use Rattle.lpc_model.specs.Lines.{ScriptLine, boot, dir, link, of_resident, raise, run, thread, token}
use Rattle.lpc_model.specs.Settle.{IsSettled, settle}
use Rattle.lpc_model.specs.Circle.{Event, Group, Item, Nobody, Ran, Told, Whose, full_items, gave_event, given_in, is_seen, line_whose, owner, thread_whose, told_event}
use Rattle.lpc_model.proofs.Steps.InTurn.{entries-append}
use Rattle.lpc_isolation.proofs.Calls.Doomed.{ending-rows}
use Rattle.lpc_isolation.proofs.Calls.Lines.{owner-in}
use Rattle.lpc_isolation.proofs.Closings.Stages.{told-append}
use Rattle.lpc_isolation.proofs.Each.Listens.{own_entry, tells_some}
use Rattle.lpc_isolation.proofs.Each.Instances.{leading}
use Rattle.lpc_isolation.proofs.Endings.Guessed.{agree-self, agrees, goes-later, goes_out, guess, knows}
use Rattle.lpc_isolation.proofs.Endings.Lasting.{Lasts, begins-more, begins_of, is_over, settle-lasts}
use Rattle.lpc_isolation.proofs.Endings.Mixed.{joined, over-told, self-waits}
use Rattle.lpc_isolation.proofs.Endings.Runs.{Mixed, is_own, said, view-settled}
use Rattle.lpc_isolation.proofs.Endings.Settled.{absorb-settled, settle-apart}
use Rattle.lpc_isolation.proofs.Endings.Settling.{given-append, settling-gives}
use Rattle.lpc_isolation.proofs.Endings.Spared.{is_spared, less}
use Rattle.lpc_isolation.proofs.Endings.Threads.{is_ending_of}
use Rattle.lpc_isolation.proofs.Endings.Turns.{Turning}
use Rattle.lpc_isolation.proofs.Gone.Bare.{bare_line_events, own_line_events}
use Rattle.lpc_isolation.proofs.Gone.Restful.{settled-rests}
use Rattle.lpc_isolation.proofs.Gone.Served.{own_served, own_served_step, served_step, served_steps}
use Rattle.lpc_isolation.proofs.Memory.Heard.{Heard, entries-silent, entries_memo, is_silent, line_memo, takes_any}
use Rattle.lpc_isolation.proofs.Memory.ByteLines.{BytesKnown, line-bytes_known}
use Rattle.lpc_isolation.proofs.Memory.Knows.{AllKnown, known_queue, run-known}
use Rattle.lpc_isolation.proofs.Memory.Lines.{Known, line-known}
use Rattle.lpc_isolation.proofs.Memory.Settling.{entries-harmless, is_harmless, settle-harmless, settle-known}
use Rattle.lpc_isolation.proofs.Plays.Behind.{Ahead, StoodAll, are-settling, due-here, kept-own, own-fine, quiet, reads-here, rests-here, same-used, seen_from, stands-behind, turning-own}
use Rattle.lpc_isolation.proofs.Plays.Due.{Due, lose-gives, loses, rests}
use Rattle.lpc_isolation.proofs.Plays.Fails.{is_others, settle-told}
use Rattle.lpc_isolation.proofs.Plays.Housed.{live-house}
use Rattle.lpc_isolation.proofs.Plays.Lines.{IsLed, OnceUsed, Owes, accepts, follows, heard-view, is_done, next_entry, own-told, quiet-inputs, raises, thread-view}
use Rattle.lpc_isolation.proofs.Plays.Play.{Played, absorbed, gave_items, given_at, given_inputs, hidden, is_told_input, items-append, own_given_at, own_told_at, told_at, told_inputs, told_items, visible}
use Rattle.lpc_isolation.proofs.Plays.Settles.{HasNone, absorbed-settler, ends-heard, events-used, former, inputs-used, latter, memo-append, mixed-view, none-last, none-swap, run-fewer, settle-mixed, settled_items, settler, settling}
use Rattle.lpc_isolation.proofs.Plays.Speaks.{Speaks, fails, line-speaks, speaks}
use Rattle.lpc_isolation.proofs.Plays.Stands.{Kept, Line, State, Stood, absorbed-bytes, absorbed-memo, absorbed-view, of-line, owes-line, played_bytes, played_items, played_view, player}
use Rattle.lpc_isolation.proofs.Rows.Firm.{Firm}
use Rattle.lpc_isolation.proofs.Views.Alone.{HasFineRows, alone}
use Rattle.lpc_isolation.proofs.Views.Apart.{absorb-append, absorb_all, are_apart, heard, run-apart, run-quiet}
use Rattle.lpc_isolation.proofs.Views.Bytes.{Agree}
use Rattle.lpc_isolation.proofs.Views.Reads.{FineLine}
use Rattle.lpc_isolation.proofs.Views.Seen.{live-owner}
use Rattle.lpc_isolation.proofs.Views.View.{our_wait, view}

-- Entries that are settled stay so, and show no message in a view that has no more waits
done-more : (w v : World) → ((n : ℕ) → has (waits_as n) v.waits ≡ true → has (waits_as n) w.waits ≡ true) → (e : Entry) → is_done w e ≡ true → is_done v e ≡ true
done-more w v fewer (entry.Wakes who call status fields) is = at (has (waits_as who) v.waits) refl
  where
    at : (b : Bool) → has (waits_as who) v.waits ≡ b → not b ≡ true
    at false none = refl
    at true some = let never : not true ≡ true = rw (fewer who some) at is in never
done-more w v fewer (entry.Answer who call status fields) is = refl
done-more w v fewer (entry.Waits who call fields) is = refl
done-more w v fewer (entry.Busy who) is = refl
done-more w v fewer (entry.NoThread who) is = refl
done-more w v fewer (entry.Died who status) is = refl
done-more w v fewer (entry.Directive word status) is = refl

none-waits : (p : WaitRow → Bool) (xs : List WaitRow) → not (has p xs) ≡ true → first p xs ≡ None
none-waits p [] is = refl
none-waits p (x ∷ xs) is = grind (arith, none-waits p xs)

done-silent : (v : World) (e : Entry) → is_done v e ≡ true → is_silent v e ≡ true
done-silent v (entry.Wakes who call status fields) is = rw (none-waits (waits_as who) v.waits is) refl
done-silent v (entry.Answer who call status fields) is = refl
done-silent v (entry.Waits who call fields) is = refl
done-silent v (entry.Busy who) is = refl
done-silent v (entry.NoThread who) is = refl
done-silent v (entry.Died who status) is = refl
done-silent v (entry.Directive word status) is = refl

has-which : (p k : WaitRow → Bool) (xs : List WaitRow) → has p (which k xs) ≡ true → has p xs ≡ true
has-which p k [] is = absurd (cc)
has-which p k (x ∷ xs) is = grind (arith, has-which p k xs)

-- What is guessed of members' waits, behind the line's own entries too
or-second : (a b : Bool) → b ≡ true → (a || b) ≡ true
or-second true b is = refl
or-second false b is = is

guess-known : (m : Group) (c : ℕ) (own : World) (es : List Entry) (js : List Item) → m c ≡ true → OnceUsed own → every (is_over own) es ≡ true → every (knows m (is_own c own) (guess m (is_own c (view m own)) (told_items es ++ js)) js) (view m own).waits ≡ true
guess-known m c own es js c_in once over = every-more (λ x. has (waits_as x.thread) own.waits) (knows m (is_own c own) (guess m (is_own c (view m own)) (told_items es ++ js)) js) one (view m own).waits (every-which (λ x. has (waits_as x.thread) own.waits) (our_wait m) own.waits (self-waits own.waits))
  where
    one : (x : WaitRow) → has (waits_as x.thread) own.waits ≡ true → knows m (is_own c own) (guess m (is_own c (view m own)) (told_items es ++ js)) js x ≡ true
    one x waits =
        let same : guess m (is_own c (view m own)) (told_items es ++ js) x.thread ≡ guess m (is_own c own) js x.thread =
        ap (λ b. not b && goes_out m (told_items es ++ js) x.thread) (thread-view m c own x.thread c_in once)
        ∙ ap (λ b. not (is_own c own x.thread) && b) (goes-later m es js x.thread (over-told x.thread own es waits over)) in
        or-second (not (takes_any x)) (agrees (guess m (is_own c (view m own)) (told_items es ++ js) x.thread) (guess m (is_own c own) js x.thread))
        (subst (λ b. agrees b (guess m (is_own c own) js x.thread) ≡ true) (sym same) (agree-self (guess m (is_own c own) js x.thread)))

-- A call that tells something is led by it
led-some : (m : Group) (c : ℕ) (w : World) (t : List Heard) (k : Contents) (line : ScriptLine) → m c ≡ true → Stood m c w (seen_from m w t k) → HasFineRows m c w → HasFineRows m c (own_served_step w line).world → FineLine m c k w line → tells_some (own_served line w) ≡ true → (is : List Item) → IsLed m c w line (told_items (own_told_at m c w line) ++ is)
led-some m c w t k (run tid call) c_in st fine next ok some is = λ seen other.
    let o : Owes (leading m (known_queue t) k) m c w tid call = owes-line m c w (seen_from m w t k) tid call c_in st fine next ok in
    follows (o.first some seen other is)
led-some m c w t k (boot pid tid name) c_in st fine next ok some is = tt
led-some m c w t k (token name content) c_in st fine next ok some is = tt
led-some m c w t k (thread tid pid) c_in st fine next ok some is = tt
led-some m c w t k (dir path) c_in st fine next ok some is = tt
led-some m c w t k (link path target) c_in st fine next ok some is = tt
led-some m c w t k (of_resident tid what had) c_in st fine next ok some is = tt

-- one that tells nothing, by what is told next
led-fails : (m : Group) (c : ℕ) (w : World) (line : ScriptLine) (tid pid code : ℕ) (handled : Bool) (items : List Item) → line ≡ run tid (raise code handled) → own_served line w ≡ Dooms pid code ∷ [] → (is_seen m (thread_whose w tid) ≡ true → is_seen (alone c) (thread_whose w tid) ≡ false → accepts (next_entry items) ≡ true) → IsLed m c w line items
led-fails m c w line tid pid code handled items same is next = subst (λ line. own_served line w ≡ Dooms pid code ∷ [] → IsLed m c w line items) (sym same) (λ is seen other. raises code handled refl (next seen other ∙ sym (ap (λ bs. accepts (own_entry bs)) is))) is

found-has : (p q : ThreadRow → Bool) (xs : List ThreadRow) (x : ThreadRow) → first p xs ≡ Some x → q x ≡ true → has q xs ≡ true
found-has p q [] x at is = absurd (cc)
found-has p q (y ∷ ys) x at is = grind (arith, found-has p q ys x)

lives-in : (w : World) (by : ThreadRow) → live_thread w by.number ≡ Some by → is_live w by.process ≡ true
lives-in w by live =
    let is : is_live_thread by.number by ≡ true = first-passes (is_live_thread by.number) w.threads by live in
    found-has (is_live_thread by.number) (lives_in by.process) w.threads by live (and_from (by.process == by.process) by.live (same-number by.process) (second-true (by.number == by.number) by.live is))

others-rows : (m : Group) (c : ℕ) (u w : World) (pid : ℕ) (st : Kept m c w) → u.used_threads ≡ w.used_threads → every (is_others u pid) w.threads ≡ true
others-rows m c u w pid st used = every-more (λ t. not (lives_in pid t) || is_ending_of u pid t) (is_others u pid) (λ t is. at t (lives_in pid t) refl is) w.threads (ending-rows m c u w pid st.fair used)
  where
    at : (t : ThreadRow) (b : Bool) → lives_in pid t ≡ b → (not b || is_ending_of u pid t) ≡ true → (not b || passes (owner u t.number) (λ q. q == pid)) ≡ true
    at t true its is = first-true _ _ is
    at t false off is = refl

mapped-none : (f : Entry → Event) (g : Impersonation → Event) (bs : List Basic) (gs : List Impersonation) → HasNone bs gs → HasNone (map f (entries_of bs)) (map g gs)
mapped-none f g bs gs (former none) = former (ap (λ bs. map f (entries_of bs)) none)
mapped-none f g bs gs (latter none) = latter (ap (map g) none)

-- The line
module _ (m : Group) (c : ℕ) (outer : Birth → Bool) (w : World) (t : List Heard) (k : Contents) (line : ScriptLine) (h : Ahead m c outer w (seen_from m w t k) line) where
  abbrev s : State
  s = seen_from m w t k

  abbrev bs : List Basic
  bs = own_served line w

  abbrev own : World
  own = world_after w bs

  abbrev settled : List Basic
  settled = settle own

  abbrev last : World
  last = world_after own settled

  abbrev d : Whose
  d = line_whose w line

  abbrev own_told : List Entry
  own_told = own_told_at m c w line

  abbrev own_gave : List Impersonation
  own_gave = own_given_at m c w line

  abbrev later : List Entry
  later = said m c own d settled

  stood : Stood m c w s
  stood = let a = h.all in a.stood

  firm : Firm w
  firm = stood.firm

  n : Kept m c own
  n = kept-own m c outer w t k line h

  fine : HasFineRows m c own
  fine = own-fine m c outer w t k line h

  reads : FineLine m c k w line
  reads = reads-here m c outer w t k line h

  turning : Turning m c own own
  turning = turning-own m c outer w t k line h

  due : Due w bs
  due = due-here m c outer w t k line h

  l : Line m c w s line
  l = of-line m c w t k line h.c_in stood h.fine fine n.once reads

  g : Known m c w t k line
  g = line-known m c w t k line h.c_in stood h.fine fine n.once reads

  b : BytesKnown m c outer w t k line
  b = let a = h.all in let views = h.views in line-bytes_known m c outer w t k line h.c_in stood h.fine fine reads views.shows h.apart a.agree

  -- What it tells and gives
  told : told_at m c w line ≡ own_told ++ later
  told = inputs-used m c (served_step w line).world own d (served_step w line).entries (same-used m c outer w t k line h) ∙ told-append m c own d bs settled

  gave : given_in (served_steps line w) ≡ given_in bs
  gave = given-append bs settled (settling-gives settled (are-settling m c outer w t k line h))

  late-of : Due w bs → HasNone settled (given_in bs)
  late-of (rests rest housed) = former (settled-rests own (rests-here m c outer w t k line h rest))
  late-of (loses is over) = latter (lose-gives bs is)

  late : HasNone settled (given_in bs)
  late = late-of due

  late-items : HasNone settled (given_in bs) → HasNone (told_items later) (gave_items own_gave)
  late-items (former none) = former (ap (λ bs. told_items (said m c own d bs)) none)
  late-items (latter none) = latter (ap (λ gs. gave_items (given_inputs m c d gs)) none)

  abbrev ran : Event
  ran = record { whose = d; item = Ran line }

  abbrev later_events : List Event
  later_events = map (told_event own d) (entries_of settled)

  split : bare_line_events w line ≡ own_line_events w line ++ later_events
  split =
      ap (λ es. ran ∷ (es ++ map (gave_event d) (given_in (served_steps line w)))) (events-used (served_step w line).world own d (served_step w line).entries (same-used m c outer w t k line h) ∙ ap (map (told_event own d)) (entries-append bs settled) ∙ map-append (told_event own d) (entries_of bs) (entries_of settled))
      ∙ ap (λ gs. ran ∷ ((map (told_event own d) (entries_of bs) ++ later_events) ++ map (gave_event d) gs)) gave
      ∙ ap (λ es. ran ∷ es) (none-last (map (told_event own d) (entries_of bs)) later_events (map (gave_event d) (given_in bs)) (mapped-none (told_event own d) (gave_event d) settled (given_in bs) late))

  c-items : full_items (alone c) (bare_line_events w line) ≡ full_items (alone c) (own_line_events w line) ++ told_items (heard (alone c) own d (entries_of settled))
  c-items = ap (full_items (alone c)) split ∙ items-append (alone c) (own_line_events w line) later_events ∙ ap (λ is. full_items (alone c) (own_line_events w line) ++ is) (own-told c own d (entries_of settled))

  -- what is remembered stays right
  later-known : (memo : List Heard) (v : World) → AllKnown m memo own → AllKnown m (entries_memo m v memo later) last
  later-known memo v known =
      entries-harmless m memo v last later (every-which (is_harmless last) (is_told_input m c own d) (entries_of settled) (settle-harmless m c own n.numbered own turning)) (run-known m memo own settled (settle-known m memo own) known)

  -- Where the group doesn't see it
  apart-later : is_seen m d ≡ false → are_apart m c own d own settled ≡ true
  apart-later out = settle-apart m c own d own turning (subst IsSettled (sym (l.hides out).0) (absorb-settled (view m w) own_told (view-settled m w firm.settled)))

  none-heard : is_seen m d ≡ false → heard (alone c) own d (entries_of settled) ≡ []
  none-heard out = run-quiet m c own d own settled h.c_in (apart-later out)

  stands-hidden : is_seen m d ≡ false → StoodAll m c outer (served_step w line).world (absorbed (player m c) s (own_told ++ later))
  stands-hidden out = stands-behind m c outer w t k line h (absorbed (player m c) s (own_told ++ later))
      (absorbed-view m c s (own_told ++ later) ∙ absorb-append (view m w) own_told later ∙ ap (λ v. absorb_all v later) (sym (l.hides out).0) ∙ ap (absorb_all (view m own)) (quiet-inputs m c own d (entries_of settled) (none-heard out)) ∙ sym (run-apart m c own d own settled (apart-later out)))
      (subst (λ memo. AllKnown m memo last) (sym (absorbed-memo m c s (own_told ++ later) ∙ memo-append m (view m w) t own_told later))
      (later-known (entries_memo m (view m w) t own_told) (absorb_all (view m w) own_told) (subst (λ memo. AllKnown m memo own) (absorbed-memo m c s own_told) (g.hides out))))
      (subst (λ k. Agree m outer k own.contents) (sym (absorbed-bytes m c s (own_told ++ later))) (b.hides out))

  hides : is_seen m d ≡ false → Played (settler m c) (StoodAll m c outer) m c w s line
  hides out = hidden (record {
    unseen = out;
    silent = c-items ∙ ap (λ is. is ++ told_items (heard (alone c) own d (entries_of settled))) (l.hides out).1 ∙ ap told_items (none-heard out);
    stands = subst (λ es. StoodAll m c outer (served_step w line).world (absorbed (settler m c) s es)) (sym told)
        (subst (StoodAll m c outer (served_step w line).world) (sym (absorbed-settler m c s (own_told ++ later))) (stands-hidden out));
  })

  -- Where it does
  module _ (seen : is_seen m d ≡ true) (is : List Item) where
    abbrev js : List Item
    js = told_items later ++ is

    abbrev own_items : List Item
    own_items = told_items own_told ++ (gave_items own_gave ++ js)

    abbrev items : List Item
    items = told_items (told_at m c w line) ++ (gave_items (given_at m c w line) ++ is)

    same-items : items ≡ own_items
    same-items =
        ap (λ es. told_items es ++ (gave_items (given_at m c w line) ++ is)) told
        ∙ ap (λ gs. told_items (own_told ++ later) ++ (gave_items (given_inputs m c d gs) ++ is)) gave
        ∙ ap (λ es. es ++ (gave_items own_gave ++ is)) (map-append Told own_told later)
        ∙ joined (told_items own_told) (told_items later) (gave_items own_gave ++ is)
        ∙ ap (λ es. told_items own_told ++ es) (none-swap (told_items later) (gave_items own_gave) is (late-items late))

    -- it is led
    abbrev items_of : List Basic → List Item
    items_of bs = told_items (told_inputs m c (world_after w bs) d (entries_of bs)) ++ (gave_items (given_inputs m c d (given_in bs)) ++ (told_items (said m c (world_after w bs) d (settle (world_after w bs))) ++ is))

    fails-next : (by : ThreadRow) (code : ℕ) → live_thread w by.number ≡ Some by → bs ≡ Dooms by.process code ∷ [] → is_seen m (thread_whose w by.number) ≡ true → is_seen (alone c) (thread_whose w by.number) ≡ false → accepts (next_entry own_items) ≡ true
    fails-next by code live same inside other =
        let a = h.all in
        let kept = stood.kept in
        let v : World = basic w (Dooms by.process code) in
        let home : owner w by.number ≡ Some by.process = live-owner m c w by.number by kept.fair live in
        let lives : is_live w by.process ≡ true = lives-in w by live in
        let settles : IsSettled (world_after v (settle v)) = subst (λ bs. IsSettled (world_after (world_after w bs) (settle (world_after w bs)))) same (quiet m c outer w t k line h) in
        subst (λ bs. accepts (next_entry (items_of bs)) ≡ true) (sym same)
        (settle-told m c v d w by.process code firm.settled lives (live-house w by.process a.housed lives) (sym (owner-in m w by.number by home) ∙ inside) (sym (owner-in (alone c) w by.number by home) ∙ other) (others-rows m c v w by.process kept refl) settles is)

    led-of : Speaks line w bs → IsLed m c w line own_items
    led-of (speaks some) = led-some m c w t k line h.c_in stood h.fine fine reads some (gave_items own_gave ++ js)
    led-of (fails by code handled live is_raise same) = led-fails m c w line by.number by.process code handled own_items is_raise same (λ inside other. fails-next by code live same inside other)

    led : IsLed m c w line own_items
    led = led-of (line-speaks w line firm)

    abbrev guessed : ℕ → Bool
    guessed = guess m (is_own c (view m own)) own_items

    abbrev steps : List Basic
    steps = settling m c (view m own) own_items

    -- it settles as the world does
    quiet-mixed : IsSettled own → Mixed m c own d own settled steps
    quiet-mixed rest =
        let v : IsSettled (view m own) = view-settled m own rest in
        let none : steps ≡ [] = settled-rests (less guessed (view m own)) (record { marks = v.marks; doomed = v.doomed }) in
        subst (λ bs. Mixed m c own d own bs steps) (sym (settled-rests own rest))
        (subst (Mixed m c own d own []) (sym none) (record { seen = refl; told = refl; marks = v.marks }))

    loses-mixed : given_in bs ≡ [] → every (is_over own) (entries_of bs) ≡ true → Mixed m c own d own settled steps
    loses-mixed none over =
        subst (λ gs. Mixed m c own d own settled (settling m c (view m own) (told_items own_told ++ (gave_items (given_inputs m c d gs) ++ js)))) (sym none)
        (settle-mixed m c own d h.c_in n.numbered own is (guess m (is_own c (view m own)) (told_items own_told ++ js)) turning
        (guess-known m c own own_told js h.c_in n.once (every-which (is_over own) (is_told_input m c own d) (entries_of bs) over)))

    mixed-of : Due w bs → Mixed m c own d own settled steps
    mixed-of (rests rest housed) = quiet-mixed (rests-here m c outer w t k line h rest)
    mixed-of (loses lost over) = loses-mixed (lose-gives bs lost) (over l.done)

    mixed : Mixed m c own d own settled steps
    mixed = mixed-of due

    lasts : Lasts (less guessed (view m own)) steps
    lasts = settle-lasts (less guessed (view m own))

    -- whom its own steps woke, waits no more, in the view that is played too
    abbrev played : World
    played = world_after (view m own) steps

    less-waits : (n : ℕ) → has (waits_as n) (less guessed (view m own)).waits ≡ true → has (waits_as n) (view m own).waits ≡ true
    less-waits n is = has-which (waits_as n) (λ x. not (is_spared guessed x)) (view m own).waits is

    fewer : (n : ℕ) → has (waits_as n) played.waits ≡ true → has (waits_as n) own.waits ≡ true
    fewer n is =
        has-which (waits_as n) (our_wait m) own.waits
        (run-fewer (view m own) (view m own) steps n (every-more (begins_of (less guessed (view m own))) (begins_of (view m own)) (begins-more (view m own) (less guessed (view m own)) less-waits) steps lasts.begins) (λ is. is) is)

    silent : every (is_silent played) own_told ≡ true
    silent = every-which (is_silent played) (is_told_input m c own d) (entries_of bs) (every-more (is_done own) (is_silent played) (λ e is. done-silent played e (done-more own played fewer e is)) (entries_of bs) l.done)

    done-last : every (is_done last) (entries_of bs) ≡ true
    done-last = let a : Lasts own settled = settle-lasts own in every-more (is_done own) (is_done last) (done-more own last a.fewer) (entries_of bs) l.done

    -- what it leaves
    abbrev memo : List Heard
    memo = line_memo m c (view m w) t line own_items

    abbrev bytes : Contents
    bytes = played_bytes m c s line own_items

    abbrev left_by : World → State
    left_by v = record { seen = world_after v (settling m c v own_items); memo = memo; bytes = bytes }

    stands-own : StoodAll m c outer (served_step w line).world (absorbed (player m c) (left_by (view m own)) (own_told ++ later))
    stands-own =
        let unmarked : IsSettled last = quiet m c outer w t k line h in
        stands-behind m c outer w t k line h (absorbed (player m c) (left_by (view m own)) (own_told ++ later))
        (absorbed-view m c (left_by (view m own)) (own_told ++ later) ∙ sym (mixed-view m c own d own settled steps (is_told_input m c own d) (entries_of bs) mixed unmarked.marks done-last))
        (subst (λ memo. AllKnown m memo last) (sym (absorbed-memo m c (left_by (view m own)) (own_told ++ later) ∙ memo-append m played memo own_told later ∙ ap (λ memo. entries_memo m (absorb_all played own_told) memo later) (entries-silent m played memo own_told silent)))
        (later-known memo (absorb_all played own_told) (g.shows js led seen)))
        (subst (λ k. Agree m outer k own.contents) (sym (absorbed-bytes m c (left_by (view m own)) (own_told ++ later))) (b.shows (gave_items own_gave ++ js) led seen))

    stands-visible : StoodAll m c outer (served_step w line).world (absorbed (settler m c) ((settler m c).after s line items) (told_at m c w line))
    stands-visible =
        subst (λ es. StoodAll m c outer (served_step w line).world (absorbed (settler m c) ((settler m c).after s line items) es)) (sym told)
        (subst (λ is. StoodAll m c outer (served_step w line).world (absorbed (settler m c) ((settler m c).after s line is) (own_told ++ later))) (sym same-items)
        (subst (StoodAll m c outer (served_step w line).world) (sym (absorbed-settler m c (left_by (played_view m c s line own_items)) (own_told ++ later)))
        (subst (λ v. StoodAll m c outer (served_step w line).world (absorbed (player m c) (left_by v) (own_told ++ later))) (l.shows js led seen).0 stands-own)))

    -- and tells c
    told-c : told_items (heard (alone c) own d (entries_of settled)) ≡ settled_items m c (view m own) own_items
    told-c = ap told_items (mixed.told ∙ sym (heard-view m c own d (entries_of steps) h.c_in n.once) ∙ ends-heard (alone c) (view m own) d Nobody (entries_of steps) lasts.ends)

    shown-visible : full_items (alone c) (bare_line_events w line) ≡ (settler m c).shown_at s line items
    shown-visible =
        c-items
        ∙ ap (λ is. is ++ told_items (heard (alone c) own d (entries_of settled))) (l.shows js led seen).1
        ∙ ap (λ is. played_items m c s line own_items ++ is) (told-c ∙ ap (λ v. settled_items m c v own_items) (l.shows js led seen).0)
        ∙ ap (λ is. (settler m c).shown_at s line is) (sym same-items)

  shows : is_seen m d ≡ true → Played (settler m c) (StoodAll m c outer) m c w s line
  shows seen = visible (record { seen = seen; stands = λ is. stands-visible seen is; shown = λ is. shown-visible seen is })

  pub keeps-line : Played (settler m c) (StoodAll m c outer) m c w s line
  keeps-line = at (is_seen m d) refl
    where
      at : (e : Bool) → is_seen m d ≡ e → Played (settler m c) (StoodAll m c outer) m c w s line
      at false out = hides out
      at true seen = shows seen
