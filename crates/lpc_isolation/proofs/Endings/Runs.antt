-- What settles behind a member's line, in a play.
use Rattle.std.proofs.Common.{◌≡◌, ℕ, ◌≤◌, zero, suc, List, [], ◌∷◌, ◌++◌, Bool, true, false, cond, not, Option, Some, None, refl, ap, sym, subst, ◌∙◌, arith}
use Rattle.std.specs.Prelude.{◌&&◌, ◌||◌, ◌==◌, ◌<◌, is_some}
use Rattle.std.proofs.lemmas.Bool.{and_from, eqb-true, not-true}
use Rattle.std.proofs.lemmas.List.{map-append}
use Rattle.std.proofs.lemmas.List.Elements.{filter-append}
use Rattle.lpc_base.specs.Rows.{every, first, has, which}
use Rattle.lpc_base.proofs.Bools.{first-true, second-true}
use Rattle.lpc_base.proofs.RowMaps.{every-both, every-first}
use Rattle.lpc_base.proofs.RowWords.{every-more, every-which, first-passes}
use Rattle.lpc_model.specs.declared.entry.Entry.{Entry}
use Rattle.lpc_model.specs.declared.entry.Entry.TheVariants as entry
use Rattle.lpc_model.specs.World.{ProcessRow, WaitRow, World}
use Rattle.lpc_model.specs.Found.{waits_as}
use Rattle.lpc_model.specs.Basics.{Awaits, Basic, entries_of, world_after}
use Rattle.lpc_model.specs.Settle.{IsSettled, and_then_on, has_event, is_doomed, turn, turns}
use Rattle.lpc_model.specs.Circle.{Group, Item, Told, Whose, is_seen, owner, owned, thread_whose}
use Rattle.lpc_model.proofs.Settling.Loop.{settled-none, turn-kept}
use Rattle.lpc_model.proofs.Settling.Turns.{measure}
use Rattle.lpc_model.proofs.Steps.InTurn.{after-append, entries-append}
use Rattle.lpc_isolation.proofs.Views.Alone.{alone}
use Rattle.lpc_isolation.proofs.Views.View.{our_mark, our_process, our_wait, view}
use Rattle.lpc_isolation.proofs.Views.Apart.{absorb_all, absorb-append, heard, is_heard, is_owned, owned-by, run-apart, run-quiet}
use Rattle.lpc_isolation.proofs.Views.Callers.{Led}
use Rattle.lpc_isolation.proofs.Rows.Ids.{Numbered}
use Rattle.lpc_isolation.proofs.Plays.Play.{is_told_input, told_inputs, told_items}
use Rattle.lpc_isolation.proofs.Plays.Lines.{absorbed-done, quiet-inputs, same-input}
use Rattle.lpc_isolation.proofs.Memory.Heard.{takes_any}
use Rattle.lpc_isolation.proofs.Closings.Ends.{which-same}
use Rattle.lpc_isolation.proofs.Closings.Stages.{told-append}
use Rattle.lpc_isolation.proofs.Endings.Threads.{lives-view}
use Rattle.lpc_isolation.proofs.Endings.Turns.{Turning}
use Rattle.lpc_isolation.proofs.Endings.Settled.{ends-turning, on-turning}
use Rattle.lpc_isolation.proofs.Endings.Spared.{is_spared, less, less-run, spares}
use Rattle.lpc_isolation.proofs.Endings.Lasting.{Lasts, begins_of, is_over, lasts-done, turns-last}
use Rattle.lpc_isolation.proofs.Endings.Dimmed.{absorbed-run, absorbed-swap, begins_none, dimmed, marks-run, same-absorbed, unbegun}
use Rattle.lpc_isolation.proofs.Endings.Guessed.{Guessed, outs, agree, agrees, begins_events, goes-later, goes-not, goes_out, guess, is_end_of, is_out, knows, knows-same, not_mine, of_takers, outs-guessed, run-outs, takers-run}
use Rattle.lpc_isolation.proofs.Endings.Mixed.{events-begin, joined, over-told, self-takers, self-waits, shown-none, spares-from, takers}
use Rattle.lpc_isolation.proofs.Endings.Sides.{Inside, Outside, Side, inside, outside, turn-side}
use Rattle.lpc_isolation.proofs.Gone.Restful.{no-turns}

-- which threads are c's
abbrev pub is_own : ℕ → World → ℕ → Bool
is_own c u n = is_seen (alone c) (thread_whose u n)

-- what the inputs tell of steps
abbrev pub said : Group → ℕ → World → Whose → List Basic → List Entry
said m c u d bs = told_inputs m c u d (entries_of bs)

pub items-split : (m : Group) (c : ℕ) (u : World) (d : Whose) (bs cs : List Basic) (rest : List Item) → told_items (said m c u d (bs ++ cs)) ++ rest ≡ told_items (said m c u d bs) ++ (told_items (said m c u d cs) ++ rest)
items-split m c u d bs cs rest =
    ap (λ es. told_items es ++ rest) (told-append m c u d bs cs)
    ∙ ap (λ is. is ++ rest) (map-append Told (said m c u d bs) (said m c u d cs))
    ∙ joined (told_items (said m c u d bs)) (told_items (said m c u d cs)) rest

-- what steps of a world leave of its view, where the view takes others: but for marks, and what c is told of them
pub record Mixed (m : Group) (c : ℕ) (u : World) (d : Whose) (w : World) (bs led : List Basic) : Type 0 where
  pub seen : dimmed (view m (world_after w bs)) ≡ dimmed (absorb_all (world_after (view m w) led) (said m c u d bs))
  pub told : heard (alone c) u d (entries_of bs) ≡ heard (alone c) u d (entries_of led)
  pub marks : (world_after (view m w) led).marks ≡ []

-- Where nothing is due
pub view-settled : (m : Group) (w : World) → IsSettled w → IsSettled (view m w)
view-settled m w s = record { marks = ap (which (our_mark m w)) s.marks; doomed = rows w.processes s.doomed }
  where
    rows : (ps : List ProcessRow) → every (λ p. not (is_doomed w p)) ps ≡ true → every (λ p. not (is_doomed (view m w) p)) (which (our_process m) ps) ≡ true
    rows [] all = refl
    rows (p ∷ ps) all = at (m p.number) refl (rows ps (second-true (not (is_doomed w p)) _ all))
      where
        at : (b : Bool) → m p.number ≡ b → every (λ p. not (is_doomed (view m w) p)) (which (our_process m) ps) ≡ true → every (λ p. not (is_doomed (view m w) p)) (which (our_process m) (p ∷ ps)) ≡ true
        at true ours rest = rw ours (and_from (not (is_doomed (view m w) p)) (every (λ p. not (is_doomed (view m w) p)) (which (our_process m) ps)) (ap (λ e. not (is_some p.doom && e)) (lives-view m w p.number ours) ∙ first-true _ _ all) rest)
        at false out rest = rw out rest

less-settled : (o : ℕ → Bool) (v : World) → IsSettled v → IsSettled (less o v)
less-settled o v s = record { marks = s.marks; doomed = s.doomed }

module _ (m : Group) (c : ℕ) (u : World) (d : Whose) where
  rests-mixed : (w : World) (o : ℕ → Bool) (k : ℕ) → turn w ≡ None → Mixed m c u d w [] (turns k (less o (view m w)))
  rests-mixed w o k none =
      let s : IsSettled w = settled-none w none in
      let nothing : turns k (less o (view m w)) ≡ [] = no-turns k (less o (view m w)) (less-settled o (view m w) (view-settled m w s)) in
      subst (Mixed m c u d w []) (sym nothing) (record { seen = refl; told = refl; marks = ap (which (our_mark m w)) s.marks })

  -- A turn of an outsider's, and then the others
  begins-other : (w v : World) (who : ℕ) → has (waits_as who) v.waits ≡ false → ((n : ℕ) → has (waits_as n) w.waits ≡ true → has (waits_as n) v.waits ≡ true) → (b : Basic) → begins_of w b ≡ true → begins_none who b ≡ true
  begins-other w v who gone more (Awaits x) is = at (x.thread == who) refl
    where
      at : (b : Bool) → (x.thread == who) ≡ b → not (waits_as who x) ≡ true
      at false off = rw off refl
      at true on =
          let there : has (waits_as who) v.waits ≡ true = subst (λ n. has (waits_as n) v.waits ≡ true) (eqb-true x.thread who on) (more x.thread (second-true _ _ is)) in
          absurd (cc)
  begins-other w v who gone more b is = refl

  unbegun-told : (w v : World) (led : List Basic) → ((n : ℕ) → has (waits_as n) w.waits ≡ true → has (waits_as n) v.waits ≡ true) → every (begins_of w) led ≡ true → (e : Entry) → is_over v e ≡ true → unbegun led e ≡ true
  unbegun-told w v led more begins (entry.Wakes who call status fields) over = every-more (begins_of w) (begins_none who) (begins-other w v who (not-true _ over) more) led begins
  unbegun-told w v led more begins (entry.Died who status) over = refl
  unbegun-told w v led more begins (entry.Answer who call status fields) over = refl
  unbegun-told w v led more begins (entry.Waits who call fields) over = refl
  unbegun-told w v led more begins (entry.Busy who) over = refl
  unbegun-told w v led more begins (entry.NoThread who) over = refl
  unbegun-told w v led more begins (entry.Directive name status) over = refl

  has-kept_of : (p k : WaitRow → Bool) (xs : List WaitRow) → has p (which k xs) ≡ true → has p xs ≡ true
  has-kept_of p k [] is = absurd (cc)
  has-kept_of p k (x ∷ xs) is = grind (arith, has-kept_of p k xs)

  told-quiet : m c ≡ true → (w : World) (bs : List Basic) → Outside m c u d w bs → said m c u d bs ≡ heard m u d (entries_of bs)
  told-quiet c_in w bs out = quiet-inputs m c u d (entries_of bs) (run-quiet m c u d w bs c_in out.apart)

  out-mixed : m c ≡ true → (w : World) (bs cs led : List Basic) (o : ℕ → Bool) → Outside m c u d w bs → Mixed m c u d (world_after w bs) cs led → every (begins_of (less o (view m (world_after w bs)))) led ≡ true → (view m w).marks ≡ (view m (world_after w bs)).marks → Mixed m c u d w (bs ++ cs) led
  out-mixed c_in w bs cs led o out mixed begins same = record {
    seen =
        ap (λ v. dimmed (view m v)) (after-append w bs cs) ∙ mixed.seen
        ∙ ap (λ v. dimmed (absorb_all (world_after v led) (said m c u d cs))) there
        ∙ same-absorbed (world_after (absorb_all y (said m c u d bs)) led) (absorb_all (world_after y led) (said m c u d bs)) (said m c u d cs) (absorbed-run y (said m c u d bs) led untouched)
        ∙ ap dimmed (sym (absorb-append (world_after y led) (said m c u d bs) (said m c u d cs)))
        ∙ ap (λ es. dimmed (absorb_all (world_after y led) es)) (sym (told-append m c u d bs cs));
    told =
        ap (heard (alone c) u d) (entries-append bs cs) ∙ filter-append (is_heard (alone c) u d) (entries_of bs) (entries_of cs)
        ∙ ap (λ es. es ++ heard (alone c) u d (entries_of cs)) (run-quiet m c u d w bs c_in out.apart) ∙ mixed.told;
    marks = marks-run y (view m (world_after w bs)) led same ∙ mixed.marks;
  }
    where
      y : World
      y = view m w

      v : World
      v = world_after w bs

      there : view m v ≡ absorb_all y (said m c u d bs)
      there = run-apart m c u d w bs out.apart ∙ ap (absorb_all y) (sym (told-quiet c_in w bs out))

      more : (n : ℕ) → has (waits_as n) (less o (view m v)).waits ≡ true → has (waits_as n) v.waits ≡ true
      more n is = has-kept_of (waits_as n) (our_wait m) v.waits (has-kept_of (waits_as n) (λ x. not (is_spared o x)) (view m v).waits is)

      untouched : every (unbegun led) (said m c u d bs) ≡ true
      untouched = every-which (unbegun led) (is_told_input m c u d) (entries_of bs) (every-more (is_over v) (unbegun led) (unbegun-told (less o (view m v)) v led more begins) (entries_of bs) out.lasts.over)

  -- A turn of a member's, and then the others
  in-mixed : (w : World) (bs cs led later : List Basic) → Led m c u d w bs led → Lasts w bs → Mixed m c u d (world_after w bs) cs later → ((n : ℕ) → has (waits_as n) (world_after (world_after w bs) cs).waits ≡ true → has (waits_as n) (world_after w bs).waits ≡ true) → Mixed m c u d w (bs ++ cs) (led ++ later)
  in-mixed w bs cs led later l lasts mixed fewer = record {
    seen =
        ap (λ v. dimmed (view m v)) (after-append w bs cs)
        ∙ ap dimmed (sym settled)
        ∙ same-absorbed (view m last) (absorb_all all (said m c u d cs)) (said m c u d bs) (mixed.seen ∙ ap (λ z. dimmed (absorb_all z (said m c u d cs))) (sym same))
        ∙ ap dimmed (absorbed-swap all (said m c u d cs) (said m c u d bs))
        ∙ ap dimmed (sym (absorb-append all (said m c u d bs) (said m c u d cs)))
        ∙ ap (λ es. dimmed (absorb_all all es)) (sym (told-append m c u d bs cs));
    told =
        ap (heard (alone c) u d) (entries-append bs cs) ∙ filter-append (is_heard (alone c) u d) (entries_of bs) (entries_of cs)
        ∙ ap (λ es. es ++ heard (alone c) u d (entries_of cs)) l.told ∙ ap (λ es. heard (alone c) u d (entries_of led) ++ es) mixed.told
        ∙ sym (filter-append (is_heard (alone c) u d) (entries_of led) (entries_of later)) ∙ sym (ap (heard (alone c) u d) (entries-append led later));
    marks = ap (λ (z : World). z.marks) same ∙ mixed.marks;
  }
    where
      last : World
      last = world_after (world_after w bs) cs

      all : World
      all = world_after (view m w) (led ++ later)

      same : all ≡ world_after (view m (world_after w bs)) later
      same = after-append (view m w) led later ∙ ap (λ z. world_after z later) (sym l.world)

      settled : absorb_all (view m last) (said m c u d bs) ≡ view m last
      settled = absorbed-done m last (is_told_input m c u d) (entries_of bs) (lasts-done w last bs lasts fewer)

-- What is guessed behind a member's turn
all-kept : (k : WaitRow → Bool) (xs : List WaitRow) → every k (which k xs) ≡ true
all-kept k [] = refl
all-kept k (x ∷ xs) = grind (arith, all-kept k xs)

untold-back : (n : ℕ) (f : Entry → Bool) (es : List Entry) → ((e : Entry) → is_end_of n e ≡ true → f e ≡ true) → has (is_end_of n) (which f es) ≡ false → every (λ e. not (is_end_of n e)) es ≡ true
untold-back n f [] all none = refl
untold-back n f (e ∷ es) all none = at (is_end_of n e) (f e) refl refl none (untold-back n f es all)
  where
    at : (a b : Bool) → is_end_of n e ≡ a → f e ≡ b → has (is_end_of n) (which f (e ∷ es)) ≡ false → (has (is_end_of n) (which f es) ≡ false → every (λ e. not (is_end_of n e)) es ≡ true) → every (λ e. not (is_end_of n e)) (e ∷ es) ≡ true
    at true false is not_f none rest = let yes : f e ≡ true = all e is in absurd (cc)
    at true true is in_f none rest = let never : true ≡ false = rw (in_f, is) at none in absurd (cc)
    at false true off in_f none rest = rw off (rest (let later : has (is_end_of n) (which f es) ≡ false = rw (in_f, off) at none in later))
    at false false off not_f none rest = rw off (rest (let later : has (is_end_of n) (which f es) ≡ false = rw not_f at none in later))

pick : (t a h : Bool) → (not t || h) ≡ true → not (t && a) ≡ not (t && (a && h))
pick true true true is = refl
pick true true false is = absurd (cc)
pick true false h is = refl
pick false a h is = refl

module _ (m : Group) (c : ℕ) (u : World) (d : Whose) (w : World) (bs : List Basic) (is : List Item) (o : ℕ → Bool) (i : Inside m c u d w bs) (k : Turning m c u w) (known : every (knows m (is_own c u) o (told_items (said m c u d bs) ++ is)) (view m w).waits ≡ true) where
  abbrev items : List Item
  items = told_items (said m c u d bs) ++ is

  -- those that still wait for messages
  abbrev left : ℕ → Bool
  left n = o n && has (takers n) (view m w).waits

  -- a member's thread that isn't c's is told by the inputs
  told-as : (n : ℕ) → is_seen m (thread_whose u n) ≡ true → is_own c u n ≡ false → (e : Entry) → is_end_of n e ≡ true → is_told_input m c u d e ≡ true
  told-as n ours other (entry.Wakes who call status fields) is =
      let same : who ≡ n = eqb-true who n is in
      same-input m c u d (entry.Wakes who call status fields) (ap (is_own c u) same ∙ other) ∙ ap (λ k. is_seen m (thread_whose u k)) same ∙ ours
  told-as n ours other (entry.Died who status) is =
      let same : who ≡ n = eqb-true who n is in
      same-input m c u d (entry.Died who status) (ap (is_own c u) same ∙ other) ∙ ap (λ k. is_seen m (thread_whose u k)) same ∙ ours
  told-as n ours other (entry.Answer who call status fields) is = absurd (cc)
  told-as n ours other (entry.Waits who call fields) is = absurd (cc)
  told-as n ours other (entry.Busy who) is = absurd (cc)
  told-as n ours other (entry.NoThread who) is = absurd (cc)
  told-as n ours other (entry.Directive name status) is = absurd (cc)

  member : (x : WaitRow) → our_wait m x ≡ true → is_owned u x ≡ true → is_seen m (thread_whose u x.thread) ≡ true
  member x ours own = at (owner u x.thread) refl
    where
      at : (r : Option ℕ) → owner u x.thread ≡ r → is_seen m (owned r) ≡ true
      at None none = let never : false ≡ true = rw none at own in absurd (cc)
      at (Some pid) found = ap m (owned-by u x pid found own) ∙ first-true _ _ ours

  -- who is guessed to go isn't told of
  quiet-left : (n : ℕ) → left n ≡ true → every (λ e. not (is_end_of n e)) (entries_of bs) ≡ true
  quiet-left n goes = at (first (takers n) (view m w).waits) refl (second-true (o n) _ goes)
    where
      at : (r : Option WaitRow) → first (takers n) (view m w).waits ≡ r → is_some r ≡ true → every (λ e. not (is_end_of n e)) (entries_of bs) ≡ true
      at None none some = absurd (cc)
      at (Some x) found some =
          let passed : takers n x ≡ true = first-passes (takers n) (view m w).waits x found in
          let thread : x.thread ≡ n = eqb-true x.thread n (first-true _ _ passed) in
          let takes : takes_any x ≡ true = second-true (waits_as n x) _ passed in
          let kn : knows m (is_own c u) o items x ≡ true = every-first (knows m (is_own c u) o items) (takers n) (view m w).waits x known found in
          let agreed : agrees (o x.thread) (guess m (is_own c u) items x.thread) ≡ true = let z : (not true || agrees (o x.thread) (guess m (is_own c u) items x.thread)) ≡ true = rw takes at kn in z in
          let guessed : guess m (is_own c u) items n ≡ true = subst (λ j. guess m (is_own c u) items j ≡ true) thread (sym (agree (o x.thread) _ agreed) ∙ ap o thread ∙ first-true _ _ goes) in
          let other : is_own c u n ≡ false = not-true (is_own c u n) (first-true _ _ guessed) in
          let out : goes_out m items n ≡ true = second-true (not (is_own c u n)) _ guessed in
          let ours : is_seen m (thread_whose u n) ≡ true = subst (λ j. is_seen m (thread_whose u j) ≡ true) thread (member x (every-first (our_wait m) (takers n) (view m w).waits x (all-kept (our_wait m) w.waits) found) (every-first (is_owned u) (takers n) (view m w).waits x (every-which (is_owned u) (our_wait m) w.waits k.sure.owned) found)) in
          let shown : every (λ e. not (is_out m e)) (said m c u d bs) ≡ true = every-which (λ e. not (is_out m e)) (is_told_input m c u d) (entries_of bs) (shown-none true m w bs i.shown) in
          untold-back n (is_told_input m c u d) (entries_of bs) (told-as n ours other) (none-told (has (is_end_of n) (said m c u d bs)) refl out shown)
        where
          none-told : (b : Bool) → has (is_end_of n) (said m c u d bs) ≡ b → goes_out m items n ≡ true → every (λ e. not (is_out m e)) (said m c u d bs) ≡ true → has (is_end_of n) (said m c u d bs) ≡ false
          none-told false off out shown = off
          none-told true on out shown = let never : goes_out m items n ≡ false = goes-not m (said m c u d bs) is n shown on in absurd (cc)

  waits-too : (n : ℕ) (xs : List WaitRow) → has (takers n) xs ≡ true → has (waits_as n) xs ≡ true
  waits-too n [] is = absurd (cc)
  waits-too n (x ∷ xs) is = grind (arith, waits-too n xs)

  events : every begins_events i.led ≡ true
  events = let l = i.led_lasts in every-more (begins_of (view m w)) begins_events (events-begin (view m w)) i.led l.begins

  left-spared : every (spares left) i.led ≡ true
  left-spared = spares-from left i.led (λ n goes. i.ends n (waits-too n (view m w).waits (second-true (o n) _ goes)) (quiet-left n goes)) events

  left-here : less o (view m w) ≡ less left (view m w)
  left-here = ap (λ xs. record (view m w) { waits = xs }) (which-same (of_takers (λ n. has (takers n) (view m w).waits)) (λ x. not (is_spared o x)) (λ x. not (is_spared left x)) (λ x it. pick (takes_any x) (o x.thread) (has (takers x.thread) (view m w).waits) it) (view m w).waits (self-takers (view m w).waits))

  abbrev behind : World
  behind = world_after w bs

  there : view m behind ≡ world_after (view m w) i.led
  there = let l = i.is_led in l.world

  still-takers : every (of_takers (λ n. has (takers n) (view m w).waits)) (view m behind).waits ≡ true
  still-takers = subst (λ (v : World). every (of_takers (λ n. has (takers n) (view m w).waits)) v.waits ≡ true) (sym there) (takers-run (λ n. has (takers n) (view m w).waits) (view m w) i.led events (self-takers (view m w).waits))

  left-behind : less left (view m behind) ≡ less o (view m behind)
  left-behind = ap (λ xs. record (view m behind) { waits = xs }) (sym (which-same (of_takers (λ n. has (takers n) (view m w).waits)) (λ x. not (is_spared o x)) (λ x. not (is_spared left x)) (λ x it. pick (takes_any x) (o x.thread) (has (takers x.thread) (view m w).waits) it) (view m behind).waits still-takers))

  known-behind : every (knows m (is_own c u) o is) (view m behind).waits ≡ true
  known-behind =
      let run : every (knows m (is_own c u) o items) (view m behind).waits ≡ true = subst (λ (v : World). every (knows m (is_own c u) o items) v.waits ≡ true) (sym there) (takers-run (λ n. agrees (o n) (guess m (is_own c u) items n)) (view m w) i.led events known) in
      let own : every (λ x. has (waits_as x.thread) behind.waits) (view m behind).waits ≡ true = every-which (λ x. has (waits_as x.thread) behind.waits) (our_wait m) behind.waits (self-waits behind.waits) in
      let l = i.lasts in
      every-both (knows m (is_own c u) o items) (λ x. has (waits_as x.thread) behind.waits) (knows m (is_own c u) o is)
      (λ x kn waits. knows-same m (is_own c u) o items is x (goes-later m (said m c u d bs) is x.thread (every-which (λ e. not (is_end_of x.thread e)) (is_told_input m c u d) (entries_of bs) (over-told x.thread behind (entries_of bs) waits l.over))) kn) (view m behind).waits run own

-- Turns in a play
unheard : (m : Group) (c : ℕ) (u : World) (d : Whose) (es : List Entry) → heard (alone c) u d es ≡ [] → every (not_mine (is_own c u)) es ≡ true
unheard m c u d [] none = refl
unheard m c u d (e ∷ es) none = at (is_heard (alone c) u d e) refl none (unheard m c u d es)
  where
    other : (e : Entry) → is_heard (alone c) u d e ≡ false → not_mine (is_own c u) e ≡ true
    other (entry.Wakes who call status fields) off = rw off refl
    other (entry.Died who status) off = refl
    other (entry.Answer who call status fields) off = refl
    other (entry.Waits who call fields) off = refl
    other (entry.Busy who) off = refl
    other (entry.NoThread who) off = refl
    other (entry.Directive name status) off = refl

    at : (b : Bool) → is_heard (alone c) u d e ≡ b → cond b (e ∷ heard (alone c) u d es) (heard (alone c) u d es) ≡ [] → (heard (alone c) u d es ≡ [] → every (not_mine (is_own c u)) es ≡ true) → every (not_mine (is_own c u)) (e ∷ es) ≡ true
    at true is none rest = absurd (cc)
    at false off none rest = and_from _ _ (other e off) (rest none)

view-marked : (m : Group) (w : World) (ms : List ℕ) → every (has_event (view m w)) (which (our_mark m w) ms) ≡ true
view-marked m w [] = refl
view-marked m w (n ∷ ms) = grind (arith, view-marked m w ms)

module _ (m : Group) (c : ℕ) (u : World) (d : Whose) (c_in : m c ≡ true) (numbered : Numbered u) where
  turning-behind : (w : World) (bs : List Basic) → turn w ≡ Some bs → Turning m c u w → Turning m c u (world_after w bs)
  turning-behind = turn-kept (Turning m c u) (λ w tid later some k. on-turning m c u w tid later some k) (λ w p some k. ends-turning m c u w p k)

  few-less : (a b n : ℕ) → a < b → b ≤ suc n → a ≤ n
  few-less a b n one two = omega (arith, one, two)

  never-less : (a b : ℕ) → a < b → b ≤ zero → ⊥
  never-less a b one two = omega (arith, one, two)

  -- from a member's turn on
  module _ (w : World) (bs cs : List Basic) (rest : List Item) (o : ℕ → Bool) (i : Inside m c u d w bs) (k : Turning m c u w) (known : every (knows m (is_own c u) o (told_items (said m c u d bs) ++ (told_items (said m c u d cs) ++ rest))) (view m w).waits ≡ true) (fewer : (n : ℕ) → has (waits_as n) (world_after (world_after w bs) cs).waits ≡ true → has (waits_as n) (world_after w bs).waits ≡ true) where
    abbrev js : List Item
    js = told_items (said m c u d cs) ++ rest

    abbrev x0 : World
    x0 = less (left m c u d w bs js o i k known) (view m w)

    abbrev next : World
    next = less o (view m (world_after w bs))

    spared : every (spares (left m c u d w bs js o i k known)) i.led ≡ true
    spared = left-spared m c u d w bs js o i k known

    after : world_after x0 i.led ≡ next
    after =
        less-run (left m c u d w bs js o i k known) (view m w) i.led spared
        ∙ ap (less (left m c u d w bs js o i k known)) (sym (there m c u d w bs js o i k known))
        ∙ left-behind m c u d w bs js o i k known

    lower : measure next < measure x0
    lower = subst (λ v. measure v < measure x0) after (i.lower (left m c u d w bs js o i k known) spared)

    goes-in : (n : ℕ) → measure x0 ≤ n → ((j : ℕ) → measure next ≤ j → Mixed m c u d (world_after w bs) cs (turns j next)) → Mixed m c u d w (bs ++ cs) (turns n x0)
    goes-in zero few later = absurd (never-less (measure next) (measure x0) lower few)
    goes-in (suc j) few later =
        subst (λ r. Mixed m c u d w (bs ++ cs) (and_then_on x0 r (turns j))) (sym (i.due (left m c u d w bs js o i k known) spared))
        (subst (λ v. Mixed m c u d w (bs ++ cs) (i.led ++ turns j v)) (sym after)
        (in-mixed m c u d w bs cs i.led (turns j next) i.is_led i.lasts (later j (few-less (measure next) (measure x0) j lower few)) fewer))

  -- from an outsider's turn on
  module _ (w : World) (bs cs : List Basic) (rest : List Item) (o : ℕ → Bool) (out : Outside m c u d w bs) (known : every (knows m (is_own c u) o (told_items (said m c u d bs) ++ (told_items (said m c u d cs) ++ rest))) (view m w).waits ≡ true) where
    quiet : said m c u d bs ≡ heard m u d (entries_of bs)
    quiet = told-quiet m c u d c_in w bs out

    seen-out : view m (world_after w bs) ≡ absorb_all (view m w) (said m c u d bs)
    seen-out = run-apart m c u d w bs out.apart ∙ ap (absorb_all (view m w)) (sym quiet)

    guessed : Guessed m (is_own c u) o (view m w) (view m (world_after w bs)) (told_items (said m c u d cs) ++ rest)
    guessed = subst (λ v. Guessed m (is_own c u) o (view m w) v (told_items (said m c u d cs) ++ rest)) (sym seen-out)
        (outs-guessed m (is_own c u) o (view m w) (said m c u d bs) (told_items (said m c u d cs) ++ rest)
        (subst (λ es. outs m (view m w) es ≡ true) (sym quiet) (run-outs true m c u d w bs out.apart out.shown))
        (every-which (not_mine (is_own c u)) (is_told_input m c u d) (entries_of bs) (unheard m c u d (entries_of bs) (run-quiet m c u d w bs c_in out.apart)))
        known (view-marked m w w.marks))

    goes-out : (n : ℕ) → Mixed m c u d (world_after w bs) cs (turns n (less o (view m (world_after w bs)))) → Mixed m c u d w (bs ++ cs) (turns n (less o (view m w)))
    goes-out n later =
        let l : Lasts (less o (view m (world_after w bs))) (turns n (less o (view m (world_after w bs)))) = turns-last n (less o (view m (world_after w bs))) in
        subst (λ v. Mixed m c u d w (bs ++ cs) (turns n v)) guessed.same
        (out-mixed m c u d c_in w bs cs (turns n (less o (view m (world_after w bs)))) o out later l.begins (sym (ap (λ (z : World). z.marks) guessed.same)))

  pub turns-mixed : (n : ℕ) (w : World) (rest : List Item) (j : ℕ) (o : ℕ → Bool) → Turning m c u w → turn (world_after w (turns n w)) ≡ None → every (knows m (is_own c u) o (told_items (said m c u d (turns n w)) ++ rest)) (view m w).waits ≡ true → measure (less o (view m w)) ≤ j → Mixed m c u d w (turns n w) (turns j (less o (view m w)))
  turns-mixed zero w rest j o k none known few = rests-mixed m c u d w o j none
  turns-mixed (suc n) w rest j o k none known few = at (turn w) refl (λ v i kv end kn lessened. turns-mixed n v rest i o kv end kn lessened) none known
    where
      Later : List Basic → Type 0
      Later bs = (i : ℕ) → Turning m c u (world_after w bs) → turn (world_after (world_after w bs) (turns n (world_after w bs))) ≡ None → every (knows m (is_own c u) o (told_items (said m c u d (turns n (world_after w bs))) ++ rest)) (view m (world_after w bs)).waits ≡ true → measure (less o (view m (world_after w bs))) ≤ i → Mixed m c u d (world_after w bs) (turns n (world_after w bs)) (turns i (less o (view m (world_after w bs))))

      by-side : (bs : List Basic) → turn w ≡ Some bs → Later bs → turn (world_after (world_after w bs) (turns n (world_after w bs))) ≡ None → every (knows m (is_own c u) o (told_items (said m c u d bs) ++ (told_items (said m c u d (turns n (world_after w bs))) ++ rest))) (view m w).waits ≡ true → Side m c u d w bs → Mixed m c u d w (bs ++ turns n (world_after w bs)) (turns j (less o (view m w)))
      by-side bs due later end kn (outside out) =
          let cs : List Basic = turns n (world_after w bs) in
          let g : Guessed m (is_own c u) o (view m w) (view m (world_after w bs)) (told_items (said m c u d cs) ++ rest) = guessed w bs cs rest o out kn in
          goes-out w bs cs rest o out kn j (later j (turning-behind w bs due k) end g.known (subst (λ v. measure v ≤ j) (sym g.same) few))
      by-side bs due later end kn (inside i) =
          let cs : List Basic = turns n (world_after w bs) in
          let js : List Item = told_items (said m c u d cs) ++ rest in
          let l : Lasts (world_after w bs) cs = turns-last n (world_after w bs) in
          let here : less o (view m w) ≡ less (left m c u d w bs js o i k kn) (view m w) = left-here m c u d w bs js o i k kn in
          subst (λ v. Mixed m c u d w (bs ++ cs) (turns j v)) (sym here)
          (goes-in w bs cs rest o i k kn l.fewer j (subst (λ v. measure v ≤ j) here few) (λ h lessened. later h (turning-behind w bs due k) end (known-behind m c u d w bs js o i k kn) lessened))

      at : (r : Option (List Basic)) → turn w ≡ r → ((v : World) (i : ℕ) → Turning m c u v → turn (world_after v (turns n v)) ≡ None → every (knows m (is_own c u) o (told_items (said m c u d (turns n v)) ++ rest)) (view m v).waits ≡ true → measure (less o (view m v)) ≤ i → Mixed m c u d v (turns n v) (turns i (less o (view m v))))
          → turn (world_after w (and_then_on w r (turns n))) ≡ None → every (knows m (is_own c u) o (told_items (said m c u d (and_then_on w r (turns n))) ++ rest)) (view m w).waits ≡ true → Mixed m c u d w (and_then_on w r (turns n)) (turns j (less o (view m w)))
      at None due later end kn = rests-mixed m c u d w o j due
      at (Some bs) due later end kn =
          let v : World = world_after w bs in
          by-side bs due (later v) (subst (λ z. turn z ≡ None) (after-append w bs (turns n v)) end)
          (subst (λ is. every (knows m (is_own c u) o is) (view m w).waits ≡ true) (items-split m c u d bs (turns n v) rest) kn)
          (turn-side m c u d numbered w bs due k)
