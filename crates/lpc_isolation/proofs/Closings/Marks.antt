-- Closings: events that a port's closing marks as not handled, and whose messages leave their queues.
use Rattle.lpc_isolation.proofs.Views.Marks.{no-event}
use Rattle.std.proofs.Common.{◌≡◌, ℕ, List, [], ◌∷◌, Bool, true, false, not, refl, ap, sym, subst, ◌∙◌, arith}
use Rattle.std.specs.Prelude.{◌&&◌, ◌||◌}
use Rattle.std.proofs.lemmas.Bool.{and_from, eqb-true, not-true}
use Rattle.lpc_base.specs.Rows.{each, every, has, which, without}
use Rattle.lpc_base.proofs.RowWords.{every-more, every-true, which-without}
use Rattle.lpc_base.proofs.RowMaps.{every-both}
use Rattle.lpc_base.proofs.Bools.{first-true, same-number, second-true}
use Rattle.lpc_model.specs.World.{Birth, MessageRow, WaitRow, World}
use Rattle.lpc_model.specs.Found.{is_event, is_mark, is_own_of, waits_as}
use Rattle.lpc_model.specs.Basics.{Basic, Marks, Withdraws, basic, end_each, entries_of, world_after}
use Rattle.lpc_model.specs.Close.{mark_event}
use Rattle.lpc_model.specs.Circle.{Group, Whose}
use Rattle.lpc_isolation.proofs.Views.Filters.{has-inside}
use Rattle.lpc_isolation.proofs.Views.View.{our_mark, our_message, our_wait, view}
use Rattle.lpc_isolation.proofs.Views.Basics.{are_ours, basic-ours, basic-unseen, sees_own, sees_wait}
use Rattle.lpc_isolation.proofs.Views.Apart.{are_apart, heard}
use Rattle.lpc_isolation.proofs.Views.Callers.{Led}
use Rattle.lpc_isolation.proofs.Rows.Fair.{is_fair_raise}
use Rattle.lpc_isolation.proofs.Rows.Asked.{Asked, basic-asked, is_quiet}
use Rattle.lpc_isolation.proofs.Plays.Play.{told_inputs}
use Rattle.lpc_isolation.proofs.Memory.Heard.{entries_memo}
use Rattle.lpc_isolation.proofs.Gone.Thin.{Alive, Closed, thin, wait_closed}
use Rattle.lpc_isolation.proofs.Gone.ThinCalls.{AreClosed}
use Rattle.lpc_isolation.proofs.Closings.Mild.{AreLosses, Sure, losses-fair, losses-mild, losses-sent}
use Rattle.lpc_isolation.proofs.Closings.Lone.{is_lone, lone-all}
use Rattle.lpc_isolation.proofs.Closings.Shown.{are_shown}
use Rattle.lpc_isolation.proofs.Closings.Stages.{Stage}
use Rattle.lpc_isolation.proofs.Closings.Ends.{every-passing, is_known_wait, known-waits, which-kept, which-same, which-seen}

-- an event that is seen could be seen marked
abbrev pub is_seen_mark : Group → World → WaitRow → Bool
is_seen_mark m w x = not (our_wait m x && is_event x) || our_mark m w x.thread

-- what is known of a wait that may be marked
abbrev pub is_known_event : Group → ℕ → World → World → WaitRow → Bool
is_known_event m c u w x = is_known_wait m c u w x && (is_fair_raise m x && (is_seen_mark m w x && is_lone m w x))

self-seen : (k e : WaitRow → Bool) (ys xs : List WaitRow) → ((n : ℕ) → has (λ x. waits_as n x && e x) (which k xs) ≡ true → has (λ x. waits_as n x && e x) (which k ys) ≡ true) → every (λ x. not (k x && e x) || has (λ y. waits_as x.thread y && e y) (which k ys)) xs ≡ true
self-seen k e ys [] more = refl
self-seen k e ys (x ∷ xs) more = and_from _ _ (here (k x) (e x) refl refl) (self-seen k e ys xs (λ n is. more n (later n (k x) refl is)))
  where
    later : (n : ℕ) (b : Bool) → k x ≡ b → has (λ x. waits_as n x && e x) (which k xs) ≡ true → has (λ x. waits_as n x && e x) (which k (x ∷ xs)) ≡ true
    later n true on is = rw on (grind arith)
    later n false off is = rw off is

    here : (a b : Bool) → k x ≡ a → e x ≡ b → (not (k x && e x) || has (λ y. waits_as x.thread y && e y) (which k ys)) ≡ true
    here false b out is = rw out refl
    here true false ours off = rw (ours, off) refl
    here true true ours on =
        let own : has (λ y. waits_as x.thread y && e y) (which k (x ∷ xs)) ≡ true = rw (ours, same-number x.thread, on) refl in
        rw (ours, on) (more x.thread own)

pub seen-marks : (m : Group) (w : World) → every (is_seen_mark m w) w.waits ≡ true
seen-marks m w = self-seen (our_wait m) is_event w.waits w.waits (λ n is. is)

pub known-events : (m : Group) (c : ℕ) (u w : World) → Sure m c u w → every (is_known_event m c u w) w.waits ≡ true
known-events m c u w s =
    every-both (is_known_wait m c u w) (λ x. is_fair_raise m x && (is_seen_mark m w x && is_lone m w x)) (is_known_event m c u w) (λ x a b. and_from _ _ a b) w.waits (known-waits m c u w s)
    (every-both (is_fair_raise m) (λ x. is_seen_mark m w x && is_lone m w x) _ (λ x a b. and_from _ _ a b) w.waits (let f = s.fair in f.raised)
    (every-both (is_seen_mark m w) (is_lone m w) _ (λ x a b. and_from _ _ a b) w.waits (seen-marks m w) (lone-all m c u w s)))

-- a thread whose event is seen is marked in the view where it is
pub mark-view : (m : Group) (w : World) (n : ℕ) → our_mark m w n ≡ true → has (is_mark n) (view m w).marks ≡ has (is_mark n) w.marks
mark-view m w n is = has-inside (λ i. true) (our_mark m w) (is_mark n) (λ i _ same. subst (λ j. our_mark m w j ≡ true) (sym (eqb-true i n same)) is) w.marks (every-true w.marks)

-- what is asked of the test by which events are marked that a port's closing concerns
pub record IsMark (m : Group) (c : ℕ) (b : Birth) (test : World → WaitRow → Bool) : Type 0 where
  pub event : (w : World) (x : WaitRow) → test w x ≡ true → is_event x ≡ true
  -- an outsider's closing marks no event that is seen; a member's marks in the view what it marks there in the world, and
  -- c's no other
  pub unseen : m b.process ≡ false → (u w : World) (x : WaitRow) → Sure m c u w → is_known_wait m c u w x ≡ true → test w x ≡ true → our_wait m x ≡ false
  pub agree : m b.process ≡ true → (u w : World) (x : WaitRow) → Sure m c u w → is_known_wait m c u w x ≡ true → our_wait m x ≡ true → is_seen_mark m w x ≡ true → test (view m w) x ≡ test w x
  pub inside : b.process ≡ c → (u w : World) (x : WaitRow) → Sure m c u w → is_known_wait m c u w x ≡ true → is_fair_raise m x ≡ true → test w x ≡ true → our_wait m x ≡ true
  pub thinly : (k : Alive) (u : World) (x : WaitRow) → Closed k u → wait_closed k x ≡ true → test (thin k u) x ≡ test u x

-- Lists of marks
abbrev pub all_marked : List WaitRow → List Basic
all_marked xs = each mark_event xs

losses-marked : (b : Birth) (xs : List WaitRow) → AreLosses b (all_marked xs)
losses-marked b [] = refl
losses-marked b (x ∷ xs) = losses-marked b xs

closed-marked : (k : Alive) (xs : List WaitRow) → AreClosed k (all_marked xs)
closed-marked k [] = refl
closed-marked k (x ∷ xs) = closed-marked k xs

silent-marked : (xs : List WaitRow) → entries_of (all_marked xs) ≡ []
silent-marked [] = refl
silent-marked (x ∷ xs) = silent-marked xs

withdrawn-quiet : (t : ℕ) (ms : List MessageRow) → is_quiet (without (is_own_of t) ms) t ≡ true
withdrawn-quiet t [] = refl
withdrawn-quiet t (y ∷ ys) = grind (arith, withdrawn-quiet t ys)

asked-marked : (xs : List WaitRow) (w : World) → Asked w → Asked (world_after w (all_marked xs))
asked-marked [] w a = a
asked-marked (x ∷ xs) w a =
    let v : World = basic w (Withdraws x.thread) in
    let quiet : is_quiet v.messages x.thread ≡ true = withdrawn-quiet x.thread w.messages in
    asked-marked xs (basic v (Marks x.thread)) (basic-asked v (Marks x.thread) quiet (basic-asked w (Withdraws x.thread) refl a))

-- nothing of the thread is seen
abbrev is_unseen : Group → World → WaitRow → Bool
is_unseen m w x = not (sees_wait m w x.thread) && not (sees_own m w x.thread)

lone-unseen : (m : Group) (w : World) (x : WaitRow) → our_wait m x ≡ false → is_lone m w x ≡ true → is_unseen m w x ≡ true
lone-unseen m w x out lone = let it : (false || is_unseen m w x) ≡ true = rw out at lone in it

unseen-mark : (m : Group) (w : World) (x : WaitRow) → is_unseen m w x ≡ true → our_mark m w x.thread ≡ false
unseen-mark m w x is = no-event x.thread (which (our_wait m) w.waits) (not-true (sees_wait m w x.thread) (first-true _ _ is))

unseen-own : (m : Group) (w : World) (x : WaitRow) → is_unseen m w x ≡ true → sees_own m w x.thread ≡ false
unseen-own m w x is = not-true (sees_own m w x.thread) (second-true (not (sees_wait m w x.thread)) _ is)

has-without : (p t : MessageRow → Bool) (xs : List MessageRow) → has p xs ≡ false → has p (without t xs) ≡ false
has-without p t [] none = refl
has-without p t (x ∷ xs) none = grind (arith, has-without p t xs)

unseen-less : (m : Group) (w : World) (x y : WaitRow) → is_unseen m w y ≡ true → is_unseen m (basic (basic w (Marks x.thread)) (Withdraws x.thread)) y ≡ true
unseen-less m w x y is =
    let wait : sees_wait m w y.thread ≡ false = not-true (sees_wait m w y.thread) (first-true _ _ is) in
    let own : sees_own m w y.thread ≡ false = unseen-own m w y is in
    rw (wait, which-without (our_message m) (is_own_of x.thread) w.messages, has-without (is_own_of y.thread) (is_own_of x.thread) (which (our_message m) w.messages) own) refl

apart-marked : (m : Group) (c : ℕ) (u : World) (d : Whose) (xs : List WaitRow) (w : World) → every (is_unseen m w) xs ≡ true → are_apart m c u d w (all_marked xs) ≡ true
apart-marked m c u d [] w all = refl
apart-marked m c u d (x ∷ xs) w all =
    let v : World = basic w (Marks x.thread) in
    let here : is_unseen m w x ≡ true = first-true _ _ all in
    let none : our_mark m w x.thread ≡ false = unseen-mark m w x here in
    let own : sees_own m v x.thread ≡ false = unseen-own m w x here in
    rw (none, own) (apart-marked m c u d xs (basic v (Withdraws x.thread)) (every-more (is_unseen m w) (is_unseen m (basic v (Withdraws x.thread))) (λ y is. unseen-less m w x y is) xs (second-true _ _ all)))

ours-marked : (m : Group) (xs : List WaitRow) (w : World) → every (λ x. our_mark m w x.thread) xs ≡ true → are_ours m w (all_marked xs) ≡ true
ours-marked m [] w all = refl
ours-marked m (x ∷ xs) w all = rw (first-true (our_mark m w x.thread) _ all) (ours-marked m xs (basic (basic w (Marks x.thread)) (Withdraws x.thread)) (second-true _ _ all))

-- in the view those that are seen are marked alone
abbrev is_either : Group → World → WaitRow → Bool
is_either m w x = (our_wait m x && our_mark m w x.thread) || (not (our_wait m x) && is_unseen m w x)

either-less : (m : Group) (w : World) (x y : WaitRow) → is_either m w y ≡ true → is_either m (basic (basic w (Marks x.thread)) (Withdraws x.thread)) y ≡ true
either-less m w x y is = at (our_wait m y) refl
  where
    at : (o : Bool) → our_wait m y ≡ o → is_either m (basic (basic w (Marks x.thread)) (Withdraws x.thread)) y ≡ true
    at true ours =
        let mark : our_mark m w y.thread ≡ true = let it : ((true && our_mark m w y.thread) || (false && is_unseen m w y)) ≡ true = rw ours at is in only (our_mark m w y.thread) it in
        rw (ours, mark) refl
      where
        only : (a : Bool) → (a || false) ≡ true → a ≡ true
        only true is = refl
        only false is = absurd (cc)
    at false out =
        let none : is_unseen m w y ≡ true = let it : ((false && our_mark m w y.thread) || (true && is_unseen m w y)) ≡ true = rw out at is in it in
        rw (out, unseen-less m w x y none) refl

view-marked : (m : Group) (xs : List WaitRow) (w : World) → every (is_either m w) xs ≡ true → view m (world_after w (all_marked xs)) ≡ world_after (view m w) (all_marked (which (our_wait m) xs))
view-marked m [] w all = refl
view-marked m (x ∷ xs) w all = at (our_wait m x) refl (λ all. view-marked m xs (basic (basic w (Marks x.thread)) (Withdraws x.thread)) all)
  where
    v : World
    v = basic (basic w (Marks x.thread)) (Withdraws x.thread)

    Rest : Type 0
    Rest = every (is_either m v) xs ≡ true → view m (world_after v (all_marked xs)) ≡ world_after (view m v) (all_marked (which (our_wait m) xs))

    later : every (is_either m v) xs ≡ true
    later = every-more (is_either m w) (is_either m v) (λ y is. either-less m w x y is) xs (second-true (is_either m w x) (every (is_either m w) xs) all)

    at : (o : Bool) → our_wait m x ≡ o → Rest → view m (world_after w (all_marked (x ∷ xs))) ≡ world_after (view m w) (all_marked (which (our_wait m) (x ∷ xs)))
    at true ours rest =
        let here : is_either m w x ≡ true = first-true _ _ all in
        let mark : our_mark m w x.thread ≡ true = let it : ((true && our_mark m w x.thread) || (false && is_unseen m w x)) ≡ true = rw ours at here in only (our_mark m w x.thread) it in
        let one : view m v ≡ basic (basic (view m w) (Marks x.thread)) (Withdraws x.thread) =
        basic-ours m (basic w (Marks x.thread)) (Withdraws x.thread) refl refl ∙ ap (λ v. basic v (Withdraws x.thread)) (basic-ours m w (Marks x.thread) mark refl) in
        rw ours (rest later ∙ ap (λ v. world_after v (all_marked (which (our_wait m) xs))) one)
      where
        only : (a : Bool) → (a || false) ≡ true → a ≡ true
        only true is = refl
        only false is = absurd (cc)
    at false out rest =
        let here : is_either m w x ≡ true = first-true _ _ all in
        let none : is_unseen m w x ≡ true = let it : ((false && our_mark m w x.thread) || (true && is_unseen m w x)) ≡ true = rw out at here in it in
        let one : view m v ≡ view m w = basic-unseen m (basic w (Marks x.thread)) (Withdraws x.thread) (unseen-own m w x none) refl ∙ basic-unseen m w (Marks x.thread) (unseen-mark m w x none) refl in
        rw out (rest later ∙ ap (λ v. world_after v (all_marked (which (our_wait m) xs))) one)

-- nobody is woken
shown-marked : (m : Group) (side : Bool) (xs : List WaitRow) (w : World) → are_shown false m side w (all_marked xs) ≡ true
shown-marked m side [] w = refl
shown-marked m side (x ∷ xs) w = shown-marked m side xs (world_after w (mark_event x))

-- The stage
module _ (m : Group) (c : ℕ) (b : Birth) (test : World → WaitRow → Bool) (e : IsMark m c b test) where
  abbrev marking : World → List WaitRow
  marking w = which (test w) w.waits

  abbrev marks : World → List Basic
  marks w = all_marked (marking w)

  unseen : (u w : World) → Sure m c u w → m b.process ≡ false → every (is_unseen m w) (marking w) ≡ true
  unseen u w s out = every-passing (is_known_event m c u w) (test w) (is_unseen m w)
      (λ x known on. lone-unseen m w x (e.unseen out u w x s (first-true _ _ known) on) (second-true (is_seen_mark m w x) _ (second-true (is_fair_raise m x) _ (second-true (is_known_wait m c u w x) _ known)))) w.waits (known-events m c u w s)

  either : (u w : World) → Sure m c u w → every (is_either m w) (marking w) ≡ true
  either u w s = every-passing (is_known_event m c u w) (test w) (is_either m w) (λ x known on. at x known (e.event w x on) (our_wait m x) refl) w.waits (known-events m c u w s)
    where
      at : (x : WaitRow) → is_known_event m c u w x ≡ true → is_event x ≡ true → (o : Bool) → our_wait m x ≡ o → is_either m w x ≡ true
      at x known on true ours =
          let seen : is_seen_mark m w x ≡ true = first-true _ _ (second-true (is_fair_raise m x) _ (second-true (is_known_wait m c u w x) _ known)) in
          let mark : (not (true && true) || our_mark m w x.thread) ≡ true = rw (ours, on) at seen in
          rw (ours, mark) refl
      at x known on false out = rw (out, lone-unseen m w x out (second-true (is_seen_mark m w x) _ (second-true (is_fair_raise m x) _ (second-true (is_known_wait m c u w x) _ known)))) refl

  seen : (u w : World) → Sure m c u w → m b.process ≡ true → marking (view m w) ≡ which (our_wait m) (marking w)
  seen u w s inside = which-seen (is_known_event m c u w) (our_wait m) (test (view m w)) (test w)
      (λ x known ours. e.agree inside u w x s (first-true _ _ known) ours (first-true _ _ (second-true (is_fair_raise m x) _ (second-true (is_known_wait m c u w x) _ known)))) w.waits (known-events m c u w s)

  all-ours : (u w : World) → Sure m c u w → b.process ≡ c → every (our_wait m) (marking w) ≡ true
  all-ours u w s mine = every-passing (is_known_event m c u w) (test w) (our_wait m)
      (λ x known on. e.inside mine u w x s (first-true _ _ known) (first-true _ _ (second-true (is_known_wait m c u w x) _ known)) on) w.waits (known-events m c u w s)

  own-marks : (u w : World) → Sure m c u w → b.process ≡ c → every (λ x. our_mark m w x.thread) (marking w) ≡ true
  own-marks u w s mine = every-both (our_wait m) (is_either m w) (λ x. our_mark m w x.thread) (λ x ours is. at x (our_mark m w x.thread) ours is) (marking w) (all-ours u w s mine) (either u w s)
    where
      at : (x : WaitRow) (a : Bool) → our_wait m x ≡ true → ((our_wait m x && a) || (not (our_wait m x) && is_unseen m w x)) ≡ true → a ≡ true
      at x true ours is = refl
      at x false ours is = let it : ((true && false) || (false && is_unseen m w x)) ≡ true = rw ours at is in absurd (cc)

  pub mark-stage : Stage m c b (end_each test mark_event)
  mark-stage = record {
    losses = λ w. losses-marked b (marking w);
    good = record {
      mild = λ w. losses-mild b (marks w) (losses-marked b (marking w));
      sent = λ w. losses-sent b w (marks w) (losses-marked b (marking w));
      fair = λ u w s. losses-fair m c b w (marks w) (losses-marked b (marking w));
      asked = λ u w s. asked-marked (marking w) w s.asked;
      apart = λ u d w s out. apart-marked m c u d (marking w) w (unseen u w s out);
      mute = λ u d w memo s n out. subst (λ es. entries_memo m (view m w) memo (told_inputs m c u d es) ≡ memo) (sym (silent-marked (marking w))) refl;
      shown = λ u w s n side is. shown-marked m side (marking w) w;
      ours = λ u w s mine. ours-marked m (marking w) w (own-marks u w s mine);
      led = λ u d w s inside. subst (λ xs. Led m c u d w (marks w) (all_marked xs)) (sym (seen u w s inside)) (record {
        world = view-marked m (marking w) w (either u w s);
        told = ap (heard (Rattle.lpc_isolation.proofs.Views.Alone.alone c) u d) (silent-marked (marking w) ∙ sym (silent-marked (which (our_wait m) (marking w))));
      });
      same = λ u w s mine. ap all_marked (seen u w s (ap m mine ∙ s.c_in) ∙ which-kept (our_wait m) (marking w) (all-ours u w s mine));
      alike = λ k u closed live. ap all_marked (which-same (wait_closed k) (test (thin k u)) (test u) (λ x live. e.thinly k u x closed live) u.waits closed.waits);
      stands = λ k u closed live. closed-marked k (marking u);
    };
  }
