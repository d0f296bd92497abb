-- Whom outsiders' turns of settling wake, told by the entries that follow: the first that tells of a thread's end shows an
-- outsider's message.
use Rattle.std.proofs.Common.{◌≡◌, ℕ, List, [], ◌∷◌, ◌++◌, Bool, true, false, cond, not, refl, ap, sym, subst, ◌∙◌, arith}
use Rattle.std.specs.Prelude.{◌&&◌, ◌||◌, ◌==◌}
use Rattle.std.proofs.lemmas.Bool.{and_from, eqb-true, not-true}
use Rattle.std.proofs.lemmas.List.Elements.{filter-append}
use Rattle.lpc_base.specs.Rows.{every, first, has, passes, without}
use Rattle.lpc_base.proofs.Bools.{first-true, number-turned, second-true, same-number}
use Rattle.lpc_base.proofs.RowMaps.{every-both}
use Rattle.lpc_base.proofs.RowWords.{every-change, every-more, every-push, every-without, without-none}
use Rattle.lpc_model.specs.declared.entry.Entry.{Entry}
use Rattle.lpc_model.specs.declared.entry.Entry.TheVariants as entry
use Rattle.lpc_model.specs.declared.entry.ObjectKind.{ObjectKind}
use Rattle.lpc_model.specs.declared.entry.ObjectKind.TheVariants as kind
use Rattle.lpc_model.specs.World.{Acceptance, Birth, WaitRow, World}
use Rattle.lpc_model.specs.Found.{is_event, is_mark, waits_as, waits_at}
use Rattle.lpc_model.specs.Basics.{Accepts, Awaits, Basic, Dies, Frees, Leaves, Receives, Tells, Wakes, accepted, basic, entries_of, received, told, world_after}
use Rattle.lpc_model.specs.Settle.{HasMarkedEvents, has_event, is_event_of}
use Rattle.lpc_model.specs.Circle.{Group, Item, Ran, Told, Gave, Whose, is_seen, thread_whose}
use Rattle.lpc_model.proofs.Sound.Marked.{marked-step}
use Rattle.lpc_model.proofs.Sound.Worlds.{by_kind}
use Rattle.lpc_isolation.proofs.Views.View.{view}
use Rattle.lpc_isolation.proofs.Views.Apart.{absorb, absorb_all, are_apart, basic-apart, heard, is_apart, is_heard}
use Rattle.lpc_isolation.proofs.Views.Basics.{is_regular}
use Rattle.lpc_isolation.proofs.Plays.Play.{told_items}
use Rattle.lpc_isolation.proofs.Memory.Heard.{takes_any}
use Rattle.lpc_isolation.proofs.Closings.Ends.{every-passing}
use Rattle.lpc_isolation.proofs.Closings.Shown.{may_show, are_shown, is_given_out, is_shown, shows_out}
use Rattle.lpc_isolation.proofs.Endings.Spared.{is_spared, less, event-off}

-- An entry that tells of the end of a thread's wait, and whether that is an outsider's wake
abbrev pub is_end_of : ℕ → Entry → Bool
is_end_of n (entry.Wakes who call status fields) = who == n
is_end_of n (entry.Died who status) = who == n
is_end_of n (entry.Answer who call status fields) = false
is_end_of n (entry.Waits who call fields) = false
is_end_of n (entry.Busy who) = false
is_end_of n (entry.NoThread who) = false
is_end_of n (entry.Directive name status) = false

abbrev pub is_out : Group → Entry → Bool
is_out m (entry.Wakes who call status fields) = shows_out m fields
is_out m (entry.Died who status) = false
is_out m (entry.Answer who call status fields) = false
is_out m (entry.Waits who call fields) = false
is_out m (entry.Busy who) = false
is_out m (entry.NoThread who) = false
is_out m (entry.Directive name status) = false

abbrev pub ends_of : ℕ → Item → Bool
ends_of n (Told e) = is_end_of n e
ends_of n (Ran line) = false
ends_of n (Gave own) = false

abbrev pub is_out_item : Group → Item → Bool
is_out_item m (Told e) = is_out m e
is_out_item m (Ran line) = false
is_out_item m (Gave own) = false

-- the first that tells of a thread's end
abbrev pub goes_out : Group → List Item → ℕ → Bool
goes_out m is n = passes (first (ends_of n) is) (is_out_item m)

goes-next : (m : Group) (e : Entry) (is : List Item) (n : ℕ) → is_end_of n e ≡ false → goes_out m (Told e ∷ is) n ≡ goes_out m is n
goes-next m e is n off = rw off refl

goes-here : (m : Group) (e : Entry) (is : List Item) (n : ℕ) → is_end_of n e ≡ true → goes_out m (Told e ∷ is) n ≡ is_out m e
goes-here m e is n on = rw on refl

-- where no entry tells of its end, it is told later; and where some do and none is an outsider's wake, none goes
pub goes-later : (m : Group) (es : List Entry) (is : List Item) (n : ℕ) → every (λ e. not (is_end_of n e)) es ≡ true → goes_out m (told_items es ++ is) n ≡ goes_out m is n
goes-later m [] is n none = refl
goes-later m (e ∷ es) is n none = goes-next m e (told_items es ++ is) n (not-true (is_end_of n e) (first-true _ _ none)) ∙ goes-later m es is n (second-true (not (is_end_of n e)) _ none)

pub goes-not : (m : Group) (es : List Entry) (is : List Item) (n : ℕ) → every (λ e. not (is_out m e)) es ≡ true → has (is_end_of n) es ≡ true → goes_out m (told_items es ++ is) n ≡ false
goes-not m [] is n none some = absurd (cc)
goes-not m (e ∷ es) is n none some = at (is_end_of n e) refl some (goes-not m es is n (second-true (not (is_out m e)) _ none))
  where
    at : (b : Bool) → is_end_of n e ≡ b → has (is_end_of n) (e ∷ es) ≡ true → (has (is_end_of n) es ≡ true → goes_out m (told_items es ++ is) n ≡ false) → goes_out m (Told e ∷ (told_items es ++ is)) n ≡ false
    at true on some rest = goes-here m e (told_items es ++ is) n on ∙ not-true (is_out m e) (first-true _ _ none)
    at false off some rest = goes-next m e (told_items es ++ is) n off ∙ rest (let later : has (is_end_of n) es ≡ true = rw off at some in later)

-- What is guessed of waits for messages: the thread goes, where it isn't c's, and its end is an outsider's wake
abbrev pub agrees : Bool → Bool → Bool
agrees true b = b
agrees false b = not b

pub agree : (a b : Bool) → agrees a b ≡ true → a ≡ b
agree true true is = refl
agree true false is = absurd (cc)
agree false true is = absurd (cc)
agree false false is = refl

pub agree-self : (a : Bool) → agrees a a ≡ true
agree-self true = refl
agree-self false = refl

abbrev pub guess : Group → (ℕ → Bool) → List Item → ℕ → Bool
guess m mine is n = not (mine n) && goes_out m is n

abbrev pub knows : Group → (ℕ → Bool) → (ℕ → Bool) → List Item → WaitRow → Bool
knows m mine o is x = not (takes_any x) || agrees (o x.thread) (guess m mine is x.thread)

pub knows-same : (m : Group) (mine o : ℕ → Bool) (is js : List Item) (x : WaitRow) → goes_out m is x.thread ≡ goes_out m js x.thread → knows m mine o is x ≡ true → knows m mine o js x ≡ true
knows-same m mine o is js x same known = ap (λ b. not (takes_any x) || agrees (o x.thread) (not (mine x.thread) && b)) (sym same) ∙ known

-- An outsider's turn
-- the wakes that members are told of: of waits for messages, each with an outsider's
abbrev pub is_outs : Group → World → Entry → Bool
is_outs m y (entry.Wakes who call status fields) = every (is_given_out m who fields) y.waits
is_outs m y (entry.Died who status) = false
is_outs m y (entry.Answer who call status fields) = false
is_outs m y (entry.Waits who call fields) = false
is_outs m y (entry.Busy who) = false
is_outs m y (entry.NoThread who) = false
is_outs m y (entry.Directive name status) = false

abbrev pub outs : Group → World → List Entry → Bool
outs m y [] = true
outs m y (e ∷ es) = is_outs m y e && outs m (absorb y e) es

outs-append : (m : Group) (y : World) (es fs : List Entry) → outs m y es ≡ true → outs m (absorb_all y es) fs ≡ true → outs m y (es ++ fs) ≡ true
outs-append m y [] fs one two = two
outs-append m y (e ∷ es) fs one two = and_from _ _ (first-true _ _ one) (outs-append m (absorb y e) es fs (second-true (is_outs m y e) _ one) two)

step-outs : (a : Bool) (m : Group) (c : ℕ) (u : World) (d : Whose) (w : World) (b : Basic) → is_apart m c u d w b ≡ true → is_shown a m false w b ≡ true → outs m (view m w) (heard m u d (told b)) ≡ true
step-outs a m c u d w (Tells e) apart shown = rw (not-true (is_heard m u d e) apart) refl
step-outs a m c u d w (Wakes who call status fields) apart shown = at (is_seen m (thread_whose u who))
  where
    at : (b : Bool) → outs m (view m w) (cond b (entry.Wakes who call status fields ∷ []) []) ≡ true
    at true = and_from _ _ (second-true (may_show a fields) _ shown) refl
    at false = refl
step-outs a m c u d w (Dies who status) apart shown = rw (not-true (is_seen m (thread_whose u who)) (first-true _ _ apart)) refl
step-outs a m c u d w b apart shown = refl

pub run-outs : (a : Bool) (m : Group) (c : ℕ) (u : World) (d : Whose) (w : World) (bs : List Basic) → are_apart m c u d w bs ≡ true → are_shown a m false w bs ≡ true → outs m (view m w) (heard m u d (entries_of bs)) ≡ true
run-outs a m c u d w [] apart shown = refl
run-outs a m c u d w (b ∷ bs) apart shown =
    let one : is_apart m c u d w b ≡ true = first-true _ _ (first-true _ _ apart) in
    let ok : is_regular m w b ≡ true = second-true (is_apart m c u d w b) _ (first-true _ _ apart) in
    let there : view m (basic w b) ≡ absorb_all (view m w) (heard m u d (told b)) = basic-apart m c u d w b one ok in
    let rest : outs m (view m (basic w b)) (heard m u d (entries_of bs)) ≡ true = run-outs a m c u d (basic w b) bs (second-true (is_apart m c u d w b && is_regular m w b) _ apart) (second-true (is_shown a m false w b) _ shown) in
    subst (λ es. outs m (view m w) es ≡ true) (sym (filter-append (is_heard m u d) (told b) (entries_of bs)))
    (outs-append m (view m w) (heard m u d (told b)) (heard m u d (entries_of bs)) (step-outs a m c u d w b one (first-true _ _ shown)) (subst (λ v. outs m v (heard m u d (entries_of bs)) ≡ true) there rest))

-- whom they tell of, isn't c's
abbrev pub not_mine : (ℕ → Bool) → Entry → Bool
not_mine mine (entry.Wakes who call status fields) = not (mine who)
not_mine mine (entry.Died who status) = true
not_mine mine (entry.Answer who call status fields) = true
not_mine mine (entry.Waits who call fields) = true
not_mine mine (entry.Busy who) = true
not_mine mine (entry.NoThread who) = true
not_mine mine (entry.Directive name status) = true

-- such waits are guessed, so that the world without them stays
gone-spared : (t p : WaitRow → Bool) (xs : List WaitRow) → every (λ x. not (t x) || p x) xs ≡ true → without p (without t xs) ≡ without p xs
gone-spared t p [] all = refl
gone-spared t p (x ∷ xs) all = grind (arith, gone-spared t p xs)

no-events : (who : ℕ) (xs : List WaitRow) → every (λ x. not (waits_as who x) || takes_any x) xs ≡ true → has (is_event_of who) xs ≡ false
no-events who [] all = refl
no-events who (x ∷ xs) all = at (waits_as who x) (is_event x) refl refl (first-true _ _ all) (no-events who xs (second-true (not (waits_as who x) || takes_any x) _ all))
  where
    at : (a e : Bool) → waits_as who x ≡ a → is_event x ≡ e → (not (waits_as who x) || takes_any x) ≡ true → has (is_event_of who) xs ≡ false → has (is_event_of who) (x ∷ xs) ≡ false
    at false e is on one rest = rw is rest
    at true false is on one rest = rw (is, on) rest
    at true true is on one rest = let takes : (not true || false) ≡ true = rw (is, event-off x on) at one in absurd (cc)

no-mark : (y : World) (who : ℕ) (ms : List ℕ) → every (has_event y) ms ≡ true → has (is_event_of who) y.waits ≡ false → has (is_mark who) ms ≡ false
no-mark y who [] all none = refl
no-mark y who (n ∷ ms) all none = at (n == who) refl (no-mark y who ms (second-true (has_event y n) _ all) none)
  where
    at : (b : Bool) → (n == who) ≡ b → has (is_mark who) ms ≡ false → has (is_mark who) (n ∷ ms) ≡ false
    at true is rest =
        let there : has (is_event_of who) y.waits ≡ true = subst (λ k. has_event y k ≡ true) (eqb-true n who is) (first-true _ _ all) in
        absurd (cc)
    at false off rest = rw off rest

pub record Guessed (m : Group) (mine o : ℕ → Bool) (y v : World) (is : List Item) : Type 0 where
  pub same : less o v ≡ less o y
  pub known : every (knows m mine o is) v.waits ≡ true
  pub marked : HasMarkedEvents v

pub outs-guessed : (m : Group) (mine o : ℕ → Bool) (y : World) (es : List Entry) (is : List Item) → outs m y es ≡ true → every (not_mine mine) es ≡ true → every (knows m mine o (told_items es ++ is)) y.waits ≡ true → HasMarkedEvents y → Guessed m mine o y (absorb_all y es) is
outs-guessed m mine o y [] is ok others known marked = record { same = refl; known = known; marked = marked }
outs-guessed m mine o y (entry.Wakes who call status fields ∷ es) is ok others known marked =
    let rest : Guessed m mine o v (absorb_all v es) is = outs-guessed m mine o v es is (second-true (is_outs m y (entry.Wakes who call status fields)) _ ok) (second-true (not (mine who)) _ others) next (marked-step y (Wakes who call status fields) refl marked) in
    record { same = rest.same ∙ one; known = rest.known; marked = rest.marked }
  where
    v : World
    v = basic y (Wakes who call status fields)

    items : List Item
    items = told_items es ++ is

    here : every (is_given_out m who fields) y.waits ≡ true
    here = first-true _ _ ok

    -- each wait of the thread is guessed
    guessed : (x : WaitRow) → knows m mine o (Told (entry.Wakes who call status fields) ∷ items) x ≡ true → is_given_out m who fields x ≡ true → (not (waits_as who x) || is_spared o x) ≡ true
    guessed x known given = at (waits_as who x) refl
      where
        at : (b : Bool) → waits_as who x ≡ b → (not (waits_as who x) || is_spared o x) ≡ true
        at false off = rw off refl
        at true its =
            let both : (takes_any x && shows_out m fields) ≡ true = let g : (not true || (takes_any x && shows_out m fields)) ≡ true = rw its at given in g in
            let takes : takes_any x ≡ true = first-true _ _ both in
            let out : shows_out m fields ≡ true = second-true (takes_any x) _ both in
            let thread : x.thread ≡ who = eqb-true x.thread who its in
            let other : mine x.thread ≡ false = ap mine thread ∙ not-true (mine who) (first-true _ _ others) in
            let end : is_end_of x.thread (entry.Wakes who call status fields) ≡ true = subst (λ n. (n == x.thread) ≡ true) thread (same-number x.thread) in
            let goes : goes_out m (Told (entry.Wakes who call status fields) ∷ items) x.thread ≡ true = goes-here m (entry.Wakes who call status fields) items x.thread end ∙ out in
            let said : agrees (o x.thread) (not (mine x.thread) && goes_out m (Told (entry.Wakes who call status fields) ∷ items) x.thread) ≡ true = let k : (not true || agrees (o x.thread) (guess m mine (Told (entry.Wakes who call status fields) ∷ items) x.thread)) ≡ true = rw takes at known in k in
            let goes_o : o x.thread ≡ true = agree (o x.thread) _ said ∙ rw (other, goes) refl in
            rw (its, takes, goes_o) refl

    spared : every (λ x. not (waits_as who x) || is_spared o x) y.waits ≡ true
    spared = every-both (knows m mine o (Told (entry.Wakes who call status fields) ∷ items)) (is_given_out m who fields) (λ x. not (waits_as who x) || is_spared o x) guessed y.waits known here

    takers : every (λ x. not (waits_as who x) || takes_any x) y.waits ≡ true
    takers = every-more (λ x. not (waits_as who x) || is_spared o x) (λ x. not (waits_as who x) || takes_any x) (λ x is. grind arith) y.waits spared

    unmarked : without (is_mark who) y.marks ≡ y.marks
    unmarked = without-none (is_mark who) y.marks (no-mark y who y.marks marked (no-events who y.waits takers))

    one : less o v ≡ less o y
    one =
        ap (λ xs. record y { waits = xs; marks = without (is_mark who) y.marks }) (gone-spared (waits_as who) (is_spared o) y.waits spared)
        ∙ ap (λ ms. record y { waits = without (is_spared o) y.waits; marks = ms }) unmarked

    next : every (knows m mine o items) v.waits ≡ true
    next = every-passing (knows m mine o (Told (entry.Wakes who call status fields) ∷ items)) (λ x. not (waits_as who x)) (knows m mine o items)
        (λ x known other. knows-same m mine o (Told (entry.Wakes who call status fields) ∷ items) items x (goes-next m (entry.Wakes who call status fields) items x.thread (number-turned who x.thread ∙ not-true (waits_as who x) other)) known) y.waits known
outs-guessed m mine o y (entry.Died who status ∷ es) is ok others known marked = absurd (cc)
outs-guessed m mine o y (entry.Answer who call status fields ∷ es) is ok others known marked = absurd (cc)
outs-guessed m mine o y (entry.Waits who call fields ∷ es) is ok others known marked = absurd (cc)
outs-guessed m mine o y (entry.Busy who ∷ es) is ok others known marked = absurd (cc)
outs-guessed m mine o y (entry.NoThread who ∷ es) is ok others known marked = absurd (cc)
outs-guessed m mine o y (entry.Directive name status ∷ es) is ok others known marked = absurd (cc)

-- A member's turn
-- what is known of waits for messages by their threads stays, where no wait for messages begins
takers-accepted : (a : Acceptance) (x : WaitRow) → takes_any (accepted a x) ≡ takes_any x
takers-accepted a = by_kind (λ x. takes_any (accepted a x) ≡ takes_any x) (λ x m. refl) (λ x. refl) (λ x. refl) (λ x m offer. refl) (λ x m reply. refl) (λ x r. refl)

abbrev pub of_takers : (ℕ → Bool) → WaitRow → Bool
of_takers f x = not (takes_any x) || f x.thread

abbrev pub begins_events : Basic → Bool
begins_events (Awaits x) = is_event x
begins_events b = true

takers-freed : (f : ℕ → Bool) (w : World) (k : ObjectKind) (b : Birth) → every (of_takers f) w.waits ≡ true → every (of_takers f) (basic w (Frees (record { kind = k; birth = b }))).waits ≡ true
takers-freed f w kind.Port b all = all
takers-freed f w kind.Section b all = all
takers-freed f w kind.Token b all = all
takers-freed f w kind.Process b all = all
takers-freed f w kind.Thread b all = all

takers-step : (f : ℕ → Bool) (w : World) (b : Basic) → begins_events b ≡ true → every (of_takers f) w.waits ≡ true → every (of_takers f) (basic w b).waits ≡ true
takers-step f w (Wakes who call status fields) ok all = every-without (of_takers f) (waits_as who) w.waits all
takers-step f w (Leaves who) ok all = every-without (of_takers f) (waits_as who) w.waits all
takers-step f w (Dies who status) ok all = every-without (of_takers f) (waits_as who) w.waits all
takers-step f w (Awaits x) ok all = every-push (of_takers f) w.waits x all (rw (event-off x ok) refl)
takers-step f w (Receives who queue) ok all = every-change (of_takers f) (waits_at who queue) received (λ x is. is) w.waits all
takers-step f w (Accepts who a) ok all = every-change (of_takers f) (waits_as who) (accepted a) (λ x is. ap (λ e. not e || f x.thread) (takers-accepted a x) ∙ is) w.waits all
takers-step f w (Frees n) ok all = takers-freed f w n.kind n.birth all
takers-step f w b ok all = all

pub takers-run : (f : ℕ → Bool) (w : World) (bs : List Basic) → every begins_events bs ≡ true → every (of_takers f) w.waits ≡ true → every (of_takers f) (world_after w bs).waits ≡ true
takers-run f w [] ok all = all
takers-run f w (b ∷ bs) ok all = takers-run f (basic w b) bs (second-true (begins_events b) _ ok) (takers-step f w b (first-true _ _ ok) all)
