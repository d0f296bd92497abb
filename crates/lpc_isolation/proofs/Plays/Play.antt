-- What a process is told, played from the inputs alone: the law on two scripts from what one line does to a view.
use Rattle.std.proofs.Common.{◌≡◌, ℕ, List, [], ◌∷◌, ◌++◌, Bool, true, false, cond, not, map, Option, Some, None, refl, ap, sym, subst, ◌∙◌}
use Rattle.std.specs.Prelude.{◌&&◌}
use Rattle.std.proofs.lemmas.List.Elements.{filter-append}
use Rattle.std.proofs.lemmas.List.{map-append}
use Rattle.std.proofs.Math.Bool.{and-true}
use Rattle.lpc_base.specs.Rows.{which}
use Rattle.lpc_base.proofs.Bools.{first-true, second-true}
use Rattle.lpc_model.specs.declared.entry.Entry.{Entry}
use Rattle.lpc_model.specs.World.{Birth, World, no_rows, Impersonation}
use Rattle.lpc_model.specs.Lines.{ScriptLine}
use Rattle.lpc_isolation.proofs.Gone.Served.{served_step, served_steps, own_served, own_served_step}
use Rattle.lpc_model.specs.Run.{said_in}
use Rattle.lpc_model.specs.Circle.{Event, Everyone, Group, Item, Nobody, Of, Ran, Told, Whose, entry_whose, full_inputs, is_fine_line, is_input, is_item, is_seen, is_told_to, item_of, full_items, line_whose, members, told_event, Gave, gave_event, given_in}
use Rattle.lpc_isolation.proofs.Views.Alone.{HasFineRows, alone}
use Rattle.lpc_isolation.proofs.Gone.Bare.{IsApartAt, IsBareCircle, BareIsolation, bare_events, bare_line_events, HasViewsApart}

-- How a group's lines are played: a state, what an entry and a line do to it, and what c sees of a line
pub record Player (S : Type 0) : Type 0 where
  pub absorb_at : S → Entry → S
  pub after : S → ScriptLine → List Item → S
  pub shown_at : S → ScriptLine → List Item → List Item

abbrev pub play : {S : Type 0} → Player S → S → List Item → List Item
play p v [] = []
play p v (Ran line ∷ is) = p.shown_at v line is ++ play p (p.after v line is) is
play p v (Told e ∷ is) = play p (p.absorb_at v e) is
play p v (Gave own ∷ is) = play p v is

abbrev pub absorbed : {S : Type 0} → Player S → S → List Entry → S
absorbed p v [] = v
absorbed p v (e ∷ es) = absorbed p (p.absorb_at v e) es

abbrev pub told_items : List Entry → List Item
told_items es = map Told es

pub play-told : {S : Type 0} (p : Player S) (v : S) (es : List Entry) (is : List Item) → play p v (told_items es ++ is) ≡ play p (absorbed p v es) is
play-told p v [] is = refl
play-told p v (e ∷ es) is = play-told p (p.absorb_at v e) es is

abbrev pub gave_items : List Impersonation → List Item
gave_items gs = map Gave gs

play-gave : {S : Type 0} (p : Player S) (v : S) (gs : List Impersonation) (is : List Item) → play p v (gave_items gs ++ is) ≡ play p v is
play-gave p v [] is = refl
play-gave p v (own ∷ gs) is = play-gave p v gs is

-- the entries of a line that are inputs
abbrev pub is_told_input : Group → ℕ → World → Whose → Entry → Bool
is_told_input m c u d e = is_seen m (entry_whose u d e) && not (is_told_to c (entry_whose u d e) (Told e))

abbrev pub told_inputs : Group → ℕ → World → Whose → List Entry → List Entry
told_inputs m c u d es = which (is_told_input m c u d) es

-- what of a line's entries is told in the inputs
abbrev pub told_at : Group → ℕ → World → ScriptLine → List Entry
told_at m c w line = told_inputs m c (served_step w line).world (line_whose w line) (served_step w line).entries

-- the tokens of a line that are inputs
abbrev pub is_given_input : Group → ℕ → Whose → Impersonation → Bool
is_given_input m c d own = is_seen m d && not (is_told_to c d (Gave own))

abbrev pub given_inputs : Group → ℕ → Whose → List Impersonation → List Impersonation
given_inputs m c d gs = which (is_given_input m c d) gs

abbrev pub given_at : Group → ℕ → World → ScriptLine → List Impersonation
given_at m c w line = given_inputs m c (line_whose w line) (given_in (served_steps line w))

-- and of its own steps, before the world settles
abbrev pub own_told_at : Group → ℕ → World → ScriptLine → List Entry
own_told_at m c w line = told_inputs m c (own_served_step w line).world (line_whose w line) (own_served_step w line).entries

abbrev pub own_given_at : Group → ℕ → World → ScriptLine → List Impersonation
own_given_at m c w line = given_inputs m c (line_whose w line) (given_in (own_served line w))

-- a line that the group doesn't see, and one that it sees, where a state stands for a world
pub record Hidden {S : Type 0} (p : Player S) (Stands : World → S → Type 0) (m : Group) (c : ℕ) (w : World) (v : S) (line : ScriptLine) : Type 0 where
  pub unseen : is_seen m (line_whose w line) ≡ false
  pub stands : Stands (served_step w line).world (absorbed p v (told_at m c w line))
  pub silent : full_items (alone c) (bare_line_events w line) ≡ []

pub record Visible {S : Type 0} (p : Player S) (Stands : World → S → Type 0) (m : Group) (c : ℕ) (w : World) (v : S) (line : ScriptLine) : Type 0 where
  pub seen : is_seen m (line_whose w line) ≡ true
  pub stands : (is : List Item) → Stands (served_step w line).world (absorbed p (p.after v line (told_items (told_at m c w line) ++ (gave_items (given_at m c w line) ++ is))) (told_at m c w line))
  pub shown : (is : List Item) → full_items (alone c) (bare_line_events w line) ≡ p.shown_at v line (told_items (told_at m c w line) ++ (gave_items (given_at m c w line) ++ is))

pub data Played {S : Type 0} (p : Player S) (Stands : World → S → Type 0) (m : Group) (c : ℕ) (w : World) (v : S) (line : ScriptLine) : Type 0 where
  hidden : Hidden p Stands m c w v line → Played p Stands m c w v line
  visible : Visible p Stands m c w v line → Played p Stands m c w v line

-- Filters of one list of events
pub items-append : (m : Group) (xs ys : List Event) → full_items m (xs ++ ys) ≡ full_items m xs ++ full_items m ys
items-append m xs ys = ap (map item_of) (filter-append (is_item m) xs ys) ∙ map-append item_of (which (is_item m) xs) (which (is_item m) ys)

inputs-append : (m : Group) (c : ℕ) (xs ys : List Event) → full_inputs m c (xs ++ ys) ≡ full_inputs m c xs ++ full_inputs m c ys
inputs-append m c xs ys = ap (map item_of) (filter-append (is_input m c) xs ys) ∙ map-append item_of (which (is_input m c) xs) (which (is_input m c) ys)

told-inputs : (m : Group) (c : ℕ) (u : World) (d : Whose) (es : List Entry) → full_inputs m c (map (told_event u d) es) ≡ told_items (told_inputs m c u d es)
told-inputs m c u d [] = refl
told-inputs m c u d (e ∷ es) = at (is_told_input m c u d e) (told-inputs m c u d es)
  where
    at : (b : Bool) → full_inputs m c (map (told_event u d) es) ≡ told_items (told_inputs m c u d es)
        → map item_of (cond b (told_event u d e ∷ which (is_input m c) (map (told_event u d) es)) (which (is_input m c) (map (told_event u d) es))) ≡ map Told (cond b (e ∷ told_inputs m c u d es) (told_inputs m c u d es))
    at true rest = ap (λ is. Told e ∷ is) rest
    at false rest = rest

gave-inputs : (m : Group) (c : ℕ) (d : Whose) (gs : List Impersonation) → full_inputs m c (map (gave_event d) gs) ≡ gave_items (given_inputs m c d gs)
gave-inputs m c d [] = refl
gave-inputs m c d (own ∷ gs) = at (is_given_input m c d own) (gave-inputs m c d gs)
  where
    at : (b : Bool) → full_inputs m c (map (gave_event d) gs) ≡ gave_items (given_inputs m c d gs)
        → map item_of (cond b (gave_event d own ∷ which (is_input m c) (map (gave_event d) gs)) (which (is_input m c) (map (gave_event d) gs))) ≡ map Gave (cond b (own ∷ given_inputs m c d gs) (given_inputs m c d gs))
    at true rest = ap (λ is. Gave own ∷ is) rest
    at false rest = rest

ran-input : (m : Group) (c : ℕ) (whose : Whose) (line : ScriptLine) → is_input m c (record { whose = whose; item = Ran line }) ≡ is_seen m whose
ran-input m c (Of pid) line = and-true (m pid)
ran-input m c Everyone line = refl
ran-input m c Nobody line = refl

-- the inputs of a line
abbrev said_at : Group → ℕ → World → ScriptLine → List Item
said_at m c w line = told_items (told_at m c w line) ++ gave_items (given_at m c w line)

line-inputs : (m : Group) (c : ℕ) (w : World) (line : ScriptLine) → full_inputs m c (bare_line_events w line) ≡ cond (is_seen m (line_whose w line)) (Ran line ∷ said_at m c w line) (said_at m c w line)
line-inputs m c w line = subst (λ b. map item_of (cond b (record { whose = line_whose w line; item = Ran line } ∷ which (is_input m c) es) (which (is_input m c) es)) ≡ cond (is_seen m (line_whose w line)) (Ran line ∷ said) said) (sym (ran-input m c (line_whose w line) line)) (at (is_seen m (line_whose w line)) both)
  where
    told : List Event
    told = map (told_event (served_step w line).world (line_whose w line)) (served_step w line).entries

    gave : List Event
    gave = map (gave_event (line_whose w line)) (given_in (served_steps line w))

    es : List Event
    es = told ++ gave

    said : List Item
    said = said_at m c w line

    both : map item_of (which (is_input m c) es) ≡ said
    both = inputs-append m c told gave
        ∙ ap (λ is. is ++ full_inputs m c gave) (told-inputs m c (served_step w line).world (line_whose w line) (served_step w line).entries)
        ∙ ap (λ is. told_items (told_at m c w line) ++ is) (gave-inputs m c (line_whose w line) (given_in (served_steps line w)))

    at : (b : Bool) → map item_of (which (is_input m c) es) ≡ said → map item_of (cond b (record { whose = line_whose w line; item = Ran line } ∷ which (is_input m c) es) (which (is_input m c) es)) ≡ cond b (Ran line ∷ said) said
    at true rest = ap (λ is. Ran line ∷ is) rest
    at false rest = rest

-- what each line of a circle's run owes
abbrev pub Keeps : {S : Type 0} → Player S → (World → S → Type 0) → (ScriptLine → Bool) → Group → ℕ → (Birth → Bool) → Type 0
Keeps {S} p Stands ok m c outer =
    (w : World) (v : S) (line : ScriptLine) → Stands w v → HasFineRows m c w → HasFineRows m c (served_step w line).world → HasViewsApart m c outer w → HasViewsApart m c outer (served_step w line).world → is_fine_line m c w line ≡ true → IsApartAt m c outer w line → ok line ≡ true
    → Played p Stands m c w v line

-- every line that says something is as it must be
abbrev pub are_ok : (ScriptLine → Bool) → List (Option ScriptLine) → Bool
are_ok ok [] = true
are_ok ok (None ∷ later) = are_ok ok later
are_ok ok (Some line ∷ later) = ok line && are_ok ok later

head-fine : (m : Group) (c : ℕ) (outer : Birth → Bool) (w : World) (lines : List (Option ScriptLine)) → IsBareCircle m c outer w lines → HasFineRows m c w × HasViewsApart m c outer w
head-fine m c outer w [] is = is
head-fine m c outer w (None ∷ later) is = head-fine m c outer w later is
head-fine m c outer w (Some line ∷ later) is = (is.0, is.1)

joined : (xs ys zs : List Item) → (xs ++ ys) ++ zs ≡ xs ++ (ys ++ zs)
joined [] ys zs = refl
joined (x ∷ xs) ys zs = ap (λ is. x ∷ is) (joined xs ys zs)

-- one line, and then the rest
played-line : {S : Type 0} (p : Player S) (Stands : World → S → Type 0) (m : Group) (c : ℕ) (w : World) (v : S) (line : ScriptLine) (own rest : List Item) → Played p Stands m c w v line → ((v : S) → Stands (served_step w line).world v → own ≡ play p v rest)
    → full_items (alone c) (bare_line_events w line) ++ own ≡ play p v (full_inputs m c (bare_line_events w line) ++ rest)
played-line p Stands m c w v line own rest (hidden h) later =
    let told = told_at m c w line in
    let gave = given_at m c w line in
    let ins : full_inputs m c (bare_line_events w line) ≡ said_at m c w line = line-inputs m c w line ∙ ap (λ b. cond b (Ran line ∷ said_at m c w line) (said_at m c w line)) h.unseen in
    ap (λ is. is ++ own) h.silent ∙ later (absorbed p v told) h.stands ∙ sym (play-gave p (absorbed p v told) gave rest) ∙ sym (play-told p v told (gave_items gave ++ rest))
    ∙ ap (play p v) (sym (joined (told_items told) (gave_items gave) rest)) ∙ ap (λ is. play p v (is ++ rest)) (sym ins)
played-line p Stands m c w v line own rest (visible h) later =
    let told = told_at m c w line in
    let gave = given_at m c w line in
    let items_at : List Item = told_items told ++ (gave_items gave ++ rest) in
    let ins : full_inputs m c (bare_line_events w line) ≡ Ran line ∷ said_at m c w line = line-inputs m c w line ∙ ap (λ b. cond b (Ran line ∷ said_at m c w line) (said_at m c w line)) h.seen in
    ap (λ is. is ++ own) (h.shown rest)
    ∙ ap (λ is. p.shown_at v line items_at ++ is) (later (absorbed p (p.after v line items_at) told) (h.stands rest) ∙ sym (play-gave p (absorbed p (p.after v line items_at) told) gave rest) ∙ sym (play-told p (p.after v line items_at) told (gave_items gave ++ rest)))
    ∙ ap (λ is. play p v (Ran line ∷ is)) (sym (joined (told_items told) (gave_items gave) rest))
    ∙ ap (λ is. play p v (is ++ rest)) (sym ins)

-- the theorem of one run: c's items are a function of the inputs
pub plays : {S : Type 0} (p : Player S) (Stands : World → S → Type 0) (ok : ScriptLine → Bool) (m : Group) (c : ℕ) (outer : Birth → Bool) → Keeps p Stands ok m c outer → (w : World) (v : S) (lines : List (Option ScriptLine)) → Stands w v → IsBareCircle m c outer w lines → are_ok ok lines ≡ true → full_items (alone c) (bare_events w lines) ≡ play p v (full_inputs m c (bare_events w lines))
plays p Stands ok m c outer k w v [] is circle fit = refl
plays p Stands ok m c outer k w v (None ∷ later) is circle fit = plays p Stands ok m c outer k w v later is circle fit
plays p Stands ok m c outer k w v (Some line ∷ later) is circle fit =
    let next = head-fine m c outer (served_step w line).world later circle.4 in
    items-append (alone c) (bare_line_events w line) (bare_events (served_step w line).world later)
    ∙ played-line p Stands m c w v line (full_items (alone c) (bare_events (served_step w line).world later)) (full_inputs m c (bare_events (served_step w line).world later)) (k w v line is circle.0 next.0 circle.1 next.1 circle.2 circle.3 (first-true _ _ fit))
    (λ v is. plays p Stands ok m c outer k (served_step w line).world v later is circle.4 (second-true _ _ fit))
    ∙ ap (play p v) (sym (inputs-append m c (bare_line_events w line) (bare_events (served_step w line).world later)))

-- the law on two scripts
pub isolation : {S : Type 0} (p : Group → ℕ → Player S) (Stands : Group → ℕ → (Birth → Bool) → World → S → Type 0) (start : S) (ok : ScriptLine → Bool) → ((script : List ℕ) → are_ok ok (said_in script) ≡ true) → ((m : Group) (c : ℕ) (outer : Birth → Bool) → m c ≡ true → Keeps (p m c) (Stands m c outer) ok m c outer)
    → ((m : Group) (c : ℕ) (outer : Birth → Bool) → Stands m c outer no_rows start) → BareIsolation
isolation p Stands start ok fit keeps none group c outer other one two c_in circle_one circle_two same =
    let m : Group = members group in
    plays (p m c) (Stands m c outer) ok m c outer (keeps m c outer c_in) no_rows start (said_in one) (none m c outer) circle_one (fit one)
    ∙ ap (play (p m c) start) same
    ∙ sym (plays (p m c) (Stands m c other) ok m c other (keeps m c other c_in) no_rows start (said_in two) (none m c other) circle_two (fit two))
