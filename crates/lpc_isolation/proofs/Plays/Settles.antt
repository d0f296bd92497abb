-- A player whose view settles behind a member's line as the world does, but for the waits that outsiders' turns end: the inputs
-- tell which.
use Rattle.std.proofs.Common.{◌≡◌, ℕ, List, [], ◌∷◌, ◌++◌, Bool, true, false, map, refl, ap, sym, subst, ◌∙◌}
use Rattle.std.specs.Prelude.{◌==◌}
use Rattle.std.proofs.lemmas.Bool.{eqb-true}
use Rattle.lpc_base.specs.Rows.{every, has, which, without}
use Rattle.lpc_base.proofs.Bools.{first-true, second-true}
use Rattle.lpc_base.proofs.RowWords.{has-change}
use Rattle.lpc_model.specs.declared.entry.Entry.{Entry}
use Rattle.lpc_model.specs.declared.entry.Entry.TheVariants as entry
use Rattle.lpc_model.specs.declared.entry.ObjectKind.{ObjectKind}
use Rattle.lpc_model.specs.declared.entry.ObjectKind.TheVariants as kind
use Rattle.lpc_model.specs.World.{Birth, WaitRow, World}
use Rattle.lpc_model.specs.Found.{is_mark, waits_as, waits_at}
use Rattle.lpc_model.specs.Basics.{Accepts, Awaits, Basic, Dies, Frees, Leaves, Receives, Wakes, accepted, basic, entries_of, received, world_after}
use Rattle.lpc_model.specs.Settle.{most_turns, settle}
use Rattle.lpc_model.specs.Circle.{Group, Item, Nobody, Whose, entry_whose, thread_whose, told_event}
use Rattle.lpc_model.proofs.Settling.Settled.{settles}
use Rattle.lpc_model.proofs.Settling.Turns.{few}
use Rattle.lpc_isolation.proofs.Views.Alone.{alone}
use Rattle.lpc_isolation.proofs.Views.View.{our_mark, view}
use Rattle.lpc_isolation.proofs.Views.Apart.{absorb, absorb-append, absorb_all, heard}
use Rattle.lpc_isolation.proofs.Rows.Ids.{Numbered}
use Rattle.lpc_isolation.proofs.Endings.Dimmed.{absorbed-swap, dimmed, same-absorbed}
use Rattle.lpc_isolation.proofs.Endings.Guessed.{guess, knows}
use Rattle.lpc_isolation.proofs.Endings.Lasting.{begins_of, has-without, is_end_entry}
use Rattle.lpc_isolation.proofs.Endings.Runs.{Mixed, is_own, said, turns-mixed}
use Rattle.lpc_isolation.proofs.Endings.Spared.{less}
use Rattle.lpc_isolation.proofs.Endings.Turns.{Turning}
use Rattle.lpc_isolation.proofs.Gone.Restful.{no-turn}
use Rattle.lpc_isolation.proofs.Memory.Heard.{Heard as Note, entries_memo, entry_memo, line_memo}
use Rattle.lpc_isolation.proofs.Plays.Lines.{absorbed-done, is_done}
use Rattle.lpc_isolation.proofs.Plays.Play.{Player, absorbed, told_inputs, told_items}
use Rattle.lpc_isolation.proofs.Plays.Stands.{State, played_bytes, played_items, played_view, player}

-- The player
abbrev pub settling : Group → ℕ → World → List Item → List Basic
settling m c v is = settle (less (guess m (is_own c v) is) v)

abbrev pub settled_items : Group → ℕ → World → List Item → List Item
settled_items m c v is = told_items (heard (alone c) v Nobody (entries_of (settling m c v is)))

abbrev pub settler : Group → ℕ → Player State
settler m c = record {
  absorb_at = (player m c).absorb_at;
  after = λ s line is. record { seen = world_after (played_view m c s line is) (settling m c (played_view m c s line is) is); memo = line_memo m c s.seen s.memo line is; bytes = played_bytes m c s line is };
  shown_at = λ s line is. played_items m c s line is ++ settled_items m c (played_view m c s line is) is;
}

pub absorbed-settler : (m : Group) (c : ℕ) (s : State) (es : List Entry) → absorbed (settler m c) s es ≡ absorbed (player m c) s es
absorbed-settler m c s [] = refl
absorbed-settler m c s (e ∷ es) = absorbed-settler m c ((player m c).absorb_at s e) es

-- Whose entries are, is told by the numbers that were used
thread-used : (u v : World) (tid : ℕ) → u.used_threads ≡ v.used_threads → thread_whose u tid ≡ thread_whose v tid
thread-used u v tid same = rw same refl

entry-used : (u v : World) (d : Whose) (e : Entry) → u.used_threads ≡ v.used_threads → entry_whose u d e ≡ entry_whose v d e
entry-used u v d (entry.Answer tid call status fields) same = thread-used u v tid same
entry-used u v d (entry.Waits tid call fields) same = thread-used u v tid same
entry-used u v d (entry.Wakes tid call status fields) same = thread-used u v tid same
entry-used u v d (entry.Busy tid) same = thread-used u v tid same
entry-used u v d (entry.NoThread tid) same = thread-used u v tid same
entry-used u v d (entry.Died tid status) same = thread-used u v tid same
entry-used u v d (entry.Directive word status) same = refl

pub inputs-used : (m : Group) (c : ℕ) (u v : World) (d : Whose) (es : List Entry) → u.used_threads ≡ v.used_threads → told_inputs m c u d es ≡ told_inputs m c v d es
inputs-used m c u v d [] same = refl
inputs-used m c u v d (e ∷ es) same = rw (entry-used u v d e same, inputs-used m c u v d es same) refl

pub events-used : (u v : World) (d : Whose) (es : List Entry) → u.used_threads ≡ v.used_threads → map (told_event u d) es ≡ map (told_event v d) es
events-used u v d [] same = refl
events-used u v d (e ∷ es) same = rw (entry-used u v d e same, events-used u v d es same) refl

-- and those that tell of ends are of no directive
ends-whose : (u : World) (d f : Whose) (e : Entry) → is_end_entry e ≡ true → entry_whose u d e ≡ entry_whose u f e
ends-whose u d f (entry.Wakes tid call status fields) is = refl
ends-whose u d f (entry.Died tid status) is = refl
ends-whose u d f (entry.Answer tid call status fields) is = absurd (cc)
ends-whose u d f (entry.Waits tid call fields) is = absurd (cc)
ends-whose u d f (entry.Busy tid) is = absurd (cc)
ends-whose u d f (entry.NoThread tid) is = absurd (cc)
ends-whose u d f (entry.Directive word status) is = absurd (cc)

pub ends-heard : (g : Group) (u : World) (d f : Whose) (es : List Entry) → every is_end_entry es ≡ true → heard g u d es ≡ heard g u f es
ends-heard g u d f [] is = refl
ends-heard g u d f (e ∷ es) is = rw (ends-whose u d f e (first-true _ _ is), ends-heard g u d f es (second-true (is_end_entry e) _ is)) refl

-- Settling in a play
pub settle-mixed : (m : Group) (c : ℕ) (u : World) (d : Whose) → m c ≡ true → Numbered u → (w : World) (rest : List Item) (o : ℕ → Bool) → Turning m c u w → every (knows m (is_own c u) o (told_items (said m c u d (settle w)) ++ rest)) (view m w).waits ≡ true → Mixed m c u d w (settle w) (settle (less o (view m w)))
unfolding settle
settle-mixed m c u d c_in numbered w rest o k known =
    turns-mixed m c u d c_in numbered (most_turns w) w rest (most_turns (less o (view m w))) o k (no-turn _ (settles w k.ready)) known (few (less o (view m w)))

-- no wait begins but of a thread that waited
begun : (z : World) (n : ℕ) (x : WaitRow) (xs : List WaitRow) → has (waits_as x.thread) z.waits ≡ true → (has (waits_as n) xs ≡ true → has (waits_as n) z.waits ≡ true) → has (waits_as n) (xs ++ x ∷ []) ≡ true → has (waits_as n) z.waits ≡ true
begun z n x [] waits old is = at (x.thread == n) refl is
  where
    at : (b : Bool) → (x.thread == n) ≡ b → has (waits_as n) (x ∷ []) ≡ true → has (waits_as n) z.waits ≡ true
    at true own is = subst (λ k. has (waits_as k) z.waits ≡ true) (eqb-true x.thread n own) waits
    at false off is = let never : false ≡ true = rw off at is in absurd (cc)
begun z n x (y ∷ ys) waits old is = at (waits_as n y) refl old is (begun z n x ys waits)
  where
    at : (b : Bool) → waits_as n y ≡ b → (has (waits_as n) (y ∷ ys) ≡ true → has (waits_as n) z.waits ≡ true) → has (waits_as n) (y ∷ (ys ++ x ∷ [])) ≡ true → ((has (waits_as n) ys ≡ true → has (waits_as n) z.waits ≡ true) → has (waits_as n) (ys ++ x ∷ []) ≡ true → has (waits_as n) z.waits ≡ true) → has (waits_as n) z.waits ≡ true
    at true its old is rest = old (rw its refl)
    at false off old is rest = rest (λ later. old (rw off later)) (let later : has (waits_as n) (ys ++ x ∷ []) ≡ true = rw off at is in later)

freed-waits : (w : World) (k : ObjectKind) (b : Birth) → (basic w (Frees (record { kind = k; birth = b }))).waits ≡ w.waits
freed-waits w kind.Port b = refl
freed-waits w kind.Section b = refl
freed-waits w kind.Token b = refl
freed-waits w kind.Process b = refl
freed-waits w kind.Thread b = refl

step-fewer : (z v : World) (b : Basic) (n : ℕ) → begins_of z b ≡ true → (has (waits_as n) v.waits ≡ true → has (waits_as n) z.waits ≡ true) → has (waits_as n) (basic v b).waits ≡ true → has (waits_as n) z.waits ≡ true
step-fewer z v (Wakes who call status fields) n ok old is = old (has-without (waits_as n) (waits_as who) v.waits is)
step-fewer z v (Leaves who) n ok old is = old (has-without (waits_as n) (waits_as who) v.waits is)
step-fewer z v (Dies who status) n ok old is = old (has-without (waits_as n) (waits_as who) v.waits is)
step-fewer z v (Awaits x) n ok old is = begun z n x v.waits (second-true _ _ ok) old is
step-fewer z v (Receives who queue) n ok old is = old (sym (has-change (waits_as n) (waits_at who queue) received (λ x. refl) v.waits) ∙ is)
step-fewer z v (Accepts who a) n ok old is = old (sym (has-change (waits_as n) (waits_as who) (accepted a) (λ x. refl) v.waits) ∙ is)
step-fewer z v (Frees o) n ok old is = old (subst (λ ws. has (waits_as n) ws ≡ true) (freed-waits v o.kind o.birth) is)
step-fewer z v b n ok old is = old is

pub run-fewer : (z v : World) (bs : List Basic) (n : ℕ) → every (begins_of z) bs ≡ true → (has (waits_as n) v.waits ≡ true → has (waits_as n) z.waits ≡ true) → has (waits_as n) (world_after v bs).waits ≡ true → has (waits_as n) z.waits ≡ true
run-fewer z v [] n ok old is = old is
run-fewer z v (b ∷ bs) n ok old is = run-fewer z (basic v b) bs n (second-true (begins_of z b) _ ok) (λ is. step-fewer z v b n (first-true _ _ ok) old is) is

-- What is remembered of entries one after the other
pub memo-append : (m : Group) (v : World) (memo : List Note) (es fs : List Entry) → entries_memo m v memo (es ++ fs) ≡ entries_memo m (absorb_all v es) (entries_memo m v memo es) fs
memo-append m v memo [] fs = refl
memo-append m v memo (e ∷ es) fs = memo-append m (absorb v e) (entry_memo m v memo e) es fs

-- Two worlds without marks that are the same but for marks
pub undimmed : (a b : World) → dimmed a ≡ dimmed b → a.marks ≡ b.marks → a ≡ b
undimmed a b same marks = ap {A = World} (λ v. record v { marks = a.marks }) same ∙ ap (λ ms. record b { marks = ms }) marks

absorb-marks : (v : World) (es : List Entry) → v.marks ≡ [] → (absorb_all v es).marks ≡ []
absorb-marks v [] none = none
absorb-marks v (entry.Wakes who call status fields ∷ es) none = absorb-marks (absorb v (entry.Wakes who call status fields)) es (ap (without (is_mark who)) none)
absorb-marks v (entry.Answer who call status fields ∷ es) none = absorb-marks v es none
absorb-marks v (entry.Waits who call fields ∷ es) none = absorb-marks v es none
absorb-marks v (entry.Busy who ∷ es) none = absorb-marks v es none
absorb-marks v (entry.NoThread who ∷ es) none = absorb-marks v es none
absorb-marks v (entry.Died who status ∷ es) none = absorb-marks v es none
absorb-marks v (entry.Directive word status ∷ es) none = absorb-marks v es none

-- so the view is the one that is played, where its own steps' entries are settled
pub mixed-view : (m : Group) (c : ℕ) (u : World) (d : Whose) (w : World) (bs led : List Basic) (f : Entry → Bool) (es : List Entry) → Mixed m c u d w bs led → (world_after w bs).marks ≡ [] → every (is_done (world_after w bs)) es ≡ true → view m (world_after w bs) ≡ absorb_all (world_after (view m w) led) (which f es ++ said m c u d bs)
mixed-view m c u d w bs led f es mixed unmarked done = undimmed (view m last) (absorb_all x (which f es ++ told)) same (ap (which (our_mark m last)) unmarked ∙ sym (absorb-marks x (which f es ++ told) mixed.marks))
  where
    last : World
    last = world_after w bs

    x : World
    x = world_after (view m w) led

    told : List Entry
    told = said m c u d bs

    same : dimmed (view m last) ≡ dimmed (absorb_all x (which f es ++ told))
    same =
        ap dimmed (sym (absorbed-done m last f es done))
        ∙ same-absorbed (view m last) (absorb_all x told) (which f es) mixed.seen
        ∙ ap dimmed (absorbed-swap x told (which f es))
        ∙ ap dimmed (sym (absorb-append x (which f es) told))

-- Of lists one of which is empty
pub data HasNone {X Y : Type 0} (xs : List X) (ys : List Y) : Type 0 where
  former : xs ≡ [] → HasNone xs ys
  latter : ys ≡ [] → HasNone xs ys

pub append-nil : {X : Type 0} (xs : List X) → xs ++ [] ≡ xs
append-nil [] = refl
append-nil (x ∷ xs) = ap (λ ys. x ∷ ys) (append-nil xs)

pub none-last : {X : Type 0} (xs ys zs : List X) → HasNone ys zs → (xs ++ ys) ++ zs ≡ (xs ++ zs) ++ ys
none-last xs ys zs (former none) = rw none (ap (λ es. es ++ zs) (append-nil xs) ∙ sym (append-nil (xs ++ zs)))
none-last xs ys zs (latter none) = rw none (append-nil (xs ++ ys) ∙ sym (ap (λ es. es ++ ys) (append-nil xs)))

pub none-swap : {X : Type 0} (xs ys zs : List X) → HasNone xs ys → xs ++ (ys ++ zs) ≡ ys ++ (xs ++ zs)
none-swap xs ys zs (former none) = rw none refl
none-swap xs ys zs (latter none) = rw none refl
