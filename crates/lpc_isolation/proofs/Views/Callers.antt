-- What every call's proof needs of its caller.
use Rattle.std.proofs.Common.{◌≡◌, ℕ, List, [], true, false, Some, refl, ap, sym, subst, ◌∙◌, arith, Bool, cond, map, None, Option, ◌∷◌, not}
use Rattle.std.specs.Prelude.{◌==◌, Result, Ok, Err, ◌||◌}
use Rattle.std.proofs.lemmas.Bool.{eqb-true, false_from_ne_true}
use Rattle.lpc_base.specs.Rows.{which, each, every, has}
use Rattle.lpc_base.specs.declared.status.Status.{Status}
use Rattle.lpc_base.proofs.Bools.{second-true, first-true}
use Rattle.lpc_model.specs.declared.entry.CallName.{CallName}
use Rattle.lpc_model.specs.declared.entry.Entry.TheVariants as entry
use Rattle.lpc_model.specs.declared.entry.Field.{Field}
use Rattle.lpc_model.specs.World.{ThreadRow, WaitRow, World, Birth, ViewRow, ViewTable}
use Rattle.lpc_model.specs.Found.{is_thread, is_owned_by, is_the, same_birth}
use Rattle.lpc_model.specs.Basics.{Basic, entries_of, world_after, DropsOwned}
use Rattle.lpc_model.specs.Tests.{handle_load, handles_test, is_connect_of}
use Rattle.lpc_model.specs.Then.{◌>>=◌}
use Rattle.lpc_model.proofs.Calls.Holding.{Holds}
use Rattle.lpc_model.proofs.Steps.Rows.{has-append}
use Rattle.lpc_model.specs.Circle.{Group, Whose, owner}
use Rattle.lpc_isolation.proofs.Views.Alone.{alone}
use Rattle.lpc_isolation.proofs.Views.Filters.{first-nowhere, which-where, shown}
use Rattle.lpc_isolation.proofs.Views.View.{our_thread, our_wait, view, of_birth, our_space, seen_space, seen_view}
use Rattle.lpc_isolation.proofs.Views.Basics.{are_ours, run-ours, sees_thread, owner-same, sees}
use Rattle.lpc_isolation.proofs.Rows.Fair.{Fair, is_fair_wait, is_homed, is_fair_space, is_fair_view}
use Rattle.lpc_isolation.proofs.Views.Seen.{handles-view, homed-number}
use Rattle.lpc_isolation.proofs.Views.Apart.{heard, is_heard}

-- what a caller in a world is told is its process's, as the numbers of threads stand in a world
pub tells-apart : (m : Group) (u : World) (d : Whose) (tid pid : ℕ) (call : CallName) (status : Status) (fields : List Field) → owner u tid ≡ Some pid → m pid ≡ false → is_heard m u d (entry.Answer tid call status fields) ≡ false
tells-apart m u d tid pid call status fields own out = rw own out

-- an outsider's thread has no row in the view
homed-same : (w : World) (tid pid : ℕ) (t : ThreadRow) → owner w tid ≡ Some pid → is_homed w.used_threads t ≡ true → is_thread tid t ≡ true → t.process ≡ pid
homed-same w tid pid t own homed is =
    let same : Some t.process ≡ Some pid = sym (homed-number w tid t homed (eqb-true _ _ is)) ∙ own in cc

pub unseen-thread : (m : Group) (c : ℕ) (w : World) (tid pid : ℕ) → Fair m c w → owner w tid ≡ Some pid → m pid ≡ false → sees_thread m w tid ≡ false
unseen-thread m c w tid pid f own out =
    rw (first-nowhere (is_homed w.used_threads) (our_thread m) (is_thread tid) (λ t homed is. ap m (homed-same w tid pid t own homed is) ∙ out) w.threads f.threads) refl

-- an outsider's port owns no view that is seen
out-owner : (m : Group) (c : ℕ) (b : Birth) (pid : ℕ) (v : ViewRow) → m b.process ≡ false → m pid ≡ true → is_fair_view m c pid v ≡ true → is_owned_by b v ≡ false
out-owner m c b pid v out inside fair = at v.owner refl
  where
    at : (o : Option Birth) → v.owner ≡ o → is_the b o ≡ false
    at None none = refl
    at (Some d) some = false_from_ne_true (same_birth b d) (λ is.
        let home : (d.process == pid) ≡ true = rw some at (second-true (not (v.section.process == c) || m pid) _ (second-true (not (pid == c) || m v.section.process) _ fair)) in
        let same : m b.process ≡ m pid = of_birth m b d is ∙ ap m (eqb-true d.process pid home) in cc)

out-rows : (m : Group) (c : ℕ) (b : Birth) (pid : ℕ) → m b.process ≡ false → m pid ≡ true → (vs : List ViewRow) → every (is_fair_view m c pid) vs ≡ true → has (is_owned_by b) (map (seen_view m) vs) ≡ false
out-rows m c b pid out inside [] all = refl
out-rows m c b pid out inside (v ∷ vs) all =
    let off : is_owned_by b (seen_view m v) ≡ false = owner-same m b v ∙ out-owner m c b pid v out inside (first-true _ _ all) in
    rw off (out-rows m c b pid out inside vs (second-true (is_fair_view m c pid v) _ all))

out-tables : (m : Group) (c : ℕ) (b : Birth) → m b.process ≡ false → (ts : List ViewTable) → every (is_fair_space m c) ts ≡ true → has (is_owned_by b) (each (λ (t : ViewTable). t.rows) (shown (our_space m) (seen_space m) ts)) ≡ false
out-tables m c b out [] all = refl
out-tables m c b out (t ∷ ts) all = at (m t.process) refl (out-tables m c b out ts (second-true (is_fair_space m c t) _ all))
  where
    kept : List ViewRow
    kept = each (λ (t : ViewTable). t.rows) (shown (our_space m) (seen_space m) ts)

    at : (e : Bool) → m t.process ≡ e → has (is_owned_by b) kept ≡ false → has (is_owned_by b) (each (λ (t : ViewTable). t.rows) (map (seen_space m) (cond e (t ∷ which (our_space m) ts) (which (our_space m) ts)))) ≡ false
    at true inside none = has-append (is_owned_by b) (map (seen_view m) t.rows) kept ∙ rw (out-rows m c b t.process out inside t.rows (first-true _ _ all), none) refl
    at false off none = none

pub unseen-owned : (m : Group) (c : ℕ) (w : World) (b : Birth) → Fair m c w → m b.process ≡ false → sees m w (DropsOwned b) ≡ false
unseen-owned m c w b f out = out-tables m c b out w.views f.views

-- c's waits are in the view
pub c-wait : (m : Group) (c : ℕ) (x : WaitRow) → m c ≡ true → is_fair_wait m c x ≡ true → (x.process == c) ≡ true → our_wait m x ≡ true
c-wait m c x c_in fair is = let mine : m x.process ≡ true = ap m (eqb-true _ _ is) ∙ c_in in grind arith

-- c's handles are counted alike
load-view : (m : Group) (c : ℕ) (w : World) → m c ≡ true → Fair m c w → handle_load (view m w) c ≡ handle_load w c
load-view m c w c_in f =
    let waits : which (is_connect_of c) (view m w).waits ≡ which (is_connect_of c) w.waits = which-where (is_fair_wait m c) (our_wait m) (is_connect_of c) (λ x fair is. c-wait m c x c_in fair (second-true _ _ is)) w.waits f.waits in
    rw (handles-view m w c c_in, waits) refl

pub handles_test-view : (m : Group) (c : ℕ) (w : World) (more : ℕ) → m c ≡ true → Fair m c w → handles_test (view m w) c more ≡ handles_test w c more
handles_test-view m c w more c_in f = rw (load-view m c w c_in f) refl

-- What a member's line does, by steps that may be those of the view alone
pub record Led (m : Group) (c : ℕ) (u : World) (d : Whose) (w : World) (bs led : List Basic) : Type 0 where
  pub world : view m (world_after w bs) ≡ world_after (view m w) led
  pub told : heard (alone c) u d (entries_of bs) ≡ heard (alone c) u d (entries_of led)

-- the same steps
pub led-same : (m : Group) (c : ℕ) (u : World) (d : Whose) (w : World) (bs : List Basic) → are_ours m w bs ≡ true → Led m c u d w bs bs
led-same m c u d w bs ours = record { world = run-ours m w bs ours; told = refl }

-- two results: refused alike, or what they give stands in a relation
abbrev pub Answered : {A : Type 0} → (A → A → Type 0) → Result A Status → Result A Status → Type 0
Answered P (Ok x) (Ok y) = P x y
Answered P (Ok x) (Err t) = ⊥
Answered P (Err s) (Ok y) = ⊥
Answered P (Err s) (Err t) = s ≡ t

pub answered-same : {A : Type 0} (P : A → A → Type 0) (r s : Result A Status) → s ≡ r → Holds (λ x. P x x) r → Answered P r s
answered-same {A} P r s same h = subst (λ s. Answered P r s) (sym same) (at r h)
  where
    at : (r : Result A Status) → Holds (λ x. P x x) r → Answered P r r
    at (Ok x) h = h
    at (Err s) h = refl

pub answered-bind : {A B : Type 0} (P : B → B → Type 0) (r : Result A Status) (f g : A → Result B Status) → ((x : A) → r ≡ Ok x → Answered P (f x) (g x)) → Answered P (r >>= f) (r >>= g)
answered-bind P (Ok x) f g h = h x refl
answered-bind P (Err s) f g h = refl

-- what a result gives, nothing where it is refused
abbrev pub on_ok : {A B : Type 0} → Result A Status → (A → List B) → List B
on_ok (Ok x) f = f x
on_ok (Err s) f = []
