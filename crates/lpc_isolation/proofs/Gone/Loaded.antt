-- How many bytes the sections of a process have that something counts for: in a view of c as in the world, and where rows that
-- nothing names have gone.
use Rattle.std.proofs.Common.{◌≡◌, ℕ, List, [], ◌∷◌, Bool, true, false, not, map, refl, ap, ◌∙◌, arith, Option, Some, None}
use Rattle.std.specs.Prelude.{◌==◌, ◌&&◌}
use Rattle.std.specs.List.{sum}
use Rattle.std.proofs.lemmas.Bool.{eqb-true}
use Rattle.lpc_base.specs.Rows.{count, every, which}
use Rattle.lpc_base.proofs.Births.{birth-same}
use Rattle.lpc_base.proofs.Bools.{first-true, second-true}
use Rattle.lpc_base.proofs.RowWords.{count-none, every-more}
use Rattle.lpc_model.specs.declared.entry.ObjectKind.{ObjectKind}
use Rattle.lpc_model.specs.declared.entry.ObjectKind.TheVariants as kind
use Rattle.lpc_model.specs.World.{Birth, HandleRow, HandleTable, SectionRow, ViewRow, ViewTable, World, WaitRow, Offer}
use Rattle.lpc_model.specs.Found.{all_handles, all_views, handle_count, same_birth, same_kind, same_object, section_name, shows_section, offers_section, offer_of}
use Rattle.lpc_model.specs.Memory.{is_section_of}
use Rattle.lpc_model.specs.Circle.{Group}
use Rattle.lpc_model.proofs.Steps.Registrations.{every-each}
use Rattle.lpc_model.proofs.Steps.Rows.{has-off}
use Rattle.lpc_isolation.proofs.Gone.Counted.{standing-view}
use Rattle.lpc_isolation.proofs.Gone.Served.{is_standing_section, standing_count, standing_load}
use Rattle.lpc_isolation.proofs.Gone.Thin.{Alive, Closed, alive_as, handle_closed, section_alive, space_closed, table_closed, thin, view_closed, offer_alive, wait_closed}
use Rattle.lpc_isolation.proofs.Rows.Fair.{Fair}
use Rattle.lpc_isolation.proofs.Views.Alone.{HasFineRows}
use Rattle.lpc_isolation.proofs.Views.View.{our_section, view}

abbrev total : List SectionRow → ℕ
total ss = sum (map (λ (s : SectionRow). s.size) ss)

-- In a view of c
picked : {X : Type 0} (p k f g : X → Bool) → ((x : X) → p x ≡ true → k x ≡ true) → ((x : X) → p x ≡ true → f x ≡ g x) → (xs : List X) → which (λ x. p x && f x) (which k xs) ≡ which (λ x. p x && g x) xs
picked p k f g inside same [] = refl
picked p k f g inside same (x ∷ xs) = grind (arith, inside x, same x, picked p k f g inside same xs)

pub load-view : (m : Group) (c : ℕ) (w : World) → m c ≡ true → Fair m c w → HasFineRows m c w → standing_load (view m w) c ≡ standing_load w c
load-view m c w c_in f fine = ap total (picked (is_section_of c) (our_section m) (is_standing_section (view m w)) (is_standing_section w)
    (λ s is. ap m (eqb-true s.birth.process c is) ∙ c_in)
    (λ s is. ap (λ n. not (n == 0)) (standing-view m c w (section_name s.birth) c_in (eqb-true s.birth.process c is) f fine)) w.sections)

-- Where rows have gone: nothing counts for a section that has
other-object : (k : Alive) (b : Birth) → k.sections b ≡ false → (s : ObjectKind) (x : Birth) → alive_as k s x ≡ true → not (same_kind s kind.Section && same_birth x b) ≡ true
other-object k b dead kind.Section x live = at (same_birth x b) refl
  where
    at : (e : Bool) → same_birth x b ≡ e → not (true && e) ≡ true
    at true is = let same : k.sections x ≡ k.sections b = ap k.sections (birth-same x b is) in absurd (cc)
    at false off = refl
other-object k b dead kind.Port x live = refl
other-object k b dead kind.Token x live = refl
other-object k b dead kind.Process x live = refl
other-object k b dead kind.Thread x live = refl

no-handle : (k : Alive) (u : World) (b : Birth) → k.sections b ≡ false → Closed k u → handle_count u (section_name b) ≡ 0
no-handle k u b dead c =
    let off : HandleRow → Bool = λ h. not (same_object h.object (section_name b)) in
    let all : every off (all_handles u) ≡ true = every-each off (λ (t : HandleTable). t.rows) u.handles
    ∙ every-more (table_closed k) (λ t. every off t.rows) (λ t is. every-more (handle_closed k) off (λ h live. other-object k b dead h.object.kind h.object.birth live) t.rows is) u.handles c.tables in
    count-none (λ h. same_object h.object (section_name b)) (all_handles u) (has-off (λ h. same_object h.object (section_name b)) (all_handles u) all)

no-view : (k : Alive) (u : World) (b : Birth) → k.sections b ≡ false → Closed k u → count (shows_section b) (all_views u) ≡ 0
no-view k u b dead c =
    let off : ViewRow → Bool = λ v. not (shows_section b v) in
    let all : every off (all_views u) ≡ true = every-each off (λ (t : ViewTable). t.rows) u.views
    ∙ every-more (space_closed k) (λ t. every off t.rows) (λ t is. every-more (view_closed k) off (λ v live. other-object k b dead kind.Section v.section (first-true _ _ live)) t.rows is) u.views c.views in
    count-none (shows_section b) (all_views u) (has-off (shows_section b) (all_views u) all)

no-offer : (k : Alive) (u : World) (b : Birth) → k.sections b ≡ false → Closed k u → count (offers_section b) u.waits ≡ 0
no-offer k u b dead c = count-none (offers_section b) u.waits (has-off (offers_section b) u.waits (every-more (wait_closed k) (λ x. not (offers_section b x)) (λ x live. off x (offer_of x) refl (second-true (k.ports x.port) _ live)) u.waits c.waits))
  where
    off : (x : WaitRow) (o : Option Offer) → offer_of x ≡ o → offer_alive k (offer_of x) ≡ true → not (offers_section b x) ≡ true
    off x None its live = rw its refl
    off x (Some o) its live = rw its (other-object k b dead kind.Section o.section (rw its at live))

none-stands : (k : Alive) (u : World) (b : Birth) → k.sections b ≡ false → Closed k u → standing_count u (section_name b) ≡ 0
none-stands k u b dead c = rw (no-handle k u b dead c, no-view k u b dead c, no-offer k u b dead c) refl

left : {X : Type 0} (p k f g : X → Bool) → ((x : X) → k x ≡ true → f x ≡ g x) → ((x : X) → k x ≡ false → g x ≡ false) → (xs : List X) → which (λ x. p x && f x) (which k xs) ≡ which (λ x. p x && g x) xs
left p k f g same gone [] = refl
left p k f g same gone (x ∷ xs) = grind (arith, same x, gone x, left p k f g same gone xs)

pub load-thin : (k : Alive) (u : World) (pid : ℕ) → Closed k u → standing_load (thin k u) pid ≡ standing_load u pid
load-thin k u pid c = ap total (left (is_section_of pid) (section_alive k) (is_standing_section (thin k u)) (is_standing_section u)
    (λ s live. refl)
    (λ s dead. ap (λ n. not (n == 0)) (none-stands k u s.birth dead c)) u.sections)
