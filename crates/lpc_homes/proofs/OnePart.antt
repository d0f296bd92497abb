-- The part of a process: where it stands, and what a change of it leaves.
use Rattle.std.proofs.Common.{◌≡◌, ◌+◌, ◌-◌, ℕ, true, false, cond, refl, ap, sym, ◌∙◌, arith, List, [], ◌∷◌, ◌++◌, get_or, length, set, Option, Some, None}
use Rattle.std.specs.Prelude.{is_some, ◌==◌, Result, Ok, Err, IfNone, IfOk, IfSome, OnOk, OnSome}
use Rattle.std.specs.List.{position}
use Rattle.std.proofs.lemmas.Bool.Decides.{nat_tests}
use Rattle.lpc_base.specs.Rows.{change, first, has, without, without_first}
use Rattle.lpc_base.proofs.Differ.{IsRowAt, row-at, set-change}
use Rattle.lpc_base.proofs.Positions.{none_first}
use Rattle.lpc_base.proofs.RowMaps.{some-map}
use Rattle.lpc_base.proofs.RowWords.{length-without_first}
use Rattle.lpc_handles.specs.Handles as handles
use Rattle.lpc_handles.specs.Handles.{Handles, with_row}
use Rattle.lpc_handles.specs.declared.table.Row.{Row}
use Rattle.lpc_handles.specs.declared.table.TableFault.{TableFault}
use Rattle.lpc_homes.specs.Parts.{are_single_parts, closed, emptied, handed, is_part, mapped, roomed, spare_at, spare_in, unmapped, view_room_at, view_room_in, view_roomed}
use Rattle.lpc_homes.specs.declared.object.Object.{Object}
use Rattle.lpc_homes.specs.declared.parts.Part.{Part}
use Rattle.lpc_slots.specs.declared.Key.{Key}
use Rattle.lpc_views.specs.Views.{Views, holds, lies_at, view_at}
use Rattle.lpc_views.specs.declared.view.MapFault.{MapFault}
use Rattle.lpc_views.specs.declared.view.View.{View}

abbrev process : Part → ℕ
process part = part.process

-- a part that is found at its place
abbrev pub IsAt : (parts : List Part) (pid index : ℕ) (part : Part) → Type 0
IsAt = IsRowAt process

pub part_is : (parts : List Part) (pid index : ℕ) (part : Part) → position (is_part pid) parts ≡ Some index → part ≡ get_or parts index part → IsAt parts pid index part
part_is = row-at process

pub no_place : (parts : List Part) (pid : ℕ) → has (is_part pid) parts ≡ true → position (is_part pid) parts ≡ None → ⊥
no_place parts pid there none =
    let no : has (is_part pid) parts ≡ false = ap is_some (none_first (is_part pid) parts none) in
    absurd (cc)

-- what the process's part is after a change
pub first_changed : (f : Part → Part) → ((part : Part) → (f part).process ≡ part.process) → (parts : List Part) (pid : ℕ) (part : Part) → first (is_part pid) parts ≡ Some part → first (is_part pid) (change (is_part pid) f parts) ≡ Some (f part)
first_changed f keeps [] pid part is = absurd (cc)
first_changed f keeps (head ∷ parts) pid part is =
    elim (is_part pid head) as (λ b. is_part pid head ≡ b → first (is_part pid) (change (is_part pid) f (head ∷ parts)) ≡ Some (f part)) [
      | true ↦ λ here. let same : head ≡ part = grind arith in grind (arith, keeps head, same, ap f same)
      | false ↦ λ off. grind (arith, first_changed f keeps parts pid part)
    ] refl

-- another process's part stays
pub first_other : (f : Part → Part) → ((part : Part) → (f part).process ≡ part.process) → (parts : List Part) (pid other : ℕ) → (other == pid) ≡ false → first (is_part other) (change (is_part pid) f parts) ≡ first (is_part other) parts
first_other f keeps [] pid other off = refl
first_other f keeps (head ∷ parts) pid other off =
    elim (is_part pid head) as (λ b. is_part pid head ≡ b → first (is_part other) (change (is_part pid) f (head ∷ parts)) ≡ first (is_part other) (head ∷ parts)) [
      | true ↦ λ here. grind (arith, keeps head, nat_tests, first_other f keeps parts pid other)
      | false ↦ λ there. grind (arith, first_other f keeps parts pid other)
    ] refl

-- One more handle in the part of a process
pub handed_part : (parts : List Part) (pid index : ℕ) (part : Part) (row : Row Object) (r : Result ℕ TableFault) (new : Handles Object) → are_single_parts parts ≡ true → IsAt parts pid index part
    → IfOk r (λ v. new.rows ≡ with_row part.handles.rows v row) → OnOk r (new.spare + 1 ≡ part.handles.spare)
    → IfOk r (λ v. set parts index (record part { handles = new }) ≡ change (is_part pid) (handed v row) parts)
handed_part parts pid index part row (Err e) new one at rows spare = tt
handed_part parts pid index part row (Ok v) new one at rows spare =
    let less : new.spare ≡ part.handles.spare - 1 = omega (arith, spare) in
    let same : new ≡ (handed v row part).handles = λ i. record { rows = rows i; spare = less i } in
    ap (λ (h : Handles Object). set parts index (record part { handles = h })) same
    ∙ set-change process (handed v row) parts index pid part one at.here at.own

-- A handle less in the part of a process, where it has one of the value
closed_spare : (value spare : ℕ) (part : Part) (r : Option (Row Object)) → r ≡ handles.at part.handles.rows value → OnSome r (spare ≡ part.handles.spare + 1) → IfNone r (spare ≡ part.handles.spare)
    → spare ≡ cond (has (handles.has_value value) part.handles.rows) (part.handles.spare + 1) part.handles.spare
closed_spare value spare part r at more same =
    by_result r more same
    ∙ ap (λ b. cond b (part.handles.spare + 1) part.handles.spare) (ap is_some at ∙ some-map (λ (row : ℕ × Row Object). row.1) (first (handles.has_value value) part.handles.rows))
  where
    by_result : (o : Option (Row Object)) → OnSome o (spare ≡ part.handles.spare + 1) → IfNone o (spare ≡ part.handles.spare) → spare ≡ cond (is_some o) (part.handles.spare + 1) part.handles.spare
    by_result None a b = b
    by_result (Some row) a b = a

none_same : (r : Option (Row Object)) (new old : Handles Object) → IfNone r (new ≡ old) → IfNone r (new.spare ≡ old.spare)
none_same None new old same = ap (λ (h : Handles Object). h.spare) same
none_same (Some row) new old same = tt

pub closed_part : (parts : List Part) (pid index value : ℕ) (part : Part) (r : Option (Row Object)) (new : Handles Object) → are_single_parts parts ≡ true → IsAt parts pid index part
    → r ≡ handles.at part.handles.rows value → new.rows ≡ without_first (handles.has_value value) part.handles.rows → OnSome r (new.spare ≡ part.handles.spare + 1) → IfNone r (new ≡ part.handles)
    → set parts index (record part { handles = new }) ≡ change (is_part pid) (closed value) parts
closed_part parts pid index value part r new one at found rows more kept =
    let spare = closed_spare value new.spare part r found more (none_same r new part.handles kept) in
    let same : new ≡ (closed value part).handles = λ i. record { rows = rows i; spare = spare i } in
    ap (λ (h : Handles Object). set parts index (record part { handles = h })) same
    ∙ set-change process (closed value) parts index pid part one at.here at.own

-- more room in the part of a process
pub record IsRoomed (parts after : List Part) (pid spare : ℕ) : Type 0 where
  pub parts_are : after ≡ change (is_part pid) (roomed spare) parts
  pub spare_is : spare_at after pid ≡ spare

pub roomed_part : (parts : List Part) (pid index : ℕ) (part : Part) (new : Handles Object) → are_single_parts parts ≡ true → IsAt parts pid index part → new.rows ≡ part.handles.rows
    → IsRoomed parts (set parts index (record part { handles = new })) pid new.spare
roomed_part parts pid index part new one at rows =
    let same : new ≡ (roomed new.spare part).handles = λ i. record { rows = rows i; spare = new.spare } in
    let parts_are : set parts index (record part { handles = new }) ≡ change (is_part pid) (roomed new.spare) parts =
    ap (λ (h : Handles Object). set parts index (record part { handles = h })) same
    ∙ set-change process (roomed new.spare) parts index pid part one at.here at.own in
    record {
      parts_are = parts_are;
      spare_is = ap (λ ps. spare_at ps pid) parts_are ∙ ap spare_in (first_changed (roomed new.spare) (λ p. refl) parts pid part at.is_first);
    }

-- Views
-- other views in the part of a process
viewed_part : (parts : List Part) (pid index : ℕ) (part : Part) (f : Part → Part) (new : Views Key) → are_single_parts parts ≡ true → IsAt parts pid index part → ((p : Part) → (f p).process ≡ p.process) → new ≡ (f part).views → record part { views = (f part).views } ≡ f part
    → set parts index (record part { views = new }) ≡ change (is_part pid) f parts
viewed_part parts pid index part f new one at keeps same whole =
    ap (λ (v : Views Key). set parts index (record part { views = v })) same
    ∙ ap (set parts index) whole
    ∙ set-change process f parts index pid part one at.here at.own

-- more room for views in it
pub record IsViewRoomed (parts after : List Part) (pid spare : ℕ) : Type 0 where
  pub parts_are : after ≡ change (is_part pid) (view_roomed spare) parts
  pub spare_is : view_room_at after pid ≡ spare

pub view_roomed_part : (parts : List Part) (pid index : ℕ) (part : Part) (new : Views Key) → are_single_parts parts ≡ true → IsAt parts pid index part → new.views ≡ part.views.views
    → IsViewRoomed parts (set parts index (record part { views = new })) pid new.spare
view_roomed_part parts pid index part new one at rows =
    let same : new ≡ (view_roomed new.spare part).views = λ i. record { views = rows i; spare = new.spare } in
    let parts_are = viewed_part parts pid index part (view_roomed new.spare) new one at (λ p. refl) same refl in
    record {
      parts_are = parts_are;
      spare_is = ap (λ ps. view_room_at ps pid) parts_are ∙ ap view_room_in (first_changed (view_roomed new.spare) (λ p. refl) parts pid part at.is_first);
    }

-- one more view in it
pub mapped_part : (parts : List Part) (pid index : ℕ) (part : Part) (r : Result (View Key) MapFault) (new : Views Key) → are_single_parts parts ≡ true → IsAt parts pid index part
    → IfOk r (λ v. new.views ≡ part.views.views ++ v ∷ []) → OnOk r (new.spare + 1 ≡ part.views.spare)
    → IfOk r (λ v. set parts index (record part { views = new }) ≡ change (is_part pid) (mapped v) parts)
mapped_part parts pid index part (Err e) new one at rows spare = tt
mapped_part parts pid index part (Ok v) new one at rows spare =
    let less : new.spare ≡ part.views.spare - 1 = omega (arith, spare) in
    let same : new ≡ (mapped v part).views = λ i. record { views = rows i; spare = less i } in
    viewed_part parts pid index part (mapped v) new one at (λ p. refl) same refl

-- a view less in it
pub unmapped_part : (parts : List Part) (pid index : ℕ) (part : Part) (r : Option (View Key)) (new : Views Key) → are_single_parts parts ≡ true → IsAt parts pid index part
    → IfSome r (λ v. new.views ≡ without (lies_at v.base) part.views.views) → OnSome r (new.spare ≡ part.views.spare + 1)
    → IfSome r (λ v. set parts index (record part { views = new }) ≡ change (is_part pid) (unmapped v.base) parts)
unmapped_part parts pid index part None new one at rows spare = tt
unmapped_part parts pid index part (Some v) new one at rows spare =
    let same : new ≡ (unmapped v.base part).views = λ i. record { views = rows i; spare = spare i } in
    viewed_part parts pid index part (unmapped v.base) new one at (λ p. refl) same refl

pub fewer_views : (address : ℕ) (part : Part) (r : Option (View Key)) (new : Views Key) → r ≡ view_at part.views.views address → IfSome r (λ v. new.views ≡ without (lies_at v.base) part.views.views) → new.views ≡ without_first (holds address 1) part.views.views
    → IfSome r (λ v. length (without (lies_at v.base) part.views.views) + 1 ≡ length part.views.views)
fewer_views address part None new found rows one = tt
fewer_views address part (Some v) new found rows one =
    let less = length-without_first (holds address 1) part.views.views v (sym found) in
    let same : length (without (lies_at v.base) part.views.views) ≡ length (without_first (holds address 1) part.views.views) = ap length (sym rows ∙ one) in
    omega (arith, less, same)

-- no view in it
pub emptied_part : (parts : List Part) (pid index : ℕ) (part : Part) (new : Views Key) → are_single_parts parts ≡ true → IsAt parts pid index part
    → new.views ≡ [] → new.spare ≡ part.views.spare + length part.views.views
    → set parts index (record part { views = new }) ≡ change (is_part pid) emptied parts
emptied_part parts pid index part new one at rows spare =
    let same : new ≡ (emptied part).views = λ i. record { views = rows i; spare = spare i } in
    viewed_part parts pid index part emptied new one at (λ p. refl) same refl
