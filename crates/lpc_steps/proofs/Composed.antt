-- Steps one behind the other: what the second leave of what the first left is what both leave.
use Rattle.std.proofs.Common.{◌≡◌, ◌∙◌, List, [], ◌∷◌, ◌++◌, Bool, append_assoc, refl, ap}
use Rattle.std.proofs.lemmas.List.{append-nil}
use Rattle.std.specs.Prelude.{◌||◌}
use Rattle.lpc_model.specs.declared.entry.Entry.{Entry}
use Rattle.lpc_model.specs.Basics.{Basic, Steps, basic, entries_of, told, world_after, ◌▹◌}
use Rattle.lpc_model.specs.Listed.{Listed}
use Rattle.lpc_model.specs.Sweep.{loosened, loosens}
use Rattle.lpc_model.specs.World.{World}
use Rattle.lpc_model.proofs.Steps.InTurn.{after-append, entries-append}
use Rattle.lpc_rows.specs.Does.{Left, Took, left_by}
use Rattle.lpc_rows.specs.Kept.{Kept}

pub loosened-append : (loose : Bool) (bs cs : List Basic) → loosened loose (bs ++ cs) ≡ loosened (loosened loose bs) cs
loosened-append loose [] cs = refl
loosened-append loose (b ∷ bs) cs = loosened-append (loosens b || loose) bs cs

-- what a list of steps leaves, taken in two parts
pub left-append : (w : World) (es : List Entry) (loose : Bool) (bs cs : List Basic)
    → left_by (world_after w bs) (es ++ entries_of bs) (loosened loose bs) cs ≡ left_by w es loose (bs ++ cs)
left-append w es loose bs cs =
    rw (after-append w bs cs, entries-append bs cs, loosened-append loose bs cs, ← append_assoc es (entries_of bs) (entries_of cs)) refl

-- what the second steps leave behind the first ones
abbrev pub left_further : Left → Steps → Left
left_further l g = left_by l.world l.entries l.loose (g l.world)

pub left-then : (w : World) (es : List Entry) (loose : Bool) (f g : Steps) → left_further (left_by w es loose (f w)) g ≡ left_by w es loose ((f ▹ g) w)
left-then w es loose f g = left-append w es loose (f w) (g (world_after w (f w)))

-- where steps were taken, and then others in the world that they left, both were taken one after the other
pub took-then : (f g : Steps) (old mid new : Kept) (before between after : Listed)
    → Took (f old.rows) old mid before between → Took (g mid.rows) mid new between after → Took ((f ▹ g) old.rows) old new before after
took-then f g old mid new before between after one two =
    two ∙ ap (λ (l : Left). left_further l g) one ∙ left-then old.rows before.list old.loose f g

-- one basic step was taken, which tells nothing
pub took-one : (b : Basic) (old new : Kept) (out : Listed) → told b ≡ [] → new.rows ≡ basic old.rows b → new.loose ≡ (loosens b || old.loose) → Took (b ∷ []) old new out out
took-one b old new out silent rows loose = rw (rows, loose, silent, append-nil out.list) refl
