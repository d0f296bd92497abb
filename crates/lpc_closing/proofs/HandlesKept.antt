-- A port that is closed leaves all handles as they are.
use Rattle.std.proofs.Common.{◌≡◌, ◌∙◌, List, [], ◌∷◌, Bool, true, false, Option, Some, None, refl, arith}
use Rattle.lpc_base.specs.Rows.{every, given}
use Rattle.lpc_base.proofs.RowWords.{every-more}
use Rattle.lpc_model.specs.declared.entry.ObjectKind.{ObjectKind}
use Rattle.lpc_model.specs.declared.entry.ObjectKind.TheVariants as kind
use Rattle.lpc_model.specs.World.{Birth, MessageRow, PortRow, World}
use Rattle.lpc_model.specs.Found.{port_row}
use Rattle.lpc_model.specs.Basics.{AddsHandle, AddsProcess, Basic, DropsHandle, DropsOwned, Empties, Frees, Unbinds, Marks, Wakes, Withdraws, basic, freed, world_after}
use Rattle.lpc_model.specs.Close.{close_port, post_closed, closing_post}
use Rattle.lpc_model.specs.Entering.{enter}
use Rattle.lpc_model.proofs.Steps.Closing.{close-pass, stage_five, takes_away}
use Rattle.lpc_model.proofs.Linked.Steps.{is_steady}
use Rattle.lpc_model.proofs.Steps.Steady.{steady-enter}

-- a step that gives and takes no handle
abbrev pub keeps_handles : Basic → Bool
keeps_handles (AddsProcess p) = false
keeps_handles (AddsHandle pid h) = false
keeps_handles (DropsHandle pid value) = false
keeps_handles b = true

pub kept-away : (b : Basic) → takes_away b ≡ true → keeps_handles b ≡ true
kept-away (Wakes who call status fields) is = refl
kept-away (Withdraws who) is = refl
kept-away (Empties q) is = refl
kept-away (Unbinds b) is = refl
kept-away (DropsOwned b) is = refl
kept-away (Marks who) is = refl
kept-away b is = absurd (cc)

kept-steady : (b : Basic) → is_steady b ≡ true → keeps_handles b ≡ true
kept-steady (AddsProcess p) is = absurd (cc)
kept-steady (AddsHandle pid h) is = absurd (cc)
kept-steady (DropsHandle pid value) is = absurd (cc)
kept-steady b is = refl

abbrev pub KeepHandles : List Basic → Type 0
KeepHandles bs = every keeps_handles bs ≡ true

pub kept-given : (w : World) (o : Option MessageRow) → KeepHandles (given o (λ m. enter m w))
kept-given w None = refl
kept-given w (Some m) = every-more is_steady keeps_handles kept-steady (enter m w) (steady-enter m w)

kept-post : (b : Birth) (w : World) → KeepHandles (post_closed b w)
kept-post b w = at (port_row w b)
  where
    at : (o : Option PortRow) → KeepHandles (given o (λ p. given (closing_post w p) (λ m. enter m w)))
    at None = refl
    at (Some p) = kept-given w (closing_post w p)

freed-kept : (w : World) (kind : ObjectKind) (b : Birth) → (freed w kind b).handles ≡ w.handles
freed-kept w kind.Port b = refl
freed-kept w kind.Section b = refl
freed-kept w kind.Token b = refl
freed-kept w kind.Process b = refl
freed-kept w kind.Thread b = refl

kept-step : (w : World) (b : Basic) → keeps_handles b ≡ true → (basic w b).handles ≡ w.handles
kept-step w (AddsProcess p) is = absurd (cc)
kept-step w (AddsHandle pid h) is = absurd (cc)
kept-step w (DropsHandle pid value) is = absurd (cc)
kept-step w (Frees o) is = freed-kept w o.kind o.birth
kept-step w b is = refl

pub kept-all : (w : World) (bs : List Basic) → KeepHandles bs → (world_after w bs).handles ≡ w.handles
kept-all w [] all = refl
kept-all w (b ∷ bs) all =
    let here : keeps_handles b ≡ true = grind arith in
    let later : every keeps_handles bs ≡ true = grind arith in
    kept-all (basic w b) bs later ∙ kept-step w b here

pub handles-kept : (w : World) (b : Birth) → (world_after w (close_port b w)).handles ≡ w.handles
handles-kept w b = kept-all w (close_port b w) (close-pass keeps_handles kept-away b w refl (kept-post b (stage_five w b)))
