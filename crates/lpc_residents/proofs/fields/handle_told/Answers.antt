use Rattle.std.proofs.Common.{◌≡◌, true, false, ap, sym, ◌∙◌, Some, is_some}
use Rattle.std.specs.List.{slice_get}
use Rattle.std.specs.Option.{option_and_then, option_map}
use Rattle.lpc_model.specs.Residents.{handle_told}
use Rattle.lpc_model.specs.Slots.{field_lent, value_lent}
use Rattle.lpc_residents.proofs.Places.{first-here, first-past}
use Rattle.lpc_residents.proofs.fields.handle_told.Goals as goal

pub returns-then-is_some : goal.returns-then-is_some
returns-then-is_some c =
    let name : option_map (λ f. f.name) (slice_get c.args.fields.now c.loop-at.at) ≡ Some c.unwrap-name.result = cc in
    let value : option_map (λ f. f.value) (slice_get c.args.fields.now c.loop-at.at) ≡ Some (value_lent c.unwrap-value.result) = sym c.value.ensures ∙ ap (option_map value_lent) c.unwrap-value.ensures in
    let told : c.handle_in-told.result ≡ handle_told (field_lent c.unwrap-name.result c.unwrap-value.result) = c.handle_in-told.ensures in
    let passes : is_some (handle_told (field_lent c.unwrap-name.result c.unwrap-value.result)) ≡ true = cc in
    told ∙ ap (option_and_then handle_told) (first-here (λ field. is_some (handle_told field)) c.args.fields.now c.loop-at.at c.unwrap-name.result c.unwrap-value.result name value c.loop-at.invariant passes)

pub loop-at-preserved : goal.loop-at-preserved
loop-at-preserved c =
    let name : option_map (λ f. f.name) (slice_get c.args.fields.now c.loop-at.at) ≡ Some c.unwrap-name.result = cc in
    let value : option_map (λ f. f.value) (slice_get c.args.fields.now c.loop-at.at) ≡ Some (value_lent c.unwrap-value.result) = sym c.value.ensures ∙ ap (option_map value_lent) c.unwrap-value.ensures in
    let told : c.handle_in-told.result ≡ handle_told (field_lent c.unwrap-name.result c.unwrap-value.result) = c.handle_in-told.ensures in
    let fails : is_some (handle_told (field_lent c.unwrap-name.result c.unwrap-value.result)) ≡ false = cc in
    first-past (λ field. is_some (handle_told field)) c.args.fields.now c.loop-at.at c.unwrap-name.result c.unwrap-value.result name value c.loop-at.invariant fails
