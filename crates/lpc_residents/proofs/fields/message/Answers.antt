use Rattle.std.proofs.Common.{◌≡◌, ◌≤◌, true, false, arith, ap, sym, ◌∙◌, length, Some}
use Rattle.std.specs.List.{slice_get}
use Rattle.std.specs.Option.{option_map}
use Rattle.lpc_model.specs.declared.entry.Lent.{Lent}
use Rattle.lpc_model.specs.Listed.{Aside, shown_value}
use Rattle.lpc_model.specs.Residents.{bytes_of_value}
use Rattle.lpc_model.specs.Slots.{field_lent, value_lent}
use Rattle.lpc_residents.specs.Shown.{is_message}
use Rattle.lpc_residents.proofs.Places.{first-here, first-none, first-past}
use Rattle.lpc_residents.proofs.Told.{message-at, message-none}
use Rattle.lpc_residents.proofs.fields.message.Goals as goal

pub returns-in-Bytes : goal.returns-in-Bytes
returns-in-Bytes c =
    let name : option_map (λ f. f.name) (slice_get c.args.fields.now c.loop-at.at) ≡ Some c.unwrap-name.result = cc in
    let value : option_map (λ f. f.value) (slice_get c.args.fields.now c.loop-at.at) ≡ Some (value_lent c.unwrap-value.result) = sym c.value.ensures ∙ ap (option_map value_lent) c.unwrap-value.ensures in
    let passes : is_message (field_lent c.unwrap-name.result c.unwrap-value.result) ≡ true = cc in
    let found = first-here is_message c.args.fields.now c.loop-at.at c.unwrap-name.result c.unwrap-value.result name value c.loop-at.invariant passes in
    λ groups.
    let aside : Aside = record { read = c.args.read.now; groups = groups } in
    c.read.ensures
    ∙ message-at aside c.args.fields.now (field_lent c.unwrap-name.result c.unwrap-value.result) c.in-Bytes.bytes.now found (ap (λ (v : Lent). bytes_of_value (shown_value aside (value_lent v))) c.in-Bytes.is)

pub returns-in-Read : goal.returns-in-Read
returns-in-Read c =
    let name : option_map (λ f. f.name) (slice_get c.args.fields.now c.loop-at.at) ≡ Some c.unwrap-name.result = cc in
    let value : option_map (λ f. f.value) (slice_get c.args.fields.now c.loop-at.at) ≡ Some (value_lent c.unwrap-value.result) = sym c.value.ensures ∙ ap (option_map value_lent) c.unwrap-value.ensures in
    let passes : is_message (field_lent c.unwrap-name.result c.unwrap-value.result) ≡ true = cc in
    let found = first-here is_message c.args.fields.now c.loop-at.at c.unwrap-name.result c.unwrap-value.result name value c.loop-at.invariant passes in
    λ groups.
    let aside : Aside = record { read = c.args.read.now; groups = groups } in
    c.read-in-Read.ensures
    ∙ message-at aside c.args.fields.now (field_lent c.unwrap-name.result c.unwrap-value.result) c.args.read.now found (ap (λ (v : Lent). bytes_of_value (shown_value aside (value_lent v))) c.in-Read.is)

pub loop-at-preserved : goal.loop-at-preserved
loop-at-preserved c =
    let name : option_map (λ f. f.name) (slice_get c.args.fields.now c.loop-at.at) ≡ Some c.unwrap-name.result = cc in
    let value : option_map (λ f. f.value) (slice_get c.args.fields.now c.loop-at.at) ≡ Some (value_lent c.unwrap-value.result) = sym c.value.ensures ∙ ap (option_map value_lent) c.unwrap-value.ensures in
    let fails : is_message (field_lent c.unwrap-name.result c.unwrap-value.result) ≡ false = cc in
    first-past is_message c.args.fields.now c.loop-at.at c.unwrap-name.result c.unwrap-value.result name value c.loop-at.invariant fails

pub returns : goal.returns
returns c =
    let end : length c.args.fields.now ≤ c.loop-at.at = omega (arith, c.loop-at-test.false, c.count-at-end.ensures) in
    λ groups. message-none (record { read = c.args.read.now; groups = groups }) c.args.fields.now (first-none is_message c.args.fields.now c.loop-at.at end c.loop-at.invariant)
