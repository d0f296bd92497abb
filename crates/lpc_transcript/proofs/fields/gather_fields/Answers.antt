use Rattle.std.proofs.Common.{rules, arith, ◌≡◌, sym, ap, ◌∙◌, ℕ, zero, suc, ◌+◌, ◌≤◌, List, [], ◌∷◌, ◌++◌, length, map, take, Some, append_assoc, vec_capacity, append-nil, add-one, length-append}
use Rattle.std.specs.Option.{option_map}
use Rattle.std.specs.List.{slice_get}
use Rattle.lpc_model.specs.Listed.{Aside, shown_field}
use Rattle.lpc_model.specs.Slots.{value_lent}
use Rattle.lpc_model.specs.Text.{field_text, fields_text}
use Rattle.lpc_model.specs.declared.entry.Field.{Field}
use Rattle.lpc_model.specs.declared.entry.FieldName.{FieldName}
use Rattle.lpc_model.specs.declared.entry.Value.{Value}
use Rattle.lpc_transcript.specs.Printing.{Overfills, aside_of, field_of, fields_of, gathered}
use Rattle.lpc_transcript.proofs.Begins.{begins_after}
use Rattle.lpc_transcript.proofs.Placed.{part_lacks}
use Rattle.lpc_transcript.proofs.fields.gather_fields.Goals as goal

one_more : (aside : Aside) (fields : List Field) (at : ℕ) (name : FieldName) (value : Value) → option_map (λ f. f.name) (slice_get fields at) ≡ Some name → option_map (λ f. f.value) (slice_get fields at) ≡ Some value → fields_text (map (shown_field aside) (take (suc at) fields)) ≡ fields_text (map (shown_field aside) (take at fields)) ++ field_text (shown_field aside (record { name = name; value = value }))
one_more aside [] at name value n v = absurd (cc)
one_more aside (f ∷ fs) zero name value n v =
    let same_name : f.name ≡ name = cc in
    let same_value : f.value ≡ value = cc in
    rw (sym same_name, sym same_value) (append-nil (field_text (shown_field aside f)))
one_more aside (f ∷ fs) (suc at) name value n v =
    ap (λ text. field_text (shown_field aside f) ++ text) (one_more aside fs at name value n v)
    ∙ sym (append_assoc (field_text (shown_field aside f)) (fields_text (map (shown_field aside) (take at fs))) (field_text (shown_field aside (record { name = name; value = value }))))

-- the text of the fields before one, and its own, are no longer than that of all
no_longer : (aside : Aside) (fields : List Field) (at : ℕ) (name : FieldName) (value : Value) → option_map (λ f. f.name) (slice_get fields at) ≡ Some name → option_map (λ f. f.value) (slice_get fields at) ≡ Some value → length (fields_of aside (take at fields)) + length (field_of aside name value) ≤ length (fields_of aside fields)
no_longer aside [] at name value n v = absurd (cc)
no_longer aside (f ∷ fs) zero name value n v =
    let same_name : f.name ≡ name = cc in
    let same_value : f.value ≡ value = cc in
    rw (sym same_name, sym same_value) (omega (arith, length-append (field_text (shown_field aside f)) (fields_of aside fs)))
no_longer aside (f ∷ fs) (suc at) name value n v =
    omega (arith, length-append (field_text (shown_field aside f)) (fields_of aside fs), length-append (field_text (shown_field aside f)) (fields_of aside (take at fs)), no_longer aside fs at name value n v)

pub loop-index-preserved : goal.loop-index-preserved
loop-index-preserved c = record {
  text =
      let name : option_map (λ f. f.name) (slice_get c.args.fields.now c.loop-index.index) ≡ Some c.unwrap-name.result = cc in
      let value : option_map (λ f. f.value) (slice_get c.args.fields.now c.loop-index.index) ≡ Some (value_lent c.unwrap-value.result) = sym c.value.ensures ∙ ap (option_map value_lent) c.unwrap-value.ensures in
      let more = one_more (aside_of c.args.read.now c.args.groups.now) c.args.fields.now c.loop-index.index c.unwrap-name.result (value_lent c.unwrap-value.result) name value in
      rw (c.in_ok-end.ensures.ok, c.loop-index.invariant.text, add-one, more) (append_assoc (gathered c.args.into.now c.args.buffer.now c.args.at) (fields_text (map (shown_field (aside_of c.args.read.now c.args.groups.now)) (take c.loop-index.index c.args.fields.now))) (field_text (shown_field (aside_of c.args.read.now c.args.groups.now) (record { name = c.unwrap-name.result; value = (value_lent c.unwrap-value.result) }))));
  within = c.in_ok-end.ensures.room;
  front = begins_after c.gather_field.new.into.items c.loop-index.into.items c.args.into.now.items c.gather_field.ensures.front c.loop-index.invariant.front;
  room = omega arith;
}

pub returns-in_err-end-clause-wanting : goal.returns-in_err-end-clause-wanting
returns-in_err-end-clause-wanting c =
    let aside = aside_of c.args.read.now c.args.groups.now in
    let name : option_map (λ f. f.name) (slice_get c.args.fields.now c.loop-index.index) ≡ Some c.unwrap-name.result = cc in
    let value : option_map (λ f. f.value) (slice_get c.args.fields.now c.loop-index.index) ≡ Some (value_lent c.unwrap-value.result) = sym c.value.ensures ∙ ap (option_map value_lent) c.unwrap-value.ensures in
    let more = no_longer aside c.args.fields.now c.loop-index.index c.unwrap-name.result (value_lent c.unwrap-value.result) name value in
    let lacks : Overfills c.args.into.now c.args.buffer.now c.args.at (fields_of aside c.args.fields.now) =
    part_lacks (vec_capacity c.loop-index.into) (vec_capacity c.args.into.now) (gathered c.loop-index.into c.loop-index.buffer c.loop-index.end) (gathered c.args.into.now c.args.buffer.now c.args.at) (fields_of aside (take c.loop-index.index c.args.fields.now)) (field_of aside c.unwrap-name.result (value_lent c.unwrap-value.result)) (fields_of aside c.args.fields.now)
    c.loop-index.invariant.text c.loop-index.invariant.room c.in_err-end.ensures.wanting more in
    search (rules, lacks)
