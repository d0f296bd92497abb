-- What fields tell is the same with what stands in place of the marks, but for a message.
use Rattle.std.proofs.Common.{◌≡◌, ℕ, Bool, true, false, cond, List, Option, Some, None, map, refl, ap, sym, ◌∙◌, is_some, option_map}
use Rattle.std.specs.Prelude.{◌&&◌, option_and_then}
use Rattle.lpc_base.specs.Rows.{first}
use Rattle.lpc_base.proofs.Bools.{first-true}
use Rattle.lpc_base.proofs.RowWords.{first-passes}
use Rattle.lpc_model.specs.declared.entry.Field.{Field}
use Rattle.lpc_model.specs.declared.entry.Value.{Value}
use Rattle.lpc_model.specs.declared.entry.Value.TheVariants as value
use Rattle.lpc_model.specs.Listed.{Aside, shown_field, shown_value}
use Rattle.lpc_model.specs.Requests.{lawful_message}
use Rattle.lpc_model.specs.Residents.{base_told, bytes_of_value, handle_told, hex_of, is_base_name, is_handle_name, is_message_name, is_size_name, message_told, number_of, received, size_told, told_first, view_told}
use Rattle.lpc_residents.specs.Shown.{is_message, shows_bytes}
use Rattle.lpc_residents.proofs.Maps.{first-map}

-- numbers aren't bytes
number-shown : (aside : Aside) (v : Value) → number_of (shown_value aside v) ≡ number_of v
number-shown aside (value.Number n) = refl
number-shown aside (value.Hex n) = refl
number-shown aside (value.Kind k) = refl
number-shown aside (value.Bytes b) = refl
number-shown aside value.Read = refl
number-shown aside (value.Sids s) = refl
number-shown aside value.TokenGroups = refl

hex-shown : (aside : Aside) (v : Value) → hex_of (shown_value aside v) ≡ hex_of v
hex-shown aside (value.Number n) = refl
hex-shown aside (value.Hex n) = refl
hex-shown aside (value.Kind k) = refl
hex-shown aside (value.Bytes b) = refl
hex-shown aside value.Read = refl
hex-shown aside (value.Sids s) = refl
hex-shown aside value.TokenGroups = refl

first-of : {A : Type 0} (f : Field → Option A) (aside : Aside) → ((field : Field) → f (shown_field aside field) ≡ f field) → (fields : List Field) → told_first f (map (shown_field aside) fields) ≡ told_first f fields
first-of f aside same fields =
    ap (option_and_then f) (first-map (shown_field aside) (λ field. is_some (f field)) (λ field. is_some (f field)) (λ field. ap is_some (same field)) fields)
    ∙ at (first (λ field. is_some (f field)) fields)
  where
    at : (o : Option Field) → option_and_then f (option_map (shown_field aside) o) ≡ option_and_then f o
    at None = refl
    at (Some field) = same field

pub handle-shown : (aside : Aside) (fields : List Field) → told_first handle_told (map (shown_field aside) fields) ≡ told_first handle_told fields
handle-shown aside fields = first-of handle_told aside (λ field. ap (λ o. cond (is_handle_name field.name) o None) (number-shown aside field.value)) fields

base-shown : (aside : Aside) (fields : List Field) → told_first base_told (map (shown_field aside) fields) ≡ told_first base_told fields
base-shown aside fields = first-of base_told aside (λ field. ap (λ o. cond (is_base_name field.name) o None) (hex-shown aside field.value)) fields

size-shown : (aside : Aside) (fields : List Field) → told_first size_told (map (shown_field aside) fields) ≡ told_first size_told fields
size-shown aside fields = first-of size_told aside (λ field. ap (λ o. cond (is_size_name field.name) o None) (number-shown aside field.value)) fields

pub view-shown : (aside : Aside) (fields : List Field) → view_told (map (shown_field aside) fields) ≡ view_told fields
view-shown aside fields =
    ap (λ o. option_and_then (λ base. option_map (λ size. record { base = base; size = size }) (told_first size_told (map (shown_field aside) fields))) o) (base-shown aside fields)
    ∙ ap (λ o. option_and_then (λ base. option_map (λ size. record { base = base; size = size }) o) (told_first base_told fields)) (size-shown aside fields)

-- a message
shows-message : (aside : Aside) (b : Bool) (v : Value) → is_some (cond b (bytes_of_value (shown_value aside v)) None) ≡ (b && shows_bytes v)
shows-message aside true (value.Number n) = refl
shows-message aside true (value.Hex n) = refl
shows-message aside true (value.Kind k) = refl
shows-message aside true (value.Bytes b) = refl
shows-message aside true value.Read = refl
shows-message aside true (value.Sids s) = refl
shows-message aside true value.TokenGroups = refl
shows-message aside false v = refl

pub message-shown : (aside : Aside) (fields : List Field) → received (map (shown_field aside) fields) ≡ option_and_then lawful_message (option_and_then message_told (option_map (shown_field aside) (first is_message fields)))
message-shown aside fields =
    ap (λ o. option_and_then lawful_message (option_and_then message_told o))
    (first-map (shown_field aside) is_message (λ field. is_some (message_told field)) (λ field. shows-message aside (is_message_name field.name) field.value) fields)

-- none, and the bytes of the first field that shows one
pub message-none : (aside : Aside) (fields : List Field) → None ≡ first is_message fields → None ≡ received (map (shown_field aside) fields)
message-none aside fields none =
    ap (λ o. option_and_then lawful_message (option_and_then message_told (option_map (shown_field aside) o))) none
    ∙ sym (message-shown aside fields)

pub message-at : (aside : Aside) (fields : List Field) (field : Field) (bytes : List ℕ) → Some field ≡ first is_message fields → bytes_of_value (shown_value aside field.value) ≡ Some bytes → lawful_message bytes ≡ received (map (shown_field aside) fields)
message-at aside fields field bytes at is =
    let named : is_message_name field.name ≡ true = first-true _ _ (first-passes is_message fields field (sym at)) in
    sym (ap (λ o. option_and_then lawful_message (cond (is_message_name field.name) o None)) is ∙ ap (λ b. option_and_then lawful_message (cond b (Some bytes) None)) named)
    ∙ ap (λ o. option_and_then lawful_message (option_and_then message_told (option_map (shown_field aside) o))) at
    ∙ sym (message-shown aside fields)
