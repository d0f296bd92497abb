-- What a query tells of a token, whether or not it lies in the list of entries.
use Rattle.std.specs.Prelude.{Bool, true, List, [], ◌∷◌}
use Rattle.lpc_imperson.specs.declared.querying.Told.{Told}
use Rattle.lpc_imperson.specs.declared.querying.Told.TheVariants as told
use Rattle.lpc_model.specs.declared.entry.Field.{Field}
use Rattle.lpc_model.specs.declared.entry.FieldName.TheVariants as name
use Rattle.lpc_model.specs.declared.entry.Value.TheVariants.{Sids}
use Rattle.lpc_steps.specs.Clauses.{has_no_read}

-- the fields that show it
abbrev pub told_fields : Told → List Field
told_fields (told.Fields fields) = fields
told_fields (told.Groups groups) = record { name = name.Groups; value = Sids groups } ∷ []

-- its fields have no mark
abbrev pub is_plain : Told → Bool
is_plain (told.Fields fields) = has_no_read fields
is_plain (told.Groups groups) = true
