-- What of an object goes into its hash.
use Rattle.std.specs.Prelude.{ℕ, List, ◌++◌}
use Rattle.std.specs.Hash as fed
use Rattle.lpc_base.specs.declared.birth.Birth.{Birth}
use Rattle.lpc_homes.specs.declared.object.Object.{Object}
use Rattle.lpc_homes.specs.declared.object.Object.TheVariants as object

-- who made it, and which of its maker's objects it is
abbrev pub birth_hashed : Birth → List (List ℕ)
birth_hashed birth = fed.u32 birth.maker ++ fed.u32 birth.ordinal

abbrev pub hashed : Object → List (List ℕ)
hashed (object.Port key) = fed.u64 key.generation
hashed (object.Process birth) = birth_hashed birth
hashed (object.Thread birth) = birth_hashed birth
hashed (object.Section key) = fed.u64 key.generation
hashed (object.Token key) = fed.u64 key.generation
