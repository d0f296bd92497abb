-- The room that the directives need.
use Rattle.std.specs.Prelude.{◌==◌, Bool}
use Rattle.lpc_rows.specs.Kept.{Kept}

-- without memory there is no room for the name of a further token
abbrev pub lacks_token_name_room : Kept → Bool
lacks_token_name_room w = w.room.token_names == 0
