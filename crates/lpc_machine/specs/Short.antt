-- What a line is to keep to beside its numbers.
use Rattle.std.specs.Prelude.{Bool, true, length, nat_le}
use Rattle.lpc_model.specs.Lines.{ScriptLine, token}
use Rattle.lpc_tokens.specs.declared.names.TheConstants.{TOKEN_NAME_LIMIT}

-- the name that a line gives a token has at most 32 bytes
abbrev pub has_short_name : ScriptLine → Bool
has_short_name (token name content) = nat_le (length name) TOKEN_NAME_LIMIT
has_short_name line = true
