-- Tokens of well-known SIDs.
use Rattle.std.specs.Prelude.{ℕ, List, [], ◌∷◌}
use Rattle.lpc_sid.specs.declared.sid.Sid.{Sid}
use Rattle.lpc_sid.specs.declared.token.Token.{Token}

-- the SID of an authority and numbers
abbrev pub sid : ℕ → List ℕ → Sid
sid authority subs = record { authority = authority; subs = record { items = subs } }

-- the local system, in the groups of the administrators and of everyone
abbrev pub system_token : Token
system_token = record {
  user = sid 5 (18 ∷ []);
  groups = record { items = sid 5 (32 ∷ 544 ∷ []) ∷ sid 1 (0 ∷ []) ∷ [] };
}
