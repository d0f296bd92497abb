-- Effective tokens, and what of them is passed on.
use Rattle.std.specs.Prelude.{ℕ, min, Option, Some, None, unwrap_or}
use Rattle.lpc_sid.specs.declared.token.Token.{Token}
use Rattle.lpc_tokens.specs.declared.effective.Effective.{Effective}
use Rattle.lpc_tokens.specs.declared.effective.Impersonation.{Impersonation}
use Rattle.lpc_tokens.specs.declared.level.TheConstants.{DELEGATION}
use Rattle.lpc_tokens.specs.declared.qos.Qos.{Qos}

-- the token with which a thread acts: the one that it impersonates, else its process's
abbrev pub effective : Token → Option Impersonation → Effective
effective primary None = record { token = primary; level = None }
effective primary (Some own) = record { token = own.token; level = Some own.level }

-- the level that a token counts as: a process's own counts as delegation
abbrev pub counts_as : Effective → ℕ
counts_as token = unwrap_or token.level DELEGATION

-- what a server gets of its client: the client's token, with the lesser of the level asked for and the client's own
abbrev pub passed_on : Qos → Effective → Impersonation
passed_on qos client = record { token = client.token; level = min qos.level (counts_as client) }
