use Rattle.std.proofs.Common.{◌∙◌, sym}
use Rattle.lpc_tokens.proofs.Named.{named-shown, none-long}
use Rattle.lpc_tokens.proofs.names.TokenNames.find.Goals as goal

pub returns-then-name-gt-TOKEN_NAME_LIMIT : goal.returns-then-name-gt-TOKEN_NAME_LIMIT
returns-then-name-gt-TOKEN_NAME_LIMIT c = rw (← c.self.view_is) (none-long _ _ c.self.invariant c.if-name-gt-TOKEN_NAME_LIMIT.true)

pub returns : goal.returns
returns c =
    rw (← c.self.view_is, ← c.key_of.ensures) (c.get.ensures.value ∙ sym (named-shown c.key_of.result.items c.self.inside.names.entries))
