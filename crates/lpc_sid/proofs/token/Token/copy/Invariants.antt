use Rattle.std.proofs.Common.{◌≡◌, ◌≤◌, length, take}
use Rattle.lpc_sid.proofs.token.Token.copy.Given as goal

-- the groups so far were copied, and the token has at most 16
abbrev pub invariant-loop-group : goal.invariant-loop-group
invariant-loop-group l = (l.groups.items ≡ take l.group-index l.group-items) × (length l.group-items ≤ 16)
