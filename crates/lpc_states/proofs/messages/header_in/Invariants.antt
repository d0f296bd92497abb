use Rattle.std.proofs.Common.{◌≡◌, ℕ, ◌<◌, get_or, length}
use Rattle.lpc_states.proofs.messages.header_in.Given as goal

abbrev pub invariant-loop-place : goal.invariant-loop-place
invariant-loop-place l = record {
  long : length l.front ≡ 24;
  copied : (k : ℕ) → k < l.place → get_or l.front k 0 ≡ get_or l.bytes k 0;
}
