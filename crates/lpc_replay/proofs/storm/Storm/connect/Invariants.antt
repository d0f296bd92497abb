use Rattle.std.proofs.Common.{◌≡◌, drop}
use Rattle.std.specs.List.{flat_map}
use Rattle.lpc_storm.specs.Generated.{connecting}
use Rattle.lpc_replay.specs.Storming.{behind_storm}
use Rattle.lpc_replay.proofs.storm.Storm.connect.Given as goal

abbrev pub invariant-loop-client : goal.invariant-loop-client
invariant-loop-client l =
    behind_storm l.self (flat_map connecting (drop l.client-index l.clients)) ≡ behind_storm l.fn.self (flat_map connecting l.clients)
