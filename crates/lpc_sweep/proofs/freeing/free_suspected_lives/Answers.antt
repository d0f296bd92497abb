use Rattle.std.proofs.Common.{sym, subst}
use Rattle.lpc_rows.specs.Kept.{Kept}
use Rattle.lpc_sweep.specs.Sweeping.{SweepsAhead}
use Rattle.lpc_sweep.proofs.Ahead.{ahead_same, ahead_then}
use Rattle.lpc_sweep.proofs.freeing.free_suspected_lives.Goals as goal
use Rattle.lpc_sweep.proofs.freeing.free_suspected_lives.Goals.{in-Thread, in-Process}

pub loop-looked-init : goal.loop-looked-init
loop-looked-init c = record { ahead = ahead_same c.args.world.now c.requires.can }

pub look_at_thread-requires : goal.look_at_thread-requires
look_at_thread-requires c = c.loop-looked.invariant.ahead.can

pub look_at_process-requires : goal.look_at_process-requires
look_at_process-requires c = c.loop-looked.invariant.ahead.can

pub loop-looked-preserved : goal.loop-looked-preserved
loop-looked-preserved c = record {
  ahead =
      elim c.match-life_suspect.branch [
        | in-Thread w ↦ subst (λ (v : Kept). SweepsAhead c.args.world.now v) (sym w.world-is) (ahead_then _ _ _ c.loop-looked.invariant.ahead w.look_at_thread.ensures)
        | in-Process w ↦ subst (λ (v : Kept). SweepsAhead c.args.world.now v) (sym w.world-is) (ahead_then _ _ _ c.loop-looked.invariant.ahead w.look_at_process.ensures)
      ];
}
