use Rattle.lpc_sweep.proofs.Ahead.{ahead_same, ahead_then}
use Rattle.lpc_sweep.proofs.freeing.free_suspects.Goals as goal

pub loop-looked-init : goal.loop-looked-init
loop-looked-init c = record { ahead = ahead_same c.args.world.now c.requires.can; lives = c.requires.lives }

pub look_at-requires-clause-can : goal.look_at-requires-clause-can
look_at-requires-clause-can c = c.loop-looked.invariant.ahead.can

pub look_at-requires-clause-lives : goal.look_at-requires-clause-lives
look_at-requires-clause-lives c = c.loop-looked.invariant.lives

pub loop-looked-preserved : goal.loop-looked-preserved
loop-looked-preserved c = record { ahead = ahead_then _ _ _ c.loop-looked.invariant.ahead c.look_at.ensures.ahead; lives = c.look_at.ensures.lives }
