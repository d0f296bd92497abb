use Rattle.std.proofs.Common.{◌≡◌, ◌∙◌, true, ap, sym, arith}
use Rattle.std.specs.Prelude.{Ok}
use Rattle.lpc_model.specs.Targets.{thread_target}
use Rattle.lpc_model.specs.declared.line.ProcArg.TheVariants.{By}
use Rattle.lpc_rows.specs.Ready.{caller}
use Rattle.lpc_death.proofs.Aimed.{aimed, target-lives}
use Rattle.lpc_death.proofs.OwnEnds.{caller-found, own-living}
use Rattle.lpc_death.proofs.targets.living_thread.Goals as goal

pub returns-in-Current-clause-thread : goal.returns-in-Current-clause-thread
returns-in-Current-clause-thread c = rw (c.in-Current.is) (own-living c.args.world.now.rows c.args.by c.requires.ready)

pub returns-in-Current-clause-live : goal.returns-in-Current-clause-live
returns-in-Current-clause-live c = caller-found c.args.world.now.rows c.args.by c.requires.ready

pub returns-clause-thread : goal.returns-clause-thread
returns-clause-thread c =
    let w = c.args.world.now.rows in
    let t = c.in_ok-thread.thread in
    let lives : t.live ≡ true = grind (arith, c.if-not-thread.false) in
    let k = aimed w t c.in_ok-thread.ensures.row lives in
    let found : thread_target w (caller w c.args.by) (By c.in-By.handle) ≡ Ok (caller w t.number) = c.in_ok-thread.ensures.thread ∙ ap (λ r. Ok r) (sym k.row) in
    rw (c.in-By.is) (target-lives w (caller w c.args.by) (caller w t.number) (By c.in-By.handle) found k.lives)

pub returns-clause-live : goal.returns-clause-live
returns-clause-live c =
    let t = c.in_ok-thread.thread in
    let lives : t.live ≡ true = grind (arith, c.if-not-thread.false) in
    let k = aimed c.args.world.now.rows t c.in_ok-thread.ensures.row lives in k.live
