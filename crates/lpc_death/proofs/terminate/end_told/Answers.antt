use Rattle.std.proofs.Common.{◌≡◌, ◌∙◌, false, not, ap, sym, arith}
use Rattle.lpc_base.specs.Rows.{when}
use Rattle.lpc_model.specs.Basics.{Steps, provided}
use Rattle.lpc_model.specs.Found.{is_live}
use Rattle.lpc_rows.specs.Does.{Left, left_by}
use Rattle.lpc_rows.specs.Registered.{untold_of}
use Rattle.lpc_steps.proofs.Composed.{took-then}
use Rattle.lpc_death.specs.Dying.{telling_all}
use Rattle.lpc_model.specs.Death.{end_process}
use Rattle.lpc_death.proofs.CanEnd.{told-table, untold-can}
use Rattle.lpc_death.proofs.Stands.{told-process}
use Rattle.lpc_death.proofs.Lives.{closed-lives, told-lives}
use Rattle.lpc_death.proofs.terminate.end_told.Goals as goal

pub end_process-requires-clause-process : goal.end_process-requires-clause-process
end_process-requires-clause-process c =
    let w = c.args.world.now in
    rw (ap (λ (l : Left). l.world) c.tell_all.ensures.took) (told-process (untold_of w.rows c.args.pid) c.args.pid w.rows c.requires.process)

pub end_process-requires-clause-table : goal.end_process-requires-clause-table
end_process-requires-clause-table c =
    let w = c.args.world.now in
    rw (ap (λ (l : Left). l.world) c.tell_all.ensures.took) (told-table (untold_of w.rows c.args.pid) c.args.pid w.rows c.requires.table)

pub end_process-requires-clause-can : goal.end_process-requires-clause-can
end_process-requires-clause-can c =
    let w = c.args.world.now in
    rw (ap (λ (l : Left). l.world) c.tell_all.ensures.took) (untold-can (untold_of w.rows c.args.pid) w.rows c.requires.can)

pub returns-then-not-is_live-clause-took : goal.returns-then-not-is_live-clause-took
returns-then-not-is_live-clause-took c =
    let w = c.args.world.now in
    let told = c.tell_all.new.world in
    let out = c.tell_all.new.out in
    let pid = c.args.pid in
    let last : Steps = provided (λ w. not (is_live w pid)) (end_process pid) in
    let gone : is_live told.rows pid ≡ false = sym c.is_live.ensures.live ∙ c.if-not-is_live.true in
    let ends = ap (λ l. when (not l) (end_process pid told.rows)) gone in
    took-then (telling_all pid) last w told c.end_process.new.world c.args.out.now out c.end_process.new.out c.tell_all.ensures.took
    (c.end_process.ensures.takes ∙ ap (λ bs. left_by told.rows out.list told.loose bs) (sym ends))

pub returns-then-not-is_live-clause-lives : goal.returns-then-not-is_live-clause-lives
returns-then-not-is_live-clause-lives c =
    let told = c.tell_all.new.world in
    let out = c.tell_all.new.out in
    omega (arith, told-lives c.args.pid c.args.world.now told c.args.out.now out c.tell_all.ensures.took, closed-lives c.args.pid told c.end_process.new.world out c.end_process.new.out c.end_process.ensures.takes)

pub returns-else-not-is_live-clause-lives : goal.returns-else-not-is_live-clause-lives
returns-else-not-is_live-clause-lives c = told-lives c.args.pid c.args.world.now c.tell_all.new.world c.args.out.now c.tell_all.new.out c.tell_all.ensures.took
