use Rattle.std.proofs.Common.{◌≡◌, [], ◌∷◌, ap, refl, ◌∙◌}
use Rattle.lpc_model.specs.Basics.{Secures, basic}
use Rattle.lpc_model.specs.Tests.{next_birth}
use Rattle.lpc_model.specs.World.{Birth, ThreadRow, World}
use Rattle.lpc_rows.specs.Callers.{shown_caller}
use Rattle.lpc_steps.proofs.Composed.{took-one, took-then}
use Rattle.lpc_connect.specs.Calls.{connecting_with}
use Rattle.lpc_connect.proofs.connect.start_allowing.Goals as goal

pub returns-clause-takes : goal.returns-clause-takes
returns-clause-takes c =
    let by : ThreadRow = shown_caller c.args.by.now in
    let old = c.args.world.now in
    let mid = c.start-port.new.world in
    let new = c.ports_set_security.new.self in
    let out = c.start-port.new.out in
    let secures = Secures (next_birth by) c.args.allowed in
    let rows : new.rows ≡ basic mid.rows secures =
    c.ports_set_security.ensures.step.rows ∙ ap (λ (b : Birth). basic mid.rows (Secures b c.args.allowed)) c.start-port.ensures.name in
    took-then (λ (w : World). connecting_with old by c.args.connect c.args.message.now) (λ (w : World). secures ∷ []) old mid new c.args.out.now out out
    c.start-port.ensures.takes (took-one secures mid new out refl rows c.ports_set_security.ensures.loose)
