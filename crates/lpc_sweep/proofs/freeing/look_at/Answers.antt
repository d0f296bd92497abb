use Rattle.std.proofs.Common.{ap, sym, subst, ◌∙◌, ◌≡◌}
use Rattle.lpc_model.specs.Basics.{Frees, basic, world_after}
use Rattle.lpc_model.specs.Found.{port_name}
use Rattle.lpc_model.specs.Linked.{AreLivesHeld, HasHeldSections, HasHeldTokens}
use Rattle.lpc_model.specs.Sweep.{sweep}
use Rattle.lpc_model.specs.World.{World}
use Rattle.lpc_model.proofs.Held.FreedPort.{free_one, lives_freed}
use Rattle.lpc_rows.specs.Kept.{Kept}
use Rattle.lpc_rows.specs.Names.{name_of}
use Rattle.lpc_sweep.specs.Sweeping.{CanSweep, SweepsAhead}
use Rattle.lpc_sweep.proofs.Ahead.{ahead_same, sections-held, tokens-held}
use Rattle.lpc_sweep.proofs.HeldPorts.{can_freed}
use Rattle.lpc_sweep.proofs.freeing.look_at.Goals as goal

pub free-requires-clause-stands : goal.free-requires-clause-stands
free-requires-clause-stands c = c.is_unheld.ensures.stands c.if-is_unheld.true

pub free-requires-clause-unheld : goal.free-requires-clause-unheld
free-requires-clause-unheld c = c.is_unheld.ensures.unheld c.if-is_unheld.true

pub clear_suspect-requires : goal.clear_suspect-requires
clear_suspect-requires c = record { held = c.is_unheld.ensures.held c.if-is_unheld.false }

pub returns-then-is_unheld-clause-ahead : goal.returns-then-is_unheld-clause-ahead
returns-then-is_unheld-clause-ahead c =
    let w = c.args.world.now.rows in
    let b = name_of c.args.world.now.births.ports c.args.port in
    let went : c.free.new.world.rows ≡ basic w (Frees (port_name b)) = c.free.ensures.rows in
    let unheld = c.is_unheld.ensures.unheld c.if-is_unheld.true in
    let can = c.requires.can in
    record {
      can = subst CanSweep (sym went) (can_freed w (port_name b) can unheld);
      leaves = ap (λ (v : World). world_after v (sweep v)) went ∙ free_one w b can.linked can.ports unheld;
      sections = λ held. subst HasHeldSections (sym went) (sections-held w (port_name b) held);
      tokens = λ held. subst HasHeldTokens (sym went) (tokens-held w (port_name b) held);
      calls = c.free.ensures.calls;
      made = c.free.ensures.made;
      room = c.free.ensures.room;
      capacity = c.free.ensures.capacity;
      lives = c.free.ensures.lives;
    }

pub returns-then-is_unheld-clause-lives : goal.returns-then-is_unheld-clause-lives
returns-then-is_unheld-clause-lives c = subst AreLivesHeld (sym c.free.ensures.rows) (lives_freed c.args.world.now.rows (name_of c.args.world.now.births.ports c.args.port) c.requires.lives)

pub returns-else-is_unheld-clause-ahead : goal.returns-else-is_unheld-clause-ahead
returns-else-is_unheld-clause-ahead c = subst (λ (w : Kept). SweepsAhead c.args.world.now w) (sym c.clear_suspect.ensures) (ahead_same c.args.world.now c.requires.can)

pub returns-else-is_unheld-clause-lives : goal.returns-else-is_unheld-clause-lives
returns-else-is_unheld-clause-lives c = subst (λ (w : Kept). AreLivesHeld w.rows) (sym c.clear_suspect.ensures) c.requires.lives
