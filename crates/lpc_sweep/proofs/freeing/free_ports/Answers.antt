use Rattle.std.proofs.Common.{ap, sym, subst, ◌∙◌, ◌≡◌, length, not, arith}
use Rattle.lpc_model.specs.Basics.{Frees, basic, world_after}
use Rattle.lpc_model.specs.Found.{is_port, port_name}
use Rattle.lpc_model.specs.Linked.{AreLivesHeld, HasHeldSections, HasHeldTokens}
use Rattle.lpc_model.specs.Sweep.{is_unheld, sweep}
use Rattle.lpc_model.specs.World.{PortRow, World}
use Rattle.lpc_model.proofs.Held.FreedPort.{free_one, lives_freed, swept_none_world, unheld_ports}
use Rattle.lpc_sweep.specs.Sweeping.{CanSweep}
use Rattle.lpc_rows.specs.Names.{name_of}
use Rattle.lpc_sweep.proofs.Ahead.{ahead_same, ahead_then, sections-held, tokens-held}
use Rattle.lpc_sweep.proofs.HeldPorts.{can_freed}
use Rattle.lpc_sweep.proofs.Places.{length_less, none_left}
use Rattle.lpc_sweep.proofs.freeing.free_ports.Goals as goal

pub loop-freed-init : goal.loop-freed-init
loop-freed-init c = record { ahead = ahead_same c.args.world.now c.requires.can; lives = c.requires.lives; fewer = omega arith }

pub unheld_port-requires : goal.unheld_port-requires
unheld_port-requires c = c.loop-freed.invariant.ahead.can

pub free-requires-clause-can : goal.free-requires-clause-can
free-requires-clause-can c = c.loop-freed.invariant.ahead.can

pub loop-freed-preserved : goal.loop-freed-preserved
loop-freed-preserved c =
    let w = c.loop-freed.world.rows in
    let b = name_of c.loop-freed.world.births.ports c.in-Some.port in
    let went : c.free.new.world.rows ≡ basic w (Frees (port_name b)) = c.free.ensures.rows in
    let less = length_less (is_port b) w.ports c.in-Some.ensures.row in
    let can = c.loop-freed.invariant.ahead.can in
    record {
      ahead = ahead_then _ _ _ c.loop-freed.invariant.ahead (record {
        can = subst CanSweep (sym went) (can_freed w (port_name b) can c.in-Some.ensures.unheld);
        leaves = ap (λ (v : World). world_after v (sweep v)) went ∙ free_one w b can.linked can.ports c.in-Some.ensures.unheld;
        sections = λ held. subst HasHeldSections (sym went) (sections-held w (port_name b) held);
        tokens = λ held. subst HasHeldTokens (sym went) (tokens-held w (port_name b) held);
        calls = c.free.ensures.calls;
        made = c.free.ensures.made;
        room = c.free.ensures.room;
        capacity = c.free.ensures.capacity;
        lives = c.free.ensures.lives;
      });
      lives = subst AreLivesHeld (sym went) (lives_freed w b c.loop-freed.invariant.lives);
      fewer = omega (arith, less, ap (λ (v : World). length v.ports) went, c.loop-freed.invariant.fewer);
    }

pub returns-in-None-clause-rows : goal.returns-in-None-clause-rows
returns-in-None-clause-rows c =
    let w = c.loop-freed.world.rows in
    sym (swept_none_world w (unheld_ports w c.loop-freed.invariant.lives c.in-None.ensures.none (c.loop-freed.invariant.ahead.sections c.requires.sections) (c.loop-freed.invariant.ahead.tokens c.requires.tokens))) ∙ c.loop-freed.invariant.ahead.leaves

pub returns-in-None-clause-calls : goal.returns-in-None-clause-calls
returns-in-None-clause-calls c = c.loop-freed.invariant.ahead.calls

pub returns-in-None-clause-made : goal.returns-in-None-clause-made
returns-in-None-clause-made c = c.loop-freed.invariant.ahead.made

pub returns-in-None-clause-room : goal.returns-in-None-clause-room
returns-in-None-clause-room c = c.loop-freed.invariant.ahead.room

pub returns-clause-rows : goal.returns-clause-rows
returns-clause-rows c =
    let w = c.loop-freed.world.rows in
    let none = none_left (λ (p : PortRow). not (is_unheld w (port_name p.birth))) w.ports (omega (arith, c.loop-freed.invariant.fewer, c.loop-freed-test.false, c.port_count-freed-end.ensures)) in
    sym (swept_none_world w (unheld_ports w c.loop-freed.invariant.lives none (c.loop-freed.invariant.ahead.sections c.requires.sections) (c.loop-freed.invariant.ahead.tokens c.requires.tokens))) ∙ c.loop-freed.invariant.ahead.leaves

pub returns-clause-calls : goal.returns-clause-calls
returns-clause-calls c = c.loop-freed.invariant.ahead.calls

pub returns-clause-made : goal.returns-clause-made
returns-clause-made c = c.loop-freed.invariant.ahead.made

pub returns-clause-room : goal.returns-clause-room
returns-clause-room c = c.loop-freed.invariant.ahead.room

pub returns-in-None-clause-capacity : goal.returns-in-None-clause-capacity
returns-in-None-clause-capacity c = c.loop-freed.invariant.ahead.capacity

pub returns-in-None-clause-lives : goal.returns-in-None-clause-lives
returns-in-None-clause-lives c = c.loop-freed.invariant.ahead.lives

pub returns-clause-capacity : goal.returns-clause-capacity
returns-clause-capacity c = c.loop-freed.invariant.ahead.capacity

pub returns-clause-lives : goal.returns-clause-lives
returns-clause-lives c = c.loop-freed.invariant.ahead.lives

pub returns-in-None-clause-living : goal.returns-in-None-clause-living
returns-in-None-clause-living c = c.loop-freed.invariant.lives

pub returns-clause-living : goal.returns-clause-living
returns-clause-living c = c.loop-freed.invariant.lives
