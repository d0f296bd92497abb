use Rattle.std.proofs.Common.{arith}
use Rattle.std.proofs.Common.{◌+◌, ◌-◌, None, false, refl, ap}
use Rattle.lpc_model.specs.World.{World}
use Rattle.lpc_rows.specs.Kept.{rows_by}
use Rattle.lpc_rows.specs.Shown.{birth_of, births_of, shown_port, tables_of}
use Rattle.lpc_rows.proofs.Makes as makes
use Rattle.lpc_rows.proofs.Rooms as rooms
use Rattle.lpc_rows.proofs.Steps as steps
use Rattle.lpc_tokens.specs.declared.security.Security.TheVariants.{Unsecured}
use Rattle.lpc_rows.proofs.Suspected as suspected
use Rattle.lpc_rows.proofs.Lived as lived
use Rattle.lpc_model.specs.Basics.{Makes}
use Rattle.lpc_world.proofs.world.World.ports_add.Goals as goal

pub invariant_of-self : goal.invariant_of-self
invariant_of-self c = record {
  kept =
      let there = rw (← c.self.view_is) at c.requires in
      rw (makes.created c.self.inside.ports c.«add-port».new.self c.set_creator.new.self c.«add-port».result c.args.kind c.args.birth c.args.connection c.args.creator c.«add-port».ensures.vacant c.«add-port».ensures.table c.set_creator.ensures) (steps.made_lawful (tables_of c.self.inside.procs c.self.inside.parts.items c.self.inside.ports c.self.inside.waits c.self.inside.names c.self.inside.sections c.self.inside.tokens c.self.inside.token_names c.self.inside.marks) c.self.inside.calls c.self.inside.made c.self.invariant.kept c.«add-port».result (record { birth = c.args.birth; kind = c.args.kind; pair = None; connection = c.args.connection; context = 0; creator = c.args.creator; completed = false; security = Unsecured }) (makes.vacant c.«add-port».result (tables_of c.self.inside.procs c.self.inside.parts.items c.self.inside.ports c.self.inside.waits c.self.inside.names c.self.inside.sections c.self.inside.tokens c.self.inside.token_names c.self.inside.marks) c.«add-port».ensures.vacant) there.fresh (makes.refs_stand (tables_of c.self.inside.procs c.self.inside.parts.items c.self.inside.ports c.self.inside.waits c.self.inside.names c.self.inside.sections c.self.inside.tokens c.self.inside.token_names c.self.inside.marks) c.«add-port».result (record { birth = c.args.birth; kind = c.args.kind; pair = None; connection = c.args.connection; context = 0; creator = c.args.creator; completed = false; security = Unsecured }) refl there.connection) there.drawn there.budget there.place);
  watched = let here = rw (← c.self.view_is) at c.requires in let away = makes.vacant c.«add-port».result (tables_of c.self.inside.procs c.self.inside.parts.items c.self.inside.ports c.self.inside.waits c.self.inside.names c.self.inside.sections c.self.inside.tokens c.self.inside.token_names c.self.inside.marks) c.«add-port».ensures.vacant in rw ((makes.created c.self.inside.ports c.«add-port».new.self c.set_creator.new.self c.«add-port».result c.args.kind c.args.birth c.args.connection c.args.creator c.«add-port».ensures.vacant c.«add-port».ensures.table c.set_creator.ensures), c.add.ensures) (suspected.made-to (rows_by (tables_of c.self.inside.procs c.self.inside.parts.items c.self.inside.ports c.self.inside.waits c.self.inside.names c.self.inside.sections c.self.inside.tokens c.self.inside.token_names c.self.inside.marks)) (births_of (tables_of c.self.inside.procs c.self.inside.parts.items c.self.inside.ports c.self.inside.waits c.self.inside.names c.self.inside.sections c.self.inside.tokens c.self.inside.token_names c.self.inside.marks)).ports c.self.inside.suspects c.self.invariant.watched _ _ c.«add-port».result (shown_port (birth_of (births_of (tables_of c.self.inside.procs c.self.inside.parts.items c.self.inside.ports c.self.inside.waits c.self.inside.names c.self.inside.sections c.self.inside.tokens c.self.inside.token_names c.self.inside.marks))) (c.«add-port».result, (record { birth = c.args.birth; kind = c.args.kind; pair = None; connection = c.args.connection; context = 0; creator = c.args.creator; completed = false; security = Unsecured }))) (makes.keeps (tables_of c.self.inside.procs c.self.inside.parts.items c.self.inside.ports c.self.inside.waits c.self.inside.names c.self.inside.sections c.self.inside.tokens c.self.inside.token_names c.self.inside.marks) c.self.invariant.kept.named c.«add-port».result (record { birth = c.args.birth; kind = c.args.kind; pair = None; connection = c.args.connection; context = 0; creator = c.args.creator; completed = false; security = Unsecured }) (c.self.inside.ports.port_room - 1) (c.self.inside.ports.ports_made + 1)) (makes.stands_new (tables_of c.self.inside.procs c.self.inside.parts.items c.self.inside.ports c.self.inside.waits c.self.inside.names c.self.inside.sections c.self.inside.tokens c.self.inside.token_names c.self.inside.marks) c.self.invariant.kept.named c.«add-port».result (record { birth = c.args.birth; kind = c.args.kind; pair = None; connection = c.args.connection; context = 0; creator = c.args.creator; completed = false; security = Unsecured }) (c.self.inside.ports.port_room - 1) (c.self.inside.ports.ports_made + 1) away) (makes.name_new (tables_of c.self.inside.procs c.self.inside.parts.items c.self.inside.ports c.self.inside.waits c.self.inside.names c.self.inside.sections c.self.inside.tokens c.self.inside.token_names c.self.inside.marks) c.self.invariant.kept.named c.«add-port».result (record { birth = c.args.birth; kind = c.args.kind; pair = None; connection = c.args.connection; context = 0; creator = c.args.creator; completed = false; security = Unsecured }) (c.self.inside.ports.port_room - 1) (c.self.inside.ports.ports_made + 1) away) (makes.makes (tables_of c.self.inside.procs c.self.inside.parts.items c.self.inside.ports c.self.inside.waits c.self.inside.names c.self.inside.sections c.self.inside.tokens c.self.inside.token_names c.self.inside.marks) c.self.invariant.kept.named c.«add-port».result (record { birth = c.args.birth; kind = c.args.kind; pair = None; connection = c.args.connection; context = 0; creator = c.args.creator; completed = false; security = Unsecured }) (c.self.inside.ports.port_room - 1) (c.self.inside.ports.ports_made + 1) (makes.refs_stand (tables_of c.self.inside.procs c.self.inside.parts.items c.self.inside.ports c.self.inside.waits c.self.inside.names c.self.inside.sections c.self.inside.tokens c.self.inside.token_names c.self.inside.marks) c.«add-port».result (record { birth = c.args.birth; kind = c.args.kind; pair = None; connection = c.args.connection; context = 0; creator = c.args.creator; completed = false; security = Unsecured }) refl here.connection)));
  lived = let here = rw (← c.self.view_is) at c.requires in rw (makes.created c.self.inside.ports c.«add-port».new.self c.set_creator.new.self c.«add-port».result c.args.kind c.args.birth c.args.connection c.args.creator c.«add-port».ensures.vacant c.«add-port».ensures.table c.set_creator.ensures) (λ calm. lived.step-to (rows_by (tables_of c.self.inside.procs c.self.inside.parts.items c.self.inside.ports c.self.inside.waits c.self.inside.names c.self.inside.sections c.self.inside.tokens c.self.inside.token_names c.self.inside.marks)) (c.self.invariant.lived calm) _ (Makes (shown_port (birth_of (births_of (tables_of c.self.inside.procs c.self.inside.parts.items c.self.inside.ports c.self.inside.waits c.self.inside.names c.self.inside.sections c.self.inside.tokens c.self.inside.token_names c.self.inside.marks))) (c.«add-port».result, (record { birth = c.args.birth; kind = c.args.kind; pair = None; connection = c.args.connection; context = 0; creator = c.args.creator; completed = false; security = Unsecured })))) (makes.makes (tables_of c.self.inside.procs c.self.inside.parts.items c.self.inside.ports c.self.inside.waits c.self.inside.names c.self.inside.sections c.self.inside.tokens c.self.inside.token_names c.self.inside.marks) c.self.invariant.kept.named c.«add-port».result (record { birth = c.args.birth; kind = c.args.kind; pair = None; connection = c.args.connection; context = 0; creator = c.args.creator; completed = false; security = Unsecured }) (c.self.inside.ports.port_room - 1) (c.self.inside.ports.ports_made + 1) (makes.refs_stand (tables_of c.self.inside.procs c.self.inside.parts.items c.self.inside.ports c.self.inside.waits c.self.inside.names c.self.inside.sections c.self.inside.tokens c.self.inside.token_names c.self.inside.marks) c.«add-port».result (record { birth = c.args.birth; kind = c.args.kind; pair = None; connection = c.args.connection; context = 0; creator = c.args.creator; completed = false; security = Unsecured }) refl here.connection)) refl);
}

pub returns-clause-rows : goal.returns-clause-rows
returns-clause-rows c =
    let there = rw (← c.self.view_is) at c.requires in
    rw (← c.self.view_is, (makes.created c.self.inside.ports c.«add-port».new.self c.set_creator.new.self c.«add-port».result c.args.kind c.args.birth c.args.connection c.args.creator c.«add-port».ensures.vacant c.«add-port».ensures.table c.set_creator.ensures)) (makes.makes (tables_of c.self.inside.procs c.self.inside.parts.items c.self.inside.ports c.self.inside.waits c.self.inside.names c.self.inside.sections c.self.inside.tokens c.self.inside.token_names c.self.inside.marks) c.self.invariant.kept.named c.«add-port».result (record { birth = c.args.birth; kind = c.args.kind; pair = None; connection = c.args.connection; context = 0; creator = c.args.creator; completed = false; security = Unsecured }) (c.self.inside.ports.port_room - 1) (c.self.inside.ports.ports_made + 1) (makes.refs_stand (tables_of c.self.inside.procs c.self.inside.parts.items c.self.inside.ports c.self.inside.waits c.self.inside.names c.self.inside.sections c.self.inside.tokens c.self.inside.token_names c.self.inside.marks) c.«add-port».result (record { birth = c.args.birth; kind = c.args.kind; pair = None; connection = c.args.connection; context = 0; creator = c.args.creator; completed = false; security = Unsecured }) refl there.connection))

pub returns-clause-name : goal.returns-clause-name
returns-clause-name c = rw (makes.created c.self.inside.ports c.«add-port».new.self c.set_creator.new.self c.«add-port».result c.args.kind c.args.birth c.args.connection c.args.creator c.«add-port».ensures.vacant c.«add-port».ensures.table c.set_creator.ensures) (makes.name_new (tables_of c.self.inside.procs c.self.inside.parts.items c.self.inside.ports c.self.inside.waits c.self.inside.names c.self.inside.sections c.self.inside.tokens c.self.inside.token_names c.self.inside.marks) c.self.invariant.kept.named c.«add-port».result (record { birth = c.args.birth; kind = c.args.kind; pair = None; connection = c.args.connection; context = 0; creator = c.args.creator; completed = false; security = Unsecured }) (c.self.inside.ports.port_room - 1) (c.self.inside.ports.ports_made + 1) (makes.vacant c.«add-port».result (tables_of c.self.inside.procs c.self.inside.parts.items c.self.inside.ports c.self.inside.waits c.self.inside.names c.self.inside.sections c.self.inside.tokens c.self.inside.token_names c.self.inside.marks) c.«add-port».ensures.vacant))

pub returns-clause-stands : goal.returns-clause-stands
returns-clause-stands c = rw (makes.created c.self.inside.ports c.«add-port».new.self c.set_creator.new.self c.«add-port».result c.args.kind c.args.birth c.args.connection c.args.creator c.«add-port».ensures.vacant c.«add-port».ensures.table c.set_creator.ensures) (makes.stands_new (tables_of c.self.inside.procs c.self.inside.parts.items c.self.inside.ports c.self.inside.waits c.self.inside.names c.self.inside.sections c.self.inside.tokens c.self.inside.token_names c.self.inside.marks) c.self.invariant.kept.named c.«add-port».result (record { birth = c.args.birth; kind = c.args.kind; pair = None; connection = c.args.connection; context = 0; creator = c.args.creator; completed = false; security = Unsecured }) (c.self.inside.ports.port_room - 1) (c.self.inside.ports.ports_made + 1) (makes.vacant c.«add-port».result (tables_of c.self.inside.procs c.self.inside.parts.items c.self.inside.ports c.self.inside.waits c.self.inside.names c.self.inside.sections c.self.inside.tokens c.self.inside.token_names c.self.inside.marks) c.«add-port».ensures.vacant))

pub returns-clause-others : goal.returns-clause-others
returns-clause-others c = rw (← c.self.view_is, (makes.created c.self.inside.ports c.«add-port».new.self c.set_creator.new.self c.«add-port».result c.args.kind c.args.birth c.args.connection c.args.creator c.«add-port».ensures.vacant c.«add-port».ensures.table c.set_creator.ensures)) (makes.keeps (tables_of c.self.inside.procs c.self.inside.parts.items c.self.inside.ports c.self.inside.waits c.self.inside.names c.self.inside.sections c.self.inside.tokens c.self.inside.token_names c.self.inside.marks) c.self.invariant.kept.named c.«add-port».result (record { birth = c.args.birth; kind = c.args.kind; pair = None; connection = c.args.connection; context = 0; creator = c.args.creator; completed = false; security = Unsecured }) (c.self.inside.ports.port_room - 1) (c.self.inside.ports.ports_made + 1))

pub returns-clause-room : goal.returns-clause-room
returns-clause-room c =
    let there = rw (← c.self.view_is) at c.requires in
    let made = makes.makes (tables_of c.self.inside.procs c.self.inside.parts.items c.self.inside.ports c.self.inside.waits c.self.inside.names c.self.inside.sections c.self.inside.tokens c.self.inside.token_names c.self.inside.marks) c.self.invariant.kept.named c.«add-port».result (record { birth = c.args.birth; kind = c.args.kind; pair = None; connection = c.args.connection; context = 0; creator = c.args.creator; completed = false; security = Unsecured }) (c.self.inside.ports.port_room - 1) (c.self.inside.ports.ports_made + 1) (makes.refs_stand (tables_of c.self.inside.procs c.self.inside.parts.items c.self.inside.ports c.self.inside.waits c.self.inside.names c.self.inside.sections c.self.inside.tokens c.self.inside.token_names c.self.inside.marks) c.«add-port».result (record { birth = c.args.birth; kind = c.args.kind; pair = None; connection = c.args.connection; context = 0; creator = c.args.creator; completed = false; security = Unsecured }) refl there.connection) in
    rw (← c.self.view_is, (makes.created c.self.inside.ports c.«add-port».new.self c.set_creator.new.self c.«add-port».result c.args.kind c.args.birth c.args.connection c.args.creator c.«add-port».ensures.vacant c.«add-port».ensures.table c.set_creator.ensures), ap (λ (v : World). v.waits) made, ap (λ (v : World). v.messages) made, ap (λ (v : World). v.ports) made) (rooms.room_port _ _ _ _ _ _ _ _ _ _ _ (rows_by (tables_of c.self.inside.procs c.self.inside.parts.items c.self.inside.ports c.self.inside.waits c.self.inside.names c.self.inside.sections c.self.inside.tokens c.self.inside.token_names c.self.inside.marks)) _ (shown_port (birth_of (births_of (tables_of c.self.inside.procs c.self.inside.parts.items c.self.inside.ports c.self.inside.waits c.self.inside.names c.self.inside.sections c.self.inside.tokens c.self.inside.token_names c.self.inside.marks))) (c.«add-port».result, (record { birth = c.args.birth; kind = c.args.kind; pair = None; connection = c.args.connection; context = 0; creator = c.args.creator; completed = false; security = Unsecured }))))

pub returns-clause-made : goal.returns-clause-made
returns-clause-made c =
    let there = rw (← c.self.view_is) at c.requires in
    let owed = steps.made_owed (tables_of c.self.inside.procs c.self.inside.parts.items c.self.inside.ports c.self.inside.waits c.self.inside.names c.self.inside.sections c.self.inside.tokens c.self.inside.token_names c.self.inside.marks) c.self.inside.calls c.self.inside.made c.self.invariant.kept c.«add-port».result (record { birth = c.args.birth; kind = c.args.kind; pair = None; connection = c.args.connection; context = 0; creator = c.args.creator; completed = false; security = Unsecured }) (makes.refs_stand (tables_of c.self.inside.procs c.self.inside.parts.items c.self.inside.ports c.self.inside.waits c.self.inside.names c.self.inside.sections c.self.inside.tokens c.self.inside.token_names c.self.inside.marks) c.«add-port».result (record { birth = c.args.birth; kind = c.args.kind; pair = None; connection = c.args.connection; context = 0; creator = c.args.creator; completed = false; security = Unsecured }) refl there.connection) there.fresh in
    rw (← c.self.view_is, (makes.created c.self.inside.ports c.«add-port».new.self c.set_creator.new.self c.«add-port».result c.args.kind c.args.birth c.args.connection c.args.creator c.«add-port».ensures.vacant c.«add-port».ensures.table c.set_creator.ensures)) (omega (arith, owed))
