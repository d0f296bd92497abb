use Rattle.std.proofs.Common.{arith}
use Rattle.std.proofs.Common.{◌≡◌, ◌+◌, length, sym, ap, ◌∙◌}
use Rattle.lpc_ports.specs.Table.{PortTable}
use Rattle.lpc_rows.proofs.Capacities as capacities
use Rattle.std.proofs.lemmas.Bool.{or_parts}
use Rattle.lpc_model.specs.Found.{is_port}
use Rattle.lpc_model.specs.World.{World}
use Rattle.lpc_rows.specs.Kept.{rows_by}
use Rattle.lpc_rows.specs.Names.{name_of}
use Rattle.lpc_rows.specs.Shown.{births_of, tables_of}
use Rattle.lpc_rows.proofs.Frees as frees
use Rattle.lpc_rows.proofs.ShownViews.{owned_has}
use Rattle.lpc_rows.proofs.Unheld as unheld
use Rattle.lpc_rows.proofs.Suspected as suspected
use Rattle.lpc_rows.proofs.Suspecting as suspecting
use Rattle.std.proofs.Common.{subst}
use Rattle.lpc_rows.specs.Suspects.{AreLivesWatched}
use Rattle.lpc_world.proofs.world.World.ports_free.Goals as goal

pub free-requires : goal.free-requires
free-requires c =
    let h = rw (← c.self.view_is) at c.requires in
    let whole = or_parts _ _ h.free in
    let all = or_parts _ _ whole.0 in
    let off = or_parts _ _ all.0 in
    let none = sym (unheld.held_is (tables_of c.self.inside.procs c.self.inside.parts.items c.self.inside.ports c.self.inside.waits c.self.inside.names c.self.inside.sections c.self.inside.tokens c.self.inside.token_names c.self.inside.marks) c.self.invariant.kept.named c.args.port h.stands) ∙ off.0 in
    record { «open» = unheld.has_row (tables_of c.self.inside.procs c.self.inside.parts.items c.self.inside.ports c.self.inside.waits c.self.inside.names c.self.inside.sections c.self.inside.tokens c.self.inside.token_names c.self.inside.marks) c.self.invariant.kept.named c.args.port h.stands; empty = unheld.empty_queue c.args.port (tables_of c.self.inside.procs c.self.inside.parts.items c.self.inside.ports c.self.inside.waits c.self.inside.names c.self.inside.sections c.self.inside.tokens c.self.inside.token_names c.self.inside.marks) none }

pub invariant_of-self : goal.invariant_of-self
invariant_of-self c = record {
  kept =
      let h = rw (← c.self.view_is) at c.requires in
      let whole = or_parts _ _ h.free in
      let all = or_parts _ _ whole.0 in
      let off = or_parts _ _ all.0 in
      let none = sym (unheld.held_is (tables_of c.self.inside.procs c.self.inside.parts.items c.self.inside.ports c.self.inside.waits c.self.inside.names c.self.inside.sections c.self.inside.tokens c.self.inside.token_names c.self.inside.marks) c.self.invariant.kept.named c.args.port h.stands) ∙ off.0 in
      let owned = sym (owned_has (tables_of c.self.inside.procs c.self.inside.parts.items c.self.inside.ports c.self.inside.waits c.self.inside.names c.self.inside.sections c.self.inside.tokens c.self.inside.token_names c.self.inside.marks) c.self.invariant.kept.named c.args.port h.stands) ∙ all.1 in
      rw c.free.ensures.table (frees.freed_lawful (tables_of c.self.inside.procs c.self.inside.parts.items c.self.inside.ports c.self.inside.waits c.self.inside.names c.self.inside.sections c.self.inside.tokens c.self.inside.token_names c.self.inside.marks) c.self.inside.calls c.self.inside.made c.args.port (c.self.inside.ports.port_room + 1) c.self.invariant.kept h.stands none owned (frees.none_sent (rows_by (tables_of c.self.inside.procs c.self.inside.parts.items c.self.inside.ports c.self.inside.waits c.self.inside.names c.self.inside.sections c.self.inside.tokens c.self.inside.token_names c.self.inside.marks)) (name_of (births_of (tables_of c.self.inside.procs c.self.inside.parts.items c.self.inside.ports c.self.inside.waits c.self.inside.names c.self.inside.sections c.self.inside.tokens c.self.inside.token_names c.self.inside.marks)).ports c.args.port) h.free) off.1 whole.1);
  watched = let there = rw (← c.self.view_is) at c.requires in let found = rw (← c.self.view_is) at c.port-row.ensures.found in let pairs = rw (← c.self.view_is) at c.port-row.ensures.pair in let stood = rw (← c.self.view_is) at c.port-row.ensures.pair_stands in let connections = rw (← c.self.view_is) at c.port-row.ensures.connection in let stood' = rw (← c.self.view_is) at c.port-row.ensures.connection_stands in let whole = or_parts _ _ there.free in let all = or_parts _ _ whole.0 in let off = or_parts _ _ all.0 in let none = sym (unheld.held_is (tables_of c.self.inside.procs c.self.inside.parts.items c.self.inside.ports c.self.inside.waits c.self.inside.names c.self.inside.sections c.self.inside.tokens c.self.inside.token_names c.self.inside.marks) c.self.invariant.kept.named c.args.port there.stands) ∙ off.0 in let owned = sym (owned_has (tables_of c.self.inside.procs c.self.inside.parts.items c.self.inside.ports c.self.inside.waits c.self.inside.names c.self.inside.sections c.self.inside.tokens c.self.inside.token_names c.self.inside.marks) c.self.invariant.kept.named c.args.port there.stands) ∙ all.1 in rw (c.free.ensures.table, c.add_some-2.ensures, c.add_some.ensures) (suspected.freed-to (rows_by (tables_of c.self.inside.procs c.self.inside.parts.items c.self.inside.ports c.self.inside.waits c.self.inside.names c.self.inside.sections c.self.inside.tokens c.self.inside.token_names c.self.inside.marks)) (births_of (tables_of c.self.inside.procs c.self.inside.parts.items c.self.inside.ports c.self.inside.waits c.self.inside.names c.self.inside.sections c.self.inside.tokens c.self.inside.token_names c.self.inside.marks)).ports c.self.inside.suspects c.self.invariant.watched _ _ c.args.port _ c.port-row.result.now.pair c.port-row.result.now.connection (suspecting.single-ports (tables_of c.self.inside.procs c.self.inside.parts.items c.self.inside.ports c.self.inside.waits c.self.inside.names c.self.inside.sections c.self.inside.tokens c.self.inside.token_names c.self.inside.marks) c.self.invariant.kept.named) found pairs connections stood stood' (frees.keeps (tables_of c.self.inside.procs c.self.inside.parts.items c.self.inside.ports c.self.inside.waits c.self.inside.names c.self.inside.sections c.self.inside.tokens c.self.inside.token_names c.self.inside.marks) c.self.invariant.kept.named c.args.port (c.self.inside.ports.port_room + 1)) (frees.frees (tables_of c.self.inside.procs c.self.inside.parts.items c.self.inside.ports c.self.inside.waits c.self.inside.names c.self.inside.sections c.self.inside.tokens c.self.inside.token_names c.self.inside.marks) c.self.invariant.kept.named c.args.port (c.self.inside.ports.port_room + 1) none owned there.stands));
  lived = let there = rw (← c.self.view_is) at c.requires in let found = rw (← c.self.view_is) at c.port-row.ensures.found in let pairs = rw (← c.self.view_is) at c.port-row.ensures.pair in let stood = rw (← c.self.view_is) at c.port-row.ensures.pair_stands in let connections = rw (← c.self.view_is) at c.port-row.ensures.connection in let stood' = rw (← c.self.view_is) at c.port-row.ensures.connection_stands in let whole = or_parts _ _ there.free in let all = or_parts _ _ whole.0 in let off = or_parts _ _ all.0 in let none = sym (unheld.held_is (tables_of c.self.inside.procs c.self.inside.parts.items c.self.inside.ports c.self.inside.waits c.self.inside.names c.self.inside.sections c.self.inside.tokens c.self.inside.token_names c.self.inside.marks) c.self.invariant.kept.named c.args.port there.stands) ∙ off.0 in let owned = sym (owned_has (tables_of c.self.inside.procs c.self.inside.parts.items c.self.inside.ports c.self.inside.waits c.self.inside.names c.self.inside.sections c.self.inside.tokens c.self.inside.token_names c.self.inside.marks) c.self.invariant.kept.named c.args.port there.stands) ∙ all.1 in rw c.free.ensures.table (λ calm. subst (λ w. AreLivesWatched w c.self.inside.lives) (sym (frees.frees (tables_of c.self.inside.procs c.self.inside.parts.items c.self.inside.ports c.self.inside.waits c.self.inside.names c.self.inside.sections c.self.inside.tokens c.self.inside.token_names c.self.inside.marks) c.self.invariant.kept.named c.args.port (c.self.inside.ports.port_room + 1) none owned there.stands)) (let held = c.self.invariant.lived calm in record { threads = held.threads; processes = held.processes }));
}

pub returns-clause-rows : goal.returns-clause-rows
returns-clause-rows c =
    let h = rw (← c.self.view_is) at c.requires in
    let whole = or_parts _ _ h.free in
    let all = or_parts _ _ whole.0 in
    let off = or_parts _ _ all.0 in
    let none = sym (unheld.held_is (tables_of c.self.inside.procs c.self.inside.parts.items c.self.inside.ports c.self.inside.waits c.self.inside.names c.self.inside.sections c.self.inside.tokens c.self.inside.token_names c.self.inside.marks) c.self.invariant.kept.named c.args.port h.stands) ∙ off.0 in
    let owned = sym (owned_has (tables_of c.self.inside.procs c.self.inside.parts.items c.self.inside.ports c.self.inside.waits c.self.inside.names c.self.inside.sections c.self.inside.tokens c.self.inside.token_names c.self.inside.marks) c.self.invariant.kept.named c.args.port h.stands) ∙ all.1 in
    rw (← c.self.view_is, c.free.ensures.table) (frees.frees (tables_of c.self.inside.procs c.self.inside.parts.items c.self.inside.ports c.self.inside.waits c.self.inside.names c.self.inside.sections c.self.inside.tokens c.self.inside.token_names c.self.inside.marks) c.self.invariant.kept.named c.args.port (c.self.inside.ports.port_room + 1) none owned h.stands)

pub returns-clause-others : goal.returns-clause-others
returns-clause-others c = rw (← c.self.view_is, c.free.ensures.table) (frees.keeps (tables_of c.self.inside.procs c.self.inside.parts.items c.self.inside.ports c.self.inside.waits c.self.inside.names c.self.inside.sections c.self.inside.tokens c.self.inside.token_names c.self.inside.marks) c.self.invariant.kept.named c.args.port (c.self.inside.ports.port_room + 1))

pub returns-clause-room : goal.returns-clause-room
returns-clause-room c =
    let h = rw (← c.self.view_is) at c.requires in
    let whole = or_parts _ _ h.free in
    let all = or_parts _ _ whole.0 in
    let off = or_parts _ _ all.0 in
    let none = sym (unheld.held_is (tables_of c.self.inside.procs c.self.inside.parts.items c.self.inside.ports c.self.inside.waits c.self.inside.names c.self.inside.sections c.self.inside.tokens c.self.inside.token_names c.self.inside.marks) c.self.invariant.kept.named c.args.port h.stands) ∙ off.0 in
    let owned = sym (owned_has (tables_of c.self.inside.procs c.self.inside.parts.items c.self.inside.ports c.self.inside.waits c.self.inside.names c.self.inside.sections c.self.inside.tokens c.self.inside.token_names c.self.inside.marks) c.self.invariant.kept.named c.args.port h.stands) ∙ all.1 in
    let freed = frees.frees (tables_of c.self.inside.procs c.self.inside.parts.items c.self.inside.ports c.self.inside.waits c.self.inside.names c.self.inside.sections c.self.inside.tokens c.self.inside.token_names c.self.inside.marks) c.self.invariant.kept.named c.args.port (c.self.inside.ports.port_room + 1) none owned h.stands in
    rw (← c.self.view_is, c.free.ensures.table, ap (λ (v : World). v.waits) freed, ap (λ (v : World). v.messages) freed, ap (λ (v : World). v.ports) freed) (frees.room_freed _ _ _ _ _ _ _ _ _ _ _ (rows_by (tables_of c.self.inside.procs c.self.inside.parts.items c.self.inside.ports c.self.inside.waits c.self.inside.names c.self.inside.sections c.self.inside.tokens c.self.inside.token_names c.self.inside.marks)) _ (is_port (name_of (births_of (tables_of c.self.inside.procs c.self.inside.parts.items c.self.inside.ports c.self.inside.waits c.self.inside.names c.self.inside.sections c.self.inside.tokens c.self.inside.token_names c.self.inside.marks)).ports c.args.port)))

pub returns-clause-made : goal.returns-clause-made
returns-clause-made c =
    let h = rw (← c.self.view_is) at c.requires in
    let whole = or_parts _ _ h.free in
    let all = or_parts _ _ whole.0 in
    let off = or_parts _ _ all.0 in
    let none = sym (unheld.held_is (tables_of c.self.inside.procs c.self.inside.parts.items c.self.inside.ports c.self.inside.waits c.self.inside.names c.self.inside.sections c.self.inside.tokens c.self.inside.token_names c.self.inside.marks) c.self.invariant.kept.named c.args.port h.stands) ∙ off.0 in
    let owned = sym (owned_has (tables_of c.self.inside.procs c.self.inside.parts.items c.self.inside.ports c.self.inside.waits c.self.inside.names c.self.inside.sections c.self.inside.tokens c.self.inside.token_names c.self.inside.marks) c.self.invariant.kept.named c.args.port h.stands) ∙ all.1 in
    let owed = frees.freed_owed (tables_of c.self.inside.procs c.self.inside.parts.items c.self.inside.ports c.self.inside.waits c.self.inside.names c.self.inside.sections c.self.inside.tokens c.self.inside.token_names c.self.inside.marks) c.self.invariant.kept.named c.args.port (c.self.inside.ports.port_room + 1) none owned h.stands in
    rw (← c.self.view_is, c.free.ensures.table) (omega (arith, owed))

pub returns-clause-capacity : goal.returns-clause-capacity
returns-clause-capacity c =
    let fewer = c.free.ensures.fewer in
    let ports : c.free.new.self.port_room + length c.free.new.self.ports ≡ c.self.inside.ports.port_room + length c.self.inside.ports.ports =
    ap (λ (s : PortTable). s.port_room + length c.free.new.self.ports) c.free.ensures.table ∙ omega (arith, fewer) in
    rw (← c.self.view_is) (capacities.of_ports (tables_of c.self.inside.procs c.self.inside.parts.items c.self.inside.ports c.self.inside.waits c.self.inside.names c.self.inside.sections c.self.inside.tokens c.self.inside.token_names c.self.inside.marks) c.self.inside.parts.room c.free.new.self ports (ap (λ (s : PortTable). s.message_room + length s.messages) c.free.ensures.table))
