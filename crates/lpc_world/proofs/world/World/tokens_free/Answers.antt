use Rattle.std.proofs.Common.{refl, ap, arith}
use Rattle.lpc_model.specs.World.{World}
use Rattle.lpc_slots.specs.Table.{Table}
use Rattle.lpc_slots.proofs.Same.{removed_rows}
use Rattle.lpc_rows.specs.Kept.{owed_rows}
use Rattle.lpc_rows.specs.Shown.{tables_of}
use Rattle.lpc_rows.proofs.TokenFrees as frees
use Rattle.lpc_tokens.specs.declared.token_row.TokenRow.{TokenRow}
use Rattle.lpc_rows.proofs.Suspected as suspected
use Rattle.lpc_rows.specs.Kept.{rows_by}
use Rattle.lpc_rows.specs.Shown.{births_of}
use Rattle.lpc_rows.specs.Names.{name_of}
use Rattle.std.proofs.Common.{subst}
use Rattle.lpc_rows.specs.Suspects.{AreLivesWatched}
use Rattle.std.proofs.Common.{sym}
use Rattle.lpc_world.proofs.world.World.tokens_free.Goals as goal

pub invariant_of-self : goal.invariant_of-self
invariant_of-self c = record {
  kept =
      let h = rw (← c.self.view_is) at c.requires in
      let less = removed_rows c.self.inside.tokens c.remove.new.self c.args.token c.remove.result c.remove.ensures.value c.remove.ensures.table c.remove.ensures.listed in
      let unused = frees.unused (tables_of c.self.inside.procs c.self.inside.parts.items c.self.inside.ports c.self.inside.waits c.self.inside.names c.self.inside.sections c.self.inside.tokens c.self.inside.token_names c.self.inside.marks) c.self.invariant.kept.named c.args.token h.stands h.handles in
      let table = frees.removed_there (tables_of c.self.inside.procs c.self.inside.parts.items c.self.inside.ports c.self.inside.waits c.self.inside.names c.self.inside.sections c.self.inside.tokens c.self.inside.token_names c.self.inside.marks) c.self.invariant.kept.named c.args.token h.stands c.remove.result c.remove.new.self c.remove.ensures.value c.remove.ensures.table in
      frees.freed_lawful (tables_of c.self.inside.procs c.self.inside.parts.items c.self.inside.ports c.self.inside.waits c.self.inside.names c.self.inside.sections c.self.inside.tokens c.self.inside.token_names c.self.inside.marks) c.self.invariant.kept.named c.args.token c.remove.new.self less unused c.self.inside.calls c.self.inside.made c.self.invariant.kept h.stands table;
  watched = let h = rw (← c.self.view_is) at c.requires in let less = removed_rows c.self.inside.tokens c.remove.new.self c.args.token c.remove.result c.remove.ensures.value c.remove.ensures.table c.remove.ensures.listed in let unused = frees.unused (tables_of c.self.inside.procs c.self.inside.parts.items c.self.inside.ports c.self.inside.waits c.self.inside.names c.self.inside.sections c.self.inside.tokens c.self.inside.token_names c.self.inside.marks) c.self.invariant.kept.named c.args.token h.stands h.handles in let table = frees.removed_there (tables_of c.self.inside.procs c.self.inside.parts.items c.self.inside.ports c.self.inside.waits c.self.inside.names c.self.inside.sections c.self.inside.tokens c.self.inside.token_names c.self.inside.marks) c.self.invariant.kept.named c.args.token h.stands c.remove.result c.remove.new.self c.remove.ensures.value c.remove.ensures.table in suspected.untokened-to (rows_by (tables_of c.self.inside.procs c.self.inside.parts.items c.self.inside.ports c.self.inside.waits c.self.inside.names c.self.inside.sections c.self.inside.tokens c.self.inside.token_names c.self.inside.marks)) (births_of (tables_of c.self.inside.procs c.self.inside.parts.items c.self.inside.ports c.self.inside.waits c.self.inside.names c.self.inside.sections c.self.inside.tokens c.self.inside.token_names c.self.inside.marks)).ports c.self.inside.suspects c.self.invariant.watched _ (name_of (births_of (tables_of c.self.inside.procs c.self.inside.parts.items c.self.inside.ports c.self.inside.waits c.self.inside.names c.self.inside.sections c.self.inside.tokens c.self.inside.token_names c.self.inside.marks)).tokens c.args.token) (frees.frees (tables_of c.self.inside.procs c.self.inside.parts.items c.self.inside.ports c.self.inside.waits c.self.inside.names c.self.inside.sections c.self.inside.tokens c.self.inside.token_names c.self.inside.marks) c.self.invariant.kept.named c.args.token c.remove.new.self less unused h.stands);
  lived = let h = rw (← c.self.view_is) at c.requires in let less = removed_rows c.self.inside.tokens c.remove.new.self c.args.token c.remove.result c.remove.ensures.value c.remove.ensures.table c.remove.ensures.listed in let unused = frees.unused (tables_of c.self.inside.procs c.self.inside.parts.items c.self.inside.ports c.self.inside.waits c.self.inside.names c.self.inside.sections c.self.inside.tokens c.self.inside.token_names c.self.inside.marks) c.self.invariant.kept.named c.args.token h.stands h.handles in let table = frees.removed_there (tables_of c.self.inside.procs c.self.inside.parts.items c.self.inside.ports c.self.inside.waits c.self.inside.names c.self.inside.sections c.self.inside.tokens c.self.inside.token_names c.self.inside.marks) c.self.invariant.kept.named c.args.token h.stands c.remove.result c.remove.new.self c.remove.ensures.value c.remove.ensures.table in λ calm. subst (λ w. AreLivesWatched w c.self.inside.lives) (sym (frees.frees (tables_of c.self.inside.procs c.self.inside.parts.items c.self.inside.ports c.self.inside.waits c.self.inside.names c.self.inside.sections c.self.inside.tokens c.self.inside.token_names c.self.inside.marks) c.self.invariant.kept.named c.args.token c.remove.new.self less unused h.stands)) (let held = c.self.invariant.lived calm in record { threads = held.threads; processes = held.processes });
}

pub returns-clause-rows : goal.returns-clause-rows
returns-clause-rows c =
    let h = rw (← c.self.view_is) at c.requires in
    let less = removed_rows c.self.inside.tokens c.remove.new.self c.args.token c.remove.result c.remove.ensures.value c.remove.ensures.table c.remove.ensures.listed in
    let unused = frees.unused (tables_of c.self.inside.procs c.self.inside.parts.items c.self.inside.ports c.self.inside.waits c.self.inside.names c.self.inside.sections c.self.inside.tokens c.self.inside.token_names c.self.inside.marks) c.self.invariant.kept.named c.args.token h.stands h.handles in
    rw (← c.self.view_is) (frees.frees (tables_of c.self.inside.procs c.self.inside.parts.items c.self.inside.ports c.self.inside.waits c.self.inside.names c.self.inside.sections c.self.inside.tokens c.self.inside.token_names c.self.inside.marks) c.self.invariant.kept.named c.args.token c.remove.new.self less unused h.stands)

pub returns-clause-others : goal.returns-clause-others
returns-clause-others c =
    let h = rw (← c.self.view_is) at c.requires in
    let less = removed_rows c.self.inside.tokens c.remove.new.self c.args.token c.remove.result c.remove.ensures.value c.remove.ensures.table c.remove.ensures.listed in
    let unused = frees.unused (tables_of c.self.inside.procs c.self.inside.parts.items c.self.inside.ports c.self.inside.waits c.self.inside.names c.self.inside.sections c.self.inside.tokens c.self.inside.token_names c.self.inside.marks) c.self.invariant.kept.named c.args.token h.stands h.handles in
    rw (← c.self.view_is) (frees.keeps (tables_of c.self.inside.procs c.self.inside.parts.items c.self.inside.ports c.self.inside.waits c.self.inside.names c.self.inside.sections c.self.inside.tokens c.self.inside.token_names c.self.inside.marks) c.self.invariant.kept.named c.args.token c.remove.new.self less unused)

pub returns-clause-ports : goal.returns-clause-ports
returns-clause-ports c = rw (← c.self.view_is) refl

pub returns-clause-sections : goal.returns-clause-sections
returns-clause-sections c = rw (← c.self.view_is) refl

pub returns-clause-made : goal.returns-clause-made
returns-clause-made c =
    let h = rw (← c.self.view_is) at c.requires in
    let less = removed_rows c.self.inside.tokens c.remove.new.self c.args.token c.remove.result c.remove.ensures.value c.remove.ensures.table c.remove.ensures.listed in
    let unused = frees.unused (tables_of c.self.inside.procs c.self.inside.parts.items c.self.inside.ports c.self.inside.waits c.self.inside.names c.self.inside.sections c.self.inside.tokens c.self.inside.token_names c.self.inside.marks) c.self.invariant.kept.named c.args.token h.stands h.handles in
    let owed = ap owed_rows (frees.frees (tables_of c.self.inside.procs c.self.inside.parts.items c.self.inside.ports c.self.inside.waits c.self.inside.names c.self.inside.sections c.self.inside.tokens c.self.inside.token_names c.self.inside.marks) c.self.invariant.kept.named c.args.token c.remove.new.self less unused h.stands) in
    rw (← c.self.view_is) (omega (arith, owed))

pub returns-clause-room : goal.returns-clause-room
returns-clause-room c =
    let h = rw (← c.self.view_is) at c.requires in
    let less = removed_rows c.self.inside.tokens c.remove.new.self c.args.token c.remove.result c.remove.ensures.value c.remove.ensures.table c.remove.ensures.listed in
    let unused = frees.unused (tables_of c.self.inside.procs c.self.inside.parts.items c.self.inside.ports c.self.inside.waits c.self.inside.names c.self.inside.sections c.self.inside.tokens c.self.inside.token_names c.self.inside.marks) c.self.invariant.kept.named c.args.token h.stands h.handles in
    let freed = frees.frees (tables_of c.self.inside.procs c.self.inside.parts.items c.self.inside.ports c.self.inside.waits c.self.inside.names c.self.inside.sections c.self.inside.tokens c.self.inside.token_names c.self.inside.marks) c.self.invariant.kept.named c.args.token c.remove.new.self less unused h.stands in
    let table = frees.removed_there (tables_of c.self.inside.procs c.self.inside.parts.items c.self.inside.ports c.self.inside.waits c.self.inside.names c.self.inside.sections c.self.inside.tokens c.self.inside.token_names c.self.inside.marks) c.self.invariant.kept.named c.args.token h.stands c.remove.result c.remove.new.self c.remove.ensures.value c.remove.ensures.table in
    let spare = ap (λ (t : Table TokenRow). t.spare) table in
    rw (← c.self.view_is, ap (λ (v : World). v.waits) freed, ap (λ (v : World). v.messages) freed, ap (λ (v : World). v.ports) freed) (record {
      for_processes = omega arith;
      for_threads = omega arith;
      for_waits = omega arith;
      for_messages = omega arith;
      for_ports = omega arith;
      for_names = omega arith;
      for_sections = omega arith;
      for_tokens = omega (arith, spare);
      for_token_names = omega arith;
      for_handles = λ pid. omega arith;
      for_views = λ pid. omega arith;
    })
