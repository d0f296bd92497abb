use Rattle.std.proofs.Common.{length, refl, ap, arith}
use Rattle.lpc_model.specs.World.{World}
use Rattle.lpc_sections.specs.Sections.{SectionRow}
use Rattle.lpc_slots.specs.Table.{Table, listed}
use Rattle.lpc_slots.proofs.Same.{vacant}
use Rattle.lpc_rows.specs.Kept.{owed_rows}
use Rattle.lpc_rows.specs.Shown.{tables_of}
use Rattle.lpc_rows.proofs.Capacities as capacities
use Rattle.lpc_rows.proofs.Sections as sections
use Rattle.lpc_rows.proofs.Suspected as suspected
use Rattle.lpc_rows.specs.Kept.{rows_by}
use Rattle.lpc_rows.specs.Shown.{births_of}
use Rattle.lpc_rows.specs.Shown.{shown_section}
use Rattle.lpc_model.specs.Basics.{AddsSection}
use Rattle.lpc_rows.proofs.Lived as lived
use Rattle.lpc_world.proofs.world.World.sections_insert_reserved.Goals as goal

pub insert_reserved-requires-clause-few : goal.insert_reserved-requires-clause-few
insert_reserved-requires-clause-few c =
    let counted = c.self.invariant.kept.mapped.sections_made in
    let few = c.self.invariant.kept.lawful.few in
    let budget = c.self.invariant.kept.lawful.budget in
    omega (arith, counted, few, budget)

pub invariant_of-self : goal.invariant_of-self
invariant_of-self c = record {
  kept =
      let there = rw (← c.self.view_is) at c.requires in
      sections.added_lawful (tables_of c.self.inside.procs c.self.inside.parts.items c.self.inside.ports c.self.inside.waits c.self.inside.names c.self.inside.sections c.self.inside.tokens c.self.inside.token_names c.self.inside.marks) c.self.inside.calls c.self.inside.made c.self.invariant.kept c.insert_reserved.result c.args.section c.insert_reserved.new.self c.insert_reserved.ensures.table c.insert_reserved.ensures.listed c.insert_reserved.ensures.vacant there.zeros there.fresh there.drawn there.budget;
  watched = suspected.step-to (rows_by (tables_of c.self.inside.procs c.self.inside.parts.items c.self.inside.ports c.self.inside.waits c.self.inside.names c.self.inside.sections c.self.inside.tokens c.self.inside.token_names c.self.inside.marks)) (births_of (tables_of c.self.inside.procs c.self.inside.parts.items c.self.inside.ports c.self.inside.waits c.self.inside.names c.self.inside.sections c.self.inside.tokens c.self.inside.token_names c.self.inside.marks)).ports c.self.inside.suspects c.self.invariant.watched _ (AddsSection (shown_section (c.insert_reserved.result, c.args.section))) (sections.adds (tables_of c.self.inside.procs c.self.inside.parts.items c.self.inside.ports c.self.inside.waits c.self.inside.names c.self.inside.sections c.self.inside.tokens c.self.inside.token_names c.self.inside.marks) c.self.invariant.kept.named c.insert_reserved.result c.args.section c.insert_reserved.new.self c.insert_reserved.ensures.listed (vacant c.self.inside.sections c.insert_reserved.result c.insert_reserved.ensures.vacant) c.requires.zeros) refl;
  lived = λ calm. lived.step-to (rows_by (tables_of c.self.inside.procs c.self.inside.parts.items c.self.inside.ports c.self.inside.waits c.self.inside.names c.self.inside.sections c.self.inside.tokens c.self.inside.token_names c.self.inside.marks)) (c.self.invariant.lived calm) _ (AddsSection (shown_section (c.insert_reserved.result, c.args.section))) (sections.adds (tables_of c.self.inside.procs c.self.inside.parts.items c.self.inside.ports c.self.inside.waits c.self.inside.names c.self.inside.sections c.self.inside.tokens c.self.inside.token_names c.self.inside.marks) c.self.invariant.kept.named c.insert_reserved.result c.args.section c.insert_reserved.new.self c.insert_reserved.ensures.listed (vacant c.self.inside.sections c.insert_reserved.result c.insert_reserved.ensures.vacant) c.requires.zeros) refl;
}

pub returns-clause-rows : goal.returns-clause-rows
returns-clause-rows c = rw (← c.self.view_is) (sections.adds (tables_of c.self.inside.procs c.self.inside.parts.items c.self.inside.ports c.self.inside.waits c.self.inside.names c.self.inside.sections c.self.inside.tokens c.self.inside.token_names c.self.inside.marks) c.self.invariant.kept.named c.insert_reserved.result c.args.section c.insert_reserved.new.self c.insert_reserved.ensures.listed (vacant c.self.inside.sections c.insert_reserved.result c.insert_reserved.ensures.vacant) c.requires.zeros)

pub returns-clause-name : goal.returns-clause-name
returns-clause-name c = sections.name_new (tables_of c.self.inside.procs c.self.inside.parts.items c.self.inside.ports c.self.inside.waits c.self.inside.names c.self.inside.sections c.self.inside.tokens c.self.inside.token_names c.self.inside.marks) c.self.invariant.kept.named c.insert_reserved.result c.args.section c.insert_reserved.new.self c.insert_reserved.ensures.listed (vacant c.self.inside.sections c.insert_reserved.result c.insert_reserved.ensures.vacant)

pub returns-clause-stands : goal.returns-clause-stands
returns-clause-stands c = sections.stands_new (tables_of c.self.inside.procs c.self.inside.parts.items c.self.inside.ports c.self.inside.waits c.self.inside.names c.self.inside.sections c.self.inside.tokens c.self.inside.token_names c.self.inside.marks) c.self.invariant.kept.named c.insert_reserved.result c.args.section c.insert_reserved.new.self c.insert_reserved.ensures.listed (vacant c.self.inside.sections c.insert_reserved.result c.insert_reserved.ensures.vacant)

pub returns-clause-others : goal.returns-clause-others
returns-clause-others c = rw (← c.self.view_is) (sections.keeps (tables_of c.self.inside.procs c.self.inside.parts.items c.self.inside.ports c.self.inside.waits c.self.inside.names c.self.inside.sections c.self.inside.tokens c.self.inside.token_names c.self.inside.marks) c.self.invariant.kept.named c.insert_reserved.result c.args.section c.insert_reserved.new.self c.insert_reserved.ensures.listed (vacant c.self.inside.sections c.insert_reserved.result c.insert_reserved.ensures.vacant))

pub returns-clause-ports : goal.returns-clause-ports
returns-clause-ports c = rw (← c.self.view_is) refl

pub returns-clause-room : goal.returns-clause-room
returns-clause-room c =
    let added = sections.adds (tables_of c.self.inside.procs c.self.inside.parts.items c.self.inside.ports c.self.inside.waits c.self.inside.names c.self.inside.sections c.self.inside.tokens c.self.inside.token_names c.self.inside.marks) c.self.invariant.kept.named c.insert_reserved.result c.args.section c.insert_reserved.new.self c.insert_reserved.ensures.listed (vacant c.self.inside.sections c.insert_reserved.result c.insert_reserved.ensures.vacant) c.requires.zeros in
    let spare = ap (λ (t : Table SectionRow). t.spare) c.insert_reserved.ensures.table in
    rw (← c.self.view_is, ap (λ (v : World). v.waits) added, ap (λ (v : World). v.messages) added, ap (λ (v : World). v.ports) added) (record {
      for_processes = omega arith;
      for_threads = omega arith;
      for_waits = omega arith;
      for_messages = omega arith;
      for_ports = omega arith;
      for_names = omega arith;
      for_sections = omega (arith, spare);
      for_tokens = omega arith;
      for_token_names = omega arith;
      for_handles = λ pid. omega arith;
      for_views = λ pid. omega arith;
    })

pub returns-clause-made : goal.returns-clause-made
returns-clause-made c =
    let owed = ap owed_rows (sections.adds (tables_of c.self.inside.procs c.self.inside.parts.items c.self.inside.ports c.self.inside.waits c.self.inside.names c.self.inside.sections c.self.inside.tokens c.self.inside.token_names c.self.inside.marks) c.self.invariant.kept.named c.insert_reserved.result c.args.section c.insert_reserved.new.self c.insert_reserved.ensures.listed (vacant c.self.inside.sections c.insert_reserved.result c.insert_reserved.ensures.vacant) c.requires.zeros) in
    rw (← c.self.view_is) (omega (arith, owed))

pub returns-clause-capacity : goal.returns-clause-capacity
returns-clause-capacity c =
    let there = rw (← c.self.view_is) at c.requires.room in
    let spare = ap (λ (t : Table SectionRow). t.spare) c.insert_reserved.ensures.table in
    let rows = ap length c.insert_reserved.ensures.listed in
    let more = capacities.one_more c.self.inside.sections.spare (listed c.self.inside.sections) (c.insert_reserved.result, c.args.section) there in
    rw (← c.self.view_is) (capacities.of_sections (tables_of c.self.inside.procs c.self.inside.parts.items c.self.inside.ports c.self.inside.waits c.self.inside.names c.self.inside.sections c.self.inside.tokens c.self.inside.token_names c.self.inside.marks) c.self.inside.parts.room c.insert_reserved.new.self (omega (arith, spare, rows, more)))

pub returns-clause-tokens : goal.returns-clause-tokens
returns-clause-tokens c = rw (← c.self.view_is) refl
