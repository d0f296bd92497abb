use Rattle.std.proofs.Common.{refl, arith}
use Rattle.std.proofs.lemmas.List.{length-map}
use Rattle.lpc_slots.specs.Table.{listed}
use Rattle.lpc_rows.specs.Shown.{shown_section, tables_of}
use Rattle.lpc_rows.proofs.Sections as sections
use Rattle.lpc_world.proofs.world.World.sections_reserve.Goals as goal

pub invariant_of-self : goal.invariant_of-self
invariant_of-self c = record {
  kept =
      rw c.reserve.ensures.kept (sections.roomed_lawful (tables_of c.self.inside.procs c.self.inside.parts.items c.self.inside.ports c.self.inside.waits c.self.inside.names c.self.inside.sections c.self.inside.tokens c.self.inside.token_names c.self.inside.marks) c.self.inside.calls c.self.inside.made c.reserve.new.self.spare c.self.invariant.kept);
  watched = rw (c.reserve.ensures.kept) (c.self.invariant.watched);
  lived = rw (c.reserve.ensures.kept) (λ calm. let held = c.self.invariant.lived calm in record { threads = held.threads; processes = held.processes });
}

pub returns-clause-same : goal.returns-clause-same
returns-clause-same c = rw (← c.self.view_is, c.reserve.ensures.kept) (record { rows = refl; births = refl; calls = refl; made = refl; loose = refl })

pub returns-clause-room : goal.returns-clause-room
returns-clause-room c =
    let more = c.reserve.ensures.spare in
    rw (← c.self.view_is, c.reserve.ensures.kept) (record {
      for_processes = omega arith;
      for_threads = omega arith;
      for_waits = omega arith;
      for_messages = omega arith;
      for_ports = omega arith;
      for_names = omega arith;
      for_sections = more;
      for_tokens = omega arith;
      for_token_names = omega arith;
      for_handles = λ pid. omega arith;
      for_views = λ pid. omega arith;
    })

pub returns-clause-most : goal.returns-clause-most
returns-clause-most c =
    let rows = length-map (listed c.self.inside.sections) shown_section in
    rw (← c.self.view_is) (omega (arith, rows, c.reserve.ensures.most))

pub returns-clause-others : goal.returns-clause-others
returns-clause-others c = rw (← c.self.view_is, c.reserve.ensures.kept) refl

pub returns-clause-capacity : goal.returns-clause-capacity
returns-clause-capacity c = rw (← c.self.view_is, c.reserve.ensures.kept) refl

pub returns-clause-enough : goal.returns-clause-enough
returns-clause-enough c =
    λ some.
    let there = rw (← c.self.view_is) at some in
    let spare = c.reserve.ensures.enough there in
    rw (← c.self.view_is, c.reserve.ensures.kept, spare) refl
