use Rattle.std.proofs.Common.{refl, arith}
use Rattle.lpc_base.proofs.RowMaps.{push-map}
use Rattle.lpc_rows.specs.Shown.{shown_token_name, tables_of}
use Rattle.lpc_rows.proofs.NamedTokens as named
use Rattle.lpc_world.proofs.world.World.names_token.Goals as goal

pub add-requires-clause-new : goal.add-requires-clause-new
add-requires-clause-new c = named.none_named (tables_of c.self.inside.procs c.self.inside.parts.items c.self.inside.ports c.self.inside.waits c.self.inside.names c.self.inside.sections c.self.inside.tokens c.self.inside.token_names c.self.inside.marks) c.args.name.now (rw (← c.self.view_is) at c.requires.new)

pub invariant_of-self : goal.invariant_of-self
invariant_of-self c = record {
  kept =
      named.named_lawful (tables_of c.self.inside.procs c.self.inside.parts.items c.self.inside.ports c.self.inside.waits c.self.inside.names c.self.inside.sections c.self.inside.tokens c.self.inside.token_names c.self.inside.marks) c.self.inside.calls c.self.inside.made c.add.new.self c.self.invariant.kept;
  watched = c.self.invariant.watched;
  lived = λ calm. let held = c.self.invariant.lived calm in record { threads = held.threads; processes = held.processes };
}

pub returns-clause-rows : goal.returns-clause-rows
returns-clause-rows c = rw (← c.self.view_is, c.add.ensures.rows, push-map shown_token_name c.self.inside.token_names.rows (record { name = c.args.name.now; token = c.args.token })) refl

pub returns-clause-room : goal.returns-clause-room
returns-clause-room c =
    let less = c.add.ensures.spare in
    rw (← c.self.view_is) (record {
      for_processes = omega arith;
      for_threads = omega arith;
      for_waits = omega arith;
      for_messages = omega arith;
      for_ports = omega arith;
      for_names = omega arith;
      for_sections = omega arith;
      for_tokens = omega arith;
      for_token_names = less;
      for_handles = λ pid. omega arith;
      for_views = λ pid. omega arith;
    })
