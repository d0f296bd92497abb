use Rattle.std.proofs.Common.{refl, arith}
use Rattle.lpc_rows.specs.Shown.{tables_of}
use Rattle.lpc_rows.proofs.NamedTokens as named
use Rattle.lpc_world.proofs.world.World.token_names_reserve.Goals as goal

pub invariant_of-self : goal.invariant_of-self
invariant_of-self c = record {
  kept =
      named.named_lawful (tables_of c.self.inside.procs c.self.inside.parts.items c.self.inside.ports c.self.inside.waits c.self.inside.names c.self.inside.sections c.self.inside.tokens c.self.inside.token_names c.self.inside.marks) c.self.inside.calls c.self.inside.made c.reserve.new.self c.self.invariant.kept;
  watched = c.self.invariant.watched;
  lived = λ calm. let held = c.self.invariant.lived calm in record { threads = held.threads; processes = held.processes };
}

pub returns-clause-same : goal.returns-clause-same
returns-clause-same c = rw (← c.self.view_is, c.reserve.ensures.rows) (record { rows = refl; births = refl; calls = refl; made = refl; loose = refl })

pub returns-clause-room : goal.returns-clause-room
returns-clause-room c =
    let more = c.reserve.ensures.spare in
    rw (← c.self.view_is) (record {
      for_processes = omega arith;
      for_threads = omega arith;
      for_waits = omega arith;
      for_messages = omega arith;
      for_ports = omega arith;
      for_names = omega arith;
      for_sections = omega arith;
      for_tokens = omega arith;
      for_token_names = more;
      for_handles = λ pid. omega arith;
      for_views = λ pid. omega arith;
    })

pub returns-clause-others : goal.returns-clause-others
returns-clause-others c = rw (← c.self.view_is) refl

pub returns-clause-capacity : goal.returns-clause-capacity
returns-clause-capacity c = rw (← c.self.view_is) refl
