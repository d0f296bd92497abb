use Rattle.std.proofs.Common.{◌≡◌, arith}
use Rattle.lpc_base.specs.Rows.{has}
use Rattle.lpc_homes.specs.Parts.{has_name_of}
use Rattle.lpc_homes.specs.declared.object.Object.TheVariants as object
use Rattle.lpc_rows.specs.Shown.{tables_of}
use Rattle.lpc_rows.proofs.Unheld as unheld
use Rattle.lpc_world.proofs.world.World.is_used_by_row.Goals as goal
use Rattle.lpc_world.proofs.world.World.is_used_by_row.Goals.{then-names, else-names}

pub is_named-requires : goal.is_named-requires
is_named-requires c = unheld.has_row (tables_of c.self.inside.procs c.self.inside.parts.items c.self.inside.ports c.self.inside.waits c.self.inside.names c.self.inside.sections c.self.inside.tokens c.self.inside.token_names c.self.inside.marks) c.self.invariant.kept.named c.args.port (rw (← c.self.view_is) at c.requires)

pub returns-then-is_named : goal.returns-then-is_named
returns-then-is_named c =
    let there = rw (← c.self.view_is) at c.requires in
    let held = unheld.used_is (tables_of c.self.inside.procs c.self.inside.parts.items c.self.inside.ports c.self.inside.waits c.self.inside.names c.self.inside.sections c.self.inside.tokens c.self.inside.token_names c.self.inside.marks) c.self.invariant.kept.named c.args.port there in
    let by_handle : c.names.result ≡ has (has_name_of (object.Port c.args.port)) c.self.inside.parts.items = c.names.ensures in
    rw (← c.self.view_is, held) (elim c.if-names.branch [
      | then-names v ↦ grind (arith, by_handle)
      | else-names v ↦ grind (arith, v.is_named.ensures)
    ])

pub returns-else-is_named : goal.returns-else-is_named
returns-else-is_named c =
    let there = rw (← c.self.view_is) at c.requires in
    let held = unheld.used_is (tables_of c.self.inside.procs c.self.inside.parts.items c.self.inside.ports c.self.inside.waits c.self.inside.names c.self.inside.sections c.self.inside.tokens c.self.inside.token_names c.self.inside.marks) c.self.invariant.kept.named c.args.port there in
    let by_handle : c.names.result ≡ has (has_name_of (object.Port c.args.port)) c.self.inside.parts.items = c.names.ensures in
    rw (← c.self.view_is, held) (elim c.if-names.branch [
      | then-names v ↦ absurd (cc)
      | else-names v ↦ grind (arith, by_handle, v.is_named.ensures, c.is_named-else-is_named.ensures)
    ])
