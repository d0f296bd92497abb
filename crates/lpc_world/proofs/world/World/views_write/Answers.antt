use Rattle.std.proofs.Common.{◌+◌, length, refl, ap, sym, ◌∙◌}
use Rattle.lpc_views.specs.Parts.{written}
use Rattle.lpc_views.specs.Views.{view_of}
use Rattle.lpc_rows.specs.Shown.{tables_of}
use Rattle.lpc_rows.proofs.Readings as readings
use Rattle.lpc_rows.proofs.ViewBytes as shown
use Rattle.lpc_rows.proofs.WrittenViews as bytes
use Rattle.lpc_rows.proofs.Suspecting as suspecting
use Rattle.lpc_rows.specs.Kept.{rows_by}
use Rattle.lpc_rows.specs.Shown.{births_of}
use Rattle.lpc_model.specs.Found.{view_holding}
use Rattle.lpc_rows.proofs.Lived as lived
use Rattle.lpc_world.proofs.world.World.views_write.Goals as goal

pub views_of-requires : goal.views_of-requires
views_of-requires c =
    let there = rw (← c.self.view_is) at c.requires.table in
    (sym (readings.table_is (tables_of c.self.inside.procs c.self.inside.parts.items c.self.inside.ports c.self.inside.waits c.self.inside.names c.self.inside.sections c.self.inside.tokens c.self.inside.token_names c.self.inside.marks) c.self.invariant.kept.named c.args.pid) ∙ there)

pub write-requires-clause-mapped : goal.write-requires-clause-mapped
write-requires-clause-mapped c = rw (c.views_of.ensures.views) (shown.mapped_at (tables_of c.self.inside.procs c.self.inside.parts.items c.self.inside.ports c.self.inside.waits c.self.inside.names c.self.inside.sections c.self.inside.tokens c.self.inside.token_names c.self.inside.marks) c.self.inside.calls c.self.inside.made c.self.invariant.kept c.args.pid)

pub write-requires-clause-writable : goal.write-requires-clause-writable
write-requires-clause-writable c = rw (c.views_of.ensures.views) (bytes.writable (tables_of c.self.inside.procs c.self.inside.parts.items c.self.inside.ports c.self.inside.waits c.self.inside.names c.self.inside.sections c.self.inside.tokens c.self.inside.token_names c.self.inside.marks) c.self.inside.calls c.self.inside.made c.self.invariant.kept c.args.pid c.args.address (length c.args.bytes.now) c.args.bytes.now (rw (← c.self.view_is) at c.requires.writable))

pub invariant_of-self : goal.invariant_of-self
invariant_of-self c = record {
  kept =
      let may = rw (← c.self.view_is) at c.requires.writable in
      let left = bytes.is_written (tables_of c.self.inside.procs c.self.inside.parts.items c.self.inside.ports c.self.inside.waits c.self.inside.names c.self.inside.sections c.self.inside.tokens c.self.inside.token_names c.self.inside.marks) c.self.inside.calls c.self.inside.made c.self.invariant.kept c.args.pid c.args.address (length c.args.bytes.now) c.args.bytes.now c.write.new.sections c.self.inside.parts.room may c.write.ensures.sizes (c.write.ensures.sections ∙ ap (λ vs. written c.self.inside.sections c.args.address (view_of vs c.args.address (length c.args.bytes.now)) c.args.bytes.now) (c.views_of.ensures.views)) in
      left.lawful;
  watched = let may = rw (← c.self.view_is) at c.requires.writable in let left = bytes.is_written (tables_of c.self.inside.procs c.self.inside.parts.items c.self.inside.ports c.self.inside.waits c.self.inside.names c.self.inside.sections c.self.inside.tokens c.self.inside.token_names c.self.inside.marks) c.self.inside.calls c.self.inside.made c.self.invariant.kept c.args.pid c.args.address (length c.args.bytes.now) c.args.bytes.now c.write.new.sections c.self.inside.parts.room may c.write.ensures.sizes (c.write.ensures.sections ∙ ap (λ vs. written c.self.inside.sections c.args.address (view_of vs c.args.address (length c.args.bytes.now)) c.args.bytes.now) (c.views_of.ensures.views)) in suspecting.written-to (rows_by (tables_of c.self.inside.procs c.self.inside.parts.items c.self.inside.ports c.self.inside.waits c.self.inside.names c.self.inside.sections c.self.inside.tokens c.self.inside.token_names c.self.inside.marks)) (births_of (tables_of c.self.inside.procs c.self.inside.parts.items c.self.inside.ports c.self.inside.waits c.self.inside.names c.self.inside.sections c.self.inside.tokens c.self.inside.token_names c.self.inside.marks)).ports c.self.inside.suspects c.self.invariant.watched _ c.args.address c.args.bytes.now (view_holding (rows_by (tables_of c.self.inside.procs c.self.inside.parts.items c.self.inside.ports c.self.inside.waits c.self.inside.names c.self.inside.sections c.self.inside.tokens c.self.inside.token_names c.self.inside.marks)) c.args.pid c.args.address (length c.args.bytes.now)) left.rows;
  lived = let may = rw (← c.self.view_is) at c.requires.writable in let left = bytes.is_written (tables_of c.self.inside.procs c.self.inside.parts.items c.self.inside.ports c.self.inside.waits c.self.inside.names c.self.inside.sections c.self.inside.tokens c.self.inside.token_names c.self.inside.marks) c.self.inside.calls c.self.inside.made c.self.invariant.kept c.args.pid c.args.address (length c.args.bytes.now) c.args.bytes.now c.write.new.sections c.self.inside.parts.room may c.write.ensures.sizes (c.write.ensures.sections ∙ ap (λ vs. written c.self.inside.sections c.args.address (view_of vs c.args.address (length c.args.bytes.now)) c.args.bytes.now) (c.views_of.ensures.views)) in λ calm. lived.written-to (rows_by (tables_of c.self.inside.procs c.self.inside.parts.items c.self.inside.ports c.self.inside.waits c.self.inside.names c.self.inside.sections c.self.inside.tokens c.self.inside.token_names c.self.inside.marks)) (c.self.invariant.lived calm) _ c.args.address c.args.bytes.now (view_holding (rows_by (tables_of c.self.inside.procs c.self.inside.parts.items c.self.inside.ports c.self.inside.waits c.self.inside.names c.self.inside.sections c.self.inside.tokens c.self.inside.token_names c.self.inside.marks)) c.args.pid c.args.address (length c.args.bytes.now)) left.rows;
}

pub returns-clause-step : goal.returns-clause-step
returns-clause-step c =
    let may = rw (← c.self.view_is) at c.requires.writable in
    let left = bytes.is_written (tables_of c.self.inside.procs c.self.inside.parts.items c.self.inside.ports c.self.inside.waits c.self.inside.names c.self.inside.sections c.self.inside.tokens c.self.inside.token_names c.self.inside.marks) c.self.inside.calls c.self.inside.made c.self.invariant.kept c.args.pid c.args.address (length c.args.bytes.now) c.args.bytes.now c.write.new.sections c.self.inside.parts.room may c.write.ensures.sizes (c.write.ensures.sections ∙ ap (λ vs. written c.self.inside.sections c.args.address (view_of vs c.args.address (length c.args.bytes.now)) c.args.bytes.now) (c.views_of.ensures.views)) in
    record {
      rows = rw (← c.self.view_is) left.rows;
      births = rw (← c.self.view_is) left.births;
      calls = rw (← c.self.view_is) refl;
      made = rw (← c.self.view_is) (ap (λ k. c.self.inside.made + k) left.owed);
      room = rw (← c.self.view_is) left.room;
    }

pub returns-clause-capacity : goal.returns-clause-capacity
returns-clause-capacity c =
    let may = rw (← c.self.view_is) at c.requires.writable in
    let left = bytes.is_written (tables_of c.self.inside.procs c.self.inside.parts.items c.self.inside.ports c.self.inside.waits c.self.inside.names c.self.inside.sections c.self.inside.tokens c.self.inside.token_names c.self.inside.marks) c.self.inside.calls c.self.inside.made c.self.invariant.kept c.args.pid c.args.address (length c.args.bytes.now) c.args.bytes.now c.write.new.sections c.self.inside.parts.room may c.write.ensures.sizes (c.write.ensures.sections ∙ ap (λ vs. written c.self.inside.sections c.args.address (view_of vs c.args.address (length c.args.bytes.now)) c.args.bytes.now) (c.views_of.ensures.views)) in
    rw (← c.self.view_is) left.capacity
