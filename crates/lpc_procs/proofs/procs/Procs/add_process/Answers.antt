use Rattle.std.proofs.Common.{None, rules, refl, sym, ◌∙◌, arith}
use Rattle.lpc_base.proofs.RowMaps.{push-map}
use Rattle.lpc_numbers.specs.Numbered.{numbers}
use Rattle.lpc_procs.specs.declared.rows.ProcessRow.{ProcessRow}
use Rattle.lpc_procs.proofs.Keyed.{rows-push}
use Rattle.lpc_procs.proofs.Led.{made-few}
use Rattle.lpc_procs.proofs.Placed.{numbers-has}
use Rattle.lpc_procs.proofs.Tables.{process-made}
use Rattle.lpc_procs.proofs.procs.Procs.add_process.Goals as goal

pub insert_reserved-key-requires-clause-few : goal.insert_reserved-key-requires-clause-few
insert_reserved-key-requires-clause-few c = omega (arith, made-few c.self.inside.processes.made (numbers c.self.inside.used_processes.entries) c.self.invariant.found.processes_made)

pub add-requires-2-clause-new : goal.add-requires-2-clause-new
add-requires-2-clause-new c =
    let new = rw (← c.self.view_is) at c.requires.new in
    sym (numbers-has c.args.pid c.self.inside.used_processes.entries) ∙ new

pub invariant_of-self : goal.invariant_of-self
invariant_of-self c =
    let row : ProcessRow = record { number = c.args.pid; maker = c.args.maker; birth = c.args.birth; token = c.copy.result; debug_port = None; exception_port = None; doom = None } in
    let new = rw (← c.self.view_is) at c.requires.new in
    let made = c.insert_reserved-key.ensures in
    process-made c.self.invariant row refl c.requires.number.below new c.insert_reserved-key.result c.insert_reserved-key.new.self made.table made.listed made.generation c.add.new.self c.add.ensures.firsts c.add.ensures.single c.add-2.new.self.entries c.add-2.ensures.entries

pub returns : goal.returns
returns c =
    let row : ProcessRow = record { number = c.args.pid; maker = c.args.maker; birth = c.args.birth; token = c.copy.result; debug_port = None; exception_port = None; doom = None } in
    let rows = rows-push c.self.inside.processes c.insert_reserved-key.new.self c.insert_reserved-key.result (record { row = row; live = 0 }) c.insert_reserved-key.ensures.listed in
    record { table = rw (← c.self.view_is, rows, c.add-2.ensures.entries, push-map, push-map, c.insert_reserved-key.ensures.table, c.add.ensures.room, c.add-2.ensures.room) (search rules) }
