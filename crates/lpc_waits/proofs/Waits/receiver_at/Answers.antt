use Rattle.std.proofs.Common.{ℕ, [], true, option_map, ap, ◌∙◌, ◌||◌}
use Rattle.lpc_slots.specs.declared.Key.{Key}
use Rattle.lpc_slots.specs.Table.{is_key}
use Rattle.lpc_waits.specs.declared.sought.Sought.TheVariants as sought
use Rattle.lpc_waits.specs.Lent.{keyed}
use Rattle.lpc_waits.specs.Sought.{earlier, is_found_in, is_found_on}
use Rattle.lpc_waits.specs.Table.{is_receiver_at, takes}
use Rattle.lpc_waits.proofs.Found.{either_key, thread_found}
use Rattle.lpc_waits.proofs.Precede.{earlier_found, keyed_rise}
use Rattle.lpc_waits.proofs.Waits.receiver_at.Goals as goal

pub returns : goal.returns
returns c =
    let all = keyed c.self.inside.rows in
    let port = c.args.port in
    let one = is_found_on port (sought.Taker true) [] in
    let two = is_found_in port (sought.Taker true) [] in
    rw (← c.self.view_is)
    (c.thread_of.ensures
    ∙ ap (option_map (λ (row : Key × ℕ). row.1)) (c.earlier.ensures ∙ (λ i. earlier (c.first_on-made.ensures i) (c.first_in.ensures i)) ∙ earlier_found one two all (keyed_rise c.self.inside.rows))
    ∙ thread_found (λ row. one row || two row) (is_receiver_at port) (λ row. either_key (takes true row.1.wait.kind) (is_key row.1.wait.port port) (is_key row.1.wait.queue port)) all)
