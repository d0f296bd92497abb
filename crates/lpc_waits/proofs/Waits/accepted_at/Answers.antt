use Rattle.std.proofs.Common.{ℕ, Some, None, option_map, ap, ◌∙◌, ◌||◌, []}
use Rattle.lpc_slots.specs.declared.Key.{Key}
use Rattle.lpc_slots.specs.Table.{is_key}
use Rattle.lpc_waits.specs.declared.sought.Sought.TheVariants as sought
use Rattle.lpc_waits.specs.Lent.{keyed}
use Rattle.lpc_waits.specs.Sought.{earlier, is_found_on}
use Rattle.lpc_waits.specs.Table.{is_accepted, is_accepted_at}
use Rattle.lpc_waits.proofs.Found.{either_key, one_key, thread_found}
use Rattle.lpc_waits.proofs.Precede.{earlier_found, keyed_rise}
use Rattle.lpc_waits.proofs.Waits.accepted_at.Goals as goal

pub returns-in-Some : goal.returns-in-Some
returns-in-Some c =
    let all = keyed c.self.inside.rows in
    let port = c.args.port in
    let other = c.in-Some.other in
    let one = is_found_on port sought.Accepted [] in
    let two = is_found_on other sought.Accepted [] in
    rw (← c.self.view_is, c.in-Some.is)
    (c.thread_of.ensures
    ∙ ap (option_map (λ (row : Key × ℕ). row.1)) (c.earlier.ensures ∙ (λ i. earlier (c.first_on-here.ensures i) (c.first_on.ensures i)) ∙ earlier_found one two all (keyed_rise c.self.inside.rows))
    ∙ thread_found (λ row. one row || two row) (is_accepted_at port (Some other)) (λ row. either_key (is_accepted row.1) (is_key row.1.wait.port port) (is_key row.1.wait.port other)) all)

pub returns-in-None : goal.returns-in-None
returns-in-None c =
    let all = keyed c.self.inside.rows in
    let port = c.args.port in
    rw (← c.self.view_is, c.in-None.is)
    (c.thread_of-in-None.ensures
    ∙ ap (option_map (λ (row : Key × ℕ). row.1)) c.first_on-here.ensures
    ∙ thread_found (is_found_on port sought.Accepted []) (is_accepted_at port None) (λ row. one_key (is_accepted row.1) (is_key row.1.wait.port port)) all)
