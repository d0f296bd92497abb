use Rattle.std.proofs.Common.{refl, sym, ◌∙◌, arith}
use Rattle.std.proofs.lemmas.List.{length-map}
use Rattle.lpc_base.proofs.RowWords.{count-bound}
use Rattle.lpc_ports.specs.Table.{is_client}
use Rattle.lpc_rows.specs.Kept.{is_alive}
use Rattle.lpc_rows.specs.Shown.{birth_of, births_of, shown_port, shown_thread, tables_of}
use Rattle.lpc_rows.proofs.Readings as readings
use Rattle.lpc_rows.proofs.Registered.{registered-many}
use Rattle.lpc_world.proofs.world.World.owed_messages.Goals as goal

pub «overflow_add-result-2» : goal.«overflow_add-result-2»
«overflow_add-result-2» c =
    let threads = length-map c.self.inside.procs.threads shown_thread in
    let ports = length-map c.self.inside.ports.ports (shown_port (birth_of (births_of (tables_of c.self.inside.procs c.self.inside.parts.items c.self.inside.ports c.self.inside.waits c.self.inside.names c.self.inside.sections c.self.inside.tokens c.self.inside.token_names c.self.inside.marks)))) in
    let clients = count-bound is_client c.self.inside.ports.ports in
    let budget = c.self.invariant.kept.lawful.budget in
    let few = c.self.invariant.kept.lawful.few in
    let deaths = registered-many c.self.inside.procs.threads in
    omega (arith, threads, ports, clients, budget, few, deaths, c.registrations.ensures.count, c.alive.ensures.bound, c.clients.ensures, c.self.invariant.kept.lawful.rows, c.saturating_sub-requests.ensures, c.saturating_sub-closings.ensures)

pub «overflow_add-result» : goal.«overflow_add-result»
«overflow_add-result» c =
    let threads = length-map c.self.inside.procs.threads shown_thread in
    let ports = length-map c.self.inside.ports.ports (shown_port (birth_of (births_of (tables_of c.self.inside.procs c.self.inside.parts.items c.self.inside.ports c.self.inside.waits c.self.inside.names c.self.inside.sections c.self.inside.tokens c.self.inside.token_names c.self.inside.marks)))) in
    let clients = count-bound is_client c.self.inside.ports.ports in
    omega (arith, threads, ports, clients, c.alive.ensures.bound, c.clients.ensures, c.self.invariant.kept.lawful.rows, c.saturating_sub-requests.ensures, c.saturating_sub-closings.ensures)

pub returns-clause-owed : goal.returns-clause-owed
returns-clause-owed c =
    let alive = c.alive.ensures.count ∙ sym (readings.count-shown shown_thread (λ t. t.live) is_alive (λ t. refl) c.self.inside.procs.threads) in
    let asking = readings.asking_are (tables_of c.self.inside.procs c.self.inside.parts.items c.self.inside.ports c.self.inside.waits c.self.inside.names c.self.inside.sections c.self.inside.tokens c.self.inside.token_names c.self.inside.marks) c.self.invariant.kept.named in
    let clients = readings.clients_are (tables_of c.self.inside.procs c.self.inside.parts.items c.self.inside.ports c.self.inside.waits c.self.inside.names c.self.inside.sections c.self.inside.tokens c.self.inside.token_names c.self.inside.marks) c.self.invariant.kept.named in
    let closings = readings.closings_are (tables_of c.self.inside.procs c.self.inside.parts.items c.self.inside.ports c.self.inside.waits c.self.inside.names c.self.inside.sections c.self.inside.tokens c.self.inside.token_names c.self.inside.marks) c.self.invariant.kept.named in
    let deaths = registered-many c.self.inside.procs.threads in
    rw (← c.self.view_is) (omega (arith, alive, asking, clients, closings, deaths, c.registrations.ensures.count, c.asking.ensures, c.clients.ensures, c.closings.ensures, c.saturating_sub-requests.ensures, c.saturating_sub-closings.ensures))

pub returns-clause-few : goal.returns-clause-few
returns-clause-few c =
    let threads = length-map c.self.inside.procs.threads shown_thread in
    let ports = length-map c.self.inside.ports.ports (shown_port (birth_of (births_of (tables_of c.self.inside.procs c.self.inside.parts.items c.self.inside.ports c.self.inside.waits c.self.inside.names c.self.inside.sections c.self.inside.tokens c.self.inside.token_names c.self.inside.marks)))) in
    let clients = count-bound is_client c.self.inside.ports.ports in
    let deaths = registered-many c.self.inside.procs.threads in
    rw (← c.self.view_is) (omega (arith, threads, ports, clients, deaths, c.registrations.ensures.count, c.alive.ensures.bound, c.clients.ensures, c.self.invariant.kept.lawful.rows, c.saturating_sub-requests.ensures, c.saturating_sub-closings.ensures))
