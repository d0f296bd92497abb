use Rattle.std.proofs.Common.{rules, ◌≡◌, true, sym, ap, ◌∙◌}
use Rattle.std.specs.Prelude.{Ok}
use Rattle.lpc_base.specs.Rows.{first}
use Rattle.lpc_imperson.proofs.Impersonated.{no_request, nothing_allowed, own_allowed}
use Rattle.lpc_imperson.specs.Calls.{headed}
use Rattle.lpc_message.specs.declared.message.Header.{Header}
use Rattle.lpc_model.specs.Found.{is_server_port}
use Rattle.lpc_model.specs.Impersonation.{is_served_by}
use Rattle.lpc_model.specs.Message.{message_of}
use Rattle.lpc_model.specs.Tests.{client_test}
use Rattle.lpc_model.specs.World.{PortRow, World}
use Rattle.lpc_model.specs.declared.message.Message.{Message}
use Rattle.lpc_rows.specs.Clauses.{port_at}
use Rattle.lpc_rows.specs.Ready.{caller, waiter}
use Rattle.lpc_imperson.proofs.acting.client_token.Goals as goal

pub returns-in_default : goal.returns-in_default
returns-in_default c =
    let w : World = c.args.world.now.rows in
    let p : PortRow = port_at c.args.world.now c.in_ok-port.port in
    let m : Message = message_of c.in_ok-message.message.now in
    let server : is_server_port p ≡ true = sym c.is_server.ensures ∙ search (rules, c.if-not-is_server.false) in
    let lives : client_test w m.header.client ≡ Ok tt = ap (λ (h : Header). client_test w h.client) (sym c.header.ensures) ∙ sym c.in_ok-client_test.ensures.test in
    no_request w (caller w c.args.tid) c.args.handle c.args.message.now p m c.in_ok-port.ensures.port c.in_ok-message.ensures.message server lives
    (ap (λ (h : Header). first (is_served_by p (headed h)) w.waits) (sym c.header-2.ensures) ∙ c.in_default.ensures.found)

pub returns-in-None : goal.returns-in-None
returns-in-None c =
    let w : World = c.args.world.now.rows in
    let p : PortRow = port_at c.args.world.now c.in_ok-port.port in
    let m : Message = message_of c.in_ok-message.message.now in
    let server : is_server_port p ≡ true = sym c.is_server.ensures ∙ search (rules, c.if-not-is_server.false) in
    let lives : client_test w m.header.client ≡ Ok tt = ap (λ (h : Header). client_test w h.client) (sym c.header.ensures) ∙ sym c.in_ok-client_test.ensures.test in
    nothing_allowed w (caller w c.args.tid) c.args.handle c.args.message.now p m c.in_ok-port.ensures.port c.in_ok-message.ensures.message server lives (waiter w c.in-Some.thread)
    (ap (λ (h : Header). first (is_served_by p (headed h)) w.waits) (sym c.header-2.ensures) ∙ c.in-Some.ensures.found)
    c.in-None.ensures

pub returns-in-Some-allowed_by : goal.returns-in-Some-allowed_by
returns-in-Some-allowed_by c =
    let w : World = c.args.world.now.rows in
    let p : PortRow = port_at c.args.world.now c.in_ok-port.port in
    let m : Message = message_of c.in_ok-message.message.now in
    let server : is_server_port p ≡ true = sym c.is_server.ensures ∙ search (rules, c.if-not-is_server.false) in
    let lives : client_test w m.header.client ≡ Ok tt = ap (λ (h : Header). client_test w h.client) (sym c.header.ensures) ∙ sym c.in_ok-client_test.ensures.test in
    own_allowed w (caller w c.args.tid) c.args.handle c.args.message.now p m c.in_ok-port.ensures.port c.in_ok-message.ensures.message server lives (waiter w c.in-Some.thread) c.in-Some-allowed_by.own
    (ap (λ (h : Header). first (is_served_by p (headed h)) w.waits) (sym c.header-2.ensures) ∙ c.in-Some.ensures.found)
    c.in-Some-allowed_by.ensures
