use Rattle.std.proofs.Common.{◌≡◌, ◌∙◌, sym, false, true, rules}
use Rattle.std.proofs.lemmas.Fn.{filter_same}
use Rattle.lpc_base.specs.Rows.{has, without}
use Rattle.lpc_model.specs.Residents.{is_made_by, is_with}
use Rattle.lpc_residents.proofs.Clients.{clients-left, clients-more, clients-none, left-last, left-more, left-none}
use Rattle.lpc_residents.proofs.resident.let_go.Goals as goal

-- the connections that stay
pub returns-then-not-was_client-clause-others : goal.returns-then-not-was_client-clause-others
returns-then-not-was_client-clause-others c = filter_same _ _ _ (λ x b q h. search rules) _ _ c.retain.ensures.filtered

pub returns-then-not-has_with-clause-others : goal.returns-then-not-has_with-clause-others
returns-then-not-has_with-clause-others c = filter_same _ _ _ (λ x b q h. search rules) _ _ c.retain.ensures.filtered

pub returns-else-not-has_with-clause-others : goal.returns-else-not-has_with-clause-others
returns-else-not-has_with-clause-others c = filter_same _ _ _ (λ x b q h. search rules) _ _ c.retain.ensures.filtered

-- of a process that was no client
pub returns-then-not-was_client-clause-left : goal.returns-then-not-was_client-clause-left
returns-then-not-was_client-clause-left c =
    let none : has (is_with c.args.connect.client.process) c.args.connections.now.items ≡ false = rw (← c.deref.ensures.value) (sym c.has_with-was_client.ensures ∙ c.if-not-was_client.true) in
    left-none c.args.connect c.args.connections.now.items c.args.server.now c.requires.clients none

pub returns-then-not-was_client-clause-clients : goal.returns-then-not-was_client-clause-clients
returns-then-not-was_client-clause-clients c =
    let none : has (is_with c.args.connect.client.process) c.args.connections.now.items ≡ false = rw (← c.deref.ensures.value) (sym c.has_with-was_client.ensures ∙ c.if-not-was_client.true) in
    let is : c.retain.new.self.items ≡ without (is_made_by c.args.connect) c.args.connections.now.items = filter_same _ _ _ (λ x b q h. search rules) _ _ c.retain.ensures.filtered in
    rw is (clients-none c.args.connect c.args.connections.now.items c.args.server.now c.requires.clients none)

-- of a process whose last connection it was
pub returns-then-not-has_with-clause-left : goal.returns-then-not-has_with-clause-left
returns-then-not-has_with-clause-left c =
    let is : c.retain.new.self.items ≡ without (is_made_by c.args.connect) c.args.connections.now.items = filter_same _ _ _ (λ x b q h. search rules) _ _ c.retain.ensures.filtered in
    let none : has (is_with c.args.connect.client.process) (without (is_made_by c.args.connect) c.args.connections.now.items) ≡ false = rw (← is, ← c.deref-2.ensures.value) (sym c.has_with.ensures ∙ c.if-not-has_with.true) in
    left-last c.args.connect c.args.connections.now.items c.args.server.now c.leave.new.self c.requires.clients.served none c.leave.ensures.left

pub returns-then-not-has_with-clause-clients : goal.returns-then-not-has_with-clause-clients
returns-then-not-has_with-clause-clients c =
    let is : c.retain.new.self.items ≡ without (is_made_by c.args.connect) c.args.connections.now.items = filter_same _ _ _ (λ x b q h. search rules) _ _ c.retain.ensures.filtered in
    let none : has (is_with c.args.connect.client.process) (without (is_made_by c.args.connect) c.args.connections.now.items) ≡ false = rw (← is, ← c.deref-2.ensures.value) (sym c.has_with.ensures ∙ c.if-not-has_with.true) in
    rw is (clients-left c.args.connect c.args.connections.now.items c.args.server.now c.leave.new.self c.requires.clients none c.leave.ensures.left)

-- of a process of which another one stands
pub returns-else-not-has_with-clause-left : goal.returns-else-not-has_with-clause-left
returns-else-not-has_with-clause-left c =
    let is : c.retain.new.self.items ≡ without (is_made_by c.args.connect) c.args.connections.now.items = filter_same _ _ _ (λ x b q h. search rules) _ _ c.retain.ensures.filtered in
    let more : has (is_with c.args.connect.client.process) (without (is_made_by c.args.connect) c.args.connections.now.items) ≡ true = rw (← is, ← c.deref-2.ensures.value) (sym c.has_with.ensures ∙ c.if-not-has_with.false) in
    left-more c.args.connect c.args.connections.now.items c.args.server.now more

pub returns-else-not-has_with-clause-clients : goal.returns-else-not-has_with-clause-clients
returns-else-not-has_with-clause-clients c =
    let is : c.retain.new.self.items ≡ without (is_made_by c.args.connect) c.args.connections.now.items = filter_same _ _ _ (λ x b q h. search rules) _ _ c.retain.ensures.filtered in
    let more : has (is_with c.args.connect.client.process) (without (is_made_by c.args.connect) c.args.connections.now.items) ≡ true = rw (← is, ← c.deref-2.ensures.value) (sym c.has_with.ensures ∙ c.if-not-has_with.false) in
    rw is (clients-more c.args.connect c.args.connections.now.items c.args.server.now c.requires.clients more)
