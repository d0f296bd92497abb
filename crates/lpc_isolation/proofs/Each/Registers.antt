-- NtRegisterThreadTerminatePort in a view.
use Rattle.std.proofs.Common.{◌≡◌, ℕ, List, true, not, refl}
use Rattle.std.specs.Prelude.{◌&&◌, nat_le, length}
use Rattle.lpc_base.specs.declared.status.TheConstants.{QUOTA_EXCEEDED}
use Rattle.lpc_model.specs.World.{Birth, ThreadRow, World}
use Rattle.lpc_base.specs.declared.limits.TheConstants.{REGISTRATION_LIMIT}
use Rattle.lpc_model.specs.Register.{is_registered, nt_register_thread_terminate_port, registration_test}
use Rattle.lpc_model.specs.Tests.{port_test}
use Rattle.lpc_model.specs.Lines.{register_thread_terminate_port}
use Rattle.lpc_model.specs.Circle.{Group, is_fine_call}
use Rattle.lpc_isolation.proofs.Gone.Served.{served}
use Rattle.lpc_isolation.proofs.Views.View.{view}
use Rattle.lpc_isolation.proofs.Views.Mine.{c-port_test}
use Rattle.lpc_isolation.proofs.Each.Refuses.{Refuses, bind, if_refuses, port}
use Rattle.lpc_isolation.proofs.Each.Instances.{At}
use Rattle.lpc_isolation.proofs.Gone.Thin.{Alive, Closed, thin}
use Rattle.lpc_isolation.proofs.Gone.ThinCalls.{port-thin}
use Rattle.lpc_isolation.proofs.Calls.Calm.{Calm, answers_alike}

refuses-register : (w : World) (by : ThreadRow) (handle : ℕ) → Refuses (served w by (register_thread_terminate_port handle))
unfolding nt_register_thread_terminate_port
refuses-register w by handle = bind (port_test w by handle) _ (port w by handle) (λ p. bind (registration_test by p.birth) _ (if_refuses (not (is_registered p.birth by) && nat_le REGISTRATION_LIMIT (length by.registrations)) QUOTA_EXCEEDED refl) (λ _. tt))

same-register : (m : Group) (c : ℕ) (w : World) (by : ThreadRow) (known : List ℕ → Birth) (handle : ℕ) → At m c w by known → by.process ≡ c → is_fine_call m w (register_thread_terminate_port handle) ≡ true → served (view m w) by (register_thread_terminate_port handle) ≡ served w by (register_thread_terminate_port handle)
unfolding nt_register_thread_terminate_port
same-register m c w by known handle a mine fine = rw (c-port_test m c w by handle a.c_in mine a.fair) refl

alike-register : (k : Alive) (u : World) (by : ThreadRow) (handle : ℕ) → Closed k u → served (thin k u) by (register_thread_terminate_port handle) ≡ served u by (register_thread_terminate_port handle)
unfolding nt_register_thread_terminate_port
alike-register k u by handle c = rw (port-thin k u by handle c) refl

pub register-calm : (handle : ℕ) → Calm (register_thread_terminate_port handle)
register-calm handle = record {
  refuses = λ w by. refuses-register w by handle;
  members = answers_alike refl (λ m c w by known k a mine fine right. same-register m c w by known handle a mine fine);
  alike = λ k u by live s ports c. alike-register k u by handle c;
}
