-- A connection that is completed: the steps as they are taken one by one, and the steps of the definition.
use Rattle.std.proofs.Common.{◌≡◌, ℕ, Bool, true, List, [], ◌∷◌, ◌++◌, Ok, refl, ap, sym, ◌∙◌, append_assoc}
use Rattle.lpc_base.specs.declared.birth.Birth.{Birth}
use Rattle.lpc_base.specs.declared.status.TheConstants.{SUCCESS}
use Rattle.lpc_model.specs.declared.entry.CallName.{CallName}
use Rattle.lpc_model.specs.declared.entry.CallName.TheVariants.{NtCompleteConnectPort}
use Rattle.lpc_model.specs.declared.entry.Entry.{Entry}
use Rattle.lpc_model.specs.declared.entry.Entry.TheVariants.{Answer, Wakes}
use Rattle.lpc_model.specs.declared.entry.Field.{Field}
use Rattle.lpc_model.specs.declared.entry.Outcome.TheVariants.{Answered}
use Rattle.lpc_model.specs.Basics as basics
use Rattle.lpc_model.specs.Basics.{AddsHandle, Completes, basic, outcome_of}
use Rattle.lpc_model.specs.Connect.{Completable, acceptance_of, complete_steps, complete_test, nt_complete_connect_port}
use Rattle.lpc_model.specs.Fields.{completion_fields}
use Rattle.lpc_model.specs.Found.{free_handle, port_name}
use Rattle.lpc_model.specs.Machine.{settled}
use Rattle.lpc_model.specs.Tests.{PORT_ACCESS, handle_row}
use Rattle.lpc_model.specs.World.{ThreadRow, WaitRow, World}
use Rattle.lpc_rows.specs.Does.{Left, left_by}
use Rattle.lpc_rows.specs.Ready.{waiter}

module _ (w : World) (es : List Entry) (l : Bool) (t : ThreadRow) (server client : Birth) (tid : ℕ) where
  abbrev x : WaitRow
  x = waiter w tid

  abbrev twice : World
  twice = basic (basic w (Completes server)) (Completes client)

  -- the completed ports have no wait and no handle
  same-waiter : waiter twice tid ≡ x
  unfolding waiter
  same-waiter = refl

  abbrev End : World → List Entry → Bool → Left
  End v list loose = record { world = v; entries = list; loose = loose }

  pub completed : (one two ended : World) (first list : List Entry) (loose : Bool) (client' client'' : Birth) (value : ℕ) (call : CallName) (fields : List Field)
      → one ≡ basic w (Completes server) → two ≡ basic one (Completes client') → client' ≡ client → client'' ≡ client
      → (let y = waiter two tid in value ≡ free_handle two y.process)
      → (let y = waiter two tid in ended ≡ basics.left_by tid (basic two (AddsHandle y.process (handle_row value (port_name client'') PORT_ACCESS))))
      → call ≡ x.call → x.thread ≡ tid → fields ≡ completion_fields value (acceptance_of x)
      → first ≡ es ++ Answer t.number NtCompleteConnectPort SUCCESS [] ∷ [] → list ≡ first ++ Wakes tid call SUCCESS fields ∷ [] → loose ≡ true
      → End ended list loose ≡ left_by w es l (complete_steps t (free_handle w x.process) (record { server = server; client = client; wait = x }))
  completed one two ended first list loose client' client'' value call fields one_is two_is name name' value_is ended_is call_is own fields_is first_is list_is loosen =
      let back : tid ≡ x.thread = sym own in
      let both : two ≡ twice = two_is ∙ (λ i. basic (one_is i) (Completes (name i))) in
      let pid : (let y = waiter two tid in y.process ≡ x.process) = ap (λ (v : World). let y = waiter v tid in y.process) both ∙ ap (λ (y : WaitRow). y.process) same-waiter in
      let least : value ≡ free_handle w x.process = value_is ∙ (λ i. free_handle (both i) (pid i)) in
      let world_is : ended ≡ basics.left_by x.thread (basic twice (AddsHandle x.process (handle_row (free_handle w x.process) (port_name client) PORT_ACCESS))) =
      ended_is ∙ (λ i. basics.left_by (back i) (basic (both i) (AddsHandle (pid i) (handle_row (least i) (port_name (name' i)) PORT_ACCESS)))) in
      let told : list ≡ (es ++ Answer t.number NtCompleteConnectPort SUCCESS [] ∷ []) ++ Wakes x.thread x.call SUCCESS (completion_fields (free_handle w x.process) (acceptance_of x)) ∷ [] =
      list_is ∙ (λ i. first_is i ++ Wakes (back i) (call_is i) SUCCESS (fields_is i) ∷ [])
      ∙ ap (λ (n : ℕ). (es ++ Answer t.number NtCompleteConnectPort SUCCESS [] ∷ []) ++ Wakes x.thread x.call SUCCESS (completion_fields n (acceptance_of x)) ∷ []) least
      in
      (λ i. End (world_is i) (told i) (loosen i)) ∙ ap (λ (list : List Entry). End (basics.left_by x.thread (basic twice (AddsHandle x.process (handle_row (free_handle w x.process) (port_name client) PORT_ACCESS)))) list true) (append_assoc es (Answer t.number NtCompleteConnectPort SUCCESS [] ∷ []) (Wakes x.thread x.call SUCCESS (completion_fields (free_handle w x.process) (acceptance_of x)) ∷ []))

-- where the tests pass, the call's steps are those of a completion
pub completes : (w : World) (t : ThreadRow) (handle : ℕ) (es : List Entry) (l : Bool) (c : Completable) → complete_test w t handle ≡ Ok c → left_by w es l (complete_steps t (free_handle w c.wait.process) c) ≡ left_by w es l (settled t NtCompleteConnectPort (nt_complete_connect_port w t handle))
unfolding nt_complete_connect_port
completes w t handle es l c is = rw is refl

pub completes_outcome : (w : World) (t : ThreadRow) (handle : ℕ) (c : Completable) → complete_test w t handle ≡ Ok c → Answered SUCCESS ≡ outcome_of (settled t NtCompleteConnectPort (nt_complete_connect_port w t handle))
unfolding nt_complete_connect_port
completes_outcome w t handle c is = rw is refl
