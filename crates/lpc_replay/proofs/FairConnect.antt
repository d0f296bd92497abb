-- What NtConnectPort tells is right: at once it is refused, or waits.
use Rattle.std.proofs.Common.{List, refl, true, ℕ, ◌++◌, ◌≡◌}
use Rattle.std.specs.Prelude.{Err, Ok, Option, Result, nat_lt, not, ◌==◌}
use Rattle.lpc_base.specs.declared.birth.Birth.{Birth}
use Rattle.lpc_base.specs.declared.status.TheConstants.{ACCESS_DENIED, BAD_IMPERSONATION_LEVEL, PORT_MESSAGE_TOO_LONG, QUOTA_EXCEEDED}
use Rattle.lpc_names.specs.Faults.{status_of}
use Rattle.lpc_names.specs.Walk.{lookup}
use Rattle.lpc_names.specs.declared.fault.NameFault.TheVariants.{Collision, NameInvalid, NameNotFound, PathNotFound, PathSyntax}
use Rattle.lpc_names.specs.declared.fault.NameFault.{NameFault}
use Rattle.lpc_names.specs.declared.names.Found.TheVariants.{Directory, Item}
use Rattle.lpc_names.specs.declared.names.Found.{Found}
use Rattle.lpc_model.specs.Basics.{Basic, world_after}
use Rattle.lpc_model.specs.Connect.{access_test, allow_steps, client_port, connect_start, connect_steps, connection_request, info_test, nt_connect_port}
use Rattle.lpc_model.specs.Entering.{enter, row_of}
use Rattle.lpc_model.specs.Found.{acting_token}
use Rattle.lpc_model.specs.Lines.{ScriptLine}
use Rattle.lpc_model.specs.Named.{as_status, named_port, port_found}
use Rattle.lpc_model.specs.Offers.{if_given, mapped, offer_test, view_test, wanted_test}
use Rattle.lpc_model.specs.Refusal.{refuse_if}
use Rattle.lpc_model.specs.Tests.{handles_test, next_birth}
use Rattle.lpc_model.specs.Then.{◌>>=◌}
use Rattle.lpc_model.specs.World.{Offer, Qos, ThreadRow, ViewRow, World}
use Rattle.lpc_model.specs.declared.line.ViewWord.{ViewWord}
use Rattle.lpc_model.specs.declared.message.Message.{Message}
use Rattle.lpc_model.proofs.Calls.Holding.{Holds, bind_holds}
use Rattle.lpc_tokens.specs.Tokens.{counts_as}
use Rattle.lpc_tokens.specs.declared.level.TheConstants.{IMPERSONATION}
use Rattle.lpc_replay.proofs.Failing.{Fails, bind_ends, given_fails, offer_fails, refuse_fails, view_fails, wanted_fails}
use Rattle.lpc_replay.proofs.Fair.{AreFair, HaveTheirCalls, IsFair, enter_fair, fair_keep, mapped_fair}
use Rattle.lpc_replay.proofs.Holding.{all_append}

name_fault_fails : (fault : NameFault) → not ((status_of fault).0 == 0) ≡ true
name_fault_fails PathSyntax = refl
name_fault_fails NameInvalid = refl
name_fault_fails PathNotFound = refl
name_fault_fails NameNotFound = refl
name_fault_fails Collision = refl

found_port_fails : (r : Result (Found Birth) NameFault) → Fails (as_status r >>= port_found)
found_port_fails (Ok Directory) = refl
found_port_fails (Ok (Item port)) = tt
found_port_fails (Err fault) = name_fault_fails fault

name_fails : (w : World) (text : List ℕ) → Fails (named_port w text)
name_fails w text = found_port_fails (lookup w.bindings text)

access_fails : (w : World) (by : ThreadRow) (connection : Birth) → Fails (access_test w by connection)
access_fails w by connection =
    bind_ends (refuse_if (nat_lt (counts_as (acting_token w by)) IMPERSONATION) BAD_IMPERSONATION_LEVEL) _ (λ _. Unit {0}) (refuse_fails _ BAD_IMPERSONATION_LEVEL refl) (λ _ _. refuse_fails _ ACCESS_DENIED refl)

pub connect_fails : (w : World) (by : ThreadRow) (text : List ℕ) (quality : Qos) (view : Option ViewWord) (bytes : List ℕ) → Fails (nt_connect_port w by text quality view bytes)
unfolding nt_connect_port
connect_fails w by text quality view bytes =
    let P : List Basic → Type 0 = λ _. Unit {0} in
    bind_ends (if_given (wanted_test w by) view) _ P (given_fails (wanted_test w by) view (wanted_fails w by)) (λ wanted _.
    bind_ends (info_test bytes) _ P (refuse_fails _ PORT_MESSAGE_TOO_LONG refl) (λ _ _.
    bind_ends (if_given offer_test wanted) _ P (given_fails offer_test wanted offer_fails) (λ offer _.
    bind_ends (named_port w text) _ P (name_fails w text) (λ connection _.
    bind_ends (access_test w by connection) _ P (access_fails w by connection) (λ _ _.
    bind_ends (handles_test w by.process 1) _ P (refuse_fails _ QUOTA_EXCEEDED refl) (λ _ _.
    let places = view_test w by.process (next_birth by) in
    bind_ends (if_given places offer) _ P (given_fails places offer (view_fails w by.process (next_birth by))) (λ _ _. tt)))))))

-- the connection request enters its queue, and what is offered is mapped
started_fair : (w : World) (line : ScriptLine) (by : ThreadRow) (connection : Birth) (offer : Option Offer) (own : Option ViewRow) (m : Message) → HaveTheirCalls w → AreFair w line (connect_steps by connection offer own m w)
started_fair w line by connection offer own m h =
    let start = connect_start by connection offer own m in
    let fair : AreFair w line start = ((tt, tt), (tt, (tt, (tt, (refl, tt))))) in
    let u = world_after w start in
    let row = row_of connection (client_port by connection) m in
    all_append (IsFair w line) start (enter row u ++ mapped by.process own) fair
    (all_append (IsFair w line) (enter row u) (mapped by.process own) (enter_fair w line row u (fair_keep w line w start fair h)) (mapped_fair w line by.process own))

pub connect_fair : (w : World) (line : ScriptLine) (by : ThreadRow) (name : List ℕ) (quality : Qos) (view : Option ViewWord) (bytes : List ℕ) → HaveTheirCalls w → Holds (AreFair w line) (nt_connect_port w by name quality view bytes)
unfolding nt_connect_port
connect_fair w line by name quality view bytes h =
    let P = AreFair w line in
    bind_holds (if_given (wanted_test w by) view) _ P (λ wanted _.
    bind_holds (info_test bytes) _ P (λ _ _.
    bind_holds (if_given offer_test wanted) _ P (λ offer _.
    bind_holds (named_port w name) _ P (λ connection _.
    bind_holds (access_test w by connection) _ P (λ _ _.
    bind_holds (handles_test w by.process 1) _ P (λ _ _.
    bind_holds (if_given (view_test w by.process (next_birth by)) offer) _ P (λ own _.
    let m = connection_request by offer bytes in
    all_append (IsFair w line) (connect_steps by connection offer own m w) (allow_steps w by quality) (started_fair w line by connection offer own m h) (tt, tt))))))))
