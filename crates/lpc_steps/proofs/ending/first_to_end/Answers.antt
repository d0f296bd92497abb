use Rattle.std.proofs.Common.{sym, subst}
use Rattle.std.specs.Prelude.{ℕ, Option}
use Rattle.lpc_rows.specs.Names.{name_of}
use Rattle.lpc_steps.specs.declared.ending.Ending.{Ending}
use Rattle.lpc_steps.specs.declared.ending.Ending.TheVariants.{ReceivesAcross, RequestsAcross}
use Rattle.lpc_steps.proofs.NextEnding as next
use Rattle.lpc_steps.proofs.NextEnding.{IsNext}
use Rattle.lpc_steps.proofs.ending.first_to_end.Goals as goal

pub returns-in-Receives-clause-found : goal.returns-in-Receives-clause-found
returns-in-Receives-clause-found c =
    let w = c.args.world.now in
    (subst (λ (e : Ending). IsNext w.rows e (name_of w.births.ports c.args.port) c.receiver_at.result) (sym c.in-Receives.is)
    (next.next-receiver w.births w.rows c.waits-waits.result.now (record { waits = c.waits-waits.ensures.waits; stand = c.waits-waits.ensures.stand; apart = c.waits-waits.ensures.apart; single = c.waits-waits.ensures.single }) c.args.port c.requires.port c.receiver_at.result c.receiver_at.ensures)).found

pub returns-in-Receives-clause-waits : goal.returns-in-Receives-clause-waits
returns-in-Receives-clause-waits c =
    let w = c.args.world.now in
    (subst (λ (e : Ending). IsNext w.rows e (name_of w.births.ports c.args.port) c.receiver_at.result) (sym c.in-Receives.is)
    (next.next-receiver w.births w.rows c.waits-waits.result.now (record { waits = c.waits-waits.ensures.waits; stand = c.waits-waits.ensures.stand; apart = c.waits-waits.ensures.apart; single = c.waits-waits.ensures.single }) c.args.port c.requires.port c.receiver_at.result c.receiver_at.ensures)).waits

pub returns-in-Requests-clause-found : goal.returns-in-Requests-clause-found
returns-in-Requests-clause-found c =
    let w = c.args.world.now in
    (subst (λ (e : Ending). IsNext w.rows e (name_of w.births.ports c.args.port) c.request_on.result) (sym c.in-Requests.is)
    (next.next-request w.births w.rows c.waits-waits.result.now (record { waits = c.waits-waits.ensures.waits; stand = c.waits-waits.ensures.stand; apart = c.waits-waits.ensures.apart; single = c.waits-waits.ensures.single }) c.args.port c.requires.port c.request_on.result c.request_on.ensures)).found

pub returns-in-Requests-clause-waits : goal.returns-in-Requests-clause-waits
returns-in-Requests-clause-waits c =
    let w = c.args.world.now in
    (subst (λ (e : Ending). IsNext w.rows e (name_of w.births.ports c.args.port) c.request_on.result) (sym c.in-Requests.is)
    (next.next-request w.births w.rows c.waits-waits.result.now (record { waits = c.waits-waits.ensures.waits; stand = c.waits-waits.ensures.stand; apart = c.waits-waits.ensures.apart; single = c.waits-waits.ensures.single }) c.args.port c.requires.port c.request_on.result c.request_on.ensures)).waits

pub returns-in-QueuedRequests-clause-found : goal.returns-in-QueuedRequests-clause-found
returns-in-QueuedRequests-clause-found c =
    let w = c.args.world.now in
    (subst (λ (e : Ending). IsNext w.rows e (name_of w.births.ports c.args.port) c.unreceived_request_in.result) (sym c.in-QueuedRequests.is)
    (next.next-queued w.births w.rows c.waits-waits.result.now (record { waits = c.waits-waits.ensures.waits; stand = c.waits-waits.ensures.stand; apart = c.waits-waits.ensures.apart; single = c.waits-waits.ensures.single }) c.args.port c.requires.port c.unreceived_request_in.result c.unreceived_request_in.ensures)).found

pub returns-in-QueuedRequests-clause-waits : goal.returns-in-QueuedRequests-clause-waits
returns-in-QueuedRequests-clause-waits c =
    let w = c.args.world.now in
    (subst (λ (e : Ending). IsNext w.rows e (name_of w.births.ports c.args.port) c.unreceived_request_in.result) (sym c.in-QueuedRequests.is)
    (next.next-queued w.births w.rows c.waits-waits.result.now (record { waits = c.waits-waits.ensures.waits; stand = c.waits-waits.ensures.stand; apart = c.waits-waits.ensures.apart; single = c.waits-waits.ensures.single }) c.args.port c.requires.port c.unreceived_request_in.result c.unreceived_request_in.ensures)).waits

pub returns-in-Offers-clause-found : goal.returns-in-Offers-clause-found
returns-in-Offers-clause-found c =
    let w = c.args.world.now in
    (subst (λ (e : Ending). IsNext w.rows e (name_of w.births.ports c.args.port) c.offered_to.result) (sym c.in-Offers.is)
    (next.next-offered w.births w.rows c.waits-waits.result.now (record { waits = c.waits-waits.ensures.waits; stand = c.waits-waits.ensures.stand; apart = c.waits-waits.ensures.apart; single = c.waits-waits.ensures.single }) c.args.port c.requires.port c.offered_to.result c.offered_to.ensures)).found

pub returns-in-Offers-clause-waits : goal.returns-in-Offers-clause-waits
returns-in-Offers-clause-waits c =
    let w = c.args.world.now in
    (subst (λ (e : Ending). IsNext w.rows e (name_of w.births.ports c.args.port) c.offered_to.result) (sym c.in-Offers.is)
    (next.next-offered w.births w.rows c.waits-waits.result.now (record { waits = c.waits-waits.ensures.waits; stand = c.waits-waits.ensures.stand; apart = c.waits-waits.ensures.apart; single = c.waits-waits.ensures.single }) c.args.port c.requires.port c.offered_to.result c.offered_to.ensures)).waits

pub returns-in_err-across-in-RequestsAcross-clause-found : goal.returns-in_err-across-in-RequestsAcross-clause-found
returns-in_err-across-in-RequestsAcross-clause-found c =
    let w = c.args.world.now in
    let none = c.in_err-across-in-RequestsAcross.ensures.pair in
    (subst (λ (e : Ending). IsNext w.rows e (name_of w.births.ports c.args.port) c.from_residual.result) (sym c.in-RequestsAcross.is)
    (subst (λ (r : Option ℕ). IsNext w.rows RequestsAcross (name_of w.births.ports c.args.port) r) (sym c.from_residual.ensures) (next.no-request_across w.births w.rows c.waits-waits.result.now (record { waits = c.waits-waits.ensures.waits; stand = c.waits-waits.ensures.stand; apart = c.waits-waits.ensures.apart; single = c.waits-waits.ensures.single }) c.args.port c.requires.port c.requires.pairs none))).found

pub returns-in_ok-across-in-RequestsAcross-clause-found : goal.returns-in_ok-across-in-RequestsAcross-clause-found
returns-in_ok-across-in-RequestsAcross-clause-found c =
    let w = c.args.world.now in
    let some = c.in_ok-across-in-RequestsAcross.ensures.pair in
    let stand = c.in_ok-across-in-RequestsAcross.ensures.stands in
    (subst (λ (e : Ending). IsNext w.rows e (name_of w.births.ports c.args.port) c.request_on-in-RequestsAcross.result) (sym c.in-RequestsAcross.is)
    (next.next-request_across w.births w.rows c.waits-waits.result.now (record { waits = c.waits-waits.ensures.waits; stand = c.waits-waits.ensures.stand; apart = c.waits-waits.ensures.apart; single = c.waits-waits.ensures.single }) c.args.port c.requires.port c.requires.pairs c.in_ok-across-in-RequestsAcross.field-0 stand some c.request_on-in-RequestsAcross.result c.request_on-in-RequestsAcross.ensures)).found

pub returns-in_ok-across-in-RequestsAcross-clause-waits : goal.returns-in_ok-across-in-RequestsAcross-clause-waits
returns-in_ok-across-in-RequestsAcross-clause-waits c =
    let w = c.args.world.now in
    let some = c.in_ok-across-in-RequestsAcross.ensures.pair in
    let stand = c.in_ok-across-in-RequestsAcross.ensures.stands in
    (subst (λ (e : Ending). IsNext w.rows e (name_of w.births.ports c.args.port) c.request_on-in-RequestsAcross.result) (sym c.in-RequestsAcross.is)
    (next.next-request_across w.births w.rows c.waits-waits.result.now (record { waits = c.waits-waits.ensures.waits; stand = c.waits-waits.ensures.stand; apart = c.waits-waits.ensures.apart; single = c.waits-waits.ensures.single }) c.args.port c.requires.port c.requires.pairs c.in_ok-across-in-RequestsAcross.field-0 stand some c.request_on-in-RequestsAcross.result c.request_on-in-RequestsAcross.ensures)).waits

pub returns-in_err-client_across-in-ReceivesAcross-clause-found : goal.returns-in_err-client_across-in-ReceivesAcross-clause-found
returns-in_err-client_across-in-ReceivesAcross-clause-found c =
    let w = c.args.world.now in
    let none = c.in_err-client_across-in-ReceivesAcross.ensures.client in
    (subst (λ (e : Ending). IsNext w.rows e (name_of w.births.ports c.args.port) c.from_residual-in_err-client_across-in-ReceivesAcross.result) (sym c.in-ReceivesAcross.is)
    (subst (λ (r : Option ℕ). IsNext w.rows ReceivesAcross (name_of w.births.ports c.args.port) r) (sym c.from_residual-in_err-client_across-in-ReceivesAcross.ensures) (next.no-receive_across w.births w.rows c.waits-waits.result.now (record { waits = c.waits-waits.ensures.waits; stand = c.waits-waits.ensures.stand; apart = c.waits-waits.ensures.apart; single = c.waits-waits.ensures.single }) c.args.port c.requires.port c.requires.pairs none))).found

pub returns-in_ok-client_across-in-ReceivesAcross-clause-found : goal.returns-in_ok-client_across-in-ReceivesAcross-clause-found
returns-in_ok-client_across-in-ReceivesAcross-clause-found c =
    let w = c.args.world.now in
    let some = c.in_ok-client_across-in-ReceivesAcross.ensures.client in
    let stand = c.in_ok-client_across-in-ReceivesAcross.ensures.stands in
    (subst (λ (e : Ending). IsNext w.rows e (name_of w.births.ports c.args.port) c.receive_on.result) (sym c.in-ReceivesAcross.is)
    (next.next-receive_across w.births w.rows c.waits-waits.result.now (record { waits = c.waits-waits.ensures.waits; stand = c.waits-waits.ensures.stand; apart = c.waits-waits.ensures.apart; single = c.waits-waits.ensures.single }) c.args.port c.requires.port c.requires.pairs c.in_ok-client_across-in-ReceivesAcross.field-0 stand some c.receive_on.result c.receive_on.ensures)).found

pub returns-in_ok-client_across-in-ReceivesAcross-clause-waits : goal.returns-in_ok-client_across-in-ReceivesAcross-clause-waits
returns-in_ok-client_across-in-ReceivesAcross-clause-waits c =
    let w = c.args.world.now in
    let some = c.in_ok-client_across-in-ReceivesAcross.ensures.client in
    let stand = c.in_ok-client_across-in-ReceivesAcross.ensures.stands in
    (subst (λ (e : Ending). IsNext w.rows e (name_of w.births.ports c.args.port) c.receive_on.result) (sym c.in-ReceivesAcross.is)
    (next.next-receive_across w.births w.rows c.waits-waits.result.now (record { waits = c.waits-waits.ensures.waits; stand = c.waits-waits.ensures.stand; apart = c.waits-waits.ensures.apart; single = c.waits-waits.ensures.single }) c.args.port c.requires.port c.requires.pairs c.in_ok-client_across-in-ReceivesAcross.field-0 stand some c.receive_on.result c.receive_on.ensures)).waits

pub returns-in-AcceptedAcross-clause-found : goal.returns-in-AcceptedAcross-clause-found
returns-in-AcceptedAcross-clause-found c =
    let w = c.args.world.now in
    let pair = c.across-in-AcceptedAcross.ensures.pair in
    let stand = c.across-in-AcceptedAcross.ensures.stands in
    (subst (λ (e : Ending). IsNext w.rows e (name_of w.births.ports c.args.port) c.accepted_at.result) (sym c.in-AcceptedAcross.is)
    (next.next-accepted_across w.births w.rows c.waits-waits.result.now (record { waits = c.waits-waits.ensures.waits; stand = c.waits-waits.ensures.stand; apart = c.waits-waits.ensures.apart; single = c.waits-waits.ensures.single }) c.args.port c.requires.port c.requires.pairs c.across-in-AcceptedAcross.result stand pair c.accepted_at.result c.accepted_at.ensures)).found

pub returns-in-AcceptedAcross-clause-waits : goal.returns-in-AcceptedAcross-clause-waits
returns-in-AcceptedAcross-clause-waits c =
    let w = c.args.world.now in
    let pair = c.across-in-AcceptedAcross.ensures.pair in
    let stand = c.across-in-AcceptedAcross.ensures.stands in
    (subst (λ (e : Ending). IsNext w.rows e (name_of w.births.ports c.args.port) c.accepted_at.result) (sym c.in-AcceptedAcross.is)
    (next.next-accepted_across w.births w.rows c.waits-waits.result.now (record { waits = c.waits-waits.ensures.waits; stand = c.waits-waits.ensures.stand; apart = c.waits-waits.ensures.apart; single = c.waits-waits.ensures.single }) c.args.port c.requires.port c.requires.pairs c.across-in-AcceptedAcross.result stand pair c.accepted_at.result c.accepted_at.ensures)).waits
