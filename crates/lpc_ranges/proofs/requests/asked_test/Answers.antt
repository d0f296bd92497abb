use Rattle.std.proofs.Common.{refl, rules, sym}
use Rattle.lpc_ranges.proofs.requests.asked_test.Goals as goal

pub returns-in_err-thread-clause-found : goal.returns-in_err-thread-clause-found
returns-in_err-thread-clause-found c =
    let found = rw c.header.ensures at c.in_err-thread.ensures.found in
    rw (c.in_ok-port.ensures.port, c.in_ok-message.ensures.message, found) (search rules)

pub returns-in_err-request_test-clause-found : goal.returns-in_err-request_test-clause-found
returns-in_err-request_test-clause-found c =
    let found = rw c.header.ensures at c.in_ok-thread.ensures.found in
    rw (c.in_ok-port.ensures.port, c.in_ok-message.ensures.message, found, sym c.in_err-request_test.ensures.test) (search rules)

pub returns-clause-found : goal.returns-clause-found
returns-clause-found c =
    let found = rw c.header.ensures at c.in_ok-thread.ensures.found in
    rw (c.in_ok-port.ensures.port, c.in_ok-message.ensures.message, found, sym c.in_ok-request_test.ensures.test) refl
