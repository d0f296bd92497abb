use Rattle.std.proofs.Common.{[], ◌++◌, Ok, Err}
use Rattle.std.specs.Prelude.{option_to_list}
use Rattle.lpc_connect.proofs.Shared.{fails, across-here, across-there, lies-beside, offered_part, shared-here, shared-there, theirs-refused, within_two}
use Rattle.lpc_connect.proofs.accept.shared_test.Goals as goal

pub view_beside_two-requires-2-clause-part : goal.view_beside_two-requires-2-clause-part
view_beside_two-requires-2-clause-part c = offered_part c.args.world.now c.args.thread c.waits_offer.result c.requires.waits c.waits_offer.ensures.offer c.requires.offers

pub returns-in_err-theirs-clause-test : goal.returns-in_err-theirs-clause-test
returns-in_err-theirs-clause-test c by is =
    let s = c.in_err-theirs.field-0.0 in
    rw (fails c.from_residual-in_err-theirs.result s c.from_residual-in_err-theirs.ensures.1)
    (theirs-refused c.args.world.now by c.args.thread c.args.pid c.waiting-client.result.process c.args.offer c.waits_offer.result is c.waiting-client.ensures.wait.process c.waits_offer.ensures.offer c.requires.sound c.requires.table
    c.in_ok-own.own c.in_ok-own.ensures.view s c.in_err-theirs.ensures.view)

pub view_beside_two-requires-then-client-pid-clause-within : goal.view_beside_two-requires-then-client-pid-clause-within
view_beside_two-requires-then-client-pid-clause-within c =
    within_two c.args.world.now c.args.pid c.args.offer c.waits_offer.result c.requires.sound c.in_ok-own.own c.in_ok-theirs.theirs c.in_ok-own.ensures.view c.in_ok-theirs.ensures.view

pub returns-in_err-across-clause-test : goal.returns-in_err-across-clause-test
returns-in_err-across-clause-test c by is =
    let s = c.in_err-across.field-0.0 in
    rw (fails c.from_residual-in_err-across.result s c.from_residual-in_err-across.ensures.1)
    (across-here c.args.world.now by c.args.thread c.args.pid c.waiting-client.result.process c.args.offer c.waits_offer.result is c.waiting-client.ensures.wait.process c.waits_offer.ensures.offer c.requires.sound c.requires.table
    c.in_ok-own.own c.in_ok-own.ensures.view c.in_ok-theirs.theirs c.in_ok-theirs.ensures.view c.if-client-pid.true (Err s) c.in_err-across.ensures.view)

pub returns-in_err-across-2-clause-test : goal.returns-in_err-across-2-clause-test
returns-in_err-across-2-clause-test c by is =
    let s = c.in_err-across-2.field-0.0 in
    rw (fails c.from_residual-in_err-across-2.result s c.from_residual-in_err-across-2.ensures.1)
    (across-there c.args.world.now by c.args.thread c.args.pid c.waiting-client.result.process c.args.offer c.waits_offer.result is c.waiting-client.ensures.wait.process c.waits_offer.ensures.offer c.requires.sound c.requires.table
    c.in_ok-own.own c.in_ok-own.ensures.view c.in_ok-theirs.theirs c.in_ok-theirs.ensures.view c.if-client-pid.false (Err s) c.in_err-across-2.ensures.view)

pub returns-in_ok-across-clause-test : goal.returns-in_ok-across-clause-test
returns-in_ok-across-clause-test c by is =
    across-here c.args.world.now by c.args.thread c.args.pid c.waiting-client.result.process c.args.offer c.waits_offer.result is c.waiting-client.ensures.wait.process c.waits_offer.ensures.offer c.requires.sound c.requires.table
    c.in_ok-own.own c.in_ok-own.ensures.view c.in_ok-theirs.theirs c.in_ok-theirs.ensures.view c.if-client-pid.true (Ok c.in_ok-across.across) c.in_ok-across.ensures.view

pub returns-in_ok-across-clause-lie : goal.returns-in_ok-across-clause-lie
returns-in_ok-across-clause-lie c =
    let w = c.args.world.now in
    let own = lies-beside w c.args.pid [] c.args.offer c.in_ok-own.own c.requires.stands c.requires.part c.requires.sound.sizes c.in_ok-own.ensures.view in
    let part = offered_part w c.args.thread c.waits_offer.result c.requires.waits c.waits_offer.ensures.offer c.requires.offers in
    let theirs = lies-beside w c.args.pid (option_to_list c.in_ok-own.own ++ []) c.waits_offer.result c.in_ok-theirs.theirs c.waits_offer.ensures.stands part c.requires.sound.sizes c.in_ok-theirs.ensures.view in
    let across = lies-beside w c.args.pid (option_to_list c.in_ok-own.own ++ option_to_list c.in_ok-theirs.theirs) c.args.offer c.in_ok-across.across c.requires.stands c.requires.part c.requires.sound.sizes c.in_ok-across.ensures.view in
    shared-here w c.args.pid c.args.thread c.waiting-client.result.process (record { own = c.in_ok-own.own; theirs = c.in_ok-theirs.theirs; across = c.in_ok-across.across }) c.waiting-client.ensures.wait.process own theirs c.if-client-pid.true across

pub returns-in_ok-across-2-clause-test : goal.returns-in_ok-across-2-clause-test
returns-in_ok-across-2-clause-test c by is =
    across-there c.args.world.now by c.args.thread c.args.pid c.waiting-client.result.process c.args.offer c.waits_offer.result is c.waiting-client.ensures.wait.process c.waits_offer.ensures.offer c.requires.sound c.requires.table
    c.in_ok-own.own c.in_ok-own.ensures.view c.in_ok-theirs.theirs c.in_ok-theirs.ensures.view c.if-client-pid.false (Ok c.in_ok-across-2.across) c.in_ok-across-2.ensures.view

pub returns-in_ok-across-2-clause-lie : goal.returns-in_ok-across-2-clause-lie
returns-in_ok-across-2-clause-lie c =
    let w = c.args.world.now in
    let own = lies-beside w c.args.pid [] c.args.offer c.in_ok-own.own c.requires.stands c.requires.part c.requires.sound.sizes c.in_ok-own.ensures.view in
    let part = offered_part w c.args.thread c.waits_offer.result c.requires.waits c.waits_offer.ensures.offer c.requires.offers in
    let theirs = lies-beside w c.args.pid (option_to_list c.in_ok-own.own ++ []) c.waits_offer.result c.in_ok-theirs.theirs c.waits_offer.ensures.stands part c.requires.sound.sizes c.in_ok-theirs.ensures.view in
    let across = lies-beside w c.waiting-client.result.process [] c.args.offer c.in_ok-across-2.across c.requires.stands c.requires.part c.requires.sound.sizes c.in_ok-across-2.ensures.view in
    shared-there w c.args.pid c.args.thread c.waiting-client.result.process (record { own = c.in_ok-own.own; theirs = c.in_ok-theirs.theirs; across = c.in_ok-across-2.across }) c.waiting-client.ensures.wait.process own theirs c.if-client-pid.false across
