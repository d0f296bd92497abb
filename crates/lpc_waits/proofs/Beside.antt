-- What is looked for stands on the chain on which it is looked for.
use Rattle.std.proofs.Common.{◌≡◌, ◌&&◌, arith, ℕ, Bool, true, false, not, refl, sym, ap, List, is_some, true≢false, eq-eqb}
use Rattle.std.specs.Prelude.{◌%◌, ◌==◌}
use Rattle.std.proofs.lemmas.Bool.{and_parts, eqb-true}
use Rattle.lpc_slots.specs.declared.Key.{Key}
use Rattle.lpc_slots.specs.Table.{is_key}
use Rattle.lpc_slots.proofs.Keys.{key_is}
use Rattle.lpc_waits.specs.declared.WaitKind.{WaitKind}
use Rattle.lpc_waits.specs.declared.WaitKind.TheVariants as wait
use Rattle.lpc_waits.specs.Table.{WaitingThread, is_connect, is_event, is_marked, is_receive, is_request, takes}
use Rattle.lpc_waits.specs.declared.sought.Sought.{Sought}
use Rattle.lpc_waits.specs.declared.sought.Sought.TheVariants as sought
use Rattle.lpc_waits.specs.Layout.{by_port, by_process, by_queue, by_thread}
use Rattle.lpc_waits.specs.Numbers.{apart}
use Rattle.lpc_waits.specs.Sought.{is_by, is_connect_by, is_found_in, is_found_on, is_made_by, is_sought, is_taking, is_unmarked}
use Rattle.lpc_waits.specs.Walk.{is_beside}

beside : (number_of : WaitingThread → ℕ) (many number : ℕ) (row : Key × WaitingThread) → number_of row.1 ≡ number → is_beside number_of many number row ≡ true
beside number_of many number row same = eq-eqb (number_of row.1 % many) (number % many) (ap (λ n. n % many) same)

pub by_beside : (many thread : ℕ) (row : Key × WaitingThread) → is_by thread row ≡ true → is_beside by_thread many thread row ≡ true
by_beside many thread row is = beside by_thread many thread row (eqb-true row.1.thread thread is)

pub made_beside : (many : ℕ) (port : Key) (row : Key × WaitingThread) → is_made_by port row ≡ true → is_beside by_port many port.index row ≡ true
made_beside many port row is = beside by_port many port.index row (ap (λ (k : Key). k.index) (key_is row.1.wait.port port is))

pub found_on_beside : (many : ℕ) (port : Key) (sought : Sought) (marks : List ℕ) (row : Key × WaitingThread) → is_found_on port sought marks row ≡ true → is_beside by_port many port.index row ≡ true
found_on_beside many port sought marks row is = made_beside many port row (and_parts (is_unmarked sought marks row.1) (is_key row.1.wait.port port) is).1

-- which kinds take what comes
taker : (b : Bool) (kind : WaitKind) → takes b kind ≡ true → takes true kind ≡ true
taker true wait.Request is = is
taker false wait.Request is = absurd (true≢false (sym is))
taker b wait.Receive is = refl
taker true wait.Listen is = refl
taker false wait.Listen is = absurd (true≢false (sym is))
taker true wait.Connect is = is
taker false wait.Connect is = absurd (true≢false (sym is))
taker true (wait.Event raised) is = is
taker false (wait.Event raised) is = absurd (true≢false (sym is))

receive : (kind : WaitKind) → is_receive kind ≡ true → takes true kind ≡ true
receive wait.Request is = absurd (true≢false (sym is))
receive wait.Receive is = refl
receive wait.Listen is = refl
receive wait.Connect is = absurd (true≢false (sym is))
receive (wait.Event raised) is = absurd (true≢false (sym is))

request : (kind : WaitKind) → is_request kind ≡ true → takes true kind ≡ false
request wait.Request is = refl
request wait.Receive is = absurd (true≢false (sym is))
request wait.Listen is = absurd (true≢false (sym is))
request wait.Connect is = refl
request (wait.Event raised) is = refl

connect : (kind : WaitKind) → is_connect kind ≡ true → takes true kind ≡ false
connect wait.Request is = refl
connect wait.Receive is = absurd (true≢false (sym is))
connect wait.Listen is = absurd (true≢false (sym is))
connect wait.Connect is = refl
connect (wait.Event raised) is = refl

event : (kind : WaitKind) → is_event kind ≡ true → takes true kind ≡ false
event wait.Request is = refl
event wait.Receive is = absurd (true≢false (sym is))
event wait.Listen is = absurd (true≢false (sym is))
event wait.Connect is = refl
event (wait.Event raised) is = refl

sent : (b : Bool) → not b ≡ true → b ≡ false
sent true is = absurd (true≢false (sym is))
sent false is = refl

-- what is sought takes what comes where it says so
taking : (what : Sought) (row : WaitingThread) → is_sought what row ≡ true → takes true row.wait.kind ≡ is_taking what
taking (sought.Taker with_listens) row is = taker with_listens row.wait.kind is
taking sought.Receive row is = receive row.wait.kind is
taking sought.Sent row is = sent (takes true row.wait.kind) is
taking sought.Request row is = request row.wait.kind is
taking sought.UnreceivedRequest row is = request row.wait.kind (and_parts (is_request row.wait.kind) (not row.wait.received) is).0
taking sought.Accepted row is = connect row.wait.kind (and_parts (is_connect row.wait.kind) (is_some row.accepted) is).0
taking sought.Offered row is = connect row.wait.kind (and_parts (is_connect row.wait.kind) (not (is_some row.accepted)) is).0
taking sought.Event row is = event row.wait.kind is
taking sought.UnreceivedEvent row is = event row.wait.kind (and_parts (is_event row.wait.kind) (not row.wait.received) is).0

pub found_in_beside : (many : ℕ) (queue : Key) (what : Sought) (marks : List ℕ) (row : Key × WaitingThread) → is_found_in queue what marks row ≡ true → is_beside by_queue many (apart queue.index (is_taking what)) row ≡ true
found_in_beside many queue what marks row is =
    let parts = and_parts (is_unmarked what marks row.1) (is_key row.1.wait.queue queue) is in
    let met = (and_parts (is_sought what row.1) (not (is_marked marks row.1)) parts.0).0 in
    let key = key_is row.1.wait.queue queue parts.1 in
    beside by_queue many (apart queue.index (is_taking what)) row (λ i. apart ((key i).index) (taking what row.1 met i))

pub connect_beside : (many process : ℕ) (row : Key × WaitingThread) → is_connect_by process row ≡ true → is_beside by_process many (apart process true) row ≡ true
connect_beside many process row is =
    let parts = and_parts (is_connect row.1.wait.kind) (row.1.wait.process == process) is in
    beside by_process many (apart process true) row (λ i. apart (eqb-true row.1.wait.process process parts.1 i) (parts.0 i))

-- the three parts of what is found
pub met : (is marked key : Bool) → is ≡ true → marked ≡ false → key ≡ true → ((is && not marked) && key) ≡ true
met is marked key one two three = grind arith

pub marked_off : (is marked key : Bool) → marked ≡ true → ((is && not marked) && key) ≡ false
marked_off is marked key two = grind arith

pub off_sought : (is marked key : Bool) → is ≡ false → ((is && not marked) && key) ≡ false
off_sought is marked key one = grind arith

pub off_key : (is key : Bool) → key ≡ false → (is && key) ≡ false
off_key is key three = grind arith

pub off_first : (is key : Bool) → is ≡ false → (is && key) ≡ false
off_first is key one = grind arith

pub both : (is key : Bool) → is ≡ true → key ≡ true → (is && key) ≡ true
both is key one two = grind arith
