-- What is remembered of outsiders' connects that members received: the queue of each thread that asked, newest first.
use Rattle.std.proofs.Common.{◌≡◌, ℕ, List, [], ◌∷◌, Bool, true, false, not, Option, Some, None, refl, ap, sym, subst, ◌∙◌, arith}
use Rattle.std.specs.Prelude.{◌&&◌, ◌||◌, Result, Ok, Err}
use Rattle.std.proofs.lemmas.Bool.{eqb-true}
use Rattle.lpc_base.specs.Rows.{every, first}
use Rattle.lpc_base.proofs.RowWords.{every-change, every-changed, every-push, every-without, first-passes}
use Rattle.lpc_base.proofs.RowMaps.{every-first}
use Rattle.lpc_base.proofs.Bools.{first-true, second-true}
use Rattle.lpc_base.proofs.Births.{birth-same}
use Rattle.lpc_base.specs.declared.status.Status.{Status}
use Rattle.lpc_base.specs.declared.status.TheConstants.{REPLY_MESSAGE_MISMATCH}
use Rattle.lpc_model.specs.declared.message.Message.{Message}
use Rattle.lpc_model.specs.Message.{message_test}
use Rattle.lpc_model.specs.Refusal.{found_or}
use Rattle.lpc_model.specs.World.{Accepted, Birth, Connect, Listen, Receive, Request, ThreadRow, WaitKind, WaitRow, World, Acceptance, Event}
use Rattle.lpc_model.specs.Found.{is_offered, is_the, no_birth, waits_as, waits_at}
use Rattle.lpc_model.specs.Basics.{Accepts, Awaits, Basic, Frees, Receives, Wakes, accepted, basic, received, world_after, Dies, Leaves}
use Rattle.lpc_model.specs.Tests.{client_test}
use Rattle.lpc_model.specs.Connect.{ConnectAnswer, answer_test, names_connect}
use Rattle.lpc_model.proofs.Calls.Holding.{Holds, bind_holds, found_ok}
use Rattle.lpc_model.specs.Circle.{Group}
use Rattle.lpc_isolation.proofs.Memory.Heard.{Heard, recall}

-- an outsider's connect to a member that isn't accepted
abbrev pub stranger : Group → WaitRow → Bool
stranger m x = is_offered x && (not (m x.process) && m x.queue.process)

abbrev pub is_known : Group → List Heard → WaitRow → Bool
is_known m memo x = not (stranger m x && x.received) || is_the x.queue (recall memo x.thread)

abbrev pub AllKnown : Group → List Heard → World → Type 0
AllKnown m memo w = every (is_known m memo) w.waits ≡ true

-- what a step must be, so that it stays so
abbrev pub is_told : Group → List Heard → ℕ → WaitRow → Bool
is_told m memo who x = not (waits_as who x && stranger m x) || is_the x.queue (recall memo x.thread)

abbrev pub keeps_known : Group → List Heard → World → Basic → Bool
keeps_known m memo w (Awaits x) = not x.received
keeps_known m memo w (Receives who q) = every (is_told m memo who) w.waits
keeps_known m memo w (Frees o) = false
keeps_known m memo w b = true

abbrev pub are_known : Group → List Heard → World → List Basic → Bool
are_known m memo w [] = true
are_known m memo w (b ∷ bs) = keeps_known m memo w b && are_known m memo (basic w b) bs

accepted-known : (m : Group) (memo : List Heard) (reply : Acceptance) (x : WaitRow) (sort : WaitKind) → x.kind ≡ sort → is_known m memo x ≡ true → is_known m memo (accepted reply x) ≡ true
accepted-known m memo reply x (Request a) is known = rw is refl
accepted-known m memo reply x (Event e) is known = rw is refl
accepted-known m memo reply x Receive is known = rw is refl
accepted-known m memo reply x Listen is known = rw is refl
accepted-known m memo reply x (Connect a offer) is known = rw is refl
accepted-known m memo reply x (Accepted a r) is known = rw is refl

basic-known : (m : Group) (memo : List Heard) (w : World) (b : Basic) → keeps_known m memo w b ≡ true → AllKnown m memo w → AllKnown m memo (basic w b)
basic-known m memo w (Awaits x) ok all = every-push (is_known m memo) w.waits x all (grind arith)
basic-known m memo w (Receives who q) ok all = every-changed (is_known m memo) (is_told m memo who) (waits_at who q) received (λ x known told at. grind arith) w.waits all ok
basic-known m memo w (Wakes who call status fields) ok all = every-without (is_known m memo) (waits_as who) w.waits all
basic-known m memo w (Accepts who reply) ok all = every-change (is_known m memo) (waits_as who) (accepted reply) (λ x is. accepted-known m memo reply x x.kind refl is) w.waits all
basic-known m memo w (Frees o) ok all = absurd (cc)
basic-known m memo w (Leaves who) ok all = every-without (is_known m memo) (waits_as who) w.waits all
basic-known m memo w (Dies who status) ok all = every-without (is_known m memo) (waits_as who) w.waits all
basic-known m memo w b ok all = all

pub run-known : (m : Group) (memo : List Heard) (w : World) (bs : List Basic) → are_known m memo w bs ≡ true → AllKnown m memo w → AllKnown m memo (world_after w bs)
run-known m memo w [] ok all = all
run-known m memo w (b ∷ bs) ok all = run-known m memo (basic w b) bs (second-true _ _ ok) (basic-known m memo w b (first-true _ _ ok) all)

-- the queue that an answer's bytes name
abbrev queue_or : Option Birth → Birth
queue_or None = no_birth
queue_or (Some q) = q

abbrev known_by : List Heard → Result Message Status → Birth
known_by memo (Ok b) = queue_or (recall memo b.header.client.thread)
known_by memo (Err s) = no_birth

abbrev pub known_queue : List Heard → List ℕ → Birth
known_queue memo bytes = known_by memo (message_test bytes)

the-queue : (q : Birth) (o : Option Birth) → is_the q o ≡ true → queue_or o ≡ q
the-queue q None is = absurd (cc)
the-queue q (Some b) is = sym (birth-same q b is)

-- where a caller reaches queues of its own process alone, what is remembered is the queue of the connect that is answered
pub knows-queue : (m : Group) (memo : List Heard) (w : World) (by : ThreadRow) (bytes : List ℕ) → AllKnown m memo w → m by.process ≡ true → ((b : Message) (x : WaitRow) → names_connect w by b x ≡ true → x.queue.process ≡ by.process) → Holds (λ (a : ConnectAnswer). m a.wait.process ≡ false → known_queue memo bytes ≡ a.wait.queue) (answer_test w by bytes)
knows-queue m memo w by bytes all by_in reach =
    let P : ConnectAnswer → Type 0 = λ a. m a.wait.process ≡ false → known_queue memo bytes ≡ a.wait.queue in
    bind_holds (message_test bytes) _ P (λ b is.
    bind_holds (client_test w b.header.client) _ P (λ _ _.
    bind_holds (found_or (first (names_connect w by b) w.waits) REPLY_MESSAGE_MISMATCH) _ P (λ x found out.
    let at = found_ok (first (names_connect w by b) w.waits) REPLY_MESSAGE_MISMATCH x found in
    let named = first-passes (names_connect w by b) w.waits x at in
    let known : is_known m memo x ≡ true = every-first (is_known m memo) (names_connect w by b) w.waits x all at in
    let q_in : m x.queue.process ≡ true = ap m (reach b x named) ∙ by_in in
    let thread : x.thread ≡ b.header.client.thread = eqb-true _ _ (first-true _ _ (first-true _ _ named)) in
    let offered : is_offered x ≡ true = grind arith in
    let took : x.received ≡ true = grind arith in
    let there : is_the x.queue (recall memo x.thread) ≡ true = grind arith in
    ap (known_by memo) is ∙ the-queue x.queue (recall memo b.header.client.thread) (subst (λ t. is_the x.queue (recall memo t) ≡ true) thread there))))
