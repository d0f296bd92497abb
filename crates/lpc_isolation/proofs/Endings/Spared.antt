-- Turns of settling that wake none of some threads are the same where the waits of those for messages have gone.
use Rattle.std.proofs.Common.{◌≡◌, ℕ, List, [], ◌∷◌, ◌++◌, Bool, true, false, cond, not, Option, Some, None, refl, ap, sym, ◌∙◌, arith}
use Rattle.std.specs.Prelude.{◌&&◌}
use Rattle.std.proofs.lemmas.Bool.{eqb-true, not-true}
use Rattle.lpc_base.specs.Rows.{each, every, first, given, when, which, without}
use Rattle.lpc_base.specs.declared.status.Status.{Status}
use Rattle.lpc_base.specs.declared.status.TheConstants.{LPC_REPLY_LOST, PORT_DISCONNECTED, SUCCESS}
use Rattle.lpc_base.proofs.Bools.{first-true, second-true}
use Rattle.lpc_base.proofs.RowWords.{every-back, every-front, which-without}
use Rattle.lpc_model.specs.declared.entry.ObjectKind.{ObjectKind}
use Rattle.lpc_model.specs.declared.entry.ObjectKind.TheVariants as kind
use Rattle.lpc_model.specs.World.{Acceptance, Birth, HandleRow, MessageRow, ProcessRow, Raised, ThreadRow, WaitRow, World}
use Rattle.lpc_model.specs.Found.{handles_of, is_accepted, is_connect, is_event, is_live, is_offered, is_request, live_threads, port_row, wait_of, waits_as, waits_at}
use Rattle.lpc_model.specs.Basics.{Accepts, Awaits, Basic, Cuts, Dies, Dooms, DropsHandle, DropsOwned, DropsViewsOf, Empties, Enters, Frees, Leaves, LetsGo, Receives, Steps, Unbinds, Unregisters, Wakes, Withdraws, accepted, basic, doing, end_each, first_code, in_turn, provided, received, world_after, ◌▹◌}
use Rattle.lpc_model.specs.Close.{close_handle, close_port, closing_post, cut_pair, drop_name, drop_owned, empty_queue, end_accepted, end_offered, end_receives, end_request, end_requests, is_accepted_across, is_event_across, is_event_on, is_last, is_offered_to, is_queued_event, is_queued_request, is_receive_across, is_receiver, is_request_across, is_request_on, mark_event, mark_events, post_closed, wake}
use Rattle.lpc_model.specs.Death.{close_handles, code_status, death_post, die, end_client, end_process, end_threads, post_death, post_deaths}
use Rattle.lpc_model.specs.Entering.{enter, given_steps, shown, takes, woken}
use Rattle.lpc_model.specs.Raise.{Handled, Heard, Next, Unhandled, behind_chance, event_begun, go_on, goes_on, raised_in}
use Rattle.lpc_model.specs.Settle.{end_doomed}
use Rattle.lpc_model.proofs.Calls.Raising.{GoesOn}
use Rattle.lpc_model.proofs.Sound.Worlds.{by_kind}
use Rattle.lpc_isolation.proofs.Each.Raises.{event_row}
use Rattle.lpc_isolation.proofs.Memory.Heard.{takes_any}
use Rattle.lpc_isolation.proofs.Views.Filters.{count-inside, first-inside, first-kept, first-none_kept, kept-change, kept-push}

-- the waits for messages of some threads, and the world without them
abbrev pub is_spared : (ℕ → Bool) → WaitRow → Bool
is_spared o x = takes_any x && o x.thread

abbrev pub less : (ℕ → Bool) → World → World
less o w = record w { waits = without (is_spared o) w.waits }

-- a step by which none of them wakes or dies, and no wait for a message begins
abbrev pub spares : (ℕ → Bool) → Basic → Bool
spares o (Wakes who call status fields) = not (o who)
spares o (Dies who status) = not (o who)
spares o (Awaits x) = not (takes_any x)
spares o b = true

spared-off : (o : ℕ → Bool) (x : WaitRow) → o x.thread ≡ false → not (is_spared o x) ≡ true
spared-off o x off = grind arith

-- Each step
accepted-takes : (a : Acceptance) (x : WaitRow) → takes_any (accepted a x) ≡ takes_any x
accepted-takes a = by_kind (λ x. takes_any (accepted a x) ≡ takes_any x) (λ x m. refl) (λ x. refl) (λ x. refl) (λ x m offer. refl) (λ x m reply. refl) (λ x r. refl)

less-freed : (o : ℕ → Bool) (w : World) (k : ObjectKind) (b : Birth) → basic (less o w) (Frees (record { kind = k; birth = b })) ≡ less o (basic w (Frees (record { kind = k; birth = b })))
less-freed o w kind.Port b = refl
less-freed o w kind.Section b = refl
less-freed o w kind.Token b = refl
less-freed o w kind.Process b = refl
less-freed o w kind.Thread b = refl

less-left : (o : ℕ → Bool) (who : ℕ) (xs : List WaitRow) → without (waits_as who) (without (is_spared o) xs) ≡ without (is_spared o) (without (waits_as who) xs)
less-left o who xs = which-without (λ x. not (waits_as who x)) (is_spared o) xs

pub less-basic : (o : ℕ → Bool) (w : World) (b : Basic) → spares o b ≡ true → basic (less o w) b ≡ less o (basic w b)
less-basic o w (Wakes who call status fields) ok = ap (λ xs. record (basic w (Wakes who call status fields)) { waits = xs }) (less-left o who w.waits)
less-basic o w (Leaves who) ok = ap (λ xs. record (basic w (Leaves who)) { waits = xs }) (less-left o who w.waits)
less-basic o w (Dies who status) ok = ap (λ xs. record (basic w (Dies who status)) { waits = xs }) (less-left o who w.waits)
less-basic o w (Awaits x) ok = let kept : not (is_spared o x) ≡ true = grind arith in ap (λ xs. record w { waits = xs }) (sym (kept-push (λ x. not (is_spared o x)) w.waits x kept))
less-basic o w (Receives who queue) ok = ap (λ xs. record w { waits = xs }) (sym (kept-change (λ x. not (is_spared o x)) (waits_at who queue) received (λ x. refl) w.waits))
less-basic o w (Accepts who a) ok = ap (λ xs. record w { waits = xs }) (sym (kept-change (λ x. not (is_spared o x)) (waits_as who) (accepted a) (λ x. ap (λ e. not (e && o x.thread)) (accepted-takes a x)) w.waits))
less-basic o w (Frees n) ok = less-freed o w n.kind n.birth
less-basic o w b ok = refl

pub less-run : (o : ℕ → Bool) (w : World) (bs : List Basic) → every (spares o) bs ≡ true → world_after (less o w) bs ≡ less o (world_after w bs)
less-run o w [] ok = refl
less-run o w (b ∷ bs) ok = ap (λ v. world_after v bs) (less-basic o w b (first-true _ _ ok)) ∙ less-run o (basic w b) bs (second-true (spares o b) _ ok)

-- Steps that are taken alike
abbrev pub Thins : Steps → Type 0
Thins f = (o : ℕ → Bool) (w : World) → every (spares o) (f w) ≡ true → f (less o w) ≡ f w

then-thins : (f g : Steps) → Thins f → Thins g → Thins (f ▹ g)
then-thins f g p q o w ok =
    let one : every (spares o) (f w) ≡ true = every-front (spares o) (f w) (g (world_after w (f w))) ok in
    ap (λ bs. bs ++ g (world_after (less o w) bs)) (p o w one)
    ∙ ap (λ v. f w ++ g v) (less-run o w (f w) one)
    ∙ ap (λ bs. f w ++ bs) (q o (world_after w (f w)) (every-back (spares o) (f w) (g (world_after w (f w))) ok))

turn-thins : {A : Type 0} (f : A → Steps) → ((x : A) → Thins (f x)) → (xs : List A) → Thins (in_turn f xs)
turn-thins f all [] o w ok = refl
turn-thins f all (x ∷ xs) o w ok = then-thins (f x) (in_turn f xs) (all x) (turn-thins f all xs) o w ok

provided-thins : (test : World → Bool) (f : Steps) → ((o : ℕ → Bool) (w : World) → test (less o w) ≡ test w) → Thins f → Thins (provided test f)
provided-thins test f seen p o w ok = ap (λ e. when e (f (less o w))) (seen o w) ∙ by (test w) ok
  where
    by : (e : Bool) → every (spares o) (when e (f w)) ≡ true → when e (f (less o w)) ≡ when e (f w)
    by true ok = p o w ok
    by false ok = refl

given-thins : {A : Type 0} (read : World → Option A) (f : A → Steps) → ((o : ℕ → Bool) (w : World) → read (less o w) ≡ read w) → ((x : A) → Thins (f x)) → Thins (λ w. given (read w) (λ x. f x w))
given-thins {A} read f seen all o w ok = ap (λ r. given r (λ x. f x (less o w))) (seen o w) ∙ by (read w) ok
  where
    by : (r : Option A) → every (spares o) (given r (λ x. f x w)) ≡ true → given r (λ x. f x (less o w)) ≡ given r (λ x. f x w)
    by None ok = refl
    by (Some x) ok = all x o w ok

-- waits that end, of other kinds
each-thins : (test : World → WaitRow → Bool) (ending : WaitRow → List Basic) → ((o : ℕ → Bool) (w : World) → test (less o w) ≡ test w) → ((w : World) (x : WaitRow) → test w x ≡ true → takes_any x ≡ false) → Thins (end_each test ending)
each-thins test ending seen sort o w ok =
    ap (λ t. each ending (which t (without (is_spared o) w.waits))) (seen o w)
    ∙ ap (each ending) (count-inside (λ x. not (is_spared o x)) (test w) (λ x is. let off : takes_any x ≡ false = sort w x is in grind arith) w.waits)

-- and of those that wait for messages, where none of them is told
wakes-thin : (o : ℕ → Bool) (t : WaitRow → Bool) (status : Status) (xs : List WaitRow) → every (spares o) (each (wake status) (which t xs)) ≡ true → which t (without (is_spared o) xs) ≡ which t xs
wakes-thin o t status [] ok = refl
wakes-thin o t status (x ∷ xs) ok = at (t x) refl (is_spared o x) refl ok (wakes-thin o t status xs)
  where
    at : (a : Bool) → t x ≡ a → (e : Bool) → is_spared o x ≡ e → every (spares o) (each (wake status) (cond a (x ∷ which t xs) (which t xs))) ≡ true
        → (every (spares o) (each (wake status) (which t xs)) ≡ true → which t (without (is_spared o) xs) ≡ which t xs)
        → which t (cond (not e) (x ∷ without (is_spared o) xs) (without (is_spared o) xs)) ≡ cond a (x ∷ which t xs) (which t xs)
    at true is true its ok rest = let off : o x.thread ≡ false = not-true (o x.thread) (first-true _ _ ok) in absurd (grind arith)
    at true is false its ok rest = rw is (ap (λ ys. x ∷ ys) (rest (second-true (not (o x.thread)) _ ok)))
    at false is true its ok rest = rest ok
    at false is false its ok rest = rw is (rest ok)

wakes-thins : (test : World → WaitRow → Bool) (status : Status) → ((o : ℕ → Bool) (w : World) → test (less o w) ≡ test w) → Thins (end_each test (wake status))
wakes-thins test status seen o w ok =
    ap (λ t. each (wake status) (which t (without (is_spared o) w.waits))) (seen o w)
    ∙ ap (each (wake status)) (wakes-thin o (test w) status w.waits ok)

-- a message that enters
entered-thins : (o : ℕ → Bool) (w : World) (x : MessageRow) (r : Option WaitRow) → first (takes x) w.waits ≡ r → every (spares o) (Enters x ∷ given r (λ z. given_steps z x ++ woken SUCCESS (shown z x) z ∷ [])) ≡ true → first (takes x) (without (is_spared o) w.waits) ≡ r
entered-thins o w x None at ok = first-none_kept (λ z. not (is_spared o z)) (takes x) w.waits at
entered-thins o w x (Some z) at ok =
    let off : o z.thread ≡ false = not-true (o z.thread) (first-true _ _ (every-back (spares o) (given_steps z x) (woken SUCCESS (shown z x) z ∷ []) ok)) in
    first-kept (λ z. not (is_spared o z)) (takes x) w.waits z at (spared-off o z off)

pub enter-thins : (x : MessageRow) → Thins (enter x)
enter-thins x o w ok = ap (λ r. Enters x ∷ given r (λ z. given_steps z x ++ woken SUCCESS (shown z x) z ∷ [])) (entered-thins o w x (first (takes x) w.waits) refl ok)

-- Sorts of waits
request-off : (x : WaitRow) → is_request x ≡ true → takes_any x ≡ false
request-off = by_kind (λ x. is_request x ≡ true → takes_any x ≡ false) (λ x m is. refl) (λ x is. absurd (cc)) (λ x is. absurd (cc)) (λ x m offer is. refl) (λ x m reply is. refl) (λ x r is. refl)

pub event-off : (x : WaitRow) → is_event x ≡ true → takes_any x ≡ false
event-off = by_kind (λ x. is_event x ≡ true → takes_any x ≡ false) (λ x m is. refl) (λ x is. absurd (cc)) (λ x is. absurd (cc)) (λ x m offer is. refl) (λ x m reply is. refl) (λ x r is. refl)

offer-off : (x : WaitRow) → is_offered x ≡ true → takes_any x ≡ false
offer-off = by_kind (λ x. is_offered x ≡ true → takes_any x ≡ false) (λ x m is. refl) (λ x is. absurd (cc)) (λ x is. absurd (cc)) (λ x m offer is. refl) (λ x m reply is. refl) (λ x r is. refl)

accepted-off : (x : WaitRow) → is_accepted x ≡ true → takes_any x ≡ false
accepted-off = by_kind (λ x. is_accepted x ≡ true → takes_any x ≡ false) (λ x m is. refl) (λ x is. absurd (cc)) (λ x is. absurd (cc)) (λ x m offer is. refl) (λ x m reply is. refl) (λ x r is. refl)

-- Closings
doing-thins : (bs : List Basic) → Thins (doing bs)
doing-thins bs o w ok = refl

queue-thins : (b : Birth) → Thins (empty_queue b)
queue-thins b =
    let requests : Steps = end_each (λ w. is_queued_request b) (end_request LPC_REPLY_LOST) in
    let events : Steps = end_each (is_queued_event b) mark_event in
    let offers : Steps = end_each (λ w. is_offered_to b) end_offered in
    then-thins requests (events ▹ (offers ▹ doing (Empties b ∷ []))) (each-thins (λ w. is_queued_request b) (end_request LPC_REPLY_LOST) (λ o w. refl) (λ w x is. request-off x (first-true _ _ is)))
    (then-thins events (offers ▹ doing (Empties b ∷ [])) (each-thins (is_queued_event b) mark_event (λ o w. refl) (λ w x is. event-off x (first-true _ _ (first-true _ _ is))))
    (then-thins offers (doing (Empties b ∷ [])) (each-thins (λ w. is_offered_to b) end_offered (λ o w. refl) (λ w x is. offer-off x (first-true _ _ is))) (doing-thins (Empties b ∷ []))))

pair-thins : (b : Birth) → Thins (cut_pair b)
pair-thins b =
    let requests : Steps = end_each (is_request_across b) (end_request LPC_REPLY_LOST) in
    let events : Steps = end_each (is_event_across b) mark_event in
    let receives : Steps = end_each (is_receive_across b) (wake PORT_DISCONNECTED) in
    let accepts : Steps = end_each (is_accepted_across b) end_accepted in
    let last : Steps = doing (Cuts b ∷ []) in
    then-thins requests (events ▹ (receives ▹ (accepts ▹ last))) (each-thins (is_request_across b) (end_request LPC_REPLY_LOST) (λ o w. refl) (λ w x is. request-off x (first-true _ _ is)))
    (then-thins events (receives ▹ (accepts ▹ last)) (each-thins (is_event_across b) mark_event (λ o w. refl) (λ w x is. event-off x (first-true _ _ (first-true _ _ is))))
    (then-thins receives (accepts ▹ last) (wakes-thins (is_receive_across b) PORT_DISCONNECTED (λ o w. refl))
    (then-thins accepts last (each-thins (is_accepted_across b) end_accepted (λ o w. refl) (λ w x is. accepted-off x (first-true _ _ is))) (doing-thins (Cuts b ∷ [])))))

closed-thins : (b : Birth) → Thins (post_closed b)
closed-thins b = given-thins (λ w. port_row w b) (λ p w. given (closing_post w p) (λ m. enter m w)) (λ o w. refl) (λ p. given-thins (λ w. closing_post w p) (λ m. enter m) (λ o w. refl) (λ m. enter-thins m))

port-thins : (b : Birth) → Thins (close_port b)
unfolding close_port
port-thins b =
    then-thins (drop_name b) (end_receives b ▹ (end_requests b ▹ (mark_events b ▹ (empty_queue b ▹ (cut_pair b ▹ (post_closed b ▹ drop_owned b)))))) (doing-thins (Unbinds b ∷ []))
    (then-thins (end_receives b) (end_requests b ▹ (mark_events b ▹ (empty_queue b ▹ (cut_pair b ▹ (post_closed b ▹ drop_owned b))))) (wakes-thins (λ w. is_receiver b) PORT_DISCONNECTED (λ o w. refl))
    (then-thins (end_requests b) (mark_events b ▹ (empty_queue b ▹ (cut_pair b ▹ (post_closed b ▹ drop_owned b)))) (each-thins (λ w. is_request_on b) (end_request PORT_DISCONNECTED) (λ o w. refl) (λ w x is. request-off x (first-true _ _ is)))
    (then-thins (mark_events b) (empty_queue b ▹ (cut_pair b ▹ (post_closed b ▹ drop_owned b))) (each-thins (is_event_on b) mark_event (λ o w. refl) (λ w x is. event-off x (first-true _ _ (first-true _ _ is))))
    (then-thins (empty_queue b) (cut_pair b ▹ (post_closed b ▹ drop_owned b)) (queue-thins b)
    (then-thins (cut_pair b) (post_closed b ▹ drop_owned b) (pair-thins b)
    (then-thins (post_closed b) (drop_owned b) (closed-thins b) (doing-thins (DropsOwned b ∷ []))))))))

handle-thins : (pid : ℕ) (r : HandleRow) → Thins (close_handle pid r)
handle-thins pid r =
    then-thins (provided (is_last r) (close_port r.object.birth)) (doing (DropsHandle pid r.value ∷ []))
    (provided-thins (is_last r) (close_port r.object.birth) (λ o w. refl) (port-thins r.object.birth)) (doing-thins (DropsHandle pid r.value ∷ []))

-- Threads end
client-thins : (r : Option WaitRow) → Thins (end_client r)
client-thins None = doing-thins []
client-thins (Some x) =
    then-thins (provided (λ w. is_accepted x) (cut_pair x.port)) (provided (λ w. is_connect x) (doing (DropsOwned x.port ∷ [])))
    (provided-thins (λ w. is_accepted x) (cut_pair x.port) (λ o w. refl) (pair-thins x.port))
    (provided-thins (λ w. is_connect x) (doing (DropsOwned x.port ∷ [])) (λ o w. refl) (doing-thins (DropsOwned x.port ∷ [])))

die-thins : (code : Status) (t : ThreadRow) → Thins (die code t)
die-thins code t o w ok =
    let off : o t.number ≡ false = not-true (o t.number) (first-true _ _ ok) in
    let gone : Steps = doing (Dies t.number code ∷ Withdraws t.number ∷ []) in
    let same : wait_of (less o w) t.number ≡ wait_of w t.number = first-inside (λ x. not (is_spared o x)) (waits_as t.number) (λ x is. spared-off o x (ap o (eqb-true x.thread t.number is) ∙ off)) w.waits in
    ap (λ r. (gone ▹ end_client r) (less o w)) same
    ∙ then-thins gone (end_client (wait_of w t.number)) (doing-thins (Dies t.number code ∷ Withdraws t.number ∷ [])) (client-thins (wait_of w t.number)) o w ok

death-thins : (t : ThreadRow) (b : Birth) → Thins (post_death t b)
death-thins t b =
    then-thins (doing (Unregisters t.number b ∷ [])) (λ w. given (death_post w t b) (λ m. enter m w)) (doing-thins (Unregisters t.number b ∷ []))
    (given-thins (λ w. death_post w t b) (λ m. enter m) (λ o w. refl) (λ m. enter-thins m))

rows-thins : (pid : ℕ) → Thins (close_handles pid)
rows-thins pid o w ok = turn-thins (close_handle pid) (handle-thins pid) (handles_of w pid) o w ok

process-thins : (pid : ℕ) → Thins (end_process pid)
process-thins pid =
    then-thins (doing (LetsGo pid ∷ [])) (close_handles pid ▹ doing (DropsViewsOf pid ∷ [])) (doing-thins (LetsGo pid ∷ []))
    (then-thins (close_handles pid) (doing (DropsViewsOf pid ∷ [])) (rows-thins pid) (doing-thins (DropsViewsOf pid ∷ [])))

ends-thins : (pid : ℕ) (code : Status) (ts : List ThreadRow) → Thins (end_threads pid code ts)
unfolding end_threads
ends-thins pid code ts =
    then-thins (in_turn (die code) ts) (in_turn post_deaths ts ▹ provided (λ w. not (is_live w pid)) (end_process pid)) (turn-thins (die code) (die-thins code) ts)
    (then-thins (in_turn post_deaths ts) (provided (λ w. not (is_live w pid)) (end_process pid)) (turn-thins post_deaths (λ t. turn-thins (post_death t) (death-thins t) t.registrations) ts)
    (provided-thins (λ w. not (is_live w pid)) (end_process pid) (λ o w. refl) (process-thins pid)))

-- Turns
pub doomed-thins : (p : ProcessRow) → Thins (end_doomed p)
unfolding end_doomed
doomed-thins p o w ok = ends-thins p.number (code_status (first_code 0 p.doom)) (live_threads w p.number) o w ok

goes-thins : (t : ThreadRow) (x : WaitRow) (r : Raised) (n : Next) → Thins (goes_on t x r n)
goes-thins t x r Handled = doing-thins (woken SUCCESS [] x ∷ [])
goes-thins t x r (Heard h) =
    then-thins (doing (Leaves x.thread ∷ [])) (doing (event_begun t r.code r.handled h) ▹ enter (event_row t r.code h)) (doing-thins (Leaves x.thread ∷ []))
    (then-thins (doing (event_begun t r.code r.handled h)) (enter (event_row t r.code h)) (doing-thins (event_begun t r.code r.handled h)) (enter-thins (event_row t r.code h)))
goes-thins t x r Unhandled = doing-thins (Leaves x.thread ∷ Dooms x.process r.code ∷ [])

raised-event : (x : WaitRow) (r : Raised) → raised_in x ≡ Some r → is_event x ≡ true
raised-event x r is = by_kind (λ x. raised_in x ≡ Some r → is_event x ≡ true) (λ x a is. absurd (cc)) (λ x is. absurd (cc)) (λ x is. absurd (cc)) (λ x a offer is. absurd (cc)) (λ x a reply is. absurd (cc)) (λ x e is. refl) x is

-- an event's thread waits for no message
pub less-goes : (o : ℕ → Bool) (w : World) (tid : ℕ) (t : ThreadRow) (x : WaitRow) (r : Raised) → GoesOn w tid t x r → GoesOn (less o w) tid t x r
less-goes o w tid t x r g =
    let off : takes_any x ≡ false = event-off x (raised-event x r g.raised) in
    record { lives = g.lives; waits = first-kept (λ x. not (is_spared o x)) (waits_as tid) w.waits x g.waits (grind arith); raised = g.raised }

pub on-thins : (o : ℕ → Bool) (w : World) (tid : ℕ) (t : ThreadRow) (x : WaitRow) (r : Raised) → GoesOn w tid t x r → every (spares o) (goes_on t x r (behind_chance w x.process r.handled r.chance) w) ≡ true
    → go_on tid (less o w) ≡ goes_on t x r (behind_chance w x.process r.handled r.chance) w
unfolding go_on
on-thins o w tid t x r g ok =
    let l : GoesOn (less o w) tid t x r = less-goes o w tid t x r g in
    rw (l.lives, l.waits, l.raised) (goes-thins t x r (behind_chance w x.process r.handled r.chance) o w ok)
