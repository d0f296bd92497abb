-- Waits that end one after the other, and messages that go, keep a world's waits sound.
use Rattle.std.proofs.Common.{◌≡◌, ℕ, List, [], ◌∷◌, Bool, true, false, cond, not, refl, arith}
use Rattle.std.specs.Prelude.{◌&&◌, ◌||◌}
use Rattle.std.proofs.lemmas.Bool.Decides.{nat_tests}
use Rattle.lpc_base.specs.Rows.{each, every, has, which, without}
use Rattle.lpc_base.specs.declared.status.Status.{Status}
use Rattle.std.proofs.lemmas.Bool.{and_from}
use Rattle.lpc_base.proofs.RowWords.{every-any, every-more, every-without, has-kept, has-push, has_none-without, none-counted}
use Rattle.lpc_base.proofs.RowMaps.{every-both}
use Rattle.lpc_base.proofs.Bools.{first-true}
use Rattle.lpc_names.specs.Binding.{is_name}
use Rattle.lpc_model.specs.declared.entry.Field.{Field}
use Rattle.lpc_model.specs.World.{Birth, Listen, MessageRow, Receive, WaitRow, World}
use Rattle.lpc_model.specs.Found.{is_accepted, is_offered, is_own_of, is_queued, is_request, same_birth, waits_as, is_event, is_mark, is_marked, is_open}
use Rattle.lpc_model.specs.Basics.{Basic, DropsOwned, Empties, Unbinds, Withdraws, basic, world_after, Marks, left_by}
use Rattle.lpc_model.specs.Entering.{woken}
use Rattle.lpc_model.specs.Close.{is_offered_to, is_queued_request, is_queued_event, is_unmarked_event, mark_event}
use Rattle.lpc_model.specs.SoundWaits.{IsSoundWorld, is_message_of, leads_open, is_answerable, is_sound_request, waiter_of}
use Rattle.lpc_model.proofs.Steps.Rows.{every-left, has-without}
use Rattle.lpc_model.proofs.Sound.Pairs.{is_quiet, tied-of}
use Rattle.lpc_model.proofs.Sound.Worlds.{WaitOnce, by_kind, is_sure, order-of, sound-from, sound-memory, sure-waits, exempt, is_sure_event}
use Rattle.lpc_model.proofs.Sound.Basics.{sound-wakes-quiet, still-marked}
use Rattle.lpc_model.proofs.Sound.Queues.{listen-sure, receive-sure, with_messages}
use Rattle.lpc_model.proofs.Steps.InTurn.{after-append}
use Rattle.lpc_model.specs.Tests.{is_client}

-- A world with less
abbrev pub keeps_mark : World → World → WaitRow → Bool
keeps_mark w v x = not (is_marked w x) || is_marked v x

keeps-then : (w v u : World) (x : WaitRow) → keeps_mark w v x ≡ true → keeps_mark v u x ≡ true → keeps_mark w u x ≡ true
keeps-then w v u x one two = parts (is_marked w x) (is_marked v x) (is_marked u x) one two
  where
    parts : (a b c : Bool) → (not a || b) ≡ true → (not b || c) ≡ true → (not a || c) ≡ true
    parts a b c one two = grind arith

pub keeps-same : (w : World) (xs : List WaitRow) → every (keeps_mark w w) xs ≡ true
keeps-same w xs = every-any (keeps_mark w w) (λ x. same (is_marked w x)) xs
  where
    same : (a : Bool) → (not a || a) ≡ true
    same a = grind arith

-- a sound world with fewer waits and messages, and with the same ports, handles and names
pub record IsLess (w v : World) : Type 0 where
  pub sound : IsSoundWorld v
  pub waits : (f : WaitRow → Bool) → every f w.waits ≡ true → every f v.waits ≡ true
  -- the waits that are left keep their marks
  pub marks : every (keeps_mark w v) v.waits ≡ true
  pub ports : v.ports ≡ w.ports
  pub handles : v.handles ≡ w.handles
  pub bindings : v.bindings ≡ w.bindings

pub less-none : (w : World) → IsSoundWorld w → IsLess w w
less-none w s = record { sound = s; waits = λ f all. all; marks = keeps-same w w.waits; ports = refl; handles = refl; bindings = refl }

pub less-then : (w v u : World) → IsLess w v → IsLess v u → IsLess w u
less-then w v u a b = record {
  sound = b.sound;
  waits = λ f all. b.waits f (a.waits f all);
  marks = every-both (keeps_mark w v) (keeps_mark v u) (keeps_mark w u) (keeps-then w v u) u.waits (b.waits (keeps_mark w v) a.marks) b.marks;
  ports = rw b.ports a.ports;
  handles = rw b.handles a.handles;
  bindings = rw b.bindings a.bindings;
}

-- Names that go
pub sound-unbinds : (w : World) (b : Birth) → IsSoundWorld w → IsSoundWorld (basic w (Unbinds b))
sound-unbinds w b s = record {
  waits = s.waits;
  stay = s.stay;
  once = s.once;
  names = every-without (λ x. leads_open w x.1) (is_name same_birth b) w.bindings s.names;
  tables = s.tables;
  unused = s.unused;
  homes = s.homes;
  pairs = s.pairs;
  servers = s.servers;
  ordinals = s.ordinals;
  numbers = s.numbers;
  makers = s.makers;
}

-- Messages that go
-- no message that a wait still needs passes the test by which messages go
abbrev pub Spares : World → (MessageRow → Bool) → WaitRow → Type 0
Spares w gone x = (is_request x || (is_offered x || is_unmarked_event w x)) ≡ true → x.received ≡ false → (m : MessageRow) → is_message_of x m ≡ true → gone m ≡ false

still-there : (gone : MessageRow → Bool) (x : WaitRow) (ms : List MessageRow) → ((m : MessageRow) → is_message_of x m ≡ true → gone m ≡ false) → has (is_message_of x) ms ≡ true → has (is_message_of x) (without gone ms) ≡ true
still-there gone x ms apart is =
    has-without (is_message_of x) gone ms (every-any (λ m. not (gone m) || not (is_message_of x m)) (λ m. either (gone m) (is_message_of x m) (apart m)) ms) is
  where
    either : (g i : Bool) → (i ≡ true → g ≡ false) → (not g || not i) ≡ true
    either g i off = grind (arith, off)

request-parts : (c o r a h g q z : Bool) → (r ≡ false → h ≡ true → g ≡ true) → ((c && (o && cond r a (h && q))) && z) ≡ true → ((c && (o && cond r a (g && q))) && z) ≡ true
request-parts c o r a h g q z still is = grind (arith, still)

connect-parts : (c q r h g z : Bool) → (r ≡ false → h ≡ true → g ≡ true) → ((c && (q && (r || h))) && z) ≡ true → ((c && (q && (r || g))) && z) ≡ true
connect-parts c q r h g z still is = grind (arith, still)

unmarked-parts : (c m s t a : Bool) → (m ≡ false → ((c && s) && a) ≡ true → ((c && t) && a) ≡ true) → ((c && (m || s)) && (m || a)) ≡ true → ((c && (m || t)) && (m || a)) ≡ true
unmarked-parts c true s t a one is = is
unmarked-parts c false s t a one is = one refl is

event : (w : World) (gone : MessageRow → Bool) (x : WaitRow) → ((true && not (is_marked w x)) ≡ true → x.received ≡ false → (m : MessageRow) → is_message_of x m ≡ true → gone m ≡ false) → is_sure_event w x ≡ true → is_sure_event (with_messages w (without gone w.messages)) x ≡ true
event w gone x spares is =
    let rest = without gone w.messages in
    let v = with_messages w rest in
    unmarked-parts (is_client w (waiter_of x)) (is_marked w x) (is_sound_request w x) (is_sound_request v x) (is_answerable w x)
    (λ unmarked. request-parts (is_client w (waiter_of x)) (is_open w x.port) x.received (is_answerable w x) (has (is_message_of x) w.messages) (has (is_message_of x) rest) (is_open w x.queue) (is_answerable w x) (λ off. still-there gone x w.messages (spares (rw unmarked refl) off))) is

less-sure : (w : World) (gone : MessageRow → Bool) (x : WaitRow) → Spares w gone x → is_sure w x ≡ true → is_sure (with_messages w (without gone w.messages)) x ≡ true
less-sure w gone =
    let rest = without gone w.messages in
    by_kind (λ x. Spares w gone x → is_sure w x ≡ true → is_sure (with_messages w rest) x ≡ true)
    (λ x r spares is. request-parts _ _ x.received _ (has (is_message_of x) w.messages) (has (is_message_of x) rest) _ _ (λ off. still-there gone x w.messages (spares refl off)) is)
    (λ x spares is. receive-sure w rest (record x { kind = Receive }) (has_none-without _ gone w.messages) is)
    (λ x spares is. listen-sure w rest (record x { kind = Listen }) (has_none-without _ gone w.messages) is)
    (λ x r offer spares is. connect-parts _ _ x.received (has (is_message_of x) w.messages) (has (is_message_of x) rest) _ (λ off. still-there gone x w.messages (spares refl off)) is)
    (λ x r reply spares is. is)
    (λ x r spares is. event w gone x spares is)

-- where what is known of each wait spares it
pub sound-fewer : (w : World) (gone : MessageRow → Bool) (known : WaitRow → Bool) → ((x : WaitRow) → known x ≡ true → Spares w gone x) → every known w.waits ≡ true → IsSoundWorld w → IsLess w (with_messages w (without gone w.messages))
sound-fewer w gone known spares all s =
    let v = with_messages w (without gone w.messages) in
    record {
      sound = sound-from v (every-both (is_sure w) known (is_sure v) (λ x is one. less-sure w gone x (spares x one) is) w.waits (sure-waits w s) all) s.once (order-of w s) (tied-of w s);
      waits = λ f all. all;
      marks = keeps-same w w.waits;
      ports = refl;
      handles = refl;
      bindings = refl;
    }

-- a thread's own message, where it doesn't wait
own-apart : (who : ℕ) (x : WaitRow) (m : MessageRow) → not (waits_as who x) ≡ true → is_message_of x m ≡ true → is_own_of who m ≡ false
own-apart who x m off is = grind (arith, nat_tests)

pub less-withdrawn : (w : World) (who : ℕ) → every (λ y. not (waits_as who y)) w.waits ≡ true → IsSoundWorld w → IsLess w (basic w (Withdraws who))
less-withdrawn w who off s =
    sound-fewer w (is_own_of who) (λ y. not (waits_as who y)) (λ x one _ _ m. own-apart who x m one) off s

-- or where it waits for what is made of a marked event
abbrev pub is_spared : World → ℕ → WaitRow → Bool
is_spared w who y = not (waits_as who y) || (is_event y && is_marked w y)

spared-off : (a e m r o : Bool) → (r ≡ true → e ≡ false) → (o ≡ true → e ≡ false) → (not a || (e && m)) ≡ true → (r || (o || (e && not m))) ≡ true → not a ≡ true
spared-off a e m r o one two is need = grind (arith, one, two)

request-event : (x : WaitRow) → is_request x ≡ true → is_event x ≡ false
request-event = by_kind (λ x. is_request x ≡ true → is_event x ≡ false) (λ x m is. refl) (λ x is. refl) (λ x is. refl) (λ x m offer is. refl) (λ x m r is. refl) (λ x r is. absurd (cc))

offered-event : (x : WaitRow) → is_offered x ≡ true → is_event x ≡ false
offered-event = by_kind (λ x. is_offered x ≡ true → is_event x ≡ false) (λ x m is. refl) (λ x is. refl) (λ x is. refl) (λ x m offer is. refl) (λ x m r is. refl) (λ x r is. absurd (cc))

pub less-spared : (w : World) (who : ℕ) → every (is_spared w who) w.waits ≡ true → IsSoundWorld w → IsLess w (basic w (Withdraws who))
less-spared w who off s =
    sound-fewer w (is_own_of who) (is_spared w who) (λ x one need _ m. own-apart who x m (spared-off (waits_as who x) (is_event x) (is_marked w x) (is_request x) (is_offered x) (request-event x) (offered-event x) one need)) off s

-- the messages of a queue, where no request in it waits, nor a connect on it
queue-apart : (b : Birth) (x : WaitRow) (m : MessageRow) → same_birth x.queue b ≡ false → is_queued x.queue m ≡ true → is_queued b m ≡ false
queue-apart b x m off is = grind (arith, nat_tests)

unqueued : (r q o rec u : Bool) → ((not (r && (q && not rec)) && not (o && q)) && not (u && (q && not rec))) ≡ true → (r || (o || u)) ≡ true → rec ≡ false → q ≡ false
unqueued r q o rec u known is off = grind arith

abbrev pub is_unqueued : World → Birth → WaitRow → Bool
is_unqueued w b x = (not (is_queued_request b x) && not (is_offered_to b x)) && not (is_queued_event b w x)

pub less-emptied : (w : World) (b : Birth) → every (is_unqueued w b) w.waits ≡ true → IsSoundWorld w → IsLess w (basic w (Empties b))
less-emptied w b off s =
    sound-fewer w (is_queued b) (is_unqueued w b) (λ x one is rec m own. queue-apart b x m (unqueued (is_request x) (same_birth x.queue b) (is_offered x) x.received (is_unmarked_event w x) one is rec) (first-true (is_queued x.queue m) _ own)) off s

-- Waits that share a thread
-- no wait passes the test but for one that shares its thread with a row of the list
abbrev pub shares : List WaitRow → WaitRow → Bool
shares xs y = has (λ x. waits_as x.thread y) xs

-- what passes is in the list
own-thread : (y : WaitRow) → waits_as y.thread y ≡ true
own-thread y = grind (arith, nat_tests)

pub passing-shares : (test : WaitRow → Bool) (ws : List WaitRow) → every (λ y. not (test y) || shares (which test ws) y) ws ≡ true
passing-shares test [] = refl
passing-shares test (z ∷ zs) = at (passing-shares test zs) (test z) refl
  where
    at : every (λ y. not (test y) || shares (which test zs) y) zs ≡ true → (t : Bool) → test z ≡ t → every (λ y. not (test y) || shares (which test (z ∷ zs)) y) (z ∷ zs) ≡ true
    at later true is =
        let own = own-thread z in
        let rest = every-more (λ y. not (test y) || shares (which test zs) y) (λ y. not (test y) || shares (z ∷ which test zs) y) (λ y one. grind arith) zs later in grind arith
    at later false is = grind (arith, later)

-- a wait that doesn't pass shares its thread with none that does, where each thread waits once
none-here : (who : ℕ) (zs : List WaitRow) → has (waits_as who) zs ≡ false → every (λ y. not (waits_as who y)) zs ≡ true
none-here who [] none = refl
none-here who (y ∷ ys) none = grind (arith, none-here who ys)

once-tail : (z : WaitRow) (zs : List WaitRow) → WaitOnce (z ∷ zs) → WaitOnce zs
once-tail z zs once tid = let few = once tid in grind arith

once-head : (z : WaitRow) (zs : List WaitRow) → WaitOnce (z ∷ zs) → has (waits_as z.thread) zs ≡ false
once-head z zs once = let few = once z.thread in let own = own-thread z in none-counted (waits_as z.thread) zs (grind arith)

unshared : (z : WaitRow) (zs : List WaitRow) (test : WaitRow → Bool) → every (λ y. not (waits_as z.thread y)) zs ≡ true → shares (which test zs) z ≡ false
unshared z [] test off = refl
unshared z (y ∷ ys) test off = grind (arith, nat_tests, unshared z ys test)

pub failing-apart : (test : WaitRow → Bool) (ws : List WaitRow) → WaitOnce ws → every (λ y. test y || not (shares (which test ws) y)) ws ≡ true
failing-apart test [] once = refl
failing-apart test (z ∷ zs) once = at (failing-apart test zs (once-tail z zs once)) (test z) refl
  where
    apart : every (λ y. not (waits_as z.thread y)) zs ≡ true
    apart = none-here z.thread zs (once-head z zs once)

    at : every (λ y. test y || not (shares (which test zs) y)) zs ≡ true → (t : Bool) → test z ≡ t → every (λ y. test y || not (shares (which test (z ∷ zs)) y)) (z ∷ zs) ≡ true
    at later true is =
        let rest = every-both (λ y. test y || not (shares (which test zs) y)) (λ y. not (waits_as z.thread y)) (λ y. test y || not (shares (z ∷ which test zs) y)) (λ y one two. grind arith) zs later apart in grind arith
    at later false is =
        let own = unshared z zs test apart in grind (arith, later)

-- so a wait that is no accepted connect is of a thread with none
quiet-found : (who : ℕ) (z : WaitRow) (ws : List WaitRow) → z.thread ≡ who → shares (which is_accepted ws) z ≡ false → every (is_quiet who) ws ≡ true
quiet-found who z [] same off = refl
quiet-found who z (y ∷ ys) same off = grind (arith, nat_tests, quiet-found who z ys)

pub quiet-waits : (ws : List WaitRow) → WaitOnce ws → every (λ x. is_accepted x || every (is_quiet x.thread) ws) ws ≡ true
quiet-waits ws once = every-more (λ y. is_accepted y || not (shares (which is_accepted ws) y)) (λ x. is_accepted x || every (is_quiet x.thread) ws) (λ x is. at x (is_accepted x) (shares (which is_accepted ws) x) refl is) ws (failing-apart is_accepted ws once)
  where
    at : (x : WaitRow) (a s : Bool) → shares (which is_accepted ws) x ≡ s → (a || not s) ≡ true → (a || every (is_quiet x.thread) ws) ≡ true
    at x true s is one = refl
    at x false false is one = quiet-found x.thread x ws refl is
    at x false true is one = absurd (cc)

-- Waits that end in turn
-- a turn ends the wait of a thread
pub record IsTurn (w v : World) (who : ℕ) : Type 0 where
  pub less : IsLess w v
  pub ends : every (λ y. not (waits_as who y)) v.waits ≡ true

abbrev pub Turns : (WaitRow → List Basic) → Type 0
Turns ending = (w : World) (x : WaitRow) → every (is_quiet x.thread) w.waits ≡ true → IsSoundWorld w → IsTurn w (world_after w (ending x)) x.thread

pub or-then : (a b : Bool) → (a ≡ true → b ≡ true) → (not a || b) ≡ true
or-then true b more = more refl
or-then false b more = refl

pub turns-told : (status : Status) (fields : List Field) → Turns (λ x. woken status fields x ∷ [])
turns-told status fields w x quiet s = record {
  less = record {
    sound = sound-wakes-quiet w x.thread x.call status fields quiet s;
    waits = λ f all. every-without f (waits_as x.thread) w.waits all;
    marks = every-more (λ y. not (waits_as x.thread y)) (keeps_mark w (left_by x.thread w)) (λ y off. or-then (is_marked w y) (is_marked (left_by x.thread w) y) (still-marked x.thread y w.marks off)) (without (waits_as x.thread) w.waits) (every-left (waits_as x.thread) w.waits);
    ports = refl;
    handles = refl;
    bindings = refl;
  };
  ends = every-left (waits_as x.thread) w.waits;
}

pub turns-withdrawn : (status : Status) (fields : List Field) → Turns (λ x. woken status fields x ∷ Withdraws x.thread ∷ [])
turns-withdrawn status fields w x quiet s =
    let v = basic w (woken status fields x) in
    let turn = turns-told status fields w x quiet s in
    let less = less-withdrawn v x.thread turn.ends turn.less.sound in
    record { less = less-then w v (basic v (Withdraws x.thread)) turn.less less; ends = turn.ends }

-- views are no matter
less-disowned : (w : World) (b : Birth) → IsSoundWorld w → IsLess w (basic w (DropsOwned b))
less-disowned w b s = record { sound = sound-memory w _ _ _ s; waits = λ f all. all; marks = keeps-same w w.waits; ports = refl; handles = refl; bindings = refl }

pub turns-disowned : (status : Status) (fields : List Field) → Turns (λ x. woken status fields x ∷ Withdraws x.thread ∷ DropsOwned x.port ∷ [])
turns-disowned status fields w x quiet s =
    let v = world_after w (woken status fields x ∷ Withdraws x.thread ∷ []) in
    let turn = turns-withdrawn status fields w x quiet s in
    record { less = less-then w v (basic v (DropsOwned x.port)) turn.less (less-disowned v x.port turn.less.sound); ends = turn.ends }

-- all turns: the threads of the rows don't wait any longer
record IsTurned (w v : World) (xs : List WaitRow) : Type 0 where
  less : IsLess w v
  ends : every (λ y. not (shares xs y)) v.waits ≡ true

none-shares : (ws : List WaitRow) → every (λ y. not (shares [] y)) ws ≡ true
none-shares [] = refl
none-shares (y ∷ ys) = none-shares ys

share-parts : (x : WaitRow) (xs : List WaitRow) (y : WaitRow) → not (waits_as x.thread y) ≡ true → not (shares xs y) ≡ true → not (shares (x ∷ xs) y) ≡ true
share-parts x xs y one two = grind arith

all-turned : (ending : WaitRow → List Basic) → Turns ending → (xs : List WaitRow) (w : World) → every (λ x. every (is_quiet x.thread) w.waits) xs ≡ true → IsSoundWorld w → IsTurned w (world_after w (each ending xs)) xs
all-turned ending turns [] w quiet s = record { less = less-none w s; ends = none-shares w.waits }
all-turned ending turns (x ∷ xs) w quiet s =
    let here : every (is_quiet x.thread) w.waits ≡ true = grind arith in
    let later : every (λ y. every (is_quiet y.thread) w.waits) xs ≡ true = grind arith in
    let v = world_after w (ending x) in
    let turn = turns w x here s in
    let after = all-turned ending turns xs v (every-more (λ y. every (is_quiet y.thread) w.waits) (λ y. every (is_quiet y.thread) v.waits) (λ y. turn.less.waits (is_quiet y.thread)) xs later) turn.less.sound in
    let u = world_after v (each ending xs) in
    rw (after-append w (ending x) (each ending xs)) (record {
      less = less-then w v u turn.less after.less;
      ends = every-both (λ y. not (waits_as x.thread y)) (λ y. not (shares xs y)) (λ y. not (shares (x ∷ xs) y)) (λ y one two. share-parts x xs y one two) u.waits (after.less.waits (λ y. not (waits_as x.thread y)) turn.ends) after.ends;
    })

-- each wait that passes, and isn't an accepted connect, ends: none is left
pub record IsEnded (w v : World) (test : WaitRow → Bool) : Type 0 where
  pub less : IsLess w v
  pub none : every (λ y. not (test y)) v.waits ≡ true

which-quiet : (test f : WaitRow → Bool) (ws : List WaitRow) → ((x : WaitRow) → test x ≡ true → is_accepted x ≡ false) → every (λ x. is_accepted x || f x) ws ≡ true → every f (which test ws) ≡ true
which-quiet test f [] off all = refl
which-quiet test f (x ∷ xs) off all = grind (arith, off x, which-quiet test f xs off)

pub not-passing : (t s : Bool) → (not t || s) ≡ true → not s ≡ true → not t ≡ true
not-passing t s one two = grind arith

pub ended-each : (w : World) (test : WaitRow → Bool) (ending : WaitRow → List Basic) → ((x : WaitRow) → test x ≡ true → is_accepted x ≡ false) → Turns ending → IsSoundWorld w → IsEnded w (world_after w (each ending (which test w.waits))) test
ended-each w test ending off turns s =
    let xs = which test w.waits in
    let v = world_after w (each ending xs) in
    let turned = all-turned ending turns xs w (which-quiet test (λ x. every (is_quiet x.thread) w.waits) w.waits off (quiet-waits w.waits s.once)) s in
    record {
      less = turned.less;
      none = every-both (λ y. not (test y) || shares xs y) (λ y. not (shares xs y)) (λ y. not (test y)) (λ y one two. not-passing _ _ one two) v.waits (turned.less.waits (λ y. not (test y) || shares xs y) (passing-shares test w.waits)) turned.ends;
    }

-- Events that are marked
-- an event that is marked needs less
marks-sure : (w : World) (who : ℕ) (x : WaitRow) → is_sure w x ≡ true → is_sure (basic w (Marks who)) x ≡ true
marks-sure w who =
    let v = basic w (Marks who) in
    by_kind (λ x. is_sure w x ≡ true → is_sure v x ≡ true) (λ x m is. is) (λ x is. is) (λ x is. is) (λ x m offer is. is) (λ x m reply is. is)
    (λ x r is. exempt w v x x (λ one. one) (has-kept (is_mark x.thread) w.marks who) (λ one. one) is)

pub less-marks : (w : World) (who : ℕ) → IsSoundWorld w → IsLess w (basic w (Marks who))
less-marks w who s = record {
  sound = sound-from (basic w (Marks who)) (every-more (is_sure w) (is_sure (basic w (Marks who))) (marks-sure w who) w.waits (sure-waits w s)) s.once (order-of w s) (tied-of w s);
  waits = λ f all. all;
  marks = every-any (keeps_mark w (basic w (Marks who))) (λ x. or-then (is_marked w x) (is_marked (basic w (Marks who)) x) (has-kept (is_mark x.thread) w.marks who)) w.waits;
  ports = refl;
  handles = refl;
  bindings = refl;
}

-- events of some threads are marked, of each thread that has one of the rows
pub record AreMarked (w v : World) (xs : List WaitRow) : Type 0 where
  pub less : IsLess w v
  pub all : every (λ y. not (shares xs y) || is_marked v y) v.waits ≡ true

-- each wait of a thread is its one event
abbrev Lone : World → WaitRow → Bool
Lone w x = every (λ y. not (waits_as x.thread y) || is_event y) w.waits

own-mark : (w : World) (x y : WaitRow) → waits_as x.thread y ≡ true → is_marked (basic w (Marks x.thread)) y ≡ true
own-mark w x y same = has-push (is_mark y.thread) w.marks x.thread (grind (arith, nat_tests))

spared : (w : World) (x y : WaitRow) → (not (waits_as x.thread y) || is_event y) ≡ true → is_spared (basic w (Marks x.thread)) x.thread y ≡ true
spared w x y is = at (waits_as x.thread y) refl is
  where
    at : (a : Bool) → waits_as x.thread y ≡ a → (not a || is_event y) ≡ true → (not a || (is_event y && is_marked (basic w (Marks x.thread)) y)) ≡ true
    at true same is = let own = own-mark w x y same in grind (arith, own)
    at false same is = refl

pub all-marked : (xs : List WaitRow) (w : World) → every (Lone w) xs ≡ true → IsSoundWorld w → AreMarked w (world_after w (each mark_event xs)) xs
all-marked [] w lone s = record { less = less-none w s; all = every-any _ (λ y. refl) w.waits }
all-marked (x ∷ xs) w lone s =
    let here : Lone w x ≡ true = grind arith in
    let later : every (Lone w) xs ≡ true = grind arith in
    let v = basic w (Marks x.thread) in
    let u = basic v (Withdraws x.thread) in
    let one = less-marks w x.thread s in
    let two = less-spared v x.thread (every-more (λ y. not (waits_as x.thread y) || is_event y) (is_spared v x.thread) (spared w x) w.waits here) one.sound in
    let first = less-then w v u one two in
    let rest = all-marked xs u later two.sound in
    let t = world_after u (each mark_event xs) in
    let marked : every (λ y. not (waits_as x.thread y) || is_marked u y) w.waits ≡ true = every-any _ (λ y. or-then (waits_as x.thread y) (is_marked u y) (own-mark w x y)) w.waits in
    record {
      less = less-then w u t first rest.less;
      all = every-both (λ y. (not (waits_as x.thread y) || is_marked u y) && keeps_mark u t y) (λ y. not (shares xs y) || is_marked t y) (λ y. not (shares (x ∷ xs) y) || is_marked t y)
          (λ y one two. parts x xs t y one two) t.waits
          (every-both (λ y. not (waits_as x.thread y) || is_marked u y) (keeps_mark u t) _ (λ y a b. and_from _ _ a b) t.waits (rest.less.waits _ marked) rest.less.marks) rest.all;
    }
  where
    bools : (a m k s : Bool) → ((not a || m) && (not m || k)) ≡ true → (not s || k) ≡ true → (not (a || s) || k) ≡ true
    bools a m k s one two = grind arith

    parts : (x : WaitRow) (xs : List WaitRow) (t : World) (y : WaitRow) → ((not (waits_as x.thread y) || is_marked (basic (basic w (Marks x.thread)) (Withdraws x.thread)) y) && keeps_mark (basic (basic w (Marks x.thread)) (Withdraws x.thread)) t y) ≡ true → (not (shares xs y) || is_marked t y) ≡ true → (not (shares (x ∷ xs) y) || is_marked t y) ≡ true
    parts x xs t y one two = let more = bools (waits_as x.thread y) (is_marked (basic (basic w (Marks x.thread)) (Withdraws x.thread)) y) (is_marked t y) (shares xs y) one two in grind (arith, more)

-- each event that passes, and isn't marked, is marked
pub record IsMarkedWhere (w v : World) (test : WaitRow → Bool) : Type 0 where
  pub less : IsLess w v
  pub all : every (λ y. not (is_event y && test y) || is_marked v y) v.waits ≡ true

lone-events : (ws zs : List WaitRow) (test : WaitRow → Bool) → ((x : WaitRow) → test x ≡ true → is_event x ≡ true) → every (λ x. not (is_event x) || every (λ y. not (waits_as x.thread y) || is_event y) zs) ws ≡ true → every (λ x. every (λ y. not (waits_as x.thread y) || is_event y) zs) (which test ws) ≡ true
lone-events [] zs test events all = refl
lone-events (x ∷ xs) zs test events all = grind (arith, events x, lone-events xs zs test events)

event-waits : (ws : List WaitRow) → WaitOnce ws → every (λ x. not (is_event x) || every (λ y. not (waits_as x.thread y) || is_event y) ws) ws ≡ true
event-waits ws once = every-more (λ y. is_other y || not (shares (which is_other ws) y)) (λ x. not (is_event x) || every (λ y. not (waits_as x.thread y) || is_event y) ws) (λ x is. at x (is_event x) (shares (which is_other ws) x) refl is) ws (failing-apart is_other ws once)
  where
    is_other : WaitRow → Bool
    is_other y = not (is_event y)

    found : (who : ℕ) (z : WaitRow) (ws : List WaitRow) → z.thread ≡ who → shares (which is_other ws) z ≡ false → every (λ y. not (waits_as who y) || is_event y) ws ≡ true
    found who z [] same off = refl
    found who z (y ∷ ys) same off = grind (arith, nat_tests, found who z ys)

    at : (x : WaitRow) (e s : Bool) → shares (which is_other ws) x ≡ s → (not e || not s) ≡ true → (not e || every (λ y. not (waits_as x.thread y) || is_event y) ws) ≡ true
    at x false s is one = refl
    at x true false is one = found x.thread x ws refl is
    at x true true is one = absurd (cc)

pub marked-each : (w : World) (test : WaitRow → Bool) → IsSoundWorld w → IsMarkedWhere w (world_after w (each mark_event (which (λ x. is_unmarked_event w x && test x) w.waits))) test
marked-each w test s =
    let xs = which (λ x. is_unmarked_event w x && test x) w.waits in
    let v = world_after w (each mark_event xs) in
    let t = all-marked xs w (lone-events w.waits w.waits (λ x. is_unmarked_event w x && test x) (λ x is. grind arith) (event-waits w.waits s.once)) s in
    record {
      less = t.less;
      all = every-both (λ y. (not (is_unmarked_event w y && test y) || shares xs y) && keeps_mark w v y) (λ y. not (shares xs y) || is_marked v y) (λ y. not (is_event y && test y) || is_marked v y)
          (λ y one two. parts (is_event y) (is_marked w y) (test y) (shares xs y) (is_marked v y) one two) v.waits
          (every-both (λ y. not (is_unmarked_event w y && test y) || shares xs y) (keeps_mark w v) _ (λ y a b. and_from _ _ a b) v.waits (t.less.waits _ (passing-shares (λ x. is_unmarked_event w x && test x) w.waits)) t.less.marks) t.all;
    }
  where
    parts : (e m t s k : Bool) → ((not ((e && not m) && t) || s) && (not m || k)) ≡ true → (not s || k) ≡ true → (not (e && t) || k) ≡ true
    parts e m t s k one two = grind arith
