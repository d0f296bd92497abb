-- Whose messages are shown to members that wake: by an outsider's steps outsiders' alone, by a member's none of them.
use Rattle.std.proofs.Common.{◌≡◌, ℕ, List, [], ◌∷◌, ◌++◌, Bool, true, false, not, Option, Some, None, refl, ap, ◌∙◌, arith}
use Rattle.std.specs.Prelude.{◌&&◌, ◌||◌, ◌==◌}
use Rattle.std.proofs.lemmas.Bool.{and_from}
use Rattle.std.proofs.lemmas.Bool.Decides.{nat_tests}
use Rattle.lpc_base.specs.Rows.{every, first, given, which}
use Rattle.lpc_base.specs.declared.status.TheConstants.{SUCCESS}
use Rattle.lpc_base.proofs.Bools.{first-true, second-true, same-number}
use Rattle.lpc_base.proofs.RowWords.{every-change, every-more, every-unless, every-which, first-passes}
use Rattle.lpc_message.specs.declared.kind.TheConstants.{CLIENT_DIED, CONNECTION_REQUEST, DATAGRAM, DEBUG_EVENT, EXCEPTION, PORT_CLOSED, REQUEST}
use Rattle.lpc_model.specs.declared.entry.Field.{Field}
use Rattle.lpc_model.specs.Message.{asks}
use Rattle.lpc_model.specs.World.{Accepted, Connect, Event, Listen, MessageRow, Receive, Request, WaitKind, WaitRow, World}
use Rattle.lpc_model.specs.Found.{waits_as, waits_at}
use Rattle.lpc_model.specs.Basics.{Basic, Enters, Receives, Takes, TakesConnect, Tells, Wakes, basic, received, world_after}
use Rattle.lpc_model.specs.Entering.{enter, given_steps, shown, takes, woken}
use Rattle.lpc_model.specs.Circle.{Group}
use Rattle.lpc_model.proofs.Steps.Rows.{lone}
use Rattle.lpc_isolation.proofs.Views.View.{our_wait}
use Rattle.lpc_isolation.proofs.Views.Basics.{sees_wait}
use Rattle.lpc_isolation.proofs.Rows.Asked.{is_sort}
use Rattle.lpc_isolation.proofs.Memory.Heard.{Reads, asks_as, shown_header, takes_any}
use Rattle.lpc_isolation.proofs.Closings.Mild.{Once}

-- an outsider's message
abbrev pub shows_out : Group → List Field → Bool
shows_out m fields = not ((shown_header fields).kind == 0) && not (m (shown_header fields).client.process)

some-kind : (k : ℕ) → (((k == REQUEST) || ((k == CONNECTION_REQUEST) || ((k == EXCEPTION) || (k == DEBUG_EVENT)))) || ((k == DATAGRAM) || ((k == PORT_CLOSED) || (k == CLIENT_DIED)))) ≡ true → (k == 0) ≡ false
some-kind k is = grind (arith, nat_tests)

shows-of : (m : Group) (y : MessageRow) (z : WaitRow) (sort : WaitKind) → z.kind ≡ sort → Reads y → is_sort y ≡ true → shows_out m (shown z y) ≡ not (m y.message.header.client.process)
shows-of m y z Listen is r kind = rw (is, r.kind, r.process, some-kind y.message.header.kind kind) refl
shows-of m y z Receive is r kind = rw (is, r.kind, r.process, some-kind y.message.header.kind kind) refl
shows-of m y z (Request a) is r kind = rw (is, r.kind, r.process, some-kind y.message.header.kind kind) refl
shows-of m y z (Connect a offer) is r kind = rw (is, r.kind, r.process, some-kind y.message.header.kind kind) refl
shows-of m y z (Accepted a reply) is r kind = rw (is, r.kind, r.process, some-kind y.message.header.kind kind) refl
shows-of m y z (Event e) is r kind = rw (is, r.kind, r.process, some-kind y.message.header.kind kind) refl

-- what a wake may show, by a member's steps or by an outsider's: of those in the view, an outsider's wake waits for messages
-- alone, and shows an outsider's
abbrev pub is_given_out : Group → ℕ → List Field → WaitRow → Bool
is_given_out m who fields x = not (waits_as who x) || (takes_any x && shows_out m fields)

-- and where it may not be of a message that asks, it is of none
abbrev pub may_show : Bool → List Field → Bool
may_show asks_too fields = asks_too || not (asks_as (shown_header fields).kind)

abbrev pub shown_side : Group → Bool → World → ℕ → List Field → Bool
shown_side m true w who fields = not (shows_out m fields)
shown_side m false w who fields = every (is_given_out m who fields) (which (our_wait m) w.waits)

abbrev pub shown_to : Bool → Group → Bool → World → ℕ → List Field → Bool
shown_to a m e w who fields = may_show a fields && shown_side m e w who fields

abbrev pub is_shown : Bool → Group → Bool → World → Basic → Bool
is_shown a m e w (Wakes who call status fields) = shown_to a m e w who fields
is_shown a m e w (Tells said) = false
is_shown a m e w b = true

abbrev pub are_shown : Bool → Group → Bool → World → List Basic → Bool
are_shown a m e w [] = true
are_shown a m e w (b ∷ bs) = is_shown a m e w b && are_shown a m e (basic w b) bs

pub shown-append : (a : Bool) (m : Group) (e : Bool) (w : World) (bs cs : List Basic) → are_shown a m e w bs ≡ true → are_shown a m e (world_after w bs) cs ≡ true → are_shown a m e w (bs ++ cs) ≡ true
shown-append a m e w [] cs one two = two
shown-append a m e w (b ∷ bs) cs one two = and_from _ _ (first-true _ _ one) (shown-append a m e (basic w b) bs cs (second-true (is_shown a m e w b) _ one) two)

-- what may not ask, may
more-step : (m : Group) (e : Bool) (w : World) (b : Basic) → is_shown false m e w b ≡ true → is_shown true m e w b ≡ true
more-step m e w (Wakes who call status fields) is = second-true (may_show false fields) _ is
more-step m e w (Tells said) is = is
more-step m e w b is = refl

pub shown-more : (m : Group) (e : Bool) (w : World) (bs : List Basic) → are_shown false m e w bs ≡ true → are_shown true m e w bs ≡ true
shown-more m e w [] is = refl
shown-more m e w (b ∷ bs) is = and_from _ _ (more-step m e w b (first-true _ _ is)) (shown-more m e (basic w b) bs (second-true (is_shown false m e w b) _ is))

-- a wake without a message, of nobody in the view where it is an outsider's
none-asks : (k : ℕ) → (k == 0) ≡ true → asks_as k ≡ false
none-asks k is = grind (arith, nat_tests)

may-silent : (a : Bool) (fields : List Field) → ((shown_header fields).kind == 0) ≡ true → may_show a fields ≡ true
may-silent true fields none = refl
may-silent false fields none = rw (none-asks (shown_header fields).kind none) refl

pub silent-shown : (a : Bool) (m : Group) (e : Bool) (w : World) (who : ℕ) (fields : List Field) → ((shown_header fields).kind == 0) ≡ true → (e ≡ false → sees_wait m w who ≡ false) → shown_to a m e w who fields ≡ true
silent-shown a m e w who fields none unseen = and_from _ _ (may-silent a fields none) (by e unseen)
  where
    by : (e : Bool) → (e ≡ false → sees_wait m w who ≡ false) → shown_side m e w who fields ≡ true
    by true unseen = rw none refl
    by false unseen = every-unless (waits_as who) (λ x. takes_any x && shows_out m fields) (which (our_wait m) w.waits) (unseen refl)

-- A message that enters
-- the waits of the one that takes it are for messages
abbrev takes_alone : ℕ → WaitRow → Bool
takes_alone who x = not (waits_as who x) || takes_any x

taker-takes : (y : MessageRow) (z : WaitRow) → takes y z ≡ true → takes_any z ≡ true
taker-takes y z is = grind arith

given-shown : (a : Bool) (m : Group) (e : Bool) (w : World) (y : MessageRow) (z : WaitRow) (sort : WaitKind) (asked : Bool) (b : Basic) → z.kind ≡ sort → asks y.message ≡ asked → ((v : World) → every (takes_alone z.thread) v.waits ≡ true → is_shown a m e v b ≡ true)
    → every (takes_alone z.thread) w.waits ≡ true → are_shown a m e w (given_steps z y ++ b ∷ []) ≡ true
given-shown may m e w y z sort asked b is on fact all = by sort asked is on
  where
    changed : (v : World) → v.waits ≡ w.waits → every (takes_alone z.thread) (basic v (Receives y.message.header.client.thread y.queue)).waits ≡ true
    changed v same = every-change (takes_alone z.thread) (waits_at y.message.header.client.thread y.queue) received (λ x is. is) v.waits (rw same all)

    last : (v : World) → every (takes_alone z.thread) v.waits ≡ true → (is_shown may m e v b && true) ≡ true
    last v here = and_from _ _ (fact v here) refl

    taken : World
    taken = basic w (Takes y.queue)

    heard : World
    heard = basic w (TakesConnect y.queue)

    by : (k : WaitKind) (a : Bool) → z.kind ≡ k → asks y.message ≡ a → are_shown may m e w (given_steps z y ++ b ∷ []) ≡ true
    by Listen true k a = rw (k, a) (last (basic heard (Receives y.message.header.client.thread y.queue)) (changed heard refl))
    by Listen false k a = rw (k, a) (last heard all)
    by Receive true k a = rw (k, a) (last (basic taken (Receives y.message.header.client.thread y.queue)) (changed taken refl))
    by Receive false k a = rw (k, a) (last taken all)
    by (Request r) true k a = rw (k, a) (last (basic taken (Receives y.message.header.client.thread y.queue)) (changed taken refl))
    by (Request r) false k a = rw (k, a) (last taken all)
    by (Connect r offer) true k a = rw (k, a) (last (basic taken (Receives y.message.header.client.thread y.queue)) (changed taken refl))
    by (Connect r offer) false k a = rw (k, a) (last taken all)
    by (Accepted r reply) true k a = rw (k, a) (last (basic taken (Receives y.message.header.client.thread y.queue)) (changed taken refl))
    by (Accepted r reply) false k a = rw (k, a) (last taken all)
    by (Event r) true k a = rw (k, a) (last (basic taken (Receives y.message.header.client.thread y.queue)) (changed taken refl))
    by (Event r) false k a = rw (k, a) (last taken all)

-- what it shows asks where the message does
asks-shown : (y : MessageRow) (z : WaitRow) (sort : WaitKind) → z.kind ≡ sort → Reads y → asks_as (shown_header (shown z y)).kind ≡ asks y.message
asks-shown y z Listen is r = rw (is, r.kind) refl
asks-shown y z Receive is r = rw (is, r.kind) refl
asks-shown y z (Request a) is r = rw (is, r.kind) refl
asks-shown y z (Connect a offer) is r = rw (is, r.kind) refl
asks-shown y z (Accepted a reply) is r = rw (is, r.kind) refl
asks-shown y z (Event e) is r = rw (is, r.kind) refl

-- of the process's side that the message names
pub enter-shown : (a : Bool) (m : Group) (e : Bool) (w : World) (y : MessageRow) → (a || not (asks y.message)) ≡ true → Once w → Reads y → is_sort y ≡ true → m y.message.header.client.process ≡ e → are_shown a m e w (enter y w) ≡ true
enter-shown a m e w y may once r sort side = at (first (takes y) w.waits) refl
  where
    wakes : (e : Bool) → m y.message.header.client.process ≡ e → (z : WaitRow) (v : World) → every (takes_alone z.thread) v.waits ≡ true → shown_side m e v z.thread (shown z y) ≡ true
    wakes true side z v all = rw (shows-of m y z z.kind refl r sort, side) refl
    wakes false side z v all =
        let out : shows_out m (shown z y) ≡ true = shows-of m y z z.kind refl r sort ∙ ap not side in
        every-which (is_given_out m z.thread (shown z y)) (our_wait m) v.waits (every-more (takes_alone z.thread) (is_given_out m z.thread (shown z y)) (λ x is. rw out (grind arith)) v.waits all)

    may-shown : (z : WaitRow) → may_show a (shown z y) ≡ true
    may-shown z = ap (λ b. a || not b) (asks-shown y z z.kind refl r) ∙ may

    at : (o : Option WaitRow) → first (takes y) w.waits ≡ o → are_shown a m e w (Enters y ∷ given o (λ z. given_steps z y ++ woken SUCCESS (shown z y) z ∷ [])) ≡ true
    at None none = refl
    at (Some z) some =
        let takes_it : takes_any z ≡ true = taker-takes y z (first-passes (takes y) w.waits z some) in
        let all : every (takes_alone z.thread) w.waits ≡ true = lone (waits_as z.thread) takes_any (takes y) w.waits z (once z.thread) some (same-number z.thread) takes_it in
        given-shown a m e (basic w (Enters y)) y z z.kind (asks y.message) (woken SUCCESS (shown z y) z) refl refl (λ v here. and_from _ _ (may-shown z) (wakes e side z v here)) all
