-- Views that calls map, and what connects offer: a member's views are of members' sections, or of outer ones.
use Rattle.lpc_model.proofs.Calls.Raising.{set-passes}
use Rattle.lpc_model.specs.Raise.{event_begun, event_message}
use Rattle.lpc_model.proofs.Sound.Reply.{reply-cases}
use Rattle.std.proofs.Common.{◌≡◌, ℕ, List, [], ◌∷◌, ◌++◌, Bool, true, false, map, not, Option, Some, None, refl, ap, sym, subst, ◌∙◌, arith}
use Rattle.std.specs.Prelude.{◌||◌, ◌==◌, Ok}
use Rattle.std.proofs.lemmas.Bool.{and_from, eqb-true, or_left, or_right}
use Rattle.lpc_base.specs.Rows.{change, every, has}
use Rattle.lpc_base.proofs.Births.{birth-self}
use Rattle.lpc_base.proofs.RowMaps.{every-change_to, every-first, every-mapped}
use Rattle.lpc_base.proofs.RowWords.{every-append, every-change, every-more, every-push, every-without, has-push}
use Rattle.lpc_base.proofs.Bools.{first-true, second-true}
use Rattle.lpc_message.specs.declared.kind.TheConstants.{DATAGRAM, REQUEST}
use Rattle.lpc_model.specs.declared.line.ViewWord.{ViewWord}
use Rattle.lpc_model.specs.declared.message.Message.{Message}
use Rattle.lpc_model.specs.World.{Birth, HandleTable, MessageRow, Offer, PortRow, SectionRow, ThreadRow, ViewRow, ViewTable, WaitRow, World, Security}
use Rattle.lpc_model.specs.Found.{free_handle, is_owned_by, is_space, is_table, lies_at, offer_of, shows_section, waits_as, waits_at}
use Rattle.lpc_model.specs.Basics.{Accepts, AddsProcess, Awaits, Basic, Dies, DropsOwned, DropsViewsOf, Frees, Maps, Receives, Unmaps, Wakes, accepted, basic, no_views, received, with_view, without_owned, without_view, without_views, world_after, Secures, Leaves}
use Rattle.lpc_model.specs.Close.{close_handle}
use Rattle.lpc_model.specs.Connect.{ConnectAnswer, accept_start, accept_steps, names_connect, allow_steps, create_steps, named_steps}
use Rattle.lpc_model.specs.Entering.{enter, received_steps, row_of}
use Rattle.lpc_model.specs.Lines.{ScriptCall}
use Rattle.lpc_model.specs.Memory.{mapped_view, mapping_right, section_test}
use Rattle.lpc_model.specs.Offers.{SharedViews, if_given, mapped, offered_view, server_views, shared_steps, shared_test, view_test}
use Rattle.lpc_model.specs.Request.{datagram_start, given_reply, reply_test, request_start, sent_by}
use Rattle.lpc_model.specs.Tests.{next_birth, client_of}
use Rattle.lpc_model.specs.Circle.{Group, outsider_sees}
use Rattle.lpc_model.proofs.Calls.Holding.{Holds, bind_holds, holds_ok}
use Rattle.lpc_model.proofs.Calls.Offers.{Given, IsViewOf, none_offered, one_offered, viewed}
use Rattle.lpc_model.proofs.Calls.Outcomes.{IsAccepting, IsConnecting, Outcomes}
use Rattle.lpc_model.proofs.Calls.Sharing.{AreShared, entered-beside, mapped-alike, shared}
use Rattle.lpc_model.proofs.Steps.Ending.{answered_end, ending-enter, ending-receipt, handle-ending, is_ending, steps-end}
use Rattle.lpc_model.proofs.Steps.InTurn.{after-append}
use Rattle.lpc_isolation.proofs.Calls.Deeds.{served-does, guarded}
use Rattle.lpc_isolation.proofs.Each.Accepts.{found-answer, sides}
use Rattle.lpc_isolation.proofs.Each.Connects.{row, starting, steps_of}
use Rattle.lpc_isolation.proofs.Each.Described.{behind}
use Rattle.lpc_isolation.proofs.Each.Sends.{Caller}
use Rattle.lpc_isolation.proofs.Each.Shared.{IsFrom, IsShownOf, connect-shown, shared-from}
use Rattle.lpc_isolation.proofs.Gone.Served.{served}
use Rattle.lpc_isolation.proofs.Rows.Fair.{accepted-offer, all_of, implies}
use Rattle.lpc_isolation.proofs.Views.Alone.{ShowsOuter}
use Rattle.lpc_isolation.proofs.Views.Seen.{mapped-own}

-- a section of which a member may have a view
abbrev pub is_known_section : Group → (Birth → Bool) → Birth → Bool
is_known_section m outer b = m b.process || outer b

abbrev pub is_known_view : Group → (Birth → Bool) → ViewRow → Bool
is_known_view m outer v = is_known_section m outer v.section

abbrev pub is_known_space : Group → (Birth → Bool) → ViewTable → Bool
is_known_space m outer t = implies (m t.process) (every (is_known_view m outer) t.rows)

-- what a connect offers, of which a member gets a view where it accepts
abbrev pub is_known_offer : Group → (Birth → Bool) → WaitRow → Bool
is_known_offer m outer x = all_of (offer_of x) (λ (o : Offer). is_known_section m outer o.section)

-- members' views, and what connects that wait offer, are of members' sections or of outer ones
pub record ShowsKnown (m : Group) (outer : Birth → Bool) (w : World) : Type 0 where
  pub views : every (is_known_space m outer) w.views ≡ true
  pub offers : every (is_known_offer m outer) w.waits ≡ true

-- a step that keeps it so; rows go nowhere but in the sweep
abbrev pub is_known_step : Group → (Birth → Bool) → Basic → Bool
is_known_step m outer (Maps pid v) = implies (m pid) (is_known_view m outer v)
is_known_step m outer (Awaits x) = is_known_offer m outer x
is_known_step m outer (Frees o) = false
is_known_step m outer b = true

-- What steps keep
space-known : (m : Group) (outer : Birth → Bool) (t : ViewTable) (rows : List ViewRow) → (every (is_known_view m outer) t.rows ≡ true → every (is_known_view m outer) rows ≡ true) → is_known_space m outer t ≡ true → is_known_space m outer (record t { rows = rows }) ≡ true
space-known m outer t rows more is = at (m t.process) is
  where
    at : (e : Bool) → implies e (every (is_known_view m outer) t.rows) ≡ true → implies e (every (is_known_view m outer) rows) ≡ true
    at true all = more all
    at false all = refl

mapped-space : (m : Group) (outer : Birth → Bool) (pid : ℕ) (v : ViewRow) → implies (m pid) (is_known_view m outer v) ≡ true → (t : ViewTable) → is_known_space m outer t ≡ true → is_space pid t ≡ true → is_known_space m outer (with_view v t) ≡ true
mapped-space m outer pid v ok t is its = at (m t.process) refl is
  where
    known : m t.process ≡ true → is_known_view m outer v ≡ true
    known inside =
        let here : m pid ≡ true = sym (ap m (eqb-true t.process pid its)) ∙ inside in last (m pid) (is_known_view m outer v) here ok
      where
        last : (a b : Bool) → a ≡ true → implies a b ≡ true → b ≡ true
        last a b is it = grind arith

    at : (e : Bool) → m t.process ≡ e → implies e (every (is_known_view m outer) t.rows) ≡ true → implies e (every (is_known_view m outer) (t.rows ++ v ∷ [])) ≡ true
    at true inside all = every-push (is_known_view m outer) t.rows v all (known inside)
    at false out all = refl

basic-views : (m : Group) (outer : Birth → Bool) (w : World) (b : Basic) → is_known_step m outer b ≡ true → every (is_known_space m outer) w.views ≡ true → every (is_known_space m outer) (basic w b).views ≡ true
basic-views m outer w (Maps pid v) ok h = every-change_to (is_known_space m outer) (is_known_space m outer) (is_space pid) (with_view v) (mapped-space m outer pid v ok) (λ t is off. is) w.views h
basic-views m outer w (Unmaps pid base) ok h = every-change (is_known_space m outer) (is_space pid) (without_view base) (λ t is. space-known m outer t (without_view base t).rows (λ all. every-without (is_known_view m outer) (lies_at base) t.rows all) is) w.views h
basic-views m outer w (DropsViewsOf pid) ok h = every-change (is_known_space m outer) (is_space pid) without_views (λ t is. space-known m outer t [] (λ all. refl) is) w.views h
basic-views m outer w (DropsOwned b) ok h = every-mapped (is_known_space m outer) (without_owned b) (λ t is. space-known m outer t (without_owned b t).rows (λ all. every-without (is_known_view m outer) (is_owned_by b) t.rows all) is) w.views h
basic-views m outer w (AddsProcess p) ok h = every-push (is_known_space m outer) w.views (no_views p.number) h (or_right (not (m p.number)) true refl)
basic-views m outer w (Frees o) ok h = absurd (cc)
basic-views m outer w b ok h = h

basic-offers : (m : Group) (outer : Birth → Bool) (w : World) (b : Basic) → is_known_step m outer b ≡ true → every (is_known_offer m outer) w.waits ≡ true → every (is_known_offer m outer) (basic w b).waits ≡ true
basic-offers m outer w (Awaits x) ok h = every-push (is_known_offer m outer) w.waits x h ok
basic-offers m outer w (Wakes who call status fields) ok h = every-without (is_known_offer m outer) (waits_as who) w.waits h
basic-offers m outer w (Dies who status) ok h = every-without (is_known_offer m outer) (waits_as who) w.waits h
basic-offers m outer w (Receives who q) ok h = every-change (is_known_offer m outer) (waits_at who q) received (λ x is. is) w.waits h
basic-offers m outer w (Accepts who reply) ok h = every-change (is_known_offer m outer) (waits_as who) (accepted reply) (λ x is. rw (accepted-offer reply x) refl) w.waits h
basic-offers m outer w (Leaves who) ok h = every-without (is_known_offer m outer) (waits_as who) w.waits h
basic-offers m outer w (Frees o) ok h = absurd (cc)
basic-offers m outer w b ok h = h

pub run-known : (m : Group) (outer : Birth → Bool) (w : World) (bs : List Basic) → every (is_known_step m outer) bs ≡ true → ShowsKnown m outer w → ShowsKnown m outer (world_after w bs)
run-known m outer w [] ok h = h
run-known m outer w (b ∷ bs) ok h =
    let ok' = first-true (is_known_step m outer b) (every (is_known_step m outer) bs) ok in
    run-known m outer (basic w b) bs (second-true _ _ ok) (record { views = basic-views m outer w b ok' h.views; offers = basic-offers m outer w b ok' h.offers })

-- What a connect of an outsider offers is outer, since its own view stands behind its line
-- a process that has a table of handles has one of views
pub has-space : (pid : ℕ) (vs : List ViewTable) (hs : List HandleTable) → map (λ (t : ViewTable). t.process) vs ≡ map (λ (t : HandleTable). t.process) hs → has (is_table pid) hs ≡ true → has (is_space pid) vs ≡ true
has-space pid vs hs same is = sym (has-map (λ n. n == pid) (λ (t : ViewTable). t.process) vs) ∙ ap (has (λ n. n == pid)) same ∙ has-map (λ n. n == pid) (λ (t : HandleTable). t.process) hs ∙ is
  where
    has-map : {X : Type 0} (p : ℕ → Bool) (f : X → ℕ) (xs : List X) → has p (map f xs) ≡ has (λ x. p (f x)) xs
    has-map p f [] = refl
    has-map p f (x ∷ xs) = grind (arith, has-map p f xs)

-- a view that an outsider gets is seen by it
newly-seen : (m : Group) (pid : ℕ) (v : ViewRow) (ts : List ViewTable) → m pid ≡ false → has (is_space pid) ts ≡ true → has (outsider_sees m v.section) (change (is_space pid) (with_view v) ts) ≡ true
newly-seen m pid v [] out is = absurd (cc)
newly-seen m pid v (t ∷ ts) out is = at (is_space pid t) refl is (newly-seen m pid v ts out)
  where
    at : (e : Bool) → is_space pid t ≡ e → has (is_space pid) (t ∷ ts) ≡ true → (has (is_space pid) ts ≡ true → has (outsider_sees m v.section) (change (is_space pid) (with_view v) ts) ≡ true) → has (outsider_sees m v.section) (change (is_space pid) (with_view v) (t ∷ ts)) ≡ true
    at true here is rest =
        let process : m t.process ≡ false = ap m (eqb-true t.process pid here) ∙ out in
        let sees : has (shows_section v.section) (t.rows ++ v ∷ []) ≡ true = has-push (shows_section v.section) t.rows v (birth-self v.section) in
        rw (here, process, sees) refl
    at false there is rest = rw there (behind (outsider_sees m v.section) t (change (is_space pid) (with_view v) ts) (rest (rw there at is)))

-- the views that a connect leaves
connect-views : (w : World) (by : ThreadRow) (q : Birth) (offer : Option Offer) (own : Option ViewRow) (bytes : List ℕ) → (world_after w (steps_of w by q offer own bytes)).views ≡ (world_after w (mapped by.process own)).views
connect-views w by q offer own bytes =
    let v : World = world_after w (starting by q offer own bytes) in
    let x : MessageRow = row by q offer own bytes in
    let entered = entered-beside x v in
    ap (λ (u : World). u.views) (after-append v (enter x v) (mapped by.process own)) ∙ mapped-alike (world_after v (enter x v)) w by.process own entered.views

-- Calls
module _ (m : Group) (c : ℕ) (outer : Birth → Bool) (w : World) (by : ThreadRow) (k : Caller m c w w by) (shown : ShowsKnown m outer w) (home : has (is_space by.process) w.views ≡ true) where
  abbrev known : Basic → Bool
  known = is_known_step m outer

  abbrev AreKnown : List Basic → Type 0
  AreKnown bs = every known bs ≡ true

  ending-known : (b : Basic) → is_ending b ≡ true → known b ≡ true
  ending-known (Maps pid v) is = absurd (cc)
  ending-known (Awaits x) is = absurd (cc)
  ending-known (Frees o) is = absurd (cc)
  ending-known b is = refl

  enter-known : (x : MessageRow) (v : World) → AreKnown (enter x v)
  enter-known x v = every-more is_ending known ending-known (enter x v) (ending-enter x v)

  taken-known : (x : MessageRow) → AreKnown (received_steps x)
  taken-known x = every-more is_ending known ending-known (received_steps x) (ending-receipt x)

  given-known : (port : PortRow) (o : Option Message) → Holds AreKnown (given_reply w port o)
  given-known port None = refl
  given-known port (Some a) = bind_holds (reply_test w port a) _ AreKnown (λ x _. reply-cases (λ r. AreKnown (r ∷ [])) x a refl refl (λ _. refl))

  replied-known : (port : PortRow) (o : Option Message) (replied : List Basic) → given_reply w port o ≡ Ok replied → AreKnown replied
  replied-known port o replied at = holds_ok AreKnown (given_reply w port o) replied (given-known port o) at

  -- a process maps sections of its own
  own-known : (s : SectionRow) (handle offset size prot base rounded : ℕ) → section_test w by (mapping_right prot) handle ≡ Ok s → implies (m by.process) (is_known_view m outer (mapped_view s offset rounded prot base)) ≡ true
  own-known s handle offset size prot base rounded at =
      let own : s.birth.process ≡ by.process = mapped-own m c w by (mapped_view s offset rounded prot base) s (mapping_right prot) handle k.fair at refl in
      rw (ap m own) (inside (m by.process) (outer s.birth))
    where
      inside : (a b : Bool) → implies a (a || b) ≡ true
      inside true b = refl
      inside false b = refl

  -- views of an offer: of a member's section, of one that is known, of none where no member gets them
  view-known : (pid : ℕ) (o : Option ViewRow) → ((v : ViewRow) → o ≡ Some v → implies (m pid) (is_known_view m outer v) ≡ true) → AreKnown (mapped pid o)
  view-known pid None each = refl
  view-known pid (Some v) each = and_from _ _ (each v refl) refl

  given-shown : (n : ℕ) (port : Birth) (o : Option ViewRow) (v : ViewRow) → Given (IsShownOf n port) o → o ≡ Some v → v.section.process ≡ n
  given-shown n port None v is at = absurd (cc)
  given-shown n port (Some x) v is at = let same : x ≡ v = cc in subst (λ (v : ViewRow). v.section.process ≡ n) same is.section

  -- of a process that is a member where the other is
  shown-known : (pid n : ℕ) (port : Birth) (o : Option ViewRow) → Given (IsShownOf n port) o → implies (m pid) (m n) ≡ true → AreKnown (mapped pid o)
  shown-known pid n port o is together = view-known pid o (λ v at. let same : m v.section.process ≡ m n = ap m (given-shown n port o v is at) in rw same (more (m pid) (m n) (outer v.section) together))
    where
      more : (a b d : Bool) → implies a b ≡ true → implies a (b || d) ≡ true
      more a b d is = grind arith

  -- of a section of the caller's own process
  own-shown : (o : Option ViewRow) → Given (IsShownOf by.process (next_birth by)) o → AreKnown (mapped by.process o)
  own-shown o is = shown-known by.process by.process (next_birth by) o is (self (m by.process))
    where
      self : (a : Bool) → implies a a ≡ true
      self true = refl
      self false = refl

  -- a connect's own view is behind its line, so that what an outsider offers is outer
  offered-outer : (q : Birth) (offer : Option Offer) (own : Option ViewRow) (bytes : List ℕ) → IsViewOf w by.process (next_birth by) offer own → Given (IsFrom by.process) offer → ShowsOuter m outer (world_after w (steps_of w by q offer own bytes)) → all_of offer (λ (o : Offer). is_known_section m outer o.section) ≡ true
  offered-outer q None None bytes none_offered from shows = refl
  offered-outer q None (Some v) bytes never from shows = elim never [ ]
  offered-outer q (Some o) None bytes never from shows = elim never [ ]
  offered-outer q (Some o) (Some v) bytes (one_offered _ base at) from shows = side (m by.process) refl
    where
      x : ViewRow
      x = offered_view (next_birth by) o base

      side : (e : Bool) → m by.process ≡ e → (m o.section.process || outer o.section) ≡ true
      side true inside = or_left (m o.section.process) (outer o.section) (ap m from ∙ inside)
      side false out =
          let seen : has (outsider_sees m o.section) (world_after w (steps_of w by q (Some o) (Some x) bytes)).views ≡ true =
          ap (has (outsider_sees m o.section)) (connect-views w by q (Some o) (Some x) bytes) ∙ newly-seen m by.process x w.views out home in
          or_right (m o.section.process) (outer o.section) (shows o.section seen)

  connect-known : (name : List ℕ) (word : Option ViewWord) (bytes : List ℕ) (offer : Option Offer) (own : Option ViewRow) (q : Birth) → IsConnecting w by name word offer own q → ShowsOuter m outer (world_after w (steps_of w by q offer own bytes)) → AreKnown (steps_of w by q offer own bytes)
  connect-known name word bytes offer own q is shows =
      let parts = connect-shown m c w by name word offer own q k.fair is in
      let seen = holds_ok (IsViewOf w by.process (next_birth by) offer) (if_given (view_test w by.process (next_birth by)) offer) own (viewed w by.process (next_birth by) offer) is.view_placed in
      let x : MessageRow = row by q offer own bytes in
      let v : World = world_after w (starting by q offer own bytes) in
      every-append known (starting by q offer own bytes) (enter x v ++ mapped by.process own) (and_from _ _ (offered-outer q offer own bytes seen parts.0 shows) refl)
      (every-append known (enter x v) (mapped by.process own) (enter-known x v) (own-shown own parts.1))

  -- what the client offered is known since its connect; where the client is a member, so is the server
  offer-seen : (u : World) (offer : Option Offer) (o : Option ViewRow) (v : ViewRow) → IsViewOf u by.process (next_birth by) offer o → all_of offer (λ (f : Offer). is_known_section m outer f.section) ≡ true → o ≡ Some v → is_known_view m outer v ≡ true
  offer-seen u None None v none_offered all at = absurd (cc)
  offer-seen u None (Some y) v never all at = elim never [ ]
  offer-seen u (Some f) None v never all at = elim never [ ]
  offer-seen u (Some f) (Some y) v (one_offered _ base place) all at = let same : y ≡ v = cc in subst (λ (v : ViewRow). is_known_view m outer v ≡ true) same all

  theirs-known : (x : WaitRow) (views : SharedViews) (offer : Option Offer) → AreShared w by x offer views → is_known_offer m outer x ≡ true → AreKnown (mapped by.process views.theirs)
  theirs-known x views offer s all =
      view-known by.process views.theirs (λ v at. held (m by.process) (is_known_view m outer v) (offer-seen (world_after w (mapped by.process views.own)) (offer_of x) views.theirs v s.theirs all at))
    where
      held : (a b : Bool) → b ≡ true → implies a b ≡ true
      held a b is = grind arith

  accept-known : (context value : ℕ) (bytes : List ℕ) (word : Option ViewWord) (offer : Option Offer) (a : ConnectAnswer) (views : SharedViews) → IsAccepting w by bytes word offer a views → AreKnown (accept_steps by context value a views)
  accept-known context value bytes word offer a views is =
      let it = found-answer m c w w by bytes a k is.answered in
      let x : WaitRow = a.wait in
      let side = sides m c by x it.fair it.offered it.queue in
      let from = shared-from m c w by bytes word offer a views k.fair it.offers is in
      let s = holds_ok (AreShared w by x offer) (shared_test w by x offer) views (shared w by x offer) is.views_placed in
      let all : is_known_offer m outer x ≡ true = every-first (is_known_offer m outer) (names_connect w by a.message) w.waits x shown.offers it.found in
      let inside : implies (m x.process) (m by.process) ≡ true = subst (λ n. implies (m n) (m by.process) ≡ true) side.port side.in_only in
      every-append known (accept_start by context value a views) (shared_steps by x views) refl
      (every-append known (server_views by views.own views.theirs) (mapped x.process views.across)
      (every-append known (mapped by.process views.own) (mapped by.process views.theirs) (own-shown views.own from.own) (theirs-known x views offer s all))
      (shown-known x.process by.process x.port views.across from.across inside))

  shows-secured : (bs : List Basic) (b : Birth) (s : Security) → ShowsOuter m outer (world_after w (bs ++ Secures b s ∷ [])) → ShowsOuter m outer (world_after w bs)
  shows-secured bs b s shows = let o : ShowsOuter m outer (basic (world_after w bs) (Secures b s)) = subst (ShowsOuter m outer) (after-append w bs (Secures b s ∷ [])) shows in o

  mapped-outcomes : Outcomes w by (λ call bs. ShowsOuter m outer (world_after w bs) → AreKnown bs)
  mapped-outcomes = record {
    creates = λ _ _. refl;
    founds = λ name dacl path free _. guarded (λ bs. AreKnown (create_steps by (named_steps (next_birth by) path) (free_handle w by.process) ++ bs)) (next_birth by) name dacl (refl) (λ s. refl);
    connects = λ name quality word bytes offer own q is shows. every-append known (steps_of w by q offer own bytes) (allow_steps w by quality) (connect-known name word bytes offer own q is (shows-secured (steps_of w by q offer own bytes) (next_birth by) _ shows)) refl;
    listens = λ handle port x l at _. taken-known x;
    awaits_connect = λ handle port l at _. refl;
    refuses = λ context bytes word a at _. refl;
    accepts = λ context bytes word offer a views is _. accept-known context (free_handle w by.process) bytes word offer a views is;
    completes = λ handle r at _. refl;
    sends = λ handle bytes s at _. let y = sent_by by DATAGRAM s.message in enter-known (row_of s.queue s.port y) (world_after w (datagram_start by));
    asks = λ handle bytes s at _. let y = sent_by by REQUEST s.message in enter-known (row_of s.queue s.port y) (world_after w (request_start by s.port.birth s.queue y));
    replies = λ handle bytes port a x at read fits _. reply-cases (λ r. AreKnown (r ∷ [])) x a refl refl (λ _. refl);
    receives = λ handle bytes a port queue replied x r at _. every-append known replied _ (replied-known port a replied r.reply_made) (taken-known x);
    awaits_message = λ handle bytes a port queue replied r at _. every-append known replied _ (replied-known port a replied r.reply_made) refl;
    registers = λ handle port at new few _. refl;
    repeats = λ handle port at again _. refl;
    closes = λ handle r at _. every-more is_ending known ending-known (close_handle by.process r w) (handle-ending by.process r w);
    duplicates = λ handle access r at _. refl;
    queries = λ handle r at _. refl;
    spawns = λ pid tid new unused _. refl;
    starts = λ target tid pid at lives unused _. refl;
    makes_section = λ size prot asked _. refl;
    impersonates = λ handle bytes own is _. refl;
    reverts = λ class _. refl;
    opens_own = λ own is _. refl;
    opens_primary = λ _. refl;
    asks_token = λ handle class t field at told _. refl;
    maps_view = λ handle offset size prot s rounded base is _. rw (own-known s handle offset size prot base rounded is.section) refl;
    unmaps_view = λ address v at _. refl;
    reads_memory = λ address n v at _. refl;
    writes_memory = λ address new v at may _. refl;
    reads_range = λ handle bytes index n d at _. refl;
    writes_range = λ handle bytes index new d at may _. refl;
    sets = λ target class handle pid port at found live _. set-passes AreKnown by class pid port.birth refl refl;
    handles = λ code handled _. refl;
    hears = λ code handled h is _. enter-known (row_of h.queue h.port (event_message (client_of by) by.next_identifier code h.chance)) (world_after w (event_begun by code handled h));
    fails = λ code handled _. refl;
    ends = λ call name own pid code ts doomed _. every-more is_ending known ending-known (answered_end by name own pid code ts w) (steps-end w by name own pid code ts);
  }

  pub calls-known : (call : ScriptCall) → Holds (λ bs. ShowsOuter m outer (world_after w bs) → AreKnown bs) (served w by call)
  calls-known call = served-does w by (λ call bs. ShowsOuter m outer (world_after w bs) → AreKnown bs) mapped-outcomes (λ handle r fields at _. refl) call
