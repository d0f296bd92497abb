-- The views that a connect and its answer map: what is known of each before it is mapped.
use Rattle.std.proofs.Common.{◌≡◌, ℕ, List, [], ◌∷◌, ◌++◌, Bool, true, Option, Some, None, refl, ap, sym, subst, ◌∙◌}
use Rattle.std.specs.Prelude.{Ok}
use Rattle.std.proofs.lemmas.Bool.{and_from}
use Rattle.lpc_base.specs.Rows.{every, passes, given}
use Rattle.lpc_base.proofs.Bools.{second-true}
use Rattle.lpc_base.proofs.RowWords.{every-append}
use Rattle.lpc_tokens.specs.declared.security.Security.TheVariants.{Allows, Guarded}
use Rattle.lpc_model.specs.World.{Acceptance, Birth, Message, MessageRow, Offer, SectionRow, ThreadRow, ViewRow, WaitRow, World, Security, Dacl, Qos, Effective}
use Rattle.lpc_model.specs.Found.{offer_of, section_row, free_handle, port_name}
use Rattle.lpc_model.specs.Basics.{Basic, Enters, Maps, Receives, Takes, TakesConnect, Wakes, basic, world_after, DrawsIdentifier, DrawsOrdinal, Makes, Awaits, AddsHandle, Accepts, Joins, Secures}
use Rattle.lpc_model.specs.Connect.{client_port, connect_wait, server_port, ConnectAnswer, connect_steps, accept_start, accept_steps}
use Rattle.lpc_model.specs.Entering.{enter, row_of}
use Rattle.lpc_model.specs.Linked.{passes_or_none}
use Rattle.lpc_model.specs.Memory.{base_test}
use Rattle.lpc_model.specs.Offers.{SharedViews, if_given, mapped, offered_view, server_views, shared_test, view_test, shared_steps}
use Rattle.lpc_model.specs.SoundViews.{HasSoundOffers, HasSoundViews, is_sound_offer, offers_part, shows_part}
use Rattle.lpc_model.specs.Standing.{port_stands}
use Rattle.lpc_model.specs.Tests.{next_birth, handle_row, PORT_ACCESS}
use Rattle.lpc_model.proofs.Calls.Holding.{Holds, bind_holds, holds_ok}
use Rattle.lpc_model.proofs.Calls.Offers.{Given, IsOffer, IsViewOf, none_offered, one_offered, viewed}
use Rattle.lpc_model.proofs.Calls.Taking.{is_taking, taken_at_once, taking-entered}
use Rattle.lpc_model.proofs.Steps.InTurn.{steps-keep, after-append}

-- a view shows a part of a section that stands, where views and sections were sound
pub record IsShowing (before w : World) (v : ViewRow) : Type 0 where
  pub section : SectionRow
  pub row : section_row w v.section ≡ Some section
  pub part : HasSoundViews before → shows_part v section ≡ true

-- What the tests find of a view that is mapped, by a call in a world of which C is known: what it shows, its owner, and its
-- place.
pub record IsMapped (C : World → Type 0) (w : World) (pid : ℕ) (v : ViewRow) : Type 0 where
  pub before : World
  pub known : C before
  pub shows : HasSoundOffers before → IsShowing before w v
  pub owner : passes_or_none v.owner (port_stands w) ≡ true
  pub place : base_test w pid v.size ≡ Ok v.base

-- Worlds
-- a world has the sections, the views and the ports of another
pub record IsBeside (w v : World) : Type 0 where
  pub sections : v.sections ≡ w.sections
  pub views : v.views ≡ w.views
  pub ports : v.ports ≡ w.ports

-- so it is where a message has entered
taking-beside : (w v : World) (b : Basic) → is_taking b ≡ true → IsBeside w v → IsBeside w (basic v b)
taking-beside w v (Takes queue) is s = record { sections = s.sections; views = s.views; ports = s.ports }
taking-beside w v (TakesConnect queue) is s = record { sections = s.sections; views = s.views; ports = s.ports }
taking-beside w v (Receives who queue) is s = record { sections = s.sections; views = s.views; ports = s.ports }
taking-beside w v (Wakes who call status fields) is s = record { sections = s.sections; views = s.views; ports = s.ports }
taking-beside w v b is s = absurd (cc)

pub entered-beside : (m : MessageRow) (w : World) → IsBeside w (world_after w (enter m w))
entered-beside m w = steps-keep is_taking (IsBeside w) (λ v b. taking-beside w v b) (basic w (Enters m)) (taken_at_once m w) (taking-entered m w) (record { sections = refl; views = refl; ports = refl })

-- a view that is mapped leaves sections and ports, and the views of worlds alike that were alike
pub mapped-sections : (w : World) (pid : ℕ) (o : Option ViewRow) → (world_after w (mapped pid o)).sections ≡ w.sections
mapped-sections w pid None = refl
mapped-sections w pid (Some v) = refl

pub mapped-ports : (w : World) (pid : ℕ) (o : Option ViewRow) → (world_after w (mapped pid o)).ports ≡ w.ports
mapped-ports w pid None = refl
mapped-ports w pid (Some v) = refl

pub mapped-alike : (w v : World) (pid : ℕ) (o : Option ViewRow) → w.views ≡ v.views → (world_after w (mapped pid o)).views ≡ (world_after v (mapped pid o)).views
mapped-alike w v pid None same = same
mapped-alike w v pid (Some x) same = rw same refl

place-alike : (w v : World) (pid size : ℕ) → w.views ≡ v.views → base_test w pid size ≡ base_test v pid size
place-alike w v pid size same = ap (λ vs. base_test (record w { views = vs }) pid size) same

-- what a view that is mapped keeps, is kept where one may be
pub mapped-keeps : (Q : World → Type 0) → ((v : World) (pid : ℕ) (x : ViewRow) → Q v → Q (basic v (Maps pid x))) → (w : World) (pid : ℕ) (o : Option ViewRow) → Q w → Q (world_after w (mapped pid o))
mapped-keeps Q keeps w pid None q = q
mapped-keeps Q keeps w pid (Some x) q = keeps w pid x q

-- the steps of a connect but for its entry, before its message enters
abbrev pub connect_begun : ThreadRow → Birth → Option Offer → Message → List Basic
connect_begun by connection offer m =
    DrawsIdentifier by.number
    ∷ DrawsOrdinal by.number
    ∷ Makes (client_port by connection)
    ∷ Awaits (connect_wait by connection offer m)
    ∷ []

-- a client port is made, its thread waits on it, and its request enters
abbrev pub connect_act : World → ThreadRow → Birth → Option Offer → Message → List Basic
connect_act w by connection offer m =
    let bs = connect_begun by connection offer m in
    bs ++ enter (row_of connection (client_port by connection) m) (world_after w bs)

-- an accept but for its entry and its views
abbrev pub accept_act : World → ThreadRow → ℕ → WaitRow → Acceptance → List Basic
accept_act w by context x a =
    DrawsOrdinal by.number
    ∷ Makes (server_port (next_birth by) x.queue)
    ∷ AddsHandle by.process (handle_row (free_handle w by.process) (port_name (next_birth by)) PORT_ACCESS)
    ∷ Accepts x.thread a
    ∷ Joins x.port (next_birth by) context
    ∷ []

-- what holds behind a connect and behind an accept but for their views, and a view that is mapped keeps, holds behind both
pub connected-keeps : (Q : World → Type 0) → ((v : World) (pid : ℕ) (x : ViewRow) → Q v → Q (basic v (Maps pid x))) → (w : World) (by : ThreadRow) (connection : Birth) (offer : Option Offer) (own : Option ViewRow) (m : Message)
    → (let u = world_after w (connect_begun by connection offer m) in Q (world_after u (enter (row_of connection (client_port by connection) m) u))) → Q (world_after w (connect_steps by connection offer own m w))
connected-keeps Q keeps w by connection offer own m q =
    let u = world_after w (connect_begun by connection offer m) in
    let bs = enter (row_of connection (client_port by connection) m) u in
    rw (after-append u bs (mapped by.process own)) (mapped-keeps Q keeps (world_after u bs) by.process own q)

pub accepted-keeps : (Q : World → Type 0) → ((v : World) (pid : ℕ) (x : ViewRow) → Q v → Q (basic v (Maps pid x))) → (w : World) (by : ThreadRow) (context value : ℕ) (a : ConnectAnswer) (views : SharedViews)
    → Q (world_after w (accept_start by context value a views)) → Q (world_after w (accept_steps by context value a views))
accepted-keeps Q keeps w by context value a views q =
    let v = world_after w (accept_start by context value a views) in
    let own = mapped by.process views.own in
    let theirs = mapped by.process views.theirs in
    rw (after-append v (own ++ theirs) (mapped a.wait.process views.across), after-append v own theirs)
    (mapped-keeps Q keeps (world_after (world_after v own) theirs) a.wait.process views.across
    (mapped-keeps Q keeps (world_after v own) by.process views.theirs (mapped-keeps Q keeps v by.process views.own q)))

-- views that are mapped pass a test that each mapping passes
pub mapped-pass : (p : Basic → Bool) (pid : ℕ) → ((v : ViewRow) → p (Maps pid v) ≡ true) → (o : Option ViewRow) → every p (mapped pid o) ≡ true
mapped-pass p pid is None = refl
mapped-pass p pid is (Some v) = and_from (p (Maps pid v)) true (is v) refl

pub shared-pass : (p : Basic → Bool) (by : ThreadRow) (x : WaitRow) → ((v : ViewRow) → p (Maps by.process v) ≡ true) → ((v : ViewRow) → p (Maps x.process v) ≡ true) → (views : SharedViews) → every p (shared_steps by x views) ≡ true
shared-pass p by x own across views =
    every-append p (server_views by views.own views.theirs) (mapped x.process views.across)
    (every-append p (mapped by.process views.own) (mapped by.process views.theirs) (mapped-pass p by.process own views.own) (mapped-pass p by.process own views.theirs))
    (mapped-pass p x.process across views.across)

-- Views that are mapped
module _ (C : World → Type 0) (w v : World) (known : C w) (sections : v.sections ≡ w.sections) where
  -- an offer of the caller's own
  pub own-mapped : (u : World) (pid : ℕ) (port : Birth) (offer : Option Offer) (o : Option ViewRow) → IsViewOf u pid port offer o → Given (IsOffer w) offer → u.views ≡ v.views → port_stands v port ≡ true → Given (IsMapped C v pid) o
  own-mapped u pid port None None none_offered is same stands = tt
  own-mapped u pid port None (Some x) never is same stands = elim never [ ]
  own-mapped u pid port (Some o) None never is same stands = elim never [ ]
  own-mapped u pid port (Some o) (Some x) (one_offered _ base at) is same stands = record {
    before = w;
    known = known;
    shows = λ _. record { section = is.section; row = rw sections is.row; part = λ t. second-true _ _ (is.part t) };
    owner = stands;
    place = sym (place-alike u v pid o.size same) ∙ at;
  }

  -- what a connect offers that waits
  offered-shows : (o : Offer) (base : ℕ) (port : Birth) (s : Option SectionRow) → section_row w o.section ≡ s → passes s (offers_part o) ≡ true → IsShowing w v (offered_view port o base)
  offered-shows o base port None at is = absurd (cc)
  offered-shows o base port (Some s) at is = record { section = s; row = rw sections at; part = λ _. second-true _ _ is }

  pub their-mapped : (u : World) (pid : ℕ) (port : Birth) (x : WaitRow) (offer : Option Offer) (o : Option ViewRow) → IsViewOf u pid port offer o → offer_of x ≡ offer → (HasSoundOffers w → is_sound_offer w x ≡ true) → u.views ≡ v.views → port_stands v port ≡ true → Given (IsMapped C v pid) o
  their-mapped u pid port x None None none_offered its sound same stands = tt
  their-mapped u pid port x None (Some y) never its sound same stands = elim never [ ]
  their-mapped u pid port x (Some o) None never its sound same stands = elim never [ ]
  their-mapped u pid port x (Some o) (Some y) (one_offered _ base at) its sound same stands = record {
    before = w;
    known = known;
    shows = λ all. offered-shows o base port (section_row w o.section) refl (subst (λ f. passes_or_none f (λ o. passes (section_row w o.section) (offers_part o)) ≡ true) its (sound all));
    owner = stands;
    place = sym (place-alike u v pid o.size same) ∙ at;
  }

-- what the tests of an accept find
pub record AreShared (w : World) (by : ThreadRow) (x : WaitRow) (offer : Option Offer) (views : SharedViews) : Type 0 where
  pub own : IsViewOf w by.process (next_birth by) offer views.own
  pub theirs : IsViewOf (world_after w (mapped by.process views.own)) by.process (next_birth by) (offer_of x) views.theirs
  pub across : IsViewOf (world_after w (server_views by views.own views.theirs)) x.process x.port offer views.across

pub shared : (w : World) (by : ThreadRow) (x : WaitRow) (offer : Option Offer) → Holds (AreShared w by x offer) (shared_test w by x offer)
shared w by x offer =
    let P = AreShared w by x offer in
    bind_holds (if_given (view_test w by.process (next_birth by)) offer) _ P (λ own one.
    let u = world_after w (mapped by.process own) in
    bind_holds (if_given (view_test u by.process (next_birth by)) (offer_of x)) _ P (λ theirs two.
    let t = world_after w (server_views by own theirs) in
    bind_holds (if_given (view_test t x.process x.port) offer) _ P (λ across three. record {
      own = holds_ok (IsViewOf w by.process (next_birth by) offer) (if_given (view_test w by.process (next_birth by)) offer) own (viewed w by.process (next_birth by) offer) one;
      theirs = holds_ok (IsViewOf u by.process (next_birth by) (offer_of x)) (if_given (view_test u by.process (next_birth by)) (offer_of x)) theirs (viewed u by.process (next_birth by) (offer_of x)) two;
      across = holds_ok (IsViewOf t x.process x.port offer) (if_given (view_test t x.process x.port) offer) across (viewed t x.process x.port offer) three;
    })))

-- a port with a name may get an access list, and a client port gets what it allows: what such a step keeps is kept
pub guarded-keeps : (Q : World → Type 0) → ((v : World) (b : Birth) (s : Security) → Q v → Q (basic v (Secures b s))) → (w : World) (bs : List Basic) (b : Birth) (dacl : Option Dacl) → (Q w → Q (world_after w bs)) → Q w → Q (world_after w (bs ++ given dacl (λ d. Secures b (Guarded d) ∷ [])))
guarded-keeps Q keeps w bs b None more q = subst Q (sym (after-append w bs [])) (more q)
guarded-keeps Q keeps w bs b (Some d) more q = subst Q (sym (after-append w bs (Secures b (Guarded d) ∷ []))) (keeps (world_after w bs) b (Guarded d) (more q))

pub allowed-keeps : (Q : World → Type 0) → ((v : World) (b : Birth) (s : Security) → Q v → Q (basic v (Secures b s))) → (w : World) (bs : List Basic) (b : Birth) (quality : Qos) (kept : Effective) → (Q w → Q (world_after w bs)) → Q w → Q (world_after w (bs ++ Secures b (Allows quality kept) ∷ []))
allowed-keeps Q keeps w bs b quality kept more q = subst Q (sym (after-append w bs (Secures b (Allows quality kept) ∷ []))) (keeps (world_after w bs) b (Allows quality kept) (more q))

-- so with a test of steps
pub guard-pass : (p : Basic → Bool) → ((b : Birth) (s : Security) → p (Secures b s) ≡ true) → (b : Birth) (dacl : Option Dacl) → every p (given dacl (λ d. Secures b (Guarded d) ∷ [])) ≡ true
guard-pass p passes b None = refl
guard-pass p passes b (Some d) = rw (passes b (Guarded d)) refl
