-- The views that connects and accepts map: which group sees them, and that they are found alike in a view.
use Rattle.std.proofs.Common.{◌≡◌, ℕ, List, [], ◌++◌, Bool, true, false, not, Option, Some, None, refl, ap, sym, subst, ◌∙◌}
use Rattle.std.specs.Prelude.{◌==◌, ◌%◌, Ok, option_map}
use Rattle.std.proofs.lemmas.Bool.{and_from, eqb-true}
use Rattle.lpc_base.specs.declared.status.TheConstants.{MAPPED_ALIGNMENT, SECTION_PROTECTION}
use Rattle.lpc_base.proofs.Bools.{same-number}
use Rattle.lpc_model.specs.World.{Birth, Offer, SectionRow, ThreadRow, ViewRow, WaitRow, World}
use Rattle.lpc_model.specs.Found.{offer_of}
use Rattle.lpc_model.specs.Basics.{Basic, Maps, entries_of, world_after}
use Rattle.lpc_model.specs.Connect.{ConnectAnswer}
use Rattle.lpc_model.specs.Lines.{}
use Rattle.lpc_model.specs.Memory.{SECTION_MAP_WRITE, section_test, size_test}
use Rattle.lpc_model.specs.Offers.{SharedViews, Wanted, if_given, mapped, offer_test, server_views, shared_steps, shared_test, view_test, wanted_test}
use Rattle.lpc_model.specs.Refusal.{refuse_if}
use Rattle.lpc_model.specs.Tests.{next_birth}
use Rattle.lpc_model.specs.Circle.{Group, Whose}
use Rattle.lpc_model.proofs.Calls.Holding.{Holds, bind_holds, holds_ok}
use Rattle.lpc_model.proofs.Calls.Offers.{Given, IsViewOf, given_any, given_holds, none_offered, one_offered, viewed}
use Rattle.lpc_model.proofs.Calls.Outcomes.{IsAccepting, IsConnecting}
use Rattle.lpc_model.proofs.Calls.Sharing.{AreShared, shared}
use Rattle.lpc_isolation.proofs.Views.View.{seen_view, view}
use Rattle.lpc_isolation.proofs.Views.Basics.{are_ours, basic-unseen, maps-seen, ours-append, run-ours}
use Rattle.lpc_isolation.proofs.Rows.Fair.{Fair, all_of, are_fair, fair-append, implies, is_fair_offer, is_fair_view}
use Rattle.lpc_isolation.proofs.Views.Seen.{bind-same, section-own}
use Rattle.lpc_isolation.proofs.Views.Apart.{apart-append, are_apart}
use Rattle.lpc_isolation.proofs.Views.Places.{base-view, test-view}
use Rattle.lpc_isolation.proofs.Gone.ThinCalls.{given-same}
use Rattle.lpc_model.specs.declared.line.ViewWord.{ViewWord}

-- Whose sections are shown
-- what is offered is of a process
abbrev pub IsFrom : ℕ → Offer → Type 0
IsFrom n o = o.section.process ≡ n

-- a view is of a section of a process, and a port owns it
pub record IsShownOf (n : ℕ) (port : Birth) (v : ViewRow) : Type 0 where
  pub section : v.section.process ≡ n
  pub owner : v.owner ≡ Some port

pub shown-of : (n : ℕ) (u : World) (pid : ℕ) (port : Birth) (offer : Option Offer) (o : Option ViewRow) → IsViewOf u pid port offer o → Given (IsFrom n) offer → Given (IsShownOf n port) o
shown-of n u pid port None None none_offered is = tt
shown-of n u pid port None (Some v) never is = elim never [ ]
shown-of n u pid port (Some f) None never is = elim never [ ]
shown-of n u pid port (Some f) (Some v) (one_offered _ base at) is = record { section = is; owner = refl }

-- a caller offers what is its process's
abbrev IsWantedOf : ℕ → Wanted → Type 0
IsWantedOf n v = v.section.birth.process ≡ n

wanted-own : (m : Group) (c : ℕ) (w : World) (by : ThreadRow) (word : ViewWord) → Fair m c w → Holds (IsWantedOf by.process) (wanted_test w by word)
wanted-own m c w by word f =
    bind_holds (section_test w by SECTION_MAP_WRITE word.handle) _ (IsWantedOf by.process) (λ s at.
    holds_ok (λ (s : SectionRow). s.birth.process ≡ by.process) (section_test w by SECTION_MAP_WRITE word.handle) s (section-own m c w by SECTION_MAP_WRITE word.handle f) at)

offer-of : (n : ℕ) (v : Wanted) → IsWantedOf n v → Holds (IsFrom n) (offer_test v)
offer-of n v own =
    bind_holds (refuse_if (not (v.offset % 4096 == 0)) MAPPED_ALIGNMENT) _ (IsFrom n) (λ _ _.
    bind_holds (refuse_if (not v.section.writable) SECTION_PROTECTION) _ (IsFrom n) (λ _ _.
    bind_holds (size_test v.section v.offset v.size) _ (IsFrom n) (λ _ _. own)))

pub offer-own : (m : Group) (c : ℕ) (w : World) (by : ThreadRow) (word : Option ViewWord) (wanted : Option Wanted) (offer : Option Offer) → Fair m c w → if_given (wanted_test w by) word ≡ Ok wanted → if_given offer_test wanted ≡ Ok offer → Given (IsFrom by.process) offer
offer-own m c w by word wanted offer f found made =
    let P = IsWantedOf by.process in
    holds_ok (Given (IsFrom by.process)) (if_given offer_test wanted) offer
    (given_holds offer_test P (IsFrom by.process) (offer-of by.process) wanted (holds_ok (Given P) (if_given (wanted_test w by) word) wanted (given_any (wanted_test w by) P (λ word. wanted-own m c w by word f) word) found)) made

-- and so does a connect that waits
pub waits-own : (x : WaitRow) (o : Option Offer) → offer_of x ≡ o → is_fair_offer x ≡ true → Given (IsFrom x.process) o
waits-own x None its fair = tt
waits-own x (Some o) its fair = eqb-true _ _ (subst (λ f. all_of f (λ (o : Offer). o.section.process == x.process) ≡ true) its fair)

-- the view of a connect
pub connect-shown : (m : Group) (c : ℕ) (w : World) (by : ThreadRow) (name : List ℕ) (word : Option ViewWord) (offer : Option Offer) (own : Option ViewRow) (q : Birth) → Fair m c w → IsConnecting w by name word offer own q → Given (IsFrom by.process) offer × Given (IsShownOf by.process (next_birth by)) own
connect-shown m c w by name word offer own q f is =
    let from = offer-own m c w by word is.wanted offer f is.wanted_found is.offer_made in
    let seen = holds_ok (IsViewOf w by.process (next_birth by) offer) (if_given (view_test w by.process (next_birth by)) offer) own (viewed w by.process (next_birth by) offer) is.view_placed in
    (from, shown-of by.process w by.process (next_birth by) offer own seen from)

-- the views of an accept
pub record AreFrom (by : ThreadRow) (x : WaitRow) (views : SharedViews) : Type 0 where
  pub own : Given (IsShownOf by.process (next_birth by)) views.own
  pub theirs : Given (IsShownOf x.process (next_birth by)) views.theirs
  pub across : Given (IsShownOf by.process x.port) views.across

pub shared-from : (m : Group) (c : ℕ) (w : World) (by : ThreadRow) (bytes : List ℕ) (word : Option ViewWord) (offer : Option Offer) (a : ConnectAnswer) (views : SharedViews) → Fair m c w → is_fair_offer a.wait ≡ true → IsAccepting w by bytes word offer a views → AreFrom by a.wait views
shared-from m c w by bytes word offer a views f fair is =
    let x = a.wait in
    let from = offer-own m c w by word is.wanted offer f is.wanted_found is.offer_made in
    let s = holds_ok (AreShared w by x offer) (shared_test w by x offer) views (shared w by x offer) is.views_placed in
    record {
      own = shown-of by.process w by.process (next_birth by) offer views.own s.own from;
      theirs = shown-of x.process (world_after w (mapped by.process views.own)) by.process (next_birth by) (offer_of x) views.theirs s.theirs (waits-own x (offer_of x) refl fair);
      across = shown-of by.process (world_after w (server_views by views.own views.theirs)) x.process x.port offer views.across s.across from;
    }

-- Fair rows
view-fair : (m : Group) (c pid n : ℕ) (port : Birth) (v : ViewRow) → implies (pid == c) (m n) ≡ true → implies (n == c) (m pid) ≡ true → port.process ≡ pid → IsShownOf n port v → is_fair_view m c pid v ≡ true
view-fair m c pid n port v one two home is = rw (is.section, is.owner) (and_from _ _ one (and_from _ _ two (rw home (same-number pid))))

pub mapped-fair : (m : Group) (c : ℕ) (w : World) (pid n : ℕ) (port : Birth) (o : Option ViewRow) → implies (pid == c) (m n) ≡ true → implies (n == c) (m pid) ≡ true → port.process ≡ pid → Given (IsShownOf n port) o → are_fair m c w (mapped pid o) ≡ true
mapped-fair m c w pid n port None one two home is = refl
mapped-fair m c w pid n port (Some v) one two home is = and_from _ _ (view-fair m c pid n port v one two home is) refl

pub self-fair : (m : Group) (c p : ℕ) → m c ≡ true → implies (p == c) (m p) ≡ true
self-fair m c p c_in = at (p == c) refl
  where
    at : (e : Bool) → (p == c) ≡ e → implies e (m p) ≡ true
    at true is = ap m (eqb-true p c is) ∙ c_in
    at false off = refl

pub shared-fair : (m : Group) (c : ℕ) (w : World) (by : ThreadRow) (x : WaitRow) (views : SharedViews) → m c ≡ true → x.port.process ≡ x.process → implies (x.process == c) (m by.process) ≡ true → implies (by.process == c) (m x.process) ≡ true → AreFrom by x views → are_fair m c w (shared_steps by x views) ≡ true
shared-fair m c w by x views c_in port one two is =
    let self = self-fair m c by.process c_in in
    let own = mapped by.process views.own in
    let theirs = mapped by.process views.theirs in
    fair-append m c w (own ++ theirs) (mapped x.process views.across)
    (fair-append m c w own theirs (mapped-fair m c w by.process by.process (next_birth by) views.own self self refl is.own) (mapped-fair m c (world_after w own) by.process x.process (next_birth by) views.theirs two one refl is.theirs))
    (mapped-fair m c (world_after w (own ++ theirs)) x.process by.process x.port views.across one two port is.across)

-- Outsiders' views
pub mapped-apart : (m : Group) (c : ℕ) (u : World) (d : Whose) (w : World) (pid : ℕ) (o : Option ViewRow) → m pid ≡ false → are_apart m c u d w (mapped pid o) ≡ true
mapped-apart m c u d w pid None out = refl
mapped-apart m c u d w pid (Some v) out = rw out refl

pub shared-apart : (m : Group) (c : ℕ) (u : World) (d : Whose) (w : World) (by : ThreadRow) (x : WaitRow) (views : SharedViews) → m by.process ≡ false → m x.process ≡ false → are_apart m c u d w (shared_steps by x views) ≡ true
shared-apart m c u d w by x views out x_out =
    let own = mapped by.process views.own in
    let theirs = mapped by.process views.theirs in
    apart-append m c u d w (own ++ theirs) (mapped x.process views.across)
    (apart-append m c u d w own theirs (mapped-apart m c u d w by.process views.own out) (mapped-apart m c u d (world_after w own) by.process views.theirs out))
    (mapped-apart m c u d (world_after w (own ++ theirs)) x.process views.across x_out)

pub mapped-unseen : (m : Group) (w : World) (pid : ℕ) (o : Option ViewRow) → m pid ≡ false → view m (world_after w (mapped pid o)) ≡ view m w
mapped-unseen m w pid None out = refl
mapped-unseen m w pid (Some v) out = basic-unseen m w (Maps pid v) out (rw out refl)

-- Members' views
pub mapped-ours : (m : Group) (w : World) (pid n : ℕ) (port : Birth) (o : Option ViewRow) → m pid ≡ true → m n ≡ true → Given (IsShownOf n port) o → are_ours m w (mapped pid o) ≡ true
mapped-ours m w pid n port None inside from is = refl
mapped-ours m w pid n port (Some v) inside from is = rw (inside, is.section, from) refl

pub shared-ours : (m : Group) (w : World) (by : ThreadRow) (x : WaitRow) (views : SharedViews) → m by.process ≡ true → m x.process ≡ true → AreFrom by x views → are_ours m w (shared_steps by x views) ≡ true
shared-ours m w by x views by_in x_in is =
    let own = mapped by.process views.own in
    let theirs = mapped by.process views.theirs in
    ours-append m w (own ++ theirs) (mapped x.process views.across)
    (ours-append m w own theirs (mapped-ours m w by.process by.process (next_birth by) views.own by_in by_in is.own) (mapped-ours m (world_after w own) by.process x.process (next_birth by) views.theirs by_in x_in is.theirs))
    (mapped-ours m (world_after w (own ++ theirs)) x.process by.process x.port views.across x_in by_in is.across)

-- a view of an outsider's section is seen as one of some section of its process
pub mapped-seen : (m : Group) (w : World) (pid : ℕ) (o : Option ViewRow) → view m (world_after w (mapped pid o)) ≡ world_after (view m w) (mapped pid (option_map (seen_view m) o))
mapped-seen m w pid None = refl
mapped-seen m w pid (Some v) = maps-seen m w pid v

-- a mapping tells nothing
pub mapped-silent : (pid : ℕ) (o : Option ViewRow) → entries_of (mapped pid o) ≡ []
mapped-silent pid None = refl
mapped-silent pid (Some v) = refl

-- In a view they are found alike
pub wanted-view : (m : Group) (c : ℕ) (w : World) (by : ThreadRow) (word : Option ViewWord) → Fair m c w → m by.process ≡ true → if_given (wanted_test (view m w) by) word ≡ if_given (wanted_test w by) word
wanted-view m c w by word f inside = given-same (wanted_test (view m w) by) (wanted_test w by) (λ word. rw (test-view m c w by SECTION_MAP_WRITE word.handle f inside) refl) word

pub placed-view : (m : Group) (w : World) (pid : ℕ) (port : Birth) (offer : Option Offer) → m pid ≡ true → if_given (view_test (view m w) pid port) offer ≡ if_given (view_test w pid port) offer
placed-view m w pid port offer inside = given-same (view_test (view m w) pid port) (view_test w pid port) (λ o. rw (base-view m w pid o.size inside) refl) offer

-- behind views that are mapped
placed-behind : (m : Group) (w : World) (bs : List Basic) (pid : ℕ) (port : Birth) (offer : Option Offer) → are_ours m w bs ≡ true → m pid ≡ true → if_given (view_test (world_after (view m w) bs) pid port) offer ≡ if_given (view_test (world_after w bs) pid port) offer
placed-behind m w bs pid port offer ours inside = ap (λ (v : World). if_given (view_test v pid port) offer) (sym (run-ours m w bs ours)) ∙ placed-view m (world_after w bs) pid port offer inside

pub shared-view : (m : Group) (w : World) (by : ThreadRow) (x : WaitRow) (offer : Option Offer) → m by.process ≡ true → m x.process ≡ true → Given (IsFrom by.process) offer → Given (IsFrom x.process) (offer_of x) → shared_test (view m w) by x offer ≡ shared_test w by x offer
shared-view m w by x offer by_in x_in from theirs_from =
    rw (placed-view m w by.process (next_birth by) offer by_in) (bind-same (if_given (view_test w by.process (next_birth by)) offer) _ _ (λ own one.
    let seen = holds_ok (IsViewOf w by.process (next_birth by) offer) (if_given (view_test w by.process (next_birth by)) offer) own (viewed w by.process (next_birth by) offer) one in
    let first-ours = mapped-ours m w by.process by.process (next_birth by) own by_in by_in (shown-of by.process w by.process (next_birth by) offer own seen from) in
    let u = world_after w (mapped by.process own) in
    rw (placed-behind m w (mapped by.process own) by.process (next_birth by) (offer_of x) first-ours by_in) (bind-same (if_given (view_test u by.process (next_birth by)) (offer_of x)) _ _ (λ theirs two.
    let other = holds_ok (IsViewOf u by.process (next_birth by) (offer_of x)) (if_given (view_test u by.process (next_birth by)) (offer_of x)) theirs (viewed u by.process (next_birth by) (offer_of x)) two in
    let both-ours = ours-append m w (mapped by.process own) (mapped by.process theirs) first-ours (mapped-ours m u by.process x.process (next_birth by) theirs by_in x_in (shown-of x.process u by.process (next_birth by) (offer_of x) theirs other theirs_from)) in
    rw (placed-behind m w (server_views by own theirs) x.process x.port offer both-ours x_in) refl))))
