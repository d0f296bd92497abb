-- The step of each line keeps what connects offer within sections that stand.
use Rattle.lpc_model.proofs.Steps.Closing.{behind}
use Rattle.lpc_model.specs.Settle.{settle}
use Rattle.lpc_model.proofs.Settling.Keeps.{step-keeps, settling-does}
use Rattle.lpc_model.proofs.Settling.Settled.{IsReady}
use Rattle.std.proofs.Common.{◌≡◌, List, [], ◌∷◌, Bool, true, false, map, not, Option, Some, None, refl, sym, subst, arith}
use Rattle.std.specs.Prelude.{◌≤◌, is_none}
use Rattle.std.proofs.lemmas.Bool.{not-true}
use Rattle.lpc_base.specs.Rows.{count, every, passes}
use Rattle.lpc_base.proofs.Births.{birth-same}
use Rattle.lpc_base.proofs.RowMaps.{every-both}
use Rattle.lpc_base.proofs.RowWords.{every-change, every-more, every-push, every-without, first-kept}
use Rattle.lpc_model.specs.declared.entry.ObjectKind.TheVariants as kind
use Rattle.lpc_model.specs.World.{Acceptance, Birth, ObjectKind, ObjectName, Offer, SectionRow, ThreadRow, WaitRow, World}
use Rattle.lpc_model.specs.Found.{all_views, handle_count, is_connect, is_section, offer_of, offers_section, pointer_count, same_birth, section_name, section_row, shows_section, free_handle}
use Rattle.lpc_model.specs.Basics.{Accepts, AddsSection, AddsHandle, Awaits, Basic, Dies, DrawsOrdinal, Frees, Receives, Wakes, accepted, basic, freed, received, world_after, Dooms, Leaves, LetsGo, Marks, SetsDebug, SetsException}
use Rattle.lpc_model.specs.Close.{close_handle}
use Rattle.lpc_model.specs.Connect.{client_port, connection_request, named_steps, unnamed_steps, connect_wait}
use Rattle.lpc_model.specs.Death.{die}
use Rattle.lpc_model.specs.Entering.{enter, row_of, take_connect_steps, take_steps, woken}
use Rattle.lpc_model.specs.Linked.{passes_or_none}
use Rattle.lpc_model.specs.Memory.{new_section}
use Rattle.lpc_model.specs.SoundViews.{HasSoundOffers, HasSoundViews, is_sound_offer, offers_part}
use Rattle.lpc_model.specs.Sweep.{free_unheld, is_unheld, sweep, unheld}
use Rattle.lpc_model.specs.Tests.{handle_row, next_birth}
use Rattle.lpc_model.proofs.Calls.Acts.{Law, accept_act, complete_act, create_act, keeps_on, outcomes}
use Rattle.lpc_model.proofs.Calls.Lines.{AnyWorld, Keep, LineLaw, Shut, line-does, passing-lines}
use Rattle.lpc_model.specs.Lines.{ScriptLine}
use Rattle.lpc_model.specs.Machine.{own_steps, step}
use Rattle.lpc_model.specs.SoundWaits.{HasShutConnects, IsSoundWorld}
use Rattle.lpc_model.proofs.Calls.Offers.{Given, IsOffer}
use Rattle.lpc_model.proofs.Calls.Sharing.{connect_begun}
use Rattle.lpc_model.proofs.Sound.Frees.{is-zero, less-held, none-pass, sum-second, which-all}
use Rattle.lpc_model.proofs.Sound.Worlds.{by_kind}
use Rattle.lpc_model.proofs.Steps.Ending.{AreEnding, die-ending, ending-enter, ending-receipt, handle-ending, is_ending}
use Rattle.lpc_model.proofs.Steps.InTurn.{after-append, steps-keep}
use Rattle.lpc_model.proofs.Views.Steps.{first-left}

-- a step offers nothing, and frees no section
abbrev keeps_offers : Basic → Bool
keeps_offers (Awaits x) = is_none (offer_of x)
keeps_offers (Frees o) = false
keeps_offers b = true

-- what is offered is so where the section still stands
offer-kept : (w v : World) (x : WaitRow) → ((o : Offer) → offer_of x ≡ Some o → (s : SectionRow) → section_row w o.section ≡ Some s → section_row v o.section ≡ Some s) → is_sound_offer w x ≡ true → is_sound_offer v x ≡ true
offer-kept w v x still is = at (offer_of x) refl is
  where
    row : (o : Offer) → offer_of x ≡ Some o → (s : Option SectionRow) → section_row w o.section ≡ s → passes s (offers_part o) ≡ true → passes (section_row v o.section) (offers_part o) ≡ true
    row o its None here is = absurd (cc)
    row o its (Some s) here is = rw (still o its s here) is

    at : (o : Option Offer) → offer_of x ≡ o → passes_or_none o (λ o. passes (section_row w o.section) (offers_part o)) ≡ true → passes_or_none o (λ o. passes (section_row v o.section) (offers_part o)) ≡ true
    at None its is = refl
    at (Some o) its is = row o its (section_row w o.section) refl is

-- an accept takes the offer away
accepted-offer : (w : World) (a : Acceptance) (x : WaitRow) → is_sound_offer w x ≡ true → is_sound_offer w (accepted a x) ≡ true
accepted-offer w a = by_kind (λ x. is_sound_offer w x ≡ true → is_sound_offer w (accepted a x) ≡ true) (λ x m is. is) (λ x is. is) (λ x is. is) (λ x m offer is. refl) (λ x m b is. is) (λ x r is. is)

no-offer : (w : World) (x : WaitRow) → is_none (offer_of x) ≡ true → is_sound_offer w x ≡ true
no-offer w x none = at (offer_of x) none
  where
    at : (o : Option Offer) → is_none o ≡ true → passes_or_none o (λ o. passes (section_row w o.section) (offers_part o)) ≡ true
    at None none = refl
    at (Some o) none = absurd (cc)

offers-step : (w : World) (b : Basic) → keeps_offers b ≡ true → HasSoundOffers w → HasSoundOffers (basic w b)
offers-step w (Wakes who call status fields) is t = every-without (is_sound_offer w) _ w.waits t
offers-step w (Leaves who) is t = every-without (is_sound_offer w) _ w.waits t
offers-step w (Awaits x) is t = every-push (is_sound_offer w) w.waits x t (no-offer w x is)
offers-step w (Receives who queue) is t = every-change (is_sound_offer w) _ received (λ x is. is) w.waits t
offers-step w (Accepts who a) is t = every-change (is_sound_offer w) _ (accepted a) (accepted-offer w a) w.waits t
offers-step w (Dies who status) is t = every-without (is_sound_offer w) _ w.waits t
offers-step w (AddsSection s) is t = every-more (is_sound_offer w) (is_sound_offer (basic w (AddsSection s))) (λ x. offer-kept w (basic w (AddsSection s)) x (λ o its r at. first-kept (is_section o.section) w.sections s r at)) w.waits t
offers-step w (Frees o) is t = absurd (cc)
offers-step w b is t = t

offers-all : (w : World) (bs : List Basic) → every keeps_offers bs ≡ true → HasSoundOffers w → HasSoundOffers (world_after w bs)
offers-all = steps-keep keeps_offers HasSoundOffers offers-step

-- Sections that go
-- a section that no row counts for is offered by no connect
section-gone : (w : World) (b : Birth) → pointer_count w (section_name b) ≤ 0 → HasSoundOffers w → HasSoundOffers (basic w (Frees (section_name b)))
section-gone w b few t =
    let gone = basic w (Frees (section_name b)) in
    let unoffered = none-pass (offers_section b) w.waits (sum-second (count (shows_section b) (all_views w)) (count (offers_section b) w.waits) (sum-second (handle_count w (section_name b)) _ few)) in
    every-both (is_sound_offer w) (λ x. not (offers_section b x)) (is_sound_offer gone) (λ x is off. offer-kept w gone x (λ o its s at. left x o its off s at) is) w.waits t unoffered
  where
    left : (x : WaitRow) (o : Offer) → offer_of x ≡ Some o → not (offers_section b x) ≡ true → (s : SectionRow) → section_row w o.section ≡ Some s → section_row (basic w (Frees (section_name b))) o.section ≡ Some s
    left x o its off s at =
        let other : same_birth o.section b ≡ false = not-true (same_birth o.section b) (subst (λ f. not (passes f (λ o. same_birth o.section b)) ≡ true) its off) in
        rw (first-left (is_section o.section) (is_section b) (λ y own. subst (λ d. same_birth d b ≡ false) (sym (birth-same y.birth o.section own)) other) w.sections) at

gone-offers : (w : World) (o : ObjectName) → is_unheld w o ≡ true → HasSoundOffers w → HasSoundOffers (basic w (Frees o))
gone-offers w o none t = at o.kind o.birth (is-zero (pointer_count w o) none)
  where
    at : (k : ObjectKind) (b : Birth) → pointer_count w (record { kind = k; birth = b }) ≤ 0 → HasSoundOffers (freed w k b)
    at kind.Port b few = t
    at kind.Section b few = section-gone w b few t
    at kind.Token b few = t
    at kind.Process b few = t
    at kind.Thread b few = t

all-gone : (w : World) (os : List ObjectName) → every (is_unheld w) os ≡ true → HasSoundOffers w → HasSoundOffers (world_after w (map Frees os))
all-gone w [] all t = t
all-gone w (o ∷ os) all t =
    let here : is_unheld w o ≡ true = grind arith in
    let later : every (is_unheld w) os ≡ true = grind arith in
    all-gone (basic w (Frees o)) os (every-more (is_unheld w) (is_unheld (basic w (Frees o))) (less-held w o) os later) (gone-offers w o here t)

swept-offers : (w : World) → HasSoundOffers w → HasSoundOffers (world_after w (sweep w))
unfolding sweep
swept-offers w t =
    let v = world_after w (free_unheld w) in
    rw (after-append w (free_unheld w) (free_unheld v)) (all-gone v (unheld v) (which-all (is_unheld v) _) (all-gone w (unheld w) (which-all (is_unheld w) _) t))

-- Steps of lines
ending-offers : (b : Basic) → is_ending b ≡ true → keeps_offers b ≡ true
ending-offers (Awaits x) is = absurd (cc)
ending-offers (Frees o) is = absurd (cc)
ending-offers b is = refl

ended-offers : (w : World) (bs : List Basic) → AreEnding bs → HasSoundOffers w → HasSoundOffers (world_after w bs)
ended-offers w bs all = offers-all w bs (every-more is_ending keeps_offers ending-offers bs all)

-- a wait of another kind offers nothing
unconnected-offer : (x : WaitRow) → not (is_connect x) ≡ true → is_none (offer_of x) ≡ true
unconnected-offer = by_kind (λ x. not (is_connect x) ≡ true → is_none (offer_of x) ≡ true) (λ x m is. refl) (λ x is. refl) (λ x is. refl) (λ x m offer is. absurd (cc)) (λ x m a is. refl) (λ x r is. refl)

begun-offers : (w : World) (x : WaitRow) → not (is_connect x) ≡ true → HasSoundOffers w → HasSoundOffers (basic w (Awaits x))
begun-offers w x other t = every-push (is_sound_offer w) w.waits x t (no-offer w x (unconnected-offer x other))

-- what is given is offered
given-offer : (w : World) (x : WaitRow) (offer : Option Offer) → offer_of x ≡ offer → Given (IsOffer w) offer → HasSoundViews w → is_sound_offer w x ≡ true
given-offer w x None its is t = rw its refl
given-offer w x (Some o) its is t = rw (its, is.row) (is.part t)

offers-law : (by : ThreadRow) → Law by (Shut HasSoundViews) AnyWorld (Keep HasSoundOffers)
offers-law by = record {
  keeps = λ w bs all _. tt;
  nothing = λ w t. t;
  follows = keeps_on HasSoundOffers;
  says = λ w e t. t;
  numbers = λ w t. t;
  wakes = λ w status fields x. offers-all w (woken status fields x ∷ []) refl;
  marks = λ w who is. offers-all w (Marks who ∷ []) refl;
  abandons = λ w who. offers-all w (Leaves who ∷ []) refl;
  debugs = λ w pid b stands live. offers-all w (SetsDebug pid b ∷ []) refl;
  excepts = λ w pid b stands live. offers-all w (SetsException pid b ∷ []) refl;
  dooms = λ w pid code. offers-all w (Dooms pid code ∷ []) refl;
  takes = λ w m. ended-offers w (take_steps m) (ending-receipt m);
  listens = λ w m. ended-offers w (take_connect_steps m) (ending-receipt m);
  waits = λ w x off is. begun-offers w x off;
  sends = λ w m is. ended-offers w (enter m w) (ending-enter m w);
  asks = λ w x m off wait post t. let v = basic w (Awaits x) in ended-offers v (enter m v) (ending-enter m v) (begun-offers w x off t);
  creates = λ w is. offers-all w (create_act w by (unnamed_steps (next_birth by))) refl;
  founds = λ w name path free is. offers-all w (create_act w by (named_steps (next_birth by) path)) refl;
  connects = λ w connection offer bytes opens offers is t.
      let m = connection_request by offer bytes in
      let v = world_after w (connect_begun by connection offer m) in
      let row = row_of connection (client_port by connection) m in
      let x = connect_wait by connection offer m in
      ended-offers v (enter row v) (ending-enter row v) (every-push (is_sound_offer w) w.waits x t (given-offer w x offer refl offers is.known.1));
  gives = λ w pid o access is. offers-all w (AddsHandle pid (handle_row (free_handle w pid) o access) ∷ []) refl;
  accepts = λ w context m x a at is. offers-all w (accept_act w by context x a) refl;
  completes = λ w c is. offers-all w (complete_act w c) refl;
  registers = λ w b stands t. t;
  spawns = λ w pid tid token new unused s t. t;
  starts = λ w tid pid live unused s t. t;
  closes = λ w pid r at s _. ended-offers w (close_handle pid r w) (handle-ending pid r w);
  dies = λ w code t is. ended-offers w (die code t w) (die-ending code t w);
  leaves = λ w n b t. t;
  lets_go = λ w pid. offers-all w (LetsGo pid ∷ []) refl;
  vacates = λ w pid t. t;
  disowns = λ w b t. t;
  secures = λ w b s t. t;
  acts = λ w own t. t;
  holds_token = λ w content t. t;
  builds = λ w size prot is. offers-all w (DrawsOrdinal by.number ∷ AddsSection (new_section by size prot) ∷ []) refl;
  maps = λ w pid v m t. t;
  unmaps = λ w pid base t. t;
  writes = λ w b place new t. t;
}

-- Lines
pub offers-lines : LineLaw (Shut HasSoundViews) (λ _. Keep HasSoundOffers)
offers-lines = passing-lines (Shut HasSoundViews) (Keep HasSoundOffers) (λ _. keeps_offers) offers-all (λ w. record { tells = λ _. refl; processes = λ _ _ _. refl; threads = λ _ _ _. refl; binds = λ _ _. refl; names = λ _. refl }) (λ by. outcomes by (Shut HasSoundViews) AnyWorld (Keep HasSoundOffers) (offers-law by) (λ w c. (c.0, tt)))

-- before the world settles
pub offers_line : (w : World) (line : ScriptLine) → IsSoundWorld w → HasShutConnects w → HasSoundViews w → HasSoundOffers w → HasSoundOffers (world_after w (own_steps line w))
offers_line w line s shut views t = line-does (Shut HasSoundViews) (λ _. Keep HasSoundOffers) offers-lines w s (shut, views) line t

-- settling
pub offers-settles : (v : World) → IsReady v → HasSoundOffers v → HasSoundOffers (behind settle v)
offers-settles v r = settling-does (Shut HasSoundViews) AnyWorld (Keep HasSoundOffers) offers-law (λ w tid _ _. tt) v r tt

pub offers_step : (w : World) (line : ScriptLine) → IsSoundWorld w → HasShutConnects w → HasSoundViews w → IsReady (world_after w (own_steps line w)) → HasSoundOffers w → HasSoundOffers (step w line).world
offers_step w line s shut views ready t = step-keeps (Shut HasSoundViews) HasSoundOffers offers-lines offers-settles swept-offers w line s (shut, views) ready t
