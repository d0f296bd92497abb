-- The step of each line keeps views in their sections and apart from each other.
use Rattle.lpc_model.proofs.Steps.Closing.{behind}
use Rattle.lpc_model.specs.Settle.{settle}
use Rattle.lpc_model.proofs.Settling.Keeps.{step-keeps, settling-does}
use Rattle.lpc_model.proofs.Settling.Settled.{IsReady}
use Rattle.std.proofs.Common.{◌≡◌, ℕ, ◌≤◌, ◌<◌, List, [], ◌∷◌, ◌++◌, true, false, map, not, Option, Some, None, refl, ap, sym, ◌∙◌, arith, length, Ok}
use Rattle.std.specs.Prelude.{◌==◌, ◌+◌, ◌*◌, ◌%◌, ◌/◌, nat_le, nat_lt}
use Rattle.std.proofs.lemmas.Bool.{and_from, not-true}
use Rattle.std.proofs.lemmas.Bool.Decides.{nat_tests}
use Rattle.std.proofs.lemmas.List.{length-append, length-replicate, map-append}
use Rattle.std.proofs.Math.Nat.{mul-mod_left, mul-mod_right}
use Rattle.lpc_base.specs.Rows.{every, first, has, passes}
use Rattle.lpc_base.specs.Views.{IsLeastBase, least_base, meets, whole_pages}
use Rattle.lpc_base.specs.declared.status.TheConstants.{QUOTA_EXCEEDED}
use Rattle.lpc_base.proofs.Bases.{new_bases_are_least}
use Rattle.lpc_base.proofs.Bools.{first-true, second-true}
use Rattle.lpc_base.proofs.RowMaps.{every-map}
use Rattle.lpc_base.proofs.RowWords.{every-more, every-not, every-push, first-kept}
use Rattle.lpc_model.specs.World.{Birth, Contents, Known, SectionRow, ThreadRow, Unknown, ViewRow, World, no_rows}
use Rattle.lpc_model.specs.Found.{is_section, views_of, free_handle}
use Rattle.lpc_model.specs.Basics.{AddsSection, AddsThread, Awaits, Basic, DrawsIdentifier, DrawsOrdinal, DropsOwned, DropsViewsOf, Maps, Registers, Unmaps, Unregisters, Writes, basic, in_known, world_after, zeros, Tells, AddsHandle, AddsProcess, Frees, Secures, Acts, AddsToken, Dooms, Leaves, LetsGo, Marks, SetsDebug, SetsException}
use Rattle.lpc_model.specs.Close.{close_handle}
use Rattle.lpc_model.specs.Connect.{client_port, connection_request, named_steps, unnamed_steps}
use Rattle.lpc_model.specs.Creation.{new_process, new_thread, second_birth}
use Rattle.lpc_model.specs.Death.{die}
use Rattle.lpc_model.specs.Entering.{enter, row_of, take_connect_steps, take_steps, woken}
use Rattle.lpc_model.specs.Memory.{base_test, new_section, view_count_test}
use Rattle.lpc_model.specs.SoundViews.{HasSoundViews, are_apart, is_inside, is_placed, is_sized, length_of, lengths_of, lies_apart, shows_part, size_of, HasSoundOffers}
use Rattle.lpc_model.specs.Tests.{handle_row, next_birth}
use Rattle.lpc_model.proofs.Calls.Acts.{Law, accept_act, complete_act, create_act, keeps_on, outcomes}
use Rattle.lpc_model.proofs.Calls.Holding.{Holds, bind_holds, found_holds, holds_ok, not_refused}
use Rattle.lpc_model.proofs.Calls.Lines.{AnyWorld, Keep, LineLaw, Shut, line-does, passing-lines}
use Rattle.lpc_model.specs.Lines.{ScriptLine}
use Rattle.lpc_model.specs.Machine.{own_steps, step}
use Rattle.lpc_model.specs.SoundWaits.{HasShutConnects, IsSoundWorld}
use Rattle.lpc_model.proofs.Calls.Outcomes.{IsBuilding}
use Rattle.lpc_model.proofs.Steps.Ending.{AreEnding, die-ending, ending-enter, ending-receipt, handle-ending, is_ending}
use Rattle.lpc_model.proofs.Views.Steps.{keeps_views, swept-views, views-all, views-changed}
use Rattle.lpc_model.proofs.Calls.Sharing.{connect_begun, IsShowing}
use Rattle.lpc_model.specs.Impersonation.{new_token}

-- A section that is made
-- whole pages of a size that is granted
pages : (size : ℕ) → (whole_pages size % 4096 == 0) ≡ true
pages size = rw (mul-mod_left ((size + 4095) / 4096) 4096) refl

some-pages : (size : ℕ) → (size == 0) ≡ false → nat_le 4096 (whole_pages size) ≡ true
some-pages size some =
    let least : 1 ≤ size = grind (arith, nat_tests) in
    let pages : 4096 ≤ (size + 4095) / 4096 * 4096 = omega (arith, least) in grind (arith, nat_tests, pages)

most-pages : (size : ℕ) → nat_lt 4194304 size ≡ false → nat_le (whole_pages size) 4194304 ≡ true
most-pages size few =
    let most : size ≤ 4194304 = grind (arith, nat_tests) in
    let pages : (size + 4095) / 4096 * 4096 ≤ 4194304 = omega (arith, most) in grind (arith, nat_tests, pages)

built-lengths : (s : SectionRow) (k : Contents) (ss : List SectionRow) → lengths_of k ≡ Some (map size_of ss) → lengths_of (in_known (λ rows. rows ++ zeros s ∷ []) k) ≡ Some (map size_of (ss ++ s ∷ []))
built-lengths s Unknown ss is = absurd (cc)
built-lengths s (Known rows) ss is =
    let same : map length_of rows ≡ map size_of ss = some-same _ _ is in
    let many : length (zeros s).bytes ≡ s.size = length-replicate {A = ℕ} s.size 0 in
    ap Some (map-append length_of rows (zeros s ∷ []) ∙ (rw (same, many) (sym (map-append size_of ss (s ∷ [])))))
  where
    some-same : (xs ys : List (Birth × ℕ)) → Some xs ≡ Some ys → xs ≡ ys
    some-same xs ys e = cc

built-views : (w : World) (by : ThreadRow) (size prot : ℕ) → IsBuilding size prot → HasSoundViews w → HasSoundViews (world_after w (DrawsOrdinal by.number ∷ AddsSection (new_section by size prot) ∷ []))
built-views w by size prot asked t =
    let s = new_section by size prot in
    let sized : is_sized s ≡ true = and_from _ _ (pages size) (and_from _ _ (some-pages size asked.some) (most-pages size asked.most)) in
    record {
      contents = built-lengths s w.contents w.sections t.contents;
      sizes = every-push is_sized w.sections s t.sizes sized;
      tables = t.tables;
      views = λ pid. let was = t.views pid in record {
        inside = every-more (is_inside w) (is_inside (basic w (AddsSection s))) (λ v is. still s v (first (is_section v.section) w.sections) refl is) (views_of w pid) was.inside;
        placed = was.placed;
        apart = was.apart;
        few = was.few;
      };
    }
  where
    still : (s : SectionRow) (v : ViewRow) (o : Option SectionRow) → first (is_section v.section) w.sections ≡ o → passes o (shows_part v) ≡ true → is_inside (basic w (AddsSection s)) v ≡ true
    still s v None none is = absurd (cc)
    still s v (Some x) found is = rw (first-kept (is_section v.section) w.sections s x found) is

-- A view that is mapped
-- what the tests find: the section's own row, the size, the base
abbrev ranges : World → ℕ → List (ℕ × ℕ)
ranges w pid = map (λ (v : ViewRow). (v.base, v.size)) (views_of w pid)

found-base : (w : World) (pid size : ℕ) → Holds (λ base. (nat_le 128 (length (views_of w pid)) ≡ false) × (least_base (ranges w pid) size ≡ Some base)) (base_test w pid size)
found-base w pid size =
    let P : ℕ → Type 0 = λ base. (nat_le 128 (length (views_of w pid)) ≡ false) × (least_base (ranges w pid) size ≡ Some base) in
    bind_holds (view_count_test w pid) _ P (λ u few.
    found_holds P (least_base (ranges w pid) size) QUOTA_EXCEEDED (λ base found. (not_refused _ QUOTA_EXCEEDED u few, found)))

least-of : (w : World) (pid size base : ℕ) → least_base (ranges w pid) size ≡ Some base → IsLeastBase (ranges w pid) size base
least-of w pid size base is = let all = new_bases_are_least.least (ranges w pid) size in rw is at all

-- a free place is apart from the views of its process
free-apart : (base size : ℕ) (vs : List ViewRow) → has (meets base size) (map (λ (v : ViewRow). (v.base, v.size)) vs) ≡ false → every (λ u. not (meets base size (u.base, u.size))) vs ≡ true
free-apart base size vs off = sym (every-map (λ r. not (meets base size r)) (λ (v : ViewRow). (v.base, v.size)) vs) ∙ every-not (meets base size) (map (λ (v : ViewRow). (v.base, v.size)) vs) off

turned : (x u : ViewRow) → not (meets x.base x.size (u.base, u.size)) ≡ true → lies_apart u x ≡ true
turned x u is = grind (arith, nat_tests)

apart-push : (vs : List ViewRow) (x : ViewRow) → are_apart vs ≡ true → every (λ u. lies_apart u x) vs ≡ true → are_apart (vs ++ x ∷ []) ≡ true
apart-push [] x apart all = refl
apart-push (v ∷ vs) x apart all =
    let here : every (lies_apart v) vs ≡ true = grind arith in
    let one : are_apart vs ≡ true = grind arith in
    let own : lies_apart v x ≡ true = grind arith in
    let later : every (λ u. lies_apart u x) vs ≡ true = grind arith in
    and_from _ _ (every-push (lies_apart v) vs x here own) (apart-push vs x one later)

few-push : (vs : List ViewRow) (x : ViewRow) → nat_le 128 (length vs) ≡ false → length (vs ++ x ∷ []) ≤ 128
few-push vs x room =
    let below : length vs < 128 = grind (arith, nat_tests) in
    let sum : length (vs ++ x ∷ []) ≡ length vs + 1 = length-append vs (x ∷ []) in omega (arith, sum, below)

mapped-views : (w : World) (pid : ℕ) (x : ViewRow) → is_inside w x ≡ true → base_test w pid x.size ≡ Ok x.base → HasSoundViews w → HasSoundViews (basic w (Maps pid x))
mapped-views w pid x inside at t =
    let based = holds_ok (λ base. (nat_le 128 (length (views_of w pid)) ≡ false) × (least_base (ranges w pid) x.size ≡ Some base)) (base_test w pid x.size) x.base (found-base w pid x.size) at in
    let least = least-of w pid x.size x.base based.1 in
    let free = first-true (not (has (meets x.base x.size) (ranges w pid))) _ least.free in
    let ends = second-true (not (has (meets x.base x.size) (ranges w pid))) _ least.free in
    let old = views_of w pid in
    views-changed w pid (λ vs. vs ++ x ∷ []) (λ was. record {
      inside = every-push (is_inside w) old x was.inside inside;
      placed = every-push is_placed old x was.placed (and_from _ _ (at-base x.base least.place) (and_from _ _ (from-base x.base least.place) ends));
      apart = apart-push old x was.apart (every-more _ (λ u. lies_apart u x) (λ u is. turned x u is) old (free-apart x.base x.size old (not-true _ free)));
      few = few-push old x based.0;
    }) t
  where
    at-base : (b : ℕ) → ((k : ℕ) × (b ≡ 65536 * (k + 1))) → (b % 65536 == 0) ≡ true
    at-base b p = rw (p.1, mul-mod_right 65536 (p.0 + 1)) refl

    from-base : (b : ℕ) → ((k : ℕ) × (b ≡ 65536 * (k + 1))) → nat_le 65536 b ≡ true
    from-base b p = let least : 65536 ≤ b = omega (arith, p.1) in grind (arith, nat_tests, least)

-- a view of a part of a section that stands lies inside
shown-inside : (before w : World) (v : ViewRow) → IsShowing before w v → HasSoundViews before → is_inside w v ≡ true
shown-inside before w v is t = rw is.row (is.part t)

-- Steps of lines
ending-views : (b : Basic) → is_ending b ≡ true → keeps_views b ≡ true
ending-views (AddsSection s) is = absurd (cc)
ending-views (Maps pid v) is = absurd (cc)
ending-views (Frees o) is = absurd (cc)
ending-views b is = refl

ended-views : (w : World) (bs : List Basic) → AreEnding bs → HasSoundViews w → HasSoundViews (world_after w bs)
ended-views w bs all = views-all w bs (every-more is_ending keeps_views ending-views bs all)

-- what is known besides: views and offers are sound
pub record AreSound (w : World) : Type 0 where
  pub views : HasSoundViews w
  pub offers : HasSoundOffers w

views-law : (by : ThreadRow) → Law by (Shut AreSound) AnyWorld (Keep HasSoundViews)
views-law by = record {
  keeps = λ w bs all _. tt;
  nothing = λ w t. t;
  follows = keeps_on HasSoundViews;
  says = λ w e t. views-all w (Tells e ∷ []) refl t;
  numbers = λ w. views-all w (DrawsIdentifier by.number ∷ []) refl;
  wakes = λ w status fields x. views-all w (woken status fields x ∷ []) refl;
  marks = λ w who is. views-all w (Marks who ∷ []) refl;
  abandons = λ w who. views-all w (Leaves who ∷ []) refl;
  debugs = λ w pid b stands live. views-all w (SetsDebug pid b ∷ []) refl;
  excepts = λ w pid b stands live. views-all w (SetsException pid b ∷ []) refl;
  dooms = λ w pid code. views-all w (Dooms pid code ∷ []) refl;
  takes = λ w m. ended-views w (take_steps m) (ending-receipt m);
  listens = λ w m. ended-views w (take_connect_steps m) (ending-receipt m);
  waits = λ w x off is. views-all w (Awaits x ∷ []) refl;
  sends = λ w m is. ended-views w (enter m w) (ending-enter m w);
  asks = λ w x m off wait post t. let v = basic w (Awaits x) in ended-views v (enter m v) (ending-enter m v) (views-all w (Awaits x ∷ []) refl t);
  creates = λ w is. views-all w (create_act w by (unnamed_steps (next_birth by))) refl;
  founds = λ w name path free is. views-all w (create_act w by (named_steps (next_birth by) path)) refl;
  connects = λ w connection offer bytes opens offers is t.
      let v = world_after w (connect_begun by connection offer (connection_request by offer bytes)) in
      let row = row_of connection (client_port by connection) (connection_request by offer bytes) in
      ended-views v (enter row v) (ending-enter row v) (views-all w (connect_begun by connection offer (connection_request by offer bytes)) refl t);
  gives = λ w pid o access is. views-all w (AddsHandle pid (handle_row (free_handle w pid) o access) ∷ []) refl;
  accepts = λ w context m x a at is. views-all w (accept_act w by context x a) refl;
  completes = λ w c is. views-all w (complete_act w c) refl;
  registers = λ w b stands. views-all w (Registers by.number b ∷ []) refl;
  spawns = λ w pid tid token new unused s. views-all w (DrawsOrdinal by.number ∷ DrawsOrdinal by.number ∷ AddsProcess (new_process pid (Some by.process) (next_birth by) token) ∷ AddsThread (new_thread tid pid (second_birth by)) ∷ []) refl;
  starts = λ w tid pid live unused s. views-all w (DrawsOrdinal by.number ∷ AddsThread (new_thread tid pid (next_birth by)) ∷ []) refl;
  closes = λ w pid r at s _. ended-views w (close_handle pid r w) (handle-ending pid r w);
  dies = λ w code t is. ended-views w (die code t w) (die-ending code t w);
  leaves = λ w n b. views-all w (Unregisters n b ∷ []) refl;
  lets_go = λ w pid. views-all w (LetsGo pid ∷ []) refl;
  vacates = λ w pid. views-all w (DropsViewsOf pid ∷ []) refl;
  disowns = λ w b. views-all w (DropsOwned b ∷ []) refl;
  secures = λ w b s. views-all w (Secures b s ∷ []) refl;
  acts = λ w own. views-all w (Acts by.number own ∷ []) refl;
  holds_token = λ w content. views-all w (DrawsOrdinal by.number ∷ AddsToken (new_token by content) ∷ []) refl;
  builds = λ w size prot is. built-views w by size prot is;
  maps = λ w pid v m. let known = m.known.1 in mapped-views w pid v (shown-inside m.before w v (m.shows known.offers) known.views) m.place;
  unmaps = λ w pid base. views-all w (Unmaps pid base ∷ []) refl;
  writes = λ w b place new. views-all w (Writes b place new ∷ []) refl;
}

-- Lines
pub views-lines : LineLaw (Shut AreSound) (λ _. Keep HasSoundViews)
views-lines = passing-lines (Shut AreSound) (Keep HasSoundViews) (λ _. keeps_views) views-all (λ w. record { tells = λ _. refl; processes = λ _ _ _. refl; threads = λ _ _ _. refl; binds = λ _ _. refl; names = λ _. refl }) (λ by. outcomes by (Shut AreSound) AnyWorld (Keep HasSoundViews) (views-law by) (λ w c. (c.0, tt)))

-- before the world settles
pub views_line : (w : World) (line : ScriptLine) → IsSoundWorld w → HasShutConnects w → HasSoundOffers w → HasSoundViews w → HasSoundViews (world_after w (own_steps line w))
views_line w line s shut offers t = line-does (Shut AreSound) (λ _. Keep HasSoundViews) views-lines w s (shut, record { views = t; offers = offers }) line t

-- settling
pub views-settles : (v : World) → IsReady v → HasSoundViews v → HasSoundViews (behind settle v)
views-settles v r = settling-does (Shut AreSound) AnyWorld (Keep HasSoundViews) views-law (λ w tid _ _. tt) v r tt

pub views_step : (w : World) (line : ScriptLine) → IsSoundWorld w → HasShutConnects w → HasSoundOffers w → IsReady (world_after w (own_steps line w)) → HasSoundViews w → HasSoundViews (step w line).world
views_step w line s shut offers ready t = step-keeps (Shut AreSound) HasSoundViews views-lines views-settles swept-views w line s (shut, record { views = t; offers = offers }) ready t

pub views_none : HasSoundViews no_rows
views_none = record { contents = refl; sizes = refl; tables = refl; views = λ pid. record { inside = refl; placed = refl; apart = refl; few = omega arith } }
