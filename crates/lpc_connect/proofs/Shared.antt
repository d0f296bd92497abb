-- The views of a connection: each is found as the definitions find it, behind those that are mapped before it.
use Rattle.std.proofs.Common.{◌≡◌, ℕ, ◌+◌, ◌≤◌, List, [], ◌∷◌, ◌++◌, Bool, true, false, cond, length, map, Option, Some, None, option_map, refl, ap, sym, subst, ◌∙◌, arith}
use Rattle.std.specs.Prelude.{nat_le, ◌==◌, Result, Ok, Err, IfOk, IfSome, IsErrAnd, option_to_list, is_some}
use Rattle.std.proofs.lemmas.Bool.{eqb-true}
use Rattle.std.proofs.lemmas.Bool.Decides.{nat_tests}
use Rattle.std.proofs.lemmas.List.{append-nil, length-append, length-map}
use Rattle.lpc_base.specs.Rows.{every, first, has, passes}
use Rattle.lpc_base.specs.Views.{least_base}
use Rattle.lpc_base.specs.declared.birth.Birth.{Birth}
use Rattle.lpc_base.specs.declared.status.Status.{Status}
use Rattle.lpc_base.specs.declared.status.TheConstants.{QUOTA_EXCEEDED}
use Rattle.lpc_base.proofs.Bools.{first-true, same-number, second-true}
use Rattle.lpc_base.proofs.RowMaps.{every-first}
use Rattle.lpc_base.proofs.RowWords.{first-passes}
use Rattle.lpc_model.specs.Basics.{world_after}
use Rattle.lpc_model.specs.Connect.{ConnectAnswer, accepted_view, answer_test, names_connect, nt_accept_connect_port}
use Rattle.lpc_model.specs.Found.{is_space, is_table, offer_of, views_of, waits_as}
use Rattle.lpc_model.specs.Offers as model
use Rattle.lpc_model.specs.Refusal.{found_or, refuse_if}
use Rattle.lpc_model.specs.SoundViews.{HasSoundOffers, HasSoundViews, is_sized, is_sound_offer, offers_part}
use Rattle.lpc_model.specs.Tests.{handles_test, next_birth}
use Rattle.lpc_model.specs.Then.{◌>>=◌}
use Rattle.lpc_model.specs.World as world
use Rattle.lpc_model.specs.World.{HandleTable, SectionRow, ThreadRow, ViewRow, ViewTable, WaitRow, World}
use Rattle.lpc_model.specs.declared.line.ViewWord.{ViewWord}
use Rattle.lpc_model.specs.declared.message.Message.{Message}
use Rattle.lpc_rows.specs.Clauses.{Answers, base_beside, has_section, section_at, view_shown}
use Rattle.lpc_rows.specs.Kept.{Kept}
use Rattle.lpc_rows.specs.Names.{stands}
use Rattle.lpc_rows.specs.Ready.{wait_in, waiter}
use Rattle.lpc_rows.specs.Shown.{birth_of, shown_offer}
use Rattle.lpc_slots.specs.declared.Key.{Key}
use Rattle.lpc_connect.specs.declared.accept.Sharing.{Sharing}
use Rattle.lpc_connect.specs.Sharing.{CanLieBeside, CanShare, HasClientTable, SharesAs, views_here}
use Rattle.lpc_connect.proofs.Mapped.{Ranges, as-many, behind-others, behind-two, spaced}
use Rattle.lpc_model.proofs.Steps.InTurn.{after-append}
use Rattle.lpc_steps.specs.Offers.{is_part, offer_shown, owned_view, place_beside, view_at, views_owned}
use Rattle.lpc_steps.proofs.Placed.{placed_beside}
use Rattle.lpc_views.specs.declared.view.View.{View}
use Rattle.lpc_waits.specs.declared.Offer.{Offer}

-- two numbers that aren't one differ by the test
differs : (a b : ℕ) → (a ≡ b → ⊥) → (a == b) ≡ false
differs a b apart = at (a == b) refl
  where
    at : (same : Bool) → (a == b) ≡ same → same ≡ false
    at true is = absurd (apart (eqb-true a b is))
    at false is = refl

-- what fails with an error is that error
pub fails : {A E : Type 0} (r : Result A E) (e : E) → IsErrAnd r (λ x. x ≡ e) → r ≡ Err e
fails (Err x) e is = ap Err is
fails (Ok x) e is = absurd is

-- Views behind those that are mapped
behind-both : (w : Kept) (pid : ℕ) (port : Birth) → has (is_space pid) w.rows.views ≡ true → (one other : Option (View Key))
    → Ranges (views_of (world_after w.rows (model.mapped pid (views_owned w port one) ++ model.mapped pid (views_owned w port other))) pid) ≡ Ranges (views_of w.rows pid ++ map (view_shown w) (option_to_list one ++ option_to_list other))
behind-both w pid port space one other =
    ap (λ (v : World). Ranges (views_of v pid)) (after-append w.rows (model.mapped pid (views_owned w port one)) (model.mapped pid (views_owned w port other))) ∙ behind-two w pid port port one other space

-- those of another process are as before
behind-away : (w : Kept) (pid client : ℕ) (port : Birth) → (client == pid) ≡ false → (one other : Option (View Key))
    → Ranges (views_of (world_after w.rows (model.mapped pid (views_owned w port one) ++ model.mapped pid (views_owned w port other))) client) ≡ Ranges (views_of w.rows client ++ [])
behind-away w pid client port off one other =
    ap (λ (v : World). Ranges (views_of v client)) (after-append w.rows (model.mapped pid (views_owned w port one)) (model.mapped pid (views_owned w port other))) ∙ behind-others w pid port port one other client off

-- The view that is found
one-view : (w : Kept) (port : Birth) (o : Offer) (full : Bool) (least : Option ℕ)
    → Answers (found_or (cond full None least) QUOTA_EXCEEDED >>= (λ base. Ok (view_at o base))) (owned_view w port)
    ((refuse_if full QUOTA_EXCEEDED >>= (λ _. found_or least QUOTA_EXCEEDED)) >>= (λ base. Ok (model.offered_view port (shown_offer (birth_of w.births) o) base)))
one-view w port o true least = refl
one-view w port o false None = refl
one-view w port o false (Some base) = refl

given-view : {X Y : Type 0} (f : X → Y) (r : Result X Status) (t : Result Y Status) → Answers r f t → Answers (r >>= (λ x. Ok (Some x))) (option_map f) (t >>= (λ y. Ok (Some y)))
given-view f (Ok x) t is = rw is refl
given-view f (Err s) t is = rw is refl

many : (w : Kept) (pid : ℕ) (others : List (View Key)) → length (views_of w.rows pid ++ map (view_shown w) others) ≡ length (views_of w.rows pid) + length others
many w pid others = length-append (views_of w.rows pid) (map (view_shown w) others) ∙ ap (λ n. length (views_of w.rows pid) + n) (length-map others (view_shown w))

module _ (w : Kept) (v : World) (pid : ℕ) (others : List (View Key)) (same : Ranges (views_of v pid) ≡ Ranges (views_of w.rows pid ++ map (view_shown w) others)) (within : length (views_of w.rows pid) + length others ≤ 128) where
  abbrev here : List ViewRow
  here = views_of w.rows pid ++ map (view_shown w) others

  beside : (size : ℕ) → base_beside w pid others size ≡ cond (nat_le 128 (length (views_of v pid))) None (least_base (Ranges (views_of v pid)) size)
  beside size =
      let all : length here ≤ 128 = rw (many w pid others) within in
      let full : (length here == 128) ≡ nat_le 128 (length here) = grind (arith, nat_tests) in
      ap (λ c. cond c None (least_base (Ranges here) size)) (full ∙ ap (λ n. nat_le 128 n) (sym (as-many (views_of v pid) here same)))
      ∙ ap (λ rs. cond (nat_le 128 (length (views_of v pid))) None (least_base rs size)) (sym same)

  -- is that of the definitions, where those are mapped that it lies beside
  pub found-beside : (port : Birth) (offer : Option Offer) → Answers (model.if_given (place_beside w pid others) offer) (option_map (owned_view w port)) (model.if_given (model.view_test v pid port) (offer_shown w offer))
  found-beside port None = refl
  found-beside port (Some o) =
      let t = model.view_test v pid port (shown_offer (birth_of w.births) o) in
      given-view (owned_view w port) (place_beside w pid others o) t
      (subst (λ (b : Option ℕ). Answers (found_or b QUOTA_EXCEEDED >>= (λ base. Ok (view_at o base))) (owned_view w port) t) (sym (beside o.size))
      (one-view w port o (nat_le 128 (length (views_of v pid))) (least_base (Ranges (views_of v pid)) o.size)))

-- where a view is found there is room for it among those that a process may have
within-more : (w : Kept) (pid : ℕ) (others : List (View Key)) (offer : Option Offer) (view : Option (View Key)) → Ok view ≡ model.if_given (place_beside w pid others) offer → length (views_of w.rows pid) + length others ≤ 128
    → length (views_of w.rows pid) + length (others ++ option_to_list view) ≤ 128
within-more w pid others offer None is within = rw (append-nil others) within
within-more w pid others None (Some v) is within = absurd (cc)
within-more w pid others (Some o) (Some v) is within = at (length (views_of w.rows pid ++ map (view_shown w) others) == 128) refl is
  where
    at : (full : Bool) → (length (views_of w.rows pid ++ map (view_shown w) others) == 128) ≡ full → Ok (Some v) ≡ ((found_or (cond full None (least_base (Ranges (views_of w.rows pid ++ map (view_shown w) others)) o.size)) QUOTA_EXCEEDED >>= (λ base. Ok (view_at o base))) >>= (λ y. Ok (Some y)))
        → length (views_of w.rows pid) + length (others ++ v ∷ []) ≤ 128
    at true full is = absurd (cc)
    at false more is =
        let all = many w pid others in
        let one = length-append others (v ∷ []) in
        grind (arith, nat_tests, more, all, one, within)

-- and it has its place there
lies-by : (w : Kept) (pid : ℕ) (others : List (View Key)) (o : Offer) (b : Option ℕ) → stands w.births.sections o.section ≡ true → is_part w o ≡ true → every is_sized w.rows.sections ≡ true → base_beside w pid others o.size ≡ b
    → IfOk (found_or b QUOTA_EXCEEDED >>= (λ base. Ok (view_at o base))) (λ v. CanLieBeside w pid others v)
lies-by w pid others o None stand part sized found = tt
lies-by w pid others o (Some base) stand part sized found = record {
  section = stand;
  part = second-true _ _ part;
  placed = placed_beside w pid others o base part sized found;
  base = found;
}

given-lies : {X : Type 0} (P : X → Type 0) (r : Result X Status) → IfOk r P → IfOk (r >>= (λ x. Ok (Some x))) (λ o. IfSome o P)
given-lies P (Ok x) is = is
given-lies P (Err s) is = tt

lies-given : (w : Kept) (pid : ℕ) (others : List (View Key)) (offer : Option Offer) → has_section w offer ≡ true → IfSome offer (λ o. is_part w o ≡ true) → every is_sized w.rows.sections ≡ true
    → IfOk (model.if_given (place_beside w pid others) offer) (λ view. IfSome view (CanLieBeside w pid others))
lies-given w pid others None stand part sized = tt
lies-given w pid others (Some o) stand part sized = given-lies (CanLieBeside w pid others) (place_beside w pid others o) (lies-by w pid others o (base_beside w pid others o.size) stand part sized refl)

pub lies-beside : (w : Kept) (pid : ℕ) (others : List (View Key)) (offer : Option Offer) (view : Option (View Key)) → has_section w offer ≡ true → IfSome offer (λ o. is_part w o ≡ true) → every is_sized w.rows.sections ≡ true → Ok view ≡ model.if_given (place_beside w pid others) offer
    → IfSome view (CanLieBeside w pid others)
lies-beside w pid others offer view stand part sized is =
    subst (λ (r : Result (Option (View Key)) Status). IfOk r (λ v. IfSome v (CanLieBeside w pid others))) (sym is) (lies-given w pid others offer stand part sized)

-- so behind two that are found
pub within_two : (w : Kept) (pid : ℕ) (offer other : Option Offer) → HasSoundViews w.rows → (own theirs : Option (View Key)) → Ok own ≡ model.if_given (place_beside w pid []) offer → Ok theirs ≡ model.if_given (place_beside w pid (option_to_list own ++ [])) other
    → length (views_of w.rows pid) + length (option_to_list own ++ option_to_list theirs) ≤ 128
within_two w pid offer other sound own theirs own-found theirs-found =
    let all = sound.views pid in
    let one : length (views_of w.rows pid) + length (option_to_list own ++ []) ≤ 128 = rw (append-nil (option_to_list own)) (within-more w pid [] offer own own-found (omega (arith, all.few))) in
    rw (append-nil (option_to_list own)) at (within-more w pid (option_to_list own ++ []) other theirs theirs-found one)

-- Offers
-- what a connect offers is part of a section
part-by : (w : Kept) (o : Offer) (s : Option SectionRow) → section_at w o.section ≡ s → passes s (offers_part (shown_offer (birth_of w.births) o)) ≡ true → is_part w o ≡ true
part-by w o None at is = absurd (cc)
part-by w o (Some s) at is = rw at (grind (arith, is))

offered-part : (w : Kept) (x : WaitRow) (offer : Option Offer) → offer_shown w offer ≡ offer_of x → is_sound_offer w.rows x ≡ true → IfSome offer (λ o. is_part w o ≡ true)
offered-part w x None is sound = tt
offered-part w x (Some o) is sound = part-by w o (section_at w o.section) refl (rw (← is) at sound)

pub offered_part : (w : Kept) (tid : ℕ) (offer : Option Offer) → has (waits_as tid) w.rows.waits ≡ true → offer_shown w offer ≡ offer_of (waiter w.rows tid) → HasSoundOffers w.rows → IfSome offer (λ o. is_part w o ≡ true)
unfolding waiter
offered_part w tid offer waits is sound = of_wait (first (waits_as tid) w.rows.waits) refl waits is
  where
    of_wait : (x : Option WaitRow) → first (waits_as tid) w.rows.waits ≡ x → is_some x ≡ true → offer_shown w offer ≡ offer_of (wait_in x) → IfSome offer (λ o. is_part w o ≡ true)
    of_wait None found waits is = absurd (cc)
    of_wait (Some x) found waits is = offered-part w x offer is (every-first (is_sound_offer w.rows) (waits_as tid) w.rows.waits x sound found)

-- Clients
-- a live thread has the client's process, so its process has a table of handles
pub client_home : (w : World) (by : ThreadRow) (m : Message) (tid : ℕ) → first (names_connect w by m) w.waits ≡ Some (waiter w tid) → has (is_table m.header.client.process) w.handles ≡ true → HasClientTable w tid
client_home w by m tid found table =
    let x : WaitRow = waiter w tid in
    let named : names_connect w by m x ≡ true = first-passes (names_connect w by m) w.waits x found in
    let own : (x.process == m.header.client.process) ≡ true = first-true _ _ (second-true _ _ (first-true _ _ named)) in
    rw (eqb-true x.process m.header.client.process own) table

-- Refusals
-- where a view has no place, an accept is refused with that fault
pub views_refused : (w : World) (by : ThreadRow) (context : ℕ) (bytes : List ℕ) (accept : Bool) (view seen : Option ViewWord) (wanted : Option model.Wanted) (a : ConnectAnswer) (offer : Option world.Offer) (s : Status)
    → accept ≡ true → seen ≡ accepted_view accept view → model.if_given (model.wanted_test w by) seen ≡ Ok wanted → answer_test w by bytes ≡ Ok a → model.if_given model.offer_test wanted ≡ Ok offer → Ok tt ≡ handles_test w by.process 1
    → model.shared_test w by a.wait offer ≡ Err s → nt_accept_connect_port w by context bytes accept view ≡ Err s
unfolding nt_accept_connect_port
views_refused w by context bytes accept view seen wanted a offer s accepts saw wants answers offers few shares =
    rw (← saw, wants, answers, accepts, offers, ← few, shares) refl

-- The views of a connection
-- each is found behind those before it, as the definitions find it
module _ (w : Kept) (by : ThreadRow) (tid pid client : ℕ) (offer other : Option Offer)
    (caller : by.process ≡ pid) (at : let x : WaitRow = waiter w.rows tid in x.process ≡ client) (its : offer_shown w other ≡ offer_of (waiter w.rows tid))
    (sound : HasSoundViews w.rows) (table : has (is_table pid) w.rows.handles ≡ true) where
  abbrev x : WaitRow
  x = waiter w.rows tid

  abbrev port : Birth
  port = next_birth by

  abbrev Found : Option (View Key) → Option (View Key) → Result (Option (View Key)) Status → Type 0
  Found own theirs across = SharesAs w by tid offer (across >>= (λ there. Ok (record { own = own; theirs = theirs; across = there })))

  few : (pid : ℕ) → length (views_of w.rows pid) + 0 ≤ 128
  few pid = let all = sound.views pid in omega (arith, all.few)

  space : has (is_space pid) w.rows.views ≡ true
  space = spaced pid w.rows.views w.rows.handles sound.tables table

  own-is : (r : Result (Option (View Key)) Status) → r ≡ model.if_given (place_beside w pid []) offer → Answers r (option_map (owned_view w port)) (model.if_given (model.view_test w.rows by.process port) (offer_shown w offer))
  own-is r is =
      rw is (subst (λ (p : ℕ). Answers (model.if_given (place_beside w pid []) offer) (option_map (owned_view w port)) (model.if_given (model.view_test w.rows p port) (offer_shown w offer))) (sym caller)
      (found-beside w w.rows pid [] (ap Ranges (sym (append-nil (views_of w.rows pid)))) (few pid) port offer))

  pub own-refused : (s : Status) → Err s ≡ model.if_given (place_beside w pid []) offer → SharesAs w by tid offer (Err s)
  own-refused s is = rw (own-is (Err s) is) refl

  module _ (own : Option (View Key)) (own-found : Ok own ≡ model.if_given (place_beside w pid []) offer) where
    one-more : length (views_of w.rows pid) + length (option_to_list own ++ []) ≤ 128
    one-more = rw (append-nil (option_to_list own)) (within-more w pid [] offer own own-found (few pid))

    theirs-is : (r : Result (Option (View Key)) Status) → r ≡ model.if_given (place_beside w pid (option_to_list own ++ [])) other
        → Answers r (option_map (owned_view w port)) (model.if_given (model.view_test (world_after w.rows (model.mapped by.process (views_owned w port own))) by.process port) (offer_of x))
    theirs-is r is =
        rw (← its, is) (subst (λ (p : ℕ). Answers (model.if_given (place_beside w pid (option_to_list own ++ [])) other) (option_map (owned_view w port)) (model.if_given (model.view_test (world_after w.rows (model.mapped p (views_owned w port own))) p port) (offer_shown w other))) (sym caller)
        (found-beside w (world_after w.rows (model.mapped pid (views_owned w port own))) pid (option_to_list own ++ []) (behind-two w pid port port own None space) one-more port other))

    pub theirs-refused : (s : Status) → Err s ≡ model.if_given (place_beside w pid (option_to_list own ++ [])) other → SharesAs w by tid offer (Err s)
    theirs-refused s is = rw (own-is (Ok own) own-found, theirs-is (Err s) is) refl

    module _ (theirs : Option (View Key)) (theirs-found : Ok theirs ≡ model.if_given (place_beside w pid (option_to_list own ++ [])) other) where
      abbrev after : World
      after = world_after w.rows (model.mapped pid (views_owned w port own) ++ model.mapped pid (views_owned w port theirs))

      two-more : length (views_of w.rows pid) + length (option_to_list own ++ option_to_list theirs) ≤ 128
      two-more = within_two w pid offer other sound own theirs own-found theirs-found

      across-by : (others : List (View Key)) → Ranges (views_of after client) ≡ Ranges (views_of w.rows client ++ map (view_shown w) others) → length (views_of w.rows client) + length others ≤ 128
          → (r : Result (Option (View Key)) Status) → r ≡ model.if_given (place_beside w client others) offer → Found own theirs r
      across-by others same within r is =
          let found : Answers r (option_map (owned_view w x.port)) (model.if_given (model.view_test (world_after w.rows (model.server_views by (views_owned w port own) (views_owned w port theirs))) x.process x.port) (offer_shown w offer)) =
          rw (at, is) (subst (λ (p : ℕ). Answers (model.if_given (place_beside w client others) offer) (option_map (owned_view w x.port)) (model.if_given (model.view_test (world_after w.rows (model.mapped p (views_owned w port own) ++ model.mapped p (views_owned w port theirs))) client x.port) (offer_shown w offer))) (sym caller)
          (found-beside w after client others same within x.port offer)) in
          by-found r found
        where
          by-found : (r : Result (Option (View Key)) Status) → Answers r (option_map (owned_view w x.port)) (model.if_given (model.view_test (world_after w.rows (model.server_views by (views_owned w port own) (views_owned w port theirs))) x.process x.port) (offer_shown w offer)) → Found own theirs r
          by-found (Ok there) found = rw (own-is (Ok own) own-found, theirs-is (Ok theirs) theirs-found, found) refl
          by-found (Err s) found = rw (own-is (Ok own) own-found, theirs-is (Ok theirs) theirs-found, found) refl

      pub across-here : client ≡ pid → (r : Result (Option (View Key)) Status) → r ≡ model.if_given (place_beside w pid (option_to_list own ++ option_to_list theirs)) offer → Found own theirs r
      across-here here r is =
          across-by (option_to_list own ++ option_to_list theirs) (rw here (behind-both w pid port space own theirs)) (rw here two-more) r (rw here is)

      pub across-there : (client ≡ pid → ⊥) → (r : Result (Option (View Key)) Status) → r ≡ model.if_given (place_beside w client []) offer → Found own theirs r
      across-there off r is = across-by [] (behind-away w pid client port (differs client pid off) own theirs) (few client) r is

-- Where they lie
-- each beside those before it
module _ (w : Kept) (pid tid client : ℕ) (v : Sharing) (at : let x : WaitRow = waiter w.rows tid in x.process ≡ client)
    (own : IfSome v.own (CanLieBeside w pid [])) (theirs : IfSome v.theirs (CanLieBeside w pid (option_to_list v.own ++ []))) where
  beside-own : IfSome v.theirs (CanLieBeside w pid (option_to_list v.own))
  beside-own = rw (append-nil (option_to_list v.own)) at theirs

  pub shared-here : client ≡ pid → IfSome v.across (CanLieBeside w pid (views_here v)) → CanShare w pid tid v
  shared-here here across = record { own = own; theirs = beside-own; across = rw (at, here, same-number pid) across }

  pub shared-there : (client ≡ pid → ⊥) → IfSome v.across (CanLieBeside w client []) → CanShare w pid tid v
  shared-there off across = record { own = own; theirs = beside-own; across = rw (at, differs client pid off) across }
