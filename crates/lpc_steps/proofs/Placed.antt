-- Views of what is offered are well placed, and are found as the definitions find them.
use Rattle.std.proofs.Common.{◌≡◌, ℕ, ◌+◌, ◌≤◌, List, [], Bool, true, false, cond, length, map, Option, Some, None, option_map, refl, ap, sym, subst, ◌∙◌, arith}
use Rattle.std.specs.Prelude.{nat_le, nat_lt, leb, ◌==◌, Result, Ok, Err, IfOk, IfSome}
use Rattle.std.proofs.lemmas.Bool.Decides.{nat_tests}
use Rattle.std.proofs.lemmas.List.{append-nil}
use Rattle.lpc_base.specs.Rows.{every, passes}
use Rattle.lpc_base.specs.Views.{bases, is_free_base, least_base}
use Rattle.lpc_base.specs.declared.birth.Birth.{Birth}
use Rattle.lpc_base.specs.declared.status.Status.{Status}
use Rattle.lpc_base.specs.declared.status.TheConstants.{QUOTA_EXCEEDED}
use Rattle.lpc_base.proofs.Bools.{first-true, second-true}
use Rattle.lpc_base.proofs.RowMaps.{every-first}
use Rattle.lpc_base.proofs.RowWords.{first-passes}
use Rattle.lpc_model.specs.Found.{is_section, views_of}
use Rattle.lpc_model.specs.Offers as model
use Rattle.lpc_model.specs.Refusal.{found_or, refuse_if}
use Rattle.lpc_model.specs.SoundViews.{is_sized}
use Rattle.lpc_model.specs.Then.{◌>>=◌}
use Rattle.lpc_model.specs.World.{SectionRow, ViewRow}
use Rattle.lpc_rows.specs.Clauses.{Answers, base_among, base_beside, has_section, section_at}
use Rattle.lpc_rows.specs.Kept.{Kept}
use Rattle.lpc_rows.specs.Names.{name_of, stands}
use Rattle.lpc_rows.specs.Shown.{birth_of, shown_offer}
use Rattle.lpc_slots.specs.declared.Key.{Key}
use Rattle.lpc_steps.specs.Offers.{CanLie, CanLieAs, is_part, offer_shown, owned_view, place_beside, view_at}
use Rattle.lpc_views.specs.Views.{is_placed}
use Rattle.lpc_views.specs.declared.view.View.{View}
use Rattle.lpc_waits.specs.declared.Offer.{Offer}

-- a base that is found lies below the end
based : (views : List ViewRow) (size base : ℕ) → base_among views size ≡ Some base → leb (base + size) 2147418112 ≡ true
based views size base found = at (length views == 128) refl found
  where
    at : (c : Bool) → (length views == 128) ≡ c → cond c None (least_base (map (λ (v : ViewRow). (v.base, v.size)) views) size) ≡ Some base → leb (base + size) 2147418112 ≡ true
    at true full none = absurd (cc)
    at false more is = second-true _ _ (first-passes (is_free_base (map (λ (v : ViewRow). (v.base, v.size)) views) size) bases base is)

-- a part of a section ends within what sections may have
ended : (o : Offer) (s : Option SectionRow) → ((r : SectionRow) → s ≡ Some r → is_sized r ≡ true) → passes s (λ r. nat_le (o.offset + o.size) r.size) ≡ true → leb (o.offset + o.size) 4194304 ≡ true
ended o None sized part = absurd (cc)
ended o (Some r) sized part = let own = sized r refl in grind (arith, nat_tests, own)

pub placed_beside : (w : Kept) (pid : ℕ) (others : List (View Key)) (o : Offer) (base : ℕ) → is_part w o ≡ true → every is_sized w.rows.sections ≡ true → base_beside w pid others o.size ≡ Some base → is_placed (view_at o base) ≡ true
placed_beside w pid others o base part sized found =
    let some : nat_lt 0 o.size ≡ true = first-true _ _ part in
    let end : leb (base + o.size) 2147418112 ≡ true = based _ o.size base found in
    let within : leb (o.offset + o.size) 4194304 ≡ true = ended o (section_at w o.section) (λ r at. every-first is_sized (is_section (name_of w.births.sections o.section)) w.rows.sections r sized at) (second-true _ _ part) in
    grind (arith, nat_tests, some, end, within)

-- the view that is found beside no further one is that of the definitions, for whatever port
alone : (w : Kept) (pid : ℕ) (size : ℕ) → length (views_of w.rows pid) ≤ 128 → (let vs = views_of w.rows pid in base_beside w pid [] size ≡ cond (nat_le 128 (length vs)) None (least_base (map (λ (v : ViewRow). (v.base, v.size)) vs) size))
alone w pid size few =
    let vs = views_of w.rows pid in
    let same : (length vs == 128) ≡ nat_le 128 (length vs) = grind (arith, nat_tests) in
    ap (λ us. base_among us size) (append-nil vs) ∙ ap (λ c. cond c None (least_base (map (λ (v : ViewRow). (v.base, v.size)) vs) size)) same

one-view : (w : Kept) (port : Birth) (o : Offer) (full : Bool) (least : Option ℕ)
    → Answers (found_or (cond full None least) QUOTA_EXCEEDED >>= (λ base. Ok (view_at o base))) (owned_view w port)
    ((refuse_if full QUOTA_EXCEEDED >>= (λ _. found_or least QUOTA_EXCEEDED)) >>= (λ base. Ok (model.offered_view port (shown_offer (birth_of w.births) o) base)))
one-view w port o true least = refl
one-view w port o false None = refl
one-view w port o false (Some base) = refl

given-view : {X Y : Type 0} (f : X → Y) (r : Result X Status) (t : Result Y Status) → Answers r f t → Answers (r >>= (λ x. Ok (Some x))) (option_map f) (t >>= (λ y. Ok (Some y)))
given-view f (Ok x) t is = rw is refl
given-view f (Err s) t is = rw is refl

pub view-alone : (w : Kept) (pid : ℕ) (port : Birth) (offer : Option Offer) → length (views_of w.rows pid) ≤ 128
    → Answers (model.if_given (place_beside w pid []) offer) (option_map (owned_view w port)) (model.if_given (model.view_test w.rows pid port) (offer_shown w offer))
view-alone w pid port None few = refl
view-alone w pid port (Some o) few =
    let vs = views_of w.rows pid in
    let t = model.view_test w.rows pid port (shown_offer (birth_of w.births) o) in
    given-view (owned_view w port) (place_beside w pid [] o) t
    (subst (λ (b : Option ℕ). Answers (found_or b QUOTA_EXCEEDED >>= (λ base. Ok (view_at o base))) (owned_view w port) t) (sym (alone w pid o.size few))
    (one-view w port o (nat_le 128 (length vs)) (least_base (map (λ (v : ViewRow). (v.base, v.size)) vs) o.size)))

pub found_alone : (w : Kept) (pid : ℕ) (offer : Option Offer) (r : Result (Option (View Key)) Status) → length (views_of w.rows pid) ≤ 128 → r ≡ model.if_given (place_beside w pid []) offer
    → (port : Birth) → Answers r (option_map (owned_view w port)) (model.if_given (model.view_test w.rows pid port) (offer_shown w offer))
found_alone w pid offer r few is port =
    subst (λ (q : Result (Option (View Key)) Status). Answers q (option_map (owned_view w port)) (model.if_given (model.view_test w.rows pid port) (offer_shown w offer))) (sym is) (view-alone w pid port offer few)

-- and it has its place
lies-by : (w : Kept) (pid : ℕ) (o : Offer) (b : Option ℕ) → stands w.births.sections o.section ≡ true → is_part w o ≡ true → every is_sized w.rows.sections ≡ true → base_beside w pid [] o.size ≡ b
    → IfOk (found_or b QUOTA_EXCEEDED >>= (λ base. Ok (view_at o base))) (λ v. CanLie w pid v)
lies-by w pid o None stand part sized found = tt
lies-by w pid o (Some base) stand part sized found = record {
  section = stand;
  part = second-true _ _ part;
  placed = placed_beside w pid [] o base part sized found;
  base = sym (ap (λ us. base_among us o.size) (append-nil (views_of w.rows pid))) ∙ found;
}

given-lies : {X : Type 0} (P : X → Type 0) (r : Result X Status) → IfOk r P → IfOk (r >>= (λ x. Ok (Some x))) (λ o. IfSome o P)
given-lies P (Ok x) is = is
given-lies P (Err s) is = tt

pub lies_alone : (w : Kept) (pid : ℕ) (offer : Option Offer) (r : Result (Option (View Key)) Status) → has_section w offer ≡ true → IfSome offer (λ o. is_part w o ≡ true) → every is_sized w.rows.sections ≡ true → r ≡ model.if_given (place_beside w pid []) offer
    → IfOk r (λ view. CanLieAs w pid view)
lies_alone w pid None r stand part sized is = subst (λ (q : Result (Option (View Key)) Status). IfOk q (λ view. CanLieAs w pid view)) (sym is) tt
lies_alone w pid (Some o) r stand part sized is =
    subst (λ (q : Result (Option (View Key)) Status). IfOk q (λ view. CanLieAs w pid view)) (sym is)
    (given-lies (CanLie w pid) (place_beside w pid [] o) (lies-by w pid o (base_beside w pid [] o.size) stand part sized refl))
