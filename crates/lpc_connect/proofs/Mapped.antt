-- The views of a connection as they are mapped one by one: each has its place behind those before it.
use Rattle.std.proofs.Common.{◌≡◌, ℕ, List, [], ◌∷◌, ◌++◌, Bool, true, false, cond, length, map, Option, Some, None, refl, ap, sym, ◌∙◌, arith, append_assoc}
use Rattle.std.specs.Prelude.{◌==◌, IfSome, option_to_list}
use Rattle.std.proofs.lemmas.Bool.Decides.{nat_tests}
use Rattle.std.proofs.lemmas.List.{append-nil, length-map, map-append}
use Rattle.lpc_base.specs.Rows.{change, first, has}
use Rattle.lpc_base.specs.Views.{least_base}
use Rattle.lpc_base.specs.declared.birth.Birth.{Birth}
use Rattle.lpc_base.proofs.RowMaps.{has-map}
use Rattle.lpc_base.proofs.RowWords.{every-true}
use Rattle.lpc_connect.specs.Sharing.{CanLieBeside, CanShare, HasSpaces, views_here}
use Rattle.lpc_connect.specs.declared.accept.Sharing.{Sharing}
use Rattle.lpc_model.specs.Basics.{with_view, world_after}
use Rattle.lpc_model.specs.Found.{is_space, is_table, views_in, views_of}
use Rattle.lpc_model.specs.Offers.{mapped}
use Rattle.lpc_model.specs.World.{HandleTable, ViewRow, ViewTable, WaitRow, World}
use Rattle.lpc_rows.specs.Clauses.{base_among, view_shown}
use Rattle.lpc_rows.specs.Kept.{Kept}
use Rattle.lpc_rows.specs.Ready.{waiter}
use Rattle.lpc_slots.specs.declared.Key.{Key}
use Rattle.lpc_steps.specs.Offers.{CanLieAs, views_owned}
use Rattle.lpc_views.specs.declared.view.View.{View}

-- Rows
-- a process with a table of handles has one of views
pub spaced : (pid : ℕ) (vs : List ViewTable) (hs : List HandleTable) → map (λ (t : ViewTable). t.process) vs ≡ map (λ (t : HandleTable). t.process) hs → has (is_table pid) hs ≡ true → has (is_space pid) vs ≡ true
spaced pid vs hs same table =
    sym (has-map (λ (t : ViewTable). t.process) (λ _. true) (is_space pid) (λ n. n == pid) (λ t _. refl) vs (every-true vs))
    ∙ ap (λ ns. has (λ n. n == pid) ns) same
    ∙ has-map (λ (t : HandleTable). t.process) (λ _. true) (is_table pid) (λ n. n == pid) (λ t _. refl) hs (every-true hs) ∙ table

-- the view that a process gets stands behind its others
added : (pid : ℕ) (v : ViewRow) (ts : List ViewTable) → has (is_space pid) ts ≡ true → views_in (first (is_space pid) (change (is_space pid) (with_view v) ts)) ≡ views_in (first (is_space pid) ts) ++ v ∷ []
added pid v [] space = absurd (cc)
added pid v (t ∷ ts) space = grind (arith, added pid v ts)

stays : (pid : ℕ) (v : ViewRow) (ts : List ViewTable) → has (is_space pid) ts ≡ true → has (is_space pid) (change (is_space pid) (with_view v) ts) ≡ true
stays pid v [] space = absurd (cc)
stays pid v (t ∷ ts) space = grind (arith, stays pid v ts)

-- and those of another process are as before
elsewhere : (pid other : ℕ) (v : ViewRow) → (other == pid) ≡ false → (ts : List ViewTable) → views_in (first (is_space other) (change (is_space pid) (with_view v) ts)) ≡ views_in (first (is_space other) ts)
elsewhere pid other v off [] = refl
elsewhere pid other v off (t ∷ ts) = grind (arith, elsewhere pid other v off ts)

-- a view more leaves the sections
sections-mapped : (w : World) (pid : ℕ) (o : Option ViewRow) → let v : World = world_after w (mapped pid o) in v.sections ≡ w.sections
sections-mapped w pid None = refl
sections-mapped w pid (Some v) = refl

-- Places
-- where views lie
abbrev pub Ranges : List ViewRow → List (ℕ × ℕ)
Ranges vs = map (λ (v : ViewRow). (v.base, v.size)) vs

-- as many views lie at as many places
pub as-many : (us vs : List ViewRow) → Ranges us ≡ Ranges vs → length us ≡ length vs
as-many us vs same = sym (length-map us (λ (v : ViewRow). (v.base, v.size))) ∙ ap length same ∙ length-map vs (λ (v : ViewRow). (v.base, v.size))

same-base : (us vs : List ViewRow) (size : ℕ) → Ranges us ≡ Ranges vs → base_among us size ≡ base_among vs size
same-base us vs size same =
    ap (λ n. cond (n == 128) None (least_base (Ranges us) size)) (as-many us vs same) ∙ ap (λ rs. cond (length vs == 128) None (least_base rs size)) same

-- a view that has its place beside others has it where those are mapped
lies : (w u : Kept) (pid : ℕ) (others : List (View Key)) (view : Option (View Key)) → u.births ≡ w.births → (let r : World = u.rows in r.sections ≡ w.rows.sections) → Ranges (views_of u.rows pid) ≡ Ranges (views_of w.rows pid ++ map (view_shown w) others)
    → IfSome view (CanLieBeside w pid others) → CanLieAs u pid view
lies w u pid others None births sections same can = tt
lies w u pid others (Some v) births sections same can = record {
  section = rw (births) can.section;
  part = rw (births, sections) can.part;
  placed = can.placed;
  base = same-base (views_of u.rows pid) (views_of w.rows pid ++ map (view_shown w) others) v.size same ∙ can.base;
}

-- the views of a process with one more, if there is one; of that process, and of another
gained : (r : World) (pid : ℕ) (o : Option ViewRow) → has (is_space pid) r.views ≡ true → views_of (world_after r (mapped pid o)) pid ≡ views_of r pid ++ option_to_list o
gained r pid None space = sym (append-nil (views_of r pid))
gained r pid (Some v) space = added pid v r.views space

still : (r : World) (pid : ℕ) (o : Option ViewRow) → has (is_space pid) r.views ≡ true → (let v : World = world_after r (mapped pid o) in has (is_space pid) v.views ≡ true)
still r pid None space = space
still r pid (Some v) space = stays pid v r.views space

away : (r : World) (pid other : ℕ) (o : Option ViewRow) → (other == pid) ≡ false → views_of (world_after r (mapped pid o)) other ≡ views_of r other
away r pid other None off = refl
away r pid other (Some v) off = elsewhere pid other v off r.views

-- whatever port they go with, they lie where they lie
owned : (w : Kept) (one two : Birth) (u v : Option (View Key)) → Ranges (option_to_list (views_owned w one u) ++ option_to_list (views_owned w two v)) ≡ Ranges (map (view_shown w) (option_to_list u ++ option_to_list v))
owned w one two None None = refl
owned w one two (Some u) None = refl
owned w one two None (Some v) = refl
owned w one two (Some u) (Some v) = refl

ranged : (vs us ws : List ViewRow) → Ranges us ≡ Ranges ws → Ranges (vs ++ us) ≡ Ranges (vs ++ ws)
ranged vs us ws same =
    map-append (λ (v : ViewRow). (v.base, v.size)) vs us ∙ ap (λ rs. Ranges vs ++ rs) same ∙ sym (map-append (λ (v : ViewRow). (v.base, v.size)) vs ws)

module _ (w : Kept) (pid : ℕ) (one two : Birth) (u v : Option (View Key)) where
  abbrev pub once : World
  once = world_after w.rows (mapped pid (views_owned w one u))

  abbrev pub twice : World
  twice = world_after once (mapped pid (views_owned w two v))

  pub behind-two : has (is_space pid) w.rows.views ≡ true → Ranges (views_of twice pid) ≡ Ranges (views_of w.rows pid ++ map (view_shown w) (option_to_list u ++ option_to_list v))
  behind-two space =
      let vs = views_of w.rows pid in
      let us = option_to_list (views_owned w one u) in
      let ws = option_to_list (views_owned w two v) in
      ap Ranges (gained once pid (views_owned w two v) (still w.rows pid (views_owned w one u) space) ∙ ap (λ xs. xs ++ ws) (gained w.rows pid (views_owned w one u) space) ∙ append_assoc vs us ws)
      ∙ ranged vs (us ++ ws) (map (view_shown w) (option_to_list u ++ option_to_list v)) (owned w one two u v)

  pub behind-others : (other : ℕ) → (other == pid) ≡ false → Ranges (views_of twice other) ≡ Ranges (views_of w.rows other ++ [])
  behind-others other off =
      ap Ranges (away once pid other (views_owned w two v) off ∙ away w.rows pid other (views_owned w one u) off ∙ sym (append-nil (views_of w.rows other)))

-- the second view of the caller's process lies beside the first
pub lies_second : (w u : Kept) (pid : ℕ) (port : Birth) (own theirs : Option (View Key)) → HasSpaces w.rows → has (is_table pid) w.rows.handles ≡ true → u.births ≡ w.births → u.rows ≡ world_after w.rows (mapped pid (views_owned w port own))
    → IfSome theirs (CanLieBeside w pid (option_to_list own)) → CanLieAs u pid theirs
lies_second w u pid port own theirs spaces table births rows can =
    lies w u pid (option_to_list own) theirs births (ap (λ (r : World). r.sections) rows ∙ sections-mapped w.rows pid (views_owned w port own))
    (ap (λ r. Ranges (views_of r pid)) rows ∙ (rw (append-nil (option_to_list own)) at (behind-two w pid port port own None (spaced pid w.rows.views w.rows.handles spaces table)))) can

-- and that of the client's process beside those of them that are its own
pub lies_third : (w u v : Kept) (pid tid client : ℕ) (one two : Birth) (s : Sharing) → HasSpaces w.rows → has (is_table pid) w.rows.handles ≡ true → (let x : WaitRow = waiter w.rows tid in x.process ≡ client) → u.births ≡ w.births → v.births ≡ u.births
    → u.rows ≡ world_after w.rows (mapped pid (views_owned w one s.own)) → v.rows ≡ world_after u.rows (mapped pid (views_owned u two s.theirs)) → CanShare w pid tid s → CanLieAs v client s.across
lies_third w u v pid tid client one two s spaces table at births births' rows rows' can = by (client == pid) refl
  where
    last : v.rows ≡ twice w pid one two s.own s.theirs
    last = rows' ∙ rw (births, rows) refl

    sections : (let r : World = v.rows in r.sections ≡ w.rows.sections)
    sections = ap (λ (r : World). r.sections) last ∙ sections-mapped (once w pid one two s.own s.theirs) pid (views_owned w two s.theirs) ∙ sections-mapped w.rows pid (views_owned w one s.own)

    across : IfSome s.across (CanLieBeside w client (cond (client == pid) (views_here s) []))
    across = rw (at) at can.across

    by : (here : Bool) → (client == pid) ≡ here → CanLieAs v client s.across
    by true here =
        let same : client ≡ pid = grind (arith, nat_tests, here) in
        lies w v client (views_here s) s.across (births' ∙ births) sections
        (ap (λ r. Ranges (views_of r client)) last ∙ rw (same) (behind-two w pid one two s.own s.theirs (spaced pid w.rows.views w.rows.handles spaces table)))
        (rw (here) at across)
    by false there = lies w v client [] s.across (births' ∙ births) sections (ap (λ r. Ranges (views_of r client)) last ∙ behind-others w pid one two s.own s.theirs client there) (rw (there) at across)
