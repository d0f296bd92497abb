-- NtReadRequestData and NtWriteRequestData in a view: c names members alone, so it finds their requests and views there. It
-- reads the bytes that are known, and what it writes is no part of a view.
use Rattle.std.proofs.Common.{◌≡◌, ℕ, List, Bool, true, false, cond, not, refl, ap, sym, subst, ◌∙◌}
use Rattle.std.specs.Prelude.{◌&&◌, length, nat_le, Result, Ok, Err}
use Rattle.lpc_base.proofs.Bools.{first-true}
use Rattle.lpc_base.proofs.RowMaps.{every-first}
use Rattle.lpc_base.specs.declared.status.Status.{Status}
use Rattle.lpc_base.specs.declared.status.TheConstants.{ACCESS_VIOLATION, INVALID_PARAMETER}
use Rattle.lpc_model.specs.World.{Contents, ThreadRow, ViewRow, World}
use Rattle.lpc_model.specs.Found.{content_of, holds_range, view_holding, views_of}
use Rattle.lpc_model.specs.Basics.{Basic, world_after}
use Rattle.lpc_model.specs.Refusal.{found_or, refuse_if}
use Rattle.lpc_model.specs.Then.{◌>>=◌}
use Rattle.lpc_model.specs.Memory.{is_transfer}
use Rattle.lpc_model.specs.Ranges.{Described, asked_test, described_test, nt_read_request_data, nt_write_request_data, range_of, range_test, read_range_steps, write_range_steps}
use Rattle.lpc_model.specs.Lines.{read_request_data, write_request_data}
use Rattle.lpc_model.specs.Circle.{Group, names_no_outsider}
use Rattle.lpc_model.proofs.Calls.Holding.{holds_ok}
use Rattle.lpc_model.proofs.Views.Tables.{views-among}
use Rattle.lpc_isolation.proofs.Views.Alone.{HasFineRows}
use Rattle.lpc_isolation.proofs.Views.Callers.{Answered, Led}
use Rattle.lpc_isolation.proofs.Views.Mine.{Ways}
use Rattle.lpc_isolation.proofs.Views.Reads.{IsRight}
use Rattle.lpc_isolation.proofs.Views.Seen.{bind-same, result_map}
use Rattle.lpc_isolation.proofs.Views.View.{hidden_section, seen_view, view}
use Rattle.lpc_isolation.proofs.Calls.Calm.{Calm, Own, answers_alike, tells_alike}
use Rattle.lpc_isolation.proofs.Each.Described.{IsDescribed, c-described, described-is, described-thin, seen_described}
use Rattle.lpc_isolation.proofs.Each.Memories.{content-thin, same-content}
use Rattle.lpc_isolation.proofs.Each.Refuses.{Refuses, bind, found, if_refuses, refuses-asked}
use Rattle.lpc_isolation.proofs.Gone.Served.{served}
use Rattle.lpc_isolation.proofs.Gone.Thin.{Alive, Closed, thin, view_closed}
use Rattle.lpc_isolation.proofs.Rows.Fair.{Fair}

-- c's read
mapped-same : {A B : Type 0} (r : Result A Status) (f : A → A) (g h : A → Result B Status) → ((x : A) → r ≡ Ok x → g (f x) ≡ h x) → (result_map f r >>= g) ≡ (r >>= h)
mapped-same (Ok x) f g h same = same x refl
mapped-same (Err s) f g h same = refl

same-read_range : (m : Group) (c : ℕ) (w : World) (by : ThreadRow) (k : Contents) (handle : ℕ) (bytes : List ℕ) (index n : ℕ) → Fair m c w → Ways m w → m c ≡ true → by.process ≡ c → names_no_outsider m w bytes ≡ true → ((d : Described) → described_test w by handle bytes index n ≡ Ok d → IsRight m k w d.view)
    → nt_read_request_data (record (view m w) { contents = k }) by handle bytes index n ≡ nt_read_request_data w by handle bytes index n
unfolding nt_read_request_data
same-read_range m c w by k handle bytes index n f ways c_in mine inside right =
    ap (λ r. r >>= (λ d. Ok (read_range_steps k by n d))) (c-described m c w by handle bytes index n c_in mine f ways inside)
    ∙ mapped-same (described_test w by handle bytes index n) (seen_described m) (λ d. Ok (read_range_steps k by n d)) (λ d. Ok (read_range_steps w.contents by n d)) (λ d at.
    let is = right d at in
    let section : m d.view.section.process ≡ true = is.0 in
    let content : content_of k d.view.section ≡ content_of w.contents d.view.section = same-content k w.contents d.view.section is.1 in
    rw (section, content) refl)

-- c's write
seen-writable : (m : Group) (v : ViewRow) → (seen_view m v).writable ≡ v.writable
seen-writable m v = at (m v.section.process)
  where
    at : (e : Bool) → (cond e v (record v { section = hidden_section v.section; offset = 0 })).writable ≡ v.writable
    at true = refl
    at false = refl

answered-mapped : {A B : Type 0} (P : B → B → Type 0) (r : Result A Status) (f : A → A) (g : A → Result B Status) → ((x : A) → Answered P (g x) (g (f x))) → Answered P (r >>= g) (result_map f r >>= g)
answered-mapped P (Ok x) f g h = h x
answered-mapped P (Err s) f g h = refl

answered-checked : {B : Type 0} (P : B → B → Type 0) (x y : B) (a b : Bool) → a ≡ b → P x y → Answered P (refuse_if (not a) ACCESS_VIOLATION >>= (λ _. Ok x)) (refuse_if (not b) ACCESS_VIOLATION >>= (λ _. Ok y))
answered-checked P x y true true same is = is
answered-checked P x y true false same is = absurd (cc)
answered-checked P x y false true same is = absurd (cc)
answered-checked P x y false false same is = refl

own-write_range : (handle : ℕ) (bytes : List ℕ) (index : ℕ) (new : List ℕ) → Own (write_request_data handle bytes index new)
unfolding nt_write_request_data
own-write_range handle bytes index new m c u d w by known k a used mine fine reads =
    let P : List Basic → List Basic → Type 0 = λ bs led. HasFineRows m c (world_after w bs) → Led m c u d w bs led in
    let writing : Described → Result (List Basic) Status = λ x. refuse_if (not x.view.writable) ACCESS_VIOLATION >>= (λ _. Ok (write_range_steps by new x)) in
    let r = described_test w by handle bytes index (length new) in
    subst (λ s. Answered P (r >>= writing) (s >>= writing)) (sym (c-described m c w by handle bytes index (length new) a.c_in mine a.fair a.ways fine))
    (answered-mapped P r (seen_described m) writing (λ x.
    answered-checked P (write_range_steps by new x) (write_range_steps by new (seen_described m x)) x.view.writable (seen_view m x.view).writable (sym (seen-writable m x.view)) (λ _. record { world = refl; told = refl })))

-- Refusals
described-refuses : (w : World) (by : ThreadRow) (handle : ℕ) (bytes : List ℕ) (index n : ℕ) → Refuses (described_test w by handle bytes index n)
described-refuses w by handle bytes index n =
    bind (asked_test w by handle bytes) _ (refuses-asked w by handle bytes) (λ x.
    bind (range_test x index n) _ (bind (found_or (range_of x index) INVALID_PARAMETER) _ (found (range_of x index) INVALID_PARAMETER refl) (λ r. bind (refuse_if (not (is_transfer n && nat_le n r.size)) INVALID_PARAMETER) _ (if_refuses (not (is_transfer n && nat_le n r.size)) INVALID_PARAMETER refl) (λ _. tt)))
    (λ r. bind (found_or (view_holding w x.process r.base n) ACCESS_VIOLATION) _ (found (view_holding w x.process r.base n) ACCESS_VIOLATION refl) (λ v. tt)))

refuses-read_range : (w : World) (by : ThreadRow) (handle : ℕ) (bytes : List ℕ) (index n : ℕ) → Refuses (nt_read_request_data w by handle bytes index n)
unfolding nt_read_request_data
refuses-read_range w by handle bytes index n = bind (described_test w by handle bytes index n) _ (described-refuses w by handle bytes index n) (λ d. tt)

refuses-write_range : (w : World) (by : ThreadRow) (handle : ℕ) (bytes : List ℕ) (index : ℕ) (new : List ℕ) → Refuses (nt_write_request_data w by handle bytes index new)
unfolding nt_write_request_data
refuses-write_range w by handle bytes index new =
    bind (described_test w by handle bytes index (length new)) _ (described-refuses w by handle bytes index (length new)) (λ d. bind (refuse_if (not d.view.writable) ACCESS_VIOLATION) _ (if_refuses (not d.view.writable) ACCESS_VIOLATION refl) (λ _. tt))

-- Where rows have gone
alike-read_range : (k : Alive) (u : World) (by : ThreadRow) (handle : ℕ) (bytes : List ℕ) (index n : ℕ) → Closed k u → served (thin k u) by (read_request_data handle bytes index n) ≡ served u by (read_request_data handle bytes index n)
unfolding nt_read_request_data
alike-read_range k u by handle bytes index n c =
    ap (λ r. r >>= (λ d. Ok (read_range_steps (thin k u).contents by n d))) (described-thin k u by handle bytes index n c)
    ∙ bind-same (described_test u by handle bytes index n) _ _ (λ d at.
    let is : IsDescribed u by handle bytes index n d = holds_ok (IsDescribed u by handle bytes index n) (described_test u by handle bytes index n) d (described-is u by handle bytes index n) at in
    let live : k.sections d.view.section ≡ true = first-true _ _ (every-first (view_closed k) (holds_range is.range.base n) (views_of u is.wait.process) d.view (views-among (view_closed k) is.wait.process u.views c.views) is.held) in
    rw (content-thin k d.view.section u.contents live) refl)

alike-write_range : (k : Alive) (u : World) (by : ThreadRow) (handle : ℕ) (bytes : List ℕ) (index : ℕ) (new : List ℕ) → Closed k u → served (thin k u) by (write_request_data handle bytes index new) ≡ served u by (write_request_data handle bytes index new)
unfolding nt_write_request_data
alike-write_range k u by handle bytes index new c =
    ap (λ r. r >>= (λ d. refuse_if (not d.view.writable) ACCESS_VIOLATION >>= (λ _. Ok (write_range_steps by new d)))) (described-thin k u by handle bytes index (length new) c)

pub read_range-calm : (handle : ℕ) (bytes : List ℕ) (index n : ℕ) → Calm (read_request_data handle bytes index n)
read_range-calm handle bytes index n = record {
  refuses = λ w by. refuses-read_range w by handle bytes index n;
  members = answers_alike refl (λ m c w by known k a mine fine reads. same-read_range m c w by k handle bytes index n a.fair a.ways a.c_in mine fine reads.range);
  alike = λ k u by live s ports c. alike-read_range k u by handle bytes index n c;
}

pub write_range-calm : (handle : ℕ) (bytes : List ℕ) (index : ℕ) (new : List ℕ) → Calm (write_request_data handle bytes index new)
write_range-calm handle bytes index new = record {
  refuses = λ w by. refuses-write_range w by handle bytes index new;
  members = tells_alike refl (own-write_range handle bytes index new);
  alike = λ k u by live s ports c. alike-write_range k u by handle bytes index new c;
}
