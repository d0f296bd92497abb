-- The bytes that are known from the inputs go on by what members' calls write.
use Rattle.lpc_isolation.proofs.Each.Described.{IsDescribed, described-is, member-described, outsiders-described, outsiders-view, seen_described}
use Rattle.lpc_isolation.proofs.Rows.Fair.{Fair}
use Rattle.lpc_isolation.proofs.Views.Seen.{result_map}
use Rattle.lpc_isolation.proofs.Views.Mine.{Ways}
use Rattle.lpc_model.proofs.Calls.Holding.{Holds, bind_holds, holds_ok}
use Rattle.lpc_base.specs.declared.status.TheConstants.{ACCESS_VIOLATION}
use Rattle.lpc_base.specs.declared.status.Status.{Status}
use Rattle.lpc_model.specs.Refusal.{refuse_if}
use Rattle.lpc_model.specs.Ranges.{Described, described_test, nt_write_request_data}
use Rattle.lpc_isolation.proofs.Views.Places.{holding-view}
use Rattle.lpc_model.specs.Memory.{new_section, place_in}
use Rattle.std.proofs.Common.{◌≡◌, ℕ, Bool, List, [], true, cond, ◌∷◌, Option, Some, None, subst, sym, false, not, refl, ap, ◌∙◌}
use Rattle.std.specs.Prelude.{is_none, length, option_map, Result, Ok}
use Rattle.lpc_base.specs.Rows.{given}
use Rattle.lpc_model.specs.World.{Birth, Contents, ThreadRow, World, ViewRow}
use Rattle.lpc_model.specs.Found.{live_thread, wait_of, view_holding, holds_range}
use Rattle.lpc_model.specs.Basics.{Basic, Writes}
use Rattle.lpc_model.specs.Lines.{ScriptCall, create_section, write_virtual_memory, write_request_data}
use Rattle.lpc_model.specs.Circle.{Group, Item, is_seen, thread_whose}
use Rattle.lpc_isolation.proofs.Views.Alone.{alone, ShowsOuter}
use Rattle.lpc_isolation.proofs.Views.View.{view, seen_view}
use Rattle.lpc_isolation.proofs.Views.Bytes.{Agree, contents_after, agree-add, agree-seen, agree-outer}
use Rattle.lpc_isolation.proofs.Views.Callers.{on_ok}
use Rattle.lpc_isolation.proofs.Gone.Served.{served}
use Rattle.lpc_isolation.proofs.Owed.Written.{written_by, written_range}
use Rattle.lpc_isolation.proofs.Plays.Lines.{Leads, accepts, next_entry, seeing}

-- what a member's call writes: of c, where its call is served; of another, where it is told so
abbrev pub written_turn : Leads → ℕ → World → ℕ → ScriptCall → List Item → List Basic
written_turn led c v tid call is = given (live_thread v tid) (λ by.
    cond (is_seen (alone c) (thread_whose v tid)) (cond (is_none (wait_of v tid)) (on_ok (served (seeing led.bytes v call) by call) (λ _. written_by v by call)) []) (cond (accepts (next_entry is)) (written_by v by call) []))

-- what a call on a described range finds where it is served
record Ranged (w : World) (by : ThreadRow) (handle : ℕ) (bytes : List ℕ) (index n : ℕ) : Type 0 where
  place : Described
  found : described_test w by handle bytes index n ≡ Ok place

ranged-write : (w : World) (by : ThreadRow) (handle : ℕ) (bytes : List ℕ) (index : ℕ) (new : List ℕ) → Holds (λ bs. Ranged w by handle bytes index (length new)) (nt_write_request_data w by handle bytes index new)
unfolding nt_write_request_data
ranged-write w by handle bytes index new =
    let P : List Basic → Type 0 = λ bs. Ranged w by handle bytes index (length new) in
    bind_holds (described_test w by handle bytes index (length new)) _ P (λ d at.
    bind_holds (refuse_if (not d.view.writable) ACCESS_VIOLATION) _ P (λ _ _. record { place = d; found = at }))

-- a member's view is written in both alike; an outsider's view shows a section that is outer
range-inside : (m : Group) (c : ℕ) (outer : Birth → Bool) (w : World) (by : ThreadRow) (k : Contents) (handle : ℕ) (bytes : List ℕ) (index : ℕ) (new : List ℕ) → Ranged w by handle bytes index (length new) → m by.process ≡ true → Fair m c w → Ways m w → ShowsOuter m outer w → Agree m outer k w.contents
    → Agree m outer (contents_after k (on_ok (described_test (view m w) by handle bytes index (length new)) (written_range new))) (contents_after w.contents (on_ok (described_test w by handle bytes index (length new)) (written_range new)))
range-inside m c outer w by k handle bytes index new there inside f ways shows a = at (m is.wait.process) refl
  where
    n : ℕ
    n = length new

    d : Described
    d = there.place

    is : IsDescribed w by handle bytes index n d
    is = holds_ok (IsDescribed w by handle bytes index n) (described_test w by handle bytes index n) d (described-is w by handle bytes index n) there.found

    Goal : Result Described Status → Result Described Status → Type 0
    Goal r s = Agree m outer (contents_after k (on_ok r (written_range new))) (contents_after w.contents (on_ok s (written_range new)))

    at : (e : Bool) → m is.wait.process ≡ e → Goal (described_test (view m w) by handle bytes index n) (described_test w by handle bytes index n)
    at true is_in =
        let same : described_test (view m w) by handle bytes index n ≡ Ok (seen_described m d) = member-described m c w by handle bytes index n d is f ways inside is_in ∙ ap (result_map (seen_described m)) there.found in
        subst (λ r. Goal r (described_test w by handle bytes index n)) (sym same) (subst (λ s. Goal (Ok (seen_described m d)) s) (sym there.found) (agree-seen m outer k w.contents d.view d.address new a))
    at false out =
        let none : on_ok (described_test (view m w) by handle bytes index n) (written_range new) ≡ [] = outsiders-described m w by handle bytes index n d is (written_range new) out in
        let shown : outer d.view.section ≡ true = shows d.view.section (outsiders-view m is.wait.process (holds_range is.range.base n) d.view w.views out is.held) in
        subst (λ bs. Agree m outer (contents_after k bs) (contents_after w.contents (on_ok (described_test w by handle bytes index n) (written_range new)))) (sym none)
        (subst (λ s. Agree m outer k (contents_after w.contents (on_ok s (written_range new)))) (sym there.found) (agree-outer m outer k w.contents d.view.section (place_in d.view d.address) new shown a))

-- it writes in the play what it writes in the world
pub written-inside : (m : Group) (c : ℕ) (outer : Birth → Bool) (w : World) (by : ThreadRow) (k : Contents) (call : ScriptCall) (bs : List Basic) → m by.process ≡ true → Fair m c w → Ways m w → ShowsOuter m outer w → served w by call ≡ Ok bs → Agree m outer k w.contents → Agree m outer (contents_after k (written_by (view m w) by call)) (contents_after w.contents (written_by w by call))
written-inside m c outer w by k (create_section size prot) bs inside f ways shows ok a = agree-add m outer k w.contents (new_section by size prot) a
written-inside m c outer w by k (write_virtual_memory address new) bs inside f ways shows ok a =
    subst (λ o. Agree m outer (contents_after k (wrote o)) (contents_after w.contents (wrote (view_holding w by.process address (length new))))) (sym (holding-view m w by.process address (length new) inside)) (at (view_holding w by.process address (length new)))
  where
    wrote : Option ViewRow → List Basic
    wrote o = given o (λ v. Writes v.section (place_in v address) new ∷ [])

    at : (o : Option ViewRow) → Agree m outer (contents_after k (wrote (option_map (seen_view m) o))) (contents_after w.contents (wrote o))
    at None = a
    at (Some v) = agree-seen m outer k w.contents v address new a
written-inside m c outer w by k (write_request_data handle bytes index new) bs inside f ways shows ok a =
    let there = holds_ok (λ bs. Ranged w by handle bytes index (length new)) (served w by (write_request_data handle bytes index new)) bs (ranged-write w by handle bytes index new) ok in
    range-inside m c outer w by k handle bytes index new there inside f ways shows a
written-inside m c outer w by k call bs inside f ways shows ok a = a
