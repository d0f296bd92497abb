-- A line about a resident that makes no call, in a play: no row changes, and c is told what its view says.
use Rattle.std.proofs.Common.{◌≡◌, ℕ, List, [], ◌∷◌, Bool, true, false, cond, Option, Some, None, refl, ap, sym, ◌∙◌}
use Rattle.lpc_model.specs.declared.entry.Entry.{Entry}
use Rattle.lpc_model.specs.declared.entry.Entry.TheVariants as entry
use Rattle.lpc_model.specs.declared.entry.Word.TheVariants as word
use Rattle.lpc_model.specs.World.{ThreadRow, World}
use Rattle.lpc_model.specs.Found.{live_thread}
use Rattle.lpc_model.specs.Lines.{ResidentLine, ScriptLine, hosts, moves, of_resident}
use Rattle.lpc_model.specs.Machine.{own_steps, hosting_status, idle_entry, resident_entry}
use Rattle.lpc_model.specs.Circle.{Group, Item, Ran, Told, Whose, entry_whose, full_items, is_seen, owner, thread_whose, told_event}
use Rattle.lpc_isolation.proofs.Gone.Served.{own_served_step}
use Rattle.lpc_isolation.proofs.Gone.Bare.{own_line_events}
use Rattle.lpc_isolation.proofs.Views.Alone.{alone}
use Rattle.lpc_isolation.proofs.Views.View.{view}
use Rattle.lpc_isolation.proofs.Views.Seen.{live-view}
use Rattle.lpc_isolation.proofs.Views.Apart.{absorb, absorb_all, c_seen}
use Rattle.lpc_isolation.proofs.Rows.Fair.{Fair}
use Rattle.lpc_isolation.proofs.Plays.Play.{own_told_at}
use Rattle.lpc_base.specs.Rows.{every}
use Rattle.lpc_isolation.proofs.Plays.Lines.{OnceUsed, is_done, thread-same}

-- what c sees of such a line
abbrev pub resident_shown : ℕ → World → ℕ → ResidentLine → Bool → List Item
resident_shown c v tid what had =
    cond (is_seen (alone c) (thread_whose v tid)) (Ran (of_resident tid what had) ∷ Told (resident_entry v tid what had) ∷ []) []

-- its entry is of the line's thread, whatever it tells
idle-own : (w : World) (tid : ℕ) (o : Option ThreadRow) (had : Bool) → entry_whose w (thread_whose w tid) (idle_entry tid o had) ≡ thread_whose w tid
idle-own w tid None had = refl
idle-own w tid (Some t) false = refl
idle-own w tid (Some t) true = refl

entry-own : (w : World) (tid : ℕ) (what : ResidentLine) (had : Bool) → entry_whose w (thread_whose w tid) (resident_entry w tid what had) ≡ thread_whose w tid
unfolding resident_entry
entry-own w tid (hosts kind handle) had = refl
entry-own w tid moves had = idle-own w tid (live_thread w tid) had

-- and a view takes nothing from it
idle-absorbed : (v : World) (tid : ℕ) (o : Option ThreadRow) (had : Bool) → absorb v (idle_entry tid o had) ≡ v
idle-absorbed v tid None had = refl
idle-absorbed v tid (Some t) false = refl
idle-absorbed v tid (Some t) true = refl

entry-absorbed : (v w : World) (tid : ℕ) (what : ResidentLine) (had : Bool) → absorb v (resident_entry w tid what had) ≡ v
unfolding resident_entry
entry-absorbed v w tid (hosts kind handle) had = refl
entry-absorbed v w tid moves had = idle-absorbed v tid (live_thread w tid) had

absorbed-where : (b : Bool) (v : World) (e : Entry) → absorb v e ≡ v → absorb_all v (cond b (e ∷ []) []) ≡ v
absorbed-where true v e same = same
absorbed-where false v e same = refl

told-absorbed : (m : Group) (c : ℕ) (w : World) (tid : ℕ) (what : ResidentLine) (had : Bool) → absorb_all (view m w) (own_told_at m c w (of_resident tid what had)) ≡ view m w
unfolding own_steps
told-absorbed m c w tid what had = absorbed-where _ (view m w) (resident_entry w tid what had) (entry-absorbed (view m w) w tid what had)

-- it wakes none
idle-done : (v : World) (tid : ℕ) (o : Option ThreadRow) (had : Bool) → is_done v (idle_entry tid o had) ≡ true
idle-done v tid None had = refl
idle-done v tid (Some t) false = refl
idle-done v tid (Some t) true = refl

entry-done : (v w : World) (tid : ℕ) (what : ResidentLine) (had : Bool) → is_done v (resident_entry w tid what had) ≡ true
unfolding resident_entry
entry-done v w tid (hosts kind handle) had = refl
entry-done v w tid moves had = idle-done v tid (live_thread w tid) had

pub resident-done : (v w : World) (tid : ℕ) (what : ResidentLine) (had : Bool) → every (is_done v) (own_served_step w (of_resident tid what had)).entries ≡ true
unfolding own_steps
resident-done v w tid what had = rw (entry-done v w tid what had) refl

-- c's items of it
shown-where : (w : World) (d : Whose) (c : ℕ) (line : ScriptLine) (e : Entry) → entry_whose w d e ≡ d → (b : Bool) → is_seen (alone c) d ≡ b
    → full_items (alone c) (record { whose = d; item = Ran line } ∷ told_event w d e ∷ []) ≡ cond b (Ran line ∷ Told e ∷ []) []
shown-where w d c line e own true is = rw (own, is) refl
shown-where w d c line e own false is = rw (own, is) refl

resident-items : (c : ℕ) (w : World) (tid : ℕ) (what : ResidentLine) (had : Bool)
    → full_items (alone c) (own_line_events w (of_resident tid what had)) ≡ resident_shown c w tid what had
unfolding own_steps
resident-items c w tid what had =
    shown-where w (thread_whose w tid) c (of_resident tid what had) (resident_entry w tid what had) (entry-own w tid what had) (is_seen (alone c) (thread_whose w tid)) refl

pub resident-hidden : (m : Group) (c : ℕ) (w : World) (tid : ℕ) (what : ResidentLine) (had : Bool) → m c ≡ true → is_seen m (thread_whose w tid) ≡ false
    → (view m (own_served_step w (of_resident tid what had)).world ≡ absorb_all (view m w) (own_told_at m c w (of_resident tid what had)))
    × (full_items (alone c) (own_line_events w (of_resident tid what had)) ≡ [])
unfolding own_steps
resident-hidden m c w tid what had c_in out = (
  sym (told-absorbed m c w tid what had),
  resident-items c w tid what had ∙ ap (λ b. cond b (Ran (of_resident tid what had) ∷ Told (resident_entry w tid what had) ∷ []) []) (c_seen m c (thread_whose w tid) c_in out),
)

-- a member's view says of its threads what the world says
resident-view : (m : Group) (c : ℕ) (w : World) (tid : ℕ) (what : ResidentLine) (had : Bool) → Fair m c w → is_seen m (thread_whose w tid) ≡ true → resident_entry (view m w) tid what had ≡ resident_entry w tid what had
unfolding resident_entry
resident-view m c w tid what had fair seen = by_owner (owner w tid) refl
  where
    same : (pid : ℕ) (what : ResidentLine) → owner w tid ≡ Some pid → m pid ≡ true → resident_entry (view m w) tid what had ≡ resident_entry w tid what had
    same pid (hosts kind handle) own inside = ap (λ o. entry.Directive word.Resident (hosting_status o had)) (live-view m c w tid pid fair own inside)
    same pid moves own inside = ap (λ o. idle_entry tid o had) (live-view m c w tid pid fair own inside)

    by_owner : (o : Option ℕ) → owner w tid ≡ o → resident_entry (view m w) tid what had ≡ resident_entry w tid what had
    by_owner None none = let off : false ≡ true = rw none at seen in absurd (cc)
    by_owner (Some pid) own = let inside : m pid ≡ true = rw own at seen in same pid what own inside

pub resident-visible : (m : Group) (c : ℕ) (w : World) (tid : ℕ) (what : ResidentLine) (had : Bool) → Fair m c w → OnceUsed w → is_seen m (thread_whose w tid) ≡ true
    → (view m (own_served_step w (of_resident tid what had)).world ≡ view m w)
    × (full_items (alone c) (own_line_events w (of_resident tid what had)) ≡ resident_shown c (view m w) tid what had)
unfolding own_steps
resident-visible m c w tid what had fair once seen = (
  refl,
  resident-items c w tid what had
      ∙ ap (λ e. cond (is_seen (alone c) (thread_whose w tid)) (Ran (of_resident tid what had) ∷ Told e ∷ []) []) (sym (resident-view m c w tid what had fair seen))
      ∙ ap (λ d. cond (is_seen (alone c) d) (Ran (of_resident tid what had) ∷ Told (resident_entry (view m w) tid what had) ∷ []) []) (sym (thread-same m w tid once seen)),
)
