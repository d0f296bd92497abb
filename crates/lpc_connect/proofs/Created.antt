-- A port that is made: the steps as they are taken one by one, and the steps of the definition.
use Rattle.std.proofs.Common.{◌≡◌, ℕ, Bool, List, [], ◌∷◌, ◌++◌, Option, Some, None, option_map, Result, Ok, Err, IfOk, IsOk, refl, ap, sym, ◌∙◌}
use Rattle.std.proofs.lemmas.List.{append-nil}
use Rattle.std.proofs.lemmas.Option.{same_Some}
use Rattle.lpc_base.specs.declared.birth.Birth.{Birth}
use Rattle.lpc_base.specs.declared.status.Status.{Status}
use Rattle.lpc_base.specs.declared.status.TheConstants.{SUCCESS}
use Rattle.lpc_model.specs.declared.entry.CallName.TheVariants.{NtCreatePort}
use Rattle.lpc_model.specs.declared.entry.Entry.{Entry}
use Rattle.lpc_model.specs.declared.entry.Entry.TheVariants.{Answer}
use Rattle.lpc_model.specs.declared.entry.Outcome.TheVariants.{Answered}
use Rattle.lpc_model.specs.Basics.{AddsHandle, Basic, DrawsOrdinal, basic, entries_of, outcome_of, world_after}
use Rattle.lpc_model.specs.Connect.{create_steps, guard_steps, making, named_steps, nt_create_port, unnamed_steps}
use Rattle.lpc_model.specs.Fields.{h}
use Rattle.lpc_model.specs.Found.{free_handle, port_name}
use Rattle.lpc_model.specs.Machine.{settled}
use Rattle.lpc_model.specs.Named.{free_name}
use Rattle.lpc_model.specs.Sweep.{loosened}
use Rattle.lpc_model.specs.Then.{◌>>=◌}
use Rattle.lpc_model.specs.Tests.{PORT_ACCESS, handle_row, handles_test, next_birth}
use Rattle.lpc_model.specs.World.{Dacl, Path, ThreadRow, World}
use Rattle.lpc_model.proofs.Steps.InTurn.{after-append}
use Rattle.lpc_procs.specs.declared.rows.Caller.{Caller}
use Rattle.lpc_connect.specs.Calls.{HasCaller}
use Rattle.lpc_rows.specs.Callers.{as_caller, shown_caller}
use Rattle.lpc_rows.specs.Clauses.{thread_row}
use Rattle.lpc_rows.specs.Does.{Left, left_by}
use Rattle.lpc_steps.proofs.Composed.{left-append}

-- the birth that a caller draws is its next
pub drawn-birth : (w : World) (c : Caller) (b : Birth) → HasCaller w c → option_map next_birth (thread_row w c.number) ≡ Some b → b ≡ next_birth (shown_caller c)
drawn-birth w c b there drawn = same_Some b (next_birth (shown_caller c)) (sym drawn ∙ of_row (thread_row w c.number) there)
  where
    of_row : (o : Option ThreadRow) → option_map as_caller o ≡ Some c → option_map next_birth o ≡ Some (next_birth (shown_caller c))
    of_row None there = absurd (cc)
    of_row (Some t) there = ap (λ k. Some (next_birth (shown_caller k))) (same_Some (as_caller t) c there)

module _ (w : World) (es : List Entry) (l : Bool) (t : ThreadRow) where
  abbrev drawn : World
  drawn = basic w (DrawsOrdinal t.number)

  abbrev own : Basic
  own = AddsHandle t.process (handle_row (free_handle w t.process) (port_name (next_birth t)) PORT_ACCESS)

  -- the steps leave the handles as they are and tell nothing, and then the handle is given
  module _ (made given : World) (list : List Entry) (loose : Bool) (value : ℕ) (name : Birth)
      (least : value ≡ free_handle made t.process) (named : name ≡ next_birth t)
      (give : given ≡ basic made (AddsHandle t.process (handle_row value (port_name name) PORT_ACCESS)))
      (told : list ≡ es ++ Answer t.number NtCreatePort SUCCESS (h value ∷ []) ∷ []) (kept : loose ≡ l) where
    abbrev End : Left
    End = record { world = given; entries = list; loose = loose }

    created_by : (steps : List Basic) → made ≡ world_after drawn steps → free_handle (world_after drawn steps) t.process ≡ free_handle w t.process → entries_of (steps ++ own ∷ []) ≡ [] → loosened l (steps ++ own ∷ []) ≡ l
        → End ≡ left_by w es l (create_steps t steps (free_handle w t.process))
    created_by steps made_is same silent firm =
        let value_is : value ≡ free_handle w t.process = least ∙ ap (λ (v : World). free_handle v t.process) made_is ∙ same in
        let given_is : given ≡ world_after drawn (steps ++ own ∷ []) =
        give ∙ ap (λ (v : World). basic v (AddsHandle t.process (handle_row value (port_name name) PORT_ACCESS))) made_is
        ∙ ap (λ (n : ℕ). basic (world_after drawn steps) (AddsHandle t.process (handle_row n (port_name name) PORT_ACCESS))) value_is
        ∙ ap (λ (b : Birth). basic (world_after drawn steps) (AddsHandle t.process (handle_row (free_handle w t.process) (port_name b) PORT_ACCESS))) named
        ∙ sym (after-append drawn steps (own ∷ [])) in
        let told_is : list ≡ es ++ Answer t.number NtCreatePort SUCCESS (h (free_handle w t.process) ∷ []) ∷ entries_of (steps ++ own ∷ []) =
        told ∙ ap (λ (n : ℕ). es ++ Answer t.number NtCreatePort SUCCESS (h n ∷ []) ∷ []) value_is
        ∙ ap (λ (xs : List Entry). es ++ Answer t.number NtCreatePort SUCCESS (h (free_handle w t.process) ∷ []) ∷ xs) (sym silent) in
        let loose_is : loose ≡ loosened l (steps ++ own ∷ []) = kept ∙ sym firm in
        λ i. record { world = given_is i; entries = told_is i; loose = loose_is i }

    abbrev Makes : List Basic → Type 0
    Makes steps = made ≡ world_after drawn steps

    abbrev Leaves : List Basic → Type 0
    Leaves steps = End ≡ left_by w es l (create_steps t steps (free_handle w t.process))

    named_by : (r : Result Path Status) → IfOk (r >>= (λ path. Ok (named_steps (next_birth t) path))) Makes → IfOk (r >>= (λ path. Ok (named_steps (next_birth t) path))) Leaves
    named_by (Err s) makes = tt
    named_by (Ok path) makes = created_by (named_steps (next_birth t) path) makes refl refl refl

    created_as : (o : Option (List ℕ)) → IfOk (making w (next_birth t) o) Makes → IfOk (making w (next_birth t) o) Leaves
    created_as None makes = created_by (unnamed_steps (next_birth t)) makes refl refl refl
    created_as (Some text) makes = named_by (free_name w text) makes

    pub created : (drew : World) (b : Birth) (o : Option (List ℕ)) → b ≡ next_birth t → drew ≡ drawn → IfOk (making drew b o) (λ steps. made ≡ world_after drew steps) → IfOk (making w (next_birth t) o) Leaves
    created drew b o birth draw makes = created_as o (rw (birth, draw) at makes)

-- an access list tells nothing, and takes no row away
guards-silently : (b : Birth) (o : Option (List ℕ)) (d : Option Dacl) → entries_of (guard_steps b o d) ≡ []
guards-silently b None d = refl
guards-silently b (Some name) None = refl
guards-silently b (Some name) (Some dacl) = refl

guards-firmly : (l : Bool) (b : Birth) (o : Option (List ℕ)) (d : Option Dacl) → loosened l (guard_steps b o d) ≡ l
guards-firmly l b None d = refl
guards-firmly l b (Some name) None = refl
guards-firmly l b (Some name) (Some dacl) = refl

-- the port was made with these steps, and then it got its access list
module _ (w : World) (es : List Entry) (l : Bool) (mid : Left) (world : World) (b : Birth) (o : Option (List ℕ)) (d : Option Dacl)
    (guard : world ≡ world_after mid.world (guard_steps b o d)) where
  abbrev Guarded : Left
  Guarded = record { world = world; entries = mid.entries; loose = mid.loose }

  guarded_by : Guarded ≡ left_by mid.world mid.entries mid.loose (guard_steps b o d)
  guarded_by =
      let told : mid.entries ≡ mid.entries ++ entries_of (guard_steps b o d) =
      sym (append-nil mid.entries) ∙ ap (λ (xs : List Entry). mid.entries ++ xs) (sym (guards-silently b o d)) in
      let loose : mid.loose ≡ loosened mid.loose (guard_steps b o d) = sym (guards-firmly mid.loose b o d) in
      λ i. record { world = guard i; entries = told i; loose = loose i }

  guarded_behind : (steps : List Basic) → mid ≡ left_by w es l steps → Guarded ≡ left_by w es l (steps ++ guard_steps b o d)
  guarded_behind steps made =
      guarded_by ∙ ap (λ (x : Left). left_by x.world x.entries x.loose (guard_steps b o d)) made ∙ left-append w es l steps (guard_steps b o d)

  pub guarded : (r : Result (List Basic) Status) (f : List Basic → List Basic) → IfOk r (λ made. mid ≡ left_by w es l (f made)) → IfOk r (λ made. Guarded ≡ left_by w es l (f made ++ guard_steps b o d))
  guarded (Ok made) f does = guarded_behind (f made) does
  guarded (Err s) f does = tt

-- where the tests pass, the call's steps are those of a port that is made
module _ (w : World) (t : ThreadRow) (o : Option (List ℕ)) (d : Option Dacl) where
  abbrev steps : List Basic → List Basic
  steps made = create_steps t made (free_handle w t.process) ++ guard_steps (next_birth t) o d

  module _ (es : List Entry) (l : Bool) (end : Left) where
    abbrev Creates : List Basic → Type 0
    Creates made = end ≡ left_by w es l (steps made)

    creates_by : (r : Result (List Basic) Status) (q : Result Unit Status) → IsOk r → IsOk q → IfOk r Creates → end ≡ left_by w es l (settled t NtCreatePort (r >>= (λ made. q >>= (λ _. Ok (steps made)))))
    creates_by (Ok made) (Ok u) free few creates = creates
    creates_by (Ok made) (Err s) free few creates = absurd (cc)
    creates_by (Err s) q free few creates = absurd (cc)

    pub creates : IsOk (making w (next_birth t) o) → IsOk (handles_test w t.process 1) → IfOk (making w (next_birth t) o) Creates → end ≡ left_by w es l (settled t NtCreatePort (nt_create_port w t o d))
    unfolding nt_create_port
    creates free few does = creates_by (making w (next_birth t) o) (handles_test w t.process 1) free few does

  -- and the call ends so
  ends_by : (r : Result (List Basic) Status) (q : Result Unit Status) → IsOk r → IsOk q → Answered SUCCESS ≡ outcome_of (settled t NtCreatePort (r >>= (λ made. q >>= (λ _. Ok (steps made)))))
  ends_by (Ok made) (Ok u) free few = refl
  ends_by (Ok made) (Err s) free few = absurd (cc)
  ends_by (Err s) q free few = absurd (cc)

  pub creates_outcome : IsOk (making w (next_birth t) o) → IsOk (handles_test w t.process 1) → Answered SUCCESS ≡ outcome_of (settled t NtCreatePort (nt_create_port w t o d))
  unfolding nt_create_port
  creates_outcome free few = ends_by (making w (next_birth t) o) (handles_test w t.process 1) free few
