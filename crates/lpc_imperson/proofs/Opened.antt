-- A token that is opened: the steps as they are taken one by one, and the steps of the definition.
use Rattle.std.proofs.Common.{◌≡◌, ℕ, Bool, List, [], ◌∷◌, ◌++◌, Option, Some, None, option_map, Result, Ok, ap, sym, ◌∙◌}
use Rattle.std.proofs.lemmas.Option.{same_Some}
use Rattle.lpc_base.specs.declared.birth.Birth.{Birth}
use Rattle.lpc_base.specs.declared.status.Status.{Status}
use Rattle.lpc_base.specs.declared.status.TheConstants.{SUCCESS}
use Rattle.lpc_model.specs.declared.entry.CallName.{CallName}
use Rattle.lpc_model.specs.declared.entry.Entry.{Entry}
use Rattle.lpc_model.specs.declared.entry.Entry.TheVariants.{Answer}
use Rattle.lpc_model.specs.declared.entry.Outcome.TheVariants.{Answered}
use Rattle.lpc_model.specs.Basics.{AddsHandle, AddsToken, Basic, DrawsOrdinal, basic, outcome_of}
use Rattle.lpc_model.specs.Fields.{h}
use Rattle.lpc_model.specs.Found.{free_handle, token_name}
use Rattle.lpc_model.specs.Impersonation.{TOKEN_ACCESS, new_token}
use Rattle.lpc_model.specs.Machine.{settled}
use Rattle.lpc_model.specs.Tests.{handle_row, next_birth}
use Rattle.lpc_model.specs.World.{Effective, ThreadRow, TokenRow, World}
use Rattle.lpc_procs.specs.declared.rows.Caller.{Caller}
use Rattle.lpc_imperson.specs.Calls.{HasCaller, opening}
use Rattle.lpc_rows.specs.Callers.{as_caller, shown_caller}
use Rattle.lpc_rows.specs.Clauses.{thread_row}
use Rattle.lpc_rows.specs.Does.{Left, left_by}

-- the birth that a caller draws is its next
pub drawn-birth : (w : World) (c : Caller) (b : Birth) → HasCaller w c → option_map next_birth (thread_row w c.number) ≡ Some b → b ≡ next_birth (shown_caller c)
drawn-birth w c b there drawn = same_Some b (next_birth (shown_caller c)) (sym drawn ∙ of_row (thread_row w c.number) there)
  where
    of_row : (o : Option ThreadRow) → option_map as_caller o ≡ Some c → option_map next_birth o ≡ Some (next_birth (shown_caller c))
    of_row None there = absurd (cc)
    of_row (Some t) there = ap (λ k. Some (next_birth (shown_caller k))) (same_Some (as_caller t) c there)

module _ (w : World) (es : List Entry) (l : Bool) (t : ThreadRow) (call : CallName) (content : Effective) where
  abbrev stood : World
  stood = basic (basic w (DrawsOrdinal t.number)) (AddsToken (new_token t content))

  pub opened : (drew made given : World) (row : TokenRow) (list : List Entry) (loose : Bool) (value : ℕ) (name : Birth)
      → drew ≡ basic w (DrawsOrdinal t.number) → made ≡ basic drew (AddsToken row) → row ≡ new_token t content
      → value ≡ free_handle made t.process → name ≡ next_birth t
      → given ≡ basic made (AddsHandle t.process (handle_row value (token_name name) TOKEN_ACCESS))
      → list ≡ es ++ Answer t.number call SUCCESS (h value ∷ []) ∷ [] → loose ≡ l
      → record { world = given; entries = list; loose = loose } ≡ left_by w es l (opening w t call content)
  opened drew new given row list loose value name draw add is least named give told kept =
      let new_is : new ≡ stood = add ∙ ap (λ (v : World). basic v (AddsToken row)) draw ∙ ap (λ (r : TokenRow). basic (basic w (DrawsOrdinal t.number)) (AddsToken r)) is in
      let value_is : value ≡ free_handle w t.process = least ∙ ap (λ (v : World). free_handle v t.process) new_is in
      let given_is : given ≡ basic stood (AddsHandle t.process (handle_row (free_handle w t.process) (token_name (next_birth t)) TOKEN_ACCESS)) =
      give ∙ ap (λ (v : World). basic v (AddsHandle t.process (handle_row value (token_name name) TOKEN_ACCESS))) new_is
      ∙ ap (λ (n : ℕ). basic stood (AddsHandle t.process (handle_row n (token_name name) TOKEN_ACCESS))) value_is
      ∙ ap (λ (b : Birth). basic stood (AddsHandle t.process (handle_row (free_handle w t.process) (token_name b) TOKEN_ACCESS))) named in
      let told_is : list ≡ es ++ Answer t.number call SUCCESS (h (free_handle w t.process) ∷ []) ∷ [] =
      told ∙ ap (λ (n : ℕ). es ++ Answer t.number call SUCCESS (h n ∷ []) ∷ []) value_is in
      λ i. record { world = given_is i; entries = told_is i; loose = kept i }

-- where the tests pass, the call's steps are those of a token that is opened, and it ends so
module _ (w : World) (es : List Entry) (l : Bool) (t : ThreadRow) (call : CallName) (content : Effective) (r : Result (List Basic) Status) (is : r ≡ Ok (opening w t call content)) where
  pub serves : (end : Left) → end ≡ left_by w es l (opening w t call content) → end ≡ left_by w es l (settled t call r)
  serves end does = does ∙ ap (λ q. left_by w es l (settled t call q)) (sym is)

  pub serves_outcome : Answered SUCCESS ≡ outcome_of (settled t call r)
  serves_outcome = ap (λ q. outcome_of (settled t call q)) (sym is)
