-- What comes of a server's call: by what its thread was told, whose marks stand for something aside.
use Rattle.std.proofs.Common.{◌≡◌, ℕ, List, [], ◌∷◌, ◌++◌, Option, Some, None, map, ap, sym, ◌∙◌}
use Rattle.lpc_base.specs.declared.status.Status.{Status}
use Rattle.lpc_model.specs.Listed.{Aside, shown_field}
use Rattle.lpc_model.specs.declared.entry.Field.{Field}
use Rattle.lpc_model.specs.declared.resident.ClientView.{ClientView}
use Rattle.lpc_model.specs.declared.resident.Connect.{Connect}
use Rattle.lpc_model.specs.declared.resident.Connection.{Connection}
use Rattle.lpc_model.specs.declared.resident.Deed.{Deed}
use Rattle.lpc_model.specs.declared.resident.Deed.TheVariants.{AnswersConnect, Closes, Completes, Receives, RepliesTo}
use Rattle.lpc_model.specs.Residents.{Resident, connected, deed_behind, handle_told, joined, received, resolved, told_first, view_told}
use Rattle.lpc_subsys.specs.Clients.{ClientRow}
use Rattle.lpc_residents.specs.Kept.{kept}
use Rattle.lpc_residents.specs.Turns.{behind_completion, with_deed}
use Rattle.lpc_residents.proofs.Told.{handle-shown, view-shown}

abbrev Server : Type 0
Server = Resident (List ClientRow)

module _ (r : Server) (status : Status) (aside : Aside) (fields : List Field) where
  abbrev shown : List Field
  shown = map (shown_field aside) fields

  -- a receive
  pub behind-receive : (deed : Deed) (message : Option (List ℕ)) → r.deed ≡ Receives → deed ≡ deed_behind r.connections message → message ≡ received shown → with_deed deed r ≡ resolved kept r.deed status shown r
  behind-receive deed message is next told =
      ap (λ (d : Deed). with_deed d r) (next ∙ ap (deed_behind r.connections) told)
      ∙ sym (ap (λ (d : Deed). resolved kept d status shown r) is)

  pub behind-reply : (request : List ℕ) (deed : Deed) (message : Option (List ℕ)) → r.deed ≡ RepliesTo request → deed ≡ deed_behind r.connections message → message ≡ received shown → with_deed deed r ≡ resolved kept r.deed status shown r
  behind-reply request deed message is next told =
      ap (λ (d : Deed). with_deed d r) (next ∙ ap (deed_behind r.connections) told)
      ∙ sym (ap (λ (d : Deed). resolved kept d status shown r) is)

  -- an answer to a connect: it was refused, or its connection stands
  pub behind-refusal : (by : Connect) → r.deed ≡ AnswersConnect by → None ≡ told_first handle_told fields → with_deed Receives r ≡ resolved kept r.deed status shown r
  behind-refusal by is none =
      ap (λ (o : Option ℕ). connected kept by o (view_told shown) r) (none ∙ sym (handle-shown aside fields))
      ∙ sym (ap (λ (d : Deed). resolved kept d status shown r) is)

  pub behind-acceptance : (by : Connect) (handle : ℕ) (view : Option ClientView) (connections : List Connection) (rows : List ClientRow)
      → r.deed ≡ AnswersConnect by → Some handle ≡ told_first handle_told fields → view ≡ view_told fields
      → connections ≡ r.connections ++ record { connect = by; handle = handle; view = view } ∷ []
      → rows ≡ joined kept by.client.process r.connections r.clients
      → with_deed (Completes (record { connect = by; handle = handle; view = view })) (record r { connections = connections; clients = rows }) ≡ resolved kept r.deed status shown r
  behind-acceptance by handle view connections rows is told seen stand join =
      let k : Connection = record { connect = by; handle = handle; view = view } in
      ap (λ (ks : List Connection). with_deed (Completes k) (record r { connections = ks; clients = rows })) stand
      ∙ ap (λ (c : List ClientRow). with_deed (Completes k) (record r { connections = r.connections ++ k ∷ []; clients = c })) join
      ∙ ap (λ (o : Option ℕ). connected kept by o view r) (told ∙ sym (handle-shown aside fields))
      ∙ ap (λ (v : Option ClientView). connected kept by (told_first handle_told shown) v r) (seen ∙ sym (view-shown aside fields))
      ∙ sym (ap (λ (d : Deed). resolved kept d status shown r) is)

  -- a completion, and a close
  pub behind-completion : (k : Connection) → r.deed ≡ Completes k → with_deed (behind_completion status k) r ≡ resolved kept r.deed status shown r
  behind-completion k is = sym (ap (λ (d : Deed). resolved kept d status shown r) is)

  pub behind-close : (k : Connection) → r.deed ≡ Closes k → with_deed Receives r ≡ resolved kept r.deed status shown r
  behind-close k is = sym (ap (λ (d : Deed). resolved kept d status shown r) is)
