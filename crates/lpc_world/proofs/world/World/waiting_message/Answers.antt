use Rattle.std.proofs.Common.{◌≡◌, List, ℕ, Bool, true, false, Option, Some, None, option_map, refl, ap, sym, ◌∙◌}
use Rattle.lpc_model.specs.Found.{is_request}
use Rattle.lpc_model.specs.Message.{message_of}
use Rattle.lpc_model.specs.World as model
use Rattle.lpc_model.specs.World.{Request}
use Rattle.lpc_waits.specs.Table.{WaitingThread, row_of}
use Rattle.lpc_waits.specs.Table as table
use Rattle.lpc_waits.specs.declared.Accepted.{Accepted}
use Rattle.lpc_waits.specs.declared.WaitKind.{WaitKind}
use Rattle.lpc_waits.specs.declared.WaitKind.TheVariants as wait
use Rattle.lpc_rows.specs.Kept.{rows_by}
use Rattle.lpc_rows.specs.Ready.{waiter}
use Rattle.lpc_rows.specs.Shown.{AreNamed, Tables, birth_of, births_of, shown_kind, shown_offer, tables_of}
use Rattle.lpc_rows.proofs.Connecting as connecting
use Rattle.lpc_rows.proofs.Readings as readings
use Rattle.lpc_world.proofs.world.World.waiting_message.Goals as goal

abbrev asks : model.WaitKind → Bool
asks k = elim k [ Request m ↦ true | _ ↦ false ]

no : {A : Type 0} → false ≡ true → A
no h = absurd (cc)

-- a wait of a kind that is a request's keeps these bytes as its message
kept : (kind : WaitKind) (bytes : List ℕ) (offer : Option model.Offer) (accepted : Option Accepted) → asks (shown_kind kind bytes offer accepted) ≡ true → shown_kind kind bytes offer accepted ≡ Request (message_of bytes)
kept wait.Request bytes offer accepted ok = refl
kept wait.Receive bytes offer accepted ok = no ok
kept wait.Listen bytes offer accepted ok = no ok
kept wait.Connect bytes offer None ok = no ok
kept wait.Connect bytes offer (Some a) ok = no ok
kept (wait.Event r) bytes offer accepted ok = no ok

kept_in : (it : Tables) → AreNamed (births_of it) it → (tid : ℕ) (bytes : List ℕ) → table.message_of it.waits tid ≡ Some bytes
    → is_request (waiter (rows_by it) tid) ≡ true → (waiter (rows_by it) tid).kind ≡ Request (message_of bytes)
kept_in it named tid bytes at ok =
    let held = readings.holds (λ (r : WaitingThread). r.message.items) (row_of it.waits tid) bytes at in
    let offer : Option model.Offer = option_map (shown_offer (birth_of (births_of it))) held.row.offer in
    let shown : (waiter (rows_by it) tid).kind ≡ shown_kind held.row.wait.kind bytes offer held.row.accepted =
    ap (λ (x : model.WaitRow). x.kind) (readings.wait_is it named tid held.row held.found) ∙ ap (λ bs. shown_kind held.row.wait.kind bs offer held.row.accepted) held.is in
    shown ∙ kept held.row.wait.kind bytes offer held.row.accepted (sym (ap asks shown) ∙ ok)

pub message-requires : goal.message-requires
message-requires c = record { waits = connecting.has_its_row (tables_of c.self.inside.procs c.self.inside.parts.items c.self.inside.ports c.self.inside.waits c.self.inside.names c.self.inside.sections c.self.inside.tokens c.self.inside.token_names c.self.inside.marks) c.self.invariant.kept.named c.args.tid (rw (← c.self.view_is) at c.requires) }

pub returns : goal.returns
returns c = rw (← c.self.view_is) (record { request = kept_in (tables_of c.self.inside.procs c.self.inside.parts.items c.self.inside.ports c.self.inside.waits c.self.inside.names c.self.inside.sections c.self.inside.tokens c.self.inside.token_names c.self.inside.marks) c.self.invariant.kept.named c.args.tid c.message.result.now c.message.ensures.value })
