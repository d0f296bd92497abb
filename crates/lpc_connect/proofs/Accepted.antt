-- A connect that is accepted: it was received, and the steps as they are taken one by one are those of the definition.
use Rattle.std.proofs.Common.{◌≡◌, ℕ, Bool, List, [], ◌∷◌, ◌++◌, Option, None, Some, true, false, refl, ap, arith}
use Rattle.std.specs.List.{list_any}
use Rattle.lpc_base.specs.Rows.{first, has}
use Rattle.lpc_base.specs.declared.birth.Birth.{Birth}
use Rattle.lpc_base.specs.declared.status.TheConstants.{SUCCESS}
use Rattle.lpc_model.specs.declared.entry.CallName.TheVariants.{NtAcceptConnectPort}
use Rattle.lpc_model.specs.declared.entry.Entry.{Entry}
use Rattle.lpc_model.specs.declared.entry.Entry.TheVariants.{Answer}
use Rattle.lpc_model.specs.declared.entry.Field.{Field}
use Rattle.lpc_model.specs.Basics.{Accepts, AddsHandle, DrawsOrdinal, Joins, Makes, basic, world_after}
use Rattle.lpc_model.specs.Connect.{ConnectAnswer, accept_steps, server_port, shared_fields}
use Rattle.lpc_model.specs.Listed.{is_read}
use Rattle.lpc_model.specs.Offers.{SharedViews, acceptance, shared_steps}
use Rattle.lpc_model.specs.Found.{free_handle, is_offered, port_name, waits_as}
use Rattle.lpc_model.specs.Tests.{PORT_ACCESS, handle_row, next_birth}
use Rattle.lpc_model.specs.World.{Acceptance, PortRow, ThreadRow, ViewRow, WaitRow, World}
use Rattle.lpc_rows.specs.Does.{Left, left_by}
use Rattle.lpc_connect.specs.Calls.{accepting, shown_answer}
use Rattle.lpc_connect.specs.Sharing.{shown_sharing}
use Rattle.lpc_connect.specs.declared.accept.ConnectAnswer as answer
use Rattle.lpc_connect.specs.declared.accept.Sharing.{Sharing}
use Rattle.lpc_rows.specs.Kept.{Kept, is_pending_in, pends_as}
use Rattle.lpc_rows.specs.Shown.{Births}
use Rattle.lpc_rows.specs.Ready.{wait_in, waiter}

-- a connect that isn't accepted and isn't pending was received
received-among : (tid : ℕ) (xs : List WaitRow) → has (waits_as tid) xs ≡ true → is_offered (wait_in (first (waits_as tid) xs)) ≡ true → has (pends_as tid) xs ≡ false
    → let x : WaitRow = wait_in (first (waits_as tid) xs) in x.received ≡ true
received-among tid [] waits offered idle = absurd (cc)
received-among tid (x ∷ xs) waits offered idle = grind (arith, received-among tid xs)

pub received_when_idle : (w : World) (tid : ℕ) → has (waits_as tid) w.waits ≡ true → is_offered (waiter w tid) ≡ true → is_pending_in w tid ≡ false → let x : WaitRow = waiter w tid in x.received ≡ true
unfolding waiter
received_when_idle w tid waits offered idle = received-among tid w.waits waits offered idle

-- the server port is made, the views are mapped, the port gets a handle, the connect is accepted, and the ports are joined
module _ (w : World) (es : List Entry) (l : Bool) (t : ThreadRow) (context : ℕ) (a : ConnectAnswer) (drew made shared given taken after : World) (list : List Entry) (loose : Bool) (birth name queue client : Birth) (value thread : ℕ) (acceptance' : Acceptance) (fields : List Field)
    (draw : drew ≡ basic w (DrawsOrdinal t.number)) (make : made ≡ basic drew (Makes (server_port birth queue)))
    (give : given ≡ basic shared (AddsHandle t.process (handle_row value (port_name name) PORT_ACCESS)))
    (accept : taken ≡ basic given (Accepts thread acceptance')) (join : after ≡ basic taken (Joins client name context))
    (tell : list ≡ es ++ Answer t.number NtAcceptConnectPort SUCCESS fields ∷ []) (loosen : loose ≡ true)
    (least : value ≡ free_handle shared t.process) (named : name ≡ birth) (own : birth ≡ next_birth t) (at : queue ≡ a.wait.queue) (on : client ≡ a.wait.port) (of : thread ≡ a.wait.thread) where
  abbrev End : Left
  End = record { world = after; entries = list; loose = loose }

  abbrev Accepted : SharedViews → Type 0
  Accepted v =
      shared ≡ world_after made (shared_steps t a.wait v) → acceptance' ≡ acceptance a.message.body v → fields ≡ shared_fields value v
      → End ≡ left_by w es l (accept_steps t context (free_handle w t.process) a v)

  -- whichever views there are
  by-views : (one two three : Option ViewRow) → Accepted (record { own = one; theirs = two; across = three })
  by-views None None None map bytes told = rw (loosen, tell, told, join, accept, give, least, map, make, draw, named, own, at, on, of, bytes) refl
  by-views None None (Some c) map bytes told = rw (loosen, tell, told, join, accept, give, least, map, make, draw, named, own, at, on, of, bytes) refl
  by-views None (Some b) None map bytes told = rw (loosen, tell, told, join, accept, give, least, map, make, draw, named, own, at, on, of, bytes) refl
  by-views None (Some b) (Some c) map bytes told = rw (loosen, tell, told, join, accept, give, least, map, make, draw, named, own, at, on, of, bytes) refl
  by-views (Some o) None None map bytes told = rw (loosen, tell, told, join, accept, give, least, map, make, draw, named, own, at, on, of, bytes) refl
  by-views (Some o) None (Some c) map bytes told = rw (loosen, tell, told, join, accept, give, least, map, make, draw, named, own, at, on, of, bytes) refl
  by-views (Some o) (Some b) None map bytes told = rw (loosen, tell, told, join, accept, give, least, map, make, draw, named, own, at, on, of, bytes) refl
  by-views (Some o) (Some b) (Some c) map bytes told = rw (loosen, tell, told, join, accept, give, least, map, make, draw, named, own, at, on, of, bytes) refl

  pub accepted : (v : SharedViews) → Accepted v
  accepted v = by-views v.own v.theirs v.across

-- the views of a connection are mapped so in each world with the same sections
pub same-steps : (w u : Kept) (made : World) (t : ThreadRow) (x y : WaitRow) (server name : Birth) (v : Sharing) → y ≡ x → server ≡ name → (let n : Births = u.births in n.sections ≡ w.births.sections)
    → world_after made (shared_steps t y (shown_sharing u server y.port v)) ≡ world_after made (shared_steps t x (shown_sharing w name x.port v))
same-steps w u made t x y server name v same named sections = rw (same, named, sections) refl

-- an accept leaves the same from worlds that are alike but for the room
pub same-accept : (w u : Kept) (es : List Entry) (t : ThreadRow) (a : answer.ConnectAnswer) (context : ℕ) (v : Sharing) → u.rows ≡ w.rows → u.births ≡ w.births → u.loose ≡ w.loose
    → left_by u.rows es u.loose (accepting u t (shown_answer u.rows a) context v) ≡ left_by w.rows es w.loose (accepting w t (shown_answer w.rows a) context v)
same-accept w u es t a context v rows births loose =
    let x : WaitRow = waiter w.rows a.thread in
    let sharing : shown_sharing u (next_birth t) x.port v ≡ shown_sharing w (next_birth t) x.port v = rw (ap (λ (n : Births). n.sections) births) refl in
    rw (rows, loose) (ap (λ s. left_by w.rows es w.loose (accept_steps t context (free_handle w.rows t.process) (shown_answer w.rows a) s)) sharing)

-- a port more changes no wait
pub same-waiter : (w drew made : World) (who tid : ℕ) (p : PortRow) → drew ≡ basic w (DrawsOrdinal who) → made ≡ basic drew (Makes p) → waiter made tid ≡ waiter w tid
unfolding waiter
same-waiter w drew made who tid p draw make = rw (make, draw) refl

-- what an accept tells has no mark for bytes that are read
abbrev IsPlain : List Field → Type 0
IsPlain fields = list_any (λ (field : Field). is_read field.value) fields ≡ false

pub plain-fields : (value : ℕ) (v : SharedViews) → IsPlain (shared_fields value v)
plain-fields value v = by v.own v.theirs v.across
  where
    by : (one two three : Option ViewRow) → IsPlain (shared_fields value (record { own = one; theirs = two; across = three }))
    by None None None = refl
    by None None (Some c) = refl
    by None (Some b) None = refl
    by None (Some b) (Some c) = refl
    by (Some a) None None = refl
    by (Some a) None (Some c) = refl
    by (Some a) (Some b) None = refl
    by (Some a) (Some b) (Some c) = refl
