-- The turn of a server that replies.
use Rattle.std.proofs.Common.{◌≡◌, true, ℕ, List, Option, Some, drop, ap, sym, ◌∙◌}
use Rattle.std.specs.Prelude.{option_and_then}
use Rattle.lpc_message.specs.Layout.{header_of}
use Rattle.lpc_model.specs.World.{World}
use Rattle.lpc_model.specs.Lines.{reply_wait_receive_port}
use Rattle.lpc_model.specs.Residents.{Resident, begun, begun_by, bytes_of_client, bytes_seen, call_for, next_call, reply_message_to, request_now}
use Rattle.lpc_model.specs.declared.resident.Deed.TheVariants.{RepliesTo}
use Rattle.lpc_subsys.specs.Clients.{ClientRow}
use Rattle.lpc_subsys.specs.Requests.{Request, request_of}
use Rattle.lpc_residents.specs.Kept.{kept}
use Rattle.lpc_residents.specs.Turns.{bytes_wanted, view_for}

abbrev pub Server : Type 0
Server = Resident (List ClientRow)

-- the bytes that are lent to it are those that it sees of the client's view
pub request-given : (w : World) (r : Server) (message : List ℕ) (given : Option (List ℕ)) → r.deed ≡ RepliesTo message → given ≡ bytes_wanted w r → request_of (drop 24 message) given ≡ request_now w r message
unfolding bytes_of_client
request-given w r message given deed is =
    ap (request_of (drop 24 message)) (is ∙ ap (λ d. option_and_then (bytes_seen w r.thread) (view_for d r.connections)) deed)

pub begun-reply : (w : World) (r : Server) (message : List ℕ) (given : Option (List ℕ)) (rows : List ClientRow) → r.deed ≡ RepliesTo message → given ≡ bytes_wanted w r
    → rows ≡ kept.answers (header_of message).client.process (request_of (drop 24 message) given) r.clients
    → record r { awaits = true; clients = rows } ≡ begun kept w r
begun-reply w r message given rows deed is answered =
    let pid = (header_of message).client.process in
    ap (λ (c : List ClientRow). record r { awaits = true; clients = c }) (answered ∙ ap (λ (q : Request). kept.answers pid q r.clients) (request-given w r message given deed is))
    ∙ sym (ap (λ d. begun_by kept w d r) deed)

pub call-reply : (w : World) (r : Server) (message : List ℕ) (given : Option (List ℕ)) (items : List ℕ) → r.deed ≡ RepliesTo message → given ≡ bytes_wanted w r
    → items ≡ reply_message_to message (kept.replies r.clients (header_of message).client.process (request_of (drop 24 message) given))
    → reply_wait_receive_port r.handle (Some items) ≡ next_call kept w r
call-reply w r message given items deed is written =
    let pid = (header_of message).client.process in
    ap (λ (bytes : List ℕ). reply_wait_receive_port r.handle (Some bytes)) (written ∙ ap (λ (q : Request). reply_message_to message (kept.replies r.clients pid q)) (request-given w r message given deed is))
    ∙ sym (ap (λ d. call_for kept w r d) deed)
