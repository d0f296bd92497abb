-- A run whose residents keep what requests come to goes as the run whose residents keep the requests.
use Rattle.std.proofs.Common.{◌≡◌, ◌&&◌, ℕ, Bool, true, false, cond, not, List, [], ◌∷◌, ◌++◌, Option, Some, None, map, fold, refl, ap, sym, ◌∙◌, is_some, option_map}
use Rattle.lpc_base.specs.Rows.{change, first, has, without}
use Rattle.lpc_base.specs.declared.status.Status.{Status}
use Rattle.lpc_base.proofs.RowMaps.{push-map}
use Rattle.lpc_message.specs.Layout.{header_of}
use Rattle.lpc_subsys.specs.Clients.{ClientRow, History, after_request, client_of, is_client, is_of, reply_after, reply_in, with_client, with_request, without_client}
use Rattle.lpc_subsys.specs.Requests.{Request, asked}
use Rattle.lpc_subsys.proofs.Kept.{goes-on, tells-reply}
use Rattle.lpc_model.specs.declared.entry.Entry.{Entry}
use Rattle.lpc_model.specs.declared.entry.Entry.TheVariants as entry
use Rattle.lpc_model.specs.declared.entry.Field.{Field}
use Rattle.lpc_model.specs.declared.resident.ClientView.{ClientView}
use Rattle.lpc_model.specs.declared.resident.Connect.{Connect}
use Rattle.lpc_model.specs.declared.resident.Connection.{Connection}
use Rattle.lpc_model.specs.declared.resident.Deed.{Deed}
use Rattle.lpc_model.specs.declared.resident.Deed.TheVariants.{AnswersConnect, Closes, Completes, Receives, RepliesTo}
use Rattle.lpc_model.specs.World.{World}
use Rattle.lpc_model.specs.Found.{live_thread}
use Rattle.lpc_model.specs.Lines.{ScriptLine, boot, dir, hosts, link, moves, of_resident, run, thread, token}
use Rattle.lpc_model.specs.Residents.{Resident, State, begun, begun_by, call_for, can_call, connected, heard, heard_by, heard_in_turn, hosted, is_made_by, is_on, is_with, line_done, new_resident, request_now, residents_behind, resolved, turn_done, turning, win32}
use Rattle.lpc_model.specs.Run.{done_from, line_step, residents_told, said_done, state_behind}
use Rattle.lpc_residents.specs.Kept.{KeptStandsForRequests, kept, reply_kept, resident_kept, state_kept}
use Rattle.lpc_residents.proofs.Maps.{change-map, first-map, fold-map, has-map, without-map}

abbrev Listed : Type 0
Listed = Resident (List History)

abbrev all_kept : List Listed → List (Resident (List ClientRow))
all_kept rs = map resident_kept rs

-- Clients
reply_same : (o : Option History) (request : Request) → reply_after o request ≡ reply_kept (option_map client_of o) request
reply_same None request = refl
reply_same (Some history) request = sym (tells-reply history request)

pub replies-same : (all : List History) (process : ℕ) (request : Request) → reply_in all process request ≡ reply_kept (first (is_client process) (map client_of all)) request
replies-same all process request =
    reply_same (first (is_of process) all) request
    ∙ ap (λ o. reply_kept o request) (sym (first-map client_of (is_of process) (is_client process) (λ h. refl) all))

pub answers-same : (all : List History) (process : ℕ) (request : Request) → kept.answers process request (map client_of all) ≡ map client_of (with_request process request all)
answers-same all process request =
    change-map client_of (is_of process) (is_client process) (λ h. record h { requests = h.requests ++ request ∷ [] }) (λ row. after_request row (asked request)) (λ h. refl) (λ h. sym (goes-on h request)) all

joined-same : (b : Bool) (all : List History) (process : ℕ) → cond b (map client_of all) (kept.joins process (map client_of all)) ≡ map client_of (cond b all (with_client process all))
joined-same true all process = refl
joined-same false all process = sym (push-map client_of all (record { process = process; requests = [] }))

left-same : (b : Bool) (all : List History) (process : ℕ) → cond b (map client_of all) (kept.leaves process (map client_of all)) ≡ map client_of (cond b all (without_client process all))
left-same true all process = refl
left-same false all process = without-map client_of (is_of process) (is_client process) (λ h. refl) all

-- One resident
call-same : (w : World) (r : Listed) (deed : Deed) → call_for win32 w r deed ≡ call_for kept w (resident_kept r) deed
call-same w r Receives = refl
call-same w r (AnswersConnect by) = refl
call-same w r (Completes k) = refl
call-same w r (Closes k) = refl
call-same w r (RepliesTo message) = rw (replies-same r.clients (header_of message).client.process (request_now w r message)) refl

begun-same : (w : World) (r : Listed) (deed : Deed) → begun_by kept w deed (resident_kept r) ≡ resident_kept (begun_by win32 w deed r)
begun-same w r Receives = refl
begun-same w r (AnswersConnect by) = refl
begun-same w r (Completes k) = refl
begun-same w r (Closes k) =
    let others = without (is_made_by k.connect) r.connections in
    let process = k.connect.client.process in
    ap (λ clients. record { thread = r.thread; handle = r.handle; deed = r.deed; awaits = true; connections = others; clients = clients })
    (left-same (has (is_with process) others) r.clients process)
begun-same w r (RepliesTo message) =
    ap (λ clients. record { thread = r.thread; handle = r.handle; deed = r.deed; awaits = true; connections = r.connections; clients = clients })
    (answers-same r.clients (header_of message).client.process (request_now w r message))

connected-same : (by : Connect) (o : Option ℕ) (view : Option ClientView) (r : Listed) → connected kept by o view (resident_kept r) ≡ resident_kept (connected win32 by o view r)
connected-same by None view r = refl
connected-same by (Some handle) view r =
    let k : Connection = record { connect = by; handle = handle; view = view } in
    ap (λ clients. record { thread = r.thread; handle = r.handle; deed = Completes k; awaits = false; connections = r.connections ++ k ∷ []; clients = clients })
    (joined-same (has (is_with by.client.process) r.connections) r.clients by.client.process)

resolved-same : (deed : Deed) (status : Status) (fields : List Field) (r : Listed) → resolved kept deed status fields (resident_kept r) ≡ resident_kept (resolved win32 deed status fields r)
resolved-same Receives status fields r = refl
resolved-same (AnswersConnect by) status fields r = connected-same by _ _ r
resolved-same (Completes k) status fields r = refl
resolved-same (Closes k) status fields r = refl
resolved-same (RepliesTo message) status fields r = refl

-- All residents
outcome-same : (tid : ℕ) (status : Status) (fields : List Field) (rs : List Listed)
    → change (is_on tid) (heard_by kept status fields) (all_kept rs) ≡ all_kept (change (is_on tid) (heard_by win32 status fields) rs)
outcome-same tid status fields rs =
    change-map resident_kept (is_on tid) (is_on tid) (heard_by win32 status fields) (heard_by kept status fields) (λ r. refl) (λ r. at r r.awaits) rs
  where
    at : (r : Listed) (b : Bool) → cond b (resolved kept r.deed status fields (resident_kept r)) (resident_kept r) ≡ resident_kept (cond b (resolved win32 r.deed status fields r) r)
    at r true = resolved-same r.deed status fields r
    at r false = refl

heard-same : (rs : List Listed) (e : Entry) → heard kept (all_kept rs) e ≡ all_kept (heard win32 rs e)
heard-same rs (entry.Wakes tid call status fields) = outcome-same tid status fields rs
heard-same rs (entry.Answer tid call status fields) = refl
heard-same rs (entry.Waits tid call fields) = refl
heard-same rs (entry.Busy tid) = refl
heard-same rs (entry.NoThread tid) = refl
heard-same rs (entry.Died tid status) = refl
heard-same rs (entry.Directive name status) = refl

turn-same : (rs : List Listed) (e : Entry) → heard_in_turn kept (all_kept rs) e ≡ all_kept (heard_in_turn win32 rs e)
turn-same rs (entry.Answer tid call status fields) = outcome-same tid status fields rs
turn-same rs (entry.Wakes tid call status fields) = outcome-same tid status fields rs
turn-same rs (entry.Waits tid call fields) = refl
turn-same rs (entry.Busy tid) = refl
turn-same rs (entry.NoThread tid) = refl
turn-same rs (entry.Died tid status) = refl
turn-same rs (entry.Directive name status) = refl

-- Lines
has-same : (tid : ℕ) (rs : List Listed) → has (is_on tid) (all_kept rs) ≡ has (is_on tid) rs
has-same tid rs = has-map resident_kept (is_on tid) (is_on tid) (λ r. refl) rs

turn_done-same : (w : World) (tid : ℕ) (can : Bool) (o : Option Listed) → turn_done win32 w tid can o ≡ turn_done kept w tid can (option_map resident_kept o)
turn_done-same w tid can None = refl
turn_done-same w tid true (Some r) = ap (λ call. run tid call) (call-same w r r.deed)
turn_done-same w tid false (Some r) = refl

line-same : (s : State (List History)) (line : ScriptLine) → line_done win32 s line ≡ line_done kept (state_kept s) line
line-same s (of_resident tid (hosts kind handle) had) = ap (λ b. of_resident tid (hosts kind handle) b) (sym (has-same tid s.residents))
line-same s (of_resident tid moves had) =
    turn_done-same s.world tid (can_call s.world tid) (first (is_on tid) s.residents)
    ∙ ap (λ o. turn_done kept s.world tid (can_call s.world tid) o) (sym (first-map resident_kept (is_on tid) (is_on tid) (λ r. refl) s.residents))
line-same s (boot pid tid name) = refl
line-same s (thread tid pid) = refl
line-same s (token name content) = refl
line-same s (dir path) = refl
line-same s (link path target) = refl
line-same s (run tid call) = refl

said-same : (s : State (List History)) (said : Option ScriptLine) → said_done win32 s said ≡ said_done kept (state_kept s) said
said-same s None = refl
said-same s (Some line) = ap (λ l. Some l) (line-same s line)

turning-same : (s : State (List History)) (tid : ℕ) (can : Bool)
    → cond can (change (is_on tid) (begun kept s.world) (all_kept s.residents)) (all_kept s.residents) ≡ all_kept (cond can (change (is_on tid) (begun win32 s.world) s.residents) s.residents)
turning-same s tid true = change-map resident_kept (is_on tid) (is_on tid) (begun win32 s.world) (begun kept s.world) (λ r. refl) (λ r. begun-same s.world r r.deed) s.residents
turning-same s tid false = refl

hosted-same : (b : Bool) (tid handle : ℕ) (rs : List Listed) → cond b (all_kept rs ++ new_resident kept tid handle ∷ []) (all_kept rs) ≡ all_kept (cond b (rs ++ new_resident win32 tid handle ∷ []) rs)
hosted-same true tid handle rs = sym (push-map resident_kept rs (new_resident win32 tid handle))
hosted-same false tid handle rs = refl

all-heard : (rs : List Listed) (entries : List Entry) → fold (heard kept) (all_kept rs) entries ≡ all_kept (fold (heard win32) rs entries)
all-heard rs entries = fold-map all_kept (heard win32) (heard kept) heard-same rs entries

behind-same : (s : State (List History)) (line : ScriptLine) (entries : List Entry) → residents_behind kept (state_kept s) line entries ≡ all_kept (residents_behind win32 s line entries)
behind-same s (of_resident tid (hosts kind handle) had) entries =
    ap (λ rs. hosted kept (state_kept s) (of_resident tid (hosts kind handle) had) rs) (all-heard s.residents entries)
    ∙ ap (λ b. cond (is_some (live_thread s.world tid) && not b) (all_kept (fold (heard win32) s.residents entries) ++ new_resident kept tid handle ∷ []) (all_kept (fold (heard win32) s.residents entries))) (has-same tid s.residents)
    ∙ hosted-same (is_some (live_thread s.world tid) && not (has (is_on tid) s.residents)) tid handle (fold (heard win32) s.residents entries)
behind-same s (of_resident tid moves had) entries =
    ap (λ rs. fold (heard_in_turn kept) rs entries) (turning-same s tid (can_call s.world tid))
    ∙ fold-map all_kept (heard_in_turn win32) (heard_in_turn kept) turn-same (turning win32 s (of_resident tid moves had)) entries
behind-same s (boot pid tid name) entries = all-heard s.residents entries
behind-same s (thread tid pid) entries = all-heard s.residents entries
behind-same s (token name content) entries = all-heard s.residents entries
behind-same s (dir path) entries = all-heard s.residents entries
behind-same s (link path target) entries = all-heard s.residents entries
behind-same s (run tid call) entries = all-heard s.residents entries

told-same : (s : State (List History)) (said : Option ScriptLine) (entries : List Entry) → residents_told kept (state_kept s) said entries ≡ all_kept (residents_told win32 s said entries)
told-same s None entries = refl
told-same s (Some line) entries = behind-same s line entries

state-same : (s : State (List History)) (said : Option ScriptLine) → state_kept (state_behind win32 s said) ≡ state_behind kept (state_kept s) said
state-same s said =
    ap (λ done. record { world = (line_step s.world done).world; residents = all_kept (residents_told win32 s said (line_step s.world done).entries) }) (said-same s said)
    ∙ ap (λ rs. record { world = (line_step s.world (said_done kept (state_kept s) said)).world; residents = rs }) (sym (told-same s said (line_step s.world (said_done kept (state_kept s) said)).entries))

pub kept-stands : KeptStandsForRequests
kept-stands s [] = refl
kept-stands s (said ∷ later) =
    ap (λ done. done ∷ done_from win32 (state_behind win32 s said) later) (said-same s said)
    ∙ ap (λ lines. said_done kept (state_kept s) said ∷ lines) (kept-stands (state_behind win32 s said) later ∙ ap (λ t. done_from kept t later) (state-same s said))
