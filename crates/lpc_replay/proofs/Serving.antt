-- What a line comes to where servers sit on threads.
use Rattle.std.proofs.Common.{◌≡◌, ℕ, Bool, true, false, List, [], ◌∷◌, ◌++◌, Option, Some, None, cond, fold, is_some, option_map, ap, sym, subst, refl, ◌∙◌}
use Rattle.std.specs.Prelude.{◌&&◌, ◌==◌, if◌then◌else◌, is_none, not, option_and_then}
use Rattle.std.proofs.lemmas.Bool.{eqb-true}
use Rattle.lpc_base.specs.Rows.{change, first, has}
use Rattle.lpc_base.specs.declared.status.Status.{Status}
use Rattle.lpc_base.specs.declared.status.TheConstants.{INVALID_CID, SUCCESS}
use Rattle.lpc_base.proofs.RowWords.{change-none, first-passes}
use Rattle.lpc_subsys.specs.Clients.{ClientRow}
use Rattle.lpc_model.specs.Basics.{Tells, entries_of, world_after}
use Rattle.lpc_model.specs.declared.entry.Entry.{Entry}
use Rattle.lpc_model.specs.declared.entry.Entry.TheVariants.{Busy, Directive}
use Rattle.lpc_model.specs.declared.entry.Word.TheVariants as word
use Rattle.lpc_model.specs.declared.line.Kind.{Kind}
use Rattle.lpc_model.specs.declared.line.Line.{Line}
use Rattle.lpc_model.specs.declared.line.Line.TheVariants as said
use Rattle.lpc_model.specs.declared.resident.ClientView.{ClientView}
use Rattle.lpc_model.specs.Grammar.{has_call_ids}
use Rattle.lpc_model.specs.Found.{live_thread, wait_of}
use Rattle.lpc_model.specs.Lines.{ResidentLine, ScriptCall, ScriptLine, boot, dir, hosts, line_of, link, moves, of_resident, run, thread, token}
use Rattle.lpc_model.specs.Linked.{HasHeldRows}
use Rattle.lpc_model.specs.Machine.{hosting_status, idle_entry, own_steps, resident_entry, step, steps}
use Rattle.lpc_model.specs.Residents.{Resident, begun, bytes_seen, can_call, heard_in_turn, is_on, new_resident, next_call, turn_done}
use Rattle.lpc_model.specs.Run.{line_step, said_done, state_behind}
use Rattle.lpc_model.specs.Settle.{IsSettled}
use Rattle.lpc_model.specs.World.{ThreadRow, WaitRow, World}
use Rattle.lpc_machine.specs.Condition.{condition_by, condition_of}
use Rattle.lpc_machine.specs.declared.reading.Condition.TheVariants.{Absent, Ready, Waits}
use Rattle.lpc_residents.specs.Kept.{heard_in, kept, state_of}
use Rattle.lpc_residents.specs.declared.resident.OwnCall.{OwnCall}
use Rattle.lpc_residents.specs.declared.resident.OwnCall.TheVariants.{Answers, Closes, Completes, Receives, Replies}
use Rattle.lpc_residents.specs.Turns.{bytes_wanted, bytes_wanted_on, own_call, view_wanted}
use Rattle.lpc_rows.specs.Clauses.{bytes_through}
use Rattle.lpc_world.specs.Lent.{view_of_thread}
use Rattle.lpc_replay.proofs.Refusing.{one_step}

abbrev pub Server : Type 0
Server = Resident (List ClientRow)

-- A world between two lines: nothing is left to settle, and some row counts for each object.
abbrev pub AtRest : World → Type 0
AtRest w = IsSettled w × HasHeldRows w

-- A line about a server tells one entry, and leaves the rows.
resident_steps : (w : World) (tid : ℕ) (what : ResidentLine) (had : Bool) → AtRest w → steps (of_resident tid what had) w ≡ Tells (resident_entry w tid what had) ∷ []
unfolding own_steps
resident_steps w tid what had rest = one_step w (of_resident tid what had) (resident_entry w tid what had) rest.0 rest.1 refl

resident_stays : (w : World) (tid : ℕ) (what : ResidentLine) (had : Bool) → AtRest w → (let e = step w (of_resident tid what had) in e.world) ≡ w
resident_stays w tid what had rest = ap (world_after w) (resident_steps w tid what had rest)

resident_tells : (w : World) (tid : ℕ) (what : ResidentLine) (had : Bool) → AtRest w → (let e = step w (of_resident tid what had) in e.entries) ≡ resident_entry w tid what had ∷ []
resident_tells w tid what had rest = ap entries_of (resident_steps w tid what had rest)

-- Every other line is what it says, and the servers hear of it as of no turn.
abbrev pub IsPlain : ScriptLine → Type 0
IsPlain (of_resident tid what had) = ⊥
IsPlain line = Unit

pub is_plain : (line : Line) → ((tid : ℕ) (kind : Kind) (handle : ℕ) → line ≡ said.Resident tid kind handle → ⊥) → ((tid : ℕ) → line ≡ said.Turn tid → ⊥) → IsPlain (line_of line)
is_plain (said.Boot pid tid name) comes turns = tt
is_plain (said.Thread tid pid) comes turns = tt
is_plain (said.Token name content) comes turns = tt
is_plain (said.Dir path) comes turns = tt
is_plain (said.Link path target) comes turns = tt
is_plain (said.Resident tid kind handle) comes turns = comes tid kind handle refl
is_plain (said.Turn tid) comes turns = turns tid refl
is_plain (said.Run tid call) comes turns = tt

pub plain_done : (w : World) (rs : List Server) (line : ScriptLine) → IsPlain line → said_done kept (state_of w rs) (Some line) ≡ Some line
plain_done w rs (boot pid tid name) plain = refl
plain_done w rs (thread tid pid) plain = refl
plain_done w rs (token name content) plain = refl
plain_done w rs (dir path) plain = refl
plain_done w rs (link path target) plain = refl
plain_done w rs (of_resident tid what had) plain = absurd plain
plain_done w rs (run tid call) plain = refl

pub plain_heard : (w : World) (rs : List Server) (line : ScriptLine) → IsPlain line → (state_behind kept (state_of w rs) (Some line)).residents ≡ heard_in kept false rs (step w line).entries
plain_heard w rs (boot pid tid name) plain = refl
plain_heard w rs (thread tid pid) plain = refl
plain_heard w rs (token name content) plain = refl
plain_heard w rs (dir path) plain = refl
plain_heard w rs (link path target) plain = refl
plain_heard w rs (of_resident tid what had) plain = absurd plain
plain_heard w rs (run tid call) plain = refl

pub plain_world : (w : World) (rs : List Server) (line : ScriptLine) → IsPlain line → (step w line).world ≡ (state_behind kept (state_of w rs) (Some line)).world
plain_world w rs line plain = ap (λ done. (line_step w done).world) (sym (plain_done w rs line plain))

pub plain_told : (w : World) (rs : List Server) (line : ScriptLine) → IsPlain line → (step w line).entries ≡ (line_step w (said_done kept (state_of w rs) (Some line))).entries
plain_told w rs line plain = ap (λ done. (line_step w done).entries) (sym (plain_done w rs line plain))

-- A server that comes
abbrev Hosts : ℕ → Kind → ℕ → ScriptLine
Hosts tid kind handle = of_resident tid (hosts kind handle) false

pub host_world : (w : World) (rs : List Server) (tid : ℕ) (kind : Kind) (handle : ℕ) → AtRest w → (state_behind kept (state_of w rs) (Some (Hosts tid kind handle))).world ≡ w
host_world w rs tid kind handle rest = resident_stays w tid (hosts kind handle) (has (is_on tid) rs) rest

pub host_told : (w : World) (rs : List Server) (tid : ℕ) (kind : Kind) (handle : ℕ) → AtRest w → (line_step w (said_done kept (state_of w rs) (Some (Hosts tid kind handle)))).entries ≡ resident_entry w tid (hosts kind handle) (has (is_on tid) rs) ∷ []
host_told w rs tid kind handle rest = resident_tells w tid (hosts kind handle) (has (is_on tid) rs) rest

pub host_tells : (w : World) (rs : List Server) (tid : ℕ) (kind : Kind) (handle : ℕ) (list old : List Entry) (status : Status) (had : Bool) → AtRest w → old ≡ [] → list ≡ old ++ Directive word.Resident status ∷ [] → status ≡ hosting_status (live_thread w tid) had → had ≡ has (is_on tid) rs → list ≡ (line_step w (said_done kept (state_of w rs) (Some (Hosts tid kind handle)))).entries
unfolding resident_entry
host_tells w rs tid kind handle list old status had rest empty pushed answered is =
    pushed ∙ (ap (λ (es : List Entry). es ++ Directive word.Resident status ∷ []) empty
    ∙ (ap (λ (s : Status). Directive word.Resident s ∷ []) (answered ∙ ap (λ b. hosting_status (live_thread w tid) b) is) ∙ sym (host_told w rs tid kind handle rest)))

-- the servers behind the line
abbrev pub hosted_when : Bool → ℕ → ℕ → List Server → List Server
hosted_when comes tid handle rs = if comes then rs ++ new_resident kept tid handle ∷ [] else rs

pub host_residents : (w : World) (rs : List Server) (tid : ℕ) (kind : Kind) (handle : ℕ) → AtRest w → (state_behind kept (state_of w rs) (Some (Hosts tid kind handle))).residents ≡ hosted_when (is_some (live_thread w tid) && not (has (is_on tid) rs)) tid handle rs
unfolding resident_entry
host_residents w rs tid kind handle rest =
    ap (λ es. hosted_when (is_some (live_thread w tid) && not (has (is_on tid) rs)) tid handle (heard_in kept false rs es)) (host_told w rs tid kind handle rest)

-- it comes where it is answered that it does
comes_by : (o : Option ThreadRow) (had : Bool) (answer : Status) → answer ≡ hosting_status o had → (answer.0 == SUCCESS.0) ≡ (is_some o && not had)
comes_by None had answer is = rw is refl
comes_by (Some t) true answer is = rw is refl
comes_by (Some t) false answer is = rw is refl

pub host_comes : (w : World) (rs : List Server) (tid : ℕ) (kind : Kind) (handle : ℕ) (status : Status) (had comes : Bool) → AtRest w → status ≡ hosting_status (live_thread w tid) had → had ≡ has (is_on tid) rs → comes ≡ (status.0 == SUCCESS.0) → hosted_when comes tid handle rs ≡ (state_behind kept (state_of w rs) (Some (Hosts tid kind handle))).residents
host_comes w rs tid kind handle status had comes rest answered is test =
    ap (λ b. hosted_when b tid handle rs) (test ∙ (comes_by (live_thread w tid) had status answered ∙ ap (λ b. is_some (live_thread w tid) && not b) is))
    ∙ sym (host_residents w rs tid kind handle rest)

-- A turn
abbrev Turn : ℕ → ScriptLine
Turn tid = of_resident tid moves false

-- one that makes no call tells one entry, and leaves the rows and the servers
pub record IsIdleTurn (w : World) (rs : List Server) (tid : ℕ) (had : Bool) : Type 0 where
  pub world : (state_behind kept (state_of w rs) (Some (Turn tid))).world ≡ w
  pub told : (line_step w (said_done kept (state_of w rs) (Some (Turn tid)))).entries ≡ idle_entry tid (live_thread w tid) had ∷ []
  pub residents : (state_behind kept (state_of w rs) (Some (Turn tid))).residents ≡ rs

idle_heard : (rs : List Server) (tid : ℕ) (o : Option ThreadRow) (had : Bool) → heard_in_turn kept rs (idle_entry tid o had) ≡ rs
idle_heard rs tid None had = refl
idle_heard rs tid (Some t) false = refl
idle_heard rs tid (Some t) true = refl

idle_turn : (w : World) (rs : List Server) (tid : ℕ) (had : Bool) → AtRest w → turn_done kept w tid (can_call w tid) (first (is_on tid) rs) ≡ of_resident tid moves had → cond (can_call w tid) (change (is_on tid) (begun kept w) rs) rs ≡ rs → IsIdleTurn w rs tid had
unfolding resident_entry
idle_turn w rs tid had rest done stay =
    let tells = ap (λ line. (step w line).entries) done ∙ resident_tells w tid moves had rest in
    record {
      world = ap (λ line. (step w line).world) done ∙ resident_stays w tid moves had rest;
      told = tells;
      residents =
          ap (λ es. fold (heard_in_turn kept) (cond (can_call w tid) (change (is_on tid) (begun kept w) rs) rs) es) tells
          ∙ (ap (λ (them : List Server). heard_in_turn kept them (idle_entry tid (live_thread w tid) had)) stay ∙ idle_heard rs tid (live_thread w tid) had);
    }

-- there is no server
done_alone : (w : World) (tid : ℕ) (can : Bool) (o : Option Server) → is_some o ≡ false → turn_done kept w tid can o ≡ Turn tid
done_alone w tid can None none = refl
done_alone w tid can (Some r) none = absurd (cc)

stay_alone : (can : Bool) (w : World) (tid : ℕ) (rs : List Server) → has (is_on tid) rs ≡ false → cond can (change (is_on tid) (begun kept w) rs) rs ≡ rs
stay_alone true w tid rs none = change-none (is_on tid) (begun kept w) rs none
stay_alone false w tid rs none = refl

pub turn_alone : (w : World) (rs : List Server) (tid : ℕ) → AtRest w → has (is_on tid) rs ≡ false → IsIdleTurn w rs tid false
turn_alone w rs tid rest none =
    idle_turn w rs tid false rest (done_alone w tid (can_call w tid) (first (is_on tid) rs) none) (stay_alone (can_call w tid) w tid rs none)

-- the thread can't call
done_idle : (w : World) (tid : ℕ) (o : Option Server) → is_some o ≡ true → turn_done kept w tid false o ≡ of_resident tid moves true
done_idle w tid None there = absurd (cc)
done_idle w tid (Some r) there = refl

pub turn_idle : (w : World) (rs : List Server) (tid : ℕ) → AtRest w → has (is_on tid) rs ≡ true → can_call w tid ≡ false → IsIdleTurn w rs tid true
turn_idle w rs tid rest there idle =
    idle_turn w rs tid true rest
    (ap (λ can. turn_done kept w tid can (first (is_on tid) rs)) idle ∙ done_idle w tid (first (is_on tid) rs) there)
    (ap (λ can. cond can (change (is_on tid) (begun kept w) rs) rs) idle)

-- what such a turn tells, by whether the thread lives
pub told_absent : (o : Option ThreadRow) (tid : ℕ) (had : Bool) → o ≡ None → idle_entry tid o had ≡ Directive word.Turn INVALID_CID
told_absent None tid had none = refl
told_absent (Some t) tid had none = absurd (cc)

pub told_alone : (o : Option ThreadRow) (tid : ℕ) → idle_entry tid o false ≡ Directive word.Turn INVALID_CID
told_alone None tid = refl
told_alone (Some t) tid = refl

pub told_busy : (o : Option ThreadRow) (tid : ℕ) → is_some o ≡ true → idle_entry tid o true ≡ Busy tid
told_busy None tid lives = absurd (cc)
told_busy (Some t) tid lives = refl

-- whether a thread can call
absent_by : (o : Option ThreadRow) (b : Bool) → condition_by o b ≡ Absent → o ≡ None
absent_by None b is = refl
absent_by (Some t) true is = absurd (cc)
absent_by (Some t) false is = absurd (cc)

waits_by : (o : Option ThreadRow) (x : Option WaitRow) → condition_by o (is_some x) ≡ Waits → (is_some o ≡ true) × ((is_some o && is_none x) ≡ false)
waits_by None x is = absurd (cc)
waits_by (Some t) None is = absurd (cc)
waits_by (Some t) (Some x) is = (refl, refl)

ready_by : (o : Option ThreadRow) (x : Option WaitRow) → condition_by o (is_some x) ≡ Ready → (is_some o && is_none x) ≡ true
ready_by None x is = absurd (cc)
ready_by (Some t) (Some x) is = absurd (cc)
ready_by (Some t) None is = refl

pub absent_is : (w : World) (tid : ℕ) → condition_of w tid ≡ Absent → (live_thread w tid ≡ None) × (can_call w tid ≡ false)
absent_is w tid is =
    let none = absent_by (live_thread w tid) (is_some (wait_of w tid)) is in
    (none, rw none refl)

pub waits_is : (w : World) (tid : ℕ) → condition_of w tid ≡ Waits → (is_some (live_thread w tid) ≡ true) × (can_call w tid ≡ false)
waits_is w tid is = waits_by (live_thread w tid) (wait_of w tid) is

pub ready_is : (w : World) (tid : ℕ) → condition_of w tid ≡ Ready → can_call w tid ≡ true
ready_is w tid is = ready_by (live_thread w tid) (wait_of w tid) is

-- a turn that makes no call, in a world that is told to be this one
pub idle_told : (w : World) (rs : List Server) (tid : ℕ) (had : Bool) (list old : List Entry) (e : Entry) → IsIdleTurn w rs tid had → idle_entry tid (live_thread w tid) had ≡ e → old ≡ [] → list ≡ old ++ e ∷ [] → list ≡ (line_step w (said_done kept (state_of w rs) (Some (Turn tid)))).entries
idle_told w rs tid had list old e t is empty pushed =
    pushed ∙ (ap (λ (es : List Entry). es ++ e ∷ []) empty ∙ (ap (λ (x : Entry). x ∷ []) (sym is) ∙ sym t.told))

pub alone_turn : (v w : World) (rs : List Server) (tid : ℕ) → v ≡ w → AtRest v → has (is_on tid) rs ≡ false → IsIdleTurn w rs tid false × (idle_entry tid (live_thread w tid) false ≡ Directive word.Turn INVALID_CID)
alone_turn v w rs tid here rest none = (turn_alone w rs tid (subst AtRest here rest) none, told_alone (live_thread w tid) tid)

pub absent_turn : (v w : World) (rs : List Server) (tid : ℕ) → v ≡ w → AtRest v → has (is_on tid) rs ≡ true → condition_of v tid ≡ Absent → IsIdleTurn w rs tid true × (idle_entry tid (live_thread w tid) true ≡ Directive word.Turn INVALID_CID)
absent_turn v w rs tid here rest there is =
    let found = absent_is w tid (subst (λ (u : World). condition_of u tid ≡ Absent) here is) in
    (turn_idle w rs tid (subst AtRest here rest) there found.1, told_absent (live_thread w tid) tid true found.0)

pub busy_turn : (v w : World) (rs : List Server) (tid : ℕ) → v ≡ w → AtRest v → has (is_on tid) rs ≡ true → condition_of v tid ≡ Waits → IsIdleTurn w rs tid true × (idle_entry tid (live_thread w tid) true ≡ Busy tid)
busy_turn v w rs tid here rest there is =
    let found = waits_is w tid (subst (λ (u : World). condition_of u tid ≡ Waits) here is) in
    (turn_idle w rs tid (subst AtRest here rest) there found.1, told_busy (live_thread w tid) tid found.0)

-- One that makes a call
-- the bytes that are lent to the server are those that its thread sees
seen_by : (w : World) (rs : List Server) (tid : ℕ) (v : ClientView) (o : Option Server) → first (is_on tid) rs ≡ o → Some v ≡ option_and_then view_wanted o → bytes_seen w tid v ≡ option_and_then (bytes_wanted w) o
seen_by w rs tid v None found is = absurd (cc)
seen_by w rs tid v (Some r) found is =
    let on : r.thread ≡ tid = eqb-true _ _ (first-passes (is_on tid) rs r found) in
    ap (λ t. bytes_seen w t v) (sym on) ∙ ap (λ o. option_and_then (bytes_seen w r.thread) o) is

pub seen_on : (w : World) (rs : List Server) (tid : ℕ) (v : ClientView) → Some v ≡ option_and_then view_wanted (first (is_on tid) rs) → option_map (bytes_through w v.base v.size) (view_of_thread w tid v.base v.size) ≡ bytes_wanted_on w tid rs
seen_on w rs tid v is = seen_by w rs tid v (first (is_on tid) rs) refl is

unseen_by : (w : World) (o : Option Server) → None ≡ option_and_then view_wanted o → None ≡ option_and_then (bytes_wanted w) o
unseen_by w None is = refl
unseen_by w (Some r) is = ap (λ o. option_and_then (bytes_seen w r.thread) o) is

pub unseen_on : (w : World) (rs : List Server) (tid : ℕ) → None ≡ option_and_then view_wanted (first (is_on tid) rs) → None ≡ bytes_wanted_on w tid rs
unseen_on w rs tid is = unseen_by w (first (is_on tid) rs) is

-- there is one to make it
pub some_begins : (w : World) (rs : List Server) (tid : ℕ) → has (is_on tid) rs ≡ true → None ≡ option_map (next_call kept w) (first (is_on tid) rs) → ⊥
some_begins w rs tid there none = none_begins (first (is_on tid) rs) there none
  where
    none_begins : (o : Option Server) → is_some o ≡ true → None ≡ option_map (next_call kept w) o → ⊥
    none_begins None there none = absurd (cc)
    none_begins (Some r) there none = absurd (cc)

-- the line is that call
done_call : (w : World) (tid : ℕ) (call : ScriptCall) (o : Option Server) → Some call ≡ option_map (next_call kept w) o → turn_done kept w tid true o ≡ run tid call
done_call w tid call None is = absurd (cc)
done_call w tid call (Some r) is = let same : call ≡ next_call kept w r = cc in ap (λ c. run tid c) (sym same)

pub turn_done_is : (w : World) (rs : List Server) (tid : ℕ) (call : ScriptCall) → can_call w tid ≡ true → Some call ≡ option_map (next_call kept w) (first (is_on tid) rs) → said_done kept (state_of w rs) (Some (Turn tid)) ≡ Some (run tid call)
turn_done_is w rs tid call can is =
    ap (λ line. Some line) (ap (λ c. turn_done kept w tid c (first (is_on tid) rs)) can ∙ done_call w tid call (first (is_on tid) rs) is)

pub turn_world : (w : World) (rs : List Server) (tid : ℕ) (call : ScriptCall) → can_call w tid ≡ true → Some call ≡ option_map (next_call kept w) (first (is_on tid) rs) → (step w (run tid call)).world ≡ (state_behind kept (state_of w rs) (Some (Turn tid))).world
turn_world w rs tid call can is = ap (λ said. (line_step w said).world) (sym (turn_done_is w rs tid call can is))

pub turn_told : (w : World) (rs : List Server) (tid : ℕ) (call : ScriptCall) → can_call w tid ≡ true → Some call ≡ option_map (next_call kept w) (first (is_on tid) rs) → (step w (run tid call)).entries ≡ (line_step w (said_done kept (state_of w rs) (Some (Turn tid)))).entries
turn_told w rs tid call can is = ap (λ said. (line_step w said).entries) (sym (turn_done_is w rs tid call can is))

-- and the server hears its outcome
pub turn_residents : (w : World) (rs : List Server) (tid : ℕ) (call : ScriptCall) → can_call w tid ≡ true → Some call ≡ option_map (next_call kept w) (first (is_on tid) rs) → heard_in kept true (change (is_on tid) (begun kept w) rs) (step w (run tid call)).entries ≡ (state_behind kept (state_of w rs) (Some (Turn tid))).residents
turn_residents w rs tid call can is =
    ap (λ es. heard_in kept true (change (is_on tid) (begun kept w) rs) es) (turn_told w rs tid call can is)
    ∙ ap (λ c. fold (heard_in_turn kept) (cond c (change (is_on tid) (begun kept w) rs) rs) (line_step w (said_done kept (state_of w rs) (Some (Turn tid)))).entries) (sym can)

-- the call of a server makes no process or thread
pub own_ids : (own : OwnCall) (handle : ℕ) (message : List ℕ) → has_call_ids (own_call own handle message) ≡ true
own_ids Receives handle message = refl
own_ids Replies handle message = refl
own_ids (Answers context accept) handle message = refl
own_ids (Completes port) handle message = refl
own_ids (Closes port) handle message = refl
