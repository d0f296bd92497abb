-- No run tells when rows go: the machine that sweeps at the end of each line tells what one does whose rows never go.
use Rattle.lpc_base.proofs.RowWords.{every-append}
use Rattle.lpc_model.proofs.Settling.Settled.{IsReady}
use Rattle.lpc_model.specs.Settle.{settle}
use Rattle.lpc_isolation.proofs.Gone.Settles.{settle-born, settle-closed, settle-sent, settle-thin}
use Rattle.lpc_model.specs.Left.{HasLivingPorts}
use Rattle.lpc_model.specs.Memory.{nt_create_section}
use Rattle.lpc_isolation.proofs.Gone.ServedLines.{served-firm, served-ready}
use Rattle.lpc_isolation.proofs.Gone.Born.{Born, line-born}
use Rattle.lpc_isolation.proofs.Gone.Grown.{Grows, IsNew, boot-grows, either, either-closed, grown, next-births, next_births, room-of, thread-grows}
use Rattle.lpc_isolation.proofs.Calls.Laws.{Room}
use Rattle.lpc_model.specs.Grammar.{has_ids}
use Rattle.lpc_isolation.proofs.Calls.Services.{lawful}
use Rattle.std.proofs.Common.{◌≡◌, ℕ, Bool, List, [], ◌∷◌, ◌++◌, true, Option, Some, None, refl, ap, sym, subst, ◌∙◌}
use Rattle.std.specs.Prelude.{Ok, is_some}
use Rattle.lpc_base.proofs.RowMaps.{every-both}
use Rattle.lpc_model.specs.declared.entry.Entry.{Entry}
use Rattle.lpc_model.specs.declared.entry.Word.TheVariants as word
use Rattle.lpc_model.specs.World.{ThreadRow, WaitRow, World}
use Rattle.lpc_model.specs.Found.{handle_count, live_thread, wait_of, named_token}
use Rattle.lpc_model.specs.Basics.{Basic, Tells, entries_of, world_after}
use Rattle.lpc_model.specs.Tests.{own_handle}
use Rattle.lpc_model.specs.Named.{free_name, spelled_name}
use Rattle.lpc_model.specs.Lines.{ScriptCall, ScriptLine, boot, dir, link, query_object, run, thread, create_section, token, of_resident, ResidentLine, hosts, moves}
use Rattle.lpc_model.specs.Machine.{bare_steps, boot_line, dir_line, link_line, name_of_call, ready_steps, service_of, settled, step, thread_line, thread_steps, thread_test, unused_test, boot_token, token_line, own_steps, resident_entry, idle_entry, hosting_status}
use Rattle.lpc_isolation.proofs.Gone.Served.{served, served_ready, served_step, served_steps, served_thread, own_served}
use Rattle.lpc_model.specs.Sweep.{sweep}
use Rattle.lpc_model.specs.SoundWaits.{IsSoundWorld}
use Rattle.lpc_model.specs.Linked.{HasHeldPorts, HasHeldSections}
use Rattle.lpc_model.specs.Counts.{nt_query_object}
use Rattle.lpc_model.specs.Fields.{object_fields}
use Rattle.lpc_base.specs.declared.status.TheConstants.{SUCCESS, OBJECT_NAME_COLLISION}
use Rattle.lpc_model.specs.declared.entry.CallName.TheVariants.{NtQueryObject}
use Rattle.lpc_model.specs.declared.entry.Entry.TheVariants.{Answer, Directive}
use Rattle.lpc_model.proofs.Linked.Lines.{held_step}
use Rattle.lpc_model.proofs.Calls.Usable.{live-number}
use Rattle.lpc_isolation.proofs.Views.Seen.{bind-same}
use Rattle.lpc_isolation.proofs.Rows.Sent.{Sent, are_sent, is_sent_home, run-sent, append-sent}
use Rattle.lpc_isolation.proofs.Gone.Held.{Held, held-counts, held-load}
use Rattle.lpc_model.proofs.Calls.Holding.{bind_holds, directed_holds, settled_holds}
use Rattle.lpc_model.proofs.Held.FreedPort.{sweep-tells}
use Rattle.lpc_model.proofs.Steps.InTurn.{after-append, entries-append}
use Rattle.lpc_isolation.proofs.Gone.Thin.{is_live-thin, live-thin, threads-thin, Alive, Behind, Closed, behind-sweep, closed-run, message_closed, thin, thin-run}
use Rattle.lpc_isolation.proofs.Gone.ThinCalls.{AreClosed, row-thin}
use Rattle.lpc_isolation.proofs.Rows.Firm.{Firm, firm-line, firm-step}
use Rattle.lpc_model.specs.Refusal.{refuse_if}

-- Lines
ready-thin : (k : Alive) (u : World) (by : ThreadRow) (call : ScriptCall) (o : Option WaitRow) → live_thread u by.number ≡ Some by → IsSoundWorld u → HasLivingPorts u → Closed k u → served_ready by call o (thin k u) ≡ served_ready by call o u
ready-thin k u by call (Some x) live s p c = refl
ready-thin k u by call None live s p c = ap (settled by (name_of_call call)) ((lawful call).alike k u by live s p c)

-- a thread that is found by its number
own-live : (u : World) (tid : ℕ) (by : ThreadRow) → live_thread u tid ≡ Some by → live_thread u by.number ≡ Some by
own-live u tid by live = subst (λ n. live_thread u n ≡ Some by) (sym (live-number u tid by live)) live

thread-thin : (k : Alive) (u : World) (tid : ℕ) (call : ScriptCall) (o : Option ThreadRow) → live_thread u tid ≡ o → IsSoundWorld u → HasLivingPorts u → Closed k u → served_thread tid call o (thin k u) ≡ served_thread tid call o u
thread-thin k u tid call None live s p c = refl
thread-thin k u tid call (Some by) live s p c = ready-thin k u by call (wait_of u tid) (own-live u tid by live) s p c

-- what is told of a resident
resident-thin : (k : Alive) (u : World) (tid : ℕ) (what : ResidentLine) (had : Bool) → Closed k u → resident_entry (thin k u) tid what had ≡ resident_entry u tid what had
unfolding resident_entry
resident-thin k u tid (hosts kind handle) had c = ap (λ o. Directive word.Resident (hosting_status o had)) (live-thin k u tid c)
resident-thin k u tid moves had c = ap (λ o. idle_entry tid o had) (live-thin k u tid c)

pub line-thin : (k : Alive) (u : World) (line : ScriptLine) → IsSoundWorld u → HasLivingPorts u → Closed k u → own_served line (thin k u) ≡ own_served line u
unfolding own_steps boot_line token_line thread_line dir_line link_line
line-thin k u (thread tid pid) s p c = rw (is_live-thin k u pid c, threads-thin k u pid c) refl
line-thin k u (run tid call) s p c = ap (λ o. served_thread tid call o (thin k u)) (live-thin k u tid c) ∙ thread-thin k u tid call (live_thread u tid) refl s p c
line-thin k u (boot pid tid None) s p c = refl
line-thin k u (boot pid tid (Some name)) s p c = refl
line-thin k u (token name content) s p c = refl
line-thin k u (dir path) s p c = refl
line-thin k u (link path target) s p c = refl
line-thin k u (of_resident tid what had) s p c = ap (λ e. Tells e ∷ []) (resident-thin k u tid what had c)

ready-closed : (k : Alive) (u : World) (by : ThreadRow) (call : ScriptCall) (o : Option WaitRow) → live_thread u by.number ≡ Some by → IsSoundWorld u → Closed k u → Room k u by call → AreClosed k (served_ready by call o u)
ready-closed k u by call (Some x) live s c new = refl
ready-closed k u by call None live s c new = settled_holds (AreClosed k) by (name_of_call call) (served u by call) ((lawful call).stands k u by live s c new) (λ _ _. refl)

-- a line names what is alive, where what its thread makes next is
run-ready : (k : Alive) (u : World) (tid : ℕ) (call : ScriptCall) (o : Option ThreadRow) → live_thread u tid ≡ o → IsSoundWorld u → Born u → Closed k u → Grows k u (served_thread tid call o u)
run-ready k u tid call None live s b c = record { alive = k; same = refl; closed = c; names = refl }
run-ready k u tid call (Some by) live s b c =
    let own = own-live u tid by live in
    let n : Alive = next_births u by call in
    let new : IsNew n u = next-births u by call own s b in
    grown n k u (served_thread tid call (Some by) u) new c (ready-closed (either n k) u by call (wait_of u tid) own s (either-closed n k u new c) (room-of k u by call))

same-ready : (k : Alive) (u : World) (bs : List Basic) → Closed k u → AreClosed k bs → Grows k u bs
same-ready k u bs c names = record { alive = k; same = refl; closed = c; names = names }

line-ready : (k : Alive) (u : World) (line : ScriptLine) → IsSoundWorld u → Born u → Closed k u → Grows k u (own_served line u)
unfolding own_steps token_line dir_line link_line
line-ready k u (boot pid tid name) s b c = boot-grows k u pid tid name b c
line-ready k u (token name content) s b c = same-ready k u _ c (directed_holds (AreClosed k) word.Token (token_line u name content) (bind_holds (refuse_if (is_some (named_token u name)) OBJECT_NAME_COLLISION) _ (AreClosed k) (λ _ _. refl)) (λ _. refl))
line-ready k u (thread tid pid) s b c = thread-grows k u tid pid b c
line-ready k u (dir path) s b c = same-ready k u _ c (directed_holds (AreClosed k) word.Dir (dir_line u path) (bind_holds (free_name u path) _ (AreClosed k) (λ _ _. refl)) (λ _. refl))
line-ready k u (link path target) s b c = same-ready k u _ c (directed_holds (AreClosed k) word.Link (link_line u path target) (bind_holds (spelled_name target) _ (AreClosed k) (λ _ _. bind_holds (free_name u path) _ (AreClosed k) (λ _ _. refl))) (λ _. refl))
line-ready k u (of_resident tid what had) s b c = same-ready k u (Tells (resident_entry u tid what had) ∷ []) c refl
line-ready k u (run tid call) s b c = run-ready k u tid call (live_thread u tid) refl s b c

-- What a query is told where each row is named by a row
query-held : (w : World) (by : ThreadRow) (handle : ℕ) → Held w → service_of w by (query_object handle) ≡ served w by (query_object handle)
unfolding nt_query_object
query-held w by handle h = bind-same (own_handle w by handle) _ _ (λ r at.
    ap (λ n. Ok (Tells (Answer by.number NtQueryObject SUCCESS (object_fields r.object.kind r.access (handle_count w r.object) n)) ∷ [])) (sym (held-counts w r.object h)))

create-held : (w : World) (by : ThreadRow) (size prot : ℕ) → Held w → service_of w by (create_section size prot) ≡ served w by (create_section size prot)
unfolding nt_create_section
create-held w by size prot h = rw (held-load w by.process h) refl

call-held : (w : World) (by : ThreadRow) (call : ScriptCall) → Held w → service_of w by call ≡ served w by call
call-held w by (query_object handle) h = query-held w by handle h
call-held w by (create_section size prot) h = create-held w by size prot h
call-held w by call h = refl

thread-held : (w : World) (tid : ℕ) (call : ScriptCall) (o : Option ThreadRow) → Held w → thread_steps tid call o w ≡ served_thread tid call o w
thread-held w tid call None h = refl
thread-held w tid call (Some by) h = at (wait_of w tid)
  where
    at : (o : Option WaitRow) → ready_steps by call o w ≡ served_ready by call o w
    at (Some x) = refl
    at None = ap (settled by (name_of_call call)) (call-held w by call h)

line-held : (w : World) (line : ScriptLine) → Held w → own_steps line w ≡ own_served line w
unfolding own_steps
line-held w (run tid call) h = thread-held w tid call (live_thread w tid) h
line-held w b h = refl

-- What a line sends
thread-sends : (u : World) (tid : ℕ) (call : ScriptCall) (o : Option ThreadRow) → live_thread u tid ≡ o → IsSoundWorld u → are_sent u (served_thread tid call o u) ≡ true
thread-sends u tid call None live s = refl
thread-sends u tid call (Some by) live s = at (wait_of u tid)
  where
    own : live_thread u by.number ≡ Some by
    own = own-live u tid by live

    at : (o : Option WaitRow) → are_sent u (served_ready by call o u) ≡ true
    at (Some x) = refl
    at None = settled_holds (λ bs. are_sent u bs ≡ true) by (name_of_call call) (served u by call) ((lawful call).sent u by s own) (λ _ _. refl)

line-sends : (u : World) (line : ScriptLine) → IsSoundWorld u → are_sent u (own_served line u) ≡ true
unfolding own_steps boot_line token_line thread_line dir_line link_line
line-sends u (boot pid tid name) s = directed_holds (λ bs. are_sent u bs ≡ true) word.Boot (boot_line u pid tid name) (bind_holds (boot_token u name) _ (λ bs. are_sent u bs ≡ true) (λ _ _. bind_holds (unused_test u pid tid) _ (λ bs. are_sent u bs ≡ true) (λ _ _. refl))) (λ _. refl)
line-sends u (token name content) s = directed_holds (λ bs. are_sent u bs ≡ true) word.Token (token_line u name content) (bind_holds (refuse_if (is_some (named_token u name)) OBJECT_NAME_COLLISION) _ (λ bs. are_sent u bs ≡ true) (λ _ _. refl)) (λ _. refl)
line-sends u (thread tid pid) s = directed_holds (λ bs. are_sent u bs ≡ true) word.Thread (thread_line u tid pid) (bind_holds (thread_test u tid pid) _ (λ bs. are_sent u bs ≡ true) (λ _ _. refl)) (λ _. refl)
line-sends u (dir path) s = directed_holds (λ bs. are_sent u bs ≡ true) word.Dir (dir_line u path) (bind_holds (free_name u path) _ (λ bs. are_sent u bs ≡ true) (λ _ _. refl)) (λ _. refl)
line-sends u (link path target) s = directed_holds (λ bs. are_sent u bs ≡ true) word.Link (link_line u path target) (bind_holds (spelled_name target) _ (λ bs. are_sent u bs ≡ true) (λ _ _. bind_holds (free_name u path) _ (λ bs. are_sent u bs ≡ true) (λ _ _. refl))) (λ _. refl)
line-sends u (of_resident tid what had) s = refl
line-sends u (run tid call) s = thread-sends u tid call (live_thread u tid) refl s

-- where rows have gone, a message still was sent on a port that stands
sent-thin : (k : Alive) (u : World) → Closed k u → Sent u → Sent (thin k u)
sent-thin k u c sent = every-both (message_closed k) (is_sent_home u) (is_sent_home (thin k u)) (λ x live home. rw (row-thin k u x.sender live) home) u.messages c.messages sent

-- One line, in the two worlds
-- a world between two lines, and that of the machine whose rows never go
pub record Sides (w u : World) : Type 0 where
  pub firm : Firm w
  pub ports : HasHeldPorts w
  pub sections : HasHeldSections w
  pub bare : Firm u
  pub sent : Sent u
  pub born : Born u
  pub behind : Behind w u

pub record InStep (w u : World) (line : ScriptLine) : Type 0 where
  pub same : bare_steps line w ≡ served_steps line u
  pub sides : Sides (step w line).world (served_step u line).world

pub line-behind : (w u : World) (line : ScriptLine) → has_ids line ≡ true → Sides w u → InStep w u line
unfolding bare_steps
line-behind w u line ids t = record {
  same = same;
  sides = record {
    firm = firm-step w line t.firm;
    ports = (held_step w line t.firm.sound (firm-line w line t.firm).ports t.firm.linked).ports;
    sections = (held_step w line t.firm.sound (firm-line w line t.firm).ports t.firm.linked).sections;
    bare = served-firm u line t.bare;
    sent = run-sent u (served_steps line u) (append-sent u (own_served line u) (settle v) (line-sends u line t.bare.sound) (settle-sent v)) t.sent;
    born = subst Born (sym (after-append u (own_served line u) (settle v))) (settle-born v (line-born u line ids t.born));
    behind = swept;
  };
}
  where
    r : Behind w u
    r = t.behind

    -- by its own steps
    own : Grows r.alive u (own_served line u)
    own = line-ready r.alive u line t.bare.sound t.born r.closed

    here : w ≡ thin own.alive u
    here = r.same ∙ own.same

    held : Held w
    held = record { linked = t.firm.linked; ports = t.ports; sections = t.sections; names = t.firm.names; sent = subst Sent (sym r.same) (sent-thin r.alive u r.closed t.sent) }

    ports : HasLivingPorts u
    ports = let lived = t.bare.lived in lived.ports

    own-same : own_steps line w ≡ own_served line u
    own-same = line-held w line held ∙ ap (own_served line) here ∙ line-thin own.alive u line t.bare.sound ports own.closed

    -- and when it settles
    v : World
    v = world_after u (own_served line u)

    ready : IsReady v
    ready = served-ready u line t.bare

    closed : Closed own.alive v
    closed = closed-run own.alive u (own_served line u) own.names own.closed

    after : world_after w (own_steps line w) ≡ thin own.alive v
    after = ap (world_after w) own-same ∙ ap (λ x. world_after x (own_served line u)) here ∙ sym (thin-run own.alive u (own_served line u) own.names)

    same : bare_steps line w ≡ served_steps line u
    same = ap (λ bs. bs ++ settle (world_after w (own_steps line w))) own-same ∙ ap (λ x. own_served line u ++ settle x) after ∙ ap (λ bs. own_served line u ++ bs) (settle-thin own.alive v ready closed)

    names : AreClosed own.alive (served_steps line u)
    names = every-append _ (own_served line u) (settle v) own.names (settle-closed own.alive v ready closed)

    bare : Behind (world_after w (bare_steps line w)) (served_step u line).world
    bare = record {
      alive = own.alive;
      same = ap (λ bs. world_after w bs) same ∙ ap (λ x. world_after x (served_steps line u)) here ∙ sym (thin-run own.alive u (served_steps line u) names);
      closed = closed-run own.alive u (served_steps line u) names own.closed;
    }

    living : HasLivingPorts (served_step u line).world
    living = let f = served-firm u line t.bare in let lived = f.lived in lived.ports

    swept : Behind (step w line).world (served_step u line).world
    swept = subst (λ x. Behind x (served_step u line).world) (sym (after-append w (bare_steps line w) (sweep (world_after w (bare_steps line w)))))
        (let f = firm-line w line t.firm in behind-sweep (world_after w (bare_steps line w)) (served_step u line).world living f.sound f.linked bare)

append-none : (es : List Entry) → es ++ [] ≡ es
append-none [] = refl
append-none (e ∷ es) = ap (λ es. e ∷ es) (append-none es)

pub entries-same : (w u : World) (line : ScriptLine) → InStep w u line → (step w line).entries ≡ (served_step u line).entries
entries-same w u line a =
    entries-append (bare_steps line w) (sweep (world_after w (bare_steps line w)))
    ∙ ap (λ es. entries_of (bare_steps line w) ++ es) (sweep-tells (world_after w (bare_steps line w)))
    ∙ append-none (entries_of (bare_steps line w)) ∙ ap entries_of a.same
