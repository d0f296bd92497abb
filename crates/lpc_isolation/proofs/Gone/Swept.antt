-- The law over the machine that sweeps, from the law over the one whose rows never go.
use Rattle.lpc_model.proofs.Steps.InTurn.{after-append}
use Rattle.lpc_model.specs.Settle.{IsSettled, settle}
use Rattle.lpc_isolation.proofs.Endings.Settling.{given-append}
use Rattle.lpc_isolation.proofs.Gone.Settles.{settle-fine}
use Rattle.lpc_isolation.proofs.Gone.Restful.{settled-rests}
use Rattle.lpc_isolation.proofs.Gone.ThinCalls.{row-thin}
use Rattle.lpc_model.specs.Linked.{passes_or_none}
use Rattle.lpc_model.specs.Left.{HasLivingPorts, is_portless}
use Rattle.lpc_isolation.proofs.Each.Described.{described-thin}
use Rattle.lpc_isolation.proofs.Calls.Services.{lawful}
use Rattle.lpc_isolation.proofs.Gone.Fine.{AreFine, FineAfter, run-fine}
use Rattle.std.proofs.Common.{◌≡◌, ℕ, List, [], ◌∷◌, ◌++◌, Bool, true, false, cond, not, map, Option, Some, None, refl, ap, sym, subst, ◌∙◌, arith}
use Rattle.std.specs.Prelude.{◌||◌, ◌==◌, is_some}
use Rattle.std.proofs.lemmas.Bool.{or_left, or_right, and_from}
use Rattle.std.proofs.lemmas.Bool.Decides.{nat_tests}
use Rattle.lpc_base.specs.Rows.{has, passes, which, every}
use Rattle.lpc_base.proofs.Bools.{first-true, second-true}
use Rattle.lpc_model.specs.declared.entry.Entry.{Entry}
use Rattle.lpc_model.specs.declared.entry.Entry.TheVariants as entry
use Rattle.lpc_model.specs.declared.entry.Word.TheVariants as word
use Rattle.lpc_model.specs.World.{Birth, ThreadRow, WaitRow, World, no_rows, ObjectName, ProcessRow}
use Rattle.lpc_model.specs.Found.{live_thread, wait_of, named_token, event_ports_of, port_row}
use Rattle.lpc_model.specs.Named.{free_name, spelled_name}
use Rattle.lpc_model.specs.Lines.{of_resident, ScriptCall, ScriptLine, accept_connect_port, boot, complete_connect_port, connect_port, create_port, dir, link, listen_port, reply_port, reply_wait_receive_port, request_port, request_wait_reply_port, run, thread, read_request_data, token}
use Rattle.lpc_model.specs.Grammar.{has_ids}
use Rattle.lpc_isolation.proofs.Gone.Born.{born_none, Born}
use Rattle.lpc_isolation.proofs.Rows.Ids.{script-says}
use Rattle.lpc_isolation.proofs.Plays.Play.{are_ok}
use Rattle.lpc_model.specs.Basics.{Basic, world_after, Frees}
use Rattle.lpc_model.specs.Sweep.{sweep, free_unheld, unheld}
use Rattle.lpc_model.specs.Machine.{bare_steps, boot_line, dir_line, link_line, name_of_call, step, steps, thread_line, thread_test, unused_test, boot_token, token_line, own_steps}
use Rattle.lpc_isolation.proofs.Gone.Served.{served, served_ready, served_step, served_steps, served_thread, own_served}
use Rattle.lpc_model.specs.Run.{Along, said_in, world_behind}
use Rattle.lpc_model.specs.Circle.{Event, Everyone, Group, HasInnerViews, IsCircleIn, IsFineAt, IsFineWorld, Nobody, Of, Ran, Told, Whose, entry_whose, events, is_fine_call, is_fine_line, is_item, is_outer, is_outer_at, is_seen, is_write_of, item_of, line_events, line_whose, members, outsider_sees, owner, told_event, IsInnerAt, ReadsInner, gave_event, given_in, is_fine_event_port, is_fine_raiser, is_told_inside, events_of, full_inputs, full_items}
use Rattle.lpc_isolation.proofs.Views.Alone.{HasFineRows, alone, WritesOuter, HasFineRaisers}
use Rattle.lpc_isolation.proofs.Gone.Bare.{BareIsolation, IsApartAt, IsBareCircle, bare_events, bare_line_events, HasViewsApart}
use Rattle.lpc_model.proofs.Calls.Holding.{bind_holds, directed_holds, settled_holds}
use Rattle.lpc_model.proofs.Calls.Usable.{live-number}
use Rattle.lpc_isolation.proofs.Plays.BareLaw.{bare-isolation}
use Rattle.lpc_isolation.proofs.Gone.Thin.{Alive, Behind, thin, Closed, live-thin, hearer_closed, hearer_gone, hearers-gone, portless-none, process_alive}
use Rattle.lpc_isolation.proofs.Gone.Sweeps.{InStep, Sides, entries-same, line-behind}
use Rattle.lpc_isolation.proofs.Rows.Firm.{firm_none, Firm}
use Rattle.lpc_model.specs.Refusal.{refuse_if}
use Rattle.lpc_base.specs.declared.status.TheConstants.{OBJECT_NAME_COLLISION}

-- What happens is the same
map-same : {X Y : Type 0} (f g : X → Y) → ((x : X) → f x ≡ g x) → (xs : List X) → map f xs ≡ map g xs
map-same f g same [] = refl
map-same f g same (x ∷ xs) = rw (same x, map-same f g same xs) refl

whose-thin : (k : Alive) (u : World) (line : ScriptLine) → line_whose (thin k u) line ≡ line_whose u line
whose-thin k u (boot pid tid name) = refl
whose-thin k u (token name content) = refl
whose-thin k u (thread tid pid) = refl
whose-thin k u (dir path) = refl
whose-thin k u (link path target) = refl
whose-thin k u (of_resident tid what had) = refl
whose-thin k u (run tid call) = refl

entry-thin : (k : Alive) (u : World) (d : Whose) (e : Entry) → entry_whose (thin k u) d e ≡ entry_whose u d e
entry-thin k u d (entry.Answer tid call status fields) = refl
entry-thin k u d (entry.Waits tid call fields) = refl
entry-thin k u d (entry.Wakes tid call status fields) = refl
entry-thin k u d (entry.Busy tid) = refl
entry-thin k u d (entry.NoThread tid) = refl
entry-thin k u d (entry.Died tid status) = refl
entry-thin k u d (entry.Directive word status) = refl

-- what goes at a line's end, lets no thread act
frees-give : (os : List ObjectName) (bs : List Basic) → given_in (map Frees os ++ bs) ≡ given_in bs
frees-give [] bs = refl
frees-give (o ∷ os) bs = frees-give os bs

append-nil : (bs : List Basic) → bs ++ [] ≡ bs
append-nil [] = refl
append-nil (b ∷ bs) = ap (λ bs. b ∷ bs) (append-nil bs)

pub sweep-gives : (w : World) → given_in (sweep w) ≡ []
unfolding sweep
sweep-gives w =
    let v = world_after w (free_unheld w) in
    frees-give (unheld w) (free_unheld v) ∙ (ap given_in (sym (append-nil (free_unheld v))) ∙ frees-give (unheld v) [])

given-same : (w u : World) (line : ScriptLine) → InStep w u line → given_in (steps line w) ≡ given_in (served_steps line u)
given-same w u line a = given-append (bare_steps line w) (sweep (world_after w (bare_steps line w))) (sweep-gives (world_after w (bare_steps line w))) ∙ ap given_in a.same

line-same : (w u : World) (line : ScriptLine) → Behind w u → InStep w u line → line_events w line ≡ bare_line_events u line
line-same w u line r a =
    let whose : line_whose w line ≡ line_whose u line = ap (λ v. line_whose v line) r.same ∙ whose-thin r.alive u line in
    let told : (e : Entry) → told_event (step w line).world (line_whose u line) e ≡ told_event (served_step u line).world (line_whose u line) e
    = λ e. ap (λ x. record { whose = x; item = Told e }) (ap (λ v. entry_whose v (line_whose u line) e) a.sides.behind.same ∙ entry-thin a.sides.behind.alive (served_step u line).world (line_whose u line) e) in
    let gave = map (gave_event (line_whose u line)) (given_in (steps line w)) in
    ap (λ d. record { whose = d; item = Ran line } ∷ (map (told_event (step w line).world d) (step w line).entries ++ map (gave_event d) (given_in (steps line w)))) whose
    ∙ ap (λ es. record { whose = line_whose u line; item = Ran line } ∷ (map (told_event (step w line).world (line_whose u line)) es ++ gave)) (entries-same w u line a)
    ∙ ap (λ es. record { whose = line_whose u line; item = Ran line } ∷ (es ++ gave)) (map-same (told_event (step w line).world (line_whose u line)) (told_event (served_step u line).world (line_whose u line)) told (served_step u line).entries)
    ∙ ap (λ gs. record { whose = line_whose u line; item = Ran line } ∷ (map (told_event (served_step u line).world (line_whose u line)) (served_step u line).entries ++ map (gave_event (line_whose u line)) gs)) (given-same w u line a)

pub events-same : (w u : World) (lines : List (Option ScriptLine)) → are_ok has_ids lines ≡ true → Sides w u → events w lines ≡ bare_events u lines
events-same w u [] ids t = refl
events-same w u (None ∷ later) ids t = events-same w u later ids t
events-same w u (Some line ∷ later) ids t =
    let a = line-behind w u line (first-true _ _ ids) t in
    ap (λ es. es ++ events (step w line).world later) (line-same w u line t.behind a)
    ∙ ap (λ es. bare_line_events u line ++ es) (events-same (step w line).world (served_step u line).world later (second-true _ _ ids) a.sides)

-- of each line
ready-fine : (m : Group) (c : ℕ) (after u : World) (by : ThreadRow) (call : ScriptCall) (o : Option WaitRow) → wait_of u by.number ≡ o → HasFineRows m c after → FineAfter m c after u (served_ready by call o u)
ready-fine m c after u by call (Some x) is f = λ _. refl
ready-fine m c after u by call None idle f = settled_holds (FineAfter m c after u) by (name_of_call call) (served u by call) ((lawful call).fine m c after u by idle f) (λ _ _ _. refl)

thread-fine : (m : Group) (c : ℕ) (after u : World) (tid : ℕ) (call : ScriptCall) (o : Option ThreadRow) → live_thread u tid ≡ o → HasFineRows m c after → FineAfter m c after u (served_thread tid call o u)
thread-fine m c after u tid call None live f = λ _. refl
thread-fine m c after u tid call (Some by) live f = ready-fine m c after u by call (wait_of u tid) (ap (wait_of u) (live-number u tid by live)) f

line-fine : (m : Group) (c : ℕ) (after u : World) (line : ScriptLine) → HasFineRows m c after → FineAfter m c after u (own_served line u)
unfolding own_steps boot_line token_line thread_line dir_line link_line
line-fine m c after u (boot pid tid name) f = λ _. directed_holds (AreFine m c) word.Boot (boot_line u pid tid name) (bind_holds (boot_token u name) _ (AreFine m c) (λ _ _. bind_holds (unused_test u pid tid) _ (AreFine m c) (λ _ _. refl))) (λ _. refl)
line-fine m c after u (token name content) f = λ _. directed_holds (AreFine m c) word.Token (token_line u name content) (bind_holds (refuse_if (is_some (named_token u name)) OBJECT_NAME_COLLISION) _ (AreFine m c) (λ _ _. refl)) (λ _. refl)
line-fine m c after u (thread tid pid) f = λ _. directed_holds (AreFine m c) word.Thread (thread_line u tid pid) (bind_holds (thread_test u tid pid) _ (AreFine m c) (λ _ _. refl)) (λ _. refl)
line-fine m c after u (dir path) f = λ _. directed_holds (AreFine m c) word.Dir (dir_line u path) (bind_holds (free_name u path) _ (AreFine m c) (λ _ _. refl)) (λ _. refl)
line-fine m c after u (link path target) f = λ _. directed_holds (AreFine m c) word.Link (link_line u path target) (bind_holds (spelled_name target) _ (AreFine m c) (λ _ _. bind_holds (free_name u path) _ (AreFine m c) (λ _ _. refl))) (λ _. refl)
line-fine m c after u (of_resident tid what had) f = λ _. refl
line-fine m c after u (run tid call) f = thread-fine m c after u tid call (live_thread u tid) refl f

-- The circle is one in the run whose rows never go
call-inside : (m : Group) (k : Alive) (u : World) (call : ScriptCall) → is_fine_call m (thin k u) call ≡ is_fine_call m u call
call-inside m k u (create_port None dacl) = refl
call-inside m k u (create_port (Some name) dacl) = refl
call-inside m k u (connect_port name quality word info) = refl
call-inside m k u (listen_port handle) = refl
call-inside m k u (accept_connect_port context message accept word) = refl
call-inside m k u (complete_connect_port handle) = refl
call-inside m k u (request_port handle message) = refl
call-inside m k u (request_wait_reply_port handle message) = refl
call-inside m k u (reply_port handle message) = refl
call-inside m k u (reply_wait_receive_port handle None) = refl
call-inside m k u (reply_wait_receive_port handle (Some message)) = refl
call-inside m k u call = refl

line-inside : (m : Group) (c : ℕ) (k : Alive) (u : World) (line : ScriptLine) → is_fine_line m c (thin k u) line ≡ is_fine_line m c u line
line-inside m c k u (run tid call) = ap (λ b. not (passes (owner u tid) (λ p. p == c)) || b) (call-inside m k u call)
line-inside m c k u b = refl

first-fine : (m : Group) (c : ℕ) (w : World) (lines : List (Option ScriptLine)) → Along (IsFineAt m c) w lines → IsFineWorld m c (world_behind w lines) → HasFineRows m c w
unfolding world_behind
first-fine m c w [] along last = (last.processes, last.ports)
first-fine m c w (None ∷ later) along last = first-fine m c w later along last
first-fine m c w (Some line ∷ later) along last = (along.0.0.processes, along.0.0.ports)

-- what is outer from a line on
abbrev Covers : Group → (Birth → Bool) → World → List (Option ScriptLine) → Type 0
Covers m outer w lines = (b : Birth) → is_outer m w lines b ≡ true → outer b ≡ true

-- what c has views of, in the run whose rows never go
first-inner : (c : ℕ) (outer : Birth → Bool) (w : World) (lines : List (Option ScriptLine)) → Along (IsInnerAt c outer) w lines → HasInnerViews c outer (world_behind w lines) → HasInnerViews c outer w
unfolding world_behind
first-inner c outer w [] along last = last
first-inner c outer w (None ∷ later) along last = first-inner c outer w later along last
first-inner c outer w (Some line ∷ later) along last = along.0.0

-- and what outsiders have views of
shown-first : (m : Group) (w : World) (lines : List (Option ScriptLine)) (b : Birth) → has (outsider_sees m b) w.views ≡ true → is_outer m w lines b ≡ true
shown-first m w [] b is = is
shown-first m w (None ∷ later) b is = shown-first m w later b is
shown-first m w (Some line ∷ later) b is = or_left (is_outer_at m w line b) _ (or_left (has (outsider_sees m b) w.views) _ is)

-- and where members' exceptions are told: a process that has gone has no port that is told of exceptions
raisers-bare : (m : Group) (k : Alive) (u : World) → HasLivingPorts u → Closed k u → HasFineRaisers m (thin k u) → HasFineRaisers m u
raisers-bare m k u living c all = rows u.processes (hearers-gone k u c living) c.events all
  where
    ports : (bs : List Birth) → every k.ports bs ≡ true → every (is_fine_event_port m (thin k u)) bs ≡ true → every (is_fine_event_port m u) bs ≡ true
    ports [] live fine = refl
    ports (b ∷ bs) live fine =
        let same : port_row (thin k u) b ≡ port_row u b = row-thin k u b (first-true _ _ live) in
        and_from _ _ (subst (λ o. passes_or_none o (is_told_inside m) ≡ true) same (first-true _ _ fine)) (ports bs (second-true _ _ live) (second-true _ _ fine))

    one : (p : ProcessRow) → is_fine_raiser m (thin k u) p ≡ true → hearer_closed k p ≡ true → is_fine_raiser m u p ≡ true
    one p fine live = at (m p.number) fine
      where
        at : (e : Bool) → (not e || every (is_fine_event_port m (thin k u)) (event_ports_of p)) ≡ true → (not e || every (is_fine_event_port m u) (event_ports_of p)) ≡ true
        at true fine = ports (event_ports_of p) live fine
        at false fine = refl

    none : (p : ProcessRow) → is_portless p ≡ true → is_fine_raiser m u p ≡ true
    none p is = at (m p.number)
      where
        at : (e : Bool) → (not e || every (is_fine_event_port m u) (event_ports_of p)) ≡ true
        at true = portless-none (is_fine_event_port m u) p is
        at false = refl

    rows : (ps : List ProcessRow) → every (hearer_gone k) ps ≡ true → every (hearer_closed k) ps ≡ true → every (is_fine_raiser m (thin k u)) (which (process_alive k) ps) ≡ true → every (is_fine_raiser m u) ps ≡ true
    rows [] gone closed fine = refl
    rows (p ∷ ps) gone closed fine = at (k.processes p.birth) refl (rows ps (second-true _ _ gone) (second-true _ _ closed))
      where
        at : (e : Bool) → k.processes p.birth ≡ e → (every (is_fine_raiser m (thin k u)) (which (process_alive k) ps) ≡ true → every (is_fine_raiser m u) ps ≡ true) → every (is_fine_raiser m u) (p ∷ ps) ≡ true
        at true alive rest =
            let here : every (is_fine_raiser m (thin k u)) (p ∷ which (process_alive k) ps) ≡ true = rw alive at fine in
            and_from _ _ (one p (first-true _ _ here) (first-true _ _ closed)) (rest (second-true _ _ here))
        at false dead rest =
            let off : (false || is_portless p) ≡ true = rw dead at (first-true (hearer_gone k p) _ gone) in
            let there : every (is_fine_raiser m (thin k u)) (which (process_alive k) ps) ≡ true = rw dead at fine in
            and_from _ _ (none p off) (rest there)

views-bare : (m : Group) (c : ℕ) (outer : Birth → Bool) (w u : World) (lines : List (Option ScriptLine)) → Behind w u → HasLivingPorts u → HasFineRaisers m w → Covers m outer w lines → Along (IsInnerAt c outer) w lines → HasInnerViews c outer (world_behind w lines) → HasViewsApart m c outer u
views-bare m c outer w u lines r living raisers covers along last = record {
  raisers = raisers-bare m r.alive u living r.closed (subst (HasFineRaisers m) r.same raisers);
  inner = subst (HasInnerViews c outer) r.same (first-inner c outer w lines along last);
  shows = λ b is. covers b (shown-first m w lines b (ap (λ v. has (outsider_sees m b) v.views) r.same ∙ is));
}

-- what a line writes, it writes before rows go
writes-first : (b : Birth) (xs ys : List Basic) → has (is_write_of b) xs ≡ true → has (is_write_of b) (xs ++ ys) ≡ true
writes-first b [] ys is = absurd (cc)
writes-first b (x ∷ xs) ys is = at (is_write_of b x) refl (writes-first b xs ys)
  where
    at : (e : Bool) → is_write_of b x ≡ e → (has (is_write_of b) xs ≡ true → has (is_write_of b) (xs ++ ys) ≡ true) → has (is_write_of b) ((x ∷ xs) ++ ys) ≡ true
    at true here rest = rw here refl
    at false off rest = rw off (rest (rw off at is))

outsider-writes : (m : Group) (outer : Birth → Bool) (w u : World) (line : ScriptLine) (later : List (Option ScriptLine)) → Behind w u → InStep w u line → Covers m outer w (Some line ∷ later) → is_seen m (line_whose u line) ≡ false → WritesOuter outer (served_steps line u)
outsider-writes m outer w u line later r a covers out b is =
    let whose : line_whose w line ≡ line_whose u line = ap (λ v. line_whose v line) r.same ∙ whose-thin r.alive u line in
    let unseen : is_seen m (line_whose w line) ≡ false = ap (is_seen m) whose ∙ out in
    let bare : has (is_write_of b) (bare_steps line w) ≡ true = subst (λ bs. has (is_write_of b) bs ≡ true) (sym a.same) is in
    let writes : has (is_write_of b) (steps line w) ≡ true = writes-first b (bare_steps line w) (sweep (world_after w (bare_steps line w))) bare in
    let at : is_outer_at m w line b ≡ true = or_right (has (outsider_sees m b) w.views) _ (rw unseen writes) in
    covers b (or_left (is_outer_at m w line b) (is_outer m (step w line).world later b) at)

-- what c reads through a described range
call-reads : (c : ℕ) (outer : Birth → Bool) (k : Alive) (u : World) (tid : ℕ) (call : ScriptCall) → Closed k u → ReadsInner c outer (thin k u) (run tid call) → ReadsInner c outer u (run tid call)
call-reads c outer k u tid (read_request_data handle bytes index n) closed reads = λ by d live idle mine at. reads by d (live-thin k u tid closed ∙ live) idle mine (described-thin k u by handle bytes index n closed ∙ at)
call-reads c outer k u tid call closed reads = tt

line-reads : (c : ℕ) (outer : Birth → Bool) (k : Alive) (u : World) (line : ScriptLine) → Closed k u → ReadsInner c outer (thin k u) line → ReadsInner c outer u line
line-reads c outer k u (run tid call) closed reads = call-reads c outer k u tid call closed reads
line-reads c outer k u line closed reads = tt

line-apart : (m : Group) (c : ℕ) (outer : Birth → Bool) (w u : World) (line : ScriptLine) (later : List (Option ScriptLine)) → Behind w u → InStep w u line → Covers m outer w (Some line ∷ later) → ReadsInner c outer w line → IsApartAt m c outer u line
line-apart m c outer w u line later r a covers reads = record {
  writes = outsider-writes m outer w u line later r a covers;
  reads = line-reads c outer r.alive u line r.closed (subst (λ v. ReadsInner c outer v line) r.same reads);
}

-- and so are the rows that settling leaves
fine-behind : (m : Group) (c : ℕ) (after u : World) (line : ScriptLine) → HasFineRows m c after → Firm u → Born u → Behind after (served_step u line).world → HasFineRows m c u → HasFineRows m c (served_step u line).world
fine-behind m c after u line next firm born swept fine =
    let v : World = world_after u (own_served line u) in
    let own : HasFineRows m c v = run-fine m c u (own_served line u) (line-fine m c after u line next rest) fine in
    subst (HasFineRows m c) (sym (after-append u (own_served line u) (settle v))) (run-fine m c v (settle v) (settle-fine m c v) own)
  where
    rest : (Born u → IsSettled u → IsSettled (world_after u (own_served line u))) → Behind after (world_after u (own_served line u))
    rest keeps =
        let v : World = world_after u (own_served line u) in
        let none : settle v ≡ [] = settled-rests v (keeps born firm.settled) in
        subst (Behind after) (after-append u (own_served line u) (settle v) ∙ ap (world_after v) none) swept

circle-same : (m : Group) (c : ℕ) (outer : Birth → Bool) (w u : World) (lines : List (Option ScriptLine)) → are_ok has_ids lines ≡ true → Sides w u → HasFineRows m c u → Along (IsFineAt m c) w lines → IsFineWorld m c (world_behind w lines)
    → Covers m outer w lines → Along (IsInnerAt c outer) w lines → HasInnerViews c outer (world_behind w lines) → IsBareCircle m c outer u lines
unfolding world_behind
circle-same m c outer w u [] ids t fine along last covers inner final = (fine, views-bare m c outer w u [] t.behind t.bare.lived.ports last.raisers covers inner final)
circle-same m c outer w u (None ∷ later) ids t fine along last covers inner final = circle-same m c outer w u later ids t fine along last covers inner final
circle-same m c outer w u (Some line ∷ later) ids t fine along last covers inner final =
    let r = t.behind in
    let a = line-behind w u line (first-true _ _ ids) t in
    let next : HasFineRows m c (step w line).world = first-fine m c (step w line).world later along.1 last in
    let after : HasFineRows m c (served_step u line).world = fine-behind m c (step w line).world u line next t.bare t.born a.sides.behind fine in (
      fine,
      views-bare m c outer w u (Some line ∷ later) r t.bare.lived.ports along.0.0.raisers covers inner final,
      sym (line-inside m c r.alive u line) ∙ sym (ap (λ v. is_fine_line m c v line) r.same) ∙ along.0.1,
      line-apart m c outer w u line later r a covers inner.0.1,
      circle-same m c outer (step w line).world (served_step u line).world later (second-true _ _ ids) a.sides after along.1 last (λ b is. covers b (or_right (is_outer_at m w line b) _ is)) inner.1 final,
    )

-- The law
behind_none : Behind no_rows no_rows
behind_none = record { alive = record { ports = λ b. true; sections = λ b. true; tokens = λ b. true; processes = λ b. true; threads = λ b. true; homes = λ n. true }; same = refl; closed = record { tables = refl; ports = refl; messages = refl; waits = refl; registrations = refl; cuts = refl; threads = refl; processes = refl; views = refl; events = refl } }

sides_none : Sides no_rows no_rows
sides_none = record { firm = firm_none; ports = refl; sections = refl; bare = firm_none; sent = refl; born = born_none; behind = behind_none }

-- the items of a list of one process are those of that process alone
one-member : (c pid : ℕ) → members (c ∷ []) pid ≡ alone c pid
one-member c pid = grind (arith, nat_tests)

items-same : (m k : Group) → ((pid : ℕ) → m pid ≡ k pid) → (es : List Event) → full_items m es ≡ full_items k es
items-same m k same [] = refl
items-same m k same (e ∷ es) = at (is_item m e) (is_item k e) (seen e.whose) (items-same m k same es)
  where
    seen : (w : Whose) → is_seen m w ≡ is_seen k w
    seen (Of pid) = same pid
    seen Everyone = refl
    seen Nobody = refl

    at : (a b : Bool) → a ≡ b → full_items m es ≡ full_items k es → map item_of (cond a (e ∷ which (is_item m) es) (which (is_item m) es)) ≡ map item_of (cond b (e ∷ which (is_item k) es) (which (is_item k) es))
    at true true is rest = ap (λ is. item_of e ∷ is) rest
    at true false is rest = absurd (cc)
    at false true is rest = absurd (cc)
    at false false is rest = rest

-- In inputs and items that show whether a thread has a resident
abbrev pub FullIsolation : Type 0
FullIsolation =
    (group : List ℕ) (c : ℕ) (one two : List ℕ) → IsCircleIn group c one → IsCircleIn group c two →
    full_inputs (members group) c (events_of one) ≡ full_inputs (members group) c (events_of two) →
    full_items (members (c ∷ [])) (events_of one) ≡ full_items (members (c ∷ [])) (events_of two)

isolation_from : BareIsolation → FullIsolation
isolation_from bare group c one two circle_one circle_two same =
    let m : Group = members group in
    let first_run : events no_rows (said_in one) ≡ bare_events no_rows (said_in one) = events-same no_rows no_rows (said_in one) (script-says one) sides_none in
    let second_run : events no_rows (said_in two) ≡ bare_events no_rows (said_in two) = events-same no_rows no_rows (said_in two) (script-says two) sides_none in
    let outer : List ℕ → Birth → Bool = λ script. is_outer m no_rows (said_in script) in
    let inside : (script : List ℕ) → IsCircleIn group c script → IsBareCircle m c (outer script) no_rows (said_in script) = λ script circle. circle-same m c (outer script) no_rows no_rows (said_in script) (script-says script) sides_none (refl, refl) circle.1.0 circle.1.1 (λ b is. is) circle.1.2.0 circle.1.2.1 in
    items-same (members (c ∷ [])) (alone c) (one-member c) (events no_rows (said_in one))
    ∙ ap (full_items (alone c)) first_run
    ∙ bare group c (outer one) (outer two) one two circle_one.0 (inside one circle_one) (inside two circle_two) (sym (ap (full_inputs m c) first_run) ∙ same ∙ ap (full_inputs m c) second_run)
    ∙ sym (ap (full_items (alone c)) second_run)
    ∙ sym (items-same (members (c ∷ [])) (alone c) (one-member c) (events no_rows (said_in two)))

pub full_law : FullIsolation
full_law = isolation_from bare-isolation
