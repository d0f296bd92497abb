-- Behind the own steps of a line nothing is due, or they only lose, mark and doom.
use Rattle.std.proofs.Common.{◌≡◌, ℕ, List, [], ◌∷◌, ◌++◌, Bool, true, false, not, Option, Some, None, refl, ◌∙◌}
use Rattle.lpc_base.specs.Rows.{every, has}
use Rattle.lpc_base.proofs.RowWords.{every-append, every-back, every-front, every-more, has-change, has-push}
use Rattle.lpc_base.proofs.Bools.{first-true, same-number, second-true}
use Rattle.lpc_message.specs.declared.kind.TheConstants.{DATAGRAM, REQUEST}
use Rattle.lpc_model.specs.declared.message.Message.{Message}
use Rattle.lpc_model.specs.Message.{asks}
use Rattle.lpc_model.specs.declared.entry.Entry.{Entry}
use Rattle.lpc_model.specs.declared.entry.Entry.TheVariants as entry
use Rattle.std.proofs.lemmas.Bool.{and_from}
use Rattle.lpc_model.specs.World.{Birth, MessageRow, PortRow, ProcessRow, ThreadRow, Token, WaitRow, World}
use Rattle.lpc_model.specs.Found.{free_handle, is_live, is_process, is_thread, token_of, lives_in, was_process}
use Rattle.lpc_model.specs.Basics.{Acts, AddsProcess, AddsThread, Awaits, Basic, Completes, Dooms, DrawsOrdinal, Frees, Joins, Makes, Maps, Receives, Secures, SetsDebug, SetsException, Dies, Tells, Wakes, basic, entries_of, past_ordinal, told, world_after}
use Rattle.lpc_model.specs.Close.{close_handle}
use Rattle.lpc_model.specs.Connect.{create_steps, named_steps}
use Rattle.lpc_model.specs.Creation.{making_process, making_thread}
use Rattle.lpc_model.specs.Death.{end_threads}
use Rattle.lpc_model.specs.Entering.{take_connect_steps, take_steps}
use Rattle.lpc_model.specs.Lines.{ScriptLine}
use Rattle.lpc_model.specs.Machine.{boot_steps, directive_birth, new_process, new_thread}
use Rattle.lpc_model.specs.Raise.{event_begun, raise_told}
use Rattle.lpc_model.specs.Request.{datagram_start, given_reply, receive_steps, receive_wait, reply_test, request_start, sent_by}
use Rattle.lpc_model.specs.Entering.{row_of}
use Rattle.lpc_model.specs.Settle.{IsSettled}
use Rattle.lpc_model.specs.Tests.{next_birth}
use Rattle.lpc_model.specs.Circle.{Group, given_in}
use Rattle.lpc_model.proofs.Calls.Holding.{Holds, bind_holds, holds_ok}
use Rattle.lpc_model.proofs.Calls.Lines.{AnyWorld, LineLaw}
use Rattle.lpc_model.proofs.Calls.Outcomes.{Outcomes}
use Rattle.lpc_model.proofs.Calls.Raising.{set-passes}
use Rattle.lpc_model.proofs.Calls.Sharing.{shared-pass}
use Rattle.lpc_model.proofs.Sound.Reply.{reply-cases}
use Rattle.lpc_model.proofs.Sound.Worlds.{by_kind}
use Rattle.lpc_isolation.proofs.Calls.Deeds.{guarded}
use Rattle.lpc_isolation.proofs.Calls.Doomed.{ended}
use Rattle.lpc_isolation.proofs.Closings.Mild.{is_mild}
use Rattle.lpc_isolation.proofs.Each.Closes.{handle-mild}
use Rattle.lpc_isolation.proofs.Each.Raises.{event_row}
use Rattle.lpc_isolation.proofs.Endings.Lasting.{Lasts, is_end_entry, is_lasting, is_over, lasting-lasts, mild-lasting}
use Rattle.lpc_isolation.proofs.Endings.Threads.{ends-mild}
use Rattle.lpc_isolation.proofs.Gone.Born.{Born}
use Rattle.lpc_isolation.proofs.Gone.Fine.{makes_fine}
use Rattle.lpc_isolation.proofs.Gone.Restful.{added-settled, has-less, is_restful, made-settled, run-settled, started-settled, then-restful}
use Rattle.lpc_isolation.proofs.Gone.Served.{own_served}
use Rattle.lpc_isolation.proofs.Gone.ServedLines.{served-line}
use Rattle.lpc_isolation.proofs.Memory.Heard.{takes_any}
use Rattle.lpc_isolation.proofs.Owed.Fine.{connect-restful}
use Rattle.lpc_isolation.proofs.Owed.Mapped.{is_known_offer, is_known_step}
use Rattle.lpc_isolation.proofs.Plays.Lines.{is_done}
use Rattle.lpc_isolation.proofs.Plays.Housed.{IsHoused, houses_none, live-house, nones-housed, run-housed}
use Rattle.lpc_isolation.proofs.Rows.Firm.{Firm}
use Rattle.lpc_isolation.proofs.Rows.Raisers.{keeps_raisers}

-- steps by which things end, that receive, mark and doom
abbrev pub is_losing : Basic → Bool
is_losing (Tells e) = not (is_end_entry e)
is_losing (Dooms pid code) = true
is_losing (Receives who queue) = true
is_losing (Awaits x) = takes_any x
is_losing b = is_mild b

pub data Due (w : World) (bs : List Basic) : Type 0 where
  rests : (Born w → IsSettled w → IsSettled (world_after w bs)) → (IsHoused w → IsHoused (world_after w bs)) → Due w bs
  loses : every is_losing bs ≡ true → (every (is_done (world_after w bs)) (entries_of bs) ≡ true → every (is_over (world_after w bs)) (entries_of bs) ≡ true) → Due w bs

-- What such steps keep
losing-raisers : (b : Basic) → is_losing b ≡ true → keeps_raisers b ≡ true
losing-raisers (Makes p) is = absurd (cc)
losing-raisers (Joins client server context) is = absurd (cc)
losing-raisers (Completes b) is = absurd (cc)
losing-raisers (Secures b s) is = absurd (cc)
losing-raisers (AddsProcess p) is = absurd (cc)
losing-raisers (SetsDebug pid b) is = absurd (cc)
losing-raisers (SetsException pid b) is = absurd (cc)
losing-raisers (Frees o) is = absurd (cc)
losing-raisers b is = refl

pub lose-raisers : (bs : List Basic) → every is_losing bs ≡ true → every keeps_raisers bs ≡ true
lose-raisers bs is = every-more is_losing keeps_raisers losing-raisers bs is

taker-offers : (m : Group) (outer : Birth → Bool) (x : WaitRow) → takes_any x ≡ true → is_known_offer m outer x ≡ true
taker-offers m outer = by_kind (λ x. takes_any x ≡ true → is_known_offer m outer x ≡ true) (λ x a is. refl) (λ x is. refl) (λ x is. refl) (λ x a offer is. absurd (cc)) (λ x a reply is. refl) (λ x e is. refl)

losing-known : (m : Group) (outer : Birth → Bool) (b : Basic) → is_losing b ≡ true → is_known_step m outer b ≡ true
losing-known m outer (Maps pid v) is = absurd (cc)
losing-known m outer (Frees o) is = absurd (cc)
losing-known m outer (Awaits x) is = taker-offers m outer x is
losing-known m outer b is = refl

pub lose-known : (m : Group) (outer : Birth → Bool) (bs : List Basic) → every is_losing bs ≡ true → every (is_known_step m outer) bs ≡ true
lose-known m outer bs is = every-more is_losing (is_known_step m outer) (losing-known m outer) bs is

losing-fine : (m : Group) (c : ℕ) (b : Basic) → is_losing b ≡ true → makes_fine m c b ≡ true
losing-fine m c (Makes p) is = absurd (cc)
losing-fine m c (AddsProcess p) is = absurd (cc)
losing-fine m c (Frees o) is = absurd (cc)
losing-fine m c b is = refl

pub lose-fine : (m : Group) (c : ℕ) (bs : List Basic) → every is_losing bs ≡ true → every (makes_fine m c) bs ≡ true
lose-fine m c bs is = every-more is_losing (makes_fine m c) (losing-fine m c) bs is

losing-houses : (b : Basic) → is_losing b ≡ true → houses_none b ≡ true
losing-houses (AddsThread t) ok = absurd (cc)
losing-houses (Frees o) ok = absurd (cc)
losing-houses b ok = refl

lose-housed : (w : World) (bs : List Basic) → every is_losing bs ≡ true → IsHoused w → IsHoused (world_after w bs)
lose-housed w bs is h = nones-housed w bs (every-more is_losing houses_none losing-houses bs is) h

-- either way, each thread's process keeps its row
pub due-housed : (w : World) (bs : List Basic) → Due w bs → IsHoused w → IsHoused (world_after w bs)
due-housed w bs (rests settled housed) h = housed h
due-housed w bs (loses is over) h = lose-housed w bs is h

pub lose-gives : (bs : List Basic) → every is_losing bs ≡ true → given_in bs ≡ []
lose-gives [] is = refl
lose-gives (Acts who own ∷ bs) is = absurd (cc)
lose-gives (b ∷ bs) is = lose-gives bs (second-true (is_losing b) _ is)

-- Lists
mild-losing : (b : Basic) → is_mild b ≡ true → is_losing b ≡ true
mild-losing (Tells e) is = absurd (cc)
mild-losing (Dooms pid code) is = refl
mild-losing (Receives who queue) is = refl
mild-losing (Awaits x) is = absurd (cc)
mild-losing b is = is

mild-over : (w : World) (bs : List Basic) → every is_mild bs ≡ true → every (is_over (world_after w bs)) (entries_of bs) ≡ true
mild-over w bs is = let l : Lasts w bs = lasting-lasts w bs (every-more is_mild is_lasting mild-lasting bs is) in l.over

milds-lose : (bs : List Basic) → every is_mild bs ≡ true → every is_losing bs ≡ true
milds-lose bs is = every-more is_mild is_losing mild-losing bs is

-- those by which no thread dies: whom they tell of waits no more
abbrev is_yielding : Basic → Bool
is_yielding (Dies who status) = false
is_yielding b = is_losing b

yielding-losing : (b : Basic) → is_yielding b ≡ true → is_losing b ≡ true
yielding-losing (Dies who status) is = absurd (cc)
yielding-losing b is = is

tells-over : (v : World) (e : Entry) → not (is_end_entry e) ≡ true → is_over v e ≡ true
tells-over v (entry.Answer who call status fields) is = refl
tells-over v (entry.Waits who call fields) is = refl
tells-over v (entry.Wakes who call status fields) is = absurd (cc)
tells-over v (entry.Busy who) is = refl
tells-over v (entry.NoThread who) is = refl
tells-over v (entry.Died who status) is = absurd (cc)
tells-over v (entry.Directive name status) is = refl

step-over : (v : World) (b : Basic) → is_yielding b ≡ true → every (is_done v) (told b) ≡ true → every (is_over v) (told b) ≡ true
step-over v (Tells e) is done = and_from _ _ (tells-over v e is) refl
step-over v (Wakes who call status fields) is done = done
step-over v (Dies who status) is done = absurd (cc)
step-over v b is done = refl

done-over : (v : World) (bs : List Basic) → every is_yielding bs ≡ true → every (is_done v) (entries_of bs) ≡ true → every (is_over v) (entries_of bs) ≡ true
done-over v [] is done = refl
done-over v (b ∷ bs) is done =
    every-append (is_over v) (told b) (entries_of bs) (step-over v b (first-true _ _ is) (every-front (is_done v) (told b) (entries_of bs) done)) (done-over v bs (second-true (is_yielding b) _ is) (every-back (is_done v) (told b) (entries_of bs) done))

yields : (w : World) (bs : List Basic) → every is_yielding bs ≡ true → Due w bs
yields w bs is = loses (every-more is_yielding is_losing yielding-losing bs is) (done-over (world_after w bs) bs is)

-- what ends, and an answer before it
milds-due : (w : World) (bs : List Basic) → every is_mild bs ≡ true → Due w bs
milds-due w bs is = loses (milds-lose bs is) (λ _. mild-over w bs is)

answered-due : (w : World) (e : Entry) (bs : List Basic) → not (is_end_entry e) ≡ true → every is_mild bs ≡ true → Due w (Tells e ∷ bs)
answered-due w e bs off is = loses (and_from _ _ off (milds-lose bs is)) (λ _. and_from _ _ (tells-over (world_after w bs) e off) (mild-over w bs is))

taken-losing : (x : MessageRow) (asked : Bool) → asks x.message ≡ asked → (every is_yielding (take_steps x) ≡ true) × (every is_yielding (take_connect_steps x) ≡ true)
taken-losing x true asked = (rw asked refl, rw asked refl)
taken-losing x false asked = (rw asked refl, rw asked refl)

replied-losing : (u : World) (p : PortRow) (o : Option Message) → Holds (λ bs. every is_yielding bs ≡ true) (given_reply u p o)
replied-losing u p None = refl
replied-losing u p (Some b) = bind_holds (reply_test u p b) _ (λ bs. every is_yielding bs ≡ true) (λ x _. reply-cases (λ r. every is_yielding (r ∷ []) ≡ true) x b refl refl (λ _. refl))

received-losing : (by : ThreadRow) (p : PortRow) (q : Birth) (rs : List Basic) (o : Option MessageRow) → every is_yielding rs ≡ true → every is_yielding (receive_steps by p q rs o) ≡ true
received-losing by p q rs None ok = every-append is_yielding rs (Awaits (receive_wait by p.birth q) ∷ []) ok refl
received-losing by p q rs (Some x) ok = every-append is_yielding rs (take_steps x) ok (taken-losing x (asks x.message) refl).0

restful-houses : (b : Basic) → is_restful b ≡ true → houses_none b ≡ true
restful-houses (AddsThread t) ok = absurd (cc)
restful-houses (Frees o) ok = absurd (cc)
restful-houses b ok = refl

resting : (w : World) (bs : List Basic) → every is_restful bs ≡ true → Due w bs
resting w bs ok = rests (λ born s. run-settled w bs ok s) (λ h. nones-housed w bs (every-more is_restful houses_none restful-houses bs ok) h)

-- a process that a directive makes, and a thread
pushed : (w : World) (pid : ℕ) (p : ProcessRow) → p.number ≡ pid → has (is_process pid) (w.processes ++ p ∷ []) ≡ true
pushed w pid p own = has-push (is_process pid) w.processes p (rw own (same-number pid))

booted : (w : World) (pid tid : ℕ) (content : Token) → was_process w pid ≡ false → Born w → IsSettled w → IsSettled (world_after w (boot_steps pid tid content))
booted w pid tid content new born s =
    added-settled w (world_after w (boot_steps pid tid content)) pid (new_process pid None (directive_birth pid pid) content) refl refl refl
    (λ n off. has-less (lives_in n) w.threads (new_thread tid pid (directive_birth tid pid)) (rw off refl)) new born s

threaded : (w : World) (tid pid : ℕ) → is_live w pid ≡ true → IsSettled w → IsSettled (world_after w (AddsThread (new_thread tid pid (directive_birth tid pid)) ∷ []))
threaded w tid pid live s =
    started-settled w (world_after w (AddsThread (new_thread tid pid (directive_birth tid pid)) ∷ [])) pid refl refl
    (λ n off. has-less (lives_in n) w.threads (new_thread tid pid (directive_birth tid pid)) (rw off refl)) live s

started : (w : World) (by : ThreadRow) (tid pid : ℕ) → is_live w pid ≡ true → IsSettled w → IsSettled (world_after w (making_thread w by tid pid))
started w by tid pid live s =
    started-settled w (world_after w (making_thread w by tid pid)) pid refl refl
    (λ n off.
    has-less (lives_in n) (basic w (DrawsOrdinal by.number)).threads (new_thread tid pid (next_birth by)) (rw off refl)
    ∙ has-change (lives_in n) (is_thread by.number) past_ordinal (λ t. refl) w.threads) live s

-- Lines
due-calls : (w : World) (by : ThreadRow) → Outcomes w by (λ _. Due w)
due-calls w by = record {
  creates = λ dacl. resting w _ refl;
  founds = λ name dacl path free. resting w _ (guarded (λ bs. every is_restful (create_steps by (named_steps (next_birth by) path) (free_handle w by.process) ++ bs) ≡ true) (next_birth by) name dacl refl (λ s. refl));
  connects = λ name quality view bytes offer own connection is. resting w _ (connect-restful w by connection offer own bytes quality);
  listens = λ handle port x is at. yields w _ ((taken-losing x (asks x.message) refl).1);
  awaits_connect = λ handle port is at. yields w _ refl;
  refuses = λ context bytes view a at. yields w _ refl;
  accepts = λ context bytes view offer a views is. resting w _ (shared-pass is_restful by a.wait (λ _. refl) (λ _. refl) views);
  completes = λ handle r at. resting w _ refl;
  sends = λ handle bytes x at. resting w _ (then-restful w (datagram_start by) (row_of x.queue x.port (sent_by by DATAGRAM x.message)) refl);
  asks = λ handle bytes x at. resting w _ (then-restful w (request_start by x.port.birth x.queue (sent_by by REQUEST x.message)) (row_of x.queue x.port (sent_by by REQUEST x.message)) refl);
  replies = λ handle bytes p b x at read fits. yields w _ (reply-cases (λ r. every is_yielding (r ∷ []) ≡ true) x b refl refl (λ _. refl));
  receives = λ handle bytes a p q replied x is first. yields w _ (received-losing by p q replied (Some x) (holds_ok (λ bs. every is_yielding bs ≡ true) (given_reply w p a) replied (replied-losing w p a) is.reply_made));
  awaits_message = λ handle bytes a p q replied is first. yields w _ (received-losing by p q replied None (holds_ok (λ bs. every is_yielding bs ≡ true) (given_reply w p a) replied (replied-losing w p a) is.reply_made));
  registers = λ handle port at off few. resting w _ refl;
  repeats = λ handle port at on. yields w _ refl;
  closes = λ handle r at. answered-due w _ (close_handle by.process r w) refl (handle-mild w by.process r);
  duplicates = λ handle access r at. resting w _ refl;
  queries = λ handle r at. yields w _ refl;
  spawns = λ pid tid new unused. rests (λ born s. made-settled w by pid tid new born s) (λ h. run-housed w (making_process w by pid tid) (rw (pushed w pid (new_process pid (Some by.process) (next_birth by) (token_of w by.process)) refl) refl) h);
  starts = λ target tid pid at live unused. rests (λ born s. started w by tid pid live s) (λ h. run-housed w (making_thread w by tid pid) (rw (live-house w pid h live) refl) h);
  makes_section = λ size prot is. resting w _ refl;
  maps_view = λ handle offset size prot s rounded base is. resting w _ refl;
  unmaps_view = λ address v at. resting w _ refl;
  reads_memory = λ address n v at. yields w _ refl;
  writes_memory = λ address new v at may. resting w _ refl;
  reads_range = λ handle bytes index n d at. yields w _ refl;
  writes_range = λ handle bytes index new d at may. resting w _ refl;
  impersonates = λ handle bytes own is. resting w _ refl;
  reverts = λ class. resting w _ refl;
  opens_own = λ own at. resting w _ refl;
  opens_primary = resting w _ refl;
  asks_token = λ handle class t field at told. yields w _ refl;
  sets = λ target class handle pid port at found live. set-passes (Due w) by class pid port.birth (resting w _ refl) (resting w _ refl);
  handles = λ code handled. yields w _ refl;
  hears = λ code handled h is. resting w _ (then-restful w (raise_told by ∷ event_begun by code handled h) (event_row by code h) refl);
  fails = λ code handled. yields w _ refl;
  ends = λ call name own pid code ts doomed. let is = ends-mild pid code ts w in ended (Due w) by name own pid code ts w (λ _. milds-due w (end_threads pid code ts w) is) (λ _. answered-due w _ (end_threads pid code ts w) refl is);
}

due-lines : LineLaw AnyWorld (λ line w bs. Due w bs)
due-lines = record {
  tells = λ line w e is. resting w (Tells e ∷ []) refl;
  calls = λ by w is. due-calls w by;
  boots = λ w pid tid name content new unused s more. rests (λ born s. booted w pid tid content new born s) (λ h. run-housed w (boot_steps pid tid content) (rw (pushed w pid (new_process pid None (directive_birth pid pid) content) refl) refl) h);
  threads = λ w tid pid live unused s more. rests (λ born s. threaded w tid pid live s) (λ h. run-housed w (AddsThread (new_thread tid pid (directive_birth tid pid)) ∷ []) (rw (live-house w pid h live) refl) h);
  names = λ w name content more. resting w _ refl;
  dirs = λ w text path free more. resting w _ refl;
  links = λ w text target path to free more. resting w _ refl;
}

pub line-due : (w : World) (line : ScriptLine) → Firm w → Due w (own_served line w)
line-due w line f = served-line AnyWorld (λ line w bs. Due w bs) due-lines w f.sound tt (λ line e. resting w (Tells e ∷ []) refl) line
