-- Births of processes and threads in the run whose rows never go: what is made next has a birth that no row has.
use Rattle.lpc_model.proofs.Calls.Raising.{set-passes}
use Rattle.lpc_model.specs.Raise.{Heard, event_begun, event_message, raise_steps, set_told}
use Rattle.lpc_model.proofs.Sound.Reply.{reply-cases}
use Rattle.lpc_model.specs.declared.entry.CallName.{CallName}
use Rattle.lpc_model.specs.Ranges.{write_range_steps}
use Rattle.lpc_model.specs.Memory.{new_section, section_steps, map_steps, mapped_view, unmap_steps, write_steps}
use Rattle.lpc_model.specs.declared.message.Message.{Message}
use Rattle.lpc_message.specs.declared.kind.TheConstants.{DATAGRAM, REQUEST}
use Rattle.lpc_model.specs.Counts.{asked, duplicate_steps}
use Rattle.lpc_model.specs.Close.{close_handle, close_steps}
use Rattle.lpc_model.specs.Entering.{enter, received_steps, row_of}
use Rattle.lpc_model.specs.Request.{datagram_start, datagram_steps, given_reply, receive_steps, reply_steps, reply_test, request_start, request_steps, sent_by}
use Rattle.lpc_model.specs.Connect.{accept_steps, client_port, complete_steps, connect_start, connect_steps, connection_request, create_steps, listen_steps, named_steps, refuse_steps, unnamed_steps, allow_steps, guard_steps}
use Rattle.lpc_model.proofs.Calls.Outcomes.{Outcomes}
use Rattle.lpc_isolation.proofs.Calls.Deeds.{served-does}
use Rattle.std.proofs.Common.{◌≡◌, ℕ, ◌+◌, List, [], ◌∷◌, ◌++◌, Bool, true, false, not, Option, Some, None, refl, ap, sym, subst, arith}
use Rattle.std.specs.Prelude.{◌&&◌, ◌||◌, ◌==◌, nat_lt, Ok, is_some}
use Rattle.std.proofs.lemmas.Bool.{and_from, eqb-true, false_from_ne_true}
use Rattle.std.proofs.lemmas.Bool.Decides.{nat_tests}
use Rattle.std.proofs.Math.Bool.{or-true}
use Rattle.lpc_base.specs.Rows.{change, every, has, without}
use Rattle.lpc_base.proofs.RowWords.{every-change, every-more, every-push, every-without, has-kept, has-push, every-append}
use Rattle.lpc_base.proofs.RowMaps.{every-both, every-change_to, every-first}
use Rattle.lpc_base.proofs.Bools.{first-true, or-last, same-number, second-off, second-true}
use Rattle.lpc_base.proofs.Births.{birth-same}
use Rattle.lpc_model.proofs.Steps.Rows.{count-change, count-less, has-off, lone}
use Rattle.lpc_model.proofs.Lives.ThreadsOnce.{new-once}
use Rattle.lpc_model.specs.Lawful.{HasThreadsOnce}
use Rattle.lpc_names.specs.Walk.{LinkTo, Stands}
use Rattle.lpc_names.specs.declared.names.Found.TheVariants.{Directory}
use Rattle.lpc_base.specs.declared.status.TheConstants.{OBJECT_NAME_COLLISION}
use Rattle.lpc_model.specs.declared.entry.ObjectKind.{ObjectKind}
use Rattle.lpc_model.specs.declared.entry.ObjectKind.TheVariants as kind
use Rattle.lpc_model.specs.declared.entry.Word.TheVariants as word
use Rattle.lpc_model.specs.Grammar.{has_call_ids, has_ids}
use Rattle.lpc_model.specs.Words.{is_id}
use Rattle.lpc_model.specs.World.{Birth, ContentRow, Contents, Known, ProcessRow, ThreadRow, Unknown, UsedThread, WaitRow, World, no_rows, MessageRow, PortRow, SectionRow, Effective, Token}
use Rattle.lpc_model.specs.Found.{is_content, is_live, is_live_thread, is_section, is_thread, live_thread, same_birth, wait_of, was_process, was_thread, free_handle, is_token, token_of, named_token, is_process}
use Rattle.lpc_model.specs.Basics.{AddsProcess, AddsSection, AddsThread, Basic, Binds, Dies, DrawsIdentifier, DrawsOrdinal, Frees, Registers, Unregisters, Writes, basic, ended, freed, in_known, past_identifier, past_ordinal, registering, unregistering, world_after, written, zeros, Acts, AddsToken, NamesToken, acting, SetsDebug, SetsException, LetsGo, Dooms, debugged, doomed, excepted, portless}
use Rattle.lpc_model.specs.Named.{free_name, spelled_name}
use Rattle.lpc_model.specs.Lines.{ScriptCall, ScriptLine, boot, dir, link, run, thread, token, of_resident}
use Rattle.lpc_model.specs.Machine.{own_steps, boot_line, dir_line, directive_birth, link_line, name_of_call, new_process, new_thread, thread_line, thread_test, unused_test, boot_token, token_line}
use Rattle.lpc_model.specs.Creation.{second_birth, making_process, making_thread}
use Rattle.lpc_model.specs.Tests.{next_birth, client_of}
use Rattle.lpc_model.proofs.Calls.Creating.{tested-further}
use Rattle.lpc_model.proofs.Steps.Ending.{answered_end, ending-enter, ending-receipt, handle-ending, is_ending, steps-end}
use Rattle.lpc_model.proofs.Calls.Holding.{Holds, bind_holds, directed_holds, holds-more, holds_ok, not_refused, settled_holds}
use Rattle.lpc_model.proofs.Calls.Usable.{live-number}
use Rattle.lpc_isolation.proofs.Gone.Served.{served, served_ready, own_served_step, served_thread}
use Rattle.lpc_model.specs.Offers.{mapped}
use Rattle.lpc_model.proofs.Calls.Sharing.{mapped-pass, shared-pass, guard-pass}
use Rattle.lpc_model.specs.Impersonation.{held_content, impersonate_steps, new_token, process_content, revert_steps, token_steps}
use Rattle.lpc_model.specs.declared.entry.CallName.TheVariants.{NtOpenProcessToken, NtOpenThreadToken}
use Rattle.lpc_model.specs.Refusal.{refuse_if}

-- Of the births that a number may have: a directive gives maker 0 and the number itself, a call its thread as maker
abbrev pub is_made : World → Birth → ℕ → Bool
is_made u b n = ((b.maker == 0) && (b.ordinal == n)) || was_thread u b.maker

-- a thread's next ordinal is past that of the birth, where it is the maker
abbrev pub is_before : Birth → ThreadRow → Bool
is_before b t = not (b.maker == t.number) || nat_lt b.ordinal t.next_ordinal

abbrev pub is_after : World → ThreadRow → Bool
is_after u t = every (λ p. is_before p.birth t) u.processes && every (λ x. is_before x.birth t) u.threads

-- a thread made it, and that thread's next ordinal is past it
abbrev pub is_drawn : World → Birth → Bool
is_drawn u b = was_thread u b.maker && every (is_before b) u.threads

-- the bytes that stand
abbrev pub content_rows : Contents → List ContentRow
content_rows Unknown = []
content_rows (Known rows) = rows

abbrev Drawn : World → Contents → Type 0
Drawn u k = every (λ c. is_drawn u c.section) (content_rows k) ≡ true

pub record Born (u : World) : Type 0 where
  pub processes : every (λ p. is_made u p.birth p.number) u.processes ≡ true
  pub threads : every (λ t. is_made u t.birth t.number) u.threads ≡ true
  pub past : every (is_after u) u.threads ≡ true
  pub numbers : every (λ p. was_process u p.number) u.processes ≡ true
  pub uses : every (λ t. was_thread u t.number) u.threads ≡ true
  pub zero : was_thread u 0 ≡ false
  pub once : HasThreadsOnce u
  pub sections : every (λ s. is_drawn u s.birth) u.sections ≡ true
  pub contents : Drawn u u.contents
  pub tokens : every (λ t. is_drawn u t.birth) u.tokens ≡ true

-- what keeps of each birth that it was drawn
drawn-more : (u v : World) → ((b : Birth) → is_drawn u b ≡ true → is_drawn v b ≡ true) → (k : Contents) → Drawn u k → Drawn v k
drawn-more u v more k all = every-more (λ c. is_drawn u c.section) (λ c. is_drawn v c.section) (λ c is. more c.section is) (content_rows k) all

drawn-without : (u : World) (b : Birth) (k : Contents) → Drawn u k → Drawn u (in_known (without (is_content b)) k)
drawn-without u b Unknown all = refl
drawn-without u b (Known rows) all = every-without (λ c. is_drawn u c.section) (is_content b) rows all

drawn-written : (u : World) (b : Birth) (place : ℕ) (new : List ℕ) (k : Contents) → Drawn u k → Drawn u (in_known (change (is_content b) (written place new)) k)
drawn-written u b place new Unknown all = refl
drawn-written u b place new (Known rows) all = every-change (λ c. is_drawn u c.section) (is_content b) (written place new) (λ c is. is) rows all

drawn-added : (u : World) (s : SectionRow) (k : Contents) → is_drawn u s.birth ≡ true → Drawn u k → Drawn u (in_known (λ rows. rows ++ zeros s ∷ []) k)
drawn-added u s Unknown new all = refl
drawn-added u s (Known rows) new all = every-push (λ c. is_drawn u c.section) rows (zeros s) all new

-- Steps
changed-born : (u : World) (who : ℕ) (f : ThreadRow → ThreadRow) → ((x : ThreadRow) → (f x).birth ≡ x.birth) → ((x : ThreadRow) → (f x).number ≡ x.number) → ((b : Birth) (x : ThreadRow) → is_before b x ≡ true → is_before b (f x) ≡ true) → Born u → Born (record u { threads = change (is_thread who) f u.threads })
changed-born u who f births numbers more b = record {
  processes = b.processes;
  threads = every-change (λ t. is_made u t.birth t.number) (is_thread who) f (λ t is. rw (births t, numbers t) is) u.threads b.threads;
  past = every-change (is_after v) (is_thread who) f grows u.threads (every-more (is_after u) (is_after v) kept u.threads b.past);
  numbers = b.numbers;
  uses = every-change (λ t. was_thread u t.number) (is_thread who) f (λ t is. rw (numbers t) is) u.threads b.uses;
  zero = b.zero;
  once = λ n. rw (count-change (is_thread n) (is_thread who) f (λ x. ap (λ i. i == n) (numbers x)) u.threads) (b.once n);
  sections = every-more (λ s. is_drawn u s.birth) (λ s. is_drawn v s.birth) (λ s is. drawn s.birth is) u.sections b.sections;
  contents = drawn-more u v drawn u.contents b.contents;
  tokens = every-more (λ t. is_drawn u t.birth) (λ t. is_drawn v t.birth) (λ t is. drawn t.birth is) u.tokens b.tokens;
}
  where
    v : World
    v = record u { threads = change (is_thread who) f u.threads }

    drawn : (b : Birth) → is_drawn u b ≡ true → is_drawn v b ≡ true
    drawn b is = and_from _ _ (first-true _ _ is) (every-change (is_before b) (is_thread who) f (more b) u.threads (second-true (was_thread u b.maker) _ is))

    kept : (t : ThreadRow) → is_after u t ≡ true → is_after v t ≡ true
    kept t is = and_from _ _ (first-true _ _ is) (every-change (λ x. is_before x.birth t) (is_thread who) f (λ x is. rw (births x) is) u.threads (second-true (every (λ p. is_before p.birth t) u.processes) _ is))

    grows : (t : ThreadRow) → is_after v t ≡ true → is_after v (f t) ≡ true
    grows t is = and_from _ _ (every-more (λ p. is_before p.birth t) (λ p. is_before p.birth (f t)) (λ p is. more p.birth t is) u.processes (first-true _ _ is))
        (every-more (λ x. is_before x.birth t) (λ x. is_before x.birth (f t)) (λ x is. more x.birth t is) v.threads (second-true (every (λ p. is_before p.birth t) u.processes) _ is))

drawn-before : (b : Birth) (t : ThreadRow) → is_before b t ≡ true → is_before b (past_ordinal t) ≡ true
drawn-before b t is = at (b.maker == t.number) is
  where
    at : (e : Bool) → (not e || nat_lt b.ordinal t.next_ordinal) ≡ true → (not e || nat_lt b.ordinal (t.next_ordinal + 1)) ≡ true
    at true is = grind (arith, nat_tests)
    at false is = refl

freed-born : (u : World) (k : ObjectKind) (b : Birth) → Born u → Born (freed u k b)
freed-born u kind.Port b o = record { processes = o.processes; threads = o.threads; past = o.past; numbers = o.numbers; uses = o.uses; zero = o.zero; once = o.once; sections = o.sections; contents = o.contents; tokens = o.tokens }
freed-born u kind.Section b o = record {
  processes = o.processes;
  threads = o.threads;
  past = o.past;
  numbers = o.numbers;
  uses = o.uses;
  zero = o.zero;
  once = o.once;
  sections = every-without (λ s. is_drawn u s.birth) (is_section b) u.sections o.sections;
  contents = drawn-without u b u.contents o.contents;
  tokens = o.tokens;
}
freed-born u kind.Token b o = record { processes = o.processes; threads = o.threads; past = o.past; numbers = o.numbers; uses = o.uses; zero = o.zero; once = o.once; sections = o.sections; contents = o.contents; tokens = every-without (λ t. is_drawn u t.birth) (is_token b) u.tokens o.tokens }
freed-born u kind.Process b o = record {
  processes = every-without (λ p. is_made u p.birth p.number) (λ p. same_birth p.birth b) u.processes o.processes;
  threads = o.threads;
  past = every-more (is_after u) (is_after (freed u kind.Process b)) (λ t is. and_from _ _ (every-without (λ p. is_before p.birth t) (λ p. same_birth p.birth b) u.processes (first-true _ _ is)) (second-true (every (λ p. is_before p.birth t) u.processes) _ is)) u.threads o.past;
  numbers = every-without (λ p. was_process u p.number) (λ p. same_birth p.birth b) u.processes o.numbers;
  uses = o.uses;
  zero = o.zero;
  once = o.once;
  sections = o.sections;
  contents = o.contents;
  tokens = o.tokens;
}
freed-born u kind.Thread b o = record {
  processes = o.processes;
  threads = every-without (λ t. is_made u t.birth t.number) (λ t. same_birth t.birth b) u.threads o.threads;
  past = every-without (is_after (freed u kind.Thread b)) (λ t. same_birth t.birth b) u.threads
      (every-more (is_after u) (is_after (freed u kind.Thread b)) (λ t is. and_from _ _ (first-true _ _ is) (every-without (λ x. is_before x.birth t) (λ x. same_birth x.birth b) u.threads (second-true (every (λ p. is_before p.birth t) u.processes) _ is))) u.threads o.past);
  numbers = o.numbers;
  uses = every-without (λ t. was_thread u t.number) (λ t. same_birth t.birth b) u.threads o.uses;
  zero = o.zero;
  once = λ n. count-less (is_thread n) (λ t. same_birth t.birth b) u.threads 1 (o.once n);
  sections = every-more (λ s. is_drawn u s.birth) (λ s. is_drawn (freed u kind.Thread b) s.birth) (λ s is. drawn s.birth is) u.sections o.sections;
  contents = drawn-more u (freed u kind.Thread b) drawn u.contents o.contents;
  tokens = every-more (λ t. is_drawn u t.birth) (λ t. is_drawn (freed u kind.Thread b) t.birth) (λ t is. drawn t.birth is) u.tokens o.tokens;
}
  where
    drawn : (d : Birth) → is_drawn u d ≡ true → is_drawn (freed u kind.Thread b) d ≡ true
    drawn d is = and_from _ _ (first-true _ _ is) (every-without (is_before d) (λ t. same_birth t.birth b) u.threads (second-true (was_thread u d.maker) _ is))

-- a process that changes keeps its birth and its number
processed-born : (u : World) (pid : ℕ) (f : ProcessRow → ProcessRow) → ((p : ProcessRow) → (f p).birth ≡ p.birth) → ((p : ProcessRow) → (f p).number ≡ p.number) → Born u → Born (record u { processes = change (is_process pid) f u.processes })
processed-born u pid f births numbers b = record {
  processes = every-change (λ p. is_made u p.birth p.number) (is_process pid) f (λ p is. rw (births p, numbers p) is) u.processes b.processes;
  threads = b.threads;
  past = every-more (is_after u) (is_after v) (λ t is. and_from _ _ (every-change (λ p. is_before p.birth t) (is_process pid) f (λ p one. rw (births p) one) u.processes (first-true _ _ is)) (second-true (every (λ p. is_before p.birth t) u.processes) _ is)) u.threads b.past;
  numbers = every-change (λ p. was_process u p.number) (is_process pid) f (λ p is. rw (numbers p) is) u.processes b.numbers;
  uses = b.uses;
  zero = b.zero;
  once = b.once;
  sections = b.sections;
  contents = b.contents;
  tokens = b.tokens;
}
  where
    v : World
    v = record u { processes = change (is_process pid) f u.processes }

-- a step that makes no process, no thread and no section
abbrev pub makes_none : Basic → Bool
makes_none (AddsProcess p) = false
makes_none (AddsThread t) = false
makes_none (AddsSection s) = false
makes_none (AddsToken t) = false
makes_none b = true

none-born : (u : World) (b : Basic) → makes_none b ≡ true → Born u → Born (basic u b)
none-born u (AddsProcess p) none o = absurd (cc)
none-born u (AddsThread t) none o = absurd (cc)
none-born u (AddsSection s) none o = absurd (cc)
none-born u (AddsToken t) none o = absurd (cc)
none-born u (Acts who own) none o = changed-born u who (acting own) (λ x. refl) (λ x. refl) (λ b x is. is) o
none-born u (Writes b place new) none o = record { processes = o.processes; threads = o.threads; past = o.past; numbers = o.numbers; uses = o.uses; zero = o.zero; once = o.once; sections = o.sections; contents = drawn-written u b place new u.contents o.contents; tokens = o.tokens }
none-born u (DrawsIdentifier who) none o = changed-born u who past_identifier (λ x. refl) (λ x. refl) (λ b x is. is) o
none-born u (DrawsOrdinal who) none o = changed-born u who past_ordinal (λ x. refl) (λ x. refl) drawn-before o
none-born u (Dies who status) none o = let c = changed-born u who ended (λ x. refl) (λ x. refl) (λ b x is. is) o in record { processes = c.processes; threads = c.threads; past = c.past; numbers = c.numbers; uses = c.uses; zero = c.zero; once = c.once; sections = c.sections; contents = c.contents; tokens = c.tokens }
none-born u (Registers who b) none o = changed-born u who (registering b) (λ x. refl) (λ x. refl) (λ b x is. is) o
none-born u (Unregisters who b) none o = changed-born u who (unregistering b) (λ x. refl) (λ x. refl) (λ b x is. is) o
none-born u (SetsDebug pid b) none o = processed-born u pid (debugged b) (λ p. refl) (λ p. refl) o
none-born u (SetsException pid b) none o = processed-born u pid (excepted b) (λ p. refl) (λ p. refl) o
none-born u (LetsGo pid) none o = processed-born u pid portless (λ p. refl) (λ p. refl) o
none-born u (Dooms pid code) none o = processed-born u pid (doomed code) (λ p. refl) (λ p. refl) o
none-born u (Frees n) none o = freed-born u n.kind n.birth o
none-born u b none o = record { processes = o.processes; threads = o.threads; past = o.past; numbers = o.numbers; uses = o.uses; zero = o.zero; once = o.once; sections = o.sections; contents = o.contents; tokens = o.tokens }

pub nones-born : (u : World) (bs : List Basic) → every makes_none bs ≡ true → Born u → Born (world_after u bs)
nones-born u [] none o = o
nones-born u (b ∷ bs) none o = nones-born (basic u b) bs (second-true _ _ none) (none-born u b (first-true _ _ none) o)

-- a process is made
pub process-born : (u : World) (p : ProcessRow) → is_made u p.birth p.number ≡ true → every (is_before p.birth) u.threads ≡ true → Born u → Born (basic u (AddsProcess p))
process-born u p made before o = record {
  processes = every-push (λ q. is_made u q.birth q.number) u.processes p o.processes made;
  threads = o.threads;
  past = past u.threads o.past before;
  numbers = every-push (λ q. was_process (basic u (AddsProcess p)) q.number) u.processes p (every-more (λ q. was_process u q.number) (λ q. was_process (basic u (AddsProcess p)) q.number) (λ q is. has-kept (λ n. n == q.number) u.used_processes p.number is) u.processes o.numbers) (has-push (λ n. n == p.number) u.used_processes p.number (same-number p.number));
  uses = o.uses;
  zero = o.zero;
  once = o.once;
  sections = o.sections;
  contents = o.contents;
  tokens = o.tokens;
}
  where
    past : (ts : List ThreadRow) → every (is_after u) ts ≡ true → every (is_before p.birth) ts ≡ true → every (is_after (basic u (AddsProcess p))) ts ≡ true
    past [] all before = refl
    past (t ∷ ts) all before =
        let here : is_after u t ≡ true = first-true _ _ all in
        and_from _ _ (and_from _ _ (every-push (λ q. is_before q.birth t) u.processes p (first-true _ _ here) (first-true _ _ before)) (second-true (every (λ q. is_before q.birth t) u.processes) _ here)) (past ts (second-true _ _ all) (second-true _ _ before))

-- a thread is made, with a number that is new
not-maker : (u : World) (b : Birth) (n tid : ℕ) → is_made u b n ≡ true → was_thread u tid ≡ false → (tid == 0) ≡ false → (b.maker == tid) ≡ false
not-maker u b n tid made unused id = at (b.maker == tid) refl
  where
    at : (e : Bool) → (b.maker == tid) ≡ e → e ≡ false
    at false off = refl
    at true is =
        let same : b.maker ≡ tid = eqb-true _ _ is in
        let it : (((tid == 0) && (b.ordinal == n)) || was_thread u tid) ≡ true = subst (λ x. (((x == 0) && (b.ordinal == n)) || was_thread u x) ≡ true) same made in
        let off : ((false && (b.ordinal == n)) || false) ≡ true = rw (id, unused) at it in absurd (cc)

made-more : (u : World) (t : ThreadRow) (b : Birth) (n : ℕ) → is_made u b n ≡ true → is_made (basic u (AddsThread t)) b n ≡ true
made-more u t b n is = at ((b.maker == 0) && (b.ordinal == n)) is
  where
    at : (e : Bool) → (e || was_thread u b.maker) ≡ true → (e || was_thread (basic u (AddsThread t)) b.maker) ≡ true
    at true is = refl
    at false is = has-kept (λ (x : UsedThread). x.number == b.maker) u.used_threads (record { number = t.number; process = t.process }) is

pub thread-born : (u : World) (t : ThreadRow) → is_made u t.birth t.number ≡ true → every (is_before t.birth) u.threads ≡ true → was_thread u t.number ≡ false → (t.number == 0) ≡ false → Born u → Born (basic u (AddsThread t))
thread-born u t made before unused id o = record {
  processes = every-more (λ p. is_made u p.birth p.number) (λ p. is_made v p.birth p.number) (λ p is. made-more u t p.birth p.number is) u.processes o.processes;
  threads = every-push (λ x. is_made v x.birth x.number) u.threads t (every-more (λ x. is_made u x.birth x.number) (λ x. is_made v x.birth x.number) (λ x is. made-more u t x.birth x.number is) u.threads o.threads) (made-more u t t.birth t.number made);
  past = every-push (is_after v) u.threads t (past u.threads o.past before) (and_from _ _ (every-more (λ p. is_made u p.birth p.number) (λ p. is_before p.birth t) (λ p is. apart p.birth p.number is) u.processes o.processes)
      (every-push (λ x. is_before x.birth t) u.threads t (every-more (λ x. is_made u x.birth x.number) (λ x. is_before x.birth t) (λ x is. apart x.birth x.number is) u.threads o.threads) (apart t.birth t.number made)));
  numbers = o.numbers;
  uses = every-push (λ x. was_thread v x.number) u.threads t (every-more (λ x. was_thread u x.number) (λ x. was_thread v x.number) (λ x is. has-kept (λ (y : UsedThread). y.number == x.number) u.used_threads (record { number = t.number; process = t.process }) is) u.threads o.uses) (has-push (λ (y : UsedThread). y.number == t.number) u.used_threads (record { number = t.number; process = t.process }) (same-number t.number));
  zero = none u.used_threads o.zero id;
  once = new-once u.threads t o.once (has-off (is_thread t.number) u.threads (every-more (λ x. was_thread u x.number) (λ x. not (is_thread t.number x)) (λ x used. off x (is_thread t.number x) refl used) u.threads o.uses));
  sections = every-more (λ s. is_drawn u s.birth) (λ s. is_drawn v s.birth) (λ s is. drawn s.birth is) u.sections o.sections;
  contents = drawn-more u v drawn u.contents o.contents;
  tokens = every-more (λ t. is_drawn u t.birth) (λ t. is_drawn v t.birth) (λ t is. drawn t.birth is) u.tokens o.tokens;
}
  where
    v : World
    v = basic u (AddsThread t)

    drawn : (b : Birth) → is_drawn u b ≡ true → is_drawn v b ≡ true
    drawn b is =
        let maker : was_thread u b.maker ≡ true = first-true _ _ is in
        and_from _ _ (has-kept (λ (y : UsedThread). y.number == b.maker) u.used_threads (record { number = t.number; process = t.process }) maker)
        (every-push (is_before b) u.threads t (second-true (was_thread u b.maker) _ is) (rw (other (b.maker == t.number) refl maker) refl))
      where
        other : (e : Bool) → (b.maker == t.number) ≡ e → was_thread u b.maker ≡ true → e ≡ false
        other false off used = refl
        other true same used = let never : was_thread u t.number ≡ true = subst (λ n. was_thread u n ≡ true) (eqb-true b.maker t.number same) used in absurd (cc)

    off : (x : ThreadRow) (e : Bool) → is_thread t.number x ≡ e → was_thread u x.number ≡ true → not e ≡ true
    off x false apart used = refl
    off x true is used = let never : was_thread u t.number ≡ true = subst (λ n. was_thread u n ≡ true) (eqb-true x.number t.number is) used in absurd (cc)

    apart : (b : Birth) (n : ℕ) → is_made u b n ≡ true → is_before b t ≡ true
    apart b n is = rw (not-maker u b n t.number is unused id) refl

    past : (ts : List ThreadRow) → every (is_after u) ts ≡ true → every (is_before t.birth) ts ≡ true → every (is_after v) ts ≡ true
    past [] all before = refl
    past (x ∷ xs) all before =
        let here : is_after u x ≡ true = first-true _ _ all in
        and_from _ _ (and_from _ _ (first-true _ _ here) (every-push (λ y. is_before y.birth x) u.threads t (second-true (every (λ q. is_before q.birth x) u.processes) _ here) (first-true _ _ before))) (past xs (second-true _ _ all) (second-true _ _ before))

    none : (xs : List UsedThread) → has (λ y. y.number == 0) xs ≡ false → (t.number == 0) ≡ false → has (λ y. y.number == 0) (xs ++ record { number = t.number; process = t.process } ∷ []) ≡ false
    none [] off id = rw id refl
    none (x ∷ xs) off id = grind (arith, none xs)

-- What a thread makes next
is-id : (n : ℕ) → is_id n ≡ true → (n == 0) ≡ false
is-id n is = grind (arith, nat_tests)

-- a birth of a directive is before each thread's
zero-before : (u : World) (b : Birth) → b.maker ≡ 0 → Born u → every (is_before b) u.threads ≡ true
zero-before u b zero o = every-more (λ t. was_thread u t.number) (is_before b) (λ t used. rw zero (at t (0 == t.number) refl used)) u.threads o.uses
  where
    at : (t : ThreadRow) (e : Bool) → (0 == t.number) ≡ e → was_thread u t.number ≡ true → (not e || nat_lt b.ordinal t.next_ordinal) ≡ true
    at t false off used = refl
    at t true is used = let never : was_thread u 0 ≡ true = subst (λ n. was_thread u n ≡ true) (sym (eqb-true 0 t.number is)) used in absurd (cc)

-- a thread that calls has drawn the ordinals of what it makes
used-live : (u : World) (by : ThreadRow) → live_thread u by.number ≡ Some by → Born u → was_thread u by.number ≡ true
used-live u by live o = every-first (λ t. was_thread u t.number) (is_live_thread by.number) u.threads by o.uses live

drawn-past : (u : World) (by : ThreadRow) (f : ThreadRow → ThreadRow) (b : Birth) → live_thread u by.number ≡ Some by → b.maker ≡ by.number → ((t : ThreadRow) → (f t).number ≡ t.number) → nat_lt b.ordinal (f by).next_ordinal ≡ true → Born u → every (is_before b) (change (is_thread by.number) f u.threads) ≡ true
drawn-past u by f b live maker numbers before o =
    every-change_to (λ t. not (is_thread by.number t) || is_before b (f t)) (is_before b) (is_thread by.number) f
    (λ t either is. or-last (is_thread by.number t) (is_before b (f t)) is either)
    (λ t either off. rw (maker, other t off) refl) u.threads
    (lone (is_thread by.number) (λ t. is_before b (f t)) (is_live_thread by.number) u.threads by (o.once by.number) live (same-number by.number) (here (b.maker == (f by).number)))
  where
    here : (e : Bool) → (not e || nat_lt b.ordinal (f by).next_ordinal) ≡ true
    here true = before
    here false = refl

    other : (t : ThreadRow) → is_thread by.number t ≡ false → (by.number == t.number) ≡ false
    other t off = false_from_ne_true (by.number == t.number) (λ is. let same : is_thread by.number t ≡ true = subst (λ n. (n == by.number) ≡ true) (eqb-true by.number t.number is) (same-number by.number) in cc)

less-next : (n : ℕ) → nat_lt n (n + 1) ≡ true
less-next n = grind (arith, nat_tests)

less-second : (n : ℕ) → nat_lt n (n + 1 + 1) ≡ true
less-second n = grind (arith, nat_tests)

change-twice : (p : ThreadRow → Bool) (f : ThreadRow → ThreadRow) → ((t : ThreadRow) → p (f t) ≡ p t) → (ts : List ThreadRow) → change p f (change p f ts) ≡ change p (λ t. f (f t)) ts
change-twice p f same [] = refl
change-twice p f same (t ∷ ts) = grind (arith, same t, change-twice p f same ts)

made-by : (u : World) (b : Birth) (n : ℕ) → was_thread u b.maker ≡ true → is_made u b n ≡ true
made-by u b n used = rw used (or-true ((b.maker == 0) && (b.ordinal == n)))

-- Calls
pub ending-none : (b : Basic) → is_ending b ≡ true → makes_none b ≡ true
ending-none (AddsProcess p) is = absurd (cc)
ending-none (AddsThread t) is = absurd (cc)
ending-none (AddsSection s) is = absurd (cc)
ending-none (AddsToken t) is = absurd (cc)
ending-none b is = refl

pub enter-none : (m : MessageRow) (v : World) → every makes_none (enter m v) ≡ true
enter-none m v = every-more is_ending makes_none ending-none (enter m v) (ending-enter m v)

taken-none : (m : MessageRow) → every makes_none (received_steps m) ≡ true
taken-none m = every-more is_ending makes_none ending-none (received_steps m) (ending-receipt m)

given-none : (u : World) (port : PortRow) (o : Option Message) → Holds (λ bs. every makes_none bs ≡ true) (given_reply u port o)
given-none u port None = refl
given-none u port (Some m) = bind_holds (reply_test u port m) _ (λ bs. every makes_none bs ≡ true) (λ x _. reply-cases (λ r. every makes_none (r ∷ []) ≡ true) x m refl refl (λ _. refl))

module _ (u : World) (by : ThreadRow) (live : live_thread u by.number ≡ Some by) (o : Born u) where
  used : was_thread u by.number ≡ true
  used = used-live u by live o

  spawned : (pid tid : ℕ) → (is_id pid && is_id tid) ≡ true → was_thread u tid ≡ false → Born (world_after u (making_process u by pid tid))
  spawned pid tid ids unused =
      let v : World = basic (basic u (DrawsOrdinal by.number)) (DrawsOrdinal by.number) in
      let two : Born v = nones-born u (DrawsOrdinal by.number ∷ DrawsOrdinal by.number ∷ []) refl o in
      let twice : v.threads ≡ change (is_thread by.number) (λ t. past_ordinal (past_ordinal t)) u.threads = change-twice (is_thread by.number) past_ordinal (λ t. refl) u.threads in
      let first_past : every (is_before (next_birth by)) v.threads ≡ true = rw twice (drawn-past u by (λ t. past_ordinal (past_ordinal t)) (next_birth by) live refl (λ t. refl) (less-second by.next_ordinal) o) in
      let next_past : every (is_before (second_birth by)) v.threads ≡ true = rw twice (drawn-past u by (λ t. past_ordinal (past_ordinal t)) (second_birth by) live refl (λ t. refl) (less-next (by.next_ordinal + 1)) o) in
      let three = process-born v (new_process pid (Some by.process) (next_birth by) (token_of u by.process)) (made-by v (next_birth by) pid used) first_past two in
      let four = thread-born (basic v (AddsProcess (new_process pid (Some by.process) (next_birth by) (token_of u by.process)))) (new_thread tid pid (second_birth by)) (made-by v (second_birth by) tid used) next_past unused (is-id tid (second-true _ _ ids)) three in
      record { processes = four.processes; threads = four.threads; past = four.past; numbers = four.numbers; uses = four.uses; zero = four.zero; once = four.once; sections = four.sections; contents = four.contents; tokens = four.tokens }

  started : (tid pid : ℕ) → is_id tid ≡ true → was_thread u tid ≡ false → Born (world_after u (making_thread u by tid pid))
  started tid pid id unused =
      let v : World = basic u (DrawsOrdinal by.number) in
      let two : Born v = none-born u (DrawsOrdinal by.number) refl o in
      let next_past : every (is_before (next_birth by)) v.threads ≡ true = drawn-past u by past_ordinal (next_birth by) live refl (λ t. refl) (less-next by.next_ordinal) o in
      let three = thread-born v (new_thread tid pid (next_birth by)) (made-by v (next_birth by) tid used) next_past unused (is-id tid id) two in
      record { processes = three.processes; threads = three.threads; past = three.past; numbers = three.numbers; uses = three.uses; zero = three.zero; once = three.once; sections = three.sections; contents = three.contents; tokens = three.tokens }

  sectioned : (size prot : ℕ) → Born (world_after u (section_steps by size prot (free_handle u by.process)))
  sectioned size prot =
      let v : World = basic u (DrawsOrdinal by.number) in
      let two : Born v = none-born u (DrawsOrdinal by.number) refl o in
      let next_past : every (is_before (next_birth by)) v.threads ≡ true = drawn-past u by past_ordinal (next_birth by) live refl (λ t. refl) (less-next by.next_ordinal) o in
      let new : is_drawn v (next_birth by) ≡ true = and_from _ _ used next_past in
      record {
        processes = two.processes;
        threads = two.threads;
        past = two.past;
        numbers = two.numbers;
        uses = two.uses;
        zero = two.zero;
        once = two.once;
        sections = every-push (λ s. is_drawn v s.birth) u.sections (new_section by size prot) two.sections new;
        contents = drawn-added v (new_section by size prot) u.contents new two.contents;
        tokens = two.tokens;
      }

  tokened : (name : CallName) (content : Effective) → Born (world_after u (token_steps by name content (free_handle u by.process)))
  tokened name content =
      let v : World = basic u (DrawsOrdinal by.number) in
      let two : Born v = none-born u (DrawsOrdinal by.number) refl o in
      let next_past : every (is_before (next_birth by)) v.threads ≡ true = drawn-past u by past_ordinal (next_birth by) live refl (λ t. refl) (less-next by.next_ordinal) o in
      record {
        processes = two.processes;
        threads = two.threads;
        past = two.past;
        numbers = two.numbers;
        uses = two.uses;
        zero = two.zero;
        once = two.once;
        sections = two.sections;
        contents = two.contents;
        tokens = every-push (λ t. is_drawn v t.birth) u.tokens (new_token by content) two.tokens (and_from _ _ used next_past);
      }

  nones : (bs : List Basic) → every makes_none bs ≡ true → Born (world_after u bs)
  nones bs all = nones-born u bs all o

  born-outcomes : Outcomes u by (λ call bs. has_call_ids call ≡ true → Born (world_after u bs))
  born-outcomes = record {
    creates = λ dacl _. nones (create_steps by (unnamed_steps (next_birth by)) (free_handle u by.process)) refl;
    founds = λ name dacl path free _. nones (create_steps by (named_steps (next_birth by) path) (free_handle u by.process) ++ guard_steps (next_birth by) (Some name) dacl) (guard-pass makes_none (λ _ _. refl) (next_birth by) dacl);
    connects = λ name quality word bytes offer own q is _.
        let y = connection_request by offer bytes in
        let es = enter (row_of q (client_port by q) y) (world_after u (connect_start by q offer own y)) in
        nones (connect_steps by q offer own y u ++ allow_steps u by quality) (every-append makes_none (es ++ mapped by.process own) (allow_steps u by quality) (every-append makes_none es (mapped by.process own) (enter-none (row_of q (client_port by q) y) (world_after u (connect_start by q offer own y))) (mapped-pass makes_none by.process (λ _. refl) own)) refl);
    listens = λ handle port m l at _. nones (listen_steps by port.birth (Some m)) (taken-none m);
    awaits_connect = λ handle port l at _. nones (listen_steps by port.birth None) refl;
    refuses = λ context bytes word a at _. nones (refuse_steps by a) refl;
    accepts = λ context bytes word offer a views is _. nones (accept_steps by context (free_handle u by.process) a views) (shared-pass makes_none by a.wait (λ _. refl) (λ _. refl) views);
    completes = λ handle r at _. nones (complete_steps by (free_handle u r.wait.process) r) refl;
    sends = λ handle bytes s at _.
        let y = sent_by by DATAGRAM s.message in
        nones (datagram_steps by s.port s.queue y u) (enter-none (row_of s.queue s.port y) (world_after u (datagram_start by)));
    asks = λ handle bytes s at _.
        let y = sent_by by REQUEST s.message in
        nones (request_steps by s.port s.queue y u) (enter-none (row_of s.queue s.port y) (world_after u (request_start by s.port.birth s.queue y)));
    replies = λ handle bytes port m x at read fits _. nones (reply_steps by x m) (reply-cases (λ r. every makes_none (r ∷ []) ≡ true) x m refl refl (λ _. refl));
    receives = λ handle bytes a port queue replied m r at _. nones (receive_steps by port queue replied (Some m)) (every-append makes_none replied _ (given port a replied r.reply_made) (taken-none m));
    awaits_message = λ handle bytes a port queue replied r at _. nones (receive_steps by port queue replied None) (every-append makes_none replied _ (given port a replied r.reply_made) refl);
    registers = λ handle port at new few _. none-born u (Registers by.number port.birth) refl o;
    repeats = λ handle port at known _. o;
    closes = λ handle r at _. nones (close_steps by r u) (every-more is_ending makes_none ending-none (close_handle by.process r u) (handle-ending by.process r u));
    duplicates = λ handle access r at _. nones (duplicate_steps by (free_handle u by.process) r (asked r access)) refl;
    queries = λ handle r at _. o;
    spawns = λ pid tid new unused ids. spawned pid tid ids unused;
    starts = λ target tid pid at lives unused id. started tid pid id unused;
    makes_section = λ size prot asked _. sectioned size prot;
    maps_view = λ handle offset size prot s rounded base is _. nones (map_steps by (mapped_view s offset rounded prot base)) refl;
    unmaps_view = λ address v at _. nones (unmap_steps by v) refl;
    reads_memory = λ address n v at _. o;
    writes_memory = λ address new v at may _. nones (write_steps by address new v) refl;
    reads_range = λ handle bytes index n d at _. o;
    writes_range = λ handle bytes index new d at may _. nones (write_range_steps by new d) refl;
    impersonates = λ handle bytes own allowed _. nones (impersonate_steps by own) refl;
    reverts = λ class _. nones (revert_steps by) refl;
    opens_own = λ own at _. tokened NtOpenThreadToken (held_content own);
    opens_primary = λ _. tokened NtOpenProcessToken (process_content u by);
    asks_token = λ handle class t field at told _. o;
    sets = λ target class handle pid port at found live _. set-passes (λ bs. Born (world_after u bs)) by class pid port.birth (nones (set_told by ∷ SetsDebug pid port.birth ∷ []) refl) (nones (set_told by ∷ SetsException pid port.birth ∷ []) refl);
    handles = λ code handled _. o;
    hears = λ code handled h is _. nones (raise_steps by code handled (Heard h) u) (enter-none (row_of h.queue h.port (event_message (client_of by) by.next_identifier code h.chance)) (world_after u (event_begun by code handled h)));
    fails = λ code handled _. nones (Dooms by.process code ∷ []) refl;
    ends = λ call name own pid code ts doomed _. let bs = answered_end by name own pid code ts u in nones bs (every-more is_ending makes_none ending-none bs (steps-end u by name own pid code ts));
  }
    where
      given : (port : PortRow) (a : Option Message) (replied : List Basic) → given_reply u port a ≡ Ok replied → every makes_none replied ≡ true
      given port a replied at = holds_ok (λ bs. every makes_none bs ≡ true) (given_reply u port a) replied (given-none u port a) at

  call-born : (call : ScriptCall) → has_call_ids call ≡ true → Holds (λ bs. Born (world_after u bs)) (served u by call)
  call-born call ids =
      let P : ScriptCall → List Basic → Type 0 = λ call bs. has_call_ids call ≡ true → Born (world_after u bs) in
      holds-more (P call) (λ bs. Born (world_after u bs)) (served u by call) (λ bs born. born ids) (served-does u by P born-outcomes (λ handle r fields at _. o) call)

-- Directives
boot-born : (u : World) (pid tid : ℕ) (name : Option (List ℕ)) → (is_id pid && is_id tid) ≡ true → Born u → Holds (λ bs. Born (world_after u bs)) (boot_line u pid tid name)
unfolding boot_line
boot-born u pid tid name ids o =
    bind_holds (boot_token u name) _ (λ bs. Born (world_after u bs)) (λ content _.
    bind_holds (unused_test u pid tid) _ (λ bs. Born (world_after u bs)) (λ v is.
    let neither = not_refused (was_process u pid || was_thread u tid) OBJECT_NAME_COLLISION v is in
    let unused : was_thread u tid ≡ false = second-off (was_process u pid) (was_thread u tid) neither in
    let p = new_process pid None (directive_birth pid pid) content in
    let one = process-born u p (rw (same-number pid) refl) (zero-before u (directive_birth pid pid) refl o) o in
    thread-born (basic u (AddsProcess p)) (new_thread tid pid (directive_birth tid pid)) (rw (same-number tid) refl) (zero-before u (directive_birth tid pid) refl o) unused (is-id tid (second-true _ _ ids)) one))

token-born : (u : World) (name : List ℕ) (content : Token) → Born u → Holds (λ bs. Born (world_after u bs)) (token_line u name content)
unfolding token_line
token-born u name content o = bind_holds (refuse_if (is_some (named_token u name)) OBJECT_NAME_COLLISION) _ (λ bs. Born (world_after u bs)) (λ _ _. nones-born u (NamesToken (record { name = name; token = content }) ∷ []) refl o)

further-born : (u : World) (tid pid : ℕ) → is_id tid ≡ true → Born u → Holds (λ bs. Born (world_after u bs)) (thread_line u tid pid)
unfolding thread_line
further-born u tid pid id o =
    bind_holds (thread_test u tid pid) _ (λ bs. Born (world_after u bs)) (λ v is.
    let found = holds_ok (λ _. (is_live u pid ≡ true) × (was_thread u tid ≡ false)) (thread_test u tid pid) v (tested-further u tid pid) is in
    thread-born u (new_thread tid pid (directive_birth tid pid)) (rw (same-number tid) refl) (zero-before u (directive_birth tid pid) refl o) found.1 (is-id tid id) o)

dir-born : (u : World) (text : List ℕ) → Born u → Holds (λ bs. Born (world_after u bs)) (dir_line u text)
unfolding dir_line
dir-born u text o = bind_holds (free_name u text) _ (λ bs. Born (world_after u bs)) (λ path _. nones-born u (Binds path (Stands Directory) ∷ []) refl o)

link-born : (u : World) (text target : List ℕ) → Born u → Holds (λ bs. Born (world_after u bs)) (link_line u text target)
unfolding link_line
link-born u text target o = bind_holds (spelled_name target) _ (λ bs. Born (world_after u bs)) (λ to _. bind_holds (free_name u text) _ (λ bs. Born (world_after u bs)) (λ path _. nones-born u (Binds path (LinkTo to) ∷ []) refl o))

-- Lines
ready-born : (u : World) (by : ThreadRow) (call : ScriptCall) (o : Option WaitRow) → live_thread u by.number ≡ Some by → has_call_ids call ≡ true → Born u → Born (world_after u (served_ready by call o u))
ready-born u by call (Some x) live ids o = o
ready-born u by call None live ids o = settled_holds (λ bs. Born (world_after u bs)) by (name_of_call call) (served u by call) (call-born u by live o call ids) (λ _ _. o)

thread-line-born : (u : World) (tid : ℕ) (call : ScriptCall) (t : Option ThreadRow) → live_thread u tid ≡ t → has_call_ids call ≡ true → Born u → Born (world_after u (served_thread tid call t u))
thread-line-born u tid call None live ids o = o
thread-line-born u tid call (Some by) live ids o = ready-born u by call (wait_of u tid) (subst (λ n. live_thread u n ≡ Some by) (sym (live-number u tid by live)) live) ids o

pub line-born : (u : World) (line : ScriptLine) → has_ids line ≡ true → Born u → Born (own_served_step u line).world
unfolding own_steps
line-born u (boot pid tid name) ids o = directed_holds (λ bs. Born (world_after u bs)) word.Boot (boot_line u pid tid name) (boot-born u pid tid name ids o) (λ _. o)
line-born u (token name content) ids o = directed_holds (λ bs. Born (world_after u bs)) word.Token (token_line u name content) (token-born u name content o) (λ _. o)
line-born u (thread tid pid) ids o = directed_holds (λ bs. Born (world_after u bs)) word.Thread (thread_line u tid pid) (further-born u tid pid (first-true _ _ ids) o) (λ _. o)
line-born u (dir path) ids o = directed_holds (λ bs. Born (world_after u bs)) word.Dir (dir_line u path) (dir-born u path o) (λ _. o)
line-born u (link path target) ids o = directed_holds (λ bs. Born (world_after u bs)) word.Link (link_line u path target) (link-born u path target o) (λ _. o)
line-born u (of_resident tid what had) ids o = o
line-born u (run tid call) ids o = thread-line-born u tid call (live_thread u tid) refl (second-true (is_id tid) _ ids) o

pub born_none : Born no_rows
born_none = record { processes = refl; threads = refl; past = refl; numbers = refl; uses = refl; zero = refl; once = λ n. omega arith; sections = refl; contents = refl; tokens = refl }

-- What is made next is new
before-new : (b : Birth) (by : ThreadRow) (n : Birth) → is_before b by ≡ true → n.maker ≡ by.number → nat_lt n.ordinal by.next_ordinal ≡ false → not (same_birth b n) ≡ true
before-new b by n before maker past = at (same_birth b n) refl
  where
    at : (e : Bool) → same_birth b n ≡ e → not e ≡ true
    at false off = refl
    at true is =
        let it : (not (by.number == by.number) || nat_lt n.ordinal by.next_ordinal) ≡ true = subst (λ i. (not (i == by.number) || nat_lt n.ordinal by.next_ordinal) ≡ true) maker (subst (λ (x : Birth). is_before x by ≡ true) (birth-same b n is) before) in
        let self = same-number by.number in absurd (grind arith)

not-less : (n : ℕ) → nat_lt n n ≡ false
not-less n = grind (arith, nat_tests)

not-less-next : (n : ℕ) → nat_lt (n + 1) n ≡ false
not-less-next n = grind (arith, nat_tests)

pub next-process : (u : World) (by : ThreadRow) → live_thread u by.number ≡ Some by → Born u → every (λ p. not (same_birth p.birth (next_birth by))) u.processes ≡ true
next-process u by live o = every-more (λ p. is_before p.birth by) (λ p. not (same_birth p.birth (next_birth by))) (λ p is. before-new p.birth by (next_birth by) is refl (not-less by.next_ordinal)) u.processes
    (first-true _ _ (every-first (is_after u) (is_live_thread by.number) u.threads by o.past live))

pub next-threads : (u : World) (by : ThreadRow) → live_thread u by.number ≡ Some by → Born u → every (λ t. not (same_birth t.birth (next_birth by) || same_birth t.birth (second_birth by))) u.threads ≡ true
next-threads u by live o = every-more (λ t. is_before t.birth by) (λ t. not (same_birth t.birth (next_birth by) || same_birth t.birth (second_birth by)))
    (λ t is. neither (same_birth t.birth (next_birth by)) (same_birth t.birth (second_birth by)) (before-new t.birth by (next_birth by) is refl (not-less by.next_ordinal)) (before-new t.birth by (second_birth by) is refl (not-less-next by.next_ordinal))) u.threads
    (second-true (every (λ p. is_before p.birth by) u.processes) _ (every-first (is_after u) (is_live_thread by.number) u.threads by o.past live))
  where
    neither : (a b : Bool) → not a ≡ true → not b ≡ true → not (a || b) ≡ true
    neither a b one two = grind arith

drawn-new : (u : World) (by : ThreadRow) (b : Birth) → live_thread u by.number ≡ Some by → is_drawn u b ≡ true → not (same_birth b (next_birth by)) ≡ true
drawn-new u by b live is = before-new b by (next_birth by) (every-first (is_before b) (is_live_thread by.number) u.threads by (second-true (was_thread u b.maker) _ is) live) refl (not-less by.next_ordinal)

pub next-sections : (u : World) (by : ThreadRow) → live_thread u by.number ≡ Some by → Born u → every (λ s. not (same_birth s.birth (next_birth by))) u.sections ≡ true
next-sections u by live o = every-more (λ s. is_drawn u s.birth) (λ s. not (same_birth s.birth (next_birth by))) (λ s is. drawn-new u by s.birth live is) u.sections o.sections

pub next-tokens : (u : World) (by : ThreadRow) → live_thread u by.number ≡ Some by → Born u → every (λ t. not (same_birth t.birth (next_birth by))) u.tokens ≡ true
next-tokens u by live o = every-more (λ t. is_drawn u t.birth) (λ t. not (same_birth t.birth (next_birth by))) (λ t is. drawn-new u by t.birth live is) u.tokens o.tokens

pub next-contents : (u : World) (by : ThreadRow) → live_thread u by.number ≡ Some by → Born u → every (λ c. not (same_birth c.section (next_birth by))) (content_rows u.contents) ≡ true
next-contents u by live o = every-more (λ c. is_drawn u c.section) (λ c. not (same_birth c.section (next_birth by))) (λ c is. drawn-new u by c.section live is) (content_rows u.contents) o.contents

-- a directive's number gives a birth that no row has
directed-new : (u : World) (b : Birth) (n number pid : ℕ) → is_made u b n ≡ true → was_thread u 0 ≡ false → (n == number) ≡ false → not (same_birth b (directive_birth number pid)) ≡ true
directed-new u b n number pid made zero off = at (same_birth b (directive_birth number pid)) refl
  where
    at : (e : Bool) → same_birth b (directive_birth number pid) ≡ e → not e ≡ true
    at false apart = refl
    at true is =
        let it : (((0 == 0) && (number == n)) || was_thread u 0) ≡ true = subst (λ (x : Birth). (((x.maker == 0) && (x.ordinal == n)) || was_thread u x.maker) ≡ true) (birth-same b (directive_birth number pid) is) made in
        let same : (number == n) ≡ true = grind arith in
        let back : (n == number) ≡ true = subst (λ i. (i == number) ≡ true) (eqb-true number n same) (same-number number) in absurd (cc)

unlike : (was : ℕ → Bool) (n number : ℕ) → was n ≡ true → was number ≡ false → (n == number) ≡ false
unlike was n number is off = false_from_ne_true (n == number) (λ same. let k : was n ≡ was number = ap was (eqb-true n number same) in cc)

pub directed-processes : (u : World) (pid : ℕ) → was_process u pid ≡ false → Born u → every (λ p. not (same_birth p.birth (directive_birth pid pid)) && not (p.number == pid)) u.processes ≡ true
directed-processes u pid off o = every-both (λ p. is_made u p.birth p.number) (λ p. was_process u p.number) (λ p. not (same_birth p.birth (directive_birth pid pid)) && not (p.number == pid))
    (λ p made used. let apart = unlike (was_process u) p.number pid used off in and_from _ _ (directed-new u p.birth p.number pid pid made o.zero apart) (rw apart refl)) u.processes o.processes o.numbers

pub directed-threads : (u : World) (tid pid : ℕ) → was_thread u tid ≡ false → Born u → every (λ t. not (same_birth t.birth (directive_birth tid pid))) u.threads ≡ true
directed-threads u tid pid off o = every-both (λ t. is_made u t.birth t.number) (λ t. was_thread u t.number) (λ t. not (same_birth t.birth (directive_birth tid pid)))
    (λ t made used. directed-new u t.birth t.number tid pid made o.zero (unlike (was_thread u) t.number tid used off)) u.threads o.threads o.uses
