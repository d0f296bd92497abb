-- The numbers of processes are below 2^31, so a message's client reads back from its bytes.
use Rattle.lpc_subsys.specs.Clients.{History}
use Rattle.lpc_model.specs.Residents.{State, win32}
use Rattle.lpc_model.proofs.Residents.{done-ids}
use Rattle.std.proofs.Common.{◌≡◌, ◌≤◌, ◌%◌, ◌/◌, ◌+◌, ◌*◌, ℕ, List, [], ◌∷◌, ◌++◌, Bool, true, false, not, Option, Some, None, refl, subst, arith}
use Rattle.std.specs.Prelude.{◌&&◌, ◌==◌, codes, nat_le, nat_lt, length, Result, Ok, Err, if◌then◌else◌}
use Rattle.std.proofs.lemmas.Bool.{and_from, eqb-true}
use Rattle.std.proofs.lemmas.Bool.Decides.{nat_tests}
use Rattle.lpc_base.specs.Rows.{every, first, passes}
use Rattle.lpc_base.proofs.RowWords.{every-more, first-passes}
use Rattle.lpc_base.proofs.RowMaps.{every-first}
use Rattle.lpc_base.proofs.Bools.{first-true, same-number, second-true}
use Rattle.lpc_base.specs.declared.limits.TheConstants.{LINES_LIMIT, LINE_LIMIT}
use Rattle.lpc_message.specs.Layout.{header_bytes, header_of}
use Rattle.lpc_message.specs.declared.message.Header.{Header}
use Rattle.lpc_model.specs.declared.fault.LineFault.{LineFault}
use Rattle.lpc_model.specs.declared.fault.LineFault.TheVariants as fault
use Rattle.lpc_model.specs.declared.entry.Word.{Word}
use Rattle.lpc_model.specs.declared.entry.Word.TheVariants.{Boot, Thread, Dir, Link}
use Rattle.lpc_model.specs.declared.entry.Word.TheVariants as word
use Rattle.std.specs.Option.{ok_or}
use Rattle.lpc_model.specs.declared.message.Message.{Message}
use Rattle.lpc_model.specs.Message.{bytes_of}
use Rattle.lpc_model.specs.Then.{◌>>=◌}
use Rattle.lpc_model.specs.World.{MessageRow, UsedThread, World}
use Rattle.lpc_model.specs.Words.{begins, fault_if, id_word, info_word, is_id, message_word, number_word, words}
use Rattle.lpc_model.specs.Grammar.{accept_word, access_word, call_line, call_named, call_words, four_words, handle_and_message, handle_and_reply, has_call_ids, one_handle, process_and_thread, qos_word, target_and_code, target_and_thread, target_word, view_word, directive_line, directive_named, directive_words, has_ids, one_word, is_printable, read_line, starts_call, thread_call, two_words, words_line, two_numbers, four_numbers, address_and_bytes, range_words, range_and_bytes, fixed_word, given_dacl, no_words, one_or_two_words, process_and_token, token_words, given_token, two_or_three_words, handled_word, three_words, kind_word}
use Rattle.lpc_model.specs.declared.entry.CallName.{CallName}
use Rattle.lpc_model.specs.declared.entry.CallName.TheVariants.{NtAcceptConnectPort, NtClose, NtCompleteConnectPort, NtConnectPort, NtCreatePort, NtCreateProcess, NtCreateThread, NtDuplicateObject, NtListenPort, NtQueryObject, NtRegisterThreadTerminatePort, NtReplyPort, NtReplyWaitReceivePort, NtRequestPort, NtRequestWaitReplyPort, NtTerminateProcess, NtTerminateThread, NtCreateSection, NtMapViewOfSection, NtUnmapViewOfSection, NtReadVirtualMemory, NtWriteVirtualMemory, NtReadRequestData, NtWriteRequestData, NtImpersonateClientOfPort, NtSetInformationThread, NtOpenThreadToken, NtOpenProcessToken, NtQueryInformationToken, NtSetInformationProcess, Raise}
use Rattle.lpc_model.specs.declared.line.ProcArg.{ProcArg}
use Rattle.lpc_model.specs.Lines.{ScriptCall, ScriptLine}
use Rattle.lpc_model.specs.Run.{first_state, state_behind, done_from, numbered_line, said_from, said_in, unless_faulty}
use Rattle.lpc_model.specs.Script.{script_lines}
use Rattle.std.specs.List.{list_all}
use Rattle.lpc_model.specs.Found.{is_used_thread}
use Rattle.lpc_model.proofs.GivenBytes.{Gives, gives_ok, then_gives}
use Rattle.lpc_isolation.proofs.Rows.Fair.{is_sent}
use Rattle.lpc_isolation.proofs.Each.Takes.{is_readable}
use Rattle.lpc_isolation.proofs.Plays.Play.{are_ok}

-- a number reads back
word-back : (p : ℕ) → nat_le p 2147483647 ≡ true → p % 256 + 256 * (p / 256 % 256 + 256 * (p / 65536 % 256 + 256 * (p / 16777216 % 256 + 256 * 0))) ≡ p
word-back p few = let le : p ≤ 2147483647 = grind (arith, nat_tests) in omega (arith, le)

client-back : (h : Header) (body : List ℕ) → nat_le h.client.process 2147483647 ≡ true → (header_of (header_bytes h ++ body)).client.process ≡ h.client.process
client-back h body few = word-back h.client.process few

-- the numbers that were used for processes and threads
abbrev pub of_number : UsedThread → Bool
of_number u = nat_le u.process 2147483647 && nat_le u.number 2147483647

abbrev pub Numbered : World → Type 0
Numbered w = every of_number w.used_threads ≡ true

pub reads-back : (us : List UsedThread) → every of_number us ≡ true → (x : MessageRow) → is_sent us x ≡ true → is_readable x ≡ true
unfolding bytes_of
reads-back us all x sent = at (first (is_used_thread x.message.header.client.thread) us) refl sent
  where
    at : (o : Option UsedThread) → first (is_used_thread x.message.header.client.thread) us ≡ o → passes o (λ u. u.process == x.message.header.client.process) ≡ true → is_readable x ≡ true
    at None none is = absurd (cc)
    at (Some u) some is =
        let same : u.process ≡ x.message.header.client.process = eqb-true _ _ is in
        let few : nat_le x.message.header.client.process 2147483647 ≡ true = subst (λ n. nat_le n 2147483647 ≡ true) same (first-true _ _ (every-first of_number (is_used_thread x.message.header.client.thread) us u all some)) in
        rw (client-back x.message.header x.message.body few) (same-number x.message.header.client.process)

-- and so does its thread
thread-back : (h : Header) (body : List ℕ) → nat_le h.client.thread 2147483647 ≡ true → (header_of (header_bytes h ++ body)).client.thread ≡ h.client.thread
thread-back h body few = word-back h.client.thread few

pub thread-reads : (us : List UsedThread) → every of_number us ≡ true → (x : MessageRow) → is_sent us x ≡ true → (header_of (bytes_of x.message)).client.thread ≡ x.message.header.client.thread
unfolding bytes_of
thread-reads us all x sent = at (first (is_used_thread x.message.header.client.thread) us) refl sent
  where
    at : (o : Option UsedThread) → first (is_used_thread x.message.header.client.thread) us ≡ o → passes o (λ u. u.process == x.message.header.client.process) ≡ true → (header_of (bytes_of x.message)).client.thread ≡ x.message.header.client.thread
    at None none is = absurd (cc)
    at (Some u) some is =
        let same : u.number ≡ x.message.header.client.thread = eqb-true _ _ (first-passes (is_used_thread x.message.header.client.thread) us u some) in
        let few : nat_le x.message.header.client.thread 2147483647 ≡ true = subst (λ n. nat_le n 2147483647 ≡ true) same (second-true _ _ (every-first of_number (is_used_thread x.message.header.client.thread) us u all some)) in
        thread-back x.message.header x.message.body few

-- and its kind, where that is a number of two bytes
half-back : (k : ℕ) → nat_le k 65535 ≡ true → k % 256 + 256 * (k / 256 % 256 + 256 * 0) ≡ k
half-back k few = let le : k ≤ 65535 = grind (arith, nat_tests) in omega (arith, le)

pub kind-reads : (m : Message) → nat_le m.header.kind 65535 ≡ true → (header_of (bytes_of m)).kind ≡ m.header.kind
unfolding bytes_of
kind-reads m few = half-back m.header.kind few

pub all-readable : (w : World) → Numbered w → every (is_sent w.used_threads) w.messages ≡ true → every is_readable w.messages ≡ true
all-readable w all sent = every-more (is_sent w.used_threads) is_readable (reads-back w.used_threads all) w.messages sent

-- What a line says has such numbers
abbrev IsId : ℕ → Type 0
IsId n = is_id n ≡ true

unfaulted : (n : ℕ) (b : Bool) → is_id n ≡ b → Gives IsId (fault_if (not b) fault.Number >>= (λ _. Ok n))
unfaulted n true is = is
unfaulted n false is = tt

id-says : (word : List ℕ) → Gives IsId (id_word word)
unfolding id_word
id-says word = then_gives (number_word word) (λ n. fault_if (not (is_id n)) fault.Number >>= (λ _. Ok n)) IsId (λ n _. unfaulted n (is_id n) refl)

abbrev Ids : ScriptLine → Type 0
Ids line = has_ids line ≡ true

-- what a call makes
abbrev HasCallIds : ScriptCall → Type 0
HasCallIds call = has_call_ids call ≡ true

process-says : (others : List (List ℕ)) → Gives (λ (made : ℕ × ℕ). (is_id made.0 && is_id made.1) ≡ true) (process_and_thread others)
process-says others =
    let P : ℕ × ℕ → Type 0 = λ made. (is_id made.0 && is_id made.1) ≡ true in
    then_gives (two_words others) _ P (λ two _. then_gives (id_word two.0) _ P (λ pid one. then_gives (id_word two.1) _ P (λ tid other.
    and_from _ _ (gives_ok IsId (id_word two.0) pid (id-says two.0) one) (gives_ok IsId (id_word two.1) tid (id-says two.1) other))))

named-says : (others : List (List ℕ)) → Gives (λ (made : ℕ × ℕ × Option (List ℕ)). (is_id made.0 && is_id made.1) ≡ true) (process_and_token others)
named-says others =
    let P : ℕ × ℕ × Option (List ℕ) → Type 0 = λ made. (is_id made.0 && is_id made.1) ≡ true in
    then_gives (two_or_three_words others) _ P (λ three _. then_gives (id_word three.0) _ P (λ pid one. then_gives (id_word three.1) _ P (λ tid other. then_gives (given_token three.2) _ P (λ name _.
    and_from _ _ (gives_ok IsId (id_word three.0) pid (id-says three.0) one) (gives_ok IsId (id_word three.1) tid (id-says three.1) other)))))

target-says : (others : List (List ℕ)) → Gives (λ (made : ProcArg × ℕ). is_id made.1 ≡ true) (target_and_thread others)
target-says others =
    let P : ProcArg × ℕ → Type 0 = λ made. is_id made.1 ≡ true in
    then_gives (two_words others) _ P (λ two _. then_gives (target_word two.0) _ P (λ target _. then_gives (id_word two.1) _ P (λ tid other.
    gives_ok IsId (id_word two.1) tid (id-says two.1) other)))

words-call : (name : CallName) (others : List (List ℕ)) → Gives HasCallIds (call_words name others)
unfolding call_words
words-call NtCreateProcess others = then_gives (process_and_thread others) _ HasCallIds (λ made is. gives_ok (λ (made : ℕ × ℕ). (is_id made.0 && is_id made.1) ≡ true) (process_and_thread others) made (process-says others) is)
words-call NtCreateThread others = then_gives (target_and_thread others) _ HasCallIds (λ made is. gives_ok (λ (made : ProcArg × ℕ). is_id made.1 ≡ true) (target_and_thread others) made (target-says others) is)
words-call NtCreatePort others = then_gives (one_or_two_words others) _ HasCallIds (λ two _. then_gives (given_dacl two.1) _ HasCallIds (λ _ _. refl))
words-call NtConnectPort others = then_gives (four_words others) _ HasCallIds (λ four _. then_gives (qos_word four.1) _ HasCallIds (λ _ _. then_gives (view_word four.2) _ HasCallIds (λ _ _. then_gives (info_word four.3) _ HasCallIds (λ _ _. refl))))
words-call NtSetInformationProcess others = then_gives (three_words others) _ HasCallIds (λ three _. then_gives (target_word three.0) _ HasCallIds (λ _ _. then_gives (number_word three.1) _ HasCallIds (λ _ _. then_gives (number_word three.2) _ HasCallIds (λ _ _. refl))))
words-call Raise others = then_gives (two_words others) _ HasCallIds (λ two _. then_gives (number_word two.0) _ HasCallIds (λ _ _. then_gives (handled_word two.1) _ HasCallIds (λ _ _. refl)))
words-call NtListenPort others = then_gives (one_handle others) _ HasCallIds (λ _ _. refl)
words-call NtAcceptConnectPort others = then_gives (four_words others) _ HasCallIds (λ four _. then_gives (number_word four.0) _ HasCallIds (λ _ _. then_gives (message_word four.1) _ HasCallIds (λ _ _. then_gives (accept_word four.2) _ HasCallIds (λ _ _. then_gives (view_word four.3) _ HasCallIds (λ _ _. refl)))))
words-call NtCompleteConnectPort others = then_gives (one_handle others) _ HasCallIds (λ _ _. refl)
words-call NtRequestPort others = then_gives (handle_and_message others) _ HasCallIds (λ _ _. refl)
words-call NtRequestWaitReplyPort others = then_gives (handle_and_message others) _ HasCallIds (λ _ _. refl)
words-call NtReplyPort others = then_gives (handle_and_message others) _ HasCallIds (λ _ _. refl)
words-call NtReplyWaitReceivePort others = then_gives (handle_and_reply others) _ HasCallIds (λ _ _. refl)
words-call NtRegisterThreadTerminatePort others = then_gives (one_handle others) _ HasCallIds (λ _ _. refl)
words-call NtClose others = then_gives (one_handle others) _ HasCallIds (λ _ _. refl)
words-call NtDuplicateObject others = then_gives (two_words others) _ HasCallIds (λ two _. then_gives (number_word two.0) _ HasCallIds (λ _ _. then_gives (access_word two.1) _ HasCallIds (λ _ _. refl)))
words-call NtQueryObject others = then_gives (one_handle others) _ HasCallIds (λ _ _. refl)
words-call NtCreateSection others = then_gives (two_numbers others) _ HasCallIds (λ two _. refl)
words-call NtMapViewOfSection others = then_gives (four_numbers others) _ HasCallIds (λ four _. refl)
words-call NtUnmapViewOfSection others = then_gives (one_handle others) _ HasCallIds (λ address _. refl)
words-call NtReadVirtualMemory others = then_gives (two_numbers others) _ HasCallIds (λ two _. refl)
words-call NtWriteVirtualMemory others = then_gives (address_and_bytes others) _ HasCallIds (λ two _. refl)
words-call NtReadRequestData others = then_gives (range_words others) _ HasCallIds (λ range _. refl)
words-call NtWriteRequestData others = then_gives (range_and_bytes others) _ HasCallIds (λ new _. refl)
words-call NtImpersonateClientOfPort others = then_gives (handle_and_message others) _ HasCallIds (λ _ _. refl)
words-call NtSetInformationThread others = then_gives (two_words others) _ HasCallIds (λ two _. then_gives (number_word two.0) _ HasCallIds (λ _ _. then_gives (fixed_word (codes "null") two.1) _ HasCallIds (λ _ _. refl)))
words-call NtOpenThreadToken others = then_gives (no_words others) _ HasCallIds (λ _ _. refl)
words-call NtOpenProcessToken others = then_gives (no_words others) _ HasCallIds (λ _ _. refl)
words-call NtQueryInformationToken others = then_gives (two_numbers others) _ HasCallIds (λ _ _. refl)
words-call NtTerminateThread others = then_gives (target_and_code others) _ HasCallIds (λ _ _. refl)
words-call NtTerminateProcess others = then_gives (target_and_code others) _ HasCallIds (λ _ _. refl)

thread-says : (others : List (List ℕ)) → Gives HasCallIds (thread_call others)
thread-says [] = tt
thread-says (word ∷ others) = then_gives (ok_or (call_named word) fault.Call) _ HasCallIds (λ name _. words-call name others)

call-says : (front : List ℕ) (others : List (List ℕ)) → Gives Ids (call_line front others)
unfolding call_line
call-says front others = then_gives (id_word front) _ Ids (λ tid is. then_gives (thread_call others) _ Ids (λ call made. and_from _ _ (gives_ok IsId (id_word front) tid (id-says front) is) (gives_ok HasCallIds (thread_call others) call (thread-says others) made)))

directive-says : (word : Word) (others : List (List ℕ)) → Gives Ids (directive_words word others)
unfolding directive_words
directive-says Boot others = then_gives (process_and_token others) _ Ids (λ made is. gives_ok (λ (made : ℕ × ℕ × Option (List ℕ)). (is_id made.0 && is_id made.1) ≡ true) (process_and_token others) made (named-says others) is)
directive-says word.Token others = then_gives (token_words others) _ Ids (λ _ _. refl)
directive-says Thread others = then_gives (two_words others) _ Ids (λ two _. then_gives (id_word two.0) _ Ids (λ tid one. then_gives (id_word two.1) _ Ids (λ pid other. and_from _ _ (gives_ok IsId (id_word two.0) tid (id-says two.0) one) (gives_ok IsId (id_word two.1) pid (id-says two.1) other))))
directive-says Dir others = then_gives (one_word others) _ Ids (λ path _. refl)
directive-says Link others = then_gives (two_words others) _ Ids (λ two _. refl)
directive-says word.Resident others = then_gives (three_words others) _ Ids (λ three _. then_gives (id_word three.0) _ Ids (λ tid is. then_gives (kind_word three.1) _ Ids (λ _ _. then_gives (number_word three.2) _ Ids (λ _ _. gives_ok IsId (id_word three.0) tid (id-says three.0) is))))
directive-says word.Turn others = then_gives (one_word others) _ Ids (λ front _. then_gives (id_word front) _ Ids (λ tid is. gives_ok IsId (id_word front) tid (id-says front) is))

word-says : (front : List ℕ) (others : List (List ℕ)) → Gives Ids (directive_line front others)
unfolding directive_line
word-says front others = then_gives (ok_or (directive_named front) fault.Word) _ Ids (λ word _. directive-says word others)

abbrev SomeIds : Option ScriptLine → Type 0
SomeIds None = Unit {0}
SomeIds (Some line) = Ids line

some-says : (b : Bool) (front : List ℕ) (others : List (List ℕ)) → Gives SomeIds ((if b then call_line front others else directive_line front others) >>= (λ line. Ok (Some line)))
some-says true front others = then_gives (call_line front others) _ SomeIds (λ line is. gives_ok Ids (call_line front others) line (call-says front others) is)
some-says false front others = then_gives (directive_line front others) _ SomeIds (λ line is. gives_ok Ids (directive_line front others) line (word-says front others) is)

words-say : (ws : List (List ℕ)) → Gives SomeIds (words_line ws)
words-say [] = tt
words-say (front ∷ others) = some-says (starts_call front) front others

line-says : (line : List ℕ) → Gives SomeIds (read_line line)
unfolding read_line
line-says line = at (nat_lt LINE_LIMIT (length line)) (begins (codes "#") line) (list_all is_printable line)
  where
    at : (a b d : Bool) → Gives SomeIds (if a then Err fault.Long else (if b then Ok None else (if not d then Err fault.Byte else words_line (words line))))
    at true b d = tt
    at false true d = tt
    at false false false = tt
    at false false true = words-say (words line)

numbered-says : (n : ℕ) (line : List ℕ) → Gives SomeIds (numbered_line n line)
numbered-says n line = at (nat_lt LINES_LIMIT n)
  where
    at : (a : Bool) → Gives SomeIds (if a then Err fault.Lines else read_line line)
    at true = tt
    at false = line-says line

said-says : (r : Result (Option ScriptLine) LineFault) (later : List (Option ScriptLine)) → Gives SomeIds r → are_ok has_ids later ≡ true → are_ok has_ids (unless_faulty r later) ≡ true
said-says (Err e) later is rest = refl
said-says (Ok None) later is rest = rest
said-says (Ok (Some line)) later is rest = and_from _ _ is rest

from-says : (n : ℕ) (lines : List (List ℕ)) → are_ok has_ids (said_from n lines) ≡ true
unfolding said_from
from-says n [] = refl
from-says n (line ∷ lines) = said-says (numbered_line n line) (said_from (n + 1) lines) (numbered-says n line) (from-says (n + 1) lines)

-- and so of what the lines come to
done-says : (s : State (List History)) (lines : List (Option ScriptLine)) → are_ok has_ids lines ≡ true → are_ok has_ids (done_from win32 s lines) ≡ true
done-says s [] is = refl
done-says s (None ∷ later) is = done-says (state_behind win32 s None) later is
done-says s (Some line ∷ later) is =
    and_from _ _ (done-ids win32 s line (first-true _ _ is)) (done-says (state_behind win32 s (Some line)) later (second-true _ _ is))

pub script-says : (script : List ℕ) → are_ok has_ids (said_in script) ≡ true
script-says script = done-says first_state (said_from 1 (script_lines script)) (from-says 1 (script_lines script))
