-- What each call owes the law, and that each does so. A further call adds its tests here, its deeds to each law.
use Rattle.lpc_model.specs.declared.entry.Entry.{Entry}
use Rattle.lpc_isolation.proofs.Owed.Given.{gives_token, gives-none}
use Rattle.lpc_isolation.proofs.Each.Exceptions.{raise-calm, set-calm}
use Rattle.lpc_isolation.proofs.Each.Tokens.{own-calm, primary-calm, ask-calm, revert-calm, impersonate-calm, same-impersonate}
use Rattle.lpc_model.specs.Named.{named_port}
use Rattle.lpc_isolation.proofs.Each.Ranges.{read_range-calm, write_range-calm}
use Rattle.lpc_isolation.proofs.Each.Memories.{read-calm, write-calm}
use Rattle.lpc_isolation.proofs.Each.Mappings.{map-calm, unmap-calm}
use Rattle.lpc_isolation.proofs.Each.Sections.{section-calm}
use Rattle.lpc_model.specs.Tests.{next_birth}
use Rattle.lpc_model.specs.Connect.{making}
use Rattle.lpc_isolation.proofs.Rows.Names.{SeenNames}
use Rattle.lpc_isolation.proofs.Each.Receive.{c-receive, names_none}
use Rattle.lpc_isolation.proofs.Views.Mine.{c-reply}
use Rattle.lpc_isolation.proofs.Each.Requests.{c-request}
use Rattle.lpc_isolation.proofs.Each.Sends.{c-request_port}
use Rattle.lpc_isolation.proofs.Each.Completes.{c-complete}
use Rattle.lpc_isolation.proofs.Each.Accepts.{c-answer}
use Rattle.lpc_isolation.proofs.Each.Listens.{c-listen}
use Rattle.lpc_isolation.proofs.Each.Connects.{c-connect, c-making}
use Rattle.lpc_isolation.proofs.Each.Create.{create-c}
use Rattle.lpc_isolation.proofs.Owed.Leads.{leads-call}
use Rattle.std.specs.Prelude.{◌≡◌, ℕ, Bool, true, List, Option, Result, Ok, Err}
use Rattle.std.proofs.Common.{refl, subst, sym, None, Some, ◌∙◌, [], Option, false}
use Rattle.lpc_base.specs.declared.status.Status.{Status}
use Rattle.lpc_model.specs.World.{Birth, Contents, ThreadRow, World, Dacl, Qos, Impersonation}
use Rattle.lpc_model.specs.Basics.{Basic, world_after}
use Rattle.lpc_model.specs.Lines.{ScriptCall, accept_connect_port, close, complete_connect_port, connect_port, create_port, duplicate_object, listen_port, query_object, reply_port, reply_wait_receive_port, request_port, request_wait_reply_port, register_thread_terminate_port, create_process, create_thread, terminate_thread, terminate_process, create_section, map_view_of_section, unmap_view_of_section, read_virtual_memory, write_virtual_memory, read_request_data, write_request_data, open_thread_token, open_process_token, query_information_token, set_information_thread, impersonate_client_of_port, raise, set_information_process}
use Rattle.lpc_model.specs.Death.{code_status}
use Rattle.lpc_isolation.proofs.Gone.Served.{served}
use Rattle.lpc_model.specs.Circle.{Group, is_fine_call, given_in, Nobody}
use Rattle.lpc_model.proofs.Calls.Holding.{Holds, holds-more, holds_any, holds_ok}
use Rattle.lpc_base.specs.Rows.{every}
use Rattle.lpc_isolation.proofs.Views.Alone.{HasFineRows}
use Rattle.lpc_isolation.proofs.Views.View.{view}
use Rattle.lpc_isolation.proofs.Views.Reads.{Reads}
use Rattle.lpc_isolation.proofs.Views.Apart.{are_apart}
use Rattle.lpc_isolation.proofs.Calls.Serves.{is_call_of}
use Rattle.lpc_isolation.proofs.Calls.Lines.{Begins, Serves, begins-of, settle, settle-own}
use Rattle.lpc_isolation.proofs.Calls.Laws.{Lawful, same-used}
use Rattle.lpc_isolation.proofs.Each.Creates.{process-lawful, thread-lawful}
use Rattle.lpc_isolation.proofs.Views.Callers.{Led, Answered, answered-same}
use Rattle.lpc_isolation.proofs.Plays.Lines.{OnceUsed, seeing, IsGiven, own_given}
use Rattle.lpc_isolation.proofs.Rows.Ids.{Numbered, of_number}
use Rattle.lpc_isolation.proofs.Gone.ThinCalls.{create-thin, connect-thin, listen-thin, accept-thin, complete-thin, datagram-thin, request-thin, reply-thin, receive-thin}
use Rattle.lpc_isolation.proofs.Owed.Fine.{fine-deeds}
use Rattle.lpc_isolation.proofs.Owed.Paths.{paths-deeds}
use Rattle.lpc_isolation.proofs.Owed.Asked.{asked-deeds}
use Rattle.lpc_isolation.proofs.Owed.Orderly.{orderly-deeds}
use Rattle.lpc_isolation.proofs.Each.Refuses.{Refuses, refuses-create, refuses-connect, refuses-listen, refuses-accept, refuses-complete, refuses-datagram, refuses-request, refuses-reply, refuses-receive}
use Rattle.lpc_isolation.proofs.Owed.Fair.{fair-deeds}
use Rattle.lpc_isolation.proofs.Each.Instances.{At, Leading, caller, leading, Gives, gives-of, leads_by}
use Rattle.lpc_isolation.proofs.Memory.Calls.{Hears}
use Rattle.lpc_isolation.proofs.Owed.Known.{hears-deeds, notes-deeds}
use Rattle.lpc_isolation.proofs.Each.Closes.{refuses-close, same-close, alike-close}
use Rattle.lpc_isolation.proofs.Each.Terminates.{EndsThreads, alike-ends, leads-ends, own-ends, process-ends-it, refuses-ends, thread-ends-it}
use Rattle.lpc_isolation.proofs.Calls.Calm.{Calm, answers_alike, ends_threads}
use Rattle.lpc_isolation.proofs.Calls.Deeds.{deeds-do, is_calm}
use Rattle.lpc_isolation.proofs.Owed.Apart.{apart-deeds}
use Rattle.lpc_isolation.proofs.Owed.Ours.{own-call}
use Rattle.lpc_isolation.proofs.Owed.Sent.{sent-deeds}
use Rattle.lpc_isolation.proofs.Owed.Stands.{stands-deeds, name-live}
use Rattle.lpc_isolation.proofs.Each.Queries.{query-calm}
use Rattle.lpc_isolation.proofs.Each.Duplicates.{duplicate-calm}
use Rattle.lpc_isolation.proofs.Each.Registers.{register-calm}
use Rattle.lpc_model.specs.declared.line.ViewWord.{ViewWord}

-- What each call owes besides
create-calm : (name : Option (List ℕ)) (dacl : Option Dacl) → Calm (create_port name dacl)
create-calm name dacl = record {
  refuses = λ w by. refuses-create w by name dacl;
  members = answers_alike refl (λ m c w by known k a mine fine right. create-c m c w by name dacl a.c_in mine a.fair (made m w by name a.names fine));
  alike = λ k u by live s ports c. create-thin k u by name dacl;
}
  where
    made : (m : Group) (w : World) (by : ThreadRow) (name : Option (List ℕ)) → SeenNames m w.bindings → is_fine_call m w (create_port name dacl) ≡ true → making (view m w) (next_birth by) name ≡ making w (next_birth by) name
    made m w by None names fine = refl
    made m w by (Some name) names fine = c-making m w (next_birth by) name names fine

connect-calm : (name : List ℕ) (quality : Qos) (word : Option ViewWord) (bytes : List ℕ) → Calm (connect_port name quality word bytes)
connect-calm name quality word bytes = record {
  refuses = λ w by. refuses-connect w by name quality word bytes;
  members = answers_alike refl (λ m c w by known k a mine fine right. c-connect m c w w by name quality word bytes (caller m c w by known w a refl) mine fine);
  alike = λ k u by live s ports c. connect-thin k u by name quality word bytes live (λ q at. holds_ok (λ port. k.ports port ≡ true) (named_port u name) q (name-live k u name s c) at) c;
}

listen-calm : (handle : ℕ) → Calm (listen_port handle)
listen-calm handle = record {
  refuses = λ w by. refuses-listen w by handle;
  members = answers_alike refl (λ m c w by known k a mine fine right. c-listen m c w w by handle (caller m c w by known w a refl) mine);
  alike = λ k u by live s ports c. listen-thin k u by handle c;
}

accept-calm : (context : ℕ) (message : List ℕ) (accept : Bool) (word : Option ViewWord) → Calm (accept_connect_port context message accept word)
accept-calm context message accept word = record {
  refuses = λ w by. refuses-accept w by context message accept word;
  members = answers_alike refl (λ m c w by known k a mine fine right. c-answer m c w w by context message accept word (caller m c w by known w a refl) mine fine);
  alike = λ k u by live s ports c. accept-thin k u by context message accept word c;
}

complete-calm : (handle : ℕ) → Calm (complete_connect_port handle)
complete-calm handle = record {
  refuses = λ w by. refuses-complete w by handle;
  members = answers_alike refl (λ m c w by known k a mine fine right. c-complete m c w w by handle (caller m c w by known w a refl) mine);
  alike = λ k u by live s ports c. complete-thin k u by handle c;
}

datagram-calm : (handle : ℕ) (message : List ℕ) → Calm (request_port handle message)
datagram-calm handle message = record {
  refuses = λ w by. refuses-datagram w by handle message;
  members = answers_alike refl (λ m c w by known k a mine fine right. c-request_port m c w w by handle message (caller m c w by known w a refl) mine);
  alike = λ k u by live s ports c. datagram-thin k u by handle message c;
}

request-calm : (handle : ℕ) (message : List ℕ) → Calm (request_wait_reply_port handle message)
request-calm handle message = record {
  refuses = λ w by. refuses-request w by handle message;
  members = answers_alike refl (λ m c w by known k a mine fine right. c-request m c w w by handle message (caller m c w by known w a refl) mine);
  alike = λ k u by live s ports c. request-thin k u by handle message c;
}

reply-calm : (handle : ℕ) (message : List ℕ) → Calm (reply_port handle message)
reply-calm handle message = record {
  refuses = λ w by. refuses-reply w by handle message;
  members = answers_alike refl (λ m c w by known k a mine fine right. c-reply m c w by handle message a.c_in mine a.fair a.ways fine);
  alike = λ k u by live s ports c. reply-thin k u by handle message c;
}

receive-calm : (handle : ℕ) (message : Option (List ℕ)) → Calm (reply_wait_receive_port handle message)
receive-calm handle message = record {
  refuses = λ w by. refuses-receive w by handle message;
  members = answers_alike refl (λ m c w by known k a mine fine right. c-receive m c w w by handle message (caller m c w by known w a refl) mine a.ways (named m w message fine));
  alike = λ k u by live s ports c. receive-thin k u by handle message c;
}
  where
    named : (m : Group) (w : World) (message : Option (List ℕ)) → is_fine_call m w (reply_wait_receive_port handle message) ≡ true → names_none m w message ≡ true
    named m w None fine = refl
    named m w (Some bytes) fine = fine

close-calm : (handle : ℕ) → Calm (close handle)
close-calm handle = record {
  refuses = λ w by. refuses-close w by handle;
  members = answers_alike refl (λ m c w by known k a mine fine right. same-close m c w by known handle a mine fine);
  alike = λ k u by live s ports c. alike-close k u by handle c;
}

ends-calm : (call : ScriptCall) (code : Status) → EndsThreads call code → Calm call
ends-calm call code e = record {
  refuses = λ w by. refuses-ends call code e w by;
  members = ends_threads (λ m c u d w by known k a used mine fine right. own-ends call code e m c u d w by known k a used mine) (λ m c u d w by known a used by_in other. leads-ends call code e m c u d w by known a used by_in other);
  alike = λ k u by live s ports c. alike-ends call code e k u by live c;
}

-- a call that adds no thread
calm : {call : ScriptCall} → is_calm call ≡ true → Calm call → Lawful call
calm {call} is s = record {
  begins = λ m c w by known a. holds-more (λ bs. is_call_of w by.number bs ≡ true) (Begins w by.number) (served w by call) (λ bs ok. begins-of w by.number bs ok) (order m c w by known a);
  once = λ m c w by known a once. at-end m c w by known (λ u bs. OnceUsed u) a (λ u used. holds_any (OnceUsed u) (same-used w u used once) (served w by call));
  numbered = λ m c w by known a ids n. at-end m c w by known (λ u bs. Numbered u) a (λ u used. holds_any (Numbered u) (subst (λ us. every of_number us ≡ true) (sym used) n) (served w by call));
  refuses = s.refuses;
  fair = λ m c w by known a. deeds-do w by _ (fair-deeds m c w by (caller m c w by known w a refl)) call is;
  paths = λ m c w by known a all. deeds-do w by _ (paths-deeds m c w by all (caller m c w by known w a refl)) call is;
  asked = λ m c w by known a b. deeds-do w by _ (asked-deeds m c w by b (caller m c w by known w a refl)) call is;
  sent = λ u by sound live. deeds-do u by _ (sent-deeds u by sound live) call is;
  apart = λ m c d w by known a out. at-end m c w by known (λ u bs. HasFineRows m c (world_after w bs) → are_apart m c u d w bs ≡ true) a (λ u used. deeds-do w by _ (apart-deeds m c u d w by (caller m c w by known u a used) out) call is);
  own = λ m c d w by known k a mine fine right. settle-own (λ u bs led. HasFineRows m c (world_after w bs) → Led m c u d w bs led) w by.number (served w by call) (served (seeing k (view m w) call) by call) (order m c w by known a) (λ u used. own-call call is s.members m c u d w by known k a used mine fine right);
  leads = λ m c d w by known a by_in other. at-end m c w by known (λ u bs. HasFineRows m c (world_after w bs) → Leading m c u d w by known call bs) a (λ u used. leads-call call is s.members m c u d w by known a used by_in other);
  hears = λ m c d w by known memo a owned n b all out. at-end m c w by known (λ u bs. HasFineRows m c (world_after w bs) → Hears m c u d w memo bs) a (λ u used. deeds-do w by _ (hears-deeds m c u w by d memo (caller m c w by known u a used) owned n b all out) call is);
  notes = λ m c w by known memo a owned n b all by_in. deeds-do w by _ (notes-deeds m c w w by memo (caller m c w by known w a refl) owned n b all by_in) call is;
  alike = s.alike;
  stands = λ k u by live sound closed room. deeds-do u by _ (stands-deeds k u by live sound closed room.port room.section room.token) call is;
  fine = λ m c after u by idle f. deeds-do u by _ (fine-deeds m c after u by idle f) call is;
}
  where
    order : (m : Group) (c : ℕ) (w : World) (by : ThreadRow) (known : List ℕ → Birth) → At m c w by known → Holds (λ bs. is_call_of w by.number bs ≡ true) (served w by call)
    order m c w by known a = deeds-do w by _ (orderly-deeds m c w w by (caller m c w by known w a refl)) call is

    -- of the numbers behind the line
    at-end : (m : Group) (c : ℕ) (w : World) (by : ThreadRow) (known : List ℕ → Birth) (P : World → List Basic → Type 0) → At m c w by known → ((u : World) → u.used_threads ≡ w.used_threads → Holds (P u) (served w by call)) → Holds (λ bs. P (world_after w bs) bs) (served w by call)
    at-end m c w by known P a all = settle P w by.number (served w by call) (order m c w by known a) all

pub lawful : (call : ScriptCall) → Lawful call
lawful (create_port name dacl) = calm refl (create-calm name dacl)
lawful (connect_port name quality word bytes) = calm refl (connect-calm name quality word bytes)
lawful (listen_port handle) = calm refl (listen-calm handle)
lawful (accept_connect_port context message accept word) = calm refl (accept-calm context message accept word)
lawful (complete_connect_port handle) = calm refl (complete-calm handle)
lawful (request_port handle message) = calm refl (datagram-calm handle message)
lawful (request_wait_reply_port handle message) = calm refl (request-calm handle message)
lawful (reply_port handle message) = calm refl (reply-calm handle message)
lawful (reply_wait_receive_port handle message) = calm refl (receive-calm handle message)
lawful (close handle) = calm refl (close-calm handle)
lawful (duplicate_object handle access) = calm refl (duplicate-calm handle access)
lawful (query_object handle) = calm refl (query-calm handle)
lawful (register_thread_terminate_port handle) = calm refl (register-calm handle)
lawful (create_section size prot) = calm refl (section-calm size prot)
lawful (map_view_of_section handle offset size prot) = calm refl (map-calm handle offset size prot)
lawful (unmap_view_of_section address) = calm refl (unmap-calm address)
lawful (read_virtual_memory address n) = calm refl (read-calm address n)
lawful (write_virtual_memory address new) = calm refl (write-calm address new)
lawful (read_request_data handle bytes index n) = calm refl (read_range-calm handle bytes index n)
lawful (write_request_data handle bytes index new) = calm refl (write_range-calm handle bytes index new)
lawful (impersonate_client_of_port handle bytes) = calm refl (impersonate-calm handle bytes)
lawful (open_thread_token) = calm refl own-calm
lawful (open_process_token) = calm refl primary-calm
lawful (query_information_token handle class) = calm refl (ask-calm handle class)
lawful (set_information_thread class) = calm refl (revert-calm class)
lawful (raise code handled) = calm refl (raise-calm code handled)
lawful (set_information_process target class handle) = calm refl (set-calm target class handle)
lawful (create_process pid tid) = process-lawful pid tid
lawful (create_thread target tid) = thread-lawful target tid
lawful (terminate_thread target code) = calm refl (ends-calm (terminate_thread target code) (code_status code) (thread-ends-it target code))
lawful (terminate_process target code) = calm refl (ends-calm (terminate_process target code) (code_status code) (process-ends-it target code))

-- c gets the token that it gets in the world: one call gives one, and answers as the world does
answered-both : {A : Type 0} (P R : A → A → Type 0) (Q : A → Type 0) (r t : Result A Status) → ((x y : A) → Q x → Q y → R x y) → Answered P r t → Holds Q r → Holds Q t → Answered R r t
answered-both P R Q (Ok x) (Ok y) more is one two = more x y one two
answered-both P R Q (Ok x) (Err t) more is one two = absurd is
answered-both P R Q (Err s) (Ok y) more is one two = absurd is
answered-both P R Q (Err s) (Err t) more is one two = is

none-gives : (m : Group) (c : ℕ) (w : World) (by : ThreadRow) (known : List ℕ → Birth) (call : ScriptCall) (k : Contents) → gives_token call ≡ false → At m c w by known → by.process ≡ c → is_fine_call m w call ≡ true → Reads m c k w by call → Answered (λ bs led. given_in led ≡ given_in bs) (served w by call) (served (seeing k (view m w) call) by call)
none-gives m c w by known call k off a mine fine right =
    answered-both _ (λ bs led. given_in led ≡ given_in bs) (λ bs. given_in bs ≡ []) (served w by call) (served (seeing k (view m w) call) by call)
    (λ bs led one two. two ∙ sym one) ((lawful call).own m c Nobody w by known k a mine fine right) (gives-none w by call off) (gives-none (seeing k (view m w) call) by call off)

own-gives : (m : Group) (c : ℕ) (w : World) (by : ThreadRow) (known : List ℕ → Birth) (call : ScriptCall) (k : Contents) → At m c w by known → by.process ≡ c → is_fine_call m w call ≡ true → Reads m c k w by call → Answered (λ bs led. given_in led ≡ given_in bs) (served w by call) (served (seeing k (view m w) call) by call)
own-gives m c w by known (impersonate_client_of_port handle bytes) k a mine fine right =
    answered-same (λ bs led. given_in led ≡ given_in bs) (served w by (impersonate_client_of_port handle bytes)) (served (view m w) by (impersonate_client_of_port handle bytes)) (same-impersonate m c w by known handle bytes a mine fine) (holds-more (λ bs. Unit {0}) (λ bs. given_in bs ≡ given_in bs) (served w by (impersonate_client_of_port handle bytes)) (λ bs _. refl) (holds_any (Unit {0}) tt (served w by (impersonate_client_of_port handle bytes))))
own-gives m c w by known call k a mine fine right = none-gives m c w by known call k refl a mine fine right

-- all that a call owes
pub serves : (m : Group) (c : ℕ) (w : World) (by : ThreadRow) (known : List ℕ → Birth) (call : ScriptCall) (k : Contents) → At m c w by known → (by.process ≡ c → is_fine_call m w call ≡ true) → (by.process ≡ c → Reads m c k w by call) → Serves (leading m known k) m c w by call
serves m c w by known call k a fine reads = record {
  apart = λ d out. (lawful call).apart m c d w by known a out;
  own = λ d mine. (lawful call).own m c d w by known k a mine (fine mine) (reads mine);
  leads = λ d by_in other. (lawful call).leads m c d w by known a by_in other;
  gives = holds-more (Gives call) (λ bs. (v : World) (e : Entry) (o : Option Impersonation) → IsGiven o (given_in bs) → leads_by m known v by call e o ≡ leads_by m known v by call e (own_given bs)) (served w by call) (λ bs g v e o is. g m known v by e o is) (gives-of w by call);
  own_gives = λ mine. own-gives m c w by known call k a mine (fine mine) (reads mine);
  begins = (lawful call).begins m c w by known a;
  refuses = λ s is. subst Refuses is ((lawful call).refuses w by);
}
