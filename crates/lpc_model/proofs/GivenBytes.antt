-- The messages that a script gives are bytes, and a lawful message that is read is written back whole.
use Rattle.std.proofs.Common.{◌≡◌, ℕ, suc, ◌<◌, Bool, true, false, cond, List, [], ◌∷◌, ◌++◌, length, drop, All, ap, arith, refl, subst, sym, take, zero, ◌+◌, ◌≤◌, ◌∙◌}
use Rattle.std.proofs.lemmas.List.{append-nil}
use Rattle.std.specs.Prelude.{None, Option, Some, Result, Ok, Err, nat_lt, not, codes}
use Rattle.std.specs.List.{AllByRecursion, list_all}
use Rattle.std.specs.Option.{ok_or}
use Rattle.std.proofs.lemmas.Bool.Decides.{nat_tests}
use Rattle.hex.specs.Hex.{IsBytes, decode_of}
use Rattle.hex.specs.declared.error.FromHexError.{FromHexError}
use Rattle.hex.proofs.HexLemmas.{decode_of-ok}
use Rattle.lpc_base.specs.declared.limits.TheConstants.{HEADER_SIZE, LINE_LIMIT, LINES_LIMIT}
use Rattle.lpc_message.specs.Layout.{fault_of, header_bytes, header_of}
use Rattle.lpc_message.specs.declared.message.ClientId.{ClientId}
use Rattle.lpc_message.specs.declared.message.Header.{Header}
use Rattle.lpc_message.specs.declared.message.Shape.{Shape}
use Rattle.lpc_message.specs.declared.message.Shape.TheVariants.{Short}
use Rattle.lpc_message.proofs.Again.{header_back}
use Rattle.lpc_model.specs.declared.entry.CallName.{CallName}
use Rattle.lpc_model.specs.declared.entry.CallName.TheVariants as call
use Rattle.lpc_model.specs.declared.entry.Word.{Word}
use Rattle.lpc_model.specs.declared.entry.Word.TheVariants as word
use Rattle.lpc_model.specs.declared.fault.LineFault.{LineFault}
use Rattle.lpc_model.specs.declared.fault.LineFault.TheVariants as fault
use Rattle.lpc_model.specs.Then.{◌>>=◌}
use Rattle.lpc_model.specs.Message.{bytes_of, message_of}
use Rattle.lpc_model.specs.Lines.{ScriptCall, ScriptLine, accept_connect_port, reply_port, reply_wait_receive_port, request_port, request_wait_reply_port, run, write_virtual_memory, read_request_data, write_request_data, impersonate_client_of_port}
use Rattle.lpc_model.specs.Words.{begins, split_once, hex_message, hex_or_fault, hex_word, id_word, info_word, message_word, number_word, parts, reply_message, three_parts, words, made_message}
use Rattle.lpc_model.specs.Grammar.{accept_word, access_word, call_line, call_named, call_words, directive_line, directive_named, directive_words, four_words, given_message, handle_and_message, handle_and_reply, is_printable, one_handle, one_or_two_words, one_word, qos_word, read_line, starts_call, process_and_thread, target_and_code, target_and_thread, thread_call, two_words, view_word, words_line, address_and_bytes, range_words, range_and_bytes, four_numbers, two_numbers, fixed_word, given_dacl, no_words, process_and_token, token_words, handled_word, target_word, three_words, kind_word}
use Rattle.lpc_model.specs.Run.{numbered_line, said_from, unless_faulty}

abbrev pub AreBytes : List ℕ → Type 0
AreBytes bytes = AllByRecursion (λ b. b < 256) bytes

-- A message that is read is written back
all_bytes : (bytes : List ℕ) → AreBytes bytes → All (λ b. b < 256) bytes
all_bytes [] are k d within = absurd (omega arith)
all_bytes (b ∷ bs) are zero d within = are.0
all_bytes (b ∷ bs) are (suc k) d within = all_bytes bs are.1 k d (omega arith)

long_case : (short : Bool) (later : Option Shape) → cond short (Some Short) later ≡ None → short ≡ false
long_case true later is = absurd (cc)
long_case false later is = refl

-- it is enough that those of the header are bytes
abbrev pub HasHeader : List ℕ → Type 0
HasHeader bytes = AreBytes (take 24 bytes)

front_back : (bytes : List ℕ) → HasHeader bytes → 24 ≤ length bytes → header_bytes (header_of bytes) ++ drop 24 bytes ≡ bytes
front_back [] are long = absurd (omega (arith, long))
front_back (b0 ∷ []) are long = absurd (omega (arith, long))
front_back (b0 ∷ b1 ∷ []) are long = absurd (omega (arith, long))
front_back (b0 ∷ b1 ∷ b2 ∷ []) are long = absurd (omega (arith, long))
front_back (b0 ∷ b1 ∷ b2 ∷ b3 ∷ []) are long = absurd (omega (arith, long))
front_back (b0 ∷ b1 ∷ b2 ∷ b3 ∷ b4 ∷ []) are long = absurd (omega (arith, long))
front_back (b0 ∷ b1 ∷ b2 ∷ b3 ∷ b4 ∷ b5 ∷ []) are long = absurd (omega (arith, long))
front_back (b0 ∷ b1 ∷ b2 ∷ b3 ∷ b4 ∷ b5 ∷ b6 ∷ []) are long = absurd (omega (arith, long))
front_back (b0 ∷ b1 ∷ b2 ∷ b3 ∷ b4 ∷ b5 ∷ b6 ∷ b7 ∷ []) are long = absurd (omega (arith, long))
front_back (b0 ∷ b1 ∷ b2 ∷ b3 ∷ b4 ∷ b5 ∷ b6 ∷ b7 ∷ b8 ∷ []) are long = absurd (omega (arith, long))
front_back (b0 ∷ b1 ∷ b2 ∷ b3 ∷ b4 ∷ b5 ∷ b6 ∷ b7 ∷ b8 ∷ b9 ∷ []) are long = absurd (omega (arith, long))
front_back (b0 ∷ b1 ∷ b2 ∷ b3 ∷ b4 ∷ b5 ∷ b6 ∷ b7 ∷ b8 ∷ b9 ∷ b10 ∷ []) are long = absurd (omega (arith, long))
front_back (b0 ∷ b1 ∷ b2 ∷ b3 ∷ b4 ∷ b5 ∷ b6 ∷ b7 ∷ b8 ∷ b9 ∷ b10 ∷ b11 ∷ []) are long = absurd (omega (arith, long))
front_back (b0 ∷ b1 ∷ b2 ∷ b3 ∷ b4 ∷ b5 ∷ b6 ∷ b7 ∷ b8 ∷ b9 ∷ b10 ∷ b11 ∷ b12 ∷ []) are long = absurd (omega (arith, long))
front_back (b0 ∷ b1 ∷ b2 ∷ b3 ∷ b4 ∷ b5 ∷ b6 ∷ b7 ∷ b8 ∷ b9 ∷ b10 ∷ b11 ∷ b12 ∷ b13 ∷ []) are long = absurd (omega (arith, long))
front_back (b0 ∷ b1 ∷ b2 ∷ b3 ∷ b4 ∷ b5 ∷ b6 ∷ b7 ∷ b8 ∷ b9 ∷ b10 ∷ b11 ∷ b12 ∷ b13 ∷ b14 ∷ []) are long = absurd (omega (arith, long))
front_back (b0 ∷ b1 ∷ b2 ∷ b3 ∷ b4 ∷ b5 ∷ b6 ∷ b7 ∷ b8 ∷ b9 ∷ b10 ∷ b11 ∷ b12 ∷ b13 ∷ b14 ∷ b15 ∷ []) are long = absurd (omega (arith, long))
front_back (b0 ∷ b1 ∷ b2 ∷ b3 ∷ b4 ∷ b5 ∷ b6 ∷ b7 ∷ b8 ∷ b9 ∷ b10 ∷ b11 ∷ b12 ∷ b13 ∷ b14 ∷ b15 ∷ b16 ∷ []) are long = absurd (omega (arith, long))
front_back (b0 ∷ b1 ∷ b2 ∷ b3 ∷ b4 ∷ b5 ∷ b6 ∷ b7 ∷ b8 ∷ b9 ∷ b10 ∷ b11 ∷ b12 ∷ b13 ∷ b14 ∷ b15 ∷ b16 ∷ b17 ∷ []) are long = absurd (omega (arith, long))
front_back (b0 ∷ b1 ∷ b2 ∷ b3 ∷ b4 ∷ b5 ∷ b6 ∷ b7 ∷ b8 ∷ b9 ∷ b10 ∷ b11 ∷ b12 ∷ b13 ∷ b14 ∷ b15 ∷ b16 ∷ b17 ∷ b18 ∷ []) are long = absurd (omega (arith, long))
front_back (b0 ∷ b1 ∷ b2 ∷ b3 ∷ b4 ∷ b5 ∷ b6 ∷ b7 ∷ b8 ∷ b9 ∷ b10 ∷ b11 ∷ b12 ∷ b13 ∷ b14 ∷ b15 ∷ b16 ∷ b17 ∷ b18 ∷ b19 ∷ []) are long = absurd (omega (arith, long))
front_back (b0 ∷ b1 ∷ b2 ∷ b3 ∷ b4 ∷ b5 ∷ b6 ∷ b7 ∷ b8 ∷ b9 ∷ b10 ∷ b11 ∷ b12 ∷ b13 ∷ b14 ∷ b15 ∷ b16 ∷ b17 ∷ b18 ∷ b19 ∷ b20 ∷ []) are long = absurd (omega (arith, long))
front_back (b0 ∷ b1 ∷ b2 ∷ b3 ∷ b4 ∷ b5 ∷ b6 ∷ b7 ∷ b8 ∷ b9 ∷ b10 ∷ b11 ∷ b12 ∷ b13 ∷ b14 ∷ b15 ∷ b16 ∷ b17 ∷ b18 ∷ b19 ∷ b20 ∷ b21 ∷ []) are long = absurd (omega (arith, long))
front_back (b0 ∷ b1 ∷ b2 ∷ b3 ∷ b4 ∷ b5 ∷ b6 ∷ b7 ∷ b8 ∷ b9 ∷ b10 ∷ b11 ∷ b12 ∷ b13 ∷ b14 ∷ b15 ∷ b16 ∷ b17 ∷ b18 ∷ b19 ∷ b20 ∷ b21 ∷ b22 ∷ []) are long = absurd (omega (arith, long))
front_back (b0 ∷ b1 ∷ b2 ∷ b3 ∷ b4 ∷ b5 ∷ b6 ∷ b7 ∷ b8 ∷ b9 ∷ b10 ∷ b11 ∷ b12 ∷ b13 ∷ b14 ∷ b15 ∷ b16 ∷ b17 ∷ b18 ∷ b19 ∷ b20 ∷ b21 ∷ b22 ∷ b23 ∷ rest) are long =
    let front : List ℕ = b0 ∷ b1 ∷ b2 ∷ b3 ∷ b4 ∷ b5 ∷ b6 ∷ b7 ∷ b8 ∷ b9 ∷ b10 ∷ b11 ∷ b12 ∷ b13 ∷ b14 ∷ b15 ∷ b16 ∷ b17 ∷ b18 ∷ b19 ∷ b20 ∷ b21 ∷ b22 ∷ b23 ∷ [] in
    let enough : 24 ≤ length front = omega arith in
    ap (λ x. x ++ rest) (sym (append-nil (header_bytes (header_of front))) ∙ header_back front (all_bytes front are) enough)

pub written_back : (bytes : List ℕ) → HasHeader bytes → fault_of bytes ≡ None → bytes_of (message_of bytes) ≡ bytes
unfolding bytes_of
written_back bytes are sound =
    let long : nat_lt (length bytes) 24 ≡ false = long_case (nat_lt (length bytes) 24) _ sound in
    front_back bytes are (grind (arith, nat_tests))

-- What a word gives
-- a property of what isn't faulty
abbrev pub Gives : {A E : Type 0} → (A → Type 0) → Result A E → Type 0
Gives P (Ok x) = P x
Gives P (Err e) = Unit {0}

pub then_gives : {A B E : Type 0} (r : Result A E) (f : A → Result B E) (P : B → Type 0) → ((x : A) → r ≡ Ok x → Gives P (f x)) → Gives P (r >>= f)
then_gives (Ok x) f P h = h x refl
then_gives (Err e) f P h = tt

pub gives_ok : {A E : Type 0} (P : A → Type 0) (r : Result A E) (x : A) → Gives P r → r ≡ Ok x → P x
gives_ok P (Ok y) x h is = let same : y ≡ x = cc in subst P same h
gives_ok P (Err e) x h is = absurd (cc)

choice_gives : {A E : Type 0} (P : A → Type 0) (b : Bool) (r s : Result A E) → Gives P r → Gives P s → Gives P (cond b r s)
choice_gives P true r s h k = h
choice_gives P false r s h k = k

each_byte : (bytes : List ℕ) → IsBytes bytes → AreBytes bytes
each_byte [] are = tt
each_byte (b ∷ bs) are = (are 0, each_byte bs (λ i. are (suc i)))

both_bytes : (front back : List ℕ) → AreBytes front → AreBytes back → AreBytes (front ++ back)
both_bytes [] back h k = k
both_bytes (b ∷ bs) back h k = (h.0, both_bytes bs back h.1 k)

hex_case : (r : Result (List ℕ) FromHexError) → ((bytes : List ℕ) → r ≡ Ok bytes → AreBytes bytes) → Gives AreBytes (hex_or_fault r)
hex_case (Ok bytes) h = h bytes refl
hex_case (Err e) h = tt

hex_bytes : (digits : List ℕ) → Gives AreBytes (hex_word digits)
unfolding hex_word
hex_bytes digits = hex_case (decode_of digits) (λ bytes is. each_byte bytes (decode_of-ok digits bytes is).3)

header_are : (h : Header) → AreBytes (header_bytes h)
header_are h = search arith

made_bytes : (client : ClientId) (identifier : ℕ) (digits : List ℕ) → Gives AreBytes (hex_message client identifier digits)
made_bytes client identifier digits =
    then_gives (hex_word digits) _ AreBytes (λ bytes is.
    let h : Header = record { data_size = length bytes; message_size = HEADER_SIZE + length bytes; kind = 0; ranges_offset = 0; client = client; message_id = identifier; section_size = 0 } in
    both_bytes (header_bytes h) bytes (header_are h) (gives_ok AreBytes (hex_word digits) bytes (hex_bytes digits) is))

reply_bytes : (text : List ℕ) → Gives AreBytes (reply_message text)
unfolding reply_message
reply_bytes text =
    then_gives (ok_or (split_once 58 text) fault.Message) _ AreBytes (λ two _.
    then_gives (ok_or (three_parts (parts 46 two.0)) fault.Message) _ AreBytes (λ numbers _.
    then_gives (number_word numbers.0) _ AreBytes (λ process _.
    then_gives (number_word numbers.1) _ AreBytes (λ thread _.
    then_gives (number_word numbers.2) _ AreBytes (λ identifier _.
    made_bytes (record { process = process; thread = thread }) identifier two.1)))))

message_bytes : (text : List ℕ) → Gives AreBytes (message_word text)
unfolding message_word
message_bytes text =
    choice_gives AreBytes (begins (codes "m:") text) (hex_word (drop 2 text)) _ (hex_bytes (drop 2 text))
    (choice_gives AreBytes (begins (codes "d:") text) (hex_message (record { process = 0; thread = 0 }) 0 (drop 2 text)) _ (made_bytes (record { process = 0; thread = 0 }) 0 (drop 2 text))
    (choice_gives AreBytes (begins (codes "r:") text) (reply_message (drop 2 text)) (Err fault.Message) (reply_bytes (drop 2 text)) tt))

-- a front of bytes; and a made message has a header of bytes, whatever its data are
front_are : (n : ℕ) (bytes : List ℕ) → AreBytes bytes → AreBytes (take n bytes)
front_are zero bytes are = tt
front_are (suc n) [] are = tt
front_are (suc n) (b ∷ bs) are = (are.0, front_are n bs are.1)

pub made_are : (client : ClientId) (identifier : ℕ) → AreBytes (made_message client identifier [])
made_are client identifier =
    let h : Header = record { data_size = 0; message_size = HEADER_SIZE + 0; kind = 0; ranges_offset = 0; client = client; message_id = identifier; section_size = 0 } in
    both_bytes (header_bytes h) [] (header_are h) tt

pub made_front : (client : ClientId) (identifier : ℕ) (bytes : List ℕ) → HasHeader (made_message client identifier bytes)
made_front client identifier bytes =
    header_are (record { data_size = length bytes; message_size = HEADER_SIZE + length bytes; kind = 0; ranges_offset = 0; client = client; message_id = identifier; section_size = 0 })

-- What a line gives: the message of each call that has one, of a reply its header, and the bytes that one writes
abbrev pub HasBytes : ScriptCall → Type 0
HasBytes (accept_connect_port context bytes accept view) = AreBytes bytes
HasBytes (request_port handle bytes) = AreBytes bytes
HasBytes (request_wait_reply_port handle bytes) = AreBytes bytes
HasBytes (reply_port handle bytes) = HasHeader bytes
HasBytes (reply_wait_receive_port handle (Some bytes)) = HasHeader bytes
HasBytes (write_virtual_memory address bytes) = AreBytes bytes
HasBytes (read_request_data handle bytes index n) = AreBytes bytes
HasBytes (write_request_data handle bytes index new) = AreBytes bytes × AreBytes new
HasBytes (impersonate_client_of_port handle bytes) = AreBytes bytes
HasBytes call = Unit {0}

abbrev pub GivesBytes : ScriptLine → Type 0
GivesBytes (run tid call) = HasBytes call
GivesBytes line = Unit {0}

abbrev pub SaidBytes : Option ScriptLine → Type 0
SaidBytes (Some line) = GivesBytes line
SaidBytes None = Unit {0}

handle_gives : (others : List (List ℕ)) → Gives (λ two. AreBytes two.1) (handle_and_message others)
handle_gives others =
    let P : ℕ × List ℕ → Type 0 = λ two. AreBytes two.1 in
    then_gives (two_words others) _ P (λ two _. then_gives (number_word two.0) _ P (λ handle _. then_gives (message_word two.1) _ P (λ bytes is.
    gives_ok AreBytes (message_word two.1) bytes (message_bytes two.1) is)))

given_bytes : (handle : ℕ) (text : Option (List ℕ)) → Gives (λ reply. HasBytes (reply_wait_receive_port handle reply)) (given_message text)
given_bytes handle None = tt
given_bytes handle (Some text) =
    then_gives (message_word text) _ (λ reply. HasBytes (reply_wait_receive_port handle reply)) (λ bytes is.
    front_are 24 bytes (gives_ok AreBytes (message_word text) bytes (message_bytes text) is))

reply_gives : (others : List (List ℕ)) → Gives (λ two. HasBytes (reply_wait_receive_port two.0 two.1)) (handle_and_reply others)
reply_gives others =
    let P : ℕ × Option (List ℕ) → Type 0 = λ two. HasBytes (reply_wait_receive_port two.0 two.1) in
    then_gives (one_or_two_words others) _ P (λ two _. then_gives (number_word two.0) _ P (λ handle _. then_gives (given_message two.1) _ P (λ reply is.
    gives_ok (λ reply. HasBytes (reply_wait_receive_port handle reply)) (given_message two.1) reply (given_bytes handle two.1) is)))

written_gives : (others : List (List ℕ)) → Gives (λ two. AreBytes two.1) (address_and_bytes others)
written_gives others =
    let P : ℕ × List ℕ → Type 0 = λ two. AreBytes two.1 in
    then_gives (two_words others) _ P (λ two _. then_gives (number_word two.0) _ P (λ address _. then_gives (hex_word two.1) _ P (λ bytes is.
    gives_ok AreBytes (hex_word two.1) bytes (hex_bytes two.1) is)))

range_gives : (others : List (List ℕ)) → Gives (λ range. AreBytes range.1) (range_words others)
range_gives others =
    let P : ℕ × List ℕ × ℕ × ℕ → Type 0 = λ range. AreBytes range.1 in
    then_gives (four_words others) _ P (λ four _. then_gives (number_word four.0) _ P (λ handle _. then_gives (message_word four.1) _ P (λ bytes is.
    then_gives (number_word four.2) _ P (λ index _. then_gives (number_word four.3) _ P (λ n _. gives_ok AreBytes (message_word four.1) bytes (message_bytes four.1) is)))))

range_bytes_give : (others : List (List ℕ)) → Gives (λ new. AreBytes new.1 × AreBytes new.3) (range_and_bytes others)
range_bytes_give others =
    let P : ℕ × List ℕ × ℕ × List ℕ → Type 0 = λ new. AreBytes new.1 × AreBytes new.3 in
    then_gives (four_words others) _ P (λ four _. then_gives (number_word four.0) _ P (λ handle _. then_gives (message_word four.1) _ P (λ bytes is.
    then_gives (number_word four.2) _ P (λ index _. then_gives (hex_word four.3) _ P (λ new are.
    (gives_ok AreBytes (message_word four.1) bytes (message_bytes four.1) is, gives_ok AreBytes (hex_word four.3) new (hex_bytes four.3) are))))))

call_gives : (name : CallName) (others : List (List ℕ)) → Gives HasBytes (call_words name others)
unfolding call_words
call_gives call.NtCreatePort others = then_gives (one_or_two_words others) _ HasBytes (λ two _. then_gives (given_dacl two.1) _ HasBytes (λ _ _. tt))
call_gives call.NtConnectPort others =
    then_gives (four_words others) _ HasBytes (λ four _.
    then_gives (qos_word four.1) _ HasBytes (λ _ _.
    then_gives (view_word four.2) _ HasBytes (λ _ _.
    then_gives (info_word four.3) _ HasBytes (λ _ _. tt))))
call_gives call.NtListenPort others = then_gives (one_handle others) _ HasBytes (λ _ _. tt)
call_gives call.NtAcceptConnectPort others =
    then_gives (four_words others) _ HasBytes (λ four _.
    then_gives (number_word four.0) _ HasBytes (λ context _.
    then_gives (message_word four.1) _ HasBytes (λ bytes is.
    then_gives (accept_word four.2) _ HasBytes (λ accept _.
    then_gives (view_word four.3) _ HasBytes (λ _ _. gives_ok AreBytes (message_word four.1) bytes (message_bytes four.1) is)))))
call_gives call.NtCompleteConnectPort others = then_gives (one_handle others) _ HasBytes (λ _ _. tt)
call_gives call.NtRequestPort others = then_gives (handle_and_message others) _ HasBytes (λ two is. gives_ok (λ (two : ℕ × List ℕ). AreBytes two.1) (handle_and_message others) two (handle_gives others) is)
call_gives call.NtRequestWaitReplyPort others = then_gives (handle_and_message others) _ HasBytes (λ two is. gives_ok (λ (two : ℕ × List ℕ). AreBytes two.1) (handle_and_message others) two (handle_gives others) is)
call_gives call.NtReplyPort others = then_gives (handle_and_message others) _ HasBytes (λ two is. front_are 24 two.1 (gives_ok (λ (two : ℕ × List ℕ). AreBytes two.1) (handle_and_message others) two (handle_gives others) is))
call_gives call.NtReplyWaitReceivePort others = then_gives (handle_and_reply others) _ HasBytes (λ two is. gives_ok (λ (two : ℕ × Option (List ℕ)). HasBytes (reply_wait_receive_port two.0 two.1)) (handle_and_reply others) two (reply_gives others) is)
call_gives call.NtRegisterThreadTerminatePort others = then_gives (one_handle others) _ HasBytes (λ _ _. tt)
call_gives call.NtClose others = then_gives (one_handle others) _ HasBytes (λ _ _. tt)
call_gives call.NtDuplicateObject others = then_gives (two_words others) _ HasBytes (λ two _. then_gives (number_word two.0) _ HasBytes (λ _ _. then_gives (access_word two.1) _ HasBytes (λ _ _. tt)))
call_gives call.NtQueryObject others = then_gives (one_handle others) _ HasBytes (λ _ _. tt)
call_gives call.NtCreateProcess others = then_gives (process_and_thread others) _ HasBytes (λ _ _. tt)
call_gives call.NtCreateThread others = then_gives (target_and_thread others) _ HasBytes (λ _ _. tt)
call_gives call.NtTerminateThread others = then_gives (target_and_code others) _ HasBytes (λ _ _. tt)
call_gives call.NtTerminateProcess others = then_gives (target_and_code others) _ HasBytes (λ _ _. tt)
call_gives call.NtSetInformationProcess others =
    then_gives (three_words others) _ HasBytes (λ three _. then_gives (target_word three.0) _ HasBytes (λ target _.
    then_gives (number_word three.1) _ HasBytes (λ class _. then_gives (number_word three.2) _ HasBytes (λ port _. tt))))
call_gives call.Raise others =
    then_gives (two_words others) _ HasBytes (λ two _. then_gives (number_word two.0) _ HasBytes (λ code _. then_gives (handled_word two.1) _ HasBytes (λ handled _. tt)))
call_gives call.NtCreateSection others = then_gives (two_numbers others) _ HasBytes (λ _ _. tt)
call_gives call.NtMapViewOfSection others = then_gives (four_numbers others) _ HasBytes (λ _ _. tt)
call_gives call.NtUnmapViewOfSection others = then_gives (one_handle others) _ HasBytes (λ _ _. tt)
call_gives call.NtReadVirtualMemory others = then_gives (two_numbers others) _ HasBytes (λ _ _. tt)
call_gives call.NtWriteVirtualMemory others = then_gives (address_and_bytes others) _ HasBytes (λ two is. gives_ok (λ (two : ℕ × List ℕ). AreBytes two.1) (address_and_bytes others) two (written_gives others) is)
call_gives call.NtReadRequestData others = then_gives (range_words others) _ HasBytes (λ range is. gives_ok (λ (range : ℕ × List ℕ × ℕ × ℕ). AreBytes range.1) (range_words others) range (range_gives others) is)
call_gives call.NtWriteRequestData others = then_gives (range_and_bytes others) _ HasBytes (λ new is. gives_ok (λ (new : ℕ × List ℕ × ℕ × List ℕ). AreBytes new.1 × AreBytes new.3) (range_and_bytes others) new (range_bytes_give others) is)
call_gives call.NtImpersonateClientOfPort others = then_gives (handle_and_message others) _ HasBytes (λ two is. gives_ok (λ (two : ℕ × List ℕ). AreBytes two.1) (handle_and_message others) two (handle_gives others) is)
call_gives call.NtSetInformationThread others = then_gives (two_words others) _ HasBytes (λ two _. then_gives (number_word two.0) _ HasBytes (λ _ _. then_gives (fixed_word (codes "null") two.1) _ HasBytes (λ _ _. tt)))
call_gives call.NtOpenThreadToken others = then_gives (no_words others) _ HasBytes (λ _ _. tt)
call_gives call.NtOpenProcessToken others = then_gives (no_words others) _ HasBytes (λ _ _. tt)
call_gives call.NtQueryInformationToken others = then_gives (two_numbers others) _ HasBytes (λ _ _. tt)

directive_gives : (name : Word) (others : List (List ℕ)) → Gives GivesBytes (directive_words name others)
unfolding directive_words
directive_gives word.Boot others = then_gives (process_and_token others) _ GivesBytes (λ _ _. tt)
directive_gives word.Token others = then_gives (token_words others) _ GivesBytes (λ _ _. tt)
directive_gives word.Thread others = then_gives (two_words others) _ GivesBytes (λ two _. then_gives (id_word two.0) _ GivesBytes (λ _ _. then_gives (id_word two.1) _ GivesBytes (λ _ _. tt)))
directive_gives word.Dir others = then_gives (one_word others) _ GivesBytes (λ _ _. tt)
directive_gives word.Link others = then_gives (two_words others) _ GivesBytes (λ _ _. tt)
directive_gives word.Resident others = then_gives (three_words others) _ GivesBytes (λ three _. then_gives (id_word three.0) _ GivesBytes (λ _ _. then_gives (kind_word three.1) _ GivesBytes (λ _ _. then_gives (number_word three.2) _ GivesBytes (λ _ _. tt))))
directive_gives word.Turn others = then_gives (one_word others) _ GivesBytes (λ front _. then_gives (id_word front) _ GivesBytes (λ _ _. tt))

thread_gives : (others : List (List ℕ)) → Gives HasBytes (thread_call others)
thread_gives [] = tt
thread_gives (front ∷ others) = then_gives (ok_or (call_named front) fault.Call) _ HasBytes (λ name _. call_gives name others)

call_line_gives : (front : List ℕ) (others : List (List ℕ)) → Gives GivesBytes (call_line front others)
unfolding call_line
call_line_gives front others =
    then_gives (id_word front) _ GivesBytes (λ tid _.
    then_gives (thread_call others) _ GivesBytes (λ call said. gives_ok HasBytes (thread_call others) call (thread_gives others) said))

directive_line_gives : (front : List ℕ) (others : List (List ℕ)) → Gives GivesBytes (directive_line front others)
unfolding directive_line
directive_line_gives front others =
    then_gives (ok_or (directive_named front) fault.Word) _ GivesBytes (λ name _. directive_gives name others)

words_give : (texts : List (List ℕ)) → Gives SaidBytes (words_line texts)
words_give [] = tt
words_give (front ∷ others) =
    let r = cond (starts_call front) (call_line front others) (directive_line front others) in
    then_gives r _ SaidBytes (λ line is. gives_ok GivesBytes r line
    (choice_gives GivesBytes (starts_call front) (call_line front others) (directive_line front others) (call_line_gives front others) (directive_line_gives front others)) is)

line_gives : (line : List ℕ) → Gives SaidBytes (read_line line)
unfolding read_line
line_gives line =
    choice_gives SaidBytes (nat_lt LINE_LIMIT (length line)) (Err fault.Long) _ tt
    (choice_gives SaidBytes (begins (codes "#") line) (Ok None) _ tt
    (choice_gives SaidBytes (not (list_all is_printable line)) (Err fault.Byte) (words_line (words line)) tt (words_give (words line))))

-- each line of a script gives bytes
said_case : (r : Result (Option ScriptLine) LineFault) (later : List (Option ScriptLine)) → Gives SaidBytes r → AllByRecursion SaidBytes later → AllByRecursion SaidBytes (unless_faulty r later)
said_case (Ok said) later h k = (h, k)
said_case (Err e) later h k = tt

pub said_bytes : (n : ℕ) (lines : List (List ℕ)) → AllByRecursion SaidBytes (said_from n lines)
unfolding said_from
said_bytes n [] = tt
said_bytes n (line ∷ lines) = said_case (numbered_line n line) _ (choice_gives SaidBytes (nat_lt LINES_LIMIT n) (Err fault.Lines) (read_line line) tt (line_gives line)) (said_bytes (n + 1) lines)
