-- What a line says, or its first fault. A call or directive stands in its list, and has a case for its words.
use Rattle.std.specs.Prelude.{ℕ, ◌==◌, ◌||◌, ◌&&◌, nat_lt, nat_le, not, Bool, true, false, List, [], ◌∷◌, length, drop, find, codes, Option, Some, None, Result, Ok, Err, if◌then◌else◌}
use Rattle.std.specs.Char.{is_ascii_alphanumeric, is_ascii_digit}
use Rattle.std.specs.List.{list_all}
use Rattle.std.specs.Option.{ok_or}
use Rattle.std.specs.Str.{bytes_eq}
use Rattle.lpc_base.specs.declared.limits.TheConstants.{LINE_LIMIT}
use Rattle.lpc_sid.specs.Spelling.{sid_of}
use Rattle.lpc_sid.specs.declared.access.Ace.{Ace}
use Rattle.lpc_sid.specs.declared.access.Dacl.{Dacl}
use Rattle.lpc_sid.specs.declared.sid.Sid.{Sid}
use Rattle.lpc_sid.specs.declared.token.Token.{Token}
use Rattle.lpc_tokens.specs.declared.level.TheConstants.{DELEGATION, IMPERSONATION}
use Rattle.lpc_tokens.specs.declared.names.TheConstants.{TOKEN_NAME_LIMIT}
use Rattle.lpc_tokens.specs.declared.qos.Qos.{Qos}
use Rattle.lpc_tokens.specs.declared.qos.Tracking.{Tracking}
use Rattle.lpc_tokens.specs.declared.qos.Tracking.TheVariants.{Dynamic, Static}
use Rattle.lpc_model.specs.declared.entry.CallName.{CallName}
use Rattle.lpc_model.specs.declared.entry.CallName.TheVariants.{NtCreatePort, NtConnectPort, NtListenPort, NtAcceptConnectPort, NtCompleteConnectPort, NtRequestPort, NtRequestWaitReplyPort, NtReplyPort, NtReplyWaitReceivePort, NtRegisterThreadTerminatePort, NtClose, NtDuplicateObject, NtQueryObject, NtCreateProcess, NtCreateThread, NtTerminateProcess, NtTerminateThread, NtCreateSection, NtMapViewOfSection, NtUnmapViewOfSection, NtReadVirtualMemory, NtWriteVirtualMemory, NtReadRequestData, NtWriteRequestData, NtImpersonateClientOfPort, NtSetInformationThread, NtOpenThreadToken, NtOpenProcessToken, NtQueryInformationToken, NtSetInformationProcess, Raise}
use Rattle.lpc_model.specs.declared.entry.Word.{Word}
use Rattle.lpc_model.specs.declared.entry.Word.TheVariants.{Boot, Thread, Dir, Link}
use Rattle.lpc_model.specs.declared.entry.Word.TheVariants as word
use Rattle.lpc_model.specs.declared.line.Kind.TheVariants.{Win32}
use Rattle.lpc_model.specs.declared.line.ProcArg.TheVariants.{By, Current}
use Rattle.lpc_model.specs.declared.fault.LineFault.{LineFault}
use Rattle.lpc_model.specs.declared.fault.LineFault.TheVariants as fault
use Rattle.lpc_model.specs.Lines.{ScriptCall, create_port, connect_port, listen_port, accept_connect_port, complete_connect_port, request_port, request_wait_reply_port, reply_port, reply_wait_receive_port, register_thread_terminate_port, close, duplicate_object, query_object, create_process, create_thread, terminate_process, terminate_thread, create_section, map_view_of_section, unmap_view_of_section, read_virtual_memory, write_virtual_memory, read_request_data, write_request_data, impersonate_client_of_port, set_information_thread, open_thread_token, open_process_token, query_information_token, ProcArg, ScriptLine, boot, thread, token, dir, link, run, ViewWord, set_information_process, raise, Kind, of_resident, hosts, moves}
use Rattle.lpc_model.specs.Words.{is_empty, fault_if, hex_word, words, begins, number_word, id_word, is_id, message_word, info_word, parts, three_parts}
use Rattle.lpc_model.specs.Text.{call_text, word_text}
use Rattle.lpc_model.specs.Then.{◌>>=◌}

-- the calls that a line may name
abbrev pub calls : List CallName
calls =
    NtCreatePort
    ∷ NtConnectPort
    ∷ NtListenPort
    ∷ NtAcceptConnectPort
    ∷ NtCompleteConnectPort
    ∷ NtRequestPort
    ∷ NtRequestWaitReplyPort
    ∷ NtReplyPort
    ∷ NtReplyWaitReceivePort
    ∷ NtRegisterThreadTerminatePort
    ∷ NtClose
    ∷ NtDuplicateObject
    ∷ NtQueryObject
    ∷ NtCreateProcess
    ∷ NtCreateThread
    ∷ NtTerminateThread
    ∷ NtTerminateProcess
    ∷ NtCreateSection
    ∷ NtMapViewOfSection
    ∷ NtUnmapViewOfSection
    ∷ NtReadVirtualMemory
    ∷ NtWriteVirtualMemory
    ∷ NtReadRequestData
    ∷ NtWriteRequestData
    ∷ NtImpersonateClientOfPort
    ∷ NtSetInformationThread
    ∷ NtOpenThreadToken
    ∷ NtOpenProcessToken
    ∷ NtQueryInformationToken
    ∷ NtSetInformationProcess
    ∷ Raise
    ∷ []

-- the call whose name a word is
unfoldable pub call_named : List ℕ → Option CallName
call_named word = find (λ call. bytes_eq word (call_text call)) calls

-- the directives that a line may name
abbrev pub directives : List Word
directives = Boot ∷ Thread ∷ word.Token ∷ Dir ∷ Link ∷ word.Resident ∷ word.Turn ∷ []

-- the directive whose name a word is
unfoldable pub directive_named : List ℕ → Option Word
directive_named word = find (λ directive. bytes_eq word (word_text directive)) directives

-- the one word that may stand in a place
abbrev pub fixed_word : List ℕ → List ℕ → Result Unit LineFault
fixed_word text word = fault_if (not (bytes_eq word text)) fault.Word

-- exactly two parts
unfoldable pub two_parts : List (List ℕ) → Option (List ℕ × List ℕ)
two_parts (a ∷ b ∷ []) = Some (a, b)
two_parts others = None

-- static or dynamic tracking
unfoldable pub tracking_word : List ℕ → Result Tracking LineFault
tracking_word word =
    if bytes_eq word (codes "s") then Ok Static
    else (if bytes_eq word (codes "d") then Ok Dynamic
    else Err fault.Word)

-- an impersonation level: a Number up to 3
unfoldable pub level_word : List ℕ → Result ℕ LineFault
level_word word = do
  level ← number_word word
  _ ← fault_if (nat_lt DELEGATION level) fault.Number
  Ok level

-- a level and a tracking, parted by a colon, whose form comes before the number
unfoldable pub quality_parts : List ℕ → Result Qos LineFault
quality_parts text = do
  two ← ok_or (two_parts (parts 58 text)) fault.Word
  tracking ← tracking_word two.1
  level ← level_word two.0
  Ok (record { level = level; tracking = tracking })

-- the quality of service of a connect that asks for none
abbrev pub default_quality : Qos
default_quality = record { level = IMPERSONATION; tracking = Dynamic }

-- QOS: `-` for the default, or `q:` and its parts
unfoldable pub qos_word : List ℕ → Result Qos LineFault
qos_word word =
    if bytes_eq word (codes "-") then Ok default_quality
    else (if begins (codes "q:") word then quality_parts (drop 2 word)
    else Err fault.Word)

-- SID: the one spelling of a SID
unfoldable pub sid_word : List ℕ → Result Sid LineFault
sid_word word = ok_or (sid_of word) fault.Sid

-- words that are each read so, from left to right
unfoldable pub each_word : {A B : Type 0} → (A → Result B LineFault) → List A → Result (List B) LineFault
each_word read [] = Ok []
each_word read (word ∷ others) = do
  one ← read word
  rest ← each_word read others
  Ok (one ∷ rest)

-- an entry of an access list by its form: whether it allows or denies, the text of its mask, and that of its SID
unfoldable pub entry_kind : List ℕ → Result Bool LineFault
entry_kind word =
    if bytes_eq word (codes "A") then Ok true
    else (if bytes_eq word (codes "D") then Ok false
    else Err fault.Word)

unfoldable pub entry_form : List ℕ → Result (Bool × List ℕ × List ℕ) LineFault
entry_form text = do
  three ← ok_or (three_parts (parts 47 text)) fault.Word
  allow ← entry_kind three.0
  Ok (allow, three.1, three.2)

-- the numbers of an entry
unfoldable pub entry_of : Bool × List ℕ × List ℕ → Result Ace LineFault
entry_of form = do
  mask ← number_word form.1
  sid ← sid_word form.2
  Ok (record { allow = form.0; mask = mask; sid = sid })

-- the texts of the entries of an access list, parted by commas; an empty text has none
abbrev pub entry_texts : List ℕ → List (List ℕ)
entry_texts text = if is_empty text then [] else parts 44 text

-- the entries of an access list, at most 16: the forms of all come first
unfoldable pub entries_word : List ℕ → Result Dacl LineFault
entries_word text = do
  _ ← fault_if (nat_lt 16 (length (entry_texts text))) fault.Word
  forms ← each_word entry_form (entry_texts text)
  aces ← each_word entry_of forms
  Ok (record { list = record { items = aces } })

-- DACL: `acl:` and the entries
unfoldable pub dacl_word : List ℕ → Result Dacl LineFault
dacl_word word = if begins (codes "acl:") word then entries_word (drop 4 word) else Err fault.Word

-- an access list, where a word is given for it
abbrev pub given_dacl : Option (List ℕ) → Result (Option Dacl) LineFault
given_dacl None = Ok None
given_dacl (Some word) = do
  dacl ← dacl_word word
  Ok (Some dacl)

-- the name of a token: 1 to 32 letters, digits or `_`
abbrev pub is_name_byte : ℕ → Bool
is_name_byte b = is_ascii_alphanumeric b || (b == 95)

unfoldable pub token_word : List ℕ → Result (List ℕ) LineFault
token_word word = do
  _ ← fault_if (not ((nat_le 1 (length word) && nat_le (length word) TOKEN_NAME_LIMIT) && list_all is_name_byte word)) fault.Word
  Ok word

-- a view's handle, offset and size, each parted from the next by a colon
unfoldable pub view_numbers : List ℕ → Result ViewWord LineFault
view_numbers text = do
  numbers ← ok_or (three_parts (parts 58 text)) fault.Word
  handle ← number_word numbers.0
  offset ← number_word numbers.1
  size ← number_word numbers.2
  Ok (record { handle = handle; offset = offset; size = size })

-- VIEW: `-` for none, or `w:` and its numbers
unfoldable pub view_word : List ℕ → Result (Option ViewWord) LineFault
view_word word =
    if bytes_eq word (codes "-") then Ok None
    else (if begins (codes "w:") word then (do
      view ← view_numbers (drop 2 word)
      Ok (Some view))
    else Err fault.Word)

-- whether a connect is accepted: `accept` or `refuse`
unfoldable pub accept_word : List ℕ → Result Bool LineFault
accept_word word =
    if bytes_eq word (codes "accept") then Ok true
    else (if bytes_eq word (codes "refuse") then Ok false
    else Err fault.Word)

-- whether the frame handlers handle an exception: `handled` or `unhandled`
unfoldable pub handled_word : List ℕ → Result Bool LineFault
handled_word word =
    if bytes_eq word (codes "handled") then Ok true
    else (if bytes_eq word (codes "unhandled") then Ok false
    else Err fault.Word)

-- exactly one word, exactly two, exactly three, and exactly four
unfoldable pub one_word : List (List ℕ) → Result (List ℕ) LineFault
one_word (a ∷ []) = Ok a
one_word others = Err fault.Count

unfoldable pub two_words : List (List ℕ) → Result (List ℕ × List ℕ) LineFault
two_words (a ∷ b ∷ []) = Ok (a, b)
two_words others = Err fault.Count

unfoldable pub three_words : List (List ℕ) → Result (List ℕ × List ℕ × List ℕ) LineFault
three_words (a ∷ b ∷ c ∷ []) = Ok (a, b, c)
three_words others = Err fault.Count

unfoldable pub four_words : List (List ℕ) → Result (List ℕ × List ℕ × List ℕ × List ℕ) LineFault
four_words (a ∷ b ∷ c ∷ d ∷ []) = Ok (a, b, c, d)
four_words others = Err fault.Count

-- no word
unfoldable pub no_words : List (List ℕ) → Result Unit LineFault
no_words [] = Ok tt
no_words others = Err fault.Count

-- one word, and perhaps a second
unfoldable pub one_or_two_words : List (List ℕ) → Result (List ℕ × Option (List ℕ)) LineFault
one_or_two_words (a ∷ []) = Ok (a, None)
one_or_two_words (a ∷ b ∷ []) = Ok (a, Some b)
one_or_two_words others = Err fault.Count

-- two words, and perhaps a third
unfoldable pub two_or_three_words : List (List ℕ) → Result (List ℕ × List ℕ × Option (List ℕ)) LineFault
two_or_three_words (a ∷ b ∷ []) = Ok (a, b, None)
two_or_three_words (a ∷ b ∷ c ∷ []) = Ok (a, b, Some c)
two_or_three_words others = Err fault.Count

-- two words, and up to 16 more
unfoldable pub two_and_more_words : List (List ℕ) → Result (List ℕ × List ℕ × List (List ℕ)) LineFault
two_and_more_words (a ∷ b ∷ others) = if nat_le (length others) 16 then Ok (a, b, others) else Err fault.Count
two_and_more_words others = Err fault.Count

-- a message, where a word is given for it
abbrev pub given_message : Option (List ℕ) → Result (Option (List ℕ)) LineFault
given_message None = Ok None
given_message (Some word) = do
  message ← message_word word
  Ok (Some message)

-- the name of a new port, which may be any word; `-` gives it none
abbrev pub name_word : List ℕ → Option (List ℕ)
name_word word = if bytes_eq word (codes "-") then None else Some word

-- a handle, or an address, alone
abbrev pub one_handle : List (List ℕ) → Result ℕ LineFault
one_handle others = do
  word ← one_word others
  number_word word

-- the rights of a further handle: a number, or `same` for those of the handle
abbrev pub access_word : List ℕ → Result (Option ℕ) LineFault
access_word word =
    if bytes_eq word (codes "same") then Ok None
    else (do
      access ← number_word word
      Ok (Some access))

-- a process or a thread: a handle, or `self` for the caller's own
abbrev pub target_word : List ℕ → Result ProcArg LineFault
target_word word =
    if bytes_eq word (codes "self") then Ok Current
    else (do
      handle ← number_word word
      Ok (By handle))

-- the name of a token, where a word is given for it
abbrev pub given_token : Option (List ℕ) → Result (Option (List ℕ)) LineFault
given_token None = Ok None
given_token (Some word) = do
  name ← token_word word
  Ok (Some name)

-- the numbers of a new process and of its first thread, and perhaps the name of a token
abbrev pub process_and_token : List (List ℕ) → Result (ℕ × ℕ × Option (List ℕ)) LineFault
process_and_token others = do
  three ← two_or_three_words others
  pid ← id_word three.0
  tid ← id_word three.1
  name ← given_token three.2
  Ok (pid, tid, name)

-- the name of a new token, its user, and its groups
abbrev pub token_words : List (List ℕ) → Result (List ℕ × Token) LineFault
token_words others = do
  all ← two_and_more_words others
  name ← token_word all.0
  user ← sid_word all.1
  groups ← each_word sid_word all.2
  Ok (name, record { user = user; groups = record { items = groups } })

-- the numbers of a new process and of its first thread
abbrev pub process_and_thread : List (List ℕ) → Result (ℕ × ℕ) LineFault
process_and_thread others = do
  two ← two_words others
  pid ← id_word two.0
  tid ← id_word two.1
  Ok (pid, tid)

-- the process that a thread is to be of, and the number of the thread
abbrev pub target_and_thread : List (List ℕ) → Result (ProcArg × ℕ) LineFault
target_and_thread others = do
  two ← two_words others
  target ← target_word two.0
  tid ← id_word two.1
  Ok (target, tid)

-- what is to end, and the status with which it does
abbrev pub target_and_code : List (List ℕ) → Result (ProcArg × ℕ) LineFault
target_and_code others = do
  two ← two_words others
  target ← target_word two.0
  code ← number_word two.1
  Ok (target, code)

-- a handle and a message
abbrev pub handle_and_message : List (List ℕ) → Result (ℕ × List ℕ) LineFault
handle_and_message others = do
  two ← two_words others
  handle ← number_word two.0
  message ← message_word two.1
  Ok (handle, message)

-- a handle, and perhaps a message
abbrev pub handle_and_reply : List (List ℕ) → Result (ℕ × Option (List ℕ)) LineFault
handle_and_reply others = do
  two ← one_or_two_words others
  handle ← number_word two.0
  reply ← given_message two.1
  Ok (handle, reply)

-- two numbers, and four
abbrev pub two_numbers : List (List ℕ) → Result (ℕ × ℕ) LineFault
two_numbers others = do
  two ← two_words others
  a ← number_word two.0
  b ← number_word two.1
  Ok (a, b)

abbrev pub four_numbers : List (List ℕ) → Result (ℕ × ℕ × ℕ × ℕ) LineFault
four_numbers others = do
  four ← four_words others
  a ← number_word four.0
  b ← number_word four.1
  c ← number_word four.2
  d ← number_word four.3
  Ok (a, b, c, d)

-- an address, and the bytes that are to stand there
abbrev pub address_and_bytes : List (List ℕ) → Result (ℕ × List ℕ) LineFault
address_and_bytes others = do
  two ← two_words others
  address ← number_word two.0
  bytes ← hex_word two.1
  Ok (address, bytes)

-- a handle, a message, the number of a range that the message's request describes, and how many of its bytes
abbrev pub range_words : List (List ℕ) → Result (ℕ × List ℕ × ℕ × ℕ) LineFault
range_words others = do
  four ← four_words others
  handle ← number_word four.0
  message ← message_word four.1
  index ← number_word four.2
  n ← number_word four.3
  Ok (handle, message, index, n)

-- the same with the bytes that are to stand there
abbrev pub range_and_bytes : List (List ℕ) → Result (ℕ × List ℕ × ℕ × List ℕ) LineFault
range_and_bytes others = do
  four ← four_words others
  handle ← number_word four.0
  message ← message_word four.1
  index ← number_word four.2
  bytes ← hex_word four.3
  Ok (handle, message, index, bytes)

-- a call by the words behind its name
unfoldable pub call_words : CallName → List (List ℕ) → Result ScriptCall LineFault
call_words NtCreatePort others = do
  two ← one_or_two_words others
  dacl ← given_dacl two.1
  Ok (create_port (name_word two.0) dacl)
call_words NtConnectPort others = do
  four ← four_words others
  quality ← qos_word four.1
  view ← view_word four.2
  info ← info_word four.3
  Ok (connect_port four.0 quality view info)
call_words NtListenPort others = do
  handle ← one_handle others
  Ok (listen_port handle)
call_words NtAcceptConnectPort others = do
  four ← four_words others
  context ← number_word four.0
  message ← message_word four.1
  accept ← accept_word four.2
  view ← view_word four.3
  Ok (accept_connect_port context message accept view)
call_words NtCompleteConnectPort others = do
  handle ← one_handle others
  Ok (complete_connect_port handle)
call_words NtRequestPort others = do
  datagram ← handle_and_message others
  Ok (request_port datagram.0 datagram.1)
call_words NtRequestWaitReplyPort others = do
  request ← handle_and_message others
  Ok (request_wait_reply_port request.0 request.1)
call_words NtReplyPort others = do
  reply ← handle_and_message others
  Ok (reply_port reply.0 reply.1)
call_words NtReplyWaitReceivePort others = do
  receive ← handle_and_reply others
  Ok (reply_wait_receive_port receive.0 receive.1)
call_words NtRegisterThreadTerminatePort others = do
  handle ← one_handle others
  Ok (register_thread_terminate_port handle)
call_words NtClose others = do
  handle ← one_handle others
  Ok (close handle)
call_words NtDuplicateObject others = do
  two ← two_words others
  handle ← number_word two.0
  access ← access_word two.1
  Ok (duplicate_object handle access)
call_words NtQueryObject others = do
  handle ← one_handle others
  Ok (query_object handle)
call_words NtCreateProcess others = do
  made ← process_and_thread others
  Ok (create_process made.0 made.1)
call_words NtCreateThread others = do
  made ← target_and_thread others
  Ok (create_thread made.0 made.1)
call_words NtTerminateThread others = do
  end ← target_and_code others
  Ok (terminate_thread end.0 end.1)
call_words NtTerminateProcess others = do
  end ← target_and_code others
  Ok (terminate_process end.0 end.1)
call_words NtCreateSection others = do
  made ← two_numbers others
  Ok (create_section made.0 made.1)
call_words NtMapViewOfSection others = do
  view ← four_numbers others
  Ok (map_view_of_section view.0 view.1 view.2 view.3)
call_words NtUnmapViewOfSection others = do
  address ← one_handle others
  Ok (unmap_view_of_section address)
call_words NtReadVirtualMemory others = do
  range ← two_numbers others
  Ok (read_virtual_memory range.0 range.1)
call_words NtWriteVirtualMemory others = do
  new ← address_and_bytes others
  Ok (write_virtual_memory new.0 new.1)
call_words NtReadRequestData others = do
  range ← range_words others
  Ok (read_request_data range.0 range.1 range.2 range.3)
call_words NtWriteRequestData others = do
  new ← range_and_bytes others
  Ok (write_request_data new.0 new.1 new.2 new.3)
call_words NtImpersonateClientOfPort others = do
  client ← handle_and_message others
  Ok (impersonate_client_of_port client.0 client.1)
call_words NtSetInformationThread others = do
  two ← two_words others
  class ← number_word two.0
  _ ← fixed_word (codes "null") two.1
  Ok (set_information_thread class)
call_words NtOpenThreadToken others = do
  _ ← no_words others
  Ok open_thread_token
call_words NtOpenProcessToken others = do
  _ ← no_words others
  Ok open_process_token
call_words NtQueryInformationToken others = do
  two ← two_numbers others
  Ok (query_information_token two.0 two.1)
call_words NtSetInformationProcess others = do
  three ← three_words others
  target ← target_word three.0
  class ← number_word three.1
  port ← number_word three.2
  Ok (set_information_process target class port)
call_words Raise others = do
  two ← two_words others
  code ← number_word two.0
  handled ← handled_word two.1
  Ok (raise code handled)

-- the kind of a server
unfoldable pub kind_word : List ℕ → Result Kind LineFault
kind_word word = do
  _ ← fixed_word (codes "win32") word
  Ok Win32

-- a directive by the words behind it; a path may be any word
unfoldable pub directive_words : Word → List (List ℕ) → Result ScriptLine LineFault
directive_words Boot others = do
  made ← process_and_token others
  Ok (boot made.0 made.1 made.2)
directive_words Thread others = do
  two ← two_words others
  tid ← id_word two.0
  pid ← id_word two.1
  Ok (thread tid pid)
directive_words word.Token others = do
  named ← token_words others
  Ok (token named.0 named.1)
directive_words Dir others = do
  path ← one_word others
  Ok (dir path)
directive_words Link others = do
  two ← two_words others
  Ok (link two.0 two.1)
directive_words word.Resident others = do
  three ← three_words others
  tid ← id_word three.0
  kind ← kind_word three.1
  handle ← number_word three.2
  Ok (of_resident tid (hosts kind handle) false)
directive_words word.Turn others = do
  front ← one_word others
  tid ← id_word front
  Ok (of_resident tid moves false)

-- the call of a thread: its name, and the words behind it
abbrev pub thread_call : List (List ℕ) → Result ScriptCall LineFault
thread_call [] = Err fault.Count
thread_call (word ∷ others) = do
  name ← ok_or (call_named word) fault.Call
  call_words name others

-- the number of a thread, and its call
unfoldable pub call_line : List ℕ → List (List ℕ) → Result ScriptLine LineFault
call_line front others = do
  tid ← id_word front
  call ← thread_call others
  Ok (run tid call)

-- a directive's word, and the words behind it
unfoldable pub directive_line : List ℕ → List (List ℕ) → Result ScriptLine LineFault
directive_line front others = do
  word ← ok_or (directive_named front) fault.Word
  directive_words word others

-- a first word that begins with a digit is the number of a thread
abbrev pub starts_call : List ℕ → Bool
starts_call [] = false
starts_call (b ∷ bs) = is_ascii_digit b

-- a line by its words, none where it has no word
abbrev pub words_line : List (List ℕ) → Result (Option ScriptLine) LineFault
words_line [] = Ok None
words_line (front ∷ others) = do
  line ← (if starts_call front then call_line front others else directive_line front others)
  Ok (Some line)

-- a character that may stand in a line
abbrev pub is_printable : ℕ → Bool
is_printable b = nat_le 32 b && nat_le b 126

-- What a line says, none where it is a comment or has no word, or its first fault.
unfoldable pub read_line : List ℕ → Result (Option ScriptLine) LineFault
read_line line =
    if nat_lt LINE_LIMIT (length line) then Err fault.Long
    else (if begins (codes "#") line then Ok None
    else (if not (list_all is_printable line) then Err fault.Byte
    else words_line (words line)))

-- the numbers of what a call makes, and of the processes and threads that a line names, are from 1 to 2147483647
abbrev pub has_call_ids : ScriptCall → Bool
has_call_ids (create_process pid tid) = is_id pid && is_id tid
has_call_ids (create_thread target tid) = is_id tid
has_call_ids call = true

abbrev pub has_ids : ScriptLine → Bool
has_ids (boot pid tid name) = is_id pid && is_id tid
has_ids (thread tid pid) = is_id tid && is_id pid
has_ids (token name content) = true
has_ids (dir path) = true
has_ids (link path target) = true
has_ids (of_resident tid what had) = is_id tid
has_ids (run tid call) = is_id tid && has_call_ids call
