-- The words of an entry's line.
use Rattle.std.proofs.Common.{◌≡◌, refl, sym, ap, ◌∙◌, ℕ, ◌^◌, true, false, List, [], ◌∷◌, ◌++◌, append_assoc, append-nil}
use Rattle.std.specs.Prelude.{codes, decimal, Some, if◌then◌else◌}
use Rattle.std.specs.Str.{bytes_eq}
use Rattle.std.proofs.lemmas.Fmt.{decimal_injective}
use Rattle.hex.specs.Hex.{encode_lower}
use Rattle.lpc_model.specs.Grammar.{call_named, directive_named}
use Rattle.lpc_model.specs.Text.{eight_digits, call_text, word_text, name_text, kind_text, value_text, fields_text, by_text, rest_text}
use Rattle.lpc_model.specs.TextLaws.{Sort, in_decimal, in_hexadecimal, as_kind, as_bytes, as_sids, is_of_sort}
use Rattle.lpc_model.specs.declared.entry.CallName.{CallName}
use Rattle.lpc_model.specs.declared.entry.CallName.TheVariants.{NtCreatePort, NtConnectPort, NtListenPort, NtAcceptConnectPort, NtCompleteConnectPort, NtRequestPort, NtRequestWaitReplyPort, NtReplyPort, NtReplyWaitReceivePort, NtRegisterThreadTerminatePort, NtClose, NtDuplicateObject, NtQueryObject, NtCreateProcess, NtCreateThread, NtTerminateProcess, NtTerminateThread, NtCreateSection, NtMapViewOfSection, NtUnmapViewOfSection, NtReadVirtualMemory, NtWriteVirtualMemory, NtReadRequestData, NtWriteRequestData, NtImpersonateClientOfPort, NtSetInformationThread, NtOpenThreadToken, NtOpenProcessToken, NtQueryInformationToken, NtSetInformationProcess, Raise}
use Rattle.lpc_model.specs.declared.entry.Entry.{Entry}
use Rattle.lpc_model.specs.declared.entry.Entry.TheVariants.{Answer, Waits, Wakes, Busy, NoThread, Died, Directive}
use Rattle.lpc_model.specs.declared.entry.Field.{Field}
use Rattle.lpc_model.specs.declared.entry.FieldName.{FieldName}
use Rattle.lpc_model.specs.declared.entry.FieldName.TheVariants.{H, FirstThread, Id, Ctx, Msg, Data, Max, Info, ObjectType, Access, Handles, Pointers, Base, Size, Target, ViewBase, ViewSize, User, Groups, Level}
use Rattle.lpc_model.specs.declared.entry.Value.{Value}
use Rattle.lpc_model.specs.declared.entry.Value.TheVariants.{Number, Hex, Kind, Bytes, Sids}
use Rattle.lpc_model.specs.declared.entry.ObjectKind.{ObjectKind}
use Rattle.lpc_model.specs.declared.entry.ObjectKind.TheVariants as kind
use Rattle.lpc_model.specs.declared.entry.Word.{Word}
use Rattle.lpc_model.specs.declared.entry.Word.TheVariants as word
use Rattle.lpc_transcript.proofs.Parts.{is_plain, Part, joined}
use Rattle.lpc_transcript.proofs.Listed.{sids_plain, sids_unique}
use Rattle.lpc_transcript.proofs.Figures.{figures_plain, decimal_figures, encode_figures, encode_unique, bytes_from_every, word_figures, word_unique}
use borrow.Author.Tests.{ltb-true}

-- a word behind a space, and one behind `=`
abbrev pub spaced : List ℕ → Part
spaced text = record { equals = false; word = text }

abbrev pub equated : List ℕ → Part
equated text = record { equals = true; word = text }

-- the words of fields: a name and a value for each
abbrev pub field_parts : List Field → List Part
field_parts [] = []
field_parts (field ∷ fields) = spaced (name_text field.name) ∷ equated (value_text field.value) ∷ field_parts fields

-- the words of an entry
abbrev pub parts : Entry → List Part
parts (Answer tid call status fields) = spaced (decimal tid) ∷ spaced (call_text call) ∷ spaced (eight_digits status.0) ∷ field_parts fields
parts (Waits tid call fields) = spaced (decimal tid) ∷ spaced (call_text call) ∷ spaced (codes "wait") ∷ field_parts fields
parts (Wakes tid call status fields) = spaced (42 ∷ decimal tid) ∷ spaced (call_text call) ∷ spaced (eight_digits status.0) ∷ field_parts fields
parts (Busy tid) = spaced (decimal tid) ∷ spaced (codes "busy") ∷ []
parts (NoThread tid) = spaced (decimal tid) ∷ spaced (codes "nothread") ∷ []
parts (Died tid status) = spaced (126 ∷ decimal tid) ∷ spaced (codes "died") ∷ spaced (eight_digits status.0) ∷ []
parts (Directive word status) = spaced (codes "-") ∷ spaced (word_text word) ∷ spaced (eight_digits status.0) ∷ []

pub chain : (a b c d e : List ℕ) → (((a ++ b) ++ c) ++ d) ++ e ≡ a ++ (b ++ (c ++ (d ++ e)))
chain a b c d e = simp append_assoc

fields_joined : (fields : List Field) → fields_text fields ≡ joined (field_parts fields)
fields_joined [] = refl
fields_joined (field ∷ fields) =
    chain (codes " ") (name_text field.name) (codes "=") (value_text field.value) (fields_text fields)
    ∙ ap (λ text. 32 ∷ (name_text field.name ++ 61 ∷ (value_text field.value ++ text))) (fields_joined fields)

-- who calls what, how it ended, and fields
call_joined : (tid : ℕ) (call : CallName) (ended : List ℕ) (fields : List Field) → by_text tid call ++ 32 ∷ ended ++ fields_text fields ≡ decimal tid ++ 32 ∷ (call_text call ++ 32 ∷ (ended ++ joined (field_parts fields)))
call_joined tid call ended fields =
    chain (decimal tid) (codes " ") (call_text call) (32 ∷ ended) (fields_text fields)
    ∙ ap (λ text. decimal tid ++ 32 ∷ (call_text call ++ 32 ∷ (ended ++ text))) (fields_joined fields)

-- an entry's text is its words
pub rest_joined : (entry : Entry) → codes " " ++ rest_text entry ≡ joined (parts entry)
rest_joined (Answer tid call status fields) = ap (λ text. 32 ∷ text) (call_joined tid call (eight_digits status.0) fields)
rest_joined (Waits tid call fields) = ap (λ text. 32 ∷ text) (call_joined tid call (codes "wait") fields)
rest_joined (Wakes tid call status fields) = ap (λ text. 32 ∷ 42 ∷ text) (call_joined tid call (eight_digits status.0) fields)
rest_joined (Busy tid) = refl
rest_joined (NoThread tid) = refl
rest_joined (Died tid status) =
    ap (λ text. 32 ∷ 126 ∷ text) (append_assoc (decimal tid) (codes " died") (32 ∷ eight_digits status.0))
    ∙ ap (λ text. 32 ∷ 126 ∷ (decimal tid ++ (codes " died" ++ 32 ∷ text))) (sym (append-nil (eight_digits status.0)))
rest_joined (Directive word status) = ap (λ text. codes " - " ++ word_text word ++ 32 ∷ text) (sym (append-nil (eight_digits status.0)))

-- ---- names can be read back

-- a call is found by its name
call_named-text : (call : CallName) → call_named (call_text call) ≡ Some call
unfolding call_named
call_named-text NtCreatePort = refl
call_named-text NtConnectPort = refl
call_named-text NtListenPort = refl
call_named-text NtAcceptConnectPort = refl
call_named-text NtCompleteConnectPort = refl
call_named-text NtRequestPort = refl
call_named-text NtRequestWaitReplyPort = refl
call_named-text NtReplyPort = refl
call_named-text NtReplyWaitReceivePort = refl
call_named-text NtRegisterThreadTerminatePort = refl
call_named-text NtClose = refl
call_named-text NtDuplicateObject = refl
call_named-text NtQueryObject = refl
call_named-text NtCreateProcess = refl
call_named-text NtCreateThread = refl
call_named-text NtTerminateThread = refl
call_named-text NtTerminateProcess = refl
call_named-text NtCreateSection = refl
call_named-text NtMapViewOfSection = refl
call_named-text NtUnmapViewOfSection = refl
call_named-text NtReadVirtualMemory = refl
call_named-text NtWriteVirtualMemory = refl
call_named-text NtReadRequestData = refl
call_named-text NtWriteRequestData = refl
call_named-text NtImpersonateClientOfPort = refl
call_named-text NtSetInformationThread = refl
call_named-text NtOpenThreadToken = refl
call_named-text NtOpenProcessToken = refl
call_named-text NtQueryInformationToken = refl
call_named-text NtSetInformationProcess = refl
call_named-text Raise = refl

pub call_unique : (a b : CallName) → call_text a ≡ call_text b → a ≡ b
call_unique a b e =
    let found : Some a ≡ Some b = sym (call_named-text a) ∙ ap call_named e ∙ call_named-text b in
    cc

pub call_plain : (call : CallName) → is_plain (call_text call) ≡ true
call_plain NtCreatePort = refl
call_plain NtConnectPort = refl
call_plain NtListenPort = refl
call_plain NtAcceptConnectPort = refl
call_plain NtCompleteConnectPort = refl
call_plain NtRequestPort = refl
call_plain NtRequestWaitReplyPort = refl
call_plain NtReplyPort = refl
call_plain NtReplyWaitReceivePort = refl
call_plain NtRegisterThreadTerminatePort = refl
call_plain NtClose = refl
call_plain NtDuplicateObject = refl
call_plain NtQueryObject = refl
call_plain NtCreateProcess = refl
call_plain NtCreateThread = refl
call_plain NtTerminateThread = refl
call_plain NtTerminateProcess = refl
call_plain NtCreateSection = refl
call_plain NtMapViewOfSection = refl
call_plain NtUnmapViewOfSection = refl
call_plain NtReadVirtualMemory = refl
call_plain NtWriteVirtualMemory = refl
call_plain NtReadRequestData = refl
call_plain NtWriteRequestData = refl
call_plain NtImpersonateClientOfPort = refl
call_plain NtSetInformationThread = refl
call_plain NtOpenThreadToken = refl
call_plain NtOpenProcessToken = refl
call_plain NtQueryInformationToken = refl
call_plain NtSetInformationProcess = refl
call_plain Raise = refl

-- a directive is found by its name
directive_named-text : (w : Word) → directive_named (word_text w) ≡ Some w
unfolding directive_named
directive_named-text word.Boot = refl
directive_named-text word.Thread = refl
directive_named-text word.Token = refl
directive_named-text word.Dir = refl
directive_named-text word.Link = refl
directive_named-text word.Resident = refl
directive_named-text word.Turn = refl

pub word_name_unique : (a b : Word) → word_text a ≡ word_text b → a ≡ b
word_name_unique a b e =
    let found : Some a ≡ Some b = sym (directive_named-text a) ∙ ap directive_named e ∙ directive_named-text b in
    cc

pub word_plain : (w : Word) → is_plain (word_text w) ≡ true
word_plain word.Boot = refl
word_plain word.Thread = refl
word_plain word.Token = refl
word_plain word.Dir = refl
word_plain word.Link = refl
word_plain word.Resident = refl
word_plain word.Turn = refl

read_name : List ℕ → FieldName
read_name text =
    if bytes_eq text (codes "h") then H
    else (if bytes_eq text (codes "id") then Id
    else (if bytes_eq text (codes "ctx") then Ctx
    else (if bytes_eq text (codes "msg") then Msg
    else (if bytes_eq text (codes "max") then Max
    else (if bytes_eq text (codes "info") then Info
    else (if bytes_eq text (codes "type") then ObjectType
    else (if bytes_eq text (codes "access") then Access
    else (if bytes_eq text (codes "handles") then Handles
    else (if bytes_eq text (codes "pointers") then Pointers
    else (if bytes_eq text (codes "base") then Base
    else (if bytes_eq text (codes "size") then Size
    else (if bytes_eq text (codes "target") then Target
    else (if bytes_eq text (codes "vbase") then ViewBase
    else (if bytes_eq text (codes "vsize") then ViewSize
    else (if bytes_eq text (codes "user") then User
    else (if bytes_eq text (codes "groups") then Groups
    else (if bytes_eq text (codes "level") then Level
    else (if bytes_eq text (codes "thread") then FirstThread else Data))))))))))))))))))

read_name-text : (name : FieldName) → read_name (name_text name) ≡ name
unfolding read_name
read_name-text H = refl
read_name-text FirstThread = refl
read_name-text Id = refl
read_name-text Ctx = refl
read_name-text Msg = refl
read_name-text Data = refl
read_name-text Max = refl
read_name-text Info = refl
read_name-text ObjectType = refl
read_name-text Access = refl
read_name-text Handles = refl
read_name-text Pointers = refl
read_name-text Base = refl
read_name-text Size = refl
read_name-text Target = refl
read_name-text ViewBase = refl
read_name-text ViewSize = refl
read_name-text User = refl
read_name-text Groups = refl
read_name-text Level = refl

pub name_unique : (a b : FieldName) → name_text a ≡ name_text b → a ≡ b
name_unique a b e = sym (read_name-text a) ∙ ap read_name e ∙ read_name-text b

pub name_plain : (name : FieldName) → is_plain (name_text name) ≡ true
name_plain H = refl
name_plain FirstThread = refl
name_plain Id = refl
name_plain Ctx = refl
name_plain Msg = refl
name_plain Data = refl
name_plain Max = refl
name_plain Info = refl
name_plain ObjectType = refl
name_plain Access = refl
name_plain Handles = refl
name_plain Pointers = refl
name_plain Base = refl
name_plain Size = refl
name_plain Target = refl
name_plain ViewBase = refl
name_plain ViewSize = refl
name_plain User = refl
name_plain Groups = refl
name_plain Level = refl

read_kind : List ℕ → ObjectKind
read_kind text =
    if bytes_eq text (codes "port") then kind.Port
    else (if bytes_eq text (codes "section") then kind.Section
    else (if bytes_eq text (codes "token") then kind.Token
    else (if bytes_eq text (codes "process") then kind.Process else kind.Thread)))

read_kind-text : (k : ObjectKind) → read_kind (kind_text k) ≡ k
unfolding read_kind
read_kind-text kind.Port = refl
read_kind-text kind.Section = refl
read_kind-text kind.Token = refl
read_kind-text kind.Process = refl
read_kind-text kind.Thread = refl

kind_unique : (a b : ObjectKind) → kind_text a ≡ kind_text b → a ≡ b
kind_unique a b e = sym (read_kind-text a) ∙ ap read_kind e ∙ read_kind-text b

kind_plain : (k : ObjectKind) → is_plain (kind_text k) ≡ true
kind_plain kind.Port = refl
kind_plain kind.Section = refl
kind_plain kind.Token = refl
kind_plain kind.Process = refl
kind_plain kind.Thread = refl

-- ---- values can be read back

pub value_plain : (sort : Sort) (value : Value) → is_of_sort sort value ≡ true → is_plain (value_text value) ≡ true
value_plain in_decimal (Number n) h = figures_plain (decimal n) (decimal_figures n (ltb-true n (2 ^ 64) h))
value_plain in_hexadecimal (Hex n) h = figures_plain (eight_digits n) (word_figures n)
value_plain as_kind (Kind k) h = kind_plain k
value_plain as_bytes (Bytes bytes) h = figures_plain (encode_lower bytes.items) (encode_figures bytes.items (bytes_from_every bytes.items h))
value_plain as_sids (Sids sids) h = sids_plain sids.items h
value_plain sort value h = absurd (cc)

pub value_unique : (sort : Sort) (v w : Value) → is_of_sort sort v ≡ true → is_of_sort sort w ≡ true → value_text v ≡ value_text w → v ≡ w
value_unique in_decimal (Number m) (Number n) p q e = ap Number (decimal_injective m n (ltb-true m (2 ^ 64) p) (ltb-true n (2 ^ 64) q) e)
value_unique in_hexadecimal (Hex m) (Hex n) p q e = ap Hex (word_unique m n (ltb-true m (2 ^ 32) p) (ltb-true n (2 ^ 32) q) e)
value_unique as_kind (Kind a) (Kind b) p q e = ap Kind (kind_unique a b e)
value_unique as_bytes (Bytes a) (Bytes b) p q e =
    let items = encode_unique a.items b.items (bytes_from_every a.items p) (bytes_from_every b.items q) e in
    λ i. Bytes (record { items = items i })
value_unique as_sids (Sids a) (Sids b) p q e =
    let items = sids_unique a.items b.items p q e in
    λ i. Sids (record { items = items i })
value_unique sort v w p q e = absurd (cc)
