-- The values that a row shows, in JSON.
use Rattle.std.specs.Prelude.{ℕ, nat_lt, ◌==◌, ◌&&◌, ◌||◌, Bool, true, false, not, List, [], ◌∷◌, ◌++◌, Option, None, Some, codes, decimal, if◌then◌else◌}
use Rattle.std.specs.List.{flat_map}
use Rattle.hex.specs.Hex.{encode_lower}
use Rattle.lpc_base.specs.declared.birth.Birth.{Birth}
use Rattle.lpc_base.specs.declared.port_kind.PortKind.{PortKind}
use Rattle.lpc_base.specs.declared.port_kind.PortKind.TheVariants.{Client, Connection, Server, Unnamed}
use Rattle.lpc_model.specs.Found.{port_name, section_name}
use Rattle.lpc_model.specs.Text.{eight_digits, kind_text}
use Rattle.lpc_model.specs.World.{Acceptance, Chance, Creator, Effective, FirstDebug, Impersonation, LastDebug, LastException, ObjectName, Offer, Qos, Raised, Security, Token}
use Rattle.lpc_model.specs.declared.message.Message.{Message}
use Rattle.lpc_names.specs.Walk.{Path}
use Rattle.lpc_sid.specs.Spelling.{spelling}
use Rattle.lpc_sid.specs.declared.access.Ace.{Ace}
use Rattle.lpc_sid.specs.declared.sid.Sid.{Sid}
use Rattle.lpc_tokens.specs.declared.qos.Tracking.{Tracking}
use Rattle.lpc_tokens.specs.declared.qos.Tracking.TheVariants.{Dynamic, Static}
use Rattle.lpc_tokens.specs.declared.security.Security.TheVariants.{Allows, Guarded, Unsecured}

-- pieces of a text, one after the other
unfoldable pub joined : List (List ℕ) → List ℕ
joined [] = []
joined (piece ∷ pieces) = piece ++ joined pieces

-- a text in quotes
abbrev pub quoted : List ℕ → List ℕ
quoted text = codes "\"" ++ text ++ codes "\""

-- a truth value
abbrev pub flag : Bool → List ℕ
flag true = codes "true"
flag false = codes "false"

-- a number of 32 bits as eight hexadecimal digits; bytes, as two each
abbrev pub hex : ℕ → List ℕ
hex n = quoted (eight_digits n)

abbrev pub bytes_text : List ℕ → List ℕ
bytes_text bytes = quoted (encode_lower bytes)

-- a value, or null where there is none
abbrev pub or_null : {A : Type 0} → (A → List ℕ) → Option A → List ℕ
or_null show None = codes "null"
or_null show (Some x) = show x

-- values in order
abbrev pub behind_comma : {A : Type 0} → (A → List ℕ) → A → List ℕ
behind_comma show x = codes "," ++ show x

abbrev pub listed : {A : Type 0} → (A → List ℕ) → List A → List ℕ
listed show [] = codes "[]"
listed show (x ∷ xs) = joined (codes "[" ∷ show x ∷ flat_map (behind_comma show) xs ∷ codes "]" ∷ [])

-- A byte of a name. A printed sign stands for itself, with a backslash in front of a quote and of a backslash; any other
-- byte is told by its number, and so is a comma: a comma ends the name of a row.
abbrev pub is_plain : ℕ → Bool
is_plain b = nat_lt 31 b && nat_lt b 127 && not (b == 44)

abbrev pub spelled_byte : ℕ → List ℕ
spelled_byte b =
    if (b == 34) || (b == 92) then 92 ∷ b ∷ []
    else (if is_plain b then b ∷ [] else codes "\\u00" ++ encode_lower (b ∷ []))

abbrev pub spelled : List ℕ → List ℕ
spelled bytes = flat_map spelled_byte bytes

-- a path: each component behind a backslash; the root is a backslash alone
abbrev pub component_text : List ℕ → List ℕ
component_text part = codes "\\\\" ++ spelled part

abbrev pub path_text : Path → List ℕ
path_text [] = codes "\\\\"
path_text (part ∷ parts) = flat_map component_text (part ∷ parts)

-- the thread that made an object, and which of that thread's objects it is
abbrev pub birth_text : Birth → List ℕ
birth_text b = decimal b.maker ++ codes "." ++ decimal b.ordinal

-- the name of an object: its kind and its birth
abbrev pub object_text : ObjectName → List ℕ
object_text o = quoted (kind_text o.kind ++ codes " " ++ birth_text o.birth)

abbrev pub port_text : Birth → List ℕ
port_text b = object_text (port_name b)

-- a SID, and a token: its user and its groups
abbrev pub sid_text : Sid → List ℕ
sid_text sid = quoted (spelling sid)

unfoldable pub token_text : Token → List ℕ
token_text t = joined (
    codes "{\"user\":" ∷ sid_text t.user
    ∷ codes ",\"groups\":" ∷ listed sid_text t.groups.items
    ∷ codes "}"
    ∷ []
    )

-- the token of a client, as which a thread acts; a token with the level of an impersonation token
unfoldable pub leveled_text : Token → Option ℕ → List ℕ
leveled_text t level = joined (
    codes "{\"token\":" ∷ token_text t
    ∷ codes ",\"level\":" ∷ or_null decimal level
    ∷ codes "}"
    ∷ []
    )

abbrev pub impersonation_text : Impersonation → List ℕ
impersonation_text i = leveled_text i.token (Some i.level)

abbrev pub effective_text : Effective → List ℕ
effective_text e = leveled_text e.token e.level

-- an entry of an access list
unfoldable pub ace_text : Ace → List ℕ
ace_text a = joined (
    codes "{\"allow\":" ∷ flag a.allow
    ∷ codes ",\"mask\":" ∷ hex a.mask
    ∷ codes ",\"sid\":" ∷ sid_text a.sid
    ∷ codes "}"
    ∷ []
    )

-- which of a client's tokens its server gets
abbrev pub tracking_text : Tracking → List ℕ
tracking_text Static = codes "\"static\""
tracking_text Dynamic = codes "\"dynamic\""

-- what a client allows its server: a level, which of its tokens, and the one with which it connected
unfoldable pub allowed_text : Qos → Effective → List ℕ
allowed_text quality kept = joined (
    codes "{\"level\":" ∷ decimal quality.level
    ∷ codes ",\"tracking\":" ∷ tracking_text quality.tracking
    ∷ codes ",\"connected_as\":" ∷ effective_text kept
    ∷ codes "}"
    ∷ []
    )

-- who may use a port, and what it allows
unfoldable pub security_text : Security → List ℕ
security_text Unsecured = codes "null"
security_text (Guarded dacl) = codes "{\"dacl\":" ++ listed ace_text dacl.list.items ++ codes "}"
security_text (Allows quality kept) = allowed_text quality kept

-- the kind of a port
abbrev pub port_kind_text : PortKind → List ℕ
port_kind_text Unnamed = codes "\"unnamed\""
port_kind_text Connection = codes "\"connection\""
port_kind_text Client = codes "\"client\""
port_kind_text Server = codes "\"server\""

-- the connect that made a client port
unfoldable pub creator_text : Creator → List ℕ
creator_text c = joined (
    codes "{\"process\":" ∷ decimal c.client.process
    ∷ codes ",\"thread\":" ∷ decimal c.client.thread
    ∷ codes ",\"identifier\":" ∷ decimal c.identifier
    ∷ codes "}"
    ∷ []
    )

-- a message, field by field: its type, who is named, the identifier, the two sizes, where its range table stands, the size
-- of what it offers to be seen, and its data
unfoldable pub message_fields : Message → List ℕ
message_fields m = joined (
    codes "\"type\":" ∷ decimal m.header.kind
    ∷ codes ",\"process\":" ∷ decimal m.header.client.process
    ∷ codes ",\"thread\":" ∷ decimal m.header.client.thread
    ∷ codes ",\"identifier\":" ∷ decimal m.header.message_id
    ∷ codes ",\"data_size\":" ∷ decimal m.header.data_size
    ∷ codes ",\"message_size\":" ∷ decimal m.header.message_size
    ∷ codes ",\"ranges_offset\":" ∷ decimal m.header.ranges_offset
    ∷ codes ",\"section_size\":" ∷ decimal m.header.section_size
    ∷ codes ",\"data\":" ∷ bytes_text m.body
    ∷ []
    )

abbrev pub message_text : Message → List ℕ
message_text m = codes "{" ++ message_fields m ++ codes "}"

-- what a connect offers to be seen, and what an accepted connect's completion tells
unfoldable pub offer_text : Offer → List ℕ
offer_text o = joined (
    codes "{\"section\":" ∷ object_text (section_name o.section)
    ∷ codes ",\"offset\":" ∷ decimal o.offset
    ∷ codes ",\"size\":" ∷ decimal o.size
    ∷ codes "}"
    ∷ []
    )

unfoldable pub acceptance_text : Acceptance → List ℕ
acceptance_text a = joined (
    codes "{\"info\":" ∷ bytes_text a.reply
    ∷ codes ",\"target\":" ∷ or_null hex a.target
    ∷ codes ",\"vbase\":" ∷ or_null hex a.vbase
    ∷ codes ",\"vsize\":" ∷ or_null decimal a.vsize
    ∷ codes "}"
    ∷ []
    )

-- the chance that an exception has now, and an exception that was raised
abbrev pub chance_text : Chance → List ℕ
chance_text FirstDebug = codes "\"first debug\""
chance_text LastDebug = codes "\"last debug\""
chance_text LastException = codes "\"last exception\""

unfoldable pub raised_text : Raised → List ℕ
raised_text r = joined (
    codes "{\"code\":" ∷ hex r.code
    ∷ codes ",\"handled\":" ∷ flag r.handled
    ∷ codes ",\"chance\":" ∷ chance_text r.chance
    ∷ codes "}"
    ∷ []
    )
