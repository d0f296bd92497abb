-- The script of a storm: a server connects eight clients, serves rounds that a generator of numbers draws, and all end.
use Rattle.std.specs.Prelude.{ℕ, zero, suc, ◌+◌, ◌*◌, ◌/◌, ◌%◌, ◌^◌, ◌==◌, List, [], ◌∷◌, ◌++◌, map, codes, decimal, slice_index, slice_set, if◌then◌else◌}
use Rattle.std.specs.List.{flat_map}
use Rattle.lpc_model.specs.Text.{eight_digits}
use Rattle.lpc_storm.specs.declared.line.StormLine.{StormLine}
use Rattle.lpc_storm.specs.declared.rounds.Round.{Round}
use Rattle.lpc_storm.specs.declared.rounds.Round.TheVariants as round
use Rattle.lpc_storm.specs.declared.line.StormLine.TheVariants.{Directory, BootServer, Create, Boot, Connect, Listen, Accept, Complete, Datagram, Request, Receive, Reply, EndServer, End}

-- the process and the thread of a client, and the handle of its server port
abbrev pub process_of : ℕ → ℕ
process_of client = 100 + client

abbrev pub thread_of : ℕ → ℕ
thread_of client = 200 + client

abbrev pub handle_of : ℕ → ℕ
handle_of client = 4 + 4 * client

-- whom a reply is for
abbrev pub head_text : ℕ → ℕ → List ℕ
head_text client identifier =
    codes " r:" ++ decimal (process_of client) ++ codes "." ++ decimal (thread_of client) ++ codes "." ++ decimal identifier ++ codes ":"

-- a client's call with four bytes
abbrev pub sending_text : ℕ → List ℕ → ℕ → List ℕ
sending_text client call bytes =
    decimal (thread_of client) ++ codes " " ++ call ++ codes " 4 d:" ++ eight_digits bytes

-- a line as it is spelled, without the byte 10 that ends it
unfoldable pub line_text : StormLine → List ℕ
line_text Directory = codes "dir \\S"
line_text BootServer = codes "boot 20 24"
line_text Create = codes "24 NtCreatePort \\S\\P"
line_text (Boot client) = codes "boot " ++ decimal (process_of client) ++ codes " " ++ decimal (thread_of client)
line_text (Connect client) = decimal (thread_of client) ++ codes " NtConnectPort \\S\\P - - -"
line_text Listen = codes "24 NtListenPort 4"
line_text (Accept client) =
    codes "24 NtAcceptConnectPort " ++ decimal client ++ head_text client 1 ++ codes " accept -"
line_text (Complete client) = codes "24 NtCompleteConnectPort " ++ decimal (handle_of client)
line_text (Datagram client bytes) = sending_text client (codes "NtRequestPort") bytes
line_text (Request client bytes) = sending_text client (codes "NtRequestWaitReplyPort") bytes
line_text Receive = codes "24 NtReplyWaitReceivePort 4"
line_text (Reply handle client identifier bytes) =
    codes "24 NtReplyPort " ++ decimal handle ++ head_text client identifier ++ eight_digits bytes
line_text EndServer = codes "24 NtTerminateProcess self 0"
line_text (End client) = decimal (thread_of client) ++ codes " NtTerminateProcess self 0"

-- first a directory, the server's process, and its port
abbrev pub opening : List StormLine
opening = Directory ∷ BootServer ∷ Create ∷ []

-- then each client's process and its connection
abbrev pub connecting : ℕ → List StormLine
connecting client = Boot client ∷ Connect client ∷ Listen ∷ Accept client ∷ Complete client ∷ []

abbrev pub clients : List ℕ
clients = 1 ∷ 2 ∷ 3 ∷ 4 ∷ 5 ∷ 6 ∷ 7 ∷ 8 ∷ []

-- one draw of a linear congruential generator
abbrev pub draw : ℕ → ℕ
draw x = (x * 1664525 + 1013904223) % 2 ^ 32

-- the place of a draw's client among the eight, and the type of its round
abbrev pub place_of : ℕ → ℕ
place_of x = x / 65536 % 8

abbrev pub type_of : ℕ → ℕ
type_of x = x / 16777216 % 4

-- how far the rounds have come: the last draw, and how many rounds each client had
pub record Course : Type 0 where
  pub drawn : ℕ
  pub had : List ℕ

-- before the first round
abbrev pub start : ℕ → Course
start seed = record { drawn = seed; had = 0 ∷ 0 ∷ 0 ∷ 0 ∷ 0 ∷ 0 ∷ 0 ∷ 0 ∷ [] }

-- A round by its draw x, of a client, with an identifier m: a datagram that is received; or a request that is received
-- and answered, at type 3 first with an identifier that fits no request.
unfoldable pub round_lines : ℕ → ℕ → ℕ → List StormLine
round_lines x client m =
    if type_of x == 0 then Datagram client x ∷ Receive ∷ []
    else (if type_of x == 3 then Request client x ∷ Receive ∷ Reply 4 client (m + 1) x ∷ Reply (handle_of client) client m x ∷ []
    else Request client x ∷ Receive ∷ Reply 4 client m x ∷ [])

-- the lines that a round holds
abbrev pub lines_of : Round → List StormLine
lines_of (round.Datagram lines) = lines
lines_of (round.Answered lines) = lines
lines_of (round.Mismatched lines) = lines

-- The next round: its client is the draw's, and its identifier 2 plus how many rounds the client had, since a thread's
-- identifiers are drawn from 1 and the first went to its connect.
abbrev pub next_round : Course → List StormLine
next_round c =
    round_lines (draw c.drawn) (1 + place_of (draw c.drawn)) (2 + slice_index c.had (place_of (draw c.drawn)))

-- behind it
abbrev pub behind_round : Course → Course
behind_round c = record {
  drawn = draw c.drawn;
  had = slice_set c.had (place_of (draw c.drawn)) (slice_index c.had (place_of (draw c.drawn)) + 1);
}

-- so many rounds
unfoldable pub rounds : ℕ → Course → List StormLine
rounds zero c = []
rounds (suc n) c = next_round c ++ rounds n (behind_round c)

-- last, the server ends, and each client
abbrev pub ending : List StormLine
ending = EndServer ∷ map End clients

-- all lines of so many rounds from a seed, and the script that they are
abbrev pub storm_lines : ℕ → ℕ → List StormLine
storm_lines count seed = opening ++ flat_map connecting clients ++ rounds count (start seed) ++ ending

abbrev pub generated : ℕ → ℕ → List ℕ
generated count seed = flat_map (λ line. line_text line ++ codes "\n") (storm_lines count seed)
