-- Each byte of a storm's lines is printable, so none of them is the byte 10 that ends a line.
use Rattle.std.proofs.Common.{◌≡◌, ℕ, zero, suc, ◌+◌, ◌*◌, ◌/◌, ◌%◌, ◌^◌, ◌<◌, ◌≤◌, Bool, true, false, List, [], ◌∷◌, ◌++◌, length, refl, sym, ap, ◌∙◌, ◌&&◌, arith, append_assoc}
use Rattle.std.specs.Prelude.{◌==◌, ⊤, map, codes, decimal, slice_index, slice_set, if◌then◌else◌}
use Rattle.std.specs.List.{All, AllByRecursion, flat_map, list_all}
use Rattle.std.proofs.lemmas.Bool.{and_parts}
use Rattle.std.proofs.lemmas.Bool.Decides.{nat_tests}
use Rattle.std.proofs.lemmas.Grind.{common_steps}
use Rattle.std.proofs.lemmas.List.Elements.{All-get_or, All-set}
use Rattle.std.proofs.lemmas.List.Folds.{list_all-append}
use Rattle.hex.specs.Hex.{is_hex_digit}
use Rattle.lpc_model.specs.Grammar.{is_printable}
use Rattle.lpc_model.specs.Script.{script_lines}
use Rattle.lpc_model.specs.Text.{eight_digits}
use Rattle.lpc_transcript.proofs.Figures.{are_figures, both_true, decimal_figures, word_figures}
use Rattle.lpc_storm.specs.declared.line.StormLine.{StormLine}
use Rattle.lpc_storm.specs.declared.line.StormLine.TheVariants.{Directory, BootServer, Create, Boot, Connect, Listen, Accept, Complete, Datagram, Request, Receive, Reply, EndServer, End}
use Rattle.lpc_storm.specs.Generated.{Course, behind_round, clients, connecting, draw, ending, generated, head_text, handle_of, line_text, next_round, opening, place_of, process_of, round_lines, rounds, sending_text, start, storm_lines, thread_of, type_of}

-- a text of printable bytes
abbrev pub prints : List ℕ → Bool
prints text = list_all is_printable text

pub prints_both : (xs ys : List ℕ) → prints xs ≡ true → prints ys ≡ true → prints (xs ++ ys) ≡ true
prints_both xs ys p q = list_all-append is_printable xs ys ∙ both_true p q

figure_prints : (c : ℕ) → is_hex_digit c ≡ true → is_printable c ≡ true
figure_prints c h = grind (arith, nat_tests)

figures_print : (text : List ℕ) → are_figures text ≡ true → prints text ≡ true
figures_print [] h = refl
figures_print (c ∷ text) h =
    let parts = and_parts (is_hex_digit c) (are_figures text) h in
    both_true (figure_prints c parts.0) (figures_print text parts.1)

pub decimal_prints : (n : ℕ) → n < 2 ^ 64 → prints (decimal n) ≡ true
decimal_prints n few = figures_print (decimal n) (decimal_figures n few)

pub digits_print : (n : ℕ) → prints (eight_digits n) ≡ true
digits_print n = figures_print (eight_digits n) (word_figures n)

-- the numbers of a line are those of eight clients, and within 32 bits
abbrev pub IsSmall : StormLine → Type 0
IsSmall (Boot client) = client ≤ 8
IsSmall (Connect client) = client ≤ 8
IsSmall (Accept client) = client ≤ 8
IsSmall (Complete client) = client ≤ 8
IsSmall (Datagram client bytes) = (client ≤ 8) × (bytes < 2 ^ 32)
IsSmall (Request client bytes) = (client ≤ 8) × (bytes < 2 ^ 32)
IsSmall (Reply handle client identifier bytes) = (handle ≤ 36) × (client ≤ 8) × (identifier < 2 ^ 32) × (bytes < 2 ^ 32)
IsSmall (End client) = client ≤ 8
IsSmall Directory = ⊤
IsSmall BootServer = ⊤
IsSmall Create = ⊤
IsSmall Listen = ⊤
IsSmall Receive = ⊤
IsSmall EndServer = ⊤

process_prints : (client : ℕ) → client ≤ 8 → prints (decimal (process_of client)) ≡ true
process_prints client few = decimal_prints (process_of client) (omega arith)

thread_prints : (client : ℕ) → client ≤ 8 → prints (decimal (thread_of client)) ≡ true
thread_prints client few = decimal_prints (thread_of client) (omega arith)

head_prints : (client identifier : ℕ) → client ≤ 8 → identifier < 2 ^ 32 → prints (head_text client identifier) ≡ true
head_prints client identifier few fits =
    let process = codes " r:" ++ decimal (process_of client) in
    let thread = process ++ codes "." ++ decimal (thread_of client) in
    let number = thread ++ codes "." ++ decimal identifier in
    let one : prints process ≡ true = prints_both (codes " r:") (decimal (process_of client)) refl (process_prints client few) in
    let two : prints thread ≡ true = prints_both (process ++ codes ".") (decimal (thread_of client)) (prints_both process (codes ".") one refl) (thread_prints client few) in
    let three : prints number ≡ true = prints_both (thread ++ codes ".") (decimal identifier) (prints_both thread (codes ".") two refl) (decimal_prints identifier (omega arith)) in
    prints_both number (codes ":") three refl

sending_prints : (client : ℕ) (call : List ℕ) (bytes : ℕ) → client ≤ 8 → prints call ≡ true → prints (sending_text client call bytes) ≡ true
sending_prints client call bytes few named =
    let thread = decimal (thread_of client) ++ codes " " in
    let one : prints thread ≡ true = prints_both (decimal (thread_of client)) (codes " ") (thread_prints client few) refl in
    prints_both (thread ++ call ++ codes " 4 d:") (eight_digits bytes) (prints_both (thread ++ call) (codes " 4 d:") (prints_both thread call one named) refl) (digits_print bytes)

pub line_prints : (line : StormLine) → IsSmall line → prints (line_text line) ≡ true
unfolding line_text
line_prints Directory small = refl
line_prints BootServer small = refl
line_prints Create small = refl
line_prints Listen small = refl
line_prints Receive small = refl
line_prints EndServer small = refl
line_prints (Boot client) small =
    let process = codes "boot " ++ decimal (process_of client) in
    let one : prints process ≡ true = prints_both (codes "boot ") (decimal (process_of client)) refl (process_prints client small) in
    prints_both (process ++ codes " ") (decimal (thread_of client)) (prints_both process (codes " ") one refl) (thread_prints client small)
line_prints (Connect client) small =
    prints_both (decimal (thread_of client)) (codes " NtConnectPort \\S\\P - - -") (thread_prints client small) refl
line_prints (Accept client) small =
    let number = codes "24 NtAcceptConnectPort " ++ decimal client in
    let one : prints number ≡ true = prints_both (codes "24 NtAcceptConnectPort ") (decimal client) refl (decimal_prints client (omega arith)) in
    prints_both (number ++ head_text client 1) (codes " accept -") (prints_both number (head_text client 1) one (head_prints client 1 small (omega arith))) refl
line_prints (Complete client) small =
    prints_both (codes "24 NtCompleteConnectPort ") (decimal (handle_of client)) refl (decimal_prints (handle_of client) (omega arith))
line_prints (Datagram client bytes) small = sending_prints client (codes "NtRequestPort") bytes small.0 refl
line_prints (Request client bytes) small = sending_prints client (codes "NtRequestWaitReplyPort") bytes small.0 refl
line_prints (Reply handle client identifier bytes) small =
    let wide : handle < 2 ^ 64 = let few = small.0 in omega arith in
    let number = codes "24 NtReplyPort " ++ decimal handle in
    let one : prints number ≡ true = prints_both (codes "24 NtReplyPort ") (decimal handle) refl (decimal_prints handle wide) in
    prints_both (number ++ head_text client identifier) (eight_digits bytes) (prints_both number (head_text client identifier) one (head_prints client identifier small.1 small.2)) (digits_print bytes)
line_prints (End client) small =
    prints_both (decimal (thread_of client)) (codes " NtTerminateProcess self 0") (thread_prints client small) refl

-- printable bytes are one line
prints_no_end : (b : ℕ) → is_printable b ≡ true → (b == 10) ≡ false
prints_no_end b h = grind (arith, nat_tests)

pub one_line : (text rest : List ℕ) → prints text ≡ true → script_lines (text ++ 10 ∷ rest) ≡ text ∷ script_lines rest
unfolding script_lines
one_line [] rest h = refl
one_line (b ∷ text) rest h =
    let parts = and_parts (is_printable b) (prints text) h in
    rw (prints_no_end b parts.0, one_line text rest parts.1) refl

-- so the lines of the script are the texts of the lines
pub lines_are : (lines : List StormLine) → AllByRecursion IsSmall lines → script_lines (flat_map (λ line. line_text line ++ codes "\n") lines) ≡ map line_text lines
unfolding script_lines
lines_are [] small = refl
lines_are (line ∷ lines) small =
    let rest = flat_map (λ later. line_text later ++ codes "\n") lines in
    let parts : (line_text line ++ codes "\n") ++ rest ≡ line_text line ++ 10 ∷ rest = simp append_assoc refl in
    ap script_lines parts ∙ (one_line (line_text line) rest (line_prints line small.0) ∙ ap (λ ls. line_text line ∷ ls) (lines_are lines small.1))

-- The numbers of all lines are small.
all_both : (xs ys : List StormLine) → AllByRecursion IsSmall xs → AllByRecursion IsSmall ys → AllByRecursion IsSmall (xs ++ ys)
all_both [] ys p q = q
all_both (x ∷ xs) ys p q = (p.0, all_both xs ys p.1 q)

small_connecting : (client : ℕ) → client ≤ 8 → AllByRecursion IsSmall (connecting client)
small_connecting client few = (few, (few, (tt, (few, (few, tt)))))

small_by_type : (b c : Bool) (x client m : ℕ) → client ≤ 8 → m < 2 ^ 31 → x < 2 ^ 32
    → AllByRecursion IsSmall (if b then Datagram client x ∷ Receive ∷ [] else (if c then Request client x ∷ Receive ∷ Reply 4 client (m + 1) x ∷ Reply (handle_of client) client m x ∷ [] else Request client x ∷ Receive ∷ Reply 4 client m x ∷ []))
small_by_type true c x client m few fits bound = ((few, bound), (tt, tt))
small_by_type false true x client m few fits bound =
    let wrong : IsSmall (Reply 4 client (m + 1) x) = (omega arith, few, omega arith, bound) in
    let right : IsSmall (Reply (handle_of client) client m x) = (omega arith, few, omega arith, bound) in
    ((few, bound), (tt, (wrong, (right, tt))))
small_by_type false false x client m few fits bound =
    let right : IsSmall (Reply 4 client m x) = (omega arith, few, omega arith, bound) in
    ((few, bound), (tt, (right, tt)))

small_round : (x client m : ℕ) → client ≤ 8 → m < 2 ^ 31 → x < 2 ^ 32 → AllByRecursion IsSmall (round_lines x client m)
unfolding round_lines
small_round x client m few fits bound = small_by_type (type_of x == 0) (type_of x == 3) x client m few fits bound

-- no client had more rounds than there were
abbrev pub HadFew : ℕ → Course → Type 0
HadFew k c = (length c.had ≡ 8) × All (λ n. n ≤ k) c.had

weaker : (k : ℕ) (xs : List ℕ) → All (λ n. n ≤ k) xs → All (λ n. n ≤ k + 1) xs
weaker k xs all i d within = let at = all i d within in omega arith

pub few_behind : (k : ℕ) (c : Course) → HadFew k c → HadFew (k + 1) (behind_round c)
few_behind k c had =
    let place = place_of (draw c.drawn) in
    let at : slice_index c.had place ≤ k = All-get_or (λ n. n ≤ k) c.had place 0 (omega arith) had.1 in
    (grind (arith, common_steps), All-set (λ n. n ≤ k + 1) c.had place (slice_index c.had place + 1) (omega arith) (weaker k c.had had.1))

small_rounds : (n k : ℕ) (c : Course) → HadFew k c → k + n ≤ 200000 → AllByRecursion IsSmall (rounds n c)
unfolding rounds
small_rounds zero k c had limit = tt
small_rounds (suc n) k c had limit =
    let place = place_of (draw c.drawn) in
    let at : slice_index c.had place ≤ k = All-get_or (λ m. m ≤ k) c.had place 0 (omega arith) had.1 in
    let bound : draw c.drawn < 2 ^ 32 = omega arith in
    all_both (next_round c) (rounds n (behind_round c)) (small_round (draw c.drawn) (1 + place) (2 + slice_index c.had place) (omega arith) (omega arith) bound)
    (small_rounds n (k + 1) (behind_round c) (few_behind k c had) (omega arith))

pub few_at_first : (seed : ℕ) → HadFew 0 (start seed)
few_at_first seed = (refl, λ i d within. grind (arith, common_steps))

small_clients : (cs : List ℕ) → AllByRecursion (λ c. c ≤ 8) cs → AllByRecursion IsSmall (flat_map connecting cs)
small_clients [] few = tt
small_clients (c ∷ cs) few = all_both (connecting c) (flat_map connecting cs) (small_connecting c few.0) (small_clients cs few.1)

small_ends : (cs : List ℕ) → AllByRecursion (λ c. c ≤ 8) cs → AllByRecursion IsSmall (map End cs)
small_ends [] few = tt
small_ends (c ∷ cs) few = (few.0, small_ends cs few.1)

eight : AllByRecursion (λ c. c ≤ 8) clients
eight = (omega arith, (omega arith, (omega arith, (omega arith, (omega arith, (omega arith, (omega arith, (omega arith, tt))))))))

pub small_storm : (count seed : ℕ) → count ≤ 200000 → AllByRecursion IsSmall (storm_lines count seed)
small_storm count seed limit =
    let middle = flat_map connecting clients in
    let turns = rounds count (start seed) in
    all_both (opening ++ middle ++ turns) ending
    (all_both (opening ++ middle) turns (all_both opening middle (tt, (tt, (tt, tt))) (small_clients clients eight)) (small_rounds count 0 (start seed) (few_at_first seed) (omega arith)))
    (tt, small_ends clients eight)
