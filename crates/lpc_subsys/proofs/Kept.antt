-- What is kept of a client, and the list of its requests.
use Rattle.std.proofs.Common.{◌≡◌, ℕ, refl, sym, ap, ◌∙◌, List, [], ◌∷◌, ◌++◌, Option, Some, None, fold, take}
use Rattle.std.specs.List.{cons_option, filter_map}
use Rattle.std.specs.Option.{option_and_then}
use Rattle.std.proofs.lemmas.List.{append-nil}
use Rattle.std.proofs.lemmas.List.Elements.{filter_map-append}
use Rattle.std.proofs.lemmas.List.Sums.{fold-append}
use Rattle.lpc_subsys.specs.Clients.{ClientRow, after_request, client_of, reply_of, with_text}
use Rattle.lpc_subsys.specs.Laws.{KeptGoesOn, KeptTellsReply}
use Rattle.lpc_subsys.specs.Replies.{console_after, different, last_of, named_in, written_in, level_after, named_text, reply_by, reply_where, set_level, texts_after, with_bytes, written_bytes}
use Rattle.lpc_subsys.specs.Requests.{Asked, Request, asked, atom_of, reading, setting, telling, text_of, writing}
use Rattle.lpc_subsys.specs.declared.profile.TheConstants.{ATOM_LIMIT, FIRST_LEVEL}
use Rattle.lpc_subsys.proofs.Texts.{texts-push}

-- what something optional makes
abbrev with_optional : {A B : Type 0} → (B → A → B) → B → Option A → B
with_optional f b None = b
with_optional f b (Some a) = f b a

-- the last of some numbers and one more
last-push : (first : ℕ) (numbers : List ℕ) (number : ℕ) → last_of first (numbers ++ number ∷ []) ≡ number
last-push first [] number = refl
last-push first (other ∷ numbers) number = last-push other numbers number

-- one more request that gives something, or doesn't
given-push : {A : Type 0} (gives : Request → Option A) (requests : List Request) (request : Request)
    → filter_map gives (requests ++ request ∷ []) ≡ with_optional (λ xs x. xs ++ x ∷ []) (filter_map gives requests) (gives request)
given-push {A = A} gives requests request =
    filter_map-append gives requests (request ∷ []) ∙ by_given (gives request)
  where
    by_given : (o : Option A) → filter_map gives requests ++ cons_option o [] ≡ with_optional (λ xs x. xs ++ x ∷ []) (filter_map gives requests) o
    by_given None = append-nil (filter_map gives requests)
    by_given (Some x) = refl

-- the texts, the console and the level with what one more request gives
texts_with : (requests : List Request) (o : Option (List ℕ)) → take ATOM_LIMIT (different (with_optional (λ xs x. xs ++ x ∷ []) (named_in requests) o)) ≡ with_optional with_text (texts_after requests) o
texts_with requests None = refl
texts_with requests (Some text) = texts-push (named_in requests) text

texts_after-push : (requests : List Request) (request : Request) → texts_after (requests ++ request ∷ []) ≡ with_optional with_text (texts_after requests) (option_and_then named_text (asked request))
texts_after-push requests request =
    ap (λ texts. take ATOM_LIMIT (different texts)) (given-push (λ r. option_and_then named_text (asked r)) requests request)
    ∙ texts_with requests (option_and_then named_text (asked request))

console_with : (requests : List Request) (o : Option (List ℕ)) → fold with_bytes [] (with_optional (λ xs x. xs ++ x ∷ []) (written_in requests) o) ≡ with_optional with_bytes (console_after requests) o
console_with requests None = refl
console_with requests (Some bytes) = fold-append with_bytes [] (written_in requests) (bytes ∷ [])

console_after-push : (requests : List Request) (request : Request) → console_after (requests ++ request ∷ []) ≡ with_optional with_bytes (console_after requests) (option_and_then written_bytes (asked request))
console_after-push requests request =
    ap (fold with_bytes []) (given-push (λ r. option_and_then written_bytes (asked r)) requests request)
    ∙ console_with requests (option_and_then written_bytes (asked request))

abbrev levels_in : List Request → List ℕ
levels_in requests = filter_map (λ request. option_and_then set_level (asked request)) requests

level_with : (requests : List Request) (o : Option ℕ) → last_of FIRST_LEVEL (with_optional (λ xs x. xs ++ x ∷ []) (levels_in requests) o) ≡ with_optional (λ old new. new) (level_after requests) o
level_with requests None = refl
level_with requests (Some level) = last-push FIRST_LEVEL (levels_in requests) level

level_after-push : (requests : List Request) (request : Request) → level_after (requests ++ request ∷ []) ≡ with_optional (λ old new. new) (level_after requests) (option_and_then set_level (asked request))
level_after-push requests request =
    ap (last_of FIRST_LEVEL) (given-push (λ r. option_and_then set_level (asked r)) requests request)
    ∙ level_with requests (option_and_then set_level (asked request))

-- a row with what one more request gives
abbrev row_with : ClientRow → Option Asked → ClientRow
row_with row what = record {
  process = row.process;
  texts = with_optional with_text row.texts (option_and_then named_text what);
  console = with_optional with_bytes row.console (option_and_then written_bytes what);
  level = with_optional (λ old new. new) row.level (option_and_then set_level what);
}

row_after : (row : ClientRow) (what : Option Asked) → row_with row what ≡ after_request row what
row_after row None = refl
row_after row (Some (atom_of text)) = refl
row_after row (Some (text_of atom)) = refl
row_after row (Some (writing bytes)) = refl
row_after row (Some (reading from count)) = refl
row_after row (Some (setting level)) = refl
row_after row (Some telling) = refl

pub goes-on : KeptGoesOn
goes-on history request =
    let texts = texts_after-push history.requests request in
    let console = console_after-push history.requests request in
    let level = level_after-push history.requests request in
    let same : client_of (record history { requests = history.requests ++ request ∷ [] }) ≡ row_with (client_of history) (asked request) =
    λ i. record { process = history.process; texts = texts i; console = console i; level = level i } in
    same ∙ row_after (client_of history) (asked request)

-- the reply, by the texts with one more request
reply_with : (row : ClientRow) (what : Option Asked)
    → reply_of row what ≡ reply_where what (reply_by (with_optional with_text row.texts (option_and_then named_text what)) row.texts row.console row.level)
reply_with row None = refl
reply_with row (Some (atom_of text)) = refl
reply_with row (Some (text_of atom)) = refl
reply_with row (Some (writing bytes)) = refl
reply_with row (Some (reading from count)) = refl
reply_with row (Some (setting level)) = refl
reply_with row (Some telling) = refl

pub tells-reply : KeptTellsReply
tells-reply history request =
    let row = client_of history in
    reply_with row (asked request)
    ∙ sym (ap (λ texts. reply_where (asked request) (reply_by texts row.texts row.console row.level)) (texts_after-push history.requests request))
