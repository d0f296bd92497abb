-- A refused request changes nothing.
use Rattle.std.proofs.Common.{◌≡◌, ◌++◌, ◌+◌, ◌∙◌, ◌∷◌, ◌||◌, Bool, List, None, Option, Some, [], ap, arith, cond, false, fold, inl, inr, length, option_map, refl, sym, take, true, ℕ}
use Rattle.std.specs.Prelude.{nat_le, ◌==◌}
use Rattle.std.specs.Str.{bytes_eq}
use Rattle.std.proofs.lemmas.Bool.{cases_Bool}
use Rattle.std.proofs.lemmas.List.{append-nil, append_assoc}
use Rattle.lpc_base.specs.Rows.{has}
use Rattle.lpc_base.specs.declared.status.TheConstants.{QUOTA_EXCEEDED}
use Rattle.lpc_subsys.specs.Clients.{ClientRow, History, after_request, client_of, reply_of, with_text}
use Rattle.lpc_subsys.specs.Laws.{RefusedCountsForNothing}
use Rattle.lpc_subsys.specs.Replies.{IsGranted, atom_in, granted, granted_or, number_bytes}
use Rattle.lpc_subsys.specs.Requests.{Asked, Request, asked, atom_of, reading, setting, telling, text_of, writing}
use Rattle.lpc_subsys.specs.declared.profile.TheConstants.{ATOM_LIMIT, CONSOLE_LIMIT, FIRST_ATOM}
use Rattle.lpc_subsys.proofs.Kept.{goes-on, tells-reply}
use Rattle.lpc_subsys.proofs.Texts.{new-atom}

-- what is granted begins with success
is_granted : (results : List ℕ) → IsGranted (granted results)
unfolding granted
is_granted results = refl

-- what isn't granted changes nothing
pub unchanged : (row : ClientRow) (what : Option Asked) → (IsGranted (reply_of row what) → ⊥) → after_request row what ≡ row
unchanged row None not_granted = refl
unchanged row (Some (text_of atom)) not_granted = refl
unchanged row (Some (reading from count)) not_granted = refl
unchanged row (Some telling) not_granted = refl
unchanged row (Some (setting level)) not_granted = absurd (not_granted (is_granted []))
unchanged row (Some (writing bytes)) not_granted =
    elim (nat_le (length row.console + length bytes) CONSOLE_LIMIT) as (λ b.
    (IsGranted (granted_or QUOTA_EXCEEDED (option_map number_bytes (cond b (Some (length row.console + length bytes)) None))) → ⊥)
    → record row { console = cond b (row.console ++ bytes) row.console } ≡ row) [
      | true ↦ λ no. absurd (no (is_granted _))
      | false ↦ λ no. refl
    ] not_granted
unchanged row (Some (atom_of text)) not_granted =
    elim (cases_Bool (has (bytes_eq text) row.texts || (length row.texts == ATOM_LIMIT))) [
      | inl stands ↦ ap (λ (b : Bool). record row { texts = cond b row.texts (row.texts ++ text ∷ []) }) stands
      | inr new ↦
          let off : has (bytes_eq text) row.texts ≡ false = grind arith in
          let texts : with_text row.texts text ≡ row.texts ++ text ∷ [] = ap (λ (b : Bool). cond b row.texts (row.texts ++ text ∷ [])) new in
          let atom : atom_in (with_text row.texts text) text ≡ Some (FIRST_ATOM + length row.texts) = ap (λ (known : List (List ℕ)). atom_in known text) texts ∙ sym (new-atom row.texts text off) in
          absurd (not_granted (ap (λ (o : Option ℕ). take 4 (granted_or QUOTA_EXCEEDED (option_map number_bytes o))) atom ∙ is_granted _))
    ]

-- what is kept after requests behind others
abbrev kept_after : List Request → ClientRow
kept_after requests = client_of (record { process = 0; requests = requests })

kept-append : (before after : List Request) → kept_after (before ++ after) ≡ fold (λ row r. after_request row (asked r)) (kept_after before) after
kept-append before [] = ap kept_after (append-nil before)
kept-append before (request ∷ after) =
    ap kept_after (sym (append_assoc before (request ∷ []) after))
    ∙ kept-append (before ++ request ∷ []) after
    ∙ ap (λ (row : ClientRow). fold (λ (r : ClientRow) (q : Request). after_request r (asked q)) row after) (goes-on (record { process = 0; requests = before }) request)

pub refused-counts : RefusedCountsForNothing
refused-counts before after refused request not_granted =
    let kept : History = record { process = 0; requests = before } in
    let same : kept_after (before ++ refused ∷ []) ≡ kept_after before =
    goes-on kept refused ∙ unchanged (kept_after before) (asked refused) (λ is. not_granted (ap (take 4) (sym (tells-reply kept refused)) ∙ is)) in
    let all : kept_after (before ++ refused ∷ after) ≡ kept_after (before ++ after) =
    ap kept_after (sym (append_assoc before (refused ∷ []) after))
    ∙ kept-append (before ++ refused ∷ []) after
    ∙ ap (λ (row : ClientRow). fold (λ (r : ClientRow) (q : Request). after_request r (asked q)) row after) same
    ∙ sym (kept-append before after) in
    sym (tells-reply (record { process = 0; requests = before ++ refused ∷ after }) request)
    ∙ ap (λ (row : ClientRow). reply_of row (asked request)) all
    ∙ tells-reply (record { process = 0; requests = before ++ after }) request
