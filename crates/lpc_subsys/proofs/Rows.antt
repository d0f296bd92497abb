-- The rows of clients, and the clients and requests that they stand for.
use Rattle.std.proofs.Common.{◌≡◌, ℕ, Bool, true, false, cond, refl, sym, ap, ◌∙◌, arith, take, is_some, List, [], ◌∷◌, ◌++◌, Option, Some, None, map, option_map, set, get_or}
use Rattle.std.specs.Prelude.{eqb, OnErr, OnOk, Result, Ok, Err}
use Rattle.std.specs.List.{position}
use Rattle.std.proofs.lemmas.Bool.Decides.{nat_tests}
use Rattle.lpc_base.specs.Rows.{change, differ_by, first, has, without}
use Rattle.lpc_base.proofs.Differ.{IsRowAt, differ-change, differ-push, differ-without, row-at, set-change}
use Rattle.lpc_base.proofs.Positions.{none_first}
use Rattle.lpc_base.proofs.RowMaps.{push-map}
use Rattle.lpc_base.proofs.RowWords.{change-none, has-change, has-push}
use Rattle.lpc_subsys.specs.Clients.{ClientRow, Follows, History, IsServed, IsSound, RepliesByOwnRequests, after_request, client_of, is_client, is_of, new_row, reply_after, reply_of, with_client, with_request, without_client}
use Rattle.lpc_subsys.specs.Laws.{ServesClients}
use Rattle.lpc_subsys.specs.Replies.{IsGranted}
use Rattle.lpc_subsys.specs.Requests.{Asked, Request, asked, atom_of, reading, setting, telling, text_of, writing}
use Rattle.lpc_subsys.proofs.Kept.{goes-on, tells-reply}
use Rattle.lpc_subsys.proofs.Refused.{unchanged}

abbrev process : ClientRow → ℕ
process row = row.process

-- no process has two rows
abbrev pub AreSingle : List ClientRow → Type 0
AreSingle rows = differ_by process rows ≡ true

abbrev pub IsAt : (rows : List ClientRow) (pid place : ℕ) (row : ClientRow) → Type 0
IsAt = IsRowAt process

-- a client that was found, in the slice that shows the rows
pub found-at : (rows shown : List ClientRow) (pid place : ℕ) (row : ClientRow) → shown ≡ rows → Some place ≡ position (is_client pid) shown → row ≡ get_or rows place row → IsAt rows pid place row
found-at rows shown pid place row same found read = row-at process rows pid place row (ap (position (is_client pid)) (sym same) ∙ sym found) read

-- a request leaves the number of the process
same_process : (row : ClientRow) (what : Option Asked) → (after_request row what).process ≡ row.process
same_process row None = refl
same_process row (Some (atom_of text)) = refl
same_process row (Some (text_of atom)) = refl
same_process row (Some (writing bytes)) = refl
same_process row (Some (reading from count)) = refl
same_process row (Some (setting level)) = refl
same_process row (Some telling) = refl

-- The rows with another one, without one, and with one changed
pub single-push : (rows : List ClientRow) (pid : ℕ) → AreSingle rows → has (is_client pid) rows ≡ false → AreSingle (rows ++ new_row pid ∷ [])
single-push rows pid single new = differ-push process rows (new_row pid) single new

pub single-without : (rows : List ClientRow) (pid : ℕ) → AreSingle rows → AreSingle (without (is_client pid) rows)
single-without rows pid single = differ-without process (is_client pid) rows single

abbrev pub changed : List ClientRow → ℕ → Option Asked → List ClientRow
changed rows pid what = change (is_client pid) (λ row. after_request row what) rows

pub single-changed : (rows : List ClientRow) (pid : ℕ) (what : Option Asked) → AreSingle rows → AreSingle (changed rows pid what)
single-changed rows pid what single = differ-change process (is_client pid) (λ row. after_request row what) (λ row. same_process row what) rows single

pub set-changed : (rows : List ClientRow) (pid place : ℕ) (row : ClientRow) (what : Option Asked) → AreSingle rows → IsAt rows pid place row → set rows place (after_request row what) ≡ changed rows pid what
set-changed rows pid place row what single at = set-change process (λ r. after_request r what) rows place pid row single at.here at.own

change-same : (test : ClientRow → Bool) (rows : List ClientRow) → change test (λ row. row) rows ≡ rows
change-same test [] = refl
change-same test (row ∷ rows) = grind (arith, change-same test rows)

pub set-same : (rows : List ClientRow) (pid place : ℕ) (row : ClientRow) → AreSingle rows → IsAt rows pid place row → set rows place row ≡ rows
set-same rows pid place row single at = set-change process (λ r. r) rows place pid row single at.here at.own ∙ change-same (is_client pid) rows

-- What the rows stand for
first_served : (pid : ℕ) (all : List History) → first (is_client pid) (map client_of all) ≡ option_map client_of (first (is_of pid) all)
first_served pid [] = refl
first_served pid (history ∷ all) = grind (arith, first_served pid all)

changed_served : (pid : ℕ) (request : Request) (all : List History) → changed (map client_of all) pid (asked request) ≡ map client_of (with_request pid request all)
changed_served pid request [] = refl
changed_served pid request (history ∷ all) = grind (arith, goes-on history request, changed_served pid request all)

without_served : (pid : ℕ) (all : List History) → without (is_client pid) (map client_of all) ≡ map client_of (without_client pid all)
without_served pid [] = refl
without_served pid (history ∷ all) = grind (arith, without_served pid all)

has_served : (pid : ℕ) (all : List History) → has (is_client pid) (map client_of all) ≡ has (is_of pid) all
has_served pid [] = refl
has_served pid (history ∷ all) = grind (arith, has_served pid all)

pub serves-clients : ServesClients
serves-clients rows all process serves = ap (has (is_client process)) serves ∙ has_served process all

pub follows-join : (rows : List ClientRow) (pid : ℕ) → Follows (with_client pid) rows (rows ++ new_row pid ∷ [])
follows-join rows pid all serves = ap (λ (old : List ClientRow). old ++ new_row pid ∷ []) serves ∙ sym (push-map client_of all (record { process = pid; requests = [] }))

pub follows-leave : (rows : List ClientRow) (pid : ℕ) → Follows (without_client pid) rows (without (is_client pid) rows)
follows-leave rows pid all serves = ap (without (is_client pid)) serves ∙ without_served pid all

pub follows-changed : (rows : List ClientRow) (pid : ℕ) (request : Request) → Follows (with_request pid request) rows (changed rows pid (asked request))
follows-changed rows pid request all serves = ap (λ (old : List ClientRow). changed old pid (asked request)) serves ∙ changed_served pid request all

-- the reply to a client
reply_at : (o : Option History) (row : ClientRow) (request : Request) → Some row ≡ option_map client_of o → reply_of row (asked request) ≡ reply_after o request
reply_at None row request at = absurd (cc)
reply_at (Some history) row request at =
    let same : row ≡ client_of history = cc in
    ap (λ (r : ClientRow). reply_of r (asked request)) same ∙ tells-reply history request

pub replies-row : (rows : List ClientRow) (pid : ℕ) (row : ClientRow) (request : Request) → first (is_client pid) rows ≡ Some row → RepliesByOwnRequests rows pid request (reply_of row (asked request))
replies-row rows pid row request at all serves =
    reply_at (first (is_of pid) all) row request (sym at ∙ ap (first (is_client pid)) serves ∙ first_served pid all)

-- the reply to a process that is no client
reply_none : (o : Option History) (request : Request) → None ≡ option_map client_of o → reply_after None request ≡ reply_after o request
reply_none None request at = refl
reply_none (Some history) request at = absurd (cc)

pub replies-none : (rows : List ClientRow) (pid : ℕ) (request : Request) → position (is_client pid) rows ≡ None → RepliesByOwnRequests rows pid request (reply_after None request)
replies-none rows pid request none all serves =
    reply_none (first (is_of pid) all) request (sym (none_first (is_client pid) rows none) ∙ ap (first (is_client pid)) serves ∙ first_served pid all)

-- a client that left is none
pub gone : (rows : List ClientRow) (pid : ℕ) → has (is_client pid) (without (is_client pid) rows) ≡ false
gone [] pid = refl
gone (row ∷ rows) pid = grind (arith, gone rows pid)

-- a client that joined is one
pub stands : (rows : List ClientRow) (pid : ℕ) → has (is_client pid) (rows ++ new_row pid ∷ []) ≡ true
stands rows pid = has-push (is_client pid) rows (new_row pid) (grind (arith, nat_tests))

-- the rows are sound with another client, and without one
pub sound-pushed : (b : Bool) (rows : List ClientRow) (pid : ℕ) → IsSound rows → has (is_client pid) rows ≡ false → IsSound (cond b (rows ++ new_row pid ∷ []) rows)
sound-pushed true rows pid sound new = record {
  single = single-push rows pid sound.single new;
  served = (with_client pid sound.served.0, follows-join rows pid sound.served.0 sound.served.1);
}
sound-pushed false rows pid sound new = sound

pub sound-without : (rows : List ClientRow) (pid : ℕ) → IsSound rows → IsSound (without (is_client pid) rows)
sound-without rows pid sound = record {
  single = single-without rows pid sound.single;
  served = (without_client pid sound.served.0, follows-leave rows pid sound.served.0 sound.served.1);
}

-- An answer at the place of a client
module _ {A E : Type 0} (rows : List ClientRow) (pid place : ℕ) (row : ClientRow) (request : Request) (single : AreSingle rows) (at : IsAt rows pid place row) where
  pub sound-set : (r : Result A E) (new : ClientRow) → OnOk r (new ≡ after_request row (asked request)) → OnErr r (new ≡ row) → IsServed rows → IsSound (set rows place new)
  sound-set (Ok a) new answered same served =
      let is : set rows place new ≡ changed rows pid (asked request) = ap (set rows place) answered ∙ set-changed rows pid place row (asked request) single at in
      record {
        single = ap (differ_by process) is ∙ single-changed rows pid (asked request) single;
        served = (with_request pid request served.0, is ∙ follows-changed rows pid request served.0 served.1);
      }
  sound-set (Err e) new answered same served =
      let is : set rows place new ≡ rows = ap (set rows place) same ∙ set-same rows pid place row single at in
      record { single = ap (differ_by process) is ∙ single; served = (served.0, is ∙ served.1) }

  pub replies-set : (r : Result A E) (reply : List ℕ) → OnOk r (reply ≡ reply_of row (asked request)) → OnOk r (RepliesByOwnRequests rows pid request reply)
  replies-set (Ok a) reply answered = λ all serves. answered ∙ replies-row rows pid row request at.is_first all serves
  replies-set (Err e) reply answered = tt

  pub follows-set : (r : Result A E) (new : ClientRow) → OnOk r (new ≡ after_request row (asked request)) → OnOk r (Follows (with_request pid request) rows (set rows place new))
  follows-set (Ok a) new answered = λ all serves. ap (set rows place) answered ∙ set-changed rows pid place row (asked request) single at ∙ follows-changed rows pid request all serves
  follows-set (Err e) new answered = tt

  pub same-set : (r : Result A E) (new : ClientRow) → OnErr r (new ≡ row) → OnErr r (set rows place new ≡ rows)
  same-set (Ok a) new same = tt
  same-set (Err e) new same = ap (set rows place) same ∙ set-same rows pid place row single at

  -- who is a client stays
  pub clients-set : (r : Result A E) (new : ClientRow) → OnOk r (new ≡ after_request row (asked request)) → OnErr r (new ≡ row) → (other : ℕ) → has (is_client other) (set rows place new) ≡ has (is_client other) rows
  clients-set (Ok a) new answered same other =
      ap (has (is_client other)) (ap (set rows place) answered ∙ set-changed rows pid place row (asked request) single at)
      ∙ has-change (is_client other) (is_client pid) (λ r. after_request r (asked request)) (λ r. ap (λ (n : ℕ). eqb n other) (same_process r (asked request))) rows
  clients-set (Err e) new answered same other = ap (has (is_client other)) (ap (set rows place) same ∙ set-same rows pid place row single at)

  -- a refusal changes nothing
  pub refused-set : (r : Result A E) (new : ClientRow) (reply : List ℕ) → OnOk r (new ≡ after_request row (asked request)) → OnOk r (reply ≡ reply_of row (asked request)) → OnOk r ((IsGranted reply → ⊥) → set rows place new ≡ rows)
  refused-set (Ok a) new reply answered replied = λ not_granted.
      ap (set rows place) (answered ∙ unchanged row (asked request) (λ is. not_granted (ap (take 4) replied ∙ is))) ∙ set-same rows pid place row single at
  refused-set (Err e) new reply answered replied = tt

-- a process that is no client
pub follows-none : (rows : List ClientRow) (pid : ℕ) (request : Request) → position (is_client pid) rows ≡ None → Follows (with_request pid request) rows rows
follows-none rows pid request none all serves =
    sym (change-none (is_client pid) (λ row. after_request row (asked request)) rows (ap is_some (none_first (is_client pid) rows none)))
    ∙ follows-changed rows pid request all serves
