-- What is kept of clients, beside the connections of their processes.
use Rattle.std.proofs.Common.{◌≡◌, ◌||◌, ℕ, Bool, true, false, cond, refl, sym, ap, ◌∙◌, arith, List, [], ◌∷◌, ◌++◌, Option, drop}
use Rattle.std.specs.Prelude.{◌==◌}
use Rattle.std.proofs.lemmas.Bool.{eqb-true}
use Rattle.std.proofs.lemmas.Bool.Decides.{nat_tests}
use Rattle.lpc_base.specs.Rows.{first, has, without}
use Rattle.lpc_base.proofs.RowMaps.{push-map}
use Rattle.lpc_base.proofs.RowWords.{has_none-without, without-none}
use Rattle.lpc_subsys.specs.Clients.{ClientRow, Follows, IsServed, RepliesByOwnRequests, client_in, client_of, is_client, is_of, new_row, request_in, with_client, with_request, without_client}
use Rattle.lpc_message.specs.Layout.{header_of}
use Rattle.lpc_subsys.specs.Requests.{Request, request_of}
use Rattle.lpc_model.specs.declared.resident.Connect.{Connect}
use Rattle.lpc_model.specs.declared.resident.Connection.{Connection}
use Rattle.lpc_model.specs.Residents.{is_made_by, is_with, joined, left}
use Rattle.lpc_residents.specs.Kept.{AreClients, kept, reply_kept}
use Rattle.lpc_residents.proofs.Kept.{answers-same, replies-same}
use Rattle.lpc_residents.proofs.Maps.{without-map}

-- Words on rows
has-pushed : {X : Type 0} (p : X → Bool) (xs : List X) (y : X) → has p (xs ++ y ∷ []) ≡ (has p xs || p y)
has-pushed p [] y = grind arith
has-pushed p (x ∷ xs) y = grind (arith, has-pushed p xs y)

has-unrelated : {X : Type 0} (p test : X → Bool) → ((x : X) → test x ≡ true → p x ≡ false) → (xs : List X) → has p (without test xs) ≡ has p xs
has-unrelated p test off [] = refl
has-unrelated p test off (x ∷ xs) = grind (arith, off x, has-unrelated p test off xs)

has-own : (rows : List ClientRow) (pid : ℕ) → has (is_client pid) (without (is_client pid) rows) ≡ false
has-own [] pid = refl
has-own (row ∷ rows) pid = grind (arith, has-own rows pid)

-- What the calls of the server make of the rows
pub joins-rows : (old new : List ClientRow) (pid : ℕ) → IsServed old → Follows (with_client pid) old new → new ≡ old ++ new_row pid ∷ []
joins-rows old new pid served follows =
    follows served.0 served.1
    ∙ push-map client_of served.0 (record { process = pid; requests = [] })
    ∙ ap (λ (rows : List ClientRow). rows ++ new_row pid ∷ []) (sym served.1)

pub leaves-rows : (old new : List ClientRow) (pid : ℕ) → IsServed old → Follows (without_client pid) old new → new ≡ without (is_client pid) old
leaves-rows old new pid served follows =
    follows served.0 served.1
    ∙ sym (without-map client_of (is_of pid) (is_client pid) (λ h. refl) served.0)
    ∙ ap (without (is_client pid)) (sym served.1)

pub answers-rows : (old new : List ClientRow) (pid : ℕ) (request : Request) → IsServed old → Follows (with_request pid request) old new → new ≡ kept.answers pid request old
answers-rows old new pid request served follows =
    follows served.0 served.1
    ∙ sym (answers-same served.0 pid request)
    ∙ ap (kept.answers pid request) (sym served.1)

pub replies-rows : (old : List ClientRow) (pid : ℕ) (request : Request) (reply : List ℕ) → IsServed old → RepliesByOwnRequests old pid request reply → reply ≡ kept.replies old pid request
replies-rows old pid request reply served replies =
    replies served.0 served.1
    ∙ replies-same served.0 pid request
    ∙ ap (λ (rows : List ClientRow). reply_kept (first (is_client pid) rows) request) (sym served.1)

-- by the bytes of a message that is kept
pub answers-asked : (old new : List ClientRow) (m asked : List ℕ) (view : Option (List ℕ)) → m ≡ asked → IsServed old → Follows (with_request (client_in m) (request_in m view)) old new → new ≡ kept.answers (header_of asked).client.process (request_of (drop 24 asked) view) old
unfolding client_in
answers-asked old new m asked view same served follows =
    answers-rows old new (client_in m) (request_in m view) served follows
    ∙ ap (λ (bytes : List ℕ). kept.answers (header_of bytes).client.process (request_of (drop 24 bytes) view) old) same

pub replies-asked : (old : List ClientRow) (m asked : List ℕ) (view : Option (List ℕ)) (reply : List ℕ) → m ≡ asked → IsServed old → RepliesByOwnRequests old (client_in m) (request_in m view) reply → reply ≡ kept.replies old (header_of asked).client.process (request_of (drop 24 asked) view)
unfolding client_in
replies-asked old m asked view reply same served replies =
    replies-rows old (client_in m) (request_in m view) reply served replies
    ∙ ap (λ (bytes : List ℕ). kept.replies old (header_of bytes).client.process (request_of (drop 24 bytes) view)) same

-- A connection more
-- of a process that is a client
pub clients-known : (rows : List ClientRow) (ks : List Connection) (k : Connection) → AreClients rows ks → has (is_with k.connect.client.process) ks ≡ true → AreClients rows (ks ++ k ∷ [])
clients-known rows ks k clients known = record {
  standing = λ p. clients.standing p ∙ at p (k.connect.client.process == p) refl ∙ sym (has-pushed (is_with p) ks k);
  served = clients.served;
}
  where
    at : (p : ℕ) (b : Bool) → (k.connect.client.process == p) ≡ b → has (is_with p) ks ≡ (has (is_with p) ks || (k.connect.client.process == p))
    at p true same =
        let is : k.connect.client.process ≡ p = eqb-true k.connect.client.process p same in
        let here : has (is_with p) ks ≡ true = sym (ap (λ n. has (is_with n) ks) is) ∙ known in
        here ∙ sym (ap (λ b. b || (k.connect.client.process == p)) here)
    at p false other = grind (arith, other)

-- of a process that was none
pub clients-joined : (old new : List ClientRow) (ks : List Connection) (k : Connection) → AreClients old ks → Follows (with_client k.connect.client.process) old new → AreClients new (ks ++ k ∷ [])
clients-joined old new ks k clients follows =
    let pid = k.connect.client.process in
    let is = joins-rows old new pid clients.served follows in
    record {
      standing = λ p.
          ap (has (is_client p)) is
          ∙ has-pushed (is_client p) old (new_row pid)
          ∙ ap (λ b. b || (pid == p)) (clients.standing p)
          ∙ sym (has-pushed (is_with p) ks k);
      served = (with_client pid clients.served.0, follows clients.served.0 clients.served.1);
    }

-- what joined is
pub joined-known : (rows : List ClientRow) (ks : List Connection) (pid : ℕ) → has (is_with pid) ks ≡ true → rows ≡ joined kept pid ks rows
joined-known rows ks pid known = sym (ap (λ b. cond b rows (rows ++ new_row pid ∷ [])) known)

pub joined-new : (old new : List ClientRow) (ks : List Connection) (pid : ℕ) → IsServed old → has (is_with pid) ks ≡ false → Follows (with_client pid) old new → new ≡ joined kept pid ks old
joined-new old new ks pid served none follows =
    joins-rows old new pid served follows ∙ sym (ap (λ b. cond b old (old ++ new_row pid ∷ [])) none)

-- A connection less
module _ (by : Connect) (ks : List Connection) where
  abbrev own_pid : ℕ
  own_pid = by.client.process

  abbrev others : List Connection
  others = without (is_made_by by) ks

  -- what is of a connect is of its process
  made : (p : ℕ) → (own_pid == p) ≡ false → (k : Connection) → is_made_by by k ≡ true → is_with p k ≡ false
  made p other k is = grind (arith, nat_tests)

  still : (p : ℕ) → (own_pid == p) ≡ false → has (is_with p) others ≡ has (is_with p) ks
  still p other = has-unrelated (is_with p) (is_made_by by) (made p other) ks

  -- one that stands among the others stood
  stood : (p : ℕ) → has (is_with p) others ≡ true → has (is_with p) ks ≡ true
  stood p here = elim (has (is_with p) ks) as (λ b. has (is_with p) ks ≡ b → b ≡ true) [
    | true ↦ λ is. refl
    | false ↦ λ none. sym (has_none-without (is_with p) (is_made_by by) ks none) ∙ here
  ] refl

  away : (rows : List ClientRow) (p : ℕ) → (own_pid == p) ≡ false → has (is_client p) (without (is_client own_pid) rows) ≡ has (is_client p) rows
  away rows p other = has-unrelated (is_client p) (is_client own_pid) (λ row is. grind (arith, nat_tests)) rows

  -- of a process of which another one stands
  pub clients-more : (rows : List ClientRow) → AreClients rows ks → has (is_with own_pid) others ≡ true → AreClients rows others
  clients-more rows clients more = record {
    standing = λ p. clients.standing p ∙ at p (own_pid == p) refl;
    served = clients.served;
  }
    where
      at : (p : ℕ) (b : Bool) → (own_pid == p) ≡ b → has (is_with p) ks ≡ has (is_with p) others
      at p true same =
          let is : own_pid ≡ p = eqb-true own_pid p same in
          let here : has (is_with p) others ≡ true = sym (ap (λ n. has (is_with n) others) is) ∙ more in
          stood p here ∙ sym here
      at p false other = sym (still p other)

  -- of a process of which none stood
  pub clients-none : (rows : List ClientRow) → AreClients rows ks → has (is_with own_pid) ks ≡ false → AreClients rows others
  clients-none rows clients none = record {
    standing = λ p. clients.standing p ∙ at p (own_pid == p) refl;
    served = clients.served;
  }
    where
      at : (p : ℕ) (b : Bool) → (own_pid == p) ≡ b → has (is_with p) ks ≡ has (is_with p) others
      at p true same =
          let is : own_pid ≡ p = eqb-true own_pid p same in
          let here : has (is_with p) ks ≡ false = sym (ap (λ n. has (is_with n) ks) is) ∙ none in
          here ∙ sym (has_none-without (is_with p) (is_made_by by) ks here)
      at p false other = sym (still p other)

  -- of a process of which it was the last one
  pub clients-left : (old new : List ClientRow) → AreClients old ks → has (is_with own_pid) others ≡ false → Follows (without_client own_pid) old new → AreClients new others
  clients-left old new clients none follows = record {
    standing = λ p. ap (has (is_client p)) is ∙ at p (own_pid == p) refl;
    served = (without_client own_pid clients.served.0, follows clients.served.0 clients.served.1);
  }
    where
      is : new ≡ without (is_client own_pid) old
      is = leaves-rows old new own_pid clients.served follows

      at : (p : ℕ) (b : Bool) → (own_pid == p) ≡ b → has (is_client p) (without (is_client own_pid) old) ≡ has (is_with p) others
      at p true same =
          let it : own_pid ≡ p = eqb-true own_pid p same in
          sym (ap (λ n. has (is_client n) (without (is_client own_pid) old)) it) ∙ has-own old own_pid ∙ sym none ∙ ap (λ n. has (is_with n) others) it
      at p false other = away old p other ∙ clients.standing p ∙ sym (still p other)

  -- what left is
  pub left-more : (rows : List ClientRow) → has (is_with own_pid) others ≡ true → rows ≡ left kept own_pid others rows
  left-more rows more = sym (ap (λ b. cond b rows (without (is_client own_pid) rows)) more)

  pub left-none : (rows : List ClientRow) → AreClients rows ks → has (is_with own_pid) ks ≡ false → rows ≡ left kept own_pid others rows
  left-none rows clients none =
      sym (without-none (is_client own_pid) rows (clients.standing own_pid ∙ none))
      ∙ sym (ap (λ b. cond b rows (without (is_client own_pid) rows)) (has_none-without (is_with own_pid) (is_made_by by) ks none))

  pub left-last : (old new : List ClientRow) → IsServed old → has (is_with own_pid) others ≡ false → Follows (without_client own_pid) old new → new ≡ left kept own_pid others old
  left-last old new served none follows =
      leaves-rows old new own_pid served follows ∙ sym (ap (λ b. cond b old (without (is_client own_pid) old)) none)

-- A request answered
pub clients-answered : (old new : List ClientRow) (pid : ℕ) (request : Request) → ((p : ℕ) → has (is_client p) new ≡ has (is_client p) old) → Follows (with_request pid request) old new → (ks : List Connection) → AreClients old ks → AreClients new ks
clients-answered old new pid request same follows ks clients = record {
  standing = λ p. same p ∙ clients.standing p;
  served = (with_request pid request clients.served.0, follows clients.served.0 clients.served.1);
}

-- no clients, no connections
pub clients-new : (rows : List ClientRow) → IsServed rows → ((p : ℕ) → has (is_client p) rows ≡ false) → AreClients rows []
clients-new rows served none = record { standing = none; served = served }
