-- What a port that is made, and waits that begin, end or change, do to connections that aren't completed.
use Rattle.std.proofs.Common.{◌≡◌, ◌∙◌, ℕ, List, [], ◌∷◌, ◌++◌, Bool, true, false, not, Option, Some, None, refl, sym, subst, arith}
use Rattle.std.specs.Prelude.{◌&&◌, ◌||◌, ◌==◌, Result, Ok, Err, is_none, is_some}
use Rattle.std.proofs.lemmas.Bool.Decides.{nat_tests}
use Rattle.lpc_base.specs.Rows.{change, every, first, has, passes, without}
use Rattle.lpc_base.specs.declared.status.Status.{Status}
use Rattle.lpc_base.specs.declared.status.TheConstants.{INVALID_PARAMETER, INVALID_PORT_HANDLE, PORT_DISCONNECTED}
use Rattle.lpc_base.proofs.RowWords.{every-any, every-more, every-push, first-kept, has-change, has-kept, has_none-push, has_none-without}
use Rattle.lpc_base.proofs.RowMaps.{every-both, every-first}
use Rattle.lpc_base.proofs.Births.{birth-same}
use Rattle.lpc_base.proofs.Bools.{apart-second}
use Rattle.lpc_model.specs.World.{Birth, PortRow, WaitRow, World, no_rows}
use Rattle.lpc_model.specs.Found.{is_accepted, is_connect, is_port, is_server_port, is_the, pair_of, port_row, same_birth, waits_as}
use Rattle.lpc_model.specs.Refusal.{found_or, refuse_if}
use Rattle.lpc_model.specs.Then.{◌>>=◌}
use Rattle.lpc_model.specs.Connect.{Completable, is_accepted_on}
use Rattle.lpc_model.specs.SoundWaits.{IsSoundWorld, RefusesCutPairsAlone, is_awaited, is_awaited_on, is_connect_on, is_uncompleted, lacks_connects}
use Rattle.lpc_model.proofs.Steps.Rows.{has-without}

-- What is kept
-- some ports and waits alone
abbrev pub tied : List PortRow → List WaitRow → World
tied ports waits = record no_rows { ports = ports; waits = waits }

-- connections that aren't completed are awaited, and on server ports no connect waits
pub record IsTied (ports : List PortRow) (waits : List WaitRow) : Type 0 where
  pub pairs : every (is_awaited (tied ports waits)) ports ≡ true
  pub servers : every (lacks_connects (tied ports waits)) ports ≡ true

pub tied-of : (w : World) → IsSoundWorld w → IsTied w.ports w.waits
tied-of w s = record { pairs = s.pairs; servers = s.servers }

-- Awaited connections
awaited-parts : (u a b : Bool) → (u ≡ true → a ≡ true → b ≡ true) → (not u || (false || a)) ≡ true → (not u || (false || b)) ≡ true
awaited-parts u a b still is = grind (arith, still)

-- a port stays awaited where its pair, if it has one, still is the client port of an accepted connect, with the port as pair
pub awaited-kept : (w v : World) (p : PortRow) → ((c : Birth) → p.pair ≡ Some c → is_uncompleted p ≡ true → is_awaited_on w p.birth c ≡ true → is_awaited_on v p.birth c ≡ true) → is_awaited w p ≡ true → is_awaited v p ≡ true
awaited-kept w v p still is = at p.pair refl is
  where
    at : (o : Option Birth) → p.pair ≡ o → (not (is_uncompleted p) || (is_none o || passes o (is_awaited_on w p.birth))) ≡ true → (not (is_uncompleted p) || (is_none o || passes o (is_awaited_on v p.birth))) ≡ true
    at None none was = was
    at (Some c) some was = awaited-parts (is_uncompleted p) (is_awaited_on w p.birth c) (is_awaited_on v p.birth c) (still c some) was

on-parts : (a b m n : Bool) → (a ≡ true → b ≡ true) → (m ≡ true → n ≡ true) → (a && m) ≡ true → (b && n) ≡ true
on-parts a b m n one two is = grind (arith, one, two)

pub on-kept : (w v : World) (b c : Birth) → (has (is_accepted_on c) w.waits ≡ true → has (is_accepted_on c) v.waits ≡ true) → (is_the b (pair_of w c) ≡ true → is_the b (pair_of v c) ≡ true) → is_awaited_on w b c ≡ true → is_awaited_on v b c ≡ true
on-kept w v b c one two is = on-parts (has (is_accepted_on c) w.waits) (has (is_accepted_on c) v.waits) (is_the b (pair_of w c)) (is_the b (pair_of v c)) one two is

-- the pair of a port is the same, where its row is found with the same pair
pub pair-kept : (w v : World) (b c : Birth) → ((q : PortRow) → port_row w c ≡ Some q → pair_of v c ≡ q.pair) → is_the b (pair_of w c) ≡ true → is_the b (pair_of v c) ≡ true
pair-kept w v b c kept is = at (port_row w c) refl
  where
    at : (o : Option PortRow) → port_row w c ≡ o → is_the b (pair_of v c) ≡ true
    at None none = let off : false ≡ true = rw none at is in absurd (cc)
    at (Some q) here = let paired : is_the b q.pair ≡ true = rw here at is in rw (kept q here) paired

pub cut-awaited : (w : World) (p : PortRow) → p.pair ≡ None → is_awaited w p ≡ true
cut-awaited w p none = rw none (or-true (is_uncompleted p))
  where
    or-true : (u : Bool) → (not u || true) ≡ true
    or-true u = grind arith

-- A port that is made
pub tied-made : (ports : List PortRow) (waits : List WaitRow) (p : PortRow) → p.pair ≡ None → lacks_connects (tied ports waits) p ≡ true → IsTied ports waits → IsTied (ports ++ p ∷ []) waits
tied-made ports waits p cut lacks t =
    let w = tied ports waits in
    let v = tied (ports ++ p ∷ []) waits in
    let paired = λ (b c : Birth). pair-kept w v b c (λ q here. rw (first-kept (is_port c) ports p q here) refl) in
    record {
      pairs = every-push (is_awaited v) ports p (every-more (is_awaited w) (is_awaited v) (λ q. awaited-kept w v q (λ c _ _. on-kept w v q.birth c (λ is. is) (paired q.birth c))) ports t.pairs) (cut-awaited v p cut);
      servers = every-push (lacks_connects w) ports p t.servers lacks;
    }

-- A wait that begins
-- a wait makes no server port wait for a connect
abbrev pub is_apart : WaitRow → PortRow → Bool
is_apart x p = not (is_server_port p && is_connect_on p.birth x)

apart-parts : (s h c i : Bool) → (h ≡ false → c ≡ false → i ≡ false) → not (s && h) ≡ true → not (s && c) ≡ true → not (s && i) ≡ true
apart-parts s h c i off one two = grind (arith, off)

pub tied-awaits : (ports : List PortRow) (waits : List WaitRow) (x : WaitRow) → every (is_apart x) ports ≡ true → IsTied ports waits → IsTied ports (waits ++ x ∷ [])
tied-awaits ports waits x apart t =
    let w = tied ports waits in
    let v = tied ports (waits ++ x ∷ []) in
    record {
      pairs = every-more (is_awaited w) (is_awaited v) (λ q. awaited-kept w v q (λ c _ _. on-kept w v q.birth c (has-kept (is_accepted_on c) waits x) (λ is. is))) ports t.pairs;
      servers = every-both (lacks_connects w) (is_apart x) (lacks_connects v) (λ q. apart-parts (is_server_port q) (has (is_connect_on q.birth) waits) (is_connect_on q.birth x) (has (is_connect_on q.birth) (waits ++ x ∷ [])) (has_none-push (is_connect_on q.birth) waits x)) ports t.servers apart;
    }

-- any wait but a connect
other-apart : (s c b : Bool) → c ≡ false → not (s && (c && b)) ≡ true
other-apart s c b off = grind arith

pub apart-other : (x : WaitRow) → is_connect x ≡ false → (ports : List PortRow) → every (is_apart x) ports ≡ true
apart-other x off ports = every-any (is_apart x) (λ p. other-apart (is_server_port p) (is_connect x) (same_birth x.port p.birth) off) ports

-- A wait that ends
pub lacks-parts : (s h i : Bool) → (h ≡ false → i ≡ false) → not (s && h) ≡ true → not (s && i) ≡ true
lacks-parts s h i off is = grind (arith, off)

pub tied-ended : (ports : List PortRow) (waits : List WaitRow) (who : ℕ) → every (is_awaited (tied ports (without (waits_as who) waits))) ports ≡ true → IsTied ports waits → IsTied ports (without (waits_as who) waits)
tied-ended ports waits who pairs t =
    let w = tied ports waits in
    let v = tied ports (without (waits_as who) waits) in
    record {
      pairs = pairs;
      servers = every-more (lacks_connects w) (lacks_connects v) (λ q. lacks-parts (is_server_port q) (has (is_connect_on q.birth) waits) (has (is_connect_on q.birth) (without (waits_as who) waits)) (has_none-without (is_connect_on q.birth) (waits_as who) waits)) ports t.servers;
    }

-- the wait of the thread, if it has one, isn't an accepted connect
abbrev pub is_quiet : ℕ → WaitRow → Bool
is_quiet who y = not (waits_as who y) || not (is_accepted y)

quiet-parts : (s a b : Bool) → (not s || not a) ≡ true → (not s || not (a && b)) ≡ true
quiet-parts s a b is = grind arith

pub awaited-quiet : (ports : List PortRow) (waits : List WaitRow) (who : ℕ) → every (is_quiet who) waits ≡ true → IsTied ports waits → every (is_awaited (tied ports (without (waits_as who) waits))) ports ≡ true
awaited-quiet ports waits who quiet t =
    let w = tied ports waits in
    let v = tied ports (without (waits_as who) waits) in
    let stays = λ (c : Birth). has-without (is_accepted_on c) (waits_as who) waits (every-more (is_quiet who) (λ y. not (waits_as who y) || not (is_accepted_on c y)) (λ y. quiet-parts (waits_as who y) (is_accepted y) (same_birth y.port c)) waits quiet) in
    every-more (is_awaited w) (is_awaited v) (λ q. awaited-kept w v q (λ c _ _. on-kept w v q.birth c (stays c) (λ is. is))) ports t.pairs

-- the wait of the thread is on the client port, and no connection that isn't completed has that port
abbrev pub is_on : ℕ → Birth → WaitRow → Bool
is_on who client y = not (waits_as who y) || same_birth y.port client

abbrev pub is_elsewhere : Birth → PortRow → Bool
is_elsewhere client p = not (is_uncompleted p && is_the client p.pair)

on-other : (who : ℕ) (client c : Birth) (y : WaitRow) → same_birth client c ≡ false → is_on who client y ≡ true → (not (waits_as who y) || not (is_accepted_on c y)) ≡ true
on-other who client c y off is = at (waits_as who y) (same_birth y.port client) (is_accepted y) (same_birth y.port c) (λ one two. other-birth one two) is
  where
    other-birth : same_birth y.port client ≡ true → same_birth y.port c ≡ true → false ≡ true
    other-birth one two = sym off ∙ subst (λ b. same_birth b c ≡ true) (birth-same y.port client one) two

    at : (s h a k : Bool) → (h ≡ true → k ≡ true → false ≡ true) → (not s || h) ≡ true → (not s || not (a && k)) ≡ true
    at s h a k apart on = grind (arith, apart)

pub awaited-finished : (ports : List PortRow) (waits : List WaitRow) (who : ℕ) (client : Birth) → every (is_on who client) waits ≡ true → every (is_elsewhere client) ports ≡ true → IsTied ports waits
    → every (is_awaited (tied ports (without (waits_as who) waits))) ports ≡ true
awaited-finished ports waits who client on elsewhere t =
    let w = tied ports waits in
    let v = tied ports (without (waits_as who) waits) in
    every-both (is_awaited w) (is_elsewhere client) (is_awaited v) (λ q was off. awaited-kept w v q (λ c some open_yet. on-kept w v q.birth c
    (let off' : not (is_uncompleted q && same_birth client c) ≡ true = rw some at off in
    let apart = apart-second (is_uncompleted q) (same_birth client c) open_yet off' in
    has-without (is_accepted_on c) (waits_as who) waits (every-more (is_on who client) (λ y. not (waits_as who y) || not (is_accepted_on c y)) (λ y. on-other who client c y apart) waits on))
    (λ is. is)) was) ports t.pairs elsewhere

-- A request or connect that is received, and any other change of a wait that keeps its kind and port
pub tied-changed : (ports : List PortRow) (waits : List WaitRow) (s : WaitRow → Bool) (f : WaitRow → WaitRow) → ((c : Birth) (y : WaitRow) → is_accepted_on c (f y) ≡ is_accepted_on c y) → ((b : Birth) (y : WaitRow) → is_connect_on b (f y) ≡ is_connect_on b y)
    → IsTied ports waits → IsTied ports (change s f waits)
tied-changed ports waits s f same alike t =
    let w = tied ports waits in
    let v = tied ports (change s f waits) in
    record {
      pairs = every-more (is_awaited w) (is_awaited v) (λ q. awaited-kept w v q (λ c _ _. on-kept w v q.birth c (λ is. rw (has-change (is_accepted_on c) s f (same c) waits) is) (λ is. is))) ports t.pairs;
      servers = every-more (lacks_connects w) (lacks_connects v) (λ q. lacks-parts (is_server_port q) (has (is_connect_on q.birth) waits) (has (is_connect_on q.birth) (change s f waits)) (λ off. rw (has-change (is_connect_on q.birth) s f (alike q.birth) waits) off)) ports t.servers;
    }

-- A completion
-- the tests of a completion, from what they look at
abbrev tested : World → Birth → Bool → Bool → Option Birth → Result Completable Status
tested w server is_server done pair =
    refuse_if (not is_server) INVALID_PORT_HANDLE >>= (λ _.
    refuse_if done INVALID_PARAMETER >>= (λ _.
    found_or pair PORT_DISCONNECTED >>= (λ client.
    found_or (first (is_accepted_on client) w.waits) PORT_DISCONNECTED >>= (λ x.
    Ok (record { server = server; client = client; wait = x })))))

same-number : (a b : Status) → let refused : Result Completable Status = Err a in refused ≡ Err b → (a.0 == b.0) ≡ true
same-number a b is = let same : a ≡ b = cc in rw same (grind (arith, nat_tests))

found-is-ok : (o : Option WaitRow) (s t : Status) (f : WaitRow → Completable) → is_some o ≡ true → (found_or o s >>= (λ x. Ok (f x))) ≡ Err t → false ≡ true
found-is-ok None s t f here is = absurd (cc)
found-is-ok (Some x) s t f here is = absurd (cc)

-- on a port that stands it is refused as disconnected only where the pair is cut
pub refuses_cut_pairs : (w : World) → IsSoundWorld w → RefusesCutPairsAlone w
refuses_cut_pairs w s port stands is = at (is_server_port port) port.completed port.pair (every-first (is_awaited w) (is_port port.birth) w.ports port s.pairs stands) is
  where
    at : (server done : Bool) (pair : Option Birth) → (not (server && not done) || (is_none pair || passes pair (is_awaited_on w port.birth))) ≡ true → tested w port.birth server done pair ≡ Err PORT_DISCONNECTED → is_none pair ≡ true
    at false done pair awaited is = let same : false ≡ true = same-number INVALID_PORT_HANDLE PORT_DISCONNECTED is in absurd (cc)
    at true true pair awaited is = let same : false ≡ true = same-number INVALID_PARAMETER PORT_DISCONNECTED is in absurd (cc)
    at true false None awaited is = refl
    at true false (Some client) awaited is =
        let on : is_awaited_on w port.birth client ≡ true = grind arith in
        found-is-ok (first (is_accepted_on client) w.waits) PORT_DISCONNECTED PORT_DISCONNECTED (λ x. record { server = port.birth; client = client; wait = x }) (grind arith) is
