-- A world that keeps what another one has found keeps its waits sound.
use Rattle.std.proofs.Common.{◌≡◌, ℕ, ◌≤◌, List, Bool, true, false, cond, not, Option, Some, None, refl, arith}
use Rattle.std.proofs.lemmas.Bool.{and_from}
use Rattle.std.specs.Prelude.{◌&&◌, ◌||◌, ◌==◌, is_some}
use Rattle.lpc_base.specs.Rows.{count, every, first, has, passes}
use Rattle.lpc_base.proofs.RowWords.{every-more}
use Rattle.lpc_base.proofs.RowMaps.{every-both}
use Rattle.lpc_base.proofs.Bools.{first-true, second-true}
use Rattle.lpc_message.specs.declared.message.ClientId.{ClientId}
use Rattle.lpc_names.specs.Walk.{LinkTo, Stands}
use Rattle.lpc_names.specs.declared.names.Found.TheVariants.{Directory, Item}
use Rattle.lpc_model.specs.World.{Acceptance, Accepted, Bindings, Birth, Connect, Contents, HandleTable, Listen, Message, Node, Offer, PortRow, Receive, Request, SectionRow, ThreadRow, UsedThread, ViewTable, WaitKind, WaitRow, World, no_rows, TokenRow, TokenName, Event, Raised}
use Rattle.lpc_model.specs.Found.{is_live_thread, is_open, is_port, is_table, pair_of, port_row, waits_as, is_marked}
use Rattle.lpc_model.specs.Tests.{is_client}
use Rattle.lpc_model.specs.SoundWaits.{IsSoundWorld, can_stay_sound, has_client_port, has_come, is_answerable, is_joined, is_message_of, is_past, is_sound_connect, is_sound_listen, is_sound_receive, is_sound_request, is_sound_wait, leads_open, waiter_of, is_sound_event}
use Rattle.lpc_model.proofs.Sound.Pairs.{IsTied}

-- Waits of each kind
-- what holds of each kind of wait holds of a wait
pub by_kind : (P : WaitRow → Type 0) → ((x : WaitRow) (m : Message) → P (record x { kind = Request m })) → ((x : WaitRow) → P (record x { kind = Receive })) → ((x : WaitRow) → P (record x { kind = Listen }))
    → ((x : WaitRow) (m : Message) (offer : Option Offer) → P (record x { kind = Connect m offer })) → ((x : WaitRow) (m : Message) (reply : Acceptance) → P (record x { kind = Accepted m reply })) → ((x : WaitRow) (r : Raised) → P (record x { kind = Event r })) → (x : WaitRow) → P x
by_kind P one two three four five six x = at x.kind
  where
    at : (kind : WaitKind) → P (record x { kind = kind })
    at (Request m) = one x m
    at Receive = two x
    at Listen = three x
    at (Connect m offer) = four x m offer
    at (Accepted m reply) = five x m reply
    at (Event r) = six x r

-- a sound wait that can stay so
abbrev pub is_sure : World → WaitRow → Bool
is_sure w x = is_sound_wait w x && can_stay_sound w x

pub sure-waits : (w : World) → IsSoundWorld w → every (is_sure w) w.waits ≡ true
sure-waits w s = every-both (is_sound_wait w) (can_stay_sound w) (is_sure w) (λ x one two. and_from _ _ one two) w.waits s.waits s.stay

-- some tables of handles alone
abbrev pub handles_alone : List HandleTable → World
handles_alone handles = record no_rows { handles = handles }

-- what the steps of a line need of the numbers that were used, of the tables of handles, of the threads, of the names and
-- of the ports' births
pub record IsOrderly (used : List ℕ) (handles : List HandleTable) (threads : List ThreadRow) (bindings : Bindings Birth) (used_threads : List UsedThread) (ports : List PortRow) : Type 0 where
  pub tables : (pid : ℕ) → count (is_table pid) handles ≤ 1
  pub unused : (pid : ℕ) → has (λ n. n == pid) used ≡ false → has (is_table pid) handles ≡ false
  pub homes : every (λ t. has (is_table t.process) handles) threads ≡ true
  pub names : every (λ b. leads_open (handles_alone handles) b.1) bindings ≡ true
  pub ordinals : (tid : ℕ) (t : ThreadRow) → first (is_live_thread tid) threads ≡ Some t → every (λ p. is_past p t) ports ≡ true
  pub numbers : every (λ t. has (λ u. u.number == t.number) used_threads) threads ≡ true
  pub makers : every (λ p. has (λ u. u.number == p.birth.maker) used_threads) ports ≡ true

-- the world is orderly so
abbrev pub InOrder : World → Type 0
InOrder w = IsOrderly w.used_processes w.handles w.threads w.bindings w.used_threads w.ports

pub order-of : (w : World) → IsSoundWorld w → InOrder w
order-of w s = record { tables = s.tables; unused = s.unused; homes = s.homes; names = s.names; ordinals = s.ordinals; numbers = s.numbers; makers = s.makers }

-- each thread waits once
abbrev pub WaitOnce : List WaitRow → Type 0
WaitOnce waits = (tid : ℕ) → count (waits_as tid) waits ≤ 1

pub sound-from : (w : World) → every (is_sure w) w.waits ≡ true → WaitOnce w.waits → InOrder w → IsTied w.ports w.waits → IsSoundWorld w
sound-from w all once t ties = record {
  waits = every-more (is_sure w) (is_sound_wait w) (λ x is. first-true _ _ is) w.waits all;
  stay = every-more (is_sure w) (can_stay_sound w) (λ x is. second-true _ _ is) w.waits all;
  once = once;
  names = t.names;
  tables = t.tables;
  unused = t.unused;
  homes = t.homes;
  pairs = ties.pairs;
  servers = ties.servers;
  ordinals = t.ordinals;
  numbers = t.numbers;
  makers = t.makers;
}

-- Ports that stand
-- A port stands in a world, as sound waits need it: with a pair, joined, and served, where it was so before. Whether it
-- is served matters to the waits of its own maker.
pub record StandsAs (w : World) (b : Birth) (own : Bool) (p : PortRow) : Type 0 where
  pub row : PortRow
  pub at : port_row w b ≡ Some row
  pub paired : is_some p.pair ≡ true → is_some row.pair ≡ true
  pub joined : is_joined p ≡ true → is_joined row ≡ true
  pub served : own ≡ true → passes p.pair (is_open w) ≡ true → passes row.pair (is_open w) ≡ true

-- a port that stands as it was
pub stands-same : (w : World) (b : Birth) (own : Bool) (p : PortRow) → port_row w b ≡ Some p → StandsAs w b own p
stands-same w b own p at = record {
  row = p;
  at = at;
  paired = λ is. is;
  joined = λ is. is;
  served = λ _ is. is;
}

-- what a wait needs of the port on which it was made
pub record KeepsPort (w v : World) (b : Birth) (own : Bool) : Type 0 where
  pub stands : has (is_port b) w.ports ≡ true → has (is_port b) v.ports ≡ true
  pub paired : is_some (pair_of w b) ≡ true → is_some (pair_of v b) ≡ true
  pub joined : passes (port_row w b) is_joined ≡ true → passes (port_row v b) is_joined ≡ true
  pub served : own ≡ true → passes (pair_of w b) (is_open w) ≡ true → passes (pair_of v b) (is_open v) ≡ true

pub kept-pair-open : (w v : World) → ((b : Birth) → is_open w b ≡ true → is_open v b ≡ true) → (o : Option Birth) → passes o (is_open w) ≡ true → passes o (is_open v) ≡ true
kept-pair-open w v opens None is = absurd (cc)
kept-pair-open w v opens (Some b) is = opens b is

-- a port that stands keeps that
pub port-kept : (w v : World) (b : Birth) (own : Bool) → ((b : Birth) → is_open w b ≡ true → is_open v b ≡ true) → ((p : PortRow) → port_row w b ≡ Some p → StandsAs v b own p) → KeepsPort w v b own
port-kept w v b own opens stands = at (port_row w b) refl
  where
    at : (o : Option PortRow) → port_row w b ≡ o → KeepsPort w v b own
    at None none = record {
      stands = λ is. absurd (cc);
      paired = λ is. absurd (cc);
      joined = λ is. absurd (cc);
      served = λ _ is. absurd (cc);
    }
    at (Some p) here =
        let s = stands p here in
        record {
          stands = λ is. rw s.at refl;
          paired = λ is. let e : is_some p.pair ≡ true = rw here at is in rw s.at (s.paired e);
          joined = λ is. let e : is_joined p ≡ true = rw here at is in rw s.at (s.joined e);
          served = λ own is. let e : passes p.pair (is_open w) ≡ true = rw here at is in rw s.at (s.served own (kept-pair-open w v opens p.pair e));
        }

-- Worlds that keep what is found
-- live threads and open ports of one world are those of the other, and its messages are the same
pub record Keeps (w v : World) : Type 0 where
  pub clients : (c : ClientId) → is_client w c ≡ true → is_client v c ≡ true
  pub opens : (b : Birth) → is_open w b ≡ true → is_open v b ≡ true
  pub messages : v.messages ≡ w.messages
  pub marks : v.marks ≡ w.marks

kept-answer : (w v : World) (x : WaitRow) → KeepsPort w v x.port (x.port.maker == x.thread) → is_answerable w x ≡ true → is_answerable v x ≡ true
kept-answer w v x p is = grind (arith, p.paired)

request-parts : (o u r a b h q p : Bool) → (o ≡ true → u ≡ true) → (a ≡ true → b ≡ true) → (q ≡ true → p ≡ true) → (o && cond r a (h && q)) ≡ true → (u && cond r b (h && p)) ≡ true
request-parts o u r a b h q p one two three is = grind arith

kept-request : (w v : World) (x : WaitRow) → Keeps w v → KeepsPort w v x.port (x.port.maker == x.thread) → is_sound_request w x ≡ true → is_sound_request v x ≡ true
kept-request w v x k p is =
    rw k.messages (request-parts (is_open w x.port) (is_open v x.port) x.received (is_answerable w x) (is_answerable v x) (has (is_message_of x) w.messages) (is_open w x.queue) (is_open v x.queue)
    (k.opens x.port) (kept-answer w v x p) (k.opens x.queue) is)

receive-parts : (o u q p h j i : Bool) → (o ≡ true → u ≡ true) → (q ≡ true → p ≡ true) → (j ≡ true → i ≡ true) → (o && (q && (not h && j))) ≡ true → (u && (p && (not h && i))) ≡ true
receive-parts o u q p h j i one two three is = grind arith

kept-receive : (w v : World) (x : WaitRow) → Keeps w v → KeepsPort w v x.port (x.port.maker == x.thread) → is_sound_receive w x ≡ true → is_sound_receive v x ≡ true
kept-receive w v x k p is =
    rw k.messages (receive-parts (is_open w x.port) (is_open v x.port) (is_open w x.queue) (is_open v x.queue) (has_come w x) (passes (port_row w x.port) is_joined) (passes (port_row v x.port) is_joined)
    (k.opens x.port) (k.opens x.queue) p.joined is)

listen-parts : (o u q p h : Bool) → (o ≡ true → u ≡ true) → (q ≡ true → p ≡ true) → (o && (q && not h)) ≡ true → (u && (p && not h)) ≡ true
listen-parts o u q p h one two is = grind arith

kept-listen : (w v : World) (x : WaitRow) → Keeps w v → is_sound_listen w x ≡ true → is_sound_listen v x ≡ true
kept-listen w v x k is =
    rw k.messages (listen-parts (is_open w x.port) (is_open v x.port) (is_open w x.queue) (is_open v x.queue) (has_come w x) (k.opens x.port) (k.opens x.queue) is)

connect-parts : (q p r h : Bool) → (q ≡ true → p ≡ true) → (q && (r || h)) ≡ true → (p && (r || h)) ≡ true
connect-parts q p r h one is = grind arith

kept-connect : (w v : World) (x : WaitRow) → Keeps w v → is_sound_connect w x ≡ true → is_sound_connect v x ≡ true
kept-connect w v x k is =
    rw k.messages (connect-parts (is_open w x.queue) (is_open v x.queue) x.received (has (is_message_of x) w.messages) (k.opens x.queue) is)

client-parts : (a b c : Bool) → (a ≡ true → b ≡ true) → (a && c) ≡ true → (b && c) ≡ true
client-parts a b c one is = grind arith

kept-client : (w v : World) (x : WaitRow) → KeepsPort w v x.port (x.port.maker == x.thread) → has_client_port w x ≡ true → has_client_port v x ≡ true
kept-client w v x p is = client-parts (has (is_port x.port) w.ports) (has (is_port x.port) v.ports) (x.port.maker == x.thread) p.stands is

sure-parts : (c d s t a b : Bool) → (c ≡ true → d ≡ true) → (s ≡ true → t ≡ true) → (a ≡ true → b ≡ true) → ((c && s) && a) ≡ true → ((d && t) && b) ≡ true
sure-parts c d s t a b one two three is = grind arith

-- a marked event needs nothing but its thread
pub exempt-parts : (c d m n s t a b : Bool) → (c ≡ true → d ≡ true) → (m ≡ true → n ≡ true) → (((c && s) && a) ≡ true → ((d && t) && b) ≡ true) → ((c && (m || s)) && (m || a)) ≡ true → ((d && (n || t)) && (n || b)) ≡ true
exempt-parts c d true n s t a b one two three is = let more = two refl in let lives = one (grind arith) in grind (arith, more, lives)
exempt-parts c d false n s t a b one two three is = let more = three (grind arith) in grind (arith, more)

-- a sound request, and a sound event: what makes the request sound makes the event so
abbrev pub is_sure_request : World → WaitRow → Bool
is_sure_request w x = (is_client w (waiter_of x) && is_sound_request w x) && is_answerable w x

abbrev pub is_sure_event : World → WaitRow → Bool
is_sure_event w x = (is_client w (waiter_of x) && is_sound_event w x) && (is_marked w x || is_answerable w x)

pub exempt : (w v : World) (x y : WaitRow) → (is_client w (waiter_of x) ≡ true → is_client v (waiter_of y) ≡ true) → (is_marked w x ≡ true → is_marked v y ≡ true) → (is_sure_request w x ≡ true → is_sure_request v y ≡ true) → is_sure_event w x ≡ true → is_sure_event v y ≡ true
exempt w v x y one two three is =
    exempt-parts (is_client w (waiter_of x)) (is_client v (waiter_of y)) (is_marked w x) (is_marked v y) (is_sound_request w x) (is_sound_request v y) (is_answerable w x) (is_answerable v y) one two three is

accepted-parts : (c d s t a b m : Bool) → (c ≡ true → d ≡ true) → (m ≡ true → s ≡ true → t ≡ true) → (a ≡ true → b ≡ true) → ((c && s) && (a && m)) ≡ true → ((d && t) && (b && m)) ≡ true
accepted-parts c d s t a b m one two three is = grind arith

pub kept-sure : (w v : World) → Keeps w v → (x : WaitRow) → KeepsPort w v x.port (x.port.maker == x.thread) → is_sure w x ≡ true → is_sure v x ≡ true
kept-sure w v k =
    by_kind (λ x. KeepsPort w v x.port (x.port.maker == x.thread) → is_sure w x ≡ true → is_sure v x ≡ true)
    (λ x m p. sure-parts _ _ _ _ _ _ (k.clients (waiter_of x)) (kept-request w v (record x { kind = Request m }) k p) (kept-answer w v x p))
    (λ x p. sure-parts _ _ _ _ _ _ (k.clients (waiter_of x)) (kept-receive w v (record x { kind = Receive }) k p) (λ is. is))
    (λ x p. sure-parts _ _ _ _ _ _ (k.clients (waiter_of x)) (kept-listen w v (record x { kind = Listen }) k) (λ is. is))
    (λ x m offer p. sure-parts _ _ _ _ _ _ (k.clients (waiter_of x)) (kept-connect w v (record x { kind = Connect m offer }) k) (kept-client w v x p))
    (λ x m reply p. accepted-parts _ _ _ _ _ _ _ (k.clients (waiter_of x)) p.served p.stands)
    (λ x r p. exempt w v x x (k.clients (waiter_of x)) (λ is. rw k.marks is) (sure-parts _ _ _ _ _ _ (k.clients (waiter_of x)) (kept-request w v (record x { kind = Event r }) k p) (kept-answer w v x p)))

-- a world that keeps what is found, with the same waits, stays sound
pub sound-kept : (w v : World) → Keeps w v → ((b : Birth) (own : Bool) → KeepsPort w v b own) → v.waits ≡ w.waits → InOrder v → IsTied v.ports v.waits → IsSoundWorld w → IsSoundWorld v
sound-kept w v k ports same t ties s =
    sound-from v (rw same (every-more (is_sure w) (is_sure v) (λ x. kept-sure w v k x (ports x.port (x.port.maker == x.thread))) w.waits (sure-waits w s))) (rw same s.once) t ties

-- a name that leads to an open port still does
pub leads-kept : (w v : World) → ((b : Birth) → is_open w b ≡ true → is_open v b ≡ true) → (node : Node Birth) → leads_open w node ≡ true → leads_open v node ≡ true
leads-kept w v opens (LinkTo target) is = refl
leads-kept w v opens (Stands Directory) is = refl
leads-kept w v opens (Stands (Item port)) is = opens port is

-- sections, their bytes and views are no matter
pub sound-memory : (w : World) (sections : List SectionRow) (contents : Contents) (views : List ViewTable) → IsSoundWorld w → IsSoundWorld (record w { sections = sections; contents = contents; views = views })
sound-memory w sections contents views s = record {
  waits = s.waits;
  stay = s.stay;
  once = s.once;
  names = s.names;
  tables = s.tables;
  unused = s.unused;
  homes = s.homes;
  pairs = s.pairs;
  servers = s.servers;
  ordinals = s.ordinals;
  numbers = s.numbers;
  makers = s.makers;
}

-- nor does it speak of tokens and their names
pub sound-tokens : (w : World) (tokens : List TokenRow) (names : List TokenName) → IsSoundWorld w → IsSoundWorld (record w { tokens = tokens; token_names = names })
sound-tokens w tokens names s = record {
  waits = s.waits;
  stay = s.stay;
  once = s.once;
  names = s.names;
  tables = s.tables;
  unused = s.unused;
  homes = s.homes;
  pairs = s.pairs;
  servers = s.servers;
  ordinals = s.ordinals;
  numbers = s.numbers;
  makers = s.makers;
}
