-- An impersonation is refused as a mismatch only where no request is found: what is found is allowed something.
use Rattle.std.proofs.Common.{◌≡◌, ℕ, List, Bool, true, false, not, Option, Some, None, refl, sym, subst, arith}
use Rattle.std.specs.Prelude.{◌&&◌, ◌||◌, ◌==◌, Result, Ok, Err, is_some, nat_lt, option_and_then}
use Rattle.std.proofs.lemmas.Bool.Decides.{nat_tests}
use Rattle.lpc_base.specs.Rows.{first, passes}
use Rattle.lpc_base.specs.declared.status.Status.{Status}
use Rattle.lpc_base.specs.declared.status.TheConstants.{ACCESS_DENIED, INVALID_CID, INVALID_HANDLE, INVALID_PARAMETER, INVALID_PORT_HANDLE, OBJECT_TYPE_MISMATCH, PORT_MESSAGE_TOO_LONG, REPLY_MESSAGE_MISMATCH}
use Rattle.lpc_base.specs.declared.limits.TheConstants.{MESSAGE_LIMIT}
use Rattle.lpc_message.specs.Layout.{fault_of, header_of}
use Rattle.lpc_base.proofs.Births.{birth-same}
use Rattle.lpc_base.proofs.Bools.{first-true}
use Rattle.lpc_base.proofs.RowMaps.{every-first}
use Rattle.lpc_base.proofs.RowWords.{first-passes}
use Rattle.lpc_tokens.specs.declared.security.Security.TheVariants.{Allows, Guarded, Unsecured}
use Rattle.lpc_model.specs.declared.entry.ObjectKind.TheVariants as kind
use Rattle.lpc_model.specs.World.{Birth, HandleRow, Impersonation, Message, PortRow, Security, ThreadRow, WaitRow, World}
use Rattle.lpc_model.specs.Message.{message_of, message_test}
use Rattle.lpc_model.specs.Clients.{HasAllowingClients, HasClientEnds, IsUnserved, RefusesUnservedAlone, allows, are_clients, has_client_end, is_allowing, is_client_under}
use Rattle.lpc_model.specs.Found.{handle_at, is_client_port, is_port, is_request, is_server_port, is_the, live_thread, names_wait, pair_of, port_row, same_kind}
use Rattle.lpc_model.specs.Impersonation.{allowed, allowed_by, impersonate_steps, is_served_by, nt_impersonate_client_of_port}
use Rattle.lpc_model.specs.Linked.{IsLinked, is_mutual}
use Rattle.lpc_model.specs.Refusal.{found_or, refuse_if}
use Rattle.lpc_model.specs.SoundWaits.{IsSoundWorld, is_sound_wait}
use Rattle.lpc_model.specs.Tests.{PORT_RIGHT, client_test, includes, is_client, object_test, own_handle, port_test}
use Rattle.lpc_model.specs.Then.{◌>>=◌}
use Rattle.lpc_model.proofs.Calls.Holding.{holds_ok}
use Rattle.lpc_model.proofs.Calls.Usable.{IsUsable, by_port_kind, port-usable}

-- Tests that never refuse with a status
abbrev Avoids : {A : Type 0} → Status → Result A Status → Type 0
Avoids s (Ok x) = Unit {0}
Avoids s (Err e) = (e.0 == s.0) ≡ false

bind-avoids : {A B : Type 0} (s : Status) (r : Result A Status) (f : A → Result B Status) → Avoids s r → ((x : A) → Avoids s (f x)) → Avoids s (r >>= f)
bind-avoids s (Ok x) f one two = two x
bind-avoids s (Err e) f one two = one

refuse-avoids : (s e : Status) (b : Bool) → (e.0 == s.0) ≡ false → Avoids s (refuse_if b e)
refuse-avoids s e true off = off
refuse-avoids s e false off = tt

found-avoids : {A : Type 0} (s e : Status) (o : Option A) → (e.0 == s.0) ≡ false → Avoids s (found_or o e)
found-avoids s e None off = off
found-avoids s e (Some x) off = tt

-- what is refused with the status is refused behind such a test
behind : {A B : Type 0} (G : Type 0) (s : Status) (r : Result A Status) (f : A → Result B Status) → Avoids s r → (r >>= f) ≡ Err s → ((x : A) → r ≡ Ok x → f x ≡ Err s → G) → G
behind G s (Ok x) f avoids is more = more x refl is
behind G s (Err e) f avoids is more = let same : e ≡ s = cc in let on : (e.0 == s.0) ≡ true = rw same (grind (arith, nat_tests)) in absurd (cc)

port-avoids : (w : World) (by : ThreadRow) (handle : ℕ) → Avoids REPLY_MESSAGE_MISMATCH (port_test w by handle)
port-avoids w by handle =
    let s = REPLY_MESSAGE_MISMATCH in
    bind-avoids {B = PortRow} s (object_test w by kind.Port PORT_RIGHT handle) (λ b. found_or (port_row w b) INVALID_HANDLE)
    (bind-avoids {B = Birth} s (own_handle w by handle) (λ r. refuse_if (not (same_kind r.object.kind kind.Port)) OBJECT_TYPE_MISMATCH >>= (λ _. refuse_if (not (includes r.access PORT_RIGHT)) ACCESS_DENIED >>= (λ _. Ok r.object.birth)))
    (found-avoids s INVALID_HANDLE (handle_at w by.process handle) refl) (λ r. handle-avoids r))
    (λ b. found-avoids s INVALID_HANDLE (port_row w b) refl)
  where
    handle-avoids : (r : HandleRow) → Avoids {A = Birth} REPLY_MESSAGE_MISMATCH (refuse_if (not (same_kind r.object.kind kind.Port)) OBJECT_TYPE_MISMATCH >>= (λ _. refuse_if (not (includes r.access PORT_RIGHT)) ACCESS_DENIED >>= (λ _. Ok r.object.birth)))
    handle-avoids r =
        let s = REPLY_MESSAGE_MISMATCH in
        bind-avoids {B = Birth} s (refuse_if (not (same_kind r.object.kind kind.Port)) OBJECT_TYPE_MISMATCH) (λ _. refuse_if (not (includes r.access PORT_RIGHT)) ACCESS_DENIED >>= (λ _. Ok r.object.birth)) (refuse-avoids s OBJECT_TYPE_MISMATCH (not (same_kind r.object.kind kind.Port)) refl) (λ _.
        bind-avoids {B = Birth} s (refuse_if (not (includes r.access PORT_RIGHT)) ACCESS_DENIED) (λ _. Ok r.object.birth) (refuse-avoids s ACCESS_DENIED (not (includes r.access PORT_RIGHT)) refl) (λ _. tt))

message-avoids : (bytes : List ℕ) → Avoids REPLY_MESSAGE_MISMATCH (message_test bytes)
unfolding message_test
message-avoids bytes =
    let s = REPLY_MESSAGE_MISMATCH in
    bind-avoids {B = Message} s (refuse_if (is_some (fault_of bytes)) INVALID_PARAMETER) (λ _. refuse_if (nat_lt MESSAGE_LIMIT (header_of bytes).message_size) PORT_MESSAGE_TOO_LONG >>= (λ _. Ok (message_of bytes))) (refuse-avoids s INVALID_PARAMETER (is_some (fault_of bytes)) refl) (λ _.
    bind-avoids {B = Message} s (refuse_if (nat_lt MESSAGE_LIMIT (header_of bytes).message_size) PORT_MESSAGE_TOO_LONG) (λ _. Ok (message_of bytes)) (refuse-avoids s PORT_MESSAGE_TOO_LONG (nat_lt MESSAGE_LIMIT (header_of bytes).message_size) refl) (λ _. tt))

-- What a request allows
allowed-some : (w : World) (s : Security) (t : ThreadRow) → allows s ≡ true → is_some (allowed w s t) ≡ true
allowed-some w Unsecured t is = absurd (cc)
allowed-some w (Guarded d) t is = absurd (cc)
allowed-some w (Allows quality kept) t is = refl

client-allows : (p : PortRow) → is_allowing p ≡ true → is_client_port p ≡ true → allows p.security ≡ true
client-allows = by_port_kind (λ p. is_allowing p ≡ true → is_client_port p ≡ true → allows p.security ≡ true) (λ p is client. absurd (cc)) (λ p is client. absurd (cc)) (λ p is client. is) (λ p is client. absurd (cc))

module _ (w : World) (s : IsSoundWorld w) (l : IsLinked w) (clients : HasAllowingClients w) (ends : HasClientEnds w) where
  -- the other end of a server port stands, and allows something
  paired-allows : (port : PortRow) → port_row w port.birth ≡ Some port → is_server_port port ≡ true → (b : Birth) → is_the b port.pair ≡ true → passes (port_row w b) (λ q. allows q.security) ≡ true
  paired-allows port stands server b is = at port.pair refl is
    where
      under : (q : PortRow) → is_client_under b q ≡ true → is_port b q ≡ true → is_client_port q ≡ true
      under q all own = parts (is_port b q) (is_client_port q) all own
        where
          parts : (m n : Bool) → (not m || n) ≡ true → m ≡ true → n ≡ true
          parts m n all own = grind arith

      row : (o : Option PortRow) → port_row w b ≡ o → is_the port.birth (pair_of w b) ≡ true → are_clients w.ports b ≡ true → passes (port_row w b) (λ q. allows q.security) ≡ true
      row None none back all = let never : false ≡ true = rw none at back in absurd (cc)
      row (Some q) here back all =
          rw here (client-allows q (every-first is_allowing (is_port b) w.ports q clients here)
          (under q (every-first (is_client_under b) (is_port b) w.ports q all here) (first-passes (is_port b) w.ports q here)))

      server-end : (n a : Bool) → n ≡ true → (not n || a) ≡ true → a ≡ true
      server-end n a on is = grind arith

      at : (o : Option Birth) → port.pair ≡ o → is_the b o ≡ true → passes (port_row w b) (λ q. allows q.security) ≡ true
      at None none is = absurd (cc)
      at (Some c) some is =
          let same : c ≡ b = sym (birth-same b c is) in
          let pair : port.pair ≡ Some b = subst (λ d. port.pair ≡ Some d) same some in
          let backs = every-first (is_mutual w) (is_port port.birth) w.ports port l.pairs stands in
          let back : is_the port.birth (pair_of w b) ≡ true = rw pair at backs in
          let end = server-end (is_server_port port) _ server (every-first (has_client_end w.ports) (is_port port.birth) w.ports port ends stands) in
          let all : are_clients w.ports b ≡ true = rw pair at end in
          row (port_row w b) refl back all

  served-allowed : (port : PortRow) (m : Message) (x : WaitRow) → port_row w port.birth ≡ Some port → is_server_port port ≡ true → first (is_served_by port m) w.waits ≡ Some x → is_some (allowed_by w x) ≡ true
  served-allowed port m x stands server found =
      let served = first-passes (is_served_by port m) w.waits x found in
      let other : is_the x.port port.pair ≡ true = fourth (names_wait x m) (is_request x) x.received (is_the x.port port.pair) served in
      let live = first-true _ _ (every-first (is_sound_wait w) (is_served_by port m) w.waits x s.waits found) in
      both (port_row w x.port) (live_thread w x.thread) (paired-allows port stands server x.port other) live
    where
      fourth : (a b c d : Bool) → (a && (b && (c && d))) ≡ true → d ≡ true
      fourth a b c d is = grind arith

      both : (o : Option PortRow) (l : Option ThreadRow) → passes o (λ q. allows q.security) ≡ true → passes l (λ t. t.process == x.process) ≡ true → is_some (option_and_then (λ (p : PortRow). option_and_then (allowed w p.security) l) o) ≡ true
      both None l allowing live = absurd (cc)
      both (Some q) None allowing live = absurd (cc)
      both (Some q) (Some t) allowing live = allowed-some w q.security t allowing

  pub refuses_unserved : RefusesUnservedAlone w
  unfolding nt_impersonate_client_of_port
  refuses_unserved by handle bytes is =
      let s = REPLY_MESSAGE_MISMATCH in
      let G = IsUnserved w by handle bytes in
      behind G s (port_test w by handle) _ (port-avoids w by handle) is (λ port port_found one.
      behind G s (message_test bytes) _ (message-avoids bytes) one (λ m read two.
      behind G s (refuse_if (not (is_server_port port)) INVALID_PORT_HANDLE) _ (refuse-avoids s INVALID_PORT_HANDLE (not (is_server_port port)) refl) two (λ _ serves three.
      behind G s (client_test w m.header.client) _ (refuse-avoids s INVALID_CID (not (is_client w m.header.client)) refl) three (λ _ _ four.
      last port m port_found read (server-of (is_server_port port) serves) (first (is_served_by port m) w.waits) refl four))))
    where
      server-of : (b : Bool) {u : Unit {0}} → refuse_if (not b) INVALID_PORT_HANDLE ≡ Ok u → b ≡ true
      server-of true is = refl
      server-of false is = cc

      never : (o : Option Impersonation) → is_some o ≡ true → (found_or o REPLY_MESSAGE_MISMATCH >>= (λ own. Ok (impersonate_steps by own))) ≡ Err REPLY_MESSAGE_MISMATCH → false ≡ true
      never None some is = absurd (cc)
      never (Some own) some is = absurd (cc)

      last : (port : PortRow) (m : Message) → port_test w by handle ≡ Ok port → message_test bytes ≡ Ok m → is_server_port port ≡ true → (o : Option WaitRow) → first (is_served_by port m) w.waits ≡ o
          → (found_or o REPLY_MESSAGE_MISMATCH >>= (λ x. found_or (allowed_by w x) REPLY_MESSAGE_MISMATCH >>= (λ own. Ok (impersonate_steps by own)))) ≡ Err REPLY_MESSAGE_MISMATCH → IsUnserved w by handle bytes
      last port m port_found read serves None none is = record { port = port; message = m; port_found = port_found; message_read = read; server = serves; unserved = rw none refl }
      last port m port_found read serves (Some x) found is =
          let u = holds_ok (IsUsable w) (port_test w by handle) port (port-usable w by handle) port_found in
          let off = never (allowed_by w x) (served-allowed port m x u.stands serves found) is in absurd (cc)
