-- Where a receive waits no message stands, and what enters there it takes: a message that enters a queue is in balance.
use Rattle.std.proofs.Common.{◌≡◌, ◌∙◌, ℕ, ◌+◌, ◌≤◌, append_assoc, List, [], ◌∷◌, ◌++◌, Bool, true, false, not, Option, Some, None, ap, refl, sym, subst, arith}
use Rattle.std.proofs.lemmas.Bool.Decides.{nat_tests}
use Rattle.std.proofs.lemmas.Bool.{and_from, eq-eqb, eqb-true, or_left}
use Rattle.std.specs.Prelude.{◌&&◌, ◌||◌, ◌==◌, option_map}
use Rattle.lpc_base.specs.Rows.{count, every, first, given, has, passes, when, without, without_first}
use Rattle.lpc_base.proofs.RowWords.{count-append, every-append, every-change, every-more, every-push, every-without, first-passes, has_none-more, has_none-push, has_none-without, has_none-without_first, none-counted}
use Rattle.lpc_base.proofs.RowMaps.{every-both, every-first, every-none}
use Rattle.lpc_base.proofs.Births.{birth-same, birth-self, births-apart}
use Rattle.lpc_base.proofs.Bools.{first-true, second-true}
use Rattle.lpc_base.specs.declared.birth.Birth.{Birth}
use Rattle.lpc_base.specs.declared.status.TheConstants.{SUCCESS}
use Rattle.lpc_model.specs.declared.entry.CallName.{CallName}
use Rattle.lpc_model.specs.declared.entry.CallName.TheVariants.{NtListenPort, NtReplyWaitReceivePort}
use Rattle.lpc_model.specs.declared.entry.Entry.TheVariants as entry
use Rattle.lpc_model.specs.declared.entry.ObjectKind.{ObjectKind}
use Rattle.lpc_model.specs.declared.entry.ObjectKind.TheVariants as kind
use Rattle.lpc_model.specs.World.{Acceptance, Listen, MessageRow, Receive, WaitRow, World}
use Rattle.lpc_model.specs.Message.{asks, is_connection_request}
use Rattle.lpc_model.specs.Fields.{msg, receipt}
use Rattle.lpc_model.specs.Found.{is_listen, is_open, is_own_of, is_queued, is_queued_connect, is_receive, is_the, port_row, same_birth, waits_as, waits_at}
use Rattle.lpc_model.specs.Basics.{Accepts, Awaits, Basic, Dies, Empties, Enters, Frees, Receives, Takes, TakesConnect, Wakes, Withdraws, accepted, basic, freed, received, world_after, Leaves}
use Rattle.lpc_model.specs.Entering.{enter, given_steps, received_steps, shown, takes, woken}
use Rattle.lpc_model.specs.Tests.{is_client}
use Rattle.lpc_model.specs.OwnCalls.{HasOwnCalls, is_kind_of, waits_in_call}
use Rattle.lpc_model.specs.PlainConnects.{is_plain_connect}
use Rattle.lpc_model.specs.SoundWaits.{IsSoundWorld, has_come, is_joined, is_sound_wait, waiter_of}
use Rattle.lpc_model.specs.Lines.{ScriptLine}
use Rattle.lpc_model.proofs.Steps.Rows.{without_first-push}
use Rattle.lpc_model.proofs.Sound.Drops.{one_if}
use Rattle.lpc_model.proofs.Sound.Worlds.{by_kind}
use Rattle.lpc_model.specs.Accounts.{Receipt, shows_receipt, is_received, has_receipt, standing, waited_on}
use Rattle.lpc_model.proofs.Account.Balance.{AreBalanced, is_level, level-balanced}

-- in a world behind some steps of a line: no message stands on the queue on which a receive waits, and no connection request on
-- that on which a listen does, and its thread waited there before the line, in the call of its kind
abbrev pub waited_so : World → WaitRow → Bool
waited_so w x = is_the x.queue (waited_on w x.thread) && waits_in_call x

abbrev pub is_dry : World → World → WaitRow → Bool
is_dry w v x =
    not (is_receive x || is_listen x)
    || ((not (is_receive x && has (is_queued x.queue) v.messages) && not (is_listen x && has (is_queued_connect x.queue) v.messages)) && waited_so w x)

abbrev pub HasDryQueues : World → World → Type 0
HasDryQueues w v = every (is_dry w v) v.waits ≡ true

-- Steps that let no message in, and begin no receive and no listen
abbrev pub is_soft : Basic → Bool
is_soft (Enters m) = false
is_soft (Awaits x) = not (is_receive x || is_listen x)
is_soft b = true

less-dry : (w v u : World) (x : WaitRow) → (is_receive x ≡ true → has (is_queued x.queue) v.messages ≡ false → has (is_queued x.queue) u.messages ≡ false)
    → (is_listen x ≡ true → has (is_queued_connect x.queue) v.messages ≡ false → has (is_queued_connect x.queue) u.messages ≡ false) → is_dry w v x ≡ true → is_dry w u x ≡ true
less-dry w v u x = parts (is_receive x) (is_listen x) (has (is_queued x.queue) v.messages) (has (is_queued x.queue) u.messages) (has (is_queued_connect x.queue) v.messages) (has (is_queued_connect x.queue) u.messages) (waited_so w x)
  where
    parts : (r l a b c d e : Bool) → (r ≡ true → a ≡ false → b ≡ false) → (l ≡ true → c ≡ false → d ≡ false) → (not (r || l) || ((not (r && a) && not (l && c)) && e)) ≡ true → (not (r || l) || ((not (r && b) && not (l && d)) && e)) ≡ true
    parts false false a b c d e one two is = refl
    parts true false true b c d e one two is = absurd (cc)
    parts true false false b c d e one two is = let off = one refl refl in grind (arith, off, is)
    parts false true a b true d e one two is = absurd (cc)
    parts false true a b false d e one two is = let off = two refl refl in grind (arith, off, is)
    parts true true true b c d e one two is = absurd (cc)
    parts true true false b true d e one two is = absurd (cc)
    parts true true false b false d e one two is = let off = one refl refl in let none = two refl refl in grind (arith, off, none, is)

fewer-dry : (w v : World) (ms : List MessageRow) → ((q : Birth) → has (is_queued q) v.messages ≡ false → has (is_queued q) ms ≡ false) → ((q : Birth) → has (is_queued_connect q) v.messages ≡ false → has (is_queued_connect q) ms ≡ false)
    → HasDryQueues w v → HasDryQueues w (record v { messages = ms })
fewer-dry w v ms less none dry = every-more (is_dry w v) (is_dry w (record v { messages = ms })) (λ x. less-dry w v (record v { messages = ms }) x (λ _ off. less x.queue off) (λ _ off. none x.queue off)) v.waits dry

accepted-dry : (w v : World) (reply : Acceptance) (x : WaitRow) → is_dry w v x ≡ true → is_dry w v (accepted reply x) ≡ true
accepted-dry w v reply = by_kind (λ x. is_dry w v x ≡ true → is_dry w v (accepted reply x) ≡ true) (λ x m is. is) (λ x is. is) (λ x is. is) (λ x m offer is. refl) (λ x m r is. is) (λ x m is. is)

freed-dry : (w v : World) (k : ObjectKind) (b : Birth) → HasDryQueues w v → HasDryQueues w (freed v k b)
freed-dry w v kind.Port b dry = dry
freed-dry w v kind.Section b dry = dry
freed-dry w v kind.Token b dry = dry
freed-dry w v kind.Process b dry = dry
freed-dry w v kind.Thread b dry = dry

dry-step : (w v : World) (b : Basic) → is_soft b ≡ true → HasDryQueues w v → HasDryQueues w (basic v b)
dry-step w v (Wakes who call status fields) is dry = every-without (is_dry w v) (waits_as who) v.waits dry
dry-step w v (Leaves who) is dry = every-without (is_dry w v) (waits_as who) v.waits dry
dry-step w v (Dies who status) is dry = every-without (is_dry w v) (waits_as who) v.waits dry
dry-step w v (Awaits x) is dry = every-push (is_dry w v) v.waits x dry (or_left (not (is_receive x || is_listen x)) _ is)
dry-step w v (Receives who queue) is dry = every-change (is_dry w v) (waits_at who queue) received (λ x one. one) v.waits dry
dry-step w v (Accepts who reply) is dry = every-change (is_dry w v) (waits_as who) (accepted reply) (accepted-dry w v reply) v.waits dry
dry-step w v (Takes queue) is dry = fewer-dry w v (without_first (is_queued queue) v.messages) (λ q off. has_none-without_first (is_queued q) (is_queued queue) v.messages off) (λ q off. has_none-without_first (is_queued_connect q) (is_queued queue) v.messages off) dry
dry-step w v (TakesConnect queue) is dry = fewer-dry w v (without_first (is_queued_connect queue) v.messages) (λ q off. has_none-without_first (is_queued q) (is_queued_connect queue) v.messages off) (λ q off. has_none-without_first (is_queued_connect q) (is_queued_connect queue) v.messages off) dry
dry-step w v (Withdraws who) is dry = fewer-dry w v (without (is_own_of who) v.messages) (λ q off. has_none-without (is_queued q) (is_own_of who) v.messages off) (λ q off. has_none-without (is_queued_connect q) (is_own_of who) v.messages off) dry
dry-step w v (Empties queue) is dry = fewer-dry w v (without (is_queued queue) v.messages) (λ q off. has_none-without (is_queued q) (is_queued queue) v.messages off) (λ q off. has_none-without (is_queued_connect q) (is_queued queue) v.messages off) dry
dry-step w v (Frees o) is dry = freed-dry w v o.kind o.birth dry
dry-step w v (Enters m) is dry = absurd (cc)
dry-step w v b is dry = dry

pub dry-all : (w v : World) (bs : List Basic) → every is_soft bs ≡ true → HasDryQueues w v → HasDryQueues w (world_after v bs)
dry-all w v [] all dry = dry
dry-all w v (b ∷ bs) all dry =
    let here : is_soft b ≡ true = grind arith in
    let later : every is_soft bs ≡ true = grind arith in
    dry-all w (basic v b) bs later (dry-step w v b here dry)

-- A message that enters
soft-receipt : (m : MessageRow) → every is_soft (received_steps m) ≡ true
soft-receipt m = at (asks m.message)
  where
    at : (a : Bool) → every is_soft (when a (Receives m.message.header.client.thread m.queue ∷ [])) ≡ true
    at true = refl
    at false = refl

pub level-receipt : (m : MessageRow) → every is_level (received_steps m) ≡ true
level-receipt m = at (asks m.message)
  where
    at : (a : Bool) → every is_level (when a (Receives m.message.header.client.thread m.queue ∷ [])) ≡ true
    at true = refl
    at false = refl

pushed-off : (q : Birth) (ms : List MessageRow) (m : MessageRow) → same_birth m.queue q ≡ false → has (is_queued q) ms ≡ false → has (is_queued q) (ms ++ m ∷ []) ≡ false
pushed-off q ms m other off = has_none-push (is_queued q) ms m off other

pub count-one : {X : Type 0} (p : X → Bool) (x : X) → count p (x ∷ []) ≡ one_if (p x)
count-one p x = grind arith

pub one-each : {X Y : Type 0} (p : X → Bool) (q : Y → Bool) (x : X) (y : Y) → q y ≡ p x → (n : ℕ) → n + count p (x ∷ []) ≡ n + (count q (y ∷ []) + 0)
one-each p q x y same n = at (p x) refl
  where
    at : (b : Bool) → p x ≡ b → n + count p (x ∷ []) ≡ n + (count q (y ∷ []) + 0)
    at true is = let other = same ∙ is in grind (arith, is, other)
    at false is = let other = same ∙ is in grind (arith, is, other)

-- what is so of steps that let a message in: the balance, and dry queues behind them
module _ (s : Receipt) (w : World) (line : ScriptLine) where
  pub record IsEntered (v : World) (bs : List Basic) : Type 0 where
    pub balanced : AreBalanced s w line v bs
    pub dry : HasDryQueues w (world_after v bs)

  -- none takes it
  kept-dry : (v : World) (m : MessageRow) → first (takes m) v.waits ≡ None → HasDryQueues w v → HasDryQueues w (basic v (Enters m))
  kept-dry v m none dry = every-both (is_dry w v) (λ x. not (takes m x)) (is_dry w (basic v (Enters m))) one v.waits dry (every-none (takes m) v.waits none)
    where
      away : (r l c q : Bool) → not ((r || (l && c)) && q) ≡ true → r ≡ true → q ≡ false
      away r l c q is receives = grind arith

      apart : (r l c q : Bool) → not ((r || (l && c)) && q) ≡ true → l ≡ true → c ≡ true → q ≡ false
      apart r l c q is listens connects = grind arith

      request-off : (q : Birth) (c : Bool) → is_connection_request m.message ≡ c → (c ≡ true → same_birth q m.queue ≡ false) → (same_birth m.queue q && is_connection_request m.message) ≡ false
      request-off q true is off = let other = births-apart q m.queue (off refl) in grind (arith, other)
      request-off q false is off = grind (arith, is)

      one : (x : WaitRow) → is_dry w v x ≡ true → not (takes m x) ≡ true → is_dry w (basic v (Enters m)) x ≡ true
      one x dry off =
          less-dry w v (basic v (Enters m)) x
          (λ receives none. pushed-off x.queue v.messages m (births-apart x.queue m.queue (away (is_receive x) (is_listen x) (is_connection_request m.message) (same_birth x.queue m.queue) off receives)) none)
          (λ listens none. has_none-push (is_queued_connect x.queue) v.messages m none (request-off x.queue (is_connection_request m.message) refl (apart (is_receive x) (is_listen x) (is_connection_request m.message) (same_birth x.queue m.queue) off listens))) dry

  enter-none : (v : World) (m : MessageRow) → first (takes m) v.waits ≡ None → HasDryQueues w v → IsEntered v (Enters m ∷ [])
  enter-none v m none dry = record { balanced = level-balanced s w line v (Enters m ∷ []) refl; dry = kept-dry v m none dry }

  -- a receive takes it
  pub seen-as : (o : Option Birth) (m : MessageRow) → is_the m.queue o ≡ true → (is_the s.queue o && shows_receipt s NtReplyWaitReceivePort SUCCESS (receipt m)) ≡ has_receipt s m
  seen-as None m is = absurd (cc)
  seen-as (Some q) m is = let same : m.queue ≡ q = birth-same m.queue q is in rw (sym same) refl

  -- in its call
  seen-by : (call : CallName) (o : Option Birth) (m : MessageRow) → is_kind_of call Receive ≡ true → is_the m.queue o ≡ true → (is_the s.queue o && shows_receipt s call SUCCESS (receipt m)) ≡ has_receipt s m
  seen-by NtReplyWaitReceivePort o m own is = seen-as o m is
  seen-by call o m own is = absurd (cc)

  enter-receive : (v : World) (m : MessageRow) (x : WaitRow) → has (is_queued m.queue) v.messages ≡ false → is_the m.queue (waited_on w x.thread) ≡ true → is_kind_of x.call Receive ≡ true → HasDryQueues w v → IsEntered v (Enters m ∷ Takes m.queue ∷ received_steps m ++ woken SUCCESS (receipt m) x ∷ [])
  enter-receive v m x none its own dry =
      let u = basic (basic v (Enters m)) (Takes m.queue) in
      let rest = received_steps m ++ woken SUCCESS (receipt m) x ∷ [] in
      let all : without_first (is_queued m.queue) (v.messages ++ m ∷ []) ≡ v.messages = without_first-push (is_queued m.queue) v.messages m none (birth-self m.queue) in
      record {
        balanced = at (asks m.message) all;
        dry = dry-all w u rest (every-append is_soft (received_steps m) _ (soft-receipt m) refl) (fewer-dry w v (without_first (is_queued m.queue) (v.messages ++ m ∷ [])) (λ q off. rw all off) (λ q off. rw all off) dry);
      }
    where
      -- it stands, and is shown then
      shown-once : (n : ℕ) → (is_the s.queue (waited_on w x.thread) && shows_receipt s x.call SUCCESS (receipt m)) ≡ has_receipt s m → n + count (has_receipt s) (m ∷ []) ≡ n + (count (is_received s w line) (entry.Wakes x.thread x.call SUCCESS (receipt m) ∷ []) + 0)
      shown-once n same = one-each (has_receipt s) (is_received s w line) m (entry.Wakes x.thread x.call SUCCESS (receipt m)) same n

      at : (a : Bool) → without_first (is_queued m.queue) (v.messages ++ m ∷ []) ≡ v.messages → AreBalanced s w line v (Enters m ∷ Takes m.queue ∷ when a (Receives m.message.header.client.thread m.queue ∷ []) ++ woken SUCCESS (receipt m) x ∷ [])
      at true all = rw all (shown-once (standing s v) (seen-by x.call (waited_on w x.thread) m own its))
      at false all = rw all (shown-once (standing s v) (seen-by x.call (waited_on w x.thread) m own its))

  -- a listen takes it
  pub listened-as : (o : Option Birth) (m : MessageRow) → is_connection_request m.message ≡ true → is_plain_connect m ≡ true → is_the m.queue o ≡ true → (is_the s.queue o && shows_receipt s NtListenPort SUCCESS (msg m.message ∷ [])) ≡ has_receipt s m
  listened-as None m is plain its = absurd (cc)
  listened-as (Some q) m is plain its =
      let same : m.queue ≡ q = birth-same m.queue q its in
      let none : m.context ≡ 0 = eqb-true m.context 0 (none-given (is_connection_request m.message) (m.context == 0) is plain) in
      rw (sym same, none, zero-either s.context) refl
    where
      none-given : (c z : Bool) → c ≡ true → (not c || z) ≡ true → z ≡ true
      none-given c z is plain = grind arith

      zero-either : (n : ℕ) → (n == 0) ≡ (0 == n)
      zero-either n = grind (arith, nat_tests)

  listened-by : (call : CallName) (o : Option Birth) (m : MessageRow) → is_kind_of call Listen ≡ true → is_connection_request m.message ≡ true → is_plain_connect m ≡ true → is_the m.queue o ≡ true → (is_the s.queue o && shows_receipt s call SUCCESS (msg m.message ∷ [])) ≡ has_receipt s m
  listened-by NtListenPort o m own is plain its = listened-as o m is plain its
  listened-by call o m own is plain its = absurd (cc)

  enter-listen : (v : World) (m : MessageRow) (x : WaitRow) → is_connection_request m.message ≡ true → is_plain_connect m ≡ true → has (is_queued_connect m.queue) v.messages ≡ false → is_the m.queue (waited_on w x.thread) ≡ true → is_kind_of x.call Listen ≡ true → HasDryQueues w v
      → IsEntered v (Enters m ∷ TakesConnect m.queue ∷ received_steps m ++ woken SUCCESS (msg m.message ∷ []) x ∷ [])
  enter-listen v m x connects plain none its own dry =
      let u = basic (basic v (Enters m)) (TakesConnect m.queue) in
      let rest = received_steps m ++ woken SUCCESS (msg m.message ∷ []) x ∷ [] in
      let all : without_first (is_queued_connect m.queue) (v.messages ++ m ∷ []) ≡ v.messages = without_first-push (is_queued_connect m.queue) v.messages m none (and_from (same_birth m.queue m.queue) (is_connection_request m.message) (birth-self m.queue) connects) in
      record {
        balanced = at (asks m.message) all;
        dry = dry-all w u rest (every-append is_soft (received_steps m) _ (soft-receipt m) refl) (fewer-dry w v (without_first (is_queued_connect m.queue) (v.messages ++ m ∷ [])) (λ q off. rw all off) (λ q off. rw all off) dry);
      }
    where
      shown-once : (n : ℕ) → (is_the s.queue (waited_on w x.thread) && shows_receipt s x.call SUCCESS (msg m.message ∷ [])) ≡ has_receipt s m → n + count (has_receipt s) (m ∷ []) ≡ n + (count (is_received s w line) (entry.Wakes x.thread x.call SUCCESS (msg m.message ∷ []) ∷ []) + 0)
      shown-once n same = one-each (has_receipt s) (is_received s w line) m (entry.Wakes x.thread x.call SUCCESS (msg m.message ∷ [])) same n

      at : (a : Bool) → without_first (is_queued_connect m.queue) (v.messages ++ m ∷ []) ≡ v.messages → AreBalanced s w line v (Enters m ∷ TakesConnect m.queue ∷ when a (Receives m.message.header.client.thread m.queue ∷ []) ++ woken SUCCESS (msg m.message ∷ []) x ∷ [])
      at true all = rw all (shown-once (standing s v) (listened-by x.call (waited_on w x.thread) m own connects plain its))
      at false all = rw all (shown-once (standing s v) (listened-by x.call (waited_on w x.thread) m own connects plain its))

  -- one that waits there does, which has waited longest
  enter-given : (v : World) (m : MessageRow) (x : WaitRow) → is_plain_connect m ≡ true → takes m x ≡ true → is_dry w v x ≡ true → HasDryQueues w v → IsEntered v (Enters m ∷ given_steps x m ++ woken SUCCESS (shown x m) x ∷ [])
  enter-given v m x plain =
      by_kind (λ x. takes m x ≡ true → is_dry w v x ≡ true → HasDryQueues w v → IsEntered v (Enters m ∷ given_steps x m ++ woken SUCCESS (shown x m) x ∷ []))
      (λ x r is one dry. absurd (cc))
      (λ x is one dry.
      let same : x.queue ≡ m.queue = birth-same x.queue m.queue is in
      let none = off-part (has (is_queued x.queue) v.messages) (is_the x.queue (waited_on w x.thread)) (is_kind_of x.call Receive) one in
      let its = second-part (has (is_queued x.queue) v.messages) (is_the x.queue (waited_on w x.thread)) (is_kind_of x.call Receive) one in
      let own = third-part (has (is_queued x.queue) v.messages) (is_the x.queue (waited_on w x.thread)) (is_kind_of x.call Receive) one in
      enter-receive v m (record x { kind = Receive }) (subst (λ q. has (is_queued q) v.messages ≡ false) same none) (subst (λ q. is_the q (waited_on w x.thread) ≡ true) same its) own dry)
      (λ x is one dry.
      let asks = second-true (is_connection_request m.message) (same_birth x.queue m.queue) is in
      let same : x.queue ≡ m.queue = birth-same x.queue m.queue asks in
      let none = first-off (has (is_queued_connect x.queue) v.messages) (is_the x.queue (waited_on w x.thread)) (is_kind_of x.call Listen) one in
      let its = last-part (has (is_queued_connect x.queue) v.messages) (is_the x.queue (waited_on w x.thread)) (is_kind_of x.call Listen) one in
      let own = own-part (has (is_queued_connect x.queue) v.messages) (is_the x.queue (waited_on w x.thread)) (is_kind_of x.call Listen) one in
      enter-listen v m (record x { kind = Listen }) (first-true (is_connection_request m.message) (same_birth x.queue m.queue) is) plain
      (subst (λ q. has (is_queued_connect q) v.messages ≡ false) same none) (subst (λ q. is_the q (waited_on w x.thread) ≡ true) same its) own dry)
      (λ x r offer is one dry. absurd (cc))
      (λ x r reply is one dry. absurd (cc))
      (λ x r is one dry. absurd (cc)) x
    where
      off-part : (a b c : Bool) → ((not a && true) && (b && c)) ≡ true → a ≡ false
      off-part a b c is = grind arith

      second-part : (a b c : Bool) → ((not a && true) && (b && c)) ≡ true → b ≡ true
      second-part a b c is = grind arith

      third-part : (a b c : Bool) → ((not a && true) && (b && c)) ≡ true → c ≡ true
      third-part a b c is = grind arith

      first-off : (a b c : Bool) → (not a && (b && c)) ≡ true → a ≡ false
      first-off a b c is = grind arith

      last-part : (a b c : Bool) → (not a && (b && c)) ≡ true → b ≡ true
      last-part a b c is = grind arith

      own-part : (a b c : Bool) → (not a && (b && c)) ≡ true → c ≡ true
      own-part a b c is = grind arith

  pub entered : (v : World) (m : MessageRow) → is_plain_connect m ≡ true → HasDryQueues w v → IsEntered v (enter m v)
  entered v m plain dry = at (first (takes m) v.waits) refl
    where
      at : (o : Option WaitRow) → first (takes m) v.waits ≡ o → IsEntered v (Enters m ∷ given o (λ x. given_steps x m ++ woken SUCCESS (shown x m) x ∷ []))
      at None none = enter-none v m none dry
      at (Some x) found = enter-given v m x plain (first-passes (takes m) v.waits x found) (every-first (is_dry w v) (takes m) v.waits x dry found) dry

-- The world before a line has dry queues
first-behind : {X : Type 0} (p : X → Bool) (front : List X) (x : X) (xs : List X) → has p front ≡ false → p x ≡ true → first p (front ++ x ∷ xs) ≡ Some x
first-behind p [] x xs none is = rw is refl
first-behind p (y ∷ front) x xs none is =
    let off : p y ≡ false = grind arith in
    let later : has p front ≡ false = grind arith in
    rw off (first-behind p front x xs later is)

-- of the waits of a world each is the one of its thread
own-wait : (all front xs : List WaitRow) → ((n : ℕ) → count (waits_as n) all ≤ 1) → all ≡ front ++ xs → every (λ x. is_the x.queue (option_map (λ (y : WaitRow). y.queue) (first (waits_as x.thread) all))) xs ≡ true
own-wait all front [] once same = refl
own-wait all front (x ∷ xs) once same =
    let n = x.thread in
    let own : waits_as n x ≡ true = eq-eqb n n refl in
    let sum = count-append (waits_as n) front (x ∷ xs) in
    let most : count (waits_as n) (front ++ x ∷ xs) ≤ 1 = subst (λ ys. count (waits_as n) ys ≤ 1) same (once n) in
    let one : 1 ≤ count (waits_as n) (x ∷ xs) = counts-first (waits_as n) x xs own in
    let none : has (waits_as n) front ≡ false = none-counted (waits_as n) front (omega arith) in
    let found : first (waits_as n) all ≡ Some x = ap (first (waits_as n)) same ∙ first-behind (waits_as n) front x xs none own in
    and_from (is_the x.queue (option_map (λ (y : WaitRow). y.queue) (first (waits_as n) all))) _ (rw found (birth-self x.queue))
    (own-wait all (front ++ x ∷ []) xs once (same ∙ sym (append_assoc front (x ∷ []) xs)))
  where
    counts-first : (p : WaitRow → Bool) (x : WaitRow) (xs : List WaitRow) → p x ≡ true → 1 ≤ count p (x ∷ xs)
    counts-first p x xs is = grind (arith, is)

dry-sound : (w : World) (x : WaitRow) → is_sound_wait w x ≡ true → waited_so w x ≡ true → is_dry w w x ≡ true
dry-sound w =
    by_kind (λ x. is_sound_wait w x ≡ true → waited_so w x ≡ true → is_dry w w x ≡ true)
    (λ x m is own. refl)
    (λ x is own. receives x (come-part (is_client w (waiter_of x)) (is_open w x.port) (is_open w x.queue) (has_come w (record x { kind = Receive })) (passes (port_row w x.port) is_joined) is) own)
    (λ x is own. listens x (listen-part (is_client w (waiter_of x)) (is_open w x.port) (is_open w x.queue) (has_come w (record x { kind = Listen })) is) own) (λ x m offer is own. refl) (λ x m reply is own. refl) (λ x m is own. refl)
  where
    come-part : (c o q h j : Bool) → (c && (o && (q && (not h && j)))) ≡ true → h ≡ false
    come-part c o q h j is = grind arith

    listen-part : (c o q h : Bool) → (c && (o && (q && not h))) ≡ true → h ≡ false
    listen-part c o q h is = grind arith

    both : (a b : Bool) → a ≡ false → b ≡ true → ((not a && true) && b) ≡ true
    both a b one two = grind arith

    last : (a b : Bool) → a ≡ false → b ≡ true → (not a && b) ≡ true
    last a b one two = grind arith

    receives : (x : WaitRow) → has_come w (record x { kind = Receive }) ≡ false → waited_so w (record x { kind = Receive }) ≡ true → is_dry w w (record x { kind = Receive }) ≡ true
    receives x none own = both (has (is_queued x.queue) w.messages) (waited_so w (record x { kind = Receive })) (has_none-more (λ m. same_birth x.queue m.queue) (is_queued x.queue) (λ m off. births-apart x.queue m.queue off) w.messages none) own

    request-off : (a b c : Bool) → (c && a) ≡ false → (a ≡ false → b ≡ false) → (b && c) ≡ false
    request-off true b false off same = grind arith
    request-off true b true off same = absurd (cc)
    request-off false b c off same = let none = same refl in grind (arith, none)

    listens : (x : WaitRow) → has_come w (record x { kind = Listen }) ≡ false → waited_so w (record x { kind = Listen }) ≡ true → is_dry w w (record x { kind = Listen }) ≡ true
    listens x none own =
        last (has (is_queued_connect x.queue) w.messages) (waited_so w (record x { kind = Listen }))
        (has_none-more (λ m. is_connection_request m.message && same_birth x.queue m.queue) (is_queued_connect x.queue) (λ m off. request-off (same_birth x.queue m.queue) (same_birth m.queue x.queue) (is_connection_request m.message) off (λ other. births-apart x.queue m.queue other)) w.messages none) own

pub dry-first : (w : World) → IsSoundWorld w → HasOwnCalls w → HasDryQueues w w
dry-first w s own =
    let waited = every-both (λ x. is_the x.queue (waited_on w x.thread)) waits_in_call (waited_so w) (λ x one two. and_from _ _ one two) w.waits (own-wait w.waits [] w.waits s.once refl) own in
    every-both (is_sound_wait w) (waited_so w) (is_dry w w) (dry-sound w) w.waits s.waits waited
