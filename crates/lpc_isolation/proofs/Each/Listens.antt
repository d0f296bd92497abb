-- NtListenPort in a view.
use Rattle.std.proofs.Common.{◌≡◌, ℕ, List, [], ◌∷◌, Bool, true, false, cond, Option, Some, None, refl, ap, sym, subst, ◌∙◌, arith}
use Rattle.std.specs.Prelude.{◌==◌, Ok}
use Rattle.std.proofs.lemmas.Bool.{and_from, eqb-true}
use Rattle.lpc_base.specs.Rows.{every, first, given}
use Rattle.lpc_base.proofs.RowWords.{first-passes}
use Rattle.lpc_base.proofs.RowMaps.{every-first}
use Rattle.lpc_base.proofs.Bools.{first-true, same-number}
use Rattle.lpc_base.proofs.Births.{birth-same}
use Rattle.lpc_base.specs.declared.status.TheConstants.{SUCCESS}
use Rattle.lpc_model.specs.declared.entry.CallName.TheVariants.{NtListenPort}
use Rattle.lpc_model.specs.declared.entry.Entry.{Entry}
use Rattle.lpc_model.specs.declared.entry.Entry.TheVariants as entry
use Rattle.lpc_model.specs.Fields.{msg}
use Rattle.lpc_model.specs.World.{Birth, MessageRow, PortRow, ThreadRow, WaitRow, World}
use Rattle.lpc_model.specs.Found.{is_queued_connect, is_event}
use Rattle.lpc_model.specs.Basics.{Awaits, Basic, Tells, Dies, Dooms}
use Rattle.lpc_model.specs.Connect.{listen_steps, listen_wait, nt_listen_port}
use Rattle.lpc_model.specs.Entering.{take_connect_steps}
use Rattle.lpc_model.specs.Tests.{port_test}
use Rattle.lpc_model.specs.Circle.{Group, Whose, owner}
use Rattle.lpc_isolation.proofs.Views.Filters.{first-kept}
use Rattle.lpc_isolation.proofs.Views.View.{our_message, seen_port, view}
use Rattle.lpc_isolation.proofs.Views.Basics.{are_ours, basic-ours, run-ours}
use Rattle.lpc_isolation.proofs.Rows.Fair.{Fair, are_fair, is_fair_message, is_fair_wait, is_sent, home-of, is_home_wait, together}
use Rattle.lpc_isolation.proofs.Views.Seen.{bind-same, port_test-view}
use Rattle.lpc_isolation.proofs.Views.Apart.{are_apart}
use Rattle.lpc_isolation.proofs.Views.Callers.{Led, on_ok}
use Rattle.lpc_isolation.proofs.Views.Mine.{c-port_test}
use Rattle.lpc_isolation.proofs.Each.Sends.{Caller, Named, found-port}
use Rattle.lpc_isolation.proofs.Each.Takes.{IsFirst, c-first, is_readable, shown_process, shows-message, take_connect-apart, take_connect-fair, take_connect-gone, take_connect-ours, take_connect-silent}

-- a caller's own wait on a queue of its process
pub own-wait-fair : (m : Group) (c : ℕ) (x : WaitRow) → m c ≡ true → is_event x ≡ false → x.port.process ≡ x.process → x.queue.process ≡ x.process → is_fair_wait m c x ≡ true
own-wait-fair m c x c_in off port queue =
    let one : is_home_wait m x ≡ true = home-of m x off port in
    let two : (x.queue.process == x.process) ≡ true = rw queue (same-number x.process) in
    let in_q : m x.queue.process ≡ m x.process = ap m queue in
    let own_q : (x.queue.process == c) ≡ (x.process == c) = ap (λ p. p == c) queue in
    let mine : (x.process == c) ≡ true → m x.process ≡ true = λ is. ap m (eqb-true _ _ is) ∙ c_in in
    grind arith

-- what the queue has, in the words of its first message
pub listen-queue : (q : Birth) (w : World) (x : MessageRow) → first (is_queued_connect q) w.messages ≡ Some x → x.queue ≡ q
listen-queue q w x at = birth-same x.queue q (first-true _ _ (first-passes (is_queued_connect q) w.messages x at))

first-own : (q : Birth) (w : World) (x : MessageRow) → first (is_queued_connect q) w.messages ≡ Some x → IsFirst w (is_queued_connect x.queue) x
first-own q w x at = subst (λ b. first (is_queued_connect b) w.messages ≡ Some x) (sym (listen-queue q w x at)) at

-- fair and apart
pub listen-fair : (m : Group) (c : ℕ) (w : World) (by : ThreadRow) (p : PortRow) (o : Option MessageRow) → m c ≡ true → p.birth.process ≡ by.process → are_fair m c w (listen_steps by p.birth o) ≡ true
listen-fair m c w by p (Some x) c_in own = take_connect-fair m c w x
listen-fair m c w by p None c_in own = rw (own-wait-fair m c (listen_wait by p.birth) c_in refl own own) refl

pub listen-apart : (m : Group) (c : ℕ) (u : World) (d : Whose) (w : World) (by : ThreadRow) (p : PortRow) (o : Option MessageRow) → first (is_queued_connect p.birth) w.messages ≡ o → owner u by.number ≡ Some by.process → m by.process ≡ false → p.birth.process ≡ by.process → are_apart m c u d w (listen_steps by p.birth o) ≡ true
listen-apart m c u d w by p (Some x) at here out own = rw (here, out) (take_connect-apart m c u d w x (first-own p.birth w x at) (ap (λ (b : Birth). m b.process) (listen-queue p.birth w x at) ∙ ap m own ∙ out))
listen-apart m c u d w by p None at here out own = rw (here, out) refl

-- of another member than c, by what it was told
abbrev pub own_entry : List Basic → Entry
own_entry (Tells e ∷ bs) = e
own_entry (Dies who status ∷ bs) = entry.Died who status
own_entry (Dooms pid code ∷ bs) = entry.Died 0 SUCCESS
own_entry bs = entry.Busy 0

-- a call by which its process is to end tells nothing itself
abbrev pub tells_some : List Basic → Bool
tells_some (Dooms pid code ∷ bs) = false
tells_some bs = true

abbrev pub led_listened : Group → World → ThreadRow → PortRow → Entry → List Basic
led_listened m v by p (entry.Waits who call fields) = Awaits (listen_wait by p.birth) ∷ []
led_listened m v by p (entry.Answer who call status fields) = cond (m (shown_process fields)) (given (first (is_queued_connect p.birth) v.messages) take_connect_steps) []
led_listened m v by p e = []

abbrev pub led_listen : Group → World → ThreadRow → ℕ → Entry → List Basic
led_listen m v by handle e = on_ok (port_test v by handle) (λ p. led_listened m v by p e)

listened : (m : Group) (c : ℕ) (u : World) (d : Whose) (w : World) (by : ThreadRow) (p : PortRow) (o : Option MessageRow) → first (is_queued_connect p.birth) w.messages ≡ o → Caller m c u w by → every is_readable w.messages ≡ true → m by.process ≡ true → (by.process == c) ≡ false → p.birth.process ≡ by.process
    → Led m c u d w (listen_steps by p.birth o) (led_listened m (view m w) by (seen_port m p) (own_entry (listen_steps by p.birth o)))
listened m c u d w by p None at k readable by_in other own =
    let p_in : m p.birth.process ≡ true = ap m own ∙ by_in in
    record { world = basic-ours m w (Awaits (listen_wait by p.birth)) (and_from _ _ by_in p_in) refl; told = rw (k.here, other) refl }
listened m c u d w by p (Some x) at k readable by_in other own =
    let fair : is_fair_message m c x ≡ true = every-first (is_fair_message m c) (is_queued_connect p.birth) w.messages x k.fair.messages at in
    let shows : shown_process (msg x.message ∷ []) ≡ x.message.header.client.process = shows-message x (every-first is_readable (is_queued_connect p.birth) w.messages x readable at) in
    let sender : m (shown_process (msg x.message ∷ [])) ≡ m x.sender.process = ap m shows ∙ together m _ _ (first-true _ _ fair) in
    rw sender (whose (m x.sender.process) refl fair)
  where
    q_in : m x.queue.process ≡ true
    q_in = ap (λ (b : Birth). m b.process) (listen-queue p.birth w x at) ∙ ap m own ∙ by_in

    whose : (b : Bool) → m x.sender.process ≡ b → is_fair_message m c x ≡ true → Led m c u d w (Tells (entry.Answer by.number NtListenPort SUCCESS (msg x.message ∷ [])) ∷ take_connect_steps x) (cond b (given (first (is_queued_connect p.birth) (view m w).messages) take_connect_steps) [])
    whose true s_in fair =
        let ours : our_message m x ≡ true = and_from _ _ s_in q_in in
        rw (first-kept (our_message m) (is_queued_connect p.birth) w.messages x at ours) (record {
          world = run-ours m w (take_connect_steps x) (take_connect-ours m w x (first-own p.birth w x at) ours);
          told = rw (k.here, other) refl;
        })
    whose false out fair =
        let sent : is_sent u.used_threads x ≡ true = rw k.used (every-first (is_sent w.used_threads) (is_queued_connect p.birth) w.messages x k.fair.senders at) in
        record {
          world = take_connect-gone m c u w x k.owned sent fair (first-own p.birth w x at) out;
          told = rw (take_connect-silent x, k.here, other) refl;
        }

pub listen-led : (m : Group) (c : ℕ) (u : World) (d : Whose) (w : World) (by : ThreadRow) (handle : ℕ) (p : PortRow) (o : Option MessageRow) → first (is_queued_connect p.birth) w.messages ≡ o → Caller m c u w by → every is_readable w.messages ≡ true → m by.process ≡ true → (by.process == c) ≡ false → port_test w by handle ≡ Ok p
    → Led m c u d w (listen_steps by p.birth o) (led_listen m (view m w) by handle (own_entry (listen_steps by p.birth o)))
listen-led m c u d w by handle p o first k readable by_in other at =
    let named = found-port m c u w by handle p k at in
    rw (port_test-view m c w by handle k.fair by_in, at) (listened m c u d w by p o first k readable by_in other named.process)

-- of c
pub c-listen : (m : Group) (c : ℕ) (u w : World) (by : ThreadRow) (handle : ℕ) → Caller m c u w by → by.process ≡ c → nt_listen_port (view m w) by handle ≡ nt_listen_port w by handle
unfolding nt_listen_port
c-listen m c u w by handle k mine =
    rw (c-port_test m c w by handle k.c_in mine k.fair) (bind-same (port_test w by handle) _ _ (λ p at.
    let n : Named m c w by p = found-port m c u w by handle p k at in
    rw (c-first m c w p.birth (is_queued_connect p.birth) k.c_in k.fair (ap (λ b. b == c) (n.process ∙ mine) ∙ same-number c) (λ x is. first-true _ _ is)) refl))

pub c-listened-ours : (m : Group) (c : ℕ) (w : World) (by : ThreadRow) (p : PortRow) (o : Option MessageRow) → first (is_queued_connect p.birth) w.messages ≡ o → m c ≡ true → Fair m c w → by.process ≡ c → p.birth.process ≡ by.process → are_ours m w (listen_steps by p.birth o) ≡ true
c-listened-ours m c w by p None at c_in f mine own = rw (ap m mine ∙ c_in, ap m (own ∙ mine) ∙ c_in) refl
c-listened-ours m c w by p (Some x) at c_in f mine own =
    let queue : x.queue.process ≡ c = ap (λ (b : Birth). b.process) (listen-queue p.birth w x at) ∙ own ∙ mine in
    let fair : is_fair_message m c x ≡ true = every-first (is_fair_message m c) (is_queued_connect p.birth) w.messages x f.messages at in
    let q_c : (x.queue.process == c) ≡ true = ap (λ b. b == c) queue ∙ same-number c in
    let s_in : m x.sender.process ≡ true = grind arith in
    take_connect-ours m w x (first-own p.birth w x at) (and_from _ _ s_in (ap m queue ∙ c_in))
