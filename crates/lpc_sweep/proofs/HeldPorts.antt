-- A port that no row counts for is named by no row at all, in a world that can be swept.
use Rattle.std.proofs.Common.{◌≡◌, List, [], ◌∷◌, ◌++◌, Bool, true, false, length, not, Option, Some, None, refl, ap, sym, subst, ◌∙◌, arith}
use Rattle.std.proofs.lemmas.Bool.{eqb-true, false_from_ne_true, not-true}
use Rattle.std.specs.Prelude.{◌||◌, ◌==◌, option_and_then}
use Rattle.lpc_base.specs.declared.birth.Birth.{Birth}
use Rattle.lpc_base.specs.Rows.{each, every, has, when}
use Rattle.lpc_names.specs.Binding.{has_name}
use Rattle.lpc_names.specs.Walk.{Bindings, LinkTo, Stands}
use Rattle.lpc_names.specs.declared.names.Found.TheVariants.{Directory, Item}
use Rattle.lpc_model.specs.World.{MessageRow, ObjectName, PortRow, ThreadRow, WaitRow, World}
use Rattle.lpc_model.specs.Found.{all_registrations, all_views, event_ports, handle_count, is_connected_to, is_made_on, is_open, is_owned_by, is_paired_to, is_port, is_queued, is_sent_on, is_the, pair_of, port_name, port_row, registered_by, same_birth}
use Rattle.lpc_model.specs.SoundWaits.{leads_open}
use Rattle.lpc_model.specs.Sweep.{is_unheld}
use Rattle.lpc_model.specs.Basics.{Frees, basic, freed}
use Rattle.lpc_model.specs.Deaths.{HasLivingRegistrations, has_living_registrations}
use Rattle.lpc_model.specs.declared.entry.ObjectKind.{ObjectKind}
use Rattle.lpc_model.specs.declared.entry.ObjectKind.TheVariants as kind
use Rattle.lpc_model.specs.Linked.{is_mutual}
use Rattle.lpc_base.proofs.RowMaps.{every-first}
use Rattle.lpc_base.proofs.RowWords.{every-without}
use Rattle.lpc_base.proofs.Births.{birth-same}
use Rattle.lpc_model.specs.OpenQueues.{HasOpenQueues}
use Rattle.lpc_model.proofs.Steps.Rows.{has-found}
use Rattle.lpc_model.proofs.Standing.Steps.{gone-names, unheld_no_queue}
use Rattle.lpc_model.proofs.Linked.Joins.{gone-linked}
use Rattle.lpc_model.proofs.Sound.Frees.{freed-sound}
use Rattle.lpc_model.proofs.Held.Events.{ports-freed}
use Rattle.lpc_model.proofs.Held.Ports.{unheld-parts}
use Rattle.lpc_rows.specs.Held.{is_event_port, is_joined_to, is_message_at, is_named, is_owner, is_registered_port, is_used, is_wait_at}
use Rattle.lpc_rows.proofs.Counted.{named-counted}
use Rattle.lpc_rows.proofs.Registered.{registrations}
use Rattle.lpc_sweep.specs.Sweeping.{CanSweep}

has_or : {X : Type 0} (p q : X → Bool) (xs : List X) → has (λ x. p x || q x) xs ≡ (has p xs || has q xs)
has_or p q [] = refl
has_or p q (x ∷ xs) = grind (arith, has_or p q xs)

-- Where threads that have ended have no registrations, those of live threads are all
none-registered : (bs : List Birth) → (length bs == 0) ≡ true → bs ≡ []
none-registered [] none = refl
none-registered (b ∷ bs) none = absurd (omega (arith, eqb-true (length (b ∷ bs)) 0 none))

registered-live : (ts : List ThreadRow) → every has_living_registrations ts ≡ true → each registrations ts ≡ each registered_by ts
registered-live [] all = refl
registered-live (t ∷ ts) all =
    let one : t.registrations ≡ when t.live t.registrations = at t.live t.registrations (grind arith) in
    let rest = registered-live ts (grind arith) in
    λ i. one i ++ rest i
  where
    at : (live : Bool) (bs : List Birth) → (live || (length bs == 0)) ≡ true → bs ≡ when live bs
    at true bs living = refl
    at false bs living = none-registered bs living

-- an open port has a handle
counted : (w : World) (b : Birth) → not (handle_count w (port_name b) == 0) ≡ is_open w b
counted w b = named-counted w (port_name b)

-- What is open is what names, and the queues of messages, are of
module _ (w : World) (b : Birth) (off : is_open w b ≡ false) where
  apart : (c : Birth) → is_open w c ≡ true → same_birth c b ≡ false
  apart c there = false_from_ne_true (same_birth c b) (λ is. let here : is_open w b ≡ true = subst (λ d. is_open w d ≡ true) (birth-same c b is) there in cc)

  no_queued : (ms : List MessageRow) → every (λ m. is_open w m.queue) ms ≡ true → has (is_queued b) ms ≡ false
  no_queued [] all = refl
  no_queued (m ∷ ms) all = grind (arith, apart m.queue, no_queued ms)

  no_named : (bs : Bindings Birth) → every (λ x. leads_open w x.1) bs ≡ true → has_name same_birth b bs ≡ false
  no_named [] all = refl
  no_named ((path, LinkTo target) ∷ bs) all = no_named bs all
  no_named ((path, Stands Directory) ∷ bs) all = no_named bs all
  no_named ((path, Stands (Item port)) ∷ bs) all = grind (arith, apart port, no_named bs)

-- The queue of no wait is that of a port that no row counts for
none_on : (b : Birth) (xs : List WaitRow) → every (λ x. not (same_birth x.queue b)) xs ≡ true → has (λ x. same_birth x.queue b) xs ≡ false
none_on b [] all = refl
none_on b (x ∷ xs) all = grind (arith, none_on b xs)

no_waiting : (w : World) (b : Birth) (held : Bool) → CanSweep w → is_unheld w (port_name b) ≡ not held → held ≡ false → has (λ x. same_birth x.queue b) w.waits ≡ false
no_waiting w b held can is none = none_on b w.waits (unheld_no_queue w b can.standing (is ∙ ap not none))

-- some row names the port exactly where one counts for it
pub held_as : (w : World) (b : Birth) → CanSweep w → is_named w b ≡ not (is_unheld w (port_name b))
held_as w b can = at (is_open w b) refl
  where
    parts : (h s m r v e p q : Bool) → not (not ((h || (s || (m || (r || (v || e))))) || (p || q))) ≡ ((h || (s || (m || (r || (v || e))))) || (p || q))
    parts h s m r v e p q = grind arith

    joins : (o p q s u m v n r w e h k : Bool) → h ≡ o → ((h || (s || (m || (r || (w || e))))) || (p || q)) ≡ k → (o ≡ false → (u ≡ false) × (n ≡ false)) → (k ≡ false → v ≡ false)
        → ((((o || ((p || q) || ((s || u) || ((m || v) || n)))) || r) || w) || e) ≡ ((h || (s || (m || (r || (w || e))))) || (p || q))
    joins true p q s u m v n r w e h k same held off quiet = grind arith
    joins false p q s u m v n r w e h true same held off quiet = let none = off refl in grind (arith, none.0, none.1)
    joins false p q s u m v n r w e h false same held off quiet = let none = off refl in grind (arith, none.0, none.1, quiet refl)

    at : (o : Bool) → is_open w b ≡ o → is_named w b ≡ not (is_unheld w (port_name b))
    at o is =
        let hs = not (handle_count w (port_name b) == 0) in
        let live = has (same_birth b) (all_registrations w) in
        let owned = has (is_owned_by b) (all_views w) in
        let heard = has (same_birth b) (event_ports w) in
        let held = (hs || (has (is_sent_on b) w.messages || (has (is_made_on b) w.waits || (live || (owned || heard))))) || (has (is_paired_to b) w.ports || has (is_connected_to b) w.ports) in
        rw (registered-live w.threads can.registrations, has_or (is_paired_to b) (is_connected_to b) w.ports, has_or (is_sent_on b) (is_queued b) w.messages, has_or (is_made_on b) (λ x. same_birth x.queue b) w.waits, unheld-parts w b)
        (joins (is_open w b) (has (is_paired_to b) w.ports) (has (is_connected_to b) w.ports) (has (is_sent_on b) w.messages) (has (is_queued b) w.messages) (has (is_made_on b) w.waits) (has (λ x. same_birth x.queue b) w.waits) (has_name same_birth b w.bindings) live owned heard hs held (counted w b) refl
        (λ off. (no_queued w b off w.messages can.queues.messages, no_named w b off w.bindings can.sound.names)) (no_waiting w b held can (unheld-parts w b))
        ∙ sym (parts hs (has (is_sent_on b) w.messages) (has (is_made_on b) w.waits) live owned heard (has (is_paired_to b) w.ports) (has (is_connected_to b) w.ports)))

-- and no name has to be asked for, since names lead to open ports
pub used_as : (w : World) (b : Birth) → CanSweep w → is_used w b ≡ not (is_unheld w (port_name b))
used_as w b can =
    less (is_open w b) (has (is_joined_to b) w.ports) (has (is_message_at b) w.messages) (has (is_wait_at b) w.waits) (has_name same_birth b w.bindings) (is_registered_port w b) (is_owner w b) (is_event_port w b)
    (λ off. no_named w b off w.bindings can.sound.names)
    ∙ held_as w b can
  where
    less : (o j m x n r v e : Bool) → (o ≡ false → n ≡ false) → ((((o || (j || (m || x))) || r) || v) || e) ≡ ((((o || (j || (m || (x || n)))) || r) || v) || e)
    less true j m x n r v e held = refl
    less false j m x n r v e held = let none = held refl in grind (arith, none)

-- a port with another end is held by it
paired_as : (w : World) (b : Birth) (o : Option PortRow) (q : Birth) → port_row w q ≡ o → is_the b (option_and_then (λ p. p.pair) o) ≡ true → has (is_paired_to b) w.ports ≡ true
paired_as w b None q found is = absurd (cc)
paired_as w b (Some r) q found is = has-found (is_paired_to b) (is_port q) w.ports r found is

pub paired_held : (w : World) (b q : Birth) (p : PortRow) → CanSweep w → port_row w b ≡ Some p → p.birth ≡ b → p.pair ≡ Some q → is_unheld w (port_name b) ≡ false
paired_held w b q p can found own pair =
    let both : is_mutual w p ≡ true = every-first (is_mutual w) (is_port b) w.ports p can.linked.pairs found in
    let back : is_the b (pair_of w q) ≡ true = rw (pair, own) at both in
    let paired : has (is_paired_to b) w.ports ≡ true = paired_as w b (port_row w q) q refl back in
    let joined : has (is_joined_to b) w.ports ≡ true = rw (has_or (is_paired_to b) (is_connected_to b) w.ports, paired) refl in
    let named : is_named w b ≡ true = grind (arith, joined) in
    not-true (is_unheld w (port_name b)) (sym (held_as w b can) ∙ named)

-- so the port that no row counts for can go
pub free_port : (w : World) (b : Birth) → CanSweep w → is_unheld w (port_name b) ≡ true → is_named w b ≡ false
free_port w b can none = held_as w b can ∙ ap not none

-- what goes leaves threads that have ended without registrations
living-freed : (w : World) (o : ObjectName) → HasLivingRegistrations w → HasLivingRegistrations (basic w (Frees o))
living-freed w o living = at o.kind o.birth
  where
    at : (k : ObjectKind) (b : Birth) → HasLivingRegistrations (freed w k b)
    at kind.Thread b = every-without has_living_registrations (λ t. same_birth t.birth b) w.threads living
    at e b = living

-- and queues open: no handle, no message and no wait goes
queues_freed : (w : World) (o : ObjectName) → HasOpenQueues w → HasOpenQueues (basic w (Frees o))
queues_freed w o q = at o.kind o.birth
  where
    at : (k : ObjectKind) (b : Birth) → HasOpenQueues (freed w k b)
    at kind.Port b = record { messages = q.messages; waits = q.waits; accepts = q.accepts }
    at kind.Section b = record { messages = q.messages; waits = q.waits; accepts = q.accepts }
    at kind.Token b = record { messages = q.messages; waits = q.waits; accepts = q.accepts }
    at kind.Process b = record { messages = q.messages; waits = q.waits; accepts = q.accepts }
    at kind.Thread b = record { messages = q.messages; waits = q.waits; accepts = q.accepts }

-- what no row counts for leaves a world that can be swept, where it goes
pub can_freed : (w : World) (o : ObjectName) → CanSweep w → is_unheld w o ≡ true → CanSweep (basic w (Frees o))
can_freed w o can none = record {
  sound = freed-sound w o none can.sound;
  linked = gone-linked w o none can.sound can.linked;
  queues = queues_freed w o can.queues;
  standing = gone-names w o none can.standing;
  registrations = living-freed w o can.registrations;
  ports = ports-freed w o none can.ports;
}
