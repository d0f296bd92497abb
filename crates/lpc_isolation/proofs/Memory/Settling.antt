-- What is remembered of outsiders' connects stays right while a world settles: nobody connects then, and who sends an event
-- waits for no connect.
use Rattle.std.proofs.Common.{◌≡◌, ℕ, List, [], ◌∷◌, ◌++◌, Bool, true, false, cond, not, Option, Some, None, refl, sym, subst, ◌∙◌, arith}
use Rattle.std.specs.Prelude.{◌&&◌, ◌||◌, ◌==◌}
use Rattle.std.proofs.lemmas.Bool.{and_from, eqb-true, not-true}
use Rattle.lpc_base.specs.Rows.{every, first, given, without}
use Rattle.lpc_base.specs.declared.status.TheConstants.{SUCCESS}
use Rattle.lpc_base.proofs.Bools.{first-true, number-turned, second-true}
use Rattle.lpc_base.proofs.RowWords.{every-append, every-more, every-push, first-passes}
use Rattle.lpc_base.proofs.RowMaps.{every-both}
use Rattle.lpc_model.specs.declared.entry.Entry.{Entry}
use Rattle.lpc_model.specs.declared.entry.Entry.TheVariants as entry
use Rattle.lpc_model.specs.declared.entry.Field.{Field}
use Rattle.lpc_model.specs.Message.{asks}
use Rattle.lpc_model.specs.World.{Birth, Listen, MessageRow, ProcessRow, Raised, ThreadRow, WaitKind, WaitRow, World}
use Rattle.lpc_model.specs.Found.{is_offered, live_threads, wait_of, waits_as}
use Rattle.lpc_model.specs.Basics.{Basic, Dies, Leaves, Tells, Wakes, basic, entries_of, first_code, world_after}
use Rattle.lpc_model.specs.Death.{code_status}
use Rattle.lpc_model.specs.Entering.{enter, given_steps, shown, takes, woken}
use Rattle.lpc_model.specs.Raise.{Handled, Heard, Hearing, Next, Unhandled, behind_chance, event_begun, event_wait, go_on, goes_on}
use Rattle.lpc_model.specs.Settle.{end_doomed, settle}
use Rattle.lpc_model.specs.Circle.{Group}
use Rattle.lpc_model.proofs.Calls.Raising.{GoesOn, WhereHeard, on-holds}
use Rattle.lpc_model.proofs.Calls.Usable.{live-number}
use Rattle.lpc_model.proofs.Settling.Loop.{settle-holds, turn-kept}
use Rattle.lpc_model.proofs.Steps.InTurn.{after-append, entries-append}
use Rattle.lpc_isolation.proofs.Views.Apart.{absorb, given-entries}
use Rattle.lpc_isolation.proofs.Each.Raises.{Told, event_row}
use Rattle.lpc_isolation.proofs.Rows.Ids.{Numbered}
use Rattle.lpc_isolation.proofs.Memory.Heard.{Heard as Note, Reads, asks_as, entries_memo, entry_memo, heard_in, note, shown_header, takes_any, woken_memo}
use Rattle.lpc_isolation.proofs.Memory.Knows.{AllKnown, are_known, is_known, is_told}
use Rattle.lpc_isolation.proofs.Memory.Receptions.{enter-known, known-append}
use Rattle.lpc_isolation.proofs.Closings.Mild.{mild-known}
use Rattle.lpc_isolation.proofs.Closings.Shown.{are_shown, is_shown}
use Rattle.lpc_isolation.proofs.Endings.Threads.{ends-mild}
use Rattle.lpc_isolation.proofs.Endings.Lasting.{enter-lasting, is_lasting}
use Rattle.lpc_isolation.proofs.Endings.Turns.{Turning, event-told, left, turn-reads}
use Rattle.lpc_isolation.proofs.Endings.Settled.{ends-shown, ends-turning, on-turning}
use Rattle.lpc_isolation.proofs.Endings.Settling.{AreSettling, connects_not, doomed-settling, is_settling, lasting-settling, on-settling, settling-connects}

-- What is received
begun-connects : (w : World) (t : ThreadRow) (x : WaitRow) (code : ℕ) (handled : Bool) (h : Hearing) → x.thread ≡ t.number → every (connects_not t.number) (world_after w (Leaves x.thread ∷ event_begun t code handled h)).waits ≡ true
begun-connects w t x code handled h same =
    every-push (connects_not t.number) (without (waits_as x.thread) w.waits) (event_wait t code handled h) (subst (λ n. every (connects_not t.number) (without (waits_as n) w.waits) ≡ true) (sym same) (gone t.number w.waits)) (or-true (not (waits_as t.number (event_wait t code handled h))))
  where
    or-true : (a : Bool) → (a || true) ≡ true
    or-true true = refl
    or-true false = refl

    gone : (n : ℕ) (ws : List WaitRow) → every (connects_not n) (without (waits_as n) ws) ≡ true
    gone n [] = refl
    gone n (y ∷ ys) = grind (arith, gone n ys)

not-told : (m : Group) (memo : List Note) (n : ℕ) (ws : List WaitRow) → every (connects_not n) ws ≡ true → every (is_told m memo n) ws ≡ true
not-told m memo n ws all = every-more (connects_not n) (is_told m memo n) (λ x is. grind arith) ws all

on-known : (m : Group) (memo : List Note) (w : World) (tid : ℕ) → are_known m memo w (go_on tid w) ≡ true
on-known m memo w tid = on-holds (λ bs. are_known m memo w bs ≡ true) w tid refl (λ t x r g. at t x r (eqb-true x.thread tid (first-passes (waits_as tid) w.waits x g.waits) ∙ sym (live-number w tid t g.lives)) (behind_chance w x.process r.handled r.chance))
  where
    at : (t : ThreadRow) (x : WaitRow) (r : Raised) → x.thread ≡ t.number → (n : Next) → are_known m memo w (goes_on t x r n w) ≡ true
    at t x r same Handled = refl
    at t x r same Unhandled = refl
    at t x r same (Heard h) =
        let start : List Basic = Leaves x.thread ∷ event_begun t r.code r.handled h in
        let v : World = world_after w start in
        known-append m memo w start (enter (event_row t r.code h) v) refl
        (enter-known m memo v (event_row t r.code h) (λ z at asked. not-told m memo t.number v.waits (begun-connects w t x r.code r.handled h same)))

doomed-known : (m : Group) (memo : List Note) (w : World) (p : ProcessRow) → are_known m memo w (end_doomed p w) ≡ true
unfolding end_doomed
doomed-known m memo w p = mild-known m memo w (end_doomed p w) (ends-mild p.number (code_status (first_code 0 p.doom)) (live_threads w p.number) w)

pub settle-known : (m : Group) (memo : List Note) (w : World) → are_known m memo w (settle w) ≡ true
settle-known m memo w = settle-holds (λ _. Unit {0}) (λ w bs. are_known m memo w bs ≡ true) (λ w. refl) (λ w bs cs one two. known-append m memo w bs cs one two) (λ w bs is _. tt) (λ w tid later some _. on-known m memo w tid) (λ w p some _. doomed-known m memo w p) w tt

-- What is told
-- an entry by which nothing is noted, or an outsider that waits for no connect
abbrev pub is_harmless : World → Entry → Bool
is_harmless v (entry.Wakes who call status fields) = not (asks_as (shown_header fields).kind) || every (connects_not (shown_header fields).client.thread) v.waits
is_harmless v (entry.Answer who call status fields) = true
is_harmless v (entry.Waits who call fields) = true
is_harmless v (entry.Busy who) = true
is_harmless v (entry.NoThread who) = true
is_harmless v (entry.Died who status) = true
is_harmless v (entry.Directive name status) = true

note-harmless : (m : Group) (memo : List Note) (v : World) (n : ℕ) (q : Birth) → every (connects_not n) v.waits ≡ true → AllKnown m memo v → AllKnown m (record { thread = n; queue = q } ∷ memo) v
note-harmless m memo v n q none all = every-both (is_known m memo) (connects_not n) (is_known m (record { thread = n; queue = q } ∷ memo)) (λ x known off. at x (n == x.thread) refl known off) v.waits all none
  where
    at : (x : WaitRow) (b : Bool) → (n == x.thread) ≡ b → is_known m memo x ≡ true → connects_not n x ≡ true → is_known m (record { thread = n; queue = q } ∷ memo) x ≡ true
    at x true its known off =
        let back : waits_as n x ≡ true = sym (number-turned n x.thread) ∙ its in
        let none : is_offered x ≡ false = not-true (is_offered x) (let it : (not true || not (is_offered x)) ≡ true = rw back at off in it) in
        rw none refl
    at x false other known off = rw other known

woken-harmless : (m : Group) (memo : List Note) (v : World) (o : Option WaitRow) (fields : List Field) → (not (asks_as (shown_header fields).kind) || every (connects_not (shown_header fields).client.thread) v.waits) ≡ true → AllKnown m memo v → AllKnown m (woken_memo m o fields memo) v
woken-harmless m memo v None fields ok all = all
woken-harmless m memo v (Some x) fields ok all = at (takes_any x)
  where
    noted : (a b : Bool) → asks_as (shown_header fields).kind ≡ a → AllKnown m (note (a && b) (shown_header fields).client.thread x.queue memo) v
    noted false b is = all
    noted true false is = all
    noted true true is = note-harmless m memo v (shown_header fields).client.thread x.queue (let it : (not true || every (connects_not (shown_header fields).client.thread) v.waits) ≡ true = rw is at ok in it) all

    at : (b : Bool) → AllKnown m (cond b (heard_in m fields x.queue memo) memo) v
    at true = noted (asks_as (shown_header fields).kind) (not (m (shown_header fields).client.process)) refl
    at false = all

entry-harmless : (m : Group) (memo : List Note) (u v : World) (e : Entry) → is_harmless v e ≡ true → AllKnown m memo v → AllKnown m (entry_memo m u memo e) v
entry-harmless m memo u v (entry.Wakes who call status fields) ok all = woken-harmless m memo v (wait_of u who) fields ok all
entry-harmless m memo u v (entry.Answer who call status fields) ok all = all
entry-harmless m memo u v (entry.Waits who call fields) ok all = all
entry-harmless m memo u v (entry.Busy who) ok all = all
entry-harmless m memo u v (entry.NoThread who) ok all = all
entry-harmless m memo u v (entry.Died who status) ok all = all
entry-harmless m memo u v (entry.Directive name status) ok all = all

pub entries-harmless : (m : Group) (memo : List Note) (u v : World) (es : List Entry) → every (is_harmless v) es ≡ true → AllKnown m memo v → AllKnown m (entries_memo m u memo es) v
entries-harmless m memo u v [] ok all = all
entries-harmless m memo u v (e ∷ es) ok all = entries-harmless m (entry_memo m u memo e) (absorb u e) v es (second-true (is_harmless v e) _ ok) (entry-harmless m memo u v e (first-true _ _ ok) all)

-- it stays so
harmless-more : (w : World) (bs : List Basic) → AreSettling bs → (e : Entry) → is_harmless w e ≡ true → is_harmless (world_after w bs) e ≡ true
harmless-more w bs ok (entry.Wakes who call status fields) is = at (asks_as (shown_header fields).kind) is
  where
    at : (a : Bool) → (not a || every (connects_not (shown_header fields).client.thread) w.waits) ≡ true → (not a || every (connects_not (shown_header fields).client.thread) (world_after w bs).waits) ≡ true
    at true is = settling-connects (shown_header fields).client.thread w bs ok is
    at false is = refl
harmless-more w bs ok (entry.Answer who call status fields) is = refl
harmless-more w bs ok (entry.Waits who call fields) is = refl
harmless-more w bs ok (entry.Busy who) is = refl
harmless-more w bs ok (entry.NoThread who) is = refl
harmless-more w bs ok (entry.Died who status) is = refl
harmless-more w bs ok (entry.Directive name status) is = refl

-- a process that ends shows nothing that asks
shown-harmless : (m : Group) (e : Bool) (v w : World) (bs : List Basic) → are_shown false m e w bs ≡ true → every (is_harmless v) (entries_of bs) ≡ true
shown-harmless m e v w [] is = refl
shown-harmless m e v w (Wakes who call status fields ∷ bs) is =
    let none : not (asks_as (shown_header fields).kind) ≡ true = first-true _ _ (first-true _ _ is) in
    and_from _ _ (rw none refl) (shown-harmless m e v (basic w (Wakes who call status fields)) bs (second-true (is_shown false m e w (Wakes who call status fields)) _ is))
shown-harmless m e v w (Dies who status ∷ bs) is = shown-harmless m e v (basic w (Dies who status)) bs is
shown-harmless m e v w (Tells said ∷ bs) is = absurd (cc)
shown-harmless m e v w (b ∷ bs) is = shown-harmless m e v (basic w b) bs is

-- an event that goes on shows who sent it, at most
thread-shown : (y : MessageRow) (z : WaitRow) (sort : WaitKind) → z.kind ≡ sort → Reads y → (shown_header (shown z y)).client.thread ≡ y.message.header.client.thread
thread-shown y z Listen is r = rw is r.thread
thread-shown y z b is r = rw is r.thread

module _ (m : Group) (c : ℕ) (u : World) (numbered : Numbered u) where
  entered-harmless : (w v : World) (y : MessageRow) (o : Option WaitRow) → Reads y → every (connects_not y.message.header.client.thread) v.waits ≡ true → every (is_harmless v) (entries_of (given o (λ z. given_steps z y ++ woken SUCCESS (shown z y) z ∷ []))) ≡ true
  entered-harmless w v y None r none = refl
  entered-harmless w v y (Some z) r none =
      let own : every (connects_not (shown_header (shown z y)).client.thread) v.waits ≡ true = subst (λ n. every (connects_not n) v.waits ≡ true) (sym (thread-shown y z z.kind refl r)) none in
      rw (given-entries y z z.kind (asks y.message) (woken SUCCESS (shown z y) z) refl refl, own) (grind arith)

  goes-harmless : (w : World) (tid : ℕ) (k : Turning m c u w) (t : ThreadRow) (x : WaitRow) (r : Raised) (g : GoesOn w tid t x r) → every (is_harmless (world_after w (goes_on t x r (behind_chance w x.process r.handled r.chance) w))) (entries_of (goes_on t x r (behind_chance w x.process r.handled r.chance) w)) ≡ true
  goes-harmless w tid k t x r g = at (behind_chance w x.process r.handled r.chance) (event-told m c u w tid k t x r g numbered)
    where
      same : x.thread ≡ t.number
      same = eqb-true x.thread tid (first-passes (waits_as tid) w.waits x g.waits) ∙ sym (live-number w tid t g.lives)

      at : (n : Next) → WhereHeard (Told m c (left m c u w tid k t x r g) t.process) n → every (is_harmless (world_after w (goes_on t x r n w))) (entries_of (goes_on t x r n w)) ≡ true
      at Handled told = refl
      at Unhandled told = refl
      at (Heard h) told =
          let start : List Basic = Leaves x.thread ∷ event_begun t r.code r.handled h in
          let v : World = world_after w start in
          let y : MessageRow = event_row t r.code h in
          let last : World = world_after v (enter y v) in
          let none : every (connects_not t.number) last.waits ≡ true = settling-connects t.number v (enter y v) (every-more is_lasting is_settling lasting-settling (enter y v) (enter-lasting y v)) (begun-connects w t x r.code r.handled h same) in
          entered-harmless v last y (first (takes y) v.waits) (turn-reads m c u w tid k t x r g numbered h told) none

  ends-harmless : (w : World) (p : ProcessRow) → Turning m c u w → every (is_harmless (world_after w (end_doomed p w))) (entries_of (end_doomed p w)) ≡ true
  ends-harmless w p k = shown-harmless m (m p.number) (world_after w (end_doomed p w)) w (end_doomed p w) (ends-shown m c u w p k numbered (m p.number) refl)

  abbrev Harmless : World → List Basic → Type 0
  Harmless w bs = AreSettling bs × (every (is_harmless (world_after w bs)) (entries_of bs) ≡ true)

  both-harmless : (w : World) (bs cs : List Basic) → Harmless w bs → Harmless (world_after w bs) cs → Harmless w (bs ++ cs)
  both-harmless w bs cs p q = (
    every-append is_settling bs cs p.0 q.0,
    subst (λ v. every (is_harmless v) (entries_of (bs ++ cs)) ≡ true) (sym (after-append w bs cs))
        (subst (λ es. every (is_harmless (world_after (world_after w bs) cs)) es ≡ true) (sym (entries-append bs cs))
        (every-append (is_harmless (world_after (world_after w bs) cs)) (entries_of bs) (entries_of cs) (every-more (is_harmless (world_after w bs)) (is_harmless (world_after (world_after w bs) cs)) (harmless-more (world_after w bs) cs q.0) (entries_of bs) p.1) q.1)),
  )

  pub settle-harmless : (w : World) → Turning m c u w → every (is_harmless (world_after w (settle w))) (entries_of (settle w)) ≡ true
  settle-harmless w k =
      let h : Harmless w (settle w) = settle-holds (Turning m c u) Harmless (λ w. (refl, refl)) both-harmless
      (turn-kept (Turning m c u) (λ w tid later some k. on-turning m c u w tid later some k) (λ w p some k. ends-turning m c u w p k))
      (λ w tid later some k. (on-settling w tid, on-holds (λ bs. every (is_harmless (world_after w bs)) (entries_of bs) ≡ true) w tid refl (λ t x r g. goes-harmless w tid k t x r g)))
      (λ w p some k. (doomed-settling w p, ends-harmless w p k)) w k in
      h.1
