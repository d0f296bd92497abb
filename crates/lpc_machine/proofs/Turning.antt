-- What a line's own steps leave of the world, each turn of settling keeps, and the sweep wants behind them.
use Rattle.std.proofs.Common.{◌≡◌, List, [], ◌∷◌, Bool, true, false, refl, subst, sym}
use Rattle.std.specs.Prelude.{ℕ, ◌||◌, Some}
use Rattle.lpc_base.specs.Rows.{every, has}
use Rattle.lpc_model.specs.declared.entry.ObjectKind.TheVariants as kind
use Rattle.lpc_model.specs.World.{HandleTable, MessageRow, ProcessRow, WaitRow, World}
use Rattle.lpc_model.specs.declared.entry.ObjectKind.{ObjectKind}
use Rattle.lpc_model.specs.Basics.{Basic, Frees, basic, first_code, world_after}
use Rattle.lpc_model.specs.Death.{code_status, end_threads}
use Rattle.lpc_model.specs.Deaths.{HasLivingRegistrations, HasSingleRegistrations}
use Rattle.lpc_model.specs.Found.{has_handle_to, is_taken, live_threads}
use Rattle.lpc_model.specs.Lawful.{HasThreadsOnce, IsLawfulWorld}
use Rattle.lpc_model.specs.Lines.{ScriptLine}
use Rattle.lpc_model.specs.Machine.{bare_steps, own_steps}
use Rattle.lpc_model.specs.OpenQueues.{HasOpenQueues}
use Rattle.lpc_model.specs.Raise.{go_on}
use Rattle.lpc_model.specs.Settle.{end_doomed, settle, turn}
use Rattle.lpc_model.specs.SingleClosings.{HasSingleClosings}
use Rattle.lpc_model.specs.Standing.{NamesWhatStands}
use Rattle.lpc_model.specs.Sweep.{sweep}
use Rattle.lpc_model.proofs.Calls.Lines.{AnyWorld, Keep, Shut, line-does}
use Rattle.lpc_model.proofs.Closings.SingleLines.{untold-law, untold_line}
use Rattle.lpc_model.proofs.Deaths.Doomed.{live-found}
use Rattle.lpc_model.proofs.Linked.Calls.{steady-all}
use Rattle.lpc_model.proofs.Linked.Lines.{ended-linked, line_linked}
use Rattle.lpc_model.proofs.Lives.Handles.{living_step}
use Rattle.lpc_model.proofs.Lives.Registrations.{end-living, living-lines, milds-living}
use Rattle.lpc_model.proofs.Lives.SingleRegistrations.{doomed-single, milds-single, single-lines}
use Rattle.lpc_model.proofs.Runs.{lawful-once, lawful-readied, lawful_step}
use Rattle.lpc_model.proofs.Settling.Keeps.{bare-unmarked, doomed-does, goes-does}
use Rattle.lpc_model.proofs.Settling.Life.{doomed-once, on-mild, on-once}
use Rattle.lpc_model.proofs.Settling.Loop.{settle-kept, turn-kept}
use Rattle.lpc_model.proofs.Settling.Settled.{IsReady, doomed-ready, on-ready}
use Rattle.lpc_model.proofs.Settling.Steady.{on-steady}
use Rattle.lpc_model.proofs.Sound.Terminate.{IsSafe}
use Rattle.lpc_model.proofs.Standing.Lines.{names-settles, names_line}
use Rattle.lpc_model.proofs.Standing.Steps.{NamesInside, inside, unmarked-names}
use Rattle.lpc_model.proofs.Steps.Closing.{behind}
use Rattle.lpc_model.proofs.Steps.Ending.{end-ending}
use Rattle.lpc_model.proofs.Steps.InTurn.{after-append, steps-keep}
use Rattle.lpc_model.proofs.Steps.Sweep.{stepped, sweep_every}
use Rattle.lpc_sweep.specs.Sweeping.{CanSweep}
use Rattle.lpc_machine.specs.Turning.{IsTurning}

-- such a world is ready to settle
safe-of : (w : World) → IsTurning w → IsSafe w
safe-of w t = let told = t.single_closings in record { sound = t.sound; shut = told.connects }

pub ready-of : (w : World) → IsTurning w → IsReady w
ready-of w t = record { safe = safe-of w t; marked = t.marked }

-- The turns
-- the event that was marked first goes on
pub goes-turning : (w : World) (tid : ℕ) (later : List ℕ) → w.marks ≡ tid ∷ later → IsTurning w → IsTurning (behind (go_on tid) w)
goes-turning w tid later at t =
    let ready = on-ready w tid later at (ready-of w t) in
    record {
      sound = ready.safe.sound;
      linked = steady-all w (go_on tid w) (on-steady w tid) t.linked;
      single_closings = goes-does (Shut NamesWhatStands) AnyWorld (Keep HasSingleClosings) untold-law w tid t.single_closings;
      threads = on-once w tid t.threads;
      registrations = milds-living w (go_on tid w) (on-mild w tid) t.registrations;
      single = milds-single w (go_on tid w) (on-mild w tid) t.single;
      marked = ready.marked;
    }

-- a process ends that is to end
pub ends-turning : (w : World) (p : ProcessRow) → IsTurning w → IsTurning (behind (end_doomed p) w)
unfolding end_doomed
ends-turning w p t =
    let ready = doomed-ready w p (ready-of w t) in
    let code = code_status (first_code 0 p.doom) in
    let threads = live_threads w p.number in
    record {
      sound = ready.safe.sound;
      linked = ended-linked w (end_threads p.number code threads w) (end-ending p.number code threads w) t.linked;
      single_closings = doomed-does (Shut NamesWhatStands) AnyWorld (Keep HasSingleClosings) untold-law w p (record { safe = safe-of w t; known = tt }) t.single_closings;
      threads = doomed-once w p (ready-of w t) t.threads;
      registrations = end-living p.number code threads w t.threads (live-found p.number [] w.threads t.threads) t.registrations;
      single = doomed-single w p t.single;
      marked = ready.marked;
    }

pub turn-turning : (w : World) (bs : List Basic) → turn w ≡ Some bs → IsTurning w → IsTurning (world_after w bs)
turn-turning = turn-kept IsTurning goes-turning (λ w p at t. ends-turning w p t)

-- Lines
-- a line's own steps leave such a world
pub own-turning : (w : World) (line : ScriptLine) → IsLawfulWorld w → IsTurning (world_after w (own_steps line w))
own-turning w line t =
    let ready = lawful-readied w line t in
    record {
      sound = ready.safe.sound;
      linked = line_linked w line t.sound t.linked;
      single_closings = untold_line w line t.sound t.names t.single_closings;
      threads = lawful-once w line t;
      registrations = line-does HasThreadsOnce (λ _. Keep HasLivingRegistrations) living-lines w t.sound t.threads line t.registrations;
      single = line-does HasThreadsOnce (λ _. Keep HasSingleRegistrations) single-lines w t.sound t.threads line t.single;
      marked = ready.marked;
    }

-- and so does settling
pub bare-turning : (w : World) (line : ScriptLine) → IsLawfulWorld w → IsTurning (world_after w (bare_steps line w))
unfolding bare_steps
bare-turning w line t =
    let v = world_after w (own_steps line w) in
    subst IsTurning (sym (after-append w (own_steps line w) (settle v))) (settle-kept IsTurning goes-turning (λ w p at t. ends-turning w p t) v (own-turning w line t))

-- The sweep takes no message, no wait and no handle away, so queues were open before it where they are behind it
abbrev is_freeing : Basic → Bool
is_freeing (Frees o) = true
is_freeing b = false

abbrev HasSame : World → World → Type 0
HasSame u v = (v.messages ≡ u.messages) × ((v.waits ≡ u.waits) × (v.handles ≡ u.handles))

freed-same : (u v : World) (b : Basic) → is_freeing b ≡ true → HasSame u v → HasSame u (basic v b)
freed-same u v (Frees o) is same = at o.kind
  where
    at : (k : ObjectKind) → HasSame u (basic v (Frees (record { kind = k; birth = o.birth })))
    at kind.Port = same
    at kind.Section = same
    at kind.Token = same
    at kind.Process = same
    at kind.Thread = same
freed-same u v b is same = absurd (cc)

queues-before : (u v : World) → HasSame u v → HasOpenQueues v → HasOpenQueues u
queues-before u v same q = record {
  messages = subst (λ (hs : List HandleTable). every (λ m. has (has_handle_to m.queue) hs) u.messages ≡ true) same.1.1 (subst (λ (ms : List MessageRow). every (λ m. has (has_handle_to m.queue) v.handles) ms ≡ true) same.0 q.messages);
  waits = subst (λ (hs : List HandleTable). every (λ x. x.received || has (has_handle_to x.queue) hs) u.waits ≡ true) same.1.1 (subst (λ (xs : List WaitRow). every (λ x. x.received || has (has_handle_to x.queue) v.handles) xs ≡ true) same.1.0 q.waits);
  accepts = subst (λ (xs : List WaitRow). every is_taken xs ≡ true) same.1.0 q.accepts;
}

names-behind : (w : World) (line : ScriptLine) → IsLawfulWorld w → NamesInside (world_after w (bare_steps line w))
unfolding bare_steps
names-behind w line t =
    let v = world_after w (own_steps line w) in
    let told = t.single_closings in
    subst NamesInside (sym (after-append w (own_steps line w) (settle v))) (names-settles v (lawful-readied w line t) (names_line w line t.sound told.connects t.linked t.sound_offers (inside w t.names)))

-- behind settling the world can be swept
pub can-sweep : (w : World) (line : ScriptLine) → IsLawfulWorld w → CanSweep (world_after w (bare_steps line w))
can-sweep w line t =
    let bare = world_after w (bare_steps line w) in
    let left = bare-turning w line t in
    let ready = lawful-readied w line t in
    let next = lawful_step w line t in
    let told = t.single_closings in
    let safe : IsSafe w = record { sound = t.sound; shut = told.connects } in
    let living = (living_step w line safe t.threads (lawful-once w line t) ready (record { handles = t.living; views = t.views; ports = t.ports })).0 in
    record {
      sound = left.sound;
      linked = left.linked;
      queues = queues-before bare _ (stepped (HasSame bare) w line (λ v same. steps-keep is_freeing (HasSame bare) (freed-same bare) v (sweep v) (sweep_every is_freeing (λ _. refl) v) same) (refl, (refl, refl))) next.queues;
      standing = unmarked-names bare (bare-unmarked w line ready) (names-behind w line t);
      registrations = left.registrations;
      ports = living.ports;
    }
