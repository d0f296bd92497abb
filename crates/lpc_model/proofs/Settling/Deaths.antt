-- The steps of a line tell of the threads that end by it, over settling too, each ending in its order.
use Rattle.std.proofs.Common.{List, None, Option, Some, [], ap, refl, subst, suc, sym, zero, ℕ, ◌++◌, ◌∙◌, ◌∷◌, ◌≡◌}
use Rattle.lpc_base.specs.Rows.{each, which}
use Rattle.lpc_model.proofs.Deaths.Deathless.{is_deathless, milds-deathless}
use Rattle.lpc_model.proofs.Deaths.Doomed.{live-found}
use Rattle.lpc_model.proofs.Deaths.Lines.{deathless-tells, end-deaths, leaves-both, line-deaths, posts-both, registrations-both, told-both}
use Rattle.lpc_model.proofs.Settling.Keeps.{bare-does}
use Rattle.lpc_model.proofs.Settling.Life.{doomed-once, on-mild, on-once}
use Rattle.lpc_model.proofs.Settling.Loop.{settle-holds, turn-kept}
use Rattle.lpc_model.proofs.Settling.Settled.{IsReady, doomed-ready, on-ready}
use Rattle.lpc_model.proofs.Steps.Sweep.{sweep_every}
use Rattle.lpc_model.specs.Basics.{Basic, first_code, posts_of, world_after}
use Rattle.lpc_model.specs.Death.{code_status}
use Rattle.lpc_model.specs.Deaths.{DeathsAreTold, OrderedIn, OrderedTurns, TellsDeaths, TellsEnds, deaths_posted, ending_registrations, is_died_post, leaves}
use Rattle.lpc_model.specs.Found.{live_threads}
use Rattle.lpc_model.specs.Lawful.{HasThreadsOnce}
use Rattle.lpc_model.specs.Lines.{ScriptLine}
use Rattle.lpc_model.specs.Machine.{bare_steps, own_steps}
use Rattle.lpc_model.specs.Raise.{go_on}
use Rattle.lpc_model.specs.Settle.{doomed_processes, end_doomed, least, most_turns, settle, turn, turn_by}
use Rattle.lpc_model.specs.SoundWaits.{IsSoundWorld}
use Rattle.lpc_model.specs.Sweep.{sweep}
use Rattle.lpc_model.specs.World.{ProcessRow, World}
use Rattle.std.specs.Prelude.{option_map}

ends-of : (w : World) (bs : List Basic) → TellsDeaths w bs → TellsEnds w bs
ends-of w bs t = record { told = t.told; registrations = t.registrations }

ends-both : (w : World) (xs ys : List Basic) → TellsEnds w xs → TellsEnds (world_after w xs) ys → TellsEnds w (xs ++ ys)
ends-both w xs ys one two = record {
  told = posts-both xs ys ∙ (ap (λ ms. ms ++ which is_died_post (posts_of ys)) one.told ∙ (ap (λ ms. deaths_posted w xs ++ ms) two.told ∙ sym (told-both w xs ys)));
  registrations = leaves-both xs ys ∙ (ap (λ rs. rs ++ each leaves ys) one.registrations ∙ (ap (λ rs. ending_registrations w xs ++ rs) two.registrations ∙ sym (registrations-both w xs ys)));
}

-- worlds that settle, in which a thread number has one row
record IsReadyOnce (w : World) : Type 0 where
  ready : IsReady w
  once : HasThreadsOnce w

turn-once : (w : World) (bs : List Basic) → turn w ≡ Some bs → IsReadyOnce w → IsReadyOnce (world_after w bs)
turn-once = turn-kept IsReadyOnce (λ w tid later some is. record { ready = on-ready w tid later some is.ready; once = on-once w tid is.once }) (λ w p some is. record { ready = doomed-ready w p is.ready; once = doomed-once w p is.ready is.once })

-- each ending, and each event that goes on
doomed-deaths : (w : World) (p : ProcessRow) → HasThreadsOnce w → TellsDeaths w (end_doomed p w)
unfolding end_doomed
doomed-deaths w p once = end-deaths p.number (code_status (first_code 0 p.doom)) (live_threads w p.number) w (live-found p.number [] w.threads once)

on-deaths : (w : World) (tid : ℕ) → TellsDeaths w (go_on tid w)
on-deaths w tid = deathless-tells w (go_on tid w) (milds-deathless w (go_on tid w) (on-mild w tid))

turn-deaths : (w : World) (bs : List Basic) → turn w ≡ Some bs → IsReadyOnce w → TellsDeaths w bs
turn-deaths w bs some is = told some
  where
    told : turn w ≡ Some bs → TellsDeaths w bs
    told = at w.marks refl
      where
        by_process : (o : Option ProcessRow) → least (doomed_processes w) ≡ o → option_map (λ p. end_doomed p w) o ≡ Some bs → TellsDeaths w bs
        by_process None none one = absurd (cc)
        by_process (Some p) found one = let same : end_doomed p w ≡ bs = cc in subst (TellsDeaths w) same (doomed-deaths w p is.once)

        at : (ms : List ℕ) → w.marks ≡ ms → turn_by w ms ≡ Some bs → TellsDeaths w bs
        at [] none one = by_process (least (doomed_processes w)) refl one
        at (tid ∷ later) marked one = let same : go_on tid w ≡ bs = cc in subst (TellsDeaths w) same (on-deaths w tid)

settle-ends : (w : World) → IsReadyOnce w → TellsEnds w (settle w)
settle-ends =
    settle-holds IsReadyOnce TellsEnds (λ w. record { told = refl; registrations = refl }) ends-both turn-once
    (λ w tid later some is. ends-of w (go_on tid w) (on-deaths w tid))
    (λ w p some is. ends-of w (end_doomed p w) (doomed-deaths w p is.once))

ordered : (n : ℕ) (w : World) → IsReadyOnce w → OrderedTurns n w
ordered zero w is = tt
ordered (suc n) w is = at (turn w) refl (λ v. ordered n v)
  where
    at : (o : Option (List Basic)) → turn w ≡ o → ((v : World) → IsReadyOnce v → OrderedTurns n v) → OrderedIn w o (OrderedTurns n)
    at None none later = tt
    at (Some bs) some later = let told = turn-deaths w bs some is in (told.order, later (world_after w bs) (turn-once w bs some is))

-- the steps of a line
pub deaths_told : (w : World) (line : ScriptLine) → IsSoundWorld w → HasThreadsOnce w → HasThreadsOnce (world_after w (own_steps line w)) → IsReady (world_after w (own_steps line w)) → DeathsAreTold w line
deaths_told w line s once after ready =
    let v = world_after w (own_steps line w) in
    let is : IsReadyOnce v = record { ready = ready; once = after } in
    let own = line-deaths w line s once in
    let bs = bare_steps line w in
    let bare = bare-does TellsEnds ends-both w line (ends-of w (own_steps line w) own) (settle-ends v is) in
    let u = world_after w bs in
    let swept = sweep_every is_deathless (λ _. refl) u in
    record {
      ends = ends-both w bs (sweep u) bare (ends-of u (sweep u) (deathless-tells u (sweep u) swept));
      order = own.order;
      turns = ordered (most_turns v) v is;
    }
