-- What acts keep, settling keeps: a mark that goes on and a process that ends are acts one behind the other. So a law on
-- acts goes to the step of a line, with its sweep.
use Rattle.lpc_model.specs.declared.entry.ObjectKind.TheVariants as kind
use Rattle.std.proofs.Common.{List, Some, [], subst, sym, ℕ, ◌∷◌, ◌≡◌, ◌++◌, Bool, false, refl, true}
use Rattle.lpc_base.specs.declared.status.TheConstants.{SUCCESS}
use Rattle.lpc_model.proofs.Calls.Acts.{hearing, end-does, IsFirm, Law, keeps_on}
use Rattle.lpc_model.proofs.Calls.Lines.{Keep, LineLaw, line-does}
use Rattle.lpc_model.proofs.Calls.Raising.{GoesOn, IsHeard, IsHearing, WhereHeard, behind-holds, heard-routed, on-holds}
use Rattle.lpc_model.proofs.Settling.Loop.{settle-holds, turn-kept}
use Rattle.lpc_model.proofs.Settling.Settled.{IsReady, doomed-ready, on-ready, turn-ready, settles, settle-ready}
use Rattle.lpc_model.proofs.Steps.Closing.{behind}
use Rattle.lpc_model.proofs.Steps.Ending.{end-ending}
use Rattle.lpc_model.proofs.Steps.Sweep.{stepped, sweep_every}
use Rattle.lpc_model.specs.Basics.{Basic, Dooms, Leaves, Steps, doing, first_code, left_by, world_after, ◌▹◌, Frees, basic}
use Rattle.lpc_model.specs.Creation.{new_thread}
use Rattle.lpc_model.specs.Death.{code_status, end_threads}
use Rattle.lpc_model.specs.Found.{live_threads}
use Rattle.lpc_model.specs.Lines.{ScriptLine}
use Rattle.lpc_model.specs.Machine.{bare_steps, own_steps, step}
use Rattle.lpc_model.specs.Raise.{Handled, Heard, Hearing, Next, Unhandled, behind_chance, go_on, goes_on, hearing_at, send_event}
use Rattle.lpc_model.specs.Settle.{doomed_processes, end_doomed, least, settle, turn, IsSettled}
use Rattle.lpc_model.specs.SoundWaits.{IsSoundWorld}
use Rattle.lpc_model.specs.Sweep.{sweep}
use Rattle.lpc_model.specs.World.{Chance, ProcessRow, Raised, ThreadRow, WaitRow, World, LastDebug, LastException, ObjectKind}
use Rattle.lpc_model.proofs.Steps.InTurn.{after-append, steps-keep}

-- no thread: acts that no thread takes are those of any one
abbrev nobody : ThreadRow
nobody = new_thread 0 0 (record { maker = 0; ordinal = 0; process = 0 })

module _ (C K : World → Type 0) (P : World → List Basic → Type 0) (k : (by : ThreadRow) → Law by C K P) where
  -- the wait of a marked event ends untold, and its thread sends the next one, or its process is to end
  leaving : (w : World) (who : ℕ) (later : Steps) → P (left_by who w) (later (left_by who w)) → P w ((doing (Leaves who ∷ []) ▹ later) w)
  leaving w who later two = let a = k nobody in a.follows w (Leaves who ∷ []) (later (left_by who w)) (a.abandons w who) two

  still-heard : (w : World) (pid who : ℕ) (chance : Chance) (h : Hearing) → hearing_at w pid chance ≡ Some h → IsHeard (left_by who w) chance h
  still-heard w pid who chance h is = let heard = heard-routed w pid chance h is in let r = heard.route in record { route = record { from = r.from; to = r.to; answers = r.answers }; stands = heard.stands; way = heard.way; own_chance = heard.own_chance }

  pub goes-does : (w : World) (tid : ℕ) → P w (go_on tid w)
  goes-does w tid = on-holds (P w) w tid (let a = k nobody in a.nothing w) some
    where
      some : (t : ThreadRow) (x : WaitRow) (r : Raised) → GoesOn w tid t x r → P w (goes_on t x r (behind_chance w x.process r.handled r.chance) w)
      some t x r g =
          at (behind_chance w x.process r.handled r.chance)
          (behind-holds (IsHearing w x.process) w x.process r.handled r.chance (λ h _ is. record { chance = LastDebug; found = is }) (λ h _ is. record { chance = LastException; found = is }) (λ h _ is. record { chance = LastException; found = is }))
        where
          at : (n : Next) → WhereHeard (IsHearing w x.process) n → P w (goes_on t x r n w)
          at Handled is = let a = k t in a.wakes w SUCCESS [] x
          at (Heard h) is = leaving w x.thread (send_event t r.code r.handled h) (hearing t C K P (k t) (left_by x.thread w) r.code r.handled is.chance h (still-heard w x.process x.thread is.chance h is.found))
          at Unhandled is = let a = k t in a.follows w (Leaves x.thread ∷ []) (Dooms x.process r.code ∷ []) (a.abandons w x.thread) (a.dooms (left_by x.thread w) x.process r.code)

  pub doomed-does : (w : World) (p : ProcessRow) → IsFirm K w → P w (end_doomed p w)
  unfolding end_doomed
  doomed-does w p is = end-does nobody C K P (k nobody) p.number (code_status (first_code 0 p.doom)) (live_threads w p.number) w is

  -- what is ready to settle, and known besides
  abbrev Settling : World → Type 0
  Settling w = IsReady w × K w

  module _ (on : (w : World) (tid : ℕ) → IsReady w → K w → K (behind (go_on tid) w)) where
    doomed-known : (w : World) (p : ProcessRow) → K w → K (behind (end_doomed p) w)
    unfolding end_doomed
    doomed-known w p more = let a = k nobody in a.keeps w (end_threads p.number (code_status (first_code 0 p.doom)) (live_threads w p.number) w) (end-ending p.number (code_status (first_code 0 p.doom)) (live_threads w p.number) w) more

    kept : (w : World) (bs : List Basic) → turn w ≡ Some bs → Settling w → Settling (world_after w bs)
    kept w bs some is = (turn-ready w bs some is.0, (turn-kept Settling goes ends w bs some is).1)
      where
        goes : (w : World) (tid : ℕ) (later : List ℕ) → w.marks ≡ tid ∷ later → Settling w → Settling (behind (go_on tid) w)
        goes w tid later at is = (on-ready w tid later at is.0, on w tid is.0 is.1)

        ends : (w : World) (p : ProcessRow) → least (doomed_processes w) ≡ Some p → Settling w → Settling (behind (end_doomed p) w)
        ends w p at is = (doomed-ready w p is.0, doomed-known w p is.1)

    -- what acts keep, settling keeps
    pub settling-does : (w : World) → IsReady w → K w → P w (settle w)
    settling-does w r more =
        settle-holds Settling P (let a = k nobody in a.nothing) (let a = k nobody in a.follows) kept
        (λ w tid later at is. goes-does w tid)
        (λ w p at is. doomed-does w p (record { safe = (let r = is.0 in r.safe); known = is.1 })) w (r, more)

-- Lines
-- what a line's own steps and settling do, its steps before rows go do
pub bare-does : (P : World → List Basic → Type 0) → ((w : World) (xs ys : List Basic) → P w xs → P (world_after w xs) ys → P w (xs ++ ys)) → (w : World) (line : ScriptLine) → P w (own_steps line w) → P (world_after w (own_steps line w)) (settle (world_after w (own_steps line w))) → P w (bare_steps line w)
unfolding bare_steps
bare-does P both w line one two = both w (own_steps line w) (settle (world_after w (own_steps line w))) one two

pub bare-ready : (w : World) (line : ScriptLine) → IsReady (world_after w (own_steps line w)) → IsReady (world_after w (bare_steps line w))
unfolding bare_steps
bare-ready w line ready =
    let v = world_after w (own_steps line w) in
    subst IsReady (sym (after-append w (own_steps line w) (settle v))) (settle-ready v ready)

pub bare-settled : (w : World) (line : ScriptLine) → IsReady (world_after w (own_steps line w)) → IsSettled (world_after w (bare_steps line w))
unfolding bare_steps
bare-settled w line ready =
    let v = world_after w (own_steps line w) in
    subst IsSettled (sym (after-append w (own_steps line w) (settle v))) (settles v ready)

-- no event is marked then
pub bare-unmarked : (w : World) (line : ScriptLine) → IsReady (world_after w (own_steps line w)) → (world_after w (bare_steps line w)).marks ≡ []
bare-unmarked w line ready = let s = bare-settled w line ready in s.marks

-- and the sweep marks none
abbrev is_freeing : Basic → Bool
is_freeing (Frees o) = true
is_freeing b = false

free-marks : (w : World) (b : Basic) → is_freeing b ≡ true → w.marks ≡ [] → (basic w b).marks ≡ []
free-marks w (Frees o) is none = at o.kind
  where
    at : (k : ObjectKind) → (basic w (Frees (record { kind = k; birth = o.birth }))).marks ≡ []
    at kind.Port = none
    at kind.Section = none
    at kind.Token = none
    at kind.Process = none
    at kind.Thread = none
free-marks w b is none = absurd (cc)

pub marks-swept : (w : World) (line : ScriptLine) → (world_after w (bare_steps line w)).marks ≡ [] → (step w line).world.marks ≡ []
marks-swept w line none = stepped (λ v. v.marks ≡ []) w line (λ v is. steps-keep is_freeing (λ v. v.marks ≡ []) free-marks v (sweep v) (sweep_every is_freeing (λ _. refl) v) is) none

-- what each line keeps, and settling and the rows that go at its end, its step keeps
pub step-keeps : (C Q : World → Type 0) → LineLaw C (λ _. Keep Q) → ((v : World) → IsReady v → Q v → Q (behind settle v)) → ((v : World) → Q v → Q (world_after v (sweep v))) → (w : World) (line : ScriptLine) → IsSoundWorld w → C w → IsReady (world_after w (own_steps line w)) → Q w → Q (step w line).world
step-keeps C Q k settled sweeps w line s more r q =
    let v = world_after w (own_steps line w) in
    stepped Q w line sweeps (bare-does (Keep Q) (λ w xs ys one two. keeps_on Q w xs ys one two) w line (line-does C (λ _. Keep Q) k w s more line) (settled v r) q)
