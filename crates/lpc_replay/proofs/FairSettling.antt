-- What a line tells as the world settles is right: exceptions are handled by their frame handlers, connects end by the
-- end of another process, and requests and waits for messages as by any closing.
use Rattle.std.proofs.Common.{List, [], ap, inr, not, refl, subst, suc, sym, true, zero, ℕ, ◌++◌, ◌∙◌, ◌∷◌, ◌≡◌}
use Rattle.std.specs.List.{AllByRecursion}
use Rattle.std.specs.Prelude.{Contains, None, Option, Some, option_map}
use Rattle.std.proofs.lemmas.Bool.{eqb-true}
use Rattle.lpc_base.proofs.RowWords.{first-passes}
use Rattle.lpc_base.specs.declared.status.TheConstants.{PORT_CONNECTION_REFUSED}
use Rattle.lpc_model.specs.Basics.{Basic, first_code, left_by, world_after}
use Rattle.lpc_model.specs.Death.{code_status}
use Rattle.lpc_model.specs.Fields.{info}
use Rattle.lpc_model.specs.Found.{is_event, live_threads, waits_as}
use Rattle.lpc_model.specs.Lines.{ScriptLine}
use Rattle.lpc_model.specs.Raise.{Handled, Heard, Next, Unhandled, behind_chance, go_on, goes_on, raised_in, send_event}
use Rattle.lpc_model.specs.Settle.{and_then_on, doomed_processes, end_doomed, least, most_turns, settle, turn, turn_by, turns}
use Rattle.lpc_model.specs.World.{ProcessRow, Raised, ThreadRow, WaitRow, World}
use Rattle.lpc_model.proofs.Calls.Raising.{GoesOn, on-holds}
use Rattle.lpc_model.proofs.Settling.Settled.{IsReady, turn-ready}
use Rattle.lpc_model.proofs.Sound.Worlds.{by_kind}
use Rattle.lpc_model.proofs.Steps.Closing.{behind}
use Rattle.lpc_model.proofs.Steps.InTurn.{after-append}
use Rattle.lpc_replay.specs.Connects.{IsEndedByTurn, own_world, turned}
use Rattle.lpc_replay.specs.Ends.{IsEndedAsDoomed}
use Rattle.lpc_replay.specs.Raises.{IsHandledByTurn}
use Rattle.lpc_replay.proofs.Fair.{AreFair, AreRight, HasItsCall, HaveTheirCalls, IsRightStep, are_right, handled_wakes, steps_keep}
use Rattle.lpc_replay.proofs.FairClose.{connect_ends, contained, refusal_right}
use Rattle.lpc_replay.proofs.FairDying.{HasEnd}
use Rattle.lpc_replay.proofs.FairRaise.{behind_word, event_fair}
use Rattle.lpc_replay.proofs.FairTerminate.{end_fair}
use Rattle.lpc_replay.proofs.Holding.{all_append, all_filter, all_more, find_all}

-- Turns one behind the other
-- a turn, and then as many as before
turn_first : (n : ℕ) (s : World) (bs : List Basic) → turn s ≡ Some bs → behind (turns (suc n)) s ≡ behind (turns n) (world_after s bs)
turn_first n s bs is = rw is (after-append s bs (turns n (world_after s bs)))

turn_none : (n : ℕ) (s : World) → turn s ≡ None → behind (turns (suc n)) s ≡ s
turn_none n s is = rw is refl

-- as many turns, and then one more
pub turn_last : (n : ℕ) (s : World) (bs : List Basic) → turn (behind (turns n) s) ≡ Some bs → behind (turns (suc n)) s ≡ world_after (behind (turns n) s) bs
turn_last zero s bs is = turn_first zero s bs is
turn_last (suc n) s bs is = at (turn s) refl (λ u cs more. turn_last n u cs more)
  where
    at : (o : Option (List Basic)) → turn s ≡ o → ((u : World) (cs : List Basic) → turn (behind (turns n) u) ≡ Some cs → behind (turns (suc n)) u ≡ world_after (behind (turns n) u) cs) → behind (turns (suc (suc n))) s ≡ world_after (behind (turns (suc n)) s) bs
    at None none later = let some = subst (λ u. turn u ≡ Some bs) (turn_none n s none) is in absurd (cc)
    at (Some cs) some later =
        let u = world_after s cs in
        let same = turn_first n s cs some in
        turn_first (suc n) s cs some ∙ (later u bs (subst (λ v. turn v ≡ Some bs) same is) ∙ ap (λ v. world_after v bs) (sym same))

event_of : (x : WaitRow) (r : Raised) → raised_in x ≡ Some r → is_event x ≡ true
event_of = by_kind (λ x. (r : Raised) → raised_in x ≡ Some r → is_event x ≡ true) (λ x m r is. absurd (cc)) (λ x r is. absurd (cc)) (λ x r is. absurd (cc)) (λ x m offer r is. absurd (cc)) (λ x m a r is. absurd (cc)) (λ x e r is. refl)

-- the line is one in a world o, and its settling has come to some turn
module _ (o : World) (line : ScriptLine) where
  -- what is known of the world then
  pub record IsTurning (v : World) : Type 0 where
    pub ready : IsReady v
    pub calls : HaveTheirCalls v

  -- a marked event goes on
  on_right : (n tid : ℕ) (later : List ℕ) → (turned o line n).marks ≡ tid ∷ later → HaveTheirCalls (turned o line n) → AreRight o line (go_on tid (turned o line n))
  on_right n tid later marked calls = on-holds (AreRight o line) v tid tt (λ t x r g. at t x r g (behind_chance v x.process r.handled r.chance) refl)
    where
      v : World
      v = turned o line n

      at : (t : ThreadRow) (x : WaitRow) (r : Raised) → GoesOn v tid t x r → (next : Next) → behind_chance v x.process r.handled r.chance ≡ next → AreRight o line (goes_on t x r next v)
      at t x r g Handled is =
          let word = behind_word v x.process r.handled r.chance is in
          let own : x.thread ≡ tid = eqb-true x.thread tid (first-passes (waits_as tid) v.waits x g.waits) in
          let handled : IsHandledByTurn o line tid = record { before = n; later = later; wait = x; raised = r; marked = marked; waits = g.waits; is_event = g.raised; chance = word.0; handled = word.1 } in
          (handled_wakes o line x (event_of x r g.raised) (find_all HasItsCall (waits_as tid) v.waits x calls g.waits) (subst (IsHandledByTurn o line) (sym own) handled), tt)
      at t x r g (Heard h) is =
          let u = left_by x.thread v in
          (tt, are_right o line (send_event t r.code r.handled h u) (event_fair o line t r.code r.handled h u (all_filter HasItsCall (λ y. not (waits_as x.thread y)) v.waits calls)))
      at t x r g Unhandled is = (tt, (tt, tt))

  -- a process ends
  pub doomed_fair : (n : ℕ) (p : ProcessRow) → (turned o line n).marks ≡ [] → least (doomed_processes (turned o line n)) ≡ Some p → IsTurning (turned o line n) → AreFair o line (end_doomed p (turned o line n))
  unfolding end_doomed
  doomed_fair n p unmarked ends is =
      let v = turned o line n in
      let r = is.ready in
      end_fair o line v p.number (code_status (first_code 0 p.doom)) (live_threads v p.number) doomed r.safe is.calls (λ gone b x only q across.
      let ended : IsEndedByTurn o line x.thread PORT_CONNECTION_REFUSED (info [] ∷ []) = record {
        before = n;
        process = p;
        port = b;
        wait = x;
        unmarked = unmarked;
        ends_process = ends;
        opens = only.opens;
        alone = only.alone;
        waits = q.0.1;
        ends = across;
        its_wait = refl;
        other = q.1;
        refuses = refl;
        shows = refl;
      } in
      refusal_right o line x (connect_ends v b x across) q.0.0 (inr ended))
    where
      as_doomed : (t : ThreadRow) → Contains (live_threads (turned o line n) p.number) t → IsEndedAsDoomed o line t.number (code_status (first_code 0 p.doom))
      as_doomed t lives = record { before = n; process = p; thread = t; unmarked = unmarked; ends_process = ends; lives = lives; its_number = refl; its_code = refl }

      doomed : AllByRecursion (HasEnd o line (code_status (first_code 0 p.doom))) (live_threads (turned o line n) p.number)
      doomed = all_more (Contains (live_threads (turned o line n) p.number)) (HasEnd o line (code_status (first_code 0 p.doom))) (λ t lives. inr (as_doomed t lives)) (live_threads (turned o line n) p.number) (contained (live_threads (turned o line n) p.number))

  turn_right : (n : ℕ) (bs : List Basic) → turn (turned o line n) ≡ Some bs → IsTurning (turned o line n) → AreRight o line bs
  turn_right n bs some is = at v.marks refl some
    where
      v : World
      v = turned o line n

      by_process : (p : Option ProcessRow) → v.marks ≡ [] → least (doomed_processes v) ≡ p → option_map (λ p. end_doomed p v) p ≡ Some bs → AreRight o line bs
      by_process None unmarked none one = absurd (cc)
      by_process (Some p) unmarked found one = let same : end_doomed p v ≡ bs = cc in subst (AreRight o line) same (are_right o line (end_doomed p v) (doomed_fair n p unmarked found is))

      at : (ms : List ℕ) → v.marks ≡ ms → turn_by v ms ≡ Some bs → AreRight o line bs
      at [] unmarked one = by_process (least (doomed_processes v)) unmarked refl one
      at (tid ∷ later) marked one = let same : go_on tid v ≡ bs = cc in subst (AreRight o line) same (on_right n tid later marked is.calls)

  pub turned_after : (n : ℕ) (bs : List Basic) → turn (turned o line n) ≡ Some bs → IsTurning (turned o line n) → IsTurning (world_after (turned o line n) bs)
  turned_after n bs some is =
      let v = turned o line n in
      record { ready = turn-ready v bs some is.ready; calls = steps_keep o line v bs (turn_right n bs some is) is.calls }

  -- what holds of each turn holds of all of them, where it holds of steps one behind the other
  module _ (K : World → Type 0) (Q : World → List Basic → Type 0) (none : (v : World) → Q v []) (both : (v : World) (xs ys : List Basic) → Q v xs → Q (world_after v xs) ys → Q v (xs ++ ys)) (holds : (n : ℕ) (bs : List Basic) → turn (turned o line n) ≡ Some bs → K (turned o line n) → Q (turned o line n) bs)
      (kept : (n : ℕ) (bs : List Basic) → turn (turned o line n) ≡ Some bs → K (turned o line n) → K (world_after (turned o line n) bs)) where
    turns_hold : (k n : ℕ) → K (turned o line n) → Q (turned o line n) (turns k (turned o line n))
    turns_hold zero n is = none (turned o line n)
    turns_hold (suc k) n is = at (turn (turned o line n)) refl (λ m. turns_hold k m)
      where
        at : (p : Option (List Basic)) → turn (turned o line n) ≡ p → ((m : ℕ) → K (turned o line m) → Q (turned o line m) (turns k (turned o line m))) → Q (turned o line n) (and_then_on (turned o line n) p (turns k))
        at None nothing later = none (turned o line n)
        at (Some bs) some later =
            let u = world_after (turned o line n) bs in
            let same : turned o line (suc n) ≡ u = turn_last n (own_world o line) bs some in
            both (turned o line n) bs (turns k u) (holds n bs some is)
            (subst (λ v. Q v (turns k v)) same (later (suc n) (subst K (sym same) (kept n bs some is))))

    pub settle_holds : K (own_world o line) → Q (own_world o line) (settle (own_world o line))
    unfolding settle
    settle_holds is = turns_hold (most_turns (own_world o line)) 0 is

  pub settle_right : IsTurning (own_world o line) → AreRight o line (settle (own_world o line))
  settle_right = settle_holds IsTurning (λ v. AreRight o line) (λ v. tt) (λ v xs ys one two. all_append (IsRightStep o line) xs ys one two) turn_right turned_after
