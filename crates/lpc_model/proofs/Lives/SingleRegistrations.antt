-- The step of each line leaves each port registered once with a thread.
use Rattle.lpc_model.proofs.Settling.Keeps.{step-keeps}
use Rattle.lpc_model.proofs.Settling.Settled.{IsReady}
use Rattle.std.proofs.Common.{Bool, List, [], arith, false, length, not, refl, true, ◌++◌, ◌∷◌, ◌≡◌}
use Rattle.std.proofs.lemmas.Bool.{and_from}
use Rattle.std.proofs.lemmas.Bool.Decides.{nat_tests}
use Rattle.std.specs.Prelude.{◌&&◌, ◌||◌, ◌==◌}
use Rattle.lpc_base.specs.Rows.{every, has, without}
use Rattle.lpc_base.proofs.RowWords.{every-change, every-more, every-push, every-without, first-passes}
use Rattle.lpc_base.proofs.RowMaps.{every-both, every-change_to}
use Rattle.lpc_base.proofs.Bools.{first-true, second-true}
use Rattle.lpc_model.specs.declared.entry.ObjectKind.TheVariants as kind
use Rattle.lpc_model.specs.World.{Birth, ObjectKind, ThreadRow, World, ProcessRow}
use Rattle.lpc_model.specs.Found.{is_live_thread, is_thread, same_birth, live_threads}
use Rattle.lpc_model.specs.Basics.{AddsThread, Basic, Dies, DrawsIdentifier, DrawsOrdinal, Frees, Registers, Unregisters, basic, ended, freed, past_identifier, past_ordinal, registering, unregistering, world_after, Acts, acting, first_code}
use Rattle.lpc_model.specs.Deaths.{HasSingleRegistrations, are_different, registers_once}
use Rattle.lpc_model.specs.Lawful.{HasThreadsOnce}
use Rattle.lpc_model.specs.Lines.{ScriptLine}
use Rattle.lpc_model.specs.Machine.{step, own_steps}
use Rattle.lpc_model.specs.Register.{is_registered}
use Rattle.lpc_model.specs.SoundWaits.{IsSoundWorld}
use Rattle.lpc_model.specs.Sweep.{sweep}
use Rattle.lpc_model.proofs.Deaths.Deathless.{LifeLaw, is_mild, life-outcomes, AreMild}
use Rattle.lpc_model.proofs.Steps.Sweep.{sweep_every}
use Rattle.lpc_model.proofs.Steps.Ending.{answered_end, is_ending, steps-end, end-ending}
use Rattle.lpc_model.proofs.Calls.Lines.{Keep, LineLaw, passing-lines}
use Rattle.lpc_model.proofs.Steps.Rows.{lone}
use Rattle.lpc_model.proofs.Steps.InTurn.{steps-keep}
use Rattle.lpc_model.proofs.Calls.Usable.{CanCall}
use Rattle.lpc_model.proofs.Settling.Life.{on-mild}
use Rattle.lpc_model.proofs.Settling.Loop.{settle-kept}
use Rattle.lpc_model.proofs.Steps.Closing.{behind}
use Rattle.lpc_model.specs.Death.{code_status, end_threads}
use Rattle.lpc_model.specs.Raise.{go_on}
use Rattle.lpc_model.specs.Settle.{end_doomed, settle}

-- Ports that are different
pub different-less : (b : Birth) (bs : List Birth) → are_different bs ≡ true → are_different (without (same_birth b) bs) ≡ true
different-less b [] all = refl
different-less b (c ∷ bs) all = grind (arith, every-without (λ d. not (same_birth d c)) (same_birth b) bs, different-less b bs)

different-push : (b : Birth) (bs : List Birth) → every (λ c. not (same_birth b c)) bs ≡ true → are_different bs ≡ true → are_different (bs ++ b ∷ []) ≡ true
different-push b [] new all = refl
different-push b (c ∷ bs) new all = grind (arith, every-push (λ d. not (same_birth d c)) bs b, different-push b bs)

none-same : (b : Birth) (bs : List Birth) → has (same_birth b) bs ≡ false → every (λ c. not (same_birth b c)) bs ≡ true
none-same b [] none = refl
none-same b (c ∷ bs) none = grind (arith, none-same b bs)

-- Steps
-- a step registers no port
abbrev is_lasting : Basic → Bool
is_lasting (Registers who b) = false
is_lasting (AddsThread t) = registers_once t
is_lasting b = true

freed-single : (w : World) (k : ObjectKind) (b : Birth) → HasSingleRegistrations w → HasSingleRegistrations (freed w k b)
freed-single w kind.Thread b l = every-without registers_once (λ t. same_birth t.birth b) w.threads l
freed-single w e b l = l

single-step : (w : World) (b : Basic) → is_lasting b ≡ true → HasSingleRegistrations w → HasSingleRegistrations (basic w b)
single-step w (Dies who status) is l = every-change registers_once (is_thread who) ended (λ r was. was) w.threads l
single-step w (Registers who b) is l = absurd (cc)
single-step w (Unregisters who b) is l = every-change registers_once (is_thread who) (unregistering b) (λ r was. different-less b r.registrations was) w.threads l
single-step w (DrawsIdentifier who) is l = every-change registers_once (is_thread who) past_identifier (λ r was. was) w.threads l
single-step w (DrawsOrdinal who) is l = every-change registers_once (is_thread who) past_ordinal (λ r was. was) w.threads l
single-step w (Acts who own) is l = every-change registers_once (is_thread who) (acting own) (λ r was. was) w.threads l
single-step w (AddsThread t) is l = every-push registers_once w.threads t l is
single-step w (Frees o) is l = freed-single w o.kind o.birth l
single-step w b is l = l

single-all : (w : World) (bs : List Basic) → every is_lasting bs ≡ true → HasSingleRegistrations w → HasSingleRegistrations (world_after w bs)
single-all = steps-keep is_lasting HasSingleRegistrations single-step

fresh-once : (bs : List Birth) → (length bs == 0) ≡ true → are_different bs ≡ true
fresh-once [] is = refl
fresh-once (b ∷ bs) is = absurd (grind (arith, nat_tests))

mild-lasting : (w : World) (b : Basic) → is_mild w b ≡ true → is_lasting b ≡ true
mild-lasting w (Registers who b) is = absurd (cc)
mild-lasting w (AddsThread t) is = fresh-once t.registrations (second-true t.live _ is)
mild-lasting w b is = refl

-- mild steps register no port twice
pub milds-single : (u : World) (bs : List Basic) → AreMild u bs → HasSingleRegistrations u → HasSingleRegistrations (world_after u bs)
milds-single u bs all = single-all u bs (every-more (is_mild u) is_lasting (mild-lasting u) bs all)

ending-lasting : (b : Basic) → is_ending b ≡ true → is_lasting b ≡ true
ending-lasting (Registers who b) is = absurd (cc)
ending-lasting (AddsThread t) is = absurd (cc)
ending-lasting b is = refl

-- Calls
-- a port that the caller hasn't registered
registered-single : (w : World) (by : ThreadRow) (b : Birth) → is_registered b by ≡ false → HasThreadsOnce w → CanCall w by → HasSingleRegistrations w → HasSingleRegistrations (basic w (Registers by.number b))
registered-single w by b off once c l =
    every-change_to (λ r. registers_once r && (not (is_thread by.number r) || is_new r)) registers_once (is_thread by.number) (registering b) (λ r was same. different-push b r.registrations (new (registers_once r) (is_thread by.number r) (is_new r) same was) (first-true (registers_once r) _ was)) (λ r was other. first-true (registers_once r) _ was) w.threads
    (every-both registers_once (λ r. not (is_thread by.number r) || is_new r) (λ r. registers_once r && (not (is_thread by.number r) || is_new r)) (λ r one two. and_from (registers_once r) _ one two) w.threads l
    (lone (is_thread by.number) is_new (is_live_thread by.number) w.threads by (once by.number) c.lives (first-true (is_thread by.number by) by.live (first-passes (is_live_thread by.number) w.threads by c.lives)) (none-same b by.registrations off)))
  where
    is_new : ThreadRow → Bool
    is_new r = every (λ c. not (same_birth b c)) r.registrations

    new : (l n f : Bool) → n ≡ true → (l && (not n || f)) ≡ true → f ≡ true
    new l n f same is = grind arith

single-law : (by : ThreadRow) → LifeLaw by HasThreadsOnce (Keep HasSingleRegistrations)
single-law by = record {
  mild = milds-single;
  registers = λ w b new is. registered-single w by b new is.known is.can;
  ends = λ w name own pid code ts doomed is. let bs = answered_end by name own pid code ts w in single-all w bs (every-more is_ending is_lasting ending-lasting bs (steps-end w by name own pid code ts));
}

-- Lines
pub single-lines : LineLaw HasThreadsOnce (λ _. Keep HasSingleRegistrations)
single-lines = passing-lines HasThreadsOnce (Keep HasSingleRegistrations) (λ _. is_lasting) single-all (λ w. record { tells = λ _. refl; processes = λ _ _ _. refl; threads = λ _ _ _. refl; binds = λ _ _. refl; names = λ _. refl }) (λ by. life-outcomes by HasThreadsOnce (Keep HasSingleRegistrations) (single-law by))

pub doomed-single : (w : World) (p : ProcessRow) → HasSingleRegistrations w → HasSingleRegistrations (behind (end_doomed p) w)
unfolding end_doomed
doomed-single w p l = let bs = end_threads p.number (code_status (first_code 0 p.doom)) (live_threads w p.number) w in single-all w bs (every-more is_ending is_lasting ending-lasting bs (end-ending p.number (code_status (first_code 0 p.doom)) (live_threads w p.number) w)) l

-- the step of a line leaves each port registered once with a thread
pub single_step : (w : World) (line : ScriptLine) → IsSoundWorld w → HasThreadsOnce w → IsReady (world_after w (own_steps line w)) → HasSingleRegistrations w → HasSingleRegistrations (step w line).world
single_step w line s once ready = step-keeps HasThreadsOnce HasSingleRegistrations single-lines (λ v r. settle-kept-single v r) (λ v. single-all v (sweep v) (sweep_every is_lasting (λ _. refl) v)) w line s once ready
  where
    settle-kept-single : (v : World) → IsReady v → HasSingleRegistrations v → HasSingleRegistrations (behind settle v)
    settle-kept-single v r l = settle-kept HasSingleRegistrations (λ u tid later some is. milds-single u (go_on tid u) (on-mild u tid) is) (λ u p some is. doomed-single u p is) v l
