-- The steps by which threads end tell nothing of the caller's own: the call has no answer.
use Rattle.std.proofs.Common.{◌≡◌, ℕ, List, [], ◌∷◌, ◌++◌, Bool, true, false, not, Option, Some, None, refl, sym}
use Rattle.lpc_base.specs.Rows.{every, first, given, when}
use Rattle.lpc_base.specs.declared.status.Status.{Status}
use Rattle.lpc_base.specs.declared.status.TheConstants.{SUCCESS}
use Rattle.lpc_base.proofs.RowWords.{every-append}
use Rattle.lpc_base.proofs.Bools.{second-true}
use Rattle.lpc_model.specs.declared.entry.Outcome.TheVariants as outcome
use Rattle.lpc_model.specs.World.{Birth, HandleRow, MessageRow, PortRow, ThreadRow, WaitRow, World}
use Rattle.lpc_model.specs.Basics.{Basic, DropsHandle, DropsOwned, Empties, LetsGo, Marks, Receives, Tells, Unbinds, Unregisters, Wakes, Withdraws, basic, in_turn, outcome_of}
use Rattle.lpc_model.specs.Close.{close_handle, close_port, is_last, post_closed, closing_post}
use Rattle.lpc_model.specs.Death.{die, end_process, end_threads, post_death, post_deaths, death_post}
use Rattle.lpc_model.specs.Entering.{enter, given_steps, received_steps, shown, takes, woken}
use Rattle.lpc_model.specs.Found.{handles_of, is_live, port_row}
use Rattle.lpc_model.specs.Message.{asks}
use Rattle.lpc_model.proofs.Steps.Closing.{close-pass, stage_five, takes_away}
use Rattle.lpc_model.proofs.Steps.Ending.{behind_dead, behind_told, die-pass, turn-pass}
use Rattle.lpc_model.proofs.Sound.Worlds.{by_kind}

-- a step that is no entry of the caller's own
abbrev is_mute : Basic → Bool
is_mute (Tells e) = false
is_mute b = true

abbrev AreMute : List Basic → Type 0
AreMute bs = every is_mute bs ≡ true

mute-outcome : (bs : List Basic) → AreMute bs → outcome_of bs ≡ outcome.Gone
mute-outcome [] all = refl
mute-outcome (Tells e ∷ bs) all = absurd (cc)
mute-outcome (b ∷ bs) all = mute-outcome bs (second-true (is_mute b) (every is_mute bs) all)

mute-away : (x : Basic) → takes_away x ≡ true → is_mute x ≡ true
mute-away (Wakes who call status fields) is = refl
mute-away (Withdraws who) is = refl
mute-away (Empties q) is = refl
mute-away (Unbinds b) is = refl
mute-away (DropsOwned b) is = refl
mute-away (Marks who) is = refl
mute-away x is = absurd (cc)

-- a message enters
mute-receipt : (m : MessageRow) → AreMute (received_steps m)
mute-receipt m = at (asks m.message)
  where
    at : (a : Bool) → every is_mute (when a (Receives m.message.header.client.thread m.queue ∷ [])) ≡ true
    at true = refl
    at false = refl

mute-given : (m : MessageRow) (x : WaitRow) → AreMute (given_steps x m ++ woken SUCCESS (shown x m) x ∷ [])
mute-given m x =
    by_kind (λ x. every is_mute (given_steps x m ++ woken SUCCESS (shown x m) x ∷ []) ≡ true)
    (λ x r. every-append is_mute (received_steps m) _ (mute-receipt m) refl)
    (λ x. every-append is_mute (received_steps m) _ (mute-receipt m) refl)
    (λ x. every-append is_mute (received_steps m) _ (mute-receipt m) refl)
    (λ x r offer. every-append is_mute (received_steps m) _ (mute-receipt m) refl)
    (λ x r reply. every-append is_mute (received_steps m) _ (mute-receipt m) refl)
    (λ x r. every-append is_mute (received_steps m) _ (mute-receipt m) refl) x

mute-enter : (m : MessageRow) (w : World) → AreMute (enter m w)
mute-enter m w = at (first (takes m) w.waits)
  where
    at : (o : Option WaitRow) → AreMute (given o (λ x. given_steps x m ++ woken SUCCESS (shown x m) x ∷ []))
    at None = refl
    at (Some x) = mute-given m x

mute-told : (o : Option MessageRow) (w : World) → AreMute (given o (λ m. enter m w))
mute-told None w = refl
mute-told (Some m) w = mute-enter m w

-- a handle is closed
mute-closed : (b : Birth) (w : World) → AreMute (post_closed b w)
mute-closed b w = at (port_row w b)
  where
    at : (o : Option PortRow) → AreMute (given o (λ p. given (closing_post w p) (λ m. enter m w)))
    at None = refl
    at (Some p) = mute-told (closing_post w p) w

mute-handle : (pid : ℕ) (r : HandleRow) (w : World) → AreMute (close_handle pid r w)
mute-handle pid r w = at (is_last r w)
  where
    at : (last : Bool) → AreMute (when last (close_port r.object.birth w) ++ DropsHandle pid r.value ∷ [])
    at true = every-append is_mute (close_port r.object.birth w) (DropsHandle pid r.value ∷ []) (close-pass is_mute mute-away r.object.birth w refl (mute-closed r.object.birth (stage_five w r.object.birth))) refl
    at false = refl

-- all of it
mute-death : (t : ThreadRow) (b : Birth) (w : World) → AreMute (post_death t b w)
mute-death t b w = mute-told (death_post (basic w (Unregisters t.number b)) t b) (basic w (Unregisters t.number b))

mute-end : (pid : ℕ) (code : Status) (ts : List ThreadRow) (w : World) → AreMute (end_threads pid code ts w)
unfolding end_threads
mute-end pid code ts w =
    let one = behind_dead code ts w in
    let two = behind_told code ts w in
    every-append is_mute (in_turn (die code) ts w) _ (turn-pass is_mute (die code) (λ t v. die-pass is_mute mute-away (λ n c. refl) (λ b. refl) code t v) ts w)
    (every-append is_mute (in_turn post_deaths ts one) _ (turn-pass is_mute post_deaths (λ t v. turn-pass is_mute (post_death t) (λ b u. mute-death t b u) t.registrations v) ts one)
    (at (not (is_live two pid)) two))
  where
    at : (last : Bool) (v : World) → AreMute (when last (end_process pid v))
    at true v =
        let u = basic v (LetsGo pid) in
        every-append is_mute (in_turn (close_handle pid) (handles_of u pid) u) _ (turn-pass is_mute (close_handle pid) (λ r x. mute-handle pid r x) (handles_of u pid) u) refl
    at false v = refl

pub ends-gone : (pid : ℕ) (code : Status) (ts : List ThreadRow) (w : World) → outcome.Gone ≡ outcome_of (end_threads pid code ts w)
ends-gone pid code ts w = sym (mute-outcome (end_threads pid code ts w) (mute-end pid code ts w))
