-- A thread that ends in a view, and what is posted on the ports that it registered.
use Rattle.std.proofs.Common.{◌≡◌, ℕ, List, [], ◌∷◌, ◌++◌, Bool, true, false, cond, not, Option, Some, None, refl, ap, sym, subst, ◌∙◌, arith}
use Rattle.std.specs.Prelude.{◌&&◌, ◌||◌, ◌==◌, option_and_then, option_map, is_some}
use Rattle.std.proofs.lemmas.Bool.{and_from, eqb-true}
use Rattle.lpc_base.specs.Rows.{every, first, given, when, without}
use Rattle.lpc_base.proofs.RowWords.{first-passes, every-without}
use Rattle.lpc_base.proofs.RowMaps.{every-first}
use Rattle.lpc_base.proofs.Bools.{first-true, same-number}
use Rattle.lpc_base.specs.declared.status.Status.{Status}
use Rattle.lpc_base.specs.declared.status.TheConstants.{SUCCESS}
use Rattle.lpc_model.specs.World.{Birth, MessageRow, PortRow, ThreadRow, WaitRow, World, Accepted, Connect, WaitKind}
use Rattle.lpc_model.specs.Found.{is_accepted, port_row, route, wait_of, waits_as, is_connect, is_event, is_mark, is_own_of}
use Rattle.lpc_model.specs.Basics.{Basic, Dies, Enters, Steps, Unregisters, Withdraws, basic, doing, entries_of, world_after, ◌▹◌, Wakes, Empties, Unbinds, DropsOwned, provided, Marks}
use Rattle.lpc_model.specs.Close.{cut_pair}
use Rattle.lpc_model.specs.Death.{end_client, die, died_message, post_death, death_post}
use Rattle.lpc_model.specs.Entering.{enter, row_of, takes, given_steps, woken, shown}
use Rattle.lpc_model.specs.Circle.{Group, Whose, owner}
use Rattle.lpc_model.proofs.Sound.Terminate.{IsSafe, die-safe, enter-safe, unregister-safe}
use Rattle.lpc_model.proofs.Steps.Closing.{takes_away}
use Rattle.lpc_model.proofs.Steps.Ending.{die-pass}
use Rattle.lpc_model.proofs.Steps.InTurn.{after-append}
use Rattle.lpc_model.proofs.Calls.Usable.{port-birth}
use Rattle.lpc_isolation.proofs.Views.View.{our_wait, seen_pair, seen_port, view}
use Rattle.lpc_isolation.proofs.Views.Basics.{sees_wait, sees_own}
use Rattle.lpc_isolation.proofs.Rows.Fair.{are_fair, implies, is_fair_message, is_fair_wait, is_sent, owner-sent, port-home, together-of}
use Rattle.lpc_isolation.proofs.Views.Seen.{port-view}
use Rattle.lpc_isolation.proofs.Views.Filters.{first-kept, first-none_kept}
use Rattle.lpc_isolation.proofs.Each.Enter.{enter-fair, enter-ours, enter-view}
use Rattle.lpc_isolation.proofs.Views.Apart.{are_apart, enter-apart, enter-gone, is_owned, unseen-at, unseen-wait, owned-by}
use Rattle.lpc_isolation.proofs.Views.Callers.{Led, led-same, unseen-thread, unseen-owned}
use Rattle.lpc_isolation.proofs.Each.Routes.{Right, context-view, right-row, route-view, routed-in, routed-out}
use Rattle.lpc_isolation.proofs.Plays.Play.{told_inputs}
use Rattle.lpc_isolation.proofs.Rows.Ways.{route-home}
use Rattle.lpc_isolation.proofs.Rows.Sent.{are_sent, is_sent_home, none-sent, sends_none}
use Rattle.lpc_isolation.proofs.Rows.Asked.{Asked, enter-asked, run-asked, basic-asked, is_quiet}
use Rattle.lpc_isolation.proofs.Rows.Ids.{Numbered, of_number}
use Rattle.lpc_isolation.proofs.Memory.Heard.{Heard, Reads, entries_memo, reads-of}
use Rattle.lpc_isolation.proofs.Gone.Thin.{Alive, Closed, wait_closed}
use Rattle.lpc_isolation.proofs.Gone.ThinCalls.{AreClosed, enter-closed, row-thin}
use Rattle.lpc_isolation.proofs.Closings.Mild.{AreMild, Sure, sure-losses, is_mild}
use Rattle.lpc_isolation.proofs.Closings.Lone.{own-seen, is_lone, lone-all}
use Rattle.lpc_isolation.proofs.Closings.Ends.{drawn-asked}
use Rattle.lpc_isolation.proofs.Closings.Stages.{kept}
use Rattle.lpc_isolation.proofs.Closings.Shown.{are_shown, enter-shown}
use Rattle.lpc_isolation.proofs.Closings.Posts.{entered-none, mild-entered, mute-entered}
use Rattle.lpc_isolation.proofs.Closings.Ports.{cut-off}
use Rattle.lpc_isolation.proofs.Endings.Parts.{Part, Remains, Steady, good-part, none-part, none-remains, provided-part, steady-after, then-part, then-remains, provided-remains}

-- The thread itself
-- it ends with its wait and its message
abbrev goes : ℕ → Status → Steps
goes n code = doing (Dies n code ∷ Withdraws n ∷ [])

-- the port of a wait is of the process
abbrev is_made_in : ℕ → Option WaitRow → Bool
is_made_in pid None = true
is_made_in pid (Some x) = is_event x || (x.port.process == pid)

-- and it stands
abbrev is_live_port : Alive → Option WaitRow → Bool
is_live_port k None = true
is_live_port k (Some x) = k.ports x.port

-- steps by which a closing takes rows away
away-mild : (x : Basic) → takes_away x ≡ true → is_mild x ≡ true
away-mild (Wakes who call status fields) is = refl
away-mild (Withdraws who) is = refl
away-mild (Marks who) is = refl
away-mild (Empties q) is = refl
away-mild (Unbinds b) is = refl
away-mild (DropsOwned b) is = refl
away-mild x is = absurd (cc)

away-none : (x : Basic) → takes_away x ≡ true → sends_none x ≡ true
away-none (Wakes who call status fields) is = refl
away-none (Withdraws who) is = refl
away-none (Marks who) is = refl
away-none (Empties q) is = refl
away-none (Unbinds b) is = refl
away-none (DropsOwned b) is = refl
away-none x is = absurd (cc)

pub die-mild : (code : Status) (t : ThreadRow) (w : World) → AreMild (die code t w)
die-mild code t w = die-pass is_mild away-mild (λ k status. refl) (λ b. refl) code t w

pub die-sent : (code : Status) (t : ThreadRow) (w : World) → are_sent w (die code t w) ≡ true
die-sent code t w = none-sent w (die code t w) (die-pass sends_none away-none (λ k status. refl) (λ b. refl) code t w)

-- an event is no connect
event-accepted : (x : WaitRow) (k : WaitKind) → x.kind ≡ k → is_event x ≡ true → is_accepted x ≡ false
event-accepted x (Accepted a r) k is = let off : false ≡ true = rw k at is in absurd (cc)
event-accepted x b k is = rw k refl

event-connect : (x : WaitRow) (k : WaitKind) → x.kind ≡ k → is_event x ≡ true → is_connect x ≡ false
event-connect x (Accepted a r) k is = let off : false ≡ true = rw k at is in absurd (cc)
event-connect x (Connect a offer) k is = let off : false ≡ true = rw k at is in absurd (cc)
event-connect x b k is = rw k refl

-- what is known of the owner of its number
module _ (m : Group) (c : ℕ) (u : World) (pid : ℕ) (c_in : m c ≡ true) (n : ℕ) (code : Status) (own : owner u n ≡ Some pid) where
  goes-asked : (w : World) → Asked w → Asked (world_after w (goes n code w))
  goes-asked w a = let b = drawn-asked w n a in record { sorts = b.sorts; own = b.own; one = b.one; marked = every-without (is_quiet (without (is_own_of n) w.messages)) (is_mark n) w.marks b.marked }

  goes-apart : (d : Whose) (w : World) → Sure m c u w → m pid ≡ false → are_apart m c u d w (goes n code w) ≡ true
  goes-apart d w s out =
      let waits = unseen-wait m u w n pid s.owned own out in
      rw (own, out, waits, unseen-thread m c w n pid s.fair (here w s) out, own-seen m c u w n s waits) refl
    where
      here : (w : World) → Sure m c u w → owner w n ≡ Some pid
      here w s = rw (sym s.used) own

  goes-mute : (d : Whose) (w : World) (memo : List Heard) → m pid ≡ false → entries_memo m (view m w) memo (told_inputs m c u d (entries_of (goes n code w))) ≡ memo
  goes-mute d w memo out = rw (own, out) refl

  goes-part : Part m c u pid (Sure m c u) (goes n code)
  goes-part = record {
    mild = λ w. refl;
    sent = λ w. refl;
    fair = λ w s. refl;
    asked = λ w s. goes-asked w s.asked;
    apart = goes-apart;
    mute = λ d w memo s k out. goes-mute d w memo out;
    shown = λ w s k e is. refl;
    led = λ d w s inside. led-same m c u d w (goes n code w) refl;
  }

  -- as much is known behind it
  goes-sure : (w : World) → Sure m c u w → Sure m c u (world_after w (goes n code w))
  goes-sure w s = sure-losses m c u (record { maker = 0; ordinal = 0; process = 0 }) w (goes n code w) refl s (goes-asked w s.asked)

  -- the views that its client port owns go
  own-part : (b : Birth) → b.process ≡ pid → Part m c u pid (Sure m c u) (doing (DropsOwned b ∷ []))
  own-part b home = record {
    mild = λ w. refl;
    sent = λ w. refl;
    fair = λ w s. refl;
    asked = λ w s. basic-asked w (DropsOwned b) refl s.asked;
    apart = λ d w s out. rw (unseen-owned m c w b s.fair (ap m home ∙ out)) refl;
    mute = λ d w memo s k out. refl;
    shown = λ w s k e is. refl;
    led = λ d w s inside. led-same m c u d w (DropsOwned b ∷ []) refl;
  }

  -- and then the client port of its connect is cut, where that was accepted, and its views go
  cut-part : (o : Option WaitRow) → is_made_in pid o ≡ true → Part m c u pid (Sure m c u) (end_client o)
  cut-part None is = none-part m c u pid c_in (Sure m c u) (λ w s. s)
  cut-part (Some x) is = by-kind (is_event x) refl
    where
      by-kind : (e : Bool) → is_event x ≡ e → Part m c u pid (Sure m c u) (end_client (Some x))
      by-kind true on =
          let accepted : is_accepted x ≡ false = event-accepted x x.kind refl on in
          let connect : is_connect x ≡ false = event-connect x x.kind refl on in
          subst (λ (f : Steps). Part m c u pid (Sure m c u) f) (sym (ap (λ e. provided (λ w. e) (cut_pair x.port) ▹ provided (λ w. is_connect x) (doing (DropsOwned x.port ∷ []))) accepted ∙ ap (λ e. provided (λ w. false) (cut_pair x.port) ▹ provided (λ w. e) (doing (DropsOwned x.port ∷ []))) connect))
          (none-part m c u pid c_in (Sure m c u) (λ w s. s))
      by-kind false off =
          let it : (false || (x.port.process == pid)) ≡ true = rw off at is in
          let home : x.port.process ≡ pid = eqb-true _ _ it in
          then-part m c u pid c_in (Sure m c u) (Sure m c u) (provided (λ w. is_accepted x) (cut_pair x.port)) (provided (λ w. is_connect x) (doing (DropsOwned x.port ∷ [])))
          (provided-part m c u pid c_in (Sure m c u) (λ w. is_accepted x) (cut_pair x.port) (λ w s. s) (λ w s inside. refl) (good-part m c u pid c_in x.port (cut_pair x.port) home (cut-off m c x.port).good))
          (λ w s. sure-cut w s (is_accepted x))
          (provided-part m c u pid c_in (Sure m c u) (λ w. is_connect x) (doing (DropsOwned x.port ∷ [])) (λ w s. s) (λ w s inside. refl) (own-part x.port home))
        where
          sure-cut : (w : World) → Sure m c u w → (e : Bool) → Sure m c u (world_after w (when e (cut_pair x.port w)))
          sure-cut w s true = kept m c x.port (cut_pair x.port) (cut-off m c x.port) u w s
          sure-cut w s false = s

  ending-part : (o : Option WaitRow) → is_made_in pid o ≡ true → Part m c u pid (Sure m c u) (goes n code ▹ end_client o)
  ending-part o is = then-part m c u pid c_in (Sure m c u) (Sure m c u) (goes n code) (end_client o) goes-part goes-sure (cut-part o is)

-- a thread that is its process's
module _ (m : Group) (c : ℕ) (u : World) (pid : ℕ) (c_in : m c ≡ true) (code : Status) (t : ThreadRow) (own : owner u t.number ≡ Some pid) where
  abbrev n : ℕ
  n = t.number

  found-known : (w : World) (x : WaitRow) → Sure m c u w → wait_of w n ≡ Some x → (is_fair_wait m c x ≡ true) × (x.process ≡ pid)
  found-known w x s at =
      let here : owner u x.thread ≡ Some pid = ap (owner u) (eqb-true x.thread n (first-passes (waits_as n) w.waits x at)) ∙ own in (
        every-first (is_fair_wait m c) (waits_as n) w.waits x s.fair.waits at,
        sym (owned-by u x pid here (every-first (is_owned u) (waits_as n) w.waits x s.owned at)),
      )

  its-wait : (w : World) → Sure m c u w → is_made_in pid (wait_of w n) ≡ true
  its-wait w s = at (wait_of w n) refl
    where
      at : (o : Option WaitRow) → wait_of w n ≡ o → is_made_in pid o ≡ true
      at None none = refl
      at (Some x) some = let k = found-known w x s some in by-kind x (is_event x) refl k.0 k.1
        where
          by-kind : (x : WaitRow) (e : Bool) → is_event x ≡ e → is_fair_wait m c x ≡ true → x.process ≡ pid → (is_event x || (x.port.process == pid)) ≡ true
          by-kind x true on fair its = rw on refl
          by-kind x false off fair its = rw (off, port-home m x off (first-true _ _ fair), its) (same-number pid)

  -- what a member's wait leaves to cut is seen in the view
  cut-seen : (w : World) → Sure m c u w → m pid ≡ true → (v : World) → end_client (wait_of (view m w) n) v ≡ end_client (wait_of w n) v
  cut-seen w s inside v = at (wait_of w n) refl
    where
      none-cut : (x : WaitRow) → is_fair_wait m c x ≡ true → m x.process ≡ true → our_wait m x ≡ false → is_accepted x ≡ false
      none-cut x fair x_in out = grind arith

      none-connect : (x : WaitRow) → is_fair_wait m c x ≡ true → m x.process ≡ true → our_wait m x ≡ false → is_connect x ≡ false
      none-connect x fair x_in out = grind arith

      gone : (x : WaitRow) → wait_of w n ≡ Some x → our_wait m x ≡ false → wait_of (view m w) n ≡ None
      gone x some out =
          let lone : is_lone m w x ≡ true = every-first (is_lone m w) (waits_as n) w.waits x (lone-all m c u w s) some in
          let thread : x.thread ≡ n = eqb-true x.thread n (first-passes (waits_as n) w.waits x some) in
          let unseen : sees_wait m w x.thread ≡ false = not-seen (sees_wait m w x.thread) (sees_own m w x.thread) (rw out at lone) in
          no-some (wait_of (view m w) n) (subst (λ k. sees_wait m w k ≡ false) thread unseen)
        where
          not-seen : (a b : Bool) → (false || (not a && not b)) ≡ true → a ≡ false
          not-seen a b is = grind arith

          no-some : (o : Option WaitRow) → is_some o ≡ false → o ≡ None
          no-some None is = refl
          no-some (Some y) is = absurd (cc)

      found : (x : WaitRow) → wait_of w n ≡ Some x → (e : Bool) → our_wait m x ≡ e → end_client (wait_of (view m w) n) v ≡ end_client (Some x) v
      found x some true ours = ap (λ o. end_client o v) (first-kept (our_wait m) (waits_as n) w.waits x some ours)
      found x some false out =
          let k = found-known w x s some in
          let off : is_accepted x ≡ false = none-cut x k.0 (ap m k.1 ∙ inside) out in
          ap (λ o. end_client o v) (gone x some out) ∙ sym (ap (λ e. when e (cut_pair x.port v) ++ when (is_connect x) (DropsOwned x.port ∷ [])) off
          ∙ ap (λ e. when e (DropsOwned x.port ∷ [])) (none-connect x k.0 (ap m k.1 ∙ inside) out))

      at : (o : Option WaitRow) → wait_of w n ≡ o → end_client (wait_of (view m w) n) v ≡ end_client o v
      at None none = ap (λ o. end_client o v) (first-none_kept (our_wait m) (waits_as n) w.waits none)
      at (Some x) some = found x some (our_wait m x) refl

  -- in each world it is one of these parts
  die-at : (w : World) → Steady m c u w → Part m c u pid (Sure m c u) (goes n code ▹ end_client (wait_of w n))
  die-at w k = ending-part m c u pid c_in n code own (wait_of w n) (its-wait w k.sure)

  die-view : (w : World) → Steady m c u w → m pid ≡ true → die code t (view m w) ≡ (goes n code ▹ end_client (wait_of w n)) (view m w)
  die-view w k inside = ap (λ bs. goes n code (view m w) ++ bs) (cut-seen w k.sure inside (world_after (view m w) (goes n code (view m w))))

  pub die-part : Part m c u pid (Steady m c u) (die code t)
  die-part = record {
    mild = die-mild code t;
    sent = die-sent code t;
    fair = λ w k. let p = die-at w k in p.fair w k.sure;
    asked = λ w k. let p = die-at w k in p.asked w k.sure;
    apart = λ d w k out. let p = die-at w k in p.apart d w k.sure out;
    mute = λ d w memo k s out. let p = die-at w k in p.mute d w memo k.sure s out;
    shown = λ w k s e is. let p = die-at w k in p.shown w k.sure s e is;
    led = λ d w k inside. let p = die-at w k in subst (Led m c u d w (die code t w)) (sym (die-view w k inside)) (p.led d w k.sure inside);
  }

  pub die-steady : (w : World) → Steady m c u w → Steady m c u (world_after w (die code t w))
  die-steady w k = steady-after m c u pid (Steady m c u) (die code t) die-part w k k.sure (die-safe code t w k.safe)

-- What is posted
-- a registration goes
abbrev leaves : ℕ → Birth → Steps
leaves n b = doing (Unregisters n b ∷ [])

abbrev tells : ThreadRow → Birth → Steps
tells t b w = given (death_post w t b) (λ y. enter y w)

abbrev died_row : ThreadRow → PortRow → Birth → MessageRow
died_row t p q = row_of q p (died_message t)

-- whatever holds of nothing, and of the message's entering, holds of what is posted
on-told : (P : List Basic → Type 0) (t : ThreadRow) (b : Birth) (w : World) → P [] → ((p : PortRow) (q : Birth) → port_row w b ≡ Some p → route w p ≡ Some q → P (enter (died_row t p q) w)) → P (tells t b w)
on-told P t b w none some = at (port_row w b) refl
  where
    routed : (p : PortRow) → port_row w b ≡ Some p → (o : Option Birth) → route w p ≡ o → P (given (option_map (λ q. died_row t p q) o) (λ y. enter y w))
    routed p row None to = none
    routed p row (Some q) to = some p q row to

    at : (o : Option PortRow) → port_row w b ≡ o → P (given (option_and_then (λ p. option_map (λ q. died_row t p q) (route w p)) o) (λ y. enter y w))
    at None row = none
    at (Some p) row = routed p row (route w p) refl

tells-mild : (t : ThreadRow) (b : Birth) (w : World) → AreMild (tells t b w)
tells-mild t b w = on-told AreMild t b w refl (λ p q row to. mild-entered (died_row t p q) (first (takes (died_row t p q)) w.waits) refl)

row-own : (w : World) (b : Birth) (p : PortRow) → port_row w b ≡ Some p → port_row w p.birth ≡ Some p
row-own w b p row = subst (λ b. port_row w b ≡ Some p) (sym (port-birth w b p row)) row

tells-sent : (t : ThreadRow) (b : Birth) (w : World) → are_sent w (tells t b w) ≡ true
tells-sent t b w = on-told (λ bs. are_sent w bs ≡ true) t b w refl (λ p q row to.
    let y : MessageRow = died_row t p q in
    let home : is_sent_home w y ≡ true = rw (row-own w b p row) (route-home w p q to) in
    and_from _ _ home (none-sent (basic w (Enters y)) (given (first (takes y) w.waits) (λ z. given_steps z y ++ woken SUCCESS (shown z y) z ∷ [])) (entered-none y (first (takes y) w.waits) refl)))

pub post-mild : (t : ThreadRow) (b : Birth) (w : World) → AreMild (post_death t b w)
post-mild t b w = tells-mild t b (basic w (Unregisters t.number b))

pub post-sent : (t : ThreadRow) (b : Birth) (w : World) → are_sent w (post_death t b w) ≡ true
post-sent t b w = tells-sent t b (basic w (Unregisters t.number b))

-- a port of the process that is open and has a way
record Told (m : Group) (c : ℕ) (u w : World) (pid : ℕ) (t : ThreadRow) (p : PortRow) (q : Birth) : Type 0 where
  process : p.birth.process ≡ pid
  right : Right m c w p
  to : route w p ≡ Some q
  fair : is_fair_message m c (died_row t p q) ≡ true
  sent : is_sent w.used_threads (died_row t p q) ≡ true

module _ (m : Group) (c : ℕ) (u : World) (pid : ℕ) (c_in : m c ≡ true) (t : ThreadRow) (own : owner u t.number ≡ Some pid) (process : t.process ≡ pid) (b : Birth) (home : b.process ≡ pid) where
  told-row : (w : World) (p : PortRow) (q : Birth) → Sure m c u w → port_row w b ≡ Some p → route w p ≡ Some q → Told m c u w pid t p q
  told-row w p q s row to =
      let born : p.birth.process ≡ pid = ap (λ (b : Birth). b.process) (port-birth w b p row) ∙ home in
      let right : Right m c w p = right-row m c w p s.fair s.fine (row-own w b p row) in
      record {
        process = born;
        right = right;
        to = to;
        fair = and_from _ _ (rw (process, born) (together-of m pid pid refl)) (and_from _ _ (at right (m p.birth.process) refl) (mine right (p.birth.process == c) refl));
        sent = owner-sent w (died_row t p q) pid (rw (sym s.used) own) process;
      }
    where
      at : Right m c w p → (e : Bool) → m p.birth.process ≡ e → implies (q.process == c) e ≡ true
      at right true is = grind arith
      at right false out = rw (routed-out m c w p q right c_in out to) refl

      mine : Right m c w p → (e : Bool) → (p.birth.process == c) ≡ e → implies e (m q.process) ≡ true
      mine right true is = routed-in m c w p q right c_in is to
      mine right false other = refl

  tells-apart : (d : Whose) (w : World) (p : PortRow) (q : Birth) → Sure m c u w → Told m c u w pid t p q → m pid ≡ false → are_apart m c u d w (enter (died_row t p q) w) ≡ true
  tells-apart d w p q s is out =
      let p_out : m p.birth.process ≡ false = ap m is.process ∙ out in
      enter-apart m c u d w (died_row t p q) (rw p_out refl) (routed-out m c w p q is.right c_in p_out is.to) (unseen-at m w t.number q (unseen-wait m u w t.number pid s.owned own out)) s.owned s.fair s.patient

  tells-mute : (d : Whose) (w : World) (memo : List Heard) (p : PortRow) (q : Birth) → Sure m c u w → Numbered u → Told m c u w pid t p q → m pid ≡ false → entries_memo m (view m w) memo (told_inputs m c u d (entries_of (enter (died_row t p q) w))) ≡ memo
  tells-mute d w memo p q s k is out =
      let y : MessageRow = died_row t p q in
      let r : Reads y = reads-of w.used_threads y (subst (λ us. every of_number us ≡ true) s.used k) is.sent refl in
      mute-entered m c u d w memo y s r refl (routed-out m c w p q is.right c_in (ap m is.process ∙ out) is.to) (first (takes y) w.waits) refl

  -- it shows a message of the thread's side
  tells-shown : (w : World) (p : PortRow) (q : Birth) → Sure m c u w → Numbered u → Told m c u w pid t p q → (e : Bool) → m pid ≡ e → are_shown false m e w (enter (died_row t p q) w) ≡ true
  tells-shown w p q s k is e side =
      let y : MessageRow = died_row t p q in
      let r : Reads y = reads-of w.used_threads y (subst (λ us. every of_number us ≡ true) s.used k) is.sent refl in
      enter-shown false m e w y refl s.once r refl (ap m process ∙ side)

  -- a member's message to a member, in the view as in the world
  tells-view : (w : World) (p : PortRow) (q : Birth) → Sure m c u w → Told m c u w pid t p q → m pid ≡ true → m q.process ≡ true → enter (died_row t (seen_port m p) q) (view m w) ≡ enter (died_row t p q) w
  tells-view w p q s is inside q_in =
      ap (λ context. enter (record { queue = q; sender = p.birth; context = context; message = died_message t }) (view m w)) (context-view m c w p is.right (ap m is.process ∙ inside))
      ∙ enter-view m c w (died_row t p q) s.fair q_in

  -- what is posted in the view: nothing where the way leads to an outsider
  abbrev in_view : World → PortRow → Option Birth → List Basic
  in_view w p o = given (option_map (λ q. died_row t (seen_port m p) q) o) (λ y. enter y (view m w))

  seen-told : (w : World) → Sure m c u w → m pid ≡ true → tells t b (view m w) ≡ given (port_row w b) (λ p. in_view w p (seen_pair m (route w p)))
  seen-told w s inside = ap (λ o. given (option_and_then (λ p. option_map (λ q. died_row t p q) (route (view m w) p)) o) (λ y. enter y (view m w))) (port-view m w b (ap m home ∙ inside)) ∙ at (port_row w b) refl
    where
      at : (o : Option PortRow) → port_row w b ≡ o → given (option_and_then (λ p. option_map (λ q. died_row t p q) (route (view m w) p)) (option_map (seen_port m) o)) (λ y. enter y (view m w)) ≡ given o (λ p. in_view w p (seen_pair m (route w p)))
      at None row = refl
      at (Some p) row =
          let right : Right m c w p = right-row m c w p s.fair s.fine (row-own w b p row) in
          ap (in_view w p) (route-view m c w p s.fair right (ap m (ap (λ (b : Birth). b.process) (port-birth w b p row) ∙ home) ∙ inside))

  tells-led : (d : Whose) (w : World) → Sure m c u w → m pid ≡ true → Led m c u d w (tells t b w) (tells t b (view m w))
  tells-led d w s inside = subst (Led m c u d w (tells t b w)) (sym (seen-told w s inside)) (at (port_row w b) refl)
    where
      entered : (p : PortRow) (q : Birth) → Told m c u w pid t p q → (e : Bool) → m q.process ≡ e → Led m c u d w (enter (died_row t p q) w) (in_view w p (cond e (Some q) None))
      entered p q is true q_in = subst (Led m c u d w (enter (died_row t p q) w)) (sym (tells-view w p q s is inside q_in)) (led-same m c u d w (enter (died_row t p q) w) (enter-ours m w (died_row t p q) (and_from _ _ (ap m is.process ∙ inside) q_in) s.patient))
      entered p q is false out = let gone = enter-gone m c u d w (died_row t p q) c_in out s.owned s.fair s.patient in record { world = gone.0; told = gone.1 }

      routed : (p : PortRow) → port_row w b ≡ Some p → (o : Option Birth) → route w p ≡ o → Led m c u d w (given (option_map (λ q. died_row t p q) o) (λ y. enter y w)) (in_view w p (seen_pair m o))
      routed p row None to = led-same m c u d w [] refl
      routed p row (Some q) to = entered p q (told-row w p q s row to) (m q.process) refl

      at : (o : Option PortRow) → port_row w b ≡ o → Led m c u d w (given (option_and_then (λ p. option_map (λ q. died_row t p q) (route w p)) o) (λ y. enter y w)) (given o (λ p. in_view w p (seen_pair m (route w p))))
      at None row = led-same m c u d w [] refl
      at (Some p) row = routed p row (route w p) refl

  tells-part : Part m c u pid (Steady m c u) (tells t b)
  tells-part = record {
    mild = tells-mild t b;
    sent = tells-sent t b;
    fair = λ w k. on-told (λ bs. are_fair m c w bs ≡ true) t b w refl (λ p q row to. let is = told-row w p q k.sure row to in enter-fair m c w (died_row t p q) (and_from _ _ is.fair is.sent));
    asked = λ w k. let s = k.sure in on-told (λ bs. Asked (world_after w bs)) t b w s.asked (λ p q row to. run-asked w (enter (died_row t p q) w) (enter-asked w (died_row t p q) s.asked s.patient s.once refl) s.asked);
    apart = λ d w k out. on-told (λ bs. are_apart m c u d w bs ≡ true) t b w refl (λ p q row to. tells-apart d w p q k.sure (told-row w p q k.sure row to) out);
    mute = λ d w memo k n out. on-told (λ bs. entries_memo m (view m w) memo (told_inputs m c u d (entries_of bs)) ≡ memo) t b w refl (λ p q row to. tells-mute d w memo p q k.sure n (told-row w p q k.sure row to) out);
    shown = λ w k n e is. on-told (λ bs. are_shown false m e w bs ≡ true) t b w refl (λ p q row to. tells-shown w p q k.sure n (told-row w p q k.sure row to) e is);
    led = λ d w k inside. tells-led d w k.sure inside;
  }

  tells-safe : (w : World) → IsSafe w → IsSafe (world_after w (tells t b w))
  tells-safe w is = on-told (λ bs. IsSafe (world_after w bs)) t b w is (λ p q row to. enter-safe (died_row t p q) w is)

  leaves-part : Part m c u pid (Steady m c u) (leaves t.number b)
  leaves-part = record {
    mild = λ w. refl;
    sent = λ w. refl;
    fair = λ w k. refl;
    asked = λ w k. let s = k.sure in basic-asked w (Unregisters t.number b) refl s.asked;
    apart = λ d w k out. let s = k.sure in rw (unseen-thread m c w t.number pid s.fair (rw (sym s.used) own) out) refl;
    mute = λ d w memo k n out. refl;
    shown = λ w k n e is. refl;
    led = λ d w k inside. led-same m c u d w (leaves t.number b w) refl;
  }

  leaves-steady : (w : World) → Steady m c u w → Steady m c u (world_after w (leaves t.number b w))
  leaves-steady w k = steady-after m c u pid (Steady m c u) (leaves t.number b) leaves-part w k k.sure (unregister-safe t.number b w k.safe)

  pub post-part : Part m c u pid (Steady m c u) (post_death t b)
  post-part = then-part m c u pid c_in (Steady m c u) (Steady m c u) (leaves t.number b) (tells t b) leaves-part leaves-steady tells-part

  pub post-steady : (w : World) → Steady m c u w → Steady m c u (world_after w (post_death t b w))
  post-steady w k =
      let v : World = world_after w (leaves t.number b w) in
      steady-after m c u pid (Steady m c u) (post_death t b) post-part w k k.sure (subst IsSafe (sym (after-append w (leaves t.number b w) (tells t b v))) (tells-safe v (unregister-safe t.number b w k.safe)))

-- Where rows have gone
goes-remains : (k : Alive) (n : ℕ) (code : Status) → Remains k (goes n code)
goes-remains k n code = record { alike = λ u closed. refl; stands = λ u closed. refl }

cut-remains : (k : Alive) (o : Option WaitRow) → is_live_port k o ≡ true → Remains k (end_client o)
cut-remains k None is = none-remains k
cut-remains k (Some x) is =
    let g = (cut-off (λ p. true) 0 x.port).good in
    then-remains k (provided (λ w. is_accepted x) (cut_pair x.port)) (provided (λ w. is_connect x) (doing (DropsOwned x.port ∷ [])))
    (provided-remains k (λ w. is_accepted x) (cut_pair x.port) (λ u closed. refl) (record { alike = λ u closed. g.alike k u closed is; stands = λ u closed. g.stands k u closed is }))
    (provided-remains k (λ w. is_connect x) (doing (DropsOwned x.port ∷ [])) (λ u closed. refl) (record { alike = λ u closed. refl; stands = λ u closed. refl }))

pub die-remains : (k : Alive) (code : Status) (t : ThreadRow) → Remains k (die code t)
die-remains k code t = record {
  alike = λ u closed. (at u closed).alike u closed;
  stands = λ u closed. (at u closed).stands u closed;
}
  where
    live : (u : World) → Closed k u → (o : Option WaitRow) → wait_of u t.number ≡ o → is_live_port k o ≡ true
    live u closed None none = refl
    live u closed (Some x) some = first-true _ _ (every-first (wait_closed k) (waits_as t.number) u.waits x closed.waits some)

    at : (u : World) → Closed k u → Remains k (goes t.number code ▹ end_client (wait_of u t.number))
    at u closed = then-remains k (goes t.number code) (end_client (wait_of u t.number)) (goes-remains k t.number code) (cut-remains k (wait_of u t.number) (live u closed (wait_of u t.number) refl))

pub post-remains : (k : Alive) (t : ThreadRow) (b : Birth) → k.ports b ≡ true → Remains k (post_death t b)
post-remains k t b live = then-remains k (leaves t.number b) (tells t b) (record { alike = λ u closed. refl; stands = λ u closed. refl }) (record {
  alike = λ u closed. rw (row-thin k u b live) refl;
  stands = λ u closed. on-told (AreClosed k) t b u refl (λ p q row to. enter-closed k u (died_row t p q) (ap k.ports (port-birth u b p row) ∙ live));
})
