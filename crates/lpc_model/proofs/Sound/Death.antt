-- Threads that end, and a process with its last one, leave sound waits behind.
use Rattle.std.proofs.Common.{◌≡◌, ◌∙◌, ℕ, List, [], ◌∷◌, Bool, true, false, not, Option, Some, None, refl, sym, subst, arith}
use Rattle.std.specs.Prelude.{◌&&◌, ◌||◌, ◌==◌}
use Rattle.std.proofs.lemmas.Bool.Decides.{nat_tests}
use Rattle.lpc_base.specs.Rows.{change, each, every, first, when, which}
use Rattle.lpc_base.specs.declared.status.Status.{Status}
use Rattle.lpc_base.specs.declared.status.TheConstants.{LPC_REPLY_LOST, PORT_DISCONNECTED, SUCCESS}
use Rattle.lpc_base.proofs.RowWords.{every-change, every-more, first-passes}
use Rattle.lpc_base.proofs.RowMaps.{every-both, every-first, every-none}
use Rattle.lpc_base.proofs.Births.{birth-same, birth-self}
use Rattle.lpc_base.proofs.Bools.{apart-second}
use Rattle.lpc_model.specs.declared.entry.CallName.TheVariants.{NtClose}
use Rattle.lpc_model.specs.World.{Birth, Listen, Message, Receive, Request, ThreadRow, WaitRow, World}
use Rattle.lpc_model.specs.Found.{is_accepted, is_connect, is_live_thread, is_made_on, is_open, is_the, is_thread, live_thread, pair_of, same_birth, wait_of, waits_as, was_thread, is_event, is_marked}
use Rattle.lpc_model.specs.Basics.{Cuts, Dies, DropsOwned, Withdraws, basic, doing, ended, provided, world_after, left_by}
use Rattle.lpc_model.specs.Tests.{is_client}
use Rattle.lpc_model.specs.Close.{cut_pair, end_accepted, end_request, is_accepted_across, is_receive_across, is_receiver, is_request_across, is_request_on, wake, is_across}
use Rattle.lpc_model.specs.Death.{end_client, die}
use Rattle.lpc_model.specs.SoundWaits.{HasShutConnects, IsSoundWorld, has_home, is_past, is_sound_as, is_sound_wait, can_stay_sound, waiter_of, is_sound_request}
use Rattle.lpc_model.proofs.Steps.Rows.{every-left, lone}
use Rattle.lpc_model.proofs.Steps.Closing.{behind, then-holds}
use Rattle.lpc_model.proofs.Sound.Pairs.{is_quiet, tied, tied-of}
use Rattle.lpc_model.proofs.Sound.Worlds.{WaitOnce, by_kind, is_sure, sound-from, sound-memory, sure-waits}
use Rattle.lpc_model.proofs.Sound.Basics.{sound-wakes-quiet}
use Rattle.lpc_model.proofs.Sound.Less.{IsLess, ended-each, less-withdrawn, turns-told, turns-withdrawn, marked-each}
use Rattle.lpc_model.proofs.Sound.Cuts.{every-rest, is_free_of, none-accepted, parted, parted-world, sound-parted}
use Rattle.lpc_model.proofs.Steps.Dying.{asked_across, cut-parts, gone, gone-cut, others_left, received_across, showing, is_eventless, marked_across}
use Rattle.lpc_model.proofs.Sound.Closing.{receive-quiet, request-quiet, clear-kept, is_clear, marks_alone}
use Rattle.lpc_model.proofs.Steps.InTurn.{after-append}
use Rattle.std.proofs.lemmas.Bool.{and_from, eqb-true, false_from_ne_true, not-true}

-- A thread that doesn't wait ends
-- the other live threads are found as before
other-found : (tid n : ℕ) (ts : List ThreadRow) → (tid == n) ≡ false → first (is_live_thread tid) (change (is_thread n) ended ts) ≡ first (is_live_thread tid) ts
other-found tid n [] off = refl
other-found tid n (t ∷ ts) off = grind (arith, nat_tests, other-found tid n ts)

none-found : (n : ℕ) (ts : List ThreadRow) → first (is_live_thread n) (change (is_thread n) ended ts) ≡ None
none-found n [] = refl
none-found n (t ∷ ts) = grind (arith, nat_tests, none-found n ts)

abbrev lifeless : ℕ → World → World
lifeless n w = record w { threads = change (is_thread n) ended w.threads }

sure-parts : (a b s k : Bool) → (a ≡ true → b ≡ true) → ((a && s) && k) ≡ true → ((b && s) && k) ≡ true
sure-parts a b s k more is = grind (arith, more)

lifeless-sure : (n : ℕ) (w : World) (x : WaitRow) → is_sure w x ≡ true → not (waits_as n x) ≡ true → is_sure (lifeless n w) x ≡ true
lifeless-sure n w x is off =
    sure-parts (is_client w (waiter_of x)) (is_client (lifeless n w) (waiter_of x)) (is_sound_as w x x.kind) (can_stay_sound w x) (λ one. rw (other-found x.thread n w.threads (not-true (x.thread == n) off)) one) is

lifeless-sound : (n : ℕ) (w : World) → every (λ x. not (waits_as n x)) w.waits ≡ true → IsSoundWorld w → IsSoundWorld (lifeless n w)
lifeless-sound n w off s =
    let v = lifeless n w in
    sound-from v (every-both (is_sure w) (λ x. not (waits_as n x)) (is_sure v) (lifeless-sure n w) w.waits (sure-waits w s) off) s.once (record {
      tables = s.tables;
      unused = s.unused;
      names = s.names;
      homes = every-change (has_home w) (is_thread n) ended (λ t is. is) w.threads s.homes;
      ordinals = λ tid t here. past tid t here (tid == n) refl;
      numbers = every-change (λ t. was_thread w t.number) (is_thread n) ended (λ t is. is) w.threads s.numbers;
      makers = s.makers;
    }) (tied-of w s)
  where
    past : (tid : ℕ) (t : ThreadRow) → live_thread (lifeless n w) tid ≡ Some t → (same : Bool) → (tid == n) ≡ same → every (λ p. is_past p t) w.ports ≡ true
    past tid t here true same =
        let one : tid ≡ n = eqb-true tid n same in
        let none : live_thread (lifeless n w) tid ≡ None = subst (λ m. first (is_live_thread m) (change (is_thread n) ended w.threads) ≡ None) (sym one) (none-found n w.threads) in absurd (cc)
    past tid t here false other = s.ordinals tid t (rw (other-found tid n w.threads other) at here)

-- a thread without an accepted connect goes with its wait and its message
gone-sound : (n : ℕ) (w : World) → every (is_quiet n) w.waits ≡ true → IsSoundWorld w → IsSoundWorld (gone n w)
gone-sound n w quiet s =
    let waited : World = left_by n w in
    let one : IsSoundWorld waited = sound-wakes-quiet w n NtClose SUCCESS [] quiet s in
    let off = every-left (waits_as n) w.waits in
    let two : IsSoundWorld (lifeless n waited) = lifeless-sound n waited off one in
    let three = less-withdrawn (lifeless n waited) n off two in three.sound

-- A connect that was accepted
-- its client port isn't open, so nothing else was made on it, or waits in its queue
abbrev pub is_off : Birth → WaitRow → Bool
is_off b z = not (is_receiver b z) && not (is_request_on b z)

shut-off : (w : World) (b : Birth) → is_open w b ≡ false → (z : WaitRow) → is_sound_wait w z ≡ true → is_off b z ≡ true
shut-off w b shut =
    by_kind (λ z. is_sound_wait w z ≡ true → is_off b z ≡ true)
    (λ z m is. asked z m (apart z.port (opens-one _ _ _ is)))
    (λ z is. receiving z (apart z.port (opens-one _ _ _ is)) (apart z.queue (opens-two _ _ _ _ is)))
    (λ z is. listening z (apart z.port (opens-one _ _ _ is)) (apart z.queue (opens-two _ _ _ _ is)))
    (λ z m offer is. refl)
    (λ z m r is. refl)
    (λ z r is. refl)
  where
    opens-one : (c o s : Bool) → (c && (o && s)) ≡ true → o ≡ true
    opens-one c o s is = grind arith

    opens-two : (c o q s : Bool) → (c && (o && (q && s))) ≡ true → q ≡ true
    opens-two c o q s is = grind arith

    asked : (z : WaitRow) (m : Message) → same_birth z.port b ≡ false → is_off b (record z { kind = Request m }) ≡ true
    asked z m other = grind arith

    receiving : (z : WaitRow) → same_birth z.port b ≡ false → same_birth z.queue b ≡ false → is_off b (record z { kind = Receive }) ≡ true
    receiving z other apart = grind arith

    listening : (z : WaitRow) → same_birth z.port b ≡ false → same_birth z.queue b ≡ false → is_off b (record z { kind = Listen }) ≡ true
    listening z other apart = grind arith

    apart : (c : Birth) → is_open w c ≡ true → same_birth c b ≡ false
    apart c opens = false_from_ne_true (same_birth c b) (λ same. let one = subst (λ d. is_open w d ≡ true) (birth-same c b same) opens in cc)

-- an event on it is marked
shut-clear : (w : World) (b : Birth) → is_open w b ≡ false → (z : WaitRow) → is_sound_wait w z ≡ true → is_clear w (is_made_on b) z ≡ true
shut-clear w b shut =
    by_kind (λ z. is_sound_wait w z ≡ true → is_clear w (is_made_on b) z ≡ true) (λ z m is. refl) (λ z is. refl) (λ z is. refl) (λ z m offer is. refl) (λ z m r is. refl)
    (λ z r is. at z (is_marked w z) refl (same_birth z.port b) refl is)
  where
    opens : (c m o s : Bool) → (c && (m || (o && s))) ≡ true → m ≡ false → o ≡ true
    opens c m o s is off = grind arith

    at : (z : WaitRow) (m : Bool) → is_marked w z ≡ m → (p : Bool) → same_birth z.port b ≡ p → (is_client w (waiter_of z) && (is_marked w z || is_sound_request w z)) ≡ true → (not p || m) ≡ true
    at z true marked p here is = grind arith
    at z false marked false here is = refl
    at z false marked true here is =
        let one = opens (is_client w (waiter_of z)) (is_marked w z) (is_open w z.port) _ is marked in
        let two = subst (λ c. is_open w c ≡ true) (birth-same z.port b here) one in absurd (cc)

-- what the cut leaves: a sound world, and no accepted connect on the port
pub record IsCutOff (w v : World) (b : Birth) : Type 0 where
  pub sound : IsSoundWorld v
  pub waits : (f : WaitRow → Bool) → every f w.waits ≡ true → every f v.waits ≡ true
  pub none : every (λ z. not (is_accepted z && is_made_on b z)) v.waits ≡ true

free-parts : (r q a c : Bool) → (not r && not q) ≡ true → not a ≡ true → not c ≡ true → (not r && (not q && (not a && not c))) ≡ true
free-parts r q a c one two three = grind arith

module _ (w : World) (b : Birth) (off : every (is_off b) w.waits ≡ true) (clear : every (is_clear w (is_made_on b)) w.waits ≡ true) (s : IsSoundWorld w) where
  abbrev pub asked : World
  asked = asked_across b w

  abbrev pub told_events : World
  told_events = marked_across b w

  abbrev pub heard : World
  heard = received_across b w

  pub asked-less : IsLess w asked
  asked-less = let t = ended-each w (is_request_across b w) (end_request LPC_REPLY_LOST) (λ z is. request-quiet z _ is) (turns-withdrawn LPC_REPLY_LOST []) s in t.less

  pub asked-none : every (λ z. not (is_request_across b w z)) asked.waits ≡ true
  asked-none = let t = ended-each w (is_request_across b w) (end_request LPC_REPLY_LOST) (λ z is. request-quiet z _ is) (turns-withdrawn LPC_REPLY_LOST []) s in t.none

  pub marked-less : IsLess asked told_events
  marked-less = let t = marked-each asked (is_across asked b) asked-less.sound in t.less

  marked-all : every (is_clear told_events (is_across asked b)) told_events.waits ≡ true
  marked-all = let t = marked-each asked (is_across asked b) asked-less.sound in t.all

  pub heard-less : IsLess told_events heard
  heard-less = let t = ended-each told_events (is_receive_across b told_events) (wake PORT_DISCONNECTED) (λ z is. receive-quiet z _ is) (turns-told PORT_DISCONNECTED []) marked-less.sound in t.less

  heard-none : every (λ z. not (is_receive_across b told_events z)) heard.waits ≡ true
  heard-none = let t = ended-each told_events (is_receive_across b told_events) (wake PORT_DISCONNECTED) (λ z is. receive-quiet z _ is) (turns-told PORT_DISCONNECTED []) marked-less.sound in t.none

  pub heard-clear : every (λ z. is_clear heard (is_made_on b) z && is_clear heard (is_across heard b) z) heard.waits ≡ true
  heard-clear =
      every-both (is_clear heard (is_made_on b)) (is_clear heard (is_across heard b)) _ (λ z x y. and_from _ _ x y) heard.waits
      (clear-kept told_events heard (is_made_on b) heard-less (clear-kept asked told_events (is_made_on b) marked-less (clear-kept w asked (is_made_on b) asked-less clear)))
      (subst (λ ps. every (is_clear (marks_alone heard.marks) (is_across (tied ps []) b)) heard.waits ≡ true) (sym (heard-less.ports ∙ marked-less.ports)) (clear-kept told_events heard (is_across asked b) heard-less marked-all))

  heard-free : every (is_free_of heard b) heard.waits ≡ true
  heard-free =
      let one = heard-less.waits (is_off b) (marked-less.waits (is_off b) (asked-less.waits (is_off b) off)) in
      let two = subst (λ ps. every (λ z. not (is_request_across b (tied ps []) z)) heard.waits ≡ true) (sym (heard-less.ports ∙ (marked-less.ports ∙ asked-less.ports))) (heard-less.waits (λ z. not (is_request_across b w z)) (marked-less.waits (λ z. not (is_request_across b w z)) asked-none)) in
      let three = subst (λ ps. every (λ z. not (is_receive_across b (tied ps []) z)) heard.waits ≡ true) (sym heard-less.ports) heard-none in
      every-both (λ z. (is_off b z && not (is_request_across b heard z)) && not (is_receive_across b heard z)) (λ z. is_clear heard (is_made_on b) z && is_clear heard (is_across heard b) z) (is_free_of heard b)
      (λ z here last. together (is_receiver b z) (is_request_on b z) (is_request_across b heard z) (is_receive_across b heard z) (is_event z) (is_marked heard z) (is_made_on b z) (is_across heard b z) here last) heard.waits
      (every-both (λ z. is_off b z && not (is_request_across b heard z)) (λ z. not (is_receive_across b heard z)) _ (λ z x y. and_from _ _ x y) heard.waits
      (every-both (is_off b) (λ z. not (is_request_across b heard z)) (λ z. is_off b z && not (is_request_across b heard z)) (λ z x y. and_from _ _ x y) heard.waits one two) three) heard-clear
    where
      together : (r q a c e m d x : Bool) → (((not r && not q) && not a) && not c) ≡ true → ((not (e && d) || m) && (not (e && x) || m)) ≡ true → (not r && (not q && (not a && (not c && (not ((e && not m) && d) && not ((e && not m) && x)))))) ≡ true
      together r q a c e m d x one two = grind arith

  pub cut-off : IsCutOff w (behind (cut_pair b) w) b
  cut-off =
      let same : behind (cut_pair b) w ≡ parted heard b = cut-parts b w ∙ (sym (after-append heard (each end_accepted (which (is_accepted_across b heard) heard.waits)) (Cuts b ∷ [])) ∙ parted-world heard b) in
      subst (λ v. IsCutOff w v b) (sym same) (record {
        sound = sound-parted heard b heard-free heard-less.sound;
        waits = λ f all. kept f (heard-less.waits f (marked-less.waits f (asked-less.waits f all)));
        none = every-more (λ z. not (is_accepted_across b heard z)) (λ z. not (is_accepted z && is_made_on b z)) (λ z is. made (is_accepted z) (is_made_on b z) (is_the b (pair_of heard z.port)) is) (parted heard b).waits (none-accepted heard b);
      })
    where
      made : (a m c : Bool) → not (a && (m || c)) ≡ true → not (a && m) ≡ true
      made a m c is = grind arith

      kept : (f : WaitRow → Bool) → every f heard.waits ≡ true → every f (parted heard b).waits ≡ true
      kept f all = every-rest f (which (is_accepted_across b heard) heard.waits) heard.waits all

-- A thread that ends
-- all waits of the thread are the one that is found
its-waits : (w : World) (n : ℕ) (x : WaitRow) (f : WaitRow → Bool) → WaitOnce w.waits → wait_of w n ≡ Some x → f x ≡ true → every (λ z. not (waits_as n z) || f z) w.waits ≡ true
its-waits w n x f once found is = lone (waits_as n) f (waits_as n) w.waits x (once n) found (first-passes (waits_as n) w.waits x found) is

none-waits : (w : World) (n : ℕ) → wait_of w n ≡ None → every (is_quiet n) w.waits ≡ true
none-waits w n none = every-more (λ z. not (waits_as n z)) (is_quiet n) (λ z is. left _ _ is) w.waits (every-none (waits_as n) w.waits none)
  where
    left : (a b : Bool) → not a ≡ true → (not a || not b) ≡ true
    left a b is = grind arith

-- a thread that waits in an accepted connect goes before its client port is cut as it does behind
pub record IsParting (w : World) (n : ℕ) (b : Birth) : Type 0 where
  pub off : every (is_off b) w.waits ≡ true
  pub clear : every (is_clear w (is_made_on b)) w.waits ≡ true
  pub same : behind (cut_pair b) (gone n w) ≡ showing (others_left n b (received_across b w)) (gone n (behind (cut_pair b) w))

pub parting : (w : World) (n : ℕ) (x : WaitRow) → wait_of w n ≡ Some x → is_accepted x ≡ true → HasShutConnects w → IsSoundWorld w → IsParting w n x.port
parting w n x found is shut s =
    let b = x.port in
    let closed = apart-second (is_connect x) (is_open w b) (connects x is) (every-first (λ x. not (is_connect x && is_open w x.port)) (waits_as n) w.waits x shut found) in
    let off = every-more (is_sound_wait w) (is_off b) (shut-off w b closed) w.waits s.waits in
    let clear = every-more (is_sound_wait w) (is_clear w (is_made_on b)) (shut-clear w b closed) w.waits s.waits in
    let less = asked-less w b off clear s in
    let marked = marked-less w b off clear s in
    let its = its-waits w n x is_accepted s.once found is in
    let asked_its = less.waits (λ z. not (waits_as n z) || is_accepted z) its in
    record {
      off = off;
      clear = clear;
      same = gone-cut n b w (every-more _ _ (λ z one. no-request w b n z one) w.waits its) (every-more _ _ (λ z one. no-event n z one) (asked_across b w).waits asked_its) (every-more _ _ (λ z one. no-receive (marked_across b w) b n z one) (marked_across b w).waits (marked.waits (λ z. not (waits_as n z) || is_accepted z) asked_its));
    }
  where
    connects : (x : WaitRow) → is_accepted x ≡ true → is_connect x ≡ true
    connects x is = grind arith

    no-request : (w : World) (b : Birth) (n : ℕ) (z : WaitRow) → (not (waits_as n z) || is_accepted z) ≡ true → (not (waits_as n z) || not (is_request_across b w z)) ≡ true
    no-request w b n = by_kind (λ z. (not (waits_as n z) || is_accepted z) ≡ true → (not (waits_as n z) || not (is_request_across b w z)) ≡ true) (λ z m is. grind arith) (λ z is. grind arith) (λ z is. grind arith) (λ z m offer is. grind arith) (λ z m r is. grind arith) (λ z m is. grind arith)

    no-event : (n : ℕ) (z : WaitRow) → (not (waits_as n z) || is_accepted z) ≡ true → is_eventless n z ≡ true
    no-event n = by_kind (λ z. (not (waits_as n z) || is_accepted z) ≡ true → is_eventless n z ≡ true) (λ z m is. grind arith) (λ z is. grind arith) (λ z is. grind arith) (λ z m is. grind arith) (λ z m r is. grind arith) (λ z r is. grind arith)

    no-receive : (w : World) (b : Birth) (n : ℕ) (z : WaitRow) → (not (waits_as n z) || is_accepted z) ≡ true → (not (waits_as n z) || not (is_receive_across b w z)) ≡ true
    no-receive w b n = by_kind (λ z. (not (waits_as n z) || is_accepted z) ≡ true → (not (waits_as n z) || not (is_receive_across b w z)) ≡ true) (λ z m is. grind arith) (λ z is. grind arith) (λ z is. grind arith) (λ z m offer is. grind arith) (λ z m r is. grind arith) (λ z m is. grind arith)

accepted-sound : (w : World) (n : ℕ) (x : WaitRow) → wait_of w n ≡ Some x → is_accepted x ≡ true → HasShutConnects w → IsSoundWorld w → IsSoundWorld (behind (cut_pair x.port) (gone n w))
accepted-sound w n x found is shut s =
    let b = x.port in
    let p = parting w n x found is shut s in
    let c = cut-off w b p.off p.clear s in
    let here = its-waits w n x (λ z. is_made_on b z) s.once found (birth-self b) in
    subst IsSoundWorld (sym p.same) (sound-memory (gone n (behind (cut_pair b) w)) _ _ _ (gone-sound n (behind (cut_pair b) w) (every-both (λ z. not (waits_as n z) || is_made_on b z) (λ z. not (is_accepted z && is_made_on b z)) (is_quiet n) (λ z one two. quiet _ _ _ one two) (behind (cut_pair b) w).waits (c.waits (λ z. not (waits_as n z) || is_made_on b z) here) c.none) c.sound))
  where
    quiet : (n m a : Bool) → (not n || m) ≡ true → not (a && m) ≡ true → (not n || not a) ≡ true
    quiet n m a one two = grind arith

-- what holds where the thread alone goes, and where its client port is cut then
pub die-holds : (P : World → Type 0) (code : Status) (w : World) (t : ThreadRow) → P (gone t.number w) → ((x : WaitRow) → wait_of w t.number ≡ Some x → is_accepted x ≡ true → P (behind (cut_pair x.port) (gone t.number w))) → ((v : World) (b : Birth) → P v → P (basic v (DropsOwned b))) → P (behind (die code t) w)
die-holds P code w t alone accepted owned = then-holds P (doing (Dies t.number code ∷ Withdraws t.number ∷ [])) (end_client (wait_of w t.number)) w (at (wait_of w t.number) refl)
  where
    by_accept : (x : WaitRow) → wait_of w t.number ≡ Some x → (a : Bool) → is_accepted x ≡ a → P (world_after (gone t.number w) (when a (cut_pair x.port (gone t.number w))))
    by_accept x found true is = accepted x found is
    by_accept x found false off = alone

    by_connect : (x : WaitRow) (v : World) (c : Bool) → P v → P (world_after v (when c (DropsOwned x.port ∷ [])))
    by_connect x v true is = owned v x.port is
    by_connect x v false is = is

    at : (o : Option WaitRow) → wait_of w t.number ≡ o → P (behind (end_client o) (gone t.number w))
    at None none = alone
    at (Some x) found =
        let cut = provided (λ w. is_accepted x) (cut_pair x.port) in
        then-holds P cut (provided (λ w. is_connect x) (doing (DropsOwned x.port ∷ []))) (gone t.number w) (by_connect x (behind cut (gone t.number w)) (is_connect x) (by_accept x found (is_accepted x) refl))

pub die-sound : (code : Status) (w : World) (t : ThreadRow) → HasShutConnects w → IsSoundWorld w → IsSoundWorld (behind (die code t) w)
die-sound code w t shut s = then-holds IsSoundWorld (doing (Dies t.number code ∷ Withdraws t.number ∷ [])) (end_client (wait_of w t.number)) w (at (wait_of w t.number) refl)
  where
    n : ℕ
    n = t.number

    by_accept : (x : WaitRow) → wait_of w n ≡ Some x → (a : Bool) → is_accepted x ≡ a → IsSoundWorld (world_after (gone n w) (when a (cut_pair x.port (gone n w))))
    by_accept x found true is = accepted-sound w n x found is shut s
    by_accept x found false off = gone-sound n w (its-waits w n x (λ z. not (is_accepted z)) s.once found (rw off refl)) s

    by_connect : (x : WaitRow) (v : World) (c : Bool) → IsSoundWorld v → IsSoundWorld (world_after v (when c (DropsOwned x.port ∷ [])))
    by_connect x v true is = sound-memory v _ _ _ is
    by_connect x v false is = is

    at : (o : Option WaitRow) → wait_of w n ≡ o → IsSoundWorld (behind (end_client o) (gone n w))
    at None none = gone-sound n w (none-waits w n none) s
    at (Some x) found =
        let cut = provided (λ w. is_accepted x) (cut_pair x.port) in
        then-holds IsSoundWorld cut (provided (λ w. is_connect x) (doing (DropsOwned x.port ∷ []))) (gone n w) (by_connect x (behind cut (gone n w)) (is_connect x) (by_accept x found (is_accepted x) refl))
