-- What the parts of a line by which threads end owe: each of them in the world that the ones before it left.
use Rattle.std.proofs.Common.{◌≡◌, ℕ, List, [], ◌∷◌, ◌++◌, Bool, true, false, refl, ap, sym, subst, ◌∙◌}
use Rattle.lpc_base.specs.Rows.{every, when}
use Rattle.lpc_base.proofs.RowWords.{every-append, every-more}
use Rattle.lpc_base.proofs.Bools.{first-true, second-true}
use Rattle.lpc_model.specs.World.{Birth, World}
use Rattle.lpc_model.specs.Basics.{Steps, doing, entries_of, in_turn, provided, world_after, ◌▹◌, Basic}
use Rattle.lpc_model.specs.Circle.{Group, Whose}
use Rattle.lpc_model.proofs.Steps.Closing.{then-holds}
use Rattle.lpc_model.proofs.Sound.Terminate.{IsSafe}
use Rattle.lpc_model.proofs.Steps.InTurn.{after-append}
use Rattle.lpc_isolation.proofs.Views.View.{view}
use Rattle.lpc_isolation.proofs.Rows.Fair.{are_fair, fair-append, run-fair, Fair}
use Rattle.lpc_isolation.proofs.Views.Apart.{apart-append, are_apart}
use Rattle.lpc_isolation.proofs.Views.Callers.{Led, led-same}
use Rattle.lpc_isolation.proofs.Each.Enter.{sound-patient}
use Rattle.lpc_isolation.proofs.Each.Receive.{led-append}
use Rattle.lpc_isolation.proofs.Plays.Play.{told_inputs}
use Rattle.lpc_isolation.proofs.Rows.Paths.{run-paths}
use Rattle.lpc_isolation.proofs.Rows.Clients.{sound-clients}
use Rattle.lpc_isolation.proofs.Rows.Sent.{append-sent, are_sent}
use Rattle.lpc_isolation.proofs.Rows.Asked.{Asked}
use Rattle.lpc_isolation.proofs.Rows.Ids.{Numbered}
use Rattle.lpc_isolation.proofs.Rows.Kept.{owned-sound}
use Rattle.lpc_isolation.proofs.Calls.Serves.{orderly-used}
use Rattle.lpc_isolation.proofs.Memory.Heard.{Heard, entries_memo}
use Rattle.lpc_isolation.proofs.Gone.Fine.{makes_fine, run-fine}
use Rattle.lpc_isolation.proofs.Closings.Mild.{AreMild, Sure, is_mild, mild-fine, mild-orderly, mild-paths}
use Rattle.lpc_isolation.proofs.Closings.Stages.{Good, mute-append}
use Rattle.lpc_isolation.proofs.Closings.Shown.{are_shown, shown-append}
use Rattle.lpc_isolation.proofs.Gone.Thin.{Alive, thin, Closed, thin-run, closed-run}
use Rattle.lpc_isolation.proofs.Gone.ThinCalls.{AreClosed}

-- what a part owes in a world of which something is known, where threads of a process end
pub record Part (m : Group) (c : ℕ) (u : World) (pid : ℕ) (K : World → Type 0) (f : Steps) : Type 0 where
  pub mild : (w : World) → AreMild (f w)
  pub sent : (w : World) → are_sent w (f w) ≡ true
  pub fair : (w : World) → K w → are_fair m c w (f w) ≡ true
  pub asked : (w : World) → K w → Asked (world_after w (f w))
  -- of an outsider: the view loses only waits whose wakes are told, and no entry shows a member a connect
  pub apart : (d : Whose) (w : World) → K w → m pid ≡ false → are_apart m c u d w (f w) ≡ true
  pub mute : (d : Whose) (w : World) (memo : List Heard) → K w → Numbered u → m pid ≡ false → entries_memo m (view m w) memo (told_inputs m c u d (entries_of (f w))) ≡ memo
  -- and members are shown outsiders' messages alone; by a member's none of those
  pub shown : (w : World) → K w → Numbered u → (e : Bool) → m pid ≡ e → are_shown false m e w (f w) ≡ true
  -- of a member: the view changes as by the part in the view
  pub led : (d : Whose) (w : World) → K w → m pid ≡ true → Led m c u d w (f w) (f (view m w))

module _ (m : Group) (c : ℕ) (u : World) (pid : ℕ) (c_in : m c ≡ true) where
  -- a stage of the closing of a port of the process
  pub good-part : (b : Birth) (f : Steps) → b.process ≡ pid → Good m c b f → Part m c u pid (Sure m c u) f
  good-part b f own g = record {
    mild = g.mild;
    sent = g.sent;
    fair = λ w s. g.fair u w s;
    asked = λ w s. g.asked u w s;
    apart = λ d w s out. g.apart u d w s (ap m own ∙ out);
    mute = λ d w memo s n out. g.mute u d w memo s n (ap m own ∙ out);
    shown = λ w s n e is. g.shown u w s n e (ap m own ∙ is);
    led = λ d w s inside. g.led u d w s (ap m own ∙ inside);
  }

  -- where more is known
  pub known-part : (K L : World → Type 0) (f : Steps) → ((w : World) → L w → K w) → Part m c u pid K f → Part m c u pid L f
  known-part K L f knows p = record {
    mild = p.mild;
    sent = p.sent;
    fair = λ w l. p.fair w (knows w l);
    asked = λ w l. p.asked w (knows w l);
    apart = λ d w l out. p.apart d w (knows w l) out;
    mute = λ d w memo l n out. p.mute d w memo (knows w l) n out;
    shown = λ w l n e is. p.shown w (knows w l) n e is;
    led = λ d w l inside. p.led d w (knows w l) inside;
  }

  -- nothing
  pub none-part : (K : World → Type 0) → ((w : World) → K w → Sure m c u w) → Part m c u pid K (doing [])
  none-part K sure = record {
    mild = λ w. refl;
    sent = λ w. refl;
    fair = λ w k. refl;
    asked = λ w k. let s = sure w k in s.asked;
    apart = λ d w k out. refl;
    mute = λ d w memo k n out. refl;
    shown = λ w k n e is. refl;
    led = λ d w k inside. led-same m c u d w [] refl;
  }

  -- one part, and then the next
  pub then-part : (K L : World → Type 0) (f g : Steps) → Part m c u pid K f → ((w : World) → K w → L (world_after w (f w))) → Part m c u pid L g → Part m c u pid K (f ▹ g)
  then-part K L f g p next q = record {
    mild = λ w. every-append _ (f w) (g (world_after w (f w))) (p.mild w) (q.mild (world_after w (f w)));
    sent = λ w. append-sent w (f w) (g (world_after w (f w))) (p.sent w) (q.sent (world_after w (f w)));
    fair = λ w k. fair-append m c w (f w) (g (world_after w (f w))) (p.fair w k) (q.fair (world_after w (f w)) (next w k));
    asked = λ w k. subst Asked (sym (after-append w (f w) (g (world_after w (f w))))) (q.asked (world_after w (f w)) (next w k));
    apart = λ d w k out. apart-append m c u d w (f w) (g (world_after w (f w))) (p.apart d w k out) (q.apart d (world_after w (f w)) (next w k) out);
    mute = λ d w memo k n out. mute-append m c u d w memo (f w) (g (world_after w (f w))) c_in (p.apart d w k out) (p.mute d w memo k n out) (q.mute d (world_after w (f w)) memo (next w k) n out);
    shown = λ w k n e is. shown-append false m e w (f w) (g (world_after w (f w))) (p.shown w k n e is) (q.shown (world_after w (f w)) (next w k) n e is);
    led = λ d w k inside.
        let one : Led m c u d w (f w) (f (view m w)) = p.led d w k inside in
        led-append m c u d w (f w) (f (view m w)) (g (world_after w (f w))) (g (world_after (view m w) (f (view m w)))) one
        (subst (λ v. Led m c u d (world_after w (f w)) (g (world_after w (f w))) (g v)) one.world (q.led d (world_after w (f w)) (next w k) inside));
  }

  -- a part where a test holds, in the view as in the world
  pub provided-part : (K : World → Type 0) (test : World → Bool) (f : Steps) → ((w : World) → K w → Sure m c u w) → ((w : World) → K w → m pid ≡ true → test (view m w) ≡ test w) → Part m c u pid K f → Part m c u pid K (provided test f)
  provided-part K test f sure seen p = record {
    mild = λ w. by AreMild (f w) (test w) refl (p.mild w);
    sent = λ w. by (λ bs. are_sent w bs ≡ true) (f w) (test w) refl (p.sent w);
    fair = λ w k. by (λ bs. are_fair m c w bs ≡ true) (f w) (test w) refl (p.fair w k);
    asked = λ w k. let s = sure w k in by (λ bs. Asked (world_after w bs)) (f w) (test w) s.asked (p.asked w k);
    apart = λ d w k out. by (λ bs. are_apart m c u d w bs ≡ true) (f w) (test w) refl (p.apart d w k out);
    mute = λ d w memo k n out. by (λ bs. entries_memo m (view m w) memo (told_inputs m c u d (entries_of bs)) ≡ memo) (f w) (test w) refl (p.mute d w memo k n out);
    shown = λ w k n e is. by (λ bs. are_shown false m e w bs ≡ true) (f w) (test w) refl (p.shown w k n e is);
    led = λ d w k inside. subst (λ e. Led m c u d w (when (test w) (f w)) (when e (f (view m w)))) (sym (seen w k inside)) (both-led d w (test w) (p.led d w k inside));
  }
    where
      by : (P : List Basic → Type 0) (bs : List Basic) (e : Bool) → P [] → P bs → P (when e bs)
      by P bs true none some = some
      by P bs false none some = none

      both-led : (d : Whose) (w : World) (e : Bool) → Led m c u d w (f w) (f (view m w)) → Led m c u d w (when e (f w)) (when e (f (view m w)))
      both-led d w true l = l
      both-led d w false l = led-same m c u d w [] refl

  -- a part for each row, in turn
  pub turn-part : {A : Type 0} (K : World → Type 0) (p : A → Bool) (f : A → Steps) → ((w : World) → K w → Sure m c u w) → ((x : A) → p x ≡ true → Part m c u pid K (f x)) → ((x : A) → p x ≡ true → (w : World) → K w → K (world_after w (f x w))) → (xs : List A) → every p xs ≡ true → Part m c u pid K (in_turn f xs)
  turn-part K p f sure each keeps [] all = none-part K sure
  turn-part K p f sure each keeps (x ∷ xs) all = then-part K K (f x) (in_turn f xs) (each x (first-true _ _ all)) (keeps x (first-true _ _ all)) (turn-part K p f sure each keeps xs (second-true _ _ all))

-- What is known of each world while threads end
pub record Steady (m : Group) (c : ℕ) (u w : World) : Type 0 where
  pub sure : Sure m c u w
  pub safe : IsSafe w

pub steady-sure : (m : Group) (c : ℕ) (u w : World) → Steady m c u w → Sure m c u w
steady-sure m c u w s = s.sure

-- and behind a part
pub steady-after : (m : Group) (c : ℕ) (u : World) (pid : ℕ) (K : World → Type 0) (f : Steps) → Part m c u pid K f → (w : World) → K w → Sure m c u w → IsSafe (world_after w (f w)) → Steady m c u (world_after w (f w))
steady-after m c u pid K f p w k s safe = record {
  sure = record {
    c_in = s.c_in;
    used = used;
    fair = fair;
    fine = run-fine m c w (f w) (every-more is_mild (makes_fine m c) (mild-fine m c) (f w) (p.mild w)) s.fine;
    owned = rw used (owned-sound m c (world_after w (f w)) fair safe.sound.waits);
    patient = sound-patient (world_after w (f w)) safe.sound.waits;
    once = safe.sound.once;
    paths = run-paths w (f w) (mild-paths w (f w) (p.mild w)) s.paths;
    clients = sound-clients (world_after w (f w)) safe.sound;
    asked = p.asked w k;
  };
  safe = safe;
}
  where
    used : u.used_threads ≡ (world_after w (f w)).used_threads
    used = s.used ∙ sym (orderly-used w (f w) (mild-orderly (f w) (p.mild w)))

    fair : Fair m c (world_after w (f w))
    fair = run-fair m c w (f w) (p.fair w k) s.fair

-- and behind parts in turn
pub turn-steady : {A : Type 0} (K : World → Type 0) (p : A → Bool) (f : A → Steps) → ((x : A) → p x ≡ true → (w : World) → K w → K (world_after w (f x w))) → (xs : List A) → every p xs ≡ true → (w : World) → K w → K (world_after w (in_turn f xs w))
turn-steady K p f keeps [] all w k = k
turn-steady K p f keeps (x ∷ xs) all w k = then-holds K (f x) (in_turn f xs) w (turn-steady K p f keeps xs (second-true _ _ all) (world_after w (f x w)) (keeps x (first-true _ _ all) w k))

-- Where rows that nothing names have gone
pub record Remains (k : Alive) (f : Steps) : Type 0 where
  pub alike : (u : World) → Closed k u → f (thin k u) ≡ f u
  pub stands : (u : World) → Closed k u → AreClosed k (f u)

pub none-remains : (k : Alive) → Remains k (doing [])
none-remains k = record { alike = λ u closed. refl; stands = λ u closed. refl }

pub then-remains : (k : Alive) (f g : Steps) → Remains k f → Remains k g → Remains k (f ▹ g)
then-remains k f g p q = record {
  alike = λ u closed.
      let one : f (thin k u) ≡ f u = p.alike u closed in
      let stands : AreClosed k (f u) = p.stands u closed in
      let there : world_after (thin k u) (f (thin k u)) ≡ thin k (world_after u (f u)) = ap (world_after (thin k u)) one ∙ sym (thin-run k u (f u) stands) in
      ap (λ bs. bs ++ g (world_after (thin k u) (f (thin k u)))) one ∙ ap (λ v. f u ++ g v) there
      ∙ ap (λ bs. f u ++ bs) (q.alike (world_after u (f u)) (closed-run k u (f u) stands closed));
  stands = λ u closed.
      let one : AreClosed k (f u) = p.stands u closed in
      every-append _ (f u) (g (world_after u (f u))) one (q.stands (world_after u (f u)) (closed-run k u (f u) one closed));
}

pub turn-remains : {A : Type 0} (k : Alive) (p : A → Bool) (f : A → Steps) → ((x : A) → p x ≡ true → Remains k (f x)) → (xs : List A) → every p xs ≡ true → Remains k (in_turn f xs)
turn-remains k p f each [] all = none-remains k
turn-remains k p f each (x ∷ xs) all = then-remains k (f x) (in_turn f xs) (each x (first-true _ _ all)) (turn-remains k p f each xs (second-true _ _ all))

pub provided-remains : (k : Alive) (test : World → Bool) (f : Steps) → ((u : World) → Closed k u → test (thin k u) ≡ test u) → Remains k f → Remains k (provided test f)
provided-remains k test f seen p = record {
  alike = λ u closed. ap (λ e. when e (f (thin k u))) (seen u closed) ∙ ap (λ bs. when (test u) bs) (p.alike u closed);
  stands = λ u closed. by (f u) (test u) (p.stands u closed);
}
  where
    by : (bs : List Basic) (e : Bool) → AreClosed k bs → AreClosed k (when e bs)
    by bs true is = is
    by bs false is = refl
