-- The steps of a closing, one stage after the other: what each stage owes, and that two stages owe it together.
use Rattle.std.proofs.Common.{◌≡◌, ℕ, Bool, List, [], ◌∷◌, ◌++◌, true, false, refl, ap, sym, subst, ◌∙◌}
use Rattle.std.proofs.lemmas.List.Elements.{filter-append}
use Rattle.lpc_base.proofs.RowWords.{every-append}
use Rattle.lpc_model.specs.declared.entry.Entry.{Entry}
use Rattle.lpc_model.specs.World.{Birth, World}
use Rattle.lpc_model.specs.Basics.{Basic, Steps, entries_of, world_after, ◌▹◌}
use Rattle.lpc_model.specs.Circle.{Group, Whose}
use Rattle.lpc_model.proofs.Steps.InTurn.{after-append, entries-append}
use Rattle.lpc_isolation.proofs.Views.View.{view}
use Rattle.lpc_isolation.proofs.Views.Basics.{are_ours, ours-append, run-ours}
use Rattle.lpc_isolation.proofs.Rows.Fair.{are_fair, fair-append}
use Rattle.lpc_isolation.proofs.Views.Apart.{absorb, absorb_all, apart-append, are_apart, run-apart, run-quiet}
use Rattle.lpc_isolation.proofs.Views.Callers.{Led}
use Rattle.lpc_isolation.proofs.Each.Receive.{led-append}
use Rattle.lpc_isolation.proofs.Plays.Lines.{quiet-inputs}
use Rattle.lpc_isolation.proofs.Plays.Play.{is_told_input, told_inputs}
use Rattle.lpc_isolation.proofs.Rows.Sent.{append-sent, are_sent}
use Rattle.lpc_isolation.proofs.Rows.Asked.{Asked}
use Rattle.lpc_isolation.proofs.Rows.Ids.{Numbered}
use Rattle.lpc_isolation.proofs.Memory.Heard.{Heard, entries_memo, entry_memo}
use Rattle.lpc_isolation.proofs.Gone.Thin.{Alive, Closed, closed-run, thin, thin-run}
use Rattle.lpc_isolation.proofs.Gone.ThinCalls.{AreClosed}
use Rattle.lpc_isolation.proofs.Closings.Mild.{AreLosses, AreMild, Sure, sure-losses}
use Rattle.lpc_isolation.proofs.Closings.Shown.{are_shown, shown-append}

-- what the end of a closing of a port owes
pub record Good (m : Group) (c : ℕ) (b : Birth) (f : Steps) : Type 0 where
  pub mild : (w : World) → AreMild (f w)
  pub fair : (u w : World) → Sure m c u w → are_fair m c w (f w) ≡ true
  pub sent : (w : World) → are_sent w (f w) ≡ true
  pub asked : (u w : World) → Sure m c u w → Asked (world_after w (f w))
  -- of an outsider's port: the view loses only waits whose wakes are told, and no entry shows a member a connect
  pub apart : (u : World) (d : Whose) (w : World) → Sure m c u w → m b.process ≡ false → are_apart m c u d w (f w) ≡ true
  pub mute : (u : World) (d : Whose) (w : World) (memo : List Heard) → Sure m c u w → Numbered u → m b.process ≡ false → entries_memo m (view m w) memo (told_inputs m c u d (entries_of (f w))) ≡ memo
  -- and members are shown outsiders' messages alone; by a member's port none of those
  pub shown : (u w : World) → Sure m c u w → Numbered u → (e : Bool) → m b.process ≡ e → are_shown false m e w (f w) ≡ true
  -- of a member's: the view changes as by the same steps of its own, and of c's by the same list of members' steps
  pub ours : (u w : World) → Sure m c u w → b.process ≡ c → are_ours m w (f w) ≡ true
  pub led : (u : World) (d : Whose) (w : World) → Sure m c u w → m b.process ≡ true → Led m c u d w (f w) (f (view m w))
  pub same : (u w : World) → Sure m c u w → b.process ≡ c → f (view m w) ≡ f w
  -- where rows that nothing names have gone
  pub alike : (k : Alive) (u : World) → Closed k u → k.ports b ≡ true → f (thin k u) ≡ f u
  pub stands : (k : Alive) (u : World) → Closed k u → k.ports b ≡ true → AreClosed k (f u)

-- a stage, behind which all is as sure as before it
pub record Stage (m : Group) (c : ℕ) (b : Birth) (f : Steps) : Type 0 where
  pub good : Good m c b f
  pub losses : (w : World) → AreLosses b (f w)

pub kept : (m : Group) (c : ℕ) (b : Birth) (f : Steps) → Stage m c b f → (u w : World) → Sure m c u w → Sure m c u (world_after w (f w))
kept m c b f s u w sure = sure-losses m c u b w (f w) (s.losses w) sure (s.good.asked u w sure)

-- two lists of entries
pub memo-append : (m : Group) (v : World) (memo : List Heard) (es fs : List Entry) → entries_memo m v memo (es ++ fs) ≡ entries_memo m (absorb_all v es) (entries_memo m v memo es) fs
memo-append m v memo [] fs = refl
memo-append m v memo (e ∷ es) fs = memo-append m (absorb v e) (entry_memo m v memo e) es fs

pub told-append : (m : Group) (c : ℕ) (u : World) (d : Whose) (bs cs : List Basic) → told_inputs m c u d (entries_of (bs ++ cs)) ≡ told_inputs m c u d (entries_of bs) ++ told_inputs m c u d (entries_of cs)
told-append m c u d bs cs = ap (told_inputs m c u d) (entries-append bs cs) ∙ filter-append (is_told_input m c u d) (entries_of bs) (entries_of cs)

-- what an outsider's steps tell members leaves the view behind them
pub absorbed-told : (m : Group) (c : ℕ) (u : World) (d : Whose) (w : World) (bs : List Basic) → m c ≡ true → are_apart m c u d w bs ≡ true → absorb_all (view m w) (told_inputs m c u d (entries_of bs)) ≡ view m (world_after w bs)
absorbed-told m c u d w bs c_in apart =
    ap (absorb_all (view m w)) (quiet-inputs m c u d (entries_of bs) (run-quiet m c u d w bs c_in apart)) ∙ sym (run-apart m c u d w bs apart)

pub mute-append : (m : Group) (c : ℕ) (u : World) (d : Whose) (w : World) (memo : List Heard) (bs cs : List Basic) → m c ≡ true → are_apart m c u d w bs ≡ true → entries_memo m (view m w) memo (told_inputs m c u d (entries_of bs)) ≡ memo → entries_memo m (view m (world_after w bs)) memo (told_inputs m c u d (entries_of cs)) ≡ memo
    → entries_memo m (view m w) memo (told_inputs m c u d (entries_of (bs ++ cs))) ≡ memo
mute-append m c u d w memo bs cs c_in apart one two =
    ap (entries_memo m (view m w) memo) (told-append m c u d bs cs)
    ∙ memo-append m (view m w) memo (told_inputs m c u d (entries_of bs)) (told_inputs m c u d (entries_of cs))
    ∙ ap (λ v. entries_memo m v (entries_memo m (view m w) memo (told_inputs m c u d (entries_of bs))) (told_inputs m c u d (entries_of cs))) (absorbed-told m c u d w bs c_in apart)
    ∙ ap (λ n. entries_memo m (view m (world_after w bs)) n (told_inputs m c u d (entries_of cs))) one ∙ two

-- one stage, and then the end
pub then-good : (m : Group) (c : ℕ) (b : Birth) (f g : Steps) → Stage m c b f → Good m c b g → Good m c b (f ▹ g)
then-good m c b f g s e = record {
  mild = λ w. every-append _ (f w) (g (world_after w (f w))) (s.good.mild w) (e.mild (world_after w (f w)));
  sent = λ w. append-sent w (f w) (g (world_after w (f w))) (s.good.sent w) (e.sent (world_after w (f w)));
  fair = λ u w sure. fair-append m c w (f w) (g (world_after w (f w))) (s.good.fair u w sure) (e.fair u (world_after w (f w)) (kept m c b f s u w sure));
  asked = λ u w sure. subst Asked (sym (after-append w (f w) (g (world_after w (f w))))) (e.asked u (world_after w (f w)) (kept m c b f s u w sure));
  apart = λ u d w sure out. apart-append m c u d w (f w) (g (world_after w (f w))) (s.good.apart u d w sure out) (e.apart u d (world_after w (f w)) (kept m c b f s u w sure) out);
  mute = λ u d w memo sure n out. mute-append m c u d w memo (f w) (g (world_after w (f w))) sure.c_in (s.good.apart u d w sure out) (s.good.mute u d w memo sure n out) (e.mute u d (world_after w (f w)) memo (kept m c b f s u w sure) n out);
  shown = λ u w sure n side is. shown-append false m side w (f w) (g (world_after w (f w))) (s.good.shown u w sure n side is) (e.shown u (world_after w (f w)) (kept m c b f s u w sure) n side is);
  ours = λ u w sure is. ours-append m w (f w) (g (world_after w (f w))) (s.good.ours u w sure is) (e.ours u (world_after w (f w)) (kept m c b f s u w sure) is);
  led = λ u d w sure is.
      let one : Led m c u d w (f w) (f (view m w)) = s.good.led u d w sure is in
      led-append m c u d w (f w) (f (view m w)) (g (world_after w (f w))) (g (world_after (view m w) (f (view m w)))) one
      (subst (λ v. Led m c u d (world_after w (f w)) (g (world_after w (f w))) (g v)) one.world (e.led u d (world_after w (f w)) (kept m c b f s u w sure) is));
  same = λ u w sure mine.
      let one : f (view m w) ≡ f w = s.good.same u w sure mine in
      let there : world_after (view m w) (f (view m w)) ≡ view m (world_after w (f w)) = ap (world_after (view m w)) one ∙ sym (run-ours m w (f w) (s.good.ours u w sure mine)) in
      ap (λ bs. bs ++ g (world_after (view m w) (f (view m w)))) one ∙ ap (λ v. f w ++ g v) there ∙ ap (λ bs. f w ++ bs) (e.same u (world_after w (f w)) (kept m c b f s u w sure) mine);
  alike = λ k u closed live.
      let one : f (thin k u) ≡ f u = s.good.alike k u closed live in
      let stands : AreClosed k (f u) = s.good.stands k u closed live in
      let there : world_after (thin k u) (f (thin k u)) ≡ thin k (world_after u (f u)) = ap (world_after (thin k u)) one ∙ sym (thin-run k u (f u) stands) in
      ap (λ bs. bs ++ g (world_after (thin k u) (f (thin k u)))) one ∙ ap (λ v. f u ++ g v) there
      ∙ ap (λ bs. f u ++ bs) (e.alike k (world_after u (f u)) (closed-run k u (f u) stands closed) live);
  stands = λ k u closed live.
      let one : AreClosed k (f u) = s.good.stands k u closed live in
      every-append _ (f u) (g (world_after u (f u))) one (e.stands k (world_after u (f u)) (closed-run k u (f u) one closed) live);
}

pub then-stage : (m : Group) (c : ℕ) (b : Birth) (f g : Steps) → Stage m c b f → Stage m c b g → Stage m c b (f ▹ g)
then-stage m c b f g s t = record {
  good = then-good m c b f g s t.good;
  losses = λ w. every-append _ (f w) (g (world_after w (f w))) (s.losses w) (t.losses (world_after w (f w)));
}
