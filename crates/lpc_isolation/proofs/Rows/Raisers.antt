-- Ports that are told of members' exceptions stay as the circle has them while threads end and events go on.
use Rattle.std.proofs.Common.{◌≡◌, List, [], ◌∷◌, Bool, true, false, not, refl}
use Rattle.std.specs.Prelude.{◌||◌}
use Rattle.std.proofs.Math.Bool.{or-true}
use Rattle.lpc_base.specs.Rows.{change, every, first}
use Rattle.lpc_base.proofs.Bools.{first-true, second-true}
use Rattle.lpc_base.proofs.RowWords.{every-change, every-more}
use Rattle.lpc_model.specs.World.{Birth, PortRow, ProcessRow, World}
use Rattle.lpc_model.specs.Found.{event_ports_of, is_port, is_process, is_server_port}
use Rattle.lpc_model.specs.Basics.{AddsProcess, Basic, Completes, Cuts, Dooms, Frees, Joins, LetsGo, Makes, Secures, SetsDebug, SetsException, basic, cut, doomed, is_end_of, portless, world_after}
use Rattle.lpc_model.specs.Linked.{passes_or_none}
use Rattle.lpc_model.specs.Circle.{Group, is_fine_event_port, is_fine_raiser, is_told_inside}
use Rattle.lpc_isolation.proofs.Views.Alone.{HasFineRaisers}
use Rattle.lpc_isolation.proofs.Closings.Mild.{AreMild, is_mild}

-- a step that sets no such port, and makes, joins and frees none
abbrev pub keeps_raisers : Basic → Bool
keeps_raisers (Makes p) = false
keeps_raisers (Joins client server context) = false
keeps_raisers (Completes b) = false
keeps_raisers (Secures b s) = false
keeps_raisers (AddsProcess p) = false
keeps_raisers (SetsDebug pid b) = false
keeps_raisers (SetsException pid b) = false
keeps_raisers (Frees o) = false
keeps_raisers b = true

-- a port whose connection is cut makes no tie
cut-port : (m : Group) (b d : Birth) (ps : List PortRow) → passes_or_none (first (is_port d) ps) (is_told_inside m) ≡ true → passes_or_none (first (is_port d) (change (is_end_of b) cut ps)) (is_told_inside m) ≡ true
cut-port m b d [] ok = refl
cut-port m b d (p ∷ ps) ok = at (is_end_of b p) (is_port d p) refl refl (cut-port m b d ps)
  where
    at : (e s : Bool) → is_end_of b p ≡ e → is_port d p ≡ s → (passes_or_none (first (is_port d) ps) (is_told_inside m) ≡ true → passes_or_none (first (is_port d) (change (is_end_of b) cut ps)) (is_told_inside m) ≡ true)
        → passes_or_none (first (is_port d) (change (is_end_of b) cut (p ∷ ps))) (is_told_inside m) ≡ true
    at true true end its rest = rw (end, its) (or-true (not (is_server_port p)))
    at true false end other rest = rw (end, other) (rest (rw other at ok))
    at false true off its rest = rw (off, its) (rw its at ok)
    at false false off other rest = rw (off, other) (rest (rw other at ok))

cut-raisers : (m : Group) (w : World) (b : Birth) → HasFineRaisers m w → HasFineRaisers m (basic w (Cuts b))
cut-raisers m w b all = every-more (is_fine_raiser m w) (is_fine_raiser m (basic w (Cuts b))) (λ p is. at p (m p.number) is) w.processes all
  where
    at : (p : ProcessRow) (e : Bool) → (not e || every (is_fine_event_port m w) (event_ports_of p)) ≡ true → (not e || every (is_fine_event_port m (basic w (Cuts b))) (event_ports_of p)) ≡ true
    at p true is = every-more (is_fine_event_port m w) (is_fine_event_port m (basic w (Cuts b))) (λ d ok. cut-port m b d w.ports ok) (event_ports_of p) is
    at p false is = refl

pub basic-raisers : (m : Group) (w : World) (b : Basic) → keeps_raisers b ≡ true → HasFineRaisers m w → HasFineRaisers m (basic w b)
basic-raisers m w (Cuts b) ok all = cut-raisers m w b all
basic-raisers m w (LetsGo pid) ok all = every-change (is_fine_raiser m w) (is_process pid) portless (λ p is. or-true (not (m p.number))) w.processes all
basic-raisers m w (Dooms pid code) ok all = every-change (is_fine_raiser m w) (is_process pid) (doomed code) (λ p is. is) w.processes all
basic-raisers m w (Makes p) ok all = absurd (cc)
basic-raisers m w (Joins client server context) ok all = absurd (cc)
basic-raisers m w (Completes b) ok all = absurd (cc)
basic-raisers m w (Secures b s) ok all = absurd (cc)
basic-raisers m w (AddsProcess p) ok all = absurd (cc)
basic-raisers m w (SetsDebug pid b) ok all = absurd (cc)
basic-raisers m w (SetsException pid b) ok all = absurd (cc)
basic-raisers m w (Frees o) ok all = absurd (cc)
basic-raisers m w b ok all = all

pub run-raisers : (m : Group) (w : World) (bs : List Basic) → every keeps_raisers bs ≡ true → HasFineRaisers m w → HasFineRaisers m (world_after w bs)
run-raisers m w [] ok all = all
run-raisers m w (b ∷ bs) ok all = run-raisers m (basic w b) bs (second-true _ _ ok) (basic-raisers m w b (first-true _ _ ok) all)

-- steps by which threads end
mild-keeps : (b : Basic) → is_mild b ≡ true → keeps_raisers b ≡ true
mild-keeps (Makes p) is = absurd (cc)
mild-keeps (Joins client server context) is = absurd (cc)
mild-keeps (Completes b) is = absurd (cc)
mild-keeps (Secures b s) is = absurd (cc)
mild-keeps (AddsProcess p) is = absurd (cc)
mild-keeps (SetsDebug pid b) is = absurd (cc)
mild-keeps (SetsException pid b) is = absurd (cc)
mild-keeps (Frees o) is = absurd (cc)
mild-keeps b is = refl

pub mild-raisers : (m : Group) (w : World) (bs : List Basic) → AreMild bs → HasFineRaisers m w → HasFineRaisers m (world_after w bs)
mild-raisers m w bs is all = run-raisers m w bs (every-more is_mild keeps_raisers mild-keeps bs is) all
