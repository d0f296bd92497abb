-- NtCreatePort in a view.
use Rattle.std.proofs.Common.{◌≡◌, ℕ, List, true, false, Option, Some, refl, ap, sym, subst, ◌∙◌, ◌++◌}
use Rattle.lpc_base.proofs.Bools.{same-number}
use Rattle.lpc_model.specs.World.{ThreadRow, World, Dacl}
use Rattle.lpc_model.specs.Found.{free_handle}
use Rattle.lpc_model.specs.Basics.{Basic}
use Rattle.lpc_model.specs.Connect.{create_steps, making, named_steps, nt_create_port, unnamed_steps, guard_steps}
use Rattle.lpc_model.specs.Tests.{handles_test, next_birth}
use Rattle.lpc_names.specs.Walk.{Path}
use Rattle.lpc_model.specs.Circle.{Group, Whose, owner}
use Rattle.lpc_isolation.proofs.Views.View.{view}
use Rattle.lpc_isolation.proofs.Views.Basics.{are_ours}
use Rattle.lpc_isolation.proofs.Rows.Fair.{Fair, are_fair}
use Rattle.lpc_isolation.proofs.Views.Seen.{free-view}
use Rattle.lpc_isolation.proofs.Views.Apart.{are_apart}
use Rattle.lpc_isolation.proofs.Views.Callers.{handles_test-view, on_ok, unseen-thread}

-- the steps: a member's, fair, an outsider's
pub unnamed-ours : (m : Group) (w : World) (by : ThreadRow) (value : ℕ) → m by.process ≡ true → are_ours m w (create_steps by (unnamed_steps (next_birth by)) value) ≡ true
unnamed-ours m w by value is = rw is refl

pub named-ours : (m : Group) (w : World) (by : ThreadRow) (path : Path) (value : ℕ) → m by.process ≡ true → are_ours m w (create_steps by (named_steps (next_birth by) path) value) ≡ true
named-ours m w by path value is = rw is refl

pub unnamed-fair : (m : Group) (c : ℕ) (w : World) (by : ThreadRow) (value : ℕ) → are_fair m c w (create_steps by (unnamed_steps (next_birth by)) value) ≡ true
unnamed-fair m c w by value = rw (same-number by.process) refl

pub named-fair : (m : Group) (c : ℕ) (w : World) (by : ThreadRow) (path : Path) (value : ℕ) → are_fair m c w (create_steps by (named_steps (next_birth by) path) value) ≡ true
named-fair m c w by path value = rw (same-number by.process) refl

pub unnamed-apart : (m : Group) (c : ℕ) (u : World) (d : Whose) (w : World) (by : ThreadRow) (value : ℕ) → Fair m c w → owner w by.number ≡ Some by.process → owner u by.number ≡ Some by.process → m by.process ≡ false
    → are_apart m c u d w (create_steps by (unnamed_steps (next_birth by)) value) ≡ true
unnamed-apart m c u d w by value f own here out = rw (here, unseen-thread m c w by.number by.process f own out, out) refl

pub named-apart : (m : Group) (c : ℕ) (u : World) (d : Whose) (w : World) (by : ThreadRow) (path : Path) (value : ℕ) → Fair m c w → owner w by.number ≡ Some by.process → owner u by.number ≡ Some by.process → m by.process ≡ false
    → are_apart m c u d w (create_steps by (named_steps (next_birth by) path) value) ≡ true
named-apart m c u d w by path value f own here out = rw (here, unseen-thread m c w by.number by.process f own out, out) refl

-- of c, in the view as in the world, where the name is seen alike
pub create-c : (m : Group) (c : ℕ) (w : World) (by : ThreadRow) (name : Option (List ℕ)) (dacl : Option Dacl) → m c ≡ true → by.process ≡ c → Fair m c w → making (view m w) (next_birth by) name ≡ making w (next_birth by) name → nt_create_port (view m w) by name dacl ≡ nt_create_port w by name dacl
unfolding nt_create_port
create-c m c w by name dacl c_in mine f same =
    let by_in : m by.process ≡ true = ap m mine ∙ c_in in
    let test : handles_test (view m w) by.process 1 ≡ handles_test w by.process 1 = subst (λ p. handles_test (view m w) p 1 ≡ handles_test w p 1) (sym mine) (handles_test-view m c w 1 c_in f) in
    rw (same, test, free-view m w by.process by_in) refl

-- of another member, by what it was told
abbrev pub led_create : World → ThreadRow → Option (List ℕ) → Option Dacl → List Basic
led_create v by name dacl = on_ok (making v (next_birth by) name) (λ made. create_steps by made (free_handle v by.process) ++ guard_steps (next_birth by) name dacl)
