-- The rows that go at the end of a line: what such steps pass, and what a line and they keep.
use Rattle.std.proofs.Common.{List, [], arith, map, refl, true, ◌∷◌, ◌≡◌}
use Rattle.std.specs.Prelude.{Bool}
use Rattle.lpc_base.specs.Rows.{every}
use Rattle.lpc_base.proofs.RowWords.{every-append}
use Rattle.lpc_model.specs.World.{ObjectName, World}
use Rattle.lpc_model.specs.Basics.{Basic, Frees, world_after}
use Rattle.lpc_model.specs.Lines.{ScriptLine}
use Rattle.lpc_model.specs.Machine.{bare_steps, step}
use Rattle.lpc_model.specs.Sweep.{free_unheld, sweep, unheld}
use Rattle.lpc_model.proofs.Steps.InTurn.{after-append}

-- Objects that go at the end of a line
frees_every : (p : Basic → Bool) → ((o : ObjectName) → p (Frees o) ≡ true) → (os : List ObjectName) → every p (map Frees os) ≡ true
frees_every p frees [] = refl
frees_every p frees (o ∷ os) = grind (arith, frees o, frees_every p frees os)

pub sweep_every : (p : Basic → Bool) → ((o : ObjectName) → p (Frees o) ≡ true) → (w : World) → every p (sweep w) ≡ true
unfolding sweep
sweep_every p frees w =
    let v = world_after w (free_unheld w) in
    every-append p (free_unheld w) (free_unheld v) (frees_every p frees (unheld w)) (frees_every p frees (unheld v))

-- what a line and the objects that go keep, the line's step keeps
pub stepped : (Q : World → Type 0) (w : World) (line : ScriptLine) → ((v : World) → Q v → Q (world_after v (sweep v))) → Q (world_after w (bare_steps line w)) → Q (step w line).world
stepped Q w line sweeps is = let bs = bare_steps line w in rw (after-append w bs (sweep (world_after w bs))) (sweeps (world_after w bs) is)
