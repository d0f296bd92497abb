use Rattle.std.proofs.Common.{Option, Some, None, refl, ap, sym, ◌≡◌, ◌∙◌}
use Rattle.std.specs.Prelude.{is_some, option_map}
use Rattle.lpc_base.specs.Rows.{first}
use Rattle.lpc_slots.specs.Table.{at_key}
use Rattle.lpc_slots.specs.declared.Key.{Key}
use Rattle.lpc_ports.specs.declared.Port.{Port}
use Rattle.lpc_rows.proofs.Suspecting as suspecting
use Rattle.lpc_world.proofs.world.World.port_stands.Goals as goal

some-mapped : {A B : Type 0} (f : A → B) (o : Option A) → is_some o ≡ is_some (option_map f o)
some-mapped f None = refl
some-mapped f (Some x) = refl

pub returns : goal.returns
returns c =
    rw (← c.self.view_is, suspecting.stands-is (λ (p : Port). p.birth) c.self.inside.ports.ports c.args.port, c.is_some.ensures) (some-mapped _ c.get.result ∙ (ap is_some c.get.ensures ∙ sym (some-mapped (λ (row : Key × Port). row.1) (first (at_key c.args.port) c.self.inside.ports.ports))))
