use Rattle.lpc_rows.proofs.Suspecting as suspecting
use Rattle.lpc_rows.proofs.Steps.{none_lawful}
use Rattle.std.proofs.Common.{refl}
use Rattle.lpc_world.proofs.world.World.empty.Goals as goal

pub invariant_of-result : goal.invariant_of-result
invariant_of-result c = record {
  kept = rw (c.new.ensures.empty, c.new-2.ensures, c.new-3.ensures, c.new-4.ensures, c.new-9.ensures) (none_lawful c.new-5.result c.new-6.result c.new-7.result c.new-8.result c.new-5.ensures c.new-6.ensures.listed c.new-6.ensures.made c.new-7.ensures.listed c.new-7.ensures.made);
  watched = rw (c.new-3.ensures, c.none.ensures) (λ calm b there none. absurd (suspecting.no-port b there));
  lived = rw (c.new.ensures.empty) (λ calm. record { threads = refl; processes = refl });
}
