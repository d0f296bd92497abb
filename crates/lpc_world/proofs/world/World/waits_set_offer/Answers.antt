use Rattle.std.proofs.Common.{arith, refl}
use Rattle.lpc_rows.specs.Shown.{tables_of}
use Rattle.lpc_rows.proofs.Offering as offering
use Rattle.lpc_rows.proofs.Steps as steps
use Rattle.lpc_rows.proofs.Suspected as suspected
use Rattle.lpc_rows.specs.Kept.{rows_by}
use Rattle.lpc_rows.specs.Shown.{births_of}
use Rattle.lpc_rows.specs.Shown.{birth_of}
use Rattle.lpc_rows.specs.Shown.{shown_offer}
use Rattle.lpc_rows.specs.Shown.{with_offer}
use Rattle.std.specs.Prelude.{option_map}
use Rattle.lpc_model.specs.Found.{waits_as}
use Rattle.lpc_world.proofs.world.World.waits_set_offer.Goals as goal

pub set_offer-requires : goal.set_offer-requires
set_offer-requires c = record { waits = steps.some_wait (tables_of c.self.inside.procs c.self.inside.parts.items c.self.inside.ports c.self.inside.waits c.self.inside.names c.self.inside.sections c.self.inside.tokens c.self.inside.token_names c.self.inside.marks) c.self.inside.calls c.self.inside.made c.self.invariant.kept c.args.tid (rw (← c.self.view_is) at c.requires.waits) }

pub invariant_of-self : goal.invariant_of-self
invariant_of-self c = record {
  kept =
      rw c.set_offer.ensures.table (offering.offered_lawful (tables_of c.self.inside.procs c.self.inside.parts.items c.self.inside.ports c.self.inside.waits c.self.inside.names c.self.inside.sections c.self.inside.tokens c.self.inside.token_names c.self.inside.marks) c.self.inside.calls c.self.inside.made c.args.tid c.self.invariant.kept c.args.offer (rw (← c.self.view_is) at c.requires.section));
  watched = rw (c.set_offer.ensures.table) (suspected.waits-to (rows_by (tables_of c.self.inside.procs c.self.inside.parts.items c.self.inside.ports c.self.inside.waits c.self.inside.names c.self.inside.sections c.self.inside.tokens c.self.inside.token_names c.self.inside.marks)) (births_of (tables_of c.self.inside.procs c.self.inside.parts.items c.self.inside.ports c.self.inside.waits c.self.inside.names c.self.inside.sections c.self.inside.tokens c.self.inside.token_names c.self.inside.marks)).ports c.self.inside.suspects c.self.invariant.watched _ (waits_as c.args.tid) (with_offer (option_map (shown_offer (birth_of (births_of (tables_of c.self.inside.procs c.self.inside.parts.items c.self.inside.ports c.self.inside.waits c.self.inside.names c.self.inside.sections c.self.inside.tokens c.self.inside.token_names c.self.inside.marks)))) c.args.offer)) (λ x. refl) (offering.offers (tables_of c.self.inside.procs c.self.inside.parts.items c.self.inside.ports c.self.inside.waits c.self.inside.names c.self.inside.sections c.self.inside.tokens c.self.inside.token_names c.self.inside.marks) c.self.inside.calls c.self.inside.made c.args.tid c.self.invariant.kept c.args.offer));
  lived = λ calm. let held = c.self.invariant.lived calm in record { threads = held.threads; processes = held.processes };
}

pub returns-clause-step : goal.returns-clause-step
returns-clause-step c = record {
  rows = rw (← c.self.view_is, c.set_offer.ensures.table) (offering.offers (tables_of c.self.inside.procs c.self.inside.parts.items c.self.inside.ports c.self.inside.waits c.self.inside.names c.self.inside.sections c.self.inside.tokens c.self.inside.token_names c.self.inside.marks) c.self.inside.calls c.self.inside.made c.args.tid c.self.invariant.kept c.args.offer);
  births = rw (← c.self.view_is) refl;
  calls = rw (← c.self.view_is) refl;
  made =
      let owed = offering.offered_owed (tables_of c.self.inside.procs c.self.inside.parts.items c.self.inside.ports c.self.inside.waits c.self.inside.names c.self.inside.sections c.self.inside.tokens c.self.inside.token_names c.self.inside.marks) c.self.inside.calls c.self.inside.made c.args.tid c.self.invariant.kept c.args.offer in
      rw (← c.self.view_is, c.set_offer.ensures.table) (omega (arith, owed));
  room = rw (← c.self.view_is, c.set_offer.ensures.table) (offering.offered_room (tables_of c.self.inside.procs c.self.inside.parts.items c.self.inside.ports c.self.inside.waits c.self.inside.names c.self.inside.sections c.self.inside.tokens c.self.inside.token_names c.self.inside.marks) c.self.inside.calls c.self.inside.made c.args.tid c.self.invariant.kept c.args.offer c.self.inside.parts.room);
}
