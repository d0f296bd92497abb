use Rattle.std.proofs.Common.{Bool, List, [], ◌∷◌, ◌≡◌, ◌∙◌, cond, sym, refl, true, false}
use Rattle.std.specs.Prelude.{slice_get}
use Rattle.lpc_base.specs.declared.birth.Birth.{Birth}
use Rattle.lpc_rows.specs.Kept.{rows_by}
use Rattle.lpc_rows.specs.Shown.{tables_of}
use Rattle.lpc_rows.specs.Suspects.{LifeTable}
use Rattle.lpc_rows.proofs.Lived as lived
use Rattle.lpc_world.specs.Suspected.{first_life, thread_suspect}
use Rattle.lpc_world.specs.declared.suspected_lives.LifeSuspect.TheVariants.{Anybody, Nobody}
use Rattle.lpc_world.proofs.world.World.life_suspect.Goals as goal

none-left : (s : LifeTable) → first_life s ≡ Nobody → (s.any ≡ false) × ((s.threads ≡ []) × (s.processes ≡ []))
none-left s nobody = at s.any s.threads s.processes nobody
  where
    at : (c : Bool) (ts ps : List Birth) → cond c Anybody (thread_suspect (slice_get ts 0) (slice_get ps 0)) ≡ Nobody → (c ≡ false) × ((ts ≡ []) × (ps ≡ []))
    at true ts ps is = absurd (cc)
    at false [] [] is = (refl, (refl, refl))
    at false [] (p ∷ ps) is = absurd (cc)
    at false (t ∷ ts) ps is = absurd (cc)

pub returns : goal.returns
returns c = record {
  nobody = λ nobody.
      let none = none-left c.self.inside.lives (sym c.first.ensures ∙ nobody) in
      rw (← c.self.view_is) (lived.all-held (rows_by (tables_of c.self.inside.procs c.self.inside.parts.items c.self.inside.ports c.self.inside.waits c.self.inside.names c.self.inside.sections c.self.inside.tokens c.self.inside.token_names c.self.inside.marks)) c.self.inside.lives (c.self.invariant.lived none.0) none.1.0 none.1.1);
}
