use Rattle.std.proofs.Common.{Bool, List, [], ◌∷◌, ◌≡◌, ◌∙◌, sym, refl, true, false}
use Rattle.std.specs.Prelude.{slice_get}
use Rattle.lpc_slots.specs.declared.Key.{Key}
use Rattle.lpc_rows.specs.Kept.{rows_by}
use Rattle.lpc_rows.specs.Shown.{births_of, tables_of}
use Rattle.lpc_rows.proofs.Suspecting as suspecting
use Rattle.lpc_world.specs.Suspected.{suspect_of}
use Rattle.lpc_world.specs.declared.suspects.Suspect.{Suspect}
use Rattle.lpc_world.specs.declared.suspects.Suspect.TheVariants.{Anybody, Nobody}
use Rattle.lpc_world.proofs.world.World.suspect.Goals as goal

none-any : (c : Bool) (r : Suspect) → (c ≡ true → r ≡ Anybody) → r ≡ Nobody → c ≡ false
none-any true r any nobody = absurd (clash (sym (any refl) ∙ nobody))
  where
    clash : Anybody ≡ Nobody → ⊥
    clash is = absurd (cc)
none-any false r any nobody = refl

none-left : (keys : List Key) → suspect_of (slice_get keys 0) ≡ Nobody → keys ≡ []
none-left [] nobody = refl
none-left (k ∷ ks) nobody = absurd (cc)

pub returns : goal.returns
returns c = record {
  nobody = λ nobody.
      let calm = none-any c.self.inside.suspects.any c.first.result c.first.ensures.any nobody in
      let none = none-left c.self.inside.suspects.keys (sym (c.first.ensures.port calm) ∙ nobody) in
      rw (← c.self.view_is) (suspecting.all-held (rows_by (tables_of c.self.inside.procs c.self.inside.parts.items c.self.inside.ports c.self.inside.waits c.self.inside.names c.self.inside.sections c.self.inside.tokens c.self.inside.token_names c.self.inside.marks)) (births_of (tables_of c.self.inside.procs c.self.inside.parts.items c.self.inside.ports c.self.inside.waits c.self.inside.names c.self.inside.sections c.self.inside.tokens c.self.inside.token_names c.self.inside.marks)).ports c.self.inside.suspects c.self.invariant.watched calm none);
}
