-- The two ends of the walk through `slice_mut`: bytes are lent, or there is a fault.
use Rattle.std.proofs.Common.{◌≡◌, ℕ, List, [], ◌∷◌, MutBor}
use Rattle.std.specs.Prelude.{Ok, Err, Some, None}
use Rattle.std.specs.contracts.result.Result as RS
use Rattle.std.specs.declared.clone.Clone as clone
use Rattle.std.specs.declared.cmp.Eq as equal
use Rattle.std.specs.declared.cmp.PartialEq as partial
use base.Fml.{flft, fres}
use base.Logic.{SProp, ent, sep}
use contract.Running.{Running}
use denote.Array.{Array}
use denote.Builtin.{u8, u32}
use denote.Exit.{yes, no}
use denote.Follow.{follows, follows_by}
use denote.Param.{copied}
use denote.RattleType.{RattleType}
use denote.Signature.{plain, mut_ref_to, shr_ref_to}
use denote.Slice.{MutSlice}
use denote.Steps.{nothing}
use denote.Triple.Clauses.{Clauses, Ended}
use denote.Triple.Walked.{Stays, ends_at, says, stay_dropped, walk_of}
use mir.Syntax.{Dict, named}
use mir.Val.{Val}
use prog.Model.{Model}
use seplogic.Ra.Ura.{Ura}
use types.Kit.{‵, ◌$◌, ◌∵◌, !, qed, done, move, join, fjoin, suffices, frame}
use types.Logic.{Logic, sem}
use Rattle.lpc_sections.specs.contracts.section.Section as section
use Rattle.lpc_slots.specs.contracts.Slots as slots
use Rattle.lpc_views.specs.Parts.{writable_bytes, written}
use Rattle.lpc_views.specs.Views.{view_of}
use Rattle.lpc_views.specs.contracts.space.Space as space
use Rattle.lpc_views.specs.contracts.space.Space.slice_mut as f
use Rattle.lpc_views.specs.contracts.view.Fault as fault

abbrev pub R : RattleType
R = slots.the_row section.the_row

abbrev pub A : RattleType
A = Array u8 0

module _ (X : RattleType) where
  abbrev pub S : RattleType
  S = space.the_row (copied 0 X)

  module _ (cl : clone.Ghosts X.Denot) (cld : Dict) (eq : equal.Ghosts X.Denot) (eqd : Dict) (pe : partial.Ghosts X.Denot) (ped : Dict) where
    abbrev pub En : Ended
    En = f.ended X cl cld eq eqd pe ped

    abbrev pub hs : Stays En.signature.params En.kept
    hs = (stay_dropped (shr_ref_to (0 ∷ []) tt (plain (λ _. S))) yes, (stay_dropped (mut_ref_to (1 ∷ []) tt (plain (λ _. R))) no, (stay_dropped (plain (λ _. u32)) yes, (stay_dropped (plain (λ _. u32)) yes, tt))))

    module _ {M : Type 1} {𝓤 : Ura M} (𝓛 : Logic 𝓤) (𝓜 : Model 𝓤 𝓛.H) (𝓡 : Running 𝓤 𝓛.H 𝓜) where
      abbrev pub c : Clauses 𝓤 En
      c = f.clauses X cl cld eq eqd pe ped 𝓛 𝓜.mem 𝓡.returns

      module _ (y : (walk_of 𝓛 En hs c).Ghost) where
        abbrev Ref : RattleType
        Ref = MutSlice (named 1) y.0.0.1.0 u8

        abbrev tokens : SProp 𝓤 → SProp 𝓤
        tokens rest = sep 𝓤 (sem 𝓛 (flft y.0.0.0 y.0.1.0)) (sep 𝓤 (sem 𝓛 (flft y.0.0.1.0 y.0.1.1.0)) (sep 𝓤 (sem 𝓛 (flft y.0.0.1.1.0 y.0.1.1.1.0)) rest))

        pub lends : (r : MutBor (List ℕ)) (v : Val) → Some r.now ≡ writable_bytes y.0.3.1.0.now y.0.3.0.now.views y.0.3.1.1.0 y.0.3.1.1.1.0
            → ent 𝓤 (sep 𝓤 (sem 𝓛 ((RS.the_row Ref fault.the_row).own_val (Ok r) (v ∷ []))) (tokens (sem 𝓛 (follows R A y.0.3.1.0.ghost_name r.ghost_name (written y.0.3.1.0.now y.0.3.1.1.0 (view_of y.0.3.0.now.views y.0.3.1.1.0 y.0.3.1.1.1.0)))))) ((walk_of 𝓛 En hs c).post y v)
        unfolding follows_by
        lends r v is =
            qed 𝓛 (‵ ((RS.the_row Ref fault.the_row).own_val (Ok r) (v ∷ [])) ∷ ‵ (flft y.0.0.0 y.0.1.0) ∷ ‵ (flft y.0.0.1.0 y.0.1.1.0) ∷ ‵ (flft y.0.0.1.1.0 y.0.1.1.1.0)
            ∷ ‵ (follows R A y.0.3.1.0.ghost_name r.ghost_name (written y.0.3.1.0.now y.0.3.1.1.0 (view_of y.0.3.0.now.views y.0.3.1.1.0 y.0.3.1.1.1.0))) ∷ []) ∵
            suffices ! _ (ends_at 𝓛 En hs c y v (Ok r) (tt, (tt, (tt, (tt, tt)))) (tt, (tt, (tt, (tt, tt))))) $
            nothing ! $ nothing ! $ fjoin ! $ nothing ! $ fjoin ! $ nothing ! $ fjoin ! $ nothing ! $ fjoin ! $ join ! $
            nothing ! $ move ! (4 ∷ 0 ∷ []) $ join ! $ move ! (3 ∷ 0 ∷ []) $ join ! $ move ! (2 ∷ 0 ∷ []) $ join ! $ join ! $ frame ! $ says ! is $ done !

        pub refuses : (v : Val) → None ≡ writable_bytes y.0.3.1.0.now y.0.3.0.now.views y.0.3.1.1.0 y.0.3.1.1.1.0
            → ent 𝓤 (sep 𝓤 (sem 𝓛 ((RS.the_row Ref fault.the_row).own_val (Err (record {})) (v ∷ []))) (tokens (sem 𝓛 (fres y.0.3.1.0.ghost_name (R.coded.code y.0.3.1.0.now))))) ((walk_of 𝓛 En hs c).post y v)
        unfolding follows_by
        refuses v is =
            qed 𝓛 (‵ ((RS.the_row Ref fault.the_row).own_val (Err (record {})) (v ∷ [])) ∷ ‵ (flft y.0.0.0 y.0.1.0) ∷ ‵ (flft y.0.0.1.0 y.0.1.1.0) ∷ ‵ (flft y.0.0.1.1.0 y.0.1.1.1.0)
            ∷ ‵ (fres y.0.3.1.0.ghost_name (R.coded.code y.0.3.1.0.now)) ∷ []) ∵
            suffices ! _ (ends_at 𝓛 En hs c y v (Err (record {})) (tt, (tt, (tt, (tt, tt)))) (tt, (tt, (tt, (tt, tt))))) $
            nothing ! $ nothing ! $ fjoin ! $ nothing ! $ fjoin ! $ nothing ! $ fjoin ! $ nothing ! $ fjoin ! $ join ! $
            nothing ! $ move ! (4 ∷ 0 ∷ []) $ join ! $ move ! (3 ∷ 0 ∷ []) $ join ! $ move ! (2 ∷ 0 ∷ []) $ join ! $ join ! $ frame ! $ says ! is $ done !
