-- The part that a call lends is handed on where the call says so, and else given up: a walk of the MIR.
use Rattle.std.proofs.Common.{◌≡◌, ℕ, ◌<◌, ◌^◌, Bool, List, [], ◌∷◌, ◌++◌, length, refl, ap, ◌∙◌, lit<, w32, MutBor}
use Rattle.std.proofs.raw_atomic.Walks.{proved}
use Rattle.std.proofs.VecSteps.Element.{Some-of, none_of}
use Rattle.std.specs.Prelude.{if◌then◌else◌, Some, None}
use Rattle.std.specs.contracts.option.Option as OP
use base.Logic.{id⊢}
use base.Fml.{ftrue, flft, fobs, fres}
use mir.Syntax.{named}
use mir.Val.{Val, vstruct, of_list}
use contract.Monad.{fact}
use contract.Running.{tables}
use types.Kit.{‵, raw, ◌⊛◌, some, later, at_ret, ◌$◌, ◌∵◌, !, qed, done, move, keep, drop, use0, use1, use2, split, join, fsplit, fjoin, fpick, feq_l, pick, await, rewrite, suffices, frame}
use types.Part.{whole, sub, agg}
use types.Run.{enter, of_opd, lit, addr, from, fld, hop, stop, no_more, and_then, first, branches, exec, returns}
use types.ByLocal.{alloc_all, pass_all, free_all, look_at, look_in_at, get, get_in, through, sets, sets_last, lands_as, env}
use types.Match.{live}
use denote.Array.{Array}
use denote.Builtin.{u8, u32, bool}
use denote.Exit.{yes, no}
use denote.Follow.{follows, follows_by, followed}
use denote.FollowSlice.{heres_id}
use denote.Plain.{uint_vals, uint_Tells}
use denote.Ref.{mut_vals, mut_Tells}
use denote.Shadow.{pure_l, pure_i}
use denote.Signature.{plain, mut_ref_to}
use denote.Slice.{MutSlice, room, slice_val, mut_slice_at}
use denote.Steps.{nothing, heard, only}
use denote.Struct.Tuple.{Tuple}
use denote.Triple.Call.{calls_at}
use denote.Triple.Clauses.{Lasts, lasts}
use denote.Triple.Spec.{triple_of}
use denote.Triple.Table.{framed}
use denote.Triple.Walked.{Stays, walk_of, says, stay_dropped, Goes-dropped, Goes-spent_ref, ends_at}
use Rattle.lpc_sections.specs.Sections.{SectionRow, is_within, part, with_part}
use Rattle.lpc_sections.specs.contracts.section.Section.{the_row as R}
use Rattle.lpc_sections.specs.contracts.section.Section.bytes_mut as f
use Rattle.lpc_sections.specs.contracts.section.Section.tested_mut as g
use Rattle.lpc_sections.proofs.Over.{place_there, value_there, same_there, none_there}
use Rattle.lpc_sections.proofs.section.Section.tested_mut.Met.{met}
use Rattle.lpc_sections.proofs.section.Section.bytes_mut.Statement.{statement}
use Rattle.lpc_sections.proofs.section.Section.bytes_mut.Code as code

abbrev stayed : Stays f.ended.signature.params f.ended.kept
stayed = (stay_dropped (mut_ref_to (0 ∷ []) tt (plain (λ _. R))) no, (stay_dropped (plain (λ _. u32)) yes, (stay_dropped (plain (λ _. u32)) yes, tt)))

pub bytes_mut_spec : {M : Type 1} → statement M
unfolding follows_by
bytes_mut_spec 𝓤 𝓛 𝓜 𝓡 wired =
    let c = f.clauses 𝓛 𝓜.mem 𝓡.returns in let W = walk_of 𝓛 f.ended stayed c in let 𝓣 = tables 𝓤 𝓛.H 𝓜 𝓡 𝓡.env in
    let goes = Goes-dropped 𝓛 1 (plain (λ _. u32)) yes (λ κs x w. refl) in
    proved 𝓛 f.ended stayed c 𝓜 𝓡 (Goes-spent_ref 𝓛 1 (0 ∷ []) tt (plain (λ _. R)), (goes, (goes, tt)))
    f.Key.name code.function (code.unfolded 𝓤 𝓛.H 𝓜 𝓡 wired)
    (λ κs. (mut_vals, (uint_vals w32, (uint_vals w32, tt)))) (λ κs. (mut_Tells (named 0) κs.0 R, (uint_Tells w32, (uint_Tells w32, tt)))) (λ κs qs bounds a _ are.
    let κ = κs.0 in let q = qs.0 in let s = a.0 in let γ = s.ghost_name in let at = a.1.0 in let len = a.1.1.0 in
    let Ref = MutSlice (named 0) κ u8 in
    let Pair = Tuple (bool ∷ Ref ∷ []) in
    let A = Array u8 0 in
    let inside = is_within s.now at len in
    let there = part s.now at len in
    let G = triple_of 𝓛 g.signature (g.spec 𝓛 𝓜.mem 𝓡.returns) in
    let y : W.Ghost = ((κs, qs, bounds, a, (mut_vals s, (uint_vals w32 at, (uint_vals w32 len, tt)))), tt) in
    let z : G.Ghost = ((κs, qs, bounds, a, (mut_vals s, (uint_vals w32 at, (uint_vals w32 len, tt)))), tt) in
    qed 𝓛 (raw (G.pre z) ∷ []) ∵
    enter ! _ _ _ _ _ $ alloc_all ! (λ l. pass_all ! refl ((tt, tt), ((tt, record { fits = are.1.0.1 }), ((tt, record { fits = are.1.1.0.1 }), tt))) $
    sets ! (addr ! (through ! refl (stop !))) refl (tt, tt) $
    calls_at ! (framed 𝓤 𝓛.H 𝓜 (tables 𝓤 𝓛.H 𝓜 𝓡 𝓡.env)) G (met 𝓤 𝓛 𝓜 𝓡 (code.calls-lpc_sections::section::Section::tested_mut 𝓡.env wired)) z
    (and_then ! (get ! refl) (and_then ! (get ! refl) (and_then ! (get ! refl) (no_more !)))) (λ v.
    use1 𝓛 (later (some (λ (r : Bool × MutBor (List ℕ)). ((‵ (flft κ q) ⊛ ‵ ftrue) ⊛ ‵ (Pair.own_val r (v ∷ []))) ⊛ some (λ (ws : Lasts g.ended κs a). ‵ (lasts g.ended κs a ws)
    ⊛ (‵ (follows R A γ r.1.ghost_name (with_part s.now (if inside then at else 0))) ⊛ (raw (fact 𝓤 (r.0 ≡ inside)) ⊛ raw (fact 𝓤 (r.1.now ≡ (if inside then there else [])))))))))
    (id⊢ 𝓤 _) $ await ! tt $ pick ! (λ r. split ! $ split ! $ split ! $ move ! (1 ∷ []) $ drop ! $ move ! (2 ∷ []) $ pick ! (λ ws. split ! $ drop ! $ split ! $ move ! (1 ∷ []) $ split ! $
    heard ! _ (λ is_inside. heard ! _ (λ is_there.
    -- [follows; the token; the pair]
    move ! (2 ∷ []) $ fpick ! (λ vss. fsplit ! $ feq_l ! (λ ev. fsplit ! $ feq_l ! (λ eb. fsplit ! $ fsplit ! $ fsplit ! $ feq_l ! (λ es. pure_l ! (room u8 (length r.1.now)) (λ rm.
    -- [the slice's name and borrow; nothing; follows; the token]
    let n : ℕ = length r.1.now in
    let fits : n < 2 ^ 64 = rm.0 in
    let sv : Val = slice_val r.1.ref_ptr n in
    let some_v : Val = live 1 (of_list (sv ∷ [])) in
    let none_v : Val = live 0 (of_list []) in
    lands_as ! (ap only ev ∙ (λ i. vstruct (of_list (eb i ++ (es i ++ []))))) refl (tt, (tt, ((tt, (record { fits = fits }, tt)), tt))) $
    sets ! (of_opd ! (get_in ! (fld ! refl (stop !)) (sub ! 0 refl (whole !)))) refl (tt, tt) $
    sets ! (of_opd ! (get_in ! (fld ! refl (stop !)) (sub ! 1 refl (whole !)))) refl (tt, (tt, (record { fits = fits }, tt))) $
    sets ! (of_opd ! (get ! refl)) refl (tt, tt) $
    first ! $ branches ! (get ! refl)
    (λ t.
    sets ! (addr ! (from ! (fld ! refl (hop ! (look_in_at ! 5 (sub ! 0 refl (whole !))) (stop !))))) refl (tt, tt) $
    sets ! (agg ! (and_then ! (get ! refl) (and_then ! (get_in ! (fld ! refl (stop !)) (sub ! 1 refl (whole !))) (no_more !)))) refl (tt, (tt, (record { fits = fits }, tt))) $
    sets_last ! (agg ! (and_then ! (lit ! tt) (and_then ! (get ! refl) (no_more !)))) refl (tt, (record { fits = lit< tt }, ((tt, (record { fits = fits }, tt)), tt))) $
    exec ! 𝓣.C 𝓣.Λ (env code.Mir.locals l) code.Mir.t-7 (at_ret _ (W.post y)) $
    sets ! (of_opd ! (get ! refl)) refl (tt, (record { fits = lit< tt }, ((tt, (record { fits = fits }, tt)), tt))) $
    returns ! (look_at ! 0 refl) $ free_all ! refl $ keep ! (0 ∷ 2 ∷ 3 ∷ []) $
    pure_i ! (mut_slice_at u8 r.1 (sv ∷ [])) (tt, (tt, tt)) (refl, rm) $ fjoin ! $
    use1 𝓛 (‵ ((OP.the_row Ref).own_val (Some r.1) (some_v ∷ []))) (Some-of 𝓛 Ref r.1 sv) $
    move ! (1 ∷ []) $ rewrite ! 0 (λ (k : ℕ). ‵ (follows R A γ r.1.ghost_name (with_part s.now k))) (place_there r.0 inside at is_inside t) refl $
    move ! (1 ∷ 2 ∷ 0 ∷ []) $
    suffices ! _ (ends_at 𝓛 f.ended stayed c y some_v (Some r.1) (tt, (tt, (tt, tt))) (tt, (tt, (tt, tt)))) $
    nothing ! $ nothing ! $ fjoin ! $ nothing ! $ fjoin ! $ nothing ! $ fjoin ! $ join ! $ nothing ! $ move ! (2 ∷ 0 ∷ []) $ join ! $ join ! $ frame ! $ says ! (value_there r.0 inside r.1.now there is_inside t is_there) $ done !)
    (λ t.
    sets_last ! (agg ! (and_then ! (lit ! tt) (no_more !))) refl (tt, (record { fits = lit< tt }, tt)) $
    exec ! 𝓣.C 𝓣.Λ (env code.Mir.locals l) code.Mir.t-7 (at_ret _ (W.post y)) $
    sets ! (of_opd ! (get ! refl)) refl (tt, (record { fits = lit< tt }, tt)) $
    returns ! (look_at ! 0 refl) $ free_all ! refl $ fsplit ! $ keep ! (0 ∷ 3 ∷ 4 ∷ []) $
    rewrite ! 0 (λ (l : List ℕ). ‵ (fobs r.1.ghost_name (A.coded.code l))) (heres_id u8 r.1.now) refl $
    use1 𝓛 (‵ (fres r.1.ghost_name (A.coded.code r.1.now))) (𝓛.names.obs-res r.1.ghost_name (A.coded.code r.1.now)) $
    move ! (1 ∷ 0 ∷ []) $ use2 𝓛 (‵ (fres γ (R.coded.code (with_part s.now (if inside then at else 0) r.1.now)))) (followed 𝓛 R A (with_part s.now (if inside then at else 0)) γ r.1.ghost_name r.1.now) $
    rewrite ! 0 (λ (x : SectionRow). ‵ (fres γ (R.coded.code x))) (same_there s.now r.0 inside at r.1.now there is_inside t is_there) refl $
    move ! (1 ∷ []) $ use0 𝓛 (‵ ((OP.the_row Ref).own_val None (none_v ∷ []))) (none_of 𝓛 Ref) $
    suffices ! _ (ends_at 𝓛 f.ended stayed c y none_v None (tt, (tt, (tt, tt))) (tt, (tt, (tt, tt)))) $
    nothing ! $ nothing ! $ fjoin ! $ nothing ! $ fjoin ! $ nothing ! $ fjoin ! $ join ! $ nothing ! $ move ! (2 ∷ 0 ∷ []) $ join ! $ join ! $ frame ! $ says ! (none_there r.0 inside there is_inside t) $ done !)
    ))))))))))))
