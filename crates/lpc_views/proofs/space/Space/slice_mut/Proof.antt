-- A test of the views comes first, and what the sections lend then is handed on as Ok: a walk of the MIR.
use Rattle.std.proofs.Common.{◌≡◌, ℕ, ◌<◌, ◌^◌, Bool, List, [], ◌∷◌, length, refl, ap, lit<, w32, MutBor, IsSome}
use Rattle.std.proofs.raw_atomic.Walks.{proved}
use Rattle.std.proofs.ResultValues.{ok_of, err_of}
use Rattle.std.specs.Prelude.{Ok, Err, Some, option_map}
use Rattle.std.specs.contracts.result.Result as RS
use base.Logic.{id⊢, emp}
use base.Fml.{ftrue, flft, fres}
use mir.MapTy.{inst_fn}
use mir.Syntax.{a_type, dcons, dnil, named}
use mir.Val.{Val, vstruct, vnil, of_list}
use contract.BorrowLft.{◌⊑◌}
use contract.Monad.{fact, fact_i}
use contract.Running.{tables}
use types.Kit.{‵, raw, ◌⊛◌, some, later, at_ret, ◌$◌, ◌∵◌, !, qed, by, move, keep, drop, use0, use1, use2, split, split3, join, fsplit, fsplit3, fjoin, pick, feq_l, await}
use types.Part.{agg}
use types.Run.{enter, of_opd, lit, addr, stop, no_more, and_then, first, branches, exec, returns}
use types.ByLocal.{alloc_all, pass_all, free_all, look_at, get, through, sets, sets_last, lands_as, env}
use types.Match.{live}
use denote.Builtin.{u8, u32, bool}
use denote.Exit.{yes}
use denote.Follow.{follows, follows_by}
use denote.Laws.{Is}
use denote.Param.{bounded, copied}
use denote.Param.Laws.{copied_laws}
use denote.Plain.{uint_vals, uint_Tells, uint_Makes}
use denote.RattleType.{owns}
use denote.Ref.{MutRef, ShrRef, mut_vals, mut_Tells, shr_copy, shr_vals, shr_Tells}
use denote.Shadow.{pure_l, pure_i}
use denote.Signature.{plain, shr_ref_to}
use denote.Slice.{MutSlice, room, slice_val, mut_slice_at}
use denote.Steps.{nothing, heard, owned, only}
use denote.Struct.Declared as Declared
use denote.Struct.Struct.{Struct, Struct-Makes}
use denote.Triple.Call.{calls_at}
use denote.Triple.Clauses.{Lasts, lasts}
use denote.Triple.Spec.{triple_of}
use denote.Triple.Table.{framed}
use denote.Triple.Walked.{walk_of, Goes-dropped, Goes-spent_ref}
use Rattle.lpc_views.specs.Parts.{AreMapped, seen, written}
use Rattle.lpc_views.specs.Views.{is_writable_at, view_of}
use Rattle.lpc_views.specs.contracts.parts.part_mut as g
use Rattle.lpc_views.specs.contracts.space.Space.is_writable as p
use Rattle.lpc_views.specs.contracts.space.Space.slice_mut as f
use Rattle.lpc_views.specs.contracts.view.Fault as fault
use Rattle.lpc_views.proofs.Ends as Ends
use Rattle.lpc_views.proofs.Ends.{A, R}
use Rattle.lpc_views.proofs.Lent.{bytes_there, no_bytes, tail, view_there}
use Rattle.lpc_views.proofs.parts.part_mut.Met.{met}
use Rattle.lpc_views.proofs.space.Space.TheLaws as laws
use Rattle.lpc_views.proofs.space.Space.is_writable.Met.{met as test_met}
use Rattle.lpc_views.proofs.space.Space.slice_mut.Statement.{statement}
use Rattle.lpc_views.proofs.space.Space.slice_mut.Code as code

pub slice_mut_spec : {M : Type 1} → statement M
unfolding follows_by
slice_mut_spec 𝓤 𝓛 𝓜 𝓡 wired X L C cl cld eq eqd pe ped mcl meq mpe =
    let S = Ends.S X in
    let T = Ends.En X cl cld eq eqd pe ped in let c = Ends.c X cl cld eq eqd pe ped 𝓛 𝓜 𝓡 in
    let hs = Ends.hs X cl cld eq eqd pe ped in
    let W = walk_of 𝓛 T hs c in let 𝓣 = tables 𝓤 𝓛.H 𝓜 𝓡 𝓡.env in
    let inst = bounded (a_type ∷ []) (X, tt) (dcons cld (dcons eqd (dcons ped dnil))) in let fn = inst_fn inst code.function in
    let goes = Goes-dropped 𝓛 3 (plain (λ _. u32)) yes (λ κs x w. refl) in
    proved 𝓛 T hs c 𝓜 𝓡 (Goes-dropped 𝓛 3 (shr_ref_to (0 ∷ []) tt (plain (λ _. S))) yes (λ κs x w. refl), (Goes-spent_ref 𝓛 3 (1 ∷ []) tt (plain (λ _. R)), (goes, (goes, tt))))
    (f.Key.name inst) fn (code.unfolded 𝓤 𝓛.H 𝓜 𝓡 wired (X, tt) cld eqd ped)
    (λ κs. (shr_vals, (mut_vals, (uint_vals w32, (uint_vals w32, tt))))) (λ κs. (shr_Tells (named 0) κs.0 S, (mut_Tells (named 1) κs.1.0 R, (uint_Tells w32, (uint_Tells w32, tt))))) (λ κs qs bounds a _ are.
    let κ₀ = κs.0 in let q₀ = qs.0 in let κ = κs.1.0 in let q = qs.1.0 in let κx = κs.1.1.0 in let qx = qs.1.1.0 in
    let sp = a.0 in let s = a.1.0 in let γ = s.ghost_name in let address = a.1.1.0 in let len = a.1.1.1.0 in
    let fits_address = are.1.1.0.1 in let fits_len = are.1.1.1.0.1 in
    let Views = ShrRef (named 0) κ₀ S in
    let Ref = MutSlice (named 1) κ u8 in
    let view = view_of sp.now.views address len in
    let writable = is_writable_at sp.now.views address len in
    let in_x = κx ⊑ X.lives in
    let mapped = AreMapped s.now sp.now.views in
    let Q = triple_of 𝓛 (p.signature X) (p.spec X cl cld eq eqd pe ped 𝓛 𝓜.mem 𝓡.returns) in let Qe = p.ended X cl cld eq eqd pe ped in
    let G = triple_of 𝓛 (g.signature X) (g.spec X cl cld eq eqd pe ped 𝓛 𝓜.mem 𝓡.returns) in let Ge = g.ended X cl cld eq eqd pe ped in
    let y : W.Ghost = ((κs, qs, bounds, a, (shr_vals sp, (mut_vals s, (uint_vals w32 address, (uint_vals w32 len, tt))))), tt) in
    let z₀ : Q.Ghost = (((κ₀, (κx, tt)), (q₀, (qx, tt)), bounds, (sp, (address, (len, tt))), (shr_vals sp, (uint_vals w32 address, (uint_vals w32 len, tt)))), tt) in
    let z : G.Ghost = (((κ, (κ₀, (κx, tt))), (q, (q₀, (qx, tt))), bounds, (s, (sp, (address, (len, tt)))), (mut_vals s, (shr_vals sp, (uint_vals w32 address, (uint_vals w32 len, tt))))), tt) in
    qed 𝓛 (((‵ (flft κ₀ q₀) ⊛ ‵ (flft κ q) ⊛ ‵ (flft κx qx) ⊛ ‵ ftrue) ⊛ ‵ (owns (ShrRef (named 0) κ₀ S ∷ MutRef (named 1) κ R ∷ u32 ∷ u32 ∷ []) a y.0.4)) ∷ raw (fact 𝓤 in_x) ∷ raw (fact 𝓤 mapped) ∷ []) ∵
    move ! (1 ∷ 2 ∷ []) $ heard ! _ (λ is_in. heard ! _ (λ is_mapped. split ! $ split ! $ move ! (1 ∷ []) $ split3 ! $ move ! (4 ∷ []) $ fsplit ! $ move ! (1 ∷ []) $ fsplit ! $ keep ! (0 ∷ 2 ∷ 6 ∷ 3 ∷ 4 ∷ []) $
    -- [the sections; the views; the three tokens]
    enter ! _ _ _ _ _ $ alloc_all ! (λ l. pass_all ! refl ((tt, tt), ((tt, tt), ((tt, record { fits = fits_address }), ((tt, record { fits = fits_len }), tt)))) $
    move ! (1 ∷ []) $ use1 𝓛 (‵ (Views.own_val sp (shr_vals sp)) ⊛ ‵ (Views.own_val sp (shr_vals sp))) ((shr_copy 𝓛 (named 0) κ₀ S ((laws.the_row_laws (copied 0 X) (copied_laws 0 X L)).shr_laws)).twice sp (shr_vals sp)) $ split ! $
    -- [the views, twice; the sections; the three tokens]
    nothing ! $ owned ! u32 _ (uint_Makes 𝓛 w32) len (uint_vals w32 len) (refl, fits_len) $ fjoin ! $ owned ! u32 _ (uint_Makes 𝓛 w32) address (uint_vals w32 address) (refl, fits_address) $ fjoin ! $ move ! (1 ∷ 0 ∷ []) $ fjoin ! $
    nothing ! $ move ! (6 ∷ 0 ∷ []) $ join ! $ move ! (4 ∷ 0 ∷ []) $ join ! $ join ! $
    nothing ! $ use0 𝓛 (raw (fact 𝓤 in_x)) (fact_i 𝓤 _ (emp 𝓤) is_in) $ join ! $ move ! (1 ∷ 0 ∷ []) $ use2 𝓛 (raw (Q.pre z₀)) (id⊢ 𝓤 _) $
    calls_at ! (framed 𝓤 𝓛.H 𝓜 (tables 𝓤 𝓛.H 𝓜 𝓡 𝓡.env)) Q (test_met 𝓤 𝓛 𝓜 𝓡 (code.calls-lpc_views::space::Space::is_writable 𝓡.env wired) X L C cl cld eq eqd pe ped mcl meq mpe) z₀
    (and_then ! (get ! refl) (and_then ! (get ! refl) (and_then ! (get ! refl) (no_more !)))) (λ v.
    use1 𝓛 (later (some (λ (there : Bool). ((‵ (flft κ₀ q₀) ⊛ (‵ (flft κx qx) ⊛ ‵ ftrue)) ⊛ ‵ (bool.own_val there (v ∷ []))) ⊛ some (λ (ws : Lasts Qe z₀.0.0 z₀.0.3). ‵ (lasts Qe z₀.0.0 z₀.0.3 ws) ⊛ raw (fact 𝓤 (there ≡ writable))))))
    (id⊢ 𝓤 _) $ await ! tt $ pick ! (λ there. split ! $ split ! $ split ! $ move ! (1 ∷ []) $ split ! $ move ! (1 ∷ []) $ drop ! $ move ! (2 ∷ []) $ feq_l ! (λ is_bool.
    lands_as ! (ap only is_bool) refl (tt, tt) $
    -- [P's token; the views' token; the rest of what the call gave; the views; the sections; their token]
    move ! (2 ∷ []) $ pick ! (λ ws. split ! $ drop ! $ heard ! _ (λ is_there.
    first ! $ branches ! (get ! refl)
    (λ t.
    sets ! (addr ! (through ! refl (stop !))) refl (tt, tt) $
    nothing ! $ owned ! u32 _ (uint_Makes 𝓛 w32) len (uint_vals w32 len) (refl, fits_len) $ fjoin ! $ owned ! u32 _ (uint_Makes 𝓛 w32) address (uint_vals w32 address) (refl, fits_address) $ fjoin ! $
    move ! (3 ∷ 0 ∷ []) $ fjoin ! $ move ! (3 ∷ 0 ∷ []) $ fjoin ! $
    nothing ! $ move ! (2 ∷ 0 ∷ []) $ join ! $ move ! (2 ∷ 0 ∷ []) $ join ! $ move ! (2 ∷ 0 ∷ []) $ join ! $ join ! $
    use0 𝓛 (raw (fact 𝓤 (IsSome view))) (fact_i 𝓤 _ (emp 𝓤) (view_there view there is_there t)) $ use0 𝓛 (raw (fact 𝓤 mapped)) (fact_i 𝓤 _ (emp 𝓤) is_mapped) $ join ! $
    use0 𝓛 (raw (fact 𝓤 in_x)) (fact_i 𝓤 _ (emp 𝓤) is_in) $ join ! $ move ! (1 ∷ 0 ∷ []) $ use2 𝓛 (raw (G.pre z)) (id⊢ 𝓤 _) $
    calls_at ! (framed 𝓤 𝓛.H 𝓜 (tables 𝓤 𝓛.H 𝓜 𝓡 𝓡.env)) G (met 𝓤 𝓛 𝓜 𝓡 (code.calls-lpc_views::parts::part_mut 𝓡.env wired) X L C cl cld eq eqd pe ped mcl meq mpe) z
    (and_then ! (get ! refl) (and_then ! (get ! refl) (and_then ! (get ! refl) (and_then ! (get ! refl) (no_more !))))) (λ v.
    use1 𝓛 (later (some (λ (r : MutBor (List ℕ)). ((‵ (flft κ q) ⊛ (‵ (flft κ₀ q₀) ⊛ (‵ (flft κx qx) ⊛ ‵ ftrue))) ⊛ ‵ (Ref.own_val r (v ∷ []))) ⊛ some (λ (ws : Lasts Ge z.0.0 z.0.3). ‵ (lasts Ge z.0.0 z.0.3 ws)
    ⊛ (‵ (follows R A γ r.ghost_name (written s.now address view)) ⊛ (raw (fact 𝓤 (option_map (seen s.now address len) view ≡ Some r.now)) ⊛ raw (fact 𝓤 (length r.now ≡ len))))))))
    (id⊢ 𝓤 _) $ await ! tt $ pick ! (λ r. split ! $ split ! $ split ! $ move ! (1 ∷ []) $ split ! $ move ! (1 ∷ []) $ split ! $ move ! (1 ∷ []) $ drop ! $
    -- [P's token; the views' token; the sections' token; the slice; the rest of what the call gave]
    move ! (4 ∷ []) $ pick ! (λ ws. split ! $ drop ! $ split ! $ move ! (1 ∷ []) $ split ! $ heard ! _ (λ is_seen. heard ! _ (λ is_long.
    -- [follows; the three tokens; the slice]
    move ! (4 ∷ []) $ fsplit ! $ fsplit ! $ feq_l ! (λ es. pure_l ! (room u8 (length r.now)) (λ rm.
    let n : ℕ = length r.now in
    let fits : n < 2 ^ 64 = rm.0 in
    let sv : Val = slice_val r.ref_ptr n in
    let ok_v : Val = live 0 (of_list (sv ∷ [])) in
    lands_as ! (ap only es) refl (tt, (tt, (record { fits = fits }, tt))) $
    sets_last ! (agg ! (and_then ! (lit ! tt) (and_then ! (get ! refl) (no_more !)))) refl (tt, (record { fits = lit< tt }, ((tt, (record { fits = fits }, tt)), tt))) $
    exec ! 𝓣.C 𝓣.Λ (env fn.locals l) (tail (tail fn.body)) (at_ret _ (W.post y)) $
    sets ! (of_opd ! (get ! refl)) refl (tt, (record { fits = lit< tt }, ((tt, (record { fits = fits }, tt)), tt))) $
    returns ! (look_at ! 0 refl) $ free_all ! refl $
    pure_i ! (mut_slice_at u8 r (sv ∷ [])) (tt, (tt, tt)) (refl, rm) $ fjoin ! $
    use1 𝓛 (‵ ((RS.the_row Ref fault.the_row).own_val (Ok r) (ok_v ∷ []))) (ok_of 𝓛 Ref fault.the_row r sv) $
    -- [the result; follows; the three tokens]
    move ! (0 ∷ 3 ∷ 4 ∷ 2 ∷ []) $ by ! (Ends.lends X cl cld eq eqd pe ped 𝓛 𝓜 𝓡 y r ok_v (bytes_there r.now _ there writable is_there t is_seen))))))))))
    (λ t.
    let err_v : Val = live 1 (of_list (vstruct vnil ∷ [])) in
    sets ! (agg ! (no_more !)) refl (tt, tt) $
    sets_last ! (agg ! (and_then ! (lit ! tt) (and_then ! (get ! refl) (no_more !)))) refl (tt, (record { fits = lit< tt }, (tt, tt))) $
    exec ! 𝓣.C 𝓣.Λ (env fn.locals l) (tail (tail fn.body)) (at_ret _ (W.post y)) $
    sets ! (of_opd ! (get ! refl)) refl (tt, (record { fits = lit< tt }, (tt, tt))) $
    returns ! (look_at ! 0 refl) $ free_all ! refl $ move ! (3 ∷ []) $ fsplit3 ! $ keep ! (1 ∷ 4 ∷ 6 ∷ 3 ∷ []) $
    use1 𝓛 (‵ (fres γ (R.coded.code s.now))) (𝓛.names.obs-res γ (R.coded.code s.now)) $ move ! (1 ∷ 2 ∷ 3 ∷ []) $
    owned ! (Struct (Declared.shape fault.the_type)) (Is (Struct (Declared.shape fault.the_type))) (Struct-Makes 𝓛 (Declared.shape fault.the_type) tt) tt (vstruct vnil ∷ []) (tt, (refl, tt)) $
    use1 𝓛 (‵ ((RS.the_row Ref fault.the_row).own_val (Err (record {})) (err_v ∷ []))) (err_of 𝓛 Ref fault.the_row (record {}) (vstruct vnil)) $ move ! (0 ∷ 1 ∷ 2 ∷ 3 ∷ 4 ∷ []) $ by ! (Ends.refuses X cl cld eq eqd pe ped 𝓛 𝓜 𝓡 y err_v (no_bytes _ there writable is_there t))))))))))))
