-- The world is lent to a test and comes back, and what it lends then is handed on as Ok: a walk of the MIR.
use Rattle.std.proofs.Common.{◌≡◌, ℕ, ◌<◌, ◌^◌, Bool, List, [], ◌∷◌, length, refl, ap, lit<, w32, MutBor, true, Some, option_map}
use Rattle.std.proofs.raw_atomic.Walks.{proved}
use Rattle.std.proofs.ResultValues.{ok_of, err_of}
use Rattle.std.specs.Prelude.{Ok, Err}
use Rattle.std.specs.contracts.result.Result as RS
use base.Logic.{SProp, apply∗, id⊢, emp, sep, wand}
use base.Fml.{Share, fdead, fres, flft, ftrue}
use base.Share
use base.FractionLaws.{common}
use contract.BorrowLft.{meet_⊑_left, meet_⊑_right}
use mir.Syntax.{named}
use mir.Val.{Val, vstruct, vnil, of_list}
use contract.Monad.{fact, fact_i}
use contract.Running.{tables}
use types.Kit.{‵, raw, ◌⊛◌, some, later, at_ret, ◌$◌, ◌∵◌, !, qed, done, move, keep, drop, use0, use1, use2, use3, split, join, fsplit, fsplit3, fjoin, pick, feq_l, await, rewrite, suffices, frame}
use types.Part.{agg}
use types.Run.{enter, of_opd, lit, addr, stop, no_more, and_then, first, branches, exec, returns}
use types.ByLocal.{alloc_all, pass_all, free_all, look_at, get, through, sets, sets_last, lands_as, env}
use types.Match.{live}
use denote.Array.{Array}
use denote.Builtin.{u8, u32, bool}
use denote.Exit.{yes, no}
use denote.Follow.{follows, follows_by}
use denote.Laws.{Is}
use denote.Plain.{uint_vals, uint_Tells, uint_Makes}
use denote.RattleType.{owns}
use denote.Ref.{MutRef, mut_vals, mut_Tells}
use denote.Shadow.{pure_l, pure_i}
use denote.Signature.{named_lft, plain, mut_ref_to}
use denote.Struct.Declared as Declared
use denote.Struct.Struct.{Struct, Struct-Makes}
use denote.Slice.{MutSlice, room, slice_val, mut_slice_at}
use denote.Steps.{nothing, heard, owned, only}
use denote.Triple.Call.{calls_at}
use denote.Triple.Clauses.{Lasts, lasts}
use denote.Triple.Spec.{triple_of}
use denote.Triple.Table.{framed}
use denote.Triple.Walked.{Stays, walk_of, says, stay_dropped, Goes-dropped, Goes-spent_ref, ends_at}
use Rattle.lpc_views.specs.contracts.view.Fault as fault
use Rattle.lpc_world.proofs.Lent.{bytes_there, may_there, no_bytes}
use Rattle.lpc_rows.specs.Kept.{Kept}
use Rattle.lpc_rows.specs.Clauses.{bytes_through}
use Rattle.lpc_model.specs.Found.{is_table, view_holding}
use Rattle.lpc_base.specs.Rows.{has}
use Rattle.lpc_world.specs.Lent.{may_be_written, with_memory}
use Rattle.lpc_world.specs.contracts.world.World.{the_row}
use Rattle.lpc_world.specs.contracts.world.World.views_slice_mut as f
use denote.Lend.{lends_again, comes_back, LentAgain}
use types.Tokens.{lft_new, lft_end, lft-common}
use base.Fraction.{full_share}
use Rattle.lpc_world.specs.contracts.world.World.tests_writable as p
use Rattle.lpc_world.proofs.world.World.tests_writable.Met.{met as probe_met}
use Rattle.lpc_world.specs.contracts.world.World.memory_mut as g
use Rattle.lpc_world.proofs.world.World.memory_mut.Met.{met}
use Rattle.lpc_world.proofs.world.World.views_slice_mut.Statement.{statement}
use Rattle.lpc_world.proofs.world.World.views_slice_mut.Code as code

abbrev stayed : Stays f.ended.signature.params f.ended.kept
stayed = (stay_dropped (mut_ref_to (0 ∷ []) tt (plain (λ κs. the_row (named_lft 2 1 tt κs)))) no, (stay_dropped (plain (λ _. u32)) yes, (stay_dropped (plain (λ _. u32)) yes, (stay_dropped (plain (λ _. u32)) yes, tt))))

pub views_slice_mut_spec : {M : Type 1} → statement M
unfolding follows_by
views_slice_mut_spec 𝓤 𝓛 𝓜 𝓡 wired =
    let c = f.clauses 𝓛 𝓜.mem 𝓡.returns in let W = walk_of 𝓛 f.ended stayed c in let 𝓣 = tables 𝓤 𝓛.H 𝓜 𝓡 𝓡.env in
    let goes = Goes-dropped 𝓛 2 (plain (λ _. u32)) yes (λ κs x w. refl) in
    proved 𝓛 f.ended stayed c 𝓜 𝓡 (Goes-spent_ref 𝓛 2 (0 ∷ []) tt (plain (λ κs. the_row (named_lft 2 1 tt κs))), (Goes-dropped 𝓛 2 (plain (λ _. u32)) yes (λ κs x w. refl), (goes, (goes, tt))))
    f.Key.name code.function (code.unfolded 𝓤 𝓛.H 𝓜 𝓡 wired)
    (λ κs. (mut_vals, (uint_vals w32, (uint_vals w32, (uint_vals w32, tt))))) (λ κs. (mut_Tells (named 0) κs.0 (the_row (named_lft 2 1 tt κs)), (uint_Tells w32, (uint_Tells w32, (uint_Tells w32, tt))))) (λ κs qs bounds a _ are.
    let R = the_row (named_lft 2 1 tt κs) in
    let κ = κs.0 in let q = qs.0 in let κₜ = κs.1.0 in let qₜ = qs.1.0 in let s = a.0 in let γ = s.ghost_name in
    let pid = a.1.0 in let address = a.1.1.0 in let len = a.1.1.1.0 in let b = s.ref_ptr.0 in let o = s.ref_ptr.1 in
    let fits_pid = are.1.0.1 in let fits_address = are.1.1.0.1 in let fits_len = are.1.1.1.0.1 in
    let World = λ (κ' : List ℕ) (x : MutBor Kept). (MutRef (named 0) κ' R).own_val x (mut_vals s) in
    let Ref = MutSlice (named 0) κ u8 in
    let A = Array u8 0 in
    let view = view_holding s.now.rows pid address len in
    let may = may_be_written view in
    let G = triple_of 𝓛 g.signature (g.spec 𝓛 𝓜.mem 𝓡.returns) in
    let y : W.Ghost = ((κs, qs, bounds, a, (mut_vals s, (uint_vals w32 pid, (uint_vals w32 address, (uint_vals w32 len, tt))))), tt) in
    let P = triple_of 𝓛 p.signature (p.spec 𝓛 𝓜.mem 𝓡.returns) in
    let z : G.Ghost = ((κs, qs, bounds, (s, (pid, (address, (len, tt)))), (mut_vals s, (uint_vals w32 pid, (uint_vals w32 address, (uint_vals w32 len, tt))))), tt) in
    qed 𝓛 (((‵ (flft κ q) ⊛ ‵ (flft κₜ qₜ) ⊛ ‵ ftrue) ⊛ ‵ (owns (MutRef (named 0) κ R ∷ u32 ∷ u32 ∷ u32 ∷ []) a y.0.4)) ∷ raw (fact 𝓤 (has (is_table pid) s.now.rows.handles ≡ true)) ∷ []) ∵
    move ! (1 ∷ []) $ heard ! _ (λ is_table_there. split ! $ split ! $ move ! (1 ∷ []) $ split ! $ move ! (3 ∷ []) $ fsplit ! $ keep ! (0 ∷ 4 ∷ 2 ∷ []) $
    -- [the world; the loan's token; the token of the world's lifetime]
    enter ! _ _ _ _ _ $ alloc_all ! (λ l. pass_all ! refl ((tt, tt), ((tt, record { fits = fits_pid }), ((tt, record { fits = fits_address }), ((tt, record { fits = fits_len }), tt)))) $
    sets ! (addr ! (through ! refl (stop !))) refl (tt, tt) $
    move ! (2 ∷ []) $ use1 𝓛 (‵ (flft κₜ (Share.left qₜ)) ⊛ ‵ (flft κₜ (Share.right qₜ))) (𝓛.lfts.lft_split κₜ qₜ) $ split ! $
    -- [half of the token of the world's lifetime; the other half; the world; the loan's token]
    lft_new ! tt (λ α.
    let κ₁ : List ℕ = α ∷ κₜ in
    let q₁ : Share = (common full_share (Share.left qₜ)).0 in
    let back : SProp 𝓤 = wand 𝓤 (𝓛.A.lft κ₁ q₁) (sep 𝓤 (𝓛.A.lft (α ∷ []) full_share) (𝓛.A.lft κₜ (Share.left qₜ))) in
    use2 𝓛 (‵ (flft κ₁ q₁) ⊛ raw back) (lft-common 𝓛 (α ∷ []) κₜ full_share (Share.left qₜ)) $ split ! $ move ! (3 ∷ 4 ∷ []) $
    use2 𝓛 (later (some (λ (δ : ℕ). ‵ (World κ₁ (record s { ghost_name = δ })) ⊛ ‵ (LentAgain R κ κ₁ q γ b o δ s.now))))
    (lends_again 𝓛 R (named 0) κ κ₁ q γ b o (named 0) s.now) $ await ! tt $ pick ! (λ δ. split ! $ move ! (0 ∷ 1 ∷ 2 ∷ 4 ∷ []) $
    -- [the loan; what the lender keeps; the token of α within the world's lifetime; half of that one's; the way to end α]
    let z₀ : P.Ghost = (((κ₁, (κₜ, tt)), (q₁, (Share.right qₜ, tt)), (meet_⊑_right (α ∷ []) κₜ, tt), (record s { ghost_name = δ }, (pid, (address, (len, tt)))), (mut_vals s, (uint_vals w32 pid, (uint_vals w32 address, (uint_vals w32 len, tt))))), tt) in
    nothing ! $ owned ! u32 _ (uint_Makes 𝓛 w32) len (uint_vals w32 len) (refl, fits_len) $ fjoin ! $ owned ! u32 _ (uint_Makes 𝓛 w32) address (uint_vals w32 address) (refl, fits_address) $ fjoin ! $
    owned ! u32 _ (uint_Makes 𝓛 w32) pid (uint_vals w32 pid) (refl, fits_pid) $ fjoin ! $ move ! (1 ∷ 0 ∷ []) $ fjoin ! $
    nothing ! $ move ! (4 ∷ 0 ∷ []) $ join ! $ move ! (3 ∷ 0 ∷ []) $ join ! $ join ! $
    use0 𝓛 (raw (fact 𝓤 (has (is_table pid) s.now.rows.handles ≡ true))) (fact_i 𝓤 _ (emp 𝓤) is_table_there) $
    move ! (1 ∷ 0 ∷ []) $ use2 𝓛 (raw (P.pre z₀)) (id⊢ 𝓤 _) $
    calls_at ! (framed 𝓤 𝓛.H 𝓜 (tables 𝓤 𝓛.H 𝓜 𝓡 𝓡.env)) P (probe_met 𝓤 𝓛 𝓜 𝓡 (code.calls-lpc_world::world::World::tests_writable 𝓡.env wired)) z₀
    (and_then ! (get ! refl) (and_then ! (get ! refl) (and_then ! (get ! refl) (and_then ! (get ! refl) (no_more !))))) (λ v.
    use1 𝓛 (later (some (λ (there : Bool). ((‵ (flft κ₁ q₁) ⊛ (‵ (flft κₜ (Share.right qₜ)) ⊛ ‵ ftrue)) ⊛ ‵ (bool.own_val there (v ∷ []))) ⊛ some (λ (ws : Lasts p.ended z₀.0.0 z₀.0.3). ‵ (lasts p.ended z₀.0.0 z₀.0.3 ws)
    ⊛ (raw (fact 𝓤 (ws.0 ≡ s.now)) ⊛ raw (fact 𝓤 (there ≡ may)))))))
    (id⊢ 𝓤 _) $ await ! tt $ pick ! (λ there. split ! $ split ! $ split ! $
    move ! (0 ∷ 5 ∷ []) $ use2 𝓛 (‵ (flft (α ∷ []) full_share) ⊛ ‵ (flft κₜ (Share.left qₜ))) (apply∗ 𝓤 (𝓛.A.lft κ₁ q₁) (sep 𝓤 (𝓛.A.lft (α ∷ []) full_share) (𝓛.A.lft κₜ (Share.left qₜ)))) $ split ! $
    lft_end ! tt $ use1 𝓛 (‵ (fdead κ₁)) (𝓛.lfts.dead-incl κ₁ (α ∷ []) (meet_⊑_left (α ∷ []) κₜ)) $ move ! (2 ∷ []) $ split ! $
    move ! (3 ∷ 0 ∷ []) $ use2 𝓛 (‵ (flft κₜ qₜ)) (𝓛.lfts.lft_join κₜ qₜ) $ move ! (3 ∷ []) $ feq_l ! (λ is_bool.
    lands_as ! (ap only is_bool) refl (tt, tt) $ move ! (2 ∷ 1 ∷ 3 ∷ 4 ∷ []) $
    -- [α is over; nothing; the rest of what the call gave; what the lender keeps; the token of the world's lifetime]
    move ! (2 ∷ []) $ pick ! (λ ws. split ! $ move ! (1 ∷ []) $ split ! $ heard ! _ (λ is_same. heard ! _ (λ is_there. fsplit ! $ fsplit ! $
    rewrite ! 0 (λ (x : Kept). ‵ (fres δ (R.coded.code x))) is_same refl $
    -- [the loan's last value; its borrow; the others; α is over; nothing; what the lender keeps; the token of the world's lifetime]
    move ! (3 ∷ 5 ∷ 0 ∷ []) $ use3 𝓛 (later (‵ (World κ s) ⊛ ‵ (flft κ q))) (comes_back 𝓛 R (named 0) κ κ₁ q γ b o δ s.now s.now) $ await ! tt $ split ! $
    move ! (2 ∷ []) $ drop ! $ move ! (2 ∷ []) $ drop ! $ move ! (2 ∷ []) $ drop ! $
    sets ! (of_opd ! (get ! refl)) refl (tt, tt) $
    first ! $ branches ! (get ! refl)
    (λ t.
    sets ! (addr ! (through ! refl (stop !))) refl (tt, tt) $
    nothing ! $ owned ! u32 _ (uint_Makes 𝓛 w32) len (uint_vals w32 len) (refl, fits_len) $ fjoin ! $ owned ! u32 _ (uint_Makes 𝓛 w32) address (uint_vals w32 address) (refl, fits_address) $ fjoin ! $
    owned ! u32 _ (uint_Makes 𝓛 w32) pid (uint_vals w32 pid) (refl, fits_pid) $ fjoin ! $ move ! (1 ∷ 0 ∷ []) $ fjoin ! $
    nothing ! $ move ! (3 ∷ 0 ∷ []) $ join ! $ move ! (2 ∷ 0 ∷ []) $ join ! $ join ! $
    use0 𝓛 (raw (fact 𝓤 (may ≡ true))) (fact_i 𝓤 _ (emp 𝓤) (may_there there may is_there t)) $ use0 𝓛 (raw (fact 𝓤 (has (is_table pid) s.now.rows.handles ≡ true))) (fact_i 𝓤 _ (emp 𝓤) is_table_there) $ join ! $
    move ! (1 ∷ 0 ∷ []) $ use2 𝓛 (raw (G.pre z)) (id⊢ 𝓤 _) $
    calls_at ! (framed 𝓤 𝓛.H 𝓜 (tables 𝓤 𝓛.H 𝓜 𝓡 𝓡.env)) G (met 𝓤 𝓛 𝓜 𝓡 (code.calls-lpc_world::world::World::memory_mut 𝓡.env wired)) z
    (and_then ! (get ! refl) (and_then ! (get ! refl) (and_then ! (get ! refl) (and_then ! (get ! refl) (no_more !))))) (λ v.
    use1 𝓛 (later (some (λ (r : MutBor (List ℕ)). ((‵ (flft κ q) ⊛ (‵ (flft κₜ qₜ) ⊛ ‵ ftrue)) ⊛ ‵ (Ref.own_val r (v ∷ []))) ⊛ some (λ (ws : Lasts g.ended κs z.0.3). ‵ (lasts g.ended κs z.0.3 ws)
    ⊛ (‵ (follows R A γ r.ghost_name (with_memory s.now address view)) ⊛ (raw (fact 𝓤 (option_map (bytes_through s.now.rows address len) view ≡ Some r.now)) ⊛ raw (fact 𝓤 (length r.now ≡ len))))))))
    (id⊢ 𝓤 _) $ await ! tt $ pick ! (λ r. split ! $ split ! $ split ! $ move ! (1 ∷ []) $ split ! $ move ! (1 ∷ []) $ drop ! $ move ! (3 ∷ []) $ pick ! (λ ws. split ! $ drop ! $ split ! $ move ! (1 ∷ []) $ split ! $ heard ! _ (λ is_seen. heard ! _ (λ is_long.
    -- [follows; the token of the world's lifetime; the loan's token; the slice]
    move ! (3 ∷ []) $ fsplit ! $ fsplit ! $ feq_l ! (λ es. pure_l ! (room u8 (length r.now)) (λ rm.
    let n : ℕ = length r.now in
    let fits : n < 2 ^ 64 = rm.0 in
    let sv : Val = slice_val r.ref_ptr n in
    let ok_v : Val = live 0 (of_list (sv ∷ [])) in
    lands_as ! (ap only es) refl (tt, (tt, (record { fits = fits }, tt))) $
    sets_last ! (agg ! (and_then ! (lit ! tt) (and_then ! (get ! refl) (no_more !)))) refl (tt, (record { fits = lit< tt }, ((tt, (record { fits = fits }, tt)), tt))) $
    exec ! 𝓣.C 𝓣.Λ (env code.Mir.locals l) code.Mir.t-5 (at_ret _ (W.post y)) $
    sets ! (of_opd ! (get ! refl)) refl (tt, (record { fits = lit< tt }, ((tt, (record { fits = fits }, tt)), tt))) $
    returns ! (look_at ! 0 refl) $ free_all ! refl $
    pure_i ! (mut_slice_at u8 r (sv ∷ [])) (tt, (tt, tt)) (refl, rm) $ fjoin ! $
    use1 𝓛 (‵ ((RS.the_row Ref fault.the_row).own_val (Ok r) (ok_v ∷ []))) (ok_of 𝓛 Ref fault.the_row r sv) $
    move ! (0 ∷ 3 ∷ 2 ∷ 1 ∷ []) $
    suffices ! _ (ends_at 𝓛 f.ended stayed c y ok_v (Ok r) (tt, (tt, (tt, (tt, tt)))) (tt, (tt, (tt, (tt, tt))))) $
    nothing ! $ nothing ! $ fjoin ! $ nothing ! $ fjoin ! $ nothing ! $ fjoin ! $ nothing ! $ fjoin ! $ join ! $ nothing ! $ move ! (3 ∷ 0 ∷ []) $ join ! $ move ! (2 ∷ 0 ∷ []) $ join ! $ join ! $ frame ! $ says ! (bytes_there r.now _ there may is_there t is_seen) $ done !))))))))
    (λ t.
    let err_v : Val = live 1 (of_list (vstruct vnil ∷ [])) in
    sets ! (agg ! (no_more !)) refl (tt, tt) $
    sets_last ! (agg ! (and_then ! (lit ! tt) (and_then ! (get ! refl) (no_more !)))) refl (tt, (record { fits = lit< tt }, (tt, tt))) $
    exec ! 𝓣.C 𝓣.Λ (env code.Mir.locals l) code.Mir.t-5 (at_ret _ (W.post y)) $
    sets ! (of_opd ! (get ! refl)) refl (tt, (record { fits = lit< tt }, (tt, tt))) $
    returns ! (look_at ! 0 refl) $ free_all ! refl $ fsplit3 ! $ keep ! (1 ∷ 3 ∷ 4 ∷ []) $
    use1 𝓛 (‵ (fres γ (R.coded.code s.now))) (𝓛.names.obs-res γ (R.coded.code s.now)) $ move ! (1 ∷ 2 ∷ []) $
    owned ! (Struct (Declared.shape fault.the_type)) (Is (Struct (Declared.shape fault.the_type))) (Struct-Makes 𝓛 (Declared.shape fault.the_type) tt) tt (vstruct vnil ∷ []) (tt, (refl, tt)) $
    use1 𝓛 (‵ ((RS.the_row Ref fault.the_row).own_val (Err (record {})) (err_v ∷ []))) (err_of 𝓛 Ref fault.the_row (record {}) (vstruct vnil)) $
    suffices ! _ (ends_at 𝓛 f.ended stayed c y err_v (Err (record {})) (tt, (tt, (tt, (tt, tt)))) (tt, (tt, (tt, (tt, tt))))) $
    nothing ! $ nothing ! $ fjoin ! $ nothing ! $ fjoin ! $ nothing ! $ fjoin ! $ nothing ! $ fjoin ! $ join ! $ nothing ! $ move ! (3 ∷ 0 ∷ []) $ join ! $ move ! (2 ∷ 0 ∷ []) $ join ! $ join ! $ frame ! $ says ! (no_bytes _ there may is_there t) $ done !))))))))))))
