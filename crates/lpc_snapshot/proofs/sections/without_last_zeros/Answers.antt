use Rattle.std.proofs.Common.{◌≡◌, ◌∙◌, ap, arith, suc, sym, ◌-◌, take}
use Rattle.lpc_states.specs.Rows.{without_last_zeros}
use Rattle.lpc_snapshot.proofs.Zeros.{no_zero_at, none_left, zero_at}
use Rattle.lpc_snapshot.proofs.sections.without_last_zeros.Goals as goal
use Rattle.lpc_snapshot.proofs.sections.without_last_zeros.Goals.{then-loop-end-test+else-bytes-end-eq0, else-loop-end-test}

pub loop-end-preserved : goal.loop-end-preserved
loop-end-preserved c = record {
  within = omega arith;
  same =
      let last : suc (c.loop-end.end - 1) ≡ c.loop-end.end = omega arith in
      let less = zero_at c.args.bytes.now (c.loop-end.end - 1) (omega arith) c.if-bytes-end-eq0.true in
      sym less ∙ (ap (λ n. without_last_zeros (take n c.args.bytes.now)) last ∙ c.loop-end.invariant.same);
}

pub returns : goal.returns
returns c = elim c.loop-end-test.branch [
  | then-loop-end-test+else-bytes-end-eq0 w ↦
      (let last : suc (c.loop-end.end - 1) ≡ c.loop-end.end = omega (arith, w.loop-end-test.true) in
      let all = no_zero_at c.args.bytes.now (c.loop-end.end - 1) (omega (arith, w.loop-end-test.true, c.loop-end.invariant.within)) w.if-bytes-end-eq0.false in
      sym (rw last at all) ∙ c.loop-end.invariant.same)
  | else-loop-end-test w ↦
      (let none : c.loop-end.end ≡ 0 = omega (arith, w.loop-end-test.false) in
      ap (λ n. take n c.args.bytes.now) none ∙ (sym none_left ∙ (ap (λ n. without_last_zeros (take n c.args.bytes.now)) (sym none) ∙ c.loop-end.invariant.same)))
]
