use Rattle.std.proofs.Common.{◌-◌, ◌++◌, length, take, drop, sym, ap, subst, ◌∙◌, arith, length-take}
use lib.Seq.{take-add, take-take}
use Rattle.std.specs.Io.KnownBytes.{Appends}
use Rattle.std.proofs.KnownBytes.{Appends-trans}
use Rattle.ntlpc.proofs.edge.write_all.Goals as goal

pub loop-count-preserved : goal.loop-count-preserved
loop-count-preserved g c =
    let count = c.loop-count.count in
    let more = c.in-Ok.more in
    let text = c.args.text.now in
    let fits = c.in-Ok.ensures.bound in
    let most = length-take (length text - count) (drop count text) in
    let joined = ap (λ l. take count text ++ l) (take-take more (length text - count) (drop count text) (omega arith)) ∙ sym (take-add count more text) in
    (omega arith, subst (Appends _ _) joined (Appends-trans _ _ _ _ _ c.loop-count.invariant.1 c.in-Ok.ensures.writer))
