use Rattle.std.proofs.Common.{◌≡◌, ◌+◌, true, Some, refl, sym, ap, ◌∙◌, true≢false}
use Rattle.lpc_ports.specs.Table.{is_the, paired}
use Rattle.lpc_ports.specs.Totals.{one_if}
use Rattle.lpc_ports.proofs.Fields.{repaired_kept, seen_changed, seen_kept}
use Rattle.lpc_ports.proofs.Named.{rows_seen, rows_then}
use Rattle.lpc_ports.proofs.Ports.pair_with.Goals as goal
use Rattle.lpc_ports.proofs.Ports.pair_with.Goals.{then-self, else-self}

pub invariant_of-self : goal.invariant_of-self
invariant_of-self c =
    let counted : c.if-self.self ≡ true → c.gain_paired-counted.result ≡ true = λ holds. elim c.if-self.branch [
      | then-self w ↦ sym w.self-is ∙ holds
      | else-self w ↦ absurd (true≢false (sym holds ∙ (w.self-is ∙ w.if-self.false)))
    ] in
    let was : c.if-self.self ≡ true → c.self.inside.whole ≡ true = λ holds. elim c.if-self.branch [
      | then-self w ↦ w.if-self.true
      | else-self w ↦ absurd (true≢false (sym holds ∙ (w.self-is ∙ w.if-self.false)))
    ] in
    repaired_kept c.self.inside.ports c.self.inside.blocks c.args.port (paired c.args.pair c.args.context) c.self.inside.totals c.self.inside.whole c.if-self.self c.in-Some.row.now c.gain_paired-counted.new.ports
    (sym c.in-Some.ensures.value) (λ _. refl) (λ _. refl) was
    (rows_then _ _ _ c.lose_paired.ensures.rows c.gain_paired-counted.ensures.rows)
    (λ q. c.gain_paired-counted.ensures.connected q ∙ c.lose_paired.ensures.connected q)
    (λ holds q. c.gain_paired-counted.ensures.paired (counted holds) q ∙ ap (λ n. n + one_if (is_the q (Some c.args.pair))) (c.lose_paired.ensures.paired q))
    c.self.invariant

pub returns-after-self : goal.returns-after-self
returns-after-self c =
    rw (← c.self.view_is)
    (rows_seen _ _ c.gain_paired-counted.ensures.rows c.self.inside.blocks ∙ rows_seen _ _ c.lose_paired.ensures.rows c.self.inside.blocks
    ∙ seen_changed c.self.inside.ports c.self.inside.blocks c.args.port (paired c.args.pair c.args.context) c.in-Some.row.now (sym c.in-Some.ensures.value))

pub returns-in_default : goal.returns-in_default
returns-in_default c = rw (← c.self.view_is) (seen_kept c.self.inside.ports c.self.inside.blocks c.args.port (paired c.args.pair c.args.context) (sym c.in_default.ensures.value))
