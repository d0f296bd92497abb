use Rattle.std.proofs.Common.{◌≡◌, ◌<◌, ◌≤◌, ◌∙◌, ℕ, OnOk, length, ap, sym, subst, arith}
use Rattle.lpc_base.specs.Room.{grown_room}
use Rattle.lpc_slots.specs.Table.{listed}
use Rattle.lpc_waits.specs.Lent.{keyed, shown}
use Rattle.lpc_waits.proofs.Begun.{kept_roomy, kept_suited, length_seen, roomy_kept, suited_kept}
use Rattle.lpc_waits.proofs.Chained.{kept_keyed, length_keyed}
use Rattle.lpc_waits.proofs.Waits.reserve.Goals as goal

pub invariant_of-self : goal.invariant_of-self
invariant_of-self c =
    kept_suited c.self.inside.rows c.suit.new.rows c.self.inside.chains c.suit.new.self c.self.inside.events c.self.inside.offering c.self.invariant c.suit.ensures.rows c.suit.ensures.on c.suit.ensures.kept

pub returns-in_err-suit-clause-kept : goal.returns-in_err-suit-clause-kept
returns-in_err-suit-clause-kept c = rw (← c.self.view_is) (suited_kept c.self.inside.rows c.suit.new.rows c.suit.ensures.rows)

pub invariant_of-self-2 : goal.invariant_of-self-2
invariant_of-self-2 c =
    let kept = kept_suited c.self.inside.rows c.suit.new.rows c.self.inside.chains c.suit.new.self c.self.inside.events c.self.inside.offering c.self.invariant c.suit.ensures.rows c.suit.ensures.on c.suit.ensures.kept in
    let long : length (listed c.suit.new.rows) ≡ length (listed c.self.inside.rows) = sym (length_keyed c.suit.new.rows) ∙ ap length (kept_keyed c.self.inside.rows c.suit.new.rows c.suit.ensures.rows) ∙ length_keyed c.self.inside.rows in
    kept_roomy c.suit.new.rows c.reserve.new.self c.suit.new.self c.self.inside.events c.self.inside.offering c.args.more kept c.reserve.ensures.kept c.reserve.ensures.enough (λ some. c.in_ok-suit.ensures.wide (omega (arith, some, long)))

pub returns-clause-kept : goal.returns-clause-kept
returns-clause-kept c = rw (← c.self.view_is) (roomy_kept c.self.inside.rows c.suit.new.rows c.reserve.new.self c.suit.ensures.rows c.reserve.ensures.kept)

pub returns-clause-most : goal.returns-clause-most
returns-clause-most c =
    let rows = c.self.inside.rows in
    let mid = c.suit.new.rows in
    let long : length (listed mid) ≡ length (shown (keyed rows)) = sym (length_seen mid) ∙ ap (λ all. length (shown all)) (kept_keyed rows mid c.suit.ensures.rows) in
    let most : c.reserve.new.self.spare ≤ grown_room mid.spare c.args.more (length (listed mid)) = c.reserve.ensures.most in
    rw (← c.self.view_is)
    (subst (λ (n : ℕ). c.reserve.new.self.spare ≤ grown_room rows.spare c.args.more n) long (subst (λ (n : ℕ). c.reserve.new.self.spare ≤ grown_room n c.args.more (length (listed mid))) c.suit.ensures.rows.spare most))

pub returns-clause-grown : goal.returns-clause-grown
returns-clause-grown c =
    let rows = c.self.inside.rows in
    let mid = c.suit.new.rows in
    let long : length (listed mid) ≡ length (shown (keyed rows)) = sym (length_seen mid) ∙ ap (λ all. length (shown all)) (kept_keyed rows mid c.suit.ensures.rows) in
    let grown : OnOk c.reserve.result (mid.spare < c.args.more → length (listed mid) ≤ c.reserve.new.self.spare) = c.reserve.ensures.grown in
    rw (← c.self.view_is)
    (subst (λ (n : ℕ). OnOk c.reserve.result (rows.spare < c.args.more → n ≤ c.reserve.new.self.spare)) long (subst (λ (n : ℕ). OnOk c.reserve.result (n < c.args.more → length (listed mid) ≤ c.reserve.new.self.spare)) c.suit.ensures.rows.spare grown))
