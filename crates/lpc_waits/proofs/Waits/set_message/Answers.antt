use Rattle.std.proofs.Common.{refl, sym, ap, ◌∙◌, is_some, true≢false}
use Rattle.lpc_waits.specs.Sought.{is_by}
use Rattle.lpc_waits.specs.Table.{with_message}
use Rattle.lpc_waits.proofs.Changed.{kept_changed, same_offers, seen_changed}
use Rattle.lpc_waits.proofs.Found.{found_there, row_missed}
use Rattle.lpc_waits.proofs.Waits.set_message.Goals as goal

pub invariant_of-self : goal.invariant_of-self
invariant_of-self c =
    let rows = c.self.inside.rows in
    let key = c.in-Some.key in
    let standing = c.in-Some-get_mut.standing.now in
    let is = sym c.of_thread.ensures ∙ c.in-Some.is in
    let there = sym c.in-Some-get_mut.ensures.value in
    rw (c.held-standing.ensures) (kept_changed rows key (with_message c.args.bytes.now) (λ _. refl) c.self.inside.chains c.self.inside.events c.self.inside.offering c.args.tid c.self.invariant is standing there c.self.inside.offering (λ _. refl) (λ _. refl)
    (same_offers rows key (with_message c.args.bytes.now) (λ _. refl) c.self.inside.chains c.self.inside.events c.self.inside.offering c.args.tid c.self.invariant is standing there (λ _. refl)))

pub returns-in-Some-get_mut : goal.returns-in-Some-get_mut
returns-in-Some-get_mut c =
    let rows = c.self.inside.rows in
    let key = c.in-Some.key in
    let standing = c.in-Some-get_mut.standing.now in
    let is = sym c.of_thread.ensures ∙ c.in-Some.is in
    let there = sym c.in-Some-get_mut.ensures.value in
    record { table = rw (← c.self.view_is, c.held-standing.ensures) (seen_changed rows key (with_message c.args.bytes.now) (λ _. refl) c.self.inside.chains c.self.inside.events c.self.inside.offering c.args.tid c.self.invariant is standing there) }

pub returns-in_default-get_mut : goal.returns-in_default-get_mut
returns-in_default-get_mut c =
    let there = found_there c.self.inside.rows (is_by c.args.tid) c.in-Some.key (sym c.of_thread.ensures ∙ c.in-Some.is) in
    absurd (true≢false (sym there ∙ ap is_some (sym c.in_default-get_mut.ensures.value)))

pub returns-in_default : goal.returns-in_default
returns-in_default c =
    let missed = row_missed c.self.inside.rows c.args.tid (sym c.of_thread.ensures ∙ c.in_default.is) in
    let waits = rw (← c.self.view_is) at c.requires.waits in
    absurd (true≢false (sym waits ∙ ap is_some missed))
