use Rattle.std.proofs.Common.{◌≡◌, ◌+◌, Some, None, length, ap, sym, ◌∙◌, arith}
use Rattle.std.specs.List.{position, prefix_len, remove}
use Rattle.lpc_base.specs.Rows.{which}
use Rattle.lpc_procs.specs.Members.{comes_before, is_member, is_of_rank, names_thread, rise}
use Rattle.lpc_procs.proofs.Grouped.{gone, kept, no-place, rise-less, some-place}
use Rattle.lpc_procs.proofs.members.Members.remove.Goals as goal

pub overflow_add-front : goal.overflow_add-front
overflow_add-front c =
    let rows = c.self.inside.rows.items in
    let members = which (is_of_rank c.args.rank) rows in
    let found : Some c.in-Some.place ≡ position (names_thread c.args.thread) members = sym c.in-Some.is ∙ c.place_of.ensures ∙ ap (position (names_thread c.args.thread)) (c.members_of.ensures ∙ ap (which (is_of_rank c.args.rank)) c.deref-2.ensures.value) in
    let place = some-place (names_thread c.args.thread) members c.in-Some.place found in
    let within = (gone c.args.rank c.args.thread rows c.self.invariant place.1).0 in
    let front = c.places_before-front.ensures ∙ ap (prefix_len (comes_before c.args.rank)) c.deref.ensures.value in
    omega (arith, within, place.0, front, c.deref.type_inv, ap (λ rows. length rows) c.deref.ensures.value)

pub remove-requires : goal.remove-requires
remove-requires c =
    let rows = c.self.inside.rows.items in
    let members = which (is_of_rank c.args.rank) rows in
    let found : Some c.in-Some.place ≡ position (names_thread c.args.thread) members = sym c.in-Some.is ∙ c.place_of.ensures ∙ ap (position (names_thread c.args.thread)) (c.members_of.ensures ∙ ap (which (is_of_rank c.args.rank)) c.deref-2.ensures.value) in
    let place = some-place (names_thread c.args.thread) members c.in-Some.place found in
    let within = (gone c.args.rank c.args.thread rows c.self.invariant place.1).0 in
    let front = c.places_before-front.ensures ∙ ap (prefix_len (comes_before c.args.rank)) c.deref.ensures.value in
    omega (arith, within, place.0, front, c.self.inside.rows.ok.0)

pub invariant_of-self : goal.invariant_of-self
invariant_of-self c =
    let rows = c.self.inside.rows.items in
    let members = which (is_of_rank c.args.rank) rows in
    let found : Some c.in-Some.place ≡ position (names_thread c.args.thread) members = sym c.in-Some.is ∙ c.place_of.ensures ∙ ap (position (names_thread c.args.thread)) (c.members_of.ensures ∙ ap (which (is_of_rank c.args.rank)) c.deref-2.ensures.value) in
    let place = some-place (names_thread c.args.thread) members c.in-Some.place found in
    let front = c.places_before-front.ensures ∙ ap (prefix_len (comes_before c.args.rank)) c.deref.ensures.value in
    let left = c.remove.ensures.items ∙ (λ i. remove rows (front i + sym place.0 i)) ∙ (gone c.args.rank c.args.thread rows c.self.invariant place.1).1 in
    ap rise left ∙ rise-less (is_member c.args.rank c.args.thread) rows c.self.invariant

pub returns-in-Some-clause-rows : goal.returns-in-Some-clause-rows
returns-in-Some-clause-rows c =
    let rows = c.self.inside.rows.items in
    let members = which (is_of_rank c.args.rank) rows in
    let found : Some c.in-Some.place ≡ position (names_thread c.args.thread) members = sym c.in-Some.is ∙ c.place_of.ensures ∙ ap (position (names_thread c.args.thread)) (c.members_of.ensures ∙ ap (which (is_of_rank c.args.rank)) c.deref-2.ensures.value) in
    let place = some-place (names_thread c.args.thread) members c.in-Some.place found in
    let front = c.places_before-front.ensures ∙ ap (prefix_len (comes_before c.args.rank)) c.deref.ensures.value in
    let left = c.remove.ensures.items ∙ (λ i. remove rows (front i + sym place.0 i)) ∙ (gone c.args.rank c.args.thread rows c.self.invariant place.1).1 in
    rw (← c.self.view_is) left

pub returns-in-None-clause-rows : goal.returns-in-None-clause-rows
returns-in-None-clause-rows c =
    let rows = c.self.inside.rows.items in
    let members = which (is_of_rank c.args.rank) rows in
    let found : None ≡ position (names_thread c.args.thread) members = sym c.in-None.is ∙ c.place_of.ensures ∙ ap (position (names_thread c.args.thread)) (c.members_of.ensures ∙ ap (which (is_of_rank c.args.rank)) c.deref-2.ensures.value) in
    rw (← c.self.view_is) (kept c.args.rank c.args.thread rows (no-place (names_thread c.args.thread) members found))
