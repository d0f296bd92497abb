use Rattle.std.proofs.Common.{◌≡◌, refl, ap, ◌∙◌, arith}
use Rattle.std.specs.List.{insert, prefix_len}
use Rattle.std.proofs.lemmas.List.Sums.{prefix_len-le-length}
use Rattle.lpc_base.specs.Rows.{which}
use Rattle.lpc_procs.specs.declared.members.Member.{Member}
use Rattle.lpc_procs.specs.Members.{comes_within, is_of_rank, rise}
use Rattle.lpc_procs.proofs.Grouped.{rise-put, which-put}
use Rattle.lpc_procs.proofs.members.Members.add.Goals as goal

pub insert-requires : goal.insert-requires
insert-requires c =
    let rows = c.self.inside.rows.items in
    let place = c.places_within-place.ensures ∙ ap (prefix_len (comes_within c.args.rank)) c.deref.ensures.value in
    omega (arith, place, prefix_len-le-length (comes_within c.args.rank) rows, c.self.inside.rows.ok.0)

pub invariant_of-self-2 : goal.invariant_of-self-2
invariant_of-self-2 c =
    let rows = c.self.inside.rows.items in
    let new : Member = record { rank = c.args.rank; thread = c.args.thread } in
    let place = c.places_within-place.ensures ∙ ap (prefix_len (comes_within c.args.rank)) c.deref.ensures.value in
    let put : c.insert.new.self.items ≡ insert rows (prefix_len (comes_within c.args.rank) rows) new = c.in-Ok.ensures.items ∙ ap (λ i. insert rows i new) place in
    ap rise put ∙ rise-put c.args.rank new refl rows c.self.invariant

pub returns : goal.returns
returns c whole =
    let rows = c.self.inside.rows.items in
    let new : Member = record { rank = c.args.rank; thread = c.args.thread } in
    let place = c.places_within-place.ensures ∙ ap (prefix_len (comes_within c.args.rank)) c.deref.ensures.value in
    let put : c.insert.new.self.items ≡ insert rows (prefix_len (comes_within c.args.rank) rows) new = c.in-Ok.ensures.items ∙ ap (λ i. insert rows i new) place in
    rw (← c.self.view_is)
    (record {
      whole = whole;
      rows = λ other. ap (which (is_of_rank other)) put ∙ which-put c.args.rank new refl other rows c.self.invariant;
    })
