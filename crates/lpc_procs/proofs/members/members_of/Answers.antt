use Rattle.std.proofs.Common.{◌≡◌, ap, ◌∙◌, arith, drop, take}
use Rattle.std.specs.List.{prefix_len}
use Rattle.std.proofs.lemmas.List.Sums.{prefix_len-le-length}
use Rattle.lpc_procs.specs.Members.{comes_before, comes_within, rise}
use Rattle.lpc_procs.proofs.Grouped.{members-stand, rise-drop}
use Rattle.lpc_procs.proofs.members.members_of.Goals as goal

pub split_at-requires : goal.split_at-requires
split_at-requires c = omega (arith, c.places_before.ensures, prefix_len-le-length (comes_before c.args.rank) c.args.rows.now)

pub places_within-requires : goal.places_within-requires
places_within-requires c = ap rise c.split_at.ensures.back ∙ rise-drop c.places_before.result c.args.rows.now c.requires

pub split_at-requires-2 : goal.split_at-requires-2
split_at-requires-2 c = omega (arith, c.places_within.ensures, prefix_len-le-length (comes_within c.args.rank) c.split_at.result.1.now)

pub returns : goal.returns
returns c =
    let rows = c.args.rows.now in
    let behind : c.split_at.result.1.now ≡ drop (prefix_len (comes_before c.args.rank) rows) rows = c.split_at.ensures.back ∙ ap (λ n. drop n rows) c.places_before.ensures in
    let front : c.split_at-2.result.0.now ≡ take (prefix_len (comes_within c.args.rank) c.split_at.result.1.now) c.split_at.result.1.now = c.split_at-2.ensures.front ∙ ap (λ n. take n c.split_at.result.1.now) c.places_within.ensures in
    front ∙ ap (λ ms. take (prefix_len (comes_within c.args.rank) ms) ms) behind ∙ members-stand c.args.rank rows c.requires
