use Rattle.std.proofs.Common.{ap, vec_capacity}
use Rattle.lpc_names.specs.Kept.{path_of, shown_node}
use Rattle.lpc_rows.specs.Shown.{birth_of, shown_node as with_births}
use Rattle.lpc_states.specs.Rows.{node_text}
use Rattle.lpc_states.specs.Values.{path_text}
use Rattle.lpc_states.proofs.Puts.{IsPut, first_same, put_last, put_more, put_stops}
use Rattle.lpc_snapshot.proofs.names.put_node.Goals as goal

pub returns-in_err-put-in-Link : goal.returns-in_err-put-in-Link
returns-in_err-put-in-Link c =
    let all : IsPut c.args.into.now.items (vec_capacity c.args.into.now) c.put-in-Link.new.into.items (vec_capacity c.put-in-Link.new.into) (node_text (with_births (birth_of c.args.world.now.births) (shown_node c.args.node.now))) c.from_residual-in_err-put-in-Link.result =
    rw c.in-Link.is (put_stops _ _ _ c.from_residual-in_err-put-in-Link.ensures.0 c.in_err-put-in-Link.ensures.err c.in_err-put-in-Link.ensures.capacity c.in_err-put-in-Link.ensures.wanting) in
    record { ok = all.ok; err = all.err; capacity = all.capacity; wanting = all.wanting }

pub returns-in_err-put_whole_path-in-Link : goal.returns-in_err-put_whole_path-in-Link
returns-in_err-put_whole_path-in-Link c =
    let all : IsPut c.args.into.now.items (vec_capacity c.args.into.now) c.put_whole_path.new.into.items (vec_capacity c.put_whole_path.new.into) (node_text (with_births (birth_of c.args.world.now.births) (shown_node c.args.node.now))) c.from_residual-in_err-put_whole_path-in-Link.result =
    rw c.in-Link.is (put_more _ _ c.in_ok-put-in-Link.ensures.ok c.in_ok-put-in-Link.ensures.capacity
    (first_same _ _ _ (ap (λ text. path_text (path_of text)) c.as_slice.ensures.value) (put_stops _ _ _ c.from_residual-in_err-put_whole_path-in-Link.ensures.0 c.in_err-put_whole_path-in-Link.ensures.err c.in_err-put_whole_path-in-Link.ensures.capacity c.in_err-put_whole_path-in-Link.ensures.wanting))) in
    record { ok = all.ok; err = all.err; capacity = all.capacity; wanting = all.wanting }

pub returns-in_ok-put_whole_path-in-Link : goal.returns-in_ok-put_whole_path-in-Link
returns-in_ok-put_whole_path-in-Link c =
    let all : IsPut c.args.into.now.items (vec_capacity c.args.into.now) c.put-in-Link-2.new.into.items (vec_capacity c.put-in-Link-2.new.into) (node_text (with_births (birth_of c.args.world.now.births) (shown_node c.args.node.now))) c.put-in-Link-2.result =
    rw c.in-Link.is (put_more _ _ c.in_ok-put-in-Link.ensures.ok c.in_ok-put-in-Link.ensures.capacity
    (first_same _ _ _ (ap (λ text. path_text (path_of text)) c.as_slice.ensures.value) (put_more _ _ c.in_ok-put_whole_path-in-Link.ensures.ok c.in_ok-put_whole_path-in-Link.ensures.capacity
    (put_last _ c.put-in-Link-2.ensures.ok c.put-in-Link-2.ensures.err c.put-in-Link-2.ensures.capacity c.put-in-Link-2.ensures.wanting)))) in
    record { ok = all.ok; err = all.err; capacity = all.capacity; wanting = all.wanting }
