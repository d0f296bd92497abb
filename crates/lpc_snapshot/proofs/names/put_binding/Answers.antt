use Rattle.std.proofs.Common.{vec_capacity}
use Rattle.lpc_names.specs.Kept.{shown_node}
use Rattle.lpc_names.specs.Path.{parts_of}
use Rattle.lpc_rows.specs.Shown.{birth_of, shown_binding}
use Rattle.lpc_states.specs.Rows.{name_row}
use Rattle.lpc_states.proofs.Puts.{IsPut, put_last, put_more, put_stops}
use Rattle.lpc_snapshot.proofs.names.put_binding.Goals as goal

pub returns-in_err-put : goal.returns-in_err-put
unfolding name_row
returns-in_err-put c =
    let all : IsPut c.args.into.now.items (vec_capacity c.args.into.now) c.put.new.into.items (vec_capacity c.put.new.into) (name_row (shown_binding (birth_of c.args.world.now.births) (parts_of c.args.path.now, shown_node c.args.node.now))) c.from_residual.result =
    put_stops _ _ _ c.from_residual.ensures.0 c.in_err-put.ensures.err c.in_err-put.ensures.capacity c.in_err-put.ensures.wanting in
    record { ok = all.ok; err = all.err; capacity = all.capacity; wanting = all.wanting }

pub returns-in_err-put_path : goal.returns-in_err-put_path
unfolding name_row
returns-in_err-put_path c =
    let all : IsPut c.args.into.now.items (vec_capacity c.args.into.now) c.put_path.new.into.items (vec_capacity c.put_path.new.into) (name_row (shown_binding (birth_of c.args.world.now.births) (parts_of c.args.path.now, shown_node c.args.node.now))) c.from_residual-in_err-put_path.result =
    put_more _ _ c.in_ok-put.ensures.ok c.in_ok-put.ensures.capacity
    (put_stops _ _ _ c.from_residual-in_err-put_path.ensures.0 c.in_err-put_path.ensures.err c.in_err-put_path.ensures.capacity c.in_err-put_path.ensures.wanting) in
    record { ok = all.ok; err = all.err; capacity = all.capacity; wanting = all.wanting }

pub returns-in_err-put-2 : goal.returns-in_err-put-2
unfolding name_row
returns-in_err-put-2 c =
    let all : IsPut c.args.into.now.items (vec_capacity c.args.into.now) c.put-2.new.into.items (vec_capacity c.put-2.new.into) (name_row (shown_binding (birth_of c.args.world.now.births) (parts_of c.args.path.now, shown_node c.args.node.now))) c.from_residual-in_err-put-2.result =
    put_more _ _ c.in_ok-put.ensures.ok c.in_ok-put.ensures.capacity
    (put_more _ _ c.in_ok-put_path.ensures.ok c.in_ok-put_path.ensures.capacity
    (put_stops _ _ _ c.from_residual-in_err-put-2.ensures.0 c.in_err-put-2.ensures.err c.in_err-put-2.ensures.capacity c.in_err-put-2.ensures.wanting)) in
    record { ok = all.ok; err = all.err; capacity = all.capacity; wanting = all.wanting }

pub returns-in_err-put_node : goal.returns-in_err-put_node
unfolding name_row
returns-in_err-put_node c =
    let all : IsPut c.args.into.now.items (vec_capacity c.args.into.now) c.put_node.new.into.items (vec_capacity c.put_node.new.into) (name_row (shown_binding (birth_of c.args.world.now.births) (parts_of c.args.path.now, shown_node c.args.node.now))) c.from_residual-in_err-put_node.result =
    put_more _ _ c.in_ok-put.ensures.ok c.in_ok-put.ensures.capacity
    (put_more _ _ c.in_ok-put_path.ensures.ok c.in_ok-put_path.ensures.capacity
    (put_more _ _ c.in_ok-put-2.ensures.ok c.in_ok-put-2.ensures.capacity
    (put_stops _ _ _ c.from_residual-in_err-put_node.ensures.0 c.in_err-put_node.ensures.err c.in_err-put_node.ensures.capacity c.in_err-put_node.ensures.wanting))) in
    record { ok = all.ok; err = all.err; capacity = all.capacity; wanting = all.wanting }

pub returns : goal.returns
unfolding name_row
returns c =
    let all : IsPut c.args.into.now.items (vec_capacity c.args.into.now) c.put-3.new.into.items (vec_capacity c.put-3.new.into) (name_row (shown_binding (birth_of c.args.world.now.births) (parts_of c.args.path.now, shown_node c.args.node.now))) c.put-3.result =
    put_more _ _ c.in_ok-put.ensures.ok c.in_ok-put.ensures.capacity
    (put_more _ _ c.in_ok-put_path.ensures.ok c.in_ok-put_path.ensures.capacity
    (put_more _ _ c.in_ok-put-2.ensures.ok c.in_ok-put-2.ensures.capacity
    (put_more _ _ c.in_ok-put_node.ensures.ok c.in_ok-put_node.ensures.capacity
    (put_last _ c.put-3.ensures.ok c.put-3.ensures.err c.put-3.ensures.capacity c.put-3.ensures.wanting)))) in
    record { ok = all.ok; err = all.err; capacity = all.capacity; wanting = all.wanting }
