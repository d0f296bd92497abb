use Rattle.std.proofs.Common.{ap, decimal, vec_capacity}
use Rattle.lpc_rows.specs.Clauses.{name_at}
use Rattle.lpc_states.specs.Rows.{counts}
use Rattle.lpc_states.proofs.Puts.{IsPut, first_same, put_last, put_more, put_stops}
use Rattle.lpc_snapshot.proofs.counts.put_counts.Goals as goal

pub returns-in_err-put : goal.returns-in_err-put
unfolding counts
returns-in_err-put c =
    let all : IsPut c.args.into.now.items (vec_capacity c.args.into.now) c.put.new.into.items (vec_capacity c.put.new.into) (counts c.args.world.now.rows (name_at c.args.world.now c.args.object)) c.from_residual.result =
    put_stops _ _ _ c.from_residual.ensures.0 c.in_err-put.ensures.err c.in_err-put.ensures.capacity c.in_err-put.ensures.wanting in
    record { ok = all.ok; err = all.err; capacity = all.capacity; wanting = all.wanting }

pub returns-in_err-put_number : goal.returns-in_err-put_number
unfolding counts
returns-in_err-put_number c =
    let all : IsPut c.args.into.now.items (vec_capacity c.args.into.now) c.put_number.new.into.items (vec_capacity c.put_number.new.into) (counts c.args.world.now.rows (name_at c.args.world.now c.args.object)) c.from_residual-in_err-put_number.result =
    put_more _ _ c.in_ok-put.ensures.ok c.in_ok-put.ensures.capacity
    (first_same _ _ _ (ap decimal c.handles_to.ensures) (put_stops _ _ _ c.from_residual-in_err-put_number.ensures.0 c.in_err-put_number.ensures.err c.in_err-put_number.ensures.capacity c.in_err-put_number.ensures.wanting)) in
    record { ok = all.ok; err = all.err; capacity = all.capacity; wanting = all.wanting }

pub returns-in_err-put-2 : goal.returns-in_err-put-2
unfolding counts
returns-in_err-put-2 c =
    let all : IsPut c.args.into.now.items (vec_capacity c.args.into.now) c.put-2.new.into.items (vec_capacity c.put-2.new.into) (counts c.args.world.now.rows (name_at c.args.world.now c.args.object)) c.from_residual-in_err-put-2.result =
    put_more _ _ c.in_ok-put.ensures.ok c.in_ok-put.ensures.capacity
    (first_same _ _ _ (ap decimal c.handles_to.ensures) (put_more _ _ c.in_ok-put_number.ensures.ok c.in_ok-put_number.ensures.capacity
    (put_stops _ _ _ c.from_residual-in_err-put-2.ensures.0 c.in_err-put-2.ensures.err c.in_err-put-2.ensures.capacity c.in_err-put-2.ensures.wanting))) in
    record { ok = all.ok; err = all.err; capacity = all.capacity; wanting = all.wanting }

pub returns : goal.returns
unfolding counts
returns c =
    let all : IsPut c.args.into.now.items (vec_capacity c.args.into.now) c.put_number-2.new.into.items (vec_capacity c.put_number-2.new.into) (counts c.args.world.now.rows (name_at c.args.world.now c.args.object)) c.put_number-2.result =
    put_more _ _ c.in_ok-put.ensures.ok c.in_ok-put.ensures.capacity
    (first_same _ _ _ (ap decimal c.handles_to.ensures) (put_more _ _ c.in_ok-put_number.ensures.ok c.in_ok-put_number.ensures.capacity
    (put_more _ _ c.in_ok-put-2.ensures.ok c.in_ok-put-2.ensures.capacity
    (first_same _ _ _ (ap decimal c.pointers_to.ensures) (put_last _ c.put_number-2.ensures.ok c.put_number-2.ensures.err c.put_number-2.ensures.capacity c.put_number-2.ensures.wanting))))) in
    record { ok = all.ok; err = all.err; capacity = all.capacity; wanting = all.wanting }
