use Rattle.std.proofs.Common.{ap, vec_capacity}
use Rattle.lpc_model.specs.Message.{message_of}
use Rattle.lpc_rows.specs.Shown.{birth_of, shown_wait}
use Rattle.lpc_waits.specs.Lent.{waiting_of}
use Rattle.lpc_states.specs.Rows.{awaited}
use Rattle.lpc_states.specs.Values.{message_text}
use Rattle.lpc_states.proofs.Puts.{IsPut, first_same, put_last, put_more, put_stops}
use Rattle.lpc_snapshot.proofs.waits.put_awaited.Goals as goal

pub returns-in_err-put-in-Request : goal.returns-in_err-put-in-Request
unfolding awaited
returns-in_err-put-in-Request c =
    let all : IsPut c.args.into.now.items (vec_capacity c.args.into.now) c.put.new.into.items (vec_capacity c.put.new.into) (awaited (shown_wait (birth_of c.args.world.now.births) (waiting_of c.args.row.now)).kind) c.from_residual.result =
    rw c.in-Request.is (put_stops _ _ _ c.from_residual.ensures.0 c.in_err-put-in-Request.ensures.err c.in_err-put-in-Request.ensures.capacity c.in_err-put-in-Request.ensures.wanting) in
    record { ok = all.ok; err = all.err; capacity = all.capacity; wanting = all.wanting }

pub returns-in_ok-put-in-Request : goal.returns-in_ok-put-in-Request
unfolding awaited
returns-in_ok-put-in-Request c =
    let all : IsPut c.args.into.now.items (vec_capacity c.args.into.now) c.put_message.new.into.items (vec_capacity c.put_message.new.into) (awaited (shown_wait (birth_of c.args.world.now.births) (waiting_of c.args.row.now)).kind) c.put_message.result =
    rw c.in-Request.is (put_more _ _ c.in_ok-put-in-Request.ensures.ok c.in_ok-put-in-Request.ensures.capacity
    (first_same _ _ _ (ap (λ bytes. message_text (message_of bytes)) c.message.ensures.value) (put_last _ c.put_message.ensures.ok c.put_message.ensures.err c.put_message.ensures.capacity c.put_message.ensures.wanting))) in
    record { ok = all.ok; err = all.err; capacity = all.capacity; wanting = all.wanting }

pub returns-in_err-put-in-Event : goal.returns-in_err-put-in-Event
unfolding awaited
returns-in_err-put-in-Event c =
    let all : IsPut c.args.into.now.items (vec_capacity c.args.into.now) c.put-in-Event.new.into.items (vec_capacity c.put-in-Event.new.into) (awaited (shown_wait (birth_of c.args.world.now.births) (waiting_of c.args.row.now)).kind) c.from_residual-in_err-put-in-Event.result =
    rw c.in-Event.is (put_stops _ _ _ c.from_residual-in_err-put-in-Event.ensures.0 c.in_err-put-in-Event.ensures.err c.in_err-put-in-Event.ensures.capacity c.in_err-put-in-Event.ensures.wanting) in
    record { ok = all.ok; err = all.err; capacity = all.capacity; wanting = all.wanting }

pub returns-in_ok-put-in-Event : goal.returns-in_ok-put-in-Event
unfolding awaited
returns-in_ok-put-in-Event c =
    let all : IsPut c.args.into.now.items (vec_capacity c.args.into.now) c.put_raised.new.into.items (vec_capacity c.put_raised.new.into) (awaited (shown_wait (birth_of c.args.world.now.births) (waiting_of c.args.row.now)).kind) c.put_raised.result =
    rw c.in-Event.is (put_more _ _ c.in_ok-put-in-Event.ensures.ok c.in_ok-put-in-Event.ensures.capacity
    (put_last _ c.put_raised.ensures.ok c.put_raised.ensures.err c.put_raised.ensures.capacity c.put_raised.ensures.wanting)) in
    record { ok = all.ok; err = all.err; capacity = all.capacity; wanting = all.wanting }
