use Rattle.std.proofs.Common.{vec_capacity}
use Rattle.lpc_rows.specs.Shown.{shown_raised}
use Rattle.lpc_states.specs.Values.{raised_text}
use Rattle.lpc_states.proofs.Puts.{IsPut, as_two, put_last, put_more, put_stops}
use Rattle.lpc_snapshot.proofs.waits.put_raised.Goals as goal

pub returns-in_err-put_hex_under : goal.returns-in_err-put_hex_under
unfolding raised_text
returns-in_err-put_hex_under c =
    let all : IsPut c.args.into.now.items (vec_capacity c.args.into.now) c.put_hex_under.new.into.items (vec_capacity c.put_hex_under.new.into) (raised_text (shown_raised c.args.raised)) c.from_residual.result =
    as_two _ _ _ (put_stops _ _ _ c.from_residual.ensures.0 c.in_err-put_hex_under.ensures.err c.in_err-put_hex_under.ensures.capacity c.in_err-put_hex_under.ensures.wanting) in
    record { ok = all.ok; err = all.err; capacity = all.capacity; wanting = all.wanting }

pub returns-in_err-put_flag_under : goal.returns-in_err-put_flag_under
unfolding raised_text
returns-in_err-put_flag_under c =
    let all : IsPut c.args.into.now.items (vec_capacity c.args.into.now) c.put_flag_under.new.into.items (vec_capacity c.put_flag_under.new.into) (raised_text (shown_raised c.args.raised)) c.from_residual-in_err-put_flag_under.result =
    as_two _ _ _ (put_more _ _ c.in_ok-put_hex_under.ensures.ok c.in_ok-put_hex_under.ensures.capacity
    (as_two _ _ _ (put_stops _ _ _ c.from_residual-in_err-put_flag_under.ensures.0 c.in_err-put_flag_under.ensures.err c.in_err-put_flag_under.ensures.capacity c.in_err-put_flag_under.ensures.wanting))) in
    record { ok = all.ok; err = all.err; capacity = all.capacity; wanting = all.wanting }

pub returns-in_err-put : goal.returns-in_err-put
unfolding raised_text
returns-in_err-put c =
    let all : IsPut c.args.into.now.items (vec_capacity c.args.into.now) c.put.new.into.items (vec_capacity c.put.new.into) (raised_text (shown_raised c.args.raised)) c.from_residual-in_err-put.result =
    as_two _ _ _ (put_more _ _ c.in_ok-put_hex_under.ensures.ok c.in_ok-put_hex_under.ensures.capacity
    (as_two _ _ _ (put_more _ _ c.in_ok-put_flag_under.ensures.ok c.in_ok-put_flag_under.ensures.capacity
    (put_stops _ _ _ c.from_residual-in_err-put.ensures.0 c.in_err-put.ensures.err c.in_err-put.ensures.capacity c.in_err-put.ensures.wanting)))) in
    record { ok = all.ok; err = all.err; capacity = all.capacity; wanting = all.wanting }

pub returns-in_err-put_chance : goal.returns-in_err-put_chance
unfolding raised_text
returns-in_err-put_chance c =
    let all : IsPut c.args.into.now.items (vec_capacity c.args.into.now) c.put_chance.new.into.items (vec_capacity c.put_chance.new.into) (raised_text (shown_raised c.args.raised)) c.from_residual-in_err-put_chance.result =
    as_two _ _ _ (put_more _ _ c.in_ok-put_hex_under.ensures.ok c.in_ok-put_hex_under.ensures.capacity
    (as_two _ _ _ (put_more _ _ c.in_ok-put_flag_under.ensures.ok c.in_ok-put_flag_under.ensures.capacity
    (put_more _ _ c.in_ok-put.ensures.ok c.in_ok-put.ensures.capacity
    (put_stops _ _ _ c.from_residual-in_err-put_chance.ensures.0 c.in_err-put_chance.ensures.err c.in_err-put_chance.ensures.capacity c.in_err-put_chance.ensures.wanting))))) in
    record { ok = all.ok; err = all.err; capacity = all.capacity; wanting = all.wanting }

pub returns : goal.returns
unfolding raised_text
returns c =
    let all : IsPut c.args.into.now.items (vec_capacity c.args.into.now) c.put-2.new.into.items (vec_capacity c.put-2.new.into) (raised_text (shown_raised c.args.raised)) c.put-2.result =
    as_two _ _ _ (put_more _ _ c.in_ok-put_hex_under.ensures.ok c.in_ok-put_hex_under.ensures.capacity
    (as_two _ _ _ (put_more _ _ c.in_ok-put_flag_under.ensures.ok c.in_ok-put_flag_under.ensures.capacity
    (put_more _ _ c.in_ok-put.ensures.ok c.in_ok-put.ensures.capacity
    (put_more _ _ c.in_ok-put_chance.ensures.ok c.in_ok-put_chance.ensures.capacity
    (put_last _ c.put-2.ensures.ok c.put-2.ensures.err c.put-2.ensures.capacity c.put-2.ensures.wanting)))))) in
    record { ok = all.ok; err = all.err; capacity = all.capacity; wanting = all.wanting }
