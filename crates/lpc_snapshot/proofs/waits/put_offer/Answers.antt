use Rattle.std.proofs.Common.{vec_capacity}
use Rattle.lpc_rows.specs.Shown.{birth_of, shown_offer}
use Rattle.lpc_states.specs.Values.{offer_text}
use Rattle.lpc_states.proofs.Puts.{IsPut, as_two, put_last, put_more, put_stops}
use Rattle.lpc_snapshot.proofs.waits.put_offer.Goals as goal

pub returns-in_err-put_name_of_under : goal.returns-in_err-put_name_of_under
unfolding offer_text
returns-in_err-put_name_of_under c =
    let all : IsPut c.args.into.now.items (vec_capacity c.args.into.now) c.put_name_of_under.new.into.items (vec_capacity c.put_name_of_under.new.into) (offer_text (shown_offer (birth_of c.args.world.now.births) c.args.offer.now)) c.from_residual.result =
    as_two _ _ _ (put_stops _ _ _ c.from_residual.ensures.0 c.in_err-put_name_of_under.ensures.err c.in_err-put_name_of_under.ensures.capacity c.in_err-put_name_of_under.ensures.wanting) in
    record { ok = all.ok; err = all.err; capacity = all.capacity; wanting = all.wanting }

pub returns-in_err-put_decimal_under : goal.returns-in_err-put_decimal_under
unfolding offer_text
returns-in_err-put_decimal_under c =
    let all : IsPut c.args.into.now.items (vec_capacity c.args.into.now) c.put_decimal_under.new.into.items (vec_capacity c.put_decimal_under.new.into) (offer_text (shown_offer (birth_of c.args.world.now.births) c.args.offer.now)) c.from_residual-in_err-put_decimal_under.result =
    as_two _ _ _ (put_more _ _ c.in_ok-put_name_of_under.ensures.ok c.in_ok-put_name_of_under.ensures.capacity
    (as_two _ _ _ (put_stops _ _ _ c.from_residual-in_err-put_decimal_under.ensures.0 c.in_err-put_decimal_under.ensures.err c.in_err-put_decimal_under.ensures.capacity c.in_err-put_decimal_under.ensures.wanting))) in
    record { ok = all.ok; err = all.err; capacity = all.capacity; wanting = all.wanting }

pub returns-in_err-put_decimal_under-2 : goal.returns-in_err-put_decimal_under-2
unfolding offer_text
returns-in_err-put_decimal_under-2 c =
    let all : IsPut c.args.into.now.items (vec_capacity c.args.into.now) c.put_decimal_under-2.new.into.items (vec_capacity c.put_decimal_under-2.new.into) (offer_text (shown_offer (birth_of c.args.world.now.births) c.args.offer.now)) c.from_residual-in_err-put_decimal_under-2.result =
    as_two _ _ _ (put_more _ _ c.in_ok-put_name_of_under.ensures.ok c.in_ok-put_name_of_under.ensures.capacity
    (as_two _ _ _ (put_more _ _ c.in_ok-put_decimal_under.ensures.ok c.in_ok-put_decimal_under.ensures.capacity
    (as_two _ _ _ (put_stops _ _ _ c.from_residual-in_err-put_decimal_under-2.ensures.0 c.in_err-put_decimal_under-2.ensures.err c.in_err-put_decimal_under-2.ensures.capacity c.in_err-put_decimal_under-2.ensures.wanting))))) in
    record { ok = all.ok; err = all.err; capacity = all.capacity; wanting = all.wanting }

pub returns : goal.returns
unfolding offer_text
returns c =
    let all : IsPut c.args.into.now.items (vec_capacity c.args.into.now) c.put.new.into.items (vec_capacity c.put.new.into) (offer_text (shown_offer (birth_of c.args.world.now.births) c.args.offer.now)) c.put.result =
    as_two _ _ _ (put_more _ _ c.in_ok-put_name_of_under.ensures.ok c.in_ok-put_name_of_under.ensures.capacity
    (as_two _ _ _ (put_more _ _ c.in_ok-put_decimal_under.ensures.ok c.in_ok-put_decimal_under.ensures.capacity
    (as_two _ _ _ (put_more _ _ c.in_ok-put_decimal_under-2.ensures.ok c.in_ok-put_decimal_under-2.ensures.capacity
    (put_last _ c.put.ensures.ok c.put.ensures.err c.put.ensures.capacity c.put.ensures.wanting)))))) in
    record { ok = all.ok; err = all.err; capacity = all.capacity; wanting = all.wanting }
