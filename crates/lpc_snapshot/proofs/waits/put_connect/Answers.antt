use Rattle.std.proofs.Common.{Option, ap, option_map, sym, vec_capacity}
use Rattle.lpc_waits.specs.declared.Accepted.{Accepted}
use Rattle.lpc_rows.specs.Shown.{birth_of, shown_connect, shown_offer}
use Rattle.lpc_states.specs.Rows.{awaited}
use Rattle.lpc_states.proofs.Puts.{IsPut, put_last, put_more, put_same, put_stops}
use Rattle.lpc_snapshot.proofs.waits.put_connect.Goals as goal

pub returns-in_err-put-in-None : goal.returns-in_err-put-in-None
unfolding awaited
returns-in_err-put-in-None c =
    let all : IsPut c.args.into.now.items (vec_capacity c.args.into.now) c.put.new.into.items (vec_capacity c.put.new.into) (awaited (shown_connect c.args.bytes.now (option_map (shown_offer (birth_of c.args.world.now.births)) c.args.offer.now) c.args.accepted.now)) c.from_residual.result =
    put_same _ _ (sym (ap (λ (a : Option Accepted). awaited (shown_connect c.args.bytes.now (option_map (shown_offer (birth_of c.args.world.now.births)) c.args.offer.now) a)) c.in-None.is)) (put_stops _ _ _ c.from_residual.ensures.0 c.in_err-put-in-None.ensures.err c.in_err-put-in-None.ensures.capacity c.in_err-put-in-None.ensures.wanting) in
    record { ok = all.ok; err = all.err; capacity = all.capacity; wanting = all.wanting }

pub returns-in_err-put_message-in-None : goal.returns-in_err-put_message-in-None
unfolding awaited
returns-in_err-put_message-in-None c =
    let all : IsPut c.args.into.now.items (vec_capacity c.args.into.now) c.put_message.new.into.items (vec_capacity c.put_message.new.into) (awaited (shown_connect c.args.bytes.now (option_map (shown_offer (birth_of c.args.world.now.births)) c.args.offer.now) c.args.accepted.now)) c.from_residual-in_err-put_message-in-None.result =
    put_same _ _ (sym (ap (λ (a : Option Accepted). awaited (shown_connect c.args.bytes.now (option_map (shown_offer (birth_of c.args.world.now.births)) c.args.offer.now) a)) c.in-None.is)) (put_more _ _ c.in_ok-put-in-None.ensures.ok c.in_ok-put-in-None.ensures.capacity
    (put_stops _ _ _ c.from_residual-in_err-put_message-in-None.ensures.0 c.in_err-put_message-in-None.ensures.err c.in_err-put_message-in-None.ensures.capacity c.in_err-put_message-in-None.ensures.wanting)) in
    record { ok = all.ok; err = all.err; capacity = all.capacity; wanting = all.wanting }

pub returns-in_err-put-in-None-2 : goal.returns-in_err-put-in-None-2
unfolding awaited
returns-in_err-put-in-None-2 c =
    let all : IsPut c.args.into.now.items (vec_capacity c.args.into.now) c.put-in-None.new.into.items (vec_capacity c.put-in-None.new.into) (awaited (shown_connect c.args.bytes.now (option_map (shown_offer (birth_of c.args.world.now.births)) c.args.offer.now) c.args.accepted.now)) c.from_residual-in_err-put-in-None-2.result =
    put_same _ _ (sym (ap (λ (a : Option Accepted). awaited (shown_connect c.args.bytes.now (option_map (shown_offer (birth_of c.args.world.now.births)) c.args.offer.now) a)) c.in-None.is)) (put_more _ _ c.in_ok-put-in-None.ensures.ok c.in_ok-put-in-None.ensures.capacity
    (put_more _ _ c.in_ok-put_message-in-None.ensures.ok c.in_ok-put_message-in-None.ensures.capacity
    (put_stops _ _ _ c.from_residual-in_err-put-in-None-2.ensures.0 c.in_err-put-in-None-2.ensures.err c.in_err-put-in-None-2.ensures.capacity c.in_err-put-in-None-2.ensures.wanting))) in
    record { ok = all.ok; err = all.err; capacity = all.capacity; wanting = all.wanting }

pub returns-in_ok-put-in-None-2 : goal.returns-in_ok-put-in-None-2
unfolding awaited
returns-in_ok-put-in-None-2 c =
    let all : IsPut c.args.into.now.items (vec_capacity c.args.into.now) c.put_offer_or_null.new.into.items (vec_capacity c.put_offer_or_null.new.into) (awaited (shown_connect c.args.bytes.now (option_map (shown_offer (birth_of c.args.world.now.births)) c.args.offer.now) c.args.accepted.now)) c.put_offer_or_null.result =
    put_same _ _ (sym (ap (λ (a : Option Accepted). awaited (shown_connect c.args.bytes.now (option_map (shown_offer (birth_of c.args.world.now.births)) c.args.offer.now) a)) c.in-None.is)) (put_more _ _ c.in_ok-put-in-None.ensures.ok c.in_ok-put-in-None.ensures.capacity
    (put_more _ _ c.in_ok-put_message-in-None.ensures.ok c.in_ok-put_message-in-None.ensures.capacity
    (put_more _ _ c.in_ok-put-in-None-2.ensures.ok c.in_ok-put-in-None-2.ensures.capacity
    (put_last _ c.put_offer_or_null.ensures.ok c.put_offer_or_null.ensures.err c.put_offer_or_null.ensures.capacity c.put_offer_or_null.ensures.wanting)))) in
    record { ok = all.ok; err = all.err; capacity = all.capacity; wanting = all.wanting }

pub returns-in_err-put-in-Some : goal.returns-in_err-put-in-Some
unfolding awaited
returns-in_err-put-in-Some c =
    let all : IsPut c.args.into.now.items (vec_capacity c.args.into.now) c.put-in-Some.new.into.items (vec_capacity c.put-in-Some.new.into) (awaited (shown_connect c.args.bytes.now (option_map (shown_offer (birth_of c.args.world.now.births)) c.args.offer.now) c.args.accepted.now)) c.from_residual-in_err-put-in-Some.result =
    put_same _ _ (sym (ap (λ (a : Option Accepted). awaited (shown_connect c.args.bytes.now (option_map (shown_offer (birth_of c.args.world.now.births)) c.args.offer.now) a)) c.in-Some.is)) (put_stops _ _ _ c.from_residual-in_err-put-in-Some.ensures.0 c.in_err-put-in-Some.ensures.err c.in_err-put-in-Some.ensures.capacity c.in_err-put-in-Some.ensures.wanting) in
    record { ok = all.ok; err = all.err; capacity = all.capacity; wanting = all.wanting }

pub returns-in_err-put_message-in-Some : goal.returns-in_err-put_message-in-Some
unfolding awaited
returns-in_err-put_message-in-Some c =
    let all : IsPut c.args.into.now.items (vec_capacity c.args.into.now) c.put_message-in-Some.new.into.items (vec_capacity c.put_message-in-Some.new.into) (awaited (shown_connect c.args.bytes.now (option_map (shown_offer (birth_of c.args.world.now.births)) c.args.offer.now) c.args.accepted.now)) c.from_residual-in_err-put_message-in-Some.result =
    put_same _ _ (sym (ap (λ (a : Option Accepted). awaited (shown_connect c.args.bytes.now (option_map (shown_offer (birth_of c.args.world.now.births)) c.args.offer.now) a)) c.in-Some.is)) (put_more _ _ c.in_ok-put-in-Some.ensures.ok c.in_ok-put-in-Some.ensures.capacity
    (put_stops _ _ _ c.from_residual-in_err-put_message-in-Some.ensures.0 c.in_err-put_message-in-Some.ensures.err c.in_err-put_message-in-Some.ensures.capacity c.in_err-put_message-in-Some.ensures.wanting)) in
    record { ok = all.ok; err = all.err; capacity = all.capacity; wanting = all.wanting }

pub returns-in_err-put-in-Some-2 : goal.returns-in_err-put-in-Some-2
unfolding awaited
returns-in_err-put-in-Some-2 c =
    let all : IsPut c.args.into.now.items (vec_capacity c.args.into.now) c.put-in-Some-2.new.into.items (vec_capacity c.put-in-Some-2.new.into) (awaited (shown_connect c.args.bytes.now (option_map (shown_offer (birth_of c.args.world.now.births)) c.args.offer.now) c.args.accepted.now)) c.from_residual-in_err-put-in-Some-2.result =
    put_same _ _ (sym (ap (λ (a : Option Accepted). awaited (shown_connect c.args.bytes.now (option_map (shown_offer (birth_of c.args.world.now.births)) c.args.offer.now) a)) c.in-Some.is)) (put_more _ _ c.in_ok-put-in-Some.ensures.ok c.in_ok-put-in-Some.ensures.capacity
    (put_more _ _ c.in_ok-put_message-in-Some.ensures.ok c.in_ok-put_message-in-Some.ensures.capacity
    (put_stops _ _ _ c.from_residual-in_err-put-in-Some-2.ensures.0 c.in_err-put-in-Some-2.ensures.err c.in_err-put-in-Some-2.ensures.capacity c.in_err-put-in-Some-2.ensures.wanting))) in
    record { ok = all.ok; err = all.err; capacity = all.capacity; wanting = all.wanting }

pub returns-in_ok-put-in-Some-2 : goal.returns-in_ok-put-in-Some-2
unfolding awaited
returns-in_ok-put-in-Some-2 c =
    let all : IsPut c.args.into.now.items (vec_capacity c.args.into.now) c.put_acceptance.new.into.items (vec_capacity c.put_acceptance.new.into) (awaited (shown_connect c.args.bytes.now (option_map (shown_offer (birth_of c.args.world.now.births)) c.args.offer.now) c.args.accepted.now)) c.put_acceptance.result =
    put_same _ _ (sym (ap (λ (a : Option Accepted). awaited (shown_connect c.args.bytes.now (option_map (shown_offer (birth_of c.args.world.now.births)) c.args.offer.now) a)) c.in-Some.is)) (put_more _ _ c.in_ok-put-in-Some.ensures.ok c.in_ok-put-in-Some.ensures.capacity
    (put_more _ _ c.in_ok-put_message-in-Some.ensures.ok c.in_ok-put_message-in-Some.ensures.capacity
    (put_more _ _ c.in_ok-put-in-Some-2.ensures.ok c.in_ok-put-in-Some-2.ensures.capacity
    (put_last _ c.put_acceptance.ensures.ok c.put_acceptance.ensures.err c.put_acceptance.ensures.capacity c.put_acceptance.ensures.wanting)))) in
    record { ok = all.ok; err = all.err; capacity = all.capacity; wanting = all.wanting }
