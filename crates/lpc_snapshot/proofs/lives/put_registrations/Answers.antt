use Rattle.std.proofs.Common.{ap, map, vec_capacity}
use Rattle.lpc_procs.specs.declared.rows.Registration.{Registration}
use Rattle.lpc_states.specs.Values.{listed, port_text}
use Rattle.lpc_snapshot.proofs.Pieces.{listed_map}
use Rattle.lpc_states.proofs.Puts.{IsPut, first_same, put_last, put_more, put_same, put_stops}
use Rattle.lpc_snapshot.proofs.lives.put_registrations.Goals as goal

pub returns-in_err-put-in-len1-up : goal.returns-in_err-put-in-len1-up
returns-in_err-put-in-len1-up c =
    let all : IsPut c.args.into.now.items (vec_capacity c.args.into.now) c.put-in-len1-up.new.into.items (vec_capacity c.put-in-len1-up.new.into) (listed port_text (map (λ (r : Registration). r.birth) c.args.ports.now)) c.from_residual.result =
    put_same _ _ (listed_map port_text (λ (r : Registration). r.birth) c.args.ports.now c.in-len1-up.len_at_least).text (put_stops _ _ _ c.from_residual.ensures.0 c.in_err-put-in-len1-up.ensures.err c.in_err-put-in-len1-up.ensures.capacity c.in_err-put-in-len1-up.ensures.wanting) in
    record { ok = all.ok; err = all.err; capacity = all.capacity; wanting = all.wanting }

pub returns-in_err-put_object-in-len1-up : goal.returns-in_err-put_object-in-len1-up
returns-in_err-put_object-in-len1-up c =
    let all : IsPut c.args.into.now.items (vec_capacity c.args.into.now) c.put_object.new.into.items (vec_capacity c.put_object.new.into) (listed port_text (map (λ (r : Registration). r.birth) c.args.ports.now)) c.from_residual-in_err-put_object-in-len1-up.result =
    put_same _ _ (listed_map port_text (λ (r : Registration). r.birth) c.args.ports.now c.in-len1-up.len_at_least).text (put_more _ _ c.in_ok-put-in-len1-up.ensures.ok c.in_ok-put-in-len1-up.ensures.capacity
    (first_same _ _ _ (ap (λ (r : Registration). port_text r.birth) ((listed_map port_text (λ (r : Registration). r.birth) c.args.ports.now c.in-len1-up.len_at_least).at _)) (put_stops _ _ _ c.from_residual-in_err-put_object-in-len1-up.ensures.0 c.in_err-put_object-in-len1-up.ensures.err c.in_err-put_object-in-len1-up.ensures.capacity c.in_err-put_object-in-len1-up.ensures.wanting))) in
    record { ok = all.ok; err = all.err; capacity = all.capacity; wanting = all.wanting }

pub returns-in_err-put_further_ports-in-len1-up : goal.returns-in_err-put_further_ports-in-len1-up
returns-in_err-put_further_ports-in-len1-up c =
    let all : IsPut c.args.into.now.items (vec_capacity c.args.into.now) c.put_further_ports.new.into.items (vec_capacity c.put_further_ports.new.into) (listed port_text (map (λ (r : Registration). r.birth) c.args.ports.now)) c.from_residual-in_err-put_further_ports-in-len1-up.result =
    put_same _ _ (listed_map port_text (λ (r : Registration). r.birth) c.args.ports.now c.in-len1-up.len_at_least).text (put_more _ _ c.in_ok-put-in-len1-up.ensures.ok c.in_ok-put-in-len1-up.ensures.capacity
    (first_same _ _ _ (ap (λ (r : Registration). port_text r.birth) ((listed_map port_text (λ (r : Registration). r.birth) c.args.ports.now c.in-len1-up.len_at_least).at _)) (put_more _ _ c.in_ok-put_object-in-len1-up.ensures.ok c.in_ok-put_object-in-len1-up.ensures.capacity
    (put_stops _ _ _ c.from_residual-in_err-put_further_ports-in-len1-up.ensures.0 c.in_err-put_further_ports-in-len1-up.ensures.err c.in_err-put_further_ports-in-len1-up.ensures.capacity c.in_err-put_further_ports-in-len1-up.ensures.wanting)))) in
    record { ok = all.ok; err = all.err; capacity = all.capacity; wanting = all.wanting }

pub returns-in_ok-put_further_ports-in-len1-up : goal.returns-in_ok-put_further_ports-in-len1-up
returns-in_ok-put_further_ports-in-len1-up c =
    let all : IsPut c.args.into.now.items (vec_capacity c.args.into.now) c.put-in-len1-up-2.new.into.items (vec_capacity c.put-in-len1-up-2.new.into) (listed port_text (map (λ (r : Registration). r.birth) c.args.ports.now)) c.put-in-len1-up-2.result =
    put_same _ _ (listed_map port_text (λ (r : Registration). r.birth) c.args.ports.now c.in-len1-up.len_at_least).text (put_more _ _ c.in_ok-put-in-len1-up.ensures.ok c.in_ok-put-in-len1-up.ensures.capacity
    (first_same _ _ _ (ap (λ (r : Registration). port_text r.birth) ((listed_map port_text (λ (r : Registration). r.birth) c.args.ports.now c.in-len1-up.len_at_least).at _)) (put_more _ _ c.in_ok-put_object-in-len1-up.ensures.ok c.in_ok-put_object-in-len1-up.ensures.capacity
    (put_more _ _ c.in_ok-put_further_ports-in-len1-up.ensures.ok c.in_ok-put_further_ports-in-len1-up.ensures.capacity
    (put_last _ c.put-in-len1-up-2.ensures.ok c.put-in-len1-up-2.ensures.err c.put-in-len1-up-2.ensures.capacity c.put-in-len1-up-2.ensures.wanting))))) in
    record { ok = all.ok; err = all.err; capacity = all.capacity; wanting = all.wanting }
