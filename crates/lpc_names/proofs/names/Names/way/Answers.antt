use Rattle.std.proofs.Common.{◌∙◌, ◌+◌, Some, sym, ap, take, drop, length, ◌-◌, option_map, option_copied}
use Rattle.std.proofs.lemmas.List.{take_rest}
use Rattle.std.proofs.lemmas.Result.{err_from_is_err_and}
use Rattle.lpc_names.specs.declared.names.Node.TheVariants as kept_as
use Rattle.lpc_names.specs.Kept.{shown_node, path_of}
use Rattle.lpc_names.proofs.Paths.{steps}
use Rattle.lpc_names.proofs.Walks.{past-is, turned-fits, turned-long}
use Rattle.lpc_names.proofs.names.Names.way.Goals as goal

pub loop-rest-preserved : goal.loop-rest-preserved
loop-rest-preserved g c =
    let tail = take_rest c.loop-rest.rest.now 1 in
    let s = steps c.as_slice-bytes.result.now c.loop-rest.walked c.length_of_name.result c.loop-rest.rest.now (take (length c.loop-rest.rest.now - 1) (drop 1 c.loop-rest.rest.now)) c.split_at.result.0.now c.split_at.result.1.now c.loop-rest.invariant.whole c.loop-rest.invariant.within c.loop-rest.invariant.begins c.in-len1-up.len_at_least tail c.length_of_name.ensures.length c.split_at.ensures.front c.split_at.ensures.back in
    let bound = sym c.node.ensures ∙ ap (λ r. option_map (shown_node {T = g.row.T.Denot}) (option_copied r)) c.in-Some-Stands-Directory.is ∙ ap (λ n. Some (shown_node {T = g.row.T.Denot} n)) (c.in-Some-Stands-Directory.field-0-is ∙ ap kept_as.Stands c.in-Some-Stands-Directory.field-0-0-is) in
    let past = past-is c.args.self.now.bindings (path_of (take c.loop-rest.walked c.as_slice-bytes.result.now)) (path_of (take (c.loop-rest.walked + (1 + length c.split_at.result.0.now)) c.as_slice-bytes.result.now)) (path_of c.loop-rest.rest.now) (path_of c.split_at.result.1.now) c.split_at.result.0.now _ _ s.path s.parts c.loop-rest.invariant.same bound in
    record { whole = s.whole; within = s.within; begins = s.either; same = past }

pub returns-in-Some-Stands-Item : goal.returns-in-Some-Stands-Item
returns-in-Some-Stands-Item g c =
    let tail = take_rest c.loop-rest.rest.now 1 in
    let s = steps c.as_slice-bytes.result.now c.loop-rest.walked c.length_of_name.result c.loop-rest.rest.now (take (length c.loop-rest.rest.now - 1) (drop 1 c.loop-rest.rest.now)) c.split_at.result.0.now c.split_at.result.1.now c.loop-rest.invariant.whole c.loop-rest.invariant.within c.loop-rest.invariant.begins c.in-len1-up.len_at_least tail c.length_of_name.ensures.length c.split_at.ensures.front c.split_at.ensures.back in
    let bound = sym c.node.ensures ∙ ap (λ r. option_map (shown_node {T = g.row.T.Denot}) (option_copied r)) c.in-Some-Stands-Item.is ∙ ap (λ n. Some (shown_node {T = g.row.T.Denot} n)) (c.in-Some-Stands-Item.field-0-is ∙ ap kept_as.Stands c.in-Some-Stands-Item.field-0-0-is) in
    let past = past-is c.args.self.now.bindings (path_of (take c.loop-rest.walked c.as_slice-bytes.result.now)) (path_of (take (c.loop-rest.walked + (1 + length c.split_at.result.0.now)) c.as_slice-bytes.result.now)) (path_of c.loop-rest.rest.now) (path_of c.split_at.result.1.now) c.split_at.result.0.now _ _ s.path s.parts c.loop-rest.invariant.same bound in
    rw (← c.as_slice-bytes.ensures.value) (c.at_end.ensures ∙ past)

pub join-requires : goal.join-requires
join-requires g c =
    let tail = take_rest c.loop-rest.rest.now 1 in
    let s = steps c.as_slice-bytes.result.now c.loop-rest.walked c.length_of_name.result c.loop-rest.rest.now (take (length c.loop-rest.rest.now - 1) (drop 1 c.loop-rest.rest.now)) c.split_at.result.0.now c.split_at.result.1.now c.loop-rest.invariant.whole c.loop-rest.invariant.within c.loop-rest.invariant.begins c.in-len1-up.len_at_least tail c.length_of_name.ensures.length c.split_at.ensures.front c.split_at.ensures.back in
    s.begins

pub returns-in_err-join-in-Some-Link : goal.returns-in_err-join-in-Some-Link
returns-in_err-join-in-Some-Link g c =
    let tail = take_rest c.loop-rest.rest.now 1 in
    let s = steps c.as_slice-bytes.result.now c.loop-rest.walked c.length_of_name.result c.loop-rest.rest.now (take (length c.loop-rest.rest.now - 1) (drop 1 c.loop-rest.rest.now)) c.split_at.result.0.now c.split_at.result.1.now c.loop-rest.invariant.whole c.loop-rest.invariant.within c.loop-rest.invariant.begins c.in-len1-up.len_at_least tail c.length_of_name.ensures.length c.split_at.ensures.front c.split_at.ensures.back in
    let bound = sym c.node.ensures ∙ ap (λ r. option_map (shown_node {T = g.row.T.Denot}) (option_copied r)) c.in-Some-Link.is ∙ ap (λ n. Some (shown_node {T = g.row.T.Denot} n)) c.in-Some-Link.field-0-is in
    let past = past-is c.args.self.now.bindings (path_of (take c.loop-rest.walked c.as_slice-bytes.result.now)) (path_of (take (c.loop-rest.walked + (1 + length c.split_at.result.0.now)) c.as_slice-bytes.result.now)) (path_of c.loop-rest.rest.now) (path_of c.split_at.result.1.now) c.split_at.result.0.now _ _ s.path s.parts c.loop-rest.invariant.same bound in
    let p = err_from_is_err_and c.from_residual.result c.from_residual.ensures.1 in
    let fault = c.in_err-join-in-Some-Link.ensures in
    rw (p.1, p.2, fault.0, ← c.as_slice-bytes.ensures.value) (turned-long c.args.self.now.bindings _ fault.1 ∙ past)

pub returns-in-Some-Link : goal.returns-in-Some-Link
returns-in-Some-Link g c =
    let tail = take_rest c.loop-rest.rest.now 1 in
    let s = steps c.as_slice-bytes.result.now c.loop-rest.walked c.length_of_name.result c.loop-rest.rest.now (take (length c.loop-rest.rest.now - 1) (drop 1 c.loop-rest.rest.now)) c.split_at.result.0.now c.split_at.result.1.now c.loop-rest.invariant.whole c.loop-rest.invariant.within c.loop-rest.invariant.begins c.in-len1-up.len_at_least tail c.length_of_name.ensures.length c.split_at.ensures.front c.split_at.ensures.back in
    let bound = sym c.node.ensures ∙ ap (λ r. option_map (shown_node {T = g.row.T.Denot}) (option_copied r)) c.in-Some-Link.is ∙ ap (λ n. Some (shown_node {T = g.row.T.Denot} n)) c.in-Some-Link.field-0-is in
    let past = past-is c.args.self.now.bindings (path_of (take c.loop-rest.walked c.as_slice-bytes.result.now)) (path_of (take (c.loop-rest.walked + (1 + length c.split_at.result.0.now)) c.as_slice-bytes.result.now)) (path_of c.loop-rest.rest.now) (path_of c.split_at.result.1.now) c.split_at.result.0.now _ _ s.path s.parts c.loop-rest.invariant.same bound in
    let joined = c.in_ok-join-in-Some-Link.ensures in
    rw (← c.as_slice-bytes.ensures.value) (turned-fits c.args.self.now.bindings _ _ joined.0 joined.1 ∙ past)

pub returns-in-None : goal.returns-in-None
returns-in-None g c =
    let tail = take_rest c.loop-rest.rest.now 1 in
    let s = steps c.as_slice-bytes.result.now c.loop-rest.walked c.length_of_name.result c.loop-rest.rest.now (take (length c.loop-rest.rest.now - 1) (drop 1 c.loop-rest.rest.now)) c.split_at.result.0.now c.split_at.result.1.now c.loop-rest.invariant.whole c.loop-rest.invariant.within c.loop-rest.invariant.begins c.in-len1-up.len_at_least tail c.length_of_name.ensures.length c.split_at.ensures.front c.split_at.ensures.back in
    let bound = sym c.node.ensures ∙ ap (λ r. option_map (shown_node {T = g.row.T.Denot}) (option_copied r)) c.in-None.is in
    let past = past-is c.args.self.now.bindings (path_of (take c.loop-rest.walked c.as_slice-bytes.result.now)) (path_of (take (c.loop-rest.walked + (1 + length c.split_at.result.0.now)) c.as_slice-bytes.result.now)) (path_of c.loop-rest.rest.now) (path_of c.split_at.result.1.now) c.split_at.result.0.now _ _ s.path s.parts c.loop-rest.invariant.same bound in
    rw (← c.as_slice-bytes.ensures.value) (c.at_end-in-None.ensures ∙ past)
