use Rattle.std.proofs.Common.{codes, sym, vec_capacity}
use Rattle.lpc_names.specs.Path.{parts_of}
use Rattle.lpc_states.specs.Values.{path_text, spelled}
use Rattle.lpc_states.proofs.Puts.{IsPut, put_same, then_more}
use Rattle.lpc_snapshot.proofs.Paths.{parts_text}
use Rattle.lpc_snapshot.proofs.names.put_path.Goals as goal

pub returns-clause-wanting : goal.returns-clause-wanting
returns-clause-wanting c =
    let all : IsPut c.args.into.now.items (vec_capacity c.args.into.now) c.put_name.new.into.items (vec_capacity c.put_name.new.into) (path_text (parts_of c.args.text.now)) c.put_name.result =
    put_same _ _ (sym (parts_text c.args.text.now))
    (then_more (codes "\\\\") (spelled c.args.text.now) _ c.in_ok-put.ensures.ok c.in_ok-put.ensures.capacity
    (record { ok = c.put_name.ensures.ok; err = c.put_name.ensures.err; capacity = c.put_name.ensures.capacity; wanting = c.put_name.ensures.wanting })) in
    all.wanting
