use Rattle.lpc_names.proofs.Bound.{binding-changes-one-path}
use Rattle.lpc_names.proofs.laws.law_binding_changes_one_path.Goals as goal

pub returns : goal.returns
returns g c = binding-changes-one-path
