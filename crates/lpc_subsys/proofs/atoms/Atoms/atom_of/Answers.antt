use Rattle.std.proofs.Common.{◌≡◌, Some, None}
use Rattle.std.specs.List.{position}
use Rattle.std.specs.Str.{bytes_eq}
use Rattle.lpc_subsys.proofs.Texts.{known-atom, known-texts, none-has, shown-at}
use Rattle.lpc_subsys.proofs.atoms.Atoms.atom_of.Goals as goal

pub returns-in-Some-clause-atom : goal.returns-in-Some-clause-atom
returns-in-Some-clause-atom c =
    let at : position (bytes_eq c.args.text.now) c.args.self.now ≡ Some c.in-Some.place = shown-at _ _ _ _ _ c.self.view_is (rw c.deref.ensures.value at c.in-Some.ensures) in
    known-atom c.args.self.now c.args.text.now c.in-Some.place at

pub returns-in-Some-clause-texts : goal.returns-in-Some-clause-texts
returns-in-Some-clause-texts c =
    let at : position (bytes_eq c.args.text.now) c.args.self.now ≡ Some c.in-Some.place = shown-at _ _ _ _ _ c.self.view_is (rw c.deref.ensures.value at c.in-Some.ensures) in
    known-texts c.args.self.now c.args.text.now c.in-Some.place at

pub add-requires-clause-new : goal.add-requires-clause-new
add-requires-clause-new c =
    let at : position (bytes_eq c.args.text.now) c.args.self.now ≡ None = shown-at _ _ _ _ _ c.self.view_is (rw c.deref.ensures.value at c.in-None.ensures) in
    none-has c.args.self.now c.args.text.now at
