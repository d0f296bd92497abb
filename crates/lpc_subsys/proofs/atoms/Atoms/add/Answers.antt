use Rattle.std.proofs.Common.{ap, ◌∙◌, ◌≡◌, ◌++◌, ◌∷◌, ◌+◌, [], sym, ℕ, Some, List, length, rules}
use Rattle.lpc_subsys.specs.Replies.{atom_in}
use Rattle.lpc_subsys.specs.declared.profile.TheConstants.{FIRST_ATOM}
use Rattle.lpc_subsys.proofs.Texts.{full-atom, full-texts, new-atom, new-texts, shown-length, shown-push}
use Rattle.lpc_subsys.proofs.atoms.Atoms.add.Goals as goal

pub returns-then-place-eq-ATOM_LIMIT-clause-atom : goal.returns-then-place-eq-ATOM_LIMIT-clause-atom
returns-then-place-eq-ATOM_LIMIT-clause-atom c = full-atom c.args.self.now c.args.text.now c.requires.new

pub returns-then-place-eq-ATOM_LIMIT-clause-texts : goal.returns-then-place-eq-ATOM_LIMIT-clause-texts
returns-then-place-eq-ATOM_LIMIT-clause-texts c =
    full-texts c.args.self.now c.args.text.now (shown-length _ _ _ c.self.view_is ∙ sym c.self.inside.texts.ok.0 ∙ sym c.len-place.ensures ∙ c.if-place-eq-ATOM_LIMIT.true)

pub returns-clause-atom : goal.returns-clause-atom
returns-clause-atom c =
    let pushed : c.push.new.self.items ≡ c.self.inside.texts.items ++ c.held.result ∷ [] = search rules in
    let place : c.len-place.result ≡ length c.args.self.now = c.len-place.ensures ∙ c.self.inside.texts.ok.0 ∙ sym (shown-length _ _ _ c.self.view_is) in
    ap (λ (n : ℕ). Some (FIRST_ATOM + n)) place
    ∙ new-atom c.args.self.now c.args.text.now c.requires.new
    ∙ ap (λ (known : List (List ℕ)). atom_in known c.args.text.now) (sym (shown-push _ _ _ _ _ _ c.self.view_is c.held.ensures pushed))

pub returns-clause-texts : goal.returns-clause-texts
returns-clause-texts c =
    let pushed : c.push.new.self.items ≡ c.self.inside.texts.items ++ c.held.result ∷ [] = search rules in
    let place : c.len-place.result ≡ length c.args.self.now = c.len-place.ensures ∙ c.self.inside.texts.ok.0 ∙ sym (shown-length _ _ _ c.self.view_is) in
    shown-push _ _ _ _ _ _ c.self.view_is c.held.ensures pushed
    ∙ new-texts c.args.self.now c.args.text.now c.requires.new (λ full. c.if-place-eq-ATOM_LIMIT.false (place ∙ full))
