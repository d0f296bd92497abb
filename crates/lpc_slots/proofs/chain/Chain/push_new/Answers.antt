use Rattle.std.proofs.Common.{◌≡◌, false, not, refl, ap, ◌∙◌, Option, None, Some, is_some, lit<}
use Rattle.lpc_slots.specs.declared.Key.{Key}
use Rattle.lpc_slots.proofs.Chains.{alone_stands, alone_there, relinks_none}
use Rattle.lpc_slots.proofs.chain.Chain.push_new.Goals as goal

none_of : (key : Option Key) → is_some key ≡ false → key ≡ None
none_of None off = refl
none_of (Some key) off = absurd (cc)

pub push_back-requires : goal.push_back-requires
push_back-requires g c =
    (lit< tt, alone_there g.T.Linked.links_of g.T.Linked.with_links g.met.T.Linked.gives_back g.met.T.Linked.overwrites c.args.slots.now c.args.key c.requires.alone)

pub returns-then-is_none-clause-chain : goal.returns-then-is_none-clause-chain
returns-then-is_none-clause-chain g c keys stands away =
    let none = none_of c.args.self.now.last (c.is_none.ensures ∙ ap not c.if-is_none.true) in
    alone_stands g.T.Linked.links_of g.T.Linked.with_links g.met.T.Linked.gives_back g.met.T.Linked.overwrites c.args.slots.now c.args.self.now _ c.args.key keys c.requires.alone stands none refl refl

pub returns-then-is_none-clause-links : goal.returns-then-is_none-clause-links
returns-then-is_none-clause-links g c =
    relinks_none g.T.Linked.links_of g.T.Linked.with_links g.met.T.Linked.gives_back g.met.T.Linked.overwrites c.args.slots.now _
