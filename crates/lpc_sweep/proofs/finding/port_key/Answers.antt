use Rattle.std.proofs.Common.{List, Some, ap, arith, length, option_map, slice_get, subst, sym, true, ◌≡◌, ◌∙◌}
use Rattle.std.proofs.lemmas.List.{length-map}
use Rattle.lpc_model.specs.World.{PortRow}
use Rattle.lpc_rows.specs.Names.{Names, are_apart, name_of}
use Rattle.lpc_rows.specs.Shown.{birth_of, shown_port}
use Rattle.lpc_sweep.proofs.Places as places
use Rattle.lpc_sweep.proofs.finding.port_key.Goals as goal

pub key_at-requires : goal.key_at-requires
key_at-requires c = omega (arith, c.requires, ap length c.ports.ensures.ports, length-map c.ports.result.now.ports (shown_port (birth_of c.args.world.now.births)))

pub returns-clause-stands : goal.returns-clause-stands
returns-clause-stands c =
    let apart = subst (λ (names : Names). are_apart names ≡ true) c.ports.ensures.births c.ports.ensures.apart in
    rw c.ports.ensures.births (places.at_place c.ports.result.now apart (birth_of c.args.world.now.births) c.args.place c.key_at.result c.key_at.ensures).there

pub returns-clause-port : goal.returns-clause-port
returns-clause-port c =
    let apart = subst (λ (names : Names). are_apart names ≡ true) c.ports.ensures.births c.ports.ensures.apart in
    let at = places.at_place c.ports.result.now apart (birth_of c.args.world.now.births) c.args.place c.key_at.result c.key_at.ensures in
    ap (λ (ps : List PortRow). option_map (λ (p : PortRow). p.birth) (slice_get ps c.args.place)) c.ports.ensures.ports
    ∙ at.birth
    ∙ ap (λ (names : Names). Some (name_of names c.key_at.result)) (sym c.ports.ensures.births)
