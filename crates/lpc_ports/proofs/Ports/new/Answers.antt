use Rattle.std.proofs.Common.{◌≡◌, refl, sym, ap, ◌∙◌, true, List, [], Option, Some, None, option_map}
use Rattle.lpc_base.specs.Rows.{count, first}
use Rattle.std.specs.Option.{option_map_or}
use Rattle.lpc_slots.specs.declared.Key.{Key}
use Rattle.lpc_slots.specs.Table.{at, at_key, parts}
use Rattle.lpc_slots.proofs.Same.{at_first}
use Rattle.lpc_ports.specs.declared.rows.PortRow.{PortRow}
use Rattle.lpc_ports.specs.Layout.{port_of}
use Rattle.lpc_ports.specs.Lent.{queued_of}
use Rattle.lpc_ports.specs.Names.{AreNames}
use Rattle.lpc_ports.specs.Table.{is_connected_to, is_paired_to}
use Rattle.lpc_ports.proofs.Ordered.{in_order}
use Rattle.lpc_ports.proofs.Ports.new.Goals as goal

pub invariant_of-result : goal.invariant_of-result
invariant_of-result c =
    let none : (q : Key) → at c.new.result q ≡ None = λ q. at_first c.new.result q ∙ ap (λ (rows : List (Key × PortRow)). option_map (λ (row : Key × PortRow). row.1) (first (at_key q) rows)) c.new.ensures.listed in
    let order = in_order c.new.result c.new-2.result [] (ap (parts queued_of) c.new-2.ensures.listed)
    (λ q row found. absurd (let clash : Some row ≡ None = sym found ∙ none q in cc))
    (λ q row found. absurd (let clash : Some row ≡ None = sym found ∙ none q in cc))
    refl tt (λ q row found. absurd (let clash : Some row ≡ None = sym found ∙ none q in cc)) (λ q row found. absurd (let clash : Some row ≡ None = sym found ∙ none q in cc)) in
    let names : AreNames c.new.result true = record {
      paired = λ holds q. ap (λ (o : Option PortRow). option_map_or (λ (r : PortRow). r.paired) o 0) (none q) ∙ sym (ap (λ (rows : List (Key × PortRow)). count (is_paired_to q) (parts port_of rows)) c.new.ensures.listed);
      connected = λ holds q. ap (λ (o : Option PortRow). option_map_or (λ (r : PortRow). r.connected) o 0) (none q) ∙ sym (ap (λ (rows : List (Key × PortRow)). count (is_connected_to q) (parts port_of rows)) c.new.ensures.listed);
    } in
    record { order = order; totals = rw (c.new.ensures.listed, c.new-2.ensures.listed) (record { asking = refl; closings = refl; clients = refl }); names = names }
