use Rattle.std.proofs.Common.{◌∙◌, nat_eq, rules}
use Rattle.indexmap.proofs.CallerLemmas.{insert_entry-new}
use Rattle.lpc_numbers.proofs.Lookups.{absent}
use Rattle.lpc_numbers.proofs.Nears.{far-kept, near-kept}
use Rattle.lpc_numbers.proofs.numbered.Numbered.add.Goals as goal

pub returns-clause-entries : goal.returns-clause-entries
returns-clause-entries g c =
    let free = rw (← c.self.view_is) at c.requires.new in
    rw (← c.self.view_is) (c.in-Ok.ensures.entries ∙ insert_entry-new nat_eq c.self.inside.map c.args.number c.args.value (absent c.args.number c.self.inside.map.entries free))

pub invariant_of-self : goal.invariant_of-self
invariant_of-self g c =
    let free = rw (← c.self.view_is) at c.requires.new in
    let entries = c.in-Ok.ensures.entries ∙ insert_entry-new nat_eq c.self.inside.map c.args.number c.args.value (absent c.args.number c.self.inside.map.entries free) in (
      search rules,
      rw (entries) (near-kept c.self.inside.map.entries c.self.inside.near c.note.new.self c.self.invariant.1 c.args.number c.args.value free (rw (c.len-place.ensures.len) at c.note.ensures)),
      rw (entries) (far-kept c.self.inside.map.entries c.self.inside.far c.note-2.new.self c.args.number c.args.value free c.self.invariant.2 (rw (c.spot.ensures, c.len-place.ensures.len) at c.note-2.ensures)),
    )
