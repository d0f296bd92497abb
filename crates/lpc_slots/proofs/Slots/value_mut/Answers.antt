use Rattle.std.proofs.Common.{◌≡◌, refl, sym, ap, ◌∙◌, Some, is_some, set}
use Rattle.std.specs.FinMap as map
use Rattle.lpc_slots.specs.declared.places.Place.{Place}
use Rattle.lpc_slots.specs.Layout.{rows_of}
use Rattle.lpc_slots.proofs.Sound.{full_of, place_of, room-write, rows-write, young-write}
use Rattle.lpc_slots.specs.Table.{keys_of}
use Rattle.lpc_slots.proofs.Ordered.{keys_written}
use Rattle.lpc_slots.proofs.Slots.value_mut.Goals as goal

pub index_mut-requires : goal.index_mut-requires
index_mut-requires g c =
    let full = full_of c.self.inside.places.slots c.args.key (rw (← c.self.view_is) at c.requires) in
    ap is_some full.2

pub invariant_of-self-lent : goal.invariant_of-self-lent
invariant_of-self-lent g c w =
    let full = full_of c.self.inside.places.slots c.args.key (rw (← c.self.view_is) at c.requires) in
    let place : c.index_mut.result.now ≡ place_of c.args.key.generation full.0 = let e = c.index_mut.ensures.value in let f = full.2 in cc in
    let slots = c.self.inside.places.slots in
    let rows = rows-write slots c.args.key full.0 w full.1 in
    rw place
    (record {
      young = young-write c.self.inside.places _ c.args.key full.0 w full.1 c.self.invariant.young;
      keys = c.self.invariant.keys ∙ sym (ap (λ m. keys_of (map.entries m)) rows ∙ keys_written (rows_of slots) c.args.key full.0 w full.1);
      few = c.self.invariant.few;
      places_room = room-write c.self.inside.places c.args.key.index _ (place_of c.args.key.generation full.0) (place_of c.args.key.generation w) full.2 c.self.invariant.places_room;
      keys_room = c.self.invariant.keys_room;
    })

pub returns : goal.returns
returns g c =
    let full = full_of c.self.inside.places.slots c.args.key (rw (← c.self.view_is) at c.requires) in
    let place : c.index_mut.result.now ≡ place_of c.args.key.generation full.0 = let e = c.index_mut.ensures.value in let f = full.2 in cc in
    let slots = c.self.inside.places.slots in
    let rows : (w : g.row.T.Denot) → rows_of (set slots c.args.key.index (Some (place_of c.index_mut.result.now.generation w))) ≡ map.insert (rows_of slots) c.args.key w =
    λ w. ap (λ (p : Place g.row.T.Denot). rows_of (set slots c.args.key.index (Some (place_of p.generation w)))) place ∙ rows-write slots c.args.key full.0 w full.1 in (
      (refl, λ w. rw (← c.self.view_is) (λ i. record { rows = rows w i; spare = c.self.inside.spare; made = c.self.inside.made })),
      record { writes_back = tt; value = rw (← c.self.view_is) (full.1 ∙ ap Some (sym (ap (λ (p : Place g.row.T.Denot). p.value) place))) },
    )
