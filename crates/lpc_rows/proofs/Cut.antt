-- A port and its other end are cut off from each other. Where pairs are mutual, the ports that lose their other end in
-- the table are those of the definition: the port, and each that has it as its other end.
use Rattle.std.proofs.Common.{◌≡◌, ℕ, List, [], ◌∷◌, Bool, true, false, cond, not, ◌||◌, ◌&&◌, map, Option, Some, None, option_map, refl, ap, sym, subst, ◌∙◌, arith}
use Rattle.std.specs.Prelude.{option_and_then}
use Rattle.std.specs.Option.{option_map_or}
use Rattle.lpc_base.specs.declared.birth.Birth.{Birth}
use Rattle.lpc_base.specs.Rows.{every, first, passes}
use Rattle.lpc_base.proofs.RowMaps.{every-both, every-first, every-map}
use Rattle.lpc_base.proofs.RowWords.{every-back, every-front, every-true}
use Rattle.lpc_base.proofs.Bools.{first-true, second-true}
use Rattle.lpc_model.specs.Basics as basics
use Rattle.lpc_model.specs.Basics.{Cuts, basic, is_end_of}
use Rattle.lpc_model.specs.Found as found
use Rattle.lpc_model.specs.Found.{same_birth}
use Rattle.lpc_model.specs.Linked.{is_mutual, passes_or_none}
use Rattle.lpc_model.specs.World as model
use Rattle.lpc_model.specs.World.{World}
use Rattle.lpc_ports.specs.Table as ports
use Rattle.lpc_ports.specs.Table.{PortTable}
use Rattle.lpc_ports.specs.declared.Port.{Port}
use Rattle.lpc_slots.specs.Table.{at_key, is_key}
use Rattle.lpc_slots.specs.declared.Key.{Key}
use Rattle.lpc_slots.proofs.Keys.{key_is, key_turned}
use Rattle.lpc_rows.specs.Kept.{Roomy, owed_rows, room_by, rows_by}
use Rattle.lpc_rows.specs.Lawful.{AreLawful}
use Rattle.lpc_rows.specs.Names.{are_apart, differs, name_of, names_of, some_stands, stands}
use Rattle.lpc_rows.specs.Shown.{Tables, AreNamed, Births, all_pass, birth_in, birth_of, births_of, object_stands, port_refs, ports_in, shown_by, shown_port}
use Rattle.lpc_homes.specs.declared.object.Object.{Object}
use Rattle.lpc_rows.proofs.Follows as follows
use Rattle.lpc_rows.proofs.Joins as joins
use Rattle.lpc_rows.proofs.Joins.{at_row, key_at, map-twice, own_at}
use Rattle.lpc_rows.proofs.Readings as readings
use Rattle.lpc_rows.proofs.Unheld.{the_same}

-- Each row of a key passes where the first does: there is one
module _ {R : Type 0} (birth : R → Birth) (key : Key) where
  others_off : (row : Key × R) (rows : List (Key × R)) → at_key key row ≡ true → every (differs (row.0, birth row.1)) (names_of birth rows) ≡ true → every (λ other. not (at_key key other)) rows ≡ true
  others_off row [] here apart = refl
  others_off row (other ∷ rows) here apart =
      let same : row.0 ≡ key = key_is row.0 key here in
      let n : Key × Birth = (row.0, birth row.1) in
      let m : Key × Birth = (other.0, birth other.1) in
      let off : is_key row.0 other.0 ≡ false = differ (is_key n.0 m.0) (same_birth n.1 m.1) (first-true (differs n m) (every (differs n) (names_of birth rows)) apart) in
      let other_off : is_key other.0 key ≡ false = key_turned other.0 key ∙ subst (λ k. is_key k other.0 ≡ false) same off in
      grind (arith, other_off, others_off row rows here (second-true (differs n m) (every (differs n) (names_of birth rows)) apart))
    where
      differ : (a c : Bool) → (not a && not c) ≡ true → a ≡ false
      differ true c h = absurd (cc)
      differ false c h = refl

  either_off : (test : Key × R → Bool) (rows : List (Key × R)) → every (λ other. not (at_key key other)) rows ≡ true → every (λ other. not (at_key key other) || test other) rows ≡ true
  either_off test [] off = refl
  either_off test (row ∷ rows) off = grind (arith, either_off test rows)

  keyed : (test : Key × R → Bool) (rows : List (Key × R)) → are_apart (names_of birth rows) ≡ true → passes (first (at_key key) rows) test ≡ true → every (λ row. not (at_key key row) || test row) rows ≡ true
  unfolding are_apart
  keyed test [] apart is = refl
  keyed test (row ∷ rows) apart is = elim (at_key key row) as (λ c. at_key key row ≡ c → every (λ r. not (at_key key r) || test r) (row ∷ rows) ≡ true) [
    | true ↦ λ here. grind (arith, here, either_off test rows, others_off row rows here)
    | false ↦ λ off. grind (arith, off, keyed test rows)
  ] refl

module _ (it : Tables) (is : AreNamed (births_of it) it) where
  abbrev n : Births
  n = births_of it

  abbrev f : Object → Birth
  f = birth_of n

  abbrev ok : Object → Bool
  ok = object_stands n

  abbrev w : World
  w = rows_by it

  -- the other end of a port that stands, in the rows and in the table
  pair_shown : (k : Key) → stands n.ports k ≡ true → found.pair_of w (name_of n.ports k) ≡ birth_in f (ports.pair_of it.ports.ports k)
  pair_shown k stand = ap (option_and_then (λ (p : model.PortRow). p.pair)) (follows.first_port it is k stand) ∙ mapped (first (at_key k) it.ports.ports)
    where
      mapped : (o : Option (Key × Port)) → option_and_then (λ (p : model.PortRow). p.pair) (option_map (shown_port f) o) ≡ birth_in f (option_and_then (λ (r : Port). r.pair) (option_map (λ (row : Key × Port). row.1) o))
      mapped None = refl
      mapped (Some row) = refl

  some_in : (o : Option Key) → some_stands n.ports o ≡ true → every ok (ports_in o) ≡ true
  some_in None all = refl
  some_in (Some k) all = grind arith

  pair_stands : (k : Key) → stands n.ports k ≡ true → some_stands n.ports (ports.pair_of it.ports.ports k) ≡ true
  pair_stands k stand = by_row (ports.row_at it.ports.ports k) refl
    where
      by_row : (o : Option Port) → ports.row_at it.ports.ports k ≡ o → some_stands n.ports (option_and_then (λ (r : Port). r.pair) o) ≡ true
      by_row None at = refl
      by_row (Some row) at = (readings.is_row it is k row stand at).pair

  module _ (key : Key) (there : stands n.ports key ≡ true) (pairs : every (is_mutual w) w.ports ≡ true) where
    abbrev b : Birth
    b = name_of n.ports key

    abbrev other : Option Key
    other = ports.pair_of it.ports.ports key

    -- the port that has this one as its other end is the other end of this one
    paired_back : (o : Option Key) (own : Birth) → passes_or_none (birth_in f o) (λ q. found.is_the own (found.pair_of w q)) ≡ true → ports.is_the key o ≡ true → found.is_the own (birth_in f other) ≡ true
    paired_back None own both here = absurd (cc)
    paired_back (Some k) own both here =
        let same : k ≡ key = key_is k key here in
        let back : found.is_the own (found.pair_of w (name_of n.ports k)) ≡ true = both in
        ap (found.is_the own) (sym (pair_shown key there)) ∙ subst (λ q. found.is_the own (found.pair_of w (name_of n.ports q)) ≡ true) same back

    -- and has this one as its own
    end_back : (k : Key) → other ≡ Some k → passes (first (at_key k) it.ports.ports) (λ row. ports.is_the key row.1.pair) ≡ true
    end_back k at = by_row (ports.row_at it.ports.ports key) refl
      where
        found_row : (o : Option (Key × Port)) → ports.is_the key (option_and_then (λ (r : Port). r.pair) (option_map (λ (row : Key × Port). row.1) o)) ≡ true → passes o (λ row. ports.is_the key row.1.pair) ≡ true
        found_row None h = absurd (cc)
        found_row (Some row) h = h

        by_row : (o : Option Port) → ports.row_at it.ports.ports key ≡ o → passes (first (at_key k) it.ports.ports) (λ row. ports.is_the key row.1.pair) ≡ true
        by_row None none = let no : other ≡ None = ap (option_and_then (λ (r : Port). r.pair)) none in absurd (cc)
        by_row (Some row) some =
            let p = readings.is_row it is key row there some in
            let pair : row.pair ≡ Some k = sym (ap (option_and_then (λ (r : Port). r.pair)) some) ∙ at in
            let stand : stands n.ports k ≡ true = subst (λ o. some_stands n.ports o ≡ true) pair p.pair in
            let found_is : found.port_row w b ≡ Some (shown_port f (key, row)) = p.found ∙ ap Some p.port_is in
            let both : is_mutual w (shown_port f (key, row)) ≡ true = every-first (is_mutual w) (found.is_port b) w.ports (shown_port f (key, row)) pairs found_is in
            let back : found.is_the b (found.pair_of w (name_of n.ports k)) ≡ true =
            subst (λ c. found.is_the c (found.pair_of w (name_of n.ports k)) ≡ true) p.own (subst (λ o. passes_or_none (birth_in f o) (λ q. found.is_the row.birth (found.pair_of w q)) ≡ true) pair both) in
            found_row (first (at_key k) it.ports.ports)
            (sym (the_same it is key there (ports.pair_of it.ports.ports k) (some_in _ (pair_stands k stand))) ∙ ap (found.is_the b) (sym (pair_shown k stand)) ∙ back)

    -- what is known of each row
    abbrev is_end : Option Key → Key × Port → Bool
    is_end o row = option_map_or (λ k. at_key k row) o false

    abbrev is_back : Option Key → Key × Port → Bool
    is_back o row = option_map_or (λ k. not (at_key k row) || ports.is_the key row.1.pair) o true

    ends_back : (o : Option Key) → other ≡ o → every (is_back o) it.ports.ports ≡ true
    ends_back None at = every-true it.ports.ports
    ends_back (Some k) at = keyed (λ (r : Port). r.birth) k (λ row. ports.is_the key row.1.pair) it.ports.ports is.ports_apart (end_back k at)

    pub record IsFit (row : Key × Port) : Type 0 where
      pub own : follows.is_own (λ (r : Port). r.birth) it.ports.ports row ≡ true
      pub refs : all_pass port_refs ok row ≡ true
      pub both : is_mutual w (shown_port f row) ≡ true
      pub back : is_back other row ≡ true

    abbrev fit : Key × Port → Bool
    fit row = (follows.is_own (λ (r : Port). r.birth) it.ports.ports row && all_pass port_refs ok row) && (is_mutual w (shown_port f row) && is_back other row)

    and : (p q : Key × Port → Bool) → every p it.ports.ports ≡ true → every q it.ports.ports ≡ true → every (λ row. p row && q row) it.ports.ports ≡ true
    and p q one two = every-both p q (λ row. p row && q row) (λ row a c. grind arith) it.ports.ports one two

    all_fit : every fit it.ports.ports ≡ true
    all_fit =
        and (λ row. follows.is_own (λ (r : Port). r.birth) it.ports.ports row && all_pass port_refs ok row) (λ row. is_mutual w (shown_port f row) && is_back other row)
        (and (follows.is_own (λ (r : Port). r.birth) it.ports.ports) (all_pass port_refs ok) (follows.own_ports it is) is.refs.in_ports)
        (and (λ row. is_mutual w (shown_port f row)) (is_back other) (sym (every-map (is_mutual w) (shown_port f) it.ports.ports) ∙ pairs) (ends_back other refl))

    fit_is : (row : Key × Port) → fit row ≡ true → IsFit row
    fit_is row h = record { own = first-true _ _ (first-true _ _ h); refs = second-true _ _ (first-true _ _ h); both = first-true _ _ (second-true _ _ h); back = second-true _ _ (second-true _ _ h) }

    -- a row has the port as its other end exactly where it is the other end's
    end_same : (row : Key × Port) → IsFit row → ports.is_the key row.1.pair ≡ is_end other row
    end_same row h = by_pair (ports.is_the key row.1.pair) refl
      where
        reached : (o : Option Key) → some_stands n.ports o ≡ true → found.is_the row.1.birth (birth_in f o) ≡ true → is_end o row ≡ true
        reached None stand at = absurd (cc)
        reached (Some k) stand at = sym (follows.port_same it is k stand row h.own) ∙ at

        unreached : (o : Option Key) → is_back o row ≡ true → ports.is_the key row.1.pair ≡ false → is_end o row ≡ false
        unreached None back off = refl
        unreached (Some k) back off = grind arith

        by_pair : (c : Bool) → ports.is_the key row.1.pair ≡ c → c ≡ is_end other row
        by_pair true is' = sym (reached other (pair_stands key there) (paired_back row.1.pair row.1.birth h.both is'))
        by_pair false is' = sym (unreached other h.back is')

    -- the table's rows, cut
    abbrev cut_by : Option Key → Key × Port → Key × Port
    cut_by o row = at_row key ports.unpaired (option_map_or (λ k. at_row k ports.unpaired row) o row)

    abbrev cut_row : Key × Port → Key × Port
    cut_row = cut_by other

    abbrev shown_cut : model.PortRow → model.PortRow
    shown_cut p = cond (is_end_of b p) (basics.cut p) p

    abbrev pub cut_table : PortTable
    cut_table = record it.ports { ports = ports.parted it.ports.ports key }

    cut_rows : ports.parted it.ports.ports key ≡ map cut_row it.ports.ports
    cut_rows = by other
      where
        by : (o : Option Key) → ports.with_row (option_map_or (λ k. ports.with_row it.ports.ports k ports.unpaired) o it.ports.ports) key ports.unpaired ≡ map (cut_by o) it.ports.ports
        by None = refl
        by (Some k) = map-twice (at_row key ports.unpaired) (at_row k ports.unpaired) it.ports.ports

    one_cut : (row : Key × Port) (a : Bool) → shown_port f (cond a (row.0, ports.unpaired row.1) row) ≡ cond (a || false) (basics.cut (shown_port f row)) (shown_port f row)
    one_cut row true = refl
    one_cut row false = refl

    two_cut : (row : Key × Port) (a c : Bool) → let one = cond c (row.0, ports.unpaired row.1) row in shown_port f (cond a (row.0, ports.unpaired one.1) one) ≡ cond (a || c) (basics.cut (shown_port f row)) (shown_port f row)
    two_cut row true true = refl
    two_cut row true false = refl
    two_cut row false true = refl
    two_cut row false false = refl

    cut_shown : (row : Key × Port) (o : Option Key) → shown_port f (cut_by o row) ≡ cond (at_key key row || is_end o row) (basics.cut (shown_port f row)) (shown_port f row)
    cut_shown row None = one_cut row (at_key key row)
    cut_shown row (Some k) = rw (key_at k ports.unpaired row) (two_cut row (at_key key row) (at_key k row))

    cut_shows : (row : Key × Port) → fit row ≡ true → shown_port f (cut_row row) ≡ shown_cut (shown_port f row)
    cut_shows row fits =
        let h = fit_is row fits in
        rw (follows.port_same it is key there row h.own, the_same it is key there row.1.pair (every-front ok (ports_in row.1.pair) (ports_in row.1.connection) h.refs), end_same row h) (cut_shown row other)

    unpaired_kept : (k : Key) (row : Key × Port) → all_pass port_refs ok row ≡ true → all_pass port_refs ok (at_row k ports.unpaired row) ≡ true
    unpaired_kept k row all = elim (at_key k row) as (λ c. all_pass port_refs ok (cond c (row.0, ports.unpaired row.1) row) ≡ true) [
      | true ↦ every-back ok (ports_in row.1.pair) (ports_in row.1.connection) all
      | false ↦ all
    ]

    cut_kept : (row : Key × Port) → all_pass port_refs ok row ≡ true → all_pass port_refs ok (cut_row row) ≡ true
    cut_kept row all = by other
      where
        by : (o : Option Key) → all_pass port_refs ok (cut_by o row) ≡ true
        by None = unpaired_kept key row all
        by (Some k) = unpaired_kept key (at_row k ports.unpaired row) (unpaired_kept k row all)

    cut_key : (row : Key × Port) → (cut_row row).0 ≡ row.0
    cut_key row = by other
      where
        by : (o : Option Key) → (cut_by o row).0 ≡ row.0
        by None = key_at key ports.unpaired row
        by (Some k) = key_at key ports.unpaired (at_row k ports.unpaired row) ∙ key_at k ports.unpaired row

    cut_own : (row : Key × Port) → (cut_row row).1.birth ≡ row.1.birth
    cut_own row = by other
      where
        by : (o : Option Key) → (cut_by o row).1.birth ≡ row.1.birth
        by None = own_at key ports.unpaired (λ p. refl) row
        by (Some k) = own_at key ports.unpaired (λ p. refl) (at_row k ports.unpaired row) ∙ own_at k ports.unpaired (λ p. refl) row

    cut_birth : (p : model.PortRow) → (shown_cut p).birth ≡ p.birth
    cut_birth p = elim (is_end_of b p) as (λ c. (cond c (basics.cut p) p).birth ≡ p.birth) [ true ↦ refl | false ↦ refl ]

    cut_kind : (p : model.PortRow) → (shown_cut p).kind ≡ p.kind
    cut_kind p = elim (is_end_of b p) as (λ c. (cond c (basics.cut p) p).kind ≡ p.kind) [ true ↦ refl | false ↦ refl ]

    pub cut_names : births_of (record it { ports = cut_table }) ≡ n
    cut_names = rw cut_rows (joins.births_same cut_row cut_key cut_own it is)

    pub cuts : shown_by (births_of (record it { ports = cut_table })) (record it { ports = cut_table }) ≡ basic w (Cuts b)
    cuts = rw cut_rows (joins.changes cut_row cut_key cut_own it is shown_cut cut_kept fit all_fit cut_shows)

    pub cut_lawful : (calls made : ℕ) → AreLawful it calls made → AreLawful (record it { ports = cut_table }) calls made
    cut_lawful calls made all = rw cut_rows (joins.lawful cut_row cut_key cut_own it is shown_cut cut_kept fit all_fit cut_shows calls made all cut_birth cut_kind)

    pub cut_owed : owed_rows (rows_by (record it { ports = cut_table })) ≡ owed_rows w
    cut_owed = rw cut_rows (joins.owes cut_row cut_key cut_own it is shown_cut cut_kept fit all_fit cut_shows cut_birth cut_kind)

    abbrev cut_all : Tables
    cut_all = record it { ports = cut_table }

    pub cut_room : (places : ℕ) → Roomy (room_by w it places) (room_by (rows_by cut_all) cut_all places)
    cut_room places = rw cut_rows (joins.roomy cut_row cut_key cut_own it is shown_cut cut_kept fit all_fit cut_shows places cut_kind)
