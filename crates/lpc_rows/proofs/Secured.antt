-- A port gets its access list, or what it allows.
use Rattle.std.proofs.Common.{◌≡◌, ℕ, Bool, true, false, cond, refl}
use Rattle.lpc_model.specs.Basics as basics
use Rattle.lpc_model.specs.Basics.{Secures, basic}
use Rattle.lpc_model.specs.Found.{is_port}
use Rattle.lpc_model.specs.World as model
use Rattle.lpc_ports.specs.Table as ports
use Rattle.lpc_ports.specs.Table.{PortTable}
use Rattle.lpc_ports.specs.declared.Port.{Port}
use Rattle.lpc_slots.specs.Table.{at_key}
use Rattle.lpc_slots.specs.declared.Key.{Key}
use Rattle.lpc_rows.specs.Kept.{Roomy, owed_rows, room_by, rows_by}
use Rattle.lpc_rows.specs.Lawful.{AreLawful}
use Rattle.lpc_rows.specs.Names.{name_of, stands}
use Rattle.lpc_rows.specs.Shown.{AreNamed, Births, Tables, all_pass, birth_of, births_of, object_stands, port_refs, shown_by, shown_port}
use Rattle.lpc_rows.proofs.Follows as follows
use Rattle.lpc_rows.proofs.Joins.{at_row, births_same, changes, key_at, lawful, own_at, owes, roomy}

module _ (it : Tables) (is : AreNamed (births_of it) it) (key : Key) (security : model.Security) (key_stands : stands (births_of it).ports key ≡ true) where
  abbrev named_by : Births
  named_by = births_of it

  abbrev secure_row : Key × Port → Key × Port
  secure_row = at_row key (ports.with_security security)

  abbrev shown_secured : model.PortRow → model.PortRow
  shown_secured p = cond (is_port (name_of named_by.ports key) p) (basics.secured security p) p

  abbrev pub secured_table : PortTable
  secured_table = record it.ports { ports = ports.with_row it.ports.ports key (ports.with_security security) }

  secure_shows : (row : Key × Port) → follows.is_own (λ (r : Port). r.birth) it.ports.ports row ≡ true → shown_port (birth_of named_by) (secure_row row) ≡ shown_secured (shown_port (birth_of named_by) row)
  secure_shows row own = rw (follows.port_same it is key key_stands row own) (by (at_key key row))
    where
      by : (a : Bool) → shown_port (birth_of named_by) (cond a (row.0, ports.with_security security row.1) row) ≡ cond a (basics.secured security (shown_port (birth_of named_by) row)) (shown_port (birth_of named_by) row)
      by true = refl
      by false = refl

  secure_kept : (row : Key × Port) → all_pass port_refs (object_stands named_by) row ≡ true → all_pass port_refs (object_stands named_by) (secure_row row) ≡ true
  secure_kept row all = elim (at_key key row) as (λ b. all_pass port_refs (object_stands named_by) (cond b (row.0, ports.with_security security row.1) row) ≡ true) [ true ↦ all | false ↦ all ]

  secured_birth : (p : model.PortRow) → (shown_secured p).birth ≡ p.birth
  secured_birth p = elim (is_port (name_of named_by.ports key) p) as (λ b. (cond b (basics.secured security p) p).birth ≡ p.birth) [ true ↦ refl | false ↦ refl ]

  secured_kind : (p : model.PortRow) → (shown_secured p).kind ≡ p.kind
  secured_kind p = elim (is_port (name_of named_by.ports key) p) as (λ b. (cond b (basics.secured security p) p).kind ≡ p.kind) [ true ↦ refl | false ↦ refl ]

  pub secured_names : births_of (record it { ports = secured_table }) ≡ named_by
  secured_names = births_same secure_row (key_at key (ports.with_security security)) (own_at key (ports.with_security security) (λ p. refl)) it is

  pub secures : shown_by (births_of (record it { ports = secured_table })) (record it { ports = secured_table }) ≡ basic (rows_by it) (Secures (name_of named_by.ports key) security)
  secures = changes secure_row (key_at key (ports.with_security security)) (own_at key (ports.with_security security) (λ p. refl)) it is shown_secured secure_kept (follows.is_own (λ (r : Port). r.birth) it.ports.ports) (follows.own_ports it is) secure_shows

  pub secured_lawful : (calls made : ℕ) → AreLawful it calls made → AreLawful (record it { ports = secured_table }) calls made
  secured_lawful calls made all = lawful secure_row (key_at key (ports.with_security security)) (own_at key (ports.with_security security) (λ p. refl)) it is shown_secured secure_kept (follows.is_own (λ (r : Port). r.birth) it.ports.ports) (follows.own_ports it is) secure_shows calls made all secured_birth secured_kind

  pub secured_owed : owed_rows (rows_by (record it { ports = secured_table })) ≡ owed_rows (rows_by it)
  secured_owed = owes secure_row (key_at key (ports.with_security security)) (own_at key (ports.with_security security) (λ p. refl)) it is shown_secured secure_kept (follows.is_own (λ (r : Port). r.birth) it.ports.ports) (follows.own_ports it is) secure_shows secured_birth secured_kind

  abbrev secured_all : Tables
  secured_all = record it { ports = secured_table }

  pub secured_room : (places : ℕ) → Roomy (room_by (rows_by it) it places) (room_by (rows_by secured_all) secured_all places)
  secured_room places = roomy secure_row (key_at key (ports.with_security security)) (own_at key (ports.with_security security) (λ p. refl)) it is shown_secured secure_kept (follows.is_own (λ (r : Port). r.birth) it.ports.ports) (follows.own_ports it is) secure_shows places secured_kind
