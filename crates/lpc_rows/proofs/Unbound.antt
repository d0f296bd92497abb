-- All names of a port go: the name space's new bindings are the step of the rows that it stood for.
use Rattle.std.proofs.Common.{◌≡◌, ℕ, ◌≤◌, true, refl, arith}
use Rattle.lpc_base.specs.declared.birth.Birth.{Birth}
use Rattle.lpc_base.proofs.RowMaps.{without-map}
use Rattle.lpc_base.proofs.RowWords.{every-without}
use Rattle.lpc_model.specs.Basics.{Unbinds, basic}
use Rattle.lpc_model.specs.Found.{same_birth}
use Rattle.lpc_names.specs.Binding.{NameSpace, is_name, without_names}
use Rattle.lpc_slots.specs.Table.{is_key}
use Rattle.lpc_slots.specs.declared.Key.{Key}
use Rattle.lpc_rows.specs.Kept.{Roomy, room_by, rows_by}
use Rattle.lpc_rows.specs.Lawful.{AreLawful}
use Rattle.lpc_rows.specs.Names.{name_of, stands}
use Rattle.lpc_rows.specs.Shown.{AreNamed, Births, Tables, all_pass, binding_refs, birth_of, births_of, object_stands, shown_binding}
use Rattle.lpc_homes.specs.declared.object.Object.{Object}
use Rattle.lpc_rows.proofs.Bound as bound
use Rattle.lpc_rows.proofs.Unheld.{node_same}

module _ (it : Tables) (calls made : ℕ) (is : AreLawful it calls made) (key : Key) (there : stands (births_of it).ports key ≡ true)
    (space : NameSpace Key) (less : space.bindings ≡ without_names is_key key it.space.bindings) where
  abbrev n : Births
  n = births_of it

  abbrev f : Object → Birth
  f = birth_of n

  abbrev b : Birth
  b = name_of n.ports key

  abbrev after : Tables
  after = record it { space = space }

  pub unbinds : rows_by after ≡ basic (rows_by it) (Unbinds b)
  unbinds =
      rw (less, without-map (shown_binding f) (all_pass binding_refs (object_stands n)) (is_name is_key key) (is_name same_birth b) (λ row all. node_same it is.named key there row.0 row.1 all) it.space.bindings is.named.refs.in_names) refl

  unbound_named : AreNamed n after
  unbound_named = bound.spaced it is.named space (rw less (every-without (all_pass binding_refs (object_stands n)) (is_name is_key key) it.space.bindings is.named.refs.in_names))

  pub unbound_lawful : AreLawful after calls made
  unbound_lawful = bound.spaced_lawful it calls made space is unbound_named

  pub unbound_room : (places : ℕ) → it.space.spare ≤ space.spare → Roomy (room_by (rows_by it) it places) (room_by (rows_by after) after places)
  unbound_room places more = record {
    for_processes = omega arith;
    for_threads = omega arith;
    for_waits = omega arith;
    for_messages = omega arith;
    for_ports = omega arith;
    for_names = more;
    for_sections = omega arith;
    for_tokens = omega arith;
    for_token_names = omega arith;
    for_handles = λ pid. omega arith;
    for_views = λ pid. omega arith;
  }
