-- A name more: the table's binding is the definitions' over the rows that it stands for.
use Rattle.std.proofs.Common.{◌≡◌, ℕ, List, [], ◌∷◌, ◌++◌, true, map, Result, Ok, Err, IsErr, IsOk, OnOk, IfErr, refl, ap, sym, subst, ◌∙◌}
use Rattle.lpc_base.specs.Rows.{every}
use Rattle.lpc_base.proofs.RowWords.{every-push}
use Rattle.lpc_base.proofs.RowMaps.{push-map}
use Rattle.lpc_model.specs.World.{World}
use Rattle.lpc_model.specs.Named.{free_name, as_status}
use Rattle.lpc_names.specs.Faults.{status_of}
use Rattle.lpc_names.specs.Binding.{Leaves, NameSpace, Refuses, bound, linked, with_node, with_link as with_link_bound}
use Rattle.lpc_names.specs.declared.fault.BindFault.{BindFault}
use Rattle.lpc_names.specs.declared.fault.BindFault.TheVariants.{Name, OutOfMemory}
use Rattle.lpc_names.specs.declared.fault.NameFault.{NameFault}
use Rattle.lpc_names.specs.Path.{Path, spelled}
use Rattle.lpc_names.specs.Walk.{Bindings, LinkTo, Node, free_path}
use Rattle.lpc_names.proofs.Mapped.{free_path-as}
use Rattle.lpc_slots.specs.declared.Key.{Key}
use Rattle.lpc_rows.specs.Bound.{bound_at, linked_at, with_link, with_name}
use Rattle.lpc_rows.specs.Lawful.{AreLawful, IsLawful}
use Rattle.lpc_rows.specs.Kept.{rows_by}
use Rattle.lpc_rows.specs.Shown.{AreNamed, Births, Tables, all_pass, binding_refs, birth_of, births_of, node_refs, object_stands, port_birth, shown_binding, shown_by, shown_node}
use Rattle.lpc_rows.proofs.Drawn as drawn

-- bindings with a node more
pushed : {T : Type 0} (bindings after : Bindings T) (node : Node T) (r : Result Path NameFault) → with_node bindings node r ≡ Ok after → (path : Path) × (r ≡ Ok path) × (after ≡ bindings ++ (path, node) ∷ [])
pushed bindings after node (Err fault) is = absurd (cc)
pushed bindings after node (Ok path) is = (path, refl, sym (same is))
  where
    same : {X E : Type 0} {a b : X} → let x : Result X E = Ok a in let y : Result X E = Ok b in x ≡ y → a ≡ b
    same e = cc

module _ (it : Tables) (is : AreNamed (births_of it) it) where
  abbrev n : Births
  n = births_of it

  abbrev rows : World
  rows = shown_by n it

  -- more room in the name space, or another one
  pub spaced : (space : NameSpace Key) → every (all_pass binding_refs (object_stands n)) space.bindings ≡ true → AreNamed n (record it { space = space })
  spaced space all = record {
    ports_apart = is.ports_apart;
    sections_apart = is.sections_apart;
    tokens_apart = is.tokens_apart;
    refs = record { in_handles = is.refs.in_handles; in_ports = is.refs.in_ports; in_messages = is.refs.in_messages; in_waits = is.refs.in_waits; in_names = all; in_views = is.refs.in_views };
  }

  free_same : (text : List ℕ) → free_path rows.bindings text ≡ free_path it.space.bindings text
  free_same text = free_path-as (port_birth (birth_of n)) it.space.bindings text

  -- the binding is a step, and names what stands
  pub bound_named : (text : List ℕ) (node : Node Key) (space : NameSpace Key) → every (object_stands n) (node_refs node) ≡ true → bound it.space.bindings text node ≡ Ok space.bindings → AreNamed n (record it { space = space })
  bound_named text node space there is_bound =
      let at = pushed it.space.bindings space.bindings node (free_path it.space.bindings text) is_bound in
      spaced space (rw at.2 (every-push (all_pass binding_refs (object_stands n)) it.space.bindings (at.0, node) is.refs.in_names there))

  pub binds : (text : List ℕ) (node : Node Key) (space : NameSpace Key) → bound it.space.bindings text node ≡ Ok space.bindings → with_name rows text (shown_node (birth_of n) node) ≡ Ok (shown_by n (record it { space = space }))
  binds text node space is_bound =
      let at = pushed it.space.bindings space.bindings node (free_path it.space.bindings text) is_bound in
      let shown : map (shown_binding (birth_of n)) space.bindings ≡ rows.bindings ++ (at.0, shown_node (birth_of n) node) ∷ [] = ap (map (shown_binding (birth_of n))) at.2 ∙ push-map (shown_binding (birth_of n)) it.space.bindings (at.0, node) in
      ap (bound_at rows (shown_node (birth_of n) node)) (free_same text ∙ at.1) ∙ ap (λ bs. Ok (record rows { bindings = bs })) (sym shown)

  -- and is refused as the definitions say
  refused_at : (fault : BindFault) (node : Node Key) (r : Result Path NameFault) → Refuses fault (with_node it.space.bindings node r) → Refuses fault (bound_at rows (shown_node (birth_of n) node) r)
  refused_at (Name fault) node (Err other) refused = ap Err (same refused)
    where
      same : {X E : Type 0} {a b : E} → let x : Result X E = Err a in let y : Result X E = Err b in x ≡ y → a ≡ b
      same e = cc
  refused_at (Name fault) node (Ok path) refused = absurd (cc)
  refused_at OutOfMemory node (Err other) refused = refused
  refused_at OutOfMemory node (Ok path) refused = refused

  pub refuses : (fault : BindFault) (text : List ℕ) (node : Node Key) → Refuses fault (bound it.space.bindings text node) → Refuses fault (with_name rows text (shown_node (birth_of n) node))
  refuses fault text node refused = rw (free_same text) (refused_at fault node (free_path it.space.bindings text) refused)

  -- links, whose target is spelled first
  linked_by : (text : List ℕ) (target : Result Path NameFault) (space : NameSpace Key) → linked it.space.bindings text target ≡ Ok space.bindings → linked_at rows text target ≡ Ok (shown_by n (record it { space = space }))
  linked_by text (Err fault) space is_bound = absurd (cc)
  linked_by text (Ok to) space is_bound = binds text (LinkTo to) space is_bound

  pub links : (text target : List ℕ) (space : NameSpace Key) → with_link_bound it.space.bindings text target ≡ Ok space.bindings → with_link rows text target ≡ Ok (shown_by n (record it { space = space }))
  links text target space is_bound = linked_by text (spelled target) space is_bound

  linked_named : (text : List ℕ) (target : Result Path NameFault) (space : NameSpace Key) → linked it.space.bindings text target ≡ Ok space.bindings → AreNamed n (record it { space = space })
  linked_named text (Err fault) space is_bound = absurd (cc)
  linked_named text (Ok to) space is_bound = bound_named text (LinkTo to) space refl is_bound

  pub link_named : (text target : List ℕ) (space : NameSpace Key) → with_link_bound it.space.bindings text target ≡ Ok space.bindings → AreNamed n (record it { space = space })
  link_named text target space is_bound = linked_named text (spelled target) space is_bound

  link_refused : (fault : BindFault) (text : List ℕ) (target : Result Path NameFault) → Refuses fault (linked it.space.bindings text target) → Refuses fault (linked_at rows text target)
  link_refused (Name fault) text (Err other) refused = ap Err (same refused)
    where
      same : {X E : Type 0} {a b : E} → let x : Result X E = Err a in let y : Result X E = Err b in x ≡ y → a ≡ b
      same e = cc
  link_refused OutOfMemory text (Err other) refused = refused
  link_refused fault text (Ok to) refused = refuses fault text (LinkTo to) refused

  pub refuses_link : (fault : BindFault) (text target : List ℕ) → Refuses fault (with_link_bound it.space.bindings text target) → Refuses fault (with_link rows text target)
  refuses_link fault text target refused = link_refused fault text (spelled target) refused

-- The tables with another name space are lawful, where it names what stands.
lawful-names : (w v : World) (calls made a b : ℕ) → v ≡ record w { bindings = v.bindings } → IsLawful w calls made a b → IsLawful v calls made a b
lawful-names w v calls made a b same h = rw same (record {
  few = h.few;
  budget = h.budget;
  rows = h.rows;
  draws = h.draws;
  housed = h.housed;
  tables_used = h.tables_used;
  tables_single = h.tables_single;
  tables_few = h.tables_few;
  single = h.single;
  threads = h.threads;
  quiet = h.quiet;
  own = h.own;
  told = h.told;
  waits_fit = h.waits_fit;
  messages_fit = h.messages_fit;
})

pub spaced_lawful : (it : Tables) (calls made : ℕ) (space : NameSpace Key) → AreLawful it calls made → AreNamed (births_of it) (record it { space = space }) → AreLawful (record it { space = space }) calls made
spaced_lawful it calls made space is named = record {
  named = named;
  lawful = lawful-names (rows_by it) (rows_by (record it { space = space })) calls made it.waits.spare it.ports.message_room refl is.lawful;
  counted = is.counted;
  registered = is.registered;
  heard = is.heard;
  marked = is.marked;
  headed = is.headed;
  drawn = drawn.same-drawn (rows_by it) _ refl refl refl refl refl is.drawn;
  born = is.born;
  promised = is.promised;
  mapped = is.mapped;
}

-- where a name is refused, the name space stays as it is
same_refused : {X : Type 0} (old new : NameSpace Key) (given : X) (answer : Result X NameFault) (r : Result Unit BindFault) → OnOk r (answer ≡ Ok given) → IfErr r (λ fault. Refuses fault answer) → IfErr r (λ fault. Leaves fault old new) → IsErr answer → new ≡ old
same_refused old new given (Ok x) r is_bound refused left err = absurd (cc)
same_refused old new given (Err x) (Ok u) is_bound refused left err = absurd (cc)
same_refused old new given (Err x) (Err (Name fault)) is_bound refused left err = left
same_refused old new given (Err x) (Err OutOfMemory) is_bound refused left err = absurd (cc)

-- What the calls on names answer
module _ (it : Tables) (is : AreNamed (births_of it) it) (space : NameSpace Key) (text : List ℕ) where
  abbrev m : Births
  m = births_of it

  pub bound_clause : (node : Node Key) (r : Result Unit BindFault) → OnOk r (bound it.space.bindings text node ≡ Ok space.bindings) → OnOk r (with_name (shown_by m it) text (shown_node (birth_of m) node) ≡ Ok (shown_by m (record it { space = space })))
  bound_clause node (Ok u) h = binds it is text node space h
  bound_clause node (Err fault) h = tt

  pub refused_clause : (node : Node Key) (r : Result Unit BindFault) → IfErr r (λ fault. Refuses fault (bound it.space.bindings text node)) → IfErr r (λ fault. Refuses fault (with_name (shown_by m it) text (shown_node (birth_of m) node)))
  refused_clause node (Ok u) h = tt
  refused_clause node (Err fault) h = refuses it is fault text node h

  pub link_clause : (target : List ℕ) (r : Result Unit BindFault) → OnOk r (with_link_bound it.space.bindings text target ≡ Ok space.bindings) → OnOk r (with_link (shown_by m it) text target ≡ Ok (shown_by m (record it { space = space })))
  link_clause target (Ok u) h = links it is text target space h
  link_clause target (Err fault) h = tt

  pub refused_link_clause : (target : List ℕ) (r : Result Unit BindFault) → IfErr r (λ fault. Refuses fault (with_link_bound it.space.bindings text target)) → IfErr r (λ fault. Refuses fault (with_link (shown_by m it) text target))
  refused_link_clause target (Ok u) h = tt
  refused_link_clause target (Err fault) h = refuses_link it is fault text target h

  pub kept_clause : (node : Node Key) (r : Result Unit BindFault) → OnOk r (bound it.space.bindings text node ≡ Ok space.bindings) → IfErr r (λ fault. Refuses fault (bound it.space.bindings text node)) → IfErr r (λ fault. Leaves fault it.space space) → IsErr (with_name (shown_by m it) text (shown_node (birth_of m) node)) → space ≡ it.space
  kept_clause node r is_bound refused left err = same_refused it.space space (shown_by m (record it { space = space })) (with_name (shown_by m it) text (shown_node (birth_of m) node)) r (bound_clause node r is_bound) (refused_clause node r refused) left err

  pub kept_link_clause : (target : List ℕ) (r : Result Unit BindFault) → OnOk r (with_link_bound it.space.bindings text target ≡ Ok space.bindings) → IfErr r (λ fault. Refuses fault (with_link_bound it.space.bindings text target)) → IfErr r (λ fault. Leaves fault it.space space) → IsErr (with_link (shown_by m it) text target) → space ≡ it.space
  kept_link_clause target r is_bound refused left err = same_refused it.space space (shown_by m (record it { space = space })) (with_link (shown_by m it) text target) r (link_clause target r is_bound) (refused_link_clause target r refused) left err

-- what the test of a name says
fault_by : {X : Type 0} (r : Result X NameFault) (fault : NameFault) → r ≡ Err fault → as_status r ≡ Err (status_of fault)
fault_by r fault is = ap as_status is

free_by : {X : Type 0} (r : Result X NameFault) → IsOk r → IsOk (as_status r)
free_by (Ok x) ok = ok
free_by (Err fault) ok = ok

pub name_fault : (it : Tables) (text : List ℕ) (fault : NameFault) → free_path it.space.bindings text ≡ Err fault → free_name (rows_by it) text ≡ Err (status_of fault)
name_fault it text fault is = fault_by (free_path (rows_by it).bindings text) fault (free_path-as (port_birth (birth_of (births_of it))) it.space.bindings text ∙ is)

pub name_free : (it : Tables) (text : List ℕ) → IsOk (free_path it.space.bindings text) → IsOk (free_name (rows_by it) text)
name_free it text ok = free_by (free_path (rows_by it).bindings text) (subst IsOk (sym (free_path-as (port_birth (birth_of (births_of it))) it.space.bindings text)) ok)
