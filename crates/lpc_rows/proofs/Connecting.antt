-- What the services of connections look up is what is found in the rows.
use Rattle.std.proofs.Common.{◌≡◌, ℕ, List, ◌∷◌, Bool, true, false, not, ◌&&◌, ◌||◌, map, Option, Some, None, MatchOption, IfSome, option_map, Result, Ok, refl, ap, sym, subst, ◌∙◌, arith}
use Rattle.std.proofs.lemmas.Bool.{and_left}
use Rattle.std.specs.Prelude.{is_none, is_some}
use Rattle.lpc_base.specs.declared.birth.Birth.{Birth}
use Rattle.lpc_base.specs.Rows.{every, first, has}
use Rattle.lpc_base.proofs.RowMaps.{every-first, first-map, has-map, mapped-twice, same-map}
use Rattle.lpc_base.proofs.RowWords.{first-passes}
use Rattle.lpc_base.proofs.Bools.{first-true}
use Rattle.lpc_handles.specs.declared.table.Row.{Row}
use Rattle.lpc_model.specs.declared.entry.CallName.{CallName}
use Rattle.lpc_model.specs.declared.entry.CallName.TheVariants.{NtConnectPort}
use Rattle.lpc_model.specs.Connect.{acceptance_of, is_accepted_on, no_acceptance, reaches}
use Rattle.lpc_model.specs.Found.{is_accepted, is_connect, is_event, is_offered, is_request, names_port, offer_of, waits_as}
use Rattle.lpc_model.specs.Named.{as_status, named_port, port_found}
use Rattle.lpc_model.specs.Then.{◌>>=◌}
use Rattle.lpc_model.specs.World as model
use Rattle.lpc_model.specs.World.{WaitRow, World}
use Rattle.lpc_names.specs.Kept.{seen}
use Rattle.lpc_names.specs.Mapped.{binding_as, found_as, node_as}
use Rattle.lpc_names.specs.Walk.{LinkTo, Node, Stands, lookup}
use Rattle.lpc_names.specs.declared.fault.NameFault.{NameFault}
use Rattle.lpc_names.specs.declared.names.Found.{Found}
use Rattle.lpc_names.specs.declared.names.Found.TheVariants.{Directory, Item}
use Rattle.lpc_names.proofs.Mapped.{lookup-as}
use Rattle.lpc_slots.specs.Table.{is_key}
use Rattle.lpc_slots.specs.declared.Key.{Key}
use Rattle.lpc_waits.specs.Table as waits
use Rattle.lpc_waits.specs.Table.{WaitingThread, row_of}
use Rattle.lpc_waits.specs.declared.Accepted.{Accepted}
use Rattle.lpc_waits.specs.declared.Offer.{Offer}
use Rattle.lpc_waits.specs.declared.WaitKind.{WaitKind}
use Rattle.lpc_waits.specs.declared.WaitKind.TheVariants as wait
use Rattle.lpc_rows.specs.Kept.{is_pending, is_pending_in, rows_by}
use Rattle.lpc_rows.specs.Lawful.{are_single}
use Rattle.lpc_rows.specs.Names.{name_of, some_stands, stands}
use Rattle.lpc_homes.specs.Parts.{is_part, names_it, rows_at}
use Rattle.lpc_rows.specs.Ready.{wait_in, waiter}
use Rattle.lpc_rows.specs.Shown.{AreNamed, Births, Tables, all_pass, binding_refs, birth_of, births_of, call_of_wait, name_by, node_refs, object_stands, port_birth, section_in, shown_acceptance, shown_handle, shown_kind, shown_offer, shown_wait, wait_refs}
use Rattle.lpc_homes.specs.declared.object.Object.{Object}
use Rattle.lpc_homes.specs.declared.object.Object.TheVariants as object
use Rattle.lpc_rows.proofs.Finds as finds
use Rattle.lpc_rows.proofs.Follows as follows
use Rattle.lpc_rows.proofs.Readings as readings

-- Names
-- where each item stands, it is seen as what stands
seen_node : (n : Births) (node : Node Key) → every (object_stands n) (node_refs node) ≡ true → node_as (stands n.ports) node ≡ node_as (λ (k : Key). true) node
seen_node n (Stands Directory) ok = refl
seen_node n (Stands (Item key)) ok = ap (λ (b : Bool). Stands (Item b)) (both (stands n.ports key) ok)
  where
    both : (b : Bool) → b && true ≡ true → b ≡ true
    both true e = refl
    both false e = e
seen_node n (LinkTo target) ok = refl

same_item : (a : Bool) → (let x : Result (Found Bool) NameFault = Ok (Item a) in let y : Result (Found Bool) NameFault = Ok (Item true) in x ≡ y) → a ≡ true
same_item a e = cc

module _ (it : Tables) (is : AreNamed (births_of it) it) where
  abbrev n : Births
  n = births_of it

  abbrev f : Object → Birth
  f = birth_of n

  -- what a name leads to stands
  pub name_stands : (text : List ℕ) (key : Key) → lookup it.space.bindings text ≡ Ok (Item key) → stands n.ports key ≡ true
  name_stands text key at =
      let all : map (binding_as (stands n.ports)) it.space.bindings ≡ map (binding_as (λ (k : Key). true)) it.space.bindings =
      same-map (binding_as (stands n.ports)) (all_pass binding_refs (object_stands n)) (binding_as (λ (k : Key). true)) (λ row ok. ap (λ (m : Node Bool). (row.0, m)) (seen_node n row.1 ok)) it.space.bindings is.refs.in_names in
      same_item (stands n.ports key) (
      sym (lookup-as (stands n.ports) it.space.bindings text ∙ ap (seen (found_as (stands n.ports))) at)
      ∙ ap (λ bs. lookup bs text) all
      ∙ lookup-as (λ (k : Key). true) it.space.bindings text ∙ ap (seen (found_as (λ (k : Key). true))) at
      )

  -- and is the port that the definitions find
  pub name_leads : (text : List ℕ) (r : Result (Found Key) NameFault) → lookup it.space.bindings text ≡ r → named_port (rows_by it) text ≡ as_status (seen (found_as (port_birth f)) r) >>= port_found
  name_leads text r at = ap (λ x. as_status x >>= port_found) (lookup-as (port_birth f) it.space.bindings text ∙ ap (seen (found_as (port_birth f))) at)

-- Waits
-- what was received isn't pending
pub received_off : (x : WaitRow) → x.received ≡ true → is_pending x ≡ false
received_off x h = no (is_request x || (is_event x || is_connect x)) x.received h
  where
    no : (a b : Bool) → b ≡ true → a && not b ≡ false
    no true true h = refl
    no false true h = refl
    no a false h = absurd (cc)

-- a wait that is found by its test
pub record IsMet (w : World) (p : WaitRow → Bool) (r : Option ℕ) : Type 0 where
  pub found : MatchOption r (first p w.waits ≡ None) (λ tid. first p w.waits ≡ Some (waiter w tid))
  pub waits : IfSome r (λ tid. has (waits_as tid) w.waits ≡ true)
  pub thread : IfSome r (λ tid. let x = waiter w tid in x.thread ≡ tid)
  pub passes : IfSome r (λ tid. p (waiter w tid) ≡ true)
  pub idle : IfSome r (λ tid. let x = waiter w tid in x.received ≡ true → is_pending_in w tid ≡ false)

met_row : (w : World) (p : WaitRow → Bool) → are_single w.waits ≡ true → (o : Option WaitRow) → first p w.waits ≡ o → IsMet w p (option_map (λ x. x.thread) o)
unfolding waiter
met_row w p one None is = record { found = is; waits = tt; thread = tt; passes = tt; idle = tt }
met_row w p one (Some x) is =
    let own : first (waits_as x.thread) w.waits ≡ Some x = finds.own_wait p w.waits x one is in
    record {
      found = is ∙ ap Some (sym (ap wait_in own));
      waits = ap is_some own;
      thread = ap (λ o. (wait_in o).thread) own;
      passes = ap (λ o. p (wait_in o)) own ∙ first-passes p w.waits x is;
      idle = λ h. finds.idle_first p w.waits x one is (received_off x (sym (ap (λ o. (wait_in o).received) own) ∙ h));
    }

pub met : (w : World) (p : WaitRow → Bool) (r : Option ℕ) → are_single w.waits ≡ true → r ≡ option_map (λ x. x.thread) (first p w.waits) → IsMet w p r
met w p r one is = subst (λ (o : Option ℕ). IsMet w p o) (sym is) (met_row w p one (first p w.waits) refl)

pub met_accepted : (w : World) (client : Birth) (r : Option ℕ) → IsMet w (is_accepted_on client) r → IfSome r (λ tid. is_accepted (waiter w tid) ≡ true)
met_accepted w client None is = tt
met_accepted w client (Some tid) is = first-true (is_accepted (waiter w tid)) _ is.passes

-- Kinds of waits
pub accepted_kind : (kind : WaitKind) (bytes : List ℕ) (offer : Option model.Offer) (accepted : Option Accepted) → (elim (shown_kind kind bytes offer accepted) [ model.Accepted m reply ↦ true | _ ↦ false ]) ≡ waits.is_connect kind && is_some accepted
accepted_kind wait.Connect bytes offer None = refl
accepted_kind wait.Connect bytes offer (Some accepted) = refl
accepted_kind b bytes offer accepted = refl

-- a connect's call
abbrev is_connect_call : CallName → Bool
is_connect_call call = elim call [
  | NtConnectPort ↦ true
  | _ ↦ false
]

not_connect : (kind : WaitKind) → (kind ≡ wait.Connect → ⊥) → is_connect_call (call_of_wait kind) ≡ false
not_connect wait.Connect off = absurd (off refl)
not_connect b off = refl

offered_kind : (kind : WaitKind) (bytes : List ℕ) (offer : Option model.Offer) (accepted : Option Accepted) → (elim (shown_kind kind bytes offer accepted) [ model.Connect m o ↦ true | _ ↦ false ]) ≡ is_connect_call (call_of_wait kind) && is_none accepted
offered_kind wait.Connect bytes offer None = refl
offered_kind wait.Connect bytes offer (Some accepted) = refl
offered_kind b bytes offer accepted = refl

acceptance_shown : (kind : WaitKind) (bytes : List ℕ) (offer : Option model.Offer) (a : Accepted) → (elim (shown_kind kind bytes offer (Some a)) [ model.Accepted m b ↦ true | _ ↦ false ]) ≡ true
    → shown_acceptance a ≡ (elim (shown_kind kind bytes offer (Some a)) [ model.Accepted m b ↦ b | _ ↦ no_acceptance ])
acceptance_shown wait.Connect bytes offer a h = refl
acceptance_shown b bytes offer a h = absurd (cc)

-- two tests of which one holds where the other doesn't
pub turned : (a b : Bool) → a ≡ not b → b ≡ not a
turned a true e = sym (ap not e)
turned a false e = sym (ap not e)

-- an optional value seen as another is there where it is
pub none_of : {X Y : Type 0} (k : X → Y) (o : Option X) → is_none o ≡ is_none (option_map k o)
none_of k None = refl
none_of k (Some x) = refl

-- Reading the tables
module _ (it : Tables) (is : AreNamed (births_of it) it) where
  abbrev m : Births
  m = births_of it

  abbrev g : Object → Birth
  g = birth_of m

  abbrev rows : World
  rows = rows_by it

  -- the accepted connect on a port
  accepted_same : (key : Key) → stands m.ports key ≡ true → (row : WaitingThread) → all_pass wait_refs (object_stands m) row ≡ true → is_accepted_on (name_of m.ports key) (shown_wait g row) ≡ waits.is_accepted_on key row
  accepted_same key there row ok =
      let same = follows.agree it is row.wait.port key (grind arith) there in
      rw (same) (ap (λ b. b && is_key row.wait.port key) (accepted_kind row.wait.kind row.message.items (option_map (shown_offer g) row.offer) row.accepted))

  first_accepted : (key : Key) → stands m.ports key ≡ true → first (is_accepted_on (name_of m.ports key)) (map (shown_wait g) it.waits.rows) ≡ option_map (shown_wait g) (first (waits.is_accepted_on key) it.waits.rows)
  first_accepted key there = first-map (shown_wait g) (all_pass wait_refs (object_stands m)) (waits.is_accepted_on key) (is_accepted_on (name_of m.ports key)) (accepted_same key there) it.waits.rows is.refs.in_waits

  pub accepted_found : (key : Key) → stands m.ports key ≡ true → are_single rows.waits ≡ true → (r : Option ℕ) → r ≡ option_map (λ (x : WaitingThread). x.thread) (first (waits.is_accepted_on key) it.waits.rows) → IsMet rows (is_accepted_on (name_of m.ports key)) r
  accepted_found key there one r found =
      met rows (is_accepted_on (name_of m.ports key)) r one (found ∙ sym (ap (λ o. option_map (λ (x : WaitRow). x.thread) o) (first_accepted key there) ∙ mapped-twice (shown_wait g) (λ (x : WaitRow). x.thread) (first (waits.is_accepted_on key) it.waits.rows)))

  -- the thread has a row
  pub has_its_row : (tid : ℕ) → has (waits_as tid) rows.waits ≡ true → is_some (row_of it.waits tid) ≡ true
  has_its_row tid there = sym (readings.waits_are it is tid) ∙ there

  -- a connect that isn't accepted
  offered_row : (tid : ℕ) (accepted : Option Accepted) → option_map (λ (r : WaitingThread). r.accepted) (row_of it.waits tid) ≡ Some accepted → is_offered (waiter rows tid) ≡ is_connect_call (waiter rows tid).call && is_none accepted
  offered_row tid accepted at =
      let held = readings.holds (λ (r : WaitingThread). r.accepted) (row_of it.waits tid) accepted at in
      let shown = readings.wait_is it is tid held.row held.found in
      ap is_offered shown ∙ offered_kind held.row.wait.kind held.row.message.items (option_map (shown_offer g) held.row.offer) held.row.accepted
      ∙ ap (λ o. is_connect_call (call_of_wait held.row.wait.kind) && is_none o) held.is
      ∙ ap (λ (x : WaitRow). is_connect_call x.call && is_none accepted) (sym shown)

  pub offered_is : (tid : ℕ) (kind : WaitKind) (accepted : Option Accepted) → option_map (λ (r : WaitingThread). r.accepted) (row_of it.waits tid) ≡ Some accepted → (waiter rows tid).call ≡ call_of_wait kind → kind ≡ wait.Connect → is_none accepted ≡ is_offered (waiter rows tid)
  offered_is tid kind accepted at call is_connect =
      let one : is_connect_call (waiter rows tid).call ≡ true = ap is_connect_call call ∙ ap (λ k. is_connect_call (call_of_wait k)) is_connect in
      sym (offered_row tid accepted at ∙ ap (λ b. b && is_none accepted) one)

  pub offered_never : (tid : ℕ) (kind : WaitKind) → has (waits_as tid) rows.waits ≡ true → (waiter rows tid).call ≡ call_of_wait kind → (kind ≡ wait.Connect → ⊥) → false ≡ is_offered (waiter rows tid)
  offered_never tid kind there call off = by (row_of it.waits tid) refl (has_its_row tid there)
    where
      by : (o : Option WaitingThread) → row_of it.waits tid ≡ o → is_some o ≡ true → false ≡ is_offered (waiter rows tid)
      by None at some = absurd (cc)
      by (Some row) at some = sym (offered_row tid row.accepted (ap (option_map (λ (r : WaitingThread). r.accepted)) at) ∙ and_left _ _ (ap is_connect_call call ∙ not_connect kind off))

  -- what a connect was accepted with
  pub acceptance_is : (tid : ℕ) (a : Accepted) → option_map (λ (r : WaitingThread). r.accepted) (row_of it.waits tid) ≡ Some (Some a) → is_accepted (waiter rows tid) ≡ true → shown_acceptance a ≡ acceptance_of (waiter rows tid)
  acceptance_is tid a at ok =
      let held = readings.holds (λ (r : WaitingThread). r.accepted) (row_of it.waits tid) (Some a) at in
      let shown : waiter rows tid ≡ shown_wait g (record held.row { accepted = Some a }) =
      readings.wait_is it is tid held.row held.found ∙ ap (λ o. shown_wait g (record held.row { accepted = o })) held.is in
      acceptance_shown held.row.wait.kind held.row.message.items (option_map (shown_offer g) held.row.offer) a (sym (ap is_accepted shown) ∙ ok) ∙ sym (ap acceptance_of shown)

  pub no_acceptance_there : (tid : ℕ) → option_map (λ (r : WaitingThread). r.accepted) (row_of it.waits tid) ≡ Some None → is_accepted (waiter rows tid) ≡ true → ⊥
  no_acceptance_there tid at ok =
      let held = readings.holds (λ (r : WaitingThread). r.accepted) (row_of it.waits tid) None at in
      let off : is_accepted (waiter rows tid) ≡ false =
      ap is_accepted (readings.wait_is it is tid held.row held.found) ∙ accepted_kind held.row.wait.kind held.row.message.items (option_map (shown_offer g) held.row.offer) held.row.accepted ∙ ap (λ o. waits.is_connect held.row.wait.kind && is_some o) held.is ∙ no (waits.is_connect held.row.wait.kind) in
      absurd (cc)
    where
      no : (a : Bool) → a && false ≡ false
      no true = refl
      no false = refl

  -- what a connect offers that isn't accepted, of a section that stands
  pub record IsOffer (tid : ℕ) (o : Option Offer) : Type 0 where
    pub offer : option_map (shown_offer g) o ≡ offer_of (waiter rows tid)
    pub there : some_stands m.sections (option_map (λ (x : Offer). x.section) o) ≡ true

  offered_here : (row : WaitingThread) → is_offered (shown_wait g row) ≡ true → every (object_stands m) (wait_refs row) ≡ true → (option_map (shown_offer g) row.offer ≡ offer_of (shown_wait g row)) × (some_stands m.sections (option_map (λ (x : Offer). x.section) row.offer) ≡ true)
  offered_here row on all = by row.wait.kind row.offer row.accepted on all
    where
      section_there : (o : Option Offer) (a b : Object) → every (object_stands m) (a ∷ b ∷ section_in o) ≡ true → some_stands m.sections (option_map (λ (x : Offer). x.section) o) ≡ true
      section_there None a b all = refl
      section_there (Some o) a b all = grind arith

      by : (kind : WaitKind) (o : Option Offer) (a : Option Accepted) → let x : WaitingThread = record row { wait = record row.wait { kind = kind }; offer = o; accepted = a } in is_offered (shown_wait g x) ≡ true → every (object_stands m) (wait_refs x) ≡ true
          → (option_map (shown_offer g) o ≡ offer_of (shown_wait g x)) × (some_stands m.sections (option_map (λ (y : Offer). y.section) o) ≡ true)
      by wait.Connect o None on all = (refl, section_there o (object.Port row.wait.port) (object.Port row.wait.queue) all)
      by wait.Connect o (Some a) on all = absurd (cc)
      by wait.Request o a on all = absurd (cc)
      by wait.Receive o a on all = absurd (cc)
      by wait.Listen o a on all = absurd (cc)
      by (wait.Event r) o a on all = absurd (cc)

  pub offer_is : (tid : ℕ) (o : Option Offer) → option_map (λ (r : WaitingThread). r.offer) (row_of it.waits tid) ≡ Some o → is_offered (waiter rows tid) ≡ true → IsOffer tid o
  offer_is tid o at on =
      let held = readings.holds (λ (r : WaitingThread). r.offer) (row_of it.waits tid) o at in
      let shown = readings.wait_is it is tid held.row held.found in
      let all = every-first (all_pass wait_refs (object_stands m)) (waits.is_of tid) it.waits.rows held.row is.refs.in_waits held.found in
      let here = offered_here held.row (sym (ap is_offered shown) ∙ on) all in
      record {
        offer = ap (option_map (shown_offer g)) (sym held.is) ∙ here.0 ∙ sym (ap offer_of shown);
        there = ap (λ (x : Option Offer). some_stands m.sections (option_map (λ (y : Offer). y.section) x)) (sym held.is) ∙ here.1;
      }

  -- another wait offers nothing
  pub no_offer : (tid : ℕ) → is_offered (waiter rows tid) ≡ false → IsOffer tid None
  no_offer tid off = record { offer = sym (by (waiter rows tid).kind off); there = refl }
    where
      by : (kind : model.WaitKind) → let x : WaitRow = record (waiter rows tid) { kind = kind } in is_offered x ≡ false → offer_of x ≡ None
      by (model.Connect a o) off = absurd (cc)
      by (model.Request a) off = refl
      by model.Receive off = refl
      by model.Listen off = refl
      by (model.Accepted a b) off = refl
      by (model.Event r) off = refl

  -- a handle of the process names the port
  reached_same : (key : Key) → stands m.ports key ≡ true → (row : ℕ × Row Object) → object_stands m row.1.object ≡ true → names_port (name_of m.ports key) (name_by g row.1.object) ≡ names_it (object.Port key) row
  reached_same key stand row ok = readings.named_same it is (object.Port key) stand row ok

  pub reached : (pid : ℕ) (key : Key) → stands m.ports key ≡ true → reaches rows pid (name_of m.ports key) ≡ has (names_it (object.Port key)) (rows_at it.parts pid)
  reached pid key stand =
      ap (λ hs. has (λ (h : model.HandleRow). names_port (name_of m.ports key) h.object) hs) (readings.handles_are it is pid)
      ∙ has-map (shown_handle g) (λ row. object_stands m row.1.object) (names_it (object.Port key)) (λ h. names_port (name_of m.ports key) h.object) (reached_same key stand) (rows_at it.parts pid) (readings.rows_stand it is (first (is_part pid) it.parts) pid refl)
