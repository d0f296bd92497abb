-- The ports that are told of processes' exceptions: the tables have those of the definitions, and what each change of ports
-- leaves of their names.
use Rattle.std.proofs.Common.{◌≡◌, ◌∙◌, List, [], ◌∷◌, ◌++◌, true, false, map, Option, Some, None, option_map, option_to_list, refl, ap, sym, arith}
use Rattle.std.proofs.lemmas.List.{map-append}
use Rattle.lpc_base.specs.declared.birth.Birth.{Birth}
use Rattle.lpc_base.specs.Rows.{count, each, every, has}
use Rattle.lpc_base.proofs.RowWords.{every-more}
use Rattle.lpc_model.specs.Found as found
use Rattle.lpc_model.specs.Found.{same_birth}
use Rattle.lpc_model.proofs.Steps.Rows.{has-append}
use Rattle.lpc_procs.specs.Procs.{event_ports, event_ports_of, has_event_port, is_of_birth}
use Rattle.lpc_procs.specs.declared.rows.ProcessRow.{ProcessRow}
use Rattle.lpc_procs.specs.declared.rows.Registration.{Registration}
use Rattle.lpc_slots.specs.declared.Key.{Key}
use Rattle.lpc_rows.specs.Lawful.{has_named_hearers, is_under_name}
use Rattle.lpc_rows.specs.Names.{KeepsNames, KeepsOthers, name_of}
use Rattle.lpc_rows.specs.Shown.{Births, shown_process}
use Rattle.lpc_rows.proofs.Registered.{births-registered, under-name, unders-other}

-- Their ports stand under their names where all do that stood
pub heard-more : (n m : Births) → KeepsNames n.ports m.ports → (ps : List ProcessRow) → every (has_named_hearers n) ps ≡ true → every (has_named_hearers m) ps ≡ true
heard-more n m keeps ps all = every-more (has_named_hearers n) (has_named_hearers m) (λ p there. every-more (is_under_name n) (is_under_name m) (under-name n m keeps) (event_ports_of p) there) ps all

-- The table's are those of the definitions
pub events-of : (p : ProcessRow) → found.event_ports_of (shown_process p) ≡ map (λ (r : Registration). r.birth) (event_ports_of p)
events-of p = by p.debug_port p.exception_port
  where
    by : (d e : Option Registration) → found.listed (option_map (λ (r : Registration). r.birth) d) ++ found.listed (option_map (λ (r : Registration). r.birth) e) ≡ map (λ (r : Registration). r.birth) (option_to_list d ++ option_to_list e)
    by None None = refl
    by None (Some b) = refl
    by (Some a) None = refl
    by (Some a) (Some b) = refl

pub events-shown : (ps : List ProcessRow) → each found.event_ports_of (map shown_process ps) ≡ map (λ (r : Registration). r.birth) (event_ports ps)
events-shown [] = refl
events-shown (p ∷ ps) =
    ap (λ bs. bs ++ each found.event_ports_of (map shown_process ps)) (events-of p) ∙ ap (λ bs. map (λ (r : Registration). r.birth) (event_ports_of p) ++ bs) (events-shown ps)
    ∙ sym (map-append (λ (r : Registration). r.birth) (event_ports_of p) (event_ports ps))

pub events-names : (b : Birth) (ps : List ProcessRow) → has (same_birth b) (each found.event_ports_of (map shown_process ps)) ≡ has (has_event_port b) ps
events-names b [] = refl
events-names b (p ∷ ps) =
    has-append (same_birth b) (found.event_ports_of (shown_process p)) (each found.event_ports_of (map shown_process ps))
    ∙ (let own : has (same_birth b) (found.event_ports_of (shown_process p)) ≡ has_event_port b p = ap (has (same_birth b)) (events-of p) ∙ births-registered b (event_ports_of p) in grind (arith, own, events-names b ps))

pub events-counted : (b : Birth) (ps : List ProcessRow) → count (same_birth b) (each found.event_ports_of (map shown_process ps)) ≡ count (is_of_birth b) (event_ports ps)
events-counted b ps = ap (count (same_birth b)) (events-shown ps) ∙ many (event_ports ps)
  where
    many : (rs : List Registration) → count (same_birth b) (map (λ (r : Registration). r.birth) rs) ≡ count (is_of_birth b) rs
    many [] = refl
    many (r ∷ rs) = grind (arith, many rs)

-- and where a port goes that is told of none
module _ (n m : Births) (key : Key) (keeps : KeepsOthers key n.ports m.ports) where
  pub heard-less : (ps : List ProcessRow) → every (has_named_hearers n) ps ≡ true → has (same_birth (name_of n.ports key)) (each found.event_ports_of (map shown_process ps)) ≡ false → every (has_named_hearers m) ps ≡ true
  heard-less [] all off = refl
  heard-less (p ∷ ps) all off =
      let parts = has-append (same_birth (name_of n.ports key)) (found.event_ports_of (shown_process p)) (each found.event_ports_of (map shown_process ps)) in
      let own : has (same_birth (name_of n.ports key)) (found.event_ports_of (shown_process p)) ≡ false = grind (arith, parts) in
      let here : has (same_birth (name_of n.ports key)) (map (λ (r : Registration). r.birth) (event_ports_of p)) ≡ false = rw (← events-of p) own in
      let rest = heard-less ps (grind arith) (grind (arith, parts)) in
      let first = unders-other n m key keeps (event_ports_of p) (grind arith) here in
      rw (first, rest) refl
