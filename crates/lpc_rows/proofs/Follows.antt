-- What is found in the tables is what is found in the rows that they stand for.
use Rattle.std.proofs.Common.{◌≡◌, ℕ, List, [], ◌∷◌, Bool, true, false, ◌&&◌, map, option_map, refl, ap, sym, ◌∙◌, arith, Option, Some, None, ◌||◌}
use Rattle.lpc_base.specs.declared.birth.Birth.{Birth}
use Rattle.lpc_base.specs.Rows.{every, first}
use Rattle.lpc_base.proofs.RowMaps.{every-both, every-map, first-map}
use Rattle.lpc_base.proofs.Births.{birth-same}
use Rattle.lpc_model.specs.World as model
use Rattle.lpc_model.specs.Found.{is_content, is_port, is_queued, is_section, is_token, same_birth}
use Rattle.lpc_model.specs.Entering.{takes_from}
use Rattle.lpc_waits.specs.declared.Accepted.{Accepted}
use Rattle.lpc_ports.specs.Table as ports
use Rattle.lpc_ports.specs.declared.Port.{Port}
use Rattle.lpc_ports.specs.Table.{QueuedMessage}
use Rattle.lpc_sections.specs.Sections.{SectionRow}
use Rattle.lpc_slots.specs.Table.{at_key, is_key, listed}
use Rattle.lpc_slots.specs.declared.Key.{Key}
use Rattle.lpc_tokens.specs.declared.token_row.TokenRow.{TokenRow}
use Rattle.lpc_waits.specs.Table as waits
use Rattle.lpc_waits.specs.declared.WaitKind.{WaitKind}
use Rattle.lpc_waits.specs.declared.WaitKind.TheVariants as wait
use Rattle.lpc_waits.specs.Table.{WaitingThread}
use Rattle.lpc_rows.specs.Names.{Names, are_apart, name_of, names_of, stands}
use Rattle.lpc_rows.specs.Shown.{Tables, AreNamed, Births, all_pass, birth_of, births_of, message_refs, object_stands, shown_content, shown_kind, shown_message, shown_offer, shown_port, shown_section, shown_token, shown_wait, wait_refs}
use Rattle.lpc_homes.specs.declared.object.Object.{Object}
use Rattle.lpc_rows.proofs.Naming.{agrees, key_itself, own}

-- A row's own key stands, and its birth is its own name
still_stands : (n m : Key × Birth) (names : Names) → stands names m.0 ≡ true → stands (n ∷ names) m.0 ≡ true
unfolding stands
still_stands n m names there = grind arith

all_still : (n : Key × Birth) (names : Names) → every (λ m. stands names m.0) names ≡ true → every (λ m. stands (n ∷ names) m.0) names ≡ true
all_still n names all = every-both (λ m. stands names m.0) (λ m. stands names m.0) (λ m. stands (n ∷ names) m.0) (λ m a b. still_stands n m names a) names all all

own_stands : (names : Names) → every (λ n. stands names n.0) names ≡ true
unfolding stands
own_stands [] = refl
own_stands (n ∷ names) = grind (arith, key_itself n.0, all_still n names (own_stands names))

module _ {R : Type 0} (birth : R → Birth) (rows : List (Key × R)) where
  -- the row's own key stands under its own birth
  abbrev pub is_own : Key × R → Bool
  is_own row = stands (names_of birth rows) row.0 && same_birth (name_of (names_of birth rows) row.0) (birth row.1)

  pub rows_own : are_apart (names_of birth rows) ≡ true → every is_own rows ≡ true
  rows_own apart =
      let names = names_of birth rows in
      let here = sym (every-map (λ (n : Key × Birth). stands names n.0) (λ (row : Key × R). (row.0, birth row.1)) rows) ∙ own_stands names in
      let named = sym (every-map (λ (n : Key × Birth). same_birth (name_of names n.0) n.1) (λ (row : Key × R). (row.0, birth row.1)) rows) ∙ own names apart in
      every-both (λ row. stands names row.0) (λ row. same_birth (name_of names row.0) (birth row.1)) is_own (λ row a b. grind arith) rows here named

  pub own_birth : (row : Key × R) → is_own row ≡ true → name_of (names_of birth rows) row.0 ≡ birth row.1
  own_birth row ok = birth-same _ _ (grind arith)

module _ (it : Tables) (is : AreNamed (births_of it) it) where
  abbrev n : Births
  n = births_of it

  abbrev f : Object → Birth
  f = birth_of n

  pub agree : (a b : Key) → stands n.ports a ≡ true → stands n.ports b ≡ true → same_birth (name_of n.ports a) (name_of n.ports b) ≡ is_key a b
  agree a b one two = agrees n.ports a b is.ports_apart one two

  pub agree_section : (a b : Key) → stands n.sections a ≡ true → stands n.sections b ≡ true → same_birth (name_of n.sections a) (name_of n.sections b) ≡ is_key a b
  agree_section a b one two = agrees n.sections a b is.sections_apart one two

  abbrev pub own_section : Key × SectionRow → Bool
  own_section = is_own (λ (s : SectionRow). s.birth) (listed it.sections)

  pub own_sections : every own_section (listed it.sections) ≡ true
  own_sections = rows_own (λ (s : SectionRow). s.birth) (listed it.sections) is.sections_apart

  -- the tests of sections agree
  pub section_same : (key : Key) → stands n.sections key ≡ true → (row : Key × SectionRow) → own_section row ≡ true → is_section (name_of n.sections key) (shown_section row) ≡ at_key key row
  section_same key there row ok =
      ap (λ b. same_birth b (name_of n.sections key)) (sym (own_birth (λ (s : SectionRow). s.birth) (listed it.sections) row ok)) ∙ agree_section row.0 key (grind arith) there

  pub content_same : (key : Key) → stands n.sections key ≡ true → (row : Key × SectionRow) → own_section row ≡ true → is_content (name_of n.sections key) (shown_content row) ≡ at_key key row
  content_same key there row ok = section_same key there row ok

  pub first_section : (key : Key) → stands n.sections key ≡ true → first (is_section (name_of n.sections key)) (map shown_section (listed it.sections)) ≡ option_map shown_section (first (at_key key) (listed it.sections))
  first_section key there = first-map shown_section own_section (at_key key) (is_section (name_of n.sections key)) (section_same key there) (listed it.sections) own_sections

  pub first_content : (key : Key) → stands n.sections key ≡ true → first (is_content (name_of n.sections key)) (map shown_content (listed it.sections)) ≡ option_map shown_content (first (at_key key) (listed it.sections))
  first_content key there = first-map shown_content own_section (at_key key) (is_content (name_of n.sections key)) (content_same key there) (listed it.sections) own_sections

  -- and of tokens
  pub agree_token : (a b : Key) → stands n.tokens a ≡ true → stands n.tokens b ≡ true → same_birth (name_of n.tokens a) (name_of n.tokens b) ≡ is_key a b
  agree_token a b one two = agrees n.tokens a b is.tokens_apart one two

  abbrev pub own_token : Key × TokenRow → Bool
  own_token = is_own (λ (t : TokenRow). t.birth) (listed it.tokens)

  pub own_tokens : every own_token (listed it.tokens) ≡ true
  own_tokens = rows_own (λ (t : TokenRow). t.birth) (listed it.tokens) is.tokens_apart

  pub token_same : (key : Key) → stands n.tokens key ≡ true → (row : Key × TokenRow) → own_token row ≡ true → is_token (name_of n.tokens key) (shown_token row) ≡ at_key key row
  token_same key there row ok =
      ap (λ b. same_birth b (name_of n.tokens key)) (sym (own_birth (λ (t : TokenRow). t.birth) (listed it.tokens) row ok)) ∙ agree_token row.0 key (grind arith) there

  pub first_token : (key : Key) → stands n.tokens key ≡ true → first (is_token (name_of n.tokens key)) (map shown_token (listed it.tokens)) ≡ option_map shown_token (first (at_key key) (listed it.tokens))
  first_token key there = first-map shown_token own_token (at_key key) (is_token (name_of n.tokens key)) (token_same key there) (listed it.tokens) own_tokens

  abbrev own_port : Key × Port → Bool
  own_port = is_own (λ (r : Port). r.birth) it.ports.ports

  pub own_ports : every own_port it.ports.ports ≡ true
  own_ports = rows_own (λ (r : Port). r.birth) it.ports.ports is.ports_apart

  -- the tests of rows agree
  pub port_same : (key : Key) → stands n.ports key ≡ true → (row : Key × Port) → own_port row ≡ true → is_port (name_of n.ports key) (shown_port f row) ≡ at_key key row
  port_same key there row ok =
      ap (λ b. same_birth b (name_of n.ports key)) (sym (own_birth (λ (r : Port). r.birth) it.ports.ports row ok)) ∙ agree row.0 key (grind arith) there

  pub queue_same : (key : Key) → stands n.ports key ≡ true → (row : Key × QueuedMessage) → all_pass message_refs (object_stands n) row ≡ true → is_queued (name_of n.ports key) (shown_message f row) ≡ ports.is_in key row
  queue_same key there row ok = agree row.1.queue key (grind arith) there

  kind_same : (kind : WaitKind) (bytes : List ℕ) (offer : Option model.Offer) (accepted : Option Accepted) (connects b : Bool)
      → ((elim (shown_kind kind bytes offer accepted) [ model.Receive ↦ true | _ ↦ false ]) || ((elim (shown_kind kind bytes offer accepted) [ model.Listen ↦ true | _ ↦ false ]) && connects)) && b ≡ waits.takes connects kind && b
  kind_same wait.Request bytes offer accepted true b = refl
  kind_same wait.Request bytes offer accepted false b = refl
  kind_same wait.Receive bytes offer accepted connects b = refl
  kind_same wait.Listen bytes offer accepted true b = refl
  kind_same wait.Listen bytes offer accepted false b = refl
  kind_same wait.Connect bytes offer None true b = refl
  kind_same wait.Connect bytes offer None false b = refl
  kind_same wait.Connect bytes offer (Some accepted) true b = refl
  kind_same wait.Connect bytes offer (Some accepted) false b = refl
  kind_same (wait.Event r) bytes offer accepted true b = refl
  kind_same (wait.Event r) bytes offer accepted false b = refl

  pub taker_same : (key : Key) (connects : Bool) → stands n.ports key ≡ true → (row : WaitingThread) → all_pass wait_refs (object_stands n) row ≡ true → takes_from (name_of n.ports key) connects (shown_wait f row) ≡ waits.is_taker_on key connects row
  taker_same key connects there row ok = rw (agree row.wait.queue key (grind arith) there) (kind_same row.wait.kind row.message.items (option_map (shown_offer f) row.offer) row.accepted connects (is_key row.wait.queue key))

  -- what is found
  pub first_port : (key : Key) → stands n.ports key ≡ true → first (is_port (name_of n.ports key)) (map (shown_port f) it.ports.ports) ≡ option_map (shown_port f) (first (at_key key) it.ports.ports)
  first_port key there = first-map (shown_port f) own_port (at_key key) (is_port (name_of n.ports key)) (port_same key there) it.ports.ports own_ports

  pub first_queued : (key : Key) → stands n.ports key ≡ true → first (is_queued (name_of n.ports key)) (map (shown_message f) it.ports.messages) ≡ option_map (shown_message f) (first (ports.is_in key) it.ports.messages)
  first_queued key there = first-map (shown_message f) (all_pass message_refs (object_stands n)) (ports.is_in key) (is_queued (name_of n.ports key)) (queue_same key there) it.ports.messages is.refs.in_messages

  pub first_taker : (key : Key) (connects : Bool) → stands n.ports key ≡ true → first (takes_from (name_of n.ports key) connects) (map (shown_wait f) it.waits.rows) ≡ option_map (shown_wait f) (first (waits.is_taker_on key connects) it.waits.rows)
  first_taker key connects there = first-map (shown_wait f) (all_pass wait_refs (object_stands n)) (waits.is_taker_on key connects) (takes_from (name_of n.ports key) connects) (taker_same key connects there) it.waits.rows is.refs.in_waits
