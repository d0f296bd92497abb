-- Where as many tokens, or sections, are held as stand, each one is.
use Rattle.std.proofs.Common.{◌≡◌, ◌+◌, ℕ, List, [], ◌∷◌, Bool, true, false, length, map, not, refl, ap, sym, subst, ◌∙◌, arith}
use Rattle.std.specs.Prelude.{◌==◌, ◌||◌, Option, None, Some, IfSome}
use Rattle.std.specs.Option.{option_eq}
use Rattle.std.proofs.lemmas.Bool.{eqb-true}
use Rattle.std.proofs.lemmas.Bool.Decides.{nat_tests}
use Rattle.std.proofs.lemmas.List.{length-map}
use Rattle.lpc_base.specs.declared.birth.Birth.{Birth}
use Rattle.lpc_base.specs.Rows.{every, has}
use Rattle.lpc_base.proofs.RowMaps.{every-both, every-map}
use Rattle.lpc_handles.specs.declared.table.Row.{Row}
use Rattle.lpc_homes.specs.Held.{AreSoMany, is_held_section, is_held_token}
use Rattle.lpc_homes.specs.Parts.{all_views, has_name_of, has_view_of, is_object, names_it}
use Rattle.lpc_homes.specs.declared.object.Object.{Object}
use Rattle.lpc_homes.specs.declared.object.Object.TheVariants as object
use Rattle.lpc_homes.specs.declared.parts.Part.{Part}
use Rattle.lpc_homes.proofs.Many.{all_pass as each_passes}
use Rattle.lpc_model.specs.Found.{handle_count, holders, section_name, token_name}
use Rattle.lpc_model.specs.Linked.{HasHeldSections, HasHeldTokens}
use Rattle.lpc_model.specs.Sweep.{is_unheld}
use Rattle.lpc_model.specs.World.{ObjectName, World}
use Rattle.lpc_rows.specs.Held.{has_handles, has_holders}
use Rattle.lpc_rows.specs.Kept.{rows_by}
use Rattle.lpc_rows.specs.Names.{name_of, names_of, stands}
use Rattle.lpc_rows.specs.Shown.{AreNamed, Births, Tables, all_pass, births_of, object_stands, part_refs, shown_section, shown_token, view_refs}
use Rattle.lpc_rows.proofs.Counted.{handles_named, section_held}
use Rattle.lpc_model.proofs.Steps.Handles.{has-each}
use Rattle.lpc_rows.proofs.ShownViews.{views_stand}
use Rattle.lpc_rows.proofs.Follows.{is_own, own_birth, own_sections, own_tokens}
use Rattle.lpc_sections.specs.Sections.{SectionRow}
use Rattle.lpc_slots.specs.Table.{is_key, keys_of, listed}
use Rattle.lpc_slots.specs.declared.Key.{Key}
use Rattle.lpc_slots.proofs.Keys.{key_is, key_turned}
use Rattle.lpc_tokens.specs.declared.token_row.TokenRow.{TokenRow}
use Rattle.lpc_views.specs.Views.{shows}
use Rattle.lpc_views.specs.declared.view.View.{View}
use Rattle.lpc_waits.specs.Table as waits

-- Keys
-- what stands is among the keys
among-keys : {R : Type 0} (birth : R → Birth) (rows : List (Key × R)) (key : Key) → stands (names_of birth rows) key ≡ true → has (is_key key) (keys_of rows) ≡ true
unfolding stands
among-keys birth [] key there = absurd (cc)
among-keys birth (row ∷ rows) key there = grind (arith, key_turned key row.0, among-keys birth rows key)

-- what each of the keys passes
each-key : (p : Key → Bool) (keys : List Key) → ((key : Key) → has (is_key key) keys ≡ true → p key ≡ true) → every p keys ≡ true
each-key p [] passes = refl
each-key p (key ∷ keys) passes =
    let self : is_key key key ≡ true = own key in
    let here : p key ≡ true = passes key (grind (arith, self)) in
    let rest : every p keys ≡ true = each-key p keys (λ k there. passes k (grind (arith, there))) in
    grind (arith, here, rest)
  where
    own : (k : Key) → is_key k k ≡ true
    own k = grind arith

-- Objects that rows name
module _ (ok : Object → Bool) (o : Object) (same : (other : Object) → is_object o other ≡ true → ok other ≡ true → ok o ≡ true) where
  row-names : (rows : List (ℕ × Row Object)) → every ok (map (λ row. row.1.object) rows) ≡ true → has (names_it o) rows ≡ true → ok o ≡ true
  row-names [] all named = absurd (cc)
  row-names (row ∷ rows) all named = grind (arith, same row.1.object, row-names rows)

  handle-names : (parts : List Part) → every (all_pass part_refs ok) parts ≡ true → has (has_name_of o) parts ≡ true → ok o ≡ true
  handle-names [] all named = absurd (cc)
  handle-names (part ∷ parts) all named = grind (arith, row-names part.handles.rows, handle-names parts)

same-key : (n : Births) (key : Key) (other : Object) → is_object (object.Token key) other ≡ true → object_stands n other ≡ true → stands n.tokens key ≡ true
same-key n key (object.Port k) is there = absurd (cc)
same-key n key (object.Process b) is there = absurd (cc)
same-key n key (object.Thread b) is there = absurd (cc)
same-key n key (object.Section k) is there = absurd (cc)
same-key n key (object.Token k) is there = subst (λ j. stands n.tokens j ≡ true) (key_is k key is) there

same-section : (n : Births) (key : Key) (other : Object) → is_object (object.Section key) other ≡ true → object_stands n other ≡ true → stands n.sections key ≡ true
same-section n key (object.Port k) is there = absurd (cc)
same-section n key (object.Process b) is there = absurd (cc)
same-section n key (object.Thread b) is there = absurd (cc)
same-section n key (object.Section k) is there = subst (λ j. stands n.sections j ≡ true) (key_is k key is) there
same-section n key (object.Token k) is there = absurd (cc)

module _ (n : Births) (key : Key) where
  shown-stands : (view : View Key) → shows key view ≡ true → stands n.sections view.section ≡ true → stands n.sections key ≡ true
  shown-stands view is there = subst (λ j. stands n.sections j ≡ true) (key_is view.section key is) there

  view-shows : (views : List (View Key)) → every (all_pass view_refs (object_stands n)) views ≡ true → has (shows key) views ≡ true → stands n.sections key ≡ true
  view-shows [] all shown = absurd (cc)
  view-shows (view ∷ views) all shown = grind (arith, shown-stands view, view-shows views)

-- an object is held that has a handle, or that another row counts for
handle-holds : (w : World) (o : ObjectName) → has_handles w o ≡ true → not (is_unheld w o) ≡ true
handle-holds w o some = parts (handle_count w o) (holders w o.kind o.birth) some
  where
    parts : (a b : ℕ) → not (a == 0) ≡ true → not ((a + b) == 0) ≡ true
    parts a b is = grind (arith, nat_tests)

holder-holds : (w : World) (o : ObjectName) → has_holders w o ≡ true → not (is_unheld w o) ≡ true
holder-holds w o some = parts (handle_count w o) (holders w o.kind o.birth) some
  where
    parts : (a b : ℕ) → not (b == 0) ≡ true → not ((a + b) == 0) ≡ true
    parts a b is = grind (arith, nat_tests)

-- The tables
module _ (it : Tables) (is : AreNamed (births_of it) it) where
  abbrev n : Births
  n = births_of it

  abbrev w : World
  w = rows_by it

  abbrev token_keys : List Key
  token_keys = keys_of (listed it.tokens)

  abbrev section_keys : List Key
  section_keys = keys_of (listed it.sections)

  -- a token that a handle names stands, and so does a section that a handle names or a view shows
  token-known : (key : Key) → is_held_token it.parts key ≡ true → has (is_key key) token_keys ≡ true
  token-known key held =
      among-keys (λ (t : TokenRow). t.birth) (listed it.tokens) key (handle-names (object_stands n) (object.Token key) (same-key n key) it.parts is.refs.in_handles held)

  section-known : (key : Key) → is_held_section it.parts key ≡ true → has (is_key key) section_keys ≡ true
  section-known key held = among-keys (λ (s : SectionRow). s.birth) (listed it.sections) key (by (has (has_name_of (object.Section key)) it.parts) refl)
    where
      by : (b : Bool) → has (has_name_of (object.Section key)) it.parts ≡ b → stands n.sections key ≡ true
      by true named = handle-names (object_stands n) (object.Section key) (same-section n key) it.parts is.refs.in_handles named
      by false unnamed =
          let shown : has (has_view_of key) it.parts ≡ true = grind (arith, held, unnamed) in
          view-shows n key (all_views it.parts) (views_stand (object_stands n) it.parts is.refs.in_views) (has-each (shows key) (λ (part : Part). part.views.views) it.parts ∙ shown)

  -- the row of a key that is held
  token-held : (row : Key × TokenRow) → is_own (λ (t : TokenRow). t.birth) (listed it.tokens) row ≡ true → is_held_token it.parts row.0 ≡ true → not (is_unheld w (token_name row.1.birth)) ≡ true
  token-held row own held =
      let there : stands n.tokens row.0 ≡ true = grind (arith, own) in
      let some = handles_named it is (object.Token row.0) there ∙ held in
      subst (λ b. not (is_unheld w (token_name b)) ≡ true) (own_birth (λ (t : TokenRow). t.birth) (listed it.tokens) row own) (handle-holds w (token_name (name_of n.tokens row.0)) some)

  section-held : (row : Key × SectionRow) → is_own (λ (s : SectionRow). s.birth) (listed it.sections) row ≡ true → is_held_section it.parts row.0 ≡ true → not (is_unheld w (section_name row.1.birth)) ≡ true
  section-held row own held =
      subst (λ b. not (is_unheld w (section_name b)) ≡ true) (own_birth (λ (s : SectionRow). s.birth) (listed it.sections) row own) (by (has (has_name_of (object.Section row.0)) it.parts) refl)
    where
      there : stands n.sections row.0 ≡ true
      there = grind (arith, own)

      by : (b : Bool) → has (has_name_of (object.Section row.0)) it.parts ≡ b → not (is_unheld w (section_name (name_of n.sections row.0))) ≡ true
      by true named = handle-holds w (section_name (name_of n.sections row.0)) (handles_named it is (object.Section row.0) there ∙ named)
      by false unnamed =
          let shown : has (has_view_of row.0) it.parts ≡ true = grind (arith, held, unnamed) in
          holder-holds w (section_name (name_of n.sections row.0)) (section_held it is row.0 there ∙ ap (λ b. b || has (waits.is_offering row.0) it.waits.rows) shown)

  pub tokens_held : (r : Option ℕ) (number : ℕ) → option_eq (λ a b. a == b) r (Some number) ≡ true → number ≡ length (listed it.tokens) → IfSome r (AreSoMany (is_held_token it.parts)) → HasHeldTokens w
  tokens_held None number same long many = absurd (cc)
  tokens_held (Some m) number same long many =
      let as_many : m ≡ length token_keys = eqb-true m number same ∙ long ∙ sym (length-map (listed it.tokens) (λ row. row.0)) in
      let each = each-key (is_held_token it.parts) token_keys (each_passes (is_held_token it.parts) m token_keys many as_many token-known) in
      let rows = sym (every-map (is_held_token it.parts) (λ (row : Key × TokenRow). row.0) (listed it.tokens)) ∙ each in
      every-map (λ t. not (is_unheld w (token_name t.birth))) shown_token (listed it.tokens)
      ∙ every-both (is_own (λ (t : TokenRow). t.birth) (listed it.tokens)) (λ row. is_held_token it.parts row.0) (λ row. not (is_unheld w (token_name row.1.birth))) token-held (listed it.tokens) (own_tokens it is) rows

  pub sections_held : (r : Option ℕ) (number : ℕ) → option_eq (λ a b. a == b) r (Some number) ≡ true → number ≡ length (listed it.sections) → IfSome r (AreSoMany (is_held_section it.parts)) → HasHeldSections w
  sections_held None number same long many = absurd (cc)
  sections_held (Some m) number same long many =
      let as_many : m ≡ length section_keys = eqb-true m number same ∙ long ∙ sym (length-map (listed it.sections) (λ row. row.0)) in
      let each = each-key (is_held_section it.parts) section_keys (each_passes (is_held_section it.parts) m section_keys many as_many section-known) in
      let rows = sym (every-map (is_held_section it.parts) (λ (row : Key × SectionRow). row.0) (listed it.sections)) ∙ each in
      every-map (λ s. not (is_unheld w (section_name s.birth))) shown_section (listed it.sections)
      ∙ every-both (is_own (λ (s : SectionRow). s.birth) (listed it.sections)) (λ row. is_held_section it.parts row.0) (λ row. not (is_unheld w (section_name row.1.birth))) section-held (listed it.sections) (own_sections it is) rows
