-- The views of all processes, as the definitions have them: what the rows name stands, and the ports that own views agree.
use Rattle.std.proofs.Common.{◌≡◌, List, [], ◌∷◌, ◌++◌, Bool, true, map, Option, Some, None, refl, ap, sym, ◌∙◌, arith}
use Rattle.std.proofs.lemmas.List.{map-append}
use Rattle.lpc_base.specs.declared.birth.Birth.{Birth}
use Rattle.lpc_base.specs.Rows.{count, each, every, has}
use Rattle.lpc_base.proofs.RowMaps.{count-map, has-map}
use Rattle.lpc_base.proofs.RowWords.{every-append, every-back, every-front}
use Rattle.lpc_homes.specs.Parts.{all_views, goes_with, has_view_with}
use Rattle.lpc_homes.specs.declared.object.Object.{Object}
use Rattle.lpc_homes.specs.declared.parts.Part.{Part}
use Rattle.lpc_model.specs.Found as found
use Rattle.lpc_model.proofs.Steps.Handles.{has-each}
use Rattle.lpc_slots.specs.declared.Key.{Key}
use Rattle.lpc_slots.proofs.Keys.{key_turned}
use Rattle.lpc_views.specs.declared.view.View.{View}
use Rattle.lpc_rows.specs.Kept.{rows_by}
use Rattle.lpc_rows.specs.Names.{name_of, stands}
use Rattle.lpc_rows.specs.Shown.{AreNamed, Births, Tables, all_pass, birth_of, births_of, object_stands, ports_in, shown_space, shown_view, space_refs, view_refs}
use Rattle.lpc_rows.proofs.Follows as follows

module _ (f : Object → Birth) where
  pub views_shown : (parts : List Part) → each (λ t. t.rows) (map (shown_space f) parts) ≡ map (shown_view f) (all_views parts)
  views_shown [] = refl
  views_shown (part ∷ parts) =
      ap (λ vs. map (shown_view f) part.views.views ++ vs) (views_shown parts) ∙ sym (map-append (shown_view f) part.views.views (all_views parts))

module _ (ok : Object → Bool) where
  pub each_stands : (vs : List (View Key)) → every ok (each view_refs vs) ≡ true → every (all_pass view_refs ok) vs ≡ true
  each_stands [] all = refl
  each_stands (v ∷ vs) all = rw (every-front ok (view_refs v) (each view_refs vs) all, each_stands vs (every-back ok (view_refs v) (each view_refs vs) all)) refl

  pub views_stand : (parts : List Part) → every (all_pass space_refs ok) parts ≡ true → every (all_pass view_refs ok) (all_views parts) ≡ true
  views_stand [] all = refl
  views_stand (part ∷ parts) all =
      every-append (all_pass view_refs ok) part.views.views (all_views parts) (each_stands part.views.views (grind arith)) (views_stand parts (grind arith))

-- Views that go with a port
module _ (it : Tables) (is : AreNamed (births_of it) it) (key : Key) (there : stands (births_of it).ports key ≡ true) where
  abbrev n : Births
  n = births_of it

  abbrev g : Object → Birth
  g = birth_of n

  abbrev ok : Object → Bool
  ok = object_stands n

  abbrev b : Birth
  b = name_of n.ports key

  pub owned_same : (v : View Key) → all_pass view_refs ok v ≡ true → found.is_owned_by b (shown_view g v) ≡ goes_with key v
  owned_same v all = by v.owner (grind arith)
    where
      by : (o : Option Key) → every ok (ports_in o) ≡ true → let w : View Key = record v { owner = o } in found.is_owned_by b (shown_view g w) ≡ goes_with key w
      by None all = refl
      by (Some other) all = follows.agree it is key other there (grind arith) ∙ key_turned key other

  pub owned_counted : count (found.is_owned_by b) (found.all_views (rows_by it)) ≡ count (goes_with key) (all_views it.parts)
  owned_counted =
      ap (count (found.is_owned_by b)) (views_shown g it.parts)
      ∙ count-map (shown_view g) (all_pass view_refs ok) (goes_with key) (found.is_owned_by b) owned_same (all_views it.parts) (views_stand ok it.parts is.refs.in_views)

  pub owned_has : has (found.is_owned_by b) (found.all_views (rows_by it)) ≡ has (has_view_with key) it.parts
  owned_has =
      ap (has (found.is_owned_by b)) (views_shown g it.parts)
      ∙ has-map (shown_view g) (all_pass view_refs ok) (goes_with key) (found.is_owned_by b) owned_same (all_views it.parts) (views_stand ok it.parts is.refs.in_views)
      ∙ has-each (goes_with key) (λ part. part.views.views) it.parts
