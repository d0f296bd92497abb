-- The laws of the name space.
use Rattle.std.proofs.Common.{◌≡◌, ◌∙◌, refl, sym, ap, subst, ℕ, zero, suc, Bool, true, false, cond, List, [], ◌∷◌, ◌++◌, append_assoc, nat_eq, Option, None, Some, Result, Ok, Err, arith}
use Rattle.std.specs.Cmp.Lexicographic.{pointwise}
use Rattle.lpc_names.specs.declared.fault.NameFault.{NameFault}
use Rattle.lpc_names.specs.declared.fault.NameFault.TheVariants.{NameInvalid}
use Rattle.lpc_names.specs.declared.names.Found.TheVariants.{Directory, Item}
use Rattle.lpc_names.specs.Path.{Path, same_path, spelled}
use Rattle.lpc_names.specs.Walk.{Bindings, Found, Node, Stands, LinkTo, Place, Way, Ends, Turns, node_at, at_end, turned, past, way, onwards, walk_by, walk_if, walk, lookup, found_at, free_at, there, unless_taken, free_path}
use Rattle.lpc_names.specs.Binding.{bound, with_node, is_name, has_name}
use Rattle.lpc_names.proofs.Walks.{text-free, turns}

nat-same : (n : ℕ) → nat_eq n n ≡ true
nat-same n = grind arith

name-same : (name : List ℕ) → pointwise nat_eq name name ≡ true
name-same [] = refl
name-same (b ∷ bs) = rw (nat-same b) (name-same bs)

path-same : (path : Path) → same_path path path ≡ true
path-same [] = refl
path-same (name ∷ names) = rw (name-same name) (path-same names)

module _ {T : Type 0} where
  -- what is bound once a node came last
  abbrev or_node : Option (Node T) → Option (Node T) → Option (Node T)
  or_node None later = later
  or_node (Some node) later = Some node

  node-push : (bindings : Bindings T) (place path : Path) (node : Node T) → node_at (bindings ++ (place, node) ∷ []) path ≡ or_node (node_at bindings path) (cond (same_path path place) (Some node) None)
  node-push [] place path node = refl
  node-push (b ∷ bs) place path node = by (node-push bs place path node) (same_path path b.0)
    where
      by : node_at (bs ++ (place, node) ∷ []) path ≡ or_node (node_at bs path) (cond (same_path path place) (Some node) None) → (t : Bool)
          → cond t (Some b.1) (node_at (bs ++ (place, node) ∷ []) path) ≡ or_node (cond t (Some b.1) (node_at bs path)) (cond (same_path path place) (Some node) None)
      by more true = refl
      by more false = more

  node-here : (bindings : Bindings T) (place : Path) (node : Node T) → node_at bindings place ≡ None → node_at (bindings ++ (place, node) ∷ []) place ≡ Some node
  node-here bindings place node none = node-push bindings place place node ∙ rw (none, path-same place) refl

  node-kept : (bindings : Bindings T) (place path : Path) (node other : Node T) → node_at bindings path ≡ Some other → node_at (bindings ++ (place, node) ∷ []) path ≡ Some other
  node-kept bindings place path node other h = node-push bindings place path node ∙ rw h refl

  or-none : (o : Option (Node T)) → or_node o None ≡ o
  or-none None = refl
  or-none (Some node) = refl

  node-elsewhere : (bindings : Bindings T) (place path : Path) (node : Node T) → same_path path place ≡ false → node_at (bindings ++ (place, node) ∷ []) path ≡ node_at bindings path
  node-elsewhere bindings place path node apart = node-push bindings place path node ∙ rw apart (or-none (node_at bindings path))

  -- facts on the ends of a way
  no-turn : (found : Option (Found T)) (rest other : Path) → at_end found rest ≡ Ok (Turns other) → ⊥
  no-turn found [] other h = cc
  no-turn found (name ∷ rest) other h = cc

  no-end : (path : Path) (found : Option (Found T)) (t : Bool) → ◌≡◌ {A = Result (Way T) NameFault} (cond t (Err NameInvalid) (Ok (Turns path))) (Ok (Ends found)) → ⊥
  no-end path found true h = cc
  no-end path found false h = cc

  ends-here : (found other : Option (Found T)) (rest : Path) → at_end found rest ≡ Ok (Ends other) → (found ≡ other) × (rest ≡ [])
  ends-here found other [] h = (cc, refl)
  ends-here found other (name ∷ rest) h = absurd (cc)

  module _ (bindings : Bindings T) (place : Path) (node : Node T) where
    -- a binding leaves each way to a link
    way-turns : (front rest other : Path) → way bindings front rest ≡ Ok (Turns other) → way (bindings ++ (place, node) ∷ []) front rest ≡ Ok (Turns other)
    way-turns front [] other h = absurd (cc)
    way-turns front (name ∷ rest) other h = by (way-turns (front ++ name ∷ []) rest other) (node_at bindings (front ++ name ∷ [])) refl h
      where
        by : (way bindings (front ++ name ∷ []) rest ≡ Ok (Turns other) → way (bindings ++ (place, node) ∷ []) (front ++ name ∷ []) rest ≡ Ok (Turns other)) → (o : Option (Node T)) → node_at bindings (front ++ name ∷ []) ≡ o
            → past o (way bindings (front ++ name ∷ []) rest) rest ≡ Ok (Turns other)
            → past (node_at (bindings ++ (place, node) ∷ []) (front ++ name ∷ [])) (way (bindings ++ (place, node) ∷ []) (front ++ name ∷ []) rest) rest ≡ Ok (Turns other)
        by more None e h = absurd (no-turn None rest other h)
        by more (Some (LinkTo target)) e h = rw (node-kept bindings place (front ++ name ∷ []) node (LinkTo target) e) h
        by more (Some (Stands Directory)) e h = rw (node-kept bindings place (front ++ name ∷ []) node (Stands Directory) e) (more h)
        by more (Some (Stands (Item item))) e h = absurd (no-turn (Some (Item item)) rest other h)

  -- what stands at the end of a path that has just been bound
  past-found : (found : Found T) (further : Result (Way T) NameFault) → further ≡ Ok (Ends (Some Directory)) → past (Some (Stands found)) further [] ≡ Ok (Ends (Some found))
  past-found Directory further h = h
  past-found (Item item) further h = refl

  module _ (bindings : Bindings T) (place : Path) (found : Found T) where
    -- the way to a path where nothing stood leads to what was bound there
    way-found : (front rest : Path) → front ++ rest ≡ place → way bindings front rest ≡ Ok (Ends None) → node_at bindings place ≡ None → way (bindings ++ (place, Stands found) ∷ []) front rest ≡ Ok (Ends (Some found))
    way-found front [] is h none = absurd (cc)
    way-found front (name ∷ rest) is h none = by (way-found (front ++ name ∷ []) rest) (node_at bindings (front ++ name ∷ [])) refl h
      where
        by : ((front ++ name ∷ []) ++ rest ≡ place → way bindings (front ++ name ∷ []) rest ≡ Ok (Ends None) → node_at bindings place ≡ None → way (bindings ++ (place, Stands found) ∷ []) (front ++ name ∷ []) rest ≡ Ok (Ends (Some found)))
            → (o : Option (Node T)) → node_at bindings (front ++ name ∷ []) ≡ o → past o (way bindings (front ++ name ∷ []) rest) rest ≡ Ok (Ends None)
            → past (node_at (bindings ++ (place, Stands found) ∷ []) (front ++ name ∷ [])) (way (bindings ++ (place, Stands found) ∷ []) (front ++ name ∷ []) rest) rest ≡ Ok (Ends (Some found))
        by more None e h = here rest is ((ends-here None None rest h).1)
          where
            here : (rest : Path) → front ++ name ∷ rest ≡ place → rest ≡ [] → past (node_at (bindings ++ (place, Stands found) ∷ []) (front ++ name ∷ [])) (way (bindings ++ (place, Stands found) ∷ []) (front ++ name ∷ []) rest) rest ≡ Ok (Ends (Some found))
            here [] is e = rw (is, node-here bindings place (Stands found) none) (past-found found _ refl)
            here (next ∷ rest) is e = absurd (cc)
        by more (Some (LinkTo target)) e h = absurd (no-end (target ++ rest) None _ h)
        by more (Some (Stands Directory)) e h = rw (node-kept bindings place (front ++ name ∷ []) (Stands found) (Stands Directory) e) (more (append_assoc front (name ∷ []) rest ∙ is) h none)
        by more (Some (Stands (Item item))) e h = absurd (cc ((ends-here (Some (Item item)) None rest h).0))

  -- the place where nothing stood, with what was bound there
  abbrev with_found : Path → Found T → Place T
  with_found path found = record { path = path; found = Some found }

  module _ (bindings : Bindings T) (place : Place T) (found : Found T) (none : place.found ≡ None) (free : node_at bindings place.path ≡ None) where
    found-onwards : (path : Path) (further more : Path → Result (Place T) NameFault) → ((other : Path) → further other ≡ Ok place → more other ≡ Ok (with_found place.path found)) → (w : Result (Way T) NameFault) → way bindings [] path ≡ w → onwards path further w ≡ Ok place
        → onwards path more (way (bindings ++ (place.path, Stands found) ∷ []) [] path) ≡ Ok (with_found place.path found)
    found-onwards path further more on (Err fault) e h = absurd (cc)
    found-onwards path further more on (Ok (Ends other)) e h =
        let same : path ≡ place.path = cc in
        let is : other ≡ None = cc in
        rw (way-found bindings place.path found [] path same (e ∙ ap (λ f. Ok (Ends f)) is) free) (ap (λ p. Ok (with_found p found)) same)
    found-onwards path further more on (Ok (Turns other)) e h = rw (way-turns bindings place.path (Stands found) [] path other e) (on other h)

    walk-found : (left : ℕ) (path : Path) → walk_by left bindings path ≡ Ok place → walk_by left (bindings ++ (place.path, Stands found) ∷ []) path ≡ Ok (with_found place.path found)
    unfolding walk_by
    walk-found zero path h = found-onwards path (λ other. Err NameInvalid) (λ other. Err NameInvalid) (λ other e. absurd (cc)) (way bindings [] path) refl h
    walk-found (suc left) path h = found-onwards path (walk_by left bindings) (walk_by left (bindings ++ (place.path, Stands found) ∷ [])) (walk-found left) (way bindings [] path) refl h

  -- a free path is the end of a walk where nothing was found
  free-is : (w : Result (Place T) NameFault) (path : Path) → free_at w ≡ Ok path → (place : Place T) × (w ≡ Ok place) × (place.found ≡ None) × (place.path ≡ path)
  free-is (Err fault) path h = absurd (cc)
  free-is (Ok place) path h = by place.found refl h
    where
      by : (o : Option (Found T)) → place.found ≡ o → unless_taken place.path o ≡ Ok path → (end : Place T) × (◌≡◌ {A = Result (Place T) NameFault} (Ok place) (Ok end)) × (end.found ≡ None) × (end.path ≡ path)
      by None e h = (place, refl, e, cc)
      by (Some found) e h = absurd (cc)

  found-is : (w : Result (Place T) NameFault) (found : Found T) → found_at w ≡ Ok found → (place : Place T) × (w ≡ Ok place) × (place.found ≡ Some found)
  found-is (Err fault) found h = absurd (cc)
  found-is (Ok place) found h = by place.found refl h
    where
      by : (o : Option (Found T)) → place.found ≡ o → there o ≡ Ok found → (end : Place T) × (◌≡◌ {A = Result (Place T) NameFault} (Ok place) (Ok end)) × (end.found ≡ Some found)
      by None e h = absurd (cc)
      by (Some other) e h = (place, refl, e ∙ cc h)

  read-found : (bindings : Bindings T) (read : Result Path NameFault) (place : Place T) (found : Found T) → place.found ≡ None → node_at bindings place.path ≡ None → walk_if bindings read ≡ Ok place → walk_if (bindings ++ (place.path, Stands found) ∷ []) read ≡ Ok (with_found place.path found)
  read-found bindings (Err fault) place found none free h = absurd (cc)
  read-found bindings (Ok path) place found none free h = walk-found bindings place found none free 32 path h

  text-found : (bindings : Bindings T) (text : List ℕ) (place : Place T) (found : Found T) → place.found ≡ None → node_at bindings place.path ≡ None → walk bindings text ≡ Ok place → walk (bindings ++ (place.path, Stands found) ∷ []) text ≡ Ok (with_found place.path found)
  unfolding walk
  text-found bindings text place found none free h = read-found bindings (spelled text) place found none free h

  pub bound-is-found : (bindings after : Bindings T) (text : List ℕ) (found : Found T) → bound bindings text (Stands found) ≡ Ok after → lookup after text ≡ Ok found
  bound-is-found bindings after text found h = by (free_path bindings text) refl h
    where
      by : (f : Result Path NameFault) → free_path bindings text ≡ f → with_node bindings (Stands found) f ≡ Ok after → lookup after text ≡ Ok found
      by (Err fault) e h = absurd (cc)
      by (Ok path) e h =
          let s = free-is (walk bindings text) path e in
          let free : node_at bindings s.0.path ≡ None = (text-free bindings text s.0 s.1 s.2).0 in
          let is : bindings ++ (s.0.path, Stands found) ∷ [] ≡ after = ap (λ p. bindings ++ (p, Stands found) ∷ []) s.3 ∙ cc h in
          subst (λ bs. lookup bs text ≡ Ok found) is (ap found_at (text-found bindings text s.0 found s.2 free s.1))

  pub binding-changes-one-path : (bindings after : Bindings T) (text : List ℕ) (place : Path) (node : Node T) → free_path bindings text ≡ Ok place → bound bindings text node ≡ Ok after
      → (node_at after place ≡ Some node) × ((path : Path) → same_path path place ≡ false → node_at after path ≡ node_at bindings path)
  binding-changes-one-path bindings after text place node e h =
      let s = free-is (walk bindings text) place e in
      let free : node_at bindings place ≡ None = subst (λ p. node_at bindings p ≡ None) s.3 ((text-free bindings text s.0 s.1 s.2).0) in
      let made : ◌≡◌ {A = Result (Bindings T) NameFault} (Ok (bindings ++ (place, node) ∷ [])) (Ok after) = ap (with_node bindings node) (sym e) ∙ h in
      let is : bindings ++ (place, node) ∷ [] ≡ after = cc made in (
        subst (λ bs. node_at bs place ≡ Some node) is (node-here bindings place node free),
        λ path apart. subst (λ bs. node_at bs path ≡ node_at bindings path) is (node-elsewhere bindings place path node apart),
      )

  -- an item that a walk finds is bound at a path
  abbrev IsBound : Bindings T → T → Type 0
  IsBound bindings item = (path : Path) × (node_at bindings path ≡ Some (Stands (Item item)))

  module _ (bindings : Bindings T) (item : T) where
    item-past : (here : Path) (o : Option (Node T)) (further : Result (Way T) NameFault) (rest : Path) → node_at bindings here ≡ o → (further ≡ Ok (Ends (Some (Item item))) → IsBound bindings item) → past o further rest ≡ Ok (Ends (Some (Item item))) → IsBound bindings item
    item-past here None further rest e more h = absurd (cc ((ends-here None (Some (Item item)) rest h).0))
    item-past here (Some (LinkTo target)) further rest e more h = absurd (no-end (target ++ rest) (Some (Item item)) _ h)
    item-past here (Some (Stands Directory)) further rest e more h = more h
    item-past here (Some (Stands (Item other))) further rest e more h =
        let same : other ≡ item = cc ((ends-here (Some (Item other)) (Some (Item item)) rest h).0) in
        (here, e ∙ ap (λ i. Some (Stands (Item i))) same)

    way-item : (front rest : Path) → way bindings front rest ≡ Ok (Ends (Some (Item item))) → IsBound bindings item
    way-item front [] h = absurd (cc)
    way-item front (name ∷ rest) h = item-past (front ++ name ∷ []) (node_at bindings (front ++ name ∷ [])) (way bindings (front ++ name ∷ []) rest) rest refl (way-item (front ++ name ∷ []) rest) h

    item-onwards : (path : Path) (further : Path → Result (Place T) NameFault) (place : Place T) → ((other : Path) → further other ≡ Ok place → IsBound bindings item) → place.found ≡ Some (Item item) → (w : Result (Way T) NameFault) → way bindings [] path ≡ w → onwards path further w ≡ Ok place → IsBound bindings item
    item-onwards path further place more is (Err fault) e h = absurd (cc)
    item-onwards path further place more is (Ok (Ends found)) e h =
        let same : found ≡ Some (Item item) = cc in
        way-item [] path (e ∙ ap (λ f. Ok (Ends f)) same)
    item-onwards path further place more is (Ok (Turns other)) e h = more other h

    walk-item : (left : ℕ) (path : Path) (place : Place T) → place.found ≡ Some (Item item) → walk_by left bindings path ≡ Ok place → IsBound bindings item
    unfolding walk_by
    walk-item zero path place is h = item-onwards path (λ other. Err NameInvalid) place (λ other e. absurd (cc)) is (way bindings [] path) refl h
    walk-item (suc left) path place is h = item-onwards path (walk_by left bindings) place (λ other. walk-item left other place is) is (way bindings [] path) refl h

    read-item : (read : Result Path NameFault) (place : Place T) → place.found ≡ Some (Item item) → walk_if bindings read ≡ Ok place → IsBound bindings item
    read-item (Err fault) place is h = absurd (cc)
    read-item (Ok path) place is h = walk-item 32 path place is h

    text-item : (text : List ℕ) (place : Place T) → place.found ≡ Some (Item item) → walk bindings text ≡ Ok place → IsBound bindings item
    unfolding walk
    text-item text place is h = read-item (spelled text) place is h

  module _ (same : T → T → Bool) (item other : T) where
    no-name : (bindings : Bindings T) (path : Path) → has_name same item bindings ≡ false → node_at bindings path ≡ Some (Stands (Item other)) → same other item ≡ false
    no-name [] path none h = absurd (cc)
    no-name (b ∷ bs) path none h = by (no-name bs path) (is_name same item b) (same_path path b.0) refl none h
      where
        by : (has_name same item bs ≡ false → node_at bs path ≡ Some (Stands (Item other)) → same other item ≡ false) → (s t : Bool) → is_name same item b ≡ s → cond s true (has_name same item bs) ≡ false → cond t (Some b.1) (node_at bs path) ≡ Some (Stands (Item other)) → same other item ≡ false
        by more true t e none h = absurd (cc)
        by more false false e none h = more none h
        by more false true e none h =
            let bound : b.1 ≡ Stands (Item other) = cc in
            sym (ap (λ n. is_name same item (b.0, n)) bound) ∙ e

    pub nameless-is-not-found : (bindings : Bindings T) (text : List ℕ) → has_name same item bindings ≡ false → lookup bindings text ≡ Ok (Item other) → same other item ≡ false
    nameless-is-not-found bindings text none h =
        let s = found-is (walk bindings text) (Item other) h in
        let b = text-item bindings other text s.0 s.2 s.1 in
        no-name bindings b.0 none b.1

  -- more replacements lead no other way
  more-onwards : (bindings : Bindings T) (path : Path) (further more : Path → Result (Place T) NameFault) (place : Place T) → ((other : Path) → further other ≡ Ok place → more other ≡ Ok place) → (w : Result (Way T) NameFault) → onwards path further w ≡ Ok place → onwards path more w ≡ Ok place
  more-onwards bindings path further more place on (Err fault) h = h
  more-onwards bindings path further more place on (Ok (Ends found)) h = h
  more-onwards bindings path further more place on (Ok (Turns other)) h = on other h

  walk-more : (bindings : Bindings T) (left : ℕ) (path : Path) (place : Place T) → walk_by left bindings path ≡ Ok place → walk_by (suc left) bindings path ≡ Ok place
  unfolding walk_by
  walk-more bindings zero path place h = more-onwards bindings path (λ other. Err NameInvalid) (walk_by 0 bindings) place (λ other e. absurd (cc)) (way bindings [] path) h
  walk-more bindings (suc left) path place h = more-onwards bindings path (walk_by left bindings) (walk_by (suc left) bindings) place (λ other. walk-more bindings left other place) (way bindings [] path) h

  pub linked-as-direct : (bindings : Bindings T) (text direct : List ℕ) (path other : Path) (place : Place T) → spelled text ≡ Ok path → spelled direct ≡ Ok other → way bindings [] path ≡ Ok (Turns other) → walk_by 31 bindings other ≡ Ok place
      → (walk bindings text ≡ Ok place) × (walk bindings direct ≡ Ok place)
  unfolding walk
  linked-as-direct bindings text direct path other place reads one turned ends = (
    ap (walk_if bindings) reads ∙ turns bindings 31 path other turned ∙ ends,
    ap (walk_if bindings) one ∙ walk-more bindings 31 other place ends,
  )
