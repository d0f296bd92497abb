-- Steps of a walk.
use Rattle.std.proofs.Common.{◌≡◌, ◌∙◌, refl, sym, ap, subst, ℕ, zero, suc, ◌<◌, Bool, true, false, if◌then◌else◌, List, [], ◌∷◌, ◌++◌, length, append_assoc, Option, None, Some, Result, Ok, Err, ◌-◌, sub-one, arith}
use Rattle.lpc_names.specs.declared.fault.NameFault.{NameFault}
use Rattle.lpc_names.specs.declared.fault.NameFault.TheVariants.{NameInvalid, PathNotFound}
use Rattle.lpc_names.specs.declared.names.Found.TheVariants.{Directory, Item}
use Rattle.lpc_names.specs.Path.{Path, size_of, is_too_long, spelled}
use Rattle.lpc_names.specs.Walk.{Node, Stands, LinkTo, Bindings, Found, Place, Way, Ends, Turns, node_at, at_end, turned, past, way, onwards, walk_by, walk_if, walk}
use Rattle.lpc_names.specs.Kept.{path_of}
use Rattle.lpc_names.proofs.Paths.{parts-some, size-append}

module _ {T : Type 0} (bindings : Bindings T) where
  pub at_end-more : (found : Option (Found T)) (text : List ℕ) → 0 < length text → at_end found (path_of text) ≡ Err PathNotFound
  at_end-more found [] some = absurd (omega arith)
  at_end-more found (b ∷ bs) some = let s = parts-some bs in rw s.2 refl

  -- where nothing is found, nothing is bound, and it isn't the root
  abbrev pub IsFree : Path → Type 0
  IsFree path = (node_at bindings path ≡ None) × (0 < size_of path)

  free-here : (front : Path) (name : List ℕ) → node_at bindings (front ++ name ∷ []) ≡ None → IsFree (front ++ name ∷ [])
  free-here front name h = (h, rw (size-append front (name ∷ [])) (omega arith))

  free-end : (front : Path) (name : List ℕ) (rest : Path) → node_at bindings (front ++ name ∷ []) ≡ None → at_end {T = T} None rest ≡ Ok (Ends None) → IsFree (front ++ name ∷ rest)
  free-end front name [] h e = free-here front name h
  free-end front name (next ∷ rest) h e = absurd (cc)

  item-end : (item : T) (rest : Path) → at_end (Some (Item item)) rest ≡ Ok (Ends None) → ⊥
  item-end item [] e = cc
  item-end item (next ∷ rest) e = cc

  never-turned : (path : Path) (t : Bool) → ◌≡◌ {A = Result (Way T) NameFault} (if t then Err NameInvalid else Ok (Turns path)) (Ok (Ends None)) → ⊥
  never-turned path true e = cc
  never-turned path false e = cc

  way-free : (front rest : Path) → way bindings front rest ≡ Ok (Ends None) → IsFree (front ++ rest)
  way-free front [] h = absurd (cc)
  way-free front (name ∷ rest) h = by (way-free (front ++ name ∷ []) rest) (node_at bindings (front ++ name ∷ [])) refl h
    where
      by : (way bindings (front ++ name ∷ []) rest ≡ Ok (Ends None) → IsFree ((front ++ name ∷ []) ++ rest)) → (o : Option (Node T)) → node_at bindings (front ++ name ∷ []) ≡ o → past o (way bindings (front ++ name ∷ []) rest) rest ≡ Ok (Ends None) → IsFree (front ++ name ∷ rest)
      by more None e h = free-end front name rest e h
      by more (Some (LinkTo target)) e h = absurd (never-turned (target ++ rest) _ h)
      by more (Some (Stands Directory)) e h = subst IsFree (append_assoc front (name ∷ []) rest) (more h)
      by more (Some (Stands (Item item))) e h = absurd (item-end item rest h)

  free-onwards : (path : Path) (further : Path → Result (Place T) NameFault) (place : Place T) → ((other : Path) → further other ≡ Ok place → IsFree place.path) → (w : Result (Way T) NameFault) → way bindings [] path ≡ w → onwards path further w ≡ Ok place → place.found ≡ None → IsFree place.path
  free-onwards path further place more (Err fault) e h none = absurd (cc)
  free-onwards path further place more (Ok (Ends found)) e h none =
      let same : path ≡ place.path = cc in
      let is : found ≡ None = cc in
      subst IsFree same (way-free [] path (e ∙ ap (λ f. Ok (Ends f)) is))
  free-onwards path further place more (Ok (Turns other)) e h none = more other h

  pub walk-free : (left : ℕ) (path : Path) (place : Place T) → walk_by left bindings path ≡ Ok place → place.found ≡ None → IsFree place.path
  unfolding walk_by
  walk-free zero path place h none = free-onwards path (λ other. Err NameInvalid) place (λ other e. absurd (cc)) (way bindings [] path) refl h none
  walk-free (suc left) path place h none = free-onwards path (walk_by left bindings) place (λ other e. walk-free left other place e none) (way bindings [] path) refl h none

  read-free : (read : Result Path NameFault) (place : Place T) → walk_if bindings read ≡ Ok place → place.found ≡ None → IsFree place.path
  read-free (Err fault) place h none = absurd (cc)
  read-free (Ok path) place h none = walk-free 32 path place h none

  pub text-free : (text : List ℕ) (place : Place T) → walk bindings text ≡ Ok place → place.found ≡ None → IsFree place.path
  unfolding walk
  text-free text place h none = read-free (spelled text) place h none

  pub turned-fits : (path joined : Path) → joined ≡ path → is_too_long path ≡ false → ◌≡◌ {A = Result (Way T) NameFault} (Ok (Turns joined)) (turned path)
  turned-fits path joined is fits = ap (λ p. Ok (Turns p)) is ∙ sym (ap (λ t. if t then Err NameInvalid else Ok (Turns path)) fits)

  pub turned-long : (path : Path) → is_too_long path ≡ true → ◌≡◌ {A = Result (Way T) NameFault} (Err NameInvalid) (turned path)
  turned-long path long = sym (ap (λ t. if t then Err NameInvalid else Ok (Turns path)) long)

  -- what the walk does at one more component
  pub past-is : (front further rest more : Path) (name : List ℕ) (bound : Option (Node T)) (w : Result (Way T) NameFault) → further ≡ front ++ name ∷ [] → rest ≡ name ∷ more → way bindings front rest ≡ w → node_at bindings further ≡ bound → past bound (way bindings further more) more ≡ w
  past-is front further rest more name bound w is parts h e =
      ap (λ o. past o (way bindings further more) more) (sym e) ∙ ap (λ f. past (node_at bindings f) (way bindings f more) more) is ∙ ap (way bindings front) (sym parts) ∙ h

  pub walk-ends : (left : ℕ) (path : Path) (found : Option (Found T)) → way bindings [] path ≡ Ok (Ends found) → walk_by left bindings path ≡ Ok (record { path = path; found = found })
  unfolding walk_by
  walk-ends zero path found h = rw h refl
  walk-ends (suc left) path found h = rw h refl

  pub walk-fault : (left : ℕ) (path : Path) (fault : NameFault) → way bindings [] path ≡ Err fault → walk_by left bindings path ≡ Err fault
  unfolding walk_by
  walk-fault zero path fault h = rw h refl
  walk-fault (suc left) path fault h = rw h refl

  pub turns : (left : ℕ) (path other : Path) → way bindings [] path ≡ Ok (Turns other) → walk_by (suc left) bindings path ≡ walk_by left bindings other
  unfolding walk_by
  turns left path other h = rw h refl

  pub walk-turns : (left : ℕ) (path other : Path) → 0 < left → way bindings [] path ≡ Ok (Turns other) → walk_by left bindings path ≡ walk_by (left - 1) bindings other
  walk-turns zero path other some h = absurd (omega arith)
  walk-turns (suc left) path other some h = rw sub-one (turns left path other h)

  pub walk-full : (path other : Path) → way bindings [] path ≡ Ok (Turns other) → walk_by 0 bindings path ≡ Err NameInvalid
  unfolding walk_by
  walk-full path other h = rw h refl
