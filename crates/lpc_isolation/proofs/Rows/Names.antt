-- Where paths lead in a view: past an outsider's port as past nothing.
use Rattle.std.proofs.Common.{◌≡◌, ℕ, zero, suc, List, [], ◌∷◌, ◌++◌, Bool, true, false, cond, Option, Some, None, refl, ap, subst, ◌∙◌}
use Rattle.std.specs.Prelude.{Result, Ok, Err}
use Rattle.lpc_base.specs.Rows.{which}
use Rattle.lpc_names.specs.declared.fault.NameFault.{NameFault}
use Rattle.lpc_names.specs.declared.fault.NameFault.TheVariants.{NameInvalid}
use Rattle.lpc_names.specs.declared.names.Found.{Found}
use Rattle.lpc_names.specs.declared.names.Found.TheVariants.{Directory, Item}
use Rattle.lpc_names.specs.Path.{Path, is_too_long, spelled}
use Rattle.lpc_names.specs.Walk.{Bindings, Ends, LinkTo, Node, Place, Stands, Turns, Way, at_end, found_at, free_at, free_path, lookup, node_at, onwards, past, there, unless_taken, walk, walk_by, walk_if, way}
use Rattle.lpc_model.specs.World.{Birth}
use Rattle.lpc_model.specs.Circle.{Group, leads_inside}
use Rattle.lpc_isolation.proofs.Views.View.{our_binding, our_node}

abbrev pub Names : Type 0
Names = Bindings Birth

abbrev pub seen_node : Group → Option (Node Birth) → Option (Node Birth)
seen_node m None = None
seen_node m (Some n) = cond (our_node m n) (Some n) None

abbrev pub seen_found : Group → Option (Found Birth) → Option (Found Birth)
seen_found m None = None
seen_found m (Some Directory) = Some Directory
seen_found m (Some (Item b)) = cond (m b.process) (Some (Item b)) None

-- what the view of some names has at each path
abbrev pub SeenNames : Group → Names → Type 0
SeenNames m bs = (path : Path) → node_at (which (our_binding m) bs) path ≡ seen_node m (node_at bs path)

-- the way
abbrev seen_way : Group → Result (Way Birth) NameFault → Result (Way Birth) NameFault
seen_way m (Err f) = Err f
seen_way m (Ok (Ends found)) = Ok (Ends (seen_found m found))
seen_way m (Ok (Turns other)) = Ok (Turns other)

end-view : (m : Group) (found : Option (Found Birth)) (rest : Path) → at_end (seen_found m found) rest ≡ seen_way m (at_end found rest)
end-view m found [] = refl
end-view m found (name ∷ rest) = refl

turned-view : (m : Group) (path : Path) (b : Bool) → ◌≡◌ {A = Result (Way Birth) NameFault} (cond b (Err NameInvalid) (Ok (Turns path))) (seen_way m (cond b (Err NameInvalid) (Ok (Turns path))))
turned-view m path true = refl
turned-view m path false = refl

past-view : (m : Group) (o : Option (Node Birth)) (further : Result (Way Birth) NameFault) (rest : Path) → past (seen_node m o) (seen_way m further) rest ≡ seen_way m (past o further rest)
past-view m None further rest = end-view m None rest
past-view m (Some (LinkTo target)) further rest = turned-view m (target ++ rest) (is_too_long (target ++ rest))
past-view m (Some (Stands Directory)) further rest = refl
past-view m (Some (Stands (Item b))) further rest = at (m b.process) refl
  where
    at : (e : Bool) → m b.process ≡ e → past (cond e (Some (Stands (Item b))) None) (seen_way m further) rest ≡ seen_way m (at_end (Some (Item b)) rest)
    at true is = subst (λ o. at_end o rest ≡ seen_way m (at_end (Some (Item b)) rest)) (ap (λ e. cond e (Some (Item b)) None) is) (end-view m (Some (Item b)) rest)
    at false out = subst (λ o. at_end o rest ≡ seen_way m (at_end (Some (Item b)) rest)) (ap (λ e. cond e (Some (Item b)) None) out) (end-view m (Some (Item b)) rest)

way-view : (m : Group) (bs : Names) (front rest : Path) → SeenNames m bs → way (which (our_binding m) bs) front rest ≡ seen_way m (way bs front rest)
way-view m bs front [] s = refl
way-view m bs front (name ∷ rest) s =
    ap (λ o. past o (way (which (our_binding m) bs) (front ++ name ∷ []) rest) rest) (s (front ++ name ∷ []))
    ∙ ap (λ further. past (seen_node m (node_at bs (front ++ name ∷ []))) further rest) (way-view m bs (front ++ name ∷ []) rest s)
    ∙ past-view m (node_at bs (front ++ name ∷ [])) (way bs (front ++ name ∷ []) rest) rest

-- the walk
abbrev pub seen_place : Group → Result (Place Birth) NameFault → Result (Place Birth) NameFault
seen_place m (Err f) = Err f
seen_place m (Ok place) = Ok (record { path = place.path; found = seen_found m place.found })

onwards-view : (m : Group) (path : Path) (f g : Path → Result (Place Birth) NameFault) → ((other : Path) → f other ≡ seen_place m (g other)) → (r : Result (Way Birth) NameFault) → onwards path f (seen_way m r) ≡ seen_place m (onwards path g r)
onwards-view m path f g same (Err e) = refl
onwards-view m path f g same (Ok (Ends found)) = refl
onwards-view m path f g same (Ok (Turns other)) = same other

walk_by-view : (m : Group) (n : ℕ) (bs : Names) (path : Path) → SeenNames m bs → walk_by n (which (our_binding m) bs) path ≡ seen_place m (walk_by n bs path)
unfolding walk_by
walk_by-view m zero bs path s = ap (onwards path (λ other. Err NameInvalid)) (way-view m bs [] path s) ∙ onwards-view m path (λ other. Err NameInvalid) (λ other. Err NameInvalid) (λ other. refl) (way bs [] path)
walk_by-view m (suc n) bs path s = ap (onwards path (walk_by n (which (our_binding m) bs))) (way-view m bs [] path s) ∙ onwards-view m path (walk_by n (which (our_binding m) bs)) (walk_by n bs) (λ other. walk_by-view m n bs other s) (way bs [] path)

walk_if-view : (m : Group) (bs : Names) (r : Result Path NameFault) → SeenNames m bs → walk_if (which (our_binding m) bs) r ≡ seen_place m (walk_if bs r)
walk_if-view m bs (Err f) s = refl
walk_if-view m bs (Ok path) s = walk_by-view m 32 bs path s

pub walk-view : (m : Group) (bs : Names) (text : List ℕ) → SeenNames m bs → walk (which (our_binding m) bs) text ≡ seen_place m (walk bs text)
unfolding walk
walk-view m bs text s = walk_if-view m bs (spelled text) s

-- where c names no outsider's port, it finds the same
found-same : (m : Group) (o : Option (Found Birth)) → leads_inside m (there o) ≡ true → seen_found m o ≡ o
found-same m None is = refl
found-same m (Some Directory) is = refl
found-same m (Some (Item b)) is = rw is refl

place-same : (m : Group) (r : Result (Place Birth) NameFault) → leads_inside m (found_at r) ≡ true → seen_place m r ≡ r
place-same m (Err f) is = refl
place-same m (Ok place) is = rw (found-same m place.found is) refl

pub c-lookup : (m : Group) (bs : Names) (text : List ℕ) → SeenNames m bs → leads_inside m (lookup bs text) ≡ true → lookup (which (our_binding m) bs) text ≡ lookup bs text
c-lookup m bs text s is = ap found_at (walk-view m bs text s ∙ place-same m (walk bs text) is)

pub c-free : (m : Group) (bs : Names) (text : List ℕ) → SeenNames m bs → leads_inside m (lookup bs text) ≡ true → free_path (which (our_binding m) bs) text ≡ free_path bs text
c-free m bs text s is = ap free_at (walk-view m bs text s ∙ place-same m (walk bs text) is)

-- a path that is free, is free in the view; a member's port is found there
free-seen : (m : Group) (r : Result (Place Birth) NameFault) (path : Path) → free_at r ≡ Ok path → free_at (seen_place m r) ≡ Ok path
free-seen m (Err f) path is = absurd (cc)
free-seen m (Ok place) path is = at place.found refl is
  where
    at : (o : Option (Found Birth)) → place.found ≡ o → unless_taken place.path o ≡ Ok path → unless_taken place.path (seen_found m place.found) ≡ Ok path
    at None none is = rw none is
    at (Some found) some is = absurd (cc)

pub free-view : (m : Group) (bs : Names) (text : List ℕ) (path : Path) → SeenNames m bs → free_path bs text ≡ Ok path → free_path (which (our_binding m) bs) text ≡ Ok path
free-view m bs text path s is = ap free_at (walk-view m bs text s) ∙ free-seen m (walk bs text) path is

found-seen : (m : Group) (r : Result (Place Birth) NameFault) (b : Birth) → m b.process ≡ true → found_at r ≡ Ok (Item b) → found_at (seen_place m r) ≡ Ok (Item b)
found-seen m (Err f) b b_in is = absurd (cc)
found-seen m (Ok place) b b_in is = at place.found refl is
  where
    at : (o : Option (Found Birth)) → place.found ≡ o → there o ≡ Ok (Item b) → there (seen_found m place.found) ≡ Ok (Item b)
    at None none is = absurd (cc)
    at (Some Directory) some is = absurd (cc)
    at (Some (Item x)) some is =
        let same : x ≡ b = cc in
        let x_in : m x.process ≡ true = ap (λ (b : Birth). m b.process) same ∙ b_in in
        rw (some, x_in) is

pub lookup-view : (m : Group) (bs : Names) (text : List ℕ) (b : Birth) → SeenNames m bs → m b.process ≡ true → lookup bs text ≡ Ok (Item b) → lookup (which (our_binding m) bs) text ≡ Ok (Item b)
lookup-view m bs text b s b_in is = ap found_at (walk-view m bs text s) ∙ found-seen m (walk bs text) b b_in is
