-- The ports that go are as fine as those that stay.
use Rattle.lpc_isolation.proofs.Gone.Born.{Born}
use Rattle.lpc_model.specs.Settle.{IsSettled}
use Rattle.lpc_model.proofs.Steps.InTurn.{after-append}
use Rattle.std.proofs.Common.{◌≡◌, ℕ, List, [], ◌∷◌, ◌++◌, Bool, true, false, map, refl, ◌∙◌, arith, subst}
use Rattle.lpc_base.specs.Rows.{every, which, change}
use Rattle.lpc_base.proofs.RowWords.{every-change, every-push}
use Rattle.lpc_base.proofs.Bools.{first-true, second-true}
use Rattle.lpc_model.specs.World.{Birth, PortRow, World, Security}
use Rattle.lpc_model.specs.Found.{is_port, is_process}
use Rattle.lpc_model.specs.Basics.{AddsProcess, Basic, Completes, Cuts, Frees, Joins, Makes, basic, completed, cut, is_end_of, joined, world_after, Secures, secured, SetsDebug, SetsException, LetsGo, Dooms, debugged, doomed, excepted, portless}
use Rattle.lpc_model.specs.Circle.{Group, is_fine_port, is_fine_process}
use Rattle.lpc_isolation.proofs.Views.Alone.{HasFineRows}
use Rattle.lpc_isolation.proofs.Gone.Thin.{Behind}

abbrev pub makes_fine : Group → ℕ → Basic → Bool
makes_fine m c (Makes p) = is_fine_port m c p
makes_fine m c (AddsProcess p) = is_fine_process m p
makes_fine m c (Frees o) = false
makes_fine m c b = true

joined-fine : (m : Group) (c : ℕ) (client server : Birth) (context : ℕ) (p : PortRow) → is_fine_port m c (joined client server context p) ≡ is_fine_port m c p
joined-fine m c client server context p = at (is_port client p) (is_port server p) refl refl
  where
    at : (a b : Bool) → is_port client p ≡ a → is_port server p ≡ b → is_fine_port m c (joined client server context p) ≡ is_fine_port m c p
    at true b is it = rw is refl
    at false true is it = rw (is, it) refl
    at false false is it = rw (is, it) refl

every-same : {X : Type 0} (p : X → Bool) (f : X → X) → ((x : X) → p (f x) ≡ p x) → (xs : List X) → every p (map f xs) ≡ every p xs
every-same p f same [] = refl
every-same p f same (x ∷ xs) = rw (same x, every-same p f same xs) refl

basic-fine : (m : Group) (c : ℕ) (u : World) (b : Basic) → makes_fine m c b ≡ true → HasFineRows m c u → HasFineRows m c (basic u b)
basic-fine m c u (Makes p) ok f = (f.0, every-push (is_fine_port m c) u.ports p f.1 ok)
basic-fine m c u (Joins client server context) ok f = (f.0, every-same (is_fine_port m c) (joined client server context) (joined-fine m c client server context) u.ports ∙ f.1)
basic-fine m c u (Completes b) ok f = (f.0, every-change (is_fine_port m c) (is_port b) completed (λ p is. is) u.ports f.1)
basic-fine m c u (Secures b s) ok f = (f.0, every-change (is_fine_port m c) (is_port b) (secured s) (λ p is. is) u.ports f.1)
basic-fine m c u (Frees o) ok f = absurd (cc)
basic-fine m c u (Cuts b) ok f = (f.0, every-change (is_fine_port m c) (is_end_of b) cut (λ p is. is) u.ports f.1)
basic-fine m c u (AddsProcess p) ok f = (every-push (is_fine_process m) u.processes p f.0 ok, f.1)
basic-fine m c u (SetsDebug pid b) ok f = (every-change (is_fine_process m) (is_process pid) (debugged b) (λ p is. is) u.processes f.0, f.1)
basic-fine m c u (SetsException pid b) ok f = (every-change (is_fine_process m) (is_process pid) (excepted b) (λ p is. is) u.processes f.0, f.1)
basic-fine m c u (LetsGo pid) ok f = (every-change (is_fine_process m) (is_process pid) portless (λ p is. is) u.processes f.0, f.1)
basic-fine m c u (Dooms pid code) ok f = (every-change (is_fine_process m) (is_process pid) (doomed code) (λ p is. is) u.processes f.0, f.1)
basic-fine m c u b ok f = f

-- what a change does not touch holds of the rows where it holds of the changed ones
pub unchanged : {X : Type 0} (p q : X → Bool) (f : X → X) → ((x : X) → p (f x) ≡ p x) → (xs : List X) → every p (change q f xs) ≡ true → every p xs ≡ true
unchanged p q f same [] all = refl
unchanged p q f same (x ∷ xs) all = grind (arith, same x, unchanged p q f same xs)

-- a port is as fine whoever may open it
pub unsecured : (m : Group) (c : ℕ) (u : World) (bs : List Basic) (b : Birth) (s : Security) → HasFineRows m c (world_after u (bs ++ Secures b s ∷ [])) → HasFineRows m c (world_after u bs)
unsecured m c u bs b s f =
    let g : HasFineRows m c (basic (world_after u bs) (Secures b s)) = subst (HasFineRows m c) (after-append u bs (Secures b s ∷ [])) f in
    (g.0, unchanged (is_fine_port m c) (is_port b) (secured s) (λ p. refl) (world_after u bs).ports g.1)

pub run-fine : (m : Group) (c : ℕ) (u : World) (bs : List Basic) → every (makes_fine m c) bs ≡ true → HasFineRows m c u → HasFineRows m c (world_after u bs)
run-fine m c u [] ok f = f
run-fine m c u (b ∷ bs) ok f = run-fine m c (basic u b) bs (second-true _ _ ok) (basic-fine m c u b (first-true _ _ ok) f)

pub kept-last : {X : Type 0} (p k : X → Bool) (xs : List X) (y : X) → every p (which k (xs ++ y ∷ [])) ≡ true → k y ≡ true → p y ≡ true
kept-last p k [] y all is = grind arith
kept-last p k (x ∷ xs) y all is = grind (arith, kept-last p k xs y)

-- The ports that each call makes
abbrev pub AreFine : Group → ℕ → List Basic → Type 0
AreFine m c bs = every (makes_fine m c) bs ≡ true

-- where nothing comes behind their steps, rows go from the world that they leave
abbrev pub BehindRest : World → World → List Basic → Type 0
BehindRest after u bs = ((Born u → IsSettled u → IsSettled (world_after u bs)) → Behind after (world_after u bs))

-- of each call, in the world before the sweep
abbrev pub FineAfter : Group → ℕ → World → World → List Basic → Type 0
FineAfter m c after u bs = BehindRest after u bs → AreFine m c bs
