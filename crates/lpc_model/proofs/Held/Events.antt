-- Where only living processes have ports that are told of exceptions, those stay though what no row counts for goes.
use Rattle.lpc_model.specs.declared.entry.ObjectKind.TheVariants as kind
use Rattle.std.proofs.Common.{Bool, List, [], arith, false, not, refl, subst, sym, true, ℕ, ◌∙◌, ◌∷◌, ◌≡◌, ◌≤◌, None, Option, Some, ap, map, ◌++◌}
use Rattle.lpc_base.proofs.Births.{birth-same}
use Rattle.lpc_base.proofs.Bools.{first-true, second-true}
use Rattle.lpc_base.proofs.RowMaps.{every-both}
use Rattle.lpc_base.proofs.RowWords.{every-more, every-without}
use Rattle.lpc_base.specs.Rows.{count, each, every, has, without}
use Rattle.lpc_model.proofs.Settling.Turns.{few}
use Rattle.lpc_model.proofs.Sound.Frees.{is-zero, less-held, none-pass, sum-second}
use Rattle.lpc_model.proofs.Steps.Rows.{has-without}
use Rattle.lpc_model.specs.Basics.{Frees, basic, freed, world_after}
use Rattle.lpc_model.specs.Found.{event_ports, event_ports_of, handle_count, is_life, is_live, listed, lives_by, lives_in, pointer_count, process_name, same_birth}
use Rattle.lpc_model.specs.Left.{HasLivingPorts, is_living_process}
use Rattle.lpc_model.specs.Sweep.{is_unheld}
use Rattle.lpc_model.specs.World.{Birth, ObjectKind, ObjectName, ProcessRow, ThreadRow, World}
use Rattle.std.proofs.lemmas.Bool.{eqb-true}
use Rattle.std.proofs.lemmas.Bool.Decides.{nat_tests}
use Rattle.std.specs.Prelude.{is_none, ◌&&◌, ◌==◌, ◌||◌}

-- a process that no live thread counts for doesn't live
abbrev own_row : ProcessRow → ℕ → ProcessRow → Bool
own_row p n q = same_birth q.birth p.birth && (q.number == n)

thread-off : (l own : Bool) (p : ProcessRow) (n : ℕ) (ps : List ProcessRow) → has (own_row p p.number) ps ≡ true → (n == p.number) ≡ own → not (l && has (own_row p n) ps) ≡ true → (own && l) ≡ false
thread-off l false p n ps stands other one = refl
thread-off false true p n ps stands same one = refl
thread-off true true p n ps stands same one =
    let here = subst (λ m. has (own_row p m) ps ≡ true) (sym (eqb-true n p.number same)) stands in absurd (cc)

unlived : (w : World) (p : ProcessRow) (ts : List ThreadRow) → has (own_row p p.number) w.processes ≡ true → every (λ t. not (lives_by w p.birth t)) ts ≡ true → has (lives_in p.number) ts ≡ false
unlived w p [] stands off = refl
unlived w p (t ∷ ts) stands off =
    let here : not (lives_by w p.birth t) ≡ true = grind arith in
    let later : every (λ t. not (lives_by w p.birth t)) ts ≡ true = grind arith in
    let none = thread-off t.live (t.process == p.number) p t.process w.processes stands refl here in
    let rest = unlived w p ts stands later in grind (arith, none, rest)

-- so it has no such port
pub told-nothing : (w : World) (p : ProcessRow) → is_living_process w p ≡ true → is_live w p.number ≡ false → event_ports_of p ≡ []
told-nothing w p is off = at p.debug_port p.exception_port (rw off at is)
  where
    at : (d e : Option Birth) → (is_none d && is_none e) ≡ true → listed d ++ listed e ≡ []
    at None None is = refl
    at None (Some b) is = absurd (cc)
    at (Some b) e is = absurd (cc)

abbrev is_nothing : {X : Type 0} → List X → Bool
is_nothing [] = true
is_nothing (x ∷ xs) = false

each-left : {X Y : Type 0} (f : X → List Y) (gone : X → Bool) (xs : List X) → every (λ x. not (gone x) || is_nothing (f x)) xs ≡ true → each f (without gone xs) ≡ each f xs
each-left {Y = Y} f gone [] all = refl
each-left {Y = Y} f gone (x ∷ xs) all = at (gone x) refl (f x) refl (each-left f gone xs)
  where
    at : (g : Bool) → gone x ≡ g → (ys : List Y) → f x ≡ ys → (every (λ x. not (gone x) || is_nothing (f x)) xs ≡ true → each f (without gone xs) ≡ each f xs) → each f (without gone (x ∷ xs)) ≡ each f (x ∷ xs)
    at true is [] none later = rw (is, none) (later (second-true (not (gone x) || is_nothing (f x)) _ all))
    at true is (y ∷ ys) some later =
        let never : (not (gone x) || is_nothing (f x)) ≡ true = first-true _ (every (λ x. not (gone x) || is_nothing (f x)) xs) all in
        let off : false ≡ true = subst (λ (c : Bool). c ≡ true) (rw (is, some) refl) never in absurd (cc)
    at false is ys same later = rw is (ap (λ zs. f x ++ zs) (later (second-true (not (gone x) || is_nothing (f x)) _ all)))

selves : (ps : List ProcessRow) → every (λ p. has (own_row p p.number) ps) ps ≡ true
selves [] = refl
selves (q ∷ qs) =
    let own = itself q in
    let rest = every-more (λ p. has (own_row p p.number) qs) (λ p. has (own_row p p.number) (q ∷ qs)) (λ p is. grind arith) qs (selves qs) in grind arith
  where
    itself : (q : ProcessRow) → own_row q q.number q ≡ true
    itself q = grind (arith, nat_tests)

-- the row of a process goes that no row counts for
process-events : (w : World) (c : Birth) → count (lives_by w c) w.threads ≤ 0 → HasLivingPorts w → event_ports (freed w kind.Process c) ≡ event_ports w
process-events w c few e =
    let off = none-pass (lives_by w c) w.threads few in
    each-left event_ports_of (λ p. same_birth p.birth c) w.processes
    (every-both (λ p. has (own_row p p.number) w.processes) (is_living_process w) (λ p. not (same_birth p.birth c) || is_nothing (event_ports_of p)) (λ p stands lives. at p stands lives off (same_birth p.birth c) refl) w.processes (selves w.processes) e)
  where
    nothing : (ys : List Birth) → ys ≡ [] → is_nothing ys ≡ true
    nothing [] is = refl
    nothing (y ∷ ys) is = absurd (cc)

    at : (p : ProcessRow) → has (own_row p p.number) w.processes ≡ true → is_living_process w p ≡ true → every (λ t. not (lives_by w c t)) w.threads ≡ true → (k : Bool) → same_birth p.birth c ≡ k → (not k || is_nothing (event_ports_of p)) ≡ true
    at p stands lives off false other = refl
    at p stands lives off true same =
        let own = subst (λ d. every (λ t. not (lives_by w d t)) w.threads ≡ true) (sym (birth-same p.birth c same)) off in
        nothing (event_ports_of p) (told-nothing w p lives (unlived w p w.threads stands own))

pub freed-events : (w : World) (o : ObjectName) → is_unheld w o ≡ true → HasLivingPorts w → event_ports (basic w (Frees o)) ≡ event_ports w
freed-events w o none e = at o.kind o.birth (is-zero (pointer_count w o) none)
  where
    at : (k : ObjectKind) (b : Birth) → pointer_count w (record { kind = k; birth = b }) ≤ 0 → event_ports (freed w k b) ≡ event_ports w
    at kind.Port b few = refl
    at kind.Section b few = refl
    at kind.Token b few = refl
    at kind.Process b few = process-events w b (sum-second (handle_count w (process_name b)) _ few) e
    at kind.Thread b few = refl

-- and still only living processes have such ports
pub ports-freed : (w : World) (o : ObjectName) → is_unheld w o ≡ true → HasLivingPorts w → HasLivingPorts (basic w (Frees o))
ports-freed w o none e = at o.kind o.birth (is-zero (pointer_count w o) none)
  where
    apart : (b : Birth) (pid : ℕ) (t : ThreadRow) → not (is_life b t) ≡ true → (not (same_birth t.birth b) || not (lives_in pid t)) ≡ true
    apart b pid t off = parts t.live (same_birth t.birth b) (t.process == pid) off
      where
        parts : (l s p : Bool) → not (l && s) ≡ true → (not s || not (p && l)) ≡ true
        parts l s p is = grind arith

    more : (a b c : Bool) → (a ≡ true → b ≡ true) → (a || c) ≡ true → (b || c) ≡ true
    more a b c one is = grind (arith, one)

    at : (k : ObjectKind) (b : Birth) → pointer_count w (record { kind = k; birth = b }) ≤ 0 → HasLivingPorts (freed w k b)
    at kind.Port b few = e
    at kind.Section b few = e
    at kind.Token b few = e
    at kind.Process b few = every-without (is_living_process w) (λ p. same_birth p.birth b) w.processes e
    at kind.Thread b few =
        let dead = none-pass (is_life b) w.threads (sum-second _ _ few) in
        let v = freed w kind.Thread b in
        every-more (is_living_process w) (is_living_process v) (λ p. more (is_live w p.number) (is_live v p.number) _ (λ is. has-without (lives_in p.number) (λ t. same_birth t.birth b) w.threads (every-more (λ t. not (is_life b t)) (λ t. not (same_birth t.birth b) || not (lives_in p.number t)) (λ t off. apart b p.number t off) w.threads dead) is)) w.processes e

pub frees-events : (w : World) (os : List ObjectName) → every (is_unheld w) os ≡ true → HasLivingPorts w → (event_ports (world_after w (map Frees os)) ≡ event_ports w) × HasLivingPorts (world_after w (map Frees os))
frees-events w [] all e = (refl, e)
frees-events w (o ∷ os) all e =
    let here : is_unheld w o ≡ true = grind arith in
    let later : every (is_unheld w) os ≡ true = grind arith in
    let rest = frees-events (basic w (Frees o)) os (every-more (is_unheld w) (is_unheld (basic w (Frees o))) (less-held w o) os later) (ports-freed w o here e) in
    (rest.0 ∙ freed-events w o here e, rest.1)
