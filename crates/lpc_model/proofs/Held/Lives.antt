-- Behind a sweep each process, thread and section row is named by a row.
use Rattle.std.proofs.Common.{◌≡◌, ◌∙◌, ℕ, ◌+◌, ◌≤◌, List, [], ◌∷◌, ◌++◌, Bool, true, false, ap, map, not, refl, sym, subst, arith}
use Rattle.std.specs.Prelude.{◌&&◌, ◌||◌, ◌==◌}
use Rattle.lpc_base.specs.Rows.{count, every, has, which, without}
use Rattle.lpc_base.proofs.RowWords.{every-any, every-more, every-without, has-behind}
use Rattle.lpc_base.proofs.RowMaps.{every-both}
use Rattle.lpc_base.proofs.Births.{birth-same, birth-self}
use Rattle.lpc_base.proofs.Bools.{first-true, unless-more}
use Rattle.lpc_model.specs.declared.entry.ObjectKind.TheVariants as kind
use Rattle.lpc_model.specs.World.{Birth, ObjectKind, ObjectName, PortRow, ProcessRow, SectionRow, ThreadRow, World, TokenRow}
use Rattle.lpc_model.specs.Found.{handle_count, is_life, is_section, lives_by, pointer_count, port_name, process_name, same_birth, same_object, section_name, thread_name, is_token, token_name}
use Rattle.lpc_model.specs.Basics.{Frees, basic, freed, world_after}
use Rattle.lpc_model.specs.Sweep.{free_unheld, is_unheld, unheld}
use Rattle.lpc_model.proofs.Steps.Rows.{every-left}
use Rattle.lpc_model.proofs.Sound.Frees.{is-zero, less-held, none-pass, sum-second, which-all}
use Rattle.lpc_model.proofs.Held.FreedPort.{is_among}
use Rattle.lpc_model.proofs.Sound.Less.{not-passing}

-- Counts of live threads
-- rows that go count for nothing where they don't pass
count-apart : {X : Type 0} (p gone : X → Bool) (xs : List X) → every (λ x. not (gone x && p x)) xs ≡ true → count p (without gone xs) ≡ count p xs
count-apart p gone [] off = refl
count-apart p gone (x ∷ xs) off = grind (arith, count-apart p gone xs)

dead-parts : (g l h k : Bool) → g ≡ h → not (l && h) ≡ true → not (g && (l && k)) ≡ true
dead-parts g l h k same off = grind arith

-- a thread that goes doesn't live
dead-life : (b c : Birth) (t : ThreadRow) → not (is_life c t) ≡ true → not (same_birth t.birth c && is_life b t) ≡ true
dead-life b c t off = dead-parts (same_birth t.birth c) t.live (same_birth t.birth c) (same_birth t.birth b) refl off

dead-lives : (w : World) (b c : Birth) (t : ThreadRow) → not (is_life c t) ≡ true → not (same_birth t.birth c && lives_by w b t) ≡ true
dead-lives w b c t off = dead-parts (same_birth t.birth c) t.live (same_birth t.birth c) _ refl off

-- another process that goes
pub has-apart : {X : Type 0} (p gone : X → Bool) → ((x : X) → p x ≡ true → gone x ≡ false) → (xs : List X) → has p (without gone xs) ≡ has p xs
has-apart p gone apart [] = refl
has-apart p gone apart (x ∷ xs) = grind (arith, apart x, has-apart p gone apart xs)

count-same : {X : Type 0} (p q : X → Bool) → ((x : X) → q x ≡ p x) → (xs : List X) → count q xs ≡ count p xs
count-same p q same [] = refl
count-same p q same (x ∷ xs) = grind (arith, same x, count-same p q same xs)

other-process : (b c : Birth) (n : ℕ) (p : ProcessRow) → same_birth b c ≡ false → (same_birth p.birth b && (p.number == n)) ≡ true → same_birth p.birth c ≡ false
other-process b c n p off is = subst (λ d. same_birth d c ≡ false) (sym (birth-same p.birth b (first-true _ _ is))) off

process-lives : (w : World) (b c : Birth) → count (lives_by w c) w.threads ≤ 0 → count (lives_by (freed w kind.Process c) b) w.threads ≡ count (lives_by w b) w.threads
process-lives w b c few = at (same_birth b c) refl
  where
    alike : (l x y : Bool) → x ≡ y → (l && x) ≡ (l && y)
    alike l x y is = rw is refl

    zero : (n m : ℕ) → n ≤ 0 → m ≤ 0 → n ≡ m
    zero n m one two = omega (arith, one, two)

    fewer : {X : Type 0} (p q : X → Bool) → ((x : X) → p x ≡ true → q x ≡ true) → (xs : List X) → count p xs ≤ count q xs
    fewer p q more [] = omega arith
    fewer p q more (x ∷ xs) = grind (arith, more x, fewer p q more xs)

    has-fewer : {X : Type 0} (p gone : X → Bool) (xs : List X) → has p (without gone xs) ≡ true → has p xs ≡ true
    has-fewer p gone [] is = absurd (cc)
    has-fewer p gone (x ∷ xs) is = grind (arith, has-fewer p gone xs)

    weaker : (l x y : Bool) → (x ≡ true → y ≡ true) → (l && x) ≡ true → (l && y) ≡ true
    weaker l x y more is = grind (arith, more)

    at : (k : Bool) → same_birth b c ≡ k → count (lives_by (freed w kind.Process c) b) w.threads ≡ count (lives_by w b) w.threads
    at true same =
        let none : count (lives_by w b) w.threads ≤ 0 = subst (λ d. count (lives_by w d) w.threads ≤ 0) (sym (birth-same b c same)) few in
        let less = fewer (lives_by (freed w kind.Process c) b) (lives_by w b) (λ t is. weaker t.live _ _ (has-fewer (λ (p : ProcessRow). same_birth p.birth b && (p.number == t.process)) (λ p. same_birth p.birth c) w.processes) is) w.threads in
        zero _ _ (omega (arith, less, none)) none
    at false off = count-same (lives_by w b) (lives_by (freed w kind.Process c) b) (λ t. alike t.live _ _ (has-apart (λ (p : ProcessRow). same_birth p.birth b && (p.number == t.process)) (λ p. same_birth p.birth c) (λ p is. other-process b c t.process p off is) w.processes)) w.threads

-- what no row names may go: as many rows name each process and each thread
sum-same : (a b c : ℕ) → b ≡ c → a + b ≡ a + c
sum-same a b c is = omega (arith, is)

pub same-process : (w : World) (o : ObjectName) (b : Birth) → is_unheld w o ≡ true → pointer_count (basic w (Frees o)) (process_name b) ≡ pointer_count w (process_name b)
same-process w o b none = at o.kind o.birth (is-zero (pointer_count w o) none)
  where
    at : (k : ObjectKind) (c : Birth) → pointer_count w (record { kind = k; birth = c }) ≤ 0 → pointer_count (freed w k c) (process_name b) ≡ pointer_count w (process_name b)
    at kind.Process c few = sum-same (handle_count w (process_name b)) (count (lives_by (freed w kind.Process c) b) w.threads) (count (lives_by w b) w.threads) (process-lives w b c (sum-second (handle_count w (process_name c)) (count (lives_by w c) w.threads) few))
    at kind.Thread c few =
        let dead = none-pass (is_life c) w.threads (sum-second (handle_count w (thread_name c)) (count (is_life c) w.threads) few) in
        sum-same (handle_count w (process_name b)) (count (lives_by w b) (without (λ t. same_birth t.birth c) w.threads)) (count (lives_by w b) w.threads) (count-apart (lives_by w b) (λ t. same_birth t.birth c) w.threads (every-more (λ t. not (is_life c t)) (λ t. not (same_birth t.birth c && lives_by w b t)) (dead-lives w b c) w.threads dead))
    at b c few = refl

pub same-thread : (w : World) (o : ObjectName) (b : Birth) → is_unheld w o ≡ true → pointer_count (basic w (Frees o)) (thread_name b) ≡ pointer_count w (thread_name b)
same-thread w o b none = at o.kind o.birth (is-zero (pointer_count w o) none)
  where
    at : (k : ObjectKind) (c : Birth) → pointer_count w (record { kind = k; birth = c }) ≤ 0 → pointer_count (freed w k c) (thread_name b) ≡ pointer_count w (thread_name b)
    at kind.Port c few = refl
    at kind.Section c few = refl
    at kind.Token c few = refl
    at kind.Process c few = refl
    at kind.Thread c few =
        let dead = none-pass (is_life c) w.threads (sum-second (handle_count w (thread_name c)) (count (is_life c) w.threads) few) in
        sum-same (handle_count w (thread_name b)) (count (is_life b) (without (λ t. same_birth t.birth c) w.threads)) (count (is_life b) w.threads) (count-apart (is_life b) (λ t. same_birth t.birth c) w.threads (every-more (λ t. not (is_life c t)) (λ t. not (same_birth t.birth c && is_life b t)) (dead-life b c) w.threads dead))

-- so behind a list of them
list-process : (os : List ObjectName) (w : World) (b : Birth) → every (is_unheld w) os ≡ true → pointer_count (world_after w (map Frees os)) (process_name b) ≡ pointer_count w (process_name b)
list-process [] w b all = refl
list-process (o ∷ os) w b all =
    let here : is_unheld w o ≡ true = grind arith in
    let later : every (is_unheld w) os ≡ true = grind arith in
    list-process os (basic w (Frees o)) b (every-more (is_unheld w) (is_unheld (basic w (Frees o))) (less-held w o) os later) ∙ same-process w o b here

list-thread : (os : List ObjectName) (w : World) (b : Birth) → every (is_unheld w) os ≡ true → pointer_count (world_after w (map Frees os)) (thread_name b) ≡ pointer_count w (thread_name b)
list-thread [] w b all = refl
list-thread (o ∷ os) w b all =
    let here : is_unheld w o ≡ true = grind arith in
    let later : every (is_unheld w) os ≡ true = grind arith in
    list-thread os (basic w (Frees o)) b (every-more (is_unheld w) (is_unheld (basic w (Frees o))) (less-held w o) os later) ∙ same-thread w o b here

-- Rows that go
-- fewer rows, of which none is listed
record IsThinned {X : Type 0} (name : X → ObjectName) (os : List ObjectName) (xs ys : List X) : Type 0 where
  keeps : (f : X → Bool) → every f xs ≡ true → every f ys ≡ true
  gone : every (λ x. not (is_among os (name x))) ys ≡ true

unlisted : {X : Type 0} (name : X → ObjectName) (xs : List X) → every (λ x. not (is_among [] (name x))) xs ≡ true
unlisted name [] = refl
unlisted name (x ∷ xs) = unlisted name xs

listed-parts : (n o : ObjectName) (os : List ObjectName) → not (same_object n o) ≡ true → not (is_among os n) ≡ true → not (is_among (o ∷ os) n) ≡ true
listed-parts n o os one two = grind arith

thinned : {X : Type 0} (name : X → ObjectName) (o : ObjectName) (os : List ObjectName) (xs ys zs : List X) → ((f : X → Bool) → every f xs ≡ true → every f ys ≡ true) → every (λ x. not (same_object (name x) o)) ys ≡ true → IsThinned name os ys zs → IsThinned name (o ∷ os) xs zs
thinned name o os xs ys zs keeps off later = record {
  keeps = λ f all. later.keeps f (keeps f all);
  gone = every-both (λ x. not (same_object (name x) o)) (λ x. not (is_among os (name x))) (λ x. not (is_among (o ∷ os) (name x))) (λ x one two. listed-parts (name x) o os one two) zs (later.keeps (λ x. not (same_object (name x) o)) off) later.gone;
}

process-of : ProcessRow → ObjectName
process-of p = process_name p.birth

threads-freed : (os : List ObjectName) (w : World) → IsThinned (λ t. thread_name t.birth) os w.threads (world_after w (map Frees os)).threads
threads-freed [] w = record { keeps = λ f all. all; gone = unlisted (λ t. thread_name t.birth) w.threads }
threads-freed (o ∷ os) w = at o.kind o.birth (threads-freed os)
  where
    at : (k : ObjectKind) (b : Birth) → ((v : World) → IsThinned (λ t. thread_name t.birth) os v.threads (world_after v (map Frees os)).threads) → IsThinned (λ t. thread_name t.birth) (record { kind = k; birth = b } ∷ os) w.threads (world_after (freed w k b) (map Frees os)).threads
    at kind.Port b later = thinned _ (record { kind = kind.Port; birth = b }) os w.threads w.threads _ (λ f all. all) (every-any _ (λ t. refl) w.threads) (later (freed w kind.Port b))
    at kind.Section b later = thinned _ (record { kind = kind.Section; birth = b }) os w.threads w.threads _ (λ f all. all) (every-any _ (λ t. refl) w.threads) (later (freed w kind.Section b))
    at kind.Token b later = thinned _ (record { kind = kind.Token; birth = b }) os w.threads w.threads _ (λ f all. all) (every-any _ (λ t. refl) w.threads) (later (freed w kind.Token b))
    at kind.Process b later = thinned _ (record { kind = kind.Process; birth = b }) os w.threads w.threads _ (λ f all. all) (every-any _ (λ t. refl) w.threads) (later (freed w kind.Process b))
    at kind.Thread b later = thinned _ (record { kind = kind.Thread; birth = b }) os w.threads (freed w kind.Thread b).threads _ (λ f all. every-without f (λ t. same_birth t.birth b) w.threads all) (every-left (λ t. same_birth t.birth b) w.threads) (later (freed w kind.Thread b))

processes-freed : (os : List ObjectName) (w : World) → IsThinned (λ p. process_name p.birth) os w.processes (world_after w (map Frees os)).processes
processes-freed [] w = record { keeps = λ f all. all; gone = unlisted (λ p. process_name p.birth) w.processes }
processes-freed (o ∷ os) w = at o.kind o.birth (processes-freed os)
  where
    at : (k : ObjectKind) (b : Birth) → ((v : World) → IsThinned (λ p. process_name p.birth) os v.processes (world_after v (map Frees os)).processes) → IsThinned (λ p. process_name p.birth) (record { kind = k; birth = b } ∷ os) w.processes (world_after (freed w k b) (map Frees os)).processes
    at kind.Port b later = thinned _ (record { kind = kind.Port; birth = b }) os w.processes w.processes _ (λ f all. all) (every-any _ (λ t. refl) w.processes) (later (freed w kind.Port b))
    at kind.Section b later = thinned _ (record { kind = kind.Section; birth = b }) os w.processes w.processes _ (λ f all. all) (every-any _ (λ t. refl) w.processes) (later (freed w kind.Section b))
    at kind.Token b later = thinned _ (record { kind = kind.Token; birth = b }) os w.processes w.processes _ (λ f all. all) (every-any _ (λ t. refl) w.processes) (later (freed w kind.Token b))
    at kind.Process b later = thinned _ (record { kind = kind.Process; birth = b }) os w.processes (freed w kind.Process b).processes _ (λ f all. every-without f (λ p. same_birth p.birth b) w.processes all) (every-left (λ p. same_birth p.birth b) w.processes) (later (freed w kind.Process b))
    at kind.Thread b later = thinned _ (record { kind = kind.Thread; birth = b }) os w.processes w.processes _ (λ f all. all) (every-any _ (λ t. refl) w.processes) (later (freed w kind.Thread b))

sections-freed : (os : List ObjectName) (w : World) → IsThinned (λ s. section_name s.birth) os w.sections (world_after w (map Frees os)).sections
sections-freed [] w = record { keeps = λ f all. all; gone = unlisted (λ s. section_name s.birth) w.sections }
sections-freed (o ∷ os) w = at o.kind o.birth (sections-freed os)
  where
    stay : (k : ObjectKind) (b : Birth) → ((s : SectionRow) → same_object (section_name s.birth) (record { kind = k; birth = b }) ≡ false) → (zs : List SectionRow) → IsThinned (λ s. section_name s.birth) os w.sections zs → IsThinned (λ s. section_name s.birth) (record { kind = k; birth = b } ∷ os) w.sections zs
    stay k b off zs later = thinned _ (record { kind = k; birth = b }) os w.sections w.sections zs (λ f all. all) (every-any (λ s. not (same_object (section_name s.birth) (record { kind = k; birth = b }))) (λ s. ap not (off s)) w.sections) later

    at : (k : ObjectKind) (b : Birth) → ((v : World) → IsThinned (λ s. section_name s.birth) os v.sections (world_after v (map Frees os)).sections) → IsThinned (λ s. section_name s.birth) (record { kind = k; birth = b } ∷ os) w.sections (world_after (freed w k b) (map Frees os)).sections
    at kind.Port b later = stay kind.Port b (λ s. refl) _ (later (freed w kind.Port b))
    at kind.Section b later = thinned _ (section_name b) os w.sections (freed w kind.Section b).sections _ (λ f all. every-without f (is_section b) w.sections all) (every-left (is_section b) w.sections) (later (freed w kind.Section b))
    at kind.Token b later = stay kind.Token b (λ s. refl) _ (later (freed w kind.Token b))
    at kind.Process b later = stay kind.Process b (λ s. refl) _ (later (freed w kind.Process b))
    at kind.Thread b later = stay kind.Thread b (λ s. refl) _ (later (freed w kind.Thread b))

tokens-freed : (os : List ObjectName) (w : World) → IsThinned (λ t. token_name t.birth) os w.tokens (world_after w (map Frees os)).tokens
tokens-freed [] w = record { keeps = λ f all. all; gone = unlisted (λ t. token_name t.birth) w.tokens }
tokens-freed (o ∷ os) w = at o.kind o.birth (tokens-freed os)
  where
    stay : (k : ObjectKind) (b : Birth) → ((t : TokenRow) → same_object (token_name t.birth) (record { kind = k; birth = b }) ≡ false) → (zs : List TokenRow) → IsThinned (λ t. token_name t.birth) os w.tokens zs → IsThinned (λ t. token_name t.birth) (record { kind = k; birth = b } ∷ os) w.tokens zs
    stay k b off zs later = thinned _ (record { kind = k; birth = b }) os w.tokens w.tokens zs (λ f all. all) (every-any (λ t. not (same_object (token_name t.birth) (record { kind = k; birth = b }))) (λ t. ap not (off t)) w.tokens) later

    at : (k : ObjectKind) (b : Birth) → ((v : World) → IsThinned (λ t. token_name t.birth) os v.tokens (world_after v (map Frees os)).tokens) → IsThinned (λ t. token_name t.birth) (record { kind = k; birth = b } ∷ os) w.tokens (world_after (freed w k b) (map Frees os)).tokens
    at kind.Port b later = stay kind.Port b (λ t. refl) _ (later (freed w kind.Port b))
    at kind.Section b later = stay kind.Section b (λ t. refl) _ (later (freed w kind.Section b))
    at kind.Token b later = thinned _ (token_name b) os w.tokens (freed w kind.Token b).tokens _ (λ f all. every-without f (is_token b) w.tokens all) (every-left (is_token b) w.tokens) (later (freed w kind.Token b))
    at kind.Process b later = stay kind.Process b (λ t. refl) _ (later (freed w kind.Process b))
    at kind.Thread b later = stay kind.Thread b (λ t. refl) _ (later (freed w kind.Thread b))

-- as many rows count for a section, whatever goes
pub same-section : (w : World) (o : ObjectName) (b : Birth) → pointer_count (basic w (Frees o)) (section_name b) ≡ pointer_count w (section_name b)
same-section w o b = at o.kind o.birth
  where
    at : (k : ObjectKind) (c : Birth) → pointer_count (freed w k c) (section_name b) ≡ pointer_count w (section_name b)
    at kind.Port c = refl
    at kind.Section c = refl
    at kind.Token c = refl
    at kind.Process c = refl
    at kind.Thread c = refl

list-section : (os : List ObjectName) (w : World) (b : Birth) → pointer_count (world_after w (map Frees os)) (section_name b) ≡ pointer_count w (section_name b)
list-section [] w b = refl
list-section (o ∷ os) w b = list-section os (basic w (Frees o)) b ∙ same-section w o b

-- as many rows count for a token, whatever goes
pub same-token : (w : World) (o : ObjectName) (b : Birth) → pointer_count (basic w (Frees o)) (token_name b) ≡ pointer_count w (token_name b)
same-token w o b = at o.kind o.birth
  where
    at : (k : ObjectKind) (c : Birth) → pointer_count (freed w k c) (token_name b) ≡ pointer_count w (token_name b)
    at kind.Port c = refl
    at kind.Section c = refl
    at kind.Token c = refl
    at kind.Process c = refl
    at kind.Thread c = refl

list-token : (os : List ObjectName) (w : World) (b : Birth) → pointer_count (world_after w (map Frees os)) (token_name b) ≡ pointer_count w (token_name b)
list-token [] w b = refl
list-token (o ∷ os) w b = list-token os (basic w (Frees o)) b ∙ same-token w o b

-- Rows that no row names are listed
members : {X : Type 0} (w : World) (name : X → ObjectName) → ((x : X) → same_object (name x) (name x) ≡ true) → (xs : List X) → every (λ x. not (is_unheld w (name x)) || is_among (which (is_unheld w) (map name xs)) (name x)) xs ≡ true
members w name own [] = refl
members {X = X} w name own (z ∷ zs) = at (members w name own zs) (is_unheld w (name z)) refl
  where
    more : (n o : ObjectName) (os : List ObjectName) (u : Bool) → (not u || is_among os n) ≡ true → (not u || is_among (o ∷ os) n) ≡ true
    more n o os u is = grind arith

    head : (n : ObjectName) (os : List ObjectName) → same_object n n ≡ true → is_among (n ∷ os) n ≡ true
    head n os is = rw is refl

    at : every (λ x. not (is_unheld w (name x)) || is_among (which (is_unheld w) (map name zs)) (name x)) zs ≡ true → (u : Bool) → is_unheld w (name z) ≡ u → every (λ x. not (is_unheld w (name x)) || is_among (which (is_unheld w) (map name (z ∷ zs))) (name x)) (z ∷ zs) ≡ true
    at later true is =
        let first = head (name z) (which (is_unheld w) (map name zs)) (own z) in
        let rest = every-more (λ x. not (is_unheld w (name x)) || is_among (which (is_unheld w) (map name zs)) (name x)) (λ x. not (is_unheld w (name x)) || is_among (name z ∷ which (is_unheld w) (map name zs)) (name x)) (λ x one. more (name x) (name z) (which (is_unheld w) (map name zs)) (is_unheld w (name x)) one) zs later in grind arith
    at later false is = grind (arith, later)

has-front : {X : Type 0} (p g : X → Bool) (xs ys : List X) → has p (which g xs) ≡ true → has p (which g (xs ++ ys)) ≡ true
has-front p g [] ys is = absurd (cc)
has-front p g (x ∷ xs) ys is = grind (arith, has-front p g xs ys)

swept-same : (u v : ℕ) → u ≡ v → not (v == 0) ≡ true → not (u == 0) ≡ true
swept-same u v is held = rw is held

module _ (w : World) where
  abbrev once_swept : World
  once_swept = world_after w (free_unheld w)

  abbrev twice_swept : World
  twice_swept = world_after once_swept (free_unheld once_swept)

  pub threads-held : every (λ t. not (is_unheld twice_swept (thread_name t.birth))) twice_swept.threads ≡ true
  threads-held =
      let one = threads-freed (unheld w) w in
      let two = threads-freed (unheld once_swept) once_swept in
      let rest = map (λ (p : PortRow). port_name p.birth) w.ports in
      let listed = every-more (λ (t : ThreadRow). not (is_unheld w (thread_name t.birth)) || is_among (which (is_unheld w) (map (λ t. thread_name t.birth) w.threads)) (thread_name t.birth)) (λ (t : ThreadRow). not (is_unheld w (thread_name t.birth)) || is_among (unheld w) (thread_name t.birth))
      (λ t is. unless-more (is_unheld w (thread_name t.birth)) _ _ (λ here. has-behind (λ o. same_object (thread_name t.birth) o) (is_unheld w) (map (λ t. token_name t.birth) w.tokens) (map (λ s. section_name s.birth) w.sections ++ (map (λ p. process_name p.birth) w.processes ++ (map (λ t. thread_name t.birth) w.threads ++ rest))) (has-behind (λ o. same_object (thread_name t.birth) o) (is_unheld w) (map (λ s. section_name s.birth) w.sections) (map (λ p. process_name p.birth) w.processes ++ (map (λ t. thread_name t.birth) w.threads ++ rest)) (has-behind (λ o. same_object (thread_name t.birth) o) (is_unheld w) (map (λ p. process_name p.birth) w.processes) (map (λ t. thread_name t.birth) w.threads ++ rest) (has-front (λ o. same_object (thread_name t.birth) o) (is_unheld w) (map (λ t. thread_name t.birth) w.threads) rest here)))) is) w.threads (members w (λ t. thread_name t.birth) (λ t. birth-self t.birth) w.threads) in
      let held = every-both (λ (t : ThreadRow). not (is_unheld w (thread_name t.birth)) || is_among (unheld w) (thread_name t.birth)) (λ t. not (is_among (unheld w) (thread_name t.birth))) (λ t. not (is_unheld w (thread_name t.birth))) (λ t one two. not-passing _ _ one two) once_swept.threads (one.keeps _ listed) one.gone in
      every-more (λ t. not (is_unheld w (thread_name t.birth))) (λ t. not (is_unheld twice_swept (thread_name t.birth))) (λ t is. swept-same _ _ (list-thread (unheld once_swept) once_swept t.birth (which-all (is_unheld once_swept) _) ∙ list-thread (unheld w) w t.birth (which-all (is_unheld w) _)) is) twice_swept.threads (two.keeps _ held)

  pub processes-held : every (λ p. not (is_unheld twice_swept (process_name p.birth))) twice_swept.processes ≡ true
  processes-held =
      let one = processes-freed (unheld w) w in
      let two = processes-freed (unheld once_swept) once_swept in
      let rest = map (λ (t : ThreadRow). thread_name t.birth) w.threads ++ map (λ (p : PortRow). port_name p.birth) w.ports in
      let listed = every-more (λ (p : ProcessRow). not (is_unheld w (process_name p.birth)) || is_among (which (is_unheld w) (map (λ p. process_name p.birth) w.processes)) (process_name p.birth)) (λ (p : ProcessRow). not (is_unheld w (process_name p.birth)) || is_among (unheld w) (process_name p.birth))
      (λ p is. unless-more (is_unheld w (process_name p.birth)) _ _ (λ here. has-behind (λ o. same_object (process_name p.birth) o) (is_unheld w) (map (λ t. token_name t.birth) w.tokens) (map (λ s. section_name s.birth) w.sections ++ (map (λ p. process_name p.birth) w.processes ++ rest)) (has-behind (λ o. same_object (process_name p.birth) o) (is_unheld w) (map (λ s. section_name s.birth) w.sections) (map (λ p. process_name p.birth) w.processes ++ rest) (has-front (λ o. same_object (process_name p.birth) o) (is_unheld w) (map (λ p. process_name p.birth) w.processes) rest here))) is) w.processes (members w (λ p. process_name p.birth) (λ p. birth-self p.birth) w.processes) in
      let held = every-both (λ (p : ProcessRow). not (is_unheld w (process_name p.birth)) || is_among (unheld w) (process_name p.birth)) (λ p. not (is_among (unheld w) (process_name p.birth))) (λ p. not (is_unheld w (process_name p.birth))) (λ p one two. not-passing _ _ one two) once_swept.processes (one.keeps _ listed) one.gone in
      every-more (λ p. not (is_unheld w (process_name p.birth))) (λ p. not (is_unheld twice_swept (process_name p.birth))) (λ p is. swept-same _ _ (list-process (unheld once_swept) once_swept p.birth (which-all (is_unheld once_swept) _) ∙ list-process (unheld w) w p.birth (which-all (is_unheld w) _)) is) twice_swept.processes (two.keeps _ held)

  pub sections-held : every (λ s. not (is_unheld twice_swept (section_name s.birth))) twice_swept.sections ≡ true
  sections-held =
      let one = sections-freed (unheld w) w in
      let two = sections-freed (unheld once_swept) once_swept in
      let rest = map (λ (p : ProcessRow). process_name p.birth) w.processes ++ (map (λ (t : ThreadRow). thread_name t.birth) w.threads ++ map (λ (p : PortRow). port_name p.birth) w.ports) in
      let listed = every-more (λ (s : SectionRow). not (is_unheld w (section_name s.birth)) || is_among (which (is_unheld w) (map (λ s. section_name s.birth) w.sections)) (section_name s.birth)) (λ (s : SectionRow). not (is_unheld w (section_name s.birth)) || is_among (unheld w) (section_name s.birth))
      (λ s is. unless-more (is_unheld w (section_name s.birth)) _ _ (λ here. has-behind (λ o. same_object (section_name s.birth) o) (is_unheld w) (map (λ t. token_name t.birth) w.tokens) (map (λ s. section_name s.birth) w.sections ++ rest) (has-front (λ o. same_object (section_name s.birth) o) (is_unheld w) (map (λ s. section_name s.birth) w.sections) rest here)) is) w.sections (members w (λ s. section_name s.birth) (λ s. birth-self s.birth) w.sections) in
      let held = every-both (λ (s : SectionRow). not (is_unheld w (section_name s.birth)) || is_among (unheld w) (section_name s.birth)) (λ s. not (is_among (unheld w) (section_name s.birth))) (λ s. not (is_unheld w (section_name s.birth))) (λ s one two. not-passing _ _ one two) once_swept.sections (one.keeps _ listed) one.gone in
      every-more (λ s. not (is_unheld w (section_name s.birth))) (λ s. not (is_unheld twice_swept (section_name s.birth))) (λ s is. swept-same _ _ (list-section (unheld once_swept) once_swept s.birth ∙ list-section (unheld w) w s.birth) is) twice_swept.sections (two.keeps _ held)

  pub tokens-held : every (λ t. not (is_unheld twice_swept (token_name t.birth))) twice_swept.tokens ≡ true
  tokens-held =
      let one = tokens-freed (unheld w) w in
      let two = tokens-freed (unheld once_swept) once_swept in
      let rest = map (λ (s : SectionRow). section_name s.birth) w.sections ++ (map (λ (p : ProcessRow). process_name p.birth) w.processes ++ (map (λ (t : ThreadRow). thread_name t.birth) w.threads ++ map (λ (p : PortRow). port_name p.birth) w.ports)) in
      let listed = every-more (λ (t : TokenRow). not (is_unheld w (token_name t.birth)) || is_among (which (is_unheld w) (map (λ t. token_name t.birth) w.tokens)) (token_name t.birth)) (λ (t : TokenRow). not (is_unheld w (token_name t.birth)) || is_among (unheld w) (token_name t.birth))
      (λ t is. unless-more (is_unheld w (token_name t.birth)) _ _ (λ here. has-front (λ o. same_object (token_name t.birth) o) (is_unheld w) (map (λ t. token_name t.birth) w.tokens) rest here) is) w.tokens (members w (λ t. token_name t.birth) (λ t. birth-self t.birth) w.tokens) in
      let held = every-both (λ (t : TokenRow). not (is_unheld w (token_name t.birth)) || is_among (unheld w) (token_name t.birth)) (λ t. not (is_among (unheld w) (token_name t.birth))) (λ t. not (is_unheld w (token_name t.birth))) (λ t one two. not-passing _ _ one two) once_swept.tokens (one.keeps _ listed) one.gone in
      every-more (λ t. not (is_unheld w (token_name t.birth))) (λ t. not (is_unheld twice_swept (token_name t.birth))) (λ t is. swept-same _ _ (list-token (unheld once_swept) once_swept t.birth ∙ list-token (unheld w) w t.birth) is) twice_swept.tokens (two.keeps _ held)
