-- A port that no row names may go ahead of the sweep: the sweep leaves the same world.
use Rattle.std.proofs.Common.{◌≡◌, ◌∙◌, ℕ, List, [], ◌∷◌, ◌++◌, Bool, true, false, map, not, Option, Some, None, refl, sym, ap, subst, arith, append-nil}
use Rattle.std.specs.Prelude.{◌&&◌, ◌||◌, ◌==◌, is_none, if◌then◌else◌}
use Rattle.std.proofs.lemmas.Bool.{and_from, eqb-true, or_left, or_right}
use Rattle.lpc_base.specs.Rows.{every, first, has, which, without}
use Rattle.lpc_base.proofs.RowWords.{every-append, every-more}
use Rattle.lpc_base.proofs.RowMaps.{every-map}
use Rattle.lpc_base.proofs.Births.{birth-same, birth-self, birth-turned}
use Rattle.lpc_base.proofs.Bools.{or-last}
use Rattle.lpc_model.specs.declared.entry.ObjectKind.TheVariants as kind
use Rattle.lpc_model.specs.World.{Birth, ContentRow, Contents, Known, MessageRow, ObjectKind, ObjectName, PortRow, ProcessRow, SectionRow, ThreadRow, Unknown, World, TokenRow}
use Rattle.lpc_model.specs.Found.{all_registrations, is_connected_to, is_content, is_paired_to, is_port, is_section, is_the, kind_rank, object_names, port_name, process_name, same_birth, same_kind, same_object, section_name, thread_name, token_name, event_ports}
use Rattle.lpc_model.specs.declared.entry.Entry.{Entry}
use Rattle.lpc_model.specs.Lines.{ScriptLine}
use Rattle.lpc_model.specs.Machine.{Stepped, bare_step, bare_steps, step}
use Rattle.lpc_model.specs.Basics.{Basic, Frees, basic, entries_of, freed, in_known, posted, posts_of, told, world_after}
use Rattle.lpc_model.specs.Sweep.{free_unheld, is_unheld, sweep, unheld}
use Rattle.lpc_model.specs.Linked.{AreLivesHeld, HasHeldPorts, HasHeldRows, HasHeldSections, IsLinked, names_nothing, HasHeldTokens}
use Rattle.lpc_model.proofs.Steps.Rows.{has-append, has-less, has-without}
use Rattle.lpc_model.proofs.Sound.Frees.{frees-registrations, less-held, which-all}
use Rattle.lpc_model.proofs.Held.Ports.{connected-end, found-self, is_held_aside, lonely, unheld-parts, without-same, without-twice}
use Rattle.lpc_model.proofs.Steps.InTurn.{after-append}
use Rattle.lpc_model.proofs.Held.Events.{frees-events}
use Rattle.lpc_model.specs.Left.{HasLivingPorts}

-- Names of objects
kind_of : ℕ → ObjectKind
kind_of n = if n == 0 then kind.Port else (if n == 1 then kind.Section else (if n == 2 then kind.Token else (if n == 3 then kind.Process else kind.Thread)))

kind-of-rank : (k : ObjectKind) → kind_of (kind_rank k) ≡ k
unfolding kind_of
kind-of-rank kind.Port = refl
kind-of-rank kind.Section = refl
kind-of-rank kind.Token = refl
kind-of-rank kind.Process = refl
kind-of-rank kind.Thread = refl

kind-same : (k l : ObjectKind) → same_kind k l ≡ true → k ≡ l
kind-same k l is = sym (kind-of-rank k) ∙ (ap kind_of (eqb-true _ _ is) ∙ kind-of-rank l)

name-parts : (k l : ObjectKind) (b c : Birth) → k ≡ l → b ≡ c → let x : ObjectName = record { kind = k; birth = b } in let y : ObjectName = record { kind = l; birth = c } in x ≡ y
name-parts k l b c one two = rw (one, two) refl

-- two names of one object are equal
object-same : (a b : ObjectName) → same_object a b ≡ true → a ≡ b
object-same a b is =
    let kinds : same_kind a.kind b.kind ≡ true = grind arith in
    let births : same_birth a.birth b.birth ≡ true = grind arith in
    name-parts a.kind b.kind a.birth b.birth (kind-same _ _ kinds) (birth-same _ _ births)

-- a name stands in a list of names
abbrev pub is_among : List ObjectName → ObjectName → Bool
is_among os n = has (λ o. same_object n o) os

among-parts : (n o : ObjectName) (os : List ObjectName) → is_among (o ∷ os) n ≡ (same_object n o || is_among os n)
among-parts n o os = grind arith

-- a name that a test keeps stands among those that it keeps
among-which : (u : ObjectName → Bool) (n : ObjectName) (os : List ObjectName) → is_among (which u os) n ≡ (is_among os n && u n)
among-which u n [] = refl
among-which u n (o ∷ os) = at (same_object n o) refl (u o) refl (among-which u n os)
  where
    at : (c : Bool) → same_object n o ≡ c → (k : Bool) → u o ≡ k → is_among (which u os) n ≡ (is_among os n && u n) → is_among (which u (o ∷ os)) n ≡ (is_among (o ∷ os) n && u n)
    at true same true kept later = let here : u n ≡ true = ap u (object-same n o same) ∙ kept in grind arith
    at true same false off later = let here : u n ≡ false = ap u (object-same n o same) ∙ off in grind arith
    at false other k kept later = grind arith

-- Rows that go by a list of names
without-on : {X : Type 0} (s t ok : X → Bool) → ((x : X) → ok x ≡ true → s x ≡ t x) → (xs : List X) → every ok xs ≡ true → without s xs ≡ without t xs
without-on s t ok same [] all = refl
without-on s t ok same (x ∷ xs) all = grind (arith, same x, without-on s t ok same xs)

all-stay : {X : Type 0} (xs : List X) → without (λ _. false) xs ≡ xs
all-stay [] = refl
all-stay (x ∷ xs) = grind (arith, all-stay xs)

-- the world without the rows of some objects
abbrev without_named : (ObjectName → Bool) → World → World
without_named goes w = record w {
  processes = without (λ p. goes (process_name p.birth)) w.processes;
  threads = without (λ t. goes (thread_name t.birth)) w.threads;
  ports = without (λ p. goes (port_name p.birth)) w.ports;
  sections = without (λ s. goes (section_name s.birth)) w.sections;
  tokens = without (λ t. goes (token_name t.birth)) w.tokens;
  contents = in_known (without (λ c. goes (section_name c.section))) w.contents;
}

pub rows-same : (w : World) (ps qs : List ProcessRow) (ts us : List ThreadRow) (xs ys : List PortRow) (ss rs : List SectionRow) (cs ds : Contents) (os ns : List TokenRow) → ps ≡ qs → ts ≡ us → xs ≡ ys → ss ≡ rs → cs ≡ ds → os ≡ ns
    → let v : World = record w { processes = ps; threads = ts; ports = xs; sections = ss; contents = cs; tokens = os } in let u : World = record w { processes = qs; threads = us; ports = ys; sections = rs; contents = ds; tokens = ns } in v ≡ u
rows-same w ps qs ts us xs ys ss rs cs ds os ns one two three four five six = rw (one, two, three, four, five, six) refl

-- bytes that go by a test
known-same : (f g : List ContentRow → List ContentRow) → ((rows : List ContentRow) → f rows ≡ g rows) → (k : Contents) → in_known f k ≡ in_known g k
known-same f g same (Known rows) = ap Known (same rows)
known-same f g same Unknown = refl

known-none : (k : Contents) → in_known (without (λ _. false)) k ≡ k
known-none (Known rows) = ap Known (all-stay rows)
known-none Unknown = refl

pub known-twice : (f g h : List ContentRow → List ContentRow) → ((rows : List ContentRow) → g (f rows) ≡ h rows) → (k : Contents) → in_known g (in_known f k) ≡ in_known h k
known-twice f g h both (Known rows) = ap Known (both rows)
known-twice f g h both Unknown = refl

-- one name more
module _ {X : Type 0} (name : X → ObjectName) (o : ObjectName) (os : List ObjectName) where
  gone-also : (xs : List X) → without (λ x. is_among os (name x)) (without (λ x. same_object (name x) o) xs) ≡ without (λ x. is_among (o ∷ os) (name x)) xs
  gone-also = without-twice (λ x. same_object (name x) o) (λ x. is_among os (name x)) (λ x. is_among (o ∷ os) (name x)) (λ x. among-parts (name x) o os)

  not-also : ((x : X) → same_object (name x) o ≡ false) → (xs : List X) → without (λ x. is_among os (name x)) xs ≡ without (λ x. is_among (o ∷ os) (name x)) xs
  not-also off = without-same (λ x. is_among os (name x)) (λ x. is_among (o ∷ os) (name x)) (λ x. among-parts (name x) o os ∙ parts _ _ (off x))
    where
      parts : (a b : Bool) → a ≡ false → (a || b) ≡ b
      parts a b is = rw is refl

-- a list of frees leaves the rows that it doesn't name
freed-named : (os : List ObjectName) (w : World) → world_after w (map Frees os) ≡ without_named (is_among os) w
freed-named [] w = sym (rows-same w _ w.processes _ w.threads _ w.ports _ w.sections _ w.contents _ w.tokens (all-stay w.processes) (all-stay w.threads) (all-stay w.ports) (all-stay w.sections) (known-none w.contents) (all-stay w.tokens))
freed-named (o ∷ os) w = at o.kind o.birth (freed-named os)
  where
    at : (k : ObjectKind) (b : Birth) → ((v : World) → world_after v (map Frees os) ≡ without_named (is_among os) v) → let o : ObjectName = record { kind = k; birth = b } in world_after w (map Frees (o ∷ os)) ≡ without_named (is_among (o ∷ os)) w
    at kind.Port b later =
        let o : ObjectName = port_name b in
        later (freed w kind.Port b) ∙ rows-same w _ _ _ _ _ _ _ _ _ _ _ _ (not-also (λ p. process_name p.birth) o os (λ p. refl) w.processes) (not-also (λ t. thread_name t.birth) o os (λ t. refl) w.threads) (gone-also (λ p. port_name p.birth) o os w.ports)
        (not-also (λ s. section_name s.birth) o os (λ s. refl) w.sections) (known-same (without (λ c. is_among os (section_name c.section))) (without (λ c. is_among (o ∷ os) (section_name c.section))) (not-also (λ c. section_name c.section) o os (λ c. refl)) w.contents) (not-also (λ t. token_name t.birth) o os (λ t. refl) w.tokens)
    at kind.Section b later =
        let o : ObjectName = section_name b in
        later (freed w kind.Section b) ∙ rows-same w _ _ _ _ _ _ _ _ _ _ _ _ (not-also (λ p. process_name p.birth) o os (λ p. refl) w.processes) (not-also (λ t. thread_name t.birth) o os (λ t. refl) w.threads) (not-also (λ p. port_name p.birth) o os (λ p. refl) w.ports)
        (gone-also (λ s. section_name s.birth) o os w.sections) (known-twice (without (is_content b)) (without (λ c. is_among os (section_name c.section))) (without (λ c. is_among (o ∷ os) (section_name c.section))) (gone-also (λ c. section_name c.section) o os) w.contents) (not-also (λ t. token_name t.birth) o os (λ t. refl) w.tokens)
    at kind.Token b later =
        let o : ObjectName = record { kind = kind.Token; birth = b } in
        later (freed w kind.Token b) ∙ rows-same w _ _ _ _ _ _ _ _ _ _ _ _ (not-also (λ p. process_name p.birth) o os (λ p. refl) w.processes) (not-also (λ t. thread_name t.birth) o os (λ t. refl) w.threads) (not-also (λ p. port_name p.birth) o os (λ p. refl) w.ports)
        (not-also (λ s. section_name s.birth) o os (λ s. refl) w.sections) (known-same (without (λ c. is_among os (section_name c.section))) (without (λ c. is_among (o ∷ os) (section_name c.section))) (not-also (λ c. section_name c.section) o os (λ c. refl)) w.contents) (gone-also (λ t. token_name t.birth) o os w.tokens)
    at kind.Process b later =
        let o : ObjectName = process_name b in
        later (freed w kind.Process b) ∙ rows-same w _ _ _ _ _ _ _ _ _ _ _ _ (gone-also (λ p. process_name p.birth) o os w.processes) (not-also (λ t. thread_name t.birth) o os (λ t. refl) w.threads) (not-also (λ p. port_name p.birth) o os (λ p. refl) w.ports)
        (not-also (λ s. section_name s.birth) o os (λ s. refl) w.sections) (known-same (without (λ c. is_among os (section_name c.section))) (without (λ c. is_among (o ∷ os) (section_name c.section))) (not-also (λ c. section_name c.section) o os (λ c. refl)) w.contents) (not-also (λ t. token_name t.birth) o os (λ t. refl) w.tokens)
    at kind.Thread b later =
        let o : ObjectName = thread_name b in
        later (freed w kind.Thread b) ∙ rows-same w _ _ _ _ _ _ _ _ _ _ _ _ (not-also (λ p. process_name p.birth) o os (λ p. refl) w.processes) (gone-also (λ t. thread_name t.birth) o os w.threads) (not-also (λ p. port_name p.birth) o os (λ p. refl) w.ports)
        (not-also (λ s. section_name s.birth) o os (λ s. refl) w.sections) (known-same (without (λ c. is_among os (section_name c.section))) (without (λ c. is_among (o ∷ os) (section_name c.section))) (not-also (λ c. section_name c.section) o os (λ c. refl)) w.contents) (not-also (λ t. token_name t.birth) o os (λ t. refl) w.tokens)

-- A pass
self-among : {X : Type 0} (name : X → ObjectName) → ((x : X) → same_object (name x) (name x) ≡ true) → (xs : List X) → every (λ x. is_among (map name xs) (name x)) xs ≡ true
self-among name own [] = refl
self-among {X = X} name own (x ∷ xs) =
    let later = every-more (λ y. is_among (map name xs) (name y)) (λ y. is_among (name x ∷ map name xs) (name y)) (λ y is. more (name y) (name x) (map name xs) is) xs (self-among name own xs) in
    and_from (is_among (name x ∷ map name xs) (name x)) _ (here (name x) (map name xs) (own x)) later
  where
    more : (n o : ObjectName) (os : List ObjectName) → is_among os n ≡ true → is_among (o ∷ os) n ≡ true
    more n o os is = grind arith

    here : (n : ObjectName) (os : List ObjectName) → same_object n n ≡ true → is_among (n ∷ os) n ≡ true
    here n os is = rw is refl

among-front : (n : ObjectName) (os ps : List ObjectName) → is_among os n ≡ true → is_among (os ++ ps) n ≡ true
among-front n os ps is = has-append (λ o. same_object n o) os ps ∙ or_left _ _ is

among-back : (n : ObjectName) (os ps : List ObjectName) → is_among ps n ≡ true → is_among (os ++ ps) n ≡ true
among-back n os ps is = has-append (λ o. same_object n o) os ps ∙ or_right _ _ is

-- the world without the rows that no row names, and without the bytes of sections that go
abbrev pub goes_section : World → Birth → Bool
goes_section w b = has (is_section b) w.sections && is_unheld w (section_name b)

abbrev pub passed : World → World
passed w = record (without_named (is_unheld w) w) { contents = in_known (without (λ c. goes_section w c.section)) w.contents }

-- a section's name stands among those of sections alone
section-among : (w : World) (b : Birth) → is_among (object_names w) (section_name b) ≡ has (is_section b) w.sections
section-among w b =
    has-append (λ o. same_object (section_name b) o) (map (λ t. token_name t.birth) w.tokens) _
    ∙ later _ _ (others (λ t. token_name t.birth) (λ t. refl) w.tokens) (has-append (λ o. same_object (section_name b) o) (map (λ s. section_name s.birth) w.sections) _
    ∙ parts _ _ _ (own w.sections) (has-append (λ o. same_object (section_name b) o) (map (λ p. process_name p.birth) w.processes) _
    ∙ parts _ _ false (others (λ p. process_name p.birth) (λ p. refl) w.processes) (has-append (λ o. same_object (section_name b) o) (map (λ t. thread_name t.birth) w.threads) _
    ∙ parts _ _ false (others (λ t. thread_name t.birth) (λ t. refl) w.threads) (others (λ p. port_name p.birth) (λ p. refl) w.ports))))
  where
    later : (x y : Bool) {z : Bool} → x ≡ false → y ≡ z → (x || y) ≡ z
    later x y one two = grind arith

    parts : (x y z : Bool) → x ≡ z → y ≡ false → (x || y) ≡ z
    parts x y z one two = grind arith

    others : {X : Type 0} (name : X → ObjectName) → ((x : X) → same_object (section_name b) (name x) ≡ false) → (xs : List X) → has (λ o. same_object (section_name b) o) (map name xs) ≡ false
    others name off [] = refl
    others name off (x ∷ xs) = let one = off x in grind (arith, others name off xs)

    own : (ss : List SectionRow) → has (λ o. same_object (section_name b) o) (map (λ s. section_name s.birth) ss) ≡ has (is_section b) ss
    own [] = refl
    own (s ∷ ss) = let one = birth-turned s.birth b in grind (arith, own ss)

pass-frees : (w : World) → world_after w (free_unheld w) ≡ passed w
pass-frees w =
    let ks = map (λ (t : TokenRow). token_name t.birth) w.tokens in
    let ss = map (λ (s : SectionRow). section_name s.birth) w.sections in
    let ps = map (λ (p : ProcessRow). process_name p.birth) w.processes in
    let ts = map (λ (t : ThreadRow). thread_name t.birth) w.threads in
    let xs = map (λ (p : PortRow). port_name p.birth) w.ports in
    freed-named (unheld w) w ∙ rows-same w _ _ _ _ _ _ _ _ _ _ _ _
    (without-on (λ p. is_among (unheld w) (process_name p.birth)) (λ p. is_unheld w (process_name p.birth)) (λ p. is_among (object_names w) (process_name p.birth)) (λ p is. goes (process_name p.birth) is) w.processes
    (every-more (λ p. is_among ps (process_name p.birth)) _ (λ p is. among-back (process_name p.birth) ks (ss ++ (ps ++ (ts ++ xs))) (among-back (process_name p.birth) ss (ps ++ (ts ++ xs)) (among-front (process_name p.birth) ps (ts ++ xs) is))) w.processes (self-among (λ p. process_name p.birth) (λ p. birth-self p.birth) w.processes)))
    (without-on (λ t. is_among (unheld w) (thread_name t.birth)) (λ t. is_unheld w (thread_name t.birth)) (λ t. is_among (object_names w) (thread_name t.birth)) (λ t is. goes (thread_name t.birth) is) w.threads
    (every-more (λ t. is_among ts (thread_name t.birth)) _ (λ t is. among-back (thread_name t.birth) ks (ss ++ (ps ++ (ts ++ xs))) (among-back (thread_name t.birth) ss (ps ++ (ts ++ xs)) (among-back (thread_name t.birth) ps (ts ++ xs) (among-front (thread_name t.birth) ts xs is)))) w.threads (self-among (λ t. thread_name t.birth) (λ t. birth-self t.birth) w.threads)))
    (without-on (λ p. is_among (unheld w) (port_name p.birth)) (λ p. is_unheld w (port_name p.birth)) (λ p. is_among (object_names w) (port_name p.birth)) (λ p is. goes (port_name p.birth) is) w.ports
    (every-more (λ p. is_among xs (port_name p.birth)) _ (λ p is. among-back (port_name p.birth) ks (ss ++ (ps ++ (ts ++ xs))) (among-back (port_name p.birth) ss (ps ++ (ts ++ xs)) (among-back (port_name p.birth) ps (ts ++ xs) (among-back (port_name p.birth) ts xs is)))) w.ports (self-among (λ p. port_name p.birth) (λ p. birth-self p.birth) w.ports)))
    (without-on (λ s. is_among (unheld w) (section_name s.birth)) (λ s. is_unheld w (section_name s.birth)) (λ s. is_among (object_names w) (section_name s.birth)) (λ s is. goes (section_name s.birth) is) w.sections
    (every-more (λ s. is_among ss (section_name s.birth)) _ (λ s is. among-back (section_name s.birth) ks (ss ++ (ps ++ (ts ++ xs))) (among-front (section_name s.birth) ss (ps ++ (ts ++ xs)) is)) w.sections (self-among (λ s. section_name s.birth) (λ s. birth-self s.birth) w.sections)))
    (known-same (without (λ c. is_among (unheld w) (section_name c.section))) (without (λ c. goes_section w c.section)) (without-same (λ c. is_among (unheld w) (section_name c.section)) (λ c. goes_section w c.section) (λ c. sym (among-which (is_unheld w) (section_name c.section) (object_names w) ∙ ap (λ k. k && is_unheld w (section_name c.section)) (section-among w c.section)))) w.contents)
    (without-on (λ t. is_among (unheld w) (token_name t.birth)) (λ t. is_unheld w (token_name t.birth)) (λ t. is_among (object_names w) (token_name t.birth)) (λ t is. goes (token_name t.birth) is) w.tokens
    (every-more (λ t. is_among ks (token_name t.birth)) _ (λ t is. among-front (token_name t.birth) ks (ss ++ (ps ++ (ts ++ xs))) is) w.tokens (self-among (λ t. token_name t.birth) (λ t. birth-self t.birth) w.tokens)))
  where
    goes : (n : ObjectName) → is_among (object_names w) n ≡ true → is_among (unheld w) n ≡ is_unheld w n
    goes n is = among-which (is_unheld w) n (object_names w) ∙ (rw is refl)

pub sweep-passes : (w : World) → world_after w (sweep w) ≡ passed (passed w)
unfolding sweep
sweep-passes w =
    let v = world_after w (free_unheld w) in
    after-append w (free_unheld w) (free_unheld v) ∙ (pass-frees v ∙ ap passed (pass-frees w))

-- live threads stay, and what they registered
passed-registrations : (w : World) → all_registrations (passed w) ≡ all_registrations w
passed-registrations w = ap all_registrations (sym (pass-frees w)) ∙ frees-registrations w (unheld w) (which-all (is_unheld w) _)

passed-events : (w : World) → HasLivingPorts w → event_ports (passed w) ≡ event_ports w
passed-events w e = ap event_ports (sym (pass-frees w)) ∙ (frees-events w (unheld w) (which-all (is_unheld w) _) e).0

passed-aside : (w : World) → HasLivingPorts w → (b : Birth) → is_held_aside (passed w) b ≡ is_held_aside w b
passed-aside w e b = rw (passed-registrations w, passed-events w e) refl

-- a port that no row counts for behind a pass
passed-parts : (w : World) → HasLivingPorts w → (b : Birth) → is_unheld (passed w) (port_name b) ≡ not (is_held_aside w b || (has (is_paired_to b) (passed w).ports || has (is_connected_to b) (passed w).ports))
passed-parts w e b = subst (λ a. is_unheld (passed w) (port_name b) ≡ not (a || (has (is_paired_to b) (passed w).ports || has (is_connected_to b) (passed w).ports))) (passed-aside w e b) (unheld-parts (passed w) b)

-- Ports that go
has-apart : {X : Type 0} (p s t : X → Bool) (xs : List X) → every (λ x. s x || (not (t x) || not (p x))) xs ≡ true → has p (without s xs) ≡ true → has p (without t xs) ≡ true
has-apart p s t [] apart is = absurd (cc)
has-apart p s t (x ∷ xs) apart is = grind (arith, has-apart p s t xs)

has-wider : {X : Type 0} (p s t : X → Bool) → ((x : X) → s x ≡ true → t x ≡ true) → (xs : List X) → has p (without t xs) ≡ true → has p (without s xs) ≡ true
has-wider p s t more [] is = absurd (cc)
has-wider p s t more (x ∷ xs) is = grind (arith, more x, has-wider p s t more xs)

-- what one test takes away need not be tested before by a stronger one
pub without-after : {X : Type 0} (s t : X → Bool) → ((x : X) → s x ≡ true → t x ≡ true) → (xs : List X) → without t (without s xs) ≡ without t xs
without-after s t more = without-twice s t t (λ x. parts _ _ (more x))
  where
    parts : (a b : Bool) → (a ≡ true → b ≡ true) → b ≡ (a || b)
    parts a b more = grind (arith, more)

-- fewer ports hold no more
less-aside : (a p q pp qq u v : Bool) → u ≡ not (a || (p || q)) → v ≡ not (a || (pp || qq)) → (pp ≡ true → p ≡ true) → (qq ≡ true → q ≡ true) → u ≡ true → v ≡ true
less-aside a p q pp qq u v one two paired connected is = grind (arith, paired, connected)

pass-unheld : (w : World) → HasLivingPorts w → (b : Birth) → is_unheld w (port_name b) ≡ true → is_unheld (passed w) (port_name b) ≡ true
pass-unheld w e b =
    let goes = λ (p : PortRow). is_unheld w (port_name p.birth) in
    less-aside (is_held_aside w b) (has (is_paired_to b) w.ports) (has (is_connected_to b) w.ports) (has (is_paired_to b) (without goes w.ports)) (has (is_connected_to b) (without goes w.ports)) (is_unheld w (port_name b)) (is_unheld (passed w) (port_name b))
    (unheld-parts w b) (passed-parts w e b) (has-less (is_paired_to b) goes w.ports) (has-less (is_connected_to b) goes w.ports)

module _ (w : World) (b : Birth) (l : IsLinked w) (e : HasLivingPorts w) (none : is_unheld w (port_name b) ≡ true) where
  abbrev once : World
  once = basic w (Frees (port_name b))

  abbrev goes : PortRow → Bool
  goes p = is_unheld w (port_name p.birth)

  abbrev goes-once : PortRow → Bool
  goes-once p = is_unheld once (port_name p.birth)

  goes-too : (p : PortRow) → goes p ≡ true → goes-once p ≡ true
  goes-too p is = less-held w (port_name b) (port_name p.birth) is

  its-own : (p : PortRow) → is_port b p ≡ true → goes p ≡ true
  its-own p is = subst (λ c. is_unheld w (port_name c) ≡ true) (sym (birth-same p.birth b is)) none

  -- what goes isn't paired, and so names no port as its other end
  unpaired : (c : Birth) → every (λ p. not (is_port b p) || not (is_paired_to c p)) w.ports ≡ true
  unpaired c = every-more (λ p. not (goes p) || is_none p.pair) (λ p. not (is_port b p) || not (is_paired_to c p)) (λ p is. at p (is_port b p) refl is) w.ports (lonely w l)
    where
      off : (o : Option Birth) → is_none o ≡ true → not (is_the c o) ≡ true
      off None is = refl
      off (Some d) is = absurd (cc)

      at : (p : PortRow) (k : Bool) → is_port b p ≡ k → (not (goes p) || is_none p.pair) ≡ true → (not k || not (is_paired_to c p)) ≡ true
      at p true is alone = off p.pair (or-last _ _ (its-own p is) alone)
      at p false is alone = refl

  -- what goes only once the port has gone is a connection port, which names nothing
  later-nothing : every (λ p. goes p || (not (goes-once p) || names_nothing p)) w.ports ≡ true
  later-nothing = found-self w.ports l.births (λ p. goes p || (not (goes-once p) || names_nothing p)) (λ p here. parts _ _ _ _ _ _ _ _ (unheld-parts w p.birth) (unheld-parts once p.birth) (still p.birth) (ended p here))
    where
      parts : (u g a p q pp qq n : Bool) → u ≡ not (a || (p || q)) → g ≡ not (a || (pp || qq)) → (p ≡ true → pp ≡ true) → (q ≡ true → n ≡ true) → (u || (not g || n)) ≡ true
      parts u g a p q pp qq n one two still ended = grind (arith, still, ended)

      still : (c : Birth) → has (is_paired_to c) w.ports ≡ true → has (is_paired_to c) once.ports ≡ true
      still c is = has-without (is_paired_to c) (is_port b) w.ports (unpaired c) is

      ended : (p : PortRow) → first (is_port p.birth) w.ports ≡ Some p → has (is_connected_to p.birth) w.ports ≡ true → names_nothing p ≡ true
      ended p here is = let found = connected-end w l p.birth is in rw here at found

  -- so the first pass leaves ports that hold alike
  names-off : (c : Birth) (p : PortRow) → names_nothing p ≡ true → (not (is_paired_to c p) && not (is_connected_to c p)) ≡ true
  names-off c p is = at p.pair p.connection is
    where
      at : (o d : Option Birth) → (is_none o && is_none d) ≡ true → (not (is_the c o) && not (is_the c d)) ≡ true
      at None None is = refl
      at None (Some e) is = absurd (cc)
      at (Some e) d is = absurd (cc)

  one-off : (g h n x y : Bool) → (n ≡ true → (not x && not y) ≡ true) → (g || (not h || n)) ≡ true → (g || (not h || not x)) ≡ true
  one-off g h n x y more is = grind (arith, more)

  two-off : (g h n x y : Bool) → (n ≡ true → (not x && not y) ≡ true) → (g || (not h || n)) ≡ true → (g || (not h || not y)) ≡ true
  two-off g h n x y more is = grind (arith, more)

  both-ways : (x y : Bool) → (x ≡ true → y ≡ true) → (y ≡ true → x ≡ true) → x ≡ y
  both-ways x y one two = grind (arith, one, two)

  paired-alike : (c : Birth) → has (is_paired_to c) (without goes w.ports) ≡ has (is_paired_to c) (without goes-once w.ports)
  paired-alike c = both-ways _ _
      (has-apart (is_paired_to c) goes goes-once w.ports (every-more _ _ (λ p. one-off (goes p) (goes-once p) (names_nothing p) (is_paired_to c p) (is_connected_to c p) (names-off c p)) w.ports later-nothing))
      (has-wider (is_paired_to c) goes goes-once goes-too w.ports)

  connected-alike : (c : Birth) → has (is_connected_to c) (without goes w.ports) ≡ has (is_connected_to c) (without goes-once w.ports)
  connected-alike c = both-ways _ _
      (has-apart (is_connected_to c) goes goes-once w.ports (every-more _ _ (λ p. two-off (goes p) (goes-once p) (names_nothing p) (is_paired_to c p) (is_connected_to c p) (names-off c p)) w.ports later-nothing))
      (has-wider (is_connected_to c) goes goes-once goes-too w.ports)

  ports-once : without goes-once once.ports ≡ without goes-once w.ports
  ports-once = without-after (is_port b) goes-once (λ p is. goes-too p (its-own p is)) w.ports

  last-alike : (p : PortRow) → is_unheld (passed w) (port_name p.birth) ≡ is_unheld (passed once) (port_name p.birth)
  last-alike p =
      let c = p.birth in
      parts (is_held_aside w c) _ _ _ _ _ _ (passed-parts w e c) (passed-parts once e c) (paired-alike c ∙ ap (has (is_paired_to c)) (sym ports-once)) (connected-alike c ∙ ap (has (is_connected_to c)) (sym ports-once))
    where
      parts : (a p q pp qq u v : Bool) → u ≡ not (a || (p || q)) → v ≡ not (a || (pp || qq)) → p ≡ pp → q ≡ qq → u ≡ v
      parts a p q pp qq u v one two paired connected = grind arith

  last-ports : (passed (passed once)).ports ≡ (passed (passed w)).ports
  last-ports =
      let last = λ (p : PortRow). is_unheld (passed w) (port_name p.birth) in
      let last-once = λ (p : PortRow). is_unheld (passed once) (port_name p.birth) in
      ap (without last-once) ports-once ∙ (without-after goes-once last-once (λ p. pass-unheld once e p.birth) w.ports
      ∙ (without-same last-once last (λ p. last-alike p) w.ports ∙ sym (without-after goes last (λ p. pass-unheld w e p.birth) w.ports)))

  swept-alike : world_after once (sweep once) ≡ world_after w (sweep w)
  swept-alike = sweep-passes once ∙ (rows-same (passed (passed w)) _ _ _ _ _ _ _ _ _ _ _ _ refl refl last-ports refl refl refl ∙ sym (sweep-passes w))

-- a port that no row names may go first: the sweep leaves the same world
pub free_one : (w : World) (b : Birth) → IsLinked w → HasLivingPorts w → is_unheld w (port_name b) ≡ true → world_after (basic w (Frees (port_name b))) (sweep (basic w (Frees (port_name b)))) ≡ world_after w (sweep w)
free_one w b l e none = swept-alike w b l e none

-- processes and threads are named by as many rows then
pub lives_freed : (w : World) (b : Birth) → AreLivesHeld w → AreLivesHeld (basic w (Frees (port_name b)))
lives_freed w b held = record { threads = held.threads; processes = held.processes }

-- Nothing to sweep
pub swept_none : (w : World) → unheld w ≡ [] → sweep w ≡ []
unfolding sweep
swept_none w none =
    let frees : free_unheld w ≡ [] = rw none refl in
    ap (λ bs. bs ++ free_unheld (world_after w bs)) frees ∙ frees

pub swept_none_world : (w : World) → unheld w ≡ [] → world_after w (sweep w) ≡ w
swept_none_world w none = ap (world_after w) (swept_none w none)

-- where each row is named by a row, nothing goes
which-off : {X : Type 0} (p : X → Bool) (xs : List X) → every (λ x. not (p x)) xs ≡ true → which p xs ≡ []
which-off p [] off = refl
which-off p (x ∷ xs) off = grind (arith, which-off p xs)

pub unheld_ports : (w : World) → AreLivesHeld w → HasHeldPorts w → HasHeldSections w → HasHeldTokens w → unheld w ≡ []
unheld_ports w lives ports sections tokens =
    let held = λ (o : ObjectName). not (is_unheld w o) in
    let ks = map (λ (t : TokenRow). token_name t.birth) w.tokens in
    let ss = map (λ (s : SectionRow). section_name s.birth) w.sections in
    let ps = map (λ (p : ProcessRow). process_name p.birth) w.processes in
    let ts = map (λ (t : ThreadRow). thread_name t.birth) w.threads in
    let xs = map (λ (p : PortRow). port_name p.birth) w.ports in
    which-off (is_unheld w) (object_names w)
    (every-append held ks (ss ++ (ps ++ (ts ++ xs))) (every-map held (λ t. token_name t.birth) w.tokens ∙ tokens) (every-append held ss (ps ++ (ts ++ xs)) (every-map held (λ s. section_name s.birth) w.sections ∙ sections) (every-append held ps (ts ++ xs) (every-map held (λ p. process_name p.birth) w.processes ∙ lives.processes)
    (every-append held ts xs (every-map held (λ t. thread_name t.birth) w.threads ∙ lives.threads) (every-map held (λ p. port_name p.birth) w.ports ∙ ports)))))

pub unheld_none : (w : World) → HasHeldRows w → unheld w ≡ []
unheld_none w held = unheld_ports w held.lives held.ports held.sections held.tokens

-- The step of a line
-- rows that go are told of nowhere, and post nothing
frees-tell : (os : List ObjectName) (bs : List Basic) → entries_of (map Frees os ++ bs) ≡ entries_of bs
frees-tell [] bs = refl
frees-tell (o ∷ os) bs = frees-tell os bs

frees-post : (os : List ObjectName) (bs : List Basic) → posts_of (map Frees os ++ bs) ≡ posts_of bs
frees-post [] bs = refl
frees-post (o ∷ os) bs = frees-post os bs

also-telling : (bs cs : List Basic) → entries_of cs ≡ [] → entries_of (bs ++ cs) ≡ entries_of bs
also-telling [] cs none = none
also-telling (b ∷ bs) cs none = ap (λ es. told b ++ es) (also-telling bs cs none)

also-posting : (bs cs : List Basic) → posts_of cs ≡ [] → posts_of (bs ++ cs) ≡ posts_of bs
also-posting [] cs none = none
also-posting (b ∷ bs) cs none = ap (λ ms. posted b ++ ms) (also-posting bs cs none)

pub sweep-tells : (w : World) → entries_of (sweep w) ≡ []
unfolding sweep
sweep-tells w =
    let v = world_after w (free_unheld w) in
    frees-tell (unheld w) (free_unheld v) ∙ (ap entries_of (sym (append-nil (free_unheld v))) ∙ frees-tell (unheld v) [])

sweep-posts : (w : World) → posts_of (sweep w) ≡ []
unfolding sweep
sweep-posts w =
    let v = world_after w (free_unheld w) in
    frees-post (unheld w) (free_unheld v) ∙ (ap posts_of (sym (append-nil (free_unheld v))) ∙ frees-post (unheld v) [])

stepped-same : (v u : World) (es fs : List Entry) (ms ns : List MessageRow) → v ≡ u → es ≡ fs → ms ≡ ns → let s : Stepped = record { world = v; entries = es; posts = ms } in let t : Stepped = record { world = u; entries = fs; posts = ns } in s ≡ t
stepped-same v u es fs ms ns one two three = rw (one, two, three) refl

-- a line tells and posts what its bare steps do, and leaves the world that they leave, swept
pub step_swept : (w : World) (line : ScriptLine) → step w line ≡ record (bare_step w line) { world = world_after (bare_step w line).world (sweep (bare_step w line).world) }
step_swept w line =
    let bs = bare_steps line w in
    let v = world_after w bs in
    stepped-same _ _ _ _ _ _ (after-append w bs (sweep v)) (also-telling bs (sweep v) (sweep-tells v)) (also-posting bs (sweep v) (sweep-posts v))
