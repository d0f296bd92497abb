-- Two passes are enough: behind a sweep each port row is named by a row.
use Rattle.std.proofs.Common.{◌≡◌, ◌∙◌, ℕ, ◌+◌, ◌≤◌, List, [], ◌∷◌, ◌++◌, Bool, true, false, map, not, Option, Some, None, refl, sym, ap, subst, arith}
use Rattle.std.specs.Prelude.{◌&&◌, ◌||◌, ◌==◌, is_none, is_some}
use Rattle.std.proofs.lemmas.Bool.Decides.{nat_tests}
use Rattle.std.proofs.lemmas.Bool.{and_from}
use Rattle.lpc_base.specs.Rows.{count, every, first, has, which, without}
use Rattle.lpc_base.proofs.RowWords.{every-more, first-passes, count-none, none-counted, has-behind}
use Rattle.lpc_base.proofs.RowMaps.{every-both, every-first, every-kept}
use Rattle.lpc_base.proofs.Births.{birth-same, birth-self, birth-turned}
use Rattle.lpc_base.proofs.Bools.{or-last, unless-more}
use Rattle.lpc_model.specs.declared.entry.ObjectKind.TheVariants as kind
use Rattle.lpc_model.specs.World.{Birth, ObjectKind, ObjectName, PortRow, World}
use Rattle.lpc_model.specs.Found.{all_registrations, all_views, handle_count, is_connected_to, is_made_on, is_owned_by, is_paired_to, is_port, is_sent_on, is_the, pair_of, port_name, port_row, process_name, same_birth, same_kind, same_object, section_name, thread_name, token_name, event_ports}
use Rattle.lpc_model.specs.Basics.{Frees, basic, freed, world_after}
use Rattle.lpc_model.specs.Sweep.{free_unheld, is_unheld, unheld}
use Rattle.lpc_model.specs.Linked.{HasHeldPorts, IsLinked, is_root_port, is_mutual, is_rooted, names_nothing, passes_or_none}
use Rattle.lpc_model.proofs.Steps.Rows.{has-found, has-without}
use Rattle.lpc_model.proofs.Sound.Frees.{frees-registrations, none-pass, which-all}
use Rattle.lpc_model.proofs.Held.Events.{frees-events}
use Rattle.lpc_model.specs.Left.{HasLivingPorts}

-- What a pass leaves
-- a port whose name stands in a list
abbrev pub is_listed : List ObjectName → PortRow → Bool
is_listed os p = has (λ o. same_object (port_name p.birth) o) os

pub without-twice : {X : Type 0} (s t u : X → Bool) → ((x : X) → u x ≡ (s x || t x)) → (xs : List X) → without t (without s xs) ≡ without u xs
without-twice s t u both [] = refl
without-twice s t u both (x ∷ xs) = grind (arith, both x, without-twice s t u both xs)

pub without-same : {X : Type 0} (t u : X → Bool) → ((x : X) → u x ≡ t x) → (xs : List X) → without t xs ≡ without u xs
without-same t u same [] = refl
without-same t u same (x ∷ xs) = grind (arith, same x, without-same t u same xs)

-- what one free and a list of them leave of ports, messages, waits and handles
pub record IsFreed (w v : World) (os : List ObjectName) : Type 0 where
  pub ports : v.ports ≡ without (is_listed os) w.ports
  pub messages : v.messages ≡ w.messages
  pub waits : v.waits ≡ w.waits
  pub handles : v.handles ≡ w.handles
  pub views : v.views ≡ w.views

listed-parts : (o : ObjectName) (os : List ObjectName) (p : PortRow) → is_listed (o ∷ os) p ≡ (same_object (port_name p.birth) o || is_listed os p)
listed-parts o os p = grind arith

unlisted : (xs : List PortRow) → without (is_listed []) xs ≡ xs
unlisted [] = refl
unlisted (x ∷ xs) = grind (arith, unlisted xs)

port-freed : (b c : Birth) (ports : List PortRow) (os : List ObjectName) → without (is_listed os) (without (is_port b) ports) ≡ without (is_listed (port_name b ∷ os)) ports
port-freed b c ports os = without-twice (is_port b) (is_listed os) (is_listed (port_name b ∷ os)) (λ p. listed-parts (port_name b) os p ∙ same p) ports
  where
    parts : (x y z : Bool) → x ≡ y → (x || z) ≡ (y || z)
    parts x y z is = rw is refl

    same : (p : PortRow) → (same_object (port_name p.birth) (port_name b) || is_listed os p) ≡ (is_port b p || is_listed os p)
    same p = refl

freed-list : (os : List ObjectName) (w : World) → IsFreed w (world_after w (map Frees os)) os
freed-list [] w = record { ports = sym (unlisted w.ports); messages = refl; waits = refl; handles = refl; views = refl }
freed-list (o ∷ os) w = at o.kind o.birth (freed-list os)
  where
    other : (k : ObjectKind) (b : Birth) → ((p : PortRow) → same_object (port_name p.birth) (record { kind = k; birth = b }) ≡ false) → without (is_listed os) w.ports ≡ without (is_listed (record { kind = k; birth = b } ∷ os)) w.ports
    other k b off = without-same (is_listed os) (is_listed (record { kind = k; birth = b } ∷ os)) (λ p. listed-parts (record { kind = k; birth = b }) os p ∙ parts _ _ (off p)) w.ports
      where
        parts : (x y : Bool) → x ≡ false → (x || y) ≡ y
        parts x y is = rw is refl

    at : (k : ObjectKind) (b : Birth) → ((v : World) → IsFreed v (world_after v (map Frees os)) os) → let o : ObjectName = record { kind = k; birth = b } in IsFreed w (world_after w (map Frees (o ∷ os))) (o ∷ os)
    at kind.Port b later =
        let f = later (basic w (Frees (port_name b))) in
        record { ports = f.ports ∙ port-freed b b w.ports os; messages = f.messages; waits = f.waits; handles = f.handles; views = f.views }
    at kind.Section b later =
        let f = later (freed w kind.Section b) in record { ports = f.ports ∙ other kind.Section b (λ p. refl); messages = f.messages; waits = f.waits; handles = f.handles; views = f.views }
    at kind.Token b later =
        let f = later (freed w kind.Token b) in record { ports = f.ports ∙ other kind.Token b (λ p. refl); messages = f.messages; waits = f.waits; handles = f.handles; views = f.views }
    at kind.Process b later =
        let f = later (freed w kind.Process b) in record { ports = f.ports ∙ other kind.Process b (λ p. refl); messages = f.messages; waits = f.waits; handles = f.handles; views = f.views }
    at kind.Thread b later =
        let f = later (freed w kind.Thread b) in record { ports = f.ports ∙ other kind.Thread b (λ p. refl); messages = f.messages; waits = f.waits; handles = f.handles; views = f.views }

-- What is listed
its-name : (b : Birth) (o : ObjectName) → same_object (port_name b) o ≡ true → o ≡ port_name b
its-name b o is = at o.kind (same_birth b o.birth) refl is
  where
    at : (k : ObjectKind) (own : Bool) → same_birth b o.birth ≡ own → (same_kind kind.Port k && own) ≡ true → let q : ObjectName = record { kind = k; birth = o.birth } in q ≡ port_name b
    at kind.Port true same one = ap port_name (sym (birth-same b o.birth same))
    at kind.Port false same one = absurd (cc)
    at kind.Section own same one = absurd (cc)
    at kind.Token own same one = absurd (cc)
    at kind.Process own same one = absurd (cc)
    at kind.Thread own same one = absurd (cc)

-- what is listed isn't held, and each port that isn't held is listed
listed-unheld : (w : World) (p : PortRow) (os : List ObjectName) → every (is_unheld w) os ≡ true → is_listed os p ≡ true → is_unheld w (port_name p.birth) ≡ true
listed-unheld w p [] all is = absurd (cc)
listed-unheld w p (o ∷ os) all is = at (same_object (port_name p.birth) o) refl (listed-unheld w p os)
  where
    at : (c : Bool) → same_object (port_name p.birth) o ≡ c → (every (is_unheld w) os ≡ true → is_listed os p ≡ true → is_unheld w (port_name p.birth) ≡ true) → is_unheld w (port_name p.birth) ≡ true
    at true same later = let here : is_unheld w o ≡ true = grind arith in subst (λ n. is_unheld w n ≡ true) (its-name p.birth o same) here
    at false off later =
        let rest : is_listed os p ≡ true = grind arith in
        let others : every (is_unheld w) os ≡ true = grind arith in later others rest

abbrev port_names : List PortRow → List ObjectName
port_names ps = map (λ p. port_name p.birth) ps

own-name : (p : PortRow) → same_object (port_name p.birth) (port_name p.birth) ≡ true
own-name p = birth-self p.birth

members : (w : World) (ps : List PortRow) → every (λ p. not (is_unheld w (port_name p.birth)) || is_listed (which (is_unheld w) (port_names ps)) p) ps ≡ true
members w [] = refl
members w (z ∷ zs) = at (members w zs) (is_unheld w (port_name z.birth)) refl
  where
    at : every (λ p. not (is_unheld w (port_name p.birth)) || is_listed (which (is_unheld w) (port_names zs)) p) zs ≡ true → (u : Bool) → is_unheld w (port_name z.birth) ≡ u
        → every (λ p. not (is_unheld w (port_name p.birth)) || is_listed (which (is_unheld w) (port_names (z ∷ zs))) p) (z ∷ zs) ≡ true
    at later true is =
        let own = own-name z in
        let rest = every-more (λ p. not (is_unheld w (port_name p.birth)) || is_listed (which (is_unheld w) (port_names zs)) p) (λ p. not (is_unheld w (port_name p.birth)) || is_listed (port_name z.birth ∷ which (is_unheld w) (port_names zs)) p) (λ p one. grind arith) zs later in grind arith
    at later false is = grind (arith, later)

listed-ports : (w : World) → every (λ p. not (is_unheld w (port_name p.birth)) || is_listed (unheld w) p) w.ports ≡ true
listed-ports w =
    every-more (λ p. not (is_unheld w (port_name p.birth)) || is_listed (which (is_unheld w) (port_names w.ports)) p) (λ p. not (is_unheld w (port_name p.birth)) || is_listed (unheld w) p)
    (λ p is. unless-more (is_unheld w (port_name p.birth)) _ _ (λ one. has-behind (λ o. same_object (port_name p.birth) o) (is_unheld w) (map (λ t. token_name t.birth) w.tokens) (map (λ s. section_name s.birth) w.sections ++ (map (λ q. process_name q.birth) w.processes ++ (map (λ t. thread_name t.birth) w.threads ++ port_names w.ports)))
    (has-behind (λ o. same_object (port_name p.birth) o) (is_unheld w) (map (λ s. section_name s.birth) w.sections) (map (λ q. process_name q.birth) w.processes ++ (map (λ t. thread_name t.birth) w.threads ++ port_names w.ports))
    (has-behind (λ o. same_object (port_name p.birth) o) (is_unheld w) (map (λ q. process_name q.birth) w.processes) (map (λ t. thread_name t.birth) w.threads ++ port_names w.ports)
    (has-behind (λ o. same_object (port_name p.birth) o) (is_unheld w) (map (λ t. thread_name t.birth) w.threads) (port_names w.ports) one)))) is) w.ports (members w w.ports)

-- Who holds a port
-- a row that isn't a port holds it; a port does
abbrev pub is_held_aside : World → Birth → Bool
is_held_aside w b =
    not (handle_count w (port_name b) == 0) || (has (is_sent_on b) w.messages || (has (is_made_on b) w.waits || (has (same_birth b) (all_registrations w) || (has (is_owned_by b) (all_views w) || has (same_birth b) (event_ports w)))))

abbrev pub is_held_by : List PortRow → Birth → Bool
is_held_by ports b = has (is_paired_to b) ports || has (is_connected_to b) ports

count-zero : {X : Type 0} (p : X → Bool) (xs : List X) → (count p xs == 0) ≡ not (has p xs)
count-zero p [] = refl
count-zero p (x ∷ xs) = at (p x) refl (count-zero p xs)
  where
    at : (c : Bool) → p x ≡ c → (count p xs == 0) ≡ not (has p xs) → (count p (x ∷ xs) == 0) ≡ not (has p (x ∷ xs))
    at true is later = grind (arith, nat_tests)
    at false is later = grind (arith, later)

sum-zero : (a b c d e f g h : ℕ) → ((a + (b + (c + (d + (e + (f + (g + h))))))) == 0) ≡ ((a == 0) && ((b == 0) && ((c == 0) && ((d == 0) && ((e == 0) && ((f == 0) && ((g == 0) && (h == 0))))))))
sum-zero a b c d e f g h = grind (arith, nat_tests)

pub unheld-parts : (w : World) (b : Birth) → is_unheld w (port_name b) ≡ not (is_held_aside w b || is_held_by w.ports b)
unheld-parts w b =
    let a = handle_count w (port_name b) in
    let sums = sum-zero a (count (is_paired_to b) w.ports) (count (is_connected_to b) w.ports) (count (is_sent_on b) w.messages) (count (is_made_on b) w.waits) (count (same_birth b) (all_registrations w)) (count (is_owned_by b) (all_views w)) (count (same_birth b) (event_ports w)) in
    let one = count-zero (is_paired_to b) w.ports in
    let two = count-zero (is_connected_to b) w.ports in
    let three = count-zero (is_sent_on b) w.messages in
    let four = count-zero (is_made_on b) w.waits in
    let five = count-zero (same_birth b) (all_registrations w) in
    let six = count-zero (is_owned_by b) (all_views w) in
    let seven = count-zero (same_birth b) (event_ports w) in
    sums ∙ all-parts (a == 0) _ _ _ _ _ _ _ _ _ _ _ _ _ _ one two three four five six seven
  where
    all-parts : (a b c d e f g h p q r s t u v : Bool) → b ≡ not p → c ≡ not q → d ≡ not r → e ≡ not s → f ≡ not t → g ≡ not u → h ≡ not v → (a && (b && (c && (d && (e && (f && (g && h))))))) ≡ not ((not a || (r || (s || (t || (u || v))))) || (p || q))
    all-parts a b c d e f g h p q r s t u v one two three four five six seven = grind arith

-- Two passes
-- a port that isn't held has no other end
pub lonely : (w : World) → IsLinked w → every (λ p. not (is_unheld w (port_name p.birth)) || is_none p.pair) w.ports ≡ true
lonely w l = every-more (is_mutual w) (λ p. not (is_unheld w (port_name p.birth)) || is_none p.pair) alone w.ports l.pairs
  where
    paired-back : (p : PortRow) (q : Birth) → is_the p.birth (pair_of w q) ≡ true → has (is_paired_to p.birth) w.ports ≡ true
    paired-back p q is = at (port_row w q) refl
      where
        at : (o : Option PortRow) → port_row w q ≡ o → has (is_paired_to p.birth) w.ports ≡ true
        at None none = let never : false ≡ true = rw none at is in absurd (cc)
        at (Some r) here = let back : is_the p.birth r.pair ≡ true = rw here at is in has-found (is_paired_to p.birth) (is_port q) w.ports r here back

    held : (x a b c : Bool) → b ≡ true → x ≡ not (a || (b || c)) → x ≡ false
    held x a b c is same = grind arith

    off : (x y : Bool) → x ≡ false → (not x || y) ≡ true
    off x y is = grind arith

    right : (x : Bool) → (not x || true) ≡ true
    right x = grind arith

    alone : (p : PortRow) → is_mutual w p ≡ true → (not (is_unheld w (port_name p.birth)) || is_none p.pair) ≡ true
    alone p is = at p.pair refl
      where
        at : (o : Option Birth) → p.pair ≡ o → (not (is_unheld w (port_name p.birth)) || is_none o) ≡ true
        at None none = right (is_unheld w (port_name p.birth))
        at (Some q) some =
            let back : is_the p.birth (pair_of w q) ≡ true = rw some at is in
            off (is_unheld w (port_name p.birth)) false (held _ (is_held_aside w p.birth) (has (is_paired_to p.birth) w.ports) _ (paired-back p q back) (unheld-parts w p.birth))

-- where births differ, each port is found by its birth
pub found-self : (ports : List PortRow) → ((b : Birth) → count (is_port b) ports ≤ 1) → (P : PortRow → Bool) → ((r : PortRow) → first (is_port r.birth) ports ≡ Some r → P r ≡ true) → every P ports ≡ true
found-self [] one P holds = refl
found-self (z ∷ zs) one P holds =
    let own = birth-self z.birth in
    let few = one z.birth in
    let none : has (is_port z.birth) zs ≡ false = none-counted (is_port z.birth) zs (grind arith) in
    let head : P z ≡ true = holds z (head-found own) in
    let later = found-self zs (λ b. fewer b (one b)) (λ r. same_birth z.birth r.birth || P r) (λ r at. by_birth r at (same_birth z.birth r.birth) refl) in
    and_from _ _ head (every-both (λ r. same_birth z.birth r.birth || P r) (λ r. not (is_port z.birth r)) P (λ r is off. parts _ _ _ (birth-turned r.birth z.birth) is off) zs later (none-pass (is_port z.birth) zs (none-count zs none)))
  where
    fewer : (b : Birth) → count (is_port b) (z ∷ zs) ≤ 1 → count (is_port b) zs ≤ 1
    fewer b few = grind arith

    head-found : same_birth z.birth z.birth ≡ true → first (is_port z.birth) (z ∷ zs) ≡ Some z
    head-found own = rw own refl

    none-count : (xs : List PortRow) → has (is_port z.birth) xs ≡ false → count (is_port z.birth) xs ≤ 0
    none-count xs none = let zero = count-none (is_port z.birth) xs none in omega (arith, zero)

    parts : (a b p : Bool) → b ≡ a → (a || p) ≡ true → not b ≡ true → p ≡ true
    parts a b p same is off = grind arith

    by_birth : (r : PortRow) → first (is_port r.birth) zs ≡ Some r → (c : Bool) → same_birth z.birth r.birth ≡ c → (c || P r) ≡ true
    by_birth r at true is = refl
    by_birth r at false is = holds r (rw is at)

-- what a port is connected to names nothing
pub connected-end : (w : World) → IsLinked w → (c : Birth) → has (is_connected_to c) w.ports ≡ true → is_root_port w c ≡ true
connected-end w l c is = at (first (is_connected_to c) w.ports) refl is
  where
    root : (o : Option Birth) → is_the c o ≡ true → passes_or_none o (is_root_port w) ≡ true → is_root_port w c ≡ true
    root None its rooted = absurd (cc)
    root (Some d) its rooted = let same : c ≡ d = birth-same c d its in subst (λ b. is_root_port w b ≡ true) (sym same) rooted

    at : (o : Option PortRow) → first (is_connected_to c) w.ports ≡ o → is_some o ≡ true → is_root_port w c ≡ true
    at None none some = absurd (cc)
    at (Some p) here some = root p.connection (first-passes (is_connected_to c) w.ports p here) (every-first (is_rooted w) (is_connected_to c) w.ports p l.rooted here)

module _ (w : World) (l : IsLinked w) (e : HasLivingPorts w) where
  abbrev once_swept : World
  once_swept = world_after w (free_unheld w)

  abbrev swept : World
  swept = world_after once_swept (free_unheld once_swept)

  one : IsFreed w once_swept (unheld w)
  one = freed-list (unheld w) w

  two : IsFreed once_swept swept (unheld once_swept)
  two = freed-list (unheld once_swept) once_swept

  abbrev goes : PortRow → Bool
  goes p = is_listed (unheld w) p

  abbrev goes-later : PortRow → Bool
  goes-later p = is_listed (unheld once_swept) p

  aside-one : (b : Birth) → is_held_aside once_swept b ≡ is_held_aside w b
  aside-one b = rw (one.messages, one.waits, one.handles, one.views, frees-registrations w (unheld w) (which-all (is_unheld w) _), (frees-events w (unheld w) (which-all (is_unheld w) _) e).0) refl

  aside-two : (b : Birth) → is_held_aside swept b ≡ is_held_aside once_swept b
  aside-two b = rw (two.messages, two.waits, two.handles, two.views, frees-registrations once_swept (unheld once_swept) (which-all (is_unheld once_swept) _), (frees-events once_swept (unheld once_swept) (which-all (is_unheld once_swept) _) (frees-events w (unheld w) (which-all (is_unheld w) _) e).1).0) refl

  -- what goes first isn't paired
  gone-unpaired : (c : Birth) → every (λ q. not (goes q) || not (is_paired_to c q)) w.ports ≡ true
  gone-unpaired c = every-more (λ q. not (is_unheld w (port_name q.birth)) || is_none q.pair) (λ q. not (goes q) || not (is_paired_to c q)) (λ q is. parts q (goes q) refl is) w.ports (lonely w l)
    where
      unpaired : (o : Option Birth) → is_none o ≡ true → not (is_the c o) ≡ true
      unpaired None is = refl
      unpaired (Some b) is = absurd (cc)

      parts : (q : PortRow) (g : Bool) → goes q ≡ g → (not (is_unheld w (port_name q.birth)) || is_none q.pair) ≡ true → (not g || not (is_paired_to c q)) ≡ true
      parts q true is alone = unpaired q.pair (or-last _ _ (listed-unheld w q (unheld w) (which-all (is_unheld w) _) is) alone)
      parts q false off alone = refl

  -- what goes next names nothing
  next-nothing : every (λ r. not (goes-later r) || names_nothing r) once_swept.ports ≡ true
  next-nothing = subst (λ ps. every (λ r. not (goes-later r) || names_nothing r) ps ≡ true) (sym one.ports) (every-kept (λ r. goes r || (not (goes-later r) || names_nothing r)) goes (λ r. not (goes-later r) || names_nothing r) (λ r is off. left (goes r) _ is off) w.ports all)
    where
      left : (g x : Bool) → (g || x) ≡ true → g ≡ false → x ≡ true
      left g x is off = grind arith

      stays : (c : Birth) → has (is_paired_to c) w.ports ≡ true → has (is_paired_to c) once_swept.ports ≡ true
      stays c is = rw one.ports (has-without (is_paired_to c) goes w.ports (gone-unpaired c) is)

      parts : (u g m a p q pp qq n : Bool) → (not u || g) ≡ true → u ≡ not (a || (p || q)) → m ≡ not (a || (pp || qq)) → (p ≡ true → pp ≡ true) → (q ≡ true → n ≡ true) → (g || (not m || n)) ≡ true
      parts u g m a p q pp qq n listed first_time later keeps ends = grind (arith, keeps, ends)

      weaker : (g m x n : Bool) → (x ≡ true → m ≡ true) → (g || (not m || n)) ≡ true → (g || (not x || n)) ≡ true
      weaker g m x n more is = grind (arith, more)

      ended : (r : PortRow) → first (is_port r.birth) w.ports ≡ Some r → has (is_connected_to r.birth) w.ports ≡ true → names_nothing r ≡ true
      ended r here is = let found = connected-end w l r.birth is in rw here at found

      all : every (λ r. goes r || (not (goes-later r) || names_nothing r)) w.ports ≡ true
      all = every-both (λ p. not (is_unheld w (port_name p.birth)) || goes p) (λ r. not (has (is_connected_to r.birth) w.ports) || names_nothing r) (λ r. goes r || (not (goes-later r) || names_nothing r))
          (λ r listed root. weaker (goes r) (is_unheld once_swept (port_name r.birth)) (goes-later r) (names_nothing r) (λ is. listed-unheld once_swept r (unheld once_swept) (which-all (is_unheld once_swept) _) is)
          (parts (is_unheld w (port_name r.birth)) (goes r) (is_unheld once_swept (port_name r.birth)) (is_held_aside w r.birth) (has (is_paired_to r.birth) w.ports) (has (is_connected_to r.birth) w.ports) (has (is_paired_to r.birth) once_swept.ports) (has (is_connected_to r.birth) once_swept.ports) (names_nothing r)
          listed (unheld-parts w r.birth) (subst (λ a. is_unheld once_swept (port_name r.birth) ≡ not (a || is_held_by once_swept.ports r.birth)) (aside-one r.birth) (unheld-parts once_swept r.birth)) (stays r.birth) (λ is. or-last _ _ is root))) w.ports (listed-ports w)
          (found-self w.ports l.births (λ r. not (has (is_connected_to r.birth) w.ports) || names_nothing r) (λ r here. by_test (has (is_connected_to r.birth) w.ports) (names_nothing r) (ended r here)))
        where
          by_test : (h n : Bool) → (h ≡ true → n ≡ true) → (not h || n) ≡ true
          by_test h n more = grind (arith, more)

  -- so what is held then is held at last
  pub two-passes : HasHeldPorts swept
  two-passes = subst (λ ps. every (λ p. not (is_unheld swept (port_name p.birth))) ps ≡ true) (sym two.ports) (every-kept (λ p. not (is_unheld once_swept (port_name p.birth)) || goes-later p) goes-later (λ p. not (is_unheld swept (port_name p.birth))) (λ p listed off. held p listed off) once_swept.ports (listed-ports once_swept))
    where
      paired-off : (c : Birth) (o p : Option Birth) → (is_none o && is_none p) ≡ true → (not (is_the c o) && not (is_the c p)) ≡ true
      paired-off c None None is = refl
      paired-off c None (Some b) is = absurd (cc)
      paired-off c (Some b) p is = absurd (cc)

      apart-one : (g n x y : Bool) → (n ≡ true → (not x && not y) ≡ true) → (not g || n) ≡ true → (not g || not x) ≡ true
      apart-one g n x y more is = grind (arith, more)

      apart-two : (g n x y : Bool) → (n ≡ true → (not x && not y) ≡ true) → (not g || n) ≡ true → (not g || not y) ≡ true
      apart-two g n x y more is = grind (arith, more)

      stays : (c : Birth) → has (is_paired_to c) once_swept.ports ≡ true → has (is_paired_to c) swept.ports ≡ true
      stays c is = rw two.ports (has-without (is_paired_to c) goes-later once_swept.ports (every-more _ (λ q. not (goes-later q) || not (is_paired_to c q)) (λ q. apart-one (goes-later q) (names_nothing q) (is_paired_to c q) (is_connected_to c q) (paired-off c q.pair q.connection)) once_swept.ports next-nothing) is)

      stays-connected : (c : Birth) → has (is_connected_to c) once_swept.ports ≡ true → has (is_connected_to c) swept.ports ≡ true
      stays-connected c is = rw two.ports (has-without (is_connected_to c) goes-later once_swept.ports (every-more _ (λ q. not (goes-later q) || not (is_connected_to c q)) (λ q. apart-two (goes-later q) (names_nothing q) (is_paired_to c q) (is_connected_to c q) (paired-off c q.pair q.connection)) once_swept.ports next-nothing) is)

      parts : (u g m a p q pp qq : Bool) → (not u || g) ≡ true → g ≡ false → u ≡ not (a || (p || q)) → m ≡ not (a || (pp || qq)) → (p ≡ true → pp ≡ true) → (q ≡ true → qq ≡ true) → not m ≡ true
      parts u g m a p q pp qq listed off before later keeps ends = grind (arith, keeps, ends)

      held : (p : PortRow) → (not (is_unheld once_swept (port_name p.birth)) || goes-later p) ≡ true → goes-later p ≡ false → not (is_unheld swept (port_name p.birth)) ≡ true
      held p listed off =
          parts (is_unheld once_swept (port_name p.birth)) (goes-later p) (is_unheld swept (port_name p.birth)) (is_held_aside once_swept p.birth) (has (is_paired_to p.birth) once_swept.ports) (has (is_connected_to p.birth) once_swept.ports) (has (is_paired_to p.birth) swept.ports) (has (is_connected_to p.birth) swept.ports)
          listed off (unheld-parts once_swept p.birth) (subst (λ a. is_unheld swept (port_name p.birth) ≡ not (a || is_held_by swept.ports p.birth)) (aside-two p.birth) (unheld-parts swept p.birth)) (stays p.birth) (stays-connected p.birth)
