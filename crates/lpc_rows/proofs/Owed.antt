-- What each change of handles and ports leaves of the rows that are owed: a handle more makes one more owed at most,
-- and without a handle or a port no more are.
use Rattle.std.proofs.Common.{◌≡◌, ◌+◌, ◌≤◌, ℕ, List, [], ◌∷◌, ◌++◌, Bool, true, false, map, None, refl, ap, arith, subst}
use Rattle.std.specs.Prelude.{◌&&◌}
use Rattle.lpc_base.specs.declared.birth.Birth.{Birth}
use Rattle.lpc_base.specs.Rows.{change, count, every, first, has, without, without_first}
use Rattle.lpc_base.proofs.RowWords.{count-left, count-push, has_none-change}
use Rattle.lpc_base.proofs.Births.{birth-same, birth-turned}
use Rattle.lpc_handles.specs.declared.table.Row.{Row}
use Rattle.lpc_model.specs.World.{HandleRow, PortRow, World}
use Rattle.lpc_model.specs.Basics.{no_handles, with_handle, without_handle}
use Rattle.lpc_model.specs.Found.{has_handle_to, is_client_port, is_open, is_port, is_table, names_port, same_birth}
use Rattle.lpc_model.proofs.Closings.Single.{put-none}
use Rattle.lpc_ports.specs.declared.Port.{Port}
use Rattle.lpc_slots.specs.declared.Key.{Key}
use Rattle.lpc_rows.specs.Kept.{is_open_client, owed_deaths, owed_events, owed_rows}
use Rattle.lpc_rows.specs.Names.{are_apart, differs, name_of, names_of, stands}
use Rattle.lpc_rows.specs.Shown.{AreNamed, Tables, all_pass, birth_of, births_of, object_stands, part_refs, shown_handle, shown_part, shown_port}
use Rattle.lpc_homes.specs.declared.object.Object.{Object}
use Rattle.lpc_homes.specs.declared.object.Object.TheVariants as object
use Rattle.lpc_homes.specs.declared.parts.Part.{Part}

-- counts of rows that pass one test or another
count-sum : {X : Type 0} (p q r : X → Bool) → ((x : X) → q x ≡ false → r x ≡ false → p x ≡ false) → (xs : List X) → count p xs ≤ count q xs + count r xs
count-sum p q r off [] = omega arith
count-sum p q r off (x ∷ xs) = grind (arith, off x, count-sum p q r off xs)

count-more : {X : Type 0} (p q : X → Bool) → ((x : X) → q x ≡ false → p x ≡ false) → (xs : List X) → count p xs ≤ count q xs
count-more p q off [] = omega arith
count-more p q off (x ∷ xs) = grind (arith, off x, count-more p q off xs)

pub none-taken : {X : Type 0} (q p : X → Bool) (xs : List X) → has p xs ≡ false → has p (without_first q xs) ≡ false
none-taken q p [] none = refl
none-taken q p (x ∷ xs) none = grind (arith, none-taken q p xs)

has-off : {X : Type 0} (p : X → Bool) (xs : List X) (y : X) → p y ≡ false → has p (xs ++ y ∷ []) ≡ has p xs
has-off p [] y off = grind arith
has-off p (x ∷ xs) y off = grind (arith, has-off p xs y)

-- a client port that isn't open, or of another kind
shut-client : (w v : World) (p : PortRow) → (is_open w p.birth ≡ false → is_open v p.birth ≡ false) → is_open_client w p ≡ false → is_open_client v p ≡ false
shut-client w v p shut off = at (is_client_port p) (is_open w p.birth) (is_open v p.birth) shut off
  where
    at : (c a b : Bool) → (a ≡ false → b ≡ false) → c && a ≡ false → c && b ≡ false
    at true a b shut off = shut off
    at false a b shut off = refl

-- a process comes, without handles
pub owed-process : (w : World) (pid : ℕ) → owed_rows (record w { handles = w.handles ++ no_handles pid ∷ [] }) ≡ owed_rows w
owed-process w pid = ap (λ k. k + owed_deaths w + owed_events w) (same w.ports)
  where
    same : (ps : List PortRow) → count (is_open_client (record w { handles = w.handles ++ no_handles pid ∷ [] })) ps ≡ count (is_open_client w) ps
    same [] = refl
    same (p ∷ ps) = grind (arith, has-off (has_handle_to p.birth) w.handles (no_handles pid), same ps)

-- a handle goes
pub owed-drop : (w : World) (pid value : ℕ) → owed_rows (record w { handles = change (is_table pid) (without_handle value) w.handles }) ≤ owed_rows w
owed-drop w pid value =
    let v : World = record w { handles = change (is_table pid) (without_handle value) w.handles } in
    let less = count-more (is_open_client v) (is_open_client w) (λ p. shut-client w v p (λ off.
    has_none-change (has_handle_to p.birth) (is_table pid) (without_handle value) (λ t none. none-taken _ (λ h. names_port p.birth h.object) t.rows none) w.handles off)) w.ports in
    omega (arith, less)

-- a handle comes
pub owed-handle : (w : World) (pid : ℕ) (h : HandleRow) → count (is_port h.object.birth) w.ports ≤ 1 → owed_rows (record w { handles = change (is_table pid) (with_handle h) w.handles }) ≤ owed_rows w + 1
owed-handle w pid h single =
    let v : World = record w { handles = change (is_table pid) (with_handle h) w.handles } in
    let sum = count-sum (is_open_client v) (is_open_client w) (is_port h.object.birth) (λ p off other. shut-client w v p (λ shut. has_none-change (has_handle_to p.birth) (is_table pid) (with_handle h)
    (λ t none. put-none (λ r. names_port p.birth r.object) h t.rows (grind (arith, birth-turned p.birth h.object.birth, other)) none) w.handles shut) off) w.ports in
    omega (arith, sum, single)

-- a port comes that isn't open
pub owed-shut : (w : World) (p : PortRow) → is_open w p.birth ≡ false → owed_rows (record w { ports = w.ports ++ p ∷ [] }) ≡ owed_rows w
owed-shut w p shut = grind (arith, count-push (is_open_client w) w.ports p)

-- a port goes
pub owed-free : (w : World) (b : Birth) → owed_rows (record w { ports = without (is_port b) w.ports }) ≤ owed_rows w
owed-free w b = let less = count-left (is_open_client w) (is_port b) w.ports in omega (arith, less)

-- ports are changed, each keeping its birth and its kind
pub owed-map : (w : World) (k : PortRow → PortRow) → ((p : PortRow) → (k p).birth ≡ p.birth) → ((p : PortRow) → (k p).kind ≡ p.kind) → owed_rows (record w { ports = map k w.ports }) ≡ owed_rows w
owed-map w k same kinds = ap (λ n. n + owed_deaths w + owed_events w) (mapped w.ports)
  where
    mapped : (ps : List PortRow) → count (is_open_client w) (map k ps) ≡ count (is_open_client w) ps
    mapped [] = refl
    mapped (p ∷ ps) =
        let one : is_open_client w (k p) ≡ is_open_client w p = rw (same p, kinds p) refl in
        grind (arith, one, mapped ps)

-- Of the tables: no two ports have one birth
module _ (f : Object → Birth) where
  none-other : (n : Key × Birth) (rows : List (Key × Port)) → every (differs n) (names_of (λ (p : Port). p.birth) rows) ≡ true → count (is_port n.1) (map (shown_port f) rows) ≡ 0
  none-other n [] apart = refl
  none-other n (row ∷ rows) apart = grind (arith, birth-turned n.1 row.1.birth, none-other n rows)

  pub single-port : (rows : List (Key × Port)) (b : Birth) → are_apart (names_of (λ (p : Port). p.birth) rows) ≡ true → count (is_port b) (map (shown_port f) rows) ≤ 1
  unfolding are_apart
  single-port [] b apart = omega arith
  single-port (row ∷ rows) b apart = elim (same_birth row.1.birth b) as (λ s. same_birth row.1.birth b ≡ s → count (is_port b) (map (shown_port f) (row ∷ rows)) ≤ 1) [
    | true ↦ λ here. subst (λ c. count (is_port c) (map (shown_port f) (row ∷ rows)) ≤ 1) (birth-same row.1.birth b here) (grind (arith, none-other (row.0, row.1.birth) rows))
    | false ↦ λ off. grind (arith, off, single-port rows b)
  ] refl

  -- and a key that stands has a birth that some port has
  pub other-name : (rows : List (Key × Port)) (b : Birth) (key : Key) → first (is_port b) (map (shown_port f) rows) ≡ None → stands (names_of (λ (p : Port). p.birth) rows) key ≡ true → same_birth (name_of (names_of (λ (p : Port). p.birth) rows) key) b ≡ false
  unfolding stands name_of
  other-name [] b key fresh there = absurd (cc)
  other-name (row ∷ rows) b key fresh there = grind (arith, other-name rows b key)

-- so a birth that no port has is that of no open port
module _ (it : Tables) (is : AreNamed (births_of it) it) (b : Birth) (fresh : first (is_port b) (map (shown_port (birth_of (births_of it))) it.ports.ports) ≡ None) where
  abbrev f : Object → Birth
  f = birth_of (births_of it)

  unnamed : (row : ℕ × Row Object) → object_stands (births_of it) row.1.object ≡ true → names_port b (shown_handle f row).object ≡ false
  unnamed row there = named row.1.object there
    where
      named : (o : Object) → object_stands (births_of it) o ≡ true → names_port b (shown_handle f (row.0, record { object = o; access = row.1.access })).object ≡ false
      named (object.Port key) stand = grind (arith, other-name f it.ports.ports b key)
      named (object.Process birth) stand = refl
      named (object.Thread birth) stand = refl
      named (object.Section key) stand = refl
      named (object.Token key) stand = refl

  rows-off : (hs : List (ℕ × Row Object)) → every (object_stands (births_of it)) (map (λ row. row.1.object) hs) ≡ true → has (λ h. names_port b h.object) (map (shown_handle f) hs) ≡ false
  rows-off [] all = refl
  rows-off (row ∷ hs) all = grind (arith, unnamed row, rows-off hs)

  parts-off : (parts : List Part) → every (all_pass part_refs (object_stands (births_of it))) parts ≡ true → has (has_handle_to b) (map (shown_part f) parts) ≡ false
  parts-off [] all = refl
  parts-off (part ∷ parts) all = grind (arith, rows-off part.handles.rows, parts-off parts)

  pub fresh-shut : has (has_handle_to b) (map (shown_part f) it.parts) ≡ false
  fresh-shut = parts-off it.parts is.refs.in_handles
