-- The memory of each table: a row that comes takes a place of it, and one that goes gives it back.
use Rattle.std.proofs.Common.{◌≡◌, ℕ, ◌+◌, ◌-◌, ◌<◌, ◌≤◌, List, [], ◌∷◌, ◌++◌, Bool, true, false, cond, length, map, Option, Some, None, option_map, refl, ap, sym, ◌∙◌, arith}
use Rattle.std.specs.Prelude.{Result, Ok, Err, IfOk, OnErr, OnOk}
use Rattle.std.proofs.lemmas.Bool.{eqb-true}
use Rattle.std.proofs.lemmas.Bool.Decides.{nat_tests}
use Rattle.std.proofs.lemmas.List.{length-map, length_push}
use Rattle.lpc_base.specs.Places.{is_in, least_handle}
use Rattle.lpc_base.specs.Rows.{change, count, first, has, which, without, without_first}
use Rattle.lpc_base.proofs.Differ.{length-ended, rest-differ, rest-none}
use Rattle.lpc_base.proofs.Least.{least-is-free}
use Rattle.lpc_base.proofs.RowMaps.{first-map, unseen-change}
use Rattle.lpc_base.proofs.RowWords.{change-none, every-true, length-without_first}
use Rattle.lpc_handles.specs.Handles as handles
use Rattle.lpc_handles.specs.Handles.{values}
use Rattle.lpc_handles.specs.declared.table.Row.{Row}
use Rattle.lpc_handles.specs.declared.table.TableFault.{TableFault}
use Rattle.lpc_homes.specs.Parts.{are_single_parts, closed, closing, dropped, emptied, emptying, goes_with, handed, is_part, roomed, rows_at, rows_in, spare_at, spare_in}
use Rattle.lpc_homes.specs.declared.object.Object.{Object}
use Rattle.lpc_homes.specs.declared.parts.Part.{Part}
use Rattle.lpc_model.specs.Found.{handles_of, waits_as}
use Rattle.lpc_model.specs.World.{WaitRow, World}
use Rattle.lpc_ports.specs.Table.{PortTable}
use Rattle.lpc_waits.specs.Table as waits
use Rattle.lpc_waits.specs.Table.{WaitTable}
use Rattle.lpc_rows.specs.Capacity.{HandlePlaces, capacity_by, is_of_process, no_places, places_in, places_of_part, view_places_of}
use Rattle.lpc_rows.specs.Kept.{rows_by}
use Rattle.lpc_rows.specs.Lawful.{AreLawful}
use Rattle.lpc_rows.specs.Shown.{Tables, birth_of, births_of, shown_wait}
use Rattle.lpc_sections.specs.Sections.{SectionRow}
use Rattle.lpc_slots.specs.Table.{Table, listed}
use Rattle.lpc_tokens.specs.declared.token_row.TokenRow.{TokenRow}
use Rattle.lpc_slots.specs.declared.Key.{Key}
use Rattle.lpc_rows.proofs.Changes as changes
use Rattle.lpc_rows.proofs.Steps as steps
use Rattle.lpc_rows.proofs.Tables as tables

module _ {X : Type 0} where
  pub one_more : (n : ℕ) (xs : List X) (x : X) → 0 < n → (n - 1) + length (xs ++ x ∷ []) ≡ n + length xs
  one_more n xs x some = let long = length_push xs x in omega (arith, long, some)

  parted : (p : X → Bool) (xs : List X) → count p xs + length (without p xs) ≡ length xs
  parted p [] = refl
  parted p (x ∷ xs) = grind (arith, parted p xs)

  pub passing_less : (p : X → Bool) (n : ℕ) (xs : List X) → (n + count p xs) + length (without p xs) ≡ n + length xs
  passing_less p n xs = let all = parted p xs in omega (arith, all)

pub first_less : {K M : Type 0} (p : K × M → Bool) (n : ℕ) (xs : List (K × M)) (key : K) → option_map (λ (row : K × M). row.0) (first p xs) ≡ Some key → (n + 1) + length (without_first p xs) ≡ n + length xs
first_less p n xs key at = by (first p xs) refl at
  where
    by : (o : Option _) → first p xs ≡ o → option_map (λ row. row.0) o ≡ Some key → (n + 1) + length (without_first p xs) ≡ n + length xs
    by None is none = absurd (cc)
    by (Some row) is some = let less = length-without_first p xs row is in omega (arith, less)

-- A handle more takes a place of its table
either_side : {O : Type 0} (v : ℕ) (row : Row O) (below above : List (ℕ × Row O)) → length (below ++ (v, row) ∷ above) ≡ length below + length above + 1
either_side v row [] above = omega arith
either_side v row (x ∷ below) above = grind (arith, either_side v row below above)

sides : {O : Type 0} (v : ℕ) (rows : List (ℕ × Row O)) → is_in v (values rows) ≡ false → length (which (handles.is_below v) rows) + length (which (handles.is_above v) rows) ≡ length rows
sides v [] off = refl
sides v (x ∷ rows) off = grind (arith, nat_tests, off, sides v rows)

new_value : (v : ℕ) (row : Row Object) (rows : List (ℕ × Row Object)) → v ≡ least_handle (values rows) → length (handles.with_row rows v row) ≡ length rows + 1
new_value v row rows least =
    let free = ap (λ n. is_in n (values rows)) least ∙ (least-is-free (values rows)) in
    let two = sides v rows free in
    let all = either_side v row (which (handles.is_below v) rows) (which (handles.is_above v) rows) in
    omega (arith, two, all)

handed_part : (v : ℕ) (row : Row Object) (part : Part) → v ≡ least_handle (values part.handles.rows) → 0 < part.handles.spare → places_of_part (handed v row part) ≡ places_of_part part
handed_part v row part least some =
    let more = new_value v row part.handles.rows least in
    ap (λ n. record { process = part.process; places = n }) (omega (arith, more, some))

handed_all : (pid v : ℕ) (row : Row Object) (parts : List Part) → are_single_parts parts ≡ true → v ≡ least_handle (values (rows_at parts pid)) → 0 < spare_at parts pid → map places_of_part (change (is_part pid) (handed v row) parts) ≡ map places_of_part parts
handed_all pid v row [] one least some = refl
handed_all pid v row (part ∷ parts) one least some = at (is_part pid part) refl (handed_all pid v row parts (rest-differ (λ (p : Part). p.process) part parts one))
  where
    Rest : Type 0
    Rest = v ≡ least_handle (values (rows_at parts pid)) → 0 < spare_at parts pid → map places_of_part (change (is_part pid) (handed v row) parts) ≡ map places_of_part parts

    Goal : Bool → Type 0
    Goal c = map places_of_part (cond c (handed v row part) part ∷ change (is_part pid) (handed v row) parts) ≡ map places_of_part (part ∷ parts)

    at : (c : Bool) → is_part pid part ≡ c → Rest → Goal (is_part pid part)
    at true own others =
        let rows : rows_at (part ∷ parts) pid ≡ part.handles.rows = rw own refl in
        let spare : spare_at (part ∷ parts) pid ≡ part.handles.spare = rw own refl in
        let here = handed_part v row part (least ∙ ap (λ (rs : List (ℕ × Row Object)). least_handle (values rs)) rows) (omega (arith, some, spare)) in
        let none = rest-none (λ (p : Part). p.process) part parts pid one (eqb-true part.process pid own) in
        let rest = change-none (is_part pid) (handed v row) parts none in
        rw (own, rest, here) refl
    at false off others =
        let rows : rows_at (part ∷ parts) pid ≡ rows_at parts pid = rw off refl in
        let spare : spare_at (part ∷ parts) pid ≡ spare_at parts pid = rw off refl in
        let rest = others (least ∙ ap (λ (rs : List (ℕ × Row Object)). least_handle (values rs)) rows) (omega (arith, some, spare)) in
        rw (off, rest) refl

pub handed_or_same : (pid : ℕ) (row : Row Object) (r : Result ℕ TableFault) (old new : List Part) → are_single_parts old ≡ true → IfOk r (λ v. v ≡ least_handle (values (rows_at old pid))) → IfOk r (λ v. new ≡ change (is_part pid) (handed v row) old) → OnErr r (new ≡ old) → OnOk r (0 < spare_at old pid)
    → map places_of_part new ≡ map places_of_part old
handed_or_same pid row (Ok v) old new one least more same some = ap (map places_of_part) more ∙ handed_all pid v row old one least some
handed_or_same pid row (Err e) old new one least more same some = ap (map places_of_part) same

-- One less gives its place back
first_gone : (v : ℕ) (rows : List (ℕ × Row Object)) (n : ℕ) → cond (has (handles.has_value v) rows) (n + 1) n + length (without_first (handles.has_value v) rows) ≡ n + length rows
first_gone v [] n = refl
first_gone v (x ∷ rows) n = grind (arith, first_gone v rows n)

closed_part : (v : ℕ) (part : Part) → places_of_part (closed v part) ≡ places_of_part part
closed_part v part = ap (λ n. record { process = part.process; places = n }) (first_gone v part.handles.rows part.handles.spare)

pub closed_all : (pid v : ℕ) (parts : List Part) → map places_of_part (closing pid v parts) ≡ map places_of_part parts
closed_all pid v parts = unseen-change places_of_part (is_part pid) (closed v) (closed_part v) parts

-- and the memory for views stays where handles alone change
pub handed_views : (pid : ℕ) (row : Row Object) (r : Result ℕ TableFault) (old new : List Part) → IfOk r (λ v. new ≡ change (is_part pid) (handed v row) old) → OnErr r (new ≡ old) → map view_places_of new ≡ map view_places_of old
handed_views pid row (Ok v) old new more same = ap (map view_places_of) more ∙ unseen-change view_places_of (is_part pid) (handed v row) (λ part. refl) old
handed_views pid row (Err e) old new more same = ap (map view_places_of) same

pub closed_views : (pid v : ℕ) (parts : List Part) → map view_places_of (closing pid v parts) ≡ map view_places_of parts
closed_views pid v parts = unseen-change view_places_of (is_part pid) (closed v) (λ part. refl) parts

pub views_roomed : (pid : ℕ) (new parts : List Part) → new ≡ change (is_part pid) (roomed (spare_at new pid)) parts → map view_places_of new ≡ map view_places_of parts
views_roomed pid new parts at = ap (map view_places_of) at ∙ unseen-change view_places_of (is_part pid) (roomed (spare_at new pid)) (λ part. refl) parts

-- Views alone change
pub emptied_handles : (pid : ℕ) (parts : List Part) → map places_of_part (emptying pid parts) ≡ map places_of_part parts
emptied_handles pid parts = unseen-change places_of_part (is_part pid) emptied (λ part. refl) parts

pub emptied_views : (pid : ℕ) (parts : List Part) → map view_places_of (emptying pid parts) ≡ map view_places_of parts
emptied_views pid parts = unseen-change view_places_of (is_part pid) emptied (λ part. ap (λ n. record { process = part.process; places = n }) (omega arith)) parts

gone-and-left : {X : Type 0} (test : X → Bool) (xs : List X) → count test xs + length (without test xs) ≡ length xs
gone-and-left test [] = refl
gone-and-left test (x ∷ xs) = grind (arith, gone-and-left test xs)

pub dropped_handles : (port : Key) (parts : List Part) → map places_of_part (map (dropped port) parts) ≡ map places_of_part parts
dropped_handles port parts = unseen-change places_of_part (λ _. true) (dropped port) (λ part. refl) parts

pub dropped_views : (port : Key) (parts : List Part) → map view_places_of (map (dropped port) parts) ≡ map view_places_of parts
dropped_views port parts =
    unseen-change view_places_of (λ _. true) (dropped port)
    (λ part. let all = gone-and-left (goes_with port) part.views.views in ap (λ n. record { process = part.process; places = n }) (omega (arith, all))) parts

-- The memory of the tables, where one of them changed
module _ (it : Tables) (places : ℕ) where
  pub of_ports : (new : PortTable) → new.port_room + length new.ports ≡ it.ports.port_room + length it.ports.ports → new.message_room + length new.messages ≡ it.ports.message_room + length it.ports.messages → capacity_by (record it { ports = new }) places ≡ capacity_by it places
  of_ports new ports messages = rw (ports, messages) refl

  pub of_sections : (new : Table SectionRow) → new.spare + length (listed new) ≡ it.sections.spare + length (listed it.sections) → capacity_by (record it { sections = new }) places ≡ capacity_by it places
  of_sections new sections = rw sections refl

  pub of_tokens : (new : Table TokenRow) → new.spare + length (listed new) ≡ it.tokens.spare + length (listed it.tokens) → capacity_by (record it { tokens = new }) places ≡ capacity_by it places
  of_tokens new tokens = rw tokens refl

  pub of_waits : (new : WaitTable) → new.spare + length new.rows ≡ it.waits.spare + length it.waits.rows → capacity_by (record it { waits = new }) places ≡ capacity_by it places
  of_waits new waits = rw waits refl

  pub of_handles : (new : List Part) → map places_of_part new ≡ map places_of_part it.parts → map view_places_of new ≡ map view_places_of it.parts → capacity_by (record it { parts = new }) places ≡ capacity_by it places
  of_handles new parts views = rw (parts, views) refl

-- A wait that ends gives its place back
module _ (it : Tables) (calls made : ℕ) (is : AreLawful it calls made) (tid : ℕ) where
  pub ended : (new : WaitTable) → new ≡ record { rows = without (waits.is_of tid) it.waits.rows; spare = cond (has (waits.is_of tid) it.waits.rows) (it.waits.spare + 1) it.waits.spare; made = it.waits.made } → new.spare + length new.rows ≡ it.waits.spare + length it.waits.rows
  ended new table =
      let shown : List WaitRow = (rows_by it).waits in
      let spare = cond (has (waits.is_of tid) it.waits.rows) (it.waits.spare + 1) it.waits.spare in
      let left = ap (λ (v : World). length v.waits) (changes.ends it is.named tid spare it.waits.made) in
      let long = length-map (without (waits.is_of tid) it.waits.rows) (shown_wait (birth_of (births_of it))) in
      let all = length-map it.waits.rows (shown_wait (birth_of (births_of it))) in
      let less = length-ended (λ (x : WaitRow). x.thread) tid shown is.lawful.single in
      let same = steps.has_wait it calls made is tid in
      let fewer : length (without (waits.is_of tid) it.waits.rows) + cond (has (waits.is_of tid) it.waits.rows) 1 0 ≡ length it.waits.rows =
      ap (λ n. n + cond (has (waits.is_of tid) it.waits.rows) 1 0) (sym long ∙ left) ∙ (ap (λ b. length (without (waits_as tid) shown) + cond b 1 0) (sym same) ∙ less) ∙ all in
      rw table (by (has (waits.is_of tid) it.waits.rows) (length (without (waits.is_of tid) it.waits.rows)) (length it.waits.rows) fewer)
    where
      by : (q : Bool) (m n : ℕ) → m + cond q 1 0 ≡ n → cond q (it.waits.spare + 1) it.waits.spare + m ≡ it.waits.spare + n
      by true m n eq = omega (arith, eq)
      by false m n eq = omega (arith, eq)

-- What a process has memory for
pub places_at : (parts : List Part) (pid : ℕ) → places_in (first (is_of_process pid) (map places_of_part parts)) ≡ spare_at parts pid + length (rows_at parts pid)
places_at parts pid = ap places_in (first-map places_of_part (λ _. true) (is_part pid) (is_of_process pid) (λ part _. refl) parts (every-true parts)) ∙ counted (first (is_part pid) parts)
  where
    counted : (o : Option Part) → places_in (option_map places_of_part o) ≡ spare_in o + length (rows_in o)
    counted None = refl
    counted (Some part) = refl

-- which more room leaves as many handles in
pub roomed_number : (it : Tables) (calls made : ℕ) (is : AreLawful it calls made) (pid : ℕ) (new : List Part) → new ≡ change (is_part pid) (roomed (spare_at new pid)) it.parts → spare_at it.parts pid ≤ spare_at new pid → (other : ℕ) → length (rows_at new other) ≡ length (rows_at it.parts other)
roomed_number it calls made is pid new at more other =
    let kept = tables.roomed_rows it calls made is pid new at in
    let lawful = tables.roomed_lawful it calls made is pid new at more in
    sym (tables.handle_number (record it { parts = new }) calls made lawful other) ∙ ap (λ (w : World). length (handles_of w other)) kept ∙ tables.handle_number it calls made is other

-- and a process whose table has none yet changes nothing
pub none_pushed : (hs : List HandlePlaces) (new pid : ℕ) → places_in (first (is_of_process pid) (hs ++ no_places new ∷ [])) ≡ places_in (first (is_of_process pid) hs)
none_pushed [] new pid = at (is_of_process pid (no_places new))
  where
    at : (b : Bool) → places_in (cond b (Some (no_places new)) None) ≡ 0
    at true = refl
    at false = refl
none_pushed (p ∷ hs) new pid = at (is_of_process pid p) (none_pushed hs new pid)
  where
    at : (b : Bool) → places_in (first (is_of_process pid) (hs ++ no_places new ∷ [])) ≡ places_in (first (is_of_process pid) hs) → places_in (cond b (Some p) (first (is_of_process pid) (hs ++ no_places new ∷ []))) ≡ places_in (cond b (Some p) (first (is_of_process pid) hs))
    at true rest = refl
    at false rest = rest
