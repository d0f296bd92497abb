-- A request stands in the queue that messages from its port enter: so in each world of a run.
use Rattle.std.proofs.Common.{◌≡◌, ℕ, List, [], ◌∷◌, ◌++◌, Bool, true, false, not, Option, Some, None, refl, ap, ◌∙◌, arith}
use Rattle.std.specs.Prelude.{◌&&◌, ◌||◌, if◌then◌else◌}
use Rattle.std.proofs.lemmas.Bool.{and_from}
use Rattle.lpc_base.specs.Rows.{every, passes}
use Rattle.lpc_base.proofs.RowWords.{every-change, every-more, every-push, every-without, first-kept, first-passes}
use Rattle.lpc_base.proofs.RowMaps.{every-both, every-first}
use Rattle.lpc_base.proofs.Bools.{first-true, or-last, second-true}
use Rattle.lpc_base.proofs.Births.{birth-same}
use Rattle.lpc_base.specs.declared.port_kind.PortKind.TheVariants.{Client, Connection, Server, Unnamed}
use Rattle.lpc_model.specs.World.{Birth, PortKind, PortRow, Request, WaitKind, WaitRow, World, Acceptance, Security, Event}
use Rattle.lpc_model.specs.Found.{is_cut, is_port, is_asking, is_server_port, is_the, port_row, same_birth, waits_as, waits_at}
use Rattle.lpc_model.specs.Basics.{Accepts, Awaits, Basic, Completes, Cuts, Frees, Joins, Makes, Receives, Wakes, accepted, basic, completed, cut, is_end_of, joined, received, world_after, Dies, Secures, secured, Leaves}
use Rattle.lpc_model.specs.Circle.{Group, is_fine_client, is_fine_port}
use Rattle.lpc_model.proofs.Steps.Rows.{first-map}
use Rattle.lpc_isolation.proofs.Views.Alone.{HasFineRows}
use Rattle.lpc_isolation.proofs.Views.View.{of_birth}
use Rattle.lpc_isolation.proofs.Rows.Fair.{Fair, implies, is_fair_wait, port-side}
use Rattle.lpc_isolation.proofs.Views.Mine.{Ways, is_way}

-- a request made on a port stands in the queue that messages from that port enter
abbrev pub leads : Birth → PortRow → Bool
leads q p = elim p.kind [
  | Client ↦ is_the q p.connection
  | Server ↦ is_cut p || is_the q p.pair
  | _ ↦ same_birth q p.birth
]

abbrev pub is_path : World → WaitRow → Bool
is_path w x = not (is_asking x) || passes (port_row w x.port) (leads x.queue)

abbrev pub Paths : World → Type 0
Paths w = every (is_path w) w.waits ≡ true

-- so a member's request goes as a reply needs
own-way : (m : Group) (c : ℕ) (w : World) (x : WaitRow) (p : PortRow) → port_row w x.port ≡ Some p → is_fair_wait m c x ≡ true → same_birth x.queue p.birth ≡ true → is_way m w x ≡ true
own-way m c w x p row fair on =
    let port : p.birth ≡ x.port = birth-same p.birth x.port (first-passes (is_port x.port) w.ports p row) in
    let queue : m x.queue.process ≡ m x.process = of_birth m x.queue p.birth on ∙ ap (λ (b : Birth). m b.process) port ∙ port-side m x (first-true _ _ fair) in
    at (m x.process) (m x.queue.process) refl refl queue
  where
    at : (a b : Bool) → m x.process ≡ a → m x.queue.process ≡ b → b ≡ a → is_way m w x ≡ true
    at true true is it same = rw (is, it) (grind arith)
    at true false is it same = absurd (cc)
    at false b is it same = rw is (grind arith)

lead-way : (m : Group) (c : ℕ) (w : World) (x : WaitRow) (p : PortRow) (k : PortKind) → p.kind ≡ k → port_row w x.port ≡ Some p → is_fair_wait m c x ≡ true → is_fine_port m c p ≡ true → leads x.queue p ≡ true → is_way m w x ≡ true
lead-way m c w x p Client k row fair fine on = client p.connection refl (rw k at fine) (rw k at on)
  where
    own : m p.birth.process ≡ m x.process
    own = ap (λ (b : Birth). m b.process) (birth-same p.birth x.port (first-passes (is_port x.port) w.ports p row)) ∙ port-side m x (first-true _ _ fair)

    client : (o : Option Birth) → p.connection ≡ o → passes o (is_fine_client m c p.birth) ≡ true → is_the x.queue o ≡ true → is_way m w x ≡ true
    client None none fine on = absurd (cc)
    client (Some b) some fine on =
        let queue : m x.queue.process ≡ m b.process = of_birth m x.queue b on in
        let inside : implies (m x.process) (m x.queue.process) ≡ true = fine-way (m p.birth.process) (m x.process) (m b.process) (m x.queue.process) own queue (first-true _ _ fine) in
        grind arith
      where
        fine-way : (a b c d : Bool) → a ≡ b → d ≡ c → (not a || c) ≡ true → implies b d ≡ true
        fine-way a b c d one two is = grind arith
lead-way m c w x p Server k row fair fine on = let it : (is_cut p || is_the x.queue p.pair) ≡ true = rw k at on in rw row (either-way (is_asking x) (m x.process) (m x.queue.process) (is_cut p) (is_the x.queue p.pair) it)
  where
    either-way : (a b c d e : Bool) → (d || e) ≡ true → implies (a && b) (c || (d || e)) ≡ true
    either-way a b c d e is = grind arith
lead-way m c w x p Connection k row fair fine on = own-way m c w x p row fair (rw k at on)
lead-way m c w x p Unnamed k row fair fine on = own-way m c w x p row fair (rw k at on)

pub path-way : (m : Group) (c : ℕ) (w : World) (x : WaitRow) → HasFineRows m c w → (is_fair_wait m c x && is_path w x) ≡ true → is_way m w x ≡ true
path-way m c w x fine is = at (is_asking x) refl (port_row w x.port) refl
  where
    at : (b : Bool) → is_asking x ≡ b → (o : Option PortRow) → port_row w x.port ≡ o → is_way m w x ≡ true
    at false off o row = rw off refl
    at true on None row = let off : (not (is_asking x) || false) ≡ true = rw row at (second-true (is_fair_wait m c x) _ is) in absurd (grind arith)
    at true on (Some p) row =
        let to : (not (is_asking x) || leads x.queue p) ≡ true = rw row at (second-true (is_fair_wait m c x) _ is) in
        lead-way m c w x p p.kind refl row (first-true _ _ is) (every-first (is_fine_port m c) (is_port x.port) w.ports p fine.1 row) (or-last (is_asking x) (leads x.queue p) on to)

pub paths-ways : (m : Group) (c : ℕ) (w : World) → Fair m c w → HasFineRows m c w → Paths w → Ways m w
paths-ways m c w f fine all = every-more (λ x. is_fair_wait m c x && is_path w x) (is_way m w) (λ x is. path-way m c w x fine is) w.waits
    (every-both (is_fair_wait m c) (is_path w) _ (λ x one two. and_from _ _ one two) w.waits f.waits all)

-- what a step must be, so that it stays so
abbrev pub is_off_row : Birth → Birth → PortRow → Bool
is_off_row client server p = not (is_server_port p) || (not (is_port client p) && not (is_port server p))

abbrev pub is_off : World → Birth → Birth → WaitRow → Bool
is_off w client server x = not (is_asking x) || passes (port_row w x.port) (is_off_row client server)

abbrev pub keeps_paths : World → Basic → Bool
keeps_paths w (Awaits x) = is_path w x
keeps_paths w (Joins client server context) = every (is_off w client server) w.waits
keeps_paths w (Frees o) = false
keeps_paths w b = true

abbrev pub are_paths : World → List Basic → Bool
are_paths w [] = true
are_paths w (b ∷ bs) = keeps_paths w b && are_paths (basic w b) bs

accepted-path : (w : World) (reply : Acceptance) (x : WaitRow) (sort : WaitKind) → x.kind ≡ sort → is_path w x ≡ true → is_path w (accepted reply x) ≡ true
accepted-path w reply x (Request a) is path = rw is (rw is at path)
accepted-path w reply x (Event r) is path = rw is (rw is at path)
accepted-path w reply x b is path = rw is refl

-- the row of a path stands
kept-path : (w v : World) (x : WaitRow) → ((p : PortRow) → port_row w x.port ≡ Some p → leads x.queue p ≡ true → passes (port_row v x.port) (leads x.queue) ≡ true) → is_path w x ≡ true → is_path v x ≡ true
kept-path w v x keeps is = at (is_asking x) refl
  where
    rows : (o : Option PortRow) → port_row w x.port ≡ o → passes o (leads x.queue) ≡ true → passes (port_row v x.port) (leads x.queue) ≡ true
    rows None none on = absurd (cc)
    rows (Some p) some on = keeps p some on

    at : (b : Bool) → is_asking x ≡ b → is_path v x ≡ true
    at true go = let on : passes (port_row w x.port) (leads x.queue) ≡ true = grind arith in rw (rows (port_row w x.port) refl on) (grind arith)
    at false stay = rw stay refl

joined-lead : (client server : Birth) (context : ℕ) (q : Birth) (p : PortRow) (k : PortKind) → p.kind ≡ k → is_off_row client server p ≡ true → leads q p ≡ true → leads q (joined client server context p) ≡ true
joined-lead client server context q p k kind off on = at (is_port client p) (is_port server p) refl refl k kind
  where
    at : (a b : Bool) → is_port client p ≡ a → is_port server p ≡ b → (k : PortKind) → p.kind ≡ k → leads q (joined client server context p) ≡ true
    at false false is it k kind = rw (is, it) on
    at true b is it Server kind = let no : (false || (not true && not (is_port server p))) ≡ true = rw (is, kind) at off in absurd (cc)
    at true b is it Client kind = rw (is, kind) (rw kind at on)
    at true b is it Connection kind = rw (is, kind) (rw kind at on)
    at true b is it Unnamed kind = rw (is, kind) (rw kind at on)
    at false true is it Server kind = let no : (false || (not false && not true)) ≡ true = rw (is, it, kind) at off in absurd (cc)
    at false true is it Client kind = rw (is, it, kind) (rw kind at on)
    at false true is it Connection kind = rw (is, it, kind) (rw kind at on)
    at false true is it Unnamed kind = rw (is, it, kind) (rw kind at on)

pub joined-same : (client server : Birth) (context : ℕ) (b : Birth) (p : PortRow) → is_port b (joined client server context p) ≡ is_port b p
joined-same client server context b p = at (is_port client p) (is_port server p) refl refl
  where
    at : (x y : Bool) → is_port client p ≡ x → is_port server p ≡ y → is_port b (joined client server context p) ≡ is_port b p
    at true y is it = rw is refl
    at false true is it = rw (is, it) refl
    at false false is it = rw (is, it) refl

abbrev completing : Birth → PortRow → PortRow
completing b p = if is_port b p then completed p else p

completed-same : (b d : Birth) (p : PortRow) → is_port d (completing b p) ≡ is_port d p
completed-same b d p = at (is_port b p) refl
  where
    at : (e : Bool) → is_port b p ≡ e → is_port d (completing b p) ≡ is_port d p
    at true is = rw is refl
    at false is = rw is refl

completed-lead : (b q : Birth) (p : PortRow) → leads q (completing b p) ≡ leads q p
completed-lead b q p = at (is_port b p) refl
  where
    at : (e : Bool) → is_port b p ≡ e → leads q (completing b p) ≡ leads q p
    at true is = rw is refl
    at false is = rw is refl

abbrev securing : Security → Birth → PortRow → PortRow
securing s b p = if is_port b p then secured s p else p

secured-same : (s : Security) (b d : Birth) (p : PortRow) → is_port d (securing s b p) ≡ is_port d p
secured-same s b d p = at (is_port b p) refl
  where
    at : (e : Bool) → is_port b p ≡ e → is_port d (securing s b p) ≡ is_port d p
    at true is = rw is refl
    at false is = rw is refl

secured-lead : (s : Security) (b q : Birth) (p : PortRow) → leads q (securing s b p) ≡ leads q p
secured-lead s b q p = at (is_port b p) refl
  where
    at : (e : Bool) → is_port b p ≡ e → leads q (securing s b p) ≡ leads q p
    at true is = rw is refl
    at false is = rw is refl

abbrev cutting : Birth → PortRow → PortRow
cutting b p = if is_end_of b p then cut p else p

cut-same : (b d : Birth) (p : PortRow) → is_port d (cutting b p) ≡ is_port d p
cut-same b d p = at (is_end_of b p)
  where
    at : (e : Bool) → is_port d (if e then cut p else p) ≡ is_port d p
    at true = refl
    at false = refl

cut-lead : (b q : Birth) (p : PortRow) (k : PortKind) → p.kind ≡ k → leads q p ≡ true → leads q (cutting b p) ≡ true
cut-lead b q p k kind on = at (is_end_of b p) k kind
  where
    at : (e : Bool) (k : PortKind) → p.kind ≡ k → leads q (if e then cut p else p) ≡ true
    at false k kind = on
    at true Server kind = rw kind refl
    at true Client kind = rw kind (rw kind at on)
    at true Connection kind = rw kind (rw kind at on)
    at true Unnamed kind = rw kind (rw kind at on)

joins-path : (w : World) (client server : Birth) (context : ℕ) (x : WaitRow) → is_path w x ≡ true → is_off w client server x ≡ true → is_path (basic w (Joins client server context)) x ≡ true
joins-path w client server context x is off = at (is_asking x) refl (port_row w x.port) refl
  where
    v : World
    v = basic w (Joins client server context)

    at : (b : Bool) → is_asking x ≡ b → (o : Option PortRow) → port_row w x.port ≡ o → is_path v x ≡ true
    at false stay o row = rw stay refl
    at true go None row = let none : (not (is_asking x) || false) ≡ true = rw row at is in absurd (grind arith)
    at true go (Some p) row =
        let on : (not true || leads x.queue p) ≡ true = rw (go, row) at is in
        let of : (not true || is_off_row client server p) ≡ true = rw (go, row) at off in
        rw (go, first-map (is_port x.port) (joined client server context) (joined-same client server context x.port) w.ports p row) (joined-lead client server context x.queue p p.kind refl of on)

completes-path : (w : World) (b : Birth) (x : WaitRow) → is_path w x ≡ true → is_path (basic w (Completes b)) x ≡ true
completes-path w b x is = kept-path w (basic w (Completes b)) x (λ p row on.
    rw (first-map (is_port x.port) (completing b) (completed-same b x.port) w.ports p row) (completed-lead b x.queue p ∙ on)) is

secures-path : (w : World) (b : Birth) (s : Security) (x : WaitRow) → is_path w x ≡ true → is_path (basic w (Secures b s)) x ≡ true
secures-path w b s x is = kept-path w (basic w (Secures b s)) x (λ p row on.
    rw (first-map (is_port x.port) (securing s b) (secured-same s b x.port) w.ports p row) (secured-lead s b x.queue p ∙ on)) is

cuts-path : (w : World) (b : Birth) (x : WaitRow) → is_path w x ≡ true → is_path (basic w (Cuts b)) x ≡ true
cuts-path w b x is = kept-path w (basic w (Cuts b)) x (λ p row on.
    rw (first-map (is_port x.port) (cutting b) (cut-same b x.port) w.ports p row) (cut-lead b x.queue p p.kind refl on)) is

makes-path : (w : World) (p : PortRow) (x : WaitRow) → is_path w x ≡ true → is_path (basic w (Makes p)) x ≡ true
makes-path w p x is = kept-path w (basic w (Makes p)) x (λ r row on. rw (first-kept (is_port x.port) w.ports p r row) on) is

basic-paths : (w : World) (b : Basic) → keeps_paths w b ≡ true → Paths w → Paths (basic w b)
basic-paths w (Awaits x) ok all = every-push (is_path w) w.waits x all ok
basic-paths w (Wakes who call status fields) ok all = every-without (is_path w) (waits_as who) w.waits all
basic-paths w (Receives who q) ok all = every-change (is_path w) (waits_at who q) received (λ x is. is) w.waits all
basic-paths w (Accepts who reply) ok all = every-change (is_path w) (waits_as who) (accepted reply) (λ x is. accepted-path w reply x x.kind refl is) w.waits all
basic-paths w (Makes p) ok all = every-more (is_path w) (is_path (basic w (Makes p))) (makes-path w p) w.waits all
basic-paths w (Joins client server context) ok all = every-both (is_path w) (is_off w client server) (is_path (basic w (Joins client server context))) (joins-path w client server context) w.waits all ok
basic-paths w (Completes b) ok all = every-more (is_path w) (is_path (basic w (Completes b))) (completes-path w b) w.waits all
basic-paths w (Secures b s) ok all = every-more (is_path w) (is_path (basic w (Secures b s))) (secures-path w b s) w.waits all
basic-paths w (Frees o) ok all = absurd (cc)
basic-paths w (Cuts b) ok all = every-more (is_path w) (is_path (basic w (Cuts b))) (cuts-path w b) w.waits all
basic-paths w (Dies who status) ok all = every-without (is_path w) (waits_as who) w.waits all
basic-paths w (Leaves who) ok all = every-without (is_path w) (waits_as who) w.waits all
basic-paths w b ok all = all

pub run-paths : (w : World) (bs : List Basic) → are_paths w bs ≡ true → Paths w → Paths (world_after w bs)
run-paths w [] ok all = all
run-paths w (b ∷ bs) ok all = run-paths (basic w b) bs (second-true _ _ ok) (basic-paths w b (first-true _ _ ok) all)

pub append-paths : (w : World) (bs cs : List Basic) → are_paths w bs ≡ true → are_paths (world_after w bs) cs ≡ true → are_paths w (bs ++ cs) ≡ true
append-paths w [] cs one two = two
append-paths w (b ∷ bs) cs one two = and_from _ _ (first-true _ _ one) (append-paths (basic w b) bs cs (second-true _ _ one) two)
