-- Where a message goes that is sent on a port, in a view.
use Rattle.lpc_model.specs.Linked.{passes_or_none}
use Rattle.std.proofs.Common.{◌≡◌, ℕ, Bool, true, false, cond, not, Option, Some, None, refl, ap, sym, ◌∙◌, arith}
use Rattle.std.specs.Prelude.{◌&&◌, ◌==◌, is_none}
use Rattle.std.proofs.lemmas.Bool.{eqb-true}
use Rattle.lpc_base.specs.Rows.{passes}
use Rattle.lpc_base.specs.declared.port_kind.PortKind.TheVariants.{Client, Connection, Server, Unnamed}
use Rattle.lpc_base.proofs.RowMaps.{every-first}
use Rattle.lpc_model.specs.World.{Birth, PortKind, PortRow, World}
use Rattle.lpc_model.specs.Found.{context_of, if_open, is_open, is_port, is_server_port, port_row, route, way}
use Rattle.lpc_model.specs.Circle.{Group, is_fine_client, is_fine_port, is_told_inside}
use Rattle.lpc_isolation.proofs.Views.Alone.{HasFineRows}
use Rattle.lpc_isolation.proofs.Views.View.{seen_pair, seen_port, view}
use Rattle.lpc_isolation.proofs.Rows.Fair.{Fair, all_of, is_fair_pair, is_fair_port, is_home}
use Rattle.lpc_isolation.proofs.Views.Seen.{open-view}

abbrev inside : Group → Birth → Bool
inside m b = m b.process

-- what is known of a port's row
pub record Right (m : Group) (c : ℕ) (w : World) (p : PortRow) : Type 0 where
  pub fair : is_fair_port m c p ≡ true
  pub fine : is_fine_port m c p ≡ true

pub right-row : (m : Group) (c : ℕ) (w : World) (p : PortRow) → Fair m c w → HasFineRows m c w → port_row w p.birth ≡ Some p → Right m c w p
right-row m c w p f fine at = record {
  fair = every-first (is_fair_port m c) (is_port p.birth) w.ports p f.ports at;
  fine = every-first (is_fine_port m c) (is_port p.birth) w.ports p fine.1 at;
}

-- the connection port of a member's client port is a member's
fine-in : (m : Group) (c : ℕ) (b : Birth) (o : Option Birth) → passes o (is_fine_client m c b) ≡ true → m b.process ≡ true → all_of o (inside m) ≡ true
fine-in m c b None is own = refl
fine-in m c b (Some q) is own = grind arith

-- and that of an outsider's isn't c's
abbrev not_of : ℕ → Birth → Bool
not_of c b = not (b.process == c)

fine-out : (m : Group) (c : ℕ) (b : Birth) (o : Option Birth) → passes o (is_fine_client m c b) ≡ true → m b.process ≡ false → all_of o (not_of c) ≡ true
fine-out m c b None is out = refl
fine-out m c b (Some q) is out = grind arith

-- the pairs
client-pair : (m : Group) (c : ℕ) (p : PortRow) (o : Option Birth) → (is_home p && all_of o (is_fair_pair m c p)) ≡ true → is_server_port p ≡ false → m p.birth.process ≡ true → all_of o (inside m) ≡ true
client-pair m c p None fair kind own = refl
client-pair m c p (Some q) fair kind own = grind arith

c-pair : (m : Group) (c : ℕ) (p : PortRow) (o : Option Birth) → (is_home p && all_of o (is_fair_pair m c p)) ≡ true → (p.birth.process == c) ≡ true → m p.birth.process ≡ true → all_of o (inside m) ≡ true
c-pair m c p None fair mine own = refl
c-pair m c p (Some q) fair mine own = grind arith

c-other : (m : Group) (c : ℕ) (q : Birth) → m c ≡ true → m q.process ≡ false → not_of c q ≡ true
c-other m c q c_in out = at (q.process == c) refl
  where
    at : (b : Bool) → (q.process == c) ≡ b → not b ≡ true
    at true is = let k : m q.process ≡ m c = ap m (eqb-true _ _ is) in absurd (cc)
    at false is = refl

server-pair : (m : Group) (c : ℕ) (p : PortRow) (o : Option Birth) → (is_home p && all_of o (is_fair_pair m c p)) ≡ true → is_server_port p ≡ true → m c ≡ true → m p.birth.process ≡ false → all_of o (not_of c) ≡ true
server-pair m c p None fair kind c_in out = refl
server-pair m c p (Some q) fair kind c_in out = let q_out : m q.process ≡ false = grind arith in c-other m c q c_in q_out

-- open ports
if_open-view : (m : Group) (c : ℕ) (w : World) (o : Option Birth) → Fair m c w → all_of o (inside m) ≡ true → if_open (view m w) o ≡ if_open w o
if_open-view m c w None f is = refl
if_open-view m c w (Some b) f is = rw (open-view m c w b f is) refl

if_open-seen : (m : Group) (c : ℕ) (w : World) (o : Option Birth) → Fair m c w → if_open (view m w) (seen_pair m o) ≡ seen_pair m (if_open w o)
if_open-seen m c w None f = refl
if_open-seen m c w (Some b) f = at (m b.process) (is_open w b) refl refl
  where
    at : (i e : Bool) → m b.process ≡ i → is_open w b ≡ e → if_open (view m w) (cond i (Some b) None) ≡ seen_pair m (cond e (Some b) None)
    at true true is opens = rw (open-view m c w b f is, opens, is) refl
    at true false is opens = rw (open-view m c w b f is, opens) refl
    at false true out opens = rw out refl
    at false false out opens = refl

seen-inside : (m : Group) (o : Option Birth) → all_of o (inside m) ≡ true → seen_pair m o ≡ o
seen-inside m None is = refl
seen-inside m (Some b) is = rw is refl

if_open-keeps : (w : World) (f : Birth → Bool) (o : Option Birth) → all_of o f ≡ true → all_of (if_open w o) f ≡ true
if_open-keeps w f None is = refl
if_open-keeps w f (Some b) is = at (is_open w b)
  where
    at : (e : Bool) → all_of (cond e (Some b) None) f ≡ true
    at true = is
    at false = refl

cut-or : (f : Birth → Bool) (cut : Bool) (o : Option Birth) → all_of o f ≡ true → all_of (cond cut None o) f ≡ true
cut-or f true o is = refl
cut-or f false o is = is

cut-seen : (m : Group) (pair connection : Option Birth) → all_of pair (inside m) ≡ true → cond (is_none (seen_pair m pair)) None connection ≡ cond (is_none pair) None connection
cut-seen m pair connection is = rw (seen-inside m pair is) refl

-- a member's port: its way is seen where it leads to a member
way-view : (m : Group) (c : ℕ) (w : World) (p : PortRow) (k : PortKind) → p.kind ≡ k → Fair m c w → Right m c w p → m p.birth.process ≡ true → way (view m w) (seen_port m p) ≡ seen_pair m (way w p)
way-view m c w p Unnamed k f r own = rw (k, own) refl
way-view m c w p Connection k f r own = rw (k, own) refl
way-view m c w p Client k f r own =
    let connection : all_of p.connection (inside m) ≡ true = fine-in m c p.birth p.connection (rw k at r.fine) own in
    let pair : all_of p.pair (inside m) ≡ true = client-pair m c p p.pair r.fair (rw k refl) own in
    let to : all_of (cond (is_none p.pair) None p.connection) (inside m) ≡ true = cut-or (inside m) (is_none p.pair) p.connection connection in
    rw (k, cut-seen m p.pair p.connection pair) (if_open-view m c w (cond (is_none p.pair) None p.connection) f to ∙ sym (seen-inside m _ (if_open-keeps w (inside m) _ to)))
way-view m c w p Server k f r own = rw k (if_open-seen m c w p.pair f)

pub route-view : (m : Group) (c : ℕ) (w : World) (p : PortRow) → Fair m c w → Right m c w p → m p.birth.process ≡ true → route (view m w) (seen_port m p) ≡ seen_pair m (route w p)
route-view m c w p f r own = at (is_open w p.birth) refl
  where
    at : (e : Bool) → is_open w p.birth ≡ e → route (view m w) (seen_port m p) ≡ seen_pair m (cond e (way w p) None)
    at true opens = rw (open-view m c w p.birth f own, opens) (way-view m c w p p.kind refl f r own)
    at false opens = rw (open-view m c w p.birth f own, opens) refl

-- the way from c's port leads to a member
c-way : (m : Group) (c : ℕ) (w : World) (p : PortRow) (k : PortKind) → p.kind ≡ k → Right m c w p → m p.birth.process ≡ true → (p.birth.process == c) ≡ true → all_of (way w p) (inside m) ≡ true
c-way m c w p Unnamed k r own mine = rw k own
c-way m c w p Connection k r own mine = rw k own
c-way m c w p Client k r own mine = rw k (if_open-keeps w (inside m) _ (cut-or (inside m) (is_none p.pair) p.connection (fine-in m c p.birth p.connection (rw k at r.fine) own)))
c-way m c w p Server k r own mine = rw k (if_open-keeps w (inside m) p.pair (c-pair m c p p.pair r.fair mine own))

-- and that from an outsider's port doesn't lead to c
out-way : (m : Group) (c : ℕ) (w : World) (p : PortRow) (k : PortKind) → p.kind ≡ k → Right m c w p → m c ≡ true → m p.birth.process ≡ false → all_of (way w p) (not_of c) ≡ true
out-way m c w p Unnamed k r c_in out = rw k (c-other m c p.birth c_in out)
out-way m c w p Connection k r c_in out = rw k (c-other m c p.birth c_in out)
out-way m c w p Client k r c_in out = rw k (if_open-keeps w (not_of c) _ (cut-or (not_of c) (is_none p.pair) p.connection (fine-out m c p.birth p.connection (rw k at r.fine) out)))
out-way m c w p Server k r c_in out = rw k (if_open-keeps w (not_of c) p.pair (server-pair m c p p.pair r.fair (rw k refl) c_in out))

route-keeps : (w : World) (f : Birth → Bool) (p : PortRow) → all_of (way w p) f ≡ true → all_of (route w p) f ≡ true
route-keeps w f p is = at (is_open w p.birth)
  where
    at : (e : Bool) → all_of (cond e (way w p) None) f ≡ true
    at true = is
    at false = refl

-- a queue that a message enters: between c and others than members goes none
pub routed-in : (m : Group) (c : ℕ) (w : World) (p : PortRow) (q : Birth) → Right m c w p → m c ≡ true → (p.birth.process == c) ≡ true → route w p ≡ Some q → m q.process ≡ true
routed-in m c w p q r c_in mine at =
    let own : m p.birth.process ≡ true = ap m (eqb-true _ _ mine) ∙ c_in in
    rw at at (route-keeps w (inside m) p (c-way m c w p p.kind refl r own mine))

-- where what is told of a member's exceptions leads to no outsider
told-pair : (m : Group) (o : Option Birth) → passes_or_none o (λ client. m client.process) ≡ true → all_of o (inside m) ≡ true
told-pair m None is = refl
told-pair m (Some q) is = is

told-way : (m : Group) (c : ℕ) (w : World) (p : PortRow) (k : PortKind) → p.kind ≡ k → Right m c w p → m p.birth.process ≡ true → is_told_inside m p ≡ true → all_of (way w p) (inside m) ≡ true
told-way m c w p Unnamed k r own told = rw k own
told-way m c w p Connection k r own told = rw k own
told-way m c w p Client k r own told = rw k (if_open-keeps w (inside m) _ (cut-or (inside m) (is_none p.pair) p.connection (fine-in m c p.birth p.connection (rw k at r.fine) own)))
told-way m c w p Server k r own told = let pair : passes_or_none p.pair (λ client. m client.process) ≡ true = rw k at told in rw k (if_open-keeps w (inside m) p.pair (told-pair m p.pair pair))

pub routed-inside : (m : Group) (c : ℕ) (w : World) (p : PortRow) (q : Birth) → Right m c w p → m p.birth.process ≡ true → is_told_inside m p ≡ true → route w p ≡ Some q → m q.process ≡ true
routed-inside m c w p q r own told at = rw at at (route-keeps w (inside m) p (told-way m c w p p.kind refl r own told))

pub routed-out : (m : Group) (c : ℕ) (w : World) (p : PortRow) (q : Birth) → Right m c w p → m c ≡ true → m p.birth.process ≡ false → route w p ≡ Some q → (q.process == c) ≡ false
routed-out m c w p q r c_in out at =
    let k : not (q.process == c) ≡ true = rw at at (route-keeps w (not_of c) p (out-way m c w p p.kind refl r c_in out)) in grind arith

-- the context that a member's message keeps
context-at : (m : Group) (p : PortRow) (o : Option Birth) → all_of o (inside m) ≡ true → cond (is_none (seen_pair m o)) 0 p.context ≡ cond (is_none o) 0 p.context
context-at m p None is = refl
context-at m p (Some b) is = rw is refl

context-kind : (m : Group) (c : ℕ) (w : World) (p : PortRow) (k : PortKind) → p.kind ≡ k → Right m c w p → m p.birth.process ≡ true → context_of (seen_port m p) ≡ context_of p
context-kind m c w p Client k r own = rw k (context-at m p p.pair (client-pair m c p p.pair r.fair (rw k refl) own))
context-kind m c w p b k r own = rw k refl

pub context-view : (m : Group) (c : ℕ) (w : World) (p : PortRow) → Right m c w p → m p.birth.process ≡ true → context_of (seen_port m p) ≡ context_of p
context-view m c w p r own = context-kind m c w p p.kind refl r own
