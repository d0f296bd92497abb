-- Basic steps keep ports linked.
use Rattle.std.proofs.Common.{◌≡◌, ℕ, ◌+◌, ◌≤◌, List, [], ◌∷◌, ◌++◌, Bool, true, false, cond, map, not, Option, Some, None, option_map, option_and_then, refl, sym, subst, arith}
use Rattle.std.proofs.lemmas.Bool.{or_left}
use Rattle.std.specs.Prelude.{◌&&◌, ◌||◌, is_none, is_some}
use Rattle.lpc_base.specs.Rows.{count, every, first, has, passes}
use Rattle.lpc_base.proofs.RowWords.{count-push, count-none, every-change, every-more, every-push, every-without, first-kept, first-push}
use Rattle.lpc_base.proofs.RowMaps.{every-change_to, every-map}
use Rattle.lpc_base.proofs.Births.{birth-same, birth-self}
use Rattle.lpc_base.proofs.Bools.{second-true}
use Rattle.lpc_names.specs.Binding.{is_name}
use Rattle.lpc_names.specs.Walk.{LinkTo, Stands}
use Rattle.lpc_names.specs.declared.names.Found.TheVariants.{Directory, Item}
use Rattle.lpc_model.specs.World.{Acceptance, Birth, Node, PortRow, WaitRow, World, Security}
use Rattle.lpc_model.specs.Found.{is_offered, is_port, is_the, pair_of, port_row, same_birth, waits_as, waits_at}
use Rattle.lpc_model.specs.Basics.{Accepts, AddsHandle, AddsProcess, AddsSection, AddsThread, Awaits, Basic, Binds, Completes, Cuts, Dies, DropsHandle, Frees, Joins, Makes, Receives, Tells, Unbinds, Wakes, accepted, basic, completed, cut, is_end_of, received, world_after, AddsToken, Secures, secured, Leaves}
use Rattle.lpc_model.specs.Linked.{IsLinked, is_root_port, is_lone_offer, is_mutual, is_rooted, is_unjoined, leads_to_root, names_nothing, passes_or_none}
use Rattle.lpc_model.proofs.Sound.Pairs.{tied}
use Rattle.lpc_model.proofs.Sound.Ties.{completed-birth, secured-birth}
use Rattle.lpc_model.proofs.Sound.Cuts.{cut-birth, cut-row, other-end, same-row}
use Rattle.lpc_model.proofs.Sound.Worlds.{by_kind}
use Rattle.lpc_model.proofs.Steps.InTurn.{steps-keep}

-- A world whose ports stand alike
-- what is linked by one world is by another, where what ports stand for stays
pub record Upholds (w v : World) : Type 0 where
  pub pairs : (b c : Birth) → is_the b (pair_of w c) ≡ true → is_the b (pair_of v c) ≡ true
  pub ends : (c : Birth) → is_root_port w c ≡ true → is_root_port v c ≡ true

pub option-kept : {A : Type 0} (o : Option A) (p q : A → Bool) → ((x : A) → p x ≡ true → q x ≡ true) → passes_or_none o p ≡ true → passes_or_none o q ≡ true
option-kept None p q more is = refl
option-kept (Some x) p q more is = more x is

pub mutual-kept : (w v : World) → Upholds w v → (p : PortRow) → is_mutual w p ≡ true → is_mutual v p ≡ true
mutual-kept w v u p is = option-kept p.pair _ _ (λ q. u.pairs p.birth q) is

pub rooted-kept : (w v : World) → Upholds w v → (p : PortRow) → is_rooted w p ≡ true → is_rooted v p ≡ true
rooted-kept w v u p is = option-kept p.connection _ _ u.ends is

pub target-kept : (w v : World) → Upholds w v → (node : Node Birth) → leads_to_root w node ≡ true → leads_to_root v node ≡ true
target-kept w v u (LinkTo target) is = refl
target-kept w v u (Stands Directory) is = refl
target-kept w v u (Stands (Item port)) is = u.ends port is

-- Steps that leave ports as they are
-- the rest of a world but its ports may change, with no more names to ports, and no more connects that aren't accepted
pub linked-same : (w v : World) → v.ports ≡ w.ports → (every (is_lone_offer w) w.waits ≡ true → every (is_lone_offer w) v.waits ≡ true) → (every (λ b. leads_to_root w b.1) w.bindings ≡ true → every (λ b. leads_to_root w b.1) v.bindings ≡ true) → IsLinked w → IsLinked v
linked-same w v same waits names l = record {
  births = rw same l.births;
  pairs = subst (λ ps. every (is_mutual (tied ps [])) ps ≡ true) (sym same) l.pairs;
  rooted = subst (λ ps. every (is_rooted (tied ps [])) ps ≡ true) (sym same) l.rooted;
  offers = subst (λ ps. every (is_lone_offer (tied ps [])) v.waits ≡ true) (sym same) (waits l.offers);
  targets = every-more (λ b. leads_to_root w b.1) (λ b. leads_to_root v b.1) (λ b. target-kept w v up b.1) v.bindings (names l.targets);
}
  where
    up : Upholds w v
    up = record {
      pairs = λ b c is. subst (λ ps. is_the b (pair_of (tied ps []) c) ≡ true) (sym same) is;
      ends = λ c is. subst (λ ps. is_root_port (tied ps []) c ≡ true) (sym same) is;
    }

accepted-offer : (w : World) (reply : Acceptance) (x : WaitRow) → is_lone_offer w x ≡ true → is_lone_offer w (accepted reply x) ≡ true
accepted-offer w reply = by_kind (λ x. is_lone_offer w x ≡ true → is_lone_offer w (accepted reply x) ≡ true) (λ x m is. refl) (λ x is. refl) (λ x is. refl) (λ x m offer is. refl) (λ x m r is. refl) (λ x m is. refl)

-- a name of no port, or none at all
abbrev pub is_portless : Node Birth → Bool
is_portless (LinkTo target) = true
is_portless (Stands Directory) = true
is_portless (Stands (Item port)) = false

portless-leads : (w : World) (node : Node Birth) → is_portless node ≡ true → leads_to_root w node ≡ true
portless-leads w (LinkTo target) is = refl
portless-leads w (Stands Directory) is = refl
portless-leads w (Stands (Item port)) is = absurd (cc)

-- steps that keep ports linked whatever the world
abbrev pub is_plain : Basic → Bool
is_plain (Awaits x) = not (is_offered x)
is_plain (Binds path node) = is_portless node
is_plain (Makes p) = false
is_plain (Joins client server context) = false
is_plain (Frees o) = false
is_plain b = true

-- steps that do so, make no process, thread, section or handle, end no thread, and let no handle go
abbrev pub is_steady : Basic → Bool
is_steady (AddsProcess p) = false
is_steady (AddsThread t) = false
is_steady (AddsHandle pid h) = false
is_steady (DropsHandle pid value) = false
is_steady (Dies who status) = false
is_steady (AddsSection s) = false
is_steady (AddsToken t) = false
is_steady b = is_plain b

pub steady-plain : (b : Basic) → is_steady b ≡ true → is_plain b ≡ true
steady-plain (AddsProcess p) is = refl
steady-plain (AddsThread t) is = refl
steady-plain (AddsHandle pid h) is = refl
steady-plain (DropsHandle pid value) is = refl
steady-plain (Dies who status) is = refl
steady-plain (AddsSection s) is = refl
steady-plain (AddsToken t) is = refl
steady-plain b is = is

-- Ports that change alike
pub row-same : (w : World) (ports : List PortRow) (f : PortRow → PortRow) → ((p : PortRow) → (f p).birth ≡ p.birth) → ports ≡ map f w.ports → (c : Birth) → first (is_port c) ports ≡ option_map f (port_row w c)
row-same w ports f same is c = rw is (mapped w.ports)
  where
    mapped : (ps : List PortRow) → first (is_port c) (map f ps) ≡ option_map f (first (is_port c) ps)
    mapped [] = refl
    mapped (p ∷ ps) = let b = same p in grind (arith, mapped ps)

pub count-mapped : (f : PortRow → PortRow) → ((p : PortRow) → (f p).birth ≡ p.birth) → (b : Birth) (ps : List PortRow) → count (is_port b) (map f ps) ≡ count (is_port b) ps
count-mapped f same b [] = refl
count-mapped f same b (p ∷ ps) = let one = same p in grind (arith, count-mapped f same b ps)

-- a row that keeps its birth, its pair and its connection
pub record IsAlike (f : PortRow → PortRow) : Type 0 where
  pub birth : (p : PortRow) → (f p).birth ≡ p.birth
  pub pair : (p : PortRow) → (f p).pair ≡ p.pair
  pub connection : (p : PortRow) → (f p).connection ≡ p.connection

alike-linked : (w v : World) (f : PortRow → PortRow) → IsAlike f → v.ports ≡ map f w.ports → v.waits ≡ w.waits → v.bindings ≡ w.bindings → IsLinked w → IsLinked v
alike-linked w v f a same waits names l = record {
  births = λ b. subst (λ ps. count (is_port b) ps ≤ 1) (sym same) (rw (count-mapped f a.birth b w.ports) (l.births b));
  pairs = subst (λ ps. every (is_mutual v) ps ≡ true) (sym same) (rw (every-map (is_mutual v) f w.ports) (every-more (is_mutual w) (λ p. is_mutual v (f p)) (λ p is. rw (a.birth p, a.pair p) (mutual-kept w v up p is)) w.ports l.pairs));
  rooted = subst (λ ps. every (is_rooted v) ps ≡ true) (sym same) (rw (every-map (is_rooted v) f w.ports) (every-more (is_rooted w) (λ p. is_rooted v (f p)) (λ p is. rw (a.connection p) (rooted-kept w v up p is)) w.ports l.rooted));
  offers = subst (λ xs. every (is_lone_offer v) xs ≡ true) (sym waits) (every-more (is_lone_offer w) (is_lone_offer v) (λ x. offer x) w.waits l.offers);
  targets = subst (λ bs. every (λ b. leads_to_root v b.1) bs ≡ true) (sym names) (every-more (λ b. leads_to_root w b.1) (λ b. leads_to_root v b.1) (λ b. target-kept w v up b.1) w.bindings l.targets);
}
  where
    row : (c : Birth) → port_row v c ≡ option_map f (port_row w c)
    row = row-same w v.ports f a.birth same

    passing : (t : PortRow → Bool) → ((p : PortRow) → t p ≡ true → t (f p) ≡ true) → (o : Option PortRow) → passes o t ≡ true → passes (option_map f o) t ≡ true
    passing t more None is = absurd (cc)
    passing t more (Some p) is = more p is

    the-pair : (b : Birth) (o : Option PortRow) → is_the b (option_and_then (λ p. p.pair) o) ≡ true → is_the b (option_and_then (λ p. p.pair) (option_map f o)) ≡ true
    the-pair b None is = absurd (cc)
    the-pair b (Some p) is = rw (a.pair p) is

    up : Upholds w v
    up = record {
      pairs = λ b c is. rw (row c) (the-pair b (port_row w c) is);
      ends = λ c is. rw (row c) (passing names_nothing (λ p is. rw (a.pair p, a.connection p) is) (port_row w c) is);
    }

    either : (n e u ee uu : Bool) → (e ≡ true → ee ≡ true) → (u ≡ true → uu ≡ true) → (n || (e && u)) ≡ true → (n || (ee && uu)) ≡ true
    either n e u ee uu one two is = grind (arith, one, two)

    offer : (x : WaitRow) → is_lone_offer w x ≡ true → is_lone_offer v x ≡ true
    offer x is = either (not (is_offered x)) (is_root_port w x.queue) (passes (port_row w x.port) is_unjoined) (is_root_port v x.queue) (passes (port_row v x.port) is_unjoined) (up.ends x.queue) (λ one. rw (row x.port) (passing is_unjoined (λ p is. rw (a.pair p, a.connection p) is) (port_row w x.port) one)) is

-- a connection that is completed
secured-alike : (c : Birth) (s : Security) → IsAlike (λ p. cond (is_port c p) (secured s p) p)
secured-alike c s = record {
  birth = λ p. secured-birth s (is_port c p) p;
  pair = λ p. at (is_port c p) p;
  connection = λ p. other (is_port c p) p;
}
  where
    at : (b : Bool) (p : PortRow) → let q : PortRow = cond b (secured s p) p in q.pair ≡ p.pair
    at true p = refl
    at false p = refl

    other : (b : Bool) (p : PortRow) → let q : PortRow = cond b (secured s p) p in q.connection ≡ p.connection
    other true p = refl
    other false p = refl

completed-alike : (c : Birth) → IsAlike (λ p. cond (is_port c p) (completed p) p)
completed-alike c = record {
  birth = λ p. completed-birth (is_port c p) p;
  pair = λ p. at (is_port c p) p;
  connection = λ p. other (is_port c p) p;
}
  where
    at : (b : Bool) (p : PortRow) → let q : PortRow = cond b (completed p) p in q.pair ≡ p.pair
    at true p = refl
    at false p = refl

    other : (b : Bool) (p : PortRow) → let q : PortRow = cond b (completed p) p in q.connection ≡ p.connection
    other true p = refl
    other false p = refl

-- a connection that is cut
cut-end : (c : Bool) (p : PortRow) → names_nothing p ≡ true → names_nothing (cond c (cut p) p) ≡ true
cut-end true p is = second-true (is_none p.pair) (is_none p.connection) is
cut-end false p is = is

cut-unjoined : (c : Bool) (p : PortRow) → is_unjoined p ≡ true → is_unjoined (cond c (cut p) p) ≡ true
cut-unjoined true p is = second-true (is_none p.pair) (is_some p.connection) is
cut-unjoined false p is = is

pub cut-mutual : (w : World) (b : Birth) (p : PortRow) → is_mutual w p ≡ true → is_end_of b p ≡ false → is_mutual (basic w (Cuts b)) p ≡ true
cut-mutual w b p is off = at p.pair refl is
  where
    at : (o : Option Birth) → p.pair ≡ o → passes_or_none o (λ q. is_the p.birth (pair_of w q)) ≡ true → passes_or_none o (λ q. is_the p.birth (pair_of (basic w (Cuts b)) q)) ≡ true
    at None none was = refl
    at (Some q) some back =
        let ends = other-end w b p q off some back in
        let same : pair_of (basic w (Cuts b)) q ≡ pair_of w q = rw (same-row w b q ends.0 ends.1) refl in rw same back

cut-passes : (w : World) (b c : Birth) (t : PortRow → Bool) → ((k : Bool) (p : PortRow) → t p ≡ true → t (cond k (cut p) p) ≡ true) → passes (port_row w c) t ≡ true → passes (port_row (basic w (Cuts b)) c) t ≡ true
cut-passes w b c t more is = at (port_row w c) refl
  where
    at : (o : Option PortRow) → port_row w c ≡ o → passes (port_row (basic w (Cuts b)) c) t ≡ true
    at None none = let never : false ≡ true = rw none at is in absurd (cc)
    at (Some p) here = let was : t p ≡ true = rw here at is in rw (cut-row w b c p here) (more (is_end_of b p) p was)

lone-parts : (n e u ee uu : Bool) → (e ≡ true → ee ≡ true) → (u ≡ true → uu ≡ true) → (n || (e && u)) ≡ true → (n || (ee && uu)) ≡ true
lone-parts n e u ee uu one two is = grind (arith, one, two)

pub offer-kept : (w v : World) → ((c : Birth) → is_root_port w c ≡ true → is_root_port v c ≡ true) → (x : WaitRow) → (passes (port_row w x.port) is_unjoined ≡ true → passes (port_row v x.port) is_unjoined ≡ true) → is_lone_offer w x ≡ true → is_lone_offer v x ≡ true
offer-kept w v ends x stays is = lone-parts (not (is_offered x)) (is_root_port w x.queue) (passes (port_row w x.port) is_unjoined) (is_root_port v x.queue) (passes (port_row v x.port) is_unjoined) (ends x.queue) stays is

pub leads-kept : (w v : World) → ((c : Birth) → is_root_port w c ≡ true → is_root_port v c ≡ true) → (node : Node Birth) → leads_to_root w node ≡ true → leads_to_root v node ≡ true
leads-kept w v ends (LinkTo target) is = refl
leads-kept w v ends (Stands Directory) is = refl
leads-kept w v ends (Stands (Item port)) is = ends port is

cut-linked : (w : World) (b : Birth) → IsLinked w → IsLinked (basic w (Cuts b))
cut-linked w b l =
    let v = basic w (Cuts b) in
    let ends = λ (c : Birth) (is : is_root_port w c ≡ true). cut-passes w b c names_nothing cut-end is in
    record {
      births = λ c. rw (count-mapped (λ p. cond (is_end_of b p) (cut p) p) (λ p. cut-birth (is_end_of b p) p) c w.ports) (l.births c);
      pairs = every-change_to (is_mutual w) (is_mutual v) (is_end_of b) cut (λ p was is. refl) (λ p was off. cut-mutual w b p was off) w.ports l.pairs;
      rooted = every-change (is_rooted v) (is_end_of b) cut (λ p is. is) w.ports (every-more (is_rooted w) (is_rooted v) (λ p is. option-kept p.connection _ _ ends is) w.ports l.rooted);
      offers = every-more (is_lone_offer w) (is_lone_offer v) (λ x. offer-kept w v ends x (λ is. cut-passes w b x.port is_unjoined cut-unjoined is)) w.waits l.offers;
      targets = every-more (λ b. leads_to_root w b.1) (λ b. leads_to_root v b.1) (λ x. leads-kept w v ends x.1) w.bindings l.targets;
    }

plain-linked : (w : World) (b : Basic) → is_plain b ≡ true → IsLinked w → IsLinked (basic w b)
plain-linked w (Tells e) is l = l
plain-linked w (Wakes who call status fields) is l = linked-same w (basic w (Wakes who call status fields)) refl (every-without (is_lone_offer w) (waits_as who) w.waits) (λ all. all) l
plain-linked w (Leaves who) is l = linked-same w (basic w (Leaves who)) refl (every-without (is_lone_offer w) (waits_as who) w.waits) (λ all. all) l
plain-linked w (Awaits x) is l = linked-same w (basic w (Awaits x)) refl (λ all. every-push (is_lone_offer w) w.waits x all (or_left (not (is_offered x)) _ is)) (λ all. all) l
plain-linked w (Receives who queue) is l = linked-same w (basic w (Receives who queue)) refl (every-change (is_lone_offer w) (waits_at who queue) received (λ x is. is) w.waits) (λ all. all) l
plain-linked w (Accepts who reply) is l = linked-same w (basic w (Accepts who reply)) refl (every-change (is_lone_offer w) (waits_as who) (accepted reply) (accepted-offer w reply) w.waits) (λ all. all) l
plain-linked w (Dies who status) is l = linked-same w (basic w (Dies who status)) refl (every-without (is_lone_offer w) (waits_as who) w.waits) (λ all. all) l
plain-linked w (Makes p) is l = absurd (cc)
plain-linked w (Joins client server context) is l = absurd (cc)
plain-linked w (Completes b) is l = alike-linked w (basic w (Completes b)) (λ p. cond (is_port b p) (completed p) p) (completed-alike b) refl refl refl l
plain-linked w (Secures b s) is l = alike-linked w (basic w (Secures b s)) (λ p. cond (is_port b p) (secured s p) p) (secured-alike b s) refl refl refl l
plain-linked w (Frees o) is l = absurd (cc)
plain-linked w (Binds path node) is l = linked-same w (basic w (Binds path node)) refl (λ all. all) (λ all. every-push (λ b. leads_to_root w b.1) w.bindings (path, node) all (portless-leads w node is)) l
plain-linked w (Cuts b) is l = cut-linked w b l
plain-linked w (Unbinds b) is l = linked-same w (basic w (Unbinds b)) refl (λ all. all) (every-without (λ b. leads_to_root w b.1) (is_name same_birth b) w.bindings) l
plain-linked w b is l = linked-same w (basic w b) refl (λ all. all) (λ all. all) l

pub plain-all : (w : World) (bs : List Basic) → every is_plain bs ≡ true → IsLinked w → IsLinked (world_after w bs)
plain-all = steps-keep is_plain IsLinked plain-linked

-- A port that is made
pub push-passes : (w : World) (p : PortRow) (c : Birth) (t : PortRow → Bool) → passes (port_row w c) t ≡ true → passes (port_row (basic w (Makes p)) c) t ≡ true
push-passes w p c t is = at (port_row w c) refl
  where
    at : (o : Option PortRow) → port_row w c ≡ o → passes (port_row (basic w (Makes p)) c) t ≡ true
    at None none = let never : false ≡ true = rw none at is in absurd (cc)
    at (Some q) here = let was : t q ≡ true = rw here at is in rw (first-kept (is_port c) w.ports p q here) was

push-pair : (w : World) (p : PortRow) (b c : Birth) → is_the b (pair_of w c) ≡ true → is_the b (pair_of (basic w (Makes p)) c) ≡ true
push-pair w p b c is = at (port_row w c) refl
  where
    at : (o : Option PortRow) → port_row w c ≡ o → is_the b (pair_of (basic w (Makes p)) c) ≡ true
    at None none = let never : false ≡ true = rw none at is in absurd (cc)
    at (Some q) here = let was : is_the b q.pair ≡ true = rw here at is in rw (first-kept (is_port c) w.ports p q here) was

one-new : (p : PortRow) (b : Birth) (ports : List PortRow) → count (is_port b) ports ≤ 1 → has (is_port p.birth) ports ≡ false → count (is_port b) (ports ++ p ∷ []) ≤ 1
one-new p b ports few none = at (is_port b p) refl
  where
    sum : (n m : ℕ) (c : Bool) → m ≡ n + cond c 1 0 → n ≤ 1 → (c ≡ true → n ≡ 0) → m ≤ 1
    sum n m true is few zero = omega (arith, is, zero refl)
    sum n m false is few zero = omega (arith, is, few)

    at : (c : Bool) → is_port b p ≡ c → count (is_port b) (ports ++ p ∷ []) ≤ 1
    at c is = sum (count (is_port b) ports) _ (is_port b p) (count-push (is_port b) ports p) few (λ same. subst (λ d. count (is_port d) ports ≡ 0) (birth-same p.birth b same) (count-none (is_port p.birth) ports none))

pub made-linked : (w : World) (p : PortRow) → has (is_port p.birth) w.ports ≡ false → p.pair ≡ None → is_rooted w p ≡ true → IsLinked w → IsLinked (basic w (Makes p))
made-linked w p new cut root l =
    let v = basic w (Makes p) in
    let ends = λ (c : Birth) (is : is_root_port w c ≡ true). push-passes w p c names_nothing is in
    let up : Upholds w v = record { pairs = λ b c is. push-pair w p b c is; ends = ends } in
    record {
      births = λ b. one-new p b w.ports (l.births b) new;
      pairs = every-push (is_mutual v) w.ports p (every-more (is_mutual w) (is_mutual v) (mutual-kept w v up) w.ports l.pairs) (rw cut refl);
      rooted = every-push (is_rooted v) w.ports p (every-more (is_rooted w) (is_rooted v) (rooted-kept w v up) w.ports l.rooted) (rooted-kept w v up p root);
      offers = every-more (is_lone_offer w) (is_lone_offer v) (λ x. offer-kept w v ends x (λ is. push-passes w p x.port is_unjoined is)) w.waits l.offers;
      targets = every-more (λ b. leads_to_root w b.1) (λ b. leads_to_root v b.1) (λ x. leads-kept w v ends x.1) w.bindings l.targets;
    }

-- the new port is found
pub made-found : (w : World) (p : PortRow) → has (is_port p.birth) w.ports ≡ false → port_row (basic w (Makes p)) p.birth ≡ Some p
made-found w p new = first-push (is_port p.birth) w.ports p new (birth-self p.birth)
