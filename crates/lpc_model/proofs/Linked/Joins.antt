-- A connection that is accepted, and rows that go, keep ports linked.
use Rattle.std.proofs.Common.{◌≡◌, ◌∙◌, ℕ, ◌+◌, ◌≤◌, List, [], ◌∷◌, Bool, true, false, cond, map, not, Option, Some, None, refl, sym, subst, arith}
use Rattle.std.specs.Prelude.{◌&&◌, ◌||◌, is_none, is_some}
use Rattle.std.proofs.lemmas.Bool.Decides.{nat_tests}
use Rattle.std.proofs.lemmas.Bool.{and_from, false_from_ne_true, not-true}
use Rattle.lpc_base.specs.Rows.{count, every, first, passes, without}
use Rattle.lpc_base.proofs.RowWords.{every-more, every-without, first-passes}
use Rattle.lpc_base.proofs.RowMaps.{every-both, every-change_to, every-map}
use Rattle.lpc_base.proofs.Births.{birth-same, births-apart}
use Rattle.lpc_base.proofs.Bools.{first-true, second-true}
use Rattle.lpc_names.specs.Walk.{LinkTo, Stands}
use Rattle.lpc_names.specs.declared.names.Found.TheVariants.{Directory, Item}
use Rattle.lpc_model.specs.declared.entry.ObjectKind.TheVariants as kind
use Rattle.lpc_model.specs.World.{Acceptance, Birth, Node, ObjectKind, ObjectName, PortRow, WaitRow, World}
use Rattle.lpc_model.specs.Found.{all_registrations, all_views, is_connected_to, is_made_on, is_offered, is_open, is_owned_by, is_paired_to, is_port, is_the, pair_of, pointer_count, port_name, port_row, same_birth, waits_as, event_ports}
use Rattle.lpc_model.specs.Basics.{Accepts, Frees, Joins, accepted, basic, freed, joined, paired, world_after}
use Rattle.lpc_model.specs.Sweep.{free_unheld, is_unheld, sweep, unheld}
use Rattle.lpc_model.specs.Linked.{IsLinked, is_root_port, is_lone_offer, is_mutual, is_rooted, is_unjoined, leads_to_root, names_nothing, passes_or_none}
use Rattle.lpc_model.specs.SoundWaits.{IsSoundWorld, is_sound_wait, leads_open}
use Rattle.lpc_model.proofs.Steps.Rows.{count-less}
use Rattle.lpc_model.proofs.Sound.Ties.{joined-birth}
use Rattle.lpc_model.proofs.Sound.Worlds.{by_kind}
use Rattle.lpc_model.proofs.Steps.Handles.{open-count}
use Rattle.lpc_model.proofs.Sound.Frees.{freed-sound, is-zero, less-held, none-pass, sum-first, sum-second, which-all}
use Rattle.lpc_model.proofs.Linked.Steps.{count-mapped, leads-kept, linked-same, offer-kept, option-kept}
use Rattle.lpc_model.proofs.Sound.Ports.{joined-row}
use Rattle.lpc_model.proofs.Steps.InTurn.{after-append}

-- A connection that is accepted
joined-connection : (client server : Birth) (context : ℕ) (p : PortRow) → (joined client server context p).connection ≡ p.connection
joined-connection client server context p = at (is_port client p) (is_port server p)
  where
    at : (c s : Bool) → let q : PortRow = cond c (paired server context p) (cond s (paired client context p) p) in q.connection ≡ p.connection
    at true s = refl
    at false true = refl
    at false false = refl

-- what is known of the two ports and of the waits
pub record CanJoin (w : World) (client server : Birth) (who : ℕ) : Type 0 where
  pub client_row : passes (port_row w client) is_unjoined ≡ true
  pub server_row : passes (port_row w server) is_unjoined ≡ true
  pub apart : same_birth client server ≡ false
  pub others : every (λ x. waits_as who x || (not (is_offered x) || (not (same_birth x.port client) && not (same_birth x.port server)))) w.waits ≡ true

unjoined-other : (w : World) (d c : Birth) (r : PortRow) → passes (port_row w d) is_unjoined ≡ true → port_row w c ≡ Some r → is_unjoined r ≡ false → is_port d r ≡ false
unjoined-other w d c r is here off = at (is_port d r) refl
  where
    at : (k : Bool) → is_port d r ≡ k → k ≡ false
    at true same =
        let one = birth-same r.birth d same in
        let two = birth-same r.birth c (first-passes (is_port c) w.ports r here) in
        let row : port_row w d ≡ Some r = subst (λ e. port_row w e ≡ Some r) (sym two ∙ one) here in
        let was : is_unjoined r ≡ true = rw row at is in absurd (cc)
    at false same = refl

-- a port that isn't one of the two stands as it was
other-row : (w : World) (client server : Birth) (context : ℕ) (c : Birth) (r : PortRow) → port_row w c ≡ Some r → is_port client r ≡ false → is_port server r ≡ false → port_row (basic w (Joins client server context)) c ≡ Some r
other-row w client server context c r here one two = rw (one, two) at (joined-row w client server context c r here)

module _ (w : World) (client server : Birth) (context who : ℕ) (reply : Acceptance) (can : CanJoin w client server who) (l : IsLinked w) where
  abbrev joined_world : World
  joined_world = basic w (Joins client server context)

  ends-joined : (c : Birth) → is_root_port w c ≡ true → is_root_port joined_world c ≡ true
  ends-joined c is = at (port_row w c) refl
    where
      no-both : (a b : Bool) → (a && b) ≡ true → (a && not b) ≡ false
      no-both a b is = grind arith

      unjoined-off : (p : PortRow) → names_nothing p ≡ true → is_unjoined p ≡ false
      unjoined-off p was = of p.pair p.connection was
        where
          of : (o c : Option Birth) → (is_none o && is_none c) ≡ true → (is_none o && is_some c) ≡ false
          of None None is = refl
          of None (Some b) is = absurd (cc)
          of (Some b) c is = absurd (cc)

      at : (o : Option PortRow) → port_row w c ≡ o → is_root_port joined_world c ≡ true
      at None none = let never : false ≡ true = rw none at is in absurd (cc)
      at (Some r) here =
          let was : names_nothing r ≡ true = rw here at is in
          let off = unjoined-off r was in
          rw (other-row w client server context c r here (unjoined-other w client c r can.client_row here off) (unjoined-other w server c r can.server_row here off)) was

  -- what has another end isn't one of the two
  pair-joined : (b c : Birth) → is_the b (pair_of w c) ≡ true → is_the b (pair_of joined_world c) ≡ true
  pair-joined b c is = at (port_row w c) refl
    where
      unjoined-off : (o d : Option Birth) → is_the b o ≡ true → (is_none o && is_some d) ≡ false
      unjoined-off None d is = absurd (cc)
      unjoined-off (Some e) d is = refl

      at : (o : Option PortRow) → port_row w c ≡ o → is_the b (pair_of joined_world c) ≡ true
      at None none = let never : false ≡ true = rw none at is in absurd (cc)
      at (Some r) here =
          let was : is_the b r.pair ≡ true = rw here at is in
          let off = unjoined-off r.pair r.connection was in
          rw (other-row w client server context c r here (unjoined-other w client c r can.client_row here off) (unjoined-other w server c r can.server_row here off)) was

  -- the two have each other
  client-pair : (b : Birth) → same_birth b server ≡ true → is_the b (pair_of joined_world client) ≡ true
  client-pair b is = at (port_row w client) refl can.client_row
    where
      at : (o : Option PortRow) → port_row w client ≡ o → passes o is_unjoined ≡ true → is_the b (pair_of joined_world client) ≡ true
      at None none stands = absurd (cc)
      at (Some r) here stands =
          let own = first-passes (is_port client) w.ports r here in
          let row : port_row joined_world client ≡ Some (paired server context r) = rw own at (joined-row w client server context client r here) in
          rw row is

  server-pair : (b : Birth) → same_birth b client ≡ true → is_the b (pair_of joined_world server) ≡ true
  server-pair b is = at (port_row w server) refl can.server_row
    where
      at : (o : Option PortRow) → port_row w server ≡ o → passes o is_unjoined ≡ true → is_the b (pair_of joined_world server) ≡ true
      at None none stands = absurd (cc)
      at (Some r) here stands =
          let own = first-passes (is_port server) w.ports r here in
          let other : is_port client r ≡ false = subst (λ d. same_birth d client ≡ false) (sym (birth-same r.birth server own)) (turned client server can.apart) in
          let row : port_row joined_world server ≡ Some (paired client context r) = rw (other, own) at (joined-row w client server context server r here) in
          rw row is
        where
          turned : (a b : Birth) → same_birth a b ≡ false → same_birth b a ≡ false
          turned a b off = grind (arith, nat_tests)

  mutual-joined : (p : PortRow) → is_mutual w p ≡ true → is_mutual joined_world (joined client server context p) ≡ true
  mutual-joined p was = at (is_port client p) (is_port server p) refl refl
    where
      at : (c s : Bool) → is_port client p ≡ c → is_port server p ≡ s → let q : PortRow = cond c (paired server context p) (cond s (paired client context p) p) in is_mutual joined_world q ≡ true
      at true s one two = server-pair p.birth one
      at false true one two = client-pair p.birth two
      at false false one two = option-kept p.pair _ _ (λ q. pair-joined p.birth q) was

  abbrev is_other : WaitRow → Bool
  is_other x = waits_as who x || (not (is_offered x) || (not (same_birth x.port client) && not (same_birth x.port server)))

  offer-joined : (x : WaitRow) → is_lone_offer w x ≡ true → is_other x ≡ true → waits_as who x ≡ false → is_lone_offer joined_world x ≡ true
  offer-joined x was other off = at (is_offered x) refl
    where
      parts : (a o m n : Bool) → (a || (not o || (not m && not n))) ≡ true → a ≡ false → o ≡ true → (m ≡ false) × (n ≡ false)
      parts a o m n is one two = (grind arith, grind arith)

      none-offered : (o y : Bool) → o ≡ false → (not o || y) ≡ true
      none-offered o y is = grind arith

      row-kept : same_birth x.port client ≡ false → same_birth x.port server ≡ false → passes (port_row w x.port) is_unjoined ≡ true → passes (port_row joined_world x.port) is_unjoined ≡ true
      row-kept one two is = on (port_row w x.port) refl
        where
          on : (o : Option PortRow) → port_row w x.port ≡ o → passes (port_row joined_world x.port) is_unjoined ≡ true
          on None none = let never : false ≡ true = rw none at is in absurd (cc)
          on (Some r) here =
              let own = birth-same r.birth x.port (first-passes (is_port x.port) w.ports r here) in
              let stands : is_unjoined r ≡ true = rw here at is in
              rw (other-row w client server context x.port r here (subst (λ d. same_birth d client ≡ false) (sym own) one) (subst (λ d. same_birth d server ≡ false) (sym own) two)) stands

      at : (o : Bool) → is_offered x ≡ o → is_lone_offer joined_world x ≡ true
      at false is = none-offered (is_offered x) _ is
      at true is =
          let ports = parts (waits_as who x) (is_offered x) (same_birth x.port client) (same_birth x.port server) other off is in
          offer-kept w joined_world ends-joined x (row-kept ports.0 ports.1) was

  accepted-lone : (x : WaitRow) → is_lone_offer joined_world (accepted reply x) ≡ true
  accepted-lone = by_kind (λ x. is_lone_offer joined_world (accepted reply x) ≡ true) (λ x m. refl) (λ x. refl) (λ x. refl) (λ x m offer. refl) (λ x m r. refl) (λ x m. refl)

  pub joined-linked : IsLinked (basic joined_world (Accepts who reply))
  joined-linked = record {
    births = λ b. rw (count-mapped (joined client server context) (joined-birth client server context) b w.ports) (l.births b);
    pairs = rw (every-map (is_mutual joined_world) (joined client server context) w.ports) (every-more (is_mutual w) (λ p. is_mutual joined_world (joined client server context p)) mutual-joined w.ports l.pairs);
    rooted = rw (every-map (is_rooted joined_world) (joined client server context) w.ports) (every-more (is_rooted w) (λ p. is_rooted joined_world (joined client server context p)) (λ p is. rw (joined-connection client server context p) (option-kept p.connection _ _ ends-joined is)) w.ports l.rooted);
    offers = every-change_to (λ x. is_lone_offer w x && is_other x) (is_lone_offer joined_world) (waits_as who) (accepted reply) (λ x _ _. accepted-lone x) (λ x both off. offer-joined x (first-true _ _ both) (second-true _ _ both) off) w.waits
        (every-both (is_lone_offer w) is_other (λ x. is_lone_offer w x && is_other x) (λ x one two. and_from _ _ one two) w.waits l.offers can.others);
    targets = every-more (λ b. leads_to_root w b.1) (λ b. leads_to_root joined_world b.1) (λ x. leads-kept w joined_world ends-joined x.1) w.bindings l.targets;
  }

-- A row that goes
first-apart : {X : Type 0} (p test : X → Bool) → ((x : X) → p x ≡ true → test x ≡ false) → (xs : List X) → first p (without test xs) ≡ first p xs
first-apart p test apart [] = refl
first-apart p test apart (x ∷ xs) = grind (arith, apart x, first-apart p test apart xs)

pub row-freed : (w : World) (b c : Birth) → same_birth c b ≡ false → port_row (basic w (Frees (port_name b))) c ≡ port_row w c
row-freed w b c off = first-apart (is_port c) (is_port b) (λ p here. subst (λ d. same_birth d b ≡ false) (sym (birth-same p.birth c here)) off) w.ports

freed-option : (w : World) (b : Birth) (t : World → Birth → Bool) → ((c : Birth) → same_birth c b ≡ false → t w c ≡ true → t (basic w (Frees (port_name b))) c ≡ true) → (o : Option Birth) → is_the b o ≡ false → passes_or_none o (t w) ≡ true → passes_or_none o (t (basic w (Frees (port_name b)))) ≡ true
freed-option w b t kept None off is = refl
freed-option w b t kept (Some c) off is = kept c (births-apart b c off) is

pub unopen : (w : World) (b : Birth) → pointer_count w (port_name b) ≤ 0 → is_open w b ≡ false
unopen w b few = false_from_ne_true (is_open w b) (λ is. let some = open-count w b is in omega (arith, some, sum-first _ _ few))

other-open : (w : World) (b c : Birth) → is_open w b ≡ false → is_open w c ≡ true → same_birth c b ≡ false
other-open w b c off is = false_from_ne_true (same_birth c b) (λ same. let opens = subst (λ d. is_open w d ≡ true) (birth-same c b same) is in cc)

port-gone : (w : World) (b : Birth) → pointer_count w (port_name b) ≤ 0 → IsSoundWorld w → IsLinked w → IsLinked (basic w (Frees (port_name b)))
port-gone w b few s l =
    let v = basic w (Frees (port_name b)) in
    let held : count (is_paired_to b) w.ports + (count (is_connected_to b) w.ports + (count (λ m. same_birth m.sender b) w.messages + (count (is_made_on b) w.waits + (count (same_birth b) (all_registrations w) + (count (is_owned_by b) (all_views w) + count (same_birth b) (event_ports w)))))) ≤ 0 = sum-second _ _ few in
    let made = none-pass (is_made_on b) w.waits (omega (arith, held)) in
    let unpaired = none-pass (is_paired_to b) w.ports (omega (arith, held)) in
    let unconnected = none-pass (is_connected_to b) w.ports (omega (arith, held)) in
    let closed = unopen w b few in
    let ends : (c : Birth) → same_birth c b ≡ false → is_root_port w c ≡ true → is_root_port v c ≡ true = λ c off is. rw (row-freed w b c off) is in
    record {
      births = λ c. count-less (is_port c) (is_port b) w.ports 1 (l.births c);
      pairs = every-without (is_mutual v) (is_port b) w.ports (every-both (is_mutual w) (λ p. not (is_paired_to b p)) (is_mutual v) (λ p is off. freed-option w b (λ u c. is_the p.birth (pair_of u c)) (λ c apart one. same-pair w b c p.birth apart one) p.pair (not-true _ off) is) w.ports l.pairs unpaired);
      rooted = every-without (is_rooted v) (is_port b) w.ports (every-both (is_rooted w) (λ p. not (is_connected_to b p)) (is_rooted v) (λ p is off. freed-option w b is_root_port ends p.connection (not-true _ off) is) w.ports l.rooted unconnected);
      offers = every-both (λ x. is_lone_offer w x && not (is_made_on b x)) (is_sound_wait w) (is_lone_offer v) (λ x both sound. gone-offer w b closed x both sound) w.waits (every-both (is_lone_offer w) (λ x. not (is_made_on b x)) (λ x. is_lone_offer w x && not (is_made_on b x)) (λ x one two. and_from _ _ one two) w.waits l.offers made) s.waits;
      targets = every-both (λ x. leads_to_root w x.1) (λ x. leads_open w x.1) (λ x. leads_to_root v x.1) (λ x one two. gone-leads w b closed x.1 one two) w.bindings l.targets s.names;
    }
  where
    same-pair : (w : World) (b c d : Birth) → same_birth c b ≡ false → is_the d (pair_of w c) ≡ true → is_the d (pair_of (basic w (Frees (port_name b))) c) ≡ true
    same-pair w b c d off is = let same : pair_of (basic w (Frees (port_name b))) c ≡ pair_of w c = rw (row-freed w b c off) refl in rw same is

    gone-offer : (w : World) (b : Birth) → is_open w b ≡ false → (x : WaitRow) → (is_lone_offer w x && not (is_made_on b x)) ≡ true → is_sound_wait w x ≡ true → is_lone_offer (basic w (Frees (port_name b))) x ≡ true
    gone-offer w b closed =
        by_kind (λ x. (is_lone_offer w x && not (is_made_on b x)) ≡ true → is_sound_wait w x ≡ true → is_lone_offer (basic w (Frees (port_name b))) x ≡ true)
        (λ x m both sound. refl) (λ x both sound. refl) (λ x both sound. refl)
        (λ x m offer both sound.
        let opens : is_open w x.queue ≡ true = grind arith in
        let made : same_birth x.port b ≡ false = grind arith in
        let one : is_root_port w x.queue ≡ true = grind arith in
        let two : passes (port_row w x.port) is_unjoined ≡ true = grind arith in
        let queue : is_root_port (basic w (Frees (port_name b))) x.queue ≡ true = rw (row-freed w b x.queue (other-open w b x.queue closed opens)) one in
        let port : passes (port_row (basic w (Frees (port_name b))) x.port) is_unjoined ≡ true = rw (row-freed w b x.port made) two in
        and_from _ _ queue port)
        (λ x m r both sound. refl)
        (λ x m both sound. refl)

    gone-leads : (w : World) (b : Birth) → is_open w b ≡ false → (node : Node Birth) → leads_to_root w node ≡ true → leads_open w node ≡ true → leads_to_root (basic w (Frees (port_name b))) node ≡ true
    gone-leads w b closed (LinkTo target) one two = refl
    gone-leads w b closed (Stands Directory) one two = refl
    gone-leads w b closed (Stands (Item port)) one two = rw (row-freed w b port (other-open w b port closed two)) one

pub gone-linked : (w : World) (o : ObjectName) → is_unheld w o ≡ true → IsSoundWorld w → IsLinked w → IsLinked (basic w (Frees o))
gone-linked w o none s l = at o.kind o.birth (is-zero (pointer_count w o) none)
  where
    at : (k : ObjectKind) (b : Birth) → pointer_count w (record { kind = k; birth = b }) ≤ 0 → IsLinked (basic w (Frees (record { kind = k; birth = b })))
    at kind.Port b few = port-gone w b few s l
    at kind.Section b few = linked-same w (freed w kind.Section b) refl (λ all. all) (λ all. all) l
    at kind.Token b few = linked-same w (freed w kind.Token b) refl (λ all. all) (λ all. all) l
    at kind.Process b few = linked-same w (freed w kind.Process b) refl (λ all. all) (λ all. all) l
    at kind.Thread b few = linked-same w (freed w kind.Thread b) refl (λ all. all) (λ all. all) l

record IsBoth (w : World) : Type 0 where
  sound : IsSoundWorld w
  linked : IsLinked w

all-gone : (w : World) (os : List ObjectName) → every (is_unheld w) os ≡ true → IsBoth w → IsBoth (world_after w (map Frees os))
all-gone w [] all t = t
all-gone w (o ∷ os) all t =
    let here : is_unheld w o ≡ true = grind arith in
    let later : every (is_unheld w) os ≡ true = grind arith in
    all-gone (basic w (Frees o)) os (every-more (is_unheld w) (is_unheld (basic w (Frees o))) (less-held w o) os later) (record { sound = freed-sound w o here t.sound; linked = gone-linked w o here t.sound t.linked })

pub swept-linked : (w : World) → IsSoundWorld w → IsLinked w → IsLinked (world_after w (sweep w))
unfolding sweep
swept-linked w s l =
    let v = world_after w (free_unheld w) in
    let t = all-gone w (unheld w) (which-all (is_unheld w) _) (record { sound = s; linked = l }) in
    let u = all-gone v (unheld v) (which-all (is_unheld v) _) t in
    rw (after-append w (free_unheld w) (free_unheld v)) u.linked
