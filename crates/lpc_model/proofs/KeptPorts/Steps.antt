-- What each basic step leaves of the ports that stood before the line.
use Rattle.std.proofs.Common.{◌≡◌, ℕ, List, [], ◌∷◌, Bool, true, false, not, map, Option, Some, None, cond, refl, subst, sym, arith, ◌∙◌}
use Rattle.std.specs.Prelude.{◌&&◌, ◌||◌, is_none, is_some}
use Rattle.std.proofs.lemmas.Bool.{and_from}
use Rattle.lpc_base.specs.Rows.{every, first, has, passes, without}
use Rattle.lpc_base.proofs.Births.{birth-same, birth-self}
use Rattle.lpc_base.proofs.Bools.{first-true, second-true}
use Rattle.lpc_base.proofs.RowWords.{every-change, every-more, every-push, every-without, first-passes}
use Rattle.lpc_model.specs.declared.entry.ObjectKind.TheVariants as kind
use Rattle.lpc_model.specs.World.{Acceptance, Birth, ObjectKind, PortRow, Security, WaitRow, World}
use Rattle.lpc_model.specs.Found.{is_offered, is_open, is_paired_to, is_port, is_the, port_row, same_birth, waits_as, waits_at}
use Rattle.lpc_model.specs.Basics.{Accepts, Awaits, Basic, Completes, Cuts, Dies, Frees, Joins, Leaves, Makes, Receives, Secures, Wakes, accepted, basic, completed, cut, freed, is_end_of, joined, paired, received, secured, world_after}
use Rattle.lpc_model.specs.KeptPorts.{KeepsPort, KeepsPorts, is_answered_in, is_offer_on, is_unanswered}
use Rattle.lpc_model.specs.Linked.{IsLinked, is_lone_offer, is_root_port, is_unjoined}
use Rattle.lpc_model.specs.Standing.{port_stands}
use Rattle.lpc_model.proofs.Calls.Acts.{row-stands}
use Rattle.lpc_model.proofs.Sound.Ties.{completed-birth, joined-birth, secured-birth}
use Rattle.lpc_model.proofs.Sound.Worlds.{by_kind}
use Rattle.lpc_model.proofs.Steps.InTurn.{steps-keep}
use Rattle.lpc_model.proofs.Steps.Rows.{first-pushed, has-off}

-- Rows
-- what is found among rows that are changed one by one is a row that was found before, changed
first-mapped : {X : Type 0} (P : X → Type 0) (p : X → Bool) (f : X → X) → ((x : X) → p (f x) ≡ p x) → (xs : List X) (y : X) → ((z : X) → first p xs ≡ Some z → P (f z)) → first p (map f xs) ≡ Some y → P y
first-mapped P p f same [] y old is = absurd (cc)
first-mapped {X = X} P p f same (x ∷ xs) y old is = at (p x) refl (first-mapped P p f same xs y)
  where
    at : (b : Bool) → p x ≡ b → (((z : X) → first p xs ≡ Some z → P (f z)) → first p (map f xs) ≡ Some y → P y) → P y
    at true here later =
        let moved : p (f x) ≡ true = same x ∙ here in
        let found : first p (map f (x ∷ xs)) ≡ Some (f x) = rw moved refl in
        let one : f x ≡ y = cc in
        subst P one (old x (rw here refl))
    at false off later =
        let moved : p (f x) ≡ false = same x ∙ off in
        later (λ z among. old z (rw off among)) (rw moved at is)

-- what is found among rows of which some are left out was found before, where none that passes is left out; where all
-- that pass are, nothing is found
first-kept : {X : Type 0} (p test : X → Bool) → ((x : X) → p x ≡ true → test x ≡ false) → (xs : List X) (y : X) → first p (without test xs) ≡ Some y → first p xs ≡ Some y
first-kept p test apart [] y is = absurd (cc)
first-kept p test apart (x ∷ xs) y is = grind (arith, apart x, first-kept p test apart xs y)

first-gone : {X : Type 0} (p test : X → Bool) → ((x : X) → p x ≡ true → test x ≡ true) → (xs : List X) → first p (without test xs) ≡ None
first-gone p test same [] = refl
first-gone p test same (x ∷ xs) = grind (arith, same x, first-gone p test same xs)

-- Steps
-- A step leaves the ports of a world as they were: no port of theirs is made anew, secured, or joined as a server port,
-- one is joined as a client port only where it passes a test, and no connect begins to wait on one. A port is cut off
-- from its other end only where it passes another test.
abbrev pub is_gentle : World → (Birth → Bool) → (Birth → Bool) → Basic → Bool
is_gentle w joins shuts (Makes p) = not (port_stands w p.birth)
is_gentle w joins shuts (Secures b s) = not (port_stands w b)
is_gentle w joins shuts (Joins client server context) = joins client && not (port_stands w server)
is_gentle w joins shuts (Awaits x) = not (is_offered x) || not (port_stands w x.port)
is_gentle w joins shuts (Cuts b) = shuts b
is_gentle w joins shuts b = true

abbrev pub AreGentle : World → (Birth → Bool) → (Birth → Bool) → List Basic → Type 0
AreGentle w joins shuts bs = every (is_gentle w joins shuts) bs ≡ true

-- a port as it is to be, but where it, or its other end, passes a test
record IsAsBefore (joins shuts : Birth → Bool) (p q : PortRow) : Type 0 where
  kind : q.kind ≡ p.kind
  connection : q.connection ≡ p.connection
  creator : q.creator ≡ p.creator
  security : q.security ≡ p.security
  completed : p.completed ≡ true → q.completed ≡ true
  context : joins p.birth ≡ false → q.context ≡ p.context
  pair : joins p.birth ≡ false → (other : Birth) → q.pair ≡ Some other → p.pair ≡ Some other
  ends : joins p.birth ≡ false → (other : Birth) → p.pair ≡ Some other → shuts p.birth ≡ false → shuts other ≡ false → q.pair ≡ Some other

-- a connect that isn't accepted waits on a port on which one waited, or on a new one
abbrev is_offered_before : World → WaitRow → Bool
is_offered_before w x = not (is_offered x) || (is_unanswered w x.port || not (port_stands w x.port))

-- what stood is kept by a later world
record IsKept (joins shuts : Birth → Bool) (w v : World) : Type 0 where
  ports : (b : Birth) (p q : PortRow) → port_row w b ≡ Some p → port_row v b ≡ Some q → IsAsBefore joins shuts p q
  waits : every (is_offered_before w) v.waits ≡ true

module _ (w : World) (joins shuts : Birth → Bool) where
  abbrev KeepsRows : World → Type 0
  KeepsRows v = (b : Birth) (p q : PortRow) → port_row w b ≡ Some p → port_row v b ≡ Some q → IsAsBefore joins shuts p q

  -- ports that are changed one by one
  mapped-rows : (v : World) (f : PortRow → PortRow) → ((q : PortRow) → (let r = f q in r.birth ≡ q.birth)) → ((b : Birth) (p q : PortRow) → port_row w b ≡ Some p → port_row v b ≡ Some q → IsAsBefore joins shuts p q → IsAsBefore joins shuts p (f q)) → KeepsRows v → (b : Birth) (p q : PortRow) → port_row w b ≡ Some p → first (is_port b) (map f v.ports) ≡ Some q → IsAsBefore joins shuts p q
  mapped-rows v f births keeps k b p q row is =
      first-mapped (IsAsBefore joins shuts p) (is_port b) f (λ r. rw (births r) refl) v.ports q (λ r here. keeps b p r row here (k b p r row here)) is

  -- a row that stood isn't one under a birth under which none did
  apart-from : (b c : Birth) (p : PortRow) → port_stands w c ≡ false → port_row w b ≡ Some p → same_birth b c ≡ false
  apart-from b c p none row = at (same_birth b c) refl
    where
      at : (s : Bool) → same_birth b c ≡ s → s ≡ false
      at false off = refl
      at true same =
          let stood : port_stands w c ≡ true = subst (λ d. port_stands w d ≡ true) (birth-same b c same) (row-stands w b p row) in
          absurd (cc)

  module _ (v : World) (k : KeepsRows v) where
    -- a port that is found stands under the birth
    found-under : (b c : Birth) (q : PortRow) → port_row v b ≡ Some q → same_birth b c ≡ false → is_port c q ≡ false
    found-under b c q here off = subst (λ d. same_birth d c ≡ false) (sym (birth-same q.birth b (first-passes (is_port b) v.ports q here))) off

    completed-rows : (c : Birth) → KeepsRows (basic v (Completes c))
    completed-rows c = mapped-rows v (λ q. cond (is_port c q) (completed q) q) (λ q. completed-birth (is_port c q) q) (λ b p q row here kept. at p q (is_port c q) kept) k
      where
        at : (p q : PortRow) (s : Bool) → IsAsBefore joins shuts p q → IsAsBefore joins shuts p (cond s (completed q) q)
        at p q true kept = record { kind = kept.kind; connection = kept.connection; creator = kept.creator; security = kept.security; completed = λ is. refl; context = kept.context; pair = kept.pair; ends = kept.ends }
        at p q false kept = kept

    cut-rows : (c : Birth) → shuts c ≡ true → KeepsRows (basic v (Cuts c))
    cut-rows c due = mapped-rows v (λ q. cond (is_end_of c q) (cut q) q) (λ q. birth (is_end_of c q) q) (λ b p q row here kept. at b p q row here (is_end_of c q) refl kept) k
      where
        birth : (s : Bool) (q : PortRow) → (let r : PortRow = cond s (cut q) q in r.birth ≡ q.birth)
        birth true q = refl
        birth false q = refl

        -- it, or its other end, passes the test
        passes-test : (b : Birth) (p q : PortRow) → port_row w b ≡ Some p → port_row v b ≡ Some q → is_end_of c q ≡ true → (other : Birth) → q.pair ≡ Some other → shuts p.birth ≡ false → shuts other ≡ false → shuts c ≡ false
        passes-test b p q row here end other some one two = of (is_port c q) refl end
          where
            of : (s : Bool) → is_port c q ≡ s → (s || is_paired_to c q) ≡ true → shuts c ≡ false
            of true own is =
                let same : p.birth ≡ c = birth-same p.birth b (first-passes (is_port b) w.ports p row) ∙ (sym (birth-same q.birth b (first-passes (is_port b) v.ports q here)) ∙ birth-same q.birth c own) in
                subst (λ d. shuts d ≡ false) same one
            of false off is =
                let its : same_birth c other ≡ true = subst (λ o. is_the c o ≡ true) some is in
                subst (λ d. shuts d ≡ false) (sym (birth-same c other its)) two

        at : (b : Birth) (p q : PortRow) → port_row w b ≡ Some p → port_row v b ≡ Some q → (s : Bool) → is_end_of c q ≡ s → IsAsBefore joins shuts p q → IsAsBefore joins shuts p (cond s (cut q) q)
        at b p q row here true end kept = record {
          kind = kept.kind;
          connection = kept.connection;
          creator = kept.creator;
          security = kept.security;
          completed = kept.completed;
          context = kept.context;
          pair = λ done other is. absurd (cc);
          ends = λ done other some one two. let never : true ≡ false = sym due ∙ passes-test b p q row here end other (kept.ends done other some one two) one two in absurd (cc);
        }
        at b p q row here false end kept = kept

    secured-rows : (c : Birth) (s : Security) → port_stands w c ≡ false → KeepsRows (basic v (Secures c s))
    secured-rows c s none = mapped-rows v (λ q. cond (is_port c q) (secured s q) q) (λ q. secured-birth s (is_port c q) q)
        (λ b p q row here kept. subst (λ t. IsAsBefore joins shuts p (cond t (secured s q) q)) (sym (found-under b c q here (apart-from b c p none row))) kept) k

    joined-rows : (client server : Birth) (context : ℕ) → joins client ≡ true → port_stands w server ≡ false → KeepsRows (basic v (Joins client server context))
    joined-rows client server context waits none = mapped-rows v (joined client server context) (λ q. joined-birth client server context q)
        (λ b p q row here kept. subst (λ t. IsAsBefore joins shuts p (cond (is_port client q) (paired server context q) (cond t (paired client context q) q))) (sym (found-under b server q here (apart-from b server p none row))) (at b p q row here (is_port client q) refl kept)) k
      where
        own : (b : Birth) (p q : PortRow) → port_row w b ≡ Some p → port_row v b ≡ Some q → is_port client q ≡ true → joins p.birth ≡ true
        own b p q row here is =
            let one : p.birth ≡ b = birth-same p.birth b (first-passes (is_port b) w.ports p row) in
            let two : q.birth ≡ b = birth-same q.birth b (first-passes (is_port b) v.ports q here) in
            let three : q.birth ≡ client = birth-same q.birth client is in
            subst (λ c. joins c ≡ true) (sym three ∙ (two ∙ sym one)) waits

        at : (b : Birth) (p q : PortRow) → port_row w b ≡ Some p → port_row v b ≡ Some q → (s : Bool) → is_port client q ≡ s → IsAsBefore joins shuts p q → IsAsBefore joins shuts p (cond s (paired server context q) q)
        at b p q row here true is kept =
            let may : joins p.birth ≡ true = own b p q row here is in
            record { kind = kept.kind; connection = kept.connection; creator = kept.creator; security = kept.security; completed = kept.completed; context = λ done. absurd (cc); pair = λ done other some. absurd (cc); ends = λ done. absurd (cc) }
        at b p q row here false is kept = kept

    made-rows : (r : PortRow) → port_stands w r.birth ≡ false → KeepsRows (basic v (Makes r))
    made-rows r none b p q row is = first-pushed (λ z. is_port b z ≡ true → IsAsBefore joins shuts p z) (is_port b) v.ports r q (λ z here _. k b p z row here) new is (first-passes (is_port b) _ q is)
      where
        new : is_port b r ≡ true → IsAsBefore joins shuts p r
        new own =
            let stood : port_stands w r.birth ≡ true = subst (λ c. port_stands w c ≡ true) (sym (birth-same r.birth b own)) (row-stands w b p row) in
            absurd (cc)

    freed-rows : (o : ObjectKind) (c : Birth) → KeepsRows (freed v o c)
    freed-rows kind.Port c b p q row is = at (same_birth b c) refl
      where
        under : (s : Bool) → same_birth b c ≡ s → (z : PortRow) → is_port b z ≡ true → is_port c z ≡ s
        under s same z own = subst (λ d. same_birth d c ≡ s) (sym (birth-same z.birth b own)) same

        at : (s : Bool) → same_birth b c ≡ s → IsAsBefore joins shuts p q
        at true same = let none = first-gone (is_port b) (is_port c) (under true same) v.ports in absurd (cc)
        at false off = k b p q row (first-kept (is_port b) (is_port c) (under false off) v.ports q is)
    freed-rows kind.Section c b p q row is = k b p q row is
    freed-rows kind.Token c b p q row is = k b p q row is
    freed-rows kind.Process c b p q row is = k b p q row is
    freed-rows kind.Thread c b p q row is = k b p q row is

  gentle-rows : (v : World) (b : Basic) → is_gentle w joins shuts b ≡ true → KeepsRows v → KeepsRows (basic v b)
  gentle-rows v (Makes p) is k = made-rows v k p (off (port_stands w p.birth) is)
    where
      off : (s : Bool) → not s ≡ true → s ≡ false
      off s is = grind arith
  gentle-rows v (Joins client server context) is k = joined-rows v k client server context (first-true (joins client) _ is) (off (port_stands w server) (second-true (joins client) _ is))
    where
      off : (s : Bool) → not s ≡ true → s ≡ false
      off s is = grind arith
  gentle-rows v (Secures b s) is k = secured-rows v k b s (off (port_stands w b) is)
    where
      off : (s : Bool) → not s ≡ true → s ≡ false
      off s is = grind arith
  gentle-rows v (Completes b) is k = completed-rows v k b
  gentle-rows v (Cuts b) is k = cut-rows v k b is
  gentle-rows v (Frees o) is k = freed-rows v k o.kind o.birth
  gentle-rows v b is k = k

  -- waits
  abbrev KeepsWaits : World → Type 0
  KeepsWaits v = every (is_offered_before w) v.waits ≡ true

  accepted-before : (a : Acceptance) (x : WaitRow) → is_offered_before w x ≡ true → is_offered_before w (accepted a x) ≡ true
  accepted-before a = by_kind (λ x. is_offered_before w x ≡ true → is_offered_before w (accepted a x) ≡ true) (λ x m is. refl) (λ x is. refl) (λ x is. refl) (λ x m offer is. refl) (λ x m reply is. refl) (λ x r is. refl)

  awaited-before : (x : WaitRow) → is_gentle w joins shuts (Awaits x) ≡ true → is_offered_before w x ≡ true
  awaited-before x is = parts (is_offered x) (is_unanswered w x.port) (port_stands w x.port) is
    where
      parts : (a b c : Bool) → (not a || not c) ≡ true → (not a || (b || not c)) ≡ true
      parts a b c is = grind arith

  freed-waits : (v : World) (o : ObjectKind) (c : Birth) → KeepsWaits v → KeepsWaits (freed v o c)
  freed-waits v kind.Port c k = k
  freed-waits v kind.Section c k = k
  freed-waits v kind.Token c k = k
  freed-waits v kind.Process c k = k
  freed-waits v kind.Thread c k = k

  gentle-waits : (v : World) (b : Basic) → is_gentle w joins shuts b ≡ true → KeepsWaits v → KeepsWaits (basic v b)
  gentle-waits v (Awaits x) is k = every-push (is_offered_before w) v.waits x k (awaited-before x is)
  gentle-waits v (Receives who queue) is k = every-change (is_offered_before w) (waits_at who queue) received (λ x is. is) v.waits k
  gentle-waits v (Accepts who a) is k = every-change (is_offered_before w) (waits_as who) (accepted a) (accepted-before a) v.waits k
  gentle-waits v (Wakes who call status fields) is k = every-without (is_offered_before w) (waits_as who) v.waits k
  gentle-waits v (Dies who status) is k = every-without (is_offered_before w) (waits_as who) v.waits k
  gentle-waits v (Leaves who) is k = every-without (is_offered_before w) (waits_as who) v.waits k
  gentle-waits v (Frees o) is k = freed-waits v o.kind o.birth k
  gentle-waits v b is k = k

  -- what stood is kept by steps that leave it so
  gentle-kept : (v : World) (b : Basic) → is_gentle w joins shuts b ≡ true → IsKept joins shuts w v → IsKept joins shuts w (basic v b)
  gentle-kept v b is k = record { ports = gentle-rows v b is k.ports; waits = gentle-waits v b is k.waits }

  own-offers : (x : WaitRow) → has (is_offer_on x.port) w.waits ≡ true → is_offered_before w x ≡ true
  own-offers x is = rw is (or (is_offered x) (port_stands w x.port))
    where
      or : (a b : Bool) → (not a || (true || not b)) ≡ true
      or a b = grind arith

  first-port : (b : Birth) (p q : PortRow) → port_row w b ≡ Some p → port_row w b ≡ Some q → IsAsBefore joins shuts p q
  first-port b p q one two =
      let same : p ≡ q = cc in
      subst (IsAsBefore joins shuts p) same (record { kind = refl; connection = refl; creator = refl; security = refl; completed = λ is. is; context = λ done. refl; pair = λ done other some. some; ends = λ done other some one two. some })

  offered-here : (xs : List WaitRow) → ((x : WaitRow) → has (is_offer_on x.port) xs ≡ true → is_offered_before w x ≡ true) → every (is_offered_before w) xs ≡ true
  offered-here [] all = refl
  offered-here (x ∷ xs) all = and_from (is_offered_before w x) _ (one (is_offered x) refl) (offered-here xs (λ y later. all y (wider y later)))
    where
      wider : (y : WaitRow) → has (is_offer_on y.port) xs ≡ true → has (is_offer_on y.port) (x ∷ xs) ≡ true
      wider y later = grind (arith, later)

      one : (o : Bool) → is_offered x ≡ o → is_offered_before w x ≡ true
      one false off = rw off refl
      one true is = all x (let self = birth-self x.port in grind (arith, is, self))

  kept-first : IsKept joins shuts w w
  kept-first = record { ports = first-port; waits = offered-here w.waits own-offers }

  -- so a port is as it is to be
  answered-kept : (v : World) → KeepsWaits v → (b : Birth) → port_stands w b ≡ true → is_unanswered w b ≡ false → is_unanswered v b ≡ false
  answered-kept v k b stands none = has-off (is_offer_on b) v.waits (every-more (is_offered_before w) (λ x. not (is_offer_on b x)) off v.waits k)
    where
      parts : (o u s : Bool) → u ≡ false → s ≡ true → (not o || (u || not s)) ≡ true → not (o && true) ≡ true
      parts o u s one two is = grind arith

      at : (x : WaitRow) (c : Bool) → same_birth x.port b ≡ c → is_offered_before w x ≡ true → not (is_offered x && c) ≡ true
      at x true same is =
          let own : x.port ≡ b = birth-same x.port b same in
          parts (is_offered x) (is_unanswered w x.port) (port_stands w x.port) (subst (λ c. is_unanswered w c ≡ false) (sym own) none) (subst (λ c. port_stands w c ≡ true) (sym own) stands) is
      at x false off is = never (is_offered x)
        where
          never : (o : Bool) → not (o && false) ≡ true
          never o = grind arith

      off : (x : WaitRow) → is_offered_before w x ≡ true → not (is_offer_on b x) ≡ true
      off x is = at x (same_birth x.port b) refl is

  gentle-all : (bs : List Basic) → AreGentle w joins shuts bs → IsKept joins shuts w (world_after w bs)
  gentle-all bs all = steps-keep (is_gentle w joins shuts) (IsKept joins shuts w) gentle-kept w bs all kept-first

  pub gentle-answered : (bs : List Basic) → AreGentle w joins shuts bs → (b : Birth) → port_stands w b ≡ true → is_unanswered w b ≡ false → is_unanswered (world_after w bs) b ≡ false
  gentle-answered bs all = let k = gentle-all bs all in answered-kept (world_after w bs) k.waits

-- Ports with another end
-- no connect waits for its accept on a port that has another end
paired-answered : (w : World) → IsLinked w → (b : Birth) (p : PortRow) (other : Birth) → port_row w b ≡ Some p → p.pair ≡ Some other → is_unanswered w b ≡ false
paired-answered w l b p other row some = has-off (is_offer_on b) w.waits (every-more (is_lone_offer w) (λ x. not (is_offer_on b x)) (λ x lone. at x (same_birth x.port b) refl lone) w.waits l.offers)
  where
    parts : (o r u : Bool) → u ≡ false → (not o || (r && u)) ≡ true → not (o && true) ≡ true
    parts o r u off is = grind arith

    never : (o : Bool) → not (o && false) ≡ true
    never o = grind arith

    joined : (o c : Option Birth) → o ≡ Some other → (is_none o && is_some c) ≡ false
    joined None c is = absurd (cc)
    joined (Some d) c is = refl

    at : (x : WaitRow) (c : Bool) → same_birth x.port b ≡ c → is_lone_offer w x ≡ true → not (is_offered x && c) ≡ true
    at x true same lone =
        let found : port_row w x.port ≡ Some p = subst (λ d. port_row w d ≡ Some p) (sym (birth-same x.port b same)) row in
        parts (is_offered x) (is_root_port w x.queue) (passes (port_row w x.port) is_unjoined) (rw found (joined p.pair p.connection some)) lone
    at x false off lone = never (is_offered x)

-- what steps leave that join no port but one that they answer, and cut off none but one that isn't open behind them
pub gentle-keeps : (w : World) (bs : List Basic) → IsLinked w → AreGentle w (is_answered_in w (world_after w bs)) (λ b. not (is_open (world_after w bs) b)) bs → KeepsPorts w (world_after w bs)
gentle-keeps w bs l all =
    let k = gentle-all w (is_answered_in w (world_after w bs)) (λ b. not (is_open (world_after w bs) b)) bs all in
    record {
      ports = λ b p q row here. told b p q row (k.ports b p q row here);
      answered = gentle-answered w (is_answered_in w (world_after w bs)) (λ b. not (is_open (world_after w bs) b)) bs all;
    }
  where
    told : (b : Birth) (p q : PortRow) → port_row w b ≡ Some p → IsAsBefore (is_answered_in w (world_after w bs)) (λ b. not (is_open (world_after w bs) b)) p q → KeepsPort w (world_after w bs) p q
    told b p q row k = record {
      kind = k.kind;
      connection = k.connection;
      creator = k.creator;
      security = k.security;
      completed = k.completed;
      context = k.context;
      pair = k.pair;
      ends = λ other some one two. k.ends (answered other some) other some (rw one refl) (rw two refl);
    }
      where
        answered : (other : Birth) → p.pair ≡ Some other → is_answered_in w (world_after w bs) p.birth ≡ false
        answered other some =
            let none : is_unanswered w p.birth ≡ false = subst (λ c. is_unanswered w c ≡ false) (sym (birth-same p.birth b (first-passes (is_port b) w.ports p row))) (paired-answered w l b p other row some) in
            rw none refl
