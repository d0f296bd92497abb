-- What counts for an object: for c's own ports in a view as in the world, and where rows that nothing names have gone.
use Rattle.lpc_model.specs.Left.{HasLivingPorts}
use Rattle.std.proofs.Common.{◌≡◌, ℕ, List, [], ◌∷◌, ◌++◌, Bool, true, false, cond, not, map, Option, Some, None, refl, ap, sym, subst, ◌∙◌, arith}
use Rattle.std.specs.Prelude.{◌&&◌, ◌||◌, ◌==◌, ◌+◌, is_none, length, is_some}
use Rattle.std.proofs.lemmas.Bool.{and_from, eqb-true, false_from_ne_true}
use Rattle.std.proofs.lemmas.List.Elements.{filter-append}
use Rattle.std.proofs.Math.Bool.{or-true}
use Rattle.lpc_base.specs.Rows.{count, each, every, has, which, first, when}
use Rattle.lpc_base.proofs.RowMaps.{every-both, every-first}
use Rattle.lpc_base.proofs.RowWords.{count-append, count-none, every-true, first-passes}
use Rattle.lpc_base.proofs.Bools.{first-true, or-last, or-second, same-number, second-true}
use Rattle.lpc_base.proofs.Births.{birth-same}
use Rattle.lpc_base.specs.declared.port_kind.PortKind.TheVariants.{Client, Connection, Server, Unnamed}
use Rattle.lpc_model.specs.declared.entry.ObjectKind.{ObjectKind}
use Rattle.lpc_model.specs.declared.entry.ObjectKind.TheVariants as kind
use Rattle.lpc_model.specs.World.{Birth, HandleRow, HandleTable, MessageRow, ObjectName, PortKind, PortRow, ProcessRow, ViewRow, ViewTable, WaitRow, World, ThreadRow, Offer}
use Rattle.lpc_model.specs.Found.{all_views, handle_count, is_client_port, is_connected_to, is_cut, is_life, lives_by, is_made_on, is_paired_to, is_port, is_asking, is_sent_on, is_server_port, is_the, port_name, same_birth, same_kind, same_object, shows_section, all_registrations, registered_by, is_owned_by, offers_section, offer_of, event_ports, event_ports_of, is_event}
use Rattle.lpc_model.specs.Standing.{is_near}
use Rattle.lpc_model.specs.Circle.{Group, is_fine_client, is_fine_port}
use Rattle.lpc_isolation.proofs.Views.Alone.{HasFineRows}
use Rattle.lpc_isolation.proofs.Gone.Served.{is_made_to, is_sent_to, is_standing, standing_as, standing_count, standing_holders}
use Rattle.lpc_isolation.proofs.Views.View.{of_birth, hidden_section, our_message, our_port, our_space, our_wait, seen_pair, seen_port, seen_space, seen_view, view, our_process, our_thread}
use Rattle.std.proofs.lemmas.Bool.Decides.{nat_tests}
use Rattle.lpc_model.proofs.Steps.Registrations.{every-each}
use Rattle.lpc_isolation.proofs.Views.Basics.{owner-same}
use Rattle.lpc_isolation.proofs.Views.Filters.{count-inside, first-inside, has-inside, shown, which-where}
use Rattle.lpc_isolation.proofs.Rows.Fair.{Fair, all_of, is_fair_message, is_fair_pair, is_fair_port, is_fair_space, is_fair_view, is_fair_wait, is_fair_life, is_fair_process, is_home, is_fair_thread, together, is_fair_offer, port-home, port-side, is_fair_raise, is_fair_hearer, are_together}
use Rattle.lpc_isolation.proofs.Views.Callers.{c-wait}
use Rattle.lpc_isolation.proofs.Views.Mine.{the-seen}
use Rattle.lpc_isolation.proofs.Gone.Thin.{Alive, Closed, handle_closed, message_closed, port_alive, port_cut, table_closed, thin, wait_closed, alive_as, lasts, object_alive, port-live, process_alive, registered-thin, thread_alive, thread_closed, view_closed, events-thin}
use Rattle.lpc_isolation.proofs.Closings.Ports.{member-in}
use Rattle.lpc_isolation.proofs.Each.Closes.{handle_count-view}

-- Lists
count-shown : {X : Type 0} (p k test other : X → Bool) (e : X → X) → ((x : X) → p x ≡ true → k x ≡ true → other (e x) ≡ test x) → ((x : X) → p x ≡ true → test x ≡ true → k x ≡ true) → (xs : List X) → every p xs ≡ true → count other (map e (which k xs)) ≡ count test xs
count-shown p k test other e same inside [] all = refl
count-shown p k test other e same inside (x ∷ xs) all = grind (arith, same x, inside x, count-shown p k test other e same inside xs)

none-of : {X : Type 0} (p t : X → Bool) → ((x : X) → p x ≡ true → t x ≡ false) → (xs : List X) → every p xs ≡ true → has t xs ≡ false
none-of p t off [] all = refl
none-of p t off (x ∷ xs) all = grind (arith, off x, none-of p t off xs)

none-before : {X : Type 0} (p : X → Bool) (xs ys : List X) → count p xs ≡ 0 → count p (xs ++ ys) ≡ count p ys
none-before p xs ys none = let both = count-append p xs ys in omega (arith, both, none)

-- In a view
-- a port that is connected to c's, and a member's pair
record Near (m : Group) (c : ℕ) (b : Birth) (p : PortRow) : Type 0 where
  inside : m p.birth.process ≡ true
  pair : seen_pair m p.pair ≡ p.pair
  -- a client port, or c's own
  own : (is_client_port p || (p.birth.process == c)) ≡ true

pair-seen : (m : Group) (c : ℕ) (p : PortRow) (o : Option Birth) → all_of o (is_fair_pair m c p) ≡ true → m p.birth.process ≡ true → (not (is_server_port p) || (p.birth.process == c)) ≡ true → seen_pair m o ≡ o
pair-seen m c p None fair inside own = refl
pair-seen m c p (Some q) fair inside own = rw (at (is_server_port p) refl) refl
  where
    at : (e : Bool) → is_server_port p ≡ e → m q.process ≡ true
    at true server =
        let mine : (p.birth.process == c) ≡ true = or-last (is_server_port p) (p.birth.process == c) server own in
        let it : ((not (m q.process) || m p.birth.process) && (not true || m q.process)) ≡ true = rw (server, mine) at fair in second-true (not (m q.process) || m p.birth.process) _ it
    at false off =
        let it : ((not true || m q.process) && (not (q.process == c) || true)) ≡ true = rw (off, inside) at fair in first-true (not true || m q.process) _ it

near-kind : (m : Group) (c : ℕ) (b : Birth) (p : PortRow) (k : PortKind) → p.kind ≡ k → m c ≡ true → b.process ≡ c → is_fair_port m c p ≡ true → is_fine_port m c p ≡ true → p.connection ≡ Some b → Near m c b p
near-kind m c b p Client k c_in mine fair fine to =
    let it : is_fine_client m c p.birth b ≡ true = rw (k, to) at fine in
    let b_c : (b.process == c) ≡ true = ap (λ n. n == c) mine ∙ same-number c in
    let inside : m p.birth.process ≡ true = last (m p.birth.process) (m b.process) (b.process == c) b_c it in
    record { inside = inside; pair = pair-seen m c p p.pair (second-true (is_home p) _ fair) inside (rw k refl); own = rw k refl }
  where
    last : (a d e : Bool) → e ≡ true → ((not a || d) && (not e || a)) ≡ true → a ≡ true
    last a d e is it = grind arith
near-kind m c b p Server k c_in mine fair fine to =
    let home : is_home p ≡ true = first-true (is_home p) _ fair in
    let it : (((not true || (b.process == p.birth.process)) && (true || (false || is_none (Some b))))) ≡ true = rw (k, to) at home in
    let same : b.process ≡ p.birth.process = eqb-true _ _ (first-true (b.process == p.birth.process) _ it) in
    let p_c : (p.birth.process == c) ≡ true = ap (λ n. n == c) (sym same ∙ mine) ∙ same-number c in
    let inside : m p.birth.process ≡ true = ap m (sym same ∙ mine) ∙ c_in in
    record { inside = inside; pair = pair-seen m c p p.pair (second-true (is_home p) _ fair) inside (rw p_c (or-true (not (is_server_port p)))); own = rw p_c (or-true (is_client_port p)) }
near-kind m c b p Connection k c_in mine fair fine to = let home : is_home p ≡ true = first-true (is_home p) _ fair in let off : (true && (false || (false || false))) ≡ true = rw (k, to) at home in absurd (cc)
near-kind m c b p Unnamed k c_in mine fair fine to = let home : is_home p ≡ true = first-true (is_home p) _ fair in let off : (true && (false || (false || false))) ≡ true = rw (k, to) at home in absurd (cc)

near : (m : Group) (c : ℕ) (b : Birth) (p : PortRow) → m c ≡ true → b.process ≡ c → is_fair_port m c p ≡ true → is_fine_port m c p ≡ true → is_connected_to b p ≡ true → Near m c b p
near m c b p c_in mine fair fine is = at p.connection refl is
  where
    at : (o : Option Birth) → p.connection ≡ o → is_the b o ≡ true → Near m c b p
    at None none is = absurd (cc)
    at (Some q) some is = near-kind m c b p p.kind refl c_in mine fair fine (some ∙ ap (λ q. Some q) (sym (birth-same b q is)))

-- messages and waits of such a port are in the view
sent-seen : (m : Group) (c : ℕ) (w : World) (b : Birth) (p : PortRow) → m c ≡ true → b.process ≡ c → Fair m c w → Near m c b p → has (is_sent_to b p) (view m w).messages ≡ has (is_sent_to b p) w.messages
sent-seen m c w b p c_in mine f n = has-inside (is_fair_message m c) (our_message m) (is_sent_to b p) (λ x fair is.
    let sender : m x.sender.process ≡ true = of_birth m x.sender p.birth (first-true _ _ is) ∙ n.inside in
    and_from _ _ sender (queue x fair is (same_birth x.queue b) refl)) w.messages f.messages
  where
    fair-queue : (x : MessageRow) → is_fair_message m c x ≡ true → (x.sender.process == c) ≡ true → m x.queue.process ≡ true
    fair-queue x fair is = grind arith

    queue : (x : MessageRow) → is_fair_message m c x ≡ true → is_sent_to b p x ≡ true → (e : Bool) → same_birth x.queue b ≡ e → m x.queue.process ≡ true
    queue x fair is true here = of_birth m x.queue b here ∙ ap m mine ∙ c_in
    queue x fair is false off =
        let rest : (same_birth x.queue b || not (is_client_port p)) ≡ true = second-true (is_sent_on p.birth x) _ is in
        let p_c : (p.birth.process == c) ≡ true = last (same_birth x.queue b) (is_client_port p) (p.birth.process == c) off rest n.own in
        let sender : (x.sender.process == c) ≡ true = ap (λ (b : Birth). b.process == c) (birth-same x.sender p.birth (first-true _ _ is)) ∙ p_c in
        fair-queue x fair sender
      where
        last : (a d e : Bool) → a ≡ false → (a || not d) ≡ true → (d || e) ≡ true → e ≡ true
        last a d e off one two = grind arith

-- a wait that was made on a port of c's is in the view
port-wait : (m : Group) (c : ℕ) (x : WaitRow) → m c ≡ true → (is_fair_wait m c x && is_fair_raise m x) ≡ true → (x.port.process == c) ≡ true → our_wait m x ≡ true
port-wait m c x c_in both mine = at (is_event x) refl
  where
    fair : is_fair_wait m c x ≡ true
    fair = first-true (is_fair_wait m c x) _ both

    at : (e : Bool) → is_event x ≡ e → our_wait m x ≡ true
    at true is =
        let inside : m x.process ≡ true = sym (port-side m x (first-true _ _ fair)) ∙ ap m (eqb-true _ _ mine) ∙ c_in in
        let queue : (not true || (not true || m x.queue.process)) ≡ true = rw (is, inside) at (second-true (is_fair_wait m c x) (is_fair_raise m x) both) in
        and_from _ _ inside queue
    at false off = c-wait m c x c_in fair (ap (λ n. n == c) (sym (port-home m x off (first-true _ _ fair))) ∙ mine)

fair-waits : (m : Group) (c : ℕ) (w : World) → Fair m c w → every (λ x. is_fair_wait m c x && is_fair_raise m x) w.waits ≡ true
fair-waits m c w f = every-both (is_fair_wait m c) (is_fair_raise m) (λ x. is_fair_wait m c x && is_fair_raise m x) (λ x one two. and_from _ _ one two) w.waits f.waits f.raised

made-seen : (m : Group) (c : ℕ) (w : World) (b : Birth) (p : PortRow) → m c ≡ true → b.process ≡ c → p.connection ≡ Some b → Fair m c w → Near m c b p → has (is_made_to p) (view m w).waits ≡ has (is_made_to p) w.waits
made-seen m c w b p c_in mine to f n = has-inside (λ x. is_fair_wait m c x && is_fair_raise m x) (our_wait m) (is_made_to p) (λ x both is. at x both is) w.waits (fair-waits m c w f)
  where
    near-in : (x : WaitRow) → is_near x p ≡ true → m x.queue.process ≡ true
    near-in x is = first (is_port x.queue p) refl
      where
        paired : (o : Option Birth) → seen_pair m o ≡ o → is_the x.queue o ≡ true → m x.queue.process ≡ true
        paired None seen is = absurd (cc)
        paired (Some q) seen is = of_birth m x.queue q is ∙ member (m q.process) refl seen
          where
            member : (e : Bool) → m q.process ≡ e → cond (m q.process) (Some q) None ≡ Some q → e ≡ true
            member true inside seen = refl
            member false out seen = let never : None ≡ Some q = rw out at seen in absurd (cc)

        second : (e : Bool) → is_port x.queue p ≡ false → is_connected_to x.queue p ≡ e → m x.queue.process ≡ true
        second true off here = let same : same_birth x.queue b ≡ true = rw to at here in of_birth m x.queue b same ∙ ap m mine ∙ c_in
        second false off none = paired p.pair n.pair (third (is_port x.queue p) (is_connected_to x.queue p) (is_asking x) (is_paired_to x.queue p) off none is)
          where
            third : (a d e g : Bool) → a ≡ false → d ≡ false → (a || (d || (e && g))) ≡ true → g ≡ true
            third a d e g one two is = grind arith

        first : (e : Bool) → is_port x.queue p ≡ e → m x.queue.process ≡ true
        first true here = sym (of_birth m p.birth x.queue here) ∙ n.inside
        first false off = second (is_connected_to x.queue p) off refl

    at : (x : WaitRow) → (is_fair_wait m c x && is_fair_raise m x) ≡ true → is_made_to p x ≡ true → our_wait m x ≡ true
    at x both is = by (is_near x p) refl
      where
        on : x.port ≡ p.birth
        on = birth-same x.port p.birth (first-true _ _ is)

        side : m x.process ≡ m p.birth.process
        side = sym (port-side m x (first-true _ _ (first-true (is_fair_wait m c x) _ both))) ∙ ap (λ (b : Birth). m b.process) on

        by : (e : Bool) → is_near x p ≡ e → our_wait m x ≡ true
        by true here = and_from _ _ (side ∙ n.inside) (near-in x here)
        by false off =
            let rest : (is_near x p || not (is_client_port p)) ≡ true = second-true (is_made_on p.birth x) _ is in
            let p_c : (p.birth.process == c) ≡ true = last (is_near x p) (is_client_port p) (p.birth.process == c) off rest n.own in
            port-wait m c x c_in both (ap (λ (b : Birth). b.process == c) on ∙ p_c)
          where
            last : (a d e : Bool) → a ≡ false → (a || not d) ≡ true → (d || e) ≡ true → e ≡ true
            last a d e off one two = grind arith

-- and so are the registrations of it
none-registered : (m : Group) (b : Birth) (pid : ℕ) (bs : List Birth) → m b.process ≡ true → m pid ≡ false → every (λ (d : Birth). d.process == pid) bs ≡ true → which (same_birth b) bs ≡ []
none-registered m b pid [] inside out own = refl
none-registered m b pid (d ∷ ds) inside out own = at (same_birth b d) refl (none-registered m b pid ds inside out (second-true _ _ own))
  where
    at : (e : Bool) → same_birth b d ≡ e → which (same_birth b) ds ≡ [] → which (same_birth b) (d ∷ ds) ≡ []
    at true is rest = let k : m b.process ≡ m pid = of_birth m b d is ∙ ap m (eqb-true _ _ (first-true _ _ own)) in absurd (cc)
    at false off rest = rw off rest

thread-registered : (m : Group) (b : Birth) (t : ThreadRow) → m b.process ≡ true → m t.process ≡ false → is_fair_thread t ≡ true → which (same_birth b) (registered_by t) ≡ []
thread-registered m b t inside out fair = at t.live
  where
    at : (e : Bool) → which (same_birth b) (when e t.registrations) ≡ []
    at true = none-registered m b t.process t.registrations inside out fair
    at false = refl

registered-seen : (m : Group) (b : Birth) (ts : List ThreadRow) → m b.process ≡ true → every is_fair_thread ts ≡ true → which (same_birth b) (each registered_by (which (our_thread m) ts)) ≡ which (same_birth b) (each registered_by ts)
registered-seen m b [] inside fair = refl
registered-seen m b (t ∷ ts) inside fair = at (m t.process) refl (registered-seen m b ts inside (second-true _ _ fair))
  where
    at : (e : Bool) → m t.process ≡ e → which (same_birth b) (each registered_by (which (our_thread m) ts)) ≡ which (same_birth b) (each registered_by ts) → which (same_birth b) (each registered_by (which (our_thread m) (t ∷ ts))) ≡ which (same_birth b) (each registered_by (t ∷ ts))
    at true is more = rw is (filter-append (same_birth b) (registered_by t) (each registered_by (which (our_thread m) ts)) ∙ ap (λ bs. which (same_birth b) (registered_by t) ++ bs) more ∙ sym (filter-append (same_birth b) (registered_by t) (each registered_by ts)))
    at false out more = rw out (more ∙ ap (λ bs. bs ++ which (same_birth b) (each registered_by ts)) (sym (thread-registered m b t inside out (first-true _ _ fair))) ∙ sym (filter-append (same_birth b) (registered_by t) (each registered_by ts)))

-- and the ports that are told of exceptions
none-heard : (m : Group) (b : Birth) (pid : ℕ) (bs : List Birth) → m b.process ≡ true → m pid ≡ false → every (λ (d : Birth). are_together m pid d.process) bs ≡ true → which (same_birth b) bs ≡ []
none-heard m b pid [] inside out all = refl
none-heard m b pid (d ∷ ds) inside out all = at (same_birth b d) refl (none-heard m b pid ds inside out (second-true _ _ all))
  where
    at : (e : Bool) → same_birth b d ≡ e → which (same_birth b) ds ≡ [] → which (same_birth b) (d ∷ ds) ≡ []
    at true is rest = let k : m b.process ≡ m pid = of_birth m b d is ∙ sym (together m pid d.process (first-true _ _ all)) in absurd (cc)
    at false off rest = rw off rest

hearers-seen : (m : Group) (b : Birth) (ps : List ProcessRow) → m b.process ≡ true → every (is_fair_hearer m) ps ≡ true → which (same_birth b) (each event_ports_of (which (our_process m) ps)) ≡ which (same_birth b) (each event_ports_of ps)
hearers-seen m b [] inside fair = refl
hearers-seen m b (p ∷ ps) inside fair = at (m p.number) refl (hearers-seen m b ps inside (second-true _ _ fair))
  where
    at : (e : Bool) → m p.number ≡ e → which (same_birth b) (each event_ports_of (which (our_process m) ps)) ≡ which (same_birth b) (each event_ports_of ps) → which (same_birth b) (each event_ports_of (which (our_process m) (p ∷ ps))) ≡ which (same_birth b) (each event_ports_of (p ∷ ps))
    at true is more = rw is (filter-append (same_birth b) (event_ports_of p) (each event_ports_of (which (our_process m) ps)) ∙ ap (λ bs. which (same_birth b) (event_ports_of p) ++ bs) more ∙ sym (filter-append (same_birth b) (event_ports_of p) (each event_ports_of ps)))
    at false out more = rw out (more ∙ ap (λ bs. bs ++ which (same_birth b) (each event_ports_of ps)) (sym (none-heard m b p.number (event_ports_of p) inside out (first-true _ _ fair))) ∙ sym (filter-append (same_birth b) (event_ports_of p) (each event_ports_of ps)))

has-seen : (p : Birth → Bool) (xs ys : List Birth) → which p xs ≡ which p ys → has p xs ≡ has p ys
has-seen p xs ys same = ap is_some (sym (first-inside p p (λ x is. is) xs) ∙ ap (first p) same ∙ first-inside p p (λ x is. is) ys)

-- Views of members alone pass a test, which sees of a view no more than the group does
record OfMembers (m : Group) (c : ℕ) (test : ViewRow → Bool) : Type 0 where
  same : (v : ViewRow) → test (seen_view m v) ≡ test v
  none : (pid : ℕ) (v : ViewRow) → m pid ≡ false → is_fair_view m c pid v ≡ true → test v ≡ false

module _ (m : Group) (c : ℕ) (test : ViewRow → Bool) (o : OfMembers m c test) where
  counted-rows : (vs : List ViewRow) → count test (map (seen_view m) vs) ≡ count test vs
  counted-rows [] = refl
  counted-rows (v ∷ vs) = let same = o.same v in grind (arith, same, counted-rows vs)

  counted-tables : (ts : List ViewTable) → every (is_fair_space m c) ts ≡ true → count test (each (λ (t : ViewTable). t.rows) (shown (our_space m) (seen_space m) ts)) ≡ count test (each (λ (t : ViewTable). t.rows) ts)
  counted-tables [] all = refl
  counted-tables (t ∷ ts) all = at (m t.process) refl (counted-tables ts (second-true (is_fair_space m c t) _ all))
    where
      rest : List ViewRow
      rest = each (λ (t : ViewTable). t.rows) ts

      kept : List ViewRow
      kept = each (λ (t : ViewTable). t.rows) (shown (our_space m) (seen_space m) ts)

      at : (e : Bool) → m t.process ≡ e → count test kept ≡ count test rest → count test (each (λ (t : ViewTable). t.rows) (map (seen_space m) (cond e (t ∷ which (our_space m) ts) (which (our_space m) ts)))) ≡ count test (t.rows ++ rest)
      at true is same =
          count-append test (map (seen_view m) t.rows) kept
          ∙ ap (λ n. n + count test kept) (counted-rows t.rows)
          ∙ ap (λ n. count test t.rows + n) same
          ∙ sym (count-append test t.rows rest)
      at false out same =
          let none : count test t.rows ≡ 0 = count-none test t.rows (none-of (is_fair_view m c t.process) test (λ v fair. o.none t.process v out fair) t.rows (first-true _ _ all)) in
          same ∙ sym (none-before test t.rows rest none)

  counted-view : (w : World) → Fair m c w → count test (all_views (view m w)) ≡ count test (all_views w)
  counted-view w f = counted-tables w.views f.views

-- and a member's port owns such views alone
none-owns : (m : Group) (c : ℕ) (b : Birth) (pid : ℕ) (v : ViewRow) → m b.process ≡ true → m pid ≡ false → is_fair_view m c pid v ≡ true → is_owned_by b v ≡ false
none-owns m c b pid v inside out fair = at v.owner refl
  where
    at : (o : Option Birth) → v.owner ≡ o → is_the b o ≡ false
    at None none = refl
    at (Some d) some = false_from_ne_true (same_birth b d) (λ is.
        let home : (d.process == pid) ≡ true = rw some at (second-true (not (v.section.process == c) || m pid) _ (second-true (not (pid == c) || m v.section.process) _ fair)) in
        let same : m b.process ≡ m pid = of_birth m b d is ∙ ap m (eqb-true d.process pid home) in cc)

owns-view : (m : Group) (c : ℕ) (w : World) (b : Birth) → m b.process ≡ true → Fair m c w → count (is_owned_by b) (all_views (view m w)) ≡ count (is_owned_by b) (all_views w)
owns-view m c w b inside f = counted-view m c (is_owned_by b) (record { same = owner-same m b; none = λ pid v out fair. none-owns m c b pid v inside out fair }) w f

has-counted : {X : Type 0} (p : X → Bool) (xs : List X) → has p xs ≡ not (count p xs == 0)
has-counted p [] = refl
has-counted p (x ∷ xs) = grind (arith, nat_tests, has-counted p xs)

has-owned : (m : Group) (c : ℕ) (w : World) (b : Birth) → m b.process ≡ true → Fair m c w → has (is_owned_by b) (all_views (view m w)) ≡ has (is_owned_by b) (all_views w)
has-owned m c w b inside f = has-counted (is_owned_by b) (all_views (view m w)) ∙ ap (λ n. not (n == 0)) (owns-view m c w b inside f) ∙ sym (has-counted (is_owned_by b) (all_views w))

standing-seen : (m : Group) (c : ℕ) (w : World) (b : Birth) (p : PortRow) → m c ≡ true → b.process ≡ c → Fair m c w → (is_fair_port m c p && is_fine_port m c p) ≡ true → is_standing (view m w) b (seen_port m p) ≡ is_standing w b p
standing-seen m c w b p c_in mine f ok = at (is_connected_to b p) refl
  where
    to-of : is_connected_to b p ≡ true → p.connection ≡ Some b
    to-of is = found p.connection refl is
      where
        found : (o : Option Birth) → p.connection ≡ o → is_the b o ≡ true → p.connection ≡ Some b
        found None none is = absurd (cc)
        found (Some q) some is = some ∙ ap (λ q. Some q) (sym (birth-same b q is))

    at : (e : Bool) → is_connected_to b p ≡ e → is_standing (view m w) b (seen_port m p) ≡ is_standing w b p
    at false off = rw off refl
    at true here =
        let n : Near m c b p = near m c b p c_in mine (first-true _ _ ok) (second-true (is_fair_port m c p) _ ok) here in
        let same : seen_port m p ≡ p = rw n.pair refl in
        ap (is_standing (view m w) b) same
        ∙ rw (handle_count-view m c w (port_name p.birth) f.tables n.inside, sent-seen m c w b p c_in mine f n, made-seen m c w b p c_in mine (to-of here) f n, has-seen (same_birth p.birth) (all_registrations (view m w)) (all_registrations w) (registered-seen m p.birth w.threads n.inside f.registrations), has-owned m c w p.birth n.inside f, has-seen (same_birth p.birth) (event_ports (view m w)) (event_ports w) (hearers-seen m p.birth w.processes n.inside f.hearers)) refl

-- what counts for c's port
fair-pair-in : (m : Group) (c : ℕ) (b : Birth) (p : PortRow) → m c ≡ true → b.process ≡ c → is_fair_port m c p ≡ true → is_paired_to b p ≡ true → m p.birth.process ≡ true
fair-pair-in m c b p c_in mine fair is = at p.pair refl is
  where
    at : (o : Option Birth) → p.pair ≡ o → is_the b o ≡ true → m p.birth.process ≡ true
    at None none is = absurd (cc)
    at (Some q) some is =
        let same : b ≡ q = birth-same b q is in
        let it : (is_home p && is_fair_pair m c p q) ≡ true = rw some at fair in
        member-in m c p b (subst (λ q. is_fair_pair m c p q ≡ true) (sym same) (second-true (is_home p) _ it)) c_in mine

sent-in : (m : Group) (c : ℕ) (b : Birth) (x : MessageRow) → m c ≡ true → b.process ≡ c → is_fair_message m c x ≡ true → is_sent_on b x ≡ true → our_message m x ≡ true
sent-in m c b x c_in mine fair is =
    let sender : x.sender.process ≡ c = ap (λ (b : Birth). b.process) (birth-same x.sender b is) ∙ mine in
    let s_c : (x.sender.process == c) ≡ true = ap (λ n. n == c) sender ∙ same-number c in
    let s_in : m x.sender.process ≡ true = ap m sender ∙ c_in in
    grind arith

ports-view : (m : Group) (c : ℕ) (w : World) (b : Birth) → m c ≡ true → b.process ≡ c → Fair m c w → HasFineRows m c w → standing_holders (view m w) b ≡ standing_holders w b
ports-view m c w b c_in mine f fine =
    let pairs : count (is_paired_to b) (view m w).ports ≡ count (is_paired_to b) w.ports = count-shown (is_fair_port m c) (our_port m) (is_paired_to b) (is_paired_to b) (seen_port m) (λ p fair ours. the-seen m b p.pair (ap m mine ∙ c_in)) (λ p fair is. fair-pair-in m c b p c_in mine fair is) w.ports f.ports in
    let ports : every (λ p. is_fair_port m c p && is_fine_port m c p) w.ports ≡ true = every-both (is_fair_port m c) (is_fine_port m c) _ (λ p a b. and_from _ _ a b) w.ports f.ports fine.1 in
    let standing : count (is_standing (view m w) b) (view m w).ports ≡ count (is_standing w b) w.ports = count-shown (λ p. is_fair_port m c p && is_fine_port m c p) (our_port m) (is_standing w b) (is_standing (view m w) b) (seen_port m) (λ p ok ours. standing-seen m c w b p c_in mine f ok) (λ p ok is. (near m c b p c_in mine (first-true _ _ ok) (second-true (is_fair_port m c p) _ ok) (first-true _ _ is)).inside) w.ports ports in
    let messages : count (is_sent_on b) (view m w).messages ≡ count (is_sent_on b) w.messages = ap length (which-where (is_fair_message m c) (our_message m) (is_sent_on b) (λ x fair is. sent-in m c b x c_in mine fair is) w.messages f.messages) in
    let waits : count (is_made_on b) (view m w).waits ≡ count (is_made_on b) w.waits = ap length (which-where (λ x. is_fair_wait m c x && is_fair_raise m x) (our_wait m) (is_made_on b) (λ x both is. port-wait m c x c_in both (ap (λ n. n == c) (ap (λ (b : Birth). b.process) (birth-same x.port b is) ∙ mine) ∙ same-number c)) w.waits (fair-waits m c w f)) in
    let registered : count (same_birth b) (all_registrations (view m w)) ≡ count (same_birth b) (all_registrations w) = ap length (registered-seen m b w.threads (ap m mine ∙ c_in) f.registrations) in
    let owned : count (is_owned_by b) (all_views (view m w)) ≡ count (is_owned_by b) (all_views w) = owns-view m c w b (ap m mine ∙ c_in) f in
    let heard : count (same_birth b) (event_ports (view m w)) ≡ count (same_birth b) (event_ports w) = ap length (hearers-seen m b w.processes (ap m mine ∙ c_in) f.hearers) in
    rw (pairs, standing, messages, waits, registered, owned, heard) refl

-- a member's process is counted for by its threads, and a member's thread by itself
which-alike : {X : Type 0} (f g : X → Bool) → ((x : X) → f x ≡ g x) → (xs : List X) → which f xs ≡ which g xs
which-alike f g same [] = refl
which-alike f g same (x ∷ xs) = rw (same x, which-alike f g same xs) refl

abbrev homes_in : Birth → ThreadRow → ProcessRow → Bool
homes_in b t p = same_birth p.birth b && (p.number == t.process)

lives-in : (m : Group) (w : World) (b : Birth) (t : ThreadRow) → every (is_fair_process m) w.processes ≡ true → m b.process ≡ true → lives_by w b t ≡ true → our_thread m t ≡ true
lives-in m w b t fair inside is = at (first (homes_in b t) w.processes) refl (second-true t.live _ is)
  where
    at : (o : Option ProcessRow) → first (homes_in b t) w.processes ≡ o → is_some o ≡ true → m t.process ≡ true
    at None none is = absurd (cc)
    at (Some p) some is =
        let passed : homes_in b t p ≡ true = first-passes (homes_in b t) w.processes p some in
        let same : m p.number ≡ m p.birth.process = together m p.number p.birth.process (every-first (is_fair_process m) (homes_in b t) w.processes p fair some) in
        ap m (sym (eqb-true p.number t.process (second-true _ _ passed))) ∙ same ∙ of_birth m p.birth b (first-true _ _ passed) ∙ inside

lives-seen : (m : Group) (w : World) (b : Birth) (t : ThreadRow) → every (is_fair_process m) w.processes ≡ true → m b.process ≡ true → lives_by (view m w) b t ≡ lives_by w b t
lives-seen m w b t fair inside =
    ap (λ e. t.live && e) (has-inside (is_fair_process m) (our_process m) (homes_in b t)
    (λ p one is. together m p.number p.birth.process one ∙ of_birth m p.birth b (first-true _ _ is) ∙ inside) w.processes fair)

lives_view : (m : Group) (c : ℕ) (w : World) (b : Birth) → m b.process ≡ true → Fair m c w → count (lives_by (view m w) b) (view m w).threads ≡ count (lives_by w b) w.threads
lives_view m c w b inside f =
    ap length (which-alike (lives_by (view m w) b) (lives_by w b) (λ t. lives-seen m w b t f.processes inside) (which (our_thread m) w.threads)
    ∙ count-inside (our_thread m) (lives_by w b) (λ t is. lives-in m w b t f.processes inside is) w.threads)

life_view : (m : Group) (c : ℕ) (w : World) (b : Birth) → m b.process ≡ true → Fair m c w → count (is_life b) (view m w).threads ≡ count (is_life b) w.threads
life_view m c w b inside f = ap length (which-where (is_fair_life m) (our_thread m) (is_life b) (λ t fair is. together m t.process t.birth.process fair ∙ of_birth m t.birth b (second-true t.live _ is) ∙ inside) w.threads f.lives)

-- a section of c's is shown by views of members
shows-seen : (m : Group) (b : Birth) (v : ViewRow) → m b.process ≡ true → shows_section b (seen_view m v) ≡ shows_section b v
shows-seen m b v inside = at (m v.section.process) refl
  where
    other : (d : Birth) → m d.process ≡ false → same_birth d b ≡ false
    other d out = false_from_ne_true (same_birth d b) (λ is. let same : m d.process ≡ m b.process = of_birth m d b is in cc)

    at : (e : Bool) → m v.section.process ≡ e → shows_section b (cond e v (record v { section = hidden_section v.section; offset = 0 })) ≡ shows_section b v
    at true is = refl
    at false out = other (hidden_section v.section) out ∙ sym (other v.section out)

none-shows : (m : Group) (c : ℕ) (b : Birth) (pid : ℕ) (v : ViewRow) → m pid ≡ false → b.process ≡ c → is_fair_view m c pid v ≡ true → shows_section b v ≡ false
none-shows m c b pid v out mine fair = false_from_ne_true (shows_section b v) (λ is.
    let own : (v.section.process == c) ≡ true = ap (λ (b : Birth). b.process == c) (birth-same v.section b is) ∙ ap (λ n. n == c) mine ∙ same-number c in
    let inside : m pid ≡ true = member (v.section.process == c) own (first-true _ _ (second-true (not (pid == c) || m v.section.process) _ fair)) in cc)
  where
    member : (e : Bool) → e ≡ true → (not e || m pid) ≡ true → m pid ≡ true
    member e is fair = grind arith

shows_view : (m : Group) (c : ℕ) (w : World) (b : Birth) → m b.process ≡ true → b.process ≡ c → Fair m c w → count (shows_section b) (all_views (view m w)) ≡ count (shows_section b) (all_views w)
shows_view m c w b inside mine f = counted-view m c (shows_section b) (record { same = λ v. shows-seen m b v inside; none = λ pid v out fair. none-shows m c b pid v out mine fair }) w f

-- and offered by connects of c's own
offers-own : (m : Group) (c : ℕ) (b : Birth) (x : WaitRow) (o : Option Offer) → offer_of x ≡ o → b.process ≡ c → is_fair_offer x ≡ true → offers_section b x ≡ true → (x.process == c) ≡ true
offers-own m c b x None its mine fair is = let never : false ≡ true = rw its at is in absurd (cc)
offers-own m c b x (Some o) its mine fair is =
    let same : o.section ≡ b = birth-same o.section b (rw its at is) in
    let own : o.section.process ≡ x.process = eqb-true _ _ (rw its at fair) in
    ap (λ n. n == c) (sym own ∙ ap (λ (d : Birth). d.process) same ∙ mine) ∙ same-number c

offers_view : (m : Group) (c : ℕ) (w : World) (b : Birth) → m c ≡ true → b.process ≡ c → Fair m c w → count (offers_section b) (view m w).waits ≡ count (offers_section b) w.waits
offers_view m c w b c_in mine f =
    ap length (which-where (λ x. is_fair_wait m c x && is_fair_offer x) (our_wait m) (offers_section b) (λ x fair is. c-wait m c x c_in (first-true _ _ fair) (offers-own m c b x (offer_of x) refl mine (second-true (is_fair_wait m c x) _ fair) is)) w.waits
    (every-both (is_fair_wait m c) is_fair_offer (λ x. is_fair_wait m c x && is_fair_offer x) (λ x one two. and_from _ _ one two) w.waits f.waits f.offers))

as-view : (m : Group) (c : ℕ) (w : World) (k : ObjectKind) (b : Birth) → m c ≡ true → b.process ≡ c → Fair m c w → HasFineRows m c w → standing_as (view m w) k b ≡ standing_as w k b
as-view m c w kind.Port b c_in mine f fine = ports-view m c w b c_in mine f fine
as-view m c w kind.Section b c_in mine f fine = rw (shows_view m c w b (ap m mine ∙ c_in) mine f, offers_view m c w b c_in mine f) refl
as-view m c w kind.Token b c_in mine f fine = refl
as-view m c w kind.Process b c_in mine f fine = lives_view m c w b (ap m mine ∙ c_in) f
as-view m c w kind.Thread b c_in mine f fine = life_view m c w b (ap m mine ∙ c_in) f

pub standing-view : (m : Group) (c : ℕ) (w : World) (o : ObjectName) → m c ≡ true → o.birth.process ≡ c → Fair m c w → HasFineRows m c w → standing_count (view m w) o ≡ standing_count w o
standing-view m c w o c_in mine f fine = rw (handle_count-view m c w o f.tables (ap m mine ∙ c_in), as-view m c w o.kind o.birth c_in mine f fine) refl

-- Where rows have gone
-- what a row names is alive
handle-live : (k : Alive) (b : Birth) (hs : List HandleRow) → every (handle_closed k) hs ≡ true → k.ports b ≡ false → which (λ h. same_object h.object (port_name b)) hs ≡ []
handle-live k b [] all dead = refl
handle-live k b (h ∷ hs) all dead = at (same_object h.object (port_name b)) refl (handle-live k b hs (second-true _ _ all) dead)
  where
    at : (e : Bool) → same_object h.object (port_name b) ≡ e → which (λ h. same_object h.object (port_name b)) hs ≡ [] → which (λ h. same_object h.object (port_name b)) (h ∷ hs) ≡ []
    at true is rest =
        let live : k.ports h.object.birth ≡ true = port-live k h.object (first-true _ _ all) (first-true _ _ is) in
        let same : k.ports h.object.birth ≡ k.ports b = ap k.ports (birth-same h.object.birth b (second-true (same_kind h.object.kind kind.Port) _ is)) in absurd (cc)
    at false off rest = rw off rest

handles-live : (k : Alive) (b : Birth) (ts : List HandleTable) → every (table_closed k) ts ≡ true → k.ports b ≡ false → which (λ h. same_object h.object (port_name b)) (each (λ t. t.rows) ts) ≡ []
handles-live k b [] all dead = refl
handles-live k b (t ∷ ts) all dead =
    filter-append (λ h. same_object h.object (port_name b)) t.rows (each (λ t. t.rows) ts)
    ∙ ap (λ hs. hs ++ which (λ h. same_object h.object (port_name b)) (each (λ t. t.rows) ts)) (handle-live k b t.rows (first-true _ _ all) dead)
    ∙ handles-live k b ts (second-true _ _ all) dead

standing-live : (k : Alive) (u : World) (b : Birth) (p : PortRow) → Closed k u → port_cut k p ≡ true → is_standing u b p ≡ true → k.ports p.birth ≡ true
standing-live k u b p c cut is = at (k.ports p.birth) refl
  where
    off-sent : (x : MessageRow) → k.ports p.birth ≡ false → message_closed k x ≡ true → is_sent_to b p x ≡ false
    off-sent x dead closed = false_from_ne_true (is_sent_to b p x) (λ here. let same : k.ports x.sender ≡ k.ports p.birth = ap k.ports (birth-same x.sender p.birth (first-true _ _ here)) in cc)

    off-made : (x : WaitRow) → k.ports p.birth ≡ false → wait_closed k x ≡ true → is_made_to p x ≡ false
    off-made x dead closed = false_from_ne_true (is_made_to p x) (λ here. let same : k.ports x.port ≡ k.ports p.birth = ap k.ports (birth-same x.port p.birth (first-true _ _ here)) in cc)

    off-told : (d : Birth) → k.ports p.birth ≡ false → k.ports d ≡ true → same_birth p.birth d ≡ false
    off-told d dead live = false_from_ne_true (same_birth p.birth d) (λ here. let same : k.ports p.birth ≡ k.ports d = ap k.ports (birth-same p.birth d here) in cc)

    off-owned : (v : ViewRow) → k.ports p.birth ≡ false → view_closed k v ≡ true → is_owned_by p.birth v ≡ false
    off-owned v dead closed = by v.owner refl
      where
        by : (o : Option Birth) → v.owner ≡ o → is_the p.birth o ≡ false
        by None none = refl
        by (Some d) some = off-told d dead (rw some at (second-true (k.sections v.section) _ closed))

    at : (e : Bool) → k.ports p.birth ≡ e → e ≡ true
    at true live = refl
    at false dead =
        let handles : handle_count u (port_name p.birth) ≡ 0 = ap length (handles-live k p.birth u.handles c.tables dead) in
        let sent : has (is_sent_to b p) u.messages ≡ false = none-of (message_closed k) (is_sent_to b p) (λ x closed. off-sent x dead closed) u.messages c.messages in
        let made : has (is_made_to p) u.waits ≡ false = none-of (wait_closed k) (is_made_to p) (λ x closed. off-made x dead closed) u.waits c.waits in
        let told : has (same_birth p.birth) (all_registrations u) ≡ false = none-of k.ports (same_birth p.birth) (λ d live. off-told d dead live) (all_registrations u) c.registrations in
        let evented : has (same_birth p.birth) (event_ports u) ≡ false = none-of k.ports (same_birth p.birth) (λ d live. off-told d dead live) (event_ports u) (every-each k.ports event_ports_of u.processes ∙ c.events) in
        let owned : has (is_owned_by p.birth) (all_views u) ≡ false = none-of (view_closed k) (is_owned_by p.birth) (λ v closed. off-owned v dead closed) (all_views u) (every-each (view_closed k) (λ (t : ViewTable). t.rows) u.views ∙ c.views) in
        let gone : is_cut p ≡ true = or-second (k.ports p.birth) (is_cut p) dead cut in
        let never : (is_connected_to b p && (false || not true)) ≡ true = rw (handles, sent, made, told, owned, evented, gone) at is in
        absurd (never-is (is_connected_to b p) never)
      where
        never-is : (a : Bool) → (a && false) ≡ true → ⊥
        never-is true is = cc
        never-is false is = cc

paired-live : (k : Alive) (b : Birth) (p : PortRow) → port_cut k p ≡ true → is_paired_to b p ≡ true → k.ports p.birth ≡ true
paired-live k b p cut is = at p.pair refl is
  where
    at : (o : Option Birth) → p.pair ≡ o → is_the b o ≡ true → k.ports p.birth ≡ true
    at None none is = absurd (cc)
    at (Some q) some is = let it : (k.ports p.birth || false) ≡ true = rw some at cut in grind arith

ports-thin : (k : Alive) (u : World) (b : Birth) → HasLivingPorts u → Closed k u → standing_holders (thin k u) b ≡ standing_holders u b
ports-thin k u b living c =
    let aside : List PortRow → ℕ = λ ports. count (is_standing u b) ports + (count (is_sent_on b) u.messages + (count (is_made_on b) u.waits + (count (same_birth b) (all_registrations u) + (count (is_owned_by b) (all_views u) + count (same_birth b) (event_ports u))))) in
    let pairs : count (is_paired_to b) (which (port_alive k) u.ports) ≡ count (is_paired_to b) u.ports = ap length (which-where (port_cut k) (port_alive k) (is_paired_to b) (λ p cut is. paired-live k b p cut is) u.ports c.cuts) in
    let standing : count (is_standing u b) (which (port_alive k) u.ports) ≡ count (is_standing u b) u.ports = ap length (which-where (port_cut k) (port_alive k) (is_standing u b) (λ p cut is. standing-live k u b p c cut is) u.ports c.cuts) in
    let counted : List Birth → List Birth → ℕ = λ bs es. count (is_paired_to b) (which (port_alive k) u.ports) + (count (λ p. is_connected_to b p && ((not (handle_count u (port_name p.birth) == 0) || (has (is_sent_to b p) u.messages || (has (is_made_to p) u.waits || (has (same_birth p.birth) bs || (has (is_owned_by p.birth) (all_views u) || has (same_birth p.birth) es))))) || not (is_cut p))) (which (port_alive k) u.ports) + (count (is_sent_on b) u.messages + (count (is_made_on b) u.waits + (count (same_birth b) bs + (count (is_owned_by b) (all_views u) + count (same_birth b) es))))) in
    ap (λ bs. counted bs (event_ports (thin k u))) (registered-thin k u c)
    ∙ ap (counted (all_registrations u)) (events-thin k u living c)
    ∙ ap (λ n. n + aside (which (port_alive k) u.ports)) pairs
    ∙ ap (λ n. count (is_paired_to b) u.ports + (n + (count (is_sent_on b) u.messages + (count (is_made_on b) u.waits + (count (same_birth b) (all_registrations u) + (count (is_owned_by b) (all_views u) + count (same_birth b) (event_ports u))))))) standing

lives-thin : (k : Alive) (u : World) (b : Birth) → k.processes b ≡ true → Closed k u → count (lives_by (thin k u) b) (thin k u).threads ≡ count (lives_by u b) u.threads
lives-thin k u b live c =
    ap length (which-alike (lives_by (thin k u) b) (lives_by u b)
    (λ t. ap (λ e. t.live && e) (has-inside (λ p. true) (process_alive k) (homes_in b t) (λ p any is. ap k.processes (birth-same p.birth b (first-true _ _ is)) ∙ live) u.processes (every-true u.processes))) (which (thread_alive k) u.threads)
    ∙ which-where (thread_closed k) (thread_alive k) (lives_by u b) (λ t closed is. lasts k t closed (first-true _ _ is)) u.threads c.threads)

as-thin : (k : Alive) (u : World) (s : ObjectKind) (b : Birth) → alive_as k s b ≡ true → HasLivingPorts u → Closed k u → standing_as (thin k u) s b ≡ standing_as u s b
as-thin k u kind.Port b live living c = ports-thin k u b living c
as-thin k u kind.Section b live living c = refl
as-thin k u kind.Token b live living c = refl
as-thin k u kind.Process b live living c = lives-thin k u b live c
as-thin k u kind.Thread b live living c = ap length (which-where (thread_closed k) (thread_alive k) (is_life b) (λ t closed is. lasts k t closed (first-true _ _ is)) u.threads c.threads)

pub standing-thin : (k : Alive) (u : World) (o : ObjectName) → object_alive k o ≡ true → HasLivingPorts u → Closed k u → standing_count (thin k u) o ≡ standing_count u o
standing-thin k u o live living c = ap (λ n. handle_count u o + n) (as-thin k u o.kind o.birth live living c)
