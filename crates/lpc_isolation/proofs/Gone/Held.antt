-- Behind the sweep what counts for a port is what the machine whose rows never go counts.
use Rattle.std.specs.List.{sum}
use Rattle.lpc_model.specs.Memory.{is_section_of, section_load}
use Rattle.std.proofs.Common.{◌≡◌, List, [], ◌∷◌, Bool, true, false, not, Option, Some, None, refl, ap, sym, subst, ◌∙◌, arith, ℕ}
use Rattle.std.proofs.lemmas.Bool.{and_from, not-true, or_left}
use Rattle.std.specs.Prelude.{◌&&◌, ◌||◌, ◌==◌, ◌+◌, length, map}
use Rattle.lpc_base.specs.Rows.{count, every, first, has, which}
use Rattle.lpc_base.proofs.RowWords.{first-passes, every-more}
use Rattle.lpc_base.proofs.RowMaps.{every-first}
use Rattle.lpc_base.proofs.Births.{birth-same}
use Rattle.lpc_model.specs.declared.entry.ObjectKind.{ObjectKind}
use Rattle.lpc_model.specs.declared.entry.ObjectKind.TheVariants as kind
use Rattle.lpc_model.specs.World.{Birth, MessageRow, ObjectName, PortRow, WaitRow, World, SectionRow}
use Rattle.lpc_model.specs.Found.{handle_count, is_client_port, is_connected_to, is_cut, is_made_on, is_paired_to, is_port, is_sent_on, is_the, pair_of, pointer_count, port_name, port_row, same_birth, all_registrations, all_views, is_owned_by, event_ports}
use Rattle.lpc_model.specs.Sweep.{is_unheld}
use Rattle.lpc_model.specs.Linked.{HasHeldPorts, IsLinked, is_mutual, names_nothing, HasHeldSections}
use Rattle.lpc_model.specs.Standing.{NamesWhatStands, has_near_queue, is_near}
use Rattle.lpc_model.proofs.Steps.Rows.{has-found}
use Rattle.lpc_model.proofs.Held.Ports.{connected-end, found-self, is_held_aside, is_held_by, unheld-parts}
use Rattle.lpc_isolation.proofs.Gone.Served.{is_aside, is_made_to, is_sent_to, standing_count, is_standing_section, standing_load}
use Rattle.lpc_isolation.proofs.Rows.Sent.{Sent, is_sent_home, leads_home}

-- what is known of each world between two lines
pub record Held (w : World) : Type 0 where
  pub linked : IsLinked w
  pub ports : HasHeldPorts w
  pub sections : HasHeldSections w
  pub names : NamesWhatStands w
  pub sent : Sent w

-- a port that is found by its birth
module _ (w : World) (h : Held w) (b : Birth) (p : PortRow) (here : port_row w p.birth ≡ Some p) (to : is_connected_to b p ≡ true) where
  -- a message that was sent on it
  sent-to : has (is_sent_on p.birth) w.messages ≡ true → has (is_sent_to b p) w.messages ≡ true
  sent-to is = at (first (is_sent_on p.birth) w.messages) refl is
    where
      queue : (y : MessageRow) → leads_home y.queue p ≡ true → (o : Option Birth) → p.connection ≡ o → is_the b o ≡ true → (same_birth y.queue b || not (is_client_port p)) ≡ true
      queue y home None none to = absurd (cc)
      queue y home (Some q) some to =
          let it : (not (is_client_port p) || same_birth y.queue q) ≡ true = rw some at home in
          let same : b ≡ q = birth-same b q to in
          subst (λ q. (same_birth y.queue q || not (is_client_port p)) ≡ true) (sym same) (turn (is_client_port p) (same_birth y.queue q) it)
        where
          turn : (a d : Bool) → (not a || d) ≡ true → (d || not a) ≡ true
          turn a d is = grind arith

      at : (o : Option MessageRow) → first (is_sent_on p.birth) w.messages ≡ o → has (is_sent_on p.birth) w.messages ≡ true → has (is_sent_to b p) w.messages ≡ true
      at None none is = let never : false ≡ true = rw none at is in absurd (cc)
      at (Some y) some is =
          let sender = first-passes (is_sent_on p.birth) w.messages y some in
          let row : port_row w y.sender ≡ Some p = ap (port_row w) (birth-same y.sender p.birth sender) ∙ here in
          let home : is_sent_home w y ≡ true = every-first (is_sent_home w) (is_sent_on p.birth) w.messages y h.sent some in
          let leads : leads_home y.queue p ≡ true = rw row at home in
          has-found (is_sent_to b p) (is_sent_on p.birth) w.messages y some (and_from _ _ sender (queue y leads p.connection refl to))

  -- a wait that was made on it
  made-to : has (is_made_on p.birth) w.waits ≡ true → has (is_made_to p) w.waits ≡ true
  made-to is = at (first (is_made_on p.birth) w.waits) refl is
    where
      at : (o : Option WaitRow) → first (is_made_on p.birth) w.waits ≡ o → has (is_made_on p.birth) w.waits ≡ true → has (is_made_to p) w.waits ≡ true
      at None none is = let never : false ≡ true = rw none at is in absurd (cc)
      at (Some x) some is =
          let made = first-passes (is_made_on p.birth) w.waits x some in
          let row : port_row w x.port ≡ Some p = ap (port_row w) (birth-same x.port p.birth made) ∙ here in
          let there : has_near_queue w x ≡ true = every-first (has_near_queue w) (is_made_on p.birth) w.waits x h.names.queues some in
          let near : is_near x p ≡ true = rw row at there in
          has-found (is_made_to p) (is_made_on p.birth) w.waits x some (and_from _ _ made (or_left (is_near x p) (not (is_client_port p)) near))

  -- its other end
  pairs-back : has (is_paired_to p.birth) w.ports ≡ true → is_cut p ≡ false
  pairs-back is = at (first (is_paired_to p.birth) w.ports) refl is
    where
      joined : (q : PortRow) → (o : Option Birth) → q.pair ≡ o → is_the p.birth o ≡ true → is_mutual w q ≡ true → is_cut p ≡ false
      joined q None none to turned = absurd (cc)
      joined q (Some d) some to turned =
          let same : p.birth ≡ d = birth-same p.birth d to in
          let back : is_the q.birth (pair_of w d) ≡ true = rw some at turned in
          let own : is_the q.birth (pair_of w p.birth) ≡ true = subst (λ d. is_the q.birth (pair_of w d) ≡ true) (sym same) back in
          let it : is_the q.birth p.pair ≡ true = rw here at own in
          paired q p.pair refl it
        where
          paired : (q : PortRow) (o : Option Birth) → p.pair ≡ o → is_the q.birth o ≡ true → is_cut p ≡ false
          paired q None none is = absurd (cc)
          paired q (Some d) some is = rw some refl

      at : (o : Option PortRow) → first (is_paired_to p.birth) w.ports ≡ o → has (is_paired_to p.birth) w.ports ≡ true → is_cut p ≡ false
      at None none is = let never : false ≡ true = rw none at is in absurd (cc)
      at (Some q) some is = joined q q.pair refl (first-passes (is_paired_to p.birth) w.ports q some) (every-first (is_mutual w) (is_paired_to p.birth) w.ports q h.linked.pairs some)

  -- nothing is connected to it
  none-connected : has (is_connected_to p.birth) w.ports ≡ false
  none-connected = at (has (is_connected_to p.birth) w.ports) refl
    where
      unconnected : (o : Option Birth) → p.connection ≡ o → is_the b o ≡ true → names_nothing p ≡ true → ⊥
      unconnected None none to nothing = cc
      unconnected (Some q) some to nothing = let off : (is_cut p && false) ≡ true = rw some at nothing in never (is_cut p) off
        where
          never : (a : Bool) → (a && false) ≡ true → ⊥
          never true is = cc
          never false is = cc

      at : (e : Bool) → has (is_connected_to p.birth) w.ports ≡ e → e ≡ false
      at true is =
          let end = connected-end w h.linked p.birth is in
          let nothing : names_nothing p ≡ true = rw here at end in absurd (unconnected p.connection refl to nothing)
      at false off = refl

  stands : is_unheld w (port_name p.birth) ≡ false → (is_aside w b p || not (is_cut p)) ≡ true
  stands held = at (handle_count w (port_name p.birth) == 0) (has (is_sent_on p.birth) w.messages) (has (is_made_on p.birth) w.waits) (has (same_birth p.birth) (all_registrations w)) (has (is_owned_by p.birth) (all_views w)) (has (same_birth p.birth) (event_ports w)) (has (is_paired_to p.birth) w.ports) refl refl refl refl refl refl refl (held-by (unheld-parts w p.birth) held)
    where
      held-by : is_unheld w (port_name p.birth) ≡ not (is_held_aside w p.birth || is_held_by w.ports p.birth) → is_unheld w (port_name p.birth) ≡ false → (is_held_aside w p.birth || is_held_by w.ports p.birth) ≡ true
      held-by same off = turn (is_unheld w (port_name p.birth)) (is_held_aside w p.birth || is_held_by w.ports p.birth) same off
        where
          turn : (a d : Bool) → a ≡ not d → a ≡ false → d ≡ true
          turn a true same off = refl
          turn a false same off = absurd (cc)

      at : (n s t g v e q : Bool) → (handle_count w (port_name p.birth) == 0) ≡ n → has (is_sent_on p.birth) w.messages ≡ s → has (is_made_on p.birth) w.waits ≡ t → has (same_birth p.birth) (all_registrations w) ≡ g → has (is_owned_by p.birth) (all_views w) ≡ v → has (same_birth p.birth) (event_ports w) ≡ e → has (is_paired_to p.birth) w.ports ≡ q
          → (is_held_aside w p.birth || is_held_by w.ports p.birth) ≡ true → (is_aside w b p || not (is_cut p)) ≡ true
      at false s t g v e q none sent made told owned heard paired is = rw none refl
      at true true t g v e q none sent made told owned heard paired is = rw (none, sent-to sent) refl
      at true false true g v e q none sent made told owned heard paired is = rw (none, made-to made) (left (has (is_sent_to b p) w.messages) (is_cut p))
        where
          left : (a d : Bool) → ((a || true) || not d) ≡ true
          left true d = refl
          left false d = refl
      at true false false true v e q none sent made told owned heard paired is = rw (none, told) (middle (has (is_sent_to b p) w.messages) (has (is_made_to p) w.waits) (is_cut p))
        where
          middle : (a e d : Bool) → ((a || (e || true)) || not d) ≡ true
          middle true e d = refl
          middle false true d = refl
          middle false false d = refl
      at true false false false true e q none sent made told owned heard paired is = rw (none, told, owned) (last (has (is_sent_to b p) w.messages) (has (is_made_to p) w.waits) (is_cut p))
        where
          last : (a e d : Bool) → ((a || (e || true)) || not d) ≡ true
          last true e d = refl
          last false true d = refl
          last false false d = refl
      at true false false false false true q none sent made told owned heard paired is = rw (none, told, owned, heard) (last (has (is_sent_to b p) w.messages) (has (is_made_to p) w.waits) (is_cut p))
        where
          last : (a e d : Bool) → ((a || (e || true)) || not d) ≡ true
          last true e d = refl
          last false true d = refl
          last false false d = refl
      at true false false false false false true none sent made told owned heard paired is = rw (pairs-back paired) (right (is_aside w b p))
        where
          right : (a : Bool) → (a || not false) ≡ true
          right true = refl
          right false = refl
      at true false false false false false false none sent made told owned heard paired is = let never : ((false || (false || (false || (false || (false || false))))) || (false || false)) ≡ true = rw (none, sent, made, told, owned, heard, paired, none-connected) at is in absurd (cc)

-- each connected port stands
which-same : {X : Type 0} (s t : X → Bool) (xs : List X) → every (λ x. not (s x) || t x) xs ≡ true → which (λ x. s x && t x) xs ≡ which s xs
which-same s t [] all = refl
which-same s t (x ∷ xs) all = grind (arith, which-same s t xs)

all-stand : (w : World) (b : Birth) → Held w → every (λ p. not (is_connected_to b p) || (is_aside w b p || not (is_cut p))) w.ports ≡ true
all-stand w b h = found-self w.ports h.linked.births (λ p. not (is_connected_to b p) || (is_aside w b p || not (is_cut p))) (λ p here. at p here (is_connected_to b p) refl)
  where
    at : (p : PortRow) → port_row w p.birth ≡ Some p → (e : Bool) → is_connected_to b p ≡ e → (not (is_connected_to b p) || (is_aside w b p || not (is_cut p))) ≡ true
    at p here false off = rw off refl
    at p here true to =
        let held : not (is_unheld w (port_name p.birth)) ≡ true = every-first (λ p. not (is_unheld w (port_name p.birth))) (is_port p.birth) w.ports p h.ports here in
        rw to (stands w h b p here to (not-true (is_unheld w (port_name p.birth)) held))

pub held-counts : (w : World) (o : ObjectName) → Held w → standing_count w o ≡ pointer_count w o
held-counts w o h = at o.kind o.birth
  where
    at : (k : ObjectKind) (b : Birth) → standing_count w (record { kind = k; birth = b }) ≡ pointer_count w (record { kind = k; birth = b })
    at kind.Port b = ap (λ n. handle_count w (port_name b) + (count (is_paired_to b) w.ports + (n + (count (is_sent_on b) w.messages + (count (is_made_on b) w.waits + (count (same_birth b) (all_registrations w) + (count (is_owned_by b) (all_views w) + count (same_birth b) (event_ports w)))))))) (ap length (which-same (is_connected_to b) (λ p. is_aside w b p || not (is_cut p)) w.ports (all-stand w b h)))
    at e b = refl

-- each section stands
pub held-load : (w : World) (pid : ℕ) → Held w → section_load w pid ≡ standing_load w pid
held-load w pid h = ap (λ ss. sum (map (λ (s : SectionRow). s.size) ss)) (sym (which-same (is_section_of pid) (is_standing_section w) w.sections
    (every-more (is_standing_section w) (λ s. not (is_section_of pid s) || is_standing_section w s) (λ s is. last (is_section_of pid s) (is_standing_section w s) is) w.sections h.sections)))
  where
    last : (a b : Bool) → b ≡ true → (not a || b) ≡ true
    last a b is = grind arith
