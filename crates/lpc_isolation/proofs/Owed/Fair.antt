-- A call's steps keep the rows fair.
use Rattle.lpc_model.proofs.Sound.Reply.{reply-cases}
use Rattle.lpc_model.specs.Targets.{process_target}
use Rattle.lpc_isolation.proofs.Calls.Aims.{process-whose}
use Rattle.lpc_model.proofs.Calls.Raising.{set-passes}
use Rattle.lpc_isolation.proofs.Each.Raises.{raised, raiser, send-fair}
use Rattle.lpc_isolation.proofs.Gone.Fine.{unsecured}
use Rattle.lpc_model.specs.Connect.{allow_steps, create_steps, named_steps}
use Rattle.lpc_model.specs.Memory.{section_test}
use Rattle.lpc_base.proofs.Bools.{same-number}
use Rattle.lpc_isolation.proofs.Each.Accepts.{accept-fair, found-answer}
use Rattle.lpc_isolation.proofs.Views.Alone.{HasFineRows}
use Rattle.lpc_isolation.proofs.Each.Closes.{caller-sure, handle-good}
use Rattle.lpc_isolation.proofs.Each.Completes.{complete-fair, found-completion}
use Rattle.lpc_isolation.proofs.Each.Connects.{connect-fair, connect-fine, steps_of}
use Rattle.lpc_isolation.proofs.Each.Create.{named-fair, unnamed-fair}
use Rattle.lpc_isolation.proofs.Calls.Deeds.{AreTame, Deeds, gives, more, none, numbers, registers, any-tame, maps, unmaps, writes, acts, guarded}
use Rattle.lpc_isolation.proofs.Calls.Doomed.{doomed-part, ended, steady}
use Rattle.lpc_isolation.proofs.Rows.Fair.{implies, Fair, are_fair, is_fair_step, is_own, owner-used, is_fair_view, fair-append, are_together, together-of}
use Rattle.lpc_isolation.proofs.Each.Listens.{listen-fair}
use Rattle.lpc_isolation.proofs.Each.Receive.{queue-own, receivable, received-fair, replied-as, replied-fair}
use Rattle.lpc_isolation.proofs.Each.Requests.{request-fair}
use Rattle.lpc_isolation.proofs.Views.Seen.{handle-own, port-own, mapped-own}
use Rattle.lpc_isolation.proofs.Each.Sends.{Caller, datagram-fair, found-datagram, found-port, found-request}
use Rattle.lpc_model.proofs.Calls.Holding.{holds_ok}
use Rattle.lpc_model.specs.Basics.{Basic, Registers, basic, world_after, Secures}
use Rattle.lpc_model.specs.Circle.{Group, owner}
use Rattle.lpc_model.specs.Found.{free_handle, handle_at}
use Rattle.lpc_model.specs.Request.{receive_steps}
use Rattle.lpc_model.specs.Tests.{port_test, next_birth}
use Rattle.lpc_model.specs.World.{HandleRow, ObjectName, PortRow, ThreadRow, World, SectionRow, ViewRow}
use Rattle.std.proofs.Common.{List, Some, [], ap, refl, subst, sym, true, ℕ, ◌∙◌, ◌∷◌, ◌≡◌, None, Bool, false, ◌++◌}
use Rattle.std.proofs.lemmas.Bool.{and_from, eqb-true}
use Rattle.std.specs.Prelude.{Ok, ◌==◌}
use Rattle.lpc_isolation.proofs.Each.Shared.{connect-shown, shared-from}

-- what tame steps name is of the caller's process
pub object-own : (m : Group) (c : ℕ) (w : World) (by : ThreadRow) (h r : HandleRow) (value : ℕ) → Fair m c w → handle_at w by.process value ≡ Some r → r.object ≡ h.object → is_own by.process h ≡ true
object-own m c w by h r value f at same =
    let own : h.object.birth.process ≡ by.process = subst (λ (o : ObjectName). o.birth.process ≡ by.process) same (handle-own m c w by.process value r f at) in rw (own, same-number by.process) refl

pub registers-own : (m : Group) (c : ℕ) (w v : World) (by : ThreadRow) (p : PortRow) (value : ℕ) → Fair m c w → owner v by.number ≡ Some by.process → port_test w by value ≡ Ok p → is_fair_step m c v (Registers by.number p.birth) ≡ true
registers-own m c w v by p value f own at = owner-used v by.number p.birth.process (own ∙ ap (λ n. Some n) (sym (holds_ok _ (port_test w by value) p (port-own m c w by value f) at).0))

-- a view of a section of the caller's process
pub map-own : (m : Group) (c : ℕ) (w : World) (by : ThreadRow) (v : ViewRow) (s : SectionRow) (rights value : ℕ) → m c ≡ true → Fair m c w → section_test w by rights value ≡ Ok s → v.section ≡ s.birth → v.owner ≡ None → is_fair_view m c by.process v ≡ true
map-own m c w by v s rights value c_in f at section owner =
    let own : v.section.process ≡ by.process = mapped-own m c w by v s rights value f at section in
    and_from _ _ (implied (by.process == c) refl refl own) (and_from _ _ (implied (by.process == c) refl own refl) (rw owner refl))
  where
    implied : (e : Bool) → (by.process == c) ≡ e → {a b : ℕ} → a ≡ by.process → b ≡ by.process → implies (a == c) (m b) ≡ true
    implied true is {a} {b} one two = let inside : m b ≡ true = ap m (two ∙ eqb-true by.process c is) ∙ c_in in rw (one, is, inside) refl
    implied false off {a} {b} one two = rw (one, off) refl

fairs : (m : Group) (c : ℕ) (w : World) (by : ThreadRow) (v : World) (bs : List Basic) → AreTame w by bs → m c ≡ true → Fair m c w → owner v by.number ≡ Some by.process → are_fair m c v bs ≡ true
fairs m c w by v [] none c_in f own = refl
fairs m c w by v (b ∷ bs) (more (gives h r value at same) t) c_in f own = and_from _ _ (object-own m c w by h r value f at same) (fairs m c w by (basic v b) bs t c_in f own)
fairs m c w by v (b ∷ bs) (more (registers p value at) t) c_in f own = and_from _ _ (registers-own m c w v by p value f own at) (fairs m c w by (basic v b) bs t c_in f own)
fairs m c w by v (b ∷ bs) (more numbers t) c_in f own = fairs m c w by (basic v b) bs t c_in f own
fairs m c w by v (b ∷ bs) (more (maps x s rights value at section owner) t) c_in f own = and_from _ _ (map-own m c w by x s rights value c_in f at section owner) (fairs m c w by (basic v b) bs t c_in f own)
fairs m c w by v (b ∷ bs) (more (unmaps base) t) c_in f own = fairs m c w by (basic v b) bs t c_in f own
fairs m c w by v (b ∷ bs) (more (writes s place new) t) c_in f own = fairs m c w by (basic v b) bs t c_in f own
fairs m c w by v (b ∷ bs) (more (acts other) t) c_in f own = fairs m c w by (basic v b) bs t c_in f own

-- Each deed
pub fair-deeds : (m : Group) (c : ℕ) (w : World) (by : ThreadRow) → Caller m c w w by → Deeds w by (λ _ bs. HasFineRows m c (world_after w bs) → are_fair m c w bs ≡ true)
fair-deeds m c w by k = record {
  creates = λ _ _. unnamed-fair m c w by (free_handle w by.process);
  founds = λ name dacl path free _. guarded (λ bs. are_fair m c w (create_steps by (named_steps (next_birth by) path) (free_handle w by.process) ++ bs) ≡ true) (next_birth by) name dacl (named-fair m c w by path (free_handle w by.process)) (λ s. fair-append m c w (create_steps by (named_steps (next_birth by) path) (free_handle w by.process)) (Secures (next_birth by) s ∷ []) (named-fair m c w by path (free_handle w by.process)) refl);
  connects = λ name quality word bytes offer own q is fine. let made = unsecured m c w (steps_of w by q offer own bytes) (next_birth by) _ fine in let parts = connect-shown m c w by name word offer own q k.fair is in fair-append m c w (steps_of w by q offer own bytes) (allow_steps w by quality) (connect-fair m c w w by q offer own bytes k parts.0 parts.1 (connect-fine m c w by q offer own bytes made)) refl;
  listens = λ handle p o at first _. let named = found-port m c w w by handle p k at in listen-fair m c w by p o k.c_in named.process;
  refuses = λ context bytes word a at _. refl;
  accepts = λ context bytes word offer a views is _. let it = found-answer m c w w by bytes a k is.answered in accept-fair m c w w by context (free_handle w by.process) bytes a views k it (shared-from m c w by bytes word offer a views k.fair it.offers is);
  completes = λ handle r at _. complete-fair m c w by handle (free_handle w r.wait.process) r k.fair (found-completion m c w w by handle r k at);
  sends = λ handle bytes s at _. let is = found-datagram m c w w by handle bytes s k at in datagram-fair m c w by s.port s.queue s.message k.c_in k.own is.named is.to;
  asks = λ handle bytes s at _. let is = found-request m c w w by handle bytes s k at in request-fair m c w w by s.port s.queue s.message k is.named is.to;
  replies = λ handle bytes p b x at read fits _. reply-cases (λ r. are_fair m c w (r ∷ []) ≡ true) x b refl refl (λ _. refl);
  receives = λ handle bytes a p q replied o is first _.
      let r = receivable m c w w by handle bytes a p q replied k is in
      let queue : q.process ≡ by.process = queue-own m c w p q r.named.right r.queue ∙ r.named.process in
      replied-as (λ rs. are_fair m c w (receive_steps by p q rs o) ≡ true) w p a replied r.replies
      (λ none. received-fair m c w by p q o k.c_in r.named.process queue)
      (λ b y some at. replied-fair m c w by p q y b o k.c_in r.named.process queue);
  closes = λ handle r at _. let g = handle-good m c by.process r (handle-own m c w by.process handle r k.fair at) in g.fair w w (caller-sure m c w w by k);
  makes_section = λ size prot _. rw (same-number by.process) refl;
  impersonates = λ handle bytes own is _. refl;
  opens_own = λ own is _. rw (same-number by.process) refl;
  opens_primary = λ _. rw (same-number by.process) refl;
  sets = λ target class handle pid port at found live _.
      let side : m pid ≡ m by.process = holds_ok (λ pid. m pid ≡ m by.process) (process_target w by target) pid (process-whose m c w by target k.fair) at in
      let named = found-port m c w w by handle port k found in
      let is : are_together m pid port.birth.process ≡ true = together-of m pid port.birth.process (side ∙ sym (ap m named.process)) in
      set-passes (λ bs. are_fair m c w bs ≡ true) by class pid port.birth (and_from _ _ is refl) (and_from _ _ is refl);
  handles = λ code handled _. refl;
  hears = λ code handled h is _. send-fair m c w w by code handled h (raiser m c w w by k) (raised m c w w by h k is);
  fails = λ code handled _. refl;
  tames = any-tame (λ call name fields bs tame t _. fairs m c w by w bs t k.c_in k.fair k.own);
  ends = λ call name own pid code ts doomed _.
      let p = doomed-part m c w w by own pid code ts k doomed in
      let is = p.fair w (steady m c w w by k) in ended (λ bs. are_fair m c w bs ≡ true) by name own pid code ts w (λ _. is) (λ _. is);
}
