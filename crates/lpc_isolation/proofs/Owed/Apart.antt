-- An outsider's call: the view loses only waits whose wakes are told.
use Rattle.lpc_model.proofs.Calls.Holding.{holds_ok}
use Rattle.lpc_model.specs.Targets.{process_target}
use Rattle.lpc_isolation.proofs.Calls.Aims.{process-whose}
use Rattle.lpc_model.proofs.Calls.Raising.{set-passes}
use Rattle.lpc_isolation.proofs.Each.Raises.{raised, raiser, send-apart}
use Rattle.lpc_isolation.proofs.Gone.Fine.{unsecured}
use Rattle.lpc_isolation.proofs.Each.Accepts.{IsAnswer, accept-apart, refuse-apart, found-answer}
use Rattle.lpc_isolation.proofs.Views.Alone.{HasFineRows}
use Rattle.lpc_isolation.proofs.Views.Apart.{are_apart, apart-append}
use Rattle.lpc_isolation.proofs.Views.Callers.{unseen-thread}
use Rattle.lpc_isolation.proofs.Each.Closes.{caller-sure, handle-good}
use Rattle.lpc_isolation.proofs.Each.Completes.{complete-apart, found-completion}
use Rattle.lpc_isolation.proofs.Each.Connects.{connect-apart, connect-fine, steps_of}
use Rattle.lpc_isolation.proofs.Each.Create.{named-apart, unnamed-apart}
use Rattle.lpc_isolation.proofs.Calls.Deeds.{AreTame, Deeds, gives, more, none, numbers, registers, any-tame, maps, unmaps, writes, acts, guarded}
use Rattle.lpc_isolation.proofs.Calls.Doomed.{doomed-part, doomed-whose, ended, steady}
use Rattle.lpc_isolation.proofs.Rows.Fair.{Fair, keeps-fair}
use Rattle.lpc_isolation.proofs.Each.Listens.{listen-apart}
use Rattle.lpc_isolation.proofs.Each.Receive.{queue-own, receivable, received-apart, replied-apart, replied-as}
use Rattle.lpc_isolation.proofs.Each.Reply.{wakes-apart}
use Rattle.lpc_isolation.proofs.Each.Requests.{request-apart}
use Rattle.lpc_isolation.proofs.Views.Seen.{handle-own}
use Rattle.lpc_isolation.proofs.Each.Sends.{Caller, datagram-apart, found-port, found-request, found-datagram}
use Rattle.lpc_isolation.proofs.Owed.Fair.{object-own, registers-own, map-own}
use Rattle.lpc_model.specs.Basics.{Basic, basic, world_after, Secures}
use Rattle.lpc_model.specs.Circle.{Group, Whose, owner}
use Rattle.lpc_model.specs.Connect.{ConnectAnswer, answer_test, allow_steps, create_steps, named_steps}
use Rattle.lpc_model.specs.Fields.{h}
use Rattle.lpc_model.specs.Found.{free_handle}
use Rattle.lpc_model.specs.Request.{receive_steps}
use Rattle.lpc_model.specs.Tests.{port_test, next_birth}
use Rattle.lpc_model.specs.World.{PortRow, ThreadRow, World}
use Rattle.std.proofs.Common.{List, Some, [], ap, false, refl, true, ℕ, ◌∙◌, ◌∷◌, ◌≡◌, ◌++◌}
use Rattle.std.proofs.lemmas.Bool.{and_from}
use Rattle.std.specs.Prelude.{Ok}
use Rattle.lpc_isolation.proofs.Each.Shared.{connect-shown}

-- of tame steps of an outsider nothing is seen
aparts : (m : Group) (c : ℕ) (u : World) (d : Whose) (w : World) (by : ThreadRow) (v : World) (bs : List Basic) → AreTame w by bs → m c ≡ true → m by.process ≡ false → Fair m c w → Fair m c v → owner v by.number ≡ Some by.process → are_apart m c u d v bs ≡ true
aparts m c u d w by v [] none c_in out f g own = refl
aparts m c u d w by v (b ∷ bs) (more (gives h r value at same) t) c_in out f g own =
    rw out (aparts m c u d w by (basic v b) bs t c_in out f (keeps-fair m c v b (object-own m c w by h r value f at same) g) own)
aparts m c u d w by v (b ∷ bs) (more (registers p value at) t) c_in out f g own =
    rw (unseen-thread m c v by.number by.process g own out) (aparts m c u d w by (basic v b) bs t c_in out f (keeps-fair m c v b (registers-own m c w v by p value f own at) g) own)
aparts m c u d w by v (b ∷ bs) (more numbers t) c_in out f g own =
    rw (unseen-thread m c v by.number by.process g own out) (aparts m c u d w by (basic v b) bs t c_in out f (keeps-fair m c v b refl g) own)
aparts m c u d w by v (b ∷ bs) (more (acts other) t) c_in out f g own =
    rw (unseen-thread m c v by.number by.process g own out) (aparts m c u d w by (basic v b) bs t c_in out f (keeps-fair m c v b refl g) own)
aparts m c u d w by v (b ∷ bs) (more (maps x s rights value at section owner) t) c_in out f g own =
    rw out (aparts m c u d w by (basic v b) bs t c_in out f (keeps-fair m c v b (map-own m c w by x s rights value c_in f at section owner) g) own)
aparts m c u d w by v (b ∷ bs) (more (unmaps base) t) c_in out f g own =
    rw out (aparts m c u d w by (basic v b) bs t c_in out f (keeps-fair m c v b refl g) own)
aparts m c u d w by v (b ∷ bs) (more (writes s place new) t) c_in out f g own = aparts m c u d w by (basic v b) bs t c_in out f (keeps-fair m c v b refl g) own

pub apart-deeds : (m : Group) (c : ℕ) (u : World) (d : Whose) (w : World) (by : ThreadRow) → Caller m c u w by → m by.process ≡ false → Deeds w by (λ _ bs. HasFineRows m c (world_after w bs) → are_apart m c u d w bs ≡ true)
apart-deeds m c u d w by k out = record {
  creates = λ _ _. unnamed-apart m c u d w by (free_handle w by.process) k.fair k.own k.here out;
  founds = λ name dacl path free _. guarded (λ bs. are_apart m c u d w (create_steps by (named_steps (next_birth by) path) (free_handle w by.process) ++ bs) ≡ true) (next_birth by) name dacl (named-apart m c u d w by path (free_handle w by.process) k.fair k.own k.here out) (λ s. apart-append m c u d w (create_steps by (named_steps (next_birth by) path) (free_handle w by.process)) (Secures (next_birth by) s ∷ []) (named-apart m c u d w by path (free_handle w by.process) k.fair k.own k.here out) (rw out refl));
  connects = λ name quality word bytes offer own q is fine. let made = unsecured m c w (steps_of w by q offer own bytes) (next_birth by) _ fine in let parts = connect-shown m c w by name word offer own q k.fair is in apart-append m c u d w (steps_of w by q offer own bytes) (allow_steps w by quality) (connect-apart m c u d w by q offer own bytes k parts.0 (connect-fine m c w by q offer own bytes made) out) (rw out refl);
  listens = λ handle p o at first _. listen-apart m c u d w by p o first k.here out (own handle p at);
  refuses = λ context bytes word a at _. refuse-apart m c u d w by bytes a k (answers bytes a at) out;
  accepts = λ context bytes word offer a views is _. accept-apart m c u d w by context (free_handle w by.process) bytes a views k (answers bytes a is.answered) out;
  completes = λ handle r at _. complete-apart m c u d w by handle (free_handle w r.wait.process) r k (found-completion m c u w by handle r k at) out;
  sends = λ handle bytes s at _.
      let is = found-datagram m c u w by handle bytes s k at in
      datagram-apart m c u d w by s.port s.queue s.message k is.named is.to out;
  asks = λ handle bytes s at _.
      let is = found-request m c u w by handle bytes s k at in
      request-apart m c u d w by s.port s.queue s.message k is.named is.to out;
  replies = λ handle bytes p b x at read fits _. rw (k.here, out) (wakes-apart m c u d w p b x k.c_in k.fair k.owned k.paths (ap m (own handle p at) ∙ out) fits);
  receives = λ handle bytes a p q replied o is first _.
      let r = receivable m c u w by handle bytes a p q replied k is in
      let p_out : m p.birth.process ≡ false = ap m r.named.process ∙ out in
      let q_out : m q.process ≡ false = ap m (queue-own m c w p q r.named.right r.queue) ∙ p_out in
      replied-as (λ rs. are_apart m c u d w (receive_steps by p q rs o) ≡ true) w p a replied r.replies
      (λ none. received-apart m c u d w by p q o first k.here q_out out)
      (λ b y some at. replied-apart m c u d w by p q y b o first k.here q_out out (wakes-apart m c u d w p b y k.c_in k.fair k.owned k.paths p_out at));
  closes = λ handle r at _.
      let here : r.object.birth.process ≡ by.process = handle-own m c w by.process handle r k.fair at in
      let g = handle-good m c by.process r here in
      and_from _ _ (rw (k.here, out) refl) (g.apart u d w (caller-sure m c u w by k) (ap m here ∙ out));
  makes_section = λ size prot _. rw (k.here, out, unseen-thread m c w by.number by.process k.fair k.own out) refl;
  impersonates = λ handle bytes own is _. rw (k.here, out, unseen-thread m c w by.number by.process k.fair k.own out) refl;
  opens_own = λ own is _. rw (k.here, out, unseen-thread m c w by.number by.process k.fair k.own out) refl;
  opens_primary = λ _. rw (k.here, out, unseen-thread m c w by.number by.process k.fair k.own out) refl;
  sets = λ target class handle pid port at found live _.
      let pid_out : m pid ≡ false = holds_ok (λ pid. m pid ≡ m by.process) (process_target w by target) pid (process-whose m c w by target k.fair) at ∙ out in
      set-passes (λ bs. are_apart m c u d w bs ≡ true) by class pid port.birth (rw (k.here, out, pid_out) refl) (rw (k.here, out, pid_out) refl);
  handles = λ code handled _. rw (k.here, out) refl;
  hears = λ code handled h is _. and_from _ _ (rw (k.here, out) refl) (send-apart m c u d w by code handled h (raiser m c u w by k) (raised m c u w by h k is) out);
  fails = λ code handled _. rw out refl;
  tames = any-tame (λ call name fields bs tame t _. rw (k.here, out) (aparts m c u d w by w bs t k.c_in out k.fair k.fair k.own));
  ends = λ call name own pid code ts doomed _.
      let p = doomed-part m c u w by own pid code ts k doomed in
      let is = p.apart d w (steady m c u w by k) (doomed-whose m c w by own pid ts k.fair doomed ∙ out) in
      ended (λ bs. are_apart m c u d w bs ≡ true) by name own pid code ts w (λ _. is) (λ _. and_from _ _ (rw (k.here, out) refl) is);
}
  where
    own : (handle : ℕ) (p : PortRow) → port_test w by handle ≡ Ok p → p.birth.process ≡ by.process
    own handle p at = (found-port m c u w by handle p k at).process

    answers : (bytes : List ℕ) (a : ConnectAnswer) → answer_test w by bytes ≡ Ok a → IsAnswer m c w by bytes a
    answers bytes a at = found-answer m c u w by bytes a k at
