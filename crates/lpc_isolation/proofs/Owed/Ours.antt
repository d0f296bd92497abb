-- A call of c that ends no thread: its steps are members', so the view changes as the world does.
use Rattle.std.proofs.lemmas.Bool.{and_from}
use Rattle.lpc_model.proofs.Sound.Reply.{reply-cases}
use Rattle.lpc_isolation.proofs.Each.Reply.{event-mark, reply-messages}
use Rattle.lpc_model.specs.Tests.{next_birth}
use Rattle.lpc_isolation.proofs.Gone.Fine.{unsecured}
use Rattle.lpc_model.specs.Connect.{allow_steps, create_steps, named_steps}
use Rattle.lpc_isolation.proofs.Rows.Fair.{Fair}
use Rattle.lpc_base.proofs.Bools.{same-number, first-true}
use Rattle.lpc_isolation.proofs.Each.Accepts.{accept-ours, c-side, refuse-ours, found-answer}
use Rattle.lpc_isolation.proofs.Views.Alone.{HasFineRows}
use Rattle.lpc_isolation.proofs.Views.Basics.{are_ours, ours-append}
use Rattle.lpc_isolation.proofs.Calls.Calm.{Own, Members, answers_alike, ends_threads, tells_alike}
use Rattle.lpc_isolation.proofs.Each.Closes.{caller-sure, handle-good}
use Rattle.lpc_isolation.proofs.Each.Connects.{connect-fine, connect-ours, steps_of}
use Rattle.lpc_isolation.proofs.Each.Create.{named-ours, unnamed-ours}
use Rattle.lpc_isolation.proofs.Calls.Deeds.{AreTame, Deeds, deeds-do, ends-some, gives, is_calm, more, none, numbers, registers, spares, any-tame, maps, unmaps, writes, acts, guarded}
use Rattle.lpc_isolation.proofs.Each.Instances.{caller, own-same}
use Rattle.lpc_isolation.proofs.Each.Listens.{c-listened-ours}
use Rattle.lpc_isolation.proofs.Each.Receive.{c-rest-ours, queue-own, receivable, receive-as, replied-as}
use Rattle.lpc_isolation.proofs.Each.Requests.{request-ours}
use Rattle.lpc_isolation.proofs.Each.Routes.{routed-in}
use Rattle.lpc_isolation.proofs.Views.Seen.{handle-own, mapped-own}
use Rattle.lpc_isolation.proofs.Each.Sends.{Caller, IsSendable, datagram-ours, found-port, found-request, found-datagram}
use Rattle.lpc_isolation.proofs.Gone.Served.{served}
use Rattle.lpc_model.proofs.Calls.Holding.{holds-more}
use Rattle.lpc_model.specs.Basics.{Basic, basic, world_after, Secures}
use Rattle.lpc_model.specs.Circle.{Group}
use Rattle.lpc_model.specs.Fields.{h}
use Rattle.lpc_model.specs.Found.{free_handle}
use Rattle.lpc_model.specs.Lines.{ScriptCall}
use Rattle.lpc_model.specs.Request.{Sendable, receive_steps, reply}
use Rattle.lpc_model.specs.World.{ThreadRow, World}
use Rattle.std.proofs.Common.{List, [], ap, refl, true, ℕ, ◌∙◌, ◌∷◌, ◌≡◌, ◌++◌}
use Rattle.std.specs.Prelude.{◌==◌}
use Rattle.lpc_isolation.proofs.Each.Shared.{connect-shown, shared-from}

are-ours : (m : Group) (c : ℕ) (w : World) (by : ThreadRow) (v : World) (bs : List Basic) → AreTame w by bs → m by.process ≡ true → Fair m c w → are_ours m v bs ≡ true
are-ours m c w by v [] none inside f = refl
are-ours m c w by v (b ∷ bs) (more (gives h r value at same) t) inside f = are-ours m c w by (basic v b) bs t inside f
are-ours m c w by v (b ∷ bs) (more (registers p value at) t) inside f = are-ours m c w by (basic v b) bs t inside f
are-ours m c w by v (b ∷ bs) (more numbers t) inside f = are-ours m c w by (basic v b) bs t inside f
are-ours m c w by v (b ∷ bs) (more (maps x s rights value at section owner) t) inside f =
    let own : m x.section.process ≡ true = ap m (mapped-own m c w by x s rights value f at section) ∙ inside in
    rw (inside, own) (are-ours m c w by (basic v b) bs t inside f)
are-ours m c w by v (b ∷ bs) (more (unmaps base) t) inside f = are-ours m c w by (basic v b) bs t inside f
are-ours m c w by v (b ∷ bs) (more (writes s place new) t) inside f = are-ours m c w by (basic v b) bs t inside f
are-ours m c w by v (b ∷ bs) (more (acts other) t) inside f = are-ours m c w by (basic v b) bs t inside f

pub ours-deeds : (m : Group) (c : ℕ) (w : World) (by : ThreadRow) → Caller m c w w by → by.process ≡ c → Deeds w by (λ call bs. spares call ≡ true → HasFineRows m c (world_after w bs) → are_ours m w bs ≡ true)
ours-deeds m c w by k mine = record {
  creates = λ _ _ _. unnamed-ours m w by (free_handle w by.process) inside;
  founds = λ name dacl path free _ _. guarded (λ bs. are_ours m w (create_steps by (named_steps (next_birth by) path) (free_handle w by.process) ++ bs) ≡ true) (next_birth by) name dacl (named-ours m w by path (free_handle w by.process) inside) (λ s. ours-append m w (create_steps by (named_steps (next_birth by) path) (free_handle w by.process)) (Secures (next_birth by) s ∷ []) (named-ours m w by path (free_handle w by.process) inside) refl);
  connects = λ name quality word bytes offer own q is _ fine. let made = unsecured m c w (steps_of w by q offer own bytes) (next_birth by) _ fine in let parts = connect-shown m c w by name word offer own q k.fair is in ours-append m w (steps_of w by q offer own bytes) (allow_steps w by quality) (connect-ours m c w w by q offer own bytes k parts.0 parts.1 (connect-fine m c w by q offer own bytes made) inside) refl;
  listens = λ handle p o at first _ _. c-listened-ours m c w by p o first k.c_in k.fair mine (found-port m c w w by handle p k at).process;
  refuses = λ context bytes word a at _ _. refuse-ours m w by a;
  accepts = λ context bytes word offer a views is _ _.
      let it = found-answer m c w w by bytes a k is.answered in
      accept-ours m c w w by context (free_handle w by.process) bytes a views k it (shared-from m c w by bytes word offer a views k.fair it.offers is) inside (c-side m c by a.wait k.c_in mine it.fair it.offered it.queue);
  completes = λ handle r at _ _. refl;
  sends = λ handle bytes s at _ _.
      let is = found-datagram m c w w by handle bytes s k at in
      datagram-ours m c w w by s.port s.queue s.message k is.named inside (queue-in handle bytes s is);
  asks = λ handle bytes s at _ _.
      let is = found-request m c w w by handle bytes s k at in
      request-ours m c w w by s.port s.queue s.message k is.named is.to inside (queue-in handle bytes s is);
  replies = λ handle bytes p b x at read fits _ _.
      let own : p.birth.process ≡ c = (found-port m c w w by handle p k at).process ∙ mine in
      reply-cases (λ r. are_ours m w (r ∷ []) ≡ true) x b refl refl (λ on. rw (event-mark m c w p b x k.c_in k.fair own fits on) refl);
  receives = λ handle bytes a p q replied o is first _ _.
      let r = receivable m c w w by handle bytes a p q replied k is in
      let queue : q.process ≡ by.process = queue-own m c w p q r.named.right r.queue ∙ r.named.process in
      replied-as (λ rs. are_ours m w (receive_steps by p q rs o) ≡ true) w p a replied r.replies
      (λ none. rw (receive-as by p q [] o) (c-rest-ours m c w w by p.birth q o refl first k.c_in k.fair mine queue))
      (λ b y some at. rw (receive-as by p q (reply y b ∷ []) o) (and_from _ _ (first-true _ _ (reply-cases (λ r. are_ours m w (r ∷ []) ≡ true) y b refl refl (λ on. rw (event-mark m c w p b y k.c_in k.fair (r.named.process ∙ mine) at on) refl))) (c-rest-ours m c w (basic w (reply y b)) by p.birth q o (reply-messages w y b) first k.c_in k.fair mine queue)));
  closes = λ handle r at _ _.
      let here : r.object.birth.process ≡ by.process = handle-own m c w by.process handle r k.fair at in
      let g = handle-good m c by.process r here in
      g.ours w w (caller-sure m c w w by k) (here ∙ mine);
  makes_section = λ size prot _ _. rw inside refl;
  impersonates = λ handle bytes own is _ _. refl;
  opens_own = λ own is _ _. rw inside refl;
  opens_primary = λ _ _. rw inside refl;
  sets = λ target class handle pid port at found live spared. absurd (cc);
  handles = λ code handled spared. absurd (cc);
  hears = λ code handled h is spared. absurd (cc);
  fails = λ code handled spared. absurd (cc);
  tames = any-tame (λ call name fields bs tame t _ _. are-ours m c w by w bs t inside k.fair);
  ends = λ call name own pid code ts doomed spared. let some = ends-some call in absurd (cc);
}
  where
    inside : m by.process ≡ true
    inside = ap m mine ∙ k.c_in

    queue-in : (handle : ℕ) (bytes : List ℕ) (s : Sendable) → IsSendable m c w by handle bytes s → m s.queue.process ≡ true
    queue-in handle bytes s is = routed-in m c w s.port s.queue is.named.right k.c_in (ap (λ b. b == c) (is.named.process ∙ mine) ∙ same-number c) is.to

pub own-call : (call : ScriptCall) → is_calm call ≡ true → Members call → Own call
own-call call is (answers_alike spared same) m c u d w by known k a used mine fine reads =
    let P : ScriptCall → List Basic → Type 0 = λ call bs. spares call ≡ true → HasFineRows m c (world_after w bs) → are_ours m w bs ≡ true in
    own-same m c u d w by call k (same m c w by known k a mine fine reads)
    (holds-more (P call) (λ bs. HasFineRows m c (world_after w bs) → are_ours m w bs ≡ true) (served w by call) (λ bs ours. ours spared)
    (deeds-do w by P (ours-deeds m c w by (caller m c w by known w a refl) mine) call is))
own-call call is (tells_alike spared own) m c u d w by known k a used mine fine reads = own m c u d w by known k a used mine fine reads
own-call call is (ends_threads own leads) m c u d w by known k a used mine fine reads = own m c u d w by known k a used mine fine reads
