-- A call of another member than c that ends no thread: the view and what c is told follow from the view and the answer.
use Rattle.lpc_model.specs.Impersonation.{impersonate_steps, token_steps, held_content, process_content, revert_steps}
use Rattle.lpc_isolation.proofs.Gone.Fine.{unsecured}
use Rattle.lpc_model.specs.Memory.{map_steps, mapped_view, mapping_right, section_steps, unmap_steps}
use Rattle.lpc_isolation.proofs.Each.Mappings.{mapping-ok, same-map, unmapped-same}
use Rattle.lpc_isolation.proofs.Views.Places.{holding-view}
use Rattle.lpc_base.specs.Rows.{when}
use Rattle.lpc_base.specs.declared.status.TheConstants.{SUCCESS}
use Rattle.lpc_isolation.proofs.Each.Accepts.{accept-led, found-answer, refuse-led}
use Rattle.lpc_isolation.proofs.Views.Alone.{HasFineRows}
use Rattle.lpc_isolation.proofs.Views.Basics.{are_ours, ours-append}
use Rattle.lpc_isolation.proofs.Views.Callers.{led-same}
use Rattle.lpc_isolation.proofs.Calls.Calm.{Leads, Members, answers_alike, ends_threads, tells_alike}
use Rattle.lpc_isolation.proofs.Each.Closes.{caller-sure, handle-good, tells-led}
use Rattle.lpc_isolation.proofs.Each.Completes.{complete-led, found-completion}
use Rattle.lpc_isolation.proofs.Each.Connects.{connect-fine, connect-led, making-view, steps_of}
use Rattle.lpc_isolation.proofs.Each.Create.{named-ours, unnamed-ours}
use Rattle.lpc_isolation.proofs.Calls.Deeds.{Deeds, deeds-do, ends-some, is_calm, spares, guarded}
use Rattle.lpc_isolation.proofs.Each.Instances.{At, Leading, caller}
use Rattle.lpc_isolation.proofs.Each.Listens.{listen-led}
use Rattle.lpc_isolation.proofs.Each.Receive.{received-as-led}
use Rattle.lpc_isolation.proofs.Each.Reply.{answered-fit, led-wakes}
use Rattle.lpc_isolation.proofs.Each.Requests.{request-led}
use Rattle.lpc_isolation.proofs.Views.Seen.{free-view, handle-own, handle-view, port_test-view, mapped-own, token-view}
use Rattle.lpc_isolation.proofs.Each.Sends.{Caller, datagram-led, found-datagram, found-request}
use Rattle.lpc_isolation.proofs.Gone.Served.{served}
use Rattle.lpc_isolation.proofs.Views.View.{view}
use Rattle.lpc_model.proofs.Calls.Holding.{holds-more}
use Rattle.lpc_model.specs.Basics.{Basic, Registers, Tells, world_after, Secures}
use Rattle.lpc_model.specs.Circle.{Group, Whose}
use Rattle.lpc_model.specs.Close.{close_handle}
use Rattle.lpc_model.specs.Connect.{create_steps, making, named_steps, unnamed_steps, guard_steps}
use Rattle.lpc_model.specs.Counts.{asked, duplicate_steps}
use Rattle.lpc_model.specs.Found.{free_handle}
use Rattle.lpc_model.specs.Lines.{ScriptCall}
use Rattle.lpc_model.specs.Register.{is_registered, register_steps}
use Rattle.lpc_model.specs.Tests.{next_birth}
use Rattle.lpc_model.specs.Then.{◌>>=◌}
use Rattle.lpc_model.specs.World.{Birth, ThreadRow, World}
use Rattle.lpc_model.specs.declared.entry.CallName.TheVariants.{NtClose, NtRegisterThreadTerminatePort, NtOpenThreadToken, NtOpenProcessToken}
use Rattle.lpc_model.specs.declared.entry.Entry.{Entry}
use Rattle.lpc_model.specs.declared.entry.Entry.TheVariants.{Answer}
use Rattle.std.proofs.Common.{Bool, List, Some, [], ap, false, not, refl, true, ℕ, ◌∙◌, ◌∷◌, ◌≡◌, ◌++◌}
use Rattle.std.specs.Prelude.{Ok, ◌==◌}

register-ours : (m : Group) (w : World) (by : ThreadRow) (e : Entry) (b : Birth) (new : Bool) → are_ours m w (Tells e ∷ when new (Registers by.number b ∷ [])) ≡ true
register-ours m w by e b true = refl
register-ours m w by e b false = refl

module _ (m : Group) (c : ℕ) (u : World) (d : Whose) (w : World) (by : ThreadRow) (known : List ℕ → Birth) (a : At m c w by known) (used : u.used_threads ≡ w.used_threads) (by_in : m by.process ≡ true) (other : (by.process == c) ≡ false) where
  k : Caller m c u w by
  k = caller m c w by known u a used

  pub leads-deeds : Deeds w by (λ call bs. spares call ≡ true → HasFineRows m c (world_after w bs) → Leading m c u d w by known call bs)
  leads-deeds = record {
    creates = λ _ _ _. rw (free-view m w by.process by_in) (led-same m c u d w (create_steps by (unnamed_steps (next_birth by)) (free_handle w by.process)) (unnamed-ours m w by (free_handle w by.process) by_in));
    founds = λ name dacl path free _ _.
        let made : making w (next_birth by) (Some name) ≡ Ok (named_steps (next_birth by) path) = ap (λ r. r >>= (λ path. Ok (named_steps (next_birth by) path))) free in
        rw (making-view m w (next_birth by) (Some name) (named_steps (next_birth by) path) a.names made, free-view m w by.process by_in)
        (led-same m c u d w (create_steps by (named_steps (next_birth by) path) (free_handle w by.process) ++ guard_steps (next_birth by) (Some name) dacl)
        (guarded (λ bs. are_ours m w (create_steps by (named_steps (next_birth by) path) (free_handle w by.process) ++ bs) ≡ true) (next_birth by) name dacl (named-ours m w by path (free_handle w by.process) by_in) (λ s. ours-append m w (create_steps by (named_steps (next_birth by) path) (free_handle w by.process)) (Secures (next_birth by) s ∷ []) (named-ours m w by path (free_handle w by.process) by_in) refl)));
    connects = λ name quality word bytes offer own q is _ fine. connect-led m c u d w by name quality word bytes offer own q k by_in (connect-fine m c w by q offer own bytes (unsecured m c w (steps_of w by q offer own bytes) (next_birth by) _ fine)) is;
    listens = λ handle p o at first _ _. listen-led m c u d w by handle p o first k a.readable by_in other at;
    refuses = λ context bytes word x at _ _. refuse-led m c u d w by bytes x k (found-answer m c u w by bytes x k at) by_in other;
    accepts = λ context bytes word offer x views is _ _. accept-led m c u d w by context bytes word offer x views (known bytes) (a.knows bytes x by_in is.answered) k (found-answer m c u w by bytes x k is.answered) is by_in other;
    completes = λ handle r at _ _. complete-led m c u d w by handle r k (found-completion m c u w by handle r k at) by_in other;
    sends = λ handle bytes s at _ _. datagram-led m c u d w by handle bytes s k (found-datagram m c u w by handle bytes s k at) by_in;
    asks = λ handle bytes s at _ _. request-led m c u d w by handle bytes s k (found-request m c u w by handle bytes s k at) by_in;
    replies = λ handle bytes p b x at read fits _ _. rw read (led-wakes m c u d w by p.birth b x k.c_in k.fair k.owned k.once k.here other (answered-fit w p b x fits));
    receives = λ handle bytes b p q replied o is first _ _. received-as-led m c u d w by handle bytes b p q replied o first k a.readable by_in other is;
    closes = λ handle r at _ _.
        let own : r.object.birth.process ≡ by.process = handle-own m c w by.process handle r k.fair at in
        let g = handle-good m c by.process r own in
        rw (handle-view m w by.process handle by_in, at) (tells-led m c u d w (Answer by.number NtClose SUCCESS []) (close_handle by.process r w) (close_handle by.process r (view m w)) (g.led u d w (caller-sure m c u w by k) (ap m own ∙ by_in)));
    makes_section = λ size prot _ _. rw (free-view m w by.process by_in) (led-same m c u d w (section_steps by size prot (free_handle w by.process)) (rw by_in refl));
    impersonates = λ handle bytes own is _ _. led-same m c u d w (impersonate_steps by own) refl;
    opens_own = λ own is _ _. rw (is, free-view m w by.process by_in) (led-same m c u d w (token_steps by NtOpenThreadToken (held_content own) (free_handle w by.process)) (rw by_in refl));
    opens_primary = λ _ _. rw (token-view m w by.process by_in, free-view m w by.process by_in) (led-same m c u d w (token_steps by NtOpenProcessToken (process_content w by) (free_handle w by.process)) (rw by_in refl));
    sets = λ target class handle pid port at found live spared. absurd (cc);
    handles = λ code handled spared. absurd (cc);
    hears = λ code handled h is spared. absurd (cc);
    fails = λ code handled spared. absurd (cc);
    tames = record {
      of_register = λ handle p at _ _.
          rw (port_test-view m c w by handle k.fair by_in, at) (led-same m c u d w (register_steps by p.birth) (register-ours m w by (Answer by.number NtRegisterThreadTerminatePort SUCCESS []) p.birth (not (is_registered p.birth by))));
      of_duplicate = λ handle access r at _ _. rw (handle-view m w by.process handle by_in, at, free-view m w by.process by_in) (led-same m c u d w (duplicate_steps by (free_handle w by.process) r (asked r access)) refl);
      of_revert = λ class _ _. led-same m c u d w (revert_steps by) refl;
      of_ask = λ handle class t field at told _ _. record { world = refl; told = rw (k.here, other) refl };
      of_query = λ handle r fields at _ _. record { world = refl; told = rw (k.here, other) refl };
      of_map = λ handle offset size prot s rounded base is _ _.
          rw (same-map m c w by handle offset size prot k.fair by_in, mapping-ok w by handle offset size prot s rounded base is)
          (led-same m c u d w (map_steps by (mapped_view s offset rounded prot base)) (rw (by_in, ap m (mapped-own m c w by (mapped_view s offset rounded prot base) s (mapping_right prot) handle k.fair is.section refl) ∙ by_in) refl));
      of_unmap = λ address v at _ _.
          rw (holding-view m w by.process address 1 by_in, at, unmapped-same m by v)
          (led-same m c u d w (unmap_steps by v) refl);
      of_read = λ address n v at _ _. record { world = refl; told = rw (k.here, other) refl };
      of_write = λ address new v at may _ _. record { world = refl; told = rw (k.here, other) refl };
      of_read_range = λ handle bytes index n x at _ _. record { world = refl; told = rw (k.here, other) refl };
      of_write_range = λ handle bytes index new x at may _ _. record { world = refl; told = rw (k.here, other) refl };
    };
    ends = λ call name own pid code ts doomed spared. let some = ends-some call in absurd (cc);
  }

leads-spared : (call : ScriptCall) → is_calm call ≡ true → spares call ≡ true → Leads call
leads-spared call is spared m c u d w by known a used by_in other =
    let P : ScriptCall → List Basic → Type 0 = λ call bs. spares call ≡ true → HasFineRows m c (world_after w bs) → Leading m c u d w by known call bs in
    holds-more (P call) (λ bs. HasFineRows m c (world_after w bs) → Leading m c u d w by known call bs) (served w by call) (λ bs leads. leads spared)
    (deeds-do w by P (leads-deeds m c u d w by known a used by_in other) call is)

pub leads-call : (call : ScriptCall) → is_calm call ≡ true → Members call → Leads call
leads-call call is (answers_alike spared same) m c u d w by known a used by_in other = leads-spared call is spared m c u d w by known a used by_in other
leads-call call is (tells_alike spared own) m c u d w by known a used by_in other = leads-spared call is spared m c u d w by known a used by_in other
leads-call call is (ends_threads own leads) m c u d w by known a used by_in other = leads m c u d w by known a used by_in other
