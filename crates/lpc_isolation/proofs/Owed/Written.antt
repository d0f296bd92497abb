-- What a call writes to sections is told by its words: the steps of it that change bytes are these.
use Rattle.lpc_model.proofs.Calls.Raising.{set-passes}
use Rattle.lpc_model.specs.Raise.{Heard, event_begun, event_message, raise_steps}
use Rattle.lpc_model.proofs.Sound.Reply.{reply-cases}
use Rattle.lpc_model.specs.Tests.{next_birth, client_of}
use Rattle.lpc_isolation.proofs.Views.Callers.{on_ok}
use Rattle.lpc_model.specs.Ranges.{Described, described_test}
use Rattle.lpc_model.specs.Found.{view_holding, free_handle}
use Rattle.lpc_model.specs.Memory.{new_section, place_in, memory_test, write_steps}
use Rattle.std.proofs.Common.{◌≡◌, List, [], ◌∷◌, Bool, true, not, Option, Some, None, refl, arith, ℕ, sym, ◌∙◌, ◌++◌}
use Rattle.std.specs.Prelude.{Ok, length}
use Rattle.lpc_base.specs.Rows.{every, which, given}
use Rattle.lpc_base.proofs.RowWords.{every-append, every-more}
use Rattle.lpc_message.specs.declared.kind.TheConstants.{DATAGRAM, REQUEST}
use Rattle.lpc_model.specs.declared.message.Message.{Message}
use Rattle.lpc_model.specs.World.{MessageRow, PortRow, ThreadRow, World, ViewRow}
use Rattle.lpc_model.specs.Basics.{AddsSection, Basic, Frees, Writes, world_after}
use Rattle.lpc_model.specs.Close.{close_handle, close_steps}
use Rattle.lpc_model.specs.Connect.{client_port, connect_start, connect_steps, connection_request, listen_steps, accept_steps, allow_steps, create_steps, named_steps}
use Rattle.lpc_model.specs.Entering.{enter, received_steps, row_of}
use Rattle.lpc_model.specs.Lines.{ScriptCall, create_section, write_virtual_memory, write_request_data}
use Rattle.lpc_model.specs.Request.{datagram_start, datagram_steps, given_reply, receive_steps, reply_test, request_start, request_steps, sent_by}
use Rattle.lpc_model.proofs.Calls.Holding.{Holds, bind_holds, holds_ok}
use Rattle.lpc_model.proofs.Calls.Outcomes.{Outcomes, EndCall, end_call, of_process, of_thread}
use Rattle.lpc_model.proofs.Steps.Ending.{answered_end, ending-enter, ending-receipt, handle-ending, is_ending, steps-end}
use Rattle.lpc_isolation.proofs.Calls.Deeds.{served-does, memory-held, guarded}
use Rattle.lpc_isolation.proofs.Gone.Served.{served}
use Rattle.lpc_isolation.proofs.Views.Bytes.{is_byte_step}
use Rattle.lpc_model.specs.Offers.{mapped}
use Rattle.lpc_model.proofs.Calls.Sharing.{mapped-pass, shared-pass}

-- what is written through a described range
abbrev pub written_range : List ℕ → Described → List Basic
written_range new d = Writes d.view.section (place_in d.view d.address) new ∷ []

-- what a call writes where it is served
abbrev pub written_by : World → ThreadRow → ScriptCall → List Basic
written_by w by (create_section size prot) = AddsSection (new_section by size prot) ∷ []
written_by w by (write_virtual_memory address new) = given (view_holding w by.process address (length new)) (λ v. Writes v.section (place_in v address) new ∷ [])
written_by w by (write_request_data handle bytes index new) = on_ok (described_test w by handle bytes index (length new)) (written_range new)
written_by w by call = []

-- Steps that change no bytes
abbrev is_blank : Basic → Bool
is_blank b = not (is_byte_step b)

abbrev AreBlank : List Basic → Type 0
AreBlank bs = every is_blank bs ≡ true

blank-none : (bs : List Basic) → AreBlank bs → which is_byte_step bs ≡ []
blank-none [] all = refl
blank-none (b ∷ bs) all = grind (arith, blank-none bs)

ending-blank : (b : Basic) → is_ending b ≡ true → is_blank b ≡ true
ending-blank (AddsSection s) is = absurd (cc)
ending-blank (Writes b place new) is = absurd (cc)
ending-blank (Frees o) is = absurd (cc)
ending-blank b is = refl

enter-blank : (m : MessageRow) (v : World) → AreBlank (enter m v)
enter-blank m v = every-more is_ending is_blank ending-blank (enter m v) (ending-enter m v)

taken-blank : (m : MessageRow) → AreBlank (received_steps m)
taken-blank m = every-more is_ending is_blank ending-blank (received_steps m) (ending-receipt m)

given-blank : (w : World) (port : PortRow) (o : Option Message) → Holds AreBlank (given_reply w port o)
given-blank w port None = refl
given-blank w port (Some m) = bind_holds (reply_test w port m) _ AreBlank (λ x _. reply-cases (λ r. AreBlank (r ∷ [])) x m refl refl (λ _. refl))

-- Calls
module _ (w : World) (by : ThreadRow) where
  written-outcomes : Outcomes w by (λ call bs. which is_byte_step bs ≡ written_by w by call)
  written-outcomes = record {
    creates = λ _. refl;
    founds = λ name dacl path free. guarded (λ bs. which is_byte_step (create_steps by (named_steps (next_birth by) path) (free_handle w by.process) ++ bs) ≡ []) (next_birth by) name dacl (refl) (λ s. refl);
    connects = λ name quality word bytes offer own q is.
        let y = connection_request by offer bytes in
        let es = enter (row_of q (client_port by q) y) (world_after w (connect_start by q offer own y)) in
        blank-none (connect_steps by q offer own y w ++ allow_steps w by quality) (every-append is_blank (connect_steps by q offer own y w) (allow_steps w by quality) (every-append is_blank es (mapped by.process own) (enter-blank (row_of q (client_port by q) y) (world_after w (connect_start by q offer own y))) (mapped-pass is_blank by.process (λ _. refl) own)) refl);
    listens = λ handle port m l at. blank-none (listen_steps by port.birth (Some m)) (taken-blank m);
    awaits_connect = λ handle port l at. refl;
    refuses = λ context bytes word a at. refl;
    accepts = λ context bytes word offer a views is. blank-none (accept_steps by context (free_handle w by.process) a views) (shared-pass is_blank by a.wait (λ _. refl) (λ _. refl) views);
    completes = λ handle r at. refl;
    sends = λ handle bytes s at. let y = sent_by by DATAGRAM s.message in blank-none (datagram_steps by s.port s.queue y w) (enter-blank (row_of s.queue s.port y) (world_after w (datagram_start by)));
    asks = λ handle bytes s at. let y = sent_by by REQUEST s.message in blank-none (request_steps by s.port s.queue y w) (enter-blank (row_of s.queue s.port y) (world_after w (request_start by s.port.birth s.queue y)));
    replies = λ handle bytes port m x at read fits. reply-cases (λ r. which is_byte_step (r ∷ []) ≡ []) x m refl refl (λ _. refl);
    receives = λ handle bytes a port queue replied m r at. blank-none (receive_steps by port queue replied (Some m)) (every-append is_blank replied _ (replied-blank port a replied r.reply_made) (taken-blank m));
    awaits_message = λ handle bytes a port queue replied r at. blank-none (receive_steps by port queue replied None) (every-append is_blank replied _ (replied-blank port a replied r.reply_made) refl);
    registers = λ handle port at new few. refl;
    repeats = λ handle port at known. refl;
    closes = λ handle r at. blank-none (close_steps by r w) (every-more is_ending is_blank ending-blank (close_handle by.process r w) (handle-ending by.process r w));
    duplicates = λ handle access r at. refl;
    queries = λ handle r at. refl;
    spawns = λ pid tid new unused. refl;
    starts = λ target tid pid at lives unused. refl;
    makes_section = λ size prot asked. refl;
    impersonates = λ handle bytes own is. refl;
    reverts = λ class. refl;
    opens_own = λ own is. refl;
    opens_primary = refl;
    asks_token = λ handle class t field at told. refl;
    maps_view = λ handle offset size prot s rounded base is. refl;
    unmaps_view = λ address v at. refl;
    reads_memory = λ address n v at. refl;
    writes_memory = λ address new v at may. wrote address new v at;
    reads_range = λ handle bytes index n d at. refl;
    writes_range = λ handle bytes index new d at may. rw at refl;
    sets = λ target class handle pid port at found live. set-passes (λ bs. which is_byte_step bs ≡ []) by class pid port.birth refl refl;
    handles = λ code handled. refl;
    hears = λ code handled h is. blank-none (raise_steps by code handled (Heard h) w) (enter-blank (row_of h.queue h.port (event_message (client_of by) by.next_identifier code h.chance)) (world_after w (event_begun by code handled h)));
    fails = λ code handled. refl;
    ends = λ call name own pid code ts doomed. let bs = answered_end by name own pid code ts w in blank-none bs (every-more is_ending is_blank ending-blank bs (steps-end w by name own pid code ts)) ∙ sym (ends-write call);
  }
    where
      replied-blank : (port : PortRow) (a : Option Message) (replied : List Basic) → given_reply w port a ≡ Ok replied → AreBlank replied
      replied-blank port a replied at = holds_ok AreBlank (given_reply w port a) replied (given-blank w port a) at

      wrote : (address : ℕ) (new : List ℕ) (v : ViewRow) → memory_test w by address (length new) ≡ Ok v → which is_byte_step (write_steps by address new v) ≡ written_by w by (write_virtual_memory address new)
      wrote address new v at =
          let found : view_holding w by.process address (length new) ≡ Some v = holds_ok (λ v. view_holding w by.process address (length new) ≡ Some v) (memory_test w by address (length new)) v (memory-held w by address (length new)) at in
          rw found refl

      ends-write : (call : EndCall) → written_by w by (end_call call) ≡ []
      ends-write (of_thread target code) = refl
      ends-write (of_process target code) = refl

  pub writes : (call : ScriptCall) → Holds (λ bs. which is_byte_step bs ≡ written_by w by call) (served w by call)
  writes call = served-does w by (λ call bs. which is_byte_step bs ≡ written_by w by call) written-outcomes (λ handle r fields at. refl) call
