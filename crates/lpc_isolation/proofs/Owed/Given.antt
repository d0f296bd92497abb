-- No call but one lets a thread act for its client.
use Rattle.lpc_model.proofs.Calls.Raising.{set-passes}
use Rattle.lpc_model.specs.Raise.{Heard, event_begun, event_message, raise_steps}
use Rattle.lpc_model.proofs.Sound.Reply.{reply-cases}
use Rattle.lpc_base.proofs.Bools.{second-true}
use Rattle.lpc_model.specs.Circle.{gave, given_in}
use Rattle.lpc_model.specs.Tests.{next_birth, client_of}
use Rattle.lpc_model.specs.Found.{free_handle}
use Rattle.std.proofs.Common.{◌≡◌, List, [], ◌∷◌, Bool, true, Option, Some, None, refl, ◌++◌, false}
use Rattle.std.specs.Prelude.{Ok, ◌&&◌}
use Rattle.lpc_base.specs.Rows.{every}
use Rattle.lpc_base.proofs.RowWords.{every-append, every-more}
use Rattle.lpc_message.specs.declared.kind.TheConstants.{DATAGRAM, REQUEST}
use Rattle.lpc_model.specs.declared.message.Message.{Message}
use Rattle.lpc_model.specs.World.{MessageRow, PortRow, ThreadRow, World, Impersonation}
use Rattle.lpc_model.specs.Basics.{Basic, world_after, Acts}
use Rattle.lpc_model.specs.Close.{close_handle, close_steps}
use Rattle.lpc_model.specs.Connect.{client_port, connect_start, connect_steps, connection_request, listen_steps, accept_steps, allow_steps, create_steps, named_steps}
use Rattle.lpc_model.specs.Entering.{enter, received_steps, row_of}
use Rattle.lpc_model.specs.Lines.{ScriptCall, impersonate_client_of_port}
use Rattle.lpc_model.specs.Request.{datagram_start, datagram_steps, given_reply, receive_steps, reply_test, request_start, request_steps, sent_by}
use Rattle.lpc_model.proofs.Calls.Holding.{Holds, bind_holds, holds_ok, holds-more}
use Rattle.lpc_model.proofs.Calls.Outcomes.{Outcomes}
use Rattle.lpc_model.proofs.Steps.Ending.{answered_end, ending-enter, ending-receipt, handle-ending, is_ending, steps-end}
use Rattle.lpc_isolation.proofs.Calls.Deeds.{served-does, guarded}
use Rattle.lpc_isolation.proofs.Gone.Served.{served}
use Rattle.lpc_model.specs.Offers.{mapped}
use Rattle.lpc_model.proofs.Calls.Sharing.{mapped-pass, shared-pass}

-- Steps that give no token
abbrev is_none_given : List Impersonation → Bool
is_none_given [] = true
is_none_given (own ∷ gs) = false

abbrev is_blank : Basic → Bool
is_blank b = is_none_given (gave b)

abbrev AreBlank : List Basic → Type 0
AreBlank bs = every is_blank bs ≡ true

blank-none : (bs : List Basic) → AreBlank bs → given_in bs ≡ []
blank-none [] all = refl
blank-none (b ∷ bs) all = at (gave b) (blank-none bs (second-true (is_blank b) _ all)) all
  where
    at : (gs : List Impersonation) → given_in bs ≡ [] → (is_none_given gs && every is_blank bs) ≡ true → (gs ++ given_in bs) ≡ []
    at [] rest all = rest
    at (own ∷ gs) rest all = absurd (cc)

ending-blank : (b : Basic) → is_ending b ≡ true → is_blank b ≡ true
ending-blank (Acts who own) is = absurd (cc)
ending-blank b is = refl

enter-blank : (m : MessageRow) (v : World) → AreBlank (enter m v)
enter-blank m v = every-more is_ending is_blank ending-blank (enter m v) (ending-enter m v)

taken-blank : (m : MessageRow) → AreBlank (received_steps m)
taken-blank m = every-more is_ending is_blank ending-blank (received_steps m) (ending-receipt m)

given-blank : (w : World) (port : PortRow) (o : Option Message) → Holds AreBlank (given_reply w port o)
given-blank w port None = refl
given-blank w port (Some m) = bind_holds (reply_test w port m) _ AreBlank (λ x _. reply-cases (λ r. AreBlank (r ∷ [])) x m refl refl (λ _. refl))

-- the call that gives one
abbrev pub gives_token : ScriptCall → Bool
gives_token (impersonate_client_of_port handle bytes) = true
gives_token call = false

-- Calls
module _ (w : World) (by : ThreadRow) where
  given-outcomes : Outcomes w by (λ call bs. gives_token call ≡ false → given_in bs ≡ [])
  given-outcomes = record {
    creates = λ _ _. refl;
    founds = λ name dacl path free _. guarded (λ bs. given_in (create_steps by (named_steps (next_birth by) path) (free_handle w by.process) ++ bs) ≡ []) (next_birth by) name dacl (refl) (λ s. refl);
    connects = λ name quality word bytes offer own q is _.
        let y = connection_request by offer bytes in
        let es = enter (row_of q (client_port by q) y) (world_after w (connect_start by q offer own y)) in
        blank-none (connect_steps by q offer own y w ++ allow_steps w by quality) (every-append is_blank (connect_steps by q offer own y w) (allow_steps w by quality) (every-append is_blank es (mapped by.process own) (enter-blank (row_of q (client_port by q) y) (world_after w (connect_start by q offer own y))) (mapped-pass is_blank by.process (λ _. refl) own)) refl);
    listens = λ handle port m l at _. blank-none (listen_steps by port.birth (Some m)) (taken-blank m);
    awaits_connect = λ handle port l at _. refl;
    refuses = λ context bytes word a at _. refl;
    accepts = λ context bytes word offer a views is _. blank-none (accept_steps by context (free_handle w by.process) a views) (shared-pass is_blank by a.wait (λ _. refl) (λ _. refl) views);
    completes = λ handle r at _. refl;
    sends = λ handle bytes s at _. let y = sent_by by DATAGRAM s.message in blank-none (datagram_steps by s.port s.queue y w) (enter-blank (row_of s.queue s.port y) (world_after w (datagram_start by)));
    asks = λ handle bytes s at _. let y = sent_by by REQUEST s.message in blank-none (request_steps by s.port s.queue y w) (enter-blank (row_of s.queue s.port y) (world_after w (request_start by s.port.birth s.queue y)));
    replies = λ handle bytes port m x at read fits _. reply-cases (λ r. given_in (r ∷ []) ≡ []) x m refl refl (λ _. refl);
    receives = λ handle bytes a port queue replied m r at _. blank-none (receive_steps by port queue replied (Some m)) (every-append is_blank replied _ (replied-blank port a replied r.reply_made) (taken-blank m));
    awaits_message = λ handle bytes a port queue replied r at _. blank-none (receive_steps by port queue replied None) (every-append is_blank replied _ (replied-blank port a replied r.reply_made) refl);
    registers = λ handle port at new few _. refl;
    repeats = λ handle port at known _. refl;
    closes = λ handle r at _. blank-none (close_steps by r w) (every-more is_ending is_blank ending-blank (close_handle by.process r w) (handle-ending by.process r w));
    duplicates = λ handle access r at _. refl;
    queries = λ handle r at _. refl;
    spawns = λ pid tid new unused _. refl;
    starts = λ target tid pid at lives unused _. refl;
    makes_section = λ size prot asked _. refl;
    impersonates = λ handle bytes own is off. absurd (cc);
    reverts = λ class _. refl;
    opens_own = λ own is _. refl;
    opens_primary = λ _. refl;
    asks_token = λ handle class t field at told _. refl;
    maps_view = λ handle offset size prot s rounded base is _. refl;
    unmaps_view = λ address v at _. refl;
    reads_memory = λ address n v at _. refl;
    writes_memory = λ address new v at may _. refl;
    reads_range = λ handle bytes index n d at _. refl;
    writes_range = λ handle bytes index new d at may _. refl;
    sets = λ target class handle pid port at found live _. set-passes (λ bs. given_in bs ≡ []) by class pid port.birth refl refl;
    handles = λ code handled _. refl;
    hears = λ code handled h is _. blank-none (raise_steps by code handled (Heard h) w) (enter-blank (row_of h.queue h.port (event_message (client_of by) by.next_identifier code h.chance)) (world_after w (event_begun by code handled h)));
    fails = λ code handled _. refl;
    ends = λ call name own pid code ts doomed _. let bs = answered_end by name own pid code ts w in blank-none bs (every-more is_ending is_blank ending-blank bs (steps-end w by name own pid code ts));
  }
    where
      replied-blank : (port : PortRow) (a : Option Message) (replied : List Basic) → given_reply w port a ≡ Ok replied → AreBlank replied
      replied-blank port a replied at = holds_ok AreBlank (given_reply w port a) replied (given-blank w port a) at

  pub gives-none : (call : ScriptCall) → gives_token call ≡ false → Holds (λ bs. given_in bs ≡ []) (served w by call)
  gives-none call off = holds-more (λ bs. gives_token call ≡ false → given_in bs ≡ []) (λ bs. given_in bs ≡ []) (served w by call) (λ bs none. none off) (served-does w by (λ call bs. gives_token call ≡ false → given_in bs ≡ []) given-outcomes (λ handle r fields at _. refl) call)
