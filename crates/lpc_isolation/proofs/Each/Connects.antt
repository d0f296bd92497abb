-- NtConnectPort in a view.
use Rattle.lpc_model.proofs.Calls.Offers.{Given}
use Rattle.lpc_model.proofs.Calls.Outcomes.{IsConnecting}
use Rattle.lpc_model.proofs.Calls.Sharing.{mapped-ports}
use Rattle.lpc_model.proofs.Steps.InTurn.{after-append}
use Rattle.lpc_model.specs.Offers.{if_given, mapped, offer_test, view_test, wanted_test}
use Rattle.lpc_isolation.proofs.Each.Shared.{IsFrom, IsShownOf, connect-shown, mapped-apart, mapped-fair, mapped-ours, offer-own, placed-view, self-fair, wanted-view}
use Rattle.std.proofs.Common.{◌≡◌, ℕ, List, [], ◌∷◌, ◌++◌, Bool, true, false, Option, Some, None, refl, ap, sym, subst, ◌∙◌, arith}
use Rattle.std.specs.Prelude.{◌==◌, Result, Ok, Err}
use Rattle.std.proofs.lemmas.Bool.{and_from, eqb-true}
use Rattle.lpc_base.specs.Rows.{every, first, given}
use Rattle.lpc_base.proofs.RowWords.{every-push}
use Rattle.lpc_base.proofs.Bools.{same-number}
use Rattle.lpc_model.specs.Message.{asks}
use Rattle.lpc_model.specs.Then.{◌>>=◌}
use Rattle.lpc_model.specs.World.{Accepted, Birth, Connect, Listen, MessageRow, PortRow, Receive, Request, ThreadRow, WaitKind, WaitRow, World, Offer, ViewRow, Qos, Event}
use Rattle.lpc_model.specs.Basics.{Basic, DrawsIdentifier, Enters, basic, world_after}
use Rattle.lpc_model.specs.Entering.{enter, given_steps, row_of, shown, takes, woken}
use Rattle.lpc_base.specs.declared.status.TheConstants.{SUCCESS}
use Rattle.lpc_model.specs.Connect.{client_port, connect_start, connect_steps, connect_wait, connection_request, info_test, making, named_steps, nt_connect_port, allow_steps, access_test}
use Rattle.lpc_model.specs.Named.{as_status, named_port, port_found}
use Rattle.lpc_names.specs.declared.names.Found.{Found}
use Rattle.lpc_names.specs.declared.names.Found.TheVariants.{Directory, Item}
use Rattle.lpc_names.specs.declared.fault.NameFault.{NameFault}
use Rattle.lpc_names.specs.Path.{Path}
use Rattle.lpc_names.specs.Walk.{lookup, free_path}
use Rattle.lpc_model.specs.Tests.{handles_test, next_birth}
use Rattle.lpc_model.specs.Circle.{Group, Whose, is_fine_client, leads_inside, is_fine_port, names_inside, owner}
use Rattle.lpc_isolation.proofs.Views.Alone.{HasFineRows}
use Rattle.lpc_isolation.proofs.Views.View.{view}
use Rattle.lpc_isolation.proofs.Views.Basics.{are_ours, ours-append, run-ours}
use Rattle.lpc_isolation.proofs.Rows.Fair.{Fair, are_fair, fair-append, is_fair_message, is_fair_wait, owner-sent, owner-used, run-fair, all_of}
use Rattle.lpc_isolation.proofs.Views.Seen.{bind-same, token-view, access-view}
use Rattle.lpc_isolation.proofs.Each.Enter.{Patient, is_patient, enter-fair, enter-ours, enter-view}
use Rattle.lpc_isolation.proofs.Views.Apart.{Owned, apart-append, are_apart, enter-apart, is_owned, unseen-at, unseen-wait}
use Rattle.lpc_isolation.proofs.Views.Callers.{Led, handles_test-view, led-same, on_ok, unseen-thread}
use Rattle.lpc_isolation.proofs.Each.Sends.{Caller}
use Rattle.lpc_isolation.proofs.Rows.Names.{SeenNames, c-free, c-lookup, free-view, lookup-view}
use Rattle.lpc_model.specs.Lines.{}
use Rattle.lpc_model.specs.declared.line.ViewWord.{ViewWord}

-- ports stand while a message enters
given-ports : (w : World) (x : MessageRow) (y : WaitRow) (b : Basic) (k : WaitKind) (asked : Bool) → y.kind ≡ k → asks x.message ≡ asked → (basic w b).ports ≡ w.ports → ((v : World) → (basic v b).ports ≡ v.ports) → (world_after w (given_steps y x ++ b ∷ [])).ports ≡ w.ports
given-ports w x y b (Request a) true k asked one each = rw (k, asked) (each _)
given-ports w x y b (Request a) false k asked one each = rw (k, asked) (each _)
given-ports w x y b (Event e) true k asked one each = rw (k, asked) (each _)
given-ports w x y b (Event e) false k asked one each = rw (k, asked) (each _)
given-ports w x y b Receive true k asked one each = rw (k, asked) (each _)
given-ports w x y b Receive false k asked one each = rw (k, asked) (each _)
given-ports w x y b Listen true k asked one each = rw (k, asked) (each _)
given-ports w x y b Listen false k asked one each = rw (k, asked) (each _)
given-ports w x y b (Connect a offer) true k asked one each = rw (k, asked) (each _)
given-ports w x y b (Connect a offer) false k asked one each = rw (k, asked) (each _)
given-ports w x y b (Accepted a r) true k asked one each = rw (k, asked) (each _)
given-ports w x y b (Accepted a r) false k asked one each = rw (k, asked) (each _)

entered-ports : (w : World) (x : MessageRow) (o : Option WaitRow) → (world_after w (Enters x ∷ given o (λ y. given_steps y x ++ woken SUCCESS (shown y x) y ∷ []))).ports ≡ w.ports
entered-ports w x None = refl
entered-ports w x (Some y) = given-ports (basic w (Enters x)) x y (woken SUCCESS (shown y x) y) y.kind (asks x.message) refl refl refl (λ v. refl)

pub enter-ports : (w : World) (x : MessageRow) → (world_after w (enter x w)).ports ≡ w.ports
enter-ports w x = entered-ports w x (first (takes x) w.waits)

-- what the circle says of the port that a connect makes
abbrev pub starting : ThreadRow → Birth → Option Offer → Option ViewRow → List ℕ → List Basic
starting by q offer own bytes = connect_start by q offer own (connection_request by offer bytes)

abbrev pub row : ThreadRow → Birth → Option Offer → Option ViewRow → List ℕ → MessageRow
row by q offer own bytes = row_of q (client_port by q) (connection_request by offer bytes)

abbrev pub steps_of : World → ThreadRow → Birth → Option Offer → Option ViewRow → List ℕ → List Basic
steps_of w by q offer own bytes = connect_steps by q offer own (connection_request by offer bytes) w

pub every-last : {X : Type 0} (p : X → Bool) (xs : List X) (y : X) → every p (xs ++ y ∷ []) ≡ true → p y ≡ true
every-last p [] y all = grind arith
every-last p (x ∷ xs) y all = grind (arith, every-last p xs y)

-- of the ports it leaves one more
pub connect-ports : (w : World) (by : ThreadRow) (q : Birth) (offer : Option Offer) (own : Option ViewRow) (bytes : List ℕ) → (world_after w (steps_of w by q offer own bytes)).ports ≡ w.ports ++ client_port by q ∷ []
connect-ports w by q offer own bytes =
    let v : World = world_after w (starting by q offer own bytes) in
    let es = enter (row by q offer own bytes) v in
    ap (λ (u : World). u.ports) (after-append v es (mapped by.process own)) ∙ (mapped-ports (world_after v es) by.process own ∙ enter-ports v (row by q offer own bytes))

pub connect-fine : (m : Group) (c : ℕ) (w : World) (by : ThreadRow) (q : Birth) (offer : Option Offer) (own : Option ViewRow) (bytes : List ℕ) → HasFineRows m c (world_after w (steps_of w by q offer own bytes)) → is_fine_client m c (next_birth by) q ≡ true
connect-fine m c w by q offer own bytes fine =
    every-last (is_fine_port m c) w.ports (client_port by q)
    (subst (λ (ports : List PortRow). every (is_fine_port m c) ports ≡ true) (connect-ports w by q offer own bytes) fine.1)

-- fair
connect_wait-fair : (m : Group) (c : ℕ) (by : ThreadRow) (q : Birth) (offer : Option Offer) (own : Option ViewRow) (bytes : List ℕ) → m c ≡ true → is_fine_client m c (next_birth by) q ≡ true → is_fair_wait m c (connect_wait by q offer (connection_request by offer bytes)) ≡ true
connect_wait-fair m c by q offer own bytes c_in fine =
    let self = same-number by.process in
    let mine : (by.process == c) ≡ true → m by.process ≡ true = λ is. ap m (eqb-true _ _ is) ∙ c_in in grind arith

row-fair : (m : Group) (c : ℕ) (by : ThreadRow) (q : Birth) (offer : Option Offer) (own : Option ViewRow) (bytes : List ℕ) → m c ≡ true → is_fine_client m c (next_birth by) q ≡ true → is_fair_message m c (row by q offer own bytes) ≡ true
row-fair m c by q offer own bytes c_in fine =
    let self = same-number by.process in
    let mine : (by.process == c) ≡ true → m by.process ≡ true = λ is. ap m (eqb-true _ _ is) ∙ c_in in grind arith

-- what is offered is of the caller's process
offer-fair : (by : ThreadRow) (offer : Option Offer) → Given (IsFrom by.process) offer → all_of offer (λ (o : Offer). o.section.process == by.process) ≡ true
offer-fair by None from = refl
offer-fair by (Some o) from = rw from (same-number by.process)

start-fair : (m : Group) (c : ℕ) (w : World) (by : ThreadRow) (q : Birth) (offer : Option Offer) (own : Option ViewRow) (bytes : List ℕ) → m c ≡ true → Given (IsFrom by.process) offer → owner w by.number ≡ Some by.process → is_fine_client m c (next_birth by) q ≡ true → are_fair m c w (starting by q offer own bytes) ≡ true
start-fair m c w by q offer own bytes c_in from home fine =
    and_from _ _ (and_from _ _ (and_from _ _ (same-number by.process) (owner-used w by.number by.process home)) refl) (and_from _ _ (and_from _ _ (connect_wait-fair m c by q offer own bytes c_in fine) (and_from _ _ (offer-fair by offer from) refl)) refl)

pub record Begun (m : Group) (c : ℕ) (u w : World) : Type 0 where
  pub fair : Fair m c w
  pub patient : Patient w
  pub owned : Owned u w

begun : (m : Group) (c : ℕ) (u w : World) (by : ThreadRow) (q : Birth) (offer : Option Offer) (own : Option ViewRow) (bytes : List ℕ) → Caller m c u w by → Given (IsFrom by.process) offer → is_fine_client m c (next_birth by) q ≡ true → Begun m c u (world_after w (starting by q offer own bytes))
begun m c u w by q offer own bytes k from fine = record {
  fair = run-fair m c w (starting by q offer own bytes) (start-fair m c w by q offer own bytes k.c_in from k.own fine) k.fair;
  patient = every-push (is_patient w) w.waits (connect_wait by q offer (connection_request by offer bytes)) k.patient refl;
  owned = every-push (is_owned u) w.waits (connect_wait by q offer (connection_request by offer bytes)) k.owned (rw k.here (same-number by.process));
}

pub connect-fair : (m : Group) (c : ℕ) (u w : World) (by : ThreadRow) (q : Birth) (offer : Option Offer) (own : Option ViewRow) (bytes : List ℕ) → Caller m c u w by → Given (IsFrom by.process) offer → Given (IsShownOf by.process (next_birth by)) own → is_fine_client m c (next_birth by) q ≡ true → are_fair m c w (steps_of w by q offer own bytes) ≡ true
connect-fair m c u w by q offer own bytes k from shown fine =
    let v : World = world_after w (starting by q offer own bytes) in
    let es = enter (row by q offer own bytes) v in
    let self = self-fair m c by.process k.c_in in
    fair-append m c w (starting by q offer own bytes) (es ++ mapped by.process own) (start-fair m c w by q offer own bytes k.c_in from k.own fine)
    (fair-append m c v es (mapped by.process own)
    (enter-fair m c v (row by q offer own bytes) (and_from _ _ (row-fair m c by q offer own bytes k.c_in fine) (owner-sent w (row by q offer own bytes) by.process k.own refl)))
    (mapped-fair m c (world_after v es) by.process by.process (next_birth by) own self self refl shown))

-- apart
pub fine-other : (m : Group) (c : ℕ) (by : ThreadRow) (q : Birth) → is_fine_client m c (next_birth by) q ≡ true → m by.process ≡ false → (q.process == c) ≡ false
fine-other m c by q fine out = grind arith

pub connect-apart : (m : Group) (c : ℕ) (u : World) (d : Whose) (w : World) (by : ThreadRow) (q : Birth) (offer : Option Offer) (own : Option ViewRow) (bytes : List ℕ) → Caller m c u w by → Given (IsFrom by.process) offer → is_fine_client m c (next_birth by) q ≡ true → m by.process ≡ false → are_apart m c u d w (steps_of w by q offer own bytes) ≡ true
connect-apart m c u d w by q offer own bytes k from fine out =
    let v : World = world_after w (starting by q offer own bytes) in
    let es = enter (row by q offer own bytes) v in
    let s = begun m c u w by q offer own bytes k from fine in
    let drawn : Fair m c (basic w (DrawsIdentifier by.number)) = run-fair m c w (DrawsIdentifier by.number ∷ []) refl k.fair in
    apart-append m c u d w (starting by q offer own bytes) (es ++ mapped by.process own)
    (rw (k.here, out, unseen-thread m c w by.number by.process k.fair k.own out, unseen-thread m c (basic w (DrawsIdentifier by.number)) by.number by.process drawn k.own out) refl)
    (apart-append m c u d v es (mapped by.process own)
    (enter-apart m c u d v (row by q offer own bytes) (rw out refl) (fine-other m c by q fine out) (unseen-at m v by.number q (unseen-wait m u v by.number by.process s.owned k.here out)) s.owned s.fair s.patient)
    (mapped-apart m c u d (world_after v es) by.process own out))

-- ours
fine-in : (m : Group) (c : ℕ) (by : ThreadRow) (q : Birth) → is_fine_client m c (next_birth by) q ≡ true → m by.process ≡ true → m q.process ≡ true
fine-in m c by q fine is = grind arith

start-ours : (m : Group) (w : World) (by : ThreadRow) (q : Birth) (offer : Option Offer) (own : Option ViewRow) (bytes : List ℕ) → m by.process ≡ true → m q.process ≡ true → are_ours m w (starting by q offer own bytes) ≡ true
start-ours m w by q offer own bytes is q_in = rw (is, q_in) refl

pub connect-ours : (m : Group) (c : ℕ) (u w : World) (by : ThreadRow) (q : Birth) (offer : Option Offer) (own : Option ViewRow) (bytes : List ℕ) → Caller m c u w by → Given (IsFrom by.process) offer → Given (IsShownOf by.process (next_birth by)) own → is_fine_client m c (next_birth by) q ≡ true → m by.process ≡ true → are_ours m w (steps_of w by q offer own bytes) ≡ true
connect-ours m c u w by q offer own bytes k from shown fine is =
    let q_in = fine-in m c by q fine is in
    let v : World = world_after w (starting by q offer own bytes) in
    let es = enter (row by q offer own bytes) v in
    ours-append m w (starting by q offer own bytes) (es ++ mapped by.process own) (start-ours m w by q offer own bytes is q_in)
    (ours-append m v es (mapped by.process own) (enter-ours m v (row by q offer own bytes) (and_from _ _ is q_in) (begun m c u w by q offer own bytes k from fine).patient)
    (mapped-ours m (world_after v es) by.process by.process (next_birth by) own is is shown))

connect-view : (m : Group) (c : ℕ) (u w : World) (by : ThreadRow) (q : Birth) (offer : Option Offer) (own : Option ViewRow) (bytes : List ℕ) → Caller m c u w by → Given (IsFrom by.process) offer → is_fine_client m c (next_birth by) q ≡ true → m by.process ≡ true → steps_of (view m w) by q offer own bytes ≡ steps_of w by q offer own bytes
connect-view m c u w by q offer own bytes k from fine is =
    let q_in = fine-in m c by q fine is in
    ap (λ v. starting by q offer own bytes ++ (enter (row by q offer own bytes) v ++ mapped by.process own)) (sym (run-ours m w (starting by q offer own bytes) (start-ours m w by q offer own bytes is q_in)))
    ∙ ap (λ es. starting by q offer own bytes ++ (es ++ mapped by.process own)) (enter-view m c (world_after w (starting by q offer own bytes)) (row by q offer own bytes) (begun m c u w by q offer own bytes k from fine).fair q_in)

-- of another member than c
abbrev pub led_connect : World → ThreadRow → List ℕ → Qos → Option ViewWord → List ℕ → List Basic
led_connect v by name quality word bytes = on_ok (if_given (wanted_test v by) word) (λ wanted. on_ok (if_given offer_test wanted) (λ offer. on_ok (named_port v name) (λ q.
    on_ok (if_given (view_test v by.process (next_birth by)) offer) (λ own. connect_steps by q offer own (connection_request by offer bytes) v ++ allow_steps v by quality))))

named-view : (m : Group) (w : World) (name : List ℕ) (q : Birth) → SeenNames m w.bindings → m q.process ≡ true → named_port w name ≡ Ok q → named_port (view m w) name ≡ Ok q
named-view m w name q s q_in is = at (lookup w.bindings name) refl is
  where
    at : (r : Result (Found Birth) NameFault) → lookup w.bindings name ≡ r → (as_status r >>= port_found) ≡ Ok q → named_port (view m w) name ≡ Ok q
    at (Err f) r is = absurd (cc)
    at (Ok Directory) r is = absurd (cc)
    at (Ok (Item b)) r is =
        let same : b ≡ q = cc in
        let there : lookup (view m w).bindings name ≡ Ok (Item q) = lookup-view m w.bindings name q s q_in (r ∙ ap (λ b. Ok (Item b)) same) in
        rw there refl

pub connect-led : (m : Group) (c : ℕ) (u : World) (d : Whose) (w : World) (by : ThreadRow) (name : List ℕ) (quality : Qos) (word : Option ViewWord) (bytes : List ℕ) (offer : Option Offer) (own : Option ViewRow) (q : Birth) → Caller m c u w by → m by.process ≡ true → is_fine_client m c (next_birth by) q ≡ true → IsConnecting w by name word offer own q → Led m c u d w (steps_of w by q offer own bytes ++ allow_steps w by quality) (led_connect (view m w) by name quality word bytes)
connect-led m c u d w by name quality word bytes offer own q k is fine at =
    let parts = connect-shown m c w by name word offer own q k.fair at in
    rw (wanted-view m c w by word k.fair is, at.wanted_found, at.offer_made, named-view m w name q k.names (fine-in m c by q fine is) at.port_named, placed-view m w by.process (next_birth by) offer is, at.view_placed, token-view m w by.process is)
    (subst (λ bs. Led m c u d w (steps_of w by q offer own bytes ++ allow_steps w by quality) (bs ++ allow_steps w by quality)) (sym (connect-view m c u w by q offer own bytes k parts.0 fine is)) (led-same m c u d w (steps_of w by q offer own bytes ++ allow_steps w by quality) (ours-append m w (steps_of w by q offer own bytes) (allow_steps w by quality) (connect-ours m c u w by q offer own bytes k parts.0 parts.1 fine is) refl)))

-- of c
c-named : (m : Group) (w : World) (name : List ℕ) → SeenNames m w.bindings → names_inside m w name ≡ true → named_port (view m w) name ≡ named_port w name
c-named m w name s inside = ap (λ r. as_status r >>= port_found) (c-lookup m w.bindings name s inside)

-- a named port: what the circle says of c's paths tells that it is a member's
named-in : (m : Group) (w : World) (name : List ℕ) (q : Birth) → names_inside m w name ≡ true → named_port w name ≡ Ok q → m q.process ≡ true
named-in m w name q inside is = at (lookup w.bindings name) inside is
  where
    at : (r : Result (Found Birth) NameFault) → leads_inside m r ≡ true → (as_status r >>= port_found) ≡ Ok q → m q.process ≡ true
    at (Err f) inside is = absurd (cc)
    at (Ok Directory) inside is = absurd (cc)
    at (Ok (Item b)) inside is = let same : b ≡ q = cc in subst (λ (b : Birth). m b.process ≡ true) same inside

fine-both : (m : Group) (c : ℕ) (by : ThreadRow) (q : Birth) → m by.process ≡ true → m q.process ≡ true → is_fine_client m c (next_birth by) q ≡ true
fine-both m c by q one two = grind arith

pub c-connect : (m : Group) (c : ℕ) (u w : World) (by : ThreadRow) (name : List ℕ) (quality : Qos) (word : Option ViewWord) (bytes : List ℕ) → Caller m c u w by → by.process ≡ c → names_inside m w name ≡ true → nt_connect_port (view m w) by name quality word bytes ≡ nt_connect_port w by name quality word bytes
unfolding nt_connect_port
c-connect m c u w by name quality word bytes k mine inside =
    let by_in : m by.process ≡ true = ap m mine ∙ k.c_in in
    let test : handles_test (view m w) by.process 1 ≡ handles_test w by.process 1 = subst (λ p. handles_test (view m w) p 1 ≡ handles_test w p 1) (sym mine) (handles_test-view m c w 1 k.c_in k.fair) in
    rw (wanted-view m c w by word k.fair by_in, token-view m w by.process by_in) (bind-same (if_given (wanted_test w by) word) _ _ (λ wanted found.
    bind-same (info_test bytes) _ _ (λ _ _. bind-same (if_given offer_test wanted) _ _ (λ offer made.
    rw (c-named m w name k.names inside, test) (bind-same (named_port w name) _ _ (λ q at.
    rw (access-view m w q (named-in m w name q inside at)) (bind-same (access_test w by q) _ _ (λ _ _.
    bind-same (handles_test w by.process 1) _ _ (λ _ _.
    rw (placed-view m w by.process (next_birth by) offer by_in) (bind-same (if_given (view_test w by.process (next_birth by)) offer) _ _ (λ own placed.
    let q_in : m q.process ≡ true = named-in m w name q inside at in
    let fine : is_fine_client m c (next_birth by) q ≡ true = fine-both m c by q by_in q_in in
    ap (λ bs. Ok (bs ++ allow_steps w by quality)) (connect-view m c u w by q offer own bytes k (offer-own m c w by word wanted offer k.fair found made) fine by_in))))))))))))

-- NtCreatePort's names
pub c-making : (m : Group) (w : World) (b : Birth) (name : List ℕ) → SeenNames m w.bindings → names_inside m w name ≡ true → making (view m w) b (Some name) ≡ making w b (Some name)
c-making m w b name s inside = ap (λ r. as_status r >>= (λ path. Ok (named_steps b path))) (c-free m w.bindings name s inside)

pub making-view : (m : Group) (w : World) (b : Birth) (name : Option (List ℕ)) (made : List Basic) → SeenNames m w.bindings → making w b name ≡ Ok made → making (view m w) b name ≡ Ok made
making-view m w b None made s is = is
making-view m w b (Some name) made s is = at (free_path w.bindings name) refl is
  where
    at : (r : Result Path NameFault) → free_path w.bindings name ≡ r → (as_status r >>= (λ path. Ok (named_steps b path))) ≡ Ok made → making (view m w) b (Some name) ≡ Ok made
    at (Err f) r is = absurd (cc)
    at (Ok path) r is = rw (free-view m w.bindings name path s r) is
