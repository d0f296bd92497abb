-- The message that tells of a closed client port, as the end of its closing.
use Rattle.std.proofs.Common.{◌≡◌, ℕ, List, [], ◌∷◌, ◌++◌, Bool, true, false, cond, not, Option, Some, None, refl, ap, sym, subst, ◌∙◌, arith}
use Rattle.std.specs.Prelude.{◌&&◌, ◌||◌, ◌==◌, option_and_then, option_map}
use Rattle.std.proofs.lemmas.Bool.{and_from, eqb-true}
use Rattle.lpc_base.specs.Rows.{every, first, given, passes}
use Rattle.lpc_base.proofs.RowWords.{first-passes, every-append}
use Rattle.lpc_base.proofs.RowMaps.{every-first}
use Rattle.lpc_base.proofs.Bools.{first-true, same-number, second-true}
use Rattle.lpc_base.proofs.Births.{birth-same, birth-self}
use Rattle.lpc_base.specs.declared.port_kind.PortKind.TheVariants.{Client}
use Rattle.lpc_base.specs.declared.status.TheConstants.{SUCCESS}
use Rattle.lpc_model.specs.declared.entry.Entry.TheVariants as entry
use Rattle.lpc_model.specs.World.{Accepted, Birth, Connect, Creator, Listen, MessageRow, PortKind, PortRow, Receive, Request, WaitKind, WaitRow, World, Event}
use Rattle.lpc_model.specs.Message.{asks}
use Rattle.lpc_model.specs.Found.{if_open, is_client_port, is_open, is_port, is_used_thread, port_row, wait_of, waits_as}
use Rattle.lpc_model.specs.Basics.{Basic, Enters, Steps, basic, entries_of, world_after, DropsOwned, doing, ◌▹◌}
use Rattle.lpc_model.specs.Entering.{enter, given_steps, shown, takes, woken}
use Rattle.lpc_model.specs.Close.{closed_row, post_closed, server_of, closing_post}
use Rattle.lpc_model.specs.Circle.{Group, Whose, is_fine_client, is_fine_port, owner}
use Rattle.lpc_isolation.proofs.Views.View.{our_wait, seen_port, view}
use Rattle.lpc_isolation.proofs.Views.Filters.{first-kept}
use Rattle.lpc_isolation.proofs.Views.Basics.{are_ours, ours-append}
use Rattle.lpc_isolation.proofs.Rows.Fair.{are_fair, implies, is_created, is_fair_message, is_fair_wait, is_sent, sent-owner, fair-append, run-fair, are_together, together, together-of}
use Rattle.lpc_isolation.proofs.Views.Seen.{open-view, port-view}
use Rattle.lpc_isolation.proofs.Each.Enter.{enter-fair, enter-ours, enter-view, taker-process}
use Rattle.lpc_isolation.proofs.Views.Apart.{are_apart, enter-apart, given-entries, is_owned, owned-by, unseen-at, unseen-wait, apart-append}
use Rattle.lpc_isolation.proofs.Views.Callers.{led-same, unseen-owned}
use Rattle.lpc_model.proofs.Steps.InTurn.{after-append}
use Rattle.lpc_isolation.proofs.Each.Receive.{led-append}
use Rattle.lpc_isolation.proofs.Plays.Play.{told_inputs}
use Rattle.lpc_isolation.proofs.Rows.Sent.{are_sent, is_sent_home, none-sent, sends_none, append-sent}
use Rattle.lpc_isolation.proofs.Rows.Asked.{Asked, are_asked, enter-asked, run-asked, basic-asked}
use Rattle.lpc_isolation.proofs.Rows.Ids.{Numbered, of_number}
use Rattle.lpc_isolation.proofs.Memory.Heard.{Heard, Reads, entries_memo, note, noted_of, reads-of, woken_memo}
use Rattle.lpc_isolation.proofs.Memory.Calls.{own-first, shown-heard}
use Rattle.lpc_isolation.proofs.Gone.ThinCalls.{AreClosed, enter-closed, row-thin}
use Rattle.lpc_isolation.proofs.Closings.Mild.{AreMild, Sure}
use Rattle.lpc_isolation.proofs.Closings.Shown.{are_shown, enter-shown, shown-append}
use Rattle.lpc_isolation.proofs.Closings.Stages.{Good, mute-append}

-- the closed port, who made it, and the queue that its message enters
record Posted (m : Group) (c : ℕ) (u w : World) (b : Birth) (p : PortRow) (by : Creator) (q : Birth) : Type 0 where
  row : port_row w b ≡ Some p
  birth : p.birth ≡ b
  server : server_of w p ≡ Some q
  fine : is_fine_client m c b q ≡ true
  fair : is_fair_message m c (closed_row p q by) ≡ true
  sent : is_sent w.used_threads (closed_row p q by) ≡ true

-- the connection port of a client port
client-of : (w : World) (p : PortRow) (q : Birth) → server_of w p ≡ Some q → (is_client_port p ≡ true) × (p.connection ≡ Some q)
client-of w p q is = at (is_client_port p) p.completed refl is
  where
    opened : (o : Option Birth) → if_open w o ≡ Some q → o ≡ Some q
    opened None is = absurd (cc)
    opened (Some b) is = here (is_open w b) is
      where
        here : (e : Bool) → cond e (Some b) None ≡ Some q → Some b ≡ Some q
        here true is = is
        here false is = absurd (cc)

    at : (a d : Bool) → is_client_port p ≡ a → if_open w (cond (a && d) p.connection None) ≡ Some q → (is_client_port p ≡ true) × (p.connection ≡ Some q)
    at true true kind is = (kind, opened p.connection is)
    at true false kind is = absurd (cc)
    at false d kind is = absurd (cc)

fine-kind : (m : Group) (c : ℕ) (p : PortRow) (q : Birth) (k : PortKind) → p.kind ≡ k → is_client_port p ≡ true → p.connection ≡ Some q → is_fine_port m c p ≡ true → is_fine_client m c p.birth q ≡ true
fine-kind m c p q Client k is to fine = rw (k, to) at fine
fine-kind m c p q b k is to fine = let off : false ≡ true = rw k at is in absurd (cc)

posted : (m : Group) (c : ℕ) (u w : World) (b : Birth) (p : PortRow) (by : Creator) (q : Birth) → Sure m c u w → port_row w b ≡ Some p → p.creator ≡ Some by → server_of w p ≡ Some q → Posted m c u w b p by q
posted m c u w b p by q s row made server =
    let birth : p.birth ≡ b = birth-same p.birth b (first-passes (is_port b) w.ports p row) in
    let client = client-of w p q server in
    let fine : is_fine_client m c p.birth q ≡ true = fine-kind m c p q p.kind refl client.0 client.1 (every-first (is_fine_port m c) (is_port b) w.ports p (s.fine).1 row) in
    let here : is_created w.used_threads p ≡ true = every-first (is_created w.used_threads) (is_port b) w.ports p s.fair.creators row in
    let created : ((by.client.process == p.birth.process) && passes (first (is_used_thread by.client.thread) w.used_threads) (λ u. u.process == by.client.process)) ≡ true = rw made at here in
    record {
      row = row;
      birth = birth;
      server = server;
      fine = subst (λ b. is_fine_client m c b q ≡ true) birth fine;
      fair = and_from _ _ (together-of m by.client.process p.birth.process (ap m (eqb-true by.client.process p.birth.process (first-true (by.client.process == p.birth.process) _ created)))) (fair-sides p fine);
      sent = second-true (by.client.process == p.birth.process) _ created;
    }
  where
    fair-sides : (p : PortRow) → is_fine_client m c p.birth q ≡ true → (implies (q.process == c) (m p.birth.process) && implies (p.birth.process == c) (m q.process)) ≡ true
    fair-sides p fine = at (p.birth.process == c) refl
      where
        at : (e : Bool) → (p.birth.process == c) ≡ e → (implies (q.process == c) (m p.birth.process) && implies e (m q.process)) ≡ true
        at true is = let inside : m p.birth.process ≡ true = ap m (eqb-true _ _ is) ∙ s.c_in in grind arith
        at false off = grind arith

-- whatever holds of nothing, and of its entering, holds of the end of the closing
on-post : (P : List Basic → Type 0) (w : World) (b : Birth) → P [] → ((p : PortRow) (by : Creator) (q : Birth) → port_row w b ≡ Some p → p.creator ≡ Some by → server_of w p ≡ Some q → P (enter (closed_row p q by) w)) → P (post_closed b w)
on-post P w b none some = at (port_row w b) refl
  where
    by-creator : (p : PortRow) (q : Birth) → port_row w b ≡ Some p → server_of w p ≡ Some q → (o : Option Creator) → p.creator ≡ o → P (given (option_map (closed_row p q) o) (λ y. enter y w))
    by-creator p q row server None made = none
    by-creator p q row server (Some by) made = some p by q row made server

    by-server : (p : PortRow) → port_row w b ≡ Some p → (o : Option Birth) → server_of w p ≡ o → P (given (option_and_then (λ queue. option_map (closed_row p queue) p.creator) o) (λ y. enter y w))
    by-server p row None server = none
    by-server p row (Some q) server = by-creator p q row server p.creator refl

    at : (o : Option PortRow) → port_row w b ≡ o → P (given o (λ p. given (closing_post w p) (λ y. enter y w)))
    at None row = none
    at (Some p) row = by-server p row (server_of w p) refl

-- the steps of its entering
mild-given : (y : MessageRow) (z : WaitRow) (k : WaitKind) → z.kind ≡ k → asks y.message ≡ false → AreMild (given_steps z y ++ woken SUCCESS (shown z y) z ∷ [])
mild-given y z (Request a) k asked = rw (k, asked) refl
mild-given y z Receive k asked = rw (k, asked) refl
mild-given y z Listen k asked = rw (k, asked) refl
mild-given y z (Connect a offer) k asked = rw (k, asked) refl
mild-given y z (Accepted a r) k asked = rw (k, asked) refl
mild-given y z (Event e) k asked = rw (k, asked) refl

pub mild-entered : (y : MessageRow) (o : Option WaitRow) → asks y.message ≡ false → AreMild (Enters y ∷ given o (λ z. given_steps z y ++ woken SUCCESS (shown z y) z ∷ []))
mild-entered y None asked = refl
mild-entered y (Some z) asked = mild-given y z z.kind refl asked

-- a member that takes it is shown no connect
unnoted : (m : Group) (y : MessageRow) (q : Birth) (memo : List Heard) → asks y.message ≡ false → noted_of m y q memo ≡ memo
unnoted m y q memo asked = ap (λ e. note (e && not (m y.message.header.client.process)) y.message.header.client.thread q memo) asked

mute-taken : (m : Group) (c : ℕ) (u : World) (d : Whose) (w : World) (memo : List Heard) (y : MessageRow) (z : WaitRow) → Sure m c u w → Reads y → asks y.message ≡ false → (y.queue.process == c) ≡ false → first (takes y) w.waits ≡ Some z
    → entries_memo m (view m w) memo (told_inputs m c u d (entry.Wakes z.thread z.call SUCCESS (shown z y) ∷ [])) ≡ memo
mute-taken m c u d w memo y z s r asked other at = by_owner (owner u z.thread) refl (every-first (is_owned u) (takes y) w.waits z s.owned at)
  where
    is : takes y z ≡ true
    is = first-passes (takes y) w.waits z at

    of_queue : z.process ≡ y.queue.process
    of_queue = taker-process m c y z (every-first (is_fair_wait m c) (takes y) w.waits z s.fair.waits at) is

    inside : (b : Bool) → m y.queue.process ≡ b → entries_memo m (view m w) memo (cond (b && true) (entry.Wakes z.thread z.call SUCCESS (shown z y) ∷ []) []) ≡ memo
    inside true q_in =
        let queue : z.queue ≡ y.queue = birth-same z.queue y.queue (second-true _ _ is) in
        let ours : our_wait m z ≡ true = and_from _ _ (ap m of_queue ∙ q_in) (ap (λ (b : Birth). m b.process) queue ∙ q_in) in
        let there : wait_of w z.thread ≡ Some z = own-first (takes y) (waits_as z.thread) w.waits z (s.once z.thread) at (same-number z.thread) in
        let seen : wait_of (view m w) z.thread ≡ Some z = first-kept (our_wait m) (waits_as z.thread) w.waits z there ours in
        ap (λ o. woken_memo m o (shown z y) memo) seen ∙ shown-heard m y z z.kind memo refl is r ∙ unnoted m y z.queue memo asked
    inside false q_out = refl

    by_owner : (o : Option ℕ) → owner u z.thread ≡ o → is_owned u z ≡ true → entries_memo m (view m w) memo (told_inputs m c u d (entry.Wakes z.thread z.call SUCCESS (shown z y) ∷ [])) ≡ memo
    by_owner None none own = let off : false ≡ true = rw none at own in absurd (cc)
    by_owner (Some pid) own is =
        let same : pid ≡ y.queue.process = owned-by u z pid own is ∙ of_queue in
        rw (own, same, other) (inside (m y.queue.process) refl)

pub mute-entered : (m : Group) (c : ℕ) (u : World) (d : Whose) (w : World) (memo : List Heard) (y : MessageRow) → Sure m c u w → Reads y → asks y.message ≡ false → (y.queue.process == c) ≡ false → (o : Option WaitRow) → first (takes y) w.waits ≡ o
    → entries_memo m (view m w) memo (told_inputs m c u d (entries_of (given o (λ z. given_steps z y ++ woken SUCCESS (shown z y) z ∷ [])))) ≡ memo
mute-entered m c u d w memo y s r asked other None at = refl
mute-entered m c u d w memo y s r asked other (Some z) at = rw (given-entries y z z.kind (asks y.message) (woken SUCCESS (shown z y) z) refl refl) (mute-taken m c u d w memo y z s r asked other at)

-- of an outsider's port
post-other : (m : Group) (c : ℕ) (b q : Birth) → is_fine_client m c b q ≡ true → m b.process ≡ false → (q.process == c) ≡ false
post-other m c b q fine out = grind arith

post-apart : (m : Group) (c : ℕ) (u : World) (d : Whose) (w : World) (b : Birth) (p : PortRow) (by : Creator) (q : Birth) → Sure m c u w → Posted m c u w b p by q → m b.process ≡ false → are_apart m c u d w (enter (closed_row p q by) w) ≡ true
post-apart m c u d w b p by q s is out =
    let y : MessageRow = closed_row p q by in
    let p_out : m p.birth.process ≡ false = ap (λ (b : Birth). m b.process) is.birth ∙ out in
    let own : owner u by.client.thread ≡ Some by.client.process = rw s.used (sent-owner w y is.sent) in
    let by_out : m by.client.process ≡ false = together m by.client.process p.birth.process (first-true (are_together m by.client.process p.birth.process) _ is.fair) ∙ p_out in
    enter-apart m c u d w y (rw p_out refl) (post-other m c b q is.fine out)
    (unseen-at m w by.client.thread q (unseen-wait m u w by.client.thread by.client.process s.owned own by_out)) s.owned s.fair s.patient

post-mute : (m : Group) (c : ℕ) (u : World) (d : Whose) (w : World) (memo : List Heard) (b : Birth) (p : PortRow) (by : Creator) (q : Birth) → Sure m c u w → Numbered u → Posted m c u w b p by q → m b.process ≡ false → entries_memo m (view m w) memo (told_inputs m c u d (entries_of (enter (closed_row p q by) w))) ≡ memo
post-mute m c u d w memo b p by q s n is out =
    let y : MessageRow = closed_row p q by in
    let r : Reads y = reads-of w.used_threads y (subst (λ us. every of_number us ≡ true) s.used n) is.sent refl in
    mute-entered m c u d w memo y s r refl (post-other m c b q is.fine out) (first (takes y) w.waits) refl

-- it shows a message of the port's side
post-shown : (m : Group) (c : ℕ) (u w : World) (b : Birth) (p : PortRow) (by : Creator) (q : Birth) → Sure m c u w → Numbered u → Posted m c u w b p by q → (side : Bool) → m b.process ≡ side → are_shown false m side w (enter (closed_row p q by) w) ≡ true
post-shown m c u w b p by q s n is side its =
    let y : MessageRow = closed_row p q by in
    let r : Reads y = reads-of w.used_threads y (subst (λ us. every of_number us ≡ true) s.used n) is.sent refl in
    let of_port : m by.client.process ≡ m p.birth.process = together m by.client.process p.birth.process (first-true (are_together m by.client.process p.birth.process) _ is.fair) in
    enter-shown false m side w y refl s.once r refl (of_port ∙ ap (λ (b : Birth). m b.process) is.birth ∙ its)

-- of a member's
post-inside : (m : Group) (c : ℕ) (b q : Birth) → is_fine_client m c b q ≡ true → m b.process ≡ true → m q.process ≡ true
post-inside m c b q fine is = grind arith

post-ours : (m : Group) (c : ℕ) (u w : World) (b : Birth) (p : PortRow) (by : Creator) (q : Birth) → Sure m c u w → Posted m c u w b p by q → m b.process ≡ true → are_ours m w (enter (closed_row p q by) w) ≡ true
post-ours m c u w b p by q s is inside =
    enter-ours m w (closed_row p q by) (and_from _ _ (ap (λ (b : Birth). m b.process) is.birth ∙ inside) (post-inside m c b q is.fine inside)) s.patient

-- and it is told alike in the view
server-view : (m : Group) (c : ℕ) (u w : World) (b : Birth) (p : PortRow) → Sure m c u w → m b.process ≡ true → port_row w b ≡ Some p → server_of (view m w) (seen_port m p) ≡ server_of w p
server-view m c u w b p s inside row = at (is_client_port p) p.completed refl
  where
    birth : p.birth ≡ b
    birth = birth-same p.birth b (first-passes (is_port b) w.ports p row)

    opened : (o : Option Birth) → is_client_port p ≡ true → p.connection ≡ o → if_open (view m w) o ≡ if_open w o
    opened None kind to = refl
    opened (Some q) kind to =
        let fine : is_fine_client m c p.birth q ≡ true = fine-kind m c p q p.kind refl kind to (every-first (is_fine_port m c) (is_port b) w.ports p (s.fine).1 row) in
        let q_in : m q.process ≡ true = post-inside m c p.birth q fine (ap (λ (b : Birth). m b.process) birth ∙ inside) in
        rw (open-view m c w q s.fair q_in) refl

    at : (a d : Bool) → is_client_port p ≡ a → if_open (view m w) (cond (a && d) p.connection None) ≡ if_open w (cond (a && d) p.connection None)
    at true true kind = opened p.connection kind refl
    at true false kind = refl
    at false d kind = refl

told-view : (m : Group) (c : ℕ) (u w : World) (b : Birth) (p : PortRow) → Sure m c u w → m b.process ≡ true → port_row w b ≡ Some p → closing_post (view m w) (seen_port m p) ≡ closing_post w p
told-view m c u w b p s inside row = ap (λ o. option_and_then (λ queue. option_map (closed_row p queue) p.creator) o) (server-view m c u w b p s inside row)

post-view : (m : Group) (c : ℕ) (u w : World) (b : Birth) → Sure m c u w → m b.process ≡ true → post_closed b (view m w) ≡ post_closed b w
post-view m c u w b s inside = ap (λ o. given o (λ p. given (closing_post (view m w) p) (λ y. enter y (view m w)))) (port-view m w b inside) ∙ at (port_row w b) refl
  where
    by-creator : (p : PortRow) (q : Birth) → port_row w b ≡ Some p → server_of w p ≡ Some q → (o : Option Creator) → p.creator ≡ o → given (option_map (closed_row p q) o) (λ y. enter y (view m w)) ≡ given (option_map (closed_row p q) o) (λ y. enter y w)
    by-creator p q row server None made = refl
    by-creator p q row server (Some by) made = enter-view m c w (closed_row p q by) s.fair (post-inside m c b q (posted m c u w b p by q s row made server).fine inside)

    by-server : (p : PortRow) → port_row w b ≡ Some p → (o : Option Birth) → server_of w p ≡ o → given (option_and_then (λ queue. option_map (closed_row p queue) p.creator) o) (λ y. enter y (view m w)) ≡ given (option_and_then (λ queue. option_map (closed_row p queue) p.creator) o) (λ y. enter y w)
    by-server p row None server = refl
    by-server p row (Some q) server = by-creator p q row server p.creator refl

    at : (o : Option PortRow) → port_row w b ≡ o → given (option_map (seen_port m) o) (λ p. given (closing_post (view m w) p) (λ y. enter y (view m w))) ≡ given o (λ p. given (closing_post w p) (λ y. enter y w))
    at None row = refl
    at (Some p) row = ap (λ o. given o (λ y. enter y (view m w))) (told-view m c u w b p s inside row) ∙ by-server p row (server_of w p) refl

-- it stands in the queue of the connection port
pub entered-none : (y : MessageRow) (o : Option WaitRow) → asks y.message ≡ false → every sends_none (given o (λ z. given_steps z y ++ woken SUCCESS (shown z y) z ∷ [])) ≡ true
entered-none y None asked = refl
entered-none y (Some z) asked = given-none z.kind refl
  where
    given-none : (k : WaitKind) → z.kind ≡ k → every sends_none (given_steps z y ++ woken SUCCESS (shown z y) z ∷ []) ≡ true
    given-none (Request a) k = rw (k, asked) refl
    given-none Receive k = rw (k, asked) refl
    given-none Listen k = rw (k, asked) refl
    given-none (Connect a offer) k = rw (k, asked) refl
    given-none (Accepted a r) k = rw (k, asked) refl
    given-none (Event e) k = rw (k, asked) refl

post-sent : (w : World) (b : Birth) (p : PortRow) (by : Creator) (q : Birth) → port_row w b ≡ Some p → server_of w p ≡ Some q → are_sent w (enter (closed_row p q by) w) ≡ true
post-sent w b p by q row server =
    let y : MessageRow = closed_row p q by in
    let birth : p.birth ≡ b = birth-same p.birth b (first-passes (is_port b) w.ports p row) in
    let here : port_row w p.birth ≡ Some p = subst (λ b. port_row w b ≡ Some p) (sym birth) row in
    let home : is_sent_home w y ≡ true = rw (here, (client-of w p q server).1) (or-true (not (is_client_port p)) (birth-self q)) in
    and_from _ _ home (none-sent (basic w (Enters y)) (given (first (takes y) w.waits) (λ z. given_steps z y ++ woken SUCCESS (shown z y) z ∷ [])) (entered-none y (first (takes y) w.waits) refl))
  where
    or-true : (a : Bool) {d : Bool} → d ≡ true → (a || d) ≡ true
    or-true a is = grind arith

-- what the end of a closing owes
pub post-good : (m : Group) (c : ℕ) (b : Birth) → Good m c b (post_closed b)
post-good m c b = record {
  mild = λ w. on-post AreMild w b refl (λ p by q row made server. mild-entered (closed_row p q by) (first (takes (closed_row p q by)) w.waits) refl);
  sent = λ w. on-post (λ bs. are_sent w bs ≡ true) w b refl (λ p by q row made server. post-sent w b p by q row server);
  fair = λ u w s. on-post (λ bs. are_fair m c w bs ≡ true) w b refl (λ p by q row made server. let is = posted m c u w b p by q s row made server in enter-fair m c w (closed_row p q by) (and_from _ _ is.fair is.sent));
  asked = λ u w s. on-post (λ bs. Asked (world_after w bs)) w b s.asked (λ p by q row made server. enters-asked w (closed_row p q by) s.asked (enter-asked w (closed_row p q by) s.asked s.patient s.once refl));
  apart = λ u d w s out. on-post (λ bs. are_apart m c u d w bs ≡ true) w b refl (λ p by q row made server. post-apart m c u d w b p by q s (posted m c u w b p by q s row made server) out);
  mute = λ u d w memo s n out. on-post (λ bs. entries_memo m (view m w) memo (told_inputs m c u d (entries_of bs)) ≡ memo) w b refl (λ p by q row made server. post-mute m c u d w memo b p by q s n (posted m c u w b p by q s row made server) out);
  shown = λ u w s n side is. on-post (λ bs. are_shown false m side w bs ≡ true) w b refl (λ p by q row made server. post-shown m c u w b p by q s n (posted m c u w b p by q s row made server) side is);
  ours = λ u w s mine. ours u w s (ap m mine ∙ s.c_in);
  led = λ u d w s inside. rw (post-view m c u w b s inside) (led-same m c u d w (post_closed b w) (ours u w s inside));
  same = λ u w s mine. post-view m c u w b s (ap m mine ∙ s.c_in);
  alike = λ k u closed live. rw (row-thin k u b live) refl;
  stands = λ k u closed live. on-post (AreClosed k) u b refl (λ p by q row made server. enter-closed k u (closed_row p q by) (ap k.ports (birth-same p.birth b (first-passes (is_port b) u.ports p row)) ∙ live));
}
  where
    enters-asked : (w : World) (y : MessageRow) → Asked w → are_asked w (enter y w) ≡ true → Asked (world_after w (enter y w))
    enters-asked w y a is = run-asked w (enter y w) is a

    ours : (u w : World) → Sure m c u w → m b.process ≡ true → are_ours m w (post_closed b w) ≡ true
    ours u w s inside = on-post (λ bs. are_ours m w bs ≡ true) w b refl (λ p by q row made server. post-ours m c u w b p by q s (posted m c u w b p by q s row made server) inside)

-- and then the views that the port owns go
pub disowns-good : (m : Group) (c : ℕ) (b : Birth) (f : Steps) → Good m c b f → Good m c b (f ▹ doing (DropsOwned b ∷ []))
disowns-good m c b f g = record {
  mild = λ w. every-append _ (f w) (DropsOwned b ∷ []) (g.mild w) refl;
  sent = λ w. append-sent w (f w) (DropsOwned b ∷ []) (g.sent w) refl;
  fair = λ u w s. fair-append m c w (f w) (DropsOwned b ∷ []) (g.fair u w s) refl;
  asked = λ u w s. subst Asked (sym (after-append w (f w) (DropsOwned b ∷ []))) (basic-asked (world_after w (f w)) (DropsOwned b) refl (g.asked u w s));
  apart = λ u d w s out. apart-append m c u d w (f w) (DropsOwned b ∷ []) (g.apart u d w s out) (rw (unseen-owned m c (world_after w (f w)) b (run-fair m c w (f w) (g.fair u w s) s.fair) out) refl);
  mute = λ u d w memo s n out. mute-append m c u d w memo (f w) (DropsOwned b ∷ []) s.c_in (g.apart u d w s out) (g.mute u d w memo s n out) refl;
  shown = λ u w s n side is. shown-append false m side w (f w) (DropsOwned b ∷ []) (g.shown u w s n side is) refl;
  ours = λ u w s inside. ours-append m w (f w) (DropsOwned b ∷ []) (g.ours u w s inside) refl;
  led = λ u d w s inside. led-append m c u d w (f w) (f (view m w)) (DropsOwned b ∷ []) (DropsOwned b ∷ []) (g.led u d w s inside) (led-same m c u d (world_after w (f w)) (DropsOwned b ∷ []) refl);
  same = λ u w s mine. ap (λ bs. bs ++ DropsOwned b ∷ []) (g.same u w s mine);
  alike = λ k u closed live. ap (λ bs. bs ++ DropsOwned b ∷ []) (g.alike k u closed live);
  stands = λ k u closed live. every-append _ (f u) (DropsOwned b ∷ []) (g.stands k u closed live) refl;
}
