-- NtClose in a view.
use Rattle.std.proofs.Common.{◌≡◌, ℕ, List, [], ◌∷◌, ◌++◌, Bool, true, false, cond, Some, refl, ap, sym, subst, ◌∙◌, arith}
use Rattle.std.specs.Prelude.{◌&&◌, ◌==◌, length, Ok}
use Rattle.std.proofs.lemmas.Bool.{eqb-true, false_from_ne_true}
use Rattle.std.proofs.lemmas.List.Elements.{filter-append}
use Rattle.lpc_base.specs.Rows.{each, every, first, when, which}
use Rattle.lpc_base.proofs.RowWords.{every-append}
use Rattle.lpc_base.proofs.RowMaps.{every-first}
use Rattle.lpc_base.proofs.Bools.{first-true, second-true}
use Rattle.lpc_base.specs.declared.status.TheConstants.{INVALID_HANDLE, SUCCESS}
use Rattle.lpc_model.specs.declared.entry.CallName.TheVariants.{NtClose}
use Rattle.lpc_model.specs.declared.entry.Entry.{Entry}
use Rattle.lpc_model.specs.declared.entry.Entry.TheVariants.{Answer}
use Rattle.lpc_model.specs.declared.entry.ObjectKind.TheVariants as kind
use Rattle.lpc_model.specs.World.{Birth, HandleRow, HandleTable, ObjectName, ThreadRow, World}
use Rattle.lpc_model.specs.Found.{handle_at, handle_count, handles_of, has_value, is_table, same_kind, same_object}
use Rattle.lpc_model.specs.Basics.{Basic, DropsHandle, Steps, Tells, doing, entries_of, provided, world_after, ◌▹◌}
use Rattle.lpc_model.specs.Tests.{own_handle}
use Rattle.lpc_model.specs.Close.{close_handle, close_port, is_last, nt_close}
use Rattle.lpc_model.specs.Lines.{close}
use Rattle.lpc_isolation.proofs.Gone.Served.{served}
use Rattle.lpc_model.specs.Circle.{Group, Whose, is_fine_call}
use Rattle.lpc_model.proofs.Calls.Holding.{found_ok}
use Rattle.lpc_model.proofs.Steps.InTurn.{after-append}
use Rattle.lpc_isolation.proofs.Views.Alone.{alone}
use Rattle.lpc_isolation.proofs.Views.View.{our_table, view}
use Rattle.lpc_isolation.proofs.Views.Basics.{are_ours, ours-append}
use Rattle.lpc_isolation.proofs.Rows.Fair.{are_fair, fair-append, is_fair_table, is_own}
use Rattle.lpc_isolation.proofs.Views.Seen.{bind-same, handle-own, handle-view}
use Rattle.lpc_isolation.proofs.Views.Apart.{apart-append, are_apart, is_heard}
use Rattle.lpc_isolation.proofs.Views.Callers.{Led, led-same}
use Rattle.lpc_isolation.proofs.Each.Receive.{led-append}
use Rattle.lpc_isolation.proofs.Plays.Play.{told_inputs}
use Rattle.lpc_isolation.proofs.Each.Sends.{Caller}
use Rattle.lpc_isolation.proofs.Rows.Clients.{sound-clients}
use Rattle.lpc_isolation.proofs.Rows.Sent.{append-sent, are_sent}
use Rattle.lpc_isolation.proofs.Rows.Asked.{Asked, basic-asked}
use Rattle.lpc_isolation.proofs.Each.Refuses.{Refuses, bind, found}
use Rattle.lpc_isolation.proofs.Memory.Heard.{entries_memo}
use Rattle.lpc_isolation.proofs.Each.Instances.{At, caller}
use Rattle.lpc_isolation.proofs.Gone.Thin.{Alive, Closed, handle_closed, port-live, thin}
use Rattle.lpc_isolation.proofs.Gone.ThinCalls.{AreClosed, rows-closed}
use Rattle.lpc_isolation.proofs.Closings.Mild.{AreMild, Sure}
use Rattle.lpc_isolation.proofs.Closings.Shown.{are_shown, shown-append}
use Rattle.lpc_isolation.proofs.Closings.Stages.{Good, mute-append}
use Rattle.lpc_isolation.proofs.Closings.Ports.{close-good}

-- The handles to an object of a member's are in the view
none-named : (o : ObjectName) (pid : ℕ) (rows : List HandleRow) → every (is_own pid) rows ≡ true → (o.birth.process == pid) ≡ false → which (λ h. same_object h.object o) rows ≡ []
none-named o pid [] own other = refl
none-named o pid (h ∷ rows) own other = at (same_object h.object o) refl (none-named o pid rows (second-true _ _ own) other)
  where
    at : (e : Bool) → same_object h.object o ≡ e → which (λ h. same_object h.object o) rows ≡ [] → which (λ h. same_object h.object o) (h ∷ rows) ≡ []
    at true same rest = absurd (grind arith)
    at false off rest = rw off rest

named-same : (m : Group) (o : ObjectName) (ts : List HandleTable) → m o.birth.process ≡ true → every is_fair_table ts ≡ true → which (λ h. same_object h.object o) (each (λ t. t.rows) (which (our_table m) ts)) ≡ which (λ h. same_object h.object o) (each (λ t. t.rows) ts)
named-same m o [] inside fair = refl
named-same m o (t ∷ ts) inside fair = at (m t.process) refl (named-same m o ts inside (second-true _ _ fair))
  where
    test : HandleRow → Bool
    test = λ h. same_object h.object o

    off : m t.process ≡ false → (o.birth.process == t.process) ≡ false
    off out = false_from_ne_true (o.birth.process == t.process) (λ same. let k : m o.birth.process ≡ m t.process = ap m (eqb-true _ _ same) in cc)

    at : (e : Bool) → m t.process ≡ e → which test (each (λ t. t.rows) (which (our_table m) ts)) ≡ which test (each (λ t. t.rows) ts) → which test (each (λ t. t.rows) (which (our_table m) (t ∷ ts))) ≡ which test (each (λ t. t.rows) (t ∷ ts))
    at true is rest = rw is (filter-append test t.rows (each (λ t. t.rows) (which (our_table m) ts)) ∙ ap (λ hs. which test t.rows ++ hs) rest ∙ sym (filter-append test t.rows (each (λ t. t.rows) ts)))
    at false out rest = rw out (rest ∙ sym (filter-append test t.rows (each (λ t. t.rows) ts) ∙ ap (λ hs. hs ++ which test (each (λ t. t.rows) ts)) (none-named o t.process t.rows (first-fair t ts fair) (off out))))
      where
        first-fair : (t : HandleTable) (ts : List HandleTable) → every is_fair_table (t ∷ ts) ≡ true → is_fair_table t ≡ true
        first-fair t ts is = grind arith

pub handle_count-view : (m : Group) (c : ℕ) (w : World) (o : ObjectName) → every is_fair_table w.handles ≡ true → m o.birth.process ≡ true → handle_count (view m w) o ≡ handle_count w o
handle_count-view m c w o fair inside = ap length (named-same m o w.handles inside fair)

-- A handle goes
-- steps where a test holds
provided-good : (m : Group) (c : ℕ) (b : Birth) (test : World → Bool) (f : Steps) → Good m c b f → ((u w : World) → Sure m c u w → m b.process ≡ true → test (view m w) ≡ test w) → ((k : Alive) (u : World) → test (thin k u) ≡ test u) → Good m c b (provided test f)
provided-good m c b test f g seen thinly = record {
  mild = λ w. at AreMild w refl (g.mild w);
  sent = λ w. at (λ bs. are_sent w bs ≡ true) w refl (g.sent w);
  fair = λ u w s. at (λ bs. are_fair m c w bs ≡ true) w refl (g.fair u w s);
  asked = λ u w s. at (λ bs. Asked (world_after w bs)) w s.asked (g.asked u w s);
  apart = λ u d w s out. at (λ bs. are_apart m c u d w bs ≡ true) w refl (g.apart u d w s out);
  mute = λ u d w memo s n out. at (λ bs. entries_memo m (view m w) memo (told_inputs m c u d (entries_of bs)) ≡ memo) w refl (g.mute u d w memo s n out);
  shown = λ u w s n side is. at (λ bs. are_shown false m side w bs ≡ true) w refl (g.shown u w s n side is);
  ours = λ u w s inside. at (λ bs. are_ours m w bs ≡ true) w refl (g.ours u w s inside);
  led = λ u d w s inside. ap-led u d w (test (view m w)) (seen u w s inside) (g.led u d w s inside);
  same = λ u w s mine. ap (λ e. when e (f (view m w))) (seen u w s (ap m mine ∙ s.c_in)) ∙ ap (λ bs. when (test w) bs) (g.same u w s mine);
  alike = λ k u closed live. ap (λ e. when e (f (thin k u))) (thinly k u) ∙ ap (λ bs. when (test u) bs) (g.alike k u closed live);
  stands = λ k u closed live. at (AreClosed k) u refl (g.stands k u closed live);
}
  where
    by : (P : List Basic → Type 0) (bs : List Basic) (e : Bool) → P [] → P bs → P (when e bs)
    by P bs true none some = some
    by P bs false none some = none

    at : (P : List Basic → Type 0) (w : World) → P [] → P (f w) → P (provided test f w)
    at P w none some = by P (f w) (test w) none some

    ap-led : (u : World) (d : Whose) (w : World) (e : Bool) → e ≡ test w → Led m c u d w (f w) (f (view m w)) → Led m c u d w (when (test w) (f w)) (when e (f (view m w)))
    ap-led u d w e same l = subst (λ e. Led m c u d w (when (test w) (f w)) (when e (f (view m w)))) (sym same) (both-led (test w))
      where
        both-led : (e : Bool) → Led m c u d w (when e (f w)) (when e (f (view m w)))
        both-led true = l
        both-led false = record { world = refl; told = refl }

-- and then the handle
drops-good : (m : Group) (c : ℕ) (b : Birth) (pid value : ℕ) (f : Steps) → b.process ≡ pid → Good m c b f → Good m c b (f ▹ doing (DropsHandle pid value ∷ []))
drops-good m c b pid value f own g = record {
  mild = λ w. every-append _ (f w) (DropsHandle pid value ∷ []) (g.mild w) refl;
  sent = λ w. append-sent w (f w) (DropsHandle pid value ∷ []) (g.sent w) refl;
  fair = λ u w s. fair-append m c w (f w) (DropsHandle pid value ∷ []) (g.fair u w s) refl;
  asked = λ u w s. subst Asked (sym (after-append w (f w) (DropsHandle pid value ∷ []))) (basic-asked (world_after w (f w)) (DropsHandle pid value) refl (g.asked u w s));
  apart = λ u d w s out. apart-append m c u d w (f w) (DropsHandle pid value ∷ []) (g.apart u d w s out) (rw (sym (ap m own) ∙ out) refl);
  mute = λ u d w memo s n out. mute-append m c u d w memo (f w) (DropsHandle pid value ∷ []) s.c_in (g.apart u d w s out) (g.mute u d w memo s n out) refl;
  shown = λ u w s n side is. shown-append false m side w (f w) (DropsHandle pid value ∷ []) (g.shown u w s n side is) refl;
  ours = λ u w s inside. ours-append m w (f w) (DropsHandle pid value ∷ []) (g.ours u w s inside) refl;
  led = λ u d w s inside. led-append m c u d w (f w) (f (view m w)) (DropsHandle pid value ∷ []) (DropsHandle pid value ∷ []) (g.led u d w s inside) (led-same m c u d (world_after w (f w)) (DropsHandle pid value ∷ []) refl);
  same = λ u w s mine. ap (λ bs. bs ++ DropsHandle pid value ∷ []) (g.same u w s mine);
  alike = λ k u closed live. ap (λ bs. bs ++ DropsHandle pid value ∷ []) (g.alike k u closed live);
  stands = λ k u closed live. every-append _ (f u) (DropsHandle pid value ∷ []) (g.stands k u closed live) refl;
}

pub handle-good : (m : Group) (c : ℕ) (pid : ℕ) (r : HandleRow) → r.object.birth.process ≡ pid → Good m c r.object.birth (close_handle pid r)
handle-good m c pid r own =
    drops-good m c r.object.birth pid r.value (provided (is_last r) (close_port r.object.birth)) own
    (provided-good m c r.object.birth (is_last r) (close_port r.object.birth) (close-good m c r.object.birth)
    (λ u w s inside. ap (λ n. same_kind r.object.kind kind.Port && (n == 1)) (handle_count-view m c w r.object s.fair.tables inside)) (λ k u. refl))

-- whosever it is
pub handle-mild : (w : World) (pid : ℕ) (r : HandleRow) → AreMild (close_handle pid r w)
handle-mild w pid r = every-append _ (provided (is_last r) (close_port r.object.birth) w) (DropsHandle pid r.value ∷ []) (gone (is_last r w)) refl
  where
    gone : (e : Bool) → AreMild (when e (close_port r.object.birth w))
    gone true = (close-good (λ p. true) 0 r.object.birth).mild w
    gone false = refl

pub handle-sent : (w : World) (pid : ℕ) (r : HandleRow) → are_sent w (close_handle pid r w) ≡ true
handle-sent w pid r = append-sent w (provided (is_last r) (close_port r.object.birth) w) (DropsHandle pid r.value ∷ []) (gone (is_last r w)) refl
  where
    gone : (e : Bool) → are_sent w (when e (close_port r.object.birth w)) ≡ true
    gone true = (close-good (λ p. true) 0 r.object.birth).sent w
    gone false = refl

-- The call
abbrev told_first : ThreadRow → Entry
told_first by = Answer by.number NtClose SUCCESS []

pub caller-sure : (m : Group) (c : ℕ) (u w : World) (by : ThreadRow) → Caller m c u w by → Sure m c u w
caller-sure m c u w by k = record { c_in = k.c_in; used = k.used; fair = k.fair; fine = k.fine; owned = k.owned; patient = k.patient; once = k.once; paths = k.paths; clients = sound-clients w k.sound; asked = k.asked }

-- what the handle's going owes
good : (m : Group) (c : ℕ) (u w : World) (by : ThreadRow) (value : ℕ) (r : HandleRow) → Caller m c u w by → handle_at w by.process value ≡ Some r → Good m c r.object.birth (close_handle by.process r)
good m c u w by value r k at = handle-good m c by.process r (handle-own m c w by.process value r k.fair at)

whose : (m : Group) (c : ℕ) (u w : World) (by : ThreadRow) (value : ℕ) (r : HandleRow) → Caller m c u w by → handle_at w by.process value ≡ Some r → r.object.birth.process ≡ by.process
whose m c u w by value r k at = handle-own m c w by.process value r k.fair at

pub refuses-close : (w : World) (by : ThreadRow) (handle : ℕ) → Refuses (served w by (close handle))
unfolding nt_close
refuses-close w by handle = bind (own_handle w by handle) _ (found (handle_at w by.process handle) INVALID_HANDLE refl) (λ r. tt)

pub same-close : (m : Group) (c : ℕ) (w : World) (by : ThreadRow) (known : List ℕ → Birth) (handle : ℕ) → At m c w by known → by.process ≡ c → is_fine_call m w (close handle) ≡ true → served (view m w) by (close handle) ≡ served w by (close handle)
unfolding nt_close
same-close m c w by known handle a mine fine =
    let k = caller m c w by known w a refl in
    rw (handle-view m w by.process handle (ap m mine ∙ a.c_in)) (bind-same (own_handle w by handle) _ _ (λ r at.
    let here = found_ok (handle_at w by.process handle) INVALID_HANDLE r at in
    ap (λ bs. Ok (Tells (told_first by) ∷ bs)) ((good m c w w by handle r k here).same w w (caller-sure m c w w by k) (whose m c w w by handle r k here ∙ mine))))

-- the same steps behind an entry
pub tells-led : (m : Group) (c : ℕ) (u : World) (d : Whose) (w : World) (e : Entry) (bs led : List Basic) → Led m c u d w bs led → Led m c u d w (Tells e ∷ bs) (Tells e ∷ led)
tells-led m c u d w e bs led l = record { world = l.world; told = ap (λ es. cond (is_heard (alone c) u d e) (e ∷ es) es) l.told }

-- where rows have gone
pub thin-handle : (k : Alive) (u : World) (pid : ℕ) (r : HandleRow) → Closed k u → handle_closed k r ≡ true → close_handle pid r (thin k u) ≡ close_handle pid r u
thin-handle k u pid r closed live = at (same_kind r.object.kind kind.Port) refl
  where
    at : (e : Bool) → same_kind r.object.kind kind.Port ≡ e → close_handle pid r (thin k u) ≡ close_handle pid r u
    at true port = ap (λ bs. when (is_last r u) bs ++ DropsHandle pid r.value ∷ []) ((close-good (λ p. true) 0 r.object.birth).alike k u closed (port-live k r.object live port))
    at false off = rw off refl

pub alike-close : (k : Alive) (u : World) (by : ThreadRow) (handle : ℕ) → Closed k u → served (thin k u) by (close handle) ≡ served u by (close handle)
unfolding nt_close
alike-close k u by handle c = bind-same (own_handle u by handle) _ _ (λ r at.
    let live : handle_closed k r ≡ true = every-first (handle_closed k) (has_value handle) (handles_of u by.process) r (rows-closed k by.process u.handles (first (is_table by.process) u.handles) refl c.tables) (found_ok (handle_at u by.process handle) INVALID_HANDLE r at) in
    ap (λ bs. Ok (Tells (told_first by) ∷ bs)) (thin-handle k u by.process r c live))

pub handle-stands : (k : Alive) (u : World) (pid : ℕ) (r : HandleRow) → Closed k u → handle_closed k r ≡ true → AreClosed k (close_handle pid r u)
handle-stands k u pid r c live = every-append _ (provided (is_last r) (close_port r.object.birth) u) (DropsHandle pid r.value ∷ []) (gone (is_last r u) refl) refl
  where
    gone : (e : Bool) → is_last r u ≡ e → AreClosed k (when e (close_port r.object.birth u))
    gone true last = (close-good (λ p. true) 0 r.object.birth).stands k u c (port-live k r.object live (first-true _ _ last))
    gone false off = refl
