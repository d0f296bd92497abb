-- Steps leave handles and views to living processes alone, where they give none to others and end no thread.
use Rattle.std.proofs.Common.{◌≡◌, ℕ, ◌≤◌, List, [], ◌∷◌, Bool, true, false, map, not, refl, subst, sym, arith, ◌∙◌}
use Rattle.std.specs.Prelude.{◌&&◌, ◌||◌, ◌==◌}
use Rattle.std.proofs.lemmas.Bool.{eqb-true, or_left, or_right}
use Rattle.lpc_base.specs.Rows.{change, every}
use Rattle.lpc_base.proofs.RowWords.{every-change, every-more, every-push, has-change, has-kept, every-without}
use Rattle.lpc_base.proofs.RowMaps.{every-change_to, every-mapped}
use Rattle.lpc_base.proofs.Bools.{second-more}
use Rattle.lpc_model.specs.declared.entry.ObjectKind.TheVariants as kind
use Rattle.lpc_model.specs.World.{Birth, HandleRow, HandleTable, ObjectKind, ObjectName, ThreadRow, ViewRow, ViewTable, World, ProcessRow}
use Rattle.lpc_model.specs.Found.{is_life, is_live, is_space, is_table, is_thread, lives_in, pointer_count, same_birth, is_process}
use Rattle.lpc_model.specs.Basics.{AddsHandle, AddsProcess, AddsThread, Basic, Dies, DrawsIdentifier, DrawsOrdinal, DropsHandle, DropsOwned, DropsViewsOf, Frees, Maps, Registers, Unmaps, Unregisters, basic, freed, no_handles, no_views, past_identifier, past_ordinal, registering, unregistering, with_handle, with_view, without_handle, without_owned, without_view, without_views, world_after, Acts, acting, Dooms, LetsGo, SetsDebug, SetsException, debugged, doomed, excepted, portless}
use Rattle.lpc_model.specs.Sweep.{free_unheld, is_unheld, sweep, unheld}
use Rattle.lpc_model.specs.Left.{HasLivingHandles, HasLivingViews, is_living_space, is_living_table, lacks_handles, lacks_views, HasLivingPorts, is_living_process, is_portless}
use Rattle.lpc_model.proofs.Deaths.Deathless.{is_mild}
use Rattle.lpc_model.proofs.Steps.Rows.{has-without}
use Rattle.lpc_model.proofs.Sound.Frees.{is-zero, less-held, none-pass, sum-second, which-all}
use Rattle.lpc_model.proofs.Steps.InTurn.{after-append}

-- Steps
-- a step gives handles and views to processes that live in a world alone, and ends no thread
abbrev pub is_homely : World → Basic → Bool
is_homely w (AddsHandle pid h) = is_live w pid
is_homely w (Maps pid x) = is_live w pid
is_homely w (SetsDebug pid b) = is_live w pid
is_homely w (SetsException pid b) = is_live w pid
is_homely w (AddsProcess p) = is_portless p
is_homely w (Dies who status) = false
is_homely w (Frees o) = false
is_homely w b = true

abbrev pub AreHomely : World → List Basic → Type 0
AreHomely w bs = every (is_homely w) bs ≡ true

abbrev pub StayLive : World → World → Type 0
StayLive w v = (pid : ℕ) → is_live w pid ≡ true → is_live v pid ≡ true

either-more : (a b c : Bool) → (a ≡ true → b ≡ true) → (a || c) ≡ true → (b || c) ≡ true
either-more a b c more is = grind (arith, more)

tables-live : (w v : World) → StayLive w v → (ts : List HandleTable) → every (is_living_table w) ts ≡ true → every (is_living_table v) ts ≡ true
tables-live w v stay ts all = every-more (is_living_table w) (is_living_table v) (λ t is. either-more (is_live w t.process) (is_live v t.process) (lacks_handles t) (stay t.process) is) ts all

pub views-live : (w v : World) → StayLive w v → (ts : List ViewTable) → every (is_living_space w) ts ≡ true → every (is_living_space v) ts ≡ true
views-live w v stay ts all = every-more (is_living_space w) (is_living_space v) (λ t is. either-more (is_live w t.process) (is_live v t.process) (lacks_views t) (stay t.process) is) ts all

pub lacks-less : (value : ℕ) (t : HandleTable) → lacks_handles t ≡ true → lacks_handles (without_handle value t) ≡ true
lacks-less value t = at t.rows
  where
    at : (rs : List HandleRow) → let t : HandleTable = record { process = t.process; rows = rs } in lacks_handles t ≡ true → lacks_handles (without_handle value t) ≡ true
    at [] is = refl
    at (r ∷ rs) is = absurd (cc)

lacks-fewer : (base : ℕ) (t : ViewTable) → lacks_views t ≡ true → lacks_views (without_view base t) ≡ true
lacks-fewer base t = at t.rows
  where
    at : (rs : List ViewRow) → let t : ViewTable = record { process = t.process; rows = rs } in lacks_views t ≡ true → lacks_views (without_view base t) ≡ true
    at [] is = refl
    at (r ∷ rs) is = absurd (cc)

pub lacks-unowned : (b : Birth) (t : ViewTable) → lacks_views t ≡ true → lacks_views (without_owned b t) ≡ true
lacks-unowned b t = at t.rows
  where
    at : (rs : List ViewRow) → let t : ViewTable = record { process = t.process; rows = rs } in lacks_views t ≡ true → lacks_views (without_owned b t) ≡ true
    at [] is = refl
    at (r ∷ rs) is = absurd (cc)

living-drawn : (w : World) (who : ℕ) (f : ThreadRow → ThreadRow) → ((pid : ℕ) (t : ThreadRow) → lives_in pid (f t) ≡ lives_in pid t) → HasLivingHandles w → HasLivingHandles (record w { threads = change (is_thread who) f w.threads })
living-drawn w who f same l = tables-live w (record w { threads = change (is_thread who) f w.threads }) (λ pid is. rw (has-change (lives_in pid) (is_thread who) f (same pid) w.threads) is) w.handles l

live-drawn : (w : World) (who : ℕ) (f : ThreadRow → ThreadRow) → ((pid : ℕ) (t : ThreadRow) → lives_in pid (f t) ≡ lives_in pid t) → StayLive w (record w { threads = change (is_thread who) f w.threads })
live-drawn w who f same pid is = rw (has-change (lives_in pid) (is_thread who) f (same pid) w.threads) is

viewing-drawn : (w : World) (who : ℕ) (f : ThreadRow → ThreadRow) → ((pid : ℕ) (t : ThreadRow) → lives_in pid (f t) ≡ lives_in pid t) → HasLivingViews w → HasLivingViews (record w { threads = change (is_thread who) f w.threads })
viewing-drawn w who f same l = views-live w (record w { threads = change (is_thread who) f w.threads }) (live-drawn w who f same) w.views l

-- handles and views are of living processes
pub record HasLivingRows (w : World) : Type 0 where
  pub handles : HasLivingHandles w
  pub views : HasLivingViews w
  pub ports : HasLivingPorts w

ports-live : (w v : World) → StayLive w v → (ps : List ProcessRow) → every (is_living_process w) ps ≡ true → every (is_living_process v) ps ≡ true
ports-live w v stay ps all = every-more (is_living_process w) (is_living_process v) (λ p is. either-more (is_live w p.number) (is_live v p.number) _ (stay p.number) is) ps all

-- a process gets a port while it lives, lets both go, or is to end
set-ports : (w : World) (pid : ℕ) (f : ProcessRow → ProcessRow) → ((p : ProcessRow) → (f p).number ≡ p.number) → is_live w pid ≡ true → HasLivingPorts w → HasLivingPorts (record w { processes = change (is_process pid) f w.processes })
set-ports w pid f numbers live l = every-change_to (is_living_process w) (is_living_process w) (is_process pid) f (λ p was here. or_left (is_live w (f p).number) _ (subst (λ n. is_live w n ≡ true) (sym (numbers p ∙ eqb-true p.number pid here)) live)) (λ p was off. was) w.processes l

-- a world behind another one
record IsHome (w v : World) : Type 0 where
  live : StayLive w v
  handles : HasLivingHandles w → HasLivingHandles v
  views : HasLivingViews w → HasLivingViews v
  ports : HasLivingPorts w → HasLivingPorts v

stay-all : (w : World) → StayLive w w
stay-all w pid is = is

home-step : (w v : World) (b : Basic) → StayLive w v → is_homely w b ≡ true → IsHome v (basic v b)
home-step w v (AddsHandle pid h) stay is = record {
  live = λ n one. one;
  handles = λ l. every-change_to (is_living_table v) (is_living_table v) (is_table pid) (with_handle h) (λ t was here. or_left (is_live v t.process) _ (subst (λ n. is_live v n ≡ true) (sym (eqb-true t.process pid here)) (stay pid is))) (λ t was off. was) v.handles l;
  views = λ l. l;
  ports = λ l. l;
}
home-step w v (SetsDebug pid b) stay is = record { live = λ n one. one; handles = λ l. l; views = λ l. l; ports = set-ports v pid (debugged b) (λ p. refl) (stay pid is) }
home-step w v (SetsException pid b) stay is = record { live = λ n one. one; handles = λ l. l; views = λ l. l; ports = set-ports v pid (excepted b) (λ p. refl) (stay pid is) }
home-step w v (LetsGo pid) stay is = record { live = λ n one. one; handles = λ l. l; views = λ l. l; ports = λ l. every-change (is_living_process v) (is_process pid) portless (λ p was. or_right (is_live v p.number) true refl) v.processes l }
home-step w v (Dooms pid code) stay is = record { live = λ n one. one; handles = λ l. l; views = λ l. l; ports = λ l. every-change (is_living_process v) (is_process pid) (doomed code) (λ p was. was) v.processes l }
home-step w v (DropsHandle pid value) stay is = record {
  live = λ n one. one;
  handles = λ l. every-change (is_living_table v) (is_table pid) (without_handle value) (λ t was. second-more (is_live v t.process) (lacks_handles t) (lacks_handles (without_handle value t)) (lacks-less value t) was) v.handles l;
  views = λ l. l;
  ports = λ l. l;
}
home-step w v (AddsProcess p) stay is = record { live = λ n one. one; handles = λ l. every-push (is_living_table v) v.handles (no_handles p.number) l (or_right (is_live v p.number) true refl); views = λ l. every-push (is_living_space v) v.views (no_views p.number) l (or_right (is_live v p.number) true refl); ports = λ l. every-push (is_living_process v) v.processes p l (or_right (is_live v p.number) (is_portless p) is) }
home-step w v (AddsThread t) stay is = record {
  live = λ n one. has-kept (lives_in n) v.threads t one;
  handles = λ l. tables-live v (basic v (AddsThread t)) (λ n one. has-kept (lives_in n) v.threads t one) v.handles l;
  views = λ l. views-live v (basic v (AddsThread t)) (λ n one. has-kept (lives_in n) v.threads t one) v.views l;
  ports = λ l. ports-live v (basic v (AddsThread t)) (λ n one. has-kept (lives_in n) v.threads t one) v.processes l;
}
home-step w v (DrawsIdentifier who) stay is = record { live = live-drawn v who past_identifier (λ n t. refl); handles = living-drawn v who past_identifier (λ n t. refl); views = viewing-drawn v who past_identifier (λ n t. refl); ports = λ l. ports-live v (basic v (DrawsIdentifier who)) (live-drawn v who past_identifier (λ n t. refl)) v.processes l }
home-step w v (DrawsOrdinal who) stay is = record { live = live-drawn v who past_ordinal (λ n t. refl); handles = living-drawn v who past_ordinal (λ n t. refl); views = viewing-drawn v who past_ordinal (λ n t. refl); ports = λ l. ports-live v (basic v (DrawsOrdinal who)) (live-drawn v who past_ordinal (λ n t. refl)) v.processes l }
home-step w v (Registers who b) stay is = record { live = live-drawn v who (registering b) (λ n t. refl); handles = living-drawn v who (registering b) (λ n t. refl); views = viewing-drawn v who (registering b) (λ n t. refl); ports = λ l. ports-live v (basic v (Registers who b)) (live-drawn v who (registering b) (λ n t. refl)) v.processes l }
home-step w v (Unregisters who b) stay is = record { live = live-drawn v who (unregistering b) (λ n t. refl); handles = living-drawn v who (unregistering b) (λ n t. refl); views = viewing-drawn v who (unregistering b) (λ n t. refl); ports = λ l. ports-live v (basic v (Unregisters who b)) (live-drawn v who (unregistering b) (λ n t. refl)) v.processes l }
home-step w v (Acts who own) stay is = record { live = live-drawn v who (acting own) (λ n t. refl); handles = living-drawn v who (acting own) (λ n t. refl); views = viewing-drawn v who (acting own) (λ n t. refl); ports = λ l. ports-live v (basic v (Acts who own)) (live-drawn v who (acting own) (λ n t. refl)) v.processes l }
home-step w v (Dies who status) stay is = absurd (cc)
home-step w v (Frees o) stay is = absurd (cc)
home-step w v (Maps pid x) stay is = record {
  live = λ n one. one;
  handles = λ l. l;
  views = λ l. every-change_to (is_living_space v) (is_living_space v) (is_space pid) (with_view x) (λ t was here. or_left (is_live v t.process) _ (subst (λ n. is_live v n ≡ true) (sym (eqb-true t.process pid here)) (stay pid is))) (λ t was off. was) v.views l;
  ports = λ l. l;
}
home-step w v (Unmaps pid base) stay is = record {
  live = λ n one. one;
  handles = λ l. l;
  views = λ l. every-change (is_living_space v) (is_space pid) (without_view base) (λ t was. second-more (is_live v t.process) (lacks_views t) (lacks_views (without_view base t)) (lacks-fewer base t) was) v.views l;
  ports = λ l. l;
}
home-step w v (DropsViewsOf pid) stay is = record {
  live = λ n one. one;
  handles = λ l. l;
  views = λ l. every-change (is_living_space v) (is_space pid) without_views (λ t was. or_right (is_live v t.process) true refl) v.views l;
  ports = λ l. l;
}
home-step w v (DropsOwned b) stay is = record {
  live = λ n one. one;
  handles = λ l. l;
  views = λ l. every-mapped (is_living_space v) (without_owned b) (λ t was. second-more (is_live v t.process) (lacks_views t) (lacks_views (without_owned b t)) (lacks-unowned b t) was) v.views l;
  ports = λ l. l;
}
home-step w v b stay is = record { live = λ n one. one; handles = λ l. l; views = λ l. l; ports = λ l. l }

homes-all : (w v : World) (bs : List Basic) → StayLive w v → AreHomely w bs → HasLivingRows v → HasLivingRows (world_after v bs)
homes-all w v [] stay all l = l
homes-all w v (b ∷ bs) stay all l =
    let here : is_homely w b ≡ true = grind arith in
    let later : every (is_homely w) bs ≡ true = grind arith in
    let k = home-step w v b stay here in
    homes-all w (basic v b) bs (λ n is. k.live n (stay n is)) later (record { handles = k.handles l.handles; views = k.views l.views; ports = k.ports l.ports })

pub homely-all : (w : World) (bs : List Basic) → AreHomely w bs → HasLivingRows w → HasLivingRows (world_after w bs)
homely-all w bs all l = homes-all w w bs (stay-all w) all l

pub mild-homely : (w : World) (b : Basic) → is_mild w b ≡ true → is_homely w b ≡ true
mild-homely w (Dies who status) is = absurd (cc)
mild-homely w (Frees o) is = absurd (cc)
mild-homely w (AddsHandle pid h) is = is
mild-homely w (SetsDebug pid b) is = is
mild-homely w (SetsException pid b) is = is
mild-homely w (AddsProcess p) is = is
mild-homely w (Maps pid x) is = is
mild-homely w b is = refl

-- Rows that go
-- a thread that no row counts for doesn't live
living-freed : (w : World) (o : ObjectName) → is_unheld w o ≡ true → HasLivingRows w → HasLivingRows (basic w (Frees o))
living-freed w o none l = at o.kind o.birth (is-zero (pointer_count w o) none)
  where
    apart : (b : Birth) (pid : ℕ) (t : ThreadRow) → not (is_life b t) ≡ true → (not (same_birth t.birth b) || not (lives_in pid t)) ≡ true
    apart b pid t off = parts t.live (same_birth t.birth b) (t.process == pid) off
      where
        parts : (l s p : Bool) → not (l && s) ≡ true → (not s || not (p && l)) ≡ true
        parts l s p is = grind arith

    at : (k : ObjectKind) (b : Birth) → pointer_count w (record { kind = k; birth = b }) ≤ 0 → HasLivingRows (freed w k b)
    at kind.Port b few = record { handles = l.handles; views = l.views; ports = l.ports }
    at kind.Section b few = record { handles = l.handles; views = l.views; ports = l.ports }
    at kind.Token b few = record { handles = l.handles; views = l.views; ports = l.ports }
    at kind.Process b few = record { handles = l.handles; views = l.views; ports = every-without (is_living_process w) (λ p. same_birth p.birth b) w.processes l.ports }
    at kind.Thread b few =
        let dead = none-pass (is_life b) w.threads (sum-second _ _ few) in
        let stay : StayLive w (freed w kind.Thread b) = λ pid is. has-without (lives_in pid) (λ t. same_birth t.birth b) w.threads (every-more (λ t. not (is_life b t)) (λ t. not (same_birth t.birth b) || not (lives_in pid t)) (λ t off. apart b pid t off) w.threads dead) is in
        record { handles = tables-live w (freed w kind.Thread b) stay w.handles l.handles; views = views-live w (freed w kind.Thread b) stay w.views l.views; ports = ports-live w (freed w kind.Thread b) stay w.processes l.ports }

living-frees : (w : World) (os : List ObjectName) → every (is_unheld w) os ≡ true → HasLivingRows w → HasLivingRows (world_after w (map Frees os))
living-frees w [] all l = l
living-frees w (o ∷ os) all l =
    let here : is_unheld w o ≡ true = grind arith in
    let later : every (is_unheld w) os ≡ true = grind arith in
    living-frees (basic w (Frees o)) os (every-more (is_unheld w) (is_unheld (basic w (Frees o))) (less-held w o) os later) (living-freed w o here l)

pub living-swept : (w : World) → HasLivingRows w → HasLivingRows (world_after w (sweep w))
unfolding sweep
living-swept w l =
    let v = world_after w (free_unheld w) in
    rw (after-append w (free_unheld w) (free_unheld v)) (living-frees v (unheld v) (which-all (is_unheld v) _) (living-frees w (unheld w) (which-all (is_unheld w) _) l))
