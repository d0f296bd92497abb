use Rattle.std.proofs.Common.{◌≡◌, ◌≤◌, ◌∙◌, ◌∷◌, [], ℕ, Some, None, List, drop, option_and_then, option_map, refl, ap, sym, subst, true}
use Rattle.std.proofs.lemmas.List.{append-nil}
use Rattle.lpc_base.specs.Rows.{count, has}
use Rattle.lpc_model.specs.Basics.{Basic}
use Rattle.lpc_model.specs.Found.{is_live_thread, wait_of, waits_as}
use Rattle.lpc_model.specs.Raise.{behind_chance, goes_on, raised_in}
use Rattle.lpc_rows.specs.Callers.{shown_caller}
use Rattle.lpc_model.specs.World.{World}
use Rattle.lpc_except.proofs.Lives.{goes-lives}
use Rattle.lpc_rows.specs.Does.{Left, left_by}
use Rattle.lpc_rows.specs.Kept.{has_queued, is_alive}
use Rattle.lpc_rows.specs.Ready.{waiter}
use Rattle.lpc_rows.specs.Shown.{shown_raised}
use Rattle.lpc_waits.specs.declared.Raised.{Raised}
use Rattle.lpc_except.proofs.Going.{IsLive, has-living, has-thread, live-row, sound-home, turned, turned-none, turned-still}
use Rattle.lpc_except.proofs.settle.next_chance.Goals as goal

pub returns-in_default-live_thread-clause-took : goal.returns-in_default-live_thread-clause-took
returns-in_default-live_thread-clause-took c =
    let w = c.args.world.now.rows in
    let none = turned-none w c.in-Some.tid (drop 1 w.marks) c.in-Some.ensures.first c.in_default-live_thread.ensures.row in
    rw (none, append-nil c.args.out.now.list) refl

pub returns-in_default-raised-clause-took : goal.returns-in_default-raised-clause-took
returns-in_default-raised-clause-took c =
    let w = c.args.world.now.rows in
    let none = turned-still w c.in-Some.tid (drop 1 w.marks) c.in-Some.ensures.first c.in_default-raised.ensures.raised in
    rw (none, append-nil c.args.out.now.list) refl

pub go_on-requires-clause-thread : goal.go_on-requires-clause-thread
go_on-requires-clause-thread c = has-thread c.args.world.now.rows c.in-Some.tid c.in-Some-live_thread.by (live-row c.args.world.now.rows c.in-Some.tid c.in-Some-live_thread.by c.in-Some-live_thread.ensures.row)

pub go_on-requires-clause-live : goal.go_on-requires-clause-live
go_on-requires-clause-live c = has-living c.args.world.now.rows c.in-Some.tid c.in-Some-live_thread.by (live-row c.args.world.now.rows c.in-Some.tid c.in-Some-live_thread.by c.in-Some-live_thread.ensures.row)

pub go_on-requires-clause-waits : goal.go_on-requires-clause-waits
go_on-requires-clause-waits c =
    let is = live-row c.args.world.now.rows c.in-Some.tid c.in-Some-live_thread.by c.in-Some-live_thread.ensures.row in
    subst (λ n. has (waits_as n) c.args.world.now.rows.waits ≡ true) (sym is.number) c.in-Some.ensures.waits

pub go_on-requires-clause-home : goal.go_on-requires-clause-home
go_on-requires-clause-home c =
    let w = c.args.world.now.rows in
    let is = live-row w c.in-Some.tid c.in-Some-live_thread.by c.in-Some-live_thread.ensures.row in
    ap (λ n. let x = waiter w n in x.process) is.number
    ∙ sound-home w c.in-Some.tid is.row c.requires.sound c.in-Some.ensures.waits is.live
    ∙ sym (ap (λ b. b.process) is.seen)

pub go_on-requires-clause-left : goal.go_on-requires-clause-left
go_on-requires-clause-left c =
    let is = live-row c.args.world.now.rows c.in-Some.tid c.in-Some-live_thread.by c.in-Some-live_thread.ensures.row in
    ap (has_queued c.args.world.now.rows) is.number ∙ c.in-Some.ensures.left

pub go_on-requires-clause-raised : goal.go_on-requires-clause-raised
go_on-requires-clause-raised c =
    let w = c.args.world.now.rows in
    let is = live-row w c.in-Some.tid c.in-Some-live_thread.by c.in-Some-live_thread.ensures.row in
    ap (λ n. option_and_then raised_in (wait_of w n)) is.number ∙ sym c.in-Some-raised.ensures.raised

pub returns-clause-took : goal.returns-clause-took
returns-clause-took c =
    let w = c.args.world.now.rows in
    let is = live-row w c.in-Some.tid c.in-Some-live_thread.by c.in-Some-live_thread.ensures.row in
    let r = shown_raised c.in-Some-raised.raised in
    c.go_on.ensures.took
    ∙ ap (λ n. left_by w c.args.out.now.list c.args.world.now.loose (let x = waiter w n in goes_on (shown_caller c.in-Some-live_thread.by) x r (behind_chance w x.process r.handled r.chance) w)) is.number
    ∙ ap (λ (bs : List Basic). left_by w c.args.out.now.list c.args.world.now.loose bs)
    (sym (turned w c.in-Some.tid (drop 1 w.marks) c.in-Some-live_thread.by r c.in-Some.ensures.first is c.in-Some.ensures.waits (sym c.in-Some-raised.ensures.raised)))

pub returns-clause-lives : goal.returns-clause-lives
returns-clause-lives c =
    let w = c.args.world.now.rows in
    let by = c.in-Some-live_thread.by in
    let r = shown_raised c.in-Some-raised.raised in
    let x = waiter w by.number in
    subst (λ (v : World). count is_alive v.threads ≤ count is_alive w.threads) (sym (ap (λ (l : Left). l.world) c.go_on.ensures.took))
    (goes-lives (shown_caller by) x r (behind_chance w x.process r.handled r.chance) w)
