use Rattle.std.proofs.Common.{◌≡◌, true, false, sym, ◌∙◌}
use Rattle.std.specs.Prelude.{is_some}
use Rattle.lpc_replay.specs.Storming.{Tally}
use Rattle.lpc_replay.proofs.Storming.{line_idle, line_runs, line_stops}
use Rattle.lpc_replay.proofs.storm.Storm.run_line.Goals as goal

pub returns-then-is_some : goal.returns-then-is_some
returns-then-is_some c =
    let s = c.self.inside in
    let t : Tally = record { at = s.playback.at; fault = s.fault; replies = s.replies; mismatches = s.mismatches; total = s.total } in
    let some : is_some s.fault ≡ true = sym c.is_some.ensures ∙ c.if-is_some.true in
    rw (← c.self.view_is) (line_idle t c.args.line.now some)

pub returns-then-is_some-2 : goal.returns-then-is_some-2
returns-then-is_some-2 c =
    let s = c.self.inside in
    let none : is_some s.fault ≡ false = sym c.is_some.ensures ∙ c.if-is_some.false in
    let some : is_some c.in_ok-self-inside.field-0 ≡ true = sym c.is_some-2.ensures ∙ c.if-is_some-2.true in
    let runs = rw (c.deref.ensures.value, c.in_ok-write.ensures, c.self.invariant.0) at c.in_ok-self-inside.ensures.runs in
    rw (← c.self.view_is) (line_stops s.fault c.in_ok-self-inside.field-0 s.playback.at c.run_line.new.self.at s.replies s.mismatches s.total c.args.line.now c.run_line.new.self.text none some runs)

pub returns : goal.returns
returns c =
    let s = c.self.inside in
    let none : is_some s.fault ≡ false = sym c.is_some.ensures ∙ c.if-is_some.false in
    let clear : is_some c.in_ok-self-inside.field-0 ≡ false = sym c.is_some-2.ensures ∙ c.if-is_some-2.false in
    let runs = rw (c.deref.ensures.value, c.in_ok-write.ensures, c.self.invariant.0) at c.in_ok-self-inside.ensures.runs in
    let tells = rw (c.deref.ensures.value, c.in_ok-write.ensures) at c.in_ok-self-inside.ensures.entries in
    let shows = c.list-entries.ensures ∙ c.entries.ensures in
    let sums = rw c.text.ensures at c.summed-self-inside.ensures in
    rw (← c.self.view_is) (line_runs s.fault c.in_ok-self-inside.field-0 s.playback.at c.run_line.new.self.at s.replies s.mismatches s.total _ _ c.summed-self-inside.result c.args.line.now c.run_line.new.self.text _ c.list-entries.result.now c.run_line.new.self.entries none clear runs tells shows c.replies_in.ensures c.mismatches_in.ensures sums)
