use Rattle.std.proofs.Common.{arith, refl, ◌∙◌}
use Rattle.std.specs.Prelude.{option_map}
use Rattle.lpc_model.specs.Lines.{line_of}
use Rattle.lpc_replay.specs.Playing.{Progress}
use Rattle.lpc_replay.proofs.ShortNames.{short_said}
use Rattle.lpc_replay.proofs.Turns.{runs_said}
use Rattle.lpc_replay.proofs.playback.Playback.run_line.Goals as goal

pub tell_in-requires-clause-named : goal.tell_in-requires-clause-named
tell_in-requires-clause-named c = short_said c.args.line.now c.in-Ok.said c.in-Ok.ensures.value

pub returns-clause-runs : goal.returns-clause-runs
returns-clause-runs c =
    let s = c.self.inside in
    let p : Progress = record { rows = s.machine.rows; residents = s.residents; lines = s.lines; told = s.told } in
    let read = c.in-Ok.ensures.value in
    let told = c.in_ok-told.ensures in
    rw (← c.self.view_is) (runs_said s.form p c.args.line.now (option_map line_of c.in-Ok.said) c.tell_in.new.machine.rows c.tell_in.new.residents c.in_ok-told.told c.tell_in.new.text.items (omega arith) read told.rows told.residents told.told (told.text ∙ rw c.clear.ensures.items refl))
