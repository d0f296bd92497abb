use Rattle.lpc_model.specs.Accounts.{RunAccountsForDeaths}
use Rattle.lpc_model.specs.Deaths.{RunTellsDeaths}
use Rattle.lpc_model.specs.Left.{RunLeavesNothing}
use Rattle.lpc_model.specs.Closings.{RunTellsClosings}
use Rattle.lpc_model.specs.Creators.{RunKeepsConnects}
use Rattle.lpc_model.specs.SingleClosings.{RunHasSingleClosings}
use Rattle.lpc_model.specs.SoundWaits.{RunStaysSound}
use Rattle.lpc_model.proofs.Account.Runs.{deaths-accounted}
use Rattle.lpc_model.proofs.Runs.{closings_told_run, deaths_told_run, keeps_run, leaves_nothing_run, sound_run, untold_run}
use Rattle.std.proofs.Common.{sym, ◌∙◌}
use Rattle.lpc_replay.specs.Laws.{ClientsApart, ConnectsReturn, LinesSettle, MisfitsRefused, RaisesReturn, RefusalsIdle, RefusalsStay, RequestsReturn, ThreadsEnd, WaitsEnd}
use Rattle.lpc_replay.proofs.EveryScript.{every_client, every_connect, every_end, every_misfit, every_raise, every_refusal, every_removal, every_request, every_settling, every_wait}
use Rattle.lpc_replay.proofs.Formed.{of_told}
use Rattle.lpc_replay.proofs.Spending.{honest_status, sure_status}
use Rattle.lpc_replay.proofs.replay.run_words.Goals as goal

pub returns-clause-returns : goal.returns-clause-returns
returns-clause-returns g c = λ _. of_told RequestsReturn every_request (g.S.Source.left c.args.source.now)

pub returns-clause-answered : goal.returns-clause-answered
returns-clause-answered g c = λ _. of_told ConnectsReturn every_connect (g.S.Source.left c.args.source.now)

pub returns-clause-raised : goal.returns-clause-raised
returns-clause-raised g c = λ _. of_told RaisesReturn every_raise (g.S.Source.left c.args.source.now)

pub returns-clause-died : goal.returns-clause-died
returns-clause-died g c = λ _. of_told ThreadsEnd every_end (g.S.Source.left c.args.source.now)

pub returns-clause-settled : goal.returns-clause-settled
returns-clause-settled g c = λ _. of_told LinesSettle every_settling (g.S.Source.left c.args.source.now)

pub returns-clause-ended : goal.returns-clause-ended
returns-clause-ended g c = λ _. of_told WaitsEnd every_wait (g.S.Source.left c.args.source.now)

pub returns-clause-refused : goal.returns-clause-refused
returns-clause-refused g c = λ _. of_told MisfitsRefused every_misfit (g.S.Source.left c.args.source.now)

pub returns-clause-unchanged : goal.returns-clause-unchanged
returns-clause-unchanged g c = λ _. of_told RefusalsStay every_refusal (g.S.Source.left c.args.source.now)

pub returns-clause-idle : goal.returns-clause-idle
returns-clause-idle g c = λ _. of_told RefusalsIdle every_removal (g.S.Source.left c.args.source.now)

pub returns-clause-apart : goal.returns-clause-apart
returns-clause-apart g c = λ _. of_told ClientsApart every_client (g.S.Source.left c.args.source.now)

pub returns-clause-sound : goal.returns-clause-sound
returns-clause-sound g c = λ _. of_told RunStaysSound sound_run (g.S.Source.left c.args.source.now)

pub returns-clause-closings : goal.returns-clause-closings
returns-clause-closings g c = λ _. of_told RunTellsClosings closings_told_run (g.S.Source.left c.args.source.now)

pub returns-clause-single_closings : goal.returns-clause-single_closings
returns-clause-single_closings g c = λ _. of_told RunHasSingleClosings untold_run (g.S.Source.left c.args.source.now)

pub returns-clause-creators : goal.returns-clause-creators
returns-clause-creators g c = λ _. of_told RunKeepsConnects keeps_run (g.S.Source.left c.args.source.now)

pub returns-clause-deaths : goal.returns-clause-deaths
returns-clause-deaths g c = λ _. of_told RunTellsDeaths deaths_told_run (g.S.Source.left c.args.source.now)

pub returns-clause-accounted : goal.returns-clause-accounted
returns-clause-accounted g c = λ _. of_told RunAccountsForDeaths deaths-accounted (g.S.Source.left c.args.source.now)

pub returns-clause-nothing_left : goal.returns-clause-nothing_left
returns-clause-nothing_left g c = λ _. of_told RunLeavesNothing leaves_nothing_run (g.S.Source.left c.args.source.now)

pub returns-in-Some-storm_of-clause-returns : goal.returns-in-Some-storm_of-clause-returns
returns-in-Some-storm_of-clause-returns g c = λ _. of_told RequestsReturn every_request (g.S.Source.left c.args.source.now)

pub returns-in-Some-storm_of-clause-answered : goal.returns-in-Some-storm_of-clause-answered
returns-in-Some-storm_of-clause-answered g c = λ _. of_told ConnectsReturn every_connect (g.S.Source.left c.args.source.now)

pub returns-in-Some-storm_of-clause-raised : goal.returns-in-Some-storm_of-clause-raised
returns-in-Some-storm_of-clause-raised g c = λ _. of_told RaisesReturn every_raise (g.S.Source.left c.args.source.now)

pub returns-in-Some-storm_of-clause-died : goal.returns-in-Some-storm_of-clause-died
returns-in-Some-storm_of-clause-died g c = λ _. of_told ThreadsEnd every_end (g.S.Source.left c.args.source.now)

pub returns-in-Some-storm_of-clause-settled : goal.returns-in-Some-storm_of-clause-settled
returns-in-Some-storm_of-clause-settled g c = λ _. of_told LinesSettle every_settling (g.S.Source.left c.args.source.now)

pub returns-in-Some-storm_of-clause-ended : goal.returns-in-Some-storm_of-clause-ended
returns-in-Some-storm_of-clause-ended g c = λ _. of_told WaitsEnd every_wait (g.S.Source.left c.args.source.now)

pub returns-in-Some-storm_of-clause-refused : goal.returns-in-Some-storm_of-clause-refused
returns-in-Some-storm_of-clause-refused g c = λ _. of_told MisfitsRefused every_misfit (g.S.Source.left c.args.source.now)

pub returns-in-Some-storm_of-clause-unchanged : goal.returns-in-Some-storm_of-clause-unchanged
returns-in-Some-storm_of-clause-unchanged g c = λ _. of_told RefusalsStay every_refusal (g.S.Source.left c.args.source.now)

pub returns-in-Some-storm_of-clause-idle : goal.returns-in-Some-storm_of-clause-idle
returns-in-Some-storm_of-clause-idle g c = λ _. of_told RefusalsIdle every_removal (g.S.Source.left c.args.source.now)

pub returns-in-Some-storm_of-clause-apart : goal.returns-in-Some-storm_of-clause-apart
returns-in-Some-storm_of-clause-apart g c = λ _. of_told ClientsApart every_client (g.S.Source.left c.args.source.now)

pub returns-in-Some-storm_of-clause-sound : goal.returns-in-Some-storm_of-clause-sound
returns-in-Some-storm_of-clause-sound g c = λ _. of_told RunStaysSound sound_run (g.S.Source.left c.args.source.now)

pub returns-in-Some-storm_of-clause-closings : goal.returns-in-Some-storm_of-clause-closings
returns-in-Some-storm_of-clause-closings g c = λ _. of_told RunTellsClosings closings_told_run (g.S.Source.left c.args.source.now)

pub returns-in-Some-storm_of-clause-single_closings : goal.returns-in-Some-storm_of-clause-single_closings
returns-in-Some-storm_of-clause-single_closings g c = λ _. of_told RunHasSingleClosings untold_run (g.S.Source.left c.args.source.now)

pub returns-in-Some-storm_of-clause-creators : goal.returns-in-Some-storm_of-clause-creators
returns-in-Some-storm_of-clause-creators g c = λ _. of_told RunKeepsConnects keeps_run (g.S.Source.left c.args.source.now)

pub returns-in-Some-storm_of-clause-deaths : goal.returns-in-Some-storm_of-clause-deaths
returns-in-Some-storm_of-clause-deaths g c = λ _. of_told RunTellsDeaths deaths_told_run (g.S.Source.left c.args.source.now)

pub returns-in-Some-storm_of-clause-accounted : goal.returns-in-Some-storm_of-clause-accounted
returns-in-Some-storm_of-clause-accounted g c = λ _. of_told RunAccountsForDeaths deaths-accounted (g.S.Source.left c.args.source.now)

pub returns-in-Some-storm_of-clause-nothing_left : goal.returns-in-Some-storm_of-clause-nothing_left
returns-in-Some-storm_of-clause-nothing_left g c = λ _. of_told RunLeavesNothing leaves_nothing_run (g.S.Source.left c.args.source.now)

-- a replay over a sink that is sure of the whole text
pub returns-clause-replay_sure : goal.returns-clause-replay_sure
returns-clause-replay_sure g c =
    let named = sym c.form_of.ensures ∙ c.in-Some.is in
    rw named (sure_status c.in-Some.form (g.S.Source.left c.args.source.now) (g.K.Sink.sure c.args.sink.now) c.replay.result c.replay.ensures.statuses c.replay.ensures.unsure)

pub returns-clause-honest : goal.returns-clause-honest
returns-clause-honest g c =
    let named = sym c.form_of.ensures ∙ c.in-Some.is in
    rw named (λ still. honest_status c.in-Some.form (g.S.Source.left c.args.source.now) (g.K.Sink.sure c.args.sink.now) c.replay.result c.replay.ensures.statuses c.replay.ensures.unsure (λ three. still (c.replay.ensures.source_failed three)))
