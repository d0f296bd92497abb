use Rattle.lpc_model.proofs.Worked.Closings.{worked_closings}
use Rattle.lpc_model.proofs.Worked.Connections.{worked_connections}
use Rattle.lpc_model.proofs.Worked.Creations.{worked_creations}
use Rattle.lpc_model.proofs.Worked.Endings.{worked_endings}
use Rattle.lpc_model.proofs.Worked.Exceptions.{worked_exceptions}
use Rattle.lpc_model.proofs.Worked.Neighbours.{worked_neighbours}
use Rattle.lpc_model.proofs.Worked.Offers.{worked_offers}
use Rattle.lpc_model.proofs.Worked.Ranges.{worked_ranges}
use Rattle.lpc_model.proofs.Worked.Residents.{worked_residents}
use Rattle.lpc_model.proofs.Worked.Tokens.{worked_tokens}
use Rattle.lpc_model.proofs.Worked.Transcripts.{worked_transcripts}
use Rattle.lpc_model.proofs.Worked.Views.{worked_views}
use Rattle.lpc_replay.proofs.laws.law_worked_transcripts.Goals as goal

pub returns-clause-transcripts : goal.returns-clause-transcripts
returns-clause-transcripts c = worked_transcripts

pub returns-clause-connections : goal.returns-clause-connections
returns-clause-connections c = worked_connections

pub returns-clause-closings : goal.returns-clause-closings
returns-clause-closings c = worked_closings

pub returns-clause-endings : goal.returns-clause-endings
returns-clause-endings c = worked_endings

pub returns-clause-creations : goal.returns-clause-creations
returns-clause-creations c = worked_creations

pub returns-clause-views : goal.returns-clause-views
returns-clause-views c = worked_views

pub returns-clause-offers : goal.returns-clause-offers
returns-clause-offers c = worked_offers

pub returns-clause-ranges : goal.returns-clause-ranges
returns-clause-ranges c = worked_ranges

pub returns-clause-tokens : goal.returns-clause-tokens
returns-clause-tokens c = worked_tokens

pub returns-clause-exceptions : goal.returns-clause-exceptions
returns-clause-exceptions c = worked_exceptions

pub returns-clause-residents : goal.returns-clause-residents
returns-clause-residents c = worked_residents

pub returns-clause-neighbours : goal.returns-clause-neighbours
returns-clause-neighbours c = worked_neighbours
