use Rattle.lpc_model.proofs.Limits.{limits_children, limits_datagrams, limits_handles, limits_info, limits_messages, limits_registrations, limits_sections, limits_threads, limits_two_handles, limits_views}
use Rattle.lpc_model.proofs.laws.law_limits.Goals as goal

pub returns-clause-handles : goal.returns-clause-handles
returns-clause-handles c = limits_handles

pub returns-clause-two_handles : goal.returns-clause-two_handles
returns-clause-two_handles c = limits_two_handles

pub returns-clause-children : goal.returns-clause-children
returns-clause-children c = limits_children

pub returns-clause-threads : goal.returns-clause-threads
returns-clause-threads c = limits_threads

pub returns-clause-datagrams : goal.returns-clause-datagrams
returns-clause-datagrams c = limits_datagrams

pub returns-clause-registrations : goal.returns-clause-registrations
returns-clause-registrations c = limits_registrations

pub returns-clause-views : goal.returns-clause-views
returns-clause-views c = limits_views

pub returns-clause-sections : goal.returns-clause-sections
returns-clause-sections c = limits_sections

pub returns-clause-messages : goal.returns-clause-messages
returns-clause-messages c = limits_messages

pub returns-clause-info : goal.returns-clause-info
returns-clause-info c = limits_info
