use Rattle.eden_overlay_format.proofs.Headers.{written_found, one_identifier}
use Rattle.eden_overlay_format.proofs.Found.{contents_found, states_found, entries_found}
use Rattle.eden_overlay_format.proofs.NumbersFound.{numbers_found}
use Rattle.eden_overlay_format.proofs.Lengths.{lengths_told, lengths_found, lengths_refused}
use Rattle.eden_overlay_format.proofs.laws.format_laws.Goals as goal

pub returns-clause-contents : goal.returns-clause-contents
returns-clause-contents c = contents_found

pub returns-clause-states : goal.returns-clause-states
returns-clause-states c = states_found

pub returns-clause-entries : goal.returns-clause-entries
returns-clause-entries c = entries_found

pub returns-clause-numbers : goal.returns-clause-numbers
returns-clause-numbers c = numbers_found

pub returns-clause-written : goal.returns-clause-written
returns-clause-written c = written_found

pub returns-clause-one_identifier : goal.returns-clause-one_identifier
returns-clause-one_identifier c = one_identifier

pub returns-clause-lengths_told : goal.returns-clause-lengths_told
returns-clause-lengths_told c = lengths_told

pub returns-clause-lengths_found : goal.returns-clause-lengths_found
returns-clause-lengths_found c = lengths_found

pub returns-clause-lengths_refused : goal.returns-clause-lengths_refused
returns-clause-lengths_refused c = lengths_refused
