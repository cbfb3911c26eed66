use Rattle.eden_coupling.proofs.Alike.{shows_away, loads_alike, stamps_alike, changes_graft}
use Rattle.eden_coupling.proofs.Below.{shows_below, shows_absent}
use Rattle.eden_coupling.proofs.Listed.{shows_files}
use Rattle.eden_coupling.proofs.LoadsShown.{object_loads_alike}
use Rattle.eden_coupling.proofs.ShownFull.{shows_full}
use Rattle.eden_coupling.proofs.shown.shown_laws.Goals as goal

pub returns-clause-full : goal.returns-clause-full
returns-clause-full c = shows_full

pub returns-clause-away : goal.returns-clause-away
returns-clause-away c = shows_away

pub returns-clause-files : goal.returns-clause-files
returns-clause-files c = shows_files

pub returns-clause-loads : goal.returns-clause-loads
returns-clause-loads c = loads_alike

pub returns-clause-object_loads : goal.returns-clause-object_loads
returns-clause-object_loads c = object_loads_alike

pub returns-clause-stamps : goal.returns-clause-stamps
returns-clause-stamps c = stamps_alike

pub returns-clause-grafts : goal.returns-clause-grafts
returns-clause-grafts c = changes_graft

pub returns-clause-below : goal.returns-clause-below
returns-clause-below c = shows_below

pub returns-clause-absent : goal.returns-clause-absent
returns-clause-absent c = shows_absent
