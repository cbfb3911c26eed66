use Rattle.eden_coupling.proofs.Filing.{content_shows, file_shows, empty_shows, loose_elsewhere, entry_elsewhere}
use Rattle.eden_coupling.proofs.Contents.{content_sound, content_kept, content_grafts}
use Rattle.eden_coupling.proofs.storing.file_laws.Goals as goal

pub returns-clause-content : goal.returns-clause-content
returns-clause-content c = content_shows

pub returns-clause-file : goal.returns-clause-file
returns-clause-file c = file_shows

pub returns-clause-empty : goal.returns-clause-empty
returns-clause-empty c = empty_shows

pub returns-clause-elsewhere : goal.returns-clause-elsewhere
returns-clause-elsewhere c = loose_elsewhere

pub returns-clause-entry : goal.returns-clause-entry
returns-clause-entry c = entry_elsewhere

pub returns-clause-sound : goal.returns-clause-sound
returns-clause-sound c = content_sound

pub returns-clause-kept : goal.returns-clause-kept
returns-clause-kept c = content_kept

pub returns-clause-grafts : goal.returns-clause-grafts
returns-clause-grafts c = content_grafts
