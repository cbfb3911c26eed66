use Rattle.eden_coupling.proofs.ChainLaws.{owned_table, owned_stays, owned_marked, owned_kept, owned_alike, refused_kept, refused_alike}
use Rattle.eden_coupling.proofs.LooseFiles.{loose_sound, loose_kept, loose_alike}
use Rattle.eden_coupling.proofs.Storable.{drop_storable, entry_storable}
use Rattle.eden_coupling.proofs.owning.chain_laws.Goals as goal

pub returns-clause-table : goal.returns-clause-table
returns-clause-table c = owned_table

pub returns-clause-stays : goal.returns-clause-stays
returns-clause-stays c = owned_stays

pub returns-clause-marks : goal.returns-clause-marks
returns-clause-marks c = owned_marked

pub returns-clause-kept : goal.returns-clause-kept
returns-clause-kept c = owned_kept

pub returns-clause-alike : goal.returns-clause-alike
returns-clause-alike c = owned_alike

pub returns-clause-refused_kept : goal.returns-clause-refused_kept
returns-clause-refused_kept c = refused_kept

pub returns-clause-refused_alike : goal.returns-clause-refused_alike
returns-clause-refused_alike c = refused_alike

pub returns-clause-drop_storable : goal.returns-clause-drop_storable
returns-clause-drop_storable c = drop_storable

pub returns-clause-entry_storable : goal.returns-clause-entry_storable
returns-clause-entry_storable c = entry_storable

pub returns-clause-loose_sound : goal.returns-clause-loose_sound
returns-clause-loose_sound c = loose_sound

pub returns-clause-loose_kept : goal.returns-clause-loose_kept
returns-clause-loose_kept c = loose_kept

pub returns-clause-loose_alike : goal.returns-clause-loose_alike
returns-clause-loose_alike c = loose_alike
