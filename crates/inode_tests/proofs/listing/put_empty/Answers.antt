use Rattle.inode_tests.proofs.Storable.{none_storable}
use Rattle.inode_tests.proofs.listing.put_empty.Goals as goal

pub put_dir-requires-clause-entries : goal.put_dir-requires-clause-entries
put_dir-requires-clause-entries g c = none_storable
