use Rattle.inode_tests.proofs.Places.{can_move}
use Rattle.inode_tests.proofs.calls.rename.Goals as goal

pub move_entry-requires : goal.move_entry-requires
move_entry-requires g c = record { may = can_move _ _ _ _ _ (c.ask.ensures.so cc) }
