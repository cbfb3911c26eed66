use Rattle.eden_coupling.specs.Listings.{listing_of}
use Rattle.eden_inode.proofs.Saves.{stored_saved}
use Rattle.eden_inode.proofs.numbers.save_numbers.Goals as goal

pub returns-in-Ok-false-clause-saved : goal.returns-in-Ok-false-clause-saved
returns-in-Ok-false-clause-saved g c h =
    stored_saved c.store_numbers.result (g.F.Files.stored c.are_saved.new.overlay) (g.F.Files.stored c.store_numbers.new.overlay) c.args.number c.args.tree
    (listing_of c.args.dir.now) c.holds.ensures c.requires.entries (c.store_numbers.ensures.ok h) c.store_numbers.ensures.none_own
