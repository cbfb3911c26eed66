use Rattle.eden_overlay_format.specs.Changing.{entry_as}
use Rattle.eden_inode.specs.Listed.{listed_as}
use Rattle.eden_inode.proofs.OneEntry.{facts_storable}
use Rattle.eden_inode.proofs.listing.save_changed.Goals as goal

pub store_entry-requires-clause-storable : goal.store_entry-requires-clause-storable
store_entry-requires-clause-storable g c =
    facts_storable (entry_as c.args.name.now) c.facts_in-facts.result c.args.name.now (listed_as c.args.listed c.args.dir.now) c.requires.entries.each c.facts_in-facts.ensures
