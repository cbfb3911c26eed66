use Rattle.std.proofs.Common.{None, sym}
use Rattle.eden_overlay_format.specs.Changing.{entry_as}
use Rattle.eden_overlay_format.specs.Directory.{IsStorable}
use Rattle.eden_coupling.specs.Changing.{changed}
use Rattle.eden_coupling.specs.Listings.{listing_of}
use Rattle.eden_inode.proofs.OneEntry.{one_of}
use Rattle.eden_inode.proofs.listing.save_renamed.Goals as goal

pub store_renamed-requires-clause-storable : goal.store_renamed-requires-clause-storable
store_renamed-requires-clause-storable g c =
    one_of IsStorable c.args.new_name.now (listing_of (changed c.args.dir.now c.args.name.now None)) (entry_as c.args.new_name.now c.in-Some.facts)
    c.requires.entries.each (sym c.in-Some.ensures)
