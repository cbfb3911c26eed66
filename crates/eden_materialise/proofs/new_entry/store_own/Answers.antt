use Rattle.std.proofs.Common.{sym, subst}
use Rattle.eden_overlay_format.specs.Directory.{AreStorable}
use Rattle.eden_materialise.proofs.Additions.{nothing_storable}
use Rattle.eden_materialise.proofs.new_entry.store_own.Goals as goal

pub put_listing-requires-clause-entries : goal.put_listing-requires-clause-entries
put_listing-requires-clause-entries g c = subst AreStorable (sym c.in_ok-none-in-Dir.ensures) nothing_storable
