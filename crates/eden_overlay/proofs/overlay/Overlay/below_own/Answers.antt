use Rattle.std.proofs.Common.{◌∙◌, sym, ap, subst}
use Rattle.eden_overlay.specs.Walking.{pending_in, AreInRange}
use Rattle.eden_overlay.proofs.Places.{pending_in_range}
use Rattle.eden_overlay.proofs.overlay.Overlay.below_own.Goals as goal

pub returns-in_ok-pending_entries-in-Dir-clause-ranges : goal.returns-in_ok-pending_entries-in-Dir-clause-ranges
returns-in_ok-pending_entries-in-Dir-clause-ranges g c =
    subst AreInRange (sym (c.in_ok-pending_entries-in-Dir.ensures.all ∙ ap pending_in c.deref.ensures.value))
    (pending_in_range c.in_ok-entries-in-Dir.entries.items c.in_ok-entries-in-Dir.ensures.storable)
