use Rattle.std.proofs.Common.{◌∙◌, List, Option, [], sym, ap, subst}
use Rattle.std.specs.Option.{unwrap_or}
use Rattle.eden_overlay_format.specs.declared.stored_entry.StoredEntry.{StoredEntry}
use Rattle.eden_overlay.specs.Getting.{ExplainsNumbers}
use Rattle.eden_overlay.specs.Walking.{pending_in, AreInRange}
use Rattle.eden_overlay.proofs.Counting.{absent_saved}
use Rattle.eden_overlay.proofs.Places.{pending_in_range}
use Rattle.eden_overlay.proofs.overlay.Overlay.below_saved.Goals as goal

pub returns-in_ok-pending_entries-in-Ok-clause-ranges : goal.returns-in_ok-pending_entries-in-Ok-clause-ranges
returns-in_ok-pending_entries-in-Ok-clause-ranges g c =
    subst AreInRange (sym (c.in_ok-pending_entries-in-Ok.ensures.all ∙ ap pending_in c.deref.ensures.value)) (pending_in_range c.in-Ok.entries.items c.in-Ok.ensures.storable)

pub returns-in-Err-Absent-clause-held : goal.returns-in-Err-Absent-clause-held
returns-in-Err-Absent-clause-held g c = λ honest.
    let F = g.F.Files.stored c.args.self.now in
    let why = subst (ExplainsNumbers c.args.tree (F c.args.number)) c.in-Err-Absent.field-0-is (c.in-Err-Absent.ensures.refused honest) in
    let none = (absent_saved F c.args.number c.args.tree why).0 in
    c.new.ensures.items ∙ ap (λ (o : Option (List StoredEntry)). pending_in (unwrap_or o [])) (sym none)
