-- A kept table, with a directory loaded with the numbers that were saved for it.
use Rattle.std.proofs.Common.{◌≡◌, ◌≢◌, Some, sym, ◌∙◌}
use Rattle.eden_model.specs.declared.kind.Origin.TheVariants as origin
use Rattle.eden_overlay.specs.Held.{saved_at}
use Rattle.eden_tree.specs.Directory.{with_child}
use Rattle.eden_tree.specs.Paths.{edit_row}
use Rattle.eden_coupling.specs.NumberKept.{SavedLoadOver}
use Rattle.eden_coupling.specs.Numberings.{in_files}
use Rattle.eden_coupling.proofs.Alike.{loads_alike, stamps_alike}
use Rattle.eden_coupling.proofs.Listed.{other_from}
use Rattle.eden_coupling.proofs.Objects.{none_inside}
use Rattle.eden_coupling.proofs.NumbersKept.{saved_load_from}
use Rattle.eden_coupling.proofs.NumbersLoaded.{saved_load_same}
use Rattle.eden_coupling.proofs.NumbersResumed.{saved_load_kept}

pub saved_load_over : SavedLoadOver
saved_load_over R F clock next x p id d table kept k at had new are =
    let from = saved_load_from R F clock next x p id d k at had new in
    let other : at.row.origin ≢ origin.Own = λ own. let both : origin.Object id ≡ origin.Own = sym at.origin ∙ own in absurd (cc) in
    record {
      kept = saved_load_kept R F (saved_at F) clock next x p id d table kept k.shown at had new from are;
      nodes = stamps_alike R F p clock (edit_row p (with_child (Some d)) x)
          ∙ loads_alike R F p x at.row d at.there at.unloaded at.kind (none_inside d new.unloaded) (other_from R F at.row d other from);
      same = λ q. saved_load_same (in_files F) clock x p id d q at had new;
    }
