-- A directory that is loaded leaves what is shown.
use Rattle.std.proofs.Common.{◌≡◌, inl, inr, ℕ, Some, sym, ap, ◌∙◌, ◌⊎◌}
use Rattle.eden_model.specs.declared.id.Id.{Id}
use Rattle.eden_model.specs.declared.kind.Origin.{Origin}
use Rattle.eden_model.specs.declared.kind.Origin.TheVariants as origin
use Rattle.eden_model.specs.Trees.{Path}
use Rattle.eden_model.specs.Repository.{Repository, no_files}
use Rattle.eden_overlay.specs.Files.{Stored}
use Rattle.eden_overlay.specs.Held.{own_files}
use Rattle.eden_tree.specs.Directory.{Row, Directory, with_child}
use Rattle.eden_tree.specs.Paths.{edit_row}
use Rattle.eden_coupling.specs.Loading.{IsAt, IsNew, with_loaded, LoadsOwn}
use Rattle.eden_coupling.specs.Shown.{shown_in, IsFrom}
use Rattle.eden_coupling.specs.ShownLaws.{ObjectLoadsAlike}
use Rattle.eden_coupling.proofs.Alike.{loads_alike, stamps_alike}
use Rattle.eden_coupling.proofs.Listed.{own_from, other_from}
use Rattle.eden_coupling.proofs.Objects.{none_inside, object_from, empty_from}

-- a directory as it was loaded, that has what it would be loaded from
new_alike : (R : Repository) (F : Stored) (clock : ℕ) (x : Row) (p : Path) (o : Origin) (at : IsAt p x o) (d : Directory) → IsNew clock d → IsFrom R (own_files F) at.row d
    → shown_in R F (with_loaded p clock d x) ≡ shown_in R F x
new_alike R F clock x p o at d new from =
    stamps_alike R F p clock (edit_row p (with_child (Some d)) x)
    ∙ loads_alike R F p x at.row d at.there at.unloaded at.kind (none_inside d new.unloaded) from

pub object_loads_alike : ObjectLoadsAlike
object_loads_alike R F clock next x p id es z after at tree l =
    ap (shown_in R F) l.is
    ∙ new_alike R F clock x p (origin.Object id) at l.directory l.new
    (other_from R F at.row l.directory (λ own. (let both : origin.Object id ≡ origin.Own = sym at.origin ∙ own in cc)) (object_from R next id es at.row l.directory at.origin tree l.has))

-- a directory that is loaded from its stored file, or as an empty one, leaves what is shown
abbrev pub OwnLoadsAlike : Type 1
OwnLoadsAlike = (honest : Type 0) (R : Repository) (F : Stored) (clock : ℕ) (x : Row) (p : Path) (z : Row) → honest
    → IsAt p x origin.Own ⊎ IsAt p x origin.Empty → LoadsOwn honest clock F x p z → shown_in R F z ≡ shown_in R F x

pub own_loads_alike : OwnLoadsAlike
own_loads_alike honest R F clock x p z h (inl at) l =
    ap (shown_in R F) l.is
    ∙ new_alike R F clock x p origin.Own at l.directory l.new (own_from R F at.row l.directory at.origin (l.own h at.row at.there at.origin))
own_loads_alike honest R F clock x p z h (inr at) l =
    ap (shown_in R F) l.is
    ∙ new_alike R F clock x p origin.Empty at l.directory l.new
    (other_from R F at.row l.directory (λ own. (let both : origin.Empty ≡ origin.Own = sym at.origin ∙ own in cc)) (empty_from R at.row l.directory at.origin (l.empty at.row at.there at.origin)))

-- .. and so does one on a tree object that is loaded with what its file has, where that is what the object lists
abbrev pub ResumedAlike : Type 1
ResumedAlike = (honest : Type 0) (R : Repository) (F : Stored) (clock : ℕ) (x : Row) (p : Path) (z : Row) (id : Id)
    → (at : IsAt p x (origin.Object id)) → (l : LoadsOwn honest clock F x p z) → IsFrom R no_files at.row l.directory → shown_in R F z ≡ shown_in R F x

pub resumed_alike : ResumedAlike
resumed_alike honest R F clock x p z id at l from =
    ap (shown_in R F) l.is
    ∙ new_alike R F clock x p (origin.Object id) at l.directory l.new
    (other_from R F at.row l.directory (λ own. (let both : origin.Object id ≡ origin.Own = sym at.origin ∙ own in cc)) from)
