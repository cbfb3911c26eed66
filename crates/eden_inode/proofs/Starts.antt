-- A table before anything is loaded.
use Rattle.std.proofs.Common.{◌≡◌, ◌≤◌, ℕ, Some, None, inl, refl, sym, ◌∙◌}
use Rattle.eden_model.specs.declared.kind.Origin.{Origin}
use Rattle.eden_model.specs.Limits.{number_least, number_end}
use Rattle.eden_model.specs.Repository.{Repository}
use Rattle.eden_overlay.specs.Files.{Stored}
use Rattle.eden_tree.specs.Directory.{Row, Directory, child_of}
use Rattle.eden_coupling.specs.Listings.{Place, top, inside}
use Rattle.eden_coupling.specs.Kept.{IsTable, IsKept}
use Rattle.eden_inode.specs.Tables.{fresh_root, CanStart}
use Rattle.eden_inode.proofs.Rows.{none_some}

-- nothing is loaded in an entry that holds none
none_below : (x : Row) → child_of x ≡ None → (y : Row) → Place x y → (d : Directory) → child_of y ≡ Some d → (P : Type 0) → P
none_below x shut y top d holds P = none_some d P (sym shut ∙ holds)
none_below x shut y (inside w e n z place within there) d holds P = none_below x shut w place e within P

pub fresh_table : (o : Origin) (next : ℕ) → number_least ≤ next → next ≤ number_end → IsTable (fresh_root o) next
fresh_table o next least most = record {
  root = refl;
  kind = refl;
  listed = λ y d place holds. none_below (fresh_root o) refl y place d holds _;
  least = least;
  most = most;
}

pub fresh_kept : (R : Repository) (F : Stored) (o : Origin) (next : ℕ) → CanStart R F o next → IsKept R F (fresh_root o) next
fresh_kept R F o next can = record {
  full = F;
  ties = record {
    fits = record {
      root = refl;
      sound = can.sound;
      below = can.below;
      is_dir = λ y d place holds. none_below (fresh_root o) refl y place d holds _;
      held = λ y d place holds. none_below (fresh_root o) refl y place d holds _;
    };
    stored = λ y d place holds own. none_below (fresh_root o) refl y place d holds _;
    marked = λ y d place holds mark. none_below (fresh_root o) refl y place d holds _;
    same = λ c e live names own away. inl refl;
    same_root = λ shut. inl refl;
    rootless = can.rootless;
    rooted = can.rooted;
  };
  agrees = λ y d place holds other. none_below (fresh_root o) refl y place d holds _;
}
