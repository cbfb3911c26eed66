-- The content of a file or a link that is its own is stored.
use Rattle.std.proofs.Common.{◌≡◌, ◌≢◌, ℕ, List, Some, None, refl, ◌∙◌}
use Rattle.eden_model.specs.declared.kind.Kind.TheVariants as kind
use Rattle.eden_model.specs.declared.kind.Origin.TheVariants as origin
use Rattle.eden_model.specs.Repository.{Repository}
use Rattle.eden_overlay.specs.Files.{Stored}
use Rattle.eden_overlay.specs.Held.{HoldsContent}
use Rattle.eden_tree.specs.Directory.{Row, child_of}
use Rattle.eden_coupling.specs.Kept.{IsTable, IsKept}
use Rattle.eden_coupling.specs.Listings.{full_entry, Place, top, inside}
use Rattle.eden_coupling.proofs.Contents.{content_there}
use Rattle.eden_coupling.proofs.Places.{named_full, place_counts, away_row}
use Rattle.eden_coupling.proofs.Rows.{as_is}
use Rattle.eden_coupling.proofs.ShownFull.{same_content}

pub own_held : (R : Repository) (F : Stored) (x : Row) (next : ℕ) → IsTable x next → IsKept R F x next → (y : Row) → Place x y → y.kind ≢ kind.Dir → y.origin ≡ origin.Own
    → (content : List ℕ) × HoldsContent F y.number content
own_held R F x next table k _ top file own = absurd (file table.kind)
own_held R F x next table k _ (inside u d n z p holds there) file own =
    let t = k.ties in
    let full = k.full in
    let shut : child_of z ≡ None = elim (child_of z) as (λ o. child_of z ≡ o → o ≡ None) [
      | None ↦ λ e. refl
      | Some e ↦ λ is. absurd (file (t.fits.is_dir z e (inside u d n z p holds there) is))
    ] refl in
    let names = named_full full x next t.fits u d n z p holds there in
    let live = place_counts full x next t.fits u d p holds in
    let is_own = as_is z shut ∙ own in
    let was = content_there full z.number z.kind file (t.fits.sound.owned u.number (full_entry (n, z)) live names is_own) in
    let away = away_row full x next t.fits u d n z p holds there shut in
    (was.0, same_content F full z.number (t.same u.number (full_entry (n, z)) live names is_own away) ∙ was.1)
