-- However many directories go, the same is shown.
use Rattle.std.proofs.Common.{◌≡◌, ℕ, Bool, true, false, Some, None, refl, sym, ap, ◌∙◌}
use Rattle.std.specs.Option.{option_map}
use Rattle.eden_model.specs.declared.kind.Kind.TheVariants as kind
use Rattle.eden_model.specs.Trees.{Path}
use Rattle.eden_model.specs.Repository.{Repository}
use Rattle.eden_overlay.specs.Files.{Stored}
use Rattle.eden_overlay.specs.Held.{with_entries, own_files}
use Rattle.eden_overlay.proofs.CallerLemmas.{apart, entries_held}
use Rattle.eden_tree.specs.Directory.{Row, Directory, child_of, with_child}
use Rattle.eden_tree.specs.Paths.{row_at, edit_row}
use Rattle.eden_tree.proofs.CallerLemmas.{child_of-with_child, with_child-same, edits_there, edits_twice, edits_same}
use Rattle.eden_coupling.specs.Listings.{listing_of, Place, top}
use Rattle.eden_coupling.specs.Shown.{shown_in, IsFrom}
use Rattle.eden_coupling.specs.Kept.{IsTable, IsKept}
use Rattle.eden_coupling.specs.Unloading.{HasNoneInside, Goes, none, one_more, same_files, Unloads}
use Rattle.eden_coupling.proofs.Chain.{place_at}
use Rattle.eden_coupling.proofs.Alike.{loads_alike}
use Rattle.eden_coupling.proofs.Listed.{own_from, saved_from}
use Rattle.eden_coupling.proofs.ShownFull.{backs_tied}
use Rattle.eden_coupling.proofs.Backed.{backs_loaded, backed_alike}
use Rattle.eden_coupling.proofs.Tables.{unloads_table}
use Rattle.eden_coupling.proofs.KeptLemmas.{unloads_kept}

-- a directory that has what it would be loaded from may go
gone_alike : (R : Repository) (F : Stored) (p : Path) (x y : Row) (d : Directory) → row_at p x ≡ Some y → child_of y ≡ Some d
    → y.kind ≡ kind.Dir → HasNoneInside d → IsFrom R (own_files F) y d
    → shown_in R F (edit_row p (with_child None) x) ≡ shown_in R F x
gone_alike R F p x y d at holds dir inside_none from =
    sym (loads_alike R F p (edit_row p (with_child None) x) (with_child None y) d
    (edits_there p (with_child None) x ∙ ap (option_map (with_child None)) at)
    (child_of-with_child None y) dir inside_none (record { items = from.items; had = from.had; each = from.each }))
    ∙ ap (shown_in R F) (edits_twice p (with_child (Some d)) (with_child None) x ∙ edits_same p (λ w. with_child (Some d) (with_child None w)) x y at (with_child-same y d holds))

-- one directory that goes
module _ (honest : Type 0) (R : Repository) (clock age next : ℕ) (F : Stored) (x : Row) (G : Stored) (z : Row) (h : honest) (t : IsTable x next) (kept : IsKept R F x next)
    (g : Goes honest clock age F x G z) where
  place : Place x g.row
  place = place_at g.path x g.row g.at

  gone : (H : Stored) → IsFrom R (own_files H) g.row g.directory → shown_in R H (edit_row g.path (with_child None) x) ≡ shown_in R H x
  gone H from = gone_alike R H g.path x g.row g.directory g.at g.holds (kept.ties.fits.is_dir g.row g.directory place g.holds) g.none_inside from

  by_mark : (b : Bool) → g.directory.unsaved ≡ b → shown_in R G (edit_row g.path (with_child None) x) ≡ shown_in R F x
  by_mark false saved =
      ap (λ (H : Stored). shown_in R H (edit_row g.path (with_child None) x)) (g.saved h saved)
      ∙ gone F (saved_from R F x next kept g.row g.directory place g.holds saved)
  by_mark true unsaved =
      let are = t.listed g.row g.directory place g.holds in
      let own = kept.ties.marked g.row g.directory place g.holds unsaved in
      let H = with_entries F g.row.number (listing_of g.directory) in
      let b = backs_tied F kept.full x next kept.ties in
      ap (λ (H : Stored). shown_in R H (edit_row g.path (with_child None) x)) (g.stored h unsaved)
      ∙ gone H (own_from R H g.row g.directory own (entries_held F g.row.number (listing_of g.directory) are))
      ∙ backed_alike R F H kept.full x next b (backs_loaded F H kept.full x next b g.row g.directory place g.holds (λ k ne. apart F g.row.number (listing_of g.directory) are k ne)) x top

  goes_alike : shown_in R G z ≡ shown_in R F x
  goes_alike = ap (shown_in R G) g.gone ∙ by_mark g.directory.unsaved refl

-- .. and any number of them
abbrev pub UnloadsAlike : Type 1
UnloadsAlike = (honest : Type 0) (R : Repository) (clock age next : ℕ) (F : Stored) (x : Row) (G : Stored) (z : Row) (c : ℕ) → honest → IsTable x next
    → IsKept R F x next
    → Unloads honest clock age F x G z c → shown_in R G z ≡ shown_in R F x

pub unloads_alike : UnloadsAlike
unloads_alike honest R clock age next F x G z c h t kept none = refl
unloads_alike honest R clock age next F x G z c h t kept (one_more H y b K v u g) =
    goes_alike honest R clock age next H y K v h (unloads_table honest clock age next F x H y b t u) (unloads_kept honest R clock age next F x H y b h t kept u) g
    ∙ unloads_alike honest R clock age next F x H y b h t kept u
unloads_alike honest R clock age next F x G z c h t kept (same_files H y b K u same) =
    ap (λ (I : Stored). shown_in R I y) (same h) ∙ unloads_alike honest R clock age next F x H y b h t kept u
