-- A directory that is loaded with the numbers that were saved for it.
use Rattle.std.proofs.Common.{◌≡◌, ◌≢◌, ℕ, List, [], ◌∷◌, ◌++◌, Option, Some, Contains, sym, ap, ◌∙◌, arith}
use Rattle.std.proofs.lemmas.Option.{same_Some}
use Rattle.std.proofs.lemmas.List.{append_cancel_left}
use Rattle.std.specs.Option.{option_and_then}
use Rattle.eden_model.specs.declared.id.Id.{Id}
use Rattle.eden_model.specs.declared.kind.Origin.TheVariants as origin
use Rattle.eden_model.specs.Repository.{Repository}
use Rattle.eden_model.specs.Shown.{if_dir}
use Rattle.eden_model.specs.Trees.{Name, Path}
use Rattle.eden_model.specs.Backing.{AreShown}
use Rattle.eden_overlay_format.specs.declared.stored_entry.StoredEntry.{StoredEntry}
use Rattle.eden_overlay_format.specs.Directory.{AreStorable}
use Rattle.eden_overlay.specs.Files.{Stored}
use Rattle.eden_tree.specs.Directory.{Row, Directory, with_child}
use Rattle.eden_tree.specs.Paths.{edit_row}
use Rattle.eden_coupling.specs.Kept.{IsTable, IsKept}
use Rattle.eden_coupling.specs.Listings.{listing_of}
use Rattle.eden_coupling.specs.Loading.{IsAt}
use Rattle.eden_coupling.specs.Numberings.{NumberFiles, number_files, entries_by, row_of, row_named, entry_below, numbers}
use Rattle.eden_coupling.specs.NumberLoads.{SavedLoadKept}
use Rattle.eden_coupling.proofs.Fine.{stamped_kept}
use Rattle.eden_coupling.proofs.Grown.{AreFresh}
use Rattle.eden_coupling.proofs.Loaded.{other_loaded_kept}
use Rattle.eden_coupling.proofs.Objects.{none_inside}
use Rattle.eden_coupling.proofs.NumbersRead.{below_away, in_memory}
use Rattle.eden_coupling.proofs.NumbersQuiet.{listing_not_own}
use Rattle.eden_coupling.proofs.NumbersFound.{row_there, one_below, number_at, saved_are_unnamed}

same_entry : (e f : StoredEntry) → e.name ≡ f.name → row_of e ≡ row_of f → e ≡ f
same_entry e f name row =
    ap (λ (n : Name). record { name = n; kind = e.kind; origin = e.origin; number = e.number }) name
    ∙ ap (λ (r : Row). record { name = f.name; kind = r.kind; origin = r.origin; number = r.number }) row

module _ (R : Repository) (F : Stored) (saved : ℕ → Id → Option (List StoredEntry)) (next : ℕ) (x : Row) (p : Path) (id : Id) (d : Directory) (table : IsTable x next)
    (k : IsKept R F x next) (shown : AreShown (numbers (number_files F saved) x) next) (at : IsAt p x (origin.Object id)) (had : saved at.row.number id ≡ Some (listing_of d))
    (are : AreStorable (listing_of d)) (quiet : (e : StoredEntry) → Contains (listing_of d) e → e.origin ≢ origin.Own) where
  abbrev M : NumberFiles
  M = number_files F saved

  there : (e : StoredEntry) → Contains (listing_of d) e → entry_below M at.row e.name ≡ Some (row_of e)
  there e in_e =
      below_away M at.row e.name at.unloaded
      ∙ ap (option_and_then (row_named e.name)) (ap (λ t. if_dir t (entries_by M at.row.number at.row.origin)) at.kind ∙ ap (entries_by M at.row.number) at.origin ∙ had)
      ∙ row_there (listing_of d) e are in_e

  its_number : (e : StoredEntry) → Contains (listing_of d) e → numbers M x (p ++ e.name ∷ []) ≡ Some e.number
  its_number e in_e = number_at M x (row_of e) (p ++ e.name ∷ []) (one_below M x at.row (row_of e) p e.name (in_memory M x at.row p at.there) (there e in_e))

  one_name : (n m : Name) → p ++ n ∷ [] ≡ p ++ m ∷ [] → n ≡ m
  one_name n m e = let rest : n ∷ [] ≡ m ∷ [] = append_cancel_left p (n ∷ []) (m ∷ []) e in cc

  distinct : (e f : StoredEntry) → Contains (listing_of d) e → Contains (listing_of d) f → e.number ≡ f.number → e ≡ f
  distinct e f in_e in_f same =
      let name : e.name ≡ f.name = one_name e.name f.name
      (shown.once (p ++ e.name ∷ []) (p ++ f.name ∷ []) f.number (its_number e in_e ∙ ap (λ (c : ℕ). Some c) same) (its_number f in_f)) in
      same_entry e f name (same_Some (row_of e) (row_of f) (sym (there e in_e) ∙ ap (entry_below M at.row) name ∙ there f in_f))

  are_fresh : AreFresh k.full next (listing_of d)
  are_fresh = record {
    quiet = quiet;
    free = λ g there c f r n is. saved_are_unnamed F k.full saved x next table.kind k.ties shown.once p id (listing_of d) at had are g there c f r n (sym is);
    most = λ e in_e. shown.below (p ++ e.name ∷ []) e.number (its_number e in_e);
    distinct = distinct;
  }

pub saved_load_kept : SavedLoadKept
saved_load_kept R F saved clock next x p id d table k shown at had new from are =
    let quiet = listing_not_own R at.row d id at.origin from are in
    stamped_kept R F (edit_row p (with_child (Some d)) x) next
    (other_loaded_kept R F x next table k p at.row d at.there at.kind at.unloaded new.saved (none_inside d new.unloaded) are next
    (λ own. let both : origin.Object id ≡ origin.Own = sym at.origin ∙ own in absurd (cc))
    (are_fresh R F saved next x p id d table k shown at had are quiet) from (omega arith)) p clock
