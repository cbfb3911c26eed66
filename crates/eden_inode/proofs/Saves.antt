-- Numbers that are saved of a directory that stays loaded.
use Rattle.std.proofs.Common.{◌≡◌, ◌⊎◌, ℕ, true, List, length, Some, None, Result, Ok, Err, OnOk, OnErr, refl, sym, ap, subst, ◌∙◌, inl, inr}
use Rattle.eden_model.specs.declared.id.Id.{Id}
use Rattle.eden_model.specs.declared.kind.Origin.TheVariants as origin
use Rattle.eden_model.specs.Repository.{Repository}
use Rattle.eden_model.specs.Trees.{Path}
use Rattle.eden_overlay_format.specs.declared.stored_entry.StoredEntry.{StoredEntry}
use Rattle.eden_overlay_format.specs.Directory.{AreStorable}
use Rattle.eden_overlay_format.specs.Numbers.{none_is_own}
use Rattle.eden_overlay.specs.Files.{Stored}
use Rattle.eden_overlay.specs.Held.{saved_at, with_numbers}
use Rattle.eden_overlay.specs.Soundness.{AreSound}
use Rattle.eden_overlay.proofs.CallerLemmas.{numbers_held, put_apart}
use Rattle.eden_tree.specs.Directory.{Row, Directory, child_of}
use Rattle.eden_tree.specs.Paths.{row_at}
use Rattle.eden_coupling.specs.Kept.{IsTable, IsKept}
use Rattle.eden_coupling.specs.Listings.{listing_of}
use Rattle.eden_coupling.specs.NumberKept.{KeepsNumbers}
use Rattle.eden_coupling.specs.NumberSaves.{IsSameOver, SavedSameOver}
use Rattle.eden_coupling.proofs.CallerLemmas.{loaded_files_keep, place_at, ties_sound}
use Rattle.eden_inode.specs.Saved.{AreNumbersSaved, HasSaved, StoresNumbers}
use Rattle.eden_inode.proofs.Rows.{same_some, none_some}

-- ---- one directory

on_both : {T E : Type 0} (r : Result T E) (P Q X : Type 0) → (P → Q → X) → OnOk r P → OnOk r Q → OnOk r X
on_both (Ok t) P Q X f p q = f p q
on_both (Err e) P Q X f p q = tt

-- what was stored is saved
pub stored_saved : {T E : Type 0} (r : Result T E) (F G : Stored) (k : ℕ) (tree : Id) (es : List StoredEntry) → length tree.bytes ≡ 20 → AreStorable es
    → OnOk r (G ≡ with_numbers F k tree es) → OnOk r (none_is_own es ≡ true) → OnOk r (saved_at G k tree ≡ Some es)
stored_saved r F G k tree es bytes are stored none =
    on_both r (G ≡ with_numbers F k tree es) (none_is_own es ≡ true) (saved_at G k tree ≡ Some es)
    (λ is own. ap (λ (H : Stored). saved_at H k tree) is ∙ numbers_held F k tree es bytes are own) stored none

module _ (y : Row) (G : Stored) where
  pub saved_unless_loaded : child_of y ≡ None → AreNumbersSaved G y
  saved_unless_loaded shut d id holds object = none_some d _ (sym shut ∙ holds)

  module _ (F : Stored) (dir : Directory) (tree : Id) (k : ℕ) (number : k ≡ y.number) (holds : child_of y ≡ Some dir) (object : y.origin ≡ origin.Object tree) where
    pub saved_of : saved_at G k tree ≡ Some (listing_of dir) → AreNumbersSaved G y
    saved_of saved d id loaded on =
        let both : origin.Object tree ≡ origin.Object id = sym object ∙ on in
        let one : tree ≡ id = cc in
        ap (λ (c : ℕ). saved_at G c id) (sym number) ∙ ap (λ (i : Id). saved_at G k i) (sym one) ∙ saved
        ∙ ap (λ (e : Directory). Some (listing_of e)) (same_some dir d (sym holds ∙ loaded))

    pub alone_of : {T E : Type 0} (r : Result T E) → OnOk r (HasSaved F k tree (listing_of dir) G) → OnErr r (G ≡ F) → (G ≡ F) ⊎ StoresNumbers F y G
    alone_of (Ok t) (inl had) err = inl had.1
    alone_of (Ok t) (inr now) err = inr (record {
      directory = dir;
      id = tree;
      holds = holds;
      object = object;
      is = now ∙ ap (λ (c : ℕ). with_numbers F c tree (listing_of dir)) number;
    })
    alone_of (Err e) ok err = inl err

-- ---- in a table

module _ (law : SavedSameOver) (R : Repository) (F : Stored) (x : Row) (next : ℕ) (table : IsTable x next) (kept : IsKept R F x next) (numbers : KeepsNumbers R F x next) where
  -- the table is kept over the files with them, and shows the same
  pub stored_over : (G : Stored) (p : Path) (y : Row) → row_at p x ≡ Some y → StoresNumbers F y G → IsSameOver R F G x x next × KeepsNumbers R G x next
  stored_over G p y at s = (
    subst (λ (H : Stored). IsSameOver R F H x x next) (sym s.is) (law R F x y p s.directory s.id next table kept numbers.shown.once at s.holds s.object),
    (loaded_files_keep R F G x next numbers (λ c away. ap (λ (H : Stored). H c) s.is ∙ put_apart F y.number c _ (away y s.directory (place_at p x y at) s.holds))).keeps,
  )

  -- so these are sound
  pub stored_sound : (G : Stored) (p : Path) (y : Row) → row_at p x ≡ Some y → StoresNumbers F y G → AreSound G
  stored_sound G p y at s = let k = (stored_over G p y at s).0.kept in ties_sound G k.full x next k.ties

  pub saved_keeps : (G : Stored) (p : Path) (y : Row) → row_at p x ≡ Some y → (G ≡ F) ⊎ StoresNumbers F y G → IsSameOver R F G x x next × KeepsNumbers R G x next
  saved_keeps G p y at (inl same) =
      subst (λ (H : Stored). IsSameOver R F H x x next × KeepsNumbers R H x next) (sym same) (record { kept = kept; nodes = refl; same = λ q. refl }, numbers)
  saved_keeps G p y at (inr stored) = stored_over G p y at stored
