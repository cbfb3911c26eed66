-- A listing that changes: what it keeps of a table's invariant, and what is shown then.
use Rattle.std.proofs.Common.{◌≡◌, ◌≢◌, ◌⊎◌, ℕ, true, false, cond, [], ◌∷◌, ◌++◌, Option, Some, None, inl, inr, refl, sym, ap, ◌∙◌, subst}
use Rattle.std.specs.Str.{bytes_eq}
use Rattle.std.proofs.lemmas.Option.{same_Some}
use Rattle.eden_model.specs.declared.kind.Origin.TheVariants as origin
use Rattle.eden_model.specs.Trees.{Name, Path, Tree, graft}
use Rattle.eden_model.specs.Named.{AreRising}
use Rattle.eden_model.specs.Repository.{Repository, no_files}
use Rattle.eden_overlay_format.specs.Directory.{AreStorable}
use Rattle.eden_overlay.specs.Files.{Stored}
use Rattle.eden_overlay.specs.Held.{with_entries}
use Rattle.eden_overlay.proofs.CallerLemmas.{apart}
use Rattle.eden_tree.specs.Directory.{Row, Directory, child_of, with_child}
use Rattle.eden_tree.specs.Rows.{find_row}
use Rattle.eden_tree.proofs.CallerLemmas.{same-≡, same-refl, child_of-with_child}
use Rattle.eden_coupling.specs.Listings.{listing_of, Place, top, inside}
use Rattle.eden_coupling.specs.Changing.{changed, with_listing}
use Rattle.eden_coupling.specs.Kept.{IsTable, IsKept}
use Rattle.eden_coupling.specs.Shown.{shown_in, IsFrom}
use Rattle.eden_coupling.specs.ShownLaws.{shown_from}
use Rattle.eden_coupling.proofs.Rows.{stored_rising}
use Rattle.eden_coupling.proofs.Follows.{place_cases}
use Rattle.eden_coupling.proofs.Chain.{place_at, root_loaded}
use Rattle.eden_coupling.proofs.Loops.{place_on}
use Rattle.eden_coupling.proofs.Moved.{find_with, from_with, if_some, changes_kept, MayChange}
use Rattle.eden_coupling.proofs.Steps.{edited_number, edited_kind, edited_forth}
use Rattle.eden_coupling.proofs.Fine.{from_alike}
use Rattle.eden_coupling.proofs.Alike.{changes_graft}
use Rattle.eden_coupling.proofs.ShownFull.{Backs, backs_tied}
use Rattle.eden_coupling.proofs.Backed.{backs_loaded, backed_alike}

module _ (honest : Type 0) (F : Stored) (x : Row) (next : ℕ) (p : Path) (n : Name) (o : Option Row) (table : IsTable x next) (a : MayChange honest F x next p n o) where
  -- the directory then, its entry, the table and the files
  abbrev new : Directory
  new = changed a.directory n o

  abbrev new_row : Row
  new_row = with_child (Some new) a.row

  abbrev then : Row
  then = with_listing p new x

  abbrev files : Stored
  files = with_entries F a.row.number (listing_of new)

  on_row : Place x a.row
  on_row = place_at p x a.row a.at

  new_holds : child_of new_row ≡ Some new
  new_holds = child_of-with_child (Some new) a.row

  rising : AreRising (λ r. r.0) a.directory.rows
  rising = stored_rising a.directory (table.listed a.row a.directory on_row a.holds)

  -- what is loaded in the new entry is its directory, or was there
  pub inside_new : (w : Row) (e : Directory) → Place new_row w → child_of w ≡ Some e → ((w ≡ new_row) × (e ≡ new)) ⊎ Place x w
  inside_new w e q h = elim (place_cases new_row w q) [
    | inl is ↦ inl (is, same_Some e new (sym h ∙ ap child_of is ∙ new_holds))
    | inr b ↦
        (let dir : b.directory ≡ new = same_Some b.directory new (sym b.holds ∙ new_holds) in
        let there : find_row b.name new.rows ≡ Some b.row = ap (λ (c : Directory). find_row b.name c.rows) (sym dir) ∙ b.there in
        elim (from_with b.name n o a.directory.rows b.row rising there) [
          | inl was ↦ inr (place_on x b.row w (inside a.row a.directory b.name b.row on_row a.holds was) b.place)
          | inr came ↦ absurd (root_loaded b.row w e b.place h (if_some o (λ z. child_of z ≡ None) b.row a.unloaded came.1))
        ])
  ]

  can_be_stored : (w : Row) (e : Directory) → Place then w → child_of w ≡ Some e → AreStorable (listing_of e)
  can_be_stored w e q h = elim (edited_forth p (Some new) x a.row a.at w e q h) [
    | inl r ↦ elim (inside_new w e r h) [
      | inl is ↦ (let P : Directory → Type 0 = λ c. AreStorable (listing_of c) in subst P (sym is.1) a.entries)
      | inr was ↦ table.listed w e was h
    ]
    | inr b ↦ subst AreStorable (sym b.listing) (table.listed b.row b.directory b.place b.holds)
  ]

  now_table : IsTable then next
  now_table = record {
    root = edited_number p (Some new) x ∙ table.root;
    kind = edited_kind p (Some new) x ∙ table.kind;
    listed = can_be_stored;
    least = table.least;
    most = table.most;
  }

  module _ (h : honest) (R : Repository) where
    module _ (k : IsKept R F x next) where
      still_from : (w : Row) (e : Directory) → Place then w → child_of w ≡ Some e → w.origin ≢ origin.Own → IsFrom R no_files w e
      still_from w e q held other = elim (edited_forth p (Some new) x a.row a.at w e q held) [
        | inl r ↦ elim (inside_new w e r held) [
          | inl is ↦ absurd (other (ap (λ (c : Row). c.origin) is.0 ∙ a.own))
          | inr was ↦ k.agrees w e was held other
        ]
        | inr b ↦ from_alike R no_files w b.row e b.directory b.number b.origin b.listing (k.agrees b.row b.directory b.place b.holds (λ own. other (b.origin ∙ own)))
      ]

      now_kept : IsKept R files then next
      now_kept = let tied = (changes_kept honest F x next p n o h a).tied in record { full = tied.0; ties = tied.1; agrees = still_from }

    -- ---- what is shown

    -- the entries of other names are as they were, and that one is the new one
    others : (m : Name) → m ≢ n → find_row m new.rows ≡ find_row m a.directory.rows
    others m differ = elim (bytes_eq m n) as (λ b. bytes_eq m n ≡ b → find_row m new.rows ≡ find_row m a.directory.rows) [
      | true ↦ λ same. absurd (differ (same-≡ m n same))
      | false ↦ λ off. find_with m n o a.directory.rows rising ∙ ap (λ b. cond b o (find_row m a.directory.rows)) off
    ] refl

    here_new : find_row n new.rows ≡ o
    here_new = find_with n n o a.directory.rows rising ∙ ap (λ b. cond b o (find_row n a.directory.rows)) (same-refl n)

    -- the files show the same as before of the table as it was
    backed : Backs F (a.full h) x next
    backed = backs_tied F (a.full h) x next (a.ties h)

    still_backed : Backs files (a.full h) x next
    still_backed = backs_loaded F files (a.full h) x next backed a.row a.directory on_row a.holds (λ j off. apart F a.row.number (listing_of new) a.entries j off)

    shows_as_before : shown_in R files x ≡ shown_in R F x
    shows_as_before = backed_alike R F files (a.full h) x next backed still_backed x top

    now_shown : shown_in R files then ≡ graft (p ++ n ∷ []) (shown_from R files o) (shown_in R F x)
    now_shown = changes_graft R files p n o x a.row a.directory new (a.ties h).fits.is_dir a.at a.holds others here_new
        ∙ ap (λ (T : Tree). graft (p ++ n ∷ []) (shown_from R files o) T) shows_as_before

-- whatever the outside: a listing that changes leaves a table
abbrev pub ListingTable : Type 1
ListingTable = (honest : Type 0) (F : Stored) (x : Row) (next : ℕ) (p : Path) (n : Name) (o : Option Row) → IsTable x next
    → (may : MayChange honest F x next p n o) → IsTable (with_listing p (changed may.directory n o) x) next

pub listing_table : ListingTable
listing_table honest F x next p n o table a = now_table honest F x next p n o table a

-- where the outside is honest: stored first, it keeps a table over the files then
abbrev pub ListingKept : Type 1
ListingKept = (honest : Type 0) (R : Repository) (F : Stored) (x : Row) (next : ℕ) (p : Path) (n : Name) (o : Option Row) → honest → IsTable x next
    → IsKept R F x next → (may : MayChange honest F x next p n o)
    → IsKept R (with_entries F may.row.number (listing_of (changed may.directory n o))) (with_listing p (changed may.directory n o) x) next

pub listing_kept : ListingKept
listing_kept honest R F x next p n o h table k a = now_kept honest F x next p n o table a h R k

-- .. and what the entry shows over those files stands at and below the name, and all else is as before
abbrev pub ListingGrafts : Type 1
ListingGrafts = (honest : Type 0) (R : Repository) (F : Stored) (x : Row) (next : ℕ) (p : Path) (n : Name) (o : Option Row) → honest → IsTable x next
    → (may : MayChange honest F x next p n o) → (G : Stored) → G ≡ with_entries F may.row.number (listing_of (changed may.directory n o))
    → shown_in R G (with_listing p (changed may.directory n o) x) ≡ graft (p ++ n ∷ []) (shown_from R G o) (shown_in R F x)

pub listing_grafts : ListingGrafts
listing_grafts honest R F x next p n o h table a G is =
    let P : Stored → Type 0 = λ H. shown_in R H (with_listing p (changed a.directory n o) x) ≡ graft (p ++ n ∷ []) (shown_from R H o) (shown_in R F x) in
    subst P (sym is) (now_shown honest F x next p n o table a h R)
