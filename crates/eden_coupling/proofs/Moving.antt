-- An entry that moves: what it keeps of a table's invariant, and what is shown then.
use Rattle.std.proofs.Common.{◌≡◌, ◌≤◌, ◌≢◌, ℕ, Bool, cond, List, [], ◌∷◌, ◌++◌, Option, Some, None, IfSome, refl, sym, ap, ◌∙◌, subst}
use Rattle.std.proofs.Math.Path.{fun_ext}
use Rattle.std.specs.Option.{option_and_then}
use Rattle.eden_model.specs.Named.{AreRising}
use Rattle.eden_model.specs.Operations.{move}
use Rattle.eden_model.specs.Repository.{Repository}
use Rattle.eden_model.specs.Trees.{Name, Path, Tree, graft}
use Rattle.eden_overlay_format.specs.declared.stored_entry.StoredEntry.{StoredEntry}
use Rattle.eden_overlay.specs.Files.{Stored, with_file}
use Rattle.eden_overlay.specs.Held.{with_entries, without}
use Rattle.eden_overlay.specs.Laws.{IsUnnamed}
use Rattle.eden_overlay.proofs.CallerLemmas.{apart, numbers_from_two}
use Rattle.eden_tree.specs.Directory.{Row, Directory, child_of, with_child}
use Rattle.eden_tree.specs.Rows.{find_row}
use Rattle.eden_tree.specs.Paths.{row_at}
use Rattle.eden_tree.proofs.CallerLemmas.{reads_on, same-refl, child_of-with_child}
use Rattle.eden_coupling.specs.Listings.{stored_entry, full_entry, listing_of, full_listing, Place, inside}
use Rattle.eden_coupling.specs.Changing.{MayGo, MayMove, changed, with_listing, moved_in, files_left, files_moved, IsCarried}
use Rattle.eden_coupling.specs.Kept.{IsTable, IsKept}
use Rattle.eden_coupling.specs.Shown.{shown_in}
use Rattle.eden_coupling.specs.Ties.{Ties, Tied}
use Rattle.eden_coupling.proofs.Rows.{entry_as_is, stored_rising}
use Rattle.eden_coupling.proofs.Places.{rising_of, named_full, place_counts}
use Rattle.eden_coupling.proofs.Chain.{place_at, at_changed}
use Rattle.eden_coupling.proofs.Follows.{Back}
use Rattle.eden_coupling.proofs.Below.{shows_below}
use Rattle.eden_coupling.proofs.ShownFull.{Backs, backs_tied}
use Rattle.eden_coupling.proofs.Backed.{backs_loaded, backed_alike}
use Rattle.eden_coupling.proofs.Grown.{AreFree, free_put}
use Rattle.eden_coupling.proofs.LooseFiles.{unnamed_stray, taken_tied, taken_alike}
use Rattle.eden_coupling.proofs.Moved.{find_with, free_moved, drop_tied, move_tied, carried_full, unnamed, loaded_before, MayChange}
use Rattle.eden_coupling.proofs.Changed.{listing_table, listing_kept, listing_grafts}

-- a move is an entry left out, and then one put in
module _ (honest : Type 0) (F : Stored) (x : Row) (next : ℕ) (p : Path) (n : Name) (q : Path) (m : Name) (a : MayMove x p n q m) (t : honest → Tied F x next) where
  abbrev kept : Directory
  kept = changed a.source n None

  abbrev between : Row
  between = with_listing p kept x

  abbrev full_between : honest → Stored
  full_between h = with_entries (t h).0 a.from.number (full_listing kept)

  pub may_leave : MayGo a.source n
  may_leave = let P : Option Row → Type 0 = λ o. IfSome o (λ w. child_of w ≡ None) in subst P (sym a.there) a.unloaded

  pub tied_between : (h : honest) → Ties (files_left x p n q m a F) (full_between h) between next
  tied_between h = drop_tied F (t h).0 x next (t h).1 p a.from a.source n a.at_from a.holds_source a.own_from may_leave a.entries_left

  abbrev full_then : honest → Stored
  full_then h = with_entries (full_between h) a.to.number (full_listing (changed a.target m (Some a.entry)))

  pub tied_then : (h : honest) → Ties (files_moved x p n q m a F) (full_then h) (moved_in x p n q m a) next
  tied_then h = move_tied F (t h).0 x next (t h).1 p a.from a.source n a.entry a.at_from a.holds_source a.own_from a.there a.unloaded a.entries_left
      q a.to a.target m a.at_to a.holds_target a.own_to a.may_go a.entries_put

  pub carried : (h : honest) → IsCarried (files_left x p n q m a F) (full_between h) between next (stored_entry (m, a.entry))
  carried h = subst (λ s. IsCarried (files_left x p n q m a F) (full_between h) between next s) (entry_as_is m a.entry a.unloaded)
      (carried_full F (t h).0 x next (t h).1 p a.from a.source n a.entry a.at_from a.holds_source a.own_from a.there a.unloaded a.entries_left m)

  abbrev pub leaving : MayChange honest F x next p n None
  leaving = record {
    row = a.from;
    directory = a.source;
    at = a.at_from;
    holds = a.holds_source;
    own = a.own_from;
    may_go = may_leave;
    entries = a.entries_left;
    unloaded = tt;
    full = λ h. (t h).0;
    ties = λ h. (t h).1;
    may_come = λ h. tt;
    sound = λ h. (tied_between h).fits.sound;
  }

  abbrev pub coming : MayChange honest (files_left x p n q m a F) between next q m (Some a.entry)
  coming = record {
    row = a.to;
    directory = a.target;
    at = a.at_to;
    holds = a.holds_target;
    own = a.own_to;
    may_go = a.may_go;
    entries = a.entries_put;
    unloaded = a.unloaded;
    full = full_between;
    ties = tied_between;
    may_come = λ h. (a.unloaded, carried h);
    sound = λ h. (tied_then h).fits.sound;
  }

  module _ (table : IsTable x next) where
    pub table_between : IsTable between next
    table_between = listing_table honest F x next p n None table leaving

    pub table_then : IsTable (moved_in x p n q m a) next
    table_then = listing_table honest (files_left x p n q m a F) between next q m (Some a.entry) table_between coming

    module _ (h : honest) (R : Repository) where
      pub kept_then : IsKept R F x next → IsKept R (files_moved x p n q m a F) (moved_in x p n q m a) next
      kept_then k = listing_kept honest R (files_left x p n q m a F) between next q m (Some a.entry) h table_between
          (listing_kept honest R F x next p n None h table k leaving) coming

      -- the entry shows what it did
      backed : Backs F (t h).0 x next
      backed = backs_tied F (t h).0 x next (t h).1

      entry_at : row_at (p ++ n ∷ []) x ≡ Some a.entry
      entry_at =
          reads_on p (n ∷ []) x ∙ ap (option_and_then (row_at (n ∷ []))) a.at_from
          ∙ ap (option_and_then (λ (d : Directory). option_and_then (row_at []) (find_row n d.rows))) a.holds_source ∙ ap (option_and_then (row_at [])) a.there

      place_from : Place x a.from
      place_from = place_at p x a.from a.at_from

      backed_between : Backs (files_left x p n q m a F) (t h).0 x next
      backed_between = backs_loaded F (files_left x p n q m a F) (t h).0 x next backed a.from a.source place_from a.holds_source
          (λ j off. apart F a.from.number (listing_of kept) a.entries_left j off)

      to_before : Back x a.to.number
      to_before = loaded_before F (t h).0 x next (t h).1 p a.from a.source n a.entry a.at_from a.holds_source a.own_from a.there a.unloaded a.entries_left
          a.to a.target (place_at q between a.to a.at_to) a.holds_target

      backed_then : Backs (files_moved x p n q m a F) (t h).0 x next
      backed_then = backs_loaded (files_left x p n q m a F) (files_moved x p n q m a F) (t h).0 x next backed_between to_before.row to_before.directory to_before.place to_before.holds
          (λ j off. apart (files_left x p n q m a F) a.to.number (listing_of (changed a.target m (Some a.entry))) a.entries_put j (λ is. off (to_before.number ∙ is)))

      entry_shows : shown_in R (files_moved x p n q m a F) a.entry ≡ (λ rest. shown_in R F x ((p ++ n ∷ []) ++ rest))
      entry_shows =
          backed_alike R F (files_moved x p n q m a F) (t h).0 x next backed backed_then a.entry (inside a.from a.source n a.entry place_from a.holds_source a.there)
          ∙ fun_ext (λ rest. sym (shows_below R F (p ++ n ∷ []) rest x a.entry (t h).1.fits.is_dir entry_at))

      pub shown_then : shown_in R (files_moved x p n q m a F) (moved_in x p n q m a) ≡ move (shown_in R F x) (p ++ n ∷ []) (q ++ m ∷ [])
      shown_then =
          listing_grafts honest R (files_left x p n q m a F) between next q m (Some a.entry) h table_between coming (files_moved x p n q m a F) refl
          ∙ ap (λ (T : Tree). graft (q ++ m ∷ []) T (shown_in R (files_left x p n q m a F) between)) entry_shows
          ∙ ap (graft (q ++ m ∷ []) (λ rest. shown_in R F x ((p ++ n ∷ []) ++ rest)))
          (listing_grafts honest R F x next p n None h table leaving (files_left x p n q m a F) refl)

  -- numbers that nothing live named are free as before
  pub free_then : (h : honest) (es : List StoredEntry) → AreFree (t h).0 es → AreFree (full_then h) es
  free_then h = free_moved F (t h).0 x next (t h).1 p a.from a.source n a.entry a.at_from a.holds_source a.own_from a.there a.unloaded a.entries_left
      m q a.to a.target a.at_to a.holds_target a.own_to a.may_go a.entries_put

  module _ (h : honest) (w : Row) (stood : find_row m a.target.rows ≡ Some w) where
    unnamed_then : IsUnnamed (full_then h) w.number
    unnamed_then = unnamed F (t h).0 x next (t h).1 p a.from a.source n a.entry a.at_from a.holds_source a.own_from a.there a.unloaded a.entries_left
        m q a.to a.target a.at_to a.holds_target a.own_to a.may_go a.entries_put w stood

    least : 2 ≤ w.number
    least = numbers_from_two (full_between h) a.to.number (full_entry (m, w))
        (named_full (full_between h) between next (tied_between h).fits a.to a.target m w (place_at q between a.to a.at_to) a.holds_target stood)

    -- it isn't the entry that came in its place
    other_number : w.number ≢ a.entry.number
    other_number is =
        unnamed_then a.to.number (full_entry (m, a.entry)) (place_counts (full_then h) (moved_in x p n q m a) next (tied_then h).fits then_row then_dir then_place then_holds)
        (named_full (full_then h) (moved_in x p n q m a) next (tied_then h).fits then_row then_dir m a.entry then_place then_holds then_there) (sym is)
      where
        then_dir : Directory
        then_dir = changed a.target m (Some a.entry)

        then_row : Row
        then_row = with_child (Some then_dir) a.to

        then_place : Place (moved_in x p n q m a) then_row
        then_place = place_at q (moved_in x p n q m a) then_row (at_changed q (with_child (Some then_dir)) between a.to a.at_to)

        then_holds : child_of then_row ≡ Some then_dir
        then_holds = child_of-with_child (Some then_dir) a.to

        then_there : find_row m then_dir.rows ≡ Some a.entry
        then_there = find_with m m (Some a.entry) a.target.rows (rising_of (full_between h) between next (tied_between h).fits a.to a.target (place_at q between a.to a.at_to) a.holds_target)
            ∙ ap (λ (b : Bool). cond b (Some a.entry) (find_row m a.target.rows)) (same-refl m)

    removed : Ties (without (files_moved x p n q m a F) w.number) (with_file (full_then h) w.number None) (moved_in x p n q m a) next
    removed = taken_tied (files_moved x p n q m a F) (full_then h) (moved_in x p n q m a) next (tied_then h) w.number least unnamed_then

    free_removed : (es : List StoredEntry) → AreFree (full_then h) es → AreFree (with_file (full_then h) w.number None) es
    free_removed = free_put (full_then h) w.number None
        (unnamed_stray (files_moved x p n q m a F) (full_then h) (moved_in x p n q m a) next (tied_then h) w.number least unnamed_then)

    removed_shown : (R : Repository) → shown_in R (without (files_moved x p n q m a F) w.number) (moved_in x p n q m a) ≡ shown_in R (files_moved x p n q m a F) (moved_in x p n q m a)
    removed_shown R = taken_alike (files_moved x p n q m a F) (full_then h) (moved_in x p n q m a) next (tied_then h) w.number least unnamed_then R

-- both stores of a move, whatever the outside: a table stays one
abbrev pub MovedTable : Type 0
MovedTable = (x : Row) (next : ℕ) (p : Path) (n : Name) (q : Path) (m : Name) → IsTable x next → (may : MayMove x p n q m)
    → IsTable (moved_in x p n q m may) next

pub moved_table : MovedTable
moved_table x next p n q m table a = table_then ⊥ (λ k. None) x next p n q m a (λ h. absurd h) table

-- the rows of the directory that it goes to rise
pub rising_target_of : (x : Row) (next : ℕ) (p : Path) (n : Name) (q : Path) (m : Name) → IsTable x next → (may : MayMove x p n q m) → AreRising (λ r. r.0) may.target.rows
rising_target_of x next p n q m table a =
    let between = with_listing p (changed a.source n None) x in
    stored_rising a.target
    ((table_between ⊥ (λ k. None) x next p n q m a (λ h. absurd h) table).listed a.to a.target (place_at q between a.to a.at_to) a.holds_target)

-- where it is honest: a table is kept, and shows at the new path what stood below the old one, and nothing there
abbrev pub MovedKept : Type 0
MovedKept = (R : Repository) (F : Stored) (x : Row) (next : ℕ) (p : Path) (n : Name) (q : Path) (m : Name) → IsTable x next → IsKept R F x next
    → (may : MayMove x p n q m) → IsKept R (files_moved x p n q m may F) (moved_in x p n q m may) next

pub moved_kept : MovedKept
moved_kept R F x next p n q m table k a = kept_then (Unit {0}) F x next p n q m a (λ h. (k.full, k.ties)) table tt R k

abbrev pub MovedShown : Type 0
MovedShown = (R : Repository) (F : Stored) (x : Row) (next : ℕ) (p : Path) (n : Name) (q : Path) (m : Name) → IsTable x next → Tied F x next
    → (may : MayMove x p n q m) → shown_in R (files_moved x p n q m may F) (moved_in x p n q m may) ≡ move (shown_in R F x) (p ++ n ∷ []) (q ++ m ∷ [])

pub moved_shown : MovedShown
moved_shown R F x next p n q m table t a = shown_then (Unit {0}) F x next p n q m a (λ h. t) table tt R

-- the file of what was replaced: nothing names it, so it may be removed
abbrev pub ReplacedTied : Type 0
ReplacedTied = (F : Stored) (x : Row) (next : ℕ) (p : Path) (n : Name) (q : Path) (m : Name) → Tied F x next → (may : MayMove x p n q m)
    → (w : Row) → find_row m may.target.rows ≡ Some w → Tied (without (files_moved x p n q m may F) w.number) (moved_in x p n q m may) next

pub replaced_tied : ReplacedTied
replaced_tied F x next p n q m t a w stood =
    (with_file (full_then (Unit {0}) F x next p n q m a (λ h. t) tt) w.number None, removed (Unit {0}) F x next p n q m a (λ h. t) tt w stood)

abbrev pub ReplacedKept : Type 0
ReplacedKept = (R : Repository) (F : Stored) (x : Row) (next : ℕ) (p : Path) (n : Name) (q : Path) (m : Name) → IsTable x next → IsKept R F x next
    → (may : MayMove x p n q m) → (w : Row) → find_row m may.target.rows ≡ Some w
    → IsKept R (without (files_moved x p n q m may F) w.number) (moved_in x p n q m may) next

pub replaced_kept : ReplacedKept
replaced_kept R F x next p n q m table k a w stood = record {
  full = with_file (full_then (Unit {0}) F x next p n q m a (λ h. (k.full, k.ties)) tt) w.number None;
  ties = removed (Unit {0}) F x next p n q m a (λ h. (k.full, k.ties)) tt w stood;
  agrees = (moved_kept R F x next p n q m table k a).agrees;
}

abbrev pub ReplacedShown : Type 0
ReplacedShown = (R : Repository) (F : Stored) (x : Row) (next : ℕ) (p : Path) (n : Name) (q : Path) (m : Name) → Tied F x next
    → (may : MayMove x p n q m) → (w : Row) → find_row m may.target.rows ≡ Some w
    → shown_in R (without (files_moved x p n q m may F) w.number) (moved_in x p n q m may) ≡ shown_in R (files_moved x p n q m may F) (moved_in x p n q m may)

pub replaced_shown : ReplacedShown
replaced_shown R F x next p n q m t a w stood = removed_shown (Unit {0}) F x next p n q m a (λ h. t) tt w stood R

-- what was replaced isn't the entry that moved
abbrev pub ReplacedOther : Type 0
ReplacedOther = (F : Stored) (x : Row) (next : ℕ) (p : Path) (n : Name) (q : Path) (m : Name) → Tied F x next → (may : MayMove x p n q m)
    → (w : Row) → find_row m may.target.rows ≡ Some w → w.number ≢ may.entry.number

pub replaced_other : ReplacedOther
replaced_other F x next p n q m t a w stood = other_number (Unit {0}) F x next p n q m a (λ h. t) tt w stood

-- numbers that nothing live named stay free, in the files as they would be
abbrev pub MovedFree : Type 0
MovedFree = (R : Repository) (F : Stored) (x : Row) (next : ℕ) (p : Path) (n : Name) (q : Path) (m : Name) → IsTable x next → (k : IsKept R F x next)
    → (may : MayMove x p n q m) → (es : List StoredEntry) → AreFree k.full es
    → (z : IsKept R (files_moved x p n q m may F) (moved_in x p n q m may) next) × AreFree z.full es

pub moved_free : MovedFree
moved_free R F x next p n q m table k a es free = (
  record {
    full = full_then (Unit {0}) F x next p n q m a (λ h. (k.full, k.ties)) tt;
    ties = tied_then (Unit {0}) F x next p n q m a (λ h. (k.full, k.ties)) tt;
    agrees = (moved_kept R F x next p n q m table k a).agrees;
  },
  free_then (Unit {0}) F x next p n q m a (λ h. (k.full, k.ties)) tt es free,
)

abbrev pub ReplacedFree : Type 0
ReplacedFree = (R : Repository) (F : Stored) (x : Row) (next : ℕ) (p : Path) (n : Name) (q : Path) (m : Name) → IsTable x next → (k : IsKept R F x next)
    → (may : MayMove x p n q m) → (w : Row) → find_row m may.target.rows ≡ Some w → (es : List StoredEntry) → AreFree k.full es
    → (z : IsKept R (without (files_moved x p n q m may F) w.number) (moved_in x p n q m may) next) × AreFree z.full es

pub replaced_free : ReplacedFree
unfolding replaced_kept
replaced_free R F x next p n q m table k a w stood es free = (
  replaced_kept R F x next p n q m table k a w stood,
  free_removed (Unit {0}) F x next p n q m a (λ h. (k.full, k.ties)) tt w stood es (free_then (Unit {0}) F x next p n q m a (λ h. (k.full, k.ties)) tt es free),
)
