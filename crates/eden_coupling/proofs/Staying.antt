-- What is loaded, what is saved and the other files, once an entry moved.
use Rattle.std.proofs.Common.{◌≡◌, ◌⊎◌, ℕ, true, false, cond, [], ◌∷◌, Option, Some, None, inl, inr, refl, sym, ap, ◌∙◌, subst}
use Rattle.std.specs.Str.{bytes_eq}
use Rattle.std.specs.Option.{option_map}
use Rattle.std.proofs.lemmas.Option.{same_Some}
use Rattle.eden_model.specs.Trees.{Name, Path}
use Rattle.eden_overlay.specs.Files.{Stored}
use Rattle.eden_overlay.proofs.CallerLemmas.{apart}
use Rattle.eden_tree.specs.Directory.{Row, Directory, child_of, with_child}
use Rattle.eden_tree.specs.Rows.{find_row, change_row}
use Rattle.eden_tree.specs.Paths.{row_at, edit_row}
use Rattle.eden_tree.proofs.CallerLemmas.{same-≡, child_of-with_child, change_rows-held, find_row-change_row, steps_down}
use Rattle.eden_coupling.specs.Listings.{listing_of}
use Rattle.eden_coupling.specs.Changing.{MayMove, changed, with_listing, moved_in, marked_source, files_left, files_moved}
use Rattle.eden_coupling.specs.Kept.{IsTable}
use Rattle.eden_coupling.specs.Chains.{IsUnsavedAt, NoneMarked, StaysLoaded}
use Rattle.eden_coupling.specs.Ties.{IsAway, Tied}
use Rattle.eden_coupling.proofs.Rows.{stored_rising}
use Rattle.eden_coupling.proofs.Chain.{place_at}
use Rattle.eden_coupling.proofs.Loops.{loaded_above}
use Rattle.eden_coupling.proofs.Moved.{from_with, if_some, loaded_with, loaded_before, MayChange}
use Rattle.eden_coupling.proofs.Between.{one_step}
use Rattle.eden_coupling.proofs.Moving.{leaving, coming, table_between}
use Rattle.eden_coupling.proofs.StaysLoaded.{Loaded, loaded_found, loaded_there}
use Rattle.eden_coupling.proofs.Unsaved.{unsaved_with, none_marked_with}

-- ---- what is loaded

-- with another directory at a path that has all that is loaded in the old one
module _ (y : Row) (d e : Directory) (held : child_of y ≡ Some d)
    (each : (m : Name) (w : Row) (c : Directory) → find_row m d.rows ≡ Some w → child_of w ≡ Some c → find_row m e.rows ≡ Some w) where
  abbrev new : Row → Row
  new x = with_child (Some e) x

  still_loaded : (p r : Path) (x : Row) → row_at p x ≡ Some y → Loaded r x → Loaded r (edit_row p new x)
  still_loaded [] [] x at l = record { row = new x; directory = e; at = refl; holds = child_of-with_child (Some e) x }
  still_loaded [] (m ∷ s) x at l =
      let w = one_step m s x l.row l.at in
      let same : w.directory ≡ d = same_Some w.directory d (sym w.holds ∙ ap child_of (same_Some x y at) ∙ held) in
      let up = loaded_above w.row l.row l.directory (place_at s w.row l.row w.rest) l.holds in
      let there : find_row m e.rows ≡ Some w.row = each m w.row up.0 (ap (λ (a : Directory). find_row m a.rows) (sym same) ∙ w.there) up.1 in
      record { row = l.row; directory = l.directory; at = steps_down m s (new x) w.row e (child_of-with_child (Some e) x) there ∙ w.rest; holds = l.holds }
  still_loaded (b ∷ p) [] x at l =
      let v = one_step b p x y at in
      let now : Directory = record v.directory { rows = change_row b (edit_row p new) v.directory.rows } in
      record {
        row = edit_row (b ∷ p) new x;
        directory = now;
        at = refl;
        holds = ap child_of (change_rows-held (change_row b (edit_row p new)) x v.directory v.holds) ∙ child_of-with_child (Some now) x;
      }
  still_loaded (b ∷ p) (m ∷ s) x at l =
      let v = one_step b p x y at in
      let w = one_step m s x l.row l.at in
      let k = edit_row p new in
      let rows = v.directory.rows in
      let now : Directory = record v.directory { rows = change_row b k rows } in
      let now_holds : child_of (edit_row (b ∷ p) new x) ≡ Some now = ap child_of (change_rows-held (change_row b k) x v.directory v.holds) ∙ child_of-with_child (Some now) x in
      let one : w.directory ≡ v.directory = same_Some w.directory v.directory (sym w.holds ∙ v.holds) in
      let found : find_row m rows ≡ Some w.row = ap (λ (a : Directory). find_row m a.rows) (sym one) ∙ w.there in
      elim (bytes_eq m b) as (λ t. bytes_eq m b ≡ t → Loaded (m ∷ s) (edit_row (b ∷ p) new x)) [
        | true ↦ λ t.
            (let row : w.row ≡ v.row = same_Some w.row v.row (sym found ∙ ap (λ (j : Name). find_row j rows) (same-≡ m b t) ∙ v.there) in
            let P : Row → Type 0 = λ a. row_at s a ≡ Some l.row in
            let i = still_loaded p s v.row v.rest (record { row = l.row; directory = l.directory; at = subst P row w.rest; holds = l.holds }) in
            record {
              row = i.row;
              directory = i.directory;
              at = steps_down m s (edit_row (b ∷ p) new x) (k v.row) now now_holds
                  (find_row-change_row m b k rows ∙ ap (λ c. cond c (option_map k (find_row b rows)) (find_row m rows)) t ∙ ap (option_map k) v.there) ∙ i.at;
              holds = i.holds;
            })
        | false ↦ λ t. record {
          row = l.row;
          directory = l.directory;
          at = steps_down m s (edit_row (b ∷ p) new x) w.row now now_holds
              (find_row-change_row m b k rows ∙ ap (λ c. cond c (option_map k (find_row b rows)) (find_row m rows)) t ∙ found) ∙ w.rest;
          holds = l.holds;
        }
      ] refl

abbrev pub MarkedStays : Type 0
MarkedStays = (x : Row) (p : Path) (n : Name) (q : Path) (m : Name) → (may : MayMove x p n q m) → StaysLoaded x (marked_source x p n q m may)

pub marked_stays : MarkedStays
marked_stays x p n q m a r loaded =
    let l = still_loaded a.from a.source (record a.source { unsaved = true }) a.holds_source (λ j w c f k. f) p r x a.at_from (loaded_found r x loaded) in
    loaded_there r (marked_source x p n q m a) l.row l.directory l.at l.holds

-- ---- a listing that changes

module _ (x : Row) (next : ℕ) (p : Path) (n : Name) (o : Option Row) (table : IsTable x next) (F : Stored) (a : MayChange ⊥ F x next p n o) where
  abbrev then : Row
  then = with_listing p (changed a.directory n o) x

  listing_stays : (r : Path) → Loaded r x → Loaded r then
  listing_stays r l = still_loaded a.row a.directory (changed a.directory n o) a.holds
      (loaded_with a.directory n o (stored_rising a.directory (table.listed a.row a.directory (place_at p x a.row a.at) a.holds)) a.may_go) p r x a.at l

  listing_marks : NoneMarked x then
  listing_marks = none_marked_with p x a.row (changed a.directory n o) a.at (λ j w found.
      elim (from_with j n o a.directory.rows w (stored_rising a.directory (table.listed a.row a.directory (place_at p x a.row a.at) a.holds)) found) [
        | inl was ↦ inl (steps_down j [] a.row w a.directory a.holds was)
        | inr is ↦ inr (if_some o (λ z. child_of z ≡ None) w a.unloaded is.1)
      ]) refl

module _ (x : Row) (next : ℕ) (p : Path) (n : Name) (q : Path) (m : Name) (table : IsTable x next) (a : MayMove x p n q m) where
  abbrev nothing : Stored
  nothing = λ k. None

  abbrev between : Row
  between = with_listing p (changed a.source n None) x

  abbrev left : MayChange ⊥ nothing x next p n None
  left = leaving ⊥ nothing x next p n q m a (λ h. absurd h)

  abbrev put_in : MayChange ⊥ (files_left x p n q m a nothing) between next q m (Some a.entry)
  put_in = coming ⊥ nothing x next p n q m a (λ h. absurd h)

  table_left : IsTable between next
  table_left = table_between ⊥ nothing x next p n q m a (λ h. absurd h) table

  both_stay : (r : Path) → Loaded r x → Loaded r (moved_in x p n q m a)
  both_stay r l = listing_stays between next q m (Some a.entry) table_left (files_left x p n q m a nothing) put_in r (listing_stays x next p n None table nothing left r l)

  both_marks : NoneMarked x (moved_in x p n q m a)
  both_marks r unsaved = listing_marks x next p n None table nothing left r (listing_marks between next q m (Some a.entry) table_left (files_left x p n q m a nothing) put_in r unsaved)

abbrev pub MovedStays : Type 0
MovedStays = (x : Row) (next : ℕ) (p : Path) (n : Name) (q : Path) (m : Name) → IsTable x next → (may : MayMove x p n q m)
    → StaysLoaded x (moved_in x p n q m may)

pub moved_stays : MovedStays
moved_stays x next p n q m table a r loaded =
    let l = both_stay x next p n q m table a r (loaded_found r x loaded) in
    loaded_there r (moved_in x p n q m a) l.row l.directory l.at l.holds

-- a move that is done marks nothing
abbrev pub MovedMarks : Type 0
MovedMarks = (x : Row) (next : ℕ) (p : Path) (n : Name) (q : Path) (m : Name) → IsTable x next → (may : MayMove x p n q m)
    → NoneMarked x (moved_in x p n q m may)

pub moved_marks : MovedMarks
moved_marks x next p n q m table a = both_marks x next p n q m table a

-- .. and one that isn't only the first directory
abbrev pub MarkedAlone : Type 0
MarkedAlone = (x : Row) (p : Path) (n : Name) (q : Path) (m : Name) → (may : MayMove x p n q m) → (r : Path)
    → IsUnsavedAt r (marked_source x p n q m may) → (r ≡ p) ⊎ IsUnsavedAt r x

pub marked_alone : MarkedAlone
marked_alone x p n q m a r unsaved =
    elim (unsaved_with p x a.from (record a.source { unsaved = true }) a.at_from (λ j w found. inl (steps_down j [] a.from w a.source a.holds_source found)) r unsaved) [
      | inl here ↦ inl here.0
      | inr was ↦ inr was
    ]

-- ---- the other files

-- it stores files of loaded directories alone
abbrev pub LeftElsewhere : Type 0
LeftElsewhere = (F : Stored) (x : Row) (p : Path) (n : Name) (q : Path) (m : Name) → (may : MayMove x p n q m) → (k : ℕ) → IsAway x k
    → files_left x p n q m may F k ≡ F k

pub left_elsewhere : LeftElsewhere
left_elsewhere F x p n q m a k away = apart F a.from.number (listing_of (changed a.source n None)) a.entries_left k (away a.from a.source (place_at p x a.from a.at_from) a.holds_source)

abbrev pub MovedElsewhere : Type 0
MovedElsewhere = (F : Stored) (x : Row) (next : ℕ) (p : Path) (n : Name) (q : Path) (m : Name) → Tied F x next → (may : MayMove x p n q m)
    → (k : ℕ) → IsAway x k → files_moved x p n q m may F k ≡ F k

pub moved_elsewhere : MovedElsewhere
moved_elsewhere F x next p n q m t a k away =
    let b = loaded_before F t.0 x next t.1 p a.from a.source n a.entry a.at_from a.holds_source a.own_from a.there a.unloaded a.entries_left a.to a.target
    (place_at q (with_listing p (changed a.source n None) x) a.to a.at_to) a.holds_target in
    apart (files_left x p n q m a F) a.to.number (listing_of (changed a.target m (Some a.entry))) a.entries_put k (λ is. away b.row b.directory b.place b.holds (b.number ∙ is))
    ∙ left_elsewhere F x p n q m a k away
