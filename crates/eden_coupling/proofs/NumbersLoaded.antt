-- What a load does to the numbers that are shown.
use Rattle.std.proofs.Common.{◌≡◌, ◌⊎◌, ℕ, ◌<◌, ◌≤◌, List, [], ◌∷◌, ◌++◌, Option, Some, None, refl, sym, ap, subst, ◌∙◌, inl, inr, arith}
use Rattle.std.proofs.lemmas.Option.{same_Some}
use Rattle.std.specs.Option.{option_and_then}
use Rattle.eden_model.specs.declared.id.Id.{Id}
use Rattle.eden_model.specs.declared.kind.Origin.{Origin}
use Rattle.eden_model.specs.declared.kind.Origin.TheVariants as origin
use Rattle.eden_model.specs.declared.tree_entry.TreeEntry.{TreeEntry}
use Rattle.eden_model.specs.Paths.{behind_of}
use Rattle.eden_model.specs.Shown.{if_dir}
use Rattle.eden_model.specs.Trees.{Name, Path, grafted}
use Rattle.eden_model.specs.Backing.{AreShown, Gains}
use Rattle.eden_model.specs.Limits.{number_end}
use Rattle.eden_model.proofs.CallerLemmas.{behind_sound}
use Rattle.eden_overlay_format.specs.declared.stored_entry.StoredEntry.{StoredEntry}
use Rattle.eden_overlay.specs.Files.{Stored}
use Rattle.eden_tree.specs.Directory.{Row, Directory, child_of, with_child}
use Rattle.eden_tree.specs.Rows.{find_row}
use Rattle.eden_tree.specs.Paths.{edit_row}
use Rattle.eden_tree.proofs.CallerLemmas.{child_of-with_child, with_child-child_of}
use Rattle.eden_coupling.specs.Loading.{IsAt, LoadsObject, LoadsOwn, with_loaded}
use Rattle.eden_coupling.specs.Unloading.{HasNoneInside}
use Rattle.eden_coupling.specs.Numberings.{NumberFiles, number_files, entries_by, stored_below, row_named, entry_below, numbers, numbers_from}
use Rattle.eden_coupling.specs.NumberLoads.{AreBlank, ObjectLoadGains, SavedLoadSame}
use Rattle.eden_coupling.specs.NumberSaves.{HasStored}
use Rattle.eden_coupling.proofs.Objects.{none_inside}
use Rattle.eden_coupling.proofs.NumbersRead.{below_loaded, below_away, numbers_from_entry, entry_grafts, stamps_unseen, edited_alike}
use Rattle.eden_coupling.proofs.NumbersStored.{away_alike}
use Rattle.eden_coupling.proofs.NumbersGiven.{within, once, not_own, nothing_below}

-- ---- what is stored is loaded

pub stored_at : (M : NumberFiles) (p : Path) (x : Row) (o : Origin) (at : IsAt p x o) → stored_below M at.row ≡ entries_by M at.row.number o
stored_at M p x o at = ap (λ k. if_dir k (entries_by M at.row.number at.row.origin)) at.kind ∙ ap (entries_by M at.row.number) at.origin

-- an entry is what its loaded directory leaves
left_as : (y : Row) (d : Directory) → child_of y ≡ None → y ≡ with_child None (with_child (Some d) y)
left_as y d none = sym (ap (λ (o : Option Directory). with_child o y) (sym none) ∙ with_child-child_of y)

load_alike : (M : NumberFiles) (clock : ℕ) (x : Row) (p : Path) (o : Origin) (d : Directory) (q : Path) → (at : IsAt p x o) → HasNoneInside d → HasStored M at.row d
    → numbers M (with_loaded p clock d x) q ≡ numbers M x q
load_alike M clock x p o d q at inside_none had =
    stamps_unseen M p clock (edit_row p (with_child (Some d)) x) q
    ∙ edited_alike M p (with_child (Some d)) x at.row at.there (λ r.
    sym (away_alike M (with_child (Some d) at.row) at.row d (left_as at.row d at.unloaded) (child_of-with_child (Some d) at.row) inside_none had r)) q

pub saved_load_same : SavedLoadSame
saved_load_same M clock x p id d q at saved new =
    load_alike M clock x p (origin.Object id) d q at (none_inside d new.unloaded) (inl (stored_at M p x (origin.Object id) at ∙ saved))

-- .. and so they are with a directory of its own, or an empty one
abbrev pub OwnLoadSame : Type 1
OwnLoadSame = (honest : Type 0) (F : Stored) (saved : ℕ → Id → Option (List StoredEntry)) (clock : ℕ) (x : Row) (p : Path) (z : Row) (q : Path) → honest
    → IsAt p x origin.Own → LoadsOwn honest clock F x p z → numbers (number_files F saved) z q ≡ numbers (number_files F saved) x q

abbrev pub EmptyLoadSame : Type 1
EmptyLoadSame = (honest : Type 0) (F : Stored) (saved : ℕ → Id → Option (List StoredEntry)) (clock : ℕ) (x : Row) (p : Path) (z : Row) (q : Path)
    → IsAt p x origin.Empty → LoadsOwn honest clock F x p z → numbers (number_files F saved) z q ≡ numbers (number_files F saved) x q

pub own_load_same : OwnLoadSame
own_load_same honest F saved clock x p z q h at l =
    let M = number_files F saved in
    ap (λ (w : Row). numbers M w q) l.is
    ∙ load_alike M clock x p origin.Own l.directory q at (none_inside l.directory l.new.unloaded) (inl (stored_at M p x origin.Own at ∙ l.own h at.row at.there at.origin))

pub empty_load_same : EmptyLoadSame
empty_load_same honest F saved clock x p z q at l =
    let M = number_files F saved in
    ap (λ (w : Row). numbers M w q) l.is
    ∙ load_alike M clock x p origin.Empty l.directory q at (none_inside l.directory l.new.unloaded) (inr (stored_at M p x origin.Empty at, l.empty at.row at.there at.origin))

-- ---- what was not stored is loaded

-- a number that the load gave, and where
record IsGiven (p : Path) (d : Directory) (q : Path) (n : ℕ) : Type 0 where
  name : Name
  row : Row
  found : find_row name d.rows ≡ Some row
  number : row.number ≡ n
  is : q ≡ p ++ name ∷ []

module _ (M : NumberFiles) (clock next : ℕ) (x : Row) (p : Path) (id : Id) (es : List TreeEntry) (z : Row) (later : ℕ) (at : IsAt p x (origin.Object id))
    (saved : M.saved at.row.number id ≡ None) (blank : AreBlank M next) (l : LoadsObject clock next x p es z later) where
  abbrev y : Row
  y = at.row

  abbrev d : Directory
  d = l.directory

  now : (q : Path) → numbers M z q ≡ grafted (behind_of p q) (numbers M (with_child (Some d) y)) (numbers M x q)
  now q =
      ap (λ (w : Row). numbers M w q) l.is
      ∙ stamps_unseen M p clock (edit_row p (with_child (Some d)) x) q
      ∙ entry_grafts M p (with_child (Some d)) x y q at.there

  was_none : (n : Name) → entry_below M y n ≡ None
  was_none n = below_away M y n at.unloaded ∙ ap (option_and_then (row_named n)) (stored_at M p x (origin.Object id) at ∙ saved)

  is_there : (n : Name) → entry_below M (with_child (Some d) y) n ≡ find_row n d.rows
  is_there n = below_loaded M (with_child (Some d) y) d n (child_of-with_child (Some d) y)

  bounds : (n : Name) (w : Row) → find_row n d.rows ≡ Some w → (next ≤ w.number) × (w.number < later)
  bounds n w found =
      let both = within next d.rows n w l.has.numbered found in
      let most = both.1 in
      let count = l.has.count in
      let gives = l.gives in
      (both.0, omega (arith, most, count, gives))

  no_number : {X : Type 0} (o : Option Row) (r : Path) (n : ℕ) → o ≡ None → numbers_from M o r ≡ Some n → X
  no_number o r n none h = (let never : numbers_from M None r ≡ Some n = ap (λ (v : Option Row). numbers_from M v r) (sym none) ∙ h in cc)

  -- a number behind the directory that was loaded
  given_by : (q : Path) (m : Name) (r : Path) (n : ℕ) (o : Option Row) → find_row m d.rows ≡ o → q ≡ p ++ m ∷ r → numbers_from M o r ≡ Some n → IsGiven p d q n
  given_by q m r n None found is h = cc
  given_by q m [] n (Some w) found is h = record { name = m; row = w; found = found; number = same_Some w.number n h; is = is }
  given_by q m (k ∷ r) n (Some w) found is h =
      no_number (entry_below M w k) r n
      (nothing_below M next w k blank (bounds m w found).0 (not_own next es d m w l.has found) (none_inside d l.new.unloaded m w found)) h

  at_directory : (q : Path) → behind_of p q ≡ Some [] → numbers M x q ≡ Some y.number
  at_directory q e = ap (numbers M x) (behind_sound p q [] e) ∙ numbers_from_entry M x y p [] at.there

  new_by : (q : Path) (n : ℕ) (o : Option Path) → behind_of p q ≡ o → grafted o (numbers M (with_child (Some d) y)) (numbers M x q) ≡ Some n
      → (numbers M x q ≡ Some n) ⊎ IsGiven p d q n
  new_by q n None e h = inl h
  new_by q n (Some []) e h = inl (at_directory q e ∙ h)
  new_by q n (Some (m ∷ r)) e h = inr (given_by q m r n (find_row m d.rows) refl (behind_sound p q (m ∷ r) e) (ap (λ (v : Option Row). numbers_from M v r) (sym (is_there m)) ∙ h))

  new_case : (q : Path) (n : ℕ) → numbers M z q ≡ Some n → (numbers M x q ≡ Some n) ⊎ IsGiven p d q n
  new_case q n h = new_by q n (behind_of p q) refl (sym (now q) ∙ h)

  kept_by : (q : Path) (n : ℕ) (o : Option Path) → behind_of p q ≡ o → numbers M x q ≡ Some n → grafted o (numbers M (with_child (Some d) y)) (numbers M x q) ≡ Some n
  kept_by q n None e h = h
  kept_by q n (Some []) e h = sym (at_directory q e) ∙ h
  kept_by q n (Some (m ∷ r)) e h =
      no_number (entry_below M y m) r n (was_none m) (sym (numbers_from_entry M x y p (m ∷ r) at.there) ∙ sym (ap (numbers M x) (behind_sound p q (m ∷ r) e)) ∙ h)

  fresh_by : (q : Path) (n : ℕ) → (numbers M x q ≡ Some n) ⊎ IsGiven p d q n → (numbers M x q ≡ Some n) ⊎ ((next ≤ n) × (n < later))
  fresh_by q n (inl h) = inl h
  fresh_by q n (inr g) = inr (subst (λ (k : ℕ). (next ≤ k) × (k < later)) g.number (bounds g.name g.row g.found))

  once_by : (q r : Path) (n : ℕ) → AreShown (numbers M x) next → next ≤ n → (numbers M x q ≡ Some n) ⊎ IsGiven p d q n → (numbers M x r ≡ Some n) ⊎ IsGiven p d r n → q ≡ r
  once_by q r n shown least (inl h) c = let below = shown.below q n h in absurd (omega (arith, least, below))
  once_by q r n shown least (inr g) (inl h) = let below = shown.below r n h in absurd (omega (arith, least, below))
  once_by q r n shown least (inr g) (inr k) =
      g.is ∙ ap (λ (m : Name). p ++ m ∷ []) (once next d.rows g.name k.name g.row k.row l.has.numbered g.found k.found (g.number ∙ sym k.number)) ∙ sym k.is

  pub object_gains : AreShown (numbers M x) next → later ≤ number_end → Gains (numbers M x) next (numbers M z) later
  object_gains shown most = record {
    keeps = λ q n h. now q ∙ kept_by q n (behind_of p q) refl h;
    fresh = λ q n h. fresh_by q n (new_case q n h);
    once = λ q r n least a b. once_by q r n shown least (new_case q n a) (new_case r n b);
    rises = (let gives = l.gives in omega (arith, gives));
    most = most;
  }

pub object_load_gains : ObjectLoadGains
object_load_gains M clock next x p id es z later at saved blank shown l most = object_gains M clock next x p id es z later at saved blank l shown most
