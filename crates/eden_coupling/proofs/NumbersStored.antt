-- What storing, unloading and materialising do to the numbers that are shown.
use Rattle.std.proofs.Common.{◌≡◌, ◌≢◌, ℕ, true, false, cond, List, [], ◌∷◌, map, Option, Some, None, refl, sym, ap, ◌∙◌, inl, inr}
use Rattle.std.proofs.lemmas.Option.{same_Some}
use Rattle.std.specs.Str.{bytes_eq}
use Rattle.std.specs.Option.{option_map, option_and_then}
use Rattle.eden_model.specs.declared.kind.Origin.{Origin}
use Rattle.eden_model.specs.declared.kind.Origin.TheVariants as origin
use Rattle.eden_model.specs.Named.{named}
use Rattle.eden_model.specs.Shown.{if_dir}
use Rattle.eden_model.specs.Trees.{Name, Path}
use Rattle.eden_model.specs.Numbers.{AreOnce}
use Rattle.eden_overlay_format.specs.declared.stored_entry.StoredEntry.{StoredEntry}
use Rattle.eden_tree.specs.Directory.{Row, Directory, child_of, with_child}
use Rattle.eden_tree.specs.Rows.{find_row}
use Rattle.eden_tree.specs.Paths.{row_at}
use Rattle.eden_tree.proofs.CallerLemmas.{child_of-with_child, with_child-child_of}
use Rattle.eden_coupling.specs.Laws.{owned}
use Rattle.eden_coupling.specs.Listings.{stored_entry, listing_of}
use Rattle.eden_coupling.specs.Unloading.{HasNoneInside}
use Rattle.eden_coupling.specs.Numberings.{NumberFiles, entries_by, stored_below, row_of, row_named, entry_from, entry_below, numbers, numbers_from, entry_at}
use Rattle.eden_coupling.specs.NumberSaves.{SameElsewhere, HasStored, none, one_more, SaveUnseen, GoneSame, ManyGoneSame, OwnedSame}
use Rattle.eden_coupling.proofs.NumbersRead.{below_loaded, below_away, same_below, numbers_of_entries, in_memory, edited_alike}

-- ---- what no path leads to isn't seen

module _ (M K : NumberFiles) where
  abbrev pub SeesSame : Row → Type 0
  SeesSame x = (p : Path) (z : Row) → entry_at M x p ≡ Some z → child_of z ≡ None → stored_below K z ≡ stored_below M z

  pub from_alike : (o : Option Directory) (s t : Option (List StoredEntry)) (n : Name) → (o ≡ None → s ≡ t) → entry_from o s n ≡ entry_from o t n
  from_alike (Some d) s t n same = refl
  from_alike None s t n same = ap (option_and_then (row_named n)) (same refl)

  below_alike : (p : Path) (o : Option Row) → ((z : Row) → o ≡ Some z → numbers K z p ≡ numbers M z p) → numbers_from K o p ≡ numbers_from M o p
  below_alike p None below = refl
  below_alike p (Some z) below = below z refl

  pub sees_its_own : (x : Row) (p : Path) → SeesSame x → numbers K x p ≡ numbers M x p
  sees_its_own x [] same = refl
  sees_its_own x (n ∷ p) same =
      ap (λ (o : Option Row). numbers_from K o p) (from_alike (child_of x) (stored_below K x) (stored_below M x) n (λ away. same [] x refl away))
      ∙ below_alike p (entry_below M x n) (λ z e. sees_its_own z p (λ q w h. same (n ∷ q) w (ap (option_and_then (λ v. entry_at M v q)) e ∙ h)))

-- ---- the file of a loaded directory

pub entries_by_same : (M K : NumberFiles) (k c : ℕ) (o : Origin) → SameElsewhere M K k → c ≢ k → entries_by K c o ≡ entries_by M c o
entries_by_same M K k c (origin.Object id) same other = (same c other).1 id
entries_by_same M K k c origin.Own same other = (same c other).0
entries_by_same M K k c origin.Empty same other = refl

-- the number of a loaded directory is that of no other entry
pub not_loaded : (M : NumberFiles) (x y z : Row) (p a : Path) (d : Directory) → AreOnce (numbers M x) → row_at p x ≡ Some y → child_of y ≡ Some d
    → entry_at M x a ≡ Some z → child_of z ≡ None → z.number ≢ y.number
not_loaded M x y z p a d once at holds there away same =
    let here = in_memory M x y p at in
    let shown : numbers M x p ≡ Some y.number = numbers_of_entries M x p ∙ ap (option_map (λ (w : Row). w.number)) here in
    let also : numbers M x a ≡ Some y.number = numbers_of_entries M x a ∙ ap (option_map (λ (w : Row). w.number)) there ∙ ap (λ (k : ℕ). Some k) same in
    let one : a ≡ p = once a p y.number also shown in
    let is : z ≡ y = same_Some z y (sym there ∙ ap (entry_at M x) one ∙ here) in
    let both : child_of y ≡ None = ap child_of (sym is) ∙ away in
    absurd (no_directory (child_of y) d holds both)
  where
    no_directory : (o : Option Directory) (d : Directory) → o ≡ Some d → o ≡ None → ⊥
    no_directory o d a b = cc

-- a file that no entry which isn't loaded has
pub file_unseen : (M K : NumberFiles) (x : Row) (k : ℕ) (q : Path) → SameElsewhere M K k
    → ((a : Path) (z : Row) → entry_at M x a ≡ Some z → child_of z ≡ None → z.number ≢ k) → numbers K x q ≡ numbers M x q
file_unseen M K x k q same other =
    sees_its_own M K x q (λ a z there away. ap (if_dir z.kind) (entries_by_same M K k z.number z.origin same (other a z there away)))

pub save_unseen : SaveUnseen
save_unseen M K x y p d q once at holds same = file_unseen M K x y.number q same (λ a z there away. not_loaded M x y z p a d once at holds there away)

-- ---- a directory that goes

listing_found : (n : Name) (es : List (Name × Row)) → row_named n (map stored_entry es) ≡ option_map (with_child None) (find_row n es)
listing_found n [] = refl
listing_found n (e ∷ es) =
    elim (bytes_eq n e.0) as (λ b. option_map row_of (cond b (Some (stored_entry e)) (named (λ (s : StoredEntry). s.name) n (map stored_entry es)))
    ≡ option_map (with_child None) (cond b (Some e.1) (find_row n es))) [
      | true ↦ refl
      | false ↦ listing_found n es
    ]

as_is : (o : Option Row) → ((z : Row) → o ≡ Some z → child_of z ≡ None) → option_map (with_child None) o ≡ o
as_is None away = refl
as_is (Some z) away = ap (λ (w : Row). Some w) (ap (λ (c : Option Directory). with_child c z) (sym (away z refl)) ∙ with_child-child_of z)

-- what is stored of a directory with none inside has its entries
pub listed_entry : (d : Directory) (n : Name) → HasNoneInside d → row_named n (listing_of d) ≡ find_row n d.rows
listed_entry d n away = listing_found n d.rows ∙ as_is (find_row n d.rows) (λ z found. away n z found)

pub stored_entry_by : (K : NumberFiles) (y : Row) (d : Directory) (n : Name) → HasNoneInside d → HasStored K y d → option_and_then (row_named n) (stored_below K y) ≡ find_row n d.rows
stored_entry_by K y d n away (inl had) = ap (option_and_then (row_named n)) had ∙ listed_entry d n away
stored_entry_by K y d n away (inr had) = ap (option_and_then (row_named n)) had.0 ∙ sym (ap (find_row n) had.1)

-- unloaded it shows the numbers that it shows loaded
pub away_alike : (K : NumberFiles) (y z : Row) (d : Directory) → z ≡ with_child None y → child_of y ≡ Some d → HasNoneInside d → HasStored K y d
    → (q : Path) → numbers K z q ≡ numbers K y q
away_alike K y z d is holds inside_none had q =
    ap (λ (w : Row). numbers K w q) is
    ∙ same_below K K y (with_child None y) refl (λ n r. ap (λ (o : Option Row). numbers_from K o r)
    (below_away K (with_child None y) n (child_of-with_child None y) ∙ stored_entry_by K y d n inside_none had ∙ sym (below_loaded K y d n holds))) q

pub gone_same : GoneSame
gone_same M x K z q once l =
    ap (λ (w : Row). numbers K w q) l.gone
    ∙ edited_alike K l.path (with_child None) x l.row l.at (λ r. away_alike K l.row (with_child None l.row) l.directory refl l.holds l.none_inside l.stored r) q
    ∙ save_unseen M K x l.row l.path l.directory q once l.at l.holds l.elsewhere

pub once_alike : (M K : NumberFiles) (x z : Row) → ((q : Path) → numbers K z q ≡ numbers M x q) → AreOnce (numbers M x) → AreOnce (numbers K z)
once_alike M K x z same once p q n a b = once p q n (sym (same p) ∙ a) (sym (same q) ∙ b)

pub many_gone_same : ManyGoneSame
many_gone_same M x K z q once none = refl
many_gone_same M x K z q once (one_more L y N w many l) =
    gone_same L y K z q (once_alike M L x y (λ r. many_gone_same M x L y r once many) once) l ∙ many_gone_same M x L y q once many

-- ---- a directory that becomes its own

pub owned_alike : (K : NumberFiles) (y : Row) (d : Directory) → child_of y ≡ Some d → (q : Path) → numbers K (owned y) q ≡ numbers K y q
owned_alike K y d holds = same_below K K y (owned y) refl (λ n r. ap (λ (o : Option Row). numbers_from K o r)
    (below_loaded K (owned y) d n holds ∙ sym (below_loaded K y d n holds)))

pub owned_same : OwnedSame
owned_same M K x y p d q once at holds same =
    edited_alike K p owned x y at (λ r. owned_alike K y d holds r) q ∙ save_unseen M K x y p d q once at holds same
