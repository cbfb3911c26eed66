-- What directories that are put away and go leave of a table and its numbers.
use Rattle.std.proofs.Common.{◌≡◌, ◌≢◌, ◌≤◌, ◌-◌, ℕ, Bool, true, false, cond, List, [], ◌∷◌, Option, Some, None, inl, inr, refl, sym, ap, subst, ◌∙◌, arith}
use Rattle.std.proofs.lemmas.Option.{same_Some, none-some}
use Rattle.std.specs.Option.{option_map}
use Rattle.eden_model.specs.declared.id.Id.{Id}
use Rattle.eden_model.specs.declared.kind.Kind.TheVariants as kind
use Rattle.eden_model.specs.declared.kind.Origin.{Origin}
use Rattle.eden_model.specs.declared.kind.Origin.TheVariants as origin
use Rattle.eden_model.specs.Repository.{Repository, Source, source_of, no_files, entries_with, items_of}
use Rattle.eden_model.specs.Shown.{Items, if_dir}
use Rattle.eden_model.specs.Trees.{Name, Path}
use Rattle.eden_overlay_format.specs.Directory.{AreStorable}
use Rattle.eden_overlay_format.specs.declared.stored_entry.StoredEntry.{StoredEntry}
use Rattle.eden_overlay.specs.Files.{Stored}
use Rattle.eden_overlay.specs.Held.{HoldsEntries, saved_at, with_entries}
use Rattle.eden_overlay.proofs.CallerLemmas.{entries_held, numbers_held, put_apart}
use Rattle.eden_tree.specs.Directory.{Row, Directory, child_of, with_child}
use Rattle.eden_tree.specs.Rows.{find_row}
use Rattle.eden_tree.specs.Paths.{row_at, edit_row}
use Rattle.eden_tree.proofs.CallerLemmas.{same-refl}
use Rattle.eden_coupling.specs.Kept.{IsTable, IsKept}
use Rattle.eden_coupling.specs.Listings.{Place, listing_of}
use Rattle.eden_coupling.specs.NumberKept.{KeepsNumbers, SameNumbers}
use Rattle.eden_coupling.specs.NumberNodes.{ListsTree, ListTrees}
use Rattle.eden_coupling.specs.Numberings.{NumberFiles, in_files, entries_by, stored_below, numbers}
use Rattle.eden_coupling.specs.NumberSaves.{HasStored, IsSameOver}
use Rattle.eden_coupling.specs.NumberUnloads.{PutAwayKeeps, IsPutAway, own_stored, own_before, empty, numbers_saved, numbers_before, GoesAway, UnloadsAway, none, one_more, same_files, MayGoAway}
use Rattle.eden_coupling.specs.Shown.{item_away, IsFrom}
use Rattle.eden_coupling.specs.Ties.{IsAway}
use Rattle.eden_coupling.specs.Unloading.{Goes, HasNoneInside, none as none_went, one_more as one_went}
use Rattle.eden_coupling.proofs.Chain.{place_at}
use Rattle.eden_coupling.proofs.Gone.{goes_kept}
use Rattle.eden_coupling.proofs.NumbersFiles.{loaded_files_keep, same_then}
use Rattle.eden_coupling.proofs.NumbersKept.{same_kept}
use Rattle.eden_coupling.proofs.NumbersListed.{ListsOwnTree, trees_gone}
use Rattle.eden_coupling.proofs.NumbersGone.{gone_same_over}
use Rattle.eden_coupling.proofs.NumbersQuiet.{listing_not_own, none_own}
use Rattle.eden_coupling.proofs.NumbersRead.{edited_alike}
use Rattle.eden_coupling.proofs.NumbersStored.{away_alike, listed_entry}
use Rattle.eden_coupling.proofs.Rows.{map_some}
use Rattle.eden_coupling.proofs.Sound.{ties_sound}
use Rattle.eden_coupling.proofs.Tables.{unloads_table}
use Rattle.eden_coupling.proofs.UnloadsShown.{unloads_alike}

-- ---- what a directory has stored

-- one on a tree object lists the object's entries
lists_object : (R : Repository) (y : Row) (d : Directory) (id : Id) → y.origin ≡ origin.Object id → IsFrom R no_files y d → HasNoneInside d → ListsTree R id (listing_of d)
lists_object R y d id object from inside_none =
    let had : Some from.items ≡ option_map items_of (R.tree id) = sym from.had ∙ ap (λ o. entries_with R no_files (source_of y.number o)) object in
    let tree = map_some items_of (R.tree id) from.items had in
    (tree.0, tree.1.0, λ n. ap (option_map item_away) (listed_entry d n inside_none) ∙ from.each n ∙ ap (λ (items : Items Source). items n) (sym tree.1.1))

no_rows : (rows : List (Name × Row)) → ((n : Name) → find_row n rows ≡ None) → rows ≡ []
no_rows [] each = refl
no_rows (e ∷ es) each = absurd (none-some e.1 (sym (each e.0) ∙ ap (λ (b : Bool). cond b (Some e.1) (find_row e.0 es)) (same-refl e.0)))

-- an empty one has no rows
pub empty_rows : (R : Repository) (y : Row) (d : Directory) → y.origin ≡ origin.Empty → IsFrom R no_files y d → d.rows ≡ []
empty_rows R y d is from =
    no_rows d.rows (λ n. nothing (find_row n d.rows) (from.each n ∙ ap (λ (items : Items Source). items n)
    (same_Some from.items (λ m. None) (sym from.had ∙ ap (λ o. entries_with R no_files (source_of y.number o)) is))))
  where
    nothing : (o : Option Row) → option_map item_away o ≡ None → o ≡ None
    nothing None e = refl
    nothing (Some z) e = cc

-- ---- one directory goes, over files in which it is stored

module _ (R : Repository) (G : Stored) (x z y : Row) (next : ℕ) (p : Path) (d : Directory) (k : KeepsNumbers R G x next) (at : row_at p x ≡ Some y) (holds : child_of y ≡ Some d)
    (inside_none : HasNoneInside d) (had : HasStored (in_files G) y d) (lists : ListsOwnTree R (in_files G) y) (gone : z ≡ edit_row p (with_child None) x) where
  pub goes_same : SameNumbers R G x G z next
  goes_same =
      let M = in_files G in
      same_kept R G G x z next k
      (λ q. ap (λ (w : Row). numbers M w q) gone ∙ edited_alike M p (with_child None) x y at (λ r. away_alike M y (with_child None y) d refl holds inside_none had r) q)
      k.blank
      (subst (ListTrees R M) (sym gone) (trees_gone R M p x y d at holds inside_none had lists k.trees))

-- ---- from its store on

pub stored_is : (M : NumberFiles) (y : Row) (o : Origin) → y.kind ≡ kind.Dir → y.origin ≡ o → stored_below M y ≡ entries_by M y.number o
stored_is M y o dir is = ap (λ t. if_dir t (entries_by M y.number y.origin)) dir ∙ ap (entries_by M y.number) is

module _ (R : Repository) (F : Stored) (x : Row) (next : ℕ) (table : IsTable x next) (kept : IsKept R F x next) (k : KeepsNumbers R F x next) (y : Row) (p : Path) (d : Directory)
    (at : row_at p x ≡ Some y) (holds : child_of y ≡ Some d) (inside_none : HasNoneInside d) where
  place : Place x y
  place = place_at p x y at

  are : AreStorable (listing_of d)
  are = table.listed y d place holds

  dir : y.kind ≡ kind.Dir
  dir = kept.ties.fits.is_dir y d place holds

  object_other : (id : Id) → y.origin ≡ origin.Object id → y.origin ≢ origin.Own
  object_other id object own = let both : origin.Object id ≡ origin.Own = sym object ∙ own in absurd (cc)

  empty_other : y.origin ≡ origin.Empty → y.origin ≢ origin.Own
  empty_other is own = let both : origin.Empty ≡ origin.Own = sym is ∙ own in absurd (cc)

  off_by : (b : Bool) → d.unsaved ≡ b → y.origin ≢ origin.Own → d.unsaved ≡ false
  off_by true e other = absurd (other (kept.ties.marked y d place holds e))
  off_by false e other = e

  own_lists : (M : NumberFiles) → y.origin ≡ origin.Own → ListsOwnTree R M y
  own_lists M own id es is had = absurd (object_other id is own)

  empty_lists : (M : NumberFiles) → y.origin ≡ origin.Empty → ListsOwnTree R M y
  empty_lists M bare id es is had = let both : origin.Object id ≡ origin.Empty = sym is ∙ bare in absurd (cc)

  object_lists : (H : Stored) (id : Id) → y.origin ≡ origin.Object id → saved_at H y.number id ≡ Some (listing_of d) → ListsOwnTree R (in_files H) y
  object_lists H id object held i es is had =
      let both : origin.Object id ≡ origin.Object i = sym object ∙ is in
      let one : id ≡ i = cc in
      let same : listing_of d ≡ es = same_Some (listing_of d) es (sym held ∙ ap (λ (j : Id). saved_at H y.number j) one ∙ had) in
      subst (λ (j : Id). ListsTree R j es) one
      (subst (λ (l : List StoredEntry). ListsTree R id l) same (lists_object R y d id object (kept.agrees y d place holds (object_other id object)) inside_none))

  module _ (clock age : ℕ) (G : Stored) (z : Row) (old : age ≤ clock - d.stamp) (gone : z ≡ edit_row p (with_child None) x) where
    abbrev IsOver : Type 0
    IsOver = IsSameOver R F G x z next × KeepsNumbers R G z next

    numbers_by : ((c : ℕ) → IsAway x c → G c ≡ F c) → HasStored (in_files G) y d → ListsOwnTree R (in_files G) y → SameNumbers R F x G z next
    numbers_by files had lists =
        let stored = loaded_files_keep R F G x next k files in
        same_then R F G G x x z next stored (goes_same R G x z y next p d stored.keeps at holds inside_none had lists gone)

    over_by : (d.unsaved ≡ false → G ≡ F) → (d.unsaved ≡ true → G ≡ with_entries F y.number (listing_of d)) → SameNumbers R F x G z next → IsOver
    over_by saved stored same =
        let g : Goes (Unit {0}) clock age F x G z = record {
          path = p;
          row = y;
          directory = d;
          at = at;
          holds = holds;
          old = old;
          none_inside = inside_none;
          gone = gone;
          saved = λ h off. saved off;
          stored = λ h mark. stored mark;
        } in (
          record {
            kept = goes_kept (Unit {0}) R clock age next F x G z tt table kept g;
            nodes = unloads_alike (Unit {0}) R clock age next F x G z 1 tt table kept (one_went F x 0 G z none_went g);
            same = same.same;
          },
          same.keeps,
        )

    unchanged : G ≡ F → (c : ℕ) → IsAway x c → G c ≡ F c
    unchanged is c away = ap (λ (H : Stored). H c) is

    pub either_way : IsPutAway F y d G → IsOver
    either_way (own_stored own mark is) =
        let held : HoldsEntries G y.number (listing_of d) =
        subst (λ (H : Stored). HoldsEntries H y.number (listing_of d)) (sym is) (entries_held F y.number (listing_of d) are) in
        over_by (λ off. let both : true ≡ false = sym mark ∙ off in cc) (λ _. is)
        (numbers_by (λ c away. ap (λ (H : Stored). H c) is ∙ put_apart F y.number c _ (away y d place holds))
        (inl (stored_is (in_files G) y origin.Own dir own ∙ held)) (own_lists (in_files G) own))
    either_way (own_before own off is) =
        let s = kept.ties.stored y d place holds own in
        let held : HoldsEntries G y.number (listing_of d) =
        subst (λ (H : Stored). HoldsEntries H y.number (listing_of d)) (sym is) (subst (λ (es : List StoredEntry). HoldsEntries F y.number es) (s.all off) s.held) in
        over_by (λ _. is) (λ mark. let both : true ≡ false = sym mark ∙ off in cc)
        (numbers_by (unchanged is) (inl (stored_is (in_files G) y origin.Own dir own ∙ held)) (own_lists (in_files G) own))
    either_way (empty bare is) =
        let other = empty_other bare in
        over_by (λ _. is) (λ mark. absurd (other (kept.ties.marked y d place holds mark)))
        (numbers_by (unchanged is) (inr (stored_is (in_files G) y origin.Empty dir bare, empty_rows R y d bare (kept.agrees y d place holds other))) (empty_lists (in_files G) bare))
    either_way (numbers_saved id object bytes is) =
        let other = object_other id object in
        let over = gone_same_over R F x y p d id next table kept k.shown.once at holds object bytes inside_none (off_by d.unsaved refl other) in
        let held : saved_at G y.number id ≡ Some (listing_of d) =
        ap (λ (H : Stored). saved_at H y.number id) is
        ∙ numbers_held F y.number id (listing_of d) bytes are (none_own (listing_of d) (listing_not_own R y d id object (kept.agrees y d place holds other) are)) in
        let same = numbers_by (λ c away. ap (λ (H : Stored). H c) is ∙ put_apart F y.number c _ (away y d place holds))
        (inl (stored_is (in_files G) y (origin.Object id) dir object ∙ held)) (object_lists G id object held) in (
          subst (λ (r : Row). IsSameOver R F G x r next) (sym gone) (subst (λ (H : Stored). IsSameOver R F H x (edit_row p (with_child None) x) next) (sym is) over),
          same.keeps,
        )
    either_way (numbers_before id object had is) =
        let other = object_other id object in
        let held : saved_at G y.number id ≡ Some (listing_of d) = ap (λ (H : Stored). saved_at H y.number id) is ∙ had in
        over_by (λ _. is) (λ mark. absurd (other (kept.ties.marked y d place holds mark)))
        (numbers_by (unchanged is) (inl (stored_is (in_files G) y (origin.Object id) dir object ∙ held)) (object_lists G id object held))

pub put_away_keeps : PutAwayKeeps
put_away_keeps R F G x y next p d table kept k at holds inside_none away =
    either_way R F x next table kept k y p d at holds inside_none 0 0 G (edit_row p (with_child None) x) (omega arith) refl away

-- a directory that is put away and goes: the table is kept, its numbers too, and the same is shown
abbrev pub GoesAwayKeeps : Type 1
GoesAwayKeeps = (honest : Type 0) (R : Repository) (clock age next : ℕ) (F : Stored) (x : Row) (G : Stored) (z : Row) → honest → IsTable x next → IsKept R F x next
    → KeepsNumbers R F x next → GoesAway honest clock age F x G z → IsSameOver R F G x z next × KeepsNumbers R G z next

pub goes_away_keeps : GoesAwayKeeps
goes_away_keeps honest R clock age next F x G z h table kept k g =
    either_way R F x next table kept k g.row g.path g.directory g.at g.holds g.none_inside clock age G z g.old g.gone (g.put_away h)

-- ---- many

-- whatever the outside, a table stays one
abbrev pub UnloadsAwayTable : Type 1
UnloadsAwayTable = (honest : Type 0) (clock age next : ℕ) (F : Stored) (x : Row) (G : Stored) (z : Row) (c : ℕ) → IsTable x next → UnloadsAway honest clock age F x G z c
    → IsTable z next

pub unloads_away_table : UnloadsAwayTable
unloads_away_table honest clock age next F x G z c table none = table
unloads_away_table honest clock age next F x G z c table (one_more H y b K v u g) =
    let went : Goes ⊥ clock age H y K v = record {
      path = g.path;
      row = g.row;
      directory = g.directory;
      at = g.at;
      holds = g.holds;
      old = g.old;
      none_inside = g.none_inside;
      gone = g.gone;
      saved = λ h off. absurd h;
      stored = λ h mark. absurd h;
    } in
    unloads_table ⊥ clock age next H y K v 1 (unloads_away_table honest clock age next F x H y b table u) (one_went H y 0 K v none_went went)
unloads_away_table honest clock age next F x G z c table (same_files H y b K u same) = unloads_away_table honest clock age next F x H y b table u

abbrev pub UnloadsAwayKeeps : Type 1
UnloadsAwayKeeps = (honest : Type 0) (R : Repository) (clock age next : ℕ) (F : Stored) (x : Row) (G : Stored) (z : Row) (c : ℕ) → honest → IsTable x next
    → IsKept R F x next → KeepsNumbers R F x next → UnloadsAway honest clock age F x G z c → IsSameOver R F G x z next × KeepsNumbers R G z next

pub unloads_away_keep : UnloadsAwayKeeps
unloads_away_keep honest R clock age next F x G z c h table kept k none = (record { kept = kept; nodes = refl; same = λ q. refl }, k)
unloads_away_keep honest R clock age next F x G z c h table kept k (one_more H y b K v u g) =
    let before = unloads_away_keep honest R clock age next F x H y b h table kept k u in
    let step = goes_away_keeps honest R clock age next H y K v h (unloads_away_table honest clock age next F x H y b table u) before.0.kept before.1 g in
    (record { kept = step.0.kept; nodes = step.0.nodes ∙ before.0.nodes; same = λ q. step.0.same q ∙ before.0.same q }, step.1)
unloads_away_keep honest R clock age next F x G z c h table kept k (same_files H y b K u same) =
    subst (λ (I : Stored). IsSameOver R F I x y next × KeepsNumbers R I y next) (sym (same h)) (unloads_away_keep honest R clock age next F x H y b h table kept k u)

-- ---- so they may go

abbrev pub TablesGoAway : Type 1
TablesGoAway = (honest : Type 0) (R : Repository) (clock age next : ℕ) (F : Stored) (x : Row) → IsTable x next → (honest → IsKept R F x next)
    → (honest → KeepsNumbers R F x next) → MayGoAway honest clock age F x

pub tables_go_away : TablesGoAway
tables_go_away honest R clock age next F x table kept k G z c u =
    let left = unloads_away_table honest clock age next F x G z c table u in (
      (λ p y d at held. left.listed y d (place_at p z y at) held),
      (λ h. (let over = (unloads_away_keep honest R clock age next F x G z c h table (kept h) (k h) u).0.kept in ties_sound G over.full z next over.ties)),
    )
