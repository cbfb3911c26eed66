-- What stores and changes together keep of a table's numbers.
use Rattle.std.proofs.Common.{◌≡◌, ◌≢◌, ◌≤◌, ◌<◌, ◌⊎◌, ℕ, true, cond, List, [], ◌∷◌, ◌++◌, Option, Some, None, IfSome, inl, inr, refl, sym, ap, subst, ◌∙◌, arith}
use Rattle.std.proofs.lemmas.Option.{same_Some, none-some}
use Rattle.std.specs.Option.{option_and_then}
use Rattle.eden_model.specs.declared.id.Id.{Id}
use Rattle.eden_model.specs.declared.kind.Kind.{Kind}
use Rattle.eden_model.specs.declared.kind.Kind.TheVariants as kind
use Rattle.eden_model.specs.declared.kind.Origin.{Origin}
use Rattle.eden_model.specs.declared.kind.Origin.TheVariants as origin
use Rattle.eden_model.specs.Named.{AreRising}
use Rattle.eden_model.specs.Numbers.{Numbering}
use Rattle.eden_model.specs.Repository.{Repository}
use Rattle.eden_model.specs.Shown.{if_dir}
use Rattle.eden_model.specs.Operations.{put, move}
use Rattle.eden_model.specs.Paths.{behind_of, path_eq}
use Rattle.eden_model.specs.Trees.{Name, Path, grafted, graft}
use Rattle.eden_overlay_format.specs.declared.header.Identifier.TheVariants as identifier
use Rattle.eden_overlay_format.specs.declared.state.State.{State}
use Rattle.eden_overlay_format.specs.declared.stored_entry.StoredEntry.{StoredEntry}
use Rattle.eden_overlay_format.specs.State.{state_body}
use Rattle.eden_overlay_format.specs.Stored.{stored_as}
use Rattle.eden_overlay_format.specs.Values.{entries_in}
use Rattle.eden_overlay_format.proofs.CallerLemmas.{written_found, other_has_none}
use Rattle.eden_overlay.specs.Files.{Stored}
use Rattle.eden_overlay.specs.Held.{HoldsEntries, entries_at, of_tree, numbers_of, saved_at, with_content, with_entries, with_state, without}
use Rattle.eden_overlay.proofs.CallerLemmas.{put_here, put_apart, entries_have_none}
use Rattle.eden_tree.specs.Directory.{Row, Directory, child_of, with_child}
use Rattle.eden_tree.specs.Paths.{row_at, edit_row}
use Rattle.eden_tree.specs.Rows.{find_row}
use Rattle.eden_tree.proofs.CallerLemmas.{child_of-with_child}
use Rattle.eden_coupling.specs.Chains.{Above, IsLoadedAt, chained}
use Rattle.eden_coupling.specs.Changing.{changed, with_listing, MayMove, moved_in, files_left, files_moved, marked_source}
use Rattle.eden_coupling.specs.Filing.{HasFile}
use Rattle.eden_coupling.specs.Kept.{IsTable, IsKept}
use Rattle.eden_coupling.specs.Laws.{owned}
use Rattle.eden_coupling.specs.Listings.{Place, listing_of}
use Rattle.eden_coupling.specs.Materialising.{Chain, owned_along}
use Rattle.eden_coupling.specs.NumberChanges.{IsBare}
use Rattle.eden_coupling.specs.NumberKept.{KeepsNumbers, SameNumbers, IsUnseen}
use Rattle.eden_coupling.specs.Numberings.{NumberFiles, in_files, entries_by, row_named, stored_below, entry_at, numbers, numbers_from}
use Rattle.eden_coupling.specs.Saving.{Saves, saved}
use Rattle.eden_coupling.specs.Standing.{IsNumbered, kept_number, new_number, MayStand}
use Rattle.eden_coupling.specs.Ties.{Ties, Tied, IsAway}
use Rattle.eden_coupling.proofs.Chain.{place_at, at_changed}
use Rattle.eden_coupling.proofs.Moving.{rising_target_of}
use Rattle.eden_coupling.proofs.NumbersChanged.{change_grafts, put_is_edit}
use Rattle.eden_coupling.proofs.NumbersEdited.{mark_keeps, replace_keeps, move_keeps}
use Rattle.eden_coupling.proofs.NumbersFiles.{loaded_files_keep, not_shown_unseen, other_not_shown, unseen_file_keeps, same_then, chain_keeps, above_elsewhere}
use Rattle.eden_coupling.proofs.NumbersFound.{number_at, one_below}
use Rattle.eden_coupling.proofs.NumbersRead.{below_away, below_loaded, in_memory}
use Rattle.eden_coupling.proofs.NumbersSaved.{path_to}
use Rattle.eden_coupling.proofs.NumbersSteps.{leave_keeps, left_not_shown, replaced_not_shown, come_keeps, owned_keeps}
use Rattle.eden_coupling.proofs.Places.{rising_of}
use Rattle.eden_coupling.proofs.Staying.{left_elsewhere, moved_elsewhere}
use Rattle.eden_coupling.proofs.StaysLoaded.{loaded_found}

-- ---- the files of loaded directories, and others

-- files that are these but for a loaded directory's
others_same : (F G : Stored) (x y : Row) (d : Directory) (p : Path) (es : List StoredEntry) → row_at p x ≡ Some y → child_of y ≡ Some d → G ≡ with_entries F y.number es
    → (c : ℕ) → IsAway x c → G c ≡ F c
others_same F G x y d p es at holds is c away = ap (λ (H : Stored). H c) is ∙ put_apart F y.number c _ (away y d (place_at p x y at) holds)

-- a content's file has no numbers
content_has_none : (F : Stored) (k : ℕ) (content : List ℕ) (id : Id) → saved_at (with_content F k content) k id ≡ None
content_has_none F k content id =
    ap (option_and_then (numbers_of id)) (put_here F k k (Some (stored_as identifier.File content)) refl)
    ∙ ap (option_and_then (of_tree id)) (other_has_none identifier.File (stored_as identifier.File content) content (written_found identifier.File content) (λ is. absurd (cc)))

nothing_saved : (F : Stored) (k : ℕ) (id : Id) → saved_at (without F k) k id ≡ None
nothing_saved F k id = ap (option_and_then (numbers_of id)) (put_here F k k None refl)

-- the file of a file or link
module _ (R : Repository) (F : Stored) (x : Row) (next : ℕ) (p : Path) (n : Name) (w : Row) (a : HasFile x p n w) (k : KeepsNumbers R F x next) where
  entry_there : entry_at (in_files F) x (p ++ n ∷ []) ≡ Some w
  entry_there = one_below (in_files F) x a.row w p n (in_memory (in_files F) x a.row p a.at) (below_loaded (in_files F) a.row a.directory n a.holds ∙ a.there)

  file_is_unseen : IsUnseen F x w.number
  file_is_unseen q z there away dir is =
      let M = in_files F in
      let one : q ≡ p ++ n ∷ [] = k.shown.once q (p ++ n ∷ []) w.number (number_at M x z q there ∙ ap (λ (c : ℕ). Some c) is) (number_at M x w (p ++ n ∷ []) entry_there) in
      let same : z ≡ w = same_Some z w (sym there ∙ ap (entry_at M x) one ∙ entry_there) in
      a.file (ap (λ (r : Row). r.kind) (sym same) ∙ dir)

  pub content_numbers : (content : List ℕ) → SameNumbers R F x (with_content F w.number content) x next
  content_numbers content = unseen_file_keeps R F x next w.number _ k file_is_unseen (content_has_none F w.number content)

-- a number that is yet to be given
module _ (R : Repository) (F : Stored) (x : Row) (next k : ℕ) (kept : KeepsNumbers R F x next) (least : next ≤ k) where
  given_unseen : IsUnseen F x k
  given_unseen = not_shown_unseen F x k (other_not_shown R F x next k kept (inr least))

  pub new_content_numbers : (content : List ℕ) → SameNumbers R F x (with_content F k content) x next
  new_content_numbers content = unseen_file_keeps R F x next k _ kept given_unseen (content_has_none F k content)

  pub new_entries_numbers : (es : List StoredEntry) → SameNumbers R F x (with_entries F k es) x next
  new_entries_numbers es = unseen_file_keeps R F x next k _ kept given_unseen (λ id. entries_have_none F k id es)

-- the state's file
module _ (R : Repository) (F : Stored) (x : Row) (next : ℕ) (kept : KeepsNumbers R F x next) where
  state_unseen : IsUnseen F x 0
  state_unseen = not_shown_unseen F x 0 (other_not_shown R F x next 0 kept (inl refl))

  pub state_numbers : (s : State) → SameNumbers R F x (with_state F s) x next
  state_numbers s = unseen_file_keeps R F x next 0 _ kept state_unseen (content_has_none F 0 (state_body s))

  pub stateless_numbers : SameNumbers R F x (without F 0) x next
  stateless_numbers = unseen_file_keeps R F x next 0 None kept state_unseen (nothing_saved F 0)

-- ---- a directory that is stored again

abbrev pub SavesNumbers : Type 1
SavesNumbers = (honest : Type 0) (R : Repository) (F : Stored) (x : Row) (next : ℕ) (p : Path) (G : Stored) (z : Row) → honest → KeepsNumbers R F x next
    → Saves honest p F x G z → SameNumbers R F x G z next

pub saves_numbers : SavesNumbers
saves_numbers honest R F x next p G z h k s =
    let stored = loaded_files_keep R F G x next k (others_same F G x s.row s.directory p (listing_of s.directory) s.at s.holds (s.stored h)) in
    subst (λ (r : Row). SameNumbers R F x G r next) (sym s.then)
    (same_then R F G G x x (with_listing p (saved s.directory) x) next stored (mark_keeps R G x s.row next p s.directory (saved s.directory) stored.keeps s.at s.holds refl))

-- ---- a chain that becomes the mount's own

abbrev pub OwnedNumbers : Type 0
OwnedNumbers = (R : Repository) (F : Stored) (x : Row) (next : ℕ) (p : Path) (G : Stored) → KeepsNumbers R F x next → IsLoadedAt p x → Chain F x p G
    → SameNumbers R F x G (owned (owned_along p x)) next

pub owned_numbers : OwnedNumbers
owned_numbers R F x next p G k loaded chain = let l = loaded_found p x loaded in chain_keeps R F x l.row next p l.directory G k l.at l.holds chain

-- ---- what may stand under a name

-- the same put over the same
put_alike : (p q : Path) (e : Option ℕ) (S T : Numbering) → S q ≡ T q → put S p e q ≡ put T p e q
put_alike p q e S T same = ap (λ (v : Option ℕ). cond (path_eq p q) e v) same

-- nothing is below a file or link, nor below a directory of which nothing, or no entry, is stored
bare_by : (t : Kind) (s : Option (List StoredEntry)) (m : Name) → (t ≡ kind.Dir → (s ≡ None) ⊎ (s ≡ Some [])) → option_and_then (row_named m) (if_dir t s) ≡ None
bare_by kind.File s m dir = refl
bare_by kind.Exec s m dir = refl
bare_by kind.Link s m dir = refl
bare_by kind.Dir s m dir = elim (dir refl) [ inl none ↦ ap (option_and_then (row_named m)) none | inr empty ↦ ap (option_and_then (row_named m)) empty ]

bare_from : (M : NumberFiles) (z : Row) → child_of z ≡ None → (z.kind ≡ kind.Dir → (entries_by M z.number z.origin ≡ None) ⊎ (entries_by M z.number z.origin ≡ Some [])) → IsBare M z
bare_from M z away dir m = below_away M z m away ∙ bare_by z.kind (entries_by M z.number z.origin) m dir

bare_file : (M : NumberFiles) (z : Row) → child_of z ≡ None → z.kind ≢ kind.Dir → IsBare M z
bare_file M z away file = bare_from M z away (λ dir. absurd (file dir))

some_is : {X : Type 0} (o : Option X) (P : X → Type 0) (x : X) → o ≡ Some x → IfSome o P → P x
some_is {X = X} o P x is h = subst (λ (u : Option X). IfSome u P) is h

module _ (honest : Type 0) (R : Repository) (F : Stored) (x : Row) (next : ℕ) (p : Path) (n : Name) (h : honest) (table : IsTable x next) (kept : IsKept R F x next)
    (k : KeepsNumbers R F x next) where
  module _ (o : Option Row) (m : MayStand honest R F x next p n o) (G : Stored) (up : Above (with_entries F m.row.number (listing_of (changed m.directory n o))) x p G) where
    abbrev d : Directory
    d = m.directory

    abbrev new : Directory
    new = changed m.directory n o

    rising : AreRising (λ r. r.0) d.rows
    rising = rising_of kept.full x next kept.ties.fits m.row d (place_at p x m.row m.at) m.holds

    elsewhere : (c : ℕ) → IsAway x c → G c ≡ F c
    elsewhere c away =
        above_elsewhere (with_entries F m.row.number (listing_of new)) x p G c up away
        ∙ put_apart F m.row.number c _ (away m.row d (place_at p x m.row m.at) m.holds)

    over : SameNumbers R F x G x next
    over = loaded_files_keep R F G x next k elsewhere

    -- ---- an entry of a number that was given since

    module _ (z : Row) (away : child_of z ≡ None) (before : KeepsNumbers R F x z.number) (empty : z.kind ≡ kind.Dir → HoldsEntries F z.number []) where
      given_away : IsAway x z.number
      given_away v e q loaded is =
          let r = path_to x v q in
          let below = before.shown.below r.0 v.number (number_at (in_files F) x v r.0 (in_memory (in_files F) x v r.0 r.1)) in
          omega (arith, below, is)

      none_saved : (id : Id) → saved_at G z.number id ≡ None
      none_saved id = ap (option_and_then (numbers_of id)) (elsewhere z.number given_away) ∙ before.blank z.number id (omega arith)

      nothing_by : (t : Origin) → z.kind ≡ kind.Dir → (entries_by (in_files G) z.number t ≡ None) ⊎ (entries_by (in_files G) z.number t ≡ Some [])
      nothing_by (origin.Object id) dir = inl (none_saved id)
      nothing_by origin.Own dir = inr (ap (option_and_then entries_in) (elsewhere z.number given_away) ∙ empty dir)
      nothing_by origin.Empty dir = inl refl

      not_shown : (q : Path) → numbers (in_files G) x q ≢ Some z.number
      not_shown q shown = let below = before.shown.below q z.number (sym (over.same q) ∙ shown) in omega (arith, below)

      come_then : z.number < next → KeepsNumbers R G (with_listing p (changed d n (Some z)) x) next
      come_then given =
          come_keeps R G x m.row z next p n d over.keeps m.at m.holds rising (bare_from (in_files G) z away (nothing_by z.origin)) none_saved before.shown.start given not_shown

    entry_then : (z : Row) → child_of z ≡ None → IsNumbered honest R F x next d n z → KeepsNumbers R G (with_listing p (changed d n (Some z)) x) next
    entry_then z away (kept_number w there number file_w file from) =
        let away_w = some_is (find_row n d.rows) (λ (v : Row). child_of v ≡ None) w there m.may_go in
        (replace_keeps R G x m.row z w next p n d over.keeps m.at m.holds rising there number (bare_file (in_files G) w away_w file_w) (bare_file (in_files G) z away file)
        (elim from [ inl same ↦ inr same | inr own ↦ inl own.0 ]) away_w).keeps
    entry_then z away (new_number least given kept_then before filed empty) = come_then z away (before h) (empty h) given

    listed_then : (u : Option Row) → o ≡ u → IfSome u (λ z. child_of z ≡ None) → IfSome u (IsNumbered honest R F x next d n)
        → KeepsNumbers R G (with_listing p (changed d n u) x) next
    listed_then None is away numbered = leave_keeps R G x m.row next p n d over.keeps m.at m.holds rising
    listed_then (Some z) is away numbered = entry_then z away numbered

    abbrev then : Row
    then = with_listing p new x

    pub then_keeps : KeepsNumbers R G then next
    then_keeps = listed_then o refl m.unloaded m.numbered

    pub chain_numbers : SameNumbers R G then G (chained p new x) next
    chain_numbers =
        owned_keeps R G then (with_child (Some new) m.row) next p new then_keeps (at_changed p (with_child (Some new)) x m.row m.at) (child_of-with_child (Some new) m.row)

    -- .. and shows at and below the name what comes
    pub chain_grafts : (q : Path) → numbers (in_files G) (chained p new x) q ≡ grafted (behind_of (p ++ n ∷ []) q) (numbers_from (in_files G) o) (numbers (in_files F) x q)
    chain_grafts q =
        chain_numbers.same q
        ∙ change_grafts (in_files G) p n o x m.row d q m.at m.holds rising
        ∙ ap (λ (e : Option ℕ). grafted (behind_of (p ++ n ∷ []) q) (numbers_from (in_files G) o) e) (over.same q)

    -- a new entry with its number alone
    module _ (z : Row) (away : child_of z ≡ None) (none : find_row n d.rows ≡ None) (before : KeepsNumbers R F x z.number)
        (empty : z.kind ≡ kind.Dir → HoldsEntries F z.number []) where
      pub new_puts : (q : Path) → numbers (in_files G) (with_listing p (changed d n (Some z)) x) q ≡ put (numbers (in_files F) x) (p ++ n ∷ []) (Some z.number) q
      new_puts q =
          put_is_edit (in_files G) p n x m.row z d q m.at m.holds rising none (bare_from (in_files G) z away (nothing_by z away before empty z.origin))
          ∙ put_alike (p ++ n ∷ []) q (Some z.number) (numbers (in_files G) x) (numbers (in_files F) x) (over.same q)

    -- .. and one in the place of another leaves all numbers
    module _ (z w : Row) (away : child_of z ≡ None) (there : find_row n d.rows ≡ Some w) (number : z.number ≡ w.number) (file_w : w.kind ≢ kind.Dir) (file : z.kind ≢ kind.Dir)
        (from : (z.origin ≡ origin.Own) ⊎ (z.origin ≡ w.origin)) where
      pub kept_same : (q : Path) → numbers (in_files G) (with_listing p (changed d n (Some z)) x) q ≡ numbers (in_files F) x q
      kept_same q =
          let away_w = some_is (find_row n d.rows) (λ (v : Row). child_of v ≡ None) w there m.may_go in
          (replace_keeps R G x m.row z w next p n d over.keeps m.at m.holds rising there number (bare_file (in_files G) w away_w file_w) (bare_file (in_files G) z away file)
          from away_w).same q ∙ over.same q

  -- .. and the file of what went may be removed
  module _ (m : MayStand honest R F x next p n None) (w : Row) (there : find_row n m.directory.rows ≡ Some w) (G : Stored)
      (up : Above (with_entries F m.row.number (listing_of (changed m.directory n None))) x p G) where
    abbrev ended : Row
    ended = chained p (changed m.directory n None) x

    removed_same : SameNumbers R G ended (without G w.number) ended next
    removed_same =
        let c = chain_numbers None m G up in
        unseen_file_keeps R G ended next w.number None c.keeps
        (not_shown_unseen G ended w.number (λ q shown.
        left_not_shown R G x m.row w next p n m.directory (over None m G up).keeps m.at m.holds (rising None m G up) there q (sym (c.same q) ∙ shown)))
        (nothing_saved G w.number)

    pub removed_numbers : KeepsNumbers R (without G w.number) ended next
    removed_numbers = removed_same.keeps

    pub removed_grafts : (q : Path) → numbers (in_files (without G w.number)) ended q ≡ graft (p ++ n ∷ []) (λ below. None) (numbers (in_files F) x) q
    removed_grafts q = removed_same.same q ∙ chain_grafts None m G up q

-- ---- an entry that moves

grafted_both : (o : Option Path) (X Y : Numbering) (e f : Option ℕ) → ((r : Path) → X r ≡ Y r) → e ≡ f → grafted o X e ≡ grafted o Y f
grafted_both None X Y e f same is = is
grafted_both (Some r) X Y e f same is = same r

move_alike : (S T : Numbering) → ((q : Path) → S q ≡ T q) → (from to r : Path) → move S from to r ≡ move T from to r
move_alike S T same from to r =
    grafted_both (behind_of to r) (λ rest. S (from ++ rest)) (λ rest. T (from ++ rest)) _ _ (λ rest. same (from ++ rest))
    (grafted_both (behind_of from r) (λ rest. None) (λ rest. None) (S r) (T r) (λ rest. refl) (same r))

module _ (R : Repository) (F : Stored) (x : Row) (next : ℕ) (p : Path) (n : Name) (q : Path) (m : Name) (table : IsTable x next) (kept : IsKept R F x next)
    (k : KeepsNumbers R F x next) (may : MayMove x p n q m) where
  rising_source : AreRising (λ r. r.0) may.source.rows
  rising_source = rising_of kept.full x next kept.ties.fits may.from may.source (place_at p x may.from may.at_from) may.holds_source

  rising_target : AreRising (λ r. r.0) may.target.rows
  rising_target = rising_target_of x next p n q m table may

  abbrev G : Stored
  G = files_moved x p n q m may F

  over_moved : SameNumbers R F x G x next
  over_moved = loaded_files_keep R F G x next k (moved_elsewhere F x next p n q m (kept.full, kept.ties) may)

  pub moved_numbers : KeepsNumbers R G (moved_in x p n q m may) next
  moved_numbers = (move_keeps R G x next p n q m may over_moved.keeps rising_source rising_target).keeps

  -- .. with its numbers
  pub moved_moves : (r : Path) → numbers (in_files G) (moved_in x p n q m may) r ≡ move (numbers (in_files F) x) (p ++ n ∷ []) (q ++ m ∷ []) r
  moved_moves r =
      (move_keeps R G x next p n q m may over_moved.keeps rising_source rising_target).changes r
      ∙ move_alike (numbers (in_files G) x) (numbers (in_files F) x) over_moved.same (p ++ n ∷ []) (q ++ m ∷ []) r

  -- the file of what it takes the place of may be removed
  replaced_same : (w : Row) → find_row m may.target.rows ≡ Some w → SameNumbers R G (moved_in x p n q m may) (without G w.number) (moved_in x p n q m may) next
  replaced_same w stood =
      unseen_file_keeps R G (moved_in x p n q m may) next w.number None moved_numbers
      (not_shown_unseen G (moved_in x p n q m may) w.number (replaced_not_shown R G x w next p n q m may over_moved.keeps rising_source rising_target stood))
      (nothing_saved G w.number)

  pub replaced_numbers : (w : Row) → find_row m may.target.rows ≡ Some w → KeepsNumbers R (without G w.number) (moved_in x p n q m may) next
  replaced_numbers w stood = (replaced_same w stood).keeps

  pub replaced_moves : (w : Row) → find_row m may.target.rows ≡ Some w
      → (r : Path) → numbers (in_files (without G w.number)) (moved_in x p n q m may) r ≡ move (numbers (in_files F) x) (p ++ n ∷ []) (q ++ m ∷ []) r
  replaced_moves w stood r = (replaced_same w stood).same r ∙ moved_moves r

  -- the first directory, stored without the entry, and marked unsaved
  pub marked_same : SameNumbers R F x (files_left x p n q m may F) (marked_source x p n q m may) next
  marked_same =
      let H = files_left x p n q m may F in
      let left = loaded_files_keep R F H x next k (λ c away. left_elsewhere F x p n q m may c away) in
      same_then R F H H x x (marked_source x p n q m may) next left
      (mark_keeps R H x may.from next p may.source (record may.source { unsaved = true }) left.keeps may.at_from may.holds_source refl)

  pub marked_numbers : KeepsNumbers R (files_left x p n q m may F) (marked_source x p n q m may) next
  marked_numbers = marked_same.keeps
