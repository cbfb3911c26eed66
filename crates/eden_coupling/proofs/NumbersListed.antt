-- That what is saved lists the entries of its tree object, through what loads, changes and goes.
use Rattle.std.proofs.Common.{◌≡◌, ℕ, Bool, true, false, cond, List, [], ◌∷◌, ◌++◌, Option, Some, None, refl, sym, ap, subst, ◌∙◌}
use Rattle.std.proofs.lemmas.Option.{same_Some, none-some, option_and_then_some}
use Rattle.std.specs.Str.{bytes_eq}
use Rattle.std.specs.Option.{option_and_then}
use Rattle.eden_model.specs.declared.id.Id.{Id}
use Rattle.eden_model.specs.declared.kind.Origin.TheVariants as origin
use Rattle.eden_model.specs.Named.{AreRising}
use Rattle.eden_model.specs.Repository.{Repository}
use Rattle.eden_model.specs.Trees.{Name, Path}
use Rattle.eden_overlay_format.specs.declared.stored_entry.StoredEntry.{StoredEntry}
use Rattle.eden_tree.specs.Directory.{Row, Directory, child_of, with_child}
use Rattle.eden_tree.specs.Rows.{find_row, set_row}
use Rattle.eden_tree.specs.Paths.{row_at, edit_row, stamped_along}
use Rattle.eden_tree.proofs.CallerLemmas.{child_of-with_child, find_row-set_row, steps_back}
use Rattle.eden_tree.proofs.CallerLemmas.{stamped_along-unloaded, stamped_along-end, stamped_along-absent, stamped_along-found}
use Rattle.eden_coupling.specs.Changing.{changed, with_listing}
use Rattle.eden_coupling.specs.Laws.{owned}
use Rattle.eden_coupling.specs.Loading.{with_loaded}
use Rattle.eden_coupling.specs.Materialising.{owned_along, kept_mark}
use Rattle.eden_coupling.specs.Numberings.{NumberFiles, stored_below, entry_below, entry_at}
use Rattle.eden_coupling.specs.NumberNodes.{ListsTree, ListTrees}
use Rattle.eden_coupling.specs.NumberSaves.{HasStored}
use Rattle.eden_coupling.specs.Unloading.{HasNoneInside}
use Rattle.eden_coupling.proofs.Materialised.{along_found}
use Rattle.eden_coupling.proofs.Moved.{find_with}
use Rattle.eden_coupling.proofs.NumbersFound.{entry_on}
use Rattle.eden_coupling.proofs.NumbersRead.{below_loaded, below_away, in_memory}
use Rattle.eden_coupling.proofs.NumbersStored.{SeesSame, from_alike, stored_entry_by}

module _ (R : Repository) (M : NumberFiles) where
  -- ---- one entry, and those below it

  -- what is saved for the entry itself lists its tree object
  abbrev pub ListsOwnTree : Row → Type 0
  ListsOwnTree x = (id : Id) (es : List StoredEntry) → x.origin ≡ origin.Object id → M.saved x.number id ≡ Some es → ListsTree R id es

  pub trees_here : (x : Row) → child_of x ≡ None → ListTrees R M x → ListsOwnTree x
  trees_here x away trees id es is had = trees [] x id es refl away is had

  pub trees_below : (x z : Row) (n : Name) → ListTrees R M x → entry_below M x n ≡ Some z → ListTrees R M z
  trees_below x z n trees there p w id es at away is had = trees (n ∷ p) w id es (ap (option_and_then (λ v. entry_at M v p)) there ∙ at) away is had

  pub trees_from : (x : Row) → (child_of x ≡ None → ListsOwnTree x) → ((n : Name) (z : Row) → entry_below M x n ≡ Some z → ListTrees R M z) → ListTrees R M x
  trees_from x here each [] w id es at away is had =
      let same : x ≡ w = same_Some x w at in
      here (ap child_of same ∙ away) id es (ap (λ (v : Row). v.origin) same ∙ is) (ap (λ (v : Row). M.saved v.number id) same ∙ had)
  trees_from x here each (n ∷ p) w id es at away is had =
      option_and_then_some (λ z. entry_at M z p) (entry_below M x n) w at (λ z there rest. each n z there p w id es rest away is had)

  pub trees_loaded : (x : Row) (d : Directory) → child_of x ≡ Some d → ((n : Name) (z : Row) → find_row n d.rows ≡ Some z → ListTrees R M z) → ListTrees R M x
  trees_loaded x d holds each =
      trees_from x (λ away. absurd (none-some d (sym away ∙ holds))) (λ n z there. each n z (sym (below_loaded M x d n holds) ∙ there))

  -- the entry at a path in memory
  pub trees_at : (p : Path) (x y : Row) → row_at p x ≡ Some y → ListTrees R M x → ListTrees R M y
  trees_at p x y at trees q w id es there away is had =
      trees (p ++ q) w id es (entry_on M x p q ∙ ap (option_and_then (λ v. entry_at M v q)) (in_memory M x y p at) ∙ there) away is had

  pub trees_row : (x z : Row) (d : Directory) (n : Name) → child_of x ≡ Some d → ListTrees R M x → find_row n d.rows ≡ Some z → ListTrees R M z
  trees_row x z d n holds trees found = trees_below x z n trees (below_loaded M x d n holds ∙ found)

  -- ---- another entry under a name, and at a path

  either_by : (b : Bool) (o now : Option Row) (w : Row) → cond b o now ≡ Some w → ((v : Row) → o ≡ Some v → ListTrees R M v) → ((v : Row) → now ≡ Some v → ListTrees R M v)
      → ListTrees R M w
  either_by true o now w h new old = new w h
  either_by false o now w h new old = old w h

  trees_set : (x z v : Row) (d e : Directory) (n : Name) → child_of x ≡ Some d → find_row n d.rows ≡ Some z → e.rows ≡ set_row n v d.rows → ListTrees R M x → ListTrees R M v
      → ListTrees R M (with_child (Some e) x)
  trees_set x z v d e n holds found rows trees new =
      trees_loaded (with_child (Some e) x) e (child_of-with_child (Some e) x) (λ m w there.
      either_by (bytes_eq m n) (Some v) (find_row m d.rows) w (sym (find_row-set_row m n v z d.rows found) ∙ ap (find_row m) (sym rows) ∙ there)
      (λ u is. subst (ListTrees R M) (same_Some v u is) new) (λ u was. trees_row x u d m holds trees was))

  same_rows : (x : Row) (d e : Directory) → child_of x ≡ Some d → e.rows ≡ d.rows → ListTrees R M x → ListTrees R M (with_child (Some e) x)
  same_rows x d e holds rows trees =
      trees_loaded (with_child (Some e) x) e (child_of-with_child (Some e) x) (λ m w there. trees_row x w d m holds trees (ap (find_row m) (sym rows) ∙ there))

  pub trees_edited : (p : Path) (f : Row → Row) (x y : Row) → row_at p x ≡ Some y → ListTrees R M x → ListTrees R M (f y) → ListTrees R M (edit_row p f x)
  trees_edited [] f x y at trees new = subst (λ (v : Row). ListTrees R M (f v)) (sym (same_Some x y at)) new
  trees_edited (n ∷ p) f x y at trees new =
      option_and_then_some (λ (d : Directory). option_and_then (row_at p) (find_row n d.rows)) (child_of x) y at (λ d holds rest.
      option_and_then_some (row_at p) (find_row n d.rows) y rest (λ z found below.
      subst (ListTrees R M) (steps_back n p f x z d holds found)
      (trees_set x z (edit_row p f z) d (record d { rows = set_row n (edit_row p f z) d.rows }) n holds found refl trees
      (trees_edited p f z y below (trees_row x z d n holds trees found) new))))

  pub trees_changed : (p : Path) (n : Name) (o : Option Row) (x y : Row) (d : Directory) → row_at p x ≡ Some y → child_of y ≡ Some d → AreRising (λ r. r.0) d.rows
      → ListTrees R M x → ((z : Row) → o ≡ Some z → ListTrees R M z) → ListTrees R M (with_listing p (changed d n o) x)
  trees_changed p n o x y d at holds rising trees new =
      let e = changed d n o in
      trees_edited p (with_child (Some e)) x y at trees
      (trees_loaded (with_child (Some e) y) e (child_of-with_child (Some e) y) (λ m w there.
      either_by (bytes_eq m n) o (find_row m d.rows) w (sym (find_with m n o d.rows rising) ∙ there) new
      (λ u was. trees_row y u d m holds (trees_at p x y at trees) was)))

  -- ---- stamps

  pub trees_stamped : (p : Path) (clock : ℕ) (x : Row) → ListTrees R M x → ListTrees R M (stamped_along p clock x)
  trees_stamped [] clock x trees = elim (child_of x) as (λ o. child_of x ≡ o → ListTrees R M (stamped_along [] clock x)) [
    | None ↦ λ none. subst (ListTrees R M) (sym (stamped_along-unloaded clock x [] none)) trees
    | Some d ↦ λ holds. subst (ListTrees R M) (sym (stamped_along-end clock x d holds)) (same_rows x d (record d { stamp = clock }) holds refl trees)
  ] refl
  trees_stamped (n ∷ p) clock x trees = elim (child_of x) as (λ o. child_of x ≡ o → ListTrees R M (stamped_along (n ∷ p) clock x)) [
    | None ↦ λ none. subst (ListTrees R M) (sym (stamped_along-unloaded clock x (n ∷ p) none)) trees
    | Some d ↦ λ holds. elim (find_row n d.rows) as (λ o. find_row n d.rows ≡ o → ListTrees R M (stamped_along (n ∷ p) clock x)) [
      | None ↦ λ absent. subst (ListTrees R M) (sym (stamped_along-absent clock x n p d holds absent)) (same_rows x d (record d { stamp = clock }) holds refl trees)
      | Some z ↦ λ found.
          subst (ListTrees R M) (sym (stamped_along-found clock x n p d holds z found))
          (trees_set x z (stamped_along p clock z) d (record d { stamp = clock; rows = set_row n (stamped_along p clock z) d.rows }) n holds found refl trees
          (trees_stamped p clock z (trees_row x z d n holds trees found)))
    ] refl
  ] refl

  -- ---- what was stored is loaded, and what is stored goes

  pub trees_resumed : (p : Path) (clock : ℕ) (x y : Row) (d : Directory) → row_at p x ≡ Some y → child_of y ≡ None → HasNoneInside d → HasStored M y d → ListTrees R M x
      → ListTrees R M (with_loaded p clock d x)
  trees_resumed p clock x y d at away inside_none had trees =
      trees_stamped p clock (edit_row p (with_child (Some d)) x)
      (trees_edited p (with_child (Some d)) x y at trees
      (trees_loaded (with_child (Some d) y) d (child_of-with_child (Some d) y) (λ n w found.
      trees_below y w n (trees_at p x y at trees) (below_away M y n away ∙ stored_entry_by M y d n inside_none had ∙ found))))

  pub trees_gone : (p : Path) (x y : Row) (d : Directory) → row_at p x ≡ Some y → child_of y ≡ Some d → HasNoneInside d → HasStored M y d → ListsOwnTree y → ListTrees R M x
      → ListTrees R M (edit_row p (with_child None) x)
  trees_gone p x y d at holds inside_none had here trees =
      let v = with_child None y in
      trees_edited p (with_child None) x y at trees
      (trees_from v (λ away. here) (λ n w there.
      trees_row y w d n holds (trees_at p x y at trees)
      (sym (below_away M v n (child_of-with_child None y) ∙ stored_entry_by M y d n inside_none had) ∙ there)))

  -- ---- a chain that becomes the mount's own

  trees_owned : (x : Row) (d : Directory) → child_of x ≡ Some d → ListTrees R M x → ListTrees R M (owned x)
  trees_owned x d holds trees = trees_loaded (owned x) d holds (λ n z found. trees_row x z d n holds trees found)

  pub trees_chained : (p : Path) (x y : Row) (d : Directory) → row_at p x ≡ Some y → child_of y ≡ Some d → ListTrees R M x → ListTrees R M (owned (owned_along p x))
  trees_chained [] x y d at holds trees = trees_owned x d (ap child_of (same_Some x y at) ∙ holds) trees
  trees_chained (n ∷ p) x y d at holds trees =
      option_and_then_some (λ (c : Directory). option_and_then (row_at p) (find_row n c.rows)) (child_of x) y at (λ c loaded rest.
      option_and_then_some (row_at p) (find_row n c.rows) y rest (λ z found below.
      let e : Directory = record c { rows = set_row n (owned (owned_along p z)) c.rows; unsaved = kept_mark (find_row n c.rows) c.unsaved } in
      let is = along_found n p x c z loaded found in
      trees_owned (owned_along (n ∷ p) x) e (ap child_of is ∙ child_of-with_child (Some e) x)
      (subst (ListTrees R M) (sym is)
      (trees_set x z (owned (owned_along p z)) c e n loaded found refl trees (trees_chained p z y d below holds (trees_row x z c n loaded trees found))))))

-- ---- other files

module _ (M K : NumberFiles) where
  below_by : (p : Path) (o : Option Row) → ((z : Row) → o ≡ Some z → entry_at K z p ≡ entry_at M z p)
      → option_and_then (λ z. entry_at K z p) o ≡ option_and_then (λ z. entry_at M z p) o
  below_by p None each = refl
  below_by p (Some z) each = each z refl

  -- what no path leads to isn't seen
  pub entries_alike : (x : Row) (p : Path) → SeesSame M K x → entry_at K x p ≡ entry_at M x p
  entries_alike x [] same = refl
  entries_alike x (n ∷ p) same =
      ap (option_and_then (λ z. entry_at K z p)) (from_alike M K (child_of x) (stored_below K x) (stored_below M x) n (λ away. same [] x refl away))
      ∙ below_by p (entry_below M x n) (λ z e. entries_alike z p (λ q w h. same (n ∷ q) w (ap (option_and_then (λ v. entry_at M v q)) e ∙ h)))

  -- nothing else is saved for what isn't loaded
  abbrev pub SavesNoMore : Row → Type 0
  SavesNoMore x = (p : Path) (z : Row) (id : Id) (es : List StoredEntry) → entry_at M x p ≡ Some z → child_of z ≡ None → K.saved z.number id ≡ Some es → M.saved z.number id ≡ Some es

  pub trees_seen : (R : Repository) (x : Row) → SeesSame M K x → SavesNoMore x → ListTrees R M x → ListTrees R K x
  trees_seen R x same saves trees p z id es at away is had =
      let there = sym (entries_alike x p same) ∙ at in
      trees p z id es there away is (saves p z id es there away had)
