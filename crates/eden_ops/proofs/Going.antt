-- What is left once directories went.
use Rattle.std.proofs.Common.{◌≡◌, ◌⊎◌, ◌<◌, ℕ, zero, suc, Bool, true, [], ◌∷◌, ◌++◌, Option, Some, None, IsSome, sym, refl, ◌∙◌, ap, subst, inl, inr, arith}
use Rattle.std.proofs.lemmas.Bool.{false≢true}
use Rattle.std.proofs.lemmas.List.{append-nil}
use Rattle.std.proofs.lemmas.Option.{same_Some, none-some}
use Rattle.std.specs.Option.{option_map, option_and_then}
use Rattle.eden_model.specs.Paths.{behind_of}
use Rattle.eden_model.specs.Trees.{Name, Path, grafted}
use Rattle.eden_model.proofs.CallerLemmas.{behind_sound}
use Rattle.eden_overlay.specs.declared.files.FilesFault.{FilesFault}
use Rattle.eden_overlay.specs.Files.{Stored}
use Rattle.eden_tree.specs.Directory.{Row, Directory, child_of, with_child, row_size}
use Rattle.eden_tree.specs.Rows.{find_row}
use Rattle.eden_tree.specs.Paths.{row_at, edit_row, Standing, standing, standing_at}
use Rattle.eden_tree.proofs.CallerLemmas.{reads_on, edits_one, edits_there, edits_not_beside, edits_nothing, child_of-with_child, row_at-unloaded, steps_down}
use Rattle.eden_tree.proofs.CallerLemmas.{row_size-find_row, directory_size-child_of}
use Rattle.eden_coupling.specs.Chains.{IsLoadedAt, IsUnsavedAt, NoneMarked, StaysLoaded}
use Rattle.eden_coupling.specs.NumberUnloads.{UnloadsAway, none, one_more, same_files}
use Rattle.eden_coupling.specs.Unloading.{HasNoneInside, IsSettled}
use Rattle.eden_coupling.proofs.CallerLemmas.{map_some, loaded_there, Loaded, loaded_found, mark_of, unsaved_standing, standing_unsaved}
use Rattle.eden_ops.specs.Changes.{SameNames}
use Rattle.eden_ops.specs.Letting.{IsLeft, LetsGo}
use Rattle.eden_ops.proofs.Growing.{front_of}
use Rattle.eden_ops.proofs.Names.{names_same, names_on, numbered, numbered_standing}

-- the entry v of what is left was there before
abbrev pub WasThere : Row → Path → Standing → Type 0
WasThere x q v = (y : Standing) × ((standing_at q x ≡ Some y) × IsLeft y v)

left_same : (v : Standing) → IsLeft v v
left_same v = record { number = refl; kind = refl; origin = refl; loaded = inl refl }

left_on : (y v w : Standing) → IsLeft y v → IsLeft v w → IsLeft y w
left_on y v w a b = record { number = b.number ∙ a.number; kind = b.kind ∙ a.kind; origin = b.origin ∙ a.origin; loaded = by b.loaded a.loaded } where
  by : (w.loaded ≡ v.loaded) ⊎ (w.loaded ≡ None) → (v.loaded ≡ y.loaded) ⊎ (v.loaded ≡ None) → (w.loaded ≡ y.loaded) ⊎ (w.loaded ≡ None)
  by (inl one) (inl two) = inl (one ∙ two)
  by (inl one) (inr two) = inr (one ∙ two)
  by (inr gone) two = inr gone

-- ---- one directory that went

module _ (path : Path) (x row : Row) (at : row_at path x ≡ Some row) where
  abbrev bare : Row
  bare = with_child None row

  bare_left : IsLeft (standing row) (standing bare)
  bare_left = record { number = refl; kind = refl; origin = refl; loaded = inr (ap (option_map (λ (e : Directory). (e.stamp, e.unsaved))) (child_of-with_child None row)) }

  was_by : (q : Path) (v : Standing) (o : Option Path) → behind_of path q ≡ o → grafted o (λ r. standing_at r bare) (standing_at q x) ≡ Some v → WasThere x q v
  was_by q v None front is = (v, (is, left_same v))
  was_by q v (Some []) front is =
      let here : path ≡ q = sym (append-nil path) ∙ sym (behind_sound path q [] front) in
      (standing row, (ap (option_map standing) (ap (λ (p : Path). row_at p x) (sym here) ∙ at), subst (IsLeft (standing row)) (same_Some (standing bare) v is) bare_left))
  was_by q v (Some (n ∷ r)) front is =
      absurd (none-some v (sym (ap (λ (c : Option Directory). option_map standing (option_and_then (λ (e : Directory). option_and_then (row_at r) (find_row n e.rows)) c))
      (child_of-with_child None row)) ∙ is))

  was_there : (q : Path) (v : Standing) → standing_at q (edit_row path (with_child None) x) ≡ Some v → WasThere x q v
  was_there q v is = was_by q v (behind_of path q) refl (sym (edits_one path (with_child None) x row q at) ∙ is)

  -- a directory that is still loaded is neither this one nor below it
  abbrev without : Row
  without = edit_row path (with_child None) x

  not_held : (r : Path) (v : Row) (d : Directory) → row_at r bare ≡ Some v → child_of v ≡ Some d → ⊥
  not_held [] v d there holds = none-some d (sym (child_of-with_child None row) ∙ ap child_of (same_Some bare v there) ∙ holds)
  not_held (n ∷ r) v d there holds = none-some v (sym (row_at-unloaded n r bare (child_of-with_child None row)) ∙ there)

  not_loaded : (q r : Path) → q ≡ path ++ r → IsLoadedAt q without → ⊥
  not_loaded q r split now =
      let l = loaded_found q without now in
      let here : row_at path without ≡ Some bare = edits_there path (with_child None) x ∙ ap (option_map (with_child None)) at in
      not_held r l.row l.directory
      (sym (ap (λ (p : Path). row_at p without) split ∙ reads_on path r without ∙ ap (option_and_then (row_at r)) here) ∙ l.at) l.holds

  names_by : (q : Path) (n : Name) (o : Option Path) → behind_of path (q ++ n ∷ []) ≡ o → IsLoadedAt q without
      → option_map numbered (grafted o (λ r. standing_at r bare) (standing_at (q ++ n ∷ []) x)) ≡ option_map numbered (standing_at (q ++ n ∷ []) x)
  names_by q n None front now = refl
  names_by q n (Some []) front now =
      let here : path ≡ q ++ n ∷ [] = sym (append-nil path) ∙ sym (behind_sound path (q ++ n ∷ []) [] front) in
      sym (ap (λ (o : Option Row). option_map numbered (option_map standing o)) (ap (λ (p : Path). row_at p x) (sym here) ∙ at))
  names_by q n (Some (m ∷ r)) front now =
      let h = front_of q path n m r (behind_sound path (q ++ n ∷ []) (m ∷ r) front) in
      absurd (not_loaded q h.0 h.1 now)

  names_without : SameNames x without
  names_without q n was now =
      numbered_standing (q ++ n ∷ []) without
      ∙ ap (option_map numbered) (edits_one path (with_child None) x row (q ++ n ∷ []) at)
      ∙ names_by q n (behind_of path (q ++ n ∷ [])) refl now
      ∙ sym (numbered_standing (q ++ n ∷ []) x)

-- what is loaded of what is left was so before
fewer_left : (x z : Row) → ((q : Path) (v : Standing) → standing_at q z ≡ Some v → WasThere x q v) → StaysLoaded z x
fewer_left x z left q now =
    let l = loaded_found q z now in
    let was = left q (standing l.row) (ap (option_map standing) l.at) in
    let y = map_some standing (row_at q x) was.0 (sym was.1.0) in
    by l was.0 y.0 y.1.0 y.1.1 was.1.1.loaded
  where
    by : (l : Loaded q z) (s : Standing) (y : Row) → row_at q x ≡ Some y → standing y ≡ s → ((standing l.row).loaded ≡ s.loaded) ⊎ ((standing l.row).loaded ≡ None) → IsLoadedAt q x
    by l s y there is (inl same) =
        let d = map_some (λ (e : Directory). (e.stamp, e.unsaved)) (child_of y) (l.directory.stamp, l.directory.unsaved)
        (sym (ap (λ (v : Standing). v.loaded) is ∙ sym same ∙ ap (option_map (λ (e : Directory). (e.stamp, e.unsaved))) l.holds)) in
        loaded_there q x y d.0 there d.1.0
    by l s y there is (inr gone) = absurd (none-some (l.directory.stamp, l.directory.unsaved) (sym gone ∙ ap (option_map (λ (e : Directory). (e.stamp, e.unsaved))) l.holds))

-- any number of them
unloads_left : (honest : Type 0) (clock age : ℕ) (F : Stored) (x : Row) (G : Stored) (z : Row) (c : ℕ) → UnloadsAway honest clock age F x G z c
    → (q : Path) (v : Standing) → standing_at q z ≡ Some v → WasThere x q v
unloads_left honest clock age F x _ _ _ none q v is = (v, (is, left_same v))
unloads_left honest clock age F x _ _ _ (one_more G y c H z u g) q v is =
    let a = was_there g.path y g.row g.at q v (sym (ap (standing_at q) g.gone) ∙ is) in
    let b = unloads_left honest clock age F x G y c u q a.0 a.1.0 in
    (b.0, (b.1.0, left_on b.0 a.0 v b.1.1 a.1.1))
unloads_left honest clock age F x _ _ _ (same_files G y c H u same) q v is = unloads_left honest clock age F x G y c u q v is

unloads_names : (honest : Type 0) (clock age : ℕ) (F : Stored) (x : Row) (G : Stored) (z : Row) (c : ℕ) → UnloadsAway honest clock age F x G z c → SameNames x z
unloads_names honest clock age F x _ _ _ none = names_same x x refl
unloads_names honest clock age F x _ _ _ (one_more G y c H z u g) =
    let back = fewer_left y z (λ q v is. was_there g.path y g.row g.at q v (sym (ap (standing_at q) g.gone) ∙ is)) in
    names_on x y z (λ p was now. back p now) (unloads_names honest clock age F x G y c u) (subst (SameNames y) (sym g.gone) (names_without g.path y g.row g.at))
unloads_names honest clock age F x _ _ _ (same_files G y c H u same) = unloads_names honest clock age F x G y c u

-- .. at and below a path alone
pub lets_go : (honest : Type 0) (clock age : ℕ) (F : Stored) (x : Row) (G : Stored) (z : Row) (c : ℕ) → UnloadsAway honest clock age F x G z c
    → (p : Path) → (y : Row) × (z ≡ edit_row p (λ w. y) x) → LetsGo p x z
lets_go honest clock age F x G z c u p one = record { elsewhere = one; left = unloads_left honest clock age F x G z c u; names = unloads_names honest clock age F x G z c u }

module _ (p : Path) (x z : Row) (g : LetsGo p x z) where
  -- what is loaded was so
  pub goes_fewer : StaysLoaded z x
  goes_fewer = fewer_left x z g.left

  -- .. and what is unsaved of them
  pub goes_marks : NoneMarked x z
  goes_marks q unsaved = by (standing_at q z) refl (unsaved_standing q z unsaved) where
    same : (s v : Standing) → IsLeft s v → mark_of (Some v) ≡ Some true → mark_of (Some s) ≡ Some true
    same s v left is = elim left.loaded [
      | inl one ↦ ap (option_map (λ (m : ℕ × Bool). m.1)) (sym one) ∙ is
      | inr gone ↦ absurd (none-some true (sym (ap (option_map (λ (m : ℕ × Bool). m.1)) gone) ∙ is))
    ]

    by : (o : Option Standing) → standing_at q z ≡ o → mark_of o ≡ Some true → IsUnsavedAt q x
    by None at is = absurd (none-some true is)
    by (Some v) at is = let was = g.left q v at in standing_unsaved q x (ap mark_of was.1.0 ∙ same was.0 v was.1.1 is)

  -- what doesn't stand at or below the path is as it was
  pub kept_elsewhere : (q : Path) → behind_of p q ≡ None → standing_at q z ≡ standing_at q x
  kept_elsewhere q off = ap (standing_at q) g.elsewhere.1 ∙ by_row (row_at p x) refl where
    by_row : (o : Option Row) → row_at p x ≡ o → standing_at q (edit_row p (λ w. g.elsewhere.0) x) ≡ standing_at q x
    by_row None at = ap (standing_at q) (edits_nothing p (λ w. g.elsewhere.0) x at)
    by_row (Some y) at = edits_one p (λ w. g.elsewhere.0) x y q at ∙ ap (λ (o : Option Path). grafted o (λ r. standing_at r g.elsewhere.0) (standing_at q x)) off

  pub beside : (q : Path) → behind_of p q ≡ None → behind_of q p ≡ None → row_at q z ≡ row_at q x
  beside q off back = ap (row_at q) g.elsewhere.1 ∙ edits_not_beside p q (λ w. g.elsewhere.0) x off back

  -- .. and loaded where it was
  pub loaded_elsewhere : (q : Path) → behind_of p q ≡ None → IsLoadedAt q x → IsLoadedAt q z
  loaded_elsewhere q off is =
      let l = loaded_found q x is in
      let s = kept_elsewhere q off ∙ ap (option_map standing) l.at in
      let y = map_some standing (row_at q z) (standing l.row) (sym s) in
      let d = map_some (λ (e : Directory). (e.stamp, e.unsaved)) (child_of y.0) (l.directory.stamp, l.directory.unsaved)
      (sym (ap (λ (v : Standing). v.loaded) y.1.1 ∙ ap (option_map (λ (e : Directory). (e.stamp, e.unsaved))) l.holds)) in
      loaded_there q z y.0 d.0 y.1.0 d.1.0

  -- the entry at the path is there with the number, kind and origin that it had
  pub stays_there : (y : Row) → row_at p x ≡ Some y → (v : Row) × ((row_at p z ≡ Some v) × IsLeft (standing y) (standing v))
  stays_there y at =
      let v = g.elsewhere.0 in
      let now : row_at p z ≡ Some v = ap (row_at p) g.elsewhere.1 ∙ edits_there p (λ w. v) x ∙ ap (option_map (λ w. v)) at in
      let was = g.left p (standing v) (ap (option_map standing) now) in
      let one : was.0 ≡ standing y = same_Some was.0 (standing y) (sym was.1.0 ∙ ap (option_map standing) at) in
      (v, (now, subst (λ (s : Standing). IsLeft s (standing v)) one was.1.1))

-- ---- a store that was not refused leaves none loaded

-- at and below the entry no directory is loaded that has none inside
abbrev HasNoLeaf : Row → Type 0
HasNoLeaf x = (p : Path) (y : Row) (d : Directory) → row_at p x ≡ Some y → child_of y ≡ Some d → HasNoneInside d → ⊥

-- then none is loaded at all: the deepest one would have none inside
shut : (x : Row) → ((z : Row) → row_size z < row_size x → HasNoLeaf z → child_of z ≡ None) → HasNoLeaf x → (o : Option Directory) → child_of x ≡ o → child_of x ≡ None
shut x smaller leaf None is = is
shut x smaller leaf (Some d) is = absurd (leaf [] x d refl is (λ n z found.
    let inside = row_size-find_row n d.rows z found in
    let below = directory_size-child_of x d is in
    smaller z (omega (arith, inside, below)) (λ p y e at. leaf (n ∷ p) y e (steps_down n p x z d is found ∙ at))))

leafless : (k : ℕ) (x : Row) → row_size x < k → HasNoLeaf x → child_of x ≡ None
leafless zero x less leaf = absurd (omega (arith, less))
leafless (suc k) x less leaf = shut x (λ z smaller inside. leafless k z (omega (arith, less, smaller)) inside) leaf (child_of x) refl

pub none_left : (clock : ℕ) (refused : Option FilesFault) (x : Row) → refused ≡ None → IsSettled clock 0 refused x → child_of x ≡ None
none_left clock refused x is settled = leafless (suc (row_size x)) x (omega (arith)) no_leaf where
  no_leaf : HasNoLeaf x
  no_leaf p y d at holds inside = false≢true (subst (λ (o : Option FilesFault). IsSome o) is (settled p y d at holds (omega (arith)) inside).1)
