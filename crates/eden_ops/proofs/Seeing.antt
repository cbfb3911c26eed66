-- What memory knows, and what is shown.
use Rattle.std.proofs.Common.{◌≡◌, ℕ, Bool, true, false, List, [], ◌∷◌, ◌++◌, Option, Some, None, sym, refl, ◌∙◌, ap, subst}
use Rattle.std.proofs.lemmas.Bool.{false≢true}
use Rattle.std.proofs.lemmas.List.{append-nil, append_assoc}
use Rattle.std.specs.Option.{option_map, option_and_then, is_some, IsSome}
use Rattle.eden_model.specs.declared.errno.Errno.{Errno}
use Rattle.eden_model.specs.declared.kind.Kind.{Kind}
use Rattle.eden_model.specs.declared.kind.Kind.TheVariants as kind
use Rattle.eden_model.specs.declared.kind.Origin.{Origin}
use Rattle.eden_model.specs.declared.node.Node.{Node}
use Rattle.eden_model.specs.declared.node.Node.TheVariants.{Dir}
use Rattle.eden_model.specs.Repository.{Repository, source_of, content_with, entries_with}
use Rattle.eden_model.specs.Shown.{node_from, node_of, map_items}
use Rattle.eden_model.specs.Trees.{Name, Path, Tree, Walk, Passes, Stops, Unlisted, through, walk_from, walk, Fails, Absent, Here, ends, reach}
use Rattle.eden_overlay.specs.Files.{Stored}
use Rattle.eden_overlay.specs.Held.{own_files}
use Rattle.eden_tree.specs.Directory.{Child, unloaded, loaded, Row, Directory, child_of, directory_in}
use Rattle.eden_tree.specs.Rows.{find_row}
use Rattle.eden_tree.specs.Paths.{row_at}
use Rattle.eden_tree.proofs.CallerLemmas.{reads_on}
use Rattle.eden_coupling.specs.Kept.{IsKept}
use Rattle.eden_coupling.specs.Listings.{Place}
use Rattle.eden_coupling.specs.Shown.{Away, item_in, table_ground, shown_in}
use Rattle.eden_coupling.specs.ShownLaws.{AreDirectories, ShowsBelow, ShowsAbsent}
use Rattle.eden_coupling.proofs.CallerLemmas.{place_at}
use Rattle.eden_ops.specs.Known.{known_node, known}
use Rattle.eden_ops.specs.Attempts.{shown_node}
use Rattle.eden_ops.proofs.Walking.{known_loaded, known_unloaded}

pub kept_dirs : (R : Repository) (F : Stored) (x : Row) (next : ℕ) → IsKept R F x next → AreDirectories x
kept_dirs R F x next k = k.ties.fits.is_dir

-- ---- the node of an entry

by_kind : (k : Kind) (c : Option (List ℕ)) → k ≡ kind.Dir → node_from k None true ≡ node_from k c true
by_kind kind.File c is = cc
by_kind kind.Exec c is = cc
by_kind kind.Link c is = cc
by_kind kind.Dir c is = refl

-- an entry shows its content, where it is no directory
pub record Shows (R : Repository) (F : Stored) (y : Row) (n : Node) : Type 0 where
  pub listed : Bool
  pub is : n ≡ shown_node R F y listed
  pub loaded : IsSome (child_of y) → (y.kind ≡ kind.Dir) × (listed ≡ true)

module _ (R : Repository) (F : Stored) (number : ℕ) (k : Kind) (o : Origin) where
  abbrev entry : Child → Row
  entry c = record { number = number; kind = k; origin = o; child = c }

  shows_by : (c : Child) → (IsSome (directory_in c) → k ≡ kind.Dir) → Shows R F (entry c) (node_of (table_ground R (own_files F)) (item_in (entry c)))
  shows_by unloaded dir = record { listed = is_some (option_map (map_items Away) (entries_with R (own_files F) (source_of number o))); is = refl; loaded = λ l. absurd (false≢true l) }
  shows_by (loaded s u r) dir = record { listed = true; is = by_kind k (content_with R (own_files F) (source_of number o)) (dir refl); loaded = λ l. (dir refl, refl) }

dir_of : (x y : Row) → AreDirectories x → Place x y → (o : Option Directory) → child_of y ≡ o → IsSome o → y.kind ≡ kind.Dir
dir_of x y dirs place None is l = absurd (false≢true l)
dir_of x y dirs place (Some d) is l = dirs y d place is

module _ (below : ShowsBelow) (missing : ShowsAbsent) (R : Repository) (F : Stored) (x : Row) (dirs : AreDirectories x) where
  abbrev G : Tree
  G = shown_in R F x

  pub shown_there : (p : Path) (y : Row) → row_at p x ≡ Some y → (n : Node) × ((G p ≡ Some n) × Shows R F y n)
  shown_there p y at = (
    node_of (table_ground R (own_files F)) (item_in y),
    (ap G (sym (append-nil p)) ∙ below R F p [] x y dirs at, shows_by R F y.number y.kind y.origin y.child (dir_of x y dirs (place_at p x y at) (child_of y) refl)),
  )

  -- what isn't in memory there isn't shown there
  abbrev Seen : Path → Type 0
  Seen p = row_at p x ≡ None → G p ≡ None

  find_none : (n : Name) (d : Directory) → option_and_then (row_at []) (find_row n d.rows) ≡ None → find_row n d.rows ≡ None
  find_none n d is = none_by (find_row n d.rows) is where
    none_by : (o : Option Row) → option_and_then (row_at []) o ≡ None → o ≡ None
    none_by None h = refl
    none_by (Some y) h = cc

  seen_below : (p : Path) (n : Name) (y : Row) (d : Directory) → row_at p x ≡ Some y → child_of y ≡ Some d → Seen (p ++ n ∷ [])
  seen_below p n y d at holds none =
      missing R F p n [] x y d dirs at holds
      (find_none n d (sym (ap (option_and_then (λ (e : Directory). option_and_then (row_at []) (find_row n e.rows))) holds) ∙ sym (ap (option_and_then (row_at (n ∷ []))) at) ∙ sym
      (reads_on p (n ∷ []) x) ∙ none))

  -- how the walk goes over what is shown, where it goes so over what is known
  abbrev Same : Walk → Path → Path → Type 0
  Same Passes f rest = (walk_from G f rest ≡ Passes) × Seen (f ++ rest)
  Same (Stops e) f rest = walk_from G f rest ≡ Stops e
  Same Unlisted f rest = Unit {0}

  lifted : (f : Path) (n : Name) (rest : Path) (w : Walk) → G f ≡ Some (Dir true) → Same w (f ++ n ∷ []) rest → Same w f (n ∷ rest)
  lifted f n rest Passes dir h = (ap (λ (o : Option Node). through o (walk_from G (f ++ n ∷ []) rest)) dir ∙ h.0, subst Seen (append_assoc f (n ∷ []) rest) h.1)
  lifted f n rest (Stops e) dir h = ap (λ (o : Option Node). through o (walk_from G (f ++ n ∷ []) rest)) dir ∙ h
  lifted f n rest Unlisted dir h = tt

  -- an entry that isn't loaded
  by_away : (f : Path) (n : Name) (rest : Path) (w : Walk) (k : Kind) (c o : Option (List ℕ)) (l : Bool) → G f ≡ Some (node_from k o l) → Same (through (Some (node_from k c false)) w) f (n ∷ rest)
  by_away f n rest w kind.File c o l is = ap (λ (a : Option Node). through a (walk_from G (f ++ n ∷ []) rest)) is
  by_away f n rest w kind.Exec c o l is = ap (λ (a : Option Node). through a (walk_from G (f ++ n ∷ []) rest)) is
  by_away f n rest w kind.Link c o l is = ap (λ (a : Option Node). through a (walk_from G (f ++ n ∷ []) rest)) is
  by_away f n rest w kind.Dir c o l is = tt

  dir_true : (k : Kind) (c : Option (List ℕ)) (l : Bool) → k ≡ kind.Dir → l ≡ true → node_from k c l ≡ Dir true
  dir_true kind.File c l is up = cc
  dir_true kind.Exec c l is up = cc
  dir_true kind.Link c l is up = cc
  dir_true kind.Dir c l is up = ap Dir up

  pub shown_dir : (p : Path) (y : Row) (d : Directory) → row_at p x ≡ Some y → child_of y ≡ Some d → G p ≡ Some (Dir true)
  shown_dir p y d at holds =
      let h = shown_there p y at in
      h.1.0 ∙ ap (λ (n : Node). Some n)
      (h.1.1.is ∙ dir_true y.kind (content_with R (own_files F) (source_of y.number y.origin)) h.1.1.listed (dirs y d (place_at p x y at) holds)
      (h.1.1.loaded (subst (λ (o : Option Directory). IsSome o) (sym holds) refl)).1)

  by_child : (f : Path) (n : Name) (rest : Path) (w : Walk) (y : Row) (o : Option Directory) → child_of y ≡ o → row_at f x ≡ Some y → (Seen (f ++ n ∷ []) → Same w (f ++ n ∷ []) rest)
      → Same (through (Some (known_node y)) w) f (n ∷ rest)
  by_child f n rest w y None none at on =
      let h = shown_there f y at in
      subst (λ (a : Node). Same (through (Some a) w) f (n ∷ rest)) (sym (known_unloaded y none))
      (by_away f n rest w y.kind None (content_with R (own_files F) (source_of y.number y.origin)) h.1.1.listed (h.1.0 ∙ ap (λ (a : Node). Some a) h.1.1.is))
  by_child f n rest w y (Some d) holds at on =
      subst (λ (a : Node). Same (through (Some a) w) f (n ∷ rest)) (sym (known_loaded y d holds))
      (lifted f n rest w (shown_dir f y d at holds) (on (seen_below f n y d at holds)))

  by_entry : (f : Path) (n : Name) (rest : Path) (w : Walk) (o : Option Row) → row_at f x ≡ o → Seen f → (Seen (f ++ n ∷ []) → Same w (f ++ n ∷ []) rest)
      → Same (through (option_map known_node o) w) f (n ∷ rest)
  by_entry f n rest w None at seen on = ap (λ (a : Option Node). through a (walk_from G (f ++ n ∷ []) rest)) (seen at)
  by_entry f n rest w (Some y) at seen on = by_child f n rest w y (child_of y) refl at on

  same_walk : (f rest : Path) → Seen f → Same (walk_from (known x) f rest) f rest
  same_walk f [] seen = (refl, subst Seen (sym (append-nil f)) seen)
  same_walk f (n ∷ rest) seen = by_entry f n rest (walk_from (known x) (f ++ n ∷ []) rest) (row_at f x) refl seen (λ s. same_walk (f ++ n ∷ []) rest s)

  pub known_passes : (p : Path) → walk (known x) p ≡ Passes → (walk G p ≡ Passes) × Seen p
  known_passes p is = subst (λ (w : Walk). Same w [] p) is (same_walk [] p (λ none. cc))

  pub known_stops : (p : Path) (e : Errno) → walk (known x) p ≡ Stops e → walk G p ≡ Stops e
  known_stops p e is = subst (λ (w : Walk). Same w [] p) is (same_walk [] p (λ none. cc))

  pub meets_error : (p : Path) (e : Errno) → walk (known x) p ≡ Stops e → reach G p ≡ Fails e
  meets_error p e is = ap (λ (w : Walk). ends w (G p)) (known_stops p e is)

  pub meets_absent : (p : Path) → walk (known x) p ≡ Passes → row_at p x ≡ None → reach G p ≡ Absent
  meets_absent p is none = let h = known_passes p is in ap (λ (w : Walk). ends w (G p)) h.0 ∙ ap (ends Passes) (h.1 none)

  pub meets_here : (p : Path) (n : Node) → walk (known x) p ≡ Passes → G p ≡ Some n → reach G p ≡ Here n
  meets_here p n is at = let h = known_passes p is in ap (λ (w : Walk). ends w (G p)) h.0 ∙ ap (ends Passes) at
