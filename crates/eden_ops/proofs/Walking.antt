-- The walk over what memory knows.
use Rattle.std.proofs.Common.{◌≡◌, ℕ, true, false, List, [], ◌∷◌, ◌++◌, Option, Some, None, if◌then◌else◌, sym, refl, ◌∙◌, ap}
use Rattle.std.proofs.lemmas.List.{append-nil, append_assoc}
use Rattle.std.specs.Option.{option_map, option_and_then}
use Rattle.eden_model.specs.declared.errno.Errno.TheVariants.{ENOENT, ENOTDIR}
use Rattle.eden_model.specs.declared.kind.Kind.{Kind}
use Rattle.eden_model.specs.declared.kind.Kind.TheVariants as kind
use Rattle.eden_model.specs.declared.node.Node.{Node}
use Rattle.eden_model.specs.declared.node.Node.TheVariants.{File, Link, Dir}
use Rattle.eden_model.specs.Shown.{node_from}
use Rattle.eden_model.specs.Trees.{Name, Path, Tree, Walk, Passes, Stops, Unlisted, through, walk_from, walk, Here, ends, reach}
use Rattle.eden_tree.specs.Directory.{Child, unloaded, loaded, Row, Directory, listed, directory_in, child_of}
use Rattle.eden_tree.specs.Rows.{find_row}
use Rattle.eden_tree.specs.Paths.{row_at}
use Rattle.eden_tree.proofs.CallerLemmas.{reads_on}
use Rattle.eden_coupling.proofs.CallerLemmas.{and_then_some, map_some}
use Rattle.eden_ops.specs.Known.{known_by, known_node, known, is_unlisted, place_from, place_on}

-- ---- one entry

loaded_by : (c : Child) (n : Node) (d : Directory) → directory_in c ≡ Some d → known_by c n ≡ Dir true
loaded_by unloaded n d is = cc
loaded_by (loaded s u r) n d is = refl

unloaded_by : (c : Child) (n : Node) → directory_in c ≡ None → known_by c n ≡ n
unloaded_by unloaded n is = refl
unloaded_by (loaded s u r) n is = cc

pub known_loaded : (y : Row) (d : Directory) → child_of y ≡ Some d → known_node y ≡ Dir true
known_loaded y d is = loaded_by y.child (node_from y.kind None false) d is

pub known_unloaded : (y : Row) → child_of y ≡ None → known_node y ≡ node_from y.kind None false
known_unloaded y is = unloaded_by y.child (node_from y.kind None false) is

pub known_at : (x : Row) (p : Path) (y : Row) (n : Node) → row_at p x ≡ Some y → known_node y ≡ n → known x p ≡ Some n
known_at x p y n at is = ap (option_map known_node) at ∙ ap (λ (m : Node). Some m) is

-- an entry below another stands in its directory
pub front_loaded : (x : Row) (front : Path) (n : Name) (q : Path) (y : Row) → row_at (front ++ n ∷ q) x ≡ Some y → (z : Row) × ((row_at front x ≡ Some z) × ((d : Directory) × (child_of z ≡ Some d)))
front_loaded x front n q y at =
    let one = and_then_some (row_at (n ∷ q)) (row_at front x) y (sym (reads_on front (n ∷ q) x) ∙ at) in
    let two = and_then_some (λ (d : Directory). option_and_then (row_at q) (find_row n d.rows)) (child_of one.0) y one.1.1 in
    (one.0, (one.1.0, (two.0, two.1.0)))

pub front_known : (x : Row) (front : Path) (n : Name) (q : Path) (y : Row) → row_at (front ++ n ∷ q) x ≡ Some y → known x front ≡ Some (Dir true)
front_known x front n q y at =
    let h = front_loaded x front n q y at in
    known_at x front h.0 (Dir true) h.1.0 (known_loaded h.0 h.1.1.0 h.1.1.1)

-- ---- along the names that are in memory

module _ (x : Row) where
  walk_along : (front q rest : Path) (y : Row) → row_at (front ++ q) x ≡ Some y → walk_from (known x) front (q ++ rest) ≡ walk_from (known x) (front ++ q) rest
  walk_along front [] rest y at = ap (λ (f : Path). walk_from (known x) f rest) (sym (append-nil front))
  walk_along front (n ∷ q) rest y at =
      ap (λ o. through o (walk_from (known x) (front ++ n ∷ []) (q ++ rest))) (front_known x front n q y at)
      ∙ walk_along (front ++ n ∷ []) q rest y (ap (λ (f : Path). row_at f x) (append_assoc front (n ∷ []) q) ∙ at)
      ∙ ap (λ (f : Path). walk_from (known x) f rest) (append_assoc front (n ∷ []) q)

  place_along : (front q rest : Path) (y : Row) → row_at (front ++ q) x ≡ Some y → place_from (known x) front (q ++ rest) ≡ place_from (known x) (front ++ q) rest
  place_along front [] rest y at = ap (λ (f : Path). place_from (known x) f rest) (sym (append-nil front))
  place_along front (n ∷ q) rest y at =
      ap (λ o. if is_unlisted o then front else place_from (known x) (front ++ n ∷ []) (q ++ rest)) (front_known x front n q y at)
      ∙ place_along (front ++ n ∷ []) q rest y (ap (λ (f : Path). row_at f x) (append_assoc front (n ∷ []) q) ∙ at)
      ∙ ap (λ (f : Path). place_from (known x) f rest) (append_assoc front (n ∷ []) q)

  -- the whole path is in memory
  pub walk_here : (p : Path) (y : Row) → row_at p x ≡ Some y → walk (known x) p ≡ Passes
  walk_here p y at = ap (walk (known x)) (sym (append-nil p)) ∙ walk_along [] p [] y at

  pub reach_here : (p : Path) (y : Row) → row_at p x ≡ Some y → reach (known x) p ≡ Here (known_node y)
  reach_here p y at = ap (λ (v : Walk). ends v (known x p)) (walk_here p y at) ∙ ap (λ (o : Option Row). ends Passes (option_map known_node o)) at

  module _ (q : Path) (n : Name) (rest : Path) (y : Row) (at : row_at q x ≡ Some y) where
    -- the last entry in memory on the path is a directory that isn't loaded
    node_dir : (k : Kind) (c : Option (List ℕ)) → k ≡ kind.Dir → node_from k c false ≡ Dir false
    node_dir kind.File c is = cc
    node_dir kind.Exec c is = cc
    node_dir kind.Link c is = cc
    node_dir kind.Dir c is = refl

    pub known_unlisted : y.kind ≡ kind.Dir → child_of y ≡ None → known x q ≡ Some (Dir false)
    known_unlisted dir none = known_at x q y (Dir false) at (known_unloaded y none ∙ node_dir y.kind None dir)

    pub walk_unlisted : y.kind ≡ kind.Dir → child_of y ≡ None → walk (known x) (q ++ n ∷ rest) ≡ Unlisted
    walk_unlisted dir none = walk_along [] q (n ∷ rest) y at ∙ ap (λ o. through o (walk_from (known x) (q ++ n ∷ []) rest)) (known_unlisted dir none)

    pub place_unlisted : y.kind ≡ kind.Dir → child_of y ≡ None → place_on (known x) (q ++ n ∷ rest) ≡ q
    place_unlisted dir none = place_along [] q (n ∷ rest) y at ∙ ap (λ o. if is_unlisted o then q else place_from (known x) (q ++ n ∷ []) rest) (known_unlisted dir none)

    -- .. no directory
    node_stops : (k : Kind) (c : Option (List ℕ)) (w : Walk) → (k ≡ kind.Dir → ⊥) → through (Some (node_from k c false)) w ≡ Stops ENOTDIR
    node_stops kind.File c w other = refl
    node_stops kind.Exec c w other = refl
    node_stops kind.Link c w other = refl
    node_stops kind.Dir c w other = absurd (other refl)

    pub walk_file : (y.kind ≡ kind.Dir → ⊥) → child_of y ≡ None → walk (known x) (q ++ n ∷ rest) ≡ Stops ENOTDIR
    walk_file other none =
        walk_along [] q (n ∷ rest) y at
        ∙ ap (λ o. through o (walk_from (known x) (q ++ n ∷ []) rest)) (known_at x q y (node_from y.kind None false) at (known_unloaded y none))
        ∙ node_stops y.kind None (walk_from (known x) (q ++ n ∷ []) rest) other

    -- .. or a loaded one
    pub walk_loaded : (d : Directory) → child_of y ≡ Some d → walk (known x) (q ++ n ∷ rest) ≡ walk_from (known x) (q ++ n ∷ []) rest
    walk_loaded d is = walk_along [] q (n ∷ rest) y at ∙ ap (λ o. through o (walk_from (known x) (q ++ n ∷ []) rest)) (known_at x q y (Dir true) at (known_loaded y d is))

    -- .. without the next name
    pub walk_absent : (d : Directory) (m : Name) (others : Path) → child_of y ≡ Some d → rest ≡ m ∷ others → row_at (q ++ n ∷ []) x ≡ None → walk (known x) (q ++ n ∷ rest) ≡ Stops ENOENT
    walk_absent d m others is more none =
        walk_loaded d is
        ∙ ap (walk_from (known x) (q ++ n ∷ [])) more
        ∙ ap (λ o. through (option_map known_node o) (walk_from (known x) ((q ++ n ∷ []) ++ m ∷ []) others)) none

-- ---- where the walk passes, the path itself is the last place

place_through : (front : Path) (o : Option Node) (beyond : Walk) (whole far : Path) → through o beyond ≡ Passes → (beyond ≡ Passes → far ≡ whole) → (if is_unlisted o then front else far) ≡ whole
place_through front None beyond whole far is on = cc
place_through front (Some (File x c)) beyond whole far is on = cc
place_through front (Some (Link c)) beyond whole far is on = cc
place_through front (Some (Dir true)) beyond whole far is on = on is
place_through front (Some (Dir false)) beyond whole far is on = cc

place_from_passes : (F : Tree) (front rest : Path) → walk_from F front rest ≡ Passes → place_from F front rest ≡ front ++ rest
place_from_passes F front [] is = sym (append-nil front)
place_from_passes F front (n ∷ rest) is =
    place_through front (F front) (walk_from F (front ++ n ∷ []) rest) (front ++ n ∷ rest) (place_from F (front ++ n ∷ []) rest) is
    (λ on. place_from_passes F (front ++ n ∷ []) rest on ∙ append_assoc front (n ∷ []) rest)

pub place_passes : (F : Tree) (p : Path) → walk F p ≡ Passes → place_on F p ≡ p
place_passes F p is = place_from_passes F [] p is

-- ---- a loaded directory

dir_by_kind : (k : Kind) (c : Option (List ℕ)) → node_from k c false ≡ Dir true → ⊥
dir_by_kind kind.File c is = cc
dir_by_kind kind.Exec c is = cc
dir_by_kind kind.Link c is = cc
dir_by_kind kind.Dir c is = cc

dir_by_child : (y : Row) (c : Child) → known_by c (node_from y.kind None false) ≡ Dir true → (d : Directory) × (directory_in c ≡ Some d)
dir_by_child y unloaded is = absurd (dir_by_kind y.kind None is)
dir_by_child y (loaded s u r) is = (record { stamp = s; unsaved = u; rows = listed r }, refl)

-- an entry that is known as a listed directory is loaded
pub known_dir : (x : Row) (p : Path) → known x p ≡ Some (Dir true) → (y : Row) × ((row_at p x ≡ Some y) × ((d : Directory) × (child_of y ≡ Some d)))
known_dir x p is =
    let one = map_some known_node (row_at p x) (Dir true) (sym is) in
    (one.0, (one.1.0, dir_by_child one.0 one.0.child one.1.1))
