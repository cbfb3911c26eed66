-- Entries without their stamps and marks: what a walk sees.
use Rattle.std.proofs.Common.{◌≡◌, ℕ, Bool, true, false, [], ◌∷◌, ◌++◌, Option, Some, None, if◌then◌else◌, sym, refl, ◌∙◌, ap}
use Rattle.std.specs.Option.{option_map, is_some}
use Rattle.eden_model.specs.declared.kind.Kind.{Kind}
use Rattle.eden_model.specs.declared.kind.Origin.{Origin}
use Rattle.eden_model.specs.declared.node.Node.{Node}
use Rattle.eden_model.specs.declared.node.Node.TheVariants.{Dir}
use Rattle.eden_model.specs.Paths.{behind_of}
use Rattle.eden_model.specs.Shown.{node_from}
use Rattle.eden_model.specs.Trees.{Path, Tree, grafted, through, walk_from, walk}
use Rattle.eden_tree.specs.Directory.{Child, unloaded, loaded, Row, child_of, directory_in}
use Rattle.eden_tree.specs.Paths.{row_at, stamped_along, Standing, standing, standing_at, stamped}
use Rattle.eden_tree.proofs.CallerLemmas.{stamps_along}
use Rattle.eden_coupling.proofs.CallerLemmas.{map_some}
use Rattle.eden_ops.specs.Known.{known_by, known_node, known}

pub record Bare : Type 0 where
  pub number : ℕ
  pub kind : Kind
  pub origin : Origin
  pub loaded : Bool

abbrev pub without_stamp : Standing → Bare
without_stamp y = record { number = y.number; kind = y.kind; origin = y.origin; loaded = is_some y.loaded }

abbrev pub bare : Row → Bare
bare x = record { number = x.number; kind = x.kind; origin = x.origin; loaded = is_some (child_of x) }

pub some_pair : {X Y : Type 0} (g : X → Y) (o : Option X) → is_some (option_map g o) ≡ is_some o
some_pair g None = refl
some_pair g (Some x) = refl

bare_standing : (x : Row) → without_stamp (standing x) ≡ bare x
bare_standing x = ap (λ (l : Bool). record { number = x.number; kind = x.kind; origin = x.origin; loaded = l }) (some_pair (λ d. (d.stamp, d.unsaved)) (child_of x))

pub bare_at : (o : Option Row) → option_map without_stamp (option_map standing o) ≡ option_map bare o
bare_at None = refl
bare_at (Some x) = ap (λ (b : Bare). Some b) (bare_standing x)

bare_stamped : (s : ℕ) (o : Option Standing) → option_map without_stamp (option_map (stamped s) o) ≡ option_map without_stamp o
bare_stamped s None = refl
bare_stamped s (Some y) = ap (λ (l : Bool). Some (record { number = y.number; kind = y.kind; origin = y.origin; loaded = l })) (some_pair (λ l. (s, l.1)) y.loaded)

bare_grafted : (s : ℕ) (r : Option Path) (o : Option Standing) → option_map without_stamp (grafted r (λ q. option_map (stamped s) o) o) ≡ option_map without_stamp o
bare_grafted s None o = refl
bare_grafted s (Some q) o = bare_stamped s o

-- stamps leave the same entries
pub bare_along : (p q : Path) (s : ℕ) (x : Row) → option_map bare (row_at q (stamped_along p s x)) ≡ option_map bare (row_at q x)
bare_along p q s x =
    sym (bare_at (row_at q (stamped_along p s x)))
    ∙ ap (option_map without_stamp) (stamps_along p s x q)
    ∙ bare_grafted s (behind_of q p) (standing_at q x)
    ∙ bare_at (row_at q x)

-- ---- what is known of an entry

abbrev pub known_bare : Bare → Node
known_bare b = if b.loaded then Dir true else node_from b.kind None false

by_child : (c : Child) (n : Node) → known_by c n ≡ (if is_some (directory_in c) then Dir true else n)
by_child unloaded n = refl
by_child (loaded s u r) n = refl

pub known_as : (o : Option Row) → option_map known_node o ≡ option_map known_bare (option_map bare o)
known_as None = refl
known_as (Some x) = ap (λ (n : Node). Some n) (by_child x.child (node_from x.kind None false))

pub known_along : (p : Path) (s : ℕ) (x : Row) (q : Path) → known (stamped_along p s x) q ≡ known x q
known_along p s x q = known_as (row_at q (stamped_along p s x)) ∙ ap (option_map known_bare) (bare_along p q s x) ∙ sym (known_as (row_at q x))

pub walk_alike : (G H : Tree) → ((q : Path) → G q ≡ H q) → (front rest : Path) → walk_from G front rest ≡ walk_from H front rest
walk_alike G H same front [] = refl
walk_alike G H same front (n ∷ rest) =
    ap (λ o. through o (walk_from G (front ++ n ∷ []) rest)) (same front)
    ∙ ap (through (H front)) (walk_alike G H same (front ++ n ∷ []) rest)

-- so the walk goes as before
pub walk_stamped : (p : Path) (s : ℕ) (x : Row) (q : Path) → walk (known (stamped_along p s x)) q ≡ walk (known x) q
walk_stamped p s x q = walk_alike (known (stamped_along p s x)) (known x) (known_along p s x) [] q

-- the entry that was there is there
pub still_there : (p q : Path) (s : ℕ) (x y : Row) → row_at q x ≡ Some y → (z : Row) × ((row_at q (stamped_along p s x) ≡ Some z) × (bare z ≡ bare y))
still_there p q s x y at = map_some bare (row_at q (stamped_along p s x)) (bare y) (sym (bare_along p q s x ∙ ap (option_map bare) at))

pub still_absent : {X : Type 0} (o : Option X) (g : X → Bare) → option_map g o ≡ None → o ≡ None
still_absent None g is = refl
still_absent (Some x) g is = cc

pub still_none : (p q : Path) (s : ℕ) (x : Row) → row_at q x ≡ None → row_at q (stamped_along p s x) ≡ None
still_none p q s x none = still_absent (row_at q (stamped_along p s x)) bare (bare_along p q s x ∙ ap (option_map bare) none)
