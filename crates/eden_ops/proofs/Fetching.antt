-- An entry that was met, the part of its content, and its directory.
use Rattle.std.proofs.Common.{◌≡◌, ◌≢◌, ◌⊎◌, Bool, true, false, Option, Some, None, sym, refl, ◌∙◌, subst, inl, inr}
use Rattle.std.proofs.lemmas.Bool.{false≢true}
use Rattle.std.specs.Option.{is_some, IsSome}
use Rattle.eden_model.specs.declared.kind.Kind.TheVariants as kind
use Rattle.eden_model.specs.Repository.{Repository}
use Rattle.eden_model.specs.Shown.{node_from}
use Rattle.eden_model.specs.declared.node.Node.TheVariants.{Dir}
use Rattle.eden_model.specs.Trees.{Path, Reach}
use Rattle.eden_overlay.specs.Files.{Stored}
use Rattle.eden_tree.specs.Directory.{Row, child_of}
use Rattle.eden_tree.specs.Paths.{row_at}
use Rattle.eden_coupling.specs.Loading.{IsAt}
use Rattle.eden_inode.specs.declared.seen.Seen.{Seen}
use Rattle.eden_ops.specs.Attempts.{IsSeen, IsShown}
use Rattle.eden_ops.specs.Contents.{HasContent}
use Rattle.eden_ops.specs.Known.{known_node, IsKnownLoadedAt}
use Rattle.eden_ops.proofs.Meeting.{some_of}
use Rattle.eden_ops.proofs.Walking.{known_at, known_loaded, known_unloaded}

none_if : {X : Type 0} (o : Option X) (b : Bool) → b ≡ is_some o → b ≡ false → o ≡ None
none_if None b is off = refl
none_if (Some x) b is off = absurd (false≢true (sym off ∙ is))

module _ (p : Path) (x : Row) (seen : Seen) (s : IsSeen p x seen) where
  -- it isn't loaded
  pub away : seen.loaded ≡ false → child_of s.row ≡ None
  away off = none_if (child_of s.row) seen.loaded s.loaded off

  pub has_content : (y : Row) → x ≡ y → seen.kind ≢ kind.Dir → HasContent p x seen.origin
  has_content y is other = record { row = s.row; there = s.there; kind = λ dir. other (s.kind ∙ dir); origin = sym s.origin }

  -- as a directory it is shown so
  pub shown_kind : (R : Repository) (F : Stored) (met : Reach) → IsShown R F (row_at p x) met → (seen.loaded ≡ true) ⊎ (seen.kind ≡ kind.Dir) → s.row.kind ≡ kind.Dir
  shown_kind R F met h (inl on) =
      let same : h.row ≡ s.row = some_eq h.row s.row (sym h.there ∙ s.there) in
      subst (λ (z : Row). z.kind ≡ kind.Dir) same (h.loaded (subst (λ (z : Row). IsSome (child_of z)) (sym same) (sym s.loaded ∙ on))).0
    where
      some_eq : (a b : Row) → Some a ≡ Some b → a ≡ b
      some_eq a b is = cc
  shown_kind R F met h (inr dir) = sym s.kind ∙ dir

  -- what is known of it
  pub known_away : seen.loaded ≡ false → known_node s.row ≡ node_from s.row.kind None false
  known_away off = known_unloaded s.row (away off)

  -- its directory, which is loaded or not
  pub is_loaded : seen.loaded ≡ true → IsKnownLoadedAt p x
  is_loaded on = let d = some_of (child_of s.row) seen.loaded s.loaded on in known_at x p s.row (Dir true) s.there (known_loaded s.row d.0 d.1)

  pub dir_kind : seen.loaded ≡ false → (seen.loaded ≡ true) ⊎ (seen.kind ≡ kind.Dir) → s.row.kind ≡ kind.Dir
  dir_kind off (inl on) = absurd (false≢true (sym off ∙ on))
  dir_kind off (inr dir) = sym s.kind ∙ dir

  pub is_away : seen.loaded ≡ false → (seen.loaded ≡ true) ⊎ (seen.kind ≡ kind.Dir) → IsAt p x seen.origin
  is_away off dir = record { row = s.row; there = s.there; kind = dir_kind off dir; unloaded = away off; origin = sym s.origin }
