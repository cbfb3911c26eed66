-- What is no own file's shows the same, whatever own files there are.
use Rattle.std.proofs.Common.{◌≡◌, List, [], ◌∷◌, ◌++◌, Option, Some, None, refl}
use Rattle.std.specs.Option.{option_map, option_and_then}
use Rattle.eden_model.specs.declared.id.Id.{Id}
use Rattle.eden_model.specs.declared.kind.Mode.{Mode}
use Rattle.eden_model.specs.declared.kind.Mode.TheVariants as mode
use Rattle.eden_model.specs.declared.tree_entry.TreeEntry.{TreeEntry}
use Rattle.eden_model.specs.Trees.{Name, Path}
use Rattle.eden_model.specs.Shown.{Item, Items, Ground, entry_in, shown, shown_at}
use Rattle.eden_model.specs.Repository.{Repository, Source, OwnFiles, item_by, entry_named, items_of, ground_with, ground_of, root_of, Whole}

module _ (R : Repository) (own : OwnFiles) where
  below : (p : Path) (o : Option TreeEntry) → ((m : Mode) (id : Id) → shown (ground_with R own) (item_by m id) p ≡ shown (ground_of R) (item_by m id) p)
      → shown_at (ground_with R own) (option_map (λ (e : TreeEntry). item_by e.mode e.id) o) p
      ≡ shown_at (ground_of R) (option_map (λ (e : TreeEntry). item_by e.mode e.id) o) p
  below p None each = refl
  below p (Some e) each = each e.mode e.id

  inside : (n : Name) (p : Path) (o : Option (List TreeEntry)) → ((m : Mode) (id : Id) → shown (ground_with R own) (item_by m id) p ≡ shown (ground_of R) (item_by m id) p)
      → shown_at (ground_with R own) (option_and_then (λ (es : Items Source). es n) (option_map items_of o)) p
      ≡ shown_at (ground_of R) (option_and_then (λ (es : Items Source). es n) (option_map items_of o)) p
  inside n p None each = refl
  inside n p (Some es) each = below p (entry_named n es) each

  pub alike : (p : Path) (m : Mode) (id : Id) → shown (ground_with R own) (item_by m id) p ≡ shown (ground_of R) (item_by m id) p
  alike [] mode.File id = refl
  alike [] mode.Exec id = refl
  alike [] mode.Link id = refl
  alike [] mode.Dir id = refl
  alike [] mode.Gitlink id = refl
  alike (n ∷ p) mode.File id = refl
  alike (n ∷ p) mode.Exec id = refl
  alike (n ∷ p) mode.Link id = refl
  alike (n ∷ p) mode.Dir id = inside n p (R.tree id) (λ m i. alike p m i)
  alike (n ∷ p) mode.Gitlink id = refl

  -- a commit's tree
  pub whole_alike : (id : Id) (p : Path) → shown (ground_with R own) (root_of id) p ≡ Whole R id p
  whole_alike id p = alike p mode.Dir id

-- what is below nothing is nothing
module _ {S : Type 0} (G : Ground S) where
  none_at : (o : Option (Item S)) (p q : Path) → ((j : Item S) → shown G j p ≡ None → shown G j (p ++ q) ≡ None) → shown_at G o p ≡ None → shown_at G o (p ++ q) ≡ None
  none_at None p q each none = refl
  none_at (Some j) p q each none = each j none

  pub none_below : (i : Item S) (p q : Path) → shown G i p ≡ None → shown G i (p ++ q) ≡ None
  none_below i [] q none = absurd (cc)
  none_below i (n ∷ p) q none = none_at (entry_in G i n) p q (λ j h. none_below j p q h) none
