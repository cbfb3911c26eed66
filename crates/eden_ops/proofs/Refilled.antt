-- A content that was asked for: what it is, and what that leaves.
use Rattle.std.proofs.Common.{◌≡◌, ◌≤◌, [], ◌∷◌, ◌∙◌, ℕ, List, Some, length, refl, sym, ap, subst}
use Rattle.eden_model.specs.declared.id.Id.{Id}
use Rattle.eden_model.specs.declared.kind.Origin.{Origin}
use Rattle.eden_model.specs.declared.kind.Origin.TheVariants as origin
use Rattle.eden_model.specs.declared.world.World.{Ghosts}
use Rattle.eden_model.specs.Limits.{most_file}
use Rattle.eden_model.specs.Repository.{source_of, content_with}
use Rattle.eden_model.specs.Trees.{Path}
use Rattle.eden_overlay.specs.declared.files.Files.{Ghosts as Files}
use Rattle.eden_overlay.specs.Held.{HoldsContent, own_files, HoldsPart}
use Rattle.eden_tree.specs.Directory.{Row}
use Rattle.eden_tree.specs.Paths.{row_at}
use Rattle.eden_inode.specs.Tables.{Table, shows}
use Rattle.eden_ops.specs.Contents.{HasContent, IsContent, IsPart}
use Rattle.eden_ops.specs.Keeping.{Keeps, same}
use Rattle.eden_ops.specs.Refilling.{AsksContent}
use Rattle.eden_ops.proofs.Steps.{reads}

some_eq : (x y : Row) → Some x ≡ Some y → x ≡ y
some_eq x y is = cc

module _ {W F : Type 0} (w : Ghosts W) (f : Files F W) (p : Path) (s t : Table F) where
  pub asked : (Keeps w f (p ∷ []) s t → w.honest → shows w f t ≡ shows w f s) → t ≡ record s { files = t.files } → (w.honest → f.stored t.files ≡ f.stored s.files)
      → f.failures s.files ≤ f.failures t.files → AsksContent w f p s t
  asked shown rest stored counted =
      let keeps : Keeps w f (p ∷ []) s t = reads w f s t rest stored counted in
      record { still = ap (λ (u : Table F). u.root) rest; changes = ap (λ (u : Table F). u.changes) rest; same = shown keeps; keeps = keeps }

  -- .. where no file was asked
  pub unasked : t ≡ s → AsksContent w f p s t
  unasked is = subst (λ (u : Table F). AsksContent w f p s u) (sym is) (record { still = refl; changes = refl; same = λ h. refl; keeps = same })

module _ {W F : Type 0} (w : Ghosts W) (f : Files F W) (p : Path) (s : Table F) (o : Origin) (has : HasContent p s.root o) (content : List ℕ) (short : length content ≤ most_file) where
  from_there : (y : Row) → row_at p s.root ≡ Some y → y.origin ≡ o
  from_there y at = ap (λ (z : Row). z.origin) (some_eq y has.row (sym at ∙ has.there)) ∙ has.origin

  pub blob_is : (id : Id) → o ≡ origin.Object id → (w.honest → w.repository.blob id ≡ Some content) → IsContent w f p s content
  blob_is id is had = record {
    shown = λ h y at. ap (λ (z : Origin). content_with w.repository (own_files (f.stored s.files)) (source_of y.number z)) (from_there y at ∙ is) ∙ had h;
    short = short;
  }

  pub own_is : o ≡ origin.Own → (w.honest → (y : Row) → row_at p s.root ≡ Some y → HoldsContent (f.stored s.files) y.number content) → IsContent w f p s content
  own_is is had = record {
    shown = λ h y at. ap (λ (z : Origin). content_with w.repository (own_files (f.stored s.files)) (source_of y.number z)) (from_there y at ∙ is) ∙ had h y at;
    short = short;
  }

module _ {W F : Type 0} (w : Ghosts W) (f : Files F W) (p : Path) (s : Table F) (o : Origin) (has : HasContent p s.root o) (offset count : ℕ) (bytes : List ℕ) where
  pub part_is : o ≡ origin.Own → (w.honest → (y : Row) → row_at p s.root ≡ Some y → HoldsPart (f.stored s.files) y.number offset count bytes) → IsPart w f p s offset count bytes
  part_is is had = λ h y at.
      let held = had h y at in
      let there = from_there w f p s o has held.content held.short y at ∙ is in
      (held.content, (ap (λ (z : Origin). content_with w.repository (own_files (f.stored s.files)) (source_of y.number z)) there ∙ held.held, (held.short, held.is)))
