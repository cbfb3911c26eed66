-- Objects that are handed in after what they name.
use Rattle.std.specs.Prelude.{◌≡◌, ◌≢◌, ◌⊎◌, ℕ, List, [], ◌∷◌, ◌++◌, Contains}
use Rattle.eden_model.specs.declared.id.Id.{Id}
use Rattle.eden_model.specs.declared.kind.Mode.TheVariants as mode
use Rattle.eden_model.specs.declared.kind.Origin.TheVariants as origin
use Rattle.eden_model.specs.declared.tree_entry.TreeEntry.{TreeEntry}
use Rattle.eden_object.specs.declared.word.Word.TheVariants as word
use Rattle.eden_object.specs.Frames.{frame}
use Rattle.eden_object.specs.Trees.{IsTreeBody}
use Rattle.eden_overlay_format.specs.declared.stored_entry.StoredEntry.{StoredEntry}
use Rattle.eden_overlay.specs.Files.{Stored}
use Rattle.eden_overlay.specs.Soundness.{Names}
use Rattle.eden_snapshot.specs.Sinks.{Handed}
use Rattle.eden_snapshot.specs.Written.{IsIdOf}

-- the object of the id is one of these
pub record IsAmong (handed : Handed) (id : Id) : Type 0 where
  pub framed : List ℕ
  pub there : Contains handed framed
  pub digest : IsIdOf id framed

-- a stored directory has it as an object, which the commit has
pub record IsKept (F : Stored) (id : Id) : Type 0 where
  pub directory : ℕ
  pub entry : StoredEntry
  pub named : Names F directory entry
  pub object : entry.origin ≡ origin.Object id

-- what a tree names is one of those before it, or was an object before, or is a submodule's commit; a blob names nothing
abbrev pub Follows : Stored → Handed → List ℕ → Type 0
Follows F before framed = (es : List TreeEntry) (body : List ℕ) → framed ≡ frame word.Tree body → IsTreeBody es body
    → (t : TreeEntry) → Contains es t → t.mode ≢ mode.Gitlink → IsAmong before t.id ⊎ IsKept F t.id

-- .. each of these behind those
abbrev pub AreInOrder : Stored → Handed → Handed → Type 0
AreInOrder F before [] = Unit {0}
AreInOrder F before (framed ∷ handed) = Follows F before framed × AreInOrder F (before ++ framed ∷ []) handed

-- the sink's objects grew by some in such an order
pub record GrowsInOrder (F : Stored) (old new : Handed) : Type 0 where
  pub handed : Handed
  pub grew : new ≡ old ++ handed
  pub ordered : AreInOrder F [] handed
