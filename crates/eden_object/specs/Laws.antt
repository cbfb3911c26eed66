-- Laws of the two formats.
use Rattle.std.specs.Prelude.{◌≡◌, ℕ, List}
use Rattle.eden_model.specs.declared.tree_entry.TreeEntry.{TreeEntry}
use Rattle.eden_object.specs.declared.word.Word.{Word}
use Rattle.eden_object.specs.Frames.{frame}
use Rattle.eden_object.specs.Trees.{IsTreeBody}

-- framed bytes have one word and one body
abbrev pub OneFrame : Type 0
OneFrame = (v w : Word) (a b : List ℕ) → frame v a ≡ frame w b → (v ≡ w) × (a ≡ b)

-- a body has one list of entries
abbrev pub OneList : Type 0
OneList = (es fs : List TreeEntry) (body : List ℕ) → IsTreeBody es body → IsTreeBody fs body → es ≡ fs
