-- What is stored of a folder.
use Rattle.std.specs.Prelude.{◌≡◌, ◌≤◌, ◌⊎◌, ℕ, List, length}
use Rattle.std.specs.List.{All}
use Rattle.sha1.specs.Sha1.{sha1}
use Rattle.eden_model.specs.declared.id.Id.{Id}
use Rattle.eden_model.specs.declared.kind.Mode.TheVariants.{File, Dir}
use Rattle.eden_model.specs.declared.tree_entry.TreeEntry.{TreeEntry}
use Rattle.eden_object.specs.Encoding.{IsEncoded, tree_text}
use Rattle.eden_object.specs.Frames.{most_body}
use Rattle.eden_object.specs.Trees.{NamesDiffer}

-- the id of the tree of these entries
pub record IsTreeOf (entries : List TreeEntry) (id : Id) : Type 0 where
  pub framed : List ℕ
  pub encoded : IsEncoded entries framed
  pub digest : id.bytes ≡ sha1 framed

-- a tree can be written of them
abbrev pub IsEncodable : List TreeEntry → Type 0
IsEncodable entries = NamesDiffer entries × (length (tree_text entries) ≤ most_body)

-- files that can't be run, and folders
abbrev pub HasPlainModes : List TreeEntry → Type 0
HasPlainModes entries = All (λ e. (e.mode ≡ File) ⊎ (e.mode ≡ Dir)) entries
