-- How trees are written.
use Rattle.std.specs.Prelude.{◌≡◌, ℕ, ◌≤◌, List, ◌∷◌, ◌++◌, length, codes}
use Rattle.std.specs.List.{flat_map}
use Rattle.std.specs.List.Sorted.{IsPermutation}
use Rattle.eden_model.specs.Bytes.{space_byte, nul_byte}
use Rattle.eden_model.specs.declared.kind.Mode.{Mode}
use Rattle.eden_model.specs.declared.kind.Mode.TheVariants.{File, Exec, Link, Dir, Gitlink}
use Rattle.eden_model.specs.declared.tree_entry.TreeEntry.{TreeEntry}
use Rattle.eden_object.specs.declared.word.Word.TheVariants as word
use Rattle.eden_object.specs.Frames.{frame, most_body}
use Rattle.eden_object.specs.Order.{IsOrdered}
use Rattle.eden_object.specs.Trees.{IsTreeBody}

abbrev pub mode_text : Mode → List ℕ
mode_text Dir = codes "40000"
mode_text File = codes "100644"
mode_text Exec = codes "100755"
mode_text Link = codes "120000"
mode_text Gitlink = codes "160000"

abbrev pub entry_text : TreeEntry → List ℕ
entry_text e = mode_text e.mode ++ space_byte ∷ e.name ++ nul_byte ∷ e.id.bytes

-- the body that is written for these entries, in this order
abbrev pub tree_text : List TreeEntry → List ℕ
tree_text es = flat_map entry_text es

-- the framed tree of these entries, which stand in it in Git's order
pub record IsEncoded (es : List TreeEntry) (framed : List ℕ) : Type 0 where
  pub written : List TreeEntry
  pub same : IsPermutation es written
  pub ordered : IsOrdered written
  pub is : framed ≡ frame word.Tree (tree_text written)
  pub grammar : IsTreeBody written (tree_text written)
  pub short : length (tree_text written) ≤ most_body
