-- The order in which Git writes a tree's entries: by the bytes of their names, a directory's name as if it ended with `/`.
use Rattle.std.specs.Prelude.{◌≡◌, ℕ, ◌<◌, List, [], ◌∷◌, ◌++◌, slice_index}
use Rattle.eden_model.specs.Bytes.{slash_byte}
use Rattle.eden_model.specs.declared.kind.Mode.{Mode}
use Rattle.eden_model.specs.declared.kind.Mode.TheVariants.{File, Exec, Link, Dir, Gitlink}
use Rattle.eden_model.specs.declared.tree_entry.TreeEntry.{TreeEntry}

abbrev pub key_end : Mode → List ℕ
key_end File = []
key_end Exec = []
key_end Link = []
key_end Dir = slash_byte ∷ []
key_end Gitlink = []

-- what an entry is ordered by
abbrev pub key_of : TreeEntry → List ℕ
key_of e = e.name ++ key_end e.mode

-- the first byte that differs is smaller in the first; past the end of one stands a 0, which no name has
pub record IsBelow (first second : List ℕ) : Type 0 where
  pub shared : ℕ
  pub same : (i : ℕ) → i < shared → slice_index first i ≡ slice_index second i
  pub smaller : slice_index first shared < slice_index second shared

-- the next entry is behind this
abbrev pub IsBehind : TreeEntry → List TreeEntry → Type 0
IsBehind e [] = Unit {0}
IsBehind e (f ∷ fs) = IsBelow (key_of e) (key_of f)

-- in Git's order, no two alike
abbrev pub IsOrdered : List TreeEntry → Type 0
IsOrdered [] = Unit {0}
IsOrdered (e ∷ es) = IsBehind e es × IsOrdered es
