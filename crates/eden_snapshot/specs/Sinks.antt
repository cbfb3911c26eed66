-- What a sink was given, and the repositories that have its objects.
use Rattle.std.specs.Prelude.{ℕ, List, [], ◌∷◌, ◌++◌}
use Rattle.std.specs.List.{AllByRecursion}
use Rattle.eden_model.specs.declared.id.Id.{Id}
use Rattle.eden_model.specs.Repository.{Repository}
use Rattle.eden_model.specs.Trees.{Path}
use Rattle.eden_object.specs.Objects.{IsHonest}
use Rattle.eden_snapshot.specs.declared.left_out.LeftOut.{LeftOut}

-- framed objects, in the order in which they were handed in
abbrev pub Handed : Type 0
Handed = List (List ℕ)

-- a directory of which the tree has no entry, and why
abbrev pub Omission : Type 0
Omission = Path × LeftOut

-- .. in the order in which they were told
abbrev pub Told : Type 0
Told = List Omission

-- the repository has the object under its id, whichever it is (Git's object format)
abbrev pub HasObject : Repository → List ℕ → Type 0
HasObject R framed = (id : Id) → IsHonest R id framed

-- .. and each of these
abbrev pub HasAll : Repository → Handed → Type 0
HasAll R handed = AllByRecursion (HasObject R) handed

-- what a sink has: the objects that it kept, and the omissions that it was told
pub record Filled : Type 0 where
  pub kept : Handed
  pub told : Told

-- .. with these more
abbrev pub grown : Filled → Handed → Told → Filled
grown f handed told = record { kept = f.kept ++ handed; told = f.told ++ told }

-- .. with an object more, and with an omission more
abbrev pub with_object : Filled → List ℕ → Filled
with_object f framed = record { kept = f.kept ++ framed ∷ []; told = f.told }

abbrev pub with_omission : Filled → Path → LeftOut → Filled
with_omission f path why = record { kept = f.kept; told = f.told ++ (path, why) ∷ [] }
