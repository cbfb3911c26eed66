-- The tree that closed files show.
use Rattle.std.specs.Prelude.{ℕ, List, Option, Some, None}
use Rattle.eden_model.specs.declared.id.Id.{Id}
use Rattle.eden_model.specs.declared.kind.Kind.TheVariants as kind
use Rattle.eden_model.specs.Trees.{Tree}
use Rattle.eden_model.specs.Shown.{Item, shown}
use Rattle.eden_model.specs.Repository.{Repository, Source, Own, root_of, ground_with}
use Rattle.eden_overlay.specs.Files.{Stored}
use Rattle.eden_overlay.specs.Held.{own_files, root_file}

-- the root: its file, or where that isn't stored the commit's tree
abbrev pub root_item : Id → Option (List ℕ) → Item Source
root_item root None = root_of root
root_item root (Some bytes) = record { kind = kind.Dir; source = Own 1 }

-- what the files show above the commit's tree, in that repository
abbrev pub FilesShow : Repository → Id → Stored → Tree
FilesShow R root F = shown (ground_with R (own_files F)) (root_item root (root_file F))
