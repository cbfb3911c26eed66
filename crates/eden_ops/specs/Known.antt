-- What memory knows with nothing fetched and no file read, and where the checks of a request end there.
use Rattle.std.specs.Prelude.{◌≡◌, Bool, true, false, List, [], ◌∷◌, ◌++◌, Option, Some, None, if◌then◌else◌}
use Rattle.std.specs.Option.{option_map}
use Rattle.eden_model.specs.declared.node.Node.{Node}
use Rattle.eden_model.specs.declared.node.Node.TheVariants.{File, Link, Dir}
use Rattle.eden_model.specs.declared.request.Request.{Request}
use Rattle.eden_model.specs.Requests.{paths_of}
use Rattle.eden_model.specs.Shown.{node_from}
use Rattle.eden_model.specs.Trees.{Path, Tree, Walk, Passes, Stops, Unlisted, walk}
use Rattle.eden_tree.specs.Directory.{Child, unloaded, loaded, Row}
use Rattle.eden_tree.specs.Paths.{row_at}

-- a loaded directory is a listed one
abbrev pub known_by : Child → Node → Node
known_by unloaded n = n
known_by (loaded stamp unsaved rows) n = Dir true

-- .. and no content is in memory, an own file's no more than an object's
abbrev pub known_node : Row → Node
known_node x = known_by x.child (node_from x.kind None false)

-- the tree that the root's entry x knows
abbrev pub known : Row → Tree
known x = λ p. option_map known_node (row_at p x)

-- .. and the directory at a path is loaded
abbrev pub IsKnownLoadedAt : Path → Row → Type 0
IsKnownLoadedAt p x = known x p ≡ Some (Dir true)

-- ---- where the checks end, on a tree

abbrev pub is_unlisted : Option Node → Bool
is_unlisted None = false
is_unlisted (Some (File x c)) = false
is_unlisted (Some (Link c)) = false
is_unlisted (Some (Dir listed)) = if listed then false else true

abbrev pub place_from : Tree → Path → Path → Path
place_from F front [] = front
place_from F front (n ∷ rest) = if is_unlisted (F front) then front else place_from F (front ++ n ∷ []) rest

-- the first unlisted directory above the path, or else the path
abbrev pub place_on : Tree → Path → Path
place_on F p = place_from F [] p

abbrev pub is_silent : Walk → Bool
is_silent Passes = false
is_silent (Stops e) = false
is_silent Unlisted = true

-- the first of the paths that has an unlisted directory above it, or else the last
abbrev pub last_path : Tree → List Path → Path
last_path F [] = []
last_path F (p ∷ []) = p
last_path F (p ∷ q ∷ ps) = if is_silent (walk F p) then p else last_path F (q ∷ ps)

-- the last place that a request looks at, if the table gives it no reply
abbrev pub place : Tree → Request → Path
place F q = place_on F (last_path F (paths_of q))
