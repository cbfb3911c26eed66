-- What stands in a commit's tree, by its tree objects (Git's object format: a submodule is an entry with its commit's id).
use Rattle.std.specs.Prelude.{List, [], ◌∷◌, Option, Some, None}
use Rattle.std.specs.Option.{option_map, option_and_then}
use Rattle.eden_model.specs.declared.id.Id.{Id}
use Rattle.eden_model.specs.declared.kind.Mode.{Mode}
use Rattle.eden_model.specs.declared.kind.Mode.TheVariants as mode
use Rattle.eden_model.specs.declared.tree_entry.TreeEntry.{TreeEntry}
use Rattle.eden_model.specs.Repository.{Repository, entry_named}
use Rattle.eden_model.specs.Trees.{Name, Path}

-- the mode and the id of an entry
abbrev pub Place : Type 0
Place = Mode × Id

abbrev pub mode_and_id : TreeEntry → Place
mode_and_id e = (e.mode, e.id)

abbrev pub place_named : Name → List TreeEntry → Option Place
place_named n es = option_map mode_and_id (entry_named n es)

-- a tree alone has entries
abbrev pub if_tree : {X : Type 0} → Mode → Option X → Option X
if_tree mode.File o = None
if_tree mode.Exec o = None
if_tree mode.Link o = None
if_tree mode.Dir o = o
if_tree mode.Gitlink o = None

-- the entry of that name in the tree there, and at a path from there
abbrev pub place_in : Repository → Place → Name → Option Place
place_in R at n = if_tree at.0 (option_and_then (place_named n) (R.tree at.1))

abbrev pub place_from : Repository → Place → Path → Option Place
place_from R at [] = Some at
place_from R at (n ∷ p) = option_and_then (λ below. place_from R below p) (place_in R at n)

-- the commit that stands there, where a submodule does
abbrev pub commit_of : Place → Option Id
commit_of (mode.File, id) = None
commit_of (mode.Exec, id) = None
commit_of (mode.Link, id) = None
commit_of (mode.Dir, id) = None
commit_of (mode.Gitlink, id) = Some id

-- the commit of the submodule at that path of the commit whose tree is t, where there is one
abbrev pub submodule_at : Repository → Id → Path → Option Id
submodule_at R t p = option_and_then commit_of (place_from R (mode.Dir, t) p)
