-- The places that a message names, and the other directory of a rename.
use Rattle.std.specs.Prelude.{◌≡◌, ◌⊎◌, ℕ, ◌==◌, ◌&&◌, ◌||◌, Bool, false, [], Option, Some, None, IsSome, if◌then◌else◌}
use Rattle.std.specs.Option.{is_some}
use Rattle.eden_model.specs.Names.{name_refusal}
use Rattle.eden_model.specs.Trees.{Name}
use Rattle.eden_fuse_format.specs.Asked.{Asked}
use Rattle.eden_fuse_format.specs.Asked.{Asked as asked}
use Rattle.eden_fuse_nodes.specs.declared.place.Place.{Place}
use Rattle.eden_fuse_nodes.specs.Tables.{IsBare, StandsAlone}
use Rattle.eden_fuse_nodes.specs.Tables.{Table as Nodes}
use Rattle.eden_fuse_meaning.specs.Hiding.{is_hidden}
use Rattle.eden_fuse_shown.specs.Opens.{opens_of}
use Rattle.eden_fuse_shown.specs.Opens.{Table as Opens}

-- a name in a directory's node, if it is one
abbrev pub place_at : ℕ → Name → Option Place
place_at node name = if is_some (name_refusal name) then None else Some (record { parent = node; name = name })

-- .. of a name, if there is one
abbrev pub place_of_name : ℕ → Option Name → Option Place
place_of_name node None = None
place_of_name node (Some name) = place_at node name

-- the place that a message names in the directory of its node
abbrev pub named_place : ℕ → Asked → Option Place
named_place node (asked.Lookup n) = place_at node n
named_place node (asked.Symlink n t) = place_at node n
named_place node (asked.MkNod s n) = place_at node n
named_place node (asked.MkDir s n) = place_at node n
named_place node (asked.Unlink n) = place_at node n
named_place node (asked.RmDir n) = place_at node n
named_place node (asked.Rename s n m) = place_at node n
named_place node (asked.Rename2 s n m) = place_at node n
named_place node (asked.Create s n) = place_at node n
named_place node a = None

-- the place that a rename moves to
abbrev pub goal_of : Asked → Option Place
goal_of (asked.Rename s n m) = place_at s.newdir m
goal_of (asked.Rename2 s n m) = place_at s.newdir m
goal_of a = None

-- the node of the directory that a rename moves to
abbrev pub other_node : Asked → Option ℕ
other_node (asked.Rename s n m) = Some s.newdir
other_node (asked.Rename2 s n m) = Some s.newdir
other_node a = None

-- ---- names of the root that nobody sees

-- a node's place, at which nobody sees it
abbrev pub is_veiled : Option Place → Bool
is_veiled None = false
is_veiled (Some p) = (p.parent == 1) && is_hidden p.name

abbrev pub veiled_name : Option Place → Option Name
veiled_name None = None
veiled_name (Some p) = if (p.parent == 1) && is_hidden p.name then Some p.name else None

-- a message names such a place
abbrev pub is_reserved : ℕ → Asked → Bool
is_reserved node a = is_veiled (named_place node a) || is_veiled (goal_of a)

-- the number of the error with which it is refused: there is none of that name (ENOENT, 2), or nothing may be done to it (EPERM, 1)
abbrev pub denial : Asked → ℕ
denial (asked.Lookup n) = 2
denial a = 1

-- ---- what is removed or replaced

-- the name at which a message removes or replaces what stands there
abbrev pub last_name : Asked → Name
last_name (asked.Unlink n) = n
last_name (asked.Rename s n m) = m
last_name (asked.Rename2 s n m) = m
last_name a = []

-- the node that stands at a place and is open, if one does
abbrev pub IsHeld : Nodes → Opens → Option Place → Option ℕ → Type 0
IsHeld nodes opens None held = held ≡ None
IsHeld nodes opens (Some p) None = IsBare nodes p ⊎ ((id : ℕ) × StandsAlone nodes id p × (opens_of opens id ≡ None))
IsHeld nodes opens (Some p) (Some id) = StandsAlone nodes id p × IsSome (opens_of opens id)
