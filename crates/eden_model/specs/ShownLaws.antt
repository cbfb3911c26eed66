-- What is promised of whatever a ground shows.
use Rattle.std.specs.Prelude.{◌≡◌, ◌≢◌, ◌∷◌, Some}
use Rattle.std.specs.Option.{option_map}
use Rattle.eden_model.specs.declared.kind.Kind.TheVariants as kind
use Rattle.eden_model.specs.Trees.{Name, Path, Tree, IsTree, graft}
use Rattle.eden_model.specs.Shown.{Item, Ground, node_of, entry_in, shown, shown_at, item_at, map_item, Agree}

-- a directory shows a tree
abbrev pub ShownIsTree : (S : Type 0) → Type 0
ShownIsTree S = (G : Ground S) (i : Item S) → i.kind ≡ kind.Dir → IsTree (shown G i)

-- what stands at a path is the node of the entry there
abbrev pub ShowsItems : (S : Type 0) → Type 0
ShowsItems S = (G : Ground S) (i : Item S) (p : Path) → shown G i p ≡ option_map (node_of G) (item_at G i p)

-- grounds that agree show the same
abbrev pub FollowsSources : (S T : Type 0) → Type 0
FollowsSources S T = (f : S → T) (G : Ground S) (H : Ground T) → Agree f G H → (i : Item S) → shown H (map_item f i) ≡ shown G i

-- what no path leads to shows nowhere
abbrev pub SeesItsOwn : (S : Type 0) → Type 0
SeesItsOwn S = (G H : Ground S) (i : Item S)
    → ((p : Path) (j : Item S) → item_at G i p ≡ Some j → (H.entries j.source ≡ G.entries j.source) × (H.content j.source ≡ G.content j.source))
    → shown H i ≡ shown G i

-- Two directories that differ in one entry, and in that at and below a front alone, show trees that differ there alone.
abbrev pub GraftsEntry : (S T : Type 0) → Type 0
GraftsEntry S T = (G : Ground S) (H : Ground T) (i : Item S) (j : Item T) (n : Name) (front : Path) (X : Tree)
    → node_of H j ≡ node_of G i
    → ((m : Name) → m ≢ n → shown_at H (entry_in H j m) ≡ shown_at G (entry_in G i m))
    → shown_at H (entry_in H j n) ≡ graft front X (shown_at G (entry_in G i n))
    → shown H j ≡ graft (n ∷ front) X (shown G i)
