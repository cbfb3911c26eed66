-- What the oracle answers a request: its reply, and the change that it makes.
use Rattle.std.specs.Prelude.{◌≡◌, Bool, List, [], ◌∷◌, ◌++◌, Option, Some, None, IfSome}
use Rattle.eden_oracle.specs.declared.change.Change.{Change}
use Rattle.eden_oracle.specs.declared.change.Change.TheVariants as change
use Rattle.eden_oracle.specs.declared.remove.Going.{Going}
use Rattle.eden_oracle.specs.declared.remove.Going.TheVariants as going
use Rattle.eden_model.specs.declared.request.Request.{Request}
use Rattle.eden_model.specs.declared.reply.Reply.{Reply}
use Rattle.eden_model.specs.declared.reply.Reply.TheVariants as say
use Rattle.eden_model.specs.declared.node.Node.{Node}
use Rattle.eden_model.specs.declared.request.Request.TheVariants as ask
use Rattle.eden_model.specs.Trees.{Path, Tree, reach, node_at}
use Rattle.eden_oracle.specs.Rows.{tree_of}
use Rattle.eden_model.specs.Operations.{Replies, Meets, Says, Adds, Moves, Replaces, after, done, put, move}

abbrev pub changed_tree : Tree → Change → Tree
changed_tree F change.Keep = F
changed_tree F (change.Put p o) = put F p.now o
changed_tree F (change.Move from to) = move F from.now to.now

-- a reply of which the facts hold, with the change to the tree after it; or none, where they hold of none
abbrev pub Gives : (Reply → Type 0) → Tree → (Reply → Tree) → Option (Reply × Change) → Type 0
Gives P F next None = (r : Reply) → ¬ P r
Gives P F next (Some a) = P a.0 × (changed_tree F a.1 ≡ next a.0)

abbrev pub Answers : Tree → Request → Option (Reply × Change) → Type 0
Answers F q = Gives (Replies F q) F (after F q)

-- what the request for a node that stands at a path is answered, in each tree
abbrev pub AnswersHere : Path → Node → (Node → Reply → Type 0) → Request → Option (Reply × Change) → Type 0
AnswersHere p n here q o = (F : Tree) → node_at F p ≡ Some n → Gives (here n) F (after F q) o

-- that node added, as each request answers it whose tree has it there
abbrev pub AddsNode : Tree → Path → Node → Option (Reply × Change) → Type 0
AddsNode F p n o = (q : Request) → done F q ≡ put F p (Some n) → Gives (Adds F p) F (after F q) o

-- the path taken away, in each tree and by each request whose tree has nothing there
abbrev pub TakesAway : Path → Option (Reply × Change) → Type 0
TakesAway p o = (F : Tree) (q : Request) → done F q ≡ put F p None → IfSome o (λ a. changed_tree F a.1 ≡ after F q a.0)

-- a rename of `n`, which stands at `from`
abbrev pub Renames : Tree → Path → Path → Node → Option (Reply × Change) → Type 0
Renames F from to n = Gives (Moves F from to n) F (after F (ask.Rename from to))

-- a reply of which the facts hold, or none where they hold of none
abbrev pub Tells : (Reply → Type 0) → Option Reply → Type 0
Tells P None = (r : Reply) → ¬ P r
Tells P (Some r) = P r

-- whether `to` may be taken, by a directory or not
abbrev pub MayLand : Tree → Path → Bool → Option Reply → Type 0
MayLand F to dir = Tells (Meets (reach F to) (Says say.Ok) (Replaces F to dir))

abbrev pub reply_of : Going → Option Reply
reply_of going.Goes = Some say.Ok
reply_of (going.Stays e) = Some (say.Err e)
reply_of going.Silent = None

-- the rows shown moved
abbrev pub ShowMoved : {X : Type 0} → List (Path × X) → List (Path × X) → Path → Path → Type 0
ShowMoved all rows from to = (q : Path) → tree_of all q ≡ move (tree_of rows) from to q

-- one row more
abbrev pub MovesRow : {X : Type 0} → List (Path × X) → List (Path × X) → Path → Path → Path → X → Type 0
MovesRow {X = X} old new from to p v = (rows : List (Path × X)) → ShowMoved old rows from to → ShowMoved new (rows ++ (p, v) ∷ []) from to
