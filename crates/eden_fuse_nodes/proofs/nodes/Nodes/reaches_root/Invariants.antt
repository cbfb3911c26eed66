use Rattle.std.proofs.Common.{◌≡◌, ℕ, List, length}
use Rattle.eden_fuse_nodes.proofs.Walks.{Walked}
use Rattle.eden_fuse_nodes.proofs.nodes.Nodes.reaches_root.Given as goal

-- some names lead from the node to where the walk is, one a step
abbrev pub invariant-loop-height : goal.invariant-loop-height
invariant-loop-height l = (up : List (List ℕ)) × Walked l.self l.id l.node up × (length up ≡ l._height)
