use Rattle.std.proofs.Common.{◌≡◌, length}
use Rattle.eden_fuse_nodes.proofs.Walks.{Walked}
use Rattle.eden_fuse_nodes.proofs.nodes.Nodes.way_up.Given as goal

-- the names so far lead from the node to where the walk is, one a step
abbrev pub invariant-loop-height : goal.invariant-loop-height
invariant-loop-height l = Walked l.self l.id l.node l.up.items × (length l.up.items ≡ l._height)
