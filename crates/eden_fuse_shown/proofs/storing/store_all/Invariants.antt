use Rattle.std.proofs.Common.{ℕ, Option, length}
use Rattle.eden_fuse_shown.specs.Showing.{StoresAll, first_error}
use Rattle.eden_fuse_shown.proofs.storing.store_all.Given as goal

-- to store what is left is to store all, and the first error is the one that there is, or else the first of what is left
abbrev pub invariant-nodes : goal.invariant-nodes
invariant-nodes g l = (end : g.row.M.Denot) (others : Option ℕ) → StoresAll g.M.Mount.answers l.nodes l.left.entries l.mount others end
    → StoresAll g.M.Mount.answers l.nodes l.fn.waits l.fn.mount (first_error l.why others) end

abbrev pub decreases-nodes : goal.decreases-nodes
decreases-nodes g l = length l.left.entries
