use Rattle.std.proofs.Common.{◌≡◌, ◌-◌, ◌^◌, min, max, drop}
use Rattle.eden_tree.specs.Directory.{directory_size, rows_of}
use Rattle.eden_tree.specs.Paths.{deepest}
use Rattle.eden_tree.proofs.dir.Dir.+depth.Given as goal

abbrev pub decreases-depth : goal.decreases-depth
decreases-depth g l = directory_size l.self.now

abbrev pub invariant-loop-entry : goal.invariant-loop-entry
invariant-loop-entry g l = min (max l.below (deepest (rows_of (drop l.entry-index l.entry-items)))) (2 ^ 64 - 1) ≡ min (deepest (rows_of l.entry-items)) (2 ^ 64 - 1)
