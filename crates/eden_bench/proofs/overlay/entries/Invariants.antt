use Rattle.std.specs.List.{AllByRecursion}
use Rattle.eden_overlay_format.specs.Directory.{IsStorable}
use Rattle.eden_bench.proofs.overlay.entries.Given as goal

abbrev pub invariant-loop-number : goal.invariant-loop-number
invariant-loop-number l = AllByRecursion IsStorable l.entries.items
