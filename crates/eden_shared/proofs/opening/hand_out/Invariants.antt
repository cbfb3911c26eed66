use Rattle.std.specs.Prelude.{◌≡◌, ◌++◌, length}
use Rattle.std.specs.Vec.{vec_len}
use Rattle.std.specs.Vec.Iter.{into_iter_items}
use Rattle.eden_shared.specs.Lanes.{names_of}
use Rattle.eden_shared.specs.Opening.{AreOpened}
use Rattle.eden_shared.specs.Passes.{newcomers}
use Rattle.eden_shared.specs.Terms.{terms_of}
use Rattle.eden_shared.proofs.opening.hand_out.Given as goal

-- the passes of the ends so far
abbrev pub invariant-loop-end : goal.invariant-loop-end
invariant-loop-end g l =
    record {
      passes : l.passes.items ≡ newcomers (terms_of g.T.Attempts.table l.fn.mount) 1 (length l.yielded);
      len : vec_len l.passes ≡ length l.yielded;
      ends : l.fn.ends.items ≡ l.yielded ++ into_iter_items l.end-iterator;
      names : names_of l.lanes.items ≡ names_of l.fn.lanes.items;
      opened : AreOpened (terms_of g.T.Attempts.table l.fn.mount) l.lanes.items (length l.passes.items);
    }
