use Rattle.std.proofs.Common.{◌≡◌, false, IfSome, None}
use Rattle.std.specs.List.{All}
use Rattle.eden_pack_format.specs.Causes.{IsReadingCause}
use Rattle.eden_git.proofs.store.look_at_all.Given as goal

abbrev pub invariant-loop-index : goal.invariant-loop-index
invariant-loop-index g l = record {
  causes : IfSome l.failed IsReadingCause;
  kept : l.failed ≡ None → l.is_other ≡ false → All (λ store. store.packs.is_damaged ≡ false) l.initial.stores.items
      → All (λ store. store.packs.is_damaged ≡ false) l.stores.items;
}
