use Rattle.std.proofs.Common.{◌+◌, length, ◌∙◌, ap}
use Rattle.eden_fuse_shown.specs.Waiting.{Extent, all_of}
use Rattle.eden_fuse_shown.proofs.Amounts.{all_begun}
use Rattle.eden_fuse_shown.proofs.extents.begin.Goals as goal

pub returns-in-Ok-clause-more : goal.returns-in-Ok-clause-more
returns-in-Ok-clause-more c =
    all_begun c.args.extents.now.entries c.insert.new.self.entries c.args.node c.in_ok-extent.extent c.in-Ok.ensures.was_ordered c.requires c.in-Ok.ensures.entries
    ∙ ap (λ (e : Extent). all_of c.args.extents.now.entries + length e.bytes) c.in_ok-extent.ensures
