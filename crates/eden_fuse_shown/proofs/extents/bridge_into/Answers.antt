use Rattle.std.proofs.Common.{sym}
use Rattle.eden_fuse_shown.proofs.Amounts.{all_joined, kept}
use Rattle.eden_fuse_shown.proofs.extents.bridge_into.Goals as goal

pub returns-in-Some-clause-more : goal.returns-in-Some-clause-more
returns-in-Some-clause-more c =
    all_joined c.bridge.result c.args.extents.now.entries (c.get_mut.follows.lender c.bridge.new.self).entries c.args.node c.in-Some.extent.now c.bridge.new.self
    (sym c.in-Some.ensures.value) (c.get_mut.follows.holds c.bridge.new.self).0 c.bridge.ensures.more

pub returns-in-Some-clause-err : goal.returns-in-Some-clause-err
returns-in-Some-clause-err c =
    kept c.bridge.result c.args.extents.now.entries (c.get_mut.follows.lender c.bridge.new.self).entries c.args.node c.in-Some.extent.now c.bridge.new.self
    (sym c.in-Some.ensures.value) (c.get_mut.follows.holds c.bridge.new.self).0 c.bridge.ensures.err
