use Rattle.eden_fuse_shown.proofs.Keeping.{brief_failure}
use Rattle.eden_fuse_shown.proofs.shown.Shown.restore.Goals as goal

pub returns-clause-brief : goal.returns-clause-brief
returns-clause-brief g c = brief_failure c.args.said c.args.room.now.items c.put_back.new.room.items (c.if-not-failed.ensures c.args.room.now.items) c.requires
