use Rattle.eden_fuse_host.proofs.attending.+attend_each.Given as goal

abbrev pub decreases-attend_each : goal.decreases-attend_each
decreases-attend_each g l = l.passes.len
