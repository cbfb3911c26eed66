use Rattle.eden_host.proofs.attend.Hosting.+attend_each.Given as goal

abbrev pub decreases-attend_each : goal.decreases-attend_each
decreases-attend_each g l = l.passes.len
