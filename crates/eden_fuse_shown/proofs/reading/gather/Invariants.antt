use Rattle.std.proofs.Common.{◌-◌, ◌≤◌}
use Rattle.eden_fuse_shown.specs.Reading.{ReadsOn}
use Rattle.eden_fuse_shown.proofs.reading.gather.Given as goal

-- so many bytes were read
abbrev pub invariant-parts : goal.invariant-parts
invariant-parts g l = (l.done ≤ l.count) × ReadsOn g.M.Mount.answers l.path l.from l.fn.mount l.done l.bytes.items l.mount

abbrev pub decreases-parts : goal.decreases-parts
decreases-parts g l = l.count - l.done
