use Rattle.std.proofs.Common.{◌≡◌, ◌++◌, ◌≤◌, take}
use Rattle.std.specs.Vec.{vec_capacity}
use Rattle.eden_fuse_format.specs.Members.{members_text}
use Rattle.eden_fuse_format.proofs.members.put_members.Given as goal

-- the numbers so far are written
abbrev pub invariant-loop-member : goal.invariant-loop-member
invariant-loop-member l = (l.out.items ≡ l.fn.out.items ++ members_text (take l.member-index l.members)) × (vec_capacity l.fn.out ≤ vec_capacity l.out)
