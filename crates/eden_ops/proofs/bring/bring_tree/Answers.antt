use Rattle.eden_ops.specs.Attempts.{Lacks}
use Rattle.eden_ops.proofs.Bringing.{has_after, numbered_why, told}
use Rattle.eden_ops.proofs.Steps.{keeps_on, reads}
use Rattle.eden_ops.proofs.bring.bring_tree.Goals as goal

pub returns-in_err-numbered-clause-lacks : goal.returns-in_err-numbered-clause-lacks
returns-in_err-numbered-clause-lacks g c =
    let s = c.args.inodes.now in
    let t = c.numbered.new.self in
    let e = c.numbered.ensures in
    told c.from_residual.result c.in_err-numbered.field-0.0 (Lacks g.W.World g.F.Files c.args.path.now s t c.args.cache.now) c.from_residual.ensures.1
    (numbered_why g.W.World g.F.Files c.args.path.now s t e.rest e.files e.counted c.args.id c.requires.at c.in_err-numbered.field-0.0 c.in_err-numbered.ensures.fault)

pub returns-in_err-numbered-clause-keeps : goal.returns-in_err-numbered-clause-keeps
returns-in_err-numbered-clause-keeps g c =
    let e = c.numbered.ensures in
    reads g.W.World g.F.Files c.args.inodes.now c.numbered.new.self e.rest e.files e.counted

pub bring_stored-requires : goal.bring_stored-requires
bring_stored-requires g c =
    let e = c.numbered.ensures in
    record {
      none = has_after g.W.World g.F.Files c.args.path.now c.args.inodes.now c.numbered.new.self e.rest e.files (c.in_ok-numbered.ensures.saved c.if-branch.true);
    }

pub returns-in_err-bring_stored-clause-keeps : goal.returns-in_err-bring_stored-clause-keeps
returns-in_err-bring_stored-clause-keeps g c =
    let s = c.args.inodes.now in
    let t = c.numbered.new.self in
    let e = c.numbered.ensures in
    keeps_on g.W.World g.F.Files s t c.bring_stored.new.inodes (reads g.W.World g.F.Files s t e.rest e.files e.counted) c.bring_stored.ensures.keeps

pub returns-then-branch-clause-keeps : goal.returns-then-branch-clause-keeps
returns-then-branch-clause-keeps g c =
    let s = c.args.inodes.now in
    let t = c.numbered.new.self in
    let e = c.numbered.ensures in
    keeps_on g.W.World g.F.Files s t c.bring_stored.new.inodes (reads g.W.World g.F.Files s t e.rest e.files e.counted) c.bring_stored.ensures.keeps

pub returns-clause-keeps : goal.returns-clause-keeps
returns-clause-keeps g c =
    let s = c.args.inodes.now in
    let t = c.numbered.new.self in
    let e = c.numbered.ensures in
    keeps_on g.W.World g.F.Files s t c.bring_cached.new.inodes (reads g.W.World g.F.Files s t e.rest e.files e.counted) c.bring_cached.ensures.keeps
