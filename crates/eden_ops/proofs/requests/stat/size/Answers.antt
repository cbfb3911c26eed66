use Rattle.std.proofs.Common.{[], ◌∷◌, ◌∙◌}
use Rattle.eden_ops.specs.Keeping.{same}
use Rattle.eden_ops.proofs.Origins.{not_empty}
use Rattle.eden_ops.proofs.Steps.{reads}
use Rattle.eden_ops.proofs.requests.stat.size.Goals as goal

pub unreachable-requires : goal.unreachable-requires
unreachable-requires g c =
    let h = c.requires.content in
    not_empty c.args.path.now c.args.inodes.now.root h.row c.args.inodes.now.next c.holds.ensures.table h.there h.kind (h.origin ∙ c.in-Empty.is)

pub returns-in_err-content_len-in-Own-clause-same : goal.returns-in_err-content_len-in-Own-clause-same
returns-in_err-content_len-in-Own-clause-same g c =
    let e = c.content_len.ensures in
    c.keeps_laws.ensures.shown (c.args.path.now ∷ []) c.args.inodes.now c.content_len.new.self (reads g.W.World g.F.Files c.args.inodes.now c.content_len.new.self e.rest e.files e.counted)

pub returns-in_err-content_len-in-Own-clause-keeps : goal.returns-in_err-content_len-in-Own-clause-keeps
returns-in_err-content_len-in-Own-clause-keeps g c =
    let e = c.content_len.ensures in
    reads g.W.World g.F.Files c.args.inodes.now c.content_len.new.self e.rest e.files e.counted

pub returns-in_ok-content_len-in-Own-clause-same : goal.returns-in_ok-content_len-in-Own-clause-same
returns-in_ok-content_len-in-Own-clause-same g c =
    let e = c.content_len.ensures in
    c.keeps_laws.ensures.shown (c.args.path.now ∷ []) c.args.inodes.now c.content_len.new.self (reads g.W.World g.F.Files c.args.inodes.now c.content_len.new.self e.rest e.files e.counted)

pub returns-in_ok-content_len-in-Own-clause-keeps : goal.returns-in_ok-content_len-in-Own-clause-keeps
returns-in_ok-content_len-in-Own-clause-keeps g c =
    let e = c.content_len.ensures in
    reads g.W.World g.F.Files c.args.inodes.now c.content_len.new.self e.rest e.files e.counted

pub returns-in-Object-clause-keeps : goal.returns-in-Object-clause-keeps
returns-in-Object-clause-keeps g c = same
