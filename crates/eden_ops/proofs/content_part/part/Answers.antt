use Rattle.std.proofs.Common.{◌≡◌, Some, [], ◌∷◌, ◌∙◌, sym, subst}
use Rattle.eden_model.specs.Trees.{Path}
use Rattle.eden_overlay.specs.Held.{HoldsPart}
use Rattle.eden_tree.specs.Paths.{row_at}
use Rattle.eden_ops.specs.Keeping.{same}
use Rattle.eden_ops.proofs.Origins.{not_empty}
use Rattle.eden_ops.proofs.Refilled.{part_is}
use Rattle.eden_ops.proofs.Steps.{reads}
use Rattle.eden_ops.proofs.content_part.part.Goals as goal

pub unreachable-requires : goal.unreachable-requires
unreachable-requires g c =
    let h = c.requires in
    not_empty c.args.path.now c.args.inodes.now.root h.row c.args.inodes.now.next c.holds.ensures.table h.there h.kind (h.origin ∙ c.in-Empty.is)

pub returns-in_err-bytes-in-Own-clause-same : goal.returns-in_err-bytes-in-Own-clause-same
returns-in_err-bytes-in-Own-clause-same g c =
    let e = c.content_part.ensures in
    c.keeps_laws.ensures.shown (c.args.path.now ∷ []) c.args.inodes.now c.content_part.new.self (reads g.W.World g.F.Files c.args.inodes.now c.content_part.new.self e.rest e.files e.counted)

pub returns-in_err-bytes-in-Own-clause-keeps : goal.returns-in_err-bytes-in-Own-clause-keeps
returns-in_err-bytes-in-Own-clause-keeps g c =
    let e = c.content_part.ensures in
    reads g.W.World g.F.Files c.args.inodes.now c.content_part.new.self e.rest e.files e.counted

pub returns-in_err-cached_part-in-Object-clause-keeps : goal.returns-in_err-cached_part-in-Object-clause-keeps
returns-in_err-cached_part-in-Object-clause-keeps g c = same

pub returns-in-None-clause-keeps : goal.returns-in-None-clause-keeps
returns-in-None-clause-keeps g c = same

pub returns-in-Some-clause-keeps : goal.returns-in-Some-clause-keeps
returns-in-Some-clause-keeps g c = same

pub returns-in_ok-bytes-in-Own-clause-same : goal.returns-in_ok-bytes-in-Own-clause-same
returns-in_ok-bytes-in-Own-clause-same g c =
    let e = c.content_part.ensures in
    c.keeps_laws.ensures.shown (c.args.path.now ∷ []) c.args.inodes.now c.content_part.new.self (reads g.W.World g.F.Files c.args.inodes.now c.content_part.new.self e.rest e.files e.counted)

pub returns-in_ok-bytes-in-Own-clause-keeps : goal.returns-in_ok-bytes-in-Own-clause-keeps
returns-in_ok-bytes-in-Own-clause-keeps g c =
    let e = c.content_part.ensures in
    reads g.W.World g.F.Files c.args.inodes.now c.content_part.new.self e.rest e.files e.counted

pub returns-in_ok-bytes-in-Own-clause-ok : goal.returns-in_ok-bytes-in-Own-clause-ok
returns-in_ok-bytes-in-Own-clause-ok g c =
    let s = c.args.inodes.now in
    part_is g.W.World g.F.Files c.args.path.now s c.args.origin c.requires c.args.offset c.args.count c.new.result c.in-Own.is
    (λ h y at. subst (HoldsPart (g.F.Files.stored s.files) y.number c.args.offset c.args.count) (sym c.new.ensures)
    (c.in_ok-bytes-in-Own.ensures.ok h y (subst (λ (q : Path). row_at q s.root ≡ Some y) (sym c.as_slice.ensures) at)))
