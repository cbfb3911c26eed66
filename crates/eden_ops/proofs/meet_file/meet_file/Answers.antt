use Rattle.std.proofs.Common.{◌≡◌, ◌≢◌, ◌∙◌}
use Rattle.eden_model.specs.declared.kind.Kind.{Kind}
use Rattle.eden_model.specs.declared.kind.Kind.TheVariants as kind
use Rattle.eden_ops.proofs.Filing.{file_walk, file_absent, file_link, file_dir}
use Rattle.eden_ops.proofs.Steps.{keeps_counts}
use Rattle.eden_ops.proofs.Telling.{as_dir}
use Rattle.eden_ops.proofs.meet_file.meet_file.Goals as goal

link_not_dir : (told : Kind) → told ≡ kind.Link → told ≢ kind.Dir
link_not_dir told a dir = cc

pub returns-in-Err-clause-ends : goal.returns-in-Err-clause-ends
returns-in-Err-clause-ends g c q asked =
    let e = c.in-Err.ensures in
    file_walk g.W.World g.F.Files c.args.path.now q asked c.args.inodes.now c.meet.new.inodes c.args.cache.now c.meet.new.cache e.same e.keeps e.cache c.in-Err.stop e.meets e.shown

pub returns-in-Ok-None-clause-ends : goal.returns-in-Ok-None-clause-ends
returns-in-Ok-None-clause-ends g c q asked =
    let e = c.in-Ok-None.ensures in
    file_absent g.W.World g.F.Files c.args.path.now q asked c.args.inodes.now c.meet.new.inodes c.args.cache.now c.meet.new.cache e.same e.keeps e.cache _ c.in-Ok-None.field-0-is e.shown

pub returns-in-Link-clause-ends : goal.returns-in-Link-clause-ends
returns-in-Link-clause-ends g c q asked =
    let e = c.in-Ok-Some.ensures in
    file_link g.W.World g.F.Files c.args.path.now q asked c.args.inodes.now c.meet.new.inodes c.args.cache.now c.meet.new.cache e.same e.keeps e.cache _ c.in-Ok-Some.seen c.in-Ok-Some.field-0-is
    e.meets e.shown
    ((c.what.ensures.other (link_not_dir c.what.result c.in-Link.is)).1 ∙ c.in-Link.is)

pub returns-in-Dir-clause-ends : goal.returns-in-Dir-clause-ends
returns-in-Dir-clause-ends g c q asked =
    let e = c.in-Ok-Some.ensures in
    file_dir g.W.World g.F.Files c.args.path.now q asked c.args.inodes.now c.meet.new.inodes c.args.cache.now c.meet.new.cache e.same e.keeps e.cache _ c.in-Ok-Some.seen c.in-Ok-Some.field-0-is
    e.meets e.shown
    (λ k is on. as_dir k c.in-Ok-Some.seen is on (c.what.ensures.dir c.in-Dir.is))

pub returns-in-Err-clause-changes : goal.returns-in-Err-clause-changes
returns-in-Err-clause-changes g c = (keeps_counts g.W.World g.F.Files _ c.args.inodes.now c.meet.new.inodes c.meet.ensures.keeps).1.0

pub returns-in-Ok-None-clause-changes : goal.returns-in-Ok-None-clause-changes
returns-in-Ok-None-clause-changes g c = (keeps_counts g.W.World g.F.Files _ c.args.inodes.now c.meet.new.inodes c.meet.ensures.keeps).1.0

pub returns-in-Link-clause-changes : goal.returns-in-Link-clause-changes
returns-in-Link-clause-changes g c = (keeps_counts g.W.World g.F.Files _ c.args.inodes.now c.meet.new.inodes c.meet.ensures.keeps).1.0

pub returns-in-Dir-clause-changes : goal.returns-in-Dir-clause-changes
returns-in-Dir-clause-changes g c = (keeps_counts g.W.World g.F.Files _ c.args.inodes.now c.meet.new.inodes c.meet.ensures.keeps).1.0

pub returns-in-File-clause-changes : goal.returns-in-File-clause-changes
returns-in-File-clause-changes g c = (keeps_counts g.W.World g.F.Files _ c.args.inodes.now c.meet.new.inodes c.meet.ensures.keeps).1.0
