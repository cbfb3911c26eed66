use Rattle.std.proofs.Common.{sym, subst, ◌∙◌}
use Rattle.eden_model.specs.declared.errno.Errno.TheVariants.{ENOTEMPTY}
use Rattle.eden_model.specs.declared.reply.Reply.TheVariants as say
use Rattle.eden_model.specs.Trees.{Tree}
use Rattle.eden_inode.specs.Tables.{shows}
use Rattle.eden_ops.specs.Renames.{MayLand}
use Rattle.eden_ops.proofs.Looking.{no_dir}
use Rattle.eden_ops.proofs.Reached.{seen_at, met_passes}
use Rattle.eden_ops.proofs.Renames.{land_ended, land_fails, land_over_met, met_refuses, land_over_none, land_over_some, land_lacks, loaded_passes}
use Rattle.eden_ops.proofs.Stamps.{walked_on}
use Rattle.eden_ops.proofs.Steps.{keeps_on}
use Rattle.eden_inode.specs.Trails.{Leads}
use Rattle.eden_tree.specs.Directory.{Row}
use Rattle.eden_ops.proofs.Trailing.{leads_on}
use Rattle.eden_ops.proofs.land.land.Goals as goal

pub returns-in-Err-clause-lands : goal.returns-in-Err-clause-lands
returns-in-Err-clause-lands g c = land_ended g.W.World g.F.Files c.args.path.now c.args.dir c.args.inodes.now c.meet.new.inodes c.meet.new.cache c.in-Err.stop c.in-Err.ensures.meets

pub returns-in-Err-clause-shown : goal.returns-in-Err-clause-shown
returns-in-Err-clause-shown g c h = land_fails g.W.World g.F.Files c.args.path.now c.args.dir c.args.inodes.now c.meet.new.inodes c.meet.new.cache c.in-Err.stop (c.in-Err.ensures.shown h)

pub returns-in-File : goal.returns-in-File
returns-in-File g c =
    let e = c.in-Ok-Some.ensures in
    let other = no_dir c.what.result c.in-File.is in
    record {
      lands = met_passes g.W.World g.F.Files c.args.path.now c.args.inodes.now c.meet.new.inodes c.meet.new.cache _ e.meets;
      shown = land_over_met g.W.World g.F.Files c.args.path.now c.args.inodes.now c.meet.new.inodes c.meet.new.cache _ c.in-Ok-Some.seen c.in-Ok-Some.field-0-is e.meets e.shown
          (λ dir. other (sym (c.what.ensures.other other).1 ∙ dir)) c.args.dir c.if-dir.false;
      same = e.same;
      keeps = e.keeps;
      cache = e.cache;
      walked = e.walked;
      counts = e.counts;
      leads = tt;
    }

pub returns-then-dir : goal.returns-then-dir
returns-then-dir g c =
    let e = c.in-Ok-Some.ensures in
    let other = no_dir c.what.result c.in-File.is in
    record {
      lands = tt;
      shown = met_refuses g.W.World g.F.Files c.args.path.now c.args.inodes.now c.meet.new.inodes c.meet.new.cache _ c.in-Ok-Some.seen c.in-Ok-Some.field-0-is e.meets e.shown
          (λ dir. other (sym (c.what.ensures.other other).1 ∙ dir)) c.args.dir c.if-dir.true;
      same = e.same;
      keeps = e.keeps;
      cache = e.cache;
      walked = e.walked;
      counts = e.counts;
      leads = e.leads;
    }

pub returns-in-Err-bring_seen-clause-lands : goal.returns-in-Err-bring_seen-clause-lands
returns-in-Err-bring_seen-clause-lands g c =
    let p = c.args.path.now in
    let s = c.args.inodes.now in
    let t = c.meet.new.inodes in
    let e = c.in-Ok-Some.ensures in
    let z = c.in-Err-bring_seen.ensures in
    let seen = seen_at g.W.World g.F.Files p s t c.meet.new.cache _ c.in-Ok-Some.seen c.in-Ok-Some.field-0-is e.meets in
    land_lacks g.W.World g.F.Files p s t c.bring_seen.new.inodes c.bring_seen.new.cache c.in-Ok-Some.seen seen z.still z.away
    (c.what.ensures.dir c.in-Dir.is) c.args.dir c.if-not-dir.false e.keeps c.in-Err-bring_seen.stop z.lacks

pub returns-in-Err-bring_seen-clause-same : goal.returns-in-Err-bring_seen-clause-same
returns-in-Err-bring_seen-clause-same g c h = c.bring_seen.ensures.same h ∙ c.in-Ok-Some.ensures.same h

pub returns-in-Err-bring_seen-clause-keeps : goal.returns-in-Err-bring_seen-clause-keeps
returns-in-Err-bring_seen-clause-keeps g c = keeps_on g.W.World g.F.Files c.args.inodes.now c.meet.new.inodes c.bring_seen.new.inodes c.in-Ok-Some.ensures.keeps c.bring_seen.ensures.keeps

pub returns-then-is_empty-clause-lands : goal.returns-then-is_empty-clause-lands
returns-then-is_empty-clause-lands g c = loaded_passes c.bring_seen.new.inodes.root c.args.path.now c.in-Ok.ensures.ok

pub returns-then-is_empty-clause-shown : goal.returns-then-is_empty-clause-shown
returns-then-is_empty-clause-shown g c h =
    let p = c.args.path.now in
    let same = c.bring_seen.ensures.same h ∙ c.in-Ok-Some.ensures.same h in
    subst (λ (G : Tree). MayLand G p c.args.dir say.Ok) same
    (land_over_none (shows g.W.World g.F.Files c.bring_seen.new.inodes) p (c.is_empty.ensures.here h) c.args.dir c.if-not-dir.false (c.if-is_empty.ensures.entries h))

pub returns-then-is_empty-clause-same : goal.returns-then-is_empty-clause-same
returns-then-is_empty-clause-same g c h = c.bring_seen.ensures.same h ∙ c.in-Ok-Some.ensures.same h

pub returns-then-is_empty-clause-keeps : goal.returns-then-is_empty-clause-keeps
returns-then-is_empty-clause-keeps g c = keeps_on g.W.World g.F.Files c.args.inodes.now c.meet.new.inodes c.bring_seen.new.inodes c.in-Ok-Some.ensures.keeps c.bring_seen.ensures.keeps

pub returns-clause-shown : goal.returns-clause-shown
returns-clause-shown g c h =
    let p = c.args.path.now in
    let same = c.bring_seen.ensures.same h ∙ c.in-Ok-Some.ensures.same h in
    subst (λ (G : Tree). MayLand G p c.args.dir (say.Err ENOTEMPTY)) same
    (land_over_some (shows g.W.World g.F.Files c.bring_seen.new.inodes) p (c.is_empty.ensures.here h) c.args.dir c.if-not-dir.false (c.if-is_empty.ensures.entries h))

pub returns-clause-same : goal.returns-clause-same
returns-clause-same g c h = c.bring_seen.ensures.same h ∙ c.in-Ok-Some.ensures.same h

pub returns-clause-keeps : goal.returns-clause-keeps
returns-clause-keeps g c = keeps_on g.W.World g.F.Files c.args.inodes.now c.meet.new.inodes c.bring_seen.new.inodes c.in-Ok-Some.ensures.keeps c.bring_seen.ensures.keeps

pub returns-in-Err-bring_seen-clause-walked : goal.returns-in-Err-bring_seen-clause-walked
returns-in-Err-bring_seen-clause-walked g c =
    walked_on g.W.World g.F.Files c.args.path.now c.meet.new.inodes c.bring_seen.new.inodes c.in-Ok-Some.ensures.walked c.bring_seen.ensures.keeps

pub returns-then-is_empty-clause-walked : goal.returns-then-is_empty-clause-walked
returns-then-is_empty-clause-walked g c =
    walked_on g.W.World g.F.Files c.args.path.now c.meet.new.inodes c.bring_seen.new.inodes c.in-Ok-Some.ensures.walked c.bring_seen.ensures.keeps

pub returns-clause-walked : goal.returns-clause-walked
returns-clause-walked g c =
    walked_on g.W.World g.F.Files c.args.path.now c.meet.new.inodes c.bring_seen.new.inodes c.in-Ok-Some.ensures.walked c.bring_seen.ensures.keeps

pub returns-in-Err-bring_seen-clause-leads : goal.returns-in-Err-bring_seen-clause-leads
returns-in-Err-bring_seen-clause-leads g c = subst (λ (x : Row). Leads c.args.path.now c.meet.new.trail.positions x) (sym c.in-Err-bring_seen.ensures.still) c.meet.ensures.leads

pub returns-clause-leads : goal.returns-clause-leads
returns-clause-leads g c = leads_on g.W.World g.F.Files c.args.path.now c.meet.new.trail.positions c.meet.new.inodes c.bring_seen.new.inodes c.bring_seen.ensures.keeps c.meet.ensures.leads
