use Rattle.std.proofs.Common.{◌≡◌, ◌≢◌, ◌⊎◌, false, sym, refl, subst, ◌∙◌, inl, inr}
use Rattle.std.proofs.lemmas.List.{take_all}
use Rattle.eden_model.specs.declared.errno.Errno.TheVariants.{EINVAL}
use Rattle.eden_model.specs.declared.kind.Kind.{Kind}
use Rattle.eden_model.specs.declared.kind.Kind.TheVariants as kind
use Rattle.eden_model.specs.declared.reply.Reply.TheVariants as say
use Rattle.eden_model.specs.declared.request.Request.TheVariants as ask
use Rattle.eden_model.specs.Operations.{ReadsLink}
use Rattle.eden_model.specs.Repository.{source_of, content_with}
use Rattle.eden_overlay.specs.Held.{own_files}
use Rattle.eden_model.specs.declared.attempt.Attempt.{Attempt}
use Rattle.eden_ops.specs.Attempts.{Attempts, shown_node}
use Rattle.eden_ops.proofs.Answering.{walk_ended, says_absent}
use Rattle.eden_ops.proofs.Telling.{as_dir, met_content, met_tells, content_tells, content_lacks}
use Rattle.eden_ops.proofs.Looking.{reads_target, asks_target, target_other, target_some, target_lost}
use Rattle.eden_ops.proofs.Stamps.{walked_on}
use Rattle.eden_ops.proofs.Steps.{keeps_on}
use Rattle.eden_inode.specs.Trails.{Leads}
use Rattle.eden_tree.specs.Directory.{Row}
use Rattle.eden_ops.proofs.requests.readlink.readlink.Goals as goal

not_link : (k told : Kind) → k ≡ told → (told ≡ kind.File) ⊎ (told ≡ kind.Exec) → k ≢ kind.Link
not_link k told is (inl a) link = cc
not_link k told is (inr a) link = cc

not_dir : (told : Kind) → (told ≡ kind.File) ⊎ (told ≡ kind.Exec) → told ≢ kind.Dir
not_dir told (inl a) dir = cc
not_dir told (inr a) dir = cc

link_not_dir : (told : Kind) → told ≡ kind.Link → told ≢ kind.Dir
link_not_dir told a dir = cc

dir_not_link : (k : Kind) → k ≡ kind.Dir → k ≢ kind.Link
dir_not_link k a link = cc

pub returns-in-Err-clause-attempts : goal.returns-in-Err-clause-attempts
returns-in-Err-clause-attempts g c =
    let e = c.in-Err.ensures in
    walk_ended g.W.World g.F.Files (ask.ReadLink c.args.path.now) c.args.path.now reads_target
    (asks_target c.args.path.now) c.args.inodes.now c.meet.new.inodes c.args.cache.now c.meet.new.cache
    e.same e.keeps e.cache c.in-Err.stop _ c.ended.ensures e.meets e.shown

pub returns-in-Ok-None-clause-attempts : goal.returns-in-Ok-None-clause-attempts
returns-in-Ok-None-clause-attempts g c =
    let e = c.in-Ok-None.ensures in
    says_absent g.W.World g.F.Files (ask.ReadLink c.args.path.now) c.args.path.now reads_target c.args.inodes.now c.meet.new.inodes c.args.cache.now c.meet.new.cache _
    c.in-Ok-None.field-0-is e.same e.keeps e.cache e.shown (asks_target c.args.path.now)

pub returns-in-File-clause-attempts : goal.returns-in-File-clause-attempts
returns-in-File-clause-attempts g c =
    let e = c.in-Ok-Some.ensures in
    met_tells g.W.World g.F.Files c.args.path.now c.args.inodes.now c.meet.new.inodes c.meet.new.cache _ c.in-Ok-Some.seen c.in-Ok-Some.field-0-is e.meets (ask.ReadLink c.args.path.now) reads_target
    (asks_target c.args.path.now) c.args.cache.now e.same e.keeps e.cache e.shown (say.Err EINVAL) refl (λ T. refl)
    (λ k a listed is on. target_other k a listed (not_link k c.what.result (is ∙ (c.what.ensures.other (not_dir c.what.result c.in-File.is)).1) c.in-File.is))

pub returns-in-Dir-clause-attempts : goal.returns-in-Dir-clause-attempts
returns-in-Dir-clause-attempts g c =
    let e = c.in-Ok-Some.ensures in
    met_tells g.W.World g.F.Files c.args.path.now c.args.inodes.now c.meet.new.inodes c.meet.new.cache _ c.in-Ok-Some.seen c.in-Ok-Some.field-0-is e.meets (ask.ReadLink c.args.path.now) reads_target
    (asks_target c.args.path.now) c.args.cache.now e.same e.keeps e.cache e.shown (say.Err EINVAL) refl (λ T. refl)
    (λ k a listed is on. target_other k a listed (dir_not_link k (as_dir k c.in-Ok-Some.seen is on (c.what.ensures.dir c.in-Dir.is))))

pub returns-in-Err-part-clause-attempts : goal.returns-in-Err-part-clause-attempts
returns-in-Err-part-clause-attempts g c =
    let e = c.in-Ok-Some.ensures in
    let b = c.part.ensures in
    let other = c.what.ensures.other (link_not_dir c.what.result c.in-Link.is) in
    subst (λ (a : Attempt). Attempts g.W.World g.F.Files (ask.ReadLink c.args.path.now) c.args.inodes.now c.part.new.inodes c.args.cache.now c.part.new.cache a) (sym c.ended-in-Err-part.ensures)
    (content_lacks g.W.World g.F.Files c.args.path.now c.args.inodes.now c.meet.new.inodes c.meet.new.cache _ c.in-Ok-Some.seen c.in-Ok-Some.field-0-is e.meets
    (ask.ReadLink c.args.path.now) reads_target
    (asks_target c.args.path.now) c.args.cache.now e.same e.keeps e.cache e.shown c.part.new.inodes c.part.new.cache b.same b.keeps b.still b.cache other.0 (λ x is. cc) c.in-Err-part.stop
    (λ n a r same lost. target_lost n a false r (same ∙ other.1 ∙ c.in-Link.is) lost) (λ k is x y. cc) c.in-Err-part.ensures.lacks)

pub returns-in-Err-part-clause-keeps : goal.returns-in-Err-part-clause-keeps
returns-in-Err-part-clause-keeps g c = keeps_on g.W.World g.F.Files c.args.inodes.now c.meet.new.inodes c.part.new.inodes c.meet.ensures.keeps c.part.ensures.keeps

pub returns-in-Ok-clause-keeps : goal.returns-in-Ok-clause-keeps
returns-in-Ok-clause-keeps g c = keeps_on g.W.World g.F.Files c.args.inodes.now c.meet.new.inodes c.part.new.inodes c.meet.ensures.keeps c.part.ensures.keeps

pub returns-in-Ok-clause-attempts : goal.returns-in-Ok-clause-attempts
returns-in-Ok-clause-attempts g c =
    let e = c.in-Ok-Some.ensures in
    let b = c.part.ensures in
    let other = c.what.ensures.other (link_not_dir c.what.result c.in-Link.is) in
    let had = c.in-Ok.ensures.ok in
    let R = g.W.World.repository in
    let F = g.F.Files.stored c.meet.new.inodes.files in
    content_tells g.W.World g.F.Files c.args.path.now c.args.inodes.now c.meet.new.inodes c.meet.new.cache _ c.in-Ok-Some.seen c.in-Ok-Some.field-0-is e.meets
    (ask.ReadLink c.args.path.now) reads_target (asks_target c.args.path.now) c.args.cache.now e.same e.keeps e.cache e.shown c.part.new.inodes c.part.new.cache b.same b.keeps b.still b.cache
    (say.Data c.in-Ok.bytes) refl (λ T. refl)
    (λ h y at listed is. let told = had h y at in
    subst (λ a. ReadsLink (shown_node R F y listed) (say.Data a)) (sym (told.1.1.1 ∙ take_all 1073741824 told.0 told.1.1.0))
    (target_some y.kind (content_with R (own_files F) (source_of y.number y.origin)) listed told.0 (is ∙ other.1 ∙ c.in-Link.is) told.1.0))

pub part-requires : goal.part-requires
part-requires g c =
    let e = c.in-Ok-Some.ensures in
    let other = c.what.ensures.other (link_not_dir c.what.result c.in-Link.is) in
    met_content g.W.World g.F.Files c.args.path.now c.args.inodes.now c.meet.new.inodes c.meet.new.cache _ c.in-Ok-Some.seen c.in-Ok-Some.field-0-is e.meets
    (λ dir. link_not_dir c.what.result c.in-Link.is (sym other.1 ∙ dir))

pub returns-in-Err-part-clause-walked : goal.returns-in-Err-part-clause-walked
returns-in-Err-part-clause-walked g c = walked_on g.W.World g.F.Files c.args.path.now c.meet.new.inodes c.part.new.inodes c.meet.ensures.walked c.part.ensures.keeps

pub returns-in-Ok-clause-walked : goal.returns-in-Ok-clause-walked
returns-in-Ok-clause-walked g c = walked_on g.W.World g.F.Files c.args.path.now c.meet.new.inodes c.part.new.inodes c.meet.ensures.walked c.part.ensures.keeps

pub returns-in-Err-part-clause-leads : goal.returns-in-Err-part-clause-leads
returns-in-Err-part-clause-leads g c k is = subst (λ (x : Row). Leads c.args.path.now c.meet.new.trail.positions x) (sym c.part.ensures.still) c.meet.ensures.leads
