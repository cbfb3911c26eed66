use Rattle.std.proofs.Common.{◌≡◌, ℕ, false, Err, sym, refl, subst, ap, ◌∙◌, length}
use Rattle.eden_model.specs.declared.kind.Kind.{Kind}
use Rattle.eden_model.specs.declared.kind.Kind.TheVariants as kind
use Rattle.eden_model.specs.declared.reply.Reply.{Reply}
use Rattle.eden_model.specs.declared.reply.Reply.TheVariants as say
use Rattle.eden_model.specs.declared.request.Request.TheVariants as ask
use Rattle.eden_model.specs.Operations.{Stats}
use Rattle.eden_model.specs.Repository.{source_of, content_with}
use Rattle.eden_overlay.specs.Held.{own_files}
use Rattle.eden_model.specs.declared.attempt.Attempt.{Attempt}
use Rattle.eden_model.specs.declared.attempt.Attempt.TheVariants.{Finished}
use Rattle.eden_ops.specs.Attempts.{Attempts, shown_node}
use Rattle.eden_ops.proofs.Answering.{walk_ended, says_absent}
use Rattle.eden_ops.proofs.Telling.{as_dir, met_content, met_number, met_tells, content_tells, content_lacks}
use Rattle.eden_ops.proofs.Looking.{no_dir, stats, asks_stat, stats_dir, stats_some, stats_lost}
use Rattle.eden_ops.proofs.Stamps.{walked_on}
use Rattle.eden_ops.proofs.Steps.{keeps_on}
use Rattle.eden_inode.specs.Trails.{Leads}
use Rattle.eden_tree.specs.Directory.{Row}
use Rattle.eden_ops.proofs.requests.stat.stat.Goals as goal

pub returns-in-Err-clause-attempts : goal.returns-in-Err-clause-attempts
returns-in-Err-clause-attempts g c =
    let e = c.in-Err.ensures in
    walk_ended g.W.World g.F.Files (ask.Stat c.args.path.now) c.args.path.now stats
    (asks_stat c.args.path.now) c.args.inodes.now c.meet.new.inodes c.args.cache.now c.meet.new.cache
    e.same e.keeps e.cache c.in-Err.stop _ c.ended.ensures e.meets e.shown

pub returns-in-Ok-None-clause-attempts : goal.returns-in-Ok-None-clause-attempts
returns-in-Ok-None-clause-attempts g c =
    let e = c.in-Ok-None.ensures in
    says_absent g.W.World g.F.Files (ask.Stat c.args.path.now) c.args.path.now stats c.args.inodes.now c.meet.new.inodes c.args.cache.now c.meet.new.cache _
    c.in-Ok-None.field-0-is e.same e.keeps e.cache e.shown (asks_stat c.args.path.now)

pub returns-in-Dir-clause-attempts : goal.returns-in-Dir-clause-attempts
returns-in-Dir-clause-attempts g c =
    let e = c.in-Ok-Some.ensures in
    met_tells g.W.World g.F.Files c.args.path.now c.args.inodes.now c.meet.new.inodes c.meet.new.cache _ c.in-Ok-Some.seen c.in-Ok-Some.field-0-is e.meets (ask.Stat c.args.path.now) stats
    (asks_stat c.args.path.now) c.args.cache.now e.same e.keeps e.cache e.shown (say.Stat kind.Dir 0 c.in-Ok-Some.seen.number) refl (λ T. refl)
    (λ k a listed is on. stats_dir k a listed c.in-Ok-Some.seen.number (as_dir k c.in-Ok-Some.seen is on (c.what-kind.ensures.dir c.in-Dir.is)))

pub returns-in-Err-size-clause-attempts : goal.returns-in-Err-size-clause-attempts
returns-in-Err-size-clause-attempts g c =
    let e = c.in-Ok-Some.ensures in
    let b = c.size.ensures in
    let other = c.what-kind.ensures.other (no_dir c.what-kind.result c.in-File.is) in
    subst (λ (a : Attempt). Attempts g.W.World g.F.Files (ask.Stat c.args.path.now) c.args.inodes.now c.size.new.inodes c.args.cache.now c.size.new.cache a) (sym c.ended-in-Err-size.ensures)
    (content_lacks g.W.World g.F.Files c.args.path.now c.args.inodes.now c.meet.new.inodes c.meet.new.cache _ c.in-Ok-Some.seen c.in-Ok-Some.field-0-is e.meets (ask.Stat c.args.path.now) stats
    (asks_stat c.args.path.now) c.args.cache.now e.same e.keeps e.cache e.shown c.size.new.inodes c.size.new.cache b.same b.keeps b.still b.cache other.0 (λ x is. cc) c.in-Err-size.stop
    (λ n a r same lost. stats_lost n a false r (λ dir. no_dir c.what-kind.result c.in-File.is (sym other.1 ∙ sym same ∙ dir)) lost)
    (λ k is x y blob. b.unkept k (c.in-Err-size.is ∙ ap Err is)) c.in-Err-size.ensures.lacks)

pub returns-in-Err-size-clause-keeps : goal.returns-in-Err-size-clause-keeps
returns-in-Err-size-clause-keeps g c = keeps_on g.W.World g.F.Files c.args.inodes.now c.meet.new.inodes c.size.new.inodes c.meet.ensures.keeps c.size.ensures.keeps

pub returns-in-Ok-clause-keeps : goal.returns-in-Ok-clause-keeps
returns-in-Ok-clause-keeps g c = keeps_on g.W.World g.F.Files c.args.inodes.now c.meet.new.inodes c.size.new.inodes c.meet.ensures.keeps c.size.ensures.keeps

pub returns-in-Ok-clause-attempts : goal.returns-in-Ok-clause-attempts
returns-in-Ok-clause-attempts g c =
    let e = c.in-Ok-Some.ensures in
    let b = c.size.ensures in
    let other = c.what-kind.ensures.other (no_dir c.what-kind.result c.in-File.is) in
    let had = c.in-Ok.ensures.ok in
    let n = c.in-Ok-Some.seen.number in
    let R = g.W.World.repository in
    let F = g.F.Files.stored c.meet.new.inodes.files in
    content_tells g.W.World g.F.Files c.args.path.now c.args.inodes.now c.meet.new.inodes c.meet.new.cache _ c.in-Ok-Some.seen c.in-Ok-Some.field-0-is e.meets (ask.Stat c.args.path.now) stats
    (asks_stat c.args.path.now) c.args.cache.now e.same e.keeps e.cache e.shown c.size.new.inodes c.size.new.cache b.same b.keeps b.still b.cache (say.Stat c.what-kind.result c.in-Ok.length n) refl
    (λ T. refl)
    (λ h y at listed is.
    let has = had h y at in
    let told : c.what-kind.result ≡ y.kind = sym other.1 ∙ sym is in
    subst (λ (r : Reply). Stats (shown_node R F y listed) r) (ap (λ (k : Kind). say.Stat k (length has.0) n) (sym told) ∙ ap (λ (size : ℕ). say.Stat c.what-kind.result size n) (sym has.1.1))
    (stats_some y.kind (content_with R (own_files F) (source_of y.number y.origin)) listed has.0 n (λ dir. no_dir c.what-kind.result c.in-File.is (told ∙ dir)) has.1.0))

pub size-requires : goal.size-requires
size-requires g c =
    let e = c.in-Ok-Some.ensures in
    let other = c.what-kind.ensures.other (no_dir c.what-kind.result c.in-File.is) in
    record {
      content = met_content g.W.World g.F.Files c.args.path.now c.args.inodes.now c.meet.new.inodes c.meet.new.cache _ c.in-Ok-Some.seen c.in-Ok-Some.field-0-is e.meets
          (λ dir. no_dir c.what-kind.result c.in-File.is (sym other.1 ∙ dir));
    }

pub returns-in-Err-size-clause-walked : goal.returns-in-Err-size-clause-walked
returns-in-Err-size-clause-walked g c = walked_on g.W.World g.F.Files c.args.path.now c.meet.new.inodes c.size.new.inodes c.meet.ensures.walked c.size.ensures.keeps

pub returns-in-Ok-clause-walked : goal.returns-in-Ok-clause-walked
returns-in-Ok-clause-walked g c = walked_on g.W.World g.F.Files c.args.path.now c.meet.new.inodes c.size.new.inodes c.meet.ensures.walked c.size.ensures.keeps

pub returns-in-Err-size-clause-leads : goal.returns-in-Err-size-clause-leads
returns-in-Err-size-clause-leads g c k is = subst (λ (x : Row). Leads c.args.path.now c.meet.new.trail.positions x) (sym c.size.ensures.still) c.meet.ensures.leads

-- ---- the number

told_number : (k m : Kind) (a b x y : ℕ) → Finished (say.Stat k a x) ≡ Finished (say.Stat m b y) → x ≡ y
told_number k m a b x y is = cc

pub returns-in-Dir-clause-tells : goal.returns-in-Dir-clause-tells
returns-in-Dir-clause-tells g c k size n is =
    let e = c.in-Ok-Some.ensures in
    let t = c.meet.new.inodes in
    met_number g.W.World g.F.Files c.args.path.now c.args.inodes.now t c.meet.new.cache _ c.in-Ok-Some.seen c.in-Ok-Some.field-0-is e.meets t refl n
    (told_number kind.Dir k 0 size c.in-Ok-Some.seen.number n is)

pub returns-in-Ok-clause-tells : goal.returns-in-Ok-clause-tells
returns-in-Ok-clause-tells g c k size n is =
    let e = c.in-Ok-Some.ensures in
    let t = c.meet.new.inodes in
    met_number g.W.World g.F.Files c.args.path.now c.args.inodes.now t c.meet.new.cache _ c.in-Ok-Some.seen c.in-Ok-Some.field-0-is e.meets c.size.new.inodes c.size.ensures.still n
    (told_number c.what-kind.result k c.in-Ok.length size c.in-Ok-Some.seen.number n is)
