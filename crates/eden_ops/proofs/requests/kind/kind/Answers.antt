use Rattle.std.proofs.Common.{Option, Ok, sym, refl, subst, ap, ◌∙◌}
use Rattle.eden_model.specs.declared.reply.Reply.TheVariants as say
use Rattle.eden_model.specs.declared.request.Request.TheVariants as ask
use Rattle.eden_model.specs.Repository.{source_of, content_with}
use Rattle.eden_overlay.specs.Held.{own_files}
use Rattle.eden_inode.specs.declared.seen.Seen.{Seen}
use Rattle.eden_ops.specs.Attempts.{Meets, MeetsShown}
use Rattle.eden_ops.proofs.Answering.{walk_ended, says_absent, says_here}
use Rattle.eden_ops.proofs.Looking.{asks_kind, tells_kind, kind_node}
use Rattle.eden_ops.proofs.requests.kind.kind.Goals as goal

pub returns-in-Err-clause-attempts : goal.returns-in-Err-clause-attempts
returns-in-Err-clause-attempts g c =
    let e = c.in-Err.ensures in
    walk_ended g.W.World g.F.Files (ask.Kind c.args.path.now) c.args.path.now tells_kind
    (asks_kind c.args.path.now) c.args.inodes.now c.meet.new.inodes c.args.cache.now c.meet.new.cache
    e.same e.keeps e.cache c.in-Err.stop _ c.ended.ensures e.meets e.shown

pub returns-in-Ok-None-clause-attempts : goal.returns-in-Ok-None-clause-attempts
returns-in-Ok-None-clause-attempts g c =
    let e = c.in-Ok-None.ensures in
    says_absent g.W.World g.F.Files (ask.Kind c.args.path.now) c.args.path.now tells_kind c.args.inodes.now c.meet.new.inodes c.args.cache.now c.meet.new.cache _
    c.in-Ok-None.field-0-is e.same e.keeps e.cache e.shown (asks_kind c.args.path.now)

pub returns-in-Ok-Some-clause-attempts : goal.returns-in-Ok-Some-clause-attempts
returns-in-Ok-Some-clause-attempts g c =
    let p = c.args.path.now in
    let s = c.args.inodes.now in
    let t = c.meet.new.inodes in
    let e = c.in-Ok-Some.ensures in
    let seen = subst (λ (o : Option Seen). Meets g.W.World g.F.Files p s t c.meet.new.cache (Ok o)) c.in-Ok-Some.field-0-is e.meets in
    says_here g.W.World g.F.Files (ask.Kind p) p tells_kind (asks_kind p) s t c.args.cache.now c.meet.new.cache e.same e.keeps e.cache seen.row seen.there
    (λ h. subst (λ (o : Option Seen). MeetsShown g.W.World g.F.Files p s t (Ok o)) c.in-Ok-Some.field-0-is (e.shown h)) (say.Kind c.in-Ok-Some.seen.kind) refl (λ G. refl)
    (λ h listed. ap say.Kind (seen.kind ∙ sym (kind_node seen.row.kind (content_with g.W.World.repository (own_files (g.F.Files.stored t.files)) (source_of seen.row.number seen.row.origin)) listed)))
