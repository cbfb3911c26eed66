use Rattle.std.proofs.Common.{◌≡◌, ◌==◌, ℕ, false, Some, sym, refl, subst, ap, ◌∙◌, []}
use Rattle.std.proofs.lemmas.Bool.{le-ltb, ne_eqb}
use Rattle.eden_model.specs.declared.reply.Reply.TheVariants as say
use Rattle.eden_model.specs.declared.request.Request.TheVariants as ask
use Rattle.eden_model.specs.Operations.{Reads}
use Rattle.eden_model.specs.Repository.{source_of, content_with}
use Rattle.eden_model.specs.Shown.{node_from}
use Rattle.eden_overlay.specs.Held.{own_files}
use Rattle.eden_model.specs.declared.attempt.Attempt.{Attempt}
use Rattle.eden_ops.specs.Attempts.{Attempts, shown_node}
use Rattle.eden_ops.specs.Keeping.{same}
use Rattle.eden_ops.specs.Requests.{for_read}
use Rattle.eden_ops.proofs.Fetching.{has_content}
use Rattle.eden_ops.proofs.Filing.{file_tells, file_lacks}
use Rattle.eden_ops.proofs.Looking.{IsPlain, not_more, reads, asks_read, plain_other, reads_none, reads_some, reads_lost}
use Rattle.eden_ops.proofs.Stamps.{walked_on}
use Rattle.eden_ops.proofs.Steps.{keeps_on}
use Rattle.eden_ops.proofs.Telling.{content_tells}
use Rattle.eden_inode.specs.Trails.{Leads}
use Rattle.eden_tree.specs.Directory.{Row}
use Rattle.eden_ops.proofs.requests.read.read.Goals as goal

pub returns-then-count-gt-MAX_DATA-clause-keeps : goal.returns-then-count-gt-MAX_DATA-clause-keeps
returns-then-count-gt-MAX_DATA-clause-keeps g c = same

pub returns-in-Err-clause-attempts : goal.returns-in-Err-clause-attempts
returns-in-Err-clause-attempts g c =
    subst (λ (a : Attempt). Attempts g.W.World g.F.Files (ask.Read c.args.path.now c.args.offset c.args.count) c.args.inodes.now c.meet_file.new.inodes c.args.cache.now c.meet_file.new.cache a)
    (sym c.ended.ensures)
    (c.in-Err.ensures.ends (ask.Read c.args.path.now c.args.offset c.args.count) (for_read c.args.offset c.args.count c.if-count-gt-MAX_DATA.false))

pub returns-then-count-eq0-clause-attempts : goal.returns-then-count-eq0-clause-attempts
returns-then-count-eq0-clause-attempts g c =
    let e = c.in-Ok.ensures in
    let none : c.new-then-count-eq0.result ≡ [] = c.new-then-count-eq0.ensures ∙ c.new.ensures.items in
    file_tells g.W.World g.F.Files c.args.path.now c.args.inodes.now c.meet_file.new.inodes c.args.cache.now c.meet_file.new.cache c.in-Ok.seen e.file e.shown e.same e.cache
    (ask.Read c.args.path.now c.args.offset c.args.count) e.keeps (reads c.args.offset c.args.count)
    (asks_read c.args.path.now c.args.offset c.args.count (le-ltb 65536 c.args.count c.if-count-gt-MAX_DATA.false)) (say.Data c.new-then-count-eq0.result) refl (λ T. refl)
    (λ k a l plain. subst (λ b. Reads c.args.offset c.args.count (node_from k a l) (say.Data b)) (sym none)
    (reads_none c.args.offset c.args.count k a l plain (ap (λ (n : ℕ). n == 0) c.if-count-eq0.true)))

pub part-requires : goal.part-requires
part-requires g c =
    let file = c.in-Ok.ensures.file in
    has_content c.args.path.now c.meet_file.new.inodes.root c.in-Ok.seen file.entry c.meet_file.new.inodes.root refl (plain_other c.in-Ok.seen.kind file.plain)

pub returns-in-Err-part-clause-attempts : goal.returns-in-Err-part-clause-attempts
returns-in-Err-part-clause-attempts g c =
    let e = c.in-Ok.ensures in
    let b = c.part.ensures in
    subst (λ (a : Attempt). Attempts g.W.World g.F.Files (ask.Read c.args.path.now c.args.offset c.args.count) c.args.inodes.now c.part.new.inodes c.args.cache.now c.part.new.cache a)
    (sym c.ended-in-Err-part.ensures)
    (file_lacks g.W.World g.F.Files c.args.path.now c.args.inodes.now c.meet_file.new.inodes c.args.cache.now c.meet_file.new.cache c.in-Ok.seen e.file e.shown e.same e.cache
    (ask.Read c.args.path.now c.args.offset c.args.count) e.keeps (reads c.args.offset c.args.count)
    (asks_read c.args.path.now c.args.offset c.args.count (le-ltb 65536 c.args.count c.if-count-gt-MAX_DATA.false)) c.part.new.inodes c.part.new.cache b.same b.keeps b.still b.cache (λ x is. cc)
    (λ k x is. cc) c.in-Err-part.stop
    (λ k a r plain none. reads_lost c.args.offset c.args.count k a false r plain (ne_eqb c.args.count 0 c.if-count-eq0.false) none) c.in-Err-part.ensures.lacks)

pub returns-in-Ok-part-clause-attempts : goal.returns-in-Ok-part-clause-attempts
returns-in-Ok-part-clause-attempts g c =
    let e = c.in-Ok.ensures in
    let b = c.part.ensures in
    let had = c.in-Ok-part.ensures.ok in
    let R = g.W.World.repository in
    let F = g.F.Files.stored c.meet_file.new.inodes.files in
    content_tells g.W.World g.F.Files c.args.path.now c.args.inodes.now c.meet_file.new.inodes c.meet_file.new.cache (Some c.in-Ok.seen) c.in-Ok.seen refl e.file.entry
    (ask.Read c.args.path.now c.args.offset c.args.count) (reads c.args.offset c.args.count)
    (asks_read c.args.path.now c.args.offset c.args.count (le-ltb 65536 c.args.count c.if-count-gt-MAX_DATA.false)) c.args.cache.now e.same e.keeps e.cache e.shown c.part.new.inodes c.part.new.cache
    b.same b.keeps b.still b.cache (say.Data c.in-Ok-part.bytes) refl (λ T. refl)
    (λ h y at l is. let told = had h y at in
    subst (λ a. Reads c.args.offset c.args.count (shown_node R F y l) (say.Data a)) (sym told.1.1.1)
    (reads_some c.args.offset c.args.count y.kind (content_with R (own_files F) (source_of y.number y.origin)) l told.0 (subst IsPlain (sym is) e.file.plain)
    (ne_eqb c.args.count 0 c.if-count-eq0.false) told.1.0))

pub returns-in-Err-part-clause-keeps : goal.returns-in-Err-part-clause-keeps
returns-in-Err-part-clause-keeps g c = keeps_on g.W.World g.F.Files c.args.inodes.now c.meet_file.new.inodes c.part.new.inodes c.meet_file.ensures.keeps c.part.ensures.keeps

pub returns-in-Ok-part-clause-keeps : goal.returns-in-Ok-part-clause-keeps
returns-in-Ok-part-clause-keeps g c = keeps_on g.W.World g.F.Files c.args.inodes.now c.meet_file.new.inodes c.part.new.inodes c.meet_file.ensures.keeps c.part.ensures.keeps

pub returns-in-Err-clause-refused : goal.returns-in-Err-clause-refused
returns-in-Err-clause-refused g c beyond = absurd (not_more c.args.count 65536 c.if-count-gt-MAX_DATA.false beyond)

pub returns-then-count-eq0-clause-refused : goal.returns-then-count-eq0-clause-refused
returns-then-count-eq0-clause-refused g c beyond = absurd (not_more c.args.count 65536 c.if-count-gt-MAX_DATA.false beyond)

pub returns-in-Err-part-clause-refused : goal.returns-in-Err-part-clause-refused
returns-in-Err-part-clause-refused g c beyond = absurd (not_more c.args.count 65536 c.if-count-gt-MAX_DATA.false beyond)

pub returns-in-Ok-part-clause-refused : goal.returns-in-Ok-part-clause-refused
returns-in-Ok-part-clause-refused g c beyond = absurd (not_more c.args.count 65536 c.if-count-gt-MAX_DATA.false beyond)

pub returns-in-Err-part-clause-walked : goal.returns-in-Err-part-clause-walked
returns-in-Err-part-clause-walked g c within = walked_on g.W.World g.F.Files c.args.path.now c.meet_file.new.inodes c.part.new.inodes c.meet_file.ensures.walked c.part.ensures.keeps

pub returns-in-Ok-part-clause-walked : goal.returns-in-Ok-part-clause-walked
returns-in-Ok-part-clause-walked g c within = walked_on g.W.World g.F.Files c.args.path.now c.meet_file.new.inodes c.part.new.inodes c.meet_file.ensures.walked c.part.ensures.keeps

pub returns-then-count-gt-MAX_DATA-clause-walked : goal.returns-then-count-gt-MAX_DATA-clause-walked
returns-then-count-gt-MAX_DATA-clause-walked g c within = absurd (within c.if-count-gt-MAX_DATA.true)

pub returns-in-Err-part-clause-leads : goal.returns-in-Err-part-clause-leads
returns-in-Err-part-clause-leads g c k is = subst (λ (x : Row). Leads c.args.path.now c.meet_file.new.trail.positions x) (sym c.part.ensures.still) c.meet_file.ensures.leads
