use Rattle.std.proofs.Common.{◌≡◌, true, sym, refl, subst, ap, ◌∙◌}
use Rattle.std.proofs.lemmas.Bool.{le-ltb, ne_eqb}
use Rattle.eden_model.specs.declared.errno.Errno.TheVariants.{ENOTDIR}
use Rattle.eden_model.specs.declared.fault.Fault.TheVariants as fault
use Rattle.eden_model.specs.declared.reply.Reply.TheVariants as say
use Rattle.eden_model.specs.declared.request.Request.TheVariants as ask
use Rattle.eden_model.specs.Histories.{fault_of}
use Rattle.eden_model.specs.Operations.{after, IsListing, ListsSome}
use Rattle.eden_model.specs.Trees.{Tree, Here, reach}
use Rattle.eden_model.specs.declared.node.Node.TheVariants.{Dir}
use Rattle.eden_model.specs.declared.attempt.Attempt.{Attempt}
use Rattle.eden_inode.specs.Tables.{shows}
use Rattle.eden_ops.specs.Attempts.{Attempts}
use Rattle.eden_ops.specs.Keeping.{same}
use Rattle.eden_ops.specs.Known.{known}
use Rattle.eden_ops.proofs.Answering.{walk_ended, says_absent, faulted, replied}
use Rattle.eden_ops.proofs.Finding.{finds_on}
use Rattle.eden_ops.proofs.Listed.{page_told}
use Rattle.eden_ops.proofs.Telling.{met_tells, content_lacks, away_dir}
use Rattle.eden_ops.proofs.Looking.{no_dir, some_at_most, lists, asks_list, lists_other, lists_away}
use Rattle.eden_ops.proofs.Stamps.{walked_on}
use Rattle.eden_ops.proofs.Steps.{keeps_on}
use Rattle.eden_inode.specs.Trails.{Leads}
use Rattle.eden_tree.specs.Directory.{Row}
use Rattle.eden_ops.proofs.requests.list.list.Goals as goal

pub returns-then-limit-eq0-clause-keeps : goal.returns-then-limit-eq0-clause-keeps
returns-then-limit-eq0-clause-keeps g c = same

pub returns-in-Err-clause-attempts : goal.returns-in-Err-clause-attempts
returns-in-Err-clause-attempts g c =
    let e = c.in-Err.ensures in
    walk_ended g.W.World g.F.Files (ask.List c.args.path.now c.args.after.now c.args.limit) c.args.path.now (lists c.args.path.now c.args.after.now c.args.limit)
    (asks_list c.args.path.now c.args.after.now c.args.limit (ne_eqb c.args.limit 0 c.if-limit-eq0.false) (le-ltb 1000 c.args.limit c.if-limit-gt-MAX_ENTRIES.false)) c.args.inodes.now
    c.meet.new.inodes c.args.cache.now c.meet.new.cache
    e.same e.keeps e.cache c.in-Err.stop _ c.ended.ensures e.meets e.shown

pub returns-in-Ok-None-clause-attempts : goal.returns-in-Ok-None-clause-attempts
returns-in-Ok-None-clause-attempts g c =
    let e = c.in-Ok-None.ensures in
    says_absent g.W.World g.F.Files (ask.List c.args.path.now c.args.after.now c.args.limit) c.args.path.now (lists c.args.path.now c.args.after.now c.args.limit) c.args.inodes.now
    c.meet.new.inodes c.args.cache.now c.meet.new.cache _
    c.in-Ok-None.field-0-is e.same e.keeps e.cache e.shown (asks_list c.args.path.now c.args.after.now c.args.limit (ne_eqb c.args.limit 0 c.if-limit-eq0.false)
    (le-ltb 1000 c.args.limit c.if-limit-gt-MAX_ENTRIES.false))

pub returns-in-File : goal.returns-in-File
returns-in-File g c =
    let e = c.in-Ok-Some.ensures in
    let other = c.what.ensures.other (no_dir c.what.result c.in-File.is) in
    record {
      attempts = met_tells g.W.World g.F.Files c.args.path.now c.args.inodes.now c.meet.new.inodes c.meet.new.cache _ c.in-Ok-Some.seen c.in-Ok-Some.field-0-is e.meets
          (ask.List c.args.path.now c.args.after.now c.args.limit) (lists c.args.path.now c.args.after.now c.args.limit)
          (asks_list c.args.path.now c.args.after.now c.args.limit (ne_eqb c.args.limit 0 c.if-limit-eq0.false) (le-ltb 1000 c.args.limit c.if-limit-gt-MAX_ENTRIES.false)) c.args.cache.now e.same
          e.keeps e.cache e.shown (say.Err ENOTDIR) refl (λ T. refl)
          (λ k a listed is on. lists_other (ListsSome (shows g.W.World g.F.Files c.args.inodes.now) c.args.path.now c.args.after.now c.args.limit) k a listed
          (λ dir. no_dir c.what.result c.in-File.is (sym other.1 ∙ sym is ∙ dir)));
      keeps = e.keeps;
      refused = λ beyond. absurd (some_at_most c.args.limit 1000 c.if-limit-eq0.false c.if-limit-gt-MAX_ENTRIES.false beyond);
      walked = λ within. c.meet.ensures.walked;
      counts = c.meet.ensures.counts;
      leads = λ k is. c.meet.ensures.leads;
    }

pub returns-in-Err-bring_seen-clause-attempts : goal.returns-in-Err-bring_seen-clause-attempts
returns-in-Err-bring_seen-clause-attempts g c =
    let p = c.args.path.now in
    let e = c.in-Ok-Some.ensures in
    let z = c.in-Err-bring_seen.ensures in
    subst (λ (a : Attempt). Attempts g.W.World g.F.Files (ask.List p c.args.after.now c.args.limit) c.args.inodes.now c.bring_seen.new.inodes c.args.cache.now c.bring_seen.new.cache a)
    (sym c.ended-in-Err-bring_seen.ensures)
    (content_lacks g.W.World g.F.Files p c.args.inodes.now c.meet.new.inodes c.meet.new.cache _ c.in-Ok-Some.seen c.in-Ok-Some.field-0-is e.meets (ask.List p c.args.after.now c.args.limit)
    (lists p c.args.after.now c.args.limit)
    (asks_list p c.args.after.now c.args.limit (ne_eqb c.args.limit 0 c.if-limit-eq0.false) (le-ltb 1000 c.args.limit c.if-limit-gt-MAX_ENTRIES.false)) c.args.cache.now
    e.same e.keeps e.cache e.shown c.bring_seen.new.inodes c.bring_seen.new.cache c.bring_seen.ensures.same c.bring_seen.ensures.keeps z.still c.bring_seen.ensures.cache z.away (λ x is. cc)
    c.in-Err-bring_seen.stop
    (λ k a r is none. lists_away (ListsSome (known c.bring_seen.new.inodes.root) p c.args.after.now c.args.limit) k a r (away_dir k c.in-Ok-Some.seen is z.away (c.what.ensures.dir c.in-Dir.is)))
    (λ k is x y. cc) z.lacks)

pub returns-in-Err-bring_seen-clause-keeps : goal.returns-in-Err-bring_seen-clause-keeps
returns-in-Err-bring_seen-clause-keeps g c = keeps_on g.W.World g.F.Files c.args.inodes.now c.meet.new.inodes c.bring_seen.new.inodes c.meet.ensures.keeps c.bring_seen.ensures.keeps

pub returns-in-Err-page_at-clause-attempts : goal.returns-in-Err-page_at-clause-attempts
returns-in-Err-page_at-clause-attempts g c =
    let p = c.args.path.now in
    let u = c.bring_seen.new.inodes in
    let e = c.in-Ok-Some.ensures in
    let b = c.bring_seen.ensures in
    faulted g.W.World g.F.Files (ask.List p c.args.after.now c.args.limit) p (lists p c.args.after.now c.args.limit)
    (asks_list p c.args.after.now c.args.limit (ne_eqb c.args.limit 0 c.if-limit-eq0.false) (le-ltb 1000 c.args.limit c.if-limit-gt-MAX_ENTRIES.false)) c.args.inodes.now u c.args.cache.now
    c.bring_seen.new.cache
    (λ h. b.same h ∙ e.same h) (keeps_on g.W.World g.F.Files c.args.inodes.now c.meet.new.inodes u e.keeps b.keeps)
    (finds_on c.args.cache.now c.meet.new.cache c.bring_seen.new.cache e.cache b.cache) fault.Memory (λ x is. cc)

pub returns-in-Err-page_at-clause-keeps : goal.returns-in-Err-page_at-clause-keeps
returns-in-Err-page_at-clause-keeps g c = keeps_on g.W.World g.F.Files c.args.inodes.now c.meet.new.inodes c.bring_seen.new.inodes c.meet.ensures.keeps c.bring_seen.ensures.keeps

pub returns-in-Ok-clause-attempts : goal.returns-in-Ok-clause-attempts
returns-in-Ok-clause-attempts g c =
    let p = c.args.path.now in
    let u = c.bring_seen.new.inodes in
    let e = c.in-Ok-Some.ensures in
    let b = c.bring_seen.ensures in
    let had = c.in-Ok.ensures in
    let alike : g.W.World.honest → shows g.W.World g.F.Files u ≡ shows g.W.World g.F.Files c.args.inodes.now = λ h. b.same h ∙ e.same h in
    replied g.W.World g.F.Files (ask.List p c.args.after.now c.args.limit) p (lists p c.args.after.now c.args.limit)
    (asks_list p c.args.after.now c.args.limit (ne_eqb c.args.limit 0 c.if-limit-eq0.false) (le-ltb 1000 c.args.limit c.if-limit-gt-MAX_ENTRIES.false)) c.args.inodes.now u c.args.cache.now
    c.bring_seen.new.cache
    alike (keeps_on g.W.World g.F.Files c.args.inodes.now c.meet.new.inodes u e.keeps b.keeps)
    (finds_on c.args.cache.now c.meet.new.cache c.bring_seen.new.cache e.cache b.cache) c.in-Ok.reply (ap fault_of had.is)
    (λ T. ap (after T (ask.List c.args.path.now c.args.after.now c.args.limit)) had.is)
    (λ h. page_told (shows g.W.World g.F.Files c.args.inodes.now) p c.args.after.now c.args.limit c.in-Ok.reply had.all had.is (subst (λ (G : Tree). IsListing G p had.all) (alike h) (had.listing h))
    (subst (λ (G : Tree). reach G p ≡ Here (Dir true)) (alike h) (had.here h)))

pub returns-in-Ok-clause-keeps : goal.returns-in-Ok-clause-keeps
returns-in-Ok-clause-keeps g c = keeps_on g.W.World g.F.Files c.args.inodes.now c.meet.new.inodes c.bring_seen.new.inodes c.meet.ensures.keeps c.bring_seen.ensures.keeps

pub returns-in-Err-clause-refused : goal.returns-in-Err-clause-refused
returns-in-Err-clause-refused g c beyond = absurd (some_at_most c.args.limit 1000 c.if-limit-eq0.false c.if-limit-gt-MAX_ENTRIES.false beyond)

pub returns-in-Ok-None-clause-refused : goal.returns-in-Ok-None-clause-refused
returns-in-Ok-None-clause-refused g c beyond = absurd (some_at_most c.args.limit 1000 c.if-limit-eq0.false c.if-limit-gt-MAX_ENTRIES.false beyond)

pub returns-in-Err-bring_seen-clause-refused : goal.returns-in-Err-bring_seen-clause-refused
returns-in-Err-bring_seen-clause-refused g c beyond = absurd (some_at_most c.args.limit 1000 c.if-limit-eq0.false c.if-limit-gt-MAX_ENTRIES.false beyond)

pub returns-in-Err-page_at-clause-refused : goal.returns-in-Err-page_at-clause-refused
returns-in-Err-page_at-clause-refused g c beyond = absurd (some_at_most c.args.limit 1000 c.if-limit-eq0.false c.if-limit-gt-MAX_ENTRIES.false beyond)

pub returns-in-Ok-clause-refused : goal.returns-in-Ok-clause-refused
returns-in-Ok-clause-refused g c beyond = absurd (some_at_most c.args.limit 1000 c.if-limit-eq0.false c.if-limit-gt-MAX_ENTRIES.false beyond)

pub returns-in-Err-bring_seen-clause-walked : goal.returns-in-Err-bring_seen-clause-walked
returns-in-Err-bring_seen-clause-walked g c within = walked_on g.W.World g.F.Files c.args.path.now c.meet.new.inodes c.bring_seen.new.inodes c.meet.ensures.walked c.bring_seen.ensures.keeps

pub returns-in-Err-page_at-clause-walked : goal.returns-in-Err-page_at-clause-walked
returns-in-Err-page_at-clause-walked g c within = walked_on g.W.World g.F.Files c.args.path.now c.meet.new.inodes c.bring_seen.new.inodes c.meet.ensures.walked c.bring_seen.ensures.keeps

pub returns-in-Ok-clause-walked : goal.returns-in-Ok-clause-walked
returns-in-Ok-clause-walked g c within = walked_on g.W.World g.F.Files c.args.path.now c.meet.new.inodes c.bring_seen.new.inodes c.meet.ensures.walked c.bring_seen.ensures.keeps

pub returns-in-Err-bring_seen-clause-leads : goal.returns-in-Err-bring_seen-clause-leads
returns-in-Err-bring_seen-clause-leads g c k is = subst (λ (x : Row). Leads c.args.path.now c.meet.new.trail.positions x) (sym c.in-Err-bring_seen.ensures.still) c.meet.ensures.leads
