use Rattle.std.proofs.Common.{◌++◌, ◌∷◌, le_trans, ◌≡◌, true, None, sym, refl, subst, ap, ◌∙◌}
use Rattle.eden_model.specs.declared.errno.Errno.TheVariants.{EBUSY, ENOTDIR, ENOTEMPTY}
use Rattle.eden_model.specs.declared.node.Node.TheVariants.{Dir}
use Rattle.eden_model.specs.declared.reply.Reply.TheVariants as say
use Rattle.eden_model.specs.declared.request.Request.TheVariants as ask
use Rattle.eden_model.specs.Operations.{IfEmpty}
use Rattle.eden_model.specs.Trees.{Tree, Path, reach, graft}
use Rattle.eden_tree.specs.Directory.{Row}
use Rattle.eden_tree.specs.Paths.{row_at}
use Rattle.eden_coupling.specs.Changing.{changed as changed_listing}
use Rattle.eden_coupling.specs.Chains.{StaysLoaded}
use Rattle.eden_coupling.specs.Saving.{IsSavedAbove}
use Rattle.eden_coupling.proofs.CallerLemmas.{map_some}
use Rattle.eden_model.specs.declared.attempt.Attempt.{Attempt}
use Rattle.eden_model.specs.declared.attempt.Attempt.TheVariants.{Finished}
use Rattle.eden_inode.specs.Tables.{shows}
use Rattle.eden_ops.specs.Attempts.{Attempts}
use Rattle.eden_ops.specs.Changes.{SameNames}
use Rattle.eden_ops.specs.Keeping.{same}
use Rattle.eden_ops.specs.Known.{known_node, known}
use Rattle.eden_ops.specs.Letting.{LetsGo}
use Rattle.eden_ops.specs.Listings.{HasNoEntries, HasEntries}
use Rattle.eden_ops.proofs.Answering.{walk_ended, says_absent, replied}
use Rattle.eden_ops.proofs.Changing.{not_root, has_entry, put_alone, changed, refused, removes, asks_rmdir, removes_empty, removes_full}
use Rattle.eden_ops.proofs.Finding.{finds_on}
use Rattle.eden_ops.proofs.Going.{stays_there}
use Rattle.eden_ops.proofs.Leaving.{leaves_kept, leaves_gone, leaves_removed}
use Rattle.eden_ops.proofs.Looking.{no_dir, lists_other, lists_away}
use Rattle.eden_ops.proofs.Relocation.{above_loaded}
use Rattle.eden_ops.proofs.Roots.{root_same, root_chained}
use Rattle.eden_ops.proofs.Saving.{leaves_by, fault_count, no_less}
use Rattle.eden_ops.proofs.Steps.{keeps_on, keeps_counts}
use Rattle.eden_ops.proofs.Settled.{row_still, settles_leaves, leaves_then, saved_on}
use Rattle.eden_ops.proofs.Telling.{met_tells, content_lacks, away_dir}
use Rattle.eden_ops.proofs.Stamped.{stamps_on, stamps_same, alike_stamps, left_stamps, chained_stamps, stamps_refused, stamps_then, stamps_kept}
use Rattle.eden_ops.proofs.Stamps.{walked_on}
use Rattle.eden_inode.specs.Trails.{Leads}
use Rattle.eden_ops.proofs.Renumbering.{edits_ended, edits_gone, edits_kept, edits_same, next_no_less, none_numbered}
use Rattle.eden_ops.proofs.Seeing.{kept_dirs}
use Rattle.eden_materialise.specs.Renumbering.{TakesNumbers}
use Rattle.eden_inode.proofs.CallerLemmas.{places_rise}
use Rattle.eden_ops.proofs.requests.rmdir.rmdir.Goals as goal

-- ---- the walk ends before, or nothing is there

pub returns-in-Err-clause-attempts : goal.returns-in-Err-clause-attempts
returns-in-Err-clause-attempts g c =
    let e = c.in-Err.ensures in
    walk_ended g.W.World g.F.Files (ask.Rmdir c.args.path.now) c.args.path.now (removes c.args.path.now)
    (asks_rmdir c.args.path.now (not_root c.args.path.now c.in-Some.above.now c.in-Some.name.now (sym c.as_slice.ensures ∙ c.in-Some.ensures.cases.0))) c.args.inodes.now c.meet.new.inodes
    c.args.cache.now c.meet.new.cache
    e.same e.keeps e.cache c.in-Err.stop _ c.ended.ensures e.meets e.shown

pub returns-in-Err-clause-leaves : goal.returns-in-Err-clause-leaves
returns-in-Err-clause-leaves g c = leaves_kept g.W.World g.F.Files (ask.Rmdir c.args.path.now) c.args.inodes.now c.meet.new.inodes c.meet.ensures.keeps _

pub returns-in-Ok-None-clause-attempts : goal.returns-in-Ok-None-clause-attempts
returns-in-Ok-None-clause-attempts g c =
    let e = c.in-Ok-None.ensures in
    says_absent g.W.World g.F.Files (ask.Rmdir c.args.path.now) c.args.path.now (removes c.args.path.now) c.args.inodes.now c.meet.new.inodes c.args.cache.now c.meet.new.cache _
    c.in-Ok-None.field-0-is e.same e.keeps e.cache e.shown (asks_rmdir c.args.path.now
    (not_root c.args.path.now c.in-Some.above.now c.in-Some.name.now (sym c.as_slice.ensures ∙ c.in-Some.ensures.cases.0)))

pub returns-in-Ok-None-clause-leaves : goal.returns-in-Ok-None-clause-leaves
returns-in-Ok-None-clause-leaves g c = leaves_kept g.W.World g.F.Files (ask.Rmdir c.args.path.now) c.args.inodes.now c.meet.new.inodes c.meet.ensures.keeps _

-- ---- what is there is no directory, or isn't loaded

pub returns-in-File : goal.returns-in-File
returns-in-File g c =
    let p = c.args.path.now in
    let s = c.args.inodes.now in
    let t = c.meet.new.inodes in
    let e = c.in-Ok-Some.ensures in
    let split = sym c.as_slice.ensures ∙ c.in-Some.ensures.cases.0 in
    let other = c.what.ensures.other (no_dir c.what.result c.in-File.is) in
    record {
      attempts = met_tells g.W.World g.F.Files p s t c.meet.new.cache _ c.in-Ok-Some.seen c.in-Ok-Some.field-0-is e.meets (ask.Rmdir p) (removes p)
          (asks_rmdir p (not_root p c.in-Some.above.now c.in-Some.name.now split)) c.args.cache.now e.same e.keeps e.cache e.shown (say.Err ENOTDIR) refl (λ T. refl)
          (λ k a listed is on. lists_other (IfEmpty (shows g.W.World g.F.Files s) p) k a listed (λ dir. no_dir c.what.result c.in-File.is (sym other.1 ∙ sym is ∙ dir)));
      leaves = leaves_kept g.W.World g.F.Files (ask.Rmdir p) s t e.keeps _;
      edits = edits_kept g.W.World g.F.Files (ask.Rmdir p) s t e.keeps _ (λ M. refl);
      stamps = stamps_kept g.W.World g.F.Files (ask.Rmdir p) s t e.keeps (e.walked, tt) _;
      counts = e.counts;
      leads = λ k is. e.leads;
    }

pub returns-in-Err-bring_seen-clause-attempts : goal.returns-in-Err-bring_seen-clause-attempts
returns-in-Err-bring_seen-clause-attempts g c =
    let p = c.args.path.now in
    let e = c.in-Ok-Some.ensures in
    let z = c.in-Err-bring_seen.ensures in
    subst (λ (a : Attempt). Attempts g.W.World g.F.Files (ask.Rmdir p) c.args.inodes.now c.bring_seen.new.inodes c.args.cache.now c.bring_seen.new.cache a) (sym c.ended-in-Err-bring_seen.ensures)
    (content_lacks g.W.World g.F.Files p c.args.inodes.now c.meet.new.inodes c.meet.new.cache _ c.in-Ok-Some.seen c.in-Ok-Some.field-0-is e.meets (ask.Rmdir p) (removes p)
    (asks_rmdir p (not_root p c.in-Some.above.now c.in-Some.name.now (sym c.as_slice.ensures ∙ c.in-Some.ensures.cases.0))) c.args.cache.now
    e.same e.keeps e.cache e.shown c.bring_seen.new.inodes c.bring_seen.new.cache c.bring_seen.ensures.same c.bring_seen.ensures.keeps z.still c.bring_seen.ensures.cache z.away (λ x is. cc)
    c.in-Err-bring_seen.stop
    (λ k a r is none. lists_away (IfEmpty (known c.bring_seen.new.inodes.root) p) k a r (away_dir k c.in-Ok-Some.seen is z.away (c.what.ensures.dir c.in-Dir.is))) (λ k is x y. cc) z.lacks)

pub returns-in-Err-bring_seen-clause-leaves : goal.returns-in-Err-bring_seen-clause-leaves
returns-in-Err-bring_seen-clause-leaves g c =
    leaves_kept g.W.World g.F.Files (ask.Rmdir c.args.path.now) c.args.inodes.now c.bring_seen.new.inodes (keeps_on g.W.World g.F.Files c.args.inodes.now c.meet.new.inodes c.bring_seen.new.inodes
    c.meet.ensures.keeps c.bring_seen.ensures.keeps) _

-- ---- it has entries

pub returns-then-not-is_empty-clause-attempts : goal.returns-then-not-is_empty-clause-attempts
returns-then-not-is_empty-clause-attempts g c =
    let p = c.args.path.now in
    let u = c.bring_seen.new.inodes in
    let e = c.in-Ok-Some.ensures in
    let b = c.bring_seen.ensures in
    let split = sym c.as_slice.ensures ∙ c.in-Some.ensures.cases.0 in
    let alike : g.W.World.honest → shows g.W.World g.F.Files u ≡ shows g.W.World g.F.Files c.args.inodes.now = λ h. b.same h ∙ e.same h in
    replied g.W.World g.F.Files (ask.Rmdir p) p (removes p) (asks_rmdir p (not_root p c.in-Some.above.now c.in-Some.name.now split)) c.args.inodes.now u c.args.cache.now c.bring_seen.new.cache alike
    (keeps_on g.W.World g.F.Files c.args.inodes.now c.meet.new.inodes u e.keeps b.keeps)
    (finds_on c.args.cache.now c.meet.new.cache c.bring_seen.new.cache e.cache b.cache) (say.Err ENOTEMPTY) refl (λ T. refl)
    (λ h. removes_full (shows g.W.World g.F.Files c.args.inodes.now) p (sym (ap (λ (G : Tree). reach G p) (alike h)) ∙ c.is_empty.ensures.here h)
    (subst (λ (G : Tree). HasEntries G p) (alike h) (c.if-not-is_empty.ensures.entries h)))

pub returns-then-not-is_empty-clause-leaves : goal.returns-then-not-is_empty-clause-leaves
returns-then-not-is_empty-clause-leaves g c =
    leaves_kept g.W.World g.F.Files (ask.Rmdir c.args.path.now) c.args.inodes.now c.bring_seen.new.inodes (keeps_on g.W.World g.F.Files c.args.inodes.now c.meet.new.inodes c.bring_seen.new.inodes
    c.meet.ensures.keeps c.bring_seen.ensures.keeps) _

-- ---- it is let go of

pub returns-in-Err-let_go-clause-attempts : goal.returns-in-Err-let_go-clause-attempts
returns-in-Err-let_go-clause-attempts g c =
    let s = c.args.inodes.now in
    let t = c.meet.new.inodes in
    let u = c.bring_seen.new.inodes in
    let e = c.in-Ok-Some.ensures in
    let b = c.bring_seen.ensures in
    let kept = keeps_on g.W.World g.F.Files s t u e.keeps b.keeps in
    refused g.W.World g.F.Files (ask.Rmdir c.args.path.now) s u c.let_go.new.inodes c.args.cache.now c.bring_seen.new.cache (λ h. b.same h ∙ e.same h)
    (keeps_counts g.W.World g.F.Files _ s u kept).1.1.1
    (finds_on c.args.cache.now c.meet.new.cache c.bring_seen.new.cache e.cache b.cache) c.in-Err-let_go.fault c.in-Err-let_go.ensures.fault (λ y is. cc) c.let_go.ensures.same

pub returns-in-Err-let_go-clause-leaves : goal.returns-in-Err-let_go-clause-leaves
returns-in-Err-let_go-clause-leaves g c =
    let p = c.args.path.now in
    let s = c.args.inodes.now in
    let u = c.bring_seen.new.inodes in
    let v = c.let_go.new.inodes in
    let goes = subst (λ (q : Path). LetsGo q u.root v.root) c.as_slice-2.ensures c.let_go.ensures.goes in
    leaves_gone g.W.World g.F.Files p s u v (keeps_on g.W.World g.F.Files s c.meet.new.inodes u c.meet.ensures.keeps c.bring_seen.ensures.keeps) goes
    c.let_go.ensures.rest c.let_go.ensures.counted c.let_go.ensures.places
    (Finished (say.Fault c.in-Err-let_go.fault)) (λ e is. cc) (c.in-Err-let_go.fault, refl)

-- ---- it is removed

pub returns-in-Err-settle-clause-attempts : goal.returns-in-Err-settle-clause-attempts
returns-in-Err-settle-clause-attempts g c =
    let s = c.args.inodes.now in
    let t = c.meet.new.inodes in
    let u = c.bring_seen.new.inodes in
    let e = c.in-Ok-Some.ensures in
    let b = c.bring_seen.ensures in
    let x = c.in-Err-settle.ensures.settles.readies in
    let counts = (keeps_counts g.W.World g.F.Files _ s u (keeps_on g.W.World g.F.Files s t u e.keeps b.keeps)).1.1.1 in
    refused g.W.World g.F.Files (ask.Rmdir c.args.path.now) s c.let_go.new.inodes c.settle.new.inodes c.args.cache.now c.bring_seen.new.cache (λ h. c.let_go.ensures.same h ∙ b.same h ∙ e.same h)
    (le_trans counts c.let_go.ensures.counted)
    (finds_on c.args.cache.now c.meet.new.cache c.bring_seen.new.cache e.cache b.cache) c.in-Err-settle.fault x.fault (λ y is. cc) x.shown

pub returns-in-Err-settle-clause-leaves : goal.returns-in-Err-settle-clause-leaves
returns-in-Err-settle-clause-leaves g c =
    let s = c.args.inodes.now in
    let u = c.bring_seen.new.inodes in
    let v = c.let_go.new.inodes in
    let w = c.settle.new.inodes in
    let x = c.in-Err-settle.ensures.settles in
    let goes = subst (λ (q : Path). LetsGo q u.root v.root) c.as_slice-2.ensures c.let_go.ensures.goes in
    leaves_removed g.W.World g.F.Files c.args.path.now s u v (keeps_on g.W.World g.F.Files s c.meet.new.inodes u c.meet.ensures.keeps c.bring_seen.ensures.keeps) goes c.let_go.ensures.rest
    c.let_go.ensures.counted c.let_go.ensures.places
    (Finished (say.Fault c.in-Err-settle.fault)) (λ e is. cc) w (settles_leaves g.W.World g.F.Files v w _ x) x.readies.next (λ e is. (x.readies.names, x.readies.fewer))
    (λ no. absurd (no (c.in-Err-settle.fault, refl)))

pub remove_entry-requires : goal.remove_entry-requires
remove_entry-requires g c =
    let p = c.args.path.now in
    let u = c.bring_seen.new.inodes in
    let v = c.let_go.new.inodes in
    let w = c.settle.new.inodes in
    let split = sym c.as_slice.ensures ∙ c.in-Some.ensures.cases.0 in
    let goes = subst (λ (q : Path). LetsGo q u.root v.root) c.as_slice-2.ensures c.let_go.ensures.goes in
    let y = map_some known_node (row_at p u.root) (Dir true) (sym c.in_default-bring_seen.ensures.ok) in
    let z = stays_there p u.root v.root goes y.0 y.1.0 in
    let off = c.in_default-let_go.ensures.away z.0 (ap (λ (q : Path). row_at q v.root) c.as_slice-2.ensures ∙ z.1.0) in
    record { there = has_entry p c.in-Some.above.now c.in-Some.name.now w.root z.0 split (row_still v.root w.root c.settle.ensures.settles.alike p z.0 z.1.0 off) off }

pub returns-in-Ok-clause-attempts : goal.returns-in-Ok-clause-attempts
returns-in-Ok-clause-attempts g c =
    let p = c.args.path.now in
    let s = c.args.inodes.now in
    let t = c.meet.new.inodes in
    let u = c.bring_seen.new.inodes in
    let v = c.let_go.new.inodes in
    let w = c.settle.new.inodes in
    let st = c.settle.ensures.settles in
    let z = c.remove_entry.new.inodes in
    let e = c.in-Ok-Some.ensures in
    let b = c.bring_seen.ensures in
    let G = shows g.W.World g.F.Files s in
    let split = sym c.as_slice.ensures ∙ c.in-Some.ensures.cases.0 in
    let alike : g.W.World.honest → shows g.W.World g.F.Files u ≡ G = λ h. b.same h ∙ e.same h in
    let same : g.W.World.honest → shows g.W.World g.F.Files v ≡ G = λ h. c.let_go.ensures.same h ∙ alike h in
    let none : g.W.World.honest → HasNoEntries G p = λ h. subst (λ (T : Tree). HasNoEntries T p) (alike h) (c.if-not-is_empty.ensures.entries h) in
    let counts = (keeps_counts g.W.World g.F.Files _ s u (keeps_on g.W.World g.F.Files s t u e.keeps b.keeps)).1.1.1 in
    changed g.W.World g.F.Files (ask.Rmdir p) s w z c.args.cache.now c.bring_seen.new.cache (λ h. st.readies.shown h ∙ same h)
    (le_trans (le_trans counts c.let_go.ensures.counted) (settles_leaves g.W.World g.F.Files v w _ st).everywhere.failures)
    (finds_on c.args.cache.now c.meet.new.cache c.bring_seen.new.cache e.cache b.cache)
    (λ h. (asks_rmdir p (not_root p c.in-Some.above.now c.in-Some.name.now split)).says G say.Ok
    (removes_empty G p (sym (ap (λ (T : Tree). reach T p) (alike h)) ∙ c.is_empty.ensures.here h) (none h)))
    (λ h.
    c.in-Ok.ensures.shown h
    ∙ ap (λ (q : Path). graft q (λ below. None) (shows g.W.World g.F.Files w)) (sym split)
    ∙ ap (graft p (λ below. None)) (st.readies.shown h ∙ same h)
    ∙ put_alone G p (λ below. None) (none h) (λ n r. refl))

pub returns-in-Ok-clause-leaves : goal.returns-in-Ok-clause-leaves
returns-in-Ok-clause-leaves g c =
    let p = c.args.path.now in
    let s = c.args.inodes.now in
    let u = c.bring_seen.new.inodes in
    let v = c.let_go.new.inodes in
    let x = c.in-Ok.ensures in
    let above = c.in-Some.above.now in
    let name = c.in-Some.name.now in
    let goes = subst (λ (q : Path). LetsGo q u.root v.root) c.as_slice-2.ensures c.let_go.ensures.goes in
    let y = map_some known_node (row_at p u.root) (Dir true) (sym c.in_default-bring_seen.ensures.ok) in
    let there = stays_there p u.root v.root goes y.0 y.1.0 in
    let w = c.settle.new.inodes in
    let st = c.settle.ensures.settles in
    let off = c.in_default-let_go.ensures.away there.0 (ap (λ (q : Path). row_at q v.root) c.as_slice-2.ensures ∙ there.1.0) in
    let still = row_still v.root w.root st.alike p there.0 there.1.0 off in
    let loaded = above_loaded w.root there.0 p above name (sym c.as_slice.ensures ∙ c.in-Some.ensures.cases.0) still in
    let saved = subst (λ (r : Path). IsSavedAbove r w.root) c.as_slice-3.ensures c.in_default-settle.ensures.saved in
    let root = root_chained above w.root c.remove_entry.new.inodes.root (λ d. changed_listing d name None) loaded x.ok in
    let z = c.remove_entry.new.inodes in
    let l = leaves_by g.F.Files w z x.atomic.stays root c.remove_entry.ensures.atomic.marks (no_less w.next z.next x.next) x.atomic.clock x.counted (places_rise w z x.changes) in
    leaves_removed g.W.World g.F.Files p s u v (keeps_on g.W.World g.F.Files s c.meet.new.inodes u c.meet.ensures.keeps c.bring_seen.ensures.keeps) goes
    c.let_go.ensures.rest c.let_go.ensures.counted c.let_go.ensures.places
    (Finished say.Ok) (λ e is. cc) z (leaves_then g.W.World g.F.Files v w z (settles_leaves g.W.World g.F.Files v w _ st) l) (x.next ∙ st.readies.next) (λ e is. absurd (cc))
    (λ no. saved_on p w.root z.root saved c.remove_entry.ensures.atomic.marks)

pub returns-in-Err-remove_entry-clause-attempts : goal.returns-in-Err-remove_entry-clause-attempts
returns-in-Err-remove_entry-clause-attempts g c =
    let p = c.args.path.now in
    let s = c.args.inodes.now in
    let t = c.meet.new.inodes in
    let u = c.bring_seen.new.inodes in
    let v = c.let_go.new.inodes in
    let e = c.in-Ok-Some.ensures in
    let b = c.bring_seen.ensures in
    let x = c.in-Err-remove_entry.ensures in
    let w = c.settle.new.inodes in
    let st = c.settle.ensures.settles in
    let counts = (keeps_counts g.W.World g.F.Files _ s u (keeps_on g.W.World g.F.Files s t u e.keeps b.keeps)).1.1.1 in
    refused g.W.World g.F.Files (ask.Rmdir p) s w c.remove_entry.new.inodes c.args.cache.now c.bring_seen.new.cache (λ h. st.readies.shown h ∙ c.let_go.ensures.same h ∙ b.same h ∙ e.same h)
    (le_trans (le_trans counts c.let_go.ensures.counted) (settles_leaves g.W.World g.F.Files v w _ st).everywhere.failures)
    (finds_on c.args.cache.now c.meet.new.cache c.bring_seen.new.cache e.cache b.cache) c.in-Err-remove_entry.fault x.atomic.fault (λ y is. cc) x.atomic.unseen

pub returns-in-Err-remove_entry-clause-leaves : goal.returns-in-Err-remove_entry-clause-leaves
returns-in-Err-remove_entry-clause-leaves g c =
    let p = c.args.path.now in
    let s = c.args.inodes.now in
    let u = c.bring_seen.new.inodes in
    let v = c.let_go.new.inodes in
    let z = c.remove_entry.new.inodes in
    let x = c.in-Err-remove_entry.ensures in
    let w = c.settle.new.inodes in
    let st = c.settle.ensures.settles in
    let goes = subst (λ (q : Path). LetsGo q u.root v.root) c.as_slice-2.ensures c.let_go.ensures.goes in
    let counted = fault_count (g.F.Files.failures w.files) (g.F.Files.failures z.files) c.in-Err-remove_entry.fault x.atomic.fault in
    let places = places_rise w z x.changes in
    let l = leaves_by g.F.Files w z x.atomic.stays (root_same w.root z.root x.atomic.err) c.remove_entry.ensures.atomic.marks (no_less w.next z.next x.next) x.atomic.clock counted places in
    leaves_removed g.W.World g.F.Files p s u v (keeps_on g.W.World g.F.Files s c.meet.new.inodes u c.meet.ensures.keeps c.bring_seen.ensures.keeps) goes
    c.let_go.ensures.rest c.let_go.ensures.counted c.let_go.ensures.places
    (Finished (say.Fault c.in-Err-remove_entry.fault)) (λ e is. cc) z (leaves_then g.W.World g.F.Files v w z (settles_leaves g.W.World g.F.Files v w _ st) l) (x.next ∙ st.readies.next)
    (λ e is. (subst (SameNames v.root) (sym x.atomic.err) st.readies.names, subst (λ (r : Row). StaysLoaded r v.root) (sym x.atomic.err) st.readies.fewer))
    (λ no. absurd (no (c.in-Err-remove_entry.fault, refl)))

pub returns-in_default-clause-leaves : goal.returns-in_default-clause-leaves
returns-in_default-clause-leaves g c = leaves_kept g.W.World g.F.Files (ask.Rmdir c.args.path.now) c.args.inodes.now c.args.inodes.now same _

pub returns-in-Err-clause-stamps : goal.returns-in-Err-clause-stamps
returns-in-Err-clause-stamps g c = stamps_kept g.W.World g.F.Files (ask.Rmdir c.args.path.now) c.args.inodes.now c.meet.new.inodes c.meet.ensures.keeps (c.meet.ensures.walked, tt) _

pub returns-in-Ok-None-clause-stamps : goal.returns-in-Ok-None-clause-stamps
returns-in-Ok-None-clause-stamps g c = stamps_kept g.W.World g.F.Files (ask.Rmdir c.args.path.now) c.args.inodes.now c.meet.new.inodes c.meet.ensures.keeps (c.meet.ensures.walked, tt) _

pub returns-in-Err-bring_seen-clause-stamps : goal.returns-in-Err-bring_seen-clause-stamps
returns-in-Err-bring_seen-clause-stamps g c =
    stamps_kept g.W.World g.F.Files (ask.Rmdir c.args.path.now) c.args.inodes.now c.bring_seen.new.inodes
    (keeps_on g.W.World g.F.Files c.args.inodes.now c.meet.new.inodes c.bring_seen.new.inodes c.meet.ensures.keeps c.bring_seen.ensures.keeps)
    (walked_on g.W.World g.F.Files c.args.path.now c.meet.new.inodes c.bring_seen.new.inodes c.meet.ensures.walked c.bring_seen.ensures.keeps, tt) _

pub returns-then-not-is_empty-clause-stamps : goal.returns-then-not-is_empty-clause-stamps
returns-then-not-is_empty-clause-stamps g c =
    stamps_kept g.W.World g.F.Files (ask.Rmdir c.args.path.now) c.args.inodes.now c.bring_seen.new.inodes
    (keeps_on g.W.World g.F.Files c.args.inodes.now c.meet.new.inodes c.bring_seen.new.inodes c.meet.ensures.keeps c.bring_seen.ensures.keeps)
    (walked_on g.W.World g.F.Files c.args.path.now c.meet.new.inodes c.bring_seen.new.inodes c.meet.ensures.walked c.bring_seen.ensures.keeps, tt) _

pub returns-in-Err-let_go-clause-stamps : goal.returns-in-Err-let_go-clause-stamps
returns-in-Err-let_go-clause-stamps g c =
    let u = c.bring_seen.new.inodes in
    let v = c.let_go.new.inodes in
    let goes = subst (λ (q : Path). LetsGo q u.root v.root) c.as_slice-2.ensures c.let_go.ensures.goes in
    stamps_then g.W.World g.F.Files (ask.Rmdir c.args.path.now) c.args.inodes.now c.bring_seen.new.inodes
    (keeps_on g.W.World g.F.Files c.args.inodes.now c.meet.new.inodes c.bring_seen.new.inodes c.meet.ensures.keeps c.bring_seen.ensures.keeps)
    (walked_on g.W.World g.F.Files c.args.path.now c.meet.new.inodes c.bring_seen.new.inodes c.meet.ensures.walked c.bring_seen.ensures.keeps, tt) v _ (left_stamps c.args.path.now u.root v.root goes)

pub returns-in-Err-settle-clause-stamps : goal.returns-in-Err-settle-clause-stamps
returns-in-Err-settle-clause-stamps g c =
    let u = c.bring_seen.new.inodes in
    let v = c.let_go.new.inodes in
    let goes = subst (λ (q : Path). LetsGo q u.root v.root) c.as_slice-2.ensures c.let_go.ensures.goes in
    let w = c.settle.new.inodes in
    stamps_then g.W.World g.F.Files (ask.Rmdir c.args.path.now) c.args.inodes.now c.bring_seen.new.inodes
    (keeps_on g.W.World g.F.Files c.args.inodes.now c.meet.new.inodes c.bring_seen.new.inodes c.meet.ensures.keeps c.bring_seen.ensures.keeps)
    (walked_on g.W.World g.F.Files c.args.path.now c.meet.new.inodes c.bring_seen.new.inodes c.meet.ensures.walked c.bring_seen.ensures.keeps, tt) w _ (stamps_on u.root v.root w.root
    (left_stamps c.args.path.now u.root v.root goes) (alike_stamps v.root w.root c.in-Err-settle.ensures.settles.alike))

pub returns-in-Ok-clause-stamps : goal.returns-in-Ok-clause-stamps
returns-in-Ok-clause-stamps g c =
    let p = c.args.path.now in
    let u = c.bring_seen.new.inodes in
    let v = c.let_go.new.inodes in
    let goes = subst (λ (q : Path). LetsGo q u.root v.root) c.as_slice-2.ensures c.let_go.ensures.goes in
    let w = c.settle.new.inodes in
    let z = c.remove_entry.new.inodes in
    let above = c.in-Some.above.now in
    let name = c.in-Some.name.now in
    let alike = c.settle.ensures.settles.alike in
    let y = map_some known_node (row_at p u.root) (Dir true) (sym c.in_default-bring_seen.ensures.ok) in
    let there = stays_there p u.root v.root goes y.0 y.1.0 in
    let off = c.in_default-let_go.ensures.away there.0 (ap (λ (q : Path). row_at q v.root) c.as_slice-2.ensures ∙ there.1.0) in
    let has = has_entry p above name w.root there.0 (sym c.as_slice.ensures ∙ c.in-Some.ensures.cases.0) (row_still v.root w.root alike p there.0 there.1.0 off) off in
    let none = chained_stamps w.root w.next c.settle.ensures.table above name None tt has.row has.directory has.at has.holds z.root (c.in-Ok.ensures.ok has.row has.directory has.at has.holds) in
    stamps_then g.W.World g.F.Files (ask.Rmdir c.args.path.now) c.args.inodes.now c.bring_seen.new.inodes
    (keeps_on g.W.World g.F.Files c.args.inodes.now c.meet.new.inodes c.bring_seen.new.inodes c.meet.ensures.keeps c.bring_seen.ensures.keeps)
    (walked_on g.W.World g.F.Files c.args.path.now c.meet.new.inodes c.bring_seen.new.inodes c.meet.ensures.walked c.bring_seen.ensures.keeps, tt) z _ (stamps_on u.root v.root z.root
    (left_stamps p u.root v.root goes) (stamps_on v.root w.root z.root (alike_stamps v.root w.root alike) none))

pub returns-in-Err-remove_entry-clause-stamps : goal.returns-in-Err-remove_entry-clause-stamps
returns-in-Err-remove_entry-clause-stamps g c =
    let u = c.bring_seen.new.inodes in
    let v = c.let_go.new.inodes in
    let goes = subst (λ (q : Path). LetsGo q u.root v.root) c.as_slice-2.ensures c.let_go.ensures.goes in
    let w = c.settle.new.inodes in
    let z = c.remove_entry.new.inodes in
    stamps_then g.W.World g.F.Files (ask.Rmdir c.args.path.now) c.args.inodes.now c.bring_seen.new.inodes
    (keeps_on g.W.World g.F.Files c.args.inodes.now c.meet.new.inodes c.bring_seen.new.inodes c.meet.ensures.keeps c.bring_seen.ensures.keeps)
    (walked_on g.W.World g.F.Files c.args.path.now c.meet.new.inodes c.bring_seen.new.inodes c.meet.ensures.walked c.bring_seen.ensures.keeps, tt) z _ (stamps_on u.root v.root z.root
    (left_stamps c.args.path.now u.root v.root goes)
    (stamps_on v.root w.root z.root (alike_stamps v.root w.root c.settle.ensures.settles.alike) (stamps_same w.root z.root c.in-Err-remove_entry.ensures.atomic.err)))

pub returns-in_default-clause-stamps : goal.returns-in_default-clause-stamps
returns-in_default-clause-stamps g c = stamps_refused g.W.World g.F.Files (ask.Rmdir c.args.path.now) c.args.inodes.now c.args.inodes.now same _ EBUSY refl

pub returns-in-Err-bring_seen-clause-leads : goal.returns-in-Err-bring_seen-clause-leads
returns-in-Err-bring_seen-clause-leads g c k is = subst (λ (x : Row). Leads c.args.path.now c.meet.new.trail.positions x) (sym c.in-Err-bring_seen.ensures.still) c.meet.ensures.leads

pub returns-in-Err-clause-edits : goal.returns-in-Err-clause-edits
returns-in-Err-clause-edits g c =
    edits_ended g.W.World g.F.Files (ask.Rmdir c.args.path.now) c.args.inodes.now c.meet.new.inodes c.meet.ensures.keeps c.in-Err.stop _ c.ended.ensures

pub returns-in-Ok-None-clause-edits : goal.returns-in-Ok-None-clause-edits
returns-in-Ok-None-clause-edits g c =
    edits_kept g.W.World g.F.Files (ask.Rmdir c.args.path.now) c.args.inodes.now c.meet.new.inodes c.meet.ensures.keeps _ (λ M. refl)

pub returns-in-Err-bring_seen-clause-edits : goal.returns-in-Err-bring_seen-clause-edits
returns-in-Err-bring_seen-clause-edits g c =
    edits_ended g.W.World g.F.Files (ask.Rmdir c.args.path.now) c.args.inodes.now c.bring_seen.new.inodes
    (keeps_on g.W.World g.F.Files c.args.inodes.now c.meet.new.inodes c.bring_seen.new.inodes c.meet.ensures.keeps c.bring_seen.ensures.keeps) c.in-Err-bring_seen.stop _
    c.ended-in-Err-bring_seen.ensures

pub returns-then-not-is_empty-clause-edits : goal.returns-then-not-is_empty-clause-edits
returns-then-not-is_empty-clause-edits g c =
    edits_kept g.W.World g.F.Files (ask.Rmdir c.args.path.now) c.args.inodes.now c.bring_seen.new.inodes
    (keeps_on g.W.World g.F.Files c.args.inodes.now c.meet.new.inodes c.bring_seen.new.inodes c.meet.ensures.keeps c.bring_seen.ensures.keeps) _ (λ M. refl)

pub returns-in_default-clause-edits : goal.returns-in_default-clause-edits
returns-in_default-clause-edits g c =
    edits_kept g.W.World g.F.Files (ask.Rmdir c.args.path.now) c.args.inodes.now c.args.inodes.now same _ (λ M. refl)

pub returns-in-Err-let_go-clause-edits : goal.returns-in-Err-let_go-clause-edits
returns-in-Err-let_go-clause-edits g c =
    edits_same g.W.World g.F.Files (ask.Rmdir c.args.path.now) c.args.inodes.now c.bring_seen.new.inodes
    (keeps_on g.W.World g.F.Files c.args.inodes.now c.meet.new.inodes c.bring_seen.new.inodes c.meet.ensures.keeps c.bring_seen.ensures.keeps) _ (λ M. refl) c.let_go.new.inodes
    c.let_go.ensures.numbers
    (next_no_less c.bring_seen.new.inodes.next c.let_go.new.inodes.next c.let_go.ensures.rest.0)

pub returns-in-Err-settle-clause-edits : goal.returns-in-Err-settle-clause-edits
returns-in-Err-settle-clause-edits g c =
    let x = c.in-Err-settle.ensures.settles in
    edits_same g.W.World g.F.Files (ask.Rmdir c.args.path.now) c.args.inodes.now c.bring_seen.new.inodes
    (keeps_on g.W.World g.F.Files c.args.inodes.now c.meet.new.inodes c.bring_seen.new.inodes c.meet.ensures.keeps c.bring_seen.ensures.keeps) _ (λ M. refl) c.settle.new.inodes
    (λ h r. x.readies.numbers h r ∙ c.let_go.ensures.numbers h r)
    (next_no_less c.bring_seen.new.inodes.next c.settle.new.inodes.next (x.readies.next ∙ c.let_go.ensures.rest.0))

pub returns-in-Err-remove_entry-clause-edits : goal.returns-in-Err-remove_entry-clause-edits
returns-in-Err-remove_entry-clause-edits g c =
    let x = c.in-Err-remove_entry.ensures in
    let st = c.settle.ensures.settles in
    edits_same g.W.World g.F.Files (ask.Rmdir c.args.path.now) c.args.inodes.now c.bring_seen.new.inodes
    (keeps_on g.W.World g.F.Files c.args.inodes.now c.meet.new.inodes c.bring_seen.new.inodes c.meet.ensures.keeps c.bring_seen.ensures.keeps) _ (λ M. refl) c.remove_entry.new.inodes
    (λ h r. x.unnumbered h r ∙ st.readies.numbers h r ∙ c.let_go.ensures.numbers h r)
    (next_no_less c.bring_seen.new.inodes.next c.remove_entry.new.inodes.next (x.next ∙ st.readies.next ∙ c.let_go.ensures.rest.0))

pub returns-in-Ok-clause-edits : goal.returns-in-Ok-clause-edits
returns-in-Ok-clause-edits g c =
    let p = c.args.path.now in
    let s = c.args.inodes.now in
    let u = c.bring_seen.new.inodes in
    let v = c.let_go.new.inodes in
    let w = c.settle.new.inodes in
    let z = c.remove_entry.new.inodes in
    let st = c.settle.ensures.settles in
    let x = c.in-Ok.ensures in
    let split = sym c.as_slice.ensures ∙ c.in-Some.ensures.cases.0 in
    let R = g.W.World.repository in
    let F = g.F.Files.stored u.files in
    edits_gone g.W.World g.F.Files (ask.Rmdir p) s u (keeps_on g.W.World g.F.Files c.args.inodes.now c.meet.new.inodes c.bring_seen.new.inodes c.meet.ensures.keeps c.bring_seen.ensures.keeps) w z p
    (not_root p c.in-Some.above.now c.in-Some.name.now split)
    (λ h r. st.readies.numbers h r ∙ c.let_go.ensures.numbers h r) (x.next ∙ st.readies.next ∙ c.let_go.ensures.rest.0)
    (λ h. subst (λ (r : Path). TakesNumbers g.F.Files r w z) (sym split) (x.renumbers h))
    (λ h n r. none_numbered g.W.World g.F.Files c.numbering_laws.ensures.nodes u (kept_dirs R F u.root u.next (c.holds.ensures.kept h)) (c.holds.ensures.numbers h) (p ++ n ∷ r)
    (c.if-not-is_empty.ensures.entries h n r))
    (Finished say.Ok) (λ M. refl)
