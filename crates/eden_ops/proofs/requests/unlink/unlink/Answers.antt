use Rattle.std.proofs.Common.{le_trans, ◌≡◌, ◌≢◌, ◌⊎◌, ◌++◌, ◌∷◌, None, sym, refl, subst, ap, ◌∙◌, inl, inr}
use Rattle.eden_model.specs.declared.errno.Errno.TheVariants.{EISDIR}
use Rattle.eden_model.specs.declared.kind.Kind.{Kind}
use Rattle.eden_model.specs.declared.kind.Kind.TheVariants as kind
use Rattle.eden_model.specs.declared.reply.Reply.TheVariants as say
use Rattle.eden_model.specs.declared.request.Request.TheVariants as ask
use Rattle.eden_model.specs.Repository.{source_of, content_with}
use Rattle.eden_model.specs.Trees.{Tree, Path, reach, graft}
use Rattle.eden_overlay.specs.Held.{own_files}
use Rattle.eden_tree.specs.Directory.{child_of}
use Rattle.eden_tree.specs.Paths.{row_at}
use Rattle.eden_coupling.specs.Changing.{changed as changed_listing}
use Rattle.eden_coupling.specs.Saving.{IsSavedAbove}
use Rattle.eden_model.specs.declared.attempt.Attempt.TheVariants.{Finished}
use Rattle.eden_inode.specs.Tables.{shows}
use Rattle.eden_inode.proofs.CallerLemmas.{places_rise}
use Rattle.eden_ops.specs.Attempts.{IsShown}
use Rattle.eden_ops.specs.Changes.{SameNames}
use Rattle.eden_ops.specs.Keeping.{same}
use Rattle.eden_ops.proofs.Answering.{walk_ended, says_absent, says_at}
use Rattle.eden_ops.proofs.Changing.{not_root, none_held, has_entry, put_alone, file_alone, changed, refused, unlinks, asks_unlink, unlinks_file, unlinks_dir}
use Rattle.eden_ops.proofs.Reached.{seen_at, shown_at}
use Rattle.eden_ops.proofs.Relocation.{above_loaded}
use Rattle.eden_ops.proofs.Roots.{root_same, root_chained}
use Rattle.eden_ops.proofs.Leaving.{none_given, leaves_kept, leaves_changed}
use Rattle.eden_ops.proofs.Saving.{leaves_by, fault_count, no_less}
use Rattle.eden_ops.proofs.Settled.{row_still, settles_leaves, leaves_then, saved_on}
use Rattle.eden_ops.proofs.Seeing.{kept_dirs}
use Rattle.eden_ops.proofs.Telling.{as_dir, met_tells}
use Rattle.eden_ops.proofs.Stamped.{stamps_on, stamps_same, alike_stamps, chained_stamps, stamps_refused, stamps_then, stamps_kept}
use Rattle.eden_ops.proofs.Renumbering.{edits_ended, edits_gone, edits_kept, edits_same, next_no_less, none_numbered}
use Rattle.eden_materialise.specs.Renumbering.{TakesNumbers}
use Rattle.eden_ops.proofs.requests.unlink.unlink.Goals as goal

file_not_dir : (told : Kind) → (told ≡ kind.File) ⊎ ((told ≡ kind.Exec) ⊎ (told ≡ kind.Link)) → told ≢ kind.Dir
file_not_dir told (inl a) dir = cc
file_not_dir told (inr (inl a)) dir = cc
file_not_dir told (inr (inr a)) dir = cc

pub returns-in-Err-clause-attempts : goal.returns-in-Err-clause-attempts
returns-in-Err-clause-attempts g c =
    let e = c.in-Err.ensures in
    walk_ended g.W.World g.F.Files (ask.Unlink c.args.path.now) c.args.path.now unlinks
    (asks_unlink c.args.path.now (not_root c.args.path.now c.in-Some.above.now c.in-Some.name.now (sym c.as_slice.ensures ∙ c.in-Some.ensures.cases.0))) c.args.inodes.now c.meet.new.inodes
    c.args.cache.now c.meet.new.cache
    e.same e.keeps e.cache c.in-Err.stop _ c.ended.ensures e.meets e.shown

pub returns-in-Ok-None-clause-attempts : goal.returns-in-Ok-None-clause-attempts
returns-in-Ok-None-clause-attempts g c =
    let e = c.in-Ok-None.ensures in
    says_absent g.W.World g.F.Files (ask.Unlink c.args.path.now) c.args.path.now unlinks c.args.inodes.now c.meet.new.inodes c.args.cache.now c.meet.new.cache _
    c.in-Ok-None.field-0-is e.same e.keeps e.cache e.shown (asks_unlink c.args.path.now
    (not_root c.args.path.now c.in-Some.above.now c.in-Some.name.now (sym c.as_slice.ensures ∙ c.in-Some.ensures.cases.0)))

pub returns-in-Dir-clause-attempts : goal.returns-in-Dir-clause-attempts
returns-in-Dir-clause-attempts g c =
    let p = c.args.path.now in
    let e = c.in-Ok-Some.ensures in
    met_tells g.W.World g.F.Files p c.args.inodes.now c.meet.new.inodes c.meet.new.cache _ c.in-Ok-Some.seen c.in-Ok-Some.field-0-is e.meets (ask.Unlink p) unlinks
    (asks_unlink p (not_root p c.in-Some.above.now c.in-Some.name.now (sym c.as_slice.ensures ∙ c.in-Some.ensures.cases.0))) c.args.cache.now e.same e.keeps e.cache e.shown (say.Err EISDIR) refl
    (λ T. refl)
    (λ k a listed is on. unlinks_dir k a listed (as_dir k c.in-Ok-Some.seen is on (c.what.ensures.dir c.in-Dir.is)))

pub remove_entry-requires : goal.remove_entry-requires
remove_entry-requires g c =
    let p = c.args.path.now in
    let s = c.args.inodes.now in
    let t = c.meet.new.inodes in
    let e = c.in-Ok-Some.ensures in
    let split = sym c.as_slice.ensures ∙ c.in-Some.ensures.cases.0 in
    let seen = seen_at g.W.World g.F.Files p s t c.meet.new.cache _ c.in-Ok-Some.seen c.in-Ok-Some.field-0-is e.meets in
    let other = c.what.ensures.other (file_not_dir c.what.result c.in-File.is) in
    let v = c.settle.new.inodes in
    let away = none_held (child_of seen.row) (sym seen.loaded ∙ other.0) in
    let there = row_still t.root v.root c.settle.ensures.settles.alike p seen.row seen.there away in
    record { there = has_entry p c.in-Some.above.now c.in-Some.name.now v.root seen.row split there away }

pub returns-in-Ok-clause-attempts : goal.returns-in-Ok-clause-attempts
returns-in-Ok-clause-attempts g c =
    let p = c.args.path.now in
    let s = c.args.inodes.now in
    let t = c.meet.new.inodes in
    let v = c.settle.new.inodes in
    let u = c.remove_entry.new.inodes in
    let st = c.settle.ensures.settles in
    let e = c.in-Ok-Some.ensures in
    let R = g.W.World.repository in
    let F = g.F.Files.stored t.files in
    let G = shows g.W.World g.F.Files s in
    let split = sym c.as_slice.ensures ∙ c.in-Some.ensures.cases.0 in
    let seen = seen_at g.W.World g.F.Files p s t c.meet.new.cache _ c.in-Ok-Some.seen c.in-Ok-Some.field-0-is e.meets in
    let shown : g.W.World.honest → IsShown R F (row_at p t.root) (reach G p) = shown_at g.W.World g.F.Files p s t c.meet.new.cache _ c.in-Ok-Some.seen c.in-Ok-Some.field-0-is e.shown in
    let other = c.what.ensures.other (file_not_dir c.what.result c.in-File.is) in
    let file : seen.row.kind ≢ kind.Dir = λ dir. file_not_dir c.what.result c.in-File.is (sym other.1 ∙ seen.kind ∙ dir) in
    changed g.W.World g.F.Files (ask.Unlink p) s v u c.args.cache.now c.meet.new.cache (λ h. st.readies.shown h ∙ e.same h)
    (le_trans (c.keeps_laws.ensures.counts _ s t e.keeps).1.1.1 (settles_leaves g.W.World g.F.Files t v _ st).everywhere.failures) e.cache
    (λ h. (asks_unlink p (not_root p c.in-Some.above.now c.in-Some.name.now split)).says G say.Ok
    (says_at R F p unlinks G (row_at p t.root) seen.row seen.there (shown h) say.Ok
    (λ listed. unlinks_file seen.row.kind (content_with R (own_files F) (source_of seen.row.number seen.row.origin)) listed file)))
    (λ h.
    c.in-Ok.ensures.shown h
    ∙ ap (λ (q : Path). graft q (λ below. None) (shows g.W.World g.F.Files v)) (sym split)
    ∙ ap (graft p (λ below. None)) (st.readies.shown h ∙ e.same h)
    ∙ put_alone G p (λ below. None)
    (λ n r. sym (ap (λ (T : Tree). T (p ++ n ∷ r)) (e.same h)) ∙ file_alone c.shown_laws.ensures.below R F p t.root seen.row
    (kept_dirs R F t.root t.next (c.holds.ensures.kept h)) seen.there file n r) (λ n r. refl))

pub returns-in-Err-remove_entry-clause-attempts : goal.returns-in-Err-remove_entry-clause-attempts
returns-in-Err-remove_entry-clause-attempts g c =
    let p = c.args.path.now in
    let s = c.args.inodes.now in
    let t = c.meet.new.inodes in
    let v = c.settle.new.inodes in
    let u = c.remove_entry.new.inodes in
    let st = c.settle.ensures.settles in
    let e = c.in-Ok-Some.ensures in
    let x = c.in-Err-remove_entry.ensures in
    refused g.W.World g.F.Files (ask.Unlink p) s v u c.args.cache.now c.meet.new.cache (λ h. st.readies.shown h ∙ e.same h)
    (le_trans (c.keeps_laws.ensures.counts _ s t e.keeps).1.1.1 (settles_leaves g.W.World g.F.Files t v _ st).everywhere.failures) e.cache c.in-Err-remove_entry.fault x.atomic.fault
    (λ y is. cc) x.atomic.unseen

pub returns-in-Err-settle-clause-attempts : goal.returns-in-Err-settle-clause-attempts
returns-in-Err-settle-clause-attempts g c =
    let s = c.args.inodes.now in
    let t = c.meet.new.inodes in
    let e = c.in-Ok-Some.ensures in
    let x = c.in-Err-settle.ensures.settles.readies in
    refused g.W.World g.F.Files (ask.Unlink c.args.path.now) s t c.settle.new.inodes c.args.cache.now c.meet.new.cache e.same ((c.keeps_laws.ensures.counts _ s t e.keeps).1.1.1) e.cache
    c.in-Err-settle.fault x.fault (λ y is. cc) x.shown

pub returns-in-Err-settle-clause-leaves : goal.returns-in-Err-settle-clause-leaves
returns-in-Err-settle-clause-leaves g c =
    let t = c.meet.new.inodes in
    let v = c.settle.new.inodes in
    let x = c.in-Err-settle.ensures.settles in
    leaves_changed g.W.World g.F.Files (ask.Unlink c.args.path.now) c.args.inodes.now t c.meet.ensures.keeps v (Finished (say.Fault c.in-Err-settle.fault)) (λ e is. cc) (λ e is. x.readies.names)
    (settles_leaves g.W.World g.F.Files t v _ x) (none_given t.next v.next 0 x.readies.next) (λ no. absurd (no (c.in-Err-settle.fault, refl)))

pub returns-in-Err-clause-leaves : goal.returns-in-Err-clause-leaves
returns-in-Err-clause-leaves g c = leaves_kept g.W.World g.F.Files (ask.Unlink c.args.path.now) c.args.inodes.now c.meet.new.inodes c.meet.ensures.keeps _

pub returns-in-Ok-None-clause-leaves : goal.returns-in-Ok-None-clause-leaves
returns-in-Ok-None-clause-leaves g c = leaves_kept g.W.World g.F.Files (ask.Unlink c.args.path.now) c.args.inodes.now c.meet.new.inodes c.meet.ensures.keeps _

pub returns-in-Dir-clause-leaves : goal.returns-in-Dir-clause-leaves
returns-in-Dir-clause-leaves g c = leaves_kept g.W.World g.F.Files (ask.Unlink c.args.path.now) c.args.inodes.now c.meet.new.inodes c.meet.ensures.keeps _

pub returns-in-Ok-clause-leaves : goal.returns-in-Ok-clause-leaves
returns-in-Ok-clause-leaves g c =
    let x = c.in-Ok.ensures in
    let p = c.args.path.now in
    let t = c.meet.new.inodes in
    let v = c.settle.new.inodes in
    let st = c.settle.ensures.settles in
    let above = c.in-Some.above.now in
    let name = c.in-Some.name.now in
    let seen = seen_at g.W.World g.F.Files p c.args.inodes.now t c.meet.new.cache _ c.in-Ok-Some.seen c.in-Ok-Some.field-0-is c.in-Ok-Some.ensures.meets in
    let other = c.what.ensures.other (file_not_dir c.what.result c.in-File.is) in
    let there = row_still t.root v.root st.alike p seen.row seen.there (none_held (child_of seen.row) (sym seen.loaded ∙ other.0)) in
    let loaded = above_loaded v.root seen.row p above name (sym c.as_slice.ensures ∙ c.in-Some.ensures.cases.0) there in
    let root = root_chained above v.root c.remove_entry.new.inodes.root (λ d. changed_listing d name None) loaded x.ok in
    let u = c.remove_entry.new.inodes in
    let l = leaves_by g.F.Files v u x.atomic.stays root x.atomic.marks (no_less v.next u.next x.next) x.atomic.clock x.counted (places_rise v u x.changes) in
    let saved = subst (λ (r : Path). IsSavedAbove r v.root) c.as_slice-2.ensures c.in_default-settle.ensures.saved in
    leaves_changed g.W.World g.F.Files (ask.Unlink p) c.args.inodes.now t c.meet.ensures.keeps u (Finished say.Ok) (λ e is. cc) (λ e is. cc)
    (leaves_then g.W.World g.F.Files t v u (settles_leaves g.W.World g.F.Files t v _ st) l)
    (none_given t.next u.next 0 (x.next ∙ st.readies.next)) (λ no. (saved_on p v.root u.root saved x.atomic.marks, tt))

pub returns-in-Err-remove_entry-clause-leaves : goal.returns-in-Err-remove_entry-clause-leaves
returns-in-Err-remove_entry-clause-leaves g c =
    let x = c.in-Err-remove_entry.ensures in
    let t = c.meet.new.inodes in
    let v = c.settle.new.inodes in
    let u = c.remove_entry.new.inodes in
    let st = c.settle.ensures.settles in
    let counted = fault_count (g.F.Files.failures v.files) (g.F.Files.failures u.files) c.in-Err-remove_entry.fault x.atomic.fault in
    let l = leaves_by g.F.Files v u x.atomic.stays (root_same v.root u.root x.atomic.err) x.atomic.marks (no_less v.next u.next x.next) x.atomic.clock counted (places_rise v u x.changes) in
    leaves_changed g.W.World g.F.Files (ask.Unlink c.args.path.now) c.args.inodes.now t c.meet.ensures.keeps u (Finished (say.Fault c.in-Err-remove_entry.fault)) (λ e is. cc)
    (λ e is. subst (SameNames t.root) (sym x.atomic.err) st.readies.names)
    (leaves_then g.W.World g.F.Files t v u (settles_leaves g.W.World g.F.Files t v _ st) l)
    (none_given t.next u.next 0 (x.next ∙ st.readies.next)) (λ no. absurd (no (c.in-Err-remove_entry.fault, refl)))

pub returns-in_default-clause-leaves : goal.returns-in_default-clause-leaves
returns-in_default-clause-leaves g c = leaves_kept g.W.World g.F.Files (ask.Unlink c.args.path.now) c.args.inodes.now c.args.inodes.now same _

pub returns-in-Err-clause-stamps : goal.returns-in-Err-clause-stamps
returns-in-Err-clause-stamps g c = stamps_kept g.W.World g.F.Files (ask.Unlink c.args.path.now) c.args.inodes.now c.meet.new.inodes c.meet.ensures.keeps (c.meet.ensures.walked, tt) _

pub returns-in-Ok-None-clause-stamps : goal.returns-in-Ok-None-clause-stamps
returns-in-Ok-None-clause-stamps g c = stamps_kept g.W.World g.F.Files (ask.Unlink c.args.path.now) c.args.inodes.now c.meet.new.inodes c.meet.ensures.keeps (c.meet.ensures.walked, tt) _

pub returns-in-Dir-clause-stamps : goal.returns-in-Dir-clause-stamps
returns-in-Dir-clause-stamps g c = stamps_kept g.W.World g.F.Files (ask.Unlink c.args.path.now) c.args.inodes.now c.meet.new.inodes c.meet.ensures.keeps (c.meet.ensures.walked, tt) _

pub returns-in-Err-settle-clause-stamps : goal.returns-in-Err-settle-clause-stamps
returns-in-Err-settle-clause-stamps g c =
    stamps_then g.W.World g.F.Files (ask.Unlink c.args.path.now) c.args.inodes.now c.meet.new.inodes c.meet.ensures.keeps (c.meet.ensures.walked, tt) c.settle.new.inodes _
    (alike_stamps c.meet.new.inodes.root c.settle.new.inodes.root c.in-Err-settle.ensures.settles.alike)

pub returns-in-Ok-clause-stamps : goal.returns-in-Ok-clause-stamps
returns-in-Ok-clause-stamps g c =
    let p = c.args.path.now in
    let t = c.meet.new.inodes in
    let v = c.settle.new.inodes in
    let u = c.remove_entry.new.inodes in
    let st = c.settle.ensures.settles in
    let above = c.in-Some.above.now in
    let name = c.in-Some.name.now in
    let seen = seen_at g.W.World g.F.Files p c.args.inodes.now t c.meet.new.cache _ c.in-Ok-Some.seen c.in-Ok-Some.field-0-is c.in-Ok-Some.ensures.meets in
    let other = c.what.ensures.other (file_not_dir c.what.result c.in-File.is) in
    let away = none_held (child_of seen.row) (sym seen.loaded ∙ other.0) in
    let has = has_entry p above name v.root seen.row (sym c.as_slice.ensures ∙ c.in-Some.ensures.cases.0) (row_still t.root v.root st.alike p seen.row seen.there away) away in
    let none = chained_stamps v.root v.next c.settle.ensures.table above name None tt has.row has.directory has.at has.holds u.root (c.in-Ok.ensures.ok has.row has.directory has.at has.holds) in
    stamps_then g.W.World g.F.Files (ask.Unlink c.args.path.now) c.args.inodes.now c.meet.new.inodes c.meet.ensures.keeps (c.meet.ensures.walked, tt) u _ (stamps_on t.root v.root u.root
    (alike_stamps t.root v.root st.alike) none)

pub returns-in-Err-remove_entry-clause-stamps : goal.returns-in-Err-remove_entry-clause-stamps
returns-in-Err-remove_entry-clause-stamps g c =
    let t = c.meet.new.inodes in
    let v = c.settle.new.inodes in
    let u = c.remove_entry.new.inodes in
    stamps_then g.W.World g.F.Files (ask.Unlink c.args.path.now) c.args.inodes.now c.meet.new.inodes c.meet.ensures.keeps (c.meet.ensures.walked, tt) u _
    (stamps_on t.root v.root u.root (alike_stamps t.root v.root c.settle.ensures.settles.alike) (stamps_same v.root u.root c.in-Err-remove_entry.ensures.atomic.err))

pub returns-in_default-clause-stamps : goal.returns-in_default-clause-stamps
returns-in_default-clause-stamps g c = stamps_refused g.W.World g.F.Files (ask.Unlink c.args.path.now) c.args.inodes.now c.args.inodes.now same _ EISDIR refl

pub returns-in-Err-clause-edits : goal.returns-in-Err-clause-edits
returns-in-Err-clause-edits g c =
    edits_ended g.W.World g.F.Files (ask.Unlink c.args.path.now) c.args.inodes.now c.meet.new.inodes c.meet.ensures.keeps c.in-Err.stop _ c.ended.ensures

pub returns-in-Ok-None-clause-edits : goal.returns-in-Ok-None-clause-edits
returns-in-Ok-None-clause-edits g c =
    edits_kept g.W.World g.F.Files (ask.Unlink c.args.path.now) c.args.inodes.now c.meet.new.inodes c.meet.ensures.keeps _ (λ M. refl)

pub returns-in-Dir-clause-edits : goal.returns-in-Dir-clause-edits
returns-in-Dir-clause-edits g c =
    edits_kept g.W.World g.F.Files (ask.Unlink c.args.path.now) c.args.inodes.now c.meet.new.inodes c.meet.ensures.keeps _ (λ M. refl)

pub returns-in_default-clause-edits : goal.returns-in_default-clause-edits
returns-in_default-clause-edits g c =
    edits_kept g.W.World g.F.Files (ask.Unlink c.args.path.now) c.args.inodes.now c.args.inodes.now same _ (λ M. refl)

pub returns-in-Err-settle-clause-edits : goal.returns-in-Err-settle-clause-edits
returns-in-Err-settle-clause-edits g c =
    let x = c.in-Err-settle.ensures.settles in
    edits_same g.W.World g.F.Files (ask.Unlink c.args.path.now) c.args.inodes.now c.meet.new.inodes c.meet.ensures.keeps _ (λ M. refl) c.settle.new.inodes x.readies.numbers
    (next_no_less c.meet.new.inodes.next c.settle.new.inodes.next x.readies.next)

pub returns-in-Err-remove_entry-clause-edits : goal.returns-in-Err-remove_entry-clause-edits
returns-in-Err-remove_entry-clause-edits g c =
    let x = c.in-Err-remove_entry.ensures in
    let st = c.settle.ensures.settles in
    edits_same g.W.World g.F.Files (ask.Unlink c.args.path.now) c.args.inodes.now c.meet.new.inodes c.meet.ensures.keeps _ (λ M. refl) c.remove_entry.new.inodes
    (λ h r. x.unnumbered h r ∙ st.readies.numbers h r)
    (next_no_less c.meet.new.inodes.next c.remove_entry.new.inodes.next (x.next ∙ st.readies.next))

pub returns-in-Ok-clause-edits : goal.returns-in-Ok-clause-edits
returns-in-Ok-clause-edits g c =
    let p = c.args.path.now in
    let s = c.args.inodes.now in
    let t = c.meet.new.inodes in
    let v = c.settle.new.inodes in
    let u = c.remove_entry.new.inodes in
    let st = c.settle.ensures.settles in
    let x = c.in-Ok.ensures in
    let split = sym c.as_slice.ensures ∙ c.in-Some.ensures.cases.0 in
    let seen = seen_at g.W.World g.F.Files p s t c.meet.new.cache _ c.in-Ok-Some.seen c.in-Ok-Some.field-0-is c.in-Ok-Some.ensures.meets in
    let other = c.what.ensures.other (file_not_dir c.what.result c.in-File.is) in
    let file : seen.row.kind ≢ kind.Dir = λ dir. file_not_dir c.what.result c.in-File.is (sym other.1 ∙ seen.kind ∙ dir) in
    let R = g.W.World.repository in
    let F = g.F.Files.stored t.files in
    edits_gone g.W.World g.F.Files (ask.Unlink p) s t c.meet.ensures.keeps v u p (not_root p c.in-Some.above.now c.in-Some.name.now split) st.readies.numbers (x.next ∙ st.readies.next)
    (λ h. subst (λ (r : Path). TakesNumbers g.F.Files r v u) (sym split) (x.renumbers h))
    (λ h n r. none_numbered g.W.World g.F.Files c.numbering_laws.ensures.nodes t (kept_dirs R F t.root t.next (c.holds.ensures.kept h)) (c.holds.ensures.numbers h) (p ++ n ∷ r)
    (file_alone c.shown_laws.ensures.below R F p t.root seen.row (kept_dirs R F t.root t.next (c.holds.ensures.kept h)) seen.there file n r))
    (Finished say.Ok) (λ M. refl)
