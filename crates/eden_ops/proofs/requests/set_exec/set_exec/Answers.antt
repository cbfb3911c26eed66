use Rattle.std.proofs.Common.{le_trans, refl, ◌≡◌, ◌≢◌, false, Some, sym, subst, ap, ◌∙◌, rules}
use denote.Enum.Bare.{same_true, same_false}
use Rattle.eden_model.specs.contracts.kind.Kind.{the_type}
use Rattle.eden_model.specs.declared.kind.Kind.{Kind}
use Rattle.eden_model.specs.declared.kind.Kind.TheVariants as kind
use Rattle.eden_model.specs.declared.node.Node.{Node}
use Rattle.eden_model.specs.declared.reply.Reply.TheVariants as say
use Rattle.eden_model.specs.declared.request.Request.TheVariants as ask
use Rattle.eden_model.specs.Operations.{done}
use Rattle.eden_model.specs.Repository.{source_of, content_with}
use Rattle.eden_model.specs.Shown.{node_from}
use Rattle.eden_model.specs.Trees.{Tree, Path, graft}
use Rattle.eden_overlay.specs.Held.{own_files}
use Rattle.eden_tree.specs.Paths.{row_at}
use Rattle.eden_coupling.specs.Changing.{changed as changed_listing}
use Rattle.eden_coupling.specs.Filing.{leaf, content_shown, HasFile}
use Rattle.eden_coupling.specs.Saving.{IsSavedAbove}
use Rattle.eden_coupling.proofs.CallerLemmas.{loaded_there}
use Rattle.eden_inode.specs.Tables.{shows}
use Rattle.eden_materialise.specs.Reforms.{of_kind}
use Rattle.eden_model.specs.declared.attempt.Attempt.{Attempt}
use Rattle.eden_model.specs.declared.attempt.Attempt.TheVariants.{Finished}
use Rattle.eden_inode.proofs.CallerLemmas.{places_same}
use Rattle.eden_ops.specs.Attempts.{Attempts}
use Rattle.eden_ops.specs.Requests.{for_exec}
use Rattle.eden_ops.specs.Changes.{SameNames, exec_kind}
use Rattle.eden_ops.proofs.Already.{so_already, exec_stays}
use Rattle.eden_ops.proofs.Answering.{says_at}
use Rattle.eden_ops.proofs.Changing.{has_file, file_alone, changed, refused, sets_exec, sets_file, exec_put}
use Rattle.eden_ops.proofs.Fetching.{away}
use Rattle.eden_ops.proofs.Filled.{node_shown}
use Rattle.eden_ops.proofs.Looking.{IsPlain, plain_other}
use Rattle.eden_ops.proofs.Roots.{root_same, root_chained}
use Rattle.eden_ops.proofs.Leaving.{none_given, leaves_kept, leaves_changed}
use Rattle.eden_ops.proofs.Saving.{leaves_by, fault_count, no_less}
use Rattle.eden_ops.proofs.Settled.{row_still, settles_leaves, leaves_then, saved_on}
use Rattle.eden_ops.proofs.Seeing.{kept_dirs, shown_there}
use Rattle.eden_ops.proofs.Steps.{keeps_counts}
use Rattle.eden_ops.proofs.Stamped.{stamps_on, stamps_same, alike_stamps, chained_stamps, stamps_then, stamps_kept}
use Rattle.eden_ops.proofs.Renumbering.{edits_ended, edits_kept, edits_same, next_no_less}
use Rattle.eden_ops.proofs.requests.set_exec.set_exec.Goals as goal

pub returns-in-Err-clause-attempts : goal.returns-in-Err-clause-attempts
returns-in-Err-clause-attempts g c =
    subst (λ (a : Attempt). Attempts g.W.World g.F.Files (ask.SetExec c.args.path.now c.args.exec) c.args.inodes.now c.meet_file.new.inodes c.args.cache.now c.meet_file.new.cache a)
    (sym c.ended.ensures)
    (c.in-Err.ensures.ends (ask.SetExec c.args.path.now c.args.exec) (for_exec c.args.exec))

pub returns-then-eq-clause-attempts : goal.returns-then-eq-clause-attempts
returns-then-eq-clause-attempts g c =
    let p = c.args.path.now in
    let s = c.args.inodes.now in
    let t = c.meet_file.new.inodes in
    let e = c.in-Ok.ensures in
    let R = g.W.World.repository in
    let F = g.F.Files.stored t.files in
    let G = shows g.W.World g.F.Files s in
    let seen = e.file.entry in
    let plain = subst IsPlain seen.kind e.file.plain in
    let content = content_with R (own_files F) (source_of seen.row.number seen.row.origin) in
    let so : c.in-Ok.seen.kind ≡ c.exec_kind-kind.result = same_true the_type (search rules) c.in-Ok.seen.kind c.exec_kind-kind.result (sym c.eq.ensures ∙ c.if-eq.true) in
    let is : seen.row.kind ≡ exec_kind c.args.exec = sym seen.kind ∙ so ∙ c.exec_kind-kind.ensures.is in
    changed g.W.World g.F.Files (ask.SetExec p c.args.exec) s t t c.args.cache.now c.meet_file.new.cache e.same ((keeps_counts g.W.World g.F.Files _ s t e.keeps).1.1.1) e.cache
    (λ h. says_at R F p sets_exec G (row_at p t.root) seen.row seen.there (e.shown h) say.Ok (λ listed. sets_file seen.row.kind content listed plain))
    (λ h.
    let there = node_shown R F G p (row_at p t.root) seen.row seen.there (e.shown h) in
    e.same h ∙ sym (exec_stays G p c.args.exec seen.row.kind content there.0 is there.1))

pub returns-then-eq-clause-leaves : goal.returns-then-eq-clause-leaves
returns-then-eq-clause-leaves g c = leaves_kept g.W.World g.F.Files (ask.SetExec c.args.path.now c.args.exec) c.args.inodes.now c.meet_file.new.inodes c.meet_file.ensures.keeps _

pub returns-in-Err-clause-already : goal.returns-in-Err-clause-already
returns-in-Err-clause-already g c so = c.meet_file.ensures.keeps

pub returns-then-eq-clause-already : goal.returns-then-eq-clause-already
returns-then-eq-clause-already g c so = c.meet_file.ensures.keeps

pub returns-in-Ok-set_kind-clause-already : goal.returns-in-Ok-set_kind-clause-already
returns-in-Ok-set_kind-clause-already g c so =
    let e = c.in-Ok.ensures in
    let is = so_already g.W.World g.F.Files c.args.path.now c.args.exec c.args.inodes.now c.meet_file.new.inodes c.in-Ok.seen e.file.entry e.keeps e.shown so in
    absurd (same_false the_type c.in-Ok.seen.kind c.exec_kind-kind.result (sym c.eq.ensures ∙ c.if-eq.false) (is ∙ sym c.exec_kind-kind.ensures.is))

pub returns-in-Err-set_kind-clause-already : goal.returns-in-Err-set_kind-clause-already
returns-in-Err-set_kind-clause-already g c so =
    let e = c.in-Ok.ensures in
    let is = so_already g.W.World g.F.Files c.args.path.now c.args.exec c.args.inodes.now c.meet_file.new.inodes c.in-Ok.seen e.file.entry e.keeps e.shown so in
    absurd (same_false the_type c.in-Ok.seen.kind c.exec_kind-kind.result (sym c.eq.ensures ∙ c.if-eq.false) (is ∙ sym c.exec_kind-kind.ensures.is))

pub set_kind-requires-clause-there : goal.set_kind-requires-clause-there
set_kind-requires-clause-there g c =
    let p = c.args.path.now in
    let s = c.args.inodes.now in
    let t = c.meet_file.new.inodes in
    let e = c.in-Ok.ensures in
    let seen = e.file.entry in
    let plain = subst IsPlain seen.kind e.file.plain in
    let v = c.settle.new.inodes in
    let off = away p t.root c.in-Ok.seen seen e.file.away in
    let there = row_still t.root v.root c.settle.ensures.settles.alike p seen.row seen.there off in (
      seen.row,
      has_file p c.in-Some.above.now c.in-Some.name.now v.root seen.row (sym c.as_slice-2.ensures ∙ c.in-Some.ensures.cases.0) there off (plain_other seen.row.kind plain),
    )

pub returns-in-Err-settle-clause-attempts : goal.returns-in-Err-settle-clause-attempts
returns-in-Err-settle-clause-attempts g c =
    let s = c.args.inodes.now in
    let t = c.meet_file.new.inodes in
    let e = c.in-Ok.ensures in
    let x = c.in-Err-settle.ensures.settles.readies in
    refused g.W.World g.F.Files (ask.SetExec c.args.path.now c.args.exec) s t c.settle.new.inodes c.args.cache.now c.meet_file.new.cache e.same ((c.keeps_laws.ensures.counts _ s t e.keeps).1.1.1)
    e.cache c.in-Err-settle.fault x.fault (λ y is. cc) x.shown

pub returns-in-Err-settle-clause-already : goal.returns-in-Err-settle-clause-already
returns-in-Err-settle-clause-already g c so =
    let e = c.in-Ok.ensures in
    let is = so_already g.W.World g.F.Files c.args.path.now c.args.exec c.args.inodes.now c.meet_file.new.inodes c.in-Ok.seen e.file.entry e.keeps e.shown so in
    absurd (same_false the_type c.in-Ok.seen.kind c.exec_kind-kind.result (sym c.eq.ensures ∙ c.if-eq.false) (is ∙ sym c.exec_kind-kind.ensures.is))

pub returns-in-Err-settle-clause-leaves : goal.returns-in-Err-settle-clause-leaves
returns-in-Err-settle-clause-leaves g c =
    let t = c.meet_file.new.inodes in
    let v = c.settle.new.inodes in
    let x = c.in-Err-settle.ensures.settles in
    leaves_changed g.W.World g.F.Files (ask.SetExec c.args.path.now c.args.exec) c.args.inodes.now t c.meet_file.ensures.keeps v (Finished (say.Fault c.in-Err-settle.fault)) (λ e is. cc)
    (λ e is. x.readies.names)
    (settles_leaves g.W.World g.F.Files t v _ x) (none_given t.next v.next 0 x.readies.next) (λ no. absurd (no (c.in-Err-settle.fault, refl)))

pub returns-in-Ok-set_kind-clause-attempts : goal.returns-in-Ok-set_kind-clause-attempts
returns-in-Ok-set_kind-clause-attempts g c =
    let p = c.args.path.now in
    let s = c.args.inodes.now in
    let t = c.meet_file.new.inodes in
    let e = c.in-Ok.ensures in
    let R = g.W.World.repository in
    let F = g.F.Files.stored t.files in
    let G = shows g.W.World g.F.Files s in
    let seen = e.file.entry in
    let v = c.settle.new.inodes in
    let st = c.settle.ensures.settles in
    let u = c.set_kind.new.inodes in
    let split = sym c.as_slice-2.ensures ∙ c.in-Some.ensures.cases.0 in
    let plain = subst IsPlain seen.kind e.file.plain in
    let file : seen.row.kind ≢ kind.Dir = plain_other seen.row.kind plain in
    let off = away p t.root c.in-Ok.seen seen e.file.away in
    let still = row_still t.root v.root st.alike p seen.row seen.there off in
    let has = has_file p c.in-Some.above.now c.in-Some.name.now v.root seen.row split still off file in
    changed g.W.World g.F.Files (ask.SetExec p c.args.exec) s v u c.args.cache.now c.meet_file.new.cache (λ h. st.readies.shown h ∙ e.same h)
    (le_trans (c.keeps_laws.ensures.counts _ s t e.keeps).1.1.1 (settles_leaves g.W.World g.F.Files t v _ st).everywhere.failures) e.cache
    (λ h. says_at R F p sets_exec G (row_at p t.root) seen.row seen.there (e.shown h) say.Ok
    (λ listed. sets_file seen.row.kind (content_with R (own_files F) (source_of seen.row.number seen.row.origin)) listed plain))
    (λ h.
    let H = g.F.Files.stored v.files in
    let V = shows g.W.World g.F.Files v in
    let dirs = kept_dirs R H v.root v.next (c.holds.ensures.kept h) in
    let there = shown_there c.shown_laws.ensures.below c.shown_laws.ensures.absent R H v.root dirs p seen.row still in
    c.in-Ok-set_kind.ensures.shown h seen.row has
    ∙ ap (λ (q : Path). graft q (leaf (node_from c.exec_kind-kind.result (content_shown R H seen.row) false)) V) (sym split)
    ∙ ap (λ (k : Kind). graft p (leaf (node_from k (content_shown R H seen.row) false)) V) c.exec_kind-kind.ensures.is
    ∙ exec_put V p c.args.exec seen.row.kind (content_shown R H seen.row) there.1.1.listed plain
    (there.1.0 ∙ ap (λ (n : Node). Some n) there.1.1.is)
    (λ n r. file_alone c.shown_laws.ensures.below R H p v.root seen.row dirs still file n r)
    ∙ ap (λ (T : Tree). done T (ask.SetExec p c.args.exec)) (st.readies.shown h ∙ e.same h))

pub returns-in-Err-set_kind-clause-attempts : goal.returns-in-Err-set_kind-clause-attempts
returns-in-Err-set_kind-clause-attempts g c =
    let p = c.args.path.now in
    let s = c.args.inodes.now in
    let t = c.meet_file.new.inodes in
    let v = c.settle.new.inodes in
    let st = c.settle.ensures.settles in
    let u = c.set_kind.new.inodes in
    let e = c.in-Ok.ensures in
    let x = c.in-Err-set_kind.ensures in
    refused g.W.World g.F.Files (ask.SetExec p c.args.exec) s v u c.args.cache.now c.meet_file.new.cache (λ h. st.readies.shown h ∙ e.same h)
    (le_trans (c.keeps_laws.ensures.counts _ s t e.keeps).1.1.1 (settles_leaves g.W.World g.F.Files t v _ st).everywhere.failures) e.cache c.in-Err-set_kind.fault x.atomic.fault
    (λ y is. cc) x.atomic.unseen

pub returns-in-Err-clause-leaves : goal.returns-in-Err-clause-leaves
returns-in-Err-clause-leaves g c = leaves_kept g.W.World g.F.Files (ask.SetExec c.args.path.now c.args.exec) c.args.inodes.now c.meet_file.new.inodes c.meet_file.ensures.keeps _

-- the file is there still, in a directory that is loaded
has_still : (g : _) (c : goal.In-Ok-set_kind g) → HasFile c.settle.new.inodes.root c.in-Some.above.now c.in-Some.name.now c.in-Ok.ensures.file.entry.row
has_still g c =
    let t = c.meet_file.new.inodes in
    let v = c.settle.new.inodes in
    let p = c.args.path.now in
    let file = c.in-Ok.ensures.file in
    let seen = file.entry in
    let off = away p t.root c.in-Ok.seen seen file.away in
    has_file p c.in-Some.above.now c.in-Some.name.now v.root seen.row (sym c.as_slice-2.ensures ∙ c.in-Some.ensures.cases.0)
    (row_still t.root v.root c.settle.ensures.settles.alike p seen.row seen.there off) off (plain_other seen.row.kind (subst IsPlain seen.kind file.plain))

pub returns-in-Ok-set_kind-clause-leaves : goal.returns-in-Ok-set_kind-clause-leaves
returns-in-Ok-set_kind-clause-leaves g c =
    let x = c.in-Ok-set_kind.ensures in
    let p = c.args.path.now in
    let t = c.meet_file.new.inodes in
    let v = c.settle.new.inodes in
    let u = c.set_kind.new.inodes in
    let st = c.settle.ensures.settles in
    let above = c.in-Some.above.now in
    let name = c.in-Some.name.now in
    let seen = c.in-Ok.ensures.file.entry in
    let has = has_still g c in
    let root = root_chained above v.root u.root (λ d. changed_listing d name (Some (of_kind c.exec_kind-kind.result seen.row)))
    (loaded_there above v.root has.row has.directory has.at has.holds) (x.ok seen.row has) in
    let l = leaves_by g.F.Files v u x.atomic.stays root x.atomic.marks (no_less v.next u.next x.next) x.atomic.clock (no_less (g.F.Files.failures v.files) (g.F.Files.failures u.files) x.counted)
    (places_same v u x.changes x.names) in
    let saved = subst (λ (r : Path). IsSavedAbove r v.root) c.as_slice.ensures c.in_default.ensures.saved in
    leaves_changed g.W.World g.F.Files (ask.SetExec p c.args.exec) c.args.inodes.now t c.meet_file.ensures.keeps u (Finished say.Ok) (λ e is. cc) (λ e is. cc)
    (leaves_then g.W.World g.F.Files t v u (settles_leaves g.W.World g.F.Files t v _ st) l)
    (none_given t.next u.next 0 (x.next ∙ st.readies.next)) (λ no. (saved_on p v.root u.root saved x.atomic.marks, tt))

pub returns-in-Err-set_kind-clause-leaves : goal.returns-in-Err-set_kind-clause-leaves
returns-in-Err-set_kind-clause-leaves g c =
    let x = c.in-Err-set_kind.ensures in
    let t = c.meet_file.new.inodes in
    let v = c.settle.new.inodes in
    let u = c.set_kind.new.inodes in
    let st = c.settle.ensures.settles in
    let counted = fault_count (g.F.Files.failures v.files) (g.F.Files.failures u.files) c.in-Err-set_kind.fault x.atomic.fault in
    let l = leaves_by g.F.Files v u x.atomic.stays (root_same v.root u.root x.atomic.err) x.atomic.marks (no_less v.next u.next x.next) x.atomic.clock counted (places_same v u x.changes x.names) in
    leaves_changed g.W.World g.F.Files (ask.SetExec c.args.path.now c.args.exec) c.args.inodes.now t c.meet_file.ensures.keeps u (Finished (say.Fault c.in-Err-set_kind.fault))
    (λ e is. cc) (λ e is. subst (SameNames t.root) (sym x.atomic.err) st.readies.names)
    (leaves_then g.W.World g.F.Files t v u (settles_leaves g.W.World g.F.Files t v _ st) l)
    (none_given t.next u.next 0 (x.next ∙ st.readies.next)) (λ no. absurd (no (c.in-Err-set_kind.fault, refl)))

pub returns-in-Err-clause-stamps : goal.returns-in-Err-clause-stamps
returns-in-Err-clause-stamps g c =
    stamps_kept g.W.World g.F.Files (ask.SetExec c.args.path.now c.args.exec) c.args.inodes.now c.meet_file.new.inodes c.meet_file.ensures.keeps (c.meet_file.ensures.walked, tt) _

pub returns-then-eq-clause-stamps : goal.returns-then-eq-clause-stamps
returns-then-eq-clause-stamps g c =
    stamps_kept g.W.World g.F.Files (ask.SetExec c.args.path.now c.args.exec) c.args.inodes.now c.meet_file.new.inodes c.meet_file.ensures.keeps (c.meet_file.ensures.walked, tt) _

pub returns-in-Err-settle-clause-stamps : goal.returns-in-Err-settle-clause-stamps
returns-in-Err-settle-clause-stamps g c =
    stamps_then g.W.World g.F.Files (ask.SetExec c.args.path.now c.args.exec) c.args.inodes.now c.meet_file.new.inodes c.meet_file.ensures.keeps
    (c.meet_file.ensures.walked, tt) c.settle.new.inodes _ (alike_stamps c.meet_file.new.inodes.root c.settle.new.inodes.root c.in-Err-settle.ensures.settles.alike)

pub returns-in-Ok-set_kind-clause-stamps : goal.returns-in-Ok-set_kind-clause-stamps
returns-in-Ok-set_kind-clause-stamps g c =
    let t = c.meet_file.new.inodes in
    let v = c.settle.new.inodes in
    let u = c.set_kind.new.inodes in
    let st = c.settle.ensures.settles in
    let above = c.in-Some.above.now in
    let name = c.in-Some.name.now in
    let seen = c.in-Ok.ensures.file.entry in
    let has = has_still g c in
    let none = chained_stamps v.root v.next c.settle.ensures.table above name (Some (of_kind c.exec_kind-kind.result seen.row)) has.unloaded has.row has.directory has.at has.holds u.root
    (c.in-Ok-set_kind.ensures.ok seen.row has has.row has.directory has.at has.holds) in
    stamps_then g.W.World g.F.Files (ask.SetExec c.args.path.now c.args.exec) c.args.inodes.now c.meet_file.new.inodes c.meet_file.ensures.keeps (c.meet_file.ensures.walked, tt) u _
    (stamps_on t.root v.root u.root (alike_stamps t.root v.root st.alike) none)

pub returns-in-Err-set_kind-clause-stamps : goal.returns-in-Err-set_kind-clause-stamps
returns-in-Err-set_kind-clause-stamps g c =
    let t = c.meet_file.new.inodes in
    let v = c.settle.new.inodes in
    let u = c.set_kind.new.inodes in
    stamps_then g.W.World g.F.Files (ask.SetExec c.args.path.now c.args.exec) c.args.inodes.now c.meet_file.new.inodes c.meet_file.ensures.keeps (c.meet_file.ensures.walked, tt) u _
    (stamps_on t.root v.root u.root (alike_stamps t.root v.root c.settle.ensures.settles.alike) (stamps_same v.root u.root c.in-Err-set_kind.ensures.atomic.err))

pub returns-in-Err-clause-edits : goal.returns-in-Err-clause-edits
returns-in-Err-clause-edits g c =
    edits_ended g.W.World g.F.Files (ask.SetExec c.args.path.now c.args.exec) c.args.inodes.now c.meet_file.new.inodes c.meet_file.ensures.keeps c.in-Err.stop _ c.ended.ensures

pub returns-then-eq-clause-edits : goal.returns-then-eq-clause-edits
returns-then-eq-clause-edits g c =
    edits_kept g.W.World g.F.Files (ask.SetExec c.args.path.now c.args.exec) c.args.inodes.now c.meet_file.new.inodes c.meet_file.ensures.keeps _ (λ M. refl)

pub returns-in-Err-settle-clause-edits : goal.returns-in-Err-settle-clause-edits
returns-in-Err-settle-clause-edits g c =
    let x = c.in-Err-settle.ensures.settles in
    edits_same g.W.World g.F.Files (ask.SetExec c.args.path.now c.args.exec) c.args.inodes.now c.meet_file.new.inodes c.meet_file.ensures.keeps _ (λ M. refl) c.settle.new.inodes x.readies.numbers
    (next_no_less c.meet_file.new.inodes.next c.settle.new.inodes.next x.readies.next)

pub returns-in-Ok-set_kind-clause-edits : goal.returns-in-Ok-set_kind-clause-edits
returns-in-Ok-set_kind-clause-edits g c =
    let x = c.set_kind.ensures in
    let st = c.settle.ensures.settles in
    edits_same g.W.World g.F.Files (ask.SetExec c.args.path.now c.args.exec) c.args.inodes.now c.meet_file.new.inodes c.meet_file.ensures.keeps _ (λ M. refl) c.set_kind.new.inodes
    (λ h r. x.numbers h r ∙ st.readies.numbers h r)
    (next_no_less c.meet_file.new.inodes.next c.set_kind.new.inodes.next (x.next ∙ st.readies.next))

pub returns-in-Err-set_kind-clause-edits : goal.returns-in-Err-set_kind-clause-edits
returns-in-Err-set_kind-clause-edits g c =
    let x = c.set_kind.ensures in
    let st = c.settle.ensures.settles in
    edits_same g.W.World g.F.Files (ask.SetExec c.args.path.now c.args.exec) c.args.inodes.now c.meet_file.new.inodes c.meet_file.ensures.keeps _ (λ M. refl) c.set_kind.new.inodes
    (λ h r. x.numbers h r ∙ st.readies.numbers h r)
    (next_no_less c.meet_file.new.inodes.next c.set_kind.new.inodes.next (x.next ∙ st.readies.next))
