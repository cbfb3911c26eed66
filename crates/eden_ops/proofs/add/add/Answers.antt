use Rattle.std.proofs.Common.{le_trans, ◌≤◌, ◌+◌, ◌==◌, ℕ, List, ◌++◌, ◌∷◌, Option, Some, Ok, Err, sym, refl, subst, ap, ◌∙◌}
use Rattle.eden_model.specs.declared.errno.Errno.TheVariants.{EEXIST}
use Rattle.eden_model.specs.declared.reply.Reply.TheVariants as say
use Rattle.eden_model.specs.Operations.{Meets as Table_Meets, Says}
use Rattle.eden_model.specs.Paths.{is_root}
use Rattle.eden_model.specs.Trees.{Tree, Path, Reach, reach, graft}
use Rattle.eden_tree.specs.Paths.{row_at}
use Rattle.eden_coupling.specs.Changing.{changed as changed_listing}
use Rattle.eden_coupling.specs.Filing.{leaf}
use Rattle.eden_coupling.specs.Saving.{IsSavedAbove}
use Rattle.eden_coupling.proofs.CallerLemmas.{loaded_there}
use Rattle.eden_inode.specs.declared.seen.Seen.{Seen}
use Rattle.eden_inode.specs.Tables.{shows}
use Rattle.eden_materialise.specs.Filing.{node_as, own_row, LacksEntry}
use Rattle.eden_model.specs.declared.attempt.Attempt.TheVariants.{Finished}
use Rattle.eden_inode.proofs.CallerLemmas.{places_rise}
use Rattle.eden_ops.specs.Attempts.{Meets, MeetsShown, IsShown}
use Rattle.eden_ops.specs.Keeping.{same}
use Rattle.eden_ops.specs.Changes.{SameNames}
use Rattle.eden_ops.specs.Leaving.{AreSavedAbove, given}
use Rattle.eden_ops.proofs.Additions.{adds, asked_add, short_new, lacks_entry, may_add}
use Rattle.eden_ops.proofs.Additions.{absent_alone, put_new, not_added, root_refused, add_count, given_more, given_places, one_given, adds_one, adds_path, adds_keeps, one_more, one_at_most, no_kind}
use Rattle.eden_ops.proofs.Answering.{walk_ended, says_here}
use Rattle.eden_ops.proofs.Changing.{not_root, changed, refused}
use Rattle.eden_ops.proofs.Roots.{root_same, root_chained}
use Rattle.eden_ops.proofs.Leaving.{none_given, leaves_kept, leaves_changed}
use Rattle.eden_ops.proofs.Saving.{leaves_by, no_less}
use Rattle.eden_ops.proofs.Settled.{row_none, walk_still, settles_leaves, leaves_then, saved_on}
use Rattle.eden_ops.proofs.Seeing.{kept_dirs}
use Rattle.eden_ops.specs.Stamps.{AreWalked}
use Rattle.eden_ops.proofs.Stamped.{stamps_on, stamps_same, alike_stamps, chained_stamps, stamps_refused, stamps_then, stamps_kept}
use Rattle.eden_ops.proofs.Renumbering.{absent_none, adds_leaves, edits_came, edits_ended, edits_kept, edits_same, given_no_less, next_no_less, none_numbered}
use Rattle.eden_materialise.specs.Renumbering.{PutsNumber}
use Rattle.eden_ops.proofs.add.add.Goals as goal

pub returns-in-Err-clause-attempts : goal.returns-in-Err-clause-attempts
returns-in-Err-clause-attempts g c q adding =
    let e = c.in-Err.ensures in
    walk_ended g.W.World g.F.Files q c.args.path.now adds
    (asked_add c.args.path.now (not_root c.args.path.now c.in-Some.above.now c.in-Some.name.now (sym c.as_slice.ensures ∙ c.in-Some.ensures.cases.0)) q c.args.new adding) c.args.inodes.now
    c.meet.new.inodes c.args.cache.now c.meet.new.cache
    e.same (adds_keeps g.W.World g.F.Files c.args.path.now q c.args.new adding c.args.inodes.now c.meet.new.inodes e.keeps) e.cache c.in-Err.stop _ c.ended.ensures e.meets e.shown

pub returns-in-Err-clause-leaves : goal.returns-in-Err-clause-leaves
returns-in-Err-clause-leaves g c q adding = leaves_kept g.W.World g.F.Files q c.args.inodes.now c.meet.new.inodes
    (adds_keeps g.W.World g.F.Files c.args.path.now q c.args.new adding c.args.inodes.now c.meet.new.inodes c.meet.ensures.keeps) _

pub returns-in-Ok-Some-clause-leaves : goal.returns-in-Ok-Some-clause-leaves
returns-in-Ok-Some-clause-leaves g c q adding = leaves_kept g.W.World g.F.Files q c.args.inodes.now c.meet.new.inodes
    (adds_keeps g.W.World g.F.Files c.args.path.now q c.args.new adding c.args.inodes.now c.meet.new.inodes c.meet.ensures.keeps) _

pub returns-in-Err-settle-clause-attempts : goal.returns-in-Err-settle-clause-attempts
returns-in-Err-settle-clause-attempts g c q adding =
    let s = c.args.inodes.now in
    let t = c.meet.new.inodes in
    let e = c.in-Ok-None.ensures in
    let x = c.in-Err-settle.ensures.settles.readies in
    refused g.W.World g.F.Files q s t c.settle.new.inodes c.args.cache.now c.meet.new.cache e.same ((c.keeps_laws.ensures.counts _ s t e.keeps).1.1.1) e.cache c.in-Err-settle.fault x.fault
    (λ y is. no_kind c.args.path.now y q c.args.new adding is) x.shown

pub returns-in-Err-settle-clause-leaves : goal.returns-in-Err-settle-clause-leaves
returns-in-Err-settle-clause-leaves g c q adding =
    let t = c.meet.new.inodes in
    let v = c.settle.new.inodes in
    let x = c.in-Err-settle.ensures.settles in
    leaves_changed g.W.World g.F.Files q c.args.inodes.now t
    (adds_keeps g.W.World g.F.Files c.args.path.now q c.args.new adding c.args.inodes.now c.meet.new.inodes c.meet.ensures.keeps) v (Finished (say.Fault c.in-Err-settle.fault)) (λ e is. cc)
    (λ e is. x.readies.names)
    (settles_leaves g.W.World g.F.Files t v _ x) (none_given t.next v.next (given q) x.readies.next) (λ no. absurd (no (c.in-Err-settle.fault, refl)))

pub add_entry-requires-clause-lacks : goal.add_entry-requires-clause-lacks
add_entry-requires-clause-lacks g c =
    let p = c.args.path.now in
    let s = c.args.inodes.now in
    let t = c.meet.new.inodes in
    let v = c.settle.new.inodes in
    let alike = c.settle.ensures.settles.alike in
    let met = subst (λ (o : Option Seen). Meets g.W.World g.F.Files p s t c.meet.new.cache (Ok o)) c.in-Ok-None.field-0-is c.in-Ok-None.ensures.meets in
    lacks_entry p c.in-Some.above.now c.in-Some.name.now v.root (sym c.as_slice.ensures ∙ c.in-Some.ensures.cases.0) (walk_still t.root v.root alike p ∙ met.0) (row_none t.root v.root alike p met.1)

pub add_entry-requires-clause-short : goal.add_entry-requires-clause-short
add_entry-requires-clause-short g c = short_new c.args.path.now c.requires.asked.0 c.args.new c.requires.asked.1

pub returns-in-Ok-clause-attempts : goal.returns-in-Ok-clause-attempts
returns-in-Ok-clause-attempts g c q adding =
    let p = c.args.path.now in
    let s = c.args.inodes.now in
    let t = c.meet.new.inodes in
    let v = c.settle.new.inodes in
    let u = c.add_entry.new.inodes in
    let x = c.settle.ensures.settles in
    let e = c.in-Ok-None.ensures in
    let R = g.W.World.repository in
    let F = g.F.Files.stored t.files in
    let G = shows g.W.World g.F.Files s in
    let split = sym c.as_slice.ensures ∙ c.in-Some.ensures.cases.0 in
    let root = not_root p c.in-Some.above.now c.in-Some.name.now split in
    let met = subst (λ (o : Option Seen). Meets g.W.World g.F.Files p s t c.meet.new.cache (Ok o)) c.in-Ok-None.field-0-is e.meets in
    let lacks = lacks_entry p c.in-Some.above.now c.in-Some.name.now t.root split met.0 met.1 in
    changed g.W.World g.F.Files q s v u c.args.cache.now c.meet.new.cache (λ h. x.readies.shown h ∙ e.same h)
    (le_trans (c.keeps_laws.ensures.counts _ s t e.keeps).1.1.1 (settles_leaves g.W.World g.F.Files t v _ x).everywhere.failures) e.cache
    (λ h. (asked_add p root q c.args.new adding).says G say.Ok
    (subst (λ (x : Reach). Table_Meets x (Says say.Ok) (adds G) say.Ok) (sym (subst (λ (o : Option Seen). MeetsShown g.W.World g.F.Files p s t (Ok o)) c.in-Ok-None.field-0-is (e.shown h))) refl))
    (λ h.
    c.in-Ok.ensures.shown h
    ∙ ap (λ (r : Path). graft r (leaf (node_as c.args.new)) (shows g.W.World g.F.Files v)) (sym split)
    ∙ ap (graft p (leaf (node_as c.args.new))) (x.readies.shown h ∙ e.same h)
    ∙ put_new G p q c.args.new adding (λ n r. sym (ap (λ (T : Tree). T (p ++ n ∷ r)) (e.same h))
    ∙ absent_alone c.shown_laws.ensures.absent R F p c.in-Some.above.now c.in-Some.name.now t.root (kept_dirs R F t.root t.next (c.holds.ensures.kept h)) split lacks n r))

-- the entry isn't there still, and the directory above it is loaded
lacks_still : (g : _) (c : goal.In-Ok g) → LacksEntry c.settle.new.inodes.root c.in-Some.above.now c.in-Some.name.now
lacks_still g c =
    let p = c.args.path.now in
    let t = c.meet.new.inodes in
    let v = c.settle.new.inodes in
    let alike = c.settle.ensures.settles.alike in
    let met = subst (λ (o : Option Seen). Meets g.W.World g.F.Files p c.args.inodes.now t c.meet.new.cache (Ok o)) c.in-Ok-None.field-0-is c.in-Ok-None.ensures.meets in
    lacks_entry p c.in-Some.above.now c.in-Some.name.now v.root (sym c.as_slice.ensures ∙ c.in-Some.ensures.cases.0) (walk_still t.root v.root alike p ∙ met.0) (row_none t.root v.root alike p met.1)

pub returns-in-Ok-clause-leaves : goal.returns-in-Ok-clause-leaves
returns-in-Ok-clause-leaves g c q adding =
    let x = c.in-Ok.ensures in
    let t = c.meet.new.inodes in
    let v = c.settle.new.inodes in
    let u = c.add_entry.new.inodes in
    let p = c.args.path.now in
    let above = c.in-Some.above.now in
    let name = c.in-Some.name.now in
    let st = c.settle.ensures.settles in
    let lacks = lacks_still g c in
    let root = root_chained above v.root u.root (λ d. changed_listing d name (Some (own_row v.next c.args.new))) (loaded_there above v.root lacks.row lacks.directory lacks.at lacks.holds) x.ok in
    let counted = no_less (g.F.Files.failures v.files) (g.F.Files.failures u.files) x.counted in
    let l = leaves_by g.F.Files v u x.atomic.stays root x.atomic.marks (one_given v.next u.next x.next) x.atomic.clock counted (places_rise v u x.changes) in
    let saved = subst (λ (r : Path). IsSavedAbove r v.root) c.as_slice-2.ensures c.in_default-settle.ensures.saved in
    leaves_changed g.W.World g.F.Files q c.args.inodes.now t
    (adds_keeps g.W.World g.F.Files c.args.path.now q c.args.new adding c.args.inodes.now c.meet.new.inodes c.meet.ensures.keeps) u (Finished say.Ok) (λ e is. cc) (λ e is. cc)
    (leaves_then g.W.World g.F.Files t v u (settles_leaves g.W.World g.F.Files t v _ st) l)
    (subst (λ (k : ℕ). u.next ≤ k + given q) st.readies.next (one_more v.next u.next (given q) x.next (adds_one p q c.args.new adding)))
    (λ no. subst (λ (ps : List Path). AreSavedAbove ps u.root) (sym (adds_path p q c.args.new adding)) (saved_on p v.root u.root saved x.atomic.marks, tt))

pub returns-in-Err-add_entry-clause-attempts : goal.returns-in-Err-add_entry-clause-attempts
returns-in-Err-add_entry-clause-attempts g c q adding =
    let s = c.args.inodes.now in
    let t = c.meet.new.inodes in
    let v = c.settle.new.inodes in
    let u = c.add_entry.new.inodes in
    let st = c.settle.ensures.settles in
    let e = c.in-Ok-None.ensures in
    let x = c.in-Err-add_entry.ensures in
    let p = c.args.path.now in
    let root = not_root p c.in-Some.above.now c.in-Some.name.now (sym c.as_slice.ensures ∙ c.in-Some.ensures.cases.0) in
    let met = subst (λ (o : Option Seen). Meets g.W.World g.F.Files p s t c.meet.new.cache (Ok o)) c.in-Ok-None.field-0-is e.meets in
    not_added g.W.World g.F.Files p q c.args.new adding s v u c.args.cache.now c.meet.new.cache (λ h. st.readies.shown h ∙ e.same h)
    (le_trans (c.keeps_laws.ensures.counts _ s t e.keeps).1.1.1 (settles_leaves g.W.World g.F.Files t v _ st).everywhere.failures) e.cache c.in-Err-add_entry.fault
    (may_add p q c.args.new adding root v.root (walk_still t.root v.root st.alike p ∙ met.0) (row_none t.root v.root st.alike p met.1)) x.atomic.fault
    (λ is. x.unused (ap Err is)) x.atomic.unseen

pub returns-in-Err-add_entry-clause-leaves : goal.returns-in-Err-add_entry-clause-leaves
returns-in-Err-add_entry-clause-leaves g c q adding =
    let x = c.in-Err-add_entry.ensures in
    let t = c.meet.new.inodes in
    let v = c.settle.new.inodes in
    let u = c.add_entry.new.inodes in
    let st = c.settle.ensures.settles in
    let counted = add_count v.next (g.F.Files.failures v.files) (g.F.Files.failures u.files) c.in-Err-add_entry.fault x.atomic.fault in
    let places = given_places v u x.atomic.err x.given in
    let l = leaves_by g.F.Files v u x.atomic.stays (root_same v.root u.root x.atomic.err) x.atomic.marks (given_more v.next u.next _ _ x.given) x.atomic.clock counted places in
    leaves_changed g.W.World g.F.Files q c.args.inodes.now t
    (adds_keeps g.W.World g.F.Files c.args.path.now q c.args.new adding c.args.inodes.now c.meet.new.inodes c.meet.ensures.keeps) u (Finished (say.Fault c.in-Err-add_entry.fault))
    (λ e is. cc) (λ e is. subst (SameNames t.root) (sym x.atomic.err) st.readies.names) (leaves_then g.W.World g.F.Files t v u (settles_leaves g.W.World g.F.Files t v _ st) l)
    (subst (λ (k : ℕ). u.next ≤ k + given q) st.readies.next (one_at_most v.next u.next (given q) _ _ x.given (adds_one c.args.path.now q c.args.new adding)))
    (λ no. absurd (no (c.in-Err-add_entry.fault, refl)))

pub returns-in_default-clause-attempts : goal.returns-in_default-clause-attempts
returns-in_default-clause-attempts g c q adding =
    let p = c.args.path.now in
    let s = c.args.inodes.now in
    root_refused g.W.World g.F.Files p q c.args.new adding s c.args.cache.now (ap is_root (sym c.as_slice.ensures) ∙ ap (λ (n : ℕ). n == 0) c.in_default.ensures.cases)

pub returns-in-Ok-Some-clause-attempts : goal.returns-in-Ok-Some-clause-attempts
returns-in-Ok-Some-clause-attempts g c q adding =
    let p = c.args.path.now in
    let s = c.args.inodes.now in
    let t = c.meet.new.inodes in
    let e = c.in-Ok-Some.ensures in
    let root = not_root p c.in-Some.above.now c.in-Some.name.now (sym c.as_slice.ensures ∙ c.in-Some.ensures.cases.0) in
    let seen = subst (λ (o : Option Seen). Meets g.W.World g.F.Files p s t c.meet.new.cache (Ok o)) c.in-Ok-Some.field-0-is e.meets in
    let shown : g.W.World.honest → IsShown g.W.World.repository (g.F.Files.stored t.files) (row_at p t.root) (reach (shows g.W.World g.F.Files s) p) = λ h. subst
    (λ (o : Option Seen). MeetsShown g.W.World g.F.Files p s t (Ok o)) c.in-Ok-Some.field-0-is (e.shown h) in
    says_here g.W.World g.F.Files q p adds (asked_add p root q c.args.new adding) s t c.args.cache.now c.meet.new.cache e.same
    (adds_keeps g.W.World g.F.Files p q c.args.new adding s t e.keeps) e.cache seen.row seen.there shown (say.Err EEXIST) refl
    (λ T. refl) (λ h listed. refl)

pub returns-in_default-clause-leaves : goal.returns-in_default-clause-leaves
returns-in_default-clause-leaves g c q adding = leaves_kept g.W.World g.F.Files q c.args.inodes.now c.args.inodes.now same _

pub returns-in-Err-clause-stamps : goal.returns-in-Err-clause-stamps
returns-in-Err-clause-stamps g c q adding = stamps_kept g.W.World g.F.Files q c.args.inodes.now c.meet.new.inodes
    (adds_keeps g.W.World g.F.Files c.args.path.now q c.args.new adding c.args.inodes.now c.meet.new.inodes c.meet.ensures.keeps)
    (subst (λ (ps : List Path). AreWalked ps c.meet.new.inodes.clock c.meet.new.inodes.root) (sym (adds_path c.args.path.now q c.args.new adding)) (c.meet.ensures.walked, tt)) _

pub returns-in-Ok-Some-clause-stamps : goal.returns-in-Ok-Some-clause-stamps
returns-in-Ok-Some-clause-stamps g c q adding = stamps_kept g.W.World g.F.Files q c.args.inodes.now c.meet.new.inodes
    (adds_keeps g.W.World g.F.Files c.args.path.now q c.args.new adding c.args.inodes.now c.meet.new.inodes c.meet.ensures.keeps)
    (subst (λ (ps : List Path). AreWalked ps c.meet.new.inodes.clock c.meet.new.inodes.root) (sym (adds_path c.args.path.now q c.args.new adding)) (c.meet.ensures.walked, tt)) _

pub returns-in-Err-settle-clause-stamps : goal.returns-in-Err-settle-clause-stamps
returns-in-Err-settle-clause-stamps g c q adding = stamps_then g.W.World g.F.Files q c.args.inodes.now c.meet.new.inodes
    (adds_keeps g.W.World g.F.Files c.args.path.now q c.args.new adding c.args.inodes.now c.meet.new.inodes c.meet.ensures.keeps)
    (subst (λ (ps : List Path). AreWalked ps c.meet.new.inodes.clock c.meet.new.inodes.root) (sym (adds_path c.args.path.now q c.args.new adding))
    (c.meet.ensures.walked, tt)) c.settle.new.inodes _ (alike_stamps c.meet.new.inodes.root c.settle.new.inodes.root c.in-Err-settle.ensures.settles.alike)

pub returns-in-Ok-clause-stamps : goal.returns-in-Ok-clause-stamps
returns-in-Ok-clause-stamps g c q adding =
    let t = c.meet.new.inodes in
    let v = c.settle.new.inodes in
    let u = c.add_entry.new.inodes in
    let above = c.in-Some.above.now in
    let name = c.in-Some.name.now in
    let st = c.settle.ensures.settles in
    let lacks = lacks_still g c in
    let none = chained_stamps v.root v.next c.settle.ensures.table above name (Some (own_row v.next c.args.new)) refl lacks.row lacks.directory lacks.at lacks.holds u.root
    (c.in-Ok.ensures.ok lacks.row lacks.directory lacks.at lacks.holds) in
    stamps_then g.W.World g.F.Files q c.args.inodes.now c.meet.new.inodes
    (adds_keeps g.W.World g.F.Files c.args.path.now q c.args.new adding c.args.inodes.now c.meet.new.inodes c.meet.ensures.keeps)
    (subst (λ (ps : List Path). AreWalked ps c.meet.new.inodes.clock c.meet.new.inodes.root) (sym (adds_path c.args.path.now q c.args.new adding)) (c.meet.ensures.walked, tt)) u _
    (stamps_on t.root v.root u.root (alike_stamps t.root v.root st.alike) none)

pub returns-in-Err-add_entry-clause-stamps : goal.returns-in-Err-add_entry-clause-stamps
returns-in-Err-add_entry-clause-stamps g c q adding =
    let t = c.meet.new.inodes in
    let v = c.settle.new.inodes in
    let u = c.add_entry.new.inodes in
    stamps_then g.W.World g.F.Files q c.args.inodes.now c.meet.new.inodes
    (adds_keeps g.W.World g.F.Files c.args.path.now q c.args.new adding c.args.inodes.now c.meet.new.inodes c.meet.ensures.keeps)
    (subst (λ (ps : List Path). AreWalked ps c.meet.new.inodes.clock c.meet.new.inodes.root) (sym (adds_path c.args.path.now q c.args.new adding)) (c.meet.ensures.walked, tt)) u _
    (stamps_on t.root v.root u.root (alike_stamps t.root v.root c.settle.ensures.settles.alike) (stamps_same v.root u.root c.in-Err-add_entry.ensures.atomic.err))

pub returns-in_default-clause-stamps : goal.returns-in_default-clause-stamps
returns-in_default-clause-stamps g c q adding = stamps_refused g.W.World g.F.Files q c.args.inodes.now c.args.inodes.now same _ EEXIST refl

pub returns-in-Err-clause-edits : goal.returns-in-Err-clause-edits
returns-in-Err-clause-edits g c q adding =
    edits_ended g.W.World g.F.Files q c.args.inodes.now c.meet.new.inodes
    (adds_keeps g.W.World g.F.Files c.args.path.now q c.args.new adding c.args.inodes.now c.meet.new.inodes c.meet.ensures.keeps) c.in-Err.stop _ c.ended.ensures

pub returns-in-Ok-Some-clause-edits : goal.returns-in-Ok-Some-clause-edits
returns-in-Ok-Some-clause-edits g c q adding =
    edits_kept g.W.World g.F.Files q c.args.inodes.now c.meet.new.inodes (adds_keeps g.W.World g.F.Files c.args.path.now q c.args.new adding c.args.inodes.now c.meet.new.inodes c.meet.ensures.keeps)
    _ (λ M. refl)

pub returns-in_default-clause-edits : goal.returns-in_default-clause-edits
returns-in_default-clause-edits g c q adding =
    edits_kept g.W.World g.F.Files q c.args.inodes.now c.args.inodes.now same _ (λ M. refl)

pub returns-in-Err-settle-clause-edits : goal.returns-in-Err-settle-clause-edits
returns-in-Err-settle-clause-edits g c q adding =
    let x = c.in-Err-settle.ensures.settles in
    edits_same g.W.World g.F.Files q c.args.inodes.now c.meet.new.inodes (adds_keeps g.W.World g.F.Files c.args.path.now q c.args.new adding c.args.inodes.now c.meet.new.inodes c.meet.ensures.keeps)
    _ (λ M. refl) c.settle.new.inodes x.readies.numbers (next_no_less c.meet.new.inodes.next c.settle.new.inodes.next x.readies.next)

pub returns-in-Err-add_entry-clause-edits : goal.returns-in-Err-add_entry-clause-edits
returns-in-Err-add_entry-clause-edits g c q adding =
    let x = c.in-Err-add_entry.ensures in
    let st = c.settle.ensures.settles in
    edits_same g.W.World g.F.Files q c.args.inodes.now c.meet.new.inodes (adds_keeps g.W.World g.F.Files c.args.path.now q c.args.new adding c.args.inodes.now c.meet.new.inodes c.meet.ensures.keeps)
    _ (λ M. refl) c.add_entry.new.inodes (λ h r. x.unnumbered h r ∙ st.readies.numbers h r)
    (subst (λ (k : ℕ). k ≤ c.add_entry.new.inodes.next) st.readies.next (given_no_less c.settle.new.inodes.next c.add_entry.new.inodes.next x.given))

pub returns-in-Ok-clause-edits : goal.returns-in-Ok-clause-edits
returns-in-Ok-clause-edits g c q adding =
    let p = c.args.path.now in
    let s = c.args.inodes.now in
    let t = c.meet.new.inodes in
    let v = c.settle.new.inodes in
    let u = c.add_entry.new.inodes in
    let st = c.settle.ensures.settles in
    let x = c.in-Ok.ensures in
    let e = c.in-Ok-None.ensures in
    let R = g.W.World.repository in
    let F = g.F.Files.stored t.files in
    let split = sym c.as_slice.ensures ∙ c.in-Some.ensures.cases.0 in
    edits_came g.W.World g.F.Files q s t (adds_keeps g.W.World g.F.Files c.args.path.now q c.args.new adding c.args.inodes.now c.meet.new.inodes c.meet.ensures.keeps) v u p st.readies.numbers
    st.readies.next x.next
    (λ h. subst (λ (r : Path). PutsNumber g.F.Files r (Some v.next) v u) (sym split) (x.renumbers h))
    (λ h. none_numbered g.W.World g.F.Files c.numbering_laws.ensures.nodes t (kept_dirs R F t.root t.next (c.holds.ensures.kept h)) (c.holds.ensures.numbers h) p
    (ap (λ (G : Tree). G p) (e.same h)
    ∙ absent_none (shows g.W.World g.F.Files s) p (subst (λ (o : Option Seen). MeetsShown g.W.World g.F.Files p s t (Ok o)) c.in-Ok-None.field-0-is (e.shown h))))
    (Finished say.Ok) (adds_leaves c.args.path.now q c.args.new adding)
