use Rattle.std.proofs.Common.{ℕ, false, Some, IfErr, ◌∙◌, ap, subst, sym, refl}
use Rattle.std.proofs.lemmas.Result.{on_ok_weaker, on_err_weaker}
use Rattle.eden_model.specs.Shown.{node_from}
use Rattle.eden_model.specs.Trees.{Path, graft}
use Rattle.eden_overlay_format.specs.Directory.{is_own}
use Rattle.eden_coupling.specs.Changing.{changed}
use Rattle.eden_coupling.specs.Saving.{IsSavedAbove}
use Rattle.eden_coupling.specs.Filing.{leaf}
use Rattle.eden_coupling.specs.Laws.{owned}
use Rattle.eden_materialise.specs.Faults.{IsStoreFault}
use Rattle.eden_ops.specs.Changes.{SameNames}
use Rattle.eden_inode.specs.Tables.{shows}
use Rattle.eden_inode.proofs.CallerLemmas.{places_same}
use Rattle.eden_ops.proofs.Changing.{has_file, file_alone, put_alone}
use Rattle.eden_ops.proofs.Roots.{root_filled, owned_root}
use Rattle.eden_ops.proofs.Saving.{leaves_by, no_less, stored_count}
use Rattle.eden_ops.proofs.Settled.{row_still, settles_leaves, leaves_then, saved_on, on_ok}
use Rattle.eden_ops.proofs.Seeing.{kept_dirs}
use Rattle.eden_ops.proofs.Stamped.{stamps_on, alike_stamps, filled_stamps}
use Rattle.eden_ops.proofs.fill.fill.Goals as goal

-- ---- the directories above weren't stored

pub returns-in-Err : goal.returns-in-Err
returns-in-Err g c =
    let e = c.in-Err.ensures.settles in
    record {
      shown = λ h y at. tt;
      unseen = e.readies.shown;
      numbers = e.readies.numbers;
      names = e.readies.names;
      fault = e.readies.fault;
      leaves = settles_leaves g.W.World g.F.Files c.args.inodes.now c.settle.new.inodes _ e;
      stamps = alike_stamps c.args.inodes.now.root c.settle.new.inodes.root e.alike;
      next = e.readies.next;
      changes = c.settle.ensures.changes;
      saved = tt;
    }

-- ---- they were, or had to be no more

pub store_content-requires-clause-there : goal.store_content-requires-clause-there
store_content-requires-clause-there g c =
    let h = c.requires.there in
    let p = c.args.path.now in
    let v = c.settle.new.inodes in
    let there = row_still c.args.inodes.now.root v.root c.settle.ensures.settles.alike p h.0 h.1.there h.1.unloaded in
    (h.0, has_file p c.in-Some.above.now c.in-Some.name.now v.root h.0 (sym c.as_slice.ensures ∙ c.in-Some.ensures.cases.0) there h.1.unloaded h.1.file)

pub returns : goal.returns
returns g c =
    let s = c.args.inodes.now in
    let v = c.settle.new.inodes in
    let t = c.store_content.new.inodes in
    let e = c.settle.ensures.settles in
    let x = c.store_content.ensures in
    let R = g.W.World.repository in
    let above = c.in-Some.above.now in
    let name = c.in-Some.name.now in
    let p = c.args.path.now in
    let h = c.requires.there in
    let split = sym c.as_slice.ensures ∙ c.in-Some.ensures.cases.0 in
    let there = row_still s.root v.root e.alike p h.0 h.1.there h.1.unloaded in
    let file = has_file p above name v.root h.0 split there h.1.unloaded h.1.file in
    let ok = owned_root c.store_content.result above name v.root t.root h.0 file x.ok in
    let root = root_filled c.store_content.result (is_own h.0.origin) above v.root t.root (changed file.directory name (Some (owned h.0))) ok x.atomic.err in
    let counted = stored_count c.store_content.result (g.F.Files.failures v.files) (g.F.Files.failures t.files) x.atomic.fault x.counted in
    record {
      shown = λ h y at.
          let content = leaf (node_from y.kind (Some c.args.content) false) in
          let still = row_still s.root v.root e.alike p y at.there at.unloaded in
          on_ok_weaker c.store_content.result
          (λ shown.
          shown y (has_file p above name v.root y split still at.unloaded at.file)
          ∙ ap (λ (q : Path). graft q content (shows g.W.World g.F.Files v)) (sym split)
          ∙ ap (graft p content) (e.readies.shown h)
          ∙ put_alone (shows g.W.World g.F.Files s) p content
          (λ n r. file_alone c.shown_laws.ensures.below R (g.F.Files.stored s.files) p s.root y (kept_dirs R (g.F.Files.stored s.files) s.root s.next (c.holds.ensures.kept h)) at.there at.file n r)
          (λ n r. refl))
          (x.shown h);
      unseen = λ h. on_err_weaker c.store_content.result (λ is. is ∙ e.readies.shown h) (x.atomic.unseen h);
      numbers = λ h q. x.numbers h q ∙ e.readies.numbers h q;
      names = on_err_weaker c.store_content.result (λ is. subst (SameNames s.root) (sym is) e.readies.names) x.atomic.err;
      fault = subst (λ (k : ℕ). IfErr c.store_content.result (IsStoreFault k (g.F.Files.failures t.files))) c.in_default-settle.ensures.settles.readies.counted x.atomic.fault;
      leaves =
          leaves_then g.W.World g.F.Files s v t (settles_leaves g.W.World g.F.Files s v _ e)
          (leaves_by g.F.Files v t x.atomic.stays root x.atomic.marks (no_less v.next t.next x.next) x.atomic.clock counted (places_same v t x.changes x.names));
      stamps =
          stamps_on s.root v.root t.root (alike_stamps s.root v.root e.alike)
          (filled_stamps v.root v.next c.settle.ensures.table above name (Some (owned h.0)) h.1.unloaded file.row file.directory file.at file.holds c.store_content.result
          (is_own h.0.origin) t.root ok x.atomic.err);
      next = x.next ∙ e.readies.next;
      changes = x.changes ∙ c.settle.ensures.changes;
      saved = on_ok c.store_content.result _
          (saved_on p v.root t.root (subst (λ (q : Path). IsSavedAbove q v.root) c.as_slice-2.ensures c.in_default-settle.ensures.saved) x.atomic.marks);
    }
