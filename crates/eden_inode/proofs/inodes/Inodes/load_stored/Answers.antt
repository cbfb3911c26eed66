use Rattle.std.proofs.Common.{◌≡◌, Some, refl, sym, ap, ◌∙◌, subst}
use Rattle.eden_model.specs.Backing.{Gains}
use Rattle.eden_overlay.specs.Files.{Stored}
use Rattle.eden_overlay.specs.Held.{HoldsEntries, saved_at}
use Rattle.eden_tree.specs.Directory.{Row}
use Rattle.eden_tree.specs.Paths.{row_at}
use Rattle.eden_coupling.specs.Kept.{IsTable, IsKept}
use Rattle.eden_coupling.specs.Listings.{listing_of}
use Rattle.eden_coupling.specs.NumberKept.{KeepsNumbers}
use Rattle.eden_coupling.specs.NumberSaves.{IsSameOver}
use Rattle.eden_coupling.specs.Numberings.{in_files, numbers}
use Rattle.eden_coupling.specs.Shown.{shown_in}
use Rattle.eden_coupling.proofs.CallerLemmas.{own_loads_table}
use Rattle.eden_inode.specs.Tables.{Table, HasNoTree, LoadsStored}
use Rattle.eden_inode.proofs.Rows.{same_some}
use Rattle.eden_inode.proofs.Loads.{some_at, stored_over, same_gains}
use Rattle.eden_inode.proofs.inodes.Inodes.load_stored.Goals as goal

pub same-self-in_err-dirs : goal.same-self-in_err-dirs
same-self-in_err-dirs g c = refl

pub same-dir : goal.same-dir
same-dir g c = refl

pub put_loaded-requires : goal.put_loaded-requires
put_loaded-requires g c =
    some_at g.W.World.honest (g.F.Files.stored c.args.self.now.files) c.args.path.now c.self.inside.root
    (subst (λ (v : Table _). HasNoTree g.W.World.honest (g.F.Files.stored c.args.self.now.files) c.args.path.now v.root) (sym c.self.view_is) c.requires)

pub invariant_of-self : goal.invariant_of-self
invariant_of-self g c = (
  c.self.invariant.0,
  (
    λ h. subst (λ (G : Stored). IsKept g.W.World.repository G c.self.inside.root c.self.inside.next) (sym (c.in_err-dir.ensures.files h)) (c.self.invariant.1.0 h),
    λ h. subst (λ (G : Stored). KeepsNumbers g.W.World.repository G c.self.inside.root c.self.inside.next) (sym (c.in_err-dir.ensures.files h)) (c.self.invariant.1.1 h),
  ),
)

pub returns-in_err-dir-clause-shown : goal.returns-in_err-dir-clause-shown
returns-in_err-dir-clause-shown g c h =
    ap (λ (G : Stored). shown_in g.W.World.repository G c.self.inside.root) (c.in_err-dir.ensures.files h)
    ∙ ap (λ (v : Table _). shown_in g.W.World.repository (g.F.Files.stored v.files) v.root) c.self.view_is

pub invariant_of-self-in_err-boxes : goal.invariant_of-self-in_err-boxes
invariant_of-self-in_err-boxes g c = (
  c.self.invariant.0,
  (
    λ h. subst (λ (G : Stored). IsKept g.W.World.repository G c.self.inside.root c.self.inside.next) (sym (c.in_ok-dir.ensures.files h)) (c.self.invariant.1.0 h),
    λ h. subst (λ (G : Stored). KeepsNumbers g.W.World.repository G c.self.inside.root c.self.inside.next) (sym (c.in_ok-dir.ensures.files h)) (c.self.invariant.1.1 h),
  ),
)

pub returns-in_err-boxes-clause-shown : goal.returns-in_err-boxes-clause-shown
returns-in_err-boxes-clause-shown g c h =
    ap (λ (G : Stored). shown_in g.W.World.repository G c.self.inside.root) (c.in_ok-dir.ensures.files h)
    ∙ ap (λ (v : Table _). shown_in g.W.World.repository (g.F.Files.stored v.files) v.root) c.self.view_is

pub invariant_of-self-in_err-put_loaded : goal.invariant_of-self-in_err-put_loaded
invariant_of-self-in_err-put_loaded g c =
    let t = c.self.inside in
    let is = sym c.in_err-put_loaded.ensures.err in (
      subst (λ (z : Row). IsTable z t.next) is c.self.invariant.0,
      (
        λ h. subst (λ (G : Stored). IsKept g.W.World.repository G c.put_loaded.new.root t.next) (sym (c.in_ok-dir.ensures.files h))
            (subst (λ (z : Row). IsKept g.W.World.repository (g.F.Files.stored t.overlay) z t.next) is (c.self.invariant.1.0 h)),
        λ h. subst (λ (G : Stored). KeepsNumbers g.W.World.repository G c.put_loaded.new.root t.next) (sym (c.in_ok-dir.ensures.files h))
            (subst (λ (z : Row). KeepsNumbers g.W.World.repository (g.F.Files.stored t.overlay) z t.next) is (c.self.invariant.1.1 h)),
      ),
    )

pub returns-in_err-put_loaded-clause-shown : goal.returns-in_err-put_loaded-clause-shown
returns-in_err-put_loaded-clause-shown g c h =
    let R = g.W.World.repository in
    ap (λ (G : Stored). shown_in R G c.put_loaded.new.root) (c.in_ok-dir.ensures.files h)
    ∙ ap (λ (z : Row). shown_in R (g.F.Files.stored c.self.inside.overlay) z) c.in_err-put_loaded.ensures.err
    ∙ ap (λ (v : Table _). shown_in R (g.F.Files.stored v.files) v.root) c.self.view_is

-- what was loaded
loaded : (g : _) (c : goal.In_ok-put_loaded g) → LoadsStored g.W.World.honest c.self.inside.clock (g.F.Files.stored c.self.inside.overlay) c.self.inside.root c.args.path.now c.put_loaded.new.root
loaded g c =
    let t = c.self.inside in
    let F = g.F.Files.stored t.overlay in
    let d = c.in_ok-dir.dir in
    let there : row_at c.args.path.now t.root ≡ Some c.in-Some.entry.now = sym c.in-Some.ensures in
    record {
      loads = record {
        directory = d;
        new = c.in_ok-dir.ensures.new;
        own = λ h y at is.
            let same = c.entry.view_is ∙ same_some c.in-Some.entry.now y (sym there ∙ at) in
            subst (λ k. HoldsEntries F k (listing_of d)) (ap (λ (r : Row). r.number) same) (c.in_ok-dir.ensures.own h (ap (λ (r : Row). r.origin) same ∙ is));
        empty = λ y at is.
            let same = c.entry.view_is ∙ same_some c.in-Some.entry.now y (sym there ∙ at) in
            c.in_ok-dir.ensures.empty (ap (λ (r : Row). r.origin) same ∙ is);
        is = c.in_ok-put_loaded.ensures.ok;
      };
      saved = λ h y i at is.
          let same = c.entry.view_is ∙ same_some c.in-Some.entry.now y (sym there ∙ at) in
          subst (λ k. saved_at F k i ≡ Some (listing_of d)) (ap (λ (r : Row). r.number) same) (c.in_ok-dir.ensures.saved h i (ap (λ (r : Row). r.origin) same ∙ is));
    }

-- the table is still kept, and shows the same
still : (g : _) (c : goal.In_ok-put_loaded g) → g.W.World.honest
    → IsSameOver g.W.World.repository (g.F.Files.stored c.self.inside.overlay) (g.F.Files.stored c.self.inside.overlay) c.self.inside.root c.put_loaded.new.root c.self.inside.next
    × KeepsNumbers g.W.World.repository (g.F.Files.stored c.self.inside.overlay) c.put_loaded.new.root c.self.inside.next
unfolding loaded
still g c h =
    let t = c.self.inside in
    let p = c.args.path.now in
    let honest = g.W.World.honest in
    let R = g.W.World.repository in
    let F = g.F.Files.stored t.overlay in
    let none = subst (λ (v : Table _). HasNoTree honest (g.F.Files.stored v.files) p v.root) (sym c.self.view_is) c.requires in
    stored_over honest R F t.clock t.next t.root p c.put_loaded.new.root h c.self.invariant.0 (c.self.invariant.1.0 h) (c.self.invariant.1.1 h) (loaded g c) c.in_ok-dir.ensures.storable none

pub invariant_of-self-2 : goal.invariant_of-self-2
unfolding loaded
invariant_of-self-2 g c =
    let t = c.self.inside in
    let p = c.args.path.now in
    let R = g.W.World.repository in
    let F = g.F.Files.stored t.overlay in
    let z = c.put_loaded.new.root in (
      own_loads_table g.W.World.honest t.clock t.next F t.root p z c.self.invariant.0 (loaded g c).loads c.in_ok-dir.ensures.storable,
      (
        λ h. subst (λ (G : Stored). IsKept R G z t.next) (sym (c.in_ok-dir.ensures.files h)) (still g c h).0.kept,
        λ h. subst (λ (G : Stored). KeepsNumbers R G z t.next) (sym (c.in_ok-dir.ensures.files h)) (still g c h).1,
      ),
    )

pub returns-clause-ok : goal.returns-clause-ok
returns-clause-ok g c =
    subst (λ (v : Table _). LoadsStored g.W.World.honest v.clock (g.F.Files.stored v.files) v.root c.args.path.now c.put_loaded.new.root) c.self.view_is (loaded g c)

pub returns-clause-shown : goal.returns-clause-shown
returns-clause-shown g c h =
    let R = g.W.World.repository in
    ap (λ (G : Stored). shown_in R G c.put_loaded.new.root) (c.in_ok-dir.ensures.files h)
    ∙ (still g c h).0.nodes
    ∙ ap (λ (v : Table _). shown_in R (g.F.Files.stored v.files) v.root) c.self.view_is

same_then : (g : _) (c : goal.In_ok-put_loaded g) (h : g.W.World.honest) (p : _)
    → numbers (in_files (g.F.Files.stored c.stored_directory.new.overlay)) c.put_loaded.new.root p ≡ numbers (in_files (g.F.Files.stored c.self.inside.overlay)) c.self.inside.root p
same_then g c h p = ap (λ (G : Stored). numbers (in_files G) c.put_loaded.new.root p) (c.in_ok-dir.ensures.files h) ∙ (still g c h).0.same p

pub returns-clause-numbers : goal.returns-clause-numbers
returns-clause-numbers g c h p = same_then g c h p ∙ ap (λ (v : Table _). numbers (in_files (g.F.Files.stored v.files)) v.root p) c.self.view_is

pub returns-clause-gains : goal.returns-clause-gains
returns-clause-gains g c h =
    let t = c.self.inside in
    let T = numbers (in_files (g.F.Files.stored c.stored_directory.new.overlay)) c.put_loaded.new.root in
    subst (λ (v : Table _). Gains (numbers (in_files (g.F.Files.stored v.files)) v.root) v.next T t.next) c.self.view_is
    (same_gains (numbers (in_files (g.F.Files.stored t.overlay)) t.root) T t.next (c.self.invariant.1.1 h).shown (same_then g c h))
