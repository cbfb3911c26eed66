use Rattle.std.proofs.Common.{◌≤◌, ◌++◌, ◌∷◌, [], ℕ, sym, ap, ◌∙◌, subst, inl, inr}
use Rattle.eden_tree.specs.Directory.{Row}
use Rattle.eden_coupling.specs.Chains.{NoneMarked, StaysLoaded}
use Rattle.eden_coupling.specs.Kept.{IsKept}
use Rattle.eden_coupling.specs.Ties.{Tied}
use Rattle.eden_inode.specs.Saved.{AreSavedAt}
use Rattle.eden_inode.specs.Tables.{shows, shows_numbers}
use Rattle.eden_inode.proofs.CallerLemmas.{places_then, places_rise}
use Rattle.eden_materialise.specs.Faults.{IsStoreFault}
use Rattle.eden_ops.specs.Carrying.{CanHold}
use Rattle.eden_ops.specs.Changes.{SameNames, StaysOrBecomesOwn}
use Rattle.eden_ops.specs.Relocating.{GoesAlong, MarksAlone, StaysBeside}
use Rattle.eden_ops.specs.Stamps.{NoneStamped, StampsGoAlong}
use Rattle.eden_ops.proofs.Carried.{IsTaken, can_bring, ready_of, hold_there, hold_here, went_stays, went_along, went_marks, went_root, went_stamps}
use Rattle.eden_ops.proofs.Carried.{back_names, back_fewer, back_stays, back_marks, back_root, back_stamps}
use Rattle.eden_ops.proofs.Relocation.{moves_shown}
use Rattle.eden_ops.proofs.Saving.{fault_count}
use Rattle.eden_ops.proofs.Stamped.{moved_stamps, unmoved_stamps}
use Rattle.eden_model.specs.Trees.{Path}
use Rattle.eden_materialise.specs.Renumbering.{MovesNumbers}
use Rattle.eden_ops.proofs.Moves.{move_alike}
use Rattle.eden_ops.proofs.move_dir.move_saved.Goals as goal

pub take-child-requires-clause-ready : goal.take-child-requires-clause-ready
take-child-requires-clause-ready g c = ready_of c.args.from.now c.args.inodes.now.root c.requires.may.bare c.requires.loaded

pub move_entry-requires : goal.move_entry-requires
move_entry-requires g c =
    let x = c.args.inodes.now.root in
    record {
      may = can_bring x c.take-child.new.inodes.root c.args.from.now c.args.to.now c.in-Some.above.now c.in-Some.name.now c.in-Some-split_last.new_above.now c.in-Some-split_last.new_name.now
          c.in-Some.ensures.cases.0 c.in-Some-split_last.ensures.cases.0 c.requires.may (ready_of c.args.from.now x c.requires.may.bare c.requires.loaded) c.take-child.ensures.root;
    }

pub put_back-requires : goal.put_back-requires
put_back-requires g c =
    let x = c.args.inodes.now in
    let y = c.take-child.new.inodes in
    let from = c.args.from.now in
    let to = c.args.to.now in
    let p = c.in-Some.above.now in
    let n = c.in-Some.name.now in
    let q = c.in-Some-split_last.new_above.now in
    let m = c.in-Some-split_last.new_name.now in
    let honest = g.W.World.honest in
    let R = g.W.World.repository in
    let F = g.F.Files.stored y.files in
    let d = c.take-child.result.value in
    let r = ready_of from x.root c.requires.may.bare c.requires.loaded in
    let took = c.take-child.ensures.taken r.row r.directory r.at r.holds in
    let taken : IsTaken x.root from d = record { ready = r; is = took.0; dir = took.1 } in
    let kept : honest → IsKept R F x.root x.next = λ h. subst (λ o. IsKept R (g.F.Files.stored o) x.root x.next) (sym c.take-child.ensures.files) (c.holds.ensures.kept h) in
    let saved : honest → AreSavedAt F from x.root = λ h. subst (λ o. AreSavedAt (g.F.Files.stored o) from x.root) (sym c.take-child.ensures.files) (c.requires.saved h) in
    let tied : honest → Tied F y.root x.next = λ h. (let k = c.holds-2.ensures.kept h in subst (λ (i : ℕ). Tied F y.root i) c.take-child.ensures.rest.0 (k.full, k.ties)) in
    let u = c.move_entry.new.inodes in
    let G = g.F.Files.stored u.files in
    let can = hold_there honest R F x.root x.next from d c.holds.ensures.table kept saved taken p n q m c.in-Some.ensures.cases.0 y.root c.take-child.ensures.root tied
    (g.F.Files.failures y.files) G u.root (g.F.Files.failures u.files) to c.in-Some-split_last.ensures.cases.0 c.in-Ok.ensures.ok in
    subst (λ (i : ℕ). CanHold honest R G i to u.root d) (sym (c.in-Ok.ensures.rest.0 ∙ c.take-child.ensures.rest.0)) can

pub put_back-requires-in-Err : goal.put_back-requires-in-Err
put_back-requires-in-Err g c =
    let x = c.args.inodes.now in
    let y = c.take-child.new.inodes in
    let from = c.args.from.now in
    let to = c.args.to.now in
    let p = c.in-Some.above.now in
    let n = c.in-Some.name.now in
    let q = c.in-Some-split_last.new_above.now in
    let m = c.in-Some-split_last.new_name.now in
    let honest = g.W.World.honest in
    let R = g.W.World.repository in
    let F = g.F.Files.stored y.files in
    let d = c.take-child.result.value in
    let r = ready_of from x.root c.requires.may.bare c.requires.loaded in
    let took = c.take-child.ensures.taken r.row r.directory r.at r.holds in
    let taken : IsTaken x.root from d = record { ready = r; is = took.0; dir = took.1 } in
    let kept : honest → IsKept R F x.root x.next = λ h. subst (λ o. IsKept R (g.F.Files.stored o) x.root x.next) (sym c.take-child.ensures.files) (c.holds.ensures.kept h) in
    let saved : honest → AreSavedAt F from x.root = λ h. subst (λ o. AreSavedAt (g.F.Files.stored o) from x.root) (sym c.take-child.ensures.files) (c.requires.saved h) in
    let tied : honest → Tied F y.root x.next = λ h. (let k = c.holds-2.ensures.kept h in subst (λ (i : ℕ). Tied F y.root i) c.take-child.ensures.rest.0 (k.full, k.ties)) in
    let u = c.move_entry.new.inodes in
    let G = g.F.Files.stored u.files in
    let can = hold_here honest R F x.root x.next from d c.holds.ensures.table kept saved taken p n q m c.in-Some.ensures.cases.0 y.root c.take-child.ensures.root tied
    G u.root c.in-Err.ensures.err in
    subst (λ (i : ℕ). CanHold honest R G i from u.root d) (sym (c.in-Err.ensures.rest.0 ∙ c.take-child.ensures.rest.0)) can

pub returns-in-Ok : goal.returns-in-Ok
returns-in-Ok g c =
    let x = c.args.inodes.now in
    let y = c.take-child.new.inodes in
    let from = c.args.from.now in
    let to = c.args.to.now in
    let p = c.in-Some.above.now in
    let n = c.in-Some.name.now in
    let q = c.in-Some-split_last.new_above.now in
    let m = c.in-Some-split_last.new_name.now in
    let honest = g.W.World.honest in
    let R = g.W.World.repository in
    let F = g.F.Files.stored y.files in
    let d = c.take-child.result.value in
    let r = ready_of from x.root c.requires.may.bare c.requires.loaded in
    let took = c.take-child.ensures.taken r.row r.directory r.at r.holds in
    let taken : IsTaken x.root from d = record { ready = r; is = took.0; dir = took.1 } in
    let kept : honest → IsKept R F x.root x.next = λ h. subst (λ o. IsKept R (g.F.Files.stored o) x.root x.next) (sym c.take-child.ensures.files) (c.holds.ensures.kept h) in
    let saved : honest → AreSavedAt F from x.root = λ h. subst (λ o. AreSavedAt (g.F.Files.stored o) from x.root) (sym c.take-child.ensures.files) (c.requires.saved h) in
    let tied : honest → Tied F y.root x.next = λ h. (let k = c.holds-2.ensures.kept h in subst (λ (i : ℕ). Tied F y.root i) c.take-child.ensures.rest.0 (k.full, k.ties)) in
    let u = c.move_entry.new.inodes in
    let G = g.F.Files.stored u.files in
    let can = hold_there honest R F x.root x.next from d c.holds.ensures.table kept saved taken p n q m c.in-Some.ensures.cases.0 y.root c.take-child.ensures.root tied
    (g.F.Files.failures y.files) G u.root (g.F.Files.failures u.files) to c.in-Some-split_last.ensures.cases.0 c.in-Ok.ensures.ok in
    let s = shows g.W.World g.F.Files in
    let fails = g.F.Files.failures in
    let old = fails y.files in
    let new = fails u.files in
    let split = c.in-Some.ensures.cases.0 in
    let out = c.take-child.ensures.root in
    let v = c.put_back.new.inodes in
    let is = sym c.put_back.ensures.root in
    let marks : NoneMarked x.root v.root = subst (λ (z : Row). NoneMarked x.root z) is
    (went_marks honest R F x.next x.root from d taken p n q m split y.root out old G u.root new to can c.in-Ok.ensures.marks) in
    record {
      ok = λ h.
          moves_shown (s v) (s y) (s x) from to _ _ (c.put_back.ensures.shown h ∙ c.in-Ok.ensures.shown h) (c.take-child.ensures.shown h) split c.in-Some-split_last.ensures.cases.0;
      err = λ h. tt;
      renumbers = λ h a.
          c.put_back.ensures.numbers h a
          ∙ subst (λ (b : Path). MovesNumbers g.F.Files from b y u) (sym c.in-Some-split_last.ensures.cases.0)
          (subst (λ (a : Path). MovesNumbers g.F.Files a (q ++ m ∷ []) y u) (sym split) (c.in-Ok.ensures.renumbers h)) a
          ∙ move_alike (shows_numbers g.F.Files y) (shows_numbers g.F.Files x) (c.take-child.ensures.numbers h) from to a;
      unnumbered = λ h. tt;
      names = tt;
      fewer = tt;
      fault = tt;
      counted = subst (λ (k : ℕ). k ≤ fails v.files) (ap fails c.take-child.ensures.files)
          (subst (λ (k : ℕ). fails y.files ≤ k) (sym (ap fails c.put_back.ensures.files)) c.in-Ok.ensures.counted);
      loaded = subst (λ (z : Row). StaysBeside from to x.root z) is (went_stays honest R F x.next x.root from d taken p n q m split y.root out old G u.root new to can c.in-Ok.ensures.loaded);
      stamps = subst (λ (z : Row). StampsGoAlong from to x.root z) is
          (went_stamps honest R F x.next x.root from d taken p n q m split y.root out old G u.root new to can
          (moved_stamps y.root p n q m honest F old G u.root new y.next c.holds-2.ensures.table c.in-Ok.ensures.ok));
      moved = λ loaded. subst (λ (z : Row). GoesAlong from to x.root z) is (went_along honest R F x.next x.root from d taken p n q m split y.root out old G u.root new to can);
      stays = λ loaded. tt;
      marks = marks;
      marked = λ a unsaved. inr (marks a unsaved);
      root = subst (λ (z : Row). StaysOrBecomesOwn x.root.origin z.origin) is (went_root honest R F x.next x.root from d taken p n q m split y.root out old G u.root new to can c.in-Ok.ensures.ok);
      next = c.put_back.ensures.rest.0 ∙ c.in-Ok.ensures.rest.0 ∙ c.take-child.ensures.rest.0;
      clock = c.put_back.ensures.rest.1 ∙ c.in-Ok.ensures.rest.1 ∙ c.take-child.ensures.rest.1;
      places = places_then x y v (places_rise x y c.take-child.ensures.changes)
          (places_then y u v (places_rise y u c.in-Ok.ensures.changes) (places_rise u v c.put_back.ensures.changes));
    }

pub returns-in-Err : goal.returns-in-Err
returns-in-Err g c =
    let x = c.args.inodes.now in
    let y = c.take-child.new.inodes in
    let from = c.args.from.now in
    let to = c.args.to.now in
    let p = c.in-Some.above.now in
    let n = c.in-Some.name.now in
    let q = c.in-Some-split_last.new_above.now in
    let m = c.in-Some-split_last.new_name.now in
    let honest = g.W.World.honest in
    let R = g.W.World.repository in
    let F = g.F.Files.stored y.files in
    let d = c.take-child.result.value in
    let r = ready_of from x.root c.requires.may.bare c.requires.loaded in
    let took = c.take-child.ensures.taken r.row r.directory r.at r.holds in
    let taken : IsTaken x.root from d = record { ready = r; is = took.0; dir = took.1 } in
    let kept : honest → IsKept R F x.root x.next = λ h. subst (λ o. IsKept R (g.F.Files.stored o) x.root x.next) (sym c.take-child.ensures.files) (c.holds.ensures.kept h) in
    let saved : honest → AreSavedAt F from x.root = λ h. subst (λ o. AreSavedAt (g.F.Files.stored o) from x.root) (sym c.take-child.ensures.files) (c.requires.saved h) in
    let tied : honest → Tied F y.root x.next = λ h. (let k = c.holds-2.ensures.kept h in subst (λ (i : ℕ). Tied F y.root i) c.take-child.ensures.rest.0 (k.full, k.ties)) in
    let u = c.move_entry.new.inodes in
    let G = g.F.Files.stored u.files in
    let can = hold_here honest R F x.root x.next from d c.holds.ensures.table kept saved taken p n q m c.in-Some.ensures.cases.0 y.root c.take-child.ensures.root tied
    G u.root c.in-Err.ensures.err in
    let fails = g.F.Files.failures in
    let split = c.in-Some.ensures.cases.0 in
    let out = c.take-child.ensures.root in
    let v = c.put_back-in-Err.new.inodes in
    let is = sym c.put_back-in-Err.ensures.root in
    let e = c.in-Err.fault in
    let fault : IsStoreFault (fails x.files) (fails v.files) e = subst (λ (k : ℕ). IsStoreFault k (fails v.files) e) (ap fails c.take-child.ensures.files)
    (subst (λ (k : ℕ). IsStoreFault (fails y.files) k e) (sym (ap fails c.put_back-in-Err.ensures.files)) c.in-Err.ensures.fault) in
    let stays : StaysLoaded x.root v.root = subst (λ (z : Row). StaysLoaded x.root z) is
    (back_stays honest R F x.next x.root from d taken p n q m split y.root out G u.root c.in-Err.ensures.err can) in
    record {
      ok = λ h. tt;
      err = λ h. c.put_back-in-Err.ensures.shown h ∙ c.in-Err.ensures.unseen h ∙ c.take-child.ensures.shown h;
      renumbers = λ h. tt;
      unnumbered = λ h a. c.put_back-in-Err.ensures.numbers h a ∙ c.in-Err.ensures.unnumbered h a ∙ c.take-child.ensures.numbers h a;
      names = subst (λ (z : Row). SameNames x.root z) is (back_names honest R F x.next x.root from d taken p n q m split y.root out G u.root c.in-Err.ensures.err can);
      fewer = subst (λ (z : Row). StaysLoaded z x.root) is (back_fewer honest R F x.next x.root from d taken p n q m split y.root out G u.root c.in-Err.ensures.err can);
      fault = fault;
      counted = fault_count (fails x.files) (fails v.files) e fault;
      loaded = λ a off other loaded. stays a loaded;
      stamps = λ r s at. inl (subst (λ (z : Row). NoneStamped x.root z) is
          (back_stamps honest R F x.next x.root from d taken p n q m split y.root out G u.root c.in-Err.ensures.err can (unmoved_stamps y.root p n q m honest F G u.root c.in-Err.ensures.err)) r s at);
      moved = λ loaded. tt;
      stays = λ loaded. stays from loaded;
      marks = tt;
      marked = subst (λ (z : Row). MarksAlone from x.root z) is (back_marks honest R F x.next x.root from d taken p n q m split y.root out G u.root c.in-Err.ensures.err can);
      root = subst (λ (z : Row). StaysOrBecomesOwn x.root.origin z.origin) is (back_root honest R F x.next x.root from d taken p n q m split y.root out G u.root c.in-Err.ensures.err can);
      next = c.put_back-in-Err.ensures.rest.0 ∙ c.in-Err.ensures.rest.0 ∙ c.take-child.ensures.rest.0;
      clock = c.put_back-in-Err.ensures.rest.1 ∙ c.in-Err.ensures.rest.1 ∙ c.take-child.ensures.rest.1;
      places = places_then x y v (places_rise x y c.take-child.ensures.changes)
          (places_then y u v (places_rise y u c.in-Err.ensures.changes) (places_rise u v c.put_back-in-Err.ensures.changes));
    }
