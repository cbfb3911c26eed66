use Rattle.std.proofs.Common.{◌++◌, ◌∷◌, [], refl, sym, subst, inl, inr}
use Rattle.eden_model.specs.Trees.{Path}
use Rattle.eden_inode.specs.Tables.{shows}
use Rattle.eden_inode.proofs.CallerLemmas.{places_rise}
use Rattle.eden_ops.specs.Relocating.{MarksAlone}
use Rattle.eden_ops.proofs.Relocation.{bare_apart, can_move_bare, moves_shown, unmoved_fewer, unmoved_marks, unmoved_names}
use Rattle.eden_ops.proofs.Roots.{root_moved, root_unmoved}
use Rattle.eden_ops.proofs.Saving.{fault_count}
use Rattle.eden_ops.proofs.Stamped.{moved_stamps, unmoved_stamps}
use Rattle.eden_materialise.specs.Renumbering.{MovesNumbers}
use Rattle.eden_ops.proofs.relocate.move_bare.Goals as goal

pub move_entry-requires : goal.move_entry-requires
move_entry-requires g c = record {
  may = can_move_bare c.args.inodes.now.root c.args.from.now c.args.to.now c.in-Some.above.now c.in-Some.name.now c.in-Some-split_last.new_above.now c.in-Some-split_last.new_name.now
      c.in-Some.ensures.cases.0 c.in-Some-split_last.ensures.cases.0 c.requires.may c.requires.away;
}

pub returns-in-Ok : goal.returns-in-Ok
returns-in-Ok g c =
    let s = c.args.inodes.now in
    let t = c.move_entry.new.inodes in
    let e = c.in-Ok.ensures in
    let show = shows g.W.World g.F.Files in
    record {
      ok = λ h. moves_shown (show t) (show s) (show s) c.args.from.now c.args.to.now _ _ (e.shown h) refl c.in-Some.ensures.cases.0 c.in-Some-split_last.ensures.cases.0;
      err = λ h. tt;
      renumbers = λ h. subst (λ (b : Path). MovesNumbers g.F.Files c.args.from.now b s t) (sym c.in-Some-split_last.ensures.cases.0)
          (subst (λ (a : Path). MovesNumbers g.F.Files a (c.in-Some-split_last.new_above.now ++ c.in-Some-split_last.new_name.now ∷ []) s t) (sym c.in-Some.ensures.cases.0) (e.renumbers h));
      unnumbered = λ h. tt;
      names = tt;
      fewer = tt;
      fault = tt;
      counted = e.counted;
      loaded = λ q off other loaded. e.loaded q loaded;
      stamps = λ r k is. inl (moved_stamps s.root c.in-Some.above.now c.in-Some.name.now c.in-Some-split_last.new_above.now c.in-Some-split_last.new_name.now g.W.World.honest
          (g.F.Files.stored s.files) (g.F.Files.failures s.files) (g.F.Files.stored t.files) t.root (g.F.Files.failures t.files) s.next c.holds.ensures.table e.ok r k is);
      moved = λ loaded. absurd (bare_apart c.args.from.now s.root c.requires.away loaded);
      stays = λ loaded. tt;
      marks = e.marks;
      marked = λ q unsaved. inr (e.marks q unsaved);
      root = root_moved g.W.World.honest c.in-Some.above.now c.in-Some.name.now c.in-Some-split_last.new_above.now c.in-Some-split_last.new_name.now
          (g.F.Files.stored s.files) s.root (g.F.Files.failures s.files) (g.F.Files.stored t.files) t.root (g.F.Files.failures t.files) e.ok;
      next = e.rest.0;
      clock = e.rest.1;
      places = places_rise s t e.changes;
    }

pub returns-in-Err : goal.returns-in-Err
returns-in-Err g c =
    let s = c.args.inodes.now in
    let t = c.move_entry.new.inodes in
    let e = c.in-Err.ensures in
    let F = g.F.Files.stored s.files in
    let G = g.F.Files.stored t.files in
    let p = c.in-Some.above.now in
    let n = c.in-Some.name.now in
    let q = c.in-Some-split_last.new_above.now in
    let m = c.in-Some-split_last.new_name.now in
    let honest = g.W.World.honest in
    record {
      ok = λ h. tt;
      err = e.unseen;
      renumbers = λ h. tt;
      unnumbered = e.unnumbered;
      names = unmoved_names s.root p n q m honest F G t.root e.err;
      fewer = unmoved_fewer s.root p n q m honest F G t.root e.err;
      fault = e.fault;
      counted = fault_count (g.F.Files.failures s.files) (g.F.Files.failures t.files) c.in-Err.fault e.fault;
      loaded = λ a off other loaded. e.loaded a loaded;
      stamps = λ r k is. inl (unmoved_stamps s.root p n q m honest F G t.root e.err r k is);
      moved = λ loaded. tt;
      stays = λ loaded. absurd (bare_apart c.args.from.now s.root c.requires.away loaded);
      marks = tt;
      marked = subst (λ (r : Path). MarksAlone r s.root t.root) (sym c.in-Some.ensures.cases.0) (unmoved_marks s.root p n q m honest F G t.root e.err);
      root = root_unmoved honest p n q m F s.root G t.root e.err;
      next = e.rest.0;
      clock = e.rest.1;
      places = places_rise s t e.changes;
    }
