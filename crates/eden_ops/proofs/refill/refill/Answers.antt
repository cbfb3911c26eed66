use Rattle.std.proofs.Common.{◌≡◌, ◌≤◌, [], ◌∷◌, ◌∙◌, ℕ, List, Some, length, refl, sym, ap, subst}
use Rattle.eden_model.specs.Limits.{most_file}
use Rattle.eden_model.specs.Trees.{Path}
use Rattle.eden_tree.specs.Paths.{row_at}
use Rattle.eden_inode.specs.Tables.{Table}
use Rattle.eden_ops.specs.Contents.{made}
use Rattle.eden_ops.specs.Refilling.{Fills}
use Rattle.eden_ops.proofs.Origins.{not_empty}
use Rattle.eden_ops.proofs.Refilled.{asked, unasked, own_is, blob_is}
use Rattle.eden_ops.proofs.refill.refill.Goals as goal

pub unreachable-requires : goal.unreachable-requires
unreachable-requires g c =
    let h = c.requires.content in
    not_empty c.args.path.now c.args.inodes.now.root h.row c.args.inodes.now.next c.holds.ensures.table h.there h.kind (h.origin ∙ c.in-Empty.is)

-- ---- of an own file

pub returns-in-Err-clause-asks : goal.returns-in-Err-clause-asks
returns-in-Err-clause-asks g c =
    let e = c.content.ensures in
    asked g.W.World g.F.Files c.args.path.now c.args.inodes.now c.content.new.self (c.keeps_laws.ensures.shown (c.args.path.now ∷ []) c.args.inodes.now c.content.new.self) e.rest e.files e.counted

pub returns-in-Ok-clause-refills : goal.returns-in-Ok-clause-refills
returns-in-Ok-clause-refills g c =
    let e = c.content.ensures in
    let p = c.args.path.now in
    let s = c.args.inodes.now in
    let v = c.content.new.self in
    let content = c.in-Ok.content in
    let fills =
    subst (λ (b : List ℕ). Fills g.W.World g.F.Files p v c.fill-answer.new.inodes b c.fill-answer.result) (c.spliced.ensures.is ∙ ap (made c.args.form) c.as_slice-in-Own.ensures.same)
    c.fill-answer.ensures in
    record {
      table = v;
      asks = asked g.W.World g.F.Files p s v (c.keeps_laws.ensures.shown (p ∷ []) s v) e.rest e.files e.counted;
      content = content;
      is =
          own_is g.W.World g.F.Files p s c.args.origin c.requires.content content (subst (λ (b : List ℕ). length b ≤ most_file) c.as_slice-in-Own.ensures.same c.as_slice-in-Own.ensures.short)
          c.in-Own.is (λ h y at. c.in-Ok.ensures.ok h y (subst (λ (q : Path). row_at q s.root ≡ Some y) (sym c.as_slice.ensures) at));
      fills = subst (λ (t : Table _). Fills g.W.World g.F.Files p v t (made c.args.form content) c.fill-answer.result) (sym c.spare.ensures) fills;
    }

-- ---- of an object

pub returns-in-None-clause-asks : goal.returns-in-None-clause-asks
returns-in-None-clause-asks g c = unasked g.W.World g.F.Files c.args.path.now c.args.inodes.now c.refill_cached.new.inodes c.in-None.ensures.still

pub returns-in-Some-clause-refills : goal.returns-in-Some-clause-refills
returns-in-Some-clause-refills g c =
    let s = c.args.inodes.now in
    let had = c.in-Some.ensures.fills in
    record {
      table = s;
      asks = unasked g.W.World g.F.Files c.args.path.now s s refl;
      content = had.0;
      is = blob_is g.W.World g.F.Files c.args.path.now s c.args.origin c.requires.content had.0 had.1.1.0 c.in-Object.id c.in-Object.is had.1.0;
      fills = had.1.1.1;
    }
