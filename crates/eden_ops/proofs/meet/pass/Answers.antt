use Rattle.std.proofs.Common.{◌≡◌, ◌<◌, length, take, refl, sym, ◌∙◌, subst, arith}
use Rattle.eden_ops.specs.Keeping.{same}
use Rattle.eden_ops.specs.Known.{IsKnownLoadedAt}
use Rattle.eden_ops.proofs.Finding.{finds_on}
use Rattle.eden_ops.proofs.Looking.{no_dir}
use Rattle.eden_ops.proofs.Meeting.{seen_here, absent_here, ends_absent, ends_file, is_at, ends_unlisted}
use Rattle.eden_ops.proofs.Rounds.{last_after, walk_after, meets_err, counted_above}
use Rattle.eden_ops.proofs.Stamps.{walked_after, walked_on}
use Rattle.eden_ops.proofs.Steps.{keeps_on, keeps_front, looks}
use Rattle.eden_ops.proofs.Trailing.{keeps_names, leads_on, noted_first, noted_more, noted_loaded, counts_last}
use Rattle.eden_ops.proofs.meet.pass.Goals as goal

pub look_along-seen-requires : goal.look_along-seen-requires
look_along-seen-requires g c = c.fronts.invariant.noted.leads

pub fronts-init : goal.fronts-init
fronts-init g c = record {
  keeps = same;
  cache = record { objects = λ k. refl; sizes = λ id. refl };
  cause = λ is. is;
  noted = noted_first c.args.path.now c.args.inodes.now.root c.args.trail.now c.requires.leads;
  few = omega arith;
  last = λ k is. absurd (omega (arith, is));
}

pub returns-then-seen-path-clause-meets : goal.returns-then-seen-path-clause-meets
returns-then-seen-path-clause-meets g c =
    seen_here c.args.path.now c.look_along-seen.new.self.root c.look_along-seen.result
    (last_after g.W.World g.F.Files c.args.path.now c.fronts.inodes c.look_along-seen.new.self c.look_along-seen.result
    c.look_along-seen.ensures.stamped c.look_along-seen.ensures.last) c.if-seen-path.true

pub returns-then-seen-path-clause-walked : goal.returns-then-seen-path-clause-walked
returns-then-seen-path-clause-walked g c = walked_after g.W.World g.F.Files c.args.path.now c.fronts.inodes c.look_along-seen.new.self c.look_along-seen.ensures.stamped

pub returns-then-seen-path-clause-keeps : goal.returns-then-seen-path-clause-keeps
returns-then-seen-path-clause-keeps g c =
    keeps_on g.W.World g.F.Files c.args.inodes.now c.fronts.inodes c.look_along-seen.new.self c.fronts.invariant.keeps
    (looks g.W.World g.F.Files c.fronts.inodes c.look_along-seen.new.self c.args.path.now c.look_along-seen.ensures.stamped)

pub returns-then-seen-path-2-clause-meets : goal.returns-then-seen-path-2-clause-meets
returns-then-seen-path-2-clause-meets g c =
    absent_here c.args.path.now c.look_along-seen.new.self.root c.look_along-seen.result
    (last_after g.W.World g.F.Files c.args.path.now c.fronts.inodes c.look_along-seen.new.self c.look_along-seen.result
    c.look_along-seen.ensures.stamped c.look_along-seen.ensures.last) c.if-seen.true c.if-seen-path-2.true

pub returns-then-seen-path-2-clause-walked : goal.returns-then-seen-path-2-clause-walked
returns-then-seen-path-2-clause-walked g c = walked_after g.W.World g.F.Files c.args.path.now c.fronts.inodes c.look_along-seen.new.self c.look_along-seen.ensures.stamped

pub returns-then-seen-path-2-clause-keeps : goal.returns-then-seen-path-2-clause-keeps
returns-then-seen-path-2-clause-keeps g c =
    keeps_on g.W.World g.F.Files c.args.inodes.now c.fronts.inodes c.look_along-seen.new.self c.fronts.invariant.keeps
    (looks g.W.World g.F.Files c.fronts.inodes c.look_along-seen.new.self c.args.path.now c.look_along-seen.ensures.stamped)

pub returns-then-seen-clause-meets : goal.returns-then-seen-clause-meets
returns-then-seen-clause-meets g c =
    let last = last_after g.W.World g.F.Files c.args.path.now c.fronts.inodes c.look_along-seen.new.self c.look_along-seen.result c.look_along-seen.ensures.stamped c.look_along-seen.ensures.last in
    let le = last.names in
    let a = c.if-seen-path.false in
    let b = c.if-seen-path-2.false in
    ends_absent c.args.path.now c.look_along-seen.new.self.root c.look_along-seen.result last c.if-seen.true (omega (arith, le, a, b))

pub returns-then-seen-clause-walked : goal.returns-then-seen-clause-walked
returns-then-seen-clause-walked g c = walked_after g.W.World g.F.Files c.args.path.now c.fronts.inodes c.look_along-seen.new.self c.look_along-seen.ensures.stamped

pub returns-then-seen-clause-keeps : goal.returns-then-seen-clause-keeps
returns-then-seen-clause-keeps g c =
    keeps_on g.W.World g.F.Files c.args.inodes.now c.fronts.inodes c.look_along-seen.new.self c.fronts.invariant.keeps
    (looks g.W.World g.F.Files c.fronts.inodes c.look_along-seen.new.self c.args.path.now c.look_along-seen.ensures.stamped)

pub returns-in-File : goal.returns-in-File
returns-in-File g c =
    let last = last_after g.W.World g.F.Files c.args.path.now c.fronts.inodes c.look_along-seen.new.self c.look_along-seen.result c.look_along-seen.ensures.stamped c.look_along-seen.ensures.last in
    let le = last.names in
    let a = c.if-seen-path.false in
    record {
      meets = ends_file c.args.path.now c.look_along-seen.new.self.root c.look_along-seen.result last c.if-seen.false (omega (arith, le, a)) (no_dir c.look_along-seen.result.kind c.in-File.is);
      keeps = keeps_on g.W.World g.F.Files c.args.inodes.now c.fronts.inodes c.look_along-seen.new.self c.fronts.invariant.keeps
          (looks g.W.World g.F.Files c.fronts.inodes c.look_along-seen.new.self c.args.path.now c.look_along-seen.ensures.stamped);
      cache = c.fronts.invariant.cache;
      walked = walked_after g.W.World g.F.Files c.args.path.now c.fronts.inodes c.look_along-seen.new.self c.look_along-seen.ensures.stamped;
      leads = c.look_along-seen.ensures.notes.leads;
      counts = counts_last c.args.path.now c.fronts.inodes.root c.look_along-seen.new.self.root c.look_along-seen.result c.args.trail.now c.fronts.trail
          c.look_along-seen.new.trail c.fronts.invariant.noted c.look_along-seen.ensures.notes;
    }

pub bring-requires : goal.bring-requires
bring-requires g c =
    let last = last_after g.W.World g.F.Files c.args.path.now c.fronts.inodes c.look_along-seen.new.self c.look_along-seen.result c.look_along-seen.ensures.stamped c.look_along-seen.ensures.last in
    let le = last.names in
    let a = c.if-seen-path.false in
    record { at = is_at c.args.path.now c.look_along-seen.new.self.root c.look_along-seen.result last c.if-seen.false (omega (arith, le, a)) c.in-Dir.is }

pub returns-in_err-bring-in-Dir-clause-meets : goal.returns-in_err-bring-in-Dir-clause-meets
returns-in_err-bring-in-Dir-clause-meets g c =
    let p = c.args.path.now in
    let s = c.args.inodes.now in
    let t = c.fronts.inodes in
    let u = c.look_along-seen.new.self in
    let seen = c.look_along-seen.result in
    let last = last_after g.W.World g.F.Files p t u seen c.look_along-seen.ensures.stamped c.look_along-seen.ensures.last in
    let le = last.names in
    let a = c.if-seen-path.false in
    let lt : seen.names < length p = omega (arith, le, a) in
    let before = keeps_on g.W.World g.F.Files s t u c.fronts.invariant.keeps (looks g.W.World g.F.Files t u p c.look_along-seen.ensures.stamped) in
    let cause = c.fronts.invariant.cause (sym (walk_after g.W.World g.F.Files p t u c.look_along-seen.ensures.stamped) ∙ ends_unlisted p u.root seen last c.if-seen.false lt c.in-Dir.is) in
    meets_err g.W.World g.F.Files p s u c.bring.new.inodes c.bring.new.cache seen last c.if-seen.false lt c.in-Dir.is before cause c.in_err-bring-in-Dir.ensures.err
    c.from_residual.result c.in_err-bring-in-Dir.field-0.0 c.from_residual.ensures.0 c.from_residual.ensures.1 c.in_err-bring-in-Dir.ensures.lacks

pub returns-in_err-bring-in-Dir-clause-walked : goal.returns-in_err-bring-in-Dir-clause-walked
returns-in_err-bring-in-Dir-clause-walked g c =
    walked_on g.W.World g.F.Files c.args.path.now c.look_along-seen.new.self c.bring.new.inodes
    (walked_after g.W.World g.F.Files c.args.path.now c.fronts.inodes c.look_along-seen.new.self c.look_along-seen.ensures.stamped) c.bring.ensures.keeps

pub returns-in_err-bring-in-Dir-clause-keeps : goal.returns-in_err-bring-in-Dir-clause-keeps
returns-in_err-bring-in-Dir-clause-keeps g c =
    let s = c.args.inodes.now in
    let t = c.fronts.inodes in
    let u = c.look_along-seen.new.self in
    keeps_on g.W.World g.F.Files s u c.bring.new.inodes
    (keeps_on g.W.World g.F.Files s t u c.fronts.invariant.keeps (looks g.W.World g.F.Files t u c.args.path.now c.look_along-seen.ensures.stamped))
    (keeps_front g.W.World g.F.Files c.look_along-seen.result.names c.args.path.now u c.bring.new.inodes c.bring.ensures.keeps)

pub fronts-smaller : goal.fronts-smaller
fronts-smaller g c =
    let p = c.args.path.now in
    let seen = c.look_along-seen.result in
    let le = c.look_along-seen.ensures.last.names in
    let a = c.if-seen-path.false in
    let lt : seen.names < length p = omega (arith, le, a) in
    let above = counted_above g.W.World g.F.Files p c.fronts.inodes c.look_along-seen.new.self seen c.look_along-seen.ensures.stamped c.look_along-seen.ensures.last c.if-seen.false lt c.fronts.loaded
    c.fronts.invariant.last in
    omega (arith, above, lt)

pub fronts-preserved : goal.fronts-preserved
fronts-preserved g c =
    let p = c.args.path.now in
    let s = c.args.inodes.now in
    let t = c.fronts.inodes in
    let u = c.look_along-seen.new.self in
    let seen = c.look_along-seen.result in
    let last = last_after g.W.World g.F.Files p t u seen c.look_along-seen.ensures.stamped c.look_along-seen.ensures.last in
    let le = last.names in
    let a = c.if-seen-path.false in
    let lt : seen.names < length p = omega (arith, le, a) in
    record {
      keeps = keeps_on g.W.World g.F.Files s u c.bring.new.inodes
          (keeps_on g.W.World g.F.Files s t u c.fronts.invariant.keeps (looks g.W.World g.F.Files t u p c.look_along-seen.ensures.stamped))
          (keeps_front g.W.World g.F.Files seen.names p u c.bring.new.inodes c.bring.ensures.keeps);
      cache = finds_on c.args.cache.now c.fronts.cache c.bring.new.cache c.fronts.invariant.cache c.bring.ensures.cache;
      cause = λ _. c.fronts.invariant.cause (sym (walk_after g.W.World g.F.Files p t u c.look_along-seen.ensures.stamped) ∙ ends_unlisted p u.root seen last c.if-seen.false lt c.in-Dir.is);
      noted = noted_loaded p u.root c.bring.new.inodes.root c.args.trail.now c.look_along-seen.new.trail (keeps_names g.W.World g.F.Files u c.bring.new.inodes c.bring.ensures.keeps)
          (noted_more p t.root u.root seen c.args.trail.now c.fronts.trail c.look_along-seen.new.trail c.fronts.invariant.noted c.if-seen.false c.look_along-seen.ensures.notes);
      few = omega (arith, lt);
      last = λ k is. let same : seen.names ≡ k = omega (arith, is) in subst (λ n. IsKnownLoadedAt (take n p) c.bring.new.inodes.root) same c.in_ok-bring-in-Dir.ensures.ok;
    }

pub returns-then-seen-path-clause-leads : goal.returns-then-seen-path-clause-leads
returns-then-seen-path-clause-leads g c = c.look_along-seen.ensures.notes.leads

pub returns-then-seen-path-clause-counts : goal.returns-then-seen-path-clause-counts
returns-then-seen-path-clause-counts g c =
    counts_last c.args.path.now c.fronts.inodes.root c.look_along-seen.new.self.root c.look_along-seen.result c.args.trail.now c.fronts.trail
    c.look_along-seen.new.trail c.fronts.invariant.noted c.look_along-seen.ensures.notes

pub returns-then-seen-path-2-clause-leads : goal.returns-then-seen-path-2-clause-leads
returns-then-seen-path-2-clause-leads g c = c.look_along-seen.ensures.notes.leads

pub returns-then-seen-path-2-clause-counts : goal.returns-then-seen-path-2-clause-counts
returns-then-seen-path-2-clause-counts g c =
    counts_last c.args.path.now c.fronts.inodes.root c.look_along-seen.new.self.root c.look_along-seen.result c.args.trail.now c.fronts.trail
    c.look_along-seen.new.trail c.fronts.invariant.noted c.look_along-seen.ensures.notes

pub returns-then-seen-clause-leads : goal.returns-then-seen-clause-leads
returns-then-seen-clause-leads g c = c.look_along-seen.ensures.notes.leads

pub returns-then-seen-clause-counts : goal.returns-then-seen-clause-counts
returns-then-seen-clause-counts g c =
    counts_last c.args.path.now c.fronts.inodes.root c.look_along-seen.new.self.root c.look_along-seen.result c.args.trail.now c.fronts.trail
    c.look_along-seen.new.trail c.fronts.invariant.noted c.look_along-seen.ensures.notes

pub returns-in_err-bring-in-Dir-clause-leads : goal.returns-in_err-bring-in-Dir-clause-leads
returns-in_err-bring-in-Dir-clause-leads g c =
    leads_on g.W.World g.F.Files c.args.path.now c.look_along-seen.new.trail.positions c.look_along-seen.new.self c.bring.new.inodes c.bring.ensures.keeps c.look_along-seen.ensures.notes.leads

pub returns-in_err-bring-in-Dir-clause-counts : goal.returns-in_err-bring-in-Dir-clause-counts
returns-in_err-bring-in-Dir-clause-counts g c =
    counts_last c.args.path.now c.fronts.inodes.root c.look_along-seen.new.self.root c.look_along-seen.result c.args.trail.now c.fronts.trail
    c.look_along-seen.new.trail c.fronts.invariant.noted c.look_along-seen.ensures.notes
