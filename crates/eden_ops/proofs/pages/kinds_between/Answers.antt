use Rattle.std.proofs.Common.{◌≡◌, ℕ, ◌+◌, ◌-◌, ◌++◌, List, [], ◌∷◌, take, drop, ap, sym, ◌∙◌, arith}
use Rattle.eden_model.specs.declared.kind.Kind.{Kind}
use Rattle.eden_model.specs.Trees.{Name}
use Rattle.eden_tree.specs.Directory.{Row}
use Rattle.eden_ops.specs.Listings.{kind_in, kinds_in}
use Rattle.eden_ops.proofs.Listed.{kinds_more, none_past}
use Rattle.eden_ops.proofs.pages.kinds_between.Goals as goal

pub unreachable-requires : goal.unreachable-requires
unreachable-requires g c = none_past c.args.dir.now.rows c.loop-i.i (omega arith) c.in-None.ensures

pub loop-i-preserved : goal.loop-i-preserved
loop-i-preserved g c =
    let e : Name × Row = (c.in-Some.name.now, c.in-Some.entry.now) in
    let first = c.args.first in
    let before : first + (c.loop-i.i - first) ≡ c.loop-i.i = omega arith in
    let next : c.loop-i.i + 1 - first ≡ c.loop-i.i - first + 1 = omega arith in
    let more = kinds_more c.args.dir.now.rows first (c.loop-i.i - first) c.loop-i.i e before (sym c.in-Some.ensures) in
    let pushed : c.push.new.self.items ≡ c.loop-i.kinds.items ++ (c.in_ok-copy-in-Some.field-0, c.entry.inside.kind) ∷ [] = c.in_ok-push-in-Some.ensures.items in
    record {
      behind = omega arith;
      kinds =
          pushed
          ∙ ap (λ (n : Name). c.loop-i.kinds.items ++ (n, c.entry.inside.kind) ∷ []) c.in_ok-copy-in-Some.ensures
          ∙ ap (λ (x : Row). c.loop-i.kinds.items ++ (c.in-Some.name.now, x.kind) ∷ []) c.entry.view_is
          ∙ ap (λ (l : List (Name × Kind)). l ++ kind_in e ∷ []) c.loop-i.invariant.kinds
          ∙ sym more
          ∙ ap (λ (n : ℕ). take n (drop first (kinds_in c.args.dir.now))) (sym next);
    }
