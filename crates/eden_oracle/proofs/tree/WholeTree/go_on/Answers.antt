use Rattle.std.proofs.Common.{◌≡◌, subst, sym, ◌∙◌, ap, List}
use Rattle.eden_model.specs.declared.node.Node.{Node}
use Rattle.eden_model.specs.Trees.{Path, IsTree}
use Rattle.eden_model.proofs.CallerLemmas.{after_is_tree}
use Rattle.eden_oracle.specs.Changes.{changed_tree}
use Rattle.eden_oracle.specs.Numbers.{numbers_of}
use Rattle.eden_oracle.specs.Rows.{tree_of}
use Rattle.eden_oracle.specs.Tables.{Table}
use Rattle.eden_oracle.proofs.tree.WholeTree.go_on.Goals as goal

pub invariant_of-self-2 : goal.invariant_of-self-2
invariant_of-self-2 c =
    let rows : c.self.inside.rows.items ≡ c.args.self.now.rows = ap (λ (t : Table). t.rows) c.self.view_is in
    subst IsTree (sym (c.in_ok-make-2.ensures.ok ∙ ap (λ (x : List (Path × Node)). changed_tree (tree_of x) c.args.change) rows ∙ c.requires.change))
    (after_is_tree (tree_of c.args.self.now.rows) c.args.request.now c.args.reply.now (subst (λ (x : List (Path × Node)). IsTree (tree_of x)) rows c.self.invariant) c.requires.may.0)

pub invariant_of-self-then-leaves_numbers : goal.invariant_of-self-then-leaves_numbers
invariant_of-self-then-leaves_numbers c =
    let rows : c.self.inside.rows.items ≡ c.args.self.now.rows = ap (λ (t : Table). t.rows) c.self.view_is in
    subst IsTree (sym (c.in_ok-make.ensures.ok ∙ ap (λ (x : List (Path × Node)). changed_tree (tree_of x) c.args.change) rows ∙ c.requires.change))
    (after_is_tree (tree_of c.args.self.now.rows) c.args.request.now c.args.reply.now (subst (λ (x : List (Path × Node)). IsTree (tree_of x)) rows c.self.invariant) c.requires.may.0)

pub returns-then-leaves_numbers-clause-ok : goal.returns-then-leaves_numbers-clause-ok
returns-then-leaves_numbers-clause-ok c =
    let rows : c.self.inside.rows.items ≡ c.args.self.now.rows = ap (λ (t : Table). t.rows) c.self.view_is in
    let numbers = ap (λ (t : Table). t.numbers) c.self.view_is in
    record {
      may = c.requires.may;
      tree = c.in_ok-make.ensures.ok ∙ ap (λ (x : List (Path × Node)). changed_tree (tree_of x) c.args.change) rows ∙ c.requires.change;
      numbers = ap numbers_of numbers ∙ sym (c.leaves_numbers.ensures (search (c.if-leaves_numbers.true, c.if-leaves_numbers.ensures)) (numbers_of c.args.self.now.numbers) c.args.reply.now);
    }
