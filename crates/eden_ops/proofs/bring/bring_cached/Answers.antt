use Rattle.std.proofs.Common.{◌≡◌, List, Option, Some, MatchOption, sym, subst}
use Rattle.eden_model.specs.declared.tree_entry.TreeEntry.{TreeEntry}
use Rattle.eden_inode.specs.Tables.{HasTree}
use Rattle.eden_ops.specs.Keeping.{same}
use Rattle.eden_ops.proofs.Bringing.{has_tree}
use Rattle.eden_ops.proofs.bring.bring_cached.Goals as goal

some_of : {X : Type 0} (o : Option X) (x : X) (P : Type 0) (Q : X → Type 0) → o ≡ Some x → MatchOption o P Q → Q x
some_of {X = X} o x P Q is h = subst (λ (u : Option X). MatchOption u P Q) is h

pub returns-in_err-cached_tree-clause-keeps : goal.returns-in_err-cached_tree-clause-keeps
returns-in_err-cached_tree-clause-keeps g c = same

pub bring_object-requires : goal.bring_object-requires
bring_object-requires g c =
    let s = c.args.inodes.now in
    let p = c.args.path.now in
    let F = g.F.Files.stored s.files in
    let had = some_of c.in_ok-cached_tree.field-0 c.in-Some.entries _ _ c.in-Some.is c.in_ok-cached_tree.ensures.entries in
    record {
      tree = subst (λ (es : List TreeEntry). HasTree g.W.World.repository g.W.World.honest F p s.root es) (sym c.as_slice.ensures.value)
          (has_tree g.W.World.repository g.W.World.honest F p s.root c.args.id c.in-Some.entries.items c.requires.at c.requires.unsaved had);
    }

pub returns-in-None-clause-keeps : goal.returns-in-None-clause-keeps
returns-in-None-clause-keeps g c = same
