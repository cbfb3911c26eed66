use Rattle.std.proofs.Common.{◌≡◌, Option, Some, None, IfSome, IfNone, sym, ap, ◌∙◌}
use Rattle.eden_tree.specs.Directory.{Directory, with_child}
use Rattle.eden_tree.specs.Paths.{edit_row, stamped_along}
use Rattle.eden_tree.proofs.CallerLemmas.{edits_alike}
use Rattle.eden_inode.proofs.Rows.{none_some}
use Rattle.eden_inode.proofs.load.put_loaded.Goals as goal

by_answer : {X : Type 0} (r : Option X) (P N : Type 0) (S : X → Type 0) → IfNone r N → IfSome r S → (N → P) → ((x : X) → S x → P) → P
by_answer None P N S none some f g = f none
by_answer (Some x) P N S none some f g = g x some

pub returns-clause-ok : goal.returns-clause-ok
returns-clause-ok g c =
    let x = c.args.root.now in
    let p = c.args.path.now in
    let at = c.requires.1 in
    let put : c.change_at.new.self ≡ edit_row p (with_child (Some c.args.dir)) x = by_answer c.change_at.result _ _ _ c.change_at.ensures.none c.change_at.ensures.some
    (λ none. none_some at.row _ (sym none ∙ at.there))
    (λ u h. h.is ∙ edits_alike p (λ _. h.after) (with_child (Some c.args.dir)) x h.before h.was (h.done ∙ ap (λ (d : Directory). with_child (Some d) h.before) c.in_ok-child.ensures.ok)) in
    c.stamp_along.ensures ∙ ap (stamped_along p c.args.clock) put
