use Rattle.std.proofs.Common.{Some, ap, sym, ◌∙◌}
use Rattle.eden_tree.proofs.Children.{held_some}
use Rattle.eden_tree.proofs.dir.Entry.directory.Goals as goal

pub returns-in-Some : goal.returns-in-Some
returns-in-Some g c = ap Some c.deref.ensures ∙ sym (held_some _ _ _ _ _ c.self.view_is c.in-Some.child c.in-Some.is)
