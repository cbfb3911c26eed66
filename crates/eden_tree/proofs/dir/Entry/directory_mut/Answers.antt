use Rattle.std.proofs.Common.{Some, ap, sym, ◌∙◌, inl}
use Rattle.eden_tree.specs.Directory.{Row, with_child}
use Rattle.eden_tree.proofs.Children.{held_some}
use Rattle.eden_tree.proofs.dir.Entry.directory_mut.Goals as goal

pub returns-in-Some : goal.returns-in-Some
returns-in-Some g c = rw c.in-Some.is (
  λ k. inl (c.deref_mut.result.ghost_name, λ w. ap (λ (v : Row). with_child (Some w) v) c.self.view_is k),
  record { writes_back = tt; value = ap Some (c.deref_mut.ensures.value ∙ ap (λ b. b.value) c.in-Some.child-is) ∙ sym (held_some _ _ _ _ _ c.self.view_is c.in-Some.child c.in-Some.is) },
)
