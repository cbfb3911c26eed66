use Rattle.std.proofs.Common.{rules, ◌≡◌, ◌<◌, Option, IfSome, IfNone, length, Some, None, sym, ap, ◌∙◌, subst, arith}
use Rattle.eden_model.specs.Trees.{Path}
use Rattle.eden_tree.specs.Directory.{Row, child_of, with_child}
use Rattle.eden_tree.specs.Rows.{find_row, set_row}
use Rattle.eden_tree.specs.Paths.{row_at, edit_row}
use Rattle.eden_tree.proofs.Children.{held_some}
use Rattle.eden_tree.proofs.Edits.{steps_down, steps_back, put_back, row_at-absent}
use Rattle.eden_tree.proofs.dir.Entry.+change_at.Goals as goal

if_none : {X : Type 0} (o : Option X) (P Q : Type 0) → (P → Q) → IfNone o P → IfNone o Q
if_none None P Q f h = f h
if_none (Some x) P Q f h = h

if_some : {X : Type 0} (o : Option X) (P Q : X → Type 0) → ((x : X) → P x → Q x) → IfSome o P → IfSome o Q
if_some None P Q f h = h
if_some (Some x) P Q f h = f x h

pub change_at-requires : goal.change_at-requires
change_at-requires g t c κs within =
    let x = c.args.self.now in
    let n = c.in-Some.name.now in
    let p = c.in-Some.rest.now in
    let d = c.deref_mut.result.now in
    let y = c.in-Some-get_mut.entry.now in
    let path = c.in-Some.ensures.cases.0 in
    let holds : child_of x ≡ Some d = held_some _ _ _ _ _ c.self.view_is c.in-Some-child.child c.in-Some-child.is ∙ ap Some (sym c.deref_mut.ensures.value) in
    let there : find_row n d.rows ≡ Some y = sym c.in-Some-get_mut.ensures.value in
    let down : row_at c.args.path.now x ≡ row_at p y = ap (λ (q : Path). row_at q x) path ∙ steps_down n p x y d holds there in
    let may : IfSome (row_at p y) (g.C.Change.may c.args.change c.args.state.now) = subst (λ (o : Option Row). IfSome o (g.C.Change.may c.args.change c.args.state.now)) down c.requires in
    let long = ap length path in
    let smaller : length p < length c.args.path.now = omega (arith, long) in
    search rules

pub returns-in-None-get_mut-clause-none : goal.returns-in-None-get_mut-clause-none
returns-in-None-get_mut-clause-none g t c =
    let x = c.args.self.now in
    let d = c.deref_mut.result.now in
    let holds : child_of x ≡ Some d = held_some _ _ _ _ _ c.self.view_is c.in-Some-child.child c.in-Some-child.is ∙ ap Some (sym c.deref_mut.ensures.value) in
    ap (λ (q : Path). row_at q x) c.in-Some.ensures.cases.0 ∙ row_at-absent c.in-Some.name.now c.in-Some.rest.now x d holds (sym c.in-None-get_mut.ensures.value)

pub returns-in-Some-get_mut-clause-none : goal.returns-in-Some-get_mut-clause-none
returns-in-Some-get_mut-clause-none g t c =
    let x = c.args.self.now in
    let n = c.in-Some.name.now in
    let p = c.in-Some.rest.now in
    let d = c.deref_mut.result.now in
    let y = c.in-Some-get_mut.entry.now in
    let holds : child_of x ≡ Some d = held_some _ _ _ _ _ c.self.view_is c.in-Some-child.child c.in-Some-child.is ∙ ap Some (sym c.deref_mut.ensures.value) in
    let there : find_row n d.rows ≡ Some y = sym c.in-Some-get_mut.ensures.value in
    if_none c.change_at.result (row_at p y ≡ None) (row_at c.args.path.now x ≡ None)
    (λ h. ap (λ (q : Path). row_at q x) c.in-Some.ensures.cases.0 ∙ steps_down n p x y d holds there ∙ h) c.change_at.ensures.none

pub returns-in-Some-get_mut-clause-kept : goal.returns-in-Some-get_mut-clause-kept
returns-in-Some-get_mut-clause-kept g t c =
    let x = c.args.self.now in
    let n = c.in-Some.name.now in
    let d = c.deref_mut.result.now in
    let y = c.in-Some-get_mut.entry.now in
    let z = c.change_at.new.self in
    let holds : child_of x ≡ Some d = held_some _ _ _ _ _ c.self.view_is c.in-Some-child.child c.in-Some-child.is ∙ ap Some (sym c.deref_mut.ensures.value) in
    let there : find_row n d.rows ≡ Some y = sym c.in-Some-get_mut.ensures.value in
    if_none c.change_at.result (z ≡ y) _
    (λ h.
    ap (λ (v : Row). with_child (Some (record d { rows = set_row n z d.rows })) v) c.self.view_is
    ∙ ap (λ (w : Row). with_child (Some (record d { rows = set_row n w d.rows })) x) h
    ∙ put_back n x y d holds there)
    c.change_at.ensures.kept

pub returns-in-Some-get_mut-clause-some : goal.returns-in-Some-get_mut-clause-some
returns-in-Some-get_mut-clause-some g t c =
    let x = c.args.self.now in
    let n = c.in-Some.name.now in
    let p = c.in-Some.rest.now in
    let d = c.deref_mut.result.now in
    let y = c.in-Some-get_mut.entry.now in
    let z = c.change_at.new.self in
    let path = c.in-Some.ensures.cases.0 in
    let holds : child_of x ≡ Some d = held_some _ _ _ _ _ c.self.view_is c.in-Some-child.child c.in-Some-child.is ∙ ap Some (sym c.deref_mut.ensures.value) in
    let there : find_row n d.rows ≡ Some y = sym c.in-Some-get_mut.ensures.value in
    if_some c.change_at.result _ _
    (λ answer h. record {
      before = h.before;
      after = h.after;
      was = ap (λ (q : Path). row_at q x) path ∙ steps_down n p x y d holds there ∙ h.was;
      done = h.done;
      is = ap (λ (v : Row). with_child (Some (record d { rows = set_row n z d.rows })) v) c.self.view_is
          ∙ ap (λ (w : Row). with_child (Some (record d { rows = set_row n w d.rows })) x) h.is
          ∙ steps_back n p (λ _. h.after) x y d holds there
          ∙ ap (λ (q : Path). edit_row q (λ _. h.after) x) (sym path);
    })
    c.change_at.ensures.some
