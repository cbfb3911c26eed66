use Rattle.std.proofs.Common.{Option, IfSome, sym, subst}
use Rattle.eden_tree.specs.Directory.{Row}
use Rattle.eden_materialise.specs.Moves.{IsPut}
use Rattle.eden_materialise.proofs.Putting.{put_there, taken_back}
use Rattle.eden_materialise.proofs.memory.take_back_at.Goals as goal

pub change_at-requires : goal.change_at-requires
change_at-requires g c =
    let n = c.args.name.now in
    let was = c.args.was in
    let x = c.requires.0 in
    let w = c.requires.1.0 in
    let p = c.requires.1.1 in
    subst (λ (o : Option Row). IfSome o (λ z. (a : Row) × ((b : Row) × IsPut n b was.entry was.unsaved a z))) (sym (put_there c.args.path.now n w was.entry was.unsaved x c.args.root.now p))
    (p.before, (w, p.put))

pub returns : goal.returns
returns g c x w p =
    taken_back c.args.path.now c.args.name.now w c.args.was.entry c.args.was.unsaved x c.args.root.now c.change_at.new.self tt c.change_at.result p c.change_at.ensures.none c.change_at.ensures.some
