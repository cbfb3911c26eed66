use Rattle.std.proofs.Common.{sym, subst}
use Rattle.eden_tree.specs.Directory.{Row}
use Rattle.eden_coupling.specs.Chains.{IsLoadedAt}
use Rattle.eden_ops.specs.Carrying.{CanCarry}
use Rattle.eden_ops.proofs.Relocation.{relocates_after, relocates_never}
use Rattle.eden_ops.proofs.move_dir.move_dir.Goals as goal

pub returns-in-Err : goal.returns-in-Err
returns-in-Err g c =
    let is = sym c.save_numbers.ensures.root in
    relocates_never g.W.World g.F.Files c.args.from.now c.args.to.now c.args.inodes.now c.save_numbers.new.inodes
    (λ q off other loaded. subst (IsLoadedAt q) is loaded) (λ loaded. subst (IsLoadedAt c.args.from.now) is loaded) c.in-Err.fault c.in-Err.ensures.readies

pub move_saved-requires-clause-may : goal.move_saved-requires-clause-may
move_saved-requires-clause-may g c =
    subst (λ (x : Row). CanCarry x c.args.from.now c.args.to.now) (sym c.save_numbers.ensures.root) c.requires.may

pub move_saved-requires-clause-loaded : goal.move_saved-requires-clause-loaded
move_saved-requires-clause-loaded g c = subst (IsLoadedAt c.args.from.now) (sym c.save_numbers.ensures.root) c.requires.loaded

pub returns : goal.returns
returns g c =
    let is = sym c.save_numbers.ensures.root in
    relocates_after g.W.World g.F.Files c.args.from.now c.args.to.now c.args.inodes.now c.save_numbers.new.inodes
    (λ q off other loaded. subst (IsLoadedAt q) is loaded) (λ loaded. subst (IsLoadedAt c.args.from.now) is loaded)
    c.move_saved.new.inodes c.move_saved.result c.in-Ok.ensures.readies c.move_saved.ensures
