use Rattle.std.proofs.Common.{◌≡◌, Bool, Err, Result, IfOk, IfErr, sym, ap, ◌∙◌, subst}
use Rattle.std.specs.Option.{is_some}
use Rattle.eden_model.specs.declared.fault.Fault.{Fault}
use Rattle.eden_overlay.specs.Held.{saved_at}
use Rattle.eden_inode.specs.Faults.{IsNumbersFault}
use Rattle.eden_inode.proofs.Loads.{without_told, without_why}
use Rattle.eden_inode.proofs.numbers.has_numbers.Goals as goal
use Rattle.eden_inode.proofs.numbers.has_numbers.Goals.{in-Ok, in-Err}

pub returns-clause-told : goal.returns-clause-told
returns-clause-told g c h =
    let F = g.F.Files.stored c.args.overlay.now in
    let P : Result Bool Fault → Type 0 = λ r. IfOk r (λ b. b ≡ is_some (saved_at F c.args.number c.args.tree)) in
    elim c.match-get_numbers.branch [
      | in-Ok w ↦ subst P (sym w.result-is) (sym (ap is_some (w.in-Ok.ensures.found h)))
      | in-Err w ↦ subst P (sym (w.result-is ∙ w.without_numbers.ensures)) (without_told c.args.tree (F c.args.number) w.in-Err.fault (w.in-Err.ensures.refused h))
    ]

pub returns-clause-fault : goal.returns-clause-fault
returns-clause-fault g c =
    let old = g.F.Files.failures c.args.overlay.now in
    let new = g.F.Files.failures c.get_numbers.new.self in
    let F = g.F.Files.stored c.args.overlay.now in
    let P : Result Bool Fault → Type 0 = λ r. IfErr r (IsNumbersFault g.W.World.honest old new c.args.tree (F c.args.number)) in
    elim c.match-get_numbers.branch [
      | in-Ok w ↦ subst P (sym w.result-is) tt
      | in-Err w ↦ subst P (sym (w.result-is ∙ w.without_numbers.ensures))
          (without_why c.args.tree (F c.args.number) g.W.World.honest old new w.in-Err.fault w.in-Err.ensures.refused (λ is. w.in-Err.ensures.counted.rose (ap Err is)))
    ]
