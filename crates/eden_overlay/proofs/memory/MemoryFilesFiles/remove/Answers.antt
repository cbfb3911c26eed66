use Rattle.eden_overlay.proofs.Held.{stored_in-updates}
use Rattle.eden_overlay.proofs.memory.MemoryFilesFiles.remove.Goals as goal

pub returns-clause-ok : goal.returns-clause-ok
returns-clause-ok g c = λ honest.
    rw (← c.self.view_is) (stored_in-updates c.self.inside.files c.remove.new.self c.args.number _ c.remove.ensures.updates)
