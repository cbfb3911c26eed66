use Rattle.eden_overlay.proofs.Held.{stored_in-updates}
use Rattle.eden_overlay.proofs.memory.MemoryFilesFiles.replace_body.Goals as goal

pub returns-clause-ok : goal.returns-clause-ok
returns-clause-ok g c = λ honest.
    rw (← c.self.view_is, ← c.in_ok-file.ensures) (stored_in-updates c.self.inside.files c.insert.new.self c.args.number _ c.in_ok-insert.ensures.updates)
