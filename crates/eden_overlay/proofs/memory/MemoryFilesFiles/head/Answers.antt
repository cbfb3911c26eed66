use Rattle.std.proofs.Common.{◌∙◌, ℕ, List, Option, sym, ap, subst}
use Rattle.std.specs.Option.{option_map}
use Rattle.eden_overlay.specs.declared.memory.FileBytes.{FileBytes}
use Rattle.eden_overlay.specs.Files.{IsHeadOf}
use Rattle.eden_overlay.specs.InMemory.{bytes_in_memory, stored_in}
use Rattle.eden_overlay.proofs.Held.{stored_in-files_of}
use Rattle.eden_overlay.proofs.memory.MemoryFilesFiles.head.Goals as goal

pub returns-clause-found : goal.returns-clause-found
returns-clause-found g c = λ honest.
    let items : Option FileBytes → Option (List ℕ) = λ o. option_map bytes_in_memory o in
    let at : List (ℕ × List ℕ) → Option (List ℕ) = λ files. stored_in files c.args.number in
    let whole = ap items c.get.ensures.value ∙ sym (stored_in-files_of c.self.inside.files.entries c.args.number) ∙ ap at c.self.view_is in
    subst (λ (o : Option (List ℕ)). IsHeadOf o c.head_in.result) whole c.head_in.ensures
