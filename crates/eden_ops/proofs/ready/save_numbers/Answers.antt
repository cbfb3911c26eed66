use Rattle.std.proofs.Common.{◌≡◌, Ok, Err, Result, sym, ap, ◌∙◌}
use Rattle.eden_model.specs.declared.fault.Fault.TheVariants as fault
use Rattle.eden_overlay.specs.declared.files.FilesFault.{FilesFault}
use Rattle.eden_overlay.specs.declared.files.FilesFault.TheVariants as files
use Rattle.eden_ops.proofs.Readied.{readies_stored}
use Rattle.eden_ops.proofs.ready.save_numbers.Goals as goal

not_device : {T : Type 0} (r : Result T FilesFault) (t : T) → r ≡ Ok t → r ≡ Err files.Device → ⊥
not_device r t ok err = let both : Ok t ≡ Err files.Device = sym ok ∙ err in cc

not_both : {T : Type 0} (r : Result T FilesFault) → r ≡ Err files.Memory → r ≡ Err files.Device → ⊥
not_both r memory device = let both : Err files.Memory ≡ Err files.Device = sym memory ∙ device in cc

pub returns-in-Ok-clause-readies : goal.returns-in-Ok-clause-readies
returns-in-Ok-clause-readies g c =
    let e = c.save_numbers.ensures in
    readies_stored g.W.World g.F.Files c.args.inodes.now c.save_numbers.new.self (Ok tt) e.shown e.numbers e.rest tt
    (e.counted.same (not_device c.save_numbers.result c.in-Ok.field-0 c.in-Ok.is))

pub returns-in-Err-Device-clause-readies : goal.returns-in-Err-Device-clause-readies
returns-in-Err-Device-clause-readies g c =
    let e = c.save_numbers.ensures in
    readies_stored g.W.World g.F.Files c.args.inodes.now c.save_numbers.new.self (Err fault.Overlay) e.shown e.numbers e.rest
    (e.counted.rose (c.in-Err-Device.is ∙ ap (λ (f : FilesFault). Err f) c.in-Err-Device.field-0-is)) tt

pub returns-in-Err-Memory-clause-readies : goal.returns-in-Err-Memory-clause-readies
returns-in-Err-Memory-clause-readies g c =
    let e = c.save_numbers.ensures in
    readies_stored g.W.World g.F.Files c.args.inodes.now c.save_numbers.new.self (Err fault.Memory) e.shown e.numbers e.rest
    (e.counted.same (not_both c.save_numbers.result (c.in-Err-Memory.is ∙ ap (λ (f : FilesFault). Err f) c.in-Err-Memory.field-0-is))) tt
