use Rattle.std.proofs.Common.{◌∙◌, List, ◌++◌, ℕ, replicate, ap, refl}
use Rattle.sha1.specs.Sha1.{sha1}
use Rattle.eden_overlay_journal.specs.Records.{fields}
use Rattle.eden_overlay_journal.proofs.Halves.{halves}
use Rattle.eden_overlay_journal.proofs.record.short_record.Goals as goal

pub returns : goal.returns
returns c =
    let told = fields c.args.note c.args.number 0 0 in
    halves c.copy_from_slice.new.self (replicate 28 0) c.copy_from_slice-2.new.self c.copy_from_slice.ensures.len refl
    ∙ ap (λ (l : List ℕ). l ++ c.copy_from_slice-2.new.self) (c.copy_from_slice.ensures.after ∙ c.digest.ensures ∙ ap sha1 c.fields_of-fields.ensures)
    ∙ ap (λ (l : List ℕ). sha1 told ++ l) (c.copy_from_slice-2.ensures.after ∙ c.fields_of-fields.ensures)
