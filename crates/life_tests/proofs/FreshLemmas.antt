-- A mount of the sample commit may be opened over no files, with its fresh numbers.
use Rattle.std.proofs.Common.{None, ap, subst}
use Rattle.std.proofs.Math.Path.{fun_ext}
use Rattle.eden_model.specs.Numbers.{Numbers, opening_numbers}
use Rattle.eden_model.specs.Repository.{Whole}
use Rattle.eden_overlay.specs.Files.{Stored}
use Rattle.eden_checkout.specs.Laws.{OpensFresh}
use Rattle.eden_checkout.specs.Opening.{AreNone, CanOpen, files_number}
use Rattle.life_tests.specs.Samples.{fresh_numbers, sample, two_files}

pub fresh_opens : OpensFresh → (F : Stored) → AreNone F → CanOpen sample (Whole sample two_files) fresh_numbers two_files F
fresh_opens fresh F none =
    subst (λ (N : Numbers). CanOpen sample (Whole sample two_files) N two_files F) (ap (λ (G : Stored). opening_numbers (files_number two_files G) 2) (fun_ext none)) (fresh sample two_files F none)
