use Rattle.std.proofs.Common.{Result, Ok, Err, IfErr, ◌≡◌, ◌≤◌, ◌∙◌, ℕ, sym, ap, subst, arith}
use Rattle.eden_overlay.specs.declared.rescan.RescanFault.{RescanFault}
use Rattle.eden_overlay.specs.Rescanning.{IsRescanFault}
use Rattle.eden_overlay.proofs.CallerLemmas.{earlier}
use Rattle.eden_overlay.specs.Files.{Stored}
use Rattle.eden_repair.specs.Covering.{CantBeMended, IsWhole}
use Rattle.eden_repair.proofs.Whole.{told_then}
use Rattle.eden_repair.proofs.repairing.repair.Goals as goal

each_fault : (r : Result ℕ RescanFault) (P Q : RescanFault → Type 0) → ((f : RescanFault) → P f → Q f) → IfErr r P → IfErr r Q
each_fault (Ok n) P Q so is = is
each_fault (Err f) P Q so is = so f is

pub returns-clause-refused : goal.returns-clause-refused
returns-clause-refused g c =
    let honest = g.W.World.honest in
    let root = c.args.root in
    let stored = g.F.Files.stored in
    let failures = g.F.Files.failures in
    let old = failures c.args.files in
    let looked = c.new-overlay.result in
    let after = c.rescan-outcome.new.self in
    let same : failures looked ≡ old = ap failures c.new-overlay.ensures ∙ c.in_default.ensures.counted.same (λ is. absurd (cc)) in
    let up : old ≤ failures looked = omega arith in
    each_fault c.rescan-outcome.result (IsRescanFault honest (stored looked) root (failures looked) (failures after))
    (IsRescanFault honest (stored c.into_files.result) root old (failures c.into_files.result))
    (λ f is. subst (λ x. IsRescanFault honest (stored x) root old (failures x) f) (sym c.into_files.ensures)
    (earlier honest (stored after) (stored looked) root old (failures looked) (failures after) f (λ yes. sym (c.rescan-outcome.ensures.unchanged yes)) up is))
    c.rescan-outcome.ensures.refused

pub returns-clause-mended : goal.returns-clause-mended
returns-clause-mended g c = λ sure.
    let honest = g.W.World.honest in
    let stored = g.F.Files.stored in
    let failures = g.F.Files.failures in
    let root = c.args.root in
    let looked = c.new-overlay.result in
    let after = c.rescan-outcome.new.self in
    let clean : IsWhole (stored looked) root = subst (λ x. IsWhole (stored x) root) (sym c.new-overlay.ensures) (c.in_default.ensures.whole sure) in
    each_fault c.rescan-outcome.result (IsRescanFault honest (stored looked) root (failures looked) (failures after)) (CantBeMended (stored c.into_files.result))
    (λ f is. subst (λ x. CantBeMended (stored x) f) (sym c.into_files.ensures)
    (subst (λ (X : Stored). CantBeMended X f) (sym (c.rescan-outcome.ensures.unchanged sure)) (told_then honest (stored looked) root (failures looked) (failures after) f sure clean is)))
    c.rescan-outcome.ensures.refused
