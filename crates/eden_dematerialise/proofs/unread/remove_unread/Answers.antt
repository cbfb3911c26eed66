use Rattle.std.proofs.Common.{rules, ℕ, List, Contains, subst}
use Rattle.eden_overlay.specs.Soundness.{here}
use Rattle.eden_overlay.proofs.CallerLemmas.{contains_none}
use Rattle.eden_dematerialise.specs.declared.unread.Numbers.{Numbers}
use Rattle.eden_dematerialise.specs.Unread.{WasElsewhere, WasOwn}
use Rattle.eden_dematerialise.proofs.Found.{each_own, removed_all}
use Rattle.eden_dematerialise.proofs.Removed.{none_unread}
use Rattle.eden_dematerialise.proofs.unread.remove_unread.Goals as goal

pub returns-in_err-remove_all-clause-removed : goal.returns-in_err-remove_all-clause-removed
returns-in_err-remove_all-clause-removed g c = λ honest.
    let F = g.F.Files.stored c.args.files.now in
    let none : Numbers = record { own = c.new.result; elsewhere = c.new-2.result } in
    let no_elsewhere : (k : ℕ) → ¬ WasElsewhere none k = λ k there. contains_none k (subst (λ (l : List ℕ). Contains l k) c.new-2.ensures.items there) in
    removed_all F (g.F.Files.stored c.numbers_in.new.files) (g.F.Files.stored c.remove_all.new.files) none c.in_ok-own.field-0
    (c.numbers_in.ensures.unchanged honest) no_elsewhere (c.in_ok-own.ensures.each honest here) (c.in_ok-own.ensures.all honest) (c.remove_all.ensures.others honest)

pub returns-clause-removed : goal.returns-clause-removed
returns-clause-removed g c = λ honest.
    let F = g.F.Files.stored c.args.files.now in
    let none : Numbers = record { own = c.new.result; elsewhere = c.new-2.result } in
    let no_elsewhere : (k : ℕ) → ¬ WasElsewhere none k = λ k there. contains_none k (subst (λ (l : List ℕ). Contains l k) c.new-2.ensures.items there) in
    removed_all F (g.F.Files.stored c.numbers_in.new.files) (g.F.Files.stored c.remove_all.new.files) none c.in_ok-own.field-0
    (c.numbers_in.ensures.unchanged honest) no_elsewhere (c.in_ok-own.ensures.each honest here) (c.in_ok-own.ensures.all honest) (c.remove_all.ensures.others honest)

pub returns-clause-unread : goal.returns-clause-unread
returns-clause-unread g c = λ honest.
    let F = g.F.Files.stored c.args.files.now in
    let none : Numbers = record { own = c.new.result; elsewhere = c.new-2.result } in
    let no_elsewhere : (k : ℕ) → ¬ WasElsewhere none k = λ k there. contains_none k (subst (λ (l : List ℕ). Contains l k) c.new-2.ensures.items there) in
    let no_own : (k : ℕ) → ¬ WasOwn none k = search rules in
    let each = c.in_ok-own.ensures.each honest here in
    let removes =
    removed_all F (g.F.Files.stored c.numbers_in.new.files) (g.F.Files.stored c.remove_all.new.files) none c.in_ok-own.field-0
    (c.numbers_in.ensures.unchanged honest) no_elsewhere (c.in_ok-own.ensures.each honest here) (c.in_ok-own.ensures.all honest) (c.remove_all.ensures.others honest) in
    none_unread F (g.F.Files.stored c.remove_all.new.files) removes c.in_ok-own.field-0 (c.in_ok-own.ensures.all honest)
    (each_own F none c.in_ok-own.field-0 no_own each) (c.in_ok-remove_all.ensures.gone honest)
