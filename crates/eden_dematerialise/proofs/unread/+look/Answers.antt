use Rattle.std.proofs.Common.{◌≡◌, ◌∙◌, List, Contains, IfSome, sym, subst}
use Rattle.std.proofs.lemmas.Iterator.Adapters.{YieldsList-from_vec}
use Rattle.std.proofs.lemmas.Iterator.Consumers.{YieldsList-turn, YieldsList-end}
use Rattle.std.proofs.lemmas.List.{map-id}
use Rattle.eden_overlay_format.specs.declared.stored_entry.StoredEntry.{StoredEntry}
use Rattle.eden_overlay.specs.Files.{Stored}
use Rattle.eden_overlay.specs.Held.{HoldsEntries}
use Rattle.eden_overlay.specs.Soundness.{IsLive, Names, below}
use Rattle.eden_dematerialise.specs.Unread.{AreEntries, AreMetOf}
use Rattle.eden_dematerialise.proofs.Found.{all_from, all_on, each_on, if_ok, next_named, none_from, one_entry, stay_on}
use Rattle.eden_dematerialise.proofs.unread.+look.Goals as goal

pub numbers_by-returns-in_default-clause-each : goal.numbers_by-returns-in_default-clause-each
numbers_by-returns-in_default-clause-each g t c = λ honest live names.
    one_entry (g.F.Files.stored c.args.files.now) c.args.number c.args.entry.now c.args.met c.in_ok-met.met c.in_ok-met.ensures.added live names

pub numbers_by-returns-clause-each : goal.numbers_by-returns-clause-each
numbers_by-returns-clause-each g t c = λ honest live names.
    let F = g.F.Files.stored c.args.files.now in
    let e = c.args.entry.now in
    if_ok c.numbers_in.result
    (λ n each. each_on F c.args.met c.in_ok-met.met n (one_entry F c.args.number e c.args.met c.in_ok-met.met c.in_ok-met.ensures.added live names) each)
    (c.numbers_in.ensures.each honest (below c.args.number e live names (c.in-Dir-Own.is-0, c.in-Dir-Own.is-1)))

pub numbers_by-returns-clause-stay : goal.numbers_by-returns-clause-stay
numbers_by-returns-clause-stay g t c =
    let adds = c.in_ok-met.ensures.added in
    if_ok c.numbers_in.result (λ n stay. stay_on c.args.met c.in_ok-met.met n adds.stay stay) c.numbers_in.ensures.stay

pub numbers_in-returns-in_default-clause-all : goal.numbers_in-returns-in_default-clause-all
numbers_in-returns-in_default-clause-all g t c = λ honest.
    none_from (g.F.Files.stored c.args.files.now) c.args.number c.args.met (c.in_ok-entries.ensures.none honest c.in_default.is)

pub numbers_in-entries-preserved-in_ok-met : goal.numbers_in-entries-preserved-in_ok-met
numbers_in-entries-preserved-in_ok-met g t c =
    let F = g.F.Files.stored c.args.files.now in
    let inv = c.entries.invariant in
    let one = c.in_ok-met.ensures in
    let e = c.in-Some-entry.entry in
    let met = c.in_ok-met.met in
    let items = c.in-Some.entries.items in
    let given = c.into_iter-entry-iterator.ensures.into_iter_gives in
    let whole = YieldsList-from_vec {s = c.into_iter-entry-iterator.result} items given.0 (given.1 ∙ c.in-Some.entries.ok.0) in
    let turn = YieldsList-turn whole c.entries.yielded c.entries.entry-iterator c.entries.yielded_by c.next.result c.next.new.self e c.in-Some-entry.is c.next.ensures.steps in
    record {
      each = λ honest live.
          each_on F c.args.met c.entries.met met (inv.each honest live)
          (subst (λ (X : Stored). IsLive X c.args.number → Names X c.args.number e → AreEntries X c.entries.met met) (inv.unchanged honest) (one.each honest) live
          (next_named F c.args.number items e _ (subst (λ o. IfSome o (λ v. HoldsEntries F c.args.number v.items)) c.in-Some.is (c.in_ok-entries.ensures.held honest)) turn));
      stay = stay_on c.args.met c.entries.met met inv.stay one.stay;
      all = λ honest.
          all_on F c.entries.yielded e c.entries.met met one.stay (inv.all honest)
          (subst (λ (X : Stored). AreMetOf X met e) (inv.unchanged honest) (one.all honest));
      unchanged = λ honest. c.numbers_by.ensures.unchanged honest ∙ inv.unchanged honest;
    }

pub numbers_in-entries-preserved : goal.numbers_in-entries-preserved
numbers_in-entries-preserved g t c =
    let F = g.F.Files.stored c.args.files.now in
    let inv = c.entries.invariant in
    let one = c.in_ok-met.ensures in
    let e = c.in-Some-entry.entry in
    let met = c.in_ok-met.met in
    let items = c.in-Some.entries.items in
    let given = c.into_iter-entry-iterator.ensures.into_iter_gives in
    let whole = YieldsList-from_vec {s = c.into_iter-entry-iterator.result} items given.0 (given.1 ∙ c.in-Some.entries.ok.0) in
    let turn = YieldsList-turn whole c.entries.yielded c.entries.entry-iterator c.entries.yielded_by c.next.result c.next.new.self e c.in-Some-entry.is c.next.ensures.steps in
    record {
      each = λ honest live.
          each_on F c.args.met c.entries.met met (inv.each honest live)
          (subst (λ (X : Stored). IsLive X c.args.number → Names X c.args.number e → AreEntries X c.entries.met met) (inv.unchanged honest) (one.each honest) live
          (next_named F c.args.number items e _ (subst (λ o. IfSome o (λ v. HoldsEntries F c.args.number v.items)) c.in-Some.is (c.in_ok-entries.ensures.held honest)) turn));
      stay = stay_on c.args.met c.entries.met met inv.stay one.stay;
      all = λ honest.
          all_on F c.entries.yielded e c.entries.met met one.stay (inv.all honest)
          (subst (λ (X : Stored). AreMetOf X met e) (inv.unchanged honest) (one.all honest));
      unchanged = λ honest. c.numbers_by.ensures.unchanged honest ∙ inv.unchanged honest;
    }

pub numbers_in-returns-clause-all : goal.numbers_in-returns-clause-all
numbers_in-returns-clause-all g t c = λ honest.
    let F = g.F.Files.stored c.args.files.now in
    let items = c.in-Some.entries.items in
    let yielded = c.entries.yielded in
    let given = c.into_iter-entry-iterator.ensures.into_iter_gives in
    let all = YieldsList-from_vec {s = c.into_iter-entry-iterator.result} items given.0 (given.1 ∙ c.in-Some.entries.ok.0) in
    let last = YieldsList-end all yielded c.entries.entry-iterator c.entries.yielded_by c.next.result c.next.new.self c.in-None.is c.next.ensures.steps in
    let held : HoldsEntries F c.args.number items =
    subst (λ o. IfSome o (λ v. HoldsEntries F c.args.number v.items)) c.in-Some.is (c.in_ok-entries.ensures.held honest) in
    let are : yielded ≡ items = sym (map-id yielded) ∙ last.0 in
    all_from F c.args.number items c.entries.met held
    (λ e there. c.entries.invariant.all honest e (subst (λ (l : List StoredEntry). Contains l e) (sym are) there))
