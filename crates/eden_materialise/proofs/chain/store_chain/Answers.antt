use Rattle.std.proofs.Common.{inl, inr, sym, subst}
use Rattle.std.proofs.lemmas.Result.{on_ok_weaker, on_err_weaker}
use Rattle.eden_overlay.specs.Files.{Stored}
use Rattle.eden_coupling.specs.Chains.{Above, Unfinished}
use Rattle.eden_coupling.proofs.CallerLemmas.{loaded_found, none_yet}
use Rattle.eden_materialise.specs.Chains.{lowest_of, with_lowest, StopsChain, StaySound}
use Rattle.eden_materialise.proofs.Chains.{after_error}
use Rattle.eden_materialise.proofs.chain.store_chain.Goals as goal

pub store_lowest-requires-clause-sound : goal.store_lowest-requires-clause-sound
store_lowest-requires-clause-sound g c honest y d at h =
    let F = g.F.Files.stored c.args.overlay.now in
    let M = with_lowest F y.number (lowest_of c.args.lowest y d) in
    c.requires.sound honest y d at h M (none_yet M c.args.path.now c.args.root.now y at)

pub store_above-requires-clause-sound : goal.store_above-requires-clause-sound
store_above-requires-clause-sound g c honest =
    let l = loaded_found c.args.path.now c.args.root.now c.requires.loaded in
    subst (λ (M : Stored). StaySound M c.args.root.now c.args.path.now) (sym (c.in_ok-store_lowest.ensures.ok honest l.row l.directory l.at l.holds))
    (c.requires.sound honest l.row l.directory l.at l.holds)

pub returns-in_err-store_lowest-clause-err : goal.returns-in_err-store_lowest-clause-err
returns-in_err-store_lowest-clause-err g c honest =
    after_error c.from_residual.result
    (StopsChain c.args.path.now c.args.lowest (g.F.Files.stored c.args.overlay.now) c.args.root.now (g.F.Files.stored c.store_lowest.new.overlay))
    (λ y d at h. inl (c.in_err-store_lowest.ensures.err honest))

pub returns-clause-ok : goal.returns-clause-ok
returns-clause-ok g c honest =
    let G = g.F.Files.stored c.store_above.new.overlay in
    on_ok_weaker c.store_above.result
    (λ above y d at h. subst (λ (M : Stored). Above M c.args.root.now c.args.path.now G) (c.in_ok-store_lowest.ensures.ok honest y d at h) above)
    (c.store_above.ensures.ok honest)

pub returns-clause-err : goal.returns-clause-err
returns-clause-err g c honest =
    let G = g.F.Files.stored c.store_above.new.overlay in
    on_err_weaker c.store_above.result
    (λ left y d at h. inr (subst (λ (M : Stored). Unfinished M c.args.root.now c.args.path.now G) (c.in_ok-store_lowest.ensures.ok honest y d at h) left))
    (c.store_above.ensures.err honest)
