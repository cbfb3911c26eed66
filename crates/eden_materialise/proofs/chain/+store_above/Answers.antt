use Rattle.std.proofs.Common.{rules, ◌≡◌, ◌<◌, ◌⊎◌, Some, [], ◌∷◌, length, sym, ap, subst, inl, arith}
use Rattle.std.proofs.lemmas.Result.{on_ok_weaker, on_err_weaker}
use Rattle.eden_model.specs.Trees.{Path}
use Rattle.eden_overlay.specs.Files.{Stored}
use Rattle.eden_overlay.specs.Held.{with_entries}
use Rattle.eden_tree.specs.Directory.{child_of}
use Rattle.eden_tree.specs.Rows.{find_row}
use Rattle.eden_tree.proofs.CallerLemmas.{no_names}
use Rattle.eden_coupling.specs.Chains.{Above, at_end, again, Unfinished, here, below}
use Rattle.eden_coupling.specs.Materialising.{marked_listing, IsChain}
use Rattle.eden_coupling.proofs.CallerLemmas.{chain_rest, so_far}
use Rattle.eden_materialise.specs.Chains.{StaySound}
use Rattle.eden_materialise.proofs.Steps.{above_again}
use Rattle.eden_materialise.proofs.chain.+store_above.Goals as goal

pub returns-in-None-clause-ok : goal.returns-in-None-clause-ok
returns-in-None-clause-ok g t c honest =
    let x = c.args.root.now in
    let F = g.F.Files.stored c.args.overlay.now in
    let empty : c.args.path.now ≡ [] = no_names c.args.path.now c.in-None.ensures.cases in
    subst (λ (q : Path). Above F x q F) (sym empty) (at_end x)

pub store_above-requires : goal.store_above-requires
store_above-requires g t c κs within =
    let x = c.args.root.now in
    let F = g.F.Files.stored c.args.overlay.now in
    let d = c.in-Some-directory.dir.now in
    let n = c.in-Some.name.now in
    let p = c.in-Some.rest.now in
    let z = c.in-Some-get.below.now in
    let path : c.args.path.now ≡ n ∷ p = c.in-Some.ensures.cases.0 in
    let holds : child_of x ≡ Some d = sym c.in-Some-directory.ensures in
    let there : find_row n d.rows ≡ Some z = sym c.in-Some-get.ensures in
    let rest : IsChain z p = chain_rest x d n z p holds there (subst (IsChain x) path c.requires.chain) in
    let long = ap length path in
    let smaller : length p < length c.args.path.now = omega (arith, long) in
    let sound : g.W.World.honest → StaySound F z p =
    λ honest G reached. c.requires.sound honest G (subst (λ (q : Path). Above F x q G ⊎ Unfinished F x q G) (sym path) (so_far F x d n z p G holds there reached)) in
    search rules

pub returns-in_err-store_above-in-Some-get-clause-err : goal.returns-in_err-store_above-in-Some-get-clause-err
returns-in_err-store_above-in-Some-get-clause-err g t c honest =
    let x = c.args.root.now in
    let F = g.F.Files.stored c.args.overlay.now in
    let d = c.in-Some-directory.dir.now in
    let n = c.in-Some.name.now in
    let p = c.in-Some.rest.now in
    let z = c.in-Some-get.below.now in
    let path : c.args.path.now ≡ n ∷ p = c.in-Some.ensures.cases.0 in
    let G = g.F.Files.stored c.store_above.new.overlay in
    let way : Unfinished F x c.args.path.now G =
    subst (λ (q : Path). Unfinished F x q G) (sym path) (below x d n z p G (sym c.in-Some-directory.ensures) (sym c.in-Some-get.ensures) (c.in_err-store_above-in-Some-get.ensures.err honest)) in
    search rules

pub store_again-requires-clause-sound : goal.store_again-requires-clause-sound
store_again-requires-clause-sound g t c honest other =
    let x = c.args.root.now in
    let F = g.F.Files.stored c.args.overlay.now in
    let d = c.in-Some-directory.dir.now in
    let n = c.in-Some.name.now in
    let p = c.in-Some.rest.now in
    let z = c.in-Some-get.below.now in
    let path : c.args.path.now ≡ n ∷ p = c.in-Some.ensures.cases.0 in
    let G = g.F.Files.stored c.store_above.new.overlay in
    let H = with_entries G x.number (marked_listing d n) in
    let all : Above F x (n ∷ p) H = again x d n z p G (sym c.in-Some-directory.ensures) (sym c.in-Some-get.ensures) (c.in_ok-store_above-in-Some-get.ensures.ok honest) other in
    c.requires.sound honest H (inl (subst (λ (q : Path). Above F x q H) (sym path) all))

pub returns-in-Some-get-clause-ok : goal.returns-in-Some-get-clause-ok
returns-in-Some-get-clause-ok g t c honest =
    let x = c.args.root.now in
    let F = g.F.Files.stored c.args.overlay.now in
    let d = c.in-Some-directory.dir.now in
    let n = c.in-Some.name.now in
    let p = c.in-Some.rest.now in
    let z = c.in-Some-get.below.now in
    let path : c.args.path.now ≡ n ∷ p = c.in-Some.ensures.cases.0 in
    let G = g.F.Files.stored c.store_above.new.overlay in
    let H = g.F.Files.stored c.store_again.new.overlay in
    on_ok_weaker c.store_again.result
    (λ s. subst (λ (q : Path). Above F x q H) (sym path)
    (above_again F x d n z p G H (sym c.in-Some-directory.ensures) (sym c.in-Some-get.ensures) (c.in_ok-store_above-in-Some-get.ensures.ok honest) s))
    (c.store_again.ensures.ok honest)

pub returns-in-Some-get-clause-err : goal.returns-in-Some-get-clause-err
returns-in-Some-get-clause-err g t c honest =
    let x = c.args.root.now in
    let F = g.F.Files.stored c.args.overlay.now in
    let d = c.in-Some-directory.dir.now in
    let n = c.in-Some.name.now in
    let p = c.in-Some.rest.now in
    let z = c.in-Some-get.below.now in
    let path : c.args.path.now ≡ n ∷ p = c.in-Some.ensures.cases.0 in
    let G = g.F.Files.stored c.store_above.new.overlay in
    on_err_weaker c.store_again.result
    (λ s. subst (λ (K : Stored). Unfinished F x c.args.path.now K) (sym s.0) (subst (λ (q : Path). Unfinished F x q G) (sym path)
    (here x d n z p G (sym c.in-Some-directory.ensures) (sym c.in-Some-get.ensures) (c.in_ok-store_above-in-Some-get.ensures.ok honest) s.1)))
    (c.store_again.ensures.err honest)
