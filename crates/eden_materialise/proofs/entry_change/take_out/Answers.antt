use Rattle.std.proofs.Common.{None, ap, ◌∙◌}
use Rattle.eden_tree.specs.Directory.{Row}
use Rattle.eden_coupling.specs.Chains.{Refused}
use Rattle.eden_coupling.specs.Laws.{owned}
use Rattle.eden_coupling.specs.Materialising.{owned_along}
use Rattle.eden_coupling.proofs.CallerLemmas.{owned_chain}
use Rattle.eden_materialise.proofs.Chains.{after_error}
use Rattle.eden_materialise.proofs.OneChange.{drop_told}
use Rattle.eden_materialise.proofs.Listings.{held_loaded, drop_sound, drop_refused, changed_is}
use Rattle.eden_materialise.proofs.entry_change.take_out.Goals as goal

pub store_chain-requires-clause-chain : goal.store_chain-requires-clause-chain
store_chain-requires-clause-chain g c =
    let F = g.F.Files.stored c.args.overlay.now in
    owned_chain c.args.root.now c.requires.held.next c.args.path.now c.requires.held.table
    (held_loaded g.W.World.honest g.W.World.repository F c.args.root.now c.args.path.now c.args.name.now None c.requires.held)

pub store_chain-requires-clause-sound : goal.store_chain-requires-clause-sound
store_chain-requires-clause-sound g c honest =
    drop_sound g.W.World.honest g.W.World.repository (g.F.Files.stored c.args.overlay.now) c.args.root.now c.args.path.now c.args.name.now None c.requires.held honest

pub store_chain-requires-clause-differs : goal.store_chain-requires-clause-differs
store_chain-requires-clause-differs g c honest =
    drop_told g.W.World.honest g.W.World.repository (g.F.Files.stored c.args.overlay.now) c.args.root.now c.args.path.now c.args.name.now None c.requires.held honest
    (λ m. m.now) c.differing-changed.result c.differing-changed.ensures

pub returns-in_err-store_chain-clause-strays : goal.returns-in_err-store_chain-clause-strays
returns-in_err-store_chain-clause-strays g c honest =
    let x = c.args.root.now in
    let p = c.args.path.now in
    let F = g.F.Files.stored c.args.overlay.now in
    let G = g.F.Files.stored c.store_chain.new.overlay in
    let m = c.requires.held.may in
    after_error c.from_residual.result (Refused F x p G)
    (drop_refused g.W.World.honest g.W.World.repository F x p c.args.name.now None c.requires.held G (c.in_err-store_chain.ensures.err honest m.row m.directory m.at m.holds))

pub returns-clause-ok : goal.returns-clause-ok
returns-clause-ok g c y d at h =
    let F = g.F.Files.stored c.args.overlay.now in
    c.mark_own.ensures ∙ ap (λ (a : Row). owned (owned_along c.args.path.now a))
    (c.remove_at.ensures ∙ changed_is g.W.World.honest g.W.World.repository F c.args.root.now c.args.path.now c.args.name.now None c.requires.held d y at h)
