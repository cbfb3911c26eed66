use Rattle.eden_coupling.specs.Chains.{Refused}
use Rattle.eden_coupling.proofs.CallerLemmas.{loaded_found, owned_chain}
use Rattle.eden_materialise.proofs.Chains.{after_error, held_can, held_chain, held_refused, held_sound}
use Rattle.eden_materialise.proofs.chain.own_chain.Goals as goal

pub store_chain-requires-clause-chain : goal.store_chain-requires-clause-chain
store_chain-requires-clause-chain g c = owned_chain c.args.root.now c.requires.held.0 c.args.path.now c.requires.held.1.0 c.requires.loaded

pub store_chain-requires-clause-entries : goal.store_chain-requires-clause-entries
store_chain-requires-clause-entries g c = held_can g.W.World.honest g.W.World.repository (g.F.Files.stored c.args.overlay.now) c.args.root.now c.args.path.now c.requires.held

pub store_chain-requires-clause-sound : goal.store_chain-requires-clause-sound
store_chain-requires-clause-sound g c honest =
    held_sound g.W.World.honest g.W.World.repository (g.F.Files.stored c.args.overlay.now) c.args.root.now c.args.path.now c.requires.held honest c.requires.loaded

pub returns-in_err-store_chain-clause-strays : goal.returns-in_err-store_chain-clause-strays
returns-in_err-store_chain-clause-strays g c honest =
    let x = c.args.root.now in
    let p = c.args.path.now in
    let F = g.F.Files.stored c.args.overlay.now in
    let G = g.F.Files.stored c.store_chain.new.overlay in
    let l = loaded_found p x c.requires.loaded in
    after_error c.from_residual.result (Refused F x p G)
    (held_refused g.W.World.honest g.W.World.repository F x p c.requires.held l.row l.directory G l.at l.holds (c.in_err-store_chain.ensures.err honest l.row l.directory l.at l.holds))

pub returns-clause-stored : goal.returns-clause-stored
returns-clause-stored g c honest =
    let x = c.args.root.now in
    let p = c.args.path.now in
    let F = g.F.Files.stored c.args.overlay.now in
    let G = g.F.Files.stored c.store_chain.new.overlay in
    let l = loaded_found p x c.requires.loaded in
    held_chain g.W.World.honest g.W.World.repository F x p c.requires.held l.row l.directory G l.at l.holds (c.in_ok-store_chain.ensures.ok honest l.row l.directory l.at l.holds)
