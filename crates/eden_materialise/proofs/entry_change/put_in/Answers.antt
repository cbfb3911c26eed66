use Rattle.std.proofs.Common.{◌≡◌, ◌⊎◌, IfSome, Some, sym, ap, ◌∙◌, subst}
use Rattle.eden_overlay_format.specs.Directory.{AreStorable}
use Rattle.eden_overlay.specs.Held.{with_entries}
use Rattle.eden_tree.specs.Directory.{Row}
use Rattle.eden_coupling.specs.Chains.{IsLoadedAt, Above, Unfinished}
use Rattle.eden_coupling.specs.Laws.{owned}
use Rattle.eden_coupling.specs.Listings.{listing_of}
use Rattle.eden_coupling.specs.Materialising.{IsChain, owned_along}
use Rattle.eden_coupling.proofs.CallerLemmas.{put_can}
use Rattle.eden_materialise.specs.Chains.{StaySound}
use Rattle.eden_materialise.specs.Puts.{AtDirectory}
use Rattle.eden_inode.specs.Listed.{DiffersAt}
use Rattle.eden_materialise.proofs.OneChange.{put_told}
use Rattle.eden_materialise.proofs.Listings.{then_loaded, put_can_be, put_stays_sound, put_above, put_refused, put_is}
use Rattle.eden_materialise.proofs.entry_change.put_in.Goals as goal

pub store_chain-requires-clause-chain : goal.store_chain-requires-clause-chain
store_chain-requires-clause-chain g c =
    let x = c.args.root.now in
    let p = c.args.path.now in
    let n = c.args.name.now in
    let F = g.F.Files.stored c.args.overlay.now in
    let held = c.requires.held in
    let m = held.may in
    let is = put_is p n c.args.entry c.in-Ok.was.entry c.in-Ok.was.unsaved x c.put_at.new.root m.row m.directory m.at m.holds c.in-Ok.ensures.ok in
    subst (λ (a : Row). IsChain a p) (sym is) (put_can g.W.World.honest g.W.World.repository F x held.next p n (Some c.args.entry) held.table m)

pub store_chain-requires-clause-loaded : goal.store_chain-requires-clause-loaded
store_chain-requires-clause-loaded g c =
    let x = c.args.root.now in
    let p = c.args.path.now in
    let n = c.args.name.now in
    let F = g.F.Files.stored c.args.overlay.now in
    let m = c.requires.held.may in
    let is = put_is p n c.args.entry c.in-Ok.was.entry c.in-Ok.was.unsaved x c.put_at.new.root m.row m.directory m.at m.holds c.in-Ok.ensures.ok in
    subst (λ (a : Row). IsLoadedAt p a) (sym is) (then_loaded g.W.World.honest g.W.World.repository F x p n (Some c.args.entry) c.requires.held)

pub store_chain-requires-clause-entries : goal.store_chain-requires-clause-entries
store_chain-requires-clause-entries g c =
    let x = c.args.root.now in
    let p = c.args.path.now in
    let n = c.args.name.now in
    let F = g.F.Files.stored c.args.overlay.now in
    let m = c.requires.held.may in
    let is = put_is p n c.args.entry c.in-Ok.was.entry c.in-Ok.was.unsaved x c.put_at.new.root m.row m.directory m.at m.holds c.in-Ok.ensures.ok in
    subst (λ (a : Row). AtDirectory p a (λ y d. AreStorable (listing_of d))) (sym is) (put_can_be g.W.World.honest g.W.World.repository F x p n (Some c.args.entry) c.requires.held)

pub store_chain-requires-clause-sound : goal.store_chain-requires-clause-sound
store_chain-requires-clause-sound g c honest =
    let x = c.args.root.now in
    let p = c.args.path.now in
    let n = c.args.name.now in
    let F = g.F.Files.stored c.args.overlay.now in
    let m = c.requires.held.may in
    let is = put_is p n c.args.entry c.in-Ok.was.entry c.in-Ok.was.unsaved x c.put_at.new.root m.row m.directory m.at m.holds c.in-Ok.ensures.ok in
    subst (λ (a : Row). AtDirectory p a (λ y d. StaySound (with_entries F y.number (listing_of d)) a p)) (sym is)
    (put_stays_sound g.W.World.honest g.W.World.repository F x p n (Some c.args.entry) c.requires.held honest)

pub store_chain-requires-clause-differs : goal.store_chain-requires-clause-differs
store_chain-requires-clause-differs g c honest =
    let x = c.args.root.now in
    let p = c.args.path.now in
    let n = c.args.name.now in
    let F = g.F.Files.stored c.args.overlay.now in
    let m = c.requires.held.may in
    let is = put_is p n c.args.entry c.in-Ok.was.entry c.in-Ok.was.unsaved x c.put_at.new.root m.row m.directory m.at m.holds c.in-Ok.ensures.ok in
    subst (λ (a : Row). IfSome c.differing-changed.result (λ t. AtDirectory p a (λ y d. DiffersAt t.now F y.number (listing_of d)))) (sym is)
    (put_told g.W.World.honest g.W.World.repository F x p n (Some c.args.entry) c.requires.held honest (λ t. t.now) c.differing-changed.result c.differing-changed.ensures)

pub returns-in-Ok-store_chain-clause-ok : goal.returns-in-Ok-store_chain-clause-ok
returns-in-Ok-store_chain-clause-ok g c y d at h =
    let x = c.args.root.now in
    let p = c.args.path.now in
    let n = c.args.name.now in
    c.mark_own.ensures ∙ ap (λ (a : Row). owned (owned_along p a))
    (put_is p n c.args.entry c.in-Ok.was.entry c.in-Ok.was.unsaved x c.put_at.new.root y d at h c.in-Ok.ensures.ok)

pub returns-in-Ok-store_chain-clause-stored : goal.returns-in-Ok-store_chain-clause-stored
returns-in-Ok-store_chain-clause-stored g c honest =
    let x = c.args.root.now in
    let p = c.args.path.now in
    let n = c.args.name.now in
    let F = g.F.Files.stored c.args.overlay.now in
    let G = g.F.Files.stored c.store_chain.new.overlay in
    let m = c.requires.held.may in
    let is = put_is p n c.args.entry c.in-Ok.was.entry c.in-Ok.was.unsaved x c.put_at.new.root m.row m.directory m.at m.holds c.in-Ok.ensures.ok in
    put_above g.W.World.honest g.W.World.repository F x p n (Some c.args.entry) c.requires.held G
    (subst (λ (a : Row). AtDirectory p a (λ y d. Above (with_entries F y.number (listing_of d)) a p G)) is (c.in-Ok-store_chain.ensures.ok honest))

pub returns-in-Err-store_chain-clause-strays : goal.returns-in-Err-store_chain-clause-strays
returns-in-Err-store_chain-clause-strays g c honest =
    let x = c.args.root.now in
    let p = c.args.path.now in
    let n = c.args.name.now in
    let F = g.F.Files.stored c.args.overlay.now in
    let G = g.F.Files.stored c.store_chain.new.overlay in
    let m = c.requires.held.may in
    let is = put_is p n c.args.entry c.in-Ok.was.entry c.in-Ok.was.unsaved x c.put_at.new.root m.row m.directory m.at m.holds c.in-Ok.ensures.ok in
    put_refused g.W.World.honest g.W.World.repository F x p n (Some c.args.entry) c.requires.held G
    (subst (λ (a : Row). AtDirectory p a (λ y d. (G ≡ F) ⊎ Unfinished (with_entries F y.number (listing_of d)) a p G)) is (c.in-Err-store_chain.ensures.err honest))
