use Rattle.std.proofs.Common.{ℕ, inl, refl, sym, ap, subst}
use denote.Exit.{yes}
use denote.Param.{param}
use denote.Param.Send.{arg_send, param_send}
use Rattle.eden_mount.specs.Settings.{Room}
use Rattle.eden_shared.specs.Opening.{AreTied}
use Rattle.eden_checkout.proofs.CallerLemmas.{Checkout-send}
use Rattle.eden_fuse_shared_life.specs.declared.life.SharedFolderEnding.{SharedFolderEnding}
use Rattle.eden_fuse_shared_life.specs.Lives.{LivesShared}
use Rattle.eden_fuse_shared_life.proofs.Living.{ended}
use Rattle.eden_fuse_shared_life.proofs.life.live_tied.Goals as goal

pub share_folder-shown-requires-send-T : goal.share_folder-shown-requires-send-T
share_folder-shown-requires-send-T g c = λ κs within.
    param_send 1 _ (arg_send _ yes _ (Checkout-send (param 1 g.row.W) (param 2 g.row.F) g.W.World g.F.Files c.type_bounds.send-W c.type_bounds.send-F))

pub share_folder-shown-requires-clause-room : goal.share_folder-shown-requires-clause-room
share_folder-shown-requires-clause-room g c = λ κs within. record { settings = c.args.config.now; limits = c.holds.ensures; is = c.in-Ok.ensures.room }

pub share_folder-shown-requires-clause-ties : goal.share_folder-shown-requires-clause-ties
share_folder-shown-requires-clause-ties g c = λ κs within.
    subst (λ (n : ℕ). AreTied c.args.ties.lanes.items c.args.ties.ends.items n) (sym (ap (λ (r : Room). r.queue.passes) c.in-Ok.ensures.room)) c.requires.ties

pub returns-in-Err : goal.returns-in-Err
returns-in-Err g c =
    subst (λ (x : SharedFolderEnding _). LivesShared g.W.World g.F.Files g.V.Receiver g.O.Sender (g.G.Lines.comes c.args.lines.now) (g.H.History.limit c.args.history) c.args.base c.args.config.now
    c.args.look.manner c.args.backing.files x) (sym c.unopened.ensures)
    (inl (record { refused = c.in-Err.ensures.refused; unstored = refl; unclosed = refl }))

pub returns-in-Ok : goal.returns-in-Ok
returns-in-Ok g c =
    ended g.W.World g.F.Files g.V.Receiver g.O.Sender (g.G.Lines.comes c.args.lines.now) (g.H.History.limit c.args.history) c.args.base c.args.config.now c.args.look.manner c.args.backing.files
    c.end.result c.in-Ok.table c.in-Ok.room c.share_folder-shown.result c.in-Ok.ensures.opened
    c.in-Ok.ensures.room c.share_folder-shown.ensures.shown c.share_folder-shown.ensures.err c.end.ensures
