use Rattle.std.proofs.Common.{ℕ, inl, refl, sym, ap, subst}
use denote.Exit.{yes}
use denote.Param.{param}
use denote.Param.Send.{arg_send, param_send}
use Rattle.eden_mount.specs.Settings.{Room}
use Rattle.eden_shared.specs.Opening.{AreTied}
use Rattle.eden_checkout.proofs.CallerLemmas.{Checkout-send}
use Rattle.eden_serve_life.specs.declared.life.SharedEnding.{SharedEnding}
use Rattle.eden_serve_life.specs.Inside.{LivesSharedInside}
use Rattle.eden_serve_life.proofs.Living.{ended}
use Rattle.eden_serve_life.proofs.Seeing.{lives_seen}
use Rattle.eden_serve_life.proofs.life.live_tied.Goals as goal

pub host_table-hosted-requires-send-T : goal.host_table-hosted-requires-send-T
host_table-hosted-requires-send-T g c = λ κs within.
    param_send 1 _ (arg_send _ yes _ (Checkout-send (param 1 g.row.W) (param 2 g.row.F) g.W.World g.F.Files c.type_bounds.send-W c.type_bounds.send-F))

pub host_table-hosted-requires-clause-room : goal.host_table-hosted-requires-clause-room
host_table-hosted-requires-clause-room g c = λ κs within. record { settings = c.args.config.now; limits = c.holds.ensures; is = c.in-Ok.ensures.room }

pub host_table-hosted-requires-clause-ties : goal.host_table-hosted-requires-clause-ties
host_table-hosted-requires-clause-ties g c = λ κs within.
    subst (λ (n : ℕ). AreTied c.args.ties.lanes.items c.args.ties.ends.items n) (sym (ap (λ (r : Room). r.queue.passes) c.in-Ok.ensures.room)) c.requires.ties

pub returns-in-Err-clause-inside : goal.returns-in-Err-clause-inside
returns-in-Err-clause-inside g c =
    subst (λ (x : SharedEnding _). LivesSharedInside g.W.World g.F.Files g.I.Read g.O.Write (g.H.History.limit c.args.history) c.args.base c.args.config.now c.args.backing.files x)
    (sym c.unopened.ensures)
    (inl (record { refused = c.in-Err.ensures.refused; unclosed = refl }))

pub returns-in-Ok-clause-inside : goal.returns-in-Ok-clause-inside
returns-in-Ok-clause-inside g c =
    ended g.W.World g.F.Files g.I.Read g.O.Write (g.H.History.limit c.args.history) c.args.base c.args.config.now c.args.backing.files c.end.result
    c.in-Ok.table c.in-Ok.room c.host_table-hosted.result c.in-Ok.ensures.opened
    c.in-Ok.ensures.room c.host_table-hosted.ensures.hosted c.host_table-hosted.ensures.err c.end.ensures

pub returns-in-Err-clause-lives : goal.returns-in-Err-clause-lives
returns-in-Err-clause-lives g c =
    lives_seen g.W.World g.F.Files g.I.Read g.O.Write (g.H.History.limit c.args.history) c.args.base c.args.config.now c.args.backing.files c.unopened.result
    (returns-in-Err-clause-inside g c)

pub returns-in-Ok-clause-lives : goal.returns-in-Ok-clause-lives
returns-in-Ok-clause-lives g c =
    lives_seen g.W.World g.F.Files g.I.Read g.O.Write (g.H.History.limit c.args.history) c.args.base c.args.config.now c.args.backing.files c.end.result
    (returns-in-Ok-clause-inside g c)
