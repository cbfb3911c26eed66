use Rattle.std.proofs.Common.{◌≡◌, ◌∙◌, ℕ, Option, Result, sym, ap, subst}
use Rattle.eden_model.specs.Histories.{replay}
use Rattle.eden_model.specs.Numbers.{replay_numbers}
use Rattle.eden_mount.specs.Core.{Core}
use Rattle.eden_mount.specs.Settings.{Room}
use Rattle.eden_checkout.specs.Attempted.{attempted}
use Rattle.eden_checkout.specs.Checkouts.{Checkout}
use Rattle.eden_stdio_life.specs.Calls.{CallAnswers}
use Rattle.eden_stdio_life.specs.Opening.{IsOpened}
use Rattle.eden_stdio_life.specs.Serving.{Begins}
use Rattle.eden_stdio_life.proofs.CallerLemmas.{backs_as, closes_after}
use Rattle.eden_fuse_session.specs.Sending.{Known}
use Rattle.eden_fuse_session.specs.Turns.{Line}
use Rattle.eden_fuse_shown.specs.Showing.{StoresAll}
use Rattle.eden_fuse_life.specs.declared.fault.FolderFault.{FolderFault}
use Rattle.eden_fuse_life.specs.Lives.{IsShown, LivesFolderBy}
use Rattle.eden_fuse_life.proofs.Living.{lived}
use Rattle.eden_fuse_life.proofs.life.live_folder.Goals as goal

pub returns-in-Ok : goal.returns-in-Ok
returns-in-Ok g c =
    let w = g.W.World in
    let f = g.F.Files in
    let H = g.H.History in
    let limit = H.limit c.args.history in
    let settings = c.args.config.now in
    let m = c.args.look.manner in
    let line : Line = (g.C.Sender.sent c.args.sender.now, g.C.Sender.failures c.args.sender.now) in
    let line' : Line = (g.C.Sender.sent c.serve_folder-served.new.sender, g.C.Sender.failures c.serve_folder-served.new.sender) in
    let waiting : Known = g.V.Receiver.waiting c.args.receiver.now in
    let unread : Known = g.V.Receiver.waiting c.serve_folder-served.new.receiver in
    let left = c.end.result in
    let x = c.serve_folder-served.result in
    let s = c.serve_folder-served.ensures in
    let table : s.begun.mount.core.table ≡ c.in-Ok.table = ap (λ (m : Core _). m.table) s.begins.core in
    let root : s.last.core.table.root ≡ c.args.base.root = s.stays.commit ∙ ap (λ (t : Checkout _). t.root) table ∙ c.in-Ok.ensures.opened.commit in
    let N = replay_numbers w.numbers s.last.core.history in
    let ends = c.end.ensures.ends N (backs_as w f N x.table s.last.core.table s.table s.backed) in
    let whole : IsShown w f g.S.Source.fetched H.copies limit c.args.base settings c.args.backing m line line' waiting unread left = record {
      begun = s.begun;
      begins = subst (λ (r : Room). Begins r limit s.begun.mount.core.table c.args.backing.source s.begun.mount) c.in-Ok.ensures.room
          (subst (λ (t : Checkout _). Begins c.in-Ok.room limit t c.args.backing.source s.begun.mount) (sym table) s.begins);
      manner = s.manner;
      blank = s.blank;
      opened = subst (λ (t : Checkout _). IsOpened w f c.args.base settings c.args.backing.files t) (sym table) c.in-Ok.ensures.opened;
      ended = s.ended;
      said = x.said;
      session = s.session;
      last = s.last;
      stored = subst (λ (why : Option ℕ). StoresAll (CallAnswers g.S.Source.fetched (attempted w f) w.honest H.copies) s.ended.nodes s.ended.waits s.ended.mount why s.last)
          (sym c.end.ensures.unstored) s.stored;
      stays = s.stays;
      legal = s.legal;
      ends = record {
        files = closes_after w f c.args.base.root x.table s.last.core.table (replay w.opening s.last.core.history) N s.table root s.shown left.unclosed left.backing.files
            ends.files;
        source_left = ends.source_left ∙ s.source;
        told = ends.told;
      };
    } in
    subst (λ (o : Result (Unit {0}) FolderFault). LivesFolderBy w f g.S.Source.fetched H.copies limit o c.args.base settings c.args.backing m line line' waiting unread left)
    (sym ends.told)
    (lived w f g.S.Source.fetched H.copies limit c.args.base settings c.args.backing m line line' waiting unread left x.said left.unstored
    left.unclosed whole)
