-- A whole life of a folder of several threads, from its parts.
use Rattle.std.proofs.Common.{◌≡◌, ℕ, Option, Some, None, Result, Ok, Err, inr, refl, sym, ap, ◌∙◌, subst}
use Rattle.std.specs.Prelude.{⊤, IfOk, IfErr}
use Rattle.eden_model.specs.declared.world.World.{Ghosts}
use Rattle.eden_model.specs.Histories.{replay}
use Rattle.eden_model.specs.Numbers.{replay_numbers}
use Rattle.eden_overlay.specs.declared.files.Files.{Ghosts as Files}
use Rattle.eden_overlay.specs.declared.files.FilesFault.{FilesFault}
use Rattle.eden_mount.specs.Settings.{Room, Settings, room_for}
use Rattle.eden_checkout.specs.Attempted.{attempted}
use Rattle.eden_checkout.specs.Checkouts.{Checkout}
use Rattle.eden_stdio_life.specs.declared.opening.Base.{Base}
use Rattle.eden_stdio_life.specs.Opening.{IsOpened}
use Rattle.eden_stdio_life.proofs.CallerLemmas.{backs_as, closes_after}
use Rattle.eden_host.specs.Sharing.{terms_at}
use Rattle.eden_fuse_session.specs.declared.receiver.Receiver.{Ghosts as Receiver}
use Rattle.eden_fuse_session.specs.declared.sender.Sender.{Ghosts as Sender}
use Rattle.eden_fuse_session.specs.declared.serving.SessionFault.{SessionFault}
use Rattle.eden_fuse_shown.specs.declared.manner.Manner.{Manner}
use Rattle.eden_fuse_life.specs.declared.fault.FolderFault.{FolderFault}
use Rattle.eden_fuse_life.specs.Lives.{first_folder_fault}
use Rattle.eden_fuse_host.specs.declared.sharing.FolderTable.{FolderTable}
use Rattle.eden_fuse_host.specs.Lines.{Coming}
use Rattle.eden_fuse_host.specs.Sharing.{IsLeft, ShowsTable}
use Rattle.eden_fuse_shared_life.specs.declared.life.SharedFolderEnding.{SharedFolderEnding}
use Rattle.eden_fuse_shared_life.specs.Lives.{Ends, IsShown, LivesShared, LivesSharedBy, opened_with}

module _ {W F V O : Type 0} (w : Ghosts W) (f : Files F W) (v : Receiver V) (o : Sender O) (Comes : Coming)
    (limit : ℕ) (base : Base) (settings : Settings) (m : Manner) (files : F) (left : SharedFolderEnding F) where
  -- the first fault of a served folder is none of the opening
  lived : (said : Result ⊤ SessionFault) (unstored : Option ℕ) (u : Option FilesFault) → IsShown w f v o Comes limit base settings m files left
      → LivesSharedBy w f v o Comes limit (first_folder_fault said unstored u) base settings m files left
  lived (Err fault) unstored u h = h
  lived (Ok _) (Some errno) u h = h
  lived (Ok _) None (Some why) h = h
  lived (Ok _) None None h = h

  -- what was opened was shown and closed, or closed at once
  pub ended : (t : Checkout F) (room : Room) (shown : Result (FolderTable (Checkout F)) (Checkout F)) → IsOpened w f base settings files t → room ≡ room_for settings
      → IfOk shown (ShowsTable v o Comes (attempted w f) w.honest w.opening w.numbers (terms_at (attempted w f) room limit t) m)
      → IfErr shown (λ (e : Checkout F). e ≡ t) → Ends w f shown left → LivesShared w f v o Comes limit base settings m files left
  ended t room (Ok x) opened is ok err ends =
      let shows = subst (λ (y : Room). ShowsTable v o Comes (attempted w f) w.honest w.opening w.numbers (terms_at (attempted w f) y limit t) m x) is ok in
      let N = replay_numbers w.numbers shows.ended.history in
      let outcome : left.outcome ≡ first_folder_fault x.said left.unstored left.unclosed =
      ends.2 ∙ ap (λ (why : Option ℕ). first_folder_fault x.said why left.unclosed) (sym ends.1) in
      let whole : IsShown w f v o Comes limit base settings m files left = record {
        begun = t;
        opened = opened;
        said = x.said;
        ended = shows.ended;
        is = subst (λ (why : Option ℕ). IsLeft v o Comes (attempted w f) w.honest w.opening w.numbers (opened_with settings limit t) m x.said why shows.ended) (sym ends.1) shows.is;
        closed = closes_after w f base.root x.table shows.ended.table (replay w.opening shows.ended.history) N shows.table (shows.is.kept.commit ∙ opened.commit) shows.is.shown
            left.unclosed left.files (ends.0 N (backs_as w f N x.table shows.ended.table shows.table shows.is.backed));
        told = outcome;
      } in
      subst (λ (r : Result ⊤ FolderFault). LivesSharedBy w f v o Comes limit r base settings m files left) (sym outcome) (lived x.said left.unstored left.unclosed whole)
  ended t room (Err u) opened is ok err ends =
      subst (λ (r : Result ⊤ FolderFault). LivesSharedBy w f v o Comes limit r base settings m files left) (sym ends.2) (inr (record {
        memory = refl;
        unstored = ends.1;
        begun = t;
        opened = opened;
        closed = closes_after w f base.root u t w.opening w.numbers err opened.commit opened.shown left.unclosed left.files
            (ends.0 w.numbers (backs_as w f w.numbers u t err opened.backed));
      }))
