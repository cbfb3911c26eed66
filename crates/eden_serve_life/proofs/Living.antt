-- A whole life, from its parts.
use Rattle.std.proofs.Common.{◌≡◌, ℕ, Option, Some, None, Result, Ok, Err, inr, refl, sym, ◌∙◌, subst}
use Rattle.std.specs.Prelude.{⊤, IfOk, IfErr}
use Rattle.std.specs.declared.io.Read.{Ghosts as Read}
use Rattle.std.specs.declared.io.Write.{Ghosts as Write}
use Rattle.eden_model.specs.declared.world.World.{Ghosts}
use Rattle.eden_model.specs.Histories.{replay}
use Rattle.eden_model.specs.Numbers.{replay_numbers}
use Rattle.eden_overlay.specs.declared.files.Files.{Ghosts as Files}
use Rattle.eden_overlay.specs.declared.files.FilesFault.{FilesFault}
use Rattle.eden_mount.specs.Settings.{Room, Settings, room_for}
use Rattle.eden_checkout.specs.Attempted.{attempted}
use Rattle.eden_checkout.specs.Checkouts.{Checkout}
use Rattle.eden_stdio_life.specs.declared.opening.Base.{Base}
use Rattle.eden_stdio_life.specs.Opening.{IsOpened}
use Rattle.eden_stdio_life.proofs.CallerLemmas.{backs_as, closes_after}
use Rattle.eden_host.specs.declared.fault.HostFault.{HostFault}
use Rattle.eden_host.specs.declared.fault.HostFault.TheVariants as host
use Rattle.eden_serve_life.specs.declared.fault.SharedLifeFault.{SharedLifeFault}
use Rattle.eden_serve_life.specs.declared.life.SharedEnding.{SharedEnding}
use Rattle.eden_host.specs.declared.sharing.HostedTable.{HostedTable}
use Rattle.eden_serve_life.specs.Inside.{Ends, IsHostedInside, LivesSharedInside, LivesSharedInsideBy}
use Rattle.eden_serve_life.specs.Lives.{first_told}
use Rattle.eden_host.specs.Sharing.{HostsTable, terms_at}

module _ {W F I O : Type 0} (w : Ghosts W) (f : Files F W) (r : Read I) (v : Write O)
    (limit : ℕ) (base : Base) (settings : Settings) (files : F) (left : SharedEnding F) where
  -- the first fault of hosting guests is none of the opening
  lived : (hosted : Result ⊤ HostFault) (o : Option FilesFault) → IsHostedInside w f r v limit base settings files left
      → LivesSharedInsideBy w f r v limit (first_told hosted o) base settings files left
  lived (Err host.Listen) o h = h
  lived (Err (host.Session fault)) o h = h
  lived (Ok _) (Some why) h = h
  lived (Ok _) None h = h

  -- what was opened was hosted and closed, or closed at once
  pub ended : (t : Checkout F) (room : Room) (hosted : Result (HostedTable (Checkout F)) (Checkout F)) → IsOpened w f base settings files t → room ≡ room_for settings
      → IfOk hosted (HostsTable (attempted w f) r v w.honest w.opening w.numbers (terms_at (attempted w f) room limit t)) → IfErr hosted (λ (u : Checkout F). u ≡ t) → Ends w f hosted left
      → LivesSharedInside w f r v limit base settings files left
  ended t room (Ok x) opened is ok err ends =
      let hosts = subst (λ (y : Room). HostsTable (attempted w f) r v w.honest w.opening w.numbers (terms_at (attempted w f) y limit t) x) is ok in
      let N = replay_numbers w.numbers hosts.ended.history in
      let whole : IsHostedInside w f r v limit base settings files left = record {
        begun = t;
        opened = opened;
        hosted = x.outcome;
        ended = hosts.ended;
        is = hosts.is;
        closed = closes_after w f base.root x.table hosts.ended.table (replay w.opening hosts.ended.history) N hosts.table (hosts.is.kept.commit ∙ opened.commit) hosts.is.shown
            left.unclosed left.files (ends.0 N (backs_as w f N x.table hosts.ended.table hosts.table hosts.is.backed));
        told = ends.1;
      } in
      subst (λ (o : Result ⊤ SharedLifeFault). LivesSharedInsideBy w f r v limit o base settings files left) (sym ends.1) (lived x.outcome left.unclosed whole)
  ended t room (Err u) opened is ok err ends =
      subst (λ (o : Result ⊤ SharedLifeFault). LivesSharedInsideBy w f r v limit o base settings files left) (sym ends.1) (inr (record {
        memory = refl;
        begun = t;
        opened = opened;
        closed = closes_after w f base.root u t w.opening w.numbers err opened.commit opened.shown left.unclosed left.files
            (ends.0 w.numbers (backs_as w f w.numbers u t err opened.backed));
      }))
