-- A shared life as it is seen from outside, by what went on inside.
use Rattle.std.proofs.Common.{◌≡◌, ℕ, List, Some, None, Result, Ok, Err, inl, inr, sym, ap, ◌∙◌, subst}
use Rattle.std.specs.Prelude.{⊤}
use Rattle.std.specs.declared.io.Read.{Ghosts as Read}
use Rattle.std.specs.declared.io.Write.{Ghosts as Write}
use Rattle.eden_model.specs.declared.id.Id.{Id}
use Rattle.eden_model.specs.declared.world.World.{Ghosts}
use Rattle.eden_model.specs.Histories.{replay}
use Rattle.eden_model.specs.Numbers.{replay_numbers}
use Rattle.eden_overlay.specs.declared.files.Files.{Ghosts as Files}
use Rattle.eden_mount.specs.Settings.{Settings}
use Rattle.eden_shared.specs.declared.account.Terms.{Terms}
use Rattle.eden_shared.specs.Passes.{AreTold, newcomers}
use Rattle.eden_stdio_life.specs.declared.opening.Base.{Base}
use Rattle.eden_stdio_life.proofs.CallerLemmas.{close_seen}
use Rattle.eden_host.specs.declared.fault.HostFault.{HostFault}
use Rattle.eden_host.specs.Sessions.{AreHosted}
use Rattle.eden_serve_life.specs.declared.fault.SharedLifeFault.{SharedLifeFault}
use Rattle.eden_serve_life.specs.declared.fault.SharedLifeFault.TheVariants as life
use Rattle.eden_serve_life.specs.declared.life.SharedEnding.{SharedEnding}
use Rattle.eden_serve_life.specs.Inside.{IsHostedInside, LivesSharedInside, LivesSharedInsideBy}
use Rattle.eden_serve_life.specs.Lives.{IsHosted, LivesShared, LivesSharedBy, terms_from}

module _ {W F I O : Type 0} (w : Ghosts W) (f : Files F W) (r : Read I) (v : Write O)
    (limit : ℕ) (base : Base) (settings : Settings) (files : F) (left : SharedEnding F) where
  hosted_seen : IsHostedInside w f r v limit base settings files left → IsHosted w f r v settings.passes limit base.root left
  hosted_seen x =
      let next = x.begun.inodes.next in
      let terms = terms_from w f r v settings.passes limit in
      record {
        next = next;
        guests = x.is.left;
        said = x.hosted;
        hosted = subst (λ (root : Id). AreHosted r v w.honest w.opening w.numbers (newcomers (terms root next) 1 settings.passes) x.is.left x.hosted) x.opened.commit x.is.hosted;
        history = x.ended.history;
        told = subst (λ (n : ℕ). AreTold x.ended.history n x.is.left) x.is.kept.passes x.is.agrees.told;
        legal = x.is.legal;
        served = x.ended.table.inodes.files;
        ended = close_seen w f base.root x.ended.table (replay w.opening x.ended.history) (replay_numbers w.numbers x.ended.history) left.unclosed left.files x.closed;
        outcome = x.told;
      }

  lives_by : (o : Result ⊤ SharedLifeFault) → LivesSharedInsideBy w f r v limit o base settings files left → LivesSharedBy w f r v settings.passes limit o base.root files left
  lives_by (Err (life.Open why)) (inl x) = inl (record { same = x.refused.unchanged; unclosed = x.unclosed })
  lives_by (Err (life.Open why)) (inr x) = inr (record {
    memory = x.memory;
    opened = x.begun.inodes.files;
    ended = close_seen w f base.root x.begun w.opening w.numbers left.unclosed left.files x.closed;
  })
  lives_by (Err life.Listen) x = hosted_seen x
  lives_by (Err (life.Session why)) x = hosted_seen x
  lives_by (Err (life.Close why)) x = hosted_seen x
  lives_by (Ok u) x = hosted_seen x

  -- a whole life
  pub lives_seen : LivesSharedInside w f r v limit base settings files left → LivesShared w f r v settings.passes limit base.root files left
  lives_seen x = lives_by left.outcome x
