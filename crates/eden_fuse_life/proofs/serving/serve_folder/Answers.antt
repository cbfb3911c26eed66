use Rattle.std.proofs.Common.{◌≡◌, ◌∙◌, sym, ap, subst}
use Rattle.eden_model.specs.Backing.{Backs}
use Rattle.eden_model.specs.Histories.{Legal, replay}
use Rattle.eden_model.specs.Numbers.{replay_numbers}
use Rattle.eden_mount.specs.Core.{Core}
use Rattle.eden_mount.specs.Serving.{Desk, IsAtRest}
use Rattle.eden_stdio_life.specs.Serving.{Begins}
use Rattle.eden_fuse_life.proofs.Staying.{serves_and_stores_keep}
use Rattle.eden_fuse_life.proofs.serving.serve_folder.Goals as goal

pub returns : goal.returns
returns g c =
    let first : c.new-shown.result.mount.core ≡ c.new-mount.result =
    ap (λ (d : Desk _ _). d.core) c.new-shown.ensures.mount ∙ ap (λ (d : Desk _ _). d.core) c.new-asking.ensures ∙ c.new.ensures.mount in
    let source : c.new-shown.result.mount.source ≡ c.args.source =
    ap (λ (d : Desk _ _). d.source) c.new-shown.ensures.mount ∙ ap (λ (d : Desk _ _). d.source) c.new-asking.ensures ∙ c.new.ensures.source in
    let stored = c.into_mount-asking.ensures in
    let whole : c.into_local.result ≡ c.into_mount-asking.result.0 = c.into_local.ensures in
    let last : c.into_parts-mount.result.0 ≡ c.into_mount-asking.result.0.core = c.into_parts-mount.ensures.mount ∙ ap (λ (d : Desk _ _). d.core) whole in
    let A = g.T.Attempts.table in
    let said = c.session-said.ensures in
    let begins : Begins c.args.room (g.H.History.limit c.args.history) c.args.table c.args.source c.new-shown.result.mount = record {
      core = first ∙ c.new-mount.ensures.value;
      source = source;
      rest = subst (λ (m : Core _). IsAtRest m) (sym first) c.new-mount.ensures.rest;
    } in
    record {
      begun = c.new-shown.result;
      begins = begins;
      manner = c.new-shown.ensures.manner;
      blank = c.new-shown.ensures.blank;
      ended = c.session-said.new.service;
      session = said;
      last = c.into_mount-asking.result.0;
      stored = stored;
      stays = serves_and_stores_keep g.S.Source.fetched A g.W.World.honest g.H.History.copies said.messages _ _ _ c.into_mount-asking.result.0 said.served stored;
      legal = λ h. subst (λ (m : Core _). Legal g.W.World.opening g.W.World.numbers m.history) last (c.holds.ensures.legal h);
      shown = λ h. subst (λ (m : Core _). g.T.Attempts.table.shown m.table ≡ replay g.W.World.opening m.history) last (c.holds.ensures.shown h);
      backed = λ h. subst (λ (m : Core _). Backs (replay_numbers g.W.World.numbers m.history) (A.numbers m.table) (A.next m.table)) last (c.holds.ensures.backed h);
      table = c.into_table.ensures ∙ ap (λ (m : Core _). m.table) last;
      source = c.into_parts-mount.ensures.source ∙ ap (λ (d : Desk _ _). d.source) whole;
    }
