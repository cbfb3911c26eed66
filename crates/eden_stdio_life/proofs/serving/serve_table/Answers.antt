use Rattle.std.proofs.Common.{◌≡◌, ◌≤◌, ◌++◌, ◌∙◌, sym, ap, subst}
use Rattle.eden_model.specs.Backing.{Backs}
use Rattle.eden_model.specs.Histories.{Legal, replay}
use Rattle.eden_model.specs.Numbers.{replay_numbers}
use Rattle.eden_mount.specs.Core.{Core}
use Rattle.eden_mount.specs.Serving.{Desk, IsAtRest}
use Rattle.eden_stdio_life.specs.Serving.{Begins}
use Rattle.eden_stdio_life.proofs.Staying.{Stands, serves_stay, all_told}
use Rattle.eden_stdio_life.proofs.serving.serve_table.Goals as goal

pub returns : goal.returns
returns g c =
    let first : c.new-caller.result.core ≡ c.new-mount.result = ap (λ (d : Desk _ _). d.core) c.new-caller.ensures ∙ c.new.ensures.mount in
    let last : c.into_parts-mount.result.0 ≡ c.serve-said.new.caller.core = c.into_parts-mount.ensures.mount ∙ ap (λ (d : Desk _ _). d.core) c.into_local.ensures in
    let A = g.T.Attempts.table in
    let honest = g.W.World.honest in
    let H = g.H.History in
    let limit = H.limit c.args.history in
    let said = c.serve-said.ensures in
    let stays = serves_stay g.S.Source.fetched A honest H.copies (said.items ++ said.last) said.given c.new-caller.result c.serve-said.new.caller said.served in
    let begins : Begins c.args.room limit c.args.table c.args.source c.new-caller.result = record {
      core = first ∙ c.new-mount.ensures.value;
      source = ap (λ (d : Desk _ _). d.source) c.new-caller.ensures ∙ c.new.ensures.source;
      rest = subst (λ (m : Core _). IsAtRest m) (sym first) c.new-mount.ensures.rest;
    } in
    let some : 1 ≤ c.serve-said.new.caller.core.queue.passes = subst (λ (m : Core _). 1 ≤ m.queue.passes) last c.holds.ensures.queue.some_passes.0 in
    let stands : Stands g.S.Source.fetched A honest H.copies limit c.new-caller.result = record {
      passes = subst (λ n. 1 ≤ n) stays.passes some;
      rest = begins.rest;
      full = ap (λ (m : Core _). m.limit) begins.core;
    } in
    record {
      begun = c.new-caller.result;
      begins = begins;
      ended = c.serve-said.new.caller;
      session = c.serve-said.ensures;
      told = all_told g.S.Source.fetched A honest H.copies limit (said.items ++ said.last) said.given c.new-caller.result c.serve-said.new.caller stands said.served;
      stays = stays;
      legal = λ h. subst (λ (m : Core _). Legal g.W.World.opening g.W.World.numbers m.history) last (c.holds.ensures.legal h);
      shown = λ h. subst (λ (m : Core _). g.T.Attempts.table.shown m.table ≡ replay g.W.World.opening m.history) last (c.holds.ensures.shown h);
      backed = λ h. subst (λ (m : Core _). Backs (replay_numbers g.W.World.numbers m.history) (A.numbers m.table) (A.next m.table)) last (c.holds.ensures.backed h);
      table = c.into_table.ensures ∙ ap (λ (m : Core _). m.table) last;
      source = c.into_parts-mount.ensures.source ∙ ap (λ (d : Desk _ _). d.source) c.into_local.ensures;
    }
