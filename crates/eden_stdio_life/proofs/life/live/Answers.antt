use Rattle.std.proofs.Common.{◌≡◌, ◌∙◌, Result, sym, ap, subst}
use Rattle.eden_model.specs.Histories.{replay}
use Rattle.eden_model.specs.Numbers.{replay_numbers}
use Rattle.eden_mount.specs.Core.{Core}
use Rattle.eden_mount.specs.Settings.{Room}
use Rattle.eden_checkout.specs.Checkouts.{Checkout}
use Rattle.eden_wire.specs.Serving.{Known}
use Rattle.eden_stdio_life.specs.declared.fault.LifeFault.{LifeFault}
use Rattle.eden_stdio_life.specs.Inside.{IsLivedInside, LivesInsideBy}
use Rattle.eden_stdio_life.specs.Opening.{IsOpened}
use Rattle.eden_stdio_life.specs.Serving.{Begins}
use Rattle.eden_stdio_life.proofs.CallerLemmas.{backs_as, closes_after}
use Rattle.eden_stdio_life.proofs.Living.{lived}
use Rattle.eden_stdio_life.proofs.Seeing.{lives_seen}
use Rattle.eden_stdio_life.proofs.life.live.Goals as goal

pub returns-in-Ok-clause-inside : goal.returns-in-Ok-clause-inside
returns-in-Ok-clause-inside g c =
    let w = g.W.World in
    let f = g.F.Files in
    let H = g.H.History in
    let limit = H.limit c.args.history in
    let settings = c.args.config.now in
    let input : Known × Known = (g.R.Read.remaining c.args.reader.now, g.R.Read.remaining c.serve_table-served.new.reader) in
    let output : Known × Known = (g.O.Write.contents c.args.writer.now, g.O.Write.contents c.serve_table-served.new.writer) in
    let left = c.end.result in
    let x = c.serve_table-served.result in
    let s = c.serve_table-served.ensures in
    let table : s.begun.core.table ≡ c.in-Ok.table = ap (λ (m : Core _). m.table) s.begins.core in
    let root : s.ended.core.table.root ≡ c.args.base.root = s.stays.commit ∙ ap (λ (t : Checkout _). t.root) table ∙ c.in-Ok.ensures.opened.commit in
    let N = replay_numbers w.numbers s.ended.core.history in
    let ends = c.end.ensures N (backs_as w f N x.table s.ended.core.table s.table s.backed) in
    let whole : IsLivedInside w f g.S.Source.fetched H.copies limit c.args.base settings c.args.backing input output left = record {
      begun = s.begun;
      begins = subst (λ (r : Room). Begins r limit s.begun.core.table c.args.backing.source s.begun) c.in-Ok.ensures.room
          (subst (λ (t : Checkout _). Begins c.in-Ok.room limit t c.args.backing.source s.begun) (sym table) s.begins);
      opened = subst (λ (t : Checkout _). IsOpened w f c.args.base settings c.args.backing.files t) (sym table) c.in-Ok.ensures.opened;
      ended = s.ended;
      said = x.said;
      session = s.session;
      told = s.told;
      stays = s.stays;
      legal = s.legal;
      ends = record {
        files = closes_after w f c.args.base.root x.table s.ended.core.table (replay w.opening s.ended.core.history) N s.table root s.shown left.unclosed left.backing.files ends.files;
        source_left = ends.source_left ∙ s.source;
        told = ends.told;
      };
    } in
    subst (λ (o : Result (Unit {0}) LifeFault). LivesInsideBy w f g.S.Source.fetched H.copies limit o c.args.base settings c.args.backing input output left) (sym ends.told)
    (lived w f g.S.Source.fetched H.copies limit c.args.base settings c.args.backing input output left x.said left.unclosed whole)

pub returns-in-Ok-clause-lives : goal.returns-in-Ok-clause-lives
returns-in-Ok-clause-lives g c =
    let input : Known × Known = (g.R.Read.remaining c.args.reader.now, g.R.Read.remaining c.serve_table-served.new.reader) in
    let output : Known × Known = (g.O.Write.contents c.args.writer.now, g.O.Write.contents c.serve_table-served.new.writer) in
    lives_seen g.W.World g.F.Files g.S.Source.fetched g.H.History.copies (g.H.History.limit c.args.history) c.args.base c.args.config.now c.args.backing input output c.end.result
    (returns-in-Ok-clause-inside g c)
