use Rattle.std.proofs.Common.{◌∙◌, ℕ, true, sym, subst}
use Rattle.std.specs.Process.{exit_status}
use Rattle.mountd_options.specs.declared.command.HistoryOption.{HistoryOption}
use Rattle.mountd.specs.Runs.{IsRun, copies_of, limit_of}
use Rattle.mountd.proofs.stdio.run.Goals as goal

pub returns-in-Kept : goal.returns-in-Kept
returns-in-Kept g c =
    let settings = c.args.limits.now in
    let status = exit_status c.run_with.result in
    let P : ℕ → Type 0 = λ n. IsRun g.W.World g.F.Files g.S.Source.fetched true n c.args.base settings c.args.backing status in
    let Q : HistoryOption → Type 0 = λ h. IsRun g.W.World g.F.Files g.S.Source.fetched (copies_of h) (limit_of h settings) c.args.base settings c.args.backing status in
    subst Q (sym c.in-Kept.is) (subst P (c.new-history.ensures.limit ∙ c.history.ensures) c.run_with.ensures)
