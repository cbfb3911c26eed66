use Rattle.std.proofs.Common.{◌∙◌, ℕ, sym, subst}
use Rattle.std.specs.Process.{exit_status}
use Rattle.mountd_options.specs.declared.command.HistoryOption.{HistoryOption}
use Rattle.mountd.specs.Runs.{IsSharedFolderRun, limit_of}
use Rattle.mountd.proofs.shared_folder.run.Goals as goal

pub returns-in-Kept : goal.returns-in-Kept
returns-in-Kept g c =
    let settings = c.args.limits.now in
    let P : ℕ → Type 0 = λ n. IsSharedFolderRun g.W.World g.F.Files g.V.Receiver g.O.Sender (g.G.Lines.comes c.args.lines.now) n c.args.base settings c.args.backing.files
    c.args.look.manner (exit_status c.run_with.result) in
    let Q : HistoryOption → Type 0 = λ h. P (limit_of h settings) in
    subst Q (sym c.in-Kept.is) (subst P (c.new-history.ensures.limit ∙ c.history.ensures) c.run_with.ensures)
