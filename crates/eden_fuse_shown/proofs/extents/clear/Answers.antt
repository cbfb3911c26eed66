use Rattle.std.proofs.Common.{ℕ, ◌+◌, ◌∙◌, ap, sym}
use Rattle.eden_fuse_shown.specs.Waiting.{all_of}
use Rattle.eden_fuse_shown.proofs.Amounts.{all_cleared}
use Rattle.eden_fuse_shown.proofs.extents.clear.Goals as goal

pub returns-in-Some-clause-less : goal.returns-in-Some-clause-less
returns-in-Some-clause-less c =
    ap (λ (n : ℕ). all_of c.remove.new.self.entries + n) c.len.ensures
    ∙ all_cleared c.args.extents.now.entries c.remove.new.self.entries c.args.node c.in-Some.extent (sym c.in-Some.ensures.value) c.in-Some.ensures.entries
