use Rattle.std.proofs.Common.{List, ℕ, Some, inl, inr, sym, subst}
use Rattle.eden_fuse_format.specs.Answers.{body_text, error_of}
use Rattle.eden_fuse_format.specs.Asked.{seen}
use Rattle.eden_fuse_session.specs.Turns.{Told, told}
use Rattle.eden_fuse_shown.specs.Showing.{Showing, JoinsOver, Once, WritesAnew}
use Rattle.eden_fuse_shown.proofs.shown.Shown.write_over.Goals as goal

pub returns-then-bridge-clause-writes : goal.returns-then-bridge-clause-writes
returns-then-bridge-clause-writes g c =
    let A = g.M.Mount.answers in
    let between = c.args.between.items in
    let said : Told = Some (error_of c.count.result, body_text c.count.result) in
    inl (subst (λ (x : List ℕ). JoinsOver A c.args.node c.args.offset between x c.args.self.now said c.bridge.new.self) c.data_of-bytes.ensures
    (subst (λ (t : Told). JoinsOver A c.args.node c.args.offset between c.data_of-bytes.result.now c.args.self.now t c.bridge.new.self) (sym c.count.ensures.told)
    (c.bridge.ensures.joins c.if-bridge.true)))

pub returns-clause-writes : goal.returns-clause-writes
returns-clause-writes g c =
    let A = g.M.Mount.answers in
    let Anew = WritesAnew A c.args.node c.args.offset (seen c.args.operation.now) in
    let told_it = told c.write_after.result c.write_after.new.room.items in
    inr (subst (λ (s : Showing g.row.M.Denot). Once A (Some c.args.node) Anew s told_it c.write_after.new.self) (c.bridge.ensures.same c.if-bridge.false)
    c.write_after.ensures.writes)
