use Rattle.std.proofs.Common.{sym, true}
use Rattle.eden_oracle.specs.Changes.{reply_of}
use Rattle.eden_oracle.specs.Rows.{tree_of}
use Rattle.eden_oracle.proofs.Answering.{met_tells}
use Rattle.eden_oracle.proofs.rename.target_going.Goals as goal

pub returns-then-is_dir : goal.returns-then-is_dir
returns-then-is_dir c =
    met_tells (tree_of c.args.rows.now) c.args.to.now c.in-Here.old.now c.args.is_dir true (reply_of c.dir_going.result) (sym c.in-Here.ensures) c.if-is_dir.true c.dir_going.ensures
