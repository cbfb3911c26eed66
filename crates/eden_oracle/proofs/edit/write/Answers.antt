use Rattle.eden_oracle.specs.Rows.{tree_of}
use Rattle.eden_oracle.proofs.Answering.{patched}
use Rattle.eden_oracle.proofs.edit.write.Goals as goal

pub returns : goal.returns
returns c = patched c.patch.result (tree_of c.args.rows.now) c.args.path.now c.args.offset c.args.bytes.now c.if-bytes-gt-MAX_DATA.false c.patch.ensures
