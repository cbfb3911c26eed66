use Rattle.std.proofs.Common.{◌∙◌, sym}
use Rattle.eden_oracle.proofs.Answering.{empty_write, no_items}
use Rattle.eden_oracle.proofs.edit.patch_node.Goals as goal

pub returns-then-is_empty : goal.returns-then-is_empty
returns-then-is_empty c = empty_write c.args.offset c.args.bytes.now c.args.node.now c.args.path.now c.in-File.exec c.in-File.content c.in-File.is
    (no_items c.args.bytes.now (sym c.is_empty.ensures ∙ c.if-is_empty.true))
