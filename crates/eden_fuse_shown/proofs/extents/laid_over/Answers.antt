use Rattle.std.proofs.Common.{◌≡◌, ◌<◌, ◌≤◌, ◌+◌, ◌-◌, ◌++◌, ℕ, List, length, take, ap, ◌∙◌, rules}
use Rattle.eden_model.specs.Operations.{resized}
use Rattle.eden_fuse_shown.proofs.LaidOver.{over_end, same_if}
use Rattle.eden_fuse_shown.proofs.extents.laid_over.Goals as goal

pub returns-then-bytes-room : goal.returns-then-bytes-room
returns-then-bytes-room c =
    let some : 0 < length c.args.bytes.now = search rules in
    let fills : c.args.at + (c.args.count - c.args.at) ≡ c.args.count = search rules in
    let fits : c.args.count - c.args.at ≤ length c.args.bytes.now = search rules in
    let front : c.split_at.result.0.now ≡ take (c.args.count - c.args.at) c.args.bytes.now = search rules in
    same_if c.filled.result (λ v. v.items) (resized c.args.at c.args.part.items ++ c.split_at.result.0.now) _
    (ap (λ (l : List ℕ). resized c.args.at c.args.part.items ++ l) front
    ∙ over_end c.args.at (c.args.count - c.args.at) c.args.count c.args.bytes.now c.args.part.items
    (c.change_laws.ensures.resized_length c.args.at c.args.part.items) some fills fits)
    c.filled.ensures
