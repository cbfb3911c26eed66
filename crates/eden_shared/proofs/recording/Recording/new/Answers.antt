use Rattle.std.proofs.Common.{◌≤◌, ◌∙◌, sym, arith}
use Rattle.eden_shared.proofs.Rising.{none_told}
use Rattle.eden_shared.proofs.recording.Recording.new.Goals as goal

pub invariant_of-result : goal.invariant_of-result
invariant_of-result g c =
    let least : c.args.pass.floor ≤ 1 = (let floor = c.floor.ensures in let low = c.if-floor-gt1.false in omega (arith, floor, low)) in
    none_told c.args.pass.told c.args.pass.floor least c.holds.ensures ∙ sym c.new-told.ensures.items
