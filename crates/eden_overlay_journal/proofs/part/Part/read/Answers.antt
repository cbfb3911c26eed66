use Rattle.std.proofs.Common.{◌≡◌, ◌≤◌, ◌∙◌, ap, arith, drop, length, length-drop, length-take, take}
use Rattle.std.proofs.lemmas.List.{take_all}
use Rattle.eden_overlay_journal.proofs.PartRead.{read_back}
use Rattle.eden_overlay_journal.proofs.part.Part.read.Goals as goal

pub returns-clause-told : goal.returns-clause-told
returns-clause-told c =
    let front = c.in_ok-front.front.now in
    let long : length front ≡ length (take 28 c.args.bytes.now) = ap length c.in_ok-front.ensures.cases.0 in
    let last : length (drop 24 front) ≤ 4 = omega (arith, long, length-drop 24 front, length-take 28 c.args.bytes.now) in
    read_back c.args.bytes.now front c.in_ok-front.middle.now c.copy_from_slice.new.self c.number_at.result c.number_at-2.result c.number_at-3.result record {
      front_is = c.in_ok-front.ensures.cases.0;
      middle_is = c.in_ok-front.ensures.cases.1;
      before_is = c.number_at.ensures;
      at_front_is = c.number_at-2.ensures;
      at_back_is = c.number_at-3.ensures;
      count_is = c.copy_from_slice.ensures.after ∙ take_all 4 (drop 24 front) last;
    }
