use Rattle.std.proofs.Common.{◌≡◌, ◌≤◌, ◌<◌, ◌-◌, ◌+◌, ◌++◌, ◌∙◌, ap, length, length-take-le, take, rules}
use borrow.Rule.Slice.PartMut.{put_mid}
use Rattle.eden_wire.proofs.Waiting.{read_behind, unread_behind}
use Rattle.eden_wire.proofs.input.Input.read.Goals as goal

pub returns-in-Err : goal.returns-in-Err
returns-in-Err g c =
    let i = c.fill_room.new.self in
    let old = c.as_mut_slice.result.now in
    let whole : i.room.len ≡ length (put_mid i.stop (i.stop + 65536 - i.stop) old c.read.new.buf) = search rules in
    let ordered : i.start ≤ i.stop = search rules in
    let within : i.stop ≤ length i.room.items = search rules in (
      c.in-Err.ensures.bytes,
      unread_behind i.room.items old c.read.new.buf _ _ i.start i.stop _ c.as_mut_slice.ensures.value whole ordered within
          ∙ c.fill_room.ensures.kept ∙ c.make_room.ensures.kept,
    )

pub returns-in-Ok : goal.returns-in-Ok
returns-in-Ok g c =
    let i = c.fill_room.new.self in
    let n = c.in-Ok.n in
    let old = c.as_mut_slice.result.now in
    let buf = c.read.new.buf in
    let whole : i.room.len ≡ length (put_mid i.stop (i.stop + 65536 - i.stop) old buf) = search rules in
    let ordered : i.start ≤ i.stop = search rules in
    let within : i.stop ≤ length i.room.items = search rules in
    let some : n ≤ length buf = search rules in
    let room : 0 < length buf = search rules in
    record {
      piece = take n buf;
      consumed = c.in-Ok.ensures.bytes.0;
      joined = read_behind i.room.items old buf _ _ i.start i.stop _ n c.as_mut_slice.ensures.value whole ordered within some
          ∙ ap (λ l. l ++ take n buf) (c.fill_room.ensures.kept ∙ c.make_room.ensures.kept);
      size = length-take-le n buf some;
      at_end = λ none. c.in-Ok.ensures.bytes.1 none room;
    }
