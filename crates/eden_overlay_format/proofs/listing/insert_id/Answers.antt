use Rattle.std.proofs.Common.{rules, ◌≡◌, length, take, drop}
use Rattle.eden_overlay_format.proofs.Listed.{inserted}
use Rattle.eden_overlay_format.proofs.listing.insert_id.Goals as goal

pub returns : goal.returns
returns c =
    let file = c.put_id.new.out.items in
    let long : c.put_id.new.out.len ≡ length file = search rules in
    let front : c.split_at_mut-body.result.0.now ≡ take 64 file = search rules in
    let behind : c.split_at_mut-body.result.1.now ≡ drop 64 file = search rules in
    inserted c.args.file.now.items c.args.id.bytes file c.requires c.in_ok-put_id.ensures.len c.in_ok-put_id.ensures.ok c.split_at_mut-body.result.0.now c.split_at_mut-body.result.1.now
    c.rotate_right.new.self c.put_id.new.out.len long front behind c.rotate_right.ensures.after
