use Rattle.std.proofs.Common.{rules, ◌≡◌, replicate}
use Rattle.eden_overlay_format.proofs.Listed.{seen_empty}
use Rattle.eden_overlay_format.proofs.listing.Listing.new.Goals as goal

pub returns : goal.returns
returns c =
    let zeros : c.extend_from_slice.new.self.items ≡ replicate 68 0 = search rules in
    seen_empty c.extend_from_slice.new.self.items zeros
