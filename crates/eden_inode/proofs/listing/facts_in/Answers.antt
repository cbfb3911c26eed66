use Rattle.std.proofs.Common.{◌≡◌, Some, None, ap, ◌∙◌}
use Rattle.eden_tree.specs.Directory.{Row}
use Rattle.eden_inode.specs.Listed.{origin_as}
use Rattle.eden_inode.proofs.OneEntry.{with_origin, none_stored, stored_so}
use Rattle.eden_inode.proofs.listing.facts_in.Goals as goal

pub returns-in-None : goal.returns-in-None
returns-in-None g c = none_stored c.args.listed c.args.name.now c.args.dir.now c.count.ensures.rising c.in-None.ensures

pub returns-in-None-origin_in : goal.returns-in-None-origin_in
returns-in-None-origin_in g c =
    let l = c.args.listed in
    let n = c.args.name.now in
    let x = c.in-Some.entry.now in
    let none : None ≡ origin_as l n x.origin = c.in-None-origin_in.ensures ∙ ap (λ (r : Row). origin_as l n r.origin) c.entry.view_is in
    stored_so l n c.args.dir.now c.count.ensures.rising x c.in-Some.ensures None none

pub returns-in-Some-origin_in : goal.returns-in-Some-origin_in
returns-in-Some-origin_in g c =
    let l = c.args.listed in
    let n = c.args.name.now in
    let x = c.in-Some.entry.now in
    let o = c.in-Some-origin_in.origin in
    let stored : Some o ≡ origin_as l n x.origin = c.in-Some-origin_in.ensures ∙ ap (λ (r : Row). origin_as l n r.origin) c.entry.view_is in
    ap (λ (r : Row). Some (with_origin n r o)) c.entry.view_is ∙ stored_so l n c.args.dir.now c.count.ensures.rising x c.in-Some.ensures (Some o) stored
