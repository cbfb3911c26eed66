use Rattle.std.proofs.Common.{◌≡◌, ◌<◌, length, refl, arith}
use Rattle.eden_coupling.specs.Listings.{listing_of, stored_entry}
use Rattle.eden_inode.proofs.Compared.{same_list, longer}
use Rattle.eden_inode.proofs.numbers.has_listing.Goals as goal

pub returns : goal.returns
returns g c =
    let rows = c.args.dir.now.rows in
    let es = c.args.entries.now in
    let all = longer stored_entry rows in
    let long : length (listing_of c.args.dir.now) ≡ length es = omega (arith, all, c.if-entries-count.false, c.count.ensures.value) in (
      (λ yes. same_list (listing_of c.args.dir.now) es long (λ j within.
          let before : j < c.loop-i.i = omega (arith, within, all, c.count-i-end.ensures.value, c.loop-i-test.false, c.loop-i.auto.i-end) in
          c.loop-i.invariant j before)),
      (λ is. refl),
    )
