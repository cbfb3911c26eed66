use Rattle.std.proofs.Common.{Ok, ap, inr}
use Rattle.eden_tree.specs.Directory.{Row}
use Rattle.eden_coupling.specs.Materialising.{owned_along}
use Rattle.eden_inode.proofs.CallerLemmas.{places_same}
use Rattle.eden_ops.proofs.Names.{names_same, fewer_same}
use Rattle.eden_ops.proofs.Owned.{own_names, own_fewer}
use Rattle.eden_ops.proofs.Relocation.{readies_on, readies_err}
use Rattle.eden_ops.proofs.Roots.{root_same, root_owned}
use Rattle.eden_ops.proofs.Stamped.{own_stamps, stamps_same}
use Rattle.eden_ops.proofs.relocate.own_both.Goals as goal

pub returns-in_err-materialise-clause-readies : goal.returns-in_err-materialise-clause-readies
returns-in_err-materialise-clause-readies g c =
    let e = c.in_err-materialise.ensures in
    readies_err g.W.World g.F.Files c.args.inodes.now c.materialise.new.inodes c.from_residual.result c.in_err-materialise.field-0.0 c.from_residual.ensures.0 c.from_residual.ensures.1
    (record {
      shown = e.shown;
      numbers = e.numbers;
      names = names_same c.args.inodes.now.root c.materialise.new.inodes.root e.err;
      fewer = fewer_same c.args.inodes.now.root c.materialise.new.inodes.root e.err;
      stamps = stamps_same c.args.inodes.now.root c.materialise.new.inodes.root e.err;
      marks = e.marks;
      root = root_same c.args.inodes.now.root c.materialise.new.inodes.root e.err;
      fault = e.fault;
      counted = tt;
      next = e.rest.0;
      clock = e.rest.1;
      places = places_same c.args.inodes.now c.materialise.new.inodes e.changes e.names;
    })

pub returns-clause-readies : goal.returns-clause-readies
returns-clause-readies g c =
    let a = c.in_ok-materialise.ensures in
    let b = c.materialise-2.ensures in
    readies_on g.W.World g.F.Files c.args.inodes.now c.materialise.new.inodes c.materialise-2.new.inodes c.materialise-2.result
    (record {
      shown = a.shown;
      numbers = a.numbers;
      names = own_names (Ok tt) c.args.one.now c.args.inodes.now.root c.materialise.new.inodes.root a.ok tt;
      fewer = own_fewer (Ok tt) c.args.one.now c.args.inodes.now.root c.materialise.new.inodes.root a.ok tt;
      stamps = own_stamps (Ok tt) c.args.one.now c.args.inodes.now.root c.materialise.new.inodes.root a.ok tt;
      marks = a.marks;
      root = inr (ap (λ (r : Row). r.origin) a.ok);
      fault = tt;
      counted = a.counted;
      next = a.rest.0;
      clock = a.rest.1;
      places = places_same c.args.inodes.now c.materialise.new.inodes a.changes a.names;
    })
    (record {
      shown = b.shown;
      numbers = b.numbers;
      names = own_names c.materialise-2.result c.args.other.now c.materialise.new.inodes.root c.materialise-2.new.inodes.root b.ok b.err;
      fewer = own_fewer c.materialise-2.result c.args.other.now c.materialise.new.inodes.root c.materialise-2.new.inodes.root b.ok b.err;
      stamps = own_stamps c.materialise-2.result c.args.other.now c.materialise.new.inodes.root c.materialise-2.new.inodes.root b.ok b.err;
      marks = b.marks;
      root = root_owned c.materialise-2.result c.materialise.new.inodes.root
          (owned_along c.args.other.now c.materialise.new.inodes.root) c.materialise-2.new.inodes.root b.ok b.err;
      fault = b.fault;
      counted = b.counted;
      next = b.rest.0;
      clock = b.rest.1;
      places = places_same c.materialise.new.inodes c.materialise-2.new.inodes b.changes b.names;
    })
