use Rattle.std.proofs.Common.{IfSome, subst, sym}
use Rattle.inode_tests.specs.Listings.{IsNewOwn}
use Rattle.inode_tests.proofs.Storable.{may_stand}
use Rattle.inode_tests.proofs.listing.change_open.Goals as goal

pub change_entry-requires : goal.change_entry-requires
change_entry-requires g c =
    let t = c.ask.new.table in
    record {
      may = may_stand _ (g.F.Files.stored t.files) t.root t.next c.args.path.now c.args.name.now c.args.entry c.holds.ensures.table (c.ask.ensures.so cc)
          (subst (λ next. IfSome c.args.entry (IsNewOwn next)) (sym c.ask.ensures.next) c.requires);
    }
