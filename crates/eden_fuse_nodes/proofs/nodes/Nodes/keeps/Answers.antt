use Rattle.std.proofs.Common.{subst}
use Rattle.std.specs.BTreeMap.{get}
use Rattle.eden_fuse_nodes.specs.Tables.{Table, IsNodeTable}
use Rattle.eden_fuse_nodes.proofs.Orders.{order}
use Rattle.eden_fuse_nodes.proofs.Changes.{is_table}
use Rattle.eden_fuse_nodes.proofs.nodes.Nodes.keeps.Goals as goal

pub returns : goal.returns
returns c = subst (λ (t : Table). IsNodeTable t) c.self.view_is
    (is_table (get order c.self.inside.places) c.self.inside.nodes.entries c.self.inside.next c.self.invariant)
