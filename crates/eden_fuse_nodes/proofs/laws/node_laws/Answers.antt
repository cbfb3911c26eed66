use Rattle.eden_fuse_nodes.proofs.PathLemmas.{one_path, one_node, learnt_lies, removed_lies_nowhere, renamed_lies_there}
use Rattle.eden_fuse_nodes.proofs.laws.node_laws.Goals as goal

pub returns-clause-one_path : goal.returns-clause-one_path
returns-clause-one_path c = one_path

pub returns-clause-one_node : goal.returns-clause-one_node
returns-clause-one_node c = one_node

pub returns-clause-learnt : goal.returns-clause-learnt
returns-clause-learnt c = learnt_lies

pub returns-clause-removed : goal.returns-clause-removed
returns-clause-removed c = removed_lies_nowhere

pub returns-clause-renamed : goal.returns-clause-renamed
returns-clause-renamed c = renamed_lies_there
