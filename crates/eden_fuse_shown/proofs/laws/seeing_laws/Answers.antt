use Rattle.eden_fuse_shown.proofs.BridgeLaws.{bridges_as_written, looks_unseen}
use Rattle.eden_fuse_shown.proofs.PartsSeen.{lengths_as_seen, parts_as_seen}
use Rattle.eden_fuse_shown.proofs.Seen.{lies_as_told}
use Rattle.eden_fuse_shown.proofs.SeenLaws.{waits_as_written, stores_unseen, is_there_once_stored}
use Rattle.eden_fuse_shown.proofs.Syncing.{is_synced_as_seen}
use Rattle.eden_fuse_shown.proofs.laws.seeing_laws.Goals as goal

pub returns-clause-lies : goal.returns-clause-lies
returns-clause-lies g c = lies_as_told

pub returns-clause-waits : goal.returns-clause-waits
returns-clause-waits g c = λ tree. waits_as_written g.M.Mount.answers tree c.node_laws.ensures.one_node c.node_laws.ensures.one_path
    c.change_laws.ensures.data_is_written c.change_laws.ensures.old_bytes_stay c.change_laws.ensures.written_length

pub returns-clause-looks : goal.returns-clause-looks
returns-clause-looks g c = λ tree. looks_unseen g.M.Mount.answers tree c.node_laws.ensures.one_node c.node_laws.ensures.one_path
    c.change_laws.ensures.data_is_written c.change_laws.ensures.old_bytes_stay c.change_laws.ensures.written_length
    c.change_laws.ensures.resized_bytes c.change_laws.ensures.resized_length

pub returns-clause-bridges : goal.returns-clause-bridges
returns-clause-bridges g c = λ tree. bridges_as_written g.M.Mount.answers tree c.node_laws.ensures.one_node c.node_laws.ensures.one_path
    c.change_laws.ensures.data_is_written c.change_laws.ensures.old_bytes_stay c.change_laws.ensures.written_length
    c.change_laws.ensures.resized_bytes c.change_laws.ensures.resized_length

pub returns-clause-stores : goal.returns-clause-stores
returns-clause-stores g c = λ tree. stores_unseen g.M.Mount.answers tree c.node_laws.ensures.one_node c.node_laws.ensures.one_path
    c.change_laws.ensures.data_is_written c.change_laws.ensures.old_bytes_stay c.change_laws.ensures.written_length

pub returns-clause-stored : goal.returns-clause-stored
returns-clause-stored g c = λ tree. is_there_once_stored g.M.Mount.answers tree c.node_laws.ensures.one_node c.node_laws.ensures.one_path
    c.change_laws.ensures.data_is_written c.change_laws.ensures.old_bytes_stay c.change_laws.ensures.written_length

pub returns-clause-synced : goal.returns-clause-synced
returns-clause-synced g c = λ tree. is_synced_as_seen g.M.Mount.answers g.M.Mount.syncs tree c.node_laws.ensures.one_node c.node_laws.ensures.one_path
    c.change_laws.ensures.data_is_written c.change_laws.ensures.old_bytes_stay c.change_laws.ensures.written_length

pub returns-clause-lengths : goal.returns-clause-lengths
returns-clause-lengths g c = lengths_as_seen c.change_laws.ensures.written_length

pub returns-clause-parts : goal.returns-clause-parts
returns-clause-parts g c = parts_as_seen c.change_laws.ensures.data_is_written c.change_laws.ensures.old_bytes_stay c.change_laws.ensures.written_length
