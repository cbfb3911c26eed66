-- What the oracle does: a tree and its numbers, kept as rows, that go on by the table.
use Rattle.std.specs.Prelude.{◌≡◌, Bool, true, false, List, Option, Some, None}
use Rattle.eden_model.specs.declared.node.Node.{Node}
use Rattle.eden_model.specs.declared.request.Request.{Request}
use Rattle.eden_model.specs.declared.reply.Reply.{Reply}
use Rattle.eden_model.specs.Trees.{Path}
use Rattle.eden_model.specs.Operations.{Replies, after}
use Rattle.eden_model.specs.Numbers.{stat_number, after_numbers, AllowsStat}
use Rattle.eden_oracle.specs.Rows.{tree_of}
use Rattle.eden_oracle.specs.Numbers.{Kept, numbers_of, TellsLeast}

-- nodes, and the numbers beside them
pub record Table : Type 0 where
  pub rows : List (Path × Node)
  pub numbers : Kept

-- the reply is one that the table gives, and its number one that may be told
abbrev pub May : Table → Request → Reply → Type 0
May t q r = Replies (tree_of t.rows) q r × AllowsStat (numbers_of t.numbers) (stat_number q r)

-- .. and the rows show the tree and the numbers after it
pub record Goes (old new : Table) (q : Request) (r : Reply) : Type 0 where
  pub may : May old q r
  pub tree : tree_of new.rows ≡ after (tree_of old.rows) q r
  pub numbers : numbers_of new.numbers ≡ after_numbers (numbers_of old.numbers) q r

-- the reply is such a one, with the least number that is left where it may be any; or there is none, and nothing changes
abbrev pub Steps : Table → Table → Request → Option Reply → Type 0
Steps old new q None = (new ≡ old) × ((r : Reply) → ¬ May old q r)
Steps old new q (Some r) = Goes old new q r × TellsLeast (numbers_of old.numbers) (stat_number q r)

-- whether the reply is such a one; where it isn't, nothing changes
abbrev pub Judges : Table → Table → Request → Reply → Bool → Type 0
Judges old new q r true = Goes old new q r
Judges old new q r false = (new ≡ old) × ¬ May old q r
