-- What lies at the front of a tree's body.
use Rattle.std.specs.Prelude.{◌≡◌, ℕ, List, ◌++◌}
use Rattle.eden_model.specs.declared.tree_entry.TreeEntry.{TreeEntry}
use Rattle.eden_object.specs.declared.row.Row.{Row}
use Rattle.eden_object.specs.Trees.{IsEntryText, AreEntries}

-- the row's entry
abbrev pub entry_of : Row → TreeEntry
entry_of r = record { mode = r.mode; name = r.name.now; id = r.id }

-- the body begins with this entry, and goes on with the rest
pub record BeginsWith (e : TreeEntry) (body rest : List ℕ) : Type 0 where
  pub text : List ℕ
  pub entry : IsEntryText e text
  pub is : body ≡ text ++ rest

-- the body is a row of entries
abbrev pub HasEntries : List ℕ → Type 0
HasEntries body = (es : List TreeEntry) × AreEntries es body
