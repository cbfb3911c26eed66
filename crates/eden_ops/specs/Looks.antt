-- Requests that change nothing, those that change something at one path, and those that are refused before any look.
use Rattle.std.specs.Prelude.{◌≡◌, ◌<◌, ◌⊎◌, length}
use Rattle.eden_model.specs.declared.request.Request.{Request}
use Rattle.eden_model.specs.declared.request.Request.TheVariants as ask
use Rattle.eden_model.specs.Limits.{most_data, most_entries, most_file, most_target}

abbrev pub IsLook : Request → Type 0
IsLook (ask.Kind p) = Unit {0}
IsLook (ask.Stat p) = Unit {0}
IsLook (ask.Read p offset count) = Unit {0}
IsLook (ask.ReadLink p) = Unit {0}
IsLook (ask.List p after limit) = Unit {0}
IsLook (ask.Write p offset bytes) = ⊥
IsLook (ask.Patch p offset bytes) = ⊥
IsLook (ask.Truncate p size) = ⊥
IsLook (ask.Create p) = ⊥
IsLook (ask.SetExec p exec) = ⊥
IsLook (ask.Mkdir p) = ⊥
IsLook (ask.Symlink p target) = ⊥
IsLook (ask.Unlink p) = ⊥
IsLook (ask.Rmdir p) = ⊥
IsLook (ask.Rename from to) = ⊥

abbrev pub IsChange : Request → Type 0
IsChange (ask.Write p offset bytes) = Unit {0}
IsChange (ask.Patch p offset bytes) = Unit {0}
IsChange (ask.Truncate p size) = Unit {0}
IsChange (ask.Create p) = Unit {0}
IsChange (ask.SetExec p exec) = Unit {0}
IsChange (ask.Mkdir p) = Unit {0}
IsChange (ask.Symlink p target) = Unit {0}
IsChange (ask.Unlink p) = Unit {0}
IsChange (ask.Rmdir p) = Unit {0}
IsChange _ = ⊥

-- it moves no name: none comes, goes or goes elsewhere
abbrev pub MovesNoName : Request → Type 0
MovesNoName (ask.Create p) = ⊥
MovesNoName (ask.Mkdir p) = ⊥
MovesNoName (ask.Symlink p target) = ⊥
MovesNoName (ask.Unlink p) = ⊥
MovesNoName (ask.Rmdir p) = ⊥
MovesNoName (ask.Rename from to) = ⊥
MovesNoName _ = Unit {0}

-- it asks for more than is ever given or taken, or for nothing if something has to be
abbrev pub IsBeyondLimits : Request → Type 0
IsBeyondLimits (ask.Read p offset count) = most_data < count
IsBeyondLimits (ask.List p after limit) = (limit ≡ 0) ⊎ (most_entries < limit)
IsBeyondLimits (ask.Write p offset bytes) = most_data < length bytes
IsBeyondLimits (ask.Patch p offset bytes) = most_file < length bytes
IsBeyondLimits (ask.Symlink p target) = (length target ≡ 0) ⊎ (most_target < length target)
IsBeyondLimits _ = ⊥
