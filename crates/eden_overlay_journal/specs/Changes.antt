-- What a journal says of files by their numbers, and what they are with that over them.
use Rattle.std.specs.Prelude.{ℕ, ◌==◌, List, Option, Some, None, if◌then◌else◌, option_map, IsSome, Contains}
use Rattle.std.specs.Ordering.{nat_cmp}
use Rattle.std.specs.BTreeMap.{BTreeMap, get}
use Rattle.std.specs.declared.alloc.Global.{Global}
use Rattle.std.specs.declared.vec.Vec.{Vec}
use Rattle.eden_overlay_format.specs.declared.header.Head.{Head}
use Rattle.eden_overlay.specs.Files.{Stored, IsHeadOf}

-- of a file: nothing, or what has become of it, where no bytes say that it is gone
abbrev pub Change : Type 0
Change = Option (Option (List ℕ))

-- of each number
abbrev pub Changes : Type 0
Changes = ℕ → Change

-- nothing of any
abbrev pub unchanged : Changes
unchanged = λ _. None

-- the changes, with another one at k
abbrev pub noted : Changes → ℕ → Change → Changes
noted c k w = λ q. if k == q then w else c q

-- what a change makes of a file
abbrev pub over : Change → Option (List ℕ) → Option (List ℕ)
over None file = file
over (Some changed_files) file = changed_files

-- the files with the changes over them
abbrev pub changed_files : Changes → Stored → Stored
changed_files c f = λ q. over (c q) (f q)

-- .. and where a file is stored, those alone
abbrev pub unless_stored : Option (List ℕ) → Changes → Stored → Stored
unless_stored None c f = changed_files c f
unless_stored (Some state) c f = f

-- What an opening finds: a journal is emptied before the state is stored, file 0, so that one beside a state is from before it.
abbrev pub at_opening : Changes → Stored → Stored
at_opening c f = unless_stored (f 0) c f

-- what was had is the head of what a change says, or nothing where it says nothing
abbrev pub IsHeadIn : Change → Option (Option Head) → Type 0
IsHeadIn None None = Unit {0}
IsHeadIn (Some file) (Some head) = IsHeadOf file head
IsHeadIn _ _ = ⊥

-- each number of which something is said
abbrev pub ListsChanges : List ℕ → Changes → Type 0
ListsChanges ks c = (k : ℕ) → IsSome (c k) → Contains ks k

-- the bytes of what was had
abbrev pub bytes_of : Option (Vec ℕ Global) → Option (List ℕ)
bytes_of o = option_map (λ v. v.items) o

abbrev pub change_of : Option (Option (Vec ℕ Global)) → Change
change_of o = option_map bytes_of o

-- what a map says
abbrev pub changes_in : BTreeMap ℕ (Option (Vec ℕ Global)) → Changes
changes_in m = λ q. change_of (get nat_cmp m q)
