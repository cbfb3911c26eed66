-- What each change of the table does, path by path and byte by byte.
use Rattle.std.specs.Prelude.{◌↔◌}
use Rattle.std.specs.Prelude.{◌≡◌, ◌≢◌, ◌<◌, ◌≤◌, ◌+◌, ◌-◌, ◌⊎◌, ℕ, Bool, true, false, max, List, [], ◌∷◌, ◌++◌, length, take, drop, get_or, Option, Some, None}
use Rattle.eden_model.specs.declared.node.Node.TheVariants.{File, Link, Dir}
use Rattle.eden_model.specs.declared.request.Request.{Request}
use Rattle.eden_model.specs.declared.request.Request.TheVariants as ask
use Rattle.eden_model.specs.declared.reply.Reply.{Reply}
use Rattle.eden_model.specs.declared.reply.Reply.TheVariants as say
use Rattle.eden_model.specs.Limits.{most_data}
use Rattle.eden_model.specs.Trees.{Path, Tree, node_at}
use Rattle.eden_model.specs.Requests.{paths_of}
use Rattle.eden_model.specs.Operations.{Replies, after, is_front, written, resized}

-- a request for one path changes nothing elsewhere
abbrev pub OthersStay : Type 0
OthersStay = (F : Tree) (q : Request) (r : Reply) (p x : Path) → paths_of q ≡ p ∷ [] → x ≢ p
    → node_at (after F q r) x ≡ node_at F x

-- what puts bytes into a file, from an offset on
abbrev pub Putting : Type 0
Putting = Path → ℕ → List ℕ → Request

abbrev pub writes : Putting
writes p offset bytes = ask.Write p offset bytes

abbrev pub patches : Putting
patches p offset bytes = ask.Patch p offset bytes

-- a file's content after it
abbrev pub PutSets : Putting → Type 0
PutSets puts = (F : Tree) (p : Path) (offset count : ℕ) (bytes old : List ℕ) (x : Bool)
    → node_at F p ≡ Some (File x (Some old))
    → node_at (after F (puts p offset bytes) (say.Count count)) p ≡ Some (File x (Some (written offset bytes old)))

abbrev pub WriteSets : Type 0
WriteSets = PutSets writes

abbrev pub PatchSets : Type 0
PatchSets = PutSets patches

-- a patch that a write has room for is that write
abbrev pub PatchIsWrite : Type 0
PatchIsWrite = (F : Tree) (p : Path) (offset : ℕ) (bytes : List ℕ) (r : Reply) → length bytes ≤ most_data
    → (Replies F (ask.Patch p offset bytes) r ↔ Replies F (ask.Write p offset bytes) r)
    × (after F (ask.Patch p offset bytes) r ≡ after F (ask.Write p offset bytes) r)

-- byte by byte: the data where it lies, and elsewhere the old bytes; what is past the end reads as 0, so a gap is zeros
abbrev pub DataIsWritten : Type 0
DataIsWritten = (offset i : ℕ) (bytes old : List ℕ) → offset ≤ i → i < offset + length bytes
    → get_or (written offset bytes old) i 0 ≡ get_or bytes (i - offset) 0

abbrev pub OldBytesStay : Type 0
OldBytesStay = (offset i : ℕ) (bytes old : List ℕ) → (i < offset) ⊎ (offset + length bytes ≤ i)
    → get_or (written offset bytes old) i 0 ≡ get_or old i 0

abbrev pub WrittenLength : Type 0
WrittenLength = (offset : ℕ) (bytes old : List ℕ) → 0 < length bytes
    → length (written offset bytes old) ≡ max (length old) (offset + length bytes)

-- a file's content after it is cut or filled, and none is left of a lost one
abbrev pub TruncateSets : Type 0
TruncateSets = (F : Tree) (p : Path) (size : ℕ) (old : List ℕ) (x : Bool) → node_at F p ≡ Some (File x (Some old))
    → node_at (after F (ask.Truncate p size) say.Ok) p ≡ Some (File x (Some (resized size old)))

abbrev pub TruncateEmpties : Type 0
TruncateEmpties = (F : Tree) (p : Path) (c : Option (List ℕ)) (x : Bool) → node_at F p ≡ Some (File x c)
    → node_at (after F (ask.Truncate p 0) say.Ok) p ≡ Some (File x (Some []))

abbrev pub ResizedBytes : Type 0
ResizedBytes = (size i : ℕ) (old : List ℕ) → i < size → get_or (resized size old) i 0 ≡ get_or old i 0

abbrev pub ResizedLength : Type 0
ResizedLength = (size : ℕ) (old : List ℕ) → length (resized size old) ≡ size

abbrev pub SetExecSets : Type 0
SetExecSets = (F : Tree) (p : Path) (x exec : Bool) (c : Option (List ℕ)) → node_at F p ≡ Some (File x c)
    → node_at (after F (ask.SetExec p exec) say.Ok) p ≡ Some (File exec c)

-- what is new, or gone
abbrev pub CreateAdds : Type 0
CreateAdds = (F : Tree) (p : Path) → node_at (after F (ask.Create p) say.Ok) p ≡ Some (File false (Some []))

abbrev pub MkdirAdds : Type 0
MkdirAdds = (F : Tree) (p : Path) → node_at (after F (ask.Mkdir p) say.Ok) p ≡ Some (Dir true)

abbrev pub SymlinkAdds : Type 0
SymlinkAdds = (F : Tree) (p : Path) (target : List ℕ) → node_at (after F (ask.Symlink p target) say.Ok) p ≡ Some (Link (Some target))

abbrev pub UnlinkTakesAway : Type 0
UnlinkTakesAway = (F : Tree) (p : Path) → node_at (after F (ask.Unlink p) say.Ok) p ≡ None

abbrev pub RmdirTakesAway : Type 0
RmdirTakesAway = (F : Tree) (p : Path) → node_at (after F (ask.Rmdir p) say.Ok) p ≡ None

-- a rename of two different paths: what stood behind the one stands behind the other
abbrev pub RenameMoves : Type 0
RenameMoves = (F : Tree) (from to rest : Path) → from ≢ to
    → node_at (after F (ask.Rename from to) say.Ok) (to ++ rest) ≡ node_at F (from ++ rest)

-- nothing is left behind the old one
abbrev pub RenameLeavesNothing : Type 0
RenameLeavesNothing = (F : Tree) (from to x : Path) → from ≢ to → Replies F (ask.Rename from to) say.Ok → is_front from x ≡ true
    → node_at (after F (ask.Rename from to) say.Ok) x ≡ None

-- every other path stays
abbrev pub RenameKeeps : Type 0
RenameKeeps = (F : Tree) (from to x : Path) → is_front from x ≡ false → is_front to x ≡ false
    → node_at (after F (ask.Rename from to) say.Ok) x ≡ node_at F x

-- a read after it has the bytes of the written content
abbrev pub PutReadsBack : Putting → Type 0
PutReadsBack puts = (F : Tree) (p : Path) (offset n from count : ℕ) (bytes old : List ℕ) (x : Bool)
    → node_at F p ≡ Some (File x (Some old)) → count ≤ most_data
    → Replies F (puts p offset bytes) (say.Count n)
    → Replies (after F (puts p offset bytes) (say.Count n)) (ask.Read p from count)
    (say.Data (take count (drop from (written offset bytes old))))

abbrev pub ReadsBack : Type 0
ReadsBack = PutReadsBack writes

abbrev pub PatchReadsBack : Type 0
PatchReadsBack = PutReadsBack patches
